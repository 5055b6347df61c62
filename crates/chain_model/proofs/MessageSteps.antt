-- How a member that takes a message, whichever it is, keeps what its chain stands for: lemmas.
use Rattle.std.proofs.Common.{◌≡◌, ℕ, suc, ◌+◌, ◌<◌, ◌≤◌, max, false, Option, Some, None, List, [], ◌∷◌, ◌++◌, refl, sym, ◌∙◌, ap, subst, inl, inr, arith}
use Rattle.std.specs.Prelude.{is_some, nat_le, nat_lt}
use Rattle.std.proofs.lemmas.Bool.{cases_Bool, cond-false, cond-true}
use Rattle.std.proofs.lemmas.Bool.Decides.{nat_tests}
use Rattle.version_table.specs.declared.kept.Origin.{Origin}
use Rattle.volume.specs.Writes.{Placed}
use Rattle.chain_steps.specs.Node.{Delivery, NodeState, Refused, Stepped, Taken, epoch_of, is_stopped, last_of}
use Rattle.chain_steps.specs.Steps.{ack, apply, deliver, is_full, know, put, silent, stop, take_message, take_turn, turn}
use Rattle.chain_steps.specs.declared.cause.Cause.{Cause}
use Rattle.chain_steps.specs.declared.cause.Cause.TheVariants.{Disorder}
use Rattle.chain_steps.specs.declared.message.Envelope.{Envelope}
use Rattle.chain_steps.specs.declared.message.Message.{Message}
use Rattle.chain_steps.specs.declared.message.Message.TheVariants as messages
use Rattle.world_model.specs.Chain.{ArePutOut}
use Rattle.world_model.specs.Event.{ClientEvent}
use Rattle.world_model.specs.Machine.{Plays}
use Rattle.chain_model.specs.Chain.{Belongs, MembersStand}
use Rattle.chain_model.specs.Laws.{HasPassed, TakesMessage, with_members}
use Rattle.chain_model.proofs.Linking.{first_proper}
use Rattle.chain_model.proofs.MemberSteps.{reach}
use Rattle.chain_model.proofs.Ordering.{sends_nothing}
use Rattle.chain_model.proofs.PassingSteps.{knows_of}
use Rattle.chain_model.proofs.PutSteps.{applies_put, drops_old, not_further, passes_put, passes_turn, takes_turn}
use Rattle.chain_model.specs.View.{Member, View, slot_of, stamped_in}

-- ---- answers of a step

pub runs_on : (stopped : Option Cause) → is_some stopped ≡ false → stopped ≡ None
runs_on None is = refl
runs_on (Some cause) is = absurd cc

abbrev got : Stepped → Delivery → Stepped
got other (Taken stepped) = stepped
got other (Refused number) = other

pub same_step : (one other : Stepped) → Taken one ≡ Taken other → one ≡ other
same_step one other is = ap (got one) is

-- A step that a message brings about is that of an older one, which is dropped, or of one of the member's own epoch.
pub taken_step : (P : Stepped → Type 0) (from : ℕ) (envelope : Envelope) (node : NodeState) (stepped : Stepped) → deliver from envelope node ≡ Taken stepped
    → (node.stopped ≡ None → envelope.epoch < epoch_of node → P (silent node)) → (node.stopped ≡ None → envelope.epoch ≡ epoch_of node → take_message from envelope.message node ≡ Taken stepped → P stepped) → P stepped
taken_step P from envelope node stepped taken old now = elim (cases_Bool (is_stopped node)) [
  | inl stopped ↦ let no : Refused 154 ≡ Taken stepped = rw stopped at taken in absurd cc
  | inr running ↦ elim (cases_Bool (nat_lt envelope.epoch (epoch_of node))) [
    | inl before ↦
        let same : Taken (silent node) ≡ Taken stepped = rw (running, before) at taken in
        subst P (same_step (silent node) stepped same) (old (runs_on node.stopped running) (grind (arith, nat_tests)))
    | inr not_before ↦ elim (cases_Bool (nat_lt (epoch_of node) envelope.epoch)) [
      | inl after ↦ let no : Refused 152 ≡ Taken stepped = rw (running, not_before, after) at taken in absurd cc
      | inr not_after ↦
          let same : take_message from envelope.message node ≡ Taken stepped = rw (running, not_before, not_after) at taken in
          now (runs_on node.stopped running) (grind (arith, nat_tests)) same
    ]
  ]
]

module _ (size : ℕ) (v : View) (above : List Member) (m : Member) (below : List Member) (from : ℕ) (envelope : Envelope) (links : ℕ → ℕ → List Envelope) (events : List ClientEvent) where
  -- with this step, clients see the events
  abbrev IsGood : Stepped → Type 0
  IsGood stepped = HasPassed from (slot_of m) envelope stepped.out.messages v.links links → ArePutOut stepped.out.replies events
      → Plays size (MembersStand size (with_members v (above ++ m ∷ below))) (MembersStand size (record v { members = above ++ record m { node = stepped.node } ∷ below; links = links })) events

  -- of a step that changes nothing
  silently : (HasPassed from (slot_of m) envelope [] v.links links → Plays size (MembersStand size (with_members v (above ++ m ∷ below))) (MembersStand size (record v { members = above ++ m ∷ below; links = links })) []) → IsGood (silent m.node)
  silently plays has out =
      subst (Plays size (MembersStand size (with_members v (above ++ m ∷ below))) (MembersStand size (record v { members = above ++ m ∷ below; links = links }))) (sym out) (plays has)

  module _ (runs : m.node.stopped ≡ None) where
    old_one : envelope.epoch < epoch_of m.node → IsGood (silent m.node)
    old_one before = silently (λ has. drops_old size v above m below runs from envelope links before has)

    module _ (now : envelope.epoch ≡ epoch_of m.node) where
      put_one : (n : ℕ) (origin : Origin) (write : Placed) (stepped : Stepped) → envelope.message ≡ messages.Put n origin write → put n origin write m.node ≡ Taken stepped → IsGood stepped
      put_one n origin write stepped is taken = elim (cases_Bool (nat_le n (last_of m.node))) [
        | inl has_it ↦
            let same : Taken (silent m.node) ≡ Taken stepped = rw has_it at taken in
            subst IsGood (same_step (silent m.node) stepped same) (silently (λ has. passes_put size v above m below runs from envelope links now n origin write is (grind (arith, nat_tests)) has))
        | inr new_one ↦ elim (cases_Bool (nat_lt (last_of m.node + 1) n)) [
          | inl further ↦
              let same : Taken (stop Disorder m.node) ≡ Taken stepped = rw (new_one, further) at taken in
              subst IsGood (same_step (stop Disorder m.node) stepped same) (λ has out s stands.
              let near : n ≤ suc (last_of m.node) = not_further size v above m below runs from envelope links now n origin write is (record m { node = (stop Disorder m.node).node }) refl [] [] (sends_nothing m.node) has s stands in
              let far : last_of m.node + 1 < n = grind (arith, nat_tests) in absurd (omega arith))
          | inr next ↦ elim (cases_Bool (is_full write m.node)) [
            | inl full ↦ let no : Refused 153 ≡ Taken stepped = rw (new_one, next, full) at taken in absurd cc
            | inr room ↦
                let same : Taken (apply n origin write m.node) ≡ Taken stepped = rw (new_one, next, room) at taken in
                let above_it : last_of m.node < n = grind (arith, nat_tests) in
                let near : n ≤ last_of m.node + 1 = grind (arith, nat_tests) in
                subst IsGood (same_step (apply n origin write m.node) stepped same)
                (λ has out. subst (Plays size (MembersStand size (with_members v (above ++ m ∷ below))) (MembersStand size (record v { members = above ++ record m { node = (apply n origin write m.node).node } ∷ below; links = links }))) (sym out)
                (applies_put size v above m below runs from envelope links now n origin write is (omega arith) has))
          ]
        ]
      ]

      ack_one : (front : ℕ) (stepped : Stepped) → envelope.message ≡ messages.Ack front → Taken (ack front m.node) ≡ Taken stepped → IsGood stepped
      ack_one front stepped is taken has out s (line, backed, stands) =
          let (within, belongs) = first_proper v.recorded v.before v.told.front from (slot_of m) envelope v.links has.between v.submits has.taken stands.links in
          let committed : front ≤ v.told.front = subst (Belongs v.recorded v.before v.told.front envelope.epoch from (slot_of m)) is belongs in
          let reached = reach size v above m below s line backed runs stands in
          elim (cases_Bool (nat_lt (last_of m.node) front)) [
            | inl further ↦ let far : last_of m.node < front = grind (arith, nat_tests) in absurd (omega (arith, reached.has))
            | inr near ↦
                let same : Taken (know front (max m.node.known front) m.node) ≡ Taken stepped = rw near at taken in
                let step : know front (max m.node.known front) m.node ≡ stepped = same_step (know front (max m.node.known front) m.node) stepped same in
                let more : max m.node.known front ≡ max m.node.known (max m.node.known front) = omega arith in
                let none : stamped_in envelope ≡ [] = ap (λ (x : Message). stamped_in (record { epoch = envelope.epoch; message = x })) is in
                subst IsGood step (λ it replies. knows_of size v above m below runs front (max m.node.known front) links events committed (omega (arith, reached.known)) more replies from envelope none it) has out s (line, backed, stands)
          ]

      turn_one : (last : ℕ) (stepped : Stepped) → envelope.message ≡ messages.Turn last → Taken (take_turn m.node) ≡ Taken stepped → IsGood stepped
      turn_one last stepped is taken = elim (cases_Bool m.node.turned) [
        | inl turned ↦
            let same : Taken (silent m.node) ≡ Taken stepped = ap Taken (sym (cond-true m.node.turned (silent m.node) (turn m.node) turned)) ∙ taken in
            subst IsGood (same_step (silent m.node) stepped same) (silently (λ has. passes_turn size v above m below runs from envelope links now last is turned has))
        | inr unturned ↦
            let same : Taken (turn m.node) ≡ Taken stepped = ap Taken (sym (cond-false m.node.turned (silent m.node) (turn m.node) unturned)) ∙ taken in
            subst IsGood (same_step (turn m.node) stepped same) (λ has out. takes_turn size v above m below runs from envelope links now last is events unturned has out)
      ]

      one_of : (message : Message) (stepped : Stepped) → envelope.message ≡ message → take_message from message m.node ≡ Taken stepped → IsGood stepped
      one_of (messages.Put n origin write) stepped is taken = put_one n origin write stepped is taken
      one_of (messages.Ack front) stepped is taken = ack_one front stepped is taken
      one_of (messages.Turn last) stepped is taken = turn_one last stepped is taken
      one_of (messages.Submit ticket write) stepped is taken = λ has out s (line, backed, stands).
          let (within, belongs) = first_proper v.recorded v.before v.told.front from (slot_of m) envelope v.links has.between v.submits has.taken stands.links in
          absurd (subst (Belongs v.recorded v.before v.told.front envelope.epoch from (slot_of m)) is belongs)

  delivers : (stepped : Stepped) → deliver from envelope m.node ≡ Taken stepped → IsGood stepped
  delivers stepped taken = taken_step IsGood from envelope m.node stepped taken (λ runs before. old_one runs before) (λ runs now is. one_of runs now envelope.message stepped refl is)

-- a member takes a message from a chain link
pub takes_message : TakesMessage
takes_message size v above m below from envelope stepped links events taken has out = delivers size v above m below from envelope links events stepped taken has out
