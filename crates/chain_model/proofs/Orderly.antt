-- That no message and no front comes which no chain has, so that no member stops because of one: lemmas for the crate that runs the members.
use Rattle.std.proofs.Common.{if◌then◌else◌, ◌≡◌, ◌≢◌, ◌⊎◌, ℕ, suc, ◌+◌, ◌<◌, ◌≤◌, ◌==◌, max, false, Option, None, Some, List, [], ◌∷◌, ◌++◌, refl, sym, ◌∙◌, ap, subst, inl, inr, arith}
use Rattle.std.specs.Prelude.{All, is_some, nat_le, nat_lt}
use Rattle.std.specs.List.{flat_map}
use Rattle.std.proofs.lemmas.Bool.{cases_Bool, cases_eq, cond-false, cond-true, eq-eqb, ne_eqb, true≢false}
use Rattle.std.proofs.lemmas.Bool.Decides.{nat_tests}
use Rattle.std.proofs.lemmas.List.{append-nil}
use Rattle.std.proofs.lemmas.List.Elements.{All-head}
use Rattle.board.specs.Seats.{FoundFront}
use Rattle.configurations.specs.Record.{Record}
use Rattle.version_table.specs.declared.kept.Origin.{Origin}
use Rattle.volume.specs.Writes.{Placed}
use Rattle.chain_steps.specs.Node.{NodeState, Refused, Stepped, Taken, epoch_of, is_stopped, last_of}
use Rattle.chain_steps.specs.Place.{head_of, incarnation_in, is_head}
use Rattle.chain_steps.specs.Steps.{ack, apply, deliver, is_full, know, number, number_from, origin_of, put, silent, stop, take_message, take_turn, turn}
use Rattle.chain_steps.specs.declared.cause.Cause.TheVariants as causes
use Rattle.chain_steps.specs.declared.cause.Cause.TheVariants.{Disorder}
use Rattle.chain_steps.specs.declared.found.Found.{Found}
use Rattle.chain_steps.specs.declared.found.Found.TheVariants.{Looked, Raised}
use Rattle.chain_steps.specs.declared.message.Envelope.{Envelope}
use Rattle.chain_steps.specs.declared.message.Message.{Message}
use Rattle.chain_steps.specs.declared.message.Message.TheVariants as messages
use Rattle.world_model.specs.Chain.{looked_by, raised_by}
use Rattle.world_model.proofs.Counting.{all_at, all_behind, flat_split}
use Rattle.world_model.specs.Machine.{State}
use Rattle.world_model.specs.Requests as requests
use Rattle.chain_model.specs.Chain.{Belongs, BelongsToHead, IsForHead, IsTold, MembersStand, StandsFor}
use Rattle.chain_model.specs.Laws.{HasPassed, with_members}
use Rattle.chain_model.proofs.Linking.{IsProper, IsProperSubmit}
use Rattle.chain_model.proofs.MemberSteps.{reach}
use Rattle.chain_model.proofs.NetSteps.{Reach}
use Rattle.chain_model.proofs.Ordering.{sends_nothing, told_one}
use Rattle.chain_model.proofs.PlaceSteps.{head_is_head}
use Rattle.chain_model.proofs.PutSteps.{not_further}
use Rattle.chain_model.specs.View.{Member, View, looked_of, raised_of, slot_of}

-- ---- what is committed

-- what a member that runs has of the line
reach_there : (size : ℕ) (v : View) (above : List Member) (m : Member) (below : List Member) (s : State) (stands : MembersStand size (with_members v (above ++ m ∷ below)) s) → m.node.stopped ≡ None → Reach v.told.front stands.0 m.node
reach_there size v above m below s stands runs = reach size v above m below s stands.0 stands.1 runs stands.2

-- its durable front, its known commit, the committed front and its last write come in this order
pub committed_fronts : (size : ℕ) (v : View) (above : List Member) (m : Member) (below : List Member) (s : State) → StandsFor size (with_members v (above ++ m ∷ below)) s → m.node.stopped ≡ None
    → (m.node.table.forgotten ≤ m.node.known) × (m.node.known ≤ v.told.front) × (v.told.front ≤ last_of m.node)
committed_fronts size v above m below s stands runs = let reached = reach_there size v above m below s stands.0 runs in (reached.within, reached.known, reached.has)

-- a front that it raised is committed, so that it has all of it
pub raised_in_order : (size : ℕ) (v : View) (above : List Member) (m : Member) (below : List Member) (s : State) (front : FoundFront) → StandsFor size (with_members v (above ++ m ∷ below)) s → m.node.stopped ≡ None
    → m.node.found ≡ Some (Raised front) → front.number ≤ last_of m.node
raised_in_order size v above m below s front stands runs found =
    let P : ℕ → Type 0 = λ f. f ≤ v.told.front in
    let behind = all_behind P (flat_map raised_of above) (raised_of m ++ flat_map raised_of below) (subst (All P) (flat_split raised_of above m below) stands.0.2.raised) in
    let committed : front.number ≤ v.told.front = All-head P front.number (flat_map raised_of below) (subst (λ (o : Option Found). All P (raised_by o ++ flat_map raised_of below)) found behind) in
    omega (arith, committed, (reach_there size v above m below s stands.0 runs).has)

-- and so is one that it looked up
pub looked_in_order : (size : ℕ) (v : View) (above : List Member) (m : Member) (below : List Member) (s : State) (front : FoundFront) → StandsFor size (with_members v (above ++ m ∷ below)) s → m.node.stopped ≡ None
    → m.node.found ≡ Some (Looked front) → front.number ≤ last_of m.node
looked_in_order size v above m below s front stands runs found =
    let names = stands.0.2.clients.0 in
    let P : requests.Looked → Type 0 = requests.IsFresh v.told.front names.tokens in
    let behind = all_behind P (flat_map looked_of above) (looked_of m ++ flat_map looked_of below) (subst (All P) (flat_split looked_of above m below) stands.0.2.clients.1.fresh) in
    let committed : front.number ≤ v.told.front =
    (All-head P (record { slot = slot_of m; front = front.number }) (flat_map looked_of below) (subst (λ (o : Option Found). All P (looked_by (slot_of m) o ++ flat_map looked_of below)) found behind)).committed in
    omega (arith, committed, (reach_there size v above m below s stands.0 runs).has)

-- ---- messages by which a member stops

-- after a step that doesn't stop it, it runs
stops_not : (P : Type 0) (node : NodeState) (stepped : Stepped) → stepped.node.stopped ≡ None → Taken stepped ≡ Taken (stop Disorder node) → P
stops_not P node stepped runs is =
    let same : stepped ≡ stop Disorder node = cc in
    let no : None ≡ Some Disorder = sym runs ∙ ap (λ (x : Stepped). x.node.stopped) same in absurd cc

module _ (node : NodeState) (runs : node.stopped ≡ None) where
  -- the message is of its epoch
  of_now : (from : ℕ) (envelope : Envelope) → deliver from envelope node ≡ Taken (stop Disorder node) → (envelope.epoch ≡ epoch_of node) × (take_message from envelope.message node ≡ Taken (stop Disorder node))
  of_now from envelope is =
      let running : is_stopped node ≡ false = ap is_some runs in
      elim (cases_Bool (nat_lt envelope.epoch (epoch_of node))) [
        | inl before ↦
            let same : Taken (silent node) ≡ Taken (stop Disorder node) = rw (running, before) at is in
            stops_not ((envelope.epoch ≡ epoch_of node) × (take_message from envelope.message node ≡ Taken (stop Disorder node))) node (silent node) runs same
        | inr not_before ↦ elim (cases_Bool (nat_lt (epoch_of node) envelope.epoch)) [
          | inl after ↦ let no : Refused 152 ≡ Taken (stop Disorder node) = rw (running, not_before, after) at is in absurd cc
          | inr not_after ↦
              let now : envelope.epoch ≡ epoch_of node = grind (arith, nat_tests) in
              let same : take_message from envelope.message node ≡ Taken (stop Disorder node) = rw (running, not_before, not_after) at is in (now, same)
        ]
      ]

  -- a Put leaves a number out
  put_far : (n : ℕ) (origin : Origin) (write : Placed) → put n origin write node ≡ Taken (stop Disorder node) → last_of node + 1 < n
  put_far n origin write is = elim (cases_Bool (nat_le n (last_of node))) [
    | inl has_it ↦ let same : Taken (silent node) ≡ Taken (stop Disorder node) = rw has_it at is in stops_not (last_of node + 1 < n) node (silent node) runs same
    | inr new_one ↦ elim (cases_Bool (nat_lt (last_of node + 1) n)) [
      | inl further ↦ grind (arith, nat_tests)
      | inr next ↦ elim (cases_Bool (is_full write node)) [
        | inl full ↦ let no : Refused 153 ≡ Taken (stop Disorder node) = rw (new_one, next, full) at is in absurd cc
        | inr room ↦
            let same : Taken (apply n origin write node) ≡ Taken (stop Disorder node) = rw (new_one, next, room) at is in stops_not (last_of node + 1 < n) node (apply n origin write node) runs same
      ]
    ]
  ]

  -- an Ack is above its last write
  ack_far : (front : ℕ) → Taken (ack front node) ≡ Taken (stop Disorder node) → last_of node < front
  ack_far front is = elim (cases_Bool (nat_lt (last_of node) front)) [
    | inl further ↦ grind (arith, nat_tests)
    | inr near ↦
        let same : Taken (know front (max node.known front) node) ≡ Taken (stop Disorder node) = rw near at is in stops_not (last_of node < front) node (know front (max node.known front) node) runs same
  ]

  -- no Turn does
  turn_not : Taken (take_turn node) ≡ Taken (stop Disorder node) → ⊥
  turn_not is = elim (cases_Bool node.turned) [
    | inl turned ↦ stops_not ⊥ node (silent node) runs (ap Taken (sym (cond-true node.turned (silent node) (turn node) turned)) ∙ is)
    | inr unturned ↦ stops_not ⊥ node (turn node) runs (ap Taken (sym (cond-false node.turned (silent node) (turn node) unturned)) ∙ is)
  ]

  -- a Submit comes to another one than the head, or from outside of its chain
  submit_from : (from ticket : ℕ) (o : Option ℕ) (write : Placed) → number_from from ticket o write node ≡ Taken (stop Disorder node) → o ≡ None
  submit_from from ticket None write is = refl
  submit_from from ticket (Some incarnation) write is = elim (cases_Bool (is_full write node)) [
    | inl full ↦ let no : Refused 153 ≡ Taken (stop Disorder node) = rw full at is in absurd cc
    | inr room ↦
        let same : Taken (apply (last_of node + 1) (origin_of from incarnation ticket) write node) ≡ Taken (stop Disorder node) = rw room at is in
        stops_not (Some incarnation ≡ None) node (apply (last_of node + 1) (origin_of from incarnation ticket) write node) runs same
  ]

  submit_astray : (from ticket : ℕ) (write : Placed) → number from ticket write node ≡ Taken (stop Disorder node) → (is_head node.place ≡ false) ⊎ (incarnation_in node.place.chain from ≡ None)
  submit_astray from ticket write is = elim (cases_Bool (is_head node.place)) [
    | inl head ↦
        let numbered : number_from from ticket (incarnation_in node.place.chain from) write node ≡ Taken (stop Disorder node) = rw head at is in inr (submit_from from ticket (incarnation_in node.place.chain from) write numbered)
    | inr other ↦ inl other
  ]

-- ---- none comes

-- the links without the first message of this one
abbrev without_first : (from slot : ℕ) → List Envelope → (ℕ → ℕ → List Envelope) → ℕ → ℕ → List Envelope
without_first from slot rest links x y = if x == from then (if y == slot then rest else links x y) else links x y

first_passed : (from slot : ℕ) (envelope : Envelope) (rest : List Envelope) (links : ℕ → ℕ → List Envelope) → from ≢ slot → links from slot ≡ envelope ∷ rest → HasPassed from slot envelope [] links (without_first from slot rest links)
first_passed from slot envelope rest links apart is = record {
  apart = apart;
  between = without_first from slot rest links;
  taken = record { first = is ∙ ap (λ l. envelope ∷ l) (sym left); others = others };
  sends = record { others = λ x y other. refl; its = λ y. sym (append-nil (without_first from slot rest links slot y)) };
}
  where
    left : without_first from slot rest links from slot ≡ rest
    left = cond-true (from == from) (if slot == slot then rest else links from slot) (links from slot) (eq-eqb from from refl) ∙ cond-true (slot == slot) rest (links from slot) (eq-eqb slot slot refl)

    others : (x y : ℕ) → (x ≡ from → y ≢ slot) → without_first from slot rest links x y ≡ links x y
    others x y other = elim (cases_eq x from) [
      | inl here ↦ cond-true (x == from) (if y == slot then rest else links x y) (links x y) (eq-eqb x from here) ∙ cond-false (y == slot) rest (links x y) (ne_eqb y slot (other here))
      | inr there ↦ cond-false (x == from) (if y == slot then rest else links x y) (links x y) (ne_eqb x from there)
    ]

-- by no message of a chain link does a member stop
pub message_in_order : (size : ℕ) (v : View) (above : List Member) (m : Member) (below : List Member) (s : State) (from : ℕ) (envelope : Envelope) (rest : List Envelope)
    → StandsFor size (with_members v (above ++ m ∷ below)) s → m.node.stopped ≡ None → from ≢ slot_of m → v.links from (slot_of m) ≡ envelope ∷ rest → deliver from envelope m.node ≡ Taken (stop Disorder m.node) → ⊥
message_in_order size v above m below s from envelope rest stands runs apart first taken = let (now, same) = of_now m.node runs from envelope taken in by now envelope.message refl same
  where
    belongs : Belongs v.recorded v.before v.told.front envelope.epoch from (slot_of m) envelope.message
    belongs = (All-head (IsProper v.recorded v.before v.told.front from (slot_of m)) envelope rest (subst (All (IsProper v.recorded v.before v.told.front from (slot_of m))) first (stands.0.2.links.links_of from (slot_of m)))).1

    by : envelope.epoch ≡ epoch_of m.node → (message : Message) → envelope.message ≡ message → take_message from message m.node ≡ Taken (stop Disorder m.node) → ⊥
    by now (messages.Put n origin write) is same =
        let near : n ≤ suc (last_of m.node) = not_further size v above m below runs from envelope (without_first from (slot_of m) rest v.links) now n origin write is m refl [] [] (sends_nothing m.node)
        (first_passed from (slot_of m) envelope rest v.links apart first) s stands.0 in
        omega (arith, near, put_far m.node runs n origin write same)
    by now (messages.Ack front) is same =
        let committed : front ≤ v.told.front = subst (Belongs v.recorded v.before v.told.front envelope.epoch from (slot_of m)) is belongs in
        omega (arith, committed, (reach_there size v above m below s stands.0 runs).has, ack_far m.node runs front same)
    by now (messages.Turn last) is same = turn_not m.node runs same
    by now (messages.Submit ticket write) is same = subst (Belongs v.recorded v.before v.told.front envelope.epoch from (slot_of m)) is belongs

-- and by none of a submit link
pub submit_in_order : (size : ℕ) (v : View) (above : List Member) (m : Member) (below : List Member) (s : State) (from : ℕ) (envelope : Envelope) (rest : List Envelope)
    → StandsFor size (with_members v (above ++ m ∷ below)) s → m.node.stopped ≡ None → v.submits from (slot_of m) ≡ envelope ∷ rest → deliver from envelope m.node ≡ Taken (stop Disorder m.node) → ⊥
submit_in_order size v above m below s from envelope rest stands runs first taken = let (now, same) = of_now m.node runs from envelope taken in by now envelope.message refl same
  where
    told : IsTold v.recorded v.before m.node
    told = all_at (λ x. IsTold v.recorded v.before x.node) above m below stands.0.2.places.told

    belongs : BelongsToHead v.recorded v.before envelope.epoch from (slot_of m) envelope.message
    belongs = (All-head (IsProperSubmit v.recorded v.before from (slot_of m)) envelope rest (subst (All (IsProperSubmit v.recorded v.before from (slot_of m))) first (stands.0.2.links.submits_of from (slot_of m)))).1

    in_chain : envelope.epoch ≡ epoch_of m.node → IsForHead v.recorded v.before envelope.epoch from (slot_of m) → (incarnation_in m.node.place.chain from ≢ None) × (head_of m.node.place.chain ≡ Some (slot_of m))
    in_chain now is = elim (told_one v.recorded v.before m.node told runs) [
      | inl (here, chain) ↦ subst (λ (r : Record). (incarnation_in r from ≢ None) × (head_of r ≡ Some (slot_of m))) (sym chain) (is.now (now ∙ here))
      | inr (old, chain) ↦ subst (λ (r : Record). (incarnation_in r from ≢ None) × (head_of r ≡ Some (slot_of m))) (sym chain) (is.old (ap suc now ∙ old))
    ]

    by : envelope.epoch ≡ epoch_of m.node → (message : Message) → envelope.message ≡ message → take_message from message m.node ≡ Taken (stop Disorder m.node) → ⊥
    by now (messages.Put n origin write) is same = subst (BelongsToHead v.recorded v.before envelope.epoch from (slot_of m)) is belongs
    by now (messages.Ack front) is same = subst (BelongsToHead v.recorded v.before envelope.epoch from (slot_of m)) is belongs
    by now (messages.Turn last) is same = subst (BelongsToHead v.recorded v.before envelope.epoch from (slot_of m)) is belongs
    by now (messages.Submit ticket write) is same =
        let (there, head) = in_chain now (subst (BelongsToHead v.recorded v.before envelope.epoch from (slot_of m)) is belongs) in
        elim (submit_astray m.node runs from ticket write same) [
          | inl not_head ↦ true≢false (sym (head_is_head m.node.place.chain (slot_of m) head) ∙ not_head)
          | inr none ↦ there none
        ]
