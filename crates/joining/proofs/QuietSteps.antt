-- What the orders of a joining do to a chain in which nothing is under way.
use Rattle.std.proofs.Common.{◌≡◌, ◌⊎◌, ◌∙◌, ap, inl, inr, ℕ, suc, ◌+◌, Bool, true, false, cond, List, [], ◌∷◌, ◌++◌, length, refl, sym, subst, arith}
use Rattle.std.specs.Prelude.{All, IfSome, None, Option, Some, is_some, max, nat_le, nat_lt, slice_get, slice_set}
use Rattle.std.proofs.lemmas.Option.{same_Some}
use Rattle.std.proofs.lemmas.List.{length-append}
use Rattle.std.proofs.lemmas.List.Elements.{All-append, All-cons, All-nil}
use Rattle.board.specs.Seats.{FoundFront}
use Rattle.configurations.specs.Record.{Record}
use Rattle.configurations.specs.declared.member.Member.{Member}
use Rattle.gate_journal.specs.Receipt.{Receipt}
use Rattle.local_store.specs.About.{About}
use Rattle.chain_steps.specs.Node.{NodeState, Refused, Stepped, Taken, epoch_of, is_stopped}
use Rattle.chain_steps.specs.Place.{is_head, is_of}
use Rattle.chain_steps.specs.Steps.{hold, keep, know, placed, silent, starts, stop, told, turn}
use Rattle.chain_steps.specs.declared.cause.Cause.TheVariants.{Disorder, Memory}
use Rattle.chain_steps.specs.declared.found.Found.TheVariants.{Looked}
use Rattle.chain_core.specs.Node as core
use Rattle.chain_core.specs.Node.{IsStep, IsStepOrStop}
use Rattle.chain.specs.Chain.{Chained}
use Rattle.chain.specs.Holding.{HoldsAt}
use Rattle.chain.specs.Joining.{IsWithOne, MayBeginJoin, joined_of}
use Rattle.chain.specs.Member.{Linked}
use Rattle.chain.specs.Opening.{recorded_in}
use Rattle.chain.specs.Recording.{HaltsAt, IsToldAt}
use Rattle.manager.specs.Manager.{done_of}
use Rattle.world.specs.Joining.{BeginsJoin, CountsIn, EndsJoin, HoldsNext}
use Rattle.world.specs.Management.{Managing, TellsNext, TellsSlot}
use Rattle.world.specs.World as worlds
use Rattle.world.specs.declared.told.Told.{Told}
use Rattle.joining.specs.Rebuilding.{AllKeep, HasOneMore, IsAtFront, IsQuiet, IsSteady, KeepStill}
use Rattle.joining.proofs.Steady.{all_there, member_keeps, member_steady, some_and, steady_still, with_links}

-- ---- a member

-- two that are at a front are, whichever of them it is
either_front : (front : ℕ) (b : Bool) (x y : Stepped) → IsAtFront front x.node → IsAtFront front y.node → IsAtFront front (cond b x y).node
either_front front true x y one other = one
either_front front false x y one other = other

module _ (front : ℕ) (node : NodeState) (was : IsAtFront front node) where
  pub stopped_front : (cause : _) → IsAtFront front (stop cause node).node
  stopped_front cause = record { durable = was.durable; known = was.known; last = was.last }

  -- it holds the front
  held_front : (found : FoundFront) → found.number ≡ front → IsAtFront front (hold (keep (Looked found) node)).node
  held_front found is =
      either_front front (nat_lt (applied node) found.number) (stop Disorder (keep (Looked found) node)) (know found.number (max node.known found.number) (record (keep (Looked found) node) { holds = true }))
      (record { durable = was.durable; known = was.known; last = was.last })
      (record { durable = was.durable; known = omega (arith, was.known, is); last = was.last })
    where
      applied : NodeState → ℕ
      applied n = n.table.forgotten + length n.table.kept

  -- it is told a chain
  started_front : (chain : Record) → IsAtFront front (starts (placed chain node)).node
  started_front chain =
      either_front front (is_head (placed chain node).place) (turn (placed chain node)) (silent (placed chain node))
      (record { durable = was.durable; known = was.known; last = was.last }) (record { durable = was.durable; known = was.known; last = was.last })

  told_front : (chain : Record) (stepped : Stepped) → told chain node ≡ Taken stepped → IsAtFront front stepped.node
  told_front chain stepped taken = elim (which (is_stopped node) (nat_le chain.epoch (epoch_of node)) (is_of (placed chain node).place node.incarnation) (silent node) (starts (placed chain node)) stepped taken) [
    | inl is ↦ subst (λ (s : Stepped). IsAtFront front s.node) (sym is) was
    | inr is ↦ subst (λ (s : Stepped). IsAtFront front s.node) (sym is) (started_front chain)
  ]
    where
      which : (a b c : Bool) (x y s : Stepped) → cond a (Refused 154) (cond b (Taken x) (cond c (Taken y) (Refused 151))) ≡ Taken s → (s ≡ x) ⊎ (s ≡ y)
      which true b c x y s is = absurd cc
      which false true c x y s is = inl cc
      which false false true x y s is = inr cc
      which false false false x y s is = absurd cc

-- ---- the chain

module _ {S : Type 0} (keeps : S → List ℕ → Type 0) (old new : Chained S) (at : ℕ) where
  -- whatever the node of the member at the place did, its store is the same
  same_keeps : (before after : Linked S) (links : List (List _)) → slice_get old.members at ≡ Some before → after.node.store ≡ before.node.store → new ≡ record old { members = slice_set old.members at after; links = links } → KeepStill keeps old new
  same_keeps before after links here store are =
      member_keeps keeps old new at after links are (λ volume all. subst (λ (s : S). keeps s volume) (sym store) (all_there (λ m. keeps m.node.store volume) old.members at before all here))

  module _ (replies : List _) (holds : HoldsAt at replies old new) where
    held_is : (holds.node.store ≡ holds.before.node.store) × (IsQuiet old → IsAtFront old.words.front holds.node.state)
    held_is = elim holds.did [
      | inl step ↦ (
        ap (λ (n : core.Seen S). n.store) step.node,
        λ quiet. subst (λ (n : core.Seen S). IsAtFront old.words.front n.state) (sym step.node)
            (held_front old.words.front holds.before.node.state (all_there (λ m. IsAtFront old.words.front m.node.state) old.members at holds.before quiet holds.here) holds.front holds.of_number),
      )
      | inr step ↦ (
        ap (λ (n : core.Seen S). n.store) step.node,
        λ quiet. subst (λ (n : core.Seen S). IsAtFront old.words.front n.state) (sym step.node)
            (let was = all_there (λ m. IsAtFront old.words.front m.node.state) old.members at holds.before quiet holds.here in record { durable = was.durable; known = was.known; last = was.last }),
      )
    ]

    holds_steady : IsQuiet old → IsSteady old new
    holds_steady quiet = member_steady old new at (record holds.before { node = holds.node }) holds.are quiet (held_is.1 quiet)

    holds_keeps : KeepStill keeps old new
    holds_keeps = same_keeps holds.before (record holds.before { node = holds.node }) new.links holds.here held_is.0 holds.are

module _ {S : Type 0} (keeps : S → List ℕ → Type 0) (old new : Chained S) (at : ℕ) where
  -- a member was told the recorded chain, or stopped for memory
  module _ (replies : List _) where
    told_steady : IsToldAt at old new replies → IsQuiet old → IsSteady old new
    told_steady tells quiet =
        member_steady old new at (record tells.before { node = record { store = tells.before.node.store; state = tells.stepped.node } }) tells.are quiet
        (told_front old.words.front tells.before.node.state (all_there (λ m. IsAtFront old.words.front m.node.state) old.members at tells.before quiet tells.here) old.recorded tells.stepped tells.taken)

    told_keeps : IsToldAt at old new replies → KeepStill keeps old new
    told_keeps tells = same_keeps keeps old new at tells.before (record tells.before { node = record { store = tells.before.node.store; state = tells.stepped.node } }) new.links tells.here refl tells.are

    halts_steady : HaltsAt at old new replies → IsQuiet old → IsSteady old new
    halts_steady halts quiet =
        member_steady old new at (record halts.before { node = record { store = halts.before.node.store; state = (stop Memory halts.before.node.state).node } }) (with_links old new _ halts.are) quiet
        (stopped_front old.words.front halts.before.node.state (all_there (λ m. IsAtFront old.words.front m.node.state) old.members at halts.before quiet halts.here) Memory)

    halts_keeps : HaltsAt at old new replies → KeepStill keeps old new
    halts_keeps halts = same_keeps keeps old new at halts.before (record halts.before { node = record { store = halts.before.node.store; state = (stop Memory halts.before.node.state).node } }) old.links halts.here refl halts.are

    either_told : IsToldAt at old new replies ⊎ HaltsAt at old new replies → IsQuiet old → IsSteady old new × KeepStill keeps old new
    either_told (inl tells) quiet = (told_steady tells quiet, told_keeps tells)
    either_told (inr halts) quiet = (halts_steady halts quiet, halts_keeps halts)

-- nothing changed
same_steady : {S : Type 0} (keeps : S → List ℕ → Type 0) (old new : Chained S) → new ≡ old → IsQuiet old → IsSteady old new × KeepStill keeps old new
same_steady keeps old new same quiet = (subst (IsSteady old) (sym same) (steady_still old quiet), subst (KeepStill keeps old) (sym same) (λ volume all. all))

module _ {S D : Type 0} (keeps : S → List ℕ → Type 0) (old new : Managing D) (world after : worlds.Seen S) where
  -- the order to hold was carried out
  pub held_done : (given : Option Told) → IfSome given (λ told. HoldsNext told old new world after) → is_some given ≡ true → new ≡ record old { manager = done_of old.manager }
  held_done None held some = absurd cc
  held_done (Some told) held some = held.are

  -- an order was to hold, or nothing changed
  pub order_held : (given : Option Told) → IfSome given (λ told. HoldsNext told old new world after) → (given ≡ None → after ≡ world) → IsQuiet world.chain → IsSteady world.chain after.chain × KeepStill keeps world.chain after.chain
  order_held None held idle quiet =
      (subst (λ (w : worlds.Seen S). IsSteady world.chain w.chain) (sym (idle refl)) (steady_still world.chain quiet), subst (λ (w : worlds.Seen S). KeepStill keeps world.chain w.chain) (sym (idle refl)) (λ volume all. all))
  order_held (Some told) held idle quiet =
      (holds_steady keeps world.chain after.chain held.at held.holds.replies held.holds.did quiet, holds_keeps keeps world.chain after.chain held.at held.holds.replies held.holds.did)

  slot_told : (slot : ℕ) (told : Told) → TellsSlot slot told world after → IsQuiet world.chain → IsSteady world.chain after.chain × KeepStill keeps world.chain after.chain
  slot_told slot told (inl (at, there, answers)) quiet = either_told keeps world.chain after.chain at answers.replies answers.did quiet
  slot_told slot told (inr (inl (at, refusal, there, moves, whole, none))) quiet = same_steady keeps world.chain after.chain moves.did.same quiet
  slot_told slot told (inr (inr (nobody, same, whole, none))) quiet = same_steady keeps world.chain after.chain (ap (λ (w : worlds.Seen S). w.chain) same) quiet

  -- an order was to tell a member, or nothing changed
  pub order_told : (given : Option Told) → IfSome given (λ told. TellsNext told old new world after) → (given ≡ None → after ≡ world) → IsQuiet world.chain → IsSteady world.chain after.chain × KeepStill keeps world.chain after.chain
  order_told None tells idle quiet = same_steady keeps world.chain after.chain (ap (λ (w : worlds.Seen S). w.chain) (idle refl)) quiet
  order_told (Some told) tells idle quiet = slot_told tells.slot told tells.tells quiet

-- ---- who joins is a member

-- the newcomer is at the front that its store tells
new_front : {S : Type 0} (about : S → About) (front : ℕ) (id : _) (chain : Record) (store : S) → (about store).front ≡ front → IsAtFront front (joined_of about id chain store).node.state
new_front about front id chain store is = record { durable = is; known = is; last = omega (arith, is) }

-- one more
all_more : {A : Type 0} (P : A → Type 0) (xs : List A) (x : A) → All P xs → P x → All P (xs ++ x ∷ [])
all_more P xs x all one = All-append P xs (x ∷ []) all (All-cons P x [] one (All-nil P))

module _ {S D : Type 0} (about : S → About) (slot : ℕ) (store : S) (receipt : Receipt) (m0 m1 m2 m3 : Managing D) (w0 w1 w2 w3 : worlds.Seen S)
    (counts : CountsIn about store receipt m0 m1 w0 w1) (begins : BeginsJoin about m1 m2 w1 w2) (ends : EndsJoin about m2 m3 w2 w3) where
  counted : w1.chain ≡ record w0.chain { words = w1.chain.words }
  counted = counts.joined.counted ∙ ap (λ words. record w0.chain { words = words }) (sym (ap (λ (c : Chained S). c.words) counts.joined.counted))

  same_front : w1.chain.words.front ≡ w0.chain.words.front
  same_front = ap (λ (c : Chained S). c.words.front) counts.joined.counted

  joins : w1.joiner ≡ Some store
  joins = ap (λ (w : worlds.Seen S). w.joiner) counts.joined.are

  its : ends.ended.store ≡ store
  its = same_Some ends.ended.store store (sym ends.ended.joined ∙ ap (λ (w : worlds.Seen S). w.joiner) begins.begun.are ∙ joins)

  next_is : ends.ended.ended.next ≡ begins.next
  next_is = same_Some ends.ended.ended.next begins.next (sym ends.ended.ended.begun ∙ ap (λ (c : Chained S). c.writing) begins.begun.begun)

  follows : IsWithOne about store w1.chain begins.next
  follows = (some_and (λ s. MayBeginJoin about s begins.next w1.chain) w1.joiner begins.may store joins).0

  recorded : w3.chain.recorded ≡ begins.next
  recorded = ap (λ (c : Chained S). c.recorded) ends.ended.ended.are ∙ next_is

  was_recorded : w1.chain.recorded ≡ w0.chain.recorded
  was_recorded = ap (λ (c : Chained S). c.recorded) counted

  members_are : w3.chain.members ≡ w0.chain.members ++ joined_of about w2.chain.id ends.ended.ended.next ends.ended.store ∷ []
  members_are = ap (λ (c : Chained S). c.members) ends.ended.ended.are
      ∙ ap (λ ms. ms ++ joined_of about w2.chain.id ends.ended.ended.next ends.ended.store ∷ []) (ap (λ (c : Chained S). c.members) begins.begun.begun ∙ ap (λ (c : Chained S). c.members) counted)

  front_is : w3.chain.words.front ≡ w0.chain.words.front
  front_is = ap (λ (c : Chained S). c.words.front) ends.ended.ended.are ∙ ap (λ (c : Chained S). c.words.front) begins.begun.begun ∙ same_front

  pub one_more : (about store).slot ≡ slot → HasOneMore slot w0.chain w3.chain
  one_more here =
      let epoch : begins.next.epoch ≡ suc w0.chain.recorded.epoch = follows.epoch ∙ ap (λ (r : Record). suc r.epoch) was_recorded in
      record {
        epoch = ap (λ (r : Record). r.epoch) recorded ∙ epoch;
        members = ap (λ (r : Record). r.members) recorded ∙ follows.members
            ∙ ap (λ (r : Record). r.members ++ recorded_in about store ∷ []) was_recorded
            ∙ ap (λ (m : Member). w0.chain.recorded.members ++ m ∷ [])
            (ap (λ (s : ℕ). record { slot = s; incarnation = (about store).incarnation }) here ∙ ap (λ (i : ℕ). record { slot = slot; incarnation = i }) (follows.incarnation ∙ epoch));
        many = let long = length-append w0.chain.members (joined_of about w2.chain.id ends.ended.ended.next ends.ended.store ∷ []) in ap (λ ms. length ms) members_are ∙ long ∙ omega arith;
        front = front_is;
        sizes = ap (λ (c : Chained S). c.geometry) ends.ended.ended.are ∙ ap (λ (c : Chained S). c.geometry) begins.begun.begun ∙ ap (λ (c : Chained S). c.geometry) counted;
      }

  pub more_quiet : IsQuiet w0.chain → IsQuiet w3.chain
  more_quiet quiet =
      let may = counts.may.1 in
      let holder = all_there (λ m. IsAtFront w0.chain.words.front m.node.state) w0.chain.members counts.at may.holder quiet may.here in
      let front : (about ends.ended.store).front ≡ w0.chain.words.front = ap (λ (s : S). (about s).front) its ∙ sym may.holding.known ∙ holder.known in
      subst (λ (n : ℕ). All (λ m. IsAtFront n m.node.state) w3.chain.members) (sym front_is)
      (subst (All (λ m. IsAtFront w0.chain.words.front m.node.state)) (sym members_are)
      (all_more (λ m. IsAtFront w0.chain.words.front m.node.state) w0.chain.members (joined_of about w2.chain.id ends.ended.ended.next ends.ended.store) quiet
      (new_front about w0.chain.words.front w2.chain.id ends.ended.ended.next ends.ended.store front)))

  pub more_keeps : (keeps : S → List ℕ → Type 0) (volume : List ℕ) → keeps store volume → AllKeep keeps volume w0.chain → AllKeep keeps volume w3.chain
  more_keeps keeps volume kept all =
      subst (All (λ m. keeps m.node.store volume)) (sym members_are)
      (all_more (λ m. keeps m.node.store volume) w0.chain.members (joined_of about w2.chain.id ends.ended.ended.next ends.ended.store) all (subst (λ (s : S). keeps s volume) (sym its) kept))
