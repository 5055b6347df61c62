-- What the manager of a world notes and finds, and what stands on its disk while a record is written.
use Rattle.std.proofs.Common.{◌≡◌, ℕ, ◌+◌, ◌<◌, Bool, true, false, List, [], length, take, refl, ap, sym, subst, ◌∙◌, inl, inr, arith}
use Rattle.std.specs.Prelude.{◌⊎◌, ◌&&◌, if◌then◌else◌, Option, None, Some, Result, Ok, Err, IfSome, OnErr, OnOk, is_some, fold, slice_get}
use Rattle.std.specs.Result.{result_err}
use Rattle.std.proofs.lemmas.Bool.{and_from, and_left, and_right}
use Rattle.std.proofs.lemmas.List.Sums.{fold_more}
use Rattle.std.proofs.lemmas.Option.{slice_get_cases}
use Rattle.disk_model.specs.Disk.{LeavesOnly}
use Rattle.disk_model.specs.Frames.{started_inside}
use Rattle.disk_model.specs.Moments.{weaker}
use Rattle.disk_model.specs.Part.{inside}
use Rattle.configurations.specs.Record.{Record}
use Rattle.configurations.specs.Store as configs
use Rattle.configurations.specs.Store.{HoldsOldOrNew, HoldsRecord, IsSettledConfig, settled_leaves}
use Rattle.manager.specs.Manager.{State, stopped_at, why_not_stopped}
use Rattle.manager.specs.declared.refusal.Refusal.{Refusal}
use Rattle.manager.specs.declared.refusal.Refusal.TheVariants.{NotMember}
use Rattle.chain_steps.specs.Node.{is_stopped}
use Rattle.chain_steps.specs.declared.cause.Cause.{Cause}
use Rattle.chain_model.specs.View.{is_in}
use Rattle.chain.specs.Chain.{Chained}
use Rattle.chain.specs.Member.{Linked}
use Rattle.local_store.specs.About.{About}
use Rattle.clients.specs.Clients.{no_one}
use Rattle.clients.specs.declared.output.Output.{Output}
use Rattle.world.specs.Telling.{handed_by, handed_in}
use Rattle.world.specs.World.{IsOfOneVolume, Seen}
use Rattle.world.specs.declared.told.Told.{Told}
use Rattle.world.proofs.InnerSteps.{rests_so}
use Rattle.world.specs.Management.{HoldsWritten, IsMemberAt, Managing, has_stopped_in, knows, noted_one}
use Rattle.world.proofs.CallSteps.{some_of}

-- ---- the member at a slot

module _ {S : Type 0} (c : Chained S) (slot at : ℕ) where
  -- this one is recorded there
  pub is_there : (own : ℕ) (is : Bool) → at < length c.members → IfSome (slice_get c.members at) (λ m. own ≡ m.node.state.place.slot)
      → IfSome (slice_get c.members at) (λ m. is ≡ is_in c.recorded m.node.state.place.slot m.node.state.incarnation) → own ≡ slot → is ≡ true → IsMemberAt c slot at
  is_there own is within slots answers own_is true_is = elim (slice_get_cases c.members at).1 [
    | inl (m, lt, here, read) ↦
        let slot_is : m.node.state.place.slot ≡ slot = sym (some_of (λ (m : Linked S). own ≡ m.node.state.place.slot) (slice_get c.members at) m here slots) ∙ own_is in
        let answer : is ≡ is_in c.recorded m.node.state.place.slot m.node.state.incarnation =
        some_of (λ (m : Linked S). is ≡ is_in c.recorded m.node.state.place.slot m.node.state.incarnation) (slice_get c.members at) m here answers in
        record { member = m; here = here; slot_is = slot_is; recorded = ap (λ s. is_in c.recorded s m.node.state.incarnation) (sym slot_is) ∙ sym answer ∙ true_is }
    | inr (past, none) ↦ absurd (omega (arith, within, past))
  ]

  -- this one has another slot
  pub has_another : (own : ℕ) (m : Linked S) → slice_get c.members at ≡ Some m → IfSome (slice_get c.members at) (λ m. own ≡ m.node.state.place.slot) → m.node.state.place.slot ≡ slot → own ≡ slot
  has_another own m here slots slot_is = some_of (λ (m : Linked S). own ≡ m.node.state.place.slot) (slice_get c.members at) m here slots ∙ slot_is

  -- this one is there, and so it says whether it is recorded
  pub says_so : (is : Bool) (m : Linked S) → slice_get c.members at ≡ Some m → IfSome (slice_get c.members at) (λ m. is ≡ is_in c.recorded m.node.state.place.slot m.node.state.incarnation)
      → m.node.state.place.slot ≡ slot → is ≡ is_in c.recorded slot m.node.state.incarnation
  says_so is m here answers slot_is =
      some_of (λ (m : Linked S). is ≡ is_in c.recorded m.node.state.place.slot m.node.state.incarnation) (slice_get c.members at) m here answers ∙ ap (λ s. is_in c.recorded s m.node.state.incarnation) slot_is

-- ---- who has stopped

known_by : (b : Bool) → None ≡ (if b then None else Some NotMember) → b ≡ true
known_by true is = refl
known_by false is = let clash : ◌≡◌ {A = Option Refusal} None (Some NotMember) = is in absurd (cc)

unknown_by : (b : Bool) (e : Refusal) → Some e ≡ (if b then None else Some NotMember) → b ≡ false
unknown_by false e is = refl
unknown_by true e is = let clash : ◌≡◌ {A = Option Refusal} (Some e) None = is in absurd (cc)

module _ {S : Type 0} (c : Chained S) (st now later : State) (at : ℕ) where
  -- what the manager makes of the member at a place
  abbrev Notes : Type 0
  Notes = (m : Linked S) → slice_get c.members at ≡ Some m → later ≡ noted_one c.recorded now m

  noted_more : at < length c.members → now ≡ fold (noted_one c.recorded) st (take at c.members) → Notes → later ≡ fold (noted_one c.recorded) st (take (at + 1) c.members)
  noted_more within so_far notes = elim (slice_get_cases c.members at).1 [
    | inl (m, lt, here, read) ↦
        notes m here ∙ ap (λ s. noted_one c.recorded s m) so_far
        ∙ sym (fold_more (noted_one c.recorded) st c.members at m within ∙ ap (noted_one c.recorded (fold (noted_one c.recorded) st (take at c.members))) read)
    | inr (past, none) ↦ absurd (omega (arith, within, past))
  ]

  -- what a world answers of the member at a place
  abbrev pub AnswersRecorded : Bool → Type 0
  AnswersRecorded is = IfSome (slice_get c.members at) (λ m. is ≡ is_in c.recorded m.node.state.place.slot m.node.state.incarnation)

  abbrev pub AnswersCause : Option Cause → Type 0
  AnswersCause cause = IfSome (slice_get c.members at) (λ m. cause ≡ m.node.state.stopped)

  recorded_there : (is : Bool) (m : Linked S) → slice_get c.members at ≡ Some m → AnswersRecorded is → is_in c.recorded m.node.state.place.slot m.node.state.incarnation ≡ is
  recorded_there is m here answers = sym (some_of (λ (m : Linked S). is ≡ is_in c.recorded m.node.state.place.slot m.node.state.incarnation) (slice_get c.members at) m here answers)

  stopped_there : (cause : Option Cause) (stops : Bool) (m : Linked S) → slice_get c.members at ≡ Some m → AnswersCause cause → stops ≡ is_some cause → is_stopped m.node.state ≡ stops
  stopped_there cause stops m here answers said = sym (said ∙ ap is_some (some_of (λ (m : Linked S). cause ≡ m.node.state.stopped) (slice_get c.members at) m here answers))

  has_stopped : (is stops : Bool) (cause : Option Cause) (m : Linked S) → slice_get c.members at ≡ Some m → AnswersRecorded is → AnswersCause cause → stops ≡ is_some cause → is ≡ true → stops ≡ true → has_stopped_in c.recorded m ≡ true
  has_stopped is stops cause m here recorded answers said true_is stopped =
      and_from (is_in c.recorded m.node.state.place.slot m.node.state.incarnation) (is_stopped m.node.state) (recorded_there is m here recorded ∙ true_is) (stopped_there cause stops m here answers said ∙ stopped)

  unnoted : (m : Linked S) → (has_stopped_in c.recorded m && knows now m.node.state.place.slot) ≡ false → later ≡ now → later ≡ noted_one c.recorded now m
  unnoted m isnt rests = rests ∙ ap (λ b. if b then stopped_at m.node.state.place.slot now else now) (sym isnt)

  -- the manager was told of it: it knows its slot, or it doesn't
  told_of : {T : Type 0} (r : Result T Refusal) (m : Linked S) (slot : ℕ) → slot ≡ m.node.state.place.slot → has_stopped_in c.recorded m ≡ true
      → OnOk r (later ≡ stopped_at slot now) → result_err r ≡ why_not_stopped slot now → OnErr r (later ≡ now) → later ≡ noted_one c.recorded now m
  told_of (Ok x) m slot own has did why rests =
      did ∙ ap (λ s. stopped_at s now) own
      ∙ ap (λ b. if b then stopped_at m.node.state.place.slot now else now) (sym (and_from (has_stopped_in c.recorded m) (knows now m.node.state.place.slot)
      has (ap (knows now) (sym own) ∙ known_by (knows now slot) why)))
  told_of (Err e) m slot own has did why rests =
      unnoted m (and_right (has_stopped_in c.recorded m) (knows now m.node.state.place.slot) (ap (knows now) (sym own) ∙ unknown_by (knows now slot) e why)) rests

  -- what the manager makes of all members so far, and of this one
  abbrev pub Further : Type 0
  Further = at < length c.members → now ≡ fold (noted_one c.recorded) st (take at c.members) → later ≡ fold (noted_one c.recorded) st (take (at + 1) c.members)

  -- it has stopped
  pub noted_stopped : {T : Type 0} (r : Result T Refusal) (is stops : Bool) (cause : Option Cause) (slot own : ℕ) → AnswersRecorded is → AnswersCause cause → stops ≡ is_some cause → is ≡ true → stops ≡ true
      → slot ≡ own → IfSome (slice_get c.members at) (λ m. own ≡ m.node.state.place.slot) → OnOk r (later ≡ stopped_at slot now) → result_err r ≡ why_not_stopped slot now → OnErr r (later ≡ now) → Further
  noted_stopped r is stops cause slot own recorded answers said true_is stopped same slots did why rests within so_far = noted_more within so_far
      (λ m here. told_of r m slot (same ∙ some_of (λ (m : Linked S). own ≡ m.node.state.place.slot) (slice_get c.members at) m here slots)
      (has_stopped is stops cause m here recorded answers said true_is stopped) did why rests)

  -- it runs
  pub noted_running : (cause : Option Cause) (stops : Bool) → AnswersCause cause → stops ≡ is_some cause → stops ≡ false → later ≡ now → Further
  noted_running cause stops answers said runs rests within so_far = noted_more within so_far
      (λ m here. unnoted m (and_left (has_stopped_in c.recorded m) (knows now m.node.state.place.slot)
      (and_right (is_in c.recorded m.node.state.place.slot m.node.state.incarnation) (is_stopped m.node.state) (stopped_there cause stops m here answers said ∙ runs))) rests)

  -- it isn't recorded
  pub noted_other : (is : Bool) → AnswersRecorded is → is ≡ false → later ≡ now → Further
  noted_other is recorded isnt rests within so_far = noted_more within so_far
      (λ m here. unnoted m (and_left (has_stopped_in c.recorded m) (knows now m.node.state.place.slot)
      (and_left (is_in c.recorded m.node.state.place.slot m.node.state.incarnation) (is_stopped m.node.state) (recorded_there is m here recorded ∙ isnt))) rests)

-- ---- the record on the disk

module _ {D : Type 0} (moment : D → ℕ) (left_since : D → ℕ → List ℕ → Type 0) (store : configs.State) (writing : Option Record) where
  -- a stop leaves the record that is there, or the one that is being written
  abbrev pub HoldsEither : List ℕ → Type 0
  HoldsEither c = HoldsRecord store.current (inside store.pair.part c) ⊎ HoldsWritten writing (inside store.pair.part c)

  -- nothing is written
  pub held_still : {gives : List ℕ} {may_leave : List ℕ → Type 0} (disk : D) → ((c : List ℕ) → left_since disk (moment disk) c → may_leave c) → IsSettledConfig store gives may_leave
      → LeavesOnly moment left_since disk disk HoldsEither
  held_still {gives} {may_leave} disk only_now settled =
      weaker moment left_since disk disk (λ c. HoldsRecord store.current (inside store.pair.part c)) HoldsEither (λ c holds. inl holds)
      (started_inside store.pair.part (HoldsRecord store.current) disk may_leave only_now (settled_leaves settled))

  -- nor is another one
  pub old_still : (next : Record) {gives : List ℕ} {may_leave : List ℕ → Type 0} (disk : D) → ((c : List ℕ) → left_since disk (moment disk) c → may_leave c) → IsSettledConfig store gives may_leave
      → LeavesOnly moment left_since disk disk (λ c. HoldsOldOrNew store.current next (inside store.pair.part c))
  old_still next {gives} {may_leave} disk only_now settled =
      weaker moment left_since disk disk (λ c. HoldsRecord store.current (inside store.pair.part c)) (λ c. HoldsOldOrNew store.current next (inside store.pair.part c)) (λ c holds. inl holds)
      (started_inside store.pair.part (HoldsRecord store.current) disk may_leave only_now (settled_leaves settled))

  -- that one is written
  pub held_writing : (old new : D) (next : Record) → writing ≡ Some next → LeavesOnly moment left_since old new (λ c. HoldsOldOrNew store.current next (inside store.pair.part c))
      → LeavesOnly moment left_since old new HoldsEither
  held_writing old new next is run =
      weaker moment left_since old new (λ c. HoldsOldOrNew store.current next (inside store.pair.part c)) HoldsEither
      (λ c either. elim either [
        | inl holds ↦ inl holds
        | inr holds ↦ inr (next, is, holds)
      ]) run

-- and so it is of a manager, as it is seen
pub manager_holds : {D : Type 0} (moment : D → ℕ) (left_since : D → ℕ → List ℕ → Type 0) (gives : D → List ℕ) (may_leave : D → List ℕ → Type 0) (view seen : Managing D) → view ≡ seen → (new : D) (writing : Option Record) (next : Record) → writing ≡ Some next
    → (IsSettledConfig view.config (gives view.disk) (may_leave view.disk) → LeavesOnly moment left_since view.disk new (λ c. HoldsOldOrNew view.config.current next (inside view.config.pair.part c)))
    → IsSettledConfig seen.config (gives seen.disk) (may_leave seen.disk) → LeavesOnly moment left_since seen.disk new (HoldsEither moment left_since seen.config writing)
manager_holds {D} moment left_since gives may_leave view seen is new writing next begun run =
    subst (λ (m : Managing D). IsSettledConfig m.config (gives m.disk) (may_leave m.disk) → LeavesOnly moment left_since m.disk new (HoldsEither moment left_since m.config writing)) is
    (λ settled. held_writing moment left_since view.config writing view.disk new next begun (run settled))

-- ---- nobody was told anything

module _ {S : Type 0} {about : S → About} {keeps : S → List ℕ → Type 0} {may_leave_now : S → List ℕ → Type 0} (old new : Seen S) (outputs : List Output) (none : outputs ≡ []) where
  hands_none : IsOfOneVolume about keeps may_leave_now no_one no_one old new → IsOfOneVolume about keeps may_leave_now no_one (handed_by outputs) old new
  hands_none leads = subst (λ os. IsOfOneVolume about keeps may_leave_now no_one (handed_by os) old new) (sym none) leads

  -- nothing changed
  pub hands_none_still : new ≡ old → IsOfOneVolume about keeps may_leave_now no_one (handed_by outputs) old new
  hands_none_still same = hands_none (rests_so about keeps may_leave_now old new same)

  -- the call was refused
  pub hands_none_refused : {V E : Type 0} (told : V → Told) (r : Result V E) (e : E) → r ≡ Err e → IsOfOneVolume about keeps may_leave_now no_one (handed_in told r) old new
      → IsOfOneVolume about keeps may_leave_now no_one (handed_by outputs) old new
  hands_none_refused {V} {E} told r e err leads = hands_none (subst (λ (o : Result V E). IsOfOneVolume about keeps may_leave_now no_one (handed_in told o) old new) err leads)
