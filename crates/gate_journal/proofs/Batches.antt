-- The two runs of an `append`, over a journal that is settled.
use Rattle.std.proofs.Common.{inl, ℕ, ◌+◌, List, [], ◌∷◌, ◌++◌, sym, subst}
use Rattle.disk_model.specs.Disk.{Holds, LeavesOnly, Only, Torn}
use Rattle.disk_model.specs.Frames.{started_inside}
use Rattle.disk_model.specs.Moments.{weaker}
use Rattle.disk_model.specs.Part.{inside, LeftInside}
use Rattle.gate_journal.specs.Batch.{Batch, IsBatch, HoldsBatches, HoldsOldOrNew, last_front}
use Rattle.gate_journal.specs.Journal.{State, IsSettled, IsEncoded, appended}
use Rattle.gate_journal.specs.Runs.{WasTorn}
use Rattle.gate_journal.proofs.Appending.{IsStaged, staged, still_holds, old_or_new, new, last_front-push}

module _ (s : State) (old : List Batch) (batch : Batch) (bytes : List ℕ) {gives : List ℕ} {left : List ℕ → Type 0} (settled : IsSettled s old gives left) (encoded : IsEncoded s batch bytes) where
  abbrev OldOrNew : List ℕ → Type 0
  OldOrNew c = HoldsOldOrNew s.blocks s.before old batch (inside s.part c)

  next : IsBatch s.blocks (last_front s.before old) batch
  next = subst (λ (f : ℕ). IsBatch s.blocks f batch) settled.front encoded.next

  pub behind_gate : {D : Type 0} {moment : D → ℕ} {left_since : D → ℕ → List ℕ → Type 0} (before after : D) (n : ℕ) → LeavesOnly moment left_since before after (WasTorn s.part (s.end + 1) n left) → LeavesOnly moment left_since before after OldOrNew
  behind_gate {moment = moment} {left_since = left_since} before after n run =
      weaker moment left_since before after (WasTorn s.part (s.end + 1) n left) OldOrNew
      (λ c (x, was, torn). inl (still_holds s.blocks s.before old s.end n (inside s.part gives) (inside s.part c) settled.holds settled.end (subst (λ (a : List ℕ). Torn (s.end + 1) n a (inside s.part c)) (settled.durable x was) torn)))
      run

  module _ (mid_gives : List ℕ) (put : Holds (inside s.part gives) (s.end + 1) bytes (inside s.part mid_gives)) where
    stage : IsStaged s.blocks s.before old batch s.end (inside s.part mid_gives)
    stage = staged s.blocks s.before old s.end batch bytes (inside s.part gives) (inside s.part mid_gives) encoded.is next settled.holds settled.end put

    pub at_gate : {D : Type 0} {moment : D → ℕ} {left_since : D → ℕ → List ℕ → Type 0} (before after : D) (mid_left : List ℕ → Type 0) → Only (inside s.part mid_gives) (LeftInside s.part mid_left)
        → LeavesOnly moment left_since before after (WasTorn s.part s.end 1 mid_left) → LeavesOnly moment left_since before after OldOrNew
    at_gate {moment = moment} {left_since = left_since} before after mid_left only run =
        weaker moment left_since before after (WasTorn s.part s.end 1 mid_left) OldOrNew
        (λ c (x, was, torn). old_or_new s.blocks s.before old s.end batch (inside s.part mid_gives) (inside s.part c) stage (subst (λ (a : List ℕ). Torn s.end 1 a (inside s.part c)) (only x was) torn))
        run

    pub settled_new : (new_gives : List ℕ) (new_left : List ℕ → Type 0) → Holds (inside s.part mid_gives) s.end (1 ∷ []) (inside s.part new_gives) → Only (inside s.part new_gives) (LeftInside s.part new_left)
        → IsSettled (appended s batch.front batch.images) (old ++ batch ∷ []) new_gives new_left
    settled_new new_gives new_left holds only =
        let (now, long) = new s.blocks s.before old s.end batch (inside s.part mid_gives) (inside s.part new_gives) stage holds in
        record {
          holds = now;
          end = sym long;
          front = sym (last_front-push s.before old batch);
          runs = settled.runs;
          durable = only;
        }

-- before the first call
pub before_it : {D : Type 0} {moment : D → ℕ} {left_since : D → ℕ → List ℕ → Type 0} (s : State) (old : List Batch) (batch : Batch) {gives : List ℕ} {left : List ℕ → Type 0} → IsSettled s old gives left → (disk : D) → ((c : List ℕ) → left_since disk (moment disk) c → left c)
    → LeavesOnly moment left_since disk disk (λ c. HoldsOldOrNew s.blocks s.before old batch (inside s.part c))
before_it s old batch {left = left} settled disk only_now =
    started_inside s.part (HoldsOldOrNew s.blocks s.before old batch) disk left only_now
    (λ x was. inl (subst (HoldsBatches s.blocks s.before old) (sym (settled.durable x was)) settled.holds))
