-- What a stop leaves of the configuration's disk while the source is recorded.
use Rattle.std.proofs.Common.{◌≡◌, ◌⊎◌, inl, inr, ◌≤◌, ℕ, List, subst}
use Rattle.configurations.specs.Record.{Record}
use Rattle.configurations.specs.Store.{HoldsOldOrNew, HoldsRecord, IsBeingMade, IsSettledConfig, State, settled_leaves}
use Rattle.disk_model.specs.Disk.{LeavesOnly}
use Rattle.disk_model.specs.Frames.{left_inside}
use Rattle.disk_model.specs.Moments.{started, then_run, weaker}
use Rattle.disk_model.specs.Part.{inside}
use Rattle.disk_model.specs.declared.part.Part.{Part}
use Rattle.gate_journal.specs.Pair.{HoldsPair}
use Rattle.gate_journal.specs.Runs.{OnlyReads}
use Rattle.gate_journal.specs.declared.batch.TheConstants.{MAX_NUMBER}
use Rattle.local_store.specs.Meaning.{Meaning}
use Rattle.folder.specs.Chain.{HasRecord, IsBeingRecorded, alone_after, config_part}
use Rattle.folder.specs.Disks.{IsSourceOf, member_of}
use Rattle.folder.specs.Restart.{IsAtEnd, IsRecordedOver}

-- whatever a stop leaves of a settled part has the store's record
pub settled_record : (store : State) (gives : List ℕ) (may_leave : List ℕ → Type 0) → IsSettledConfig store gives may_leave → store.pair.part ≡ config_part → (c : List ℕ) → may_leave c → HasRecord store.current c
settled_record store gives may_leave settled part c left =
    subst (λ (p : Part). HoldsRecord store.current (inside p c)) part (settled_leaves settled (inside store.pair.part c) (left_inside store.pair.part may_leave c left))

module _ {D : Type 0} (moment : D → ℕ) (left_since : D → ℕ → List ℕ → Type 0) where
  -- before anything is recorded
  pub unrecorded : (disk : D) (store : State) (new : Record) (gives : List ℕ) (may_leave : List ℕ → Type 0) → IsSettledConfig store gives may_leave → store.pair.part ≡ config_part → ((c : List ℕ) → left_since disk (moment disk) c → may_leave c)
      → LeavesOnly moment left_since disk disk (λ c. HoldsOldOrNew store.current new (inside config_part c))
  unrecorded disk store new gives may_leave settled part only_now =
      started moment left_since disk (λ c. HoldsOldOrNew store.current new (inside config_part c)) (λ c left. inl (settled_record store gives may_leave settled part c (only_now c left)))

  -- what a run of the store leaves, told of this part and this record
  pub recorded_there : (old new : D) (r next next' : Record) (part part' : Part) → next ≡ next' → part ≡ part' → LeavesOnly moment left_since old new (λ c. HoldsOldOrNew r next (inside part c)) → LeavesOnly moment left_since old new (λ c. HoldsOldOrNew r next' (inside part' c))
  recorded_there old new r next next' part part' same there run =
      subst (λ (n : Record). LeavesOnly moment left_since old new (λ c. HoldsOldOrNew r n (inside part' c))) same (subst (λ (p : Part). LeavesOnly moment left_since old new (λ c. HoldsOldOrNew r next (inside p c))) there run)

  -- the disk was only read
  pub only_read : (gives : D → List ℕ) (may_leave : D → List ℕ → Type 0) (old mid : D) (disks : List (List ℕ)) → OnlyReads gives may_leave moment left_since old mid → LeavesOnly moment left_since old mid (IsRecordedOver (may_leave old) (gives old) disks)
  only_read gives may_leave old mid disks reads = weaker moment left_since old mid (may_leave old) (IsRecordedOver (may_leave old) (gives old) disks) (λ c left. inl left) reads.moments

  -- the disk was read, and then the source was recorded
  pub recorded_over : (gives : D → List ℕ) (may_leave : D → List ℕ → Type 0) (old mid new : D) (disks : List (List ℕ)) (place : ℕ) (r : Record) (m : Meaning) → OnlyReads gives may_leave moment left_since old mid → HasRecord r (gives old)
      → IsSourceOf r.members disks place m → LeavesOnly moment left_since mid new (λ c. HoldsOldOrNew r (alone_after r (member_of m)) (inside config_part c)) → LeavesOnly moment left_since old new (IsRecordedOver (may_leave old) (gives old) disks)
  recorded_over gives may_leave old mid new disks place r m reads has source run =
      then_run moment left_since old mid new (IsRecordedOver (may_leave old) (gives old) disks)
      (weaker moment left_since old mid (may_leave old) (IsRecordedOver (may_leave old) (gives old) disks) (λ c left. inl left) reads.moments)
      (weaker moment left_since mid new (λ c. HoldsOldOrNew r (alone_after r (member_of m)) (inside config_part c)) (IsRecordedOver (may_leave old) (gives old) disks) (λ c either. inr (r, place, m, has, source, either)) run)

-- the first record is being made
pub being_recorded : {D : Type 0} (moment : D → ℕ) (left_since : D → ℕ → List ℕ → Type 0) (old new : D) (may_leave : List ℕ → Type 0) (part : Part) (made first : Record) → part ≡ config_part → made ≡ first
    → LeavesOnly moment left_since old new (IsBeingMade part made may_leave) → LeavesOnly moment left_since old new (IsBeingRecorded first may_leave)
being_recorded moment left_since old new may_leave part made first there is run =
    weaker moment left_since old new (IsBeingMade config_part first may_leave) (IsBeingRecorded first may_leave) (λ c being. inr being)
    (subst (λ (r : Record). LeavesOnly moment left_since old new (IsBeingMade config_part r may_leave)) is
    (subst (λ (p : Part). LeavesOnly moment left_since old new (IsBeingMade p made may_leave)) there run))

-- and before anything of it is written
pub not_recorded : {D : Type 0} (moment : D → ℕ) (left_since : D → ℕ → List ℕ → Type 0) (disk : D) (first : Record) (may_leave : List ℕ → Type 0) → ((c : List ℕ) → left_since disk (moment disk) c → may_leave c)
    → LeavesOnly moment left_since disk disk (IsBeingRecorded first may_leave)
not_recorded moment left_since disk first may_leave only_now = started moment left_since disk (IsBeingRecorded first may_leave) (λ c left. inl (only_now c left))

-- a settled store with no epoch or no number left
pub at_end : (store : State) (gives config : List ℕ) (may_leave : List ℕ → Type 0) → IsSettledConfig store gives may_leave → store.pair.part ≡ config_part → gives ≡ config
    → (MAX_NUMBER ≤ store.current.epoch) ⊎ (MAX_NUMBER ≤ store.pair.number) → IsAtEnd config
at_end store gives config may_leave settled part same end = record {
  slots = settled.slots;
  holds = subst (λ (bytes : List ℕ). HoldsPair settled.slots (inside config_part bytes)) same (subst (λ (p : Part). HoldsPair settled.slots (inside p gives)) part settled.pair.holds);
  old = store.current;
  newer = settled.newer;
  end = subst (λ (n : ℕ). (MAX_NUMBER ≤ store.current.epoch) ⊎ (MAX_NUMBER ≤ n)) settled.pair.number end;
}
