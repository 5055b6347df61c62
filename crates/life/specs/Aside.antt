-- What stands outside of a chain behind a joining that ended early, by an abandonment or a cut: the disk on its way, or that of who joined.
use Rattle.std.specs.Prelude.{◌≡◌, ◌≢◌, ◌↔◌, ℕ, Option, None, Some, List, ◌++◌}
use Rattle.candidate.specs.declared.candidate.Candidate.{Candidate}
use Rattle.candidate.specs.declared.candidate.Candidate.TheVariants.{Copying, Counted, Nobody, Refused, Whole}
use Rattle.chain.specs.Opening.{recorded_in}
use Rattle.configurations.specs.declared.member.Member.{Member}
use Rattle.disk_model.specs.Memory.{may_be_left}
use Rattle.disk_model.specs.declared.memory.MemDisk.{MemDisk}
use Rattle.joining.specs.Copying.{IsForMember, IsOf, MeansNone, MeansOnly, Seen}
use Rattle.local_store.specs.About.{About}
use Rattle.rejoin_catchup.specs.Receiving.{disk_of}
use Rattle.life.specs.Managed.{Managed}
use Rattle.life.specs.declared.managed.SlotDisk.{SlotDisk}

-- A disk that was being given the volume is left, its slot's, and whatever a stop may leave of it means nothing.
pub record IsLeftCopying (c : Seen MemDisk) (left : Option (SlotDisk MemDisk)) : Type 0 where
  pub member : Member
  pub disk_is : MemDisk
  pub its : IsForMember member c.receiver
  pub here : disk_of c.receiver ≡ Some disk_is
  pub unmeant : MeansNone may_be_left disk_is
  pub are : left ≡ Some (record { slot = member.slot; disk = disk_is })

-- A disk of this member is left if its incarnation is this one, the next epoch; whatever a stop may leave of it means nothing, or a volume of
-- that member. Any other is gone.
pub record IsLeftIfNext (next : ℕ) (member : Member) (Its : MemDisk → Type 0) (left : Option (SlotDisk MemDisk)) : Type 0 where
  pub kept : member.incarnation ≡ next → (disk : MemDisk) × Its disk × MeansOnly may_be_left (IsOf member) disk × (left ≡ Some (record { slot = member.slot; disk = disk }))
  pub gone : member.incarnation ≢ next → left ≡ None

-- a stop may leave of the disk what it may leave of the store
abbrev pub IsDiskOf : {S : Type 0} → (S → List ℕ → Type 0) → S → MemDisk → Type 0
IsDiskOf may_leave_now store disk = (bytes : List ℕ) → may_be_left disk bytes ↔ may_leave_now store bytes

-- what is left of a store, if there is one
abbrev pub IsStoreLeft : {S : Type 0} → (S → About) → (S → List ℕ → Type 0) → ℕ → Option S → Option (SlotDisk MemDisk) → Type 0
IsStoreLeft about may_leave_now next None left = left ≡ None
IsStoreLeft about may_leave_now next (Some store) left = IsLeftIfNext next (recorded_in about store) (IsDiskOf may_leave_now store) left

-- what is left of a disk that refused, of which it is known whose it is, or not
abbrev pub IsRefusedLeft : ℕ → Option Member → MemDisk → Option (SlotDisk MemDisk) → Type 0
IsRefusedLeft next None refused left = left ≡ None
IsRefusedLeft next (Some member) refused left = IsLeftIfNext next member (λ disk. disk ≡ refused) left

-- what is left of the disk on its way
abbrev pub IsSetAside : {S : Type 0} → (S → About) → (S → List ℕ → Type 0) → ℕ → Candidate S MemDisk → Option (SlotDisk MemDisk) → Type 0
IsSetAside about may_leave_now next (Copying c) left = IsLeftCopying c left
IsSetAside about may_leave_now next Nobody left = left ≡ None
IsSetAside about may_leave_now next (Whole w) left = IsStoreLeft about may_leave_now next (Some w.store) left
IsSetAside about may_leave_now next Counted left = left ≡ None
IsSetAside about may_leave_now next (Refused r) left = IsRefusedLeft next r.member r.disk left

-- the disks outside stay, and others come behind them
pub record GrowsOutside {S : Type 0} (old new : Managed S) : Type 0 where
  pub more : List (SlotDisk MemDisk)
  pub are : new.outside ≡ old.outside ++ more
