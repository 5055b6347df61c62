-- The numbers of the refusals, and where they come from.
use Rattle.std.specs.Prelude.{◌≡◌, ◌≢◌, ℕ, ◌<◌, ◌≤◌, Option, Some, Result, IfErr, OnOk}
use Rattle.disk_model.specs.Error as disk
use Rattle.disk_model.specs.declared.error.DiskError.TheVariants as faults
use Rattle.gate_journal.specs.declared.refusal.Refusal.{Refusal as PairRefusal}
use Rattle.gate_journal.specs.declared.refusal.Refusal.TheVariants.{Memory as PairMemory, Full as PairFull, Broken as PairBroken, Damaged as PairDamaged, Device as PairDevice}
use Rattle.configurations.specs.declared.refusal.Refusal.{Refusal}
use Rattle.configurations.specs.declared.refusal.Refusal.TheVariants.{Memory, Broken, NoRecord, NotNext, BadMembers, Device}

-- the number of a refusal, but for a disk that has stopped
abbrev pub number_of : Refusal → Option ℕ
number_of Memory = Some 100
number_of Broken = Some 122
number_of NoRecord = Some 161
number_of NotNext = Some 162
number_of BadMembers = Some 163
number_of (Device error) = disk.number_of error

-- what a refusal of the pair comes to: where the pair has no number left, no record is the next; of damage, which is that
-- of a journal, it never speaks
abbrev pub of_pair : PairRefusal → Refusal
of_pair PairMemory = Memory
of_pair PairFull = NotNext
of_pair PairBroken = Broken
of_pair PairDamaged = NoRecord
of_pair (PairDevice error) = Device error

-- the device's
abbrev pub IsOfDevice : Refusal → Type 0
IsOfDevice (Device error) = Unit {0}
IsOfDevice _ = ⊥

-- what `create` may be refused with
abbrev pub IsOfCreating : Refusal → Type 0
IsOfCreating Memory = Unit {0}
IsOfCreating (Device error) = error ≢ faults.ReadFault
IsOfCreating _ = ⊥

-- what `open` may be refused with
abbrev pub IsOfOpening : Refusal → Type 0
IsOfOpening Memory = Unit {0}
IsOfOpening NoRecord = Unit {0}
IsOfOpening (Device error) = error ≢ faults.WriteFault
IsOfOpening _ = ⊥

-- what `begin_record` may be refused with
abbrev pub IsOfBeginning : Refusal → Type 0
IsOfBeginning Broken = Unit {0}
IsOfBeginning NotNext = Unit {0}
IsOfBeginning (Device error) = error ≢ faults.ReadFault
IsOfBeginning _ = ⊥

-- what `end_record` and `record` may be refused with
abbrev pub IsOfRecording : Refusal → Type 0
IsOfRecording Memory = Unit {0}
IsOfRecording Broken = Unit {0}
IsOfRecording NotNext = Unit {0}
IsOfRecording (Device error) = error ≢ faults.ReadFault
IsOfRecording _ = ⊥

-- where the refusal is the device's, the disk has failed since, unless it had no memory
abbrev pub IsCaused : ℕ → ℕ → Refusal → Type 0
IsCaused before now (Device error) = error ≢ faults.Memory → before < now
IsCaused before now _ = Unit {0}

-- The disk's failures don't fall; a call that is done met none, and a refusal of the device comes of one.
pub record HasCause {T : Type 0} (before now : ℕ) (result : Result T Refusal) : Type 0 where
  pub later : before ≤ now
  pub done : OnOk result (now ≡ before)
  pub failed : IfErr result (IsCaused before now)
