-- The numbers of the refusals, and where they come from.
use Rattle.std.specs.Prelude.{◌≡◌, ◌≢◌, ℕ, ◌<◌, ◌≤◌, Option, Some, Result, IfErr, OnOk}
use Rattle.disk_model.specs.Error as disk
use Rattle.disk_model.specs.declared.error.DiskError.TheVariants as faults
use Rattle.gate_journal.specs.declared.refusal.Refusal.{Refusal as PairRefusal}
use Rattle.gate_journal.specs.declared.refusal.Refusal.TheVariants as pair
use Rattle.home_blocks.specs.declared.refusal.Refusal.{Refusal}
use Rattle.home_blocks.specs.declared.refusal.Refusal.TheVariants.{Memory, Full, Broken, NotAVolume, OtherVersion, Device}

-- the number of a refusal, but for a disk that has stopped
abbrev pub number_of : Refusal → Option ℕ
number_of Memory = Some 100
number_of Full = Some 121
number_of Broken = Some 122
number_of NotAVolume = Some 131
number_of OtherVersion = Some 132
number_of (Device error) = disk.number_of error

-- what a refusal of the pair is told as
abbrev pub refused_by : PairRefusal → Refusal
refused_by pair.Memory = Memory
refused_by pair.Full = Full
refused_by pair.Broken = Broken
refused_by pair.Damaged = NotAVolume
refused_by (pair.Device error) = Device error

-- the device's
abbrev pub IsOfDevice : Refusal → Type 0
IsOfDevice (Device error) = Unit {0}
IsOfDevice _ = ⊥

-- a write or a sync failed
abbrev pub IsOfWriting : Refusal → Type 0
IsOfWriting (Device error) = error ≢ faults.ReadFault
IsOfWriting _ = ⊥

-- what `mark` may be refused with
abbrev pub IsOfMarking : Refusal → Type 0
IsOfMarking Full = Unit {0}
IsOfMarking Broken = Unit {0}
IsOfMarking (Device error) = error ≢ faults.ReadFault
IsOfMarking _ = ⊥

-- what reading a superblock may be refused with
abbrev pub IsOfReading : Refusal → Type 0
IsOfReading NotAVolume = Unit {0}
IsOfReading OtherVersion = Unit {0}
IsOfReading _ = ⊥

-- what `open` may be refused with
abbrev pub IsOfOpening : Refusal → Type 0
IsOfOpening Memory = Unit {0}
IsOfOpening NotAVolume = Unit {0}
IsOfOpening OtherVersion = Unit {0}
IsOfOpening (Device error) = error ≢ faults.WriteFault
IsOfOpening _ = ⊥

-- where the refusal is the device's, the disk has failed since, unless it had no memory
abbrev pub IsCaused : ℕ → ℕ → Refusal → Type 0
IsCaused before now (Device error) = error ≢ faults.Memory → before < now
IsCaused before now _ = Unit {0}

-- The disk's failures don't fall; a call that is done met none, and a refusal of the device comes of one.
pub record HasCause {T : Type 0} (before now : ℕ) (result : Result T Refusal) : Type 0 where
  pub later : before ≤ now
  pub done : OnOk result (now ≡ before)
  pub failed : IfErr result (IsCaused before now)
