-- The numbers of the refusals, and where they come from.
use Rattle.std.specs.Prelude.{◌≡◌, ◌≢◌, ℕ, ◌<◌, ◌≤◌, Option, Some, Result, IfErr, OnOk}
use Rattle.disk_model.specs.Error as disk
use Rattle.disk_model.specs.declared.error.DiskError.TheVariants as faults
use Rattle.gate_journal.specs.declared.refusal.Refusal.{Refusal}
use Rattle.gate_journal.specs.declared.refusal.Refusal.TheVariants.{Memory, Full, Broken, Damaged, Device}

-- the number of a refusal, but for a disk that has stopped
abbrev pub number_of : Refusal → Option ℕ
number_of Memory = Some 100
number_of Full = Some 121
number_of Broken = Some 122
number_of Damaged = Some 123
number_of (Device error) = disk.number_of error

-- the device's
abbrev pub IsOfDevice : Refusal → Type 0
IsOfDevice (Device error) = Unit {0}
IsOfDevice _ = ⊥

-- a write or a sync failed
abbrev pub IsOfWriting : Refusal → Type 0
IsOfWriting (Device error) = error ≢ faults.ReadFault
IsOfWriting _ = ⊥

-- what `append` may be refused with
abbrev pub IsOfAppending : Refusal → Type 0
IsOfAppending Damaged = ⊥
IsOfAppending (Device error) = error ≢ faults.ReadFault
IsOfAppending _ = Unit {0}

-- what a store may be refused with
abbrev pub IsOfStoring : Refusal → Type 0
IsOfStoring Full = Unit {0}
IsOfStoring Broken = Unit {0}
IsOfStoring (Device error) = error ≢ faults.ReadFault
IsOfStoring _ = ⊥

-- what a load may be refused with
abbrev pub IsOfLoading : Refusal → Type 0
IsOfLoading Memory = Unit {0}
IsOfLoading (Device error) = error ≢ faults.WriteFault
IsOfLoading _ = ⊥

-- what a call may be refused with that only reads
abbrev pub IsOfReading : Refusal → Type 0
IsOfReading Memory = Unit {0}
IsOfReading Damaged = Unit {0}
IsOfReading (Device error) = disk.MayTell faults.ReadFault error
IsOfReading _ = ⊥

-- what `open` may be refused with
abbrev pub IsOfOpening : Refusal → Type 0
IsOfOpening Memory = Unit {0}
IsOfOpening Damaged = Unit {0}
IsOfOpening (Device error) = error ≢ faults.WriteFault
IsOfOpening _ = ⊥

-- where the refusal is the device's, the disk has failed since, unless it had no memory
abbrev pub IsCaused : ℕ → ℕ → Refusal → Type 0
IsCaused before now (Device error) = error ≢ faults.Memory → before < now
IsCaused before now _ = Unit {0}

-- The disk's failures don't fall; a call that is done met none, and a refusal of the device comes of one.
pub record HasCause {T : Type 0} (before now : ℕ) (result : Result T Refusal) : Type 0 where
  pub later : before ≤ now
  pub done : OnOk result (now ≡ before)
  pub failed : IfErr result (IsCaused before now)
