-- The numbers of the refusals, and where they come from.
use Rattle.std.specs.Prelude.{◌≡◌, ◌≢◌, ℕ, ◌<◌, ◌≤◌, Option, Some, Result, IfErr, OnOk}
use Rattle.std.proofs.Common.{Ok, Err}
use Rattle.disk_model.specs.Error as disk
use Rattle.disk_model.specs.declared.error.DiskError.TheVariants as faults
use Rattle.gate_journal.specs.declared.refusal.Refusal.{Refusal as JournalRefusal}
use Rattle.gate_journal.specs.declared.refusal.Refusal.TheVariants as journal
use Rattle.home_blocks.specs.declared.refusal.Refusal.{Refusal as HomeRefusal}
use Rattle.home_blocks.specs.declared.refusal.Refusal.TheVariants as home
use Rattle.local_store.specs.declared.refusal.Refusal.{Refusal}
use Rattle.local_store.specs.declared.refusal.Refusal.TheVariants.{Memory, Full, Broken, NotAVolume, OtherVersion, Unfinished, Backwards, Device}

-- the number of a refusal, but for a disk that has stopped
abbrev pub number_of : Refusal → Option ℕ
number_of Memory = Some 100
number_of Full = Some 121
number_of Broken = Some 122
number_of NotAVolume = Some 131
number_of OtherVersion = Some 132
number_of Unfinished = Some 133
number_of Backwards = Some 134
number_of (Device error) = disk.number_of error

-- what a refusal of the journal is told as
abbrev pub by_journal : JournalRefusal → Refusal
by_journal journal.Memory = Memory
by_journal journal.Full = Full
by_journal journal.Broken = Broken
by_journal journal.Damaged = NotAVolume
by_journal (journal.Device error) = Device error

-- and one of the home
abbrev pub by_home : HomeRefusal → Refusal
by_home home.Memory = Memory
by_home home.Full = Full
by_home home.Broken = Broken
by_home home.NotAVolume = NotAVolume
by_home home.OtherVersion = OtherVersion
by_home (home.Device error) = Device error

-- the device's
abbrev pub IsOfDevice : Refusal → Type 0
IsOfDevice (Device error) = Unit {0}
IsOfDevice _ = ⊥

-- what `format` may be refused with
abbrev pub IsOfFormatting : Refusal → Type 0
IsOfFormatting Memory = Unit {0}
IsOfFormatting (Device error) = error ≢ faults.ReadFault
IsOfFormatting _ = ⊥

-- what `open` may be refused with
abbrev pub IsOfOpening : Refusal → Type 0
IsOfOpening Memory = Unit {0}
IsOfOpening NotAVolume = Unit {0}
IsOfOpening OtherVersion = Unit {0}
IsOfOpening Unfinished = Unit {0}
IsOfOpening (Device error) = error ≢ faults.WriteFault
IsOfOpening _ = ⊥

-- what `commit` may be refused with
abbrev pub IsOfCommitting : Refusal → Type 0
IsOfCommitting Memory = Unit {0}
IsOfCommitting Full = Unit {0}
IsOfCommitting Broken = Unit {0}
IsOfCommitting Backwards = Unit {0}
IsOfCommitting (Device error) = error ≢ faults.ReadFault
IsOfCommitting _ = ⊥

-- what the making of a receipt may be refused with
abbrev pub IsOfStamping : Refusal → Type 0
IsOfStamping Memory = Unit {0}
IsOfStamping (Device error) = error ≢ faults.ReadFault
IsOfStamping _ = ⊥

-- what the journaling of a commit may be refused with
abbrev pub IsOfJournaling : JournalRefusal → Type 0
IsOfJournaling journal.Memory = Unit {0}
IsOfJournaling (journal.Device error) = error ≢ faults.ReadFault
IsOfJournaling _ = ⊥

-- in one way at most
told_once : (r : JournalRefusal) → IsProp (IsOfJournaling r)
told_once journal.Memory = hlevel
told_once journal.Full = hlevel
told_once journal.Broken = hlevel
told_once journal.Damaged = hlevel
told_once (journal.Device error) = hlevel

pub journaled_once : {T : Type 0} (r : Result T JournalRefusal) → IsProp (IfErr r IsOfJournaling)
journaled_once (Ok x) = hlevel
journaled_once (Err e) = told_once e

-- what a tick may be refused with
abbrev pub IsOfTicking : Refusal → Type 0
IsOfTicking Broken = Unit {0}
IsOfTicking (Device error) = disk.MayTell faults.WriteFault error
IsOfTicking _ = ⊥

-- what a tick of a run may be refused with
abbrev pub IsOfTickingRun : Refusal → Type 0
IsOfTickingRun Memory = Unit {0}
IsOfTickingRun Broken = Unit {0}
IsOfTickingRun (Device error) = disk.MayTell faults.WriteFault error
IsOfTickingRun _ = ⊥

-- what a checkpoint may be refused with
abbrev pub IsOfCheckpoint : Refusal → Type 0
IsOfCheckpoint Full = Unit {0}
IsOfCheckpoint Broken = Unit {0}
IsOfCheckpoint (Device error) = error ≢ faults.ReadFault
IsOfCheckpoint _ = ⊥

-- what the end of an installation may be refused with
abbrev pub IsOfFinishing : Refusal → Type 0
IsOfFinishing Broken = Unit {0}
IsOfFinishing (Device error) = error ≢ faults.ReadFault
IsOfFinishing _ = ⊥

-- what a read may be refused with
abbrev pub IsOfReading : Refusal → Type 0
IsOfReading Broken = Unit {0}
IsOfReading (Device error) = disk.MayTell faults.ReadFault error
IsOfReading _ = ⊥

-- where the refusal is the device's, the disk has failed since, unless it had no memory
abbrev pub IsCaused : ℕ → ℕ → Refusal → Type 0
IsCaused before now (Device error) = error ≢ faults.Memory → before < now
IsCaused before now _ = Unit {0}

-- it isn't the device's, unless the device had no memory
abbrev pub IsNotOfDevice : Refusal → Type 0
IsNotOfDevice (Device error) = error ≡ faults.Memory
IsNotOfDevice _ = Unit {0}

-- The disk's failures don't fall; a call that is done met none, and a refusal of the device comes of one.
pub record HasCause {T : Type 0} (before now : ℕ) (result : Result T Refusal) : Type 0 where
  pub later : before ≤ now
  pub done : OnOk result (now ≡ before)
  pub failed : IfErr result (IsCaused before now)
