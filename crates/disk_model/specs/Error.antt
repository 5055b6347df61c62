-- The numbers of refusals, and where an error comes from.
use Rattle.std.specs.Prelude.{◌≡◌, ◌≢◌, ◌⊎◌, ℕ, ◌<◌, ◌≤◌, Option, Some, None, Result, IfErr, OnOk}
use Rattle.disk_model.specs.declared.error.DiskError.{DiskError}
use Rattle.disk_model.specs.declared.error.DiskError.TheVariants.{Memory, ReadFault, WriteFault, SyncFault, Stopped}

-- the number of a refusal
abbrev pub number_of : DiskError → Option ℕ
number_of Memory = Some 100
number_of ReadFault = Some 101
number_of WriteFault = Some 102
number_of SyncFault = Some 103
number_of Stopped = None

-- what a call with this fault may answer in place of its work
abbrev pub MayTell : DiskError → DiskError → Type 0
MayTell fault e = (e ≡ Memory) ⊎ (e ≡ Stopped) ⊎ (e ≡ fault)

-- A call with this fault tells no other, and any error but `Memory` only where the disk has failed since. One that is
-- done leaves the count of failures as it was.
pub record HasCause {T : Type 0} (fault : DiskError) (before now : ℕ) (result : Result T DiskError) : Type 0 where
  pub later : before ≤ now
  pub done : OnOk result (now ≡ before)
  pub told : IfErr result (MayTell fault)
  pub failed : IfErr result (λ e. e ≢ Memory → before < now)
