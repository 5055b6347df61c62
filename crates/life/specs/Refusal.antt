-- Why a world doesn't begin, or doesn't go on.
use Rattle.std.specs.Prelude.{◌≡◌, ◌⊎◌, ℕ, true}
use Rattle.disk_model.specs.Memory.{has_stopped}
use Rattle.disk_model.specs.declared.error.DiskError.TheVariants as faults
use Rattle.disk_model.specs.declared.memory.MemDisk.{MemDisk}
use Rattle.configurations.specs.Refusal as of_config
use Rattle.configurations.specs.declared.refusal.Refusal as config
use Rattle.configurations.specs.declared.refusal.Refusal.TheVariants as configs
use Rattle.local_store.specs.Refusal.{IsCaused, IsOfOpening}
use Rattle.local_store.specs.declared.refusal.Refusal as store
use Rattle.local_store.specs.declared.refusal.Refusal.TheVariants as stores
use Rattle.life.specs.declared.refusal.Refusal.{Refusal}
use Rattle.life.specs.declared.refusal.Refusal.TheVariants.{Config, Memory, NoneReturned, NotInChain, Store}

-- memory ran out, in a store or a disk too
abbrev pub IsOfMemory : Refusal → Type 0
IsOfMemory Memory = Unit {0}
IsOfMemory (Store stores.Memory) = Unit {0}
IsOfMemory (Store (stores.Device error)) = error ≡ faults.Memory
IsOfMemory (Config configs.Memory) = Unit {0}
IsOfMemory (Config (configs.Device error)) = error ≡ faults.Memory
IsOfMemory _ = ⊥

-- what it may be refused with by the record: memory, no record, none that can follow, or the device's error
abbrev pub IsOfRecord : config.Refusal → Type 0
IsOfRecord configs.Memory = Unit {0}
IsOfRecord configs.NoRecord = Unit {0}
IsOfRecord configs.NotNext = Unit {0}
IsOfRecord (configs.Device error) = Unit {0}
IsOfRecord _ = ⊥

-- what `recover` may be refused with
abbrev pub IsOfRecovering : Refusal → Type 0
IsOfRecovering Memory = Unit {0}
IsOfRecovering NoneReturned = Unit {0}
IsOfRecovering NotInChain = Unit {0}
IsOfRecovering (Store (stores.Device error)) = Unit {0}
IsOfRecovering (Store refusal) = IsOfOpening refusal
IsOfRecovering (Config refusal) = IsOfRecord refusal

-- where the refusal is the device's, the member's disk has failed since, unless it had no memory
abbrev pub IsCausedBy : (before now : ℕ) → Refusal → Type 0
IsCausedBy before now (Store refusal) = IsCaused before now refusal
IsCausedBy before now _ = Unit {0}

-- or the configuration's disk has
abbrev pub IsCausedByConfig : (before now : ℕ) → Refusal → Type 0
IsCausedByConfig before now (Config refusal) = of_config.IsCaused before now refusal
IsCausedByConfig before now _ = Unit {0}

-- the disk met its stop, and says so
abbrev pub IsStopOf : MemDisk → Refusal → Type 0
IsStopOf disk refusal = (refusal ≡ Store (stores.Device faults.Stopped)) × (has_stopped disk ≡ true)

abbrev pub IsStopOfConfig : MemDisk → Refusal → Type 0
IsStopOfConfig config refusal = (refusal ≡ Config (configs.Device faults.Stopped)) × (has_stopped config ≡ true)

-- what the store of a member's disk may be refused with: its device's error, or memory that runs out
abbrev pub IsOfReopening : store.Refusal → Type 0
IsOfReopening stores.Memory = Unit {0}
IsOfReopening (stores.Device error) = Unit {0}
IsOfReopening _ = ⊥

-- what the return of a member's disk may be refused with
abbrev pub IsOfReturning : Refusal → Type 0
IsOfReturning Memory = Unit {0}
IsOfReturning NoneReturned = Unit {0}
IsOfReturning NotInChain = Unit {0}
IsOfReturning (Store refusal) = IsOfReopening refusal
IsOfReturning (Config configs.Memory) = Unit {0}
IsOfReturning (Config configs.NotNext) = Unit {0}
IsOfReturning (Config (configs.Device error)) = Unit {0}
IsOfReturning (Config _) = ⊥

-- or, where no disk can fail any more: memory ran out, or the disk isn't of the chain, or no record can follow
abbrev pub IsOfCalm : Refusal → Type 0
IsOfCalm refusal = IsOfMemory refusal ⊎ ((refusal ≡ NotInChain) ⊎ (refusal ≡ Config configs.NotNext))

-- what disks that return may be refused with as they are opened
abbrev pub IsOfLooking : Refusal → Type 0
IsOfLooking Memory = Unit {0}
IsOfLooking (Store refusal) = IsOfReopening refusal
IsOfLooking _ = ⊥

-- why none of several disks was chosen: memory, no record, a device's error, or none returned, or none is the chain's
abbrev pub IsOfChoosing : Refusal → Type 0
IsOfChoosing Memory = Unit {0}
IsOfChoosing NoneReturned = Unit {0}
IsOfChoosing NotInChain = Unit {0}
IsOfChoosing (Store refusal) = IsOfReopening refusal
IsOfChoosing (Config configs.Memory) = Unit {0}
IsOfChoosing (Config configs.NoRecord) = Unit {0}
IsOfChoosing (Config (configs.Device error)) = Unit {0}
IsOfChoosing (Config _) = ⊥

-- or, where a record stands, and no disk can fail any more
abbrev pub IsOfCalmChoice : Refusal → Type 0
IsOfCalmChoice refusal = IsOfMemory refusal ⊎ ((refusal ≡ NoneReturned) ⊎ (refusal ≡ NotInChain))
