-- The numbers of the refusals, and which calls give them.
use Rattle.std.specs.Prelude.{◌≡◌, ◌⊎◌, ℕ, Option, Some, IsSomeAnd}
use Rattle.configurations.specs.Refusal as chain
use Rattle.local_store.specs.Refusal as store
use Rattle.configurations.specs.declared.refusal.Refusal.TheVariants as records
use Rattle.local_store.specs.declared.refusal.Refusal.TheVariants as faults
use Rattle.recovery.specs.Refusal as choice
use Rattle.volume.specs.Refusal as sizes
use Rattle.folder.specs.declared.refusal.Refusal.{Refusal}
use Rattle.folder.specs.declared.refusal.Refusal.TheVariants.{Memory, FileFault, Sizes, Chain, Store, Choice, OthersRecorded}

-- the number of a refusal, but for a disk that has stopped
abbrev pub number_of : Refusal → Option ℕ
number_of Memory = Some 100
number_of FileFault = Some 104
number_of (Sizes refusal) = Some (sizes.number_of refusal)
number_of (Chain refusal) = chain.number_of refusal
number_of (Store refusal) = store.number_of refusal
number_of (Choice refusal) = Some (choice.number_of refusal)
number_of OthersRecorded = Some 193

-- the device's
abbrev pub IsOfDevice : Refusal → Type 0
IsOfDevice (Chain refusal) = chain.IsOfDevice refusal
IsOfDevice (Store refusal) = store.IsOfDevice refusal
IsOfDevice _ = ⊥

-- where the refusal is the device's, the disk has failed since, unless it had no memory
abbrev pub IsCausedBy : ℕ → ℕ → Refusal → Type 0
IsCausedBy before now (Chain refusal) = chain.IsCaused before now refusal
IsCausedBy before now (Store refusal) = store.IsCaused before now refusal
IsCausedBy before now _ = Unit {0}

-- memory ran out, or a device refused
abbrev pub IsExcuse : Refusal → Type 0
IsExcuse Memory = Unit {0}
IsExcuse (Chain records.Memory) = Unit {0}
IsExcuse (Chain (records.Device error)) = Unit {0}
IsExcuse (Store faults.Memory) = Unit {0}
IsExcuse (Store (faults.Device error)) = Unit {0}
IsExcuse _ = ⊥

-- it is refused, with this, unless memory runs out or a device refuses
abbrev pub IsRefusedWith : Refusal → Option Refusal → Type 0
IsRefusedWith due told = IsSomeAnd told (λ r. (r ≡ due) ⊎ IsExcuse r)

-- what is told of a disk that can't be opened for itself: out of memory, and what the device refuses
abbrev pub IsOfFinding : Refusal → Type 0
IsOfFinding Memory = Unit {0}
IsOfFinding (Store faults.Memory) = Unit {0}
IsOfFinding (Store (faults.Device error)) = Unit {0}
IsOfFinding _ = ⊥

-- what `restart` may be refused with
abbrev pub IsOfRestarting : Refusal → Type 0
IsOfRestarting Memory = Unit {0}
IsOfRestarting (Chain records.Memory) = Unit {0}
IsOfRestarting (Chain records.NoRecord) = Unit {0}
IsOfRestarting (Chain records.NotNext) = Unit {0}
IsOfRestarting (Chain (records.Device error)) = Unit {0}
IsOfRestarting (Store faults.Memory) = Unit {0}
IsOfRestarting (Store (faults.Device error)) = Unit {0}
IsOfRestarting (Choice refusal) = Unit {0}
IsOfRestarting OthersRecorded = Unit {0}
IsOfRestarting _ = ⊥

-- what the choice may be refused with
abbrev pub IsOfChoosing : Refusal → Type 0
IsOfChoosing Memory = Unit {0}
IsOfChoosing (Choice refusal) = Unit {0}
IsOfChoosing _ = ⊥

-- and with 193 too, where nobody is left out unasked
abbrev pub IsOfAllowing : Refusal → Type 0
IsOfAllowing Memory = Unit {0}
IsOfAllowing (Choice refusal) = Unit {0}
IsOfAllowing OthersRecorded = Unit {0}
IsOfAllowing _ = ⊥

-- what `format` may be refused with
abbrev pub IsOfFormatting : Refusal → Type 0
IsOfFormatting Memory = Unit {0}
IsOfFormatting FileFault = Unit {0}
IsOfFormatting (Chain refusal) = chain.IsOfCreating refusal
IsOfFormatting (Store refusal) = store.IsOfFormatting refusal
IsOfFormatting _ = ⊥

-- what the making and the opening of files may be refused with
abbrev pub IsOfFiles : Refusal → Type 0
IsOfFiles Memory = Unit {0}
IsOfFiles FileFault = Unit {0}
IsOfFiles _ = ⊥
