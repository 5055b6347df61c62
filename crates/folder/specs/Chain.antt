-- The records of a folder's chain, and the bytes of the disk that has them.
use Rattle.std.specs.Prelude.{◌≡◌, ◌⊎◌, ℕ, ◌+◌, ◌<◌, Bool, true, false, List, [], ◌∷◌, length, map}
use Rattle.std.specs.List.{range_with_len}
use Rattle.configurations.specs.Record.{Record}
use Rattle.configurations.specs.Store.{HoldsNone, HoldsRecord, IsBeingMade}
use Rattle.configurations.specs.declared.member.Member.{Member}
use Rattle.disk_model.specs.Part.{inside}
use Rattle.disk_model.specs.declared.part.Part.{Part}
use Rattle.home_blocks.specs.Places.{superblock_fits}

-- the part of the configuration's disk that has the record: its first 8,192 bytes
abbrev pub config_part : Part
config_part = record { start = 0; len = 8192; fits = superblock_fits }

-- the bytes of the configuration's disk have this record
abbrev pub HasRecord : Record → List ℕ → Type 0
HasRecord r bytes = HoldsRecord r (inside config_part bytes)

-- they have none, or there is no room for one on a disk of this size
abbrev pub HasNoRecord : ℕ → List ℕ → Type 0
HasNoRecord size bytes = (size < config_part.len) ⊎ HoldsNone (inside config_part bytes)

-- while the first record is made, a stop leaves what it might have left before, with both slots cleared at most; or the
-- record
abbrev pub IsBeingRecorded : Record → (List ℕ → Type 0) → List ℕ → Type 0
IsBeingRecorded first may_leave c = may_leave c ⊎ IsBeingMade config_part first may_leave c

-- the member at a slot whose disk was formatted
abbrev pub first_member : ℕ → Member
first_member slot = record { slot = slot; incarnation = 1 }

-- the record of a folder that was formatted: epoch 1, and so many members, at the slots from 0 up
abbrev pub first_record : ℕ → Record
first_record count = record { epoch = 1; members = map first_member (range_with_len 0 count) }

-- the record behind this one that has the member alone
abbrev pub alone_after : Record → Member → Record
alone_after old member = record { epoch = old.epoch + 1; members = member ∷ [] }

-- the chain has more than one member, and nobody asked that one go on alone: that would leave the others out
abbrev pub LeavesOut : Bool → Record → Type 0
LeavesOut alone r = (alone ≡ false) × (1 < length r.members)

-- somebody asked that one go on alone, or the chain has one member
abbrev pub MayGoOn : Bool → Record → Type 0
MayGoOn alone r = (alone ≡ true) ⊎ (length r.members ≡ 1)
