-- What contracts see of a home, and what its disk then holds.
use Rattle.std.specs.Prelude.{◌≡◌, ◌≢◌, ◌⊎◌, ℕ, ◌-◌, ◌<◌, ◌≤◌, List, length, Some, None}
use Rattle.std.proofs.Common.{refl, subst, sym}
use Rattle.disk_model.specs.Frames.{settled_still}
use Rattle.disk_model.specs.Part.{inside, KeepsPart}
use Rattle.disk_model.specs.declared.part.Part.{Part}
use Rattle.gate_journal.specs.Pair.{HasGate, HoldsPair, IsSettledPair, Pair, Slots, newest, slot_bytes}
use Rattle.gate_journal.specs.declared.batch.TheConstants.{MAX_NUMBER}
use Rattle.home_blocks.specs.Places.{disk_size_of, superblock_part}
use Rattle.home_blocks.specs.Superblock.{HasOtherVersion, IsNoSuperblock, IsSuperblock, Superblock, superblock_encoding}
use Rattle.home_blocks.specs.declared.version.Version.TheVariants.{One}

-- the pair that keeps a disk's superblock, and the superblock
pub record State : Type 0 where
  pub pair : Pair
  pub superblock : Superblock

-- the newer open slot of a disk's first part holds this payload
pub record HoldsPayload (payload bytes : List ℕ) : Type 0 where
  pub slots : Slots
  pub holds : HoldsPair slots (inside superblock_part bytes)
  pub number : ℕ
  pub is_newest : newest slots ≡ Some (record { number = number; payload = payload })

-- no slot of it is open
pub record HoldsNoPayload (bytes : List ℕ) : Type 0 where
  pub slots : Slots
  pub holds : HoldsPair slots (inside superblock_part bytes)
  pub is_none : newest slots ≡ None

-- where the superblock stored with this number is one of version 1, a number is left for the one of version 2
abbrev pub CanMigrate : Superblock → ℕ → Type 0
CanMigrate sb number = sb.version ≡ One → number ≢ MAX_NUMBER

-- the disk's bytes hold this superblock
pub record HoldsSuperblock (sb : Superblock) (bytes : List ℕ) : Type 0 where
  pub is : IsSuperblock sb
  pub payload : HoldsPayload (superblock_encoding sb) bytes
  pub migrates : CanMigrate sb payload.number

-- the disk's bytes are those of a volume with this superblock: they hold it, and have room for what it says
pub record IsVolume (sb : Superblock) (bytes : List ℕ) : Type 0 where
  pub holds : HoldsSuperblock sb bytes
  pub room : disk_size_of sb.geometry ≤ length bytes

-- they are those of a volume of another version
pub record IsOtherVersion (bytes : List ℕ) : Type 0 where
  pub room : 8192 ≤ length bytes
  pub payload : List ℕ
  pub holds : HoldsPayload payload bytes
  pub other : HasOtherVersion payload

-- they hold a payload that is no superblock's
pub record HoldsOther (bytes : List ℕ) : Type 0 where
  pub payload : List ℕ
  pub holds : HoldsPayload payload bytes
  pub no_superblock : IsNoSuperblock payload

-- they hold a superblock that says more bytes than there are
pub record IsTooShort (bytes : List ℕ) : Type 0 where
  pub superblock : Superblock
  pub holds : HoldsSuperblock superblock bytes
  pub short : length bytes < disk_size_of superblock.geometry

-- they hold a superblock of version 1, and no number is left for another
pub record IsAtEnd (bytes : List ℕ) : Type 0 where
  pub superblock : Superblock
  pub is : IsSuperblock superblock
  pub holds : HoldsPayload (superblock_encoding superblock) bytes
  pub old : superblock.version ≡ One
  pub last : holds.number ≡ MAX_NUMBER

-- they are no volume's: there is no room for a superblock, no slot is open, the payload is no superblock's, it is one of
-- version 1 with the greatest number, or the disk is too short for it
abbrev pub IsNoVolume : List ℕ → Type 0
IsNoVolume bytes = (length bytes < 8192) ⊎ (HoldsNoPayload bytes ⊎ (HoldsOther bytes ⊎ (IsAtEnd bytes ⊎ IsTooShort bytes)))

-- The disk holds the home's superblock, the home's pair knows its slots, and a stop now leaves them as they are.
pub record IsSettledHome (home : State) (gives : List ℕ) (may_leave : List ℕ → Type 0) : Type 0 where
  pub is : IsSuperblock home.superblock
  pub place : home.pair.part ≡ superblock_part
  pub slots : Slots
  pub pair : IsSettledPair home.pair slots gives may_leave
  pub is_newest : newest slots ≡ Some (record { number = home.pair.number; payload = superblock_encoding home.superblock })
  pub migrates : CanMigrate home.superblock home.pair.number

-- a settled home's disk holds its superblock: lemmas for the crates above
pub settled_holds : {home : State} {gives : List ℕ} {may_leave : List ℕ → Type 0} → IsSettledHome home gives may_leave → HoldsSuperblock home.superblock gives
settled_holds {home} {gives} settled = record {
  is = settled.is;
  payload = record {
    slots = settled.slots;
    holds = subst (λ (part : Part). HoldsPair settled.slots (inside part gives)) settled.place settled.pair.holds;
    number = home.pair.number;
    is_newest = settled.is_newest;
  };
  migrates = settled.migrates;
}

-- and so does whatever a stop may leave
pub settled_leaves : {home : State} {gives : List ℕ} {may_leave : List ℕ → Type 0} → IsSettledHome home gives may_leave → (c : List ℕ) → may_leave c → HoldsSuperblock home.superblock c
settled_leaves {home} {gives} settled c left = record {
  is = settled.is;
  payload = record {
    slots = settled.slots;
    holds = subst (λ (part : Part). HoldsPair settled.slots (inside part c)) settled.place
        (subst (HoldsPair settled.slots) (sym (settled.pair.durable (inside home.pair.part c) (c, left, refl))) settled.pair.holds);
    number = home.pair.number;
    is_newest = settled.is_newest;
  };
  migrates = settled.migrates;
}

-- a call that keeps the superblock's part keeps a home settled
pub still_settled_home : {home : State} {old new : List ℕ} {left_old left_new : List ℕ → Type 0} → KeepsPart superblock_part old new left_old left_new → IsSettledHome home old left_old → IsSettledHome home new left_new
still_settled_home {home} {old} {new} {left_old} {left_new} keeps settled =
    let here : KeepsPart home.pair.part old new left_old left_new = subst (λ (part : Part). KeepsPart part old new left_old left_new) (sym settled.place) keeps in
    let same = sym here.gives in
    record {
      is = settled.is;
      place = settled.place;
      slots = settled.slots;
      pair = record {
        holds = subst (HoldsPair settled.slots) same settled.pair.holds;
        number = settled.pair.number;
        into = settled.pair.into;
        gate = subst (λ (b : List ℕ). HasGate home.pair.is_closed (slot_bytes home.pair.into b)) same settled.pair.gate;
        other_gate = subst (λ (b : List ℕ). HasGate home.pair.other_is_closed (slot_bytes (1 - home.pair.into) b)) same settled.pair.other_gate;
        runs = settled.pair.runs;
        durable = settled_still here settled.pair.durable;
      };
      is_newest = settled.is_newest;
      migrates = settled.migrates;
    }
