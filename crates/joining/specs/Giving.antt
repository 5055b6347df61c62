-- What becomes of a copying to whose disk a block is given, or the end.
use Rattle.std.specs.Prelude.{◌≡◌, ◌⊎◌, ℕ, Bool, ◌&&◌, ◌||◌, ◌==◌, not, true, false, is_some, Some, None, Result, Ok, Err, List, length}
use Rattle.flush_barrier.specs.declared.session_id.SessionId.{SessionId}
use Rattle.home_blocks.specs.Home.{HoldsSuperblock}
use Rattle.home_blocks.specs.Superblock.{Superblock}
use Rattle.home_blocks.specs.declared.version.Version.TheVariants.{One}
use Rattle.local_store.specs.About.{About}
use Rattle.local_store.specs.Installer.{MeansNothing, finished_meaning}
use Rattle.local_store.specs.Meaning.{Means}
use Rattle.local_store.specs.Refusal.{IsOfFinishing, IsOfOpening}
use Rattle.local_store.specs.declared.refusal.Refusal.{Refusal}
use Rattle.local_store.specs.declared.refusal.Refusal.TheVariants.{Broken, Device, Memory, OtherVersion}
use Rattle.rejoin_catchup.specs.Sending.{due_of, gave}
use Rattle.chain.specs.Chain.{Changes, RestsAt}
use Rattle.chain.specs.Holding.{HasReadBlock, StopsReading}
use Rattle.chain.specs.Member.{HasCalled}
use Rattle.clients.specs.Clients.{no_one}
use Rattle.world.specs.Telling.{Answers, Moves, handed_some}
use Rattle.world.specs.World as worlds
use Rattle.joining.specs.Copying.{Seen}
use Rattle.joining.specs.declared.refusal.NotGiven.{NotGiven}
use Rattle.joining.specs.declared.refusal.NotGiven.TheVariants.{Stopped, Refused}

-- it isn't broken, and a block is due
abbrev pub may_give : {D : Type 0} → Seen D → Bool
may_give c = not c.broken && is_some (due_of c.sender)

-- each block was given once
abbrev pub has_given_all : {D : Type 0} → Seen D → Bool
has_given_all c = c.sender.given == length c.sender.marks

-- the block that was due was given; one that is given once each was, is given again
pub record HasGivenNext {D : Type 0} (old new : Seen D) : Type 0 where
  pub are : new ≡ record old { sender = gave old.sender; receiver = new.receiver; rests = old.rests || has_given_all old }

-- what a call hands out
abbrev pub handed_giving : Result Bool NotGiven → SessionId → List ℕ
handed_giving (Ok given) = no_one
handed_giving (Err (Stopped told)) = handed_some told
handed_giving (Err (Refused refusal)) = no_one

-- the member read the block, and nothing else of the world changed
abbrev pub ReadsBlock : {S : Type 0} → (premise : Type 0) → (S → About) → (S → ℕ) → (S → List ℕ → Type 0) → (S → ℕ) → (S → ℕ → List ℕ → Type 0) → (at block : ℕ) → worlds.Seen S → worlds.Seen S → Type 0
ReadsBlock premise about failures keeps moment left_since at block world after =
    (bytes : List ℕ) × Moves world after (λ old new. Changes at old new (HasReadBlock premise about failures keeps moment left_since block bytes))

module _ {S D : Type 0} (premise : Type 0) (about : S → About) (failures : S → ℕ) (keeps : S → List ℕ → Type 0) (moment : S → ℕ) (left_since : S → ℕ → List ℕ → Type 0) where
  -- the block was given
  pub record GivesBlock (block : ℕ) (old new : Seen D) (world after : worlds.Seen S) : Type 0 where
    pub runs : old.broken ≡ false
    pub given : HasGivenNext old new
    pub read : ReadsBlock premise about failures keeps moment left_since old.at block world after

  -- the disk refused the block that the member read
  pub record IsRefusedBlock (block : ℕ) (old new : Seen D) (world after : worlds.Seen S) : Type 0 where
    pub runs : old.broken ≡ false
    pub due : due_of old.sender ≡ Some block
    pub read : ReadsBlock premise about failures keeps moment left_since old.at block world after
    pub are : new ≡ record old { sender = gave old.sender; receiver = new.receiver; broken = true }

  -- The member has stopped, before or in the call; or the disk refused the block; or this was broken before, and nothing changed.
  abbrev pub RefusesGiving : NotGiven → Seen D → Seen D → worlds.Seen S → worlds.Seen S → Type 0
  RefusesGiving (Stopped None) old new world after = (new ≡ old) × Moves world after (RestsAt old.at)
  RefusesGiving (Stopped (Some told)) old new world after =
      (new ≡ old) × Answers told world after (λ replies c d. Changes old.at c d (HasCalled (StopsReading premise about failures keeps moment left_since) replies))
  RefusesGiving (Refused refusal) old new world after =
      ((old.broken ≡ true) × ((refusal ≡ Broken) × ((new ≡ old) × (after ≡ world)))) ⊎ ((block : ℕ) × IsRefusedBlock block old new world after)

-- ---- the end

-- what the store tells: it is of the slot, the incarnation and the sizes of the superblock, at the front
pub record FinishesAt (sb : Superblock) (front : ℕ) (about : About) : Type 0 where
  pub slot : about.slot ≡ sb.slot
  pub incarnation : about.incarnation ≡ sb.incarnation
  pub sizes : about.geometry ≡ sb.geometry
  pub front_is : about.front ≡ front

-- the bytes mean nothing, or the volume at the front
abbrev pub IsMeantBy : Superblock → ℕ → List ℕ → List ℕ → Type 0
IsMeantBy sb front volume bytes = MeansNothing bytes ⊎ Means (finished_meaning sb front volume) bytes

-- why the end isn't taken: this was broken, or the disk refused it
abbrev pub RefusesEnd : Bool → Refusal → Type 0
RefusesEnd true refusal = refusal ≡ Broken
RefusesEnd false refusal = IsOfFinishing refusal

-- why there is no store: this was broken; or the disk refused the end, or doesn't open
abbrev pub RefusesFinish : Bool → Refusal → Type 0
RefusesFinish true refusal = refusal ≡ Broken
RefusesFinish false refusal = IsOfFinishing refusal ⊎ IsOfOpening refusal

-- the bytes hold a superblock of version 1
abbrev pub HasVersionOne : List ℕ → Type 0
HasVersionOne bytes = (sb : Superblock) × HoldsSuperblock sb bytes × (sb.version ≡ One)

-- why a disk that means a volume, and holds these bytes, isn't opened as a member's: memory ran out, its device refused, or it is of version 1
abbrev pub RefusesOpening : Refusal → List ℕ → Type 0
RefusesOpening Memory bytes = Unit {0}
RefusesOpening (Device error) bytes = Unit {0}
RefusesOpening OtherVersion bytes = HasVersionOne bytes
RefusesOpening _ bytes = ⊥
