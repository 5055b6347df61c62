-- What contracts see of a receiver, and what its disk has taken.
use Rattle.std.specs.Prelude.{◌≡◌, ◌⊎◌, ℕ, ◌<◌, Bool, false, Option, Some, None, Result, Ok, Err, IfOk, IfSome, IsNone, IsSome, IsSomeAnd, List}
use Rattle.std.specs.Option.{ForSome}
use Rattle.home_blocks.specs.Home as home
use Rattle.home_blocks.specs.Superblock.{Superblock}
use Rattle.local_store.specs.Installer.{HasGiven, IsGiven, IsInstalling, MeansNothing, finished_meaning, with_block}
use Rattle.local_store.specs.Meaning.{Means}
use Rattle.rejoin_catchup.specs.declared.course.Course.{Course}
use Rattle.rejoin_catchup.specs.declared.piece.Piece.{Piece}
use Rattle.rejoin_catchup.specs.declared.piece.Piece.TheVariants.{First, Again, End}
use Rattle.rejoin_catchup.specs.declared.ready.Ready.{Ready}

-- a disk that is being installed, with its superblock, the blocks that it was given, and whether a device call failed
pub record Installation (D : Type 0) : Type 0 where
  pub home : home.State
  pub given : List Bool
  pub broken : Bool
  pub disk : D

-- which pieces are taken next, the installation until the end comes, and the disk that a failed end left
pub record Receiving (D : Type 0) : Type 0 where
  pub course : Course
  pub installation : Option (Installation D)
  pub left : Option D

-- before the end there is an installation, which was given the blocks that came, and only one disk
pub record IsReceiving {D : Type 0} (r : Receiving D) : Type 0 where
  pub going : r.course.over ≡ false → IsSome r.installation
  pub one : IsSome r.installation → IsNone r.left
  pub as_many : ForSome r.installation (λ i. i.home.superblock.geometry.blocks ≡ r.course.blocks)
  pub came : ForSome r.installation (λ i. (block : ℕ) → block < r.course.next → IsGiven i.given block)

-- the disk of an installation, or the one that was left
abbrev pub disk_in : {D : Type 0} → Option (Installation D) → Option D → Option D
disk_in (Some i) left = Some i.disk
disk_in None left = left

-- the disk that a receiver has
abbrev pub disk_of : {D : Type 0} → Receiving D → Option D
disk_of r = disk_in r.installation r.left

-- the disk behind a call, which may have given it away
abbrev pub disk_behind : {D E : Type 0} → Result (Option (Ready D)) E → Receiving D → Option D
disk_behind (Ok (Some ready)) r = Some ready.disk
disk_behind (Ok None) r = disk_of r
disk_behind (Err refusal) r = disk_of r

-- the disk is still there behind a call, and this holds of what it was and what it is
abbrev pub Leads : {D E : Type 0} → (D → D → Type 0) → Receiving D → Result (Option (Ready D)) E → Receiving D → Type 0
Leads R old result new = ForSome (disk_of old) (λ was. IsSomeAnd (disk_behind result new) (R was))

-- this holds of what the end gave, if it did
abbrev pub IfReady : {D E : Type 0} → Result (Option (Ready D)) E → (Ready D → Type 0) → Type 0
IfReady result P = IfOk result (λ ready. IfSome ready P)

-- the disk is being installed with this superblock, and what it was given is of the copy
pub record IsTaking {D : Type 0} (gives : D → List ℕ) (may_leave : D → List ℕ → Type 0) (sb : Superblock) (copy : List ℕ) (i : Installation D) : Type 0 where
  pub superblock : i.home.superblock ≡ sb
  pub installing : IsInstalling i.home (gives i.disk) (may_leave i.disk)
  pub given : HasGiven i.home.superblock.geometry i.given copy (gives i.disk)

-- the receiver's disk has taken this copy, so behind the end it means it
abbrev pub HasTaken : {D : Type 0} → (D → List ℕ) → (D → List ℕ → Type 0) → Superblock → List ℕ → Receiving D → Type 0
HasTaken gives may_leave sb copy r = IsSomeAnd r.installation (IsTaking gives may_leave sb copy)

-- the copy with a piece
abbrev pub with_piece : List ℕ → Piece → List ℕ
with_piece copy (First block bytes) = with_block copy block bytes
with_piece copy (Again block bytes) = with_block copy block bytes
with_piece copy (End front) = copy

-- what a stop may leave while a piece is taken: what means nothing, and at the end the copy too
abbrev pub MayBeLeft : Superblock → List ℕ → Piece → List ℕ → Type 0
MayBeLeft sb copy (First block bytes) c = MeansNothing c
MayBeLeft sb copy (Again block bytes) c = MeansNothing c
MayBeLeft sb copy (End front) c = MeansNothing c ⊎ Means (finished_meaning sb front copy) c
