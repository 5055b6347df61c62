-- A world that begins, and what its disks are after a cut.
use Rattle.std.specs.Prelude.{◌≡◌, ℕ, ◌*◌, ◌<◌, ◌≤◌, false, All, List, [], None, length, map}
use Rattle.disk_model.specs.Disk.{Only}
use Rattle.disk_model.specs.Content.{left_by}
use Rattle.disk_model.specs.Memory.{bytes_of, given_of, has_stopped, may_be_left, unsynced_of}
use Rattle.disk_model.specs.declared.content.Cut.{Cut}
use Rattle.disk_model.specs.declared.memory.MemDisk.{MemDisk}
use Rattle.home_blocks.specs.Home.{HoldsSuperblock}
use Rattle.home_blocks.specs.Places.{disk_size_of}
use Rattle.home_blocks.specs.Superblock.{Superblock}
use Rattle.home_blocks.specs.declared.version.Version.TheVariants.{Two}
use Rattle.local_store.specs.About.{About}
use Rattle.local_store.specs.Meaning.{Meaning, Means}
use Rattle.volume.specs.declared.geometry.Geometry.{Geometry}
use Rattle.chain_model.specs.View.{View}
use Rattle.chain_model.specs.Laws.{IsBeginning}
use Rattle.nbd_session.specs.declared.answer.Export.{Export}
use Rattle.world.specs.World.{Seen, Shows}
use Rattle.life.specs.Managed.{Managed}

-- what a volume of these sizes is to its clients
abbrev pub export_of : Geometry → Export
export_of geometry = record { size = 4096 * geometry.blocks; max_payload = geometry.max_payload; area = geometry.area }

-- what the store of a member tells whose disk was formatted
abbrev pub first_about : Geometry → ℕ → About
first_about geometry slot = record { version = Two; slot = slot; incarnation = 1; geometry = geometry; front = 0; used = 0; stores = 1; broken = false; lent = None }

-- the stores of its members, from the head's on
abbrev pub stores_of : {S : Type 0} → Seen S → List S
stores_of w = map (λ m. m.node.store) w.chain.members

-- every member runs
abbrev pub AllRun : {S : Type 0} → Seen S → Type 0
AllRun w = All (λ m. m.node.state.stopped ≡ None) w.chain.members

-- The world begins at this front with this volume, has no clients, and all its members run.
pub record BeginsWith {S : Type 0} (about : S → About) (keeps : S → List ℕ → Type 0) (may_leave_now : S → List ℕ → Type 0) (geometry : Geometry) (front : ℕ) (volume : List ℕ) (w : Seen S) : Type 0 where
  pub view : View
  pub shows : Shows about keeps may_leave_now w view
  pub begins : IsBeginning front volume view
  pub sizes : w.chain.geometry ≡ geometry
  pub export : w.sessions.export ≡ export_of geometry
  pub no_clients : w.sessions.clients ≡ []
  pub runs : AllRun w

-- The disk holds what this cut leaves of the store's: of what was written since the last sync all, or none. That is one content that a stop
-- may leave of it, and nothing else may be left any more.
pub record IsCutFrom {S : Type 0} (may_leave_now : S → List ℕ → Type 0) (own : S → MemDisk) (cut : Cut) (store : S) (disk : MemDisk) : Type 0 where
  pub content : given_of disk ≡ left_by cut (bytes_of (own store)) (unsynced_of (own store))
  pub left : may_leave_now store (given_of disk)
  pub only : Only (given_of disk) (may_be_left disk)

-- no disk has stopped, of a member or the configuration's
pub record AllGo {S : Type 0} (disk : S → MemDisk) (w : Managed S) : Type 0 where
  pub members : All (λ s. has_stopped (disk s) ≡ false) (stores_of w.world)
  pub config : has_stopped w.management.disk ≡ false

-- so is the configuration's disk cut
pub record IsCut (cut : Cut) (old disk : MemDisk) : Type 0 where
  pub content : given_of disk ≡ left_by cut (bytes_of old) (unsynced_of old)
  pub left : may_be_left old (given_of disk)
  pub only : Only (given_of disk) (may_be_left disk)

-- each member's disk is that of an incarnation, counted from 1, and has the sizes of the chain's volume
abbrev pub AreOnDisks : {S : Type 0} → (S → About) → Seen S → Type 0
AreOnDisks about w = All (λ m. (0 < (about m.node.store).incarnation) × ((about m.node.store).geometry ≡ w.chain.geometry)) w.chain.members

-- each is the store of the member whose disk this means, of its slot and incarnation
abbrev pub AreOfMember : {S : Type 0} → (S → About) → Meaning → List S → Type 0
AreOfMember about meaning stores = All (λ s. ((about s).slot ≡ meaning.slot) × ((about s).incarnation ≡ meaning.incarnation)) stores

-- the bytes of a disk hold a superblock of version 2
abbrev pub HasVersionTwo : List ℕ → Type 0
HasVersionTwo bytes = (sb : Superblock) × HoldsSuperblock sb bytes × (sb.version ≡ Two)

-- Whatever a stop may leave of the disk that came back means what the first one gave, if nothing else could be left of that.
abbrev pub MeansStill : MemDisk → MemDisk → Type 0
MeansStill disk back = (meaning : Meaning) → Means meaning (given_of disk) → Only (given_of disk) (may_be_left disk) → (c : List ℕ) → may_be_left back c → Means meaning c

-- The disk is some member's: it means something, of an incarnation counted from 1, and is as long as it has to be.
pub record IsOfMember (disk : MemDisk) : Type 0 where
  pub meaning : Meaning
  pub means : Means meaning (given_of disk)
  pub given : 0 < meaning.incarnation
  pub long : disk_size_of meaning.geometry ≤ length (given_of disk)
