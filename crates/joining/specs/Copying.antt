-- What contracts see of a copying, and of which volume its disk has a copy.
use Rattle.std.specs.Option.{ForSome}
use Rattle.std.specs.Prelude.{◌≡◌, ◌≢◌, ◌⊎◌, ◌↔◌, ℕ, ◌-◌, ◌<◌, ◌≤◌, Bool, true, false, List, IsSome, IsSomeAnd, length}
use Rattle.gate_journal.specs.declared.batch.TheConstants.{MAX_NUMBER}
use Rattle.home_blocks.specs.Superblock.{Superblock}
use Rattle.local_store.specs.Installer.{MeansNothing}
use Rattle.local_store.specs.Meaning.{Meaning, Means}
use Rattle.configurations.specs.declared.member.Member.{Member}
use Rattle.volume.specs.Writes.{IsTouched, Placed, patched}
use Rattle.rejoin_catchup.specs.InStep.{IsInStep}
use Rattle.rejoin_catchup.specs.Receiving.{HasTaken, Receiving, disk_of}
use Rattle.rejoin_catchup.specs.Sending.{IsCopy, IsMarked, Sending}
use Rattle.chain_steps.specs.Node.{NodeState, durable_of}
use Rattle.chain_steps.specs.Steps.{volume_at}
use Rattle.chain.specs.Chain.{Chained}

-- The place of a member, and its known commit when it was noted last; what was given of its volume, and what the disk took; whether a
-- block was given again; and whether this is broken.
pub record Seen (D : Type 0) : Type 0 where
  pub at : ℕ
  pub front : ℕ
  pub sender : Sending
  pub receiver : Receiving D
  pub rests : Bool
  pub broken : Bool

-- what holds of every copying: the disk is there; and while it isn't broken, the disk took what was given, and goes on
pub record IsInCourse {D : Type 0} (c : Seen D) : Type 0 where
  pub there : IsSome (disk_of c.receiver)
  pub in_step : c.broken ≡ false → IsInStep c.sender c.receiver.course
  pub goes_on : c.broken ≡ false → ForSome c.receiver.installation (λ i. i.broken ≡ false)
  pub first : c.rests ≡ false → c.receiver.course.again ≡ 0
  pub limit : c.front ≤ MAX_NUMBER

-- the disk is this member's, as long as it is being installed
abbrev pub IsForMember : {D : Type 0} → Member → Receiving D → Type 0
IsForMember member r = ForSome r.installation (λ i. (i.home.superblock.slot ≡ member.slot) × (i.home.superblock.incarnation ≡ member.incarnation))

-- what is meant is this member's
abbrev pub IsOf : Member → Meaning → Type 0
IsOf member meaning = (meaning.slot ≡ member.slot) × (meaning.incarnation ≡ member.incarnation)

-- it is that of the member that is being installed
abbrev pub IsInstalled : {D : Type 0} → Receiving D → Meaning → Type 0
IsInstalled r meaning = IsSomeAnd r.installation (λ i. (meaning.slot ≡ i.home.superblock.slot) × (meaning.incarnation ≡ i.home.superblock.incarnation))

-- whatever a stop may leave of the disk means nothing
abbrev pub MeansNone : {D : Type 0} → (D → List ℕ → Type 0) → D → Type 0
MeansNone may_leave disk = (bytes : List ℕ) → may_leave disk bytes → MeansNothing bytes

-- whatever a stop may leave of the disk means nothing, or something of which this holds
abbrev pub MeansOnly : {D : Type 0} → (D → List ℕ → Type 0) → (Meaning → Type 0) → D → Type 0
MeansOnly may_leave P disk = (bytes : List ℕ) → may_leave disk bytes → (meaning : Meaning) → Means meaning bytes → P meaning

-- The disk is this member's, and whatever a stop may leave of it means nothing; and while the copying isn't broken, it takes some copy.
pub record IsOnItsWay {D : Type 0} (gives : D → List ℕ) (may_leave : D → List ℕ → Type 0) (member : Member) (c : Seen D) : Type 0 where
  pub its : IsForMember member c.receiver
  pub unmeant : ForSome (disk_of c.receiver) (MeansNone may_leave)
  pub taking : c.broken ≡ false → (sb : Superblock) × (copy : List ℕ) × HasTaken gives may_leave sb copy c.receiver

-- this holds of the disk before and of what it is then
abbrev pub LeadsOn : {D : Type 0} → (D → D → Type 0) → Seen D → Seen D → Type 0
LeadsOn R old new = ForSome (disk_of old.receiver) (λ was. IsSomeAnd (disk_of new.receiver) (R was))

-- it is of a member of the chain, and of the chain's volume
pub record IsFor {S D : Type 0} (chain : Chained S) (c : Seen D) : Type 0 where
  pub member : c.at < length chain.members
  pub blocks : length c.sender.marks ≡ chain.geometry.blocks

-- the disk has a copy of the volume, but for the blocks that are due
pub record IsCopyOf {D : Type 0} (gives : D → List ℕ) (may_leave : D → List ℕ → Type 0) (sb : Superblock) (volume : List ℕ) (c : Seen D) : Type 0 where
  pub copy : List ℕ
  pub taken : HasTaken gives may_leave sb copy c.receiver
  pub blocks : IsCopy c.sender volume copy

-- ---- a front is noted

-- of the numbers from behind one front up to another, this is one whose write touches the block
pub record IsWrittenBy (node : NodeState) (from to block n : ℕ) : Type 0 where
  pub write : Placed
  pub behind : from < n
  pub upto : n ≤ to
  pub is : (volume : List ℕ) → volume_at volume node n ≡ patched (volume_at volume node (n - 1)) write
  pub touched : IsTouched write block

-- the block was given, and one of these writes touches it
abbrev pub IsWritten : NodeState → ℕ → ℕ → ℕ → ℕ → Type 0
IsWritten node from to given block = (block < given) × (n : ℕ) × IsWrittenBy node from to block n

-- only blocks that were given are marked anew, which one of these writes touches
pub record HasMarked (node : NodeState) (from to : ℕ) (old new : Sending) : Type 0 where
  pub given : new.given ≡ old.given
  pub blocks : length new.marks ≡ length old.marks
  pub marked : (block : ℕ) → IsMarked new block → IsMarked old block ⊎ IsWritten node from to old.given block

-- it went on unnoted: while blocks were given again, or so far that writes between are forgotten, or back
abbrev pub IsLost : {D : Type 0} → NodeState → Seen D → Type 0
IsLost node c = (node.known ≢ c.front) × ((c.rests ≡ true) ⊎ ((c.front < durable_of node) ⊎ (node.known < c.front)))

-- the member's known commit was noted
pub record HasNoted {D : Type 0} (node : NodeState) (old new : Seen D) : Type 0 where
  pub sent : HasMarked node old.front node.known old.sender new.sender
  pub broken : (new.broken ≡ true) ↔ ((old.broken ≡ true) ⊎ IsLost node old)
  pub are : new ≡ record old { front = node.known; sender = new.sender; broken = new.broken }
