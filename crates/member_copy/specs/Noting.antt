-- What becomes of a member's copy once what the member came to know is noted.
use Rattle.std.specs.Prelude.{◌≡◌, ◌≢◌, ◌⊎◌, ◌↔◌, ℕ, ◌-◌, ◌<◌, ◌≤◌, true, List, length}
use Rattle.volume.specs.Writes.{IsTouched, Placed, patched}
use Rattle.rejoin_catchup.specs.Sending.{IsMarked, Sending}
use Rattle.chain_steps.specs.Node.{NodeState, durable_of}
use Rattle.chain_steps.specs.Steps.{volume_at}
use Rattle.member_copy.specs.MemberCopy.{Seen}

-- of the numbers from behind one front up to another, this is one whose write touches the block
pub record IsWrittenBy (node : NodeState) (from to block n : ℕ) : Type 0 where
  pub write : Placed
  pub behind : from < n
  pub upto : n ≤ to
  pub is : (volume : List ℕ) → volume_at volume node n ≡ patched (volume_at volume node (n - 1)) write
  pub touched : IsTouched write block

-- the block was given, and one of these writes touches it
abbrev pub IsWritten : NodeState → ℕ → ℕ → ℕ → ℕ → Type 0
IsWritten node from to given block = (block < given) × (n : ℕ) × IsWrittenBy node from to block n

-- only blocks that were given are marked anew, which one of these writes touches
pub record HasMarked (node : NodeState) (from to : ℕ) (old new : Sending) : Type 0 where
  pub given : new.given ≡ old.given
  pub blocks : length new.marks ≡ length old.marks
  pub marked : (block : ℕ) → IsMarked new block → IsMarked old block ⊎ IsWritten node from to old.given block

-- it went on unnoted: while blocks were given again, or so far that writes between are forgotten, or back
abbrev pub IsLost : NodeState → Seen → Type 0
IsLost node copy = (node.known ≢ copy.front) × ((copy.rests ≡ true) ⊎ ((copy.front < durable_of node) ⊎ (node.known < copy.front)))

-- the member's known commit was noted
pub record HasNoted (node : NodeState) (old new : Seen) : Type 0 where
  pub sent : HasMarked node old.front node.known old.sender new.sender
  pub broken : (new.broken ≡ true) ↔ ((old.broken ≡ true) ⊎ IsLost node old)
  pub are : new ≡ record old { front = node.known; sender = new.sender; broken = new.broken }
