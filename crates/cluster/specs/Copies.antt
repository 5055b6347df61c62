-- What a member gives a joiner of its volume.
use Rattle.std.specs.Prelude.{◌≡◌, ℕ, ◌*◌, List, Option, Some, None, length, false}
use Rattle.std.specs.Option.{ForSome}
use Rattle.chain_core.specs.Node.{Seen}
use Rattle.chain_steps.specs.Node.{NodeState}
use Rattle.chain_steps.specs.Steps.{held_block, volume_at}
use Rattle.member_copy.specs.MemberCopy as copies
use Rattle.member_copy.specs.MemberCopy.{gave_next}
use Rattle.member_copy.specs.Noting.{HasNoted}
use Rattle.rejoin_catchup.specs.Receiving.{with_piece}
use Rattle.rejoin_catchup.specs.Sending.{IsCopy, due_of, piece_of}
use Rattle.rejoin_catchup.specs.declared.piece.Piece.{Piece}
use Rattle.rejoin_catchup.specs.declared.piece.Piece.TheVariants.{End}

-- the copy, if there is one, is of a volume of so many bytes
abbrev pub IsOfSize : ℕ → Option copies.Seen → Type 0
IsOfSize size copy = ForSome copy (λ c. 4096 * length c.sender.marks ≡ size)

-- what the member knows was noted, if there is a copy
abbrev pub HasNotedIfCopied : NodeState → Option copies.Seen → Option copies.Seen → Type 0
HasNotedIfCopied node None new = new ≡ None
HasNotedIfCopied node (Some old) new = (noted : copies.Seen) × HasNoted node old noted × (new ≡ Some noted)

-- What the member knows was noted, and the block that is due then was given, as it is at that front.
pub record HasGivenPiece {S : Type 0} (premise : Type 0) (keeps : S → List ℕ → Type 0) (node : Seen S) (piece : Piece) (old new : Option copies.Seen) : Type 0 where
  pub noted : copies.Seen
  pub notes : HasNotedIfCopied node.state old (Some noted)
  pub block : ℕ
  pub due : due_of noted.sender ≡ Some block
  pub bytes : List ℕ
  pub are : premise → (volume : List ℕ) → keeps node.store volume → bytes ≡ held_block volume node.state block
  pub piece_is : piece ≡ piece_of noted.sender block bytes
  pub given : new ≡ Some (gave_next noted)

-- the volume with the member's writes up to each number is as long as the copy
abbrev pub AreAsLong : List ℕ → NodeState → copies.Seen → Type 0
AreAsLong volume node copy = (n : ℕ) → length (volume_at volume node n) ≡ 4096 * length copy.sender.marks

-- where the pieces so far made a copy of the volume at the front that was noted before, but for the blocks that are due, they make one of it
-- at the known commit, unless the copy is broken
abbrev pub NotesCopy : List ℕ → NodeState → Option copies.Seen → Option copies.Seen → Type 0
NotesCopy volume node old new = ForSome old (λ before. (copy : List ℕ) → AreAsLong volume node before
    → IsCopy before.sender (volume_at volume node before.front) copy
    → ForSome new (λ after. after.broken ≡ false → AreAsLong volume node after × IsCopy after.sender (volume_at volume node node.known) copy))

-- the same, with this piece
abbrev pub GoesOnCopying : List ℕ → NodeState → Piece → Option copies.Seen → Option copies.Seen → Type 0
GoesOnCopying volume node piece old new = ForSome old (λ before. (copy : List ℕ) → AreAsLong volume node before
    → IsCopy before.sender (volume_at volume node before.front) copy
    → ForSome new (λ after. IsCopy after.sender (volume_at volume node node.known) (with_piece copy piece)))

-- no block was due once what the member knows was noted, and this is the end at that front
abbrev pub HasEnded : NodeState → Piece → Option copies.Seen → Type 0
HasEnded node piece old = (noted : copies.Seen) × HasNotedIfCopied node old (Some noted) × (due_of noted.sender ≡ None) × (noted.broken ≡ false) × (piece ≡ End noted.front) × (noted.front ≡ node.known)
