-- A piece more of a copy.
use Rattle.std.proofs.Common.{◌≡◌, ◌*◌, ℕ, Bool, true, false, List, Option, Some, length, nat_lt, refl, subst, sym}
use Rattle.std.specs.Prelude.{if◌then◌else◌}
use Rattle.volume.specs.Writes.{block_of}
use Rattle.local_store.specs.Installer.{with_block}
use Rattle.rejoin_catchup.specs.Receiving.{with_piece}
use Rattle.rejoin_catchup.specs.Sending.{IsCopy, Sending, due_of, piece_of}
use Rattle.rejoin_catchup.specs.declared.piece.Piece.{Piece}
use Rattle.rejoin_catchup.specs.declared.piece.Piece.TheVariants.{First, Again}
use Rattle.chain_steps.specs.Node.{NodeState}
use Rattle.chain_steps.specs.Steps.{volume_at}
use Rattle.member_copy.specs.MemberCopy.{Seen}
use Rattle.cluster.specs.Copies.{GoesOnCopying, NotesCopy}

module _ (s : Sending) (block : ℕ) (bytes : List ℕ) where
  by_case : (b : Bool) (P : Piece → Type 0) → P (First block bytes) → P (Again block bytes) → P (if b then First block bytes else Again block bytes)
  by_case true P first again = first
  by_case false P first again = again

  -- whatever holds of both kinds of pieces holds of the next one
  at_piece : (P : Piece → Type 0) → P (First block bytes) → P (Again block bytes) → P (piece_of s block bytes)
  at_piece = by_case (nat_lt s.given (length s.marks))

-- the copy with the piece that was given is one of the volume at the known commit
pub goes_on : (volume : List ℕ) (node : NodeState) (old : Option Seen) (noted new : Seen) (piece : Piece) (block : ℕ) (bytes : List ℕ)
    → NotesCopy volume node old (Some noted) → noted.broken ≡ false → due_of noted.sender ≡ Some block → bytes ≡ block_of (volume_at volume node node.known) block
    → piece ≡ piece_of noted.sender block bytes
    → ((v c : List ℕ) → length v ≡ 4096 * length noted.sender.marks → IsCopy noted.sender v c → (b : ℕ) → due_of noted.sender ≡ Some b → bytes ≡ block_of v b → IsCopy new.sender v (with_block c b bytes))
    → GoesOnCopying volume node piece old (Some new)
goes_on volume node old noted new piece block bytes notes whole due are is copies = λ before was copy long so_far later is_later.
    let after = notes before was copy long so_far noted refl whole in
    let now = volume_at volume node node.known in
    let made : IsCopy new.sender now (with_block copy block bytes) = copies now copy (after.0 node.known) after.1 block due are in
    let same : new ≡ later = cc in
    subst (λ it. IsCopy it.sender now (with_piece copy piece)) same
    (subst (λ p. IsCopy new.sender now (with_piece copy p)) (sym is) (at_piece noted.sender block bytes (λ p. IsCopy new.sender now (with_piece copy p)) made made))
