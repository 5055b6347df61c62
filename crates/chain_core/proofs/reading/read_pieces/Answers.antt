use Rattle.std.proofs.Common.{◌≡◌, ◌+◌, ◌∙◌, ap, arith, fold, subst, sym}
use Rattle.std.specs.Prelude.{All}
use Rattle.std.specs.List.{flat_map}
use Rattle.std.proofs.lemmas.List.{length-drop, length-take}
use Rattle.std.proofs.lemmas.List.Elements.{All-tail}
use Rattle.std.proofs.lemmas.List.Sums.{sum_by-cons}
use Rattle.version_table.specs.Held.{writes_upto}
use Rattle.volume.specs.PieceLemmas.{flat_map-pieces_of}
use Rattle.volume.specs.Pieces.{IsPieceOf, piece_bytes, pieces_of}
use Rattle.volume.specs.Writes.{patched}
use Rattle.chain_core.specs.Node.{size_of}
use Rattle.chain_core.proofs.Ranges.{all_behind, one_behind, one_read, piece_read}
use Rattle.chain_core.proofs.StoreReads.{first, one_more, run_more}
use Rattle.chain_core.proofs.reading.read_pieces.Goals as goal

pub loop-piece-init : goal.loop-piece-init
loop-piece-init g c = let starts = c.into_iter-piece-iterator.ensures.into_iter_gives in record {
  whole = starts ∙ c.pieces-piece-items.ensures.pieces;
  each = subst (All (IsPieceOf c.args.offset c.args.len)) (sym starts) c.pieces-piece-items.ensures.each;
  room = let long = ap piece_bytes starts in grind (arith, long, c.pieces-piece-items.ensures.whole, c.requires.empty, c.requires.room);
  store = first g.S.StoreLike.about g.S.StoreLike.keeps g.S.StoreLike.moment g.S.StoreLike.may_have_left_since g.S.StoreLike.may_leave_now g.met.S.StoreLike.means_now g.met.S.StoreLike.only_now c.args.store.now g.S.StoreLike.failures;
  bytes = λ here volume kept long. c.requires.empty;
}

pub returns-in_err-read_block_at-clause-any_moment : goal.returns-in_err-read_block_at-clause-any_moment
returns-in_err-read_block_at-clause-any_moment g c = run_more c.loop-piece.invariant.store c.read_block_at.new.store c.read_block_at.ensures.any_moment

pub loop-piece-preserved : goal.loop-piece-preserved
loop-piece-preserved g c =
    let each = subst (All (IsPieceOf c.args.offset c.args.len)) c.in-Some.ensures.steps c.loop-piece.invariant.each in
    record {
      whole = one_behind c.loop-piece.yielded c.loop-piece.piece-iterator c.next.new.self (pieces_of c.args.offset c.args.len) c.in-Some.piece c.loop-piece.invariant.whole c.in-Some.ensures.steps;
      each = All-tail (IsPieceOf c.args.offset c.args.len) c.in-Some.piece c.next.new.self each;
      room =
          let left : piece_bytes c.loop-piece.piece-iterator ≡ c.in-Some.piece.len + piece_bytes c.next.new.self = ap piece_bytes c.in-Some.ensures.steps ∙ sum_by-cons (λ p. p.len) c.in-Some.piece c.next.new.self in
          let is = each 0 c.in-Some.piece (omega arith) in
          grind (arith, left, is.in_block, c.loop-piece.invariant.room, c.in-Ok.ensures.len, c.extend_from_slice.ensures.capacity, length-take, length-drop);
      store = one_more c.loop-piece.invariant.store c.read_block_at.new.store c.in_ok-read_block_at.ensures.about c.in_ok-read_block_at.ensures.failures c.in_ok-read_block_at.ensures.kept c.read_block_at.ensures.any_moment;
      bytes = λ here volume kept long.
          one_read (fold patched volume (writes_upto c.args.table.now c.args.front)) c.loop-piece.bytes.items c.read_block_at.new.bytes c.extend_from_slice.new.self.items c.loop-piece.yielded c.in-Some.piece
          (c.loop-piece.invariant.bytes here volume kept long)
          (c.in_ok-read_block_at.ensures.read here volume (c.loop-piece.invariant.store.kept here volume kept) (long ∙ ap size_of (sym c.loop-piece.invariant.store.tells)))
          c.in-Ok.ensures.items;
    }

pub returns-clause-read : goal.returns-clause-read
returns-clause-read g c = λ here volume kept long.
    let later = fold patched volume (writes_upto c.args.table.now c.args.front) in
    c.loop-piece.invariant.bytes here volume kept long
    ∙ ap (flat_map (piece_read later)) (all_behind c.loop-piece.yielded c.loop-piece.piece-iterator (pieces_of c.args.offset c.args.len) c.loop-piece.invariant.whole c.in-None.ensures.steps.0)
    ∙ flat_map-pieces_of later c.args.offset c.args.len
