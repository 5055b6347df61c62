use Rattle.std.proofs.Common.{◌∙◌, ◌/◌, ◌<◌, ◌≤◌, ap, arith, length, subst}
use Rattle.volume.specs.Pieces.{pieces_of}
use Rattle.rejoin_catchup.specs.Sending.{IsSending, Sending}
use Rattle.rejoin_catchup.proofs.Copies.{copy_written}
use Rattle.rejoin_catchup.proofs.Written.{HasMarked, marked_all, marked_next, marked_none, moved_on, none_left, passed_next}
use Rattle.rejoin_catchup.proofs.sender.Sender.written.Goals as goal

pub loop-piece-init : goal.loop-piece-init
loop-piece-init c = record {
  whole = c.into_iter-piece-iterator.ensures.into_iter_gives ∙ c.pieces-piece-items.ensures.pieces ∙ ap (pieces_of c.offset.result) c.len.ensures ∙ ap (λ n. pieces_of n (length c.args.write.now.bytes)) c.offset.ensures;
  marked = marked_none (c.args.write.now.offset / 4096) c.args.self.now;
}

pub mark-requires : goal.mark-requires
mark-requires c = omega (arith, c.loop-piece.invariant.marked.given, ap (λ (s : Sending). s.given) c.self.view_is)

pub loop-piece-preserved-then-piece-given : goal.loop-piece-preserved-then-piece-given
loop-piece-preserved-then-piece-given c =
    let w = c.args.write.now in
    let so_far = c.loop-piece.invariant in
    let sending = subst IsSending c.self.view_is c.self.invariant.0 in
    let given : c.in-Some.piece.block < c.args.self.now.given = omega (arith, c.if-piece-given.true, ap (λ (s : Sending). s.given) c.self.view_is) in
    record {
      whole = moved_on c.loop-piece.yielded c.loop-piece.piece-iterator c.next.new.self (pieces_of w.offset (length w.bytes)) c.in-Some.piece so_far.whole c.in-Some.ensures.steps;
      marked = marked_next w.offset (length w.bytes) c.loop-piece.yielded c.loop-piece.piece-iterator c.next.new.self c.in-Some.piece so_far.whole c.in-Some.ensures.steps c.args.self.now c.loop-piece.self so_far.marked c.mark.new.self given sending.within c.mark.ensures;
    }

pub loop-piece-preserved : goal.loop-piece-preserved
loop-piece-preserved c =
    let w = c.args.write.now in
    let so_far = c.loop-piece.invariant in
    let past : c.args.self.now.given ≤ c.in-Some.piece.block = omega (arith, c.if-piece-given.false, ap (λ (s : Sending). s.given) c.self.view_is) in
    record {
      whole = moved_on c.loop-piece.yielded c.loop-piece.piece-iterator c.next.new.self (pieces_of w.offset (length w.bytes)) c.in-Some.piece so_far.whole c.in-Some.ensures.steps;
      marked = passed_next w.offset (length w.bytes) c.loop-piece.yielded c.loop-piece.piece-iterator c.next.new.self c.in-Some.piece so_far.whole c.in-Some.ensures.steps c.args.self.now c.loop-piece.self so_far.marked past;
    }

pub returns-clause-marks : goal.returns-clause-marks
returns-clause-marks c =
    let all = none_left c.args.write.now.offset (length c.args.write.now.bytes) c.loop-piece.yielded c.loop-piece.piece-iterator c.loop-piece.invariant.whole c.in-None.ensures.steps.0 in
    marked_all c.args.write.now c.args.self.now c.loop-piece.self (subst (λ n. HasMarked (c.args.write.now.offset / 4096) n c.args.self.now c.loop-piece.self) all c.loop-piece.invariant.marked)

pub returns-clause-copies : goal.returns-clause-copies
returns-clause-copies c = λ volume copy long was. copy_written c.args.self.now c.loop-piece.self c.args.write.now volume copy (omega (arith, long, c.requires.within)) (returns-clause-marks c) was
