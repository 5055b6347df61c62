use Rattle.std.proofs.Common.{◌*◌, ap, subst, ℕ, arith}
use Rattle.std.specs.Prelude.{IfSome, slice_get}
use Rattle.joining.specs.Copying.{HasMarked}
use Rattle.joining.proofs.Marking.{copied_more, marked_more, some_three, some_two}
use Rattle.joining.proofs.noting.mark_writes.Goals as goal

pub loop-noted-preserved : goal.loop-noted-preserved
loop-noted-preserved g c =
    let so_far = c.loop-noted.invariant in
    let here = slice_get c.args.world.now.chain.members c.args.at in
    let n = c.loop-noted.noted in
    record {
      from = omega (arith, so_far.from);
      upto = omega (arith, c.loop-noted-test.true);
      marked = some_two here so_far.marked c.kept_write.ensures.after
          (λ m was after. marked_more m.node.state c.args.from c.args.sender.now n c.loop-noted.sender c.written.new.self c.kept_write.result.now after so_far.from c.written.ensures.marks was);
      copied = some_three here so_far.marked so_far.copied c.kept_write.ensures.after
          (λ m marks was after. copied_more m.node.state c.args.from c.args.sender.now n c.loop-noted.sender c.written.new.self c.kept_write.result.now after (4096 * c.args.world.now.chain.geometry.blocks)
          (ap (λ (k : ℕ). 4096 * k) c.requires.blocks) c.kept_write.ensures.inside marks.blocks c.written.ensures.copies was);
    }

pub returns-clause-marked : goal.returns-clause-marked
returns-clause-marked g c =
    subst (λ (n : ℕ). IfSome (slice_get c.args.world.now.chain.members c.args.at) (λ m. HasMarked m.node.state c.args.from n c.args.sender.now c.loop-noted.sender)) (omega (arith, c.loop-noted.invariant.upto, c.loop-noted-test.false)) c.loop-noted.invariant.marked
