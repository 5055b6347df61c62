use Rattle.std.proofs.Common.{◌*◌, ap, ℕ, arith}
use Rattle.member_copy.proofs.Marking.{copied_more, marked_more}
use Rattle.member_copy.proofs.noting.mark_writes.Goals as goal

pub loop-noted-preserved : goal.loop-noted-preserved
loop-noted-preserved g c =
    let so_far = c.loop-noted.invariant in
    let node = c.args.node.now.state in
    let start = c.args.sender.now in
    let marks = c.written.ensures.marks in
    let after = c.kept_write.ensures.after in
    record {
      from = omega (arith, so_far.from);
      upto = omega (arith, c.loop-noted-test.true);
      marked = marked_more node c.args.from start c.loop-noted.noted c.loop-noted.sender c.written.new.self c.kept_write.result.now after so_far.from marks so_far.marked;
      copied = copied_more node c.args.from start c.loop-noted.noted c.loop-noted.sender c.written.new.self c.kept_write.result.now after (4096 * (g.S.StoreLike.about c.args.node.now.store).geometry.blocks)
          (ap (λ (k : ℕ). 4096 * k) c.requires.blocks) c.kept_write.ensures.inside so_far.marked.blocks c.written.ensures.copies so_far.copied;
    }
