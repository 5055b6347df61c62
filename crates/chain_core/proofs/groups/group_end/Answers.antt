use Rattle.std.proofs.Common.{arith, ◌*◌}
use Rattle.volume.specs.Writes.{touches}
use Rattle.chain_core.proofs.Grouping.{does_more, kept_fits, more_of}
use Rattle.chain_core.proofs.groups.group_end.Goals as goal

pub add_blocks-requires : goal.add_blocks-requires
add_blocks-requires c = let from = c.loop-end.invariant.from in kept_fits c.args.table.now (4096 * 65536) c.loop-end.end c.get.result.now c.requires.inside from (omega arith) c.get.ensures.write

pub add_written-requires : goal.add_written-requires
add_written-requires c = let from = c.loop-end.invariant.from in kept_fits c.args.table.now (4096 * 65536) c.loop-end.end c.get.result.now c.requires.inside from (omega arith) c.get.ensures.write

pub returns-then-size-from-clause-greatest : goal.returns-then-size-from-clause-greatest
returns-then-size-from-clause-greatest c = λ below. let from = c.loop-end.invariant.from in record {
  touched = c.add_blocks.new.blocks;
  written = c.add_written.new.blocks;
  counted = record {
    are_touched = more_of touches c.args.table.now c.loop-end.touched c.add_blocks.new.blocks c.loop-end.end c.get.result.now from (omega arith) c.get.ensures.write c.loop-end.invariant.counted.are_touched c.in_ok-add_blocks.ensures;
    are_written = more_of does_more c.args.table.now c.loop-end.written c.add_written.new.blocks c.loop-end.end c.get.result.now from (omega arith) c.get.ensures.write c.loop-end.invariant.counted.are_written c.in_ok-add_written.ensures;
    touched_ordered = c.len.ensures.ordered;
    written_ordered = c.len-in-loop-end.ensures.ordered;
  };
  many = omega (arith, c.len.ensures.len, c.len-in-loop-end.ensures.len, c.if-size-from.true);
}

pub loop-end-preserved : goal.loop-end-preserved
loop-end-preserved c = let from = c.loop-end.invariant.from in record {
  from = omega arith;
  upto = omega arith;
  counted = record {
    are_touched = more_of touches c.args.table.now c.loop-end.touched c.add_blocks.new.blocks c.loop-end.end c.get.result.now from (omega arith) c.get.ensures.write c.loop-end.invariant.counted.are_touched c.in_ok-add_blocks.ensures;
    are_written = more_of does_more c.args.table.now c.loop-end.written c.add_written.new.blocks c.loop-end.end c.get.result.now from (omega arith) c.get.ensures.write c.loop-end.invariant.counted.are_written c.in_ok-add_written.ensures;
    touched_ordered = c.len.ensures.ordered;
    written_ordered = c.len-in-loop-end.ensures.ordered;
  };
  few = omega (arith, c.len.ensures.len, c.len-in-loop-end.ensures.len, c.if-size-from.false);
}
