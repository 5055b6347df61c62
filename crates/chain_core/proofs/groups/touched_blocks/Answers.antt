use Rattle.std.proofs.Common.{arith, ◌*◌}
use Rattle.volume.specs.Writes.{touches}
use Rattle.chain_core.proofs.Grouping.{kept_fits, more_of}
use Rattle.chain_core.proofs.groups.touched_blocks.Goals as goal

pub add_blocks-requires : goal.add_blocks-requires
add_blocks-requires c = let from = c.loop-done.invariant.from in kept_fits c.args.table.now (4096 * 65536) c.loop-done.done c.get.result.now c.requires.inside from (omega arith) c.get.ensures.write

pub loop-done-preserved : goal.loop-done-preserved
loop-done-preserved c = let from = c.loop-done.invariant.from in record {
  from = omega arith;
  upto = omega arith;
  touched = more_of touches c.args.table.now c.loop-done.blocks c.add_blocks.new.blocks c.loop-done.done c.get.result.now from (omega arith) c.get.ensures.write c.loop-done.invariant.touched c.in_ok-add_blocks.ensures;
}
