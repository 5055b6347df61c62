use Rattle.std.proofs.Common.{false}
use Rattle.std.specs.Prelude.{replicate}
use Rattle.manager.proofs.Changes.{idle}
use Rattle.manager.proofs.manager.Manager.new.Goals as goal

pub invariant_of-result : goal.invariant_of-result
invariant_of-result c = idle c.args.chain (replicate 8 false) c.new.result.items c.new.ensures.items
