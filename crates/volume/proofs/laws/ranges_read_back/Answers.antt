use Rattle.volume.specs.Volumes.{range-patched_apart, range-patched_own}
use Rattle.volume.proofs.laws.ranges_read_back.Goals as goal

pub returns-clause-others : goal.returns-clause-others
returns-clause-others c = range-patched_apart

pub returns-clause-own : goal.returns-clause-own
returns-clause-own c = range-patched_own
