use Rattle.world_model.proofs.Runs.{marked_writes_are_read, reads_are_fresh}
use Rattle.world_model.proofs.laws.reads_are_fresh.Goals as goal

pub returns-clause-marked : goal.returns-clause-marked
returns-clause-marked c = marked_writes_are_read

pub returns-clause-fresh : goal.returns-clause-fresh
returns-clause-fresh c = reads_are_fresh
