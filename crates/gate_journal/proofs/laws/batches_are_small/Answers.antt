use Rattle.gate_journal.proofs.ImageLists.{length-le_blocks}
use Rattle.gate_journal.proofs.laws.batches_are_small.Goals as goal

pub returns : goal.returns
returns c = length-le_blocks
