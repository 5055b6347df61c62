use Rattle.volume.specs.Volumes.{length-block_of, same_from_blocks}
use Rattle.volume.proofs.laws.blocks_make_the_volume.Goals as goal

pub returns-clause-whole : goal.returns-clause-whole
returns-clause-whole c = length-block_of

pub returns-clause-same : goal.returns-clause-same
returns-clause-same c = same_from_blocks
