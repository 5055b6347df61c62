use Rattle.volume.specs.Volumes.{block_of-volume_of-nil, touches_agrees, block_of-patched_untouched, block_of-volume_of-filter}
use Rattle.volume.proofs.laws.blocks_follow_their_writes.Goals as goal

pub returns-clause-zeros : goal.returns-clause-zeros
returns-clause-zeros c = block_of-volume_of-nil

pub returns-clause-test : goal.returns-clause-test
returns-clause-test c = touches_agrees

pub returns-clause-untouched : goal.returns-clause-untouched
returns-clause-untouched c = block_of-patched_untouched

pub returns-clause-touched : goal.returns-clause-touched
returns-clause-touched c = block_of-volume_of-filter
