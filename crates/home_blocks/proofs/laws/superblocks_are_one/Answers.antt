use Rattle.home_blocks.proofs.Payloads.{one_superblock}
use Rattle.home_blocks.proofs.laws.superblocks_are_one.Goals as goal

pub returns : goal.returns
returns c = λ some other bytes holds holds'. one_superblock c.pair_readings_are_one.ensures bytes some other holds holds'
