use Rattle.home_blocks.proofs.Encodings.{superblocks_apart}
use Rattle.home_blocks.proofs.laws.encodings_differ.Goals as goal

pub returns : goal.returns
returns c = superblocks_apart
