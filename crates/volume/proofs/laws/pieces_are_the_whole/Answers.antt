use Rattle.volume.specs.PieceLemmas.{flat_map-pieces_of}
use Rattle.volume.specs.Volumes.{patched_from_blocks}
use Rattle.volume.proofs.laws.pieces_are_the_whole.Goals as goal

pub returns-clause-read : goal.returns-clause-read
returns-clause-read c = flat_map-pieces_of

pub returns-clause-written : goal.returns-clause-written
returns-clause-written c = patched_from_blocks
