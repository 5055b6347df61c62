use Rattle.volume.specs.Volumes.{length-patched, length-volume_of}
use Rattle.volume.proofs.laws.volumes_keep_their_size.Goals as goal

pub returns-clause-one : goal.returns-clause-one
returns-clause-one c = length-patched

pub returns-clause-all : goal.returns-clause-all
returns-clause-all c = length-volume_of
