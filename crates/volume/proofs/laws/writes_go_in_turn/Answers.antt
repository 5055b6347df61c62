use Rattle.volume.specs.Volumes.{volume_of-push, volume_of-take_more, volume_of-split}
use Rattle.volume.proofs.laws.writes_go_in_turn.Goals as goal

pub returns-clause-last : goal.returns-clause-last
returns-clause-last c = volume_of-push

pub returns-clause-next : goal.returns-clause-next
returns-clause-next c = volume_of-take_more

pub returns-clause-rest : goal.returns-clause-rest
returns-clause-rest c = volume_of-split
