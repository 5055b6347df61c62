use Rattle.chain_model.proofs.BoardSteps.{tells_disks}
use Rattle.chain_model.proofs.CommitSteps.{ends_commit}
use Rattle.chain_model.proofs.MemberSteps.{begins}
use Rattle.chain_model.proofs.PassingSteps.{stops}
use Rattle.chain_model.proofs.laws.commits_are_of_one_volume.Goals as goal

pub returns-clause-begins : goal.returns-clause-begins
returns-clause-begins c = λ size v above m below commit. begins size v above m below commit

pub returns-clause-ends : goal.returns-clause-ends
returns-clause-ends c = ends_commit

pub returns-clause-stops : goal.returns-clause-stops
returns-clause-stops c = λ size v above m below cause events runs out. stops size v above m below runs cause events out

pub returns-clause-tells : goal.returns-clause-tells
returns-clause-tells c = tells_disks
