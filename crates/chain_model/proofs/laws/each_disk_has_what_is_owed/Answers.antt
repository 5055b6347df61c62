use Rattle.chain_model.proofs.AgreeingSteps.{disks_agree, joiner_agrees}
use Rattle.chain_model.proofs.BoardSteps.{is_on_each_disk}
use Rattle.chain_model.proofs.laws.each_disk_has_what_is_owed.Goals as goal

pub returns-clause-owed : goal.returns-clause-owed
returns-clause-owed c = is_on_each_disk

pub returns-clause-agree : goal.returns-clause-agree
returns-clause-agree c = disks_agree

pub returns-clause-joiner : goal.returns-clause-joiner
returns-clause-joiner c = joiner_agrees
