use Rattle.chain_model.proofs.MessageSteps.{takes_message}
use Rattle.chain_model.proofs.SubmittedSteps.{takes_submit}
use Rattle.chain_model.proofs.laws.messages_are_of_one_volume.Goals as goal

pub returns-clause-takes : goal.returns-clause-takes
returns-clause-takes c = takes_message

pub returns-clause-numbers : goal.returns-clause-numbers
returns-clause-numbers c = takes_submit
