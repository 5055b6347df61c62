use Rattle.chain_model.proofs.ForgettingSteps.{forgets_member}
use Rattle.chain_model.proofs.RecordSteps.{begins_record, ends_record}
use Rattle.chain_model.proofs.ToldSteps.{tells_member}
use Rattle.chain_model.proofs.laws.records_are_of_one_volume.Goals as goal

pub returns-clause-begins : goal.returns-clause-begins
returns-clause-begins c = begins_record

pub returns-clause-ends : goal.returns-clause-ends
returns-clause-ends c = ends_record

pub returns-clause-tells : goal.returns-clause-tells
returns-clause-tells c = tells_member

pub returns-clause-forgets : goal.returns-clause-forgets
returns-clause-forgets c = forgets_member
