use Rattle.world_model.proofs.Runs.{run_then, shown_then}
use Rattle.world_model.proofs.laws.runs_go_on.Goals as goal

pub returns-clause-runs : goal.returns-clause-runs
returns-clause-runs c = run_then

pub returns-clause-shown : goal.returns-clause-shown
returns-clause-shown c = shown_then
