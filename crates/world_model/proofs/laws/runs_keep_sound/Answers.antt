use Rattle.world_model.proofs.Runs.{sound_start, sound_step, sound_run, names_find}
use Rattle.world_model.proofs.laws.runs_keep_sound.Goals as goal

pub returns-clause-start : goal.returns-clause-start
returns-clause-start c = sound_start

pub returns-clause-step : goal.returns-clause-step
returns-clause-step c = sound_step

pub returns-clause-run : goal.returns-clause-run
returns-clause-run c = sound_run

pub returns-clause-found : goal.returns-clause-found
returns-clause-found c = names_find
