-- What a step's answer says that sessions were fed, and that went out to them.
use Rattle.std.specs.Prelude.{ℕ, List, Option, Some, None, Result, Ok, Err}
use Rattle.flush_barrier.specs.declared.session_id.SessionId.{SessionId}
use Rattle.clients.specs.Clients.{no_one, of_session}
use Rattle.chain_core.specs.Refusal.{number_of}
use Rattle.chain_core.specs.declared.refusal.Refusal.{Refusal}
use Rattle.world.specs.Telling as telling
use Rattle.world.specs.Telling.{outputs_of}
use Rattle.world.specs.declared.told.Told.{Told}
use Rattle.life.specs.declared.answer.Answer.{Answer}
use Rattle.life.specs.declared.answer.Answer.TheVariants.{Taken, HandedOut, Refused, Skipped}
use Rattle.life.specs.declared.era.Deed.{Deed}
use Rattle.life.specs.declared.era.Deed.TheVariants as deeds
use Rattle.life.specs.declared.step.Step.{Step}
use Rattle.life.specs.declared.step.Step.TheVariants.{Connect, Bytes, End, HandOut, Member}

-- ---- a step

-- a piece that was taken was fed to the session
abbrev pub fed_to : SessionId → List ℕ → Answer → SessionId → List ℕ
fed_to session piece (Taken told) = of_session session piece
fed_to session piece (HandedOut output) = no_one
fed_to session piece (Refused number) = no_one
fed_to session piece Skipped = no_one

abbrev pub fed_by_step : Step → Answer → SessionId → List ℕ
fed_by_step (Connect session at) answer = no_one
fed_by_step (Bytes session piece) answer = fed_to session piece.items answer
fed_by_step (End session) answer = no_one
fed_by_step (HandOut session) answer = no_one
fed_by_step (Member at act) answer = no_one

-- what a step told clients went out
abbrev pub handed_of : Answer → SessionId → List ℕ
handed_of (Taken told) = telling.handed_by (outputs_of told)
handed_of (HandedOut output) = no_one
handed_of (Refused number) = no_one
handed_of Skipped = no_one

-- what waited for a session went out to it
abbrev pub handed_from : SessionId → Answer → SessionId → List ℕ
handed_from session (Taken told) = telling.handed_by (outputs_of told)
handed_from session (HandedOut output) = of_session session output.bytes.items
handed_from session (Refused number) = no_one
handed_from session Skipped = no_one

abbrev pub handed_by_step : Step → Answer → SessionId → List ℕ
handed_by_step (Connect session at) answer = handed_of answer
handed_by_step (Bytes session piece) answer = handed_of answer
handed_by_step (End session) answer = handed_of answer
handed_by_step (HandOut session) answer = handed_from session answer
handed_by_step (Member at act) answer = handed_of answer

-- ---- answers

-- what told clients something was taken, and else there was no such step
abbrev pub told_in : Option Told → Answer
told_in (Some told) = Taken told
told_in None = Skipped

abbrev pub tried_in : Result (Option Told) Refusal → Answer
tried_in (Ok given) = told_in given
tried_in (Err refusal) = Refused (number_of refusal)

abbrev pub went_in : Result Told Refusal → Answer
went_in (Ok told) = Taken told
went_in (Err refusal) = Refused (number_of refusal)

-- ---- a deed

abbrev pub fed_by : Deed → Answer → SessionId → List ℕ
fed_by (deeds.Step step) answer = fed_by_step step answer
fed_by (deeds.Manage act) answer = no_one
fed_by (deeds.Arm at event) answer = no_one
fed_by (deeds.ArmConfig event) answer = no_one

abbrev pub handed_by : Deed → Answer → SessionId → List ℕ
handed_by (deeds.Step step) answer = handed_by_step step answer
handed_by (deeds.Manage act) answer = handed_of answer
handed_by (deeds.Arm at event) answer = no_one
handed_by (deeds.ArmConfig event) answer = no_one
