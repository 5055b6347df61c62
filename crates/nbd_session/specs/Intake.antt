-- What the functions of a session make of its input, as contracts see it.
use Rattle.std.specs.Prelude.{◌≡◌, ℕ, ◌+◌, ◌<◌, ◌≤◌, false, List, length, slice_range, IfSome, option_map}
use Rattle.nbd_session.specs.declared.answer.Export.{Export}
use Rattle.nbd_session.specs.declared.intake.Intake.{Intake}
use Rattle.nbd_session.specs.declared.wanted.Wanted.{Wanted}
use Rattle.nbd_session.specs.declared.wanted.Loaded.{Loaded}
use Rattle.nbd_session.specs.Answers.{answer_encoding}
use Rattle.nbd_session.specs.Demand.{Asked, IsAskedInside, asked_under}
use Rattle.nbd_session.specs.Progress.{IsPhase, Progress, is_over}

-- what a request that stands in the input asks
abbrev pub wanted_view : List ℕ → Wanted → Asked
wanted_view input wanted = asked_under wanted.cookie wanted.ask (slice_range input wanted.start wanted.end)

-- a request where so many bytes stand before its input
abbrev pub behind : ℕ → Wanted → Wanted
behind before wanted = record wanted { start = before + wanted.start; end = before + wanted.end }

-- what a request asks that has its payload with it
abbrev pub loaded_view : Loaded → Asked
loaded_view loaded = asked_under loaded.cookie loaded.ask loaded.payload

-- the step through this input that a session takes by what it found there
abbrev pub progress_of : Export → List ℕ → Intake → Progress
progress_of export input intake =
    record { phase = intake.phase; used = intake.used; output = answer_encoding export intake.answer; asked = option_map (wanted_view input) intake.wanted }

-- a request's payload stands within the first bytes of the input, and its range, if it has one, inside the volume
pub record IsSound (size : ℕ) (input : List ℕ) (used : ℕ) (wanted : Wanted) : Type 0 where
  pub ordered : wanted.start ≤ wanted.end
  pub within : wanted.end ≤ used
  pub inside : IsAskedInside size (wanted_view input wanted)

-- a step uses up some of the input, unless it ends the session, and what it asks is sound
pub record IsIntake (size : ℕ) (input : List ℕ) (intake : Intake) : Type 0 where
  pub within : intake.used ≤ length input
  pub advances : is_over intake.phase ≡ false → 0 < intake.used
  pub phase : IsPhase intake.phase
  pub wanted : IfSome intake.wanted (IsSound size input intake.used)
