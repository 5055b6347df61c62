-- What contracts see of a session, and how it goes through its input.
use Rattle.std.specs.Prelude.{◌≡◌, ◌⊎◌, ℕ, ◌+◌, ◌-◌, suc, zero, Bool, true, false, Option, Some, None, List, [], ◌++◌, take, drop, length, nat_lt, if◌then◌else◌}
use Rattle.std.specs.Option.{option_to_list}
use Rattle.board.specs.Seats.{BoardId}
use Rattle.flush_barrier.specs.declared.session_id.SessionId.{SessionId}
use Rattle.nbd_codec.specs.declared.constants.TheConstants.{MAX_IN_FLIGHT}
use Rattle.nbd_session.specs.declared.answer.Export.{Export}
use Rattle.nbd_session.specs.declared.phase.Phase.{Phase}
use Rattle.nbd_session.specs.Demand.{Asked}
use Rattle.nbd_session.specs.Progress.{Progress, is_over, phase_after, progress_in}

-- a session of a board's chain, at an export: how far it has come, how many of its demands are owed a reply, the input
-- that it hasn't taken, and the bytes that wait to go out
pub record State : Type 0 where
  pub board : BoardId
  pub id : SessionId
  pub export : Export
  pub phase : Phase
  pub in_flight : ℕ
  pub kept : List ℕ
  pub output : List ℕ

-- a session in the middle of its input, and what it has asked of the volume since the piece came
pub record Course : Type 0 where
  pub session : State
  pub asked : List Asked

-- one more, if something is asked
abbrev pub more_in_flight : ℕ → Option Asked → ℕ
more_in_flight n None = n
more_in_flight n (Some asked) = n + 1

-- after a step: one that ends the session leaves the rest of the input
abbrev pub after_progress : Course → Progress → Course
after_progress c progress =
    if is_over progress.phase then record {
      session = record c.session { phase = phase_after progress.phase c.session.in_flight; kept = []; output = c.session.output ++ progress.output };
      asked = c.asked;
    }
    else record {
      session = record c.session {
        phase = phase_after progress.phase c.session.in_flight;
        in_flight = more_in_flight c.session.in_flight progress.asked;
        kept = drop progress.used c.session.kept;
        output = c.session.output ++ progress.output;
      };
      asked = c.asked ++ option_to_list progress.asked;
    }

-- after a step, if there is one
abbrev pub after_any : Course → Option Progress → Course
after_any c (Some progress) = after_progress c progress
after_any c None = c

-- fewer requests are in flight than may be, if there is a limit
abbrev pub is_free : Option ℕ → ℕ → Bool
is_free None in_flight = true
is_free (Some limit) in_flight = nat_lt in_flight limit

-- one step more, while fewer requests are in flight than may be
unfoldable pub step : Option ℕ → Course → Course
step limit c = if is_free limit c.session.in_flight then after_any c (progress_in c.session.export c.session.phase c.session.kept) else c

-- so many steps
abbrev pub play : Option ℕ → ℕ → Course → Course
play limit zero c = c
play limit (suc n) c = play limit n (step limit c)

-- no step comes: as many requests are in flight as may be, or the input has none
abbrev pub IsDone : Option ℕ → Course → Type 0
IsDone limit c = (is_free limit c.session.in_flight ≡ false) ⊎ (progress_in c.session.export c.session.phase c.session.kept ≡ None)

-- after some steps no further one comes
pub record Settles (limit : Option ℕ) (from to : Course) : Type 0 where
  pub steps : ℕ
  pub there : play limit steps from ≡ to
  pub done : IsDone limit to

-- as many requests as may be in flight
abbrev pub limit_in_flight : Option ℕ
limit_in_flight = Some MAX_IN_FLIGHT

-- the session with a further piece of input
abbrev pub fed : State → List ℕ → Course
fed session piece = record { session = record session { kept = session.kept ++ piece }; asked = [] }

-- the piece leaves the session so, and asks this of the volume
abbrev pub Feeds : State → List ℕ → State → List Asked → Type 0
Feeds old piece new asked = Settles limit_in_flight (fed old piece) (record { session = new; asked = asked })

-- the session before its first step
abbrev pub course_of : State → Course
course_of session = record { session = session; asked = [] }

-- the session once so many bytes of its input are used up, and this is asked of the volume
abbrev pub used_from : State → ℕ → List Asked → Course
used_from session used asked = record {
  session = record session { in_flight = session.in_flight + length asked; kept = drop used session.kept };
  asked = asked;
}

-- perhaps more waits to go out, and nothing else changed but the phase
pub record Grows (old new : State) : Type 0 where
  pub board : new.board ≡ old.board
  pub id : new.id ≡ old.id
  pub export : new.export ≡ old.export
  pub in_flight : new.in_flight ≡ old.in_flight
  pub kept : new.kept ≡ old.kept
  pub output : take (length old.output) new.output ≡ old.output

-- perhaps more is kept and more waits to go out, and nothing else changed but the phase
pub record Overruns (old new : State) : Type 0 where
  pub board : new.board ≡ old.board
  pub id : new.id ≡ old.id
  pub export : new.export ≡ old.export
  pub in_flight : new.in_flight ≡ old.in_flight
  pub kept : take (length old.kept) new.kept ≡ old.kept
  pub output : take (length old.output) new.output ≡ old.output

-- what a session can still take: the input behind its first bytes, and its own end
abbrev pub left_to_use : State → ℕ → ℕ
left_to_use session used = (length session.kept - used) + (if is_over session.phase then 0 else 1)
