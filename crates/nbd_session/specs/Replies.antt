-- What becomes of the reply to a demand.
use Rattle.std.specs.Prelude.{ℕ, ◌-◌, Bool, false, nat_lt, Option, Some, None, List, ◌++◌, if◌then◌else◌}
use Rattle.flush_barrier.specs.declared.error_code.ErrorCode.{ErrorCode}
use Rattle.flush_barrier.specs.declared.error_code.ErrorCode.TheVariants.{Io, NoMemory}
use Rattle.flush_barrier.specs.Reply.{GivenReply}
use Rattle.nbd_codec.specs.declared.replies.NbdError.{NbdError}
use Rattle.nbd_codec.specs.declared.replies.NbdError.TheVariants as errors
use Rattle.nbd_codec.specs.Reply.{PlainReply, Done, Refused, encoding}
use Rattle.nbd_session.specs.declared.phase.Phase.{Phase}
use Rattle.nbd_session.specs.declared.phase.Phase.TheVariants.{Greeted, Negotiating, Skipping, Transmitting, Leaving, Over}
use Rattle.nbd_session.specs.Session.{State}
use Rattle.nbd_session.specs.Progress.{phase_after}

-- an error of a token on the wire
abbrev pub error_of : ErrorCode → NbdError
error_of Io = errors.Io
error_of NoMemory = errors.NoMemory

-- a reply on the wire, for the layers above, which don't know the wire itself
abbrev pub WireReply : Type 0
WireReply = PlainReply

-- bytes, or an error
abbrev pub seen_with : ℕ → List ℕ → Option ErrorCode → PlainReply
seen_with cookie bytes None = Done cookie bytes
seen_with cookie bytes (Some code) = Refused cookie (error_of code)

-- the reply to a demand on the wire
abbrev pub reply_seen : GivenReply → PlainReply
reply_seen reply = seen_with reply.cookie reply.payload reply.error

-- a reply is owed, and goes out: the session hasn't ended
abbrev pub is_owed : Phase → ℕ → Bool
is_owed Greeted in_flight = nat_lt 0 in_flight
is_owed (Negotiating no_zeroes) in_flight = nat_lt 0 in_flight
is_owed (Skipping no_zeroes option left) in_flight = nat_lt 0 in_flight
is_owed Transmitting in_flight = nat_lt 0 in_flight
is_owed Leaving in_flight = nat_lt 0 in_flight
is_owed Over in_flight = false

-- the session once a reply to one of its demands came
abbrev pub answered : State → PlainReply → State
answered session reply = record session {
  phase = phase_after session.phase (session.in_flight - 1);
  in_flight = session.in_flight - 1;
  output = if is_owed session.phase session.in_flight then session.output ++ encoding reply else session.output;
}
