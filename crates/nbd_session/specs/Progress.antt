-- What a session does with the bytes at the front of its input.
use Rattle.std.specs.Prelude.{ℕ, ◌-◌, ◌<◌, Bool, true, false, Option, Some, None, List, [], length, ⊤, nat_lt, ◌==◌, if◌then◌else◌}
use Rattle.nbd_codec.specs.declared.findings.Reading.{Reading}
use Rattle.nbd_codec.specs.declared.findings.Reading.TheVariants.{Value, More, Fault}
use Rattle.nbd_codec.specs.declared.handshake.ClientFlags.{ClientFlags as Flags}
use Rattle.nbd_codec.specs.declared.option_replies.OptionReply.TheVariants.{ErrTooBig}
use Rattle.nbd_codec.specs.declared.options.Information.{Information}
use Rattle.nbd_codec.specs.declared.options.Information.TheVariants as infos
use Rattle.nbd_codec.specs.declared.options.ClientOption.{ClientOption}
use Rattle.nbd_codec.specs.declared.options.ClientOption.TheVariants as options
use Rattle.nbd_codec.specs.declared.checks.Checked.{Checked}
use Rattle.nbd_codec.specs.declared.checks.Checked.TheVariants as checks
use Rattle.nbd_codec.specs.Checked.{checked}
use Rattle.nbd_codec.specs.ClientOption.{PlainOption, option_in, told_of}
use Rattle.nbd_codec.specs.Handshake.{flags_in}
use Rattle.nbd_codec.specs.OptionReply.{option_reply_encoding}
use Rattle.nbd_codec.specs.Reply.{encoding, Done, Refused}
use Rattle.nbd_codec.specs.Request.{PlainRequest, head_of, payload_of, request_in}
use Rattle.nbd_session.specs.declared.answer.Export.{Export}
use Rattle.nbd_session.specs.declared.phase.Phase.{Phase}
use Rattle.nbd_session.specs.declared.phase.Phase.TheVariants.{Greeted, Negotiating, Skipping, Transmitting, Leaving, Over}
use Rattle.nbd_session.specs.Answers.{option_answer}
use Rattle.nbd_session.specs.Demand.{Asked, asked_under}

-- in this phase no input is taken
abbrev pub is_over : Phase → Bool
is_over Greeted = false
is_over (Negotiating no_zeroes) = false
is_over (Skipping no_zeroes option left) = false
is_over Transmitting = false
is_over Leaving = true
is_over Over = true

-- where data is passed over, some is left
abbrev pub IsPhase : Phase → Type 0
IsPhase Greeted = ⊤
IsPhase (Negotiating no_zeroes) = ⊤
IsPhase (Skipping no_zeroes option left) = 0 < left
IsPhase Transmitting = ⊤
IsPhase Leaving = ⊤
IsPhase Over = ⊤

-- a step through the input: how far the session has come then, how many bytes it uses up, what goes out, and what is asked of
-- the volume
pub record Progress : Type 0 where
  pub phase : Phase
  pub used : ℕ
  pub output : List ℕ
  pub asked : Option Asked

-- the session ends, whatever came
abbrev pub ended : ℕ → Progress
ended came = record { phase = Over; used = came; output = []; asked = None }

-- at client flags, of so many bytes that came
abbrev pub flags_progress : ℕ → Reading Flags → Option Progress
flags_progress came (Value flags len) = Some (record { phase = Negotiating flags.no_zeroes; used = len; output = []; asked = None })
flags_progress came More = None
flags_progress came (Fault fault) = Some (ended came)

-- transmission begins with GO where it names the one export
abbrev pub phase_after_go : Bool → Information → Phase
phase_after_go no_zeroes (infos.Asked has_name block_size) = if has_name then Negotiating no_zeroes else Transmitting
phase_after_go no_zeroes infos.Malformed = Negotiating no_zeroes

-- how far the session has come after an option
abbrev pub phase_after_option : Bool → ClientOption → Phase
phase_after_option no_zeroes options.ExportName = Transmitting
phase_after_option no_zeroes options.Abort = Over
phase_after_option no_zeroes (options.List has_data) = Negotiating no_zeroes
phase_after_option no_zeroes (options.Info info) = Negotiating no_zeroes
phase_after_option no_zeroes (options.Go info) = phase_after_go no_zeroes info
phase_after_option no_zeroes (options.Other number) = Negotiating no_zeroes
phase_after_option no_zeroes (options.Oversized number len) = Skipping no_zeroes number len

-- what goes out at once: the answer to an option that is too long waits for the end of its data
abbrev pub output_after_option : Export → Bool → ClientOption → List ℕ
output_after_option export no_zeroes options.ExportName = option_answer export no_zeroes options.ExportName
output_after_option export no_zeroes options.Abort = option_answer export no_zeroes options.Abort
output_after_option export no_zeroes (options.List has_data) = option_answer export no_zeroes (options.List has_data)
output_after_option export no_zeroes (options.Info info) = option_answer export no_zeroes (options.Info info)
output_after_option export no_zeroes (options.Go info) = option_answer export no_zeroes (options.Go info)
output_after_option export no_zeroes (options.Other number) = option_answer export no_zeroes (options.Other number)
output_after_option export no_zeroes (options.Oversized number len) = []

-- at an option, as far as the step depends on it
abbrev pub option_step : Export → Bool → ClientOption → ℕ → Progress
option_step export no_zeroes option len =
    record { phase = phase_after_option no_zeroes option; used = len; output = output_after_option export no_zeroes option; asked = None }

-- at an option, of so many bytes that came
abbrev pub option_progress : Export → Bool → ℕ → Reading PlainOption → Option Progress
option_progress export no_zeroes came (Value option len) = Some (option_step export no_zeroes (told_of option) len)
option_progress export no_zeroes came More = None
option_progress export no_zeroes came (Fault fault) = Some (ended came)

-- where so many bytes of data are passed over, and so many came: behind the last of them comes the answer
abbrev pub skip_progress : Bool → (option left came : ℕ) → Option Progress
skip_progress no_zeroes option left came =
    if came == 0 then None
    else (if nat_lt came left then Some (record { phase = Skipping no_zeroes option (left - came); used = came; output = []; asked = None })
    else Some (record { phase = Negotiating no_zeroes; used = left; output = option_reply_encoding option ErrTooBig; asked = None }))

-- at a request of so many bytes, by what the tests of requests say of it: the volume is asked, or the one reply goes
-- out, or the client has left
abbrev pub checked_progress : PlainRequest → ℕ → Checked → Progress
checked_progress request len (checks.Volume ask) =
    record { phase = Transmitting; used = len; output = []; asked = Some (asked_under (head_of request).cookie ask (payload_of request)) }
checked_progress request len checks.Done = record { phase = Transmitting; used = len; output = encoding (Done (head_of request).cookie []); asked = None }
checked_progress request len (checks.Refused error) = record { phase = Transmitting; used = len; output = encoding (Refused (head_of request).cookie error); asked = None }
checked_progress request len checks.Disconnect = record { phase = Leaving; used = len; output = []; asked = None }

-- at a request, of so many bytes that came
abbrev pub request_progress : Export → ℕ → Reading PlainRequest → Option Progress
request_progress export came (Value request len) = Some (checked_progress request len (checked export.size export.max_payload export.area request))
request_progress export came More = None
request_progress export came (Fault fault) = Some (ended came)

-- what a session in this phase does with its input, if it does anything: it may need more, or take no more
unfoldable pub progress_in : Export → Phase → List ℕ → Option Progress
progress_in export Greeted input = flags_progress (length input) (flags_in input)
progress_in export (Negotiating no_zeroes) input = option_progress export no_zeroes (length input) (option_in input)
progress_in export (Skipping no_zeroes option left) input = skip_progress no_zeroes option left (length input)
progress_in export Transmitting input = request_progress export (length input) (request_in export.max_payload input)
progress_in export Leaving input = None
progress_in export Over input = None

-- the phase once a session that its client left owes that many replies
abbrev pub phase_after : Phase → ℕ → Phase
phase_after Leaving in_flight = if in_flight == 0 then Over else Leaving
phase_after Greeted in_flight = Greeted
phase_after (Negotiating no_zeroes) in_flight = Negotiating no_zeroes
phase_after (Skipping no_zeroes option left) in_flight = Skipping no_zeroes option left
phase_after Transmitting in_flight = Transmitting
phase_after Over in_flight = Over

-- the phase once the client's input has ended: replies that are owed at a DISC still go out
abbrev pub phase_at_end : Phase → Phase
phase_at_end Greeted = Over
phase_at_end (Negotiating no_zeroes) = Over
phase_at_end (Skipping no_zeroes option left) = Over
phase_at_end Transmitting = Over
phase_at_end Leaving = Leaving
phase_at_end Over = Over
