-- Transcript: the requests that a text after negotiation contains, and the lawful output.
use Rattle.std.specs.Prelude.{◌≡◌, ℕ, List, [], ◌∷◌, ◌++◌, All, ⊤}
use Rattle.std.specs.List.{flat_map}
use Rattle.nbd_codec.specs.declared.checks.Checked.{Checked}
use Rattle.nbd_codec.specs.declared.checks.Checked.TheVariants as checks
use Rattle.nbd_codec.specs.Checked.{checked}
use Rattle.nbd_codec.specs.Findings.{IsImpossible, IsProperPrefix}
use Rattle.nbd_codec.specs.Reply.{PlainReply, Done, Refused, encoding as reply_encoding}
use Rattle.nbd_codec.specs.Request.{IsRequest, PlainRequest, Read, Write, Disc, Flush, Zero, Other, head_of, payload_of, encoding}
use Rattle.nbd_session.specs.declared.answer.Export.{Export}
use Rattle.nbd_session.specs.Demand.{Asked, asked_under}

-- the client leaves
abbrev pub IsDisc : PlainRequest → Type 0
IsDisc (Read flags cookie offset len) = ⊥
IsDisc (Write flags cookie offset payload) = ⊥
IsDisc (Disc flags cookie offset len) = ⊤
IsDisc (Flush flags cookie offset len) = ⊥
IsDisc (Zero flags cookie offset len) = ⊥
IsDisc (Other kind flags cookie offset len) = ⊥

-- a text begins with these requests, none of which is a DISC; then comes this rest
pub record BeginsWithRequests (max_payload : ℕ) (text : List ℕ) (requests : List PlainRequest) (rest : List ℕ) : Type 0 where
  pub each : All (λ request. IsRequest max_payload request × (IsDisc request → ⊥)) requests
  pub whole : text ≡ flat_map encoding requests ++ rest

-- how a text ends: with no whole request, with a DISC and whatever stands behind it, or with what no request begins with
pub data TextEnd : Type 0 where
  Unfinished : TextEnd
  Left : TextEnd
  Faulty : TextEnd

-- a rest that ends so
abbrev pub EndsSo : ℕ → List ℕ → TextEnd → Type 0
EndsSo max_payload rest Unfinished = IsProperPrefix encoding (IsRequest max_payload) rest
EndsSo max_payload rest Left = (disc : PlainRequest) × (behind : List ℕ) × IsRequest max_payload disc × IsDisc disc × (rest ≡ encoding disc ++ behind)
EndsSo max_payload rest Faulty = IsImpossible encoding (IsRequest max_payload) rest

-- the requests that a text contains
abbrev pub Transcript : ℕ → (text : List ℕ) → List PlainRequest → TextEnd → Type 0
Transcript max_payload text requests end = (rest : List ℕ) × BeginsWithRequests max_payload text requests rest × EndsSo max_payload rest end

-- what happens in transmission: a request is reached, or the reply to a demand comes
pub data TransmissionEvent : Type 0 where
  Reached : (request : PlainRequest) → TransmissionEvent
  Came : (reply : PlainReply) → TransmissionEvent

-- the requests that are reached
abbrev pub reached : List TransmissionEvent → List PlainRequest
reached [] = []
reached (Reached request ∷ events) = request ∷ reached events
reached (Came reply ∷ events) = reached events

-- the replies that come
abbrev pub replies_in : List TransmissionEvent → List PlainReply
replies_in [] = []
replies_in (Reached request ∷ events) = replies_in events
replies_in (Came reply ∷ events) = reply ∷ replies_in events

-- the one reply that the tests of requests give, if the volume isn't asked
abbrev pub own_reply : ℕ → Checked → List ℕ
own_reply cookie (checks.Volume ask) = []
own_reply cookie checks.Done = reply_encoding (Done cookie [])
own_reply cookie (checks.Refused error) = reply_encoding (Refused cookie error)
own_reply cookie checks.Disconnect = []

-- what goes out
abbrev pub shown : Export → TransmissionEvent → List ℕ
shown export (Reached request) = own_reply (head_of request).cookie (checked export.size export.max_payload export.area request)
shown export (Came reply) = reply_encoding reply

-- what the tests of requests leave to the volume
abbrev pub asked_if : PlainRequest → Checked → List Asked
asked_if request (checks.Volume ask) = asked_under (head_of request).cookie ask (payload_of request) ∷ []
asked_if request checks.Done = []
asked_if request (checks.Refused error) = []
asked_if request checks.Disconnect = []

-- what is asked of the volume: one demand for each volume request that is reached
abbrev pub asked_in : Export → TransmissionEvent → List Asked
asked_in export (Reached request) = asked_if request (checked export.size export.max_payload export.area request)
asked_in export (Came reply) = []

-- a text whose requests up to this rest were reached: each that isn't for the volume got its one reply, each other made
-- one demand, and the replies to demands went out once each
pub record Talks (export : Export) (text sent : List ℕ) (asked : List Asked) (replies : List PlainReply) (rest : List ℕ) : Type 0 where
  pub events : List TransmissionEvent
  pub came : BeginsWithRequests export.max_payload text (reached events) rest
  pub went : sent ≡ flat_map (shown export) events
  pub asks : asked ≡ flat_map (asked_in export) events
  pub answers : replies ≡ replies_in events
