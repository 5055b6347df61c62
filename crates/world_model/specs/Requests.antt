-- What the requests of clients have left in a world, wherever it stands there, and which state of the machine that is.
use Rattle.std.specs.Prelude.{◌≡◌, ◌≢◌, ℕ, ◌+◌, ◌-◌, ◌<◌, ◌≤◌, ◌==◌, ⊤, Option, None, Some, List, length, map, take, drop, All, slice_get, count_by}
use Rattle.std.specs.List.{Contains, flat_map}
use Rattle.std.specs.Option.{ForSome}
use Rattle.flush_barrier.specs.declared.session_id.SessionId.{SessionId}
use Rattle.version_table.specs.declared.kept.Kept.{Kept}
use Rattle.version_table.specs.declared.kept.Origin.{Origin}
use Rattle.volume.specs.Writes.{Placed}
use Rattle.chain_steps.specs.Waiting.{debt_of}
use Rattle.chain_steps.specs.declared.waiting.Waiting.{Waiting}
use Rattle.chain_steps.specs.declared.waiting.Waiting.TheVariants as tokens
use Rattle.world_model.specs.Event.{ClientEvent, Request, Read, Sent}
use Rattle.world_model.specs.Machine.{Asked, IsFlush, IsFua, IsPlain, State, Waits, written}
use Rattle.world_model.specs.Sound.{IsSound, writes_of}

-- ---- what is there

-- a request that waits to be taken up: who sent it, under which cookie, and what it asks
pub record Held : Type 0 where
  pub session : SessionId
  pub cookie : ℕ
  pub request : Request

-- the request as clients see it sent
abbrev pub sent_event : Held → ClientEvent
sent_event h = Sent h.session h.cookie h.request

-- a write on its way to the head, and who submitted it
pub record Submitted : Type 0 where
  pub origin : Origin
  pub write : Placed

-- a token, at the member of this slot and incarnation
pub record Owing : Type 0 where
  pub slot : ℕ
  pub incarnation : ℕ
  pub token : Waiting

-- a front that the member at this slot looked up and keeps
pub record Looked : Type 0 where
  pub slot : ℕ
  pub front : ℕ

-- The committed front; the writes that the head has numbered, the first of them first; those on their way to it; the tokens
-- that wait at the members; the fronts that members looked up and keep; the demands that no member has taken; and for each
-- session the requests that stand whole in its kept input.
pub record Requests : Type 0 where
  pub front : ℕ
  pub line : List Kept
  pub submits : List Submitted
  pub tokens : List Owing
  pub looked : List Looked
  pub demands : List Held
  pub kept : List (List Held)

-- ---- whose it is

-- a numbered write, under its request's name
pub record Entry : Type 0 where
  pub name : ℕ
  pub kept : Kept

-- a submitted write, under its request's name
pub record Sending : Type 0 where
  pub name : ℕ
  pub submitted : Submitted

-- a token, and the request that is owed its reply
pub record Bound : Type 0 where
  pub owing : Owing
  pub asked : Asked

-- the names of all that is there
pub record Names : Type 0 where
  pub line : List Entry
  pub submits : List Sending
  pub tokens : List Bound
  pub demands : List Asked
  pub kept : List (List Asked)

-- the request as it waits to be taken up
abbrev pub held_of : Asked → Held
held_of asked = record { session = asked.session; cookie = asked.cookie; request = asked.request }

-- the names are those of what is there
pub record AreNamesOf (r : Requests) (names : Names) : Type 0 where
  pub line : map (λ e. e.kept) names.line ≡ r.line
  pub submits : map (λ x. x.submitted) names.submits ≡ r.submits
  pub tokens : map (λ b. b.owing) names.tokens ≡ r.tokens
  pub demands : map held_of names.demands ≡ r.demands
  pub kept : map (map held_of) names.kept ≡ r.kept

-- all requests that the sessions keep
abbrev pub later : Names → List Asked
later names = flat_map (λ asked. asked) names.kept

-- the writes of the line, each under its name
abbrev pub named_writes : List Entry → List (ℕ × Placed)
named_writes line = map (λ e. (e.name, e.kept.write)) line

-- ---- no two are one

abbrev pub count_asked : ℕ → List Asked → ℕ
count_asked name asked = count_by (λ a. a.name == name) asked

abbrev pub count_line : ℕ → List Entry → ℕ
count_line name line = count_by (λ e. e.name == name) line

abbrev pub count_submits : ℕ → List Sending → ℕ
count_submits name submits = count_by (λ x. x.name == name) submits

abbrev pub count_tokens : ℕ → List Bound → ℕ
count_tokens name tokens = count_by (λ b. b.asked.name == name) tokens

-- a request's write stands at one place, and its reply is owed once
pub record AreApart (names : Names) : Type 0 where
  pub one_place : (name : ℕ) → count_line name names.line + count_submits name names.submits + (count_asked name names.demands + count_asked name (later names)) ≤ 1
  pub one_reply : (name : ℕ) → count_tokens name names.tokens + (count_asked name names.demands + count_asked name (later names)) ≤ 1

-- ---- what is owed to whom

-- the request of this name, which was sent since the last restart, asks for this write
pub record IsSent (sent : List Asked) (name : ℕ) (write : Placed) : Type 0 where
  pub asked : Asked
  pub among : Contains sent asked
  pub named : asked.name ≡ name
  pub writes : written asked.request ≡ Some write

-- the token is of a request of its kind
abbrev pub IsOfKind : Waiting → Request → Type 0
IsOfKind (tokens.Plain ticket epoch number token) request = IsPlain request
IsOfKind (tokens.Fua ticket epoch token) request = IsFua request
IsOfKind (tokens.Read offset len token) request = request ≡ Read offset len
IsOfKind (tokens.Flush token) request = IsFlush request

-- the write with the number n, counted from 1, is of the request of this name
abbrev pub IsOfNumber : List Entry → ℕ → ℕ → Type 0
IsOfNumber line name n = (0 < n) × (slice_get (map (λ e. e.name) line) (n - 1) ≡ Some name)

-- a number that the token knows is its write's, or is at least its FLUSH's due
abbrev pub IsNumbered : List Entry → Asked → Waiting → Type 0
IsNumbered line asked (tokens.Plain ticket epoch number token) = ForSome number (IsOfNumber line asked.name)
IsNumbered line asked (tokens.Fua ticket epoch token) = ForSome token.number (IsOfNumber line asked.name)
IsNumbered line asked (tokens.Read offset len token) = ⊤
IsNumbered line asked (tokens.Flush token) = ForSome token.number (λ n. asked.due ≤ n)

-- the origin of the write that a token waits for
abbrev pub origin_of : Owing → ℕ → Origin
origin_of o ticket = record { slot = o.slot; incarnation = o.incarnation; ticket = ticket }

-- each write of this origin, numbered or on its way, is of the request of this name
pub record IsOfOrigin (line : List Entry) (submits : List Sending) (name : ℕ) (origin : Origin) : Type 0 where
  pub numbered : All (λ e. e.kept.origin ≡ origin → e.name ≡ name) line
  pub submitted : All (λ x. x.submitted.origin ≡ origin → x.name ≡ name) submits

-- under the ticket that a write's token keeps only its own write was submitted
abbrev pub IsOfTicket : List Entry → List Sending → ℕ → Owing → Waiting → Type 0
IsOfTicket line submits name o (tokens.Plain ticket epoch number token) = IsOfOrigin line submits name (origin_of o ticket)
IsOfTicket line submits name o (tokens.Fua ticket epoch token) = IsOfOrigin line submits name (origin_of o ticket)
IsOfTicket line submits name o (tokens.Read offset len token) = ⊤
IsOfTicket line submits name o (tokens.Flush token) = ⊤

-- the token is its request's
pub record IsBound (line : List Entry) (submits : List Sending) (b : Bound) : Type 0 where
  pub session : (debt_of b.owing.token).session ≡ b.asked.session
  pub cookie : (debt_of b.owing.token).cookie ≡ b.asked.cookie
  pub kind : IsOfKind b.owing.token b.asked.request
  pub number : IsNumbered line b.asked b.owing.token
  pub ticket : IsOfTicket line submits b.asked.name b.owing b.owing.token

-- ---- what was looked up

-- a front that was looked up may answer the token: it is at least a READ's mark, and the due of a FLUSH that isn't bound yet
abbrev pub MayAnswer : ℕ → Asked → Waiting → Type 0
MayAnswer front asked (tokens.Plain ticket epoch number token) = ⊤
MayAnswer front asked (tokens.Fua ticket epoch token) = ⊤
MayAnswer front asked (tokens.Read offset len token) = asked.mark ≤ front
MayAnswer front asked (tokens.Flush token) = token.number ≡ None → asked.due ≤ front

-- it is at most the committed front, and may answer each token of its member
pub record IsFresh (front : ℕ) (tokens : List Bound) (looked : Looked) : Type 0 where
  pub committed : looked.front ≤ front
  pub answers : All (λ b. b.owing.slot ≡ looked.slot → MayAnswer looked.front b.asked b.owing.token) tokens

-- ---- together

-- Under these names, what is there stands for the state: what is owed is among the first `backed` writes.
pub record StandsUnder (backed : ℕ) (r : Requests) (s : State) (names : Names) : Type 0 where
  pub sound : IsSound s
  pub committed : r.front ≡ length s.taken
  pub owed : s.owed ≤ backed
  pub taken : writes_of s.taken ≡ take r.front (named_writes names.line)
  pub named : AreNamesOf r names
  pub apart : AreApart names
  pub line_sent : All (λ e. IsSent s.sent e.name e.kept.write) (drop r.front names.line)
  pub submits_sent : All (λ x. IsSent s.sent x.name x.submitted.write) names.submits
  pub bound : All (IsBound names.line names.submits) names.tokens
  pub tokens_wait : All (λ b. Waits s b.asked) names.tokens
  pub demands_wait : All (Waits s) names.demands
  pub kept_wait : All (Waits s) (later names)
  pub fresh : All (IsFresh r.front names.tokens) r.looked

-- what is there stands for a state of the machine
abbrev pub StandsFor : ℕ → Requests → State → Type 0
StandsFor backed r s = (names : Names) × StandsUnder backed r s names

-- ---- tickets

-- the ticket of the write that a token waits for
abbrev pub ticket_of : Waiting → Option ℕ
ticket_of (tokens.Plain ticket epoch number token) = Some ticket
ticket_of (tokens.Fua ticket epoch token) = Some ticket
ticket_of (tokens.Read offset len token) = None
ticket_of (tokens.Flush token) = None

-- the token of a write that was just submitted under this ticket: it knows no number
abbrev pub IsNew : ℕ → Waiting → Type 0
IsNew under (tokens.Plain ticket epoch number token) = (ticket ≡ under) × (number ≡ None)
IsNew under (tokens.Fua ticket epoch token) = (ticket ≡ under) × (token.number ≡ None)
IsNew under (tokens.Read offset len token) = ⊥
IsNew under (tokens.Flush token) = ⊥

-- nothing has this origin: no numbered or submitted write, and no token waits for such a write
pub record IsUnused (origin : Origin) (r : Requests) : Type 0 where
  pub line : All (λ k. k.origin ≢ origin) r.line
  pub submits : All (λ x. x.origin ≢ origin) r.submits
  pub tokens : All (λ o. (ticket : ℕ) → ticket_of o.token ≡ Some ticket → origin_of o ticket ≢ origin) r.tokens
