-- What a demand asks of the volume, and whose reply it owes.
use Rattle.std.specs.Prelude.{◌≡◌, ℕ, ◌+◌, ◌<◌, ◌≤◌, Bool, None, List, length, replicate, ⊤, if◌then◌else◌}
use Rattle.board.specs.Seats.{BoardId}
use Rattle.flush_barrier.specs.declared.session_id.SessionId.{SessionId}
use Rattle.flush_barrier.specs.Owed.{Owed}
use Rattle.nbd_codec.specs.declared.checks.Ask.{Ask}
use Rattle.nbd_codec.specs.declared.checks.Ask.TheVariants as asks
use Rattle.nbd_session.specs.declared.demand.Demand.{Demand}
use Rattle.nbd_session.specs.declared.demand.Demand.TheVariants as demands
use Rattle.volume.specs.Writes.{Fits, Placed}

-- what a request asks of the volume, under its cookie: a range of bytes, a write without FUA or with it, or a flush
pub data Asked : Type 0 where
  Read : (cookie offset len : ℕ) → Asked
  Write : (cookie : ℕ) → (write : Placed) → Asked
  Fua : (cookie : ℕ) → (write : Placed) → Asked
  Flush : (cookie : ℕ) → Asked

-- a write, with FUA or without
abbrev pub written_under : ℕ → Placed → Bool → Asked
written_under cookie write fua = if fua then Fua cookie write else Write cookie write

-- what is asked under a cookie, where these bytes stand behind the request's header
abbrev pub asked_under : ℕ → Ask → List ℕ → Asked
asked_under cookie (asks.Read offset len) payload = Read cookie offset len
asked_under cookie (asks.Write offset len fua) payload = written_under cookie (record { offset = offset; bytes = payload }) fua
asked_under cookie asks.Flush payload = Flush cookie
asked_under cookie (asks.Zero offset len fua) payload = written_under cookie (record { offset = offset; bytes = replicate len 0 }) fua

-- the demand of a session that asks this, with a token of the board
abbrev pub demand_of : BoardId → SessionId → Asked → Demand
demand_of board session (Read cookie offset len) = demands.Read (record { session = session; cookie = cookie; board = board }) offset len
demand_of board session (Write cookie write) = demands.Write (record { session = session; cookie = cookie; board = board }) write
demand_of board session (Fua cookie write) = demands.Fua (record { session = session; cookie = cookie; board = board; number = None }) write
demand_of board session (Flush cookie) = demands.Flush (record { session = session; cookie = cookie; board = board; number = None })

-- what a demand asks
abbrev pub asked_by : Demand → Asked
asked_by (demands.Read token offset len) = Read token.cookie offset len
asked_by (demands.Write token write) = Write token.cookie write
asked_by (demands.Fua token write) = Fua token.cookie write
asked_by (demands.Flush token) = Flush token.cookie

-- the reply that a demand's token owes
abbrev pub owed_by : Demand → Owed
owed_by (demands.Read token offset len) = token
owed_by (demands.Write token write) = token
owed_by (demands.Fua token write) = record { session = token.session; cookie = token.cookie; board = token.board }
owed_by (demands.Flush token) = record { session = token.session; cookie = token.cookie; board = token.board }

-- its token has no number yet
abbrev pub IsUnnumbered : Demand → Type 0
IsUnnumbered (demands.Read token offset len) = ⊤
IsUnnumbered (demands.Write token write) = ⊤
IsUnnumbered (demands.Fua token write) = token.number ≡ None
IsUnnumbered (demands.Flush token) = token.number ≡ None

-- its range, if it has one, has at least one byte and lies inside a volume of this size
abbrev pub IsAskedInside : ℕ → Asked → Type 0
IsAskedInside size (Read cookie offset len) = (0 < len) × (offset + len ≤ size)
IsAskedInside size (Write cookie write) = (0 < length write.bytes) × Fits size write
IsAskedInside size (Fua cookie write) = (0 < length write.bytes) × Fits size write
IsAskedInside size (Flush cookie) = ⊤
