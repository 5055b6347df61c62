-- A token that waits: what it learns, when it is answered, and with what reply.
use Rattle.std.specs.Prelude.{◌≡◌, ℕ, Bool, true, false, ◌&&◌, not, Option, Some, None, is_some, ◌==◌, nat_le, nat_lt, if◌then◌else◌, List, [], ⊤}
use Rattle.board.specs.Seats.{BoardId}
use Rattle.flush_barrier.specs.Owed.{Owed}
use Rattle.flush_barrier.specs.Reply.{GivenReply}
use Rattle.flush_barrier.specs.declared.error_code.ErrorCode.{ErrorCode}
use Rattle.chain_steps.specs.declared.waiting.Due.{Due}
use Rattle.chain_steps.specs.declared.waiting.Due.TheVariants as dues
use Rattle.chain_steps.specs.declared.waiting.Waiting.{Waiting}
use Rattle.chain_steps.specs.declared.waiting.Waiting.TheVariants.{Plain, Fua, Read, Flush}
use Rattle.chain_steps.specs.declared.waiting.WriteToken.{WriteToken}
use Rattle.chain_steps.specs.declared.waiting.WriteToken.TheVariants as tokens

-- a write waits under its ticket, in the epoch of its Submit
abbrev pub waits_for : ℕ → ℕ → WriteToken → Waiting
waits_for ticket epoch (tokens.Plain token) = Plain ticket epoch None token
waits_for ticket epoch (tokens.Fua token) = Fua ticket epoch token

-- a number that was learned stays
abbrev pub number_or : ℕ → Option ℕ → Option ℕ
number_or n None = Some n
number_or n (Some m) = Some m

-- the token of the write under this ticket learns its number, once
abbrev pub learned : ℕ → ℕ → Waiting → Waiting
learned under n (Plain ticket epoch number token) = Plain ticket epoch (if ticket == under then number_or n number else number) token
learned under n (Fua ticket epoch token) = Fua ticket epoch (if ticket == under then record token { number = number_or n token.number } else token)
learned under n (Read offset len token) = Read offset len token
learned under n (Flush token) = Flush token

-- a FLUSH is bound to the first front that it meets
abbrev pub bound : ℕ → Waiting → Waiting
bound n (Plain ticket epoch number token) = Plain ticket epoch number token
bound n (Fua ticket epoch token) = Fua ticket epoch token
bound n (Read offset len token) = Read offset len token
bound n (Flush token) = Flush (record token { number = number_or n token.number })

-- the number is known, and at most the limit
abbrev pub is_up_to : ℕ → Option ℕ → Bool
is_up_to limit None = false
is_up_to limit (Some n) = nat_le n limit

-- a write without FUA has a number up to the known commit
abbrev pub is_committed : ℕ → Waiting → Bool
is_committed known (Plain ticket epoch number token) = is_up_to known number
is_committed known (Fua ticket epoch token) = false
is_committed known (Read offset len token) = false
is_committed known (Flush token) = false

-- a floor of this front reaches the number of a write with FUA
abbrev pub is_paid_write : ℕ → Waiting → Bool
is_paid_write front (Plain ticket epoch number token) = false
is_paid_write front (Fua ticket epoch token) = is_up_to front token.number
is_paid_write front (Read offset len token) = false
is_paid_write front (Flush token) = false

-- a floor of this front reaches the number to which a FLUSH is bound
abbrev pub is_paid_flush : ℕ → Waiting → Bool
is_paid_flush front (Plain ticket epoch number token) = false
is_paid_flush front (Fua ticket epoch token) = false
is_paid_flush front (Read offset len token) = false
is_paid_flush front (Flush token) = is_up_to front token.number

-- a write that has no number yet, and was submitted in an older epoch than this one
abbrev pub is_outdated : ℕ → Waiting → Bool
is_outdated now (Plain ticket epoch number token) = not (is_some number) && nat_lt epoch now
is_outdated now (Fua ticket epoch token) = not (is_some token.number) && nat_lt epoch now
is_outdated now (Read offset len token) = false
is_outdated now (Flush token) = false

-- the range that a READ asks for
abbrev pub asked_range : Waiting → ℕ × ℕ
asked_range (Plain ticket epoch number token) = (0, 0)
asked_range (Fua ticket epoch token) = (0, 0)
asked_range (Read offset len token) = (offset, len)
asked_range (Flush token) = (0, 0)

abbrev pub is_read : Waiting → Bool
is_read (Plain ticket epoch number token) = false
is_read (Fua ticket epoch token) = false
is_read (Read offset len token) = true
is_read (Flush token) = false

-- it waits for a front to be looked up: a READ, or a FLUSH that isn't bound yet
abbrev pub asks_front : Waiting → Bool
asks_front (Plain ticket epoch number token) = false
asks_front (Fua ticket epoch token) = false
asks_front (Read offset len token) = true
asks_front (Flush token) = not (is_some token.number)

-- it waits for a floor: a write with FUA that has its number, or a FLUSH that is bound
abbrev pub asks_floor : Waiting → Bool
asks_floor (Plain ticket epoch number token) = false
asks_floor (Fua ticket epoch token) = is_some token.number
asks_floor (Read offset len token) = false
asks_floor (Flush token) = is_some token.number

-- which tokens are answered: as far as a commit is known, or as far as a floor reaches
abbrev pub is_due : Due → Waiting → Bool
is_due (dues.Committed known) w = is_committed known w
is_due (dues.Writes floor) w = is_paid_write floor.now.front w
is_due (dues.Flushes floor) w = is_paid_flush floor.now.front w

-- whose reply is owed: the session, the cookie, and the board whose chain owes it
abbrev pub debt_of : Waiting → Owed
debt_of (Plain ticket epoch number token) = token
debt_of (Fua ticket epoch token) = record { session = token.session; cookie = token.cookie; board = token.board }
debt_of (Read offset len token) = token
debt_of (Flush token) = record { session = token.session; cookie = token.cookie; board = token.board }

-- the board whose chain owes the reply to a write
abbrev pub board_of : WriteToken → BoardId
board_of (tokens.Plain token) = token.board
board_of (tokens.Fua token) = token.board

-- the token is of this board
abbrev pub IsOf : BoardId → Waiting → Type 0
IsOf board w = (debt_of w).board ≡ board

-- a floor that is to pay it is one of its board
abbrev pub IsOfDue : Due → Waiting → Type 0
IsOfDue (dues.Committed known) w = ⊤
IsOfDue (dues.Writes floor) w = IsOf floor.now.board w
IsOfDue (dues.Flushes floor) w = IsOf floor.now.board w

-- the reply to it, with this error or none, and these bytes
abbrev pub reply_with : List ℕ → Option ErrorCode → Waiting → GivenReply
reply_with bytes error w = record { session = (debt_of w).session; cookie = (debt_of w).cookie; error = error; payload = bytes }

-- the reply to it without bytes
abbrev pub reply_to : Option ErrorCode → Waiting → GivenReply
reply_to error w = reply_with [] error w
