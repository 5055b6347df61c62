-- What contracts see of the seats of sessions.
use Rattle.std.specs.Prelude.{◌≡◌, ◌+◌, ◌%◌, ◌<◌, ◌≤◌, ◌^◌, ◌⊎◌, ℕ, false, true, List, length, slice_index_or, slice_set}
use Rattle.sessions.specs.declared.seats.Seat.{Seat}
use Rattle.sessions.specs.declared.seats.TheConstants.{SEATS}

-- a seat that isn't there
abbrev pub no_seat : Seat
no_seat = record { next = 0; taken = false }

-- the seat of a session's number
abbrev pub seat_of : List Seat → ℕ → Seat
seat_of seats n = slice_index_or seats (n % SEATS) no_seat

-- as many seats as there are, and the numbers of each are its own
pub record AreSeats (seats : List Seat) : Type 0 where
  pub count : length seats ≡ SEATS
  pub own : (k : ℕ) → k < SEATS → (slice_index_or seats k no_seat).next % SEATS ≡ k

-- the number was given to a session
abbrev pub WasGiven : List Seat → ℕ → Type 0
WasGiven seats n = n < (seat_of seats n).next

-- the session of this number has its seat
abbrev pub IsSeated : List Seat → ℕ → Type 0
IsSeated seats n = ((seat_of seats n).taken ≡ true) × (n + SEATS ≡ (seat_of seats n).next)

-- the seat is free, and this is the number that its next session has
abbrev pub IsNext : List Seat → ℕ → Type 0
IsNext seats n = ((seat_of seats n).taken ≡ false) × ((seat_of seats n).next ≡ n)

-- no two sessions that have seats have the same one
abbrev pub AreApart : List Seat → Type 0
AreApart seats = (m n : ℕ) → IsSeated seats m → IsSeated seats n → m % SEATS ≡ n % SEATS → m ≡ n

-- a session has it, or it has no number left
abbrev pub IsFull : Seat → Type 0
IsFull seat = (seat.taken ≡ true) ⊎ (2 ^ 64 ≤ seat.next + SEATS)

-- the session of this number takes its seat
abbrev pub seated : ℕ → List Seat → List Seat
seated n seats = slice_set seats (n % SEATS) (record { next = n + SEATS; taken = true })

-- and leaves it
abbrev pub left : ℕ → List Seat → List Seat
left n seats = slice_set seats (n % SEATS) (record { next = n + SEATS; taken = false })
