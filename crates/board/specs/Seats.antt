-- What contracts see of a board, of its seats, and of what is found on it.
use Rattle.std.specs.Prelude.{◌≡◌, ℕ, ◌≤◌, Bool, List, [], ◌∷◌, ◌++◌, slice_index}
use Rattle.atomic_table.specs.Seated.{TableId}
use Rattle.gate_journal.specs.Receipt.{Receipt}
use Rattle.board.specs.declared.view.Opening.{Opening}
use Rattle.board.specs.declared.view.Step.{Step}
use Rattle.board.specs.declared.view.Step.TheVariants.{Post}
use Rattle.board.specs.Rule.{Ruled}
use Rattle.board.specs.Steps.{NeverBack, gauge_word, words_after}

-- which board it is, and what it opened with
pub record BoardId : Type 0 where
  pub table : TableId
  pub opening : Opening

-- a seat of a board: its number, whether it is the counting seat, and its own steps in order
pub record SeatView : Type 0 where
  pub board : BoardId
  pub number : ℕ
  pub counts : Bool
  pub steps : List Step

-- a front that this seat found
pub record FoundFront : Type 0 where
  pub board : BoardId
  pub seat : ℕ
  pub number : ℕ

-- a mask that this seat found, after this front
pub record FoundCrew : Type 0 where
  pub board : BoardId
  pub seat : ℕ
  pub front : ℕ
  pub mask : ℕ

-- the gauge of a slot that this seat found
pub record FoundGauge : Type 0 where
  pub board : BoardId
  pub seat : ℕ
  pub slot : ℕ
  pub front : ℕ

-- what a crew holds
pub record FoundFloor : Type 0 where
  pub board : BoardId
  pub front : ℕ

-- the seat, with one step more
abbrev pub stepped : SeatView → Step → SeatView
stepped seat step = record seat { steps = seat.steps ++ step ∷ [] }

-- a seat of this board that has made no step
abbrev pub IsNewSeat : BoardId → SeatView → Type 0
IsNewSeat board seat = (seat.board ≡ board) × (seat.steps ≡ [])

-- the board's rule holds, with this seat among the others
abbrev pub IsRuled : SeatView → Type 0
IsRuled seat = Ruled record { opening = seat.board.opening; counts = seat.counts; steps = seat.steps }

-- on a board with one seat, this is what the word holds: what the board opened with, after that seat's steps
abbrev pub IsAlone : SeatView → ℕ → ℕ → Type 0
IsAlone seat word found = seat.board.opening.seats ≡ 1 → found ≡ slice_index (words_after seat.board.opening.words seat.steps) word

-- the seat has posted the receipt, and left this gauge
pub record Posted (receipt : Receipt) (before after : SeatView) : Type 0 where
  pub gauge : ℕ
  pub step : after ≡ stepped before (Post receipt.slot receipt.front gauge)
  pub raised : receipt.front ≤ gauge
  pub never_back : NeverBack (gauge_word receipt.slot) before.steps gauge
  pub alone : IsAlone after (gauge_word receipt.slot) gauge
