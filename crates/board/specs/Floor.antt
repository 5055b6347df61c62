-- The floor of a crew.
use Rattle.std.specs.Prelude.{◌≡◌, ℕ, List, [], ◌∷◌, ◌++◌, min, map, All, slice_index}
use Rattle.board.specs.declared.view.Step.{Step}
use Rattle.board.specs.declared.view.Step.TheVariants.{Gauge}
use Rattle.board.specs.Mask.{slots_of}
use Rattle.board.specs.Seats.{FoundCrew, FoundFloor, FoundGauge, SeatView}
use Rattle.board.specs.Steps.{gauge_word, words_after}

-- the least of a front and of the gauges' fronts
abbrev pub least_of : ℕ → List FoundGauge → ℕ
least_of front [] = front
least_of front (gauge ∷ gauges) = min gauge.front (least_of front gauges)

-- the steps that found these gauges
abbrev pub readings : List FoundGauge → List Step
readings gauges = map (λ gauge. Gauge gauge.slot gauge.front) gauges

-- the seat with the steps that found these gauges behind its own
abbrev pub after_readings : SeatView → List FoundGauge → SeatView
after_readings seat gauges = record seat { steps = seat.steps ++ readings gauges }

-- on a board with one seat, the gauges are those that the board has after the seat's steps
abbrev pub AreAlone : SeatView → List FoundGauge → Type 0
AreAlone seat gauges = seat.board.opening.seats ≡ 1
    → All (λ gauge. gauge.front ≡ slice_index (words_after seat.board.opening.words seat.steps) (gauge_word gauge.slot)) gauges

-- the seat has found a gauge of each slot of the crew, ascending, and the floor is the least of them and the crew's front
pub record IsRead (crew : FoundCrew) (before after : SeatView) (floor : FoundFloor) : Type 0 where
  pub gauges : List FoundGauge
  pub slots : map (λ g. g.slot) gauges ≡ slots_of crew.mask
  pub steps : after ≡ after_readings before gauges
  pub alone : AreAlone before gauges
  pub least : floor.front ≡ least_of crew.front gauges
