-- What the rule of a board says of a floor.
use Rattle.std.specs.Prelude.{◌≡◌, ℕ, ◌<◌, ◌≤◌, List, All, map, slice_index, IsTrue}
use mathlib.Core.Option.{some}
use lib.ListN.{get_elem?}
use Rattle.board.specs.declared.view.Opening.{Opening}
use Rattle.board.specs.declared.view.Step.{Step}
use Rattle.board.specs.declared.view.Step.TheVariants.{Crew, Gauge}
use Rattle.board.specs.declared.view.View.{View}
use Rattle.board.specs.Floor.{least_of}
use Rattle.board.specs.Mask.{counts, slots_of}
use Rattle.board.specs.Rule.{BoardRule, IsReal, StartsWith, counting}
use Rattle.board.specs.Seats.{FoundGauge}
use Rattle.board.specs.Steps.{Finds, Has, gauge_word, mask_after}

-- the seat with this view found the front, the mask, and a gauge of each slot that the mask counts
pub record IsCovered (view : View) (front mask : ℕ) (gauges : List FoundGauge) : Type 0 where
  pub front_step : Step
  pub front_made : Has view.steps front_step
  pub front_found : Finds 0 front_step front
  pub mask_found : Has view.steps (Crew mask)
  pub gauges_found : All (λ g. Has view.steps (Gauge g.slot g.front)) gauges
  pub slots : map (λ g. g.slot) gauges ≡ slots_of mask

-- the front is what the board opened with or what some seat raised it to, the mask stood there after some step of the counting
-- seat, and of each slot that the mask counts a receipt of at least the floor was posted, or the board opened so
pub record IsBacked (opening : Opening) (views : List View) (front mask : ℕ) (gauges : List FoundGauge) : Type 0 where
  pub below : least_of front gauges ≤ front
  pub front_real : IsReal 0 (slice_index opening.words 0) views front
  pub mask_real : (first : List Step) × StartsWith (counting views) first × (mask ≡ mask_after (slice_index opening.words 1) first)
  pub receipts : (slot : ℕ) → slot < 8 → IsTrue (counts mask slot)
      → (n : ℕ) × (least_of front gauges ≤ n) × IsReal (gauge_word slot) (slice_index opening.words (gauge_word slot)) views n

-- in whatever order the threads step: where the rule holds, each floor is backed
abbrev pub FloorsAreBacked : Type 0
FloorsAreBacked = (opening : Opening) (words : List ℕ) (views : List View) → BoardRule opening words views
    → (seat : ℕ) (view : View) → get_elem? views seat ≡ some view
    → (front mask : ℕ) (gauges : List FoundGauge) → IsCovered view front mask gauges → IsBacked opening views front mask gauges
