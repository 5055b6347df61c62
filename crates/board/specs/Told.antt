-- What a step on the board's words tells the seat that makes it.
use Rattle.std.specs.Prelude.{◌≡◌, ℕ, ◌-◌, ◌^◌, ◌<◌, ◌≤◌, [], Bool, true, false, max, slice_index}
use Rattle.atomic_table.specs.Table.{Me, Step as Exchange}
use Rattle.board.specs.declared.evidence.TheConstants.Front.{GREATEST}
use Rattle.board.specs.declared.view.Opening.{Opening}
use Rattle.board.specs.declared.view.Step.{Step}
use Rattle.board.specs.declared.view.Step.TheVariants.{Raise, Post, Look, Crew, Gauge, CountIn, CountOut}
use Rattle.board.specs.declared.view.View.{View}
use Rattle.board.specs.Steps.{NeverBack, gauge_word, then, mask_after, words_after}
use Rattle.board.specs.Rule.{Ruled}

-- a seat of the board that has made no step
abbrev pub fresh : Opening → Bool → View
fresh opening counts = record { opening = opening; counts = counts; steps = [] }

-- the counting seat, when the board is made
abbrev pub first : Opening → View
first opening = fresh opening true

-- one step of a seat left this number in the word: its view has that step more, and keeps the rule. On a board with one
-- seat the number is what the board opened with, after that view's steps
pub record StepTold (word left : ℕ) (step : Step) (before after : View) : Type 0 where
  pub entry : after ≡ then before step
  pub ruled : Ruled after
  pub alone : after.opening.seats ≡ 1 → left ≡ slice_index (words_after after.opening.words after.steps) word

abbrev pub Seated : Type 0
Seated = Me (Unit {0}) View

abbrev pub sits : Exchange (Unit {0}) → Seated → ℕ → Seated → Type 0
sits exchange before found after = after.0 ≡ fresh before.0.opening false

-- what a step on the front tells: what was found, and what was left
abbrev pub FrontTold : ℕ → ℕ → Step → Seated → Seated → Type 0
FrontTold found left step before after = StepTold 0 left step before.0 after.0 × NeverBack 0 before.0.steps found × (found ≤ GREATEST) × (after.1 ≡ before.1)

abbrev pub looks : Exchange (Unit {0}) → Seated → ℕ → Seated → Type 0
looks exchange before found after = FrontTold found found (Look found) before after

abbrev pub raises : Exchange (Unit {0}) → Seated → ℕ → Seated → Type 0
raises exchange before found after = let left = max found exchange.first in FrontTold found left (Raise exchange.first left) before after

-- what a step on a slot's gauge tells
abbrev pub GaugeTold : ℕ → ℕ → ℕ → Step → Seated → Seated → Type 0
GaugeTold slot found left step before after = StepTold (gauge_word slot) left step before.0 after.0 × NeverBack (gauge_word slot) before.0.steps found × (after.1 ≡ before.1)

abbrev pub gauges : Exchange (Unit {0}) → Seated → ℕ → Seated → Type 0
gauges exchange before found after = (slot : ℕ) → exchange.word ≡ gauge_word slot → GaugeTold slot found found (Gauge slot found) before after

abbrev pub posts : Exchange (Unit {0}) → Seated → ℕ → Seated → Type 0
posts exchange before found after = (slot : ℕ) → exchange.word ≡ gauge_word slot
    → let left = max found exchange.first in GaugeTold slot found left (Post slot exchange.first left) before after

-- what a step on the mask tells. Its mask is known to the counting seat
abbrev pub crews : Exchange (Unit {0}) → Seated → ℕ → Seated → Type 0
crews exchange before found after = StepTold 1 found (Crew found) before.0 after.0 × (found < 256) × (after.1 ≡ before.1)
    × (before.0.counts ≡ true → found ≡ mask_after (slice_index before.0.opening.words 1) before.0.steps)

abbrev pub MaskTold : Step → Seated → Seated → Type 0
MaskTold step before after = (after.0 ≡ then before.0 step) × Ruled after.0 × (after.1 ≡ before.1)

abbrev pub counts_in : Exchange (Unit {0}) → Seated → ℕ → Seated → Type 0
counts_in exchange before found after = (slot : ℕ) → exchange.first ≡ 2 ^ slot → MaskTold (CountIn slot) before after

abbrev pub counts_out : Exchange (Unit {0}) → Seated → ℕ → Seated → Type 0
counts_out exchange before found after = (slot : ℕ) → exchange.first ≡ 255 - 2 ^ slot → MaskTold (CountOut slot) before after
