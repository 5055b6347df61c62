-- What a board keeps between any two steps of its seats.
use Rattle.std.specs.Prelude.{◌≡◌, ◌≢◌, ℕ, ◌<◌, ◌≤◌, ◌⊎◌, List, [], ◌∷◌, ◌++◌, true, length, slice_index}
use mathlib.Core.Option.{some}
use lib.ListN.{get_elem?}
use Rattle.atomic_table.specs.Table.{State}
use Rattle.board.specs.declared.evidence.TheConstants.Front.{GREATEST}
use Rattle.board.specs.declared.view.Opening.{Opening}
use Rattle.board.specs.declared.view.Step.{Step}
use Rattle.board.specs.declared.view.View.{View}
use Rattle.board.specs.Steps.{Asks, Finds, Counts, Has, Ascends, mask_after, words_after}

-- some seat has made the step
pub record Stepped (views : List View) (step : Step) : Type 0 where
  pub seat : ℕ
  pub view : View
  pub seated : get_elem? views seat ≡ some view
  pub made : Has view.steps step

-- n is what the word opened with, or what some seat raised it to
abbrev pub IsReal : ℕ → ℕ → List View → ℕ → Type 0
IsReal word base views n = (n ≡ base) ⊎ ((step : Step) × Stepped views step × Asks word step n)

-- a word that only rises opened with base, and is now this number
pub record Rises (word base now : ℕ) (views : List View) : Type 0 where
  -- it is the greatest of what it opened with and of all that it was raised to
  pub opening : base ≤ now
  pub raised : (step : Step) (n : ℕ) → Stepped views step → Asks word step n → n ≤ now
  pub one_of_them : IsReal word base views now
  -- what was found in it is real, never sinks in one view, and isn't above it
  pub real : (step : Step) (n : ℕ) → Stepped views step → Finds word step n → IsReal word base views n
  pub within : (step : Step) (n : ℕ) → Stepped views step → Finds word step n → n ≤ now
  pub ascends : (seat : ℕ) (view : View) → get_elem? views seat ≡ some view → Ascends word view.steps

-- the steps of the counting seat, the first one
abbrev pub counting : List View → List Step
counting [] = []
counting (view ∷ views) = view.steps

-- the steps begin with the first ones
abbrev pub StartsWith : List Step → List Step → Type 0
StartsWith steps first = (rest : List Step) × (steps ≡ first ++ rest)

-- the mask opened with base, and is now this number
pub record Masks (base now : ℕ) (views : List View) : Type 0 where
  pub counted : now ≡ mask_after base (counting views)
  -- what was found is the mask after the first steps of the counting seat
  pub real : (step : Step) (n : ℕ) → Stepped views step → Finds 1 step n
      → (first : List Step) × StartsWith (counting views) first × (n ≡ mask_after base first)
  -- no other seat counts
  pub one_counts : (seat : ℕ) (view : View) (step : Step) → get_elem? views seat ≡ some view → Has view.steps step → Counts step → seat ≡ 0
  pub byte : now < 256

-- the words and all views of a board that opened so
pub record BoardRule (opening : Opening) (words : List ℕ) (views : List View) : Type 0 where
  pub ten : length words ≡ 10
  pub rises : (word : ℕ) → word ≢ 1 → Rises word (slice_index opening.words word) (slice_index words word) views
  pub mask : Masks (slice_index opening.words 1) (slice_index words 1) views
  pub within : slice_index words 0 ≤ GREATEST
  pub opened : (seat : ℕ) (view : View) → get_elem? views seat ≡ some view → view.opening ≡ opening
  pub first_counts : (seat : ℕ) (view : View) → get_elem? views seat ≡ some view → view.counts ≡ true → seat ≡ 0
  -- with one seat the words are what they opened with, after its steps
  pub alone : opening.seats ≡ 1 → (view : View) × (views ≡ view ∷ []) × (words ≡ words_after opening.words view.steps)

-- this view is one of those of a board that keeps its rule
pub record Ruled (view : View) : Type 0 where
  pub words : List ℕ
  pub views : List View
  pub seat : ℕ
  pub seated : get_elem? views seat ≡ some view
  pub rule : BoardRule view.opening words views

-- the rule, of a table without slots
abbrev pub Keeps : Opening → State (Unit {0}) View → Type 0
Keeps opening state = BoardRule opening state.words state.views
