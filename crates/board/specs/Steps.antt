-- The steps of a board, one by one: what each asks of a word, what it found there, and what it leaves.
use Rattle.std.specs.Prelude.{◌≡◌, ℕ, ◌+◌, ◌≤◌, ◌⊎◌, List, [], ◌∷◌, ◌++◌, max, slice_index, slice_set}
use mathlib.Core.Option.{some}
use lib.ListN.{get_elem?}
use Rattle.board.specs.declared.view.Step.{Step}
use Rattle.board.specs.declared.view.Step.TheVariants.{Raise, Post, Look, Crew, Gauge, CountIn, CountOut}
use Rattle.board.specs.declared.view.View.{View}
use Rattle.board.specs.Mask.{with_slot, without_slot}

-- the word of a slot's gauge
abbrev pub gauge_word : ℕ → ℕ
gauge_word slot = slot + 2

-- the view, with one step more
abbrev pub then : View → Step → View
then view step = record view { steps = view.steps ++ step ∷ [] }

-- the step raises this word to at least n
abbrev pub Asks : ℕ → Step → ℕ → Type 0
Asks word (Raise to front) n = (word ≡ 0) × (n ≡ to)
Asks word (Post slot to gauge) n = (word ≡ gauge_word slot) × (n ≡ to)
Asks word (Look front) n = ⊥
Asks word (Crew mask) n = ⊥
Asks word (Gauge slot gauge) n = ⊥
Asks word (CountIn slot) n = ⊥
Asks word (CountOut slot) n = ⊥

-- the step found n in this word, or left it there
abbrev pub Finds : ℕ → Step → ℕ → Type 0
Finds word (Raise to front) n = (word ≡ 0) × (n ≡ front)
Finds word (Post slot to gauge) n = (word ≡ gauge_word slot) × (n ≡ gauge)
Finds word (Look front) n = (word ≡ 0) × (n ≡ front)
Finds word (Crew mask) n = (word ≡ 1) × (n ≡ mask)
Finds word (Gauge slot gauge) n = (word ≡ gauge_word slot) × (n ≡ gauge)
Finds word (CountIn slot) n = ⊥
Finds word (CountOut slot) n = ⊥

-- the step counts a slot in or out
abbrev pub Counts : Step → Type 0
Counts (Raise to front) = ⊥
Counts (Post slot to gauge) = ⊥
Counts (Look front) = ⊥
Counts (Crew mask) = ⊥
Counts (Gauge slot gauge) = ⊥
Counts (CountIn slot) = Unit {0}
Counts (CountOut slot) = Unit {0}

-- the step is one of these
pub record Has (steps : List Step) (step : Step) : Type 0 where
  pub place : ℕ
  pub is : get_elem? steps place ≡ some step

-- every number that these steps found in the word, or raised it to, is at most n
abbrev pub NeverBack : ℕ → List Step → ℕ → Type 0
NeverBack word steps n = (step : Step) (m : ℕ) → Has steps step → Asks word step m ⊎ Finds word step m → m ≤ n

-- the numbers that these steps found in the word never sink
abbrev pub Ascends : ℕ → List Step → Type 0
Ascends word [] = Unit {0}
Ascends word (step ∷ steps) = ((later : Step) (m n : ℕ) → Has steps later → Finds word step m → Finds word later n → m ≤ n) × Ascends word steps

-- the mask after a step
abbrev pub mask_then : ℕ → Step → ℕ
mask_then mask (Raise to front) = mask
mask_then mask (Post slot to gauge) = mask
mask_then mask (Look front) = mask
mask_then mask (Crew found) = mask
mask_then mask (Gauge slot gauge) = mask
mask_then mask (CountIn slot) = with_slot mask slot
mask_then mask (CountOut slot) = without_slot mask slot

-- the mask after these steps, in order
abbrev pub mask_after : ℕ → List Step → ℕ
mask_after mask [] = mask
mask_after mask (step ∷ steps) = mask_after (mask_then mask step) steps

-- the ten words after a step
abbrev pub words_then : List ℕ → Step → List ℕ
words_then words (Raise to front) = slice_set words 0 (max (slice_index words 0) to)
words_then words (Post slot to gauge) = slice_set words (gauge_word slot) (max (slice_index words (gauge_word slot)) to)
words_then words (Look front) = words
words_then words (Crew mask) = words
words_then words (Gauge slot gauge) = words
words_then words (CountIn slot) = slice_set words 1 (with_slot (slice_index words 1) slot)
words_then words (CountOut slot) = slice_set words 1 (without_slot (slice_index words 1) slot)

-- the ten words after these steps, in order
abbrev pub words_after : List ℕ → List Step → List ℕ
words_after words [] = words
words_after words (step ∷ steps) = words_after (words_then words step) steps
