-- What each step of its seat makes of the words of a board with one seat.
use Rattle.std.proofs.Common.{◌≡◌, ◌≢◌, ℕ, zero, suc, ◌==◌, ◌+◌, ◌*◌, ◌^◌, ◌%◌, ◌<◌, max, true, false, List, [], ◌∷◌, ◌++◌, length, drop, refl, sym, ◌∙◌, ap, subst, inl, inr, arith, rules}
use mathlib.Core.Option.{some, some-injective, some-ne-none}
use mir.Syntax.{w8}
use mir.Val.{bits}
use lib.ListN.{get_elem?}
use Rattle.std.specs.Int.{bit_at, bit_not}
use Rattle.std.specs.Prelude.{bit_and, slice_index, slice_set}
use Rattle.std.proofs.lemmas.Bool.{cases_lt}
use Rattle.std.proofs.lemmas.Nat.Bits.{bit_at-lt, bit_at-pow_same, bit_at_above, bit_at_clear_other, bit_at_or}
use Rattle.board.specs.Mask.{counts, with_slot, without_slot}
use Rattle.board.specs.Seats.{BoardId, IsAlone, IsRuled, SeatView, stepped}
use Rattle.board.specs.Steps.{gauge_word, words_after, words_then}
use Rattle.board.specs.declared.view.Step.{Step}
use Rattle.board.specs.declared.view.View.{View}
use Rattle.gate_journal.specs.Receipt.{Receipt}
use Rattle.chain.specs.LoneBoard.{Lone, posted, words_of}

-- one step more
pub words_after-snoc : (words : List ℕ) (steps : List Step) (last : Step) → words_after words (steps ++ last ∷ []) ≡ words_then (words_after words steps) last
words_after-snoc words [] last = refl
words_after-snoc words (first ∷ steps) last = words_after-snoc (words_then words first) steps last

-- the front is set
pub words_of-front : (words : List ℕ) (n : ℕ) → length words ≡ 10 → words_of (slice_set words 0 n) ≡ record (words_of words) { front = n }
words_of-front [] n ten = absurd (omega arith)
words_of-front (front ∷ rest) n ten = refl

-- the word of a slot's gauge
pub gauge_at : (words : List ℕ) (slot : ℕ) → length words ≡ 10 → slice_index words (gauge_word slot) ≡ slice_index (drop 2 words) slot
gauge_at [] slot ten = absurd (omega arith)
gauge_at (front ∷ []) slot ten = absurd (omega arith)
gauge_at (front ∷ mask ∷ gauges) slot ten = let at : slot + 2 ≡ suc (suc slot) = omega arith in ap (slice_index (front ∷ mask ∷ gauges)) at

-- the mask is set
pub words_of-mask : (words : List ℕ) (n : ℕ) → length words ≡ 10 → words_of (slice_set words 1 n) ≡ record (words_of words) { mask = n }
words_of-mask [] n ten = absurd (omega arith)
words_of-mask (front ∷ []) n ten = absurd (omega arith)
words_of-mask (front ∷ mask ∷ gauges) n ten = refl

-- a gauge is set
pub words_of-gauge : (words : List ℕ) (slot n : ℕ) → length words ≡ 10 → words_of (slice_set words (gauge_word slot) n) ≡ record (words_of words) { gauges = slice_set (drop 2 words) slot n }
words_of-gauge [] slot n ten = absurd (omega arith)
words_of-gauge (front ∷ []) slot n ten = absurd (omega arith)
words_of-gauge (front ∷ mask ∷ gauges) slot n ten =
    let at : slot + 2 ≡ suc (suc slot) = omega arith in
    ap (λ (i : ℕ). words_of (slice_set (front ∷ mask ∷ gauges) i n)) at

-- a receipt is posted
pub words_of-posted : (words : List ℕ) (r : Receipt) → length words ≡ 10
    → words_of (slice_set words (gauge_word r.slot) (max (slice_index words (gauge_word r.slot)) r.front)) ≡ posted (words_of words) r
words_of-posted words r ten =
    words_of-gauge words r.slot (max (slice_index words (gauge_word r.slot)) r.front) ten
    ∙ ap (λ (n : ℕ). record (words_of words) { gauges = slice_set (drop 2 words) r.slot (max n r.front) }) (gauge_at words r.slot ten)

-- the mask that a lone seat's board has is a byte
only_at : (view only : View) (k : ℕ) → get_elem? (only ∷ []) k ≡ some view → only ≡ view
only_at view only zero e = some-injective only view e
only_at view only (suc k) e = absurd (some-ne-none view (sym e))

pub is_byte : (seat : SeatView) → IsRuled seat → seat.board.opening.seats ≡ 1 → slice_index (words_after seat.board.opening.words seat.steps) 1 < 256
is_byte seat ruled one =
    let view : View = record { opening = seat.board.opening; counts = seat.counts; steps = seat.steps } in
    let (its, views, words) = ruled.rule.alone one in
    let same : its ≡ view = only_at view its ruled.seat (subst (λ (vs : List View). get_elem? vs ruled.seat ≡ some view) views ruled.seated) in
    let are : ruled.words ≡ words_after seat.board.opening.words seat.steps = words ∙ ap (λ (w : View). words_after seat.board.opening.words w.steps) same in
    subst (λ (ws : List ℕ). slice_index ws 1 < 256) are ruled.rule.mask.byte

-- Of a byte's slots all but one are counted as before, once that one isn't.
clears : (mask slot : ℕ) → slot < 8 → without_slot mask slot ≡ bit_and mask (bit_not w8 (1 * 2 ^ slot % 2 ^ bits w8))
unfolding without_slot
clears mask zero within = refl
clears mask (suc zero) within = refl
clears mask (suc (suc zero)) within = refl
clears mask (suc (suc (suc zero))) within = refl
clears mask (suc (suc (suc (suc zero)))) within = refl
clears mask (suc (suc (suc (suc (suc zero))))) within = refl
clears mask (suc (suc (suc (suc (suc (suc zero)))))) within = refl
clears mask (suc (suc (suc (suc (suc (suc (suc zero))))))) within = refl
clears mask (suc (suc (suc (suc (suc (suc (suc (suc more)))))))) within = absurd (omega (arith, within))

pub counts_others : (mask slot other : ℕ) → mask < 256 → slot < 8 → other ≢ slot → counts mask other ≡ true → counts (without_slot mask slot) other ≡ true
unfolding counts
counts_others mask slot other byte within apart counted = elim (cases_lt other 8) [
  | inl low ↦
      let same : bit_at (without_slot mask slot) other ≡ bit_at mask other = ap (λ (m : ℕ). bit_at m other) (clears mask slot within) ∙ bit_at_clear_other w8 mask slot within other low apart in
      rw same counted
  | inr high ↦ let none : bit_at mask other ≡ 0 = bit_at_above mask 8 other byte high in absurd (no_bit (bit_at mask other) none counted)
]
  where
    no_bit : (bit : ℕ) → bit ≡ 0 → (bit == 1) ≡ true → ⊥
    no_bit zero is counted = let both : false ≡ true = counted in absurd cc
    no_bit (suc k) is counted = let no : suc k ≡ 0 = is in absurd (omega (arith, no))

-- Once a slot is counted it is, and so are the others that were.
pub counts_it : (mask slot : ℕ) → counts (with_slot mask slot) slot ≡ true
unfolding counts with_slot
counts_it mask slot =
    let or = bit_at_or mask (2 ^ slot) slot in
    let low = bit_at-lt mask slot in
    let one : bit_at (with_slot mask slot) slot ≡ 1 = or ∙ omega (arith, bit_at-pow_same slot, low) in
    rw one refl

pub counts_still : (mask slot other : ℕ) → counts mask other ≡ true → counts (with_slot mask slot) other ≡ true
unfolding counts with_slot
counts_still mask slot other is =
    let bit : bit_at mask other ≡ 1 = search (rules, is) in
    let or = bit_at_or mask (2 ^ slot) other in
    let low = bit_at-lt (2 ^ slot) other in
    let one : bit_at (with_slot mask slot) other ≡ 1 = or ∙ omega (arith, bit, low) in
    rw one refl

-- the board once its seat has made one step more, and what that step found
module _ (board : BoardId) (seat after : SeatView) (step : Step) (own : seat.board ≡ board) (is : after ≡ stepped seat step) where
  abbrev before : List ℕ
  before = words_after board.opening.words seat.steps

  abbrev with_words : List ℕ → Lone
  with_words words = record { id = board; seat = seat.number; words = words_of words }

  pub lone_then : record { id = board; seat = after.number; words = words_of (words_after board.opening.words after.steps) } ≡ with_words (words_then before step)
  lone_then =
      ap (λ (s : SeatView). let lone : Lone = record { id = board; seat = s.number; words = words_of (words_after board.opening.words s.steps) } in lone) is
      ∙ ap with_words (words_after-snoc board.opening.words seat.steps step)

  pub lone_found : (word n : ℕ) → IsAlone after word n → board.opening.seats ≡ 1 → n ≡ slice_index (words_then before step) word
  lone_found word n alone one =
      let here : IsAlone (stepped seat step) word n = subst (λ (s : SeatView). IsAlone s word n) is alone in
      here (ap (λ (b : BoardId). b.opening.seats) own ∙ one)
      ∙ ap (λ (b : BoardId). slice_index (words_after b.opening.words (seat.steps ++ step ∷ [])) word) own
      ∙ ap (λ (words : List ℕ). slice_index words word) (words_after-snoc board.opening.words seat.steps step)
