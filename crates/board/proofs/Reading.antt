-- The gauges of a crew, read one after another.
use Rattle.std.proofs.Common.{◌≡◌, ℕ, ◌+◌, ◌≤◌, List, [], ◌∷◌, ◌++◌, true, false, All, map, length, slice_index, sym, refl, ap, ◌∙◌, subst, arith, length-append}
use Rattle.std.proofs.lemmas.List.{append_assoc, append-nil, map-append}
use Rattle.std.proofs.lemmas.List.Elements.{All-push}
use Rattle.board.specs.declared.view.Step.{Step}
use Rattle.board.specs.declared.view.Step.TheVariants.{Gauge}
use Rattle.board.specs.Floor.{AreAlone, after_readings, readings}
use Rattle.board.specs.Mask.{counts, slots_below}
use Rattle.board.specs.Seats.{FoundCrew, FoundGauge, IsAlone, SeatView, stepped}
use Rattle.board.specs.Steps.{gauge_word, words_then, words_after}
use Rattle.board.proofs.MaskLemmas.{slots_below-zero, slots_below-counted, slots_below-not_counted}

-- the gauges of the slots below n that the crew counts are read
pub record ReadSoFar (crew : FoundCrew) (before now : SeatView) (n : ℕ) (gauges : List FoundGauge) : Type 0 where
  pub slots : map (λ g. g.slot) gauges ≡ slots_below crew.mask n
  pub room : length gauges ≤ n
  pub of_seat : All (λ g. (g.board ≡ crew.board) × (g.seat ≡ crew.seat)) gauges
  pub steps : now ≡ after_readings before gauges
  pub alone : AreAlone before gauges

words_after-append : (words : List ℕ) (xs ys : List Step) → words_after words (xs ++ ys) ≡ words_after (words_after words xs) ys
words_after-append words [] ys = refl
words_after-append words (x ∷ xs) ys = words_after-append (words_then words x) xs ys

-- to read a gauge changes no word
words_after-readings : (words : List ℕ) (gauges : List FoundGauge) → words_after words (readings gauges) ≡ words
words_after-readings words [] = refl
words_after-readings words (gauge ∷ gauges) = words_after-readings words gauges

pub reads_none : (crew : FoundCrew) (seat : SeatView) → ReadSoFar crew seat seat 0 []
reads_none crew seat = record {
  slots = sym (slots_below-zero crew.mask);
  room = omega arith;
  of_seat = λ k d within. absurd (omega arith);
  steps = ap (λ (steps : List Step). record seat { steps = steps }) (sym (append-nil seat.steps));
  alone = λ one k d within. absurd (omega arith);
}

pub reads_same : (crew : FoundCrew) (before now : SeatView) (n : ℕ) (gauges : List FoundGauge) → counts crew.mask n ≡ false → ReadSoFar crew before now n gauges → ReadSoFar crew before now (n + 1) gauges
reads_same crew before now n gauges not_counted r = let room = r.room in record {
  slots = r.slots ∙ sym (slots_below-not_counted crew.mask n not_counted);
  room = omega arith;
  of_seat = r.of_seat;
  steps = r.steps;
  alone = r.alone;
}

pub reads_more : (crew : FoundCrew) (before now after : SeatView) (n : ℕ) (gauges : List FoundGauge) (gauge : FoundGauge) → counts crew.mask n ≡ true → gauge.slot ≡ n
    → gauge.board ≡ crew.board → gauge.seat ≡ crew.seat → after ≡ stepped now (Gauge n gauge.front) → IsAlone after (gauge_word n) gauge.front
    → ReadSoFar crew before now n gauges → ReadSoFar crew before after (n + 1) (gauges ++ gauge ∷ [])
reads_more crew before now after n gauges gauge counted slot board seat step alone r =
    let room = r.room in
    let words = before.board.opening.words in
    let longer : readings (gauges ++ gauge ∷ []) ≡ readings gauges ++ Gauge n gauge.front ∷ [] =
    map-append (λ (g : FoundGauge). Gauge g.slot g.front) gauges (gauge ∷ []) ∙ ap (λ (s : ℕ). readings gauges ++ Gauge s gauge.front ∷ []) slot in
    let now_is : after ≡ stepped (after_readings before gauges) (Gauge n gauge.front) = step ∙ ap (λ (s : SeatView). stepped s (Gauge n gauge.front)) r.steps in
    let same : words_after words ((before.steps ++ readings gauges) ++ Gauge n gauge.front ∷ []) ≡ words_after words before.steps =
    words_after-append words (before.steps ++ readings gauges) (Gauge n gauge.front ∷ []) ∙ words_after-append words before.steps (readings gauges) ∙ words_after-readings (words_after words before.steps) gauges in
    record {
      slots = map-append (λ (g : FoundGauge). g.slot) gauges (gauge ∷ []) ∙ ap (λ (slots : List ℕ). slots ++ gauge.slot ∷ []) r.slots ∙ ap (λ (s : ℕ). slots_below crew.mask n ++ s ∷ []) slot
          ∙ sym (slots_below-counted crew.mask n counted);
      room = omega (arith, length-append gauges (gauge ∷ []));
      of_seat = All-push (λ (g : FoundGauge). (g.board ≡ crew.board) × (g.seat ≡ crew.seat)) gauges gauge r.of_seat (board, seat);
      steps = now_is ∙ ap (λ (steps : List Step). record before { steps = steps }) (append_assoc before.steps (readings gauges) (Gauge n gauge.front ∷ []) ∙ ap (λ (rest : List Step). before.steps ++ rest) (sym longer));
      alone = λ one. All-push (λ (g : FoundGauge). g.front ≡ slice_index (words_after words before.steps) (gauge_word g.slot)) gauges gauge (r.alone one)
          ((subst (λ (s : SeatView). IsAlone s (gauge_word n) gauge.front) now_is alone) one ∙ ap (λ (ws : List ℕ). slice_index ws (gauge_word n)) same
          ∙ ap (λ (s : ℕ). slice_index (words_after words before.steps) (gauge_word s)) (sym slot));
    }

pub ruleset reading = (reads_none, reads_same, reads_more)
