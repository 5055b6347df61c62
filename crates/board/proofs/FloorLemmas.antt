-- Lemmas about the least of a front and gauges.
use Rattle.std.proofs.Common.{◌≡◌, ℕ, ◌≤◌, ◌<◌, List, [], ◌∷◌, ◌++◌, All, map, min, get_or, length, zero, suc, true, refl, sym, ap, ◌∙◌, arith}
use lib.ListN.{get_elem?}
use mathlib.Core.Option.{some}
use Rattle.atomic_table.specs.Seated.{TableId}
use Rattle.board.specs.Seats.{FoundGauge, BoardId}
use Rattle.board.specs.declared.view.Step.{Step}
use Rattle.board.specs.declared.view.Step.TheVariants.{Crew, Gauge}
use Rattle.board.specs.declared.view.View.{View}
use Rattle.board.specs.Laws.{FloorsAreBacked}
use Rattle.board.specs.Rule.{Stepped}
use Rattle.board.specs.Steps.{Has, gauge_word}
use Rattle.board.specs.Floor.{least_of}
use Rattle.board.specs.Mask.{counts, slots_of}
use Rattle.board.proofs.MaskLemmas.{slots_below-contains}
use Rattle.std.proofs.lemmas.List.{length-map, get_or-map, get_or_default}
use Rattle.std.specs.List.{Any, Contains}

-- one gauge more at the end
pub least_of-push : (front : ℕ) (gauges : List FoundGauge) (gauge : FoundGauge) → least_of front (gauges ++ gauge ∷ []) ≡ min (least_of front gauges) gauge.front
least_of-push front [] gauge = omega arith
least_of-push front (g ∷ gs) gauge = omega (arith, least_of-push front gs gauge)

-- it is not above the front
pub least_of_below_front : (front : ℕ) (gauges : List FoundGauge) → least_of front gauges ≤ front
least_of_below_front front [] = omega arith
least_of_below_front front (g ∷ gs) = omega (arith, least_of_below_front front gs)

-- it is above no gauge
pub least_of_below_gauges : (front : ℕ) (gauges : List FoundGauge) → All (λ g. least_of front gauges ≤ g.front) gauges
least_of_below_gauges front [] k d within = absurd (omega arith)
least_of_below_gauges front (g ∷ gs) zero d within = omega arith
least_of_below_gauges front (g ∷ gs) (suc k) d within = omega (arith, least_of_below_gauges front gs k d (omega arith))

-- nothing greater is above neither
pub least_of_greatest : (front : ℕ) (gauges : List FoundGauge) (n : ℕ) → n ≤ front → All (λ g. n ≤ g.front) gauges → n ≤ least_of front gauges
least_of_greatest front [] n low all = low
least_of_greatest front (g ∷ gs) n low all =
    let here : n ≤ g.front = all 0 g (omega arith) in
    let rest : n ≤ least_of front gs = least_of_greatest front gs n low (λ k d within. all (suc k) d (omega arith)) in
    omega arith

-- with a gauge of each slot, each slot that the mask counts has a gauge that the least isn't above
pub least_of_covers : (board : BoardId) (front mask : ℕ) (gauges : List FoundGauge) → map (λ (g : FoundGauge). g.slot) gauges ≡ slots_of mask → (s : ℕ) → s < 8 → counts mask s ≡ true
    → Any (λ (g : FoundGauge). (g.slot ≡ s) × (least_of front gauges ≤ g.front)) gauges
least_of_covers board front mask gauges each s within counted =
    let there : Contains (map (λ (g : FoundGauge). g.slot) gauges) s = rw each (slots_below-contains mask 8 s within counted) in
    let k = there.0 in
    let d : FoundGauge = record { board = board; seat = 0; slot = 0; front = 0 } in
    let inside : k < length gauges = omega (arith, there.1, length-map gauges (λ (g : FoundGauge). g.slot)) in
    let of_s : (get_or gauges k d).slot ≡ s = sym (get_or-map (λ (g : FoundGauge). g.slot) gauges k d s inside) ∙ there.2 in
    let itself : get_or gauges k (get_or gauges k d) ≡ get_or gauges k d = get_or_default gauges k _ d inside in
    (k, get_or gauges k d, inside, itself, (of_s, least_of_below_gauges front gauges k d inside))

stepped : (views : List View) (seat : ℕ) (view : View) (step : Step) → get_elem? views seat ≡ some view → Has view.steps step → Stepped views step
stepped views seat view step seated has = record { seat = seat; view = view; seated = seated; made = has }

no_table : TableId
no_table = record { words = 0; slots = 0; views_name = 0; atom = 0; block = 0; offset = 0; slot_names = [] }

-- where the rule holds, each floor is backed
pub floor_is_backed : FloorsAreBacked
floor_is_backed opening words views r seat view seated front mask gauges found =
    let made = λ (step : Step) (has : Has view.steps step). stepped views seat view step seated has in record {
      below = least_of_below_front front gauges;
      front_real = (r.rises 0 (λ e. omega arith)).real found.front_step front (made found.front_step found.front_made) found.front_found;
      mask_real = r.mask.real (Crew mask) mask (made (Crew mask) found.mask_found) (refl, refl);
      receipts = λ slot within counted.
          let there = least_of_covers (record { table = no_table; opening = opening }) front mask gauges found.slots slot within counted in
          let gauge = there.1 in
          let has : Has view.steps (Gauge gauge.slot gauge.front) = rw (sym there.3) (found.gauges_found there.0 gauge there.2) in (
            gauge.front,
            there.4.1,
            (r.rises (gauge_word slot) (λ e. omega arith)).real (Gauge gauge.slot gauge.front) gauge.front (made (Gauge gauge.slot gauge.front) has) (ap gauge_word (sym there.4.0), refl),
          );
    }
