-- Marks, and the ranges that they stand for.
use Rattle.std.proofs.Common.{◌≡◌, inl, inr, ⊎_elim, ℕ, zero, suc, ◌+◌, ◌-◌, ◌<◌, ◌≤◌, Bool, true, false, List, [], ◌∷◌, ◌++◌, length, get_or, replicate, take, drop, refl, sym, ◌∙◌, ap, subst, arith, rules, length-append, length-take, length-drop}
use Rattle.std.proofs.lemmas.List.{places, append-nil, get_or_append_left, get_or-append_right, get_or-drop, get_or-replicate, get_or_default, get_or_past, length-replicate, length-take-le}
use Rattle.std.proofs.lemmas.Bool.{cases_lt, both_ways}
use Rattle.disk_model.specs.Content.{ranges_from, unsynced_in, AreMarked, IsOutside, IsImage}
use Rattle.disk_model.specs.Halves.{AreHalves}
use Rattle.disk_model.specs.declared.content.Extent.{Extent}

-- in front of the first byte there is no range
outside_before : (at k : ℕ) (marks : List Bool) → k < at → IsOutside k (ranges_from at marks)
outside_before at k [] before = tt
outside_before at k (true ∷ marks) before = (inl before, outside_before (at + 1) k marks (omega arith))
outside_before at k (false ∷ marks) before = outside_before (at + 1) k marks (omega arith)

outside_from : (at : ℕ) (marks : List Bool) (k : ℕ) → get_or marks k false ≡ false → IsOutside (at + k) (ranges_from at marks)
outside_from at [] k off = tt
outside_from at (true ∷ marks) zero off = absurd (both_ways true off refl)
outside_from at (true ∷ marks) (suc k) off =
    let next : at + 1 + k ≡ at + suc k = omega arith in
    (inr (omega arith), subst (λ (n : ℕ). IsOutside n (ranges_from (at + 1) marks)) next (outside_from (at + 1) marks k off))
outside_from at (false ∷ marks) zero off = outside_before (at + 1) (at + zero) marks (omega arith)
outside_from at (false ∷ marks) (suc k) off =
    let next : at + 1 + k ≡ at + suc k = omega arith in
    subst (λ (n : ℕ). IsOutside n (ranges_from (at + 1) marks)) next (outside_from (at + 1) marks k off)

open_from : (at : ℕ) (marks : List Bool) (k : ℕ) → IsOutside (at + k) (ranges_from at marks) → get_or marks k false ≡ false
open_from at [] k outside = refl
open_from at (true ∷ marks) zero outside = absurd (⊎_elim (λ below. omega arith) (λ past. omega arith) outside.0)
open_from at (true ∷ marks) (suc k) outside =
    let next : at + suc k ≡ at + 1 + k = omega arith in
    open_from (at + 1) marks k (subst (λ (n : ℕ). IsOutside n (ranges_from (at + 1) marks)) next outside.1)
open_from at (false ∷ marks) zero outside = refl
open_from at (false ∷ marks) (suc k) outside =
    let next : at + suc k ≡ at + 1 + k = omega arith in
    open_from (at + 1) marks k (subst (λ (n : ℕ). IsOutside n (ranges_from (at + 1) marks)) next outside)

-- a byte that isn't marked lies outside, and one outside isn't marked
pub outside_marks : (marks : List Bool) (k : ℕ) → get_or marks k false ≡ false → IsOutside k (ranges_from 0 marks)
outside_marks marks k off = let here : 0 + k ≡ k = omega arith in subst (λ (n : ℕ). IsOutside n (ranges_from 0 marks)) here (outside_from 0 marks k off)

pub open_marks : (marks : List Bool) (k : ℕ) → IsOutside k (ranges_from 0 marks) → get_or marks k false ≡ false
open_marks marks k outside = let here : k ≡ 0 + k = omega arith in open_from 0 marks k (subst (λ (n : ℕ). IsOutside n (ranges_from 0 marks)) here outside)

pub outside-append : (k : ℕ) (xs ys : List Extent) → IsOutside k xs → IsOutside k ys → IsOutside k (xs ++ ys)
outside-append k [] ys front back = back
outside-append k (x ∷ xs) ys front back = (front.0, outside-append k xs ys front.1 back)

pub outside_left : (k : ℕ) (xs ys : List Extent) → IsOutside k (xs ++ ys) → IsOutside k xs
outside_left k [] ys outside = tt
outside_left k (x ∷ xs) ys outside = (outside.0, outside_left k xs ys outside.1)

pub outside_right : (k : ℕ) (xs ys : List Extent) → IsOutside k (xs ++ ys) → IsOutside k ys
outside_right k [] ys outside = outside
outside_right k (x ∷ xs) ys outside = outside_right k xs ys outside.1

-- marks that are those of the ranges, where they reach
pub marked_by : (marks loose : List Bool) → ((k : ℕ) → k < length marks → get_or marks k true ≡ get_or loose k false) → AreMarked (ranges_from 0 loose) marks
marked_by marks loose same = record {
  outside = λ k lt off. outside_marks loose k (sym (same k lt) ∙ off);
  unmarked = λ k lt outside. same k lt ∙ open_marks loose k outside;
}

-- what waited at the beginning, copied over marks that are off
pub first_marks : (loose rest : List Bool) (n : ℕ) → rest ≡ replicate n false → length loose ≤ n
    → (k : ℕ) → k < length (loose ++ drop (length loose) rest) → get_or (loose ++ drop (length loose) rest) k true ≡ get_or loose k false
first_marks loose rest n is short k lt = elim (cases_lt k (length loose)) [
  | inl below ↦ get_or_append_left loose (drop (length loose) rest) true k below ∙ get_or_default loose k true false below
  | inr from ↦
      let place : length loose + (k - length loose) ≡ k = omega arith in
      let fits : k < n = omega (arith, length-append loose (drop (length loose) rest), length-drop (length loose) rest, ap length is, length-replicate n false) in
      get_or-append_right loose (drop (length loose) rest) (length loose) k true refl from
      ∙ get_or-drop (length loose) rest (k - length loose) true
      ∙ ap (λ (i : ℕ). get_or rest i true) place
      ∙ ap (λ (l : List Bool). get_or l k true) is
      ∙ get_or-replicate n k false true fits
      ∙ sym (get_or_past loose k false from)
]

pub marked_first : (waits : Bool) (loose marks : List Bool) → waits ≡ true → ((k : ℕ) → k < length marks → get_or marks k true ≡ get_or loose k false) → AreMarked (unsynced_in waits loose []) marks
marked_first true loose marks is same = subst (λ (ranges : List Extent). AreMarked ranges marks) (sym (append-nil (ranges_from 0 loose))) (marked_by marks loose same)
marked_first false loose marks is same = absurd (both_ways false refl is)

-- one range more
pub marked_more : (ranges : List Extent) (range : Extent) (marks then : List Bool) → AreMarked ranges marks → length then ≡ length marks
    → ((k : ℕ) → range.at ≤ k → k < range.at + range.len → get_or then k true ≡ true)
    → ((k : ℕ) → k < range.at → get_or then k true ≡ get_or marks k true) → ((k : ℕ) → range.at + range.len ≤ k → get_or then k true ≡ get_or marks k true)
    → AreMarked (ranges ++ range ∷ []) then
marked_more ranges range marks then was size inside before after = record { outside = out; unmarked = off }
  where
    out : (k : ℕ) → k < length then → get_or then k true ≡ false → IsOutside k (ranges ++ range ∷ [])
    out k lt off = elim (cases_lt k range.at) [
      | inl below ↦ outside-append k ranges (range ∷ []) (was.outside k (omega arith) (sym (before k below) ∙ off)) (inl below, tt)
      | inr from ↦ elim (cases_lt k (range.at + range.len)) [
        | inl to ↦ absurd (both_ways (get_or then k true) off (inside k from to))
        | inr past ↦ outside-append k ranges (range ∷ []) (was.outside k (omega arith) (sym (after k past) ∙ off)) (inr past, tt)
      ]
    ]

    off : (k : ℕ) → k < length then → IsOutside k (ranges ++ range ∷ []) → get_or then k true ≡ false
    off k lt outside =
        let unmarked = was.unmarked k (omega arith) (outside_left k ranges (range ∷ []) outside) in
        ⊎_elim (λ below. before k below ∙ unmarked) (λ past. after k past ∙ unmarked) (outside_right k ranges (range ∷ []) outside).0

-- two halves, where the places outside are the same on both sides
module _ (border : ℕ) (home log : List ℕ) (whole_waits home_waits log_waits : List Extent) (size : length home ≡ border)
    (home_to : (k : ℕ) → k < border → IsOutside k whole_waits → IsOutside k home_waits) (home_from : (k : ℕ) → k < border → IsOutside k home_waits → IsOutside k whole_waits)
    (log_to : (k : ℕ) → k < length log → IsOutside (border + k) whole_waits → IsOutside k log_waits) (log_from : (k : ℕ) → k < length log → IsOutside k log_waits → IsOutside (border + k) whole_waits) where
  apart : (c : List ℕ) → IsImage (home ++ log) whole_waits c → IsImage home home_waits (take border c) × IsImage log log_waits (drop border c)
  apart c left = (record { size = front; same = same_front }, record { size = rest; same = same_rest })
    where
      count : length c ≡ border + length log
      count = omega (arith, left.size, length-append home log)

      front : length (take border c) ≡ length home
      front = omega (arith, length-take-le border c (omega (arith, count)))

      rest : length (drop border c) ≡ length log
      rest = omega (arith, count, length-drop border c)

      same_front : (k : ℕ) → k < length home → IsOutside k home_waits → get_or (take border c) k 0 ≡ get_or home k 0
      same_front k lt outside =
          let whole = left.same k (omega (arith, length-append home log)) (home_from k (omega arith) outside) in
          search (rules, places)

      same_rest : (k : ℕ) → k < length log → IsOutside k log_waits → get_or (drop border c) k 0 ≡ get_or log k 0
      same_rest k lt outside =
          let whole = left.same (border + k) (omega (arith, length-append home log)) (log_from k lt outside) in
          search (rules, places)

  together : (c : List ℕ) → IsImage home home_waits (take border c) → IsImage log log_waits (drop border c) → IsImage (home ++ log) whole_waits c
  together c first second = record { size = count; same = same }
    where
      count : length c ≡ length (home ++ log)
      count = omega (arith, length-append home log, first.size, second.size, length-take border c, length-drop border c)

      same : (k : ℕ) → k < length (home ++ log) → IsOutside k whole_waits → get_or c k 0 ≡ get_or (home ++ log) k 0
      same k lt outside = elim (cases_lt k border) [
        | inl below ↦ let half = first.same k (omega arith) (home_to k below outside) in search (rules, places)
        | inr from ↦
            let place : border + (k - border) ≡ k = omega arith in
            let there : IsOutside (border + (k - border)) whole_waits = subst (λ (n : ℕ). IsOutside n whole_waits) (sym place) outside in
            let half = second.same (k - border) (omega (arith, length-append home log)) (log_to (k - border) (omega (arith, length-append home log)) there) in
            search (rules, places)
      ]

  pub halves_by : AreHalves border (home ++ log) home log (IsImage (home ++ log) whole_waits) (IsImage home home_waits) (IsImage log log_waits)
  halves_by = record { shown = refl; apart = apart; together = together }
