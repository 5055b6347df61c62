-- What a disk's calls come to on a part of it.
use Rattle.std.proofs.Common.{◌≡◌, ◌⊎◌, inl, inr, ⊎_elim, ℕ, ◌+◌, ◌-◌, ◌≤◌, List, ◌++◌, length, take, drop, Result, Ok, Err, OnOk, OnErr, sym, ◌∙◌, ap, subst, arith, length-take, length-drop}
use Rattle.std.proofs.lemmas.List.{take-take, drop-drop, drop-take}
use Rattle.std.specs.List.{slice_range}
use Rattle.disk_model.specs.Disk.{Holds, Torn, Follows}
use Rattle.disk_model.specs.Part.{inside, IsApart, KeepsPart}
use Rattle.disk_model.specs.declared.part.Part.{Part}
use Rattle.disk_model.specs.Writes.{slice-put, torn-put, torn_beside, torn_parts}

module _ (part : Part) (at : ℕ) where
  pub read_inside : (c : List ℕ) (n : ℕ) → at + n ≤ part.len → slice_range c (part.start + at) (part.start + at + n) ≡ slice_range (inside part c) at (at + n)
  read_inside c n fits =
      let whole : part.len ≡ at + (part.len - at) = omega arith in
      let left : part.start + at + n - (part.start + at) ≡ n = omega arith in
      let right : n ≡ at + n - at = omega arith in
      ap (λ (k : ℕ). take k (drop (part.start + at) c)) left
      ∙ sym (take-take n (part.len - at) (drop (part.start + at) c) (omega arith))
      ∙ ap (λ (l : List ℕ). take n (take (part.len - at) l)) (sym (drop-drop at part.start c))
      ∙ ap (λ (l : List ℕ). take n l) (sym (drop-take at (part.len - at) (drop part.start c)))
      ∙ ap (λ (k : ℕ). take n (drop at (take k (drop part.start c)))) (sym whole)
      ∙ ap (λ (k : ℕ). take k (drop at (inside part c))) right

  pub torn_inside : (n : ℕ) (old new : List ℕ) → at + n ≤ part.len → Torn (part.start + at) n old new → Torn at n (inside part old) (inside part new)
  torn_inside n old new fits torn = record {
    size = omega (arith, length-take part.len (drop part.start new), length-take part.len (drop part.start old), length-drop part.start new, length-drop part.start old, torn.size);
    before = front new ∙ ap (λ (l : List ℕ). drop part.start l) torn.before ∙ sym (front old);
    after = back new ∙ ap (λ (l : List ℕ). take (part.len - (at + n)) l) torn.after ∙ sym (back old);
  }
    where
      front : (c : List ℕ) → take at (inside part c) ≡ drop part.start (take (part.start + at) c)
      front c = take-take at part.len (drop part.start c) (omega arith) ∙ sym (drop-take part.start at c)

      back : (c : List ℕ) → drop (at + n) (inside part c) ≡ take (part.len - (at + n)) (drop (part.start + at + n) c)
      back c =
          let whole : part.len ≡ at + n + (part.len - (at + n)) = omega arith in
          let place : part.start + (at + n) ≡ part.start + at + n = omega arith in
          ap (λ (k : ℕ). drop (at + n) (take k (drop part.start c))) whole
          ∙ drop-take (at + n) (part.len - (at + n)) (drop part.start c)
          ∙ ap (λ (l : List ℕ). take (part.len - (at + n)) l) (drop-drop (at + n) part.start c ∙ ap (λ (k : ℕ). drop k c) place)

  pub holds_inside : (old new bytes : List ℕ) → part.start + part.len ≤ length old → at + length bytes ≤ part.len → Holds old (part.start + at) bytes new → Holds (inside part old) at bytes (inside part new)
  holds_inside old new bytes within fits holds =
      let torn = torn_inside (length bytes) old new fits (subst (Torn (part.start + at) (length bytes) old) (sym holds) (torn-put old (part.start + at) bytes (omega arith))) in
      let right : at + length bytes - at ≡ length bytes = omega arith in
      let written : take (length bytes) (drop at (inside part new)) ≡ bytes =
      ap (λ (k : ℕ). take k (drop at (inside part new))) (sym right)
      ∙ sym (read_inside new (length bytes) fits)
      ∙ ap (λ (l : List ℕ). slice_range l (part.start + at) (part.start + at + length bytes)) holds
      ∙ slice-put old (part.start + at) bytes (omega arith) in
      torn_parts at (length bytes) (inside part old) (inside part new) torn
      ∙ ap (λ (l : List ℕ). take at (inside part old) ++ l ++ drop (at + length bytes) (inside part old)) written

pub either : {T E X A B : Type 0} (result : Result T E) → OnOk result A → OnErr result B → (A → X) → (B → X) → X
either (Ok v) ok err from_ok from_err = from_ok ok
either (Err e) ok err from_ok from_err = from_err err

module _ (part other : Part) (apart : IsApart part other) (at n : ℕ) (fits : at + n ≤ part.len) where
  beside : (part.start + at + n ≤ other.start) ⊎ (other.start + other.len ≤ part.start + at)
  beside = ⊎_elim (λ behind. inl (omega arith)) (λ ahead. inr (omega arith)) apart

  -- what doesn't overlap stays
  pub keeps_apart : (old new : List ℕ) (left_old left_new : List ℕ → Type 0) → inside other new ≡ inside other old → Follows (Torn (part.start + at) n) left_old left_new → KeepsPart other old new left_old left_new
  keeps_apart old new left_old left_new same follows = record {
    gives = same;
    leaves = λ x (c, left, is). let (d, was, torn) = follows c left in (d, was, is ∙ torn_beside (part.start + at) n other.start other.len d c beside torn);
  }

  pub torn_other : (old new : List ℕ) → Torn (part.start + at) n old new → inside other new ≡ inside other old
  torn_other old new torn = torn_beside (part.start + at) n other.start other.len old new beside torn
