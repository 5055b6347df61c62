-- The last of the writes that touches a block: where it has the whole of it, the block after them is its own.
use Rattle.std.proofs.Common.{◌≡◌, ℕ, zero, suc, ◌-◌, ◌<◌, ◌≤◌, true, false, List, [], ◌∷◌, length, get_or, take, refl, sym, ◌∙◌, ap, arith}
use Rattle.std.specs.Prelude.{All, Bool, Contains, IfSome, fold, is_some}
use Rattle.std.specs.Bool.{then_some}
use Rattle.std.specs.List.{AllWithin, list_any}
use Rattle.std.proofs.lemmas.Bool.{false_from_ne_true}
use Rattle.std.proofs.lemmas.List.{get_or-map, get_or-take, length-map, length-take}
use Rattle.std.proofs.lemmas.List.Elements.{All-head, All-tail}
use Rattle.std.proofs.lemmas.List.Folds.{list_any_at, list_any_none}
use Rattle.volume.specs.Volumes.{block_of-patched_untouched, length-patched, touches_agrees}
use Rattle.volume.specs.Writes.{Fits, IsTouched, Placed, block_of, patched, touches}
use Rattle.version_table.specs.Held.{Held, applied_of, writes_upto}
use Rattle.version_table.specs.Whole.{ends_whole, has_whole}
use Rattle.version_table.specs.declared.kept.Kept.{Kept}
use Rattle.version_table.proofs.Whole.{own_block, untouched_is_not_whole}

-- none of the writes touches the block
abbrev pub AreApart : ℕ → List Placed → Type 0
AreApart b ws = All (λ w. ¬ IsTouched w b) ws

none_touches : (b : ℕ) (ws : List Placed) → AreApart b ws → list_any (touches b) ws ≡ false
none_touches b ws apart = list_any_none (touches b) ws (λ k w lt. false_from_ne_true _ (λ yes. apart k w lt ((touches_agrees b (get_or ws k w)).0 yes)))

pub ends_whole-apart : (b : ℕ) (ws : List Placed) → AreApart b ws → ends_whole b ws ≡ false
ends_whole-apart b [] apart = refl
ends_whole-apart b (w ∷ ws) apart =
    rw (none_touches b ws (All-tail (λ (x : Placed). ¬ IsTouched x b) w ws apart)) (untouched_is_not_whole b w (All-head (λ (x : Placed). ¬ IsTouched x b) w ws apart))

-- no write behind the place i touches the block
abbrev pub AreApartAfter : ℕ → List Placed → ℕ → Type 0
AreApartAfter b ws i = (k : ℕ) (w : Placed) → i < k → k < length ws → ¬ IsTouched (get_or ws k w) b

ends_whole-at : (b : ℕ) (ws : List Placed) (i : ℕ) (d : Placed) → i < length ws → IsTouched (get_or ws i d) b → AreApartAfter b ws i → ends_whole b ws ≡ has_whole b (get_or ws i d)
ends_whole-at b [] i d lt touched apart = absurd (omega arith)
ends_whole-at b (w ∷ ws) zero d lt touched apart = rw (none_touches b ws (λ k x below. apart (suc k) x (omega arith) (omega arith))) refl
ends_whole-at b (w ∷ ws) (suc i) d lt touched apart =
    let inside : i < length ws = omega arith in
    rw (list_any_at (touches b) ws i d inside ((touches_agrees b (get_or ws i d)).1 touched)) (ends_whole-at b ws i d inside touched (λ k x above below. apart (suc k) x (omega arith) (omega arith)))

-- the block stays where none of the writes touches it
block_of-apart : (volume : List ℕ) (b : ℕ) (ws : List Placed) → All (Fits (length volume)) ws → AreApart b ws → block_of (fold patched volume ws) b ≡ block_of volume b
block_of-apart volume b [] fit apart = refl
block_of-apart volume b (w ∷ ws) fit apart =
    let fits = All-head (Fits (length volume)) w ws fit in
    block_of-apart (patched volume w) b ws (rw (length-patched volume w fits) (All-tail (Fits (length volume)) w ws fit)) (All-tail (λ (x : Placed). ¬ IsTouched x b) w ws apart)
    ∙ block_of-patched_untouched volume w b fits (All-head (λ (x : Placed). ¬ IsTouched x b) w ws apart)

-- the block is that of the last write that touches it, where this has the whole of it
block_of-last : (volume : List ℕ) (b : ℕ) (ws : List Placed) (i : ℕ) (d : Placed) → All (Fits (length volume)) ws → i < length ws → has_whole b (get_or ws i d) ≡ true → AreApartAfter b ws i
    → block_of (fold patched volume ws) b ≡ block_of (patched volume (get_or ws i d)) b
block_of-last volume b [] i d fit lt whole apart = absurd (omega arith)
block_of-last volume b (w ∷ ws) zero d fit lt whole apart =
    let fits = All-head (Fits (length volume)) w ws fit in
    block_of-apart (patched volume w) b ws (rw (length-patched volume w fits) (All-tail (Fits (length volume)) w ws fit)) (λ k x below. apart (suc k) x (omega arith) (omega arith))
block_of-last volume b (w ∷ ws) (suc i) d fit lt whole apart =
    let fits = All-head (Fits (length volume)) w ws fit in
    let long = length-patched volume w fits in
    let rest : All (Fits (length (patched volume w))) ws = rw long (All-tail (Fits (length volume)) w ws fit) in
    let inside : i < length ws = omega arith in
    block_of-last (patched volume w) b ws i d rest inside whole (λ k x above below. apart (suc k) x (omega arith) (omega arith)) ∙ own_block (patched volume w) volume (get_or ws i d) b long (rest i d inside) whole

-- the writes of the kept ones up to a number
upto_at : (t : Held) (j i : ℕ) (w : Placed) (e : Kept) → i < length (writes_upto t j) → get_or (writes_upto t j) i w ≡ (get_or t.kept i e).write
upto_at t j i w e lt =
    let long = length-map (take (j - t.forgotten) t.kept) (λ (k : Kept). k.write) in
    let first : i < length (take (j - t.forgotten) t.kept) = omega (arith, lt, long) in
    let within : i < j - t.forgotten = omega (arith, first, length-take (j - t.forgotten) t.kept) in
    get_or-map (λ (k : Kept). k.write) (take (j - t.forgotten) t.kept) i e w first ∙ ap (λ (k : Kept). k.write) (get_or-take (j - t.forgotten) t.kept i e within)

length-upto : (t : Held) (j : ℕ) → j ≤ applied_of t → length (writes_upto t j) ≡ j - t.forgotten
length-upto t j upto = omega (arith, length-map (take (j - t.forgotten) t.kept) (λ (k : Kept). k.write), length-take (j - t.forgotten) t.kept)

-- none of them touches the block from a place on
pub apart_from : (t : Held) (j b from : ℕ) → j ≤ applied_of t → AllWithin (λ k. ¬ IsTouched k.write b) t.kept from (j - t.forgotten)
    → (k : ℕ) (w : Placed) → from ≤ k → k < length (writes_upto t j) → ¬ IsTouched (get_or (writes_upto t j) k w) b
apart_from t j b from upto within k w le lt =
    let e : Kept = record { number = 0; write = w; origin = record { slot = 0; incarnation = 0; ticket = 0 } } in
    rw (upto_at t j k w e lt) (within k e le (omega (arith, length-upto t j upto)))

-- the write of the number `last` is the last of those up to the number j that touches the block
module _ (t : Held) (j b last : ℕ) (w : Placed) (above : t.forgotten < last) (to : last ≤ j) (upto : j ≤ applied_of t) (is : (e : Kept) → w ≡ (get_or t.kept (last - t.forgotten - 1) e).write)
    (after : AllWithin (λ k. ¬ IsTouched k.write b) t.kept (last - t.forgotten) (j - t.forgotten)) where
  place : ℕ
  place = last - t.forgotten - 1

  inside : place < length (writes_upto t j)
  unfolding place
  inside = omega (arith, length-upto t j upto)

  at_place : get_or (writes_upto t j) place w ≡ w
  unfolding place
  at_place =
      let e : Kept = record { number = 0; write = w; origin = record { slot = 0; incarnation = 0; ticket = 0 } } in
      upto_at t j place w e inside ∙ sym (is e)

  apart_after : AreApartAfter b (writes_upto t j) place
  unfolding place
  apart_after = λ k x behind below. apart_from t j b (last - t.forgotten) upto after k x (omega arith) below

  pub last_is_one : Contains (writes_upto t j) w
  last_is_one = (place, inside, at_place)

  pub last_ends : IsTouched w b → ends_whole b (writes_upto t j) ≡ has_whole b w
  last_ends touched = ends_whole-at b (writes_upto t j) place w inside (rw at_place touched) apart_after ∙ ap (has_whole b) at_place

  pub last_makes : has_whole b w ≡ true → (volume : List ℕ) → All (Fits (length volume)) (writes_upto t j) → block_of (fold patched volume (writes_upto t j)) b ≡ block_of (patched volume w) b
  last_makes whole volume fit =
      block_of-last volume b (writes_upto t j) place w fit inside (ap (has_whole b) at_place ∙ whole) apart_after ∙ ap (λ (x : Placed). block_of (patched volume x) b) at_place

-- what holds of a value where there is one
pub some_where : {X : Type 0} (there : Bool) (x : X) (P : X → Type 0) → (there ≡ true → P x) → IfSome (then_some there x) P
some_where true x P holds = holds refl
some_where false x P holds = tt

pub is_some-then_some : {X : Type 0} (there : Bool) (x : X) → is_some (then_some there x) ≡ there
is_some-then_some true x = refl
is_some-then_some false x = refl
