-- The first of the tokens that pass a test, and what is left then; and lemmas on it for the crates above.
use Rattle.std.specs.Prelude.{◌≡◌, ◌<◌, All, Bool, not, filter, find, Some, None, List, [], ◌∷◌, length, if◌then◌else◌}
use Rattle.std.proofs.Common.{ap, refl, inl, inr, arith}
use Rattle.std.proofs.lemmas.Bool.{cases_Bool}
use Rattle.std.proofs.lemmas.List.Elements.{All-cons, All-head, All-tail}

-- these without the first that passes
abbrev pub without_first : {A : Type 0} → (A → Bool) → List A → List A
without_first passes [] = []
without_first passes (x ∷ xs) = if passes x then xs else x ∷ without_first passes xs

module _ {A : Type 0} (passes : A → Bool) where
  -- the first that passes, and the others of them behind it
  pub first_and_others : (xs : List A) (x : A) → find passes xs ≡ Some x → filter passes xs ≡ x ∷ filter passes (without_first passes xs)
  first_and_others [] x found = absurd (cc)
  first_and_others (y ∷ ys) x found = elim (cases_Bool (passes y)) [
    | inl here ↦ let is : Some y ≡ Some x = rw here at found in let same : y ≡ x = cc is in rw (here, same) refl
    | inr later ↦ rw (later, later) (first_and_others ys x (rw later at found))
  ]

  -- those that don't pass stay
  pub others_stay : (xs : List A) → filter (λ x. not (passes x)) (without_first passes xs) ≡ filter (λ x. not (passes x)) xs
  others_stay [] = refl
  others_stay (y ∷ ys) = elim (cases_Bool (passes y)) [
    | inl here ↦ rw here refl
    | inr later ↦ rw (later, later) (ap (λ zs. y ∷ zs) (others_stay ys))
  ]

  -- one fewer is left
  pub one_fewer : (xs : List A) (x : A) → find passes xs ≡ Some x → length (without_first passes xs) < length xs
  one_fewer [] x found = absurd (cc)
  one_fewer (y ∷ ys) x found = elim (cases_Bool (passes y)) [
    | inl here ↦ rw here (omega arith)
    | inr later ↦ rw later (let less = one_fewer ys x (rw later at found) in omega arith)
  ]

  -- where none passes, all stay
  pub none_passes : (xs : List A) → find passes xs ≡ None → filter passes xs ≡ []
  none_passes [] none = refl
  none_passes (y ∷ ys) none = elim (cases_Bool (passes y)) [
    | inl here ↦ let found : Some y ≡ None = rw here at none in absurd (cc)
    | inr later ↦ rw later (none_passes ys (rw later at none))
  ]

  pub all_stay : (xs : List A) → find passes xs ≡ None → filter (λ x. not (passes x)) xs ≡ xs
  all_stay [] none = refl
  all_stay (y ∷ ys) none = elim (cases_Bool (passes y)) [
    | inl here ↦ let found : Some y ≡ None = rw here at none in absurd (cc)
    | inr later ↦ rw later (ap (λ zs. y ∷ zs) (all_stay ys (rw later at none)))
  ]

  -- where none passes, none is taken out
  pub none_out : (xs : List A) → find passes xs ≡ None → without_first passes xs ≡ xs
  none_out [] none = refl
  none_out (y ∷ ys) none = elim (cases_Bool (passes y)) [
    | inl here ↦ let found : Some y ≡ None = rw here at none in absurd (cc)
    | inr later ↦ rw later (ap (λ zs. y ∷ zs) (none_out ys (rw later at none)))
  ]

  -- what all of them have, those that are left have
  pub left_have : (P : A → Type 0) (xs : List A) → All P xs → All P (without_first passes xs)
  left_have P [] all = all
  left_have P (y ∷ ys) all = elim (cases_Bool (passes y)) [
    | inl here ↦ rw here (All-tail P y ys all)
    | inr later ↦ rw later (All-cons P y (without_first passes ys) (All-head P y ys all) (left_have P ys (All-tail P y ys all)))
  ]
