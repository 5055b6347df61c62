-- What stands at the places of a list: lemmas.
use Rattle.std.proofs.Common.{◌≡◌, ℕ, zero, suc, Some, None, List, [], ◌∷◌, ◌++◌, set, refl, ap}
use Rattle.std.specs.Prelude.{◌≢◌, slice_get}

-- what stands at another place than the one that changed
pub get_past : {A : Type 0} (xs : List A) (i k : ℕ) (y : A) → k ≢ i → slice_get (set xs i y) k ≡ slice_get xs k
get_past [] i k y apart = refl
get_past (x ∷ xs) zero zero y apart = absurd (apart refl)
get_past (x ∷ xs) zero (suc k) y apart = refl
get_past (x ∷ xs) (suc i) zero y apart = refl
get_past (x ∷ xs) (suc i) (suc k) y apart = get_past xs i k y (λ same. apart (ap (λ n. suc n) same))

-- what stands before one more
pub get_before : {A : Type 0} (xs ys : List A) (k : ℕ) (x : A) → slice_get xs k ≡ Some x → slice_get (xs ++ ys) k ≡ Some x
get_before [] ys k x here = let none : None ≡ Some x = here in absurd cc
get_before (a ∷ xs) ys zero x here = here
get_before (a ∷ xs) ys (suc k) x here = get_before xs ys k x here
