-- What stands at the places of a list, when an item is replaced.
use Rattle.std.proofs.Common.{◌≡◌, ◌≢◌, ℕ, ◌+◌, ◌<◌, ◌≤◌, zero, suc, List, [], ◌∷◌, IfSome, All, length, set, arith, refl}
use Rattle.std.specs.Prelude.{None, Some, slice_get}
use Rattle.std.proofs.lemmas.List.Elements.{All-cons, All-nil, All-head, All-tail}

-- the item that was put there
pub get_set : {A : Type 0} (xs : List A) (i : ℕ) (x y : A) → slice_get xs i ≡ Some x → slice_get (set xs i y) i ≡ Some y
get_set [] i x y there = let none : None ≡ Some x = there in cc
get_set (z ∷ xs) zero x y there = refl
get_set (z ∷ xs) (suc i) x y there = get_set xs i x y there

-- an item behind it
pub get_set_behind : {A : Type 0} (xs : List A) (i k : ℕ) (y : A) → i + 1 ≤ k → slice_get (set xs i y) k ≡ slice_get xs k
get_set_behind [] i k y behind = refl
get_set_behind (x ∷ xs) i zero y behind = absurd (omega arith)
get_set_behind (x ∷ xs) zero (suc k) y behind = refl
get_set_behind (x ∷ xs) (suc i) (suc k) y behind = get_set_behind xs i k y (omega arith)

-- what holds up to here, and of the item that was put here
pub one_more : {A : Type 0} (P : ℕ → A → Type 0) (xs : List A) (n : ℕ) (x y : A) → slice_get xs n ≡ Some x → ((k : ℕ) → k < n → IfSome (slice_get xs k) (P k)) → P n y → (k : ℕ) → k < n + 1 → IfSome (slice_get (set xs n y) k) (P k)
one_more P [] n x y there so_far is k below = let none : None ≡ Some x = there in absurd (cc)
one_more P (z ∷ xs) zero x y there so_far is zero below = is
one_more P (z ∷ xs) zero x y there so_far is (suc k) below = absurd (omega arith)
one_more P (z ∷ xs) (suc n) x y there so_far is zero below = so_far zero (omega arith)
one_more P (z ∷ xs) (suc n) x y there so_far is (suc k) below = one_more (λ m. P (suc m)) xs n x y there (λ m below. so_far (suc m) (omega arith)) is k (omega arith)

-- and up to the end
pub up_to_end : {A : Type 0} (P : ℕ → A → Type 0) (xs : List A) (n : ℕ) → length xs ≤ n → ((k : ℕ) → k < n → IfSome (slice_get xs k) (P k)) → (k : ℕ) → IfSome (slice_get xs k) (P k)
up_to_end P [] n long so_far k = tt
up_to_end P (x ∷ xs) n long so_far zero = so_far zero (omega arith)
up_to_end P (x ∷ xs) n long so_far (suc k) = up_to_end (λ m. P (suc m)) xs (length xs) (omega arith) (λ m below. so_far (suc m) (omega arith)) k

-- what holds of all, and of the item that was put here
pub all_set : {A : Type 0} (P : A → Type 0) (xs : List A) (i : ℕ) (y : A) → All P xs → P y → All P (set xs i y)
all_set P [] i y all is = all
all_set P (x ∷ xs) zero y all is = All-cons P y xs is (All-tail P x xs all)
all_set P (x ∷ xs) (suc i) y all is = All-cons P x (set xs i y) (All-head P x xs all) (all_set P xs i y (All-tail P x xs all) is)
