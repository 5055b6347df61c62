-- What is so of all is so of one. Lemmas.
use Rattle.std.proofs.Common.{◌≡◌, ℕ, zero, suc, ◌+◌, List, [], ◌∷◌, ◌++◌, length, map, subst, inl, inr, arith}
use Rattle.std.specs.Prelude.{◌⊎◌, All, IfSome, None, Option, Some, get_or, slice_get}
use Rattle.std.proofs.lemmas.List.{get_or-map, length-map}
use Rattle.std.proofs.lemmas.Option.{slice_get-get_or}
use Rattle.std.proofs.lemmas.List.Elements.{All-head, All-tail}

-- what is so of each is so of the one at a place
pub all_at : {A : Type 0} (Q : A → Type 0) (xs : List A) (at : ℕ) (x : A) → All Q xs → slice_get xs at ≡ Some x → Q x
all_at Q [] at x all here = let none : None ≡ Some x = here in absurd (cc)
all_at Q (a ∷ xs) zero x all here = let some : Some a ≡ Some x = here in let same : a ≡ x = cc some in subst Q same (All-head Q a xs all)
all_at Q (a ∷ xs) (suc k) x all here = all_at Q xs k x (All-tail Q a xs all) here

-- what is so of each that is at a place is so of all
pub all_from : {A : Type 0} (Q : A → Type 0) (xs : List A) → ((at : ℕ) (x : A) → slice_get xs at ≡ Some x → Q x) → All Q xs
all_from Q xs each = λ k d within. each k (get_or xs k d) (slice_get-get_or xs k d within)

-- what is so of what was found
pub found_so : {A : Type 0} (P : A → Type 0) (given : Option A) (x : A) → given ≡ Some x → IfSome given P → P x
found_so {A = A} P given x is so = subst (λ (o : Option A). IfSome o P) is so

pub of_mapped : {A B : Type 0} (Q : B → Type 0) (f : A → B) (xs : List A) → All Q (map f xs) → All (λ x. Q (f x)) xs
of_mapped Q f xs all = λ k d within. subst Q (get_or-map f xs k d (f d) within) (all k (f d) (rw (length-map xs f) within))

-- what stands in two lists, one behind the other, stands in one of them
pub get_either : {A : Type 0} (xs ys : List A) (k : ℕ) (x : A) → slice_get (xs ++ ys) k ≡ Some x → (slice_get xs k ≡ Some x) ⊎ ((j : ℕ) × (k ≡ length xs + j) × (slice_get ys j ≡ Some x))
get_either [] ys k x here = inr (k, omega arith, here)
get_either (y ∷ xs) ys zero x here = inl here
get_either (y ∷ xs) ys (suc k) x here = elim (get_either xs ys k x here) [ inl there ↦ inl there | inr (j, at, there) ↦ inr (j, omega (arith, at), there) ]
