-- The last of a list.
use Rattle.std.proofs.Common.{◌≡◌, ◌≤◌, ℕ, List, [], ◌∷◌, ◌++◌, length, ap, arith, refl, subst, sym}
use Rattle.std.specs.Prelude.{Some}
use Rattle.loans.specs.Sides.{Side, last_of}

none_ends : {A : Type 0} (ys : List A) (y : A) → ¬ ([] ≡ ys ++ y ∷ [])
none_ends [] y same = absurd (cc)
none_ends (b ∷ ys) y same = absurd (cc)

-- two lists that are the same have the same last
last_same : {A : Type 0} (xs ys : List A) (x y : A) → xs ++ x ∷ [] ≡ ys ++ y ∷ [] → x ≡ y
last_same [] [] x y same = cc
last_same {A} [] (b ∷ ys) x y same = let none : [] ≡ ys ++ y ∷ [] = cc in absurd (none_ends ys y none)
last_same {A} (a ∷ xs) [] x y same = let none : xs ++ x ∷ [] ≡ [] = cc in absurd (none_ends xs x (sym none))
last_same {A} (a ∷ xs) (b ∷ ys) x y same = let rest : xs ++ x ∷ [] ≡ ys ++ y ∷ [] = cc in last_same xs ys x y rest

-- what is left over of it, where that is one
pub left_over : {A : Type 0} (xs known rest ys : List A) (x y : A) → xs ++ known ≡ ys ++ y ∷ [] → known ≡ x ∷ rest → length known ≤ 1 → x ≡ y
left_over xs known [] ys x y same is one = last_same xs ys x y (subst (λ k. xs ++ k ≡ ys ++ y ∷ []) is same)
left_over xs known (z ∷ rest) ys x y same is one = absurd (omega (arith, ap length is, one))

-- a list's last
pub ends_with : {A : Type 0} (xs : List A) (x : A) → last_of (xs ++ x ∷ []) ≡ Some x
ends_with [] x = refl
ends_with (y ∷ []) x = refl
ends_with (y ∷ z ∷ zs) x = ends_with (z ∷ zs) x

-- what is left over is it alone, where that is one
pub just_one : {A : Type 0} (known rest : List A) (x : A) → known ≡ x ∷ rest → length known ≤ 1 → known ≡ x ∷ []
just_one known [] x is one = is
just_one known (z ∷ rest) x is one = absurd (omega (arith, ap length is, one))

abbrev side_of : {T : Type 0} → ℕ → List T → Side T
side_of n xs = record { number = n; loans = xs }

-- two sides of one number that remember the same
pub one_side : {T : Type 0} (n m : ℕ) (xs ys : List T) → n ≡ m → xs ≡ ys → side_of n xs ≡ side_of m ys
one_side n m xs ys numbers loans = cc
