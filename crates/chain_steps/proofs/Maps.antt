-- A list whose elements are changed one after another.
use Rattle.std.proofs.Common.{◌≡◌, ℕ, zero, suc, ◌+◌, ◌<◌, List, [], ◌∷◌, ◌++◌, length, get_or, set, take, drop, refl, ap, subst, ◌∙◌, arith}
use Rattle.std.specs.Prelude.{map}

-- the first i are changed
abbrev pub changed_upto : {A : Type 0} → (A → A) → ℕ → List A → List A
changed_upto f i xs = map f (take i xs) ++ drop i xs

-- one more is
one_more_at : {A : Type 0} (f : A → A) (xs : List A) (i : ℕ) (d : A) → i < length (changed_upto f i xs) → set (changed_upto f i xs) i (f (get_or (changed_upto f i xs) i d)) ≡ changed_upto f (suc i) xs
one_more_at f [] zero d lt = absurd (omega arith)
one_more_at f [] (suc i) d lt = absurd (omega arith)
one_more_at f (x ∷ xs) zero d lt = refl
one_more_at f (x ∷ xs) (suc i) d lt = ap (λ ys. f x ∷ ys) (one_more_at f xs i d (omega arith))

pub one_more : {A : Type 0} (f : A → A) (xs ys : List A) (i n : ℕ) (d y : A) → ys ≡ changed_upto f i xs → length ys ≡ n → i < n → y ≡ f (get_or ys i d) → set ys i y ≡ changed_upto f (i + 1) xs
one_more f xs ys i n d y is long lt made =
    let next : suc i ≡ i + 1 = omega arith in
    let within : i < length ys = omega arith in
    ap (λ zs. set zs i y) is ∙ ap (set (changed_upto f i xs) i) (made ∙ ap (λ zs. f (get_or zs i d)) is)
    ∙ one_more_at f xs i d (subst (λ zs. i < length zs) is within) ∙ ap (λ n. changed_upto f n xs) next
