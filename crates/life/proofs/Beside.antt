-- What goes with what: lemmas.
use Rattle.std.proofs.Common.{◌≡◌, ℕ, zero, suc, List, [], ◌∷◌, ◌++◌, length, map, refl, ap, sym, subst, ◌∙◌, arith}
use Rattle.std.specs.Prelude.{All, None, Some, remove, slice_get}
use Rattle.std.specs.List.{AllZip}
use Rattle.std.proofs.lemmas.List.{append_assoc, append-nil}
use Rattle.std.proofs.lemmas.List.Elements.{All-cons, All-head, All-nil, All-tail}

pub all_more : {A B : Type 0} (R : A → B → Type 0) (xs : List A) (ys : List B) (x : A) (y : B) → AllZip R xs ys → R x y → AllZip R (xs ++ x ∷ []) (ys ++ y ∷ [])
all_more R [] [] x y all fits = (fits, tt)
all_more R [] (b ∷ ys) x y all fits = absurd all
all_more R (a ∷ xs) [] x y all fits = absurd all
all_more R (a ∷ xs) (b ∷ ys) x y all fits = (all.0, all_more R xs ys x y all.1 fits)

pub zip_mapped : {A B C : Type 0} (R : B → C → Type 0) (f : A → B) (xs : List A) (ys : List C) → AllZip R (map f xs) ys → AllZip (λ x y. R (f x) y) xs ys
zip_mapped R f [] [] all = tt
zip_mapped R f [] (y ∷ ys) all = absurd all
zip_mapped R f (x ∷ xs) [] all = absurd all
zip_mapped R f (x ∷ xs) (y ∷ ys) all = (all.0, zip_mapped R f xs ys all.1)

-- what was yielded, when the next item was, and all of it
pub one_behind : {A : Type 0} (xs rest next all : List A) (x : A) → xs ++ rest ≡ all → rest ≡ x ∷ next → (xs ++ x ∷ []) ++ next ≡ all
one_behind xs rest next all x whole is = append_assoc xs (x ∷ []) next ∙ ap (λ l. xs ++ l) (sym is) ∙ whole

pub all_yielded : {A : Type 0} (yielded rest all : List A) → yielded ++ rest ≡ all → length rest ≡ 0 → yielded ≡ all
all_yielded yielded [] all whole none = sym (append-nil yielded) ∙ whole
all_yielded yielded (x ∷ rest) all whole none = absurd (omega (arith, none))

-- who stands beside an item
pub zip_there : {A B : Type 0} (R : A → B → Type 0) (xs : List A) (ys : List B) (k : ℕ) (y : B) → AllZip R xs ys → slice_get ys k ≡ Some y → (x : A) × (slice_get xs k ≡ Some x) × R x y
zip_there R [] [] k y all there = let none : None ≡ Some y = there in absurd (cc)
zip_there R [] (b ∷ ys) k y all there = absurd all
zip_there R (a ∷ xs) [] k y all there = absurd all
zip_there R (a ∷ xs) (b ∷ ys) zero y all there = let some : Some b ≡ Some y = there in let same : b ≡ y = cc some in (a, refl, subst (R a) same all.0)
zip_there R (a ∷ xs) (b ∷ ys) (suc k) y all there = zip_there R xs ys k y all.1 there

-- nobody stands beside where nothing is
pub zip_nobody : {A B : Type 0} (R : A → B → Type 0) (xs : List A) (ys : List B) (k : ℕ) → AllZip R xs ys → slice_get ys k ≡ None → slice_get xs k ≡ None
zip_nobody R [] [] k all none = refl
zip_nobody R [] (b ∷ ys) k all none = absurd all
zip_nobody R (a ∷ xs) [] k all none = absurd all
zip_nobody R (a ∷ xs) (b ∷ ys) zero all none = let clash : Some b ≡ None = none in absurd (cc)
zip_nobody R (a ∷ xs) (b ∷ ys) (suc k) all none = zip_nobody R xs ys k all.1 none

-- what is so of each pair, where something is so of each of the first
pub zip_with : {A B : Type 0} (Q : A → Type 0) (R P : A → B → Type 0) → ((x : A) (y : B) → Q x → R x y → P x y) → (xs : List A) (ys : List B) → All Q xs → AllZip R xs ys → AllZip P xs ys
zip_with Q R P more [] [] all zipped = tt
zip_with Q R P more [] (y ∷ ys) all zipped = absurd zipped
zip_with Q R P more (x ∷ xs) [] all zipped = absurd zipped
zip_with Q R P more (x ∷ xs) (y ∷ ys) all zipped = (more x y (All-head Q x xs all) zipped.0, zip_with Q R P more xs ys (All-tail Q x xs all) zipped.1)

pub zip_weaker : {A B : Type 0} (R P : A → B → Type 0) → ((x : A) (y : B) → R x y → P x y) → (xs : List A) (ys : List B) → AllZip R xs ys → AllZip P xs ys
zip_weaker R P more [] [] zipped = tt
zip_weaker R P more [] (y ∷ ys) zipped = absurd zipped
zip_weaker R P more (x ∷ xs) [] zipped = absurd zipped
zip_weaker R P more (x ∷ xs) (y ∷ ys) zipped = (more x y zipped.0, zip_weaker R P more xs ys zipped.1)

-- one list after another
pub zip_then : {A B C : Type 0} (R : A → B → Type 0) (Q : B → C → Type 0) (P : A → C → Type 0) → ((x : A) (y : B) (z : C) → R x y → Q y z → P x z) → (xs : List A) (ys : List B) (zs : List C) → AllZip R xs ys → AllZip Q ys zs → AllZip P xs zs
zip_then R Q P more [] [] [] one two = tt
zip_then R Q P more [] [] (z ∷ zs) one two = absurd two
zip_then R Q P more [] (y ∷ ys) zs one two = absurd one
zip_then R Q P more (x ∷ xs) [] zs one two = absurd one
zip_then R Q P more (x ∷ xs) (y ∷ ys) [] one two = absurd two
zip_then R Q P more (x ∷ xs) (y ∷ ys) (z ∷ zs) one two = (more x y z one.0 two.0, zip_then R Q P more xs ys zs one.1 two.1)

-- all but the one at a place
abbrev pub others_of : {A : Type 0} → List A → ℕ → List A
others_of [] k = []
others_of (x ∷ xs) zero = xs
others_of (x ∷ xs) (suc k) = x ∷ others_of xs k

pub remove_is : {A : Type 0} (xs : List A) (k : ℕ) → remove xs k ≡ others_of xs k
remove_is [] zero = refl
remove_is [] (suc k) = refl
remove_is (x ∷ xs) zero = refl
remove_is (x ∷ xs) (suc k) = ap (λ l. x ∷ l) (remove_is xs k)

-- the same one taken out of both
others_beside : {A B : Type 0} (R : A → B → Type 0) (xs : List A) (ys : List B) (k : ℕ) → AllZip R xs ys → AllZip R (others_of xs k) (others_of ys k)
others_beside R [] [] k zipped = tt
others_beside R [] (y ∷ ys) k zipped = absurd zipped
others_beside R (x ∷ xs) [] k zipped = absurd zipped
others_beside R (x ∷ xs) (y ∷ ys) zero zipped = zipped.1
others_beside R (x ∷ xs) (y ∷ ys) (suc k) zipped = (zipped.0, others_beside R xs ys k zipped.1)

pub zip_remove : {A B : Type 0} (R : A → B → Type 0) (xs : List A) (ys : List B) (k : ℕ) → AllZip R xs ys → AllZip R (remove xs k) (remove ys k)
zip_remove R xs ys k zipped = subst (λ l. AllZip R l (remove ys k)) (sym (remove_is xs k)) (subst (λ l. AllZip R (others_of xs k) l) (sym (remove_is ys k)) (others_beside R xs ys k zipped))

-- what is so of the second ones
pub zip_second : {A B : Type 0} (R : A → B → Type 0) (Q : B → Type 0) → ((x : A) (y : B) → R x y → Q y) → (xs : List A) (ys : List B) → AllZip R xs ys → All Q ys
zip_second R Q more [] [] zipped = All-nil Q
zip_second R Q more [] (y ∷ ys) zipped = absurd zipped
zip_second R Q more (x ∷ xs) [] zipped = absurd zipped
zip_second R Q more (x ∷ xs) (y ∷ ys) zipped = All-cons Q y ys (more x y zipped.0) (zip_second R Q more xs ys zipped.1)

pub zip_long : {A B : Type 0} (R : A → B → Type 0) (xs : List A) (ys : List B) → AllZip R xs ys → length xs ≡ length ys
zip_long R [] [] zipped = refl
zip_long R [] (y ∷ ys) zipped = absurd zipped
zip_long R (x ∷ xs) [] zipped = absurd zipped
zip_long R (x ∷ xs) (y ∷ ys) zipped = ap suc (zip_long R xs ys zipped.1)
