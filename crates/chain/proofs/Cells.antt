-- A place of a list, and what stands at it in another list that goes with it.
use Rattle.std.proofs.Common.{◌≡◌, ℕ, zero, suc, List, [], ◌∷◌, ◌++◌, map, refl, ap}
use Rattle.std.specs.Prelude.{All, Some, None, slice_get, slice_set}
use Rattle.std.specs.List.{AllZip, remove}
use Rattle.std.proofs.lemmas.List.Elements.{All-cons, All-head, All-tail}

pub record Place {A : Type 0} (xs : List A) (at : ℕ) (x : A) : Type 0 where
  pub above : List A
  pub below : List A
  pub split : xs ≡ above ++ x ∷ below
  pub setting : (y : A) → slice_set xs at y ≡ above ++ y ∷ below

pub place_of : {A : Type 0} (xs : List A) (at : ℕ) (x : A) → slice_get xs at ≡ Some x → Place xs at x
place_of [] at x here = let none : None ≡ Some x = here in absurd (cc)
place_of (y ∷ ys) zero x here =
    let same : Some y ≡ Some x = here in let is : y ≡ x = cc same in
    record { above = []; below = ys; split = ap (λ z. z ∷ ys) is; setting = λ z. refl }
place_of (y ∷ ys) (suc n) x here =
    let rest = place_of ys n x here in
    record { above = y ∷ rest.above; below = rest.below; split = ap (λ l. y ∷ l) rest.split; setting = λ z. ap (λ l. y ∷ l) (rest.setting z) }

pub record Twin {A B : Type 0} (R : A → B → Type 0) (above : List A) (x : A) (below : List A) (ms : List B) : Type 0 where
  pub over : List B
  pub own : B
  pub under : List B
  pub are : ms ≡ over ++ own ∷ under
  pub fits : R x own
  pub rest : AllZip R below under
  pub others : (y : A) (z : B) (ys : List A) (zs : List B) → R y z → AllZip R ys zs → AllZip R (above ++ y ∷ ys) (over ++ z ∷ zs)

pub twin_of : {A B : Type 0} (R : A → B → Type 0) (above : List A) (x : A) (below : List A) (ms : List B) → AllZip R (above ++ x ∷ below) ms → Twin R above x below ms
twin_of R [] x below [] none = absurd none
twin_of R [] x below (m ∷ ms) are = record { over = []; own = m; under = ms; are = refl; fits = are.0; rest = are.1; others = λ y z ys zs fits rest. (fits, rest) }
twin_of R (a ∷ above) x below [] none = absurd none
twin_of R (a ∷ above) x below (m ∷ ms) are =
    let rest = twin_of R above x below ms are.1 in
    record { over = m ∷ rest.over; own = rest.own; under = rest.under; are = ap (λ l. m ∷ l) rest.are; fits = rest.fits; rest = rest.rest; others = λ y z ys zs fits all. (are.0, rest.others y z ys zs fits all) }

-- ---- by place alone

pub set_there : {A : Type 0} (xs : List A) (at : ℕ) (x y : A) → slice_get xs at ≡ Some x → slice_get (slice_set xs at y) at ≡ Some y
set_there [] at x y here = let none : None ≡ Some x = here in absurd (cc)
set_there (z ∷ zs) zero x y here = refl
set_there (z ∷ zs) (suc n) x y here = set_there zs n x y here

-- what stands at the same place of the other list
pub zip_at : {A B : Type 0} (R : A → B → Type 0) (xs : List A) (ms : List B) (at : ℕ) (x : A) → AllZip R xs ms → slice_get xs at ≡ Some x → (m : B) × (slice_get ms at ≡ Some m) × R x m
zip_at R [] [] at x are here = let none : None ≡ Some x = here in absurd (cc)
zip_at R [] (m ∷ ms) at x are here = absurd are
zip_at R (y ∷ ys) [] at x are here = absurd are
zip_at R (y ∷ ys) (m ∷ ms) zero x are here = let same : Some y ≡ Some x = here in let is : y ≡ x = cc same in (m, refl, rw (← is) are.0)
zip_at R (y ∷ ys) (m ∷ ms) (suc n) x are here = zip_at R ys ms n x are.1 here

pub zip_set : {A B : Type 0} (R : A → B → Type 0) (xs : List A) (ms : List B) (at : ℕ) (y : A) (n : B) → AllZip R xs ms → R y n → AllZip R (slice_set xs at y) (slice_set ms at n)
zip_set R [] [] at y n are fits = are
zip_set R [] (m ∷ ms) at y n are fits = absurd are
zip_set R (x ∷ xs) [] at y n are fits = absurd are
zip_set R (x ∷ xs) (m ∷ ms) zero y n are fits = (fits, are.1)
zip_set R (x ∷ xs) (m ∷ ms) (suc at) y n are fits = (are.0, zip_set R xs ms at y n are.1 fits)

-- ---- one is taken out

-- what stood before it and behind it is left
pub record Gap {A : Type 0} (xs : List A) (at : ℕ) (x : A) : Type 0 where
  pub above : List A
  pub below : List A
  pub were : xs ≡ above ++ x ∷ below
  pub left : remove xs at ≡ above ++ below

pub gap_of : {A : Type 0} (xs : List A) (at : ℕ) (x : A) → slice_get xs at ≡ Some x → Gap xs at x
gap_of [] at x here = let none : None ≡ Some x = here in absurd (cc)
gap_of (y ∷ ys) zero x here = let same : Some y ≡ Some x = here in let is : y ≡ x = cc same in record { above = []; below = ys; were = ap (λ z. z ∷ ys) is; left = refl }
gap_of (y ∷ ys) (suc n) x here =
    let rest = gap_of ys n x here in
    record { above = y ∷ rest.above; below = rest.below; were = ap (λ l. y ∷ l) rest.were; left = ap (λ l. y ∷ l) rest.left }

pub map_left : {A B : Type 0} (f : A → B) (xs : List A) (at : ℕ) → map f (remove xs at) ≡ remove (map f xs) at
map_left f [] zero = refl
map_left f [] (suc n) = refl
map_left f (x ∷ xs) zero = refl
map_left f (x ∷ xs) (suc n) = ap (λ l. f x ∷ l) (map_left f xs n)

-- what all have, the others have
pub all_left : {A : Type 0} (P : A → Type 0) (xs : List A) (at : ℕ) → All P xs → All P (remove xs at)
all_left P [] zero all = all
all_left P [] (suc n) all = all
all_left P (x ∷ xs) zero all = All-tail P x xs all
all_left P (x ∷ xs) (suc n) all = All-cons P x (remove xs n) (All-head P x xs all) (all_left P xs n (All-tail P x xs all))

-- and the others go with those of another list from which it is taken too
pub zip_left : {A B : Type 0} (R : A → B → Type 0) (xs : List A) (ms : List B) (at : ℕ) → AllZip R xs ms → AllZip R (remove xs at) (remove ms at)
zip_left R [] [] zero are = are
zip_left R [] [] (suc n) are = are
zip_left R [] (m ∷ ms) at are = absurd are
zip_left R (x ∷ xs) [] at are = absurd are
zip_left R (x ∷ xs) (m ∷ ms) zero are = are.1
zip_left R (x ∷ xs) (m ∷ ms) (suc n) are = (are.0, zip_left R xs ms n are.1)
