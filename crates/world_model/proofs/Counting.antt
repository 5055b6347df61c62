-- Lists with one element more or less or in another's place, and how many of their elements pass a test: lemmas for the crates above.
use Rattle.std.proofs.Common.{◌≡◌, ℕ, zero, suc, ◌+◌, ◌<◌, ◌≤◌, Bool, true, false, eqb, cond, Some, List, [], ◌∷◌, ◌++◌, length, map, take, drop, set, refl, sym, zero-add, ◌∙◌, ap, subst, inl, inr, arith}
use Rattle.std.specs.Prelude.{All, AllPairs, Contains, slice_get, count_by, filter, not}
use Rattle.std.specs.List.{flat_map}
use Rattle.std.proofs.lemmas.Bool.{cases_Bool, cond-true, cond-false}
use Rattle.std.proofs.lemmas.List.{map-append, take-append-drop}
use Rattle.std.proofs.lemmas.List.Concat.{flat_map-append}
use Rattle.std.proofs.lemmas.List.Elements.{All-append, All-cons, All-head, All-nil, All-tail}
use Rattle.std.proofs.lemmas.List.Sums.{sum_by-append}
use Rattle.std.proofs.lemmas.Option.{same_Some}

-- ---- counts

pub count-append : {X : Type 0} (p : X → Bool) (xs ys : List X) → count_by p (xs ++ ys) ≡ count_by p xs + count_by p ys
count-append p xs ys = sum_by-append (λ x. cond (p x) 1 0) xs ys

-- what one element counts
pub one_if : {X : Type 0} → (X → Bool) → X → ℕ
one_if p x = cond (p x) 1 0

pub one_if-true : {X : Type 0} (p : X → Bool) (x : X) → p x ≡ true → one_if p x ≡ 1
unfolding one_if
one_if-true p x passes = cond-true (p x) 1 0 passes

pub one_if-false : {X : Type 0} (p : X → Bool) (x : X) → p x ≡ false → one_if p x ≡ 0
unfolding one_if
one_if-false p x fails = cond-false (p x) 1 0 fails

pub count-cons : {X : Type 0} (p : X → Bool) (x : X) (xs : List X) → count_by p (x ∷ xs) ≡ one_if p x + count_by p xs
unfolding one_if
count-cons p x xs =
    let one : count_by p (x ∷ []) ≡ cond {A = ℕ} (p x) 1 0 = zero-add (cond {A = ℕ} (p x) 1 0) in
    count-append p (x ∷ []) xs ∙ ap (λ (n : ℕ). n + count_by p xs) one

pub count-one : {X : Type 0} (p : X → Bool) (x : X) → count_by p (x ∷ []) ≡ one_if p x
unfolding one_if
count-one p x = zero-add (cond {A = ℕ} (p x) 1 0)

-- tests that agree count the same
pub one_if-same : {X Y : Type 0} (p : X → Bool) (q : Y → Bool) (x : X) (y : Y) → p x ≡ q y → one_if p x ≡ one_if q y
unfolding one_if
one_if-same p q x y same = ap (λ (b : Bool). cond {A = ℕ} b 1 0) same

-- where none is counted, none passes
pub none_passes : {X : Type 0} (p : X → Bool) (xs : List X) → count_by p xs ≡ 0 → All (λ x. p x ≡ false) xs
none_passes p [] none = All-nil (λ x. p x ≡ false)
none_passes p (x ∷ xs) none = elim (cases_Bool (p x)) [
  | inl passes ↦ absurd (omega (arith, none, count-cons p x xs, one_if-true p x passes))
  | inr fails ↦ All-cons (λ y. p y ≡ false) x xs fails (none_passes p xs (omega (arith, none, count-cons p x xs)))
]

-- where none passes, none is counted
pub none_counted : {X : Type 0} (p : X → Bool) (xs : List X) → All (λ x. p x ≡ false) xs → count_by p xs ≡ 0
none_counted p [] none = refl
none_counted p (x ∷ xs) none =
    omega (arith, count-cons p x xs, one_if-false p x (All-head (λ y. p y ≡ false) x xs none), none_counted p xs (All-tail (λ y. p y ≡ false) x xs none))

-- without one of them
pub count-without : {X : Type 0} (p : X → Bool) (before : List X) (x : X) (after : List X) → count_by p (before ++ x ∷ after) ≡ count_by p (before ++ after) + one_if p x
count-without p before x after = omega (arith, count-append p before (x ∷ after), count-append p before after, count-cons p x after)

-- ---- elements

pub all_before : {X : Type 0} (P : X → Type 0) (xs ys : List X) → All P (xs ++ ys) → All P xs
all_before P [] ys all = All-nil P
all_before P (x ∷ xs) ys all = All-cons P x xs (All-head P x (xs ++ ys) all) (all_before P xs ys (All-tail P x (xs ++ ys) all))

pub all_behind : {X : Type 0} (P : X → Type 0) (xs ys : List X) → All P (xs ++ ys) → All P ys
all_behind P [] ys all = all
all_behind P (x ∷ xs) ys all = all_behind P xs ys (All-tail P x (xs ++ ys) all)

pub all_without : {X : Type 0} (P : X → Type 0) (before : List X) (x : X) (after : List X) → All P (before ++ x ∷ after) → All P (before ++ after)
all_without P before x after all =
    All-append P before after (all_before P before (x ∷ after) all) (All-tail P x after (all_behind P before (x ∷ after) all))

pub all_at : {X : Type 0} (P : X → Type 0) (before : List X) (x : X) (after : List X) → All P (before ++ x ∷ after) → P x
all_at P before x after all = All-head P x after (all_behind P before (x ∷ after) all)

-- what holds of all holds still where it does of those in between
pub all_between : {A : Type 0} (P : A → Type 0) (one two mid others : List A) → (All P mid → All P others) → All P (one ++ (mid ++ two)) → All P (one ++ (others ++ two))
all_between P one two mid others keeps all =
    let behind = all_behind P one (mid ++ two) all in
    All-append P one (others ++ two) (all_before P one (mid ++ two) all) (All-append P others two (keeps (all_before P mid two behind)) (all_behind P mid two behind))

-- what stands between others is among them
pub contains_there : {A : Type 0} (xs : List A) (x : A) (ys : List A) → Contains (xs ++ x ∷ ys) x
contains_there [] x ys = (0, omega arith, refl)
contains_there (y ∷ xs) x ys = let (k, lt, at) = contains_there xs x ys in (suc k, omega (arith, lt), at)

-- what holds of all pairs holds of one and each before it, and of it and each behind
pub pairs_around : {A : Type 0} (R : A → A → Type 0) (xs : List A) (y : A) (ys : List A) → AllPairs R (xs ++ y ∷ ys) → All (λ x. R x y) xs × All (λ z. R y z) ys
pairs_around R [] y ys pairs = (All-nil (λ x. R x y), λ k d lt. pairs 0 (suc k) d (omega arith) (omega arith))
pairs_around R (x ∷ xs) y ys pairs =
    let inner = pairs_around R xs y ys (λ i j d ij within. pairs (suc i) (suc j) d (omega arith) (omega arith)) in
    let ahead : All (λ z. R x z) (xs ++ y ∷ ys) = (λ k d lt. pairs 0 (suc k) d (omega arith) (omega arith)) in
    (All-cons (λ z. R z y) x xs (all_at (λ z. R x z) xs y ys ahead) inner.0, inner.1)

-- ---- lists of lists

pub count_set : {X : Type 0} (p : X → Bool) (xss : List (List X)) (i : ℕ) (xs new : List X) → slice_get xss i ≡ Some xs
    → count_by p (flat_map (λ ys. ys) (set xss i new)) + count_by p xs ≡ count_by p (flat_map (λ ys. ys) xss) + count_by p new
count_set p [] i xs new at = absurd cc
count_set p (ys ∷ yss) zero xs new at =
    let here : count_by p ys ≡ count_by p xs = ap (count_by p) (same_Some ys xs at) in
    omega (arith, count-append p new (flat_map (λ zs. zs) yss), count-append p ys (flat_map (λ zs. zs) yss))
count_set p (ys ∷ yss) (suc i) xs new at =
    omega (arith, count_set p yss i xs new at, count-append p ys (flat_map (λ zs. zs) (set yss i new)), count-append p ys (flat_map (λ zs. zs) yss))

-- where there is nothing to forget, no more is counted
pub count_forgotten : {X : Type 0} (p : X → Bool) (xss : List (List X)) (i : ℕ) → count_by p (flat_map (λ ys. ys) (set xss i [])) ≤ count_by p (flat_map (λ ys. ys) xss)
count_forgotten p [] i = omega arith
count_forgotten p (ys ∷ yss) zero = omega (arith, count-append p ys (flat_map (λ zs. zs) yss))
count_forgotten p (ys ∷ yss) (suc i) =
    omega (arith, count_forgotten p yss i, count-append p ys (flat_map (λ zs. zs) (set yss i [])), count-append p ys (flat_map (λ zs. zs) yss))

pub all_set : {X : Type 0} (P : X → Type 0) (xss : List (List X)) (i : ℕ) (new : List X) → All P (flat_map (λ ys. ys) xss) → All P new → All P (flat_map (λ ys. ys) (set xss i new))
all_set P [] i new all these = all
all_set P (ys ∷ yss) zero new all these = All-append P new (flat_map (λ zs. zs) yss) these (all_behind P ys (flat_map (λ zs. zs) yss) all)
all_set P (ys ∷ yss) (suc i) new all these =
    All-append P ys (flat_map (λ zs. zs) (set yss i new)) (all_before P ys (flat_map (λ zs. zs) yss) all) (all_set P yss i new (all_behind P ys (flat_map (λ zs. zs) yss) all) these)

pub all_in : {X : Type 0} (P : X → Type 0) (xss : List (List X)) (i : ℕ) (xs : List X) → slice_get xss i ≡ Some xs → All P (flat_map (λ ys. ys) xss) → All P xs
all_in P [] i xs at all = absurd cc
all_in P (ys ∷ yss) zero xs at all = subst (All P) (same_Some ys xs at) (all_before P ys (flat_map (λ zs. zs) yss) all)
all_in P (ys ∷ yss) (suc i) xs at all = all_in P yss i xs at (all_behind P ys (flat_map (λ zs. zs) yss) all)

-- an empty list more holds nothing more
pub flat_insert_none : {X : Type 0} (xss : List (List X)) (i : ℕ) → flat_map (λ ys. ys) (take i xss ++ [] ∷ drop i xss) ≡ flat_map (λ ys. ys) xss
flat_insert_none xss i =
    flat_map-append (λ ys. ys) (take i xss) ([] ∷ drop i xss) ∙ sym (flat_map-append (λ ys. ys) (take i xss) (drop i xss))
    ∙ ap (λ l. flat_map (λ ys. ys) l) (take-append-drop i xss)

-- ---- what is mapped

-- a list and a place in it
pub record Split {A B : Type 0} (f : A → B) (xs : List A) (before : List B) (y : B) (after : List B) : Type 0 where
  pub left : List A
  pub mid : A
  pub right : List A
  pub is : xs ≡ left ++ mid ∷ right
  pub left_is : map f left ≡ before
  pub mid_is : f mid ≡ y
  pub right_is : map f right ≡ after

pub map_splits : {A B : Type 0} (f : A → B) (xs : List A) (before : List B) (y : B) (after : List B) → map f xs ≡ before ++ y ∷ after → Split f xs before y after
map_splits f [] [] y after is = absurd cc
map_splits f [] (b ∷ bs) y after is = absurd cc
map_splits f (x ∷ xs) [] y after is =
    let first : f x ≡ y = cc in let others : map f xs ≡ after = cc in
    record { left = []; mid = x; right = xs; is = refl; left_is = refl; mid_is = first; right_is = others }
map_splits f (x ∷ xs) (b ∷ bs) y after is =
    let first : f x ≡ b = cc in let others : map f xs ≡ bs ++ y ∷ after = cc in
    let rest = map_splits f xs bs y after others in
    let left_is : f x ∷ map f rest.left ≡ b ∷ bs = cc (first, rest.left_is) in
    record { left = x ∷ rest.left; mid = rest.mid; right = rest.right; is = ap (λ l. x ∷ l) rest.is; left_is = left_is; mid_is = rest.mid_is; right_is = rest.right_is }

pub map_gets : {A B : Type 0} (f : A → B) (xs : List A) (i : ℕ) (y : B) → slice_get (map f xs) i ≡ Some y → (x : A) × (slice_get xs i ≡ Some x) × (f x ≡ y)
map_gets f [] i y at = absurd cc
map_gets f (x ∷ xs) zero y at = (x, refl, same_Some (f x) y at)
map_gets f (x ∷ xs) (suc i) y at = map_gets f xs i y at

-- with one element in another's place that is mapped to the same
pub maps_same : {A B : Type 0} (f : A → B) (above : List A) (x y : A) (below : List A) → f y ≡ f x → map f (above ++ y ∷ below) ≡ map f (above ++ x ∷ below)
maps_same f above x y below same =
    map-append f above (y ∷ below) ∙ ap (λ z. map f above ++ z ∷ map f below) same ∙ sym (map-append f above (x ∷ below))

pub flat_same : {A B : Type 0} (f : A → List B) (above : List A) (x y : A) (below : List A) → f y ≡ f x → flat_map f (above ++ y ∷ below) ≡ flat_map f (above ++ x ∷ below)
flat_same f above x y below same =
    flat_map-append f above (y ∷ below) ∙ ap (λ zs. flat_map f above ++ (zs ++ flat_map f below)) same ∙ sym (flat_map-append f above (x ∷ below))

pub flat_split : {A B : Type 0} (f : A → List B) (above : List A) (x : A) (below : List A) → flat_map f (above ++ x ∷ below) ≡ flat_map f above ++ (f x ++ flat_map f below)
flat_split f above x below = flat_map-append f above (x ∷ below)

-- ---- places

pub get_left : {X : Type 0} (xs ys : List X) (i : ℕ) (x : X) → slice_get xs i ≡ Some x → slice_get (xs ++ ys) i ≡ Some x
get_left [] ys i x at = absurd cc
get_left (y ∷ xs) ys zero x at = at
get_left (y ∷ xs) ys (suc i) x at = get_left xs ys i x at

pub get_left_only : {X : Type 0} (xs ys : List X) (i : ℕ) (x : X) → i < length xs → slice_get (xs ++ ys) i ≡ Some x → slice_get xs i ≡ Some x
get_left_only [] ys i x lt at = absurd (omega arith)
get_left_only (y ∷ xs) ys zero x lt at = at
get_left_only (y ∷ xs) ys (suc i) x lt at = get_left_only xs ys i x (omega arith) at

pub get_there : {A : Type 0} (xs : List A) (x : A) (ys : List A) (i : ℕ) → i ≡ length xs → slice_get (xs ++ x ∷ ys) i ≡ Some x
get_there [] x ys i is = rw is refl
get_there (y ∷ xs) x ys zero is = absurd (omega arith)
get_there (y ∷ xs) x ys (suc i) is = get_there xs x ys i (omega arith)

pub all_got : {X : Type 0} (P : X → Type 0) (xs : List X) (i : ℕ) (x : X) → slice_get xs i ≡ Some x → All P xs → P x
all_got P [] i x at all = absurd cc
all_got P (y ∷ xs) zero x at all = subst P (same_Some y x at) (All-head P y xs all)
all_got P (y ∷ xs) (suc i) x at all = all_got P xs i x at (All-tail P y xs all)

-- ---- names that wait

-- one that isn't taken out stays
pub contains-filter : (name other : ℕ) (names : List ℕ) → Contains names name → eqb name other ≡ false → Contains (filter (λ n. not (eqb n other)) names) name
contains-filter name other [] (k, lt, at) apart = absurd (omega (arith, lt))
contains-filter name other (n ∷ ns) (zero, lt, at) apart =
    let stays : not (eqb n other) ≡ true = rw (at, apart) refl in
    subst (λ (l : List ℕ). Contains l name) (sym (cond-true (not (eqb n other)) (n ∷ filter (λ m. not (eqb m other)) ns) (filter (λ m. not (eqb m other)) ns) stays)) (0, omega arith, at)
contains-filter name other (n ∷ ns) (suc k, lt, at) apart =
    let rest = contains-filter name other ns (k, omega (arith, lt), at) apart in
    elim (cases_Bool (not (eqb n other))) [
      | inl stays ↦ subst (λ (l : List ℕ). Contains l name) (sym (cond-true (not (eqb n other)) (n ∷ filter (λ m. not (eqb m other)) ns) (filter (λ m. not (eqb m other)) ns) stays)) (suc rest.0, omega (arith, rest.1), rest.2)
      | inr goes ↦ subst (λ (l : List ℕ). Contains l name) (sym (cond-false (not (eqb n other)) (n ∷ filter (λ m. not (eqb m other)) ns) (filter (λ m. not (eqb m other)) ns) goes)) rest
    ]
