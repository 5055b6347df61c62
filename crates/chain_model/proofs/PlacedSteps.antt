-- Neighbours in a chain, and in the next one: lemmas.
use Rattle.std.proofs.Common.{◌≡◌, ◌≢◌, ◌⊎◌, inl, inr, ℕ, suc, ◌≤◌, ◌==◌, Option, None, Some, List, [], ◌∷◌, ◌++◌, refl, sym, ◌∙◌, ap, subst, arith}
use Rattle.std.specs.Prelude.{All}
use Rattle.std.specs.List.{Contains}
use Rattle.std.proofs.lemmas.Bool.{cases_eq, cond-false, cond-true, eq-eqb, ne_eqb}
use Rattle.std.proofs.lemmas.List.{append_assoc}
use Rattle.std.proofs.lemmas.List.Elements.{All-cons, All-contains, All-contains_itself, All-head, All-nil, All-tail, All-weaker}
use Rattle.std.proofs.lemmas.Option.{same_Some}
use Rattle.chain_model.specs.Links.{AllSuit, Net, Suits}
use Rattle.chain_model.specs.Placed.{Apart, Close, IsPlaced, PlacesSuit, RecordsAreClose, above_in, below_in}

-- ---- the one above

-- the one above the second of a list, and above one that isn't the second
pub here : (x z y : ℕ) (c : List ℕ) → z ≡ y → above_in (x ∷ z ∷ c) y ≡ Some x
here x z y c is = cond-true (z == y) (Some x) (above_in (z ∷ c) y) (eq-eqb z y is)

pub further : (x z y : ℕ) (c : List ℕ) → (z ≡ y → ⊥) → above_in (x ∷ z ∷ c) y ≡ above_in (z ∷ c) y
further x z y c apart = cond-false (z == y) (Some x) (above_in (z ∷ c) y) (ne_eqb z y apart)

-- none is above one that isn't in the list
pub above_absent : (x y : ℕ) (c : List ℕ) → All (λ z. z ≢ y) c → above_in (x ∷ c) y ≡ None
above_absent x y [] others = refl
above_absent x y (z ∷ c) others = further x z y c (All-head (λ z. z ≢ y) z c others) ∙ above_absent z y c (All-tail (λ z. z ≢ y) z c others)

-- what holds of all holds of one among them
pub all_at : (P : ℕ → Type 0) (pre ys : List ℕ) (y : ℕ) → All P (pre ++ y ∷ ys) → P y
all_at P [] ys y all = All-head P y ys all
all_at P (x ∷ pre) ys y all = all_at P pre ys y (All-tail P x (pre ++ y ∷ ys) all)

-- above one stands the one that is before it in the list
pub above_at : (pre ys : List ℕ) (p y : ℕ) → Apart (pre ++ p ∷ y ∷ ys) → above_in (pre ++ p ∷ y ∷ ys) y ≡ Some p
above_at [] ys p y apart = here p y y ys refl
above_at (x ∷ []) ys p y (others, (below, apart)) = further x p y (y ∷ ys) (λ is. All-head (λ z. z ≢ p) y ys below (sym is)) ∙ here p y y ys refl
above_at (x ∷ z ∷ pre) ys p y (others, (below, apart)) =
    further x z y (pre ++ p ∷ y ∷ ys) (λ is. all_at (λ k. k ≢ z) (pre ++ p ∷ []) ys y (subst (All (λ k. k ≢ z)) (sym (append_assoc pre (p ∷ []) (y ∷ ys))) below) (sym is)) ∙ above_at (z ∷ pre) ys p y (below, apart)

-- each has the one before it in the list above it
abbrev Prevs : List ℕ → Option ℕ → List ℕ → Type 0
Prevs c prev [] = Unit {0}
Prevs c prev (y ∷ ys) = (above_in c y ≡ prev) × Prevs c (Some y) ys

prevs_from : (pre ys : List ℕ) (p : ℕ) → Apart (pre ++ p ∷ ys) → Prevs (pre ++ p ∷ ys) (Some p) ys
prevs_from pre [] p apart = tt
prevs_from pre (y ∷ ys) p apart =
    let same : (pre ++ p ∷ []) ++ y ∷ ys ≡ pre ++ p ∷ y ∷ ys = append_assoc pre (p ∷ []) (y ∷ ys) in
    (above_at pre ys p y apart, subst (λ (l : List ℕ). Prevs l (Some y) ys) same (prevs_from (pre ++ p ∷ []) ys y (subst Apart (sym same) apart)))

prevs : (c : List ℕ) → Apart c → Prevs c None c
prevs [] apart = tt
prevs (y ∷ ys) (others, apart) = (above_absent y y ys others, prevs_from [] ys y (others, apart))

above_among : (P : ℕ → Type 0) (c : List ℕ) (y s : ℕ) → All P c → above_in c y ≡ Some s → P s
above_among P [] y s all is = absurd cc
above_among P (x ∷ []) y s all is = absurd cc
above_among P (x ∷ z ∷ c) y s all is = elim (cases_eq z y) [
  | inl found ↦ subst P (same_Some x s (sym (here x z y c found) ∙ is)) (All-head P x (z ∷ c) all)
  | inr apart ↦ above_among P (z ∷ c) y s (All-tail P x (z ∷ c) all) (sym (further x z y c apart) ∙ is)
]

-- who is above whom is below whom
agree_in : (c : List ℕ) (y s : ℕ) → Apart c → above_in c y ≡ Some s → below_in c s ≡ Some y
agree_in [] y s apart is = absurd cc
agree_in (x ∷ []) y s apart is = absurd cc
agree_in (x ∷ z ∷ c) y s (others, apart) is = elim (cases_eq z y) [
  | inl found ↦ cond-true (x == s) (Some z) (below_in (z ∷ c) s) (eq-eqb x s (same_Some x s (sym (here x z y c found) ∙ is))) ∙ ap Some found
  | inr no_z ↦
      let rest : above_in (z ∷ c) y ≡ Some s = sym (further x z y c no_z) ∙ is in
      cond-false (x == s) (Some z) (below_in (z ∷ c) s) (ne_eqb x s (λ same. above_among (λ k. k ≢ x) (z ∷ c) y s others rest (sym same))) ∙ agree_in (z ∷ c) y s apart rest
]

-- ---- the next chain

left : (m y t : ℕ) (ys : List ℕ) → m ≢ t → above_in (m ∷ ys) y ≡ Some t → above_in ys y ≡ Some t
left m y t [] apart is = absurd cc
left m y t (z ∷ zs) apart is = elim (cases_eq z y) [ inl found ↦ absurd (apart (same_Some m t (sym (here m z y zs found) ∙ is))) | inr no_z ↦ sym (further m z y zs no_z) ∙ is ]

close_without : (xs ys : List ℕ) (m y t : ℕ) → Apart (xs ++ m ∷ ys) → m ≢ y → m ≢ t → above_in (xs ++ m ∷ ys) y ≡ Some t → above_in (xs ++ ys) y ≡ Some t
close_without [] ys m y t apart no_y no_t is = left m y t ys no_t is
close_without (x ∷ []) [] m y t apart no_y no_t is = absurd (let step = left m y t [] no_t (sym (further x m y [] no_y) ∙ is) in cc)
close_without (x ∷ []) (z ∷ zs) m y t (others, (below, (after, apart))) no_y no_t is =
    let rest : above_in (z ∷ zs) y ≡ Some t = left m y t (z ∷ zs) no_t (sym (further x m y (z ∷ zs) no_y) ∙ is) in
    further x z y zs (λ found. absurd (let none = above_absent z z zs after in let again : above_in (z ∷ zs) z ≡ Some t = subst (λ k. above_in (z ∷ zs) k ≡ Some t) (sym found) rest in cc)) ∙ rest
close_without (x ∷ w ∷ xs) ys m y t (others, apart) no_y no_t is = elim (cases_eq w y) [
  | inl found ↦ here x w y (xs ++ ys) found ∙ sym (here x w y (xs ++ m ∷ ys) found) ∙ is
  | inr no_w ↦ further x w y (xs ++ ys) no_w ∙ close_without (w ∷ xs) ys m y t apart no_y no_t (sym (further x w y (xs ++ m ∷ ys) no_w) ∙ is)
]

close_joined : (xs : List ℕ) (j y t : ℕ) → above_in xs y ≡ Some t → above_in (xs ++ j ∷ []) y ≡ Some t
close_joined [] j y t is = absurd cc
close_joined (x ∷ []) j y t is = absurd cc
close_joined (x ∷ w ∷ xs) j y t is = elim (cases_eq w y) [
  | inl found ↦ here x w y (xs ++ j ∷ []) found ∙ sym (here x w y xs found) ∙ is
  | inr no_w ↦ further x w y (xs ++ j ∷ []) no_w ∙ close_joined (w ∷ xs) j y t (sym (further x w y xs no_w) ∙ is)
]

not_in : (xs ys : List ℕ) (m : ℕ) → Apart (xs ++ m ∷ ys) → All (λ k. m ≢ k) (xs ++ ys)
not_in [] ys m (others, apart) = All-weaker (λ k. k ≢ m) (λ k. m ≢ k) (λ k other. λ is. other (sym is)) ys others
not_in (x ∷ xs) ys m (others, apart) = All-cons (λ k. m ≢ k) x (xs ++ ys) (all_at (λ k. k ≢ x) xs ys m others) (not_in xs ys m apart)

pub records_are_close : RecordsAreClose
records_are_close xs ys m = (
  λ apart y t in_y in_t is. close_without xs ys m y t apart (All-contains (λ k. m ≢ k) (xs ++ ys) y (not_in xs ys m apart) in_y) (All-contains (λ k. m ≢ k) (xs ++ ys) t (not_in xs ys m apart) in_t) is,
  λ y t in_y in_t is. close_joined xs m y t is,
)

-- ---- each suits the member that acts

module _ (w : Net) (old : List ℕ) (s : ℕ) (apart : Apart w.chain) (apart_old : Apart old) (close : Close old w.chain) (placed : All (IsPlaced w old) w.chain) (in_s : Contains w.chain s)
    (within : (w.nodes s).epoch ≤ w.epoch) (near : w.epoch ≤ suc (w.nodes s).epoch) where
  told : ((w.nodes s).epoch ≡ w.epoch) ⊎ (suc (w.nodes s).epoch ≡ w.epoch)
  told = elim (cases_eq (w.nodes s).epoch w.epoch) [ inl now ↦ inl now | inr not_now ↦ inr (omega arith) ]

  me : IsPlaced w old s
  me = All-contains (IsPlaced w old) w.chain s placed in_s

  suits : (prev : Option ℕ) (y : ℕ) → Contains w.chain y → above_in w.chain y ≡ prev → Suits w s prev y
  suits prev y in_y above_is =
      let it : IsPlaced w old y = All-contains (IsPlaced w old) w.chain y placed in_y in
      record {
        above = λ now. (it.now now).0 ∙ above_is;
        below = λ now is. (me.now now).1 ∙ agree_in w.chain y s apart (above_is ∙ is);
        agree = λ same above. elim told [
          | inl now ↦ (me.now now).1 ∙ agree_in w.chain y s apart (sym (it.now (same ∙ now)).0 ∙ above)
          | inr before ↦ (me.before before).1 ∙ agree_in old y s apart_old (sym (it.before (ap suc same ∙ before)).0 ∙ above)
        ];
        close = λ same above. sym above_is ∙ elim told [
          | inl now ↦ sym (it.now (same ∙ now)).0 ∙ above
          | inr before ↦ close y s in_y in_s (sym (it.before (ap suc same ∙ before)).0 ∙ above)
        ];
      }

  all_suit : (prev : Option ℕ) (ys : List ℕ) → All (Contains w.chain) ys → All (λ y. y ≢ s) ys → Prevs w.chain prev ys → AllSuit w s prev ys
  all_suit prev [] all others prevs = tt
  all_suit prev (y ∷ ys) all others (is, prevs) =
      (All-head (λ y. y ≢ s) y ys others, suits prev y (All-head (Contains w.chain) y ys all) is, all_suit (Some y) ys (All-tail (Contains w.chain) y ys all) (All-tail (λ y. y ≢ s) y ys others) prevs)

split_all : (P : ℕ → Type 0) (us vs : List ℕ) (s : ℕ) → All P (us ++ s ∷ vs) → All P us × P s × All P vs
split_all P [] vs s all = (All-nil P, All-head P s vs all, All-tail P s vs all)
split_all P (u ∷ us) vs s all =
    let (before, here, after) = split_all P us vs s (All-tail P u (us ++ s ∷ vs) all) in (All-cons P u us (All-head P u (us ++ s ∷ vs) all) before, here, after)

split_prevs : (c us vs : List ℕ) (s : ℕ) (prev : Option ℕ) → Prevs c prev (us ++ s ∷ vs) → Prevs c prev us × Prevs c (Some s) vs
split_prevs c [] vs s prev (is, prevs) = (tt, prevs)
split_prevs c (u ∷ us) vs s prev (is, prevs) = let (before, after) = split_prevs c us vs s (Some u) prevs in ((is, before), after)

split_apart : (us vs : List ℕ) (s : ℕ) → Apart (us ++ s ∷ vs) → All (λ y. y ≢ s) us × All (λ y. y ≢ s) vs
split_apart [] vs s (others, apart) = (All-nil (λ y. y ≢ s), others)
split_apart (u ∷ us) vs s (others, apart) =
    let (before, after) = split_apart us vs s apart in (All-cons (λ y. y ≢ s) u us (λ is. all_at (λ k. k ≢ u) us vs s others (sym is)) before, after)

pub places_suit : PlacesSuit
places_suit w us vs old s chain apart apart_old close placed within near =
    let (in_us, in_s, in_vs) = split_all (Contains w.chain) us vs s (subst (All (Contains w.chain)) chain (All-contains_itself w.chain)) in
    let (prevs_us, prevs_vs) = split_prevs w.chain us vs s None (subst (Prevs w.chain None) chain (prevs w.chain apart)) in
    let (not_us, not_vs) = split_apart us vs s (subst Apart chain apart) in (
      all_suit w old s apart apart_old close placed in_s within near None us in_us not_us prevs_us,
      all_suit w old s apart apart_old close placed in_s within near (Some s) vs in_vs not_vs prevs_vs,
    )
