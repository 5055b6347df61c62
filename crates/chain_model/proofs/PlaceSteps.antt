-- Where a slot stands in a recorded chain: lemmas.
use Rattle.std.proofs.Common.{◌≡◌, ◌≢◌, inl, inr, ℕ, zero, suc, ◌+◌, ◌==◌, Bool, true, false, cond, nat_lt, not, ◌&&◌, is_some, Option, None, Some, List, [], ◌∷◌, ◌++◌, length, map, option_map, position, refl, sym, ◌∙◌, ap, subst, arith}
use Rattle.std.specs.Prelude.{All}
use Rattle.std.specs.List.{Contains, position_or_len}
use Rattle.std.proofs.lemmas.Bool.{cases_eq, cases_lt, cond-false, cond-true, eq-eqb, le-ltb, lt-ltb, ne_eqb, true≢false}
use Rattle.std.proofs.lemmas.List.{append_assoc}
use Rattle.std.proofs.lemmas.List.Elements.{All-head, Contains-append_right}
use Rattle.configurations.specs.Record.{Record}
use Rattle.configurations.specs.declared.member.Member.{Member}
use Rattle.chain_steps.specs.Place.{head_of, incarnation_in, is_first, is_head, is_tail, member_at, predecessor_of, slot_at, slot_before, slot_behind, successor_of}
use Rattle.chain_model.specs.Links.{first_of, is_end}
use Rattle.chain_model.specs.Placed.{Apart, above_in, below_in}
use Rattle.chain_model.proofs.PlacedSteps.{above_absent, above_at, all_at, further, here}
use Rattle.chain_model.specs.View.{chain_of}

abbrev slots : List Member → List ℕ
slots ms = map (λ m. m.slot) ms

-- the place of a slot, counted from the first one
abbrev pub place_of : List Member → ℕ → Option ℕ
place_of ms s = position (λ m. m.slot == s) ms

abbrev with_members : ℕ → List Member → Record
with_members e ms = record { epoch = e; members = ms }

-- ---- the place of a slot, one member further

abbrev placed_by : Bool → ℕ → ℕ → Option ℕ
placed_by b k n = cond (nat_lt (cond (not b) (1 + k) 0) (suc n)) (Some (cond (not b) (1 + k) 0)) None

placed_further : (k n : ℕ) → placed_by false k n ≡ option_map suc (cond (nat_lt k n) (Some k) None)
placed_further k n = elim (cases_lt k n) [
  | inl lt ↦ cond-true (nat_lt (1 + k) (suc n)) (Some (1 + k)) None (lt-ltb (1 + k) (suc n) (omega arith)) ∙ ap Some (omega arith)
      ∙ sym (ap (option_map suc) (cond-true (nat_lt k n) (Some k) None (lt-ltb k n lt)))
  | inr ge ↦ cond-false (nat_lt (1 + k) (suc n)) (Some (1 + k)) None (le-ltb (1 + k) (suc n) (omega arith)) ∙ sym (ap (option_map suc) (cond-false (nat_lt k n) (Some k) None (le-ltb k n ge)))
]

-- the first of a list, and one behind it
pub place_here : (x : Member) (xs : List Member) (s : ℕ) → x.slot ≡ s → place_of (x ∷ xs) s ≡ Some 0
place_here x xs s is = ap (λ b. placed_by b (position_or_len (λ (m : Member). m.slot == s) xs) (length xs)) (eq-eqb x.slot s is)
    ∙ cond-true (nat_lt 0 (suc (length xs))) (Some 0) None (lt-ltb 0 (suc (length xs)) (omega arith))

pub place_further : (x : Member) (xs : List Member) (s : ℕ) → x.slot ≢ s → place_of (x ∷ xs) s ≡ option_map suc (place_of xs s)
place_further x xs s apart =
    ap (λ b. placed_by b (position_or_len (λ (m : Member). m.slot == s) xs) (length xs)) (ne_eqb x.slot s apart) ∙ placed_further (position_or_len (λ (m : Member). m.slot == s) xs) (length xs)

-- ---- neighbours

below_here : (z y x : ℕ) (c : List ℕ) → z ≡ x → below_in (z ∷ y ∷ c) x ≡ Some y
below_here z y x c is = cond-true (z == x) (Some y) (below_in (y ∷ c) x) (eq-eqb z x is)

below_further : (z y x : ℕ) (c : List ℕ) → z ≢ x → below_in (z ∷ y ∷ c) x ≡ below_in (y ∷ c) x
below_further z y x c apart = cond-false (z == x) (Some y) (below_in (y ∷ c) x) (ne_eqb z x apart)

before_shift : (e : ℕ) (x z : Member) (c : List Member) (o : Option ℕ) → slot_before (with_members e (x ∷ z ∷ c)) (option_map suc (option_map suc o)) ≡ slot_before (with_members e (z ∷ c)) (option_map suc o)
before_shift e x z c None = refl
before_shift e x z c (Some k) = refl

behind_shift : (e : ℕ) (z y : Member) (c : List Member) (o : Option ℕ) → slot_behind (with_members e (z ∷ y ∷ c)) (option_map suc o) ≡ slot_behind (with_members e (y ∷ c)) o
behind_shift e z y c None = refl
behind_shift e z y c (Some k) = let next : suc k + 1 ≡ suc (k + 1) = omega arith in ap (slot_at (with_members e (z ∷ y ∷ c))) next

before_is : (e : ℕ) (ms : List Member) (s : ℕ) → Apart (slots ms) → slot_before (with_members e ms) (place_of ms s) ≡ above_in (slots ms) s
before_is e [] s apart = refl
before_is e (x ∷ []) s apart = elim (cases_eq x.slot s) [
  | inl is ↦ ap (slot_before (with_members e (x ∷ []))) (place_here x [] s is)
  | inr other ↦ ap (slot_before (with_members e (x ∷ []))) (place_further x [] s other)
]
before_is e (x ∷ z ∷ c) s (others, apart) = elim (cases_eq x.slot s) [
  | inl is ↦ ap (slot_before (with_members e (x ∷ z ∷ c))) (place_here x (z ∷ c) s is)
      ∙ sym (above_absent x.slot s (slots (z ∷ c)) (subst (λ (k : ℕ). All (λ y. y ≢ k) (slots (z ∷ c))) is others))
  | inr other ↦ ap (slot_before (with_members e (x ∷ z ∷ c))) (place_further x (z ∷ c) s other) ∙ elim (cases_eq z.slot s) [
    | inl is ↦ ap (λ (o : Option ℕ). slot_before (with_members e (x ∷ z ∷ c)) (option_map suc o)) (place_here z c s is) ∙ sym (here x.slot z.slot s (slots c) is)
    | inr no_z ↦ ap (λ (o : Option ℕ). slot_before (with_members e (x ∷ z ∷ c)) (option_map suc o)) (place_further z c s no_z) ∙ before_shift e x z c (place_of c s)
        ∙ sym (ap (slot_before (with_members e (z ∷ c))) (place_further z c s no_z)) ∙ before_is e (z ∷ c) s apart ∙ sym (further x.slot z.slot s (slots c) no_z)
  ]
]

behind_is : (e : ℕ) (ms : List Member) (s : ℕ) → slot_behind (with_members e ms) (place_of ms s) ≡ below_in (slots ms) s
behind_is e [] s = refl
behind_is e (x ∷ []) s = elim (cases_eq x.slot s) [
  | inl is ↦ ap (slot_behind (with_members e (x ∷ []))) (place_here x [] s is)
  | inr other ↦ ap (slot_behind (with_members e (x ∷ []))) (place_further x [] s other)
]
behind_is e (z ∷ y ∷ c) s = elim (cases_eq z.slot s) [
  | inl is ↦ ap (slot_behind (with_members e (z ∷ y ∷ c))) (place_here z (y ∷ c) s is) ∙ sym (below_here z.slot y.slot s (slots c) is)
  | inr other ↦ ap (slot_behind (with_members e (z ∷ y ∷ c))) (place_further z (y ∷ c) s other) ∙ behind_shift e z y c (place_of (y ∷ c) s) ∙ behind_is e (y ∷ c) s
      ∙ sym (below_further z.slot y.slot s (slots c) other)
]

-- who comes before a slot is the one above it
pub predecessor_is : (r : Record) (slot : ℕ) → Apart (chain_of r) → predecessor_of (record { slot = slot; chain = r }) ≡ above_in (chain_of r) slot
predecessor_is r slot apart = before_is r.epoch r.members slot apart

-- who comes behind it is the one below it
pub successor_is : (r : Record) (slot : ℕ) → Apart (chain_of r) → successor_of (record { slot = slot; chain = r }) ≡ below_in (chain_of r) slot
successor_is r slot apart = behind_is r.epoch r.members slot

-- ---- who is in the chain

none_first : (o : Option ℕ) → is_first (option_map suc o) ≡ false
none_first None = refl
none_first (Some at) = ne_eqb (suc at) 0 (λ is. absurd (omega arith))

pub some_next : (o : Option ℕ) → is_some (option_map suc o) ≡ is_some o
some_next None = refl
some_next (Some at) = refl

from_next : (o : Option ℕ) (at : ℕ) → option_map suc o ≡ Some at → (k : ℕ) × (o ≡ Some k)
from_next None at is = absurd cc
from_next (Some k) at is = (k, refl)

pub contains_first : (x : ℕ) (xs : List ℕ) (s : ℕ) → x ≡ s → Contains (x ∷ xs) s
contains_first x xs s is = (0, omega arith, is)

contains_next : (x : ℕ) (xs : List ℕ) (s : ℕ) → Contains xs s → Contains (x ∷ xs) s
contains_next x xs s (k, lt, is) = (suc k, omega arith, is)

contains_other : (x : ℕ) (xs : List ℕ) (s : ℕ) → x ≢ s → Contains (x ∷ xs) s → Contains xs s
contains_other x xs s other (zero, lt, is) = absurd (other is)
contains_other x xs s other (suc k, lt, is) = (k, omega arith, is)

placed_there : (ms : List Member) (s at : ℕ) → place_of ms s ≡ Some at → Contains (slots ms) s
placed_there [] s at is = absurd cc
placed_there (x ∷ xs) s at is = elim (cases_eq x.slot s) [
  | inl same ↦ contains_first x.slot (slots xs) s same
  | inr other ↦ let (k, below) = from_next (place_of xs s) at (sym (place_further x xs s other) ∙ is) in contains_next x.slot (slots xs) s (placed_there xs s k below)
]

pub is_placed : (ms : List Member) (s : ℕ) → Contains (slots ms) s → is_some (place_of ms s) ≡ true
is_placed [] s (k, lt, is) = absurd (omega arith)
is_placed (x ∷ xs) s there = elim (cases_eq x.slot s) [
  | inl same ↦ ap is_some (place_here x xs s same)
  | inr other ↦ ap is_some (place_further x xs s other) ∙ some_next (place_of xs s) ∙ is_placed xs s (contains_other x.slot (slots xs) s other there)
]

has_place : (r : Record) (o : Option ℕ) (incarnation : ℕ) → option_map (λ (m : Member). m.incarnation) (member_at r o) ≡ Some incarnation → (at : ℕ) × (o ≡ Some at)
has_place r None incarnation is = absurd cc
has_place r (Some at) incarnation is = (at, refl)

-- a slot with an incarnation is among those of the chain
pub is_among : (r : Record) (slot incarnation : ℕ) → incarnation_in r slot ≡ Some incarnation → Contains (chain_of r) slot
is_among r slot incarnation is = let (at, placed) = has_place r (place_of r.members slot) incarnation is in placed_there r.members slot at placed

-- what is in a list stands between others
pub split_at : (xs : List ℕ) (s : ℕ) → Contains xs s → (us vs : List ℕ) × (xs ≡ us ++ s ∷ vs)
split_at [] s (k, lt, is) = absurd (omega arith)
split_at (x ∷ xs) s (zero, lt, is) = ([], xs, ap (λ (k : ℕ). k ∷ xs) is)
split_at (x ∷ xs) s (suc k, lt, is) = let (us, vs, same) = split_at xs s (k, omega arith, is) in (x ∷ us, vs, ap (λ (l : List ℕ). x ∷ l) same)

-- ---- a slot between others

below_at : (pre ys : List ℕ) (y : ℕ) → Apart (pre ++ y ∷ ys) → below_in (pre ++ y ∷ ys) y ≡ first_of ys
below_at [] [] y apart = refl
below_at [] (z ∷ ys) y apart = below_here y z y ys refl
below_at (x ∷ []) ys y (others, apart) = below_further x y y ys (λ is. All-head (λ k. k ≢ x) y ys others (sym is)) ∙ below_at [] ys y apart
below_at (x ∷ z ∷ pre) ys y (others, apart) = below_further x z y (pre ++ y ∷ ys) (λ is. all_at (λ k. k ≢ x) (z ∷ pre) ys y others (sym is)) ∙ below_at (z ∷ pre) ys y apart

end_is : (vs : List ℕ) → not (is_some (first_of vs)) ≡ is_end vs
end_is [] = refl
end_is (v ∷ vs) = refl

pub tail_is : (r : Record) (us : List ℕ) (s : ℕ) (vs : List ℕ) → Apart (chain_of r) → chain_of r ≡ us ++ s ∷ vs
    → (successor_of (record { slot = s; chain = r }) ≡ first_of vs) × (is_tail (record { slot = s; chain = r }) ≡ is_end vs)
tail_is r us s vs apart chain =
    let there : Contains (chain_of r) s = subst (λ (c : List ℕ). Contains c s) (sym chain) (Contains-append_right us (s ∷ vs) s (contains_first s vs s refl)) in
    let behind : successor_of (record { slot = s; chain = r }) ≡ first_of vs =
    successor_is r s apart ∙ ap (λ (c : List ℕ). below_in c s) chain ∙ below_at us vs s (subst Apart chain apart) in (
      behind,
      ap (λ (b : Bool). b && not (is_some (successor_of (record { slot = s; chain = r })))) (is_placed r.members s there) ∙ ap (λ (o : Option ℕ). not (is_some o)) behind ∙ end_is vs,
    )

-- a slot behind another one of the chain
pub placed_behind : (r : Record) (us : List ℕ) (p s : ℕ) (vs : List ℕ) → Apart (chain_of r) → chain_of r ≡ us ++ p ∷ s ∷ vs
    → (predecessor_of (record { slot = s; chain = r }) ≡ Some p) × (successor_of (record { slot = s; chain = r }) ≡ first_of vs) × (is_tail (record { slot = s; chain = r }) ≡ is_end vs)
placed_behind r us p s vs apart chain = let (behind, tail) = tail_is r (us ++ p ∷ []) s vs apart (chain ∙ sym (append_assoc us (p ∷ []) (s ∷ vs))) in (
  predecessor_is r s apart ∙ ap (λ (c : List ℕ). above_in c s) chain ∙ above_at us vs p s (subst Apart chain apart),
  behind,
  tail,
)

-- the first slot of the chain
pub placed_first : (r : Record) (s : ℕ) (vs : List ℕ) → Apart (chain_of r) → chain_of r ≡ s ∷ vs
    → (predecessor_of (record { slot = s; chain = r }) ≡ None) × (successor_of (record { slot = s; chain = r }) ≡ first_of vs) × (is_tail (record { slot = s; chain = r }) ≡ is_end vs)
placed_first r s vs apart chain =
    let (behind, tail) = tail_is r [] s vs apart chain in (predecessor_is r s apart ∙ ap (λ (c : List ℕ). above_in c s) chain ∙ above_absent s s vs (subst Apart chain apart).0, behind, tail)

-- ---- the head

first_is : (e : ℕ) (ms : List Member) (s : ℕ) → is_first (place_of ms s) ≡ true → head_of (with_members e ms) ≡ Some s
first_is e [] s is = absurd cc
first_is e (x ∷ xs) s is = elim (cases_eq x.slot s) [
  | inl same ↦ ap Some same
  | inr other ↦ absurd (true≢false (sym is ∙ ap is_first (place_further x xs s other) ∙ none_first (place_of xs s)))
]

-- the slot of the head is the first one
pub is_head_first : (r : Record) (s : ℕ) → is_head (record { slot = s; chain = r }) ≡ true → head_of r ≡ Some s
is_head_first r s is = first_is r.epoch r.members s is

same_slot : (one other : ℕ) → Some one ≡ Some other → one ≡ other
same_slot one other is = cc

first_splits : (e : ℕ) (ms : List Member) (s : ℕ) → head_of (with_members e ms) ≡ Some s → (vs : List ℕ) × (slots ms ≡ s ∷ vs)
first_splits e [] s is = absurd cc
first_splits e (x ∷ xs) s is = (slots xs, ap (λ (k : ℕ). k ∷ slots xs) (same_slot x.slot s is))

-- and the chain begins with it
pub head_first : (r : Record) (s : ℕ) → head_of r ≡ Some s → (vs : List ℕ) × (chain_of r ≡ s ∷ vs)
head_first r s is = first_splits r.epoch r.members s is

first_stands : (e : ℕ) (ms : List Member) (s : ℕ) → head_of (with_members e ms) ≡ Some s → is_first (place_of ms s) ≡ true
first_stands e [] s is = absurd cc
first_stands e (x ∷ xs) s is = ap is_first (place_here x xs s (same_slot x.slot s is))

-- the first one is the head
pub head_is_head : (r : Record) (s : ℕ) → head_of r ≡ Some s → is_head (record { slot = s; chain = r }) ≡ true
head_is_head r s is = first_stands r.epoch r.members s is
