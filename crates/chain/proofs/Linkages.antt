-- The links of a chain, when one of them becomes another.
use Rattle.std.proofs.Common.{◌≡◌, ◌≢◌, ℕ, zero, suc, ◌+◌, ◌*◌, ◌<◌, ◌==◌, nat_lt, List, [], ◌∷◌, ◌++◌, length, map, refl, sym, ◌∙◌, ap, subst, inl, inr, arith}
use Rattle.std.specs.Prelude.{All, Option, Some, None, slice_index_or, slice_set}
use Rattle.std.proofs.lemmas.Bool.{cases_eq, cases_lt, cond-false, cond-true, eq-eqb, le-ltb, lt-ltb, ne_eqb}
use Rattle.std.proofs.lemmas.List.{append-nil}
use Rattle.std.specs.Option.{unwrap_or}
use Rattle.std.proofs.lemmas.List.Elements.{All-head, All-nil, All-tail}
use Rattle.std.proofs.lemmas.Option.{same_Some}
use Rattle.chain_steps.specs.declared.message.Envelope.{Envelope}
use Rattle.chain_steps.specs.declared.message.Sent.{Sent}
use Rattle.chain_model.specs.Laws.{HasSent, HasTaken, sent_to}
use Rattle.chain.specs.Links.{link_at}

-- ---- lists, at places

get_set : {A : Type 0} (xs : List A) (i : ℕ) (x d : A) → i < length xs → slice_index_or (slice_set xs i x) i d ≡ x
get_set [] i x d lt = absurd (omega arith)
get_set (y ∷ ys) zero x d lt = refl
get_set (y ∷ ys) (suc i) x d lt = get_set ys i x d (omega arith)

get_other : {A : Type 0} (xs : List A) (i j : ℕ) (x d : A) → i ≢ j → slice_index_or (slice_set xs i x) j d ≡ slice_index_or xs j d
get_other [] i j x d apart = refl
get_other (y ∷ ys) zero zero x d apart = absurd (apart refl)
get_other (y ∷ ys) zero (suc j) x d apart = refl
get_other (y ∷ ys) (suc i) zero x d apart = refl
get_other (y ∷ ys) (suc i) (suc j) x d apart = get_other ys i j x d (λ same. apart (ap suc same))

pub set_again : {A : Type 0} (xs : List A) (i : ℕ) (x y : A) → slice_set (slice_set xs i x) i y ≡ slice_set xs i y
set_again [] i x y = refl
set_again (z ∷ zs) zero x y = refl
set_again (z ∷ zs) (suc i) x y = ap (λ l. z ∷ l) (set_again zs i x y)

set_apart : {A : Type 0} (xs : List A) (i j : ℕ) (x y : A) → i ≢ j → slice_set (slice_set xs i x) j y ≡ slice_set (slice_set xs j y) i x
set_apart [] i j x y apart = refl
set_apart (z ∷ zs) zero zero x y apart = absurd (apart refl)
set_apart (z ∷ zs) zero (suc j) x y apart = refl
set_apart (z ∷ zs) (suc i) zero x y apart = refl
set_apart (z ∷ zs) (suc i) (suc j) x y apart = ap (λ l. z ∷ l) (set_apart zs i j x y (λ same. apart (ap suc same)))

set_same : {A : Type 0} (xs : List A) (i : ℕ) (d : A) → slice_set xs i (slice_index_or xs i d) ≡ xs
set_same [] i d = refl
set_same (z ∷ zs) zero d = refl
set_same (z ∷ zs) (suc i) d = ap (λ l. z ∷ l) (set_same zs i d)

-- ---- links, at slots

-- a link of two slots stands at its place
pub at_place : (links : List (List Envelope)) (from to : ℕ) → to < 8 → link_at links from to ≡ slice_index_or links (8 * from + to) []
at_place links from to lt = cond-true (nat_lt to 8) (slice_index_or links (8 * from + to) []) [] (lt-ltb to 8 lt)

places_apart : (from to one other : ℕ) → to < 8 → other < 8 → (one ≡ from → other ≢ to) → 8 * from + to ≢ 8 * one + other
places_apart from to one other lt lt_other apart same =
    let first : one ≡ from = omega arith in
    apart first (omega arith)

module _ (links : List (List Envelope)) (from to : ℕ) (queue : List Envelope) (from_lt : from < 8) (to_lt : to < 8) where
  pub link_set : length links ≡ 64 → link_at (slice_set links (8 * from + to) queue) from to ≡ queue
  link_set long = at_place (slice_set links (8 * from + to) queue) from to to_lt ∙ get_set links (8 * from + to) queue [] (omega (arith, long))

  pub link_other : (one other : ℕ) → (one ≡ from → other ≢ to) → link_at (slice_set links (8 * from + to) queue) one other ≡ link_at links one other
  link_other one other apart = elim (cases_lt other 8) [
    | inl lt ↦ at_place (slice_set links (8 * from + to) queue) one other lt ∙ get_other links (8 * from + to) (8 * one + other) queue [] (places_apart from to one other to_lt lt apart) ∙ sym (at_place links one other lt)
    | inr ge ↦ cond-false (nat_lt other 8) (slice_index_or (slice_set links (8 * from + to) queue) (8 * one + other) []) [] (le-ltb other 8 ge)
        ∙ sym (cond-false (nat_lt other 8) (slice_index_or links (8 * one + other) []) [] (le-ltb other 8 ge))
  ]

pub one_back : (links : List (List Envelope)) (from to : ℕ) (queue : List Envelope) → from < 8 → to < 8 → queue ≡ link_at links from to → slice_set links (8 * from + to) queue ≡ links
one_back links from to queue from_lt to_lt same = ap (slice_set links (8 * from + to)) (same ∙ at_place links from to to_lt) ∙ set_same links (8 * from + to) []

pub set_long : {A : Type 0} (xs : List A) (i : ℕ) (x : A) → length (slice_set xs i x) ≡ length xs
set_long [] i x = refl
set_long (y ∷ ys) zero x = refl
set_long (y ∷ ys) (suc i) x = ap suc (set_long ys i x)

-- ---- two links lent, and put back

module _ (links : List (List Envelope)) (from slot to : ℕ) (from_lt : from < 8) (slot_lt : slot < 8) (to_lt : to < 8) (apart : from ≢ slot) where
  abbrev one : ℕ
  one = 8 * from + slot

  abbrev other : ℕ
  other = 8 * slot + to

  two_places : 8 * from + slot ≢ 8 * slot + to
  two_places = places_apart from slot slot to slot_lt to_lt (λ same. absurd (apart (sym same)))

  -- all four exchanges leave what the last two put there
  pub four : (x y : List Envelope) (b a : List Envelope) → slice_set (slice_set (slice_set (slice_set links (8 * from + slot) x) (8 * slot + to) y) (8 * slot + to) b) (8 * from + slot) a
      ≡ slice_set (slice_set links (8 * from + slot) a) (8 * slot + to) b
  four x y b a =
      ap (λ l. slice_set l (8 * from + slot) a) (set_again (slice_set links (8 * from + slot) x) (8 * slot + to) y b)
      ∙ ap (λ l. slice_set l (8 * from + slot) a) (set_apart links (8 * from + slot) (8 * slot + to) x b two_places)
      ∙ set_again (slice_set links (8 * slot + to) b) (8 * from + slot) x a
      ∙ sym (set_apart links (8 * from + slot) (8 * slot + to) a b two_places)

  pub second_was : (x : List Envelope) → link_at (slice_set links (8 * from + slot) x) slot to ≡ link_at links slot to
  second_was x = link_other links from slot x from_lt slot_lt slot to (λ same. absurd (apart (sym same)))

  pub both_back : (a b : List Envelope) → a ≡ link_at links from slot → b ≡ link_at links slot to → slice_set (slice_set links (8 * from + slot) a) (8 * slot + to) b ≡ links
  both_back a b first second =
      ap (λ l. slice_set l (8 * slot + to) b) (ap (slice_set links (8 * from + slot)) (first ∙ at_place links from slot slot_lt) ∙ set_same links (8 * from + slot) [])
      ∙ ap (slice_set links (8 * slot + to)) (second ∙ at_place links slot to to_lt) ∙ set_same links (8 * slot + to) []

-- ---- what is sent

-- all for one slot are for it, and for no other
pub sent_here : (to : ℕ) (ms : List Sent) → All (λ (m : Sent). Some to ≡ Some m.to) ms → sent_to to ms ≡ map (λ (m : Sent). m.envelope) ms
sent_here to [] all = refl
sent_here to (m ∷ ms) all =
    let here : m.to ≡ to = sym (same_Some to m.to (All-head (λ (x : Sent). Some to ≡ Some x.to) m ms all)) in
    cond-true (m.to == to) (m.envelope ∷ sent_to to ms) (sent_to to ms) (eq-eqb m.to to here) ∙ ap (λ l. m.envelope ∷ l) (sent_here to ms (All-tail (λ (x : Sent). Some to ≡ Some x.to) m ms all))

pub sent_elsewhere : (to y : ℕ) (ms : List Sent) → y ≢ to → All (λ (m : Sent). Some to ≡ Some m.to) ms → sent_to y ms ≡ []
sent_elsewhere to y [] apart all = refl
sent_elsewhere to y (m ∷ ms) apart all =
    let here : m.to ≡ to = sym (same_Some to m.to (All-head (λ (x : Sent). Some to ≡ Some x.to) m ms all)) in
    cond-false (m.to == y) (m.envelope ∷ sent_to y ms) (sent_to y ms) (ne_eqb m.to y (λ same. apart (sym same ∙ here))) ∙ sent_elsewhere to y ms apart (All-tail (λ (x : Sent). Some to ≡ Some x.to) m ms all)

pub sent_nowhere : (ms : List Sent) → All (λ (m : Sent). None ≡ Some m.to) ms → ms ≡ []
sent_nowhere [] all = refl
sent_nowhere (m ∷ ms) all = let no : None ≡ Some m.to = All-head (λ (x : Sent). None ≡ Some x.to) m ms all in absurd cc

-- all that is sent is for the slot at the link's end: somebody is there, or nothing is sent
pub only_to : (there : Option ℕ) (slot to : ℕ) (ms : List Sent) → to ≡ unwrap_or there slot → All (λ (m : Sent). there ≡ Some m.to) ms → All (λ (m : Sent). Some to ≡ Some m.to) ms
only_to None slot to ms is all = rw (sent_nowhere ms all) (All-nil (λ (m : Sent). Some to ≡ Some m.to))
only_to (Some other) slot to ms is all = rw is all

-- the messages for one slot stand behind what was on the link to it
pub has_sent : (links : List (List Envelope)) (slot to : ℕ) (ms : List Sent) (queue : List Envelope) → length links ≡ 64 → slot < 8 → to < 8 → All (λ (m : Sent). Some to ≡ Some m.to) ms
    → queue ≡ link_at links slot to ++ map (λ (m : Sent). m.envelope) ms → HasSent slot ms (link_at links) (link_at (slice_set links (8 * slot + to) queue))
has_sent links slot to ms queue long slot_lt to_lt all is = record {
  others = λ x y apart. link_other links slot to queue slot_lt to_lt x y (λ same. absurd (apart same));
  its = λ y. elim (cases_eq y to) [
    | inl here ↦ subst (λ k. link_at (slice_set links (8 * slot + to) queue) slot k ≡ link_at links slot k ++ sent_to k ms) (sym here)
        (link_set links slot to queue slot_lt to_lt long ∙ is ∙ ap (λ l. link_at links slot to ++ l) (sym (sent_here to ms all)))
    | inr apart ↦ link_other links slot to queue slot_lt to_lt slot y (λ same. apart) ∙ sym (append-nil (link_at links slot y)) ∙ ap (λ l. link_at links slot y ++ l) (sym (sent_elsewhere to y ms apart all))
  ];
}

-- the first message of a link is taken
pub has_taken : (links : List (List Envelope)) (from slot : ℕ) (envelope : Envelope) (left : List Envelope) → length links ≡ 64 → from < 8 → slot < 8 → link_at links from slot ≡ envelope ∷ left
    → HasTaken from slot envelope (link_at links) (link_at (slice_set links (8 * from + slot) left))
has_taken links from slot envelope left long from_lt slot_lt first = record {
  first = first ∙ ap (λ l. envelope ∷ l) (sym (link_set links from slot left from_lt slot_lt long));
  others = λ x y apart. link_other links from slot left from_lt slot_lt x y apart;
}
