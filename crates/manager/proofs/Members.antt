-- A chain without one of its members, and with one more.
use Rattle.std.specs.Prelude.{◌==◌, AllPairs, All, filter}
use Rattle.std.specs.List.{list_any}
use Rattle.std.proofs.Common.{◌≡◌, ◌≢◌, ℕ, ◌+◌, ◌<◌, ◌≤◌, ◌⊎◌, inl, inr, Bool, true, false, not, List, [], ◌∷◌, length, length-append, map, get_or, refl, sym, ◌∙◌, ap, arith, lit<}
use Rattle.std.proofs.lemmas.Bool.{eq-eqb}
use Rattle.std.proofs.lemmas.Bool.Decides.{Decides-eqb, eqb_tells}
use Rattle.std.proofs.lemmas.Grind.{common_steps}
use Rattle.std.proofs.lemmas.List.{get_or-map, length-map}
use Rattle.std.proofs.lemmas.List.Folds.{Any-from_list_any, list_any_at}
use Rattle.std.proofs.lemmas.List.Elements.{All-push}
use Rattle.std.proofs.lemmas.List.Kept.{AllPairs-filter}
use Rattle.std.proofs.lemmas.List.Quantifiers.{all_pairs_push}
use Rattle.std.proofs.lemmas.List.Sums.{count_by-le-length, length-filter}
use Rattle.std.proofs.lemmas.Map.Made.{IsDistinct-from_AllPairs}
use Rattle.std.proofs.lemmas.Map.Steps.{length-le_from_distinct_below}
use Rattle.configurations.specs.declared.member.Member.{Member}
use Rattle.configurations.specs.Record.{AreMembers, Record}
use Rattle.manager.specs.Manager.{has_slot}
use Rattle.manager.specs.Orders.{joined, without}

abbrev slot_of : Member → ℕ
slot_of m = m.slot

abbrev Once : List Member → Type 0
Once members = AllPairs (λ (a b : Member). a.slot ≢ b.slot) members

-- one of the first two is kept
kept : (p : Member → Bool) (a b : Member) (rest : List Member) → (p a ≡ true) ⊎ (p b ≡ true) → 0 < length (filter p (a ∷ b ∷ rest))
kept p a b rest (inl first) = grind (arith, common_steps)
kept p a b rest (inr second) = grind (arith, common_steps)

-- one of two different numbers is another than a third
apart : (a b slot : ℕ) → a ≢ b → (not (a == slot) ≡ true) ⊎ (not (b == slot) ≡ true)
apart a b slot differ =
    elim (eqb_tells a slot) [ inl (is, same) ↦ elim (eqb_tells b slot) [ inl (is', same') ↦ absurd (differ (same ∙ sym same')) | inr (is', other) ↦ inr (ap not is') ] | inr (is, other) ↦ inl (ap not is) ]

-- of two members one has another slot
another : (slot : ℕ) (members : List Member) → 1 < length members → Once members → 0 < length (without slot members)
another slot [] two once = absurd (omega arith)
another slot (a ∷ []) two once = absurd (omega arith)
another slot (a ∷ b ∷ rest) two once =
    kept (λ (m : Member). not (m.slot == slot)) a b rest (apart a.slot b.slot slot (once 0 1 a (lit< tt) two))

-- without one of two members it is a chain
pub without_are : (slot : ℕ) (members : List Member) → AreMembers members → 1 < length members → AreMembers (without slot members)
without_are slot members are two =
    let other = λ (m : Member). not (m.slot == slot) in
    record {
      some = another slot members two are.once;
      few = omega (arith, length-filter other members, count_by-le-length other members, are.few);
      once = AllPairs-filter (λ (a b : Member). a.slot ≢ b.slot) other members are.once;
    }

-- and none of it has that member's slot
pub without_out : (slot : ℕ) (members : List Member) → has_slot slot (without slot members) ≡ false
without_out slot [] = refl
without_out slot (m ∷ ms) =
    elim (eqb_tells m.slot slot) [ inl (is, same) ↦ grind (arith, common_steps, without_out slot ms) | inr (is, other) ↦ grind (arith, common_steps, without_out slot ms) ]

-- no member has a slot that none was found at
none_has : (slot : ℕ) (members : List Member) → has_slot slot members ≡ false → (k : ℕ) (d : Member) → k < length members → (get_or members k d).slot ≢ slot
none_has slot members none k d lt same =
    let found = list_any_at (λ (m : Member). m.slot == slot) members k d lt (eq-eqb (get_or members k d).slot slot same) in cc

-- members at different slots, each below eight, are eight at most
at_most_eight : (members : List Member) → Once members → All (λ (m : Member). m.slot < 8) members → length members ≤ 8
at_most_eight members once slots =
    let few : length (map slot_of members) ≤ 8 = length-le_from_distinct_below (map slot_of members) 8 (IsDistinct-from_AllPairs Decides-eqb (map slot_of members) differ) below in
    omega (arith, few, length-map members slot_of)
  where
    here : (k d : ℕ) → k < length (map slot_of members) → (e : Member) → get_or (map slot_of members) k d ≡ (get_or members k e).slot
    here k d lt e = get_or-map slot_of members k e d (omega (arith, length-map members slot_of))

    differ : AllPairs (λ (a b : ℕ). a ≢ b) (map slot_of members)
    differ i j d before lt same =
        let e : Member = record { slot = d; incarnation = 0 } in
        let within : j < length members = omega (arith, length-map members slot_of) in
        once i j e before within (sym (here i d (omega arith) e) ∙ same ∙ here j d lt e)

    below : (q : ℕ) → list_any (λ (x : ℕ). q == x) (map slot_of members) ≡ true → q < 8
    below q any =
        let (k, x, lt, is, same) = Any-from_list_any (λ (x : ℕ). q == x) (map slot_of members) any in
        let e : Member = record { slot = x; incarnation = 0 } in
        let small : (get_or members k e).slot < 8 = slots k e (omega (arith, length-map members slot_of)) in
        omega (arith, small, here k x lt e, is, (Decides-eqb q x).0 same)

-- with one more, at a slot of eight that none has, it is a chain
pub joined_are : (slot : ℕ) (chain : Record) → AreMembers chain.members → All (λ (m : Member). m.slot < 8) chain.members → slot < 8 → has_slot slot chain.members ≡ false → AreMembers (joined slot chain)
joined_are slot chain are slots below none =
    let new : Member = record { slot = slot; incarnation = chain.epoch + 1 } in
    let once = all_pairs_push (λ (a b : Member). a.slot ≢ b.slot) chain.members new are.once (none_has slot chain.members none) in
    record {
      some = omega (arith, length-append chain.members (new ∷ []));
      few = at_most_eight (joined slot chain) once (All-push (λ (m : Member). m.slot < 8) chain.members new slots below);
      once = once;
    }
