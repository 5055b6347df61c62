-- What the two halves of a store leave of a pair.
use Rattle.std.proofs.Common.{◌≡◌, ◌⊎◌, inl, inr, ⊎_elim, ℕ, ◌+◌, ◌-◌, ◌*◌, ◌<◌, ◌≤◌, Bool, true, false, List, Option, Some, None, if◌then◌else◌, nat_lt, refl, sym, ◌∙◌, ap, subst, arith}
use Rattle.std.proofs.lemmas.Bool.Decides.{nat_tests}
use Rattle.disk_model.specs.Disk.{LeavesOnly, Only}
use Rattle.disk_model.specs.Frames.{only_inside, started_inside}
use Rattle.disk_model.specs.Moments.{weaker}
use Rattle.disk_model.specs.Part.{inside, TouchesOnly}
use Rattle.disk_model.specs.declared.part.Part.{Part}
use Rattle.gate_journal.specs.Pair.{Entry, HasGate, HoldsPair, HoldsSlot, HoldsClosing, HoldsStored, IsSettledPair, Pair, Slots, entry_of, last_number, newer_slot, newest, next_slot, slot_bytes, stored, with_entry}
use Rattle.gate_journal.proofs.Entries.{held_open, none_behind}
use Rattle.gate_journal.proofs.Pairs.{pair_from, pair_with, range_bytes, slot_of_pair, slots_run}

-- the open slot with the greater number is the newer
newer_gt : (a b : Entry) → a.number < b.number → newer_slot (Some a) (Some b) ≡ 1
newer_gt a b lt = grind (arith, nat_tests)

newer_le : (a b : Entry) → b.number ≤ a.number → newer_slot (Some a) (Some b) ≡ 0
newer_le a b le = grind (arith, nat_tests)

newer_cases : (a b : Entry) → (newer_slot (Some a) (Some b) ≡ 1) ⊎ (newer_slot (Some a) (Some b) ≡ 0)
newer_cases a b = by_test (nat_lt a.number b.number)
  where
    by_test : (t : Bool) → let k : ℕ = (if t then 1 else 0) in (k ≡ 1) ⊎ (k ≡ 0)
    by_test true = inl refl
    by_test false = inr refl

-- the slot that the next store goes into can be emptied: the newer one stays
pub emptied : (first second : Option Entry) → let slots : Slots = record { first = first; second = second } in
    (newest (with_entry (next_slot slots) None slots) ≡ newest slots) × (next_slot (with_entry (next_slot slots) None slots) ≡ next_slot slots)
emptied None None = (refl, refl)
emptied None (Some b) = (refl, refl)
emptied (Some a) None = (refl, refl)
emptied (Some a) (Some b) =
    let slots : Slots = record { first = Some a; second = Some b } in
    ⊎_elim
    (λ second. (
      ap (λ (k : ℕ). newest (with_entry (1 - k) None slots)) second ∙ sym (ap (λ (k : ℕ). entry_of k slots) second),
      ap (λ (k : ℕ). next_slot (with_entry (1 - k) None slots)) second ∙ sym (ap (λ (k : ℕ). 1 - k) second),
    ))
    (λ first. (
      ap (λ (k : ℕ). newest (with_entry (1 - k) None slots)) first ∙ sym (ap (λ (k : ℕ). entry_of k slots) first),
      ap (λ (k : ℕ). next_slot (with_entry (1 - k) None slots)) first ∙ sym (ap (λ (k : ℕ). 1 - k) first),
    ))
    (newer_cases a b)

in_first : (new : Entry) (b : Entry) → b.number < new.number → let slots : Slots = record { first = Some new; second = Some b } in (newest slots ≡ Some new) × (next_slot slots ≡ 1)
in_first new b lt =
    let is = newer_le new b (omega arith) in
    let slots : Slots = record { first = Some new; second = Some b } in
    (ap (λ (k : ℕ). entry_of k slots) is, ap (λ (k : ℕ). 1 - k) is)

in_second : (a : Entry) (new : Entry) → a.number < new.number → let slots : Slots = record { first = Some a; second = Some new } in (newest slots ≡ Some new) × (next_slot slots ≡ 0)
in_second a new lt =
    let is = newer_gt a new lt in
    let slots : Slots = record { first = Some a; second = Some new } in
    (ap (λ (k : ℕ). entry_of k slots) is, ap (λ (k : ℕ). 1 - k) is)

-- an entry with the next number, put there, is the newer one
pub filled : (first second : Option Entry) (new : Entry) → let slots : Slots = record { first = first; second = second } in
    new.number ≡ last_number (newest slots) + 1 → (newest (with_entry (next_slot slots) (Some new) slots) ≡ Some new) × (next_slot (with_entry (next_slot slots) (Some new) slots) ≡ 1 - next_slot slots)
filled None None new is = (refl, refl)
filled None (Some b) new is = in_first new b (omega arith)
filled (Some a) None new is = in_second a new (omega arith)
filled (Some a) (Some b) new is =
    let slots : Slots = record { first = Some a; second = Some b } in
    ⊎_elim
    (λ second.
    let above : b.number < new.number = omega (arith, is, ap (λ (k : ℕ). last_number (entry_of k slots)) second) in
    let there = in_first new b above in (
      ap (λ (k : ℕ). newest (with_entry (1 - k) (Some new) slots)) second ∙ there.0,
      ap (λ (k : ℕ). next_slot (with_entry (1 - k) (Some new) slots)) second ∙ there.1 ∙ sym (ap (λ (k : ℕ). 1 - (1 - k)) second),
    ))
    (λ first.
    let above : a.number < new.number = omega (arith, is, ap (λ (k : ℕ). last_number (entry_of k slots)) first) in
    let there = in_second a new above in (
      ap (λ (k : ℕ). newest (with_entry (1 - k) (Some new) slots)) first ∙ there.0,
      ap (λ (k : ℕ). next_slot (with_entry (1 - k) (Some new) slots)) first ∙ there.1 ∙ sym (ap (λ (k : ℕ). 1 - (1 - k)) first),
    ))
    (newer_cases a b)

module _ (s : Pair) (range : Part) (is_pair : s.part.len ≡ 8192) (lt : s.into < 2) (starts : range.start ≡ s.part.start + 4096 * s.into) (long : range.len ≡ 4096) (slots : Slots) where
  here_bytes : (c : List ℕ) → inside range c ≡ slot_bytes s.into (inside s.part c)
  here_bytes c = range_bytes s.part range is_pair s.into lt starts long c

  abbrev other : Option Entry
  other = entry_of (1 - s.into) slots

  pub other_holds : (area : List ℕ) → HoldsPair slots area → HoldsSlot other (slot_bytes (1 - s.into) area)
  other_holds area holds = slot_of_pair (1 - s.into) (omega arith) slots area holds

  pub here_holds : (gives : List ℕ) → HoldsPair slots (inside s.part gives) → HoldsSlot (entry_of s.into slots) (inside range gives)
  here_holds gives holds = subst (HoldsSlot (entry_of s.into slots)) (sym (here_bytes gives)) (slot_of_pair s.into lt slots (inside s.part gives) holds)

  module _ {gives now : List ℕ} {left left_now : List ℕ → Type 0} (settled : IsSettledPair s slots gives left) (stays : slot_bytes (1 - s.into) (inside s.part now) ≡ slot_bytes (1 - s.into) (inside s.part gives)) (whole : Only now left_now) where
    still_other : HoldsSlot other (slot_bytes (1 - s.into) (inside s.part now))
    still_other = subst (HoldsSlot other) (sym stays) (other_holds (inside s.part gives) settled.holds)

    pub closed_pair : HasGate true (inside range now) → IsSettledPair (record s { is_closed = true }) (with_entry s.into None slots) now left_now
    closed_pair gate =
        let here = subst (HasGate true) (here_bytes now) gate in
        let both = emptied slots.first slots.second in
        let newest_is : newest (with_entry s.into None slots) ≡ newest slots = ap (λ (k : ℕ). newest (with_entry k None slots)) settled.into ∙ both.0 in
        let next_is : next_slot (with_entry s.into None slots) ≡ next_slot slots = ap (λ (k : ℕ). next_slot (with_entry k None slots)) settled.into ∙ both.1 in
        record {
          holds = pair_with s.into lt None slots (inside s.part now) (none_behind (slot_bytes s.into (inside s.part now)) here) still_other;
          number = settled.number ∙ sym (ap last_number newest_is);
          into = settled.into ∙ sym next_is;
          gate = here;
          other_gate = subst (HasGate s.other_is_closed) (sym stays) settled.other_gate;
          runs = settled.runs;
          durable = only_inside s.part now left_now whole;
        }

    pub filled_pair : (payload : List ℕ) → HoldsSlot (Some (record { number = s.number + 1; payload = payload })) (inside range now)
        → IsSettledPair (stored s) (with_entry s.into (Some (record { number = s.number + 1; payload = payload })) slots) now left_now
    filled_pair payload holds =
        let new : Entry = record { number = s.number + 1; payload = payload } in
        let here = subst (HoldsSlot (Some new)) (here_bytes now) holds in
        let both = filled slots.first slots.second new (omega (arith, settled.number)) in
        let newest_is : newest (with_entry s.into (Some new) slots) ≡ Some new = ap (λ (k : ℕ). newest (with_entry k (Some new) slots)) settled.into ∙ both.0 in
        let next_is : next_slot (with_entry s.into (Some new) slots) ≡ 1 - s.into = ap (λ (k : ℕ). next_slot (with_entry k (Some new) slots)) settled.into ∙ both.1 ∙ sym (ap (λ (k : ℕ). 1 - k) settled.into) in
        let back : s.into ≡ 1 - (1 - s.into) = omega arith in
        record {
          holds = pair_with s.into lt (Some new) slots (inside s.part now) here still_other;
          number = sym (ap last_number newest_is);
          into = sym next_is;
          gate = subst (HasGate s.other_is_closed) (sym stays) settled.other_gate;
          other_gate = subst (λ (k : ℕ). HasGate false (slot_bytes k (inside s.part now))) back (held_open new (slot_bytes s.into (inside s.part now)) here);
          runs = settled.runs;
          durable = only_inside s.part now left_now whole;
        }

  module _ {D : Type 0} {moment : D → ℕ} {left_since : D → ℕ → List ℕ → Type 0} {gives : D → List ℕ} {may_leave : D → List ℕ → Type 0} {old new : D} (settled : IsSettledPair s slots (gives old) (may_leave old)) (frame : TouchesOnly gives may_leave moment left_since range old new) where
    pub closing_run : LeavesOnly moment left_since old new (λ c. HoldsSlot (entry_of s.into slots) (inside range c) ⊎ HoldsSlot None (inside range c))
        → LeavesOnly moment left_since old new (λ c. HoldsClosing slots s.into (inside s.part c))
    closing_run run =
        let P : List ℕ → Type 0 = λ b. HoldsSlot (entry_of s.into slots) b ⊎ HoldsSlot None b in
        weaker moment left_since old new (λ c. P (slot_bytes s.into (inside s.part c)) × HoldsSlot other (slot_bytes (1 - s.into) (inside s.part c))) (λ c. HoldsClosing slots s.into (inside s.part c))
        (λ c (p, q). ⊎_elim
        (λ same. inl (pair_from s.into lt slots (inside s.part c) same q))
        (λ none. inr (pair_with s.into lt None slots (inside s.part c) none q)) p)
        (slots_run s.part range is_pair s.into lt starts long P (HoldsSlot other) run frame (other_holds (inside s.part (gives old)) settled.holds) settled.durable)

    pub filling_run : (entry : Entry) → LeavesOnly moment left_since old new (λ c. HoldsSlot None (inside range c) ⊎ HoldsSlot (Some entry) (inside range c))
        → LeavesOnly moment left_since old new (λ c. HoldsStored slots s.into entry (inside s.part c))
    filling_run entry run =
        let P : List ℕ → Type 0 = λ b. HoldsSlot None b ⊎ HoldsSlot (Some entry) b in
        weaker moment left_since old new (λ c. P (slot_bytes s.into (inside s.part c)) × HoldsSlot other (slot_bytes (1 - s.into) (inside s.part c))) (λ c. HoldsStored slots s.into entry (inside s.part c))
        (λ c (p, q). inr (⊎_elim
        (λ none. inl (pair_with s.into lt None slots (inside s.part c) none q))
        (λ some. inr (pair_with s.into lt (Some entry) slots (inside s.part c) some q)) p))
        (slots_run s.part range is_pair s.into lt starts long P (HoldsSlot other) run frame (other_holds (inside s.part (gives old)) settled.holds) settled.durable)

-- before the first call
pub before_store : {D : Type 0} {moment : D → ℕ} {left_since : D → ℕ → List ℕ → Type 0} (s : Pair) (slots : Slots) {gives : List ℕ} {left : List ℕ → Type 0} → IsSettledPair s slots gives left → (disk : D) → ((c : List ℕ) → left_since disk (moment disk) c → left c)
    → LeavesOnly moment left_since disk disk (λ c. HoldsPair slots (inside s.part c))
before_store s slots {left = left} settled disk only_now =
    started_inside s.part (HoldsPair slots) disk left only_now (λ x was. subst (HoldsPair slots) (sym (settled.durable x was)) settled.holds)
