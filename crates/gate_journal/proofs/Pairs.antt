-- Both slots of a pair: what they hold while one of them is written.
use Rattle.std.proofs.Common.{◌≡◌, ◌⊎◌, inl, inr, ℕ, zero, suc, ◌+◌, ◌-◌, ◌*◌, ◌^◌, ◌<◌, ◌≤◌, List, take, drop, Option, refl, sym, ◌∙◌, ap, subst, arith}
use Rattle.std.proofs.lemmas.List.{drop-drop, drop-take, take-take}
use Rattle.disk_model.specs.Disk.{LeavesOnly, Only}
use Rattle.disk_model.specs.Frames.{both, others_keep}
use Rattle.disk_model.specs.Moments.{weaker}
use Rattle.disk_model.specs.Part.{inside, IsApart, LeftInside, TouchesOnly}
use Rattle.disk_model.specs.declared.part.Part.{Part}
use Rattle.gate_journal.specs.Pair.{Entry, HoldsPair, HoldsSlot, Slots, entry_of, slot_bytes, with_entry}

-- each slot by itself makes the pair
pub pair_from : (into : ℕ) → into < 2 → (slots : Slots) (area : List ℕ) → HoldsSlot (entry_of into slots) (slot_bytes into area) → HoldsSlot (entry_of (1 - into) slots) (slot_bytes (1 - into) area) → HoldsPair slots area
pair_from zero lt slots area this other = record { first = this; second = other }
pair_from (suc zero) lt slots area this other = record { first = other; second = this }
pair_from (suc (suc n)) lt slots area this other = absurd (omega arith)

pub slot_of_pair : (into : ℕ) → into < 2 → (slots : Slots) (area : List ℕ) → HoldsPair slots area → HoldsSlot (entry_of into slots) (slot_bytes into area)
slot_of_pair zero lt slots area holds = holds.first
slot_of_pair (suc zero) lt slots area holds = holds.second
slot_of_pair (suc (suc n)) lt slots area holds = absurd (omega arith)

pub entry_of-with : (into : ℕ) (entry : Option Entry) (slots : Slots) → entry_of into (with_entry into entry slots) ≡ entry
entry_of-with zero entry slots = refl
entry_of-with (suc n) entry slots = refl

pub entry_of-other : (into : ℕ) → into < 2 → (entry : Option Entry) (slots : Slots) → entry_of (1 - into) (with_entry into entry slots) ≡ entry_of (1 - into) slots
entry_of-other zero lt entry slots = refl
entry_of-other (suc zero) lt entry slots = refl
entry_of-other (suc (suc n)) lt entry slots = absurd (omega arith)

-- with another entry in the slot that is written
pub pair_with : (into : ℕ) → into < 2 → (entry : Option Entry) (slots : Slots) (area : List ℕ) → HoldsSlot entry (slot_bytes into area) → HoldsSlot (entry_of (1 - into) slots) (slot_bytes (1 - into) area) → HoldsPair (with_entry into entry slots) area
pair_with into lt entry slots area this other =
    pair_from into lt (with_entry into entry slots) area
    (subst (λ (e : Option Entry). HoldsSlot e (slot_bytes into area)) (sym (entry_of-with into entry slots)) this)
    (subst (λ (e : Option Entry). HoldsSlot e (slot_bytes (1 - into) area)) (sym (entry_of-other into lt entry slots)) other)

-- a slot's range of the disk
module _ (part range : Part) (is_pair : part.len ≡ 8192) (slot : ℕ) (lt : slot < 2) (starts : range.start ≡ part.start + 4096 * slot) (long : range.len ≡ 4096) where
  pub range_bytes : (c : List ℕ) → inside range c ≡ slot_bytes slot (inside part c)
  range_bytes c =
      let rest : part.len ≡ 4096 * slot + (8192 - 4096 * slot) = omega arith in
      ap (λ (k : ℕ). take k (drop range.start c)) long
      ∙ ap (λ (k : ℕ). take 4096 (drop k c)) starts
      ∙ sym (take-take 4096 (8192 - 4096 * slot) (drop (part.start + 4096 * slot) c) (omega arith))
      ∙ ap (λ (l : List ℕ). take 4096 (take (8192 - 4096 * slot) l)) (sym (drop-drop (4096 * slot) part.start c))
      ∙ ap (λ (l : List ℕ). take 4096 l) (sym (drop-take (4096 * slot) (8192 - 4096 * slot) (drop part.start c)))
      ∙ ap (λ (k : ℕ). take 4096 (drop (4096 * slot) (take k (drop part.start c)))) (sym rest)

  -- where the part alone may be left, so it is in the slot
  pub only_slot : (gives : List ℕ) (left : List ℕ → Type 0) → Only (inside part gives) (LeftInside part left) → Only (inside range gives) (LeftInside range left)
  only_slot gives left only x (c, was, is) = is ∙ range_bytes c ∙ ap (slot_bytes slot) (only (inside part c) (c, was, refl)) ∙ sym (range_bytes gives)

-- the range of the other slot
abbrev pub other_range : (part : Part) (slot : ℕ) → part.len ≡ 8192 → slot < 2 → Part
other_range part slot is_pair lt = record { start = part.start + 4096 * (1 - slot); len = 4096; fits = within part slot is_pair lt }
  where
    within : (part : Part) (slot : ℕ) → part.len ≡ 8192 → slot < 2 → part.start + 4096 * (1 - slot) + 4096 < 2 ^ 64
    within part slot is_pair lt = omega (arith, part.fits)

module _ (part range : Part) (is_pair : part.len ≡ 8192) (slot : ℕ) (lt : slot < 2) (starts : range.start ≡ part.start + 4096 * slot) (long : range.len ≡ 4096) where
  other_bytes : (c : List ℕ) → inside (other_range part slot is_pair lt) c ≡ slot_bytes (1 - slot) (inside part c)
  other_bytes c = range_bytes part (other_range part slot is_pair lt) is_pair (1 - slot) (omega arith) refl refl c

  is_apart : IsApart range (other_range part slot is_pair lt)
  is_apart = by_slot slot lt starts
    where
      by_slot : (s : ℕ) → s < 2 → range.start ≡ part.start + 4096 * s → (range.start + range.len ≤ part.start + 4096 * (1 - s)) ⊎ (part.start + 4096 * (1 - s) + 4096 ≤ range.start)
      by_slot zero lt starts = inl (omega arith)
      by_slot (suc zero) lt starts = inr (omega arith)
      by_slot (suc (suc n)) lt starts = absurd (omega arith)

  module _ {D : Type 0} {moment : D → ℕ} {left_since : D → ℕ → List ℕ → Type 0} {gives : D → List ℕ} {may_leave : D → List ℕ → Type 0} where
    -- a write of one slot leaves the other
    pub other_stays : {old new : D} → TouchesOnly gives may_leave moment left_since range old new → slot_bytes (1 - slot) (inside part (gives new)) ≡ slot_bytes (1 - slot) (inside part (gives old))
    other_stays {old} {new} frame = sym (other_bytes (gives new)) ∙ (frame.others (other_range part slot is_pair lt) is_apart).gives ∙ other_bytes (gives old)

    -- what holds of the one at any moment, with what the other holds
    pub slots_run : (P Q : List ℕ → Type 0) {old new : D} → LeavesOnly moment left_since old new (λ c. P (inside range c)) → TouchesOnly gives may_leave moment left_since range old new
        → Q (slot_bytes (1 - slot) (inside part (gives old))) → Only (inside part (gives old)) (LeftInside part (may_leave old))
        → LeavesOnly moment left_since old new (λ c. P (slot_bytes slot (inside part c)) × Q (slot_bytes (1 - slot) (inside part c)))
    slots_run P Q {old} {new} run frame holds only =
        let other = other_range part slot is_pair lt in
        let settled = only_slot part other is_pair (1 - slot) (omega arith) refl refl (gives old) (may_leave old) only in
        let there : (x : List ℕ) → LeftInside other (may_leave old) x → Q x = λ x left. subst Q (sym (settled x left ∙ other_bytes (gives old))) holds in
        weaker moment left_since old new (λ c. P (inside range c) × Q (inside other c)) (λ c. P (slot_bytes slot (inside part c)) × Q (slot_bytes (1 - slot) (inside part c)))
        (λ c (p, q). (subst P (range_bytes part range is_pair slot lt starts long c) p, subst Q (other_bytes c) q))
        (both run (others_keep other Q is_apart frame there))
