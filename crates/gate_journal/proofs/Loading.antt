-- What a pair is that was read.
use Rattle.std.proofs.Common.{◌≡◌, ◌⊎◌, ⊎_elim, ℕ, ◌-◌, ◌<◌, List, Option, Some, None, Bool, true, false, if◌then◌else◌, nat_lt, refl, sym, ◌∙◌, ap, subst, arith, Vec, Global}
use Rattle.disk_model.specs.Disk.{Only}
use Rattle.disk_model.specs.Frames.{only_inside}
use Rattle.disk_model.specs.Part.{inside}
use Rattle.disk_model.specs.declared.part.Part.{Part}
use Rattle.gate_journal.specs.Pair.{Entry, HoldsPair, IsPayloadOf, IsSettledPair, Pair, Slots, entry_of, last_number, newer_slot, newest, next_slot, slot_bytes}
use Rattle.gate_journal.specs.PairSlot.{IsHeadOf, entry_behind}
use Rattle.gate_journal.specs.declared.pair_slot.Head.{Head}

newer_slot-lt : (first second : Option Entry) → newer_slot first second < 2
newer_slot-lt None second = omega arith
newer_slot-lt (Some a) None = omega arith
newer_slot-lt (Some a) (Some b) = by_test (nat_lt a.number b.number)
  where
    by_test : (t : Bool) → (if t then 1 else 0) < 2
    by_test true = omega arith
    by_test false = omega arith

-- the newer slot is the other one than the next
pub newest_is : (slots : Slots) (into : ℕ) → into ≡ next_slot slots → newest slots ≡ entry_of (1 - into) slots
newest_is slots into is = ap (λ (k : ℕ). entry_of k slots) (omega (arith, is, newer_slot-lt slots.first slots.second))

-- the newer head and the older one, where the next store goes into a slot
abbrev pub IsOrdered : ℕ → Head → Head → (Head × Head) → Type 0
IsOrdered into first second order = ((into ≡ 0) × (order ≡ (second, first))) ⊎ ((into ≡ 1) × (order ≡ (first, second)))

module _ (part : Part) (first second : Head) (number : ℕ) (gives : List ℕ) (left : List ℕ → Type 0) (payload : Option (Vec ℕ Global))
    (is_first : IsHeadOf first (slot_bytes 0 (inside part gives))) (is_second : IsHeadOf second (slot_bytes 1 (inside part gives))) (whole : Only gives left) where
  slots : Slots
  slots = record { first = entry_behind first.entry (slot_bytes 0 (inside part gives)); second = entry_behind second.entry (slot_bytes 1 (inside part gives)) }

  abbrev made : ℕ → (Head × Head) → Pair
  made into order = record { part = part; number = number; into = into; is_closed = order.1.is_closed; other_is_closed = order.0.is_closed; broken = false }

  holds : HoldsPair slots (inside part gives)
  unfolding slots
  holds = record { first = is_first.entry; second = is_second.entry }

  abbrev Loaded : ℕ → (Head × Head) → Type 0
  Loaded into order =
      into ≡ next_slot slots → ((bytes : List ℕ) → number ≡ last_number (entry_behind order.0.entry bytes)) → IsPayloadOf (entry_behind order.0.entry (slot_bytes (1 - into) (inside part gives))) payload
      → (found : Slots) × IsSettledPair (made into order) found gives left × IsPayloadOf (newest found) payload

  into_first : Loaded 0 (second, first)
  unfolding slots
  into_first is numbered is_payload =
      let there = newest_is slots 0 is in (
        slots,
        record {
          holds = holds;
          number = numbered (slot_bytes 1 (inside part gives)) ∙ sym (ap last_number there);
          into = is;
          gate = is_first.gate;
          other_gate = is_second.gate;
          runs = refl;
          durable = only_inside part gives left whole;
        },
        subst (λ (e : Option Entry). IsPayloadOf e payload) (sym there) is_payload,
      )

  into_second : Loaded 1 (first, second)
  unfolding slots
  into_second is numbered is_payload =
      let there = newest_is slots 1 is in (
        slots,
        record {
          holds = holds;
          number = numbered (slot_bytes 0 (inside part gives)) ∙ sym (ap last_number there);
          into = is;
          gate = is_second.gate;
          other_gate = is_first.gate;
          runs = refl;
          durable = only_inside part gives left whole;
        },
        subst (λ (e : Option Entry). IsPayloadOf e payload) (sym there) is_payload,
      )

  pub loaded : (into : ℕ) (order : Head × Head) → IsOrdered into first second order
      → into ≡ next_slot (record { first = entry_behind first.entry (slot_bytes 0 (inside part gives)); second = entry_behind second.entry (slot_bytes 1 (inside part gives)) })
      → ((bytes : List ℕ) → number ≡ last_number (entry_behind order.0.entry bytes))
      → IsPayloadOf (entry_behind order.0.entry (slot_bytes (1 - into) (inside part gives))) payload
      → (found : Slots) × IsSettledPair (record { part = part; number = number; into = into; is_closed = order.1.is_closed; other_is_closed = order.0.is_closed; broken = false }) found gives left × IsPayloadOf (newest found) payload
  unfolding slots
  loaded into order ordered =
      let here : Loaded into order = ⊎_elim
      (λ (zero_is, same). subst (λ (k : ℕ). Loaded k order) (sym zero_is) (subst (λ (o : Head × Head). Loaded 0 o) (sym same) into_first))
      (λ (one_is, same). subst (λ (k : ℕ). Loaded k order) (sym one_is) (subst (λ (o : Head × Head). Loaded 1 o) (sym same) into_second))
      ordered in
      here
