-- What a call of a store leaves of the record that its part holds.
use Rattle.std.proofs.Common.{◌≡◌, inl, inr, ⊎_elim, ℕ, ◌+◌, List, Option, Some, None, sym, ◌∙◌, ap, subst}
use Rattle.disk_model.specs.Disk.{LeavesOnly}
use Rattle.disk_model.specs.Frames.{started_inside}
use Rattle.disk_model.specs.Moments.{weaker}
use Rattle.disk_model.specs.Part.{inside}
use Rattle.gate_journal.specs.Pair.{Entry, HoldsClosing, HoldsStored, IsSettledPair, Slots, last_number, newest, next_slot, with_entry}
use Rattle.configurations.specs.Record.{IsEncoding, Record}
use Rattle.configurations.specs.Store.{HoldsNumbered, HoldsOldOrNew, HoldsOldOrNext, HoldsRecord, IsSettledConfig, Records, State, numbered_holds, settled_leaves, settled_leaves_numbered}
use Rattle.configurations.proofs.Encodings.{records_apart}

-- an entry records one record at most
pub one_record : (entry : Option Entry) (some other : Record) → Records entry some → Records entry other → some ≡ other
one_record None some other encodes encodes' = absurd encodes
one_record (Some entry) some other encodes encodes' = records_apart some other encodes.is encodes'.is (sym encodes.encoded ∙ encodes'.encoded)

-- the slot that a store goes into can be emptied: the newer entry stays
abbrev pub Empties : Type 0
Empties = (slots : Slots) → newest (with_entry (next_slot slots) None slots) ≡ newest slots

-- and an entry of the next number is the newer one there
abbrev pub Fills : Type 0
Fills = (slots : Slots) (new : Entry) → new.number ≡ last_number (newest slots) + 1 → newest (with_entry (next_slot slots) (Some new) slots) ≡ Some new

-- which number it has is no matter
without_number : (store : State) (new : Record) (bytes : List ℕ) → HoldsOldOrNext store new bytes → HoldsOldOrNew store.current new bytes
without_number store new bytes (inl old) = inl (numbered_holds old)
without_number store new bytes (inr next) = inr (numbered_holds next)

module _ (store : State) (gives : List ℕ) (may_leave : List ℕ → Type 0) (settled : IsSettledConfig store gives may_leave) where
  abbrev slots : Slots
  slots = settled.slots

  abbrev into : ℕ
  into = store.pair.into

  still_held : Empties → (bytes : List ℕ) → HoldsClosing slots into bytes → HoldsRecord store.current bytes
  still_held empties bytes held =
      let same : newest (with_entry into None slots) ≡ newest slots = ap (λ (k : ℕ). newest (with_entry k None slots)) settled.pair.into ∙ empties slots in
      ⊎_elim
      (λ holds. record { slots = slots; holds = holds; newer = settled.newer })
      (λ holds. record { slots = with_entry into None slots; holds = holds; newer = subst (λ (e : Option Entry). Records e store.current) (sym same) settled.newer })
      held

  -- the record stays with its number, or the new one has the next
  old_or_next : Empties → Fills → (payload : List ℕ) (new : Record) → IsEncoding payload new → (bytes : List ℕ) → HoldsStored slots into (record { number = store.pair.number + 1; payload = payload }) bytes → HoldsOldOrNext store new bytes
  old_or_next empties fills payload new encodes bytes held =
      let made : Entry = record { number = store.pair.number + 1; payload = payload } in
      let newer : newest (with_entry (next_slot slots) (Some made) slots) ≡ Some made = fills slots made (ap (λ (n : ℕ). n + 1) settled.pair.number) in
      let same : newest (with_entry into (Some made) slots) ≡ Some made = ap (λ (k : ℕ). newest (with_entry k (Some made) slots)) settled.pair.into ∙ newer in
      let empty : newest (with_entry into None slots) ≡ newest slots = ap (λ (k : ℕ). newest (with_entry k None slots)) settled.pair.into ∙ empties slots in
      ⊎_elim
      (λ holds. inl (record { slots = slots; holds = holds; newer = settled.newer; numbered = sym settled.pair.number }))
      (λ either. ⊎_elim
      (λ holds. inl (record {
        slots = with_entry into None slots;
        holds = holds;
        newer = subst (λ (e : Option Entry). Records e store.current) (sym empty) settled.newer;
        numbered = ap last_number empty ∙ sym settled.pair.number;
      }))
      (λ holds. inr (record {
        slots = with_entry into (Some made) slots;
        holds = holds;
        newer = subst (λ (e : Option Entry). Records e new) (sym same) encodes;
        numbered = ap last_number same;
      }))
      either)
      held

  module _ {D : Type 0} (moment : D → ℕ) (left_since : D → ℕ → List ℕ → Type 0) where
    -- before the first device call it is held with its number
    pub next_before : (new : Record) (disk : D) → ((c : List ℕ) → left_since disk (moment disk) c → may_leave c) → LeavesOnly moment left_since disk disk (λ c. HoldsOldOrNext store new (inside store.pair.part c))
    next_before new disk only_now =
        weaker moment left_since disk disk (λ c. HoldsNumbered store.current store.pair.number (inside store.pair.part c)) (λ c. HoldsOldOrNext store new (inside store.pair.part c)) (λ c holds. inl holds)
        (started_inside store.pair.part (HoldsNumbered store.current store.pair.number) disk may_leave only_now (settled_leaves_numbered settled))

    -- before the first device call the record is held
    pub held_before : (disk : D) → ((c : List ℕ) → left_since disk (moment disk) c → may_leave c) → LeavesOnly moment left_since disk disk (λ c. HoldsRecord store.current (inside store.pair.part c))
    held_before disk only_now = started_inside store.pair.part (HoldsRecord store.current) disk may_leave only_now (settled_leaves settled)

    -- and so it is the old one or a new one
    pub either_before : (new : Record) (disk : D) → ((c : List ℕ) → left_since disk (moment disk) c → may_leave c) → LeavesOnly moment left_since disk disk (λ c. HoldsOldOrNew store.current new (inside store.pair.part c))
    either_before new disk only_now =
        weaker moment left_since disk disk (λ c. HoldsOldOrNext store new (inside store.pair.part c)) (λ c. HoldsOldOrNew store.current new (inside store.pair.part c)) (λ c. without_number store new (inside store.pair.part c))
        (next_before new disk only_now)

module _ (view now : State) (is : view ≡ now) {gives : List ℕ} {may_leave : List ℕ → Type 0} {D : Type 0} (moment : D → ℕ) (left_since : D → ℕ → List ℕ → Type 0) (from to : D) (empties : Empties) where
  -- while the gate is closed, the record is held
  pub held_closing : ((slots : Slots) → IsSettledPair view.pair slots gives may_leave → LeavesOnly moment left_since from to (λ c. HoldsClosing slots view.pair.into (inside view.pair.part c)))
      → IsSettledConfig now gives may_leave → LeavesOnly moment left_since from to (λ c. HoldsRecord now.current (inside now.pair.part c))
  held_closing run = subst (λ (s : State). IsSettledConfig s gives may_leave → LeavesOnly moment left_since from to (λ c. HoldsRecord s.current (inside s.pair.part c))) is
      (λ settled. weaker moment left_since from to (λ c. HoldsClosing settled.slots view.pair.into (inside view.pair.part c)) (λ c. HoldsRecord view.current (inside view.pair.part c))
      (λ c. still_held view gives may_leave settled empties (inside view.pair.part c)) (run settled.slots settled.pair))

  -- while a new one is stored, it is the old one or the new, with their numbers
  pub next_storing : Fills → (payload : List ℕ) (new : Record) → IsEncoding payload new
      → ((slots : Slots) → IsSettledPair view.pair slots gives may_leave → LeavesOnly moment left_since from to (λ c. HoldsStored slots view.pair.into (record { number = view.pair.number + 1; payload = payload }) (inside view.pair.part c)))
      → IsSettledConfig now gives may_leave → LeavesOnly moment left_since from to (λ c. HoldsOldOrNext now new (inside now.pair.part c))
  next_storing fills payload new encodes run = subst (λ (s : State). IsSettledConfig s gives may_leave → LeavesOnly moment left_since from to (λ c. HoldsOldOrNext s new (inside s.pair.part c))) is
      (λ settled. weaker moment left_since from to (λ c. HoldsStored settled.slots view.pair.into (record { number = view.pair.number + 1; payload = payload }) (inside view.pair.part c)) (λ c. HoldsOldOrNext view new (inside view.pair.part c))
      (λ c. old_or_next view gives may_leave settled empties fills payload new encodes (inside view.pair.part c)) (run settled.slots settled.pair))

  -- so it is one of them
  pub either_storing : Fills → (payload : List ℕ) (new : Record) → IsEncoding payload new
      → ((slots : Slots) → IsSettledPair view.pair slots gives may_leave → LeavesOnly moment left_since from to (λ c. HoldsStored slots view.pair.into (record { number = view.pair.number + 1; payload = payload }) (inside view.pair.part c)))
      → IsSettledConfig now gives may_leave → LeavesOnly moment left_since from to (λ c. HoldsOldOrNew now.current new (inside now.pair.part c))
  either_storing fills payload new encodes run settled =
      weaker moment left_since from to (λ c. HoldsOldOrNext now new (inside now.pair.part c)) (λ c. HoldsOldOrNew now.current new (inside now.pair.part c)) (λ c. without_number now new (inside now.pair.part c))
      (next_storing fills payload new encodes run settled)
