-- A pair of slots behind gates: what its bytes hold, and what a store may leave of them.
use Rattle.std.specs.Prelude.{◌≡◌, ◌≢◌, ◌⊎◌, ℕ, zero, suc, ◌+◌, ◌-◌, ◌*◌, ◌≤◌, Bool, true, false, nat_lt, if◌then◌else◌, List, [], ◌∷◌, ◌++◌, length, take, drop, Option, Some, None, Vec}
use Rattle.std.specs.declared.alloc.Global.{Global}
use Rattle.byteorder.specs.Endian.{big_bytes}
use Rattle.disk_model.specs.Disk.{Only, Torn}
use Rattle.disk_model.specs.Part.{inside, LeftInside}
use Rattle.disk_model.specs.declared.part.Part.{Part}
use Rattle.gate_journal.specs.declared.batch.TheConstants.{MAX_NUMBER}
use Rattle.gate_journal.specs.declared.pair_slot.TheConstants.{MAX_PAYLOAD}

-- what an open slot holds: the number of the store, and its payload
pub record Entry : Type 0 where
  pub number : ℕ
  pub payload : List ℕ

-- one that a slot can hold
pub record IsEntry (entry : Entry) : Type 0 where
  pub limit : entry.number ≤ MAX_NUMBER
  pub fits : length entry.payload ≤ MAX_PAYLOAD

-- the number in eight bytes, the payload's length in four, the payload
abbrev pub entry_body : ℕ → List ℕ → List ℕ
entry_body number payload = big_bytes 8 number ++ big_bytes 4 (length payload) ++ payload

-- an open gate, and the body
unfoldable pub entry_encoding : Entry → List ℕ
entry_encoding entry = 1 ∷ entry_body entry.number entry.payload

-- a slot holds this entry, with anything behind it; or none, since its bytes don't begin with one
abbrev pub HoldsSlot : Option Entry → List ℕ → Type 0
HoldsSlot None bytes = (entry : Entry) (rest : List ℕ) → IsEntry entry → bytes ≡ entry_encoding entry ++ rest → ⊥
HoldsSlot (Some entry) bytes = (rest : List ℕ) × IsEntry entry × (bytes ≡ entry_encoding entry ++ rest)

-- a slot's gate is closed, or open
abbrev pub HasGate : Bool → List ℕ → Type 0
HasGate true bytes = (gate : ℕ) × (rest : List ℕ) × (gate ≢ 1) × (bytes ≡ gate ∷ rest)
HasGate false bytes = (rest : List ℕ) × (bytes ≡ 1 ∷ rest)

-- what is written to close a gate: nothing where it is closed, since a gate that is rewritten may show open after a stop
abbrev pub closing : Bool → List ℕ
closing true = []
closing false = 0 ∷ []

-- what the two slots of a pair hold
pub record Slots : Type 0 where
  pub first : Option Entry
  pub second : Option Entry

-- the bytes of slot 0 or 1
abbrev pub slot_bytes : ℕ → List ℕ → List ℕ
slot_bytes slot bytes = take 4096 (drop (4096 * slot) bytes)

-- the bytes of a pair hold these
pub record HoldsPair (slots : Slots) (bytes : List ℕ) : Type 0 where
  pub first : HoldsSlot slots.first (slot_bytes 0 bytes)
  pub second : HoldsSlot slots.second (slot_bytes 1 bytes)

-- what slot 0 or 1 holds
abbrev pub entry_of : ℕ → Slots → Option Entry
entry_of zero slots = slots.first
entry_of (suc _) slots = slots.second

-- the same, with this in slot 0 or 1
abbrev pub with_entry : ℕ → Option Entry → Slots → Slots
with_entry zero entry slots = record slots { first = entry }
with_entry (suc _) entry slots = record slots { second = entry }

-- the newer slot: the open one with the greater number, slot 0 where they are equal; slot 1 where none is open
abbrev pub newer_slot : Option Entry → Option Entry → ℕ
newer_slot None second = 1
newer_slot (Some one) None = 0
newer_slot (Some one) (Some other) = if nat_lt one.number other.number then 1 else 0

-- what the pair holds: the entry of its newer slot
abbrev pub newest : Slots → Option Entry
newest slots = entry_of (newer_slot slots.first slots.second) slots

-- the slot that the next store goes into: the other one
abbrev pub next_slot : Slots → ℕ
next_slot slots = 1 - newer_slot slots.first slots.second

-- the number of the last store, 0 where there was none
abbrev pub last_number : Option Entry → ℕ
last_number None = 0
last_number (Some entry) = entry.number

-- While a store goes on, the slot that it goes into holds what it held, nothing, or the new entry; the other slot holds
-- what it held.
abbrev pub HoldsStored : Slots → ℕ → Entry → List ℕ → Type 0
HoldsStored slots into new bytes = HoldsPair slots bytes ⊎ (HoldsPair (with_entry into None slots) bytes ⊎ HoldsPair (with_entry into (Some new) slots) bytes)

-- and until its gate is closed
abbrev pub HoldsClosing : Slots → ℕ → List ℕ → Type 0
HoldsClosing slots into bytes = HoldsPair slots bytes ⊎ HoldsPair (with_entry into None slots) bytes

-- A slot that is cleared shows no entry but one without payload, or, where its gate was open, one whose payload stood
-- there before.
abbrev pub Uncovers : List ℕ → List ℕ → Type 0
Uncovers old new = (entry : Entry) → HoldsSlot (Some entry) new
    → (entry.payload ≡ []) ⊎ (HasGate false old × (entry.payload ≡ take (length entry.payload) (drop 13 old)))

-- in the slot is what might have been left before, but for n bytes from this place on, which may be any
abbrev pub IsTornIn : Part → ℕ → ℕ → ℕ → (List ℕ → Type 0) → List ℕ → Type 0
IsTornIn part slot at n may_leave c = (x : List ℕ) × LeftInside part may_leave x × Torn at n (slot_bytes slot x) (slot_bytes slot (inside part c))

-- what is left of a slot is one that might have been left before, cleared at most
abbrev pub IsCleared : Part → ℕ → (List ℕ → Type 0) → List ℕ → Type 0
IsCleared part slot may_leave c = (x : List ℕ) × LeftInside part may_leave x × Uncovers (slot_bytes slot x) (slot_bytes slot (inside part c))

-- While a pair is made, both slots are cleared at most, or it holds the payload in slot 0 and nothing in slot 1.
abbrev pub IsBeingMade : Part → List ℕ → (List ℕ → Type 0) → List ℕ → Type 0
IsBeingMade part payload may_leave c = (IsCleared part 0 may_leave c × IsCleared part 1 may_leave c)
    ⊎ HoldsPair (record { first = Some (record { number = 1; payload = payload }); second = None }) (inside part c)

-- a pair in a part of a disk: the number of its last store, the slot that the next goes into, whether the gates of that
-- slot and of the other are closed, and whether a device call failed
pub record Pair : Type 0 where
  pub part : Part
  pub number : ℕ
  pub into : ℕ
  pub is_closed : Bool
  pub other_is_closed : Bool
  pub broken : Bool

-- the pair after one store more
abbrev pub stored : Pair → Pair
stored pair = record pair { number = pair.number + 1; into = 1 - pair.into; is_closed = pair.other_is_closed; other_is_closed = false }

-- The part holds these entries, the pair knows which is the newer one and which gates are closed, and a stop now leaves
-- the part as it is.
pub record IsSettledPair (pair : Pair) (slots : Slots) (gives : List ℕ) (may_leave : List ℕ → Type 0) : Type 0 where
  pub holds : HoldsPair slots (inside pair.part gives)
  pub number : pair.number ≡ last_number (newest slots)
  pub into : pair.into ≡ next_slot slots
  pub gate : HasGate pair.is_closed (slot_bytes pair.into (inside pair.part gives))
  pub other_gate : HasGate pair.other_is_closed (slot_bytes (1 - pair.into) (inside pair.part gives))
  pub runs : pair.broken ≡ false
  pub durable : Only (inside pair.part gives) (LeftInside pair.part may_leave)

-- a payload in memory is that of an entry, and none is none
abbrev pub IsPayloadOf : Option Entry → Option (Vec ℕ Global) → Type 0
IsPayloadOf None None = Unit {0}
IsPayloadOf None (Some bytes) = ⊥
IsPayloadOf (Some entry) None = ⊥
IsPayloadOf (Some entry) (Some bytes) = bytes.items ≡ entry.payload
