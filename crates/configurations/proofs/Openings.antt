-- How a store is made, and what its part holds where it is opened.
use Rattle.std.proofs.Common.{◌≡◌, inl, inr, ⊎_elim, ℕ, List, ◌∷◌, ◌++◌, length, take, drop, Option, Some, None, Vec, Global, refl, sym, ◌∙◌, ap, subst, append_assoc}
use Rattle.std.proofs.lemmas.List.{take_at}
use Rattle.byteorder.specs.Endian.{big_bytes}
use Rattle.disk_model.specs.Part.{inside}
use Rattle.disk_model.specs.declared.part.Part.{Part}
use Rattle.gate_journal.specs.Pair as pair
use Rattle.gate_journal.specs.Pair.{Entry, HoldsPair, IsCleared, IsPayloadOf, Slots, Uncovers, entry_body, entry_encoding, newest, slot_bytes}
use Rattle.configurations.specs.Record.{IsEncoding, Record}
use Rattle.configurations.specs.Store.{HoldsNone, IsBeingMade, Records}

-- what stands behind an open gate shows what stood there
uncovers_itself : (bytes : List ℕ) → Uncovers bytes bytes
unfolding entry_encoding
uncovers_itself bytes entry (rest, is, encoded) =
    let head : List ℕ = 1 ∷ (big_bytes 8 entry.number ++ big_bytes 4 (length entry.payload)) in
    let behind : drop 13 bytes ≡ entry.payload ++ rest = ap (λ (l : List ℕ). drop 13 l) (encoded ∙ append_assoc head entry.payload rest) in
    inr (
      (entry_body entry.number entry.payload ++ rest, encoded),
      sym (ap (λ (l : List ℕ). take (length entry.payload) l) behind ∙ take_at entry.payload rest (length entry.payload) refl),
    )

-- before the first device call
pub not_begun : (part : Part) (r : Record) (may_leave : List ℕ → Type 0) (c : List ℕ) → may_leave c → IsBeingMade part r may_leave c
not_begun part r may_leave c left = inl (cleared 0, cleared 1)
  where
    cleared : (slot : ℕ) → IsCleared part slot may_leave c
    cleared slot = (inside part c, (c, left, refl), uncovers_itself (slot_bytes slot (inside part c)))

-- a pair that is made with the encoding of a record
pub made_with : (part : Part) (r : Record) (payload : List ℕ) (may_leave : List ℕ → Type 0) → IsEncoding payload r → (c : List ℕ) → pair.IsBeingMade part payload may_leave c → IsBeingMade part r may_leave c
made_with part r payload may_leave encodes c made = ⊎_elim
    (λ cleared. inl cleared)
    (λ holds. inr (record { slots = record { first = Some (record { number = 1; payload = payload }); second = None }; holds = holds; newer = encodes }))
    made

-- the bytes of a pair hold none where the newer entry records none
pub none_held : (bytes : List ℕ) (slots : Slots) → HoldsPair slots bytes → ((some others : Slots) (area : List ℕ) → HoldsPair some area → HoldsPair others area → some ≡ others)
    → ((r : Record) → Records (newest slots) r → ⊥) → HoldsNone bytes
none_held bytes slots holds one_reading none r held = none r (subst (λ (s : Slots). Records (newest s) r) (one_reading held.slots slots bytes held.holds holds) held.newer)

-- no payload is the encoding of none
pub no_payload : (entry : Option Entry) (payload : Option (Vec ℕ Global)) → payload ≡ None → IsPayloadOf entry payload → (r : Record) → Records entry r → ⊥
no_payload None payload is_none is r encodes = encodes
no_payload (Some entry) None is_none is r encodes = is
no_payload (Some entry) (Some bytes) is_none is r encodes = cc

-- nor is one that encodes none
pub other_payload : (entry : Option Entry) (payload : Option (Vec ℕ Global)) (bytes : Vec ℕ Global) → payload ≡ Some bytes → IsPayloadOf entry payload → ((r : Record) → IsEncoding bytes.items r → ⊥) → (r : Record) → Records entry r → ⊥
other_payload entry payload bytes is_some is none r = by_entry entry (subst (λ (p : Option (Vec ℕ Global)). IsPayloadOf entry p) is_some is)
  where
    by_entry : (e : Option Entry) → IsPayloadOf e (Some bytes) → Records e r → ⊥
    by_entry None same encodes = encodes
    by_entry (Some e) same encodes = none r (subst (λ (l : List ℕ). IsEncoding l r) (sym same) encodes)

-- where reading found none, none is encoded
pub not_found : (bytes : List ℕ) (found : Option Record) → found ≡ None → ((r : Record) → IsEncoding bytes r → found ≡ Some r) → (r : Record) → IsEncoding bytes r → ⊥
not_found bytes found is_none exact r encodes =
    let is_some = exact r encodes in
    cc
