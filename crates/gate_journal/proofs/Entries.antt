-- One slot of a pair: which entry its bytes hold, and what a write leaves of it.
use Rattle.std.proofs.Common.{◌≡◌, ◌⊎◌, inl, inr, ℕ, ◌+◌, ◌^◌, ◌<◌, ◌≤◌, Bool, true, false, List, [], ◌∷◌, ◌++◌, length, get_or, take, drop, Option, Some, None, refl, sym, ◌∙◌, ap, subst, arith, append_assoc, length-append, length-drop, take-append-drop}
use Rattle.std.proofs.lemmas.Bool.{cases_eq}
use Rattle.std.proofs.lemmas.List.{drop_more, length-take-le, take_at}
use Rattle.std.specs.Option.{SomeIff}
use Rattle.byteorder.specs.Endian.{big_bytes}
use Rattle.byteorder.specs.Numbers.{length-bytes_high_first}
use Rattle.disk_model.specs.Disk.{Holds, Torn}
use Rattle.gate_journal.specs.Pair.{Entry, IsEntry, HasGate, HoldsSlot, closing, entry_body, entry_encoding}
use Rattle.gate_journal.specs.PairSlot.{entry_behind}
use Rattle.gate_journal.specs.Reading.{HoldsAt}
use Rattle.gate_journal.specs.declared.pair_slot.EntryHead.{EntryHead}
use Rattle.gate_journal.proofs.Appending.{torn_behind, put_behind, torn_gate}
use Rattle.gate_journal.proofs.Lists.{same_halves}
use Rattle.gate_journal.proofs.Encodings.{heads_apart}
use Rattle.gate_journal.proofs.Standing.{stands_before}

-- the widths stand as variables, so that nothing computes
abbrev body : ℕ → ℕ → Entry → List ℕ
body w m e = big_bytes w e.number ++ big_bytes m (length e.payload) ++ e.payload

bodies_apart : (w m : ℕ) (x y : Entry) (r s : List ℕ) → x.number < 256 ^ w → y.number < 256 ^ w → length x.payload < 256 ^ m → length y.payload < 256 ^ m → body w m x ++ r ≡ body w m y ++ s → x ≡ y
bodies_apart w m x y r s number number' len len' e =
    let apart = heads_apart w m x.number (length x.payload) y.number (length y.payload) (x.payload ++ r) y.payload s number number' len len'
    (sym (append_assoc (big_bytes w x.number ++ big_bytes m (length x.payload)) x.payload r) ∙ e) in
    let payloads = same_halves x.payload r y.payload s apart.1 apart.2 in
    let number_is = apart.0 in
    let payload_is = payloads.0 in
    λ i. record { number = number_is i; payload = payload_is i }

-- no encoding of an entry begins another
pub entries_apart : (x y : Entry) (r s : List ℕ) → IsEntry x → IsEntry y → entry_encoding x ++ r ≡ entry_encoding y ++ s → x ≡ y
unfolding entry_encoding
entries_apart x y r s is is' e =
    let behind : body 8 4 x ++ r ≡ body 8 4 y ++ s = cc in
    bodies_apart 8 4 x y r s (omega (arith, is.limit)) (omega (arith, is'.limit)) (omega (arith, is.fits)) (omega (arith, is'.fits)) behind

-- an entry begins with an open gate
pub open_gate : (entry : Entry) (gate : ℕ) (r s : List ℕ) → gate ∷ r ≡ entry_encoding entry ++ s → gate ≡ 1
unfolding entry_encoding
open_gate entry gate r s e = cc

-- behind a closed gate there is none
pub none_behind : (bytes : List ℕ) → HasGate true bytes → HoldsSlot None bytes
none_behind bytes (gate, rest, shut, is) entry behind are e = shut (open_gate entry gate rest behind (sym is ∙ e))

-- bytes hold one entry, or none
pub one_entry : (x y : Option Entry) (bytes : List ℕ) → HoldsSlot x bytes → HoldsSlot y bytes → x ≡ y
one_entry None None bytes holds holds' = refl
one_entry None (Some y) bytes holds (rest, is, encoded) = absurd (holds y rest is encoded)
one_entry (Some x) None bytes (rest, is, encoded) holds = absurd (holds x rest is encoded)
one_entry (Some x) (Some y) bytes (rest, is, encoded) (rest', is', encoded') = ap (λ (e : Entry). Some e) (entries_apart x y rest rest' is is' (sym encoded ∙ encoded'))

-- so it is none behind a closed gate
pub closed_is_none : (entry : Option Entry) (bytes : List ℕ) → HasGate true bytes → HoldsSlot entry bytes → entry ≡ None
closed_is_none entry bytes closed holds = one_entry entry None bytes holds (none_behind bytes closed)

-- a gate that is being closed
pub closing_torn : (b : Bool) (entry : Option Entry) (x y : List ℕ) (n : ℕ) → n ≡ length (closing b) → HoldsSlot entry x → HasGate b x → Torn 0 n x y → HoldsSlot entry y ⊎ HoldsSlot None y
closing_torn true entry x y n is holds gate torn =
    let nothing : drop n y ≡ drop n x = ap (λ (k : ℕ). drop k y) (omega arith) ∙ torn.after ∙ ap (λ (k : ℕ). drop k x) (omega arith) in
    let same : y ≡ x = subst (λ (k : ℕ). drop k y ≡ drop k x) is nothing in
    inl (subst (HoldsSlot entry) (sym same) holds)
closing_torn false entry x y n is holds (rest, opened) torn =
    let one : Torn 0 1 (1 ∷ rest) y = subst (λ (k : ℕ). Torn 0 k (1 ∷ rest) y) is (subst (λ (l : List ℕ). Torn 0 n l y) opened torn) in
    let (gate, same) = torn_gate [] 0 refl 1 rest y one in
    elim (cases_eq gate 1) [
      | inl still ↦ inl (subst (HoldsSlot entry) (opened ∙ sym (same ∙ ap (λ (g : ℕ). g ∷ rest) still)) holds)
      | inr shut ↦ inr (none_behind y (gate, rest, shut, same))
    ]

-- a write behind a closed gate
pub behind_torn : (n : ℕ) (x y : List ℕ) → HasGate true x → Torn 1 n x y → HoldsSlot None y
behind_torn n x y (gate, rest, shut, is) torn =
    none_behind y (gate, drop 1 y, shut, torn_behind [] 0 refl gate rest n y (subst (λ (l : List ℕ). Torn 1 n l y) is torn))

module _ (new : Entry) (is_new : IsEntry new) (bytes : List ℕ) (encoded : bytes ≡ entry_body new.number new.payload) where
  -- behind an open gate it counts
  counts : (gate : ℕ) (end y : List ℕ) → gate ≡ 1 → y ≡ gate ∷ (bytes ++ end) → HoldsSlot (Some new) y
  unfolding entry_encoding
  counts gate end y is same = (end, is_new, same ∙ ap (λ (g : ℕ). g ∷ (bytes ++ end)) is ∙ ap (λ (l : List ℕ). 1 ∷ (l ++ end)) encoded)

  -- a gate that is being opened
  pub opening_torn : (x mid y : List ℕ) → HasGate true x → Holds x 1 bytes mid → Torn 0 1 mid y → HoldsSlot None y ⊎ HoldsSlot (Some new) y
  opening_torn x mid y (gate, rest, shut, is) put torn =
      let (end, behind) = put_behind [] 0 refl gate rest bytes mid (subst (λ (l : List ℕ). Holds l 1 bytes mid) is put) in
      let (other, same) = torn_gate [] 0 refl gate (bytes ++ end) y (subst (λ (l : List ℕ). Torn 0 1 l y) behind torn) in
      elim (cases_eq other 1) [
        | inl opened ↦ inr (counts other end y opened same)
        | inr closed ↦ inl (none_behind y (other, bytes ++ end, closed, same))
      ]

-- what stands at the front of a slot is held
pub held : (new : Entry) (area : List ℕ) (n : ℕ) → IsEntry new → HoldsAt area 0 n (entry_encoding new) → HoldsSlot (Some new) area
held new area n is stands = (drop n area, is, stands)

-- an open gate stands there too
pub held_open : (new : Entry) (area : List ℕ) → HoldsSlot (Some new) area → HasGate false area
unfolding entry_encoding
held_open new area (rest, is, encoded) = (entry_body new.number new.payload ++ rest, encoded)

-- a slot's first bytes are a gate and what is behind it
pub at_front : (area bytes rest : List ℕ) → length bytes ≡ 13 → area ≡ bytes ++ drop 13 area → drop 1 bytes ≡ rest → area ≡ get_or bytes 0 0 ∷ (rest ++ drop 13 area)
at_front area bytes rest size stands is =
    stands ∙ ap (λ (l : List ℕ). l ++ drop 13 area) (drop_more bytes 0 0 (omega arith) ∙ ap (λ (l : List ℕ). get_or bytes 0 0 ∷ l) is)

-- what a slot holds that begins with a gate and two numbers
module _ (area : List ℕ) (gate f n : ℕ) (rest : List ℕ) (is : area ≡ gate ∷ ((big_bytes 8 f ++ big_bytes 4 n) ++ rest)) (number : f < 2 ^ 64) (len : n < 2 ^ 32) where
  read_apart : (entry : Entry) (behind : List ℕ) → IsEntry entry → area ≡ entry_encoding entry ++ behind → (f ≡ entry.number) × (n ≡ length entry.payload)
  unfolding entry_encoding
  read_apart entry behind are e =
      let text : (big_bytes 8 f ++ big_bytes 4 n) ++ rest ≡ (big_bytes 8 entry.number ++ big_bytes 4 (length entry.payload) ++ entry.payload) ++ behind = cc in
      let apart = heads_apart 8 4 f n entry.number (length entry.payload) rest entry.payload behind (omega arith) (omega (arith, are.limit)) (omega arith) (omega (arith, are.fits)) text in
      (apart.0, apart.1)

  pub head_of_none : ((gate ≡ 1) → (f ≤ 9223372036854775807) → (n ≤ 4083) → ⊥) → HoldsSlot None area
  head_of_none never entry behind are e =
      let apart = read_apart entry behind are e in
      never (open_gate entry gate ((big_bytes 8 f ++ big_bytes 4 n) ++ rest) behind (sym is ∙ e)) (omega (arith, apart.0, are.limit)) (omega (arith, apart.1, are.fits))

  pub head_of_some : gate ≡ 1 → f ≤ 9223372036854775807 → n ≤ 4083 → n ≤ length rest → (payload : List ℕ) → payload ≡ take n rest → HoldsSlot (Some (record { number = f; payload = payload })) area
  unfolding entry_encoding
  head_of_some opened limit fits long payload payload_is =
      let size : length payload ≡ n = ap (λ (l : List ℕ). length l) payload_is ∙ length-take-le n rest long in
      let head = big_bytes 8 f ++ big_bytes 4 n in (
        drop n rest,
        record { limit = limit; fits = omega (arith, size) },
        is ∙ ap (λ (g : ℕ). g ∷ (head ++ rest)) opened
            ∙ ap (λ (l : List ℕ). 1 ∷ (head ++ l)) (sym (take-append-drop n rest))
            ∙ ap (λ (l : List ℕ). 1 ∷ l) (sym (append_assoc head (take n rest) (drop n rest)))
            ∙ ap (λ (l : List ℕ). 1 ∷ (head ++ l ++ drop n rest)) (sym payload_is)
            ∙ ap (λ (k : ℕ). 1 ∷ (big_bytes 8 f ++ big_bytes 4 k ++ payload ++ drop n rest)) (sym size),
      )

-- two numbers and a payload written over something
pub overwritten : (w m n : ℕ) (a b payload x y one two three post post' : List ℕ) → length a ≡ w → length b ≡ m → length payload ≡ n → one ≡ a ++ x → two ≡ b ++ y → three ≡ payload
    → take (w + m + n) (take (w + m) (take w one ++ (two ++ post)) ++ (three ++ post')) ≡ a ++ b ++ payload
overwritten w m n a b payload x y one two three post post' len_a len_b len_payload one_is two_is three_is =
    let first : take w one ≡ a = ap (λ (l : List ℕ). take w l) one_is ∙ take_at a x w len_a in
    let inner : take w one ++ (two ++ post) ≡ (a ++ b) ++ (y ++ post) =
    ap (λ (l : List ℕ). l ++ (two ++ post)) first ∙ ap (λ (l : List ℕ). a ++ (l ++ post)) two_is ∙ ap (λ (l : List ℕ). a ++ l) (append_assoc b y post) ∙ sym (append_assoc a b (y ++ post)) in
    let numbers : length (a ++ b) ≡ w + m = omega (arith, length-append a b) in
    let front : take (w + m) (take w one ++ (two ++ post)) ≡ a ++ b = ap (λ (l : List ℕ). take (w + m) l) inner ∙ take_at (a ++ b) (y ++ post) (w + m) numbers in
    ap (λ (l : List ℕ). take (w + m + n) (l ++ (three ++ post'))) front
    ∙ ap (λ (l : List ℕ). take (w + m + n) ((a ++ b) ++ (l ++ post'))) three_is
    ∙ ap (λ (l : List ℕ). take (w + m + n) l) (sym (append_assoc (a ++ b) payload post'))
    ∙ take_at (a ++ b ++ payload) post' (w + m + n) (omega (arith, length-append (a ++ b) payload, numbers))

length-entry_body : (w m number : ℕ) (payload : List ℕ) → length (big_bytes w number ++ big_bytes m (length payload) ++ payload) ≡ w + m + length payload
length-entry_body w m number payload =
    omega (arith, length-append (big_bytes w number ++ big_bytes m (length payload)) payload, length-append (big_bytes w number) (big_bytes m (length payload)), length-bytes_high_first w number, length-bytes_high_first m (length payload))

-- a body written behind a gate, and the gate then opened
pub entry_stands : (new : Entry) (area mid last bytes : List ℕ) → bytes ≡ entry_body new.number new.payload → 13 + length new.payload ≤ length area → Holds area 1 bytes mid → Holds mid 0 (1 ∷ []) last
    → HoldsAt last 0 (13 + length new.payload) (entry_encoding new)
unfolding entry_encoding
entry_stands new area mid last bytes is fits behind before =
    let size : length bytes ≡ 12 + length new.payload = ap (λ (l : List ℕ). length l) is ∙ length-entry_body 8 4 new.number new.payload in
    let there = stands_before area mid last 0 (1 ∷ []) bytes (omega arith) behind before in
    let to : 1 + length bytes ≡ 13 + length new.payload = omega arith in
    subst (λ (k : ℕ). HoldsAt last 0 k (1 ∷ entry_body new.number new.payload)) to (subst (λ (l : List ℕ). HoldsAt last 0 (1 + length bytes) (1 ∷ l)) is there)

-- what a slot holds, by its head: an entry exactly where the head may be one's
pub entry_by_head : (area bytes : List ℕ) (f n : ℕ) → length area ≡ 4096 → length bytes ≡ 13 → area ≡ bytes ++ drop 13 area → drop 1 bytes ≡ big_bytes 8 f ++ big_bytes 4 n → f < 2 ^ 64 → n < 2 ^ 32 → get_or bytes 0 0 ≡ 1
    → (head : Option EntryHead) → SomeIff head ((f ≤ 9223372036854775807) × (n ≤ 4083)) (record { number = f; len = n }) → HoldsSlot (entry_behind head area) area
entry_by_head area bytes f n long size stands numbers f_fits n_fits opened None never =
    head_of_none area (get_or bytes 0 0) f n (drop 13 area) (at_front area bytes (big_bytes 8 f ++ big_bytes 4 n) size stands numbers) f_fits n_fits (λ _ limit fits. never (limit, fits))
entry_by_head area bytes f n long size stands numbers f_fits n_fits opened (Some head) (possible, same) =
    subst (λ (h : EntryHead). HoldsSlot (entry_behind (Some h) area) area) (sym same)
    (head_of_some area (get_or bytes 0 0) f n (drop 13 area) (at_front area bytes (big_bytes 8 f ++ big_bytes 4 n) size stands numbers) f_fits n_fits opened possible.0 possible.1 (omega (arith, length-drop 13 area, possible.1)) (take n (drop 13 area)) refl)
