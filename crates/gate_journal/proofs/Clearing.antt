-- How both slots of a pair are written, one after the other.
use Rattle.std.proofs.Common.{◌≡◌, inl, inr, ⊎_elim, ℕ, ◌+◌, ◌*◌, ◌<◌, ◌≤◌, List, [], ◌∷◌, ◌++◌, length, take, drop, replicate, false, true, None, Result, Ok, Err, OnOk, refl, sym, ◌∙◌, ap, subst, arith, append_assoc}
use Rattle.std.proofs.lemmas.List.{length-take, length-drop, take_at, take-append-drop}
use Rattle.byteorder.specs.Endian.{big_bytes}
use Rattle.disk_model.specs.Disk.{Elapses, Follows, Holds, LeavesOnly, NothingNew, Torn}
use Rattle.disk_model.specs.Frames.{both, goes_on_inside, others_keep}
use Rattle.disk_model.specs.Moments.{then_run, weaker}
use Rattle.disk_model.specs.Part.{inside, IsApart, LeftInside, TouchesOnly}
use Rattle.disk_model.specs.declared.part.Part.{Part}
use Rattle.gate_journal.specs.Pair.{HasGate, HoldsSlot, IsTornIn, Uncovers, entry_encoding, slot_bytes}
use Rattle.gate_journal.specs.Reading.{HoldsAt}
use Rattle.gate_journal.proofs.Encodings.{heads_apart}
use Rattle.gate_journal.proofs.Pairs.{range_bytes}
use Rattle.gate_journal.proofs.Runs.{Tears, torn_once}
use Rattle.gate_journal.proofs.Standing.{stands_before, stands_put}

pub on_ok_always : {T E P : Type 0} (result : Result T E) → P → OnOk result P
on_ok_always (Ok v) p = p
on_ok_always (Err e) p = tt

torn_same : (at n : ℕ) (x : List ℕ) → Torn at n x x
torn_same at n x = record { size = refl; before = refl; after = refl }

-- a range of a slot that was torn
pub torn_in : (part range : Part) → part.len ≡ 8192 → (slot : ℕ) → slot < 2 → range.start ≡ part.start + 4096 * slot → range.len ≡ 4096 → (at n : ℕ) (left : List ℕ → Type 0) (c : List ℕ) → Tears range at n left (inside range c) → IsTornIn part slot at n left c
torn_in part range is_pair slot lt starts long at n left c (y, (d, was, is), torn) = (
  inside part d,
  (d, was, refl),
  subst (Torn at n (slot_bytes slot (inside part d))) (range_bytes part range is_pair slot lt starts long c)
      (subst (λ (x : List ℕ). Torn at n x (inside range c)) (is ∙ range_bytes part range is_pair slot lt starts long d) torn),
)

module _ {D : Type 0} {moment : D → ℕ} {left_since : D → ℕ → List ℕ → Type 0} {gives : D → List ℕ} {may_leave : D → List ℕ → Type 0} (a b : Part) (apart : IsApart a b) (at n : ℕ) (d0 d1 : D)
    (only_now : (d : D) (c : List ℕ) → left_since d (moment d) c → may_leave d c)
    (frame_a : TouchesOnly gives may_leave moment left_since a d0 d1) (time_a : Elapses (moment d0) (moment d1) (left_since d0) (left_since d1) (may_leave d1))
    (follows_a : Follows (Torn at n) (LeftInside a (may_leave d0)) (LeftInside a (may_leave d1))) where
  abbrev pub BothTorn : List ℕ → Type 0
  BothTorn c = Tears a at n (may_leave d0) (inside a c) × Tears b at n (may_leave d0) (inside b c)

  apart_back : IsApart b a
  apart_back = ⊎_elim (λ behind. inr behind) (λ ahead. inl ahead) apart

  -- after the first write
  pub one_written : LeavesOnly moment left_since d0 d1 BothTorn
  one_written =
      both (torn_once a at n (may_leave d0) d0 d1 (only_now d0) time_a follows_a)
      (others_keep b (Tears b at n (may_leave d0)) apart frame_a (λ x left. (x, left, torn_same at n x)))

  module _ (d2 : D) (frame_b : TouchesOnly gives may_leave moment left_since b d1 d2) (time_b : Elapses (moment d1) (moment d2) (left_since d1) (left_since d2) (may_leave d2))
      (follows_b : Follows (Torn at n) (LeftInside b (may_leave d1)) (LeftInside b (may_leave d2))) where
    -- after the second
    pub both_written : LeavesOnly moment left_since d0 d2 BothTorn
    both_written =
        then_run moment left_since d0 d1 d2 BothTorn one_written
        (both (others_keep a (Tears a at n (may_leave d0)) apart_back frame_b follows_a)
        (weaker moment left_since d1 d2 (λ c. Tears b at n (may_leave d1) (inside b c)) (λ c. Tears b at n (may_leave d0) (inside b c))
        (λ c (y, was, torn). (y, (frame_a.others b apart).leaves y was, torn))
        (torn_once b at n (may_leave d1) d1 d2 (only_now d1) time_b follows_b)))

    -- and after the sync
    pub both_synced : (d3 : D) → Elapses (moment d2) (moment d3) (left_since d2) (left_since d3) (may_leave d3) → NothingNew (may_leave d2) (may_leave d3) → LeavesOnly moment left_since d0 d3 BothTorn
    both_synced d3 time nothing =
        let left_a : LeavesOnly moment left_since d0 d2 (λ c. Tears a at n (may_leave d0) (inside a c)) = weaker moment left_since d0 d2 BothTorn (λ c. Tears a at n (may_leave d0) (inside a c)) (λ c (p, q). p) both_written in
        let left_b : LeavesOnly moment left_since d0 d2 (λ c. Tears b at n (may_leave d0) (inside b c)) = weaker moment left_since d0 d2 BothTorn (λ c. Tears b at n (may_leave d0) (inside b c)) (λ c (p, q). q) both_written in
        both
        (goes_on_inside a (Tears a at n (may_leave d0)) d3 left_a time (λ x (c, left, is). follows_a x ((frame_b.others a apart_back).leaves x (c, nothing c left, is))))
        (goes_on_inside b (Tears b at n (may_leave d0)) d3 left_b time (λ x (c, left, is).
        let (y, was, torn) = follows_b x (c, nothing c left, is) in
        (y, (frame_a.others b apart).leaves y was, torn)))

length-slot_bytes : (slot : ℕ) (area : List ℕ) → slot < 2 → length area ≡ 8192 → length (slot_bytes slot area) ≡ 4096
length-slot_bytes slot area lt long = omega (arith, length-take 4096 (drop (4096 * slot) area), length-drop (4096 * slot) area)

pub long_slot : (slot : ℕ) (area : List ℕ) → slot < 2 → length area ≡ 8192 → 13 ≤ length (slot_bytes slot area)
long_slot slot area lt long = omega (arith, length-slot_bytes slot area lt long)

-- zeros in the places of the numbers
abbrev pub zeros : List ℕ
zeros = replicate 12 0

empty : (xs : List ℕ) → 0 ≡ length xs → xs ≡ []
empty [] e = refl
empty (x ∷ xs) e = absurd (omega arith)

-- where a slot's numbers are torn, a payload is what stood there
pub torn_uncovers : (x y : List ℕ) → Torn 1 12 x y → Uncovers x y
unfolding entry_encoding
torn_uncovers x y torn entry (rest, is, encoded) =
    let head : List ℕ = 1 ∷ (big_bytes 8 entry.number ++ big_bytes 4 (length entry.payload)) in
    let cut : y ≡ head ++ (entry.payload ++ rest) = encoded ∙ append_assoc head entry.payload rest in
    let gate : take 1 x ≡ 1 ∷ [] = sym torn.before ∙ ap (λ (l : List ℕ). take 1 l) cut in
    let open_before : HasGate false x = (drop 1 x, sym (take-append-drop 1 x) ∙ ap (λ (l : List ℕ). l ++ drop 1 x) gate) in
    let behind : drop 13 x ≡ entry.payload ++ rest = sym torn.after ∙ ap (λ (l : List ℕ). drop 13 l) cut in
    inr (open_before, sym (ap (λ (l : List ℕ). take (length entry.payload) l) behind ∙ take_at entry.payload rest (length entry.payload) refl))

-- and where they are zeros and the gate is torn, there is none
pub zeroed_uncovers : (x mid y : List ℕ) → 13 ≤ length x → Holds x 1 zeros mid → Torn 0 1 mid y → Uncovers x y
unfolding entry_encoding
zeroed_uncovers x mid y long put torn entry (rest, is, encoded) =
    let behind : drop 1 mid ≡ zeros ++ drop 13 mid = stands_put x 1 zeros mid (omega arith) put in
    let body : (big_bytes 8 0 ++ big_bytes 4 0) ++ drop 13 mid ≡ (big_bytes 8 entry.number ++ big_bytes 4 (length entry.payload) ++ entry.payload) ++ rest = sym behind ∙ sym torn.after ∙ ap (λ (l : List ℕ). drop 1 l) encoded in
    let apart = heads_apart 8 4 0 0 entry.number (length entry.payload) (drop 13 mid) entry.payload rest (omega arith) (omega (arith, is.limit)) (omega arith) (omega (arith, is.fits)) body in
    inl (empty entry.payload apart.1)

-- a slot without an entry uncovers none
pub none_uncovers : (x y : List ℕ) → HoldsSlot None y → Uncovers x y
none_uncovers x y none entry (rest, is, encoded) = absurd (none entry rest is encoded)

-- a cleared slot's gate is closed
pub cleared_gate : (x : List ℕ) → HoldsAt x 0 13 (replicate 13 0) → HasGate true x
cleared_gate x stands = (0, zeros ++ drop 13 x, λ e. absurd (omega arith), stands)

-- both writes of a slot that is cleared
pub slot_cleared : (x mid y : List ℕ) → 13 ≤ length x → Holds x 1 zeros mid → Holds mid 0 (0 ∷ []) y → HoldsAt y 0 13 (replicate 13 0)
slot_cleared x mid y long behind gate = stands_before x mid y 0 (0 ∷ []) zeros long behind gate
