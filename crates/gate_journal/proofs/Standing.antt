-- Bytes that stand between two places of an area.
use Rattle.std.proofs.Common.{◌≡◌, ℕ, ◌+◌, ◌-◌, ◌<◌, ◌≤◌, List, ◌++◌, length, get_or, take, drop, inl, inr, refl, sym, ◌∙◌, ap, subst, arith, append_assoc, take-append-drop}
use Rattle.std.specs.List.{slice_range}
use Rattle.std.proofs.lemmas.List.{drop-drop, length-take, length-take-le, get_or-take, get_or-drop, get_or_past, length-drop}
use Rattle.std.proofs.lemmas.Bool.{cases_lt}
use Rattle.std.proofs.lemmas.Nat.{be_bytes_4, be_bytes_8}
use Rattle.byteorder.specs.Endian.{big_bytes, big_from}
use Rattle.byteorder.specs.Numbers.{big_from-take}
use Rattle.disk_model.specs.Disk.{Holds}
use Rattle.disk_model.specs.Part.{inside}
use Rattle.disk_model.specs.Writes.{drop-put, length-put, slice-put}
use Rattle.disk_model.specs.declared.part.Part.{Part}
use Rattle.gate_journal.specs.Reading.{HoldsAt}

pub stands_slice : (area : List ℕ) (at m n : ℕ) (bytes : List ℕ) → m ≡ n → bytes ≡ slice_range area at (at + m) → HoldsAt area at (at + n) bytes
stands_slice area at m n bytes same is =
    let count : at + m - at ≡ n = omega arith in
    sym (take-append-drop n (drop at area)) ∙ ap (λ (l : List ℕ). take n (drop at area) ++ l) (drop-drop n at area)
    ∙ ap (λ (l : List ℕ). l ++ drop (at + n) area) (sym (is ∙ ap (λ (k : ℕ). take k (drop at area)) count))

-- one behind the other
pub stands_then : (area : List ℕ) (a b c : ℕ) (xs ys : List ℕ) → HoldsAt area a b xs → HoldsAt area b c ys → HoldsAt area a c (xs ++ ys)
stands_then area a b c xs ys first second = first ∙ ap (λ (l : List ℕ). xs ++ l) second ∙ sym (append_assoc xs ys (drop c area))

-- the bytes of a number, and the number
pub record IsWidth (n : ℕ) : Type 0 where
  pub back : (bytes : List ℕ) → length bytes ≡ n → ((i : ℕ) → get_or bytes i 0 < 256) → big_bytes n (big_from 0 n bytes) ≡ bytes

pub width4 : IsWidth 4
width4 = record { back = λ bytes len fits. be_bytes_4 bytes (big_from 0 4 bytes) len fits (omega arith) }

pub width8 : IsWidth 8
width8 = record { back = λ bytes len fits. be_bytes_8 bytes (big_from 0 8 bytes) len fits (omega arith) }

IsBytes-take : (n : ℕ) (bytes : List ℕ) → ((i : ℕ) → get_or bytes i 0 < 256) → (i : ℕ) → get_or (take n bytes) i 0 < 256
IsBytes-take n bytes fits i =
    elim (cases_lt i n) [
      | inl lt ↦ subst (λ (x : ℕ). x < 256) (sym (get_or-take n bytes i 0 lt)) (fits i)
      | inr le ↦ subst (λ (x : ℕ). x < 256) (sym (get_or_past (take n bytes) i 0 (omega (arith, length-take n bytes)))) (omega arith)
    ]

-- a number, and what is behind it
pub number_is : (w : ℕ) → IsWidth w → (bytes : List ℕ) → w ≤ length bytes → ((i : ℕ) → get_or bytes i 0 < 256) → (x : ℕ) → x ≡ big_from 0 w bytes → bytes ≡ big_bytes w x ++ drop w bytes
number_is w width bytes len fits x is =
    let front : big_bytes w x ≡ take w bytes =
    ap (big_bytes w) (is ∙ sym (big_from-take 0 w w bytes (omega arith))) ∙ width.back (take w bytes) (length-take-le w bytes len) (IsBytes-take w bytes fits) in
    sym (ap (λ (l : List ℕ). l ++ drop w bytes) front ∙ take-append-drop w bytes)

-- two numbers
pub header_is : (w m : ℕ) → IsWidth w → IsWidth m → (bytes : List ℕ) → length bytes ≡ w + m → ((i : ℕ) → get_or bytes i 0 < 256) → (x y : ℕ) → x ≡ big_from 0 w bytes → y ≡ big_from 0 m (take m (drop w bytes))
    → bytes ≡ big_bytes w x ++ big_bytes m y
header_is w m first second bytes len fits x y is is' =
    let back : big_bytes m y ≡ drop w bytes =
    ap (big_bytes m) (is' ∙ big_from-take 0 m m (drop w bytes) (omega arith))
    ∙ second.back (drop w bytes) (omega (arith, length-drop w bytes)) (λ i. subst (λ (z : ℕ). z < 256) (sym (get_or-drop w bytes i 0)) (fits (w + i))) in
    number_is w first bytes (omega arith) fits x is ∙ ap (λ (l : List ℕ). big_bytes w x ++ l) (sym back)

-- what was put in its place stands there
pub stands_put : (area : List ℕ) (at : ℕ) (bytes new : List ℕ) → at + length bytes ≤ length area → Holds area at bytes new → HoldsAt new at (at + length bytes) bytes
stands_put area at bytes new fits holds =
    stands_slice new at (length bytes) (length bytes) bytes refl
    (sym (ap (λ (l : List ℕ). slice_range l at (at + length bytes)) holds ∙ slice-put area at bytes fits))

-- bytes, and what is put right before them
pub stands_before : (area mid new : List ℕ) (at : ℕ) (front bytes : List ℕ) → at + length front + length bytes ≤ length area → Holds area (at + length front) bytes mid → Holds mid at front new
    → HoldsAt new at (at + length front + length bytes) (front ++ bytes)
stands_before area mid new at front bytes fits behind before =
    let long : length mid ≡ length area = ap (λ (l : List ℕ). length l) behind ∙ length-put area (at + length front) bytes fits in
    let same : drop (at + length front) new ≡ drop (at + length front) mid = ap (λ (l : List ℕ). drop (at + length front) l) before ∙ drop-put mid at front (omega arith) in
    let rest : (c : List ℕ) → drop (length bytes) (drop (at + length front) c) ≡ drop (at + length front + length bytes) c = λ c. drop-drop (length bytes) (at + length front) c in
    let there : HoldsAt new (at + length front) (at + length front + length bytes) bytes =
    same ∙ stands_put area (at + length front) bytes mid fits behind
    ∙ ap (λ (l : List ℕ). bytes ++ l) (sym (rest mid) ∙ ap (λ (l : List ℕ). drop (length bytes) l) (sym same) ∙ rest new) in
    stands_then new at (at + length front) (at + length front + length bytes) front bytes (stands_put mid at front new (omega arith) before) there

-- a part within a disk has its length
pub length-inside : (part : Part) (c : List ℕ) (size : ℕ) → length c ≡ size → part.start + part.len ≤ size → length (inside part c) ≡ part.len
length-inside part c size is within = length-take-le part.len (drop part.start c) (omega (arith, length-drop part.start c))
