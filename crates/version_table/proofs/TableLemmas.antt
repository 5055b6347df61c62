-- The fields of a table, after one more write and after the first is forgotten.
use Rattle.std.proofs.Common.{◌≡◌, ℕ, ◌+◌, ◌-◌, ◌*◌, ◌<◌, ◌≤◌, ◌^◌, true, false, List, [], ◌∷◌, ◌++◌, length, get_or, drop, refl, sym, ◌∙◌, inl, inr, arith, add-one, length-append}
use Rattle.std.specs.Prelude.{◌↔◌, ◌⊎◌, All, Option, Some, None, is_some}
use Rattle.std.specs.BTreeSet.{BTreeSet}
use Rattle.std.specs.List.{AllWithin}
use Rattle.std.proofs.lemmas.Bool.{cases_Bool, cases_lt, cases_eq, both_ways}
use Rattle.std.proofs.lemmas.Bool.Decides.{nat_tests}
use Rattle.std.proofs.lemmas.List.{get_or_append_left, get_or-append_right, get_or-drop, length-drop}
use Rattle.std.proofs.lemmas.List.Elements.{All-push, All-tail}
use Rattle.std.proofs.lemmas.List.Sums.{sum_by-append}
use Rattle.volume.specs.Writes.{Placed, Fits, IsTouched}
use Rattle.version_table.specs.Held.{data_of}
use Rattle.volume.specs.Body.{kept_of}
use Rattle.version_table.specs.Marks.{ReachesBlock, IsMarked, is_marked, is_among, AreSet}
use Rattle.version_table.specs.Table.{IsIndexed, AreStored}
use Rattle.version_table.specs.declared.kept.Kept.{Kept}

-- the parts of a mark of a write
among_parts : (first past number block m : ℕ) → is_among first past number block m ≡ true → (m ≡ number) × (first ≤ block) × (block < past)
among_parts first past number block m among = (grind (arith, nat_tests), grind (arith, nat_tests), grind (arith, nat_tests))

among_from : (first past number block m : ℕ) → m ≡ number → first ≤ block → block < past → is_among first past number block m ≡ true
among_from first past number block m same from upto = grind (arith, nat_tests)

not_among : (first past number block m : ℕ) → (m ≡ number → ⊥) → is_among first past number block m ≡ false
not_among first past number block m other = grind (arith, nat_tests)

-- the last of a list that has one more
at_end : (kept : List Kept) (e d : Kept) (i : ℕ) → i ≡ length kept → get_or (kept ++ e ∷ []) i d ≡ e
at_end kept e d i is = get_or-append_right kept (e ∷ []) (length kept) i d refl (omega arith) ∙ (let first : i - length kept ≡ 0 = omega arith in rw first refl)

-- those behind the first
behind_first : (e d : Kept) (rest : List Kept) (i j : ℕ) → j ≡ i + 1 → get_or (e ∷ rest) j d ≡ get_or rest i d
behind_first e d rest i j is = rw (is ∙ add-one i) refl

-- one more write has its own bytes
data_of-push : (kept : List Kept) (e : Kept) → data_of (kept ++ e ∷ []) ≡ data_of kept + kept_of e.write
data_of-push kept e = sum_by-append (λ (k : Kept). kept_of k.write) kept (e ∷ []) ∙ omega arith

data_of-cons : (e : Kept) (rest : List Kept) → data_of (e ∷ rest) ≡ kept_of e.write + data_of rest
data_of-cons e rest = sum_by-append (λ (k : Kept). kept_of k.write) (e ∷ []) rest ∙ omega arith

-- each block of a write, from the first on and before the last one's end
abbrev AreBlocksOf : Placed → ℕ → ℕ → Type 0
AreBlocksOf w first past = (block : ℕ) → ReachesBlock w.offset (length w.bytes) block ↔ ((first ≤ block) × (block < past))

module _ (front : ℕ) (kept : List Kept) (old new : BTreeSet (ℕ × ℕ)) (first past : ℕ) (e : Kept) (index : IsIndexed front kept old) (blocks : AreBlocksOf e.write first past)
    (set : AreSet old new first past (front + length kept + 1) true) where
  -- a mark is an old one, or one of the new write
  marked_before : (block m : ℕ) → IsMarked new block m → IsMarked old block m ⊎ ((m ≡ front + length kept + 1) × IsTouched e.write block)
  marked_before block m marked = elim (cases_Bool (is_among first past (front + length kept + 1) block m)) [
    | inl among ↦ let parts = among_parts first past (front + length kept + 1) block m among in inr (parts.0, (blocks block).1 (parts.1, parts.2))
    | inr apart ↦ inl (rw apart at (sym (set block m) ∙ marked))
  ]

  still_marked : (block m : ℕ) → IsMarked old block m → IsMarked new block m
  still_marked block m marked = elim (cases_Bool (is_among first past (front + length kept + 1) block m)) [
    | inl among ↦ set block m ∙ rw among refl
    | inr apart ↦ set block m ∙ rw apart marked
  ]

  pub IsIndexed-push : IsIndexed front (kept ++ e ∷ []) new
  IsIndexed-push = record {
    above = λ block n marked. elim (marked_before block n marked) [ inl was ↦ index.above block n was | inr is ↦ omega arith ];
    upto = λ block n marked. elim (marked_before block n marked) [
      | inl was ↦ let h = index.upto block n was in omega (arith, length-append kept (e ∷ []))
      | inr is ↦ omega (arith, length-append kept (e ∷ []))
    ];
    touches = λ block n d marked. elim (marked_before block n marked) [
      | inl was ↦
          let above = index.above block n was in
          let upto = index.upto block n was in
          rw (get_or_append_left kept (e ∷ []) d (n - front - 1) (omega arith)) (index.touches block n d was)
      | inr is ↦ rw (at_end kept e d (n - front - 1) (omega arith)) is.1
    ];
    marked = λ block i d below touched. elim (cases_lt i (length kept)) [
      | inl before ↦ still_marked block (front + i + 1) (index.marked block i d before (rw (get_or_append_left kept (e ∷ []) d i before) at touched))
      | inr last ↦
          let here : i ≡ length kept = omega (arith, length-append kept (e ∷ [])) in
          let reached = (blocks block).0 (rw (at_end kept e d i here) at touched) in
          set block (front + i + 1) ∙ rw (among_from first past (front + length kept + 1) block (front + i + 1) (omega arith) reached.0 reached.1) refl
    ];
  }

pub IsIndexed-rest : (front : ℕ) (e : Kept) (rest : List Kept) (old new : BTreeSet (ℕ × ℕ)) (first past : ℕ) → IsIndexed front (e ∷ rest) old → AreBlocksOf e.write first past
    → AreSet old new first past (front + 1) false → IsIndexed (front + 1) rest new
IsIndexed-rest front e rest old new first past index blocks set =
    let was : (block m : ℕ) → IsMarked new block m → IsMarked old block m = λ block m marked. elim (cases_Bool (is_among first past (front + 1) block m)) [
      | inl among ↦ absurd (both_ways (is_marked new block m) (set block m ∙ rw among refl) marked)
      | inr apart ↦ rw apart at (sym (set block m) ∙ marked)
    ] in
    let later : (block m : ℕ) → IsMarked new block m → front + 1 < m = λ block m marked. elim (cases_eq m (front + 1)) [
      | inl same ↦
          let at_first : m - front - 1 ≡ 0 = omega arith in
          let reached = (blocks block).0 (rw at_first at (index.touches block m e (was block m marked))) in
          absurd (both_ways (is_marked new block m) (set block m ∙ rw (among_from first past (front + 1) block m same reached.0 reached.1) refl) marked)
      | inr other ↦ let above = index.above block m (was block m marked) in omega arith
    ] in
    record {
      above = later;
      upto = λ block n marked. let upto = index.upto block n (was block n marked) in omega arith;
      touches = λ block n d marked.
          let above = later block n marked in
          rw (behind_first e d rest (n - (front + 1) - 1) (n - front - 1) (omega arith)) at (index.touches block n d (was block n marked));
      marked = λ block i d below touched.
          let is : front + (i + 1) + 1 ≡ front + 1 + i + 1 = omega arith in
          let before : IsMarked old block (front + (i + 1) + 1) = index.marked block (i + 1) d (omega arith) (rw (behind_first e d rest i (i + 1) refl) touched) in
          set block (front + 1 + i + 1) ∙ rw (not_among first past (front + 1) block (front + 1 + i + 1) (λ same. omega arith)) (rw is at before);
    }

pub AreStored-push : (front : ℕ) (kept : List Kept) (stored : ℕ) (old new : BTreeSet (ℕ × ℕ)) (first past len : ℕ) (e : Kept) → AreStored front kept stored old
    → e.number ≡ front + length kept + 1 → e.number < 2 ^ 64 → Fits (4096 * 65536) e.write → len ≡ kept_of e.write → length kept < 1024 → stored + len ≤ 16777216
    → AreBlocksOf e.write first past → AreSet old new first past e.number true → AreStored front (kept ++ e ∷ []) (stored + len) new
AreStored-push front kept stored old new first past len e before number small fits is_len room room_for blocks set = record {
  numbers = omega (arith, length-append kept (e ∷ []));
  numbered = λ i d below. elim (cases_lt i (length kept)) [
    | inl earlier ↦ rw (get_or_append_left kept (e ∷ []) d i earlier) (before.numbered i d earlier)
    | inr last ↦ let here : i ≡ length kept = omega (arith, length-append kept (e ∷ [])) in rw (at_end kept e d i here) (omega arith)
  ];
  few = omega (arith, length-append kept (e ∷ []));
  small = room_for;
  counted = omega (arith, data_of-push kept e);
  inside = All-push (λ (k : Kept). Fits (4096 * 65536) k.write) kept e before.inside fits;
  indexed = IsIndexed-push front kept old new first past e before.indexed blocks (rw number at set);
}

pub AreStored-rest : (front : ℕ) (e : Kept) (rest : List Kept) (stored : ℕ) (old new : BTreeSet (ℕ × ℕ)) (first past len : ℕ) → AreStored front (e ∷ rest) stored old → len ≡ kept_of e.write
    → AreBlocksOf e.write first past → AreSet old new first past e.number false → AreStored (front + 1) rest (stored - len) new
AreStored-rest front e rest stored old new first past len before is_len blocks set =
    let number : e.number ≡ front + 1 = before.numbered 0 e (omega arith) ∙ omega arith in
    record {
      numbers = omega (arith, before.numbers);
      numbered = λ i d below. rw (← behind_first e d rest i (i + 1) refl) (before.numbered (i + 1) d (omega arith) ∙ omega arith);
      few = omega (arith, before.few);
      small = omega (arith, before.small);
      counted = omega (arith, data_of-cons e rest);
      inside = All-tail (λ (k : Kept). Fits (4096 * 65536) k.write) e rest before.inside;
      indexed = IsIndexed-rest front e rest old new first past before.indexed blocks (rw number at set);
    }

-- where no mark stands, no write touches the block
pub apart_from_marks : (front : ℕ) (kept : List Kept) (marks : BTreeSet (ℕ × ℕ)) (block low stop high : ℕ) → IsIndexed front kept marks → front ≤ low → stop ≤ length kept → front + stop + 1 ≤ high
    → ((m : ℕ) → low + 1 ≤ m → m < high → is_marked marks block m ≡ false) → AllWithin (λ (k : Kept). ¬ IsTouched k.write block) kept (low - front) stop
apart_from_marks front kept marks block low stop high index from short within none = λ k d above below touched.
    both_ways (is_marked marks block (front + k + 1)) (none (front + k + 1) (omega arith) (omega arith)) (index.marked block k d (omega arith) touched)

-- what holds from a place on holds of the rest
pub All-from_within : (P : Kept → Type 0) (kept : List Kept) (i : ℕ) → AllWithin P kept i (length kept) → All P (drop i kept)
All-from_within P kept i within = λ k d lt. rw (get_or-drop i kept k d) (within (i + k) d (omega arith) (omega (arith, length-drop i kept)))

pub at_place_of_rest : (P : Kept → Type 0) (kept : List Kept) (i j : ℕ) (d : Kept) → All P (drop i kept) → i ≤ j → j < length kept → P (get_or kept j d)
at_place_of_rest P kept i j d rest le lt =
    let place : i + (j - i) ≡ j = omega arith in
    rw (get_or-drop i kept (j - i) d, place) at (rest (j - i) d (omega (arith, length-drop i kept)))

pub some_from : {T : Type 0} (o : Option T) → is_some o ≡ true → (x : T) × (o ≡ Some x)
some_from (Some x) there = (x, refl)
some_from None there = cc

pub none_from : {T : Type 0} (o : Option T) → is_some o ≡ false → o ≡ None
none_from (Some x) nothing = cc
none_from None nothing = refl
