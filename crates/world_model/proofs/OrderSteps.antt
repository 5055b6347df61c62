-- What the writes that a member has applied make of its volume, and of a clean range: lemmas for the crate above.
use Rattle.std.proofs.Common.{◌≡◌, ℕ, zero, suc, ◌+◌, ◌-◌, ◌*◌, ◌/◌, ◌<◌, ◌≤◌, max, List, [], ◌∷◌, ◌++◌, length, map, take, drop, refl, sym, ◌∙◌, ap, subst, arith}
use Rattle.std.specs.Prelude.{All, fold}
use Rattle.std.proofs.lemmas.List.{drop-take, map-append, take-append-drop, take-take}
use Rattle.std.proofs.lemmas.List.Elements.{All-cons, All-head, All-nil, All-tail}
use Rattle.std.proofs.lemmas.List.Sums.{fold-append}
use Rattle.version_table.specs.Held.{Held, IsClean, applied_of, writes_upto}
use Rattle.version_table.specs.Marks.{ReachesBlock}
use Rattle.version_table.specs.declared.kept.Kept.{Kept}
use Rattle.volume.specs.Volumes.{length-patched, range-patched_apart}
use Rattle.volume.specs.Writes.{Fits, IsTouched, Overlaps, Placed, patched, volume_of}
use Rattle.world_model.specs.Order.{HasApplied, volume_after}

-- ---- a member's volume

module _ (size : ℕ) (own : List Kept) (volume : List ℕ) (table : Held) (has : HasApplied size own volume table) where
  -- the volume after the writes up to a number, of those that it has applied
  pub volume_at_number : (j : ℕ) → table.forgotten ≤ j → j ≤ applied_of table → fold patched volume (writes_upto table j) ≡ volume_after size (take j own)
  volume_at_number j from upto =
      let n : ℕ = j - table.forgotten in
      let whole : take j own ≡ has.done ++ take n table.kept = taken_are in
      let written : map (λ (k : Kept). k.write) (take j own) ≡ map (λ (k : Kept). k.write) has.done ++ map (λ (k : Kept). k.write) (take n table.kept) =
      ap (map (λ (k : Kept). k.write)) whole ∙ map-append (λ (k : Kept). k.write) has.done (take n table.kept) in
      ap (λ (v : List ℕ). fold patched v (writes_upto table j)) has.volume_is
      ∙ sym (fold-append patched (volume_of size []) (map (λ (k : Kept). k.write) has.done) (writes_upto table j))
      ∙ ap (volume_of size) (sym written)
    where
      take_past : (xs ys : List Kept) (m : ℕ) → length xs ≤ m → take m (xs ++ ys) ≡ xs ++ take (m - length xs) ys
      take_past [] ys m le = let is : m ≡ m - 0 = omega arith in ap (λ (k : ℕ). take k ys) is
      take_past (x ∷ xs) ys zero le = absurd (omega arith)
      take_past (x ∷ xs) ys (suc m) le =
          let is : m - length xs ≡ suc m - length (x ∷ xs) = omega arith in
          ap (λ (l : List Kept). x ∷ l) (take_past xs ys m (omega arith) ∙ ap (λ (k : ℕ). xs ++ take k ys) is)

      taken_are : take j own ≡ has.done ++ take (j - table.forgotten) table.kept
      taken_are = ap (take j) (sym has.own_is) ∙ take_past has.done table.kept j (omega (arith, has.durable)) ∙ ap (λ (m : ℕ). has.done ++ take (j - m) table.kept) has.durable

-- ---- parts of lists

take_two : (m n : ℕ) (l : List Kept) → m ≤ n → take m l ++ take (n - m) (drop m l) ≡ take n l
take_two m n l le =
    let sum : m + (n - m) ≡ n = omega arith in
    ap (λ (xs : List Kept). xs ++ take (n - m) (drop m l)) (sym (take-take m n l le)) ∙ ap (λ (xs : List Kept). take m (take n l) ++ xs) (sym (drop-take m (n - m) l) ∙ ap (λ (k : ℕ). drop m (take k l)) sum)
    ∙ take-append-drop m (take n l)

all_taken : {A : Type 0} (P : A → Type 0) (n : ℕ) (xs : List A) → All P xs → All P (take n xs)
all_taken P zero xs all = All-nil P
all_taken P (suc n) [] all = all
all_taken P (suc n) (x ∷ xs) all = All-cons P x (take n xs) (All-head P x xs all) (all_taken P n xs (All-tail P x xs all))

all_dropped : {A : Type 0} (P : A → Type 0) (n : ℕ) (xs : List A) → All P xs → All P (drop n xs)
all_dropped P zero xs all = all
all_dropped P (suc n) [] all = all
all_dropped P (suc n) (x ∷ xs) all = all_dropped P n xs (All-tail P x xs all)

-- ---- a clean range

length_folded : (size : ℕ) (volume : List ℕ) (ks : List Kept) → length volume ≡ size → All (λ k. Fits size k.write) ks → length (fold patched volume (map (λ k. k.write) ks)) ≡ size
length_folded size volume [] sized inside = sized
length_folded size volume (k ∷ ks) sized inside =
    let fits : Fits (length volume) k.write = subst (λ (n : ℕ). Fits n k.write) (sym sized) (All-head (λ (x : Kept). Fits size x.write) k ks inside) in
    length_folded size (patched volume k.write) ks (length-patched volume k.write fits ∙ sized) (All-tail (λ (x : Kept). Fits size x.write) k ks inside)

-- a write that reaches a range touches one of its blocks
reaches_block : (w : Placed) (offset len : ℕ) → Overlaps w offset len → (b : ℕ) × ReachesBlock offset len b × IsTouched w b
reaches_block w offset len (left, right, some, long) =
    let x : ℕ = max w.offset offset in
    let b : ℕ = x / 4096 in
    let low : 4096 * b ≤ x = omega arith in
    let high : x < 4096 * b + 4096 = omega arith in
    (b, (omega arith, omega arith, long), (omega arith, omega arith, some))

unreached : (size offset len : ℕ) (volume : List ℕ) (ks : List Kept) → length volume ≡ size → All (λ k. Fits size k.write) ks
    → ((b : ℕ) → ReachesBlock offset len b → All (λ k. ¬ IsTouched k.write b) ks)
    → take len (drop offset (fold patched volume (map (λ k. k.write) ks))) ≡ take len (drop offset volume)
unreached size offset len volume [] sized inside clean = refl
unreached size offset len volume (k ∷ ks) sized inside clean =
    let fits : Fits (length volume) k.write = subst (λ (n : ℕ). Fits n k.write) (sym sized) (All-head (λ (x : Kept). Fits size x.write) k ks inside) in
    let apart : ¬ Overlaps k.write offset len = (λ reaches. let (b, in_range, touched) = reaches_block k.write offset len reaches in All-head (λ (x : Kept). ¬ IsTouched x.write b) k ks (clean b in_range) touched) in
    unreached size offset len (patched volume k.write) ks (length-patched volume k.write fits ∙ sized) (All-tail (λ (x : Kept). Fits size x.write) k ks inside)
    (λ b in_range. All-tail (λ (x : Kept). ¬ IsTouched x.write b) k ks (clean b in_range))
    ∙ range-patched_apart volume k.write offset len fits apart

-- the range is the same at each number from the one on up to which it is clean
pub clean_range : (size : ℕ) (volume : List ℕ) (table : Held) (offset len known front : ℕ) → length volume ≡ size → All (λ k. Fits size k.write) table.kept → IsClean table offset len known
    → table.forgotten ≤ known → known ≤ front → front ≤ applied_of table
    → take len (drop offset (fold patched volume (writes_upto table front))) ≡ take len (drop offset (fold patched volume (writes_upto table known)))
clean_range size volume table offset len known front sized inside clean from more upto =
    let a : ℕ = known - table.forgotten in
    let b : ℕ = front - table.forgotten in
    let first : List Kept = take a table.kept in
    let later : List Kept = take (b - a) (drop a table.kept) in
    let whole : take b table.kept ≡ first ++ later = sym (take_two a b table.kept (omega arith)) in
    let split : fold patched volume (writes_upto table front) ≡ fold patched (fold patched volume (map (λ (k : Kept). k.write) first)) (map (λ (k : Kept). k.write) later) =
    ap (λ (ks : List Kept). fold patched volume (map (λ (k : Kept). k.write) ks)) whole ∙ ap (fold patched volume) (map-append (λ (k : Kept). k.write) first later)
    ∙ fold-append patched volume (map (λ (k : Kept). k.write) first) (map (λ (k : Kept). k.write) later) in
    let long : length (fold patched volume (map (λ (k : Kept). k.write) first)) ≡ size = length_folded size volume first sized (all_taken (λ (k : Kept). Fits size k.write) a table.kept inside) in
    ap (λ (v : List ℕ). take len (drop offset v)) split
    ∙ unreached size offset len (fold patched volume (map (λ (k : Kept). k.write) first)) later long
    (all_taken (λ (k : Kept). Fits size k.write) (b - a) (drop a table.kept) (all_dropped (λ (k : Kept). Fits size k.write) a table.kept inside))
    (λ block in_range. all_taken (λ (k : Kept). ¬ IsTouched k.write block) (b - a) (drop a table.kept) (clean block in_range))
