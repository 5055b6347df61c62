-- What writes make of a volume, its blocks and its ranges: lemmas for the crates above.
use Rattle.std.proofs.Common.{◌≡◌, ◌==◌, ℕ, zero, suc, ◌+◌, ◌-◌, ◌*◌, ◌<◌, ◌≤◌, true, List, [], ◌∷◌, length, get_or, take, drop, replicate, refl, sym, ◌∙◌, ap, rules, arith, inl, inr}
use Rattle.std.specs.Prelude.{All, filter, fold}
use Rattle.std.proofs.lemmas.List.{places, same_lists, length-take, length-drop, length-replicate, get_or-take, get_or-drop, take-append-drop, take-replicate, drop-replicate, take_all}
use Rattle.std.proofs.lemmas.List.Sums.{fold_push, fold_more, fold-append}
use Rattle.std.proofs.lemmas.List.Elements.{All-head, All-tail}
use Rattle.std.proofs.lemmas.Bool.{and_parts, cases_lt, cases_Bool, both_ways}
use Rattle.std.proofs.Math.Seq.{take-add}
use Rattle.std.proofs.Math.Nat.{mul-zero, mul-suc}
use Rattle.std.proofs.lemmas.Bool.Decides.{nat_tests}
use Rattle.volume.specs.Body.{is_zeros}
use Rattle.volume.specs.Laws.{OneMoreIsLast, FrontsGoByOne, FrontsGoOn, WritesKeepLength, VolumesHaveTheirSize, BlocksAreWhole, BlocksMakeVolumes, TestAgrees, UntouchedBlocksStay, BlocksFollowTheirWrites, BlocksBeginAsZeros, UnreachedRangesStay, WritesReadBack, BlocksMakeTheWrite}
use Rattle.volume.specs.Writes.{Placed, Fits, patched, volume_of, block_of, IsTouched, touches}

pub volume_of-push : OneMoreIsLast
volume_of-push size ws w = fold_push patched (replicate size 0) ws w

pub volume_of-take_more : FrontsGoByOne
volume_of-take_more size k ws d lt = fold_more patched (replicate size 0) ws k d lt

pub volume_of-split : FrontsGoOn
volume_of-split size k ws = ap (volume_of size) (sym (take-append-drop k ws)) ∙ fold-append patched (replicate size 0) (take k ws) (drop k ws)

-- a byte of a range
pub get_or-range : (offset len : ℕ) (volume : List ℕ) (k d : ℕ) → k < len → get_or (take len (drop offset volume)) k d ≡ get_or volume (offset + k) d
get_or-range offset len volume k d lt = rw (get_or-take len (drop offset volume) k d lt, get_or-drop offset volume k d) refl

-- ranges of volumes that are as long
pub length-range : (offset len : ℕ) (volume other : List ℕ) → length volume ≡ length other → length (take len (drop offset volume)) ≡ length (take len (drop offset other))
length-range offset len volume other same = simp (length-take, length-drop, same) refl

below_len : (offset len : ℕ) (volume : List ℕ) (k : ℕ) → k < length (take len (drop offset volume)) → k < len
below_len offset len volume k lt = omega (arith, lt, length-take len (drop offset volume))

-- ranges with the same bytes
same_ranges : (offset len : ℕ) (volume other : List ℕ) → length volume ≡ length other → ((i d : ℕ) → offset ≤ i → i < offset + len → get_or volume i d ≡ get_or other i d)
    → take len (drop offset volume) ≡ take len (drop offset other)
same_ranges offset len volume other long same =
    same_lists _ _ (length-range offset len volume other long) (λ k d lt.
    let below : k < len = below_len offset len volume k lt in
    rw (get_or-range offset len volume k d below, get_or-range offset len other k d below) (same (offset + k) d (omega arith) (omega arith)))

pub length-patched : WritesKeepLength
length-patched volume w fits = search (rules, places)

module _ (volume : List ℕ) (w : Placed) (fits : Fits (length volume) w) where
  pub get_or-patched_before : (i d : ℕ) → i < w.offset → get_or (patched volume w) i d ≡ get_or volume i d
  get_or-patched_before i d lt = grind (arith, places)

  pub get_or-patched_within : (i d : ℕ) → w.offset ≤ i → i < w.offset + length w.bytes → get_or (patched volume w) i d ≡ get_or w.bytes (i - w.offset) d
  get_or-patched_within i d le lt = grind (arith, places)

  pub get_or-patched_after : (i d : ℕ) → w.offset + length w.bytes ≤ i → get_or (patched volume w) i d ≡ get_or volume i d
  get_or-patched_after i d le = grind (arith, places)

pub range-patched_apart : UnreachedRangesStay
range-patched_apart volume w offset len fits apart =
    same_ranges offset len (patched volume w) volume (length-patched volume w fits) (λ i d from to. elim (cases_lt i w.offset) [
      | inl before ↦ get_or-patched_before volume w fits i d before
      | inr begun ↦ elim (cases_lt i (w.offset + length w.bytes)) [
        | inl within ↦ absurd (apart (omega arith, omega arith, omega arith, omega arith))
        | inr after ↦ get_or-patched_after volume w fits i d after
      ]
    ])

-- ranges that were the same are the same after a write
pub range-patched_same : (volume other : List ℕ) (w : Placed) (offset len : ℕ) → length volume ≡ length other → Fits (length volume) w → take len (drop offset volume) ≡ take len (drop offset other)
    → take len (drop offset (patched volume w)) ≡ take len (drop offset (patched other w))
range-patched_same volume other w offset len long fits same =
    let fits_other : Fits (length other) w = omega arith in
    let same_at : (k d : ℕ) → k < len → get_or volume (offset + k) d ≡ get_or other (offset + k) d = λ k d lt.
    sym (get_or-range offset len volume k d lt) ∙ ap (λ (l : List ℕ). get_or l k d) same ∙ get_or-range offset len other k d lt in
    same_ranges offset len (patched volume w) (patched other w) (length-patched volume w fits ∙ long ∙ sym (length-patched other w fits_other)) (λ i d from to.
    let was : get_or volume i d ≡ get_or other i d = let at : offset + (i - offset) ≡ i = omega arith in rw at at (same_at (i - offset) d (omega arith)) in
    elim (cases_lt i w.offset) [
      | inl before ↦ get_or-patched_before volume w fits i d before ∙ was ∙ sym (get_or-patched_before other w fits_other i d before)
      | inr begun ↦ elim (cases_lt i (w.offset + length w.bytes)) [
        | inl within ↦ get_or-patched_within volume w fits i d begun within ∙ sym (get_or-patched_within other w fits_other i d begun within)
        | inr after ↦ get_or-patched_after volume w fits i d after ∙ was ∙ sym (get_or-patched_after other w fits_other i d after)
      ]
    ])

pub range-patched_own : WritesReadBack
range-patched_own volume w fits =
    same_lists _ _ (grind (arith, length-take, length-drop, length-patched volume w fits)) (λ k d lt.
    let below : k < length w.bytes = below_len w.offset (length w.bytes) (patched volume w) k lt in
    let same : w.offset + k - w.offset ≡ k = omega arith in
    get_or-range w.offset (length w.bytes) (patched volume w) k d below
    ∙ get_or-patched_within volume w fits (w.offset + k) d (omega arith) (omega arith) ∙ ap (λ i. get_or w.bytes i d) same)

length-writes : (volume : List ℕ) (ws : List Placed) → All (Fits (length volume)) ws → length (fold patched volume ws) ≡ length volume
length-writes volume [] fit = refl
length-writes volume (w ∷ ws) fit =
    let long = length-patched volume w (All-head (Fits (length volume)) w ws fit) in
    length-writes (patched volume w) ws (rw long (All-tail (Fits (length volume)) w ws fit)) ∙ long

pub length-volume_of : VolumesHaveTheirSize
length-volume_of size ws fit = let zeros = length-replicate size 0 in length-writes (replicate size 0) ws (rw zeros fit) ∙ zeros

pub length-block_of : BlocksAreWhole
unfolding block_of
length-block_of volume b inside = omega (arith, length-take 4096 (drop (4096 * b) volume), length-drop (4096 * b) volume)

-- the fronts of two volumes with the same blocks, over blocks of any size
same_fronts : (size : ℕ) (volume other : List ℕ) (n : ℕ) → ((b : ℕ) → b < n → take size (drop (size * b) volume) ≡ take size (drop (size * b) other)) → take (size * n) volume ≡ take (size * n) other
same_fronts size volume other zero same = rw mul-zero refl
same_fronts size volume other (suc n) same =
    rw (mul-suc, take-add (size * n) size volume, take-add (size * n) size other)
    (cc (same_fronts size volume other n (λ b lt. same b (omega arith)), same n (omega arith)))

pub same_from_blocks : BlocksMakeVolumes
unfolding block_of
same_from_blocks n volume other long long_other same =
    sym (take_all (4096 * n) volume (omega arith)) ∙ same_fronts 4096 volume other n same ∙ take_all (4096 * n) other (omega arith)

pub touches_agrees : TestAgrees
touches_agrees b w = (λ yes. grind (arith, nat_tests), λ touched. grind (arith, nat_tests))

pub block_of-patched_untouched : UntouchedBlocksStay
unfolding block_of
block_of-patched_untouched volume w b fits apart = range-patched_apart volume w (4096 * b) 4096 fits (λ r. apart (r.0, r.1, r.2))

pub block_of-patched_same : (volume other : List ℕ) (w : Placed) (b : ℕ) → length volume ≡ length other → Fits (length volume) w → block_of volume b ≡ block_of other b → block_of (patched volume w) b ≡ block_of (patched other w) b
unfolding block_of
block_of-patched_same volume other w b long fits same = range-patched_same volume other w (4096 * b) 4096 long fits same

-- two volumes with the same block, the second without the writes that don't touch it
pub same_block : (b : ℕ) (volume other : List ℕ) (ws : List Placed) → length volume ≡ length other → All (Fits (length volume)) ws → block_of volume b ≡ block_of other b
    → block_of (fold patched volume ws) b ≡ block_of (fold patched other (filter (touches b) ws)) b
same_block b volume other [] long fit same = same
same_block b volume other (w ∷ ws) long fit same =
    let fits = All-head (Fits (length volume)) w ws fit in
    let later : (next : List ℕ) → length next ≡ length other → block_of (patched volume w) b ≡ block_of next b
    → block_of (fold patched (patched volume w) ws) b ≡ block_of (fold patched next (filter (touches b) ws)) b
    = λ next as_long as_before. same_block b (patched volume w) next ws (length-patched volume w fits ∙ long ∙ sym as_long) (rw (length-patched volume w fits) (All-tail (Fits (length volume)) w ws fit)) as_before in
    elim (cases_Bool (touches b w)) [
      | inl touched ↦ rw touched (later (patched other w) (length-patched other w (omega arith)) (block_of-patched_same volume other w b long fits same))
      | inr apart ↦ rw apart (later other refl (block_of-patched_untouched volume w b fits (λ touched. both_ways (touches b w) apart ((touches_agrees b w).1 touched)) ∙ same))
    ]

pub block_of-volume_of-filter : BlocksFollowTheirWrites
block_of-volume_of-filter size b ws fit = same_block b (replicate size 0) (replicate size 0) ws refl (rw (length-replicate {A = ℕ} size 0) fit) refl

range-zeros : (offset len size : ℕ) → offset + len ≤ size → take {A = ℕ} len (drop offset (replicate size 0)) ≡ replicate len 0
range-zeros offset len size inside = rw (drop-replicate {X = ℕ} offset size 0) (take-replicate len (size - offset) 0 (omega arith))

pub block_of-volume_of-nil : BlocksBeginAsZeros
unfolding block_of
block_of-volume_of-nil size b inside = range-zeros (4096 * b) 4096 size (omega arith)

-- a block that the write has whole is the write's own bytes
pub block_of-patched_whole : (volume : List ℕ) (w : Placed) (block : ℕ) → w.offset + length w.bytes ≤ length volume → w.offset ≤ 4096 * block → 4096 * block + 4096 ≤ w.offset + length w.bytes
    → block_of (patched volume w) block ≡ take 4096 (drop (4096 * block - w.offset) w.bytes)
unfolding block_of
block_of-patched_whole volume w block fits from upto =
    let whole : length (take 4096 (drop (4096 * block) (patched volume w))) ≡ 4096 = omega (arith, length-take 4096 (drop (4096 * block) (patched volume w)), length-drop (4096 * block) (patched volume w), length-patched volume w fits) in
    let own : length (take 4096 (drop (4096 * block - w.offset) w.bytes)) ≡ 4096 = omega (arith, length-take 4096 (drop (4096 * block - w.offset) w.bytes), length-drop (4096 * block - w.offset) w.bytes) in
    same_lists _ _ (whole ∙ sym own) (λ k d lt.
    let below : k < 4096 = omega arith in
    let place : 4096 * block + k - w.offset ≡ 4096 * block - w.offset + k = omega arith in
    get_or-range (4096 * block) 4096 (patched volume w) k d below ∙ get_or-patched_within volume w fits (4096 * block + k) d (omega arith) (omega arith)
    ∙ ap (λ i. get_or w.bytes i d) place ∙ sym (get_or-range (4096 * block - w.offset) 4096 w.bytes k d below))

-- bytes that are all zero
pub zeros_are : (bytes : List ℕ) → is_zeros bytes ≡ true → replicate (length bytes) 0 ≡ bytes
zeros_are [] is = refl
zeros_are (byte ∷ bytes) is =
    let (first, rest) = and_parts (byte == 0) (is_zeros bytes) is in
    let none : 0 ≡ byte = grind (arith, first) in
    ap (λ (l : List ℕ). 0 ∷ l) (zeros_are bytes rest) ∙ ap (λ (n : ℕ). n ∷ bytes) none

-- a block that a write of zeros alone has whole
pub block_of-patched_zeros : (volume : List ℕ) (w : Placed) (block : ℕ) → w.offset + length w.bytes ≤ length volume → w.offset ≤ 4096 * block → 4096 * block + 4096 ≤ w.offset + length w.bytes
    → is_zeros w.bytes ≡ true → block_of (patched volume w) block ≡ replicate 4096 0
block_of-patched_zeros volume w block fits from upto zeros =
    block_of-patched_whole volume w block fits from upto ∙ ap (λ (l : List ℕ). take 4096 (drop (4096 * block - w.offset) l)) (sym (zeros_are w.bytes zeros))
    ∙ range-zeros (4096 * block - w.offset) 4096 (length w.bytes) (omega arith)

pub patched_from_blocks : BlocksMakeTheWrite
patched_from_blocks n volume new w long long_new fits touched untouched =
    let fits_volume : Fits (length volume) w = omega arith in
    same_from_blocks n new (patched volume w) long_new (length-patched volume w fits_volume ∙ long) (λ b lt. elim (cases_Bool (touches b w)) [
      | inl touched_here ↦ touched b lt ((touches_agrees b w).0 touched_here)
      | inr elsewhere ↦ let apart : ¬ IsTouched w b = λ reached. both_ways (touches b w) elsewhere ((touches_agrees b w).1 reached) in
          untouched b lt apart ∙ sym (block_of-patched_untouched volume w b fits_volume apart)
    ])
