-- A block of the volume as the writes are done one by one.
use Rattle.std.proofs.Common.{◌≡◌, ℕ, zero, suc, ◌+◌, ◌-◌, ◌<◌, ◌≤◌, List, [], ◌∷◌, length, get_or, take, map, refl, sym, ◌∙◌, arith, add-zero}
use Rattle.std.specs.Prelude.{All, fold}
use Rattle.std.specs.List.{AllWithin}
use Rattle.std.proofs.lemmas.List.{get_or-take, take-map, length-take}
use Rattle.std.proofs.Math.ListN.{get_or-map, length-map}
use Rattle.std.proofs.lemmas.List.Elements.{All-head, All-tail}
use Rattle.std.proofs.lemmas.List.Sums.{fold_more}
use Rattle.volume.specs.Volumes.{length-patched, block_of-patched_untouched}
use Rattle.volume.specs.Writes.{Placed, Fits, patched, block_of, IsTouched}
use Rattle.version_table.specs.declared.kept.Kept.{Kept}

length-writes : (volume : List ℕ) (ws : List Placed) → All (Fits (length volume)) ws → length (fold patched volume ws) ≡ length volume
length-writes volume [] fit = refl
length-writes volume (w ∷ ws) fit =
    let long = length-patched volume w (All-head (Fits (length volume)) w ws fit) in
    length-writes (patched volume w) ws (rw long (All-tail (Fits (length volume)) w ws fit)) ∙ long

module _ (volume : List ℕ) (ws : List Placed) where
  -- the volume after so many of them
  abbrev pub volume_at : ℕ → List ℕ
  volume_at n = fold patched volume (take n ws)

  fewer_fit : (n top : ℕ) → n ≤ top → All (Fits (length volume)) (take top ws) → All (Fits (length volume)) (take n ws)
  fewer_fit n top le fit = λ k d lt.
      let inside : k < n = omega (arith, length-take n ws) in
      rw (get_or-take n ws k d inside, ← get_or-take top ws k d (omega arith)) (fit k d (omega (arith, length-take n ws, length-take top ws)))

  fits_at : (n : ℕ) (d : Placed) → n < length ws → All (Fits (length volume)) (take (n + 1) ws) → Fits (length (volume_at n)) (get_or ws n d)
  fits_at n d below fit =
      let last : Fits (length volume) (get_or ws n d) = rw (get_or-take (n + 1) ws n d (omega arith)) at (fit n d (omega (arith, length-take (n + 1) ws))) in
      rw (length-writes volume (take n ws) (fewer_fit n (n + 1) (omega arith) fit)) last

  -- a block after one more write, if the write makes it so of each volume
  block_of-next : (b n : ℕ) (d : Placed) (old new : List ℕ) → n < length ws → All (Fits (length volume)) (take (n + 1) ws) → block_of (volume_at n) b ≡ old
      → ((v : List ℕ) → Fits (length v) (get_or ws n d) → block_of v b ≡ old → block_of (patched v (get_or ws n d)) b ≡ new) → block_of (volume_at (n + 1)) b ≡ new
  block_of-next b n d old new below fit was done = rw (fold_more patched volume ws n d below) (done (volume_at n) (fits_at n d below fit) was)

  -- a block stays while no write touches it
  block_of-untouched : (b i m : ℕ) → i + m ≤ length ws → All (Fits (length volume)) (take (i + m) ws) → ((k : ℕ) (d : Placed) → i ≤ k → k < i + m → ¬ IsTouched (get_or ws k d) b)
      → block_of (volume_at (i + m)) b ≡ block_of (volume_at i) b
  block_of-untouched b i zero upto fit apart = rw (add-zero i) refl
  block_of-untouched b i (suc m) upto fit apart =
      let d : Placed = record { offset = 0; bytes = [] } in
      let is : i + suc m ≡ i + m + 1 = omega arith in
      let one_more = rw is at fit in
      rw (is, fold_more patched volume ws (i + m) d (omega arith))
      (block_of-patched_untouched (volume_at (i + m)) (get_or ws (i + m) d) b (fits_at (i + m) d (omega arith) one_more) (apart (i + m) d (omega arith) (omega arith))
      ∙ block_of-untouched b i m (omega arith) (fewer_fit (i + m) (i + m + 1) (omega arith) one_more) (λ k e from below. apart k e from (omega arith)))

-- a write among those that are kept, by any default
get_or-writes : (kept : List Kept) (k : ℕ) (d : Placed) → (e : Kept) × (get_or (map (λ (x : Kept). x.write) kept) k d ≡ (get_or kept k e).write)
get_or-writes kept k d = let e : Kept = record { number = 0; write = d; origin = record { slot = 0; incarnation = 0; ticket = 0 } } in (e, get_or-map (λ (x : Kept). x.write) kept k e)

module _ (volume : List ℕ) (kept : List Kept) (b top : ℕ) (short : top ≤ length kept) (fit : All (Fits (length volume)) (map (λ (x : Kept). x.write) (take top kept))) where
  -- what the first so many of the kept writes write
  abbrev pub writes_at : ℕ → List Placed
  writes_at n = map (λ (x : Kept). x.write) (take n kept)

  ws : List Placed
  ws = map (λ (x : Kept). x.write) kept

  all_fit : (n : ℕ) → n ≤ top → All (Fits (length volume)) (take n ws)
  unfolding ws
  all_fit n upto = fewer_fit volume ws n top upto (rw (take-map (λ (x : Kept). x.write) top kept) fit)

  writes_are : (n : ℕ) → writes_at n ≡ take n ws
  unfolding ws
  writes_are n = sym (take-map (λ (x : Kept). x.write) n kept)

  length-ws : length ws ≡ length kept
  unfolding ws
  length-ws = length-map kept (λ (x : Kept). x.write)

  get_or-ws : (k : ℕ) (d : Placed) → (e : Kept) × (get_or ws k d ≡ (get_or kept k e).write)
  unfolding ws
  get_or-ws k d = get_or-writes kept k d

  pub value_stays : (i n : ℕ) → i ≤ n → n ≤ top → AllWithin (λ (k : Kept). ¬ IsTouched k.write b) kept i n → block_of (fold patched volume (writes_at n)) b ≡ block_of (fold patched volume (writes_at i)) b
  value_stays i n le upto apart =
      let is : n ≡ i + (n - i) = omega arith in
      let none : (k : ℕ) (d : Placed) → i ≤ k → k < i + (n - i) → ¬ IsTouched (get_or ws k d) b = λ k d from below. let e = get_or-ws k d in rw e.1 (apart k e.0 from (omega arith)) in
      rw (writes_are n, writes_are i, is) (block_of-untouched volume ws b i (n - i) (omega (arith, length-ws)) (all_fit (i + (n - i)) (omega arith)) none)

  pub value_goes_on : (i n stop : ℕ) (w : Placed) (old new : List ℕ) → i ≤ n → n < top → stop ≡ n + 1 → AllWithin (λ (k : Kept). ¬ IsTouched k.write b) kept i n → ((d : Kept) → w ≡ (get_or kept n d).write)
      → block_of (fold patched volume (writes_at i)) b ≡ old → ((v : List ℕ) → Fits (length v) w → block_of v b ≡ old → block_of (patched v w) b ≡ new) → block_of (fold patched volume (writes_at stop)) b ≡ new
  value_goes_on i n stop w old new le below stop_is apart is was done =
      let e = get_or-ws n w in
      let same : get_or ws n w ≡ w = e.1 ∙ sym (is e.0) in
      let before : block_of (volume_at volume ws n) b ≡ old = rw (← writes_are n) (value_stays i n le (omega arith) apart ∙ was) in
      rw (stop_is, writes_are (n + 1)) (block_of-next volume ws b n w old new (omega (arith, length-ws)) (all_fit (n + 1) (omega arith)) before (rw same done))
