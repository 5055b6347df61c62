-- Blocks and volumes as slices of bytes.
use Rattle.std.proofs.Common.{◌≡◌, ℕ, ◌+◌, ◌-◌, ◌*◌, List, ◌++◌, length, ap, ◌∙◌, arith, take, drop}
use Rattle.std.proofs.Math.Seq.{take-append_seam}
use Rattle.std.specs.Prelude.{slice_range}
use Rattle.volume.specs.Writes.{block_of}

slice_is : (n start : ℕ) (xs : List ℕ) → slice_range xs start (start + n) ≡ take n (drop start xs)
slice_is n start xs = let len : start + n - start ≡ n = omega arith in ap (λ k. take k (drop start xs)) len

pub block_is_slice : (volume bytes : List ℕ) (b : ℕ) → bytes ≡ slice_range volume (b * 4096) (b * 4096 + 4096) → bytes ≡ block_of volume b
unfolding block_of
block_is_slice volume bytes b is = let at : b * 4096 ≡ 4096 * b = omega arith in is ∙ slice_is 4096 (b * 4096) volume ∙ ap (λ s. take 4096 (drop s volume)) at

pub run_is_slice : (volume bytes : List ℕ) (first count : ℕ) → bytes ≡ slice_range volume (first * 4096) (first * 4096 + count * 4096) → bytes ≡ take (4096 * count) (drop (4096 * first) volume)
run_is_slice volume bytes first count is =
    let at : first * 4096 ≡ 4096 * first = omega arith in
    let n : count * 4096 ≡ 4096 * count = omega arith in
    is ∙ slice_is (count * 4096) (first * 4096) volume ∙ ap (λ s. take (count * 4096) (drop s volume)) at ∙ ap (λ k. take k (drop (4096 * first) volume)) n

-- bytes that are written back over as many
pub written_back : {T : Type 0} (n : ℕ) (new old : List T) → length new ≡ n → take n (new ++ drop (length new) old) ≡ new
written_back n new old long = rw (← long) (take-append_seam new (drop (length new) old))
