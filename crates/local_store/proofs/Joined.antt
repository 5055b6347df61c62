-- Runs of pending blocks that are joined and written home.
use Rattle.std.proofs.Common.{◌≡◌, ℕ, ◌+◌, ◌-◌, ◌*◌, ◌<◌, ◌≤◌, true, false, List, [], length, take, drop, refl, sym, ◌∙◌, ap, subst, arith, rules, ◌⊎◌, inl, inr}
use Rattle.std.specs.Prelude.{Option, Some, None, IsSome, slice_range}
use Rattle.std.proofs.lemmas.Bool.{both_ways, cases_lt}
use Rattle.std.proofs.lemmas.List.{places, same_lists}
use Rattle.disk_model.specs.Disk.{Follows, Holds, Torn, put}
use Rattle.flusher.specs.Plan.{IsPending, IsRun, IsWithin}
use Rattle.flusher.specs.declared.plan.Run.{Run}
use Rattle.gate_journal.specs.Batch.{Batch}
use Rattle.local_store.specs.About.{IsWithoutRun}
use Rattle.local_store.specs.Overlay.{with_batches, is_covered, AllFitIn}
use Rattle.local_store.specs.Pending.{held, AreCleared, AreJoined, IsHome}
use Rattle.local_store.proofs.Homes.{some_is_none}
use Rattle.local_store.proofs.Overlays.{batches_cover, torn_run}
use Rattle.local_store.proofs.Runs.{block_of_run}
use Rattle.volume.specs.Volumes.{length-patched, range-patched_own, block_of-patched_untouched}
use Rattle.volume.specs.Writes.{Placed, Fits, patched, block_of}

-- a block is within a run, or it isn't
pub within_or_not : (first count b : ℕ) → IsWithin first count b ⊎ (¬ IsWithin first count b)
within_or_not first count b = elim (cases_lt b first) [
  | inl below ↦ inr (λ within. omega (arith, below, within.0))
  | inr from ↦ elim (cases_lt b (first + count)) [
    | inl within ↦ inl (from, within)
    | inr past ↦ inr (λ within. omega (arith, past, within.1))
  ]
]

-- none of the blocks whose places are cleared is pending then, and each other is as before
pub cleared_without : {T : Type 0} (most : ℕ) (run : Run) (old new : List (Option T)) → IsRun most (IsPending old) run.first run.count → AreCleared run.first run.count old new → IsWithoutRun most run (IsPending old) (IsPending new)
cleared_without {T} most run old new was cleared = record {
  was = was;
  others = λ b. (
    λ is. elim (within_or_not run.first run.count b) [
      | inl within ↦ absurd (none_isnt (subst (λ (place : Option T). IsSome place) (cleared.run b within) is))
      | inr apart ↦ (subst (λ (place : Option T). IsSome place) (cleared.others b apart) is, apart)
    ],
    λ is. subst (λ (place : Option T). IsSome place) (sym (cleared.others b is.1)) is.0,
  );
}
  where
    none_isnt : IsSome {T = T} None → ⊥
    none_isnt is = both_ways false refl is

-- whatever a torn write of covered blocks leaves is the volume under the batches
torn_run_left : (n : ℕ) (v : List ℕ) (batches : List Batch) (first count : ℕ) (x y : List ℕ) → AllFitIn n batches → ((b : ℕ) → IsWithin first count b → is_covered b batches ≡ true) → length x ≡ 4096 * n → with_batches x batches ≡ v
    → Torn (4096 * first) (4096 * count) x y → (length y ≡ 4096 * n) × (with_batches y batches ≡ v)
torn_run_left n v batches first count x y fit covered long was torn =
    let long_y : length y ≡ 4096 * n = torn.size ∙ long in
    (long_y, batches_cover n y x batches long_y long fit (λ k below apart. torn_run first count k x y torn (λ within. both_ways (is_covered k batches) apart (covered k within))) ∙ was)

-- a block of bytes that were written over a run
own_run : (first count i : ℕ) (home bytes : List ℕ) → length bytes ≡ 4096 * count → Fits (length home) (record { offset = 4096 * first; bytes = bytes }) → i < count
    → block_of (patched home (record { offset = 4096 * first; bytes = bytes })) (first + i) ≡ block_of bytes i
own_run first count i home bytes size fits lt =
    let w : Placed = record { offset = 4096 * first; bytes = bytes } in
    sym (block_of_run first count i (patched home w) lt)
    ∙ ap (λ (l : List ℕ). block_of l i) (subst (λ (m : ℕ). take m (drop (4096 * first) (patched home w)) ≡ bytes) size (range-patched_own home w fits))

-- a run of pending blocks, joined
module _ {n : ℕ} {v : List ℕ} {batches : List Batch} {pending : List (Option (List ℕ))} {home : List ℕ} {left : List ℕ → Type 0} (first count : ℕ) (bytes : List ℕ) (joined : AreJoined pending first count bytes)
    (was : IsHome n v batches pending home left) where
  image_at : (b : ℕ) → IsWithin first count b → held pending b ≡ Some (block_of bytes (b - first))
  image_at b within =
      let at : first + (b - first) ≡ b = omega (arith, within.0) in
      subst (λ (k : ℕ). held pending k ≡ Some (block_of bytes (b - first))) at (joined.images (b - first) (omega (arith, within.0, within.1)))

  covered : (b : ℕ) → IsWithin first count b → is_covered b batches ≡ true
  covered b within = was.waits.elsewhere b (block_of bytes (b - first)) (image_at b within)

  abbrev write : Placed
  write = record { offset = 4096 * first; bytes = bytes }

  -- written home
  pub run_home : (cleared : List (Option (List ℕ))) (new : List ℕ) (left_new : List ℕ → Type 0) → first + count ≤ n → AreCleared first count pending cleared → Holds home (4096 * first) bytes new
      → Follows (Torn (4096 * first) (4096 * count)) left left_new → IsHome n v batches cleared new left_new
  run_home cleared new left_new within is holds follows = record {
    waits = record {
      table = is.table ∙ was.waits.table;
      size = was.waits.size;
      as_long = ap length holds ∙ length-patched home write fits ∙ was.waits.as_long;
      is_home = λ b below empty. elim (within_or_not first count b) [
        | inl inside ↦ written b inside ∙ was.waits.image b (block_of bytes (b - first)) (image_at b inside)
        | inr apart ↦ ap (λ (l : List ℕ). block_of l b) holds
            ∙ block_of-patched_untouched home write b fits (λ touched. apart (omega (arith, touched.0, joined.size), omega (arith, touched.1, joined.size)))
            ∙ was.waits.is_home b below (sym (is.others b apart) ∙ empty)
      ];
      image = λ b held_bytes full. was.waits.image b held_bytes (still b held_bytes full);
      elsewhere = λ b held_bytes full. was.waits.elsewhere b held_bytes (still b held_bytes full);
    };
    fit = was.fit;
    long = λ y may. let (x, before, torn) = follows y may in (torn_run_left n v batches first count x y was.fit covered (was.long x before) (was.left x before) torn).0;
    left = λ y may. let (x, before, torn) = follows y may in (torn_run_left n v batches first count x y was.fit covered (was.long x before) (was.left x before) torn).1;
  }
    where
      fits : Fits (length home) write
      fits = omega (arith, within, joined.size, was.waits.as_long)

      written : (b : ℕ) → IsWithin first count b → block_of new b ≡ block_of bytes (b - first)
      written b inside =
          let at : first + (b - first) ≡ b = omega (arith, inside.0) in
          ap (λ (l : List ℕ). block_of l b) holds
          ∙ subst (λ (k : ℕ). block_of (patched home write) k ≡ block_of bytes (b - first)) at (own_run first count (b - first) home bytes joined.size fits (omega (arith, inside.0, inside.1)))

      still : (b : ℕ) (held_bytes : List ℕ) → held cleared b ≡ Some held_bytes → held pending b ≡ Some held_bytes
      still b held_bytes full = elim (within_or_not first count b) [
        | inl inside ↦ absurd (some_is_none (sym full ∙ is.run b inside))
        | inr apart ↦ sym (is.others b apart) ∙ full
      ]

  -- a write of it that is torn, at a stop
  pub joined_torn : (x y : List ℕ) → left x → Torn (4096 * first) (4096 * count) x y → with_batches y batches ≡ v
  joined_torn x y may torn = (torn_run_left n v batches first count x y was.fit covered (was.long x may) (was.left x may) torn).1

-- bytes that are put somewhere, none at first, and a block more
pub put_none : (home : List ℕ) (at : ℕ) → put home at [] ≡ home
put_none home at = same_lists _ _ (search (rules, places)) (λ k d h. grind (arith, places))

pub length-put : (home bytes : List ℕ) (at : ℕ) → at + length bytes ≤ length home → length (put home at bytes) ≡ length home
length-put home bytes at room = length-patched home (record { offset = at; bytes = bytes }) room

put_more : (home bytes : List ℕ) (at m n : ℕ) → at + (m + n) ≤ length home → m + n ≤ length bytes → put (put home at (take m bytes)) (at + m) (take n (drop m bytes)) ≡ put home at (take (m + n) bytes)
put_more home bytes at m n room long = same_lists _ _ (search (rules, places)) (λ k d h. grind (arith, places))

pub put_block : (home bytes : List ℕ) (first i : ℕ) → 4096 * (first + i + 1) ≤ length home → 4096 * (i + 1) ≤ length bytes
    → put (put home (4096 * first) (take (4096 * i) bytes)) (4096 * (first + i)) (slice_range bytes (i * 4096) (i * 4096 + 4096)) ≡ put home (4096 * first) (take (4096 * (i + 1)) bytes)
put_block home bytes first i room long =
    let place : 4096 * (first + i) ≡ 4096 * first + 4096 * i = omega arith in
    let from : i * 4096 ≡ 4096 * i = omega arith in
    let count : i * 4096 + 4096 - i * 4096 ≡ 4096 = omega arith in
    let end : 4096 * i + 4096 ≡ 4096 * (i + 1) = omega arith in
    let so_far = put home (4096 * first) (take (4096 * i) bytes) in
    ap (λ (k : ℕ). put so_far k (slice_range bytes (i * 4096) (i * 4096 + 4096))) place
    ∙ ap (λ (k : ℕ). put so_far (4096 * first + 4096 * i) (take k (drop (i * 4096) bytes))) count
    ∙ ap (λ (k : ℕ). put so_far (4096 * first + 4096 * i) (take 4096 (drop k bytes))) from
    ∙ put_more home bytes (4096 * first) (4096 * i) 4096 (omega (arith, room)) (omega (arith, long))
    ∙ ap (λ (k : ℕ). put home (4096 * first) (take k bytes)) end
