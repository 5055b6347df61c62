-- What batches over a volume make of its blocks.
use Rattle.std.proofs.Common.{◌≡◌, ◌≢◌, ℕ, ◌+◌, ◌-◌, ◌*◌, ◌≤◌, ◌==◌, true, false, List, [], ◌∷◌, ◌++◌, length, take, drop, refl, sym, ◌∙◌, ap, subst, arith, ◌⊎◌, ⊎_elim, inl, inr}
use Rattle.std.specs.Prelude.{All}
use Rattle.std.proofs.lemmas.List.Sums.{fold-append}
use Rattle.std.proofs.lemmas.List.Elements.{All-head, All-tail}
use Rattle.std.proofs.lemmas.Bool.{cases_Bool, cases_lt, both_ways}
use Rattle.std.proofs.lemmas.List.{drop-drop, drop-take, take-take}
use Rattle.std.proofs.lemmas.Bool.Decides.{nat_tests}
use Rattle.disk_model.specs.Disk.{Torn}
use Rattle.flusher.specs.Plan.{IsWithin}
use Rattle.gate_journal.specs.Batch.{Batch}
use Rattle.gate_journal.specs.Image.{Image}
use Rattle.local_store.specs.Overlay.{placed, with_images, with_batches, covers, is_covered, FitsIn, AllFitIn, BatchesCover, UncoveredBlocksStay}
use Rattle.volume.specs.Volumes.{length-patched, range-patched_own, block_of-patched_same, block_of-patched_untouched, same_from_blocks}
use Rattle.volume.specs.Writes.{Fits, patched, block_of}

-- bytes in front of those that may be torn, and behind them
before : (n at end : ℕ) (old new : List ℕ) → at + n ≤ end → take end new ≡ take end old → take n (drop at new) ≡ take n (drop at old)
before n at end old new upto same =
    let cut : (l : List ℕ) → take n (drop at (take end l)) ≡ take n (drop at l) = λ l. subst (λ (m : ℕ). take n (drop at (take m l)) ≡ take n (drop at l)) (omega arith) (ap (take n) (drop-take at (end - at) l) ∙ take-take n (end - at) (drop at l) (omega arith)) in
    sym (cut new) ∙ ap (λ (l : List ℕ). take n (drop at l)) same ∙ cut old

after : (n at end : ℕ) (old new : List ℕ) → end ≤ at → drop end new ≡ drop end old → take n (drop at new) ≡ take n (drop at old)
after n at end old new from same =
    let on : (l : List ℕ) → drop (at - end) (drop end l) ≡ drop at l = λ l. subst (λ (m : ℕ). drop (at - end) (drop end l) ≡ drop m l) (omega arith) (drop-drop (at - end) end l) in
    ap (take n) (sym (on new) ∙ ap (drop (at - end)) same ∙ on old)

fits : (n : ℕ) (volume : List ℕ) (image : Image) → length volume ≡ 4096 * n → FitsIn n image → Fits (length volume) (placed image)
fits n volume image long (below, whole) = omega (arith, long, below, whole)

-- the block of an image, and the others
pub own_block : (n : ℕ) (volume : List ℕ) (image : Image) → length volume ≡ 4096 * n → FitsIn n image → block_of (patched volume (placed image)) image.block ≡ image.bytes
unfolding block_of
own_block n volume image long fit =
    subst (λ (m : ℕ). take m (drop (4096 * image.block) (patched volume (placed image))) ≡ image.bytes) fit.1
    (range-patched_own volume (placed image) (fits n volume image long fit))

pub other_block : (n : ℕ) (volume : List ℕ) (image : Image) (b : ℕ) → length volume ≡ 4096 * n → FitsIn n image → image.block ≢ b → block_of (patched volume (placed image)) b ≡ block_of volume b
other_block n volume image b long fit apart =
    block_of-patched_untouched volume (placed image) b (fits n volume image long fit) (λ touched. apart (omega (arith, touched.0, touched.1, fit.1)))

pub long_still : (n : ℕ) (volume : List ℕ) (image : Image) → length volume ≡ 4096 * n → FitsIn n image → length (patched volume (placed image)) ≡ 4096 * n
long_still n volume image long fit = length-patched volume (placed image) (fits n volume image long fit) ∙ long

pub length-with_images : (n : ℕ) (volume : List ℕ) (images : List Image) → length volume ≡ 4096 * n → All (FitsIn n) images → length (with_images volume images) ≡ 4096 * n
length-with_images n volume [] long fit = long
length-with_images n volume (image ∷ images) long fit =
    length-with_images n (patched volume (placed image)) images (long_still n volume image long (All-head (FitsIn n) image images fit)) (All-tail (FitsIn n) image images fit)

pub length-with_batches : (n : ℕ) (volume : List ℕ) (batches : List Batch) → length volume ≡ 4096 * n → AllFitIn n batches → length (with_batches volume batches) ≡ 4096 * n
length-with_batches n volume [] long fit = long
length-with_batches n volume (batch ∷ batches) long fit =
    let P = λ (b : Batch). All (FitsIn n) b.images in
    length-with_batches n (with_images volume batch.images) batches (length-with_images n volume batch.images long (All-head P batch batches fit)) (All-tail P batch batches fit)

-- whether an image is of the block
module _ (b : ℕ) where
  covers_own : (image : Image) (images : List Image) → (image.block == b) ≡ true → covers b (image ∷ images) ≡ true
  covers_own image images is = rw is refl

  covers_later : (image : Image) (images : List Image) → (image.block == b) ≡ false → covers b (image ∷ images) ≡ covers b images
  covers_later image images isnt = rw isnt refl

  covered_here : (batch : Batch) (batches : List Batch) → covers b batch.images ≡ true → is_covered b (batch ∷ batches) ≡ true
  covered_here batch batches is = rw is refl

  covered_later : (batch : Batch) (batches : List Batch) → covers b batch.images ≡ false → is_covered b (batch ∷ batches) ≡ is_covered b batches
  covered_later batch batches isnt = rw isnt refl

module _ (n b : ℕ) where
  -- a block that isn't covered stays
  images_pass : (volume : List ℕ) (images : List Image) → length volume ≡ 4096 * n → All (FitsIn n) images → covers b images ≡ false → block_of (with_images volume images) b ≡ block_of volume b
  images_pass volume [] long fit apart = refl
  images_pass volume (image ∷ images) long fit apart =
      let head = All-head (FitsIn n) image images fit in
      elim (cases_Bool (image.block == b)) [
        | inl is ↦ absurd (both_ways (covers b (image ∷ images)) apart (covers_own b image images is))
        | inr isnt ↦ images_pass (patched volume (placed image)) images (long_still n volume image long head) (All-tail (FitsIn n) image images fit) (sym (covers_later b image images isnt) ∙ apart)
            ∙ other_block n volume image b long head (λ is. grind (arith, nat_tests))
      ]

  -- one that is covered, or is the same before, is the same
  images_cover : (one other : List ℕ) (images : List Image) → length one ≡ 4096 * n → length other ≡ 4096 * n → All (FitsIn n) images → (covers b images ≡ false → block_of one b ≡ block_of other b)
      → block_of (with_images one images) b ≡ block_of (with_images other images) b
  images_cover one other [] long long_other fit same = same refl
  images_cover one other (image ∷ images) long long_other fit same =
      let head = All-head (FitsIn n) image images fit in
      let rest : (covers b images ≡ false → block_of (patched one (placed image)) b ≡ block_of (patched other (placed image)) b)
      → block_of (with_images one (image ∷ images)) b ≡ block_of (with_images other (image ∷ images)) b
      = λ now. images_cover (patched one (placed image)) (patched other (placed image)) images (long_still n one image long head) (long_still n other image long_other head) (All-tail (FitsIn n) image images fit) now in
      elim (cases_Bool (image.block == b)) [
        | inl is ↦ rest (λ apart. own_both image is one other long long_other head)
        | inr isnt ↦ rest (λ apart. block_of-patched_same one other (placed image) b (long ∙ sym long_other) (fits n one image long head) (same (covers_later b image images isnt ∙ apart)))
      ]
    where
      own_both : (image : Image) → (image.block == b) ≡ true → (one other : List ℕ) → length one ≡ 4096 * n → length other ≡ 4096 * n → FitsIn n image → block_of (patched one (placed image)) b ≡ block_of (patched other (placed image)) b
      own_both image is one other long long_other fit =
          let here : image.block ≡ b = grind (arith, nat_tests) in
          subst (λ (k : ℕ). block_of (patched one (placed image)) k ≡ block_of (patched other (placed image)) k) here (own_block n one image long fit ∙ sym (own_block n other image long_other fit))

  batches_pass : (volume : List ℕ) (batches : List Batch) → length volume ≡ 4096 * n → AllFitIn n batches → is_covered b batches ≡ false → block_of (with_batches volume batches) b ≡ block_of volume b
  batches_pass volume [] long fit apart = refl
  batches_pass volume (batch ∷ batches) long fit apart =
      let P = λ (x : Batch). All (FitsIn n) x.images in
      let head = All-head P batch batches fit in
      elim (cases_Bool (covers b batch.images)) [
        | inl is ↦ absurd (both_ways (is_covered b (batch ∷ batches)) apart (covered_here b batch batches is))
        | inr isnt ↦ batches_pass (with_images volume batch.images) batches (length-with_images n volume batch.images long head) (All-tail P batch batches fit) (sym (covered_later b batch batches isnt) ∙ apart)
            ∙ images_pass volume batch.images long head isnt
      ]

  batches_cover_block : (one other : List ℕ) (batches : List Batch) → length one ≡ 4096 * n → length other ≡ 4096 * n → AllFitIn n batches → (is_covered b batches ≡ false → block_of one b ≡ block_of other b)
      → block_of (with_batches one batches) b ≡ block_of (with_batches other batches) b
  batches_cover_block one other [] long long_other fit same = same refl
  batches_cover_block one other (batch ∷ batches) long long_other fit same =
      let P = λ (x : Batch). All (FitsIn n) x.images in
      let head = All-head P batch batches fit in
      batches_cover_block (with_images one batch.images) (with_images other batch.images) batches (length-with_images n one batch.images long head) (length-with_images n other batch.images long_other head) (All-tail P batch batches fit)
      (λ apart. images_cover one other batch.images long long_other head (λ isnt. same (covered_later b batch batches isnt ∙ apart)))

-- what is covered, by one batch more
is_covered-push : (b : ℕ) (batches : List Batch) (batch : Batch) → is_covered b batches ≡ true ⊎ covers b batch.images ≡ true → is_covered b (batches ++ batch ∷ []) ≡ true
is_covered-push b [] batch (inl isnt) = absurd (both_ways false refl isnt)
is_covered-push b [] batch (inr is) = covered_here b batch [] is
is_covered-push b (first ∷ batches) batch is =
    elim (cases_Bool (covers b first.images)) [
      | inl here ↦ covered_here b first (batches ++ batch ∷ []) here
      | inr isnt ↦ covered_later b first (batches ++ batch ∷ []) isnt ∙ is_covered-push b batches batch (⊎_elim (λ was. inl (sym (covered_later b first batches isnt) ∙ was)) (λ new. inr new) is)
    ]

pub covered_still : (b : ℕ) (batches : List Batch) (batch : Batch) → is_covered b batches ≡ true → is_covered b (batches ++ batch ∷ []) ≡ true
covered_still b batches batch is = is_covered-push b batches batch (inl is)

pub covered_now : (b : ℕ) (batches : List Batch) (batch : Batch) → covers b batch.images ≡ true → is_covered b (batches ++ batch ∷ []) ≡ true
covered_now b batches batch is = is_covered-push b batches batch (inr is)

pub with_batches-push : (volume : List ℕ) (batches : List Batch) (batch : Batch) → with_batches volume (batches ++ batch ∷ []) ≡ with_images (with_batches volume batches) batch.images
with_batches-push volume batches batch = fold-append (λ (v : List ℕ) (b : Batch). with_images v b.images) volume batches (batch ∷ [])

-- the blocks that a torn write of one block leaves as they were
pub torn_block : (b k : ℕ) (old new : List ℕ) → Torn (4096 * b) 4096 old new → k ≢ b → block_of new k ≡ block_of old k
unfolding block_of
torn_block b k old new torn apart =
    elim (cases_lt k b) [
      | inl below ↦ before 4096 (4096 * k) (4096 * b) old new (omega (arith, below)) torn.before
      | inr above ↦ after 4096 (4096 * k) (4096 * b + 4096) old new (omega (arith, above, apart)) torn.after
    ]

-- and those that a torn write of a run leaves
pub torn_run : (first count k : ℕ) (old new : List ℕ) → Torn (4096 * first) (4096 * count) old new → (¬ IsWithin first count k) → block_of new k ≡ block_of old k
unfolding block_of
torn_run first count k old new torn apart =
    elim (cases_lt k first) [
      | inl below ↦ before 4096 (4096 * k) (4096 * first) old new (omega (arith, below)) torn.before
      | inr from ↦ elim (cases_lt k (first + count)) [
        | inl within ↦ absurd (apart (from, within))
        | inr past ↦ after 4096 (4096 * k) (4096 * first + 4096 * count) old new (omega (arith, past)) torn.after
      ]
    ]

pub batches_cover : BatchesCover
batches_cover n one other batches long long_other fit same =
    same_from_blocks n (with_batches one batches) (with_batches other batches) (length-with_batches n one batches long fit) (length-with_batches n other batches long_other fit)
    (λ b below. batches_cover_block n b one other batches long long_other fit (same b below))

pub uncovered_stay : UncoveredBlocksStay
uncovered_stay n volume batches b long fit apart = batches_pass n b volume batches long fit apart
