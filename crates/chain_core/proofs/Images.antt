-- The images of a commit over the volume make the volume after its writes.
use Rattle.std.proofs.Common.{◌≡◌, ◌≢◌, ℕ, zero, suc, ◌*◌, ◌<◌, ◌==◌, List, [], ◌∷◌, length, drop, take, refl, sym, ◌∙◌, ap, subst, arith, ◌⊎◌, inl, inr}
use Rattle.std.specs.Prelude.{All, Any, fold}
use Rattle.std.proofs.lemmas.Bool.{cases_Bool, eqb-true, eqb-false}
use Rattle.std.proofs.lemmas.List.Elements.{All-head, All-map, All-tail, All-take}
use Rattle.gate_journal.specs.Image.{Image}
use Rattle.local_store.specs.Overlay.{placed, with_images}
use Rattle.version_table.specs.Held.{Held, writes_upto}
use Rattle.volume.specs.Volumes.{block_of-patched_untouched, length-block_of, length-patched, range-patched_own, same_from_blocks}
use Rattle.volume.specs.Writes.{Fits, IsTouched, Placed, block_of, patched}
use Rattle.chain_steps.specs.Steps.{AreImagesOf}

-- some of a list with one more in front
pub Any-here : {X : Type 0} (P : X → Type 0) (x : X) (xs : List X) → P x → Any P (x ∷ xs)
Any-here P x xs has = (0, x, omega arith, refl, has)

pub Any-later : {X : Type 0} (P : X → Type 0) (x : X) (xs : List X) → Any P xs → Any P (x ∷ xs)
Any-later P x xs (k, y, lt, is, has) = (suc k, y, omega (arith, lt), is, has)

pub Any-cases : {X : Type 0} (P : X → Type 0) (x : X) (xs : List X) → Any P (x ∷ xs) → P x ⊎ Any P xs
Any-cases P x xs (zero, y, lt, is, has) = inl (subst P (sym is) has)
Any-cases P x xs (suc k, y, lt, is, has) = inr (k, y, omega (arith, lt), is, has)

-- whether one of the images is of the block
has_image : (b : ℕ) (images : List Image) → Any (λ i. i.block ≡ b) images ⊎ ¬ Any (λ i. i.block ≡ b) images
has_image b [] = inr (λ some. absurd (omega (arith, some.2)))
has_image b (image ∷ images) = elim (cases_Bool (image.block == b)) [
  | inl here ↦ inl (Any-here (λ i. i.block ≡ b) image images (eqb-true _ _ here))
  | inr other ↦ elim (has_image b images) [
    | inl later ↦ inl (Any-later (λ i. i.block ≡ b) image images later)
    | inr none ↦ inr (λ some. elim (Any-cases (λ i. i.block ≡ b) image images some) [
      | inl own ↦ eqb-false _ _ other own
      | inr later ↦ none later
    ])
  ]
]

-- writes keep the length
pub length-writes : (volume : List ℕ) (ws : List Placed) → All (Fits (length volume)) ws → length (fold patched volume ws) ≡ length volume
length-writes volume [] fit = refl
length-writes volume (w ∷ ws) fit =
    let long = length-patched volume w (All-head (Fits (length volume)) w ws fit) in
    length-writes (patched volume w) ws (rw long (All-tail (Fits (length volume)) w ws fit)) ∙ long

-- a block that none of the writes touches stays
untouched : (b : ℕ) (volume : List ℕ) (ws : List Placed) → All (Fits (length volume)) ws → ¬ Any (λ w. IsTouched w b) ws → block_of (fold patched volume ws) b ≡ block_of volume b
untouched b volume [] fit none = refl
untouched b volume (w ∷ ws) fit none =
    let fits = All-head (Fits (length volume)) w ws fit in
    let long = length-patched volume w fits in
    untouched b (patched volume w) ws (rw long (All-tail (Fits (length volume)) w ws fit)) (λ some. none (Any-later (λ v. IsTouched v b) w ws some))
    ∙ block_of-patched_untouched volume w b fits (λ touched. none (Any-here (λ v. IsTouched v b) w ws touched))

-- an image of a block of the volume, as it is to be
module _ (n : ℕ) (target : List ℕ) (as_long : length target ≡ 4096 * n) where
  module _ (volume : List ℕ) (image : Image) (long : length volume ≡ 4096 * n) (below : image.block < n) (is : image.bytes ≡ block_of target image.block) where
    whole : length image.bytes ≡ 4096
    whole = ap length is ∙ length-block_of target image.block (omega arith)

    fits : Fits (length volume) (placed image)
    fits = omega (arith, whole)

    one_long : length (patched volume (placed image)) ≡ 4096 * n
    one_long = length-patched volume (placed image) fits ∙ long

    own_block : block_of (patched volume (placed image)) image.block ≡ block_of target image.block
    unfolding block_of
    own_block = subst (λ (m : ℕ). take m (drop (4096 * image.block) (patched volume (placed image))) ≡ image.bytes) whole (range-patched_own volume (placed image) fits) ∙ is

    other_block : (b : ℕ) → image.block ≢ b → block_of (patched volume (placed image)) b ≡ block_of volume b
    other_block b apart = block_of-patched_untouched volume (placed image) b fits (λ touched. apart (omega (arith, touched.0, touched.1, whole)))

  -- volumes with images of the target over them
  pub length-images : (volume : List ℕ) (images : List Image) → length volume ≡ 4096 * n → All (λ i. i.block < n) images → All (λ i. i.bytes ≡ block_of target i.block) images → length (with_images volume images) ≡ 4096 * n
  length-images volume [] long within are = long
  length-images volume (image ∷ images) long within are =
      length-images (patched volume (placed image)) images
      (one_long volume image long (All-head (λ i. i.block < n) image images within) (All-head (λ i. i.bytes ≡ block_of target i.block) image images are))
      (All-tail (λ i. i.block < n) image images within) (All-tail (λ i. i.bytes ≡ block_of target i.block) image images are)

  -- a block that has an image, or was the target's already, is the target's
  covered : (b : ℕ) (volume : List ℕ) (images : List Image) → length volume ≡ 4096 * n → All (λ i. i.block < n) images → All (λ i. i.bytes ≡ block_of target i.block) images
      → (block_of volume b ≡ block_of target b) ⊎ Any (λ i. i.block ≡ b) images → block_of (with_images volume images) b ≡ block_of target b
  covered b volume [] long within are (inl same) = same
  covered b volume [] long within are (inr some) = absurd (omega (arith, some.2))
  covered b volume (image ∷ images) long within are known =
      let below = All-head (λ i. i.block < n) image images within in
      let is = All-head (λ i. i.bytes ≡ block_of target i.block) image images are in
      let next : (block_of (patched volume (placed image)) b ≡ block_of target b) ⊎ Any (λ i. i.block ≡ b) images = elim (cases_Bool (image.block == b)) [
        | inl here ↦ inl (subst (λ (k : ℕ). block_of (patched volume (placed image)) k ≡ block_of target k) (eqb-true _ _ here) (own_block volume image long below is))
        | inr other ↦ elim known [
          | inl same ↦ inl (other_block volume image long below is b (eqb-false _ _ other) ∙ same)
          | inr some ↦ elim (Any-cases (λ i. i.block ≡ b) image images some) [
            | inl own ↦ absurd (eqb-false _ _ other own)
            | inr later ↦ inr later
          ]
        ]
      ] in
      covered b (patched volume (placed image)) images (one_long volume image long below is) (All-tail (λ i. i.block < n) image images within) (All-tail (λ i. i.bytes ≡ block_of target i.block) image images are) next

-- the images of writes, over the volume, make the volume after them
pub images_make : (n : ℕ) (volume : List ℕ) (ws : List Placed) (images : List Image) → length volume ≡ 4096 * n → All (Fits (4096 * n)) ws → All (λ i. i.block < n) images
    → AreImagesOf volume ws images → with_images volume images ≡ fold patched volume ws
images_make n volume ws images long fit within are =
    let fits : All (Fits (length volume)) ws = subst (λ m. All (Fits m) ws) (sym long) fit in
    let target = fold patched volume ws in
    let as_long : length target ≡ 4096 * n = length-writes volume ws fits ∙ long in
    same_from_blocks n (with_images volume images) target (length-images n target as_long volume images long within are.bytes) as_long (λ b lt.
    covered n target as_long b volume images long within are.bytes (elim (has_image b images) [
      | inl some ↦ inr some
      | inr none ↦ inl (sym (untouched b volume ws fits (λ some. none ((are.touched b).1 some))))
    ]))

-- the kept writes up to a number lie in the volume, as all kept ones do
pub upto_fits : (size : ℕ) (table : Held) (p : ℕ) → All (λ k. Fits size k.write) table.kept → All (Fits size) (writes_upto table p)
upto_fits size table p fit = All-map (Fits size) (λ k. k.write) _ (All-take (λ k. Fits size k.write) _ table.kept fit)
