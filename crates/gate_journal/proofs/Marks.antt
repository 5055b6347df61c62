-- Images of zeros, and the marks that stand for them.
use Rattle.std.proofs.Common.{◌≡◌, ◌==◌, ℕ, ◌+◌, ◌^◌, ◌≤◌, inl, inr, Bool, true, false, if◌then◌else◌, List, [], ◌∷◌, ◌++◌, length, replicate, zero, suc, refl, sym, ◌∙◌, ap, subst, arith, append_assoc, length-append, All}
use Rattle.std.specs.List.{flat_map}
use Rattle.std.proofs.lemmas.Bool.{and_parts}
use Rattle.std.proofs.lemmas.List.{append-nil}
use Rattle.std.proofs.lemmas.List.Elements.{All-head, All-tail}
use Rattle.byteorder.specs.Endian.{big_bytes}
use Rattle.byteorder.specs.Numbers.{length-bytes_high_first}
use Rattle.gate_journal.specs.Image.{Image, is_zeros}
use Rattle.gate_journal.specs.Batch.{EncodesImage, InTurn, IsWhole, head_encoding, image_encoding, image_size, images_size, mark_encoding, whole_encoding}

-- zeros of one length are the same
pub same_zeros : (xs ys : List ℕ) → is_zeros xs ≡ true → is_zeros ys ≡ true → length xs ≡ length ys → xs ≡ ys
same_zeros [] [] blank blank' len = refl
same_zeros [] (y ∷ ys) blank blank' len = absurd (omega (arith, len))
same_zeros (x ∷ xs) [] blank blank' len = absurd (omega (arith, len))
same_zeros (x ∷ xs) (y ∷ ys) blank blank' len =
    let (first, rest) = and_parts (x == 0) (is_zeros xs) blank in
    let (first', rest') = and_parts (y == 0) (is_zeros ys) blank' in
    let none : x ≡ 0 = grind (arith, first) in
    let none' : y ≡ 0 = grind (arith, first') in
    let tails = same_zeros xs ys rest rest' (omega (arith, len)) in
    ap (λ (n : ℕ). n ∷ xs) (none ∙ sym none') ∙ ap (λ (l : List ℕ). y ∷ l) tails

pub are_zeros : (n : ℕ) → is_zeros (replicate n 0) ≡ true
are_zeros zero = refl
are_zeros (suc n) = are_zeros n

-- what is written is read as the image
written : (image : Image) (blank : Bool) → is_zeros image.bytes ≡ blank → EncodesImage image (if blank then mark_encoding image else whole_encoding image)
written image true is = inr (is, refl)
written image false is = inl refl

pub encodes_image : (image : Image) → EncodesImage image (image_encoding image)
encodes_image image = written image (is_zeros image.bytes) refl

pub encodes_images : (images : List Image) → InTurn EncodesImage images (flat_map image_encoding images)
encodes_images [] = refl
encodes_images (image ∷ images) = (image_encoding image, flat_map image_encoding images, encodes_image image, encodes_images images, refl)

-- and has its size
length-either : (image : Image) (blank : Bool) → IsWhole image → length (if blank then mark_encoding image else whole_encoding image) ≡ (if blank then 4 else 4100)
length-either image true whole = length-bytes_high_first 4 (image.block + 2 ^ 31)
length-either image false whole = omega (arith, length-append (big_bytes 4 image.block) image.bytes, length-bytes_high_first 4 image.block, whole.size)

pub length-image_encoding : (image : Image) → IsWhole image → length (image_encoding image) ≡ image_size image
length-image_encoding image whole = length-either image (is_zeros image.bytes) whole

pub length-images_encoding : (images : List Image) → All IsWhole images → length (flat_map image_encoding images) ≡ images_size images
length-images_encoding [] whole = refl
length-images_encoding (image ∷ images) whole =
    omega (arith, length-append (image_encoding image) (flat_map image_encoding images), length-image_encoding image (All-head IsWhole image images whole), length-images_encoding images (All-tail IsWhole image images whole))

-- the front and the count
pub length-head : (front count : ℕ) → length (head_encoding front count) ≡ 12
length-head front count = omega (arith, length-append (big_bytes 8 front) (big_bytes 4 count), length-bytes_high_first 8 front, length-bytes_high_first 4 count)

pub images_size-push : (images : List Image) (image : Image) → images_size (images ++ image ∷ []) ≡ images_size images + image_size image
images_size-push [] image = omega arith
images_size-push (first ∷ images) image = omega (arith, images_size-push images image)

-- an image takes 4 bytes at least, however it is written, and 4,100 at most
pub size_at_most : (blank : Bool) → (if blank then 4 else 4100) ≤ 4100
size_at_most true = omega arith
size_at_most false = omega arith

pub at_least : (image : Image) (bytes : List ℕ) → EncodesImage image bytes → 4 ≤ length bytes
at_least image bytes (inl is) = omega (arith, ap length is, length-append (big_bytes 4 image.block) image.bytes, length-bytes_high_first 4 image.block)
at_least image bytes (inr (blank, is)) = omega (arith, ap length is, length-bytes_high_first 4 (image.block + 2 ^ 31))

-- ---- more in turn

pub turn_append : {A : Type 0} (Encodes : A → List ℕ → Type 0) (items others : List A) (bytes more : List ℕ) → InTurn Encodes items bytes → InTurn Encodes others more → InTurn Encodes (items ++ others) (bytes ++ more)
turn_append Encodes [] others bytes more none turn = subst (InTurn Encodes others) (sym (ap (λ (l : List ℕ). l ++ more) none)) turn
turn_append Encodes (x ∷ items) others bytes more (first, rest, is, turn, all) behind =
    (first, rest ++ more, is, turn_append Encodes items others rest more turn behind, ap (λ (l : List ℕ). l ++ more) all ∙ append_assoc first rest more)

pub turn_one : {A : Type 0} (Encodes : A → List ℕ → Type 0) (item : A) (bytes : List ℕ) → Encodes item bytes → InTurn Encodes (item ∷ []) bytes
turn_one Encodes item bytes is = (bytes, [], is, refl, sym (append-nil bytes))

pub turn_push : {A : Type 0} (Encodes : A → List ℕ → Type 0) (items : List A) (item : A) (bytes more : List ℕ) → InTurn Encodes items bytes → Encodes item more → InTurn Encodes (items ++ item ∷ []) (bytes ++ more)
turn_push Encodes items item bytes more turn one = turn_append Encodes items (item ∷ []) bytes more turn (turn_one Encodes item more one)
