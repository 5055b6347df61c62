-- Nothing that is read as a batch begins another.
use Rattle.std.proofs.Common.{◌≡◌, ◌⊎◌, inl, inr, ℕ, ◌+◌, ◌^◌, ◌<◌, ◌≤◌, true, List, [], ◌∷◌, ◌++◌, length, refl, sym, ◌∙◌, ap, arith, append_assoc, length-append, All}
use Rattle.std.proofs.lemmas.List.Elements.{All-head, All-tail}
use Rattle.byteorder.specs.Endian.{big_bytes, big_from}
use Rattle.byteorder.specs.Numbers.{big_number-reads_back, length-bytes_high_first}
use Rattle.gate_journal.specs.Image.{Image, is_zeros}
use Rattle.gate_journal.specs.Batch.{Batch, EncodesBatch, EncodesImage, InTurn, IsWhole, IsBatch, head_encoding}
use Rattle.gate_journal.proofs.Lists.{same_halves}
use Rattle.gate_journal.proofs.Marks.{at_least, length-head, same_zeros}

-- a number is what its bytes make
pub numbers_apart : (n x y : ℕ) (r s : List ℕ) → x < 256 ^ n → y < 256 ^ n → big_bytes n x ++ r ≡ big_bytes n y ++ s → (x ≡ y) × (r ≡ s)
numbers_apart n x y r s fits fits' e =
    let same = sym (big_number-reads_back n x r fits) ∙ ap (big_from 0 n) e ∙ big_number-reads_back n y s fits' in
    (same, (same_halves (big_bytes n x) r (big_bytes n y) s (length-bytes_high_first n x ∙ sym (length-bytes_high_first n y)) e).1)

-- the encodings' widths stand as variables, so that nothing computes
module _ (n size high : ℕ) (twice : high + high ≤ 256 ^ n) where
  abbrev text : Image → List ℕ
  text image = big_bytes n image.block ++ image.bytes

  abbrev mark : Image → List ℕ
  mark image = big_bytes n (image.block + high)

  abbrev Encodes : Image → List ℕ → Type 0
  Encodes image bytes = (bytes ≡ text image) ⊎ ((is_zeros image.bytes ≡ true) × (bytes ≡ mark image))

  pub record Fits (image : Image) : Type 0 where
    pub block : image.block < high
    pub long : length image.bytes ≡ size

  -- what one makes of equal numbers and bytes
  same_image : (x y : Image) → x.block ≡ y.block → x.bytes ≡ y.bytes → x ≡ y
  same_image x y block_is bytes_are = λ i. record { block = block_is i; bytes = bytes_are i }

  image_apart : (x y : Image) (a b r s : List ℕ) → Fits x → Fits y → Encodes x a → Encodes y b → a ++ r ≡ b ++ s → (x ≡ y) × (r ≡ s)
  image_apart x y a b r s fits fits' (inl is) (inl is') e =
      let e' = sym (ap (λ (l : List ℕ). l ++ r) is) ∙ e ∙ ap (λ (l : List ℕ). l ++ s) is' in
      let regrouped = sym (append_assoc (big_bytes n x.block) x.bytes r) ∙ e' ∙ append_assoc (big_bytes n y.block) y.bytes s in
      let blocks = numbers_apart n x.block y.block (x.bytes ++ r) (y.bytes ++ s) (omega (arith, fits.block, twice)) (omega (arith, fits'.block, twice)) regrouped in
      let bytes = same_halves x.bytes r y.bytes s (fits.long ∙ sym fits'.long) blocks.1 in
      (same_image x y blocks.0 bytes.0, bytes.1)
  image_apart x y a b r s fits fits' (inr (blank, is)) (inr (blank', is')) e =
      let e' = sym (ap (λ (l : List ℕ). l ++ r) is) ∙ e ∙ ap (λ (l : List ℕ). l ++ s) is' in
      let blocks = numbers_apart n (x.block + high) (y.block + high) r s (omega (arith, fits.block, twice)) (omega (arith, fits'.block, twice)) e' in
      (same_image x y (omega (arith, blocks.0)) (same_zeros x.bytes y.bytes blank blank' (fits.long ∙ sym fits'.long)), blocks.1)
  image_apart x y a b r s fits fits' (inl is) (inr (blank', is')) e =
      let e' = sym (ap (λ (l : List ℕ). l ++ r) is) ∙ e ∙ ap (λ (l : List ℕ). l ++ s) is' in
      let blocks = numbers_apart n x.block (y.block + high) (x.bytes ++ r) s (omega (arith, fits.block, twice)) (omega (arith, fits'.block, twice)) (sym (append_assoc (big_bytes n x.block) x.bytes r) ∙ e') in
      absurd (omega (arith, blocks.0, fits.block))
  image_apart x y a b r s fits fits' (inr (blank, is)) (inl is') e =
      let e' = sym (ap (λ (l : List ℕ). l ++ r) is) ∙ e ∙ ap (λ (l : List ℕ). l ++ s) is' in
      let blocks = numbers_apart n (x.block + high) y.block r (y.bytes ++ s) (omega (arith, fits.block, twice)) (omega (arith, fits'.block, twice)) (e' ∙ append_assoc (big_bytes n y.block) y.bytes s) in
      absurd (omega (arith, blocks.0, fits'.block))

  pub images_apart : (xs ys : List Image) (a b r s : List ℕ) → length xs ≡ length ys → All Fits xs → All Fits ys → InTurn Encodes xs a → InTurn Encodes ys b → a ++ r ≡ b ++ s → (xs ≡ ys) × (r ≡ s)
  images_apart [] [] a b r s len fits fits' is is' e = (refl, sym (ap (λ (l : List ℕ). l ++ r) is) ∙ e ∙ ap (λ (l : List ℕ). l ++ s) is')
  images_apart [] (y ∷ ys) a b r s len fits fits' is is' e = absurd (omega arith)
  images_apart (x ∷ xs) [] a b r s len fits fits' is is' e = absurd (omega arith)
  images_apart (x ∷ xs) (y ∷ ys) a b r s len fits fits' (one, rest, encodes, turn, is) (one', rest', encodes', turn', is') e =
      let e' = sym (append_assoc one rest r) ∙ sym (ap (λ (l : List ℕ). l ++ r) is) ∙ e ∙ ap (λ (l : List ℕ). l ++ s) is' ∙ append_assoc one' rest' s in
      let first = image_apart x y one one' (rest ++ r) (rest' ++ s) (All-head Fits x xs fits) (All-head Fits y ys fits') encodes encodes' e' in
      let more = images_apart xs ys rest rest' r s (omega arith) (All-tail Fits x xs fits) (All-tail Fits y ys fits') turn turn' first.1 in
      let head_is = first.0 in
      let tail_is = more.0 in
      (λ i. head_is i ∷ tail_is i, more.1)

  -- where a list of images ends, no image of a longer one stands
  pub none_behind : (xs ys : List Image) (a b r s : List ℕ) → length xs < length ys → All Fits xs → All Fits ys → InTurn Encodes xs a → InTurn Encodes ys b → 0 < length s → a ++ r ≡ b ++ s
      → ((y : Image) (one rest : List ℕ) → Fits y → Encodes y one → 0 < length rest → r ≡ one ++ rest → ⊥) → ⊥
  none_behind [] [] a b r s less fits fits' is is' some e none = absurd (omega arith)
  none_behind (x ∷ xs) [] a b r s less fits fits' is is' some e none = absurd (omega arith)
  none_behind [] (y ∷ ys) a b r s less fits fits' is (one, rest, encodes, turn, is') some e none =
      none y one (rest ++ s) (All-head Fits y ys fits') encodes (omega (arith, some, length-append rest s))
      (sym (ap (λ (l : List ℕ). l ++ r) is) ∙ e ∙ ap (λ (l : List ℕ). l ++ s) is' ∙ append_assoc one rest s)
  none_behind (x ∷ xs) (y ∷ ys) a b r s less fits fits' (one, rest, encodes, turn, is) (one', rest', encodes', turn', is') some e none =
      let e' = sym (append_assoc one rest r) ∙ sym (ap (λ (l : List ℕ). l ++ r) is) ∙ e ∙ ap (λ (l : List ℕ). l ++ s) is' ∙ append_assoc one' rest' s in
      let first = image_apart x y one one' (rest ++ r) (rest' ++ s) (All-head Fits x xs fits) (All-head Fits y ys fits') encodes encodes' e' in
      none_behind xs ys rest rest' r s (omega (arith, less)) (All-tail Fits x xs fits) (All-tail Fits y ys fits') turn turn' some first.1 none

-- a block's number has one bit fewer than four bytes
high_fits : 2 ^ 31 + 2 ^ 31 ≤ 256 ^ 4
high_fits = omega arith

whole_fits : (images : List Image) → All IsWhole images → All (Fits 4 4096 (2 ^ 31) high_fits) images
whole_fits images whole = λ k d lt. record { block = (whole k d lt).block; long = (whole k d lt).size }

-- two numbers in front of something
pub heads_apart : (w m f n f' n' : ℕ) (u t r : List ℕ) → f < 256 ^ w → f' < 256 ^ w → n < 256 ^ m → n' < 256 ^ m → (big_bytes w f ++ big_bytes m n) ++ u ≡ ((big_bytes w f' ++ big_bytes m n') ++ t) ++ r → (f ≡ f') × (n ≡ n') × (u ≡ t ++ r)
heads_apart w m f n f' n' u t r front front' count count' e =
    let regrouped = sym (append_assoc (big_bytes w f) (big_bytes m n) u) ∙ e ∙ append_assoc (big_bytes w f' ++ big_bytes m n') t r ∙ append_assoc (big_bytes w f') (big_bytes m n') (t ++ r) in
    let fronts = numbers_apart w f f' (big_bytes m n ++ u) (big_bytes m n' ++ (t ++ r)) front front' regrouped in
    let counts = numbers_apart m n n' u (t ++ r) count count' fronts.1 in
    (fronts.0, counts.0, counts.1)

-- what stands behind a batch's header, where the bytes begin with a header
pub behind_header : (blocks before f n : ℕ) (bytes rest : List ℕ) (batch : Batch) (first r : List ℕ) → f < 2 ^ 64 → n < 2 ^ 32 → bytes ≡ (big_bytes 8 f ++ big_bytes 4 n) ++ rest → IsBatch blocks before batch → (encodes : EncodesBatch batch first)
    → 1 ∷ bytes ≡ first ++ r → (f ≡ batch.front) × (n ≡ length batch.images) × (rest ≡ encodes.text ++ r)
behind_header blocks before f n bytes rest batch first r front count is next encodes e =
    let whole : 1 ∷ bytes ≡ (1 ∷ ((big_bytes 8 batch.front ++ big_bytes 4 (length batch.images)) ++ encodes.text)) ++ r = e ∙ ap (λ (l : List ℕ). l ++ r) encodes.is in
    let behind : bytes ≡ ((big_bytes 8 batch.front ++ big_bytes 4 (length batch.images)) ++ encodes.text) ++ r = cc in
    heads_apart 8 4 f n batch.front (length batch.images) rest encodes.text r (omega arith) (omega (arith, next.limit)) (omega arith) (omega (arith, next.count)) (sym is ∙ behind)

-- whole images that are read from the same bytes are the same
pub same_images : (xs ys : List Image) (a b r s : List ℕ) → length xs ≡ length ys → All IsWhole xs → All IsWhole ys → InTurn EncodesImage xs a → InTurn EncodesImage ys b → a ++ r ≡ b ++ s → (xs ≡ ys) × (r ≡ s)
same_images xs ys a b r s len whole whole' turn turn' e = images_apart 4 4096 (2 ^ 31) high_fits xs ys a b r s len (whole_fits xs whole) (whole_fits ys whole') turn turn' e

-- no batch begins another
pub batches_apart : (blocks before : ℕ) (x y : Batch) (a b r s : List ℕ) → IsBatch blocks before x → IsBatch blocks before y → EncodesBatch x a → EncodesBatch y b → a ++ r ≡ b ++ s → (x ≡ y) × (r ≡ s)
batches_apart blocks before x y a b r s is is' encodes encodes' e =
    let (fronts, counts, behind) = behind_header blocks before x.front (length x.images) ((big_bytes 8 x.front ++ big_bytes 4 (length x.images)) ++ encodes.text ++ r) (encodes.text ++ r) y b s (omega (arith, is.limit)) (omega (arith, is.count))
    (append_assoc (big_bytes 8 x.front ++ big_bytes 4 (length x.images)) encodes.text r) is' encodes' (sym (ap (λ (l : List ℕ). l ++ r) encodes.is) ∙ e) in
    let images = same_images x.images y.images encodes.text encodes'.text r s counts is.whole is'.whole encodes.images encodes'.images behind in
    let front_is : x.front ≡ y.front = fronts in
    let images_are : x.images ≡ y.images = images.0 in
    (λ i. record { front = front_is i; images = images_are i }, images.1)

-- where so many images of a longer list were read, and no image is behind them, the longer list isn't there
pub no_longer_list : (xs : List Image) (a r : List ℕ) (count : ℕ) (ys : List Image) (b s : List ℕ) → length xs < count → All IsWhole xs → InTurn EncodesImage xs a
    → ((y : Image) (one rest : List ℕ) → IsWhole y → EncodesImage y one → 0 < length rest → r ≡ one ++ rest → ⊥)
    → length ys ≡ count → All IsWhole ys → InTurn EncodesImage ys b → 0 < length s → a ++ r ≡ b ++ s → ⊥
no_longer_list xs a r count ys b s less whole turn none counted whole' turn' some e =
    none_behind 4 4096 (2 ^ 31) high_fits xs ys a b r s (omega (arith, less, counted)) (whole_fits xs whole) (whole_fits ys whole') turn turn' some e
    (λ y one rest fits encodes more is. none y one rest (record { block = fits.block; size = fits.long }) encodes more is)

-- a batch takes 17 bytes at least
pub length-batch : (blocks before : ℕ) (batch : Batch) (bytes : List ℕ) → IsBatch blocks before batch → EncodesBatch batch bytes → 17 ≤ length bytes
length-batch blocks before batch bytes is encodes =
    omega (
      arith,
      ap length encodes.is,
      length-append (head_encoding batch.front (length batch.images)) encodes.text,
      length-head batch.front (length batch.images),
      some batch.images encodes.text is.images.some encodes.images,
    )
  where
    some : (images : List Image) (text : List ℕ) → 0 < length images → InTurn EncodesImage images text → 4 ≤ length text
    some [] text less turn = absurd (omega arith)
    some (image ∷ images) text less (one, rest, encodes, turn, is) = omega (arith, ap length is, length-append one rest, at_least image one encodes)
