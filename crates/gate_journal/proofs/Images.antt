-- What stands at a place of an area: an image, a mark, or neither.
use Rattle.std.proofs.Common.{◌≡◌, inl, inr, ℕ, ◌+◌, ◌*◌, ◌^◌, ◌<◌, ◌≤◌, List, [], ◌∷◌, ◌++◌, length, drop, replicate, refl, sym, ◌∙◌, ap, subst, arith, append_assoc, length-append, length-drop, All}
use Rattle.std.proofs.lemmas.List.{drop-drop, drop_at, length-replicate}
use Rattle.byteorder.specs.Endian.{big_bytes}
use Rattle.byteorder.specs.Numbers.{length-bytes_high_first}
use Rattle.gate_journal.specs.Image.{Image}
use Rattle.gate_journal.specs.Batch.{EncodesImage, InTurn, IsWhole}
use Rattle.gate_journal.specs.Reading.{HasNoImage, HasNoImages, HoldsAt, HoldsTo}
use Rattle.gate_journal.proofs.Encodings.{no_longer_list, numbers_apart}
use Rattle.gate_journal.proofs.Marks.{are_zeros, at_least, turn_append, turn_one}

-- a block of zeros
abbrev pub zeros_of : ℕ → Image
zeros_of block = record { block = block; bytes = replicate 4096 0 }

pub zeros_whole : (number : ℕ) → 2 ^ 31 ≤ number → number < 2 ^ 32 → (block : ℕ) → block + 2 ^ 31 ≡ number → IsWhole (zeros_of block)
zeros_whole number high fits block is = record { block = omega (arith, fits, is); size = length-replicate {A = ℕ} 4096 0 }

-- a number with the bit of a mark stands there
pub mark_stands : (area : List ℕ) (at number block : ℕ) → HoldsAt area at (at + 4) (big_bytes 4 number) → block + 2 ^ 31 ≡ number → HoldsTo EncodesImage (drop at area) area at (at + 4) (zeros_of block)
mark_stands area at number block stands is = record {
  bytes = big_bytes 4 number;
  encodes = inr (are_zeros 4096, ap (big_bytes 4) (sym is));
  stands = stands;
  long = ap (λ (n : ℕ). at + n) (sym (length-bytes_high_first 4 number));
}

-- a whole image stands there
pub image_stands : (area : List ℕ) (at : ℕ) (image : Image) → HoldsAt area at (at + 4100) (big_bytes 4 image.block ++ image.bytes) → length image.bytes ≡ 4096 → HoldsTo EncodesImage (drop at area) area at (at + 4100) image
image_stands area at image stands long = record {
  bytes = big_bytes 4 image.block ++ image.bytes;
  encodes = inl refl;
  stands = stands;
  long = omega (arith, length-append (big_bytes 4 image.block) image.bytes, length-bytes_high_first 4 image.block, long);
}

module _ (area : List ℕ) (len at : ℕ) (is_len : length area ≡ len) (within : at ≤ len) where
  -- there is none where there is no room for a mark
  pub no_mark : len ≤ at + 4 → HasNoImage (drop at area)
  no_mark short image first rest whole encodes some e =
      omega (arith, ap length e, length-append first rest, at_least image first encodes, length-drop at area, some)

  -- nor where a whole one has no room, and the number is no mark's
  pub no_whole : (number : ℕ) → number < 2 ^ 31 → len ≤ at + 4100 → HoldsAt area at (at + 4) (big_bytes 4 number) → HasNoImage (drop at area)
  no_whole number low short stands image first rest whole (inl is) some e =
      omega (arith, ap length e, length-append first rest, ap length is, length-append (big_bytes 4 image.block) image.bytes, length-bytes_high_first 4 image.block, whole.size, length-drop at area, some)
  no_whole number low short stands image first rest whole (inr (blank, is)) some e =
      let same = numbers_apart 4 number (image.block + 2 ^ 31) (drop (at + 4) area) rest (omega (arith, low)) (omega (arith, whole.block)) (sym stands ∙ e ∙ ap (λ (l : List ℕ). l ++ rest) is) in
      omega (arith, same.0, low)

-- an image alone
pub one_alone : (from area : List ℕ) (at end : ℕ) (image : Image) → HoldsTo EncodesImage from area at end image → HoldsTo (InTurn EncodesImage) from area at end (image ∷ [])
one_alone from area at end image there = record { bytes = there.bytes; encodes = turn_one EncodesImage image there.bytes there.encodes; stands = there.stands; long = there.long }

-- images more that were read
pub some_more : (area : List ℕ) (at place end : ℕ) (images others : List Image) → HoldsTo (InTurn EncodesImage) (drop at area) area at place images → HoldsTo (InTurn EncodesImage) (drop place area) area place end others
    → HoldsTo (InTurn EncodesImage) (drop at area) area at end (images ++ others)
some_more area at place end images others had more = record {
  bytes = had.bytes ++ more.bytes;
  encodes = turn_append EncodesImage images others had.bytes more.bytes had.encodes more.encodes;
  stands = had.stands ∙ ap (λ (l : List ℕ). had.bytes ++ l) more.stands ∙ sym (append_assoc had.bytes more.bytes (drop end area));
  long = omega (arith, had.long, more.long, length-append had.bytes more.bytes);
}

-- a mark more
pub mark_more : (bytes : List ℕ) (marks : List Image) (number block : ℕ) → HoldsTo (InTurn EncodesImage) bytes bytes 0 (4 * length marks) marks → HoldsAt bytes (4 * length marks) (4 * length marks + 4) (big_bytes 4 number) → block + 2 ^ 31 ≡ number
    → HoldsTo (InTurn EncodesImage) bytes bytes 0 (4 * length (marks ++ zeros_of block ∷ [])) (marks ++ zeros_of block ∷ [])
mark_more bytes marks number block had stands is =
    let place = 4 * length marks in
    let end : place + 4 ≡ 4 * length (marks ++ zeros_of block ∷ []) = omega (arith, length-append marks (zeros_of block ∷ [])) in
    let mark = one_alone (drop place bytes) bytes place (place + 4) (zeros_of block) (mark_stands bytes place number block stands is) in
    subst (λ (n : ℕ). HoldsTo (InTurn EncodesImage) bytes bytes 0 n (marks ++ zeros_of block ∷ [])) end
    (some_more bytes 0 place (place + 4) marks (zeros_of block ∷ []) had mark)

-- what bytes of the area begin with stands in the area
pub stands_within : (area bytes : List ℕ) (at end size : ℕ) (images : List Image) → HoldsAt area at end bytes → HoldsTo (InTurn EncodesImage) bytes bytes 0 size images → HoldsTo (InTurn EncodesImage) (drop at area) area at (at + size) images
stands_within area bytes at end size images there begin =
    let rest = drop size bytes ++ drop end area in
    let whole : drop at area ≡ begin.bytes ++ rest = there ∙ ap (λ (l : List ℕ). l ++ drop end area) begin.stands ∙ append_assoc begin.bytes (drop size bytes) (drop end area) in
    let behind : rest ≡ drop (at + size) area = sym (drop_at begin.bytes rest size (omega (arith, begin.long))) ∙ ap (λ (l : List ℕ). drop size l) (sym whole) ∙ drop-drop size at area in
    record {
      bytes = begin.bytes;
      encodes = begin.encodes;
      stands = whole ∙ ap (λ (l : List ℕ). begin.bytes ++ l) behind;
      long = omega (arith, begin.long);
    }

-- no image where fewer than so many were read: there aren't so many
pub no_more : (area : List ℕ) (at place count : ℕ) (images : List Image) → HoldsTo (InTurn EncodesImage) (drop at area) area at place images → length images < count → All IsWhole images → HasNoImage (drop place area) → HasNoImages count (drop at area)
no_more area at place count images had less whole none others first rest counted whole' turn some e =
    no_longer_list images had.bytes (drop place area) count others first rest less whole had.encodes none counted whole' turn some (sym had.stands ∙ e)
