-- What stands behind an open gate: a batch, or none.
use Rattle.std.proofs.Common.{◌≡◌, ℕ, ◌+◌, ◌^◌, ◌<◌, ◌≤◌, List, [], ◌∷◌, ◌++◌, length, drop, refl, sym, ◌∙◌, ap, subst, arith, append_assoc, length-append, length-drop, All}
use Rattle.byteorder.specs.Endian.{big_bytes}
use Rattle.gate_journal.specs.Image.{Image}
use Rattle.gate_journal.specs.declared.batch.TheConstants.{MAX_NUMBER}
use Rattle.gate_journal.specs.Batch.{AreImages, Batch, EncodesBatch, EncodesImage, InTurn, IsBatch, IsDamaged, IsWhole, head_encoding}
use Rattle.gate_journal.specs.Reading.{HasNoBatch, HasNoImages, HoldsAt, HoldsTo}
use Rattle.gate_journal.proofs.ImageLists.{length-le_blocks}
use Rattle.gate_journal.proofs.Encodings.{behind_header, length-batch, same_images}
use Rattle.gate_journal.proofs.Marks.{length-head}

module _ (blocks before : ℕ) (area : List ℕ) (len at : ℕ) (is_len : length area ≡ len) (within : at < len) where
  -- there is none where there isn't room for one mark
  pub no_room : len < at + 18 → HasNoBatch blocks before (1 ∷ drop (at + 1) area)
  no_room short batch first rest is encodes some e =
      absurd (omega (arith, ap length e, length-append first rest, length-batch blocks before batch first is encodes, length-drop (at + 1) area))

  module _ (f n : ℕ) (front : f < 2 ^ 64) (count : n < 2 ^ 32) (header : HoldsAt area (at + 1) (at + 1 + 12) (big_bytes 8 f ++ big_bytes 4 n)) where
    -- the header of a batch passes the tests
    pub record Passes : Type 0 where
      pub rises : before < f
      pub limit : f ≤ MAX_NUMBER
      pub some : 0 < n
      pub few : n ≤ blocks

    passes : (batch : Batch) (first rest : List ℕ) → IsBatch blocks before batch → EncodesBatch batch first → 1 ∷ drop (at + 1) area ≡ first ++ rest → Passes
    passes batch first rest is encodes e =
        let (front_is, count_is, behind) = behind_header blocks before f n (drop (at + 1) area) (drop (at + 1 + 12) area) batch first rest front count header is encodes e in
        record {
          rises = omega (arith, is.rises);
          limit = omega (arith, is.limit);
          some = omega (arith, is.images.some);
          few = omega (arith, length-le_blocks blocks batch.images is.images);
        }

    pub not_passed : (Passes → ⊥) → HasNoBatch blocks before (1 ∷ drop (at + 1) area)
    not_passed never batch first rest is encodes some e = never (passes batch first rest is encodes e)

    -- the images of a batch are there
    pub not_there : (place : ℕ) → place ≡ at + 1 + 12 → HasNoImages n (drop place area) → HasNoBatch blocks before (1 ∷ drop (at + 1) area)
    not_there place is_place none batch first rest is encodes some e =
        let (front_is, count_is, behind) = behind_header blocks before f n (drop (at + 1) area) (drop (at + 1 + 12) area) batch first rest front count header is encodes e in
        none batch.images encodes.text rest (sym count_is) is.whole encodes.images some (ap (λ (k : ℕ). drop k area) is_place ∙ behind)

    module _ (images : List Image) (counted : length images ≡ n) (whole : All IsWhole images) (place : ℕ) (is_place : place ≡ at + 1 + 12) (end : ℕ) (there : HoldsTo (InTurn EncodesImage) (drop place area) area place end images) where
      behind : drop (at + 1 + 12) area ≡ there.bytes ++ drop end area
      behind = ap (λ (k : ℕ). drop k area) (sym is_place) ∙ there.stands

      -- the images of a batch are images of the volume
      pub not_images : (AreImages blocks images → ⊥) → HasNoBatch blocks before (1 ∷ drop (at + 1) area)
      not_images never batch first rest is encodes some e =
          let (front_is, count_is, after) = behind_header blocks before f n (drop (at + 1) area) (drop (at + 1 + 12) area) batch first rest front count header is encodes e in
          let same : batch.images ≡ images = (same_images batch.images images encodes.text there.bytes rest (drop end area) (sym count_is ∙ sym counted) is.whole whole encodes.images there.encodes (sym after ∙ behind)).0 in
          never (subst (AreImages blocks) same is.images)

      pub found : HoldsTo EncodesBatch (1 ∷ drop (at + 1) area) area at end (record { front = f; images = images })
      found = record {
        bytes = 1 ∷ (head_encoding f (length images) ++ there.bytes);
        encodes = record { text = there.bytes; images = there.encodes; is = refl };
        stands = ap (λ (l : List ℕ). 1 ∷ l) (subst (λ (k : ℕ). HoldsAt area (at + 1) (at + 1 + 12) (big_bytes 8 f ++ big_bytes 4 k)) (sym counted) header
            ∙ ap (λ (l : List ℕ). head_encoding f (length images) ++ l) behind
            ∙ sym (append_assoc (head_encoding f (length images)) there.bytes (drop end area)));
        long = omega (arith, there.long, is_place, length-append (head_encoding f (length images)) there.bytes, length-head f (length images));
      }

-- an open gate without a batch behind it is damage
pub damaged_from : (blocks before : ℕ) (gate : ℕ) (area behind : List ℕ) → area ≡ gate ∷ behind → gate ≡ 1 → HasNoBatch blocks before (1 ∷ behind) → IsDamaged blocks before area
damaged_from blocks before gate area behind is is_open no_batch [] holds =
    let here : area ≡ holds.gate ∷ holds.rest = holds.is ∙ ap (λ (l : List ℕ). l ++ holds.gate ∷ holds.rest) holds.encode in
    holds.closed (cc)
damaged_from blocks before gate area behind is is_open no_batch (batch ∷ batches) holds =
    let (first, rest, encodes, turn, all) = holds.encode in
    no_batch batch first (rest ++ holds.gate ∷ holds.rest) holds.are.0 encodes (omega (arith, length-append rest (holds.gate ∷ holds.rest)))
    (ap (λ (g : ℕ). g ∷ behind) (sym is_open) ∙ sym is ∙ holds.is ∙ ap (λ (l : List ℕ). l ++ holds.gate ∷ holds.rest) all ∙ append_assoc first rest (holds.gate ∷ holds.rest))
