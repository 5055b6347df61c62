-- No two superblocks have one encoding, and what the pieces of one come to.
use Rattle.std.proofs.Common.{◌≡◌, ◌≢◌, ℕ, ◌+◌, ◌*◌, ◌^◌, ◌<◌, ◌≤◌, List, [], ◌∷◌, ◌++◌, length, take, drop, get_or, inl, inr, refl, sym, subst, ◌∙◌, ap, arith, append_assoc, length-append}
use Rattle.std.specs.Prelude.{codes}
use Rattle.std.proofs.Props.{props}
use Rattle.std.proofs.lemmas.Bool.{cases_lt}
use Rattle.std.proofs.lemmas.List.{append_cancel_left, get_or-take, get_or_past, length-take, take-append-drop}
use Rattle.std.proofs.Math.Path.{subst₃}
use Rattle.byteorder.specs.Endian.{big_bytes, big_from}
use Rattle.byteorder.specs.Numbers.{big_number-reads_back, length-bytes_high_first}
use Rattle.volume.specs.Limits.{AreBlocks, IsPayload, least_area_of}
use Rattle.volume.specs.declared.geometry.Geometry.{Geometry}
use Rattle.home_blocks.specs.Area.{area_number}
use Rattle.home_blocks.specs.Fields.{numbers_of, numbers_encoding}
use Rattle.home_blocks.specs.Progress.{progress_number}
use Rattle.home_blocks.specs.Version.{version_number}
use Rattle.home_blocks.specs.Superblock.{HasOtherVersion, IsEncoding, IsSuperblock, Superblock, fields_encoding, header_encoding, superblock_encoding}
use Rattle.home_blocks.specs.declared.area.Area.{Area}
use Rattle.home_blocks.specs.declared.area.Area.TheVariants.{First, Second}
use Rattle.home_blocks.specs.declared.fields.Fields.{Fields}
use Rattle.home_blocks.specs.declared.progress.Progress.{Progress}
use Rattle.home_blocks.specs.declared.progress.Progress.TheVariants.{Installing, Whole}
use Rattle.home_blocks.specs.declared.version.Version.{Version}
use Rattle.home_blocks.specs.declared.version.Version.TheVariants.{One, Two}

-- two ways to cut one list behind as many elements are one
same_halves : (a b c d : List ℕ) → length a ≡ length c → a ++ b ≡ c ++ d → (a ≡ c) × (b ≡ d)
same_halves [] b [] d len e = (refl, e)
same_halves [] b (y ∷ c) d len e = absurd (omega arith)
same_halves (x ∷ a) b [] d len e = absurd (omega arith)
same_halves (x ∷ a) b (y ∷ c) d len e =
    let heads : x ≡ y = cc in
    let tails : a ++ b ≡ c ++ d = cc in
    let rest = same_halves a b c d (omega arith) tails in
    let fronts = rest.0 in
    (λ i. heads i ∷ fronts i, rest.1)

-- pieces, one behind the other
in_turn : (incarnation blocks area max_payload front current : List ℕ) → incarnation ++ (blocks ++ area ++ max_payload) ++ front ++ current ≡ incarnation ++ (blocks ++ (area ++ (max_payload ++ (front ++ current))))
in_turn incarnation blocks area max_payload front current = simp append_assoc

-- the widths of numbers stand as variables, so that nothing computes
module _ (w m : ℕ) where
  -- a number is what its bytes make
  pub numbers_apart : (n x y : ℕ) (r s : List ℕ) → x < 256 ^ n → y < 256 ^ n → big_bytes n x ++ r ≡ big_bytes n y ++ s → (x ≡ y) × (r ≡ s)
  numbers_apart n x y r s fits fits' e =
      let same = sym (big_number-reads_back n x r fits) ∙ ap (big_from 0 n) e ∙ big_number-reads_back n y s fits' in
      (same, (same_halves (big_bytes n x) r (big_bytes n y) s (length-bytes_high_first n x ∙ sym (length-bytes_high_first n y)) e).1)

  abbrev text : Fields → List ℕ
  text n = n.progress ∷ n.slot ∷ big_bytes w n.incarnation ++ (big_bytes m n.blocks ++ big_bytes m n.area ++ big_bytes m n.max_payload) ++ big_bytes w n.front ++ n.current ∷ []

  -- the same, grouped as it is read
  abbrev behind : Fields → List ℕ
  behind n = big_bytes w n.incarnation ++ (big_bytes m n.blocks ++ (big_bytes m n.area ++ (big_bytes m n.max_payload ++ (big_bytes w n.front ++ n.current ∷ []))))

  regrouped : (n : Fields) → text n ≡ n.progress ∷ n.slot ∷ behind n
  regrouped n =
      ap (λ (l : List ℕ). n.progress ∷ n.slot ∷ l)
      (in_turn (big_bytes w n.incarnation) (big_bytes m n.blocks) (big_bytes m n.area) (big_bytes m n.max_payload) (big_bytes w n.front) (n.current ∷ []))

  -- the numbers fit their widths
  pub record HaveRoom (n : Fields) : Type 0 where
    pub incarnation : n.incarnation < 256 ^ w
    pub blocks : n.blocks < 256 ^ m
    pub area : n.area < 256 ^ m
    pub max_payload : n.max_payload < 256 ^ m
    pub front : n.front < 256 ^ w

  pub texts_apart : (n o : Fields) → HaveRoom n → HaveRoom o → text n ≡ text o → n ≡ o
  texts_apart n o fits fits' e =
      let whole : n.progress ∷ n.slot ∷ behind n ≡ o.progress ∷ o.slot ∷ behind o = sym (regrouped n) ∙ e ∙ regrouped o in
      let progress : n.progress ≡ o.progress = cc in
      let slot : n.slot ≡ o.slot = cc in
      let first : behind n ≡ behind o = cc in
      let (incarnation, e1) = numbers_apart w n.incarnation o.incarnation _ _ fits.incarnation fits'.incarnation first in
      let (blocks, e2) = numbers_apart m n.blocks o.blocks _ _ fits.blocks fits'.blocks e1 in
      let (area, e3) = numbers_apart m n.area o.area _ _ fits.area fits'.area e2 in
      let (max_payload, e4) = numbers_apart m n.max_payload o.max_payload _ _ fits.max_payload fits'.max_payload e3 in
      let (front, e5) = numbers_apart w n.front o.front _ _ fits.front fits'.front e4 in
      let current : n.current ≡ o.current = cc in
      λ i. record { progress = progress i; slot = slot i; incarnation = incarnation i; blocks = blocks i; area = area i; max_payload = max_payload i; front = front i; current = current i }

  pub length-text : (n : Fields) → length (text n) ≡ 2 + w + 3 * m + w + 1
  length-text n =
      let five = ap (λ (l : List ℕ). length l) (regrouped n) in
      omega (
        arith,
        five,
        length-append (big_bytes w n.incarnation) (big_bytes m n.blocks ++ (big_bytes m n.area ++ (big_bytes m n.max_payload ++ (big_bytes w n.front ++ n.current ∷ [])))),
        length-append (big_bytes m n.blocks) (big_bytes m n.area ++ (big_bytes m n.max_payload ++ (big_bytes w n.front ++ n.current ∷ []))),
        length-append (big_bytes m n.area) (big_bytes m n.max_payload ++ (big_bytes w n.front ++ n.current ∷ [])),
        length-append (big_bytes m n.max_payload) (big_bytes w n.front ++ n.current ∷ []),
        length-append (big_bytes w n.front) (n.current ∷ []),
        length-bytes_high_first w n.incarnation,
        length-bytes_high_first m n.blocks,
        length-bytes_high_first m n.area,
        length-bytes_high_first m n.max_payload,
        length-bytes_high_first w n.front,
      )

  -- a header, and what is behind it
  abbrev header : List ℕ → ℕ → List ℕ
  header magic version = magic ++ big_bytes m version

  pub headers_apart : (magic : List ℕ) (x y : ℕ) (r s : List ℕ) → x < 256 ^ m → y < 256 ^ m → header magic x ++ r ≡ header magic y ++ s → (x ≡ y) × (r ≡ s)
  headers_apart magic x y r s fits fits' e =
      numbers_apart m x y r s fits fits'
      (append_cancel_left magic (big_bytes m x ++ r) (big_bytes m y ++ s) (sym (append_assoc magic (big_bytes m x) r) ∙ e ∙ append_assoc magic (big_bytes m y) s))

  pub length-header : (magic : List ℕ) (x : ℕ) (r : List ℕ) → length (header magic x ++ r) ≡ length magic + m + length r
  length-header magic x r = omega (arith, length-append (magic ++ big_bytes m x) r, length-append magic (big_bytes m x), length-bytes_high_first m x)

-- the numbers of a superblock fit
fields_fit : (sb : Superblock) → IsSuperblock sb → HaveRoom 8 4 (numbers_of sb)
fields_fit sb is = record {
  incarnation = omega (arith, is.incarnation);
  blocks = omega (arith, sb.geometry.some_blocks.1);
  area = omega (arith, is.area);
  max_payload = omega (arith, sb.geometry.payload_in_range.1);
  front = omega (arith, is.front);
}

-- two numbers are of one version, of one progress, or of one area
pub same_version : (v w : Version) → version_number v ≡ version_number w → v ≡ w
same_version One One e = refl
same_version One Two e = absurd (omega arith)
same_version Two One e = absurd (omega arith)
same_version Two Two e = refl

same_progress : (p q : Progress) → progress_number p ≡ progress_number q → p ≡ q
same_progress Installing Installing e = refl
same_progress Installing Whole e = absurd (omega arith)
same_progress Whole Installing e = absurd (omega arith)
same_progress Whole Whole e = refl

same_area : (a b : Area) → area_number a ≡ area_number b → a ≡ b
same_area First First e = refl
same_area First Second e = absurd (omega arith)
same_area Second First e = absurd (omega arith)
same_area Second Second e = refl

-- a geometry is its three numbers
module _ (g : Geometry) where
  abbrev Same : ℕ → ℕ → ℕ → Type 0
  Same blocks area max_payload = (some : AreBlocks blocks) (range : IsPayload max_payload) (fits : least_area_of max_payload ≤ area)
      → g ≡ record { blocks = blocks; area = area; max_payload = max_payload; some_blocks = some; payload_in_range = range; area_fits = fits }

  blocks_prop : IsProp (AreBlocks g.blocks)
  blocks_prop = hlevel props

  payload_prop : IsProp (IsPayload g.max_payload)
  payload_prop = hlevel props

  area_prop : IsProp (least_area_of g.max_payload ≤ g.area)
  area_prop = hlevel props

  same_here : Same g.blocks g.area g.max_payload
  same_here some range fits = λ i. record {
    blocks = g.blocks;
    area = g.area;
    max_payload = g.max_payload;
    some_blocks = blocks_prop g.some_blocks some i;
    payload_in_range = payload_prop g.payload_in_range range i;
    area_fits = area_prop g.area_fits fits i;
  }

  pub same_geometry : (h : Geometry) → g.blocks ≡ h.blocks → g.area ≡ h.area → g.max_payload ≡ h.max_payload → g ≡ h
  same_geometry h blocks area max_payload = subst₃ Same blocks area max_payload same_here h.some_blocks h.payload_in_range h.area_fits

-- a superblock is its version and its numbers
pub same_superblock : (sb other : Superblock) → sb.version ≡ other.version → numbers_of sb ≡ numbers_of other → sb ≡ other
same_superblock sb other version e =
    let progress = same_progress sb.progress other.progress (ap (λ (n : Fields). n.progress) e) in
    let slot = ap (λ (n : Fields). n.slot) e in
    let incarnation = ap (λ (n : Fields). n.incarnation) e in
    let geometry = same_geometry sb.geometry other.geometry (ap (λ (n : Fields). n.blocks) e) (ap (λ (n : Fields). n.area) e) (ap (λ (n : Fields). n.max_payload) e) in
    let front = ap (λ (n : Fields). n.front) e in
    let current = same_area sb.current other.current (ap (λ (n : Fields). n.current) e) in
    λ i. record { version = version i; progress = progress i; slot = slot i; incarnation = incarnation i; geometry = geometry i; front = front i; current = current i }

-- numbers with the encoding of a superblock's fields are those of that superblock
pub fields_are : (fields : Fields) (sb : Superblock) → HaveRoom 8 4 fields → IsSuperblock sb → numbers_encoding fields ≡ fields_encoding sb → fields ≡ numbers_of sb
fields_are fields sb fits is e = texts_apart 8 4 fields (numbers_of sb) fits (fields_fit sb is) e

pub length-fields : (sb : Superblock) → length (fields_encoding sb) ≡ 31
length-fields sb = length-text 8 4 (numbers_of sb)

-- the number of a version has four bytes
version_fits : (v : Version) → version_number v < 256 ^ 4
version_fits One = omega arith
version_fits Two = omega arith

-- no two superblocks have one encoding
pub fields_apart : (sb other : Superblock) → IsSuperblock sb → IsSuperblock other → sb.version ≡ other.version → fields_encoding sb ≡ fields_encoding other → sb ≡ other
fields_apart sb other is is' version e = same_superblock sb other version (fields_are (numbers_of sb) other (fields_fit sb is) is' e)

pub superblocks_apart : (sb other : Superblock) → IsSuperblock sb → IsSuperblock other → superblock_encoding sb ≡ superblock_encoding other → sb ≡ other
unfolding superblock_encoding
superblocks_apart sb other is is' e =
    let (version, fields) = headers_apart 8 4 (codes "CRAQDISK") (version_number sb.version) (version_number other.version) (fields_encoding sb) (fields_encoding other) (version_fits sb.version) (version_fits other.version) e in
    fields_apart sb other is is' (same_version sb.version other.version version) fields

-- nor has one the header of another version
pub other_version_apart : (sb : Superblock) (bytes : List ℕ) → bytes ≡ superblock_encoding sb → HasOtherVersion bytes → ⊥
unfolding superblock_encoding
other_version_apart sb bytes is has =
    has.other sb.version (headers_apart 8 4 (codes "CRAQDISK") has.version (version_number sb.version) has.rest (fields_encoding sb) (omega (arith, has.fits)) (version_fits sb.version) (sym has.begins ∙ is)).0

-- bytes behind a header of version 1 or 2
module _ (version : Version) (bytes fields : List ℕ) (begins : bytes ≡ header_encoding (version_number version) ++ fields) where
  pub encodes : (sb : Superblock) → IsSuperblock sb → sb.version ≡ version → fields ≡ fields_encoding sb → IsEncoding bytes sb
  unfolding superblock_encoding
  encodes sb is same e = record {
    is = is;
    encoded = begins ∙ ap (λ (l : List ℕ). header_encoding (version_number version) ++ l) e ∙ ap (λ (v : Version). header_encoding (version_number v) ++ fields_encoding sb) (sym same);
  }

  halves : (sb : Superblock) → IsEncoding bytes sb → (version_number version ≡ version_number sb.version) × (fields ≡ fields_encoding sb)
  unfolding superblock_encoding
  halves sb encoded =
      headers_apart 8 4 (codes "CRAQDISK") (version_number version) (version_number sb.version) fields (fields_encoding sb) (version_fits version) (version_fits sb.version) (sym begins ∙ encoded.encoded)

  pub version_of : (sb : Superblock) → IsEncoding bytes sb → version ≡ sb.version
  version_of sb encoded = same_version version sb.version (halves sb encoded).0

  pub fields_of : (sb : Superblock) → IsEncoding bytes sb → fields ≡ fields_encoding sb
  fields_of sb encoded = (halves sb encoded).1

  pub no_other : HasOtherVersion bytes → ⊥
  no_other has =
      has.other version (headers_apart 8 4 (codes "CRAQDISK") has.version (version_number version) has.rest fields (omega (arith, has.fits)) (version_fits version) (sym has.begins ∙ begins)).0

-- bytes without the magic
module _ (bytes : List ℕ) (none : (rest : List ℕ) → bytes ≢ codes "CRAQDISK" ++ rest) where
  pub unmarked : (sb : Superblock) → IsEncoding bytes sb → ⊥
  unfolding superblock_encoding
  unmarked sb encoded =
      let version = big_bytes 4 (version_number sb.version) in
      none (version ++ fields_encoding sb) (encoded.encoded ∙ append_assoc (codes "CRAQDISK") version (fields_encoding sb))

  pub unversioned : HasOtherVersion bytes → ⊥
  unversioned has = none (big_bytes 4 has.version ++ has.rest) (has.begins ∙ append_assoc (codes "CRAQDISK") (big_bytes 4 has.version) has.rest)

-- bytes with no room for a header
module _ (bytes : List ℕ) (short : length bytes < 12) where
  pub too_short : (sb : Superblock) → IsEncoding bytes sb → ⊥
  unfolding superblock_encoding
  too_short sb encoded = omega (arith, short, ap (λ (l : List ℕ). length l) encoded.encoded, length-header 8 4 (codes "CRAQDISK") (version_number sb.version) (fields_encoding sb))

  pub too_short_for_another : HasOtherVersion bytes → ⊥
  too_short_for_another has = omega (arith, short, ap (λ (l : List ℕ). length l) has.begins, length-header 8 4 (codes "CRAQDISK") has.version has.rest)

-- the bytes of a slice's front are bytes
pub IsBytes-take : (n : ℕ) (bytes : List ℕ) → ((i : ℕ) → get_or bytes i 0 < 256) → (i : ℕ) → get_or (take n bytes) i 0 < 256
IsBytes-take n bytes fits i =
    elim (cases_lt i n) [
      | inl lt ↦ subst (λ (z : ℕ). z < 256) (sym (get_or-take n bytes i 0 lt)) (fits i)
      | inr le ↦ subst (λ (z : ℕ). z < 256) (sym (get_or_past (take n bytes) i 0 (omega (arith, length-take n bytes)))) (omega arith)
    ]

-- a number's bytes in front, and what follows
pub number_in_front : (n x : ℕ) (bytes front behind : List ℕ) → big_bytes n x ≡ front → front ≡ take n bytes → behind ≡ drop n bytes → bytes ≡ big_bytes n x ++ behind
number_in_front n x bytes front behind is front_is behind_is =
    sym (ap (λ (l : List ℕ). l ++ behind) (is ∙ front_is) ∙ ap (λ (l : List ℕ). take n bytes ++ l) behind_is ∙ take-append-drop n bytes)

-- one field more behind a front
pub put_more : (old new field front piece : List ℕ) (at n m : ℕ) → take (at + length field) new ≡ take at old ++ field → take at old ≡ front → field ≡ piece → length piece ≡ n → at + n ≡ m → take m new ≡ front ++ piece
put_more old new field front piece at n m is before same long to =
    ap (λ (k : ℕ). take k new) (sym to ∙ ap (λ (k : ℕ). at + k) (sym long ∙ ap (λ (l : List ℕ). length l) (sym same))) ∙ is ∙ ap (λ (l : List ℕ). l ++ field) before ∙ ap (λ (l : List ℕ). front ++ l) same

-- all fields, one behind the other
pub assembled : (magic version incarnation blocks area max_payload front : List ℕ) (progress slot current : ℕ)
    → ((((((((magic ++ version) ++ progress ∷ []) ++ slot ∷ []) ++ incarnation) ++ blocks) ++ area) ++ max_payload) ++ front) ++ current ∷ []
    ≡ (magic ++ version) ++ (progress ∷ slot ∷ incarnation ++ (blocks ++ area ++ max_payload) ++ front ++ current ∷ [])
assembled magic version incarnation blocks area max_payload front progress slot current =
    let right : ((((((((magic ++ version) ++ progress ∷ []) ++ slot ∷ []) ++ incarnation) ++ blocks) ++ area) ++ max_payload) ++ front) ++ current ∷ []
    ≡ magic ++ (version ++ (progress ∷ slot ∷ (incarnation ++ (blocks ++ (area ++ (max_payload ++ (front ++ current ∷ []))))))) = simp append_assoc in
    right
    ∙ ap (λ (l : List ℕ). magic ++ (version ++ (progress ∷ slot ∷ l))) (sym (in_turn incarnation blocks area max_payload front (current ∷ [])))
    ∙ sym (append_assoc magic version (progress ∷ slot ∷ incarnation ++ (blocks ++ area ++ max_payload) ++ front ++ current ∷ []))

pub encoding_is : (sb : Superblock)
    → ((((((((codes "CRAQDISK" ++ big_bytes 4 (version_number sb.version)) ++ progress_number sb.progress ∷ []) ++ sb.slot ∷ []) ++ big_bytes 8 sb.incarnation) ++ big_bytes 4 sb.geometry.blocks) ++ big_bytes 4 sb.geometry.area) ++ big_bytes 4 sb.geometry.max_payload) ++ big_bytes 8 sb.front) ++ area_number sb.current ∷ []
    ≡ superblock_encoding sb
unfolding superblock_encoding
encoding_is sb =
    assembled (codes "CRAQDISK") (big_bytes 4 (version_number sb.version)) (big_bytes 8 sb.incarnation) (big_bytes 4 sb.geometry.blocks) (big_bytes 4 sb.geometry.area) (big_bytes 4 sb.geometry.max_payload) (big_bytes 8 sb.front) (progress_number sb.progress) sb.slot (area_number sb.current)
