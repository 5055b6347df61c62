-- What bytes are, by the pieces that were read of them.
use Rattle.std.proofs.Common.{◌≡◌, ◌≢◌, ℕ, ◌^◌, ◌<◌, true, false, nat_eq, List, ◌++◌, length, take, drop, refl, sym, ◌∙◌, ap, append_assoc}
use Rattle.std.specs.Prelude.{Option, Some, None, Result, Ok, IfOk, IfSome, IfNone, IsErrOf, ◌↔◌, codes}
use Rattle.std.specs.Option.{ok_or}
use Rattle.std.specs.Cmp.Lexicographic.{pointwise, other_text, same_text}
use Rattle.std.proofs.lemmas.List.{take_at, take-append-drop}
use Rattle.byteorder.specs.Endian.{big_bytes}
use Rattle.home_blocks.specs.Version.{version_number}
use Rattle.home_blocks.specs.Superblock.{HasOtherVersion, IsNoSuperblock, IsEncoding, IsSuperblock, Superblock, fields_encoding, header_encoding}
use Rattle.home_blocks.specs.declared.refusal.Refusal.{Refusal}
use Rattle.home_blocks.specs.declared.refusal.Refusal.TheVariants.{NotAVolume}
use Rattle.home_blocks.specs.declared.version.Version.{Version}
use Rattle.home_blocks.proofs.Encodings.{fields_apart, fields_of, no_other, encodes, too_short, too_short_for_another, unmarked, unversioned, version_of}

-- bytes that don't begin with the magic
pub no_magic : (bytes : List ℕ) → pointwise nat_eq (take 8 bytes) (codes "CRAQDISK") ≡ false → IsNoSuperblock bytes
no_magic bytes other =
    let none : (rest : List ℕ) → bytes ≢ codes "CRAQDISK" ++ rest = λ rest is.
    other_text (take 8 bytes) (codes "CRAQDISK") (sym other) (ap (λ (l : List ℕ). take 8 l) is ∙ take_at (codes "CRAQDISK") rest 8 refl) in
    record { none = unmarked bytes none; same = unversioned bytes none }

-- bytes with no room for a version
pub no_version : (bytes : List ℕ) → length bytes < 12 → IsNoSuperblock bytes
no_version bytes short = record { none = too_short bytes short; same = too_short_for_another bytes short }

-- bytes with a header
pub header_is : (bytes behind fields : List ℕ) (version : ℕ) → pointwise nat_eq (take 8 bytes) (codes "CRAQDISK") ≡ true → behind ≡ drop 8 bytes → behind ≡ big_bytes 4 version ++ fields → bytes ≡ header_encoding version ++ fields
header_is bytes behind fields version same is read =
    sym (take-append-drop 8 bytes)
    ∙ ap (λ (l : List ℕ). l ++ drop 8 bytes) (same_text (take 8 bytes) (codes "CRAQDISK") (sym same))
    ∙ ap (λ (l : List ℕ). codes "CRAQDISK" ++ l) (sym is ∙ read)
    ∙ sym (append_assoc (codes "CRAQDISK") (big_bytes 4 version) fields)

-- bytes with the header of another version
pub other_version : (bytes behind fields : List ℕ) (version : ℕ) → pointwise nat_eq (take 8 bytes) (codes "CRAQDISK") ≡ true → behind ≡ drop 8 bytes → behind ≡ big_bytes 4 version ++ fields → version < 2 ^ 32 → ((v : Version) → version ≢ version_number v) → HasOtherVersion bytes
other_version bytes behind fields version same is read fits other =
    record { version = version; rest = fields; fits = fits; other = other; begins = header_is bytes behind fields version same is read }

-- bytes with the header of version 1 or 2
module _ (version : Version) (bytes fields : List ℕ) (begins : bytes ≡ header_encoding (version_number version) ++ fields) where
  pub no_fields : ((sb : Superblock) → IsSuperblock sb → fields ≡ fields_encoding sb → ⊥) → IsNoSuperblock bytes
  no_fields never = record { none = λ sb encoded. never sb encoded.is (fields_of version bytes fields begins sb encoded); same = no_other version bytes fields begins }

  -- a superblock that was read of the fields, or none
  abbrev Answer : Option Superblock → Result Superblock Refusal
  Answer found = ok_or found NotAVolume

  pub answer_found : (found : Option Superblock) → IfSome found (λ sb. sb.version ≡ version) → IfSome found (λ sb. fields ≡ fields_encoding sb) → IfSome found IsSuperblock → IfOk (Answer found) (IsEncoding bytes)
  answer_found (Some sb) same read is = encodes version bytes fields begins sb is same read
  answer_found None same read is = tt

  pub answer_exact : (found : Option Superblock) → IfSome found (λ sb. sb.version ≡ version) → IfSome found (λ sb. fields ≡ fields_encoding sb) → IfSome found IsSuperblock → IfNone found ((sb : Superblock) → IsSuperblock sb → fields ≡ fields_encoding sb → ⊥)
      → (sb : Superblock) → IsEncoding bytes sb → Answer found ≡ Ok sb
  answer_exact (Some here) versions read is none sb encoded =
      let same = fields_apart here sb is encoded.is (versions ∙ version_of version bytes fields begins sb encoded) (sym read ∙ fields_of version bytes fields begins sb encoded) in
      λ i. Ok (same i)
  answer_exact None versions read is none sb encoded = absurd (none sb encoded.is (fields_of version bytes fields begins sb encoded))

  pub answer_none : (found : Option Superblock) → IfSome found (λ sb. sb.version ≡ version) → IfSome found (λ sb. fields ≡ fields_encoding sb) → IfSome found IsSuperblock → IfNone found ((sb : Superblock) → IsSuperblock sb → fields ≡ fields_encoding sb → ⊥)
      → IsErrOf (Answer found) NotAVolume ↔ IsNoSuperblock bytes
  answer_none (Some sb) same read is none = (λ e. absurd (cc e), λ no. absurd (no.none sb (encodes version bytes fields begins sb is same read)))
  answer_none None same read is none = (λ e. no_fields none, λ no. refl)
