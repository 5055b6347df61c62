-- Client flags: what is read is encoded so, and what is encoded so is read.
use Rattle.std.proofs.Common.{◌≡◌, ℕ, ◌<◌, ◌≤◌, ◌/◌, ◌%◌, Bool, true, false, eqb, List, [], ◌∷◌, ◌++◌, length, length-append, Result, Ok, Err, refl, sym, ap, subst, ◌∙◌, arith, inl, inr, append_assoc}
use Rattle.std.proofs.lemmas.Bool.{eqb-true, eqb-false, ne_eqb, cases_Bool}
use Rattle.byteorder.specs.Endian.{big_bytes}
use Rattle.nbd_codec.specs.declared.findings.Fault.{Fault}
use Rattle.nbd_codec.specs.declared.findings.Fault.TheVariants.{ClientFlags}
use Rattle.nbd_codec.specs.declared.findings.Reading.{Reading}
use Rattle.nbd_codec.specs.declared.findings.Reading.TheVariants as readings
use Rattle.nbd_codec.specs.declared.fields.Ending.{Ending}
use Rattle.nbd_codec.specs.declared.fields.Ending.TheVariants as endings
use Rattle.nbd_codec.specs.declared.handshake.ClientFlags.{ClientFlags as Flags}
use Rattle.nbd_codec.specs.Fields.{◌>>=◌, limited_at}
use Rattle.nbd_codec.specs.Findings.{AreBytes, IsFault, IsProperPrefix, finding, seen_by}
use Rattle.nbd_codec.specs.Handshake.{AreFlags, flags_encoding, flags_of, flags_at}
use Rattle.nbd_codec.proofs.Parts.{IsField, bind_ok, bind_err}
use Rattle.nbd_codec.proofs.BigNumbers.{width4}
use Rattle.nbd_codec.proofs.Basics.{done_is, IsField-limited, limited_fault}
use Rattle.nbd_codec.proofs.FindingLaws.{fault_of}

abbrev made : Bool → Flags
made no_zeroes = record { no_zeroes = no_zeroes }

abbrev stopped : Result (Flags × List ℕ) Ending
stopped = Err (endings.Fault ClientFlags)

bits_field : IsField (limited_at 3 ClientFlags) (big_bytes 4) (λ n. n ≤ 3)
bits_field = IsField-limited 3 ClientFlags width4 (omega arith)

-- what a number is
data Bits : ℕ → Type 0 where
  plain : Bits 1
  bare : Bits 3
  other : {n : ℕ} → (n ≡ 1 → ⊥) → (n ≡ 3 → ⊥) → Bits n

bits : (n : ℕ) → Bits n
bits n =
    elim (cases_Bool (eqb n 1)) [
      | inl e ↦ subst Bits (sym (eqb-true _ _ e)) plain
      | inr e1 ↦ elim (cases_Bool (eqb n 3)) [
        | inl e ↦ subst Bits (sym (eqb-true _ _ e)) bare
        | inr e3 ↦ other (eqb-false _ _ e1) (eqb-false _ _ e3)
      ]
    ]

of_other : (n : ℕ) (rest : List ℕ) → (n ≡ 1 → ⊥) → (n ≡ 3 → ⊥) → flags_of n rest ≡ stopped
of_other n rest p q = rw (ne_eqb n 1 p, ne_eqb n 3 q) refl

of_ok : (n : ℕ) (rest : List ℕ) (x : Flags) (after : List ℕ) → Bits n → flags_of n rest ≡ Ok (x, after) → (big_bytes 4 n ≡ flags_encoding x) × (rest ≡ after)
of_ok n rest x after plain e = let w = done_is (made false, rest) (x, after) e in (ap (λ (p : Flags × List ℕ). flags_encoding p.0) w, ap (λ (p : Flags × List ℕ). p.1) w)
of_ok n rest x after bare e = let w = done_is (made true, rest) (x, after) e in (ap (λ (p : Flags × List ℕ). flags_encoding p.0) w, ap (λ (p : Flags × List ℕ). p.1) w)
of_ok n rest x after (other p q) e = let wrong = sym (of_other n rest p q) ∙ e in absurd cc

-- a number that is no client flags is none whatever follows
of_err : (n : ℕ) (rest more : List ℕ) (d : Ending) → Bits n → flags_of n rest ≡ Err d → (d ≡ endings.Fault ClientFlags) × (flags_of n more ≡ stopped)
of_err n rest more d plain e = absurd cc
of_err n rest more d bare e = absurd cc
of_err n rest more d (other p q) e = let same = sym e ∙ of_other n rest p q in (cc, of_other n more p q)

small : (n : ℕ) → n ≤ 3 → big_bytes 4 n ≡ 0 ∷ 0 ∷ 0 ∷ n ∷ []
small n le =
    let a : n / 16777216 % 256 ≡ 0 = omega arith in
    let b : n / 65536 % 256 ≡ 0 = omega arith in
    let c : n / 256 % 256 ≡ 0 = omega arith in
    let d : n % 256 ≡ n = omega arith in
    rw (a, b, c, d) refl

-- what is left of client flags behind a proper prefix of a small number
front_of : (bytes rest : List ℕ) (n : ℕ) → 0 < length rest → bytes ++ rest ≡ 0 ∷ 0 ∷ 0 ∷ n ∷ [] → (after : List ℕ) × (0 < length after) × (bytes ++ after ≡ flags_encoding (made false))
front_of [] rest n some e = (0 ∷ 0 ∷ 0 ∷ 1 ∷ [], omega arith, refl)
front_of (a ∷ []) rest n some e = (0 ∷ 0 ∷ 1 ∷ [], omega arith, cc)
front_of (a ∷ b ∷ []) rest n some e = (0 ∷ 1 ∷ [], omega arith, cc)
front_of (a ∷ b ∷ c ∷ []) rest n some e = (1 ∷ [], omega arith, cc)
front_of (a ∷ b ∷ c ∷ d ∷ more) rest n some e = let len = ap length e in absurd (omega (arith, len, length-append more rest))

found : (bytes : List ℕ) (x : Flags) (rest : List ℕ) → AreBytes bytes → flags_at bytes ≡ Ok (x, rest) → AreFlags x × (bytes ≡ flags_encoding x ++ rest)
unfolding flags_at
found bytes x rest are_bytes e =
    let b = bind_ok (limited_at 3 ClientFlags bytes) (λ n. flags_of n.0 n.1) (x, rest) e in
    let w = bits_field.found bytes b.0.0 b.0.1 are_bytes b.1 in
    let v = of_ok b.0.0 b.0.1 x rest (bits b.0.0) b.2 in
    (tt, w.1 ∙ ap (λ (y : List ℕ). y ++ b.0.1) v.0 ∙ ap (λ (y : List ℕ). flags_encoding x ++ y) v.1)

again : (no_zeroes : Bool) (rest : List ℕ) → flags_at (flags_encoding (made no_zeroes) ++ rest) ≡ Ok (made no_zeroes, rest)
unfolding flags_at
again true rest = ap (λ r. r >>= λ n. flags_of n.0 n.1) (bits_field.again 3 rest (omega arith))
again false rest = ap (λ r. r >>= λ n. flags_of n.0 n.1) (bits_field.again 1 rest (omega arith))

short : (bytes : List ℕ) → AreBytes bytes → flags_at bytes ≡ Err endings.Short → IsProperPrefix flags_encoding AreFlags bytes
unfolding flags_at
short bytes are_bytes e =
    elim (bind_err (limited_at 3 ClientFlags bytes) (λ n. flags_of n.0 n.1) endings.Short e) [
      | inl at ↦ let w = bits_field.short bytes are_bytes at in let v = front_of bytes w.rest w.value w.some (w.whole ∙ small w.value w.fits) in record { value = made false; rest = v.0; fits = tt; some = v.1; whole = v.2 }
      | inr a ↦ let wrong = (of_err a.0.0 a.0.1 [] endings.Short (bits a.0.0) a.2).0 in absurd cc
    ]

front : (no_zeroes : Bool) (bytes rest : List ℕ) → 0 < length rest → bytes ++ rest ≡ flags_encoding (made no_zeroes) → flags_at bytes ≡ Err endings.Short
unfolding flags_at
front true bytes rest some whole = ap (λ r. r >>= λ n. flags_of n.0 n.1) (bits_field.front 3 bytes rest (omega arith) some whole)
front false bytes rest some whole = ap (λ r. r >>= λ n. flags_of n.0 n.1) (bits_field.front 1 bytes rest (omega arith) some whole)

-- the one fault stays, whatever follows
fault : (bytes more : List ℕ) (d : Fault) → AreBytes bytes → flags_at bytes ≡ Err (endings.Fault d) → (d ≡ ClientFlags) × (flags_at (bytes ++ more) ≡ stopped)
unfolding flags_at
fault bytes more d are_bytes e =
    elim (bind_err (limited_at 3 ClientFlags bytes) (λ n. flags_of n.0 n.1) (endings.Fault d) e) [
      | inl at ↦
          let same = (limited_fault 3 ClientFlags width4 bytes d at).0 in
          (same, ap (λ r. r >>= λ n. flags_of n.0 n.1) (bits_field.stays bytes more d are_bytes at) ∙ ap (λ (x : Fault). Err (endings.Fault x)) same)
      | inr a ↦
          let w = bits_field.found bytes a.0.0 a.0.1 are_bytes a.1 in
          let v = of_err a.0.0 a.0.1 (a.0.1 ++ more) (endings.Fault d) (bits a.0.0) a.2 in
          let whole : bytes ++ more ≡ big_bytes 4 a.0.0 ++ (a.0.1 ++ more) = ap (λ (y : List ℕ). y ++ more) w.1 ∙ append_assoc (big_bytes 4 a.0.0) a.0.1 more in
          let on : limited_at 3 ClientFlags (bytes ++ more) ≡ Ok (a.0.0, a.0.1 ++ more) = ap (limited_at 3 ClientFlags) whole ∙ bits_field.again a.0.0 (a.0.1 ++ more) w.0 in
          let same = v.0 in
          (cc, ap (λ r. r >>= λ n. flags_of n.0 n.1) on ∙ v.1)
    ]

stays : (bytes more : List ℕ) (d : Fault) → AreBytes bytes → flags_at bytes ≡ Err (endings.Fault d) → flags_at (bytes ++ more) ≡ Err (endings.Fault d)
stays bytes more d are_bytes e =
    let w = fault bytes more d are_bytes e in
    w.1 ∙ ap (λ (x : Fault). Err (endings.Fault x)) (sym w.0)

pub IsField-flags : IsField flags_at flags_encoding AreFlags
IsField-flags = record { found = found; again = λ x rest fits. again x.no_zeroes rest; short = short; front = λ x bytes rest fits some whole. front x.no_zeroes bytes rest some whole; stays = stays }

pub encoding_len : (x : Flags) → length (flags_encoding x) ≡ 4
encoding_len x = refl

-- client flags are seen as they are
abbrev pub own : Flags → Flags
own x = x

pub seen_own : (r : Reading Flags) → seen_by own r ≡ r
seen_own (readings.Value x len) = refl
seen_own readings.More = refl
seen_own (readings.Fault d) = refl

-- there is one fault
pub one_fault : (bytes : List ℕ) (r : Reading Flags) → AreBytes bytes → r ≡ finding bytes (flags_at bytes) → IsFault r → r ≡ readings.Fault ClientFlags
one_fault bytes (readings.Value x n) are_bytes same h = absurd h
one_fault bytes readings.More are_bytes same h = absurd h
one_fault bytes (readings.Fault d) are_bytes same h = ap (λ (e : Fault). readings.Fault e) (fault bytes [] d are_bytes (fault_of flags_at flags_encoding AreFlags own IsField-flags bytes (flags_at bytes) d (sym same))).0
