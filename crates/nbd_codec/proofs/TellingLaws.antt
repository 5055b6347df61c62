-- What holds of what was found holds of what is told of it.
use Rattle.std.proofs.Common.{◌≡◌, ℕ, ◌≤◌, ◌↔◌, List, length, Result, Ok, Err, refl, ap, arith}
use Rattle.nbd_codec.specs.declared.findings.Fault.{Fault}
use Rattle.nbd_codec.specs.declared.fields.Ending.{Ending}
use Rattle.nbd_codec.specs.declared.findings.Reading.{Reading}
use Rattle.nbd_codec.specs.declared.findings.Reading.TheVariants as readings
use Rattle.nbd_codec.specs.Fields.{read_as}
use Rattle.nbd_codec.proofs.Basics.{done, done_is}
use Rattle.nbd_codec.proofs.FindingLaws.{rest_fits}
use Rattle.nbd_codec.proofs.Parts.{IsField}
use Rattle.nbd_codec.specs.Findings.{AreBytes, IfValue, IsFault, seen_by}

pub seen_same : {A : Type 0} (r : Reading A) → seen_by (λ (x : A). x) r ≡ r
seen_same (readings.Value x n) = refl
seen_same readings.More = refl
seen_same (readings.Fault d) = refl

module _ {A X : Type 0} (tell : A → X) where
  pub told_value : (r : Reading A) (P : A → ℕ → Type 0) → IfValue r P → IfValue (seen_by tell r) (λ told n. (x : A) × (told ≡ tell x) × P x n)
  told_value (readings.Value x n) P w = (x, refl, w)
  told_value readings.More P w = tt
  told_value (readings.Fault d) P w = tt

  pub told_len : (r : Reading A) (P : ℕ → Type 0) → IfValue r (λ x n. P n) → IfValue (seen_by tell r) (λ x n. P n)
  told_len (readings.Value x n) P w = w
  told_len readings.More P w = tt
  told_len (readings.Fault d) P w = tt

  pub told_more : (r : Reading A) (P : Type 0) → (r ≡ readings.More) ↔ P → (seen_by tell r ≡ readings.More) ↔ P
  told_more (readings.Value x n) P w = (λ e. absurd cc, λ p. let e = w.1 p in absurd cc)
  told_more readings.More P w = (λ e. w.0 refl, λ p. refl)
  told_more (readings.Fault d) P w = (λ e. absurd cc, λ p. let e = w.1 p in absurd cc)

  pub told_fault : (r : Reading A) (d : Fault) (P : Type 0) → (r ≡ readings.Fault d) ↔ P → (seen_by tell r ≡ readings.Fault d) ↔ P
  told_fault (readings.Value x n) d P w = (λ e. absurd cc, λ p. let e = w.1 p in absurd cc)
  told_fault readings.More d P w = (λ e. absurd cc, λ p. let e = w.1 p in absurd cc)
  told_fault (readings.Fault c) d P w = (λ e. w.0 (cc), λ p. let e = w.1 p in cc)

  pub told_impossible : (r : Reading A) (P : Type 0) → IsFault r ↔ P → IsFault (seen_by tell r) ↔ P
  told_impossible (readings.Value x n) P w = w
  told_impossible readings.More P w = w
  told_impossible (readings.Fault d) P w = w

  -- a value and the bytes after it, told as how many are left
  abbrev pub telling : A × List ℕ → X × ℕ
  telling field = (tell field.0, length field.1)

  left_by : (f : List ℕ → Result (A × List ℕ) Ending) (s : A → List ℕ) (F : A → Type 0) → IsField f s F → (bytes : List ℕ) (q : Result (A × List ℕ) Ending) (x : X) (left : ℕ) → AreBytes bytes → f bytes ≡ q → done (x, left) ≡ read_as telling q → left ≤ length bytes
  left_by f s F field bytes (Ok y) x left is_bytes at e =
      let fits = rest_fits f s F (λ (a : A). a) field bytes y.0 y.1 is_bytes at in
      let same = done_is (x, left) (telling y) e in
      let is_left : left ≡ length y.1 = ap (λ (p : X × ℕ). p.1) same in
      omega (arith, fits, is_left)
  left_by f s F field bytes (Err d) x left is_bytes at e = absurd cc

  -- no more is left than came
  pub left_fits : (f : List ℕ → Result (A × List ℕ) Ending) (s : A → List ℕ) (F : A → Type 0) → IsField f s F → (bytes : List ℕ) (x : X) (left : ℕ) → AreBytes bytes → done (x, left) ≡ read_as telling (f bytes) → left ≤ length bytes
  left_fits f s F field bytes x left is_bytes e = left_by f s F field bytes (f bytes) x left is_bytes refl e
