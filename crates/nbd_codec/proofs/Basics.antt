-- The fields that all others are made of.
use Rattle.std.proofs.Common.{◌≡◌, ℕ, ◌+◌, ◌-◌, ◌^◌, ◌<◌, ◌≤◌, Bool, true, false, cond, ltb, List, [], ◌++◌, length, length-append, take, drop, replicate, Result, Ok, Err, refl, sym, ap, subst, ◌∙◌, arith, inl, inr, ◌⊎◌}
use Rattle.std.proofs.lemmas.Bool.{ltb-true, ltb-false, lt-ltb, le-ltb}
use Rattle.std.proofs.lemmas.List.{append-nil, length-take, length-replicate, take_at, drop_at, take-append-drop}
use Rattle.byteorder.specs.Endian.{big_bytes, big_number}
use Rattle.byteorder.specs.Numbers.{big_number-reads_back, big_from-lt, length-bytes_high_first}
use Rattle.nbd_codec.specs.declared.findings.Fault.{Fault}
use Rattle.nbd_codec.specs.declared.fields.Ending.{Ending}
use Rattle.nbd_codec.specs.declared.fields.Ending.TheVariants as endings
use Rattle.nbd_codec.specs.Fields.{number_at, limited_at, bytes_at}
use Rattle.nbd_codec.specs.Findings.{AreBytes, IsProperPrefix}
use Rattle.nbd_codec.proofs.Parts.{IsField}
use Rattle.nbd_codec.proofs.BigNumbers.{AreBytes-zeros, AreBytes-take, IsWidth, big_from-grows, big_bytes-number, big_bytes-short}

-- how a test that stops went
pub guard_ok : {A : Type 0} (b : Bool) (d : Ending) (r : Result A Ending) (y : A) → cond b (Err d) r ≡ Ok y → (b ≡ false) × (r ≡ Ok y)
guard_ok true d r y e = absurd cc
guard_ok false d r y e = (refl, e)

pub guard_err : {A : Type 0} (b : Bool) (d c : Ending) (r : Result A Ending) → cond b (Err d) r ≡ Err c → ((b ≡ true) × (d ≡ c)) ⊎ ((b ≡ false) × (r ≡ Err c))
guard_err true d c r e = inl (refl, cc)
guard_err false d c r e = inr (refl, e)

guarded : {A : Type 0} (b : Bool) (d : Ending) (r : Result A Ending) → b ≡ true → cond b (Err d) r ≡ Err d
guarded true d r e = refl
guarded false d r e = absurd cc

passed : {A : Type 0} (b : Bool) (d : Ending) (r : Result A Ending) → b ≡ false → cond b (Err d) r ≡ r
passed true d r e = absurd cc
passed false d r e = refl

abbrev pub done : {A : Type 0} → A → Result A Ending
done x = Ok x

pub done_is : {A : Type 0} (x y : A) → done x ≡ done y → x ≡ y
done_is x y e = cc

le_through : (a b x y : ℕ) → a ≤ b → b ≡ x → x ≤ y → a ≤ y
le_through a b x y p e q = omega arith

lt_through : (a b c : ℕ) → a < b → b ≤ c → a < c
lt_through a b c p q = omega arith

-- ---- a number of n bytes

module _ (n : ℕ) (width : IsWidth n) where
  pub number_found : (bytes : List ℕ) (x : ℕ) (rest : List ℕ) → AreBytes bytes → number_at n bytes ≡ Ok (x, rest) → (x < 256 ^ n) × (bytes ≡ big_bytes n x ++ rest) × (x ≡ big_number n bytes)
  unfolding number_at
  number_found bytes x rest is_bytes e =
      let g = guard_ok (ltb (length bytes) n) endings.Short (done (big_number n bytes, drop n bytes)) (x, rest) e in
      let same = done_is (big_number n bytes, drop n bytes) (x, rest) g.1 in
      let x-is : big_number n bytes ≡ x = ap (λ (p : ℕ × List ℕ). p.0) same in
      let rest-is : drop n bytes ≡ rest = ap (λ (p : ℕ × List ℕ). p.1) same in
      let whole = big_bytes-number n bytes width (ltb-false _ _ g.0) is_bytes in
      let below : big_number n bytes < 256 ^ n = big_from-lt 0 n bytes is_bytes in
      (subst (λ (y : ℕ). y < 256 ^ n) x-is below, whole ∙ ap (λ (y : ℕ). big_bytes n y ++ drop n bytes) x-is ∙ ap (λ (r : List ℕ). big_bytes n x ++ r) rest-is, sym x-is)

  pub number_again : (x : ℕ) (rest : List ℕ) → x < 256 ^ n → number_at n (big_bytes n x ++ rest) ≡ Ok (x, rest)
  unfolding number_at
  number_again x rest lt =
      let len = length-bytes_high_first n x in
      let long : ltb (length (big_bytes n x ++ rest)) n ≡ false = le-ltb _ _ (omega (arith, length-append (big_bytes n x) rest, len)) in
      passed _ endings.Short (done (big_number n (big_bytes n x ++ rest), drop n (big_bytes n x ++ rest))) long
      ∙ ap (λ (y : ℕ). done (y, drop n (big_bytes n x ++ rest))) (big_number-reads_back n x rest lt)
      ∙ ap (λ (r : List ℕ). done (x, r)) (drop_at (big_bytes n x) rest n len)

  pub number_short : (bytes : List ℕ) → number_at n bytes ≡ Err endings.Short → length bytes < n
  unfolding number_at
  number_short bytes e =
      elim (guard_err (ltb (length bytes) n) endings.Short endings.Short (done (big_number n bytes, drop n bytes)) e) [
        | inl w ↦ ltb-true _ _ w.0
        | inr w ↦ absurd cc
      ]

  pub number_ends : (bytes : List ℕ) (e : Fault) → number_at n bytes ≡ Err (endings.Fault e) → length bytes < 0
  unfolding number_at
  number_ends bytes d e =
      elim (guard_err (ltb (length bytes) n) endings.Short (endings.Fault d) (done (big_number n bytes, drop n bytes)) e) [
        | inl w ↦ absurd cc
        | inr w ↦ absurd cc
      ]

  pub number_front : (x : ℕ) (bytes rest : List ℕ) → 0 < length rest → bytes ++ rest ≡ big_bytes n x → number_at n bytes ≡ Err endings.Short
  unfolding number_at
  number_front x bytes rest some whole =
      let len : length bytes + length rest ≡ n = sym (length-append bytes rest) ∙ ap length whole ∙ length-bytes_high_first n x in
      guarded _ endings.Short (done (big_number n bytes, drop n bytes)) (lt-ltb _ _ (omega arith))

  number_proper : (bytes : List ℕ) → AreBytes bytes → length bytes < n → IsProperPrefix (big_bytes n) (λ x. x < 256 ^ n) bytes
  number_proper bytes is_bytes short = record {
    value = big_number n bytes;
    rest = replicate (n - length bytes) 0;
    fits = big_from-lt 0 n bytes is_bytes;
    some = omega (arith, length-replicate {A = ℕ} (n - length bytes) 0);
    whole = big_bytes-short n bytes width short is_bytes;
  }

  pub IsField-number : IsField (number_at n) (big_bytes n) (λ x. x < 256 ^ n)
  IsField-number = record {
    found = λ bytes x rest is_bytes e. let w = number_found bytes x rest is_bytes e in (w.0, w.1);
    again = number_again;
    short = λ bytes is_bytes e. number_proper bytes is_bytes (number_short bytes e);
    front = λ x bytes rest fits some whole. number_front x bytes rest some whole;
    stays = λ bytes more d is_bytes e. absurd (omega (arith, number_ends bytes d e));
  }

-- ---- a number of four bytes, at most the limit

module _ (limit : ℕ) (fault : Fault) (width : IsWidth 4) (small : limit < 2 ^ 32) where
  limited_found : (bytes : List ℕ) (x : ℕ) (rest : List ℕ) → AreBytes bytes → limited_at limit fault bytes ≡ Ok (x, rest) → (x ≤ limit) × (bytes ≡ big_bytes 4 x ++ rest)
  unfolding limited_at
  limited_found bytes x rest is_bytes e =
      let g = guard_ok (ltb limit (big_number 4 bytes)) (endings.Fault fault) (number_at 4 bytes) (x, rest) e in
      let w = number_found 4 width bytes x rest is_bytes g.1 in
      let within = ltb-false _ _ g.0 in
      (subst (λ (y : ℕ). y ≤ limit) (sym w.2) within, w.1)

  limited_again : (x : ℕ) (rest : List ℕ) → x ≤ limit → limited_at limit fault (big_bytes 4 x ++ rest) ≡ Ok (x, rest)
  unfolding limited_at
  limited_again x rest le =
      let same : big_number 4 (big_bytes 4 x ++ rest) ≡ x = big_number-reads_back 4 x rest (omega arith) in
      let within : ltb limit (big_number 4 (big_bytes 4 x ++ rest)) ≡ false = le-ltb _ _ (subst (λ (y : ℕ). y ≤ limit) (sym same) le) in
      passed _ (endings.Fault fault) (number_at 4 (big_bytes 4 x ++ rest)) within ∙ number_again 4 width x rest (omega arith)

  limited_short : (bytes : List ℕ) → AreBytes bytes → limited_at limit fault bytes ≡ Err endings.Short → IsProperPrefix (big_bytes 4) (λ x. x ≤ limit) bytes
  unfolding limited_at
  limited_short bytes is_bytes e =
      elim (guard_err (ltb limit (big_number 4 bytes)) (endings.Fault fault) endings.Short (number_at 4 bytes) e) [
        | inl w ↦ absurd cc
        | inr w ↦
            let short = number_short 4 width bytes w.1 in
            record {
              value = big_number 4 bytes;
              rest = replicate (4 - length bytes) 0;
              fits = ltb-false _ _ w.0;
              some = omega (arith, length-replicate {A = ℕ} (4 - length bytes) 0);
              whole = big_bytes-short 4 bytes width short is_bytes;
            }
      ]

  limited_front : (x : ℕ) (bytes rest : List ℕ) → x ≤ limit → 0 < length rest → bytes ++ rest ≡ big_bytes 4 x → limited_at limit fault bytes ≡ Err endings.Short
  unfolding limited_at
  limited_front x bytes rest le some whole =
      let grows : big_number 4 bytes ≤ big_number 4 (bytes ++ rest) = big_from-grows 0 4 bytes rest in
      let same : big_number 4 (bytes ++ rest) ≡ x = ap (big_number 4) (whole ∙ sym (append-nil (big_bytes 4 x))) ∙ big_number-reads_back 4 x [] (omega arith) in
      let within : ltb limit (big_number 4 bytes) ≡ false = le-ltb _ _ (le_through _ _ _ limit grows same le) in
      passed _ (endings.Fault fault) (number_at 4 bytes) within ∙ number_front 4 width x bytes rest some whole

  limited_stays : (bytes more : List ℕ) (d : Fault) → limited_at limit fault bytes ≡ Err (endings.Fault d) → limited_at limit fault (bytes ++ more) ≡ Err (endings.Fault d)
  unfolding limited_at
  limited_stays bytes more d e =
      elim (guard_err (ltb limit (big_number 4 bytes)) (endings.Fault fault) (endings.Fault d) (number_at 4 bytes) e) [
        | inl w ↦
            let grows : big_number 4 bytes ≤ big_number 4 (bytes ++ more) = big_from-grows 0 4 bytes more in
            let over : ltb limit (big_number 4 (bytes ++ more)) ≡ true = lt-ltb _ _ (lt_through _ _ _ (ltb-true _ _ w.0) grows) in
            guarded _ (endings.Fault fault) (number_at 4 (bytes ++ more)) over ∙ ap (λ (c : Ending). Err c) w.1
        | inr w ↦ absurd (omega (arith, number_ends 4 width bytes d w.1))
      ]

  pub IsField-limited : IsField (limited_at limit fault) (big_bytes 4) (λ x. x ≤ limit)
  IsField-limited = record { found = limited_found; again = limited_again; short = limited_short; front = limited_front; stays = λ bytes more d is_bytes e. limited_stays bytes more d e }

-- which fault it is, and when
pub limited_fault : (limit : ℕ) (fault : Fault) (width : IsWidth 4) (bytes : List ℕ) (d : Fault) → limited_at limit fault bytes ≡ Err (endings.Fault d) → (d ≡ fault) × (limit < big_number 4 bytes)
unfolding limited_at
limited_fault limit fault width bytes d e =
    elim (guard_err (ltb limit (big_number 4 bytes)) (endings.Fault fault) (endings.Fault d) (number_at 4 bytes) e) [
      | inl w ↦ let same = w.1 in (cc, ltb-true _ _ w.0)
      | inr w ↦ absurd (omega (arith, number_ends 4 width bytes d w.1))
    ]

pub limited_faults : (limit : ℕ) (fault : Fault) (bytes : List ℕ) → limit < big_number 4 bytes → limited_at limit fault bytes ≡ Err (endings.Fault fault)
unfolding limited_at
limited_faults limit fault bytes lt = guarded _ (endings.Fault fault) (number_at 4 bytes) (lt-ltb _ _ lt)

pub bytes_end : (len : ℕ) (bytes : List ℕ) (d : Fault) → bytes_at len bytes ≡ Err (endings.Fault d) → ⊥
unfolding bytes_at
bytes_end len bytes d e =
    elim (guard_err (ltb (length bytes) len) endings.Short (endings.Fault d) (done (take len bytes, drop len bytes)) e) [
      | inl w ↦ absurd cc
      | inr w ↦ absurd cc
    ]

-- ---- that many bytes

module _ (len : ℕ) where
  -- bytes, and so many
  abbrev pub AreSome : List ℕ → Type 0
  AreSome content = (length content ≡ len) × AreBytes content

  bytes_found : (bytes content rest : List ℕ) → AreBytes bytes → bytes_at len bytes ≡ Ok (content, rest) → AreSome content × (bytes ≡ content ++ rest)
  unfolding bytes_at
  bytes_found bytes content rest is_bytes e =
      let g = guard_ok (ltb (length bytes) len) endings.Short (done (take len bytes, drop len bytes)) (content, rest) e in
      let same = done_is (take len bytes, drop len bytes) (content, rest) g.1 in
      let content-is : take len bytes ≡ content = ap (λ (p : List ℕ × List ℕ). p.0) same in
      let rest-is : drop len bytes ≡ rest = ap (λ (p : List ℕ × List ℕ). p.1) same in
      let long = ltb-false _ _ g.0 in
      let fits : AreSome (take len bytes) = (omega (arith, length-take len bytes), AreBytes-take len bytes is_bytes) in
      (subst AreSome content-is fits, sym (take-append-drop len bytes) ∙ ap (λ (b : List ℕ). b ++ drop len bytes) content-is ∙ ap (λ (b : List ℕ). content ++ b) rest-is)

  bytes_again : (content rest : List ℕ) → AreSome content → bytes_at len (content ++ rest) ≡ Ok (content, rest)
  unfolding bytes_at
  bytes_again content rest fits =
      let long : ltb (length (content ++ rest)) len ≡ false = le-ltb _ _ (omega (arith, length-append content rest, fits.0)) in
      passed _ endings.Short (done (take len (content ++ rest), drop len (content ++ rest))) long
      ∙ ap (λ (b : List ℕ). done (b, drop len (content ++ rest))) (take_at content rest len fits.0)
      ∙ ap (λ (b : List ℕ). done (content, b)) (drop_at content rest len fits.0)

  bytes_short : (bytes : List ℕ) → AreBytes bytes → bytes_at len bytes ≡ Err endings.Short → IsProperPrefix (λ content. content) AreSome bytes
  unfolding bytes_at
  bytes_short bytes is_bytes e =
      elim (guard_err (ltb (length bytes) len) endings.Short endings.Short (done (take len bytes, drop len bytes)) e) [
        | inl w ↦
            let short = ltb-true _ _ w.0 in
            let k = len - length bytes in
            record {
              value = bytes ++ replicate k 0;
              rest = replicate k 0;
              fits = (omega (arith, length-append bytes (replicate k 0), length-replicate {A = ℕ} k 0), AreBytes-zeros bytes k is_bytes);
              some = omega (arith, length-replicate {A = ℕ} k 0);
              whole = refl;
            }
        | inr w ↦ absurd cc
      ]

  bytes_front : (content bytes rest : List ℕ) → AreSome content → 0 < length rest → bytes ++ rest ≡ content → bytes_at len bytes ≡ Err endings.Short
  unfolding bytes_at
  bytes_front content bytes rest fits some whole =
      let short : length bytes < len = omega (arith, length-append bytes rest, ap length whole, fits.0) in
      guarded _ endings.Short (done (take len bytes, drop len bytes)) (lt-ltb _ _ short)

  bytes_stays : (bytes more : List ℕ) (d : Fault) → bytes_at len bytes ≡ Err (endings.Fault d) → bytes_at len (bytes ++ more) ≡ Err (endings.Fault d)
  unfolding bytes_at
  bytes_stays bytes more d e =
      elim (guard_err (ltb (length bytes) len) endings.Short (endings.Fault d) (done (take len bytes, drop len bytes)) e) [
        | inl w ↦ absurd cc
        | inr w ↦ absurd cc
      ]

  pub IsField-bytes : IsField (bytes_at len) (λ content. content) AreSome
  IsField-bytes = record { found = bytes_found; again = bytes_again; short = bytes_short; front = bytes_front; stays = λ bytes more d is_bytes e. bytes_stays bytes more d e }

-- ---- the value that all fields before it make

module _ {A : Type 0} (c : A) (s : A → List ℕ) (F : A → Type 0) (fits : F c) (only : (x : A) → F x → x ≡ c) (encoded : (x : A) → F x → s x ≡ []) where
  made : List ℕ → Result (A × List ℕ) Ending
  made bytes = Ok (c, bytes)

  made_found : (bytes : List ℕ) (x : A) (rest : List ℕ) → made bytes ≡ Ok (x, rest) → F x × (bytes ≡ s x ++ rest)
  unfolding made
  made_found bytes x rest e =
      let same = done_is (c, bytes) (x, rest) e in
      let x-is : c ≡ x = ap (λ (p : A × List ℕ). p.0) same in
      let rest-is : bytes ≡ rest = ap (λ (p : A × List ℕ). p.1) same in
      let x-fits : F x = subst F x-is fits in
      (x-fits, rest-is ∙ ap (λ (b : List ℕ). b ++ rest) (sym (encoded x x-fits)))

  made_again : (x : A) (rest : List ℕ) → F x → made (s x ++ rest) ≡ Ok (x, rest)
  unfolding made
  made_again x rest x-fits =
      ap (λ (b : List ℕ). done (c, b ++ rest)) (encoded x x-fits) ∙ ap (λ (y : A). done (y, rest)) (sym (only x x-fits))

  made_short : (bytes : List ℕ) (e : Ending) → made bytes ≡ Err e → length bytes < 0
  unfolding made
  made_short bytes d e = absurd cc

  made_front : (x : A) (bytes rest : List ℕ) → F x → 0 < length rest → bytes ++ rest ≡ s x → length bytes < 0
  made_front x bytes rest x-fits some whole = omega (arith, length-append bytes rest, ap length whole, ap length (encoded x x-fits), some)

  pub IsField-made : IsField (λ bytes. Ok (c, bytes)) s F
  unfolding made
  IsField-made = record {
    found = λ bytes x rest is_bytes e. made_found bytes x rest e;
    again = made_again;
    short = λ bytes is_bytes e. absurd (omega (arith, made_short bytes endings.Short e));
    front = λ x bytes rest x-fits some whole. absurd (omega (arith, made_front x bytes rest x-fits some whole));
    stays = λ bytes more d is_bytes e. absurd (omega (arith, made_short bytes (endings.Fault d) e));
  }
