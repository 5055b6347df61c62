-- Options: what is read is encoded so, and what is encoded so is read.
use Rattle.std.proofs.Common.{◌+◌, ◌≡◌, ℕ, ◌^◌, ◌<◌, ◌≤◌, true, false, cond, eqb, ltb, List, [], ◌++◌, length, replicate, Result, Ok, refl, sym, ap, subst, ◌∙◌, arith, inl, inr}
use Rattle.std.proofs.lemmas.Bool.{eqb-true, eqb-false, ne_eqb, cases_Bool, cond-true, cond-false, cond_both, ltb-true, ltb-false}
use Rattle.std.proofs.lemmas.List.{length-replicate, nil_from_length}
use Rattle.byteorder.specs.Endian.{big_bytes}
use Rattle.nbd_codec.specs.declared.constants.TheConstants.{OPTION_HEADER, OPTION_MAGIC, OPTION_EXPORT_NAME, OPTION_ABORT, OPTION_LIST, OPTION_INFO, OPTION_GO, MAX_OPTION_DATA}
use Rattle.nbd_codec.specs.declared.findings.Fault.TheVariants as faults
use Rattle.nbd_codec.specs.declared.fields.Ending.{Ending}
use Rattle.nbd_codec.specs.Fields.{◌>>=◌, magic_at, number_at, limited_at, bytes_at}
use Rattle.nbd_codec.specs.ClientOption.{PlainOption, ExportName, Abort, Lists, Info, Go, Other, Oversized, number_of, content_of, length_of, encoding, IsKnown, IsData, InfoFits, ContentFits, IsOption, info_encoding, info_of, option_of, length_at, option_at}
use Rattle.nbd_codec.proofs.Parts.{IsField, IsField-both}
use Rattle.nbd_codec.proofs.BigNumbers.{AreBytes-zeros, width4}
use Rattle.nbd_codec.proofs.Basics.{AreSome, IsField-number, IsField-limited, IsField-bytes, IsField-made}
use Rattle.nbd_codec.proofs.Magics.{IsField-behind}
use Rattle.nbd_codec.proofs.Maps.{IsField-reencoded, IsField-seen}
use Rattle.nbd_codec.proofs.InfoLaws.{info_into, info_back}

-- ---- the data

-- the option of that number with that data
record Holds (number : ℕ) (bytes : List ℕ) (option : PlainOption) : Type 0 where
  is_number : number_of option ≡ number
  is_content : content_of option ≡ bytes
  is_length : length_of option ≡ length bytes
  fits : ContentFits option

info_fits : (bytes : List ℕ) → IsData bytes → InfoFits (info_of bytes) × IsData (info_encoding (info_of bytes))
info_fits bytes fits =
    let w = info_into bytes fits.1 in
    (w.0, subst IsData (sym w.1) fits)

info_length : (bytes : List ℕ) → IsData bytes → length (info_encoding (info_of bytes)) ≡ length bytes
info_length bytes fits = ap length (info_into bytes fits.1).1

unknown : (n : ℕ) → (n ≡ OPTION_EXPORT_NAME → ⊥) → (n ≡ OPTION_ABORT → ⊥) → (n ≡ OPTION_LIST → ⊥) → (n ≡ OPTION_INFO → ⊥) → (n ≡ OPTION_GO → ⊥) → IsKnown n → ⊥
unknown n n1 n2 n3 n6 n7 (inl e) = n1 e
unknown n n1 n2 n3 n6 n7 (inr (inl e)) = n2 e
unknown n n1 n2 n3 n6 n7 (inr (inr (inl e))) = n3 e
unknown n n1 n2 n3 n6 n7 (inr (inr (inr (inl e)))) = n6 e
unknown n n1 n2 n3 n6 n7 (inr (inr (inr (inr e)))) = n7 e

-- one test of a number: the option is that of the number, or a later one
step : (number own : ℕ) (bytes : List ℕ) (x y : PlainOption) → (number ≡ own → Holds number bytes x) → ((number ≡ own → ⊥) → Holds number bytes y) → Holds number bytes (cond (eqb number own) x y)
step number own bytes x y is isnt =
    cond_both (eqb number own) x y (Holds number bytes) (λ e. is (eqb-true _ _ e)) (λ e. isnt (eqb-false _ _ e))

module _ (number : ℕ) (bytes : List ℕ) (fits : IsData bytes) where
  own_data : (option : PlainOption) → ContentFits option → content_of option ≡ bytes → length_of option ≡ length bytes → number ≡ number_of option → Holds number bytes option
  own_data option ok content len e = record { is_number = sym e; is_content = content; is_length = len; fits = ok }

  holds : (number ≡ OPTION_EXPORT_NAME → bytes ≡ []) → Holds number bytes (option_of number bytes)
  holds none =
      let info = info_fits bytes fits in
      let same = (info_into bytes fits.1).1 in
      step number OPTION_EXPORT_NAME bytes _ _ (λ e. own_data ExportName tt (sym (none e)) (ap length (sym (none e))) e) (λ n1.
      step number OPTION_ABORT bytes _ _ (own_data (Abort bytes) fits refl refl) (λ n2.
      step number OPTION_LIST bytes _ _ (own_data (Lists bytes) fits refl refl) (λ n3.
      step number OPTION_INFO bytes _ _ (own_data (Info (info_of bytes)) info same (info_length bytes fits)) (λ n6.
      step number OPTION_GO bytes _ _ (own_data (Go (info_of bytes)) info same (info_length bytes fits)) (λ n7.
      own_data (Other number bytes) (unknown number n1 n2 n3 n6 n7, fits) refl refl refl)))))

-- an option that isn't oversized is that of its number with its data
record IsWhole (option : PlainOption) : Type 0 where
  again : option_of (number_of option) (content_of option) ≡ option
  is_length : length (content_of option) ≡ length_of option
  is_data : IsData (content_of option)

is_whole : (option : PlainOption) → ContentFits option → length_of option ≤ MAX_OPTION_DATA → IsWhole option
is_whole ExportName fits le = record { again = refl; is_length = refl; is_data = (omega arith, λ i. omega arith) }
is_whole (Abort bytes) fits le = record { again = refl; is_length = refl; is_data = fits }
is_whole (Lists bytes) fits le = record { again = refl; is_length = refl; is_data = fits }
is_whole (Info info) fits le = record { again = ap Info (info_back info fits.0 fits.1.1); is_length = refl; is_data = fits.1 }
is_whole (Go info) fits le = record { again = ap Go (info_back info fits.0 fits.1.1); is_length = refl; is_data = fits.1 }
is_whole (Other number bytes) fits le =
    let e1 = ne_eqb number OPTION_EXPORT_NAME (λ k. fits.0 (inl k)) in
    let e2 = ne_eqb number OPTION_ABORT (λ k. fits.0 (inr (inl k))) in
    let e3 = ne_eqb number OPTION_LIST (λ k. fits.0 (inr (inr (inl k)))) in
    let e6 = ne_eqb number OPTION_INFO (λ k. fits.0 (inr (inr (inr (inl k))))) in
    let e7 = ne_eqb number OPTION_GO (λ k. fits.0 (inr (inr (inr (inr k))))) in
    record { again = rw (e1, e2, e3, e6, e7) refl; is_length = refl; is_data = fits.1 }
is_whole (Oversized number len) fits le = absurd (omega (arith, fits.0))

is_oversized : (option : PlainOption) → ContentFits option → MAX_OPTION_DATA < length_of option → option ≡ Oversized (number_of option) (length_of option)
is_oversized ExportName fits lt = absurd (omega arith)
is_oversized (Abort bytes) fits lt = absurd (omega (arith, fits.0))
is_oversized (Lists bytes) fits lt = absurd (omega (arith, fits.0))
is_oversized (Info info) fits lt = absurd (omega (arith, fits.1.0))
is_oversized (Go info) fits lt = absurd (omega (arith, fits.1.0))
is_oversized (Other number bytes) fits lt = absurd (omega (arith, fits.1.0))
is_oversized (Oversized number len) fits lt = refl

-- ---- the length

abbrev IsLength : ℕ → ℕ → Type 0
IsLength number len = (len < 2 ^ 32) × (number ≡ OPTION_EXPORT_NAME → len ≡ 0)

length_fits : (option : PlainOption) → ContentFits option → IsLength (number_of option) (length_of option)
length_fits ExportName fits = (omega arith, λ e. refl)
length_fits (Abort bytes) fits = (omega (arith, fits.0), λ e. absurd (omega arith))
length_fits (Lists bytes) fits = (omega (arith, fits.0), λ e. absurd (omega arith))
length_fits (Info info) fits = (omega (arith, fits.1.0), λ e. absurd (omega arith))
length_fits (Go info) fits = (omega (arith, fits.1.0), λ e. absurd (omega arith))
length_fits (Other number bytes) fits = (omega (arith, fits.1.0), λ e. absurd (fits.0 (inl e)))
length_fits (Oversized number len) fits = (fits.1, λ e. absurd (fits.2 e))

pub limited_reads : (number : ℕ) → eqb number OPTION_EXPORT_NAME ≡ true → (bytes : List ℕ) → length_at number bytes ≡ limited_at 0 faults.ExportName bytes
unfolding length_at
limited_reads number e bytes = cond-true (eqb number OPTION_EXPORT_NAME) _ _ e

pub number_reads : (number : ℕ) → eqb number OPTION_EXPORT_NAME ≡ false → (bytes : List ℕ) → length_at number bytes ≡ number_at 4 bytes
unfolding length_at
number_reads number e bytes = cond-false (eqb number OPTION_EXPORT_NAME) _ _ e

length_field : (number : ℕ) → IsField (length_at number) (big_bytes 4) (IsLength number)
length_field number =
    elim (cases_Bool (eqb number OPTION_EXPORT_NAME)) [
      | inl e ↦ IsField-reencoded (limited_at 0 faults.ExportName) (length_at number) (big_bytes 4) (big_bytes 4) (λ len. len ≤ 0) (IsLength number) (IsField-limited 0 faults.ExportName width4 (omega arith)) (limited_reads number e) (λ len w. omega (arith, w.1 (eqb-true _ _ e))) (λ len w. (omega arith, λ same. omega arith)) (λ len w. refl)
      | inr e ↦ IsField-reencoded (number_at 4) (length_at number) (big_bytes 4) (big_bytes 4) (λ len. len < 256 ^ 4) (IsLength number) (IsField-number 4 width4) (number_reads number e) (λ len w. w.0) (λ len w. (w, λ same. absurd (eqb-false _ _ e same))) (λ len w. refl)
    ]

-- ---- the data behind its length

abbrev With1 : ℕ → PlainOption → Type 0
With1 number option = IsOption option × (number_of option ≡ number)

abbrev With2 : ℕ → ℕ → PlainOption → Type 0
With2 number len option = With1 number option × (length_of option ≡ len)

abbrev pub whole_at : ℕ → ℕ → List ℕ → Result (PlainOption × List ℕ) Ending
whole_at number len bytes = bytes_at len bytes >>= λ content. Ok (option_of number content.0, content.1)

abbrev pub skipped_at : ℕ → ℕ → List ℕ → Result (PlainOption × List ℕ) Ending
skipped_at number len bytes = Ok (Oversized number len, bytes)

abbrev pub content_at : ℕ → ℕ → List ℕ → Result (PlainOption × List ℕ) Ending
content_at number len bytes = cond (ltb MAX_OPTION_DATA len) (skipped_at number len bytes) (whole_at number len bytes)

whole_into : (number len : ℕ) → number < 2 ^ 32 → len ≤ MAX_OPTION_DATA → IsLength number len → (bytes : List ℕ) → AreSome len bytes → With2 number len (option_of number bytes) × (content_of (option_of number bytes) ≡ bytes)
whole_into number len small le named bytes fits =
    let w = holds number bytes (omega (arith, fits.0), fits.1) (λ e. nil_from_length bytes (fits.0 ∙ named.1 e)) in
    (((record { number = subst (λ (n : ℕ). n < 2 ^ 32) (sym w.is_number) small; content = w.fits }, w.is_number), w.is_length ∙ fits.0), w.is_content)

whole_back : (number len : ℕ) → len ≤ MAX_OPTION_DATA → (option : PlainOption) → With2 number len option → (bytes : List ℕ) × AreSome len bytes × (option_of number bytes ≡ option)
whole_back number len le option w =
    let short : length_of option ≤ MAX_OPTION_DATA = subst (λ (n : ℕ). n ≤ MAX_OPTION_DATA) (sym w.1) le in
    let whole = is_whole option w.0.0.content short in
    (content_of option, (whole.is_length ∙ w.1, whole.is_data.1), ap (λ (n : ℕ). option_of n (content_of option)) (sym w.0.1) ∙ whole.again)

whole_field : (number len : ℕ) → number < 2 ^ 32 → len ≤ MAX_OPTION_DATA → IsLength number len → IsField (whole_at number len) content_of (With2 number len)
whole_field number len small le named =
    IsField-seen (bytes_at len) (λ (x : List ℕ). x) (AreSome len) (option_of number) content_of (With2 number len) (IsField-bytes len) (whole_into number len small le named) (whole_back number len le)

skipped_only : (number len : ℕ) → MAX_OPTION_DATA < len → (option : PlainOption) → With2 number len option → option ≡ Oversized number len
skipped_only number len lt option w =
    let long : MAX_OPTION_DATA < length_of option = subst (λ (n : ℕ). MAX_OPTION_DATA < n) (sym w.1) lt in
    is_oversized option w.0.0.content long ∙ ap (λ (n : ℕ). Oversized n (length_of option)) w.0.1 ∙ ap (Oversized number) w.1

not_both : (n : ℕ) → MAX_OPTION_DATA < n → n ≡ 0 → ⊥
not_both n p q = omega arith

skipped_fits : (number len : ℕ) → number < 2 ^ 32 → MAX_OPTION_DATA < len → IsLength number len → With2 number len (Oversized number len)
skipped_fits number len small lt fits = ((record { number = small; content = (lt, fits.0, λ e. not_both len lt (fits.1 e)) }, refl), refl)

skipped_field : (number len : ℕ) → number < 2 ^ 32 → MAX_OPTION_DATA < len → IsLength number len → IsField (skipped_at number len) content_of (With2 number len)
skipped_field number len small lt fits =
    IsField-made (Oversized number len) content_of (With2 number len) (skipped_fits number len small lt fits) (skipped_only number len lt) (λ option w. ap content_of (skipped_only number len lt option w))

content_field : (number len : ℕ) → number < 2 ^ 32 → IsLength number len → IsField (content_at number len) content_of (With2 number len)
content_field number len small fits =
    elim (cases_Bool (ltb MAX_OPTION_DATA len)) [
      | inl e ↦ IsField-reencoded (skipped_at number len) (content_at number len) content_of content_of (With2 number len) (With2 number len) (skipped_field number len small (ltb-true _ _ e) fits) (λ bytes. cond-true (ltb MAX_OPTION_DATA len) _ _ e) (λ x w. w) (λ x w. w) (λ x w. refl)
      | inr e ↦ IsField-reencoded (whole_at number len) (content_at number len) content_of content_of (With2 number len) (With2 number len) (whole_field number len small (ltb-false _ _ e) fits) (λ bytes. cond-false (ltb MAX_OPTION_DATA len) _ _ e) (λ x w. w) (λ x w. w) (λ x w. refl)
    ]

some_with : (number len : ℕ) → number < 2 ^ 32 → IsLength number len → (option : PlainOption) × With1 number option × (length_of option ≡ len)
some_with number len small fits =
    elim (cases_Bool (ltb MAX_OPTION_DATA len)) [
      | inl e ↦
          let w = skipped_fits number len small (ltb-true _ _ e) fits in
          (Oversized number len, w.0, w.1)
      | inr e ↦
          let same : length {A = ℕ} (replicate len 0) ≡ len = length-replicate {A = ℕ} len 0 in
          let w = whole_into number len small (ltb-false _ _ e) fits (replicate len 0) (same, AreBytes-zeros [] len (λ i. omega arith)) in
          (option_of number (replicate len 0), w.0.0, w.0.1)
    ]

-- ---- the option

abbrev text2 : PlainOption → List ℕ
text2 option = big_bytes 4 (length_of option) ++ content_of option

abbrev text1 : PlainOption → List ℕ
text1 option = big_bytes 4 (number_of option) ++ text2 option

abbrev pub at2 : ℕ → List ℕ → Result (PlainOption × List ℕ) Ending
at2 number bytes = length_at number bytes >>= λ len. content_at number len.0 len.1

abbrev pub at1 : List ℕ → Result (PlainOption × List ℕ) Ending
at1 bytes = number_at 4 bytes >>= λ number. at2 number.0 number.1

field2 : (number : ℕ) → number < 2 ^ 32 → IsField (at2 number) text2 (With1 number)
field2 number small =
    IsField-both (length_at number) (big_bytes 4) (IsLength number) (content_at number) content_of (With1 number) length_of (length_field number) (λ len fits. content_field number len small fits)
    (λ option w. subst (λ (n : ℕ). IsLength n (length_of option)) w.1 (length_fits option w.0.content))
    (λ len fits. some_with number len small fits)

field1 : IsField at1 text1 IsOption
field1 =
    IsField-both (number_at 4) (big_bytes 4) (λ x. x < 256 ^ 4) at2 text2 IsOption number_of (IsField-number 4 width4) field2 (λ option w. w.number)
    (λ number small. let w = some_with number 0 small (omega arith, λ e. refl) in (w.0, w.1.0, w.1.1))

some_option : (option : PlainOption) × IsOption option
some_option = (Abort [], record { number = omega arith; content = (omega arith, λ i. omega arith) })

option_text : (option : PlainOption) → encoding option ≡ big_bytes 8 OPTION_MAGIC ++ text1 option
unfolding encoding
option_text option = refl

pub option_reads : (bytes : List ℕ) → option_at bytes ≡ (magic_at (big_bytes 8 OPTION_MAGIC) faults.OptionMagic bytes >>= λ rest. at1 rest)
unfolding option_at
option_reads bytes = refl

pub IsField-option : IsField option_at encoding IsOption
IsField-option =
    IsField-reencoded (λ bytes. magic_at (big_bytes 8 OPTION_MAGIC) faults.OptionMagic bytes >>= λ rest. at1 rest) option_at (λ option. big_bytes 8 OPTION_MAGIC ++ text1 option) encoding IsOption IsOption
    (IsField-behind (big_bytes 8 OPTION_MAGIC) faults.OptionMagic at1 text1 IsOption field1 some_option) option_reads (λ x w. w) (λ x w. w) (λ x w. option_text x)

-- ---- its length

pub encoding_len : (option : PlainOption) → OPTION_HEADER ≤ length (encoding option)
unfolding encoding
encoding_len option = omega arith

content_short : (option : PlainOption) → ContentFits option → length (content_of option) ≤ MAX_OPTION_DATA
content_short ExportName fits = omega arith
content_short (Abort bytes) fits = fits.0
content_short (Lists bytes) fits = fits.0
content_short (Info info) fits = fits.1.0
content_short (Go info) fits = fits.1.0
content_short (Other number bytes) fits = fits.1.0
content_short (Oversized number len) fits = omega arith

-- and at most its header and the most data
pub encoding_short : (option : PlainOption) → IsOption option → length (encoding option) ≤ OPTION_HEADER + MAX_OPTION_DATA
unfolding encoding
encoding_short option fits = omega (arith, content_short option fits.content)
