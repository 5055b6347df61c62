-- The data of INFO and GO: what is read is encoded so, and what is encoded so is read.
use Rattle.std.proofs.Common.{◌≡◌, ℕ, zero, suc, ◌+◌, ◌*◌, ◌/◌, ◌%◌, ◌^◌, ◌<◌, cond, eqb, List, [], ◌∷◌, ◌++◌, length, get_or, replicate, Result, Ok, Err, refl, sym, ap, subst, ◌∙◌, arith, inl, inr}
use Rattle.std.specs.List.{flat_map}
use Rattle.std.proofs.lemmas.Bool.{eqb-true, cases_Bool, cond-true, cond-false}
use Rattle.std.proofs.lemmas.List.{append-nil, nil_from_length, length-replicate}
use Rattle.byteorder.specs.Endian.{big_bytes}
use Rattle.nbd_codec.specs.declared.fields.Ending.{Ending}
use Rattle.nbd_codec.specs.declared.fields.Ending.TheVariants as endings
use Rattle.nbd_codec.specs.Fields.{◌>>=◌, number_at, bytes_at}
use Rattle.nbd_codec.specs.Findings.{AreBytes}
use Rattle.nbd_codec.specs.ClientOption.{PlainInfo, Asks, Malformed, AreAsked, InfoFits, info_encoding, numbers_in, asks_at, asks_or, info_of}
use Rattle.nbd_codec.proofs.Parts.{IsField, IsField-both, bind_ok}
use Rattle.nbd_codec.proofs.BigNumbers.{AreBytes-zeros, width2, width4}
use Rattle.nbd_codec.proofs.Basics.{done, done_is, AreSome, IsField-number, IsField-bytes}
use Rattle.nbd_codec.proofs.Maps.{IsField-seen, IsField-string, IsString, string_of, string_text}

-- ---- numbers of two bytes

abbrev AreNumbers : List ℕ → Type 0
AreNumbers types = (i : ℕ) → get_or types i 0 < 2 ^ 16

pair_of : (high low : ℕ) → high < 256 → low < 256 → big_bytes 2 (high * 256 + low) ≡ high ∷ low ∷ []
pair_of high low p q =
    let a : (high * 256 + low) / 256 % 256 ≡ high = omega arith in
    let b : (high * 256 + low) % 256 ≡ low = omega arith in
    rw (a, b) refl

AreNumbers-cons : (n : ℕ) (ns : List ℕ) → n < 2 ^ 16 → AreNumbers ns → AreNumbers (n ∷ ns)
AreNumbers-cons n ns p q zero = p
AreNumbers-cons n ns p q (suc i) = q i

AreBytes-cons : (b : ℕ) (bs : List ℕ) → b < 256 → AreBytes bs → AreBytes (b ∷ bs)
AreBytes-cons b bs p q zero = p
AreBytes-cons b bs p q (suc i) = q i

numbers_into : (count : ℕ) (bytes : List ℕ) → length bytes ≡ 2 * count → AreBytes bytes → (length (numbers_in bytes) ≡ count) × AreNumbers (numbers_in bytes) × (flat_map (big_bytes 2) (numbers_in bytes) ≡ bytes)
numbers_into zero [] len fits = (refl, λ i. omega arith, refl)
numbers_into (suc count) [] len fits = absurd (omega arith)
numbers_into zero (b ∷ []) len fits = absurd (omega arith)
numbers_into (suc count) (b ∷ []) len fits = absurd (omega arith)
numbers_into zero (high ∷ low ∷ rest) len fits = absurd (omega arith)
numbers_into (suc count) (high ∷ low ∷ rest) len fits =
    let p : high < 256 = fits 0 in
    let q : low < 256 = fits 1 in
    let w = numbers_into count rest (omega arith) (λ i. fits (suc (suc i))) in
    (omega (arith, w.0), AreNumbers-cons (high * 256 + low) (numbers_in rest) (omega arith) w.1, ap (λ (x : List ℕ). x ++ flat_map (big_bytes 2) (numbers_in rest)) (pair_of high low p q) ∙ ap (λ (x : List ℕ). high ∷ low ∷ x) w.2)

numbers_back : (types : List ℕ) → AreNumbers types → (numbers_in (flat_map (big_bytes 2) types) ≡ types) × (length (flat_map (big_bytes 2) types) ≡ 2 * length types) × AreBytes (flat_map (big_bytes 2) types)
numbers_back [] fits = (refl, refl, λ i. omega arith)
numbers_back (n ∷ ns) fits =
    let small : n < 2 ^ 16 = fits 0 in
    let w = numbers_back ns (λ i. fits (suc i)) in
    let same : n / 256 % 256 * 256 + n % 256 ≡ n = omega arith in (
      ap (λ (x : ℕ). x ∷ numbers_in (flat_map (big_bytes 2) ns)) same ∙ ap (λ (x : List ℕ). n ∷ x) w.0,
      omega (arith, w.1),
      AreBytes-cons (n / 256 % 256) (n % 256 ∷ flat_map (big_bytes 2) ns) (omega arith) (AreBytes-cons (n % 256) (flat_map (big_bytes 2) ns) (omega arith) w.2),
    )

-- ---- the name, and the types

abbrev name_at : List ℕ → Result (List ℕ × List ℕ) Ending
name_at bytes = string_of (number_at 4) bytes

abbrev IsName : List ℕ → Type 0
IsName name = IsString (λ n. n < 2 ^ 32) name

name_field : IsField name_at string_text IsName
name_field = IsField-string (number_at 4) (λ n. n < 256 ^ 4) (IsField-number 4 width4)

abbrev AreTypes : List ℕ → Type 0
AreTypes types = (length types < 2 ^ 16) × AreNumbers types

abbrev types_at : List ℕ → Result (List ℕ × List ℕ) Ending
types_at bytes = number_at 2 bytes >>= λ count. bytes_at (2 * count.0) count.1 >>= λ types. Ok (numbers_in types.0, types.1)

abbrev types_text : List ℕ → List ℕ
types_text types = big_bytes 2 (length types) ++ flat_map (big_bytes 2) types

types_content : (count : ℕ) → count < 2 ^ 16 → IsField (λ bytes. bytes_at (2 * count) bytes >>= λ types. Ok (numbers_in types.0, types.1)) (flat_map (big_bytes 2)) (λ types. AreTypes types × (length types ≡ count))
types_content count lt =
    IsField-seen (bytes_at (2 * count)) (λ (x : List ℕ). x) (AreSome (2 * count)) numbers_in (flat_map (big_bytes 2)) (λ types. AreTypes types × (length types ≡ count)) (IsField-bytes (2 * count))
    (λ x w. let i = numbers_into count x w.0 w.1 in (((omega (arith, i.0), i.1), i.0), i.2))
    (λ types w. let b = numbers_back types w.0.1 in (flat_map (big_bytes 2) types, (omega (arith, b.1, w.1), b.2), b.0))

some_types : (count : ℕ) → count < 2 ^ 16 → (types : List ℕ) × AreTypes types × (length types ≡ count)
some_types count lt =
    let same : length {A = ℕ} (replicate count 0) ≡ count = length-replicate {A = ℕ} count 0 in
    let small = AreBytes-zeros [] count (λ i. omega arith) in
    (replicate count 0, (omega arith, λ i. omega (arith, small i)), same)

types_field : IsField types_at types_text AreTypes
types_field = IsField-both (number_at 2) (big_bytes 2) (λ x. x < 256 ^ 2) (λ count bytes. bytes_at (2 * count) bytes >>= λ types. Ok (numbers_in types.0, types.1)) (flat_map (big_bytes 2)) AreTypes length (IsField-number 2 width2) types_content (λ x w. w.0) some_types

-- ---- both

abbrev Asking : Type 0
Asking = List ℕ × List ℕ

abbrev AskingFits : Asking → Type 0
AskingFits p = IsName p.0 × AreTypes p.1

abbrev then_types : List ℕ → List ℕ → Result (Asking × List ℕ) Ending
then_types name bytes = types_at bytes >>= λ t. Ok ((name, t.0), t.1)

abbrev pair_at : List ℕ → Result (Asking × List ℕ) Ending
pair_at bytes = name_at bytes >>= λ n. then_types n.0 n.1

abbrev pair_text : Asking → List ℕ
pair_text p = string_text p.0 ++ types_text p.1

then_field : (name : List ℕ) → IsName name → IsField (then_types name) (λ p. types_text p.1) (λ p. AskingFits p × (p.0 ≡ name))
then_field name fits =
    IsField-seen types_at types_text AreTypes (λ t. (name, t)) (λ (p : Asking). types_text p.1) (λ p. AskingFits p × (p.0 ≡ name)) types_field
    (λ t w. (((fits, w), refl), refl))
    (λ p w. (p.1, w.0.1, ap (λ (n : List ℕ). (n, p.1)) (sym w.1)))

pair_field : IsField pair_at pair_text AskingFits
pair_field =
    IsField-both name_at string_text IsName then_types (λ (p : Asking). types_text p.1) AskingFits (λ (p : Asking). p.0) name_field then_field (λ p w. w.0) (λ name fits. ((name, []), (fits, (omega arith, λ i. omega arith)), refl))

abbrev whole_of : Asking × List ℕ → Result PlainInfo Ending
whole_of p = cond (eqb (length p.1) 0) (Ok (Asks p.0.0 p.0.1)) (Err endings.Short)

abbrev seen_types : List ℕ × List ℕ → Result (List ℕ × List ℕ) Ending
seen_types types = Ok (numbers_in types.0, types.1)

abbrev named : List ℕ → List ℕ × List ℕ → Result (Asking × List ℕ) Ending
named name t = Ok ((name, t.0), t.1)

step4 : (name : List ℕ) (r : Result (List ℕ × List ℕ) Ending) → (r >>= λ types. whole_of ((name, numbers_in types.0), types.1)) ≡ (((r >>= seen_types) >>= named name) >>= whole_of)
step4 name (Ok types) = refl
step4 name (Err e) = refl

step3 : (name : List ℕ) (r : Result (ℕ × List ℕ) Ending) → (r >>= λ count. bytes_at (2 * count.0) count.1 >>= λ types. whole_of ((name, numbers_in types.0), types.1))
    ≡ (((r >>= λ count. bytes_at (2 * count.0) count.1 >>= seen_types) >>= named name) >>= whole_of)
step3 name (Ok count) = step4 name (bytes_at (2 * count.0) count.1)
step3 name (Err e) = refl

step2 : (r : Result (List ℕ × List ℕ) Ending) → (r >>= λ name. number_at 2 name.1 >>= λ count. bytes_at (2 * count.0) count.1 >>= λ types. whole_of ((name.0, numbers_in types.0), types.1))
    ≡ ((r >>= λ n. then_types n.0 n.1) >>= whole_of)
step2 (Ok name) = step3 name.0 (number_at 2 name.1)
step2 (Err e) = refl

step1 : (r : Result (ℕ × List ℕ) Ending) → (r >>= λ len. bytes_at len.0 len.1 >>= λ name. number_at 2 name.1 >>= λ count. bytes_at (2 * count.0) count.1 >>= λ types. whole_of ((name.0, numbers_in types.0), types.1))
    ≡ (((r >>= λ len. bytes_at len.0 len.1) >>= λ n. then_types n.0 n.1) >>= whole_of)
step1 (Ok len) = step2 (bytes_at len.0 len.1)
step1 (Err e) = refl

asks_reads : (bytes : List ℕ) → asks_at bytes ≡ (pair_at bytes >>= whole_of)
unfolding asks_at
asks_reads bytes = step1 (number_at 4 bytes)

whole_ok : (p : Asking × List ℕ) (info : PlainInfo) → whole_of p ≡ Ok info → (p.1 ≡ []) × (info ≡ Asks p.0.0 p.0.1)
whole_ok p info e =
    elim (cases_Bool (eqb (length p.1) 0)) [
      | inl t ↦ (nil_from_length p.1 (eqb-true _ _ t), done_is _ _ (sym e ∙ cond-true _ (done (Asks p.0.0 p.0.1)) (Err endings.Short) t))
      | inr t ↦ let wrong : done info ≡ Err endings.Short = sym e ∙ cond-false _ (done (Asks p.0.0 p.0.1)) (Err endings.Short) t in absurd cc
    ]

-- what was asked is encoded so
asks_found : (bytes : List ℕ) (info : PlainInfo) → AreBytes bytes → asks_at bytes ≡ Ok info → (p : Asking) × AreAsked p.0 p.1 × (info ≡ Asks p.0 p.1) × (bytes ≡ info_encoding (Asks p.0 p.1))
unfolding info_encoding
asks_found bytes info is_bytes e =
    let b = bind_ok (pair_at bytes) whole_of info (sym (asks_reads bytes) ∙ e) in
    let w = pair_field.found bytes b.0.0 b.0.1 is_bytes b.1 in
    let v = whole_ok b.0 info b.2 in
    (b.0.0, record { name_len = w.0.0.0; name_bytes = w.0.0.1; type_count = w.0.1.0; each_type = w.0.1.1 }, v.1, w.1 ∙ ap (λ (r : List ℕ). pair_text b.0.0 ++ r) v.0 ∙ append-nil (pair_text b.0.0))

-- what is encoded so was asked
asks_again : (name types : List ℕ) → AreAsked name types → asks_at (info_encoding (Asks name types)) ≡ Ok (Asks name types)
unfolding info_encoding
asks_again name types fits =
    let p : Asking = (name, types) in
    let at : pair_at (pair_text p) ≡ Ok (p, []) = ap pair_at (sym (append-nil (pair_text p))) ∙ pair_field.again p [] ((fits.name_len, fits.name_bytes), (fits.type_count, fits.each_type)) in
    asks_reads (pair_text p) ∙ ap (λ r. r >>= whole_of) at

into_by : (bytes : List ℕ) (q : Result PlainInfo Ending) → AreBytes bytes → asks_at bytes ≡ q → InfoFits (asks_or bytes q) × (info_encoding (asks_or bytes q) ≡ bytes)
unfolding info_encoding
into_by bytes (Ok info) is_bytes e =
    let w = asks_found bytes info is_bytes e in
    let got : InfoFits (Asks w.0.0 w.0.1) × (info_encoding (Asks w.0.0 w.0.1) ≡ bytes) = (w.1, sym w.3) in
    subst (λ (i : PlainInfo). InfoFits i × (info_encoding i ≡ bytes)) (sym w.2) got
into_by bytes (Err d) is_bytes e =
    (λ name types fits whole. let again = sym e ∙ ap asks_at whole ∙ asks_again name types fits in absurd cc, refl)

-- what data holds encodes the data
pub info_into : (bytes : List ℕ) → AreBytes bytes → InfoFits (info_of bytes) × (info_encoding (info_of bytes) ≡ bytes)
info_into bytes is_bytes = into_by bytes (asks_at bytes) is_bytes refl

malformed_by : (bytes : List ℕ) (q : Result PlainInfo Ending) → AreBytes bytes → InfoFits (Malformed bytes) → asks_at bytes ≡ q → asks_or bytes q ≡ Malformed bytes
malformed_by bytes (Ok info) is_bytes fits e =
    let w = asks_found bytes info is_bytes e in
    absurd (fits w.0.0 w.0.1 w.1 w.3)
malformed_by bytes (Err d) is_bytes fits e = refl

-- what encodes data is what it holds
pub info_back : (info : PlainInfo) → InfoFits info → AreBytes (info_encoding info) → info_of (info_encoding info) ≡ info
unfolding info_encoding
info_back (Asks name types) fits is_bytes = ap (asks_or (info_encoding (Asks name types))) (asks_again name types fits)
info_back (Malformed bytes) fits is_bytes = malformed_by bytes (asks_at bytes) is_bytes fits refl
