-- A field in another form: read by an equal function, encoded alike, or seen as another value.
use Rattle.std.proofs.Common.{◌≡◌, ℕ, ◌<◌, List, [], ◌++◌, length, replicate, Result, Ok, Err, refl, sym, ap, subst, ◌∙◌, arith, inl, inr}
use Rattle.nbd_codec.specs.declared.findings.Fault.{Fault}
use Rattle.nbd_codec.specs.declared.fields.Ending.{Ending}
use Rattle.nbd_codec.specs.declared.fields.Ending.TheVariants as endings
use Rattle.std.proofs.lemmas.List.{length-replicate}
use Rattle.byteorder.specs.Endian.{big_bytes}
use Rattle.nbd_codec.specs.Fields.{◌>>=◌, bytes_at}
use Rattle.nbd_codec.specs.Findings.{AreBytes, IsProperPrefix}
use Rattle.nbd_codec.proofs.Parts.{IsField, IsField-both, bind_ok, bind_err}
use Rattle.nbd_codec.proofs.BigNumbers.{AreBytes-zeros}
use Rattle.nbd_codec.proofs.Basics.{done, done_is, AreSome, IsField-bytes}

-- two steps and a third are one step and two
pub bind_assoc : {A B C : Type 0} (r : Result A Ending) (f : A → Result B Ending) (g : B → Result C Ending) → ((r >>= f) >>= g) ≡ (r >>= λ x. f x >>= g)
bind_assoc (Ok x) f g = refl
bind_assoc (Err e) f g = refl

-- the same field, read and encoded in other words
module _ {A : Type 0} (f f' : List ℕ → Result (A × List ℕ) Ending) (s s' : A → List ℕ) (F F' : A → Type 0)
    (field : IsField f s F) (reads : (bytes : List ℕ) → f' bytes ≡ f bytes) (narrow : (x : A) → F' x → F x) (wide : (x : A) → F x → F' x) (encodes : (x : A) → F x → s' x ≡ s x) where
  reencoded_short : (bytes : List ℕ) → AreBytes bytes → f' bytes ≡ Err endings.Short → IsProperPrefix s' F' bytes
  reencoded_short bytes is_bytes e =
      let w = field.short bytes is_bytes (sym (reads bytes) ∙ e) in
      record { value = w.value; rest = w.rest; fits = wide w.value w.fits; some = w.some; whole = w.whole ∙ sym (encodes w.value w.fits) }

  reencoded_found : (bytes : List ℕ) (x : A) (rest : List ℕ) → AreBytes bytes → f' bytes ≡ Ok (x, rest) → F' x × (bytes ≡ s' x ++ rest)
  reencoded_found bytes x rest is_bytes e =
      let w = field.found bytes x rest is_bytes (sym (reads bytes) ∙ e) in
      (wide x w.0, w.1 ∙ ap (λ (b : List ℕ). b ++ rest) (sym (encodes x w.0)))

  pub IsField-reencoded : IsField f' s' F'
  IsField-reencoded = record {
    found = reencoded_found;
    again = λ x rest fits. reads (s' x ++ rest) ∙ ap (λ (b : List ℕ). f (b ++ rest)) (encodes x (narrow x fits)) ∙ field.again x rest (narrow x fits);
    short = reencoded_short;
    front = λ x bytes rest fits some whole. reads bytes ∙ field.front x bytes rest (narrow x fits) some (whole ∙ encodes x (narrow x fits));
    stays = λ bytes more d is_bytes e. reads (bytes ++ more) ∙ field.stays bytes more d is_bytes (sym (reads bytes) ∙ e);
  }

-- the field seen as another value
module _ {A C : Type 0} (f : List ℕ → Result (A × List ℕ) Ending) (s : A → List ℕ) (F : A → Type 0) (h : A → C) (t : C → List ℕ) (H : C → Type 0)
    (field : IsField f s F) (into : (x : A) → F x → H (h x) × (t (h x) ≡ s x)) (back : (c : C) → H c → (x : A) × F x × (h x ≡ c)) where
  abbrev seen : List ℕ → Result (C × List ℕ) Ending
  seen bytes = f bytes >>= λ a. Ok (h a.0, a.1)

  seen_found : (bytes : List ℕ) (c : C) (rest : List ℕ) → AreBytes bytes → seen bytes ≡ Ok (c, rest) → H c × (bytes ≡ t c ++ rest)
  seen_found bytes c rest is_bytes e =
      let a = bind_ok (f bytes) (λ a. Ok (h a.0, a.1)) (c, rest) e in
      let w = field.found bytes a.0.0 a.0.1 is_bytes a.1 in
      let same = done_is (h a.0.0, a.0.1) (c, rest) a.2 in
      let i = into a.0.0 w.0 in
      let got : H (h a.0.0) × (bytes ≡ t (h a.0.0) ++ a.0.1) = (i.0, w.1 ∙ ap (λ (b : List ℕ). b ++ a.0.1) (sym i.1)) in
      subst (λ (p : C × List ℕ). H p.0 × (bytes ≡ t p.0 ++ p.1)) same got

  -- a value that is seen is seen of one that encodes it
  from : (c : C) → H c → (x : A) × F x × (h x ≡ c) × (t c ≡ s x)
  from c fits =
      let b = back c fits in
      (b.0, b.1, b.2, ap t (sym b.2) ∙ (into b.0 b.1).1)

  seen_again : (c : C) (rest : List ℕ) → H c → seen (t c ++ rest) ≡ Ok (c, rest)
  seen_again c rest fits =
      let b = from c fits in
      let at : f (t c ++ rest) ≡ Ok (b.0, rest) = ap (λ (x : List ℕ). f (x ++ rest)) b.3 ∙ field.again b.0 rest b.1 in
      ap (λ r. r >>= λ a. Ok (h a.0, a.1)) at ∙ ap (λ (x : C). done (x, rest)) b.2

  seen_short : (bytes : List ℕ) → AreBytes bytes → seen bytes ≡ Err endings.Short → IsProperPrefix t H bytes
  seen_short bytes is_bytes e =
      elim (bind_err (f bytes) (λ a. Ok (h a.0, a.1)) endings.Short e) [
        | inl short ↦
            let w = field.short bytes is_bytes short in
            let i = into w.value w.fits in
            record { value = h w.value; rest = w.rest; fits = i.0; some = w.some; whole = w.whole ∙ sym i.1 }
        | inr a ↦ absurd cc
      ]

  seen_front : (c : C) (bytes rest : List ℕ) → H c → 0 < length rest → bytes ++ rest ≡ t c → seen bytes ≡ Err endings.Short
  seen_front c bytes rest fits some whole =
      let b = from c fits in
      ap (λ r. r >>= λ a. Ok (h a.0, a.1)) (field.front b.0 bytes rest b.1 some (whole ∙ b.3))

  seen_stays : (bytes more : List ℕ) (d : Fault) → AreBytes bytes → seen bytes ≡ Err (endings.Fault d) → seen (bytes ++ more) ≡ Err (endings.Fault d)
  seen_stays bytes more d is_bytes e =
      elim (bind_err (f bytes) (λ a. Ok (h a.0, a.1)) (endings.Fault d) e) [
        | inl at ↦ ap (λ r. r >>= λ a. Ok (h a.0, a.1)) (field.stays bytes more d is_bytes at)
        | inr a ↦ absurd cc
      ]

  pub IsField-seen : IsField seen t H
  IsField-seen = record { found = seen_found; again = seen_again; short = seen_short; front = seen_front; stays = seen_stays }

-- bytes behind their length, which f reads
abbrev pub string_of : (List ℕ → Result (ℕ × List ℕ) Ending) → List ℕ → Result (List ℕ × List ℕ) Ending
string_of f bytes = f bytes >>= λ len. bytes_at len.0 len.1

abbrev pub string_text : List ℕ → List ℕ
string_text content = big_bytes 4 (length content) ++ content

abbrev pub IsString : (ℕ → Type 0) → List ℕ → Type 0
IsString F content = F (length content) × AreBytes content

module _ (f : List ℕ → Result (ℕ × List ℕ) Ending) (F : ℕ → Type 0) (field : IsField f (big_bytes 4) F) where
  content_field : (len : ℕ) → F len → IsField (bytes_at len) (λ (x : List ℕ). x) (λ x. IsString F x × (length x ≡ len))
  content_field len fits =
      IsField-reencoded (bytes_at len) (bytes_at len) (λ (x : List ℕ). x) (λ (x : List ℕ). x) (AreSome len) (λ x. IsString F x × (length x ≡ len)) (IsField-bytes len) (λ bytes. refl) (λ x w. (w.1, w.0.1)) (λ x w. ((subst F (sym w.0) fits, w.1), w.0)) (λ x w. refl)

  zeros : (len : ℕ) → F len → (x : List ℕ) × IsString F x × (length x ≡ len)
  zeros len fits =
      let same : length {A = ℕ} (replicate len 0) ≡ len = length-replicate {A = ℕ} len 0 in
      (replicate len 0, (subst F (sym same) fits, AreBytes-zeros [] len (λ i. omega arith)), same)

  pub IsField-string : IsField (string_of f) string_text (IsString F)
  IsField-string = IsField-both f (big_bytes 4) F bytes_at (λ (x : List ℕ). x) (IsString F) length field content_field (λ x w. w.0) zeros
