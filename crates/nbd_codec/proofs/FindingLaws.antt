-- What a reader finds where its function of the bytes reads what is encoded.
use Rattle.std.proofs.Common.{◌≡◌, ℕ, ◌-◌, ◌≤◌, ◌↔◌, List, [], ◌++◌, length, length-append, drop, Result, Ok, Err, refl, sym, ap, subst, ◌∙◌, append_assoc, arith}
use Rattle.std.proofs.lemmas.List.{append-nil, drop_at}
use Rattle.nbd_codec.specs.declared.findings.Fault.{Fault}
use Rattle.nbd_codec.specs.declared.findings.Reading.{Reading}
use Rattle.nbd_codec.specs.declared.findings.Reading.TheVariants as readings
use Rattle.nbd_codec.specs.declared.fields.Ending.{Ending}
use Rattle.nbd_codec.specs.declared.fields.Ending.TheVariants as endings
use Rattle.nbd_codec.specs.Findings.{AreBytes, IfValue, IsFault, IsImpossible, IsProperPrefix, Takes, finding, seen_by}
use Rattle.nbd_codec.specs.Laws.{IsEncoded}
use Rattle.nbd_codec.proofs.Parts.{IsField}
use Rattle.nbd_codec.proofs.Basics.{done, done_is}

module _ {A X : Type 0} (f : List ℕ → Result (A × List ℕ) Ending) (s : A → List ℕ) (F : A → Type 0) (view : X → A) (field : IsField f s F) where
  pub rest_fits : (bytes : List ℕ) (x : A) (rest : List ℕ) → AreBytes bytes → f bytes ≡ Ok (x, rest) → length rest ≤ length bytes
  rest_fits bytes x rest is_bytes e =
      let w = field.found bytes x rest is_bytes e in
      omega (arith, ap length w.1, length-append (s x) rest)

  takes : (bytes : List ℕ) (x : A) (rest : List ℕ) (v : X) (n : ℕ) → F x → bytes ≡ s x ++ rest → view v ≡ x → n ≡ length bytes - length rest → Takes s F bytes (view v) n
  takes bytes x rest v n fits whole v-is n-is =
      let len : length (s x) ≡ n = omega (arith, ap length whole, length-append (s x) rest) in
      let back : drop n bytes ≡ rest = ap (drop n) whole ∙ drop_at (s x) rest n len in
      let got : Takes s F bytes x n = record { fits = fits; len = sym len; whole = whole ∙ ap (λ (r : List ℕ). s x ++ r) (sym back) } in
      subst (λ (y : A). Takes s F bytes y n) (sym v-is) got

  found_by : (bytes : List ℕ) (q : Result (A × List ℕ) Ending) (r : Reading X) → AreBytes bytes → f bytes ≡ q → seen_by view r ≡ finding bytes q → IfValue r (λ v n. Takes s F bytes (view v) n)
  found_by bytes (Ok x) (readings.Value v n) is_bytes e same =
      let w = field.found bytes x.0 x.1 is_bytes e in
      takes bytes x.0 x.1 v n w.0 w.1 (cc) (cc)
  found_by bytes (Ok x) readings.More is_bytes e same = tt
  found_by bytes (Ok x) (readings.Fault d) is_bytes e same = tt
  found_by bytes (Err endings.Short) (readings.Value v n) is_bytes e same = absurd cc
  found_by bytes (Err endings.Short) readings.More is_bytes e same = tt
  found_by bytes (Err endings.Short) (readings.Fault d) is_bytes e same = tt
  found_by bytes (Err (endings.Fault c)) (readings.Value v n) is_bytes e same = absurd cc
  found_by bytes (Err (endings.Fault c)) readings.More is_bytes e same = tt
  found_by bytes (Err (endings.Fault c)) (readings.Fault d) is_bytes e same = tt

  -- a value is encoded so
  pub is_found : (bytes : List ℕ) (r : Reading X) → AreBytes bytes → seen_by view r ≡ finding bytes (f bytes) → IfValue r (λ v n. Takes s F bytes (view v) n)
  is_found bytes r is_bytes same = found_by bytes (f bytes) r is_bytes refl same

  takes_within : (least : ℕ) → ((x : A) → F x → least ≤ length (s x)) → (bytes : List ℕ) (x : A) (n : ℕ) → Takes s F bytes x n → (least ≤ n) × (n ≤ length bytes)
  takes_within least long bytes x n w = (omega (arith, long x w.fits, w.len), omega (arith, w.len, ap length w.whole, length-append (s x) (drop n bytes)))

  within_by : (least : ℕ) → ((x : A) → F x → least ≤ length (s x)) → (bytes : List ℕ) (r : Reading X) → IfValue r (λ v n. Takes s F bytes (view v) n) → IfValue r (λ v n. (least ≤ n) × (n ≤ length bytes))
  within_by least long bytes (readings.Value v n) w = takes_within least long bytes (view v) n w
  within_by least long bytes readings.More w = tt
  within_by least long bytes (readings.Fault d) w = tt

  -- a value takes at least as many bytes as each encoding has, and no more than came
  pub is_within : (least : ℕ) → ((x : A) → F x → least ≤ length (s x)) → (bytes : List ℕ) (r : Reading X) → AreBytes bytes → seen_by view r ≡ finding bytes (f bytes) → IfValue r (λ v n. (least ≤ n) × (n ≤ length bytes))
  is_within least long bytes r is_bytes same = within_by least long bytes r (is_found bytes r is_bytes same)

  exactly_by : (count : ℕ) → ((x : A) → F x → length (s x) ≡ count) → (bytes : List ℕ) (r : Reading X) → IfValue r (λ v n. Takes s F bytes (view v) n) → IfValue r (λ v n. (n ≡ count) × (n ≤ length bytes))
  exactly_by count all bytes (readings.Value v n) w = (w.len ∙ all (view v) w.fits, (takes_within 0 (λ x fits. omega arith) bytes (view v) n w).1)
  exactly_by count all bytes readings.More w = tt
  exactly_by count all bytes (readings.Fault d) w = tt

  -- a value takes as many bytes as all encodings have, and no more than came
  pub is_exactly : (count : ℕ) → ((x : A) → F x → length (s x) ≡ count) → (bytes : List ℕ) (r : Reading X) → AreBytes bytes → seen_by view r ≡ finding bytes (f bytes) → IfValue r (λ v n. (n ≡ count) × (n ≤ length bytes))
  is_exactly count all bytes r is_bytes same = exactly_by count all bytes r (is_found bytes r is_bytes same)

  -- what is encoded so is found
  pub is_only : (bytes : List ℕ) (r : Reading X) (x : A) (rest : List ℕ) → seen_by view r ≡ finding bytes (f bytes) → F x → bytes ≡ s x ++ rest → seen_by view r ≡ readings.Value x (length (s x))
  is_only bytes r x rest same fits whole =
      let at : f bytes ≡ Ok (x, rest) = ap f whole ∙ field.again x rest fits in
      let len : length bytes - length rest ≡ length (s x) = omega (arith, ap length whole, length-append (s x) rest) in
      same ∙ ap (finding bytes) at ∙ ap (readings.Value x) len

  short_from : (bytes : List ℕ) (q : Result (A × List ℕ) Ending) → finding bytes q ≡ readings.More → q ≡ Err endings.Short
  short_from bytes (Ok x) e = absurd cc
  short_from bytes (Err endings.Short) e = refl
  short_from bytes (Err (endings.Fault d)) e = absurd cc

  more_from : (r : Reading X) → seen_by view r ≡ readings.More → r ≡ readings.More
  more_from (readings.Value v n) e = absurd cc
  more_from readings.More e = refl
  more_from (readings.Fault d) e = absurd cc

  -- more is needed exactly at a proper prefix
  pub is_more : (bytes : List ℕ) (r : Reading X) → AreBytes bytes → seen_by view r ≡ finding bytes (f bytes) → (r ≡ readings.More) ↔ IsProperPrefix s F bytes
  is_more bytes r is_bytes same = (
    λ e. field.short bytes is_bytes (short_from bytes (f bytes) (sym same ∙ ap (seen_by view) e)),
    λ w. more_from r (same ∙ ap (finding bytes) (field.front w.value bytes w.rest w.fits w.some w.whole)),
  )

  stays_by : (bytes more : List ℕ) (q : Result (A × List ℕ) Ending) → AreBytes bytes → f bytes ≡ q → (finding bytes q ≡ readings.More → ⊥) → finding (bytes ++ more) (f (bytes ++ more)) ≡ finding bytes q
  stays_by bytes more (Ok x) is_bytes e not_more =
      let w = field.found bytes x.0 x.1 is_bytes e in
      let whole : bytes ++ more ≡ s x.0 ++ (x.1 ++ more) = ap (λ (b : List ℕ). b ++ more) w.1 ∙ append_assoc (s x.0) x.1 more in
      let at : f (bytes ++ more) ≡ Ok (x.0, x.1 ++ more) = ap f whole ∙ field.again x.0 (x.1 ++ more) w.0 in
      let len : length (bytes ++ more) - length (x.1 ++ more) ≡ length bytes - length x.1 = omega (arith, length-append bytes more, length-append x.1 more) in
      ap (finding (bytes ++ more)) at ∙ ap (readings.Value x.0) len
  stays_by bytes more (Err endings.Short) is_bytes e not_more = absurd (not_more refl)
  stays_by bytes more (Err (endings.Fault d)) is_bytes e not_more = ap (finding (bytes ++ more)) (field.stays bytes more d is_bytes e)

  -- what was found is found whatever follows
  pub is_kept : (bytes more : List ℕ) → AreBytes bytes → (finding bytes (f bytes) ≡ readings.More → ⊥) → finding (bytes ++ more) (f (bytes ++ more)) ≡ finding bytes (f bytes)
  is_kept bytes more is_bytes not_more = stays_by bytes more (f bytes) is_bytes refl not_more

  -- no encoding begins another
  pub is_one : (x y : A) (a b : List ℕ) → F x → F y → s x ++ a ≡ s y ++ b → (x ≡ y) × (a ≡ b)
  is_one x y a b x-fits y-fits e =
      let same : done (x, a) ≡ done (y, b) = sym (field.again x a x-fits) ∙ ap f e ∙ field.again y b y-fits in
      let pair = done_is (x, a) (y, b) same in
      (ap (λ (p : A × List ℕ). p.0) pair, ap (λ (p : A × List ℕ). p.1) pair)

  pub fault_of : (bytes : List ℕ) (q : Result (A × List ℕ) Ending) (d : Fault) → finding bytes q ≡ readings.Fault d → q ≡ Err (endings.Fault d)
  fault_of bytes (Ok x) d e = absurd cc
  fault_of bytes (Err endings.Short) d e = absurd cc
  fault_of bytes (Err (endings.Fault c)) d e = cc

  fault_from : (r : Reading X) (d : Fault) → seen_by view r ≡ readings.Fault d → r ≡ readings.Fault d
  fault_from (readings.Value v n) d e = absurd cc
  fault_from readings.More d e = absurd cc
  fault_from (readings.Fault c) d e = cc

  -- a fault is found exactly where the function of the bytes gives it
  pub is_fault : (bytes : List ℕ) (r : Reading X) (d : Fault) (P : Type 0) → seen_by view r ≡ finding bytes (f bytes) → (f bytes ≡ Err (endings.Fault d) → P) → (P → f bytes ≡ Err (endings.Fault d)) → (r ≡ readings.Fault d) ↔ P
  is_fault bytes r d P same gives since =
      (λ e. gives (fault_of bytes (f bytes) d (sym same ∙ ap (seen_by view) e)), λ p. fault_from r d (same ∙ ap (finding bytes) (since p)))

  no_value : (bytes : List ℕ) (d : Fault) → AreBytes bytes → f bytes ≡ Err (endings.Fault d) → IsImpossible s F bytes
  no_value bytes d is_bytes e value more rest fits whole =
      let wrong = sym (field.stays bytes more d is_bytes e) ∙ ap f whole ∙ field.again value rest fits in
      absurd cc

  impossible_by : (bytes : List ℕ) (r : Reading X) → AreBytes bytes → seen_by view r ≡ finding bytes (f bytes) → IsFault r ↔ IsImpossible s F bytes
  impossible_by bytes (readings.Value v n) is_bytes same =
      let w = is_found bytes (readings.Value v n) is_bytes same in
      (λ h. absurd h, λ h. h (view v) [] (drop n bytes) w.fits (append-nil bytes ∙ w.whole))
  impossible_by bytes readings.More is_bytes same =
      let w = (is_more bytes readings.More is_bytes same).0 refl in
      (λ h. absurd h, λ h. h w.value w.rest [] w.fits (w.whole ∙ sym (append-nil (s w.value))))
  impossible_by bytes (readings.Fault d) is_bytes same =
      (λ _. no_value bytes d is_bytes (fault_of bytes (f bytes) d (sym same)), λ _. tt)

  -- a fault is found exactly where nothing that is encoded can come
  pub is_impossible : (bytes : List ℕ) (r : Reading X) → AreBytes bytes → seen_by view r ≡ finding bytes (f bytes) → IsFault r ↔ IsImpossible s F bytes
  is_impossible bytes r is_bytes same = impossible_by bytes r is_bytes same

-- what is found is what is encoded
pub is_encoded : {A : Type 0} (f : List ℕ → Result (A × List ℕ) Ending) (s : A → List ℕ) (F : A → Type 0) → IsField f s F → IsEncoded s F (λ bytes. finding bytes (f bytes))
is_encoded {A = A} f s F field = record {
  value = λ bytes x taken is_bytes is. is_found f s F (λ (x : A). x) field bytes (readings.Value x taken) is_bytes (sym is);
  more = λ bytes is_bytes is. (is_more f s F (λ (x : A). x) field bytes readings.More is_bytes (sym is)).0 refl;
  fault = λ bytes fault is_bytes is. (is_impossible f s F (λ (x : A). x) field bytes (readings.Fault fault) is_bytes (sym is)).0 tt;
}
