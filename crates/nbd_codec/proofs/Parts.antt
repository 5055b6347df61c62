-- A field, and then the fields behind it: what holds of each holds of both.
use Rattle.std.proofs.Common.{◌≡◌, ℕ, ◌+◌, ◌<◌, List, [], ◌∷◌, ◌++◌, length, length-append, Result, Ok, Err, refl, sym, ap, subst, ◌∙◌, append_assoc, arith, inl, inr, ◌⊎◌}
use Rattle.std.proofs.lemmas.List.{get_or-append-add}
use Rattle.nbd_codec.specs.declared.findings.Fault.{Fault}
use Rattle.nbd_codec.specs.declared.fields.Ending.{Ending}
use Rattle.nbd_codec.specs.declared.fields.Ending.TheVariants as endings
use Rattle.nbd_codec.specs.Fields.{◌>>=◌}
use Rattle.nbd_codec.specs.Findings.{AreBytes, IsProperPrefix}

pub AreBytes-right : (front back : List ℕ) → AreBytes (front ++ back) → AreBytes back
AreBytes-right front back fits i = subst (λ (n : ℕ). n < 256) (get_or-append-add front back i 0) (fits (length front + i))

-- f reads what s encodes, of the values that F lets through
pub record IsField {A : Type 0} (f : List ℕ → Result (A × List ℕ) Ending) (s : A → List ℕ) (F : A → Type 0) : Type 0 where
  pub found : (bytes : List ℕ) (x : A) (rest : List ℕ) → AreBytes bytes → f bytes ≡ Ok (x, rest) → F x × (bytes ≡ s x ++ rest)
  pub again : (x : A) (rest : List ℕ) → F x → f (s x ++ rest) ≡ Ok (x, rest)
  pub short : (bytes : List ℕ) → AreBytes bytes → f bytes ≡ Err endings.Short → IsProperPrefix s F bytes
  pub front : (x : A) (bytes rest : List ℕ) → F x → 0 < length rest → bytes ++ rest ≡ s x → f bytes ≡ Err endings.Short
  pub stays : (bytes more : List ℕ) (e : Fault) → AreBytes bytes → f bytes ≡ Err (endings.Fault e) → f (bytes ++ more) ≡ Err (endings.Fault e)

-- the value of a step that did not stop
pub bind_ok : {A B : Type 0} (r : Result A Ending) (f : A → Result B Ending) (y : B) → (r >>= f) ≡ Ok y → (x : A) × (r ≡ Ok x) × (f x ≡ Ok y)
bind_ok (Ok x) f y e = (x, refl, e)
bind_ok (Err d) f y e = absurd cc

-- where a step stopped
pub bind_err : {A B : Type 0} (r : Result A Ending) (f : A → Result B Ending) (d : Ending) → (r >>= f) ≡ Err d → (r ≡ Err d) ⊎ ((x : A) × (r ≡ Ok x) × (f x ≡ Err d))
bind_err (Ok x) f d e = inr (x, refl, e)
bind_err (Err c) f d e = inl (cc)

-- of two ways to cut one list, one cuts first
abbrev pub Cuts : List ℕ → List ℕ → List ℕ → List ℕ → Type 0
Cuts a b c d = ((r : List ℕ) × (0 < length r) × (a ++ r ≡ c)) ⊎ ((r : List ℕ) × (a ≡ c ++ r) × (r ++ b ≡ d))

pub cuts : (a b c d : List ℕ) → a ++ b ≡ c ++ d → Cuts a b c d
cuts [] b [] d e = inr ([], refl, e)
cuts [] b (y ∷ c) d e = inl (y ∷ c, omega arith, refl)
cuts (x ∷ a) b [] d e = inr (x ∷ a, refl, e)
cuts (x ∷ a) b (y ∷ c) d e =
    let tails : a ++ b ≡ c ++ d = cc in
    let heads : x ≡ y = cc in
    elim (cuts a b c d tails) [
      | inl w ↦ inl (w.0, w.1, cc)
      | inr w ↦ inr (w.0, cc, w.2)
    ]

-- one field, and behind it what the other reads
module _ {A C : Type 0} (f : List ℕ → Result (A × List ℕ) Ending) (s : A → List ℕ) (F : A → Type 0) (g : A → List ℕ → Result (C × List ℕ) Ending) (t : C → List ℕ) (H : C → Type 0) (p : C → A)
    (first : IsField f s F) (second : (x : A) → F x → IsField (g x) t (λ c. H c × (p c ≡ x))) (fits : (c : C) → H c → F (p c)) (some : (x : A) → F x → (c : C) × H c × (p c ≡ x)) where
  abbrev both : List ℕ → Result (C × List ℕ) Ending
  both bytes = f bytes >>= λ a. g a.0 a.1

  abbrev text : C → List ℕ
  text c = s (p c) ++ t c

  goes_on : (bytes : List ℕ) (x : A) (rest more : List ℕ) → AreBytes bytes → f bytes ≡ Ok (x, rest) → f (bytes ++ more) ≡ Ok (x, rest ++ more)
  goes_on bytes x rest more is_bytes e =
      let w = first.found bytes x rest is_bytes e in
      let regrouped : bytes ++ more ≡ s x ++ (rest ++ more) = ap (λ (b : List ℕ). b ++ more) w.1 ∙ append_assoc (s x) rest more in
      ap f regrouped ∙ first.again x (rest ++ more) w.0

  both_found : (bytes : List ℕ) (c : C) (rest : List ℕ) → AreBytes bytes → both bytes ≡ Ok (c, rest) → H c × (bytes ≡ text c ++ rest)
  both_found bytes c rest is_bytes e =
      let a = bind_ok (f bytes) (λ a. g a.0 a.1) (c, rest) e in
      let w = first.found bytes a.0.0 a.0.1 is_bytes a.1 in
      let v = (second a.0.0 w.0).found a.0.1 c rest (AreBytes-right (s a.0.0) a.0.1 (subst AreBytes w.1 is_bytes)) a.2 in
      (v.0.0, w.1 ∙ ap (λ (b : List ℕ). s a.0.0 ++ b) v.1 ∙ ap (λ (x : A). s x ++ (t c ++ rest)) (sym v.0.1) ∙ sym (append_assoc (s (p c)) (t c) rest))

  both_again : (c : C) (rest : List ℕ) → H c → both (text c ++ rest) ≡ Ok (c, rest)
  both_again c rest h =
      let regrouped : f (text c ++ rest) ≡ Ok (p c, t c ++ rest) = ap f (append_assoc (s (p c)) (t c) rest) ∙ first.again (p c) (t c ++ rest) (fits c h) in
      ap (λ r. r >>= λ a. g a.0 a.1) regrouped ∙ (second (p c) (fits c h)).again c rest (h, refl)

  both_short : (bytes : List ℕ) → AreBytes bytes → both bytes ≡ Err endings.Short → IsProperPrefix text H bytes
  both_short bytes is_bytes e =
      elim (bind_err (f bytes) (λ a. g a.0 a.1) endings.Short e) [
        | inl short ↦
            let w = first.short bytes is_bytes short in
            let c = some w.value w.fits in
            record {
              value = c.0;
              rest = w.rest ++ t c.0;
              fits = c.1;
              some = omega (arith, length-append w.rest (t c.0), w.some);
              whole = sym (append_assoc bytes w.rest (t c.0)) ∙ ap (λ (b : List ℕ). b ++ t c.0) w.whole ∙ ap (λ (x : A). s x ++ t c.0) (sym c.2);
            }
        | inr a ↦
            let w = first.found bytes a.0.0 a.0.1 is_bytes a.1 in
            let v = (second a.0.0 w.0).short a.0.1 (AreBytes-right (s a.0.0) a.0.1 (subst AreBytes w.1 is_bytes)) a.2 in
            record {
              value = v.value;
              rest = v.rest;
              fits = v.fits.0;
              some = v.some;
              whole = ap (λ (b : List ℕ). b ++ v.rest) w.1 ∙ append_assoc (s a.0.0) a.0.1 v.rest ∙ ap (λ (b : List ℕ). s a.0.0 ++ b) v.whole ∙ ap (λ (x : A). s x ++ t v.value) (sym v.fits.1);
            }
      ]

  both_front : (c : C) (bytes rest : List ℕ) → H c → 0 < length rest → bytes ++ rest ≡ text c → both bytes ≡ Err endings.Short
  both_front c bytes rest h some_left e =
      elim (cuts bytes rest (s (p c)) (t c) e) [
        | inl w ↦ ap (λ r. r >>= λ a. g a.0 a.1) (first.front (p c) bytes w.0 (fits c h) w.1 w.2)
        | inr w ↦
            let at : f bytes ≡ Ok (p c, w.0) = ap f w.1 ∙ first.again (p c) w.0 (fits c h) in
            ap (λ r. r >>= λ a. g a.0 a.1) at ∙ (second (p c) (fits c h)).front c w.0 rest (h, refl) some_left w.2
      ]

  both_stays : (bytes more : List ℕ) (e : Fault) → AreBytes bytes → both bytes ≡ Err (endings.Fault e) → both (bytes ++ more) ≡ Err (endings.Fault e)
  both_stays bytes more e is_bytes stopped =
      elim (bind_err (f bytes) (λ a. g a.0 a.1) (endings.Fault e) stopped) [
        | inl at ↦ ap (λ r. r >>= λ a. g a.0 a.1) (first.stays bytes more e is_bytes at)
        | inr a ↦
            let w = first.found bytes a.0.0 a.0.1 is_bytes a.1 in
            let on = goes_on bytes a.0.0 a.0.1 more is_bytes a.1 in
            ap (λ r. r >>= λ a. g a.0 a.1) on ∙ (second a.0.0 w.0).stays a.0.1 more e (AreBytes-right (s a.0.0) a.0.1 (subst AreBytes w.1 is_bytes)) a.2
      ]

  pub IsField-both : IsField both text H
  IsField-both = record { found = both_found; again = both_again; short = both_short; front = both_front; stays = both_stays }
