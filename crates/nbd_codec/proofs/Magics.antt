-- The magic at the front of what follows it.
use Rattle.std.proofs.Common.{◌≡◌, ℕ, ◌<◌, ◌≤◌, Bool, true, false, cond, ltb, min, List, ◌++◌, length, length-append, take, drop, Result, Ok, Err, refl, sym, ap, subst, ◌∙◌, arith, inl, inr, ◌⊎◌}
use Rattle.std.proofs.lemmas.Bool.{ltb-true, ltb-false, lt-ltb, le-ltb, both_ways, false_from_ne_true}
use Rattle.std.proofs.lemmas.List.{length-drop, take_at, drop_at, take-append-drop, take-take, take-append-le, take_all}
use Rattle.std.proofs.lemmas.Slice.Eq.{bytes_eq-Decides}
use Rattle.nbd_codec.specs.declared.findings.Fault.{Fault}
use Rattle.nbd_codec.specs.declared.fields.Ending.{Ending}
use Rattle.nbd_codec.specs.declared.fields.Ending.TheVariants as endings
use Rattle.nbd_codec.specs.Fields.{◌>>=◌, agrees, magic_at}
use Rattle.nbd_codec.specs.Findings.{IsProperPrefix}
use Rattle.nbd_codec.proofs.Parts.{IsField, IsField-both, bind_ok, bind_err}
use Rattle.nbd_codec.proofs.Basics.{done, done_is}
use Rattle.nbd_codec.proofs.Maps.{IsField-reencoded}

-- what the test of a magic says
agrees_is : (magic bytes : List ℕ) → agrees magic bytes ≡ true → take (min (length magic) (length bytes)) magic ≡ take (min (length magic) (length bytes)) bytes
agrees_is magic bytes e = (bytes_eq-Decides (take (min (length magic) (length bytes)) magic) (take (min (length magic) (length bytes)) bytes)).0 e

agrees_since : (magic bytes : List ℕ) → take (min (length magic) (length bytes)) magic ≡ take (min (length magic) (length bytes)) bytes → agrees magic bytes ≡ true
agrees_since magic bytes e = (bytes_eq-Decides (take (min (length magic) (length bytes)) magic) (take (min (length magic) (length bytes)) bytes)).1 e

-- more bytes agree with no more magics
agrees_front : (magic bytes more : List ℕ) → agrees magic (bytes ++ more) ≡ true → agrees magic bytes ≡ true
agrees_front magic bytes more e =
    let m = min (length magic) (length bytes) in
    let n = min (length magic) (length (bytes ++ more)) in
    let le : m ≤ n = omega (arith, length-append bytes more) in
    let short : m ≤ length bytes = omega arith in
    let both : take n magic ≡ take n (bytes ++ more) = agrees_is magic (bytes ++ more) e in
    let left : take m magic ≡ take m (take n magic) = sym (take-take m n magic le) in
    let right : take m (take n (bytes ++ more)) ≡ take m bytes = take-take m n (bytes ++ more) le ∙ take-append-le m bytes more short in
    agrees_since magic bytes (left ∙ ap (take m) both ∙ right)

-- bytes that begin with the magic, or that begin the magic
agrees_whole : (magic rest : List ℕ) → agrees magic (magic ++ rest) ≡ true
agrees_whole magic rest =
    let m = min (length magic) (length (magic ++ rest)) in
    let same : m ≡ length magic = omega (arith, length-append magic rest) in
    agrees_since magic (magic ++ rest) (ap (λ (k : ℕ). take k magic) same ∙ take_all (length magic) magic (omega arith) ∙ sym (take_at magic rest (length magic) refl) ∙ ap (λ (k : ℕ). take k (magic ++ rest)) (sym same))

agrees_part : (bytes rest : List ℕ) → agrees (bytes ++ rest) bytes ≡ true
agrees_part bytes rest =
    let m = min (length (bytes ++ rest)) (length bytes) in
    let same : m ≡ length bytes = omega (arith, length-append bytes rest) in
    agrees_since (bytes ++ rest) bytes (ap (λ (k : ℕ). take k (bytes ++ rest)) same ∙ take_at bytes rest (length bytes) refl ∙ sym (take_all (length bytes) bytes (omega arith)) ∙ ap (λ (k : ℕ). take k bytes) (sym same))

-- how the two tests went
chosen : {A : Type 0} (a b : Bool) (x y z r : Result A Ending) → cond a (cond b x y) z ≡ r → ((a ≡ true) × (b ≡ true) × (x ≡ r)) ⊎ (((a ≡ true) × (b ≡ false) × (y ≡ r)) ⊎ ((a ≡ false) × (z ≡ r)))
chosen true true x y z r e = inl (refl, refl, e)
chosen true false x y z r e = inr (inl (refl, refl, e))
chosen false b x y z r e = inr (inr (refl, e))

choose : {A : Type 0} (a b c d : Bool) (x y z : Result A Ending) → a ≡ c → b ≡ d → cond a (cond b x y) z ≡ cond c (cond d x y) z
choose a b c d x y z p q = rw (p, q) refl

module _ (magic : List ℕ) (fault : Fault) where
  pub magic_found : (bytes rest : List ℕ) → magic_at magic fault bytes ≡ Ok rest → bytes ≡ magic ++ rest
  unfolding magic_at
  magic_found bytes rest e =
      elim (chosen (agrees magic bytes) (ltb (length bytes) (length magic)) (Err endings.Short) (done (drop (length magic) bytes)) (Err (endings.Fault fault)) (Ok rest) e) [
        | inl w ↦ absurd cc
        | inr v ↦ elim v [
          | inl w ↦
              let long = ltb-false _ _ w.1 in
              let m = min (length magic) (length bytes) in
              let same : m ≡ length magic = omega arith in
              let front : take (length magic) bytes ≡ magic = ap (λ (k : ℕ). take k bytes) (sym same) ∙ sym (agrees_is magic bytes w.0) ∙ ap (λ (k : ℕ). take k magic) same ∙ take_all (length magic) magic (omega arith) in
              let back : drop (length magic) bytes ≡ rest = done_is _ _ w.2 in
              sym (take-append-drop (length magic) bytes) ∙ ap (λ (b : List ℕ). b ++ drop (length magic) bytes) front ∙ ap (λ (b : List ℕ). magic ++ b) back
          | inr w ↦ absurd cc
        ]
      ]

  pub magic_again : (rest : List ℕ) → magic_at magic fault (magic ++ rest) ≡ Ok rest
  unfolding magic_at
  magic_again rest =
      let long : ltb (length (magic ++ rest)) (length magic) ≡ false = le-ltb _ _ (omega (arith, length-append magic rest)) in
      choose _ _ true false (Err endings.Short) (done (drop (length magic) (magic ++ rest))) (Err (endings.Fault fault)) (agrees_whole magic rest) long
      ∙ ap (λ (b : List ℕ). done b) (drop_at magic rest (length magic) refl)

  magic_short : (bytes : List ℕ) → magic_at magic fault bytes ≡ Err endings.Short → (rest : List ℕ) × (0 < length rest) × (bytes ++ rest ≡ magic)
  unfolding magic_at
  magic_short bytes e =
      elim (chosen (agrees magic bytes) (ltb (length bytes) (length magic)) (Err endings.Short) (done (drop (length magic) bytes)) (Err (endings.Fault fault)) (Err endings.Short) e) [
        | inl w ↦
            let short = ltb-true _ _ w.1 in
            let m = min (length magic) (length bytes) in
            let same : m ≡ length bytes = omega arith in
            let front : bytes ≡ take (length bytes) magic = sym (take_all (length bytes) bytes (omega arith)) ∙ ap (λ (k : ℕ). take k bytes) (sym same) ∙ sym (agrees_is magic bytes w.0) ∙ ap (λ (k : ℕ). take k magic) same in
            (drop (length bytes) magic, omega (arith, length-drop (length bytes) magic), ap (λ (b : List ℕ). b ++ drop (length bytes) magic) front ∙ take-append-drop (length bytes) magic)
        | inr v ↦ elim v [
          | inl w ↦ absurd cc
          | inr w ↦ absurd cc
        ]
      ]

  magic_front : (bytes rest : List ℕ) → 0 < length rest → bytes ++ rest ≡ magic → magic_at magic fault bytes ≡ Err endings.Short
  unfolding magic_at
  magic_front bytes rest some whole =
      let short : ltb (length bytes) (length magic) ≡ true = lt-ltb _ _ (omega (arith, length-append bytes rest, ap length whole, some)) in
      let fits : agrees magic bytes ≡ true = subst (λ (m : List ℕ). agrees m bytes ≡ true) whole (agrees_part bytes rest) in
      choose _ _ true true (Err endings.Short) (done (drop (length magic) bytes)) (Err (endings.Fault fault)) fits short

  magic_stays : (bytes more : List ℕ) (d : Fault) → magic_at magic fault bytes ≡ Err (endings.Fault d) → magic_at magic fault (bytes ++ more) ≡ Err (endings.Fault d)
  unfolding magic_at
  magic_stays bytes more d e =
      elim (chosen (agrees magic bytes) (ltb (length bytes) (length magic)) (Err endings.Short) (done (drop (length magic) bytes)) (Err (endings.Fault fault)) (Err (endings.Fault d)) e) [
        | inl w ↦ absurd cc
        | inr v ↦ elim v [
          | inl w ↦ absurd cc
          | inr w ↦
              let not_more : agrees magic (bytes ++ more) ≡ false = false_from_ne_true _ (λ yes. both_ways _ w.0 (agrees_front magic bytes more yes)) in
              choose _ _ false _ (Err endings.Short) (done (drop (length magic) (bytes ++ more))) (Err (endings.Fault fault)) not_more refl ∙ w.1
        ]
      ]

-- which fault it is, and when
pub magic_fault : (magic : List ℕ) (fault : Fault) (bytes : List ℕ) (d : Fault) → magic_at magic fault bytes ≡ Err (endings.Fault d) → (d ≡ fault) × (agrees magic bytes ≡ false)
unfolding magic_at
magic_fault magic fault bytes d e =
    elim (chosen (agrees magic bytes) (ltb (length bytes) (length magic)) (Err endings.Short) (done (drop (length magic) bytes)) (Err (endings.Fault fault)) (Err (endings.Fault d)) e) [
      | inl w ↦ absurd cc
      | inr v ↦ elim v [
        | inl w ↦ absurd cc
        | inr w ↦ let same = w.1 in (cc, w.0)
      ]
    ]

pub magic_faults : (magic : List ℕ) (fault : Fault) (bytes : List ℕ) → agrees magic bytes ≡ false → magic_at magic fault bytes ≡ Err (endings.Fault fault)
unfolding magic_at
magic_faults magic fault bytes e = choose _ _ false _ (Err endings.Short) (done (drop (length magic) bytes)) (Err (endings.Fault fault)) e refl

abbrev started : List ℕ → Result (Unit {0} × List ℕ) Ending
started rest = Ok (tt, rest)

-- the magic as a field that has one value
module _ (magic : List ℕ) (fault : Fault) where
  abbrev start_at : List ℕ → Result (Unit {0} × List ℕ) Ending
  start_at bytes = magic_at magic fault bytes >>= started

  abbrev start_text : Unit {0} → List ℕ
  start_text u = magic

  start_found : (bytes : List ℕ) (u : Unit {0}) (rest : List ℕ) → start_at bytes ≡ Ok (u, rest) → bytes ≡ magic ++ rest
  start_found bytes u rest e =
      let a = bind_ok (magic_at magic fault bytes) started (u, rest) e in
      let same = done_is (tt, a.0) (u, rest) a.2 in
      magic_found magic fault bytes a.0 a.1 ∙ ap (λ (p : Unit {0} × List ℕ). magic ++ p.1) same

  start_err : (bytes : List ℕ) (d : Ending) → start_at bytes ≡ Err d → magic_at magic fault bytes ≡ Err d
  start_err bytes d e =
      elim (bind_err (magic_at magic fault bytes) started d e) [
        | inl at ↦ at
        | inr a ↦ absurd cc
      ]

  start_short : (bytes : List ℕ) → start_at bytes ≡ Err endings.Short → IsProperPrefix start_text (λ u. Unit {0}) bytes
  start_short bytes e =
      let w = magic_short magic fault bytes (start_err bytes endings.Short e) in
      record { value = tt; rest = w.0; fits = tt; some = w.1; whole = w.2 }

  IsField-start : IsField start_at start_text (λ u. Unit {0})
  IsField-start = record {
    found = λ bytes u rest are_bytes e. (tt, start_found bytes u rest e);
    again = λ u rest fits. ap (λ r. r >>= started) (magic_again magic fault rest);
    short = λ bytes are_bytes e. start_short bytes e;
    front = λ u bytes rest fits some whole. ap (λ r. r >>= started) (magic_front magic fault bytes rest some whole);
    stays = λ bytes more d are_bytes e. ap (λ r. r >>= started) (magic_stays magic fault bytes more d (start_err bytes (endings.Fault d) e));
  }

start_then : {C : Type 0} (r : Result (List ℕ) Ending) (g : List ℕ → Result C Ending) → (r >>= λ rest. g rest) ≡ ((r >>= started) >>= λ a. g a.1)
start_then (Ok rest) g = refl
start_then (Err e) g = refl

-- the magic, and behind it what the other reads
pub IsField-behind : {C : Type 0} (magic : List ℕ) (fault : Fault) (g : List ℕ → Result (C × List ℕ) Ending) (t : C → List ℕ) (H : C → Type 0) → IsField g t H → (c : C) × H c
    → IsField (λ bytes. magic_at magic fault bytes >>= λ rest. g rest) (λ c. magic ++ t c) H
IsField-behind {C = C} magic fault g t H second some =
    let behind = IsField-both (start_at magic fault) (start_text magic fault) (λ u. Unit {0}) (λ (u : Unit {0}) bytes. g bytes) t H (λ (c : C). tt) (IsField-start magic fault)
    (λ u fits. IsField-reencoded g g t t H (λ (c : C). H c × (tt ≡ u)) second (λ bytes. refl) (λ c w. w.0) (λ c w. (w, refl)) (λ c w. refl))
    (λ c h. tt) (λ u fits. (some.0, some.1, refl)) in
    IsField-reencoded (λ bytes. start_at magic fault bytes >>= λ a. g a.1) (λ bytes. magic_at magic fault bytes >>= λ rest. g rest) (λ (c : C). magic ++ t c) (λ (c : C). magic ++ t c) H H behind (λ bytes. start_then (magic_at magic fault bytes) g) (λ c w. w) (λ c w. w) (λ c w. refl)
