-- Places in lists, as a program goes through them: lemmas.
use Rattle.std.proofs.Common.{◌≡◌, ℕ, zero, suc, ◌+◌, ◌-◌, ◌<◌, ◌≤◌, max, Bool, true, false, eqb, if◌then◌else◌, List, [], ◌∷◌, ◌++◌, length, take, get_or, refl, sym, ◌∙◌, ap, arith}
use Rattle.std.proofs.Math.ListN.{set}
use Rattle.std.proofs.lemmas.List.{length-take-le, take_more}
use Rattle.std.proofs.lemmas.Bool.{cond-true, cond-false, eq-eqb, ne_eqb}
use Rattle.world_model.specs.Machine.{Taken, answered_at, last_answered}

answered_none : (taken : List Taken) → answered_at 0 taken ≡ taken
answered_none [] = refl
answered_none (t ∷ ts) = ap (λ (l : List Taken). t ∷ l) (answered_none ts)

-- marking a write is a write to its place
pub answered_at-set : (taken : List Taken) (place i : ℕ) (d : Taken) → place ≡ i + 1 → i < length taken → set taken i (record (get_or taken i d) { answered = true }) ≡ answered_at place taken
answered_at-set [] place i d at within = absurd (omega arith)
answered_at-set (u ∷ us) place zero d at within =
    let marked : Taken = record u { answered = true } in
    let here : eqb place 1 ≡ true = eq-eqb place 1 (omega arith) in
    let rest : place - 1 ≡ 0 = omega arith in
    rw (here, rest) (ap (λ (l : List Taken). marked ∷ l) (sym (answered_none us)))
answered_at-set (u ∷ us) place (suc i) d at within =
    let other : eqb place 1 ≡ false = ne_eqb place 1 (λ one. omega arith) in
    rw other (ap (λ (l : List Taken). u ∷ l) (answered_at-set us (place - 1) i d (omega arith) (omega arith)))

if_le : (b : Bool) (n : ℕ) → (if b then n else 0) ≤ n
if_le true n = omega arith
if_le false n = omega arith

last_first : (b : Bool) (first : ℕ) → max (if b then first else 0) 0 ≡ (if b then first + 0 else 0)
last_first true first = omega arith
last_first false first = omega arith

last_later : (b : Bool) (before first count last after : ℕ) → before ≤ first → after ≡ (if b then first + 1 + count else last) → max before after ≡ (if b then first + suc count else max before last)
last_later true before first count last after le is = omega arith
last_later false before first count last after le is = ap (max before) is

-- one write more is the last that was answered, if it was
pub last_answered-push : (first : ℕ) (taken : List Taken) (t : Taken) → last_answered first (taken ++ t ∷ []) ≡ (if t.answered then first + length taken else last_answered first taken)
last_answered-push first [] t = last_first t.answered first
last_answered-push first (u ∷ us) t =
    last_later t.answered (if u.answered then first else 0) first (length us) (last_answered (first + 1) us) (last_answered (first + 1) (us ++ t ∷ []))
    (if_le u.answered first) (last_answered-push (first + 1) us t)

module _ (taken : List Taken) (i : ℕ) (d : Taken) (within : i < length taken) where
  last_answered-more : last_answered 1 (take (i + 1) taken) ≡ (if (get_or taken i d).answered then i + 1 else last_answered 1 (take i taken))
  last_answered-more =
      let count : 1 + length (take i taken) ≡ i + 1 = omega (arith, length-take-le i taken (omega arith)) in
      ap (last_answered 1) (take_more taken i d within) ∙ last_answered-push 1 (take i taken) (get_or taken i d)
      ∙ ap (λ n. if (get_or taken i d).answered then n else last_answered 1 (take i taken)) count

  pub last_answered-more_here : (get_or taken i d).answered ≡ true → i + 1 ≡ last_answered 1 (take (i + 1) taken)
  last_answered-more_here here = sym (last_answered-more ∙ cond-true (get_or taken i d).answered (i + 1) (last_answered 1 (take i taken)) here)

  pub last_answered-more_past : (get_or taken i d).answered ≡ false → last_answered 1 (take i taken) ≡ last_answered 1 (take (i + 1) taken)
  last_answered-more_past past = sym (last_answered-more ∙ cond-false (get_or taken i d).answered (i + 1) (last_answered 1 (take i taken)) past)
