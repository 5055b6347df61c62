-- Which record may come next: whom it leaves out.
use Rattle.std.proofs.Common.{◌≡◌, false, true, ℕ, zero, suc, ◌+◌, ◌<◌, List, [], ◌∷◌, ◌++◌, length, take, drop, refl, ap, sym, subst, ◌∙◌, arith}
use Rattle.std.specs.Prelude.{Option, None, Some, is_some, slice_get}
use Rattle.std.proofs.Math.Seq.{take-append_seam}
use Rattle.configurations.specs.Record.{Record}
use Rattle.configurations.specs.declared.member.Member as recorded
use Rattle.chain.specs.Chain.{Chained}
use Rattle.chain.specs.Recording.{HasStoppedThere, IsWithoutOne}

-- ---- whether there is one

pub is_none : {A : Type 0} (o : Option A) → is_some o ≡ false → o ≡ None
is_none None is = refl
is_none (Some x) is = let clash : true ≡ false = is in absurd cc

pub not_none : {A : Type 0} (o : Option A) → is_some o ≡ true → o ≡ None → ⊥
not_none o is none = let clash : true ≡ false = sym is ∙ ap is_some none in absurd cc

-- ---- the one that is left out

next_is : (k : ℕ) → k + 1 ≡ suc k
next_is k = omega arith

-- a list is what stands before a place, what stands there, and what stands behind it
split : {A : Type 0} (xs : List A) (k : ℕ) (x : A) → slice_get xs k ≡ Some x → xs ≡ take k xs ++ x ∷ drop (suc k) xs
split [] k x here = let none : None ≡ Some x = here in absurd (cc)
split (y ∷ ys) zero x here = let same : Some y ≡ Some x = here in let is : y ≡ x = cc same in ap (λ z. z ∷ ys) is
split (y ∷ ys) (suc k) x here = ap (λ l. y ∷ l) (split ys k x here)

there : {A : Type 0} (xs : List A) (x : A) (ys : List A) → slice_get (xs ++ x ∷ ys) (length xs) ≡ Some x
there [] x ys = refl
there (a ∷ xs) x ys = there xs x ys

behind : {A : Type 0} (xs : List A) (x : A) (ys : List A) → drop (suc (length xs)) (xs ++ x ∷ ys) ≡ ys
behind [] x ys = refl
behind (a ∷ xs) x ys = behind xs x ys

within : {A : Type 0} (xs : List A) (x : A) (ys : List A) → length xs < length (xs ++ x ∷ ys)
within [] x ys = omega arith
within (a ∷ xs) x ys = let rest = within xs x ys in omega (arith, rest)

module _ {S : Type 0} (c : Chained S) (next : Record) (all : List recorded.Member) (same : all ≡ c.recorded.members) where
  -- it leaves out the one at this place
  pub leaves_out : (at : ℕ) (m : recorded.Member) → slice_get all at ≡ Some m → next.members ≡ take at all ++ drop (at + 1) all → HasStoppedThere m.slot c.members → IsWithoutOne c next
  leaves_out at m here are stopped = record {
    before = take at all;
    removed = m;
    behind = drop (at + 1) all;
    were = sym same ∙ split all at m here ∙ ap (λ n. take at all ++ m ∷ drop n all) (sym (next_is at));
    are = are;
    stopped = stopped;
  }

  -- if it leaves none of them out, it leaves out none
  pub leaves_none : ((k : ℕ) (m : recorded.Member) → k < length all → slice_get all k ≡ Some m → next.members ≡ take k all ++ drop (k + 1) all → HasStoppedThere m.slot c.members → ⊥) → IsWithoutOne c next → ⊥
  leaves_none none is =
      let whole : is.before ++ is.removed ∷ is.behind ≡ all = sym is.were ∙ sym same in
      let k = length is.before in
      let parts : take k (is.before ++ is.removed ∷ is.behind) ++ drop (k + 1) (is.before ++ is.removed ∷ is.behind) ≡ is.before ++ is.behind =
      ap (λ l. l ++ drop (k + 1) (is.before ++ is.removed ∷ is.behind)) (take-append_seam is.before (is.removed ∷ is.behind))
      ∙ ap (λ n. is.before ++ drop n (is.before ++ is.removed ∷ is.behind)) (next_is k)
      ∙ ap (λ l. is.before ++ l) (behind is.before is.removed is.behind) in
      none k is.removed
      (subst (λ l. k < length l) whole (within is.before is.removed is.behind))
      (subst (λ l. slice_get l k ≡ Some is.removed) whole (there is.before is.removed is.behind))
      (subst (λ l. next.members ≡ take k l ++ drop (k + 1) l) whole (is.are ∙ sym parts))
      is.stopped
