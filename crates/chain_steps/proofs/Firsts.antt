-- The first of a list that passes a test.
use Rattle.std.proofs.Common.{◌≡◌, ℕ, zero, suc, ◌+◌, ◌<◌, Bool, true, false, List, [], ◌∷◌, Some, None, length, get_or, refl, ap, subst, ◌∙◌, inl, inr, sym, arith}
use Rattle.std.specs.Prelude.{All, find, position, remove}
use Rattle.std.specs.List.{position_from}
use Rattle.std.proofs.lemmas.Bool.{cases_Bool}
use Rattle.std.proofs.lemmas.Iterator.Adapters.{position_from-zero}
use Rattle.std.proofs.lemmas.List.Elements.{All-head, All-tail}
use Rattle.std.proofs.lemmas.List.Quantifiers.{position-Some}
use Rattle.chain_steps.specs.Tokens.{without_first}

module _ {A : Type 0} (passes : A → Bool) where
  -- the place of the first is where it is taken out
  first_at : (xs : List A) (i : ℕ) (d : A) → i < length xs → passes (get_or xs i d) ≡ true → ((k : ℕ) → k < i → passes (get_or xs k d) ≡ false)
      → (without_first passes xs ≡ remove xs i) × (find passes xs ≡ Some (get_or xs i d))
  first_at [] i d lt here before = absurd (omega arith)
  first_at (x ∷ xs) zero d lt here before = rw here (refl, refl)
  first_at (x ∷ xs) (suc i) d lt here before =
      let later = first_at xs i d (omega arith) here (λ k below. before (suc k) (omega arith)) in
      rw (before 0 (omega arith)) (ap (λ (ys : List A). x ∷ ys) later.0, later.1)

  none_from : (xs : List A) (i : ℕ) → position_from passes i xs ≡ None → (without_first passes xs ≡ xs) × (find passes xs ≡ None)
  none_from [] i none = (refl, refl)
  none_from (x ∷ xs) i none =
      elim (cases_Bool (passes x)) [
        | inl passing ↦ let found : Some i ≡ None = rw passing at none in absurd (cc)
        | inr failing ↦
            let later = none_from xs (i + 1) (rw failing at none) in
            rw failing (ap (λ (ys : List A). x ∷ ys) later.0, later.1)
      ]

-- the first that passes is taken out
pub first_found : {A : Type 0} (passes : A → Bool) (xs : List A) (i : ℕ) (d : A) → position passes xs ≡ Some i → (without_first passes xs ≡ remove xs i) × (find passes xs ≡ Some (get_or xs i d)) × (passes (get_or xs i d) ≡ true)
first_found passes xs i d at = let first = position-Some passes xs i d at in let taken = first_at passes xs i d first.0 first.1 first.2 in (taken.0, taken.1, first.1)

-- nothing passes
pub none_found : {A : Type 0} (passes : A → Bool) (xs : List A) → position passes xs ≡ None → find passes xs ≡ None
none_found passes xs none = (none_from passes xs 0 (sym (position_from-zero passes xs) ∙ none)).1

pub none_out : {A : Type 0} (passes : A → Bool) (xs : List A) → position passes xs ≡ None → without_first passes xs ≡ xs
none_out passes xs none = (none_from passes xs 0 (sym (position_from-zero passes xs) ∙ none)).0

-- what is taken out at the place of the first is the first
pub taken_out : {A : Type 0} (old within new : List A) (i : ℕ) (x : A) → old ≡ within → x ≡ get_or within i x → new ≡ remove within i
    → (passes : A → Bool) → position passes old ≡ Some i → (find passes old ≡ Some x) × (passes x ≡ true) × (new ≡ without_first passes old)
taken_out old within new i x same is left passes at =
    let first = first_found passes old i x at in
    let value : get_or old i x ≡ x = ap (λ xs. get_or xs i x) same ∙ sym is in
    (first.1 ∙ ap Some value, sym (ap passes value) ∙ first.2, left ∙ ap (λ xs. remove xs i) (sym same) ∙ sym first.0)

-- what is found has what all of them have
pub found_has : {A : Type 0} (P : A → Type 0) (passes : A → Bool) (xs : List A) (x : A) → All P xs → find passes xs ≡ Some x → P x
found_has P passes [] x all found = absurd (cc)
found_has P passes (y ∷ ys) x all found = elim (cases_Bool (passes y)) [
  | inl here ↦ let is : Some y ≡ Some x = rw here at found in let same : y ≡ x = cc is in subst P same (All-head P y ys all)
  | inr later ↦ found_has P passes ys x (All-tail P y ys all) (rw later at found)
]
