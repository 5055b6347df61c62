-- Tokens that are answered one after another.
use Rattle.std.proofs.Common.{◌≡◌, ◌<◌, ◌∙◌, Bool, Some, None, List, [], ◌∷◌, ◌++◌, length, arith, ap, refl, subst, sym}
use Rattle.std.proofs.lemmas.List.{append_assoc, append-nil}
use Rattle.std.specs.Prelude.{Option, filter, find, map, not, option_map}
use Rattle.chain_steps.specs.Tokens.{without_first, first_and_others, none_passes, none_out, others_stay, one_fewer, all_stay}

module _ {A B : Type 0} (f : A → B) where
  -- what was made of something is made of what was found
  pub record IsMade (o : Option A) (y : B) : Type 0 where
    pub x : A
    pub found : o ≡ Some x
    pub made : y ≡ f x

  is_made : (o : Option A) (y : B) → Some y ≡ option_map f o → IsMade o y
  is_made None y is = absurd (cc)
  is_made (Some x) y is = record { x = x; found = refl; made = let same : y ≡ f x = cc is in same }

  is_none : (o : Option A) → None ≡ option_map f o → o ≡ None
  is_none None is = refl
  is_none (Some x) is = absurd (cc)

  module _ (passes : A → Bool) (xs rest : List A) (left : rest ≡ without_first passes xs) where
    -- the first of those that pass, and the others
    one_of_them : (y : B) → Some y ≡ option_map f (find passes xs) → map f (filter passes xs) ≡ y ∷ map f (filter passes rest)
    one_of_them y is =
        let one = is_made (find passes xs) y is in
        ap (map f) (first_and_others passes xs one.x one.found) ∙ ap (λ z. z ∷ map f (filter passes (without_first passes xs))) (sym one.made)
        ∙ ap (λ zs. y ∷ map f (filter passes zs)) (sym left)

    -- the first is answered
    pub one_answered : (y : B) → Some y ≡ option_map f (find passes xs) → (answered all : List B) → answered ++ map f (filter passes xs) ≡ all → (answered ++ y ∷ []) ++ map f (filter passes rest) ≡ all
    one_answered y is answered all so_far = append_assoc answered (y ∷ []) (map f (filter passes rest)) ∙ ap (λ zs. answered ++ zs) (sym (one_of_them y is)) ∙ so_far

    pub others_left : filter (λ x. not (passes x)) rest ≡ filter (λ x. not (passes x)) xs
    others_left = ap (filter (λ x. not (passes x))) left ∙ others_stay passes xs

    pub fewer : (y : B) → Some y ≡ option_map f (find passes xs) → length rest < length xs
    fewer y is = let one = is_made (find passes xs) y is in subst (λ ys. length ys < length xs) (sym left) (one_fewer passes xs one.x one.found)

    pub fewer_due : (y : B) → Some y ≡ option_map f (find passes xs) → length (filter passes rest) < length (filter passes xs)
    fewer_due y is =
        let one = is_made (find passes xs) y is in
        let many : length (filter passes xs) ≡ length (one.x ∷ filter passes rest) = ap length (first_and_others passes xs one.x one.found) ∙ ap (λ zs. length (one.x ∷ filter passes zs)) (sym left) in
        omega (arith, many)

    -- none is left
    pub all_answered : None ≡ option_map f (find passes xs) → (answered all : List B) → answered ++ map f (filter passes xs) ≡ all → answered ≡ all
    all_answered none answered all so_far = sym (append-nil answered) ∙ sym (ap (λ zs. answered ++ map f zs) (none_passes passes xs (is_none (find passes xs) none))) ∙ so_far

    pub all_left : None ≡ option_map f (find passes xs) → rest ≡ filter (λ x. not (passes x)) xs
    all_left none = let found = is_none (find passes xs) none in left ∙ none_out passes xs found ∙ sym (all_stay passes xs found)

    pub all_kept : None ≡ option_map f (find passes xs) → rest ≡ xs
    all_kept none = left ∙ none_out passes xs (is_none (find passes xs) none)
