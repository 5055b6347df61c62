-- How what is carried goes on.
use Rattle.std.proofs.Common.{◌≡◌, ◌∙◌, ◌∷◌, ◌++◌, [], List, None, Some, Option, ap, arith, length, refl, sym}
use Rattle.std.specs.Prelude.{map, reverse}
use Rattle.std.proofs.lemmas.List.{length-append, reverse-append, reverse-reverse}
use Rattle.mail.specs.Given.{flat}
use Rattle.cluster.specs.Carried.{in_order, left_of}

module _ {A B : Type 0} (items : B → List A) where
  -- the next one of the same bundle comes up
  pub goes_on : (next : Option A) (x : A) (rest after : List A) (bundles : List B) → (next ≡ None → rest ≡ []) → rest ≡ after ++ x ∷ []
      → in_order (Some x) after items bundles ≡ left_of (in_order next rest items bundles)
  goes_on None x rest after bundles none same = absurd (omega (arith, ap length (none refl), ap length same, length-append after (x ∷ [])))
  goes_on (Some n) x rest after bundles none same = sym (ap (λ r. reverse r ++ flat items bundles) same ∙ ap (λ r. r ++ flat items bundles) (reverse-append after (x ∷ [])))

  -- nothing is left of the bundle
  pub goes_beyond : (next : Option A) (rest : List A) (bundles : List B) → (next ≡ None → bundles ≡ []) → rest ≡ [] → flat items bundles ≡ left_of (in_order next rest items bundles)
  goes_beyond None rest bundles none same = ap (flat items) (none refl) ∙ sym (ap (λ r. left_of (in_order None r items bundles)) same ∙ ap (λ b. left_of (in_order None [] items b)) (none refl))
  goes_beyond (Some n) rest bundles none same = sym (ap (λ r. reverse r ++ flat items bundles) same)

  -- that of the next bundle
  pub comes_up : (x : A) (bundle turned after : List A) (bundles : List B) → turned ≡ reverse bundle → turned ≡ after ++ x ∷ [] → in_order (Some x) after items bundles ≡ bundle ++ flat items bundles
  comes_up x bundle turned after bundles same ends =
      ap (λ r. r ++ flat items bundles) (sym (reverse-append after (x ∷ [])) ∙ ap reverse (sym ends ∙ same) ∙ reverse-reverse bundle)

-- the bundles that were sent, one behind another
pub flat_map : {A B : Type 0} (items : B → List A) (bundles : List B) → flat items bundles ≡ flat (λ bundle. bundle) (map items bundles)
flat_map items [] = refl
flat_map items (bundle ∷ bundles) = ap (λ more. items bundle ++ more) (flat_map items bundles)
