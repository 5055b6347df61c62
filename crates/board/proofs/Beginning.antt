-- A board opens within its rule, and one seat more keeps it.
use Rattle.std.proofs.Common.{◌≡◌, ◌≢◌, ℕ, zero, suc, ◌<◌, ◌≤◌, ◌⊎◌, List, [], ◌∷◌, ◌++◌, true, false, length, get_or, sym, refl, ap, ◌∙◌, subst, inl, inr, ⊎_elim, arith}
use mathlib.Core.Option.{none, some, some-injective, some-ne-none}
use lib.ListN.{get_elem?}
use Rattle.atomic_table.proofs.Lists.{at_longer, at_snoc}
use Rattle.atomic_table.specs.Table.{Enters, step}
use Rattle.board.specs.declared.evidence.TheConstants.Front.{GREATEST}
use Rattle.board.specs.declared.view.Opening.{Opening}
use Rattle.board.specs.declared.view.Step.{Step}
use Rattle.board.specs.declared.view.View.{View}
use Rattle.board.specs.Steps.{Has, Ascends, mask_after}
use Rattle.board.specs.Rule.{BoardRule, Keeps, Stepped, IsReal, Rises, Masks, StartsWith, counting}
use Rattle.board.specs.Told.{fresh, first, sits}

never : false ≡ true → ⊥
never e = cc

no_step : (step : Step) → Has [] step → ⊥
no_step step h = some-ne-none step (sym h.is)

-- the first view has no step
only_first : (opening : Opening) (seat : ℕ) (view : View) → get_elem? (first opening ∷ []) seat ≡ some view → (seat ≡ 0) × (view ≡ first opening)
only_first opening zero view e = (refl, sym (some-injective (first opening) view e))
only_first opening (suc k) view e = absurd (some-ne-none view (sym e))

none_stepped : (opening : Opening) (step : Step) → Stepped (first opening ∷ []) step → ⊥
none_stepped opening step s = no_step step (subst (λ (v : View). Has v.steps step) (only_first opening s.seat s.view s.seated).1 s.made)

pub opens : (opening : Opening) → length opening.words ≡ 10 → get_or opening.words 0 0 ≤ GREATEST → get_or opening.words 1 0 < 256 → BoardRule opening opening.words (first opening ∷ [])
opens opening ten low byte = record {
  ten = ten;
  rises = λ word not_mask. record {
    opening = omega arith;
    raised = λ step n s. absurd (none_stepped opening step s);
    one_of_them = inl refl;
    real = λ step n s. absurd (none_stepped opening step s);
    within = λ step n s. absurd (none_stepped opening step s);
    ascends = λ seat view at. subst (λ (v : View). Ascends word v.steps) (sym (only_first opening seat view at).1) tt;
  };
  mask = record {
    counted = refl;
    real = λ step n s. absurd (none_stepped opening step s);
    one_counts = λ seat view step at has counts. (only_first opening seat view at).0;
    byte = byte;
  };
  within = low;
  opened = λ seat view at. ap (λ (v : View). v.opening) (only_first opening seat view at).1;
  first_counts = λ seat view at counts. (only_first opening seat view at).0;
  alone = λ one. (first opening, refl, refl);
}

module _ (opening : Opening) (views : List View) where
  abbrev newcomer : View
  newcomer = fresh opening false

  abbrev joined : List View
  joined = views ++ newcomer ∷ []

  -- who stands among the views with a newcomer
  old_or_new : (seat : ℕ) (view : View) → get_elem? joined seat ≡ some view → (get_elem? views seat ≡ some view) ⊎ (newcomer ≡ view)
  old_or_new seat view at = at_snoc views newcomer view seat at

  -- a newcomer has made no step
  stepped_before : (step : Step) → Stepped joined step → Stepped views step
  stepped_before step s = ⊎_elim
      (λ (old : get_elem? views s.seat ≡ some s.view). record { seat = s.seat; view = s.view; seated = old; made = s.made })
      (λ (new : newcomer ≡ s.view). absurd (no_step step (subst (λ (v : View). Has v.steps step) (sym new) s.made)))
      (old_or_new s.seat s.view s.seated)

  stepped_still : (step : Step) → Stepped views step → Stepped joined step
  stepped_still step s = record { seat = s.seat; view = s.view; seated = at_longer views (newcomer ∷ []) s.seat s.view s.seated; made = s.made }

  real_still : (word base n : ℕ) → IsReal word base views n → IsReal word base joined n
  real_still word base n (inl opened) = inl opened
  real_still word base n (inr raised) = inr (raised.0, stepped_still raised.0 raised.1, raised.2)

  counting_still : (vs : List View) → counting (vs ++ newcomer ∷ []) ≡ counting vs
  counting_still [] = refl
  counting_still (v ∷ vs) = refl

  rises_still : (word base now : ℕ) → Rises word base now views → Rises word base now joined
  rises_still word base now r = record {
    opening = r.opening;
    raised = λ step n s. r.raised step n (stepped_before step s);
    one_of_them = real_still word base now r.one_of_them;
    real = λ step n s found. real_still word base n (r.real step n (stepped_before step s) found);
    within = λ step n s. r.within step n (stepped_before step s);
    ascends = λ seat view at. ⊎_elim
        (λ (old : get_elem? views seat ≡ some view). r.ascends seat view old)
        (λ (new : newcomer ≡ view). subst (λ (v : View). Ascends word v.steps) new tt)
        (old_or_new seat view at);
  }

  masks_still : (base now : ℕ) → Masks base now views → Masks base now joined
  masks_still base now r = record {
    counted = r.counted ∙ ap (mask_after base) (sym (counting_still views));
    real = λ step n s found. let was = r.real step n (stepped_before step s) found in (was.0, subst (λ (steps : List Step). StartsWith steps was.0) (sym (counting_still views)) was.1, was.2);
    one_counts = λ seat view step at has counts. ⊎_elim
        (λ (old : get_elem? views seat ≡ some view). r.one_counts seat view step old has counts)
        (λ (new : newcomer ≡ view). absurd (no_step step (subst (λ (v : View). Has v.steps step) (sym new) has)))
        (old_or_new seat view at);
    byte = r.byte;
  }

  -- a newcomer keeps the rule, on a board of more than one seat
  joins : (words : List ℕ) → opening.seats ≢ 1 → BoardRule opening words views → BoardRule opening words joined
  joins words several r = record {
    ten = r.ten;
    rises = λ word not_mask. rises_still word (get_or opening.words word 0) (get_or words word 0) (r.rises word not_mask);
    mask = masks_still (get_or opening.words 1 0) (get_or words 1 0) r.mask;
    within = r.within;
    opened = λ seat view at. ⊎_elim
        (λ (old : get_elem? views seat ≡ some view). r.opened seat view old)
        (λ (new : newcomer ≡ view). ap (λ (v : View). v.opening) (sym new))
        (old_or_new seat view at);
    first_counts = λ seat view at counts. ⊎_elim
        (λ (old : get_elem? views seat ≡ some view). r.first_counts seat view old counts)
        (λ (new : newcomer ≡ view). absurd (never (ap (λ (v : View). v.counts) new ∙ counts)))
        (old_or_new seat view at);
    alone = λ one. absurd (several one);
  }

pub sits_allowed : (opening : Opening) (slots : ℕ) → opening.seats ≢ 1 → Enters (Keeps opening) slots 0 (λ n w. sits (step slots 0 0 0 none) (first opening, []) n (w, []))
sits_allowed opening slots several s r homes fits = (fresh opening false, joins opening s.views s.words several r, refl)
