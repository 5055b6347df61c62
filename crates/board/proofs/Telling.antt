-- What a seat is told, once its step has kept the rule.
use Rattle.std.proofs.Common.{◌≡◌, ◌≢◌, ℕ, zero, suc, ◌<◌, ◌≤◌, ◌⊎◌, List, [], ◌∷◌, length, max, set, get_or, sym, refl, ap, ◌∙◌, subst, inl, inr, ⊎_elim, arith}
use Rattle.std.proofs.lemmas.List.{get_or-set_same, get_or-set_other}
use mathlib.Core.Option.{some, some-injective, some-ne-none}
use mathlib.Core.Logic.{dite}
use native.Mathlib.Decide.{dec_le}
use lib.ListN.{get_elem?}
use Rattle.atomic_table.proofs.Lists.{set_here}
use Rattle.board.specs.declared.view.Opening.{Opening}
use Rattle.board.specs.declared.view.Step.{Step}
use Rattle.board.specs.declared.view.View.{View}
use Rattle.board.specs.Steps.{Counts, Finds, NeverBack, then, mask_then, words_after}
use Rattle.board.specs.Rule.{BoardRule}
use Rattle.board.specs.Told.{StepTold}
use Rattle.board.proofs.Growth.{at_within}
use Rattle.board.proofs.Keeping.{MaskTurn}

only_at : (view only : View) (k : ℕ) → get_elem? (only ∷ []) k ≡ some view → only ≡ view
only_at view only zero e = some-injective only view e
only_at view only (suc k) e = absurd (some-ne-none view (sym e))

-- with one seat, the words are what its view says
alone_is : (opening : Opening) (words : List ℕ) (views : List View) (id : ℕ) (view : View) → BoardRule opening words views → get_elem? views id ≡ some view
    → view.opening.seats ≡ 1 → words ≡ words_after view.opening.words view.steps
alone_is opening words views id view r seated one =
    let same : view.opening ≡ opening = r.opened id view seated in
    let was = r.alone (ap (λ (o : Opening). o.seats) (sym same) ∙ one) in
    let only : was.0 ≡ view = only_at view was.0 id (subst (λ (vs : List View). get_elem? vs id ≡ some view) was.1 seated) in
    was.2 ∙ ap (λ (v : View). words_after opening.words v.steps) only ∙ ap (λ (o : Opening). words_after o.words view.steps) (sym same)

-- what the seat is told, once the rule holds again
pub told : (opening : Opening) (words : List ℕ) (views : List View) (id : ℕ) (view : View) (last : Step) (i left : ℕ) → i < length words → get_elem? views id ≡ some view
    → BoardRule opening (set words i left) (set views id (then view last)) → StepTold i left last view (then view last)
told opening words views id view last i left inside seated r =
    let now : get_elem? (set views id (then view last)) id ≡ some (then view last) = set_here views id (then view last) (at_within views id view seated) in
    record {
      entry = refl;
      ruled = record {
        words = set words i left;
        views = set views id (then view last);
        seat = id;
        seated = now;
        rule = subst (λ (o : Opening). BoardRule o (set words i left) (set views id (then view last))) (sym (r.opened id (then view last) now)) r;
      };
      alone = λ one. sym (get_or-set_same words i left 0 inside)
          ∙ ap (λ (ws : List ℕ). get_or ws i 0) (alone_is opening (set words i left) (set views id (then view last)) id (then view last) r now one);
    }

-- what was found in a word that only rises isn't below what the seat found there or raised it to
pub never_back : (opening : Opening) (words : List ℕ) (views : List View) (id : ℕ) (view : View) (i : ℕ) → i ≢ 1 → get_elem? views id ≡ some view
    → BoardRule opening words views → NeverBack i view.steps (get_or words i 0)
never_back opening words views id view i not_mask seated r step m has how = ⊎_elim
    (λ asked. (r.rises i not_mask).raised step m record { seat = id; view = view; seated = seated; made = has } asked)
    (λ found. (r.rises i not_mask).within step m record { seat = id; view = view; seated = seated; made = has } found)
    how

-- a step on another word leaves the mask
pub unmoved : (id : ℕ) (last : Step) (words : List ℕ) (i next : ℕ) → i ≢ 1 → get_or words 1 0 < 256 → ((mask : ℕ) → mask_then mask last ≡ mask) → (Counts last → ⊥) → ((n : ℕ) → Finds 1 last n → ⊥)
    → MaskTurn id last (get_or words 1 0) (get_or (set words i next) 1 0)
unmoved id last words i next not_mask byte still no_count no_find =
    let same : get_or (set words i next) 1 0 ≡ get_or words 1 0 = get_or-set_other words i 1 next 0 (λ e. not_mask (sym e)) in
    record {
      is = same ∙ sym (still (get_or words 1 0));
      still = λ other mask. still mask;
      counts = λ c. absurd (no_count c);
      finds = λ n f. absurd (no_find n f);
      byte = subst (λ (m : ℕ). m < 256) (sym same) byte;
    }

-- the greater of two is one of them
pub greater : (a b : ℕ) → (max a b ≡ a) ⊎ (max a b ≡ b)
greater a b = dite (dec_le b a) (λ (h : b ≤ a). inl (omega arith)) (λ (h : ¬ (b ≤ a)). inr (omega arith))
