-- The steps on the committed front keep the rule.
use Rattle.std.proofs.Common.{◌≡◌, ℕ, List, ◌≤◌, max, set, get_or, sym, refl, subst, inl, inr, ⊎_elim, arith}
use Rattle.std.proofs.lemmas.List.{set-get_or, get_or-set_same}
use mathlib.Core.Option.{none, some}
use lib.ListN.{get_elem?}
use Rattle.atomic_table.specs.Table.{Me, Allows, step, keeps}
use Rattle.board.specs.declared.evidence.TheConstants.Front.{GREATEST}
use Rattle.board.specs.declared.view.Opening.{Opening}
use Rattle.board.specs.declared.view.Step.TheVariants.{Raise, Look}
use Rattle.board.specs.declared.view.View.{View}
use Rattle.board.specs.Steps.{then}
use Rattle.board.specs.Rule.{BoardRule, Keeps}
use Rattle.board.specs.Told.{looks, raises}
use Rattle.board.proofs.Keeping.{board_step}
use Rattle.board.proofs.Telling.{told, never_back, unmoved, greater}

-- a load of the front
look_rule : (opening : Opening) (words : List ℕ) (views : List View) (id : ℕ) (view : View) → get_elem? views id ≡ some view → BoardRule opening words views
    → BoardRule opening (set words 0 (get_or words 0 0)) (set views id (then view (Look (get_or words 0 0))))
look_rule opening words views id view seated r =
    let front = get_or words 0 0 in
    let ten = r.ten in
    board_step views id view (Look front) seated opening words 0 front (omega arith)
    record { asks = λ word n a. absurd a; finds = λ word n f. f.0 }
    (λ not_mask. record { up = omega arith; asks = λ n a. absurd a; whence = inl refl; finds = λ n f. f.1 })
    (unmoved id (Look front) words 0 front (λ e. omega arith) r.mask.byte (λ mask. refl) (λ c. c) (λ n f. let no = f.0 in omega arith))
    (subst (λ (n : ℕ). n ≤ GREATEST) (sym (get_or-set_same words 0 front 0 (omega arith))) r.within)
    (sym (set-get_or words 0 0))
    r

pub look_allowed : (opening : Opening) (slots id : ℕ) (me : Me (Unit {0}) View) → Allows (Keeps opening) slots id me 0 (λ n. n) (looks (step slots 0 0 0 none) me)
look_allowed opening slots id me s r homes seated fits =
    let front = get_or s.words 0 0 in
    let ten = r.ten in
    let kept = look_rule opening s.words s.views id me.0 seated r in (
      then me.0 (Look front),
      keeps,
      tt,
      kept,
      (
        told opening s.words s.views id me.0 (Look front) 0 front (omega arith) seated kept,
        never_back opening s.words s.views id me.0 0 (λ e. omega arith) seated r,
        r.within,
        refl,
      ),
    )

-- the front raised to n
raise_rule : (opening : Opening) (words : List ℕ) (views : List View) (id : ℕ) (view : View) (n : ℕ) → n ≤ GREATEST → get_elem? views id ≡ some view → BoardRule opening words views
    → BoardRule opening (set words 0 (max (get_or words 0 0) n)) (set views id (then view (Raise n (max (get_or words 0 0) n))))
raise_rule opening words views id view n low seated r =
    let front = get_or words 0 0 in
    let left = max front n in
    let ten = r.ten in
    let within = r.within in
    board_step views id view (Raise n left) seated opening words 0 left (omega arith)
    record { asks = λ word m a. a.0; finds = λ word m f. f.0 }
    (λ not_mask. record { up = omega arith; asks = λ m a. let is : m ≡ n = a.1 in omega arith; whence = ⊎_elim (λ (was : left ≡ front). inl was) (λ (new : left ≡ n). inr (refl, new)) (greater front n); finds = λ m f. f.1 })
    (unmoved id (Raise n left) words 0 left (λ e. omega arith) r.mask.byte (λ mask. refl) (λ c. c) (λ m f. let no = f.0 in omega arith))
    (subst (λ (m : ℕ). m ≤ GREATEST) (sym (get_or-set_same words 0 left 0 (omega arith))) (omega arith))
    refl
    r

pub raise_allowed : (opening : Opening) (slots id : ℕ) (me : Me (Unit {0}) View) (n : ℕ) → n ≤ GREATEST
    → Allows (Keeps opening) slots id me 0 (λ m. max m n) (raises (step slots 0 n 0 none) me)
raise_allowed opening slots id me n low s r homes seated fits =
    let left = max (get_or s.words 0 0) n in
    let ten = r.ten in
    let kept = raise_rule opening s.words s.views id me.0 n low seated r in (
      then me.0 (Raise n left),
      keeps,
      tt,
      kept,
      (
        told opening s.words s.views id me.0 (Raise n left) 0 left (omega arith) seated kept,
        never_back opening s.words s.views id me.0 0 (λ e. omega arith) seated r,
        r.within,
        refl,
      ),
    )
