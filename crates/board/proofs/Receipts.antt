-- The steps on the gauge of a slot keep the rule.
use Rattle.std.proofs.Common.{◌≡◌, ℕ, ◌+◌, ◌<◌, ◌≤◌, List, max, set, get_or, sym, refl, subst, inl, inr, ⊎_elim, arith}
use Rattle.std.proofs.lemmas.List.{set-get_or, get_or-set_other}
use mathlib.Core.Option.{none, some}
use lib.ListN.{get_elem?}
use Rattle.atomic_table.specs.Table.{Me, Allows, step, keeps}
use Rattle.board.specs.declared.evidence.TheConstants.Front.{GREATEST}
use Rattle.board.specs.declared.view.Opening.{Opening}
use Rattle.board.specs.declared.view.Step.TheVariants.{Post, Gauge}
use Rattle.board.specs.declared.view.View.{View}
use Rattle.board.specs.Steps.{then}
use Rattle.board.specs.Rule.{BoardRule, Keeps}
use Rattle.board.specs.Told.{GaugeTold, gauges, posts}
use Rattle.board.proofs.Keeping.{board_step}
use Rattle.board.proofs.Telling.{told, never_back, unmoved, greater}

-- a load of a gauge
gauge_rule : (opening : Opening) (words : List ℕ) (views : List View) (id : ℕ) (view : View) (slot : ℕ) → slot < 8 → get_elem? views id ≡ some view → BoardRule opening words views
    → BoardRule opening (set words (slot + 2) (get_or words (slot + 2) 0)) (set views id (then view (Gauge slot (get_or words (slot + 2) 0))))
gauge_rule opening words views id view slot inside seated r =
    let word = slot + 2 in
    let gauge = get_or words (slot + 2) 0 in
    board_step views id view (Gauge slot gauge) seated opening words word gauge (omega arith)
    record { asks = λ w n a. absurd a; finds = λ w n f. f.0 }
    (λ not_mask. record { up = omega arith; asks = λ n a. absurd a; whence = inl refl; finds = λ n f. f.1 })
    (unmoved id (Gauge slot gauge) words word gauge (λ e. omega arith) r.mask.byte (λ mask. refl) (λ c. c) (λ n f. let no = f.0 in omega arith))
    (subst (λ (n : ℕ). n ≤ GREATEST) (sym (get_or-set_other words word 0 gauge 0 (λ e. omega arith))) r.within)
    (sym (set-get_or words word 0))
    r

pub gauge_allowed : (opening : Opening) (slots id : ℕ) (me : Me (Unit {0}) View) (slot : ℕ) → slot < 8
    → Allows (Keeps opening) slots id me (slot + 2) (λ n. n) (gauges (step slots (slot + 2) 0 0 none) me)
gauge_allowed opening slots id me slot inside s r homes seated fits =
    let gauge = get_or s.words (slot + 2) 0 in
    let ten = r.ten in
    let kept = gauge_rule opening s.words s.views id me.0 slot inside seated r in
    let it : GaugeTold slot gauge gauge (Gauge slot gauge) me (then me.0 (Gauge slot gauge), me.1) = (
      told opening s.words s.views id me.0 (Gauge slot gauge) (slot + 2) gauge (omega arith) seated kept,
      never_back opening s.words s.views id me.0 (slot + 2) (λ e. omega arith) seated r,
      refl,
    ) in (
      then me.0 (Gauge slot gauge),
      keeps,
      tt,
      kept,
      (λ other e. let same : slot ≡ other = omega arith in
          subst (λ (k : ℕ). GaugeTold k gauge gauge (Gauge k gauge) me (then me.0 (Gauge slot gauge), me.1)) same it),
    )

-- a gauge raised to n
post_rule : (opening : Opening) (words : List ℕ) (views : List View) (id : ℕ) (view : View) (slot n : ℕ) → slot < 8 → get_elem? views id ≡ some view → BoardRule opening words views
    → BoardRule opening (set words (slot + 2) (max (get_or words (slot + 2) 0) n)) (set views id (then view (Post slot n (max (get_or words (slot + 2) 0) n))))
post_rule opening words views id view slot n inside seated r =
    let word = slot + 2 in
    let gauge = get_or words (slot + 2) 0 in
    let left = max gauge n in
    board_step views id view (Post slot n left) seated opening words word left (omega arith)
    record { asks = λ w m a. a.0; finds = λ w m f. f.0 }
    (λ not_mask. record { up = omega arith; asks = λ m a. let is : m ≡ n = a.1 in omega arith; whence = ⊎_elim (λ (was : left ≡ gauge). inl was) (λ (new : left ≡ n). inr (refl, new)) (greater gauge n); finds = λ m f. f.1 })
    (unmoved id (Post slot n left) words word left (λ e. omega arith) r.mask.byte (λ mask. refl) (λ c. c) (λ m f. let no = f.0 in omega arith))
    (subst (λ (m : ℕ). m ≤ GREATEST) (sym (get_or-set_other words word 0 left 0 (λ e. omega arith))) r.within)
    refl
    r

pub post_allowed : (opening : Opening) (slots id : ℕ) (me : Me (Unit {0}) View) (slot n : ℕ) → slot < 8
    → Allows (Keeps opening) slots id me (slot + 2) (λ m. max m n) (posts (step slots (slot + 2) n 0 none) me)
post_allowed opening slots id me slot n inside s r homes seated fits =
    let gauge = get_or s.words (slot + 2) 0 in
    let left = max (get_or s.words (slot + 2) 0) n in
    let ten = r.ten in
    let kept = post_rule opening s.words s.views id me.0 slot n inside seated r in
    let it : GaugeTold slot gauge left (Post slot n left) me (then me.0 (Post slot n left), me.1) = (
      told opening s.words s.views id me.0 (Post slot n left) (slot + 2) left (omega arith) seated kept,
      never_back opening s.words s.views id me.0 (slot + 2) (λ e. omega arith) seated r,
      refl,
    ) in (
      then me.0 (Post slot n left),
      keeps,
      tt,
      kept,
      (λ other e. let same : slot ≡ other = omega arith in
          subst (λ (k : ℕ). GaugeTold k gauge left (Post k n left) me (then me.0 (Post slot n left), me.1)) same it),
    )
