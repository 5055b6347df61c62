-- The steps on the mask keep the rule.
use Rattle.std.proofs.Common.{◌≡◌, ℕ, zero, suc, ◌-◌, ◌^◌, ◌<◌, ◌≤◌, List, [], ◌∷◌, true, set, get_or, bit_and, sym, refl, ap, ◌∙◌, subst, arith}
use Rattle.std.proofs.lemmas.List.{set-get_or, get_or-set_same, get_or-set_other}
use Rattle.std.proofs.Math.Nat.{pow-le-pow_right}
use Rattle.std.proofs.lemmas.Nat.{or_lt, and_le_l, pow_below}
use Rattle.std.specs.Int.RustNames.{bit_or}
use mathlib.Core.Logic.{dite}
use mathlib.Core.Option.{none, some, some-injective, some-ne-none}
use native.Mathlib.Decide.{dec_le}
use lib.ListN.{get_elem?}
use Rattle.atomic_table.specs.Table.{Me, Allows, step, keeps}
use Rattle.board.specs.Mask.{with_slot, without_slot}
use Rattle.board.specs.declared.evidence.TheConstants.Front.{GREATEST}
use Rattle.board.specs.declared.view.Opening.{Opening}
use Rattle.board.specs.declared.view.Step.TheVariants.{Crew, CountIn, CountOut}
use Rattle.board.specs.declared.view.View.{View}
use Rattle.board.specs.Steps.{mask_after, then}
use Rattle.board.specs.Rule.{BoardRule, Keeps, counting}
use Rattle.board.specs.Told.{MaskTold, crews, counts_in, counts_out}
use Rattle.board.proofs.Keeping.{board_step}
use Rattle.board.proofs.Telling.{told}

-- a load of the mask
crew_rule : (opening : Opening) (words : List ℕ) (views : List View) (id : ℕ) (view : View) → get_elem? views id ≡ some view → BoardRule opening words views
    → BoardRule opening (set words 1 (get_or words 1 0)) (set views id (then view (Crew (get_or words 1 0))))
crew_rule opening words views id view seated r =
    let mask = get_or words 1 0 in
    let ten = r.ten in
    let same : get_or (set words 1 mask) 1 0 ≡ mask = get_or-set_same words 1 mask 0 (omega arith) in
    board_step views id view (Crew mask) seated opening words 1 mask (omega arith)
    record { asks = λ w n a. absurd a; finds = λ w n f. f.0 }
    (λ not_mask. absurd (not_mask refl))
    record { is = same; still = λ other m. refl; counts = λ c. absurd c; finds = λ n f. f.1 ∙ sym same; byte = subst (λ (m : ℕ). m < 256) (sym same) r.mask.byte }
    (subst (λ (n : ℕ). n ≤ GREATEST) (sym (get_or-set_other words 1 0 mask 0 (λ e. omega arith))) r.within)
    (sym (set-get_or words 1 0))
    r

counting_first : (views : List View) (id : ℕ) (view : View) → id ≡ 0 → get_elem? views id ≡ some view → counting views ≡ view.steps
counting_first [] id view zeroth e = absurd (some-ne-none view (sym e))
counting_first (v ∷ vs) zero view zeroth e = ap (λ (w : View). w.steps) (some-injective v view e)
counting_first (v ∷ vs) (suc k) view zeroth e = absurd (omega arith)

-- the counting seat knows the mask
mask_known : (opening : Opening) (words : List ℕ) (views : List View) (id : ℕ) (view : View) → get_elem? views id ≡ some view → BoardRule opening words views → view.counts ≡ true
    → get_or words 1 0 ≡ mask_after (get_or view.opening.words 1 0) view.steps
mask_known opening words views id view seated r counts =
    r.mask.counted ∙ ap (mask_after (get_or opening.words 1 0)) (counting_first views id view (r.first_counts id view seated counts) seated)
    ∙ ap (λ (o : Opening). mask_after (get_or o.words 1 0) view.steps) (sym (r.opened id view seated))

pub crew_allowed : (opening : Opening) (slots id : ℕ) (me : Me (Unit {0}) View) → Allows (Keeps opening) slots id me 1 (λ n. n) (crews (step slots 1 0 0 none) me)
crew_allowed opening slots id me s r homes seated fits =
    let mask = get_or s.words 1 0 in
    let ten = r.ten in
    let kept = crew_rule opening s.words s.views id me.0 seated r in (
      then me.0 (Crew mask),
      keeps,
      tt,
      kept,
      (
        told opening s.words s.views id me.0 (Crew mask) 1 mask (omega arith) seated kept,
        r.mask.byte,
        refl,
        mask_known opening s.words s.views id me.0 seated r,
      ),
    )

bit_is_byte : (slot : ℕ) → slot < 8 → 2 ^ slot < 2 ^ 8
bit_is_byte slot inside = pow_below slot 8 inside

-- the counting seat counts a slot in
count_in_rule : (opening : Opening) (words : List ℕ) (views : List View) (id : ℕ) (view : View) (slot : ℕ) → slot < 8 → view.counts ≡ true → get_elem? views id ≡ some view → BoardRule opening words views
    → BoardRule opening (set words 1 (bit_or (get_or words 1 0) (2 ^ slot))) (set views id (then view (CountIn slot)))
unfolding with_slot
count_in_rule opening words views id view slot inside counts seated r =
    let mask = get_or words 1 0 in
    let next = bit_or mask (2 ^ slot) in
    let ten = r.ten in
    let zeroth : id ≡ 0 = r.first_counts id view seated counts in
    let same : get_or (set words 1 next) 1 0 ≡ next = get_or-set_same words 1 next 0 (omega arith) in
    board_step views id view (CountIn slot) seated opening words 1 next (omega arith)
    record { asks = λ w n a. absurd a; finds = λ w n f. absurd f }
    (λ not_mask. absurd (not_mask refl))
    record { is = same; still = λ other m. absurd (other zeroth); counts = λ c. zeroth; finds = λ n f. absurd f; byte = subst (λ (m : ℕ). m < 256) (sym same) (or_lt 8 mask (2 ^ slot) r.mask.byte (bit_is_byte slot inside)) }
    (subst (λ (n : ℕ). n ≤ GREATEST) (sym (get_or-set_other words 1 0 next 0 (λ e. omega arith))) r.within)
    refl
    r

-- the counting seat counts a slot out
count_out_rule : (opening : Opening) (words : List ℕ) (views : List View) (id : ℕ) (view : View) (slot : ℕ) → view.counts ≡ true → get_elem? views id ≡ some view → BoardRule opening words views
    → BoardRule opening (set words 1 (bit_and (get_or words 1 0) (255 - 2 ^ slot))) (set views id (then view (CountOut slot)))
unfolding without_slot
count_out_rule opening words views id view slot counts seated r =
    let mask = get_or words 1 0 in
    let next = bit_and mask (255 - 2 ^ slot) in
    let ten = r.ten in
    let byte = r.mask.byte in
    let less : next ≤ mask = and_le_l mask (255 - 2 ^ slot) in
    let zeroth : id ≡ 0 = r.first_counts id view seated counts in
    let same : get_or (set words 1 next) 1 0 ≡ next = get_or-set_same words 1 next 0 (omega arith) in
    board_step views id view (CountOut slot) seated opening words 1 next (omega arith)
    record { asks = λ w n a. absurd a; finds = λ w n f. absurd f }
    (λ not_mask. absurd (not_mask refl))
    record { is = same; still = λ other m. absurd (other zeroth); counts = λ c. zeroth; finds = λ n f. absurd f; byte = subst (λ (m : ℕ). m < 256) (sym same) (omega arith) }
    (subst (λ (n : ℕ). n ≤ GREATEST) (sym (get_or-set_other words 1 0 next 0 (λ e. omega arith))) r.within)
    refl
    r

-- a bit tells its slot
bit_of : (a b : ℕ) → 2 ^ a ≡ 2 ^ b → a ≡ b
bit_of a b e = dite (dec_le a b)
    (λ (h : a ≤ b). dite (dec_le b a) (λ (k : b ≤ a). omega arith) (λ (k : ¬ (b ≤ a)). let less = pow_below a b (omega arith) in absurd (omega arith)))
    (λ (h : ¬ (a ≤ b)). let less = pow_below b a (omega arith) in absurd (omega arith))

pub count_in_allowed : (opening : Opening) (slots id : ℕ) (me : Me (Unit {0}) View) (slot : ℕ) → slot < 8 → me.0.counts ≡ true
    → Allows (Keeps opening) slots id me 1 (λ n. bit_or n (2 ^ slot)) (counts_in (step slots 1 (2 ^ slot) 0 none) me)
count_in_allowed opening slots id me slot inside counts s r homes seated fits =
    let next = bit_or (get_or s.words 1 0) (2 ^ slot) in
    let ten = r.ten in
    let kept = count_in_rule opening s.words s.views id me.0 slot inside counts seated r in
    let it = told opening s.words s.views id me.0 (CountIn slot) 1 next (omega arith) seated kept in (
      then me.0 (CountIn slot),
      keeps,
      tt,
      kept,
      (λ other e. subst (λ (k : ℕ). MaskTold (CountIn k) me (then me.0 (CountIn slot), me.1)) (bit_of slot other e) (refl, it.ruled, refl)),
    )

-- so do all bits but one
all_but_of : (a b : ℕ) → a < 8 → 255 - 2 ^ a ≡ 255 - 2 ^ b → a ≡ b
all_but_of a b inside e =
    let low : 2 ^ a ≤ 2 ^ 7 = pow-le-pow_right (omega arith) {i = a} {j = 7} (omega arith) in
    bit_of a b (omega arith)

pub count_out_allowed : (opening : Opening) (slots id : ℕ) (me : Me (Unit {0}) View) (slot : ℕ) → slot < 8 → me.0.counts ≡ true
    → Allows (Keeps opening) slots id me 1 (λ n. bit_and n (255 - 2 ^ slot)) (counts_out (step slots 1 (255 - 2 ^ slot) 0 none) me)
count_out_allowed opening slots id me slot inside counts s r homes seated fits =
    let next = bit_and (get_or s.words 1 0) (255 - 2 ^ slot) in
    let ten = r.ten in
    let kept = count_out_rule opening s.words s.views id me.0 slot counts seated r in
    let it = told opening s.words s.views id me.0 (CountOut slot) 1 next (omega arith) seated kept in (
      then me.0 (CountOut slot),
      keeps,
      tt,
      kept,
      (λ other e. subst (λ (k : ℕ). MaskTold (CountOut k) me (then me.0 (CountOut slot), me.1)) (all_but_of slot other inside e) (refl, it.ruled, refl)),
    )
