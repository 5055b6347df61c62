-- What a course takes, and the blocks that came by it.
use Rattle.std.proofs.Common.{◌≡◌, ◌⊎◌, inl, inr, ℕ, ◌+◌, ◌<◌, List, length, set, refl, sym, subst, ◌∙◌, ap, arith}
use Rattle.std.specs.Prelude.{◌==◌, ◌&&◌, All, Bool, IsTrue, None, Some, cond, false, nat_le, nat_lt, not, true}
use Rattle.std.proofs.lemmas.Bool.{and_parts, cases_eq, eqb-true, ltb-true}
use Rattle.std.proofs.lemmas.List.{get_or-set_other, get_or-set_same, get_or_default}
use Rattle.std.proofs.lemmas.Option.{same_Some}
use Rattle.local_store.specs.Installer.{IsGiven}
use Rattle.rejoin_catchup.specs.Course.{course_behind}
use Rattle.rejoin_catchup.specs.declared.course.Course.{Course}
use Rattle.rejoin_catchup.specs.declared.piece.Piece.{Piece}
use Rattle.rejoin_catchup.specs.declared.piece.Piece.TheVariants.{First, Again, End}

-- a choice that gave something passed its test
test_passed : (test : Bool) (one other : Course) → cond test (Some one) None ≡ Some other → (test ≡ true) × (one ≡ other)
test_passed true one other is = (refl, same_Some one other is)
test_passed false one other is = absurd cc

-- the blocks so far were given
abbrev pub HaveCome : Course → List Bool → Type 0
HaveCome course given = (block : ℕ) → block < course.next → IsGiven given block

-- one more is
still_given : (given : List Bool) (block other : ℕ) → block < length given → (other ≡ block) ⊎ IsGiven given other → IsGiven (set given block true) other
still_given given block other below (inl same) = subst (λ (b : ℕ). IsGiven (set given block true) b) (sym same) (get_or-set_same given block true false below)
still_given given block other below (inr was) = elim (cases_eq other block) [
  | inl same ↦ subst (λ (b : ℕ). IsGiven (set given block true) b) (sym same) (get_or-set_same given block true false below)
  | inr differs ↦ get_or-set_other given block other true false differs ∙ was
]

module _ (course behind : Course) where
  -- at the end each block came
  pub end_behind : (front : ℕ) → course_behind course (End front) ≡ Some behind → course.next ≡ course.blocks
  end_behind front is =
      let (passed, _) = test_passed (not course.over && course.next == course.blocks) (record course { over = true }) behind is in
      eqb-true course.next course.blocks (and_parts (not course.over) (course.next == course.blocks) passed).1

  -- a block that is taken is one of the volume, the number of which stays, and it came
  abbrev Comes : ℕ → List Bool → Course → Type 0
  Comes block given after = (after.blocks ≡ course.blocks) × (block < course.blocks) × HaveCome after (set given block true)

  module _ (block : ℕ) (bytes : List ℕ) (given : List Bool) (long : length given ≡ course.blocks) (came : HaveCome course given) where
    first_behind : course_behind course (First block bytes) ≡ Some behind → Comes block given behind
    first_behind is =
        let (passed, after) = test_passed (not course.over && block == course.next && nat_lt block course.blocks) (record course { next = block + 1 }) behind is in
        let (before, within) = and_parts (not course.over && block == course.next) (nat_lt block course.blocks) passed in
        let below = ltb-true block course.blocks within in
        let here = eqb-true block course.next (and_parts (not course.over) (block == course.next) before).1 in
        subst (Comes block given) after (
          refl,
          below,
          λ other lt. still_given given block other (omega (arith, long, below)) (elim (cases_eq other block) [
            | inl same ↦ inl same
            | inr differs ↦ inr (came other (omega (arith, here, lt, differs)))
          ]),
        )

    again_behind : course_behind course (Again block bytes) ≡ Some behind → Comes block given behind
    again_behind is =
        let (passed, after) = test_passed (not course.over && course.next == course.blocks && nat_le course.again block && nat_lt block course.blocks) (record course { again = block + 1 }) behind is in
        let (before, within) = and_parts (not course.over && course.next == course.blocks && nat_le course.again block) (nat_lt block course.blocks) passed in
        let below = ltb-true block course.blocks within in
        subst (Comes block given) after (refl, below, λ other lt. still_given given block other (omega (arith, long, below)) (inr (came other lt)))

    pub block_behind : (piece : Piece) → (piece ≡ First block bytes) ⊎ (piece ≡ Again block bytes) → course_behind course piece ≡ Some behind → Comes block given behind
    block_behind piece (inl first) is = first_behind (sym (ap (course_behind course) first) ∙ is)
    block_behind piece (inr again) is = again_behind (sym (ap (course_behind course) again) ∙ is)

-- where each block came, each was given
pub all_came : (course : Course) (given : List Bool) → course.next ≡ course.blocks → length given ≡ course.blocks → HaveCome course given → All IsTrue given
all_came course given all long came = λ k d lt. get_or_default given k d false lt ∙ came k (omega (arith, all, long, lt))
