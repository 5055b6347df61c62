-- A receiver takes what its sender gives: lemmas for the crates above.
use Rattle.std.proofs.Common.{◌≡◌, inl, inr, ℕ, ◌+◌, ◌<◌, ◌≤◌, List, length, get_or, replicate, set, refl, sym, subst, ◌∙◌, ap, arith}
use Rattle.std.specs.Prelude.{◌==◌, ◌&&◌, Bool, None, Some, false, nat_le, nat_lt, not, true}
use Rattle.std.proofs.lemmas.Bool.{and_from, both_ways, cases_eq, cases_lt, cond-false, cond-true, eq-eqb, le-leb, le-ltb, lt-ltb, not_from_false}
use Rattle.std.proofs.lemmas.List.{get_or-set_other, get_or-set_same, length-replicate, length-set}
use Rattle.std.proofs.lemmas.List.Quantifiers.{position-Some}
use Rattle.std.proofs.lemmas.Option.{same_Some}
use Rattle.local_store.specs.Installer.{with_block}
use Rattle.volume.specs.Writes.{Placed}
use Rattle.rejoin_catchup.proofs.Copies.{due_again, due_first}
use Rattle.rejoin_catchup.proofs.Marks.{below_least, least-found}
use Rattle.rejoin_catchup.specs.Course.{course_behind}
use Rattle.rejoin_catchup.specs.InStep.{IsInStep}
use Rattle.rejoin_catchup.specs.Receiving.{with_piece}
use Rattle.rejoin_catchup.specs.Sending.{AreMarked, IsSending, Sending, due_of, gave, least_marked, piece_of}
use Rattle.rejoin_catchup.specs.declared.course.Course.{Course}
use Rattle.rejoin_catchup.specs.declared.piece.Piece.{Piece}
use Rattle.rejoin_catchup.specs.declared.piece.Piece.TheVariants.{First, Again, End}

-- from the start on: nothing was given, and nothing came
pub in_step_nothing : (n : ℕ) → IsInStep (record { given = 0; marks = replicate n false }) (record { blocks = n; next = 0; again = 0; over = false })
in_step_nothing n = record { blocks = sym (length-replicate {A = Bool} n false); next = refl; again = λ block marked. omega arith; goes_on = refl }

-- while writes become known, until a block came again
pub in_step_written : (w : Placed) (s new : Sending) (course : Course) → course.again ≡ 0 → AreMarked w s new → IsInStep s course → IsInStep new course
in_step_written w s new course none marks was = record {
  blocks = was.blocks ∙ sym marks.blocks;
  next = was.next ∙ sym marks.given;
  again = λ block marked. omega (arith, none);
  goes_on = was.goes_on;
}

-- what is known of the piece that comes, and of what is taken behind it
pub record IsTaken (s : Sending) (course : Course) (piece : Piece) : Type 0 where
  pub behind : Course
  pub taken : course_behind course piece ≡ Some behind
  pub in_step : IsInStep (gave s) behind
  pub again : s.given < length s.marks → behind.again ≡ course.again

module _ (s : Sending) (course : Course) (sending : IsSending s) (was : IsInStep s course) where
  -- the end didn't come
  on : not course.over ≡ true
  on = not_from_false course.over was.goes_on

  module _ (block : ℕ) (bytes : List ℕ) (due : due_of s ≡ Some block) where
    -- a block that is given for the first time
    taken_first : s.given < length s.marks → IsTaken s course (First block bytes)
    taken_first some =
        let here : s.given ≡ block = same_Some s.given block (sym (due_first s some) ∙ due) in
        let test : (not course.over && block == course.next && nat_lt block course.blocks) ≡ true = and_from _ _ (and_from _ _ on (eq-eqb block course.next (omega (arith, here, was.next)))) (lt-ltb block course.blocks (omega (arith, here, was.blocks))) in
        let next : gave s ≡ record s { given = s.given + 1 } = cond-true (nat_lt s.given (length s.marks)) (record s { given = s.given + 1 }) (record s { marks = set s.marks (least_marked s.marks) false }) (lt-ltb _ _ some) in
        record {
          behind = record course { next = block + 1 };
          taken = cond-true _ (Some (record course { next = block + 1 })) None test;
          in_step = subst (λ (now : Sending). IsInStep now (record course { next = block + 1 })) (sym next) (record { blocks = was.blocks; next = omega (arith, here); again = was.again; goes_on = was.goes_on });
          again = λ _. refl;
        }

    -- and one that is given again
    taken_again : length s.marks ≤ s.given → IsTaken s course (Again block bytes)
    taken_again all =
        let found = sym (due_again s all) ∙ due in
        let least = least-found s.marks block found in
        let (below, marked, _) = position-Some (λ (mark : Bool). mark) s.marks block false found in
        let given : course.next ≡ course.blocks = omega (arith, was.next, was.blocks, all, sending.within) in
        let test : (not course.over && course.next == course.blocks && nat_le course.again block && nat_lt block course.blocks) ≡ true =
        and_from _ _ (and_from _ _ (and_from _ _ on (eq-eqb course.next course.blocks given)) (le-leb course.again block (was.again block marked))) (lt-ltb block course.blocks (omega (arith, below, was.blocks))) in
        let next : gave s ≡ record s { marks = set s.marks (least_marked s.marks) false } = cond-false (nat_lt s.given (length s.marks)) (record s { given = s.given + 1 }) (record s { marks = set s.marks (least_marked s.marks) false }) (le-ltb _ _ all) in
        record {
          behind = record course { again = block + 1 };
          taken = cond-true _ (Some (record course { again = block + 1 })) None test;
          in_step = subst (λ (now : Sending). IsInStep now (record course { again = block + 1 })) (sym next) (record {
            blocks = was.blocks ∙ sym (length-set s.marks (least_marked s.marks) false);
            next = was.next;
            again = λ other is. above other is least below;
            goes_on = was.goes_on;
          });
          again = λ some. absurd (omega (arith, some, all));
        }
      where
        -- the marks that are left lie above
        above : (other : ℕ) → get_or (set s.marks (least_marked s.marks) false) other false ≡ true → least_marked s.marks ≡ block → block < length s.marks → block + 1 ≤ other
        above other is least below = elim (cases_eq other (least_marked s.marks)) [
          | inl same ↦ absurd (both_ways (get_or (set s.marks (least_marked s.marks) false) other false) (subst (λ (b : ℕ). get_or (set s.marks (least_marked s.marks) false) b false ≡ false) (sym same) (get_or-set_same s.marks (least_marked s.marks) false false (omega (arith, least, below)))) is)
          | inr differs ↦ elim (cases_lt other (least_marked s.marks)) [
            | inl lower ↦ absurd (both_ways (get_or (set s.marks (least_marked s.marks) false) other false) (get_or-set_other s.marks (least_marked s.marks) other false false differs ∙ below_least s.marks other lower) is)
            | inr upper ↦ omega (arith, upper, differs, least)
          ]
        ]

    -- the piece of the block that is due is taken, and so is the next one then
    pub in_step_given : IsTaken s course (piece_of s block bytes)
    in_step_given = elim (cases_lt s.given (length s.marks)) [
      | inl some ↦ subst (IsTaken s course) (sym (cond-true (nat_lt s.given (length s.marks)) (First block bytes) (Again block bytes) (lt-ltb _ _ some))) (taken_first some)
      | inr all ↦ subst (IsTaken s course) (sym (cond-false (nat_lt s.given (length s.marks)) (First block bytes) (Again block bytes) (le-ltb _ _ all))) (taken_again all)
    ]

  -- the end is taken once no block is due
  pub in_step_end : (front : ℕ) → due_of s ≡ None → course_behind course (End front) ≡ Some (record course { over = true })
  in_step_end front none = elim (cases_lt s.given (length s.marks)) [
    | inl some ↦ let due = due_first s some in absurd cc
    | inr all ↦
        let test : (not course.over && course.next == course.blocks) ≡ true = and_from _ _ on (eq-eqb course.next course.blocks (omega (arith, was.next, was.blocks, all, sending.within))) in
        cond-true _ (Some (record course { over = true })) None test
  ]

-- the copy with such a piece
pub with_piece-piece_of : (s : Sending) (copy : List ℕ) (block : ℕ) (bytes : List ℕ) → with_piece copy (piece_of s block bytes) ≡ with_block copy block bytes
with_piece-piece_of s copy block bytes = elim (cases_lt s.given (length s.marks)) [
  | inl some ↦ ap (with_piece copy) (cond-true (nat_lt s.given (length s.marks)) (First block bytes) (Again block bytes) (lt-ltb _ _ some))
  | inr all ↦ ap (with_piece copy) (cond-false (nat_lt s.given (length s.marks)) (First block bytes) (Again block bytes) (le-ltb _ _ all))
]
