-- The copy that the pieces of a sender make.
use Rattle.std.proofs.Common.{◌≡◌, ◌≢◌, inl, inr, ℕ, ◌+◌, ◌-◌, ◌*◌, ◌<◌, ◌≤◌, List, length, get_or, take, drop, set, sym, subst, ◌∙◌, ap, arith}
use Rattle.std.specs.Prelude.{Bool, Some, None, IsSome, nat_lt, position, false}
use Rattle.std.proofs.lemmas.Bool.{both_ways, cases_eq, cases_lt, cond-false, cond-true, false_from_ne_true, false≢true, le-ltb, lt-ltb}
use Rattle.std.proofs.lemmas.List.{get_or-set_other, take_all}
use Rattle.std.proofs.lemmas.List.Quantifiers.{position-Some}
use Rattle.std.proofs.lemmas.Option.{same_Some}
use Rattle.local_store.specs.Installer.{with_block}
use Rattle.volume.specs.Volumes.{block_of-patched_untouched, block_of-patched_whole, length-block_of, length-patched, same_from_blocks}
use Rattle.volume.specs.Writes.{Fits, IsTouched, Placed, block_of, patched}
use Rattle.rejoin_catchup.proofs.Marks.{below_least, least-found, least-not_found}
use Rattle.rejoin_catchup.specs.Sending.{AreMarked, IsCopy, IsCurrent, IsSending, Sending, due_of, least_marked}

-- a write that became known
pub copy_written : (s new : Sending) (w : Placed) (volume copy : List ℕ) → Fits (length volume) w → AreMarked w s new → IsCopy s volume copy → IsCopy new (patched volume w) copy
copy_written s new w volume copy fits marks was = record {
  as_long = was.as_long ∙ sym (length-patched volume w fits);
  blocks = λ block (below, unmarked).
      let given : block < s.given = omega (arith, below, marks.given) in
      let apart : ¬ IsTouched w block = λ touched. both_ways (get_or new.marks block false) unmarked ((marks.marked block).1 (inr (given, touched))) in
      let still : get_or s.marks block false ≡ false = false_from_ne_true _ (λ is. both_ways (get_or new.marks block false) unmarked ((marks.marked block).1 (inl is))) in
      was.blocks block (given, still) ∙ sym (block_of-patched_untouched volume w block fits apart);
}

-- a block that was put into the copy, and the others
own_block : (copy bytes : List ℕ) (block : ℕ) → length bytes ≡ 4096 → 4096 * block + 4096 ≤ length copy → block_of (with_block copy block bytes) block ≡ bytes
own_block copy bytes block whole fits =
    let w : Placed = record { offset = 4096 * block; bytes = bytes } in
    let none : 4096 * block - 4096 * block ≡ 0 = omega arith in
    block_of-patched_whole copy w block (omega arith) (omega arith) (omega arith) ∙ ap (λ (n : ℕ). take 4096 (drop n bytes)) none ∙ take_all 4096 bytes (omega arith)

other_block : (copy bytes : List ℕ) (block other : ℕ) → length bytes ≡ 4096 → 4096 * block + 4096 ≤ length copy → other ≢ block → block_of (with_block copy block bytes) other ≡ block_of copy other
other_block copy bytes block other whole fits differs =
    let w : Placed = record { offset = 4096 * block; bytes = bytes } in
    block_of-patched_untouched copy w other (omega arith) (λ touched. differs (omega (arith, touched.0, touched.1)))

-- a block that is given as it is in the volume
copy_block : (s new : Sending) (volume copy bytes : List ℕ) (n block : ℕ) → length volume ≡ 4096 * n → block < n → bytes ≡ block_of volume block
    → ((other : ℕ) → other ≢ block → IsCurrent new other → IsCurrent s other) → IsCopy s volume copy → IsCopy new volume (with_block copy block bytes)
copy_block s new volume copy bytes n block long below is others was =
    let whole : length bytes ≡ 4096 = ap length is ∙ length-block_of volume block (omega arith) in
    let room : 4096 * block + 4096 ≤ length copy = omega (arith, was.as_long) in
    record {
      as_long = length-patched copy (record { offset = 4096 * block; bytes = bytes }) (omega arith) ∙ was.as_long;
      blocks = λ other current. elim (cases_eq other block) [
        | inl same ↦ subst (λ (b : ℕ). block_of (with_block copy block bytes) b ≡ block_of volume b) (sym same) (own_block copy bytes block whole room ∙ is)
        | inr differs ↦ other_block copy bytes block other whole room differs ∙ was.blocks other (others other differs current)
      ];
    }

-- which block is due
pub due_first : (s : Sending) → s.given < length s.marks → due_of s ≡ Some s.given
due_first s lt = cond-true (nat_lt s.given (length s.marks)) (Some s.given) (position (λ marked. marked) s.marks) (lt-ltb _ _ lt)

pub due_again : (s : Sending) → length s.marks ≤ s.given → due_of s ≡ position (λ marked. marked) s.marks
due_again s le = cond-false (nat_lt s.given (length s.marks)) (Some s.given) (position (λ marked. marked) s.marks) (le-ltb _ _ le)

-- and the copy with the bytes of that block
module _ (s : Sending) (is : IsSending s) (volume copy bytes : List ℕ) (block : ℕ) (due : due_of s ≡ Some block) (long : length volume ≡ 4096 * length s.marks) (of : bytes ≡ block_of volume block) (was : IsCopy s volume copy) where
  -- where one wasn't given yet
  pub copied_first : s.given < length s.marks → IsCopy (record s { given = s.given + 1 }) volume (with_block copy block bytes)
  copied_first some =
      let here : s.given ≡ block = same_Some s.given block (sym (due_first s some) ∙ due) in
      copy_block s (record s { given = s.given + 1 }) volume copy bytes (length s.marks) block long (omega arith) of (λ other differs (below, unmarked). (omega (arith, here, below, differs), unmarked)) was

  -- where each was
  pub copied_again : length s.marks ≤ s.given → IsCopy (record s { marks = set s.marks (least_marked s.marks) false }) volume (with_block copy block bytes)
  copied_again all =
      let here = least-found s.marks block (sym (due_again s all) ∙ due) in
      let some = (position-Some (λ (marked : Bool). marked) s.marks block false (sym (due_again s all) ∙ due)).0 in
      copy_block s (record s { marks = set s.marks (least_marked s.marks) false }) volume copy bytes (length s.marks) block long some of
      (λ other differs (below, unmarked). (below, sym (get_or-set_other s.marks (least_marked s.marks) other false false (λ same. differs (same ∙ here))) ∙ unmarked)) was

-- where one is due, and each was given, some block is marked
pub least_there : (s : Sending) → IsSome (due_of s) → length s.marks ≤ s.given → least_marked s.marks < length s.marks
least_there s some all = elim (cases_lt (least_marked s.marks) (length s.marks)) [
  | inl lt ↦ lt
  | inr past ↦ let none = due_again s all ∙ cond-false (nat_lt (least_marked s.marks) (length s.marks)) (Some (least_marked s.marks)) None (le-ltb _ _ past) in absurd (false≢true (subst IsSome none some))
]

-- once none is, each block of the copy is the volume's
pub copy_whole : (s : Sending) (volume copy : List ℕ) → IsSending s → due_of s ≡ None → length volume ≡ 4096 * length s.marks → IsCopy s volume copy → copy ≡ volume
copy_whole s volume copy is none long was = elim (cases_lt s.given (length s.marks)) [
  | inl some ↦ let due = due_first s some in absurd cc
  | inr all ↦
      let least = least-not_found s.marks (sym (due_again s all) ∙ none) in
      same_from_blocks (length s.marks) copy volume (was.as_long ∙ long) long (λ block below. was.blocks block (omega arith, below_least s.marks block (omega (arith, least))))
]
