-- The least block that is marked.
use Rattle.std.proofs.Common.{◌≡◌, inl, inr, ℕ, ◌+◌, ◌-◌, ◌<◌, ◌≤◌, min, List, length, get_or, take, drop, replicate, set, sym, subst, ◌∙◌, ap, arith}
use Rattle.std.specs.Prelude.{Bool, Some, None, not, nat_lt, position, true, false}
use Rattle.std.proofs.lemmas.Bool.{cases_eq, cases_lt, cond-true, lt-ltb}
use Rattle.std.proofs.lemmas.List.{get_or-drop, get_or-replicate, get_or-set_other, get_or-set_same, get_or_past, length-drop, length-replicate, length-set, take_all}
use Rattle.std.proofs.lemmas.List.Quantifiers.{position-Some}
use Rattle.std.proofs.lemmas.List.Sums.{fails_before_first, passes_at_first, position_or_len_is, prefix_len-le-length}
use Rattle.rejoin_catchup.specs.Sending.{IsSending, least_marked}

-- it is no more than the number of blocks
least-le-length : (marks : List Bool) → least_marked marks ≤ length marks
least-le-length marks = prefix_len-le-length (λ marked. not marked) marks

-- no block below it is marked
pub below_least : (marks : List Bool) (k : ℕ) → k < least_marked marks → get_or marks k false ≡ false
below_least marks k lt = fails_before_first (λ marked. marked) marks k false lt

-- and it is
at_least : (marks : List Bool) → least_marked marks < length marks → get_or marks (least_marked marks) false ≡ true
at_least marks lt = passes_at_first (λ marked. marked) marks false lt

-- where no block is marked
least-none : (marks : List Bool) → ((k : ℕ) → get_or marks k false ≡ false) → least_marked marks ≡ length marks
least-none marks none = position_or_len_is (λ marked. marked) marks (length marks) false (omega arith) (λ k lt. none k) (λ lt. absurd (omega arith))

-- in a new table
pub unmarked : (n k : ℕ) → get_or (replicate n false) k false ≡ false
unmarked n k = elim (cases_lt k n) [
  | inl within ↦ get_or-replicate n k false false within
  | inr past ↦ get_or_past (replicate n false) k false (omega (arith, length-replicate {A = Bool} n false))
]

least-replicate : (n : ℕ) → least_marked (replicate n false) ≡ n
least-replicate n = least-none (replicate n false) (unmarked n) ∙ length-replicate n false

-- the place that a search finds
pub least-found : (marks : List Bool) (block : ℕ) → position (λ marked. marked) marks ≡ Some block → least_marked marks ≡ block
least-found marks block found =
    let (within, is, before) = position-Some (λ (marked : Bool). marked) marks block false found in
    position_or_len_is (λ marked. marked) marks block false (omega arith) before (λ _. is)

pub least-not_found : (marks : List Bool) → position (λ marked. marked) marks ≡ None → least_marked marks ≡ length marks
least-not_found marks none = elim (cases_lt (least_marked marks) (length marks)) [
  | inl lt ↦ let is = cond-true (nat_lt (least_marked marks) (length marks)) (Some (least_marked marks)) None (lt-ltb _ _ lt) in absurd cc
  | inr le ↦ omega (arith, least-le-length marks)
]

-- one block more
least-set : (marks : List Bool) (block : ℕ) → block < length marks → least_marked (set marks block true) ≡ min (least_marked marks) block
least-set marks block below =
    position_or_len_is (λ marked. marked) (set marks block true) (min (least_marked marks) block) false (omega (arith, length-set marks block true))
    (λ k lt. get_or-set_other marks block k true false (omega arith) ∙ below_least marks k (omega arith))
    (λ lt. elim (cases_lt (least_marked marks) block) [
      | inl before ↦ let is : min (least_marked marks) block ≡ least_marked marks = omega arith in rw is (get_or-set_other marks block (least_marked marks) true false (omega arith) ∙ at_least marks (omega arith))
      | inr here ↦ let is : min (least_marked marks) block ≡ block = omega arith in rw is (get_or-set_same marks block true false below)
    ])

-- where none is marked before a block
least-behind : (marks : List Bool) (from : ℕ) → from ≤ length marks → ((k : ℕ) → k < from → get_or marks k false ≡ false) → least_marked marks ≡ from + least_marked (drop from marks)
least-behind marks from within none =
    position_or_len_is (λ marked. marked) marks (from + least_marked (drop from marks)) false (omega (arith, least-le-length (drop from marks), length-drop from marks))
    (λ k lt. elim (cases_lt k from) [
      | inl before ↦ none k before
      | inr behind ↦ let is : from + (k - from) ≡ k = omega arith in
          ap (λ (i : ℕ). get_or marks i false) (sym is) ∙ sym (get_or-drop from marks (k - from) false) ∙ below_least (drop from marks) (k - from) (omega arith)
    ])
    (λ lt. sym (get_or-drop from marks (least_marked (drop from marks)) false) ∙ at_least (drop from marks) (omega (arith, length-drop from marks)))

-- the rest of the blocks, as a slice has it
pub rest : (marks : List Bool) (from : ℕ) → take (length marks - from) (drop from marks) ≡ drop from marks
rest marks from = take_all (length marks - from) (drop from marks) (omega (arith, length-drop from marks))

-- without the least
pub least-unset : (marks : List Bool) → least_marked marks < length marks → least_marked (set marks (least_marked marks) false) ≡ least_marked marks + 1 + least_marked (drop (least_marked marks + 1) (set marks (least_marked marks) false))
least-unset marks below =
    let block = least_marked marks in
    least-behind (set marks block false) (block + 1) (omega (arith, length-set marks block false)) (λ k lt. elim (cases_eq k block) [
      | inl is ↦ rw is (get_or-set_same marks block false false below)
      | inr other ↦ get_or-set_other marks block k false false other ∙ below_least marks k (omega arith)
    ])

-- nothing is given yet
pub sending_nothing : (marks : List Bool) (n : ℕ) → n ≤ 65536 → marks ≡ replicate n false → IsSending (record { given = 0; marks = marks }) × (n ≡ least_marked marks)
sending_nothing marks n few is = (
  subst (λ (all : List Bool). IsSending (record { given = 0; marks = all })) (sym is) (record { within = omega arith; few = omega (arith, length-replicate {A = Bool} n false); unmarked = λ block le. unmarked n block }),
  sym (ap least_marked is ∙ least-replicate n),
)

module _ (given : ℕ) (marks : List Bool) (was : IsSending (record { given = given; marks = marks })) where
  -- a given block is marked
  pub sending_marked : (block : ℕ) → block < given → IsSending (record { given = given; marks = set marks block true }) × (min (least_marked marks) block ≡ least_marked (set marks block true))
  sending_marked block lt = (
    record {
      within = omega (arith, was.within, length-set marks block true);
      few = omega (arith, was.few, length-set marks block true);
      unmarked = λ other le. get_or-set_other marks block other true false (omega arith) ∙ was.unmarked other le;
    },
    sym (least-set marks block (omega (arith, was.within))),
  )

  -- the least is marked no more
  pub sending_unmarked : least_marked marks < length marks → IsSending (record { given = given; marks = set marks (least_marked marks) false })
  sending_unmarked below = record {
    within = omega (arith, was.within, length-set marks (least_marked marks) false);
    few = omega (arith, was.few, length-set marks (least_marked marks) false);
    unmarked = λ other le. elim (cases_eq other (least_marked marks)) [
      | inl is ↦ rw is (get_or-set_same marks (least_marked marks) false false below)
      | inr differs ↦ get_or-set_other marks (least_marked marks) other false false differs ∙ was.unmarked other le
    ];
  }
