-- The order of marks, and sets of them.
use Rattle.std.proofs.Common.{◌≡◌, List, [], ◌∷◌, ℕ, ◌+◌, ◌<◌, ◌≤◌, Bool, true, false, cond, ◌∙◌, ap, arith}
use Rattle.std.specs.Prelude.{Result, Ok, Err, OnOk}
use Rattle.std.specs.Result.{is_err}
use Rattle.std.specs.Ordering.{is_gt, is_eq}
use Rattle.std.proofs.lemmas.Bool.{false_from_ne_true}
use Rattle.std.proofs.lemmas.Bool.Decides.{nat_tests}
use Rattle.std.specs.BTreeSet.{BTreeSet, Updates, IsKeyRangeOf}
use Rattle.std.specs.declared.ops.Bound.TheVariants.{Included, Unbounded}
use Rattle.version_table.specs.Marks.{mark_cmp, is_among, is_marked, AreSet}

-- a mark isn't above another of a later block
pub block-le : (a x b y : ℕ) → is_gt (mark_cmp (a, x) (b, y)) ≡ false → a ≤ b
block-le a x b y below = grind (arith, nat_tests)

-- nor above another of its block with a greater number
pub number-le : (b x y : ℕ) → is_gt (mark_cmp (b, x) (b, y)) ≡ false → x ≤ y
number-le b x y below = grind (arith, nat_tests)

pub below_later : (b x y : ℕ) → x ≤ y → is_gt (mark_cmp (b, x) (b, y)) ≡ false
below_later b x y le = grind (arith, nat_tests)

-- the first mark from (block, from) on is the first of its block, or of a later one
module _ (marks : BTreeSet (ℕ × ℕ)) (block from : ℕ) (r : List (ℕ × ℕ)) (range : IsKeyRangeOf mark_cmp (Included (block, from)) Unbounded marks r) where
  pub first_at_most : (x : ℕ × ℕ) (t : List (ℕ × ℕ)) → r ≡ x ∷ t → (m : ℕ) → from ≤ m → is_marked marks block m ≡ true → is_gt (mark_cmp x (block, m)) ≡ false
  first_at_most x t is m le marked = rw is at (range.2 (block, m) (below_later block from m le, tt) marked)

  pub first_of_block : (x : ℕ × ℕ) (t : List (ℕ × ℕ)) → r ≡ x ∷ t → x.0 ≡ block → (m : ℕ) → from ≤ m → m < x.1 → is_marked marks block m ≡ false
  first_of_block x t is same m le below = false_from_ne_true (is_marked marks block m) (λ marked.
      let least = first_at_most x t is m le marked in
      let le : x.1 ≤ m = number-le block x.1 m (rw same at least) in omega arith)

  pub none_of_block : (x : ℕ × ℕ) (t : List (ℕ × ℕ)) → r ≡ x ∷ t → (x.0 ≡ block → ⊥) → (m : ℕ) → from ≤ m → is_marked marks block m ≡ false
  none_of_block x t is other m le = false_from_ne_true (is_marked marks block m) (λ marked.
      let here : is_gt (mark_cmp (block, from) x) ≡ false = (rw is at range.1).0.0 in
      let after : block ≤ x.0 = block-le block from x.0 x.1 here in
      let before : x.0 ≤ block = block-le x.0 x.1 block m (first_at_most x t is m le marked) in other (omega arith))

  pub none_at_all : r ≡ [] → (m : ℕ) → from ≤ m → is_marked marks block m ≡ false
  none_at_all is m le = range.5 is (block, m) (below_later block from m le, tt)

-- a mark is another exactly if its block and its number are
pub same_mark : (b n block m : ℕ) → is_eq (mark_cmp (b, n) (block, m)) ≡ is_among b (b + 1) n block m
same_mark b n block m = grind (arith, nat_tests)

-- one change sets one mark
pub AreSet-one : (old new : BTreeSet (ℕ × ℕ)) (b n : ℕ) (there : Bool) → Updates mark_cmp old new (b, n) there → AreSet old new b (b + 1) n there
AreSet-one old new b n there h = λ block m. h.0 (block, m) ∙ ap (λ t. cond t there (is_marked old block m)) (same_mark b n block m)

-- changes of blocks that follow one another are one
pub AreSet-more : (old mid new : BTreeSet (ℕ × ℕ)) (first k n : ℕ) (there : Bool) → first ≤ k → AreSet old mid first k n there → AreSet mid new k (k + 1) n there → AreSet old new first (k + 1) n there
AreSet-more old mid new first k n there le before one = λ block m. grind (arith, nat_tests, before block m, one block m)

-- of no blocks nothing changed
pub AreSet-none : (marks : BTreeSet (ℕ × ℕ)) (first n : ℕ) (there : Bool) → AreSet marks marks first first n there
AreSet-none marks first n there = λ block m. grind (arith, nat_tests)

-- what holds of a value, where there is no error
pub at_ok : {T E P : Type 0} (r : Result T E) → is_err r ≡ false → OnOk r P → P
at_ok (Ok x) no_error fact = fact
at_ok (Err e) no_error fact = cc
