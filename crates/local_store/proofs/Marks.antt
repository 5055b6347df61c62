-- How many blocks are still to be given.
use Rattle.std.proofs.Common.{◌≡◌, inl, inr, ℕ, ◌*◌, ◌≤◌, List, length, get_or, sym, subst, arith, cond}
use Rattle.std.specs.Prelude.{Bool, not, All, IsTrue}
use Rattle.std.proofs.lemmas.Bool.{cases_Bool}
use Rattle.std.proofs.lemmas.List.Sums.{get_or-le-sum_by, sum_by-le}
use Rattle.local_store.specs.Installer.{left_of}

-- a block that isn't given counts
abbrev counted : Bool → ℕ
counted given = cond (not given) 1 0

pub none_left : (given : List Bool) → left_of given ≡ 0 → All IsTrue given
none_left given none k d lt = elim (cases_Bool (get_or given k d)) [
  | inl is ↦ is
  | inr isnt ↦ absurd (omega (arith, none, subst (λ (x : Bool). counted x ≤ left_of given) isnt (get_or-le-sum_by counted given k d lt)))
]

pub all_marked : (given : List Bool) → All IsTrue given → left_of given ≡ 0
all_marked given all =
    let most : left_of given ≤ length given * 0 = sum_by-le counted 0 given (λ k d lt. subst (λ (x : Bool). counted x ≤ 0) (sym (all k d lt)) (omega arith)) in
    omega (arith, most)
