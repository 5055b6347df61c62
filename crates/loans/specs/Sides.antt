-- What contracts see of the two sides of a loan.
use Rattle.std.specs.Prelude.{ℕ, Option, None, Some, List, [], ◌∷◌}

-- the number by which they belong together, and the loans that it remembers, the latest last
pub record Side (T : Type 0) : Type 0 where
  pub number : ℕ
  pub loans : List T

-- the loan that is remembered last
abbrev pub last_of : {T : Type 0} → List T → Option T
last_of [] = None
last_of (x ∷ []) = Some x
last_of (x ∷ y ∷ ys) = last_of (y ∷ ys)
