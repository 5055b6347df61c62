-- The orders that a chain's server takes.
use Rattle.std.specs.Prelude.{ℕ, ◌+◌, List, [], ◌∷◌, ◌++◌, codes}

-- the order that asks for a slot: its digit, whose code is 48 and the slot, between a word and a line's end
abbrev pub order_for : ℕ → List ℕ
order_for slot = codes "rejoin " ++ (48 + slot) ∷ 10 ∷ []
