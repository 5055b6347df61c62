-- What a receipt says.
use Rattle.std.specs.Prelude.{ℕ}

-- the disk of this slot holds the volume after the writes up to this front
pub record Receipt : Type 0 where
  pub slot : ℕ
  pub front : ℕ
