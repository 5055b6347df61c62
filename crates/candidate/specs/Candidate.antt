-- What contracts see of a disk that has the volume, and of one that refused.
use Rattle.std.specs.Prelude.{Option}
use Rattle.configurations.specs.declared.member.Member.{Member}
use Rattle.gate_journal.specs.Receipt.{Receipt}

-- its store, and the receipt for all that it holds
pub record Whole (S : Type 0) : Type 0 where
  pub store : S
  pub receipt : Receipt

-- the member of which it may mean a volume, if that is known, and the disk
pub record Refused (D : Type 0) : Type 0 where
  pub member : Option Member
  pub disk : D
