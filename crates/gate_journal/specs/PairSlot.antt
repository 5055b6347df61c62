-- What is known of a slot by its head.
use Rattle.std.specs.Prelude.{ℕ, List, take, drop, Option, Some, None}
use Rattle.gate_journal.specs.Pair.{Entry, HasGate, HoldsSlot}
use Rattle.gate_journal.specs.declared.pair_slot.EntryHead.{EntryHead}
use Rattle.gate_journal.specs.declared.pair_slot.Head.{Head}

-- the entry that a slot with this head holds
abbrev pub entry_behind : Option EntryHead → List ℕ → Option Entry
entry_behind None bytes = None
entry_behind (Some head) bytes = Some (record { number = head.number; payload = take head.len (drop 13 bytes) })

-- the head is that of a slot with these bytes
pub record IsHeadOf (head : Head) (bytes : List ℕ) : Type 0 where
  pub gate : HasGate head.is_closed bytes
  pub entry : HoldsSlot (entry_behind head.entry bytes) bytes
