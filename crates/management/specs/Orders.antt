-- What the orders but `Record` come to.
use Rattle.std.specs.Prelude.{◌≡◌, ℕ, Bool, true, false, Some}
use Rattle.board.specs.Seats.{Posted, SeatView, stepped}
use Rattle.board.specs.declared.view.Step.TheVariants as steps
use Rattle.gate_journal.specs.Receipt.{Receipt}
use Rattle.manager.specs.Manager.{done_of, has_slot, next_of}
use Rattle.manager.specs.declared.order.Order.{Order}
use Rattle.manager.specs.declared.order.Order.TheVariants.{Idle, Record, CountOut, Tell, Attach, Copy, Hold, Rest, CountIn}
use Rattle.management.specs.Management.{Managing}

-- whether an order is one by which the caller prepares a joiner
abbrev pub is_preparing : Order → Bool
is_preparing (Attach slot) = true
is_preparing (Copy slot) = true
is_preparing (Hold slot) = true
is_preparing (Rest slot) = true
is_preparing Idle = false
is_preparing Record = false
is_preparing (CountOut slot) = false
is_preparing (Tell slot) = false
is_preparing (CountIn slot) = false

-- the next order was carried out, and nothing else changed
abbrev pub after_order : {C : Type 0} → Managing C → Managing C
after_order m = record m { manager = done_of m.manager }

-- A slot was to be counted out, and is; the chain hasn't it.
pub record CountsOut {C : Type 0} (old new : Managing C) : Type 0 where
  pub slot : ℕ
  pub due : next_of old.manager ≡ CountOut slot
  pub left_out : has_slot slot old.manager.chain.members ≡ false
  pub are : new ≡ record old { manager = done_of old.manager; seat = stepped old.seat (steps.CountOut slot) }

-- The receipt's slot was to be counted in: the receipt is posted, and the slot is counted behind it. It is the joiner's, and the chain
-- hasn't it yet.
pub record CountsIn {C : Type 0} (receipt : Receipt) (old new : Managing C) : Type 0 where
  pub posted : SeatView
  pub due : next_of old.manager ≡ CountIn receipt.slot
  pub joins : old.manager.joining ≡ Some receipt.slot
  pub left_out : has_slot receipt.slot old.manager.chain.members ≡ false
  pub posts : Posted receipt old.seat posted
  pub are : new ≡ record old { manager = done_of old.manager; seat = stepped posted (steps.CountIn receipt.slot) }
