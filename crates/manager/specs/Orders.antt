-- The orders of each change, and the members that it comes to.
use Rattle.std.specs.Prelude.{ℕ, ◌+◌, ◌==◌, Bool, true, false, not, List, [], ◌∷◌, ◌++◌, filter, map, codes, Option, Some, None}
use Rattle.std.specs.Fmt.{decimal}
use Rattle.configurations.specs.declared.member.Member.{Member}
use Rattle.configurations.specs.Record.{Record}
use Rattle.manager.specs.declared.order.Order.{Order}
use Rattle.manager.specs.declared.order.Order.TheVariants.{Idle, Record as RecordOrder, CountOut, Tell, Attach, Copy, Hold, Rest, CountIn}

-- the name of an order
abbrev pub order_name : Order → List ℕ
order_name Idle = codes "Idle"
order_name RecordOrder = codes "Record"
order_name (CountOut slot) = codes "CountOut"
order_name (Tell slot) = codes "Tell"
order_name (Attach slot) = codes "Attach"
order_name (Copy slot) = codes "Copy"
order_name (Hold slot) = codes "Hold"
order_name (Rest slot) = codes "Rest"
order_name (CountIn slot) = codes "CountIn"

-- the slot of the member concerned
abbrev pub order_slot : Order → Option ℕ
order_slot Idle = None
order_slot RecordOrder = None
order_slot (CountOut slot) = Some slot
order_slot (Tell slot) = Some slot
order_slot (Attach slot) = Some slot
order_slot (Copy slot) = Some slot
order_slot (Hold slot) = Some slot
order_slot (Rest slot) = Some slot
order_slot (CountIn slot) = Some slot

-- a name, with the slot behind it, if there is one
abbrev pub named : List ℕ → Option ℕ → List ℕ
named name None = name
named name (Some slot) = name ++ codes " " ++ decimal slot

-- what an order prints
abbrev pub order_text : Order → List ℕ
order_text order = named (order_name order) (order_slot order)

-- whether the next record is to be written
abbrev pub is_record : Order → Bool
is_record RecordOrder = true
is_record _ = false

-- the first of the orders, or `Idle`
abbrev pub first_of : List Order → Order
first_of [] = Idle
first_of (order ∷ rest) = order

-- each member is told, in the chain's order
abbrev pub tells : List Member → List Order
tells members = map (λ m. Tell m.slot) members

-- the orders that remove the member at a slot, or abandon its joining
abbrev pub removal_orders : ℕ → List Member → List Order
removal_orders slot coming = RecordOrder ∷ CountOut slot ∷ tells coming

-- the orders that join a member at a slot
abbrev pub joining_orders : ℕ → List Member → List Order
joining_orders slot coming = Attach slot ∷ Copy slot ∷ Hold slot ∷ Rest slot ∷ CountIn slot ∷ RecordOrder ∷ tells coming

-- the members but for the one at this slot
abbrev pub without : ℕ → List Member → List Member
without slot members = filter (λ m. not (m.slot == slot)) members

-- the members with a new one behind them, whose incarnation is the next record's epoch
abbrev pub joined : ℕ → Record → List Member
joined slot chain = chain.members ++ record { slot = slot; incarnation = chain.epoch + 1 } ∷ []
