-- Where a member stands in its chain.
use Rattle.std.specs.Prelude.{ℕ, zero, suc, ◌+◌, Bool, false, ◌&&◌, ◌==◌, not, Option, Some, None, slice_get, position, option_map, is_some}
use Rattle.configurations.specs.Record.{Record}
use Rattle.configurations.specs.declared.member.Member.{Member}

-- a slot, and a chain: an epoch, and its members from the head to the tail
pub record Standing : Type 0 where
  pub slot : ℕ
  pub chain : Record

-- where a slot stands, counted from the head
abbrev pub place_in : Record → ℕ → Option ℕ
place_in chain slot = position (λ m. m.slot == slot) chain.members

-- the slot at a place
abbrev pub slot_at : Record → ℕ → Option ℕ
slot_at chain at = option_map (λ m. m.slot) (slice_get chain.members at)

-- what stands at a place, if there is one
abbrev pub member_at : Record → Option ℕ → Option Member
member_at chain None = None
member_at chain (Some at) = slice_get chain.members at

-- the incarnation of the member at a slot
abbrev pub incarnation_in : Record → ℕ → Option ℕ
incarnation_in chain slot = option_map (λ m. m.incarnation) (member_at chain (place_in chain slot))

abbrev pub is_it : ℕ → Option ℕ → Bool
is_it incarnation None = false
is_it incarnation (Some other) = other == incarnation

-- the member of this incarnation stands in the chain, at its slot
abbrev pub is_of : Standing → ℕ → Bool
is_of place incarnation = is_it incarnation (incarnation_in place.chain place.slot)

-- the slot behind a place, and before it
abbrev pub slot_behind : Record → Option ℕ → Option ℕ
slot_behind chain None = None
slot_behind chain (Some at) = slot_at chain (at + 1)

abbrev pub slot_before : Record → Option ℕ → Option ℕ
slot_before chain None = None
slot_before chain (Some zero) = None
slot_before chain (Some (suc at)) = slot_at chain at

-- the first of the chain
abbrev pub head_of : Record → Option ℕ
head_of chain = slot_at chain 0

-- who comes behind, on the way to the tail
abbrev pub successor_of : Standing → Option ℕ
successor_of place = slot_behind place.chain (place_in place.chain place.slot)

-- who comes before, on the way to the head
abbrev pub predecessor_of : Standing → Option ℕ
predecessor_of place = slot_before place.chain (place_in place.chain place.slot)

abbrev pub is_member : Standing → Bool
is_member place = is_some (place_in place.chain place.slot)

abbrev pub is_first : Option ℕ → Bool
is_first None = false
is_first (Some at) = at == 0

abbrev pub is_head : Standing → Bool
is_head place = is_first (place_in place.chain place.slot)

abbrev pub is_tail : Standing → Bool
is_tail place = is_member place && not (is_some (successor_of place))
