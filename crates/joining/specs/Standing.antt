-- Whether a copying goes with a world as that is.
use Rattle.std.specs.Prelude.{◌≡◌, true, IfSome, slice_get}
use Rattle.chain.specs.Chain.{Chained}
use Rattle.chain_model.specs.View.{is_in}
use Rattle.joining.specs.Copying.{IsFor, Seen}

-- the member at its place is in the recorded chain
abbrev pub IsRecordedAt : {S D : Type 0} → Chained S → Seen D → Type 0
IsRecordedAt chain c = IfSome (slice_get chain.members c.at) (λ m. is_in chain.recorded m.node.state.place.slot m.node.state.incarnation ≡ true)

-- it is of a member of the recorded chain
pub record IsOfRecorded {S D : Type 0} (chain : Chained S) (c : Seen D) : Type 0 where
  pub is_for : IsFor chain c
  pub recorded : IsRecordedAt chain c

-- what the member at its place knows was noted
abbrev pub IsNoted : {S D : Type 0} → Chained S → Seen D → Type 0
IsNoted chain c = IfSome (slice_get chain.members c.at) (λ m. c.front ≡ m.node.state.known)
