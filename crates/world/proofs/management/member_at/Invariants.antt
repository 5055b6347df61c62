use Rattle.std.proofs.Common.{◌≡◌, ◌<◌, ℕ, true}
use Rattle.std.specs.Prelude.{Some, slice_get}
use Rattle.chain.specs.Member.{Linked}
use Rattle.chain_model.specs.View.{is_in}
use Rattle.world.proofs.management.member_at.Given as goal

-- none so far is recorded at the slot
abbrev pub invariant-loop-at : goal.invariant-loop-at
invariant-loop-at g l = (k : ℕ) (m : Linked g.row.S.Denot) → k < l.at → slice_get l.fn.world.chain.members k ≡ Some m → m.node.state.place.slot ≡ l.slot
    → is_in l.fn.world.chain.recorded l.slot m.node.state.incarnation ≡ true → ⊥
