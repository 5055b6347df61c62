-- What becomes of a world when a member that was removed is forgotten.
use Rattle.std.specs.Prelude.{◌≡◌, ℕ, Some, [], map, slice_get}
use Rattle.std.specs.List.{remove}
use Rattle.chain.specs.Forgetting as chain
use Rattle.clients.specs.Calls.{without}
use Rattle.world.specs.World.{Seen}

-- the member at the place may be forgotten, and none of its sessions' demands waits for it
abbrev pub MayForget : {S : Type 0} → ℕ → Seen S → Type 0
MayForget at w = chain.MayForget at w.chain × (slice_get w.queues at ≡ Some [])

-- It is gone, whose store this was: its sessions have ended, and those of members at later places have moved up with them.
pub record HasForgotten {S : Type 0} (at : ℕ) (store : S) (old new : Seen S) : Type 0 where
  pub forgotten : chain.HasForgotten at store old.chain new.chain
  pub are : new ≡ record old {
    chain = new.chain;
    sessions = record old.sessions { clients = map (without at) old.sessions.clients };
    queues = remove old.queues at;
  }
