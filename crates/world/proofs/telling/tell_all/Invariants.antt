use Rattle.std.proofs.Common.{Bool, false, [], List}
use Rattle.std.specs.Prelude.{◌||◌}
use Rattle.world_model.specs.Event.{ClientEvent}
use Rattle.clients.specs.Clients.{Sessions}
use Rattle.world.specs.Telling.{AreTold}
use Rattle.world.proofs.telling.tell_all.Given as goal

-- those told so far, with any that are told from here on, are all
abbrev pub invariant-loop-served : goal.invariant-loop-served
invariant-loop-served l = (final : Sessions) (more : Bool) (events : List ClientEvent) → AreTold false more l.served-iterator.rest.items l.clients final [] events
    → (all : List ClientEvent) × AreTold false (l.lost || more) l.fn.replies.items l.fn.clients final [] all
