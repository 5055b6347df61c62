-- What clients see of an era.
use Rattle.std.specs.Prelude.{List, [], ◌∷◌, ◌++◌}
use Rattle.world_model.specs.Event.{ClientEvent}

-- all that they see of it, of one thing after another
abbrev pub all_events : List (List ClientEvent) → List ClientEvent
all_events [] = []
all_events (now ∷ later) = now ++ all_events later
