use Rattle.std.proofs.Common.{◌≡◌, ◌++◌, ◌+◌, ◌≤◌, Bool, true, List, length, vec_capacity, vec_len}
use Rattle.std.specs.Prelude.{◌||◌}
use Rattle.world_model.specs.Event.{ClientEvent}
use Rattle.clients.specs.Clients.{Sessions}
use Rattle.clients.specs.declared.output.Output.{Output}
use Rattle.world.specs.Telling.{AreTold}
use Rattle.world.proofs.telling.tell_all_out.Given as goal

-- those told so far, with any that are told from here on, are all; and there is room for what goes out with them
abbrev pub invariant-loop-served : goal.invariant-loop-served
invariant-loop-served l = record {
  goes : (final : Sessions) (more : Bool) (outputs : List Output) (events : List ClientEvent) → AreTold true more l.served-iterator.rest.items l.clients final outputs events
      → (given : List Output) × (all : List ClientEvent) × (AreTold true (l.lost || more) l.fn.replies.items l.fn.clients final given all × (l.outputs.items ++ outputs ≡ l.fn.outputs.items ++ given));
  room : vec_len l.outputs + length l.served-iterator.rest.items ≤ vec_capacity l.outputs;
  len : vec_len l.outputs + length l.served-iterator.rest.items ≤ vec_len l.fn.outputs + length l.fn.replies.items;
  capacity : vec_capacity l.outputs ≡ vec_capacity l.fn.outputs;
}
