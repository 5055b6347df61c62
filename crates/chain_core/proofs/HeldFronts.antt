-- A front that was looked up is held.
use Rattle.std.proofs.Common.{◌≡◌, ℕ, ◌≤◌, ◌∙◌, true, false, List, ap, refl, arith}
use Rattle.std.specs.Prelude.{None, Option, Some, filter, map, max, nat_lt}
use Rattle.std.proofs.lemmas.Bool.Decides.{nat_tests}
use Rattle.chain_steps.specs.Node.{NodeState, Stepped, last_of}
use Rattle.chain_steps.specs.Place.{predecessor_of}
use Rattle.chain_steps.specs.Steps.{hold, hold_by, know, looked_front, send}
use Rattle.chain_steps.specs.Waiting.{is_committed, reply_to}
use Rattle.chain_steps.specs.declared.message.Message.{Message}
use Rattle.chain_steps.specs.declared.message.Message.TheVariants.{Ack}
use Rattle.chain_steps.specs.declared.message.Sent.{Sent}

-- a member sends the same while it holds
sent_held : (to : Option ℕ) (message : Message) (node : NodeState) → send to message (record node { holds = true }) ≡ send to message node
sent_held None message node = refl
sent_held (Some slot) message node = refl

-- and then it holds
abbrev pub and_holds : Stepped → Stepped
and_holds stepped = record { node = record stepped.node { holds = true }; out = stepped.out }

known_held : (told known : ℕ) (node : NodeState) → know told known (record node { holds = true }) ≡ and_holds (know told known node)
known_held told known node = ap {A = List Sent}
    (λ sent. record {
      node = (know told known (record node { holds = true })).node;
      out = record { messages = sent; replies = map (reply_to None) (filter (is_committed known) node.waiting) };
    })
    (sent_held (predecessor_of node.place) (Ack told) node)

-- a front that isn't above the last write is known, and held
pub hold_is : (node : NodeState) (front : ℕ) → looked_front node.found ≡ Some front → front ≤ last_of node → hold node ≡ and_holds (know front (max node.known front) node)
hold_is node front some within = let below : nat_lt (last_of node) front ≡ false = grind (arith, nat_tests) in ap (λ f. hold_by f node) some ∙ rw below (known_held front (max node.known front) node)
