-- What a Turn sends again, one message after another.
use Rattle.std.proofs.Common.{◌≡◌, ℕ, List, [], ◌∷◌, ◌++◌, map, refl, ap}
use Rattle.std.specs.Prelude.{Some}
use Rattle.version_table.specs.Held.{kept_after}
use Rattle.version_table.specs.declared.kept.Kept.{Kept}
use Rattle.chain_steps.specs.Node.{NodeState, last_of}
use Rattle.chain_steps.specs.Steps.{again, send_all}
use Rattle.chain_steps.specs.declared.message.Message.{Message}
use Rattle.chain_steps.specs.declared.message.Message.TheVariants.{Put, Turn}
use Rattle.chain_steps.specs.declared.message.Sent.{Sent}

-- a message in an epoch for the member at a slot
abbrev pub sent_as : ℕ → ℕ → Message → Sent
sent_as to epoch message = record { to = to; envelope = record { epoch = epoch; message = message } }

-- a kept write so
abbrev pub put_as : ℕ → ℕ → Kept → Sent
put_as to epoch k = sent_as to epoch (Put k.number k.origin k.write)

puts_then : (to epoch : ℕ) (last : Message) (ks : List Kept) → map (sent_as to epoch) (map (λ k. Put k.number k.origin k.write) ks ++ last ∷ []) ≡ map (put_as to epoch) ks ++ sent_as to epoch last ∷ []
puts_then to epoch last [] = refl
puts_then to epoch last (k ∷ ks) = ap (λ (l : List Sent). put_as to epoch k ∷ l) (puts_then to epoch last ks)

-- the kept writes that aren't known to be committed, and the Turn
pub again_is : (to epoch : ℕ) (node : NodeState) → send_all (Some to) epoch (again node) ≡ map (put_as to epoch) (kept_after node.table node.known) ++ sent_as to epoch (Turn (last_of node)) ∷ []
again_is to epoch node = puts_then to epoch (Turn (last_of node)) (kept_after node.table node.known)
