use Rattle.std.proofs.Common.{◌≡◌, ◌++◌, map}
use Rattle.chain_core.proofs.reads.shared.Given as goal

-- those that the loop has passed are shared
abbrev pub invariant-loop-bytes : goal.invariant-loop-bytes
invariant-loop-bytes l = l.all.items ++ map (λ bytes. bytes.items) l.bytes-iterator.rest.items ≡ map (λ bytes. bytes.items) l.fn.payloads.items
