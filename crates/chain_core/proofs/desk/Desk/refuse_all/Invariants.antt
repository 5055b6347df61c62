use Rattle.std.proofs.Common.{◌≡◌, ◌≤◌, ◌+◌, ◌++◌, [], length, vec_len, vec_capacity, Some}
use Rattle.std.specs.Prelude.{map}
use Rattle.chain_steps.specs.Waiting.{reply_to}
use Rattle.flush_barrier.specs.declared.error_code.ErrorCode.TheVariants.{Io}
use Rattle.chain_core.proofs.desk.Desk.refuse_all.Given as goal

-- those refused so far, and those that are left
abbrev pub invariant-loop-reply : goal.invariant-loop-reply
invariant-loop-reply l =
    (l.served.items ++ map (reply_to (Some Io)) l.self-inside.tokens ≡ map (reply_to (Some Io)) l.fn.self)
    × (vec_len l.served + length l.self-inside.tokens ≤ vec_capacity l.served)
    × (l.self-inside.room.items ≡ [])

-- the tokens that are left
abbrev pub decreases-loop-reply : goal.decreases-loop-reply
decreases-loop-reply l = length l.self-inside.tokens
