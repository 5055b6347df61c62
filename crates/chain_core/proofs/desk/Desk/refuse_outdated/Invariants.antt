use Rattle.std.proofs.Common.{◌≡◌, ◌≤◌, ◌+◌, ◌++◌, [], length, vec_len, vec_capacity}
use Rattle.std.specs.Prelude.{Some, filter, map, not}
use Rattle.chain_steps.specs.Waiting.{is_outdated, reply_to}
use Rattle.flush_barrier.specs.declared.error_code.ErrorCode.TheVariants.{Io}
use Rattle.chain_core.proofs.desk.Desk.refuse_outdated.Given as goal

-- those refused so far, and those that are left
abbrev pub invariant-loop-reply : goal.invariant-loop-reply
invariant-loop-reply l =
    (l.served.items ++ map (reply_to (Some Io)) (filter (is_outdated l.epoch) l.self-inside.tokens) ≡ l.fn.served.items ++ map (reply_to (Some Io)) (filter (is_outdated l.epoch) l.fn.self))
    × (filter (λ w. not (is_outdated l.epoch w)) l.self-inside.tokens ≡ filter (λ w. not (is_outdated l.epoch w)) l.fn.self)
    × (vec_len l.served + length (filter (is_outdated l.epoch) l.self-inside.tokens) ≤ vec_capacity l.served)
    × (l.self-inside.room.items ≡ []) × (length l.self-inside.tokens ≤ vec_capacity l.self-inside.room)

-- the tokens that are left
abbrev pub decreases-loop-reply : goal.decreases-loop-reply
decreases-loop-reply l = length l.self-inside.tokens
