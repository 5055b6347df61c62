use Rattle.std.proofs.Common.{◌≡◌, ◌≤◌, ◌+◌, ◌++◌, [], length, vec_len, vec_capacity, None}
use Rattle.std.specs.Prelude.{All, filter, map, not}
use Rattle.chain_steps.specs.Waiting.{IsOfDue, is_due, reply_to}
use Rattle.chain_core.proofs.desk.Desk.settle.Given as goal

-- those answered so far, and those that are left
abbrev pub invariant-loop-reply : goal.invariant-loop-reply
invariant-loop-reply l =
    (l.served.items ++ map (reply_to None) (filter (is_due l.due) l.self-inside.tokens) ≡ l.fn.served.items ++ map (reply_to None) (filter (is_due l.due) l.fn.self))
    × (filter (λ w. not (is_due l.due w)) l.self-inside.tokens ≡ filter (λ w. not (is_due l.due w)) l.fn.self)
    × All (IsOfDue l.due) l.self-inside.tokens
    × (vec_len l.served + length (filter (is_due l.due) l.self-inside.tokens) ≤ vec_capacity l.served)
    × (vec_capacity l.served ≡ vec_capacity l.fn.served)
    × (l.self-inside.room.items ≡ []) × (length l.self-inside.tokens ≤ vec_capacity l.self-inside.room)

-- the tokens that are left
abbrev pub decreases-loop-reply : goal.decreases-loop-reply
decreases-loop-reply l = length l.self-inside.tokens
