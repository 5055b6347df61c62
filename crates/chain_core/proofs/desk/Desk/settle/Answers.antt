use Rattle.std.proofs.Common.{None, ◌++◌, ◌∷◌, [], ◌∙◌, ap, sym, subst, arith}
use Rattle.std.specs.Prelude.{All, map, filter}
use Rattle.chain_steps.specs.Tokens.{left_have}
use Rattle.chain_steps.specs.Waiting.{IsOfDue, is_due, reply_to}
use Rattle.chain_core.proofs.Settling.{all_kept, one_answered, others_left, fewer, fewer_due, all_answered, all_left}
use Rattle.chain_core.proofs.desk.Desk.settle.Goals as goal

pub push_reserved-requires : goal.push_reserved-requires
push_reserved-requires c =
    let fewer = fewer_due (reply_to None) (is_due c.args.due.now) c.loop-reply.self-inside.tokens c.next_due.new.self c.next_due.ensures.left c.in-Some.reply c.in-Some.ensures.reply in
    omega (arith, c.loop-reply.invariant.3)

pub loop-reply-smaller : goal.loop-reply-smaller
loop-reply-smaller c = fewer (reply_to None) (is_due c.args.due.now) c.loop-reply.self-inside.tokens c.next_due.new.self c.next_due.ensures.left c.in-Some.reply c.in-Some.ensures.reply

pub loop-reply-preserved : goal.loop-reply-preserved
loop-reply-preserved c =
    let is = c.in-Some.ensures.reply in
    let left = c.next_due.ensures.left in
    let fewer_now = fewer_due (reply_to None) (is_due c.args.due.now) c.loop-reply.self-inside.tokens c.next_due.new.self left c.in-Some.reply is in
    let shorter = fewer (reply_to None) (is_due c.args.due.now) c.loop-reply.self-inside.tokens c.next_due.new.self left c.in-Some.reply is in (
      ap (λ zs. zs ++ map (reply_to None) (filter (is_due c.args.due.now) c.next_due.new.self)) (c.push_reserved.ensures.items ∙ ap (λ r. c.loop-reply.served.items ++ r ∷ []) c.new.ensures)
          ∙ one_answered (reply_to None) (is_due c.args.due.now) c.loop-reply.self-inside.tokens c.next_due.new.self left c.in-Some.reply is c.loop-reply.served.items _ c.loop-reply.invariant.0,
      others_left (reply_to None) (is_due c.args.due.now) c.loop-reply.self-inside.tokens c.next_due.new.self left ∙ c.loop-reply.invariant.1,
      subst (All (IsOfDue c.args.due.now)) (sym left) (left_have (is_due c.args.due.now) (IsOfDue c.args.due.now) c.loop-reply.self-inside.tokens c.loop-reply.invariant.2),
      omega (arith, c.push_reserved.ensures.len, c.loop-reply.invariant.3),
      c.push_reserved.ensures.capacity ∙ c.loop-reply.invariant.4,
      c.loop-reply.invariant.5,
      omega arith,
    )

pub invariant_of-self : goal.invariant_of-self
invariant_of-self c =
    let same = all_kept (reply_to None) (is_due c.args.due.now) c.loop-reply.self-inside.tokens c.next_due.new.self c.next_due.ensures.left (sym c.in_default.is ∙ c.next_due.ensures.reply) in
    (c.loop-reply.invariant.5, rw same c.loop-reply.invariant.6)

pub returns-clause-answered : goal.returns-clause-answered
returns-clause-answered c = all_answered (reply_to None) (is_due c.args.due.now) c.loop-reply.self-inside.tokens c.next_due.new.self c.next_due.ensures.left (sym c.in_default.is ∙ c.next_due.ensures.reply) c.loop-reply.served.items _ c.loop-reply.invariant.0

pub returns-clause-left : goal.returns-clause-left
returns-clause-left c = all_left (reply_to None) (is_due c.args.due.now) c.loop-reply.self-inside.tokens c.next_due.new.self c.next_due.ensures.left (sym c.in_default.is ∙ c.next_due.ensures.reply) ∙ c.loop-reply.invariant.1
