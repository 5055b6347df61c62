use Rattle.std.proofs.Common.{◌++◌, ◌∷◌, [], ◌∙◌, ap, sym, arith}
use Rattle.std.specs.Prelude.{Some, map, filter}
use Rattle.chain_steps.specs.Waiting.{is_outdated, reply_to}
use Rattle.flush_barrier.specs.declared.error_code.ErrorCode.TheVariants.{Io}
use Rattle.chain_core.proofs.Settling.{all_kept, one_answered, others_left, fewer, fewer_due, all_answered, all_left}
use Rattle.chain_core.proofs.desk.Desk.refuse_outdated.Goals as goal

pub push_reserved-requires : goal.push_reserved-requires
push_reserved-requires c =
    let fewer = fewer_due (reply_to (Some Io)) (is_outdated c.args.epoch) c.loop-reply.self-inside.tokens c.next_outdated.new.self c.next_outdated.ensures.left c.in-Some.reply c.in-Some.ensures.reply in
    omega (arith, c.loop-reply.invariant.2)

pub loop-reply-smaller : goal.loop-reply-smaller
loop-reply-smaller c = fewer (reply_to (Some Io)) (is_outdated c.args.epoch) c.loop-reply.self-inside.tokens c.next_outdated.new.self c.next_outdated.ensures.left c.in-Some.reply c.in-Some.ensures.reply

pub loop-reply-preserved : goal.loop-reply-preserved
loop-reply-preserved c =
    let is = c.in-Some.ensures.reply in
    let left = c.next_outdated.ensures.left in
    let fewer_now = fewer_due (reply_to (Some Io)) (is_outdated c.args.epoch) c.loop-reply.self-inside.tokens c.next_outdated.new.self left c.in-Some.reply is in
    let shorter = fewer (reply_to (Some Io)) (is_outdated c.args.epoch) c.loop-reply.self-inside.tokens c.next_outdated.new.self left c.in-Some.reply is in (
      ap (λ zs. zs ++ map (reply_to (Some Io)) (filter (is_outdated c.args.epoch) c.next_outdated.new.self)) (c.push_reserved.ensures.items ∙ ap (λ r. c.loop-reply.served.items ++ r ∷ []) c.new.ensures)
          ∙ one_answered (reply_to (Some Io)) (is_outdated c.args.epoch) c.loop-reply.self-inside.tokens c.next_outdated.new.self left c.in-Some.reply is c.loop-reply.served.items _ c.loop-reply.invariant.0,
      others_left (reply_to (Some Io)) (is_outdated c.args.epoch) c.loop-reply.self-inside.tokens c.next_outdated.new.self left ∙ c.loop-reply.invariant.1,
      omega (arith, c.push_reserved.ensures.len, c.push_reserved.ensures.capacity, c.loop-reply.invariant.2),
      c.loop-reply.invariant.3,
      omega arith,
    )

pub invariant_of-self : goal.invariant_of-self
invariant_of-self c =
    let same = all_kept (reply_to (Some Io)) (is_outdated c.args.epoch) c.loop-reply.self-inside.tokens c.next_outdated.new.self c.next_outdated.ensures.left (sym c.in_default.is ∙ c.next_outdated.ensures.reply) in
    (c.loop-reply.invariant.3, rw same c.loop-reply.invariant.4)

pub returns-clause-refused : goal.returns-clause-refused
returns-clause-refused c = all_answered (reply_to (Some Io)) (is_outdated c.args.epoch) c.loop-reply.self-inside.tokens c.next_outdated.new.self c.next_outdated.ensures.left (sym c.in_default.is ∙ c.next_outdated.ensures.reply) c.loop-reply.served.items _ c.loop-reply.invariant.0

pub returns-clause-left : goal.returns-clause-left
returns-clause-left c = all_left (reply_to (Some Io)) (is_outdated c.args.epoch) c.loop-reply.self-inside.tokens c.next_outdated.new.self c.next_outdated.ensures.left (sym c.in_default.is ∙ c.next_outdated.ensures.reply) ∙ c.loop-reply.invariant.1
