use Rattle.std.proofs.Common.{◌≡◌, ◌+◌, ◌∙◌, ◌++◌, ◌∷◌, [], None, length, ap, arith, sym}
use Rattle.chain_steps.specs.Tokens.{none_passes}
use Rattle.chain_steps.specs.Waiting.{is_read, reply_with}
use Rattle.chain_steps.specs.declared.waiting.Waiting.TheVariants.{Read}
use Rattle.chain_core.proofs.Answering.{none_left, one_answered, one_read_fewer, one_token_fewer, others_left}
use Rattle.chain_core.proofs.desk.Desk.answer_reads.Goals as goal

pub unreachable-requires : goal.unreachable-requires
unreachable-requires c =
    let none = ap length (none_passes is_read c.loop-payload.self-inside.tokens c.in_default.ensures.read) in
    let some = ap length c.in-Some.ensures.steps.0 in
    omega (arith, none, some, c.loop-payload.invariant.many)

pub loop-payload-preserved : goal.loop-payload-preserved
loop-payload-preserved c =
    let w = Read c.in-Some-next_read.read.offset c.in-Some-next_read.read.length c.in-Some-next_read.read.token in
    let tokens = c.loop-payload.self-inside.tokens in
    let rest = c.next_read.new.self in
    let found = c.in-Some-next_read.ensures.read in
    let left = c.in-Some-next_read.ensures.left in
    let some : length c.loop-payload.payload-iterator.rest.items ≡ length c.next.new.self.rest.items + 1 = omega (arith, ap length c.in-Some.ensures.steps.0) in
    let reply : c.new.result ≡ reply_with c.in-Some.payload None w = grind (arith, c.new.ensures, c.settle.ensures) in
    record {
      answered =
          one_answered tokens rest w found left c.loop-payload.served.items c.push_reserved.new.self.items _ c.in-Some.payload _ c.next.new.self.rest.items
          c.in-Some.ensures.steps.0 (c.push_reserved.ensures.items ∙ ap (λ r. c.loop-payload.served.items ++ r ∷ []) reply) c.loop-payload.invariant.answered;
      others = others_left tokens rest w found left ∙ c.loop-payload.invariant.others;
      many = omega (arith, one_read_fewer tokens rest w found left, some, c.loop-payload.invariant.many);
      room = omega (arith, some, c.push_reserved.ensures.len, c.push_reserved.ensures.capacity, c.loop-payload.invariant.room);
      empty = c.loop-payload.invariant.empty;
      few = omega (arith, one_token_fewer tokens rest w found left, c.loop-payload.invariant.few);
    }

pub returns-clause-left : goal.returns-clause-left
returns-clause-left c = sym (none_left c.loop-payload.self-inside.tokens (omega (arith, c.in-None.ensures.steps.0, c.loop-payload.invariant.many))) ∙ c.loop-payload.invariant.others
