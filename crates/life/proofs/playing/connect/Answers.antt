use Rattle.std.proofs.Common.{refl, arith}
use Rattle.clients.specs.Clients.{no_one}
use Rattle.life.proofs.Answering.{at_member, done_so, nobody_there, silent_none, still}
use Rattle.life.proofs.playing.connect.Goals as goal

pub returns-then-at-len : goal.returns-then-at-len
returns-then-at-len g c = record {
  does = nobody_there c.args.at c.args.world.now _ (omega (arith, c.if-at-len.true, c.len.ensures));
  one_volume = still g.S.StoreLike.about g.S.StoreLike.keeps g.S.StoreLike.may_leave_now _;
}

pub returns-in-Ok-true : goal.returns-in-Ok-true
returns-in-Ok-true g c = record {
  does = at_member c.args.at _ c.args.world.now _ _ (omega (arith, c.if-at-len.false, c.len.ensures)) (c.connect.result, rw (c.in-Ok-true.is, c.in-Ok-true.field-0-test) c.silent.ensures, record { begins = c.connect.ensures.begins; known = c.connect.ensures.known; err = c.connect.ensures.err });
  one_volume = done_so g.S.StoreLike.about g.S.StoreLike.keeps g.S.StoreLike.may_leave_now _ _ no_one _ (silent_none _ c.silent.ensures) c.connect.ensures.one_volume;
}

pub returns-in-Ok-false-clause-does : goal.returns-in-Ok-false-clause-does
returns-in-Ok-false-clause-does g c = at_member c.args.at _ c.args.world.now _ _ (omega (arith, c.if-at-len.false, c.len.ensures)) (c.connect.result, rw (c.in-Ok-false.is, c.in-Ok-false.field-0-test) refl, record { begins = c.connect.ensures.begins; known = c.connect.ensures.known; err = c.connect.ensures.err })

pub returns-in-Err-clause-does : goal.returns-in-Err-clause-does
returns-in-Err-clause-does g c = at_member c.args.at _ c.args.world.now _ _ (omega (arith, c.if-at-len.false, c.len.ensures)) (c.connect.result, rw c.in-Err.is refl, record { begins = c.connect.ensures.begins; known = c.connect.ensures.known; err = c.connect.ensures.err })
