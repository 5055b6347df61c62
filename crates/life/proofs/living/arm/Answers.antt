use Rattle.std.proofs.Common.{refl, arith}
use Rattle.life.proofs.Answering.{at_member, nobody_there, still}
use Rattle.life.proofs.Starting.{about_of_store, keeps_volume, leaves_now}
use Rattle.life.proofs.living.arm.Goals as goal

pub returns-then-at-len : goal.returns-then-at-len
returns-then-at-len c = record {
  does = nobody_there c.args.at c.args.world.now _ (omega (arith, c.if-at-len.true, c.len.ensures));
  one_volume = still about_of_store keeps_volume leaves_now c.args.world.now;
}

pub returns-in-Ok-clause-does : goal.returns-in-Ok-clause-does
returns-in-Ok-clause-does c = at_member c.args.at _ c.args.world.now _ _ (omega (arith, c.if-at-len.false, c.len.ensures)) (c.arm.result, rw c.in-Ok.is (refl, c.new.ensures.items), record { ok = c.arm.ensures.ok; err = c.arm.ensures.err; armed = c.arm.ensures.armed })

pub returns-in-Err-clause-does : goal.returns-in-Err-clause-does
returns-in-Err-clause-does c = at_member c.args.at _ c.args.world.now _ _ (omega (arith, c.if-at-len.false, c.len.ensures)) (c.arm.result, rw c.in-Err.is refl, record { ok = c.arm.ensures.ok; err = c.arm.ensures.err; armed = c.arm.ensures.armed })
