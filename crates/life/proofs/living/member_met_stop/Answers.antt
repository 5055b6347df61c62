use Rattle.std.proofs.Common.{◌≡◌, true, false, refl, sym, ◌∙◌, arith}
use Rattle.life.proofs.Starting.{disk_in}
use Rattle.life.proofs.Stops.{met_at, none_at_all, none_more}
use Rattle.life.proofs.living.member_met_stop.Goals as goal

pub loop-at-preserved : goal.loop-at-preserved
loop-at-preserved c = record {
  none = none_more disk_in c.args.world.now c.loop-at.at c.store.result.now (omega (arith, c.loop-at-test.true, c.len-at-end.ensures)) c.store.ensures
      (rw (← c.disk.ensures) (sym c.is_stopped.ensures ∙ c.if-is_stopped.false)) c.loop-at.invariant.none;
}

pub returns-then-is_stopped : goal.returns-then-is_stopped
returns-then-is_stopped c = (
  λ yes. met_at disk_in c.args.world.now c.loop-at.at c.store.result.now (omega (arith, c.loop-at-test.true, c.len-at-end.ensures)) c.store.ensures
      (rw (← c.disk.ensures) (sym c.is_stopped.ensures ∙ c.if-is_stopped.true)),
  λ met. refl,
)

pub returns : goal.returns
returns c = (
  λ wrong. let no : false ≡ true = wrong in absurd (cc),
  λ met. absurd (none_at_all disk_in c.args.world.now c.loop-at.at (omega (arith, c.loop-at-test.false, c.len-at-end.ensures)) c.loop-at.invariant.none met),
)
