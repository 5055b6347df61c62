use Rattle.std.proofs.Common.{◌≡◌, ◌≤◌, ◌∙◌, ap, refl, subst, sym}
use Rattle.std.specs.Prelude.{Err}
use Rattle.configurations.specs.Refusal.{IsCaused}
use Rattle.configurations.specs.Store.{IsNext, State}
use Rattle.local_store.specs.Store.{IsStored}
use Rattle.world.specs.Management.{Managing}
use Rattle.world.specs.World as worlds
use Rattle.joining.proofs.QuietSteps.{more_keeps, more_quiet, one_more}
use Rattle.joining.proofs.Orders.{only_manager, only_manager_then}
use Rattle.joining.proofs.Entering.{begun_counted, begun_left, counted, counted_left, counted_still, not_counted, same_slot}
use Rattle.joining.specs.Rebuilding.{IsLeft}
use Rattle.joining.proofs.rebuilding.enter.Goals as goal

pub returns-in-Ok-true-end_join-clause-one_more : goal.returns-in-Ok-true-end_join-clause-one_more
returns-in-Ok-true-end_join-clause-one_more g c =
    one_more _ c.args.slot c.args.store c.args.receipt _ _ _ _ c.args.world.now c.count_in.new.world c.begin_join.new.world c.end_join.new.world
    c.in-Ok.ensures.counted (c.in-Ok-true.ensures.begun c.in-Ok-true.field-0-test) (c.in-Ok-true-end_join.ensures.ended c.in-Ok-true-end_join.field-0-test)
    (same_slot _ c.args.slot c.args.store c.args.receipt c.args.management.now c.count_in.new.self c.args.world.now c.count_in.new.world c.requires.orders c.in-Ok.ensures.counted)

pub returns-in-Ok-true-end_join-clause-quiet : goal.returns-in-Ok-true-end_join-clause-quiet
returns-in-Ok-true-end_join-clause-quiet g c =
    more_quiet _ c.args.slot c.args.store c.args.receipt _ _ _ _ c.args.world.now c.count_in.new.world c.begin_join.new.world c.end_join.new.world
    c.in-Ok.ensures.counted (c.in-Ok-true.ensures.begun c.in-Ok-true.field-0-test) (c.in-Ok-true-end_join.ensures.ended c.in-Ok-true-end_join.field-0-test) c.requires.quiet

pub returns-in-Ok-true-end_join-clause-keep : goal.returns-in-Ok-true-end_join-clause-keep
returns-in-Ok-true-end_join-clause-keep g c =
    more_keeps _ c.args.slot c.args.store c.args.receipt _ _ _ _ c.args.world.now c.count_in.new.world c.begin_join.new.world c.end_join.new.world
    c.in-Ok.ensures.counted (c.in-Ok-true.ensures.begun c.in-Ok-true.field-0-test) (c.in-Ok-true-end_join.ensures.ended c.in-Ok-true-end_join.field-0-test)
    (λ s volume. IsStored s.contents volume (g.D.Disk.gives s.disk) (g.D.Disk.may_leave_now s.disk))

pub returns-in-Err-clause-refused : goal.returns-in-Err-clause-refused
returns-in-Err-clause-refused g c = (
  refl,
  not_counted _ c.args.slot c.args.store c.args.receipt c.args.management.now c.count_in.new.self c.args.world.now c.count_in.new.world c.requires.orders
      c.in-Err.ensures.idle.0 c.in-Err.ensures.idle.1.1.1.0 c.in-Err.ensures.idle.1.1.1.1,
)

pub returns-in-Ok-false-clause-left : goal.returns-in-Ok-false-clause-left
returns-in-Ok-false-clause-left g c =
    subst (λ w. IsLeft c.args.world.now.chain w.chain) (sym (c.in-Ok-false.ensures.idle c.in-Ok-false.field-0-test).1.1)
    (counted_left _ c.args.slot c.args.store c.args.receipt c.args.management.now c.count_in.new.self c.args.world.now c.count_in.new.world c.requires.orders c.in-Ok.ensures.counted c.requires.quiet)

pub returns-in-Err-end_join-clause-refused : goal.returns-in-Err-end_join-clause-refused
returns-in-Err-end_join-clause-refused g c =
    let counts = c.in-Ok.ensures.counted in
    let begins = c.in-Ok-true.ensures.begun c.in-Ok-true.field-0-test in
    let only : c.begin_join.new.self ≡ record c.args.management.now { manager = c.begin_join.new.self.manager } =
    only_manager_then c.args.management.now c.count_in.new.self c.begin_join.new.self _ (only_manager c.args.management.now c.count_in.new.self _ counts.are) begins.are in
    let disk_is = ap (λ (m : Managing _). m.disk) only in
    let config_is = ap (λ (m : Managing _). m.config) only in
    record {
      counted = counted_still _ c.args.slot c.args.store c.begin_join.new.self c.end_join.new.self c.begin_join.new.world c.end_join.new.world c.in-Err-end_join.ensures.manager c.in-Err-end_join.ensures.world
          (begun_counted _ c.args.slot c.args.store c.count_in.new.self c.begin_join.new.self c.count_in.new.world c.begin_join.new.world begins
          (counted _ c.args.slot c.args.store c.args.receipt c.args.management.now c.count_in.new.self c.args.world.now c.count_in.new.world c.requires.orders counts));
      told = c.in-Err-end_join.ensures.told;
      later = subst (λ d. g.C.Disk.failures d ≤ g.C.Disk.failures c.end_join.new.self.disk) disk_is c.end_join.ensures.cause.later;
      cause = subst (λ d. IsCaused (g.C.Disk.failures d) (g.C.Disk.failures c.end_join.new.self.disk) c.in-Err-end_join.refusal) disk_is c.in-Err-end_join.ensures.cause.failed;
      broken = λ is. ap (λ (k : State). k.pair.broken) (sym config_is) ∙ c.end_join.ensures.broken (c.in-Err-end_join.is ∙ ap Err is);
      not_next = λ is next writing. subst (λ (k : State). ¬ IsNext k next.epoch) config_is
          (c.end_join.ensures.not_next (c.in-Err-end_join.is ∙ ap Err is) next (ap (λ (w : worlds.Seen _). w.chain.writing) (sym c.in-Err-end_join.ensures.world) ∙ writing));
    }

pub returns-in-Err-end_join-clause-left : goal.returns-in-Err-end_join-clause-left
returns-in-Err-end_join-clause-left g c =
    subst (λ w. IsLeft c.args.world.now.chain w.chain) (sym c.in-Err-end_join.ensures.world)
    (begun_left _ c.args.slot c.args.store c.count_in.new.self c.begin_join.new.self c.count_in.new.world c.begin_join.new.world (c.in-Ok-true.ensures.begun c.in-Ok-true.field-0-test) c.args.world.now.chain
    (counted_left _ c.args.slot c.args.store c.args.receipt c.args.management.now c.count_in.new.self c.args.world.now c.count_in.new.world c.requires.orders c.in-Ok.ensures.counted c.requires.quiet))
