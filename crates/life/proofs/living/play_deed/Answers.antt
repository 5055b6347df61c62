use Rattle.std.proofs.Common.{◌*◌, ap, subst, sym, ◌∙◌}
use Rattle.candidate.specs.Orders.{Notes}
use Rattle.chain.specs.Chain.{Chained}
use Rattle.life.specs.Played.{fed_by, handed_by}
use Rattle.life.proofs.Copied.{noted_keeps, one_volume_noted}
use Rattle.life.proofs.Deeds.{does_sizes}
use Rattle.life.proofs.Outside.{outside_as}
use Rattle.life.proofs.Starting.{IsStore, about_of_store, disk_in, failures_in, keeps_volume, leaves_now, left_in, moment_in, pends_in}
use Rattle.volume.specs.declared.geometry.Geometry.{Geometry}
use Rattle.life.proofs.living.play_deed.Goals as goal

pub returns-clause-does : goal.returns-clause-does
returns-clause-does c = record {
  unnoted = c.do_deed-answer.new.managed;
  did = c.do_deed-answer.ensures.does;
  noted = subst (λ (chain : Chained IsStore). Notes chain c.do_deed-answer.new.managed.candidate c.note.new.self.candidate) (sym (ap (λ w. w.world.chain) c.note.ensures.same)) c.note.ensures.noted;
  same = c.note.ensures.same;
  outside = outside_as c.args.managed.now c.do_deed-answer.new.managed c.note.new.self (ap (λ w. w.outside) c.note.ensures.same) c.do_deed-answer.ensures.outside;
  outside_stay = λ other. ap (λ w. w.outside) c.note.ensures.same ∙ c.do_deed-answer.ensures.outside_stay other;
}

pub returns-clause-outside : goal.returns-clause-outside
returns-clause-outside c = outside_as c.args.managed.now c.do_deed-answer.new.managed c.note.new.self (ap (λ w. w.outside) c.note.ensures.same) c.do_deed-answer.ensures.outside

pub returns-clause-one_volume : goal.returns-clause-one_volume
returns-clause-one_volume c =
    one_volume_noted about_of_store keeps_volume leaves_now (fed_by c.args.deed.now c.do_deed-answer.result) (handed_by c.args.deed.now c.do_deed-answer.result) c.args.managed.now c.do_deed-answer.new.managed c.note.new.self
    (ap (λ w. w.world) c.note.ensures.same) c.do_deed-answer.ensures.one_volume

pub returns-clause-copy : goal.returns-clause-copy
returns-clause-copy c =
    noted_keeps about_of_store keeps_volume leaves_now c.args.managed.now c.do_deed-answer.new.managed c.note.new.self (ap (λ w. w.world) c.note.ensures.same)
    (ap (λ (g : Geometry). 4096 * g.blocks) (does_sizes about_of_store (Unit {0}) keeps_volume pends_in leaves_now moment_in left_in failures_in disk_in c.args.deed.now c.do_deed-answer.result c.args.managed.now c.do_deed-answer.new.managed c.do_deed-answer.ensures.does))
    c.do_deed-answer.ensures.copy c.note.ensures.copy
