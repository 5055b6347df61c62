use Rattle.std.proofs.Common.{◌≡◌, ℕ, List, subst, sym}
use Rattle.candidate.specs.Copies.{IsOfOneVolumeCopied}
use Rattle.clients.specs.Clients.{no_one}
use Rattle.disk_model.specs.Memory.{given_of, may_be_left}
use Rattle.flush_barrier.specs.declared.session_id.SessionId.{SessionId}
use Rattle.life.specs.Played.{handed_of}
use Rattle.life.proofs.Answering.{done_none}
use Rattle.life.proofs.Copied.{apart_copied, apart_kept}
use Rattle.life.proofs.Starting.{about_of_store, keeps_volume, leaves_now}
use Rattle.life.proofs.admitting.count_in.Goals as goal

pub returns-clause-one_volume : goal.returns-clause-one_volume
returns-clause-one_volume c =
    let none : handed_of c.done.result ≡ no_one = done_none c.count_in-counted.result _ c.done.ensures in
    apart_copied about_of_store keeps_volume leaves_now no_one (handed_of c.done.result) _ _ _ c.managed.view_is
    (λ incarnation. subst (λ (handed : SessionId → List ℕ). IsOfOneVolumeCopied given_of may_be_left about_of_store keeps_volume leaves_now no_one handed incarnation c.managed.inside.candidate c.managed.inside.world c.count_in-counted.new.world)
    (sym none) (c.count_in-counted.ensures.one_volume tt incarnation))

pub returns-clause-copy : goal.returns-clause-copy
returns-clause-copy c = apart_kept about_of_store keeps_volume leaves_now _ _ _ _ c.managed.view_is (c.count_in-counted.ensures.copy tt)
