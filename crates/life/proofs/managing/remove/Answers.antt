use Rattle.std.proofs.Common.{◌≡◌, ap, ◌∙◌}
use Rattle.clients.specs.Clients.{no_one}
use Rattle.life.specs.Played.{handed_of}
use Rattle.life.proofs.Answering.{done_so, silent_none, still}
use Rattle.life.proofs.Copied.{apart_anyhow, apart_same}
use Rattle.life.proofs.Starting.{about_of_store, keeps_volume, leaves_now}
use Rattle.life.proofs.managing.remove.Goals as goal
use Rattle.life.proofs.managing.remove.Goals.{in-Ok, in-Err}

pub returns-clause-one_volume : goal.returns-clause-one_volume
returns-clause-one_volume c =
    let none : handed_of c.match-remove.result ≡ no_one = elim c.match-remove.branch [ in-Ok w ↦ ap handed_of w.result-is ∙ silent_none _ w.silent.ensures | in-Err w ↦ ap handed_of w.result-is ] in
    apart_anyhow about_of_store keeps_volume leaves_now no_one (handed_of c.match-remove.result) _ _ _ c.managed.view_is
    (done_so about_of_store keeps_volume leaves_now c.managed.inside.world c.managed.inside.world no_one c.match-remove.result none (still about_of_store keeps_volume leaves_now c.managed.inside.world))

pub returns-clause-copy : goal.returns-clause-copy
returns-clause-copy c = apart_same about_of_store keeps_volume leaves_now _ _ _ c.managed.view_is
