use Rattle.std.proofs.Common.{◌≡◌, subst}
use Rattle.std.specs.Prelude.{IfSome}
use Rattle.local_store.specs.Installer.{finished_meaning}
use Rattle.local_store.specs.Meaning.{Means}
use Rattle.managing.specs.Joiner.{HasTakenSo}
use Rattle.managing.proofs.Joined.{at_slot}
use Rattle.managing.proofs.joiner.Joiner+Store+D+D+J.take.Goals as goal

pub returns-in_ok-whole-in-Some-clause-ready : goal.returns-in_ok-whole-in-Some-clause-ready
returns-in_ok-whole-in-Some-clause-ready g c = λ premise sb copy so_far front is.
    let gives = g.D.Disk.gives in
    let leaves = g.D.Disk.may_leave_now in
    let taken = subst (HasTakenSo gives leaves sb copy) c.in-Receives.is so_far in
    let means = subst (λ o. IfSome o (λ ready. Means (finished_meaning sb front copy) (gives ready.disk))) c.in-Some.is (c.in-Ok.ensures.means premise sb copy taken front is) in
    let receipt = at_slot gives leaves sb copy c.in-Receives.receiver.installation (λ slot. c.in-Some.field-0.receipt ≡ record { slot = slot; front = front }) taken
    (λ i there. subst (λ o. IfSome o (λ ready. ready.receipt ≡ record { slot = i.home.superblock.slot; front = front })) c.in-Some.is (c.in-Ok.ensures.receipt i there front is)) in
    (c.in_ok-whole-in-Some.ensures.kept premise sb front copy means, receipt)
