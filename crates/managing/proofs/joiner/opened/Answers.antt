use Rattle.std.proofs.Common.{List, ℕ, ap, subst}
use Rattle.local_store.specs.Meaning.{Meaning}
use Rattle.local_store.specs.Store.{IsStored}
use Rattle.managing.proofs.Joined.{has_volume}
use Rattle.managing.proofs.joiner.opened.Goals as goal

pub returns-in-Two : goal.returns-in-Two
returns-in-Two g c = record {
  kept = λ keeps sb front volume means.
      let (v, stored, is) = c.in-Ok.ensures.stored keeps in
      let one = c.disks_mean_one.ensures _ _ (g.D.Disk.gives c.args.disk) is means in
      let kept = subst (λ (x : List ℕ). IsStored c.in-Ok.store.contents x (g.D.Disk.gives c.in-Ok.store.disk) (g.D.Disk.may_leave_now c.in-Ok.store.disk)) (ap (λ (m : Meaning). m.volume) one) stored in
      has_volume _ _ sb front volume c.in-Ok.store _ c.new.ensures kept (ap (λ (m : Meaning). m.slot) one) (ap (λ (m : Meaning). m.incarnation) one) (ap (λ (m : Meaning). m.geometry) one)
      (ap (λ (m : Meaning). m.front) one);
}
