use Rattle.gate_journal.specs.Journal.{IsSettled}
use Rattle.local_store.specs.KeptAway.{none_lent}
use Rattle.local_store.proofs.Away.{none_is, owned_with, stored_here}
use Rattle.local_store.proofs.lending_store.LendingStoreStoreLike.checkpoint.Goals as goal

pub checkpoint-requires : goal.checkpoint-requires
checkpoint-requires g c = let s = c.args.self.now in record { on_disk = s.here (none_lent s.lent c.requires.here) }

pub returns-clause-any_moment : goal.returns-clause-any_moment
returns-clause-any_moment g c = λ keeps v kept.
    let s = c.args.self.now in
    owned_with _ (λ l. g.D.HalvedDisk.cut_at l.past) (λ l. g.D.HalvedDisk.left_before l.past (g.D.HalvedDisk.until l.past)) (λ s. s.disk) (λ s. s.lent) _ _ _ _ (none_is s.lent (none_lent s.lent c.requires.here)) (none_is s.lent (none_lent s.lent c.requires.here)) (λ c p. p)
    (c.checkpoint.ensures.any_moment keeps v (stored_here s.lent (λ l. g.D.HalvedDisk.left_before l.past (g.D.HalvedDisk.until l.past)) (λ l j bs. IsSettled j bs (g.D.Log.Disk.gives l.was.value) (g.D.Log.Disk.may_leave_now l.was.value)) s.contents v (g.D.Disk.gives s.disk) (g.D.Disk.may_leave_now s.disk) (none_lent s.lent c.requires.here) kept))
