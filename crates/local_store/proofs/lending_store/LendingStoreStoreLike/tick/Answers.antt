use Rattle.std.proofs.Common.{refl}
use Rattle.gate_journal.specs.Journal.{IsSettled}
use Rattle.local_store.proofs.Away.{has_border, keeps_still, leaves_still, still_away, still_here, still_lent}
use Rattle.local_store.proofs.lending_store.LendingStoreStoreLike.tick.Goals as goal

pub tick-requires : goal.tick-requires
tick-requires g c = let s = c.args.self.now in record { on_disk = has_border s.lent s.contents (g.D.Disk.size s.disk) g.D.HalvedDisk.cut_at g.D.HalvedDisk.whole s.here s.away }

pub invariant_of-self-clause-here : goal.invariant_of-self-clause-here
invariant_of-self-clause-here g c = let s = c.args.self.now in still_here _ s.contents c.tick.new.self (g.D.Disk.size s.disk) (g.D.Disk.size c.tick.new.disk) c.tick.ensures.same c.tick.ensures.size s.here

pub invariant_of-self-clause-away : goal.invariant_of-self-clause-away
invariant_of-self-clause-away g c = let s = c.args.self.now in λ l is. still_away s.contents c.tick.new.self (g.D.Disk.size s.disk) (g.D.Disk.size c.tick.new.disk) c.tick.ensures.same c.tick.ensures.size (s.away l is)

pub invariant_of-self-clause-remembers : goal.invariant_of-self-clause-remembers
invariant_of-self-clause-remembers g c = let s = c.args.self.now in λ l is. still_lent s.lender.loans l s.contents c.tick.new.self c.tick.ensures.same (s.remembers l is)

pub returns-clause-kept : goal.returns-clause-kept
returns-clause-kept g c = λ keeps v kept.
    let s = c.args.self.now in
    keeps_still s.lent (λ l. g.D.HalvedDisk.left_before l.past (g.D.HalvedDisk.until l.past)) (λ l j bs. IsSettled j bs (g.D.Log.Disk.gives l.was.value) (g.D.Log.Disk.may_leave_now l.was.value)) s.contents c.tick.new.self v (g.D.Disk.gives s.disk) (g.D.Disk.gives c.tick.new.disk) (g.D.Disk.may_leave_now s.disk) (g.D.Disk.may_leave_now c.tick.new.disk) c.tick.result
    c.tick.ensures.same (λ was. c.tick.ensures.stored keeps v was) (λ batches was. c.tick.ensures.home_kept keeps v batches was) kept

pub returns-clause-any_moment : goal.returns-clause-any_moment
returns-clause-any_moment g c = λ keeps v kept.
    let s = c.args.self.now in
    leaves_still s.lent (λ l. g.D.HalvedDisk.cut_at l.past) (λ l. g.D.HalvedDisk.left_before l.past (g.D.HalvedDisk.until l.past)) (λ l j bs. IsSettled j bs (g.D.Log.Disk.gives l.was.value) (g.D.Log.Disk.may_leave_now l.was.value)) (λ s. s.disk) (λ s. s.lent) _ _ refl refl s.contents v (g.D.Disk.gives s.disk) (g.D.Disk.may_leave_now s.disk)
    (λ l is. (s.away l is).cut) (λ was. c.tick.ensures.any_moment keeps v was) (λ batches was. c.tick.ensures.home_moment keeps v batches was) kept
