use Rattle.std.proofs.Common.{Result, ◌∙◌, ap, sym}
use Rattle.std.specs.Prelude.{Option, true}
use Rattle.disk_model.specs.Halves.{Rejoins}
use Rattle.gate_journal.specs.Receipt.{Receipt}
use Rattle.gate_journal.specs.declared.refusal.Refusal.{Refusal as JournalRefusal}
use Rattle.local_store.specs.About.{about_of}
use Rattle.local_store.specs.Away.{lent_batch}
use Rattle.loans.specs.Sides.{Side}
use Rattle.local_store.specs.Lending.{Lending}
use Rattle.local_store.specs.Store.{State}
use Rattle.local_store.specs.declared.lent.Lent.{Lent}
use Rattle.local_store.proofs.Away.{for_it_of}
use Rattle.local_store.proofs.lending_store.LendingStore.take_back.Goals as goal

pub returns-clause-about : goal.returns-clause-about
returns-clause-about g c =
    ap (λ (t : State). record (about_of t) { lent = lent_batch c.take.new.self }) c.give_up.ensures
    ∙ ap (λ (o : Option (Lent g.row.D-Past.Denot g.row.D-Log.Denot)). record (about_of c.args.self.now.contents) { broken = true; lent = lent_batch o }) c.take.ensures.after

pub returns-clause-time : goal.returns-clause-time
returns-clause-time g c = λ keeps.
    let s = c.args.self.now in
    for_it_of s.lent c.in-Some.lent (λ l x. Rejoins (g.D.HalvedDisk.until l.past) (g.D.Disk.moment c.return_log.new.self) (g.D.HalvedDisk.left_before l.past) (g.D.Disk.may_have_left_since c.return_log.new.self) (g.D.HalvedDisk.cut_at l.past)
    (g.D.Disk.may_have_left_since s.disk 0) (g.D.Log.Disk.may_have_left_since x 0)) c.taken-log.result.0 c.args.done.log
    (sym c.in-Some.ensures.value) (ap (λ (p : g.row.D-Log.Denot × Result Receipt JournalRefusal × Side (Lending g.row.D-Log.Denot)). p.0) c.taken-log.ensures.parts) (c.return_log.ensures.time keeps)
