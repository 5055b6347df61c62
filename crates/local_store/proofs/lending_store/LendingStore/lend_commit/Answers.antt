use Rattle.std.proofs.Common.{◌≡◌, ◌≤◌, ◌<◌, ℕ, List, ◌∙◌, ap, refl, subst, sym}
use Rattle.std.specs.Prelude.{All, Some}
use Rattle.std.proofs.Math.Nat.{le_refl}
use Rattle.std.proofs.lemmas.Bool.{both_ways}
use Rattle.disk_model.specs.Halves.{AreHalves}
use Rattle.disk_model.specs.Moments.{goes_on}
use Rattle.gate_journal.specs.Batch.{Batch}
use Rattle.gate_journal.specs.Journal as journal
use Rattle.gate_journal.specs.Journal.{IsSettled}
use Rattle.gate_journal.specs.Image.{Image}
use Rattle.home_blocks.specs.Places.{disk_size_of}
use Rattle.local_store.specs.About.{about_of}
use Rattle.loans.specs.Sides.{last_of}
use Rattle.local_store.specs.Away.{IsKeptOver, IsLent, batch_in, lending_in, twin_of}
use Rattle.local_store.specs.Kept.{stored_means}
use Rattle.local_store.specs.Meaning.{Means}
use Rattle.local_store.specs.Store.{geometry_of, meaning_in}
use Rattle.local_store.specs.declared.lent.Lent.{Lent}
use Rattle.local_store.proofs.Away.{for_some, kept_here, lent_over, lent_settled, on_err, stored_here, stored_untouched}
use Rattle.local_store.proofs.Stored.{at_rest}
use Rattle.local_store.proofs.lending_store.LendingStore.lend_commit.Goals as goal

pub returns-in-Err-clause-kept : goal.returns-in-Err-clause-kept
returns-in-Err-clause-kept g c = λ keeps v kept.
    let s = c.args.self.now in
    let before = λ (l : Lent g.row.D-Past.Denot g.row.D-Log.Denot). g.D.HalvedDisk.left_before l.past (g.D.HalvedDisk.until l.past) in
    let had = λ (l : Lent g.row.D-Past.Denot g.row.D-Log.Denot) (j : journal.State) (bs : List Batch). IsSettled j bs (g.D.Log.Disk.gives l.was.value) (g.D.Log.Disk.may_leave_now l.was.value) in
    let same = c.in-Err.ensures.unlent keeps in
    kept_here s.lent before had s.contents v (g.D.Disk.gives c.lend_log.new.self) (g.D.Disk.may_leave_now c.lend_log.new.self) c.requires.here
    (stored_untouched same.shown same.leaves (stored_here s.lent before had s.contents v (g.D.Disk.gives s.disk) (g.D.Disk.may_leave_now s.disk) c.requires.here kept))

pub invariant_of-self-2 : goal.invariant_of-self-2
invariant_of-self-2 g c =
    let s = c.args.self.now in
    let border = c.border-border.ensures in
    let staged = c.in_ok-staged.ensures in
    let log = c.in-Ok.lent.0 in
    record {
      here = λ here. absurd (both_ways _ here refl);
      away = for_some _ (λ l. IsLent s.contents (g.D.Disk.size c.lend_log.new.self) (g.D.HalvedDisk.cut_at l.past) (g.D.HalvedDisk.whole l.past) l.len (batch_in l)) (record {
        home = c.in-Ok.ensures.home ∙ border;
        cut = c.in-Ok.ensures.sizes.0 ∙ border;
        whole = c.in-Ok.ensures.sizes.1 ∙ sym c.len-len.ensures;
        room = subst (λ (n : ℕ). disk_size_of (geometry_of s.contents) ≤ n) (sym c.len-len.ensures) (s.here c.requires.here);
        within = subst (λ (images : List Image). All (λ image. image.block < (geometry_of s.contents).blocks) images) (sym staged) c.requires.images.within;
        limit = c.requires.limit;
        fits = subst (journal.Fits s.contents.journal) (sym staged) c.in_ok-size.ensures.fits;
      });
      remembers = for_some _ (λ l. last_of c.lend.new.self.loans ≡ Some (lending_in s.contents l)) (c.lend.ensures.last
          ∙ ap (λ (j : journal.State). Some (record { log = log; journal = j; batch = record { front = c.args.front; images = c.in_ok-images.images.items } })) c.twin.ensures.twin
          ∙ ap (λ (i : List Image). Some (record { log = log; journal = twin_of s.contents; batch = record { front = c.args.front; images = i } })) (c.in_ok-images.ensures ∙ sym staged)
          ∙ ap (λ (x : g.row.D-Log.Denot). Some (record { log = x; journal = twin_of s.contents; batch = record { front = c.args.front; images = c.in_ok-staged.staged.items } })) (sym c.of.ensures));
      paired = λ side none. absurd (cc);
      kept = λ here. absurd (both_ways _ here refl);
    }

pub returns-clause-log : goal.returns-clause-log
returns-clause-log g c = λ keeps v was.
    let s = c.args.self.now in
    let home = c.lend_log.new.self in
    let log = c.in-Ok.lent.0 in
    let past = c.in-Ok.lent.1 in
    let border = c.border-border.ensures in
    let size = c.in-Ok.ensures.home ∙ border in
    let halves = subst (λ (n : ℕ). AreHalves n (g.D.Disk.gives s.disk) (g.D.Disk.gives home) (g.D.Log.Disk.gives log) (g.D.Disk.may_leave_now s.disk) (g.D.Disk.may_leave_now home) (g.D.Log.Disk.may_leave_now log)) border (c.in-Ok.ensures.halves keeps) in
    let long = g.met.D.Disk.gives_size keeps home ∙ size in
    let before = c.in-Ok.ensures.past keeps in (
      subst (λ (j : journal.State). IsSettled j was.batches (g.D.Log.Disk.gives log) (g.D.Log.Disk.may_leave_now log)) (sym c.twin.ensures.twin) (lent_settled s.contents v halves long (g.met.D.Disk.leaves_gives keeps home) was),
      for_some _ (λ l. IsKeptOver s.contents v was.batches (g.D.Disk.gives home) (g.D.Disk.may_leave_now home) (g.D.HalvedDisk.left_before l.past (g.D.HalvedDisk.until l.past)))
          (lent_over s.contents v halves long (λ a left. g.met.D.Disk.leaves_size keeps home a left ∙ size) (g.met.D.Log.Disk.leaves_gives (g.met.D.HalvedDisk.log_keeps keeps) log)
          (g.D.HalvedDisk.left_before past (g.D.HalvedDisk.until past))
          (λ d may. g.met.D.Disk.only_now keeps s.disk d (before.nothing_else (g.D.Disk.moment s.disk) d (le_refl (g.D.Disk.moment s.disk)) (subst (λ (n : ℕ). g.D.HalvedDisk.left_before past n d) before.at may))) was),
    )

pub returns-clause-kept : goal.returns-clause-kept
returns-clause-kept g c = λ keeps v kept.
    let s = c.args.self.now in
    let before = λ (l : Lent g.row.D-Past.Denot g.row.D-Log.Denot). g.D.HalvedDisk.left_before l.past (g.D.HalvedDisk.until l.past) in
    let had = λ (l : Lent g.row.D-Past.Denot g.row.D-Log.Denot) (j : journal.State) (bs : List Batch). IsSettled j bs (g.D.Log.Disk.gives l.was.value) (g.D.Log.Disk.may_leave_now l.was.value) in
    let was = stored_here s.lent before had s.contents v (g.D.Disk.gives s.disk) (g.D.Disk.may_leave_now s.disk) c.requires.here kept in
    let home = c.lend_log.new.self in
    let log = c.in-Ok.lent.0 in
    let past = c.in-Ok.lent.1 in
    let border = c.border-border.ensures in
    let size = c.in-Ok.ensures.home ∙ border in
    let halves = subst (λ (n : ℕ). AreHalves n (g.D.Disk.gives s.disk) (g.D.Disk.gives home) (g.D.Log.Disk.gives log) (g.D.Disk.may_leave_now s.disk) (g.D.Disk.may_leave_now home) (g.D.Log.Disk.may_leave_now log)) border (c.in-Ok.ensures.halves keeps) in
    let long = g.met.D.Disk.gives_size keeps home ∙ size in
    let earlier = c.in-Ok.ensures.past keeps in (
      was.batches,
      lent_over s.contents v halves long (λ a left. g.met.D.Disk.leaves_size keeps home a left ∙ size) (g.met.D.Log.Disk.leaves_gives (g.met.D.HalvedDisk.log_keeps keeps) log)
          (g.D.HalvedDisk.left_before past (g.D.HalvedDisk.until past))
          (λ d may. g.met.D.Disk.only_now keeps s.disk d (earlier.nothing_else (g.D.Disk.moment s.disk) d (le_refl (g.D.Disk.moment s.disk)) (subst (λ (n : ℕ). g.D.HalvedDisk.left_before past n d) earlier.at may))) was,
      subst (λ (x : g.row.D-Log.Denot). IsSettled (twin_of s.contents) was.batches (g.D.Log.Disk.gives x) (g.D.Log.Disk.may_leave_now x)) (sym c.of.ensures) (lent_settled s.contents v halves long (g.met.D.Disk.leaves_gives keeps home) was),
    )

pub returns-in_err-size-clause-at_rest : goal.returns-in_err-size-clause-at_rest
returns-in_err-size-clause-at_rest g c = λ keeps v was. on_err c.from_residual.result (at_rest c.args.self.now.disk was.stands was (g.met.D.Disk.only_now keeps c.args.self.now.disk))

pub returns-in_err-staged-clause-at_rest : goal.returns-in_err-staged-clause-at_rest
returns-in_err-staged-clause-at_rest g c = λ keeps v was. on_err c.from_residual-in_err-staged.result (at_rest c.args.self.now.disk was.stands was (g.met.D.Disk.only_now keeps c.args.self.now.disk))

pub returns-in_err-images-clause-at_rest : goal.returns-in_err-images-clause-at_rest
returns-in_err-images-clause-at_rest g c = λ keeps v was. on_err c.from_residual-in_err-images.result (at_rest c.args.self.now.disk was.stands was (g.met.D.Disk.only_now keeps c.args.self.now.disk))

pub returns-in-Err-clause-at_rest : goal.returns-in-Err-clause-at_rest
returns-in-Err-clause-at_rest g c = λ keeps v was.
    let s = c.args.self.now in
    let d = g.D.Disk in
    let same = c.in-Err.ensures.unlent keeps in
    goes_on d.moment d.may_have_left_since s.disk s.disk c.lend_log.new.self (Means (meaning_in s.contents v)) (d.may_leave_now c.lend_log.new.self)
    (at_rest s.disk was.stands was (g.met.D.Disk.only_now keeps s.disk)) same.time (λ x left. stored_means was.stands was x (same.leaves x left))

pub returns-clause-about : goal.returns-clause-about
returns-clause-about g c = ap (λ (l : List Image). record (about_of c.args.self.now.contents) { lent = Some (record { front = c.args.front; images = l }) }) c.in_ok-staged.ensures
