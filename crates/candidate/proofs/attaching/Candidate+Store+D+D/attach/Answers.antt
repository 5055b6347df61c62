use Rattle.std.proofs.Common.{List, ℕ, ◌*◌, ◌≤◌, suc, length, ap, refl, sym, subst, ◌≡◌, ◌∙◌, arith, true, false}
use Rattle.std.specs.Prelude.{IfSome, None, Option, Some}
use Rattle.std.proofs.lemmas.List.{length-replicate}
use Rattle.local_store.specs.About.{about_of}
use Rattle.local_store.specs.Installer.{unfinished}
use Rattle.local_store.specs.Store.{IsStored}
use Rattle.local_store.specs.declared.store.Store as stores
use Rattle.chain.specs.Chain.{bytes_of}
use Rattle.chain.specs.Member.{Linked}
use Rattle.chain_model.specs.View.{is_in}
use Rattle.joining.specs.Copying.{IsCopyOf}
use Rattle.manager.specs.Orders.{order_slot}
use Rattle.world_model.specs.Machine.{machine_volume}
use Rattle.candidate.proofs.Shown.{shown_at}
use Rattle.candidate.proofs.attaching.Candidate+Store+D+D.attach.Goals as goal

abbrev or_zero : Option ℕ → ℕ
or_zero None = 0
or_zero (Some n) = n

pub returns-in-Ok-clause-begins : goal.returns-in-Ok-clause-begins
returns-in-Ok-clause-begins g c = λ keeps slot order volume long done.
    let world = c.args.world.now.chain in
    let copying = c.in-Ok.copying in
    let at : c.in-Attach.slot ≡ slot = ap (λ o. or_zero (order_slot o)) (c.in-Attach.ensures ∙ order) in
    let its : c.number-2.result ≡ suc world.recorded.epoch = omega (arith, c.number-2.ensures.number, c.in-Some-new.ensures.value, c.number.ensures.number, c.epoch.ensures, ap (λ r. r.epoch) c.recorded.ensures) in (
      ap (λ x. x.given) c.in-Ok.ensures.begun,
      subst (λ (n : ℕ). IsCopyOf g.D.Disk.gives g.D.Disk.may_leave_now (unfinished n (suc world.recorded.epoch) world.geometry) volume copying) at
          (subst (λ (n : ℕ). IsCopyOf g.D.Disk.gives g.D.Disk.may_leave_now (unfinished c.in-Attach.slot n world.geometry) volume copying) its (c.in-Ok.ensures.copies keeps volume long)),
    )

pub returns-in-Ok-clause-copy : goal.returns-in-Ok-clause-copy
returns-in-Ok-clause-copy g c = λ keeps v s shows stands had runs.
    let about = λ (x : stores.Store g.row.D.Denot g.D.Disk). about_of x.contents in
    let kept = λ (x : stores.Store g.row.D.Denot g.D.Disk) (volume : List ℕ). IsStored x.contents volume (g.D.Disk.gives x.disk) (g.D.Disk.may_leave_now x.disk) in
    let leaves = λ (x : stores.Store g.row.D.Denot g.D.Disk). g.D.Disk.may_leave_now x.disk in
    let tail = c.in-Some.ensures.there in
    let m = tail.stands.member in
    let recorded : is_in c.args.world.now.chain.recorded m.node.state.place.slot m.node.state.incarnation ≡ true =
    subst (λ (n : ℕ). is_in c.args.world.now.chain.recorded n m.node.state.incarnation ≡ true) (sym tail.stands.slot_is) tail.stands.recorded in
    let has = shown_at about kept leaves c.each_disk_has_what_is_owed.ensures.owed c.args.world.now v s shows stands c.sound.ensures.inside c.in-Some.at m tail.stands.here recorded in
    let (taken, machine, long) = has.at_front m.node.state.known has.is.behind (omega arith) in
    let front : c.in-Ok.copying.front ≡ m.node.state.known =
    subst (λ (o : Option (Linked (stores.Store g.row.D.Denot g.D.Disk))). IfSome o (λ x. c.in-Ok.copying.front ≡ x.node.state.known)) tail.stands.here c.in-Ok.ensures.front in
    let marks : length c.in-Ok.copying.sender.marks ≡ c.args.world.now.chain.geometry.blocks = ap (λ x. length x.marks) c.in-Ok.ensures.begun ∙ length-replicate c.args.world.now.chain.geometry.blocks false in
    record {
      sb = unfinished c.in-Attach.slot c.number-2.result c.args.world.now.chain.geometry;
      its = omega (arith, c.number-2.ensures.number, c.in-Some-new.ensures.value, c.number.ensures.number, c.epoch.ensures, ap (λ r. r.epoch) c.recorded.ensures);
      blocks = ap (λ (n : ℕ). 4096 * n) (sym marks);
      taken = subst (λ (n : ℕ). n ≤ length s.taken) (sym front) taken;
      long = ap (λ (n : ℕ). length (machine_volume (bytes_of c.args.world.now.chain) s n)) front ∙ long;
      copy = c.in-Ok.ensures.copies keeps (machine_volume (bytes_of c.args.world.now.chain) s c.in-Ok.copying.front) (ap (λ (n : ℕ). length (machine_volume (bytes_of c.args.world.now.chain) s n)) front ∙ long);
    }

pub returns-in-Err-clause-attaches : goal.returns-in-Err-clause-attaches
returns-in-Err-clause-attaches g c = record {
  attached = tt;
  idle = tt;
  refused = (c.in-Err.ensures.told, c.at_once.result, c.in-Attach.slot, c.in-Nobody.is, refl, sym c.in-Attach.ensures, refl);
}
