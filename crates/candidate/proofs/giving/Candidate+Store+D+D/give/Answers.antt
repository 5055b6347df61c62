use Rattle.std.proofs.Common.{List, ℕ, ap, refl, sym, subst, ◌≡◌, ◌∙◌}
use Rattle.local_store.specs.About.{about_of}
use Rattle.local_store.specs.Store.{IsStored}
use Rattle.local_store.specs.declared.store.Store as stores
use Rattle.chain.specs.Chain.{bytes_of}
use Rattle.world.proofs.InnerSteps.{rests_so}
use Rattle.candidate.specs.Copies.{HasCopy}
use Rattle.candidate.specs.declared.candidate.Candidate.TheVariants.{Copying}
use Rattle.candidate.proofs.Copied.{copy_stays, stays_as}
use Rattle.candidate.proofs.Given.{given_is, stopped_same}
use Rattle.std.specs.Prelude.{Err, None, Some}
use Rattle.clients.specs.Clients.{no_one}
use Rattle.joining.specs.Copying.{Seen}
use Rattle.joining.specs.Giving.{RefusesGiving, handed_giving}
use Rattle.local_store.specs.Refusal.{IsCaused}
use Rattle.rejoin_catchup.specs.Receiving.{disk_of}
use Rattle.candidate.proofs.Refusals.{led_on}
use Rattle.joining.specs.declared.refusal.NotGiven.{NotGiven}
use Rattle.joining.specs.declared.refusal.NotGiven.TheVariants as not_given
use Rattle.world.specs.World.{IsOfOneVolume}
use Rattle.candidate.proofs.giving.Candidate+Store+D+D.give.Goals as goal

pub returns-in_default : goal.returns-in_default
returns-in_default g c =
    let about = λ (x : stores.Store g.row.D.Denot g.D.Disk). about_of x.contents in
    let kept = λ (x : stores.Store g.row.D.Denot g.D.Disk) (volume : List ℕ). IsStored x.contents volume (g.D.Disk.gives x.disk) (g.D.Disk.may_leave_now x.disk) in
    let leaves = λ (x : stores.Store g.row.D.Denot g.D.Disk). g.D.Disk.may_leave_now x.disk in
    record {
      gives = (refl, refl, λ d is. absurd (c.in_default.not-Copying d is));
      cause = tt;
      copy = λ keeps incarnation v w s t moves shows stands run shows_then stands_then had. copy_stays g.D.Disk.gives g.D.Disk.may_leave_now about kept (bytes_of c.args.world.now.chain) s t moves run incarnation c.args.self.now had;
      one_volume = λ keeps. rests_so about kept leaves c.args.world.now c.args.world.now refl;
    }

pub returns-then-not-is_noted-clause-copy : goal.returns-then-not-is_noted-clause-copy
returns-then-not-is_noted-clause-copy g c = λ keeps incarnation v w s t moves shows stands run shows_then stands_then had.
    let about = λ (x : stores.Store g.row.D.Denot g.D.Disk). about_of x.contents in
    let kept = λ (x : stores.Store g.row.D.Denot g.D.Disk) (volume : List ℕ). IsStored x.contents volume (g.D.Disk.gives x.disk) (g.D.Disk.may_leave_now x.disk) in
    let leaves = λ (x : stores.Store g.row.D.Denot g.D.Disk). g.D.Disk.may_leave_now x.disk in
    stays_as g.D.Disk.gives g.D.Disk.may_leave_now about kept (bytes_of c.args.world.now.chain) s t moves run incarnation c.args.self.now (Copying c.in-Copying.copying) (sym c.in-Copying.is) had

pub returns-then-not-is_noted-clause-one_volume : goal.returns-then-not-is_noted-clause-one_volume
returns-then-not-is_noted-clause-one_volume g c = λ keeps.
    let about = λ (x : stores.Store g.row.D.Denot g.D.Disk). about_of x.contents in
    let kept = λ (x : stores.Store g.row.D.Denot g.D.Disk) (volume : List ℕ). IsStored x.contents volume (g.D.Disk.gives x.disk) (g.D.Disk.may_leave_now x.disk) in
    let leaves = λ (x : stores.Store g.row.D.Denot g.D.Disk). g.D.Disk.may_leave_now x.disk in
    rests_so about kept leaves c.args.world.now c.args.world.now refl

pub returns-in-Ok-true-clause-copy : goal.returns-in-Ok-true-clause-copy
returns-in-Ok-true-clause-copy g c = λ keeps incarnation v w s t moves shows stands run shows_then stands_then had.
    let about = λ (x : stores.Store g.row.D.Denot g.D.Disk). about_of x.contents in
    let kept = λ (x : stores.Store g.row.D.Denot g.D.Disk) (volume : List ℕ). IsStored x.contents volume (g.D.Disk.gives x.disk) (g.D.Disk.may_leave_now x.disk) in
    let leaves = λ (x : stores.Store g.row.D.Denot g.D.Disk). g.D.Disk.may_leave_now x.disk in
    let (block, due, given) = c.in-Ok-true.ensures.given c.in-Ok-true.field-0-test in
    let (recorded, noted) = c.is_noted.ensures.0 c.if-not-is_noted.false in
    let was = subst (HasCopy g.D.Disk.gives g.D.Disk.may_leave_now about kept (bytes_of c.args.world.now.chain) s incarnation) c.in-Copying.is had given.runs in
    let is = given_is g.D.Disk.gives g.D.Disk.may_leave_now about kept leaves c.each_disk_has_what_is_owed.ensures.owed c.args.world.now v s shows stands c.sound.ensures.inside incarnation _ _ _ _ block c.in-Copying.copying c.give.new.self c.give.new.world
    recorded noted given (c.in-Ok-true.ensures.copies keeps keeps) was in
    copy_stays {S = stores.Store g.row.D.Denot g.D.Disk} {D = g.row.D.Denot} g.D.Disk.gives g.D.Disk.may_leave_now about kept (bytes_of c.args.world.now.chain) s t moves run incarnation (Copying c.give.new.self) (λ runs. is)

pub returns-in-Err-Stopped-Some-clause-copy : goal.returns-in-Err-Stopped-Some-clause-copy
returns-in-Err-Stopped-Some-clause-copy g c = λ keeps incarnation v w s t moves shows stands run shows_then stands_then had.
    let about = λ (x : stores.Store g.row.D.Denot g.D.Disk). about_of x.contents in
    let kept = λ (x : stores.Store g.row.D.Denot g.D.Disk) (volume : List ℕ). IsStored x.contents volume (g.D.Disk.gives x.disk) (g.D.Disk.may_leave_now x.disk) in
    let leaves = λ (x : stores.Store g.row.D.Denot g.D.Disk). g.D.Disk.may_leave_now x.disk in
    stays_as g.D.Disk.gives g.D.Disk.may_leave_now about kept (bytes_of c.args.world.now.chain) s t moves run incarnation c.args.self.now (Copying c.give.new.self) (ap Copying (stopped_same _ _ _ _ _ _ c.in-Err-Stopped-Some.field-0 (Some c.in-Err-Stopped-Some.told) c.in-Copying.copying c.give.new.self c.args.world.now c.give.new.world c.in-Err-Stopped-Some.ensures.refused (c.in-Err-Stopped-Some.field-0-is ∙ ap not_given.Stopped c.in-Err-Stopped-Some.field-0-0-is)) ∙ sym c.in-Copying.is) had

pub returns-in-Err-Stopped-Some-clause-one_volume : goal.returns-in-Err-Stopped-Some-clause-one_volume
returns-in-Err-Stopped-Some-clause-one_volume g c = λ keeps.
    let about = λ (x : stores.Store g.row.D.Denot g.D.Disk). about_of x.contents in
    let kept = λ (x : stores.Store g.row.D.Denot g.D.Disk) (volume : List ℕ). IsStored x.contents volume (g.D.Disk.gives x.disk) (g.D.Disk.may_leave_now x.disk) in
    let leaves = λ (x : stores.Store g.row.D.Denot g.D.Disk). g.D.Disk.may_leave_now x.disk in
    subst (λ (e : NotGiven). IsOfOneVolume about kept leaves no_one (handed_giving (Err e)) c.args.world.now c.give.new.world) (c.in-Err-Stopped-Some.field-0-is ∙ ap not_given.Stopped c.in-Err-Stopped-Some.field-0-0-is) (c.in-Err-Stopped-Some.ensures.one_volume keeps)

pub returns-in-Err-Stopped-None-clause-copy : goal.returns-in-Err-Stopped-None-clause-copy
returns-in-Err-Stopped-None-clause-copy g c = λ keeps incarnation v w s t moves shows stands run shows_then stands_then had.
    let about = λ (x : stores.Store g.row.D.Denot g.D.Disk). about_of x.contents in
    let kept = λ (x : stores.Store g.row.D.Denot g.D.Disk) (volume : List ℕ). IsStored x.contents volume (g.D.Disk.gives x.disk) (g.D.Disk.may_leave_now x.disk) in
    let leaves = λ (x : stores.Store g.row.D.Denot g.D.Disk). g.D.Disk.may_leave_now x.disk in
    stays_as g.D.Disk.gives g.D.Disk.may_leave_now about kept (bytes_of c.args.world.now.chain) s t moves run incarnation c.args.self.now (Copying c.give.new.self) (ap Copying (stopped_same _ _ _ _ _ _ c.in-Err-Stopped-None.field-0 (None) c.in-Copying.copying c.give.new.self c.args.world.now c.give.new.world c.in-Err-Stopped-None.ensures.refused (c.in-Err-Stopped-None.field-0-is ∙ ap not_given.Stopped c.in-Err-Stopped-None.field-0-0-is)) ∙ sym c.in-Copying.is) had

pub returns-in-Err-Stopped-None-clause-one_volume : goal.returns-in-Err-Stopped-None-clause-one_volume
returns-in-Err-Stopped-None-clause-one_volume g c = λ keeps.
    let about = λ (x : stores.Store g.row.D.Denot g.D.Disk). about_of x.contents in
    let kept = λ (x : stores.Store g.row.D.Denot g.D.Disk) (volume : List ℕ). IsStored x.contents volume (g.D.Disk.gives x.disk) (g.D.Disk.may_leave_now x.disk) in
    let leaves = λ (x : stores.Store g.row.D.Denot g.D.Disk). g.D.Disk.may_leave_now x.disk in
    subst (λ (e : NotGiven). IsOfOneVolume about kept leaves no_one (handed_giving (Err e)) c.args.world.now c.give.new.world) (c.in-Err-Stopped-None.field-0-is ∙ ap not_given.Stopped c.in-Err-Stopped-None.field-0-0-is) (c.in-Err-Stopped-None.ensures.one_volume keeps)

pub returns-in-Err-Refused-clause-one_volume : goal.returns-in-Err-Refused-clause-one_volume
returns-in-Err-Refused-clause-one_volume g c = λ keeps.
    let about = λ (x : stores.Store g.row.D.Denot g.D.Disk). about_of x.contents in
    let kept = λ (x : stores.Store g.row.D.Denot g.D.Disk) (volume : List ℕ). IsStored x.contents volume (g.D.Disk.gives x.disk) (g.D.Disk.may_leave_now x.disk) in
    let leaves = λ (x : stores.Store g.row.D.Denot g.D.Disk). g.D.Disk.may_leave_now x.disk in
    subst (λ (e : NotGiven). IsOfOneVolume about kept leaves no_one (handed_giving (Err e)) c.args.world.now c.give.new.world) c.in-Err-Refused.field-0-is (c.in-Err-Refused.ensures.one_volume keeps)

pub returns-in-Ok-false-clause-copy : goal.returns-in-Ok-false-clause-copy
returns-in-Ok-false-clause-copy g c = λ keeps incarnation v w s t moves shows stands run shows_then stands_then had.
    let about = λ (x : stores.Store g.row.D.Denot g.D.Disk). about_of x.contents in
    let kept = λ (x : stores.Store g.row.D.Denot g.D.Disk) (volume : List ℕ). IsStored x.contents volume (g.D.Disk.gives x.disk) (g.D.Disk.may_leave_now x.disk) in
    let leaves = λ (x : stores.Store g.row.D.Denot g.D.Disk). g.D.Disk.may_leave_now x.disk in
    stays_as g.D.Disk.gives g.D.Disk.may_leave_now about kept (bytes_of c.args.world.now.chain) s t moves run incarnation c.args.self.now (Copying c.give.new.self) (ap Copying (c.in-Ok-false.ensures.rests c.in-Ok-false.field-0-test).1.0 ∙ sym c.in-Copying.is) had

pub returns-in-Ok-false-clause-one_volume : goal.returns-in-Ok-false-clause-one_volume
returns-in-Ok-false-clause-one_volume g c = λ keeps. c.in-Ok-false.ensures.one_volume keeps

pub returns-in-Err-Refused-clause-gives : goal.returns-in-Err-Refused-clause-gives
returns-in-Err-Refused-clause-gives g c =
    let about = λ (x : stores.Store g.row.D.Denot g.D.Disk). about_of x.contents in
    let failures = λ (x : stores.Store g.row.D.Denot g.D.Disk). g.D.Disk.failures x.disk in
    let kept = λ (x : stores.Store g.row.D.Denot g.D.Disk) (volume : List ℕ). IsStored x.contents volume (g.D.Disk.gives x.disk) (g.D.Disk.may_leave_now x.disk) in
    let moment = λ (x : stores.Store g.row.D.Denot g.D.Disk). g.D.Disk.moment x.disk in
    let since = λ (x : stores.Store g.row.D.Denot g.D.Disk). g.D.Disk.may_have_left_since x.disk in
    let spoils = c.refuse.ensures in
    let same : spoils.before ≡ c.give.new.self = cc (sym spoils.was) in
    record {
      before = c.in-Copying.copying;
      behind = c.give.new.self;
      left = spoils.left;
      was = c.in-Copying.is;
      is = spoils.is;
      its = subst (λ (d : Seen g.row.D.Denot). disk_of d.receiver ≡ Some spoils.left.disk) same spoils.its;
      known = spoils.known;
      refused = subst (λ (e : NotGiven). RefusesGiving g.D.Disk.keeps_model about failures kept moment since e c.in-Copying.copying c.give.new.self c.args.world.now c.give.new.world) c.in-Err-Refused.field-0-is c.in-Err-Refused.ensures.refused;
    }

pub returns-in-Err-Refused-clause-cause : goal.returns-in-Err-Refused-clause-cause
returns-in-Err-Refused-clause-cause g c =
    let spoils = c.refuse.ensures in
    let same : spoils.before ≡ c.give.new.self = cc (sym spoils.was) in
    let R = λ (was now : g.row.D.Denot). IsCaused (g.D.Disk.failures was) (g.D.Disk.failures now) c.in-Err-Refused.refusal in
    rw (c.in-Copying.is, spoils.is) (led_on (stores.Store g.row.D.Denot g.D.Disk) R c.in-Copying.copying c.give.new.self spoils.left (c.in-Err-Refused.ensures.cause c.in-Err-Refused.refusal c.in-Err-Refused.field-0-is)
    (subst (λ (d : Seen g.row.D.Denot). disk_of d.receiver ≡ Some spoils.left.disk) same spoils.its))
