use Rattle.std.proofs.Common.{List, ℕ, refl, sym, subst, ◌∙◌}
use Rattle.std.proofs.lemmas.Result.{err_from_is_err_and}
use Rattle.local_store.specs.About.{about_of}
use Rattle.local_store.specs.Store.{IsStored}
use Rattle.local_store.specs.declared.store.Store as stores
use Rattle.chain.specs.Chain.{bytes_of}
use Rattle.world.proofs.InnerSteps.{rests_so}
use Rattle.std.specs.Prelude.{Result}
use Rattle.clients.specs.Clients.{no_one}
use Rattle.local_store.specs.declared.refusal.Refusal.{Refusal}
use Rattle.world.specs.World.{IsOfOneVolume}
use Rattle.candidate.specs.Orders.{handed_gave}
use Rattle.candidate.specs.declared.giving.Gave.{Gave}
use Rattle.candidate.proofs.Copied.{copy_stays}
use Rattle.candidate.proofs.giving.Candidate+Store+D+D.copy.Goals as goal

pub returns-in_default : goal.returns-in_default
returns-in_default g c =
    let about = λ (x : stores.Store g.row.D.Denot g.D.Disk). about_of x.contents in
    let kept = λ (x : stores.Store g.row.D.Denot g.D.Disk) (volume : List ℕ). IsStored x.contents volume (g.D.Disk.gives x.disk) (g.D.Disk.may_leave_now x.disk) in
    let leaves = λ (x : stores.Store g.row.D.Denot g.D.Disk). g.D.Disk.may_leave_now x.disk in
    record {
      copies = record {
        due = λ slot is. absurd (c.in_default.not-Copy slot (c.next.ensures ∙ is));
        idle = λ _. (refl, record { candidate = refl; management = refl; same = refl });
      };
      cause = tt;
      copy = λ keeps incarnation v w s t moves shows stands run shows_then stands_then had. copy_stays g.D.Disk.gives g.D.Disk.may_leave_now about kept (bytes_of c.args.world.now.chain) s t moves run incarnation c.args.self.now had;
      one_volume = λ keeps. rests_so about kept leaves c.args.world.now c.args.world.now refl;
    }

pub returns-in_err-gave-clause-one_volume : goal.returns-in_err-gave-clause-one_volume
returns-in_err-gave-clause-one_volume g c = λ keeps.
    let about = λ (x : stores.Store g.row.D.Denot g.D.Disk). about_of x.contents in
    let kept = λ (x : stores.Store g.row.D.Denot g.D.Disk) (volume : List ℕ). IsStored x.contents volume (g.D.Disk.gives x.disk) (g.D.Disk.may_leave_now x.disk) in
    let leaves = λ (x : stores.Store g.row.D.Denot g.D.Disk). g.D.Disk.may_leave_now x.disk in
    let p = err_from_is_err_and c.from_residual.result c.from_residual.ensures.1 in
    subst (λ (r : Result Gave Refusal). IsOfOneVolume about kept leaves no_one (handed_gave r) c.args.world.now c.give.new.world) (sym p.1) (c.in_err-gave.ensures.one_volume keeps)

pub returns-in_err-gave-clause-copies : goal.returns-in_err-gave-clause-copies
returns-in_err-gave-clause-copies g c =
    let p = err_from_is_err_and c.from_residual.result c.from_residual.ensures.1 in
    rw (p.1, p.2) (record {
      due = λ slot is. (c.in_err-gave.ensures.gives, (tt, refl));
      idle = λ other. absurd (other c.in-Copy.field-0 (sym c.in-Copy.ensures));
    })
