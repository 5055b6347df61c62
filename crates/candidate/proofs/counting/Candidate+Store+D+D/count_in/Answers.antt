use Rattle.std.proofs.Common.{List, inr, ℕ, true, false, ap, refl, sym, subst, ◌≡◌, ◌∙◌, arith}
use Rattle.gate_journal.specs.Receipt.{Receipt}
use Rattle.local_store.specs.About.{about_of}
use Rattle.local_store.specs.Kept.{one_volume}
use Rattle.local_store.specs.Store.{IsStored}
use Rattle.local_store.specs.declared.store.Store as stores
use Rattle.chain.specs.Chain.{bytes_of}
use Rattle.world.proofs.InnerSteps.{rests_so}
use Rattle.world.specs.Joining.{CountsIn, CountsNobody}
use Rattle.candidate.specs.Candidate as whole
use Rattle.candidate.specs.Copies.{HasCopy, IsCopied}
use Rattle.candidate.specs.declared.candidate.Candidate.{Candidate}
use Rattle.candidate.specs.declared.candidate.Candidate.TheVariants.{Whole}
use Rattle.candidate.proofs.Copied.{stays_as}
use Rattle.candidate.proofs.Counted.{copy_at}
use Rattle.candidate.proofs.counting.Candidate+Store+D+D.count_in.Goals as goal

pub returns-in_default : goal.returns-in_default
returns-in_default g c =
    let about = λ (x : stores.Store g.row.D.Denot g.D.Disk). about_of x.contents in
    let kept = λ (x : stores.Store g.row.D.Denot g.D.Disk) (volume : List ℕ). IsStored x.contents volume (g.D.Disk.gives x.disk) (g.D.Disk.may_leave_now x.disk) in
    let leaves = λ (x : stores.Store g.row.D.Denot g.D.Disk). g.D.Disk.may_leave_now x.disk in
    record {
      counts = record {
        counted = λ is. let clash : false ≡ true = is in absurd (cc);
        idle = λ _. (λ w was. absurd (c.in_default.not-Whole w (c.replace.ensures.value ∙ was)), record { candidate = c.replace.ensures.value; management = refl; same = refl });
      };
      one_volume = λ keeps incarnation v s shows stands had. rests_so about kept leaves c.args.world.now c.args.world.now refl v s shows stands;
      copy = λ keeps incarnation v w s t moves shows stands run shows_then stands_then had.
          stays_as g.D.Disk.gives g.D.Disk.may_leave_now about kept (bytes_of c.args.world.now.chain) s t moves run incarnation c.args.self.now c.replace.result c.replace.ensures.value had;
    }

pub returns-in-Ok-clause-counts : goal.returns-in-Ok-clause-counts
returns-in-Ok-clause-counts g c =
    let about = λ (x : stores.Store g.row.D.Denot g.D.Disk). about_of x.contents in
    let kept = λ (x : stores.Store g.row.D.Denot g.D.Disk) (volume : List ℕ). IsStored x.contents volume (g.D.Disk.gives x.disk) (g.D.Disk.may_leave_now x.disk) in
    let leaves = λ (x : stores.Store g.row.D.Denot g.D.Disk). g.D.Disk.may_leave_now x.disk in
    let (store, receipt) = c.into_parts-store.ensures.parts in
    record {
      counted = λ _. (
        c.in-Whole.whole,
        sym c.replace.ensures.value ∙ c.in-Whole.is,
        c.replace.ensures.after,
        omega (arith, ap (λ (x : stores.Store g.row.D.Denot g.D.Disk). (about x).incarnation) store, c.incarnation.ensures.incarnation, c.if-incarnation-number.false, c.number.ensures.number, c.epoch.ensures, ap (λ r. r.epoch) c.recorded.ensures),
        subst (λ (r : Receipt). CountsIn about c.in-Whole.whole.store r c.args.management.now c.count_in.new.self c.args.world.now c.count_in.new.world) receipt
            (subst (λ (x : stores.Store g.row.D.Denot g.D.Disk). CountsIn about x c.into_parts-store.result.1 c.args.management.now c.count_in.new.self c.args.world.now c.count_in.new.world) store c.in-Ok.ensures.counted),
      );
      idle = λ is. let clash : true ≡ false = is in absurd (cc);
    }

pub returns-in-Ok-clause-one_volume : goal.returns-in-Ok-clause-one_volume
returns-in-Ok-clause-one_volume g c = λ keeps incarnation v s shows stands had.
    let about = λ (x : stores.Store g.row.D.Denot g.D.Disk). about_of x.contents in
    let kept = λ (x : stores.Store g.row.D.Denot g.D.Disk) (volume : List ℕ). IsStored x.contents volume (g.D.Disk.gives x.disk) (g.D.Disk.may_leave_now x.disk) in
    let leaves = λ (x : stores.Store g.row.D.Denot g.D.Disk). g.D.Disk.may_leave_now x.disk in
    let store = c.into_parts-store.ensures.parts.0 in
    let copied : IsCopied {D = g.row.D.Denot} g.D.Disk.gives g.D.Disk.may_leave_now about kept (bytes_of c.args.world.now.chain) s incarnation c.into_parts-store.result.0 =
    subst (λ (x : stores.Store g.row.D.Denot g.D.Disk). IsCopied {D = g.row.D.Denot} g.D.Disk.gives g.D.Disk.may_leave_now about kept (bytes_of c.args.world.now.chain) s incarnation x) (sym store)
    (subst (HasCopy g.D.Disk.gives g.D.Disk.may_leave_now about kept (bytes_of c.args.world.now.chain) s incarnation) (sym c.replace.ensures.value ∙ c.in-Whole.is) had) in
    c.in-Ok.ensures.one_volume keeps
    (copy_at about kept leaves c.each_disk_has_what_is_owed.ensures.owed c.args.world.now v s shows stands c.sound.ensures.inside (λ x one other here there. one_volume here there)
    g.row.D.Denot g.D.Disk.gives g.D.Disk.may_leave_now _ c.into_parts-store.result.0 c.into_parts-store.result.1 c.args.management.now c.count_in.new.self c.count_in.new.world c.in-Ok.ensures.counted incarnation copied) v s shows stands

same_in : {S D : Type 0} (a b : whole.Whole S) → ◌≡◌ {A = Candidate S D} (Whole a) (Whole b) → a ≡ b
same_in a b is = cc

-- the candidate is what it was
same_whole : {S : Type 0} (old back : whole.Whole S) (store : S) (receipt : Receipt) → back ≡ record { store = store; receipt = receipt } → store ≡ old.store → receipt ≡ old.receipt → back ≡ old
same_whole old back store receipt is one other = is ∙ ap (λ x. record { store = x; receipt = receipt }) one ∙ ap (λ (r : Receipt). record { store = old.store; receipt = r }) other

pub returns-in-Err-clause-counts : goal.returns-in-Err-clause-counts
returns-in-Err-clause-counts g c =
    let about = λ (x : stores.Store g.row.D.Denot g.D.Disk). about_of x.contents in
    let kept = λ (x : stores.Store g.row.D.Denot g.D.Disk) (volume : List ℕ). IsStored x.contents volume (g.D.Disk.gives x.disk) (g.D.Disk.may_leave_now x.disk) in
    let leaves = λ (x : stores.Store g.row.D.Denot g.D.Disk). g.D.Disk.may_leave_now x.disk in
    let (store, receipt) = c.into_parts-store.ensures.parts in
    let why = c.in-Err.ensures.idle.0 in
    let same = c.in-Err.ensures.idle.1.0 in
    let its = c.in-Err.ensures.idle.1.1.0 in
    let management = c.in-Err.ensures.idle.1.1.1.0 in
    let world = c.in-Err.ensures.idle.1.1.1.1 in
    let whole_is = same_whole c.in-Whole.whole c.new-in-Err.result c.in-Err.store c.in-Err.receipt c.new-in-Err.ensures (same ∙ store) (its ∙ receipt) in
    record {
      counted = λ is. let clash : false ≡ true = is in absurd (cc);
      idle = λ _. (
        λ w was. let w_is : c.in-Whole.whole ≡ w = same_in c.in-Whole.whole w (sym c.in-Whole.is ∙ c.replace.ensures.value ∙ was) in inr (
            subst (λ (x : whole.Whole (stores.Store g.row.D.Denot g.D.Disk)). CountsNobody about x.store x.receipt c.args.management.now c.args.world.now) w_is
            (subst (λ (r : Receipt). CountsNobody about c.in-Whole.whole.store r c.args.management.now c.args.world.now) receipt
            (subst (λ (x : stores.Store g.row.D.Denot g.D.Disk). CountsNobody about x c.into_parts-store.result.1 c.args.management.now c.args.world.now) store why))),
        record { candidate = ap Whole whole_is ∙ sym c.in-Whole.is ∙ c.replace.ensures.value; management = management; same = world },
      );
    }

pub returns-in-Err-clause-one_volume : goal.returns-in-Err-clause-one_volume
returns-in-Err-clause-one_volume g c = λ keeps incarnation v s shows stands had.
    let about = λ (x : stores.Store g.row.D.Denot g.D.Disk). about_of x.contents in
    let kept = λ (x : stores.Store g.row.D.Denot g.D.Disk) (volume : List ℕ). IsStored x.contents volume (g.D.Disk.gives x.disk) (g.D.Disk.may_leave_now x.disk) in
    let leaves = λ (x : stores.Store g.row.D.Denot g.D.Disk). g.D.Disk.may_leave_now x.disk in
    rests_so about kept leaves c.args.world.now c.count_in.new.world c.in-Err.ensures.idle.1.1.1.1 v s shows stands

pub returns-in-Err-clause-copy : goal.returns-in-Err-clause-copy
returns-in-Err-clause-copy g c = λ keeps incarnation v w s t moves shows stands run shows_then stands_then had.
    let about = λ (x : stores.Store g.row.D.Denot g.D.Disk). about_of x.contents in
    let kept = λ (x : stores.Store g.row.D.Denot g.D.Disk) (volume : List ℕ). IsStored x.contents volume (g.D.Disk.gives x.disk) (g.D.Disk.may_leave_now x.disk) in
    let leaves = λ (x : stores.Store g.row.D.Denot g.D.Disk). g.D.Disk.may_leave_now x.disk in
    let (store, receipt) = c.into_parts-store.ensures.parts in
    let why = c.in-Err.ensures.idle.0 in
    let same = c.in-Err.ensures.idle.1.0 in
    let its = c.in-Err.ensures.idle.1.1.0 in
    let management = c.in-Err.ensures.idle.1.1.1.0 in
    let world = c.in-Err.ensures.idle.1.1.1.1 in
    let whole_is = same_whole c.in-Whole.whole c.new-in-Err.result c.in-Err.store c.in-Err.receipt c.new-in-Err.ensures (same ∙ store) (its ∙ receipt) in
    stays_as g.D.Disk.gives g.D.Disk.may_leave_now about kept (bytes_of c.args.world.now.chain) s t moves run incarnation c.args.self.now (Whole c.new-in-Err.result) (ap Whole whole_is ∙ sym c.in-Whole.is ∙ c.replace.ensures.value) had

pub returns-then-incarnation-number-clause-one_volume : goal.returns-then-incarnation-number-clause-one_volume
returns-then-incarnation-number-clause-one_volume g c = λ keeps incarnation v s shows stands had.
    let about = λ (x : stores.Store g.row.D.Denot g.D.Disk). about_of x.contents in
    let kept = λ (x : stores.Store g.row.D.Denot g.D.Disk) (volume : List ℕ). IsStored x.contents volume (g.D.Disk.gives x.disk) (g.D.Disk.may_leave_now x.disk) in
    let leaves = λ (x : stores.Store g.row.D.Denot g.D.Disk). g.D.Disk.may_leave_now x.disk in
    rests_so about kept leaves c.args.world.now c.args.world.now refl v s shows stands

pub returns-then-incarnation-number-clause-copy : goal.returns-then-incarnation-number-clause-copy
returns-then-incarnation-number-clause-copy g c = λ keeps incarnation v w s t moves shows stands run shows_then stands_then had.
    let about = λ (x : stores.Store g.row.D.Denot g.D.Disk). about_of x.contents in
    let kept = λ (x : stores.Store g.row.D.Denot g.D.Disk) (volume : List ℕ). IsStored x.contents volume (g.D.Disk.gives x.disk) (g.D.Disk.may_leave_now x.disk) in
    let leaves = λ (x : stores.Store g.row.D.Denot g.D.Disk). g.D.Disk.may_leave_now x.disk in
    let (store, receipt) = c.into_parts-store.ensures.parts in
    let whole_is = same_whole c.in-Whole.whole c.new.result c.into_parts-store.result.0 c.into_parts-store.result.1 c.new.ensures store receipt in
    stays_as g.D.Disk.gives g.D.Disk.may_leave_now about kept (bytes_of c.args.world.now.chain) s t moves run incarnation c.args.self.now (Whole c.new.result) (ap Whole whole_is ∙ sym c.in-Whole.is ∙ c.replace.ensures.value) had
