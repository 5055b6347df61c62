use Rattle.std.proofs.Common.{◌∙◌, ap, subst, sym}
use Rattle.std.specs.Prelude.{Err}
use Rattle.std.proofs.lemmas.Result.{err_from_is_err_and}
use Rattle.disk_model.specs.Part.{inside}
use Rattle.disk_model.specs.declared.part.Part.{Part}
use Rattle.configurations.specs.Store.{HoldsNone, HoldsRecord}
use Rattle.management.proofs.Standing.{never_none, never_other}
use Rattle.management.proofs.recording.open_if_broken.Goals as goal

pub returns-in_err-opened-clause-known : goal.returns-in_err-opened-clause-known
returns-in_err-opened-clause-known g c = λ keeps kept.
    let gives = g.C.Disk.gives c.args.disk.now in
    let p = err_from_is_err_and c.from_residual.result c.from_residual.ensures.1 in
    rw (p.1, p.2) (never_none c.args.config.now c.args.next.now gives (g.C.Disk.may_leave_now c.args.disk.now) kept (sym c.is_broken.ensures ∙ c.if-not-is_broken.false) (g.met.C.Disk.leaves_gives keeps c.args.disk.now)
    c.in_err-opened.field-0.0 c.in_err-opened.ensures.told
    (λ is. subst (λ (part : Part). HoldsNone (inside part gives)) c.part.ensures (c.in_err-opened.ensures.none keeps (ap Err is))))

pub returns-then-not-are_one-clause-known : goal.returns-then-not-are_one-clause-known
returns-then-not-are_one-clause-known g c = λ keeps kept.
    let gives = g.C.Disk.gives c.args.disk.now in
    let found = c.in_ok-opened.opened.current in
    absurd (never_other c.args.config.now c.args.next.now gives (g.C.Disk.may_leave_now c.args.disk.now) kept (sym c.is_broken.ensures ∙ c.if-not-is_broken.false) (g.met.C.Disk.leaves_gives keeps c.args.disk.now)
    found (subst (λ (part : Part). HoldsRecord found (inside part gives)) c.part.ensures (c.in_ok-opened.ensures.found keeps)) c.records_are_one.ensures
    (λ is. let one = c.are_one-is_next.ensures.1 (c.current.ensures ∙ is) in cc (c.if-not-is_next.true))
    (λ is. let one = c.are_one.ensures.1 (c.current-then-not-is_next.ensures ∙ is ∙ sym c.current-then-not-is_next-2.ensures) in cc (c.if-not-are_one.true)))
