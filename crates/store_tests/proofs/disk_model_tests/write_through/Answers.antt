use Rattle.std.proofs.Common.{List, ℕ, length, refl, subst, sym}
use Rattle.disk_model.specs.Disk.{Torn}
use Rattle.disk_model.specs.Moments.{started, goes_on}
use Rattle.store_tests.proofs.disk_model_tests.write_through.Goals as goal

pub returns-clause-any_moment : goal.returns-clause-any_moment
returns-clause-any_moment g c = λ keeps.
    let disk = g.D.Disk in
    let old = c.args.disk.now in
    let P = Torn c.args.at (length c.args.bytes.now) (disk.gives old) in
    let settled = c.requires.settled keeps in
    let start = started disk.moment disk.may_have_left_since old P (λ f left. subst P (sym (settled f (g.met.D.Disk.only_now keeps old f left))) (record { size = refl; before = refl; after = refl })) in
    let torn = λ (f : List ℕ) (left : disk.may_leave_now c.write_at.new.self f). (let (d, was, step) = c.write_at.ensures.leaves keeps f left in subst (λ (l : List ℕ). Torn c.args.at (length c.args.bytes.now) l f) (settled d was) step) in
    let written = goes_on disk.moment disk.may_have_left_since old old c.write_at.new.self P _ start (c.write_at.ensures.time keeps) torn in
    let kept = goes_on disk.moment disk.may_have_left_since old c.write_at.new.self c.sync.new.self P _ written (c.sync.ensures.time keeps) (λ f left. torn f (c.sync.ensures.leaves keeps f left)) in
    goes_on disk.moment disk.may_have_left_since old c.sync.new.self c.read.new.self P _ kept (c.read.ensures.time keeps) (λ f left. torn f (c.sync.ensures.leaves keeps f (c.read.ensures.leaves keeps f left)))
