use Rattle.std.proofs.Common.{subst, sym}
use Rattle.disk_model.specs.Disk.{LeavesOnly}
use Rattle.local_store.specs.Meaning.{Means}
use Rattle.local_store.specs.Store.{IsAllHome, IsStored, State, meaning_in}
use Rattle.local_store.proofs.contents.Contents.change_area.Goals as goal

pub returns-in-Ok-clause-stored : goal.returns-in-Ok-clause-stored
returns-in-Ok-clause-stored g c = λ keeps v.
    let here : State = record { home = c.self.inside.home; journal = c.self.inside.journal; pending = c.self.inside.pending; cache = c.self.inside.cache; broken = c.self.inside.broken } in
    subst (λ (s : State). IsStored s v (g.D.Disk.gives c.args.disk.now) (g.D.Disk.may_leave_now c.args.disk.now)
    → IsStored (record { home = c.other_area.new.home; journal = c.in-Ok.journal; pending = c.self.inside.pending; cache = c.self.inside.cache; broken = c.self.inside.broken }) v (g.D.Disk.gives c.other_area.new.disk) (g.D.Disk.may_leave_now c.other_area.new.disk)) c.self.view_is
    (λ was. c.in-Ok.ensures.stored keeps here v (sym c.front.ensures) c.self.invariant.journal (subst IsAllHome (sym c.self.view_is) c.requires.home) was)

pub returns-in-Ok-clause-any_moment : goal.returns-in-Ok-clause-any_moment
returns-in-Ok-clause-any_moment g c = λ keeps v.
    let here : State = record { home = c.self.inside.home; journal = c.self.inside.journal; pending = c.self.inside.pending; cache = c.self.inside.cache; broken = c.self.inside.broken } in
    subst (λ (s : State). IsStored s v (g.D.Disk.gives c.args.disk.now) (g.D.Disk.may_leave_now c.args.disk.now)
    → LeavesOnly g.D.Disk.moment g.D.Disk.may_have_left_since c.args.disk.now c.other_area.new.disk (Means (meaning_in s v))) c.self.view_is
    (λ was. c.other_area.ensures.any_moment keeps here v (sym c.front.ensures) c.self.invariant.journal (subst IsAllHome (sym c.self.view_is) c.requires.home) was)

pub returns-in-Err-clause-any_moment : goal.returns-in-Err-clause-any_moment
returns-in-Err-clause-any_moment g c = λ keeps v.
    let here : State = record { home = c.self.inside.home; journal = c.self.inside.journal; pending = c.self.inside.pending; cache = c.self.inside.cache; broken = c.self.inside.broken } in
    subst (λ (s : State). IsStored s v (g.D.Disk.gives c.args.disk.now) (g.D.Disk.may_leave_now c.args.disk.now)
    → LeavesOnly g.D.Disk.moment g.D.Disk.may_have_left_since c.args.disk.now c.other_area.new.disk (Means (meaning_in s v))) c.self.view_is
    (λ was. c.other_area.ensures.any_moment keeps here v (sym c.front.ensures) c.self.invariant.journal (subst IsAllHome (sym c.self.view_is) c.requires.home) was)
