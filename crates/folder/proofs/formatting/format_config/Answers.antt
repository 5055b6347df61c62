use Rattle.std.proofs.Common.{◌≡◌, ℕ, ap, subst, ◌∙◌}
use Rattle.configurations.specs.Record.{Record}
use Rattle.configurations.specs.Store.{HoldsRecord, State, created, settled_holds, settled_leaves}
use Rattle.disk_model.specs.Frames.{left_inside}
use Rattle.disk_model.specs.Part.{inside}
use Rattle.disk_model.specs.declared.part.Part.{Part}
use Rattle.folder.specs.Chain.{config_part, first_record}
use Rattle.folder.proofs.Recording.{being_recorded}
use Rattle.folder.proofs.formatting.format_config.Goals as goal

-- the store that was made
store_is : (part : Part) (first : Record) (n : ℕ) (s : State) → s ≡ created part first → part ≡ config_part → first ≡ first_record n → s ≡ created config_part (first_record n)
store_is part first n s is there one = is ∙ ap (λ (p : Part). created p first) there ∙ ap (created config_part) one

pub returns-clause-gives : goal.returns-clause-gives
returns-clause-gives g c = λ keeps.
    let is = store_is c.config_part.result c.in_ok-first.first c.args.members c.in_ok-create.field-0 c.in_ok-create.ensures.store c.config_part.ensures c.in_ok-first.ensures in
    subst (λ (s : State). HoldsRecord s.current (inside s.pair.part (g.D.Disk.gives c.create.new.disk))) is (settled_holds (c.in_ok-create.ensures.settled keeps))

pub returns-clause-leaves : goal.returns-clause-leaves
returns-clause-leaves g c = λ keeps x left.
    let is = store_is c.config_part.result c.in_ok-first.first c.args.members c.in_ok-create.field-0 c.in_ok-create.ensures.store c.config_part.ensures c.in_ok-first.ensures in
    let settled = c.in_ok-create.ensures.settled keeps in
    subst (λ (s : State). HoldsRecord s.current (inside s.pair.part x)) is
    (settled_leaves settled (inside c.in_ok-create.field-0.pair.part x) (left_inside c.in_ok-create.field-0.pair.part (g.D.Disk.may_leave_now c.create.new.disk) x left))

pub returns-in_err-create-clause-any_moment : goal.returns-in_err-create-clause-any_moment
returns-in_err-create-clause-any_moment g c = λ keeps.
    being_recorded g.D.Disk.moment g.D.Disk.may_have_left_since c.args.disk.now c.create.new.disk (g.D.Disk.may_leave_now c.args.disk.now) c.config_part.result c.in_ok-first.first (first_record c.args.members)
    c.config_part.ensures c.in_ok-first.ensures (c.create.ensures.any_moment keeps)

pub returns-clause-any_moment : goal.returns-clause-any_moment
returns-clause-any_moment g c = λ keeps.
    being_recorded g.D.Disk.moment g.D.Disk.may_have_left_since c.args.disk.now c.create.new.disk (g.D.Disk.may_leave_now c.args.disk.now) c.config_part.result c.in_ok-first.first (first_record c.args.members)
    c.config_part.ensures c.in_ok-first.ensures (c.create.ensures.any_moment keeps)
