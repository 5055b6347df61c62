use Rattle.std.proofs.Common.{ap, ◌∙◌}
use Rattle.configurations.specs.Record.{Record}
use Rattle.folder.specs.Chain.{alone_after, config_part}
use Rattle.folder.proofs.Recording.{recorded_there, unrecorded}
use Rattle.folder.proofs.restarting.record_alone.Goals as goal

pub returns-in_err-record-clause-any_moment : goal.returns-in_err-record-clause-any_moment
returns-in_err-record-clause-any_moment g c = λ keeps settled.
    unrecorded g.D.Disk.moment g.D.Disk.may_have_left_since c.args.disk.now c.args.configs.now (alone_after c.args.configs.now.current c.args.member) (g.D.Disk.gives c.args.disk.now) (g.D.Disk.may_leave_now c.args.disk.now)
    settled c.requires.part (g.met.D.Disk.only_now keeps c.args.disk.now)

pub returns-in_err-copy-clause-any_moment : goal.returns-in_err-copy-clause-any_moment
returns-in_err-copy-clause-any_moment g c = λ keeps settled.
    unrecorded g.D.Disk.moment g.D.Disk.may_have_left_since c.args.disk.now c.args.configs.now (alone_after c.args.configs.now.current c.args.member) (g.D.Disk.gives c.args.disk.now) (g.D.Disk.may_leave_now c.args.disk.now)
    settled c.requires.part (g.met.D.Disk.only_now keeps c.args.disk.now)

pub returns-in_err-record-2-clause-any_moment : goal.returns-in_err-record-2-clause-any_moment
returns-in_err-record-2-clause-any_moment g c = λ keeps settled.
    let same = c.in_ok-record.ensures.alone ∙ ap (λ (r : Record). alone_after r c.args.member) c.current.ensures in
    recorded_there g.D.Disk.moment g.D.Disk.may_have_left_since c.args.disk.now c.record-2.new.disk c.args.configs.now.current c.in_ok-record.record (alone_after c.args.configs.now.current c.args.member)
    c.args.configs.now.pair.part config_part same c.requires.part (c.record-2.ensures.any_moment keeps settled)

pub returns-clause-any_moment : goal.returns-clause-any_moment
returns-clause-any_moment g c = λ keeps settled.
    let same = c.in_ok-record.ensures.alone ∙ ap (λ (r : Record). alone_after r c.args.member) c.current.ensures in
    recorded_there g.D.Disk.moment g.D.Disk.may_have_left_since c.args.disk.now c.record-2.new.disk c.args.configs.now.current c.in_ok-record.record (alone_after c.args.configs.now.current c.args.member)
    c.args.configs.now.pair.part config_part same c.requires.part (c.record-2.ensures.any_moment keeps settled)
