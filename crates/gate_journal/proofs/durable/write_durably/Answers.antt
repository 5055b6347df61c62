use Rattle.std.proofs.Common.{length}
use Rattle.disk_model.specs.Frames.{touches_then}
use Rattle.gate_journal.proofs.Runs.{torn_once, then_synced}
use Rattle.gate_journal.proofs.durable.write_durably.Goals as goal

pub returns-in_err-write_at-clause-any_moment : goal.returns-in_err-write_at-clause-any_moment
returns-in_err-write_at-clause-any_moment g c = λ keeps.
    torn_once c.args.part c.args.at (length c.args.bytes.now) (g.D.Disk.may_leave_now c.args.disk.now) c.args.disk.now c.write_at.new.disk
    (g.met.D.Disk.only_now keeps c.args.disk.now) (c.write_at.ensures.time keeps) (c.write_at.ensures.leaves keeps)

pub returns-clause-any_moment : goal.returns-clause-any_moment
returns-clause-any_moment g c = λ keeps.
    let left = g.D.Disk.may_leave_now in
    let written = torn_once c.args.part c.args.at (length c.args.bytes.now) (left c.args.disk.now) c.args.disk.now c.write_at.new.disk
    (g.met.D.Disk.only_now keeps c.args.disk.now) (c.write_at.ensures.time keeps) (c.write_at.ensures.leaves keeps) in
    then_synced c.args.part c.args.at (length c.args.bytes.now) (left c.args.disk.now) c.args.disk.now c.write_at.new.disk c.sync.new.disk (left c.write_at.new.disk) (left c.sync.new.disk)
    written (c.sync.ensures.time keeps) (c.write_at.ensures.leaves keeps) (c.sync.ensures.leaves keeps)

pub returns-clause-frame : goal.returns-clause-frame
returns-clause-frame g c = λ keeps. touches_then (c.write_at.ensures.frame keeps) (c.sync.ensures.frame keeps)
