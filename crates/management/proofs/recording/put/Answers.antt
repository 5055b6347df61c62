use Rattle.std.proofs.Common.{◌≡◌, Bool, subst}
use Rattle.std.specs.Bool.{MatchBool}
use Rattle.management.proofs.Standing.{kept_written, while_read, while_written}
use Rattle.management.proofs.recording.put.Goals as goal

pub returns-in_err-open_if_broken-clause-any_moment : goal.returns-in_err-open_if_broken-clause-any_moment
returns-in_err-open_if_broken-clause-any_moment g c = λ keeps kept.
    let disk = g.C.Disk in
    while_read disk.moment disk.may_have_left_since disk.gives disk.may_leave_now c.args.next c.args.config.now c.args.disk.now c.open_if_broken.new.disk kept (c.open_if_broken.ensures.reads keeps)

pub returns-then-branch-clause-any_moment : goal.returns-then-branch-clause-any_moment
returns-then-branch-clause-any_moment g c = λ keeps kept.
    let disk = g.C.Disk in
    while_read disk.moment disk.may_have_left_since disk.gives disk.may_leave_now c.args.next c.args.config.now c.args.disk.now c.open_if_broken.new.disk kept (c.open_if_broken.ensures.reads keeps)

pub returns-clause-kept : goal.returns-clause-kept
returns-clause-kept g c = λ keeps kept.
    let disk = g.C.Disk in
    let settled = c.in_ok-open_if_broken.ensures.settled keeps kept in
    kept_written disk.moment disk.may_have_left_since disk.gives disk.may_leave_now c.args.next c.open_if_broken.new.config c.open_if_broken.new.disk c.record.new.disk (c.record.ensures.any_moment keeps settled)
    c.record.new.self (g.met.C.Disk.counts_now keeps c.record.new.disk) settled c.record.result (c.record.ensures.settled keeps settled) c.record.ensures.device c.record.ensures.unchanged

pub returns-clause-any_moment : goal.returns-clause-any_moment
returns-clause-any_moment g c = λ keeps kept.
    let disk = g.C.Disk in
    let opened = c.open_if_broken.new.config in
    let settled = c.in_ok-open_if_broken.ensures.settled keeps kept in
    while_written disk.moment disk.may_have_left_since disk.gives disk.may_leave_now c.args.next opened c.open_if_broken.new.disk c.record.new.disk (c.record.ensures.any_moment keeps settled)
    c.args.config.now c.args.disk.now kept (c.open_if_broken.ensures.reads keeps)
    (subst (λ (b : Bool). MatchBool b (opened.current ≡ c.args.next) (opened.current ≡ c.args.config.now.current)) c.if-branch.false c.in_ok-open_if_broken.ensures.found) c.open_if_broken.ensures.part
