use Rattle.std.proofs.Common.{rules, ◌≡◌, ◌+◌, length}
use Rattle.disk_model.specs.Waiting.{waiting_now}
use Rattle.disk_model.proofs.Cutting.{halves_joined}
use Rattle.disk_model.proofs.content.Content.joined.Goals as goal

pub returns-clause-halves : goal.returns-clause-halves
returns-clause-halves c =
    let home = c.args.home.now in
    let log = c.args.log.now in
    let marks = c.mark_both.new.marks.items in
    let size : length marks ≡ length home.bytes.items + length log.bytes.items = search rules in
    halves_joined c.begun.result.bytes.items home.bytes.items log.bytes.items (waiting_now c.begun.result) (waiting_now home) (waiting_now log) marks size (search rules) c.begun.ensures.waiting c.mark_both.ensures.home c.mark_both.ensures.log
