use Rattle.std.proofs.Common.{rules, ◌≡◌, length, take, drop, ◌∙◌, ap}
use Rattle.std.proofs.lemmas.List.{take_rest}
use Rattle.disk_model.specs.Content.{ranges_from}
use Rattle.disk_model.specs.Waiting.{waiting_now}
use Rattle.disk_model.proofs.Cutting.{halves_cut}
use Rattle.disk_model.proofs.content.Content.halves.Goals as goal

pub returns-clause-halves : goal.returns-clause-halves
returns-clause-halves c =
    let self = c.args.self.now in
    let border = c.args.border in
    let bytes = self.bytes.items in
    let marks = c.mark.new.marks in
    let home = c.in_ok-home.home in
    let log = c.in_ok-log.log in
    let size : length marks ≡ length bytes = search rules in
    let is_home : home.bytes.items ≡ take border bytes = search rules in
    let is_log : log.bytes.items ≡ drop border bytes = search (rules, take_rest bytes border) in
    let home_waits = c.in_ok-home.ensures.waiting in
    let log_waits = c.in_ok-log.ensures.waiting ∙ ap (ranges_from 0) (take_rest marks border) in
    halves_cut border bytes home.bytes.items log.bytes.items (waiting_now self) marks (waiting_now home) (waiting_now log) c.requires.within size c.mark.ensures.marked is_home is_log home_waits log_waits
