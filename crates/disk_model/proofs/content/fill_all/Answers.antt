use Rattle.std.proofs.Common.{List, ℕ, ◌∙◌, ap}
use Rattle.disk_model.specs.Content.{filled}
use Rattle.disk_model.proofs.Cuts.{filled-first}
use Rattle.disk_model.proofs.content.fill_all.Goals as goal

pub returns-clause-bytes : goal.returns-clause-bytes
returns-clause-bytes c =
    c.fill.ensures.bytes
    ∙ ap (λ (bytes : List ℕ). filled bytes c.args.ranges.now) c.fill_first.ensures.bytes
    ∙ filled-first c.args.bytes.now.items c.args.waits c.args.loose.now c.args.ranges.now
