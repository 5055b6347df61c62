use Rattle.std.proofs.Common.{◌-◌, ◌∙◌, ap, arith}
use Rattle.std.proofs.Math.ListN.{set}
use Rattle.world_model.specs.Machine.{Taken}
use Rattle.world_model.proofs.PlaceLemmas.{answered_at-set}
use Rattle.world_model.proofs.lists.mark_answered.Goals as goal

pub returns : goal.returns
returns c =
    ap (λ (x : Taken). set c.args.taken.now (c.args.place - 1) x) c.answer.ensures
    ∙ answered_at-set c.args.taken.now c.args.place (c.args.place - 1) c.index-taken-place.result (omega arith) (omega arith)
