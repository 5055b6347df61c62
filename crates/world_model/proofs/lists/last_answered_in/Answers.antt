use Rattle.std.proofs.Common.{◌≡◌, true, false, get_or, ◌∙◌}
use Rattle.world_model.proofs.PlaceLemmas.{last_answered-more_here, last_answered-more_past}
use Rattle.world_model.proofs.lists.last_answered_in.Goals as goal
use Rattle.world_model.proofs.lists.last_answered_in.Goals.{then-is_answered, else-is_answered}

pub loop-i-preserved : goal.loop-i-preserved
loop-i-preserved c =
    let taken = c.args.taken.now in
    let last = c.index-taken-i.result in
    elim c.if-is_answered.branch [
      | then-is_answered w ↦
          let here : (get_or taken c.loop-i.i last).answered ≡ true = cc in
          w.last-is ∙ last_answered-more_here taken c.loop-i.i last c.loop-i-test.true here
      | else-is_answered w ↦
          let past : (get_or taken c.loop-i.i last).answered ≡ false = cc in
          w.last-is ∙ c.loop-i.invariant ∙ last_answered-more_past taken c.loop-i.i last c.loop-i-test.true past
    ]
