use Rattle.std.proofs.Common.{◌≡◌, ap, arith}
use Rattle.std.proofs.lemmas.Grind.{common_steps}
use Rattle.std.proofs.lemmas.List.{take_more}
use Rattle.board.specs.Floor.{least_of}
use Rattle.board.proofs.FloorLemmas.{least_of-push, least_of_below_front, least_of_below_gauges, least_of_covers, least_of_greatest}
use Rattle.board.proofs.floor.Floor.new.Goals as goal

pub loop-gauge-preserved : goal.loop-gauge-preserved
loop-gauge-preserved c =
    let before = c.loop-gauge.gauge-index in
    rw (take_more c.args.gauges.now before c.gauge-item.result c.loop-gauge-test.true, least_of-push) (grind (arith, common_steps))

-- the loop went over all gauges
pub returns : goal.returns
returns c =
    let least : c.loop-gauge.front ≡ least_of c.args.crew.front c.args.gauges.now = grind (arith, common_steps) in
    record {
      board = ap (λ crew. crew.board) c.of.ensures;
      least = least;
      below_front = rw least (least_of_below_front _ _);
      below_gauges = rw least (least_of_below_gauges _ _);
      covers = rw least (least_of_covers c.args.crew.board _ _ _ c.requires.slots);
      greatest = rw least (least_of_greatest _ _);
    }
