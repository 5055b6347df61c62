use Rattle.std.proofs.Common.{◌≡◌, take}
use Rattle.board.specs.Floor.{least_of}
use Rattle.board.proofs.floor.Floor.new.Given as goal

abbrev pub invariant-loop-gauge : goal.invariant-loop-gauge
invariant-loop-gauge l = l.front ≡ least_of l.initial.front (take l.gauge-index l.gauges)
