use Rattle.board.proofs.Reading.{ReadSoFar}
use Rattle.board.proofs.floor.Floor.read.Given as goal

abbrev pub invariant-loop-number : goal.invariant-loop-number
invariant-loop-number l = ReadSoFar l.crew l.initial.seat l.seat l.number l.gauges
