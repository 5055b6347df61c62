use Rattle.life.specs.Plays.{IsCutOutside}
use Rattle.life.proofs.Anew.{HaveBecome}
use Rattle.life.proofs.cutting.cut_outside.Given as goal

-- the loop has cut those that it has passed
abbrev pub invariant-loop-disk : goal.invariant-loop-disk
invariant-loop-disk l = HaveBecome (IsCutOutside l.fn.cut) l.disk-index l.fn.outside.items l.disk-items
