use Rattle.life.specs.Recovered.{IsCutAnew}
use Rattle.life.proofs.Anew.{HaveBecome}
use Rattle.life.proofs.cutting.cut_again.Given as goal

-- the loop has cut those that it has passed
abbrev pub invariant-loop-disk : goal.invariant-loop-disk
invariant-loop-disk l = HaveBecome (IsCutAnew l.fn.cut) l.disk-index l.fn.disks.items l.disk-items
