use Rattle.gate_journal.proofs.ImageLists.{IsMarked}
use Rattle.gate_journal.proofs.batch.has_each_once.Given as goal

-- none so far stands twice, and the table marks just their blocks
abbrev pub invariant-loop-image : goal.invariant-loop-image
invariant-loop-image l = IsMarked l.images l.image-index l.seen
