use Rattle.local_store.proofs.laws.batches_go_over.Goals as goal
use Rattle.local_store.proofs.Overlays.{batches_cover, uncovered_stay}

pub returns-clause-cover : goal.returns-clause-cover
returns-clause-cover c = batches_cover

pub returns-clause-others : goal.returns-clause-others
returns-clause-others c = uncovered_stay
