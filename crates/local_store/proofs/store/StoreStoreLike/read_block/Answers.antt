use Rattle.local_store.specs.Kept.{owned}
use Rattle.local_store.proofs.Stored.{reads_leave}
use Rattle.local_store.proofs.store.StoreStoreLike.read_block.Goals as goal

pub returns-clause-any_moment : goal.returns-clause-any_moment
returns-clause-any_moment g c = λ keeps v was. owned (λ s. s.disk) _ _ (reads_leave was.stands was (c.read_block.ensures.reads keeps))
