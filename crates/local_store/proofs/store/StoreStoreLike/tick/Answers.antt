use Rattle.local_store.specs.Kept.{owned}
use Rattle.local_store.proofs.store.StoreStoreLike.tick.Goals as goal

pub returns-clause-any_moment : goal.returns-clause-any_moment
returns-clause-any_moment g c = λ keeps v was. owned (λ s. s.disk) _ _ (c.tick.ensures.any_moment keeps v was)
