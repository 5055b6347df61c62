use Rattle.local_store.proofs.Away.{halves_come}
use Rattle.local_store.proofs.laws.halves_mean.Goals as goal

pub returns : goal.returns
returns c = halves_come
