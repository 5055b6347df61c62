use Rattle.chain_model.proofs.PlacedSteps.{places_suit, records_are_close}
use Rattle.chain_model.proofs.order_laws.places_suit.Goals as goal

pub returns-clause-suit : goal.returns-clause-suit
returns-clause-suit c = places_suit

pub returns-clause-close : goal.returns-clause-close
returns-clause-close c = records_are_close
