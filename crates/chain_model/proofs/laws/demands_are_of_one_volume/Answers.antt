use Rattle.chain_model.proofs.SendingSteps.{submits_write}
use Rattle.chain_model.proofs.TakingSteps.{asks_for, drops, flushes_for, reads_clean, refuses}
use Rattle.chain_model.proofs.laws.demands_are_of_one_volume.Goals as goal

pub returns-clause-drops : goal.returns-clause-drops
returns-clause-drops c = λ size v above m below d rest first. drops size v above m below d rest first

pub returns-clause-refuses : goal.returns-clause-refuses
returns-clause-refuses c = λ size v above m below d rest error first. refuses size v above m below d rest first error

pub returns-clause-reads : goal.returns-clause-reads
returns-clause-reads c = λ size v above m below d rest offset len runs first asked clean sized inside. reads_clean size v above m below d rest first offset len runs asked clean sized inside

pub returns-clause-asks : goal.returns-clause-asks
returns-clause-asks c = λ size v above m below d rest offset len token first asked session cookie. asks_for size v above m below d rest first offset len token asked session cookie

pub returns-clause-flushes : goal.returns-clause-flushes
returns-clause-flushes c = λ size v above m below d rest token first asked session cookie unbound. flushes_for size v above m below d rest first token asked session cookie unbound

pub returns-clause-submits : goal.returns-clause-submits
returns-clause-submits c = submits_write
