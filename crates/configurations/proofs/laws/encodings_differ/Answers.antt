use Rattle.configurations.proofs.Encodings.{records_apart}
use Rattle.configurations.proofs.laws.encodings_differ.Goals as goal

pub returns : goal.returns
returns c = records_apart
