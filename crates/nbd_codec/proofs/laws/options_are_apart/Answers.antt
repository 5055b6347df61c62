use Rattle.std.proofs.Common.{refl}
use Rattle.nbd_codec.specs.Fields.{magic_at}
use Rattle.nbd_codec.specs.ClientOption.{IsOption, PlainOption, option_at, encoding}
use Rattle.nbd_codec.proofs.FindingLaws.{is_kept, is_one, is_encoded}
use Rattle.nbd_codec.proofs.OptionLaws.{IsField-option, encoding_len, encoding_short}
use Rattle.nbd_codec.proofs.laws.options_are_apart.Goals as goal

pub returns-clause-apart : goal.returns-clause-apart
returns-clause-apart c = is_one option_at encoding IsOption (λ (x : PlainOption). x) IsField-option

pub returns-clause-kept : goal.returns-clause-kept
returns-clause-kept c = is_kept option_at encoding IsOption (λ (x : PlainOption). x) IsField-option

pub returns-clause-empty : goal.returns-clause-empty
unfolding option_at magic_at
returns-clause-empty c = refl

pub returns-clause-encoded : goal.returns-clause-encoded
returns-clause-encoded c = is_encoded option_at encoding IsOption IsField-option

pub returns-clause-short : goal.returns-clause-short
returns-clause-short c = encoding_short

pub returns-clause-long : goal.returns-clause-long
returns-clause-long c = λ option fits. encoding_len option
