use Rattle.std.proofs.Common.{refl}
use Rattle.nbd_codec.specs.Fields.{limited_at, number_at}
use Rattle.nbd_codec.specs.Handshake.{AreFlags, flags_encoding, flags_at}
use Rattle.nbd_codec.proofs.FindingLaws.{is_kept, is_encoded}
use Rattle.nbd_codec.proofs.FlagLaws.{IsField-flags, own}
use Rattle.nbd_codec.proofs.laws.client_flags_are_apart.Goals as goal

pub returns-clause-kept : goal.returns-clause-kept
returns-clause-kept c = is_kept flags_at flags_encoding AreFlags own IsField-flags

pub returns-clause-empty : goal.returns-clause-empty
unfolding flags_at limited_at number_at
returns-clause-empty c = refl

pub returns-clause-encoded : goal.returns-clause-encoded
returns-clause-encoded c = is_encoded flags_at flags_encoding AreFlags IsField-flags
