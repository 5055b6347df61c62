use Rattle.std.proofs.Common.{refl}
use Rattle.nbd_codec.specs.Fields.{magic_at}
use Rattle.nbd_codec.specs.Request.{IsRequest, head_at, request_at, request_view, encoding}
use Rattle.nbd_codec.proofs.FindingLaws.{is_kept, is_one, is_encoded}
use Rattle.nbd_codec.proofs.RequestLaws.{IsField-request, encoding_len, encoding_short}
use Rattle.nbd_codec.proofs.laws.requests_are_apart.Goals as goal

pub returns-clause-apart : goal.returns-clause-apart
returns-clause-apart c = λ max small. is_one (request_at max) encoding (IsRequest max) request_view (IsField-request max small)

pub returns-clause-kept : goal.returns-clause-kept
returns-clause-kept c = λ max small. is_kept (request_at max) encoding (IsRequest max) request_view (IsField-request max small)

pub returns-clause-empty : goal.returns-clause-empty
unfolding request_at head_at magic_at
returns-clause-empty c = λ max. refl

pub returns-clause-encoded : goal.returns-clause-encoded
returns-clause-encoded c = λ max small. is_encoded (request_at max) encoding (IsRequest max) (IsField-request max small)

pub returns-clause-short : goal.returns-clause-short
returns-clause-short c = encoding_short

pub returns-clause-long : goal.returns-clause-long
returns-clause-long c = λ max request fits. encoding_len request
