use Rattle.nbd_codec.proofs.ReplyLaws.{exports_apart}
use Rattle.nbd_codec.proofs.laws.exports_are_apart.Goals as goal

pub returns : goal.returns
returns c = exports_apart
