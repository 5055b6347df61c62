use Rattle.std.proofs.Common.{subst}
use Rattle.rejoin_catchup.specs.Sending.{IsSending}
use Rattle.rejoin_catchup.proofs.Copies.{copy_whole}
use Rattle.rejoin_catchup.proofs.sender.Sender.end.Goals as goal

pub returns-clause-whole : goal.returns-clause-whole
returns-clause-whole c = λ volume copy long was. copy_whole c.args.self.now volume copy (subst IsSending c.self.view_is c.self.invariant.0) c.requires.whole long was
