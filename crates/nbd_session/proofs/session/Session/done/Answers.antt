use Rattle.std.proofs.Common.{rules, ◌≡◌, subst}
use Rattle.nbd_session.specs.Lawful.{HasHistory, replied}
use Rattle.nbd_session.specs.Replies.{answered, reply_seen}
use Rattle.nbd_session.proofs.Endings.{stands_replied}
use Rattle.nbd_session.proofs.session.Session.done.Goals as goal

pub returns-clause-lawful : goal.returns-clause-lawful
returns-clause-lawful c history stands =
    let now = c.args.self.now in
    let reply = reply_seen c.args.reply in
    let is : answered now reply ≡ c.enter-2.new.self = search rules in
    subst (λ s. HasHistory s (replied now history reply)) is (stands_replied now history reply stands)
