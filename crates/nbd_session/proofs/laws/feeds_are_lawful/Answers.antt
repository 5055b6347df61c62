use Rattle.nbd_session.specs.Session.{limit_in_flight}
use Rattle.nbd_session.proofs.Endings.{feeds_take_all, histories_are_lawful, needy_go_on, stands_handed, stands_replied}
use Rattle.nbd_session.proofs.Lawfulness.{settles_lawfully}
use Rattle.nbd_session.proofs.laws.feeds_are_lawful.Goals as goal

pub returns-clause-lawful : goal.returns-clause-lawful
returns-clause-lawful c = histories_are_lawful

pub returns-clause-feeds : goal.returns-clause-feeds
returns-clause-feeds c = settles_lawfully c.client_flags_are_apart.ensures.encoded c.options_are_apart.ensures.encoded c.requests_are_apart.ensures.encoded limit_in_flight

pub returns-clause-all : goal.returns-clause-all
returns-clause-all c =
    let flags = c.client_flags_are_apart.ensures in
    let options = c.options_are_apart.ensures in
    let requests = c.requests_are_apart.ensures in
    feeds_take_all flags.encoded flags.short options.encoded options.short requests.encoded requests.short

pub returns-clause-needy : goal.returns-clause-needy
returns-clause-needy c = needy_go_on

pub returns-clause-replies : goal.returns-clause-replies
returns-clause-replies c = stands_replied

pub returns-clause-output : goal.returns-clause-output
returns-clause-output c = stands_handed
