use Rattle.nbd_session.proofs.Cuttings.{cuttings, feeds_one_way}
use Rattle.nbd_session.proofs.laws.cuttings_agree.Goals as goal

pub returns-clause-one_way : goal.returns-clause-one_way
returns-clause-one_way c = feeds_one_way

pub returns-clause-cuttings : goal.returns-clause-cuttings
returns-clause-cuttings c =
    let flags = c.client_flags_are_apart.ensures in
    let options = c.options_are_apart.ensures in
    let requests = c.requests_are_apart.ensures in
    cuttings flags.kept flags.encoded options.kept options.encoded requests.kept requests.encoded
