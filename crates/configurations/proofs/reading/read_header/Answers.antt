use Rattle.configurations.proofs.Encodings.{header_found}
use Rattle.configurations.proofs.reading.read_header.Goals as goal

pub returns-clause-header : goal.returns-clause-header
returns-clause-header c =
    let (same, behind_is, longer) = c.in_ok-behind.ensures.cases in
    header_found c.args.bytes.now c.in_ok-behind.behind.now c.in_ok-number.behind.now c.in_ok-count.behind.now c.in_ok-number.number c.in_ok-epoch.epoch c.in_ok-count.count.now
    same behind_is c.in_ok-number.ensures.read c.in_ok-count.ensures.cases.0 c.in_ok-epoch.ensures.value
