use Rattle.std.proofs.Common.{Some, ap, subst, sym, ◌∙◌}
use Rattle.configurations.specs.Record.{AreMembers, Record}
use Rattle.configurations.proofs.Encodings.{headless, kept_exact, kept_found, memberless, record_is, record_only}
use Rattle.configurations.proofs.record.Record.read.Goals as goal

pub returns-in_default-clause-exact : goal.returns-in_default-clause-exact
returns-in_default-clause-exact c = λ r encodes. absurd (headless c.args.bytes.now c.in_default.ensures.none r encodes)

pub returns-in_default-2-clause-exact : goal.returns-in_default-2-clause-exact
returns-in_default-2-clause-exact c = λ r encodes.
    let header = c.in-Some.header in
    let never = rw c.in_default-2.is at c.in_ok-members.ensures.none in
    absurd (memberless c.args.bytes.now header.behind.now header.epoch header.count c.in-Some.ensures.header c.in-Some.ensures.epoch never r encodes)

pub returns-clause-found : goal.returns-clause-found
returns-clause-found c =
    let header = c.in-Some.header in
    let members = c.in-Some-2.members.items in
    let encoded = rw c.in-Some-2.is at c.in_ok-members.ensures.found in
    kept_found c.args.bytes.now (record { epoch = header.epoch; members = members }) c.new.result c.ok.result c.ok.ensures.value c.new.ensures.value c.new.ensures.are
    (record_is c.args.bytes.now header.behind.now header.epoch header.count c.in-Some.ensures.header c.in-Some.ensures.epoch members encoded)

pub returns-clause-exact : goal.returns-clause-exact
returns-clause-exact c = λ r encodes.
    let header = c.in-Some.header in
    let members = c.in-Some-2.members.items in
    let encoded = rw c.in-Some-2.is at c.in_ok-members.ensures.found in
    let only = record_only c.args.bytes.now header.behind.now header.epoch header.count c.in-Some.ensures.header c.in-Some.ensures.epoch members encoded r encodes in
    let are = subst (λ (x : Record). AreMembers x.members) only encodes.is.chain in
    kept_exact c.args.bytes.now (record { epoch = header.epoch; members = members }) c.new.result c.ok.result c.ok.ensures.value c.new.ensures.value (c.new.ensures.ok are)
    ∙ ap (λ (x : Record). Some x) (sym only)
