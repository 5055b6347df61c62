use Rattle.std.proofs.Common.{◌+◌, ◌<◌, List, ℕ, get_or, subst, arith, rules}
use Rattle.disk_model.specs.Part.{inside}
use Rattle.gate_journal.specs.Reading.{HoldsAt}
use Rattle.gate_journal.proofs.Standing.{header_is, width4, width8}
use Rattle.gate_journal.proofs.reading.read_header.Goals as goal

pub returns-clause-header : goal.returns-clause-header
returns-clause-header g c = λ keeps.
    let bytes = c.in_ok-bytes.bytes in
    let fits : (i : ℕ) → get_or bytes i 0 < 256 = λ i. search rules in
    let is = header_is 8 4 width8 width4 bytes (omega arith) fits c.read_u64.result c.read_u32.result c.read_u64.ensures c.read_u32.ensures in
    subst (λ (l : List ℕ). HoldsAt (inside c.args.part (g.D.Disk.gives c.args.disk.now)) c.args.at (c.args.at + 12) l) is (c.in_ok-bytes.ensures.bytes keeps)
