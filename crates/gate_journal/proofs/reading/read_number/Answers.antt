use Rattle.std.proofs.Common.{◌≡◌, ◌+◌, ◌<◌, ◌++◌, List, [], ℕ, drop, get_or, ◌∙◌, ap, subst, arith, rules}
use Rattle.std.proofs.lemmas.List.{append-nil, drop_all}
use Rattle.byteorder.specs.Endian.{big_bytes}
use Rattle.disk_model.specs.Part.{inside}
use Rattle.gate_journal.specs.Reading.{HoldsAt}
use Rattle.gate_journal.proofs.Standing.{number_is, width4}
use Rattle.gate_journal.proofs.reading.read_number.Goals as goal

pub returns-clause-number : goal.returns-clause-number
returns-clause-number g c = λ keeps.
    let bytes = c.in_ok-bytes.bytes in
    let fits : (i : ℕ) → get_or bytes i 0 < 256 = λ i. search rules in
    let is = number_is 4 width4 bytes (omega arith) fits c.read_u32.result c.read_u32.ensures in
    let none : drop 4 bytes ≡ [] = drop_all 4 bytes (omega arith) in
    let whole = is ∙ ap (λ (l : List ℕ). big_bytes 4 c.read_u32.result ++ l) none ∙ append-nil (big_bytes 4 c.read_u32.result) in
    subst (λ (l : List ℕ). HoldsAt (inside c.args.part (g.D.Disk.gives c.args.disk.now)) c.args.at (c.args.at + 4) l) whole (c.in_ok-bytes.ensures.bytes keeps)
