use Rattle.std.proofs.Common.{◌+◌, ◌-◌, ◌<◌, ◌++◌, List, ℕ, drop, get_or, sym, ◌∙◌, ap, subst, arith, rules, length-drop}
use Rattle.std.proofs.lemmas.List.{drop-drop, get_or-drop}
use Rattle.byteorder.specs.Endian.{big_bytes}
use Rattle.byteorder.specs.Numbers.{big_from-take}
use Rattle.gate_journal.proofs.Standing.{number_is, width4}
use Rattle.gate_journal.proofs.reading.number_at.Goals as goal

pub returns-clause-value : goal.returns-clause-value
returns-clause-value c = c.read_u32.ensures ∙ big_from-take 0 4 (4100 - c.args.at) (drop c.args.at c.args.bytes.now) (omega (arith, c.requires))

pub returns-clause-number : goal.returns-clause-number
returns-clause-number c =
    let bytes = c.args.bytes.now in
    let fits : (i : ℕ) → get_or bytes i 0 < 256 = λ i. search rules in
    number_is 4 width4 (drop c.args.at bytes) (omega (arith, length-drop c.args.at bytes, c.requires)) (λ i. subst (λ (x : ℕ). x < 256) (sym (get_or-drop c.args.at bytes i 0)) (fits (c.args.at + i))) c.read_u32.result (returns-clause-value c)
    ∙ ap (λ (l : List ℕ). big_bytes 4 c.read_u32.result ++ l) (drop-drop 4 c.args.at bytes)
