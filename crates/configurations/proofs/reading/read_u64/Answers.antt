use Rattle.std.proofs.Common.{ℕ, ◌<◌, ◌≡◌, length, get_or, ap, sym, subst, ◌∙◌, arith}
use Rattle.std.proofs.lemmas.List.{length-take}
use Rattle.std.proofs.lemmas.Nat.{be_bytes_8}
use Rattle.configurations.proofs.Encodings.{IsBytes-take, number_in_front}
use Rattle.configurations.proofs.reading.read_u64.Goals as goal

pub returns-clause-read : goal.returns-clause-read
returns-clause-read c =
    let (front_is, behind_is, longer) = c.in_ok-number.ensures.cases in
    let front = c.in_ok-number.number.now in
    let bytes = c.args.bytes.now in
    let long : length front ≡ 8 = ap length front_is ∙ omega (arith, length-take 8 bytes) in
    let fits : (i : ℕ) → get_or front i 0 < 256 = λ i. subst (λ l. get_or l i 0 < 256) (sym front_is) (IsBytes-take 8 bytes (λ j. omega (arith, c.type_inv.bytes j)) i) in
    number_in_front 8 c.from_be_bytes.result bytes front c.in_ok-number.behind.now (be_bytes_8 front c.from_be_bytes.result long fits c.from_be_bytes.ensures) front_is behind_is
