use Rattle.std.proofs.Common.{◌∙◌, ap, drop, sym}
use Rattle.std.specs.Prelude.{Bool, position}
use Rattle.std.proofs.lemmas.List.{length-drop}
use Rattle.std.proofs.Common.{◌+◌, arith}
use Rattle.rejoin_catchup.proofs.Marks.{least-found, least-not_found, rest}
use Rattle.rejoin_catchup.proofs.sender.next_mark.Goals as goal

pub returns-in-Some : goal.returns-in-Some
returns-in-Some c =
    let found = ap (position (λ (marked : Bool). marked)) (sym (rest c.args.marks.now c.args.from)) ∙ sym c.in-Some.ensures.first in
    sym (ap (λ n. c.args.from + n) (least-found (drop c.args.from c.args.marks.now) c.in-Some.behind found))

pub returns-in-None : goal.returns-in-None
returns-in-None c =
    let found = ap (position (λ (marked : Bool). marked)) (sym (rest c.args.marks.now c.args.from)) ∙ sym c.in-None.ensures.first in
    omega (arith, least-not_found (drop c.args.from c.args.marks.now) found, length-drop {A = Bool} c.args.from c.args.marks.now)
