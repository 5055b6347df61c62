use Rattle.std.proofs.Common.{refl}
use Rattle.recovery.proofs.Choosing.{beaten, stranger_passed, unbeaten}
use Rattle.recovery.proofs.search.better.Goals as goal

pub returns-in_default-None : goal.returns-in_default-None
returns-in_default-None c = stranger_passed c.args.chain.now c.args.returned.now c.args.place c.args.best c.requires.best (rw c.in_default-None.is-1 at c.candidate_at.ensures)

pub returns-in-Some-Some : goal.returns-in-Some-Some
returns-in-Some-Some c =
    let (here, next) = rw c.in-Some-Some.is-1 at c.candidate_at.ensures in
    let best = rw c.in-Some-Some.is-0 at c.requires.best in
    unbeaten c.args.chain.now c.args.returned.now c.args.place c.in-Some-Some.next here next c.in-Some-Some.best best (λ beats. let told = c.if-not-beats.ensures.1 beats in absurd cc)

pub returns-in_default : goal.returns-in_default
returns-in_default c =
    let (here, next) = rw c.in-Some-Some.is-1 at c.candidate_at.ensures in
    let best = rw c.in-Some-Some.is-0 at c.requires.best in
    beaten c.args.chain.now c.args.returned.now c.args.place c.in-Some-Some.next here next c.in-Some-Some.best best (c.if-not-beats.ensures.0 refl)
