use Rattle.std.proofs.Common.{◌≡◌, ◌∙◌, ◌<◌, ap, arith, sym}
use Rattle.std.specs.Prelude.{is_some}
use Rattle.volume.specs.Writes.{IsTouched}
use Rattle.version_table.specs.Held.{Held}
use Rattle.version_table.specs.declared.kept.Kept.{Kept}
use Rattle.version_table.proofs.LastWhole.{apart_from, ends_whole-apart, is_some-then_some, last_ends, last_is_one, last_makes, some_where}
use Rattle.version_table.proofs.table.Table.whole_at.Goals as goal

pub returns-then-last-self-clause-there : goal.returns-then-last-self-clause-there
returns-then-last-self-clause-there c =
    let front : c.self.inside.front ≡ c.args.self.now.forgotten = ap (λ (t : Held). t.forgotten) c.self.view_is in
    sym (ends_whole-apart c.args.block _ (λ k w lt. apart_from c.args.self.now c.args.j c.args.block 0 c.requires.applied (λ i e _ below. c.in_default.ensures.none i e (omega arith) below) k w (omega arith) lt))

pub returns-clause-there : goal.returns-clause-there
returns-clause-there c =
    let front : c.self.inside.front ≡ c.args.self.now.forgotten = ap (λ (t : Held). t.forgotten) c.self.view_is in
    let from = c.loop-number.invariant.from in
    let above : c.args.self.now.forgotten < c.loop-number.last = omega arith in
    let is = λ (e : Kept). ap (λ (k : Kept). k.write) (c.get.ensures.write e) in
    let touched : IsTouched c.get.result.now.write c.args.block = rw (is c.get.result.now) (c.loop-number.invariant.touched above c.get.result.now) in
    ap is_some c.then_some.ensures ∙ is_some-then_some c.has_whole.result _ ∙ c.has_whole.ensures
    ∙ sym (last_ends c.args.self.now c.args.j c.args.block c.loop-number.last c.get.result.now.write above c.loop-number.invariant.upto c.requires.applied is c.in_default.ensures.none touched)

pub returns-clause-one : goal.returns-clause-one
returns-clause-one c =
    let front : c.self.inside.front ≡ c.args.self.now.forgotten = ap (λ (t : Held). t.forgotten) c.self.view_is in
    let from = c.loop-number.invariant.from in
    rw c.then_some.ensures (some_where c.has_whole.result _ _ (λ _. last_is_one c.args.self.now c.args.j c.args.block c.loop-number.last c.get.result.now.write (omega arith) c.loop-number.invariant.upto c.requires.applied
    (λ e. ap (λ (k : Kept). k.write) (c.get.ensures.write e)) c.in_default.ensures.none))

pub returns-clause-value : goal.returns-clause-value
returns-clause-value c =
    let front : c.self.inside.front ≡ c.args.self.now.forgotten = ap (λ (t : Held). t.forgotten) c.self.view_is in
    let from = c.loop-number.invariant.from in
    rw c.then_some.ensures (some_where c.has_whole.result _ _ (λ whole. last_makes c.args.self.now c.args.j c.args.block c.loop-number.last c.get.result.now.write (omega arith) c.loop-number.invariant.upto c.requires.applied
    (λ e. ap (λ (k : Kept). k.write) (c.get.ensures.write e)) c.in_default.ensures.none (sym c.has_whole.ensures ∙ whole)))
