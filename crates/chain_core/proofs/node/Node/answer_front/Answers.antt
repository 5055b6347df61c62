use Rattle.std.proofs.Common.{◌≡◌, ◌<◌, ◌≤◌, ◌∙◌, None, Some, ap, arith, inl, inr, map, subst, sym}
use Rattle.std.specs.Prelude.{max}
use Rattle.disk_model.specs.Disk.{LeavesOnly}
use Rattle.local_store.specs.About.{meaning_with}
use Rattle.local_store.specs.Meaning.{Means}
use Rattle.chain_steps.specs.Node.{last_of}
use Rattle.chain_steps.specs.Steps.{looked_front, stop}
use Rattle.chain_steps.specs.declared.cause.Cause.TheVariants.{Memory}
use Rattle.chain_core.specs.Reads.{answer_with}
use Rattle.chain_core.proofs.Answering.{front_answered, none_looked, too_far, which_front}
use Rattle.chain_core.proofs.StoreReads.{as_before, first, run_first}
use Rattle.chain_core.proofs.node.Node.answer_front.Goals as goal

pub returns-in_default-clause-any_moment : goal.returns-in_default-clause-any_moment
returns-in_default-clause-any_moment g c = run_first g.S.StoreLike.about g.S.StoreLike.keeps g.S.StoreLike.moment g.S.StoreLike.may_have_left_since g.S.StoreLike.may_leave_now g.met.S.StoreLike.means_now g.met.S.StoreLike.only_now c.args.self.now.store

pub returns-in_default-clause-step : goal.returns-in_default-clause-step
returns-in_default-clause-step g c =
    let none : looked_front c.args.self.now.state.found ≡ None = sym c.looked_front.ensures ∙ c.in_default.is in
    inl (
      first g.S.StoreLike.about g.S.StoreLike.keeps g.S.StoreLike.moment g.S.StoreLike.may_have_left_since g.S.StoreLike.may_leave_now g.met.S.StoreLike.means_now g.met.S.StoreLike.only_now c.args.self.now.store g.S.StoreLike.failures,
      inl (record {
        node = λ volume. sym (ap (λ s. s.node) (none_looked volume c.args.self.now.state c.args.self.now.state.found none));
        sent = λ here volume kept. c.nothing.ensures ∙ sym (ap (λ s. s.out) (none_looked volume c.args.self.now.state c.args.self.now.state.found none));
      }),
    )

pub returns-then-front-applied-clause-any_moment : goal.returns-then-front-applied-clause-any_moment
returns-then-front-applied-clause-any_moment g c = λ here volume kept.
    subst (λ s. LeavesOnly g.S.StoreLike.moment g.S.StoreLike.may_have_left_since c.args.self.now.store s (Means (meaning_with (g.S.StoreLike.about c.args.self.now.store) volume))) (sym (ap (λ s. s.store) c.stop_by.ensures.step.node))
    (run_first g.S.StoreLike.about g.S.StoreLike.keeps g.S.StoreLike.moment g.S.StoreLike.may_have_left_since g.S.StoreLike.may_leave_now g.met.S.StoreLike.means_now g.met.S.StoreLike.only_now c.args.self.now.store here volume kept)

pub returns-then-front-applied-clause-step : goal.returns-then-front-applied-clause-step
returns-then-front-applied-clause-step g c =
    let now = c.args.self.now in
    let some : looked_front now.state.found ≡ Some c.in-Some.front = sym c.looked_front.ensures ∙ c.in-Some.is in
    let far : last_of now.state < c.in-Some.front = subst (λ s. last_of s.state < c.in-Some.front) c.self.view_is (omega (arith, c.if-front-applied.true, c.applied.ensures)) in
    inl (
      as_before (first g.S.StoreLike.about g.S.StoreLike.keeps g.S.StoreLike.moment g.S.StoreLike.may_have_left_since g.S.StoreLike.may_leave_now g.met.S.StoreLike.means_now g.met.S.StoreLike.only_now now.store g.S.StoreLike.failures) c.stop_by.new.self.store (ap (λ s. s.store) c.stop_by.ensures.step.node),
      inl (record {
        node = λ volume. ap (λ s. s.state) c.stop_by.ensures.step.node ∙ sym (ap (λ s. s.node) (too_far volume now.state now.state.found c.in-Some.front some far));
        sent = λ here volume kept. c.stop_by.ensures.step.sent ∙ sym (ap (λ s. s.out) (too_far volume now.state now.state.found c.in-Some.front some far));
      }),
    )

pub returns-in-Ok-clause-step : goal.returns-in-Ok-clause-step
returns-in-Ok-clause-step g c =
    let now = c.args.self.now in
    let mid = c.payloads-2.new.self in
    let read = c.in-Ok.ensures.only_read in
    let same = c.in-Ok.ensures.state in
    let payloads = map (λ bytes. bytes.items) c.in-Ok.payloads.items in
    let some : looked_front now.state.found ≡ Some c.in-Some.front = sym c.looked_front.ensures ∙ c.in-Some.is in
    let (f, looked, number) = which_front now.state.found c.in-Some.front some in
    let within : f.number ≤ last_of now.state = subst (λ s. f.number ≤ last_of s.state) c.self.view_is (omega (arith, number, c.if-front-applied.false, c.applied.ensures)) in
    let at : c.front_of.result ≡ max now.state.known f.number = subst (λ s. c.front_of.result ≡ max s.state.known f.number) c.payloads.view_is (let most : c.front_of.result ≡ max c.in-Some.front c.payloads.inside.known = c.front_of.ensures in omega (arith, number, most)) in
    elim (c.answer_with.ensures.answered f (ap (λ s. s.found) same ∙ looked)) [
      | inl is ↦ inl (
        as_before read c.answer_with.new.self.store (ap (λ s. s.store) is.node),
        inl (front_answered g.S.StoreLike.keeps_model (g.S.StoreLike.keeps now.store) now.state f c.front_of.result payloads looked within at c.in-Ok.ensures.read c.answer_with.new.self.state c.answer_with.result
            (ap (λ s. s.state) is.node ∙ ap (λ s. (answer_with payloads f.number s).node) same) (is.sent ∙ ap (λ s. (answer_with payloads f.number s).out) same)),
      )
      | inr is ↦ inl (
        as_before read c.answer_with.new.self.store (ap (λ s. s.store) is.node),
        inr (record { node = ap (λ s. s.state) is.node ∙ ap (λ s. (stop Memory s).node) same; sent = is.sent ∙ ap (λ s. (stop Memory s).out) same }),
      )
    ]

pub returns-in-Ok-clause-any_moment : goal.returns-in-Ok-clause-any_moment
returns-in-Ok-clause-any_moment g c = λ here volume kept.
    subst (λ s. LeavesOnly g.S.StoreLike.moment g.S.StoreLike.may_have_left_since c.args.self.now.store s (Means (meaning_with (g.S.StoreLike.about c.args.self.now.store) volume))) (sym c.answer_with.ensures.store)
    (c.in-Ok.ensures.any_moment here volume kept)
