use Rattle.std.proofs.Common.{ap, subst, sym, ◌≡◌, ◌∙◌, ◌⊎◌, take}
use Rattle.std.specs.Prelude.{Any, ◌↔◌}
use Rattle.std.proofs.lemmas.List.{take_all}
use Rattle.flusher.specs.Plan.{IsPending}
use Rattle.local_store.proofs.Pends.{marked, pends}
use Rattle.local_store.proofs.plain.put.Goals as goal

pub returns-clause-pends : goal.returns-clause-pends
returns-clause-pends c = λ b.
    let whole : take c.loop-image.image-index c.args.images.now ≡ c.args.images.now = take_all c.loop-image.image-index c.args.images.now c.loop-image-test.false in
    let all = c.loop-image.invariant.1 ∙ ap (marked (λ image. tt) c.args.pending.now) whole in
    subst (λ p. IsPending p b ↔ (IsPending c.args.pending.now b ⊎ Any (λ image. image.block ≡ b) c.args.images.now)) (sym all)
    (pends (λ image. tt) b c.args.images.now c.args.pending.now c.requires.images.within)
