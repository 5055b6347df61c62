use Rattle.std.proofs.Common.{◌≡◌, ◌∙◌, ℕ, ◌+◌, ap, arith, false, get_or, refl, set, subst, sym, true}
use Rattle.std.proofs.lemmas.List.{take_all}
use Rattle.gate_journal.proofs.ImageLists.{IsMarked, Once, block_of, none_marked, one_marked, not_once}
use Rattle.gate_journal.proofs.batch.has_each_once.Goals as goal

pub loop-image-init : goal.loop-image-init
loop-image-init c = none_marked c.args.images.now _ refl

pub loop-image-preserved : goal.loop-image-preserved
loop-image-preserved c =
    let images = c.args.images.now in
    let i = c.loop-image.image-index in
    let d = c.image-item.result in
    let lt = c.loop-image-test.true in
    let here : c.block-block.result ≡ (get_or images i d).block = c.block-block.ensures ∙ ap block_of c.image-item.is in
    subst (λ (b : ℕ). IsMarked images (i + 1) (set c.loop-image.seen b true)) (sym here)
    (one_marked images i d lt c.loop-image.seen c.loop-image.invariant (c.requires i d lt) (subst (λ (b : ℕ). get_or c.loop-image.seen b false ≡ false) here c.if-seen-block.false))

pub returns-then-seen-block : goal.returns-then-seen-block
returns-then-seen-block c =
    let here : c.block-block.result ≡ (get_or c.args.images.now c.loop-image.image-index c.image-item.result).block = c.block-block.ensures ∙ ap block_of c.image-item.is in
    let seen = subst (λ (b : ℕ). get_or c.loop-image.seen b false ≡ true) here c.if-seen-block.true in (
      λ never. absurd cc,
      λ once. absurd (not_once c.args.images.now c.loop-image.image-index c.image-item.result c.loop-image-test.true c.loop-image.seen c.loop-image.invariant seen once),
    )

pub returns : goal.returns
returns c = (λ _. subst Once (take_all c.loop-image.image-index c.args.images.now (omega (arith, c.loop-image-test.false))) c.loop-image.invariant.once, λ _. refl)
