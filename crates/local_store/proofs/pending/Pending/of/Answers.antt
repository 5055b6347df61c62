use Rattle.std.proofs.Common.{◌≡◌, ◌<◌, List, ℕ, ◌∙◌, ap, subst, sym, get_or, length, replicate, Option, None}
use Rattle.std.specs.Prelude.{All}
use Rattle.std.proofs.lemmas.List.Sums.{fold_more}
use Rattle.gate_journal.specs.Batch.{Batch}
use Rattle.gate_journal.specs.Image.{Image}
use Rattle.local_store.specs.Pending.{with_pending}
use Rattle.local_store.proofs.Homes.{length-with_pending}
use Rattle.local_store.proofs.pending.Pending.of.Goals as goal

pub keep-requires : goal.keep-requires
keep-requires c =
    let (was, long) = c.loop-batch.invariant in
    let staged : c.in_ok-staged.staged.items ≡ c.images.result.now = c.in_ok-staged.ensures in
    let here : All (λ (i : Image). i.block < c.args.blocks) c.images.result.now
    = subst (All (λ (i : Image). i.block < c.args.blocks)) (ap (λ (b : Batch). b.images) (sym c.batch-item.is) ∙ sym c.images.ensures) (c.requires c.loop-batch.batch-index c.batch-item.result c.loop-batch-test.true) in
    subst (λ (n : ℕ). All (λ (i : Image). i.block < n) c.in_ok-staged.staged.items) (sym long) (subst (All (λ (i : Image). i.block < c.args.blocks)) (sym staged) here)

pub loop-batch-preserved : goal.loop-batch-preserved
loop-batch-preserved c =
    let (was, long) = c.loop-batch.invariant in
    let staged : c.in_ok-staged.staged.items ≡ c.images.result.now = c.in_ok-staged.ensures in
    let images = staged ∙ c.images.ensures ∙ ap (λ (b : Batch). b.images) c.batch-item.is in
    let kept = c.keep.ensures ∙ ap (with_pending c.loop-batch.pending) images in (
      kept ∙ ap (λ (p : List (Option (List ℕ))). with_pending p (get_or c.args.batches.now c.loop-batch.batch-index c.batch-item.result).images) was
          ∙ sym (fold_more (λ (p : List (Option (List ℕ))) (b : Batch). with_pending p b.images) (replicate c.args.blocks None) c.args.batches.now c.loop-batch.batch-index c.batch-item.result c.loop-batch-test.true),
      ap (λ (p : List (Option (List ℕ))). length p) kept ∙ length-with_pending c.loop-batch.pending (get_or c.args.batches.now c.loop-batch.batch-index c.batch-item.result).images ∙ long,
    )
