use Rattle.std.proofs.Common.{◌≡◌, ap, arith, get_or, take}
use Rattle.std.proofs.lemmas.List.{take_more}
use Rattle.gate_journal.specs.Image.{is_zeros}
use Rattle.gate_journal.specs.Batch.{image_size, images_size}
use Rattle.gate_journal.proofs.Marks.{images_size-push, size_at_most}
use Rattle.gate_journal.proofs.batch.batch_size.Goals as goal

pub loop-image-preserved : goal.loop-image-preserved
loop-image-preserved c =
    let images = c.args.images.now in
    let i = c.loop-image.image-index in
    let here = c.image-item.result in
    let sized : c.size-size.result ≡ image_size here = c.size-size.ensures in
    record {
      size = omega (arith, c.loop-image.invariant.size, sized, ap image_size c.image-item.is, ap images_size (take_more images i here c.loop-image-test.true), images_size-push (take i images) (get_or images i here));
      small = omega (arith, c.loop-image.invariant.small, sized, size_at_most (is_zeros here.bytes));
    }
