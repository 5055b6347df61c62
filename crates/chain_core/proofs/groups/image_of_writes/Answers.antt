use Rattle.std.proofs.Common.{◌≡◌, ◌∙◌, ap, true, sym}
use Rattle.gate_journal.specs.Image.{Image}
use Rattle.volume.specs.Body.{is_zeros}
use Rattle.volume.specs.Volumes.{block_of-patched_zeros}
use Rattle.chain_core.proofs.Blanks.{begins_before, ends_behind, one_fits}
use Rattle.chain_core.proofs.groups.image_of_writes.Goals as goal

pub returns-in-None-clause-value : goal.returns-in-None-clause-value
returns-in-None-clause-value c = λ volume fit.
    let w = c.in-Some.write.now in
    let block = c.args.block in
    let zeros : true ≡ is_zeros w.bytes = rw c.in-None.is at c.in_ok-bytes.ensures.zeros in
    ap (λ (i : Image). i.bytes) c.zeros.ensures
    ∙ sym (c.in-Some.ensures.value volume fit
    ∙ block_of-patched_zeros volume w block (one_fits _ _ w fit c.in-Some.ensures.one) (begins_before block w c.in-Some.ensures.whole) (ends_behind block w c.in-Some.ensures.whole) (sym zeros))
