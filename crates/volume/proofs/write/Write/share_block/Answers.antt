use Rattle.std.proofs.Common.{arith, ◌≡◌, ◌∙◌, ◌+◌, ◌*◌, ◌-◌, ℕ, List, take, drop, ap, sym}
use Rattle.volume.specs.Body.{bytes_of, is_zeros}
use Rattle.volume.specs.Volumes.{block_of-patched_whole}
use Rattle.volume.specs.Writes.{Placed}
use Rattle.volume.proofs.Zeros.{are_zeros}
use Rattle.volume.proofs.write.Write.share_block.Goals as goal

pub returns-in_ok-slice-in-Given-clause-bytes : goal.returns-in_ok-slice-in-Given-clause-bytes
returns-in_ok-slice-in-Given-clause-bytes c volume fits =
    let w = c.args.self.now in
    let is : c.in-Given.payload ≡ w.bytes = ap bytes_of (sym c.in-Given.is) ∙ ap (λ (p : Placed). p.bytes) c.self.view_is in
    let place : c.self.inside.offset ≡ w.offset = ap (λ (p : Placed). p.offset) c.self.view_is in
    let from = c.from.result * 4096 - c.self.inside.offset in
    let same : 4096 * c.args.block - w.offset ≡ from = omega arith in
    let count : 4096 ≡ from + 4096 - from = omega arith in
    block_of-patched_whole volume w c.args.block fits c.requires.from c.requires.upto ∙ ap (λ (i : ℕ). take 4096 (drop i w.bytes)) same
    ∙ ap (λ (n : ℕ). take n (drop from w.bytes)) count ∙ ap (λ (l : List ℕ). take (from + 4096 - from) (drop from l)) (sym is) ∙ sym c.in_ok-slice-in-Given.ensures.ok

pub returns-in-Zeros-clause-zeros : goal.returns-in-Zeros-clause-zeros
returns-in-Zeros-clause-zeros c = sym (are_zeros c.in-Zeros.field-0) ∙ ap is_zeros (ap bytes_of (sym c.in-Zeros.is) ∙ ap (λ (p : Placed). p.bytes) c.self.view_is)
