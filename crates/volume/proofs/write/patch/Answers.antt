use Rattle.std.proofs.Common.{arith, rules, ◌≡◌, ◌∙◌, ◌*◌, ◌-◌, take, drop, length, replicate, ap, sym}
use Rattle.std.proofs.lemmas.List.{length-replicate}
use Rattle.volume.specs.Body.{bytes_of}
use Rattle.volume.specs.Volumes.{block_of-patched_untouched}
use Rattle.volume.specs.Writes.{block_of}
use Rattle.volume.proofs.Patches.{range-patched}
use Rattle.volume.proofs.Zeros.{zeros_within}
use Rattle.volume.proofs.write.patch.Goals as goal

pub returns-in-Given-clause-patched : goal.returns-in-Given-clause-patched
unfolding block_of
returns-in-Given-clause-patched c volume fits was =
    let w = c.args.write.now in
    let first = c.from-first.result * 4096 in
    let at = c.max-start.result - first in
    let n = c.min-end.result - first - at in
    let from = c.max-start.result - w.offset in
    let is : c.in-Given.payload ≡ w.bytes = ap bytes_of (sym c.in-Given.is) ∙ ap (λ x. x.bytes) c.write.view_is in
    let long : length c.deref.result.now ≡ length w.bytes = ap length (c.deref.ensures ∙ is) in
    let copied : c.copy_from_slice.new.self ≡ take n (drop from w.bytes) = search rules in
    range-patched volume w fits (4096 * c.args.block) 4096 c.args.bytes.now was c.told-bytes at n from c.copy_from_slice.new.self (omega arith) (omega arith) (omega arith) copied

pub returns-in-Zeros-clause-patched : goal.returns-in-Zeros-clause-patched
unfolding block_of
returns-in-Zeros-clause-patched c volume fits was =
    let w = c.args.write.now in
    let first = c.from-first.result * 4096 in
    let at = c.max-start.result - first in
    let n = c.min-end.result - first - at in
    let from = c.max-start.result - w.offset in
    let is : replicate c.in-Zeros.field-0 0 ≡ w.bytes = ap bytes_of (sym c.in-Zeros.is) ∙ ap (λ x. x.bytes) c.write.view_is in
    let long : c.in-Zeros.field-0 ≡ length w.bytes = sym (length-replicate c.in-Zeros.field-0 0) ∙ ap length is in
    let count : length c.fill.new.self ≡ n = grind arith in
    let filled : c.fill.new.self ≡ replicate n 0 = search rules in
    range-patched volume w fits (4096 * c.args.block) 4096 c.args.bytes.now was c.told-bytes at n from c.fill.new.self (omega arith) (omega arith) (omega arith)
    (filled ∙ zeros_within c.in-Zeros.field-0 n from w.bytes is (omega arith))

pub returns-else-start-end-clause-patched : goal.returns-else-start-end-clause-patched
returns-else-start-end-clause-patched c volume fits was =
    block_of-patched_untouched volume c.args.write.now c.args.block fits (λ touched. absurd (omega arith)) ∙ was
