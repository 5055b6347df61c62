use Rattle.std.proofs.Common.{arith, ap, sym, ◌∙◌, ◌≡◌, ◌+◌, ◌*◌, length}
use Rattle.volume.specs.Body.{kept_of}
use Rattle.volume.specs.Writes.{Fits}
use Rattle.version_table.proofs.TableLemmas.{AreStored-push}
use Rattle.version_table.specs.Held.{Held, applied_of}
use Rattle.version_table.proofs.table.Table.apply.Goals as goal

pub invariant_of-self-2 : goal.invariant_of-self-2
invariant_of-self-2 c =
    let number : c.args.n ≡ c.self.inside.front + length c.self.inside.kept.items + 1 = c.requires.next ∙ ap (λ (t : Held). applied_of t + 1) (sym c.self.view_is) in
    let same : c.in_ok-write.write ≡ c.args.write.now = c.in_ok-write.ensures.cases in
    let fits : Fits (4096 * 65536) c.in_ok-write.write = rw same c.requires.inside in
    let own : c.kept.result ≡ kept_of c.in_ok-write.write = c.kept.ensures.kept ∙ ap kept_of (sym same) in
    rw c.in_ok-push_back.ensures.items (AreStored-push c.self.inside.front c.self.inside.kept.items c.self.inside.«data» c.self.inside.marks c.mark.new.marks
    c.blocks_of-blocks.result.start c.blocks_of-blocks.result.end c.kept.result _ c.self.invariant number (omega arith) fits own (omega arith) (omega arith)
    (rw (c.offset.ensures, c.len-2.ensures) at c.blocks_of-blocks.ensures.reached) c.in_default.ensures.ok)
