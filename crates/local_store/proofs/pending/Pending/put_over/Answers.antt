use Rattle.std.proofs.Common.{◌≡◌, ◌+◌, ◌-◌, ◌*◌, ◌∙◌, List, ℕ, arith, length, subst, sym}
use Rattle.local_store.proofs.Runs.{IsOverTo, over_home, over_pending, part_is_patched}
use Rattle.local_store.proofs.pending.Pending.put_over.Goals as goal
use Rattle.local_store.proofs.pending.Pending.put_over.Goals.{in-Some, in_default}

pub loop-i-preserved : goal.loop-i-preserved
loop-i-preserved c =
    let i = c.loop-i.i in
    let bytes = c.loop-i.bytes in
    let OverNext : List ℕ → Type 0 = λ new. IsOverTo c.args.self.now c.args.first c.args.count c.args.bytes.now new (i + 1) in
    elim c.match-get.branch [
      | in-Some w ↦
          let count : i * 4096 + 4096 - i * 4096 ≡ 4096 = omega arith in
          let whole : length w.in-Some.image.now.bytes ≡ 4096 = w.copy_to.ensures.long in
          subst OverNext
          (sym (w.bytes-is ∙ part_is_patched _ _ (4096 * i) bytes w.copy_to.new.bytes w.in-Some.image.now.bytes (omega arith) (count ∙ sym whole) w.copy_to.ensures.copied))
          (over_pending c.args.self.now c.args.first c.args.count c.args.bytes.now bytes i c.loop-i.invariant w.in-Some.image.now.bytes c.loop-i-test.true whole w.in-Some.ensures)
      | in_default w ↦ subst OverNext (sym w.bytes-is) (over_home c.args.self.now c.args.first c.args.count c.args.bytes.now bytes i c.loop-i.invariant w.in_default.ensures)
    ]
