use Rattle.std.proofs.Common.{◌*◌, ℕ, ◌∙◌, arith, replicate, subst}
use Rattle.disk_model.specs.Disk.{Holds}
use Rattle.disk_model.specs.Part.{inside}
use Rattle.disk_model.specs.declared.part.Part.{Part}
use Rattle.home_blocks.specs.Places.{home_part}
use Rattle.local_store.proofs.Homes.{all_zero, length-home, zero_next}
use Rattle.local_store.proofs.contents.write_zeros.Goals as goal

pub loop-block-preserved : goal.loop-block-preserved
loop-block-preserved g c =
    let (size, failures, most, calls, zeros) = c.loop-block.invariant in
    let done = c.in_ok-write_at.ensures in (
      c.write_at.ensures.size ∙ size,
      done.cause.done ∙ failures,
      omega (arith, most, c.write_at.ensures.most),
      omega (arith, calls, c.write_at.ensures.calls),
      λ keeps.
          let long = length-home c.args.geometry (g.D.Disk.gives c.loop-block.disk) (omega (arith, c.requires.on_disk, size, g.met.D.Disk.gives_size keeps c.loop-block.disk)) in
          zero_next c.args.geometry.blocks c.loop-block.block (inside (home_part c.args.geometry) (g.D.Disk.gives c.loop-block.disk)) (inside (home_part c.args.geometry) (g.D.Disk.gives c.write_at.new.disk)) long c.loop-block-test.true
          (subst (λ (part : Part). Holds (inside part (g.D.Disk.gives c.loop-block.disk)) (4096 * c.loop-block.block) (replicate 4096 0) (inside part (g.D.Disk.gives c.write_at.new.disk))) c.home_part-part.ensures.part
          (subst (λ (n : ℕ). Holds (inside c.home_part-part.result (g.D.Disk.gives c.loop-block.disk)) (4096 * n) (replicate 4096 0) (inside c.home_part-part.result (g.D.Disk.gives c.write_at.new.disk))) c.from.ensures (done.gives keeps)))
          (zeros keeps),
    )

pub returns-clause-zeros : goal.returns-clause-zeros
returns-clause-zeros g c = λ keeps.
    let (size, failures, most, calls, zeros) = c.loop-block.invariant in
    let long = length-home c.args.geometry (g.D.Disk.gives c.loop-block.disk) (omega (arith, c.requires.on_disk, size, g.met.D.Disk.gives_size keeps c.loop-block.disk)) in
    all_zero c.args.geometry.blocks (inside (home_part c.args.geometry) (g.D.Disk.gives c.loop-block.disk)) long (λ b below. zeros keeps b (omega (arith, below, c.loop-block-test.false)))
