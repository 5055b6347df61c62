use Rattle.std.proofs.Common.{◌∷◌, [], List, ap, arith, length, length-append, subst, take}
use Rattle.std.proofs.lemmas.Grind.{common_steps}
use Rattle.std.proofs.lemmas.List.{take_all}
use Rattle.std.proofs.lemmas.List.Elements.{All-more}
use Rattle.std.specs.List.{flat_map}
use Rattle.std.specs.Prelude.{All}
use Rattle.gate_journal.specs.Image.{Image}
use Rattle.gate_journal.specs.Batch.{IsWhole, head_encoding, image_encoding}
use Rattle.gate_journal.proofs.Marks.{length-head, length-images_encoding}
use Rattle.gate_journal.proofs.batch.encode_behind_gate.Goals as goal

pub loop-image-preserved : goal.loop-image-preserved
loop-image-preserved c =
    record {
      encoding = grind (arith, common_steps);
      whole = All-more IsWhole c.args.images.now c.loop-image.image-index c.image-item.result (omega arith) c.loop-image.invariant.whole (subst IsWhole c.image-item.is c.in_ok-encode_to.ensures.whole);
    }

pub returns-clause-len : goal.returns-clause-len
returns-clause-len c =
    let images = c.args.images.now in
    let all = take_all c.loop-image.image-index images (omega (arith, c.loop-image-test.false)) in
    let whole : All IsWhole images = subst (All IsWhole) all c.loop-image.invariant.whole in
    let text = flat_map image_encoding (take c.loop-image.image-index images) in
    let behind = ap length (c.loop-image.invariant.encoding) in
    omega (
      arith,
      ap length c.in_ok-push.ensures.items,
      length-append c.loop-image.buffer.items (0 ∷ []),
      behind,
      length-append (head_encoding c.args.front (length images)) text,
      length-head c.args.front (length images),
      ap (λ (l : List Image). length (flat_map image_encoding l)) all,
      length-images_encoding images whole,
      c.requires.size,
    )
