use Rattle.std.proofs.Common.{◌≡◌, ◌*◌, ◌^◌, ◌<◌, ◌++◌, [], ℕ, drop, length, refl, sym, subst, arith, rules}
use Rattle.std.proofs.lemmas.List.Elements.{All-cons, All-nil}
use Rattle.std.specs.Prelude.{All}
use Rattle.byteorder.specs.Endian.{big_bytes, big_from}
use Rattle.gate_journal.specs.Batch.{EncodesImage, InTurn, IsWhole}
use Rattle.gate_journal.specs.Reading.{HoldsAt, HoldsTo}
use Rattle.gate_journal.proofs.Images.{image_stands, one_alone}
use Rattle.gate_journal.proofs.Standing.{stands_slice, stands_then}
use Rattle.gate_journal.proofs.reading.images_in.Goals as goal

pub returns-clause-images : goal.returns-clause-images
returns-clause-images c =
    let bytes = c.args.bytes.now in
    let number = c.number_at.result in
    let content = c.in_ok-content.content in
    let long : length content ≡ 4096 = search rules in
    let stands : HoldsAt bytes 0 4100 (big_bytes 4 number ++ content) = stands_then bytes 0 4 4100 (big_bytes 4 number) content c.number_at.ensures.number (stands_slice bytes 4 4096 4096 content refl c.in_ok-content.ensures) in
    let image = subst (HoldsTo EncodesImage bytes bytes 0 4100) (sym c.new-image.ensures) (image_stands bytes 0 (record { block = number; bytes = content }) stands long) in
    subst (HoldsTo (InTurn EncodesImage) bytes bytes 0 4100) (sym c.in_ok-vec.ensures.items) (one_alone bytes bytes 0 4100 c.new-image.result image)

pub returns-clause-whole : goal.returns-clause-whole
returns-clause-whole c =
    let bytes = c.args.bytes.now in
    let none : length c.in_ok-marks.marks.items ≡ 0 = search rules in
    let all = c.in_ok-marks.ensures.all (omega (arith, none, c.requires)) (omega (arith, none)) in
    let low : big_from 0 4 bytes < 2 ^ 31 = subst (λ (n : ℕ). big_from 0 4 (drop (4 * n) bytes) < 2 ^ 31) none all in
    let whole = subst IsWhole (sym c.new-image.ensures) (record { block = omega (arith, low, c.number_at.ensures.value); size = search rules }) in
    subst (All IsWhole) (sym c.in_ok-vec.ensures.items) (All-cons IsWhole c.new-image.result [] whole (All-nil IsWhole))
