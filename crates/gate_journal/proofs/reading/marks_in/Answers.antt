use Rattle.std.proofs.Common.{◌≡◌, ◌+◌, ◌-◌, ◌*◌, ◌^◌, ◌≤◌, ◌++◌, ◌∷◌, [], List, ℕ, ap, arith, length, subst, sym, ◌∙◌}
use Rattle.std.proofs.lemmas.Grind.{common_steps}
use Rattle.std.proofs.lemmas.List.Elements.{All-push}
use Rattle.std.specs.Prelude.{All}
use Rattle.byteorder.specs.Endian.{big_bytes}
use Rattle.gate_journal.specs.Image.{Image}
use Rattle.gate_journal.specs.Batch.{EncodesImage, InTurn, IsWhole}
use Rattle.gate_journal.specs.Reading.{HoldsAt, HoldsTo}
use Rattle.gate_journal.proofs.Images.{mark_more, zeros_of, zeros_whole}
use Rattle.gate_journal.proofs.reading.marks_in.Goals as goal

pub loop-index-preserved : goal.loop-index-preserved
loop-index-preserved c =
    let bytes = c.args.bytes.now in
    let old = c.loop-index.marks.items in
    let number = c.number_at-number.result in
    let block = number - 2 ^ 31 in
    let high : 2 ^ 31 ≤ number = omega (arith, c.if-number-lt-MARK_BIT.false) in
    let is : c.push.new.self.items ≡ old ++ zeros_of block ∷ [] = c.in_ok-push.ensures.items ∙ ap (λ (i : Image). old ++ i ∷ []) c.zeros.ensures in
    record {
      images = subst (λ (l : List Image). HoldsTo (InTurn EncodesImage) bytes bytes 0 (4 * length l) l) (sym is)
          (mark_more bytes old number block c.loop-index.invariant.images (subst (λ (n : ℕ). HoldsAt bytes (4 * n) (4 * n + 4) (big_bytes 4 number)) (sym c.loop-index.invariant.count) c.number_at-number.ensures.number) (omega arith));
      count = grind (arith, common_steps);
      whole = subst (All IsWhole) (sym is) (All-push IsWhole old (zeros_of block) c.loop-index.invariant.whole (zeros_whole number high (omega arith) block (omega arith)));
    }
