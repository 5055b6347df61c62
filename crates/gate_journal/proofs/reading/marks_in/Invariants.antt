use Rattle.std.proofs.Common.{◌≡◌, ◌*◌, length, All}
use Rattle.gate_journal.specs.Batch.{EncodesImage, InTurn, IsWhole}
use Rattle.gate_journal.specs.Reading.{HoldsTo}
use Rattle.gate_journal.proofs.reading.marks_in.Given as goal

-- the marks so far
abbrev pub invariant-loop-index : goal.invariant-loop-index
invariant-loop-index l = record {
  images : HoldsTo (InTurn EncodesImage) l.bytes l.bytes 0 (4 * length l.marks.items) l.marks.items;
  count : length l.marks.items ≡ l.index;
  whole : All IsWhole l.marks.items;
}
