use Rattle.std.proofs.Common.{◌≡◌, ◌+◌, ◌<◌, List, [], ◌∷◌, ◌++◌, length, get_or, take, sym, ◌∙◌, ap, subst, arith, append_assoc}
use Rattle.std.proofs.lemmas.List.{take_more}
use Rattle.disk_model.specs.Content.{AreMarked}
use Rattle.disk_model.specs.declared.content.Extent.{Extent}
use Rattle.disk_model.proofs.Marks.{marked_more}
use Rattle.disk_model.proofs.halving.mark_ranges.Goals as goal

pub loop-range-preserved : goal.loop-range-preserved
loop-range-preserved c =
    let i = c.loop-range.range-index in
    let ranges = c.args.ranges.now in
    let range : Extent = get_or ranges i (record { at = 0; len = 0 }) in
    let lt : i < length ranges = omega arith in
    let size : length c.mark_range.new.marks ≡ length c.loop-range.marks = c.mark_range.ensures.size in
    record {
      size = size ∙ c.loop-range.invariant.size;
      marked = λ before was.
          let more : before ++ take i ranges ++ range ∷ [] ≡ before ++ take (i + 1) ranges =
          append_assoc before (take i ranges) (range ∷ []) ∙ ap (λ (rest : List Extent). before ++ rest) (sym (take_more ranges i (record { at = 0; len = 0 }) lt)) in
          subst (λ (all : List Extent). AreMarked all c.mark_range.new.marks) more
          (marked_more (before ++ take i ranges) range c.loop-range.marks c.mark_range.new.marks (c.loop-range.invariant.marked before was) size
          c.mark_range.ensures.inside c.mark_range.ensures.before c.mark_range.ensures.after);
    }
