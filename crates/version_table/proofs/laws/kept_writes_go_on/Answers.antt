use Rattle.std.proofs.Common.{◌≡◌, ◌∙◌, ◌+◌, ◌-◌, ◌++◌, List, sym, ap, take, drop, replicate, arith}
use Rattle.std.specs.Prelude.{fold}
use Rattle.std.proofs.Math.Seq.{take-add}
use Rattle.std.proofs.lemmas.List.{take-map}
use Rattle.std.proofs.lemmas.List.Sums.{fold-append}
use Rattle.volume.specs.Writes.{Placed, volume_of, patched}
use Rattle.version_table.specs.Held.{writes_upto}
use Rattle.version_table.specs.declared.kept.Kept.{Kept}
use Rattle.version_table.proofs.laws.kept_writes_go_on.Goals as goal

pub returns : goal.returns
returns c = λ size j ws t follow le.
    let m = j - t.forgotten in
    let is : t.forgotten + m ≡ j = omega arith in
    let split : take j ws ≡ take t.forgotten ws ++ take m (drop t.forgotten ws) = ap (λ n. take n ws) (sym is) ∙ take-add t.forgotten m ws in
    let kept : take m (drop t.forgotten ws) ≡ writes_upto t j = ap (λ (xs : List Placed). take m xs) (sym follow) ∙ take-map (λ (k : Kept). k.write) m t.kept in
    ap (volume_of size) split ∙ fold-append patched (replicate size 0) (take t.forgotten ws) (take m (drop t.forgotten ws)) ∙ ap (fold patched (volume_of size (take t.forgotten ws))) kept
