use Rattle.std.proofs.Common.{◌≡◌, ℕ, List, true, ap, replicate, sym, ◌∙◌, arith}
use Rattle.std.proofs.lemmas.List.{length-replicate}
use Rattle.gate_journal.specs.Image.{Image, is_zeros}
use Rattle.gate_journal.proofs.Marks.{are_zeros, same_zeros}
use Rattle.gate_journal.proofs.image.Image.new.Goals as goal

pub returns-then-is_zeros : goal.returns-then-is_zeros
returns-then-is_zeros c =
    let blank : is_zeros c.args.bytes ≡ true = ap is_zeros (sym c.deref.ensures) ∙ sym c.is_zeros.ensures ∙ c.if-is_zeros.true in
    let are : replicate 4096 0 ≡ c.args.bytes = same_zeros (replicate 4096 0) c.args.bytes (are_zeros 4096) blank (omega (arith, length-replicate {A = ℕ} 4096 0, c.requires)) in
    c.zeros.ensures ∙ ap (λ (l : List ℕ). record { block = c.args.block; bytes = l }) are
