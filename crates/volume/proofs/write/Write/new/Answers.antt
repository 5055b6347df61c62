use Rattle.std.proofs.Common.{◌≡◌, ℕ, true, replicate, ap, sym, ◌∙◌}
use Rattle.volume.specs.Body.{is_zeros}
use Rattle.volume.specs.Volumes.{zeros_are}
use Rattle.volume.proofs.write.Write.new.Goals as goal

pub returns-then-is_zeros-clause-bytes : goal.returns-then-is_zeros-clause-bytes
returns-then-is_zeros-clause-bytes c =
    let is : is_zeros c.args.payload ≡ true = ap is_zeros (sym c.deref.ensures) ∙ sym c.is_zeros.ensures ∙ c.if-is_zeros.true in
    ap (λ (n : ℕ). replicate n 0) c.len.ensures.value ∙ zeros_are c.args.payload is
