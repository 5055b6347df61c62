use Rattle.std.proofs.Common.{◌≡◌, ℕ, ap, length, replicate, rules, sym, ◌∙◌}
use Rattle.gate_journal.specs.Image.{bytes_of}
use Rattle.gate_journal.proofs.image.Image.copy_to.Goals as goal

pub returns-in-Zeros-clause-copied : goal.returns-in-Zeros-clause-copied
returns-in-Zeros-clause-copied c =
    let is : replicate 4096 0 ≡ c.args.self.now.bytes = ap bytes_of (sym c.in-Zeros.is) ∙ ap (λ x. x.bytes) c.self.view_is in
    let filled : c.fill.new.self ≡ replicate (length c.args.bytes.now) 0 = search rules in
    filled ∙ ap (λ (n : ℕ). replicate n 0) c.requires ∙ is
