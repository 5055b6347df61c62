use Rattle.std.proofs.Common.{◌≡◌, ℕ, Bool, length, replicate, ap, subst, sym, if◌then◌else◌}
use Rattle.volume.specs.Body.{bytes_of, kept_of}
use Rattle.volume.proofs.Zeros.{are_zeros}
use Rattle.volume.proofs.write.Write.kept.Goals as goal

pub returns-in-Zeros-clause-kept : goal.returns-in-Zeros-clause-kept
returns-in-Zeros-clause-kept c =
    let len = c.in-Zeros.field-0 in
    subst (λ w. 0 ≡ kept_of w) c.self.view_is
    (subst (λ body. 0 ≡ kept_of (record { offset = c.self.inside.offset; bytes = bytes_of body })) (sym c.in-Zeros.is)
    (ap (λ (none : Bool). if none then 0 else length (replicate {A = ℕ} len 0)) (sym (are_zeros len))))
