-- Zeros, of which no byte is kept.
use Rattle.std.proofs.Common.{◌≡◌, ℕ, zero, suc, ◌+◌, ◌-◌, ◌≤◌, true, List, take, drop, replicate, refl, ap, ◌∙◌, sym, arith}
use Rattle.std.proofs.lemmas.List.{drop-replicate, take-replicate}
use Rattle.volume.specs.Body.{is_zeros}

pub are_zeros : (n : ℕ) → is_zeros (replicate n 0) ≡ true
are_zeros zero = refl
are_zeros (suc n) = are_zeros n

-- a range of zeros
pub zeros_within : (len n from : ℕ) (bytes : List ℕ) → replicate len 0 ≡ bytes → from + n ≤ len → replicate n 0 ≡ take n (drop from bytes)
zeros_within len n from bytes is within =
    sym (take-replicate n (len - from) 0 (omega (arith, within))) ∙ ap (take n) (sym (drop-replicate from len 0)) ∙ ap (λ (l : List ℕ). take n (drop from l)) is
