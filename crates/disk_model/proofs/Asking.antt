-- What was asked of a file, one call on.
use Rattle.std.proofs.Common.{◌≡◌, ℕ, ◌+◌, Bool, true, List, [], ◌∷◌, ◌++◌, replicate, sym, ◌∙◌, ap, arith, append_assoc}
use Rattle.disk_model.specs.RawFile.{Call, AreZeros, GoesOn, IsZeroed, writes}

-- zeros, and some behind them
zeros_more : (from at n to : ℕ) (zeros : List Call) → AreZeros from at zeros → at + n ≡ to → AreZeros from to (zeros ++ writes at (replicate n 0) true ∷ [])
zeros_more from at n to [] is end = (n, ap (λ (k : ℕ). writes k (replicate n 0) true) (sym is), omega (arith, is, end))
zeros_more from at n to (call ∷ zeros) (m, first, rest) end = (m, first, zeros_more (from + m) at n to zeros rest end)

pub zeroed_more : (from at n to : ℕ) (old mid new : List Call) → IsZeroed from at old mid → at + n ≡ to → new ≡ mid ++ writes at (replicate n 0) true ∷ [] → IsZeroed from to old new
zeroed_more from at n to old mid new (zeros, are, is) end more =
    (zeros ++ writes at (replicate n 0) true ∷ [], zeros_more from at n to zeros are end, more ∙ ap (λ (l : List Call). l ++ writes at (replicate n 0) true ∷ []) is ∙ append_assoc old zeros (writes at (replicate n 0) true ∷ []))

-- one call, and then others
pub goes_further : (old mid new : List Call) → GoesOn old mid → GoesOn mid new → GoesOn old new
goes_further old mid new (first, is) (second, more) = (first ++ second, more ∙ ap (λ (l : List Call). l ++ second) is ∙ append_assoc old first second)

-- zeros that were written
pub zeros_written : (old new : List Call) (at n : ℕ) (bytes : List ℕ) (done : Bool) → new ≡ old ++ writes at bytes done ∷ [] → bytes ≡ replicate n 0 → done ≡ true → new ≡ old ++ writes at (replicate n 0) true ∷ []
zeros_written old new at n bytes done is zeros ok = is ∙ ap (λ (l : List ℕ). old ++ writes at l done ∷ []) zeros ∙ ap (λ (b : Bool). old ++ writes at (replicate n 0) b ∷ []) ok
