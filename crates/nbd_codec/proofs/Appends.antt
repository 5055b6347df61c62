-- What was put at the end, one part after another.
use Rattle.std.proofs.Common.{◌≡◌, ℕ, List, ◌++◌, ap, ◌∙◌, append_assoc}

-- a part, and all that came behind it
pub joined : (a b x y z : List ℕ) → y ≡ x ++ a → z ≡ y ++ b → z ≡ x ++ (a ++ b)
joined a b x y z p q = q ∙ ap (λ (w : List ℕ). w ++ b) p ∙ append_assoc x a b
