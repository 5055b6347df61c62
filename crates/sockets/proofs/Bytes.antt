-- What several reads or writes make of the bytes.
use Rattle.std.proofs.Common.{◌≡◌, ◌∙◌, ◌⊎◌, ℕ, ◌+◌, ◌-◌, List, ◌++◌, take, drop, length, ap, sym, subst, inl, inr}
use Rattle.std.proofs.Math.Seq.{take-append_seam}
use Rattle.std.proofs.lemmas.List.{take_rest}
use Rattle.std.specs.Prelude.{Contains, Option}
use lib.Seq.{take-add}
use Rattle.std.specs.Io.KnownBytes.{Appends}
use Rattle.std.proofs.KnownBytes.{Appends-trans}

-- a write of what is left, behind others
pub appends_more : (a b c : Option (List ℕ)) (n more : ℕ) (bytes : List ℕ) → Appends a b (take n bytes) → Appends b c (take more (take (length bytes - n) (drop n bytes))) → Appends a c (take (n + more) bytes)
appends_more a b c n more bytes p q =
    let written : Appends b c (take more (drop n bytes)) = subst (λ (rest : List ℕ). Appends b c (take more rest)) (take_rest bytes n) q in
    subst (Appends a c) (sym (take-add n more bytes)) (Appends-trans a b c (take n bytes) (take more (drop n bytes)) p written)

-- a copy of what comes next, at the beginning of a buffer
pub gives_more : (k n : ℕ) (bytes front rest : List ℕ) → front ≡ take n (drop k bytes) → length front ≡ n → take (k + n) bytes ≡ take k bytes ++ take n (front ++ rest)
gives_more k n bytes front rest copied e =
    let whole : take n (front ++ rest) ≡ front = subst (λ (m : ℕ). take m (front ++ rest) ≡ front) e (take-append_seam front rest) in
    take-add k n bytes ∙ ap (λ l. take k bytes ++ l) (sym (whole ∙ copied))

-- a read to the end of a piece, told of other words for the same
pub ends_piece : (end count last all : ℕ) (seen starts : List ℕ) → end ≡ count → last ≡ all → seen ≡ starts → (end ≡ last) ⊎ Contains seen end → (count ≡ all) ⊎ Contains starts count
ends_piece end count last all seen starts a b e h = elim h [
  | inl ends ↦ inl (sym a ∙ ends ∙ b)
  | inr begins ↦ inr (subst (λ (m : ℕ). Contains starts m) a (subst (λ (l : List ℕ). Contains l end) e begins))
]
