-- How many images are pending.
use Rattle.std.proofs.Common.{◌≡◌, ◌∙◌, ℕ, zero, suc, ◌+◌, Option, Some, None, is_some, List, [], ◌∷◌, set, cond, ap, arith}
use Rattle.std.proofs.lemmas.List.Sums.{sum_by-append}
use Rattle.local_store.specs.Pending.{count_pending, held}

abbrev counted : Option (List ℕ) → ℕ
counted image = cond (is_some image) 1 0

one_first : (image : Option (List ℕ)) (pending : List (Option (List ℕ))) → count_pending (image ∷ pending) ≡ counted image + count_pending pending
one_first image pending = sum_by-append counted (image ∷ []) pending ∙ omega arith

-- once a pending block is home, one less is
pub one_less : (pending : List (Option (List ℕ))) (block : ℕ) (bytes : List ℕ) → held pending block ≡ Some bytes → count_pending (set pending block None) + 1 ≡ count_pending pending
one_less [] block bytes is = absurd (cc)
one_less (image ∷ pending) zero bytes is =
    let one : counted image ≡ 1 = ap counted is in
    omega (arith, one_first image pending, one_first None pending, one)
one_less (image ∷ pending) (suc block) bytes is = omega (arith, one_first image pending, one_first image (set pending block None), one_less pending block bytes is)
