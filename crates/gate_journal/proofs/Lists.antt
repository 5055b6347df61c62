-- Lists that are cut at one place.
use Rattle.std.proofs.Common.{◌≡◌, List, [], ◌∷◌, ◌++◌, length, Result, Ok, Err, IsErrAnd, IsErrOf, OnOk, refl, sym, ◌∙◌, ap, arith}

-- two ways to cut one list behind as many elements are one
pub same_halves : {A : Type 0} (a b c d : List A) → length a ≡ length c → a ++ b ≡ c ++ d → (a ≡ c) × (b ≡ d)
same_halves [] b [] d len e = (refl, e)
same_halves [] b (y ∷ c) d len e = absurd (omega arith)
same_halves (x ∷ a) b [] d len e = absurd (omega arith)
same_halves (x ∷ a) b (y ∷ c) d len e =
    let tails : a ++ b ≡ c ++ d = cc in
    let heads : x ≡ y = cc in
    let w = same_halves a b c d (omega arith) tails in
    (cc, w.1)

-- what follows of two facts of an `Ok`
pub on_ok_both : {T E P Q R : Type 0} (result : Result T E) → (P → Q → R) → OnOk result P → OnOk result Q → OnOk result R
on_ok_both (Ok v) from p q = from p q
on_ok_both (Err e) from p q = tt

-- an error that a `?` handed on is the one that came
pub same_refusal : {T U E : Type 0} (r : Result T E) (e d : E) → IsErrAnd r (λ y. y ≡ e) → IsErrOf r d → IsErrOf {T = U} (Err e) d
same_refusal (Ok v) e d and of = absurd and
same_refusal {E = E} (Err y) e d and of =
    let told : y ≡ d = cc in
    ap (λ (z : E). Err z) (sym and ∙ told)

-- an error is the same one, whatever its `Ok` would have held
pub of_any_kind : {T U E : Type 0} (e d : E) → IsErrOf {T = T} (Err e) d → IsErrOf {T = U} (Err e) d
of_any_kind {E = E} e d is =
    let told : e ≡ d = cc in
    ap (λ (z : E). Err z) told
