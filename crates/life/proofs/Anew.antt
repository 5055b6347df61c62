-- Disks that are changed in their place, one after another: lemmas.
use Rattle.std.proofs.Common.{◌≡◌, ◌+◌, ◌<◌, ◌≤◌, ℕ, zero, suc, List, [], ◌∷◌, ◌++◌, drop, get_or, length, set, take, refl, ap, subst, sym, arith}
use Rattle.std.specs.List.{AllZip}

-- so many of the first have become these, and the others are as they were
abbrev pub HaveBecome : {A : Type 0} → (A → A → Type 0) → ℕ → List A → List A → Type 0
HaveBecome R zero was now = now ≡ was
HaveBecome R (suc k) [] [] = Unit {0}
HaveBecome R (suc k) [] (n ∷ now) = ⊥
HaveBecome R (suc k) (w ∷ was) [] = ⊥
HaveBecome R (suc k) (w ∷ was) (n ∷ now) = R w n × HaveBecome R k was now

-- one more has
pub become_more : {A : Type 0} (R : A → A → Type 0) (k : ℕ) (was now : List A) (d y : A) → HaveBecome R k was now → k < length now → R (get_or now k d) y → HaveBecome R (k + 1) was (set now k y)
become_more {A = A} R k was now d y have within is = subst (λ (n : ℕ). HaveBecome R n was (set now k y)) (let e : suc k ≡ k + 1 = omega arith in e) (so k was now have within is)
  where
    so : (k : ℕ) (was now : List A) → HaveBecome R k was now → k < length now → R (get_or now k d) y → HaveBecome R (suc k) was (set now k y)
    so k was [] have within is = absurd (omega (arith, within))
    so zero [] (n ∷ now) have within is = let clash : n ∷ now ≡ [] = have in absurd (cc)
    so zero (w ∷ was) (n ∷ now) have within is =
        let whole : n ∷ now ≡ w ∷ was = have in
        let same : n ≡ w = cc whole in
        let rest : now ≡ was = cc whole in
        (subst (λ z. R z y) same is, rest)
    so (suc k) [] (n ∷ now) have within is = absurd have
    so (suc k) (w ∷ was) (n ∷ now) have within is = (have.0, so k was now have.1 (omega (arith, within)) is)

-- all have
become_all : {A : Type 0} (R : A → A → Type 0) (k : ℕ) (was now : List A) → HaveBecome R k was now → length now ≤ k → AllZip R was now
become_all R zero [] [] have all = tt
become_all R zero [] (n ∷ now) have all = absurd (omega (arith, all))
become_all R zero (w ∷ was) [] have all = let clash : [] ≡ w ∷ was = have in absurd (cc)
become_all R zero (w ∷ was) (n ∷ now) have all = absurd (omega (arith, all))
become_all R (suc k) [] [] have all = tt
become_all R (suc k) [] (n ∷ now) have all = absurd have
become_all R (suc k) (w ∷ was) [] have all = absurd have
become_all R (suc k) (w ∷ was) (n ∷ now) have all = (have.0, become_all R k was now have.1 (omega (arith, all)))

-- the whole list is given back
given_back : {A : Type 0} (n : ℕ) (now was : List A) → length now ≡ length was → n ≡ length now → take n (now ++ drop (length now) was) ≡ now
given_back zero [] [] same is = refl
given_back zero [] (w ∷ was) same is = absurd (omega (arith, same))
given_back (suc n) [] was same is = absurd (omega (arith, is))
given_back zero (x ∷ now) was same is = absurd (omega (arith, is))
given_back (suc n) (x ∷ now) [] same is = absurd (omega (arith, same))
given_back (suc n) (x ∷ now) (w ∷ was) same is = ap (λ l. x ∷ l) (given_back n now was (omega (arith, same)) (omega (arith, is)))

-- so it is of the list that is given back
pub became : {A : Type 0} (R : A → A → Type 0) (n k : ℕ) (was now : List A) → HaveBecome R k was now → length now ≤ k → length now ≡ length was → n ≡ length now → AllZip R was (take n (now ++ drop (length now) was))
became R n k was now have all same is = subst (AllZip R was) (sym (given_back n now was same is)) (become_all R k was now have all)
