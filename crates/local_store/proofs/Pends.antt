-- What is pending after a commit.
use Rattle.std.proofs.Common.{◌≡◌, ℕ, zero, suc, ◌<◌, ◌==◌, List, [], ◌∷◌, length, set, refl, sym, subst, arith, ◌⊎◌, inl, inr}
use Rattle.std.specs.Prelude.{All, Any, fold, Option, Some, None, IsSome, ◌↔◌}
use Rattle.std.proofs.lemmas.List.{get_or-set_same, get_or-set_other, length-set}
use Rattle.std.proofs.lemmas.List.Elements.{All-head, All-tail}
use Rattle.std.proofs.lemmas.Bool.{cases_Bool, eqb-true, eqb-false}
use Rattle.flusher.specs.Plan.{IsPending}
use Rattle.gate_journal.specs.Image.{Image}

-- an element of the rest is one of the whole
Any-later : {X : Type 0} (P : X → Type 0) (x : X) (xs : List X) → Any P xs → Any P (x ∷ xs)
Any-later P x xs (k, y, lt, is, has) = (suc k, y, omega (arith, lt), is, has)

Any-here : {X : Type 0} (P : X → Type 0) (x : X) (xs : List X) → P x → Any P (x ∷ xs)
Any-here P x xs has = (0, x, omega arith, refl, has)

Any-cases : {X : Type 0} (P : X → Type 0) (x : X) (xs : List X) → Any P (x ∷ xs) → P x ⊎ Any P xs
Any-cases P x xs (zero, y, lt, is, has) = inl (subst P (sym is) has)
Any-cases P x xs (suc k, y, lt, is, has) = inr (k, y, omega (arith, lt), is, has)

-- the blocks of these images are pending
abbrev pub marked : {T : Type 0} → (Image → T) → List (Option T) → List Image → List (Option T)
marked value pending images = fold (λ p image. set p image.block (Some (value image))) pending images

-- one image more
module _ {T : Type 0} (value : Image → T) (pending : List (Option T)) (image : Image) (within : image.block < length pending) (b : ℕ) where
  one_pends : IsPending (set pending image.block (Some (value image))) b → IsPending pending b ⊎ (image.block ≡ b)
  one_pends is = elim (cases_Bool (image.block == b)) [
    | inl here ↦ inr (eqb-true _ _ here)
    | inr other ↦ inl (subst IsSome (get_or-set_other pending image.block b (Some (value image)) None (λ is. eqb-false _ _ other (sym is))) is)
  ]

  one_comes : image.block ≡ b → IsPending (set pending image.block (Some (value image))) b
  one_comes is = subst (λ (k : ℕ). IsPending (set pending image.block (Some (value image))) k) is (subst IsSome (sym (get_or-set_same pending image.block (Some (value image)) None within)) refl)

  one_stays : IsPending pending b → IsPending (set pending image.block (Some (value image))) b
  one_stays is = elim (cases_Bool (image.block == b)) [
    | inl here ↦ one_comes (eqb-true _ _ here)
    | inr other ↦ subst IsSome (sym (get_or-set_other pending image.block b (Some (value image)) None (λ is. eqb-false _ _ other (sym is)))) is
  ]

-- of more images
pub pends : {T : Type 0} (value : Image → T) (b : ℕ) (images : List Image) (pending : List (Option T)) → All (λ image. image.block < length pending) images
    → IsPending (marked value pending images) b ↔ (IsPending pending b ⊎ Any (λ image. image.block ≡ b) images)
pends value b [] pending within = (λ is. inl is, elim [ inl is ↦ is | inr is ↦ absurd (omega (arith, is.2)) ])
pends value b (image ∷ images) pending within =
    let here = All-head (λ i. i.block < length pending) image images within in
    let next = set pending image.block (Some (value image)) in
    let rest = pends value b images next (rw length-set (All-tail (λ i. i.block < length pending) image images within)) in (
      λ is. elim (rest.0 is) [
        | inl was ↦ elim (one_pends value pending image here b was) [
          | inl old ↦ inl old
          | inr own ↦ inr (Any-here (λ i. i.block ≡ b) image images own)
        ]
        | inr later ↦ inr (Any-later (λ i. i.block ≡ b) image images later)
      ],
      elim [
        | inl old ↦ rest.1 (inl (one_stays value pending image here b old))
        | inr some ↦ elim (Any-cases (λ i. i.block ≡ b) image images some) [
          | inl own ↦ rest.1 (inl (one_comes value pending image here b own))
          | inr later ↦ rest.1 (inr later)
        ]
      ],
    )
