-- Lemmas about the slots that a mask counts.
use Rattle.std.proofs.Common.{◌≡◌, ℕ, ◌+◌, ◌<◌, true, false, cond, [], ◌∷◌, ◌++◌, zero, suc, refl, inl, inr, add-one, arith}
use Rattle.std.proofs.lemmas.List.{append-nil}
use Rattle.std.proofs.lemmas.Bool.{cases_eq}
use Rattle.std.proofs.lemmas.List.Elements.{Contains-append_left, Contains-push}
use Rattle.std.specs.List.{Contains}
use Rattle.board.specs.Mask.{counts, slots_below}

-- there are no slots below 0
pub slots_below-zero : (mask : ℕ) → slots_below mask 0 ≡ []
unfolding slots_below
slots_below-zero mask = refl

-- the next slot, where the mask counts it
pub slots_below-counted : (mask n : ℕ) → counts mask n ≡ true → slots_below mask (n + 1) ≡ slots_below mask n ++ n ∷ []
unfolding slots_below
slots_below-counted mask n counted = rw (add-one, counted) refl

-- the next slot, where the mask doesn't count it
pub slots_below-not_counted : (mask n : ℕ) → counts mask n ≡ false → slots_below mask (n + 1) ≡ slots_below mask n
unfolding slots_below
slots_below-not_counted mask n counted = rw (add-one, counted) (simp append-nil)

-- each counted slot is among them
pub slots_below-contains : (mask n s : ℕ) → s < n → counts mask s ≡ true → Contains (slots_below mask n) s
unfolding slots_below
slots_below-contains mask zero s within counted = absurd (omega arith)
slots_below-contains mask (suc n) s within counted = elim (cases_eq s n) [
  | inl last ↦ rw (← last, counted) (Contains-push (slots_below mask s) s)
  | inr before ↦ Contains-append_left (slots_below mask n) (cond (counts mask n) (n ∷ []) []) s (slots_below-contains mask n s (omega arith) counted)
]
