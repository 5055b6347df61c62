-- How many blocks are due.
use Rattle.std.proofs.Common.{◌≡◌, ◌∙◌, inl, inr, ℕ, zero, suc, ◌+◌, ◌-◌, ◌<◌, List, [], ◌∷◌, length, get_or, set, refl, sym, subst, arith}
use Rattle.std.specs.Prelude.{Bool, None, Option, Some, false, nat_lt, position, true}
use Rattle.std.proofs.lemmas.Bool.{cases_lt, cond-false, cond-true, le-ltb, lt-ltb}
use Rattle.std.proofs.lemmas.List.{length-set}
use Rattle.std.proofs.lemmas.List.Quantifiers.{position-Some}
use Rattle.std.proofs.lemmas.List.Sums.{position_or_len_is}
use Rattle.rejoin_catchup.specs.Sending.{Sending, due_of, gave, least_marked}

-- how many marks there are
pub marked : List Bool → ℕ
marked [] = 0
marked (true ∷ marks) = suc (marked marks)
marked (false ∷ marks) = marked marks

-- one is taken away
unmarked : (marks : List Bool) (block : ℕ) → get_or marks block false ≡ true → marked (set marks block false) < marked marks
unfolding marked
unmarked [] block is = absurd cc
unmarked (true ∷ marks) zero is = omega arith
unmarked (false ∷ marks) zero is = absurd cc
unmarked (true ∷ marks) (suc block) is = let less = unmarked marks block is in omega (arith, less)
unmarked (false ∷ marks) (suc block) is = unmarked marks block is

-- the blocks that weren't given yet, and those that are due again
abbrev pub left : Sending → ℕ
left s = (length s.marks - s.given) + marked s.marks

-- one that is given is due no longer
pub gave_less : (s : Sending) (block : ℕ) → due_of s ≡ Some block → left (gave s) < left s
gave_less s block due = elim (cases_lt s.given (length s.marks)) [
  | inl some ↦
      let now = cond-true (nat_lt s.given (length s.marks)) (record s { given = s.given + 1 }) (record s { marks = set s.marks (least_marked s.marks) false }) (lt-ltb _ _ some) in
      subst (λ (t : Sending). left t < left s) (sym now) (omega (arith, some))
  | inr all ↦
      let now = cond-false (nat_lt s.given (length s.marks)) (record s { given = s.given + 1 }) (record s { marks = set s.marks (least_marked s.marks) false }) (le-ltb _ _ all) in
      let found : position (λ (mark : Bool). mark) s.marks ≡ Some block = sym (cond-false (nat_lt s.given (length s.marks)) (Some s.given) (position (λ (mark : Bool). mark) s.marks) (le-ltb _ _ all)) ∙ due in
      let (within, is, before) = position-Some (λ (mark : Bool). mark) s.marks block false found in
      let least : least_marked s.marks ≡ block = position_or_len_is (λ (mark : Bool). mark) s.marks block false (omega arith) before (λ _. is) in
      let less = unmarked s.marks (least_marked s.marks) (subst (λ (b : ℕ). get_or s.marks b false ≡ true) (sym least) is) in
      let long = length-set s.marks (least_marked s.marks) false in
      subst (λ (t : Sending). left t < left s) (sym now) (omega (arith, less, long, all))
]

-- where one is due, one was given
pub gave_one : (given : Bool) (due : Option ℕ) → (given ≡ false → due ≡ None) → (due ≡ None → ⊥) → given ≡ true
gave_one true due rests some = refl
gave_one false due rests some = absurd (some (rests refl))
