-- One deed more: lemmas.
use Rattle.std.proofs.Common.{◌≡◌, ℕ, List, [], ◌∷◌, ◌++◌, length, refl, subst, arith}
use Rattle.disk_model.specs.declared.memory.MemDisk.{MemDisk}
use Rattle.local_store.specs.About.{About}
use Rattle.life.specs.Does.{DoesDeed}
use Rattle.life.specs.Managed.{Managed}
use Rattle.life.specs.Plays.{DeedsLead, HasMetStop}
use Rattle.life.specs.declared.answer.Answer.{Answer}
use Rattle.life.specs.declared.era.Deed.{Deed}

module _ {S : Type 0} (premise : Type 0) (about : S → About) (keeps : S → List ℕ → Type 0) (is_pending : S → ℕ → Type 0) (may_leave_now : S → List ℕ → Type 0) (moment : S → ℕ)
    (left_since : S → ℕ → List ℕ → Type 0) (failures : S → ℕ) (disk : S → MemDisk) where
  abbrev Lead : List Deed → List Answer → Managed S → Managed S → Type 0
  Lead = DeedsLead premise about keeps is_pending may_leave_now moment left_since failures disk

  abbrev Does : Deed → Answer → Managed S → Managed S → Type 0
  Does = DoesDeed premise about keeps is_pending may_leave_now moment left_since failures disk

  -- one deed more
  pub leads_more : (deeds : List Deed) (answers : List Answer) (old mid new : Managed S) (deed : Deed) (answer : Answer) → length answers ≡ length deeds → Lead deeds answers old mid
      → Does deed answer mid new → (HasMetStop disk new → ⊥) → Lead (deeds ++ deed ∷ []) (answers ++ answer ∷ []) old new
  leads_more [] [] old mid new deed answer many leads did runs = (new, subst (λ w. Does deed answer w new) leads did, runs, refl)
  leads_more [] (a ∷ answers) old mid new deed answer many leads did runs = absurd leads
  leads_more (d ∷ deeds) [] old mid new deed answer many leads did runs = absurd (omega (arith, many))
  leads_more (d ∷ deeds) (a ∷ answers) old mid new deed answer many (next, first, on, later) did runs =
      (next, first, on, leads_more deeds answers next mid new deed answer (omega (arith, many)) later did runs)

  -- and one in which a stop was met, whatever deeds were to come
  pub leads_to_stop : (deeds : List Deed) (answers : List Answer) (old mid new : Managed S) (deed : Deed) (answer : Answer) (rest : List Deed) → length answers ≡ length deeds → Lead deeds answers old mid
      → Does deed answer mid new → HasMetStop disk new → Lead (deeds ++ deed ∷ rest) answers old new
  leads_to_stop [] [] old mid new deed answer rest many leads did met = (answer, subst (λ w. Does deed answer w new) leads did, met)
  leads_to_stop [] (a ∷ answers) old mid new deed answer rest many leads did met = absurd leads
  leads_to_stop (d ∷ deeds) [] old mid new deed answer rest many leads did met = absurd (omega (arith, many))
  leads_to_stop (d ∷ deeds) (a ∷ answers) old mid new deed answer rest many (next, first, on, later) did met =
      (next, first, on, leads_to_stop deeds answers next mid new deed answer rest (omega (arith, many)) later did met)
