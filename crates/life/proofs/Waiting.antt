-- Whether the next record is that of an abandoned joining, or of a removal, and no disk is on its way: lemmas.
use Rattle.std.proofs.Common.{◌≡◌, false, subst, sym, ◌∙◌}
use Rattle.candidate.specs.declared.candidate.Candidate.{Candidate}
use Rattle.candidate.specs.declared.candidate.Candidate.TheVariants.{Counted, Nobody}
use Rattle.manager.specs.Manager.{next_of}
use Rattle.manager.specs.Orders.{is_record}
use Rattle.manager.specs.declared.order.Order.{Order}
use Rattle.life.specs.Managed.{Managed}
use Rattle.life.proofs.InStep.{IsWaiting, waiting_due}

pub record Waits {S : Type 0} (w : Managed S) : Type 0 where
  pub manager : IsWaiting w.management.manager
  pub nobody : w.candidate ≡ Nobody

-- a disk that was counted is counted still, and where none was on its way none is
abbrev pub StaysKnown : {S D : Type 0} → Candidate S D → Candidate S D → Type 0
StaysKnown x y = (x ≡ Counted → y ≡ Counted) × (x ≡ Nobody → y ≡ Nobody)

pub known_still : {S D : Type 0} (x y : Candidate S D) → y ≡ x → StaysKnown x y
known_still x y same = (λ counted. same ∙ counted, λ nobody. same ∙ nobody)

module _ {S : Type 0} (old new : Managed S) where
  pub waits_still : new.management.manager ≡ old.management.manager → (old.candidate ≡ Nobody → new.candidate ≡ Nobody) → Waits old → Waits new
  waits_still manager nobody waits = record { manager = subst IsWaiting (sym manager) waits.manager; nobody = nobody waits.nobody }

  -- another order isn't the next then
  pub waits_for : (order : Order) → next_of old.management.manager ≡ order → is_record order ≡ false → Waits old → Waits new
  waits_for order due isnt waits = absurd (waiting_due old.management.manager order due isnt waits.manager)
