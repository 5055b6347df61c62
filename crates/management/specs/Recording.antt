-- How a record comes to stand on the disk, or doesn't.
use Rattle.std.specs.Prelude.{◌≡◌, true, false}
use Rattle.configurations.specs.Refusal.{IsOfDevice}
use Rattle.configurations.specs.Store.{recorded}
use Rattle.configurations.specs.declared.refusal.Refusal.{Refusal}
use Rattle.configurations.specs.declared.refusal.Refusal.TheVariants.{Memory, Broken, NoRecord, NotNext, BadMembers, Device}
use Rattle.manager.specs.Manager.{begun_of, coming_record, done_of, next_of}
use Rattle.manager.specs.Orders.{is_record}
use Rattle.management.specs.Management.{Managing}

-- what `record` may be refused with
abbrev pub IsOfWriting : Refusal → Type 0
IsOfWriting Memory = Unit {0}
IsOfWriting NoRecord = Unit {0}
IsOfWriting NotNext = Unit {0}
IsOfWriting (Device error) = Unit {0}
IsOfWriting Broken = ⊥
IsOfWriting BadMembers = ⊥

-- The record that was to be written stands on the disk, and is the manager's chain.
pub record HasRecorded {C : Type 0} (old new : Managing C) : Type 0 where
  pub manager : new.manager ≡ done_of old.manager
  pub current : new.config.current ≡ coming_record old.manager
  pub runs : new.config.pair.broken ≡ false
  pub part : new.config.pair.part ≡ old.config.pair.part
  pub seat : new.seat ≡ old.seat
  -- unless the store was opened again, by one call of it
  pub store : old.config.pair.broken ≡ false → new.config ≡ recorded old.config (coming_record old.manager)

-- The record isn't known to stand there: the order stays the next one. Where the device refused, its writing has begun.
pub record IsRefused {C : Type 0} (old new : Managing C) (refusal : Refusal) : Type 0 where
  pub due : is_record (next_of old.manager) ≡ true
  pub still : next_of new.manager ≡ next_of old.manager
  pub current : new.config.current ≡ old.config.current
  pub part : new.config.pair.part ≡ old.config.pair.part
  pub seat : new.seat ≡ old.seat
  pub device : IsOfDevice refusal → (new.manager ≡ begun_of old.manager) × (new.config.pair.broken ≡ true)
  pub others : ¬ IsOfDevice refusal → new.manager ≡ old.manager
  -- but for a store that is opened again, a refusal of any other changes nothing
  pub unchanged : old.config.pair.broken ≡ false → ¬ IsOfDevice refusal → new ≡ old
