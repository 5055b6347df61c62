-- How an era is played: each deed does what it names, one after another, and then the chain goes on from one disk.
use Rattle.std.specs.Prelude.{◌≡◌, ◌⊎◌, ℕ, suc, true, Option, Some, List, [], ◌∷◌, ◌++◌, length, slice_get}
use Rattle.std.specs.List.{AllZip}
use Rattle.std.specs.Option.{option_to_list}
use Rattle.candidate.specs.declared.candidate.Candidate.{Candidate}
use Rattle.candidate.specs.declared.candidate.Candidate.TheVariants.{Copying, Counted, Nobody, Refused, Whole}
use Rattle.chain.specs.Chain.{Chained}
use Rattle.configurations.specs.Record.{Record}
use Rattle.disk_model.specs.Memory.{given_of, has_stopped}
use Rattle.disk_model.specs.declared.content.Cut.{Cut}
use Rattle.disk_model.specs.declared.memory.MemDisk.{MemDisk}
use Rattle.local_store.specs.About.{About}
use Rattle.world.specs.World.{Seen}
use Rattle.life.specs.Begun.{IsCut, IsCutFrom, stores_of}
use Rattle.life.specs.Does.{DoesDeed}
use Rattle.life.specs.Aside.{IsSetAside}
use Rattle.life.specs.Managed.{Managed, MayStand, StandsOn}
use Rattle.life.specs.Recovered.{RecoversFrom}
use Rattle.life.specs.declared.answer.Answer.{Answer}
use Rattle.life.specs.declared.era.Deed.{Deed}
use Rattle.life.specs.declared.era.Era.{Era}
use Rattle.life.specs.declared.managed.SlotDisk.{SlotDisk}

-- a device call met its stop: the disk of a member has stopped
pub record MemberMetStop {S : Type 0} (disk : S → MemDisk) (w : Seen S) : Type 0 where
  pub at : ℕ
  pub store : S
  pub here : slice_get (stores_of w) at ≡ Some store
  pub stopped : has_stopped (disk store) ≡ true

-- or the disk on its way, which refused that call
abbrev pub RefusedByStop : {S : Type 0} → Candidate S MemDisk → Type 0
RefusedByStop (Refused r) = has_stopped r.disk ≡ true
RefusedByStop Nobody = ⊥
RefusedByStop (Copying c) = ⊥
RefusedByStop (Whole w) = ⊥
RefusedByStop Counted = ⊥

-- or the configuration's disk
abbrev pub HasMetStop : {S : Type 0} → (S → MemDisk) → Managed S → Type 0
HasMetStop disk w = MemberMetStop disk w.world ⊎ ((has_stopped w.management.disk ≡ true) ⊎ RefusedByStop w.candidate)

module _ {S : Type 0} (premise : Type 0) (about : S → About) (keeps : S → List ℕ → Type 0) (is_pending : S → ℕ → Type 0) (may_leave_now : S → List ℕ → Type 0) (moment : S → ℕ)
    (left_since : S → ℕ → List ℕ → Type 0) (failures : S → ℕ) (disk : S → MemDisk) where
  -- These deeds lead from the one world to the other, each with its answer; or one of them is the last, in which a device call met its stop,
  -- and that one has no answer.
  abbrev pub DeedsLead : List Deed → List Answer → Managed S → Managed S → Type 0
  DeedsLead [] [] old new = new ≡ old
  DeedsLead [] (answer ∷ answers) old new = ⊥
  DeedsLead (deed ∷ deeds) [] old new = (answer : Answer) × DoesDeed premise about keeps is_pending may_leave_now moment left_since failures disk deed answer old new × HasMetStop disk new
  DeedsLead (deed ∷ deeds) (answer ∷ answers) old new =
      (mid : Managed S) × DoesDeed premise about keeps is_pending may_leave_now moment left_since failures disk deed answer old mid × (HasMetStop disk mid → ⊥) × DeedsLead deeds answers mid new

-- the disk of a store was cut, and is its slot's
abbrev pub IsCutAt : {S : Type 0} → (S → About) → (S → List ℕ → Type 0) → (S → MemDisk) → Cut → S → SlotDisk MemDisk → Type 0
IsCutAt about may_leave_now disk cut store left = IsCutFrom may_leave_now disk cut store left.disk × (left.slot ≡ (about store).slot)

-- one outside was
abbrev pub IsCutOutside : Cut → SlotDisk MemDisk → SlotDisk MemDisk → Type 0
IsCutOutside cut was left = IsCut cut was.disk left.disk × (left.slot ≡ was.slot)

-- Everything stopped, and each disk was cut so: these are the members', behind them that of who joins, if somebody does, then those outside,
-- and what is left of the one on its way.
pub record AreCut {S : Type 0} (about : S → About) (may_leave_now : S → List ℕ → Type 0) (disk : S → MemDisk) (cut : Cut) (old : Managed S) (disks : List (SlotDisk MemDisk)) (config : MemDisk) : Type 0 where
  pub of_members : List (SlotDisk MemDisk)
  pub of_joiner : List (SlotDisk MemDisk)
  pub aside : Option (SlotDisk MemDisk)
  pub outside : List (SlotDisk MemDisk)
  pub are : disks ≡ of_members ++ (of_joiner ++ outside)
  pub members_cut : AllZip (λ m left. IsCutAt about may_leave_now disk cut m.node.store left) old.world.chain.members of_members
  pub joiner_cut : AllZip (IsCutAt about may_leave_now disk cut) (option_to_list old.world.joiner) of_joiner
  pub set_aside : IsSetAside about may_leave_now (suc old.world.chain.recorded.epoch) old.candidate aside
  pub outside_cut : AllZip (IsCutOutside cut) (old.outside ++ option_to_list aside) outside
  pub config_is : IsCut cut old.management.disk config

-- The record that a stop left on the configuration's disk: the recorded chain's, or the one that was being written.
pub record IsLeftRecorded {S : Type 0} (c : Chained S) (config : MemDisk) (r : Record) : Type 0 where
  pub stands : StandsOn (given_of config) r
  pub either : MayStand c r

-- Everything stopped, each disk was cut as the era says, and of those that return the chain goes on alone from the source, a recorded
-- member's: with what that means. The others are outside.
pub record GoesOnFrom {S : Type 0} (about : S → About) (keeps : S → List ℕ → Type 0) (may_leave_now : S → List ℕ → Type 0) (disk : S → MemDisk) (era : Era) (old new : Managed S) : Type 0 where
  pub disks : List (SlotDisk MemDisk)
  pub config : MemDisk
  pub cut : AreCut about may_leave_now disk era.cut old disks config
  pub from : RecoversFrom about keeps may_leave_now era.returned.items disks config new
  pub recorded : IsLeftRecorded old.world.chain config from.recovers.recorded
  pub sizes : from.recovers.meaning.geometry ≡ old.world.chain.geometry
  pub alone : length new.world.chain.members ≡ 1
