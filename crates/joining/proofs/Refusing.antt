-- Why a disk isn't rebuilt, from why one of the parts of it isn't done.
use Rattle.std.proofs.Common.{◌≡◌, ◌≢◌, ◌∙◌, ◌*◌, ◌≤◌, ap, ℕ, List, length, refl, subst, sym}
use Rattle.std.specs.Prelude.{None, Option, Some}
use Rattle.configurations.specs.Refusal as configs
use Rattle.configurations.specs.Store.{IsNext}
use Rattle.gate_journal.specs.Receipt.{Receipt}
use Rattle.local_store.specs.About.{About}
use Rattle.manager.specs.declared.order.Order.TheVariants.{Attach, Copy, CountIn, CountOut, Hold, Idle, Record as RecordOrder, Rest, Tell}
use Rattle.manager.specs.declared.refusal.Refusal as managers
use Rattle.manager.specs.declared.refusal.Refusal.TheVariants.{BadMembers, LastMember, Memory as ManagerMemory, NotMember, NotNext, NotStopped, OneAtATime, SlotInUse}
use Rattle.world.specs.Management.{Managing}
use Rattle.world.specs.World as worlds
use Rattle.joining.specs.Rebuilding.{AllKeep, IsRebuilt}
use Rattle.joining.specs.Refusing.{IsWhy, RefusesCopying, RefusesEntering, RefusesRebuilding}
use Rattle.joining.specs.declared.rebuilding.NotRebuilt.{NotRebuilt}
use Rattle.joining.specs.declared.rebuilding.NotRebuilt.TheVariants.{Config, Disk, Manager, Memory, OutOfOrder, TailStopped}

-- what the manager says, and memory where it says nothing
pub why_not : (why : Option managers.Refusal) (r : managers.Refusal) → (r ≢ ManagerMemory → why ≡ Some r) → (r ≡ ManagerMemory → why ≡ None) → IsWhy why r
why_not why ManagerMemory refused memory = memory refl
why_not why NotMember refused memory = refused (λ is. cc)
why_not why NotNext refused memory = refused (λ is. cc)
why_not why BadMembers refused memory = refused (λ is. cc)
why_not why OneAtATime refused memory = refused (λ is. cc)
why_not why LastMember refused memory = refused (λ is. cc)
why_not why NotStopped refused memory = refused (λ is. cc)
why_not why SlotInUse refused memory = refused (λ is. cc)

module _ {S C D : Type 0} (premise : Type 0) (about : S → About) (keeps : S → List ℕ → Type 0) (gives : D → List ℕ) (failures : D → ℕ) (config_failures : C → ℕ) (slot : ℕ) (disk : D) (old new : Managing C) (world after : worlds.Seen S) where
  pub not_copied : (e : NotRebuilt D) → RefusesCopying premise keeps gives failures slot disk new world after e → RefusesRebuilding premise about keeps gives failures config_failures slot disk old new world after e
  not_copied (Manager refusal given) never = absurd never
  not_copied (Disk refusal given) why = why
  not_copied TailStopped why = why
  not_copied (Config refusal) never = absurd never
  not_copied Memory never = absurd never
  not_copied (OutOfOrder Idle) never = absurd never
  not_copied (OutOfOrder RecordOrder) never = absurd never
  not_copied (OutOfOrder (CountOut at)) never = absurd never
  not_copied (OutOfOrder (Tell at)) never = absurd never
  not_copied (OutOfOrder (Attach at)) never = absurd never
  not_copied (OutOfOrder (Copy at)) never = absurd never
  not_copied (OutOfOrder (Hold at)) why = why
  not_copied (OutOfOrder (Rest at)) never = absurd never
  not_copied (OutOfOrder (CountIn at)) never = absurd never

  pub not_entered : (store : S) (receipt : Receipt) → (premise → (volume : List ℕ) → length volume ≡ 4096 * world.chain.geometry.blocks → AllKeep keeps volume world.chain → IsRebuilt about slot world.chain store receipt)
      → (begun : Managing C) → begun ≡ record old { manager = begun.manager } → (e : NotRebuilt D) → RefusesEntering about config_failures slot store receipt begun new after e
      → RefusesRebuilding premise about keeps gives failures config_failures slot disk old new world after e
  not_entered store receipt rebuilt begun same (Manager refusal given) never = absurd never
  not_entered store receipt rebuilt begun same (Disk refusal given) never = absurd never
  not_entered store receipt rebuilt begun same TailStopped never = absurd never
  not_entered store receipt rebuilt begun same (Config refusal) why =
      let disk_is : begun.disk ≡ old.disk = ap (λ (m : Managing C). m.disk) same in
      let config_is : begun.config ≡ old.config = ap (λ (m : Managing C). m.config) same in
      record {
        store = store;
        receipt = receipt;
        rebuilt = rebuilt;
        is = record {
          counted = why.counted;
          told = why.told;
          later = subst (λ (d : C). config_failures d ≤ config_failures new.disk) disk_is why.later;
          cause = subst (λ (d : C). configs.IsCaused (config_failures d) (config_failures new.disk) refusal) disk_is why.cause;
          broken = λ is. ap (λ c. c.pair.broken) (sym config_is) ∙ why.broken is;
          not_next = λ is next writing. subst (λ c. ¬ IsNext c next.epoch) config_is (why.not_next is next writing);
        };
      }
  not_entered store receipt rebuilt begun same Memory why = record { store = store; receipt = receipt; rebuilt = rebuilt; is = why }
  not_entered store receipt rebuilt begun same (OutOfOrder Idle) never = absurd never
  not_entered store receipt rebuilt begun same (OutOfOrder RecordOrder) why = record { store = store; receipt = receipt; rebuilt = rebuilt; is = why }
  not_entered store receipt rebuilt begun same (OutOfOrder (CountOut at)) never = absurd never
  not_entered store receipt rebuilt begun same (OutOfOrder (Tell at)) never = absurd never
  not_entered store receipt rebuilt begun same (OutOfOrder (Attach at)) never = absurd never
  not_entered store receipt rebuilt begun same (OutOfOrder (Copy at)) never = absurd never
  not_entered store receipt rebuilt begun same (OutOfOrder (Hold at)) never = absurd never
  not_entered store receipt rebuilt begun same (OutOfOrder (Rest at)) never = absurd never
  not_entered store receipt rebuilt begun same (OutOfOrder (CountIn at)) (here, why) = (here, record { store = store; receipt = receipt; rebuilt = rebuilt; is = why })
