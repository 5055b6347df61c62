use Rattle.std.proofs.Common.{◌≡◌, ℕ, List, ap, subst, sym, ◌∙◌}
use Rattle.std.specs.Prelude.{Option, Some}
use Rattle.chain.specs.Opening.{recorded_in}
use Rattle.chain_core.specs.Node.{IsRunning}
use Rattle.disk_model.specs.Memory.{may_be_left}
use Rattle.disk_model.specs.declared.memory.MemDisk.{MemDisk}
use Rattle.joining.specs.Copying.{IsOf, MeansOnly}
use Rattle.local_store.specs.About.{meaning_with}
use Rattle.local_store.specs.Kept.{stored_means}
use Rattle.local_store.specs.Meaning.{Meaning, Means}
use Rattle.life.specs.Aside.{IsDiskOf}
use Rattle.life.specs.declared.managed.SlotDisk.{SlotDisk}
use Rattle.life.proofs.Places.{found_so}
use Rattle.life.proofs.Starting.{IsStore, about_of_store, keeps_volume, leaves_now}
use Rattle.life.proofs.cutting.left_of_store.Goals as goal

-- whatever a stop may leave of a store that keeps a volume means that it is its member's
means_it : ((one other : Meaning) (bytes : List ℕ) → Means one bytes → Means other bytes → one ≡ other) → (store : IsStore) (volume : List ℕ) → keeps_volume store volume → MeansOnly may_be_left (IsOf (recorded_in about_of_store store)) store.disk
means_it one_meaning store volume kept = λ bytes left meaning means.
    let same = one_meaning meaning (meaning_with (about_of_store store) volume) bytes means (stored_means kept.stands kept bytes left) in
    (ap (λ (m : Meaning). m.slot) same, ap (λ (m : Meaning). m.incarnation) same)

pub returns : goal.returns
returns c =
    let store = c.in-Some.store in
    let next : (about_of_store store).incarnation ≡ c.args.next = sym c.incarnation.ensures.incarnation ∙ c.if-incarnation-next.false in
    let runs = found_so (λ (s : IsStore). IsRunning (about_of_store s) (record { premise = Unit {0}; keeps = keeps_volume s })) c.args.store store c.in-Some.is c.requires.runs in
    let kept = runs.keeps tt in
    let at : ℕ → Option (SlotDisk MemDisk) = λ slot. Some (record { slot = slot; disk = c.into_disk.result }) in
    rw c.in-Some.is (record {
      kept = λ is. (
        c.into_disk.result,
        subst (λ (d : MemDisk). IsDiskOf leaves_now store d) (sym c.into_disk.ensures) (λ bytes. (λ x. x, λ x. x)),
        subst (λ (d : MemDisk). MeansOnly may_be_left (IsOf (recorded_in about_of_store store)) d) (sym c.into_disk.ensures) (means_it c.disks_mean_one.ensures store kept.0 kept.1),
        ap at c.slot.ensures,
      );
      gone = λ other. absurd (other next);
    })
