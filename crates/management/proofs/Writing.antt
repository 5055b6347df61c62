-- The next record is written: what holds then of the manager, and what stands on the disk meanwhile.
use Rattle.std.proofs.Common.{◌≡◌, ℕ, ◌+◌, ◌≤◌, true, false, List, refl, sym, ◌∙◌, ap, subst}
use Rattle.disk_model.specs.Disk.{LeavesOnly}
use Rattle.disk_model.specs.Moments.{started}
use Rattle.disk_model.specs.Part.{inside}
use Rattle.disk_model.specs.declared.part.Part.{Part}
use Rattle.board.specs.Seats.{SeatView}
use Rattle.configurations.specs.Record.{Record}
use Rattle.configurations.specs.Store as configs
use Rattle.configurations.specs.Store.{HoldsOldOrNew}
use Rattle.configurations.specs.Refusal.{IsOfDevice}
use Rattle.configurations.specs.declared.refusal.Refusal.{Refusal}
use Rattle.configurations.specs.declared.refusal.Refusal.TheVariants.{Device}
use Rattle.manager.specs.Manager as managers
use Rattle.manager.specs.Manager.{begun_of, coming_record, done_of, next_of}
use Rattle.manager.specs.Orders.{is_record}
use Rattle.management.specs.Management.{IsDurable, IsKept, IsManaging, IsWriting, Managing}
use Rattle.management.proofs.Standing.{left_either, of_parts}
use Rattle.management.proofs.Turns.{begun_now, recorded_chain, writing_now}

-- what isn't `Device` isn't the device's
pub not_of_device : (refusal : Refusal) → ((error : _) → refusal ≡ Device error → ⊥) → IsOfDevice refusal → ⊥
not_of_device (Device error) other is = other error refl
not_of_device _ other is = is

module _ {C : Type 0} {keeps_model : Type 0} {size : C → ℕ} {gives : C → List ℕ} {may_leave : C → List ℕ → Type 0} (config later : configs.State) (disk new : C) (st : managers.State) (seat : SeatView)
    (is : IsManaging keeps_model size gives may_leave (of_parts config disk st seat)) (next : Record) (coming : next ≡ coming_record st) (due : is_record (next_of st) ≡ true)
    (part : later.pair.part ≡ config.pair.part) (same_size : size new ≡ size disk) (kept : keeps_model → IsKept config next (gives disk) (may_leave disk) → IsKept later next (gives new) (may_leave new)) where
  kept_now : keeps_model → IsKept later (coming_record st) (gives new) (may_leave new)
  kept_now keeps = subst (λ (r : Record). IsKept later r (gives new) (may_leave new)) coming (kept keeps (subst (λ (r : Record). IsKept config r (gives disk) (may_leave disk)) (sym coming) (is.kept keeps)))

  on_disk_now : later.pair.part.start + later.pair.part.len ≤ size new
  on_disk_now = subst (λ (p : Part). p.start + p.len ≤ size new) (sym part) (subst (λ (n : ℕ). config.pair.part.start + config.pair.part.len ≤ n) (sym same_size) is.on_disk)

  changed_to : (after : managers.State) → later.current ≡ after.chain → (keeps_model → IsKept later (coming_record after) (gives new) (may_leave new)) → (keeps_model → later.pair.broken ≡ true → IsWriting after)
      → IsManaging keeps_model size gives may_leave (of_parts later new after seat)
  changed_to after current keeps writing = record {
    pair = ap (λ (p : Part). p.len) part ∙ is.pair;
    on_disk = on_disk_now;
    counts = is.counts;
    recorded = current;
    kept = keeps;
    writing = writing;
  }

  module _ (stands : later.current ≡ next) (runs : later.pair.broken ≡ false) where
    stands_as_chain : later.current ≡ (done_of st).chain
    stands_as_chain = stands ∙ coming ∙ sym (recorded_chain st due)

    -- the record stands there
    pub after_done : IsManaging keeps_model size gives may_leave (of_parts later new (done_of st) seat)
    after_done = changed_to (done_of st) stands_as_chain (λ keeps. record { settled = (kept_now keeps).settled; either = λ broken. absurd (cc) }) (λ keeps broken. absurd (cc))

    pub durable_now : keeps_model → IsDurable gives may_leave (of_parts later new (done_of st) seat)
    durable_now keeps = record { current = stands_as_chain; settled = (kept_now keeps).settled runs }

  module _ (still : later.current ≡ config.current) where
    -- the device refused: it may stand there
    pub after_device : IsManaging keeps_model size gives may_leave (of_parts later new (begun_of st) seat)
    after_device =
        let same : begun_of st ≡ record st { begun = true } = begun_now st due in
        changed_to (begun_of st) (still ∙ is.recorded ∙ sym (ap (λ (s : managers.State). s.chain) same))
        (λ keeps. subst (λ (r : Record). IsKept later r (gives new) (may_leave new)) (sym (ap coming_record same)) (kept_now keeps))
        (λ keeps broken. writing_now st due)

    -- anything else was refused
    pub after_other : (later.pair.broken ≡ true → later ≡ config) → IsManaging keeps_model size gives may_leave (of_parts later new st seat)
    after_other as_before =
        changed_to st (still ∙ is.recorded) kept_now (λ keeps broken. is.writing keeps (let same = ap (λ (s : configs.State). s.pair.broken) (as_before broken) in cc))

module _ {C : Type 0} {moment : C → ℕ} {left_since : C → ℕ → List ℕ → Type 0} {keeps_model : Type 0} {size : C → ℕ} {gives : C → List ℕ} {may_leave : C → List ℕ → Type 0} (inner seen : Managing C) (view : inner ≡ seen)
    (is : IsManaging keeps_model size gives may_leave inner) (keeps : keeps_model) where
  -- nothing is written
  pub at_rest : ((c : List ℕ) → left_since seen.disk (moment seen.disk) c → may_leave seen.disk c)
      → LeavesOnly moment left_since seen.disk seen.disk (λ c. HoldsOldOrNew seen.manager.chain (coming_record seen.manager) (inside seen.config.pair.part c))
  at_rest only_now =
      let so = subst (IsManaging keeps_model size gives may_leave) view is in
      started moment left_since seen.disk (λ c. HoldsOldOrNew seen.manager.chain (coming_record seen.manager) (inside seen.config.pair.part c))
      (λ c left. subst (λ (r : Record). HoldsOldOrNew r (coming_record seen.manager) (inside seen.config.pair.part c)) so.recorded
      (left_either seen.config (coming_record seen.manager) (gives seen.disk) (may_leave seen.disk) (so.kept keeps) c (only_now c left)))

  -- the next record is
  pub in_writing : (next : Record) (new : C) → next ≡ coming_record inner.manager
      → (IsKept inner.config next (gives inner.disk) (may_leave inner.disk) → LeavesOnly moment left_since inner.disk new (λ c. HoldsOldOrNew inner.config.current next (inside inner.config.pair.part c)))
      → LeavesOnly moment left_since seen.disk new (λ c. HoldsOldOrNew seen.manager.chain (coming_record seen.manager) (inside seen.config.pair.part c))
  in_writing next new coming any_moment =
      subst (λ (m : Managing C). LeavesOnly moment left_since m.disk new (λ c. HoldsOldOrNew m.manager.chain (coming_record m.manager) (inside m.config.pair.part c))) view
      (subst (λ (r : Record). LeavesOnly moment left_since inner.disk new (λ c. HoldsOldOrNew r (coming_record inner.manager) (inside inner.config.pair.part c))) is.recorded
      (subst (λ (r : Record). LeavesOnly moment left_since inner.disk new (λ c. HoldsOldOrNew inner.config.current r (inside inner.config.pair.part c))) coming
      (any_moment (subst (λ (r : Record). IsKept inner.config r (gives inner.disk) (may_leave inner.disk)) (sym coming) (is.kept keeps)))))
