-- What stands on the disk.
use Rattle.std.proofs.Common.{◌≡◌, ℕ, ◌≤◌, inl, ⊎_elim, Result, Ok, Err, Bool, true, false, List, refl, sym, ◌∙◌, ap, subst}
use Rattle.disk_model.specs.Disk.{LeavesOnly}
use Rattle.disk_model.specs.Moments.{then_run, weaker}
use Rattle.disk_model.specs.Part.{inside}
use Rattle.disk_model.specs.declared.part.Part.{Part}
use Rattle.std.specs.Prelude.{IfErr, IsErrOf, IsOk, OnErr, OnOk}
use Rattle.board.specs.Seats.{SeatView}
use Rattle.gate_journal.specs.Runs.{OnlyReads}
use Rattle.configurations.specs.Record.{Record}
use Rattle.configurations.specs.Store as configs
use Rattle.configurations.specs.Store.{HoldsNone, HoldsOldOrNew, HoldsRecord, IsSettledConfig, settled_leaves}
use Rattle.configurations.specs.Refusal.{IsOfDevice, IsOfOpening}
use Rattle.configurations.specs.declared.refusal.Refusal.{Refusal}
use Rattle.configurations.specs.declared.refusal.Refusal.TheVariants.{Device, NoRecord, NotNext}
use Rattle.manager.specs.Manager as managers
use Rattle.manager.specs.Manager.{next_of}
use Rattle.manager.specs.Orders.{is_record}
use Rattle.manager.specs.declared.order.Order.{Order}
use Rattle.management.specs.Management.{IsDurable, IsKept, IsManaging, IsWriting, Managing}
use Rattle.management.proofs.Turns.{not_writing}

-- whatever a stop may leave has the record of the store, or the next one
pub left_either : (config : configs.State) (next : Record) (gives : List ℕ) (may_leave : List ℕ → Type 0) → IsKept config next gives may_leave → (c : List ℕ) → may_leave c → HoldsOldOrNew config.current next (inside config.pair.part c)
left_either config next gives may_leave kept c left = by_broken config.pair.broken refl
  where
    by_broken : (broken : Bool) → config.pair.broken ≡ broken → HoldsOldOrNew config.current next (inside config.pair.part c)
    by_broken true is = kept.either is c left
    by_broken false is = inl (settled_leaves (kept.settled is) (inside config.pair.part c) (c, left, refl))

-- a manager with its record and its seat, part by part
abbrev pub of_parts : {C : Type 0} → configs.State → C → managers.State → SeatView → Managing C
of_parts config disk manager seat = record { manager = manager; config = config; disk = disk; seat = seat }

-- and after an order that leaves the chain
pub durable_then : {C : Type 0} {gives : C → List ℕ} {may_leave : C → List ℕ → Type 0} (config : configs.State) (disk : C) (st later : managers.State) (seat other : SeatView) → IsDurable gives may_leave (of_parts config disk st seat) → later.chain ≡ st.chain
    → IsDurable gives may_leave (of_parts config disk later other)
durable_then config disk st later seat other is same = record { current = is.current ∙ sym same; settled = is.settled }

unbroken : (broken : Bool) → (broken ≡ true → ⊥) → broken ≡ false
unbroken true not = absurd (not refl)
unbroken false not = refl

module _ {C : Type 0} {keeps_model : Type 0} {size : C → ℕ} {gives : C → List ℕ} {may_leave : C → List ℕ → Type 0} where
  -- while no record is to be written, the chain stands on the disk
  pub durable : (inner seen : Managing C) → inner ≡ seen → IsManaging keeps_model size gives may_leave inner → (order : Order) → next_of inner.manager ≡ order → is_record order ≡ false → keeps_model → IsDurable gives may_leave seen
  durable inner seen view is order next other keeps =
      let runs : inner.config.pair.broken ≡ false = unbroken inner.config.pair.broken (λ broken. not_writing inner.manager order next other (is.writing keeps broken)) in
      subst (IsDurable gives may_leave) view (record { current = is.recorded; settled = (is.kept keeps).settled runs })

  -- a change that leaves the chain, while no record is written
  pub changed : (config : configs.State) (disk : C) (st later : managers.State) (seat : SeatView) → IsManaging keeps_model size gives may_leave (of_parts config disk st seat) → later.chain ≡ st.chain → (IsWriting st → ⊥)
      → IsManaging keeps_model size gives may_leave (of_parts config disk later seat)
  changed config disk st later seat is same idle = record {
    pair = is.pair;
    on_disk = is.on_disk;
    counts = is.counts;
    recorded = is.recorded ∙ sym same;
    kept = λ keeps. record { settled = (is.kept keeps).settled; either = λ broken. absurd (idle (is.writing keeps broken)) };
    writing = λ keeps broken. absurd (idle (is.writing keeps broken));
  }

  -- a change that was asked for, or refused
  pub asked : {T E : Type 0} (config : configs.State) (disk : C) (st becomes later : managers.State) (seat : SeatView) (r : Result T E) → IsManaging keeps_model size gives may_leave (of_parts config disk st seat)
      → becomes.chain ≡ st.chain → (IsOk r → IsWriting st → ⊥) → OnOk r (later ≡ becomes) → OnErr r (later ≡ st) → IsManaging keeps_model size gives may_leave (of_parts config disk later seat)
  asked config disk st becomes later seat (Ok x) is same idle done refused = changed config disk st later seat is (ap (λ (s : managers.State). s.chain) done ∙ same) (idle refl)
  asked config disk st becomes later seat (Err e) is same idle done refused = subst (λ (s : managers.State). IsManaging keeps_model size gives may_leave (of_parts config disk s seat)) (sym refused) is

-- ---- a store that is opened again

module _ (config : configs.State) (next : Record) (gives : List ℕ) (may_leave : List ℕ → Type 0) (kept : IsKept config next gives may_leave) (broken : config.pair.broken ≡ true) (left : may_leave gives) where
  abbrev bytes : List ℕ
  bytes = inside config.pair.part gives

  -- its part holds a record
  some_held : HoldsNone bytes → ⊥
  some_held none = ⊎_elim (none config.current) (none next) (kept.either broken gives left)

  -- so that none is found is no refusal of it
  pub never_none : {T : Type 0} (refusal : Refusal) → IsOfOpening refusal → (refusal ≡ NoRecord → HoldsNone bytes) → (IsErrOf {T = T} (Err refusal) NoRecord → ⊥) × (IsErrOf {T = T} (Err refusal) NotNext → ⊥)
  never_none {T} refusal of none = (
    λ is. some_held (none (let same : ◌≡◌ {A = Result T Refusal} (Err refusal) (Err NoRecord) = is in cc)),
    λ is. let same : refusal ≡ NotNext = (let whole : ◌≡◌ {A = Result T Refusal} (Err refusal) (Err NotNext) = is in cc) in subst IsOfOpening same of,
  )

  -- and it is the one before, or the next one
  pub never_other : (found : Record) → HoldsRecord found bytes → ((some other : Record) (area : List ℕ) → HoldsRecord some area → HoldsRecord other area → some ≡ other) → (found ≡ next → ⊥) → (found ≡ config.current → ⊥) → ⊥
  never_other found held one_record other another =
      ⊎_elim (λ old. another (one_record found config.current bytes held old)) (λ new. other (one_record found next bytes held new)) (kept.either broken gives left)

-- ---- a record that is written

settled_now : (store : configs.State) (next : Record) (c : List ℕ) (leaves : List ℕ → Type 0) → IsSettledConfig store c leaves → IsKept store next c leaves
settled_now store next c leaves is = record { settled = λ runs. is; either = λ broken. absurd (let still = is.pair.runs in cc) }

-- a store whose record the device refused
abbrev HasFailed : configs.State → configs.State → Type 0
HasFailed before after = after ≡ record before { pair = record before.pair { is_closed = after.pair.is_closed; broken = true } }

module _ {D : Type 0} (moment : D → ℕ) (left_since : D → ℕ → List ℕ → Type 0) (gives : D → List ℕ) (may_leave : D → List ℕ → Type 0) (next : Record) where
  -- while a disk is only read
  pub while_read : (config : configs.State) (old new : D) → IsKept config next (gives old) (may_leave old) → OnlyReads gives may_leave moment left_since old new → LeavesOnly moment left_since old new (λ c. HoldsOldOrNew config.current next (inside config.pair.part c))
  while_read config old new kept reads =
      weaker moment left_since old new (may_leave old) (λ c. HoldsOldOrNew config.current next (inside config.pair.part c)) (left_either config next (gives old) (may_leave old) kept) reads.moments

  module _ (opened : configs.State) (mid new : D) (written : LeavesOnly moment left_since mid new (λ c. HoldsOldOrNew opened.current next (inside opened.pair.part c))) where
    -- and then written
    pub while_written : (config : configs.State) (old : D) → IsKept config next (gives old) (may_leave old) → OnlyReads gives may_leave moment left_since old mid → opened.current ≡ config.current → opened.pair.part ≡ config.pair.part
        → LeavesOnly moment left_since old new (λ c. HoldsOldOrNew config.current next (inside config.pair.part c))
    while_written config old kept reads current part =
        then_run moment left_since old mid new (λ c. HoldsOldOrNew config.current next (inside config.pair.part c)) (while_read config old mid kept reads)
        (subst (λ (r : Record). LeavesOnly moment left_since mid new (λ c. HoldsOldOrNew r next (inside config.pair.part c))) current
        (subst (λ (p : Part). LeavesOnly moment left_since mid new (λ c. HoldsOldOrNew opened.current next (inside p c))) part written))

    module _ (later : configs.State) (counts_now : (t : ℕ) (c : List ℕ) → t ≤ moment new → may_leave new c → left_since new t c) (settled : IsSettledConfig opened (gives mid) (may_leave mid)) where
      failed_now : HasFailed opened later → IsKept later next (gives new) (may_leave new)
      failed_now failed =
          let broken : later.pair.broken ≡ true = ap (λ (s : configs.State). s.pair.broken) failed in
          let current : opened.current ≡ later.current = sym (ap (λ (s : configs.State). s.current) failed) in
          let part : opened.pair.part ≡ later.pair.part = sym (ap (λ (s : configs.State). s.pair.part) failed) in
          record {
            settled = λ runs. absurd (cc);
            either = λ is c left.
                subst (λ (r : Record). HoldsOldOrNew r next (inside later.pair.part c)) current (subst (λ (p : Part). HoldsOldOrNew opened.current next (inside p c)) part (written.each c (counts_now (moment mid) c written.later left)));
          }

      as_it_was : (later ≡ opened) × (new ≡ mid) → IsKept later next (gives new) (may_leave new)
      as_it_was (same, still) =
          subst (λ (d : D). IsKept later next (gives d) (may_leave d)) (sym still)
          (subst (λ (s : configs.State). IsKept s next (gives mid) (may_leave mid)) (sym same) (settled_now opened next (gives mid) (may_leave mid) settled))

      refused_now : (refusal : Refusal) → (IsOfDevice refusal → HasFailed opened later) → ((IsOfDevice refusal → ⊥) → (later ≡ opened) × (new ≡ mid)) → IsKept later next (gives new) (may_leave new)
      refused_now (Device error) fails stays = failed_now (fails tt)
      refused_now _ fails stays = as_it_was (stays (λ is. is))

      -- so it is kept
      pub kept_written : {T : Type 0} (r : Result T Refusal) → OnOk r (IsSettledConfig later (gives new) (may_leave new)) → IfErr r (λ e. IsOfDevice e → later ≡ record opened { pair = record opened.pair { is_closed = later.pair.is_closed; broken = true } })
          → IfErr r (λ e. (IsOfDevice e → ⊥) → (later ≡ opened) × (new ≡ mid)) → IsKept later next (gives new) (may_leave new)
      kept_written (Ok x) done fails stays = settled_now later next (gives new) (may_leave new) done
      kept_written (Err e) done fails stays = refused_now e fails stays
