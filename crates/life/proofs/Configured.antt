-- What the manager leaves of the configuration's disk. Lemmas.
use Rattle.std.proofs.Common.{◌≡◌, ℕ, suc, ◌≤◌, Bool, true, false, List, refl, ap, sym, subst, ◌∙◌, inl, inr, arith}
use Rattle.std.specs.Prelude.{◌⊎◌, None, Some, Result, Ok, Err}
use Rattle.configurations.specs.Record.{Record}
use Rattle.configurations.specs.Store.{HoldsRecord, IsSettledConfig, recorded as recorded_config, settled_leaves}
use Rattle.configurations.specs.Store as configs
use Rattle.configurations.specs.Refusal.{IsOfDevice}
use Rattle.configurations.specs.declared.refusal.Refusal as config
use Rattle.configurations.specs.declared.refusal.Refusal.TheVariants as refusals
use Rattle.disk_model.specs.Disk.{LeavesOnly, NothingNew}
use Rattle.disk_model.specs.EraLaws.{counts_later}
use Rattle.disk_model.specs.Memory.{given_of, left_since, may_be_left, moment_of}
use Rattle.disk_model.specs.Part.{inside}
use Rattle.disk_model.specs.Waiting.{waiting_first, waiting_now}
use Rattle.disk_model.specs.declared.memory.MemDisk.{MemDisk}
use Rattle.disk_model.specs.declared.part.Part.{Part}
use Rattle.gate_journal.specs.Pair.{IsSettledPair}
use Rattle.manager.specs.declared.refusal.Refusal as manager
use Rattle.std.proofs.lemmas.Option.{same_Some}
use Rattle.local_store.specs.About.{About}
use Rattle.chain.specs.Chain.{Chained}
use Rattle.std.specs.declared.alloc.AllocError.{AllocError}
use Rattle.world.specs.Joining.{HasRecorded}
use Rattle.world.specs.Management.{HoldsOne, HoldsWritten, Managing}
use Rattle.life.specs.Calls.{BeginsNext, BeginsRecord, BeginsWithJoiner, CountsSlotOut, EndsNext, EndsRecord, EndsWithJoiner, IsSame, Removes}
use Rattle.life.specs.Managed.{IsAtRest, IsConfigured, Managed, MayStand, config_part}
use Rattle.life.proofs.Newcomers.{if_and}

-- ---- the record on the disk

-- the same bytes hold it, and nothing else may be left than before
pub settled_still : (store : configs.State) (old new : MemDisk) → given_of new ≡ given_of old → NothingNew (may_be_left old) (may_be_left new) → IsSettledConfig store (given_of old) (may_be_left old)
    → IsSettledConfig store (given_of new) (may_be_left new)
settled_still store old new same nothing settled = record {
  slots = settled.slots;
  newer = settled.newer;
  pair = subst (λ (g : List ℕ). IsSettledPair store.pair settled.slots g (may_be_left new)) (sym same) (record {
    holds = settled.pair.holds;
    number = settled.pair.number;
    into = settled.pair.into;
    gate = settled.pair.gate;
    other_gate = settled.pair.other_gate;
    runs = settled.pair.runs;
    durable = λ x (c, left, is). settled.pair.durable x (c, nothing c left, is);
  });
}

-- what may be left now may have been left since an earlier moment
pub left_now : (d : MemDisk) (t : ℕ) (c : List ℕ) → t ≤ moment_of d → may_be_left d c → left_since d t c
left_now d t c le left = counts_later d.eras.items d.content.base.items d.content.bytes.items (waiting_first d.content) d.content.log.items (waiting_now d.content) d.content.replayed d.content.ranges t c le left

-- so a run that leaves only such contents leaves such a one now
pub left_by_run : (old new : MemDisk) (P : List ℕ → Type 0) → LeavesOnly moment_of left_since old new P → (c : List ℕ) → may_be_left new c → P c
left_by_run old new P run c left = run.each c (left_now new (moment_of old) c run.later left)

-- the configuration's disk is settled with this store's record
abbrev IsSettledOn : configs.State → MemDisk → Type 0
IsSettledOn config disk = IsSettledConfig config (given_of disk) (may_be_left disk)

module _ {S : Type 0} where
  -- a store's record that stands, and nothing else, is one of the chain's
  stands_so : (c : Chained S) (m : Managing MemDisk) → m.config.pair.part ≡ config_part → MayStand c m.config.current → IsSettledOn m.config m.disk
      → (bytes : List ℕ) → may_be_left m.disk bytes → HoldsOne c (inside config_part bytes)
  stands_so c m part stand settled bytes left =
      let holds = subst (λ (p : Part). HoldsRecord m.config.current (inside p bytes)) part (settled_leaves settled (inside m.config.pair.part bytes) (bytes, left, refl)) in
      elim stand [
        | inl current ↦ inl (subst (λ r. HoldsRecord r (inside config_part bytes)) current holds)
        | inr written ↦ inr (m.config.current, written, holds)
      ]

  settled_so : (w : Managed S) → w.management.config.pair.part ≡ config_part → MayStand w.world.chain w.management.config.current → IsSettledOn w.management.config w.management.disk → IsConfigured w
  settled_so w part stand settled = record { part = part; left = stands_so w.world.chain w.management part stand settled; goes_on = inr (stand, settled) }

  pub rests_configured : (w : Managed S) → IsAtRest w → IsConfigured w
  rests_configured w rests = settled_so w rests.part (inl rests.current) rests.settled

  -- ---- where the record stays

  -- what might stand may stand still
  stands_still : (old new : Chained S) (r : Record) → new.recorded ≡ old.recorded → (old.writing ≡ None) ⊎ (new.writing ≡ old.writing) → MayStand old r → MayStand new r
  stands_still old new r recorded writing (inl is) = inl (is ∙ sym recorded)
  stands_still old new r recorded (inl none) (inr is) = let clash : None ≡ Some r = sym none ∙ is in absurd (cc)
  stands_still old new r recorded (inr same) (inr is) = inr (same ∙ is)

  -- the chain's records stay, or a next one is being written; the configuration's disk stays
  same_disk : (old new : Managed S) → IsConfigured old → new.world.chain.recorded ≡ old.world.chain.recorded → (old.world.chain.writing ≡ None) ⊎ (new.world.chain.writing ≡ old.world.chain.writing)
      → new.management.config ≡ old.management.config → new.management.disk ≡ old.management.disk → IsConfigured new
  same_disk old new was recorded writing config disk = record {
    part = ap (λ (s : configs.State). s.pair.part) config ∙ was.part;
    left = λ bytes left. holds bytes (was.left bytes (subst (λ (d : MemDisk). may_be_left d bytes) disk left));
    goes_on = elim was.goes_on [
      | inl (broken, current) ↦ inl (ap (λ (s : configs.State). s.pair.broken) config ∙ broken, ap (λ (s : configs.State). s.current) config ∙ current ∙ sym recorded)
      | inr (stand, settled) ↦ inr (
        subst (λ (s : configs.State). MayStand new.world.chain s.current) (sym config) (stands_still old.world.chain new.world.chain old.management.config.current recorded writing stand),
        subst (λ (s : configs.State). IsSettledOn s new.management.disk) (sym config) (subst (IsSettledOn old.management.config) (sym disk) settled),
      )
    ];
  }
    where
      holds : (bytes : List ℕ) → HoldsOne old.world.chain (inside config_part bytes) → HoldsOne new.world.chain (inside config_part bytes)
      holds bytes (inl stands) = inl (subst (λ r. HoldsRecord r (inside config_part bytes)) (sym recorded) stands)
      holds bytes (inr (next, is, stands)) = elim writing [
        | inl none ↦ let clash : None ≡ Some next = sym none ∙ is in absurd (cc)
        | inr same ↦ inr (next, same ∙ is, stands)
      ]

  pub same_chain : (old new : Managed S) → IsConfigured old → new.world.chain.recorded ≡ old.world.chain.recorded → new.world.chain.writing ≡ old.world.chain.writing
      → new.management.config ≡ old.management.config → new.management.disk ≡ old.management.disk → IsConfigured new
  same_chain old new was recorded writing config disk = same_disk old new was recorded (inr writing) config disk

  pub nothing_new : (old new : Managed S) → IsConfigured old → IsSame old new → IsConfigured new
  nothing_new old new was (world, management) =
      same_chain old new was (ap (λ w. w.chain.recorded) world) (ap (λ w. w.chain.writing) world) (ap (λ m. m.config) management) (ap (λ m. m.disk) management)

  -- ---- a record is begun

  begins_configured : (given : Result Bool AllocError) (old new : Managed S) → BeginsRecord given old new → IsConfigured old → IsConfigured new
  begins_configured (Ok true) old new is was =
      let did = is.begun refl in
      let chain = did.moves.did.1 in
      same_disk old new was (ap (λ c. c.recorded) chain) (inl did.moves.did.0.1) (ap (λ m. m.config) did.are) (ap (λ m. m.disk) did.are)
  begins_configured (Ok false) old new is was = nothing_new old new was (is.idle refl).1
  begins_configured (Err e) old new is was = nothing_new old new was is.err

  join_begins_configured : (about : S → About) (given : Result Bool AllocError) (old new : Managed S) → BeginsWithJoiner about given old new → IsConfigured old → IsConfigured new
  join_begins_configured about (Ok true) old new is was =
      let did = is.begun refl in
      let chain = did.begun.begun in
      let (store, joined, may) = if_and old.world.joiner _ did.may in
      same_disk old new was (ap (λ c. c.recorded) chain) (inl may.1) (ap (λ m. m.config) did.are) (ap (λ m. m.disk) did.are)
  join_begins_configured about (Ok false) old new is was = nothing_new old new was (is.idle refl).1
  join_begins_configured about (Err e) old new is was = nothing_new old new was is.err

  pub next_begins_configured : (about : S → About) (given : Result Bool AllocError) (old new : Managed S) → BeginsNext about given old new → IsConfigured old → IsConfigured new
  next_begins_configured about given old new (inl (counted, is)) was = join_begins_configured about given old new is was
  next_begins_configured about given old new (inr (other, is)) was = begins_configured given old new is was

  -- ---- it is written

  -- the device failed meanwhile: the one before it stands, or this one, and nothing is written any more
  failed_configured : (old new : Managed S) → IsConfigured old → new.world ≡ old.world
      → new.management.config ≡ record old.management.config { pair = record old.management.config.pair { is_closed = new.management.config.pair.is_closed; broken = true } }
      → ((next : Record) → old.world.chain.writing ≡ Some next → old.management.config.current.epoch ≡ next.epoch → ⊥) → IsSettledOn old.management.config old.management.disk → MayStand old.world.chain old.management.config.current
      → LeavesOnly moment_of left_since old.management.disk new.management.disk (λ c. HoldsRecord old.management.config.current (inside old.management.config.pair.part c)
      ⊎ HoldsWritten old.world.chain.writing (inside old.management.config.pair.part c)) → IsConfigured new
  failed_configured old new was world device attempted settled stand any_moment = record {
    part = ap (λ (s : configs.State). s.pair.part) device ∙ was.part;
    left = λ bytes left.
        subst (λ (c : Chained S). HoldsOne c (inside config_part bytes)) (sym (ap (λ w. w.chain) world))
        (subst (λ r. HoldsRecord r (inside config_part bytes) ⊎ HoldsWritten old.world.chain.writing (inside config_part bytes)) current
        (subst (λ (p : Part). HoldsRecord old.management.config.current (inside p bytes) ⊎ HoldsWritten old.world.chain.writing (inside p bytes)) was.part
        (left_by_run old.management.disk new.management.disk _ any_moment bytes left)));
    goes_on = inl (ap (λ (s : configs.State). s.pair.broken) device, ap (λ (s : configs.State). s.current) device ∙ current ∙ sym (ap (λ w. w.chain.recorded) world));
  }
    where
      current : old.management.config.current ≡ old.world.chain.recorded
      current = elim stand [ inl is ↦ is | inr written ↦ absurd (attempted old.management.config.current written refl) ]

  ends_configured : (given : Result Bool config.Refusal) (old new : Managed S) → EndsRecord given old new → IsConfigured old → IsConfigured new
  ends_configured (Ok true) old new is was =
      let did = is.ended refl in
      let moved = did.moves.did.1 in
      let part : new.management.config.pair.part ≡ config_part = ap (λ (s : configs.State). s.pair.part) did.config ∙ was.part in
      let next : did.next ≡ moved.next = same_Some did.next moved.next (sym did.written ∙ moved.begun) in
      let current : new.management.config.current ≡ new.world.chain.recorded = ap (λ (s : configs.State). s.current) did.config ∙ next ∙ sym (ap (λ c. c.recorded) moved.are) in
      elim was.goes_on [
        | inl (broken, before) ↦ let no : true ≡ false = (is.broken broken).1 in absurd (cc)
        | inr (before, settled) ↦ settled_so new part (inl current) (is.settled settled)
      ]
  ends_configured (Ok false) old new is was = nothing_new old new was (is.idle refl).1
  ends_configured (Err (refusals.Device error)) old new is was =
      elim was.goes_on [
        | inl (broken, before) ↦ absurd ((is.broken broken).0 tt)
        | inr (stand, settled) ↦ failed_configured old new was is.world (is.device tt) (is.attempted tt) settled stand (is.any_moment settled)
      ]
  ends_configured (Err refusals.Memory) old new is was = nothing_new old new was (is.world, is.unchanged (λ no. no))
  ends_configured (Err refusals.Broken) old new is was = nothing_new old new was (is.world, is.unchanged (λ no. no))
  ends_configured (Err refusals.NoRecord) old new is was = nothing_new old new was (is.world, is.unchanged (λ no. no))
  ends_configured (Err refusals.NotNext) old new is was = nothing_new old new was (is.world, is.unchanged (λ no. no))
  ends_configured (Err refusals.BadMembers) old new is was = nothing_new old new was (is.world, is.unchanged (λ no. no))

  -- it stood there already, or it was written
  module _ (old new : Managed S) (was : IsConfigured old) (next : Record) (written : old.world.chain.writing ≡ Some next) where
    -- where the store's record has its epoch, it is the store's record
    it_stands : next.epoch ≡ suc old.world.chain.recorded.epoch → old.management.config.current.epoch ≡ next.epoch → MayStand old.world.chain old.management.config.current → old.management.config.current ≡ next
    it_stands follows same (inl current) = let e = ap (λ (r : Record). r.epoch) current in absurd (omega (arith, e, follows, same))
    it_stands follows same (inr is) = same_Some old.management.config.current next (sym is ∙ written)

    -- nothing was written, and memory ran out; or it was written
    only_recorded : new.world ≡ old.world → HasRecorded next old.management new.management → IsSettledOn new.management.config new.management.disk → IsConfigured new
    only_recorded world (inl are) settled =
        let config = ap (λ (m : Managing MemDisk). m.config) are in
        settled_so new (ap (λ (s : configs.State). s.pair.part) config ∙ was.part)
        (inr (ap (λ w. w.chain.writing) world ∙ written ∙ ap Some (sym (ap (λ (s : configs.State). s.current) config)))) settled
    only_recorded world (inr (same, are)) settled = nothing_new old new was (world, are)

  -- where a device call failed before, nothing is written
  join_refused : (about : S → About) (refusal : config.Refusal) (old new : Managed S) → EndsWithJoiner about (Err refusal) old new → (IsOfDevice refusal → ⊥) → IsConfigured old → IsConfigured new
  join_refused about refusal old new is not was = elim was.goes_on [
    | inl (broken, before) ↦
        let (config, disk) = is.untouched broken in
        same_chain old new was (ap (λ w. w.chain.recorded) is.world) (ap (λ w. w.chain.writing) is.world) config disk
    | inr (stand, settled) ↦ elim (is.unchanged not) [
      | inl same ↦ nothing_new old new was (is.world, same)
      | inr (next, written, recorded) ↦ only_recorded old new was next written is.world recorded (is.settled_still settled not)
    ]
  ]

  join_ends_configured : (about : S → About) (given : Result Bool config.Refusal) (old new : Managed S) → EndsWithJoiner about given old new → IsConfigured old → IsConfigured new
  join_ends_configured about (Ok true) old new is was =
      let did = (is.ended refl).0 in
      let moved = did.ended.ended in
      let (store, joined, may) = if_and old.world.joiner _ did.may in
      let its : did.next ≡ may.next = same_Some did.next may.next (sym did.written ∙ may.begun) in
      let follows : did.next.epoch ≡ suc old.world.chain.recorded.epoch = ap (λ (r : Record). r.epoch) its ∙ may.follows.epoch in
      let recorded : new.world.chain.recorded ≡ did.next = ap (λ c. c.recorded) moved.are ∙ same_Some moved.next did.next (sym moved.begun ∙ did.written) in
      by did.next did.written follows recorded did.stands was.goes_on
    where
      by : (next : Record) → old.world.chain.writing ≡ Some next → next.epoch ≡ suc old.world.chain.recorded.epoch → new.world.chain.recorded ≡ next → HasRecorded next old.management (record new.management { manager = old.management.manager })
          → ((old.management.config.pair.broken ≡ true) × (old.management.config.current ≡ old.world.chain.recorded)) ⊎ (MayStand old.world.chain old.management.config.current × IsSettledOn old.management.config old.management.disk) → IsConfigured new
      by next written follows recorded (inl are) (inl (broken, before)) =
          let (config, disk) = is.untouched broken in
          let same : next ≡ old.world.chain.recorded = sym (ap (λ (m : Managing MemDisk). m.config.current) are) ∙ ap (λ (s : configs.State). s.current) config ∙ before in
          let e = ap (λ (r : Record). r.epoch) same in absurd (omega (arith, e, follows))
      by next written follows recorded (inr (same, are)) (inl (broken, before)) = let e = ap (λ (r : Record). r.epoch) before in absurd (omega (arith, e, follows, same))
      by next written follows recorded (inl are) (inr (stand, settled)) =
          let config = ap (λ (m : Managing MemDisk). m.config) are in
          settled_so new (ap (λ (s : configs.State). s.pair.part) config ∙ was.part) (inl (ap (λ (s : configs.State). s.current) config ∙ sym recorded)) (is.settled settled)
      by next written follows recorded (inr (same, are)) (inr (stand, settled)) =
          let config : new.management.config ≡ old.management.config = ap (λ (m : Managing MemDisk). m.config) are in
          settled_so new (ap (λ (s : configs.State). s.pair.part) config ∙ was.part)
          (inl (ap (λ (s : configs.State). s.current) config ∙ it_stands old new was next written follows same stand ∙ sym recorded)) (is.settled settled)
  join_ends_configured about (Ok false) old new is was = nothing_new old new was (is.idle refl).1.0
  join_ends_configured about (Err (refusals.Device error)) old new is was = elim was.goes_on [
    | inl (broken, before) ↦
        let (config, disk) = is.untouched broken in
        same_chain old new was (ap (λ w. w.chain.recorded) is.world) (ap (λ w. w.chain.writing) is.world) config disk
    | inr (stand, settled) ↦ failed_configured old new was is.world (is.device tt) (is.attempted tt) settled stand (is.any_moment settled)
  ]
  join_ends_configured about (Err refusals.Memory) old new is was = join_refused about refusals.Memory old new is (λ no. no) was
  join_ends_configured about (Err refusals.Broken) old new is was = join_refused about refusals.Broken old new is (λ no. no) was
  join_ends_configured about (Err refusals.NoRecord) old new is was = join_refused about refusals.NoRecord old new is (λ no. no) was
  join_ends_configured about (Err refusals.NotNext) old new is was = join_refused about refusals.NotNext old new is (λ no. no) was
  join_ends_configured about (Err refusals.BadMembers) old new is was = join_refused about refusals.BadMembers old new is (λ no. no) was

  pub next_ends_configured : (about : S → About) (given : Result Bool config.Refusal) (old new : Managed S) → EndsNext about given old new → IsConfigured old → IsConfigured new
  next_ends_configured about given old new (inl (counted, is)) was = join_ends_configured about given old new is was
  next_ends_configured about given old new (inr (other, is)) was = ends_configured given old new is was

  -- ---- other orders

  pub counts_configured : (done : Bool) (old new : Managed S) → CountsSlotOut done old new → IsConfigured old → IsConfigured new
  counts_configured true old new is was =
      let did = is.out refl in
      let chain = did.moves.did.1 in
      same_chain old new was (ap (λ c. c.recorded) chain) (ap (λ c. c.writing) chain) (ap (λ m. m.config) did.are) (ap (λ m. m.disk) did.are)
  counts_configured false old new is was = nothing_new old new was (is.idle refl).1

  pub removes_configured : (slot : ℕ) (given : Result (Unit {0}) manager.Refusal) (old new : Managed S) → Removes slot given old new → IsConfigured old → IsConfigured new
  removes_configured slot (Ok done) old new is was = same_chain old new was (ap (λ w. w.chain.recorded) is.world) (ap (λ w. w.chain.writing) is.world) (ap (λ m. m.config) is.done) (ap (λ m. m.disk) is.done)
  removes_configured slot (Err e) old new is was = same_chain old new was (ap (λ w. w.chain.recorded) is.world) (ap (λ w. w.chain.writing) is.world) (ap (λ m. m.config) is.only_noted) (ap (λ m. m.disk) is.only_noted)
