-- What the deeds of an era keep of a world, its manager and its disks. Lemmas.
use Rattle.std.proofs.Common.{◌≡◌, ℕ, zero, suc, ◌<◌, ◌≤◌, Bool, true, false, List, [], ◌∷◌, ◌++◌, map, refl, ap, sym, subst, ◌∙◌, inl, inr, arith}
use Rattle.std.specs.Prelude.{◌⊎◌, All, get_or, OnErr, OnOk, Option, None, Some, Result, Ok, Err, slice_get}
use Rattle.std.specs.Option.{option_to_list}
use Rattle.std.proofs.lemmas.List.Elements.{All-append, All-cons, All-nil}
use Rattle.std.proofs.lemmas.Option.{same_Some}
use Rattle.candidate.specs.Orders.{Counts}
use Rattle.candidate.specs.declared.candidate.Candidate.{Candidate}
use Rattle.candidate.specs.declared.candidate.Candidate.TheVariants.{Copying, Counted, Nobody, Refused, Whole}
use Rattle.chain.specs.Chain.{Chained}
use Rattle.chain.specs.Joining.{IsWithOne, joined_of}
use Rattle.chain.specs.Opening.{recorded_in}
use Rattle.chain.proofs.Cells.{all_left}
use Rattle.chain.specs.Recording.{HaltsAt, IsNextOf, IsToldAt}
use Rattle.chain_steps.specs.Steps.{stop}
use Rattle.chain_steps.specs.declared.cause.Cause.TheVariants.{Memory}
use Rattle.configurations.specs.Record.{Record}
use Rattle.configurations.specs.declared.member.Member.{Member}
use Rattle.configurations.specs.declared.refusal.Refusal as config
use Rattle.disk_model.specs.Memory.{given_of, may_be_left}
use Rattle.disk_model.specs.Part.{inside}
use Rattle.disk_model.specs.declared.memory.MemDisk.{MemDisk}
use Rattle.disk_model.specs.declared.script.Event.{Event}
use Rattle.flush_barrier.specs.Reply.{GivenReply}
use Rattle.local_store.specs.About.{About}
use Rattle.local_store.specs.Meaning.{Meaning, Means}
use Rattle.manager.specs.Manager.{begun_of, coming_record}
use Rattle.manager.specs.Orders.{is_record}
use Rattle.manager.specs.declared.order.Order.TheVariants as orders
use Rattle.manager.specs.declared.refusal.Refusal as manager
use Rattle.std.specs.declared.alloc.AllocError.{AllocError}
use Rattle.volume.specs.declared.geometry.Geometry.{Geometry}
use Rattle.world.specs.Joining.{GivesUp}
use Rattle.world.specs.Management.{HoldsOne, TellsSlot}
use Rattle.world.specs.World.{Seen}
use Rattle.world.specs.declared.told.Told.{Told}
use Rattle.configurations.specs.Store as configs
use Rattle.configurations.specs.Store.{IsSettledConfig}
use Rattle.life.specs.Begun.{AreOnDisks}
use Rattle.life.specs.Calls.{Abandons, ArmsConfig, BeginsNext, CountsSlotOut, EndsNext, Forgets, IsSame, Joins, Removes, TellsRecord, is_counted}
use Rattle.life.specs.Does.{DoesDeed, DoesIt, Manages, is_abandon, is_abandoning}
use Rattle.life.specs.Managed.{AreDated, AreInStep, IsAmong, IsAtRest, IsConfigured, IsNewcomer, JoinsAsNew, Managed, MayStand, NoImpostor, config_part}
use Rattle.life.specs.Plays.{DeedsLead}
use Rattle.life.specs.Recovered.{recorded_as}
use Rattle.life.specs.declared.answer.Answer.{Answer}
use Rattle.life.specs.declared.era.Deed.{Deed}
use Rattle.life.specs.declared.era.Deed.TheVariants as deeds
use Rattle.life.specs.declared.managed.SlotDisk.{SlotDisk}
use Rattle.life.specs.declared.step.ManagerAct.{ManagerAct}
use Rattle.life.specs.declared.step.ManagerAct.TheVariants as manages
use Rattle.life.proofs.Admitted.{IsLed, attaches_led, copies_led, given_up, holds_led, not_nobody, noted_counted, noted_nobody, rests_led}
use Rattle.life.proofs.Configured.{next_begins_configured, next_ends_configured, removes_configured, rests_configured, same_chain, settled_still}
use Rattle.life.proofs.InStep.{IsWaiting, abandoned_in_step, abandoned_waiting, begun_waiting, joins_in_step, joins_waiting, led_in_step, next_begins_in_step, next_ends_in_step, not_writing, removes_in_step, removes_waiting, rests_in_step, still_in_step, waiting_alone}
use Rattle.life.proofs.Joiners.{StaysJoined, does_joined, joined_at_place}
use Rattle.life.proofs.Newcomers.{if_and}
use Rattle.life.proofs.Outside.{IsOfNext, aside_next, store_next}
use Rattle.life.proofs.Owners.{StayOwn, at_place, does_stay, map_set, own, own_of, stay_changed, stay_same}
use Rattle.life.proofs.Places.{all_at, get_either, of_mapped}
use Rattle.life.proofs.Starting.{all_mapped}
use Rattle.life.proofs.Waiting.{StaysKnown, Waits, known_still, waits_for, waits_still}

-- ---- whom a stop may leave recorded

-- the epoch doesn't fall; and who is in a record that may stand then was in one that might, or is newer than all that were recorded, and its
-- disk was counted
pub record Grows {S : Type 0} (old new : Managed S) : Type 0 where
  pub epoch : old.world.chain.recorded.epoch ≤ new.world.chain.recorded.epoch
  pub members : (r : Record) → MayStand new.world.chain r → (seat : ℕ) (m : Member) → slice_get r.members seat ≡ Some m
      → ((old.world.chain.recorded.epoch < m.incarnation) × (old.candidate ≡ Counted)) ⊎ ((before : Record) × MayStand old.world.chain before × (k : ℕ) × (slice_get before.members k ≡ Some m))

-- each member of a record that may stand is of an incarnation up to its epoch, and of a later one than the recorded epoch only where its disk
-- was counted
abbrev pub AreInTime : {S : Type 0} → Managed S → Type 0
AreInTime w = (r : Record) → MayStand w.world.chain r → (seat : ℕ) (m : Member) → slice_get r.members seat ≡ Some m → (m.incarnation ≤ r.epoch) × (w.world.chain.recorded.epoch < m.incarnation → w.candidate ≡ Counted)

module _ {S : Type 0} (old new : Managed S) where
  grows_still : new.world.chain.recorded ≡ old.world.chain.recorded → new.world.chain.writing ≡ old.world.chain.writing → Grows old new
  grows_still recorded writing = record {
    epoch = let e = ap (λ (r : Record). r.epoch) recorded in omega (arith, e);
    members = λ r stands seat m here. elim stands [
      | inl is ↦ inr (r, inl (is ∙ recorded), seat, here)
      | inr is ↦ inr (r, inr (sym writing ∙ is), seat, here)
    ];
  }

  in_time_still : new.world.chain.recorded ≡ old.world.chain.recorded → new.world.chain.writing ≡ old.world.chain.writing → (old.candidate ≡ Counted → new.candidate ≡ Counted) → AreInTime old → AreInTime new
  in_time_still recorded writing counted time = λ r stands seat m here.
      let stood : MayStand old.world.chain r = elim stands [ inl is ↦ inl (is ∙ recorded) | inr is ↦ inr (sym writing ∙ is) ] in
      let was = time r stood seat m here in
      let e = ap (λ (x : Record). x.epoch) recorded in
      (was.0, λ later. counted (was.1 (omega (arith, later, e))))

  -- nothing is being written any more
  in_time_alone : new.world.chain.recorded ≡ old.world.chain.recorded → new.world.chain.writing ≡ None → AreInTime old → AreInTime new
  in_time_alone recorded none time = λ r stands seat m here. elim stands [
    | inl is ↦
        let was = time r (inl (is ∙ recorded)) seat m here in
        let e = ap (λ (x : Record). x.epoch) is in
        (was.0, λ later. absurd (omega (arith, was.0, later, e)))
    | inr is ↦ let clash : None ≡ Some r = sym none ∙ is in absurd (cc)
  ]

  -- a next one is being written: each of its members was recorded, or is new
  module _ (next : Record) (are : new.world.chain ≡ record old.world.chain { writing = Some next })
      (each : (seat : ℕ) (m : Member) → slice_get next.members seat ≡ Some m → ((m.incarnation ≡ suc old.world.chain.recorded.epoch) × (old.candidate ≡ Counted)) ⊎ ((k : ℕ) × (slice_get old.world.chain.recorded.members k ≡ Some m))) where
    grows_begun : Grows old new
    grows_begun = record {
      epoch = let e = ap (λ c. c.recorded.epoch) are in omega (arith, e);
      members = λ r stands seat m here. elim stands [
        | inl is ↦ inr (r, inl (is ∙ ap (λ c. c.recorded) are), seat, here)
        | inr is ↦
            let same : next ≡ r = same_Some next r (sym (ap (λ c. c.writing) are) ∙ is) in
            elim (each seat m (ap (λ (x : Record). slice_get x.members seat) same ∙ here)) [
              | inl (newer, counted) ↦ inl (omega (arith, newer), counted)
              | inr (k, there) ↦ inr (old.world.chain.recorded, inl refl, k, there)
            ]
      ];
    }

    in_time_begun : next.epoch ≡ suc old.world.chain.recorded.epoch → (old.candidate ≡ Counted → new.candidate ≡ Counted) → AreInTime old → AreInTime new
    in_time_begun epoch counted time = λ r stands seat m here.
        let stays = ap (λ c. c.recorded.epoch) are in
        elim stands [
          | inl is ↦
              let was = time r (inl (is ∙ ap (λ c. c.recorded) are)) seat m here in
              (was.0, λ later. counted (was.1 (omega (arith, later, stays))))
          | inr is ↦
              let same : next ≡ r = same_Some next r (sym (ap (λ c. c.writing) are) ∙ is) in
              let of_next = ap (λ (x : Record). x.epoch) same in
              elim (each seat m (ap (λ (x : Record). slice_get x.members seat) same ∙ here)) [
                | inl (newer, its) ↦ (omega (arith, newer, epoch, of_next), λ later. counted its)
                | inr (k, there) ↦
                    let was = time old.world.chain.recorded (inl refl) k m there in
                    (omega (arith, was.0, epoch, of_next), λ later. absurd (omega (arith, was.0, later, stays)))
              ]
        ]

  -- it is the recorded one
  module _ (next : Record) (written : old.world.chain.writing ≡ Some next) (recorded : new.world.chain.recorded ≡ next) (none : new.world.chain.writing ≡ None) where
    grows_ended : old.world.chain.recorded.epoch < next.epoch → Grows old new
    grows_ended later = record {
      epoch = let e = ap (λ (r : Record). r.epoch) recorded in omega (arith, e, later);
      members = λ r stands seat m here. elim stands [
        | inl is ↦ inr (r, inr (written ∙ ap Some (sym (is ∙ recorded))), seat, here)
        | inr is ↦ let clash : None ≡ Some r = sym none ∙ is in absurd (cc)
      ];
    }

    in_time_ended : AreInTime old → AreInTime new
    in_time_ended time = λ r stands seat m here. elim stands [
      | inl is ↦
          let was = time r (inr (written ∙ ap Some (sym (is ∙ recorded)))) seat m here in
          let e = ap (λ (x : Record). x.epoch) is in
          (was.0, λ later. absurd (omega (arith, was.0, later, e)))
      | inr is ↦ let clash : None ≡ Some r = sym none ∙ is in absurd (cc)
    ]

-- who is left when one is taken out was there
left_there : (before behind : List Member) (removed m : Member) (seat : ℕ) → slice_get (before ++ behind) seat ≡ Some m → (k : ℕ) × (slice_get (before ++ removed ∷ behind) k ≡ Some m)
left_there [] behind removed m seat here = (suc seat, here)
left_there (x ∷ before) behind removed m zero here = (0, here)
left_there (x ∷ before) behind removed m (suc k) here = let (at, there) = left_there before behind removed m k here in (suc at, there)

next_there : {S : Type 0} (c : Chained S) (next : Record) → IsNextOf c next → (seat : ℕ) (m : Member) → slice_get next.members seat ≡ Some m → (k : ℕ) × (slice_get c.recorded.members k ≡ Some m)
next_there c next follows seat m here = elim follows.members [
  | inl without ↦
      let (k, there) = left_there without.before without.behind without.removed m seat (ap (λ (ms : List Member). slice_get ms seat) (sym without.are) ∙ here) in
      (k, ap (λ (ms : List Member). slice_get ms k) without.were ∙ there)
  | inr same ↦ (seat, ap (λ (ms : List Member). slice_get ms seat) (sym same) ∙ here)
]

-- the one that stands alone in a list
alone_there : {A : Type 0} (x m : A) (k : ℕ) → slice_get (x ∷ []) k ≡ Some m → x ≡ m
alone_there x m zero here = same_Some x m here
alone_there x m (suc k) here = let none : None ≡ Some m = here in absurd (cc)

-- in the record with a new one behind, each is that one, or was there
with_one_there : {S : Type 0} (about : S → About) (store : S) (c : Chained S) (next : Record) → IsWithOne about store c next → (seat : ℕ) (m : Member) → slice_get next.members seat ≡ Some m
    → (m.incarnation ≡ suc c.recorded.epoch) ⊎ ((k : ℕ) × (slice_get c.recorded.members k ≡ Some m))
with_one_there about store c next follows seat m here =
    elim (get_either c.recorded.members (recorded_in about store ∷ []) seat m (ap (λ (ms : List Member). slice_get ms seat) (sym follows.members) ∙ here)) [
      | inl there ↦ inr (seat, there)
      | inr (j, at, last) ↦ inl (sym (ap (λ (x : Member). x.incarnation) (alone_there (recorded_in about store) m j last)) ∙ follows.incarnation ∙ follows.epoch)
    ]

-- a disk that was counted
counted_is : {S D : Type 0} (x : Candidate S D) → is_counted x ≡ true → x ≡ Counted
counted_is Counted is = refl
counted_is Nobody is = let clash : false ≡ true = is in absurd (cc)
counted_is (Copying c) is = let clash : false ≡ true = is in absurd (cc)
counted_is (Whole w) is = let clash : false ≡ true = is in absurd (cc)
counted_is (Refused disk) is = let clash : false ≡ true = is in absurd (cc)

-- one that wasn't
not_counted : {S D : Type 0} (x : Candidate S D) → is_counted x ≡ false → x ≡ Counted → ⊥
not_counted x other counted = let clash : true ≡ false = sym (ap is_counted counted) ∙ other in absurd (cc)

-- it is what it is where the call went well, or where it didn't
either_so : {T E A : Type 0} (given : Result T E) (x a b : A) → OnOk given (x ≡ a) → OnErr given (x ≡ b) → (x ≡ a) ⊎ (x ≡ b)
either_so (Ok t) x a b ok err = inl ok
either_so (Err e) x a b ok err = inr err

-- ---- disks outside

-- no stop leaves of the disk what is a member's of a record that may stand; and what it leaves is of an incarnation that was recorded
abbrev pub IsNone : {S : Type 0} → Managed S → SlotDisk MemDisk → Type 0
IsNone w d = (bytes : List ℕ) → may_be_left d.disk bytes → (meaning : Meaning) → Means meaning bytes → (r : Record) → MayStand w.world.chain r → IsAmong r meaning.slot meaning.incarnation → ⊥

-- what a stop leaves of it is of an incarnation that was recorded, or of the next epoch while an abandoned joining is to be recorded
abbrev pub IsPast : {S : Type 0} → Managed S → SlotDisk MemDisk → Type 0
IsPast w d = (bytes : List ℕ) → may_be_left d.disk bytes → (meaning : Meaning) → Means meaning bytes
    → (meaning.incarnation ≤ w.world.chain.recorded.epoch) ⊎ ((meaning.incarnation ≡ suc w.world.chain.recorded.epoch) × Waits w)

-- one of the next epoch is no member's, unless the disk on its way was counted
pub next_is_none : {S : Type 0} (w : Managed S) → AreInTime w → (w.candidate ≡ Counted → ⊥) → (d : SlotDisk MemDisk) → IsOfNext (suc w.world.chain.recorded.epoch) d → IsNone w d
next_is_none w time uncounted d is = λ bytes left meaning means r stands (seat, here).
    let next = is bytes left meaning means in
    uncounted ((time r stands seat (recorded_as meaning) here).1 (omega (arith, next)))

module _ {S : Type 0} (old new : Managed S) (grows : Grows old new) where
  one_none : (d : SlotDisk MemDisk) → IsPast old d → IsNone old d → IsNone new d
  one_none d past none = λ bytes left meaning means r stands (seat, here). elim (grows.members r stands seat (recorded_as meaning) here) [
    | inl (newer, counted) ↦ elim (past bytes left meaning means) [ inl le ↦ absurd (omega (arith, le, newer)) | inr (next, waits) ↦ absurd (not_nobody old.candidate counted waits.nobody) ]
    | inr (before, stood, at, there) ↦ none bytes left meaning means before stood (at, there)
  ]

  module _ (same : new.outside ≡ old.outside) (past : All (IsPast old) old.outside) where
    none_still : NoImpostor old → NoImpostor new
    none_still none = subst (All (IsNone new)) (sym same) (λ k d within. one_none (get_or old.outside k d) (past k d within) (none k d within))

    past_still : (Waits old → (old.world.chain.recorded.epoch < new.world.chain.recorded.epoch) ⊎ ((new.world.chain.recorded.epoch ≡ old.world.chain.recorded.epoch) × Waits new)) → All (IsPast new) new.outside
    past_still lasts = subst (All (IsPast new)) (sym same) (λ k d within bytes left meaning means. elim (past k d within bytes left meaning means) [
      | inl le ↦ inl (omega (arith, le, grows.epoch))
      | inr (next, waits) ↦ elim (lasts waits) [ inl later ↦ inl (omega (arith, next, later)) | inr (stays, still) ↦ inr (omega (arith, next, stays), still) ]
    ])

module _ {S : Type 0} (about : S → About) where
  -- ---- members' disks

  -- an incarnation from 1 up to the epoch, and these sizes
  abbrev IsFit : Geometry → ℕ → ℕ × Geometry → Type 0
  IsFit geometry epoch owner = (0 < owner.0) × (owner.1 ≡ geometry) × (owner.0 ≤ epoch)

  abbrev pub AreFit : Chained S → Type 0
  AreFit c = All (λ m. IsFit c.geometry c.recorded.epoch (own_of about m)) c.members

  fits_on : (geometry : Geometry) (from to : ℕ) (owner : ℕ × Geometry) → from ≤ to → IsFit geometry from owner → IsFit geometry to owner
  fits_on geometry from to owner le (some, sizes, within) = (some, sizes, omega (arith, le, within))

  fit_still : (old new : Chained S) → new.geometry ≡ old.geometry → map (own_of about) new.members ≡ map (own_of about) old.members → old.recorded.epoch ≤ new.recorded.epoch → AreFit old → AreFit new
  fit_still old new geometry owners later are =
      subst (λ g. All (λ m. IsFit g new.recorded.epoch (own_of about m)) new.members) (sym geometry)
      (of_mapped (IsFit old.geometry new.recorded.epoch) (own_of about) new.members (subst (All (IsFit old.geometry new.recorded.epoch)) (sym owners)
      (all_mapped (IsFit old.geometry new.recorded.epoch) (own_of about) old.members (λ k d within. fits_on old.geometry old.recorded.epoch new.recorded.epoch (own_of about (get_or old.members k d)) later (are k d within)))))

  -- ---- what is kept

  -- What holds of a world, its manager and its disks through an era.
  pub record Holds (w : Managed S) : Type 0 where
    pub in_step : AreInStep w
    pub configured : IsConfigured w
    pub fit : AreFit w.world.chain
    pub joins : JoinsAsNew about w
    pub time : AreInTime w
    pub none : NoImpostor w
    pub past : All (IsPast w) w.outside

  pub rests_hold : (w : Managed S) → IsAtRest w → AreOnDisks about w.world → AreDated about w → NoImpostor w → Holds w
  rests_hold w rests on dated none = record {
    in_step = rests_in_step w rests;
    configured = rests_configured w rests;
    fit = λ k d within. let (some, sizes) = on k d within in (some, sizes, dated.members k d within);
    joins = λ store is. let clash : None ≡ Some store = sym rests.alone ∙ is in absurd (cc);
    time = λ r stands seat m here. elim stands [
      | inl is ↦
          let le = all_at (λ (x : Member). x.incarnation ≤ w.world.chain.recorded.epoch) w.world.chain.recorded.members seat m dated.recorded (ap (λ (x : Record). slice_get x.members seat) (sym is) ∙ here) in
          let e = ap (λ (x : Record). x.epoch) is in
          (omega (arith, le, e), λ later. absurd (omega (arith, le, later)))
      | inr is ↦ let clash : None ≡ Some r = sym rests.idle ∙ is in absurd (cc)
    ];
    none = none;
    past = λ k d within bytes left meaning means. inl (dated.outside k d within bytes left meaning means);
  }

  pub on_disks : (w : Managed S) → Holds w → AreOnDisks about w.world
  on_disks w holds = λ k d within. let (some, sizes, le) = holds.fit k d within in (some, sizes)

  pub dated_members : (w : Managed S) → Holds w → All (λ m. (about m.node.store).incarnation ≤ w.world.chain.recorded.epoch) w.world.chain.members
  dated_members w holds = λ k d within. let (some, sizes, le) = holds.fit k d within in le

  -- ---- the chain's records stay

  module _ (old new : Managed S) (was : Holds old) where
    -- who joins does so still
    newcomer_stays : new.world.joiner ≡ old.world.joiner → (old.candidate ≡ Counted → new.candidate ≡ Counted) → new.world.chain.geometry ≡ old.world.chain.geometry → new.world.chain.recorded ≡ old.world.chain.recorded
        → new.world.chain.writing ≡ old.world.chain.writing → JoinsAsNew about new
    newcomer_stays joiner candidate geometry recorded writing = λ store is.
        let it = was.joins store (sym joiner ∙ is) in
        record {
          counted = candidate it.counted;
          incarnation = it.incarnation ∙ ap (λ (r : Record). suc r.epoch) (sym recorded);
          writing = λ next written. let follows = it.writing next (sym writing ∙ written) in record {
            sizes = follows.sizes ∙ sym geometry;
            epoch = follows.epoch ∙ ap (λ (r : Record). suc r.epoch) (sym recorded);
            incarnation = follows.incarnation;
            members = follows.members ∙ ap (λ (r : Record). r.members ++ recorded_in about store ∷ []) (sym recorded);
          };
        }

  module _ (old new : Managed S) (same : new.outside ≡ old.outside) (was : Holds old) where
    -- what a chain of the same records keeps
    hold_so : StayOwn about old.world.chain new.world.chain → JoinsAsNew about new → AreInStep new → IsConfigured new → (old.candidate ≡ Counted → new.candidate ≡ Counted) → (Waits old → Waits new) → Holds new
    hold_so stay joins in_step configured counted waits =
        let grows = grows_still old new stay.recorded stay.writing in
        record {
          in_step = in_step;
          configured = configured;
          fit = fit_still old.world.chain new.world.chain stay.geometry stay.owners grows.epoch was.fit;
          joins = joins;
          time = in_time_still old new stay.recorded stay.writing counted was.time;
          none = none_still old new grows same was.past was.none;
          past = past_still old new grows same was.past (λ w. inr (ap (λ (r : Record). r.epoch) stay.recorded, waits w));
        }

    hold_led : StayOwn about old.world.chain new.world.chain → new.management ≡ old.management → new.world.joiner ≡ old.world.joiner → StaysKnown old.candidate new.candidate → Holds new
    hold_led stay management joiner known =
        hold_so stay (newcomer_stays old new was joiner known.0 stay.geometry stay.recorded stay.writing) (still_in_step old new stay.recorded stay.writing (ap (λ m. m.manager) management) was.in_step)
        (same_chain old new was.configured stay.recorded stay.writing (ap (λ m. m.config) management) (ap (λ m. m.disk) management)) known.0 (waits_still old new (ap (λ m. m.manager) management) known.1)

    -- nothing changed
    pub hold_same : IsSame old new → StaysKnown old.candidate new.candidate → Holds new
    hold_same (world, management) known = hold_led (stay_same about old.world.chain new.world.chain (ap (λ w. w.chain) world)) management (ap (λ w. w.joiner) world) known

    -- an order may be carried out that isn't the record's
    hold_ordered : IsLed about old new → Holds new
    hold_ordered led = elim led.leads [
      | inl still ↦
          hold_so led.stay (newcomer_stays old new was led.joiner led.counted led.stay.geometry led.stay.recorded led.stay.writing)
          (still_in_step old new led.stay.recorded led.stay.writing (ap (λ m. m.manager) still) was.in_step)
          (same_chain old new was.configured led.stay.recorded led.stay.writing (ap (λ m. m.config) still) (ap (λ m. m.disk) still)) led.counted led.waits
      | inr (done, isnt) ↦
          hold_so led.stay (newcomer_stays old new was led.joiner led.counted led.stay.geometry led.stay.recorded led.stay.writing)
          (led_in_step old new led.stay.recorded led.stay.writing (inr (ap (λ m. m.manager) done, isnt)) was.in_step)
          (same_chain old new was.configured led.stay.recorded led.stay.writing (ap (λ m. m.config) done) (ap (λ m. m.disk) done)) led.counted led.waits
    ]

  -- ---- the manager

  -- a member is told: its store stays
  told_stays : (at : ℕ) (old new : Chained S) (replies : List GivenReply) → IsToldAt at old new replies ⊎ HaltsAt at old new replies → StayOwn about old new
  told_stays at old new replies (inl is) = record {
    geometry = ap (λ c. c.geometry) is.are;
    recorded = ap (λ c. c.recorded) is.are;
    writing = ap (λ c. c.writing) is.are;
    owners = ap (λ c. map (own_of about) c.members) is.are
        ∙ map_set (own_of about) old.members at is.before (record is.before { node = record { store = is.before.node.store; state = is.stepped.node } }) is.here refl;
  }
  told_stays at old new replies (inr is) = record {
    geometry = ap (λ c. c.geometry) is.are;
    recorded = ap (λ c. c.recorded) is.are;
    writing = ap (λ c. c.writing) is.are;
    owners = ap (λ c. map (own_of about) c.members) is.are
        ∙ map_set (own_of about) old.members at is.before (record is.before { node = record { store = is.before.node.store; state = (stop Memory is.before.node.state).node } }) is.here refl;
  }

  slot_stays : (slot : ℕ) (told : Told) (old new : Seen S) → TellsSlot slot told old new → StayOwn about old.chain new.chain
  slot_stays slot told old new (inl (at, there, answers)) = told_stays at old.chain new.chain answers.replies answers.did
  slot_stays slot told old new (inr (inl (at, refusal, there, moves, whole, none))) = stay_same about old.chain new.chain moves.did.same
  slot_stays slot told old new (inr (inr (nobody, same, whole, none))) = stay_same about old.chain new.chain (ap (λ w. w.chain) same)

  slot_joined : (slot : ℕ) (told : Told) (old new : Seen S) → TellsSlot slot told old new → StaysJoined old new
  slot_joined slot told old new (inl (at, there, answers)) = ap (λ w. w.joiner) answers.are
  slot_joined slot told old new (inr (inl (at, refusal, there, moves, whole, none))) = ap (λ w. w.joiner) moves.are
  slot_joined slot told old new (inr (inr (nobody, same, whole, none))) = ap (λ w. w.joiner) same

  -- the joining is abandoned: nobody joins then, and what was left of its disks is of the next epoch
  abandons_aside : (may_leave_now : S → List ℕ → Type 0) (old new : Managed S) → Holds old → Abandons about may_leave_now (Ok tt) old new → Holds new
  abandons_aside may_leave_now old new was is =
      let aside = is.aside in
      let stay = given_up about aside.store old.world new.world aside.given_up in
      let epoch : suc new.world.chain.recorded.epoch ≡ suc old.world.chain.recorded.epoch = ap (λ (r : Record). suc r.epoch) stay.recorded in
      let manager = ap (λ m. m.manager) is.done in
      let none = not_writing old (is.ok refl) was.in_step in
      let grows = grows_still old new stay.recorded stay.writing in
      let time = in_time_alone old new stay.recorded (stay.writing ∙ none) was.time in
      let waits : Waits new = record { manager = abandoned_waiting old.management.manager new.management.manager manager (is.ok refl); nobody = is.nobody } in
      let uncounted : new.candidate ≡ Counted → ⊥ = λ counted. not_nobody new.candidate counted is.nobody in
      let one = option_to_list aside.on_its_way in
      let two = option_to_list aside.joined in
      let is_next : (d : SlotDisk MemDisk) → IsOfNext (suc old.world.chain.recorded.epoch) d → IsOfNext (suc new.world.chain.recorded.epoch) d = λ d next. subst (λ n. IsOfNext n d) (sym epoch) next in
      let first = aside_next about may_leave_now (suc old.world.chain.recorded.epoch) old.candidate aside.on_its_way aside.set_aside in
      let other = store_next about may_leave_now (suc old.world.chain.recorded.epoch) aside.store aside.joined aside.left in
      record {
        in_step = abandoned_in_step old new stay.recorded stay.writing manager (is.ok refl) was.in_step;
        configured = same_chain old new was.configured stay.recorded stay.writing (ap (λ m. m.config) is.done) (ap (λ m. m.disk) is.done);
        fit = fit_still old.world.chain new.world.chain stay.geometry stay.owners grows.epoch was.fit;
        joins = λ store there. let clash : None ≡ Some store = sym (nobody aside.store aside.given_up none) ∙ there in absurd (cc);
        time = time;
        none = subst (All (IsNone new)) (sym aside.are)
            (All-append (IsNone new) (old.outside ++ one) two
            (All-append (IsNone new) old.outside one
            (λ k d within. one_none old new grows (get_or old.outside k d) (was.past k d within) (was.none k d within))
            (λ k d within. next_is_none new time uncounted (get_or one k d) (is_next (get_or one k d) (first k d within))))
            (λ k d within. next_is_none new time uncounted (get_or two k d) (is_next (get_or two k d) (other k d within))));
        past = subst (All (IsPast new)) (sym aside.are)
            (All-append (IsPast new) (old.outside ++ one) two
            (All-append (IsPast new) old.outside one
            (λ k d within bytes left meaning means. elim (was.past k d within bytes left meaning means) [
              | inl le ↦ inl (omega (arith, le, epoch))
              | inr (next, still) ↦ absurd (waiting_alone old.management.manager (is.ok refl) still.manager)
            ])
            (λ k d within bytes left meaning means. inr (is_next (get_or one k d) (first k d within) bytes left meaning means, waits)))
            (λ k d within bytes left meaning means. inr (is_next (get_or two k d) (other k d within) bytes left meaning means, waits)));
      }
    where
      nobody : (store : Option S) → GivesUp store old.world new.world → old.world.chain.writing ≡ None → new.world.joiner ≡ None
      nobody (Some store) did none = ap (λ w. w.joiner) did.are
      nobody None (kept, still) none = elim kept [
        | inl writes ↦ absurd (writes none)
        | inr alone ↦ ap (λ w. w.joiner) still ∙ alone
      ]

  abandons_hold : (may_leave_now : S → List ℕ → Type 0) (given : Result (Unit {0}) manager.Refusal) (old new : Managed S) → Holds old → Abandons about may_leave_now given old new → Holds new
  abandons_hold may_leave_now (Ok tt) old new was is = abandons_aside may_leave_now old new was is
  abandons_hold may_leave_now (Err e) old new was is = hold_same old new is.outside was is.unchanged.0 (known_still old.candidate new.candidate is.unchanged.1)

  module _ (old new : Managed S) (same : new.outside ≡ old.outside) (was : Holds old) where
    -- the manager alone changes
    manager_changes : new.world ≡ old.world → new.candidate ≡ old.candidate → AreInStep new → IsConfigured new → (IsWaiting old.management.manager → IsWaiting new.management.manager) → Holds new
    manager_changes world candidate in_step configured waiting =
        hold_so old new same was (stay_same about old.world.chain new.world.chain (ap (λ w. w.chain) world))
        (newcomer_stays old new was (ap (λ w. w.joiner) world) (λ counted. candidate ∙ counted) (ap (λ w. w.chain.geometry) world) (ap (λ w. w.chain.recorded) world) (ap (λ w. w.chain.writing) world)) in_step configured
        (λ counted. candidate ∙ counted) (λ w. record { manager = waiting w.manager; nobody = candidate ∙ w.nobody })

    removes_hold : (slot : ℕ) (given : Result (Unit {0}) manager.Refusal) → Removes slot given old new → Holds new
    removes_hold slot given is = manager_changes is.world is.candidate (removes_in_step slot given old new is was.in_step) (removes_configured slot given old new is was.configured) (removes_waiting slot given old new is was.in_step)

    joins_hold : (slot : ℕ) (given : Result (Unit {0}) manager.Refusal) → Joins slot given old new → Holds new
    joins_hold slot given is =
        manager_changes is.world is.candidate (joins_in_step slot given old new is was.in_step)
        (elim (either_so given new.management _ _ is.done is.only_noted) [
          | inl are ↦ same_chain old new was.configured (ap (λ w. w.chain.recorded) is.world) (ap (λ w. w.chain.writing) is.world) (ap (λ m. m.config) are) (ap (λ m. m.disk) are)
          | inr noted ↦ same_chain old new was.configured (ap (λ w. w.chain.recorded) is.world) (ap (λ w. w.chain.writing) is.world) (ap (λ m. m.config) noted) (ap (λ m. m.disk) noted)
        ]) (joins_waiting slot given old new is was.in_step)

    -- a removed member is forgotten: the others have what they had
    forgets_hold : (at : ℕ) (done : Bool) → Forgets at done old new → Holds new
    forgets_hold at true is =
        let (store, may, did) = (is.forgotten refl).1 in
        let chain = did.forgotten.are in
        let recorded : new.world.chain.recorded ≡ old.world.chain.recorded = ap (λ c. c.recorded) chain in
        let writing : new.world.chain.writing ≡ old.world.chain.writing = ap (λ c. c.writing) chain in
        let geometry : new.world.chain.geometry ≡ old.world.chain.geometry = ap (λ c. c.geometry) chain in
        let grows = grows_still old new recorded writing in
        let counted : old.candidate ≡ Counted → new.candidate ≡ Counted = λ counted. is.candidate ∙ counted in
        record {
          in_step = still_in_step old new recorded writing (ap (λ m. m.manager) is.management) was.in_step;
          configured = same_chain old new was.configured recorded writing (ap (λ m. m.config) is.management) (ap (λ m. m.disk) is.management);
          fit = subst AreFit (sym chain) (all_left (λ m. IsFit old.world.chain.geometry old.world.chain.recorded.epoch (own_of about m)) old.world.chain.members at was.fit);
          joins = newcomer_stays old new was (ap (λ w. w.joiner) did.are) counted geometry recorded writing;
          time = in_time_still old new recorded writing counted was.time;
          none = none_still old new grows same was.past was.none;
          past = past_still old new grows same was.past (λ w. inr (ap (λ (r : Record). r.epoch) recorded, waits_still old new (ap (λ m. m.manager) is.management) (λ nobody. is.candidate ∙ nobody) w));
        }
    forgets_hold at false is = hold_same old new same was ((is.idle refl).1, is.management) (known_still old.candidate new.candidate is.candidate)

    -- the disk is counted: it joins
    counts_in_hold : (done : Bool) → Counts about done old.candidate new.candidate old.management new.management old.world new.world → Holds new
    counts_in_hold true is =
        let (w, before, now, incarnation, did) = is.counted refl in
        let chain = did.joined.counted in
        let stay : StayOwn about old.world.chain new.world.chain = record {
          geometry = ap (λ c. c.geometry) chain;
          owners = ap (λ c. map (own_of about) c.members) chain;
          recorded = ap (λ c. c.recorded) chain;
          writing = ap (λ c. c.writing) chain;
        } in
        hold_so old new same was stay
        (λ store is.
        let it : w.store ≡ store = same_Some w.store store (sym (ap (λ x. x.joiner) did.joined.are) ∙ is) in
        record {
          counted = now;
          incarnation = subst (λ s. (about s).incarnation ≡ suc new.world.chain.recorded.epoch) it (incarnation ∙ ap (λ (r : Record). suc r.epoch) (sym stay.recorded));
          writing = λ next written. let clash : None ≡ Some next = sym did.may.1.settled.none ∙ sym stay.writing ∙ written in absurd (cc);
        })
        (led_in_step old new stay.recorded stay.writing (inr (ap (λ m. m.manager) did.are, ap is_record did.due)) was.in_step)
        (same_chain old new was.configured stay.recorded stay.writing (ap (λ m. m.config) did.are) (ap (λ m. m.disk) did.are))
        (λ counted. now) (waits_for old new (orders.CountIn _) did.due refl)
    counts_in_hold false is = let (why, stays) = is.idle refl in hold_same old new same was (stays.same, stays.management) (known_still old.candidate new.candidate stays.candidate)

    -- ---- the record

    begins_hold : (given : Result Bool AllocError) → BeginsNext about given old new → Holds new
    begins_hold given is = by given is
      where
        in_step : AreInStep new
        in_step = next_begins_in_step about given old new is was.in_step

        configured : IsConfigured new
        configured = next_begins_configured about given old new is was.configured

        begun : (next : Record) → next.epoch ≡ suc old.world.chain.recorded.epoch → new.world.chain ≡ record old.world.chain { writing = Some next } → new.management.manager ≡ begun_of old.management.manager → new.candidate ≡ old.candidate
            → ((seat : ℕ) (m : Member) → slice_get next.members seat ≡ Some m → ((m.incarnation ≡ suc old.world.chain.recorded.epoch) × (old.candidate ≡ Counted)) ⊎ ((k : ℕ) × (slice_get old.world.chain.recorded.members k ≡ Some m)))
            → JoinsAsNew about new → Holds new
        begun next epoch chain manager candidate each joins =
            let grows = grows_begun old new next chain each in
            record {
              in_step = in_step;
              configured = configured;
              fit = fit_still old.world.chain new.world.chain (ap (λ c. c.geometry) chain) (ap (λ c. map (own_of about) c.members) chain) grows.epoch was.fit;
              joins = joins;
              time = in_time_begun old new next chain each epoch (λ counted. candidate ∙ counted) was.time;
              none = none_still old new grows same was.past was.none;
              past = past_still old new grows same was.past
                  (λ w. inr (ap (λ c. c.recorded.epoch) chain, record { manager = begun_waiting old.management.manager new.management.manager manager w.manager; nobody = candidate ∙ w.nobody }));
            }

        by : (given : Result Bool AllocError) → BeginsNext about given old new → Holds new
        by (Ok true) (inl (counted, is)) =
            let did = is.begun refl in
            let chain = did.begun.begun in
            let (store, joined, may) = if_and old.world.joiner _ did.may in
            begun did.next may.0.epoch chain (ap (λ m. m.manager) did.are) is.candidate
            (λ seat m here. elim (with_one_there about store old.world.chain did.next may.0 seat m here) [ inl newer ↦ inl (newer, counted_is old.candidate counted) | inr there ↦ inr there ])
            (λ other there.
            let it : store ≡ other = same_Some store other (sym joined ∙ sym (ap (λ w. w.joiner) did.begun.are) ∙ there) in
            subst (IsNewcomer about new) it (record {
              counted = is.candidate ∙ counted_is old.candidate counted;
              incarnation = may.0.incarnation ∙ may.0.epoch ∙ ap (λ c. suc c.recorded.epoch) (sym chain);
              writing = λ next written.
                  let its : did.next ≡ next = same_Some did.next next (sym (ap (λ c. c.writing) chain) ∙ written) in
                  subst (IsWithOne about store new.world.chain) its (record {
                    sizes = may.0.sizes ∙ ap (λ c. c.geometry) (sym chain);
                    epoch = may.0.epoch ∙ ap (λ c. suc c.recorded.epoch) (sym chain);
                    incarnation = may.0.incarnation;
                    members = may.0.members ∙ ap (λ c. c.recorded.members ++ recorded_in about store ∷ []) (sym chain);
                  });
            }))
        by (Ok true) (inr (other, is)) =
            let did = is.begun refl in
            begun did.next did.moves.did.0.0.epoch did.moves.did.1 (ap (λ m. m.manager) did.are) is.candidate (λ seat m here. inr (next_there old.world.chain did.next did.moves.did.0.0 seat m here))
            (λ store there. absurd (not_counted old.candidate other (was.joins store (sym (ap (λ w. w.joiner) did.moves.are) ∙ there)).counted))
        by (Ok false) (inl (counted, is)) = hold_same old new same was (is.idle refl).1 (known_still old.candidate new.candidate is.candidate)
        by (Ok false) (inr (other, is)) = hold_same old new same was (is.idle refl).1 (known_still old.candidate new.candidate is.candidate)
        by (Err e) (inl (counted, is)) = hold_same old new same was is.err (known_still old.candidate new.candidate is.candidate)
        by (Err e) (inr (other, is)) = hold_same old new same was is.err (known_still old.candidate new.candidate is.candidate)

    -- the epoch of the record that is being written
    later : (next : Record) → old.world.chain.writing ≡ Some next → old.world.chain.recorded.epoch < next.epoch
    later next written = elim was.in_step.writing [
      | inl none ↦ let clash : None ≡ Some next = sym none ∙ written in absurd (cc)
      | inr (is, begun, due) ↦
          let e = ap (λ (r : Record). r.epoch) (same_Some (coming_record old.management.manager) next (sym is ∙ written)) in
          let at = ap (λ (r : Record). r.epoch) was.in_step.chain in
          omega (arith, e, at)
    ]

    ends_hold : (given : Result Bool config.Refusal) → EndsNext about given old new → Holds new
    ends_hold given is = by given is
      where
        in_step : AreInStep new
        in_step = next_ends_in_step about given old new is was.in_step

        configured : IsConfigured new
        configured = next_ends_configured about given old new is was.configured

        ended : (next : Record) → old.world.chain.writing ≡ Some next → new.world.chain.recorded ≡ next → new.world.chain.writing ≡ None → AreFit new.world.chain → JoinsAsNew about new → Holds new
        ended next written recorded none fit joins =
            let grows = grows_ended old new next written recorded none (later next written) in
            record {
              in_step = in_step;
              configured = configured;
              fit = fit;
              joins = joins;
              time = in_time_ended old new next written recorded none was.time;
              none = none_still old new grows same was.past was.none;
              past = past_still old new grows same was.past (λ w. inl (let e = ap (λ (r : Record). r.epoch) recorded in omega (arith, e, later next written)));
            }

        -- nothing of the world changed
        refused : new.world ≡ old.world → new.candidate ≡ old.candidate → new.management.manager ≡ old.management.manager → Holds new
        refused world candidate manager =
            hold_so old new same was (stay_same about old.world.chain new.world.chain (ap (λ w. w.chain) world))
            (newcomer_stays old new was (ap (λ w. w.joiner) world) (λ counted. candidate ∙ counted) (ap (λ w. w.chain.geometry) world) (ap (λ w. w.chain.recorded) world) (ap (λ w. w.chain.writing) world)) in_step configured
            (λ counted. candidate ∙ counted) (waits_still old new manager (λ nobody. candidate ∙ nobody))

        by : (given : Result Bool config.Refusal) → EndsNext about given old new → Holds new
        by (Ok true) (inl (counted, is)) =
            let did = (is.ended refl).0 in
            let joined = did.ended in
            let moved = joined.ended in
            let it = was.joins joined.store joined.joined in
            let follows = it.writing moved.next moved.begun in
            let chain = moved.are in
            let recorded : new.world.chain.recorded ≡ moved.next = ap (λ c. c.recorded) chain in
            let before = later moved.next moved.begun in
            let geometry : new.world.chain.geometry ≡ old.world.chain.geometry = ap (λ c. c.geometry) chain in
            let members = ap (λ c. c.members) chain in
            let epoch : new.world.chain.recorded.epoch ≡ (about joined.store).incarnation = ap (λ (r : Record). r.epoch) recorded ∙ sym follows.incarnation in
            let epochs = ap (λ (r : Record). r.epoch) recorded in
            ended moved.next moved.begun recorded (ap (λ c. c.writing) chain)
            (subst (All (λ m. IsFit new.world.chain.geometry new.world.chain.recorded.epoch (own_of about m))) (sym members)
            (All-append (λ m. IsFit new.world.chain.geometry new.world.chain.recorded.epoch (own_of about m)) old.world.chain.members (joined_of about old.world.chain.id moved.next joined.store ∷ [])
            (λ k d within. let (some, sizes, le) = was.fit k d within in (some, sizes ∙ sym geometry, omega (arith, le, before, epochs)))
            (All-cons (λ m. IsFit new.world.chain.geometry new.world.chain.recorded.epoch (own_of about m)) (joined_of about old.world.chain.id moved.next joined.store) []
            (omega (arith, it.incarnation), follows.sizes ∙ sym geometry, omega (arith, epoch))
            (All-nil (λ m. IsFit new.world.chain.geometry new.world.chain.recorded.epoch (own_of about m))))))
            (λ store there. let clash : None ≡ Some store = sym (ap (λ w. w.joiner) joined.are) ∙ there in absurd (cc))
        by (Ok true) (inr (other, is)) =
            let did = is.ended refl in
            let moved = did.moves.did.1 in
            let chain = moved.are in
            let recorded = ap (λ c. c.recorded) chain in
            let none = ap (λ c. c.writing) chain in
            let grows = grows_ended old new moved.next moved.begun recorded none (later moved.next moved.begun) in
            ended moved.next moved.begun recorded none (fit_still old.world.chain new.world.chain (ap (λ c. c.geometry) chain) (ap (λ c. map (own_of about) c.members) chain) grows.epoch was.fit)
            (λ store there. absurd (not_counted old.candidate other (was.joins store (sym (ap (λ w. w.joiner) did.moves.are) ∙ there)).counted))
        by (Ok false) (inl (counted, is)) = let (why, (all, candidate)) = is.idle refl in hold_same old new same was all (known_still old.candidate new.candidate candidate)
        by (Ok false) (inr (other, is)) = hold_same old new same was (is.idle refl).1 (known_still old.candidate new.candidate is.candidate)
        by (Err e) (inl (counted, is)) = refused is.world is.candidate is.manager
        by (Err e) (inr (other, is)) = refused is.world is.candidate is.manager

    counts_hold : (done : Bool) → CountsSlotOut done old new → Holds new
    counts_hold true is =
        let did = is.out refl in
        let chain = did.moves.did.1 in
        let stay : StayOwn about old.world.chain new.world.chain = record {
          geometry = ap (λ c. c.geometry) chain;
          owners = ap (λ c. map (own_of about) c.members) chain;
          recorded = ap (λ c. c.recorded) chain;
          writing = ap (λ c. c.writing) chain;
        } in
        hold_ordered old new same was (record { stay = stay; leads = inr (did.are, ap is_record did.due); joiner = ap (λ w. w.joiner) did.moves.are; counted = λ counted. is.candidate ∙ counted; waits = waits_for old new (orders.CountOut _) did.due refl })
    counts_hold false is = hold_same old new same was (is.idle refl).1 (known_still old.candidate new.candidate is.candidate)

    tells_hold : (given : Option Told) → TellsRecord given old new → Holds new
    tells_hold (Some told) is = hold_ordered old new same was (record {
      stay = slot_stays is.told.slot told old.world new.world is.told.tells;
      leads = inr (is.told.are, ap is_record is.told.due);
      joiner = slot_joined is.told.slot told old.world new.world is.told.tells;
      counted = λ counted. is.candidate ∙ counted;
      waits = waits_for old new (orders.Tell _) is.told.due refl;
    })
    tells_hold None is = hold_same old new same was is.idle.1 (known_still old.candidate new.candidate is.candidate)

  -- ---- deeds

  module _ (premise : Type 0) (keeps : S → List ℕ → Type 0) (is_pending : S → ℕ → Type 0) (may_leave_now : S → List ℕ → Type 0) (moment : S → ℕ) (left_since : S → ℕ → List ℕ → Type 0) (failures : S → ℕ) (disk : S → MemDisk) where
    manages_hold : (act : ManagerAct) (answer : Answer) (old new : Managed S) → (is_abandon act ≡ false → new.outside ≡ old.outside) → Manages premise about keeps is_pending may_leave_now moment left_since failures act answer old new → Holds old → Holds new
    manages_hold (manages.Remove slot) answer old new same (given, tells, did) was = removes_hold old new (same refl) was slot given did
    manages_hold (manages.Join slot) answer old new same (given, tells, did) was = joins_hold old new (same refl) was slot given did
    manages_hold (manages.Forget at) answer old new same (done, tells, did) was = forgets_hold old new (same refl) was at done did
    manages_hold (manages.Attach event) answer old new same (given, tells, did) was = hold_ordered old new (same refl) was (attaches_led about given old new did)
    manages_hold manages.Copy answer old new same (given, tells, did) was = hold_ordered old new (same refl) was (copies_led about premise keeps is_pending may_leave_now moment left_since failures given old new did)
    manages_hold manages.Hold answer old new same (given, tells, did) was = hold_ordered old new (same refl) was (holds_led about given old new did)
    manages_hold manages.Rest answer old new same (given, tells, did) was = hold_ordered old new (same refl) was (rests_led about premise keeps is_pending may_leave_now moment left_since failures given old new did)
    manages_hold manages.CountIn answer old new same (done, tells, did) was = counts_in_hold old new (same refl) was done did
    manages_hold manages.Abandon answer old new same (given, tells, did) was = abandons_hold may_leave_now given old new was did
    manages_hold manages.BeginRecord answer old new same (given, tells, did) was = begins_hold old new (same refl) was given did
    manages_hold manages.EndRecord answer old new same (given, tells, did) was = ends_hold old new (same refl) was given did
    manages_hold manages.CountOut answer old new same (done, tells, did) was = counts_hold old new (same refl) was done did
    manages_hold manages.Tell answer old new same (given, tells, did) was = tells_hold old new (same refl) was given did

    -- the script of the configuration's disk has one more event
    arms_hold : (event : Event) (given : Result (Unit {0}) AllocError) (old new : Managed S) → new.outside ≡ old.outside → ArmsConfig event given old new → Holds old → Holds new
    arms_hold event given old new same is was =
        manager_changes old new same was is.world is.candidate (still_in_step old new (ap (λ w. w.chain.recorded) is.world) (ap (λ w. w.chain.writing) is.world) is.manager was.in_step) (record {
          part = ap (λ (s : configs.State). s.pair.part) is.config ∙ was.configured.part;
          left = λ bytes left. subst (λ (c : Chained S). HoldsOne c (inside config_part bytes)) (sym (ap (λ w. w.chain) is.world)) (was.configured.left bytes (is.leaves bytes left));
          goes_on = elim was.configured.goes_on [
            | inl (broken, current) ↦ inl (ap (λ (s : configs.State). s.pair.broken) is.config ∙ broken, ap (λ (s : configs.State). s.current) is.config ∙ current ∙ sym (ap (λ w. w.chain.recorded) is.world))
            | inr (stand, settled) ↦ inr (
              subst (λ (c : Chained S). MayStand c new.management.config.current) (sym (ap (λ w. w.chain) is.world)) (subst (λ (s : configs.State). MayStand old.world.chain s.current) (sym is.config) stand),
              subst (λ (s : configs.State). IsSettledConfig s (given_of new.management.disk) (may_be_left new.management.disk)) (sym is.config)
                  (settled_still old.management.config old.management.disk new.management.disk is.stays.given is.leaves settled),
            )
          ];
        }) (λ waits. subst IsWaiting (sym is.manager) waits)

    does_hold : (deed : Deed) (answer : Answer) (old new : Managed S) → (is_abandoning deed ≡ false → new.outside ≡ old.outside) → DoesIt premise about keeps is_pending may_leave_now moment left_since failures disk deed answer old new → Holds old → Holds new
    does_hold (deeds.Step step) answer old new same (is, management, candidate) was =
        hold_led old new (same refl) was (does_stay about premise keeps is_pending may_leave_now moment left_since failures step answer old.world new.world is) management
        (does_joined about premise keeps is_pending may_leave_now moment left_since failures step answer old.world new.world is) (known_still old.candidate new.candidate candidate)
    does_hold (deeds.Manage act) answer old new same is was = manages_hold act answer old new same is was
    does_hold (deeds.Arm at event) answer old new same (is, management, candidate) was =
        hold_led old new (same refl) was
        (at_place about premise keeps is_pending may_leave_now moment left_since failures at answer old.world new.world _ is
        (λ (given, tells, did). stay_changed about at old.world.chain new.world.chain _ did.armed.did (λ m n so. ap own so.stays.tells))) management
        (joined_at_place at answer old.world new.world _ is (λ (given, tells, did). ap (λ w. w.joiner) did.armed.are)) (known_still old.candidate new.candidate candidate)
    does_hold (deeds.ArmConfig event) answer old new same (given, tells, is) was = arms_hold event given old new (same refl) is was

    deed_holds : (deed : Deed) (answer : Answer) (old new : Managed S) → DoesDeed premise about keeps is_pending may_leave_now moment left_since failures disk deed answer old new → Holds old → Holds new
    deed_holds deed answer old new is was =
        let same : new.outside ≡ is.unnoted.outside = ap (λ w. w.outside) is.same in
        hold_same is.unnoted new same (does_hold deed answer old is.unnoted (λ other. sym same ∙ is.outside_stay other) is.did was) (ap (λ w. w.world) is.same, ap (λ w. w.management) is.same)
        (noted_counted new.world.chain is.unnoted.candidate new.candidate is.noted, noted_nobody new.world.chain is.unnoted.candidate new.candidate is.noted)

    pub deeds_hold : (deeds : List Deed) (answers : List Answer) (old new : Managed S) → DeedsLead premise about keeps is_pending may_leave_now moment left_since failures disk deeds answers old new → Holds old → Holds new
    deeds_hold [] [] old new same was = subst Holds (sym same) was
    deeds_hold [] (a ∷ answers) old new leads was = absurd leads
    deeds_hold (d ∷ deeds) [] old new (answer, did, met) was = deed_holds d answer old new did was
    deeds_hold (d ∷ deeds) (a ∷ answers) old new (mid, did, runs, later) was = deeds_hold deeds answers mid new later (deed_holds d a old mid did was)

    -- ---- the sizes stay

    begins_sizes : (given : Result Bool AllocError) (old new : Managed S) → BeginsNext about given old new → new.world.chain.geometry ≡ old.world.chain.geometry
    begins_sizes (Ok true) old new (inl (counted, is)) = ap (λ c. c.geometry) (is.begun refl).begun.begun
    begins_sizes (Ok true) old new (inr (other, is)) = ap (λ c. c.geometry) (is.begun refl).moves.did.1
    begins_sizes (Ok false) old new (inl (counted, is)) = ap (λ w. w.chain.geometry) (is.idle refl).1.0
    begins_sizes (Ok false) old new (inr (other, is)) = ap (λ w. w.chain.geometry) (is.idle refl).1.0
    begins_sizes (Err e) old new (inl (counted, is)) = ap (λ w. w.chain.geometry) is.err.0
    begins_sizes (Err e) old new (inr (other, is)) = ap (λ w. w.chain.geometry) is.err.0

    ends_sizes : (given : Result Bool config.Refusal) (old new : Managed S) → EndsNext about given old new → new.world.chain.geometry ≡ old.world.chain.geometry
    ends_sizes (Ok true) old new (inl (counted, is)) = ap (λ c. c.geometry) (is.ended refl).0.ended.ended.are
    ends_sizes (Ok true) old new (inr (other, is)) = ap (λ c. c.geometry) (is.ended refl).moves.did.1.are
    ends_sizes (Ok false) old new (inl (counted, is)) = ap (λ w. w.chain.geometry) (is.idle refl).1.0.0
    ends_sizes (Ok false) old new (inr (other, is)) = ap (λ w. w.chain.geometry) (is.idle refl).1.0
    ends_sizes (Err e) old new (inl (counted, is)) = ap (λ w. w.chain.geometry) is.world
    ends_sizes (Err e) old new (inr (other, is)) = ap (λ w. w.chain.geometry) is.world

    counts_in_sizes : (done : Bool) (old new : Managed S) → Counts about done old.candidate new.candidate old.management new.management old.world new.world → new.world.chain.geometry ≡ old.world.chain.geometry
    counts_in_sizes true old new is = let (w, before, now, incarnation, did) = is.counted refl in ap (λ c. c.geometry) did.joined.counted
    counts_in_sizes false old new is = ap (λ w. w.chain.geometry) (is.idle refl).1.same

    abandons_sizes : (given : Result (Unit {0}) manager.Refusal) (old new : Managed S) → Abandons about may_leave_now given old new → new.world.chain.geometry ≡ old.world.chain.geometry
    abandons_sizes (Ok done) old new is = (given_up about is.aside.store old.world new.world is.aside.given_up).geometry
    abandons_sizes (Err e) old new is = ap (λ w. w.chain.geometry) is.unchanged.0.0

    forgets_sizes : (at : ℕ) (done : Bool) (old new : Managed S) → Forgets at done old new → new.world.chain.geometry ≡ old.world.chain.geometry
    forgets_sizes at true old new is = let (store, may, did) = (is.forgotten refl).1 in ap (λ c. c.geometry) did.forgotten.are
    forgets_sizes at false old new is = ap (λ w. w.chain.geometry) (is.idle refl).1

    counts_sizes : (done : Bool) (old new : Managed S) → CountsSlotOut done old new → new.world.chain.geometry ≡ old.world.chain.geometry
    counts_sizes true old new is = ap (λ c. c.geometry) (is.out refl).moves.did.1
    counts_sizes false old new is = ap (λ w. w.chain.geometry) (is.idle refl).1.0

    tells_sizes : (given : Option Told) (old new : Managed S) → TellsRecord given old new → new.world.chain.geometry ≡ old.world.chain.geometry
    tells_sizes (Some told) old new is = (slot_stays is.told.slot told old.world new.world is.told.tells).geometry
    tells_sizes None old new is = ap (λ w. w.chain.geometry) is.idle.1.0

    manages_sizes : (act : ManagerAct) (answer : Answer) (old new : Managed S) → Manages premise about keeps is_pending may_leave_now moment left_since failures act answer old new → new.world.chain.geometry ≡ old.world.chain.geometry
    manages_sizes (manages.Remove slot) answer old new (given, tells, did) = ap (λ w. w.chain.geometry) did.world
    manages_sizes (manages.Join slot) answer old new (given, tells, did) = ap (λ w. w.chain.geometry) did.world
    manages_sizes (manages.Forget at) answer old new (done, tells, did) = forgets_sizes at done old new did
    manages_sizes (manages.Attach event) answer old new (given, tells, did) = (attaches_led about given old new did).stay.geometry
    manages_sizes manages.Copy answer old new (given, tells, did) = (copies_led about premise keeps is_pending may_leave_now moment left_since failures given old new did).stay.geometry
    manages_sizes manages.Hold answer old new (given, tells, did) = (holds_led about given old new did).stay.geometry
    manages_sizes manages.Rest answer old new (given, tells, did) = (rests_led about premise keeps is_pending may_leave_now moment left_since failures given old new did).stay.geometry
    manages_sizes manages.CountIn answer old new (done, tells, did) = counts_in_sizes done old new did
    manages_sizes manages.Abandon answer old new (given, tells, did) = abandons_sizes given old new did
    manages_sizes manages.BeginRecord answer old new (given, tells, did) = begins_sizes given old new did
    manages_sizes manages.EndRecord answer old new (given, tells, did) = ends_sizes given old new did
    manages_sizes manages.CountOut answer old new (done, tells, did) = counts_sizes done old new did
    manages_sizes manages.Tell answer old new (given, tells, did) = tells_sizes given old new did

    pub does_sizes : (deed : Deed) (answer : Answer) (old new : Managed S) → DoesIt premise about keeps is_pending may_leave_now moment left_since failures disk deed answer old new → new.world.chain.geometry ≡ old.world.chain.geometry
    does_sizes (deeds.Step step) answer old new (is, management, candidate) = (does_stay about premise keeps is_pending may_leave_now moment left_since failures step answer old.world new.world is).geometry
    does_sizes (deeds.Manage act) answer old new is = manages_sizes act answer old new is
    does_sizes (deeds.Arm at event) answer old new (is, management, candidate) =
        (at_place about premise keeps is_pending may_leave_now moment left_since failures at answer old.world new.world _ is
        (λ (given, tells, did). stay_changed about at old.world.chain new.world.chain _ did.armed.did (λ m n so. ap own so.stays.tells))).geometry
    does_sizes (deeds.ArmConfig event) answer old new (given, tells, is) = ap (λ w. w.chain.geometry) is.world
