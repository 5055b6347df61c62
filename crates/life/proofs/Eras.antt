-- One era after another: lemmas.
use Rattle.std.proofs.Common.{◌≡◌, ℕ, List, [], ◌∷◌, ◌++◌, map, refl, ap, sym, subst, ◌∙◌, inl, inr}
use Rattle.std.specs.Prelude.{◌⊎◌, ◌*◌, All, None, Option, Some, slice_get, zip}
use Rattle.std.specs.List.{range_with_len}
use Rattle.std.specs.Option.{ForSome, option_to_list}
use Rattle.std.proofs.lemmas.List.Elements.{All-append, All-cons, All-nil}
use Rattle.disk_model.specs.Memory.{given_of}
use Rattle.disk_model.specs.declared.memory.MemDisk.{MemDisk}
use Rattle.flush_barrier.specs.declared.session_id.SessionId.{SessionId}
use Rattle.local_store.specs.About.{About, meaning_with}
use Rattle.local_store.specs.Meaning.{Meaning, Means}
use Rattle.nbd_session.specs.declared.answer.Export.{Export}
use Rattle.volume.specs.Writes.{volume_of}
use Rattle.volume.specs.declared.geometry.Geometry.{Geometry}
use Rattle.chain_model.specs.Chain.{StandsFor}
use Rattle.chain_model.specs.Laws.{FirstChain, IsOnEachDisk, RestartsChain, RestartsFromJoiner}
use Rattle.chain_model.specs.Life.{HappeningsAreOfOneVolume}
use Rattle.world_model.specs.Machine.{May, Restart, State, after, machine_volume, shown, start}
use Rattle.chain_model.specs.Refusing.{RefusalsHavePleas, StopsHaveCauses}
use Rattle.chain.specs.Chain.{bytes_of}
use Rattle.chain.specs.Member.{HasOwnDisk, Linked}
use Rattle.clients.specs.Clients.{AreSessions}
use Rattle.configurations.specs.Record.{Record}
use Rattle.clients.specs.Laws.{FirstHasNone, OutputsAreLawful}
use Rattle.world.specs.World.{IsJoined, Seen}
use Rattle.life.specs.Aside.{GrowsOutside}
use Rattle.life.specs.Begun.{BeginsWith, export_of, first_about, stores_of}
use Rattle.life.specs.Headline.{Agree, AreRefusedSo, EraLeads, ErasLead, HasDisk, HasWhatIsOwed, IsOneLife, first_record, owners_of}
use Rattle.life.specs.Lived.{AreOfOneVolume, IsFresh}
use Rattle.life.specs.Managed.{AreInStep, IsAtRest, IsConfigured, Managed, MayStand, NoImpostor}
use Rattle.life.specs.Plays.{DeedsLead, GoesOnFrom}
use Rattle.life.specs.declared.answer.Answer.{Answer}
use Rattle.life.specs.declared.era.Answers.{Answers}
use Rattle.life.specs.declared.era.Era.{Era}
use Rattle.life.proofs.Lives.{each_disk, era_lawful, exported_as, in_own, joiner_disk, may_be_in, recovers, recovers_joiner}
use Rattle.life.proofs.Passing.{goes_plays}
use Rattle.life.proofs.Pleas.{refused_so}
use Rattle.life.proofs.Places.{all_at, all_from}
use Rattle.life.proofs.Starting.{all_mapped}

module _ {S : Type 0} (premise : Type 0) (about : S → About) (keeps : S → List ℕ → Type 0) (is_pending : S → ℕ → Type 0) (may_leave_now : S → List ℕ → Type 0) (moment : S → ℕ)
    (left_since : S → ℕ → List ℕ → Type 0) (failures : S → ℕ) (disk : S → MemDisk) where
  abbrev Leads : Export → Era → List Answer → Managed S → State → Managed S → State → Type 0
  Leads = EraLeads premise about keeps is_pending may_leave_now moment left_since failures disk

  abbrev Lead : Export → List Era → List Answers → Managed S → State → Managed S → State → Type 0
  Lead = ErasLead premise about keeps is_pending may_leave_now moment left_since failures disk

  abbrev Fresh : Export → Seen S → State → Type 0
  Fresh export w s = IsFresh about keeps may_leave_now export.size export w s

  -- whatever a stop may leave of the member's disk has what is owed, if it may be recorded
  abbrev HasOwed : ℕ → State → Seen S → Linked S → Type 0
  HasOwed size s w m = (r : Record) → MayStand w.chain r → HasDisk r (about m.node.store) → (bytes : List ℕ) → may_leave_now m.node.store bytes → HasWhatIsOwed size s (about m.node.store) bytes

  -- so has that of who joins
  abbrev JoinerHasOwed : ℕ → State → Seen S → Type 0
  JoinerHasOwed size s w = ForSome w.joiner (λ store. (r : Record) → MayStand w.chain r → HasDisk r (about store) → (bytes : List ℕ) → may_leave_now store bytes → HasWhatIsOwed size s (about store) bytes)

  -- so has each of these
  abbrev AllHaveOwed : ℕ → State → Seen S → Type 0
  AllHaveOwed size s w = All (λ store. (r : Record) → MayStand w.chain r → HasDisk r (about store) → (bytes : List ℕ) → may_leave_now store bytes → HasWhatIsOwed size s (about store) bytes) (owners_of w)

  have_owed : (size : ℕ) (s : State) (w : Seen S) → All (HasOwed size s w) w.chain.members → JoinerHasOwed size s w → AllHaveOwed size s w
  have_owed size s w disks joiner =
      All-append Owes (stores_of w) (option_to_list w.joiner) (all_mapped Owes (λ m. m.node.store) w.chain.members disks) (of_joiner w.joiner joiner)
    where
      Owes : S → Type 0
      Owes store = (r : Record) → MayStand w.chain r → HasDisk r (about store) → (bytes : List ℕ) → may_leave_now store bytes → HasWhatIsOwed size s (about store) bytes

      of_joiner : (o : Option S) → ForSome o Owes → All Owes (option_to_list o)
      of_joiner None so = All-nil Owes
      of_joiner (Some store) so = All-cons Owes store [] (so store refl) (All-nil Owes)

  -- any two of them that mean one front mean the same volume
  agree_all : ((one other : Meaning) (bytes : List ℕ) → Means one bytes → Means other bytes → one ≡ other) → (size : ℕ) (s : State) (w : Seen S) → AllHaveOwed size s w
      → (r : Record) → MayStand w.chain r → All (λ one. All (Agree about may_leave_now r one) (owners_of w)) (owners_of w)
  agree_all one_meaning size s w have r stood = λ i d within j e inside one two x y x_left y_left m n m_means n_means same.
      let a = have i d within r stood one x x_left in
      let b = have j e inside r stood two y y_left in
      let first = one_meaning m _ x m_means a.means in
      let second = one_meaning n _ y n_means b.means in
      let front : a.front ≡ b.front = sym (ap (λ (k : Meaning). k.front) first) ∙ same ∙ ap (λ (k : Meaning). k.front) second in
      ap (λ (k : Meaning). k.volume) first ∙ ap (machine_volume size s) front ∙ sym (ap (λ (k : Meaning). k.volume) second)

  -- the disk that the chain went on from is a member's, or that of who joined
  abbrev pub IsSource : Managed S → (place : ℕ) → List ℕ → Type 0
  IsSource mid place bytes =
      ((m : Linked S) × (slice_get mid.world.chain.members place ≡ Some m) × may_leave_now m.node.store bytes) ⊎ ((store : S) × (mid.world.joiner ≡ Some store) × may_leave_now store bytes)

  -- an era whose deeds were played, behind which the chain goes on from a disk
  pub era_leads : HappeningsAreOfOneVolume → RefusalsHavePleas → StopsHaveCauses → RestartsChain → RestartsFromJoiner → ((store : S) (volume c : List ℕ) → keeps store volume → may_leave_now store c → Means (meaning_with (about store) volume) c) → IsOnEachDisk → FirstHasNone → OutputsAreLawful
      → ((one other : Meaning) (bytes : List ℕ) → Means one bytes → Means other bytes → one ≡ other)
      → (era : Era) (answers : List Answer) (dropped : SessionId → List ℕ) (old mid new : Managed S) → IsJoined old.world → IsJoined mid.world → AreSessions mid.world.sessions
      → All (HasOwnDisk about) mid.world.chain.members → IsConfigured mid → AreInStep mid
      → DeedsLead premise about keeps is_pending may_leave_now moment left_since failures disk era.deeds.items answers old mid
      → AreOfOneVolume about keeps may_leave_now (zip era.deeds.items answers) dropped old.world mid.world
      → (goes : GoesOnFrom about keeps may_leave_now disk era mid new) → IsSource mid goes.from.place (given_of goes.from.source.disk)
      → GrowsOutside old mid → NoImpostor mid
      → (export : Export) (s : State) → Fresh export old.world s → (t : State) × Leads export era answers old s new t × Fresh export new.world t
  era_leads happenings pleas causes restarts from_joiner means_now each_has first lawful one_meaning era answers dropped old mid new joined joined_then are owners configured in_step played pass goes source outside none export s fresh =
      let size : export.size ≡ bytes_of old.world.chain = ap (λ e. e.size) (sym fresh.has) ∙ joined.size in
      let stands = subst (λ n. StandsFor n fresh.view s) size fresh.stands in
      let turn = pass fresh.view s fresh.shows stands in
      let one = turn.happens in
      let plays = goes_plays happenings (bytes_of old.world.chain) fresh.view one.w one.events one.goes s stands in
      let stays : bytes_of mid.world.chain ≡ bytes_of old.world.chain = sym joined_then.size ∙ ap (λ e. e.size) one.remain.export ∙ joined.size in
      let stands_then = subst (λ n. StandsFor n one.w plays.1) (sym stays) plays.4 in
      let exported : mid.world.sessions.export ≡ export = one.remain.export ∙ fresh.has in
      let again : export_of mid.world.chain.geometry ≡ export = exported_as about keeps may_leave_now mid.world joined_then ∙ exported in
      let found = goes.from.recovers in
      let both : May plays.1 (Restart found.meaning.front) × IsFresh about keeps may_leave_now (bytes_of mid.world.chain) (export_of mid.world.chain.geometry) new.world (after plays.1 (Restart found.meaning.front)) = elim source [
        | inl (m, here, left) ↦
            recovers about keeps may_leave_now restarts mid.world one.w plays.1 goes.from.place m (given_of goes.from.source.disk) found.meaning new.world one_meaning one.shows stands_then here
            found.recorded goes.recorded.either found.has (all_at (HasOwnDisk about) mid.world.chain.members goes.from.place m owners here) left found.means (ap export_of goes.sizes) found.begins
        | inr (store, joined, left) ↦
            recovers_joiner about keeps may_leave_now from_joiner means_now mid.world one.w plays.1 store (given_of goes.from.source.disk) found.meaning new.world one_meaning one.shows stands_then joined left found.means (ap export_of goes.sizes) found.begins
      ] in
      let (may, later) = both in
      let disks = subst (λ n. All (HasOwed n plays.1 mid.world) mid.world.chain.members) (stays ∙ sym size)
      (all_from (HasOwed (bytes_of mid.world.chain) plays.1 mid.world) mid.world.chain.members
      (λ at x there r stood has bytes left. each_disk about keeps may_leave_now each_has mid.world one.w plays.1 one.shows stands_then at x there
      (may_be_in mid.world.chain x r stood (in_own about r x (all_at (HasOwnDisk about) mid.world.chain.members at x owners there) has)) bytes left)) in
      let joiner = subst (λ n. JoinerHasOwed n plays.1 mid.world) (stays ∙ sym size) (λ store joined r stood has bytes left. joiner_disk about keeps may_leave_now means_now mid.world one.w plays.1 one.shows stands_then store joined bytes left) in (
        after plays.1 (Restart found.meaning.front),
        record {
          end = mid;
          played = played;
          events = one.events;
          lawful = era_lawful about keeps may_leave_now old.world mid.world (zip era.deeds.items answers) dropped fresh.view export turn first lawful fresh.no_clients are fresh.has;
          moves = plays.0;
          state = plays.1;
          runs = plays.2;
          shows = subst (λ n. shown n s plays.0 ≡ one.events) (sym size) plays.3;
          refused = subst (λ n. AreRefusedSo about keeps may_leave_now n old.world s mid.world plays.1 one.events) (sym size)
              (refused_so about keeps may_leave_now pleas causes happenings old.world mid.world fresh.view one.w s plays.1 one.events fresh.shows one.shows stands plays.4 fresh.runs one.goes);
          in_step = in_step;
          config = configured.left;
          disks = disks;
          joiner = joiner;
          agree = λ r stood. agree_all one_meaning export.size plays.1 mid.world (have_owed export.size plays.1 mid.world disks joiner) r stood;
          outside = outside;
          no_impostor = none;
          goes_on = goes;
          may = may;
          restarts = refl;
        },
        subst (λ n. IsFresh about keeps may_leave_now n export new.world (after plays.1 (Restart found.meaning.front))) (stays ∙ sym size)
            (subst (λ e. IsFresh about keeps may_leave_now (bytes_of mid.world.chain) e new.world (after plays.1 (Restart found.meaning.front))) again later),
      )

  -- one era more
  pub eras_more : (export : Export) (eras : List Era) (answers : List Answers) (old : Managed S) (s : State) (mid : Managed S) (r : State) (new : Managed S) (t : State) (era : Era) (these : Answers)
      → Lead export eras answers old s mid r → Leads export era these.items.items mid r new t → Lead export (eras ++ era ∷ []) (answers ++ these ∷ []) old s new t
  eras_more export [] [] old s mid r new t era these (same, stays) did =
      (new, t, subst (λ w. Leads export era these.items.items w s new t) same (subst (λ x. Leads export era these.items.items mid x new t) stays did), (refl, refl))
  eras_more export [] (a ∷ answers) old s mid r new t era these leads did = absurd leads
  eras_more export (e ∷ eras) [] old s mid r new t era these leads did = absurd leads
  eras_more export (e ∷ eras) (a ∷ answers) old s mid r new t era these (next, between, one, later) did = (next, between, one, eras_more export eras answers next between mid r new t era these later did)

  -- the world that a life begins with stands for the machine before anything happened
  pub first_fresh : FirstChain → (geometry : Geometry) (w : Seen S) → BeginsWith about keeps may_leave_now geometry 0 (volume_of (4096 * geometry.blocks) []) w → Fresh (export_of geometry) w start
  first_fresh first geometry w begun = record {
    view = begun.view;
    shows = begun.shows;
    stands = first (4096 * geometry.blocks) begun.view begun.begins;
    no_clients = begun.no_clients;
    has = begun.export;
    runs = begun.runs;
  }

  pub one_life : (geometry : Geometry) (members : ℕ) (eras : List Era) (answers : List Answers) (first w : Managed S) (t : State) → map about (stores_of first.world) ≡ map (first_about geometry) (range_with_len 0 members)
      → BeginsWith about keeps may_leave_now geometry 0 (volume_of (4096 * geometry.blocks) []) first.world → first.world.chain.recorded ≡ first_record members → IsAtRest first → first.outside ≡ []
      → Lead (export_of geometry) eras answers first start w t → Fresh (export_of geometry) w.world t
      → IsOneLife premise about keeps is_pending may_leave_now moment left_since failures disk geometry members eras answers w
  one_life geometry members eras answers first w t slots begins recorded rests nobody leads fresh = record {
    first = first;
    slots = slots;
    begins = begins;
    recorded = recorded;
    rests = rests;
    nobody_outside = nobody;
    end = t;
    leads = leads;
    view = fresh.view;
    shows = fresh.shows;
    stands = fresh.stands;
  }
