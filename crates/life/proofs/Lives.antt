-- One deed after another, and one era after another: lemmas.
use Rattle.std.proofs.Common.{◌≡◌, ℕ, ◌≤◌, Bool, true, false, List, [], ◌∷◌, ◌++◌, length, take, ltb, refl, ap, sym, subst, ◌∙◌, inl, inr, arith}
use Rattle.std.specs.Prelude.{◌||◌, ◌==◌, All, None, Option, Some, fold, get_or, slice_get, zip}
use Rattle.std.specs.List.{AllZip}
use Rattle.std.proofs.lemmas.Bool.{eqb-true, ltb-false, ltb-true, or_right}
use Rattle.std.proofs.lemmas.Grind.{flat_map-append}
use Rattle.std.proofs.lemmas.List.{append_assoc, append-nil, length-append, take-append-le, take_all}
use Rattle.std.proofs.lemmas.List.Quantifiers.{position-Some}
use Rattle.flush_barrier.specs.declared.session_id.SessionId.{SessionId}
use Rattle.local_store.specs.About.{About, meaning_with}
use Rattle.local_store.specs.Meaning.{Meaning, Means}
use Rattle.nbd_session.specs.Demand.{Asked}
use Rattle.nbd_session.specs.Lawful.{History, IsLawful, nothing}
use Rattle.nbd_session.specs.Replies.{WireReply}
use Rattle.nbd_session.specs.declared.answer.Export.{Export}
use Rattle.version_table.specs.Held.{writes_upto}
use Rattle.volume.specs.Writes.{patched}
use Rattle.chain_steps.specs.Node.{NodeState}
use Rattle.chain_steps.specs.Steps.{volume_at}
use Rattle.chain_model.specs.Chain.{StandsFor}
use Rattle.chain_model.specs.View.{View, is_in, is_in_some, may_be_recorded}
use Rattle.chain_model.specs.Laws.{IsBeginning, IsOnEachDisk, RestartsChain, RestartsFromJoiner, with_members}
use Rattle.world_model.specs.Event.{ClientEvent}
use Rattle.world_model.specs.Life.{all_events}
use Rattle.chain_model.specs.Life.{HappeningsAreOfOneVolume}
use Rattle.world_model.specs.Machine.{May, Restart, State, after, machine_volume}
use Rattle.candidate.specs.Copies.{HasCopy}
use Rattle.candidate.specs.declared.candidate.Candidate.TheVariants.{Nobody}
use Rattle.disk_model.specs.Memory.{given_of, may_be_left}
use Rattle.chain.specs.Chain.{Chained, bytes_of}
use Rattle.chain.specs.Member.{HasOwnDisk, IsShown, Linked}
use Rattle.chain.proofs.Cells.{place_of as cell_of, twin_of}
use Rattle.clients.specs.Clients.{AllGo, AreSessions, Client, Extends, IsOf, Sessions, no_one, place_of, replies_in}
use Rattle.configurations.specs.Record.{Record}
use Rattle.clients.specs.Laws.{FirstHasNone, IsLawfulFor, OutputsAreLawful}
use Rattle.clients.proofs.Places.{same_id}
use Rattle.world.specs.World.{HappensSo, IsJoined, Seen, Shows}
use Rattle.life.specs.Begun.{BeginsWith, export_of}
use Rattle.life.specs.Headline.{Fit, HasDisk, HasWhatIsOwed, IsLawfulEra, IsLawfulSession, Trace, fed_in, handed_in}
use Rattle.life.specs.Lived.{AreOfOneVolume, HappenInTurn, HappenedUntil, HasCopyIn, IsFresh, IsOfOneVolumeIn, KeepsCopyIn}
use Rattle.life.specs.Managed.{Managed, MayStand}
use Rattle.life.specs.Recovered.{HasMember}
use Rattle.life.proofs.Newcomers.{joiner_shown}
use Rattle.life.proofs.Passing.{goes_plays, happens_as, happens_then, none_happens, size_stays}
use Rattle.life.specs.Played.{fed_by, handed_by}
use Rattle.life.specs.declared.answer.Answer.{Answer}
use Rattle.life.specs.declared.era.Deed.{Deed}

-- ---- lists

pub zip_more : {A B : Type 0} (xs : List A) (ys : List B) (x : A) (y : B) → length ys ≡ length xs → zip (xs ++ x ∷ []) (ys ++ y ∷ []) ≡ zip xs ys ++ (x, y) ∷ []
zip_more [] [] x y same = refl
zip_more [] (b ∷ ys) x y same = absurd (omega (arith, same))
zip_more (a ∷ xs) [] x y same = absurd (omega (arith, same))
zip_more (a ∷ xs) (b ∷ ys) x y same = ap (λ l. (a, b) ∷ l) (zip_more xs ys x y (omega (arith, same)))

zip_none : {A B : Type 0} (xs : List A) (ys : List B) → ys ≡ [] → zip xs ys ≡ []
zip_none [] ys none = refl
zip_none (x ∷ xs) [] none = refl
zip_none (x ∷ xs) (y ∷ ys) none = absurd (cc)

-- what has no partner doesn't count
pub zip_less : {A B : Type 0} (xs : List A) (ys : List B) (more : List A) → length ys ≡ length xs → zip (xs ++ more) ys ≡ zip xs ys
zip_less [] [] more same = zip_none more [] refl
zip_less [] (b ∷ ys) more same = absurd (omega (arith, same))
zip_less (a ∷ xs) [] more same = absurd (omega (arith, same))
zip_less (a ∷ xs) (b ∷ ys) more same = ap (λ l. (a, b) ∷ l) (zip_less xs ys more (omega (arith, same)))

-- what each list has, of one list more
pub events_more : (each : List (List ClientEvent)) (one : List ClientEvent) → all_events (each ++ one ∷ []) ≡ all_events each ++ one
events_more [] one = append-nil one
events_more (e ∷ each) one = ap (λ l. e ++ l) (events_more each one) ∙ sym (append_assoc e (all_events each) one)

-- ---- an era of sessions

-- no session was there before
none_before : (histories : SessionId → History) → AllGo [] histories → (id : SessionId) → histories id ≡ nothing
none_before histories all id = all.none id refl

first_none : (xs ys : List ℕ) → xs ++ ys ≡ [] → xs ≡ []
first_none [] ys none = refl
first_none (x ∷ xs) ys none = absurd (cc)

-- what went out to each session is lawful
lawful_in : (sessions : Sessions) (later : SessionId → History) → OutputsAreLawful → AllGo sessions.clients later → AreSessions sessions
    → (id : SessionId) → IsLawfulSession sessions.export (later id).fed (later id).handed (later id).asked (later id).replies
lawful_in sessions later lawful all are id = by_place (place_of id sessions.clients) refl
  where
    at_place : (cs : List Client) (place : ℕ) → place_of id cs ≡ Some place → All (λ client. IsLawfulFor client (later client.session.id)) cs → All (IsOf sessions.board sessions.export) cs
        → IsLawfulSession sessions.export (later id).fed (later id).handed (later id).asked (later id).replies
    at_place [] place there out own = let none : None ≡ Some place = there in absurd (cc)
    at_place (c ∷ cs) place there out own =
        let (within, passes, others) = position-Some (λ (client : Client). client.session.id.0 == id.0) (c ∷ cs) place c there in
        let client = get_or (c ∷ cs) place c in
        let same : client.session.id ≡ id = same_id client.session.id id (eqb-true client.session.id.0 id.0 passes) in
        let is = subst (λ i. IsLawfulFor client (later i)) same (out place c within) in
        inl (client.session.output, subst (λ e. IsLawful e (later id).fed ((later id).handed ++ client.session.output) (later id).asked (later id).replies) (own place c within).own_export is)

    by_place : (place : Option ℕ) → place_of id sessions.clients ≡ place → IsLawfulSession sessions.export (later id).fed (later id).handed (later id).asked (later id).replies
    by_place None none =
        let is = all.none id none in
        inr (ap (λ h. h.fed) is, ap (λ h. h.handed) is, ap (λ h. h.asked) is, ap (λ h. h.replies) is)
    by_place (Some place) there = at_place sessions.clients place there (lawful sessions.clients later all) are.own

-- nor does it matter that the last of it didn't go out
lawful_less : (export : Export) (fed handed dropped : List ℕ) (asked : List Asked) (replies : List WireReply) → IsLawfulSession export fed (handed ++ dropped) asked replies → IsLawfulSession export fed handed asked replies
lawful_less export fed handed dropped asked replies (inl (waits, is)) = inl (dropped ++ waits, subst (λ to. IsLawful export fed to asked replies) (append_assoc handed dropped waits) is)
lawful_less export fed handed dropped asked replies (inr (none, out, unasked, silent)) = inr (none, first_none handed dropped out, unasked, silent)

-- what a history became that was nothing
was_nothing : {A : Type 0} (xs ys more : List A) → xs ≡ ys ++ more → ys ≡ [] → xs ≡ more
was_nothing xs ys more is none = is ∙ ap (λ l. l ++ more) none

-- who is in a record that a stop may leave may be recorded
pub may_be_in : {S : Type 0} (c : Chained S) (m : Linked S) (r : Record) → MayStand c r → is_in r m.node.state.place.slot m.node.state.incarnation ≡ true → may_be_recorded c.recorded c.writing m.node.state ≡ true
may_be_in c m r (inl same) is = ap (λ b. b || is_in_some c.writing m.node.state.place.slot m.node.state.incarnation) (ap (λ x. is_in x m.node.state.place.slot m.node.state.incarnation) (sym same) ∙ is)
may_be_in c m r (inr written) is =
    or_right (is_in c.recorded m.node.state.place.slot m.node.state.incarnation) (is_in_some c.writing m.node.state.place.slot m.node.state.incarnation)
    (ap (λ o. is_in_some o m.node.state.place.slot m.node.state.incarnation) written ∙ is)

-- the disk is the member's own
pub in_own : {S : Type 0} (about : S → About) (r : Record) (m : Linked S) → HasOwnDisk about m → HasDisk r (about m.node.store) → is_in r m.node.state.place.slot m.node.state.incarnation ≡ true
in_own about r m its has = subst (λ i. is_in r m.node.state.place.slot i ≡ true) its.incarnation (subst (λ n. is_in r n (about m.node.store).incarnation ≡ true) its.slot has)

module _ {S : Type 0} (about : S → About) (keeps : S → List ℕ → Type 0) (may_leave_now : S → List ℕ → Type 0) where
  -- what came until then, of sessions that all began since
  pub fits : (old new : Seen S) (told : Trace) (dropped : SessionId → List ℕ) (v : View) (events : List ClientEvent) (one : HappensSo about keeps may_leave_now old new (fed_in told) (λ id. handed_in told id ++ dropped id) v)
      → one.events ≡ events → FirstHasNone → OutputsAreLawful → old.sessions.clients ≡ [] → AreSessions new.sessions → Fit new.sessions.export told events
  fits old new told dropped v events one are first lawful none sessions = subst (Fit new.sessions.export told) are (record {
    asked = one.asked;
    lawful = λ id.
        let ext = extends id in
        let h = later id in
        let fed = was_nothing h.fed [] (fed_in told id) ext.fed refl in
        let handed = was_nothing h.handed [] (handed_in told id ++ dropped id) ext.handed refl in
        let asked = was_nothing h.asked [] (one.asked id) ext.asked refl in
        let replies = was_nothing h.replies [] (replies_in id one.events) ext.replies refl in
        lawful_less new.sessions.export (fed_in told id) (handed_in told id) (dropped id) (one.asked id) (replies_in id one.events)
        (rw (← fed, ← handed, ← asked, ← replies) (lawful_in new.sessions later lawful all sessions id));
    sent = one.sent;
  })
    where
      going : AllGo old.sessions.clients (λ id. nothing)
      going = subst (λ cs. AllGo cs (λ id. nothing)) (sym none) first

      later : SessionId → History
      later = (one.go_on (λ id. nothing) going).0

      all : AllGo new.sessions.clients later
      all = (one.go_on (λ id. nothing) going).1

      extends : (id : SessionId) → Extends nothing (later id) (fed_in told id) (handed_in told id ++ dropped id) (one.asked id) (replies_in id one.events)
      extends = (one.go_on (λ id. nothing) going).2

  -- an era of sessions that all began in it
  pub era_lawful : (old new : Seen S) (told : Trace) (dropped : SessionId → List ℕ) (v : View) (export : Export) (turn : HappenInTurn about keeps may_leave_now told dropped old new v) → FirstHasNone → OutputsAreLawful
      → old.sessions.clients ≡ [] → AreSessions new.sessions → old.sessions.export ≡ export → IsLawfulEra export told turn.happens.events
  era_lawful old new told dropped v export turn first lawful none sessions has = record {
    each = turn.each;
    last = turn.last;
    are = turn.are;
    many = turn.many;
    so_far = λ n within.
        let so = turn.so_far n within in
        let (one, view, same) = happens_as about keeps may_leave_now old so.at (fed_in (take n told)) (fed_in (take n told)) (handed_in (take n told)) (λ id. handed_in (take n told) id ++ no_one id) (λ id. refl) (λ id. sym (append-nil (handed_in (take n told) id))) v so.happens in
        subst (λ e. Fit e (take n told) (all_events (take n turn.each))) (so.happens.remain.export ∙ has)
        (fits old so.at (take n told) no_one v (all_events (take n turn.each)) one (same ∙ so.are) first lawful none so.sessions);
    whole = subst (λ e. Fit e told turn.happens.events) (turn.happens.remain.export ∙ has) (fits old new told dropped v turn.happens.events turn.happens refl first lawful none sessions);
  }

  -- ---- one deed after another

  -- What happened in turn in a world that is shown so, for a state of the machine that it stands for then, of which the disk on its way has a copy.
  pub record GoesOnCopied (told : Trace) (old new : Managed S) (v : View) : Type 0 where
    pub turn : HappenInTurn about keeps may_leave_now told no_one old.world new.world v
    pub state : State
    pub stands : StandsFor (bytes_of old.world.chain) turn.happens.w state
    pub copy : HasCopyIn about keeps (bytes_of old.world.chain) state new

  -- whatever state of the one volume the world stood for
  abbrev pub GoOnCopied : Trace → Managed S → Managed S → Type 0
  GoOnCopied told old new = (v : View) (s : State) → Shows about keeps may_leave_now old.world v → StandsFor (bytes_of old.world.chain) v s → GoesOnCopied told old new v

  pub are_of_one_volume : (told : Trace) (old new : Managed S) → GoOnCopied told old new → AreOfOneVolume about keeps may_leave_now told no_one old.world new.world
  are_of_one_volume told old new go v s shows stands = (go v s shows stands).turn

  -- before the first, where none is on its way
  pub none_turn : (w : Managed S) → AreSessions w.world.sessions → w.candidate ≡ Nobody → GoOnCopied [] w w
  none_turn w sessions nobody v s shows stands =
      let (one, view, none) = none_happens about keeps may_leave_now w.world v shows in
      record {
        turn = record {
          each = [];
          last = [];
          many = refl;
          so_far = λ n within. until n (omega (arith, within)) one none;
          happens = one;
          are = none;
        };
        state = s;
        stands = subst (λ x. StandsFor (bytes_of w.world.chain) x s) (sym view) stands;
        copy = (0, subst (HasCopy given_of may_be_left about keeps (bytes_of w.world.chain) s 0) (sym nobody) tt);
      }
    where
      until : (n : ℕ) → n ≡ 0 → (one : HappensSo about keeps may_leave_now w.world w.world no_one no_one v) → one.events ≡ [] → HappenedUntil about keeps may_leave_now w.world v (take n []) (all_events (take n []))
      until n zeroth one none = subst (λ m. HappenedUntil about keeps may_leave_now w.world v (take m []) (all_events (take m []))) (sym zeroth) (record { at = w.world; sessions = sessions; happens = one; are = none })

  module _ (law : HappeningsAreOfOneVolume) (old mid new : Managed S) (joined : IsJoined old.world) (joined_then : IsJoined mid.world) (told : Trace) (deed : Deed) (answer : Answer) where
    abbrev More : Trace
    More = told ++ (deed, answer) ∷ []

    fed_more : (id : SessionId) → fed_in told id ++ fed_by deed answer id ≡ fed_in More id
    fed_more id = sym (flat_map-append (λ (one : Deed × Answer). fed_by one.0 one.1 id) told ((deed, answer) ∷ []) ∙ ap (λ l. fed_in told id ++ l) (append-nil (fed_by deed answer id)))

    handed_more : (id : SessionId) → (handed_in told id ++ no_one id) ++ handed_by deed answer id ≡ handed_in More id
    handed_more id = ap (λ l. l ++ handed_by deed answer id) (append-nil (handed_in told id))
        ∙ sym (flat_map-append (λ (one : Deed × Answer). handed_by one.0 one.1 id) told ((deed, answer) ∷ []) ∙ ap (λ l. handed_in told id ++ l) (append-nil (handed_by deed answer id)))

    -- it can happen in the world to which the others led
    module _ (v : View) (was : GoesOnCopied told old mid v) (one : IsOfOneVolumeIn about keeps may_leave_now (fed_by deed answer) (handed_by deed answer) mid new) where
      same_size : bytes_of mid.world.chain ≡ bytes_of old.world.chain
      same_size = size_stays about keeps may_leave_now law old.world mid.world new.world joined joined_then (fed_in told) (fed_by deed answer) (λ id. handed_in told id ++ no_one id) (handed_by deed answer) was.turn.happens.remain

      stands_mid : StandsFor (bytes_of mid.world.chain) was.turn.happens.w was.state
      stands_mid = subst (λ n. StandsFor n was.turn.happens.w was.state) (sym same_size) was.stands

      copy_mid : HasCopyIn about keeps (bytes_of mid.world.chain) was.state mid
      copy_mid = subst (λ n. HasCopyIn about keeps n was.state mid) (sym same_size) was.copy

      now : HappensSo about keeps may_leave_now mid.world new.world (fed_by deed answer) (handed_by deed answer) was.turn.happens.w
      now = one was.turn.happens.w was.state was.turn.happens.shows stands_mid copy_mid

      both : (both : HappensSo about keeps may_leave_now old.world new.world (λ id. fed_in told id ++ fed_by deed answer id) (λ id. (handed_in told id ++ no_one id) ++ handed_by deed answer id) v)
          × (both.w ≡ now.w) × (both.events ≡ was.turn.happens.events ++ now.events)
      both = happens_then about keeps may_leave_now law old.world mid.world new.world joined joined_then (fed_in told) (fed_by deed answer) (λ id. handed_in told id ++ no_one id) (handed_by deed answer) v was.turn.happens now

      -- one deed more
      turn_with : AreSessions new.world.sessions → (turn : HappenInTurn about keeps may_leave_now More no_one old.world new.world v) × (turn.happens.w ≡ now.w)
      turn_with sessions =
          let (together, shown, are) = both in
          let turn = was.turn in
          let (until, same_view, same) = happens_as about keeps may_leave_now old.world new.world (λ id. fed_in told id ++ fed_by deed answer id) (fed_in More) (λ id. (handed_in told id ++ no_one id) ++ handed_by deed answer id) (handed_in More) fed_more handed_more v together in
          let (whole, still_view, still) = happens_as about keeps may_leave_now old.world new.world (fed_in More) (fed_in More) (handed_in More) (λ id. handed_in More id ++ no_one id) (λ id. refl) (λ id. sym (append-nil (handed_in More id))) v until in
          let each = turn.each ++ (turn.last ++ now.events) ∷ [] in
          let all : until.events ≡ all_events each = same ∙ are ∙ ap (λ l. l ++ now.events) turn.are ∙ append_assoc (all_events turn.each) turn.last now.events ∙ sym (events_more turn.each (turn.last ++ now.events)) in (
            record {
              each = each;
              last = [];
              many = let one = length-append turn.each ((turn.last ++ now.events) ∷ []) in let other = length-append told ((deed, answer) ∷ []) in omega (arith, one, other, turn.many);
              so_far = λ n within. by_place turn n within (ltb (length told) n) refl (record { at = new.world; sessions = sessions; happens = until; are = all });
              happens = whole;
              are = still ∙ all ∙ sym (append-nil (all_events each));
            },
            still_view ∙ same_view ∙ shown,
          )
        where
          by_place : (turn : HappenInTurn about keeps may_leave_now told no_one old.world mid.world v) (n : ℕ) → n ≤ length More → (is_all : Bool) → ltb (length told) n ≡ is_all
              → HappenedUntil about keeps may_leave_now old.world v More (all_events (turn.each ++ (turn.last ++ now.events) ∷ []))
              → HappenedUntil about keeps may_leave_now old.world v (take n More) (all_events (take n (turn.each ++ (turn.last ++ now.events) ∷ [])))
          by_place turn n within true above all =
              let beyond = ltb-true (length told) n above in
              let one = length-append turn.each ((turn.last ++ now.events) ∷ []) in
              subst (λ l. HappenedUntil about keeps may_leave_now old.world v l (all_events (take n (turn.each ++ (turn.last ++ now.events) ∷ [])))) (sym (take_all n More (let other = length-append told ((deed, answer) ∷ []) in omega (arith, other, beyond))))
              (subst (λ l. HappenedUntil about keeps may_leave_now old.world v More (all_events l)) (sym (take_all n (turn.each ++ (turn.last ++ now.events) ∷ []) (omega (arith, one, turn.many, beyond)))) all)
          by_place turn n within false above all =
              let below = ltb-false (length told) n above in
              subst (λ l. HappenedUntil about keeps may_leave_now old.world v l (all_events (take n (turn.each ++ (turn.last ++ now.events) ∷ [])))) (sym (take-append-le n told ((deed, answer) ∷ []) below))
              (subst (λ l. HappenedUntil about keeps may_leave_now old.world v (take n told) (all_events l)) (sym (take-append-le n turn.each ((turn.last ++ now.events) ∷ []) (omega (arith, turn.many, below)))) (turn.so_far n below))

      -- and the state that it comes to
      copied_more : AreSessions new.world.sessions → KeepsCopyIn about keeps may_leave_now mid new → GoesOnCopied More old new v
      copied_more sessions keep =
          let (turn, view) = turn_with sessions in
          let (moves, t, runs, shown, stands) = goes_plays law (bytes_of mid.world.chain) was.turn.happens.w now.w now.events now.goes was.state stands_mid in
          let copy = keep was.turn.happens.w now.w was.state t moves was.turn.happens.shows stands_mid runs now.shows stands copy_mid in
          record {
            turn = turn;
            state = t;
            stands = subst (λ x. StandsFor (bytes_of old.world.chain) x t) (sym view) (subst (λ n. StandsFor n now.w t) same_size stands);
            copy = subst (λ n. HasCopyIn about keeps n t new) same_size copy;
          }

      -- one in which a stop was met: what it told is dropped
      to_stop : ((id : SessionId) → fed_by deed answer id ≡ []) → HappenInTurn about keeps may_leave_now told (handed_by deed answer) old.world new.world v
      to_stop unfed =
          let (together, shown, are) = both in
          let turn = was.turn in
          let (whole, view, same) = happens_as about keeps may_leave_now old.world new.world (λ id. fed_in told id ++ fed_by deed answer id) (fed_in told) (λ id. (handed_in told id ++ no_one id) ++ handed_by deed answer id) (λ id. handed_in told id ++ handed_by deed answer id)
          (λ id. ap (λ l. fed_in told id ++ l) (unfed id) ∙ append-nil (fed_in told id)) (λ id. ap (λ l. l ++ handed_by deed answer id) (append-nil (handed_in told id))) v together in
          record {
            each = turn.each;
            last = turn.last ++ now.events;
            many = turn.many;
            so_far = turn.so_far;
            happens = whole;
            are = same ∙ are ∙ ap (λ l. l ++ now.events) turn.are ∙ append_assoc (all_events turn.each) turn.last now.events;
          }

    pub turn_more : AreSessions new.world.sessions → GoOnCopied told old mid → IsOfOneVolumeIn about keeps may_leave_now (fed_by deed answer) (handed_by deed answer) mid new → KeepsCopyIn about keeps may_leave_now mid new
        → GoOnCopied More old new
    turn_more sessions before one keep v s shows stands = copied_more v (before v s shows stands) one sessions keep

    pub turn_to_stop : ((id : SessionId) → fed_by deed answer id ≡ []) → GoOnCopied told old mid → IsOfOneVolumeIn about keeps may_leave_now (fed_by deed answer) (handed_by deed answer) mid new
        → AreOfOneVolume about keeps may_leave_now told (handed_by deed answer) old.world new.world
    turn_to_stop unfed before one v s shows stands = to_stop v (before v s shows stands) one unfed

  -- ---- a cut

  -- what a disk is left with means a front of its member, and the machine restarts there
  pub recovers : RestartsChain → (old : Seen S) (v : View) (s : State) (at : ℕ) (m : Linked S) (c : List ℕ) (meaning : Meaning) (new : Seen S)
      → ((one other : Meaning) (bytes : List ℕ) → Means one bytes → Means other bytes → one ≡ other)
      → Shows about keeps may_leave_now old v → StandsFor (bytes_of old.chain) v s → slice_get old.chain.members at ≡ Some m
      → (r : Record) → MayStand old.chain r → HasMember r meaning → HasOwnDisk about m → may_leave_now m.node.store c → Means meaning c
      → export_of meaning.geometry ≡ export_of old.chain.geometry
      → BeginsWith about keeps may_leave_now meaning.geometry meaning.front meaning.volume new
      → May s (Restart meaning.front) × IsFresh about keeps may_leave_now (bytes_of old.chain) (export_of old.chain.geometry) new (after s (Restart meaning.front))
  recovers law old v s at m c meaning new one_meaning shows stands here r stood has its left means sizes begun =
      let place = cell_of old.chain.members at m here in
      let twin = twin_of (IsShown about keeps may_leave_now (bytes_of old.chain)) place.above m place.below v.members (subst (λ l. AllZip (IsShown about keeps may_leave_now (bytes_of old.chain)) l v.members) place.split shows.chain.members) in
      let so = twin.fits in
      let own = twin.own in
      let (front, durable, known, is) = so.left c left in
      let same = one_meaning meaning (meaning_with (record (about m.node.store) { front = front }) (volume_at own.volume m.node.state front)) c means is in
      let node : own.node ≡ m.node.state = ap (λ x. x.node) so.is in
      let own_slot : meaning.slot ≡ m.node.state.place.slot = ap (λ x. x.slot) same ∙ its.slot in
      let own_incarnation : meaning.incarnation ≡ m.node.state.incarnation = ap (λ x. x.incarnation) same ∙ its.incarnation in
      let may = may_be_in old.chain m r stood (subst (λ i. is_in r m.node.state.place.slot i ≡ true) own_incarnation (subst (λ n. is_in r n meaning.incarnation ≡ true) own_slot has)) in
      let begins : IsBeginning front (fold patched own.volume (writes_upto own.node.table front)) begun.view =
      rw node (subst (λ f. IsBeginning f (volume_at own.volume m.node.state front) begun.view) (ap (λ x. x.front) same) (subst (λ l. IsBeginning meaning.front l begun.view) (ap (λ x. x.volume) same) begun.begins)) in
      let did = law (bytes_of old.chain) v twin.over own twin.under s front begun.view
      (subst (λ ms. StandsFor (bytes_of old.chain) (with_members v ms) s) twin.are (same_members v (bytes_of old.chain) s stands))
      (rw (shows.chain.recorded, shows.chain.writing, node) may) (rw node durable) (rw node known) begins in
      subst (λ f. May s (Restart f) × IsFresh about keeps may_leave_now (bytes_of old.chain) (export_of old.chain.geometry) new (after s (Restart f))) (sym (ap (λ x. x.front) same)) (
        did.0,
        record {
          view = begun.view;
          shows = begun.shows;
          stands = did.1;
          no_clients = begun.no_clients;
          has = begun.export ∙ sizes;
          runs = begun.runs;
        },
      )
    where
      same_members : (v : View) (size : ℕ) (s : State) → StandsFor size v s → StandsFor size (with_members v v.members) s
      same_members v size s stands = stands

  -- so it does where the disk is that of who joins
  pub recovers_joiner : RestartsFromJoiner → ((store : S) (volume c : List ℕ) → keeps store volume → may_leave_now store c → Means (meaning_with (about store) volume) c)
      → (old : Seen S) (v : View) (s : State) (store : S) (c : List ℕ) (meaning : Meaning) (new : Seen S)
      → ((one other : Meaning) (bytes : List ℕ) → Means one bytes → Means other bytes → one ≡ other)
      → Shows about keeps may_leave_now old v → StandsFor (bytes_of old.chain) v s → old.joiner ≡ Some store → may_leave_now store c → Means meaning c
      → export_of meaning.geometry ≡ export_of old.chain.geometry
      → BeginsWith about keeps may_leave_now meaning.geometry meaning.front meaning.volume new
      → May s (Restart meaning.front) × IsFresh about keeps may_leave_now (bytes_of old.chain) (export_of old.chain.geometry) new (after s (Restart meaning.front))
  recovers_joiner law means_now old v s store c meaning new one_meaning shows stands joined left means sizes begun =
      let (j, joins, of) = joiner_shown about keeps may_leave_now old v store shows joined in
      let same = one_meaning meaning (meaning_with (about store) j.volume) c means (means_now store j.volume c of.keeping left) in
      let front : meaning.front ≡ j.front = ap (λ x. x.front) same ∙ sym of.front in
      let begins : IsBeginning j.front j.volume begun.view = subst (λ f. IsBeginning f j.volume begun.view) front (subst (λ l. IsBeginning meaning.front l begun.view) (ap (λ x. x.volume) same) begun.begins) in
      let did = law (bytes_of old.chain) v j s begun.view stands joins begins in
      subst (λ f. May s (Restart f) × IsFresh about keeps may_leave_now (bytes_of old.chain) (export_of old.chain.geometry) new (after s (Restart f))) (sym front) (
        did.0,
        record {
          view = begun.view;
          shows = begun.shows;
          stands = did.1;
          no_clients = begun.no_clients;
          has = begun.export ∙ sizes;
          runs = begun.runs;
        },
      )

  -- the export is that of the chain's sizes
  pub exported_as : (w : Seen S) → IsJoined w → export_of w.chain.geometry ≡ w.sessions.export
  exported_as w joined = rw (joined.size, joined.payload, joined.area) refl

  -- ---- what is left of disks

  -- whatever a stop may leave of the disk of each member that may be recorded has what is owed
  pub each_disk : IsOnEachDisk → (w : Seen S) (v : View) (s : State) → Shows about keeps may_leave_now w v → StandsFor (bytes_of w.chain) v s
      → (at : ℕ) (m : Linked S) → slice_get w.chain.members at ≡ Some m → may_be_recorded w.chain.recorded w.chain.writing m.node.state ≡ true
      → (bytes : List ℕ) → may_leave_now m.node.store bytes → HasWhatIsOwed (bytes_of w.chain) s (about m.node.store) bytes
  each_disk law w v s shows stands at m here may bytes left =
      let place = cell_of w.chain.members at m here in
      let twin = twin_of (IsShown about keeps may_leave_now (bytes_of w.chain)) place.above m place.below v.members (subst (λ l. AllZip (IsShown about keeps may_leave_now (bytes_of w.chain)) l v.members) place.split shows.chain.members) in
      let so = twin.fits in
      let own = twin.own in
      let (front, durable, known, is) = so.left bytes left in
      let node : own.node ≡ m.node.state = ap (λ x. x.node) so.is in
      let (owed, taken, volume) = law (bytes_of w.chain) v twin.over own twin.under s front
      (subst (λ ms. StandsFor (bytes_of w.chain) (with_members v ms) s) twin.are (same_members v (bytes_of w.chain) s stands))
      (rw (shows.chain.recorded, shows.chain.writing, node) may) (rw node durable) (rw node known) in
      record {
        front = front;
        owed = owed;
        taken = taken;
        means = subst (λ l. Means (meaning_with (record (about m.node.store) { front = front }) l) bytes) (ap (λ (n : NodeState). volume_at own.volume n front) (sym node) ∙ volume) is;
      }
    where
      same_members : (v : View) (size : ℕ) (s : State) → StandsFor size v s → StandsFor size (with_members v v.members) s
      same_members v size s stands = stands

  -- so has that of who joins
  pub joiner_disk : ((store : S) (volume c : List ℕ) → keeps store volume → may_leave_now store c → Means (meaning_with (about store) volume) c) → (w : Seen S) (v : View) (s : State) → Shows about keeps may_leave_now w v
      → StandsFor (bytes_of w.chain) v s → (store : S) → w.joiner ≡ Some store → (bytes : List ℕ) → may_leave_now store bytes → HasWhatIsOwed (bytes_of w.chain) s (about store) bytes
  joiner_disk means_now w v s shows stands store joined bytes left =
      let (j, joins, of) = joiner_shown about keeps may_leave_now w v store shows joined in
      let joining = stands.1 j joins in
      let clients = stands.0.2.clients.1 in
      let front : (about store).front ≡ length s.taken = sym of.front ∙ joining.held ∙ clients.committed in
      record {
        front = (about store).front;
        owed = omega (arith, front, clients.sound.owed_taken);
        taken = omega (arith, front);
        means = subst (λ volume. Means (meaning_with (about store) volume) bytes) (joining.volume ∙ ap (machine_volume (bytes_of w.chain) s) of.front) (means_now store j.volume bytes of.keeping left);
      }
