-- What a client's call is in the model of the one volume: requests are sent and taken up, a session begins, or nothing happens.
use Rattle.std.proofs.Common.{◌≡◌, ℕ, Bool, true, false, eqb, Some, Result, Ok, Err, List, [], ◌∷◌, ◌++◌, length, map, set, refl, ap, sym, subst, ◌∙◌, inl, inr, arith}
use Rattle.std.specs.Prelude.{All, IfOk, IsSome, OnErr, slice_get}
use Rattle.std.specs.List.{insert}
use Rattle.std.proofs.lemmas.Bool.{cases_Bool, cond-true, cond-false, eq-eqb, eqb-true}
use Rattle.std.proofs.Math.Nat.{le_refl}
use Rattle.std.proofs.lemmas.List.{append-nil, length-append, map-append, map-set, set-set}
use Rattle.std.proofs.lemmas.List.Elements.{All-cons, All-head, All-nil, All-tail}
use Rattle.board.specs.Seats.{BoardId}
use Rattle.flush_barrier.specs.declared.session_id.SessionId.{SessionId}
use Rattle.local_store.specs.About.{About}
use Rattle.nbd_session.specs.Begun.{greeted}
use Rattle.nbd_session.specs.Demand.{Asked, asked_by}
use Rattle.nbd_session.specs.Demand as demands
use Rattle.nbd_session.specs.declared.demand.Demand.{Demand}
use Rattle.chain_model.specs.View.{Member, View}
use Rattle.chain_model.specs.Life.{RequestsSent, RequestsTakenUp, SessionBegins}
use Rattle.world_model.specs.Requests.{Held, sent_event}
use Rattle.chain.specs.Chain.{Chained, bytes_of}
use Rattle.chain.specs.Chain as chain
use Rattle.chain.proofs.Cells.{Place, set_there}
use Rattle.chain.proofs.Cells as cells
use Rattle.clients.specs.Calls.{AreAtPlaces, Begins, IsDemandOf}
use Rattle.clients.specs.Clients.{Client, GoOn, Sessions, held_of, held_under, no_one, of_session, place_of, replies_in}
use Rattle.clients.proofs.Places.{place_before, place_came, same_id}
use Rattle.world.specs.Reception.{IsFed}
use Rattle.world.specs.World.{AreTakenUp, AskWhatWasSent, Goes, IsOfOneVolume, Remain, Seen, Shows, sent_in}
use Rattle.world.proofs.Sending.{none_asked, none_at, taken_up_begun, taken_up_set, taken_up_still}
use Rattle.world.proofs.Going.{goes_by, goes_nowhere, goes_on, goes_same}
use Rattle.world.proofs.GoingOn.{go_on_still, remain_at}
use Rattle.world.proofs.TakingSteps.{WaitsAt, demands_then, shows_demands, waits_at, with_demands}

-- ---- whose requests are sent

abbrev IsBy : SessionId → Held → Type 0
IsBy id held = held.session.0 ≡ id.0

held_session : (id : SessionId) (asked : Asked) → (held_under id asked).session ≡ id
held_session id (demands.Read cookie offset len) = refl
held_session id (demands.Write cookie write) = refl
held_session id (demands.Fua cookie write) = refl
held_session id (demands.Flush cookie) = refl

-- what a session asks is by it
asked_is_by : (id session : SessionId) (asked : List Asked) → session.0 ≡ id.0 → All (IsBy id) (map (held_under session) asked)
asked_is_by id session [] same = All-nil (IsBy id)
asked_is_by id session (a ∷ asked) same = All-cons (IsBy id) (held_under session a) (map (held_under session) asked) (ap (λ (s : SessionId). s.0) (held_session session a) ∙ same) (asked_is_by id session asked same)

-- a session's demands are what it asks
demands_are_asked : (id : SessionId) (board : BoardId) (size : ℕ) (ds : List Demand) → All (IsDemandOf id board size) ds
    → map held_of ds ≡ map (held_under id) (map asked_by ds)
demands_are_asked id board size [] own = refl
demands_are_asked id board size (d ∷ ds) own =
    ap (λ s. held_under s (asked_by d) ∷ map held_of ds) (All-head (IsDemandOf id board size) d ds own).own_session
    ∙ ap (λ l. held_under id (asked_by d) ∷ l) (demands_are_asked id board size ds (All-tail (IsDemandOf id board size) d ds own))

-- of requests by one session its client sent all, and no other client any
sent_own : (id : SessionId) (more : List Held) → All (IsBy id) more → sent_in id (map sent_event more) ≡ more
sent_own id [] by = refl
sent_own id (h ∷ more) by =
    ap (λ (l : List Held). l ++ sent_in id (map sent_event more)) (cond-true (eqb h.session.0 id.0) (h ∷ []) [] (eq-eqb h.session.0 id.0 (All-head (IsBy id) h more by)))
    ∙ ap (λ (l : List Held). h ∷ l) (sent_own id more (All-tail (IsBy id) h more by))

sent_by_other : (id other : SessionId) (more : List Held) → eqb id.0 other.0 ≡ false → All (IsBy id) more
    → sent_in other (map sent_event more) ≡ []
sent_by_other id other [] apart by = refl
sent_by_other id other (h ∷ more) apart by =
    ap (λ (l : List Held). l ++ sent_in other (map sent_event more)) (cond-false (eqb h.session.0 other.0) (h ∷ []) [] (ap (λ n. eqb n other.0) (All-head (IsBy id) h more by) ∙ apart))
    ∙ sent_by_other id other more apart (All-tail (IsBy id) h more by)

-- they are no replies
sent_no_replies : (id : SessionId) (more : List Held) → replies_in id (map sent_event more) ≡ []
sent_no_replies id [] = refl
sent_no_replies id (h ∷ more) = sent_no_replies id more

go_on_sent : (a b : List Client) (fed handed : SessionId → List ℕ) (asked : SessionId → List Asked) (more : List Held)
    → GoOn a b fed handed asked [] → GoOn a b fed handed asked (map sent_event more)
go_on_sent a b fed handed asked more goes histories going =
    let later = goes histories going in
    (later.0, later.1, λ id. record { fed = (later.2 id).fed; handed = (later.2 id).handed; asked = (later.2 id).asked; replies = (later.2 id).replies ∙ ap (λ l. (histories id).replies ++ l) (sym (sent_no_replies id more)) })

-- what a session asks is what its client sent then, and nobody else sent anything
fed_sent : (id : SessionId) (board : BoardId) (size : ℕ) (ds : List Demand) → All (IsDemandOf id board size) ds
    → AskWhatWasSent (of_session id (map asked_by ds)) (map sent_event (map held_of ds))
fed_sent id board size ds own other =
    let are = demands_are_asked id board size ds own in
    let by : All (IsBy id) (map held_of ds) = subst (All (IsBy id)) (sym are) (asked_is_by id id (map asked_by ds) refl) in
    elim (cases_Bool (eqb id.0 other.0)) [
      | inl same ↦
          subst (λ (i : SessionId). sent_in i (map sent_event (map held_of ds)) ≡ map (held_under i) (of_session id (map asked_by ds) i)) (same_id id other (eqb-true id.0 other.0 same))
          (sent_own id (map held_of ds) by ∙ are
          ∙ ap (map (held_under id)) (sym (cond-true (eqb id.0 id.0) (map asked_by ds) [] (eq-eqb id.0 id.0 refl))))
      | inr apart ↦
          sent_by_other id other (map held_of ds) apart by
          ∙ ap (map (held_under other)) (sym (cond-false (eqb id.0 other.0) (map asked_by ds) [] apart))
    ]

-- ---- what happens

module _ (size : ℕ) (v : View) (at : ℕ) (member : Member) (place : ℕ) (taken : List Held) where
  -- with requests sent to a session, and taken up for a member
  abbrev taken_up : View
  taken_up = record (with_demands v at member (member.demands ++ taken)) { kept = set v.kept place [] }

  fed_goes : slice_get v.members at ≡ Some member → slice_get v.kept place ≡ Some [] → Goes size v taken_up (map sent_event taken)
  fed_goes there here = goes_same v taken_up (map sent_event taken ++ []) (map sent_event taken) (append-nil (map sent_event taken))
      (goes_on v sent taken_up (map sent_event taken) []
      (goes_by RequestsSent v sent (map sent_event taken) (record { at = place; kept = []; more = taken; here = here; are = refl; shown_are = refl }))
      (goes_by RequestsTakenUp sent taken_up [] (
        record {
          above = spot.above;
          member = member;
          below = spot.below;
          at = place;
          taken = taken;
          kept = [];
          were = spot.split;
          here = set_there v.kept place [] taken here ∙ ap Some (sym (append-nil taken));
          are = ap (λ (members : List Member). record v { members = members; kept = set v.kept place [] }) (spot.setting (record member { demands = member.demands ++ taken }))
              ∙ ap (λ (kept : List (List Held)). record v { members = spot.above ++ record member { demands = member.demands ++ taken } ∷ spot.below; kept = kept }) (sym (set-set v.kept place taken []));
        },
        refl,
      )))
    where
      sent : View
      sent = record v { kept = set v.kept place taken }

      spot : Place v.members at member
      spot = cells.place_of v.members at member there

-- the client that comes
abbrev greeted_client : Sessions → SessionId → ℕ → Client
greeted_client old id at = record { session = greeted old.board id old.export; at = at; told = false }

-- who was there keeps its place before whom comes
come_behind : (old new : Sessions) (id : SessionId) (at : ℕ) → Begins id at old new → Remain old new
come_behind old new id at begins = record {
  places = λ one place there. rw begins.are (place_before one old.clients (greeted_client old id at) place there);
  came = λ one place there. place_came one old.clients (greeted_client old id at) place (subst (λ (x : Sessions). place_of one x.clients ≡ Some place) begins.are there);
  many = rw begins.are (let sum = length-append old.clients (greeted_client old id at ∷ []) in omega (arith, sum));
  export = ap (λ s. s.export) begins.are;
}

-- ---- of the one volume

module _ {S : Type 0} (about : S → About) (keeps : S → List ℕ → Type 0) (may_leave_now : S → List ℕ → Type 0) where
  -- the chain is shown so, whatever its sessions keep
  chain_still : (c : Chained S) (v : View) (kept : List (List Held)) → chain.Shows about keeps may_leave_now c v → chain.Shows about keeps may_leave_now c (record v { kept = kept })
  chain_still c v kept shows = record { told = shows.told; recorded = shows.recorded; before = shows.before; writing = shows.writing; youngest = shows.youngest; members = shows.members; links = shows.links; submits = shows.submits }

  -- the places of the sessions changed, and nothing else
  shown_keeping : (old : Seen S) (sessions : Sessions) (v : View) (kept : List (List Held)) → Shows about keeps may_leave_now old v
      → AreTakenUp sessions.clients kept
      → Shows about keeps may_leave_now (record old { sessions = sessions }) (record v { kept = kept })
  shown_keeping old sessions v kept shows are = record { chain = chain_still old.chain v kept shows.chain; demands = shows.demands; kept = are; joins = shows.joins }

  pub nothing_happens : (w : Seen S) → IsOfOneVolume about keeps may_leave_now no_one no_one w w
  nothing_happens w v s shows stands = record {
    w = v;
    events = [];
    asked = no_one;
    shows = shows;
    goes = goes_nowhere v;
    go_on = go_on_still w.sessions.clients;
    sent = none_asked;
    remain = record { places = λ id place there. there; came = λ id place there. inl there; many = le_refl (length w.sessions.clients); export = refl };
  }

  pub begins_one_volume : (old : Seen S) (sessions : Sessions) (id : SessionId) (at : ℕ) → Begins id at old.sessions sessions
      → GoOn old.sessions.clients sessions.clients no_one no_one no_one []
      → IsOfOneVolume about keeps may_leave_now no_one no_one old (record old { sessions = sessions })
  begins_one_volume old sessions id at begins lawful v s shows stands = record {
    w = record v { kept = insert v.kept (length old.sessions.clients) [] };
    events = [];
    asked = no_one;
    shows = shown_keeping old sessions v (insert v.kept (length old.sessions.clients) []) shows
        (subst (λ (x : Sessions). AreTakenUp x.clients (insert v.kept (length old.sessions.clients) [])) (sym begins.are) (taken_up_begun old.sessions.clients (greeted_client old.sessions id at) v.kept shows.kept));
    goes = goes_by SessionBegins v (record v { kept = insert v.kept (length old.sessions.clients) [] }) [] (length old.sessions.clients, refl, refl);
    go_on = lawful;
    sent = none_asked;
    remain = come_behind old.sessions sessions id at begins;
  }

  -- sessions hand out something or end
  pub hands_one_volume : (old : Seen S) (sessions : Sessions) (handed : SessionId → List ℕ) → AreAtPlaces old.sessions sessions
      → GoOn old.sessions.clients sessions.clients no_one handed no_one []
      → IsOfOneVolume about keeps may_leave_now no_one handed old (record old { sessions = sessions })
  hands_one_volume old sessions handed places lawful v s shows stands = record {
    w = v;
    events = [];
    asked = no_one;
    shows = shown_keeping old sessions v v.kept shows (taken_up_still old.sessions sessions v.kept places shows.kept);
    goes = goes_nowhere v;
    go_on = lawful;
    sent = none_asked;
    remain = remain_at old.sessions sessions places;
  }

  pub fed_one_volume : (old : Seen S) (id : SessionId) (piece : List ℕ) (at : ℕ) (queue later : List Demand) (sessions : Sessions)
      → slice_get old.queues at ≡ Some queue → IsFed id piece old.sessions sessions queue later
      → IsOfOneVolume about keeps may_leave_now (of_session id piece) no_one old (record old { sessions = sessions; queues = set old.queues at later })
  fed_one_volume old id piece at queue later sessions here fed v s shows stands = record {
    w = w;
    events = map sent_event (map held_of fed.demands);
    asked = of_session id (map asked_by fed.demands);
    shows = record {
      chain = record { told = shown.told; recorded = shown.recorded; before = shown.before; writing = shown.writing; youngest = shown.youngest; members = shown.members; links = shown.links; submits = shown.submits };
      demands = wait_then;
      kept = taken_up_set sessions.clients fed.did.place v.kept (taken_up_still old.sessions sessions v.kept fed.places shows.kept);
      joins = shows.joins;
    };
    goes = fed_goes (bytes_of old.chain) v at waits.member fed.did.place (map held_of fed.demands) waits.here (none_at old.sessions.clients fed.did.place fed.did.before v.kept shows.kept fed.did.here);
    go_on = go_on_sent old.sessions.clients sessions.clients (of_session id piece) no_one (of_session id (map asked_by fed.demands)) (map held_of fed.demands) fed.lawful;
    sent = fed_sent id old.sessions.board old.sessions.export.size fed.demands fed.own;
    remain = remain_at old.sessions sessions fed.places;
  }
    where
      waits : WaitsAt v.members at (map held_of queue)
      waits = waits_at v.members old.queues at queue shows.demands here

      held : List Held
      held = waits.member.demands ++ map held_of fed.demands

      w : View
      w = taken_up (bytes_of old.chain) v at waits.member fed.did.place (map held_of fed.demands)

      shown : chain.Shows about keeps may_leave_now old.chain (with_demands v at waits.member held)
      shown = shows_demands about keeps may_leave_now old.chain v at waits.member held waits.here shows.chain

      behind : held ≡ map held_of later
      behind = ap (λ l. l ++ map held_of fed.demands) waits.waits ∙ sym (map-append held_of queue fed.demands)
          ∙ ap (map held_of) (sym fed.behind)

      wait_then : map (λ (m : Member). m.demands) w.members ≡ map (map held_of) (set old.queues at later)
      wait_then = demands_then v at waits.member held ∙ ap (λ l. set l at held) shows.demands
          ∙ ap (set (map (map held_of) old.queues) at) behind ∙ sym (map-set (map held_of) old.queues at later)

  -- ---- of a call's answer

  unchanged : (w : Seen S) (sessions : Sessions) → sessions ≡ w.sessions
      → IsOfOneVolume about keeps may_leave_now no_one no_one w (record w { sessions = sessions })
  unchanged w sessions same = subst (λ (s : Sessions). IsOfOneVolume about keeps may_leave_now no_one no_one w (record w { sessions = s })) (sym same) (nothing_happens w)

  pub connected_one_volume : {E : Type 0} (w : Seen S) (id : SessionId) (at : ℕ) (sessions : Sessions) (r : Result Bool E)
      → IfOk r (λ begun. begun ≡ true → Begins id at w.sessions sessions)
      → IfOk r (λ begun. begun ≡ true → GoOn w.sessions.clients sessions.clients no_one no_one no_one []) → IfOk r (λ begun. begun ≡ false → IsSome (place_of id w.sessions.clients) × (sessions ≡ w.sessions)) → OnErr r (sessions ≡ w.sessions)
      → IsOfOneVolume about keeps may_leave_now no_one no_one w (record w { sessions = sessions })
  connected_one_volume w id at sessions (Ok true) come lawful known err = begins_one_volume w sessions id at (come refl) (lawful refl)
  connected_one_volume w id at sessions (Ok false) come lawful known err = unchanged w sessions (known refl).1
  connected_one_volume w id at sessions (Err e) come lawful known err = unchanged w sessions err
