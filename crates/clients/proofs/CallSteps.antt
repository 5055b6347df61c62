-- What a call to one client is for all sessions: lemmas.
use Rattle.std.proofs.Common.{◌≡◌, ℕ, ◌-◌, ◌<◌, Bool, true, false, Option, Some, None, Result, Ok, Err, List, [], ◌∷◌, ◌++◌, length, set, get_or, refl, sym, ◌∙◌, ap, subst, inl, inr}
use Rattle.std.specs.Prelude.{All, IfOk, IfSome, OnErr, if◌then◌else◌, slice_get}
use Rattle.std.specs.List.{AllPairs}
use Rattle.std.proofs.Math.Seq.{map-set_same}
use Rattle.std.proofs.lemmas.Bool.{cases_eq}
use Rattle.std.proofs.lemmas.List.{set-get_or}
use Rattle.std.proofs.lemmas.List.Elements.{All-push, All-set, All-weaker}
use Rattle.std.proofs.lemmas.List.Quantifiers.{all_pairs_push}
use Rattle.std.proofs.lemmas.Option.{get_or_from_slice_get, same_Some, slice_get_read, slice_get_within}
use Rattle.flush_barrier.specs.Reply.{GivenReply}
use Rattle.flush_barrier.specs.declared.session_id.SessionId.{SessionId}
use Rattle.nbd_session.specs.Demand.{IsAskedInside, asked_by}
use Rattle.nbd_session.specs.Laws.{HistoriesAreLawful, OutputIsLawful, RepliesAreLawful}
use Rattle.nbd_codec.specs.Reply.{encoding}
use Rattle.nbd_session.proofs.Courses.{is_over-phase_after}
use Rattle.nbd_session.specs.Progress.{is_over, phase_after}
use Rattle.nbd_session.specs.Replies.{WireReply, answered, is_owed, reply_seen}
use Rattle.nbd_session.specs.Session.{State}
use Rattle.nbd_session.specs.declared.answer.Export.{Export}
use Rattle.nbd_session.specs.declared.demand.Demand.{Demand}
use Rattle.nbd_session.specs.declared.phase.Phase.{Phase}
use Rattle.nbd_session.specs.declared.phase.Phase.TheVariants.{Greeted, Negotiating, Skipping, Transmitting, Leaving, Over}
use Rattle.world_model.specs.Chain.{ArePutOut, reply_event}
use Rattle.world_model.specs.Event.{ClientEvent}
use Rattle.world_model.proofs.Standing.{get_set}
use Rattle.clients.specs.Calls.{AreAtPlaces, Delivers, EndsInput, HasNothing, IsDemandOf, IsHanded, IsSameClient, PutsOut, StayOver, TakesPiece, TakesReply, bytes_out, has_waiting, is_closed}
use Rattle.clients.specs.Clients.{AreSessions, Client, GoOn, HasClient, IsOf, IsOver, Sessions, no_one, of_session, place_of}
use Rattle.clients.specs.declared.delivered.Delivered.{Delivered}
use Rattle.clients.specs.declared.delivered.Delivered.TheVariants.{ToSession, Dropped, OutOfMemory}
use Rattle.clients.specs.declared.output.Output.{Output}
use Rattle.clients.proofs.Histories.{go_on_answered, go_on_ended, go_on_handed, go_on_none, go_on_still}
use Rattle.clients.proofs.Places.{IsApart, apart_by_ids, ids_stay, none_there, place_before, place_by_ids, place_is}
use Rattle.clients.proofs.Items.{get_before, get_past}

-- ---- the sessions stay sessions, at their places

-- what a call reads at a place
pub read_at : (old now : Sessions) (place : ℕ) (client : Client) → old ≡ now → place < length now.clients
    → client ≡ get_or old.clients place client → slice_get old.clients place ≡ Some client
read_at old now place client same within is =
    slice_get_read old.clients (length now.clients) place client (ap (λ (s : Sessions). length s.clients) (sym same)) within is

-- where it looked
pub found_at : (id : SessionId) (old now : Sessions) (place : ℕ) → old ≡ now → Some place ≡ place_of id now.clients
    → place_of id old.clients ≡ Some place
found_at id old now place same found = ap (λ (s : Sessions). place_of id s.clients) same ∙ sym found

-- the client that has the number is this one
pub is_the_client : (id : SessionId) (cs : List Client) (place : ℕ) (client : Client) (Is : Client → Type 0) → place_of id cs ≡ Some place
    → slice_get cs place ≡ Some client → HasClient id cs Is → Is client
is_the_client id cs place client Is there here has =
    let at : has.place ≡ place = same_Some has.place place (sym has.there ∙ there) in
    let is : has.client ≡ client = same_Some has.client client (sym has.here ∙ ap (slice_get cs) at ∙ here) in
    subst Is is has.is

pub same_client : (before after : Client) → after ≡ before → IsSameClient before after
same_client before after is = record {
  id = ap (λ (c : Client). c.session.id) is;
  board = ap (λ (c : Client). c.session.board) is;
  export = ap (λ (c : Client). c.session.export) is;
  at = ap (λ (c : Client). c.at) is;
}

-- put back as it was
pub set_not : (cs : List Client) (place : ℕ) (before after : Client) → slice_get cs place ≡ Some before → after ≡ before
    → set cs place after ≡ cs
set_not cs place before after here is = ap (set cs place) (is ∙ sym (get_or_from_slice_get cs place before before here))
    ∙ set-get_or cs place before

all_at : (P : Client → Type 0) (cs : List Client) (place : ℕ) (client : Client) → slice_get cs place ≡ Some client → All P cs → P client
all_at P cs place client here all =
    subst P (get_or_from_slice_get cs place client client here) (all place client (slice_get_within cs place client here))

module _ (old : Sessions) (place : ℕ) (before after : Client) (here : slice_get old.clients place ≡ Some before) (same : IsSameClient before after) where
  -- the sessions with this client changed
  abbrev pub changed : Sessions
  changed = record old { clients = set old.clients place after }

  pub changed_at_places : AreAtPlaces old changed
  changed_at_places = record {
    board = refl;
    export = refl;
    ids = ids_stay old.clients place before after here same.id;
    places = map-set_same (λ (c : Client). c.at) old.clients place after before (same.at
        ∙ ap (λ (c : Client). c.at) (sym (get_or_from_slice_get old.clients place before before here)));
  }

  pub changed_are_sessions : AreSessions old → AreSessions changed
  changed_are_sessions are =
      let own = all_at (IsOf old.board old.export) old.clients place before here are.own in
      record {
        apart = apart_by_ids (set old.clients place after) old.clients (ids_stay old.clients place before after here same.id) are.apart;
        own = All-set (IsOf old.board old.export) old.clients place after (record {
          own_board = same.board
              ∙ own.own_board;
          own_export = same.export ∙ own.own_export;
        }) are.own;
      }

  pub changed_not : after ≡ before → changed ≡ old
  changed_not is =
      ap (λ (cs : List Client). let s : Sessions = record old { clients = cs } in s) (set_not old.clients place before after here is)

pub at_same_places : (old : Sessions) → AreAtPlaces old old
at_same_places old = record { board = refl; export = refl; ids = refl; places = refl }

-- a client that begins a session of another number than all
pub begun_are_sessions : (old : Sessions) (client : Client) → place_of client.session.id old.clients ≡ None
    → IsOf old.board old.export client → AreSessions old → AreSessions (record old { clients = old.clients ++ client ∷ [] })
begun_are_sessions old client none own are = record {
  apart = all_pairs_push IsApart old.clients client are.apart (none_there client.session.id old.clients none);
  own = All-push (IsOf old.board old.export) old.clients client are.own own;
}

-- ---- who takes no more input takes none from then on

-- the client takes no more input
abbrev pub TakesNone : Client → Type 0
TakesNone client = is_over client.session.phase ≡ true

pub changed_stay_over : (cs : List Client) (place : ℕ) (before after : Client) → slice_get cs place ≡ Some before
    → after.session.id ≡ before.session.id → (TakesNone before → TakesNone after) → StayOver cs (set cs place after)
changed_stay_over cs place before after here same stays id has =
    let there : place_of id (set cs place after) ≡ Some has.place =
    place_by_ids id (set cs place after) cs (ids_stay cs place before after here same) ∙ has.there in
    elim (cases_eq has.place place) [
      | inl at ↦
          let is : has.client ≡ before = same_Some has.client before (sym has.here ∙ ap (slice_get cs) at ∙ here) in
          record {
            place = place;
            client = after;
            there = there ∙ ap Some at;
            here = get_set cs place before after here;
            is = stays (subst TakesNone is has.is);
          }
      | inr apart ↦
          record {
            place = has.place;
            client = has.client;
            there = there;
            here = get_past cs place has.place after apart ∙ has.here;
            is = has.is;
          }
    ]

pub begun_stay_over : (cs : List Client) (client : Client) → StayOver cs (cs ++ client ∷ [])
begun_stay_over cs client id has = record {
  place = has.place;
  client = has.client;
  there = place_before id cs client has.place has.there;
  here = get_before cs (client ∷ []) has.place has.client has.here;
  is = has.is;
}

pub still_over : (old new : List Client) → new ≡ old → StayOver old new
still_over old new same id has = subst (IsOver id) (sym same) has

-- whoever takes input isn't over
pub not_over : {A : Type 0} (client : Client) → is_over client.session.phase ≡ false → TakesNone client → A
not_over client takes over = let wrong : true ≡ false = sym over ∙ takes in absurd cc

-- ---- bytes come in

-- what its session's demands are for the board and the export of all
pub demands_of : (id : SessionId) (old : Sessions) (place : ℕ) (before : Client) (demands : List Demand) → AreSessions old
    → place_of id old.clients ≡ Some place → slice_get old.clients place ≡ Some before
    → All (IsDemandOf before.session.id before.session.board before.session.export.size) demands
    → All (IsDemandOf id old.board old.export.size) demands
demands_of id old place before demands are there here all =
    let own = all_at (IsOf old.board old.export) old.clients place before here are.own in
    All-weaker (IsDemandOf before.session.id before.session.board before.session.export.size) (IsDemandOf id old.board old.export.size)
    (λ demand is. record {
      own_session = is.own_session ∙ place_is id old.clients place before there here;
      own_board = is.own_board ∙ own.own_board;
      unnumbered = is.unnumbered;
      inside = subst (λ (export : Export). IsAskedInside export.size (asked_by demand)) own.own_export is.inside;
    })
    demands all

-- who takes no more input takes no piece
pub feed_stays : {R E : Type 0} (result : Result R E) (demands_in : R → List Demand) (piece : List ℕ) (at : ℕ) (before after : Client)
    → IfOk result (λ r. TakesPiece piece at (demands_in r) before after) → OnErr result (after ≡ before) → TakesNone before → TakesNone after
feed_stays (Ok r) demands_in piece at before after fed err over = not_over before fed.takes_input over
feed_stays (Err e) demands_in piece at before after fed err over = subst TakesNone (sym err) over

-- ---- input ends

pub ends_same : (before after : Client) → EndsInput before after → IsSameClient before after
ends_same before after did = subst (IsSameClient before) (sym did.are) (record { id = refl; board = refl; export = refl; at = refl })

pub end_same : (result : Bool) (before after : Client) → (result ≡ true → EndsInput before after)
    → (result ≡ false → (is_over before.session.phase ≡ true) × (after ≡ before)) → IsSameClient before after
end_same true before after done idle = ends_same before after (done refl)
end_same false before after done idle = same_client before after (idle refl).1

pub end_stays : (result : Bool) (before after : Client) → (result ≡ true → EndsInput before after)
    → (result ≡ false → (is_over before.session.phase ≡ true) × (after ≡ before)) → TakesNone before → TakesNone after
end_stays true before after done idle over = not_over before (done refl).takes_input over
end_stays false before after done idle over = subst TakesNone (sym (idle refl).1) over

-- ---- what waits goes out

pub handed_same : (output : Output) (before after : Client) → IsHanded output before after → IsSameClient before after
handed_same output before after did =
    subst (IsSameClient before) (sym did.are) (record { id = refl; board = refl; export = refl; at = refl })

module _ (before after : Client) where
  pub put_same : (result : Option Output) → IfSome result (λ output. IsHanded output before after)
      → (result ≡ None → HasNothing before after) → IsSameClient before after
  put_same None out none = same_client before after (none refl).same
  put_same (Some output) out none = handed_same output before after out

  pub put_stays : (result : Option Output) → IfSome result (λ output. IsHanded output before after)
      → (result ≡ None → HasNothing before after) → TakesNone before → TakesNone after
  put_stays None out none over = subst TakesNone (sym (none refl).same) over
  put_stays (Some output) out none over = ap (λ (c : Client). is_over c.session.phase) out.are ∙ over

module _ (id : SessionId) (old : Sessions) (place : ℕ) (before after : Client) (there : place_of id old.clients ≡ Some place) (here : slice_get old.clients place ≡ Some before) where
  pub puts_out : (result : Option Output) → IfSome result (λ output. IsHanded output before after)
      → (result ≡ None → HasNothing before after)
      → PutsOut id old result (record old { clients = set old.clients place after })
  puts_out None out none =
      let nothing = none refl in (
        λ has. let waits : has_waiting before ≡ true =
            is_the_client id old.clients place before (λ client. has_waiting client ≡ true) there here has in
            let none_waits : has_waiting before ≡ false = nothing.none in absurd cc,
        changed_not old place before after here (same_client before after nothing.same) nothing.same,
      )
  puts_out (Some output) out none = record {
    place = place;
    before = before;
    after = after;
    there = there;
    here = here;
    did = out;
    are = refl;
  }

pub put_goes_on : (cs : List Client) → AllPairs IsApart cs → (id : SessionId) (place : ℕ) (before after : Client)
    → place_of id cs ≡ Some place → slice_get cs place ≡ Some before → OutputIsLawful
    → (result : Option Output) → IfSome result (λ output. IsHanded output before after) → (result ≡ None → HasNothing before after)
    → GoOn cs (set cs place after) no_one (of_session id (bytes_out result)) no_one []
put_goes_on cs apart id place before after there here laws None out none =
    subst (λ (l : List Client). GoOn cs l no_one (of_session id []) no_one []) (sym (set_not cs place before after here (none refl).same))
    (go_on_none cs id)
put_goes_on cs apart id place before after there here laws (Some output) out none =
    subst (λ (bytes : List ℕ). GoOn cs (set cs place after) no_one (of_session id bytes) no_one []) (sym out.bytes)
    (go_on_handed cs apart id place before after there here (handed_same output before after out).id laws
    (ap (λ (c : Client). c.session) out.are))

-- ---- a reply comes

pub closed_is : (phase : Phase) → is_closed phase ≡ true → phase ≡ Over
closed_is Greeted closed = let wrong : false ≡ true = closed in absurd cc
closed_is (Negotiating no_zeroes) closed = let wrong : false ≡ true = closed in absurd cc
closed_is (Skipping no_zeroes option left) closed = let wrong : false ≡ true = closed in absurd cc
closed_is Transmitting closed = let wrong : false ≡ true = closed in absurd cc
closed_is Leaving closed = let wrong : false ≡ true = closed in absurd cc
closed_is Over closed = refl

pub open_is : (phase : Phase) → (phase ≡ Over → ⊥) → is_closed phase ≡ false
open_is Greeted running = refl
open_is (Negotiating no_zeroes) running = refl
open_is (Skipping no_zeroes option left) running = refl
open_is Transmitting running = refl
open_is Leaving running = refl
open_is Over running = absurd (running refl)

-- a session that has ended drops the reply
pub answered_over : (s : State) (reply : WireReply) → s.phase ≡ Over → answered s reply ≡ record s { in_flight = s.in_flight - 1 }
answered_over s reply over =
    let Drops : Phase → Type 0 = λ phase.
    ◌≡◌ {A = State} (record s {
      phase = phase_after phase (s.in_flight - 1);
      in_flight = s.in_flight - 1;
      output = if is_owed phase s.in_flight then s.output ++ encoding reply else s.output;
    }) (record s { phase = phase; in_flight = s.in_flight - 1 }) in
    subst Drops (sym over) refl

pub taken_same : (reply : GivenReply) (came : Delivered) (before after : Client) (events : List ClientEvent)
    → TakesReply reply came before after events → IsSameClient before after
taken_same reply ToSession before after events did =
    subst (IsSameClient before) (sym did.1) (record { id = refl; board = refl; export = refl; at = refl })
taken_same reply Dropped before after events did =
    subst (IsSameClient before) (sym did.1) (record { id = refl; board = refl; export = refl; at = refl })
taken_same reply OutOfMemory before after events did =
    subst (IsSameClient before) (sym did.1) (record { id = refl; board = refl; export = refl; at = refl })

pub taken_stays : (reply : GivenReply) (came : Delivered) (before after : Client) (events : List ClientEvent)
    → TakesReply reply came before after events → TakesNone before → TakesNone after
taken_stays reply ToSession before after events did over =
    ap (λ (c : Client). is_over c.session.phase) did.1
    ∙ is_over-phase_after before.session.phase (before.session.in_flight - 1) ∙ over
taken_stays reply Dropped before after events did over = ap (λ (c : Client). is_over c.session.phase) did.1 ∙ over
taken_stays reply OutOfMemory before after events did over = ap (λ (c : Client). is_over c.session.phase) did.1

-- a reply that is owed is put out
put_out_if : (owed : Bool) (reply : GivenReply) → ArePutOut (reply ∷ []) (if owed then reply_event reply ∷ [] else [])
put_out_if true reply = inr ([], refl, refl)
put_out_if false reply = inl refl

module _ (reply : GivenReply) (old : Sessions) (are : AreSessions old) (place : ℕ) (before after : Client)
    (there : place_of reply.session old.clients ≡ Some place) (here : slice_get old.clients place ≡ Some before) where
  abbrev later : Sessions
  later = record old { clients = set old.clients place after }

  -- what the events of a reply that a session takes are
  abbrev owed_events : List ClientEvent
  owed_events = if is_owed before.session.phase before.session.in_flight then reply_event reply ∷ [] else []

  answers_so : RepliesAreLawful → after.session.id ≡ before.session.id → after.session ≡ answered before.session (reply_seen reply)
      → (events : List ClientEvent) → events ≡ owed_events → GoOn old.clients later.clients no_one no_one no_one events
  answers_so replies same session events are_owed =
      subst (λ (e : List ClientEvent). GoOn old.clients later.clients no_one no_one no_one e) (sym are_owed)
      (go_on_answered old.clients are.apart reply.session place before after there here same replies reply refl session)

  pub delivers : HistoriesAreLawful → RepliesAreLawful → (came : Delivered) (events : List ClientEvent)
      → TakesReply reply came before after events → Delivers reply came old later events
  delivers histories replies ToSession events did =
      let same = taken_same reply ToSession before after events did in
      let session : after.session ≡ answered before.session (reply_seen reply) = ap (λ (c : Client). c.session) did.1 in
      record {
        did = inl (record { place = place; before = before; after = after; there = there; here = here; did = did; are = refl });
        put_out = subst (ArePutOut (reply ∷ [])) (sym did.2) (put_out_if (is_owed before.session.phase before.session.in_flight) reply);
        over = changed_stay_over old.clients place before after here same.id (taken_stays reply ToSession before after events did);
        lawful = answers_so replies same.id session events did.2;
        places = changed_at_places old place before after here same;
      }
  delivers histories replies Dropped events did =
      let same = taken_same reply Dropped before after events did in
      let over = closed_is before.session.phase did.0 in
      let session : after.session ≡ answered before.session (reply_seen reply) =
      ap (λ (c : Client). c.session) did.1 ∙ sym (answered_over before.session (reply_seen reply) over) in
      let none : owed_events ≡ [] =
      ap (λ (phase : Phase). if is_owed phase before.session.in_flight then reply_event reply ∷ [] else []) over in
      record {
        did = inl (record { place = place; before = before; after = after; there = there; here = here; did = did; are = refl });
        put_out = inl did.2;
        over = changed_stay_over old.clients place before after here same.id (taken_stays reply Dropped before after events did);
        lawful = answers_so replies same.id session events (did.2 ∙ sym none);
        places = changed_at_places old place before after here same;
      }
  delivers histories replies OutOfMemory events did =
      let same = taken_same reply OutOfMemory before after events did in
      record {
        did = inl (record { place = place; before = before; after = after; there = there; here = here; did = did; are = refl });
        put_out = inl did.2;
        over = changed_stay_over old.clients place before after here same.id (taken_stays reply OutOfMemory before after events did);
        lawful = subst (λ (e : List ClientEvent). GoOn old.clients later.clients no_one no_one no_one e) (sym did.2)
            (go_on_ended old.clients are.apart reply.session place before after there here same.id histories
            (ap (λ (c : Client). c.session) did.1));
        places = changed_at_places old place before after here same;
      }

pub drops : (reply : GivenReply) (old : Sessions) → place_of reply.session old.clients ≡ None → Delivers reply Dropped old old []
drops reply old none = record {
  did = inr (record { dropped = refl; none = none; same = refl; unseen = refl });
  put_out = inl refl;
  over = λ id has. has;
  lawful = go_on_still old.clients;
  places = at_same_places old;
}
