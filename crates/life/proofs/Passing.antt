-- Calls of a world, one after another, come to what one call is: lemmas.
use Rattle.std.proofs.Common.{◌≡◌, ℕ, List, [], ◌∷◌, ◌++◌, refl, ap, sym, subst, ◌∙◌, inl, inr, arith}
use Rattle.std.specs.Prelude.{None, Option, Some, map}
use Rattle.std.proofs.lemmas.Grind.{flat_map-append}
use Rattle.std.proofs.lemmas.List.{map-append}
use Rattle.flush_barrier.specs.declared.session_id.SessionId.{SessionId}
use Rattle.local_store.specs.About.{About}
use Rattle.chain_model.specs.Chain.{StandsFor}
use Rattle.chain_model.specs.View.{View}
use Rattle.world_model.specs.Event.{ClientEvent}
use Rattle.world_model.specs.Life.{all_events}
use Rattle.chain_model.specs.Life.{Era, Happening, HappeningsAreOfOneVolume}
use Rattle.world_model.specs.Machine.{Plays}
use Rattle.nbd_session.specs.Demand.{Asked}
use Rattle.world_model.proofs.Runs.{plays_nothing, plays_then}
use Rattle.chain.specs.Chain.{bytes_of}
use Rattle.clients.specs.Clients.{Sessions, held_under, no_one, place_of}
use Rattle.world.specs.World.{AskWhatWasSent, Goes, HappensSo, IsJoined, Remain, Seen, Shows, sent_by, sent_in}
use Rattle.world.proofs.Sending.{none_asked}
use Rattle.world.proofs.Going.{goes_nowhere, goes_on}
use Rattle.world.proofs.GoingOn.{go_on_as, go_on_still, go_on_then}

-- ---- the machine goes with it

pub era_plays : HappeningsAreOfOneVolume → (size : ℕ) (hs : List Happening) (v w : View) (each : List (List ClientEvent)) → Era size v hs w each
    → Plays size (StandsFor size v) (StandsFor size w) (all_events each)
era_plays law size [] v w each (same, none) = subst (λ x. Plays size (StandsFor size v) (StandsFor size x) (all_events each)) (sym same)
    (subst (λ l. Plays size (StandsFor size v) (StandsFor size v) (all_events l)) (sym none) (plays_nothing size (StandsFor size v)))
era_plays law size (h ∷ hs) v w each (mid, now, later, are, happens, then) =
    subst (λ l. Plays size (StandsFor size v) (StandsFor size w) (all_events l)) (sym are)
    (plays_then size (StandsFor size v) (StandsFor size mid) (StandsFor size w) now (all_events later) (law size v mid h now happens) (era_plays law size hs mid w later then))

pub goes_plays : HappeningsAreOfOneVolume → (size : ℕ) (v w : View) (events : List ClientEvent) → Goes size v w events → Plays size (StandsFor size v) (StandsFor size w) events
goes_plays law size v w events goes = subst (Plays size (StandsFor size v) (StandsFor size w)) goes.all (era_plays law size goes.happenings v w goes.each goes.era)

module _ {S : Type 0} (about : S → About) (keeps : S → List ℕ → Type 0) (may_leave_now : S → List ℕ → Type 0) where
  -- nothing happened
  pub none_happens : (w : Seen S) (v : View) → Shows about keeps may_leave_now w v → (one : HappensSo about keeps may_leave_now w w no_one no_one v) × (one.w ≡ v) × (one.events ≡ [])
  none_happens w v shows = (
    record {
      w = v;
      events = [];
      asked = no_one;
      shows = shows;
      goes = goes_nowhere v;
      go_on = go_on_still w.sessions.clients;
      sent = none_asked;
      remain = record { places = λ id place there. there; came = λ id place there. inl there; many = omega arith; export = refl };
    },
    refl,
    refl,
  )

  -- who isn't there wasn't there before
  not_before : (a b : Sessions) → Remain a b → (id : SessionId) (was : Option ℕ) → place_of id a.clients ≡ was → place_of id b.clients ≡ None → place_of id a.clients ≡ None
  not_before a b one id None is none = is
  not_before a b one id (Some place) is none = let no : None ≡ Some place = sym none ∙ one.places id place is in absurd (cc)

  remain_then : (a b c : Sessions) → Remain a b → Remain b c → Remain a c
  remain_then a b c one two = record {
    places = λ id place there. two.places id place (one.places id place there);
    came = λ id place there. elim (two.came id place there) [
      | inl was ↦ one.came id place was
      | inr (none, beyond) ↦ inr (before_none id (place_of id a.clients) refl none, omega (arith, one.many, beyond))
    ];
    many = omega (arith, one.many, two.many);
    export = two.export ∙ one.export;
  }
    where
      before_none : (id : SessionId) (was : Option ℕ) → place_of id a.clients ≡ was → place_of id b.clients ≡ None → place_of id a.clients ≡ None
      before_none id was is none = not_before a b one id was is none

  module _ (law : HappeningsAreOfOneVolume) (old mid new : Seen S) (joined : IsJoined old) (joined_then : IsJoined mid) (fed fed2 handed handed2 : SessionId → List ℕ) where
    pub size_stays : Remain old.sessions mid.sessions → bytes_of mid.chain ≡ bytes_of old.chain
    size_stays remain = sym joined_then.size ∙ ap (λ e. e.size) remain.export ∙ joined.size

    sent_then : (asked asked2 : SessionId → List Asked) (events events2 : List ClientEvent) → AskWhatWasSent asked events → AskWhatWasSent asked2 events2
        → AskWhatWasSent (λ id. asked id ++ asked2 id) (events ++ events2)
    sent_then asked asked2 events events2 one two id =
        flat_map-append (sent_by id) events events2
        ∙ ap (λ l. l ++ sent_in id events2) (one id)
        ∙ ap (λ l. map (held_under id) (asked id) ++ l) (two id)
        ∙ sym (map-append (held_under id) (asked id) (asked2 id))

    -- what happened in a world, and then in the one that it led to, happens in it
    pub happens_then : (v : View) (one : HappensSo about keeps may_leave_now old mid fed handed v) (two : HappensSo about keeps may_leave_now mid new fed2 handed2 one.w)
        → (both : HappensSo about keeps may_leave_now old new (λ id. fed id ++ fed2 id) (λ id. handed id ++ handed2 id) v) × (both.w ≡ two.w) × (both.events ≡ one.events ++ two.events)
    happens_then v one two =
        let size = size_stays one.remain in (
          record {
            w = two.w;
            events = one.events ++ two.events;
            asked = λ id. one.asked id ++ two.asked id;
            shows = two.shows;
            goes = goes_on v one.w two.w one.events two.events one.goes (subst (λ n. Goes n one.w two.w two.events) size two.goes);
            go_on = go_on_then old.sessions.clients mid.sessions.clients new.sessions.clients fed fed2 handed handed2 one.asked two.asked one.events two.events one.go_on two.go_on;
            sent = sent_then one.asked two.asked one.events two.events one.sent two.sent;
            remain = remain_then old.sessions mid.sessions new.sessions one.remain two.remain;
          },
          refl,
          refl,
        )

  -- the same, told otherwise
  pub happens_as : (old new : Seen S) (fed fed2 handed handed2 : SessionId → List ℕ) → ((id : SessionId) → fed id ≡ fed2 id) → ((id : SessionId) → handed id ≡ handed2 id)
      → (v : View) (one : HappensSo about keeps may_leave_now old new fed handed v) → (other : HappensSo about keeps may_leave_now old new fed2 handed2 v) × (other.w ≡ one.w) × (other.events ≡ one.events)
  happens_as old new fed fed2 handed handed2 feds handeds v one = (
    record {
      w = one.w;
      events = one.events;
      asked = one.asked;
      shows = one.shows;
      goes = one.goes;
      go_on = go_on_as old.sessions.clients new.sessions.clients fed fed2 handed handed2 one.asked one.asked one.events feds handeds (λ id. refl) one.go_on;
      sent = one.sent;
      remain = one.remain;
    },
    refl,
    refl,
  )
