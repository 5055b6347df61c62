-- What a call that feeds a session did: the session took the piece, or nothing changed.
use Rattle.std.proofs.Common.{◌≡◌, ◌⊎◌, ℕ, ◌<◌, Option, Some, None, Result, Ok, Err, List, length, set, refl, ap, sym, subst, ◌∙◌, inl, inr}
use Rattle.std.specs.Prelude.{IfNone, IfOk, IfSome, IsSome, OnErr, get_or, slice_get}
use Rattle.std.proofs.lemmas.List.{set-get_or}
use Rattle.std.proofs.lemmas.Option.{get_or_from_slice_get, same_Some, slice_get_read}
use Rattle.flush_barrier.specs.declared.session_id.SessionId.{SessionId}
use Rattle.local_store.specs.About.{About}
use Rattle.nbd_session.specs.declared.demand.Demand.{Demand}
use Rattle.world_model.proofs.Counting.{all_got}
use Rattle.clients.specs.Clients.{Client, HasClient, Sessions, no_one, of_session, place_of}
use Rattle.world.specs.Reception.{Feeds, IsFed, fed_in}
use Rattle.world.specs.World.{IsJoined, IsOfOneVolume, Seen}
use Rattle.world.proofs.JoinedSteps.{joined_fed}
use Rattle.world.proofs.ReceptionSteps.{fed_one_volume, nothing_happens}

-- the session was fed, or nothing changed
abbrev pub IsFedOrNot : (id : SessionId) (piece : List ℕ) (old new : Sessions) (queue later : List Demand) (fed : SessionId → List ℕ)
    → Type 0
IsFedOrNot id piece old new queue later fed = (IsFed id piece old new queue later × (fed ≡ of_session id piece)) ⊎ ((new ≡ old) × (later ≡ queue) × (fed ≡ no_one))

pub fed_or_not : {V E : Type 0} (id : SessionId) (piece : List ℕ) (old new : Sessions) (queue later : List Demand) (r : Option (Result V E))
    → IfSome r (λ fed. IfOk fed (λ v. IsFed id piece old new queue later)) → IfNone r ((place_of id old.clients ≡ None) × (new ≡ old) × (later ≡ queue)) → IfSome r (λ fed. OnErr fed ((new ≡ old) × (later ≡ queue)))
    → IsFedOrNot id piece old new queue later (fed_in id piece r)
fed_or_not id piece old new queue later None fed none err = inr (none.1, none.2, refl)
fed_or_not id piece old new queue later (Some (Ok v)) fed none err = inl (fed, refl)
fed_or_not id piece old new queue later (Some (Err e)) fed none err = inr (err.0, err.1, refl)

-- the member of a session's client is in the chain
pub at_member : {S : Type 0} (w : Seen S) (id : SessionId) (at : ℕ) → IsJoined w
    → HasClient id w.sessions.clients (λ client. client.at ≡ at) → at < length w.queues
at_member w id at joined has =
    let within = all_got (λ (client : Client). client.at < length w.chain.members) w.sessions.clients has.place has.client has.here joined.places in
    subst (λ (n : ℕ). at < n) (sym joined.queues) (subst (λ (k : ℕ). k < length w.chain.members) has.is within)

-- the queue that a call reads at that place
pub queue_at : {S : Type 0} (w : Seen S) (id : SessionId) (at : ℕ) (queue : List Demand) → IsJoined w
    → HasClient id w.sessions.clients (λ client. client.at ≡ at) → queue ≡ get_or w.queues at queue → slice_get w.queues at ≡ Some queue
queue_at w id at queue joined has is = slice_get_read w.queues (length w.queues) at queue refl (at_member w id at joined has) is

set_still : (queues : List (List Demand)) (at : ℕ) (queue : List Demand) → slice_get queues at ≡ Some queue → set queues at queue ≡ queues
set_still queues at queue here = ap (set queues at) (sym (get_or_from_slice_get queues at queue queue here)) ∙ set-get_or queues at queue

module _ {S : Type 0} (w : Seen S) (id : SessionId) (piece : List ℕ) (at : ℕ) (queue later : List Demand) (sessions : Sessions) (here : slice_get w.queues at ≡ Some queue) where
  abbrev pub fed_world : Seen S
  fed_world = record w { sessions = sessions; queues = set w.queues at later }

  still : sessions ≡ w.sessions → later ≡ queue → fed_world ≡ w
  still same behind =
      ap (λ (s : Sessions). record w { sessions = s; queues = set w.queues at later }) same
      ∙ ap (λ (qs : List (List Demand)). record w { queues = qs }) (ap (set w.queues at) behind ∙ set_still w.queues at queue here)

  pub feed_joined : (fed : SessionId → List ℕ) → IsFedOrNot id piece w.sessions sessions queue later fed → IsJoined w → IsJoined fed_world
  feed_joined fed did joined = elim did [
    | inl is ↦ joined_fed w joined id piece at queue later sessions here is.0
    | inr (same, behind, none) ↦ subst IsJoined (sym (still same behind)) joined
  ]

  pub feed_one_volume : (about : S → About) (keeps : S → List ℕ → Type 0) (may_leave_now : S → List ℕ → Type 0) (fed : SessionId → List ℕ)
      → IsFedOrNot id piece w.sessions sessions queue later fed
      → IsOfOneVolume about keeps may_leave_now fed no_one w fed_world
  feed_one_volume about keeps may_leave_now fed did = elim did [
    | inl (is, was) ↦ subst (λ (f : SessionId → List ℕ). IsOfOneVolume about keeps may_leave_now f no_one w fed_world) (sym was) (fed_one_volume about keeps may_leave_now w id piece at queue later sessions here is)
    | inr (same, behind, none) ↦
        subst (λ (f : SessionId → List ℕ). IsOfOneVolume about keeps may_leave_now f no_one w fed_world) (sym none)
        (subst (λ (x : Seen S). IsOfOneVolume about keeps may_leave_now no_one no_one w x) (sym (still same behind)) (nothing_happens about keeps may_leave_now w))
  ]

  fed_at : HasClient id w.sessions.clients (λ client. client.at ≡ at) → (is : IsFed id piece w.sessions sessions queue later) → is.at ≡ at
  fed_at has is =
      let one : has.place ≡ is.did.place = same_Some has.place is.did.place (sym has.there ∙ is.did.there) in
      let client : has.client ≡ is.did.before = same_Some has.client is.did.before (sym has.here ∙ ap (slice_get w.sessions.clients) one ∙ is.did.here) in
      sym is.did.did.member ∙ ap (λ (c : Client). c.at) (sym client) ∙ has.is

  feeds : HasClient id w.sessions.clients (λ client. client.at ≡ at) → IsFed id piece w.sessions sessions queue later
      → Feeds id piece w fed_world
  feeds has is = record {
    at = is.at;
    queue = queue;
    demands = is.demands;
    did = is.did;
    here = ap (slice_get w.queues) (fed_at has is) ∙ here;
    are = ap (λ (qs : List (List Demand)). record w { sessions = sessions; queues = qs }) (ap (λ (k : ℕ). set w.queues k later) (sym (fed_at has is)) ∙ ap (set w.queues is.at) is.behind);
  }

  pub feed_feeds : {V E : Type 0} (r : Option (Result V E)) → HasClient id w.sessions.clients (λ client. client.at ≡ at)
      → IfSome r (λ fed. IfOk fed (λ v. IsFed id piece w.sessions sessions queue later))
      → IfSome r (λ fed. IfOk fed (λ v. Feeds id piece w fed_world))
  feed_feeds None has did = did
  feed_feeds (Some (Ok v)) has did = feeds has did
  feed_feeds (Some (Err e)) has did = did

-- a session that is fed, or refuses to be, is there
pub feed_known : {R : Type 0} (clients : List Client) (id : SessionId) (at : ℕ) (fed : Option R) → HasClient id clients (λ client. client.at ≡ at) → IfSome fed (λ r. IsSome (place_of id clients))
feed_known clients id at None has = tt
feed_known clients id at (Some r) has = rw has.there refl
