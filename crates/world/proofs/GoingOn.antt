-- How sessions' histories go on, one call after another.
use Rattle.std.proofs.Common.{◌≡◌, ℕ, List, [], ◌++◌, length, map, arith, inl, ap, sym, subst, ◌∙◌}
use Rattle.std.proofs.lemmas.Grind.{flat_map-append}
use Rattle.std.proofs.lemmas.List.{append_assoc, append-nil, length-map}
use Rattle.flush_barrier.specs.declared.session_id.SessionId.{SessionId}
use Rattle.nbd_session.specs.Demand.{Asked}
use Rattle.nbd_session.specs.Lawful.{History}
use Rattle.nbd_session.specs.Replies.{WireReply}
use Rattle.world_model.specs.Event.{ClientEvent}
use Rattle.clients.specs.Calls.{AreAtPlaces}
use Rattle.clients.specs.Clients.{Client, Extends, GoOn, Sessions, replies_in, reply_by}
use Rattle.clients.proofs.Places.{place_by_ids}
use Rattle.world.specs.World.{Remain}

extends_on : (a b c : History) (fed fed2 handed handed2 : List ℕ) (asked asked2 : List Asked) (replies replies2 : List WireReply)
    → Extends a b fed handed asked replies → Extends b c fed2 handed2 asked2 replies2 → Extends a c (fed ++ fed2) (handed ++ handed2) (asked ++ asked2) (replies ++ replies2)
extends_on a b c fed fed2 handed handed2 asked asked2 replies replies2 one two = record {
  fed = two.fed ∙ ap (λ l. l ++ fed2) one.fed ∙ append_assoc a.fed fed fed2;
  handed = two.handed ∙ ap (λ l. l ++ handed2) one.handed ∙ append_assoc a.handed handed handed2;
  asked = two.asked ∙ ap (λ l. l ++ asked2) one.asked ∙ append_assoc a.asked asked asked2;
  replies = two.replies ∙ ap (λ l. l ++ replies2) one.replies ∙ append_assoc a.replies replies replies2;
}

pub go_on_then : (a b c : List Client) (fed fed2 handed handed2 : SessionId → List ℕ) (asked asked2 : SessionId → List Asked) (events events2 : List ClientEvent)
    → GoOn a b fed handed asked events → GoOn b c fed2 handed2 asked2 events2
    → GoOn a c (λ id. fed id ++ fed2 id) (λ id. handed id ++ handed2 id) (λ id. asked id ++ asked2 id) (events ++ events2)
go_on_then a b c fed fed2 handed handed2 asked asked2 events events2 one two histories going =
    let first = one histories going in
    let then = two first.0 first.1 in (
      then.0,
      then.1,
      λ id. subst (Extends (histories id) (then.0 id) (fed id ++ fed2 id) (handed id ++ handed2 id) (asked id ++ asked2 id)) (sym (flat_map-append (reply_by id) events events2))
          (extends_on (histories id) (first.0 id) (then.0 id) (fed id) (fed2 id) (handed id) (handed2 id) (asked id) (asked2 id) (replies_in id events) (replies_in id events2) (first.2 id) (then.2 id)),
    )

-- the same, told otherwise
pub go_on_as : (a b : List Client) (fed fed2 handed handed2 : SessionId → List ℕ) (asked asked2 : SessionId → List Asked) (events : List ClientEvent)
    → ((id : SessionId) → fed id ≡ fed2 id) → ((id : SessionId) → handed id ≡ handed2 id) → ((id : SessionId) → asked id ≡ asked2 id)
    → GoOn a b fed handed asked events → GoOn a b fed2 handed2 asked2 events
go_on_as a b fed fed2 handed handed2 asked asked2 events feds handeds askeds goes histories going =
    let then = goes histories going in (
      then.0,
      then.1,
      λ id. record {
        fed = (then.2 id).fed ∙ ap (λ l. (histories id).fed ++ l) (feds id);
        handed = (then.2 id).handed ∙ ap (λ l. (histories id).handed ++ l) (handeds id);
        asked = (then.2 id).asked ∙ ap (λ l. (histories id).asked ++ l) (askeds id);
        replies = (then.2 id).replies;
      },
    )

-- nothing came
pub go_on_still : (a : List Client) → GoOn a a (λ id. []) (λ id. []) (λ id. []) []
go_on_still a histories going = (
  histories,
  going,
  λ id. record {
    fed = sym (append-nil (histories id).fed);
    handed = sym (append-nil (histories id).handed);
    asked = sym (append-nil (histories id).asked);
    replies = sym (append-nil (histories id).replies);
  },
)

-- sessions of the same numbers stand where they stood
pub remain_by : (a b : Sessions) → map (λ c. c.session.id) b.clients ≡ map (λ c. c.session.id) a.clients → b.export ≡ a.export → Remain a b
remain_by a b ids export = record {
  places = λ id place there. place_by_ids id b.clients a.clients ids ∙ there;
  came = λ id place there. inl (place_by_ids id a.clients b.clients (sym ids) ∙ there);
  many =
      let one = length-map a.clients (λ c. c.session.id) in
      let other = length-map b.clients (λ c. c.session.id) in
      let both = ap length ids in
      omega (arith, one, other, both);
  export = export;
}

pub remain_at : (a b : Sessions) → AreAtPlaces a b → Remain a b
remain_at a b same = remain_by a b same.ids same.export
