-- What a call of members and the board is, with its replies told: what happens in the world, and what holds of it then.
use Rattle.std.proofs.Common.{◌≡◌, ℕ, Bool, List, [], ◌∷◌, length, refl, ap, sym, subst, ◌∙◌, inl, inr}
use Rattle.std.specs.Prelude.{◌<◌, ◌*◌, All, None, map, false, true}
use Rattle.std.proofs.lemmas.List.Elements.{All-map}
use Rattle.std.proofs.lemmas.List.{get_or-map, length-map}
use Rattle.flush_barrier.specs.Reply.{GivenReply}
use Rattle.flush_barrier.specs.declared.session_id.SessionId.{SessionId}
use Rattle.local_store.specs.About.{About}
use Rattle.world_model.specs.Chain.{ArePutOut}
use Rattle.chain_model.specs.View.{View}
use Rattle.world_model.specs.Event.{ClientEvent}
use Rattle.chain.specs.Chain.{Chained, bytes_of}
use Rattle.chain.specs.Chain as chain
use Rattle.chain.proofs.Keeping.{goes_keeps, goes_leaves}
use Rattle.clients.specs.Calls.{AreAtPlaces}
use Rattle.clients.specs.Clients.{held_of, no_one}
use Rattle.clients.specs.declared.output.Output.{Output}
use Rattle.world.specs.Telling.{AreTold, handed_by}
use Rattle.world.specs.World.{AreTakenUp, Goes, HappensSo, IsJoined, IsOfOneVolume, JoinsBy, Seen, Shows, sent_in}
use Rattle.world.proofs.Sending.{taken_up_still}
use Rattle.world.proofs.Going.{goes_as}
use Rattle.world.proofs.GoingOn.{remain_at}
use Rattle.world.proofs.TellingSteps.{told_go_on, told_places, told_put_out}

-- ---- nobody sent anything

pub none_sent : (id : SessionId) (rs : List GivenReply) (events : List ClientEvent) → ArePutOut rs events → sent_in id events ≡ []
none_sent id [] events none = ap (sent_in id) none
none_sent id (r ∷ rs) events out = elim out [
  | inl rest ↦ none_sent id rs events rest
  | inr (more, is, rest) ↦ ap (sent_in id) is ∙ none_sent id rs more rest
]

-- ---- one call

module _ {S : Type 0} (about : S → About) (keeps : S → List ℕ → Type 0) (may_leave_now : S → List ℕ → Type 0) where
  -- who joins stays
  pub joins_still : (old new : Seen S) (v w : View) → new.joiner ≡ old.joiner → w.joiner ≡ v.joiner → JoinsBy about keeps old.joiner v.joiner → JoinsBy about keeps new.joiner w.joiner
  joins_still old new v w store same joins = subst (λ o. JoinsBy about keeps o w.joiner) (sym store) (subst (JoinsBy about keeps old.joiner) (sym same) joins)

  -- replies come to their sessions in a world that has come so far
  pub tells_so : (old new : Seen S) (room lost : Bool) (replies : List GivenReply) (outputs : List Output) (events : List ClientEvent) (v w : View)
      → AreTold room lost replies old.sessions new.sessions outputs events
      → chain.Shows about keeps may_leave_now new.chain w → map (λ m. m.demands) w.members ≡ map (map held_of) new.queues → w.kept ≡ v.kept → AreTakenUp old.sessions.clients v.kept → JoinsBy about keeps new.joiner w.joiner
      → Goes (bytes_of old.chain) v w events
      → HappensSo about keeps may_leave_now old new no_one (handed_by outputs) v
  tells_so old new room lost replies outputs events v w told shows demands kept are joins goes =
      let places = told_places room lost replies old.sessions new.sessions outputs events told in
      record {
        w = w;
        events = events;
        asked = no_one;
        shows = record { chain = shows; demands = demands; kept = taken_up_still old.sessions new.sessions w.kept places (rw kept are); joins = joins };
        goes = goes;
        go_on = told_go_on room lost replies old.sessions new.sessions outputs events told;
        sent = λ id. none_sent id replies events (told_put_out room lost replies old.sessions new.sessions outputs events told);
        remain = remain_at old.sessions new.sessions places;
      }

  -- a call of the chain, with its replies
  answered : (old new : Seen S) (room lost : Bool) (replies : List GivenReply) (outputs : List Output) (events : List ClientEvent) (v : View) → Shows about keeps may_leave_now old v
      → ((w : View) × chain.Shows about keeps may_leave_now new.chain w × chain.Goes (bytes_of old.chain) v w events)
      → AreTold room lost replies old.sessions new.sessions outputs events → new.queues ≡ old.queues → new.joiner ≡ old.joiner → HappensSo about keeps may_leave_now old new no_one (handed_by outputs) v
  answered old new room lost replies outputs events v shows did told queues joiner =
      let stays = goes_keeps v did.0 events did.2 in
      tells_so old new room lost replies outputs events v did.0 told did.1 (stays.1 ∙ shows.demands ∙ sym (ap (map (map held_of)) queues)) stays.0 shows.kept
      (joins_still old new v did.0 joiner (goes_leaves v did.0 events did.2) shows.joins) (goes_as v did.0 events did.2)

  pub answers_so : (old new : Seen S) (room lost : Bool) (replies : List GivenReply) (outputs : List Output) (events : List ClientEvent)
      → chain.IsOfOneVolume about keeps may_leave_now old.chain new.chain replies → AreTold room lost replies old.sessions new.sessions outputs events → new.queues ≡ old.queues → new.joiner ≡ old.joiner
      → IsOfOneVolume about keeps may_leave_now no_one (handed_by outputs) old new
  answers_so old new room lost replies outputs events lead told queues joiner v s shows stands =
      answered old new room lost replies outputs events v shows (lead v s events shows.chain stands (told_put_out room lost replies old.sessions new.sessions outputs events told)) told queues joiner

  -- a call of the chain without a reply
  pub moves_so : (old new : Seen S) → chain.IsOfOneVolume about keeps may_leave_now old.chain new.chain [] → new ≡ record old { chain = new.chain }
      → IsOfOneVolume about keeps may_leave_now no_one no_one old new
  moves_so old new lead are = answers_so old new true false [] [] [] lead (ap (λ w. w.sessions) are, refl, refl, refl) (ap (λ w. w.queues) are) (ap (λ w. w.joiner) are)

  -- which is one of a chain that nobody joins
  pub moves_alone : (old new : Seen S) → chain.IsOfOneVolumeAlone about keeps may_leave_now old.chain new.chain [] → old.joiner ≡ None → new ≡ record old { chain = new.chain }
      → IsOfOneVolume about keeps may_leave_now no_one no_one old new
  moves_alone old new lead alone are v s shows stands =
      answered old new true false [] [] [] v shows (lead v s [] shows.chain (subst (λ o. JoinsBy about keeps o v.joiner) alone shows.joins) stands refl) (ap (λ w. w.sessions) are, refl, refl, refl) (ap (λ w. w.queues) are) (ap (λ w. w.joiner) are)

  -- nothing changed
  pub rests_so : (old new : Seen S) → new ≡ old → IsOfOneVolume about keeps may_leave_now no_one no_one old new
  rests_so old new same = subst (IsOfOneVolume about keeps may_leave_now no_one no_one old) (sym same)
      (moves_so old old (λ v s events shows stands out. (v, shows, record { happenings = []; each = []; inner = refl; era = (refl, refl); all = sym out })) refl)

-- ---- the chain and its sessions go together still

-- the chain is of the same board and sizes, with as many members
pub record IsAlike {S : Type 0} (old new : Chained S) : Type 0 where
  pub id : new.id ≡ old.id
  pub geometry : new.geometry ≡ old.geometry
  pub many : length new.members ≡ length old.members

of_map : {A B : Type 0} (f : A → B) (Q : B → Type 0) (xs : List A) → All Q (map f xs) → All (λ x. Q (f x)) xs
of_map f Q xs all k d within = subst Q (get_or-map f xs k d (f d) within) (all k (f d) (rw (length-map xs f) within))

pub joined_so : {S : Type 0} (old new : Seen S) → IsAlike old.chain new.chain → AreAtPlaces old.sessions new.sessions → new.queues ≡ old.queues → IsJoined old → IsJoined new
joined_so old new alike places queues joined = record {
  board = places.board ∙ joined.board ∙ sym alike.id;
  size = ap (λ e. e.size) places.export ∙ joined.size ∙ ap (λ g. 4096 * g.blocks) (sym alike.geometry);
  payload = ap (λ e. e.max_payload) places.export ∙ joined.payload ∙ ap (λ g. g.max_payload) (sym alike.geometry);
  area = ap (λ e. e.area) places.export ∙ joined.area ∙ ap (λ g. g.area) (sym alike.geometry);
  places = rw alike.many (of_map (λ c. c.at) (λ at. at < length old.chain.members) new.sessions.clients
      (subst (All (λ at. at < length old.chain.members)) (sym places.places) (All-map (λ at. at < length old.chain.members) (λ c. c.at) old.sessions.clients joined.places)));
  queues = ap length queues ∙ joined.queues ∙ sym alike.many;
  demands = rw (queues, alike.id, alike.geometry) joined.demands;
}

pub alike_still : {S : Type 0} (c : Chained S) → IsAlike c c
alike_still c = record { id = refl; geometry = refl; many = refl }
