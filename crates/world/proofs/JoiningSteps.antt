-- A disk joins: what happens in the world, and what holds of it then.
use Rattle.std.proofs.Common.{◌≡◌, ℕ, ◌+◌, ◌*◌, ◌<◌, Option, None, Some, List, [], ◌∷◌, ◌++◌, length, map, refl, ap, sym, subst, ◌∙◌, inl, arith}
use Rattle.std.specs.Prelude.{All, false, is_some, true}
use Rattle.std.proofs.lemmas.List.{append-nil, length-append, map-append}
use Rattle.std.proofs.lemmas.List.Elements.{All-append, All-cons, All-nil, All-weaker}
use Rattle.std.proofs.Math.Nat.{le_refl}
use Rattle.local_store.specs.About.{About}
use Rattle.nbd_session.specs.declared.demand.Demand.{Demand}
use Rattle.chain_model.specs.Life.{JoinerLeft}
use Rattle.chain_model.specs.View.{Joiner, Member, View}
use Rattle.world_model.specs.Requests.{Held}
use Rattle.chain.specs.Chain.{Chained, bytes_of}
use Rattle.chain.specs.Chain as chain
use Rattle.chain.specs.Joining.{GoesJoining, HasEndedJoin, IsNobody, IsOfOneVolumeJoining, IsOfStore}
use Rattle.clients.specs.Clients.{Client, GoOn, Sessions, held_of, no_one}
use Rattle.world.specs.World.{AreTakenUp, HappensSo, IsJoined, IsOfOneVolume, IsOfVolume, JoinsBy, Remain, Seen, Shows}
use Rattle.world.proofs.GoingOn.{go_on_still}
use Rattle.world.proofs.Sending.{none_asked}

pub is_none : {A : Type 0} (o : Option A) → is_some o ≡ false → o ≡ None
is_none None is = refl
is_none (Some x) is = let clash : true ≡ false = is in absurd cc

-- no queue more
pub no_more_queues : (new old : List (List Demand)) → new ≡ old → map (map held_of) new ≡ map (map held_of) old ++ []
no_more_queues new old same = ap (map (map held_of)) same ∙ sym (append-nil (map (map held_of) old))

-- one more, in which nothing waits
pub one_queue_more : (old : List (List Demand)) → map (map held_of) (old ++ [] ∷ []) ≡ map (map held_of) old ++ [] ∷ []
one_queue_more old = map-append (map held_of) old ([] ∷ [])

module _ {S : Type 0} (about : S → About) (keeps : S → List ℕ → Type 0) (may_leave_now : S → List ℕ → Type 0) (old new : Seen S) (sessions : new.sessions ≡ old.sessions) where
  -- such things happened, and for newcomers this waits
  goes_joining : (v w : View) (more : List (List Held)) → Shows about keeps may_leave_now old v → chain.Shows about keeps may_leave_now new.chain w → JoinsBy about keeps new.joiner w.joiner → GoesJoining (bytes_of old.chain) v w more
      → map (map held_of) new.queues ≡ map (map held_of) old.queues ++ more → HappensSo about keeps may_leave_now old new no_one no_one v
  goes_joining v w more was shows joins goes queues = record {
    w = w;
    events = [];
    asked = no_one;
    shows = record {
      chain = shows;
      demands = goes.demands ∙ ap (λ l. l ++ more) was.demands ∙ sym queues;
      kept = subst (AreTakenUp new.sessions.clients) (sym goes.kept) (subst (λ (x : Sessions). AreTakenUp x.clients v.kept) (sym sessions) was.kept);
      joins = joins;
    };
    goes = record { happenings = goes.happenings; each = goes.each; era = goes.era; all = goes.all };
    go_on = subst (λ (x : Sessions). GoOn old.sessions.clients x.clients no_one no_one no_one []) (sym sessions) (go_on_still old.sessions.clients);
    sent = none_asked;
    remain = subst (Remain old.sessions) (sym sessions) (record { places = λ id place there. there; came = λ id place there. inl there; many = le_refl (length old.sessions.clients); export = refl });
  }

  -- a call of the chain from where this was so of who joins to where that is
  pub joining_so : (Was Is : Option Joiner → Type 0) (more : List (List Held)) → ((o : Option Joiner) → JoinsBy about keeps old.joiner o → Was o) → ((o : Option Joiner) → Is o → JoinsBy about keeps new.joiner o)
      → map (map held_of) new.queues ≡ map (map held_of) old.queues ++ more → IsOfOneVolumeJoining about keeps may_leave_now Was Is more old.chain new.chain → IsOfOneVolume about keeps may_leave_now no_one no_one old new
  joining_so Was Is more before after queues lead v s shows stands =
      let did = lead v s shows.chain (before v.joiner shows.joins) stands in
      goes_joining v did.0 more shows did.1 (after did.0.joiner did.2) did.3 queues

  module _ (store : S) where
    -- the store's disk joins
    pub joins_so : old.joiner ≡ None → new.joiner ≡ Some store → new.queues ≡ old.queues → IsOfOneVolumeJoining about keeps may_leave_now IsNobody (IsOfStore about keeps store) [] old.chain new.chain
        → IsOfOneVolume about keeps may_leave_now no_one no_one old new
    joins_so alone joined queues lead = joining_so IsNobody (IsOfStore about keeps store) [] (λ o is. subst (λ j. JoinsBy about keeps j o) alone is) (λ o is. subst (λ j. JoinsBy about keeps j o) (sym joined) is)
        (no_more_queues new.queues old.queues queues) lead

    -- its record is being written
    pub begins_so : old.joiner ≡ Some store → new.joiner ≡ Some store → new.queues ≡ old.queues → IsOfOneVolumeJoining about keeps may_leave_now (IsOfStore about keeps store) (IsOfStore about keeps store) [] old.chain new.chain
        → IsOfOneVolume about keeps may_leave_now no_one no_one old new
    begins_so was joins queues lead = joining_so (IsOfStore about keeps store) (IsOfStore about keeps store) [] (λ o is. subst (λ j. JoinsBy about keeps j o) was is) (λ o is. subst (λ j. JoinsBy about keeps j o) (sym joins) is)
        (no_more_queues new.queues old.queues queues) lead

    -- it is a member's
    pub ends_so : old.joiner ≡ Some store → new.joiner ≡ None → new.queues ≡ old.queues ++ [] ∷ [] → IsOfOneVolumeJoining about keeps may_leave_now (IsOfStore about keeps store) IsNobody ([] ∷ []) old.chain new.chain
        → IsOfOneVolume about keeps may_leave_now no_one no_one old new
    ends_so was gone queues lead = joining_so (IsOfStore about keeps store) IsNobody ([] ∷ []) (λ o is. subst (λ j. JoinsBy about keeps j o) was is) (λ o is. subst (λ j. JoinsBy about keeps j o) (sym gone) is)
        (ap (map (map held_of)) queues ∙ one_queue_more old.queues) lead

  -- who joined is given up
  pub gives_up_so : old.chain.writing ≡ None → new.chain ≡ old.chain → new.queues ≡ old.queues → new.joiner ≡ None → IsOfOneVolume about keeps may_leave_now no_one no_one old new
  gives_up_so none same queues gone v s shows stands =
      let w : View = record v { joiner = None } in
      let c = shows.chain in
      goes_joining v w [] shows
      (subst (λ x. chain.Shows about keeps may_leave_now x w) (sym same) (record { told = c.told; recorded = c.recorded; before = c.before; writing = c.writing; youngest = c.youngest; members = c.members; links = c.links; submits = c.submits }))
      (subst (λ o. JoinsBy about keeps o None) (sym gone) refl)
      (record {
        happenings = JoinerLeft ∷ [];
        each = [] ∷ [];
        era = (w, [], [], refl, (record { none = c.writing ∙ none; are = refl }, refl), (refl, refl));
        all = refl;
        kept = refl;
        demands = sym (append-nil (map (λ (m : Member). m.demands) v.members));
      })
      (ap (map (map held_of)) queues ∙ sym (append-nil (map (map held_of) old.queues)))

-- The chain and its sessions go together still, with one member more, for which nothing waits.
module _ {S : Type 0} (about : S → About) (store : S) (before after : Chained S) (sessions : Sessions) (queues : List (List Demand)) (was is : Option S) (ended : HasEndedJoin about store before after) where
  pub joined_more : IsJoined (record { chain = before; sessions = sessions; queues = queues; joiner = was }) → IsJoined (record { chain = after; sessions = sessions; queues = queues ++ [] ∷ []; joiner = is })
  joined_more joined =
      let id : after.id ≡ before.id = ap (λ (c : Chained S). c.id) ended.are in
      let geometry : after.geometry ≡ before.geometry = ap (λ (c : Chained S). c.geometry) ended.are in
      let many : length after.members ≡ length before.members + 1 = ap (λ (c : Chained S). length c.members) ended.are ∙ length-append before.members _ in
      record {
        board = joined.board ∙ sym id;
        size = joined.size ∙ ap (λ g. 4096 * g.blocks) (sym geometry);
        payload = joined.payload ∙ ap (λ g. g.max_payload) (sym geometry);
        area = joined.area ∙ ap (λ g. g.area) (sym geometry);
        places = All-weaker (λ (c : Client). c.at < length before.members) (λ c. c.at < length after.members) (λ c less. omega (arith, less, many)) sessions.clients joined.places;
        queues = length-append queues ([] ∷ []) ∙ ap (λ n. n + 1) joined.queues ∙ sym many;
        demands = rw (id, geometry) (All-append (All (IsOfVolume before.id (bytes_of before))) queues ([] ∷ []) joined.demands (All-cons (All (IsOfVolume before.id (bytes_of before))) [] [] (All-nil (IsOfVolume before.id (bytes_of before))) (All-nil (All (IsOfVolume before.id (bytes_of before))))));
      }
