-- A world begins: nothing waits, and there are no sessions.
use Rattle.std.proofs.Common.{◌≡◌, ℕ, zero, suc, ◌<◌, List, [], ◌∷◌, length, map, replicate, refl, ap, sym, subst, ◌∙◌}
use Rattle.std.specs.Prelude.{All, None}
use Rattle.std.proofs.lemmas.List.{length-replicate}
use Rattle.std.proofs.lemmas.List.Elements.{All-head, All-nil, All-replicate, All-tail}
use Rattle.std.proofs.lemmas.Slice.Zip.{AllZip-long}
use Rattle.local_store.specs.About.{About}
use Rattle.nbd_session.specs.declared.answer.Export.{Export}
use Rattle.nbd_session.specs.declared.demand.Demand.{Demand}
use Rattle.chain_model.specs.View.{Member, View}
use Rattle.world_model.specs.Requests.{Held}
use Rattle.chain.specs.Chain.{Chained, bytes_of}
use Rattle.chain.specs.Chain as chain
use Rattle.chain.specs.Member.{IsShown}
use Rattle.clients.specs.Clients.{Client, held_of}
use Rattle.world.specs.World.{AreTakenUp, HasNoClients, IsJoined, IsOfVolume, Seen, Shows}

-- nothing waits for members for whom none waits
none_waiting : (ms : List Member) → All (λ (m : Member). m.demands ≡ []) ms → map (λ (m : Member). m.demands) ms ≡ replicate (length ms) []
none_waiting [] none = refl
none_waiting (m ∷ ms) none =
    ap (λ (held : List Held). held ∷ map (λ (x : Member). x.demands) ms) (All-head (λ (x : Member). x.demands ≡ []) m ms none)
    ∙ ap (λ (l : List (List Held)). [] ∷ l) (none_waiting ms (All-tail (λ (x : Member). x.demands ≡ []) m ms none))

none_held : (n : ℕ) → map (map held_of) (replicate n []) ≡ replicate n []
none_held zero = refl
none_held (suc n) = ap (λ (l : List (List Held)). [] ∷ l) (none_held n)

module _ {S : Type 0} (c : Chained S) (export : Export) (queues : List (List Demand)) (none : queues ≡ replicate (length c.members) []) where
  -- the world of a chain without clients
  abbrev pub beginning : Seen S
  beginning = record { chain = c; sessions = record { board = c.id; export = export; clients = [] }; queues = queues; joiner = None }

  pub begun_joined : export.size ≡ bytes_of c → export.max_payload ≡ c.geometry.max_payload → export.area ≡ c.geometry.area → IsJoined beginning
  begun_joined size payload area = record {
    board = refl;
    size = size;
    payload = payload;
    area = area;
    places = All-nil (λ (client : Client). client.at < length c.members);
    queues = ap length none ∙ length-replicate (length c.members) [];
    demands = subst (All (All (IsOfVolume c.id (bytes_of c)))) (sym none) (All-replicate (All (IsOfVolume c.id (bytes_of c))) (length c.members) [] (All-nil (IsOfVolume c.id (bytes_of c))));
  }

  pub begun_shows : (about : S → About) (keeps : S → List ℕ → Type 0) (may_leave_now : S → List ℕ → Type 0) (v : View) → chain.Shows about keeps may_leave_now c v → HasNoClients v
      → Shows about keeps may_leave_now beginning v
  begun_shows about keeps may_leave_now v shows has = record {
    chain = shows;
    demands = none_waiting v.members has.none_wait
        ∙ ap (λ (n : ℕ). replicate n []) (AllZip-long (IsShown about keeps may_leave_now (bytes_of c)) c.members v.members shows.members)
        ∙ sym (none_held (length c.members)) ∙ ap (map (map held_of)) (sym none);
    kept = subst (AreTakenUp []) (sym has.none_kept) (record { many = refl; none = All-nil (λ held. held ≡ []) });
    joins = has.alone;
  }
