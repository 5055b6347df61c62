-- What holds of every world holds when a session was fed, and what it asks waits.
use Rattle.std.proofs.Common.{◌≡◌, ℕ, ◌<◌, Some, List, [], ◌∷◌, length, map, set, ap, sym, subst, ◌∙◌}
use Rattle.std.specs.Prelude.{All, slice_get}
use Rattle.std.proofs.lemmas.List.{length-set}
use Rattle.std.proofs.lemmas.List.Elements.{All-append, All-cons, All-head, All-set, All-tail, All-weaker}
use Rattle.flush_barrier.specs.declared.session_id.SessionId.{SessionId}
use Rattle.nbd_session.specs.Demand.{IsAskedInside, asked_by}
use Rattle.nbd_session.specs.declared.demand.Demand.{Demand}
use Rattle.world_model.proofs.Counting.{all_got}
use Rattle.chain.specs.Chain.{bytes_of}
use Rattle.clients.specs.Calls.{IsDemandOf}
use Rattle.clients.specs.Clients.{Client, Sessions}
use Rattle.world.specs.Reception.{IsFed}
use Rattle.world.specs.World.{IsJoined, IsOfVolume, Seen}

-- clients at the same places are at members
at_members : (n : ℕ) (cs ds : List Client) → map (λ (c : Client). c.at) ds ≡ map (λ (c : Client). c.at) cs
    → All (λ (c : Client). c.at < n) cs → All (λ (c : Client). c.at < n) ds
at_members n [] [] same all = all
at_members n [] (d ∷ ds) same all = let no : d.at ∷ map (λ (c : Client). c.at) ds ≡ [] = same in absurd (cc)
at_members n (c ∷ cs) [] same all = let no : [] ≡ c.at ∷ map (λ (c : Client). c.at) cs = same in absurd (cc)
at_members n (c ∷ cs) (d ∷ ds) same all =
    let both : d.at ∷ map (λ (c : Client). c.at) ds ≡ c.at ∷ map (λ (c : Client). c.at) cs = same in
    let here : c.at ≡ d.at = cc both in
    All-cons (λ (c : Client). c.at < n) d ds (subst (λ (k : ℕ). k < n) here (All-head (λ (c : Client). c.at < n) c cs all)) (at_members n cs ds (cc both) (All-tail (λ (c : Client). c.at < n) c cs all))

module _ {S : Type 0} (w : Seen S) (joined : IsJoined w) where
  of_volume : (id : SessionId) (d : Demand) → IsDemandOf id w.sessions.board w.sessions.export.size d
      → IsOfVolume w.chain.id (bytes_of w.chain) d
  of_volume id d is = record { board = is.own_board ∙ joined.board; unnumbered = is.unnumbered; inside = subst (λ (size : ℕ). IsAskedInside size (asked_by d)) joined.size is.inside }

  -- a session was fed, and what it asks waits
  pub joined_fed : (id : SessionId) (piece : List ℕ) (at : ℕ) (queue later : List Demand) (sessions : Sessions)
      → slice_get w.queues at ≡ Some queue → IsFed id piece w.sessions sessions queue later
      → IsJoined (record w { sessions = sessions; queues = set w.queues at later })
  joined_fed id piece at queue later sessions here fed = record {
    board = fed.places.board ∙ joined.board;
    size = ap (λ export. export.size) fed.places.export ∙ joined.size;
    payload = ap (λ export. export.max_payload) fed.places.export ∙ joined.payload;
    area = ap (λ export. export.area) fed.places.export ∙ joined.area;
    places = at_members (length w.chain.members) w.sessions.clients sessions.clients fed.places.places joined.places;
    queues = length-set w.queues at later ∙ joined.queues;
    demands = All-set (All (IsOfVolume w.chain.id (bytes_of w.chain))) w.queues at later
        (subst (All (IsOfVolume w.chain.id (bytes_of w.chain))) (sym fed.behind) (All-append (IsOfVolume w.chain.id (bytes_of w.chain)) queue fed.demands
        (all_got (All (IsOfVolume w.chain.id (bytes_of w.chain))) w.queues at queue here joined.demands)
        (All-weaker (IsDemandOf id w.sessions.board w.sessions.export.size) (IsOfVolume w.chain.id (bytes_of w.chain)) (of_volume id) fed.demands fed.own)))
        joined.demands;
  }
