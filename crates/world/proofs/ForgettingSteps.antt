-- A member that was removed is forgotten: what happens in the world, and what holds of it then.
use Rattle.std.proofs.Common.{◌≡◌, ℕ, ◌+◌, ◌*◌, ◌<◌, true, false, Option, Some, List, [], length, map, ap, sym, subst, ◌∙◌, inl, inr, arith}
use Rattle.std.specs.Prelude.{◌==◌, All, nat_lt, option_map, slice_get}
use Rattle.std.specs.List.{remove}
use Rattle.std.proofs.lemmas.Bool.{cases_eq, cases_lt, eq-eqb, le-ltb, lt-ltb, ne_eqb}
use Rattle.std.proofs.lemmas.List.{length-map}
use Rattle.std.proofs.lemmas.List.Edits.{length-remove}
use Rattle.std.proofs.lemmas.List.Elements.{All-map, All-weaker}
use Rattle.std.proofs.lemmas.Option.{slice_get-map, slice_get_within}
use Rattle.local_store.specs.About.{About}
use Rattle.nbd_session.specs.declared.demand.Demand.{Demand}
use Rattle.chain_model.specs.View.{Member}
use Rattle.world_model.specs.Requests.{Held}
use Rattle.chain.specs.Chain.{Chained, bytes_of}
use Rattle.chain.specs.Forgetting.{HasForgotten, IsOfOneVolumeForgetting, MayForget}
use Rattle.chain.proofs.Cells.{all_left, map_left}
use Rattle.clients.specs.Calls.{without}
use Rattle.clients.specs.Clients.{Client, GoOn, Sessions, held_of, no_one}
use Rattle.clients.proofs.LeavingSteps.{ids_without}
use Rattle.world.specs.World.{AreTakenUp, IsJoined, IsOfOneVolume, IsOfVolume, Seen}
use Rattle.world.proofs.GoingOn.{remain_by}
use Rattle.world.proofs.InnerSteps.{joins_still}
use Rattle.world.proofs.Sending.{none_asked}

-- ---- the sessions

-- the sessions without the member at the place
abbrev pub left_by : ℕ → Sessions → Sessions
left_by place old = record old { clients = map (without place) old.clients }

many_left : (place : ℕ) (cs : List Client) (kept : List (List Held)) → AreTakenUp cs kept → AreTakenUp (map (without place) cs) kept
many_left place cs kept are = record { many = are.many ∙ sym (length-map cs (without place)); none = are.none }

-- each is at a place of those that are left
place_left : (place count : ℕ) (client : Client) → place < count + 1 → 0 < count → client.at < count + 1 → (without place client).at < count
place_left place count client there some within = elim (cases_eq client.at place) [
  | inl same ↦ let here : (client.at == place) ≡ true = eq-eqb client.at place same in rw here some
  | inr other ↦
      let past : (client.at == place) ≡ false = ne_eqb client.at place other in
      elim (cases_lt place client.at) [
        | inl behind ↦ let is : nat_lt place client.at ≡ true = lt-ltb place client.at behind in rw (past, is) (omega (arith, behind, within))
        | inr before ↦ let is : nat_lt place client.at ≡ false = le-ltb place client.at before in rw (past, is) (omega (arith, before, other, there))
      ]
]

-- ---- what happens

module _ {S : Type 0} (about : S → About) (keeps : S → List ℕ → Type 0) (may_leave_now : S → List ℕ → Type 0) (old new : Seen S) (at : ℕ) where
  pub forgets_so : slice_get old.queues at ≡ Some [] → new.queues ≡ remove old.queues at → new.joiner ≡ old.joiner → new.sessions ≡ left_by at old.sessions → GoOn old.sessions.clients (map (without at) old.sessions.clients) no_one no_one no_one []
      → IsOfOneVolumeForgetting about keeps may_leave_now at old.chain new.chain → IsOfOneVolume about keeps may_leave_now no_one no_one old new
  forgets_so empty queues joiner sessions go_on lead v s shows stands =
      let nothing : slice_get (map (λ (m : Member). m.demands) v.members) at ≡ Some [] =
      ap (λ l. slice_get l at) shows.demands ∙ slice_get-map (map held_of) old.queues at ∙ ap (option_map (map held_of)) empty in
      let (w, chain_shows, goes) = lead v s shows.chain nothing stands in
      record {
        w = w;
        events = [];
        asked = no_one;
        shows = record {
          chain = chain_shows;
          demands = goes.demands ∙ ap (λ l. remove l at) shows.demands ∙ sym (map_left (map held_of) old.queues at) ∙ sym (ap (map (map held_of)) queues);
          kept = subst (λ (x : Sessions). AreTakenUp x.clients w.kept) (sym sessions) (subst (AreTakenUp (map (without at) old.sessions.clients)) (sym goes.kept) (many_left at old.sessions.clients v.kept shows.kept));
          joins = joins_still about keeps may_leave_now old new v w joiner goes.joiner shows.joins;
        };
        goes = record { happenings = goes.happenings; each = goes.each; era = goes.era; all = goes.all };
        go_on = subst (λ (x : Sessions). GoOn old.sessions.clients x.clients no_one no_one no_one []) (sym sessions) go_on;
        sent = none_asked;
        remain = remain_by old.sessions new.sessions
            (ap (λ (x : Sessions). map (λ c. c.session.id) x.clients) sessions ∙ ids_without at old.sessions.clients)
            (ap (λ (x : Sessions). x.export) sessions);
      }

-- ---- what holds then

-- The chain and its sessions go together still, without the member.
module _ {S : Type 0} (before after : Chained S) (sessions : Sessions) (queues : List (List Demand)) (joiner : Option S) (at : ℕ) (store : S) where
  pub forgotten_less : MayForget at before → HasForgotten at store before after → IsJoined (record { chain = before; sessions = sessions; queues = queues; joiner = joiner })
      → IsJoined (record { chain = after; sessions = left_by at sessions; queues = remove queues at; joiner = joiner })
  forgotten_less may did joined =
      let id : after.id ≡ before.id = ap (λ (c : Chained S). c.id) did.are in
      let geometry : after.geometry ≡ before.geometry = ap (λ (c : Chained S). c.geometry) did.are in
      let within : at < length before.members = slice_get_within before.members at did.member did.here in
      let queued = joined.queues in
      let many : length after.members + 1 ≡ length before.members = ap (λ (c : Chained S). length c.members + 1) did.are ∙ length-remove before.members at within in
      let fewer : length (remove queues at) + 1 ≡ length queues = length-remove queues at (omega (arith, within, queued)) in
      let others = may.others in
      record {
        board = joined.board ∙ sym id;
        size = joined.size ∙ ap (λ g. 4096 * g.blocks) (sym geometry);
        payload = joined.payload ∙ ap (λ g. g.max_payload) (sym geometry);
        area = joined.area ∙ ap (λ g. g.area) (sym geometry);
        places = All-map (λ (c : Client). c.at < length after.members) (without at) sessions.clients
            (All-weaker (λ (c : Client). c.at < length before.members) (λ c. (without at c).at < length after.members)
            (λ c less. place_left at (length after.members) c (omega (arith, within, many)) (omega (arith, others, many)) (omega (arith, less, many))) sessions.clients joined.places);
        queues = omega (arith, many, fewer, queued);
        demands = rw (id, geometry) (all_left (All (IsOfVolume before.id (bytes_of before))) queues at joined.demands);
      }
