-- What it is that a member takes the first demand of its sessions, or refuses it.
use Rattle.std.proofs.Common.{◌≡◌, ℕ, zero, suc, Bool, false, true, List, [], ◌∷◌, ◌++◌, refl, ap, sym, subst, ◌∙◌, inl, inr}
use Rattle.std.specs.Prelude.{is_some, IfSome, None, Some, map, slice_get, slice_set}
use Rattle.std.specs.List.{AllZip}
use Rattle.std.proofs.lemmas.List.{map-set}
use Rattle.flush_barrier.specs.Reply.{GivenReply}
use Rattle.local_store.specs.About.{About}
use Rattle.nbd_session.specs.Demand.{owed_by}
use Rattle.nbd_session.specs.declared.demand.Demand.{Demand}
use Rattle.nbd_session.specs.declared.demand.Demand.TheVariants as demands
use Rattle.chain_core.specs.declared.refusal.Refusal.{Refusal}
use Rattle.chain_core.specs.declared.refusal.Refusal.TheVariants as refusals
use Rattle.chain_steps.specs.Node.{NodeState, is_stopped}
use Rattle.world_model.specs.Chain.{ArePutOut, reply_event}
use Rattle.chain_model.specs.View.{Member, View}
use Rattle.chain_model.specs.Laws.{with_members}
use Rattle.world_model.specs.Event.{ClientEvent}
use Rattle.chain_model.specs.Life.{Drop, IsTaken, MayRefuse, MemberTakes, OneBecomes, Refuse}
use Rattle.world_model.specs.Requests.{Held}
use Rattle.chain.specs.Asking.{HasPleaAt, TakesOfOneVolume}
use Rattle.chain.specs.Chain.{Chained, bytes_of}
use Rattle.chain.specs.Chain as chain
use Rattle.chain.specs.Member.{IsShown}
use Rattle.chain.proofs.Cells.{place_of, zip_at}
use Rattle.chain.proofs.Keeping.{goes_keeps, goes_leaves}
use Rattle.clients.specs.Clients.{held_of, no_one}
use Rattle.clients.specs.declared.output.Output.{Output}
use Rattle.world.specs.Taking.{code_of, refusing}
use Rattle.world.specs.Telling.{AreTold, handed_by}
use Rattle.world.specs.World.{Goes, IsOfOneVolume, Seen}
use Rattle.world.proofs.Going.{goes_as, goes_by, goes_on, goes_same, goes_taking}
use Rattle.world.proofs.InnerSteps.{joins_still, tells_so}
use Rattle.world.proofs.TellingSteps.{told_put_out}

-- ---- what waits for a member

pub record WaitsAt (ms : List Member) (at : ℕ) (held : List Held) : Type 0 where
  pub member : Member
  pub here : slice_get ms at ≡ Some member
  pub waits : member.demands ≡ held

pub waits_at : (ms : List Member) (queues : List (List Demand)) (at : ℕ) (queue : List Demand) → map (λ m. m.demands) ms ≡ map (map held_of) queues → slice_get queues at ≡ Some queue → WaitsAt ms at (map held_of queue)
waits_at ms [] at queue are here = let none : None ≡ Some queue = here in absurd (cc)
waits_at [] (q ∷ qs) at queue are here = let none : [] ≡ map held_of q ∷ map (map held_of) qs = are in absurd (cc)
waits_at (m ∷ ms) (q ∷ qs) zero queue are here =
    let same : Some q ≡ Some queue = here in
    let is : q ≡ queue = cc same in
    let lists : (m.demands ∷ map (λ x. x.demands) ms) ≡ (map held_of q ∷ map (map held_of) qs) = are in
    let first : m.demands ≡ map held_of q = cc lists in
    record { member = m; here = refl; waits = first ∙ ap (map held_of) is }
waits_at (m ∷ ms) (q ∷ qs) (suc at) queue are here =
    let lists : (m.demands ∷ map (λ x. x.demands) ms) ≡ (map held_of q ∷ map (map held_of) qs) = are in
    let rest : map (λ x. x.demands) ms ≡ map (map held_of) qs = cc lists in
    let found = waits_at ms qs at queue rest here in
    record { member = found.member; here = found.here; waits = found.waits }

zip_with : {A B : Type 0} (R : A → B → Type 0) (xs : List A) (ms : List B) (at : ℕ) (m n : B) → slice_get ms at ≡ Some m → ((x : A) → R x m → R x n) → AllZip R xs ms → AllZip R xs (slice_set ms at n)
zip_with R [] [] at m n here still are = are
zip_with R [] (b ∷ ms) at m n here still are = absurd are
zip_with R (x ∷ xs) [] at m n here still are = absurd are
zip_with R (x ∷ xs) (b ∷ ms) zero m n here still are = let same : Some b ≡ Some m = here in let is : b ≡ m = cc same in (still x (subst (R x) is are.0), are.1)
zip_with R (x ∷ xs) (b ∷ ms) (suc at) m n here still are = (are.0, zip_with R xs ms at m n here still are.1)

-- the view with these demands for the member at the place
abbrev pub with_demands : View → ℕ → Member → List Held → View
with_demands v at m held = with_members v (slice_set v.members at (record m { demands = held }))

pub demands_then : (v : View) (at : ℕ) (m : Member) (held : List Held) → map (λ x. x.demands) (with_demands v at m held).members ≡ slice_set (map (λ x. x.demands) v.members) at held
demands_then v at m held = map-set (λ x. x.demands) v.members at (record m { demands = held })

pub shows_demands : {S : Type 0} (about : S → About) (keeps : S → List ℕ → Type 0) (may_leave_now : S → List ℕ → Type 0) (c : Chained S) (v : View) (at : ℕ) (m : Member) (held : List Held)
    → slice_get v.members at ≡ Some m → chain.Shows about keeps may_leave_now c v → chain.Shows about keeps may_leave_now c (with_demands v at m held)
shows_demands about keeps may_leave_now c v at m held here shows = record {
  told = shows.told;
  recorded = shows.recorded;
  before = shows.before;
  writing = shows.writing;
  youngest = shows.youngest;
  links = shows.links;
  submits = shows.submits;
  members = zip_with (IsShown about keeps may_leave_now (bytes_of c)) c.members v.members at m (record m { demands = held }) here (λ x so. record {
    is = ap (λ (shown : Member). record shown { demands = held }) so.is;
    whole = so.whole;
    keeping = so.keeping;
    left = so.left;
    durable = so.durable;
    behind = so.behind;
  }) shows.members;
}

pub becomes_with : (v : View) (at : ℕ) (m : Member) (held : List Held) (Change : Member → Member → Type 0) → slice_get v.members at ≡ Some m → Change m (record m { demands = held }) → OneBecomes Change v (with_demands v at m held)
becomes_with v at m held Change here change =
    let place = place_of v.members at m here in
    record { above = place.above; old = m; new = record m { demands = held }; below = place.below; were = place.split; are = ap (with_members v) (place.setting (record m { demands = held })); change = change }

-- ---- the demand's own reply

put_out_split : (one other : List GivenReply) (events : List ClientEvent) → ArePutOut (one ++ other) events
    → (first later : List ClientEvent) × ArePutOut one first × ArePutOut other later × (events ≡ first ++ later)
put_out_split [] other events out = ([], events, refl, out, refl)
put_out_split (r ∷ rs) other events out = elim out [
  | inl rest ↦ let more = put_out_split rs other events rest in (more.0, more.1, inl more.2, more.3, more.4)
  | inr (after, is, rest) ↦ let more = put_out_split rs other after rest in (reply_event r ∷ more.0, more.1, inr (more.0, refl, more.2), more.3, is ∙ ap (λ l. reply_event r ∷ l) more.4)
]

held_session : (d : Demand) → (held_of d).session ≡ (owed_by d).session
held_session (demands.Read token offset len) = refl
held_session (demands.Write token write) = refl
held_session (demands.Fua token write) = refl
held_session (demands.Flush token) = refl

held_cookie : (d : Demand) → (held_of d).cookie ≡ (owed_by d).cookie
held_cookie (demands.Read token offset len) = refl
held_cookie (demands.Write token write) = refl
held_cookie (demands.Fua token write) = refl
held_cookie (demands.Flush token) = refl

-- the member at the place, which is shown so, may refuse with that error
may_refuse : {S : Type 0} (about : S → About) (keeps : S → List ℕ → Type 0) (may_leave_now : S → List ℕ → Type 0) (c : Chained S) (v : View) (at : ℕ) (m : Member) (refusal : Refusal) → chain.Shows about keeps may_leave_now c v
    → slice_get v.members at ≡ Some m → HasPleaAt at c refusal → MayRefuse (code_of refusal) m.node
may_refuse about keeps may_leave_now c v at m refusals.Memory shows here plea = tt
may_refuse about keeps may_leave_now c v at m refusals.Stopped shows here plea =
    let (own, there, so) = zip_at (IsShown about keeps may_leave_now (bytes_of c)) c.members v.members at plea.member shows.members plea.here in
    let both : Some own ≡ Some m = sym there ∙ here in
    let same : own ≡ m = cc both in
    let node : m.node ≡ plea.member.node.state = ap (λ (x : Member). x.node) (sym same) ∙ ap (λ (x : Member). x.node) so.is in
    let off : is_stopped m.node ≡ true = subst (λ (n : NodeState). is_stopped n ≡ true) (sym node) plea.stopped in
    inl (λ runs. let both : is_some m.node.stopped ≡ false = ap is_some runs in let clash : true ≡ false = sym off ∙ both in absurd cc)
may_refuse about keeps may_leave_now c v at m refusals.Full shows here plea = absurd plea
may_refuse about keeps may_leave_now c v at m refusals.NotMember shows here plea = absurd plea
may_refuse about keeps may_leave_now c v at m refusals.Early shows here plea = absurd plea
may_refuse about keeps may_leave_now c v at m refusals.Busy shows here plea = absurd plea

-- the member takes the demand, and its client is told that it was refused, or nothing where no session puts that out
refuses : (size : ℕ) (v : View) (at : ℕ) (d : Demand) (rest : List Held) (refusal : Refusal) (m : Member) (events : List ClientEvent) → MayRefuse (code_of refusal) m.node
    → slice_get v.members at ≡ Some m → m.demands ≡ held_of d ∷ rest → ArePutOut (refusing (owed_by d) refusal ∷ []) events → Goes size v (with_demands v at m rest) events
refuses size v at d rest refusal m events may here waits out = elim out [
  | inl none ↦ goes_by (MemberTakes Drop) v (with_demands v at m rest) events
      (becomes_with v at m rest (IsTaken size Drop events) here (record { demand = held_of d; rest = rest; first = waits; takes = (refl, none) }))
  | inr (more, is, last) ↦ goes_by (MemberTakes (Refuse (code_of refusal))) v (with_demands v at m rest) events
      (becomes_with v at m rest (IsTaken size (Refuse (code_of refusal)) events) here (record {
        demand = held_of d;
        rest = rest;
        first = waits;
        takes = (may, refl, is ∙ ap (λ l. reply_event (refusing (owed_by d) refusal) ∷ l) last ∙ rw (held_session d, held_cookie d) refl);
      }))
]

module _ {S : Type 0} (about : S → About) (keeps : S → List ℕ → Type 0) (may_leave_now : S → List ℕ → Type 0) (old new : Seen S) (at : ℕ) (demand : Demand) (rest : List Demand)
    (here : slice_get old.queues at ≡ Some (demand ∷ rest)) (queues : new.queues ≡ slice_set old.queues at rest) (joiner : new.joiner ≡ old.joiner) where
  queues_then : slice_set (map (map held_of) old.queues) at (map held_of rest) ≡ map (map held_of) new.queues
  queues_then = sym (map-set (map held_of) old.queues at rest) ∙ sym (ap (map (map held_of)) queues)

  some_at : (ms : List Member) → WaitsAt ms at (map held_of (demand ∷ rest)) → IfSome (slice_get ms at) (λ m. m.demands ≡ held_of demand ∷ map held_of rest)
  some_at ms found = subst (λ o. IfSome o (λ m. m.demands ≡ held_of demand ∷ map held_of rest)) (sym found.here) found.waits

  pub taken_so : (room lost : Bool) (replies : List GivenReply) (outputs : List Output) (events : List ClientEvent) → TakesOfOneVolume about keeps may_leave_now at (held_of demand) old.chain new.chain replies
      → AreTold room lost replies old.sessions new.sessions outputs events → IsOfOneVolume about keeps may_leave_now no_one (handed_by outputs) old new
  taken_so room lost replies outputs events takes told v s shows stands =
      let waits = waits_at v.members old.queues at (demand ∷ rest) shows.demands here in
      let did = takes v s events (map held_of rest) shows.chain stands (some_at v.members waits) (told_put_out room lost replies old.sessions new.sessions outputs events told) in
      tells_so about keeps may_leave_now old new room lost replies outputs events v did.0 told did.1
      (did.2.demands ∙ ap (λ l. slice_set l at (map held_of rest)) shows.demands ∙ queues_then) did.2.kept shows.kept (joins_still about keeps may_leave_now old new v did.0 joiner did.2.joiner shows.joins) (goes_taking v did.0 events did.2)

  pub refused_so : (room lost : Bool) (others : List GivenReply) (refusal : Refusal) → HasPleaAt at new.chain refusal → (outputs : List Output) (events : List ClientEvent) → chain.IsOfOneVolume about keeps may_leave_now old.chain new.chain others
      → AreTold room lost (others ++ refusing (owed_by demand) refusal ∷ []) old.sessions new.sessions outputs events → IsOfOneVolume about keeps may_leave_now no_one (handed_by outputs) old new
  refused_so room lost others refusal plea outputs events lead told v s shows stands =
      let out = put_out_split others (refusing (owed_by demand) refusal ∷ []) events (told_put_out room lost (others ++ refusing (owed_by demand) refusal ∷ []) old.sessions new.sessions outputs events told) in
      let did = lead v s out.0 shows.chain stands out.2 in
      let stays = goes_keeps v did.0 out.0 did.2 in
      let waits = waits_at did.0.members old.queues at (demand ∷ rest) (stays.1 ∙ shows.demands) here in
      let then = with_demands did.0 at waits.member (map held_of rest) in
      tells_so about keeps may_leave_now old new room lost (others ++ refusing (owed_by demand) refusal ∷ []) outputs events v then told
      (shows_demands about keeps may_leave_now new.chain did.0 at waits.member (map held_of rest) waits.here did.1)
      (demands_then did.0 at waits.member (map held_of rest) ∙ ap (λ l. slice_set l at (map held_of rest)) (stays.1 ∙ shows.demands) ∙ queues_then)
      stays.0 shows.kept (joins_still about keeps may_leave_now old new v then joiner (goes_leaves v did.0 out.0 did.2) shows.joins)
      (goes_same v then (out.0 ++ out.1) events (sym out.4) (goes_on v did.0 then out.0 out.1 (goes_as v did.0 out.0 did.2) (refuses (bytes_of old.chain) did.0 at demand (map held_of rest) refusal waits.member out.1
      (may_refuse about keeps may_leave_now new.chain did.0 at waits.member refusal did.1 waits.here plea) waits.here waits.waits out.3)))
