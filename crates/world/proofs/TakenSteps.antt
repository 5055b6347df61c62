-- What the function that takes a demand cites.
use Rattle.std.proofs.Common.{◌≡◌, ℕ, Bool, List, [], ◌∷◌, ◌++◌, refl, ap, sym, subst, ◌∙◌, inl, inr}
use Rattle.std.specs.Prelude.{◌⊎◌, ◌<◌, All, IfNone, IfSome, None, Option, Some, length, slice_get, slice_index_or, slice_set}
use Rattle.std.specs.Option.{option_to_list}
use Rattle.std.proofs.lemmas.List.{append-nil, length-set, set-get_or}
use Rattle.std.proofs.lemmas.List.Elements.{All-head, All-set, All-tail}
use Rattle.std.proofs.lemmas.Option.{get_or_from_slice_get, slice_get_read}
use Rattle.flush_barrier.specs.Reply.{GivenReply}
use Rattle.local_store.specs.About.{About}
use Rattle.nbd_session.specs.Demand.{owed_by}
use Rattle.nbd_session.specs.declared.demand.Demand.{Demand}
use Rattle.nbd_session.specs.declared.demand.Demand.TheVariants as demands
use Rattle.chain_core.specs.declared.refusal.Refusal.{Refusal}
use Rattle.world_model.proofs.Counting.{all_behind}
use Rattle.world_model.specs.Event.{ClientEvent}
use Rattle.chain.specs.Asking.{HasPleaAt, TakesOfOneVolume}
use Rattle.chain.specs.Chain.{Chained, bytes_of}
use Rattle.chain.specs.Chain as chain
use Rattle.chain.proofs.Cells.{place_of}
use Rattle.clients.specs.Clients.{held_of, no_one}
use Rattle.clients.specs.declared.output.Output.{Output}
use Rattle.world.specs.Taking.{HasRefused, HasTaken, refusing}
use Rattle.world.specs.Telling.{AreTold, handed_by}
use Rattle.world.specs.World.{IsJoined, IsOfOneVolume, IsOfVolume, Seen}
use Rattle.world.proofs.AlikeSteps.{alike_changed, alike_submitted}
use Rattle.world.proofs.InnerSteps.{IsAlike, joined_so}
use Rattle.world.proofs.TakingSteps.{refused_so, taken_so}
use Rattle.world.proofs.TellingSteps.{told_places}

-- ---- a queue

pub queue_at : {S : Type 0} (w now : Seen S) (at : ℕ) (queue : List Demand) → w ≡ now → IsJoined w → at < length now.chain.members → queue ≡ slice_index_or w.queues at queue → slice_get w.queues at ≡ Some queue
queue_at w now at queue same joined within is = slice_get_read w.queues (length now.chain.members) at queue (ap (λ o. length o.chain.members) (sym same) ∙ sym joined.queues) within is

all_there : {A : Type 0} (P : A → Type 0) (xs : List A) (at : ℕ) (x : A) → slice_get xs at ≡ Some x → All P xs → P x
all_there P xs at x here all = let place = place_of xs at x here in All-head P x place.below (all_behind P place.above (x ∷ place.below) (subst (All P) place.split all))

pub of_volume_at : {S : Type 0} (w : Seen S) (at : ℕ) (demand : Demand) (rest : List Demand) → slice_get w.queues at ≡ Some (demand ∷ rest) → IsJoined w → IsOfVolume w.chain.id (bytes_of w.chain) demand
of_volume_at w at demand rest here joined = All-head (IsOfVolume w.chain.id (bytes_of w.chain)) demand rest (all_there (All (IsOfVolume w.chain.id (bytes_of w.chain))) w.queues at (demand ∷ rest) here joined.demands)

pub set_same : {A : Type 0} (xs : List A) (at : ℕ) (x y : A) → slice_get xs at ≡ Some x → y ≡ x → slice_set xs at y ≡ xs
set_same xs at x y here same = ap (slice_set xs at) (same ∙ sym (get_or_from_slice_get xs at x x here)) ∙ set-get_or xs at x

-- ---- the chain

alike_took : {S : Type 0} (premise : Type 0) (about : S → About) (keeps : S → List ℕ → Type 0) (moment : S → ℕ) (left_since : S → ℕ → List ℕ → Type 0) (at : ℕ) (d : Demand) (replies : List GivenReply) (old new : Chained S)
    → HasTaken premise about keeps moment left_since at d replies old new → IsAlike old new
alike_took premise about keeps moment left_since at (demands.Read token offset len) replies old new did = alike_changed at old new _ did
alike_took premise about keeps moment left_since at (demands.Write token write) replies old new did = alike_submitted at _ write old new did.0
alike_took premise about keeps moment left_since at (demands.Fua token write) replies old new did = alike_submitted at _ write old new did.0
alike_took premise about keeps moment left_since at (demands.Flush token) replies old new did = alike_changed at old new _ did.0

alike_refused : {S : Type 0} (premise : Type 0) (about : S → About) (failures : S → ℕ) (keeps : S → List ℕ → Type 0) (moment : S → ℕ) (left_since : S → ℕ → List ℕ → Type 0) (at : ℕ) (d : Demand) (others : List GivenReply) (refusal : Refusal) (old new : Chained S)
    → HasRefused premise about failures keeps moment left_since at d others refusal old new → IsAlike old new
alike_refused premise about failures keeps moment left_since at (demands.Read token offset len) others refusal old new did = alike_changed at old new _ did
alike_refused premise about failures keeps moment left_since at (demands.Write token write) others refusal old new did = alike_changed at old new _ did
alike_refused premise about failures keeps moment left_since at (demands.Fua token write) others refusal old new did = alike_changed at old new _ did
alike_refused premise about failures keeps moment left_since at (demands.Flush token) others refusal old new did = alike_changed at old new _ did

module _ {S : Type 0} (premise : Type 0) (about : S → About) (failures : S → ℕ) (keeps : S → List ℕ → Type 0) (moment : S → ℕ) (left_since : S → ℕ → List ℕ → Type 0) (at : ℕ) (demand : Demand) (before after : Chained S) (replies : List GivenReply) where
  abbrev Took : Type 0
  Took = HasTaken premise about keeps moment left_since at demand replies before after

  abbrev Refused : GivenReply → Type 0
  Refused reply = (refusal : Refusal) × (HasRefused premise about failures keeps moment left_since at demand replies refusal before after × HasPleaAt at after refusal × (reply ≡ refusing (owed_by demand) refusal))

  pub alike_either : (refused : Option GivenReply) → IfNone refused Took → IfSome refused Refused → IsAlike before after
  alike_either None took why = alike_took premise about keeps moment left_since at demand replies before after took
  alike_either (Some reply) took why = alike_refused premise about failures keeps moment left_since at demand replies why.0 before after why.1.0

  pub either_did : (refused : Option GivenReply) → IfNone refused Took → IfSome refused Refused
      → HasTaken premise about keeps moment left_since at demand (replies ++ option_to_list refused) before after
      ⊎ ((others : List GivenReply) × (refusal : Refusal) × HasRefused premise about failures keeps moment left_since at demand others refusal before after × HasPleaAt at after refusal × (replies ++ option_to_list refused ≡ others ++ refusing (owed_by demand) refusal ∷ []))
  either_did None took why = inl (subst (λ rs. HasTaken premise about keeps moment left_since at demand rs before after) (sym (append-nil replies)) took)
  either_did (Some reply) took why = inr (replies, why.0, why.1.0, why.1.1, ap (λ r. replies ++ r ∷ []) why.1.2)

module _ {S : Type 0} (about : S → About) (keeps : S → List ℕ → Type 0) (may_leave_now : S → List ℕ → Type 0) (old new : Seen S) (at : ℕ) (demand : Demand) (rest : List Demand)
    (here : slice_get old.queues at ≡ Some (demand ∷ rest)) (queues : new.queues ≡ slice_set old.queues at rest) (joiner : new.joiner ≡ old.joiner) (room lost : Bool) (replies : List GivenReply) (outputs : List Output) (events : List ClientEvent) where
  pub either_so : (Did : Refusal → Type 0) (refused : Option GivenReply) → IfNone refused (TakesOfOneVolume about keeps may_leave_now at (held_of demand) old.chain new.chain replies)
      → IfSome refused (λ reply. chain.IsOfOneVolume about keeps may_leave_now old.chain new.chain replies) → IfSome refused (λ reply. (refusal : Refusal) × (Did refusal × HasPleaAt at new.chain refusal × (reply ≡ refusing (owed_by demand) refusal)))
      → AreTold room lost (replies ++ option_to_list refused) old.sessions new.sessions outputs events → IsOfOneVolume about keeps may_leave_now no_one (handed_by outputs) old new
  either_so Did None takes lead why told = taken_so about keeps may_leave_now old new at demand rest here queues joiner room lost replies outputs events takes
      (subst (λ rs. AreTold room lost rs old.sessions new.sessions outputs events) (append-nil replies) told)
  either_so Did (Some reply) takes lead why told = refused_so about keeps may_leave_now old new at demand rest here queues joiner room lost replies why.0 why.1.1 outputs events lead
      (subst (λ r. AreTold room lost (replies ++ r ∷ []) old.sessions new.sessions outputs events) why.1.2 told)

-- ---- the world goes together still

pub joined_taken : {S : Type 0} (old new : Seen S) (at : ℕ) (demand : Demand) (rest : List Demand) (room lost : Bool) (replies : List GivenReply) (outputs : List Output) (events : List ClientEvent) → slice_get old.queues at ≡ Some (demand ∷ rest)
    → new.queues ≡ slice_set old.queues at rest → IsAlike old.chain new.chain → AreTold room lost replies old.sessions new.sessions outputs events → IsJoined old → IsJoined new
joined_taken old new at demand rest room lost replies outputs events here queues alike told joined =
    let mid = record new { queues = old.queues } in
    let so = joined_so old mid alike (told_places room lost replies old.sessions new.sessions outputs events told) refl joined in
    record {
      board = so.board;
      size = so.size;
      payload = so.payload;
      area = so.area;
      places = so.places;
      queues = ap length queues ∙ length-set old.queues at rest ∙ so.queues;
      demands = subst (All (All (IsOfVolume new.chain.id (bytes_of new.chain)))) (sym queues)
          (All-set (All (IsOfVolume new.chain.id (bytes_of new.chain))) old.queues at rest
          (All-tail (IsOfVolume new.chain.id (bytes_of new.chain)) demand rest (all_there (All (IsOfVolume new.chain.id (bytes_of new.chain))) old.queues at (demand ∷ rest) here so.demands)) so.demands);
    }

-- ---- nothing waits

pub same_queues : {S : Type 0} (w : Seen S) (at : ℕ) (queue later : List Demand) → slice_get w.queues at ≡ Some queue → later ≡ queue → record w { queues = slice_set w.queues at later } ≡ w
same_queues w at queue later here same = ap (λ qs. record w { queues = qs }) (set_same w.queues at queue later here same)

pub taken_none : {S R : Type 0} (w : Seen S) (at : ℕ) (queue later : List Demand) (r : Option R) → r ≡ None → slice_get w.queues at ≡ Some queue → queue ≡ [] → later ≡ []
    → IfNone r ((slice_get w.queues at ≡ Some []) × (record w { queues = slice_set w.queues at later } ≡ w))
taken_none w at queue later r none here empty then = subst (λ o. IfNone o ((slice_get w.queues at ≡ Some []) × (record w { queues = slice_set w.queues at later } ≡ w))) (sym none)
    (here ∙ ap Some empty, same_queues w at queue later here (then ∙ sym empty))
