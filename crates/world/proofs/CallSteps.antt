-- What the functions of a world cite: one call, by what it changed.
use Rattle.std.proofs.Common.{◌≡◌, ℕ, true, false, List, [], Option, Result, Ok, Err, refl, ap, sym, subst, inl, inr}
use Rattle.std.specs.Prelude.{◌⊎◌, ◌↔◌, IfNone, IfSome, IsErrOf, IsErr, None, Some}
use Rattle.flush_barrier.specs.Reply.{GivenReply}
use Rattle.local_store.specs.About.{About}
use Rattle.nbd_session.specs.declared.demand.Demand.{Demand}
use Rattle.world_model.specs.Requests.{Held}
use Rattle.chain.specs.Asking.{TakesOfOneVolume}
use Rattle.chain.specs.Chain.{Chained, RestsAt}
use Rattle.chain.specs.Member.{Linked}
use Rattle.chain.specs.Musters.{LacksAt}
use Rattle.chain.specs.Passing.{replies_in}
use Rattle.chain.specs.Chain as chain
use Rattle.clients.specs.Clients.{Sessions, held_of, no_one}
use Rattle.world.specs.Telling.{Answers, Moves, Tells, handed_by, handed_if, handed_in, handed_some, has_room, outputs_of}
use Rattle.world.specs.World.{IsJoined, IsOfOneVolume, Seen}
use Rattle.world.specs.declared.told.Told.{Told}
use Rattle.world.proofs.InnerSteps.{IsAlike, answers_so, joined_so, moves_alone, moves_so, rests_so}
use Rattle.world.proofs.TellingSteps.{places_still, told_places}

module _ {S : Type 0} (before after : Chained S) (sessions : Sessions) (queues : List (List Demand)) (joiner : Option S) where
  abbrev old : Seen S
  old = record { chain = before; sessions = sessions; queues = queues; joiner = joiner }

  -- ---- replies came to their sessions

  module _ (later : Sessions) (told : Told) (replies : List GivenReply) (tells : Tells told replies sessions later) where
    abbrev new : Seen S
    new = record { chain = after; sessions = later; queues = queues; joiner = joiner }

    pub told_joined : IsAlike before after → IsJoined old → IsJoined new
    told_joined alike joined = joined_so old new alike (told_places (has_room told) tells.lost replies sessions later (outputs_of told) tells.events tells.comes) refl joined

    pub told_did : {Did : List GivenReply → Chained S → Chained S → Type 0} → Did replies before after → Answers told old new Did
    told_did did = record { replies = replies; did = did; tells = tells; are = refl }

    pub told_so : {about : S → About} {keeps : S → List ℕ → Type 0} {may_leave_now : S → List ℕ → Type 0} → chain.IsOfOneVolume about keeps may_leave_now before after replies
        → IsOfOneVolume about keeps may_leave_now no_one (handed_by (outputs_of told)) old new
    told_so {about} {keeps} {may_leave_now} lead = answers_so about keeps may_leave_now old new (has_room told) tells.lost replies (outputs_of told) tells.events lead tells.comes refl refl

  -- ---- nobody was told anything

  abbrev moved : Seen S
  moved = record old { chain = after }

  pub moved_joined : IsAlike before after → IsJoined old → IsJoined moved
  moved_joined alike joined = joined_so old moved alike (places_still sessions) refl joined

  pub moved_did : {Did : Chained S → Chained S → Type 0} → Did before after → Moves old moved Did
  moved_did did = record { did = did; are = refl }

  -- the chain didn't change
  pub rested : after ≡ before → moved ≡ old
  rested same = ap (λ c. record old { chain = c }) same

  pub moved_so : {about : S → About} {keeps : S → List ℕ → Type 0} {may_leave_now : S → List ℕ → Type 0} → chain.IsOfOneVolume about keeps may_leave_now before after []
      → IsOfOneVolume about keeps may_leave_now no_one no_one old moved
  moved_so {about} {keeps} {may_leave_now} lead = moves_so about keeps may_leave_now old moved lead refl

  pub moved_alone : {about : S → About} {keeps : S → List ℕ → Type 0} {may_leave_now : S → List ℕ → Type 0} → joiner ≡ None → chain.IsOfOneVolumeAlone about keeps may_leave_now before after []
      → IsOfOneVolume about keeps may_leave_now no_one no_one old moved
  moved_alone {about} {keeps} {may_leave_now} alone lead = moves_alone about keeps may_leave_now old moved lead alone refl

  -- the same, where the answer is a refusal
  pub refused_so : {about : S → About} {keeps : S → List ℕ → Type 0} {may_leave_now : S → List ℕ → Type 0} {V E : Type 0} (r : Result V E) (told : V → Told) → IsErr r
      → chain.IsOfOneVolume about keeps may_leave_now before after [] → IsOfOneVolume about keeps may_leave_now no_one (handed_in told r) old moved
  refused_so (Ok v) told err lead = let no : false ≡ true = err in absurd (cc)
  refused_so (Err e) told err lead = moved_so lead

  pub refused_if_so : {about : S → About} {keeps : S → List ℕ → Type 0} {may_leave_now : S → List ℕ → Type 0} {V E : Type 0} (r : Result (Option V) E) (told : V → Told) → IsErr r
      → chain.IsOfOneVolume about keeps may_leave_now before after [] → IsOfOneVolume about keeps may_leave_now no_one (handed_if told r) old moved
  refused_if_so (Ok v) told err lead = let no : false ≡ true = err in absurd (cc)
  refused_if_so (Err e) told err lead = moved_so lead

  pub quiet_so : {about : S → About} {keeps : S → List ℕ → Type 0} {may_leave_now : S → List ℕ → Type 0} (r : Option Told) → r ≡ None
      → chain.IsOfOneVolume about keeps may_leave_now before after [] → IsOfOneVolume about keeps may_leave_now no_one (handed_some r) old moved
  quiet_so {about} {keeps} {may_leave_now} r none lead = subst (λ o. IsOfOneVolume about keeps may_leave_now no_one (handed_some o) old moved) (sym none) (moved_so lead)

-- ---- of the chain alone

pub rests_lead : {S : Type 0} {about : S → About} {keeps : S → List ℕ → Type 0} {may_leave_now : S → List ℕ → Type 0} (before after : Chained S) → after ≡ before → chain.IsOfOneVolume about keeps may_leave_now before after []
rests_lead {S} {about} {keeps} {may_leave_now} before after same v s events shows stands out =
    (v, subst (λ c. chain.Shows about keeps may_leave_now c v) (sym same) shows, record { happenings = []; each = []; inner = refl; era = (refl, refl); all = sym out })

pub rests_or_lacks : {S : Type 0} {Lacks : Linked S → Type 0} (at : ℕ) (before after : Chained S) → RestsAt at before after ⊎ LacksAt at before after Lacks → after ≡ before
rests_or_lacks at before after idle = elim idle [
  | inl rests ↦ rests.same
  | inr lacks ↦ lacks.same
]

pub none_lead : {S V : Type 0} (E : Type 0) {about : S → About} {keeps : S → List ℕ → Type 0} {may_leave_now : S → List ℕ → Type 0} (before after : Chained S) (o : Option V) (replies : V → List GivenReply) → o ≡ None
    → chain.IsOfOneVolume about keeps may_leave_now before after (replies_in {V = V} {E = E} replies (Ok o)) → chain.IsOfOneVolume about keeps may_leave_now before after []
none_lead {S} {V} E {about} {keeps} {may_leave_now} before after o replies none lead = subst (λ x. chain.IsOfOneVolume about keeps may_leave_now before after (replies_in {V = V} {E = E} replies (Ok x))) none lead

pub some_lead : {S V : Type 0} (E : Type 0) {about : S → About} {keeps : S → List ℕ → Type 0} {may_leave_now : S → List ℕ → Type 0} (before after : Chained S) (o : Option V) (x : V) (replies : V → List GivenReply) → o ≡ Some x
    → chain.IsOfOneVolume about keeps may_leave_now before after (replies_in {V = V} {E = E} replies (Ok o)) → chain.IsOfOneVolume about keeps may_leave_now before after (replies x)
some_lead {S} {V} E {about} {keeps} {may_leave_now} before after o x replies some lead = subst (λ y. chain.IsOfOneVolume about keeps may_leave_now before after (replies_in {V = V} {E = E} replies (Ok y))) some lead

pub some_of : {V : Type 0} (P : V → Type 0) (o : Option V) (x : V) → o ≡ Some x → IfSome o P → P x
some_of {V} P o x some all = subst (λ y. IfSome y P) some all

pub demand_takes : {S : Type 0} {about : S → About} {keeps : S → List ℕ → Type 0} {may_leave_now : S → List ℕ → Type 0} (at : ℕ) (before after : Chained S) (replies : List GivenReply) (d e : Demand) → d ≡ e
    → TakesOfOneVolume about keeps may_leave_now at (held_of e) before after replies → TakesOfOneVolume about keeps may_leave_now at (held_of d) before after replies
demand_takes {S} {about} {keeps} {may_leave_now} at before after replies d e same takes = subst (λ x. TakesOfOneVolume about keeps may_leave_now at (held_of x) before after replies) (sym same) takes

pub if_demand_takes : {S R : Type 0} (about : S → About) (keeps : S → List ℕ → Type 0) (may_leave_now : S → List ℕ → Type 0) (refused : Option R) (at : ℕ) (before after : Chained S) (replies : List GivenReply) (d e : Demand) → d ≡ e
    → IfNone refused (TakesOfOneVolume about keeps may_leave_now at (held_of e) before after replies) → IfNone refused (TakesOfOneVolume about keeps may_leave_now at (held_of d) before after replies)
if_demand_takes {S} {R} about keeps may_leave_now refused at before after replies d e same takes =
    subst (λ x. IfNone refused (TakesOfOneVolume about keeps may_leave_now at (held_of x) before after replies)) (sym same) takes

pub silent_takes : {S : Type 0} {about : S → About} {keeps : S → List ℕ → Type 0} {may_leave_now : S → List ℕ → Type 0} (at : ℕ) (before after : Chained S) (replies : List GivenReply) (held : Held) → replies ≡ []
    → TakesOfOneVolume about keeps may_leave_now at held before after [] → TakesOfOneVolume about keeps may_leave_now at held before after replies
silent_takes {S} {about} {keeps} {may_leave_now} at before after replies held none takes = subst (λ rs. TakesOfOneVolume about keeps may_leave_now at held before after rs) (sym none) takes

-- a world in which nothing changed, where there is no answer
pub quiet_same : {S : Type 0} {about : S → About} {keeps : S → List ℕ → Type 0} {may_leave_now : S → List ℕ → Type 0} (old new : Seen S) (r : Option Told) → r ≡ None → new ≡ old → IsOfOneVolume about keeps may_leave_now no_one (handed_some r) old new
quiet_same {S} {about} {keeps} {may_leave_now} old new r none same = subst (λ o. IsOfOneVolume about keeps may_leave_now no_one (handed_some o) old new) (sym none) (rests_so about keeps may_leave_now old new same)

-- a refusal is the same, whatever the answer would have been
pub refusal_as : {T U E : Type 0} (A : Type 0) (r e : E) → (IsErrOf {T = T} {E = E} (Err r) e ↔ A) → (IsErrOf {T = U} {E = E} (Err r) e ↔ A)
refusal_as {T} {U} {E} A r e same = (
  (λ is. same.0 (let errs : ◌≡◌ {A = Result U E} (Err r) (Err e) = is in let so : r ≡ e = cc errs in ap Err so)),
  (λ a. let errs : ◌≡◌ {A = Result T E} (Err r) (Err e) = same.1 a in let so : r ≡ e = cc errs in ap Err so),
)
