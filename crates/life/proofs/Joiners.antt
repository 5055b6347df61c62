-- Who joins a world: no step changes that. Lemmas.
use Rattle.std.proofs.Common.{◌≡◌, ℕ, Bool, true, false, List, length, refl, ap, inl, inr, arith}
use Rattle.std.specs.Prelude.{Option, None, Some, Result, Ok, Err}
use Rattle.std.proofs.lemmas.Bool.{cases_lt}
use Rattle.chain.specs.Chain.{Chained}
use Rattle.chain_core.specs.declared.refusal.Refusal.{Refusal}
use Rattle.chain_steps.specs.declared.message.Envelope.{Envelope}
use Rattle.flush_barrier.specs.Reply.{GivenReply}
use Rattle.flush_barrier.specs.declared.session_id.SessionId.{SessionId}
use Rattle.local_store.specs.About.{About}
use Rattle.nbd_session.specs.declared.refusal.Refusal as sessions
use Rattle.std.specs.declared.alloc.AllocError.{AllocError}
use Rattle.world.specs.World.{Seen}
use Rattle.world.specs.declared.told.Told.{Told}
use Rattle.life.specs.Calls.{AnswersOr, BeginsCommits, Checkpoints, Comes, Connects, EndsInput, MovesOr, TakesFirst, TakesIn, Ticks}
use Rattle.life.specs.Does.{Acts, BeginsSome, Does, IsAtMember}
use Rattle.life.specs.declared.answer.Answer.{Answer}
use Rattle.life.specs.declared.step.Act.{Act}
use Rattle.life.specs.declared.step.Act.TheVariants as acts
use Rattle.life.specs.declared.step.Step.{Step}
use Rattle.life.specs.declared.step.Step.TheVariants as steps

-- who joins is the same
abbrev pub StaysJoined : {S : Type 0} → Seen S → Seen S → Type 0
StaysJoined old new = new.joiner ≡ old.joiner

module _ {S : Type 0} where
  still : (old new : Seen S) → new ≡ old → StaysJoined old new
  still old new same = ap (λ w. w.joiner) same

  moves_or : (taken : Bool) (old new : Seen S) (Did Idle : Chained S → Chained S → Type 0) → MovesOr taken old new Did Idle → StaysJoined old new
  moves_or true old new Did Idle is = ap (λ w. w.joiner) (is.did refl).are
  moves_or false old new Did Idle is = ap (λ w. w.joiner) (is.idle refl).are

  answers_or : (given : Option Told) (old new : Seen S) (Did : List GivenReply → Chained S → Chained S → Type 0) (Idle : Chained S → Chained S → Type 0) → AnswersOr given old new Did Idle → StaysJoined old new
  answers_or (Some told) old new Did Idle is = ap (λ w. w.joiner) is.did.are
  answers_or None old new Did Idle is = ap (λ w. w.joiner) is.idle.are

  comes_or : (links_of : Chained S → List (List Envelope)) (from at : ℕ) (given : Result (Option Told) Refusal) (old new : Seen S) (Idle : Chained S → Chained S → Type 0) (Did : List GivenReply → Chained S → Chained S → Type 0)
      → Comes links_of from at given old new Idle Did → StaysJoined old new
  comes_or links_of from at (Ok (Some told)) old new Idle Did is = ap (λ w. w.joiner) is.taken.are
  comes_or links_of from at (Ok None) old new Idle Did is = ap (λ w. w.joiner) is.none.are
  comes_or links_of from at (Err refusal) old new Idle Did is = ap (λ w. w.joiner) is.refused.are

  connects : (id : SessionId) (at : ℕ) (given : Result Bool AllocError) (old new : Seen S) → Connects id at given old new → StaysJoined old new
  connects id at (Ok true) old new is = ap (λ w. w.joiner) (is.begins refl).are
  connects id at (Ok false) old new is = still old new (is.known refl).1
  connects id at (Err error) old new is = still old new is.err

  takes_in : (id : SessionId) (piece : List ℕ) (given : Option (Result (Unit {0}) sessions.Refusal)) (old new : Seen S) → TakesIn id piece given old new → StaysJoined old new
  takes_in id piece None old new is = still old new is.none.1
  takes_in id piece (Some (Ok fed)) old new is = ap (λ w. w.joiner) is.fed.are
  takes_in id piece (Some (Err refusal)) old new is = still old new is.err

  ends : (id : SessionId) (taken : Bool) (old new : Seen S) → EndsInput id taken old new → StaysJoined old new
  ends id true old new is = ap (λ w. w.joiner) (is.ended refl).are
  ends id false old new is = still old new (is.idle refl).1

  pub joined_at_place : (at : ℕ) (answer : Answer) (old new : Seen S) (Did : Type 0) → IsAtMember at answer old new Did → (Did → StaysJoined old new) → StaysJoined old new
  joined_at_place at answer old new Did is did = elim (cases_lt at (length old.chain.members)) [ inl there ↦ did (is.member there) | inr beyond ↦ still old new (is.nobody beyond).1 ]

  module _ (about : S → About) (premise : Type 0) (keeps : S → List ℕ → Type 0) (is_pending : S → ℕ → Type 0) (may_leave_now : S → List ℕ → Type 0) (moment : S → ℕ) (left_since : S → ℕ → List ℕ → Type 0) (failures : S → ℕ) where
    take_first : (at : ℕ) (given : Option Told) (old new : Seen S) → TakesFirst premise about keeps is_pending may_leave_now moment left_since failures at given old new → StaysJoined old new
    take_first at (Some told) old new is = ap (λ w. w.joiner) is.taken.are
    take_first at None old new is = still old new is.none.1

    tick : (at : ℕ) (given : Result (Told × Option ℕ) Refusal) (old new : Seen S) → Ticks premise about keeps is_pending may_leave_now moment left_since failures at given old new → StaysJoined old new
    tick at (Ok (told, home)) old new is = ap (λ w. w.joiner) is.done.are
    tick at (Err refusal) old new is = ap (λ w. w.joiner) is.refused.1.are

    checkpoint : (at : ℕ) (given : Result Told Refusal) (old new : Seen S) → Checkpoints premise about keeps is_pending may_leave_now moment left_since failures at given old new → StaysJoined old new
    checkpoint at (Ok told) old new is = ap (λ w. w.joiner) is.done.are
    checkpoint at (Err refusal) old new is = elim is.refused [ inl (full, moves) ↦ ap (λ w. w.joiner) moves.are | inr (stopped, moves) ↦ ap (λ w. w.joiner) moves.are ]

    begin_commits : (at most : ℕ) (given : Result (Option Told) Refusal) (old new : Seen S) → BeginsCommits premise about keeps is_pending may_leave_now moment left_since failures at most given old new → StaysJoined old new
    begin_commits at most (Ok given) old new is = answers_or given old new _ _ is.done
    begin_commits at most (Err refusal) old new is = elim is.refused [ inl (full, moves) ↦ ap (λ w. w.joiner) moves.are | inr (stopped, moves) ↦ ap (λ w. w.joiner) moves.are ]

    begin_some : (at most : ℕ) (answer : Answer) (old new : Seen S) → BeginsSome premise about keeps is_pending may_leave_now moment left_since failures at most answer old new → StaysJoined old new
    begin_some at most answer old new is = elim (cases_lt 0 most) [
      | inl positive ↦ let (given, tells, did) = is.some positive in begin_commits at most given old new did
      | inr none ↦ still old new (is.none (omega (arith, none))).1
    ]

    acts_joined : (act : Act) (at : ℕ) (answer : Answer) (old new : Seen S) → Acts premise about keeps is_pending may_leave_now moment left_since failures act at answer old new → StaysJoined old new
    acts_joined acts.Take at answer old new (given, tells, did) = take_first at given old new did
    acts_joined (acts.Number from) at answer old new (given, tells, did) = comes_or _ _ _ given old new _ _ did
    acts_joined (acts.Pass from) at answer old new (given, tells, did) = comes_or _ _ _ given old new _ _ did
    acts_joined acts.Look at answer old new (taken, tells, did) = moves_or taken old new _ _ did
    acts_joined acts.AnswerFront at answer old new (given, tells, did) = answers_or given old new _ _ did.answered
    acts_joined acts.Raise at answer old new (taken, tells, did) = moves_or taken old new _ _ did
    acts_joined acts.Raised at answer old new (given, tells, did) = answers_or given old new _ _ did
    acts_joined acts.FindFront at answer old new (taken, tells, did) = moves_or taken old new _ _ did
    acts_joined acts.Crew at answer old new (taken, tells, did) = moves_or taken old new _ _ did
    acts_joined acts.Gauge at answer old new (taken, tells, did) = moves_or taken old new _ _ did
    acts_joined acts.Settle at answer old new (given, tells, did) = answers_or given old new _ _ did
    acts_joined (acts.BeginCommits most) at answer old new did = begin_some at most answer old new did
    acts_joined acts.EndCommit at answer old new (given, tells, did) = answers_or given old new _ _ did.ended
    acts_joined acts.Post at answer old new (taken, tells, did) = moves_or taken old new _ _ did
    acts_joined acts.Tick at answer old new (given, tells, did) = tick at given old new did
    acts_joined acts.Checkpoint at answer old new (given, tells, did) = checkpoint at given old new did
    acts_joined acts.Stop at answer old new (given, tells, did) = answers_or given old new _ _ did

    pub does_joined : (step : Step) (answer : Answer) (old new : Seen S) → Does premise about keeps is_pending may_leave_now moment left_since failures step answer old new → StaysJoined old new
    does_joined (steps.Connect id at) answer old new is = joined_at_place at answer old new _ is (λ (given, tells, did). connects id at given old new did)
    does_joined (steps.Bytes id piece) answer old new (given, tells, did) = takes_in id piece.items given old new did
    does_joined (steps.End id) answer old new (taken, tells, did) = ends id taken old new did
    does_joined (steps.HandOut id) answer old new (given, tells, did) = ap (λ w. w.joiner) did.are
    does_joined (steps.Member at act) answer old new is = joined_at_place at answer old new _ is (acts_joined act at answer old new)
