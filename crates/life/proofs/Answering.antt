-- What a call of a world is, is what its answer says: lemmas.
use Rattle.std.proofs.Common.{◌≡◌, ℕ, ◌<◌, ◌≤◌, arith, Bool, true, false, cond, List, [], length, refl, ap, inl, sym, subst, ◌∙◌}
use Rattle.std.specs.Prelude.{IfNone, IfOk, IfSome, None, Option, Some, Result, Ok, Err, ◌==◌}
use Rattle.std.proofs.Math.Nat.{le_refl}
use Rattle.chain_core.specs.declared.refusal.Refusal.{Refusal}
use Rattle.clients.specs.Clients.{no_one, of_session}
use Rattle.chain.specs.Chain.{Chained}
use Rattle.flush_barrier.specs.Reply.{GivenReply}
use Rattle.flush_barrier.specs.declared.session_id.SessionId.{SessionId}
use Rattle.local_store.specs.About.{About}
use Rattle.clients.specs.declared.output.Output.{Output}
use Rattle.world.specs.Reception.{fed_in, given_to}
use Rattle.world.specs.Telling.{Answers, Moves, handed_by, handed_if, handed_in, handed_some, outputs_of}
use Rattle.world.specs.World.{IsOfOneVolume, Seen}
use Rattle.world.specs.declared.told.Told.{Told}
use Rattle.world.proofs.Sending.{none_asked}
use Rattle.world.proofs.Going.{goes_nowhere}
use Rattle.world.proofs.GoingOn.{go_on_as, go_on_still}
use Rattle.life.specs.Calls.{AnswersOr}
use Rattle.life.specs.Played.{fed_to, handed_of, told_in, tried_in, went_in}
use Rattle.life.specs.declared.answer.Answer.{Answer}
use Rattle.life.specs.declared.answer.Answer.TheVariants.{Taken, HandedOut, Refused, Skipped}
use Rattle.life.specs.Does.{IsAtMember, IsSilent, TellsDone}

-- a step at a member's place, and at another
pub at_member : {S : Type 0} (at : ℕ) (answer : Answer) (old new : Seen S) (Did : Type 0) → at < length old.chain.members → Did → IsAtMember at answer old new Did
at_member at answer old new Did there did = record { nobody = λ beyond. absurd (omega (arith, there, beyond)); member = λ _. did }

pub nobody_there : {S : Type 0} (at : ℕ) (w : Seen S) (Did : Type 0) → length w.chain.members ≤ at → IsAtMember at Skipped w w Did
nobody_there at w Did beyond = record { nobody = λ _. (refl, refl); member = λ there. absurd (omega (arith, there, beyond)) }

-- what tells nobody anything was taken, and nothing goes out with it
silent_told : (answer : Answer) → IsSilent answer → (told : Told) × (answer ≡ Taken told) × (outputs_of told ≡ [])
silent_told (Taken told) is = (told, refl, is.1)
silent_told (HandedOut output) is = absurd is
silent_told (Refused number) is = absurd is
silent_told Skipped is = absurd is

pub silent_none : (answer : Answer) → IsSilent answer → handed_of answer ≡ no_one
silent_none answer silent = let (told, taken, none) = silent_told answer silent in ap handed_of taken ∙ ap handed_by none

pub done_none : (taken : Bool) (answer : Answer) → TellsDone taken answer → handed_of answer ≡ no_one
done_none true answer is = silent_none answer is
done_none false answer is = ap handed_of is

-- a commit began, or it wasn't the turn of one
pub begun_or : {S E : Type 0} (old new : Seen S) (Did : List GivenReply → Chained S → Chained S → Type 0) (Idle : Chained S → Chained S → Type 0) (given : Result (Option Told) E)
    → IfOk given (λ begun. IfSome begun (λ told. Answers told old new Did)) → IfOk given (λ begun. IfNone begun (Moves old new Idle)) → IfOk given (λ begun. AnswersOr begun old new Did Idle)
begun_or old new Did Idle (Ok begun) did idle = record { did = did; idle = idle }
begun_or old new Did Idle (Err e) did idle = tt

module _ {S : Type 0} (about : S → About) (keeps : S → List ℕ → Type 0) (may_leave_now : S → List ℕ → Type 0) (old new : Seen S) (fed : SessionId → List ℕ) (answer : Answer) where
  abbrev IsSo : (SessionId → List ℕ) → Type 0
  IsSo handed = IsOfOneVolume about keeps may_leave_now fed handed old new

  pub told_so : (given : Option Told) → answer ≡ told_in given → IsSo (handed_some given) → IsSo (handed_of answer)
  told_so None is one = subst (λ a. IsSo (handed_of a)) (sym is) one
  told_so (Some told) is one = subst (λ a. IsSo (handed_of a)) (sym is) one

  pub tried_so : (given : Result (Option Told) Refusal) → answer ≡ tried_in given → IsSo (handed_if (λ told. told) given) → IsSo (handed_of answer)
  tried_so (Ok None) is one = subst (λ a. IsSo (handed_of a)) (sym is) one
  tried_so (Ok (Some told)) is one = subst (λ a. IsSo (handed_of a)) (sym is) one
  tried_so (Err refusal) is one = subst (λ a. IsSo (handed_of a)) (sym is) one

  pub went_so : (given : Result Told Refusal) → answer ≡ went_in given → IsSo (handed_in (λ told. told) given) → IsSo (handed_of answer)
  went_so (Ok told) is one = subst (λ a. IsSo (handed_of a)) (sym is) one
  went_so (Err refusal) is one = subst (λ a. IsSo (handed_of a)) (sym is) one

  pub done_so : handed_of answer ≡ no_one → IsSo no_one → IsSo (handed_of answer)
  done_so is one = subst IsSo (sym is) one

  -- a piece was taken, or refused, or there is no such session
  module _ {V E : Type 0} (session : SessionId) (piece : List ℕ) (given : Option (Result V E)) where
    abbrev IsFedSo : (SessionId → List ℕ) → (SessionId → List ℕ) → Type 0
    IsFedSo fed handed = IsOfOneVolume about keeps may_leave_now fed handed old new

    pub fed_ok : (v : V) → given ≡ Some (Ok v) → IsSilent answer → IsFedSo (fed_in session piece given) no_one → IsFedSo (fed_to session piece answer) (handed_of answer)
    fed_ok v is silent one =
        let (told, taken, none) = silent_told answer silent in
        subst (λ a. IsFedSo (fed_to session piece a) (handed_of a)) (sym taken)
        (subst (λ os. IsFedSo (of_session session piece) (handed_by os)) (sym none) (subst (λ x. IsFedSo (fed_in session piece x) no_one) is one))

pub fed_err : {S : Type 0} (about : S → About) (keeps : S → List ℕ → Type 0) (may_leave_now : S → List ℕ → Type 0) (old new : Seen S) {V E : Type 0} (session : SessionId) (piece : List ℕ) (given : Option (Result V E)) (e : E) → given ≡ Some (Err e)
    → IsOfOneVolume about keeps may_leave_now (fed_in session piece given) no_one old new → IsOfOneVolume about keeps may_leave_now no_one no_one old new
fed_err about keeps may_leave_now old new session piece given e is one = subst (λ x. IsOfOneVolume about keeps may_leave_now (fed_in session piece x) no_one old new) is one

pub fed_none : {S : Type 0} (about : S → About) (keeps : S → List ℕ → Type 0) (may_leave_now : S → List ℕ → Type 0) (old new : Seen S) {V E : Type 0} (session : SessionId) (piece : List ℕ) (given : Option (Result V E)) → given ≡ None
    → IsOfOneVolume about keeps may_leave_now (fed_in session piece given) no_one old new → IsOfOneVolume about keeps may_leave_now no_one no_one old new
fed_none about keeps may_leave_now old new session piece given is one = subst (λ x. IsOfOneVolume about keeps may_leave_now (fed_in session piece x) no_one old new) is one

-- nothing happens
pub still : {S : Type 0} (about : S → About) (keeps : S → List ℕ → Type 0) (may_leave_now : S → List ℕ → Type 0) (w : Seen S) → IsOfOneVolume about keeps may_leave_now no_one no_one w w
still about keeps may_leave_now w v s shows stands = record {
  w = v;
  events = [];
  asked = no_one;
  shows = shows;
  goes = goes_nowhere v;
  go_on = go_on_still w.sessions.clients;
  sent = none_asked;
  remain = record { places = λ id place there. there; came = λ id place there. inl there; many = le_refl (length w.sessions.clients); export = refl };
}

abbrev no_bytes : SessionId → List ℕ
no_bytes id = []

-- nothing waited
pub handed_nothing : {S : Type 0} (about : S → About) (keeps : S → List ℕ → Type 0) (may_leave_now : S → List ℕ → Type 0) (old new : Seen S) (session : SessionId) (given : Option Output) → given ≡ None
    → IsOfOneVolume about keeps may_leave_now no_one (given_to session given) old new → IsOfOneVolume about keeps may_leave_now no_one no_one old new
handed_nothing about keeps may_leave_now old new session given is one v s shows stands =
    let did = one v s shows stands in
    record {
      w = did.w;
      events = did.events;
      asked = did.asked;
      shows = did.shows;
      goes = did.goes;
      go_on = go_on_as old.sessions.clients new.sessions.clients no_one no_one (given_to session given) no_one did.asked did.asked did.events (λ id. refl) (λ id. ap (λ o. given_to session o id) is ∙ none_of (session.0 == id.0)) (λ id. refl) did.go_on;
      sent = did.sent;
      remain = did.remain;
    }
  where
    none_of : (b : Bool) → cond b (no_bytes session) [] ≡ []
    none_of true = refl
    none_of false = refl
