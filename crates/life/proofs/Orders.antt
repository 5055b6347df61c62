-- What the manager does to a world is, for clients, what its answer says: lemmas.
use Rattle.std.proofs.Common.{◌≡◌, ℕ, Bool, List, subst, sym, ◌∙◌}
use Rattle.std.specs.Prelude.{IfSome, Option, Some, None, Ok, Err, Result}
use Rattle.clients.specs.Clients.{no_one}
use Rattle.configurations.specs.Refusal as config
use Rattle.configurations.specs.declared.refusal.Refusal as configs
use Rattle.local_store.specs.About.{About}
use Rattle.world.specs.World.{IsOfOneVolume, Seen}
use Rattle.life.specs.Does.{TellsDone, TellsRecorded}
use Rattle.life.specs.Managed.{Managed}
use Rattle.life.specs.Played.{handed_of}
use Rattle.life.specs.declared.answer.Answer.{Answer}
use Rattle.life.specs.declared.answer.Answer.TheVariants.{Refused}
use Rattle.life.proofs.Answering.{done_so}

-- the managed world is the one that it was taken apart to, and what happened tells nobody anything
pub silent_so : {S : Type 0} (about : S → About) (keeps : S → List ℕ → Type 0) (may_leave_now : S → List ℕ → Type 0) (apart old : Managed S) (new : Seen S) (answer : Answer) → apart ≡ old → handed_of answer ≡ no_one
    → IsOfOneVolume about keeps may_leave_now no_one no_one apart.world new → IsOfOneVolume about keeps may_leave_now no_one (handed_of answer) old.world new
silent_so {S = S} about keeps may_leave_now apart old new answer is none one =
    done_so about keeps may_leave_now old.world new no_one answer none (subst (λ (m : Managed S). IsOfOneVolume about keeps may_leave_now no_one no_one m.world new) is one)

-- which answer tells that a record was written, and that it was refused
pub tells_done : (given : Result Bool configs.Refusal) (done : Bool) (answer same : Answer) → given ≡ Ok done → answer ≡ same → TellsDone done same → TellsRecorded given answer
tells_done given done answer same is result told = subst (λ (r : Result Bool configs.Refusal). TellsRecorded r answer) (sym is) (subst (TellsDone done) (sym result) told)

pub tells_refused : (given : Result Bool configs.Refusal) (refusal : configs.Refusal) (number : Option ℕ) (n : ℕ) (answer : Answer) → given ≡ Err refusal → number ≡ config.number_of refusal → number ≡ Some n → answer ≡ Refused n
    → TellsRecorded given answer
tells_refused given refusal number n answer is of some result =
    subst (λ (r : Result Bool configs.Refusal). TellsRecorded r answer) (sym is) (subst (λ (o : Option ℕ). IfSome o (λ k. answer ≡ Refused k)) (sym (sym of ∙ some)) result)

pub tells_nothing : (given : Result Bool configs.Refusal) (refusal : configs.Refusal) (number : Option ℕ) (answer : Answer) → given ≡ Err refusal → number ≡ config.number_of refusal → number ≡ None → TellsRecorded given answer
tells_nothing given refusal number answer is of none =
    subst (λ (r : Result Bool configs.Refusal). TellsRecorded r answer) (sym is) (subst (λ (o : Option ℕ). IfSome o (λ k. answer ≡ Refused k)) (sym (sym of ∙ none)) tt)
