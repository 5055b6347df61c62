use Rattle.std.proofs.Common.{◌≡◌, [], Err, List, Some, length, map, arith, ap, subst, sym, ◌∙◌, refl}
use Rattle.std.proofs.lemmas.Option.{slice_get_read}
use Rattle.recovery.specs.Choice.{NoneRecorded}
use Rattle.recovery.specs.declared.refusal.Refusal.{Refusal}
use Rattle.recovery.specs.declared.refusal.Refusal.TheVariants.{NoneReturned, NotInChain}
use Rattle.folder.specs.Found.{returned_as}
use Rattle.folder.specs.declared.found.OnDisk.{OnDisk}
use Rattle.folder.specs.declared.found.OnDisk.TheVariants.{Nothing, Volume}
use Rattle.folder.proofs.Finding.{none_left}
use Rattle.folder.proofs.Sources.{source_is_found, source_is_within}
use Rattle.folder.proofs.chosen.choose_from.Goals as goal

pub returns-in-Err-clause-strangers : goal.returns-in-Err-clause-strangers
returns-in-Err-clause-strangers g c = λ is.
    let e : c.in-Err.refusal ≡ NotInChain = cc in
    let same = c.deref.ensures.value ∙ c.in_ok-returned.ensures in
    subst (NoneRecorded c.args.recorded.now.members) same (c.in-Err.ensures.strangers.0 (ap (λ (r : Refusal). Err r) e)).1
