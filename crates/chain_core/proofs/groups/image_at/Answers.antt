use Rattle.std.proofs.Common.{◌≡◌, false, subst, sym}
use Rattle.std.proofs.lemmas.Bool.{both_ways}
use Rattle.version_table.specs.Held.{writes_upto}
use Rattle.version_table.specs.Whole.{ends_whole}
use Rattle.chain_core.specs.Groups.{IsBlank}
use Rattle.chain_core.proofs.Blanks.{blank_is_whole}
use Rattle.chain_core.proofs.Ranges.{upto_fit}
use Rattle.chain_core.proofs.StoreReads.{first, run_first}
use Rattle.chain_core.proofs.groups.image_at.Goals as goal

pub returns-in-Ok-Some-clause-read : goal.returns-in-Ok-Some-clause-read
returns-in-Ok-Some-clause-read g c = λ keeps volume kept long.
    rw c.in-Ok-Some.field-0-is at (c.in-Ok-Some.ensures.value volume (upto_fit _ _ c.args.front c.args.table.now long c.requires.inside))

pub returns-in-Ok-Some-clause-only_read : goal.returns-in-Ok-Some-clause-only_read
returns-in-Ok-Some-clause-only_read g c = first g.S.StoreLike.about g.S.StoreLike.keeps g.S.StoreLike.moment g.S.StoreLike.may_have_left_since g.S.StoreLike.may_leave_now g.met.S.StoreLike.means_now g.met.S.StoreLike.only_now c.args.store.now g.S.StoreLike.failures

pub returns-in-Ok-Some-clause-any_moment : goal.returns-in-Ok-Some-clause-any_moment
returns-in-Ok-Some-clause-any_moment g c = run_first g.S.StoreLike.about g.S.StoreLike.keeps g.S.StoreLike.moment g.S.StoreLike.may_have_left_since g.S.StoreLike.may_leave_now g.met.S.StoreLike.means_now g.met.S.StoreLike.only_now c.args.store.now

pub returns-in-Err-clause-any_moment : goal.returns-in-Err-clause-any_moment
returns-in-Err-clause-any_moment g c = run_first g.S.StoreLike.about g.S.StoreLike.keeps g.S.StoreLike.moment g.S.StoreLike.may_have_left_since g.S.StoreLike.may_leave_now g.met.S.StoreLike.means_now g.met.S.StoreLike.only_now c.args.store.now

pub returns-in-Err-clause-unread : goal.returns-in-Err-clause-unread
returns-in-Err-clause-unread g c = first g.S.StoreLike.about g.S.StoreLike.keeps g.S.StoreLike.moment g.S.StoreLike.may_have_left_since g.S.StoreLike.may_leave_now g.met.S.StoreLike.means_now g.met.S.StoreLike.only_now c.args.store.now g.S.StoreLike.failures

pub returns-in-Ok-clause-blank : goal.returns-in-Ok-clause-blank
returns-in-Ok-clause-blank g c =
    let writes = writes_upto c.args.table.now c.args.front in
    let apart : false ≡ ends_whole c.args.block writes = rw c.in-Ok-None.field-0-is at c.in-Ok-None.ensures.none in
    subst (IsBlank writes) (sym c.in-Ok.ensures) (λ touched only. absurd (both_ways (ends_whole c.args.block writes) (sym apart) (blank_is_whole c.args.block writes touched only)))
