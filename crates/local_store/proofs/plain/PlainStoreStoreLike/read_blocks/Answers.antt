use Rattle.std.proofs.Common.{subst, ◌≡◌, ◌+◌, ◌*◌}
use Rattle.std.specs.Prelude.{slice_range}
use Rattle.local_store.proofs.Slices.{run_is_slice}
use Rattle.local_store.specs.Plain.{means_plain, runs_plain}
use Rattle.local_store.proofs.plain.PlainStoreStoreLike.read_blocks.Goals as goal

pub returns-clause-any_moment : goal.returns-clause-any_moment
returns-clause-any_moment c = λ model volume kept. runs_plain _ _ _ (λ x left. means_plain c.args.self.now volume x kept left)

pub returns-clause-read : goal.returns-clause-read
returns-clause-read c = λ model volume kept.
    let at = c.args.first * 4096 in
    let end = c.args.first * 4096 + c.args.count * 4096 in
    run_is_slice volume c.copy_from_slice.new.self c.args.first c.args.count
    (subst (λ v. c.copy_from_slice.new.self ≡ slice_range v at end) kept.is
    (subst (λ s. c.copy_from_slice.new.self ≡ slice_range s.volume at end) c.self.view_is
    (subst (λ v. c.copy_from_slice.new.self ≡ slice_range v at end) c.deref.ensures.value c.copy_from_slice.ensures.after)))
