use Rattle.std.proofs.Common.{◌≡◌, ◌∙◌, ap, sym, subst, ℕ, ◌*◌, length, inl, inr}
use Rattle.std.specs.Prelude.{IfErr, IsSome, Err, Ok, OnOk}
use Rattle.std.proofs.lemmas.Bool.{both_ways}
use Rattle.disk_model.specs.Moments.{weaker}
use Rattle.local_store.specs.Installer.{finished_meaning}
use Rattle.local_store.specs.Meaning.{Means}
use Rattle.rejoin_catchup.specs.Receiving.{IfReady, MayBeLeft, disk_of}
use Rattle.rejoin_catchup.specs.declared.piece.Piece.{Piece}
use Rattle.rejoin_catchup.specs.declared.piece.Piece.TheVariants.{End}
use Rattle.rejoin_catchup.specs.Refusal as taking
use Rattle.joining.specs.Copying.{IsCopyOf, IsInstalled, Seen}
use Rattle.joining.specs.Giving.{IsMeantBy}
use Rattle.joining.proofs.Ending.{end_refused, end_taken, if_some, installed_means, of_slot, rest_leaves, took_all}
use Rattle.rejoin_catchup.specs.declared.refusal.Refusal.TheVariants.{Store}
use Rattle.joining.proofs.Putting.{leads_refused, some_of, there_behind}
use Rattle.joining.proofs.copying.Copying.end.Goals as goal

pub returns-then-is_broken-clause-any_moment_refused : goal.returns-then-is_broken-clause-any_moment_refused
returns-then-is_broken-clause-any_moment_refused g c = λ keeps volume long sb was. if_some _ (disk_of c.args.self.receiver) (λ before here.
    let old : Seen g.row.D.Denot = record { at = c.self.inside.at; front = c.self.inside.front; sender = c.self.inside.sender; receiver = c.self.inside.receiver; rests = c.self.inside.rests; broken = c.self.inside.broken } in
    let view = c.self.view_is in
    let taken = took_all g.D.Disk.gives g.D.Disk.may_leave_now sb volume old (subst (IsCopyOf g.D.Disk.gives g.D.Disk.may_leave_now sb volume) (sym view) was)
    (λ copy copied. c.end-end.ensures.whole volume copy (long ∙ ap (λ (s : Seen g.row.D.Denot). 4096 * length s.sender.marks) (sym view)) copied) in
    rest_leaves g.D.Disk.gives g.D.Disk.may_leave_now g.D.Disk.moment g.D.Disk.may_have_left_since (g.met.D.Disk.only_now keeps) sb volume c.self.inside.receiver taken (IsMeantBy sb c.args.self.front volume) (λ d nothing. inl nothing)
    before c.left.result (ap (λ (s : Seen g.row.D.Denot). disk_of s.receiver) view ∙ here) c.left.ensures)

pub left-requires-in-Err-Store : goal.left-requires-in-Err-Store
left-requires-in-Err-Store g c =
    there_behind (disk_of c.self.inside.receiver) (disk_of c.take.new.self) _ c.self.invariant.0.there (leads_refused _ c.self.inside.receiver c.take.new.self c.take.result c.take.ensures.size c.in-Err-Store.field-0 c.in-Err-Store.is)

pub returns-in-Err-Store-clause-any_moment_refused : goal.returns-in-Err-Store-clause-any_moment_refused
returns-in-Err-Store-clause-any_moment_refused g c = λ keeps volume long sb was. if_some _ (disk_of c.args.self.receiver) (λ before here.
    let old : Seen g.row.D.Denot = record { at = c.self.inside.at; front = c.self.inside.front; sender = c.self.inside.sender; receiver = c.self.inside.receiver; rests = c.self.inside.rests; broken = c.self.inside.broken } in
    let view = c.self.view_is in
    let taken = took_all g.D.Disk.gives g.D.Disk.may_leave_now sb volume old (subst (IsCopyOf g.D.Disk.gives g.D.Disk.may_leave_now sb volume) (sym view) was)
    (λ copy copied. c.end-end.ensures.whole volume copy (long ∙ ap (λ (s : Seen g.row.D.Denot). 4096 * length s.sender.marks) (sym view)) copied) in
    weaker g.D.Disk.moment g.D.Disk.may_have_left_since before c.left-in-Err-Store.result (MayBeLeft sb volume c.end-end.result) (IsMeantBy sb c.args.self.front volume)
    (λ d left. subst (λ (n : ℕ). IsMeantBy sb n volume d) (ap (λ (s : Seen g.row.D.Denot). s.front) view) (subst (λ (p : Piece). MayBeLeft sb volume p d) c.end-end.ensures.piece left)) (end_refused _ c.self.inside.receiver c.take.new.self c.take.result (c.take.ensures.any_moment keeps sb volume taken) c.in-Err-Store.field-0 c.in-Err-Store.is c.left-in-Err-Store.result c.left-in-Err-Store.ensures before (ap (λ (s : Seen g.row.D.Denot). disk_of s.receiver) view ∙ here)))

pub returns-in-Err-Store-clause-size_refused : goal.returns-in-Err-Store-clause-size_refused
returns-in-Err-Store-clause-size_refused g c = if_some _ (disk_of c.args.self.receiver) (λ before here.
    let view = c.self.view_is in
    end_refused _ c.self.inside.receiver c.take.new.self c.take.result c.take.ensures.size c.in-Err-Store.field-0 c.in-Err-Store.is c.left-in-Err-Store.result c.left-in-Err-Store.ensures before (ap (λ (s : Seen g.row.D.Denot). disk_of s.receiver) view ∙ here))

pub returns-in-Err-Store-clause-cause : goal.returns-in-Err-Store-clause-cause
returns-in-Err-Store-clause-cause g c = if_some _ (disk_of c.args.self.receiver) (λ before here.
    let view = c.self.view_is in
    subst (λ r. IfErr r (taking.IsCaused (g.D.Disk.failures before) (g.D.Disk.failures c.left-in-Err-Store.result))) (c.in-Err-Store.is ∙ ap Err c.in-Err-Store.field-0-is)
    (end_refused _ c.self.inside.receiver c.take.new.self c.take.result c.take.ensures.cause c.in-Err-Store.field-0 c.in-Err-Store.is c.left-in-Err-Store.result c.left-in-Err-Store.ensures before (ap (λ (s : Seen g.row.D.Denot). disk_of s.receiver) view ∙ here)))

pub returns-clause-receipt : goal.returns-clause-receipt
returns-clause-receipt g c = λ keeps volume long sb was.
    let old : Seen g.row.D.Denot = record { at = c.self.inside.at; front = c.self.inside.front; sender = c.self.inside.sender; receiver = c.self.inside.receiver; rests = c.self.inside.rests; broken = c.self.inside.broken } in
    let view = c.self.view_is in
    let taken = took_all g.D.Disk.gives g.D.Disk.may_leave_now sb volume old (subst (IsCopyOf g.D.Disk.gives g.D.Disk.may_leave_now sb volume) (sym view) was)
    (λ copy copied. c.end-end.ensures.whole volume copy (long ∙ ap (λ (s : Seen g.row.D.Denot). 4096 * length s.sender.marks) (sym view)) copied) in
    of_slot g.D.Disk.gives g.D.Disk.may_leave_now sb volume (λ slot. c.in-Ok-Some.ready.receipt ≡ record { slot = slot; front = c.args.self.front }) c.self.inside.receiver.installation taken
    (λ i is. subst (λ r. IfReady r (λ ready. ready.receipt ≡ record { slot = i.home.superblock.slot; front = c.args.self.front })) (c.in-Ok-Some.is ∙ ap Ok c.in-Ok-Some.field-0-is)
    (c.take.ensures.receipt i is c.args.self.front (c.end-end.ensures.piece ∙ ap End (ap (λ (s : Seen g.row.D.Denot). s.front) view))))

pub returns-clause-means : goal.returns-clause-means
returns-clause-means g c = λ keeps volume long sb was.
    let old : Seen g.row.D.Denot = record { at = c.self.inside.at; front = c.self.inside.front; sender = c.self.inside.sender; receiver = c.self.inside.receiver; rests = c.self.inside.rests; broken = c.self.inside.broken } in
    let view = c.self.view_is in
    let taken = took_all g.D.Disk.gives g.D.Disk.may_leave_now sb volume old (subst (IsCopyOf g.D.Disk.gives g.D.Disk.may_leave_now sb volume) (sym view) was)
    (λ copy copied. c.end-end.ensures.whole volume copy (long ∙ ap (λ (s : Seen g.row.D.Denot). 4096 * length s.sender.marks) (sym view)) copied) in
    subst (λ r. IfReady r (λ ready. Means (finished_meaning sb c.args.self.front volume) (g.D.Disk.gives ready.disk))) (c.in-Ok-Some.is ∙ ap Ok c.in-Ok-Some.field-0-is)
    (c.take.ensures.means keeps sb volume taken c.args.self.front (c.end-end.ensures.piece ∙ ap End (ap (λ (s : Seen g.row.D.Denot). s.front) view)))

pub returns-clause-any_moment : goal.returns-clause-any_moment
returns-clause-any_moment g c = λ keeps volume long sb was. if_some _ (disk_of c.args.self.receiver) (λ before here.
    let old : Seen g.row.D.Denot = record { at = c.self.inside.at; front = c.self.inside.front; sender = c.self.inside.sender; receiver = c.self.inside.receiver; rests = c.self.inside.rests; broken = c.self.inside.broken } in
    let view = c.self.view_is in
    let taken = took_all g.D.Disk.gives g.D.Disk.may_leave_now sb volume old (subst (IsCopyOf g.D.Disk.gives g.D.Disk.may_leave_now sb volume) (sym view) was)
    (λ copy copied. c.end-end.ensures.whole volume copy (long ∙ ap (λ (s : Seen g.row.D.Denot). 4096 * length s.sender.marks) (sym view)) copied) in
    weaker g.D.Disk.moment g.D.Disk.may_have_left_since before c.in-Ok-Some.ready.disk (MayBeLeft sb volume c.end-end.result) (IsMeantBy sb c.args.self.front volume)
    (λ d left. subst (λ (n : ℕ). IsMeantBy sb n volume d) (ap (λ (s : Seen g.row.D.Denot). s.front) view) (subst (λ (p : Piece). MayBeLeft sb volume p d) c.end-end.ensures.piece left)) (end_taken _ c.self.inside.receiver c.take.new.self c.take.result (c.take.ensures.any_moment keeps sb volume taken) c.in-Ok-Some.ready (c.in-Ok-Some.is ∙ ap Ok c.in-Ok-Some.field-0-is) before (ap (λ (s : Seen g.row.D.Denot). disk_of s.receiver) view ∙ here)))

pub returns-clause-size : goal.returns-clause-size
returns-clause-size g c = if_some _ (disk_of c.args.self.receiver) (λ before here.
    let view = c.self.view_is in
    end_taken _ c.self.inside.receiver c.take.new.self c.take.result c.take.ensures.size c.in-Ok-Some.ready (c.in-Ok-Some.is ∙ ap Ok c.in-Ok-Some.field-0-is) before (ap (λ (s : Seen g.row.D.Denot). disk_of s.receiver) view ∙ here))

pub returns-clause-done : goal.returns-clause-done
returns-clause-done g c = if_some _ (disk_of c.args.self.receiver) (λ before here.
    let view = c.self.view_is in
    subst (λ r. OnOk r (g.D.Disk.failures c.in-Ok-Some.ready.disk ≡ g.D.Disk.failures before)) c.in-Ok-Some.is
    (end_taken _ c.self.inside.receiver c.take.new.self c.take.result c.take.ensures.done c.in-Ok-Some.ready (c.in-Ok-Some.is ∙ ap Ok c.in-Ok-Some.field-0-is) before (ap (λ (s : Seen g.row.D.Denot). disk_of s.receiver) view ∙ here)))

pub returns-then-is_broken-clause-there : goal.returns-then-is_broken-clause-there
returns-then-is_broken-clause-there g c = subst (λ (s : Seen g.row.D.Denot). IsSome (disk_of s.receiver)) c.self.view_is c.self.invariant.0.there

pub returns-in-Err-Store-clause-there : goal.returns-in-Err-Store-clause-there
returns-in-Err-Store-clause-there g c = subst (λ (s : Seen g.row.D.Denot). IsSome (disk_of s.receiver)) c.self.view_is c.self.invariant.0.there

pub returns-clause-there : goal.returns-clause-there
returns-clause-there g c = subst (λ (s : Seen g.row.D.Denot). IsSome (disk_of s.receiver)) c.self.view_is c.self.invariant.0.there

pub returns-in-Err-Store-clause-broken : goal.returns-in-Err-Store-clause-broken
returns-in-Err-Store-clause-broken g c = λ there same.
    let (i, is) = some_of c.self.inside.receiver.installation (subst (λ (s : Seen g.row.D.Denot). IsSome s.receiver.installation) (sym c.self.view_is) there) in
    absurd (both_ways i.broken (c.self.invariant.0.goes_on c.if-is_broken.false i is) ((c.take.ensures.broken i is).0 (c.in-Err-Store.is ∙ ap Err (c.in-Err-Store.field-0-is ∙ ap Store same))).1)

pub returns-then-is_broken-clause-left : goal.returns-then-is_broken-clause-left
returns-then-is_broken-clause-left g c = λ keeps bytes left meaning means. absurd ((c.self.invariant.1 keeps).unmeant c.left.result c.left.ensures bytes left meaning means)

pub returns-in-Err-Store-clause-left : goal.returns-in-Err-Store-clause-left
returns-in-Err-Store-clause-left g c = λ keeps bytes left meaning means.
    let (sb, copy, taken) = (c.self.invariant.1 keeps).taking c.if-is_broken.false in
    let (before, here) = some_of (disk_of c.self.inside.receiver) c.self.invariant.0.there in
    let now = c.left-in-Err-Store.result in
    let leaves = end_refused _ c.self.inside.receiver c.take.new.self c.take.result (c.take.ensures.any_moment keeps sb copy taken) c.in-Err-Store.field-0 c.in-Err-Store.is now c.left-in-Err-Store.ensures before here in
    let may = subst (λ (p : Piece). MayBeLeft sb copy p bytes) c.end-end.ensures.piece (leaves.each bytes (g.met.D.Disk.counts_now keeps now (g.D.Disk.moment before) bytes leaves.later left)) in
    subst (λ (s : Seen g.row.D.Denot). IsInstalled s.receiver meaning) c.self.view_is (elim may [
      | inl nothing ↦ absurd (nothing meaning means)
      | inr is ↦ installed_means g.D.Disk.gives g.D.Disk.may_leave_now sb copy c.self.inside.receiver taken _ meaning (c.disks_mean_one.ensures _ meaning bytes is means)
    ])

pub returns-clause-installed : goal.returns-clause-installed
returns-clause-installed g c = λ keeps meaning means.
    let (sb, copy, taken) = (c.self.invariant.1 keeps).taking c.if-is_broken.false in
    let is = subst (λ r. IfReady r (λ ready. Means (finished_meaning sb c.self.inside.front copy) (g.D.Disk.gives ready.disk))) (c.in-Ok-Some.is ∙ ap Ok c.in-Ok-Some.field-0-is)
    (c.take.ensures.means keeps sb copy taken c.self.inside.front c.end-end.ensures.piece) in
    subst (λ (s : Seen g.row.D.Denot). IsInstalled s.receiver meaning) c.self.view_is
    (installed_means g.D.Disk.gives g.D.Disk.may_leave_now sb copy c.self.inside.receiver taken _ meaning (c.disks_mean_one.ensures _ meaning (g.D.Disk.gives c.in-Ok-Some.ready.disk) is means))
