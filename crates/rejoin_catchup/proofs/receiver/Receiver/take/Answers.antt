use Rattle.std.proofs.Common.{◌∙◌, ap, subst, sym}
use Rattle.std.specs.Prelude.{IsSomeAnd, List, Some, option_map, ℕ}
use Rattle.disk_model.specs.Disk.{LeavesOnly}
use Rattle.local_store.specs.Installer.{finished_meaning}
use Rattle.local_store.specs.Meaning.{Means}
use Rattle.rejoin_catchup.proofs.Courses.{all_came, end_behind}
use Rattle.rejoin_catchup.proofs.Taking.{at_rest, block_leaves, block_received, block_refused, driving, end_gives, end_leaves, seen}
use Rattle.rejoin_catchup.specs.Course.{course_behind}
use Rattle.rejoin_catchup.specs.Receiving.{MayBeLeft, Receiving, disk_in, disk_of}
use Rattle.rejoin_catchup.proofs.receiver.Receiver.take.Goals as goal
use Rattle.rejoin_catchup.proofs.receiver.Receiver.take.Goals.{in-None-3, in-Some-3}

-- out of order
pub returns-in_default-clause-any_moment : goal.returns-in_default-clause-any_moment
returns-in_default-clause-any_moment g c = λ keeps sb copy taken.
    at_rest g.D.Disk.gives g.D.Disk.may_leave_now g.D.Disk.moment g.D.Disk.may_have_left_since sb copy c.args.piece (g.met.D.Disk.only_now keeps) c.args.self.now.installation c.args.self.now.left taken

-- a block
pub invariant_of-self-in-Err-block : goal.invariant_of-self-in-Err-block
invariant_of-self-in-Err-block g c =
    block_refused c.self.inside.course c.self.inside.left c.self.inside.installer c.in-Some-installer.installer c.block.new.self c.in-Some-installer.is c.self.invariant c.block.ensures.home c.in-Err-block.ensures.unmarked

pub returns-in-Err-block-clause-any_moment : goal.returns-in-Err-block-clause-any_moment
returns-in-Err-block-clause-any_moment g c = λ keeps sb copy taken was here.
    let is = sym c.self.view_is ∙ ap (driving c.self.inside.course c.self.inside.left) c.in-Some-installer.is in
    block_leaves g.D.Disk.gives g.D.Disk.may_leave_now g.D.Disk.moment g.D.Disk.may_have_left_since sb copy c.args.piece c.args.self.now c.self.inside.course (seen c.in-Some-installer.installer) c.self.inside.left is taken was here
    c.block.new.self.disk (c.block.ensures.any_moment keeps)

pub invariant_of-self-in_default-block : goal.invariant_of-self-in_default-block
invariant_of-self-in_default-block g c =
    block_received c.self.inside.course c.self.inside.left c.self.inside.installer c.in-Some-installer.installer c.block.new.self c.in-Some-installer.is c.self.invariant c.block.ensures.home
    c.in-Some.course c.args.piece c.in-First.block c.in-First.bytes c.in-First.is (sym c.in-Some.ensures) c.in_default-block.ensures.marks

pub invariant_of-self-in_default-block-2 : goal.invariant_of-self-in_default-block-2
invariant_of-self-in_default-block-2 g c =
    block_received c.self.inside.course c.self.inside.left c.self.inside.installer c.in-Some-installer.installer c.block.new.self c.in-Some-installer.is c.self.invariant c.block.ensures.home
    c.in-Some.course c.args.piece c.in-First.block c.in-First.bytes c.in-First.is (sym c.in-Some.ensures) c.in_default-block.ensures.marks

pub returns-in_default-block-clause-any_moment : goal.returns-in_default-block-clause-any_moment
returns-in_default-block-clause-any_moment g c = λ keeps sb copy taken was here.
    let is = sym c.self.view_is ∙ ap (driving c.self.inside.course c.self.inside.left) c.in-Some-installer.is in
    let leaves = block_leaves g.D.Disk.gives g.D.Disk.may_leave_now g.D.Disk.moment g.D.Disk.may_have_left_since sb copy c.args.piece c.args.self.now c.self.inside.course (seen c.in-Some-installer.installer) c.self.inside.left is taken was here
    c.block.new.self.disk (c.block.ensures.any_moment keeps) in
    let P : Receiving g.row.D.Denot → Type 0 = λ r. IsSomeAnd (disk_of r) (λ now. LeavesOnly g.D.Disk.moment g.D.Disk.may_have_left_since was now (MayBeLeft sb copy c.args.piece)) in
    elim c.match-bytes-2.branch [ in-Some-3 w ↦ subst P (sym w.self-is) leaves | in-None-3 w ↦ subst P (sym w.self-is) leaves ]

-- the end
pub finish-requires-clause-complete : goal.finish-requires-clause-complete
finish-requires-clause-complete g c =
    let course = c.self.inside.course in
    let i = c.in-Some-take.installer in
    let is = ap (option_map seen) (sym c.in-Some-take.ensures.value) in
    let all = end_behind course c.in-Some.course c.in-End.front (sym (ap (course_behind course) c.in-End.is) ∙ sym c.in-Some.ensures) in
    all_came course i.given all (i.table ∙ c.self.invariant.as_many (seen i) is) (c.self.invariant.came (seen i) is)

pub returns-in-Ok-clause-means : goal.returns-in-Ok-clause-means
returns-in-Ok-clause-means g c = λ keeps sb copy taken front ends.
    let course = c.self.inside.course in
    let is = sym c.self.view_is ∙ ap (driving course c.self.inside.left) (sym c.in-Some-take.ensures.value) in
    end_gives g.D.Disk.gives g.D.Disk.may_leave_now g.D.Disk.moment g.D.Disk.may_have_left_since sb copy c.args.piece c.args.self.now course (seen c.in-Some-take.installer) c.self.inside.left is taken
    (λ s n. Means (finished_meaning s n copy) (g.D.Disk.gives c.in-Ok.disk)) c.in-End.front front c.in-End.is ends (λ installing given. c.in-Ok.ensures.means keeps installing copy given)

pub returns-in-Ok-clause-leaves : goal.returns-in-Ok-clause-leaves
returns-in-Ok-clause-leaves g c = λ keeps sb copy taken front ends.
    let course = c.self.inside.course in
    let is = sym c.self.view_is ∙ ap (driving course c.self.inside.left) (sym c.in-Some-take.ensures.value) in
    end_gives g.D.Disk.gives g.D.Disk.may_leave_now g.D.Disk.moment g.D.Disk.may_have_left_since sb copy c.args.piece c.args.self.now course (seen c.in-Some-take.installer) c.self.inside.left is taken
    (λ s n. (d : List ℕ) → g.D.Disk.may_leave_now c.in-Ok.disk d → Means (finished_meaning s n copy) d) c.in-End.front front c.in-End.is ends (λ installing given. c.in-Ok.ensures.leaves keeps installing copy given)

pub returns-in-Ok-clause-any_moment : goal.returns-in-Ok-clause-any_moment
returns-in-Ok-clause-any_moment g c = λ keeps sb copy taken was here.
    let course = c.self.inside.course in
    let is = sym c.self.view_is ∙ ap (driving course c.self.inside.left) (sym c.in-Some-take.ensures.value) in
    end_leaves g.D.Disk.gives g.D.Disk.may_leave_now g.D.Disk.moment g.D.Disk.may_have_left_since sb copy c.args.piece c.args.self.now course (seen c.in-Some-take.installer) c.self.inside.left is taken was here
    c.in-End.front c.in-End.is c.in-Ok.disk (λ installing volume given. c.in-Ok.ensures.any_moment keeps installing volume given)

pub returns-in-Err-clause-any_moment : goal.returns-in-Err-clause-any_moment
returns-in-Err-clause-any_moment g c = λ keeps sb copy taken was here.
    let course = c.self.inside.course in
    let is = sym c.self.view_is ∙ ap (driving course c.self.inside.left) (sym c.in-Some-take.ensures.value) in
    let leaves = end_leaves g.D.Disk.gives g.D.Disk.may_leave_now g.D.Disk.moment g.D.Disk.may_have_left_since sb copy c.args.piece c.args.self.now course (seen c.in-Some-take.installer) c.self.inside.left is taken was here
    c.in-End.front c.in-End.is c.in-Err.disk (λ installing volume given. c.in-Err.ensures.any_moment_refused keeps installing volume given) in
    subst (λ o. IsSomeAnd (disk_in (option_map seen o) (Some c.in-Err.disk)) (λ now. LeavesOnly g.D.Disk.moment g.D.Disk.may_have_left_since was now (MayBeLeft sb copy c.args.piece))) (sym c.take.ensures.after) leaves
