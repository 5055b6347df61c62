use Rattle.std.proofs.Common.{◌∙◌, ap, sym, subst, ℕ, inr}
use Rattle.std.specs.Prelude.{IsSomeAnd}
use Rattle.local_store.specs.Installer.{MeansNothing}
use Rattle.disk_model.specs.Disk.{LeavesOnly}
use Rattle.rejoin_catchup.specs.Receiving.{HasTaken, Receiving, disk_of}
use Rattle.rejoin_catchup.specs.Sending.{due_of}
use Rattle.joining.specs.Giving.{ReadsBlock}
use Rattle.joining.proofs.Putting.{from_some}
use Rattle.chain.specs.Commits.{LeavesAt}
use Rattle.joining.specs.Copying.{Seen}
use Rattle.joining.proofs.Ending.{rest_leaves}
use Rattle.joining.proofs.Still.{still}
use Rattle.joining.proofs.copying.Copying.give.Goals as goal

pub returns-then-self-clause-one_volume : goal.returns-then-self-clause-one_volume
returns-then-self-clause-one_volume g c = λ keeps. still _ _ _ _

pub returns-in_default-clause-one_volume : goal.returns-in_default-clause-one_volume
returns-in_default-clause-one_volume g c = λ keeps. still _ _ _ _

pub returns-in-Ok-None-clause-any_moment : goal.returns-in-Ok-None-clause-any_moment
returns-in-Ok-None-clause-any_moment g c = λ keeps sb copy taken may was here.
    let view = c.self.view_is in
    let there = ap (λ (s : Seen g.row.D.Denot). disk_of s.receiver) view ∙ here in
    subst (λ (r : Receiving g.row.D.Denot). IsSomeAnd (disk_of r) (λ now. LeavesOnly g.D.Disk.moment g.D.Disk.may_have_left_since was now MeansNothing)) (ap (λ (s : Seen g.row.D.Denot). s.receiver) view)
    (rw there (rest_leaves g.D.Disk.gives g.D.Disk.may_leave_now g.D.Disk.moment g.D.Disk.may_have_left_since (g.met.D.Disk.only_now keeps) sb copy c.self.inside.receiver
    (subst (λ (s : Seen g.row.D.Denot). HasTaken g.D.Disk.gives g.D.Disk.may_leave_now sb copy s.receiver) (sym view) taken) MeansNothing (λ d nothing. nothing) was was there there))

pub returns-in-Ok-None-clause-members_moment : goal.returns-in-Ok-None-clause-members_moment
returns-in-Ok-None-clause-members_moment g c = λ keeps may.
    subst (λ (at : ℕ). LeavesAt g.S.StoreLike.about g.S.StoreLike.keeps g.S.StoreLike.may_leave_now g.S.StoreLike.moment g.S.StoreLike.may_have_left_since at c.args.world.now.chain c.held_block.new.self.chain)
    (ap (λ (s : Seen g.row.D.Denot). s.at) c.self.view_is) (c.held_block.ensures.any_moment keeps)

pub returns-in-Err-clause-any_moment : goal.returns-in-Err-clause-any_moment
returns-in-Err-clause-any_moment g c = λ keeps sb copy taken may was here.
    let view = c.self.view_is in
    let there = ap (λ (s : Seen g.row.D.Denot). disk_of s.receiver) view ∙ here in
    subst (λ (r : Receiving g.row.D.Denot). IsSomeAnd (disk_of r) (λ now. LeavesOnly g.D.Disk.moment g.D.Disk.may_have_left_since was now MeansNothing)) (ap (λ (s : Seen g.row.D.Denot). s.receiver) view)
    (rw there (rest_leaves g.D.Disk.gives g.D.Disk.may_leave_now g.D.Disk.moment g.D.Disk.may_have_left_since (g.met.D.Disk.only_now keeps) sb copy c.self.inside.receiver
    (subst (λ (s : Seen g.row.D.Denot). HasTaken g.D.Disk.gives g.D.Disk.may_leave_now sb copy s.receiver) (sym view) taken) MeansNothing (λ d nothing. nothing) was was there there))

pub returns-in-Err-clause-members_moment : goal.returns-in-Err-clause-members_moment
returns-in-Err-clause-members_moment g c = λ keeps may.
    subst (λ (at : ℕ). LeavesAt g.S.StoreLike.about g.S.StoreLike.keeps g.S.StoreLike.may_leave_now g.S.StoreLike.moment g.S.StoreLike.may_have_left_since at c.args.world.now.chain c.held_block.new.self.chain)
    (ap (λ (s : Seen g.row.D.Denot). s.at) c.self.view_is) (c.held_block.ensures.any_moment keeps)

pub returns-in-Ok-clause-given : goal.returns-in-Ok-clause-given
returns-in-Ok-clause-given g c = λ yes.
    let view = c.self.view_is in
    let block = c.in-Some.block in
    let due = ap (λ (s : Seen g.row.D.Denot). due_of s.sender) (sym view) ∙ sym c.in-Some.ensures.due in
    let read = subst (λ (at : ℕ). ReadsBlock g.S.StoreLike.keeps_model g.S.StoreLike.about g.S.StoreLike.failures g.S.StoreLike.keeps g.S.StoreLike.moment g.S.StoreLike.may_have_left_since at block c.args.world.now c.held_block.new.self)
    (ap (λ (s : Seen g.row.D.Denot). s.at) view) (c.in-Ok-Some.bytes, from_some _ c.in-Ok-Some.field-0 c.in-Ok-Some.ensures.given c.in-Ok-Some.bytes c.in-Ok-Some.field-0-is) in
    (block, due, record { runs = ap (λ (s : Seen g.row.D.Denot). s.broken) (sym view) ∙ c.if-self.false; given = c.in-Ok.ensures.given; read = read })

pub returns-in-Ok-clause-any_moment : goal.returns-in-Ok-clause-any_moment
returns-in-Ok-clause-any_moment g c = λ keeps sb copy taken may was here. c.put.ensures.any_moment keeps sb copy taken was here

pub returns-in-Ok-clause-members_moment : goal.returns-in-Ok-clause-members_moment
returns-in-Ok-clause-members_moment g c = λ keeps may.
    subst (λ (at : ℕ). LeavesAt g.S.StoreLike.about g.S.StoreLike.keeps g.S.StoreLike.may_leave_now g.S.StoreLike.moment g.S.StoreLike.may_have_left_since at c.args.world.now.chain c.held_block.new.self.chain)
    (ap (λ (s : Seen g.row.D.Denot). s.at) c.self.view_is) (c.held_block.ensures.any_moment keeps)

pub returns-in-Err-put-clause-refused : goal.returns-in-Err-put-clause-refused
returns-in-Err-put-clause-refused g c =
    let view = c.self.view_is in
    let block = c.in-Some.block in
    let due = ap (λ (s : Seen g.row.D.Denot). due_of s.sender) (sym view) ∙ sym c.in-Some.ensures.due in
    let read = subst (λ (at : ℕ). ReadsBlock g.S.StoreLike.keeps_model g.S.StoreLike.about g.S.StoreLike.failures g.S.StoreLike.keeps g.S.StoreLike.moment g.S.StoreLike.may_have_left_since at block c.args.world.now c.held_block.new.self)
    (ap (λ (s : Seen g.row.D.Denot). s.at) view) (c.in-Ok-Some.bytes, from_some _ c.in-Ok-Some.field-0 c.in-Ok-Some.ensures.given c.in-Ok-Some.bytes c.in-Ok-Some.field-0-is) in
    inr (block, record { runs = ap (λ (s : Seen g.row.D.Denot). s.broken) (sym view) ∙ c.if-self.false; due = due; read = read; are = c.in-Err-put.ensures.refused })

pub returns-in-Err-put-clause-any_moment : goal.returns-in-Err-put-clause-any_moment
returns-in-Err-put-clause-any_moment g c = λ keeps sb copy taken may was here. c.put.ensures.any_moment keeps sb copy taken was here

pub returns-in-Err-put-clause-members_moment : goal.returns-in-Err-put-clause-members_moment
returns-in-Err-put-clause-members_moment g c = λ keeps may.
    subst (λ (at : ℕ). LeavesAt g.S.StoreLike.about g.S.StoreLike.keeps g.S.StoreLike.may_leave_now g.S.StoreLike.moment g.S.StoreLike.may_have_left_since at c.args.world.now.chain c.held_block.new.self.chain)
    (ap (λ (s : Seen g.row.D.Denot). s.at) c.self.view_is) (c.held_block.ensures.any_moment keeps)

pub returns-in-Ok-None-clause-broken : goal.returns-in-Ok-None-clause-broken
returns-in-Ok-None-clause-broken g c = λ there same. absurd cc

pub returns-in-Err-clause-broken : goal.returns-in-Err-clause-broken
returns-in-Err-clause-broken g c = λ there same. absurd cc

pub returns-in-Err-put-clause-broken : goal.returns-in-Err-put-clause-broken
returns-in-Err-put-clause-broken g c = λ there same. absurd (c.in-Err-put.ensures.broken there cc)
