use Rattle.std.proofs.Common.{◌≤◌, ◌+◌, ◌*◌, refl, sym, ap, subst, ◌∙◌}
use Rattle.volume.specs.declared.geometry.Geometry.{Geometry}
use Rattle.chain.specs.Chain.{bytes_of}
use Rattle.chain.proofs.AskingSteps.{unread_pleads}
use Rattle.chain.proofs.CommitSteps.{by_either, err_then, ok_then}
use Rattle.chain.proofs.ReadingSteps.{read_formed, read_goes, read_leaves, unread_formed, unread_goes, unread_leaves}
use Rattle.chain.proofs.Stepping.{in_at, read_at}
use Rattle.chain.proofs.chain.Chain.read.Goals as goal

pub read-requires-clause-of_board : goal.read-requires-clause-of_board
read-requires-clause-of_board g c =
    let here = read_at _ _ c.args.at _ c.self.view_is c.requires.at c.index_mut.ensures.value in
    c.requires.of_board ∙ ap (λ o. o.id) (sym c.self.view_is) ∙ sym (in_at _ _ c.args.at _ here c.self.invariant).board

pub read-requires-clause-within : goal.read-requires-clause-within
read-requires-clause-within g c =
    let here = read_at _ _ c.args.at _ c.self.view_is c.requires.at c.index_mut.ensures.value in
    subst (λ size. c.args.offset + c.args.len ≤ size) (ap bytes_of (sym c.self.view_is) ∙ ap (λ (geometry : Geometry). 4096 * geometry.blocks) (sym (in_at _ _ c.args.at _ here c.self.invariant).sizes)) c.requires.inside

pub invariant_of-self : goal.invariant_of-self
invariant_of-self g c =
    let here = read_at _ _ c.args.at _ c.self.view_is c.requires.at c.index_mut.ensures.value in
    by_either c.read.result _ _ c.read.ensures.read c.read.ensures.refused
    (λ replies did. read_formed g.S.StoreLike.keeps_model g.S.StoreLike.about g.S.StoreLike.failures g.S.StoreLike.keeps g.S.StoreLike.moment g.S.StoreLike.may_have_left_since c.args.offset c.args.len g.S.StoreLike.may_leave_now _ c.args.at _ _ here c.args.token _ did c.self.invariant)
    (λ e no. unread_formed g.S.StoreLike.keeps_model g.S.StoreLike.about g.S.StoreLike.failures g.S.StoreLike.keeps g.S.StoreLike.moment g.S.StoreLike.may_have_left_since c.args.offset c.args.len g.S.StoreLike.may_leave_now _ c.args.at _ _ here _ _ no c.self.invariant)

pub returns-clause-read : goal.returns-clause-read
returns-clause-read g c = rw (← c.self.view_is) (ok_then c.read.result _ _ c.read.ensures.read (λ r did. record {
  before = c.index_mut.result.now;
  after = c.read.new.self;
  here = read_at _ _ c.args.at _ c.self.view_is c.requires.at c.index_mut.ensures.value;
  did = did;
  are = refl;
}))

pub returns-clause-refused : goal.returns-clause-refused
returns-clause-refused g c = rw (← c.self.view_is) (err_then c.read.result _ _ c.read.ensures.refused (λ e no. record {
  before = c.index_mut.result.now;
  after = c.read.new.self;
  here = read_at _ _ c.args.at _ c.self.view_is c.requires.at c.index_mut.ensures.value;
  did = no;
  are = refl;
}))

pub returns-clause-any_moment : goal.returns-clause-any_moment
returns-clause-any_moment g c = λ premise. rw (← c.self.view_is) (
    let here = read_at _ _ c.args.at _ c.self.view_is c.requires.at c.index_mut.ensures.value in
    by_either c.read.result _ _ c.read.ensures.read c.read.ensures.refused
    (λ replies did. read_leaves g.S.StoreLike.keeps_model g.S.StoreLike.about g.S.StoreLike.failures g.S.StoreLike.keeps g.S.StoreLike.moment g.S.StoreLike.may_have_left_since c.args.offset c.args.len g.S.StoreLike.may_leave_now _ c.args.at _ _ here c.args.token _ did premise
    (g.met.S.StoreLike.counts_now premise) (c.read.ensures.any_moment premise))
    (λ e no. unread_leaves g.S.StoreLike.keeps_model g.S.StoreLike.about g.S.StoreLike.failures g.S.StoreLike.keeps g.S.StoreLike.moment g.S.StoreLike.may_have_left_since c.args.offset c.args.len g.S.StoreLike.may_leave_now _ c.args.at _ _ here _ _ no premise
    (g.met.S.StoreLike.counts_now premise) (c.read.ensures.any_moment premise) (g.met.S.StoreLike.only_now premise)))

pub returns-clause-takes : goal.returns-clause-takes
returns-clause-takes g c = λ premise. rw (← c.self.view_is) (ok_then c.read.result _ _ c.read.ensures.read (λ replies did v s events rest shows stands first put_out.
    let here = read_at _ _ c.args.at _ c.self.view_is c.requires.at c.index_mut.ensures.value in
    read_goes g.S.StoreLike.keeps_model g.S.StoreLike.about g.S.StoreLike.failures g.S.StoreLike.keeps g.S.StoreLike.moment g.S.StoreLike.may_have_left_since c.args.offset c.args.len g.S.StoreLike.may_leave_now _ c.args.at _ _ here c.args.token _ did premise
    (g.met.S.StoreLike.counts_now premise) (c.read.ensures.any_moment premise) c.read.ensures.inside c.self.invariant v events rest shows first put_out))

pub returns-clause-one_volume : goal.returns-clause-one_volume
returns-clause-one_volume g c = λ premise. rw (← c.self.view_is) (err_then c.read.result _ _ c.read.ensures.refused (λ e no v s events shows stands put_out.
    let here = read_at _ _ c.args.at _ c.self.view_is c.requires.at c.index_mut.ensures.value in
    unread_goes g.S.StoreLike.keeps_model g.S.StoreLike.about g.S.StoreLike.failures g.S.StoreLike.keeps g.S.StoreLike.moment g.S.StoreLike.may_have_left_since c.args.offset c.args.len g.S.StoreLike.may_leave_now _ c.args.at _ _ here _ _ no premise
    (g.met.S.StoreLike.counts_now premise) (c.read.ensures.any_moment premise) v events shows put_out))

pub returns-clause-pleads : goal.returns-clause-pleads
returns-clause-pleads g c = err_then c.read.result _ _ c.read.ensures.refused (λ e no.
    let here = read_at _ _ c.args.at _ c.self.view_is c.requires.at c.index_mut.ensures.value in
    unread_pleads _ c.args.at _ _ here (in_at _ _ c.args.at _ here c.self.invariant).member g.S.StoreLike.keeps_model g.S.StoreLike.about g.S.StoreLike.failures g.S.StoreLike.keeps g.S.StoreLike.moment g.S.StoreLike.may_have_left_since c.args.offset c.args.len _ _ no)
