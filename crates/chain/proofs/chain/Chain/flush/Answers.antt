use Rattle.std.proofs.Common.{refl, sym, ap, ◌∙◌}
use Rattle.chain_steps.specs.Steps.{flush}
use Rattle.chain.proofs.AskingSteps.{away_formed, away_goes, away_pleads, ends_so, flushed_formed, flushed_goes, no_stop}
use Rattle.chain.proofs.Results.{either, if_err, on_ok}
use Rattle.chain.proofs.Stepping.{in_at, read_at}
use Rattle.chain.proofs.chain.Chain.flush.Goals as goal

pub flush-requires : goal.flush-requires
flush-requires g c =
    let here = read_at _ _ c.args.at _ c.self.view_is c.requires.at c.index_mut.ensures.value in
    record { of_board = c.requires.of_board ∙ ap (λ o. o.id) (sym c.self.view_is) ∙ sym (in_at _ _ c.args.at _ here c.self.invariant).board }

pub invariant_of-self : goal.invariant_of-self
invariant_of-self g c =
    let here = read_at _ _ c.args.at _ c.self.view_is c.requires.at c.index_mut.ensures.value in
    either c.flush.result c.flush.ensures.flushed c.flush.ensures.refused
    (λ did. flushed_formed _ _ c.args.at _ _ here _ did c.self.invariant)
    (λ e away.
    let step = flush c.args.token c.index_mut.result.now.node.state in
    let none = no_stop step c.index_mut.result.now.node.state in
    away_formed ⊥ step _ _ _ none _ _ c.args.at here (ends_so ⊥ step _ _ _ none _ away) c.self.invariant)

pub returns-clause-flushed : goal.returns-clause-flushed
returns-clause-flushed g c = rw (← c.self.view_is) (on_ok c.flush.result c.flush.ensures.flushed (λ did. record {
  before = c.index_mut.result.now;
  after = c.flush.new.self;
  here = read_at _ _ c.args.at _ c.self.view_is c.requires.at c.index_mut.ensures.value;
  did = did;
  are = refl;
}))

pub returns-clause-refused : goal.returns-clause-refused
returns-clause-refused g c = rw (← c.self.view_is) (if_err c.flush.result c.flush.ensures.refused (λ e away. record {
  before = c.index_mut.result.now;
  after = c.flush.new.self;
  here = read_at _ _ c.args.at _ c.self.view_is c.requires.at c.index_mut.ensures.value;
  did = away;
  are = refl;
}))

pub returns-clause-takes : goal.returns-clause-takes
returns-clause-takes g c = λ premise. rw (← c.self.view_is) (on_ok c.flush.result c.flush.ensures.flushed (λ did v s events rest shows stands first put_out.
    let here = read_at _ _ c.args.at _ c.self.view_is c.requires.at c.index_mut.ensures.value in
    flushed_goes _ _ c.args.at _ _ here _ did g.S.StoreLike.keeps g.S.StoreLike.may_leave_now v events rest c.requires.unnumbered shows first put_out))

pub returns-clause-one_volume : goal.returns-clause-one_volume
returns-clause-one_volume g c = λ premise. rw (← c.self.view_is) (if_err c.flush.result c.flush.ensures.refused (λ e away v s events shows stands put_out.
    let here = read_at _ _ c.args.at _ c.self.view_is c.requires.at c.index_mut.ensures.value in
    let step = flush c.args.token c.index_mut.result.now.node.state in
    let none = no_stop step c.index_mut.result.now.node.state in
    away_goes ⊥ step _ _ _ none g.S.StoreLike.about _ c.args.at here g.S.StoreLike.keeps g.S.StoreLike.may_leave_now (ends_so ⊥ step _ _ _ none _ away) v events shows put_out))

pub returns-clause-pleads : goal.returns-clause-pleads
returns-clause-pleads g c = if_err c.flush.result c.flush.ensures.refused (λ e away.
    let here = read_at _ _ c.args.at _ c.self.view_is c.requires.at c.index_mut.ensures.value in
    let step = flush c.args.token c.index_mut.result.now.node.state in
    away_pleads _ c.args.at _ _ here (in_at _ _ c.args.at _ here c.self.invariant).member ⊥ step _ (no_stop step c.index_mut.result.now.node.state) _ away)
