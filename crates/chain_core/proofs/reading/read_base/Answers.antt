use Rattle.std.proofs.Common.{◌∙◌, arith, refl, sym}
use Rattle.chain_core.specs.Node.{size_of}
use Rattle.chain_core.proofs.Ranges.{whole_base}
use Rattle.chain_core.proofs.StoreReads.{run_first}
use Rattle.chain_core.proofs.reading.read_base.Goals as goal

pub returns-then-is_whole-clause-base : goal.returns-then-is_whole-clause-base
returns-then-is_whole-clause-base g c = λ keeps volume kept long.
    whole_base volume (size_of (g.S.StoreLike.about c.args.store.now)) c.args.front c.args.block c.args.table.now long (let below = c.requires.block in omega arith) c.requires.inside
    (sym c.is_whole.ensures ∙ c.if-is_whole.true)

pub returns-then-is_whole-clause-any_moment : goal.returns-then-is_whole-clause-any_moment
returns-then-is_whole-clause-any_moment g c = run_first g.S.StoreLike.about g.S.StoreLike.keeps g.S.StoreLike.moment g.S.StoreLike.may_have_left_since g.S.StoreLike.may_leave_now g.met.S.StoreLike.means_now g.met.S.StoreLike.only_now c.args.store.now

pub returns-in-Ok-clause-base : goal.returns-in-Ok-clause-base
returns-in-Ok-clause-base g c = λ keeps volume kept long. record {
  under = volume;
  as_long = refl;
  is = c.in-Ok.ensures.read keeps volume kept;
  same = refl;
}
