use Rattle.std.proofs.Common.{◌≡◌, ◌-◌, subst}
use Rattle.std.specs.Prelude.{All, slice_index_or}
use Rattle.volume.specs.Writes.{Fits}
use Rattle.chain_core.specs.Node.{Seen, size_of}
use Rattle.chain_core.proofs.KeptWrites.{fits_at, one_write_more}
use Rattle.chain_core.proofs.node.Node.kept_write.Goals as goal

pub returns-clause-after : goal.returns-clause-after
returns-clause-after g c = λ volume.
    one_write_more c.args.self.now.state c.args.n c.get.result.now c.requires.above c.requires.applied
    (subst (λ (x : Seen g.row.S.Denot). c.get.result.now ≡ slice_index_or x.state.table.kept (c.args.n - x.state.table.forgotten - 1) c.get.result.now) c.self.view_is (c.get.ensures.write c.get.result.now)) volume

pub returns-clause-inside : goal.returns-clause-inside
returns-clause-inside g c =
    fits_at c.args.self.now.state c.args.n c.get.result.now c.requires.above c.requires.applied
    (subst (λ (x : Seen g.row.S.Denot). c.get.result.now ≡ slice_index_or x.state.table.kept (c.args.n - x.state.table.forgotten - 1) c.get.result.now) c.self.view_is (c.get.ensures.write c.get.result.now))
    (size_of (g.S.StoreLike.about c.args.self.now.store))
    (subst (λ (x : Seen g.row.S.Denot). All (λ k. Fits (size_of (g.S.StoreLike.about x.store)) k.write) x.state.table.kept) c.self.view_is c.self.invariant.inside)
