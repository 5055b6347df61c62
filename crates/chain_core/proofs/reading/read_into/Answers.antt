use Rattle.std.proofs.Common.{◌≡◌, List, OnOk, ℕ, subst, sym}
use Rattle.chain_core.specs.Node.{size_of}
use Rattle.chain_core.proofs.Ranges.{clean_range}
use Rattle.chain_core.proofs.reading.read_into.Goals as goal

pub returns-then-is_run-clause-read : goal.returns-then-is_run-clause-read
returns-then-is_run-clause-read g c = λ keeps volume kept long.
    let clean = c.is_run.ensures.0 c.if-is_run.true in
    subst (λ (bytes : List ℕ). OnOk c.read_run.result (c.read_run.new.bytes.items ≡ bytes))
    (sym (clean_range (size_of (g.S.StoreLike.about c.args.store.now)) c.args.offset c.args.len c.args.front volume c.args.table.now long c.requires.inside clean.1))
    (c.read_run.ensures.read keeps volume kept)
