use Rattle.std.proofs.Common.{◌≡◌, All, vec_len}
use Rattle.nbd_session.specs.Demand.{owed_by}
use Rattle.benches.proofs.wire.answer_all.Given as goal

-- the demands that are left are the session's
abbrev pub invariant-loop-demand : goal.invariant-loop-demand
invariant-loop-demand l = record {
  own : All (λ demand. (owed_by demand).session ≡ l.fn.session.id) l.demands.items;
  same : l.session.id ≡ l.fn.session.id;
}

abbrev pub decreases-loop-demand : goal.decreases-loop-demand
decreases-loop-demand l = vec_len l.demands
