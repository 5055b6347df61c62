use Rattle.std.proofs.Common.{◌≡◌, ◌+◌, ◌++◌, length, map, vec_capacity, vec_len}
use Rattle.nbd_session.specs.Demand.{demand_of}
use Rattle.nbd_session.specs.Intake.{loaded_view}
use Rattle.nbd_session.proofs.session.make.Given as goal

-- the demands of the requests so far
abbrev pub invariant-loop-request : goal.invariant-loop-request
invariant-loop-request l = record {
  made : l.demands.items ≡ l.initial.demands.items ++ map (demand_of l.board l.session) (map loaded_view l.yielded);
  room : vec_capacity l.demands ≡ vec_capacity l.initial.demands;
  count : vec_len l.demands ≡ vec_len l.initial.demands + length l.yielded;
}
