-- The first start so far that lies behind.
use Rattle.std.proofs.Common.{◌≡◌, ◌≤◌, ◌<◌, ◌⊎◌, ℕ, get_or}
use Rattle.std.specs.Prelude.{Contains}
use Rattle.sockets.proofs.pieces.end_behind.Given as goal

abbrev pub invariant-loop-start : goal.invariant-loop-start
invariant-loop-start l = record {
  within : l.count ≤ l.end;
  all : l.end ≤ l.all;
  some : l.count < l.all → l.count < l.end;
  one : (k : ℕ) → k < l.start-index → l.count < get_or l.starts k 0 → l.end ≤ get_or l.starts k 0;
  rest : (l.end ≡ l.all) ⊎ Contains l.starts l.end;
}
