use Rattle.std.proofs.Common.{◌≡◌, ◌≤◌, length, map, take, vec_len, vec_capacity}
use Rattle.chain.specs.Opening.{recorded_in}
use Rattle.life.proofs.beginning.members_of.Given as goal

abbrev pub invariant-loop-store : goal.invariant-loop-store
invariant-loop-store g l = record {
  are : l.members.items ≡ map (recorded_in g.S.StoreLike.about) (take l.store-index l.fn.stores);
  count : vec_len l.members ≡ l.store-index;
  room : length l.fn.stores ≤ vec_capacity l.members;
}
