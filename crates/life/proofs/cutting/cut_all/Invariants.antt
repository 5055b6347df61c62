use Rattle.std.proofs.Common.{◌≡◌, ◌++◌, ◌≤◌, length, vec_len, vec_capacity}
use Rattle.std.specs.List.{AllZip}
use Rattle.life.specs.Plays.{IsCutAt}
use Rattle.life.proofs.Starting.{about_of_store, disk_in, leaves_now}
use Rattle.life.proofs.cutting.cut_all.Given as goal

abbrev pub invariant-loop-store : goal.invariant-loop-store
invariant-loop-store l = record {
  whole : l.yielded ++ l.store-iterator.rest.items ≡ l.fn.stores.items;
  cut : AllZip (IsCutAt about_of_store leaves_now disk_in l.fn.cut) l.yielded l.disks.items;
  count : vec_len l.disks ≡ length l.yielded;
  room : vec_len l.fn.stores ≤ vec_capacity l.disks;
}
