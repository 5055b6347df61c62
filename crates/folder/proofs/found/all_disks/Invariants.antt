use Rattle.std.proofs.Common.{◌≡◌, ◌≤◌, ◌++◌, length, map, vec_len, vec_capacity}
use Rattle.local_store.specs.declared.store.Store.{Store}
use Rattle.folder.specs.Found.{disk_in}
use Rattle.folder.specs.declared.found.OnDisk.{OnDisk}
use Rattle.folder.proofs.found.all_disks.Given as goal

abbrev pub invariant-loop-one : goal.invariant-loop-one
invariant-loop-one g l = record {
  whole : l.yielded ++ l.one-iterator.rest.items ≡ l.fn.found.items;
  are : l.disks.items ≡ map (λ (one : OnDisk (Store g.row.D.Denot g.D.Disk) g.row.D.Denot). disk_in one (λ s. s.disk)) l.yielded;
  count : vec_len l.disks ≡ length l.yielded;
  room : length l.fn.found.items ≤ vec_capacity l.disks;
}
