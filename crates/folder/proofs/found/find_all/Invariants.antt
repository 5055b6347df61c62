use Rattle.std.proofs.Common.{◌≡◌, ◌≤◌, ◌++◌, All, IfSome, length, map, vec_len, vec_capacity}
use Rattle.std.specs.Prelude.{IsNone}
use Rattle.std.specs.List.{AllZip}
use Rattle.gate_journal.specs.Runs.{OnlyReads}
use Rattle.local_store.specs.About.{about_of}
use Rattle.local_store.specs.Store.{IsStored}
use Rattle.local_store.specs.declared.store.Store.{Store}
use Rattle.folder.specs.Found.{IsFound, MayRun, disk_in}
use Rattle.folder.specs.declared.found.OnDisk.{OnDisk}
use Rattle.folder.proofs.Finding.{IsFaulty}
use Rattle.folder.proofs.found.find_all.Given as goal

abbrev pub invariant-loop-disk : goal.invariant-loop-disk
invariant-loop-disk g l = record {
  whole : l.yielded ++ l.disk-iterator.rest.items ≡ l.fn.disks.items;
  many : length l.found.items ≡ length l.yielded;
  count : vec_len l.found ≡ length l.yielded;
  room : length l.fn.disks.items ≤ vec_capacity l.found;
  finds : g.D.Disk.keeps_model → IsNone l.fault → AllZip (IsFound (λ (s : Store g.row.D.Denot g.D.Disk). about_of s.contents) (λ s volume. IsStored s.contents volume (g.D.Disk.gives s.disk) (g.D.Disk.may_leave_now s.disk))) (map g.D.Disk.gives l.yielded) l.found.items;
  reads : g.D.Disk.keeps_model → AllZip (λ disk (one : OnDisk (Store g.row.D.Denot g.D.Disk) g.row.D.Denot). OnlyReads g.D.Disk.gives g.D.Disk.may_leave_now g.D.Disk.moment g.D.Disk.may_have_left_since disk (disk_in one (λ s. s.disk))) l.yielded l.found.items;
  running : All (MayRun (λ (s : Store g.row.D.Denot g.D.Disk). about_of s.contents)) l.found.items;
  faulty : IfSome l.fault (IsFaulty g.D.Disk.failures l.yielded (map (λ (one : OnDisk (Store g.row.D.Denot g.D.Disk) g.row.D.Denot). disk_in one (λ s. s.disk)) l.found.items));
}
