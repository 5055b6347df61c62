use Rattle.std.proofs.Common.{◌≡◌, ◌++◌, ◌≤◌, length, vec_len, vec_capacity}
use Rattle.std.specs.List.{AllZip}
use Rattle.std.specs.Prelude.{IfNone, IfSome}
use Rattle.life.specs.Recovered.{AreOpenedWell, AreSeen, IsRead}
use Rattle.life.proofs.Looking.{IsOneOfThem}
use Rattle.life.proofs.choosing.look_at_all.Given as goal

abbrev pub invariant-loop-disk : goal.invariant-loop-disk
invariant-loop-disk l = record {
  whole : l.yielded ++ l.disk-iterator.rest.items ≡ l.fn.disks.items;
  back : AllZip IsRead l.yielded l.back.items;
  count : vec_len l.back ≡ length l.yielded;
  few : vec_len l.seen ≤ length l.yielded;
  room : vec_len l.fn.disks ≤ vec_capacity l.back;
  room_seen : vec_len l.fn.disks ≤ vec_capacity l.seen;
  seen : IfNone l.refused (AreSeen l.fn.returned l.yielded l.seen.items × AreOpenedWell l.yielded l.back.items l.seen.items);
  refused : IfSome l.refused (IsOneOfThem l.fn.disks.items l.yielded l.back.items);
}
