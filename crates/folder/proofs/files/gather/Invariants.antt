use Rattle.std.proofs.Common.{◌≡◌, ◌++◌, length}
use Rattle.folder.specs.Files.{OthersAreAbsent, disks_there, slots_there}
use Rattle.folder.proofs.files.gather.Given as goal

abbrev pub invariant-loop-opened : goal.invariant-loop-opened
invariant-loop-opened g l = record {
  whole : l.yielded ++ l.opened-iterator.rest.items ≡ l.fn.openings.items;
  number : l.number ≡ length l.yielded;
  config : l.files.config ≡ l.fn.config;
  disks : l.files.disks.items ≡ disks_there l.yielded;
  slots : l.files.slots.items ≡ slots_there 0 l.yielded;
  others : OthersAreAbsent l.yielded;
}
