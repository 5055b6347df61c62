use Rattle.std.proofs.Common.{◌≡◌, ◌≤◌, All, length}
use Rattle.std.specs.List.{range_with_len}
use Rattle.disk_model.specs.File.{file_len}
use Rattle.home_blocks.specs.Places.{disk_size_of}
use Rattle.folder.proofs.files.create_all.Given as goal

abbrev pub invariant-loop-number : goal.invariant-loop-number
invariant-loop-number g l = record {
  config : file_len l.files.config ≡ 8192;
  slots : l.files.slots.items ≡ range_with_len 0 l.number;
  many : length l.files.disks.items ≡ l.number;
  long : All (λ disk. disk_size_of l.layout.geometry ≤ file_len disk) l.files.disks.items;
}
