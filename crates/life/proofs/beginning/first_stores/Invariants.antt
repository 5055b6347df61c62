use Rattle.std.proofs.Common.{◌≡◌, ◌*◌, ◌≤◌, All, false, map, replicate, vec_len, vec_capacity}
use Rattle.std.specs.List.{range_with_len}
use Rattle.disk_model.specs.Memory.{given_of, has_stopped, may_be_left}
use Rattle.local_store.specs.About.{about_of}
use Rattle.local_store.specs.Store.{IsStored}
use Rattle.life.specs.Begun.{first_about}
use Rattle.life.proofs.beginning.first_stores.Given as goal

abbrev pub invariant-loop-number : goal.invariant-loop-number
invariant-loop-number l = record {
  about : map (λ s. about_of s.contents) l.stores.items ≡ map (first_about l.fn.geometry) (range_with_len 0 l.number);
  kept : All (λ s. IsStored s.contents (replicate (4096 * l.fn.geometry.blocks) 0) (given_of s.disk) (may_be_left s.disk)) l.stores.items;
  go : All (λ s. has_stopped s.disk ≡ false) l.stores.items;
  count : vec_len l.stores ≡ l.number;
  room : l.fn.members ≤ vec_capacity l.stores;
}
