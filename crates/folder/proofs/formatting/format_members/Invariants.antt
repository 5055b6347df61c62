use Rattle.std.proofs.Common.{◌≡◌, ◌<◌, ◌≤◌, ℕ, List, All, IfSome, length}
use Rattle.std.specs.Prelude.{slice_get}
use Rattle.home_blocks.specs.Places.{disk_size_of}
use Rattle.local_store.specs.Meaning.{Means}
use Rattle.folder.specs.Disks.{blank_meaning}
use Rattle.folder.proofs.formatting.format_members.Given as goal

abbrev pub invariant-loop-place : goal.invariant-loop-place
invariant-loop-place g l = record {
  long : All (λ disk. disk_size_of l.geometry ≤ g.D.Disk.size disk) l.disks;
  rest : (k : ℕ) → l.place ≤ k → slice_get l.disks k ≡ slice_get l.initial.disks k;
  blank : g.D.Disk.keeps_model → (k : ℕ) → k < l.place → IfSome (slice_get l.disks k) (λ disk. (x : List ℕ) → g.D.Disk.may_leave_now disk x → Means (blank_meaning k l.geometry) x);
}
