-- A disk in memory that can't fail any more. The crates above cite `calm`.
use Rattle.std.specs.Prelude.{◌≡◌, ℕ, ◌≤◌, Bool, false, List, []}
use Rattle.std.proofs.Common.{sym, ap, subst, ◌∙◌}
use Rattle.disk_model.specs.Counts.{most_by, runs_by}
use Rattle.disk_model.specs.Memory.{script_of, has_stopped, failures_of, most_failures_of}
use Rattle.disk_model.specs.declared.memory.MemDisk.{MemDisk}
use Rattle.disk_model.specs.declared.script.Event.{Event}

-- a disk that runs, and to which nothing more is to happen, has failed as often as it can
pub calm : (disk : MemDisk) → script_of disk ≡ [] → has_stopped disk ≡ false → failures_of disk ≡ most_failures_of disk
calm disk none runs =
    sym (ap (λ (script : List Event). most_by script (has_stopped disk) (failures_of disk)) none ∙ ap (λ (stopped : Bool). most_by [] stopped (failures_of disk)) runs)

-- one that has failed as often as it could runs
pub calm_runs : (disk : MemDisk) (n : ℕ) → failures_of disk ≡ n → most_failures_of disk ≤ n → has_stopped disk ≡ false
calm_runs disk n is most = runs_by (script_of disk) (has_stopped disk) (failures_of disk) (subst (λ (k : ℕ). most_failures_of disk ≤ k) (sym is) most)
