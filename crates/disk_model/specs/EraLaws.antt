-- The laws of what a stop may have left of a disk in memory.
use Rattle.std.specs.Prelude.{◌≡◌, ℕ, ◌+◌, ◌-◌, ◌≤◌, List, length, map}
use Rattle.std.proofs.Common.{inr, ⊎_elim, subst, arith}
use Rattle.disk_model.specs.Content.{shown_after, unsynced_after, IsImage, MayHaveLeft}
use Rattle.disk_model.specs.Eras.{Stage, whole, halved, Stages, none, first, moments_at, moments_in, moments_of, stages_of, stage_of, LeftAt, LeftIn, LeftSince}
use Rattle.disk_model.specs.Images.{counts_now, only_now}
use Rattle.disk_model.specs.declared.content.Change.{Change}
use Rattle.disk_model.specs.declared.content.Extent.{Extent}
use Rattle.disk_model.specs.declared.era.Era.{Era}

-- nothing of an era is left behind its moments
none_at : (s : Stage) (t : ℕ) (c : List ℕ) → moments_at s ≤ t → LeftAt s t c → ⊥
none_at (whole run) t c le (k, from, to, image) = omega arith
none_at (halved border home home_run log log_run) t c le (start, home_left, log_left) = omega arith

none_in : (ss : Stages) (t : ℕ) (c : List ℕ) → moments_in ss ≤ t → LeftIn ss t c → ⊥
none_in none t c le left = left
none_in (first s ss) t c le left =
    ⊎_elim (λ here. none_at s t c (omega arith) here) (λ later. none_in ss (t - moments_at s) c (omega arith) later) left

module _ (eras : List Era) (base bytes : List ℕ) (waiting : List Extent) (log : List Change) (ranges : List Extent) (replayed : bytes ≡ shown_after base log) (ranged : ranges ≡ unsynced_after waiting log) where
  -- this moment is one of those since an earlier one
  pub counts_later : (t : ℕ) (c : List ℕ) → t ≤ moments_of eras + length log → IsImage bytes ranges c → LeftSince eras base waiting log t c
  counts_later t c le image = inr (counts_now base bytes waiting log ranges replayed ranged (t - moments_of eras) c (omega arith) image)

  -- since this moment there is no other
  pub only_later : (c : List ℕ) → LeftSince eras base waiting log (moments_of eras + length log) c → IsImage bytes ranges c
  only_later c left =
      let here : moments_of eras + length log - moments_of eras ≡ length log = omega arith in
      ⊎_elim
      (λ past. absurd (none_in (stages_of (map stage_of eras)) (moments_of eras + length log) c (omega arith) past))
      (λ now. only_now base bytes waiting log ranges replayed ranged c (subst (λ (n : ℕ). MayHaveLeft base waiting log n c) here now))
      left
