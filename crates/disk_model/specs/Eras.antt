-- What a stop may have left of a disk in memory, in each time that it was whole and each that its log was lent.
use Rattle.std.specs.Prelude.{◌≡◌, ◌⊎◌, ℕ, ◌+◌, ◌-◌, List, [], ◌∷◌, length, take, drop, map}
use Rattle.disk_model.specs.Content.{MayHaveLeft, ranges_from}
use Rattle.disk_model.specs.declared.content.Change.{Change}
use Rattle.disk_model.specs.declared.content.Extent.{Extent}
use Rattle.disk_model.specs.declared.era.Era.{Era, fold-Era}
use Rattle.disk_model.specs.declared.era.Era.TheOpen.{Era-F}
use Rattle.disk_model.specs.declared.era.Run.{Run}

-- an era, as a tree that proofs can take apart
mutual
  pub data Stage : Type 0 where
    whole : Run → Stage
    halved : ℕ → Stages → Run → Stages → Run → Stage

  pub data Stages : Type 0 where
    none : Stages
    first : Stage → Stages → Stages

-- stages, one after the other
abbrev pub stages_of : List Stage → Stages
stages_of [] = none
stages_of (s ∷ ss) = first s (stages_of ss)

-- what an era is, once those in it are
abbrev pub stage_step : Era-F Stage → Stage
stage_step (Era-F.Whole run) = whole run
stage_step (Era-F.Halved border home home_run log log_run) = halved border (stages_of home.items) home_run (stages_of log.items) log_run

-- what an era is
abbrev pub stage_of : Era → Stage
stage_of = fold-Era Stage stage_step

-- how many moments a stage has: one before each call and one behind the last, or one for all in which the log was lent
abbrev pub moments_at : Stage → ℕ
moments_at (whole run) = length run.log.items + 1
moments_at (halved border home home_run log log_run) = 1

-- how many moments they have together
abbrev pub moments_in : Stages → ℕ
moments_in none = 0
moments_in (first s ss) = moments_at s + moments_in ss

-- a stop in a run may have left it, since its t-th moment
abbrev pub LeftInRun : Run → ℕ → List ℕ → Type 0
LeftInRun run t c = MayHaveLeft run.base.items (ranges_from 0 run.loose.items) run.log.items t c

-- a stop in a stage may have left it, since its t-th moment
abbrev mutual
  pub LeftAt : Stage → ℕ → List ℕ → Type 0
  LeftAt (whole run) t c = LeftInRun run t c
  LeftAt (halved border home home_run log log_run) t c =
      (t ≡ 0) × (LeftIn home 0 (take border c) ⊎ LeftInRun home_run 0 (take border c)) × (LeftIn log 0 (drop border c) ⊎ LeftInRun log_run 0 (drop border c))

  pub LeftIn : Stages → ℕ → List ℕ → Type 0
  LeftIn none t c = ⊥
  LeftIn (first s ss) t c = LeftAt s t c ⊎ LeftIn ss (t - moments_at s) c

-- the moments of these eras
abbrev pub moments_of : List Era → ℕ
moments_of eras = moments_in (stages_of (map stage_of eras))

-- a stop since t may have left it, in one of these eras
abbrev pub LeftEarlier : List Era → ℕ → List ℕ → Type 0
LeftEarlier eras t c = LeftIn (stages_of (map stage_of eras)) t c

-- a stop since t may have left it, in one of these eras or in the calls since then
abbrev pub LeftSince : List Era → List ℕ → List Extent → List Change → ℕ → List ℕ → Type 0
LeftSince eras base waiting log t c = LeftEarlier eras t c ⊎ MayHaveLeft base waiting log (t - moments_of eras) c
