-- What contracts see of a store in memory, and what stands for its disk.
use Rattle.std.specs.Prelude.{◌≡◌, ℕ, ◌+◌, ◌*◌, ◌≤◌, List, Option, length}
use Rattle.std.proofs.Common.{arith, inr, subst, sym, ◌∙◌}
use Rattle.disk_model.specs.Disk.{LeavesOnly}
use Rattle.gate_journal.specs.declared.batch.TheConstants.{MAX_NUMBER}
use Rattle.local_store.specs.About.{About, meaning_with}
use Rattle.local_store.specs.Meaning.{Means}

-- what it tells of itself, its volume, the blocks that a store on a disk would not have home yet, and how often a device
-- call failed
pub record Plain : Type 0 where
  pub about : About
  pub volume : List ℕ
  pub pending : List (Option (Unit {0}))
  pub failures : ℕ

-- what holds of each
pub record IsPlain (s : Plain) : Type 0 where
  pub incarnation : s.about.incarnation ≤ MAX_NUMBER
  pub front : s.about.front ≤ MAX_NUMBER
  pub stores : s.about.stores ≤ MAX_NUMBER
  pub area : s.about.used + 1 ≤ s.about.geometry.area
  pub size : length s.volume ≡ 4096 * s.about.geometry.blocks
  pub table : length s.pending ≡ s.about.geometry.blocks

-- Nothing of it outlives a stop: what stands for its disk is whatever means what it keeps.
abbrev pub MeansPlain : Plain → List ℕ → Type 0
MeansPlain s bytes = Means (meaning_with s.about s.volume) bytes

-- it keeps the volume, which is as long as it tells
pub record KeepsPlain (s : Plain) (volume : List ℕ) : Type 0 where
  pub is : s.volume ≡ volume
  pub size : length volume ≡ 4096 * s.about.geometry.blocks

-- what stands for its disk means what it keeps, and it keeps one volume
pub means_plain : (s : Plain) (volume c : List ℕ) → KeepsPlain s volume → MeansPlain s c → Means (meaning_with s.about volume) c
means_plain s volume c kept left = subst (λ v. Means (meaning_with s.about v) c) kept.is left

pub keeps_one_plain : (s : Plain) (one other : List ℕ) → KeepsPlain s one → KeepsPlain s other → one ≡ other
keeps_one_plain s one other kept too = sym kept.is ∙ too.is

-- a run of it leaves what the new one means
pub runs_plain : (old new : Plain) (P : List ℕ → Type 0) → ((c : List ℕ) → MeansPlain new c → P c) → LeavesOnly (λ (s : Plain). 0) (λ (s : Plain) t. MeansPlain s) old new P
runs_plain old new P each = record { later = omega arith; each = each; before = λ t c le left. inr (each c left) }
