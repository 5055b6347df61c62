-- What a disk in memory holds: its calls since it began, replayed.
use Rattle.std.specs.Prelude.{◌≡◌, ◌⊎◌, ℕ, ◌+◌, ◌<◌, ◌≤◌, Bool, true, false, List, [], ◌∷◌, ◌++◌, length, take, replicate, slice_index, get_or, Vec}
use Rattle.std.specs.declared.alloc.Global.{Global}
use Rattle.disk_model.specs.Disk.{put}
use Rattle.disk_model.specs.declared.content.Change.{Change}
use Rattle.disk_model.specs.declared.content.Change.TheVariants.{Write, Sync}
use Rattle.disk_model.specs.declared.content.Cut.{Cut}
use Rattle.disk_model.specs.declared.content.Cut.TheVariants.{All, None}
use Rattle.disk_model.specs.declared.content.Extent.{Extent}

-- what a read gives after these calls
abbrev pub shown_after : List ℕ → List Change → List ℕ
shown_after bytes [] = bytes
shown_after bytes (Write at new len ∷ log) = shown_after (put bytes at new.items) log
shown_after bytes (Sync ∷ log) = shown_after bytes log

-- the ranges of the writes that no sync has followed
abbrev pub unsynced_after : List Extent → List Change → List Extent
unsynced_after ranges [] = ranges
unsynced_after ranges (Write at new len ∷ log) = unsynced_after (ranges ++ record { at = at; len = len } ∷ []) log
unsynced_after ranges (Sync ∷ log) = unsynced_after [] log

-- a range for each of the bytes that are marked, the first of which has this place
abbrev pub ranges_from : ℕ → List Bool → List Extent
ranges_from at [] = []
ranges_from at (true ∷ marks) = record { at = at; len = 1 } ∷ ranges_from (at + 1) marks
ranges_from at (false ∷ marks) = ranges_from (at + 1) marks

-- the ranges that wait for a sync: those of the beginning, while they still do, and these
abbrev pub unsynced_in : Bool → List Bool → List Extent → List Extent
unsynced_in true loose ranges = ranges_from 0 loose ++ ranges
unsynced_in false loose ranges = ranges

-- the place is in none of the ranges
abbrev pub IsOutside : ℕ → List Extent → Type 0
IsOutside k [] = Unit {0}
IsOutside k (range ∷ ranges) = ((k < range.at) ⊎ (range.at + range.len ≤ k)) × IsOutside k ranges

-- the bytes with each of the ranges filled
abbrev pub filled : List ℕ → List Extent → List ℕ
filled bytes [] = bytes
filled bytes (range ∷ ranges) = filled (put bytes range.at (replicate range.len 255)) ranges

-- what a cut leaves of the bytes, where these ranges weren't synced
abbrev pub left_by : Cut → List ℕ → List Extent → List ℕ
left_by All bytes ranges = bytes
left_by None bytes ranges = filled bytes ranges

-- the content is these bytes, but for the ranges, which may hold any
pub record IsImage (bytes : List ℕ) (ranges : List Extent) (c : List ℕ) : Type 0 where
  pub size : length c ≡ length bytes
  pub same : (k : ℕ) → k < length bytes → IsOutside k ranges → slice_index c k ≡ slice_index bytes k

-- what a stop at some moment since t may have left, where these ranges waited at the beginning: the moments are counted by
-- the calls
abbrev pub MayHaveLeft : List ℕ → List Extent → List Change → ℕ → List ℕ → Type 0
MayHaveLeft base waiting log t c = (k : ℕ) × (t ≤ k) × (k ≤ length log) × IsImage (shown_after base (take k log)) (unsynced_after waiting (take k log)) c

-- the marks are at the places of these ranges, and at no other
pub record AreMarked (ranges : List Extent) (marks : List Bool) : Type 0 where
  pub outside : (k : ℕ) → k < length marks → get_or marks k true ≡ false → IsOutside k ranges
  pub unmarked : (k : ℕ) → k < length marks → IsOutside k ranges → get_or marks k true ≡ false

-- this write was added to the calls
abbrev pub AddsWrite : List Change → List Change → ℕ → List ℕ → ℕ → Type 0
AddsWrite old new at bytes len = (v : Vec ℕ Global) × (v.items ≡ bytes) × (new ≡ old ++ Write at v len ∷ [])
