-- What a disk in memory shows of itself, and what a call makes of that.
use Rattle.std.specs.Prelude.{◌≡◌, ℕ, min, Bool, true, false, is_some, is_ok, ◌+◌, if◌then◌else◌, List, ◌++◌, [], ◌∷◌, length, take, Result, Err}
use Rattle.disk_model.specs.Content.{IsImage}
use Rattle.disk_model.specs.Counts.{most_by}
use Rattle.disk_model.specs.Disk.{put}
use Rattle.disk_model.specs.Eras.{moments_of, LeftSince}
use Rattle.disk_model.specs.There.{there_or}
use Rattle.disk_model.specs.Script.{fate_of, next_call, answer}
use Rattle.disk_model.specs.Waiting.{waiting_first, waiting_now}
use Rattle.disk_model.specs.declared.content.Change.{Change}
use Rattle.disk_model.specs.declared.content.Change.TheVariants.{Sync}
use Rattle.disk_model.specs.declared.content.Extent.{Extent}
use Rattle.disk_model.specs.declared.error.DiskError.{DiskError}
use Rattle.disk_model.specs.declared.error.DiskError.TheVariants.{Stopped}
use Rattle.disk_model.specs.declared.memory.MemDisk.{MemDisk}
use Rattle.disk_model.specs.declared.script.Event.{Event}
use Rattle.disk_model.specs.declared.script.Fate.{Fate}
use Rattle.disk_model.specs.declared.script.Fate.TheVariants.{Works, Fails, Stops}

-- what is there now
abbrev pub bytes_of : MemDisk → List ℕ
bytes_of disk = there_or disk.there disk.content.bytes.items

-- what a read gives
abbrev pub given_of : MemDisk → List ℕ
given_of disk = disk.content.bytes.items

-- how many bytes it has
abbrev pub size_of : MemDisk → ℕ
size_of disk = length disk.content.bytes.items

-- what a stop now may leave
abbrev pub may_be_left : MemDisk → List ℕ → Type 0
may_be_left disk c = IsImage disk.content.bytes.items (waiting_now disk.content) c

-- the moment: how many calls have changed its bytes, or what may be left of them, and those of the eras before
abbrev pub moment_of : MemDisk → ℕ
moment_of disk = moments_of disk.eras.items + length disk.content.log.items

-- what a stop at some moment since t may have left
abbrev pub left_since : MemDisk → ℕ → List ℕ → Type 0
left_since disk t c = LeftSince disk.eras.items disk.content.base.items (waiting_first disk.content) disk.content.log.items t c

-- how often it has failed
abbrev pub failures_of : MemDisk → ℕ
failures_of disk = disk.turns.failures

-- the ranges that no sync has reached
abbrev pub unsynced_of : MemDisk → List Extent
unsynced_of disk = waiting_now disk.content

-- how many calls it has served: what comes after a stop isn't counted
abbrev pub calls_of : MemDisk → ℕ
calls_of disk = disk.turns.calls

-- what is to happen to it
abbrev pub script_of : MemDisk → List Event
script_of disk = disk.turns.script

-- whether it has stopped
abbrev pub has_stopped : MemDisk → Bool
has_stopped disk = is_some disk.there

-- how often it can have failed at most, from now on
abbrev pub most_failures_of : MemDisk → ℕ
most_failures_of disk = most_by (script_of disk) (has_stopped disk) (failures_of disk)

-- what becomes of the next call, if it hasn't stopped
abbrev pub next_fate : MemDisk → Fate
next_fate disk = fate_of (next_call (calls_of disk)) Works (script_of disk)

-- whether a call stops the disk
abbrev pub is_stop : Fate → Bool
is_stop Works = false
is_stop Fails = false
is_stop (Stops bytes) = true

-- what a write puts in place for reads
abbrev pub given : Fate → List ℕ → List ℕ
given Works bytes = bytes
given Fails bytes = []
given (Stops n) bytes = []

-- what a write puts in place
abbrev pub reached : Fate → List ℕ → List ℕ
reached Works bytes = bytes
reached Fails bytes = []
reached (Stops n) bytes = take (min (length bytes) n) bytes

-- the sync that counts
abbrev pub sync_of : Fate → List Change
sync_of Works = Sync ∷ []
sync_of Fails = []
sync_of (Stops n) = []

-- what a sync leaves to the next one
abbrev pub still_unsynced : Fate → List Extent → List Extent
still_unsynced Works ranges = []
still_unsynced Fails ranges = ranges
still_unsynced (Stops n) ranges = ranges

-- A call was served: it answered as the script says, and was counted. A stopped disk does nothing.
pub record IsServed (fault : DiskError) (old new : MemDisk) (result : Result (Unit {0}) DiskError) : Type 0 where
  pub answered : result ≡ (if has_stopped old then Err Stopped else answer fault (next_fate old))
  pub counted : calls_of new ≡ (if has_stopped old then calls_of old else next_call (calls_of old))
  pub stopped : has_stopped new ≡ (if has_stopped old then true else is_stop (next_fate old))
  pub failures : failures_of new ≡ (if is_ok result then failures_of old else failures_of old + 1)

-- nothing that it shows has changed
pub record IsAsBefore (old new : MemDisk) : Type 0 where
  pub bytes : bytes_of new ≡ bytes_of old
  pub given : given_of new ≡ given_of old
  pub unsynced : unsynced_of new ≡ unsynced_of old
  pub calls : calls_of new ≡ calls_of old
  pub stopped : has_stopped new ≡ has_stopped old
  pub failures : failures_of new ≡ failures_of old

-- a write put in place as many bytes as the script lets through, and its range waits for a sync
pub record IsWritten (old new : MemDisk) (at : ℕ) (written : List ℕ) : Type 0 where
  pub bytes : bytes_of new ≡ (if has_stopped old then bytes_of old else put (bytes_of old) at (reached (next_fate old) written))
  pub unsynced : unsynced_of new ≡ (if has_stopped old then unsynced_of old else unsynced_of old ++ record { at = at; len = length written } ∷ [])
