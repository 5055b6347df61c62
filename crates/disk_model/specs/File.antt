-- What a file's disk shows of itself.
use Rattle.std.specs.Prelude.{◌≡◌, ◌⊎◌, ℕ, ◌-◌, ◌^◌, ℤ, Bool, false, IsTrue, Option, None, is_some}
use Rattle.disk_model.specs.Counts.{most_counted}
use Rattle.disk_model.specs.declared.file.FileDiskOn.{FileDiskOn}

-- the opened file that its calls go by
abbrev pub file_of : {F : Type 0} → FileDiskOn F → F
file_of disk = disk.file

-- how many bytes it has
abbrev pub file_len : {F : Type 0} → FileDiskOn F → ℕ
file_len disk = disk.len

-- how often the device has failed
abbrev pub file_failures : {F : Type 0} → FileDiskOn F → ℕ
file_failures disk = disk.failures

-- how often it can have failed at most, from now on
abbrev pub file_most_failures : {F : Type 0} → FileDiskOn F → ℕ
file_most_failures disk = most_counted (file_failures disk)

-- whether a write or a sync has failed since it was opened
abbrev pub file_is_broken : {F : Type 0} → FileDiskOn F → Bool
file_is_broken disk = disk.broken

-- it makes no write and no sync any more: one has failed, or no more failures can be counted
abbrev pub IsAtRest : {F : Type 0} → FileDiskOn F → Type 0
IsAtRest disk = IsTrue (file_is_broken disk) ⊎ (file_failures disk ≡ 2 ^ 64 - 1)

-- the system's number of the error of the last call that failed
abbrev pub file_last_error : {F : Type 0} → FileDiskOn F → Option ℤ
file_last_error disk = disk.last_error

-- where in the file its first byte stands
abbrev pub file_start : {F : Type 0} → FileDiskOn F → ℕ
file_start disk = disk.start

-- whether it can lend its log
abbrev pub file_lends : {F : Type 0} → FileDiskOn F → Bool
file_lends disk = is_some disk.second

-- whether it brings the lock of another handle with it, as a log that was lent does
abbrev pub file_brings_lock : {F : Type 0} → FileDiskOn F → Bool
file_brings_lock disk = is_some disk.lock

-- it is of the whole file, and no call has failed yet
pub record IsNewlyOpened {F : Type 0} (disk : FileDiskOn F) : Type 0 where
  pub start : file_start disk ≡ 0
  pub failures : file_failures disk ≡ 0
  pub whole : file_is_broken disk ≡ false
  pub last_error : file_last_error disk ≡ None

-- it stands at the same place of the file, with the same handles beside it
pub record StaysThere {F : Type 0} (old new : FileDiskOn F) : Type 0 where
  pub start : file_start new ≡ file_start old
  pub second : new.second ≡ old.second
  pub lock : new.lock ≡ old.lock
