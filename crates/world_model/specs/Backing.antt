-- What the board and those who read it tell of the members' disks.
use Rattle.std.specs.Prelude.{◌≡◌, ℕ, ◌≤◌, min, true, false, List, [], ◌∷◌, All, Any}
use Rattle.board.specs.Mask.{counts}
use Rattle.gate_journal.specs.Receipt.{Receipt}

-- a member's slot and durable front
pub record Disk : Type 0 where
  pub slot : ℕ
  pub durable : ℕ

-- a mask that was found behind a front, and the gauges that were looked up of its slots, each as slot and front
pub record Muster : Type 0 where
  pub front : ℕ
  pub mask : ℕ
  pub gauges : List Receipt

-- the slot's disk has the writes up to this front
abbrev pub IsOnDisk : List Disk → Receipt → Type 0
IsOnDisk disks r = All (λ d. d.slot ≡ r.slot → r.front ≤ d.durable) disks

-- what a muster tells is so: each gauge is on its disk, and each disk that it doesn't count has what was committed before it
pub record IsMustered (committed : ℕ) (disks : List Disk) (m : Muster) : Type 0 where
  pub front : m.front ≤ committed
  pub gauges : All (IsOnDisk disks) m.gauges
  pub uncounted : All (λ d. counts m.mask d.slot ≡ false → m.front ≤ d.durable) disks

-- The mask counts each member; each gauge is on its disk, and so is each receipt that isn't posted; and the musters in use are so.
pub record IsBacked (committed mask : ℕ) (gauges receipts : List Receipt) (musters : List Muster) (disks : List Disk) : Type 0 where
  pub mask_covers : All (λ d. counts mask d.slot ≡ true) disks
  pub gauges_backed : All (IsOnDisk disks) gauges
  pub receipts_backed : All (IsOnDisk disks) receipts
  pub mustered : All (IsMustered committed disks) musters

-- a gauge of each counted slot was looked up
abbrev pub IsWhole : Muster → Type 0
IsWhole m = (slot : ℕ) → counts m.mask slot ≡ true → Any (λ r. r.slot ≡ slot) m.gauges

-- the floor of a muster: the least of its front and its gauges
abbrev pub least_of : ℕ → List Receipt → ℕ
least_of front [] = front
least_of front (r ∷ rs) = min r.front (least_of front rs)
