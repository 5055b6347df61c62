-- What a disk comes to on a part of it.
use Rattle.std.specs.Prelude.{◌≡◌, ◌⊎◌, ℕ, ◌+◌, ◌≤◌, List, take, drop}
use Rattle.disk_model.specs.Disk.{NothingNew, LeavesOnly}
use Rattle.disk_model.specs.declared.part.Part.{Part}

-- the bytes of a part, cut out of a disk's
abbrev pub inside : Part → List ℕ → List ℕ
inside part c = take part.len (drop part.start c)

-- what may be left on a part: its bytes of each content that may be left
abbrev pub LeftInside : Part → (List ℕ → Type 0) → List ℕ → Type 0
LeftInside part may_leave x = (c : List ℕ) × may_leave c × (x ≡ inside part c)

-- the parts don't overlap
abbrev pub IsApart : Part → Part → Type 0
IsApart one other = (one.start + one.len ≤ other.start) ⊎ (other.start + other.len ≤ one.start)

-- what a read gives of the part is as before, and nothing new may be left on it
pub record KeepsPart (part : Part) (old new : List ℕ) (may_leave_old may_leave_new : List ℕ → Type 0) : Type 0 where
  pub gives : inside part new ≡ inside part old
  pub leaves : NothingNew (LeftInside part may_leave_old) (LeftInside part may_leave_new)

-- From old to new this part alone was written: on any other a read gives what it gave, and what a stop at any
-- moment leaves there is what might have been left before.
pub record TouchesOnly {D : Type 0} (gives : D → List ℕ) (may_leave : D → List ℕ → Type 0) (moment : D → ℕ) (left_since : D → ℕ → List ℕ → Type 0) (part : Part) (old new : D) : Type 0 where
  pub others : (other : Part) → IsApart part other → KeepsPart other (gives old) (gives new) (may_leave old) (may_leave new)
  pub moments : (other : Part) → IsApart part other → LeavesOnly moment left_since old new (λ c. LeftInside other (may_leave old) (inside other c))
