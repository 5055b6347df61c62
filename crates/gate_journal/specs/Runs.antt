-- What a run of device calls does to a part.
use Rattle.std.specs.Prelude.{◌≡◌, ℕ, List}
use Rattle.std.proofs.Common.{ap, refl, ◌∙◌}
use Rattle.disk_model.specs.Disk.{Elapses, LeavesOnly, NothingNew, Torn}
use Rattle.disk_model.specs.Frames.{left_inside}
use Rattle.disk_model.specs.Moments.{started, goes_on, then_run, weaker}
use Rattle.disk_model.specs.Part.{inside, KeepsPart, LeftInside, TouchesOnly}
use Rattle.disk_model.specs.declared.part.Part.{Part}

-- on the part is what might have been left before, but for n bytes from this place on, which may be any
abbrev pub WasTorn : Part → ℕ → ℕ → (List ℕ → Type 0) → List ℕ → Type 0
WasTorn part at n may_leave c = (x : List ℕ) × LeftInside part may_leave x × Torn at n x (inside part c)

-- From old to new nothing was written: a read gives what it gave, and what a stop leaves, now or at any moment
-- between, is what it might have left before.
pub record OnlyReads {D : Type 0} (gives : D → List ℕ) (may_leave : D → List ℕ → Type 0) (moment : D → ℕ) (left_since : D → ℕ → List ℕ → Type 0) (old new : D) : Type 0 where
  pub same : gives new ≡ gives old
  pub leaves : NothingNew (may_leave old) (may_leave new)
  pub moments : LeavesOnly moment left_since old new (may_leave old)

module _ {D : Type 0} {gives : D → List ℕ} {may_leave : D → List ℕ → Type 0} {moment : D → ℕ} {left_since : D → ℕ → List ℕ → Type 0} where
  -- no call
  pub reads_nothing : (old : D) → ((c : List ℕ) → left_since old (moment old) c → may_leave old c) → OnlyReads gives may_leave moment left_since old old
  reads_nothing old only_now = record { same = refl; leaves = λ c left. left; moments = started moment left_since old (may_leave old) only_now }

  -- one call
  pub reads_once : (old new : D) → ((c : List ℕ) → left_since old (moment old) c → may_leave old c) → Elapses (moment old) (moment new) (left_since old) (left_since new) (may_leave new)
      → gives new ≡ gives old → NothingNew (may_leave old) (may_leave new) → OnlyReads gives may_leave moment left_since old new
  reads_once old new only_now time same nothing = record {
    same = same;
    leaves = nothing;
    moments = goes_on moment left_since old old new (may_leave old) (may_leave new) (started moment left_since old (may_leave old) only_now) time nothing;
  }

  -- one run, and then another
  pub reads_then : {old mid new : D} → OnlyReads gives may_leave moment left_since old mid → OnlyReads gives may_leave moment left_since mid new → OnlyReads gives may_leave moment left_since old new
  reads_then {old} {mid} {new} first second = record {
    same = second.same ∙ first.same;
    leaves = λ c left. first.leaves c (second.leaves c left);
    moments = then_run moment left_since old mid new (may_leave old) first.moments (weaker moment left_since mid new (may_leave mid) (may_leave old) first.leaves second.moments);
  }

  -- it keeps each part
  pub reads_keep : (part : Part) (old new : D) → OnlyReads gives may_leave moment left_since old new → KeepsPart part (gives old) (gives new) (may_leave old) (may_leave new)
  reads_keep part old new run = record { gives = ap (inside part) run.same; leaves = λ x (c, left, is). (c, run.leaves c left, is) }

  -- so it touches none
  pub reads_touch : (part : Part) (old new : D) → OnlyReads gives may_leave moment left_since old new → TouchesOnly gives may_leave moment left_since part old new
  reads_touch part old new run = record {
    others = λ other apart. reads_keep other old new run;
    moments = λ other apart. weaker moment left_since old new (may_leave old) (λ c. LeftInside other (may_leave old) (inside other c)) (left_inside other (may_leave old)) run.moments;
  }
