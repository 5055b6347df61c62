-- What a run of device calls comes to on a part.
use Rattle.std.proofs.Common.{ℕ, List, refl}
use Rattle.disk_model.specs.Disk.{Elapses, Follows, LeavesOnly, NothingNew, Torn}
use Rattle.disk_model.specs.Frames.{started_inside, goes_on_inside}
use Rattle.disk_model.specs.Part.{LeftInside}
use Rattle.disk_model.specs.declared.part.Part.{Part}
use Rattle.gate_journal.specs.Runs.{WasTorn}

-- what might have been left, torn
abbrev pub Tears : Part → ℕ → ℕ → (List ℕ → Type 0) → List ℕ → Type 0
Tears part at n left y = (x : List ℕ) × LeftInside part left x × Torn at n x y

module _ {D : Type 0} {moment : D → ℕ} {left_since : D → ℕ → List ℕ → Type 0} (part : Part) (at n : ℕ) (left : List ℕ → Type 0) where
  -- one write, which a stop may tear
  pub torn_once : (old new : D) {left_new : List ℕ → Type 0} → ((c : List ℕ) → left_since old (moment old) c → left c) → Elapses (moment old) (moment new) (left_since old) (left_since new) left_new
      → Follows (Torn at n) (LeftInside part left) (LeftInside part left_new) → LeavesOnly moment left_since old new (WasTorn part at n left)
  torn_once old new only_now time follows =
      goes_on_inside part (Tears part at n left) new (started_inside part (Tears part at n left) old left only_now (λ x was. (x, was, record { size = refl; before = refl; after = refl }))) time follows

  -- and a sync
  pub then_synced : (old mid new : D) (left_mid left_new : List ℕ → Type 0) → LeavesOnly moment left_since old mid (WasTorn part at n left) → Elapses (moment mid) (moment new) (left_since mid) (left_since new) left_new
      → Follows (Torn at n) (LeftInside part left) (LeftInside part left_mid) → NothingNew left_mid left_new → LeavesOnly moment left_since old new (WasTorn part at n left)
  then_synced old mid new left_mid left_new run time follows nothing =
      goes_on_inside part (Tears part at n left) new run time (λ y (c, now, is). follows y (c, nothing c now, is))
