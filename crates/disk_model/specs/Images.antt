-- The laws of what a stop may leave of a disk in memory.
use Rattle.std.specs.Prelude.{◌≡◌, ℕ, ◌≤◌, List, length, refl}
use Rattle.std.proofs.Common.{sym, subst}
use Rattle.std.proofs.Math.Nat.{le_refl}
use Rattle.std.proofs.lemmas.List.{take_all}
use Rattle.disk_model.specs.Content.{shown_after, unsynced_after, IsImage, MayHaveLeft}
use Rattle.disk_model.specs.declared.content.Change.{Change}
use Rattle.disk_model.specs.declared.content.Extent.{Extent}

-- the bytes may be left as they are
pub is_image : (bytes : List ℕ) (ranges : List Extent) → IsImage bytes ranges bytes
is_image bytes ranges = record { size = refl; same = λ k within outside. refl }

module _ (base bytes : List ℕ) (waiting : List Extent) (log : List Change) (ranges : List Extent) (replayed : bytes ≡ shown_after base log) (ranged : ranges ≡ unsynced_after waiting log) where
  -- this moment is one of those since an earlier one
  pub counts_now : (t : ℕ) (c : List ℕ) → t ≤ length log → IsImage bytes ranges c → MayHaveLeft base waiting log t c
  counts_now t c le image =
      let shown = subst (λ (b : List ℕ). IsImage b ranges c) replayed image in
      let here = subst (λ (r : List Extent). IsImage (shown_after base log) r c) ranged shown in
      let all = subst (λ (l : List Change). IsImage (shown_after base l) (unsynced_after waiting l) c) (sym (take_all (length log) log (le_refl (length log)))) here in
      (length log, le, le_refl (length log), all)

  -- since this moment there is no other
  pub only_now : (c : List ℕ) → MayHaveLeft base waiting log (length log) c → IsImage bytes ranges c
  only_now c (k, from, to, image) =
      let here = subst (λ (l : List Change). IsImage (shown_after base l) (unsynced_after waiting l) c) (take_all k log from) image in
      let ranged_here = subst (λ (r : List Extent). IsImage (shown_after base log) r c) (sym ranged) here in
      subst (λ (b : List ℕ). IsImage b ranges c) (sym replayed) ranged_here
