-- One more call at the end of those that are replayed.
use Rattle.std.proofs.Common.{◌≡◌, ℕ, Bool, true, false, List, [], ◌∷◌, ◌++◌, refl, sym, append_assoc}
use Rattle.disk_model.specs.Content.{shown_after, unsynced_after, unsynced_in, ranges_from}
use Rattle.disk_model.specs.Disk.{put}
use Rattle.disk_model.specs.declared.content.Change.{Change}
use Rattle.disk_model.specs.declared.content.Change.TheVariants.{Write, Sync}
use Rattle.disk_model.specs.declared.content.Extent.{Extent}

pub shown-push : (bytes : List ℕ) (log : List Change) (x : Change) → shown_after bytes (log ++ x ∷ []) ≡ shown_after (shown_after bytes log) (x ∷ [])
shown-push bytes [] x = refl
shown-push bytes (Write at new len ∷ log) x = shown-push (put bytes at new.items) log x
shown-push bytes (Sync ∷ log) x = shown-push bytes log x

pub unsynced-push : (ranges : List Extent) (log : List Change) (x : Change) → unsynced_after ranges (log ++ x ∷ []) ≡ unsynced_after (unsynced_after ranges log) (x ∷ [])
unsynced-push ranges [] x = refl
unsynced-push ranges (Write at new len ∷ log) x = unsynced-push (ranges ++ record { at = at; len = len } ∷ []) log x
unsynced-push ranges (Sync ∷ log) x = unsynced-push [] log x

pub unsynced_in-push : (waits : Bool) (loose : List Bool) (ranges : List Extent) (range : Extent) → unsynced_in waits loose (ranges ++ range ∷ []) ≡ unsynced_in waits loose ranges ++ range ∷ []
unsynced_in-push true loose ranges range = sym (append_assoc (ranges_from 0 loose) ranges (range ∷ []))
unsynced_in-push false loose ranges range = refl
