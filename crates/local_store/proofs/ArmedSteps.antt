-- A disk with another script keeps what a store keeps on it.
use Rattle.std.proofs.Common.{ℕ, List, sym, subst}
use Rattle.disk_model.specs.Content.{IsImage}
use Rattle.disk_model.specs.Memory.{IsAsBefore, given_of, may_be_left, unsynced_of}
use Rattle.disk_model.specs.declared.content.Extent.{Extent}
use Rattle.disk_model.specs.declared.memory.MemDisk.{MemDisk}
use Rattle.local_store.specs.Store.{IsStored, State}

pub armed_stored : (old new : MemDisk) (contents : State) (volume : List ℕ) → IsAsBefore old new
    → IsStored contents volume (given_of old) (may_be_left old) → IsStored contents volume (given_of new) (may_be_left new)
armed_stored old new contents volume is stored =
    subst (λ g. IsStored contents volume g (λ c. IsImage g (unsynced_of new) c)) (sym is.given)
    (subst (λ (u : List Extent). IsStored contents volume (given_of old) (λ c. IsImage (given_of old) u c)) (sym is.unsynced) stored)

pub armed_leaves : (old new : MemDisk) (c : List ℕ) → IsAsBefore old new → may_be_left new c → may_be_left old c
armed_leaves old new c is left = subst (λ g. IsImage g (unsynced_of old) c) is.given (subst (λ (u : List Extent). IsImage (given_of new) u c) is.unsynced left)
