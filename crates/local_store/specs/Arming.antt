-- What the script of a store's disk changes.
use Rattle.std.specs.Prelude.{◌≡◌, ◌↔◌, ℕ, List}
use Rattle.local_store.specs.About.{About}

-- The store tells and keeps what it did, and a stop leaves nothing new of its disk.
pub record IsAsItWas {S : Type 0} (about : S → About) (keeps : S → List ℕ → Type 0) (is_pending : S → ℕ → Type 0) (may_leave_now : S → List ℕ → Type 0) (failures : S → ℕ) (old new : S) : Type 0 where
  pub tells : about new ≡ about old
  pub kept : (volume : List ℕ) → keeps old volume → keeps new volume
  pub still : (b : ℕ) → is_pending new b ↔ is_pending old b
  pub leaves : (c : List ℕ) → may_leave_now new c → may_leave_now old c
  pub failed : failures new ≡ failures old
