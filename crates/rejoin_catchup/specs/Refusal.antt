-- The numbers of the refusals, and where they come from.
use Rattle.std.specs.Prelude.{ℕ, Option, Some}
use Rattle.local_store.specs.Refusal as store
use Rattle.rejoin_catchup.specs.declared.piece.Piece.{Piece}
use Rattle.rejoin_catchup.specs.declared.piece.Piece.TheVariants.{End}
use Rattle.rejoin_catchup.specs.declared.refusal.Refusal.{Refusal}
use Rattle.rejoin_catchup.specs.declared.refusal.Refusal.TheVariants.{OutOfOrder, Store}

-- the number of a refusal, but for a disk that has stopped
abbrev pub number_of : Refusal → Option ℕ
number_of OutOfOrder = Some 181
number_of (Store refusal) = store.number_of refusal

-- what a piece may be refused with
abbrev pub IsOfTaking : Piece → Refusal → Type 0
IsOfTaking _ OutOfOrder = Unit {0}
IsOfTaking (End front) (Store refusal) = store.IsOfFinishing refusal
IsOfTaking _ (Store refusal) = store.IsOfTicking refusal

-- where the refusal is the device's, the disk has failed since, unless it had no memory
abbrev pub IsCaused : ℕ → ℕ → Refusal → Type 0
IsCaused before now OutOfOrder = Unit {0}
IsCaused before now (Store refusal) = store.IsCaused before now refusal
