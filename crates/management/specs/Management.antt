-- The manager of a chain, with its record and its seat: what contracts see of it, and what holds between two calls.
use Rattle.std.specs.Prelude.{◌≡◌, ℕ, ◌+◌, ◌≤◌, true, false, List, [], None, replicate}
use Rattle.board.specs.Seats.{SeatView}
use Rattle.configurations.specs.Record.{Record}
use Rattle.configurations.specs.Store as configs
use Rattle.configurations.specs.Store.{HoldsOldOrNew, IsSettledConfig}
use Rattle.disk_model.specs.Part.{inside}
use Rattle.gate_journal.specs.declared.pair.TheConstants.{PAIR_SIZE}
use Rattle.manager.specs.Manager as managers
use Rattle.manager.specs.Manager.{coming_record}
use Rattle.manager.specs.Orders.{first_of, is_record}

-- the manager, the store of its record, the disk that the record stands on, and the seat that counts slots
pub record Managing (C : Type 0) : Type 0 where
  pub manager : managers.State
  pub config : configs.State
  pub disk : C
  pub seat : SeatView

-- the manager of a chain of which nobody is stopped, with no change under way
abbrev pub manager_of : Record → managers.State
manager_of chain = record { chain = chain; stopped = replicate 8 false; joining = None; coming = chain.members; begun = false; left = [] }

-- The part of a store holds the store's record, and a stop leaves it so; once a device call has failed, whatever a stop leaves has that
-- record or the next one.
pub record IsKept (config : configs.State) (next : Record) (gives : List ℕ) (may_leave : List ℕ → Type 0) : Type 0 where
  pub settled : config.pair.broken ≡ false → IsSettledConfig config gives may_leave
  pub either : config.pair.broken ≡ true → (c : List ℕ) → may_leave c → HoldsOldOrNew config.current next (inside config.pair.part c)

-- the writing of the next record has begun, and it stays the next order until it is done
pub record IsWriting (st : managers.State) : Type 0 where
  pub begun : st.begun ≡ true
  pub first : is_record (first_of st.left) ≡ true

-- What holds between two calls.
pub record IsManaging {C : Type 0} (keeps_model : Type 0) (size : C → ℕ) (gives : C → List ℕ) (may_leave : C → List ℕ → Type 0) (m : Managing C) : Type 0 where
  pub pair : m.config.pair.part.len ≡ PAIR_SIZE
  pub on_disk : m.config.pair.part.start + m.config.pair.part.len ≤ size m.disk
  pub counts : m.seat.counts ≡ true
  -- the manager's chain is the record of the store
  pub recorded : m.config.current ≡ m.manager.chain
  -- which stands on the disk
  pub kept : keeps_model → IsKept m.config (coming_record m.manager) (gives m.disk) (may_leave m.disk)
  -- a store is broken by the writing of a record alone
  pub writing : keeps_model → m.config.pair.broken ≡ true → IsWriting m.manager

-- the manager's chain stands on the disk, and nothing else may be left there
pub record IsDurable {C : Type 0} (gives : C → List ℕ) (may_leave : C → List ℕ → Type 0) (m : Managing C) : Type 0 where
  pub current : m.config.current ≡ m.manager.chain
  pub settled : IsSettledConfig m.config (gives m.disk) (may_leave m.disk)
