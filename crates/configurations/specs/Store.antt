-- A record in a part of a disk: which one its bytes hold, and what a call of the store may leave of it.
use Rattle.std.specs.Prelude.{◌≡◌, ◌⊎◌, ℕ, ◌+◌, ◌<◌, true, false, List, Option, Some, None}
use Rattle.std.proofs.Common.{subst, sym}
use Rattle.disk_model.specs.Part.{inside, LeftInside}
use Rattle.disk_model.specs.declared.part.Part.{Part}
use Rattle.gate_journal.specs.Pair.{Entry, HoldsPair, IsCleared, IsSettledPair, Pair, Slots, last_number, newest, stored}
use Rattle.gate_journal.specs.declared.batch.TheConstants.{MAX_NUMBER}
use Rattle.configurations.specs.Record.{IsEncoding, Record}

-- the payload of this entry encodes the record
abbrev pub Records : Option Entry → Record → Type 0
Records None r = ⊥
Records (Some entry) r = IsEncoding entry.payload r

-- the bytes of a pair hold this record: the payload of their newer open slot encodes it
pub record HoldsRecord (r : Record) (bytes : List ℕ) : Type 0 where
  pub slots : Slots
  pub holds : HoldsPair slots bytes
  pub newer : Records (newest slots) r

-- the bytes hold this record, and this is the number of the store that put it there
pub record HoldsNumbered (r : Record) (number : ℕ) (bytes : List ℕ) : Type 0 where
  pub slots : Slots
  pub holds : HoldsPair slots bytes
  pub newer : Records (newest slots) r
  pub numbered : last_number (newest slots) ≡ number

-- so they hold the record
pub numbered_holds : {r : Record} {number : ℕ} {bytes : List ℕ} → HoldsNumbered r number bytes → HoldsRecord r bytes
numbered_holds is = record { slots = is.slots; holds = is.holds; newer = is.newer }

-- the bytes hold no record: no slot is open, or the newer open one encodes none
abbrev pub HoldsNone : List ℕ → Type 0
HoldsNone bytes = (r : Record) → HoldsRecord r bytes → ⊥

-- while a record is replaced, the bytes hold the old one or the new
abbrev pub HoldsOldOrNew : Record → Record → List ℕ → Type 0
HoldsOldOrNew old new bytes = HoldsRecord old bytes ⊎ HoldsRecord new bytes

-- while the first record is written, both slots are cleared at most, or the part holds the record
abbrev pub IsBeingMade : Part → Record → (List ℕ → Type 0) → List ℕ → Type 0
IsBeingMade part r may_leave c = (IsCleared part 0 may_leave c × IsCleared part 1 may_leave c) ⊎ HoldsRecord r (inside part c)

-- a store: the pair that it stands in, and the record that it holds
pub record State : Type 0 where
  pub pair : Pair
  pub current : Record

-- The part holds the store's record, in a pair that is settled: a stop now leaves the part as it is.
pub record IsSettledConfig (store : State) (gives : List ℕ) (may_leave : List ℕ → Type 0) : Type 0 where
  pub slots : Slots
  pub pair : IsSettledPair store.pair slots gives may_leave
  pub newer : Records (newest slots) store.current

-- so the part holds the store's record
pub settled_holds : {store : State} {gives : List ℕ} {may_leave : List ℕ → Type 0} → IsSettledConfig store gives may_leave → HoldsRecord store.current (inside store.pair.part gives)
settled_holds settled = record { slots = settled.slots; holds = settled.pair.holds; newer = settled.newer }

-- and so does whatever a stop may leave
pub settled_leaves : {store : State} {gives : List ℕ} {may_leave : List ℕ → Type 0} → IsSettledConfig store gives may_leave → (x : List ℕ) → LeftInside store.pair.part may_leave x → HoldsRecord store.current x
settled_leaves {store} settled x left = subst (HoldsRecord store.current) (sym (settled.pair.durable x left)) (settled_holds settled)

-- and with the number of the store's last one
pub settled_numbered : {store : State} {gives : List ℕ} {may_leave : List ℕ → Type 0} → IsSettledConfig store gives may_leave → HoldsNumbered store.current store.pair.number (inside store.pair.part gives)
settled_numbered settled = record { slots = settled.slots; holds = settled.pair.holds; newer = settled.newer; numbered = sym settled.pair.number }

pub settled_leaves_numbered : {store : State} {gives : List ℕ} {may_leave : List ℕ → Type 0} → IsSettledConfig store gives may_leave → (x : List ℕ) → LeftInside store.pair.part may_leave x
    → HoldsNumbered store.current store.pair.number x
settled_leaves_numbered {store} settled x left = subst (HoldsNumbered store.current store.pair.number) (sym (settled.pair.durable x left)) (settled_numbered settled)

-- while a record is replaced, the bytes hold the old one with its number, or the new one with the next
abbrev pub HoldsOldOrNext : State → Record → List ℕ → Type 0
HoldsOldOrNext store new bytes = HoldsNumbered store.current store.pair.number bytes ⊎ HoldsNumbered new (store.pair.number + 1) bytes

-- a record of this epoch is the next one: the epoch is the last one's plus 1, and the pair has a number left
pub record IsNext (store : State) (epoch : ℕ) : Type 0 where
  pub one_more : epoch ≡ store.current.epoch + 1
  pub number_left : store.pair.number < MAX_NUMBER

-- the store of a part with its first record
abbrev pub created : Part → Record → State
created part r = record { pair = record { part = part; number = 1; into = 1; is_closed = true; other_is_closed = false; broken = false }; current = r }

-- the store with the gate closed of the slot that the next record goes into
abbrev pub begun : State → State
begun store = record store { pair = record store.pair { is_closed = true } }

-- the store after this record
abbrev pub recorded : State → Record → State
recorded store r = record { pair = stored store.pair; current = r }

-- the store after a device call that failed
abbrev pub failed : State → State
failed store = record store { pair = record store.pair { broken = true } }
