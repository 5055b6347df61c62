-- What becomes of a world that a disk joins.
use Rattle.std.specs.Prelude.{◌≡◌, ◌≢◌, ◌⊎◌, ℕ, ◌-◌, Bool, true, false, Option, Some, None, [], ◌∷◌, ◌++◌, IsSomeAnd, length}
use Rattle.configurations.specs.Record.{Record}
use Rattle.configurations.specs.Store.{recorded}
use Rattle.gate_journal.specs.Receipt.{Receipt}
use Rattle.local_store.specs.About.{About}
use Rattle.manager.specs.Manager.{begun_of, done_of, next_of, record_of}
use Rattle.manager.specs.Orders.{is_record}
use Rattle.manager.specs.declared.order.Order.{Order}
use Rattle.manager.specs.declared.order.Order.TheVariants.{Attach, Copy, CountIn, Hold, Rest}
use Rattle.chain_steps.specs.Place.{slot_at}
use Rattle.chain.specs.Chain.{Chained, RestsAt}
use Rattle.chain.specs.Holding.{HoldsAt, MayNotHold}
use Rattle.chain.specs.Musters.{LacksAt}
use Rattle.chain.specs.Joining.{HasCountedIn, HasEndedJoin, MayBeginJoin, MayCountIn, MayEndJoin}
use Rattle.chain.specs.Recording.{HasBegunRecord}
use Rattle.world.specs.Management.{HasNobody, IsMemberAt, Managing}
use Rattle.world.specs.Telling.{Answers}
use Rattle.world.specs.World.{Seen}
use Rattle.world.specs.declared.told.Told.{Told}

-- nobody joins, and the store's disk may be counted
abbrev pub MayJoin : {S : Type 0} → (S → About) → ℕ → S → Receipt → Seen S → Type 0
MayJoin about at store receipt w = (w.joiner ≡ None) × MayCountIn about at store receipt w.chain

-- it is counted, and joins from now on
pub record HasJoined {S : Type 0} (store : S) (receipt : Receipt) (old new : Seen S) : Type 0 where
  pub counted : HasCountedIn receipt old.chain new.chain
  pub are : new ≡ record old { chain = new.chain; joiner = Some store }

-- somebody joins, and the record with it may be written now
abbrev pub MayBeginWithJoiner : {S : Type 0} → (S → About) → Record → Seen S → Type 0
MayBeginWithJoiner about next w = IsSomeAnd w.joiner (λ store. MayBeginJoin about store next w.chain)

-- it is being written
pub record HasBegunWithJoiner {S : Type 0} (next : Record) (old new : Seen S) : Type 0 where
  pub begun : HasBegunRecord next old.chain new.chain
  pub are : new ≡ record old { chain = new.chain }

-- somebody joins, and the record with it is being written
abbrev pub MayEndWithJoiner : {S : Type 0} → (S → About) → Seen S → Type 0
MayEndWithJoiner about w = IsSomeAnd w.joiner (λ store. MayEndJoin about store w.chain)

-- it is the recorded one: who joined is a member, for whom nothing waits
pub record HasEndedWithJoiner {S : Type 0} (about : S → About) (old new : Seen S) : Type 0 where
  pub store : S
  pub joined : old.joiner ≡ Some store
  pub ended : HasEndedJoin about store old.chain new.chain
  pub are : new ≡ record old { chain = new.chain; queues = old.queues ++ [] ∷ []; joiner = None }

-- who joined was given up
pub record HasGivenUp {S : Type 0} (store : S) (old new : Seen S) : Type 0 where
  pub none : old.chain.writing ≡ None
  pub joined : old.joiner ≡ Some store
  pub are : new ≡ record old { joiner = None }

-- a record is being written, or nobody joins
abbrev pub IsKept : {S : Type 0} → Seen S → Type 0
IsKept w = (w.chain.writing ≢ None) ⊎ (w.joiner ≡ None)

-- who joined was given up, or nobody was
abbrev pub GivesUp : {S : Type 0} → Option S → Seen S → Seen S → Type 0
GivesUp (Some store) old new = HasGivenUp store old new
GivesUp None old new = IsKept old × (new ≡ old)

-- ---- the orders of a joining

-- the tail of a record has this slot
abbrev pub EndsAt : Record → ℕ → Type 0
EndsAt r slot = slot_at r (length r.members - 1) ≡ Some slot

-- the recorded chain's tail stands at this place
pub record IsTailAt {S : Type 0} (c : Chained S) (at : ℕ) : Type 0 where
  pub slot : ℕ
  pub last : EndsAt c.recorded slot
  pub stands : IsMemberAt c slot at

-- nobody stands as the tail
abbrev pub HasNoTail : {S : Type 0} → Chained S → Type 0
HasNoTail c = (slot : ℕ) → EndsAt c.recorded slot → HasNobody c slot

-- the order asks for something of the joiner's disk alone
abbrev pub is_of_copying : Order → Bool
is_of_copying (Attach slot) = true
is_of_copying (Copy slot) = true
is_of_copying (Rest slot) = true
is_of_copying _ = false

-- The next order was to hold, and the tail holds the front.
pub record HoldsNext {S D : Type 0} (told : Told) (old new : Managing D) (world after : Seen S) : Type 0 where
  pub slot : ℕ
  pub at : ℕ
  pub due : next_of old.manager ≡ Hold slot
  pub tail : IsTailAt world.chain at
  pub holds : Answers told world after (HoldsAt at)
  pub are : new ≡ record old { manager = done_of old.manager }

-- that isn't the next order, nobody is the tail, or the tail at this place has stopped, or wasn't told the recorded chain
abbrev pub HoldsNobody : {S D : Type 0} → Managing D → Seen S → Type 0
HoldsNobody old world =
    ((slot : ℕ) → next_of old.manager ≡ Hold slot → ⊥)
    ⊎ (HasNoTail world.chain
    ⊎ ((at : ℕ) × IsTailAt world.chain at × (RestsAt at world.chain world.chain ⊎ LacksAt at world.chain world.chain (MayNotHold world.chain.recorded))))

-- The next order was to count the slot of this store's disk, and the tail is one that lets it join: it joins.
pub record CountsIn {S D : Type 0} (about : S → About) (store : S) (receipt : Receipt) (old new : Managing D) (world after : Seen S) : Type 0 where
  pub at : ℕ
  pub due : next_of old.manager ≡ CountIn (about store).slot
  pub tail : IsTailAt world.chain at
  pub may : MayJoin about at store receipt world
  pub joined : HasJoined store receipt world after
  pub are : new ≡ record old { manager = done_of old.manager }

-- that isn't the next order, nobody is the tail, or the tail at this place isn't one that lets it join
abbrev pub CountsNobody : {S D : Type 0} → (S → About) → S → Receipt → Managing D → Seen S → Type 0
CountsNobody about store receipt old world =
    (next_of old.manager ≢ CountIn (about store).slot)
    ⊎ (HasNoTail world.chain
    ⊎ ((at : ℕ) × IsTailAt world.chain at × (MayJoin about at store receipt world → ⊥)))

-- The next order was to write the record with who joins, which may come next: it is being written.
pub record BeginsJoin {S D : Type 0} (about : S → About) (old new : Managing D) (world after : Seen S) : Type 0 where
  pub next : Record
  pub due : record_of old.manager ≡ Some next
  pub may : MayBeginWithJoiner about next world
  pub begun : HasBegunWithJoiner next world after
  pub are : new ≡ record old { manager = begun_of old.manager }

-- no record is the next order, or it may not come next with who joins
abbrev pub BeginsNoJoin : {S D : Type 0} → (S → About) → Managing D → Seen S → Type 0
BeginsNoJoin about old world = (record_of old.manager ≡ None) ⊎ ((next : Record) × (record_of old.manager ≡ Some next) × (MayBeginWithJoiner about next world → ⊥))

-- the record was written to the disk; or one of its epoch stood there, and nothing changed
abbrev pub HasRecorded : {D : Type 0} → Record → Managing D → Managing D → Type 0
HasRecorded next old new = (new ≡ record old { config = recorded old.config next; disk = new.disk }) ⊎ ((old.config.current.epoch ≡ next.epoch) × (new ≡ old))

-- The record with who joins stands on the disk, and is the recorded one.
pub record EndsJoin {S D : Type 0} (about : S → About) (old new : Managing D) (world after : Seen S) : Type 0 where
  pub next : Record
  pub due : is_record (next_of old.manager) ≡ true
  pub written : world.chain.writing ≡ Some next
  pub may : MayEndWithJoiner about world
  pub ended : HasEndedWithJoiner about world after
  pub manager : new.manager ≡ done_of old.manager
  pub stands : HasRecorded next old (record new { manager = old.manager })

-- no record is the next order, or none with who joins is being written
abbrev pub EndsNoJoin : {S D : Type 0} → (S → About) → Managing D → Seen S → Type 0
EndsNoJoin about old world = (is_record (next_of old.manager) ≡ false) ⊎ (MayEndWithJoiner about world → ⊥)

-- memory ran out: the record may stand on the disk already
abbrev pub HasOnlyRecorded : {S D : Type 0} → Managing D → Managing D → Seen S → Type 0
HasOnlyRecorded old new world = (next : Record) × (world.chain.writing ≡ Some next) × HasRecorded next old new
