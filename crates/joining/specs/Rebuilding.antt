-- What becomes of a chain in which nothing is under way, when a disk is rebuilt from its tail.
use Rattle.std.specs.Prelude.{◌≡◌, ℕ, suc, false, List, [], ◌∷◌, ◌++◌, All, length}
use Rattle.gate_journal.specs.Receipt.{Receipt}
use Rattle.local_store.specs.About.{About}
use Rattle.local_store.specs.Installer.{unfinished}
use Rattle.chain.specs.Chain.{Chained}
use Rattle.chain_steps.specs.Node.{NodeState, durable_of, last_of}
use Rattle.manager.specs.Manager.{State, is_held}
use Rattle.manager.specs.Orders.{joining_orders}
use Rattle.manager.specs.declared.order.Order.{Order}
use Rattle.manager.specs.declared.order.Order.TheVariants.{CountIn, Record as RecordOrder}
use Rattle.joining.specs.Giving.{FinishesAt}

-- the member knows, has applied and has durably just the writes up to this front
pub record IsAtFront (front : ℕ) (node : NodeState) : Type 0 where
  pub durable : durable_of node ≡ front
  pub known : node.known ≡ front
  pub last : last_of node ≡ front

-- nothing is under way: each member is at the committed front
abbrev pub IsQuiet : {S : Type 0} → Chained S → Type 0
IsQuiet c = All (λ m. IsAtFront c.words.front m.node.state) c.members

-- each member's store keeps this volume
abbrev pub AllKeep : {S : Type 0} → (S → List ℕ → Type 0) → List ℕ → Chained S → Type 0
AllKeep keeps volume c = All (λ m. keeps m.node.store volume) c.members

-- each store that keeps a volume at the members keeps it still
abbrev pub KeepStill : {S : Type 0} → (S → List ℕ → Type 0) → Chained S → Chained S → Type 0
KeepStill keeps old new = (volume : List ℕ) → AllKeep keeps volume old → AllKeep keeps volume new

-- only what members have, and what is on its way between them, changed; and nothing is under way still
pub record IsSteady {S : Type 0} (old new : Chained S) : Type 0 where
  pub are : new ≡ record old { members = new.members; links = new.links }
  pub many : length new.members ≡ length old.members
  pub quiet : IsQuiet new

-- There is one member more, at this slot, behind the others, in the recorded chain too: its incarnation is the epoch, which is the next one.
-- The front, and all that was committed, is as it was.
pub record HasOneMore {S : Type 0} (slot : ℕ) (old new : Chained S) : Type 0 where
  pub epoch : new.recorded.epoch ≡ suc old.recorded.epoch
  pub members : new.recorded.members ≡ old.recorded.members ++ record { slot = slot; incarnation = suc old.recorded.epoch } ∷ []
  pub many : length new.members ≡ suc (length old.members)
  pub front : new.words.front ≡ old.words.front
  pub sizes : new.geometry ≡ old.geometry

-- The recorded chain and the front are as they were, there are as many members, and nothing is under way.
pub record IsLeft {S : Type 0} (old new : Chained S) : Type 0 where
  pub recorded : new.recorded ≡ old.recorded
  pub front : new.words.front ≡ old.words.front
  pub many : length new.members ≡ length old.members
  pub quiet : IsQuiet new

-- ---- the orders

-- an order comes, and these are left
pub record HasLeft (orders : List Order) (st : State) : Type 0 where
  pub runs : is_held st ≡ false
  pub are : st.left ≡ orders

-- the orders of a joining at the slot are left, from the first on
abbrev pub IsBeforeCopying : ℕ → State → Type 0
IsBeforeCopying slot st = HasLeft (joining_orders slot st.coming) st

-- they are left from the one on by which the disk is counted
abbrev pub IsBehindCopying : ℕ → State → Type 0
IsBehindCopying slot st = (rest : List Order) × HasLeft (CountIn slot ∷ RecordOrder ∷ rest) st

-- ---- the disk that is rebuilt

-- the store is of the slot and the next epoch, at the front, with the receipt for it
pub record IsRebuilt {S : Type 0} (about : S → About) (slot : ℕ) (c : Chained S) (store : S) (receipt : Receipt) : Type 0 where
  pub finished : FinishesAt (unfinished slot (suc c.recorded.epoch) c.geometry) c.words.front (about store)
  pub its : receipt ≡ record { slot = slot; front = c.words.front }
