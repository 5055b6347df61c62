-- When a chain whose record changes stands for a state of the one volume's machine.
use Rattle.std.specs.Prelude.{◌≡◌, ◌≢◌, ℕ, suc, ◌<◌, ◌≤◌, true, Option, None, Some, List, map, take, All, AllPairs}
use Rattle.std.specs.List.{Contains, flat_map}
use Rattle.std.specs.Option.{ForSome}
use Rattle.board.specs.Mask.{counts}
use Rattle.configurations.specs.Record.{Record}
use Rattle.gate_journal.specs.Receipt.{Receipt}
use Rattle.version_table.specs.declared.kept.Kept.{Kept}
use Rattle.chain_steps.specs.Node.{NodeState, epoch_of, last_of}
use Rattle.chain_steps.specs.Place.{Standing, head_of, incarnation_in, is_tail}
use Rattle.chain_steps.specs.declared.cause.Cause.{Cause}
use Rattle.chain_steps.specs.declared.message.Envelope.{Envelope}
use Rattle.chain_steps.specs.declared.message.Message.{Message}
use Rattle.chain_steps.specs.declared.message.Message.TheVariants as messages
use Rattle.chain_steps.specs.declared.waiting.Waiting.{Waiting}
use Rattle.chain_steps.specs.declared.waiting.Waiting.TheVariants as tokens
use Rattle.world_model.specs.Backing.{IsBacked, Muster}
use Rattle.world_model.specs.Chain.{AreBefore}
use Rattle.chain_model.specs.Holding.{Holders}
use Rattle.chain_model.specs.Links.{hops_of}
use Rattle.world_model.specs.Machine.{State, machine_volume}
use Rattle.world_model.specs.Order.{volume_after}
use Rattle.chain_model.specs.Placed.{Apart, Close, above_in}
use Rattle.world_model.specs.Requests as requests
use Rattle.chain_model.specs.Turning.{Stands}
use Rattle.chain_model.specs.View.{Joiner, Member, View, chain_of, disks_of, is_in, is_in_some, net_of, next_of, raised_of, requests_of, slot_of, slots_of}

-- ---- who was told what

-- nobody is there, or this one
abbrev pub IsIfThere : ℕ → Option ℕ → Type 0
IsIfThere incarnation there = ForSome there (λ other. other ≡ incarnation)

-- A member was told the recorded chain, the one before it, or an older one. If it runs, it was told one of the two and is in the
-- recorded one; and it is in the one that it was told, unless it has joined since. No other incarnation of it is in either.
pub record IsToldAt (recorded before : Record) (place : Standing) (incarnation : ℕ) (stopped : Option Cause) : Type 0 where
  pub within : place.chain.epoch ≤ recorded.epoch
  pub now : place.chain.epoch ≡ recorded.epoch → place.chain ≡ recorded
  pub old : suc place.chain.epoch ≡ recorded.epoch → place.chain ≡ before
  pub near : stopped ≡ None → recorded.epoch ≤ suc place.chain.epoch
  pub there : stopped ≡ None → incarnation_in recorded place.slot ≡ Some incarnation
  pub itself : stopped ≡ None → IsIfThere incarnation (incarnation_in place.chain place.slot)

abbrev pub IsTold : Record → Record → NodeState → Type 0
IsTold recorded before node = IsToldAt recorded before node.place node.incarnation node.stopped

-- nobody in the record has a later incarnation than this
abbrev pub IsDated : ℕ → Record → Type 0
IsDated youngest r = All (λ m. m.incarnation ≤ youngest) r.members

-- the member runs, and was told the chain before
abbrev pub IsBehind : Record → NodeState → Type 0
IsBehind recorded node = (node.stopped ≡ None) × (suc (epoch_of node) ≡ recorded.epoch)

-- At each slot of the recorded chain somebody stands, and at each of the chain before as long as somebody runs in that; neighbours in the
-- chain before are neighbours still where both are recorded, and its head is the head.
pub record ArePlaced (recorded before : Record) (members : List Member) : Type 0 where
  pub apart : Apart (chain_of recorded)
  pub apart_before : Apart (chain_of before)
  pub close : Close (chain_of before) (chain_of recorded)
  pub first : (s : ℕ) → head_of before ≡ Some s → Contains (chain_of recorded) s → head_of recorded ≡ Some s
  pub stands : All (λ s. Contains (slots_of members) s) (chain_of recorded)
  pub stood : All (λ m. IsBehind recorded m.node → All (λ s. Contains (slots_of members) s) (chain_of before)) members
  pub told : All (λ m. IsTold recorded before m.node) members

-- whoever is in the record that is being written is in the recorded chain too
abbrev pub LeavesRecorded : Record → Option Record → List Member → Type 0
LeavesRecorded recorded writing members = All (λ m. is_in_some writing m.node.place.slot m.node.incarnation ≡ true → is_in recorded m.node.place.slot m.node.incarnation ≡ true) members

-- ---- what links carry

-- of two slots, the one is above the other in the chain of this epoch, if messages of that are still taken
pub record IsAbove (recorded before : Record) (epoch one other : ℕ) : Type 0 where
  pub now : epoch ≡ recorded.epoch → above_in (chain_of recorded) other ≡ Some one
  pub old : suc epoch ≡ recorded.epoch → above_in (chain_of before) other ≡ Some one

-- of two slots, the one is in the chain of this epoch, and the other is its head
pub record IsForHead (recorded before : Record) (epoch one other : ℕ) : Type 0 where
  pub now : epoch ≡ recorded.epoch → (incarnation_in recorded one ≢ None) × (head_of recorded ≡ Some other)
  pub old : suc epoch ≡ recorded.epoch → (incarnation_in before one ≢ None) × (head_of before ≡ Some other)

-- A Put or a Turn goes down the chain, and an Ack tells of what is committed.
abbrev pub Belongs : Record → Record → ℕ → ℕ → ℕ → ℕ → Message → Type 0
Belongs recorded before front epoch from to (messages.Put n origin write) = IsAbove recorded before epoch from to
Belongs recorded before front epoch from to (messages.Ack known) = known ≤ front
Belongs recorded before front epoch from to (messages.Turn applied) = IsAbove recorded before epoch from to
Belongs recorded before front epoch from to (messages.Submit ticket write) = ⊥

-- and a Submit goes to the head
abbrev pub BelongsToHead : Record → Record → ℕ → ℕ → ℕ → Message → Type 0
BelongsToHead recorded before epoch from to (messages.Put n origin write) = ⊥
BelongsToHead recorded before epoch from to (messages.Ack known) = ⊥
BelongsToHead recorded before epoch from to (messages.Turn applied) = ⊥
BelongsToHead recorded before epoch from to (messages.Submit ticket write) = IsForHead recorded before epoch from to

-- no message is of a later epoch than the recorded one
pub record AreLinked (recorded before : Record) (front : ℕ) (links submits : ℕ → ℕ → List Envelope) : Type 0 where
  pub links_of : (from to : ℕ) → All (λ e. (e.epoch ≤ recorded.epoch) × Belongs recorded before front e.epoch from to e.message) (links from to)
  pub submits_of : (from to : ℕ) → All (λ e. (e.epoch ≤ recorded.epoch) × BelongsToHead recorded before e.epoch from to e.message) (submits from to)

-- ---- what members have

-- a volume is the line's at this front, which is committed
pub record IsVolume (size front : ℕ) (line : List Kept) (durable : ℕ) (volume : List ℕ) : Type 0 where
  pub committed : durable ≤ front
  pub is : volume ≡ volume_after size (take durable line)

-- that of a member is, at its durable front
abbrev pub HasVolume : ℕ → ℕ → List Kept → Member → Type 0
HasVolume size front line m = IsVolume size front line m.node.table.forgotten m.volume

-- a number that a write's token knows is one that the member has applied
abbrev pub IsApplied : ℕ → Waiting → Type 0
IsApplied last (tokens.Plain ticket epoch number token) = ForSome number (λ n. n ≤ last)
IsApplied last (tokens.Fua ticket epoch token) = ForSome token.number (λ n. n ≤ last)
IsApplied last (tokens.Read offset len token) = Unit {0}
IsApplied last (tokens.Flush token) = Unit {0}

-- so do all tokens of a member; one that has stopped has no such number
pub record HaveApplied (last : ℕ) (stopped : Option Cause) (waiting : List Waiting) : Type 0 where
  pub applied : All (IsApplied last) waiting
  pub none : stopped ≢ None → All (IsApplied 0) waiting

abbrev pub HasApplied : Member → Type 0
HasApplied m = HaveApplied (last_of m.node) m.node.stopped m.node.waiting

-- ---- what the board tells

-- no gauge, no receipt and no muster is above the committed front
pub record IsWithin (front : ℕ) (gauges receipts : List Receipt) (musters : List Muster) : Type 0 where
  pub gauges_within : All (λ r. r.front ≤ front) gauges
  pub receipts_within : All (λ r. r.front ≤ front) receipts
  pub musters_within : All (λ m. All (λ r. r.front ≤ front) m.gauges) musters

-- ---- together

-- With this line, of which the first `backed` writes are on each disk that a stop may leave recorded: the members of the recorded
-- chain have it in order, and the front stays while a tail holds it; they and the links know of no later record; they and the line know
-- of no later incarnation than the youngest; the board tells of the disks what is so; and what requests have left stands for the state.
pub record StandsWith (size : ℕ) (v : View) (s : State) (line : List Kept) (backed : ℕ) : Type 0 where
  pub order : Stands v.told.front line (hops_of (net_of v.recorded v.links v.members))
  pub holders : Holders v.told.front (hops_of (net_of v.recorded v.links v.members))
  pub volumes : All (HasVolume size v.told.front line) v.members
  pub places : ArePlaced v.recorded v.before v.members
  pub leavable : LeavesRecorded v.recorded v.writing v.members
  pub links : AreLinked v.recorded v.before v.told.front v.links v.submits
  pub numbers : All HasApplied v.members
  pub disks : IsBacked v.told.front v.told.mask v.told.gauges v.told.receipts v.told.musters (disks_of v.recorded v.writing v.members)
  pub within : IsWithin v.told.front v.told.gauges v.told.receipts v.told.musters
  pub backs : All (λ d. backed ≤ d.durable) (disks_of v.recorded v.writing v.members)
  pub fronts : All (λ front. front ≤ v.told.front) v.told.fronts
  pub raised : All (λ front. front ≤ v.told.front) (flat_map raised_of v.members)
  pub clients : requests.StandsFor backed (requests_of v line) s
  pub slots : AllPairs (λ slot other. slot ≢ other) (slots_of v.members)
  pub tickets : All (AreBefore (requests_of v line)) (map next_of v.members)
  pub dated : IsDated v.youngest v.recorded
  pub dated_before : IsDated v.youngest v.before
  pub origins : All (λ k. k.origin.incarnation ≤ v.youngest) line

-- the members stand for the state of a volume of so many bytes
abbrev pub MembersStand : ℕ → View → State → Type 0
MembersStand size v s = (line : List Kept) × (backed : ℕ) × StandsWith size v s line backed

-- ---- one that joins

-- if the member runs, it was told the recorded chain, and holds the front if it is the tail
abbrev pub IsAtRest : Record → Member → Type 0
IsAtRest recorded m = m.node.stopped ≡ None → (epoch_of m.node ≡ recorded.epoch) × (is_tail m.node.place ≡ true → m.node.holds ≡ true)

-- From when it is counted until it is recorded, the joiner's disk has the volume of all that is committed, and the front stays. It is new:
-- nobody stands at its slot, and its incarnation is later than all others.
pub record IsJoining (size : ℕ) (v : View) (s : State) (j : Joiner) : Type 0 where
  pub held : j.front ≡ v.told.front
  pub volume : j.volume ≡ machine_volume size s j.front
  pub counted : counts v.told.mask j.slot ≡ true
  pub incarnation : v.youngest < j.incarnation
  pub apart : All (λ m. slot_of m ≢ j.slot) v.members
  pub rests : All (IsAtRest v.recorded) v.members

-- ---- the chain

-- the chain stands for the state of a volume of so many bytes: its members do, and so does one that joins
abbrev pub StandsFor : ℕ → View → State → Type 0
StandsFor size v s = MembersStand size v s × ForSome v.joiner (IsJoining size v s)
