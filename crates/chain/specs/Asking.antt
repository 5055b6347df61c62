-- What a member does with a write or a FLUSH of its sessions.
use Rattle.std.specs.Prelude.{◌≡◌, ◌⊎◌, ℕ, ◌≤◌, true, ⊤, IfSome, None, Some, List, [], ◌∷◌, map, slice_get, slice_set}
use Rattle.disk_model.specs.Disk.{LeavesOnly}
use Rattle.flush_barrier.specs.Owed.{Owed, OwedAt}
use Rattle.flush_barrier.specs.Reply.{GivenReply}
use Rattle.gate_journal.specs.declared.batch.TheConstants.{MAX_NUMBER}
use Rattle.local_store.specs.About.{About, meaning_with}
use Rattle.local_store.specs.Meaning.{Means}
use Rattle.version_table.specs.Held.{IsClean}
use Rattle.volume.specs.Writes.{Placed}
use Rattle.chain_steps.specs.Node.{Out, Stepped, is_stopped}
use Rattle.chain_steps.specs.Steps.{flush, read_asked, read_at_once, submit}
use Rattle.chain_steps.specs.declared.waiting.WriteToken.{WriteToken}
use Rattle.chain_steps.specs.declared.waiting.WriteToken.TheVariants as tokens
use Rattle.chain_core.specs.Node.{IsRefusedBy, IsStep, Seen}
use Rattle.chain_core.specs.Reads.{HasOnlyRead, IsReadRefused, IsStepOver}
use Rattle.chain_core.specs.declared.refusal.Refusal.{Refusal}
use Rattle.chain_core.specs.declared.refusal.Refusal.TheVariants as refusals
use Rattle.world_model.specs.Chain.{ArePutOut}
use Rattle.world_model.specs.Event.{ClientEvent, Flush, Fua, Read, Write}
use Rattle.world_model.specs.Life.{all_events}
use Rattle.world_model.specs.Machine.{State}
use Rattle.world_model.specs.Requests.{Held}
use Rattle.chain_model.specs.Chain.{StandsFor}
use Rattle.chain_model.specs.Laws.{HasSent}
use Rattle.chain_model.specs.Life.{Era, Happening}
use Rattle.chain_model.specs.View.{View}
use Rattle.chain.specs.Chain.{Chained, Shows, bytes_of}
use Rattle.chain.specs.Links.{link_at}
use Rattle.chain.specs.Member.{Linked}

-- the request whose token this is
abbrev pub asked_by : WriteToken → Placed → Held
asked_by (tokens.Plain token) write = record { session = token.session; cookie = token.cookie; request = Write write }
asked_by (tokens.Fua token) write = record { session = token.session; cookie = token.cookie; request = Fua write }

abbrev pub flush_by : OwedAt → Held
flush_by token = record { session = token.session; cookie = token.cookie; request = Flush }

-- the token has no number yet
abbrev pub IsUnnumbered : WriteToken → Type 0
IsUnnumbered (tokens.Plain token) = ⊤
IsUnnumbered (tokens.Fua token) = token.number ≡ None

-- The write of the member at the place is on its way to the head, and its token waits under the next ticket.
pub record HasSubmitted {S : Type 0} (at : ℕ) (token : WriteToken) (write : Placed) (old new : Chained S) : Type 0 where
  pub before : Linked S
  pub here : slice_get old.members at ≡ Some before
  pub runs : before.node.state.stopped ≡ None
  pub ticket : before.node.state.ticket ≤ MAX_NUMBER
  pub sent : HasSent before.node.state.place.slot (submit token write before.node.state).out.messages (link_at old.submits) (link_at new.submits)
  pub are : new ≡ record old { members = slice_set old.members at (record before { node = record { store = before.node.store; state = (submit token write before.node.state).node } }); submits = new.submits }

-- The FLUSH waits for the first front that is looked up behind it.
pub record HasFlushed {S : Type 0} (token : OwedAt) (old new : Linked S) : Type 0 where
  pub runs : old.node.state.stopped ≡ None
  pub are : new ≡ record old { node = record { store = old.node.store; state = (flush token old.node.state).node } }

-- the link can't grow: nothing changed
pub record CannotGrow {S : Type 0} (old new : Linked S) (replies : List GivenReply) (refusal : Refusal) : Type 0 where
  pub memory : refusal ≡ refusals.Memory
  pub runs : old.node.state.stopped ≡ None
  pub same : new ≡ old
  pub replies_none : replies ≡ []

-- why a token comes back: its node refused it so, or its link can't grow
abbrev pub IsTurnedAway : {S : Type 0} → (Stops : Type 0) → Stepped → List GivenReply → Refusal → Linked S → Linked S → Type 0
IsTurnedAway Stops stepped replies refusal old new =
    (IsRefusedBy Stops stepped old.node new.node replies refusal × (new ≡ record old { node = new.node })) ⊎ CannotGrow old new replies refusal

-- the member at the place has stopped
pub record HasStoppedAt {S : Type 0} (at : ℕ) (c : Chained S) : Type 0 where
  pub member : Linked S
  pub here : slice_get c.members at ≡ Some member
  pub stopped : is_stopped member.node.state ≡ true

-- a request comes back for memory, or since the member at the place has stopped; no other refusal is given
abbrev pub HasPleaAt : {S : Type 0} → ℕ → Chained S → Refusal → Type 0
HasPleaAt at c refusals.Memory = ⊤
HasPleaAt at c refusals.Stopped = HasStoppedAt at c
HasPleaAt at c refusals.Full = ⊥
HasPleaAt at c refusals.NotMember = ⊥
HasPleaAt at c refusals.Early = ⊥
HasPleaAt at c refusals.Busy = ⊥

-- Some things happen, one after another, and clients see these events of them all; then these demands are left of those that
-- waited for the member at the place, and sessions keep what they kept.
pub record GoesTaking (size at : ℕ) (rest : List Held) (v w : View) (events : List ClientEvent) : Type 0 where
  pub happenings : List Happening
  pub each : List (List ClientEvent)
  pub era : Era size v happenings w each
  pub all : all_events each ≡ events
  pub kept : w.kept ≡ v.kept
  pub demands : map (λ m. m.demands) w.members ≡ slice_set (map (λ m. m.demands) v.members) at rest
  pub joiner : w.joiner ≡ v.joiner

-- The member at the place takes the first demand of its sessions, which is this one, and whatever state of the one volume the
-- chain stood for, that can happen in such a chain.
abbrev pub TakesOfOneVolume : {S : Type 0} → (S → About) → (S → List ℕ → Type 0) → (S → List ℕ → Type 0) → ℕ → Held → Chained S → Chained S → List GivenReply → Type 0
TakesOfOneVolume about keeps may_leave_now at demand old new replies =
    (v : View) (s : State) (events : List ClientEvent) (rest : List Held) → Shows about keeps may_leave_now old v → StandsFor (bytes_of old) v s
    → IfSome (slice_get v.members at) (λ m. m.demands ≡ demand ∷ rest) → ArePutOut replies events
    → (w : View) × Shows about keeps may_leave_now new w × GoesTaking (bytes_of old) at rest v w events

-- ---- a READ

-- the request of a READ's token
abbrev pub read_by : Owed → (offset len : ℕ) → Held
read_by token offset len = record { session = token.session; cookie = token.cookie; request = Read offset len }

-- The member ran, its node did so, and nothing else of it changed.
pub record HasRead {S : Type 0} (Did : Seen S → Seen S → Out → Type 0) (replies : List GivenReply) (old new : Linked S) : Type 0 where
  pub out : Out
  pub runs : old.node.state.stopped ≡ None
  pub did : Did old.node new.node out
  pub told : out.replies ≡ replies
  pub are : new ≡ record old { node = new.node }

-- A READ of a clean range was answered at the known commit; another waits. The store was only read.
pub record ReadsSo {S : Type 0} (premise : Type 0) (about : S → About) (keeps : S → List ℕ → Type 0) (moment : S → ℕ) (left_since : S → ℕ → List ℕ → Type 0) (offset len : ℕ) (token : Owed) (old new : Seen S) (out : Out) : Type 0 where
  pub at_once : IsClean old.state.table offset len old.state.known → IsStepOver premise (keeps old.store) new.state out (λ volume. read_at_once volume offset len token old.state)
  pub waits : ¬ IsClean old.state.table offset len old.state.known → IsStep old new out (read_asked offset len token old.state)
  pub tells : about new.store ≡ about old.store
  pub kept : premise → (volume : List ℕ) → keeps old.store volume → keeps new.store volume
  pub any_moment : premise → (volume : List ℕ) → keeps old.store volume → LeavesOnly moment left_since old.store new.store (Means (meaning_with (about old.store) volume))

-- why a READ's token comes back: its node refused it so
abbrev pub IsUnreadAt : {S : Type 0} → (premise : Type 0) → (S → About) → (S → ℕ) → (S → List ℕ → Type 0) → (S → ℕ) → (S → ℕ → List ℕ → Type 0) → (offset len : ℕ) → List GivenReply → Refusal → Linked S → Linked S → Type 0
IsUnreadAt premise about failures keeps moment left_since offset len replies refusal old new =
    IsReadRefused about failures (HasOnlyRead premise about failures keeps moment left_since old.node.store new.node.store) (IsClean old.node.state.table offset len old.node.state.known) old.node new.node replies refusal
    × (new ≡ record old { node = new.node })
