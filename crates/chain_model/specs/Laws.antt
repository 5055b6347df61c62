-- That each kind of step of a chain whose record changes is of the one volume: what clients see of it some run of the machine shows,
-- and the chain then stands for the state in which that run ends.
use Rattle.std.specs.Prelude.{if◌then◌else◌, ◌==◌, ◌≡◌, ◌≢◌, ◌⊎◌, true, false, ℕ, suc, ◌<◌, ◌≤◌, Option, None, Some, List, [], ◌∷◌, ◌++◌, length, map, take, drop, set, fold, slice_get, All, AllPairs}
use Rattle.std.specs.List.{Contains, insert}
use Rattle.board.specs.Mask.{counts}
use Rattle.board.specs.Seats.{FoundFront}
use Rattle.configurations.specs.Record.{Record}
use Rattle.configurations.specs.declared.member.Member as recorded
use Rattle.flush_barrier.specs.Owed.{Owed, OwedAt}
use Rattle.flush_barrier.specs.declared.error_code.ErrorCode.{ErrorCode}
use Rattle.version_table.specs.Held.{IsClean, writes_upto}
use Rattle.volume.specs.Writes.{Fits, Placed, patched, volume_of}
use Rattle.chain_steps.specs.Node.{Commit, Stepped, Taken, epoch_of, last_of}
use Rattle.chain_steps.specs.Steps.{answer_at, answer_floor, deliver, ended, flush, hold, know, read_asked, stop, submit, told}
use Rattle.chain_steps.specs.Place.{incarnation_in, is_member, is_tail}
use Rattle.chain_steps.specs.Waiting.{debt_of, waits_for}
use Rattle.chain_steps.specs.declared.cause.Cause.{Cause}
use Rattle.chain_steps.specs.declared.found.Found.TheVariants.{Raised, Looked}
use Rattle.chain_steps.specs.declared.message.Envelope.{Envelope}
use Rattle.chain_steps.specs.declared.message.Sent.{Sent}
use Rattle.chain_steps.specs.declared.waiting.WriteToken.{WriteToken}
use Rattle.world_model.specs.Backing.{IsBacked}
use Rattle.world_model.specs.Chain.{ArePutOut, BoardInUse}
use Rattle.world_model.specs.Event.{Answered, ClientEvent, Done, Failed, Read}
use Rattle.world_model.specs.Machine.{IsFlush, May, Plays, Restart, State, after, machine_volume, start, written}
use Rattle.world_model.specs.Requests.{Held, IsNew, IsOfKind, sent_event}
use Rattle.chain_model.specs.Chain.{IsDated, IsWithin, MembersStand, StandsFor}
use Rattle.chain_model.specs.View.{Joiner, Member, View, disk_of, disks_of, may_be_recorded, slot_of, slots_of}

-- the chain with these members
abbrev pub with_members : View → List Member → View
with_members v members = record v { members = members }

-- from a chain with the one members to a chain with the others
abbrev pub Leads : ℕ → View → List Member → List Member → List ClientEvent → Type 0
Leads size v old new events = Plays size (MembersStand size (with_members v old)) (MembersStand size (with_members v new)) events

-- one member becomes another
abbrev pub Becomes : ℕ → View → List Member → Member → Member → List Member → List ClientEvent → Type 0
Becomes size v above old new below events = Leads size v (above ++ old ∷ below) (above ++ new ∷ below) events

-- ---- links

-- those that are for a slot
abbrev pub sent_to : ℕ → List Sent → List Envelope
sent_to slot [] = []
sent_to slot (m ∷ ms) = if m.to == slot then m.envelope ∷ sent_to slot ms else sent_to slot ms

-- the links are the same
abbrev pub AreSame : (old new : ℕ → ℕ → List Envelope) → Type 0
AreSame old new = (from to : ℕ) → new from to ≡ old from to

-- what the member at the slot sends stands behind what is on the links from it
pub record HasSent (slot : ℕ) (sent : List Sent) (old new : ℕ → ℕ → List Envelope) : Type 0 where
  pub others : (from to : ℕ) → from ≢ slot → new from to ≡ old from to
  pub its : (to : ℕ) → new slot to ≡ old slot to ++ sent_to to sent

-- the first message of the link from one slot to another is taken
pub record HasTaken (from slot : ℕ) (envelope : Envelope) (old new : ℕ → ℕ → List Envelope) : Type 0 where
  pub first : old from slot ≡ envelope ∷ new from slot
  pub others : (one other : ℕ) → (one ≡ from → other ≢ slot) → new one other ≡ old one other

-- The member at the slot takes the first message that comes from another one by its chain link, or that comes to it by a submit
-- link, and what it sends goes to chain links.
pub record HasPassed (from slot : ℕ) (envelope : Envelope) (sent : List Sent) (links new_links : ℕ → ℕ → List Envelope) : Type 0 where
  pub apart : from ≢ slot
  pub between : ℕ → ℕ → List Envelope
  pub taken : HasTaken from slot envelope links between
  pub sends : HasSent slot sent between new_links

-- ---- demands

-- A demand is dropped, or refused.
abbrev pub DropsDemand : Type 0
DropsDemand = (size : ℕ) (v : View) (above : List Member) (m : Member) (below : List Member) (d : Held) (rest : List Held) → m.demands ≡ d ∷ rest
    → Becomes size v above m (record m { demands = rest }) below []

abbrev pub RefusesDemand : Type 0
RefusesDemand = (size : ℕ) (v : View) (above : List Member) (m : Member) (below : List Member) (d : Held) (rest : List Held) (error : ErrorCode) → m.demands ≡ d ∷ rest
    → Becomes size v above m (record m { demands = rest }) below (Answered d.session d.cookie (Failed error) ∷ [])

-- A READ of a clean range is answered at once, at the known commit.
abbrev pub ReadsClean : Type 0
ReadsClean = (size : ℕ) (v : View) (above : List Member) (m : Member) (below : List Member) (d : Held) (rest : List Held) (offset len : ℕ) → m.node.stopped ≡ None → m.demands ≡ d ∷ rest
    → d.request ≡ Read offset len → IsClean m.node.table offset len m.node.known → length m.volume ≡ size → All (λ k. Fits size k.write) m.node.table.kept
    → Becomes size v above m (record m { demands = rest }) below (Answered d.session d.cookie (Done (take len (drop offset (fold patched m.volume (writes_upto m.node.table m.node.known))))) ∷ [])

-- Another READ waits for a front, and so does a FLUSH.
abbrev pub AsksFront : Type 0
AsksFront = (size : ℕ) (v : View) (above : List Member) (m : Member) (below : List Member) (d : Held) (rest : List Held) (offset len : ℕ) (token : Owed) → m.demands ≡ d ∷ rest → d.request ≡ Read offset len
    → token.session ≡ d.session → token.cookie ≡ d.cookie
    → Becomes size v above m (record m { node = (read_asked offset len token m.node).node; demands = rest }) below []

abbrev pub TakesFlush : Type 0
TakesFlush = (size : ℕ) (v : View) (above : List Member) (m : Member) (below : List Member) (d : Held) (rest : List Held) (token : OwedAt) → m.demands ≡ d ∷ rest → IsFlush d.request
    → token.session ≡ d.session → token.cookie ≡ d.cookie → token.number ≡ None
    → Becomes size v above m (record m { node = (flush token m.node).node; demands = rest }) below []

-- A write of a member that is in the chain that it was told goes to the head, and its token waits under the next ticket.
abbrev pub SubmitsWrite : Type 0
SubmitsWrite = (size : ℕ) (v : View) (above : List Member) (m : Member) (below : List Member) (d : Held) (rest : List Held) (token : WriteToken) (write : Placed) (submits : ℕ → ℕ → List Envelope)
    → m.node.stopped ≡ None → is_member m.node.place ≡ true → m.demands ≡ d ∷ rest → written d.request ≡ Some write
    → IsOfKind (waits_for m.node.ticket (epoch_of m.node) token) d.request → IsNew m.node.ticket (waits_for m.node.ticket (epoch_of m.node) token)
    → (debt_of (waits_for m.node.ticket (epoch_of m.node) token)).session ≡ d.session → (debt_of (waits_for m.node.ticket (epoch_of m.node) token)).cookie ≡ d.cookie
    → HasSent (slot_of m) (submit token write m.node).out.messages v.submits submits
    → Plays size (MembersStand size (with_members v (above ++ m ∷ below)))
    (MembersStand size (record v { members = above ++ record m { node = (submit token write m.node).node; demands = rest } ∷ below; submits = submits })) []

-- ---- messages

-- A member takes a message from a chain link, whichever it is.
abbrev pub TakesMessage : Type 0
TakesMessage = (size : ℕ) (v : View) (above : List Member) (m : Member) (below : List Member) (from : ℕ) (envelope : Envelope) (stepped : Stepped) (links : ℕ → ℕ → List Envelope) (events : List ClientEvent)
    → deliver from envelope m.node ≡ Taken stepped → HasPassed from (slot_of m) envelope stepped.out.messages v.links links → ArePutOut stepped.out.replies events
    → Plays size (MembersStand size (with_members v (above ++ m ∷ below))) (MembersStand size (record v { members = above ++ record m { node = stepped.node } ∷ below; links = links })) events

-- The head takes a write from a submit link.
abbrev pub TakesSubmit : Type 0
TakesSubmit = (size : ℕ) (v : View) (above : List Member) (m : Member) (below : List Member) (from : ℕ) (envelope : Envelope) (stepped : Stepped) (links submits : ℕ → ℕ → List Envelope) (events : List ClientEvent)
    → deliver from envelope m.node ≡ Taken stepped → HasTaken from (slot_of m) envelope v.submits submits → HasSent (slot_of m) stepped.out.messages v.links links → ArePutOut stepped.out.replies events
    → Plays size (MembersStand size (with_members v (above ++ m ∷ below)))
    (MembersStand size (record v { members = above ++ record m { node = stepped.node } ∷ below; links = links; submits = submits })) events

-- ---- fronts and floors

-- A tail that runs, has its Turn and doesn't hold raises the front to its last applied write: all up to there is taken.
abbrev pub RaisesFront : Type 0
RaisesFront = (size : ℕ) (v : View) (above : List Member) (tail : Member) (below : List Member) → tail.node.stopped ≡ None → tail.node.turned ≡ true → tail.node.holds ≡ false → is_tail tail.node.place ≡ true
    → Plays size (MembersStand size (with_members v (above ++ tail ∷ below))) (MembersStand size (record v { told = record v.told { front = last_of tail.node }; members = above ++ tail ∷ below })) []

-- A member keeps a committed front that it raised; with it, it knows more, answers its plain writes, and tells the one before it.
abbrev pub KeepsRaised : Type 0
KeepsRaised = (size : ℕ) (v : View) (above : List Member) (m : Member) (below : List Member) (front : FoundFront) → front.number ≤ v.told.front
    → Becomes size v above m (record m { node = record m.node { found = Some (Raised front) } }) below []

abbrev pub KnowsRaised : Type 0
KnowsRaised = (size : ℕ) (v : View) (above : List Member) (m : Member) (below : List Member) (front : FoundFront) (links : ℕ → ℕ → List Envelope) (events : List ClientEvent) → m.node.stopped ≡ None
    → m.node.found ≡ Some (Raised front) → m.node.known ≤ front.number → HasSent (slot_of m) (know front.number front.number m.node).out.messages v.links links
    → ArePutOut (know front.number front.number m.node).out.replies events
    → Plays size (MembersStand size (with_members v (above ++ m ∷ below)))
    (MembersStand size (record v { members = above ++ record m { node = (know front.number front.number m.node).node } ∷ below; links = links })) events

-- A member looks the committed front up, and answers its READs with it; its FLUSHes are bound to it.
abbrev pub LooksUp : Type 0
LooksUp = (size : ℕ) (v : View) (above : List Member) (m : Member) (below : List Member) (front : FoundFront) → front.number ≡ v.told.front
    → Becomes size v above m (record m { node = record m.node { found = Some (Looked front) } }) below []

abbrev pub AnswersFront : Type 0
AnswersFront = (size : ℕ) (v : View) (above : List Member) (m : Member) (below : List Member) (front : FoundFront) (events : List ClientEvent) → m.node.stopped ≡ None → m.node.found ≡ Some (Looked front)
    → front.number ≤ last_of m.node → ArePutOut (answer_at m.volume front.number m.node).out.replies events
    → Becomes size v above m (record m { node = (answer_at m.volume front.number m.node).node }) below events

-- The tail of the recorded chain takes the committed front, which it has looked up, as its known commit, and holds it for a joiner.
abbrev pub HoldsFront : Type 0
HoldsFront = (size : ℕ) (v : View) (above : List Member) (m : Member) (below : List Member) (front : FoundFront) (links : ℕ → ℕ → List Envelope) (events : List ClientEvent) → m.node.stopped ≡ None
    → m.node.found ≡ Some (Looked front) → front.number ≡ v.told.front → epoch_of m.node ≡ v.recorded.epoch → is_tail m.node.place ≡ true → HasSent (slot_of m) (hold m.node).out.messages v.links links
    → ArePutOut (hold m.node).out.replies events
    → Plays size (MembersStand size (with_members v (above ++ m ∷ below))) (MembersStand size (record v { members = above ++ record m { node = (hold m.node).node } ∷ below; links = links })) events

-- The front stays at what a running member knows while that holds.
abbrev pub HeldStays : Type 0
HeldStays = (size : ℕ) (v : View) (above : List Member) (m : Member) (below : List Member) (s : State) → StandsFor size (with_members v (above ++ m ∷ below)) s → m.node.stopped ≡ None → m.node.holds ≡ true
    → m.node.known ≡ v.told.front

-- With a floor that the disks have which a stop may leave recorded, its writes with FUA are answered, and then its FLUSHes.
abbrev pub AnswersFloor : Type 0
AnswersFloor = (size : ℕ) (v : View) (above : List Member) (m : Member) (below : List Member) (floor : ℕ) (events : List ClientEvent) → floor ≤ v.told.front
    → All (λ d. floor ≤ d.durable) (disks_of v.recorded v.writing (above ++ m ∷ below)) → ArePutOut (answer_floor floor m.node).out.replies events
    → Becomes size v above m (record m { node = (answer_floor floor m.node).node }) below events

-- ---- commits, and the end

-- A commit begins, and one of known writes is done.
abbrev pub BeginsCommit : Type 0
BeginsCommit = (size : ℕ) (v : View) (above : List Member) (m : Member) (below : List Member) (commit : Option Commit)
    → Becomes size v above m (record m { node = record m.node { commit = commit; found = None } }) below []

abbrev pub EndsCommit : Type 0
EndsCommit = (size : ℕ) (v : View) (above : List Member) (m : Member) (below : List Member) (p : ℕ) → m.node.stopped ≡ None → m.node.table.forgotten < p → p ≤ m.node.known
    → Becomes size v above m (record m { node = ended p m.node; volume = fold patched m.volume (writes_upto m.node.table p) }) below []

-- A member stops: its requests are refused, in the order in which they were taken.
abbrev pub Stops : Type 0
Stops = (size : ℕ) (v : View) (above : List Member) (m : Member) (below : List Member) (cause : Cause) (events : List ClientEvent) → m.node.stopped ≡ None → ArePutOut (stop cause m.node).out.replies events
    → Becomes size v above m (record m { node = (stop cause m.node).node }) below events

-- What of the board is in use changes, but not its front: what is told of the disks is so still, and within that.
abbrev pub TellsDisks : Type 0
TellsDisks = (size : ℕ) (v : View) (w : BoardInUse) → w.front ≡ v.told.front
    → (IsWithin v.told.front v.told.gauges v.told.receipts v.told.musters → IsWithin w.front w.gauges w.receipts w.musters)
    → (IsBacked v.told.front v.told.mask v.told.gauges v.told.receipts v.told.musters (disks_of v.recorded v.writing v.members)
    → IsBacked w.front w.mask w.gauges w.receipts w.musters (disks_of v.recorded v.writing v.members))
    → (All (λ front. front ≤ v.told.front) v.told.fronts → All (λ front. front ≤ w.front) w.fronts)
    → Plays size (MembersStand size v) (MembersStand size (record v { told = w })) []

-- ---- the record

-- The next record: without one member, which has stopped; or of the same members.
pub record IsWithout (v : View) (next : Record) : Type 0 where
  pub before : List recorded.Member
  pub removed : recorded.Member
  pub behind : List recorded.Member
  pub were : v.recorded.members ≡ before ++ removed ∷ behind
  pub are : next.members ≡ before ++ behind
  pub stopped : All (λ m. slot_of m ≡ removed.slot → m.node.stopped ≢ None) v.members

pub record IsNext (v : View) (next : Record) : Type 0 where
  pub epoch : next.epoch ≡ suc v.recorded.epoch
  pub members : IsWithout v next ⊎ (next.members ≡ v.recorded.members)

-- It is being written; and it is recorded, once all members that run were told the record before.
abbrev pub BeginsRecord : Type 0
BeginsRecord = (size : ℕ) (v : View) (next : Record) → IsNext v next → v.writing ≡ None → Plays size (MembersStand size v) (MembersStand size (record v { writing = Some next })) []

abbrev pub EndsRecord : Type 0
EndsRecord = (size : ℕ) (v : View) (next : Record) → IsNext v next → v.writing ≡ Some next → All (λ m. m.node.stopped ≡ None → epoch_of m.node ≡ v.recorded.epoch) v.members
    → Plays size (MembersStand size v) (MembersStand size (record v { recorded = next; before = v.recorded; writing = None })) []

-- A member at a slot that isn't recorded, so that it has stopped: nothing waits for it, and it keeps no front.
pub record IsGone (recorded : Record) (m : Member) : Type 0 where
  pub out : incarnation_in recorded (slot_of m) ≡ None
  pub waiting : m.node.waiting ≡ []
  pub found : m.node.found ≡ None
  pub demands : m.demands ≡ []

-- It is forgotten, once all members that run were told the recorded chain: another one may stand at its slot then.
abbrev pub ForgetsMember : Type 0
ForgetsMember = (size : ℕ) (v : View) (above : List Member) (m : Member) (below : List Member) → IsGone v.recorded m → All (λ x. x.node.stopped ≡ None → epoch_of x.node ≡ v.recorded.epoch) (above ++ m ∷ below)
    → Leads size v (above ++ m ∷ below) (above ++ below) []

-- A member is told the recorded chain: if it is the head, its writes without a number are refused, and what it doesn't know to be
-- committed is sent again.
abbrev pub TellsMember : Type 0
TellsMember = (size : ℕ) (v : View) (above : List Member) (m : Member) (below : List Member) (stepped : Stepped) (links : ℕ → ℕ → List Envelope) (events : List ClientEvent)
    → told v.recorded m.node ≡ Taken stepped → HasSent (slot_of m) stepped.out.messages v.links links → ArePutOut stepped.out.replies events
    → Plays size (MembersStand size (with_members v (above ++ m ∷ below))) (MembersStand size (record v { members = above ++ record m { node = stepped.node } ∷ below; links = links })) events

-- ---- one that joins

-- a member who was told the chain, knows just what its disk has, and waits for nothing
pub record IsIdle (chain : Record) (front : ℕ) (volume : List ℕ) (m : Member) : Type 0 where
  pub incarnation : 0 < m.node.incarnation
  pub runs : m.node.stopped ≡ None
  pub told : m.node.place.chain ≡ chain
  pub turned : m.node.turned ≡ true
  pub free : m.node.holds ≡ false
  pub table : m.node.table ≡ record { forgotten = front; kept = [] }
  pub known : m.node.known ≡ front
  pub volume_is : m.volume ≡ volume
  pub waiting : m.node.waiting ≡ []
  pub found : m.node.found ≡ None
  pub demands : m.demands ≡ []

-- the joiner as it is recorded
abbrev pub joined_as : Joiner → recorded.Member
joined_as j = record { slot = j.slot; incarnation = j.incarnation }

-- The next record with the joiner: behind the tail, and its epoch is the joiner's incarnation.
pub record IsWith (v : View) (j : Joiner) (next : Record) : Type 0 where
  pub later : next.epoch ≡ suc v.recorded.epoch
  pub above : List recorded.Member
  pub tail : recorded.Member
  pub were : v.recorded.members ≡ above ++ tail ∷ []
  pub are : next.members ≡ above ++ tail ∷ joined_as j ∷ []
  pub incarnation : j.incarnation ≡ next.epoch

-- The member that it is once it is recorded: an idle one, which was told the record before, in which it isn't.
pub record IsNewcomer (before : Record) (j : Joiner) (m : Member) : Type 0 where
  pub slot : slot_of m ≡ j.slot
  pub incarnation : m.node.incarnation ≡ j.incarnation
  pub idle : IsIdle before j.front j.volume m

-- It is being written, and it is recorded: the joiner is a member then.
abbrev pub BeginsJoin : Type 0
BeginsJoin = (size : ℕ) (v : View) (j : Joiner) (next : Record) → v.joiner ≡ Some j → IsWith v j next → v.writing ≡ None → Plays size (StandsFor size v) (StandsFor size (record v { writing = Some next })) []

abbrev pub EndsJoin : Type 0
EndsJoin = (size : ℕ) (v : View) (j : Joiner) (next : Record) (m : Member) → v.joiner ≡ Some j → IsWith v j next → v.writing ≡ Some next → IsNewcomer v.recorded j m
    → Plays size (StandsFor size v) (StandsFor size (record v { recorded = next; before = v.recorded; writing = None; youngest = j.incarnation; joiner = None; members = v.members ++ m ∷ [] })) []

-- ---- sessions

-- A session begins, and one ends.
abbrev pub Connects : Type 0
Connects = (size : ℕ) (v : View) (at : ℕ) → Plays size (MembersStand size v) (MembersStand size (record v { kept = insert v.kept at [] })) []

abbrev pub Forgets : Type 0
Forgets = (size : ℕ) (v : View) (at : ℕ) → Plays size (MembersStand size v) (MembersStand size (record v { kept = set v.kept at [] })) []

-- Requests are sent, and taken up.
abbrev pub SendsAll : Type 0
SendsAll = (size : ℕ) (v : View) (at : ℕ) (kept more : List Held) → slice_get v.kept at ≡ Some kept
    → Plays size (MembersStand size v) (MembersStand size (record v { kept = set v.kept at (kept ++ more) })) (map sent_event more)

abbrev pub TakesUp : Type 0
TakesUp = (size : ℕ) (v : View) (above : List Member) (m : Member) (below : List Member) (at : ℕ) (taken kept : List Held) → slice_get v.kept at ≡ Some (taken ++ kept)
    → Plays size (MembersStand size (with_members v (above ++ m ∷ below))) (MembersStand size (record v { members = above ++ record m { demands = m.demands ++ taken } ∷ below; kept = set v.kept at kept })) []

-- ---- what a stop leaves

-- Each front from the durable one to the known commit of a member that a stop may leave recorded holds all that is owed, is of the
-- writes taken, and has their volume: so what a stop leaves of its disk, within a commit or not, is enough to go on from.
abbrev pub IsOnEachDisk : Type 0
IsOnEachDisk = (size : ℕ) (v : View) (above : List Member) (m : Member) (below : List Member) (s : State) (p : ℕ) → StandsFor size (with_members v (above ++ m ∷ below)) s
    → may_be_recorded v.recorded v.writing m.node ≡ true → m.node.table.forgotten ≤ p → p ≤ m.node.known
    → (s.owed ≤ p) × (p ≤ length s.taken) × (fold patched m.volume (writes_upto m.node.table p) ≡ machine_volume size s p)

-- So at one front the disks of two such members have the same bytes in every block, and so has that of a joiner.
abbrev pub DisksAgree : Type 0
DisksAgree = (size : ℕ) (v : View) (one other : Member) (s : State) (p : ℕ) → StandsFor size v s → Contains v.members one → Contains v.members other → may_be_recorded v.recorded v.writing one.node ≡ true
    → may_be_recorded v.recorded v.writing other.node ≡ true → one.node.table.forgotten ≤ p → p ≤ one.node.known → other.node.table.forgotten ≤ p → p ≤ other.node.known
    → fold patched one.volume (writes_upto one.node.table p) ≡ fold patched other.volume (writes_upto other.node.table p)

abbrev pub JoinerAgrees : Type 0
JoinerAgrees = (size : ℕ) (v : View) (j : Joiner) (m : Member) (s : State) → StandsFor size v s → v.joiner ≡ Some j → Contains v.members m → may_be_recorded v.recorded v.writing m.node ≡ true → m.node.table.forgotten ≤ j.front
    → j.front ≤ m.node.known → j.volume ≡ fold patched m.volume (writes_upto m.node.table j.front)

-- ---- beginning, and beginning again

-- the member as it is recorded
abbrev pub recorded_as : Member → recorded.Member
recorded_as m = record { slot = m.node.place.slot; incarnation = m.node.incarnation }

-- a chain that begins at this front with this volume: idle members at slots of their own, just those that are recorded, of
-- incarnations up to the youngest, which the mask counts, empty links, and no gauge above the front
pub record IsBeginning (front : ℕ) (volume : List ℕ) (v : View) : Type 0 where
  pub idle : All (IsIdle v.recorded front volume) v.members
  pub slots : AllPairs (λ slot other. slot ≢ other) (slots_of v.members)
  pub recorded_are : v.recorded.members ≡ map recorded_as v.members
  pub dated : IsDated v.youngest v.recorded
  pub before_is : v.before ≡ v.recorded
  pub not_writing : v.writing ≡ None
  pub no_joiner : v.joiner ≡ None
  pub no_links : (from to : ℕ) → v.links from to ≡ []
  pub no_submits : (from to : ℕ) → v.submits from to ≡ []
  pub told : v.told.front ≡ front
  pub mask : All (λ d. counts v.told.mask d.slot ≡ true) (map disk_of v.members)
  pub gauges : All (λ r. r.front ≤ front) v.told.gauges
  pub no_receipts : v.told.receipts ≡ []
  pub no_fronts : v.told.fronts ≡ []
  pub no_musters : v.told.musters ≡ []
  pub no_sessions : v.kept ≡ []

-- A first chain, over zeros, stands for the machine before anything happened.
abbrev pub FirstChain : Type 0
FirstChain = (size : ℕ) (v : View) → IsBeginning 0 (volume_of size []) v → StandsFor size v start

-- After a cut the machine restarts at any front that a disk of a chain which may be recorded then is left with, and a chain that
-- begins there stands for what it restarts as.
abbrev pub RestartsChain : Type 0
RestartsChain = (size : ℕ) (v : View) (above : List Member) (m : Member) (below : List Member) (s : State) (p : ℕ) (w : View) → StandsFor size (with_members v (above ++ m ∷ below)) s
    → may_be_recorded v.recorded v.writing m.node ≡ true → m.node.table.forgotten ≤ p → p ≤ m.node.known → IsBeginning p (fold patched m.volume (writes_upto m.node.table p)) w
    → May s (Restart p) × StandsFor size w (after s (Restart p))

-- So it does at what the disk of a joiner has, which may be recorded while the record with it is being written.
abbrev pub RestartsFromJoiner : Type 0
RestartsFromJoiner = (size : ℕ) (v : View) (j : Joiner) (s : State) (w : View) → StandsFor size v s → v.joiner ≡ Some j → IsBeginning j.front j.volume w → May s (Restart j.front) × StandsFor size w (after s (Restart j.front))
