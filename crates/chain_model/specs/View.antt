-- What is seen of a chain: its board, its record, the members at their slots, and the links between them.
use Rattle.std.specs.Prelude.{if◌then◌else◌, ◌==◌, ◌||◌, ℕ, suc, Bool, false, Option, None, Some, List, [], ◌∷◌, map}
use Rattle.std.specs.List.{flat_map}
use Rattle.configurations.specs.Record.{Record}
use Rattle.version_table.specs.declared.kept.Kept.{Kept}
use Rattle.version_table.specs.declared.kept.Origin.{Origin}
use Rattle.chain_steps.specs.Node.{NodeState, epoch_of, is_stopped}
use Rattle.chain_steps.specs.Place.{incarnation_in, is_it, is_tail, predecessor_of, successor_of}
use Rattle.chain_steps.specs.declared.message.Envelope.{Envelope}
use Rattle.chain_steps.specs.declared.message.Message.{Message}
use Rattle.chain_steps.specs.declared.message.Message.TheVariants as messages
use Rattle.world_model.specs.Backing.{Disk}
use Rattle.world_model.specs.Chain.{BoardInUse, looked_by, owing_at, raised_by}
use Rattle.chain_model.specs.Links.{Net, Node, Stamped}
use Rattle.chain_model.specs.Replicas as replicas
use Rattle.world_model.specs.Requests.{Held, Looked, Owing, Requests, Submitted}

-- A member at its slot, with the volume at its durable front, and the demands of its sessions that it hasn't taken.
pub record Member : Type 0 where
  pub node : NodeState
  pub volume : List ℕ
  pub demands : List Held

-- Who joins: its slot and incarnation, and the volume on its disk, which is that of so many writes.
pub record Joiner : Type 0 where
  pub slot : ℕ
  pub incarnation : ℕ
  pub front : ℕ
  pub volume : List ℕ

-- A chain: its board; the recorded chain, the one recorded before it, and the record that is being written; the greatest incarnation that
-- was recorded since it began; who is counted and not recorded yet, if somebody joins; whoever stands at the slots; the chain link and the
-- submit link from each slot to each; and for each session the requests that stand whole in its kept input.
pub record View : Type 0 where
  pub told : BoardInUse
  pub recorded : Record
  pub before : Record
  pub writing : Option Record
  pub youngest : ℕ
  pub joiner : Option Joiner
  pub members : List Member
  pub links : ℕ → ℕ → List Envelope
  pub submits : ℕ → ℕ → List Envelope
  pub kept : List (List Held)

abbrev pub slot_of : Member → ℕ
slot_of m = m.node.place.slot

abbrev pub slots_of : List Member → List ℕ
slots_of ms = map slot_of ms

abbrev pub chain_of : Record → List ℕ
chain_of r = map (λ m. m.slot) r.members

-- ---- who is recorded

-- the member of this slot and incarnation is in the record
abbrev pub is_in : Record → ℕ → ℕ → Bool
is_in r slot incarnation = is_it incarnation (incarnation_in r slot)

abbrev pub is_in_some : Option Record → ℕ → ℕ → Bool
is_in_some None slot incarnation = false
is_in_some (Some r) slot incarnation = is_in r slot incarnation

-- a stop may leave a record with this member
abbrev pub may_be_recorded : Record → Option Record → NodeState → Bool
may_be_recorded recorded writing node = is_in recorded node.place.slot node.incarnation || is_in_some writing node.place.slot node.incarnation

abbrev pub disk_of : Member → Disk
disk_of m = record { slot = m.node.place.slot; durable = m.node.table.forgotten }

abbrev pub disk_in : Record → Option Record → Member → List Disk
disk_in recorded writing m = if may_be_recorded recorded writing m.node then disk_of m ∷ [] else []

-- the disks of those that a stop may leave recorded
abbrev pub disks_of : Record → Option Record → List Member → List Disk
disks_of recorded writing ms = flat_map (disk_in recorded writing) ms

-- ---- what is on its way

-- a Put or a Turn
abbrev pub passed_in : Message → List replicas.Message
passed_in (messages.Put n origin write) = replicas.Put (record { number = n; write = write; origin = origin }) ∷ []
passed_in (messages.Ack front) = []
passed_in (messages.Turn applied) = replicas.Turn ∷ []
passed_in (messages.Submit ticket write) = []

abbrev pub stamped_in : Envelope → List Stamped
stamped_in e = map (λ m. record { epoch = e.epoch; message = m }) (passed_in e.message)

-- the Puts and Turns of a link
abbrev pub passed_on : List Envelope → List Stamped
passed_on link = flat_map stamped_in link

-- the incarnation that was recorded at a slot for an epoch, as long as messages of that are taken
abbrev pub incarnation_at : Record → Record → ℕ → ℕ → Option ℕ
incarnation_at recorded before epoch slot =
    if epoch == recorded.epoch then incarnation_in recorded slot else (if suc epoch == recorded.epoch then incarnation_in before slot else None)

abbrev pub submitted_in : ℕ → Option ℕ → Message → List Submitted
submitted_in slot None message = []
submitted_in slot (Some incarnation) (messages.Put n origin write) = []
submitted_in slot (Some incarnation) (messages.Ack front) = []
submitted_in slot (Some incarnation) (messages.Turn applied) = []
submitted_in slot (Some incarnation) (messages.Submit ticket write) = record { origin = record { slot = slot; incarnation = incarnation; ticket = ticket }; write = write } ∷ []

-- the writes on a submit link from a slot
abbrev pub submitted_on : Record → Record → ℕ → List Envelope → List Submitted
submitted_on recorded before slot link = flat_map (λ e. submitted_in slot (incarnation_at recorded before e.epoch slot) e.message) link

-- those on all submit links between these slots
abbrev pub submitted_from : Record → Record → (ℕ → ℕ → List Envelope) → List ℕ → ℕ → List Submitted
submitted_from recorded before submits tos from = flat_map (λ to. submitted_on recorded before from (submits from to)) tos

abbrev pub submitted_among : Record → Record → (ℕ → ℕ → List Envelope) → List ℕ → List Submitted
submitted_among recorded before submits slots = flat_map (submitted_from recorded before submits slots) slots

-- ---- what requests have left

abbrev pub tokens_of : Member → List Owing
tokens_of m = owing_at m.node m.node.waiting

abbrev pub looked_of : Member → List Looked
looked_of m = looked_by m.node.place.slot m.node.found

abbrev pub raised_of : Member → List ℕ
raised_of m = raised_by m.node.found

abbrev pub requests_of : View → List Kept → Requests
requests_of v line = record {
  front = v.told.front;
  line = line;
  submits = submitted_among v.recorded v.before v.submits (slots_of v.members);
  tokens = flat_map tokens_of v.members;
  looked = flat_map looked_of v.members;
  demands = flat_map (λ m. m.demands) v.members;
  kept = v.kept;
}

-- the next ticket of a member, as an origin
abbrev pub next_of : Member → Origin
next_of m = record { slot = m.node.place.slot; incarnation = m.node.incarnation; ticket = m.node.ticket }

-- ---- the order

-- what of a member the order is made of
abbrev pub node_of : NodeState → Node
node_of n = record {
  epoch = epoch_of n;
  turned = n.turned;
  above = predecessor_of n.place;
  below = successor_of n.place;
  stopped = is_stopped n;
  ends = is_tail n.place;
  holds = n.holds;
  table = n.table;
  known = n.known;
}

-- a slot at which nobody stands
abbrev pub nobody : Node
nobody = record { epoch = 0; turned = false; above = None; below = None; stopped = false; ends = false; holds = false; table = record { forgotten = 0; kept = [] }; known = 0 }

-- who stands at a slot
abbrev pub node_at : List Member → ℕ → Node
node_at [] s = nobody
node_at (m ∷ ms) s = if m.node.place.slot == s then node_of m.node else node_at ms s

abbrev pub net_of : Record → (ℕ → ℕ → List Envelope) → List Member → Net
net_of recorded links ms = record { epoch = recorded.epoch; chain = chain_of recorded; nodes = node_at ms; links = λ from to. passed_on (links from to) }
