-- The steps of one member of a chain.
use Rattle.std.specs.Prelude.{◌≡◌, ◌↔◌, ℕ, ◌+◌, ◌*◌, ◌<◌, ◌≤◌, max, Bool, true, false, ◌&&◌, ◌||◌, ◌==◌, not, nat_lt, nat_le, if◌then◌else◌, Option, Some, None, List, [], ◌∷◌, ◌++◌, length, map, filter, fold, take, drop, All, AllPairs, Any}
use Rattle.std.specs.List.{count_by, list_any}
use Rattle.flush_barrier.specs.Owed.{Owed, OwedAt}
use Rattle.configurations.specs.Record.{Record}
use Rattle.flush_barrier.specs.declared.error_code.ErrorCode.TheVariants.{Io}
use Rattle.gate_journal.specs.Image.{Image}
use Rattle.gate_journal.specs.declared.batch.TheConstants.{MAX_NUMBER}
use Rattle.version_table.specs.Held.{data_of, forgotten_to, kept_after, with_write, writes_upto}
use Rattle.version_table.specs.Whole.{has_whole}
use Rattle.volume.specs.Body.{is_zeros, kept_of}
use Rattle.version_table.specs.declared.kept.Origin.{Origin}
use Rattle.volume.specs.Writes.{Placed, IsTouched, block_of, patched, touches}
use Rattle.chain_steps.specs.Node.{Delivery, NodeState, Refused, Stepped, Taken, durable_of, epoch_of, is_stopped, last_of}
use Rattle.chain_steps.specs.Place.{head_of, incarnation_in, is_head, is_of, predecessor_of, successor_of}
use Rattle.chain_steps.specs.Waiting.{bound, is_committed, is_outdated, is_paid_flush, is_paid_write, is_read, learned, reply_to, reply_with, waits_for}
use Rattle.chain_steps.specs.declared.cause.Cause.{Cause}
use Rattle.chain_steps.specs.declared.cause.Cause.TheVariants.{Disorder}
use Rattle.chain_steps.specs.declared.found.Found.{Found}
use Rattle.chain_steps.specs.declared.found.Found.TheVariants.{Raised, Looked}
use Rattle.chain_steps.specs.declared.message.Envelope.{Envelope}
use Rattle.chain_steps.specs.declared.message.Message.{Message}
use Rattle.chain_steps.specs.declared.message.Message.TheVariants.{Put, Ack, Turn, Submit}
use Rattle.chain_steps.specs.declared.message.Sent.{Sent}
use Rattle.chain_steps.specs.declared.waiting.Waiting.{Waiting}
use Rattle.chain_steps.specs.declared.waiting.Waiting.TheVariants.{Plain, Fua, Read, Flush}
use Rattle.chain_steps.specs.declared.waiting.WriteToken.{WriteToken}

-- nothing is sent, and nobody is told
abbrev pub silent : NodeState → Stepped
silent node = record { node = node; out = record { messages = []; replies = [] } }

-- a message of the member's epoch for a member, if there is one
abbrev pub send : Option ℕ → Message → NodeState → List Sent
send None message node = []
send (Some slot) message node = record { to = slot; envelope = record { epoch = epoch_of node; message = message } } ∷ []

-- The member stops: all its tokens are refused with EIO, in the order in which they were taken. Its writes stay as they are.
abbrev pub stop : Cause → NodeState → Stepped
stop cause node = record {
  node = record node { stopped = Some cause; waiting = []; found = None; commit = None };
  out = record { messages = []; replies = map (reply_to (Some Io)) node.waiting };
}

-- Submit: the token is kept under the next ticket, and the write goes to the head.
abbrev pub submit : WriteToken → Placed → NodeState → Stepped
submit token write node = record {
  node = record node { ticket = node.ticket + 1; waiting = node.waiting ++ waits_for node.ticket (epoch_of node) token ∷ []; found = None };
  out = record { messages = send (head_of node.place.chain) (Submit node.ticket write) node; replies = [] };
}

-- the volume after j writes, from that at the durable front
abbrev pub volume_at : List ℕ → NodeState → ℕ → List ℕ
volume_at volume node j = fold patched volume (writes_upto node.table j)

-- a range of a volume
abbrev pub range_of : List ℕ → ℕ → ℕ → List ℕ
range_of volume offset len = take len (drop offset volume)

-- A clean READ is answered at once, at the known commit.
abbrev pub read_at_once : List ℕ → ℕ → ℕ → Owed → NodeState → Stepped
read_at_once volume offset len token node = record {
  node = node;
  out = record { messages = []; replies = reply_with (range_of (volume_at volume node node.known) offset len) None (Read offset len token) ∷ [] };
}

-- A dirty READ waits for a front.
abbrev pub read_asked : ℕ → ℕ → Owed → NodeState → Stepped
read_asked offset len token node = silent (record node { waiting = node.waiting ++ Read offset len token ∷ []; found = None })

-- A FLUSH waits for the first front that is looked up behind it.
abbrev pub flush : OwedAt → NodeState → Stepped
flush token node = silent (record node { waiting = node.waiting ++ Flush token ∷ []; found = None })

-- a write that this member submitted
abbrev pub is_own : Origin → NodeState → Bool
is_own origin node = (origin.slot == node.place.slot) && (origin.incarnation == node.incarnation)

-- the token of a write that this member submitted learns the number
abbrev pub told_number : ℕ → Origin → NodeState → List Waiting
told_number n origin node = if is_own origin node then map (learned origin.ticket n) node.waiting else node.waiting

-- The write becomes the last applied one; once this epoch's Turn has come, it is sent on.
abbrev pub apply : ℕ → Origin → Placed → NodeState → Stepped
apply n origin write node = record {
  node = record node { table = with_write node.table n write origin; waiting = told_number n origin node; found = None };
  out = record { messages = if node.turned then send (successor_of node.place) (Put n origin write) node else []; replies = [] };
}

-- 1,024 writes are kept, or the bytes of one more, unless they are zeros alone, are too many, or the greatest number is used
abbrev pub is_full : Placed → NodeState → Bool
is_full write node = nat_le 1024 (length node.table.kept) || nat_lt 16777216 (data_of node.table.kept + kept_of write) || nat_le MAX_NUMBER (last_of node)

-- Put: an applied write is passed over, the next one is applied, and no chain has another.
abbrev pub put : ℕ → Origin → Placed → NodeState → Delivery
put n origin write node =
    if nat_le n (last_of node) then Taken (silent node)
    else (if nat_lt (last_of node + 1) n then Taken (stop Disorder node)
    else (if is_full write node then Refused 153 else Taken (apply n origin write node)))

-- the origin of a write that the member at the slot submitted under the ticket
abbrev pub origin_of : ℕ → ℕ → ℕ → Origin
origin_of slot incarnation ticket = record { slot = slot; incarnation = incarnation; ticket = ticket }

-- Numbering: the head gives the write the next number.
abbrev pub number_from : ℕ → ℕ → Option ℕ → Placed → NodeState → Delivery
number_from slot ticket None write node = Taken (stop Disorder node)
number_from slot ticket (Some incarnation) write node =
    if is_full write node then Refused 153 else Taken (apply (last_of node + 1) (origin_of slot incarnation ticket) write node)

abbrev pub number : ℕ → ℕ → Placed → NodeState → Delivery
number slot ticket write node =
    if is_head node.place then number_from slot ticket (incarnation_in node.place.chain slot) write node else Taken (stop Disorder node)

-- The writes up to `known` are committed: the plain ones of this member are answered, and the predecessor is told `told`.
abbrev pub know : (told known : ℕ) → NodeState → Stepped
know told known node = record {
  node = record node { known = known; waiting = filter (λ w. not (is_committed known w)) node.waiting; found = None };
  out = record {
    messages = send (predecessor_of node.place) (Ack told) node;
    replies = map (reply_to None) (filter (is_committed known) node.waiting);
  };
}

-- Ack: it never lowers the known commit, and is sent on in any case.
abbrev pub ack : ℕ → NodeState → Stepped
ack front node = if nat_lt (last_of node) front then stop Disorder node else know front (max node.known front) node

-- what the member doesn't know to be committed, and the Turn behind it
abbrev pub again : NodeState → List Message
again node = map (λ k. Put k.number k.origin k.write) (kept_after node.table node.known) ++ Turn (last_of node) ∷ []

-- these messages in an epoch for a member, if there is one
abbrev pub send_all : Option ℕ → ℕ → List Message → List Sent
send_all None epoch messages = []
send_all (Some slot) epoch messages = map (λ message. record { to = slot; envelope = record { epoch = epoch; message = message } }) messages

-- Turn: the member's writes without a number that were submitted in an older epoch are refused with EIO, and what isn't known to
-- be committed goes to the successor once more, with the Turn behind it.
abbrev pub turn : NodeState → Stepped
turn node = record {
  node = record node { turned = true; waiting = filter (λ w. not (is_outdated (epoch_of node) w)) node.waiting; found = None };
  out = record {
    messages = send_all (successor_of node.place) (epoch_of node) (again node);
    replies = map (reply_to (Some Io)) (filter (is_outdated (epoch_of node)) node.waiting);
  };
}

-- a second Turn of an epoch is passed over
abbrev pub take_turn : NodeState → Stepped
take_turn node = if node.turned then silent node else turn node

-- a message of this epoch, from the member at the slot
abbrev pub take_message : ℕ → Message → NodeState → Delivery
take_message slot (Put n origin write) node = put n origin write node
take_message slot (Ack front) node = Taken (ack front node)
take_message slot (Turn applied) node = Taken (take_turn node)
take_message slot (Submit ticket write) node = number slot ticket write node

-- Deliver: 154 once stopped; a message of an older epoch is dropped, one of a later is 152.
abbrev pub deliver : ℕ → Envelope → NodeState → Delivery
deliver slot envelope node =
    if is_stopped node then Refused 154
    else (if nat_lt envelope.epoch (epoch_of node) then Taken (silent node)
    else (if nat_lt (epoch_of node) envelope.epoch then Refused 152
    else take_message slot envelope.message node))

-- the member in the chain that it is told: it waits for the Turn, and holds for no joiner
abbrev pub placed : Record → NodeState → NodeState
placed chain node = record node { place = record { slot = node.place.slot; chain = chain }; turned = false; holds = false; found = None }

-- the head has its Turn at once
abbrev pub starts : NodeState → Stepped
starts node = if is_head node.place then turn node else silent node

-- Told: 154 once stopped; a record whose epoch isn't above the member's changes nothing; one without this member is 151.
abbrev pub told : Record → NodeState → Delivery
told chain node =
    if is_stopped node then Refused 154
    else (if nat_le chain.epoch (epoch_of node) then Taken (silent node)
    else (if is_of (placed chain node).place node.incarnation then Taken (starts (placed chain node)) else Refused 151))

-- Raise, Look: the front that was found is kept.
abbrev pub keep : Found → NodeState → NodeState
keep found node = record node { found = Some found }

-- the front that was raised, if that was found
abbrev pub raised_front : Option Found → Option ℕ
raised_front None = None
raised_front (Some (Raised front)) = Some front.number
raised_front (Some (Looked front)) = None

-- The tail takes the front that it raised as its known commit.
abbrev pub raised_to : Option ℕ → NodeState → Stepped
raised_to None node = silent node
raised_to (Some front) node = if nat_lt (last_of node) front then stop Disorder node else know front front node

abbrev pub raised : NodeState → Stepped
raised node = raised_to (raised_front node.found) node

-- the bytes that a READ asks for
abbrev pub asked_bytes : List ℕ → Waiting → List ℕ
asked_bytes volume (Plain ticket epoch number token) = []
asked_bytes volume (Fua ticket epoch token) = []
asked_bytes volume (Read offset len token) = range_of volume offset len
asked_bytes volume (Flush token) = []

-- With a front that was looked up, the READs that wait are answered, all at the greater of it and the known commit, and the
-- FLUSHes that wait are bound to it.
abbrev pub answer_at : List ℕ → ℕ → NodeState → Stepped
answer_at volume front node = record {
  node = record node { waiting = map (bound front) (filter (λ w. not (is_read w)) node.waiting); found = None };
  out = record {
    messages = [];
    replies = map (λ w. reply_with (asked_bytes (volume_at volume node (max node.known front)) w) None w) (filter is_read node.waiting);
  };
}

-- the number of the front that was looked up and is kept, if there is one
abbrev pub looked_front : Option Found → Option ℕ
looked_front None = None
looked_front (Some (Raised front)) = None
looked_front (Some (Looked front)) = Some front.number

abbrev pub answer_front_by : List ℕ → Option Found → NodeState → Stepped
answer_front_by volume None node = silent node
answer_front_by volume (Some (Raised front)) node = silent node
answer_front_by volume (Some (Looked front)) node =
    if nat_lt (last_of node) front.number then stop Disorder node else answer_at volume front.number node

abbrev pub answer_front : List ℕ → NodeState → Stepped
answer_front volume node = answer_front_by volume node.found node

-- The tail takes a front that it looked up as its known commit, and holds it for a joiner: its plain writes up to there are answered,
-- and its predecessor is told.
abbrev pub hold_at : ℕ → NodeState → Stepped
hold_at front node = if nat_lt (last_of node) front then stop Disorder node else know front (max node.known front) (record node { holds = true })

abbrev pub hold_by : Option ℕ → NodeState → Stepped
hold_by None node = silent node
hold_by (Some front) node = hold_at front node

abbrev pub hold : NodeState → Stepped
hold node = hold_by (looked_front node.found) node

-- the block that it gives a joiner: that of the volume at its known commit
abbrev pub held_block : List ℕ → NodeState → ℕ → List ℕ
held_block volume node block = block_of (volume_at volume node node.known) block

-- With a floor, the writes with FUA that it reaches are answered, and then the FLUSHes.
abbrev pub answer_floor : ℕ → NodeState → Stepped
answer_floor floor node = record {
  node = record node { waiting = filter (λ w. not (is_paid_write floor w) && not (is_paid_flush floor w)) node.waiting; found = None };
  out = record {
    messages = [];
    replies = map (reply_to None) (filter (is_paid_write floor) node.waiting) ++ map (reply_to None) (filter (is_paid_flush floor) node.waiting);
  };
}

-- the images of these writes over a volume: each block that one of them touches, whole, once, ascending
pub record AreImagesOf (volume : List ℕ) (writes : List Placed) (images : List Image) : Type 0 where
  pub ascending : AllPairs (λ one other. one.block < other.block) images
  pub touched : (b : ℕ) → Any (λ image. image.block ≡ b) images ↔ Any (λ w. IsTouched w b) writes
  pub bytes : All (λ image. image.bytes ≡ block_of (fold patched volume writes) image.block) images

-- whether a write makes the whole block zeros
abbrev pub blanks : ℕ → Placed → Bool
blanks block w = has_whole block w && is_zeros w.bytes

-- whether one of the writes does more to the block than that
abbrev pub is_written : List Placed → ℕ → Bool
is_written writes block = list_any (λ w. touches block w && not (blanks block w)) writes

-- The bytes that the images of these writes may take in a batch: where the writes only make the whole block zeros, 4, and else
-- 4,096 more.
abbrev pub group_size : List Placed → List Image → ℕ
group_size writes images = 4 * length images + 4096 * count_by (λ image. is_written writes image.block) images

-- the writes above the durable front up to p can be one batch, which `Fits` says of its images' bytes
pub record IsGroup (Fits : ℕ → Type 0) (volume : List ℕ) (most : ℕ) (node : NodeState) (p : ℕ) (images : List Image) : Type 0 where
  pub above : durable_of node < p
  pub known : p ≤ node.known
  pub most_writes : p ≤ durable_of node + most
  pub whole : AreImagesOf volume (writes_upto node.table p) images
  pub fits : Fits (group_size (writes_upto node.table p) images)

-- A commit begins up to the greatest such p.
pub record Begins (Fits : ℕ → Type 0) (volume : List ℕ) (most : ℕ) (old new : NodeState) : Type 0 where
  pub p : ℕ
  pub images : List Image
  pub group : IsGroup Fits volume most old p images
  pub greatest : (q : ℕ) (others : List Image) → IsGroup Fits volume most old q others → q ≤ p
  pub begun : new ≡ record old { commit = Some (record { front = p; images = images }); found = None }

-- a commit can begin: none is under way, and a known write isn't durable yet
abbrev pub CanBegin : NodeState → Type 0
CanBegin node = (node.commit ≡ None) × (durable_of node < node.known)

-- The commit under way ends: its front is the durable one.
abbrev pub ended : ℕ → NodeState → NodeState
ended p node = record node { table = forgotten_to node.table p; commit = None; found = None }
