-- Members by slot, and links whose messages have epochs: which recorded chain they show.
use Rattle.std.specs.Prelude.{if◌then◌else◌, ◌≡◌, ◌≢◌, ◌⊎◌, ℕ, suc, ◌==◌, ◌<◌, ◌≤◌, Bool, true, false, Option, None, Some, List, [], ◌∷◌, ◌++◌, length, map, All}
use Rattle.version_table.specs.Held.{Held, applied_of, kept_after}
use Rattle.chain_model.specs.Replicas.{Dead, Feeder, Hop, Live, Replica, Message, Now, Old, Past, Put, Silent, Stage, Turn, lane_feeder, next_feeder}
use Rattle.version_table.specs.declared.kept.Kept.{Kept}
use Rattle.chain_model.specs.Holding.{with_joiner}
use Rattle.chain_model.specs.TurningLaws.{Alike, Quietly}
use Rattle.chain_model.specs.TurningSteps.{Down, HeadIsTold, IsTold, kept, without}

-- a member: the epoch that it was told, and who stands above and below it in the chain of that
pub record Node : Type 0 where
  pub epoch : ℕ
  pub turned : Bool
  pub above : Option ℕ
  pub below : Option ℕ
  pub stopped : Bool
  pub ends : Bool
  pub holds : Bool
  pub table : Held
  pub known : ℕ

pub record Stamped : Type 0 where
  pub epoch : ℕ
  pub message : Message

-- the recorded epoch and chain; what stands at each slot; the link from each slot to each
pub record Net : Type 0 where
  pub epoch : ℕ
  pub chain : List ℕ
  pub nodes : ℕ → Node
  pub links : ℕ → ℕ → List Stamped

-- ---- what is seen

-- the messages of this epoch
abbrev pub at_epoch : ℕ → List Stamped → List Message
at_epoch e [] = []
at_epoch e (m ∷ ms) = if m.epoch == e then m.message ∷ at_epoch e ms else at_epoch e ms

abbrev pub stage_of : ℕ → ℕ → Bool → Stage
stage_of recorded e t = if e == recorded then Now t else if suc e == recorded then Old t else Past

abbrev pub from_slot : (ℕ → ℕ → List Stamped) → Option ℕ → ℕ → List Stamped
from_slot links None s = []
from_slot links (Some p) s = links p s

abbrev pub is_slot : Option ℕ → Option ℕ → Bool
is_slot None None = true
is_slot None (Some q) = false
is_slot (Some p) None = false
is_slot (Some p) (Some q) = p == q

abbrev pub member_of : ℕ → Node → Replica
member_of recorded n =
    record { stage = stage_of recorded n.epoch n.turned; stopped = n.stopped; ends = n.ends; holds = n.holds; table = n.table; known = n.known }

-- what is seen of a slot below another one
abbrev pub hop_of : ℕ → (ℕ → ℕ → List Stamped) → Option ℕ → ℕ → Node → Hop
hop_of recorded links prev s n = record {
  lane = at_epoch n.epoch (from_slot links n.above s);
  next = if n.epoch == recorded then [] else at_epoch recorded (from_slot links prev s);
  linked = is_slot n.above prev;
  member = member_of recorded n;
}

abbrev pub hop_at : Net → Option ℕ → ℕ → Hop
hop_at w prev s = hop_of w.epoch w.links prev s (w.nodes s)

abbrev pub hops_from : Net → Option ℕ → List ℕ → List Hop
hops_from w prev [] = []
hops_from w prev (s ∷ ss) = hop_at w prev s ∷ hops_from w (Some s) ss

abbrev pub hops_of : Net → List Hop
hops_of w = hops_from w None w.chain

-- ---- who was told what

-- As seen from the member at `s`: one that was told the recorded epoch has its place of that; two that were told one epoch
-- agree on who is above whom, and if both are recorded still, nobody came between them.
pub record Suits (w : Net) (s : ℕ) (prev : Option ℕ) (y : ℕ) : Type 0 where
  pub above : (w.nodes y).epoch ≡ w.epoch → (w.nodes y).above ≡ prev
  pub below : (w.nodes s).epoch ≡ w.epoch → prev ≡ Some s → (w.nodes s).below ≡ Some y
  pub agree : (w.nodes y).epoch ≡ (w.nodes s).epoch → (w.nodes y).above ≡ Some s → (w.nodes s).below ≡ Some y
  pub close : (w.nodes y).epoch ≡ (w.nodes s).epoch → (w.nodes y).above ≡ Some s → prev ≡ Some s

abbrev pub AllSuit : Net → ℕ → Option ℕ → List ℕ → Type 0
AllSuit w s prev [] = Unit {0}
AllSuit w s prev (y ∷ ys) = (y ≢ s) × Suits w s prev y × AllSuit w s (Some y) ys

-- ---- steps

abbrev pub stamped : ℕ → List Message → List Stamped
stamped e ms = map (λ m. record { epoch = e; message = m }) ms

-- The member at `s` sends these to the one below, and its place stays; what comes to it is left open.
pub record Sends (a b : Net) (s : ℕ) (sends : List Message) : Type 0 where
  pub epoch : b.epoch ≡ a.epoch
  pub chain : b.chain ≡ a.chain
  pub nodes : (x : ℕ) → x ≢ s → b.nodes x ≡ a.nodes x
  pub told : (b.nodes s).epoch ≡ (a.nodes s).epoch
  pub above : (b.nodes s).above ≡ (a.nodes s).above
  pub links : (x y : ℕ) → x ≢ s → y ≢ s → b.links x y ≡ a.links x y
  pub sent : (y : ℕ) → y ≢ s → (a.nodes s).below ≡ Some y → b.links s y ≡ a.links s y ++ stamped (a.nodes s).epoch sends
  pub unsent : (y : ℕ) → y ≢ s → (a.nodes s).below ≢ Some y → b.links s y ≡ a.links s y

-- it takes a message of its epoch from the one above
pub record Takes (a b : Net) (s : ℕ) (taken : Message) (sends : List Message) : Type 0 where
  pub sends_is : Sends a b s sends
  pub from : ℕ
  pub from_is : (a.nodes s).above ≡ Some from
  pub front : a.links from s ≡ record { epoch = (a.nodes s).epoch; message = taken } ∷ b.links from s
  pub to_it : (x : ℕ) → x ≢ from → x ≢ s → b.links x s ≡ a.links x s

-- it takes nothing
pub record Works (a b : Net) (s : ℕ) (sends : List Message) : Type 0 where
  pub sends_is : Sends a b s sends
  pub to_it : (x : ℕ) → x ≢ s → b.links x s ≡ a.links x s
  pub apart : (a.nodes s).above ≢ Some s

-- an old message is dropped: the first one of a link
pub record Drops (a b : Net) (p s : ℕ) : Type 0 where
  pub dropped : Stamped
  pub old : dropped.epoch < (a.nodes s).epoch
  pub epoch : b.epoch ≡ a.epoch
  pub chain : b.chain ≡ a.chain
  pub nodes : (x : ℕ) → b.nodes x ≡ a.nodes x
  pub front : a.links p s ≡ dropped ∷ b.links p s
  pub to_it : (x : ℕ) → x ≢ p → b.links x s ≡ a.links x s
  pub links : (x y : ℕ) → y ≢ s → b.links x y ≡ a.links x y

-- ---- what they do to what is seen

abbrev pub fed : Feeder → List Message → List Message → List Message
fed (Live t) sends ms = ms ++ sends
fed Silent sends ms = ms
fed Dead sends ms = ms

abbrev pub feed : Stage → List Message → List Hop → List Hop
feed s sends [] = []
feed s sends (h ∷ hs) = record h { lane = fed (lane_feeder s h.linked h.member.stage) sends h.lane; next = fed (next_feeder s h.member.stage) sends h.next } ∷ hs

-- the first was one member, has taken a message, and is another now
abbrev pub Became : Message → List Message → Replica → Replica → List Hop → List Hop → Type 0
Became taken sends was m [] new = ⊥
Became taken sends was m (h ∷ hs) new = (rest : List Message) × (h.member ≡ was) × (h.lane ≡ taken ∷ rest) × (new ≡ record h { lane = rest; member = m } ∷ feed h.member.stage sends hs)

abbrev pub TakesShows : Type 0
TakesShows = (a b : Net) (s : ℕ) (taken : Message) (sends : List Message) (us vs : List ℕ) → Takes a b s taken sends → a.chain ≡ us ++ s ∷ vs → AllSuit a s None us → AllSuit a s (Some s) vs
    → (a.nodes s).epoch ≤ a.epoch → a.epoch ≤ suc (a.nodes s).epoch
    → (i : ℕ) × Down i (Became taken sends (member_of a.epoch (a.nodes s)) (member_of b.epoch (b.nodes s))) (hops_of a) (hops_of b)

-- the first was one member and is another now, and has sent these
abbrev pub Worked : List Message → Replica → Replica → List Hop → List Hop → Type 0
Worked sends was m [] new = ⊥
Worked sends was m (h ∷ hs) new = (h.member ≡ was) × (new ≡ record h { member = m } ∷ feed h.member.stage sends hs)

abbrev pub WorkShows : Type 0
WorkShows = (a b : Net) (s : ℕ) (sends : List Message) (us vs : List ℕ) → Works a b s sends → a.chain ≡ us ++ s ∷ vs → AllSuit a s None us → AllSuit a s (Some s) vs → (a.nodes s).epoch ≤ a.epoch
    → a.epoch ≤ suc (a.nodes s).epoch → Down (length us) (Worked sends (member_of a.epoch (a.nodes s)) (member_of b.epoch (b.nodes s))) (hops_of a) (hops_of b)

-- dropping an old message changes nothing that is seen
abbrev pub DropShows : Type 0
DropShows = (a b : Net) (p s : ℕ) → Drops a b p s → (a.nodes s).epoch ≤ a.epoch → hops_of b ≡ hops_of a

-- ---- the member's part of a step

abbrev pub applied_by : Node → ℕ
applied_by n = applied_of n.table

-- what it sends again at its Turn
abbrev pub sent_again : Node → List Message
sent_again n = map Put (kept_after n.table n.known) ++ Turn ∷ []

-- a Put that it has; the next Put, sent on once its Turn has come; and its Turn
abbrev pub Delivers : Net → Net → ℕ → Type 0
Delivers a b s =
    ((p : Kept) × Takes a b s (Put p) [] × (p.number ≤ applied_by (a.nodes s)) × (b.nodes s ≡ a.nodes s))
    ⊎ ((p : Kept) × Takes a b s (Put p) (if (a.nodes s).turned then Put p ∷ [] else []) × (p.number ≡ suc (applied_by (a.nodes s))) × (b.nodes s ≡ record (a.nodes s) { table = record (a.nodes s).table { kept = (a.nodes s).table.kept ++ p ∷ [] } }))
    ⊎ (Takes a b s Turn (sent_again (a.nodes s)) × ((a.nodes s).turned ≡ false) × (b.nodes s ≡ record (a.nodes s) { turned = true }))

-- a running member of a recorded chain, told of it or of the one before, takes a message of its epoch
abbrev pub DeliverShows : Type 0
DeliverShows = (a b : Net) (s : ℕ) (us vs : List ℕ) → Delivers a b s → a.chain ≡ us ++ s ∷ vs → AllSuit a s None us → AllSuit a s (Some s) vs → (a.nodes s).epoch ≤ a.epoch → a.epoch ≤ suc (a.nodes s).epoch
    → (a.nodes s).stopped ≡ false → (i : ℕ) × Down i Quietly (hops_of a) (hops_of b)

-- ---- the record at slots

abbrev pub first_of : List ℕ → Option ℕ
first_of [] = None
first_of (x ∷ xs) = Some x

abbrev pub is_end : List ℕ → Bool
is_end [] = true
is_end (x ∷ xs) = false

-- each running one was told the recorded epoch, and its place of that; no member was told a later one
abbrev pub AllTold : Net → Option ℕ → List ℕ → Type 0
AllTold w prev [] = Unit {0}
AllTold w prev (y ∷ ys) = ((w.nodes y).stopped ≡ false → ((w.nodes y).epoch ≡ w.epoch) × ((w.nodes y).above ≡ prev)) × ((w.nodes y).epoch ≤ w.epoch) × AllTold w (Some y) ys

-- the next record; no message was sent in its epoch
pub record Records (a b : Net) : Type 0 where
  pub epoch : b.epoch ≡ suc a.epoch
  pub nodes : (x : ℕ) → b.nodes x ≡ a.nodes x
  pub links : (x y : ℕ) → b.links x y ≡ a.links x y
  pub none : (x y : ℕ) → at_epoch (suc a.epoch) (a.links x y) ≡ []

-- without the member at this slot
abbrev pub RemoveShows : Type 0
RemoveShows = (a b : Net) (us vs : List ℕ) (m : ℕ) → Records a b → AllTold a None a.chain → a.chain ≡ us ++ m ∷ vs → b.chain ≡ us ++ vs → All (λ x. x ≢ m) us
    → Alike (without (length us) (hops_of a)) (hops_of b)

-- a member with a volume of so many writes, of this epoch and turned, without a place in the chain of that
abbrev pub IsFresh : Node → ℕ → ℕ → Type 0
IsFresh n epoch k = n ≡ record { epoch = epoch; turned = true; above = None; below = None; stopped = false; ends = false; holds = false; table = record { forgotten = k; kept = [] }; known = k }

-- the next record, with another member at this slot; no message was sent in its epoch
pub record Joins (a b : Net) (j : ℕ) : Type 0 where
  pub epoch : b.epoch ≡ suc a.epoch
  pub nodes : (x : ℕ) → x ≢ j → b.nodes x ≡ a.nodes x
  pub links : (x y : ℕ) → b.links x y ≡ a.links x y
  pub none : (x y : ℕ) → at_epoch (suc a.epoch) (a.links x y) ≡ []

-- with that one behind the tail, or with the same members
abbrev pub JoinShows : Type 0
JoinShows = (a b : Net) → AllTold a None a.chain →
    ((us : List ℕ) (t j k : ℕ) → Joins a b j → IsFresh (b.nodes j) a.epoch k → All (λ x. x ≢ j) a.chain → a.chain ≡ us ++ t ∷ [] → b.chain ≡ us ++ t ∷ j ∷ [] → Alike (with_joiner k (hops_of a)) (hops_of b))
    × (Records a b → b.chain ≡ a.chain → Alike (map kept (hops_of a)) (hops_of b))

-- the member at `s` learns the recorded chain, in which it stands below `prev` and above these; nothing is sent
pub record Learns (a b : Net) (prev : Option ℕ) (s : ℕ) (vs : List ℕ) : Type 0 where
  pub epoch : b.epoch ≡ a.epoch
  pub chain : b.chain ≡ a.chain
  pub links : (x y : ℕ) → b.links x y ≡ a.links x y
  pub nodes : (x : ℕ) → x ≢ s → b.nodes x ≡ a.nodes x
  pub runs : (a.nodes s).stopped ≡ false
  pub untold : (a.nodes s).epoch < a.epoch
  pub node : b.nodes s ≡ record (a.nodes s) { epoch = a.epoch; turned = false; above = prev; below = first_of vs; ends = is_end vs; holds = false }

abbrev pub LearnShows : Type 0
LearnShows = (a b : Net) (us vs : List ℕ) (p s : ℕ) → Learns a b (Some p) s vs → a.chain ≡ us ++ p ∷ s ∷ vs → All (λ x. x ≢ s) (us ++ p ∷ vs) → Down (suc (length us)) IsTold (hops_of a) (hops_of b)

-- the head learns it, sends again, and is turned
abbrev pub HeadLearnShows : Type 0
HeadLearnShows = (a b c : Net) (s : ℕ) (vs : List ℕ) → Learns a c None s vs → a.chain ≡ s ∷ vs → All (λ x. x ≢ s) vs → AllSuit c s (Some s) vs
    → Works c b s (sent_again (a.nodes s)) → b.nodes s ≡ record (c.nodes s) { turned = true } → HeadIsTold (hops_of a) (hops_of b)
