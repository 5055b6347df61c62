-- Members at slots, what is seen of them down the recorded chain, and what they send: lemmas.
use Rattle.std.proofs.Common.{if◌then◌else◌, ◌≡◌, ◌≢◌, inl, inr, ℕ, zero, suc, ◌==◌, ◌≤◌, true, Option, None, Some, List, [], ◌∷◌, ◌++◌, length, map, take, refl, sym, ◌∙◌, ap, subst, arith}
use Rattle.std.specs.Prelude.{All, AllPairs, fold}
use Rattle.std.specs.List.{Contains, flat_map}
use Rattle.std.proofs.lemmas.Bool.{cases_eq, cond-false, cond-true, eq-eqb, ne_eqb}
use Rattle.std.proofs.lemmas.Grind.{flat_map-append}
use Rattle.std.proofs.lemmas.List.{append-nil, append_assoc, length-append, map-append, take-append-le, take_at}
use Rattle.std.proofs.lemmas.List.Elements.{All-head, All-tail, All-weaker}
use Rattle.std.proofs.lemmas.Option.{same_Some}
use Rattle.configurations.specs.Record.{Record}
use Rattle.version_table.specs.Held.{kept_after, writes_upto}
use Rattle.version_table.specs.declared.kept.Kept.{Kept}
use Rattle.volume.specs.Writes.{patched}
use Rattle.chain_steps.specs.Node.{NodeState, epoch_of, last_of}
use Rattle.chain_steps.specs.Place.{Standing, head_of, is_head, predecessor_of, successor_of}
use Rattle.chain_steps.specs.Steps.{again, send, send_all}
use Rattle.chain_steps.specs.declared.message.Envelope.{Envelope}
use Rattle.chain_steps.specs.declared.message.Message.{Message}
use Rattle.chain_steps.specs.declared.message.Message.TheVariants as messages
use Rattle.chain_steps.specs.declared.message.Sent.{Sent}
use Rattle.world_model.proofs.Counting.{all_at, pairs_around}
use Rattle.chain_model.proofs.Lanes.{begins_all, begins_trans}
use Rattle.chain_model.specs.Links.{AllSuit, Net, Node, Stamped, at_epoch, from_slot, hop_at, hop_of, hops_from, hops_of, is_slot, member_of, sent_again, stamped}
use Rattle.world_model.specs.Order.{HasApplied, volume_after}
use Rattle.world_model.proofs.OrderSteps.{volume_at_number}
use Rattle.chain_model.specs.Placed.{Apart, IsPlaced, above_in, below_in}
use Rattle.chain_model.proofs.PlacedSteps.{places_suit}
use Rattle.chain_model.specs.Replicas.{Hop, Stage, Past}
use Rattle.chain_model.specs.Replicas as replicas
use Rattle.chain_model.specs.Turning.{Begins, Fronts, Knows, Made, Passes, Stands}
use Rattle.chain_model.specs.Chain.{ArePlaced, IsTold}
use Rattle.chain_model.specs.Laws.{sent_to}
use Rattle.chain_model.proofs.PlaceSteps.{head_first, is_among, is_head_first, predecessor_is, split_at, successor_is}
use Rattle.chain_model.specs.View.{Member, chain_of, net_of, node_at, node_of, passed_in, passed_on, slot_of, slots_of, stamped_in}

-- ---- who stands at a slot

at_first : (m : Member) (ms : List Member) (s : ℕ) → slot_of m ≡ s → node_at (m ∷ ms) s ≡ node_of m.node
at_first m ms s is = cond-true (slot_of m == s) (node_of m.node) (node_at ms s) (eq-eqb (slot_of m) s is)

at_other : (m : Member) (ms : List Member) (s : ℕ) → slot_of m ≢ s → node_at (m ∷ ms) s ≡ node_at ms s
at_other m ms s apart = cond-false (slot_of m == s) (node_of m.node) (node_at ms s) (ne_eqb (slot_of m) s apart)

-- behind the same ones
at_same : (above ms gs : List Member) (s : ℕ) → node_at gs s ≡ node_at ms s → node_at (above ++ gs) s ≡ node_at (above ++ ms) s
at_same [] ms gs s same = same
at_same (x ∷ above) ms gs s same = ap (λ (n : Node). if slot_of x == s then node_of x.node else n) (at_same above ms gs s same)

past_all : (above ms : List Member) (s : ℕ) → All (λ slot. slot ≢ s) (slots_of above) → node_at (above ++ ms) s ≡ node_at ms s
past_all [] ms s others = refl
past_all (x ∷ above) ms s others =
    at_other x (above ++ ms) s (All-head (λ slot. slot ≢ s) (slot_of x) (slots_of above) others) ∙ past_all above ms s (All-tail (λ slot. slot ≢ s) (slot_of x) (slots_of above) others)

-- the others are at other slots
others_apart : (above : List Member) (m : Member) (below : List Member) → AllPairs (λ slot other. slot ≢ other) (slots_of (above ++ m ∷ below))
    → All (λ slot. slot ≢ slot_of m) (slots_of above) × All (λ slot. slot_of m ≢ slot) (slots_of below)
others_apart above m below apart = pairs_around (λ slot other. slot ≢ other) (slots_of above) (slot_of m) (slots_of below)
    (subst (AllPairs (λ slot other. slot ≢ other)) (map-append slot_of above (m ∷ below)) apart)

-- each stands at its slot
pub node_here : (above : List Member) (m : Member) (below : List Member) → AllPairs (λ slot other. slot ≢ other) (slots_of (above ++ m ∷ below))
    → node_at (above ++ m ∷ below) (slot_of m) ≡ node_of m.node
node_here above m below apart = past_all above (m ∷ below) (slot_of m) (others_apart above m below apart).0 ∙ at_first m below (slot_of m) refl

-- another one at its slot is no matter of the other slots
pub node_there : (above : List Member) (m g : Member) (below : List Member) (s : ℕ) → slot_of g ≡ slot_of m → s ≢ slot_of m → node_at (above ++ g ∷ below) s ≡ node_at (above ++ m ∷ below) s
node_there above m g below s same other =
    at_same above (m ∷ below) (g ∷ below) s (at_other g below s (λ is. other (sym is ∙ same)) ∙ sym (at_other m below s (λ is. other (sym is))))

-- one of which the same is seen changes nothing
pub nodes_same : (above : List Member) (m g : Member) (below : List Member) (s : ℕ) → slot_of g ≡ slot_of m → node_of g.node ≡ node_of m.node
    → node_at (above ++ g ∷ below) s ≡ node_at (above ++ m ∷ below) s
nodes_same above m g below s same node = at_same above (m ∷ below) (g ∷ below) s
    (ap (λ (n : Node). if slot_of g == s then n else node_at below s) node ∙ ap (λ (k : ℕ). if k == s then node_of m.node else node_at below s) same)

-- ---- what is seen

module _ (a b : Net) (epoch : b.epoch ≡ a.epoch) (nodes : (x : ℕ) → b.nodes x ≡ a.nodes x) (links : (x y : ℕ) → b.links x y ≡ a.links x y) where
  from_same : (o : Option ℕ) (y : ℕ) → from_slot b.links o y ≡ from_slot a.links o y
  from_same None y = refl
  from_same (Some x) y = links x y

  -- what a hop is made of
  abbrev hop_by : ℕ → List Stamped → List Stamped → Option ℕ → Node → Hop
  hop_by recorded own next prev n = record {
    lane = at_epoch n.epoch own;
    next = if n.epoch == recorded then [] else at_epoch recorded next;
    linked = is_slot n.above prev;
    member = member_of recorded n;
  }

  hop_same : (prev : Option ℕ) (y : ℕ) → hop_at b prev y ≡ hop_at a prev y
  hop_same prev y =
      ap (λ (n : Node). hop_of b.epoch b.links prev y n) (nodes y) ∙ ap (λ (r : ℕ). hop_of r b.links prev y (a.nodes y)) epoch
      ∙ ap (λ (l : List Stamped). hop_by a.epoch l (from_slot b.links prev y) prev (a.nodes y)) (from_same (a.nodes y).above y)
      ∙ ap (λ (l : List Stamped). hop_by a.epoch (from_slot a.links (a.nodes y).above y) l prev (a.nodes y)) (from_same prev y)

  from_hops : (prev : Option ℕ) (ys : List ℕ) → hops_from b prev ys ≡ hops_from a prev ys
  from_hops prev [] = refl
  from_hops prev (y ∷ ys) = ap (λ (h : Hop). h ∷ hops_from b (Some y) ys) (hop_same prev y) ∙ ap (λ (l : List Hop). hop_at a prev y ∷ l) (from_hops (Some y) ys)

-- of the same net the same is seen
pub hops_same : (a b : Net) → b.epoch ≡ a.epoch → b.chain ≡ a.chain → ((x : ℕ) → b.nodes x ≡ a.nodes x) → ((x y : ℕ) → b.links x y ≡ a.links x y) → hops_of b ≡ hops_of a
hops_same a b epoch chain nodes links = from_hops a b epoch nodes links None b.chain ∙ ap (hops_from a None) chain

-- ---- a member of the recorded chain

-- A running member stands among the slots of the recorded chain, and the others suit it.
pub record Among (recorded : Record) (links : ℕ → ℕ → List Envelope) (members : List Member) (m : Member) : Type 0 where
  pub us : List ℕ
  pub vs : List ℕ
  pub chain : chain_of recorded ≡ us ++ slot_of m ∷ vs
  pub above_suit : AllSuit (net_of recorded links members) (slot_of m) None us
  pub below_suit : AllSuit (net_of recorded links members) (slot_of m) (Some (slot_of m)) vs
  pub within : epoch_of m.node ≤ recorded.epoch
  pub near : recorded.epoch ≤ suc (epoch_of m.node)

-- who stands at a slot is one of the members
pub record StandsAt (P : Member → Type 0) (ms : List Member) (s : ℕ) : Type 0 where
  pub m : Member
  pub has : P m
  pub slot : slot_of m ≡ s
  pub node : node_at ms s ≡ node_of m.node

-- so it is for each slot at which somebody stands
pub stands_at : (P : Member → Type 0) (ms : List Member) (s : ℕ) → All P ms → Contains (slots_of ms) s → StandsAt P ms s
stands_at P [] s all (k, lt, is) = absurd (omega arith)
stands_at P (x ∷ xs) s all there = elim (cases_eq (slot_of x) s) [
  | inl same ↦ record { m = x; has = All-head P x xs all; slot = same; node = at_first x xs s same }
  | inr other ↦
      let it : StandsAt P xs s = stands_at P xs s (All-tail P x xs all) (later there other) in
      record { m = it.m; has = it.has; slot = it.slot; node = at_other x xs s other ∙ it.node }
]
  where
    later : Contains (slots_of (x ∷ xs)) s → slot_of x ≢ s → Contains (slots_of xs) s
    later (zero, lt, is) apart = absurd (apart is)
    later (suc k, lt, is) apart = (k, omega arith, is)

-- a slot that was told a chain has its place of that
told_place : (p : Standing) (r : Record) (y : ℕ) → Apart (chain_of r) → p.chain ≡ r → p.slot ≡ y → (predecessor_of p ≡ above_in (chain_of r) y) × (successor_of p ≡ below_in (chain_of r) y)
told_place p r y apart chain slot = (
  ap (λ (c : Record). predecessor_of (record { slot = p.slot; chain = c })) chain ∙ ap (λ (k : ℕ). predecessor_of (record { slot = k; chain = r })) slot ∙ predecessor_is r y apart,
  ap (λ (c : Record). successor_of (record { slot = p.slot; chain = c })) chain ∙ ap (λ (k : ℕ). successor_of (record { slot = k; chain = r })) slot ∙ successor_is r y apart,
)

module _ (recorded before : Record) (links : ℕ → ℕ → List Envelope) (members : List Member) (places : ArePlaced recorded before members) where
  placed_one : (y : ℕ) → Contains (slots_of members) y → IsPlaced (net_of recorded links members) (chain_of before) y
  placed_one y there =
      let it : StandsAt (λ m. IsTold recorded before m.node) members y = stands_at (λ m. IsTold recorded before m.node) members y places.told there in
      record {
        now = λ is. let (above, below) = told_place it.m.node.place recorded y places.apart (it.has.now (ap (λ (n : Node). n.epoch) (sym it.node) ∙ is)) it.slot in
            (ap (λ (n : Node). n.above) it.node ∙ above, ap (λ (n : Node). n.below) it.node ∙ below);
        before = λ is. let (above, below) = told_place it.m.node.place before y places.apart_before (it.has.old (ap (λ (n : Node). suc n.epoch) (sym it.node) ∙ is)) it.slot in
            (ap (λ (n : Node). n.above) it.node ∙ above, ap (λ (n : Node). n.below) it.node ∙ below);
      }

  all_placed : All (IsPlaced (net_of recorded links members) (chain_of before)) (chain_of recorded)
  all_placed = All-weaker (λ s. Contains (slots_of members) s) (IsPlaced (net_of recorded links members) (chain_of before)) placed_one (chain_of recorded) places.stands

-- each that runs is among them
pub among : (recorded before : Record) (links : ℕ → ℕ → List Envelope) (above : List Member) (m : Member) (below : List Member) → ArePlaced recorded before (above ++ m ∷ below)
    → AllPairs (λ slot other. slot ≢ other) (slots_of (above ++ m ∷ below)) → m.node.stopped ≡ None → Among recorded links (above ++ m ∷ below) m
among recorded before links above m below places apart runs =
    let told : IsTold recorded before m.node = all_at (λ (x : Member). IsTold recorded before x.node) above m below places.told in
    let node : node_at (above ++ m ∷ below) (slot_of m) ≡ node_of m.node = node_here above m below apart in
    let (us, vs, chain) = split_at (chain_of recorded) (slot_of m) (is_among recorded (slot_of m) m.node.incarnation (told.there runs)) in
    let (up, down) = places_suit (net_of recorded links (above ++ m ∷ below)) us vs (chain_of before) (slot_of m) chain places.apart places.apart_before places.close
    (all_placed recorded before links (above ++ m ∷ below) places) (subst (λ (n : Node). n.epoch ≤ recorded.epoch) (sym node) told.within)
    (subst (λ (n : Node). recorded.epoch ≤ suc n.epoch) (sym node) (told.near runs)) in
    record { us = us; vs = vs; chain = chain; above_suit = up; below_suit = down; within = told.within; near = told.near runs }

-- ---- what it has

-- A member of the recorded chain has a beginning of the line, with all that is committed, and knows of no more.
pub record Reach (front : ℕ) (line : List Kept) (node : NodeState) : Type 0 where
  pub own : List Kept
  pub begins : Begins own line
  pub done : List Kept
  pub own_is : done ++ node.table.kept ≡ own
  pub durable : length done ≡ node.table.forgotten
  pub within : node.table.forgotten ≤ node.known
  pub known : node.known ≤ front
  pub has : front ≤ last_of node

reach_down : (w : Net) (s front : ℕ) (line above : List Kept) (a : Stage) (prev : Option ℕ) (ys : List ℕ) → Contains ys s → Begins above line → Passes above a (hops_from w prev ys) → Fronts front (hops_from w prev ys)
    → (own : List Kept) × Begins own line × Made own (member_of w.epoch (w.nodes s)) × Knows front (member_of w.epoch (w.nodes s))
reach_down w s front line above a prev [] (k, lt, is) begins passes fronts = absurd (omega arith)
reach_down w s front line above a prev (y ∷ ys) there begins (own, follows, rest) (knows, others) = elim (cases_eq y s) [
  | inl same ↦ (
    own,
    begins_trans own above line follows.begins begins,
    subst (λ (k : ℕ). Made own (member_of w.epoch (w.nodes k))) same follows.made,
    subst (λ (k : ℕ). Knows front (member_of w.epoch (w.nodes k))) same knows,
  )
  | inr other ↦ reach_down w s front line own (member_of w.epoch (w.nodes y)).stage (Some y) ys (later there other) (begins_trans own above line follows.begins begins) rest others
]
  where
    later : Contains (y ∷ ys) s → y ≢ s → Contains ys s
    later (zero, lt, is) apart = absurd (apart is)
    later (suc k, lt, is) apart = (k, omega arith, is)

-- whoever stands at a slot of the chain, running or stopped
pub reach_of : (recorded : Record) (links : ℕ → ℕ → List Envelope) (above : List Member) (m : Member) (below : List Member) (front : ℕ) (line : List Kept)
    → AllPairs (λ slot other. slot ≢ other) (slots_of (above ++ m ∷ below)) → Contains (chain_of recorded) (slot_of m) → Stands front line (hops_of (net_of recorded links (above ++ m ∷ below)))
    → Reach front line m.node
reach_of recorded links above m below front line apart there stands =
    let node : node_at (above ++ m ∷ below) (slot_of m) ≡ node_of m.node = node_here above m below apart in
    let (own, begins, made, knows) = reach_down (net_of recorded links (above ++ m ∷ below)) (slot_of m) front line line Past None (chain_of recorded) there (begins_all line) stands.passes stands.fronts in
    let made_so : Made own (member_of recorded.epoch (node_of m.node)) = subst (λ (n : Node). Made own (member_of recorded.epoch n)) node made in
    let knows_so : Knows front (member_of recorded.epoch (node_of m.node)) = subst (λ (n : Node). Knows front (member_of recorded.epoch n)) node knows in
    record { own = own; begins = begins; done = made_so.done; own_is = made_so.own_is; durable = made_so.durable; within = knows_so.within; known = knows_so.known; has = knows_so.has }

-- its volume at a number between its durable front and its last applied write is that of the line
pub volume_in_line : (size front : ℕ) (line : List Kept) (node : NodeState) (volume : List ℕ) (j : ℕ) → Reach front line node → volume ≡ volume_after size (take node.table.forgotten line)
    → node.table.forgotten ≤ j → j ≤ last_of node → fold patched volume (writes_upto node.table j) ≡ volume_after size (take j line)
volume_in_line size front line node volume j reach is from upto =
    let (rest, whole) = reach.begins in
    let parts : reach.done ++ (node.table.kept ++ rest) ≡ line = sym (append_assoc reach.done node.table.kept rest) ∙ ap (λ (l : List Kept). l ++ rest) reach.own_is ∙ whole in
    let first : take node.table.forgotten line ≡ reach.done = ap (take node.table.forgotten) (sym parts) ∙ take_at reach.done (node.table.kept ++ rest) node.table.forgotten reach.durable in
    let has : HasApplied size reach.own volume node.table = record { done = reach.done; own_is = reach.own_is; durable = reach.durable; volume_is = is ∙ ap (volume_after size) first } in
    let long : j ≤ length reach.own = omega (arith, length-append reach.done node.table.kept, ap length reach.own_is, reach.durable) in
    volume_at_number size reach.own volume node.table has j from upto
    ∙ ap (volume_after size) (sym (ap (take j) (sym whole) ∙ take-append-le j reach.own rest long))

-- ---- the head

-- one that is the head of the chain that it was told is the first of the recorded one
pub first_member : (recorded before : Record) (links : ℕ → ℕ → List Envelope) (above : List Member) (m : Member) (below : List Member) → ArePlaced recorded before (above ++ m ∷ below)
    → m.node.stopped ≡ None → is_head m.node.place ≡ true → (vs : List ℕ) × (chain_of recorded ≡ slot_of m ∷ vs)
first_member recorded before links above m below places runs head =
    head_first recorded (slot_of m) (elim (cases_eq (epoch_of m.node) recorded.epoch) [
      | inl now ↦ first_in recorded (told.now now)
      | inr not_now ↦ places.first (slot_of m) (first_in before (told.old (last_one not_now))) (is_among recorded (slot_of m) m.node.incarnation (told.there runs))
    ])
  where
    told : IsTold recorded before m.node
    told = all_at (λ (x : Member). IsTold recorded before x.node) above m below places.told

    last_one : epoch_of m.node ≢ recorded.epoch → suc (epoch_of m.node) ≡ recorded.epoch
    last_one not_now = omega (arith, told.within, told.near runs)

    first_in : (r : Record) → m.node.place.chain ≡ r → head_of r ≡ Some (slot_of m)
    first_in r chain = is_head_first r (slot_of m) (subst (λ (c : Record). is_head (record { slot = slot_of m; chain = c }) ≡ true) chain head)

-- ---- what is sent

sent_here : (to : ℕ) (e : Envelope) (ms : List Sent) → sent_to to (record { to = to; envelope = e } ∷ ms) ≡ e ∷ sent_to to ms
sent_here to e ms = cond-true (to == to) (e ∷ sent_to to ms) (sent_to to ms) (eq-eqb to to refl)

sent_elsewhere : (slot to : ℕ) (e : Envelope) (ms : List Sent) → slot ≢ to → sent_to to (record { to = slot; envelope = e } ∷ ms) ≡ sent_to to ms
sent_elsewhere slot to e ms apart = cond-false (slot == to) (e ∷ sent_to to ms) (sent_to to ms) (ne_eqb slot to apart)

pub passed-append : (xs ys : List Envelope) → passed_on (xs ++ ys) ≡ passed_on xs ++ passed_on ys
passed-append xs ys = flat_map-append stamped_in xs ys

-- what is sent to a slot stands on the link to it
pub passed_sent : (epoch : ℕ) (ms : List Message) (to : ℕ) → passed_on (sent_to to (send_all (Some to) epoch ms)) ≡ stamped epoch (flat_map passed_in ms)
passed_sent epoch [] to = refl
passed_sent epoch (m ∷ ms) to =
    ap passed_on (sent_here to (record { epoch = epoch; message = m }) (send_all (Some to) epoch ms)) ∙ ap (λ (l : List Stamped). stamped epoch (passed_in m) ++ l) (passed_sent epoch ms to)
    ∙ sym (map-append (λ (x : replicas.Message). record { epoch = epoch; message = x }) (passed_in m) (flat_map passed_in ms))

-- and on no other link
pub passed_unsent : (below : Option ℕ) (epoch : ℕ) (ms : List Message) (to : ℕ) → below ≢ Some to → passed_on (sent_to to (send_all below epoch ms)) ≡ []
passed_unsent None epoch ms to apart = refl
passed_unsent (Some slot) epoch [] to apart = refl
passed_unsent (Some slot) epoch (m ∷ ms) to apart =
    ap passed_on (sent_elsewhere slot to (record { epoch = epoch; message = m }) (send_all (Some slot) epoch ms) (λ is. apart (ap Some is))) ∙ passed_unsent (Some slot) epoch ms to apart

-- the same of one message
pub passed_sent_one : (message : Message) (node : NodeState) (to : ℕ) → passed_on (sent_to to (send (Some to) message node)) ≡ stamped (epoch_of node) (passed_in message)
passed_sent_one message node to =
    ap passed_on (sent_here to (record { epoch = epoch_of node; message = message }) []) ∙ append-nil (stamped (epoch_of node) (passed_in message))

pub passed_unsent_one : (below : Option ℕ) (message : Message) (node : NodeState) (to : ℕ) → below ≢ Some to → passed_on (sent_to to (send below message node)) ≡ []
passed_unsent_one None message node to apart = refl
passed_unsent_one (Some slot) message node to apart = ap passed_on (sent_elsewhere slot to (record { epoch = epoch_of node; message = message }) [] (λ is. apart (ap Some is)))

-- an Ack is no matter of the order
pub passed_acks : (below : Option ℕ) (front : ℕ) (node : NodeState) (to : ℕ) → passed_on (sent_to to (send below (messages.Ack front) node)) ≡ []
passed_acks None front node to = refl
passed_acks (Some slot) front node to = elim (cases_eq slot to) [
  | inl same ↦ subst (λ (k : ℕ). passed_on (sent_to k (send (Some slot) (messages.Ack front) node)) ≡ []) same (passed_sent_one (messages.Ack front) node slot)
  | inr other ↦ passed_unsent_one (Some slot) (messages.Ack front) node to (λ is. other (same_Some slot to is))
]

puts_passed : (ks : List Kept) (applied : ℕ) → flat_map passed_in (map (λ k. messages.Put k.number k.origin k.write) ks ++ messages.Turn applied ∷ []) ≡ map replicas.Put ks ++ replicas.Turn ∷ []
puts_passed [] applied = refl
puts_passed (k ∷ ks) applied = ap (λ (l : List replicas.Message). replicas.Put k ∷ l) (puts_passed ks applied)

-- what a member sends at its Turn
pub passed_again : (node : NodeState) → flat_map passed_in (again node) ≡ sent_again (node_of node)
passed_again node = puts_passed (kept_after node.table node.known) (last_of node)
