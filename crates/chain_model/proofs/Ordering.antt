-- Which step of the order a member's step is, and how it keeps the order: lemmas.
use Rattle.std.proofs.Common.{◌≡◌, ◌≢◌, ◌⊎◌, inl, inr, ℕ, suc, ◌+◌, ◌==◌, ◌<◌, ◌≤◌, max, true, false, None, Some, List, [], ◌∷◌, ◌++◌, length, map, refl, sym, ◌∙◌, ap, subst, arith}
use Rattle.std.specs.Prelude.{AllPairs, is_some}
use Rattle.std.proofs.lemmas.Bool.{cases_eq, cond-false, cond-true, eq-eqb, ne_eqb}
use Rattle.std.proofs.lemmas.List.{append-nil}
use Rattle.std.proofs.lemmas.List.Elements.{All-head}
use Rattle.std.proofs.lemmas.Option.{same_Some}
use Rattle.configurations.specs.Record.{Record}
use Rattle.version_table.specs.Held.{forgotten_to}
use Rattle.version_table.specs.declared.kept.Kept.{Kept}
use Rattle.chain_steps.specs.Node.{NodeState, epoch_of, is_stopped, last_of}
use Rattle.chain_steps.specs.Place.{Standing, is_tail, predecessor_of, successor_of}
use Rattle.chain_steps.specs.declared.message.Envelope.{Envelope}
use Rattle.chain_steps.specs.declared.message.Sent.{Sent}
use Rattle.world_model.proofs.Counting.{all_at, maps_same}
use Rattle.chain_model.specs.Links.{Net, Node, Sends, Takes, Worked, Works, feed, hops_of, member_of, stage_of, stamped}
use Rattle.chain_model.proofs.InOrder.{InOrder, attach_in_order, learn_in_order, quiet_in_order, raise_in_order}
use Rattle.chain_model.proofs.LinkSteps.{down_weaker, feed_nothing, stage_turned, told_stage, work_shows}
use Rattle.chain_model.specs.Replicas.{Hop, Message, Replica}
use Rattle.chain_model.specs.Placed.{Apart, above_in}
use Rattle.chain_model.specs.Turning.{turned_of}
use Rattle.chain_model.specs.TurningLaws.{Quietly}
use Rattle.chain_model.specs.TurningSteps.{Down, Learns, Raises, committed, is_untold, knowing}
use Rattle.chain_model.specs.Chain.{ArePlaced, IsTold}
use Rattle.chain_model.specs.Laws.{HasPassed, HasSent, sent_to}
use Rattle.chain_model.proofs.NetSteps.{Among, among, node_here, node_there, passed-append}
use Rattle.chain_model.proofs.PlaceSteps.{predecessor_is}
use Rattle.chain_model.specs.View.{Member, chain_of, net_of, node_of, passed_in, passed_on, slot_of, slots_of, stamped_in}

-- What a member sends goes down its chain: these Puts and Turns to the one below it, and none to others.
pub record SendsDown (node : NodeState) (sent : List Sent) (sends : List Message) : Type 0 where
  pub there : (to : ℕ) → successor_of node.place ≡ Some to → passed_on (sent_to to sent) ≡ stamped (epoch_of node) sends
  pub elsewhere : (to : ℕ) → successor_of node.place ≢ Some to → passed_on (sent_to to sent) ≡ []

pub sends_nothing : (node : NodeState) → SendsDown node [] []
sends_nothing node = record { there = λ to is. refl; elsewhere = λ to is. refl }

module _ (recorded before : Record) (above : List Member) (m g : Member) (below : List Member) (slots : AllPairs (λ slot other. slot ≢ other) (slots_of (above ++ m ∷ below))) (place : g.node.place ≡ m.node.place) where
  same_slot : slot_of g ≡ slot_of m
  same_slot = ap (λ (p : Standing). p.slot) place

  slots_then : AllPairs (λ slot other. slot ≢ other) (slots_of (above ++ g ∷ below))
  slots_then = subst (AllPairs (λ slot other. slot ≢ other)) (sym (maps_same slot_of above m g below same_slot)) slots

  module _ (links new_links : ℕ → ℕ → List Envelope) where
    abbrev pub a : Net
    a = net_of recorded links (above ++ m ∷ below)

    abbrev pub b : Net
    b = net_of recorded new_links (above ++ g ∷ below)

    was : a.nodes (slot_of m) ≡ node_of m.node
    was = node_here above m below slots

    is : b.nodes (slot_of m) ≡ node_of g.node
    is = subst (λ s. b.nodes s ≡ node_of g.node) same_slot (node_here above g below slots_then)

    -- what of a place stays
    stays : {A : Type 0} (f : Node → A) → f (node_of g.node) ≡ f (node_of m.node) → f (b.nodes (slot_of m)) ≡ f (a.nodes (slot_of m))
    stays f same = ap f is ∙ same ∙ sym (ap f was)

    below_is : (to : ℕ) → (a.nodes (slot_of m)).below ≡ Some to → successor_of m.node.place ≡ Some to
    below_is to found = sym (ap (λ (n : Node). n.below) was) ∙ found

    module _ (sent : List Sent) (sends : List Message) (down : SendsDown m.node sent sends) where
      added : (old_link : List Envelope) (to : ℕ) → (a.nodes (slot_of m)).below ≡ Some to → passed_on (old_link ++ sent_to to sent) ≡ passed_on old_link ++ stamped (a.nodes (slot_of m)).epoch sends
      added old_link to found =
          passed-append old_link (sent_to to sent) ∙ ap (λ xs. passed_on old_link ++ xs) (down.there to (below_is to found) ∙ ap (λ (n : Node). stamped n.epoch sends) (sym was))

      not_added : (old_link : List Envelope) (to : ℕ) → (a.nodes (slot_of m)).below ≢ Some to → passed_on (old_link ++ sent_to to sent) ≡ passed_on old_link
      not_added old_link to apart =
          passed-append old_link (sent_to to sent) ∙ ap (λ xs. passed_on old_link ++ xs) (down.elsewhere to (λ found. apart (ap (λ (n : Node). n.below) was ∙ found))) ∙ append-nil (passed_on old_link)

      sends_of : ((from to : ℕ) → from ≢ slot_of m → to ≢ slot_of m → new_links from to ≡ links from to) → ((to : ℕ) → to ≢ slot_of m → new_links (slot_of m) to ≡ links (slot_of m) to ++ sent_to to sent) → Sends a b (slot_of m) sends
      sends_of others its = record {
        epoch = refl;
        chain = refl;
        nodes = λ x other. node_there above m g below x same_slot other;
        told = stays (λ n. n.epoch) (ap (λ (p : Standing). p.chain.epoch) place);
        above = stays (λ n. n.above) (ap predecessor_of place);
        links = λ x y one other. ap passed_on (others x y one other);
        sent = λ y other found. ap passed_on (its y other) ∙ added (links (slot_of m) y) y found;
        unsent = λ y other apart. ap passed_on (its y other) ∙ not_added (links (slot_of m) y) y apart;
      }

      -- it takes nothing
      pub works_of : (a.nodes (slot_of m)).above ≢ Some (slot_of m) → HasSent (slot_of m) sent links new_links → Works a b (slot_of m) sends
      works_of apart has = record {
        sends_is = sends_of (λ x y one other. has.others x y one) (λ y other. has.its y);
        to_it = λ x other. ap passed_on (has.others x (slot_of m) other);
        apart = apart;
      }

      -- it takes a message that has no part in the order
      pub passes_of : (a.nodes (slot_of m)).above ≢ Some (slot_of m) → (from : ℕ) (envelope : Envelope) → stamped_in envelope ≡ [] → HasPassed from (slot_of m) envelope sent links new_links → Works a b (slot_of m) sends
      passes_of apart from envelope none has = record {
        sends_is = sends_of (λ x y one other. has.sends.others x y one ∙ has.taken.others x y (λ same. other)) (λ y other. has.sends.its y ∙ ap (λ l. l ++ sent_to y sent) (has.taken.others (slot_of m) y (λ same. absurd (has.apart (sym same)))));
        to_it = λ x other. ap passed_on (has.sends.others x (slot_of m) other) ∙ not_seen x;
        apart = apart;
      }
        where
          not_seen : (x : ℕ) → passed_on (has.between x (slot_of m)) ≡ passed_on (links x (slot_of m))
          not_seen x = elim (cases_eq x from) [
            | inl here ↦ subst (λ k. passed_on (has.between k (slot_of m)) ≡ passed_on (links k (slot_of m))) (sym here)
                (sym (ap passed_on has.taken.first ∙ ap (λ xs. xs ++ passed_on (has.between from (slot_of m))) none))
            | inr other ↦ ap passed_on (has.taken.others x (slot_of m) (λ here. absurd (other here)))
          ]

      -- it takes a Put or a Turn of its epoch from the one above
      pub takes_of : (from : ℕ) (envelope : Envelope) (taken : Message) → passed_in envelope.message ≡ taken ∷ [] → envelope.epoch ≡ epoch_of m.node → predecessor_of m.node.place ≡ Some from
          → HasPassed from (slot_of m) envelope sent links new_links → Takes a b (slot_of m) taken sends
      takes_of from envelope taken one epoch found has = record {
        sends_is = sends_of (λ x y one other. has.sends.others x y one ∙ has.taken.others x y (λ same. other)) (λ y other. has.sends.its y ∙ ap (λ l. l ++ sent_to y sent) (has.taken.others (slot_of m) y (λ same. absurd (has.apart (sym same)))));
        from = from;
        from_is = ap (λ (n : Node). n.above) was ∙ found;
        front = ap passed_on (has.taken.first) ∙ ap (λ xs. xs ++ passed_on (has.between from (slot_of m))) stamped_is ∙ ap (λ xs. record { epoch = (a.nodes (slot_of m)).epoch; message = taken } ∷ passed_on xs) (sym (has.sends.others from (slot_of m) has.apart));
        to_it = λ x other itself. ap passed_on (has.sends.others x (slot_of m) itself ∙ has.taken.others x (slot_of m) (λ here. absurd (other here)));
      }
        where
          stamped_is : stamped_in envelope ≡ record { epoch = (a.nodes (slot_of m)).epoch; message = taken } ∷ []
          stamped_is =
              ap (map (λ (x : Message). record { epoch = envelope.epoch; message = x })) one ∙ ap (λ e. record { epoch = e; message = taken } ∷ []) (epoch ∙ sym (ap (λ (n : Node). n.epoch) was))

-- ---- who was told what

-- the one above is another one
above_apart : (c : List ℕ) (y s : ℕ) → Apart c → above_in c y ≡ Some s → s ≢ y
above_apart [] y s apart found = absurd cc
above_apart (x ∷ []) y s apart found = absurd cc
above_apart (x ∷ z ∷ c) y s (others, apart) found = elim (cases_eq z y) [
  | inl here ↦
      let first : x ≡ s = same_Some x s (sym (cond-true (z == y) (Some x) (above_in (z ∷ c) y) (eq-eqb z y here)) ∙ found) in
      λ same. All-head (λ k. k ≢ x) z c others (here ∙ sym same ∙ sym first)
  | inr further ↦ above_apart (z ∷ c) y s apart (sym (cond-false (z == y) (Some x) (above_in (z ∷ c) y) (ne_eqb z y further)) ∙ found)
]

-- a member that runs was told the recorded chain, or the one before it
pub told_one : (recorded before : Record) (node : NodeState) → IsTold recorded before node → node.stopped ≡ None
    → ((epoch_of node ≡ recorded.epoch) × (node.place.chain ≡ recorded)) ⊎ ((suc (epoch_of node) ≡ recorded.epoch) × (node.place.chain ≡ before))
told_one recorded before node is runs = elim (cases_eq (epoch_of node) recorded.epoch) [
  | inl now ↦ inl (now, is.now now)
  | inr not_now ↦ let old : suc (epoch_of node) ≡ recorded.epoch = omega (arith, is.within, is.near runs) in inr (old, is.old old)
]

-- where its chain has no slot twice
pub its_apart : (recorded before : Record) (members : List Member) (node : NodeState) → ArePlaced recorded before members → IsTold recorded before node → node.stopped ≡ None → Apart (chain_of node.place.chain)
its_apart recorded before members node places is runs = elim (told_one recorded before node is runs) [
  | inl (now, chain) ↦ subst (λ (r : Record). Apart (chain_of r)) (sym chain) places.apart
  | inr (old, chain) ↦ subst (λ (r : Record). Apart (chain_of r)) (sym chain) places.apart_before
]

pub not_itself : (recorded before : Record) (members : List Member) (node : NodeState) → ArePlaced recorded before members → IsTold recorded before node → node.stopped ≡ None
    → predecessor_of node.place ≢ Some node.place.slot
not_itself recorded before members node places is runs found =
    let apart = its_apart recorded before members node places is runs in
    above_apart (chain_of node.place.chain) node.place.slot node.place.slot apart (sym (predecessor_is node.place.chain node.place.slot apart) ∙ found) refl

-- ---- steps of a member that runs

module _ (recorded before : Record) (above : List Member) (m g : Member) (below : List Member) (slots : AllPairs (λ slot other. slot ≢ other) (slots_of (above ++ m ∷ below))) (place : g.node.place ≡ m.node.place)
    (links new_links : ℕ → ℕ → List Envelope) (places : ArePlaced recorded before (above ++ m ∷ below)) (runs : m.node.stopped ≡ None) where
  abbrev was_net : Net
  was_net = net_of recorded links (above ++ m ∷ below)

  abbrev is_net : Net
  is_net = net_of recorded new_links (above ++ g ∷ below)

  pub its_place : Among recorded links (above ++ m ∷ below) m
  its_place = among recorded before links above m below places slots runs

  told_what : IsTold recorded before m.node
  told_what = all_at (λ x. IsTold recorded before x.node) above m below places.told

  pub was_node : was_net.nodes (slot_of m) ≡ node_of m.node
  was_node = was recorded before above m g below slots place links new_links

  pub is_node : is_net.nodes (slot_of m) ≡ node_of g.node
  is_node = is recorded before above m g below slots place links new_links

  pub apart_from : (was_net.nodes (slot_of m)).above ≢ Some (slot_of m)
  apart_from found = not_itself recorded before (above ++ m ∷ below) m.node places told_what runs (sym (ap (λ (n : Node). n.above) was_node) ∙ found)

  pub within : (was_net.nodes (slot_of m)).epoch ≤ was_net.epoch
  within = subst (λ (n : Node). n.epoch ≤ recorded.epoch) (sym was_node) its_place.within

  pub near : was_net.epoch ≤ suc (was_net.nodes (slot_of m)).epoch
  near = subst (λ (n : Node). recorded.epoch ≤ suc n.epoch) (sym was_node) its_place.near

  -- what it does is seen at its place
  pub worked : (sends : List Message) → Works was_net is_net (slot_of m) sends
      → Down (length its_place.us) (Worked sends (member_of was_net.epoch (was_net.nodes (slot_of m))) (member_of is_net.epoch (is_net.nodes (slot_of m)))) (hops_of was_net) (hops_of is_net)
  worked sends works = work_shows was_net is_net (slot_of m) sends its_place.us its_place.vs works its_place.chain its_place.above_suit its_place.below_suit within near

  -- its part in the order became another
  became : (f : Node → Node) (k : Replica → Replica) → ((n : Node) → member_of recorded.epoch (f n) ≡ k (member_of recorded.epoch n)) → node_of g.node ≡ f (node_of m.node) → (r : Replica)
      → r ≡ member_of was_net.epoch (was_net.nodes (slot_of m)) → member_of is_net.epoch (is_net.nodes (slot_of m)) ≡ k r
  became f k both same r is = ap (member_of recorded.epoch) (is_node ∙ same) ∙ both (node_of m.node) ∙ ap k (ap (member_of recorded.epoch) (sym was_node) ∙ sym is)

  -- and it sent nothing of the order
  quietly : (f : Node → Node) (k : Replica → Replica) → ((n : Node) → member_of recorded.epoch (f n) ≡ k (member_of recorded.epoch n)) → node_of g.node ≡ f (node_of m.node) → (h : Hop) (hs new : List Hop)
      → Worked [] (member_of was_net.epoch (was_net.nodes (slot_of m))) (member_of is_net.epoch (is_net.nodes (slot_of m))) (h ∷ hs) new → new ≡ record h { member = k h.member } ∷ hs
  quietly f k both same h hs new (it, is) =
      is ∙ ap (λ (r : Replica). record h { member = r } ∷ feed h.member.stage [] hs) (became f k both same h.member it) ∙ ap (λ (l : List Hop). record h { member = k h.member } ∷ l) (feed_nothing h.member.stage hs)

  module _ (front : ℕ) (line : List Kept) (works : Works was_net is_net (slot_of m) []) (stands : InOrder front line (hops_of was_net)) where
    abbrev stop_node : Node → Node
    stop_node n = record n { stopped = true }

    abbrev stop_member : Replica → Replica
    stop_member r = record r { stopped = true }

    to_stop : node_of g.node ≡ record (node_of m.node) { stopped = true } → (old new : List Hop)
        → Worked [] (member_of was_net.epoch (was_net.nodes (slot_of m))) (member_of is_net.epoch (is_net.nodes (slot_of m))) old new → Quietly old new
    to_stop same [] new step = absurd step
    to_stop same (h ∷ hs) new step = inr (inr (inr (inl (quietly stop_node stop_member (λ n. refl) same h hs new step))))

    pub order_stops : node_of g.node ≡ record (node_of m.node) { stopped = true } → InOrder front line (hops_of is_net)
    order_stops same =
        quiet_in_order front (length its_place.us) line (hops_of was_net) (hops_of is_net) stands
        (down_weaker _ Quietly (to_stop same) (length its_place.us) (hops_of was_net) (hops_of is_net) (worked [] works))

    to_learn : (j : ℕ) → node_of g.node ≡ record (node_of m.node) { known = max m.node.known j } → (old new : List Hop)
        → Worked [] (member_of was_net.epoch (was_net.nodes (slot_of m))) (member_of is_net.epoch (is_net.nodes (slot_of m))) old new → Learns j old new
    to_learn j same [] new step = absurd step
    to_learn j same (h ∷ hs) new step = quietly (λ n. record n { known = max n.known j }) (knowing j) (λ n. refl) same h hs new step

    pub order_learns : (j : ℕ) → j ≤ front → node_of g.node ≡ record (node_of m.node) { known = max m.node.known j } → InOrder front line (hops_of is_net)
    order_learns j committed same =
        learn_in_order front (length its_place.us) j line (hops_of was_net) (hops_of is_net) stands committed
        (down_weaker _ (Learns j) (to_learn j same) (length its_place.us) (hops_of was_net) (hops_of is_net) (worked [] works))

    to_commit : (p : ℕ) → m.node.table.forgotten < p → p ≤ m.node.known → node_of g.node ≡ record (node_of m.node) { table = forgotten_to m.node.table p } → (old new : List Hop)
        → Worked [] (member_of was_net.epoch (was_net.nodes (slot_of m))) (member_of is_net.epoch (is_net.nodes (slot_of m))) old new → Quietly old new
    to_commit p from upto same [] new step = absurd step
    to_commit p from upto same (h ∷ hs) new (it, is) =
        let its : h.member ≡ member_of recorded.epoch (node_of m.node) = it ∙ ap (member_of recorded.epoch) was_node in
        inr (inr (inr (inr (
          p,
          (
            omega (arith, from, ap (λ (r : Replica). r.table.forgotten) its),
            omega (arith, upto, ap (λ (r : Replica). r.known) its),
            quietly (λ n. record n { table = forgotten_to n.table p }) (committed p) (λ n. refl) same h hs new (it, is),
          ),
        ))))

    pub order_commits : (p : ℕ) → m.node.table.forgotten < p → p ≤ m.node.known → node_of g.node ≡ record (node_of m.node) { table = forgotten_to m.node.table p } → InOrder front line (hops_of is_net)
    order_commits p from upto same =
        quiet_in_order front (length its_place.us) line (hops_of was_net) (hops_of is_net) stands
        (down_weaker _ Quietly (to_commit p from upto same) (length its_place.us) (hops_of was_net) (hops_of is_net) (worked [] works))

    to_raise : node_of g.node ≡ node_of m.node → m.node.turned ≡ true → m.node.holds ≡ false → is_tail m.node.place ≡ true → (old new : List Hop)
        → Worked [] (member_of was_net.epoch (was_net.nodes (slot_of m))) (member_of is_net.epoch (is_net.nodes (slot_of m))) old new → Raises (last_of m.node) old new
    to_raise same turned free ends [] new step = absurd step
    to_raise same turned free ends (h ∷ hs) new (it, is) =
        let its : h.member ≡ member_of recorded.epoch (node_of m.node) = it ∙ ap (member_of recorded.epoch) was_node in
        let running : is_stopped m.node ≡ false = ap is_some runs in (
          (
            ap (λ (r : Replica). r.stopped) its ∙ running,
            ap (λ (r : Replica). r.ends) its ∙ ends,
            ap (λ (r : Replica). r.holds) its ∙ free,
            ap (λ (r : Replica). turned_of r.stage) its ∙ stage_turned recorded.epoch (epoch_of m.node) m.node.turned its_place.within its_place.near ∙ turned,
          ),
          sym (ap (λ (r : Replica). r.table.forgotten + length r.table.kept) its),
          quietly (λ n. n) (λ r. r) (λ n. refl) same h hs new (it, is),
        )

    pub order_raises : node_of g.node ≡ node_of m.node → m.node.turned ≡ true → m.node.holds ≡ false → is_tail m.node.place ≡ true → (front ≤ last_of m.node) × InOrder (last_of m.node) line (hops_of is_net)
    order_raises same turned free ends =
        raise_in_order front (last_of m.node) (length its_place.us) line (hops_of was_net) (hops_of is_net) stands
        (down_weaker _ (Raises (last_of m.node)) (to_raise same turned free ends) (length its_place.us) (hops_of was_net) (hops_of is_net) (worked [] works))

    -- the tail of the recorded chain, which was told it, holds the front
    pub order_holds : node_of g.node ≡ record (node_of m.node) { known = front; holds = true } → epoch_of m.node ≡ recorded.epoch → is_tail m.node.place ≡ true → InOrder front line (hops_of is_net)
    order_holds same now ends =
        attach_in_order front (length its_place.us) line (member_of was_net.epoch (was_net.nodes (slot_of m))) (member_of is_net.epoch (is_net.nodes (slot_of m))) (hops_of was_net) (hops_of is_net) stands
        (ap (λ (n : Node). n.stopped) was_node ∙ ap is_some runs)
        (ap (λ (n : Node). is_untold (stage_of recorded.epoch n.epoch n.turned)) was_node ∙ told_stage recorded.epoch (epoch_of m.node) m.node.turned now)
        (ap (λ (n : Node). n.ends) was_node ∙ ends)
        (ap (member_of recorded.epoch) (is_node ∙ same) ∙ ap (λ (n : Node). record (member_of recorded.epoch n) { known = front; holds = true }) (sym was_node))
        (worked [] works)
