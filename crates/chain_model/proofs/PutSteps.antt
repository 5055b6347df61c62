-- How a member that takes a Put or a Turn, or drops an old message, keeps what its chain stands for: lemmas.
use Rattle.std.proofs.Common.{if◌then◌else◌, ◌≡◌, ◌≢◌, ℕ, suc, ◌+◌, ◌<◌, ◌≤◌, ◌==◌, Bool, true, false, Option, Some, None, List, [], ◌∷◌, ◌++◌, length, map, refl, sym, ◌∙◌, ap, subst, inl, inr, arith}
use Rattle.std.specs.Prelude.{All, ◌&&◌, not}
use Rattle.std.specs.List.{flat_map}
use Rattle.std.specs.Option.{ForSome}
use Rattle.std.proofs.lemmas.Bool.{cases_eq}
use Rattle.std.proofs.lemmas.List.{append-nil, length_push}
use Rattle.std.proofs.lemmas.Option.{same_Some}
use Rattle.std.proofs.lemmas.List.Elements.{All-cons, All-head, All-nil, All-tail, All-weaker}
use Rattle.configurations.specs.Record.{Record}
use Rattle.version_table.specs.Held.{kept_after}
use Rattle.version_table.specs.declared.kept.Kept.{Kept}
use Rattle.version_table.specs.declared.kept.Origin.{Origin}
use Rattle.volume.specs.Writes.{Placed}
use Rattle.chain_steps.specs.Node.{NodeState, epoch_of, last_of}
use Rattle.chain_steps.specs.Place.{predecessor_of, successor_of}
use Rattle.chain_steps.specs.Steps.{again, apply, send, send_all, told_number, turn}
use Rattle.chain_steps.specs.Waiting.{is_outdated, learned, number_or}
use Rattle.chain_steps.specs.declared.message.Envelope.{Envelope}
use Rattle.chain_steps.specs.declared.message.Message.{Message}
use Rattle.chain_steps.specs.declared.message.Message.TheVariants as messages
use Rattle.chain_steps.specs.declared.message.Sent.{Sent}
use Rattle.chain_steps.specs.declared.waiting.Waiting.{Waiting}
use Rattle.chain_steps.specs.declared.waiting.Waiting.TheVariants as tokens
use Rattle.world_model.specs.Chain.{ArePutOut}
use Rattle.world_model.proofs.Counting.{all_at}
use Rattle.world_model.specs.Event.{ClientEvent}
use Rattle.world_model.proofs.MemberSteps.{learns_number, stays_then, tickets_learned, tokens_left}
use Rattle.chain_model.proofs.InOrder.{InOrder}
use Rattle.chain_model.specs.Links.{Net, Node, Takes, hops_of, sent_again, stamped}
use Rattle.chain_model.proofs.LinkSteps.{drop_shows}
use Rattle.world_model.specs.Machine.{Plays, State}
use Rattle.chain_model.specs.Replicas as replicas
use Rattle.world_model.proofs.Standing.{shows_stay}
use Rattle.chain_model.proofs.Answering.{applied_left, refuses_those}
use Rattle.chain_model.specs.Chain.{ArePlaced, Belongs, HasApplied, IsAbove, IsApplied, IsTold, MembersStand, StandsWith}
use Rattle.chain_model.proofs.Changing.{are, changes, were}
use Rattle.chain_model.proofs.Delivering.{order_delivers, order_passes_turn, put_is}
use Rattle.chain_model.specs.Laws.{HasPassed, sent_to, with_members}
use Rattle.chain_model.proofs.Linking.{IsProper, all_sent, all_sent_again, first_proper, goes_down, linked_passed}
use Rattle.chain_model.proofs.MemberSteps.{idle, it_drops_found}
use Rattle.chain_model.proofs.NetSteps.{hops_same, node_here, passed_again, passed_sent, passed_sent_one, passed_unsent, passed_unsent_one}
use Rattle.chain_model.proofs.Ordering.{SendsDown, is_node, sends_nothing, takes_of, told_one, was_node}
use Rattle.chain_model.proofs.PassingSteps.{fits_most, links_change}
use Rattle.chain_model.proofs.PlaceSteps.{predecessor_is}
use Rattle.chain_model.specs.View.{Member, View, net_of, node_of, passed_in, passed_on, slot_of, tokens_of}

-- ---- who sends, and to whom

-- a message of its epoch that goes down comes from the one above it
pub comes_from : (recorded before : Record) (members : List Member) (node : NodeState) (from : ℕ) → ArePlaced recorded before members → IsTold recorded before node → node.stopped ≡ None
    → IsAbove recorded before (epoch_of node) from node.place.slot → predecessor_of node.place ≡ Some from
comes_from recorded before members node from places told runs above = elim (told_one recorded before node told runs) [
  | inl (now, chain) ↦ ap (λ (r : Record). predecessor_of (record { slot = node.place.slot; chain = r })) chain ∙ predecessor_is recorded node.place.slot places.apart ∙ above.now now
  | inr (old, chain) ↦ ap (λ (r : Record). predecessor_of (record { slot = node.place.slot; chain = r })) chain ∙ predecessor_is before node.place.slot places.apart_before ∙ above.old old
]

-- an applied write goes to the one below, once the member has its Turn
pub sends_put : (n : ℕ) (origin : Origin) (write : Placed) (node : NodeState)
    → SendsDown node (apply n origin write node).out.messages (if node.turned then replicas.Put (record { number = n; write = write; origin = origin }) ∷ [] else [])
sends_put n origin write node = record { there = λ to next. there node.turned to next; elsewhere = λ to other. elsewhere node.turned to other }
  where
    put : Message
    put = messages.Put n origin write

    there : (t : Bool) (to : ℕ) → successor_of node.place ≡ Some to → passed_on (sent_to to (if t then send (successor_of node.place) (messages.Put n origin write) node else []))
        ≡ stamped (epoch_of node) (if t then replicas.Put (record { number = n; write = write; origin = origin }) ∷ [] else [])
    there true to next = ap (λ (o : Option ℕ). passed_on (sent_to to (send o (messages.Put n origin write) node))) next ∙ passed_sent_one (messages.Put n origin write) node to
    there false to next = refl

    elsewhere : (t : Bool) (to : ℕ) → successor_of node.place ≢ Some to → passed_on (sent_to to (if t then send (successor_of node.place) (messages.Put n origin write) node else [])) ≡ []
    elsewhere true to other = passed_unsent_one (successor_of node.place) (messages.Put n origin write) node to other
    elsewhere false to other = refl

-- and what is sent again too
pub sends_turn : (node : NodeState) → SendsDown node (send_all (successor_of node.place) (epoch_of node) (again node)) (sent_again (node_of node))
sends_turn node = record {
  there = λ to next. ap (λ (o : Option ℕ). passed_on (sent_to to (send_all o (epoch_of node) (again node)))) next ∙ passed_sent (epoch_of node) (again node) to ∙ ap (stamped (epoch_of node)) (passed_again node);
  elsewhere = λ to other. passed_unsent (successor_of node.place) (epoch_of node) (again node) to other;
}

-- what it sends again belongs there
pub again_belongs : (recorded before : Record) (front : ℕ) (members : List Member) (node : NodeState) → ArePlaced recorded before members → IsTold recorded before node → node.stopped ≡ None → (to : ℕ)
    → All (IsProper recorded before front node.place.slot to) (sent_to to (send_all (successor_of node.place) (epoch_of node) (again node)))
again_belongs recorded before front members node places told runs =
    all_sent_again (λ y e. IsProper recorded before front node.place.slot y e) (successor_of node.place) (epoch_of node) (again node)
    (λ y next. again_all (λ message. IsProper recorded before front node.place.slot y (record { epoch = epoch_of node; message = message }))
    (λ k. (told.within, goes_down recorded before members node places told runs y next)) (told.within, goes_down recorded before members node places told runs y next))
  where
    puts_all : (P : Message → Type 0) → ((k : Kept) → P (messages.Put k.number k.origin k.write)) → (ks : List Kept) (ms : List Message) → All P ms → All P (map (λ k. messages.Put k.number k.origin k.write) ks ++ ms)
    puts_all P each [] ms all = all
    puts_all P each (k ∷ ks) ms all = All-cons P (messages.Put k.number k.origin k.write) (map (λ k. messages.Put k.number k.origin k.write) ks ++ ms) (each k) (puts_all P each ks ms all)

    again_all : (P : Message → Type 0) → ((k : Kept) → P (messages.Put k.number k.origin k.write)) → P (messages.Turn (last_of node)) → All P (again node)
    again_all P each last = puts_all P each (kept_after node.table node.known) (messages.Turn (last_of node) ∷ []) (All-cons P (messages.Turn (last_of node)) [] last (All-nil P))

-- ---- numbers of tokens

-- a token that learns a number has applied what it has
learned_applied : (under n last : ℕ) (w : Waiting) → n ≤ last → IsApplied last w → IsApplied last (learned under n w)
learned_applied under n last (tokens.Plain ticket epoch number token) le is = by (ticket == under) number is
  where
    number_is : (number : Option ℕ) → ForSome number (λ k. k ≤ last) → ForSome (number_or n number) (λ k. k ≤ last)
    number_is None is = λ k same. subst (λ j. j ≤ last) (same_Some n k same) le
    number_is (Some k) is = is

    by : (b : Bool) (number : Option ℕ) → ForSome number (λ k. k ≤ last) → ForSome (if b then number_or n number else number) (λ k. k ≤ last)
    by true number is = number_is number is
    by false number is = is
learned_applied under n last (tokens.Fua ticket epoch token) le is = by (ticket == under)
  where
    number_is : (number : Option ℕ) → ForSome number (λ k. k ≤ last) → ForSome (number_or n number) (λ k. k ≤ last)
    number_is None is = λ k same. subst (λ j. j ≤ last) (same_Some n k same) le
    number_is (Some k) is = is

    by : (b : Bool) → IsApplied last (tokens.Fua ticket epoch (if b then record token { number = number_or n token.number } else token))
    by true = number_is token.number is
    by false = is
learned_applied under n last (tokens.Read offset len token) le is = tt
learned_applied under n last (tokens.Flush token) le is = tt

all_learned : (under n last : ℕ) (ws : List Waiting) → n ≤ last → All (IsApplied last) ws → All (IsApplied last) (map (learned under n) ws)
all_learned under n last [] le all = All-nil (IsApplied last)
all_learned under n last (w ∷ ws) le all =
    All-cons (IsApplied last) (learned under n w) (map (learned under n) ws) (learned_applied under n last w le (All-head (IsApplied last) w ws all)) (all_learned under n last ws le (All-tail (IsApplied last) w ws all))

pub more_applied : (last more : ℕ) → last ≤ more → (w : Waiting) → IsApplied last w → IsApplied more w
more_applied last more le (tokens.Plain ticket epoch number token) is = λ k same. let was = is k same in omega arith
more_applied last more le (tokens.Fua ticket epoch token) is = λ k same. let was = is k same in omega arith
more_applied last more le (tokens.Read offset len token) is = tt
more_applied last more le (tokens.Flush token) is = tt

pub told_applied : (n : ℕ) (origin : Origin) (node : NodeState) (more : ℕ) → n ≤ more → last_of node ≤ more → All (IsApplied (last_of node)) node.waiting → All (IsApplied more) (told_number n origin node)
told_applied n origin node more le grows all =
    by ((origin.slot == node.place.slot) && (origin.incarnation == node.incarnation)) (All-weaker (IsApplied (last_of node)) (IsApplied more) (more_applied (last_of node) more grows) node.waiting all)
  where
    by : (b : Bool) → All (IsApplied more) node.waiting → All (IsApplied more) (if b then map (learned origin.ticket n) node.waiting else node.waiting)
    by true all = all_learned origin.ticket n more node.waiting le all
    by false all = all

-- ---- the steps

module _ (size : ℕ) (v : View) (above : List Member) (m : Member) (below : List Member) (runs : m.node.stopped ≡ None) (from : ℕ) (envelope : Envelope) (links : ℕ → ℕ → List Envelope) where
  its_told : (s : State) (line : List Kept) (backed : ℕ) → StandsWith size (with_members v (above ++ m ∷ below)) s line backed → IsTold v.recorded v.before m.node
  its_told s line backed stands = all_at (λ x. IsTold v.recorded v.before x.node) above m below stands.places.told

  -- what it sends down belongs there
  pub put_proper : (n : ℕ) (origin : Origin) (write : Placed) (s : State) (line : List Kept) (backed : ℕ) → StandsWith size (with_members v (above ++ m ∷ below)) s line backed → (to : ℕ)
      → All (IsProper v.recorded v.before v.told.front (slot_of m) to) (sent_to to (apply n origin write m.node).out.messages)
  put_proper n origin write s line backed stands to = by m.node.turned
    where
      by : (t : Bool) → All (IsProper v.recorded v.before v.told.front (slot_of m) to) (sent_to to (if t then send (successor_of m.node.place) (messages.Put n origin write) m.node else []))
      by true = all_sent (λ y e. IsProper v.recorded v.before v.told.front (slot_of m) y e) (successor_of m.node.place) (messages.Put n origin write) m.node
          (λ y next. ((its_told s line backed stands).within, goes_down v.recorded v.before (above ++ m ∷ below) m.node stands.places (its_told s line backed stands) runs y next)) to
      by false = All-nil (IsProper v.recorded v.before v.told.front (slot_of m) to)

  pub again_proper : (s : State) (line : List Kept) (backed : ℕ) → StandsWith size (with_members v (above ++ m ∷ below)) s line backed → (to : ℕ)
      → All (IsProper v.recorded v.before v.told.front (slot_of m) to) (sent_to to (send_all (successor_of m.node.place) (epoch_of m.node) (again m.node)))
  again_proper s line backed stands = again_belongs v.recorded v.before v.told.front (above ++ m ∷ below) m.node stands.places (its_told s line backed stands) runs

  -- ---- an old message is dropped

  module _ (old_one : envelope.epoch < epoch_of m.node) (has : HasPassed from (slot_of m) envelope [] v.links links) where
    abbrev was_net : Net
    was_net = net_of v.recorded v.links (above ++ m ∷ below)

    abbrev is_net : Net
    is_net = net_of v.recorded links (above ++ m ∷ below)

    unsent : (x y : ℕ) → links x y ≡ has.between x y
    unsent x y = elim (cases_eq x (slot_of m)) [
      | inl here ↦ subst (λ k. links k y ≡ has.between k y) (sym here) (has.sends.its y ∙ append-nil (has.between (slot_of m) y))
      | inr other ↦ has.sends.others x y other
    ]

    order_drops : (s : State) (line : List Kept) (backed : ℕ) → StandsWith size (with_members v (above ++ m ∷ below)) s line backed → hops_of is_net ≡ hops_of was_net
    order_drops s line backed stands = by (passed_in envelope.message) refl
      where
        node : was_net.nodes (slot_of m) ≡ node_of m.node
        node = node_here above m below stands.slots

        by : (ms : List replicas.Message) → passed_in envelope.message ≡ ms → hops_of is_net ≡ hops_of was_net
        by [] none = hops_same was_net is_net refl refl (λ x. refl) (λ x y. same x y)
          where
            same : (x y : ℕ) → is_net.links x y ≡ was_net.links x y
            same x y = ap passed_on (unsent x y) ∙ elim (cases_eq x from) [
              | inl here ↦ elim (cases_eq y (slot_of m)) [
                | inl there ↦ subst (λ k. passed_on (has.between k y) ≡ passed_on (v.links k y)) (sym here) (subst (λ k. passed_on (has.between from k) ≡ passed_on (v.links from k)) (sym there)
                    (sym (ap passed_on has.taken.first ∙ ap (λ (l : List replicas.Message). map (λ x. record { epoch = envelope.epoch; message = x }) l ++ passed_on (has.between from (slot_of m))) none)))
                | inr apart ↦ ap passed_on (has.taken.others x y (λ same. apart))
              ]
              | inr apart ↦ ap passed_on (has.taken.others x y (λ same. absurd (apart same)))
            ]
        by (k ∷ []) one = drop_shows was_net is_net from (slot_of m) (record {
          dropped = record { epoch = envelope.epoch; message = k };
          old = subst (λ n. envelope.epoch < n.epoch) (sym node) old_one;
          epoch = refl;
          chain = refl;
          nodes = λ x. refl;
          front = ap passed_on has.taken.first ∙ ap (λ (l : List replicas.Message). map (λ x. record { epoch = envelope.epoch; message = x }) l ++ passed_on (has.between from (slot_of m))) one
              ∙ ap (λ l. record { epoch = envelope.epoch; message = k } ∷ passed_on l) (sym (unsent from (slot_of m)));
          to_it = λ x apart. ap passed_on (unsent x (slot_of m) ∙ has.taken.others x (slot_of m) (λ same. absurd (apart same)));
          links = λ x y apart. ap passed_on (unsent x y ∙ has.taken.others x y (λ same. apart));
        }) (subst (λ n. n.epoch ≤ v.recorded.epoch) (sym node) (its_told s line backed stands).within)
        by (k ∷ j ∷ ms) more = absurd (one_at_most envelope.message k j ms more)
          where
            one_at_most : (message : Message) (k j : replicas.Message) (ms : List replicas.Message) → passed_in message ≡ k ∷ j ∷ ms → ⊥
            one_at_most (messages.Put n origin write) k j ms is = cc
            one_at_most (messages.Ack front) k j ms is = cc
            one_at_most (messages.Turn applied) k j ms is = cc
            one_at_most (messages.Submit ticket write) k j ms is = cc

    pub drops_old : Plays size (MembersStand size (with_members v (above ++ m ∷ below))) (MembersStand size (record v { members = above ++ m ∷ below; links = links })) []
    drops_old = links_change size v above m below links (λ s line backed stands. (
      subst (InOrder v.told.front line) (sym (order_drops s line backed stands)) (stands.order, stands.holders),
      linked_passed v.recorded v.before v.told.front from (slot_of m) envelope [] v.links links v.submits has (λ to. All-nil (IsProper v.recorded v.before v.told.front (slot_of m) to)) stands.links,
    ))

  -- ---- of its epoch

  module _ (now : envelope.epoch ≡ epoch_of m.node) where
    -- it takes a Put or a Turn, as whichever it then is
    takes : (g : Member) (place : g.node.place ≡ m.node.place) (sent : List Sent) (sends : List replicas.Message) → SendsDown m.node sent sends → (taken : replicas.Message) → passed_in envelope.message ≡ taken ∷ []
        → HasPassed from (slot_of m) envelope sent v.links links → (s : State) (line : List Kept) (backed : ℕ) → StandsWith size (with_members v (above ++ m ∷ below)) s line backed
        → IsAbove v.recorded v.before envelope.epoch from (slot_of m)
        → Takes (net_of v.recorded v.links (above ++ m ∷ below)) (net_of v.recorded links (above ++ g ∷ below)) (slot_of m) taken sends
    takes g place sent sends down taken one has s line backed stands is_above =
        takes_of v.recorded v.before above m g below stands.slots place v.links links sent sends down from envelope taken one now
        (comes_from v.recorded v.before (above ++ m ∷ below) m.node from stands.places (its_told s line backed stands) runs (subst (λ e. IsAbove v.recorded v.before e from (slot_of m)) now is_above)) has

    -- the member and its node in the net
    was_there : (g : Member) (place : g.node.place ≡ m.node.place) (s : State) (line : List Kept) (backed : ℕ) → StandsWith size (with_members v (above ++ m ∷ below)) s line backed
        → (net_of v.recorded v.links (above ++ m ∷ below)).nodes (slot_of m) ≡ node_of m.node
    was_there g place s line backed stands = was_node v.recorded v.before above m g below stands.slots place v.links links stands.places runs

    is_there : (g : Member) (place : g.node.place ≡ m.node.place) (s : State) (line : List Kept) (backed : ℕ) → StandsWith size (with_members v (above ++ m ∷ below)) s line backed
        → (net_of v.recorded links (above ++ g ∷ below)).nodes (slot_of m) ≡ node_of g.node
    is_there g place s line backed stands = is_node v.recorded v.before above m g below stands.slots place v.links links stands.places runs

    -- ---- a Put

    module _ (n : ℕ) (origin : Origin) (write : Placed) (is_put : envelope.message ≡ messages.Put n origin write) where
      abbrev entry : Kept
      entry = record { number = n; write = write; origin = origin }

      passed : passed_in envelope.message ≡ replicas.Put (record { number = n; write = write; origin = origin }) ∷ []
      passed = ap passed_in is_put

      above_it : (sent : List Sent) → HasPassed from (slot_of m) envelope sent v.links links → (s : State) (line : List Kept) (backed : ℕ) → StandsWith size (with_members v (above ++ m ∷ below)) s line backed
          → IsAbove v.recorded v.before envelope.epoch from (slot_of m)
      above_it sent has s line backed stands =
          let (within, belongs) = first_proper v.recorded v.before v.told.front from (slot_of m) envelope v.links has.between v.submits has.taken stands.links in
          subst (Belongs v.recorded v.before v.told.front envelope.epoch from (slot_of m)) is_put belongs

      -- it has it
      pub passes_put : n ≤ last_of m.node → HasPassed from (slot_of m) envelope [] v.links links
          → Plays size (MembersStand size (with_members v (above ++ m ∷ below))) (MembersStand size (record v { members = above ++ m ∷ below; links = links })) []
      passes_put has_it has = links_change size v above m below links (λ s line backed stands.
          let step = takes m refl [] [] (sends_nothing m.node) (replicas.Put entry) passed has s line backed stands (above_it [] has s line backed stands) in
          let was = was_there m refl s line backed stands in (
            order_delivers v.recorded v.before above m m below stands.slots refl v.links links stands.places runs v.told.front line (stands.order, stands.holders)
                (inl (record { number = n; write = write; origin = origin }, step, subst (λ (x : Node). n ≤ x.table.forgotten + length x.table.kept) (sym was) has_it, is_there m refl s line backed stands ∙ sym was)),
            linked_passed v.recorded v.before v.told.front from (slot_of m) envelope [] v.links links v.submits has (λ to. All-nil (IsProper v.recorded v.before v.told.front (slot_of m) to)) stands.links,
          ))

      -- it is the next one: it is applied, and sent on
      pub applies_put : n ≡ suc (last_of m.node) → HasPassed from (slot_of m) envelope (apply n origin write m.node).out.messages v.links links
          → Plays size (MembersStand size (with_members v (above ++ m ∷ below))) (MembersStand size (record v { members = above ++ record m { node = (apply n origin write m.node).node } ∷ below; links = links })) []
      applies_put follows has = changes size v above m (record m { node = (apply n origin write m.node).node }) below links v.submits []
          (λ s line backed stands.
          let g : Member = record m { node = (apply n origin write m.node).node } in
          let sends : List replicas.Message = if m.node.turned then replicas.Put (record { number = n; write = write; origin = origin }) ∷ [] else [] in
          let step = takes g refl (apply n origin write m.node).out.messages sends (sends_put n origin write m.node) (replicas.Put entry) passed has s line backed stands
          (above_it (apply n origin write m.node).out.messages has s line backed stands) in
          let was = was_there g refl s line backed stands in
          let fact = put_is v.recorded v.before above m g below stands.slots refl v.links links stands.places runs v.told.front line (stands.order, stands.holders) entry sends step in (
            line,
            backed,
            fits_most size v above m g below links v.submits [] s line backed stands (record {
              slot = refl;
              incarnation = refl;
              order = order_delivers v.recorded v.before above m g below stands.slots refl v.links links stands.places runs v.told.front line (stands.order, stands.holders)
                  (inr (inl (
                    record { number = n; write = write; origin = origin },
                    subst (λ (x : Node). Takes (net_of v.recorded v.links (above ++ m ∷ below)) (net_of v.recorded links (above ++ g ∷ below)) (slot_of m) (replicas.Put (record { number = n; write = write; origin = origin }))
                        (if x.turned then replicas.Put (record { number = n; write = write; origin = origin }) ∷ [] else [])) (sym was) step,
                    subst (λ (x : Node). n ≡ suc (x.table.forgotten + length x.table.kept)) (sym was) follows,
                    is_there g refl s line backed stands
                        ∙ ap (λ (x : Node). record x { table = record x.table { kept = x.table.kept ++ (record { number = n; write = write; origin = origin }) ∷ [] } }) (sym was),
                  )));
              volume = λ is. is;
              told = its_told s line backed stands;
              behind = λ late. late;
              linked = linked_passed v.recorded v.before v.told.front from (slot_of m) envelope (apply n origin write m.node).out.messages v.links links v.submits has (put_proper n origin write s line backed stands) stands.links;
              numbers = record { applied = told_applied n origin m.node (last_of (apply n origin write m.node).node) (omega (arith, follows, length_push m.node.table.kept entry)) (omega (arith, length_push m.node.table.kept entry)) (all_at HasApplied above m below stands.numbers).applied; none = λ stops. absurd (stops runs) };
              next = refl;
              disk = refl;
              raised = All-nil (λ front. front ≤ v.told.front);
              tokens = λ next all. tickets_learned backed (idle size v above m below line) m.node entry (flat_map tokens_of above) (flat_map tokens_of below) n next all;
              submitted = λ next all. all;
              clients = shows_stay size backed (were size v above m g below links v.submits [] line) (are size v above m g below links v.submits [] line)
                  (λ t is. learns_number backed (idle size v above m below line) m.node entry (flat_map tokens_of above) (flat_map tokens_of below) n fact.some fact.there t (it_drops_found size v above m below line backed t is));
            }),
          ))

      -- none is further ahead
      pub not_further : (g : Member) → g.node.place ≡ m.node.place → (sent : List Sent) (sends : List replicas.Message) → SendsDown m.node sent sends → HasPassed from (slot_of m) envelope sent v.links links
          → (s : State) → MembersStand size (with_members v (above ++ m ∷ below)) s → n ≤ suc (last_of m.node)
      not_further g place sent sends down has s (line, backed, stands) =
          let step = takes g place sent sends down (replicas.Put entry) passed has s line backed stands (above_it sent has s line backed stands) in
          (put_is v.recorded v.before above m g below stands.slots place v.links links stands.places runs v.told.front line (stands.order, stands.holders) entry sends step).near_it

    -- ---- a Turn

    module _ (last : ℕ) (is_turn : envelope.message ≡ messages.Turn last) where
      turn_passed : passed_in envelope.message ≡ replicas.Turn ∷ []
      turn_passed = ap passed_in is_turn

      turn_above : (sent : List Sent) → HasPassed from (slot_of m) envelope sent v.links links → (s : State) (line : List Kept) (backed : ℕ) → StandsWith size (with_members v (above ++ m ∷ below)) s line backed
          → IsAbove v.recorded v.before envelope.epoch from (slot_of m)
      turn_above sent has s line backed stands =
          let (within, belongs) = first_proper v.recorded v.before v.told.front from (slot_of m) envelope v.links has.between v.submits has.taken stands.links in
          subst (Belongs v.recorded v.before v.told.front envelope.epoch from (slot_of m)) is_turn belongs

      -- a second one is passed over
      pub passes_turn : m.node.turned ≡ true → HasPassed from (slot_of m) envelope [] v.links links
          → Plays size (MembersStand size (with_members v (above ++ m ∷ below))) (MembersStand size (record v { members = above ++ m ∷ below; links = links })) []
      passes_turn turned has = links_change size v above m below links (λ s line backed stands. (
        order_passes_turn v.recorded v.before above m m below stands.slots refl v.links links stands.places runs v.told.front line (stands.order, stands.holders)
            (takes m refl [] [] (sends_nothing m.node) replicas.Turn turn_passed has s line backed stands (turn_above [] has s line backed stands)) refl turned,
        linked_passed v.recorded v.before v.told.front from (slot_of m) envelope [] v.links links v.submits has (λ to. All-nil (IsProper v.recorded v.before v.told.front (slot_of m) to)) stands.links,
      ))

      -- the first one: writes of an older epoch that have no number are refused, and what it doesn't know to be committed is sent again
      pub takes_turn : (events : List ClientEvent) → m.node.turned ≡ false → HasPassed from (slot_of m) envelope (turn m.node).out.messages v.links links → ArePutOut (turn m.node).out.replies events
          → Plays size (MembersStand size (with_members v (above ++ m ∷ below))) (MembersStand size (record v { members = above ++ record m { node = (turn m.node).node } ∷ below; links = links })) events
      takes_turn events unturned has out = changes size v above m (record m { node = (turn m.node).node }) below links v.submits events
          (λ s line backed stands.
          let g : Member = record m { node = (turn m.node).node } in
          let was = was_there g refl s line backed stands in
          let step = takes g refl (turn m.node).out.messages (sent_again (node_of m.node)) (sends_turn m.node) replicas.Turn turn_passed has s line backed stands (turn_above (turn m.node).out.messages has s line backed stands) in (
            line,
            backed,
            fits_most size v above m g below links v.submits events s line backed stands (record {
              slot = refl;
              incarnation = refl;
              order = order_delivers v.recorded v.before above m g below stands.slots refl v.links links stands.places runs v.told.front line (stands.order, stands.holders)
                  (inr (inr (
                    subst (λ (x : Node). Takes (net_of v.recorded v.links (above ++ m ∷ below)) (net_of v.recorded links (above ++ g ∷ below)) (slot_of m) replicas.Turn (sent_again x)) (sym was) step,
                    ap (λ (x : Node). x.turned) was ∙ unturned,
                    is_there g refl s line backed stands ∙ ap (λ (x : Node). record x { turned = true }) (sym was),
                  )));
              volume = λ is. is;
              told = its_told s line backed stands;
              behind = λ late. late;
              linked = linked_passed v.recorded v.before v.told.front from (slot_of m) envelope (turn m.node).out.messages v.links links v.submits has (again_proper s line backed stands) stands.links;
              numbers = record { applied = applied_left (last_of m.node) (λ w. not (is_outdated (epoch_of m.node) w)) m.node.waiting (all_at HasApplied above m below stands.numbers).applied; none = λ stops. absurd (stops runs) };
              next = refl;
              disk = refl;
              raised = All-nil (λ front. front ≤ v.told.front);
              tokens = λ next all. tokens_left m.node (is_outdated (epoch_of m.node)) next m.node.waiting all;
              submitted = λ next all. all;
              clients = stays_then size backed (were size v above m g below links v.submits events line) (idle size v above m below line) (are size v above m g below links v.submits events line) events
                  (it_drops_found size v above m below line backed)
                  (refuses_those size backed (idle size v above m below line) m.node (is_outdated (epoch_of m.node)) m.node.waiting (flat_map tokens_of above) (flat_map tokens_of below) events out);
            }),
          ))
