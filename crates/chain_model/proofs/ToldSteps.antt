-- How a member that is told the recorded chain keeps what its chain stands for: lemmas.
use Rattle.std.proofs.Common.{◌≡◌, ◌≢◌, ℕ, ◌<◌, ◌≤◌, Bool, true, false, Option, Some, None, List, [], ◌∷◌, ◌++◌, get_or, length, map, take, refl, sym, ◌∙◌, ap, subst, inl, inr, arith}
use Rattle.std.specs.Prelude.{All, AllPairs, is_some, nat_le, not}
use Rattle.std.specs.List.{flat_map}
use Rattle.std.proofs.lemmas.Bool.{cases_Bool, cases_eq, cond-false, cond-true}
use Rattle.std.proofs.lemmas.Bool.Decides.{nat_tests}
use Rattle.std.proofs.lemmas.List.{append-nil, append_assoc, length-append, take-append-le}
use Rattle.std.proofs.lemmas.Option.{same_Some}
use Rattle.std.proofs.lemmas.List.Concat.{flat_map-append}
use Rattle.std.proofs.lemmas.List.Elements.{All-append, All-cons, All-head, All-nil, All-tail, All-weaker}
use Rattle.configurations.specs.Record.{Record}
use Rattle.configurations.specs.declared.member.Member as recorded
use Rattle.version_table.specs.declared.kept.Kept.{Kept}
use Rattle.version_table.specs.declared.kept.Origin.{Origin}
use Rattle.chain_steps.specs.Node.{NodeState, Refused, Stepped, Taken, epoch_of, is_stopped, last_of}
use Rattle.chain_steps.specs.Place.{head_of, is_head, is_of, is_tail, predecessor_of, successor_of}
use Rattle.chain_steps.specs.Steps.{placed, silent, starts, told, turn}
use Rattle.chain_steps.specs.Waiting.{is_outdated}
use Rattle.chain_steps.specs.declared.cause.Cause.{Cause}
use Rattle.chain_steps.specs.declared.message.Envelope.{Envelope}
use Rattle.chain_steps.specs.declared.waiting.Waiting.{Waiting}
use Rattle.world_model.specs.Backing.{Disk, IsBacked}
use Rattle.world_model.specs.Chain.{AreBefore, ArePutOut, IsBefore, IsTokenBefore, at_member, owing_at}
use Rattle.world_model.proofs.Counting.{all_at, all_before, all_between, flat_same, maps_same}
use Rattle.world_model.specs.Event.{ClientEvent}
use Rattle.world_model.proofs.MemberSteps.{drops_found, stays_then, tokens_left}
use Rattle.chain_model.proofs.Incarnations.{is_itself}
use Rattle.chain_model.proofs.InOrder.{InOrder, head_told_in_order, told_in_order}
use Rattle.chain_model.proofs.LinkSteps.{head_learn_shows, learn_shows}
use Rattle.chain_model.specs.Links.{Learns, Net, Node, Works, first_of, hops_of, is_end, sent_again}
use Rattle.world_model.specs.Machine.{Plays, State}
use Rattle.world_model.specs.Order.{volume_after}
use Rattle.chain_model.specs.Placed.{Apart}
use Rattle.world_model.specs.Requests.{Requests}
use Rattle.world_model.specs.Requests as requests
use Rattle.world_model.proofs.Standing.{Stays, shows_stay}
use Rattle.chain_model.specs.Turning.{Begins, Stands}
use Rattle.chain_model.specs.TurningSteps.{HeadIsTold}
use Rattle.chain_model.proofs.Answering.{applied_left, refuses_those}
use Rattle.chain_model.specs.Chain.{ArePlaced, HasApplied, HasVolume, IsApplied, IsIfThere, IsTold, MembersStand, StandsWith}
use Rattle.chain_model.proofs.Changing.{all_changed, are, around, changes, places_changed, requests_split, were}
use Rattle.chain_model.specs.Laws.{HasSent, TellsMember, with_members}
use Rattle.chain_model.proofs.LineSteps.{shrinks}
use Rattle.chain_model.proofs.Linking.{IsProper, linked_sent}
use Rattle.chain_model.proofs.MemberSteps.{idle, it_drops_found}
use Rattle.chain_model.proofs.MessageSteps.{runs_on, same_step}
use Rattle.chain_model.proofs.NetSteps.{Among, Reach, among, hops_same, node_here, node_there, reach_of}
use Rattle.chain_model.proofs.Ordering.{apart_from, works_of}
use Rattle.chain_model.proofs.PassingSteps.{fits_most, links_change}
use Rattle.chain_model.proofs.PlaceSteps.{head_is_head, is_among, is_head_first, placed_behind, placed_first}
use Rattle.chain_model.proofs.PutSteps.{again_belongs, more_applied, sends_turn}
use Rattle.chain_model.specs.View.{Member, View, chain_of, disk_in, looked_of, net_of, next_of, node_of, passed_on, slot_of, slots_of, submitted_among, tokens_of}

-- ---- lists

-- a list that isn't empty has a last element
last_of_list : (x : ℕ) (xs : List ℕ) → (us : List ℕ) × (p : ℕ) × (x ∷ xs ≡ us ++ p ∷ [])
last_of_list x [] = ([], x, refl)
last_of_list x (y ∷ xs) = let (us, p, is) = last_of_list y xs in (x ∷ us, p, ap (λ l. x ∷ l) is)

-- no other slot of a chain is this one
others_of : (us : List ℕ) (s : ℕ) (vs : List ℕ) → Apart (us ++ s ∷ vs) → All (λ x. x ≢ s) (us ++ vs)
others_of [] s vs (others, apart) = others
others_of (u ∷ us) s vs (others, apart) = All-cons (λ x. x ≢ s) u (us ++ vs) (λ same. all_at (λ x. x ≢ u) us s vs others (sym same)) (others_of us s vs apart)

-- ---- who is told

module _ (size : ℕ) (v : View) (above : List Member) (m : Member) (below : List Member) (runs : m.node.stopped ≡ None) (later : epoch_of m.node < v.recorded.epoch) (links : ℕ → ℕ → List Envelope) where
  abbrev was_net : Net
  was_net = net_of v.recorded v.links (above ++ m ∷ below)

  module _ (s : State) (line : List Kept) (backed : ℕ) (stands : StandsWith size (with_members v (above ++ m ∷ below)) s line backed) where
    was_told : IsTold v.recorded v.before m.node
    was_told = all_at (λ x. IsTold v.recorded v.before x.node) above m below stands.places.told

    pub is_told : IsTold v.recorded v.before (placed v.recorded m.node)
    is_told = record {
      within = omega arith;
      now = λ same. refl;
      old = λ before. absurd (omega (arith, before));
      near = λ still. omega arith;
      there = λ still. was_told.there runs;
      itself = λ still. subst (IsIfThere m.node.incarnation) (sym (was_told.there runs)) (is_itself m.node.incarnation);
    }

    pub places_then : ArePlaced v.recorded v.before (above ++ record m { node = placed v.recorded m.node } ∷ below)
    places_then = places_changed v.recorded v.before above m (record m { node = placed v.recorded m.node }) below refl is_told (λ (still, late). absurd (omega (arith, late))) stands.places

    slots_then : AllPairs (λ slot other. slot ≢ other) (slots_of (above ++ record m { node = placed v.recorded m.node } ∷ below))
    slots_then = subst (AllPairs (λ slot other. slot ≢ other)) (sym (maps_same slot_of above m (record m { node = placed v.recorded m.node }) below refl)) stands.slots

    its_place : Among v.recorded v.links (above ++ record m { node = placed v.recorded m.node } ∷ below) (record m { node = placed v.recorded m.node })
    its_place = among v.recorded v.before v.links above (record m { node = placed v.recorded m.node }) below places_then slots_then runs

    -- in the net it learns the chain, at its place there
    learns : (prev : Option ℕ) (vs : List ℕ) → predecessor_of (record { slot = m.node.place.slot; chain = v.recorded }) ≡ prev → successor_of (record { slot = m.node.place.slot; chain = v.recorded }) ≡ first_of vs
        → is_tail (record { slot = m.node.place.slot; chain = v.recorded }) ≡ is_end vs → (new_links : ℕ → ℕ → List Envelope) → ((x y : ℕ) → new_links x y ≡ v.links x y)
        → Learns (net_of v.recorded v.links (above ++ m ∷ below)) (net_of v.recorded new_links (above ++ record m { node = placed v.recorded m.node } ∷ below)) prev (slot_of m) vs
    learns prev vs up down ends new_links same = record {
      epoch = refl;
      chain = refl;
      links = λ x y. ap passed_on (same x y);
      nodes = λ x other. node_there above m (record m { node = placed v.recorded m.node }) below x refl other;
      runs = ap (λ (n : Node). n.stopped) was ∙ ap is_some runs;
      untold = subst (λ (n : Node). n.epoch < v.recorded.epoch) (sym was) later;
      node = node_here above (record m { node = placed v.recorded m.node }) below slots_then ∙ nodes prev (first_of vs) (is_end vs) up down ends
          ∙ ap (λ (n : Node). record n { epoch = v.recorded.epoch; turned = false; above = prev; below = first_of vs; ends = is_end vs; holds = false }) (sym was);
    }
      where
        was : was_net.nodes (slot_of m) ≡ node_of m.node
        was = node_here above m below stands.slots

        nodes : (one other : Option ℕ) (end : Bool) → predecessor_of (record { slot = m.node.place.slot; chain = v.recorded }) ≡ one → successor_of (record { slot = m.node.place.slot; chain = v.recorded }) ≡ other
            → is_tail (record { slot = m.node.place.slot; chain = v.recorded }) ≡ end
            → node_of (placed v.recorded m.node) ≡ record (node_of m.node) { epoch = v.recorded.epoch; turned = false; above = one; below = other; ends = end; holds = false }
        nodes one other end is_one is_other is_end_so =
            let make = λ (up down : Option ℕ) (e : Bool). let n : Node = record (node_of m.node) { epoch = v.recorded.epoch; turned = false; above = up; below = down; ends = e; holds = false } in n in
            ap (λ o. make o (successor_of (record { slot = m.node.place.slot; chain = v.recorded })) (is_tail (record { slot = m.node.place.slot; chain = v.recorded }))) is_one
            ∙ ap (λ o. make one o (is_tail (record { slot = m.node.place.slot; chain = v.recorded }))) is_other ∙ ap (make one other) is_end_so

    -- ---- one that isn't the head

    order_told : is_head (record { slot = m.node.place.slot; chain = v.recorded }) ≡ false → ((x y : ℕ) → links x y ≡ v.links x y)
        → InOrder v.told.front line (hops_of (net_of v.recorded links (above ++ record m { node = placed v.recorded m.node } ∷ below)))
    order_told other same = by its_place.us its_place.chain
      where
        by : (us : List ℕ) → chain_of v.recorded ≡ us ++ slot_of m ∷ its_place.vs → InOrder v.told.front line (hops_of (net_of v.recorded links (above ++ record m { node = placed v.recorded m.node } ∷ below)))
        by [] first =
            let head = head_is_head v.recorded (slot_of m) (chain_head v.recorded.members first) in
            let no : true ≡ false = sym head ∙ other in absurd cc
          where
            chain_head : (ms : List recorded.Member) → map (λ x. x.slot) ms ≡ slot_of m ∷ its_place.vs → head_of (record { epoch = v.recorded.epoch; members = ms }) ≡ Some (slot_of m)
            chain_head [] is = absurd cc
            chain_head (x ∷ xs) is = ap first_of is
        by (x ∷ xs) chain =
            let (us, p, split) = last_of_list x xs in
            let whole : chain_of v.recorded ≡ us ++ p ∷ slot_of m ∷ its_place.vs = chain ∙ ap (λ l. l ++ slot_of m ∷ its_place.vs) split ∙ append_assoc us (p ∷ []) (slot_of m ∷ its_place.vs) in
            let (up, down, ends) = placed_behind v.recorded us p (slot_of m) its_place.vs stands.places.apart whole in
            let split_other : (us ++ p ∷ []) ++ slot_of m ∷ its_place.vs ≡ us ++ p ∷ slot_of m ∷ its_place.vs = append_assoc us (p ∷ []) (slot_of m ∷ its_place.vs) in
            let others = others_of (us ++ p ∷ []) (slot_of m) its_place.vs (subst Apart (whole ∙ sym split_other) stands.places.apart) in
            told_in_order v.told.front (length us) line (hops_of was_net) (hops_of (net_of v.recorded links (above ++ record m { node = placed v.recorded m.node } ∷ below))) (stands.order, stands.holders)
            (learn_shows was_net (net_of v.recorded links (above ++ record m { node = placed v.recorded m.node } ∷ below)) us its_place.vs p (slot_of m) (learns (Some p) its_place.vs up down ends links same) whole
            (subst (All (λ y. y ≢ slot_of m)) (append_assoc us (p ∷ []) its_place.vs) others))

    -- ---- the head

    abbrev c : Net
    c = net_of v.recorded v.links (above ++ record m { node = placed v.recorded m.node } ∷ below)

    abbrev b : Net
    b = net_of v.recorded links (above ++ record m { node = (turn (placed v.recorded m.node)).node } ∷ below)

    order_head : is_head (record { slot = m.node.place.slot; chain = v.recorded }) ≡ true → HasSent (slot_of m) (turn (placed v.recorded m.node)).out.messages v.links links
        → (shorter : List Kept) × Begins shorter line × InOrder v.told.front shorter (hops_of (net_of v.recorded links (above ++ record m { node = (turn (placed v.recorded m.node)).node } ∷ below)))
    order_head head has = by its_place.us its_place.chain
      where
        was : was_net.nodes (slot_of m) ≡ node_of m.node
        was = node_here above m below stands.slots

        first : (ms : List recorded.Member) (x : ℕ) (xs : List ℕ) → map (λ y. y.slot) ms ≡ x ∷ xs → head_of (record { epoch = v.recorded.epoch; members = ms }) ≡ Some x
        first [] x xs is = absurd cc
        first (y ∷ ys) x xs is = ap first_of is

        by : (us : List ℕ) → chain_of v.recorded ≡ us ++ slot_of m ∷ its_place.vs
            → (shorter : List Kept) × Begins shorter line × InOrder v.told.front shorter (hops_of (net_of v.recorded links (above ++ record m { node = (turn (placed v.recorded m.node)).node } ∷ below)))
        by (x ∷ xs) chain =
            let here : Some x ≡ Some (slot_of m) = sym (first v.recorded.members x (xs ++ slot_of m ∷ its_place.vs) chain) ∙ is_head_first v.recorded (slot_of m) head in
            let (others, rest) = subst Apart chain stands.places.apart in
            absurd (all_at (λ k. k ≢ x) xs (slot_of m) its_place.vs others (sym (same_Some x (slot_of m) here)))
        by [] chain =
            let (up, down, ends) = placed_first v.recorded (slot_of m) its_place.vs stands.places.apart chain in
            let works = works_of v.recorded v.before above (record m { node = placed v.recorded m.node }) (record m { node = (turn (placed v.recorded m.node)).node }) below slots_then refl v.links links
            (turn (placed v.recorded m.node)).out.messages (sent_again (node_of (placed v.recorded m.node))) (sends_turn (placed v.recorded m.node))
            (apart_from v.recorded v.before above (record m { node = placed v.recorded m.node }) (record m { node = (turn (placed v.recorded m.node)).node }) below slots_then refl v.links links places_then runs) has in
            let there : c.nodes (slot_of m) ≡ node_of (placed v.recorded m.node) = node_here above (record m { node = placed v.recorded m.node }) below slots_then in
            let slots_last = subst (AllPairs (λ slot other. slot ≢ other)) (sym (maps_same slot_of above m (record m { node = (turn (placed v.recorded m.node)).node }) below refl)) stands.slots in
            let told_so : HeadIsTold (hops_of was_net) (hops_of b) =
            head_learn_shows was_net b c (slot_of m) its_place.vs (learns None its_place.vs up down ends v.links (λ x y. refl)) chain (others_of [] (slot_of m) its_place.vs (subst Apart chain stands.places.apart)) its_place.below_suit
            (subst (λ (n : Node). Works c b (slot_of m) (sent_again n)) (sym was) works)
            (node_here above (record m { node = (turn (placed v.recorded m.node)).node }) below slots_last ∙ ap (λ (n : Node). record n { turned = true }) (sym there)) in
            head_told_in_order v.told.front line (hops_of was_net) (hops_of b) (stands.order, stands.holders) told_so

-- ---- what is told of each member

for_each : (P : Member → Type 0) (pre ms : List Member) → ((us : List Member) (x : Member) (vs : List Member) → pre ++ ms ≡ us ++ x ∷ vs → P x) → All P ms
for_each P pre [] each = All-nil P
for_each P pre (x ∷ ms) each =
    All-cons P x ms (each pre x ms refl) (for_each P (pre ++ x ∷ []) ms (λ us y vs is. each us y vs (sym (append_assoc pre (x ∷ []) ms) ∙ is)))

owing_all : (n : ℕ) (node : NodeState) (ws : List Waiting) → All (IsApplied n) ws → All (λ o. IsApplied n o.token) (owing_at node ws)
owing_all n node [] all = All-nil (λ o. IsApplied n o.token)
owing_all n node (w ∷ ws) all = All-cons (λ o. IsApplied n o.token) (at_member node w) (owing_at node ws) (All-head (IsApplied n) w ws all) (owing_all n node ws (All-tail (IsApplied n) w ws all))

flat_owing : (n : ℕ) (ms : List Member) → All (λ x. All (IsApplied n) x.node.waiting) ms → All (λ o. IsApplied n o.token) (flat_map tokens_of ms)
flat_owing n [] all = All-nil (λ o. IsApplied n o.token)
flat_owing n (m ∷ ms) all =
    All-append (λ o. IsApplied n o.token) (tokens_of m) (flat_map tokens_of ms) (owing_all n m.node m.node.waiting (All-head (λ x. All (IsApplied n) x.node.waiting) m ms all)) (flat_owing n ms (All-tail (λ x. All (IsApplied n) x.node.waiting) m ms all))

-- a member that runs has no more than the line
abbrev IsWithin : ℕ → Member → Type 0
IsWithin n x = x.node.stopped ≡ None → last_of x.node ≤ n

within_line : (recorded before : Record) (links : ℕ → ℕ → List Envelope) (ms : List Member) (front : ℕ) (line : List Kept) → ArePlaced recorded before ms → AllPairs (λ slot other. slot ≢ other) (slots_of ms)
    → Stands front line (hops_of (net_of recorded links ms)) → All (IsWithin (length line)) ms
within_line recorded before links ms front line places slots stands = for_each (IsWithin (length line)) [] ms (λ us x vs is runs.
    let told : IsTold recorded before x.node = all_at (λ y. IsTold recorded before y.node) us x vs (subst (All (λ y. IsTold recorded before y.node)) is places.told) in
    let reach : Reach front line x.node = reach_of recorded links us x vs front line (subst (λ l. AllPairs (λ slot other. slot ≢ other) (slots_of l)) is slots) (is_among recorded (slot_of x) x.node.incarnation (told.there runs))
    (subst (λ l. Stands front line (hops_of (net_of recorded links l))) is stands) in
    let (rest, whole) = reach.begins in
    omega (arith, length-append reach.done x.node.table.kept, ap length reach.own_is, reach.durable, length-append reach.own rest, ap length whole))

-- so have its tokens
tokens_within : (n : ℕ) (x : Member) → HasApplied x → IsWithin n x → All (IsApplied n) x.node.waiting
tokens_within n x has within = by x.node.stopped refl
  where
    by : (o : Option Cause) → x.node.stopped ≡ o → All (IsApplied n) x.node.waiting
    by None runs = All-weaker (IsApplied (last_of x.node)) (IsApplied n) (more_applied (last_of x.node) n (within runs)) x.node.waiting has.applied
    by (Some cause) stops = All-weaker (IsApplied 0) (IsApplied n) (more_applied 0 n (omega arith)) x.node.waiting (has.none (λ runs. let no : None ≡ Some cause = sym runs ∙ stops in cc))

-- ---- the step

module _ (size : ℕ) (v : View) (above : List Member) (m : Member) (below : List Member) (links : ℕ → ℕ → List Envelope) (events : List ClientEvent) where
  -- with this step, clients see the events
  abbrev IsGood : Stepped → Type 0
  IsGood stepped = HasSent (slot_of m) stepped.out.messages v.links links → ArePutOut stepped.out.replies events
      → Plays size (MembersStand size (with_members v (above ++ m ∷ below))) (MembersStand size (record v { members = above ++ record m { node = stepped.node } ∷ below; links = links })) events

  same_links : HasSent (slot_of m) [] v.links links → (x y : ℕ) → links x y ≡ v.links x y
  same_links has x y = elim (cases_eq x (slot_of m)) [
    | inl here ↦ subst (λ k. links k y ≡ v.links k y) (sym here) (has.its y ∙ append-nil (v.links (slot_of m) y))
    | inr other ↦ has.others x y other
  ]

  -- it was told already
  nothing_new : IsGood (silent m.node)
  nothing_new has out =
      subst (Plays size (MembersStand size (with_members v (above ++ m ∷ below))) (MembersStand size (record v { members = above ++ m ∷ below; links = links }))) (sym out)
      (links_change size v above m below links (λ s line backed stands. (
        subst (InOrder v.told.front line) (sym (hops_same (net_of v.recorded v.links (above ++ m ∷ below)) (net_of v.recorded links (above ++ m ∷ below)) refl refl (λ x. refl) (λ x y. ap passed_on (same_links has x y)))) (stands.order, stands.holders),
        linked_sent v.recorded v.before v.told.front (slot_of m) [] v.links links v.submits has (λ to. All-nil (IsProper v.recorded v.before v.told.front (slot_of m) to)) stands.links,
      )))

  module _ (runs : m.node.stopped ≡ None) (later : epoch_of m.node < v.recorded.epoch) where
    -- one below the head waits for the Turn
    below_told : is_head (record { slot = m.node.place.slot; chain = v.recorded }) ≡ false → IsGood (silent (placed v.recorded m.node))
    below_told other has out =
        subst (Plays size (MembersStand size (with_members v (above ++ m ∷ below))) (MembersStand size (record v { members = above ++ record m { node = placed v.recorded m.node } ∷ below; links = links }))) (sym out)
        (changes size v above m (record m { node = placed v.recorded m.node }) below links v.submits []
        (λ s line backed stands. (
          line,
          backed,
          fits_most size v above m (record m { node = placed v.recorded m.node }) below links v.submits [] s line backed stands (record {
            slot = refl;
            incarnation = refl;
            order = order_told size v above m below runs later links s line backed stands other (same_links has);
            volume = λ is. is;
            told = is_told size v above m below runs later links s line backed stands;
            behind = λ (still, late). absurd (omega (arith, late));
            linked = linked_sent v.recorded v.before v.told.front (slot_of m) [] v.links links v.submits has (λ to. All-nil (IsProper v.recorded v.before v.told.front (slot_of m) to)) stands.links;
            numbers = all_at HasApplied above m below stands.numbers;
            next = refl;
            disk = refl;
            raised = All-nil (λ front. front ≤ v.told.front);
            tokens = λ next all. all;
            submitted = λ next all. all;
            clients = shows_stay size backed (were size v above m (record m { node = placed v.recorded m.node }) below links v.submits [] line) (idle size v above m below line) (it_drops_found size v above m below line backed);
          }),
        )))

    -- the head loses what the one before it numbered and it never had; it sends again
    head_told : is_head (record { slot = m.node.place.slot; chain = v.recorded }) ≡ true → IsGood (turn (placed v.recorded m.node))
    head_told head has out = changes size v above m (record m { node = (turn (placed v.recorded m.node)).node }) below links v.submits events
        (λ s line backed stands.
        let g : Member = record m { node = (turn (placed v.recorded m.node)).node } in
        let told_it = is_told size v above m below runs later links s line backed stands in
        let places = places_then size v above m below runs later links s line backed stands in
        let (shorter, begins, order) = order_head size v above m below runs later links s line backed stands head has in
        let places_last = places_changed v.recorded v.before above m g below refl told_it (λ (still, late). absurd (omega (arith, late))) stands.places in
        let slots_last = subst (AllPairs (λ slot other. slot ≢ other)) (sym (maps_same slot_of above m g below refl)) stands.slots in
        let (rest, whole) = begins in
        let within_new : All (IsWithin (length shorter)) (above ++ g ∷ below) = within_line v.recorded v.before links (above ++ g ∷ below) v.told.front shorter places_last slots_last order.0 in
        let within_old : All (IsWithin (length shorter)) (above ++ m ∷ below) = all_changed (IsWithin (length shorter)) above g m below (λ was. was) within_new in (
          shorter,
          backed,
          record {
            slot = refl;
            incarnation = refl;
            order = order;
            volumes = All-weaker (HasVolume size v.told.front line) (HasVolume size v.told.front shorter) (λ x is. shorter_volume line shorter rest whole order.0.within x is) (above ++ g ∷ below)
                (all_changed (HasVolume size v.told.front line) above m g below (λ is. is) stands.volumes);
            told = told_it;
            behind = λ (still, late). absurd (omega (arith, late));
            linked = linked_sent v.recorded v.before v.told.front (slot_of m) (turn (placed v.recorded m.node)).out.messages v.links links v.submits has
                (again_belongs v.recorded v.before v.told.front (above ++ record m { node = placed v.recorded m.node } ∷ below) (placed v.recorded m.node) places told_it runs) stands.links;
            numbers = (
                let was : HasApplied m = all_at HasApplied above m below stands.numbers in
                record { applied = applied_left (last_of m.node) (λ w. not (is_outdated v.recorded.epoch w)) m.node.waiting was.applied; none = λ stops. absurd (stops runs) }
                );
            disks = subst (λ (ds : List Disk). IsBacked v.told.front v.told.mask v.told.gauges v.told.receipts v.told.musters ds) (sym (flat_same (disk_in v.recorded v.writing) above m g below refl)) stands.disks;
            backs = subst (All (λ d. backed ≤ d.durable)) (sym (flat_same (disk_in v.recorded v.writing) above m g below refl)) stands.backs;
            raised = All-nil (λ front. front ≤ v.told.front);
            tickets = subst (All (AreBefore (are size v above m g below links v.submits events shorter))) (sym (maps_same next_of above m g below refl))
                (All-weaker (AreBefore (were size v above m g below links v.submits events line)) (AreBefore (are size v above m g below links v.submits events shorter)) (tickets_then line shorter rest whole) (map next_of (above ++ m ∷ below))
                (subst (λ (r : Requests). All (AreBefore r) (map next_of (above ++ m ∷ below))) (requests_split v line above m below) stands.tickets));
            origins = all_before (λ k. k.origin.incarnation ≤ v.youngest) shorter rest (subst (All (λ k. k.origin.incarnation ≤ v.youngest)) (sym whole) stands.origins);
            clients = refused line shorter backed begins order.0.within (all_both (length shorter) (above ++ m ∷ below) stands.numbers within_old);
          },
        ))
      where
        shorter_volume : (line shorter rest : List Kept) → shorter ++ rest ≡ line → v.told.front ≤ length shorter → (x : Member) → HasVolume size v.told.front line x → HasVolume size v.told.front shorter x
        shorter_volume line shorter rest whole committed x is =
            record { committed = is.committed; is = is.is ∙ ap (volume_after size) (ap (take x.node.table.forgotten) (sym whole) ∙ take-append-le x.node.table.forgotten shorter rest (omega (arith, is.committed))) }

        tickets_then : (line shorter rest : List Kept) → shorter ++ rest ≡ line → (next : Origin) → AreBefore (were size v above m (record m { node = (turn (placed v.recorded m.node)).node }) below links v.submits events line) next
            → AreBefore (are size v above m (record m { node = (turn (placed v.recorded m.node)).node }) below links v.submits events shorter) next
        tickets_then line shorter rest whole next is = record {
          line = all_before (λ k. IsBefore next k.origin) shorter rest (subst (All (λ k. IsBefore next k.origin)) (sym whole) is.line);
          submits = is.submits;
          tokens = all_between (IsTokenBefore next) (flat_map tokens_of above) (flat_map tokens_of below) (tokens_of m) (tokens_of (record m { node = (turn (placed v.recorded m.node)).node }))
              (λ own. tokens_left m.node (is_outdated v.recorded.epoch) next m.node.waiting own) is.tokens;
        }

        all_both : (n : ℕ) (ms : List Member) → All HasApplied ms → All (IsWithin n) ms → All (λ x. All (IsApplied n) x.node.waiting) ms
        all_both n ms has within = λ i d lt. tokens_within n (get_or ms i d) (has i d lt) (within i d lt)

        refused : (line shorter : List Kept) (backed : ℕ) → Begins shorter line → v.told.front ≤ length shorter → All (λ x. All (IsApplied (length shorter)) x.node.waiting) (above ++ m ∷ below)
            → Plays size (requests.StandsFor backed (were size v above m (record m { node = (turn (placed v.recorded m.node)).node }) below links v.submits events line))
            (requests.StandsFor backed (are size v above m (record m { node = (turn (placed v.recorded m.node)).node }) below links v.submits events shorter)) events
        refused line shorter backed begins committed all =
            let whole : Requests = around v line (submitted_among v.recorded v.before v.submits (slots_of (above ++ m ∷ below))) above below m in
            let less : Requests = record whole { line = shorter } in
            let lost : Stays backed whole less = shrinks backed whole shorter begins committed (subst (All (λ o. IsApplied (length shorter) o.token)) (flat_map-append tokens_of above (m ∷ below)) (flat_owing (length shorter) (above ++ m ∷ below) all)) in
            let quiet : Stays backed whole (record less { looked = flat_map looked_of above ++ flat_map looked_of below }) =
            (λ t is. drops_found backed less m.node.place.slot m.node.found (flat_map looked_of above) (flat_map looked_of below) t (lost t is)) in
            stays_then size backed whole (record less { looked = flat_map looked_of above ++ flat_map looked_of below })
            (are size v above m (record m { node = (turn (placed v.recorded m.node)).node }) below links v.submits events shorter) events quiet
            (refuses_those size backed (record less { looked = flat_map looked_of above ++ flat_map looked_of below }) m.node (is_outdated v.recorded.epoch) m.node.waiting (flat_map tokens_of above) (flat_map tokens_of below) events out)

    told_now : (stepped : Stepped) → Taken (starts (placed v.recorded m.node)) ≡ Taken stepped → IsGood stepped
    told_now stepped taken = elim (cases_Bool (is_head (record { slot = m.node.place.slot; chain = v.recorded }))) [
      | inl head ↦
          let same : Taken (turn (placed v.recorded m.node)) ≡ Taken stepped =
          ap Taken (sym (cond-true (is_head (record { slot = m.node.place.slot; chain = v.recorded })) (turn (placed v.recorded m.node)) (silent (placed v.recorded m.node)) head)) ∙ taken in
          subst IsGood (same_step (turn (placed v.recorded m.node)) stepped same) (head_told head)
      | inr other ↦
          let same : Taken (silent (placed v.recorded m.node)) ≡ Taken stepped =
          ap Taken (sym (cond-false (is_head (record { slot = m.node.place.slot; chain = v.recorded })) (turn (placed v.recorded m.node)) (silent (placed v.recorded m.node)) other)) ∙ taken in
          subst IsGood (same_step (silent (placed v.recorded m.node)) stepped same) (below_told other)
    ]

  tells : (stepped : Stepped) → told v.recorded m.node ≡ Taken stepped → IsGood stepped
  tells stepped taken = elim (cases_Bool (is_stopped m.node)) [
    | inl stopped ↦ let no : Refused 154 ≡ Taken stepped = rw stopped at taken in absurd cc
    | inr running ↦ elim (cases_Bool (nat_le v.recorded.epoch (epoch_of m.node))) [
      | inl known ↦
          let same : Taken (silent m.node) ≡ Taken stepped = rw (running, known) at taken in
          subst IsGood (same_step (silent m.node) stepped same) nothing_new
      | inr new_one ↦ elim (cases_Bool (is_of (placed v.recorded m.node).place m.node.incarnation)) [
        | inl there ↦
            let same : Taken (starts (placed v.recorded m.node)) ≡ Taken stepped = rw (running, new_one, there) at taken in
            told_now (runs_on m.node.stopped running) (grind (arith, nat_tests)) stepped same
        | inr gone ↦ let no : Refused 151 ≡ Taken stepped = rw (running, new_one, gone) at taken in absurd cc
      ]
    ]
  ]

-- a member is told the recorded chain
pub tells_member : TellsMember
tells_member size v above m below stepped links events taken has out = tells size v above m below links events stepped taken has out
