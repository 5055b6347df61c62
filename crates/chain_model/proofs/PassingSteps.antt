-- How a step of a member that counts in the order, with what it takes from a link and sends, keeps what its chain stands for, where
-- the line stays: lemmas.
use Rattle.std.proofs.Common.{◌≡◌, ℕ, ◌≤◌, max, true, Some, None, List, [], ◌∷◌, ◌++◌, map, refl, sym, ap, subst, arith}
use Rattle.std.specs.Prelude.{All, filter, not}
use Rattle.std.specs.List.{flat_map}
use Rattle.std.proofs.lemmas.List.{append-nil}
use Rattle.std.proofs.lemmas.List.Elements.{All-nil, All-weaker}
use Rattle.flush_barrier.specs.declared.error_code.ErrorCode.TheVariants.{Io}
use Rattle.version_table.specs.declared.kept.Kept.{Kept}
use Rattle.version_table.specs.declared.kept.Origin.{Origin}
use Rattle.chain_steps.specs.Node.{last_of}
use Rattle.chain_steps.specs.Place.{predecessor_of}
use Rattle.chain_steps.specs.Steps.{know, stop}
use Rattle.chain_steps.specs.Waiting.{is_committed, reply_to}
use Rattle.chain_steps.specs.declared.cause.Cause.{Cause}
use Rattle.chain_steps.specs.declared.message.Envelope.{Envelope}
use Rattle.chain_steps.specs.declared.message.Message.TheVariants as messages
use Rattle.chain_steps.specs.declared.waiting.Waiting.{Waiting}
use Rattle.world_model.specs.Backing.{Disk, IsBacked}
use Rattle.world_model.specs.Chain.{AreBefore, ArePutOut, IsBefore, IsTokenBefore, owing_at}
use Rattle.world_model.proofs.Counting.{all_at, all_before, all_behind, all_between, flat_same, flat_split, maps_same}
use Rattle.world_model.specs.Event.{ClientEvent}
use Rattle.world_model.proofs.MemberSteps.{stays_then, tokens_left}
use Rattle.chain_model.proofs.InOrder.{InOrder}
use Rattle.chain_model.specs.Links.{Works, hops_of}
use Rattle.world_model.specs.Machine.{Plays, State}
use Rattle.world_model.specs.Requests.{Requests, Submitted}
use Rattle.world_model.specs.Requests as requests
use Rattle.world_model.proofs.Runs.{plays_nothing}
use Rattle.world_model.proofs.Standing.{Shows}
use Rattle.chain_model.proofs.Answering.{answers_committed, applied_left, refuses_those}
use Rattle.chain_model.specs.Chain.{AreLinked, HasApplied, HasVolume, IsBehind, IsTold, MembersStand, StandsWith}
use Rattle.chain_model.proofs.Changing.{Fits, all_changed, are, changes, requests_split, were}
use Rattle.chain_model.specs.Laws.{HasPassed, HasSent, sent_to, with_members}
use Rattle.chain_model.proofs.Linking.{IsProper, all_sent, linked_passed, linked_sent}
use Rattle.chain_model.proofs.MemberSteps.{idle, it_drops_found}
use Rattle.chain_model.proofs.NetSteps.{passed_acks}
use Rattle.chain_model.proofs.Ordering.{SendsDown, apart_from, order_learns, order_stops, passes_of, sends_nothing, works_of}
use Rattle.chain_model.specs.View.{Member, View, disk_in, net_of, next_of, node_of, raised_of, slot_of, slots_of, stamped_in, submitted_among, tokens_of}

-- nothing is sent
pub sends_none : (slot : ℕ) (links : ℕ → ℕ → List Envelope) → HasSent slot [] links links
sends_none slot links = record { others = λ from to other. refl; its = λ to. sym (append-nil (links slot to)) }

-- ---- what else has to hold, where the line stays

module _ (size : ℕ) (v : View) (above : List Member) (m g : Member) (below : List Member) (links submits : ℕ → ℕ → List Envelope) (events : List ClientEvent) where
  abbrev old_submits : List Submitted
  old_submits = submitted_among v.recorded v.before v.submits (slots_of (above ++ m ∷ below))

  abbrev new_submits : List Submitted
  new_submits = submitted_among v.recorded v.before submits (slots_of (above ++ m ∷ below))

  pub record FitsMost (line : List Kept) (backed : ℕ) : Type 0 where
    pub slot : slot_of g ≡ slot_of m
    pub incarnation : g.node.incarnation ≡ m.node.incarnation
    pub order : InOrder v.told.front line (hops_of (net_of v.recorded links (above ++ g ∷ below)))
    pub volume : HasVolume size v.told.front line m → HasVolume size v.told.front line g
    pub told : IsTold v.recorded v.before g.node
    pub behind : IsBehind v.recorded g.node → IsBehind v.recorded m.node
    pub linked : AreLinked v.recorded v.before v.told.front links submits
    pub numbers : HasApplied g
    pub next : next_of g ≡ next_of m
    pub disk : disk_in v.recorded v.writing g ≡ disk_in v.recorded v.writing m
    pub raised : All (λ front. front ≤ v.told.front) (raised_of g)
    pub tokens : (next : Origin) → All (IsTokenBefore next) (tokens_of m) → All (IsTokenBefore next) (tokens_of g)
    pub submitted : (next : Origin) → All (λ x. IsBefore next x.origin) (submitted_among v.recorded v.before v.submits (slots_of (above ++ m ∷ below)))
        → All (λ x. IsBefore next x.origin) (submitted_among v.recorded v.before submits (slots_of (above ++ m ∷ below)))
    pub clients : Plays size (requests.StandsFor backed (were size v above m g below links submits events line)) (requests.StandsFor backed (are size v above m g below links submits events line)) events

  pub fits_most : (s : State) (line : List Kept) (backed : ℕ) → StandsWith size (with_members v (above ++ m ∷ below)) s line backed → FitsMost line backed → Fits size v above m g below links submits events line line backed backed
  fits_most s line backed stands fit = record {
    slot = fit.slot;
    incarnation = fit.incarnation;
    order = fit.order;
    volumes = all_changed (HasVolume size v.told.front line) above m g below fit.volume stands.volumes;
    told = fit.told;
    behind = fit.behind;
    linked = fit.linked;
    numbers = fit.numbers;
    disks = subst (λ (ds : List Disk). IsBacked v.told.front v.told.mask v.told.gauges v.told.receipts v.told.musters ds) (sym (flat_same (disk_in v.recorded v.writing) above m g below fit.disk)) stands.disks;
    backs = subst (All (λ d. backed ≤ d.durable)) (sym (flat_same (disk_in v.recorded v.writing) above m g below fit.disk)) stands.backs;
    raised = fit.raised;
    tickets = subst (All (AreBefore (are size v above m g below links submits events line))) (sym (maps_same next_of above m g below fit.next))
        (All-weaker (AreBefore (were size v above m g below links submits events line)) (AreBefore (are size v above m g below links submits events line)) tickets_then (map next_of (above ++ m ∷ below))
        (subst (λ (r : Requests). All (AreBefore r) (map next_of (above ++ m ∷ below))) (requests_split v line above m below) stands.tickets));
    origins = stands.origins;
    clients = fit.clients;
  }
    where
      tickets_then : (next : Origin) → AreBefore (were size v above m g below links submits events line) next → AreBefore (are size v above m g below links submits events line) next
      tickets_then next is = record {
        line = is.line;
        submits = fit.submitted next is.submits;
        tokens = all_between (IsTokenBefore next) (flat_map tokens_of above) (flat_map tokens_of below) (tokens_of m) (tokens_of g) (fit.tokens next) is.tokens;
      }

-- the fronts that it raised and keeps are committed
pub its_raised : (size : ℕ) (v : View) (above : List Member) (m : Member) (below : List Member) (s : State) (line : List Kept) (backed : ℕ) → StandsWith size (with_members v (above ++ m ∷ below)) s line backed
    → All (λ front. front ≤ v.told.front) (raised_of m)
its_raised size v above m below s line backed stands =
    all_before (λ front. front ≤ v.told.front) (raised_of m) (flat_map raised_of below)
    (all_behind (λ front. front ≤ v.told.front) (flat_map raised_of above) (raised_of m ++ flat_map raised_of below)
    (subst (All (λ front. front ≤ v.told.front)) (flat_split raised_of above m below) stands.raised))

-- ---- only links change

-- the order with the new links, and what they carry, are all that is to be shown
pub links_change : (size : ℕ) (v : View) (above : List Member) (m : Member) (below : List Member) (links : ℕ → ℕ → List Envelope)
    → ((s : State) (line : List Kept) (backed : ℕ) → StandsWith size (with_members v (above ++ m ∷ below)) s line backed
    → InOrder v.told.front line (hops_of (net_of v.recorded links (above ++ m ∷ below))) × AreLinked v.recorded v.before v.told.front links v.submits)
    → Plays size (MembersStand size (with_members v (above ++ m ∷ below))) (MembersStand size (record v { members = above ++ m ∷ below; links = links })) []
links_change size v above m below links shown = changes size v above m m below links v.submits []
    (λ s line backed stands.
    let (order, linked) = shown s line backed stands in (
      line,
      backed,
      fits_most size v above m m below links v.submits [] s line backed stands (record {
        slot = refl;
        incarnation = refl;
        order = order;
        volume = λ is. is;
        told = all_at (λ x. IsTold v.recorded v.before x.node) above m below stands.places.told;
        behind = λ late. late;
        linked = linked;
        numbers = all_at HasApplied above m below stands.numbers;
        next = refl;
        disk = refl;
        raised = its_raised size v above m below s line backed stands;
        tokens = λ next all. all;
        submitted = λ next all. all;
        clients = plays_nothing size (requests.StandsFor backed (were size v above m m below links v.submits [] line));
      }),
    ))

-- ---- a member stops

module _ (size : ℕ) (v : View) (above : List Member) (m : Member) (below : List Member) (runs : m.node.stopped ≡ None) where
  its_told : (s : State) (line : List Kept) (backed : ℕ) → StandsWith size (with_members v (above ++ m ∷ below)) s line backed → IsTold v.recorded v.before m.node
  its_told s line backed stands = all_at (λ x. IsTold v.recorded v.before x.node) above m below stands.places.told

  pub stops : (cause : Cause) (events : List ClientEvent) → ArePutOut (stop cause m.node).out.replies events
      → Plays size (MembersStand size (with_members v (above ++ m ∷ below))) (MembersStand size (with_members v (above ++ record m { node = (stop cause m.node).node } ∷ below))) events
  stops cause events out = changes size v above m (record m { node = (stop cause m.node).node }) below v.links v.submits events
      (λ s line backed stands. (
        line,
        backed,
        fits_most size v above m (record m { node = (stop cause m.node).node }) below v.links v.submits events s line backed stands (record {
          slot = refl;
          incarnation = refl;
          order = order_stops v.recorded v.before above m (record m { node = (stop cause m.node).node }) below stands.slots refl v.links v.links stands.places runs v.told.front line
              (works_of v.recorded v.before above m (record m { node = (stop cause m.node).node }) below stands.slots refl v.links v.links [] [] (sends_nothing m.node)
              (apart_from v.recorded v.before above m (record m { node = (stop cause m.node).node }) below stands.slots refl v.links v.links stands.places runs) (sends_none (slot_of m) v.links))
              (stands.order, stands.holders) refl;
          volume = λ is. is;
          told = (let is = its_told s line backed stands in record { within = is.within; now = is.now; old = is.old; near = λ no. absurd cc; there = λ no. absurd cc; itself = λ no. absurd cc });
          behind = λ (still, late). absurd cc;
          linked = stands.links;
          numbers = record { applied = λ i w lt. absurd (omega (arith, lt)); none = λ stops i w lt. absurd (omega (arith, lt)) };
          next = refl;
          disk = refl;
          raised = All-nil (λ front. front ≤ v.told.front);
          tokens = λ next all. All-nil (IsTokenBefore next);
          submitted = λ next all. all;
          clients = refused line backed;
        }),
      ))
    where
      none_left : (ws : List Waiting) → filter (λ w. not true) ws ≡ []
      none_left [] = refl
      none_left (w ∷ ws) = none_left ws

      all_pass : (ws : List Waiting) → filter (λ w. true) ws ≡ ws
      all_pass [] = refl
      all_pass (w ∷ ws) = ap (λ (l : List Waiting). w ∷ l) (all_pass ws)

      refused : (line : List Kept) (backed : ℕ) → Plays size (requests.StandsFor backed (were size v above m m below v.links v.submits events line))
          (requests.StandsFor backed (are size v above m (record m { node = (stop cause m.node).node }) below v.links v.submits events line)) events
      refused line backed =
          let told = refuses_those size backed (idle size v above m below line) m.node (λ w. true) m.node.waiting (flat_map tokens_of above) (flat_map tokens_of below) events
          (subst (λ (ws : List Waiting). ArePutOut (map (reply_to (Some Io)) ws) events) (sym (all_pass m.node.waiting)) out) in
          stays_then size backed (were size v above m m below v.links v.submits events line) (idle size v above m below line)
          (are size v above m (record m { node = (stop cause m.node).node }) below v.links v.submits events line) events (it_drops_found size v above m below line backed)
          (subst (λ (ws : List Waiting). Shows size backed (idle size v above m below line) (record (idle size v above m below line) { tokens = flat_map tokens_of above ++ (owing_at m.node ws ++ flat_map tokens_of below) }) events) (none_left m.node.waiting) told)

  -- ---- it knows more

  -- of an Ack, or since it raised a front: the one before it is told
  module _ (told : ℕ) (known : ℕ) (links : ℕ → ℕ → List Envelope) (events : List ClientEvent) (within : told ≤ v.told.front) (committed : known ≤ v.told.front) (more : known ≡ max m.node.known known)
      (out : ArePutOut (know told known m.node).out.replies events) where
    abbrev pub knowing : Member
    knowing = record m { node = (know told known m.node).node }

    pub tells_above : SendsDown m.node (know told known m.node).out.messages []
    tells_above = record { there = λ to is. passed_acks (predecessor_of m.node.place) told m.node to; elsewhere = λ to is. passed_acks (predecessor_of m.node.place) told m.node to }

    acks_proper : (s : State) (line : List Kept) (backed : ℕ) → StandsWith size (with_members v (above ++ m ∷ below)) s line backed → (to : ℕ)
        → All (IsProper v.recorded v.before v.told.front (slot_of m) to) (sent_to to (know told known m.node).out.messages)
    acks_proper s line backed stands =
        all_sent (λ to e. IsProper v.recorded v.before v.told.front (slot_of m) to e) (predecessor_of m.node.place) (messages.Ack told) m.node
        (λ to is. ((its_told s line backed stands).within, within))

    pub knows_by : (s : State) (line : List Kept) (backed : ℕ) → StandsWith size (with_members v (above ++ m ∷ below)) s line backed
        → Works (net_of v.recorded v.links (above ++ m ∷ below)) (net_of v.recorded links (above ++ record m { node = (know told known m.node).node } ∷ below)) (slot_of m) []
        → AreLinked v.recorded v.before v.told.front links v.submits → FitsMost size v above m (record m { node = (know told known m.node).node }) below links v.submits events line backed
    knows_by s line backed stands works linked = record {
      slot = refl;
      incarnation = refl;
      order = order_learns v.recorded v.before above m (record m { node = (know told known m.node).node }) below stands.slots refl v.links links stands.places runs v.told.front line works (stands.order, stands.holders) known committed
          (ap (λ k. record (node_of m.node) { known = k }) more);
      volume = λ is. is;
      told = its_told s line backed stands;
      behind = λ late. late;
      linked = linked;
      numbers = record { applied = applied_left (last_of m.node) (λ w. not (is_committed known w)) m.node.waiting (all_at HasApplied above m below stands.numbers).applied; none = λ stops. absurd (stops runs) };
      next = refl;
      disk = refl;
      raised = All-nil (λ front. front ≤ v.told.front);
      tokens = λ next all. tokens_left m.node (is_committed known) next m.node.waiting all;
      submitted = λ next all. all;
      clients = stays_then size backed (were size v above m m below v.links v.submits events line) (idle size v above m below line)
          (are size v above m (record m { node = (know told known m.node).node }) below v.links v.submits events line) events (it_drops_found size v above m below line backed)
          (answers_committed size backed (idle size v above m below line) m.node known committed m.node.waiting (flat_map tokens_of above) (flat_map tokens_of below) events out);
    }

    -- it sends the Ack
    pub knows_itself : HasSent (slot_of m) (know told known m.node).out.messages v.links links
        → Plays size (MembersStand size (with_members v (above ++ m ∷ below))) (MembersStand size (record v { members = above ++ record m { node = (know told known m.node).node } ∷ below; links = links })) events
    knows_itself has = changes size v above m (record m { node = (know told known m.node).node }) below links v.submits events
        (λ s line backed stands. (
          line,
          backed,
          fits_most size v above m (record m { node = (know told known m.node).node }) below links v.submits events s line backed stands
              (knows_by s line backed stands
              (works_of v.recorded v.before above m (record m { node = (know told known m.node).node }) below stands.slots refl v.links links (know told known m.node).out.messages [] tells_above
              (apart_from v.recorded v.before above m (record m { node = (know told known m.node).node }) below stands.slots refl v.links links stands.places runs) has)
              (linked_sent v.recorded v.before v.told.front (slot_of m) (know told known m.node).out.messages v.links links v.submits has (acks_proper s line backed stands) stands.links)),
        ))

    -- it takes an Ack from a link, and sends it on
    pub knows_of : (from : ℕ) (envelope : Envelope) → stamped_in envelope ≡ [] → HasPassed from (slot_of m) envelope (know told known m.node).out.messages v.links links
        → Plays size (MembersStand size (with_members v (above ++ m ∷ below))) (MembersStand size (record v { members = above ++ record m { node = (know told known m.node).node } ∷ below; links = links })) events
    knows_of from envelope none has = changes size v above m (record m { node = (know told known m.node).node }) below links v.submits events
        (λ s line backed stands. (
          line,
          backed,
          fits_most size v above m (record m { node = (know told known m.node).node }) below links v.submits events s line backed stands
              (knows_by s line backed stands
              (passes_of v.recorded v.before above m (record m { node = (know told known m.node).node }) below stands.slots refl v.links links (know told known m.node).out.messages [] tells_above
              (apart_from v.recorded v.before above m (record m { node = (know told known m.node).node }) below stands.slots refl v.links links stands.places runs) from envelope none has)
              (linked_passed v.recorded v.before v.told.front from (slot_of m) envelope (know told known m.node).out.messages v.links links v.submits has (acks_proper s line backed stands) stands.links)),
        ))
