-- How raised fronts, the board and the sessions keep what a chain stands for, and what a stop leaves: lemmas.
use Rattle.std.proofs.Common.{◌≡◌, ◌≢◌, inl, inr, ℕ, ◌≤◌, Bool, true, false, Option, None, Some, List, [], ◌∷◌, ◌++◌, map, set, take, refl, sym, ◌∙◌, ap, subst, arith}
use Rattle.std.specs.Prelude.{All, AllPairs, ◌||◌, fold, slice_get}
use Rattle.std.specs.List.{Contains, flat_map, insert}
use Rattle.std.proofs.lemmas.Bool.{cases_Bool, cases_eq, cond-true, ne_eqb, true≢false}
use Rattle.std.proofs.lemmas.List.{append-nil, append_assoc}
use Rattle.std.proofs.lemmas.List.Elements.{All-head, All-weaker}
use Rattle.configurations.specs.Record.{Record}
use Rattle.version_table.specs.Held.{writes_upto}
use Rattle.version_table.specs.declared.kept.Kept.{Kept}
use Rattle.version_table.specs.declared.kept.Origin.{Origin}
use Rattle.volume.specs.Writes.{patched, volume_of}
use Rattle.gate_journal.specs.Receipt.{Receipt}
use Rattle.chain_steps.specs.Node.{last_of}
use Rattle.chain_steps.specs.Place.{incarnation_in, is_it, is_tail}
use Rattle.chain_steps.specs.declared.message.Envelope.{Envelope}
use Rattle.chain_steps.specs.declared.message.Message.{Message}
use Rattle.chain_steps.specs.declared.message.Message.TheVariants as messages
use Rattle.world_model.specs.Backing.{Muster, Disk, IsBacked}
use Rattle.world_model.proofs.BackingSteps.{backs_committed}
use Rattle.world_model.specs.Chain.{AreBefore}
use Rattle.world_model.proofs.Counting.{all_at, all_behind, flat_same, flat_split, maps_same}
use Rattle.world_model.proofs.DemandSteps as demands
use Rattle.world_model.specs.Event.{ClientEvent}
use Rattle.chain_model.specs.Holding.{Holders}
use Rattle.chain_model.proofs.InOrder.{InOrder}
use Rattle.chain_model.specs.Links.{Node, hops_of}
use Rattle.world_model.specs.Machine.{Plays, State}
use Rattle.world_model.specs.Order.{volume_after}
use Rattle.chain_model.specs.Replicas.{Hop}
use Rattle.world_model.specs.Requests.{Held, Requests, Submitted, sent_event}
use Rattle.world_model.specs.Requests as requests
use Rattle.world_model.proofs.TokenSteps.{first_writes_are, raises}
use Rattle.chain_model.specs.Turning.{Stands}
use Rattle.chain_model.specs.Chain.{AreLinked, ArePlaced, Belongs, HasApplied, HasVolume, IsBehind, IsTold, IsWithin, MembersStand, StandsWith}
use Rattle.chain_model.proofs.Changing.{Goes, all_changed, around, plays_of, requests_split}
use Rattle.chain_model.specs.Laws.{Connects, Forgets, HasSent, IsOnEachDisk, RaisesFront, SendsAll, TakesUp, TellsDisks, with_members}
use Rattle.chain_model.proofs.NetSteps.{Reach, hops_same, node_here, nodes_same, reach_of, volume_in_line}
use Rattle.chain_model.proofs.Ordering.{not_itself, order_raises, sends_nothing, works_of}
use Rattle.chain_model.proofs.PlaceSteps.{is_among}
use Rattle.chain_model.specs.View.{Member, View, disk_in, disk_of, disks_of, is_in, is_in_some, may_be_recorded, net_of, next_of, raised_of, requests_of, slot_of, slots_of, submitted_among}

-- a run of the machine from what requests had left leads to what the chain stands for then
goes_on : (size : ℕ) (w : View) (s : State) (line : List Kept) (backed : ℕ) (old : Requests) (events : List ClientEvent)
    → Plays size (requests.StandsFor backed old) (requests.StandsFor backed (requests_of w line)) events → requests.StandsFor backed old s
    → ((t : State) → requests.StandsFor backed (requests_of w line) t → StandsWith size w t line backed) → Goes size w s events
goes_on size w s line backed old events plays stands rest =
    let (moves, t, run, shows, clients) = plays s stands in
    (moves, t, run, shows, (line, backed, rest t clients))

-- ---- the board

-- what of the board is in use changes, but not its front
pub tells_disks : TellsDisks
tells_disks size v w same within backed fronts = plays_of size v (record v { told = w }) []
    (λ s line b stands. (
      [],
      s,
      refl,
      refl,
      (
        line,
        b,
        record {
          order = subst (λ (f : ℕ). Stands f line (hops_of (net_of v.recorded v.links v.members))) (sym same) stands.order;
          holders = subst (λ (f : ℕ). Holders f (hops_of (net_of v.recorded v.links v.members))) (sym same) stands.holders;
          volumes = subst (λ (f : ℕ). All (HasVolume size f line) v.members) (sym same) stands.volumes;
          places = stands.places;
          leavable = stands.leavable;
          links = subst (λ (f : ℕ). AreLinked v.recorded v.before f v.links v.submits) (sym same) stands.links;
          numbers = stands.numbers;
          disks = backed stands.disks;
          within = within stands.within;
          backs = stands.backs;
          fronts = fronts stands.fronts;
          raised = subst (λ (f : ℕ). All (λ front. front ≤ f) (flat_map raised_of v.members)) (sym same) stands.raised;
          clients = subst (λ (f : ℕ). requests.StandsFor b (record (requests_of v line) { front = f }) s) (sym same) stands.clients;
          slots = stands.slots;
          tickets = All-weaker (AreBefore (requests_of v line)) (AreBefore (requests_of (record v { told = w }) line)) (λ next is. record { line = is.line; submits = is.submits; tokens = is.tokens }) (map next_of v.members) stands.tickets;
          dated = stands.dated;
          dated_before = stands.dated_before;
          origins = stands.origins;
        },
      ),
    ))

-- what a message on a chain link tells is so still where more is committed
belongs_more : (recorded before : Record) (front more epoch from to : ℕ) (message : Message) → front ≤ more → Belongs recorded before front epoch from to message → Belongs recorded before more epoch from to message
belongs_more recorded before front more epoch from to (messages.Put n origin write) le is = is
belongs_more recorded before front more epoch from to (messages.Ack known) le is = omega (arith, le, is)
belongs_more recorded before front more epoch from to (messages.Turn applied) le is = is
belongs_more recorded before front more epoch from to (messages.Submit ticket write) le is = is

linked_more : (recorded before : Record) (front more : ℕ) (links submits : ℕ → ℕ → List Envelope) → front ≤ more → AreLinked recorded before front links submits → AreLinked recorded before more links submits
linked_more recorded before front more links submits le is = record {
  links_of = λ from to.
      All-weaker (λ e. (e.epoch ≤ recorded.epoch) × Belongs recorded before front e.epoch from to e.message) (λ e. (e.epoch ≤ recorded.epoch) × Belongs recorded before more e.epoch from to e.message)
      (λ e was. (was.0, belongs_more recorded before front more e.epoch from to e.message le was.1)) (links from to) (is.links_of from to);
  submits_of = is.submits_of;
}

-- what the board tells is within more
within_more : (front more : ℕ) (gauges receipts : List Receipt) (musters : List Muster) → front ≤ more → IsWithin front gauges receipts musters → IsWithin more gauges receipts musters
within_more front more gauges receipts musters le is = record {
  gauges_within = weaker gauges is.gauges_within;
  receipts_within = weaker receipts is.receipts_within;
  musters_within = All-weaker (λ (m : Muster). All (λ r. r.front ≤ front) m.gauges) (λ m. All (λ r. r.front ≤ more) m.gauges) (λ m was. weaker m.gauges was) musters is.musters_within;
}
  where
    weaker : (rs : List Receipt) → All (λ r. r.front ≤ front) rs → All (λ r. r.front ≤ more) rs
    weaker rs all = All-weaker (λ (r : Receipt). r.front ≤ front) (λ r. r.front ≤ more) (λ r was. omega (arith, le, was)) rs all

module _ (size : ℕ) (v : View) (above : List Member) (tail : Member) (below : List Member) where
  abbrev unraised : View
  unraised = with_members v (above ++ tail ∷ below)

  abbrev raised : View
  raised = record v { told = record v.told { front = last_of tail.node }; members = above ++ tail ∷ below }

  nothing_sent : HasSent (slot_of tail) [] v.links v.links
  nothing_sent = record { others = λ from to other. refl; its = λ to. sym (append-nil (v.links (slot_of tail) to)) }

  -- the order at the new front
  order_raised : (s : State) (line : List Kept) (backed : ℕ) → StandsWith size unraised s line backed → tail.node.stopped ≡ None → tail.node.turned ≡ true → tail.node.holds ≡ false → is_tail tail.node.place ≡ true
      → (v.told.front ≤ last_of tail.node) × InOrder (last_of tail.node) line (hops_of (net_of v.recorded v.links (above ++ tail ∷ below)))
  order_raised s line backed stands runs turned free ends =
      let told : IsTold v.recorded v.before tail.node = all_at (λ (x : Member). IsTold v.recorded v.before x.node) above tail below stands.places.told in
      order_raises v.recorded v.before above tail tail below stands.slots refl v.links v.links stands.places runs v.told.front line
      (works_of v.recorded v.before above tail tail below stands.slots refl v.links v.links [] [] (sends_nothing tail.node)
      (λ found. not_itself v.recorded v.before (above ++ tail ∷ below) tail.node stands.places told runs (sym (ap (λ (n : Node). n.above) (node_here above tail below stands.slots)) ∙ found)) nothing_sent)
      (stands.order, stands.holders) refl turned free ends

  -- what the chain stands for then
  raises_on : (s : State) (line : List Kept) (backed : ℕ) → StandsWith size unraised s line backed → v.told.front ≤ last_of tail.node
      → InOrder (last_of tail.node) line (hops_of (net_of v.recorded v.links (above ++ tail ∷ below))) → Goes size raised s []
  raises_on s line backed stands grows then = goes_on size raised s line backed (requests_of unraised line) [] (raises size backed (requests_of unraised line) (last_of tail.node) grows then.0.within) stands.clients
      (λ t clients. record {
        order = then.0;
        holders = then.1;
        volumes = All-weaker (HasVolume size v.told.front line) (HasVolume size (last_of tail.node) line) (λ x is. record { committed = omega (arith, grows, is.committed); is = is.is }) (above ++ tail ∷ below) stands.volumes;
        places = stands.places;
        leavable = stands.leavable;
        links = linked_more v.recorded v.before v.told.front (last_of tail.node) v.links v.submits grows stands.links;
        numbers = stands.numbers;
        disks = backs_committed v.told.front v.told.mask v.told.gauges v.told.receipts v.told.musters (disks_of v.recorded v.writing (above ++ tail ∷ below)) stands.disks (last_of tail.node) grows;
        within = within_more v.told.front (last_of tail.node) v.told.gauges v.told.receipts v.told.musters grows stands.within;
        backs = stands.backs;
        fronts = All-weaker (λ f. f ≤ v.told.front) (λ f. f ≤ last_of tail.node) (λ f le. omega (arith, grows, le)) v.told.fronts stands.fronts;
        raised = All-weaker (λ f. f ≤ v.told.front) (λ f. f ≤ last_of tail.node) (λ f le. omega (arith, grows, le)) (flat_map raised_of (above ++ tail ∷ below)) stands.raised;
        clients = clients;
        slots = stands.slots;
        tickets = All-weaker (AreBefore (requests_of unraised line)) (AreBefore (requests_of raised line)) (λ next was. record { line = was.line; submits = was.submits; tokens = was.tokens }) (map next_of (above ++ tail ∷ below)) stands.tickets;
        dated = stands.dated;
        dated_before = stands.dated_before;
        origins = stands.origins;
      })

-- a tail that may raise the front raises it to its last applied write
pub raises_front : RaisesFront
raises_front size v above tail below runs turned free ends = plays_of size (unraised size v above tail below) (raised size v above tail below) []
    (λ s line backed stands. let (grows, then) = order_raised size v above tail below s line backed stands runs turned free ends in raises_on size v above tail below s line backed stands grows then)

-- ---- sessions

-- what sessions keep changes, and no member
keeps_else : (size : ℕ) (v : View) (kept : List (List Held)) (events : List ClientEvent)
    → ((line : List Kept) (backed : ℕ) → Plays size (requests.StandsFor backed (requests_of v line)) (requests.StandsFor backed (record (requests_of v line) { kept = kept })) events)
    → Plays size (MembersStand size v) (MembersStand size (record v { kept = kept })) events
keeps_else size v kept events clients = plays_of size v (record v { kept = kept }) events
    (λ s line backed stands. goes_on size (record v { kept = kept }) s line backed (requests_of v line) events (clients line backed) stands.clients
    (λ t after. record {
      order = stands.order;
      holders = stands.holders;
      volumes = stands.volumes;
      places = stands.places;
      leavable = stands.leavable;
      links = stands.links;
      numbers = stands.numbers;
      disks = stands.disks;
      within = stands.within;
      backs = stands.backs;
      fronts = stands.fronts;
      raised = stands.raised;
      clients = after;
      slots = stands.slots;
      tickets = All-weaker (AreBefore (requests_of v line)) (AreBefore (requests_of (record v { kept = kept }) line)) (λ next was. record { line = was.line; submits = was.submits; tokens = was.tokens }) (map next_of v.members) stands.tickets;
      dated = stands.dated;
      dated_before = stands.dated_before;
      origins = stands.origins;
    }))

-- a client's session begins
pub connects : Connects
connects size v at = keeps_else size v (insert v.kept at []) [] (λ line backed s stands. ([], s, refl, refl, demands.connects backed (requests_of v line) at s stands))

-- a session ends: what it keeps is forgotten
pub forgets : Forgets
forgets size v at = keeps_else size v (set v.kept at []) [] (λ line backed s stands. ([], s, refl, refl, demands.forgets backed (requests_of v line) at s stands))

-- requests are sent
pub sends_all : SendsAll
sends_all size v at kept more here = keeps_else size v (set v.kept at (kept ++ more)) (map sent_event more) (λ line backed. demands.sends_all size backed (requests_of v line) at kept more here)

-- a session takes up the first requests that it keeps: they are demands of its member
module _ (size : ℕ) (v : View) (above : List Member) (m : Member) (below : List Member) (at : ℕ) (taken kept : List Held) where
  abbrev taker : Member
  taker = record m { demands = m.demands ++ taken }

  abbrev kept_then : View
  kept_then = record v { kept = set v.kept at kept }

  abbrev untaken : View
  untaken = with_members v (above ++ m ∷ below)

  abbrev taken_up : View
  taken_up = record v { members = above ++ record m { demands = m.demands ++ taken } ∷ below; kept = set v.kept at kept }

  -- the writes on all submit links
  abbrev submits_there : List Submitted
  submits_there = submitted_among v.recorded v.before v.submits (slots_of (above ++ m ∷ below))

  same_slots : slots_of (above ++ taker ∷ below) ≡ slots_of (above ++ m ∷ below)
  same_slots = maps_same slot_of above m taker below refl

  requests_taken : (line : List Kept) → requests_of taken_up line ≡ around kept_then line submits_there above below taker
  requests_taken line = requests_split kept_then line above taker below ∙ ap (λ (slots : List ℕ). around kept_then line (submitted_among v.recorded v.before v.submits slots) above below taker) same_slots

  same_hops : hops_of (net_of v.recorded v.links (above ++ m ∷ below)) ≡ hops_of (net_of v.recorded v.links (above ++ taker ∷ below))
  same_hops = sym (hops_same (net_of v.recorded v.links (above ++ m ∷ below)) (net_of v.recorded v.links (above ++ taker ∷ below)) refl refl (λ x. nodes_same above m taker below x refl refl) (λ x y. refl))

  places_taken : ArePlaced v.recorded v.before (above ++ m ∷ below) → ArePlaced v.recorded v.before (above ++ taker ∷ below)
  places_taken is = record {
    apart = is.apart;
    apart_before = is.apart_before;
    close = is.close;
    first = is.first;
    stands = subst (λ (slots : List ℕ). All (λ s. Contains slots s) (map (λ r. r.slot) v.recorded.members)) (sym same_slots) is.stands;
    stood = subst (λ (slots : List ℕ). All (λ x. IsBehind v.recorded x.node → All (λ s. Contains slots s) (map (λ r. r.slot) v.before.members)) (above ++ taker ∷ below)) (sym same_slots)
        (all_changed (λ x. IsBehind v.recorded x.node → All (λ s. Contains (slots_of (above ++ m ∷ below)) s) (map (λ r. r.slot) v.before.members)) above m taker below (λ was. was) is.stood);
    told = all_changed (λ x. IsTold v.recorded v.before x.node) above m taker below (λ was. was) is.told;
  }

  wider : (line : List Kept) (next : Origin) → AreBefore (around v line submits_there above below m) next → AreBefore (around kept_then line submits_there above below taker) next
  wider line next is = record { line = is.line; submits = is.submits; tokens = is.tokens }

  tickets_taken : (line : List Kept) → All (AreBefore (requests_of untaken line)) (map next_of (above ++ m ∷ below)) → All (AreBefore (requests_of taken_up line)) (map next_of (above ++ taker ∷ below))
  tickets_taken line all =
      subst (λ (ns : List Origin). All (AreBefore (requests_of taken_up line)) ns) (sym (maps_same next_of above m taker below refl))
      (All-weaker (AreBefore (requests_of untaken line)) (AreBefore (requests_of taken_up line))
      (λ next is. subst (λ (r : Requests). AreBefore r next) (sym (requests_taken line)) (wider line next (subst (λ (r : Requests). AreBefore r next) (requests_split v line above m below) is))) (map next_of (above ++ m ∷ below)) all)

  clients_taken : (s : State) (line : List Kept) (backed : ℕ) → slice_get v.kept at ≡ Some (taken ++ kept) → requests.StandsFor backed (requests_of untaken line) s → requests.StandsFor backed (requests_of taken_up line) s
  clients_taken s line backed here clients =
      let first : List Held = flat_map (λ x. x.demands) above in
      let before : List Held = flat_map (λ x. x.demands) above ++ m.demands in
      let behind : List Held = flat_map (λ x. x.demands) below in
      let were : (around v line submits_there above below m).demands ≡ before ++ behind = sym (append_assoc first m.demands behind) in
      let are : (before ++ taken) ++ behind ≡ first ++ ((m.demands ++ taken) ++ behind) = ap (λ (ds : List Held). ds ++ behind) (append_assoc first m.demands taken) ∙ append_assoc first (m.demands ++ taken) behind in
      let then = demands.reaches backed (around v line submits_there above below m) at taken kept before behind here were s (subst (λ (r : Requests). requests.StandsFor backed r s) (requests_split v line above m below) clients) in
      subst (λ (r : Requests). requests.StandsFor backed r s) (sym (requests_taken line))
      (subst (λ (ds : List Held). requests.StandsFor backed (record (around v line submits_there above below m) { kept = set v.kept at kept; demands = ds }) s) are then)

  takes_there : (s : State) (line : List Kept) (backed : ℕ) → slice_get v.kept at ≡ Some (taken ++ kept) → StandsWith size untaken s line backed → StandsWith size taken_up s line backed
  takes_there s line backed here stands = record {
    order = subst (λ (hops : List Hop). Stands v.told.front line hops) same_hops stands.order;
    holders = subst (Holders v.told.front) same_hops stands.holders;
    volumes = all_changed (HasVolume size v.told.front line) above m taker below (λ was. was) stands.volumes;
    places = places_taken stands.places;
    leavable = all_changed (λ x. is_in_some v.writing x.node.place.slot x.node.incarnation ≡ true → is_in v.recorded x.node.place.slot x.node.incarnation ≡ true) above m taker below (λ was. was) stands.leavable;
    links = stands.links;
    numbers = all_changed HasApplied above m taker below (λ was. was) stands.numbers;
    disks = subst (λ (ds : List Disk). IsBacked v.told.front v.told.mask v.told.gauges v.told.receipts v.told.musters ds) (sym (flat_same (disk_in v.recorded v.writing) above m taker below refl)) stands.disks;
    within = stands.within;
    backs = subst (λ (ds : List Disk). All (λ d. backed ≤ d.durable) ds) (sym (flat_same (disk_in v.recorded v.writing) above m taker below refl)) stands.backs;
    fronts = stands.fronts;
    raised = subst (All (λ front. front ≤ v.told.front)) (sym (flat_same raised_of above m taker below refl)) stands.raised;
    clients = clients_taken s line backed here stands.clients;
    slots = subst (λ (ns : List ℕ). AllPairs (λ slot other. slot ≢ other) ns) (sym same_slots) stands.slots;
    tickets = tickets_taken line stands.tickets;
    dated = stands.dated;
    dated_before = stands.dated_before;
    origins = stands.origins;
  }

pub takes_up : TakesUp
takes_up size v above m below at taken kept here = plays_of size (untaken size v above m below at taken kept) (taken_up size v above m below at taken kept) []
    (λ s line backed stands. ([], s, refl, refl, (line, backed, takes_there size v above m below at taken kept s line backed here stands)))

-- ---- what a stop leaves

is_it_some : (incarnation : ℕ) (o : Option ℕ) → is_it incarnation o ≡ true → o ≡ Some incarnation
is_it_some incarnation None is = absurd cc
is_it_some incarnation (Some other) is = elim (cases_eq other incarnation) [ inl same ↦ ap Some same | inr apart ↦ absurd (true≢false (sym is ∙ ne_eqb other incarnation apart)) ]

-- a member that a stop may leave recorded is in the recorded chain
is_recorded : (recorded : Record) (writing : Option Record) (m : Member) → (is_in_some writing (slot_of m) m.node.incarnation ≡ true → is_in recorded (slot_of m) m.node.incarnation ≡ true)
    → may_be_recorded recorded writing m.node ≡ true → is_in recorded (slot_of m) m.node.incarnation ≡ true
is_recorded recorded writing m leaves may = elim (cases_Bool (is_in recorded (slot_of m) m.node.incarnation)) [
  | inl there ↦ there
  | inr not_there ↦ leaves (ap (λ (b : Bool). b || is_in_some writing (slot_of m) m.node.incarnation) (sym not_there) ∙ may)
]

-- so its disk is among those that have the first writes
backed_there : (recorded : Record) (writing : Option Record) (above : List Member) (m : Member) (below : List Member) (backed : ℕ) → may_be_recorded recorded writing m.node ≡ true
    → All (λ (d : Disk). backed ≤ d.durable) (disks_of recorded writing (above ++ m ∷ below)) → backed ≤ m.node.table.forgotten
backed_there recorded writing above m below backed may all =
    let P = λ (d : Disk). backed ≤ d.durable in
    let its : disk_in recorded writing m ≡ disk_of m ∷ [] = cond-true (may_be_recorded recorded writing m.node) (disk_of m ∷ []) [] may in
    let behind = all_behind P (disks_of recorded writing above) (disk_in recorded writing m ++ disks_of recorded writing below) (subst (All P) (flat_split (disk_in recorded writing) above m below) all) in
    All-head P (disk_of m) (disks_of recorded writing below) (subst (λ (ds : List Disk). All P (ds ++ disks_of recorded writing below)) its behind)

-- and what it has of the line, running or stopped
pub reach_recorded : (size : ℕ) (v : View) (above : List Member) (m : Member) (below : List Member) (s : State) (line : List Kept) (backed : ℕ) → StandsWith size (with_members v (above ++ m ∷ below)) s line backed
    → may_be_recorded v.recorded v.writing m.node ≡ true → Reach v.told.front line m.node
reach_recorded size v above m below s line backed stands may =
    let leaves : is_in_some v.writing (slot_of m) m.node.incarnation ≡ true → is_in v.recorded (slot_of m) m.node.incarnation ≡ true =
    all_at (λ (x : Member). is_in_some v.writing x.node.place.slot x.node.incarnation ≡ true → is_in v.recorded x.node.place.slot x.node.incarnation ≡ true) above m below stands.leavable in
    let there : incarnation_in v.recorded (slot_of m) ≡ Some m.node.incarnation = is_it_some m.node.incarnation (incarnation_in v.recorded (slot_of m)) (is_recorded v.recorded v.writing m leaves may) in
    reach_of v.recorded v.links above m below v.told.front line stands.slots (is_among v.recorded (slot_of m) m.node.incarnation there) stands.order

-- and its volume at a front from its durable one to its known commit
pub volume_recorded : (size : ℕ) (v : View) (above : List Member) (m : Member) (below : List Member) (s : State) (line : List Kept) (backed p : ℕ) → StandsWith size (with_members v (above ++ m ∷ below)) s line backed
    → Reach v.told.front line m.node → m.node.table.forgotten ≤ p → p ≤ m.node.known → fold patched m.volume (writes_upto m.node.table p) ≡ volume_after size (take p line)
volume_recorded size v above m below s line backed p stands reach from upto =
    volume_in_line size v.told.front line m.node m.volume p reach (all_at (HasVolume size v.told.front line) above m below stands.volumes).is from (omega (arith, upto, reach.known, reach.has))

-- each front from a member's durable one to its known commit is of the machine, with all that is owed
pub is_on_each_disk : IsOnEachDisk
is_on_each_disk size v above m below s p ((line, backed, stands), joins) may from upto =
    let reach = reach_recorded size v above m below s line backed stands may in
    let (names, clients) = stands.clients in
    let mine : backed ≤ m.node.table.forgotten = backed_there v.recorded v.writing above m below backed may stands.backs in (
      omega (arith, clients.owed, mine, from),
      omega (arith, upto, reach.known, clients.committed),
      volume_recorded size v above m below s line backed p stands reach from upto
          ∙ ap (volume_of size) (sym (first_writes_are backed (requests_of (with_members v (above ++ m ∷ below)) line) s names clients p (omega (arith, upto, reach.known)))),
    )
