-- How a change of one member, and of links, keeps what a chain stands for: lemmas.
use Rattle.std.proofs.Common.{◌≡◌, ℕ, suc, ◌+◌, ◌≤◌, Option, List, ◌∷◌, ◌++◌, length, map, refl, sym, ◌∙◌, ap, subst}
use Rattle.std.specs.Prelude.{All, AllPairs, true, ◌≢◌}
use Rattle.std.specs.List.{Contains, flat_map}
use Rattle.std.proofs.lemmas.List.Concat.{flat_map-append}
use Rattle.std.proofs.lemmas.List.Elements.{All-append, All-cons, All-head, All-tail, All-weaker}
use Rattle.configurations.specs.Record.{Record}
use Rattle.version_table.specs.declared.kept.Kept.{Kept}
use Rattle.version_table.specs.declared.kept.Origin.{Origin}
use Rattle.chain_steps.specs.Node.{Commit, last_of}
use Rattle.chain_steps.specs.declared.found.Found.{Found}
use Rattle.chain_steps.specs.declared.message.Envelope.{Envelope}
use Rattle.chain_steps.specs.declared.waiting.Waiting.{Waiting}
use Rattle.world_model.specs.Backing.{Disk, IsBacked}
use Rattle.world_model.specs.Chain.{AreBefore, IsTokenBefore}
use Rattle.world_model.proofs.Counting.{all_at, all_before, all_behind, all_between, flat_same, flat_split, maps_same}
use Rattle.world_model.specs.Event.{ClientEvent}
use Rattle.chain_model.proofs.InOrder.{InOrder}
use Rattle.chain_model.specs.Links.{Node, hops_of}
use Rattle.world_model.specs.Machine.{Move, Plays, RunsOn, State, shown}
use Rattle.chain_model.specs.Replicas.{Hop}
use Rattle.world_model.specs.Requests.{Held, Looked, Owing, Requests, Submitted}
use Rattle.world_model.specs.Requests as requests
use Rattle.chain_model.specs.Chain.{AreLinked, ArePlaced, HasApplied, HasVolume, IsApplied, IsBehind, IsTold, LeavesRecorded, MembersStand, StandsWith}
use Rattle.chain_model.specs.Laws.{with_members}
use Rattle.chain_model.proofs.NetSteps.{hops_same, nodes_same}
use Rattle.chain_model.specs.View.{Member, View, chain_of, disk_in, disks_of, is_in, is_in_some, looked_of, net_of, next_of, node_of, raised_of, requests_of, slot_of, slots_of, submitted_among, tokens_of}

-- ---- what requests have left, around one member

abbrev pub demands_of : Member → List Held
demands_of m = m.demands

abbrev pub around : View → List Kept → List Submitted → List Member → List Member → Member → Requests
around v line submits above below m = record {
  front = v.told.front;
  line = line;
  submits = submits;
  tokens = flat_map tokens_of above ++ (tokens_of m ++ flat_map tokens_of below);
  looked = flat_map looked_of above ++ (looked_of m ++ flat_map looked_of below);
  demands = flat_map demands_of above ++ (demands_of m ++ flat_map demands_of below);
  kept = v.kept;
}

same_requests : (front : ℕ) (line : List Kept) (kept : List (List Held)) (submits : List Submitted) (tokens tokens2 : List Owing) (looked looked2 : List Looked) (demands demands2 : List Held)
    → tokens ≡ tokens2 → looked ≡ looked2 → demands ≡ demands2
    → (let one : Requests = record { front = front; line = line; submits = submits; tokens = tokens; looked = looked; demands = demands; kept = kept } in
    let two : Requests = record { front = front; line = line; submits = submits; tokens = tokens2; looked = looked2; demands = demands2; kept = kept } in one ≡ two)
same_requests front line kept submits tokens tokens2 looked looked2 demands demands2 one two three = rw (one, two, three) refl

pub requests_split : (v : View) (line : List Kept) (above : List Member) (m : Member) (below : List Member)
    → requests_of (with_members v (above ++ m ∷ below)) line ≡ around v line (submitted_among v.recorded v.before v.submits (slots_of (above ++ m ∷ below))) above below m
requests_split v line above m below =
    same_requests v.told.front line v.kept (submitted_among v.recorded v.before v.submits (slots_of (above ++ m ∷ below)))
    (flat_map tokens_of (above ++ m ∷ below)) (flat_map tokens_of above ++ (tokens_of m ++ flat_map tokens_of below)) (flat_map looked_of (above ++ m ∷ below)) (flat_map looked_of above ++ (looked_of m ++ flat_map looked_of below))
    (flat_map demands_of (above ++ m ∷ below)) (flat_map demands_of above ++ (demands_of m ++ flat_map demands_of below))
    (flat_map-append tokens_of above (m ∷ below)) (flat_map-append looked_of above (m ∷ below)) (flat_map-append demands_of above (m ∷ below))

-- ---- a step of the machine, and what a chain stands for then

-- some run from this state shows the events, and ends in one that the chain stands for
abbrev pub Goes : ℕ → View → State → List ClientEvent → Type 0
Goes size w s events = (moves : List Move) × (t : State) × RunsOn s moves t × (shown size s moves ≡ events) × MembersStand size w t

pub plays_of : (size : ℕ) (v w : View) (events : List ClientEvent) → ((s : State) (line : List Kept) (backed : ℕ) → StandsWith size v s line backed → Goes size w s events)
    → Plays size (MembersStand size v) (MembersStand size w) events
plays_of size v w events goes s (line, backed, stands) = goes s line backed stands

-- what holds of all members holds still where it does of the one that changed
pub all_changed : (P : Member → Type 0) (above : List Member) (m g : Member) (below : List Member) → (P m → P g) → All P (above ++ m ∷ below) → All P (above ++ g ∷ below)
all_changed P above m g below keeps all =
    let behind = all_behind P above (m ∷ below) all in
    All-append P above (g ∷ below) (all_before P above (m ∷ below) all) (All-cons P g below (keeps (All-head P m below behind)) (All-tail P m below behind))

-- whoever stands at the member's slot was told what members are
pub places_changed : (recorded before : Record) (above : List Member) (m g : Member) (below : List Member) → slot_of g ≡ slot_of m → IsTold recorded before g.node → (IsBehind recorded g.node → IsBehind recorded m.node) → ArePlaced recorded before (above ++ m ∷ below)
    → ArePlaced recorded before (above ++ g ∷ below)
places_changed recorded before above m g below same told behind is = record {
  apart = is.apart;
  apart_before = is.apart_before;
  close = is.close;
  first = is.first;
  stands = subst (λ (slots : List ℕ). All (λ s. Contains slots s) (chain_of recorded)) (sym (maps_same slot_of above m g below same)) is.stands;
  stood = subst (λ (slots : List ℕ). All (λ x. IsBehind recorded x.node → All (λ s. Contains slots s) (chain_of before)) (above ++ g ∷ below)) (sym (maps_same slot_of above m g below same))
      (all_changed (λ x. IsBehind recorded x.node → All (λ s. Contains (slots_of (above ++ m ∷ below)) s) (chain_of before)) above m g below (λ was late. was (behind late)) is.stood);
  told = all_changed (λ x. IsTold recorded before x.node) above m g below (λ was. told) is.told;
}

-- ---- one member becomes another, and the links others

module _ (size : ℕ) (v : View) (above : List Member) (m g : Member) (below : List Member) (links submits : ℕ → ℕ → List Envelope) (events : List ClientEvent) where
  abbrev pub old : View
  old = with_members v (above ++ m ∷ below)

  abbrev pub new : View
  new = record v { members = above ++ g ∷ below; links = links; submits = submits }

  abbrev pub were : List Kept → Requests
  were line = around v line (submitted_among v.recorded v.before v.submits (slots_of (above ++ m ∷ below))) above below m

  abbrev pub are : List Kept → Requests
  are line = around v line (submitted_among v.recorded v.before submits (slots_of (above ++ m ∷ below))) above below g

  -- what has to hold then, where the line was the one list and is the other
  pub record Fits (line then : List Kept) (backed now : ℕ) : Type 0 where
    pub slot : slot_of g ≡ slot_of m
    pub incarnation : g.node.incarnation ≡ m.node.incarnation
    pub order : InOrder v.told.front then (hops_of (net_of v.recorded links (above ++ g ∷ below)))
    pub volumes : All (HasVolume size v.told.front then) (above ++ g ∷ below)
    pub told : IsTold v.recorded v.before g.node
    pub behind : IsBehind v.recorded g.node → IsBehind v.recorded m.node
    pub linked : AreLinked v.recorded v.before v.told.front links submits
    pub numbers : HasApplied g
    pub disks : IsBacked v.told.front v.told.mask v.told.gauges v.told.receipts v.told.musters (disks_of v.recorded v.writing (above ++ g ∷ below))
    pub backs : All (λ d. now ≤ d.durable) (disks_of v.recorded v.writing (above ++ g ∷ below))
    pub raised : All (λ front. front ≤ v.told.front) (raised_of g)
    pub tickets : All (AreBefore (are then)) (map next_of (above ++ g ∷ below))
    pub origins : All (λ k. k.origin.incarnation ≤ v.youngest) then
    pub clients : Plays size (requests.StandsFor backed (were line)) (requests.StandsFor now (are then)) events

  requests_then : (line : List Kept) → slot_of g ≡ slot_of m → requests_of new line ≡ are line
  requests_then line same =
      requests_split new line above g below ∙ ap (λ (slots : List ℕ). around v line (submitted_among v.recorded v.before submits slots) above below g) (maps_same slot_of above m g below same)

  pub changes : ((s : State) (line : List Kept) (backed : ℕ) → StandsWith size old s line backed → (then : List Kept) × (now : ℕ) × Fits line then backed now)
      → Plays size (MembersStand size old) (MembersStand size new) events
  changes fits = plays_of size old new events (λ s line backed stands. go s line backed stands (fits s line backed stands))
    where
      leaves : slot_of g ≡ slot_of m → g.node.incarnation ≡ m.node.incarnation → LeavesRecorded v.recorded v.writing (above ++ m ∷ below) → LeavesRecorded v.recorded v.writing (above ++ g ∷ below)
      leaves slot incarnation all =
          all_changed (λ x. is_in_some v.writing x.node.place.slot x.node.incarnation ≡ true → is_in v.recorded x.node.place.slot x.node.incarnation ≡ true) above m g below (λ was. rw (slot, incarnation) was) all

      raised_then : All (λ front. front ≤ v.told.front) (raised_of g) → All (λ front. front ≤ v.told.front) (flat_map raised_of (above ++ m ∷ below)) → All (λ front. front ≤ v.told.front) (flat_map raised_of (above ++ g ∷ below))
      raised_then mine all =
          subst (All (λ front. front ≤ v.told.front)) (sym (flat_split raised_of above g below))
          (all_between (λ front. front ≤ v.told.front) (flat_map raised_of above) (flat_map raised_of below) (raised_of m) (raised_of g) (λ was. mine)
          (subst (All (λ front. front ≤ v.told.front)) (flat_split raised_of above m below) all))

      go : (s : State) (line : List Kept) (backed : ℕ) → StandsWith size old s line backed → (then : List Kept) × (now : ℕ) × Fits line then backed now → Goes size new s events
      go s line backed stands (then, now, fit) =
          let (moves, t, run, shows, clients) = fit.clients s (subst (λ (r : Requests). requests.StandsFor backed r s) (requests_split v line above m below) stands.clients) in (
            moves,
            t,
            run,
            shows,
            (
              then,
              now,
              record {
                order = fit.order.0;
                holders = fit.order.1;
                volumes = fit.volumes;
                places = places_changed v.recorded v.before above m g below fit.slot fit.told fit.behind stands.places;
                leavable = leaves fit.slot fit.incarnation stands.leavable;
                links = fit.linked;
                numbers = all_changed HasApplied above m g below (λ was. fit.numbers) stands.numbers;
                disks = fit.disks;
                within = stands.within;
                backs = fit.backs;
                fronts = stands.fronts;
                raised = raised_then fit.raised stands.raised;
                clients = subst (λ (r : Requests). requests.StandsFor now r t) (sym (requests_then then fit.slot)) clients;
                slots = subst (AllPairs (λ slot other. slot ≢ other)) (sym (maps_same slot_of above m g below fit.slot)) stands.slots;
                tickets = subst (λ (r : Requests). All (AreBefore r) (map next_of (above ++ g ∷ below))) (sym (requests_then then fit.slot)) fit.tickets;
                dated = stands.dated;
                dated_before = stands.dated_before;
                origins = fit.origins;
              },
            ),
          )

-- ---- where no link changes, and neither does what the order is made of

module _ (size : ℕ) (v : View) (above : List Member) (m g : Member) (below : List Member) (events : List ClientEvent) where
  -- what is to be said of the member alone
  pub record FitsThere (line : List Kept) (backed now : ℕ) : Type 0 where
    pub slot : slot_of g ≡ slot_of m
    pub incarnation : g.node.incarnation ≡ m.node.incarnation
    pub node : node_of g.node ≡ node_of m.node
    pub next : next_of g ≡ next_of m
    pub disk : disk_in v.recorded v.writing g ≡ disk_in v.recorded v.writing m
    pub volume : HasVolume size v.told.front line m → HasVolume size v.told.front line g
    pub told : IsTold v.recorded v.before m.node → IsTold v.recorded v.before g.node
    pub stopped : g.node.stopped ≡ m.node.stopped
    pub numbers : (last : ℕ) → All (IsApplied last) m.node.waiting → All (IsApplied last) g.node.waiting
    pub raised : All (λ front. front ≤ v.told.front) (raised_of m) → All (λ front. front ≤ v.told.front) (raised_of g)
    pub tokens : (next : Origin) → All (IsTokenBefore next) (tokens_of m) → All (IsTokenBefore next) (tokens_of g)
    pub backs : All (λ d. backed ≤ d.durable) (disks_of v.recorded v.writing (above ++ m ∷ below)) → All (λ d. now ≤ d.durable) (disks_of v.recorded v.writing (above ++ m ∷ below))
    pub clients : Plays size (requests.StandsFor backed (were size v above m g below v.links v.submits events line)) (requests.StandsFor now (are size v above m g below v.links v.submits events line)) events

  pub changes_there : ((s : State) (line : List Kept) (backed : ℕ) → StandsWith size (with_members v (above ++ m ∷ below)) s line backed → (now : ℕ) × FitsThere line backed now)
      → Plays size (MembersStand size (with_members v (above ++ m ∷ below))) (MembersStand size (with_members v (above ++ g ∷ below))) events
  changes_there fits = changes size v above m g below v.links v.submits events (λ s line backed stands. let (now, fit) = fits s line backed stands in (line, now, whole s line backed now stands fit))
    where
      tickets_then : (line : List Kept) → ((next : Origin) → All (IsTokenBefore next) (tokens_of m) → All (IsTokenBefore next) (tokens_of g)) → (next : Origin)
          → AreBefore (were size v above m g below v.links v.submits events line) next → AreBefore (are size v above m g below v.links v.submits events line) next
      tickets_then line tokens next is = record {
        line = is.line;
        submits = is.submits;
        tokens = all_between (IsTokenBefore next) (flat_map tokens_of above) (flat_map tokens_of below) (tokens_of m) (tokens_of g) (tokens next) is.tokens;
      }

      whole : (s : State) (line : List Kept) (backed now : ℕ) → StandsWith size (with_members v (above ++ m ∷ below)) s line backed → FitsThere line backed now
          → Fits size v above m g below v.links v.submits events line line backed now
      whole s line backed now stands fit = record {
        slot = fit.slot;
        incarnation = fit.incarnation;
        order = subst (λ (hops : List Hop). InOrder v.told.front line hops)
            (sym (hops_same (net_of v.recorded v.links (above ++ m ∷ below)) (net_of v.recorded v.links (above ++ g ∷ below)) refl refl (λ x. nodes_same above m g below x fit.slot fit.node) (λ x y. refl))) (stands.order, stands.holders);
        volumes = all_changed (HasVolume size v.told.front line) above m g below fit.volume stands.volumes;
        told = fit.told (all_at (λ x. IsTold v.recorded v.before x.node) above m below stands.places.told);
        behind = λ (runs, late). (sym fit.stopped ∙ runs, ap (λ (n : Node). suc n.epoch) (sym fit.node) ∙ late);
        linked = stands.links;
        numbers = (
            let was : HasApplied m = all_at HasApplied above m below stands.numbers in
            record {
              applied = subst (λ n. All (IsApplied n) g.node.waiting) (sym (ap (λ (n : Node). n.table.forgotten + length n.table.kept) fit.node)) (fit.numbers (last_of m.node) was.applied);
              none = λ stops. fit.numbers 0 (was.none (λ runs. stops (fit.stopped ∙ runs)));
            }
            );
        disks = subst (λ (ds : List Disk). IsBacked v.told.front v.told.mask v.told.gauges v.told.receipts v.told.musters ds) (sym (flat_same (disk_in v.recorded v.writing) above m g below fit.disk)) stands.disks;
        backs = subst (All (λ d. now ≤ d.durable)) (sym (flat_same (disk_in v.recorded v.writing) above m g below fit.disk)) (fit.backs stands.backs);
        raised = fit.raised (mine stands.raised);
        tickets = subst (All (AreBefore (are size v above m g below v.links v.submits events line))) (sym (maps_same next_of above m g below fit.next))
            (All-weaker (AreBefore (were size v above m g below v.links v.submits events line)) (AreBefore (are size v above m g below v.links v.submits events line)) (tickets_then line fit.tokens) (map next_of (above ++ m ∷ below))
            (subst (λ (r : Requests). All (AreBefore r) (map next_of (above ++ m ∷ below))) (requests_split v line above m below) stands.tickets));
        origins = stands.origins;
        clients = fit.clients;
      }
        where
          mine : All (λ front. front ≤ v.told.front) (flat_map raised_of (above ++ m ∷ below)) → All (λ front. front ≤ v.told.front) (raised_of m)
          mine all =
              all_before (λ front. front ≤ v.told.front) (raised_of m) (flat_map raised_of below)
              (all_behind (λ front. front ≤ v.told.front) (flat_map raised_of above) (raised_of m ++ flat_map raised_of below)
              (subst (All (λ front. front ≤ v.told.front)) (flat_split raised_of above m below) all))

-- ---- where it finds another front, or its commit, its tokens or its demands change

module _ (size : ℕ) (v : View) (above : List Member) (m : Member) (below : List Member) (found : Option Found) (commit : Option Commit) (waiting : List Waiting) (demands : List Held) (events : List ClientEvent) where
  abbrev pub other : Member
  other = record m { node = record m.node { found = found; commit = commit; waiting = waiting }; demands = demands }

  -- what is said of its tokens, of the front that it raised, and of what clients see
  pub record FitsRequests (line : List Kept) (backed : ℕ) : Type 0 where
    pub numbers : (last : ℕ) → All (IsApplied last) m.node.waiting → All (IsApplied last) waiting
    pub raised : All (λ front. front ≤ v.told.front) (raised_of m) → All (λ front. front ≤ v.told.front) (raised_of other)
    pub tokens : (next : Origin) → All (IsTokenBefore next) (tokens_of m) → All (IsTokenBefore next) (tokens_of other)
    pub clients : Plays size (requests.StandsFor backed (were size v above m other below v.links v.submits events line)) (requests.StandsFor backed (are size v above m other below v.links v.submits events line)) events

  pub changes_requests : ((s : State) (line : List Kept) (backed : ℕ) → StandsWith size (with_members v (above ++ m ∷ below)) s line backed → FitsRequests line backed)
      → Plays size (MembersStand size (with_members v (above ++ m ∷ below))) (MembersStand size (with_members v (above ++ other ∷ below))) events
  changes_requests fits = changes_there size v above m other below events
      (λ s line backed stands.
      let fit = fits s line backed stands in (
        backed,
        record {
          slot = refl;
          incarnation = refl;
          node = refl;
          next = refl;
          disk = refl;
          volume = λ is. is;
          told = λ is. is;
          stopped = refl;
          numbers = fit.numbers;
          raised = fit.raised;
          tokens = fit.tokens;
          backs = λ all. all;
          clients = fit.clients;
        },
      ))
