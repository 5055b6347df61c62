-- A removed member is forgotten: what a chain stands for stays. Lemmas.
use Rattle.std.proofs.Common.{◌≡◌, ◌≢◌, inl, inr, ℕ, zero, suc, ◌==◌, ◌<◌, ◌≤◌, true, Option, None, Some, List, [], ◌∷◌, ◌++◌, get_or, length, map, refl, sym, ◌∙◌, ap, subst, arith}
use Rattle.std.specs.Prelude.{All, AllPairs}
use Rattle.std.specs.List.{Contains, flat_map}
use Rattle.std.proofs.lemmas.Bool.{cases_eq, cond-false, cond-true, eq-eqb, ne_eqb}
use Rattle.std.proofs.lemmas.List.{map-append}
use Rattle.std.proofs.lemmas.List.Concat.{flat_map-append}
use Rattle.std.proofs.lemmas.List.Elements.{All-append, All-head, All-tail, All-weaker, Contains-append_cases, Contains-append_left, Contains-append_right}
use Rattle.configurations.specs.Record.{Record}
use Rattle.version_table.specs.declared.kept.Kept.{Kept}
use Rattle.chain_steps.specs.Node.{epoch_of}
use Rattle.chain_steps.specs.Place.{incarnation_in}
use Rattle.chain_steps.specs.declared.message.Envelope.{Envelope}
use Rattle.world_model.specs.Backing.{Disk}
use Rattle.world_model.specs.Chain.{AreBefore, IsBefore, looked_by, owing_at}
use Rattle.world_model.proofs.Counting.{all_before, all_behind, all_without, flat_split}
use Rattle.world_model.specs.Machine.{State}
use Rattle.world_model.specs.Requests.{Held, Looked, Owing, Requests, Submitted}
use Rattle.world_model.specs.Requests as requests
use Rattle.chain_model.specs.Chain.{ArePlaced, HasApplied, HasVolume, IsBehind, IsTold, StandsWith}
use Rattle.chain_model.proofs.Changing.{plays_of}
use Rattle.chain_model.proofs.InOrder.{InOrder}
use Rattle.chain_model.proofs.JoinedSteps.{apart_pairs, pairs_apart}
use Rattle.chain_model.specs.Placed.{Apart}
use Rattle.chain_model.specs.Laws.{ForgetsMember, IsGone, with_members}
use Rattle.chain_model.specs.Links.{Net, Node, hop_at, hop_of, hops_from, hops_of}
use Rattle.chain_model.proofs.Incarnations.{recorded_there}
use Rattle.chain_model.proofs.RecordSteps.{backs_fewer}
use Rattle.chain_model.specs.Replicas.{Hop}
use Rattle.chain_model.proofs.SubmitSteps.{fewer_slots, slots_submits}
use Rattle.chain_model.specs.View.{Member, View, chain_of, disk_in, disks_of, is_in, is_in_some, looked_of, net_of, next_of, node_at, node_of, raised_of, requests_of, slot_of, slots_of, submitted_among, tokens_of}

-- ---- lists

-- what holds of all holds of those that are left
left_of : {A B : Type 0} (P : B → Type 0) (f : A → List B) (above : List A) (x : A) (below : List A) → All P (flat_map f (above ++ x ∷ below)) → All P (flat_map f (above ++ below))
left_of P f above x below all =
    let parts : All P (flat_map f above ++ (f x ++ flat_map f below)) = subst (All P) (flat_split f above x below) all in
    subst (All P) (sym (flat_map-append f above below))
    (All-append P (flat_map f above) (flat_map f below) (all_before P (flat_map f above) (f x ++ flat_map f below) parts) (all_behind P (f x) (flat_map f below) (all_behind P (flat_map f above) (f x ++ flat_map f below) parts)))

-- where one has none, the others have all
same_left : {A B : Type 0} (f : A → List B) (above : List A) (x : A) (below : List A) → f x ≡ [] → flat_map f (above ++ below) ≡ flat_map f (above ++ x ∷ below)
same_left f above x below none = flat_map-append f above below ∙ ap (λ l. flat_map f above ++ (l ++ flat_map f below)) (sym none) ∙ sym (flat_split f above x below)

-- another slot than this stands still
stands_still : (above : List Member) (m : Member) (below : List Member) (s : ℕ) → s ≢ slot_of m → Contains (slots_of (above ++ m ∷ below)) s → Contains (slots_of (above ++ below)) s
stands_still above m below s other there = elim (Contains-append_cases (slots_of above) (slot_of m ∷ slots_of below) s (subst (λ (l : List ℕ). Contains l s) (map-append slot_of above (m ∷ below)) there)) [
  | inl up ↦ subst (λ (l : List ℕ). Contains l s) (sym (map-append slot_of above below)) (Contains-append_left (slots_of above) (slots_of below) s up)
  | inr down ↦ subst (λ (l : List ℕ). Contains l s) (sym (map-append slot_of above below)) (Contains-append_right (slots_of above) (slots_of below) s (later down))
]
  where
    later : Contains (slot_of m ∷ slots_of below) s → Contains (slots_of below) s
    later (zero, lt, is) = absurd (other (sym is))
    later (suc k, lt, is) = (k, omega arith, is)

-- who stands at another slot does so still
node_still : (above : List Member) (m : Member) (below : List Member) (s : ℕ) → s ≢ slot_of m → node_at (above ++ below) s ≡ node_at (above ++ m ∷ below) s
node_still [] m below s other = sym (cond-false (m.node.place.slot == s) (node_of m.node) (node_at below s) (ne_eqb m.node.place.slot s (λ same. other (sym same))))
node_still (x ∷ above) m below s other = elim (cases_eq x.node.place.slot s) [
  | inl here ↦
      cond-true (x.node.place.slot == s) (node_of x.node) (node_at (above ++ below) s) (eq-eqb x.node.place.slot s here)
      ∙ sym (cond-true (x.node.place.slot == s) (node_of x.node) (node_at (above ++ m ∷ below) s) (eq-eqb x.node.place.slot s here))
  | inr further ↦
      cond-false (x.node.place.slot == s) (node_of x.node) (node_at (above ++ below) s) (ne_eqb x.node.place.slot s further) ∙ node_still above m below s other
      ∙ sym (cond-false (x.node.place.slot == s) (node_of x.node) (node_at (above ++ m ∷ below) s) (ne_eqb x.node.place.slot s further))
]

-- so the same is seen of a chain in which the slot isn't
hops_still : (recorded : Record) (links : ℕ → ℕ → List Envelope) (above : List Member) (m : Member) (below : List Member) (prev : Option ℕ) (ys : List ℕ) → All (λ y. y ≢ slot_of m) ys
    → hops_from (net_of recorded links (above ++ below)) prev ys ≡ hops_from (net_of recorded links (above ++ m ∷ below)) prev ys
hops_still recorded links above m below prev [] others = refl
hops_still recorded links above m below prev (y ∷ ys) others =
    let new : Net = net_of recorded links (above ++ below) in
    let old : Net = net_of recorded links (above ++ m ∷ below) in
    let same : node_at (above ++ below) y ≡ node_at (above ++ m ∷ below) y = node_still above m below y (All-head (λ x. x ≢ slot_of m) y ys others) in
    ap (λ (n : Node). hop_of new.epoch new.links prev y n ∷ hops_from new (Some y) ys) same
    ∙ ap (λ (l : List Hop). hop_at old prev y ∷ l) (hops_still recorded links above m below (Some y) ys (All-tail (λ x. x ≢ slot_of m) y ys others))

-- ---- the member is forgotten

module _ (size : ℕ) (v : View) (above : List Member) (m : Member) (below : List Member) (gone : IsGone v.recorded m) (all : All (λ x. x.node.stopped ≡ None → epoch_of x.node ≡ v.recorded.epoch) (above ++ m ∷ below))
    (s : State) (line : List Kept) (backed : ℕ) (stands : StandsWith size (with_members v (above ++ m ∷ below)) s line backed) where
  -- its slot isn't in the recorded chain
  others : All (λ y. y ≢ slot_of m) (chain_of v.recorded)
  others = λ i d lt same. recorded_there v.recorded.epoch v.recorded.members (get_or (chain_of v.recorded) i d) (i, lt, get_or_same (chain_of v.recorded) i d lt) (ap (incarnation_in v.recorded) same ∙ gone.out)
    where
      get_or_same : (xs : List ℕ) (i d : ℕ) → i < length xs → get_or xs i (get_or xs i d) ≡ get_or xs i d
      get_or_same [] i d lt = absurd (omega arith)
      get_or_same (x ∷ xs) zero d lt = refl
      get_or_same (x ∷ xs) (suc i) d lt = get_or_same xs i d (omega (arith, lt))

  order : InOrder v.told.front line (hops_of (net_of v.recorded v.links (above ++ below)))
  order = subst (InOrder v.told.front line) (sym (hops_still v.recorded v.links above m below None (chain_of v.recorded) others)) (stands.order, stands.holders)

  places : ArePlaced v.recorded v.before (above ++ below)
  places = record {
    apart = stands.places.apart;
    apart_before = stands.places.apart_before;
    close = stands.places.close;
    first = stands.places.first;
    stands = λ i d lt. stands_still above m below (get_or (chain_of v.recorded) i d) (others i d lt) (stands.places.stands i d lt);
    stood = all_without (λ x. IsBehind v.recorded x.node → All (λ k. Contains (slots_of (above ++ below)) k) (chain_of v.before)) above m below
        (λ i d lt (runs, late). let now = all i d lt runs in absurd (omega (arith, now, late)));
    told = all_without (λ x. IsTold v.recorded v.before x.node) above m below stands.places.told;
  }

  abbrev less : Requests
  less = record (requests_of (with_members v (above ++ m ∷ below)) line) { submits = submitted_among v.recorded v.before v.submits (slots_of (above ++ below)) }

  requests_then : requests_of (with_members v (above ++ below)) line ≡ less
  requests_then =
      same (flat_map tokens_of (above ++ below)) (flat_map looked_of (above ++ below)) (flat_map (λ x. x.demands) (above ++ below))
      (same_left tokens_of above m below (ap (owing_at m.node) gone.waiting)) (same_left looked_of above m below (ap (looked_by m.node.place.slot) gone.found)) (same_left (λ x. x.demands) above m below gone.demands)
    where
      same : (tokens : List Owing) (looked : List Looked) (demands : List Held) → tokens ≡ flat_map tokens_of (above ++ m ∷ below) → looked ≡ flat_map looked_of (above ++ m ∷ below)
          → demands ≡ flat_map (λ x. x.demands) (above ++ m ∷ below)
          → (let r : Requests = record { front = v.told.front; line = line; submits = submitted_among v.recorded v.before v.submits (slots_of (above ++ below)); tokens = tokens; looked = looked; demands = demands; kept = v.kept } in r ≡ less)
      same tokens looked demands one two three = rw (one, two, three) refl

  fewer_disks : (P : Disk → Type 0) → All P (disks_of v.recorded v.writing (above ++ m ∷ below)) → All P (disks_of v.recorded v.writing (above ++ below))
  fewer_disks P = left_of P (disk_in v.recorded v.writing) above m below

  slots_split : slots_of (above ++ m ∷ below) ≡ slots_of above ++ slot_of m ∷ slots_of below
  slots_split = map-append slot_of above (m ∷ below)

  slots_left : slots_of (above ++ below) ≡ slots_of above ++ slots_of below
  slots_left = map-append slot_of above below

  tickets_then : All (AreBefore less) (map next_of (above ++ below))
  tickets_then = subst (All (AreBefore less)) (sym (map-append next_of above below)) (all_without (AreBefore less) (map next_of above) (next_of m) (map next_of below) (subst (All (AreBefore less)) (map-append next_of above (m ∷ below))
      (All-weaker (AreBefore (requests_of (with_members v (above ++ m ∷ below)) line)) (AreBefore less) (λ next was. record {
        line = was.line;
        submits = subst (λ (l : List ℕ). All (λ x. IsBefore next x.origin) (submitted_among v.recorded v.before v.submits l)) (sym slots_left)
            (fewer_slots (λ x. IsBefore next x.origin) v.recorded v.before v.submits (slots_of above) (slot_of m) (slots_of below)
            (subst (λ (l : List ℕ). All (λ x. IsBefore next x.origin) (submitted_among v.recorded v.before v.submits l)) slots_split was.submits));
        tokens = was.tokens;
      }) (map next_of (above ++ m ∷ below)) stands.tickets)))

  pub forgotten : StandsWith size (with_members v (above ++ below)) s line backed
  forgotten = record {
    order = order.0;
    holders = order.1;
    volumes = all_without (HasVolume size v.told.front line) above m below stands.volumes;
    places = places;
    leavable = all_without (λ x. is_in_some v.writing x.node.place.slot x.node.incarnation ≡ true → is_in v.recorded x.node.place.slot x.node.incarnation ≡ true) above m below stands.leavable;
    links = stands.links;
    numbers = all_without HasApplied above m below stands.numbers;
    disks = backs_fewer v.told.front v.told.mask v.told.gauges v.told.receipts v.told.musters (disks_of v.recorded v.writing (above ++ m ∷ below)) (disks_of v.recorded v.writing (above ++ below)) fewer_disks stands.disks;
    within = stands.within;
    backs = fewer_disks (λ d. backed ≤ d.durable) stands.backs;
    fronts = stands.fronts;
    raised = left_of (λ front. front ≤ v.told.front) raised_of above m below stands.raised;
    clients = subst (λ (r : Requests). requests.StandsFor backed r s) (sym requests_then)
        (subst (λ (l : List ℕ). requests.StandsFor backed (record (requests_of (with_members v (above ++ m ∷ below)) line) { submits = submitted_among v.recorded v.before v.submits l }) s) (sym slots_left)
        (slots_submits backed (requests_of (with_members v (above ++ m ∷ below)) line) v.recorded v.before v.submits (slots_of above) (slot_of m) (slots_of below) s
        (subst (λ (l : List ℕ). requests.StandsFor backed (record (requests_of (with_members v (above ++ m ∷ below)) line) { submits = submitted_among v.recorded v.before v.submits l }) s) slots_split stands.clients)));
    slots = subst (AllPairs (λ slot other. slot ≢ other)) (sym slots_left) (pairs_left (slots_of above) (slot_of m) (slots_of below) (subst (AllPairs (λ slot other. slot ≢ other)) slots_split stands.slots));
    tickets = subst (λ (r : Requests). All (AreBefore r) (map next_of (above ++ below))) (sym requests_then) tickets_then;
    dated = stands.dated;
    dated_before = stands.dated_before;
    origins = stands.origins;
  }
    where
      pairs_left : (xs : List ℕ) (y : ℕ) (ys : List ℕ) → AllPairs (λ slot other. slot ≢ other) (xs ++ y ∷ ys) → AllPairs (λ slot other. slot ≢ other) (xs ++ ys)
      pairs_left xs y ys pairs = apart_pairs (xs ++ ys) (left xs (pairs_apart (xs ++ y ∷ ys) pairs))
        where
          left : (us : List ℕ) → Apart (us ++ y ∷ ys) → Apart (us ++ ys)
          left [] (one, apart) = apart
          left (u ∷ us) (one, apart) = (all_without (λ k. k ≢ u) us y ys one, left us apart)

-- a removed member is forgotten
pub forgets_member : ForgetsMember
forgets_member size v above m below gone all = plays_of size (with_members v (above ++ m ∷ below)) (with_members v (above ++ below)) []
    (λ s line backed stands. ([], s, refl, refl, (line, backed, forgotten size v above m below gone all s line backed stands)))
