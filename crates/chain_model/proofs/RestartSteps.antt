-- How a chain begins, and begins again after a cut: lemmas.
use Rattle.std.proofs.Common.{◌≡◌, ◌≢◌, eqb, ltb, inl, inr, ℕ, zero, suc, ◌+◌, ◌<◌, ◌≤◌, Bool, true, false, Option, None, Some, List, [], ◌∷◌, ◌++◌, length, map, take, refl, sym, ◌∙◌, ap, subst, get_or, arith}
use Rattle.std.specs.Prelude.{All, AllPairs, fold, is_some, option_map, slice_get}
use Rattle.std.specs.List.{Contains, flat_map, position_or_len}
use Rattle.std.proofs.lemmas.Bool.{cases_Bool, cond-false, cond-true, eq-eqb, lt-ltb, ne_eqb}
use Rattle.std.proofs.lemmas.List.{append_assoc, get_or-map, length-drop, length-map, length-take-le, take_all}
use Rattle.std.proofs.lemmas.List.Elements.{All-append, All-cons, All-contains_itself, All-head, All-nil, All-tail, All-weaker}
use Rattle.std.proofs.lemmas.List.Sums.{position_or_len_is}
use Rattle.std.proofs.lemmas.Option.{slice_get-get_or, slice_get-map}
use Rattle.board.specs.Mask.{counts}
use Rattle.configurations.specs.Record.{Record}
use Rattle.configurations.specs.declared.member.Member as recorded
use Rattle.gate_journal.specs.Receipt.{Receipt}
use Rattle.version_table.specs.Held.{Held as Table, writes_upto}
use Rattle.version_table.specs.declared.kept.Kept.{Kept}
use Rattle.version_table.specs.declared.kept.Origin.{Origin}
use Rattle.volume.specs.Writes.{Placed, patched, volume_of}
use Rattle.chain_steps.specs.Node.{last_of}
use Rattle.chain_steps.specs.Place.{Standing, head_of, incarnation_in, is_tail, member_at, place_in, predecessor_of, successor_of}
use Rattle.chain_steps.specs.declared.cause.Cause.{Cause}
use Rattle.chain_steps.specs.declared.message.Envelope.{Envelope}
use Rattle.world_model.specs.Backing.{Disk, IsMustered, Muster}
use Rattle.world_model.specs.Chain.{AreBefore, IsBefore, IsTokenBefore, looked_by, owing_at, raised_by}
use Rattle.world_model.proofs.Counting.{count-cons, one_if, one_if-same}
use Rattle.chain_model.proofs.Incarnations.{is_itself}
use Rattle.chain_model.proofs.InOrder.{InOrder, start_in_order}
use Rattle.chain_model.specs.Links.{Net, Node, at_epoch, first_of, from_slot, hop_at, hop_of, hops_from, hops_of, is_end, is_slot}
use Rattle.world_model.specs.Machine.{May, Restart, State, Waits, after, start}
use Rattle.world_model.specs.Order.{AreNumberedFrom, volume_after}
use Rattle.chain_model.specs.Placed.{Apart, Close}
use Rattle.chain_model.specs.Replicas.{Hop}
use Rattle.world_model.specs.Requests.{Bound, Entry, Held, IsBound, IsFresh, IsSent, Looked, Owing, Requests, Sending, Submitted, count_line, count_submits, count_tokens, named_writes}
use Rattle.world_model.specs.Requests as requests
use Rattle.world_model.proofs.Standing.{no_map}
use Rattle.world_model.proofs.TokenSteps.{first_writes_are, restarts, starts}
use Rattle.chain_model.specs.TurningLaws.{fresh, started}
use Rattle.chain_model.proofs.BoardSteps.{is_on_each_disk, reach_recorded, volume_recorded}
use Rattle.chain_model.specs.Chain.{ArePlaced, Belongs, BelongsToHead, HasApplied, HasVolume, IsApplied, IsDated, IsIfThere, IsJoining, IsTold, LeavesRecorded, MembersStand, StandsFor, StandsWith}
use Rattle.chain_model.specs.Laws.{FirstChain, IsBeginning, IsIdle, RestartsChain, RestartsFromJoiner, recorded_as, with_members}
use Rattle.chain_model.proofs.NetSteps.{node_here}
use Rattle.chain_model.proofs.PlaceSteps.{placed_behind, placed_first}
use Rattle.chain_model.specs.View.{Member, View, chain_of, disk_in, disk_of, disks_of, looked_of, may_be_recorded, net_of, next_of, node_at, node_of, passed_on, raised_of, requests_of, slot_of, slots_of, submitted_among, submitted_from, submitted_on, tokens_of}

-- ---- writes of an earlier life

-- their origins are of no member that runs
abbrev past : Origin
past = record { slot = 0; incarnation = 0; ticket = 0 }

abbrev passed : Kept → Kept
passed k = record k { origin = past }

abbrev passed_entry : Entry → Entry
passed_entry e = record e { kept = passed e.kept }

-- what requests have left once only the line is there
abbrev line_alone : ℕ → List Kept → Requests
line_alone front line = record { front = front; line = line; submits = []; tokens = []; looked = []; demands = []; kept = [] }

passed_writes : (es : List Entry) → named_writes (map passed_entry es) ≡ named_writes es
passed_writes [] = refl
passed_writes (e ∷ es) = ap (λ (l : List (ℕ × Placed)). (e.name, e.kept.write) ∷ l) (passed_writes es)

passed_line : (es : List Entry) → map (λ (e : Entry). e.kept) (map passed_entry es) ≡ map passed (map (λ (e : Entry). e.kept) es)
passed_line [] = refl
passed_line (e ∷ es) = ap (λ (l : List Kept). passed e.kept ∷ l) (passed_line es)

passed_count : (name : ℕ) (es : List Entry) → count_line name (map passed_entry es) ≡ count_line name es
passed_count name [] = refl
passed_count name (e ∷ es) =
    count-cons (λ (x : Entry). eqb x.name name) (passed_entry e) (map passed_entry es)
    ∙ ap (λ (n : ℕ). one_if (λ (x : Entry). eqb x.name name) (passed_entry e) + n) (passed_count name es)
    ∙ ap (λ (n : ℕ). n + count_line name es) (one_if-same (λ (x : Entry). eqb x.name name) (λ (x : Entry). eqb x.name name) (passed_entry e) e refl)
    ∙ sym (count-cons (λ (x : Entry). eqb x.name name) e es)

-- nobody waits for a write by its origin: the line may forget who submitted what
forgets_origins : (front : ℕ) (line : List Kept) (s : State) → requests.StandsFor front (line_alone front line) s → front ≡ length line → requests.StandsFor front (line_alone front (map passed line)) s
forgets_origins front line s (names, stands) whole =
    let long : length names.line ≡ front = omega (arith, ap length stands.named.line, length-map names.line (λ (e : Entry). e.kept), whole) in
    let no_submits : names.submits ≡ [] = no_map (λ (x : Sending). x.submitted) names.submits stands.named.submits in
    let no_tokens : names.tokens ≡ [] = no_map (λ (b : Bound). b.owing) names.tokens stands.named.tokens in (
      record { line = map passed_entry names.line; submits = []; tokens = []; demands = names.demands; kept = names.kept },
      record {
        sound = stands.sound;
        committed = stands.committed;
        owed = stands.owed;
        taken = stands.taken ∙ ap (take front) (sym (passed_writes names.line));
        named = record {
          line = passed_line names.line ∙ ap (map passed) stands.named.line;
          submits = refl;
          tokens = refl;
          demands = stands.named.demands;
          kept = stands.named.kept;
        };
        apart = record {
          one_place = λ name. omega (arith, stands.apart.one_place name, passed_count name names.line, none_submitted name);
          one_reply = λ name. omega (arith, stands.apart.one_reply name, none_owed name);
        };
        line_sent = λ k d lt. absurd (omega (arith, lt, length-drop front (map passed_entry names.line), length-map names.line passed_entry, long));
        submits_sent = All-nil (λ (x : Sending). IsSent s.sent x.name x.submitted.write);
        bound = All-nil (IsBound (map passed_entry names.line) []);
        tokens_wait = All-nil (λ (b : Bound). Waits s b.asked);
        demands_wait = stands.demands_wait;
        kept_wait = stands.kept_wait;
        fresh = All-nil (IsFresh front []);
      },
    )
  where
    none_submitted : (name : ℕ) → count_submits name [] ≡ 0
    none_submitted name = refl

    none_owed : (name : ℕ) → count_tokens name [] ≡ 0
    none_owed name = refl

-- ---- idle members

-- what idle members have of requests is nothing
flat_none : {A B : Type 0} (P : A → Type 0) (f : A → List B) → ((x : A) → P x → f x ≡ []) → (xs : List A) → All P xs → flat_map f xs ≡ []
flat_none P f none [] all = refl
flat_none P f none (x ∷ xs) all = ap (λ ys. ys ++ flat_map f xs) (none x (All-head P x xs all)) ∙ flat_none P f none xs (All-tail P x xs all)

-- ---- the order of a beginning chain

-- no slot stands twice
apart_of : (xs : List ℕ) → AllPairs (λ x y. x ≢ y) xs → Apart xs
apart_of [] pairs = tt
apart_of (x ∷ xs) pairs =
    (λ i d lt same. pairs 0 (suc i) d (omega arith) (omega (arith, lt)) (sym same), apart_of xs (λ i j d one two. pairs (suc i) (suc j) d (omega (arith, one)) (omega (arith, two))))

-- the slots of those that are recorded
chain_as : (ms : List Member) → map (λ (m : recorded.Member). m.slot) (map recorded_as ms) ≡ slots_of ms
chain_as [] = refl
chain_as (m ∷ ms) = ap (λ (l : List ℕ). slot_of m ∷ l) (chain_as ms)

started_next : (front : ℕ) (ms : List Member) → started front (suc (length ms)) ≡ fresh front (is_end (slots_of ms)) ∷ started front (length ms)
started_next front [] = refl
started_next front (m ∷ ms) = refl

itself_slot : (o : Option ℕ) → is_slot o o ≡ true
itself_slot None = refl
itself_slot (Some s) = eq-eqb s s refl

module _ (r : Record) (front : ℕ) (volume : List ℕ) (links : ℕ → ℕ → List Envelope) (no_links : (from to : ℕ) → links from to ≡ []) where
  -- it has its place of the recorded chain
  abbrev HasPlace : Member → Option ℕ → List ℕ → Type 0
  HasPlace m prev vs =
      (predecessor_of (record { slot = slot_of m; chain = r }) ≡ prev) × (successor_of (record { slot = slot_of m; chain = r }) ≡ first_of vs) × (is_tail (record { slot = slot_of m; chain = r }) ≡ is_end vs)

  -- and what is seen of an idle member that has
  abbrev placed_node : Option ℕ → Option ℕ → Bool → Node
  placed_node above below ends = record { epoch = r.epoch; turned = true; above = above; below = below; stopped = false; ends = ends; holds = false; table = record { forgotten = front; kept = [] }; known = front }

  idle_is : (m : Member) (prev : Option ℕ) (vs : List ℕ) → IsIdle r front volume m → HasPlace m prev vs → node_of m.node ≡ placed_node prev (first_of vs) (is_end vs)
  idle_is m prev vs is (above, below, ends) =
      runs m.node.place.chain m.node.turned m.node.stopped m.node.holds m.node.table m.node.known is.told is.turned is.runs is.free is.table is.known
      ∙ placed (predecessor_of (record { slot = slot_of m; chain = r })) (successor_of (record { slot = slot_of m; chain = r })) (is_tail (record { slot = slot_of m; chain = r })) above below ends
    where
      runs : (chain : Record) (turned : Bool) (stopped : Option Cause) (holds : Bool) (table : Table) (known : ℕ) → chain ≡ r → turned ≡ true → stopped ≡ None → holds ≡ false → table ≡ record { forgotten = front; kept = [] }
          → known ≡ front
          → (let p : Standing = record { slot = slot_of m; chain = chain } in
          let n : Node = record { epoch = chain.epoch; turned = turned; above = predecessor_of p; below = successor_of p; stopped = is_some stopped; ends = is_tail p; holds = holds; table = table; known = known } in
          let q : Standing = record { slot = slot_of m; chain = r } in n ≡ placed_node (predecessor_of q) (successor_of q) (is_tail q))
      runs chain turned stopped holds table known a b c d e f = rw (a, b, c, d, e, f) refl

      placed : (a b : Option ℕ) (e : Bool) → a ≡ prev → b ≡ first_of vs → e ≡ is_end vs → placed_node a b e ≡ placed_node prev (first_of vs) (is_end vs)
      placed a b e one two three = rw (one, two, three) refl

  hop_is : (prev : Option ℕ) (s : ℕ) (vs : List ℕ) → hop_of r.epoch (λ x y. passed_on (links x y)) prev s (placed_node prev (first_of vs) (is_end vs)) ≡ fresh front (is_end vs)
  hop_is prev s vs = rw (eq-eqb r.epoch r.epoch refl, itself_slot prev, lane prev) refl
    where
      lane : (o : Option ℕ) → at_epoch r.epoch (from_slot (λ x y. passed_on (links x y)) o s) ≡ []
      lane None = refl
      lane (Some p) = ap (λ (l : List Envelope). at_epoch r.epoch (passed_on l)) (no_links p s)

  module _ (members : List Member) (apart : Apart (chain_of r)) where
    abbrev net : Net
    net = net_of r links members

    abbrev StandsThere : Member → Type 0
    StandsThere m = node_at members (slot_of m) ≡ node_of m.node

    -- what is seen of one
    hop_there : (m : Member) (prev : Option ℕ) (vs : List ℕ) → IsIdle r front volume m → StandsThere m → HasPlace m prev vs → hop_at net prev (slot_of m) ≡ fresh front (is_end vs)
    hop_there m prev vs idle there placed = ap (λ (n : Node). hop_of r.epoch (λ x y. passed_on (links x y)) prev (slot_of m) n) (there ∙ idle_is m prev vs idle placed) ∙ hop_is prev (slot_of m) vs

    -- and down the chain
    hops_below : (us : List ℕ) (p : ℕ) (ms : List Member) → chain_of r ≡ us ++ p ∷ slots_of ms → All (IsIdle r front volume) ms → All StandsThere ms → hops_from net (Some p) (slots_of ms) ≡ started front (length ms)
    hops_below us p [] chain idle there = refl
    hops_below us p (m ∷ ms) chain idle there =
        ap (λ (h : Hop). h ∷ hops_from net (Some (slot_of m)) (slots_of ms))
        (hop_there m (Some p) (slots_of ms) (All-head (IsIdle r front volume) m ms idle) (All-head StandsThere m ms there) (placed_behind r us p (slot_of m) (slots_of ms) apart chain))
        ∙ ap (λ (l : List Hop). fresh front (is_end (slots_of ms)) ∷ l)
        (hops_below (us ++ p ∷ []) (slot_of m) ms (chain ∙ sym (append_assoc us (p ∷ []) (slots_of (m ∷ ms)))) (All-tail (IsIdle r front volume) m ms idle) (All-tail StandsThere m ms there))
        ∙ sym (started_next front ms)

    hops_all : (ms : List Member) → chain_of r ≡ slots_of ms → All (IsIdle r front volume) ms → All StandsThere ms → hops_from net None (slots_of ms) ≡ started front (length ms)
    hops_all [] chain idle there = refl
    hops_all (m ∷ ms) chain idle there =
        ap (λ (h : Hop). h ∷ hops_from net (Some (slot_of m)) (slots_of ms))
        (hop_there m None (slots_of ms) (All-head (IsIdle r front volume) m ms idle) (All-head StandsThere m ms there) (placed_first r (slot_of m) (slots_of ms) apart chain))
        ∙ ap (λ (l : List Hop). fresh front (is_end (slots_of ms)) ∷ l)
        (hops_below [] (slot_of m) ms chain (All-tail (IsIdle r front volume) m ms idle) (All-tail StandsThere m ms there))
        ∙ sym (started_next front ms)

-- each stands at its slot
stand_there : (above ms : List Member) → AllPairs (λ slot other. slot ≢ other) (slots_of (above ++ ms)) → All (λ m. node_at (above ++ ms) (slot_of m) ≡ node_of m.node) ms
stand_there above [] apart = All-nil (λ m. node_at (above ++ []) (slot_of m) ≡ node_of m.node)
stand_there above (m ∷ ms) apart =
    let same : (above ++ m ∷ []) ++ ms ≡ above ++ m ∷ ms = append_assoc above (m ∷ []) ms in
    All-cons (λ x. node_at (above ++ m ∷ ms) (slot_of x) ≡ node_of x.node) m ms (node_here above m ms apart)
    (subst (λ (l : List Member). All (λ x. node_at l (slot_of x) ≡ node_of x.node) ms) same
    (stand_there (above ++ m ∷ []) ms (subst (λ (l : List Member). AllPairs (λ slot other. slot ≢ other) (slots_of l)) (sym same) apart)))

-- ---- who was told what

-- each is recorded with its incarnation
recorded_at : (r : Record) (ms : List Member) → r.members ≡ map recorded_as ms → AllPairs (λ slot other. slot ≢ other) (slots_of ms) → (i : ℕ) (d : Member) → i < length ms
    → incarnation_in r (slot_of (get_or ms i d)) ≡ Some (get_or ms i d).node.incarnation
recorded_at r ms are apart i d lt =
    let x : recorded.Member = recorded_as (get_or ms i d) in
    let there : slice_get r.members i ≡ Some x = ap (λ (l : List recorded.Member). slice_get l i) are ∙ slice_get-map recorded_as ms i ∙ ap (option_map recorded_as) (slice_get-get_or ms i d lt) in
    let long : length r.members ≡ length ms = ap length are ∙ length-map ms recorded_as in
    let slot_at : (k : ℕ) → k < length ms → (get_or r.members k x).slot ≡ slot_of (get_or ms k d) =
    λ k within. ap (λ (l : List recorded.Member). (get_or l k x).slot) are ∙ ap (λ (y : recorded.Member). y.slot) (get_or-map recorded_as ms k d x within) in
    let is : position_or_len (λ (m : recorded.Member). eqb m.slot x.slot) r.members ≡ i =
    position_or_len_is (λ (m : recorded.Member). eqb m.slot x.slot) r.members i x (omega (arith, lt, long))
    (λ k within. ne_eqb (get_or r.members k x).slot x.slot (λ same. apart k i (slot_of d) within (omega (arith, lt, length-map ms slot_of))
    (get_or-map slot_of ms k d (slot_of d) (omega (arith, lt, within)) ∙ sym (slot_at k (omega (arith, lt, within))) ∙ same ∙ sym (get_or-map slot_of ms i d (slot_of d) lt))))
    (λ within. eq-eqb (get_or r.members i x).slot x.slot (slot_at i lt)) in
    let place : place_in r (slot_of (get_or ms i d)) ≡ Some i = rw is (cond-true (ltb i (length r.members)) (Some i) None (lt-ltb i (length r.members) (omega (arith, lt, long)))) in
    ap (λ (o : Option ℕ). option_map (λ (m : recorded.Member). m.incarnation) (member_at r o)) place ∙ ap (option_map (λ (m : recorded.Member). m.incarnation)) there

module _ (r before : Record) (front : ℕ) (volume : List ℕ) (ms : List Member) (same : before ≡ r) (are : r.members ≡ map recorded_as ms) (slots : AllPairs (λ slot other. slot ≢ other) (slots_of ms)) (idle : All (IsIdle r front volume) ms) where
  chain_is : chain_of r ≡ slots_of ms
  chain_is = ap (map (λ (m : recorded.Member). m.slot)) are ∙ chain_as ms

  chain_apart : Apart (chain_of r)
  chain_apart = subst Apart (sym chain_is) (apart_of (slots_of ms) slots)

  told_idle : (m : Member) → IsIdle r front volume m → incarnation_in r (slot_of m) ≡ Some m.node.incarnation → IsTold r before m.node
  told_idle m is there =
      let epoch : m.node.place.chain.epoch ≡ r.epoch = ap (λ (c : Record). c.epoch) is.told in
      record {
        within = omega (arith, epoch);
        now = λ at. is.told;
        old = λ at. absurd (omega (arith, epoch, at));
        near = λ runs. omega (arith, epoch);
        there = λ runs. there;
        itself = λ runs. subst (IsIfThere m.node.incarnation) (sym (subst (λ (c : Record). incarnation_in c (slot_of m) ≡ Some m.node.incarnation) (sym is.told) there)) (is_itself m.node.incarnation);
      }

  placed_idle : ArePlaced r before ms
  placed_idle = record {
    apart = chain_apart;
    apart_before = subst (λ (c : Record). Apart (chain_of c)) (sym same) chain_apart;
    close = subst (λ (c : Record). Close (chain_of c) (chain_of r)) (sym same) (λ y t in_y in_t is. is);
    first = λ s is there. ap head_of (sym same) ∙ is;
    stands = subst (λ (c : List ℕ). All (λ s. Contains (slots_of ms) s) c) (sym chain_is) (All-contains_itself (slots_of ms));
    stood = λ i d lt late. subst (λ (c : Record). All (λ s. Contains (slots_of ms) s) (chain_of c)) (sym same) (subst (λ (c : List ℕ). All (λ s. Contains (slots_of ms) s) c) (sym chain_is) (All-contains_itself (slots_of ms)));
    told = λ i d lt. told_idle (get_or ms i d) (idle i d lt) (recorded_at r ms are slots i d lt);
  }

  -- each has the whole line on its disk
  ordered_idle : (line : List Kept) (links : ℕ → ℕ → List Envelope) → ((from to : ℕ) → links from to ≡ []) → front ≡ length line → AreNumberedFrom 1 line → InOrder front line (hops_of (net_of r links ms))
  ordered_idle line links none long numbered =
      let seen : hops_of (net_of r links ms) ≡ started front (length ms) =
      ap (hops_from (net_of r links ms) None) chain_is ∙ hops_all r front volume links none ms chain_apart ms chain_is idle (stand_there [] ms slots) in
      subst (λ (hops : List Hop). InOrder front line hops) (sym seen)
      (subst (λ (n : ℕ). InOrder n line (started n (length ms))) (sym long) (start_in_order (length ms) line numbered))

-- ---- what a beginning chain stands for

-- what holds of all disks holds of those that may be recorded
disks_among : (P : Disk → Type 0) (recorded : Record) (writing : Option Record) (ms : List Member) → All P (map disk_of ms) → All P (disks_of recorded writing ms)
disks_among P recorded writing [] all = All-nil P
disks_among P recorded writing (m ∷ ms) all = All-append P (disk_in recorded writing m) (disks_of recorded writing ms) one (disks_among P recorded writing ms (All-tail P (disk_of m) (map disk_of ms) all))
  where
    one : All P (disk_in recorded writing m)
    one = elim (cases_Bool (may_be_recorded recorded writing m.node)) [
      | inl may ↦ subst (All P) (sym (cond-true (may_be_recorded recorded writing m.node) (disk_of m ∷ []) [] may)) (All-cons P (disk_of m) [] (All-head P (disk_of m) (map disk_of ms) all) (All-nil P))
      | inr may_not ↦ subst (All P) (sym (cond-false (may_be_recorded recorded writing m.node) (disk_of m ∷ []) [] may_not)) (All-nil P)
    ]

-- nothing is on empty submit links
none_submitted : (r before : Record) (submits : ℕ → ℕ → List Envelope) (slots : List ℕ) → ((from to : ℕ) → submits from to ≡ []) → submitted_among r before submits slots ≡ []
none_submitted r before submits slots none =
    flat_none (λ from. Unit {0}) (submitted_from r before submits slots)
    (λ from any. flat_none (λ to. Unit {0}) (λ to. submitted_on r before from (submits from to)) (λ to any. ap (submitted_on r before from) (none from to)) slots (λ i d lt. tt)) slots (λ i d lt. tt)

module _ (size front : ℕ) (volume : List ℕ) (v : View) (line : List Kept) (is : IsBeginning front volume v) where
  beginning_requests : requests_of v line ≡ line_alone front line
  beginning_requests =
      alone v.told.front (submitted_among v.recorded v.before v.submits (slots_of v.members)) (flat_map tokens_of v.members) (flat_map looked_of v.members) (flat_map (λ m. m.demands) v.members) v.kept
      is.told (none_submitted v.recorded v.before v.submits (slots_of v.members) is.no_submits)
      (flat_none (IsIdle v.recorded front volume) tokens_of (λ m idle. ap (owing_at m.node) idle.waiting) v.members is.idle)
      (flat_none (IsIdle v.recorded front volume) looked_of (λ m idle. ap (looked_by m.node.place.slot) idle.found) v.members is.idle)
      (flat_none (IsIdle v.recorded front volume) (λ m. m.demands) (λ m idle. idle.demands) v.members is.idle) is.no_sessions
    where
      alone : (f : ℕ) (submits : List Submitted) (tokens : List Owing) (looked : List Looked) (demands : List Held) (kept : List (List Held)) → f ≡ front → submits ≡ [] → tokens ≡ [] → looked ≡ [] → demands ≡ [] → kept ≡ []
          → (let one : Requests = record { front = f; line = line; submits = submits; tokens = tokens; looked = looked; demands = demands; kept = kept } in one ≡ line_alone front line)
      alone f submits tokens looked demands kept a b c d e g = rw (a, b, c, d, e, g) refl

  idle_disks : (P : Disk → Type 0) → ((slot : ℕ) → P (record { slot = slot; durable = front })) → All P (disks_of v.recorded v.writing v.members)
  idle_disks P holds = disks_among P v.recorded v.writing v.members (go v.members is.idle)
    where
      go : (ms : List Member) → All (IsIdle v.recorded front volume) ms → All P (map disk_of ms)
      go [] all = All-nil P
      go (m ∷ ms) all =
          let idle = All-head (IsIdle v.recorded front volume) m ms all in
          let here : P (disk_of m) = subst (λ (t : Table). P (record { slot = m.node.place.slot; durable = t.forgotten })) (sym idle.table) (holds m.node.place.slot) in
          All-cons P (disk_of m) (map disk_of ms) here (go ms (All-tail (IsIdle v.recorded front volume) m ms all))

  -- its members stand for what the line alone stands for, where all origins are past
  beginning_stands : (s : State) → AreNumberedFrom 1 line → front ≡ length line → volume ≡ volume_after size line → All (λ k. k.origin.incarnation ≡ 0) line → requests.StandsFor front (line_alone front line) s
      → MembersStand size v s
  beginning_stands s numbered long volume_is gone clients = (
    line,
    front,
    record {
      order = ordered.0;
      holders = ordered.1;
      volumes = λ i d lt. volume_there (get_or v.members i d) (is.idle i d lt);
      places = placed_idle v.recorded v.before front volume v.members is.before_is is.recorded_are is.slots is.idle;
      leavable = subst (λ (w : Option Record). LeavesRecorded v.recorded w v.members) (sym is.not_writing) (λ i d lt none. absurd cc);
      links = record {
        links_of = λ from to. subst (All (λ e. (e.epoch ≤ v.recorded.epoch) × Belongs v.recorded v.before v.told.front e.epoch from to e.message)) (sym (is.no_links from to))
            (All-nil (λ e. (e.epoch ≤ v.recorded.epoch) × Belongs v.recorded v.before v.told.front e.epoch from to e.message));
        submits_of = λ from to. subst (All (λ e. (e.epoch ≤ v.recorded.epoch) × BelongsToHead v.recorded v.before e.epoch from to e.message)) (sym (is.no_submits from to))
            (All-nil (λ e. (e.epoch ≤ v.recorded.epoch) × BelongsToHead v.recorded v.before e.epoch from to e.message));
      };
      numbers = λ i d lt. none_waits (get_or v.members i d) (is.idle i d lt);
      disks = record {
        mask_covers = disks_among (λ d. counts v.told.mask d.slot ≡ true) v.recorded v.writing v.members is.mask;
        gauges_backed = λ i d lt. idle_disks (λ x. x.slot ≡ (get_or v.told.gauges i d).slot → (get_or v.told.gauges i d).front ≤ x.durable) (λ slot same. is.gauges i d lt);
        receipts_backed = subst (All (λ r. All (λ d. d.slot ≡ r.slot → r.front ≤ d.durable) (disks_of v.recorded v.writing v.members))) (sym is.no_receipts)
            (All-nil (λ r. All (λ d. d.slot ≡ r.slot → r.front ≤ d.durable) (disks_of v.recorded v.writing v.members)));
        mustered = subst (All (IsMustered v.told.front (disks_of v.recorded v.writing v.members))) (sym is.no_musters) (All-nil (IsMustered v.told.front (disks_of v.recorded v.writing v.members)));
      };
      within = record {
        gauges_within = subst (λ f. All (λ r. r.front ≤ f) v.told.gauges) (sym is.told) is.gauges;
        receipts_within = subst (All (λ r. r.front ≤ v.told.front)) (sym is.no_receipts) (All-nil (λ (r : Receipt). r.front ≤ v.told.front));
        musters_within = subst (All (λ m. All (λ r. r.front ≤ v.told.front) m.gauges)) (sym is.no_musters) (All-nil (λ (m : Muster). All (λ r. r.front ≤ v.told.front) m.gauges));
      };
      backs = idle_disks (λ d. front ≤ d.durable) (λ slot. omega arith);
      fronts = subst (All (λ f. f ≤ v.told.front)) (sym is.no_fronts) (All-nil (λ f. f ≤ v.told.front));
      raised = subst (All (λ f. f ≤ v.told.front)) (sym (flat_none (IsIdle v.recorded front volume) raised_of (λ m idle. ap raised_by idle.found) v.members is.idle)) (All-nil (λ f. f ≤ v.told.front));
      clients = subst (λ (r : Requests). requests.StandsFor front r s) (sym beginning_requests) clients;
      slots = is.slots;
      tickets = nexts v.members is.idle;
      dated = is.dated;
      dated_before = subst (IsDated v.youngest) (sym is.before_is) is.dated;
      origins = All-weaker (λ (k : Kept). k.origin.incarnation ≡ 0) (λ k. k.origin.incarnation ≤ v.youngest) (λ k none. omega (arith, none)) line gone;
    },
  )
    where
      ordered : InOrder v.told.front line (hops_of (net_of v.recorded v.links v.members))
      ordered = subst (λ (f : ℕ). InOrder f line (hops_of (net_of v.recorded v.links v.members))) (sym is.told)
          (ordered_idle v.recorded v.before front volume v.members is.before_is is.recorded_are is.slots is.idle line v.links is.no_links long numbered)

      volume_there : (m : Member) → IsIdle v.recorded front volume m → HasVolume size v.told.front line m
      volume_there m idle =
          let whole : take m.node.table.forgotten line ≡ line = ap (λ (t : Table). take t.forgotten line) idle.table ∙ take_all front line (omega (arith, long)) in
          record { committed = omega (arith, ap (λ (t : Table). t.forgotten) idle.table, is.told); is = idle.volume_is ∙ volume_is ∙ ap (volume_after size) (sym whole) }

      none_waits : (m : Member) → IsIdle v.recorded front volume m → HasApplied m
      none_waits m idle = record { applied = subst (All (IsApplied (last_of m.node))) (sym idle.waiting) (All-nil (IsApplied (last_of m.node))); none = λ stops. absurd (stops idle.runs) }

      before_all : (next : Origin) → 0 < next.incarnation → AreBefore (requests_of v line) next
      before_all next some = subst (λ (r : Requests). AreBefore r next) (sym beginning_requests) (record {
        line = All-weaker (λ k. k.origin.incarnation ≡ 0) (λ k. IsBefore next k.origin) (λ k none slot same. absurd (omega arith)) line gone;
        submits = All-nil (λ x. IsBefore next x.origin);
        tokens = All-nil (IsTokenBefore next);
      })

      nexts : (ms : List Member) → All (IsIdle v.recorded front volume) ms → All (AreBefore (requests_of v line)) (map next_of ms)
      nexts [] all = All-nil (AreBefore (requests_of v line))
      nexts (m ∷ ms) all =
          All-cons (AreBefore (requests_of v line)) (next_of m) (map next_of ms) (before_all (next_of m) (All-head (IsIdle v.recorded front volume) m ms all).incarnation)
          (nexts ms (All-tail (IsIdle v.recorded front volume) m ms all))

-- ---- the laws

-- where nobody joins, the members are all
nobody_joins : (size : ℕ) (v : View) (s : State) → MembersStand size v s → v.joiner ≡ None → StandsFor size v s
nobody_joins size v s stands none = (stands, λ j is. let no : None ≡ Some j = sym none ∙ is in cc)

pub first_chain : FirstChain
first_chain size v is = nobody_joins size v start (beginning_stands size 0 (volume_of size []) v [] is start tt refl refl (All-nil (λ k. k.origin.incarnation ≡ 0)) starts) is.no_joiner

numbered_passed : (n : ℕ) (ks : List Kept) → AreNumberedFrom n ks → AreNumberedFrom n (map passed ks)
numbered_passed n [] numbered = tt
numbered_passed n (k ∷ ks) (here, numbered) = (here, numbered_passed (n + 1) ks numbered)

numbered_taken : (n j : ℕ) (ks : List Kept) → AreNumberedFrom n ks → AreNumberedFrom n (take j ks)
numbered_taken n zero ks numbered = tt
numbered_taken n (suc j) [] numbered = tt
numbered_taken n (suc j) (k ∷ ks) (here, numbered) = (here, numbered_taken (n + 1) j ks numbered)

passed_gone : (ks : List Kept) → All (λ k. k.origin.incarnation ≡ 0) (map passed ks)
passed_gone [] = All-nil (λ k. k.origin.incarnation ≡ 0)
passed_gone (k ∷ ks) = All-cons (λ x. x.origin.incarnation ≡ 0) (passed k) (map passed ks) refl (passed_gone ks)

passed_volume : (size : ℕ) (ks : List Kept) → volume_after size (map passed ks) ≡ volume_after size ks
passed_volume size ks = ap (volume_of size) (written ks)
  where
    written : (xs : List Kept) → map (λ (k : Kept). k.write) (map passed xs) ≡ map (λ (k : Kept). k.write) xs
    written [] = refl
    written (x ∷ xs) = ap (λ (l : List Placed). x.write ∷ l) (written xs)

-- a chain goes on from a front that is committed, with all that is owed, and the volume there
goes_on_at : (size : ℕ) (v : View) (s : State) (line : List Kept) (backed : ℕ) (p : ℕ) (volume : List ℕ) (w : View) → StandsWith size v s line backed → s.owed ≤ p → p ≤ v.told.front → volume ≡ volume_after size (take p line)
    → IsBeginning p volume w → May s (Restart p) × StandsFor size w (after s (Restart p))
goes_on_at size v s line backed p volume w stands owed within volume_is is =
    let taken : p ≤ length s.taken = omega (arith, within, stands.clients.1.committed) in
    let long : p ≡ length (take p line) = sym (length-take-le p line (omega (arith, within, stands.order.within))) in
    let alone = forgets_origins p (take p line) (after s (Restart p)) (restarts backed (requests_of v line) p s stands.clients owed within) long in (
      (owed, taken),
      nobody_joins size w (after s (Restart p))
          (beginning_stands size p volume w (map passed (take p line)) is (after s (Restart p)) (numbered_passed 1 (take p line) (numbered_taken 1 p line stands.order.numbered)) (omega (arith, long, length-map (take p line) passed))
          (volume_is ∙ sym (passed_volume size (take p line))) (passed_gone (take p line)) alone)
          is.no_joiner,
    )

pub restarts_chain : RestartsChain
restarts_chain size v above m below s p w ((line, backed, stands), joins) may from upto is =
    let (owed, taken, same_volume) = is_on_each_disk size v above m below s p ((line, backed, stands), joins) may from upto in
    let reach = reach_recorded size v above m below s line backed stands may in
    goes_on_at size (with_members v (above ++ m ∷ below)) s line backed p (fold patched m.volume (writes_upto m.node.table p)) w stands owed (omega (arith, upto, reach.known))
    (volume_recorded size v above m below s line backed p stands reach from upto) is

-- the joiner's disk has all that is committed
pub restarts_from_joiner : RestartsFromJoiner
restarts_from_joiner size v j s w ((line, backed, stands), joins) here is =
    let it : IsJoining size v s j = joins j here in
    let (names, clients) = stands.clients in
    let within : j.front ≤ v.told.front = omega (arith, it.held) in
    goes_on_at size v s line backed j.front j.volume w stands (omega (arith, clients.sound.owed_taken, clients.committed, it.held)) within
    (it.volume ∙ ap (volume_of size) (first_writes_are backed (requests_of v line) s names clients j.front within)) is
