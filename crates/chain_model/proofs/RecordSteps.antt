-- The next record is being written, and recorded: what a chain stands for stays. Lemmas.
use Rattle.std.proofs.Common.{if◌then◌else◌, ◌≡◌, ◌≢◌, inl, inr, ℕ, suc, ◌==◌, ◌≤◌, Bool, true, false, ◌||◌, is_some, Option, None, Some, List, [], ◌∷◌, ◌++◌, get_or, length, map, refl, sym, ◌∙◌, ap, subst, arith}
use Rattle.std.specs.Prelude.{All}
use Rattle.std.specs.List.{Contains}
use Rattle.std.proofs.lemmas.Bool.{cases_Bool, cond-false, cond-true, ne_eqb}
use Rattle.std.proofs.lemmas.List.{append_assoc, map-append}
use Rattle.std.proofs.lemmas.List.Elements.{All-cons, All-contains, All-contains_itself, All-head, All-tail, All-weaker, Contains-append_right}
use Rattle.std.proofs.lemmas.Option.{same_Some}
use Rattle.board.specs.Mask.{counts}
use Rattle.configurations.specs.Record.{Record}
use Rattle.configurations.specs.declared.member.Member as entries
use Rattle.gate_journal.specs.Receipt.{Receipt}
use Rattle.version_table.specs.declared.kept.Kept.{Kept}
use Rattle.version_table.specs.declared.kept.Origin.{Origin}
use Rattle.chain_steps.specs.Node.{NodeState, epoch_of}
use Rattle.chain_steps.specs.Place.{head_of, incarnation_in, is_it, predecessor_of}
use Rattle.chain_steps.specs.declared.cause.Cause.{Cause}
use Rattle.chain_steps.specs.declared.message.Envelope.{Envelope}
use Rattle.chain_steps.specs.declared.message.Message.{Message}
use Rattle.chain_steps.specs.declared.message.Message.TheVariants as messages
use Rattle.world_model.specs.Backing.{Disk, IsBacked, IsMustered, IsOnDisk, Muster}
use Rattle.world_model.specs.Chain.{IsBefore}
use Rattle.world_model.proofs.Counting.{all_at, all_before, all_behind, all_without}
use Rattle.chain_model.specs.Links.{AllTold, Net, Node, Records, Stamped, at_epoch, hops_from, hops_of, stamped}
use Rattle.chain_model.proofs.Incarnations.{of_any_epoch, same_without, slots, with_entries}
use Rattle.chain_model.proofs.InOrder.{InOrder, alike_in_order, record_in_order}
use Rattle.chain_model.proofs.LinkSteps.{remove_shows, same_shows, told_stage}
use Rattle.world_model.specs.Machine.{State}
use Rattle.chain_model.specs.Placed.{Apart, Close}
use Rattle.chain_model.proofs.PlacedSteps.{records_are_close}
use Rattle.chain_model.specs.Replicas.{Now, Old, Past}
use Rattle.chain_model.specs.Replicas as replicas
use Rattle.world_model.specs.Requests.{Requests}
use Rattle.chain_model.specs.TurningSteps.{is_untold}
use Rattle.chain_model.specs.TurningSteps as turning
use Rattle.chain_model.specs.Chain.{AreLinked, ArePlaced, Belongs, BelongsToHead, IsAbove, IsDated, IsTold, StandsWith}
use Rattle.chain_model.proofs.Changing.{plays_of}
use Rattle.chain_model.specs.Laws.{BeginsRecord, EndsRecord, IsNext, IsWithout}
use Rattle.chain_model.proofs.NetSteps.{StandsAt, stands_at}
use Rattle.chain_model.proofs.PlaceSteps.{is_among, place_of, placed_behind, placed_first}
use Rattle.chain_model.proofs.SubmitSteps.{fewer_recorded, recorded_submits}
use Rattle.chain_model.specs.View.{Member, View, chain_of, disk_in, disk_of, disks_of, is_in, net_of, next_of, passed_in, passed_on, requests_of, slot_of, slots_of}

-- ---- a list of slots without one

-- the one left out is none of those that are left
left_out : (xs ys : List ℕ) (m : ℕ) → Apart (xs ++ m ∷ ys) → All (λ k. k ≢ m) (xs ++ ys)
left_out [] ys m (others, apart) = others
left_out (x ∷ xs) ys m (others, apart) = All-cons (λ k. k ≢ m) x (xs ++ ys) (λ is. all_at (λ k. k ≢ x) xs m ys others (sym is)) (left_out xs ys m apart)

-- and they are apart
apart_without : (xs ys : List ℕ) (m : ℕ) → Apart (xs ++ m ∷ ys) → Apart (xs ++ ys)
apart_without [] ys m (others, apart) = apart
apart_without (x ∷ xs) ys m (others, apart) = (all_without (λ k. k ≢ x) xs m ys others, apart_without xs ys m apart)

-- ---- what the next record has of the recorded one

-- Its slots are some of those, in order; whoever is in it was in that one, at its slot, and whoever runs is in it still.
record Succeeds (recorded next : Record) (members : List Member) : Type 0 where
  apart : Apart (chain_of next)
  close : Close (chain_of recorded) (chain_of next)
  first : (s : ℕ) → head_of recorded ≡ Some s → Contains (chain_of next) s → head_of next ≡ Some s
  some : All (Contains (chain_of recorded)) (chain_of next)
  was : (s i : ℕ) → incarnation_in next s ≡ Some i → incarnation_in recorded s ≡ Some i
  stays : All (λ m. m.node.stopped ≡ None → incarnation_in next (slot_of m) ≡ incarnation_in recorded (slot_of m)) members

-- the same members, of any epoch
same_members : (recorded next : Record) (members : List Member) → next.members ≡ recorded.members → Apart (chain_of recorded) → Succeeds recorded next members
same_members recorded next members same apart =
    let chain : chain_of recorded ≡ chain_of next = ap slots (sym same) in
    let incarnation : (s : ℕ) → incarnation_in next s ≡ incarnation_in recorded s =
    λ s. ap (λ ms. incarnation_in (with_entries next.epoch ms) s) same ∙ of_any_epoch next.epoch recorded.epoch recorded.members (place_of recorded.members s) in
    record {
      apart = subst Apart chain apart;
      close = subst (Close (chain_of recorded)) chain (λ y t one other is. is);
      first = λ s is there. ap (λ ms. head_of (with_entries next.epoch ms)) same ∙ is;
      some = subst (All (Contains (chain_of recorded))) chain (All-contains_itself (chain_of recorded));
      was = λ s i is. sym (incarnation s) ∙ is;
      stays = λ k d lt runs. incarnation (slot_of (get_or members k d));
    }

-- the head stays the head, if it is in the chain still
first_without : (e f : ℕ) (before : List entries.Member) (removed : entries.Member) (behind : List entries.Member) (s : ℕ) → removed.slot ≢ s
    → head_of (with_entries e (before ++ removed ∷ behind)) ≡ Some s → head_of (with_entries f (before ++ behind)) ≡ Some s
first_without e f [] removed behind s apart is = absurd (apart (same_Some removed.slot s is))
first_without e f (x ∷ before) removed behind s apart is = is

-- without one member, which has stopped
without_one : (v : View) (next : Record) → IsWithout v next → Apart (chain_of v.recorded) → Succeeds v.recorded next v.members
without_one v next out apart =
    let m : ℕ = out.removed.slot in
    let chain : chain_of v.recorded ≡ slots out.before ++ m ∷ slots out.behind = ap slots out.were ∙ map-append (λ (x : entries.Member). x.slot) out.before (out.removed ∷ out.behind) in
    let rest : chain_of next ≡ slots out.before ++ slots out.behind = ap slots out.are ∙ map-append (λ (x : entries.Member). x.slot) out.before out.behind in
    let apart_there : Apart (slots out.before ++ m ∷ slots out.behind) = subst Apart chain apart in
    let not_there : (s : ℕ) → Contains (chain_of next) s → m ≢ s =
    λ s there is. All-contains (λ k. k ≢ m) (chain_of next) s (subst (All (λ k. k ≢ m)) (sym rest) (left_out (slots out.before) (slots out.behind) m apart_there)) there (sym is) in
    let incarnation : (s : ℕ) → m ≢ s → incarnation_in next s ≡ incarnation_in v.recorded s =
    λ s other. ap (λ ms. incarnation_in (with_entries next.epoch ms) s) out.are ∙ same_without next.epoch out.before out.removed out.behind s other
    ∙ of_any_epoch next.epoch v.recorded.epoch (out.before ++ out.removed ∷ out.behind) (place_of (out.before ++ out.removed ∷ out.behind) s)
    ∙ ap (λ ms. incarnation_in (with_entries v.recorded.epoch ms) s) (sym out.were) in
    record {
      apart = subst Apart (sym rest) (apart_without (slots out.before) (slots out.behind) m apart_there);
      close = subst (λ c. Close c (chain_of next)) (sym chain) (subst (Close (slots out.before ++ m ∷ slots out.behind)) (sym rest) ((records_are_close (slots out.before) (slots out.behind) m).0 apart_there));
      first = λ s is there. ap (λ ms. head_of (with_entries next.epoch ms)) out.are
          ∙ first_without v.recorded.epoch next.epoch out.before out.removed out.behind s (not_there s there) (ap (λ ms. head_of (with_entries v.recorded.epoch ms)) (sym out.were) ∙ is);
      some = subst (λ c. All (Contains c) (chain_of next)) (sym chain) (subst (All (Contains (slots out.before ++ m ∷ slots out.behind))) (sym rest)
          (all_without (Contains (slots out.before ++ m ∷ slots out.behind)) (slots out.before) m (slots out.behind) (All-contains_itself (slots out.before ++ m ∷ slots out.behind))));
      was = λ s i is. sym (incarnation s (not_there s (is_among next s i is))) ∙ is;
      stays = λ k d lt runs. incarnation (slot_of (get_or v.members k d)) (λ is. out.stopped k d lt (sym is) runs);
    }

-- the next record succeeds the recorded one
succeeds : (v : View) (next : Record) → IsNext v next → Apart (chain_of v.recorded) → Succeeds v.recorded next v.members
succeeds v next is apart = elim is.members [ inl out ↦ without_one v next out apart | inr same ↦ same_members v.recorded next v.members same apart ]

-- ---- incarnations

-- the next record has none that the recorded one hasn't
next_dated : (v : View) (next : Record) → IsNext v next → IsDated v.youngest v.recorded → IsDated v.youngest next
next_dated v next is dated = elim is.members [
  | inl out ↦
      let P = λ (m : entries.Member). m.incarnation ≤ v.youngest in
      subst (All P) (sym out.are) (all_without P out.before out.removed out.behind (subst (All P) out.were dated))
  | inr same ↦ subst (All (λ (m : entries.Member). m.incarnation ≤ v.youngest)) (sym same) dated
]

-- ---- disks

-- whoever is in the next record is in the recorded one
is_in_was : (recorded next : Record) (members : List Member) → Succeeds recorded next members → (slot incarnation : ℕ) → is_in next slot incarnation ≡ true → is_in recorded slot incarnation ≡ true
is_in_was recorded next members follows slot incarnation is =
    let (other, found, same) = found_as (incarnation_in next slot) is in ap (is_it incarnation) (follows.was slot other found) ∙ same
  where
    found_as : (o : Option ℕ) → is_it incarnation o ≡ true → (other : ℕ) × (o ≡ Some other) × ((other == incarnation) ≡ true)
    found_as None is = absurd cc
    found_as (Some other) is = (other, refl, is)

module _ (recorded next : Record) (was : (slot incarnation : ℕ) → is_in next slot incarnation ≡ true → is_in recorded slot incarnation ≡ true) where
  -- so the next record adds no disk
  disk_written : (m : Member) → disk_in recorded (Some next) m ≡ disk_in recorded None m
  disk_written m = elim (cases_Bool (is_in next m.node.place.slot m.node.incarnation)) [
    | inl yes_in ↦ rw (yes_in, was m.node.place.slot m.node.incarnation yes_in) refl
    | inr not_in ↦ rw not_in refl
  ]

  disks_written : (ms : List Member) → disks_of recorded (Some next) ms ≡ disks_of recorded None ms
  disks_written [] = refl
  disks_written (m ∷ ms) = ap (λ ds. ds ++ disks_of recorded (Some next) ms) (disk_written m) ∙ ap (λ ds. disk_in recorded None m ++ ds) (disks_written ms)

-- a disk by the two records
disk_by : (a b : Bool) (d : Disk) → b ≡ true → (if a || b then d ∷ [] else []) ≡ d ∷ []
disk_by true b d is = refl
disk_by false b d is = cond-true b (d ∷ []) [] is

-- and its disks are some of those that a stop may leave recorded while it is written
pub fewer_disks : (P : Disk → Type 0) (recorded next : Record) (ms : List Member) → All P (disks_of recorded (Some next) ms) → All P (disks_of next None ms)
fewer_disks P recorded next [] all = all
fewer_disks P recorded next (m ∷ ms) all =
    let rest : All P (disks_of next None ms) = fewer_disks P recorded next ms (all_behind P (disk_in recorded (Some next) m) (disks_of recorded (Some next) ms) all) in
    elim (cases_Bool (is_in next m.node.place.slot m.node.incarnation)) [
      | inl here ↦
          let old : disk_in recorded (Some next) m ≡ disk_of m ∷ [] = disk_by (is_in recorded m.node.place.slot m.node.incarnation) (is_in next m.node.place.slot m.node.incarnation) (disk_of m) here in
          let new : disk_in next None m ≡ disk_of m ∷ [] = rw here refl in
          subst (λ ds. All P (ds ++ disks_of next None ms)) (sym new)
          (All-cons P (disk_of m) (disks_of next None ms) (All-head P (disk_of m) (disks_of recorded (Some next) ms) (subst (λ ds. All P (ds ++ disks_of recorded (Some next) ms)) old all)) rest)
      | inr gone ↦ let new : disk_in next None m ≡ [] = rw gone refl in subst (λ ds. All P (ds ++ disks_of next None ms)) (sym new) rest
    ]

-- what the board tells of disks is so of some of them
pub backs_fewer : (committed mask : ℕ) (gauges receipts : List Receipt) (musters : List Muster) (ds es : List Disk) → ((P : Disk → Type 0) → All P ds → All P es) → IsBacked committed mask gauges receipts musters ds
    → IsBacked committed mask gauges receipts musters es
backs_fewer committed mask gauges receipts musters ds es fewer is = record {
  mask_covers = fewer (λ d. counts mask d.slot ≡ true) is.mask_covers;
  gauges_backed = All-weaker (IsOnDisk ds) (IsOnDisk es) on_fewer gauges is.gauges_backed;
  receipts_backed = All-weaker (IsOnDisk ds) (IsOnDisk es) on_fewer receipts is.receipts_backed;
  mustered = All-weaker (IsMustered committed ds) (IsMustered committed es) (λ m was. record {
    front = was.front;
    gauges = All-weaker (IsOnDisk ds) (IsOnDisk es) on_fewer m.gauges was.gauges;
    uncounted = fewer (λ d. counts m.mask d.slot ≡ false → m.front ≤ d.durable) was.uncounted;
  }) musters is.mustered;
}
  where
    on_fewer : (r : Receipt) → IsOnDisk ds r → IsOnDisk es r
    on_fewer r on = fewer (λ d. d.slot ≡ r.slot → r.front ≤ d.durable) on

-- ---- it is being written

-- No disk is added, and what is in the next record was in the recorded one.
pub begins_record : BeginsRecord
begins_record size v next is writing = plays_of size v (record v { writing = Some next }) [] (λ s line backed stands. ([], s, refl, refl, (line, backed, go s line backed stands)))
  where
    go : (s : State) (line : List Kept) (backed : ℕ) → StandsWith size v s line backed → StandsWith size (record v { writing = Some next }) s line backed
    go s line backed stands =
        let was : (slot incarnation : ℕ) → is_in next slot incarnation ≡ true → is_in v.recorded slot incarnation ≡ true = is_in_was v.recorded next v.members (succeeds v next is stands.places.apart) in
        let disks : disks_of v.recorded v.writing v.members ≡ disks_of v.recorded (Some next) v.members = ap (λ (o : Option Record). disks_of v.recorded o v.members) writing ∙ sym (disks_written v.recorded next was v.members) in
        record {
          order = stands.order;
          holders = stands.holders;
          volumes = stands.volumes;
          places = stands.places;
          leavable = λ k d lt. was (get_or v.members k d).node.place.slot (get_or v.members k d).node.incarnation;
          links = stands.links;
          numbers = stands.numbers;
          disks = subst (IsBacked v.told.front v.told.mask v.told.gauges v.told.receipts v.told.musters) disks stands.disks;
          within = stands.within;
          backs = subst (All (λ d. backed ≤ d.durable)) disks stands.backs;
          fronts = stands.fronts;
          raised = stands.raised;
          clients = stands.clients;
          slots = stands.slots;
          tickets = stands.tickets;
          dated = stands.dated;
          dated_before = stands.dated_before;
          origins = stands.origins;
        }

-- ---- all were told

-- a member that isn't stopped runs
runs_of : (o : Option Cause) → is_some o ≡ false → o ≡ None
runs_of None is = refl
runs_of (Some cause) is = absurd cc

-- the member was told of the two chains, and if it runs, of the recorded one
abbrev IsToldNow : Record → Record → Member → Type 0
IsToldNow recorded before m = IsTold recorded before m.node × (m.node.stopped ≡ None → epoch_of m.node ≡ recorded.epoch)

module _ (recorded before : Record) (links : ℕ → ℕ → List Envelope) (members : List Member) (places : ArePlaced recorded before members)
    (all : All (λ m. m.node.stopped ≡ None → epoch_of m.node ≡ recorded.epoch) members) where
  abbrev net : Net
  net = net_of recorded links members

  told_at : (y : ℕ) → Contains (chain_of recorded) y → StandsAt (IsToldNow recorded before) members y
  told_at y there =
      stands_at (IsToldNow recorded before) members y (λ k d lt. (places.told k d lt, all k d lt)) (All-contains (Contains (slots_of members)) (chain_of recorded) y places.stands there)

  -- each that runs has its place of the recorded chain
  told_there : (y : ℕ) (prev : Option ℕ) → Contains (chain_of recorded) y → predecessor_of (record { slot = y; chain = recorded }) ≡ prev
      → ((net.nodes y).stopped ≡ false → ((net.nodes y).epoch ≡ recorded.epoch) × ((net.nodes y).above ≡ prev)) × ((net.nodes y).epoch ≤ recorded.epoch)
  told_there y prev there above =
      let it : StandsAt (IsToldNow recorded before) members y = told_at y there in (
        λ runs.
            let now : epoch_of it.m.node ≡ recorded.epoch = it.has.1 (runs_of it.m.node.stopped (ap (λ (n : Node). n.stopped) (sym it.node) ∙ runs)) in
            let place : predecessor_of it.m.node.place ≡ predecessor_of (record { slot = y; chain = recorded }) =
            ap (λ (c : Record). predecessor_of (record { slot = it.m.node.place.slot; chain = c })) (it.has.0.now now) ∙ ap (λ (k : ℕ). predecessor_of (record { slot = k; chain = recorded })) it.slot in
            (ap (λ (n : Node). n.epoch) it.node ∙ now, ap (λ (n : Node). n.above) it.node ∙ place ∙ above),
        subst (λ (n : Node). n.epoch ≤ recorded.epoch) (sym it.node) it.has.0.within,
      )

  told_behind : (us : List ℕ) (p : ℕ) (ys : List ℕ) → chain_of recorded ≡ us ++ p ∷ ys → AllTold net (Some p) ys
  told_behind us p [] chain = tt
  told_behind us p (y ∷ ys) chain =
      let there : Contains (chain_of recorded) y = subst (λ c. Contains c y) (sym chain) (Contains-append_right us (p ∷ y ∷ ys) y (1, omega arith, refl)) in
      let (told, within) = told_there y (Some p) there (placed_behind recorded us p y ys places.apart chain).0 in
      (told, within, told_behind (us ++ p ∷ []) y ys (chain ∙ sym (append_assoc us (p ∷ []) (y ∷ ys))))

  told_from : (ys : List ℕ) → chain_of recorded ≡ ys → AllTold net None ys
  told_from [] chain = tt
  told_from (y ∷ ys) chain =
      let there : Contains (chain_of recorded) y = subst (λ c. Contains c y) (sym chain) (0, omega arith, refl) in
      let (told, within) = told_there y None there (placed_first recorded y ys places.apart chain).0 in
      (told, within, told_behind [] y ys chain)

  pub all_told : AllTold net None (chain_of recorded)
  all_told = told_from (chain_of recorded) refl

-- so it is seen
pub hops_told : (w : Net) (prev : Option ℕ) (ys : List ℕ) → AllTold w prev ys → turning.AllTold (hops_from w prev ys)
hops_told w prev [] all = tt
hops_told w prev (y ∷ ys) (told, within, rest) = (λ runs. told_stage w.epoch (w.nodes y).epoch (w.nodes y).turned (told runs).0, hops_told w (Some y) ys rest)

-- ---- no message is of the next epoch

-- what comes of an envelope of another epoch is not seen
none_here : (e : ℕ) (at : ℕ) (m : Message) (rest : List Stamped) → at ≢ e → at_epoch e (stamped at (passed_in m) ++ rest) ≡ at_epoch e rest
none_here e at (messages.Put n origin write) rest other = cond-false (at == e) (replicas.Put (record { number = n; write = write; origin = origin }) ∷ at_epoch e rest) (at_epoch e rest) (ne_eqb at e other)
none_here e at (messages.Ack front) rest other = refl
none_here e at (messages.Turn applied) rest other = cond-false (at == e) (replicas.Turn ∷ at_epoch e rest) (at_epoch e rest) (ne_eqb at e other)
none_here e at (messages.Submit ticket write) rest other = refl

-- and so on a whole link
pub none_later : (epoch : ℕ) (link : List Envelope) → All (λ e. e.epoch ≤ epoch) link → at_epoch (suc epoch) (passed_on link) ≡ []
none_later epoch [] all = refl
none_later epoch (e ∷ es) all =
    none_here (suc epoch) e.epoch e.message (passed_on es) (λ is. let le = All-head (λ (x : Envelope). x.epoch ≤ epoch) e es all in omega arith) ∙ none_later epoch es (All-tail (λ (x : Envelope). x.epoch ≤ epoch) e es all)

-- ---- the order, and the links

-- what was above whom is so still
above_then : (recorded before next : Record) (epoch from to : ℕ) → next.epoch ≡ suc recorded.epoch → epoch ≤ recorded.epoch → IsAbove recorded before epoch from to → IsAbove next recorded epoch from to
above_then recorded before next epoch from to later le is = record { now = λ same. absurd (omega (arith, later, same)); old = λ same. is.now (omega (arith, later, same)) }

-- a message is where it belongs still
belongs_then : (recorded before next : Record) (front epoch from to : ℕ) (m : Message) → next.epoch ≡ suc recorded.epoch → epoch ≤ recorded.epoch → Belongs recorded before front epoch from to m → Belongs next recorded front epoch from to m
belongs_then recorded before next front epoch from to (messages.Put n origin write) later le is = above_then recorded before next epoch from to later le is
belongs_then recorded before next front epoch from to (messages.Ack known) later le is = is
belongs_then recorded before next front epoch from to (messages.Turn applied) later le is = above_then recorded before next epoch from to later le is
belongs_then recorded before next front epoch from to (messages.Submit ticket write) later le is = is

-- so is one for the head
submit_belongs_then : (recorded before next : Record) (epoch from to : ℕ) (m : Message) → next.epoch ≡ suc recorded.epoch → epoch ≤ recorded.epoch → BelongsToHead recorded before epoch from to m → BelongsToHead next recorded epoch from to m
submit_belongs_then recorded before next epoch from to (messages.Put n origin write) later le is = is
submit_belongs_then recorded before next epoch from to (messages.Ack known) later le is = is
submit_belongs_then recorded before next epoch from to (messages.Turn applied) later le is = is
submit_belongs_then recorded before next epoch from to (messages.Submit ticket write) later le is = record { now = λ same. absurd (omega (arith, later, same)); old = λ same. is.now (omega (arith, later, same)) }

-- and so are all on the links
pub linked_then : (recorded before next : Record) (front : ℕ) (links submits : ℕ → ℕ → List Envelope) → next.epoch ≡ suc recorded.epoch → AreLinked recorded before front links submits → AreLinked next recorded front links submits
linked_then recorded before next front links submits later is = record {
  links_of = λ from to k d lt.
      let (le, belongs) = is.links_of from to k d lt in
      (omega (arith, later, le), belongs_then recorded before next front (get_or (links from to) k d).epoch from to (get_or (links from to) k d).message later le belongs);
  submits_of = λ from to k d lt.
      let (le, belongs) = is.submits_of from to k d lt in
      (omega (arith, later, le), submit_belongs_then recorded before next (get_or (submits from to) k d).epoch from to (get_or (submits from to) k d).message later le belongs);
}

-- who was told the recorded chain, and is in the next one if it runs
pub told_then : (recorded before next : Record) (node : NodeState) → next.epoch ≡ suc recorded.epoch → IsTold recorded before node → (node.stopped ≡ None → epoch_of node ≡ recorded.epoch)
    → (node.stopped ≡ None → incarnation_in next node.place.slot ≡ incarnation_in recorded node.place.slot) → IsTold next recorded node
told_then recorded before next node later told now stays = record {
  within = omega (arith, told.within, later);
  now = λ same. absurd (omega (arith, told.within, later, same));
  old = λ same. told.now (omega (arith, later, same));
  near = λ runs. omega (arith, now runs, later);
  there = λ runs. stays runs ∙ told.there runs;
  itself = told.itself;
}

-- once all that run were told the recorded chain
module _ (v : View) (next : Record) (is : IsNext v next) (places : ArePlaced v.recorded v.before v.members) (all : All (λ m. m.node.stopped ≡ None → epoch_of m.node ≡ v.recorded.epoch) v.members) where
  placed_then : ArePlaced next v.recorded v.members
  placed_then =
      let follows : Succeeds v.recorded next v.members = succeeds v next is places.apart in
      record {
        apart = follows.apart;
        apart_before = places.apart;
        close = follows.close;
        first = follows.first;
        stands = All-weaker (Contains (chain_of v.recorded)) (Contains (slots_of v.members)) (λ s there. All-contains (Contains (slots_of v.members)) (chain_of v.recorded) s places.stands there) (chain_of next) follows.some;
        stood = λ k d lt late. places.stands;
        told = λ k d lt. told_then v.recorded v.before next (get_or v.members k d).node is.epoch (places.told k d lt) (all k d lt) (follows.stays k d lt);
      }

  abbrev old : Net
  old = net_of v.recorded v.links v.members

  abbrev new : Net
  new = net_of next v.links v.members

  order_then : (line : List Kept) → AreLinked v.recorded v.before v.told.front v.links v.submits → InOrder v.told.front line (hops_of old) → InOrder v.told.front line (hops_of new)
  order_then line linked stands =
      let records : Records old new = record {
        epoch = is.epoch;
        nodes = λ x. refl;
        links = λ x y. refl;
        none = λ x y. none_later v.recorded.epoch (v.links x y) (λ k d lt. (linked.links_of x y k d lt).0);
      } in
      let told : AllTold old None (chain_of v.recorded) = all_told v.recorded v.before v.links v.members places all in
      let stages : turning.AllTold (hops_of old) = hops_told old None (chain_of v.recorded) told in
      elim is.members [
        | inl out ↦
            let us : List ℕ = slots out.before in
            let vs : List ℕ = slots out.behind in
            let m : ℕ = out.removed.slot in
            let chain : chain_of v.recorded ≡ us ++ m ∷ vs = ap slots out.were ∙ map-append (λ (x : entries.Member). x.slot) out.before (out.removed ∷ out.behind) in
            let rest : chain_of next ≡ us ++ vs = ap slots out.are ∙ map-append (λ (x : entries.Member). x.slot) out.before out.behind in
            let others : All (λ k. k ≢ m) us = all_before (λ k. k ≢ m) us vs (left_out us vs m (subst Apart chain places.apart)) in
            alike_in_order v.told.front line (turning.without (length us) (hops_of old)) (hops_of new) (record_in_order v.told.front (length us) line (hops_of old) stands stages).0
            (remove_shows old new us vs m records told chain rest others)
        | inr same ↦ alike_in_order v.told.front line (map turning.kept (hops_of old)) (hops_of new) (record_in_order v.told.front 0 line (hops_of old) stands stages).1 (same_shows old new records told (ap slots same))
      ]

-- ---- it is recorded

-- All that run were told the recorded chain, and are in the next one still.
pub ends_record : EndsRecord
ends_record size v next is writing all = plays_of size v (record v { recorded = next; before = v.recorded; writing = None }) [] (λ s line backed stands. ([], s, refl, refl, (line, backed, go s line backed stands)))
  where
    go : (s : State) (line : List Kept) (backed : ℕ) → StandsWith size v s line backed → StandsWith size (record v { recorded = next; before = v.recorded; writing = None }) s line backed
    go s line backed stands =
        let r : Requests = requests_of v line in
        let disks : List Disk = disks_of v.recorded (Some next) v.members in
        let within : (from to : ℕ) → All (λ e. e.epoch ≤ v.recorded.epoch) (v.submits from to) = λ from to k d lt. (stands.links.submits_of from to k d lt).0 in
        let order = order_then v next is stands.places all line stands.links (stands.order, stands.holders) in
        record {
          order = order.0;
          holders = order.1;
          volumes = stands.volumes;
          places = placed_then v next is stands.places all;
          leavable = λ k d lt none. absurd cc;
          links = linked_then v.recorded v.before next v.told.front v.links v.submits is.epoch stands.links;
          numbers = stands.numbers;
          disks = backs_fewer v.told.front v.told.mask v.told.gauges v.told.receipts v.told.musters disks (disks_of next None v.members) (λ P. fewer_disks P v.recorded next v.members)
              (subst (λ (o : Option Record). IsBacked v.told.front v.told.mask v.told.gauges v.told.receipts v.told.musters (disks_of v.recorded o v.members)) writing stands.disks);
          within = stands.within;
          backs = fewer_disks (λ d. backed ≤ d.durable) v.recorded next v.members (subst (λ (o : Option Record). All (λ d. backed ≤ d.durable) (disks_of v.recorded o v.members)) writing stands.backs);
          fronts = stands.fronts;
          raised = stands.raised;
          clients = recorded_submits backed r v.recorded v.before next v.submits (slots_of v.members) is.epoch within s stands.clients;
          slots = stands.slots;
          tickets = λ k d lt.
              let was = stands.tickets k d lt in
              let origin : Origin = get_or (map next_of v.members) k d in
              record { line = was.line; submits = fewer_recorded (λ x. IsBefore origin x.origin) v.recorded v.before next v.submits (slots_of v.members) is.epoch within was.submits; tokens = was.tokens };
          dated = next_dated v next is stands.dated;
          dated_before = stands.dated;
          origins = stands.origins;
        }
