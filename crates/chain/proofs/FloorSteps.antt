-- What members have in use of the board: it tells more of it, or less, and what it tells of their disks is so still.
use Rattle.std.proofs.Common.{◌≡◌, ℕ, zero, suc, ◌+◌, ◌<◌, ◌≤◌, min, true, List, [], ◌∷◌, ◌++◌, map, refl, ap, sym, subst, ◌∙◌, arith, inl, inr}
use Rattle.std.specs.Prelude.{◌==◌, All, Any, IfNone, IfSome, Option, None, Some, slice_get, slice_index, slice_set}
use Rattle.std.specs.List.{AllZip, Contains, flat_map}
use Rattle.std.specs.Option.{ForSome}
use Rattle.std.proofs.lemmas.Bool.{cases_lt}
use Rattle.std.proofs.lemmas.List.{append-nil, map-append}
use Rattle.std.proofs.lemmas.Nat.Bits.{bit_at_above}
use Rattle.std.proofs.lemmas.List.Elements.{All-append, All-cons, All-push, All-head, All-nil, All-tail}
use Rattle.board.specs.Mask.{counts, slots_below}
use Rattle.board.specs.Seats.{FoundCrew, FoundFront, FoundGauge as GaugeOfSeat}
use Rattle.board.proofs.MaskLemmas.{slots_below-contains}
use Rattle.flush_barrier.specs.Reply.{GivenReply}
use Rattle.gate_journal.specs.Receipt.{Receipt}
use Rattle.local_store.specs.About.{About}
use Rattle.chain_core.specs.Node.{IsStepOrStop, Seen}
use Rattle.chain_steps.specs.Node.{NodeState, Out}
use Rattle.chain_steps.specs.Place.{is_member}
use Rattle.chain_steps.specs.Steps.{answer_floor, stop}
use Rattle.chain_steps.specs.declared.cause.Cause.TheVariants as causes
use Rattle.world_model.specs.Backing.{Disk, IsBacked, IsMustered, IsOnDisk, IsWhole}
use Rattle.world_model.specs.Backing as model
use Rattle.world_model.proofs.BackingSteps.{backs_crew, floor_is_backed, musters_gauge}
use Rattle.world_model.specs.Chain.{ArePutOut, BoardInUse}
use Rattle.world_model.proofs.Counting.{all_before, all_behind, flat_same, flat_split}
use Rattle.world_model.specs.Event.{ClientEvent}
use Rattle.world_model.specs.Machine.{State}
use Rattle.chain_model.proofs.JoiningSteps.{counted_still}
use Rattle.chain_model.specs.Chain.{IsWithin, StandsFor}
use Rattle.chain_model.specs.Laws.{with_members}
use Rattle.chain_model.specs.Life.{AnswerFloor, BoardTells, Does, Doing, IsToldOfDisks, MemberDoes, Stop}
use Rattle.chain_model.specs.View.{Member, View, disks_of}
use Rattle.chain.specs.Chain.{Chained, Goes, IsFormed, IsIn, Shows, bytes_of, gauges_from, told_of}
use Rattle.chain.specs.LoneBoard.{FoundGauge, gauge_in, gauges_of, least_of}
use Rattle.chain.specs.Member.{IsFrontOf, IsMusterOf, IsShown, Linked, fronts_of, gauge_seen, muster_seen, musters_of, receipts_of}
use Rattle.chain.specs.Musters.{HasFound, HasGauged, HasMustered, HasSettled}
use Rattle.chain.specs.Muster.{next_of}
use Rattle.chain.specs.declared.muster.Muster.{Muster}
use Rattle.chain.proofs.Cells.{place_of, twin_of}
use Rattle.chain.proofs.Causes.{memory_is_one}
use Rattle.chain.proofs.Stepping.{all_at, formed_then, shown_still}

-- ---- what members have, gathered

module _ {A B : Type 0} (f : A → List B) (xs : List A) (at : ℕ) (x y : A) (here : slice_get xs at ≡ Some x) where
  -- one has the same instead
  pub gathered : f y ≡ f x → flat_map f (slice_set xs at y) ≡ flat_map f xs
  gathered is = let place = place_of xs at x here in ap (flat_map f) (place.setting y) ∙ flat_same f place.above x y place.below is ∙ ap (flat_map f) (sym place.split)

  module _ (P : B → Type 0) where
    split_at : All P (flat_map f xs) → let place = place_of xs at x here in All P (flat_map f place.above ++ (f x ++ flat_map f place.below))
    split_at all = let place = place_of xs at x here in subst (All P) (flat_split f place.above x place.below) (subst (λ l. All P (flat_map f l)) place.split all)

    -- what holds of all holds of what that one has
    pub of_one : All P (flat_map f xs) → All P (f x)
    of_one all = let place = place_of xs at x here in
        all_before P (f x) (flat_map f place.below) (all_behind P (flat_map f place.above) (f x ++ flat_map f place.below) (split_at all))

    -- and where it holds of what one has instead, of all
    pub of_all : (All P (f x) → All P (f y)) → All P (flat_map f xs) → All P (flat_map f (slice_set xs at y))
    of_all keeps all =
        let place = place_of xs at x here in
        let own = of_one all in
        let above = all_before P (flat_map f place.above) (f x ++ flat_map f place.below) (split_at all) in
        let below = all_behind P (f x) (flat_map f place.below) (all_behind P (flat_map f place.above) (f x ++ flat_map f place.below) (split_at all)) in
        subst (λ l. All P (flat_map f l)) (sym (place.setting y))
        (subst (All P) (sym (flat_split f place.above y place.below))
        (All-append P (flat_map f place.above) (f y ++ flat_map f place.below) above (All-append P (f y) (flat_map f place.below) (keeps own) below)))

-- ---- what a call at a place knows

-- with an answer or without
pub either : {T : Type 0} (o : Option T) (P : T → Type 0) (N C : Type 0) → IfSome o P → IfNone o N → ((x : T) → P x → C) → (N → C) → C
either None P N C some none f h = h none
either (Some x) P N C some none f h = f x some

pub some_then : {T : Type 0} (o : Option T) (P Q : T → Type 0) → IfSome o P → ((x : T) → P x → Q x) → IfSome o Q
some_then None P Q some f = some
some_then (Some x) P Q some f = f x some

pub none_then : {T : Type 0} (o : Option T) (N C : Type 0) → IfNone o N → (N → C) → IfNone o C
none_then None N C none h = h none
none_then (Some x) N C none h = none

-- the member there is in the chain
pub is_in_at : {S : Type 0} (about : S → About) (c : Chained S) (at : ℕ) (m : Linked S) → slice_get c.members at ≡ Some m → IsFormed about c → IsIn about c.id c.seat c.geometry m
is_in_at about c at m here formed = all_at (IsIn about c.id c.seat c.geometry) c.members at m here formed.members

-- the chain stands for the state, as it is read
pub stands_now : {S : Type 0} (old now : Chained S) (v : View) (s : State) → old ≡ now → StandsFor (bytes_of now) v s → StandsFor (bytes_of old) v s
stands_now {S} old now v s same stands = subst (λ (c : Chained S). StandsFor (bytes_of c) v s) (sym same) stands

-- ---- the board tells

-- what is told then is so, where what was told is
pub record TellsSo (was is : BoardInUse) : Type 0 where
  pub front : is.front ≡ was.front
  pub mask : is.mask ≡ was.mask
  pub within : IsWithin was.front was.gauges was.receipts was.musters → IsWithin is.front is.gauges is.receipts is.musters
  pub backed : (disks : List Disk) → IsBacked was.front was.mask was.gauges was.receipts was.musters disks → IsBacked is.front is.mask is.gauges is.receipts is.musters disks
  pub fronts : All (λ f. f ≤ was.front) was.fronts → All (λ f. f ≤ is.front) is.fronts

told_so : (v : View) (was is : BoardInUse) → v.told ≡ was → TellsSo was is → IsToldOfDisks v (record v { told = is })
told_so v was is shown so =
    let here : TellsSo v.told is = subst (λ t. TellsSo t is) (sym shown) so in
    record { told = is; front = here.front; within = here.within; joiner = counted_still v is.mask here.mask; backed = here.backed (disks_of v.recorded v.writing v.members); fronts = here.fronts; are = refl }

module _ {S : Type 0} (about : S → About) (keeps : S → List ℕ → Type 0) (may_leave_now : S → List ℕ → Type 0) (old : Chained S) (at : ℕ) (before after : Linked S) (here : slice_get old.members at ≡ Some before) where
  abbrev now : Chained S
  now = record old { members = slice_set old.members at after }

  abbrev IsSo : Linked S → Member → Type 0
  IsSo m shown = IsShown about keeps may_leave_now (bytes_of old) m shown

  -- the board tells, and each member is shown as before
  pub board_tells : (v : View) (events : List ClientEvent) → Shows about keeps may_leave_now old v → ArePutOut [] events → ((m : Member) → IsSo before m → IsSo after m) → TellsSo (told_of old) (told_of now)
      → (w : View) × Shows about keeps may_leave_now now w × Goes (bytes_of old) v w events
  board_tells v events shows put_out stays so =
      let place = place_of old.members at before here in
      let twin = twin_of IsSo place.above before place.below v.members (subst (λ l. AllZip IsSo l v.members) place.split shows.members) in (
        record v { told = told_of now },
        record {
          told = refl;
          recorded = shows.recorded;
          before = shows.before;
          writing = shows.writing;
          youngest = shows.youngest;
          members = subst (AllZip IsSo (slice_set old.members at after)) (sym twin.are)
              (subst (λ l. AllZip IsSo l (twin.over ++ twin.own ∷ twin.under)) (sym (place.setting after)) (twin.others after twin.own place.below twin.under (stays twin.own twin.fits) twin.rest));
          links = shows.links;
          submits = shows.submits;
        },
        record {
          happenings = BoardTells ∷ [];
          each = [] ∷ [];
          inner = refl;
          era = (record v { told = told_of now }, [], [], refl, (told_so v (told_of old) (told_of now) shows.told so, refl), (refl, refl));
          all = sym put_out;
        },
      )

  -- a member does so, and then the board tells
  pub does_then_tells : (doing : Doing) (v : View) (events : List ClientEvent) → Shows about keeps may_leave_now old v → ((m : Member) → IsSo before m → (g : Member) × IsSo after g × Does v doing m g events)
      → TellsSo (told_of old) (told_of now) → (w : View) × Shows about keeps may_leave_now now w × Goes (bytes_of old) v w events
  does_then_tells doing v events shows step so =
      let place = place_of old.members at before here in
      let twin = twin_of IsSo place.above before place.below v.members (subst (λ l. AllZip IsSo l v.members) place.split shows.members) in
      let did = step twin.own twin.fits in
      let mid : View = with_members v (twin.over ++ did.0 ∷ twin.under) in (
        record mid { told = told_of now },
        record {
          told = refl;
          recorded = shows.recorded;
          before = shows.before;
          writing = shows.writing;
          youngest = shows.youngest;
          members = subst (λ l. AllZip IsSo l (twin.over ++ did.0 ∷ twin.under)) (sym (place.setting after)) (twin.others after did.0 place.below twin.under did.1 twin.rest);
          links = shows.links;
          submits = shows.submits;
        },
        record {
          happenings = MemberDoes doing ∷ BoardTells ∷ [];
          each = events ∷ [] ∷ [];
          inner = refl;
          era = (
            mid,
            events,
            [] ∷ [],
            refl,
            record { above = twin.over; old = twin.own; new = did.0; below = twin.under; were = twin.are; are = refl; change = did.2 },
            (record mid { told = told_of now }, [], [], refl, (told_so mid (told_of old) (told_of now) shows.told so, refl), (refl, refl)),
          );
          all = append-nil events;
        },
      )

-- ---- a floor

-- nothing is sent where a floor is answered
pub nothing_sent : {S : Type 0} (old new : Seen S) (out : Out) (floor : ℕ) (node : NodeState) → old.state ≡ node → IsStepOrStop old new out (answer_floor floor node) → out.messages ≡ []
nothing_sent old new out floor node is (inl did) = ap (λ (o : Out). o.messages) did.sent
nothing_sent old new out floor node is (inr did) = ap (λ (o : Out). o.messages) did.sent

-- ---- a front for a crew, and a crew

for_some : {T : Type 0} (P : T → Type 0) (x : T) → P x → ForSome (Some x) P
for_some P x has y eq = let is : x ≡ y = cc eq in subst P is has

-- a member whose node is the same is shown as before
same_shown : {S : Type 0} (about : S → About) (keeps : S → List ℕ → Type 0) (may_leave_now : S → List ℕ → Type 0) (size : ℕ) (before after : Linked S) (m : Member) → after.node ≡ before.node
    → IsShown about keeps may_leave_now size before m → IsShown about keeps may_leave_now size after m
same_shown about keeps may_leave_now size before after m node so = record {
  is = so.is ∙ rw node refl;
  whole = so.whole;
  keeping = rw node so.keeping;
  left = rw node so.left;
  durable = rw node so.durable;
  behind = rw node so.behind;
}

-- the gauges on the board are on their disks, also one of a slot that it doesn't have
gauge_on : (disks : List Disk) (first k : ℕ) (fronts : List ℕ) → All (IsOnDisk disks) (gauges_from first fronts) → IsOnDisk disks (record { slot = k + first; front = slice_index fronts k })
gauge_on disks first k [] all = λ i d lt same. omega arith
gauge_on disks first zero (front ∷ fronts) all =
    let same : first ≡ 0 + first = omega arith in
    subst (λ (slot : ℕ). IsOnDisk disks (record { slot = slot; front = front })) same (All-head (IsOnDisk disks) (record { slot = first; front = front }) (gauges_from (first + 1) fronts) all)
gauge_on disks first (suc k) (front ∷ fronts) all =
    let next : k + (first + 1) ≡ suc k + first = omega arith in
    subst (λ slot. IsOnDisk disks (record { slot = slot; front = slice_index fronts k })) next
    (gauge_on disks (first + 1) k fronts (All-tail (IsOnDisk disks) (record { slot = first; front = front }) (gauges_from (first + 1) fronts) all))

-- and within the front, as all on the board are
abbrev GaugesWithin : ℕ → model.Muster → Type 0
GaugesWithin front m = All (λ r. r.front ≤ front) m.gauges

gauge_within : (front first k : ℕ) (fronts : List ℕ) → All (λ r. r.front ≤ front) (gauges_from first fronts) → slice_index fronts k ≤ front
gauge_within front first k [] all = omega arith
gauge_within front first zero (gauge ∷ fronts) all = All-head (λ (r : Receipt). r.front ≤ front) (record { slot = first; front = gauge }) (gauges_from (first + 1) fronts) all
gauge_within front first (suc k) (gauge ∷ fronts) all =
    gauge_within front (first + 1) k fronts (All-tail (λ (r : Receipt). r.front ≤ front) (record { slot = first; front = gauge }) (gauges_from (first + 1) fronts) all)

-- gauges as they are seen, of those without whose they are
abbrev receipt_of : FoundGauge → Receipt
receipt_of gauge = record { slot = gauge.slot; front = gauge.front }

seen_of : (gauges : List GaugeOfSeat) → map gauge_seen gauges ≡ map receipt_of (gauges_of gauges)
seen_of [] = refl
seen_of (g ∷ gauges) = ap (λ l. gauge_seen g ∷ l) (seen_of gauges)

one_seen : (before after : List GaugeOfSeat) (g : FoundGauge) → gauges_of after ≡ gauges_of before ++ g ∷ [] → map gauge_seen after ≡ map gauge_seen before ++ receipt_of g ∷ []
one_seen before after g is =
    seen_of after ∙ ap (map receipt_of) is ∙ map-append receipt_of (gauges_of before) (g ∷ []) ∙ ap (λ l. l ++ receipt_of g ∷ []) (sym (seen_of before))

-- the least of them
least_seen : (front : ℕ) (gauges : List GaugeOfSeat) → model.least_of front (map gauge_seen gauges) ≡ least_of front (gauges_of gauges)
least_seen front [] = refl
least_seen front (g ∷ gauges) = ap (min g.front) (least_seen front gauges)

module _ {S : Type 0} (about : S → About) (old : Chained S) (at : ℕ) (before after : Linked S) (here : slice_get old.members at ≡ Some before) where
  abbrev then : Chained S
  then = record old { members = slice_set old.members at after }

  -- a member finds a front for a crew
  module _ (did : HasFound old.id old.seat old.words.front before after) where
    pub formed_found : IsFormed about old → IsFormed about then
    formed_found formed = rw did.are (formed_then old at before _ here about (λ is. record {
      board = is.board;
      sizes = is.sizes;
      member = is.member;
      muster = is.muster;
      front = for_some (IsFrontOf old.id old.seat) did.front did.of_seat;
    }) formed)

    found_so : TellsSo (told_of old) (told_of then)
    found_so = record {
      front = refl;
      mask = refl;
      within = λ is. rw (gathered (λ m. receipts_of m.receipt) old.members at before after here (ap (λ m. receipts_of m.receipt) did.are), gathered (λ m. musters_of m.muster) old.members at before after here (ap (λ m. musters_of m.muster) did.are)) is;
      backed = λ disks is. rw (gathered (λ m. receipts_of m.receipt) old.members at before after here (ap (λ m. receipts_of m.receipt) did.are), gathered (λ m. musters_of m.muster) old.members at before after here (ap (λ m. musters_of m.muster) did.are)) is;
      fronts = of_all (λ m. fronts_of m.front) old.members at before after here (λ f. f ≤ old.words.front)
          (λ was. subst (λ (m : Linked S). All (λ f. f ≤ old.words.front) (fronts_of m.front)) (sym did.are) (All-cons (λ f. f ≤ old.words.front) did.front.number [] (omega (arith, did.of_number)) (All-nil (λ f. f ≤ old.words.front))));
    }

    pub found_goes : (keeps : S → List ℕ → Type 0) (may_leave_now : S → List ℕ → Type 0) (v : View) (events : List ClientEvent) → Shows about keeps may_leave_now old v → ArePutOut [] events
        → (w : View) × Shows about keeps may_leave_now then w × Goes (bytes_of old) v w events
    found_goes keeps may_leave_now v events shows put_out = board_tells about keeps may_leave_now old at before after here v events shows put_out
        (λ m so. same_shown about keeps may_leave_now (bytes_of old) before after m (ap (λ x. x.node) did.are) so)
        found_so

  -- a member finds a crew behind it
  module _ (did : HasMustered old.id old.seat old.words.mask before after) where
    pub formed_mustered : IsFormed about old → IsFormed about then
    formed_mustered formed = rw did.are (formed_then old at before _ here about (λ is. record {
      board = is.board;
      sizes = is.sizes;
      member = is.member;
      front = λ x eq. absurd (cc);
      muster = for_some (IsMusterOf old.id old.seat) did.muster (ap (λ (c : FoundCrew). c.board) did.crew, ap (λ (c : FoundCrew). c.seat) did.crew);
    }) formed)

    mustered_so : did.front.number ≤ old.words.front → TellsSo (told_of old) (told_of then)
    mustered_so committed = record {
      front = refl;
      mask = refl;
      within = λ is. rw (gathered (λ m. receipts_of m.receipt) old.members at before after here (ap (λ m. receipts_of m.receipt) did.are)) (record {
        gauges_within = is.gauges_within;
        receipts_within = is.receipts_within;
        musters_within = of_all (λ m. musters_of m.muster) old.members at before after here (GaugesWithin old.words.front)
            (λ was. subst (λ (m : Linked S). All (GaugesWithin old.words.front) (musters_of m.muster)) (sym did.are)
            (All-cons (GaugesWithin old.words.front) (muster_seen did.muster) [] (rw did.none_yet (All-nil (λ (r : Receipt). r.front ≤ old.words.front))) (All-nil (GaugesWithin old.words.front))))
            is.musters_within;
      });
      backed = λ disks is. rw (gathered (λ m. receipts_of m.receipt) old.members at before after here (ap (λ m. receipts_of m.receipt) did.are)) (record {
        mask_covers = is.mask_covers;
        gauges_backed = is.gauges_backed;
        receipts_backed = is.receipts_backed;
        mustered = of_all (λ m. musters_of m.muster) old.members at before after here (IsMustered old.words.front disks)
            (λ was. subst (λ (m : Linked S). All (IsMustered old.words.front disks) (musters_of m.muster)) (sym did.are)
            (All-cons (IsMustered old.words.front disks) (muster_seen did.muster) [] (begins disks is) (All-nil (IsMustered old.words.front disks))))
            is.mustered;
      });
      fronts = of_all (λ m. fronts_of m.front) old.members at before after here (λ f. f ≤ old.words.front)
          (λ was. subst (λ (m : Linked S). All (λ f. f ≤ old.words.front) (fronts_of m.front)) (sym did.are) (All-nil (λ f. f ≤ old.words.front)));
    }
      where
        begins : (disks : List Disk) → IsBacked old.words.front old.words.mask (told_of old).gauges (told_of old).receipts (told_of old).musters disks → IsMustered old.words.front disks (muster_seen did.muster)
        begins disks is =
            let crew : muster_seen did.muster ≡ record { front = did.front.number; mask = old.words.mask; gauges = [] } = rw (did.crew, did.none_yet) refl in
            subst (IsMustered old.words.front disks) (sym crew) (backs_crew old.words.front old.words.mask (told_of old).gauges (told_of old).receipts (told_of old).musters disks is did.front.number committed)

    pub mustered_goes : (keeps : S → List ℕ → Type 0) (may_leave_now : S → List ℕ → Type 0) (v : View) (s : State) (events : List ClientEvent) → Shows about keeps may_leave_now old v → StandsFor (bytes_of old) v s → ArePutOut [] events
        → (w : View) × Shows about keeps may_leave_now then w × Goes (bytes_of old) v w events
    mustered_goes keeps may_leave_now v s events shows ((line, backed, stands), joins) put_out =
        let told : All (λ f. f ≤ (told_of old).front) (told_of old).fronts = subst (λ (t : BoardInUse). All (λ f. f ≤ t.front) t.fronts) shows.told stands.fronts in
        let own : All (λ f. f ≤ old.words.front) (fronts_of before.front) = of_one (λ m. fronts_of m.front) old.members at before after here (λ f. f ≤ old.words.front) told in
        let committed : did.front.number ≤ old.words.front = All-head (λ f. f ≤ old.words.front) did.front.number [] (subst (λ (o : Option FoundFront). All (λ f. f ≤ old.words.front) (fronts_of o)) did.had own) in
        board_tells about keeps may_leave_now old at before after here v events shows put_out
        (λ m so. same_shown about keeps may_leave_now (bytes_of old) before after m (ap (λ x. x.node) did.are) so)
        (mustered_so committed)

  -- a member finds the gauge of the next slot
  module _ (did : HasGauged old.words before after) where
    pub formed_gauged : IsFormed about old → IsFormed about then
    formed_gauged formed = rw did.are (formed_then old at before _ here about (λ is. record {
      board = is.board;
      sizes = is.sizes;
      member = is.member;
      front = is.front;
      muster = for_some (IsMusterOf old.id old.seat) did.after (subst (λ (c : FoundCrew). (c.board ≡ old.id) × (c.seat ≡ old.seat)) (sym did.crew) (is.muster did.before did.had));
    }) formed)

    gauged_so : TellsSo (told_of old) (told_of then)
    gauged_so = record {
      front = refl;
      mask = refl;
      within = λ is. rw (gathered (λ m. receipts_of m.receipt) old.members at before after here (ap (λ m. receipts_of m.receipt) did.are)) (record {
        gauges_within = is.gauges_within;
        receipts_within = is.receipts_within;
        musters_within = of_all (λ m. musters_of m.muster) old.members at before after here (GaugesWithin old.words.front)
            (λ was. subst (λ (m : Linked S). All (GaugesWithin old.words.front) (musters_of m.muster)) (sym did.are)
            (All-cons (GaugesWithin old.words.front) (muster_seen did.after) [] (one_more_within is.gauges_within was) (All-nil (GaugesWithin old.words.front))))
            is.musters_within;
      });
      backed = λ disks is. rw (gathered (λ m. receipts_of m.receipt) old.members at before after here (ap (λ m. receipts_of m.receipt) did.are)) (record {
        mask_covers = is.mask_covers;
        gauges_backed = is.gauges_backed;
        receipts_backed = is.receipts_backed;
        mustered = of_all (λ m. musters_of m.muster) old.members at before after here (IsMustered old.words.front disks)
            (λ was. subst (λ (m : Linked S). All (IsMustered old.words.front disks) (musters_of m.muster)) (sym did.are)
            (All-cons (IsMustered old.words.front disks) (muster_seen did.after) [] (goes_on disks is was) (All-nil (IsMustered old.words.front disks))))
            is.mustered;
      });
      fronts = λ all. rw (gathered (λ m. fronts_of m.front) old.members at before after here (ap (λ m. fronts_of m.front) did.are)) all;
    }
      where
        -- the gauge that it has found is within the front, as all on the board are
        one_more_within : All (λ r. r.front ≤ old.words.front) (gauges_from 0 old.words.gauges) → All (GaugesWithin old.words.front) (musters_of before.muster) → GaugesWithin old.words.front (muster_seen did.after)
        one_more_within all was =
            let slot = next_of did.before in
            let one : All (λ r. r.front ≤ old.words.front) (map gauge_seen did.before.gauges) =
            All-head (GaugesWithin old.words.front) (muster_seen did.before) [] (subst (λ (o : Option Muster). All (GaugesWithin old.words.front) (musters_of o)) did.had was) in
            subst (All (λ r. r.front ≤ old.words.front)) (sym (one_seen did.before.gauges did.after.gauges (gauge_in old.words slot) did.one_more))
            (All-push (λ r. r.front ≤ old.words.front) (map gauge_seen did.before.gauges) (record { slot = slot; front = slice_index old.words.gauges slot }) one (gauge_within old.words.front 0 slot old.words.gauges all))

        goes_on : (disks : List Disk) → IsBacked old.words.front old.words.mask (told_of old).gauges (told_of old).receipts (told_of old).musters disks
            → All (IsMustered old.words.front disks) (musters_of before.muster) → IsMustered old.words.front disks (muster_seen did.after)
        goes_on disks is was =
            let slot = next_of did.before in
            let gauge : Receipt = record { slot = slot; front = slice_index old.words.gauges slot } in
            let one : IsMustered old.words.front disks (muster_seen did.before) =
            All-head (IsMustered old.words.front disks) (muster_seen did.before) [] (subst (λ (o : Option Muster). All (IsMustered old.words.front disks) (musters_of o)) did.had was) in
            let none : slot + 0 ≡ slot = omega arith in
            let on : IsOnDisk disks gauge = subst (λ (n : ℕ). IsOnDisk disks (record { slot = n; front = slice_index old.words.gauges slot })) none (gauge_on disks 0 slot old.words.gauges is.gauges_backed) in
            let seen : muster_seen did.after ≡ record (muster_seen did.before) { gauges = map gauge_seen did.before.gauges ++ gauge ∷ [] } =
            rw (did.crew, one_seen did.before.gauges did.after.gauges (gauge_in old.words slot) did.one_more) refl in
            subst (IsMustered old.words.front disks) (sym seen) (musters_gauge old.words.front disks (muster_seen did.before) gauge one on)

    pub gauged_goes : (keeps : S → List ℕ → Type 0) (may_leave_now : S → List ℕ → Type 0) (v : View) (events : List ClientEvent) → Shows about keeps may_leave_now old v → ArePutOut [] events
        → (w : View) × Shows about keeps may_leave_now then w × Goes (bytes_of old) v w events
    gauged_goes keeps may_leave_now v events shows put_out = board_tells about keeps may_leave_now old at before after here v events shows put_out
        (λ m so. same_shown about keeps may_leave_now (bytes_of old) before after m (ap (λ x. x.node) did.are) so)
        gauged_so

-- ---- a floor is taken

-- a mask of eight bits counts only slots below 8
counted_below : (mask slot : ℕ) → mask < 256 → counts mask slot ≡ true → slot < 8
unfolding counts
counted_below mask slot small counted = elim (cases_lt slot 8) [
  | inl below ↦ below
  | inr above ↦ let none : (0 == 1) ≡ true = subst (λ (n : ℕ). (n == 1) ≡ true) (bit_at_above mask 8 slot small above) counted in absurd (cc)
]

-- a whole crew has a gauge of each of its slots
whole_of : (muster : Muster) → next_of muster ≡ 8 → IsWhole (muster_seen muster)
whole_of muster all slot counted =
    let below = counted_below muster.crew.mask slot muster.of_slots counted in
    let (k, within, is) = slots_below-contains muster.crew.mask 8 slot below counted in
    let slots : map (λ (gauge : GaugeOfSeat). gauge.slot) muster.gauges ≡ slots_below muster.crew.mask 8 = muster.in_order ∙ ap (slots_below muster.crew.mask) all in
    any_of muster.gauges slot (subst (λ (l : List ℕ). Contains l slot) (sym slots) (k, within, is))
  where
    any_of : (gauges : List GaugeOfSeat) (s : ℕ) → Contains (map (λ (gauge : GaugeOfSeat). gauge.slot) gauges) s → Any (λ (r : Receipt). r.slot ≡ s) (map gauge_seen gauges)
    any_of [] s (k, within, is) = absurd (omega arith)
    any_of (g ∷ gauges) s (zero, within, is) = (zero, gauge_seen g, omega arith, refl, is)
    any_of (g ∷ gauges) s (suc k, within, is) = let (i, r, lt, there, same) = any_of gauges s (k, omega arith, is) in (suc i, r, omega arith, there, same)

module _ {S : Type 0} (about : S → About) (old : Chained S) (at : ℕ) (before after : Linked S) (here : slice_get old.members at ≡ Some before) (replies : List GivenReply) (did : HasSettled replies before after) where
  -- by a step that leaves the store, the writes and the known commit
  module _ (step : NodeState → NodeState) (is : after.node ≡ record { store = before.node.store; state = step before.node.state }) (board : (n : NodeState) → (step n).board ≡ n.board) (place : (n : NodeState) → (step n).place ≡ n.place) where
    formed_by : IsFormed about old → IsFormed about (record old { members = slice_set old.members at after })
    formed_by formed = rw (did.are, is) (formed_then old at before _ here about (λ was. record {
      board = board before.node.state ∙ was.board;
      sizes = was.sizes;
      member = ap is_member (place before.node.state) ∙ was.member;
      front = was.front;
      muster = λ x eq. absurd (cc);
    }) formed)

    settled_so : TellsSo (told_of old) (told_of (record old { members = slice_set old.members at after }))
    settled_so = record {
      front = refl;
      mask = refl;
      within = λ was. rw (gathered (λ m. receipts_of m.receipt) old.members at before after here (ap (λ m. receipts_of m.receipt) did.are)) (record {
        gauges_within = was.gauges_within;
        receipts_within = was.receipts_within;
        musters_within = of_all (λ m. musters_of m.muster) old.members at before after here (GaugesWithin old.words.front)
            (λ one. subst (λ (m : Linked S). All (GaugesWithin old.words.front) (musters_of m.muster)) (sym did.are) (All-nil (GaugesWithin old.words.front)))
            was.musters_within;
      });
      backed = λ disks was. rw (gathered (λ m. receipts_of m.receipt) old.members at before after here (ap (λ m. receipts_of m.receipt) did.are)) (record {
        mask_covers = was.mask_covers;
        gauges_backed = was.gauges_backed;
        receipts_backed = was.receipts_backed;
        mustered = of_all (λ m. musters_of m.muster) old.members at before after here (IsMustered old.words.front disks)
            (λ one. subst (λ (m : Linked S). All (IsMustered old.words.front disks) (musters_of m.muster)) (sym did.are) (All-nil (IsMustered old.words.front disks)))
            was.mustered;
      });
      fronts = λ all. rw (gathered (λ m. fronts_of m.front) old.members at before after here (ap (λ m. fronts_of m.front) did.are)) all;
    }

    settled_by : (keeps : S → List ℕ → Type 0) (may_leave_now : S → List ℕ → Type 0) (doing : Doing) (v : View) (events : List ClientEvent) → Shows about keeps may_leave_now old v
        → ((n : NodeState) → (step n).table ≡ n.table) → ((n : NodeState) → (step n).known ≡ n.known)
        → ((m : Member) → m.node ≡ before.node.state → Does v doing m (record m { node = step m.node }) events)
        → (w : View) × Shows about keeps may_leave_now (record old { members = slice_set old.members at after }) w × Goes (bytes_of old) v w events
    settled_by keeps may_leave_now doing v events shows table known does = does_then_tells about keeps may_leave_now old at before after here doing v events shows
        (λ m so. (
          record m { node = step m.node },
          shown_still about keeps may_leave_now old before after m (record m { node = step m.node }) so
              (ap (λ (x : Member). record x { node = step x.node }) so.is
              ∙ rw (did.are, is) refl)
              refl (ap (λ (n : Seen S). n.store) is) (ap (λ (n : Seen S). n.state.table) is ∙ table before.node.state) (ap (λ (n : Seen S). n.state.known) is ∙ known before.node.state) (λ on. did.runs),
          does m (ap (λ (x : Member). x.node) so.is),
        ))
        settled_so

  pub formed_settled : IsFormed about old → IsFormed about (record old { members = slice_set old.members at after })
  formed_settled formed = elim did.did [
    | inl answers ↦ formed_by (λ n. (answer_floor (least_of did.muster.crew.front (gauges_of did.muster.gauges)) n).node) answers.node (λ n. refl) (λ n. refl) formed
    | inr stops ↦ formed_by (λ n. (stop causes.Memory n).node) stops.node (λ n. refl) (λ n. refl) formed
  ]

  pub settled_goes : (keeps : S → List ℕ → Type 0) (may_leave_now : S → List ℕ → Type 0) (v : View) (s : State) (events : List ClientEvent) → Shows about keeps may_leave_now old v → StandsFor (bytes_of old) v s → ArePutOut replies events
      → (w : View) × Shows about keeps may_leave_now (record old { members = slice_set old.members at after }) w × Goes (bytes_of old) v w events
  settled_goes keeps may_leave_now v s events shows ((line, backed, stands), joins) put_out =
      let floor = least_of did.muster.crew.front (gauges_of did.muster.gauges) in
      let disks = disks_of v.recorded v.writing v.members in
      let told : All (IsMustered old.words.front disks) (told_of old).musters = subst (λ (t : BoardInUse). All (IsMustered t.front disks) t.musters) shows.told stands.disks.mustered in
      let own : All (IsMustered old.words.front disks) (musters_of before.muster) = of_one (λ m. musters_of m.muster) old.members at before after here (IsMustered old.words.front disks) told in
      let one : IsMustered old.words.front disks (muster_seen did.muster) =
      All-head (IsMustered old.words.front disks) (muster_seen did.muster) [] (subst (λ (o : Option Muster). All (IsMustered old.words.front disks) (musters_of o)) did.had own) in
      let least : model.least_of did.muster.crew.front (map gauge_seen did.muster.gauges) ≡ floor = least_seen did.muster.crew.front did.muster.gauges in
      let on : (floor ≤ old.words.front) × All (λ d. floor ≤ d.durable) disks =
      subst (λ (f : ℕ). (f ≤ old.words.front) × All (λ d. f ≤ d.durable) disks) least (floor_is_backed old.words.front disks (muster_seen did.muster) one (whole_of did.muster did.whole)) in
      let within : floor ≤ v.told.front = subst (λ (t : BoardInUse). floor ≤ t.front) (sym shows.told) on.0 in
      elim did.did [
        | inl answers ↦ settled_by (λ n. (answer_floor floor n).node) answers.node (λ n. refl) (λ n. refl) keeps may_leave_now (AnswerFloor floor) v events shows (λ n. refl) (λ n. refl)
            (λ m same. (within, on.1, rw same (rw (← ap (λ (o : Out). o.replies) answers.sent, did.told) put_out), refl))
        | inr stops ↦ settled_by (λ n. (stop causes.Memory n).node) stops.node (λ n. refl) (λ n. refl) keeps may_leave_now (Stop causes.Memory) v events shows (λ n. refl) (λ n. refl)
            (λ m same. (ap (λ (n : NodeState). n.stopped) same ∙ did.runs, memory_is_one, rw same (rw (← ap (λ (o : Out). o.replies) stops.sent, did.told) put_out), refl))
      ]
