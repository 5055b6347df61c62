-- A commit of a member ends, and the board tells its receipt.
use Rattle.std.proofs.Common.{if◌then◌else◌, ◌≡◌, ◌⊎◌, Bool, true, false, ℕ, suc, ◌*◌, ◌<◌, ◌≤◌, List, [], ◌∷◌, ◌++◌, length, map, refl, ap, sym, subst, ◌∙◌, inl, inr, arith, ◌≢◌}
use Rattle.std.specs.Prelude.{◌≢◌, All, AllPairs, IfNone, IfSome, IsSomeAnd, Option, Some, None, slice_get, slice_set}
use Rattle.std.specs.Option.{ForSome}
use Rattle.std.proofs.Math.Nat.{le_refl}
use Rattle.std.proofs.lemmas.List.{append-nil, map-append}
use Rattle.std.proofs.lemmas.List.Elements.{All-append, All-cons, All-head, All-nil, All-tail}
use Rattle.configurations.specs.Record.{Record}
use Rattle.disk_model.specs.Disk.{LeavesOnly}
use Rattle.disk_model.specs.declared.error.DiskError.TheVariants.{ReadFault}
use Rattle.flush_barrier.specs.Reply.{GivenReply}
use Rattle.gate_journal.specs.Receipt.{Receipt}
use Rattle.gate_journal.specs.Image.{Image}
use Rattle.local_store.specs.About.{About, meaning_with, one_commit_more}
use Rattle.local_store.specs.Meaning.{Means}
use Rattle.chain_core.specs.Commits.{HasEnded, HasRunOut, HasStoppedBy}
use Rattle.chain_core.specs.Node.{IsUnderWay}
use Rattle.chain_steps.specs.Node.{Commit, NodeState, Out, durable_of}
use Rattle.chain_steps.specs.Place.{is_member}
use Rattle.chain_steps.specs.Steps.{ended, stop, volume_at}
use Rattle.chain_steps.specs.declared.cause.Cause.{Cause}
use Rattle.chain_steps.specs.declared.cause.Cause.TheVariants.{Device, Disorder, Memory}
use Rattle.world_model.specs.Backing.{Disk, IsBacked, IsOnDisk}
use Rattle.world_model.specs.Chain.{ArePutOut, BoardInUse}
use Rattle.world_model.proofs.Counting.{all_at, flat_split, maps_same}
use Rattle.world_model.specs.Event.{ClientEvent}
use Rattle.world_model.specs.Machine.{State}
use Rattle.chain_model.proofs.Orderly.{committed_fronts}
use Rattle.chain_model.proofs.JoiningSteps.{counted_still}
use Rattle.chain_model.specs.Chain.{IsWithin, StandsFor}
use Rattle.chain_model.specs.Laws.{with_members}
use Rattle.chain_model.specs.Life.{BoardTells, Does, Doing, EndCommit, IsToldOfDisks, MemberDoes}
use Rattle.chain_model.specs.View.{Member, View, disk_in, disk_of, disks_of, may_be_recorded, slot_of}
use Rattle.chain.specs.Chain.{Chained, Goes, IsFormed, Shows, bytes_of, told_of}
use Rattle.chain.specs.Commits.{EndsAt, HasEndedCommit, MeansEither, kept_of}
use Rattle.chain.specs.Member.{IsLeft, IsShown, Linked, fronts_of, musters_of, receipts_of}
use Rattle.chain.proofs.CommitSteps.{Works, disk_told, gathers, gathers_all, left_durable, left_then, one_goes, runs_leaves, works_formed, works_lead_so}
use Rattle.chain.proofs.Causes.{device_is_one, memory_is_one}
use Rattle.chain.proofs.Stepping.{formed_then}

module _ {S : Type 0} (about : S → About) (keeps : S → List ℕ → Type 0) (may_leave_now : S → List ℕ → Type 0) (size : ℕ) (before : Linked S) (m : Member) (so : IsShown about keeps may_leave_now size before m)
    (store : S) (p : ℕ) (images : List Image) (receipt : Receipt) (tells : about store ≡ one_commit_more (about before.node.store) p images) (above : durable_of before.node.state < p) (known : p ≤ before.node.state.known) where
  -- the member once the commit up to p is durable
  abbrev pub committed : Linked S
  committed = record before { node = record { store = store; state = ended p before.node.state }; receipt = Some receipt }

  abbrev pub shown_committed : Member
  shown_committed = record m { node = ended p before.node.state; volume = volume_at m.volume before.node.state p }

  -- it is shown at the volume there
  pub shown_ended : before.node.state.stopped ≡ None → keeps store (volume_at m.volume before.node.state p) → ((volume c : List ℕ) → keeps store volume → may_leave_now store c → Means (meaning_with (about store) volume) c)
      → ((s : S) (volume : List ℕ) → keeps s volume → length volume ≡ 4096 * (about s).geometry.blocks) → IsShown about keeps may_leave_now size committed shown_committed
  shown_ended runs kept means sizes = record {
    is = ap (λ (x : Member). record x { node = ended p before.node.state; volume = volume_at m.volume before.node.state p }) so.is;
    whole = sizes store (volume_at m.volume before.node.state p) kept ∙ ap (λ a. 4096 * a.geometry.blocks) tells ∙ sym (sizes before.node.store m.volume (so.keeping runs)) ∙ so.whole;
    keeping = λ on. kept;
    left = λ c may. left_durable (about store) (volume_at m.volume before.node.state p) (ended p before.node.state) c (ap (λ a. a.front) tells) known (means (volume_at m.volume before.node.state p) c kept may);
    durable = ap (λ a. a.front) tells;
    behind = known;
  }

  -- and may have done so
  pub does_end : before.node.state.stopped ≡ None → (v : View) → Does v (EndCommit p) m shown_committed []
  does_end runs v =
      let node : m.node ≡ before.node.state = ap (λ (x : Member). x.node) so.is in (
        ap (λ n. n.stopped) node ∙ runs,
        subst (λ n. n.table.forgotten < p) (sym node) above,
        subst (λ n. p ≤ n.known) (sym node) known,
        ap (λ n. record m { node = ended p n; volume = volume_at m.volume n p }) (sym node),
        refl,
      )

-- no two have the same
pairs_around : {A : Type 0} (R : A → A → Type 0) (xs : List A) (y : A) (ys : List A) → AllPairs R (xs ++ y ∷ ys) → All (λ x. R x y) xs × All (λ z. R y z) ys
pairs_around R [] y ys pairs = (All-nil (λ x. R x y), λ k d lt. pairs 0 (suc k) d (omega arith) (omega arith))
pairs_around R (x ∷ xs) y ys pairs =
    let inner = pairs_around R xs y ys (λ i j d ij within. pairs (suc i) (suc j) d (omega arith) (omega arith)) in
    let ahead : All (λ z. R x z) (xs ++ y ∷ ys) = (λ k d lt. pairs 0 (suc k) d (omega arith) (omega arith)) in
    (All-cons (λ z. R z y) x xs (all_at (λ z. R x z) xs y ys ahead) inner.0, inner.1)

-- a disk of this slot has this front
abbrev HasAt : ℕ → ℕ → Disk → Type 0
HasAt slot front d = d.slot ≡ slot → front ≤ d.durable

-- what its disk has is on the disk of its slot: on no other's
pub receipt_on_disk : (recorded : Record) (writing : Option Record) (over : List Member) (g : Member) (under : List Member) (front : ℕ) → AllPairs (λ slot other. slot ≢ other) (map slot_of (over ++ g ∷ under)) → front ≤ g.node.table.forgotten
    → IsOnDisk (disks_of recorded writing (over ++ g ∷ under)) (record { slot = slot_of g; front = front })
receipt_on_disk recorded writing over g under front apart durable =
    let (before, behind) = pairs_around (λ slot other. slot ≢ other) (map slot_of over) (slot_of g) (map slot_of under) (subst (AllPairs (λ slot other. slot ≢ other)) (map-append slot_of over (g ∷ under)) apart) in
    subst (All (HasAt (slot_of g) front)) (sym (flat_split (disk_in recorded writing) over g under))
    (All-append (HasAt (slot_of g) front) (disks_of recorded writing over) (disk_in recorded writing g ++ disks_of recorded writing under)
    (others over (λ i x within same. before i x within same))
    (All-append (HasAt (slot_of g) front) (disk_in recorded writing g) (disks_of recorded writing under) (in_chain g (may_be_recorded recorded writing g.node) (λ same. durable)) (others under (λ i x within same. behind i x within (sym same)))))
  where
    in_chain : (x : Member) (b : Bool) → HasAt (slot_of g) front (disk_of x) → All (HasAt (slot_of g) front) (if b then disk_of x ∷ [] else [])
    in_chain x true has = All-cons (HasAt (slot_of g) front) (disk_of x) [] has (All-nil (HasAt (slot_of g) front))
    in_chain x false has = All-nil (HasAt (slot_of g) front)

    others : (ms : List Member) → All (λ slot. slot ≢ slot_of g) (map slot_of ms) → All (HasAt (slot_of g) front) (disks_of recorded writing ms)
    others [] all = All-nil (HasAt (slot_of g) front)
    others (x ∷ xs) all = All-append (HasAt (slot_of g) front) (disk_in recorded writing x) (disks_of recorded writing xs)
        (in_chain x (may_be_recorded recorded writing x.node) (λ same. absurd (All-head (λ slot. slot ≢ slot_of g) (slot_of x) (map slot_of xs) all same)))
        (others xs (All-tail (λ slot. slot ≢ slot_of g) (slot_of x) (map slot_of xs) all))

-- a member does so, and then the board tells something else
pub does_then_tells : {size : ℕ} (v : View) (doing : Doing) (over : List Member) (m g : Member) (under : List Member) (told : BoardInUse) (events : List ClientEvent) → v.members ≡ over ++ m ∷ under → Does v doing m g events
    → IsToldOfDisks (with_members v (over ++ g ∷ under)) (record v { told = told; members = over ++ g ∷ under }) → Goes size v (record v { told = told; members = over ++ g ∷ under }) events
does_then_tells v doing over m g under told events were did tells = record {
  happenings = MemberDoes doing ∷ BoardTells ∷ [];
  each = events ∷ [] ∷ [];
  inner = refl;
  era = (
    with_members v (over ++ g ∷ under),
    events,
    [] ∷ [],
    refl,
    record { above = over; old = m; new = g; below = under; were = were; are = refl; change = did },
    (record v { told = told; members = over ++ g ∷ under }, [], [], refl, (tells, refl), (refl, refl)),
  );
  all = append-nil events;
}

-- ---- what a stop leaves

-- what means the old front or that of the commit is left
either_left : (about : About) (volume : List ℕ) (node : NodeState) (c : List ℕ) (commit : Option Commit) → ((x : Commit) → commit ≡ Some x → IsUnderWay about node x)
    → IsSomeAnd commit (λ x. Means (meaning_with (record about { front = x.front }) (volume_at volume node x.front)) c) → IsLeft about volume node c
either_left about volume node c None under none = absurd none
either_left about volume node c (Some x) under means = let is = under x refl in (x.front, le_of is.above, is.known, means)
  where
    le_of : {a b : ℕ} → a < b → a ≤ b
    le_of below = omega (arith, below)

module _ {S : Type 0} (about : S → About) (keeps : S → List ℕ → Type 0) (may_leave_now : S → List ℕ → Type 0) (size : ℕ) (before : Linked S) (m : Member) (so : IsShown about keeps may_leave_now size before m)
    (under : ForSome before.node.state.commit (IsUnderWay (about before.node.store) before.node.state)) where
  pub is_either : (c : List ℕ) → MeansEither about before m.volume c → IsLeft (about before.node.store) m.volume before.node.state c
  is_either c (inl means) = left_durable (about before.node.store) m.volume before.node.state c so.durable so.behind means
  is_either c (inr means) = either_left (about before.node.store) m.volume before.node.state c before.node.state.commit under means

-- ---- what becomes of the commit under way

module _ {S : Type 0} (premise : Type 0) (about : S → About) (is_pending : S → ℕ → Type 0) (failures : S → ℕ) (keeps : S → List ℕ → Type 0) (before after : Linked S) (replies : List GivenReply)
    (did : HasEndedCommit premise about is_pending failures keeps replies before after) where
  -- the member stopped
  pub record HasNoEnd : Type 0 where
    pub works : Works about before after replies
    pub kept : (volume : List ℕ) → keeps before.node.store volume → after.node.state.stopped ≡ None → keeps after.node.store volume

  -- it ended
  pub record HasAnEnd : Type 0 where
    pub commit : Commit
    pub receipt : Receipt
    pub was : before.node.state.commit ≡ Some commit
    pub ended : HasEnded about before.node after.node did.out commit receipt
    pub are : after ≡ record before { node = after.node; receipt = Some receipt }
    pub kept : premise → (volume : List ℕ) → keeps before.node.store volume → keeps after.node.store (volume_at volume before.node.state commit.front)

  halts : (cause : Cause) → cause ≢ Disorder → (disk_told (about after.node.store) ≡ disk_told (about before.node.store)) → after.node.state ≡ (stop cause before.node.state).node → replies ≡ (stop cause before.node.state).out.replies
      → after ≡ record before { node = after.node } → HasNoEnd
  halts cause other disk node told are = record {
    works = record { runs = did.runs; are = are; disk = disk; outcome = inr (inr (cause, other, node, told)) };
    kept = λ volume keep on. let none : Some cause ≡ None = ap (λ (n : NodeState). n.stopped) (sym node) ∙ on in absurd (cc);
  }

  end_of : (commit : Option Commit) (given : Option Receipt) → before.node.state.commit ≡ commit → after ≡ record before { node = after.node; receipt = kept_of given before.receipt }
      → (commit ≡ None → ⊥)
      → IfSome commit (λ x. IfSome given (HasEnded about before.node after.node did.out x))
      → IfSome commit (λ x. IfNone given (HasRunOut about before.node after.node did.out ⊎ HasStoppedBy about failures (λ error. error ≢ ReadFault) before.node after.node did.out))
      → (premise → (volume : List ℕ) → keeps before.node.store volume → IfSome given (λ receipt. keeps after.node.store (volume_at volume before.node.state receipt.front)))
      → HasNoEnd ⊎ HasAnEnd
  end_of None given was are had ends halted kept = absurd (had refl)
  end_of (Some commit) None was are had ends halted kept = inl (elim halted [
    | inl is ↦ halts Memory memory_is_one (ap disk_told is.tells) is.node (sym did.told ∙ ap (λ (o : Out). o.replies) is.sent) are
    | inr is ↦ halts (Device is.error) (device_is_one is.error) (ap disk_told is.broken) is.node (sym did.told ∙ ap (λ (o : Out). o.replies) is.sent) are
  ])
  end_of (Some commit) (Some receipt) was are had ends halted kept = inr (record {
    commit = commit;
    receipt = receipt;
    was = was;
    ended = ends;
    are = are;
    kept = λ so volume keep. subst (λ n. keeps after.node.store (volume_at volume before.node.state n)) (ap (λ (r : Receipt). r.front) ends.receipt_is) (kept so volume keep);
  })

  pub end_came : HasNoEnd ⊎ HasAnEnd
  end_came = end_of before.node.state.commit did.given refl did.are did.had did.ended did.stopped did.kept

  module _ (old : Chained S) (at : ℕ) (here : slice_get old.members at ≡ Some before) where
    abbrev pub now : Chained S
    now = record old { members = slice_set old.members at after }

    with_end_formed : HasAnEnd → IsFormed about old → IsFormed about now
    with_end_formed is formed = formed_then old at before after here about
        (λ was. record {
          board = ap (λ (n : NodeState). n.board) is.ended.node ∙ was.board;
          sizes = ap (λ a. a.geometry) is.ended.tells ∙ was.sizes;
          member = ap (λ (n : NodeState). is_member n.place) is.ended.node ∙ was.member;
          front = rw (ap (λ x. x.front) is.are) was.front;
          muster = rw (ap (λ x. x.muster) is.are) was.muster;
        })
        formed

    pub end_formed : (may_leave_now : S → List ℕ → Type 0) → IsFormed about old → IsFormed about now
    end_formed may_leave_now formed = elim end_came [
      | inl is ↦ works_formed about keeps may_leave_now old at before here after replies is.works formed
      | inr is ↦ with_end_formed is formed
    ]

    -- what is needed of the store
    module _ (may_leave_now : S → List ℕ → Type 0) (moment : S → ℕ) (left_since : S → ℕ → List ℕ → Type 0) (so : premise)
        (means_now : (store : S) (volume c : List ℕ) → keeps store volume → may_leave_now store c → Means (meaning_with (about store) volume) c)
        (counts_now : (store : S) (t : ℕ) (c : List ℕ) → t ≤ moment store → may_leave_now store c → left_since store t c)
        (keeps_size : (store : S) (volume : List ℕ) → keeps store volume → length volume ≡ 4096 * (about store).geometry.blocks)
        (under : ForSome before.node.state.commit (IsUnderWay (about before.node.store) before.node.state))
        (run : (volume : List ℕ) → keeps before.node.store volume → LeavesOnly moment left_since before.node.store after.node.store (MeansEither about before volume)) where
      abbrev IsSo : Linked S → Member → Type 0
      IsSo x shown = IsShown about keeps may_leave_now (bytes_of old) x shown

      abbrev pub is_left : (m : Member) → IsSo before m → (c : List ℕ) → MeansEither about before m.volume c → IsLeft (about before.node.store) m.volume before.node.state c
      is_left m fits c means = is_either about keeps may_leave_now (bytes_of old) before m fits under c means

      pub end_leaves : EndsAt about keeps may_leave_now moment left_since at old now
      end_leaves = runs_leaves about keeps may_leave_now old at before here (MeansEither about) is_left moment left_since after did.runs run

      abbrev Leads : Linked S → View → List ClientEvent → Type 0
      Leads x v events = (w : View) × Shows about keeps may_leave_now (record old { members = slice_set old.members at x }) w × Goes (bytes_of old) v w events

      module _ (v : View) (s : State) (events : List ClientEvent) (shows : Shows about keeps may_leave_now old v) (stands : StandsFor (bytes_of old) v s) (put_out : ArePutOut replies events) where
        module _ (is : HasAnEnd) where
          -- the member then, and as which it is shown
          abbrev done : Linked S
          done = record before { node = record { store = after.node.store; state = ended is.commit.front before.node.state }; receipt = Some is.receipt }

          abbrev shown_as : Member → Member
          shown_as m = record m { node = ended is.commit.front before.node.state; volume = volume_at m.volume before.node.state is.commit.front }

          abbrev chain_then : Chained S
          chain_then = record old { members = slice_set old.members at done }

          done_is : after ≡ done
          done_is = is.are ∙ ap (λ (n : NodeState). record before { node = record { store = after.node.store; state = n }; receipt = Some is.receipt }) is.ended.node

          way : IsUnderWay (about before.node.store) before.node.state is.commit
          way = under is.commit is.was

          above : durable_of before.node.state < is.commit.front
          above = way.above

          none_told : events ≡ []
          none_told = subst (λ rs. ArePutOut rs events) (sym did.told ∙ ap (λ (o : Out). o.replies) is.ended.sent) put_out

          -- the receipt is on its disk
          on_disk : (over : List Member) (m : Member) (others : List Member) → v.members ≡ over ++ m ∷ others → IsSo before m → IsOnDisk (disks_of v.recorded v.writing (over ++ shown_as m ∷ others)) is.receipt
          on_disk over m others are fits =
              let ((line, backed, stand), joins) = stands in
              let slot : slot_of (shown_as m) ≡ slot_of m = sym (ap (λ (x : Member). x.node.place.slot) fits.is) in
              let apart : AllPairs (λ slot other. slot ≢ other) (map slot_of (over ++ shown_as m ∷ others)) =
              subst (AllPairs (λ slot other. slot ≢ other)) (ap (map slot_of) are ∙ sym (maps_same slot_of over m (shown_as m) others slot)) stand.slots in
              subst (IsOnDisk (disks_of v.recorded v.writing (over ++ shown_as m ∷ others))) (sym is.ended.receipt_is) (receipt_on_disk v.recorded v.writing over (shown_as m) others is.commit.front apart (le_refl is.commit.front))

          backed_so : (disks : List Disk) → IsOnDisk disks is.receipt → IsBacked old.words.front old.words.mask (told_of old).gauges (told_of old).receipts (told_of old).musters disks
              → IsBacked old.words.front old.words.mask (told_of chain_then).gauges (told_of chain_then).receipts (told_of chain_then).musters disks
          backed_so disks on was = record {
            mask_covers = was.mask_covers;
            gauges_backed = was.gauges_backed;
            receipts_backed = gathers_all about keeps may_leave_now old at before here (λ x. receipts_of x.receipt) (IsOnDisk disks) done (λ all. All-cons (IsOnDisk disks) is.receipt [] on (All-nil (IsOnDisk disks))) was.receipts_backed;
            mustered = rw (gathers about keeps may_leave_now old at before here (λ x. musters_of x.muster) done refl) was.mustered;
          }

          -- and within the front: what is committed with it is known
          is_committed : (over : List Member) (m : Member) (others : List Member) → v.members ≡ over ++ m ∷ others → IsSo before m → is.receipt.front ≤ old.words.front
          is_committed over m others are fits =
              let node : m.node ≡ before.node.state = ap (λ (x : Member). x.node) fits.is in
              let (from, known, has) = committed_fronts (bytes_of old) v over m others s (subst (λ (ms : List Member). StandsFor (bytes_of old) (with_members v ms) s) are stands) (ap (λ (n : NodeState). n.stopped) node ∙ did.runs) in
              let low : before.node.state.known ≤ old.words.front = subst (λ (t : BoardInUse). before.node.state.known ≤ t.front) shows.told (subst (λ (n : NodeState). n.known ≤ v.told.front) node known) in
              omega (arith, low, way.known, ap (λ (r : Receipt). r.front) is.ended.receipt_is)

          within_so : is.receipt.front ≤ old.words.front → IsWithin old.words.front (told_of old).gauges (told_of old).receipts (told_of old).musters
              → IsWithin old.words.front (told_of chain_then).gauges (told_of chain_then).receipts (told_of chain_then).musters
          within_so low was = record {
            gauges_within = was.gauges_within;
            receipts_within = gathers_all about keeps may_leave_now old at before here (λ x. receipts_of x.receipt) (λ r. r.front ≤ old.words.front) done
                (λ all. All-cons (λ (r : Receipt). r.front ≤ old.words.front) is.receipt [] low (All-nil (λ (r : Receipt). r.front ≤ old.words.front))) was.receipts_within;
            musters_within = rw (gathers about keeps may_leave_now old at before here (λ x. musters_of x.muster) done refl) was.musters_within;
          }

          tells : (over : List Member) (m : Member) (others : List Member) → v.members ≡ over ++ m ∷ others → IsSo before m
              → IsToldOfDisks (with_members v (over ++ shown_as m ∷ others)) (record v { told = told_of chain_then; members = over ++ shown_as m ∷ others })
          tells over m others are fits = record {
            told = told_of chain_then;
            front = sym (ap (λ (t : BoardInUse). t.front) shows.told);
            within = λ was. within_so (is_committed over m others are fits) (subst (λ (t : BoardInUse). IsWithin t.front t.gauges t.receipts t.musters) shows.told was);
            joiner = counted_still v (told_of chain_then).mask (sym (ap (λ (t : BoardInUse). t.mask) shows.told));
            backed = λ was. backed_so (disks_of v.recorded v.writing (over ++ shown_as m ∷ others)) (on_disk over m others are fits)
                (subst (λ (t : BoardInUse). IsBacked t.front t.mask t.gauges t.receipts t.musters (disks_of v.recorded v.writing (over ++ shown_as m ∷ others))) shows.told was);
            fronts = λ all. rw (gathers about keeps may_leave_now old at before here (λ x. fronts_of x.front) done refl) (subst (λ (t : BoardInUse). All (λ f. f ≤ t.front) t.fronts) shows.told all);
            are = refl;
          }

          done_goes : Leads done v []
          done_goes = one_goes about keeps may_leave_now old at before here old.words done v [] shows (λ over m others are fits. (
            shown_as m,
            shown_ended about keeps may_leave_now (bytes_of old) before m fits after.node.store is.commit.front is.commit.images is.receipt is.ended.tells above way.known
                did.runs (is.kept so m.volume (fits.keeping did.runs)) (λ volume c. means_now after.node.store volume c) keeps_size,
            does_then_tells v (EndCommit is.commit.front) over m (shown_as m) others (told_of chain_then) [] are
                (does_end about keeps may_leave_now (bytes_of old) before m fits after.node.store is.commit.front is.commit.images is.receipt is.ended.tells above way.known did.runs v) (tells over m others are fits),
          ))

          with_end : Leads after v events
          with_end = subst (λ x. Leads x v events) (sym done_is) (rw none_told done_goes)

        pub end_goes : Leads after v events
        end_goes = elim end_came [
          | inl is ↦ works_lead_so about keeps may_leave_now old at before here after replies is.works v events
              (left_then about keeps may_leave_now old at before here (MeansEither about) is_left moment left_since after did.runs run counts_now) (λ m fits on. is.kept m.volume (fits.keeping did.runs) on) shows put_out
          | inr is ↦ with_end is
        ]
