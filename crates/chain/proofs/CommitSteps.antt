-- A member commits, its store works, or it stops: what is shown of the chain then, and what happened in it.
use Rattle.std.proofs.Common.{◌≡◌, ℕ, zero, suc, ◌+◌, ◌-◌, ◌≤◌, false, List, [], ◌∷◌, ◌++◌, refl, ap, sym, subst, inl, inr, ◌∙◌, arith, ◌≢◌}
use Rattle.std.specs.Prelude.{◌≢◌, ◌⊎◌, All, max, slice_index, IfErr, IfNone, IfOk, IfSome, Ok, Err, Option, Result, Some, None, fold, map, slice_get, slice_set, take}
use Rattle.std.specs.List.{AllZip, flat_map}
use Rattle.std.proofs.Math.Nat.{le_refl}
use Rattle.std.proofs.lemmas.List.Elements.{All-cons, All-head, All-nil, All-tail}
use Rattle.disk_model.specs.Disk.{LeavesOnly}
use Rattle.disk_model.specs.Error.{MayTell}
use Rattle.disk_model.specs.Moments.{started, weaker}
use Rattle.disk_model.specs.declared.error.DiskError.{DiskError}
use Rattle.disk_model.specs.declared.error.DiskError.TheVariants.{ReadFault, WriteFault}
use Rattle.flush_barrier.specs.Reply.{GivenReply}
use Rattle.gate_journal.specs.Receipt.{Receipt}
use Rattle.local_store.specs.About.{About, meaning_with, one_checkpoint_more}
use Rattle.local_store.specs.Meaning.{Means}
use Rattle.version_table.specs.Held.{Held, writes_upto}
use Rattle.volume.specs.Writes.{patched}
use Rattle.chain_steps.specs.Node.{Commit, NodeState, Out, durable_of}
use Rattle.chain_steps.specs.Place.{is_member}
use Rattle.chain_steps.specs.Steps.{stop, volume_at}
use Rattle.chain_steps.specs.declared.cause.Cause.{Cause}
use Rattle.chain_steps.specs.declared.cause.Cause.TheVariants.{Device, Disorder, Memory, Told as ByWord}
use Rattle.chain_core.specs.Commits.{HasStoppedBy, HasWorked}
use Rattle.chain_core.specs.Node.{Seen}
use Rattle.world_model.specs.Backing.{Disk, IsBacked, IsOnDisk}
use Rattle.world_model.specs.Chain.{ArePutOut, BoardInUse}
use Rattle.world_model.proofs.Counting.{all_before, all_behind, all_between, flat_same, flat_split}
use Rattle.world_model.specs.Event.{ClientEvent}
use Rattle.chain_model.proofs.JoiningSteps.{counted_still}
use Rattle.chain_model.specs.Chain.{IsWithin}
use Rattle.chain_model.specs.Life.{BeginCommit, BoardTells, Stop}
use Rattle.chain_model.specs.View.{Member, View, disks_of}
use Rattle.chain.specs.Chain.{Chained, Goes, IsFormed, Shows, bytes_of, gauges_from, told_of}
use Rattle.chain.specs.Commits.{HasBegunCommits, HasCheckpointed, HasNoGroup, HasNoNumber, HasStoppedTold, HasTicked, LeavesAt, MeansOld, StopsAt, replies_of}
use Rattle.chain.specs.LoneBoard.{Words, posted}
use Rattle.chain.specs.Passing.{replies_in}
use Rattle.chain.specs.Member.{HasCalled, IsLeft, IsShown, Linked, fronts_of, member_of, musters_of, receipts_of}
use Rattle.chain.proofs.Cells.{place_of, set_there, twin_of}
use Rattle.chain.proofs.Causes.{device_is_one, memory_is_one, told_is_one}
use Rattle.chain.proofs.Stepping.{UsesAsBefore, formed_then, one_does, shown_still}

-- ---- the disk

-- what a store tells of its disk
abbrev pub disk_told : About → About
disk_told a = record a { used = 0; stores = 0; broken = false }

-- no write is below the durable front
none_durable : (table : Held) → writes_upto table table.forgotten ≡ []
none_durable table = let none : table.forgotten - table.forgotten ≡ 0 = omega arith in ap (λ n. map (λ k. k.write) (take n table.kept)) none

-- what means the store's front and volume is the durable front
pub left_durable : (about : About) (volume : List ℕ) (node : NodeState) (c : List ℕ) → about.front ≡ durable_of node → durable_of node ≤ node.known → Means (meaning_with about volume) c → IsLeft about volume node c
left_durable about volume node c durable behind means = (
  durable_of node,
  le_refl (durable_of node),
  behind,
  subst (λ v. Means (meaning_with (record about { front = durable_of node }) v) c) (sym (ap (fold patched volume) (none_durable node.table)))
      (subst (λ f. Means (meaning_with (record about { front = f }) volume) c) durable means),
)

-- ---- the member goes on, over what its store is now

-- what of a member no call of its node changes
pub record Remains {S : Type 0} (about : S → About) (old new : Seen S) : Type 0 where
  pub board : new.state.board ≡ old.state.board
  pub place : new.state.place ≡ old.state.place
  pub geometry : (about new.store).geometry ≡ (about old.store).geometry

-- the member with another store and state
abbrev pub with_node : {S : Type 0} → Linked S → S → NodeState → Linked S
with_node before store state = record before { node = record { store = store; state = state } }

module _ {S : Type 0} (about : S → About) (old : Chained S) (at : ℕ) (before : Linked S) (here : slice_get old.members at ≡ Some before) where
  pub formed_called : (after : Linked S) → after ≡ record before { node = after.node } → Remains about before.node after.node → IsFormed about old → IsFormed about (record old { members = slice_set old.members at after })
  formed_called after are stays formed = formed_then old at before after here about
      (λ is. record {
        board = stays.board ∙ is.board;
        sizes = stays.geometry ∙ is.sizes;
        member = ap is_member stays.place ∙ is.member;
        front = rw (ap (λ x. x.front) are) is.front;
        muster = rw (ap (λ x. x.muster) are) is.muster;
      })
      formed

module _ {S : Type 0} (about : S → About) (keeps : S → List ℕ → Type 0) (may_leave_now : S → List ℕ → Type 0) (size : ℕ) (before : Linked S) (m : Member) (so : IsShown about keeps may_leave_now size before m) where
  -- the same of what is left of another store over the same disk
  left_over : (store : S) (state : NodeState) (c : List ℕ) → disk_told (about store) ≡ disk_told (about before.node.store) → state.table ≡ before.node.state.table → state.known ≡ before.node.state.known
      → IsLeft (about before.node.store) m.volume before.node.state c → IsLeft (about store) m.volume state c
  left_over store state c disk table known left = (
    left.0,
    rw table left.1,
    rw known left.2,
    subst (λ t. Means (meaning_with (record (about store) { front = left.0 }) (fold patched m.volume (writes_upto t left.0))) c) (sym table)
        (subst (λ d. Means (meaning_with (record d { front = left.0 }) (volume_at m.volume before.node.state left.0)) c) (sym disk) left.3),
  )

  -- A member whose store has the same disk, and that has the same writes and known commit, is shown at the same volume.
  pub shown_over : (store : S) (state : NodeState) (g : Member) → g ≡ member_of (with_node before store state) g.volume g.demands → g.volume ≡ m.volume
      → disk_told (about store) ≡ disk_told (about before.node.store) → state.table ≡ before.node.state.table → state.known ≡ before.node.state.known
      → (state.stopped ≡ None → keeps store m.volume) → ((c : List ℕ) → may_leave_now store c → IsLeft (about before.node.store) m.volume before.node.state c)
      → IsShown about keeps may_leave_now size (with_node before store state) g
  shown_over store state g is volume disk table known keeping left = record {
    is = is;
    whole = rw volume so.whole;
    keeping = λ runs. rw volume (keeping runs);
    left = λ c may. rw volume (left_over store state c disk table known (left c may));
    durable = ap (λ a. a.front) disk ∙ (so.durable ∙ sym (ap (λ t. t.forgotten) table));
    behind = rw (table, known) so.behind;
  }

  -- what means what the store meant is left of it
  pub left_old : (c : List ℕ) → MeansOld about before m.volume c → IsLeft (about before.node.store) m.volume before.node.state c
  left_old c means = left_durable (about before.node.store) m.volume before.node.state c so.durable so.behind means

-- ---- what a call of its node leaves of a member

-- its state stays; or a commit begins; or it stops: with these replies
abbrev pub Outcome : NodeState → NodeState → List GivenReply → Type 0
Outcome old new replies =
    ((new ≡ old) × (replies ≡ []))
    ⊎ (((commit : Option Commit) × (new ≡ record old { commit = commit; found = None }) × (replies ≡ []))
    ⊎ ((cause : Cause) × (cause ≢ Disorder) × (new ≡ (stop cause old).node) × (replies ≡ (stop cause old).out.replies)))

-- The member ran, and its store tells of the same disk.
pub record Works {S : Type 0} (about : S → About) (before after : Linked S) (replies : List GivenReply) : Type 0 where
  pub runs : before.node.state.stopped ≡ None
  pub are : after ≡ record before { node = after.node }
  pub disk : disk_told (about after.node.store) ≡ disk_told (about before.node.store)
  pub outcome : Outcome before.node.state after.node.state replies

-- what it keeps and leaves then
pub record Keeps {S : Type 0} (keeps : S → List ℕ → Type 0) (about : S → About) (moment : S → ℕ) (left_since : S → ℕ → List ℕ → Type 0) (before after : Linked S) : Type 0 where
  pub kept : (volume : List ℕ) → keeps before.node.store volume → after.node.state.stopped ≡ None → keeps after.node.store volume
  pub run : (volume : List ℕ) → keeps before.node.store volume → LeavesOnly moment left_since before.node.store after.node.store (Means (meaning_with (about before.node.store) volume))

remains_by : {S : Type 0} (about : S → About) (old new : Seen S) (replies : List GivenReply) → (about new.store).geometry ≡ (about old.store).geometry → Outcome old.state new.state replies → Remains about old new
remains_by about old new replies same (inl is) = record {
  board = ap (λ n. n.board) is.0;
  place = ap (λ n. n.place) is.0;
  geometry = same;
}
remains_by about old new replies same (inr (inl is)) = record {
  board = ap (λ n. n.board) is.1;
  place = ap (λ n. n.place) is.1;
  geometry = same;
}
remains_by about old new replies same (inr (inr is)) = record {
  board = ap (λ n. n.board) is.2;
  place = ap (λ n. n.place) is.2;
  geometry = same;
}

-- ---- the board tells

pub raised_on : (front more durable : ℕ) → front ≤ durable → more ≤ durable → max front more ≤ durable
raised_on front more durable one other = omega (arith, one, other)

-- what holds of all gauges holds of them once a receipt's is raised
pub gauge_raised : (P : Receipt → Type 0) (receipt : Receipt) → ((front : ℕ) → P (record { slot = receipt.slot; front = front }) → P (record { slot = receipt.slot; front = max front receipt.front }))
    → (slot : ℕ) (gauges : List ℕ) (at : ℕ) → slot + at ≡ receipt.slot → All P (gauges_from slot gauges) → All P (gauges_from slot (slice_set gauges at (max (slice_index gauges at) receipt.front)))
gauge_raised P receipt rises slot [] at here all = all
gauge_raised P receipt rises slot (gauge ∷ gauges) zero here all =
    let is : slot ≡ receipt.slot = omega (arith, here) in
    let head = All-head P (record { slot = slot; front = gauge }) (gauges_from (slot + 1) gauges) all in
    All-cons P (record { slot = slot; front = max gauge receipt.front }) (gauges_from (slot + 1) gauges)
    (subst (λ s. P (record { slot = s; front = max gauge receipt.front })) (sym is) (rises gauge (subst (λ s. P (record { slot = s; front = gauge })) is head)))
    (All-tail P (record { slot = slot; front = gauge }) (gauges_from (slot + 1) gauges) all)
gauge_raised P receipt rises slot (gauge ∷ gauges) (suc at) here all =
    All-cons P (record { slot = slot; front = gauge }) (gauges_from (slot + 1) (slice_set gauges at (max (slice_index gauges at) receipt.front)))
    (All-head P (record { slot = slot; front = gauge }) (gauges_from (slot + 1) gauges) all)
    (gauge_raised P receipt rises (slot + 1) gauges at (omega (arith, here)) (All-tail P (record { slot = slot; front = gauge }) (gauges_from (slot + 1) gauges) all))

-- the board tells something else, and no member changes
pub board_tells : {size : ℕ} (v : View) (told : BoardInUse) (over : List Member) (m : Member) (under : List Member) (events : List ClientEvent) → v.members ≡ over ++ m ∷ under → told.front ≡ v.told.front → told.mask ≡ v.told.mask
    → (IsWithin v.told.front v.told.gauges v.told.receipts v.told.musters → IsWithin told.front told.gauges told.receipts told.musters)
    → ((disks : List Disk) → IsBacked v.told.front v.told.mask v.told.gauges v.told.receipts v.told.musters disks → IsBacked told.front told.mask told.gauges told.receipts told.musters disks)
    → (All (λ f. f ≤ v.told.front) v.told.fronts → All (λ f. f ≤ told.front) told.fronts) → ArePutOut [] events
    → Goes size v (record v { told = told; members = over ++ m ∷ under }) events
board_tells {size} v told over m under events are front mask within backed fronts put_out = record {
  happenings = BoardTells ∷ [];
  each = [] ∷ [];
  inner = refl;
  era = (
    record v { told = told; members = over ++ m ∷ under },
    [],
    [],
    refl,
    (record { told = told; front = front; within = within; joiner = counted_still v told.mask mask; backed = backed (disks_of v.recorded v.writing v.members); fronts = fronts; are = ap (λ (ms : List Member). record v { told = told; members = ms }) (sym are) }, refl),
    (refl, refl),
  );
  all = sym put_out;
}

module _ {S : Type 0} (about : S → About) (keeps : S → List ℕ → Type 0) (may_leave_now : S → List ℕ → Type 0) (old : Chained S) (at : ℕ) (before : Linked S) (here : slice_get old.members at ≡ Some before) where
  abbrev IsSo : Linked S → Member → Type 0
  IsSo m shown = IsShown about keeps may_leave_now (bytes_of old) m shown

  abbrev ShowsSo : Chained S → View → Type 0
  ShowsSo c v = Shows about keeps may_leave_now c v

  -- the chain with these words and another member at the place
  abbrev with_words : Words → Linked S → Chained S
  with_words words after = record old { words = words; members = slice_set old.members at after }

  -- what the chain becomes, and what happened in it
  abbrev Leads : Linked S → View → List ClientEvent → Type 0
  Leads after v events = (w : View) × ShowsSo (record old { members = slice_set old.members at after }) w × Goes (bytes_of old) v w events

  -- The member becomes another, and the board tells what it tells then: what happened on the way is left to say.
  pub one_goes : (words : Words) (after : Linked S) (v : View) (events : List ClientEvent) → ShowsSo old v
      → ((over : List Member) (m : Member) (under : List Member) → v.members ≡ over ++ m ∷ under → IsSo before m
      → (g : Member) × IsSo after g × Goes (bytes_of old) v (record v { told = told_of (with_words words after); members = over ++ g ∷ under }) events)
      → (w : View) × ShowsSo (with_words words after) w × Goes (bytes_of old) v w events
  one_goes words after v events shows step =
      let place = place_of old.members at before here in
      let twin = twin_of IsSo place.above before place.below v.members (subst (λ l. AllZip IsSo l v.members) place.split shows.members) in
      let did = step twin.over twin.own twin.under twin.are twin.fits in (
        record v { told = told_of (with_words words after); members = twin.over ++ did.0 ∷ twin.under },
        record {
          told = refl;
          recorded = shows.recorded;
          before = shows.before;
          writing = shows.writing;
          youngest = shows.youngest;
          members = subst (λ l. AllZip IsSo l (twin.over ++ did.0 ∷ twin.under)) (sym (place.setting after)) (twin.others after did.0 place.below twin.under did.1 twin.rest);
          links = shows.links;
          submits = shows.submits;
        },
        did.2,
      )

  pub gathers : {B : Type 0} (f : Linked S → List B) (after : Linked S) → f after ≡ f before → flat_map f (slice_set old.members at after) ≡ flat_map f old.members
  gathers f after is =
      let place = place_of old.members at before here in
      ap (flat_map f) (place.setting after) ∙ flat_same f place.above before after place.below is ∙ ap (flat_map f) (sym place.split)

  -- nothing happens, and the member is shown as it was
  pub one_stays : (after : Linked S) (v : View) (events : List ClientEvent) → UsesAsBefore before after → ShowsSo old v → ArePutOut [] events → ((m : Member) → IsSo before m → IsSo after m) → Leads after v events
  one_stays after v events same shows put_out still = one_goes old.words after v events shows (λ over m under are so. (
    m,
    still m so,
    record {
      happenings = [];
      each = [];
      inner = refl;
      era = (
        ap (λ (t : BoardInUse). record v { told = t; members = over ++ m ∷ under })
            (rw (gathers (λ x. fronts_of x.front) after same.front, gathers (λ x. musters_of x.muster) after same.muster, gathers (λ x. receipts_of x.receipt) after same.receipt) (sym shows.told))
            ∙ ap (λ (ms : List Member). record v { members = ms }) (sym are),
        refl,
      );
      all = sym put_out;
    },
  ))

  module _ (store : S) (disk : disk_told (about store) ≡ disk_told (about before.node.store)) (v : View) (events : List ClientEvent) (shows : ShowsSo old v)
      (left : (m : Member) → IsSo before m → (c : List ℕ) → may_leave_now store c → IsLeft (about before.node.store) m.volume before.node.state c) where
    -- the store did its work
    works_goes : ((m : Member) → IsSo before m → before.node.state.stopped ≡ None → keeps store m.volume) → ArePutOut [] events → Leads (with_node before store before.node.state) v events
    works_goes kept put_out = one_stays _ v events (record { front = refl; muster = refl; receipt = refl }) shows put_out (λ m so.
        shown_over about keeps may_leave_now (bytes_of old) before m so store before.node.state m so.is refl disk refl refl (kept m so) (left m so))

    -- a commit began
    begun_goes : (commit : Option Commit) → ((m : Member) → IsSo before m → before.node.state.stopped ≡ None → keeps store m.volume) → ArePutOut [] events
        → Leads (with_node before store (record before.node.state { commit = commit; found = None })) v events
    begun_goes commit kept put_out = one_does about keeps may_leave_now old at before _ here (BeginCommit commit) v events (record { front = refl; muster = refl; receipt = refl }) shows (λ m so. (
      record m { node = record m.node { commit = commit; found = None } },
      shown_over about keeps may_leave_now (bytes_of old) before m so store _ _ (ap (λ (x : Member). record x { node = record x.node { commit = commit; found = None } }) so.is) refl disk refl refl (kept m so) (left m so),
      (refl, put_out),
    ))

    -- the member stopped
    halted_goes : (cause : Cause) → before.node.state.stopped ≡ None → cause ≢ Disorder → ArePutOut (stop cause before.node.state).out.replies events → Leads (with_node before store (stop cause before.node.state).node) v events
    halted_goes cause on other put_out = one_does about keeps may_leave_now old at before _ here (Stop cause) v events (record { front = refl; muster = refl; receipt = refl }) shows (λ m so. (
      record m { node = (stop cause m.node).node },
      shown_over about keeps may_leave_now (bytes_of old) before m so store _ _ (ap (λ (x : Member). record x { node = (stop cause x.node).node }) so.is) refl disk refl refl
          (λ runs. let no : Some cause ≡ None = runs in absurd (cc)) (left m so),
      (ap (λ (x : Member). x.node.stopped) so.is ∙ on, other, subst (λ n. ArePutOut (stop cause n).out.replies events) (sym (ap (λ (x : Member). x.node) so.is)) put_out, refl),
    ))

  -- what a stop at any moment of a call leaves, where the member ran
  module _ (IsMeant : Linked S → List ℕ → List ℕ → Type 0) (is_left : (m : Member) → IsSo before m → (c : List ℕ) → IsMeant before m.volume c → IsLeft (about before.node.store) m.volume before.node.state c)
      (moment : S → ℕ) (left_since : S → ℕ → List ℕ → Type 0) (after : Linked S) (runs : before.node.state.stopped ≡ None)
      (run : (volume : List ℕ) → keeps before.node.store volume → LeavesOnly moment left_since before.node.store after.node.store (IsMeant before volume)) where
    leaves_so : (m : Member) → IsSo before m → LeavesOnly moment left_since before.node.store after.node.store (IsLeft (about before.node.store) m.volume before.node.state)
    leaves_so m so = weaker moment left_since before.node.store after.node.store (IsMeant before m.volume) (IsLeft (about before.node.store) m.volume before.node.state) (is_left m so) (run m.volume (so.keeping runs))

    pub runs_leaves : StopsAt IsMeant about keeps may_leave_now moment left_since at old (record old { members = slice_set old.members at after })
    runs_leaves = record { before = before; after = after; here = here; there = set_there old.members at before after here; means = run; leaves = leaves_so }

    -- and what a stop leaves then
    pub left_then : ((store : S) (t : ℕ) (c : List ℕ) → t ≤ moment store → may_leave_now store c → left_since store t c)
        → (m : Member) → IsSo before m → (c : List ℕ) → may_leave_now after.node.store c → IsLeft (about before.node.store) m.volume before.node.state c
    left_then counts m so c may = let left = leaves_so m so in left.each c (counts after.node.store (moment before.node.store) c left.later may)

  -- what means what the member's store meant is left
  abbrev pub is_old : (m : Member) → IsSo before m → (c : List ℕ) → MeansOld about before m.volume c → IsLeft (about before.node.store) m.volume before.node.state c
  is_old m so c means = left_old about keeps may_leave_now (bytes_of old) before m so c means

  module _ (after : Linked S) (replies : List GivenReply) (works : Works about before after replies) where
    pub works_formed : IsFormed about old → IsFormed about (record old { members = slice_set old.members at after })
    works_formed formed = formed_called about old at before here after works.are (remains_by about before.node after.node replies (ap (λ a. a.geometry) works.disk) works.outcome) formed

    pub works_lead_so : (v : View) (events : List ClientEvent) → ((m : Member) → IsSo before m → (c : List ℕ) → may_leave_now after.node.store c → IsLeft (about before.node.store) m.volume before.node.state c)
        → ((m : Member) → IsSo before m → after.node.state.stopped ≡ None → keeps after.node.store m.volume) → ShowsSo old v → ArePutOut replies events → Leads after v events
    works_lead_so v events left kept shows put_out = go works.outcome
      where
        becomes : (state : NodeState) → after.node.state ≡ state → Leads (with_node before after.node.store state) v events → Leads after v events
        becomes state same leads = subst (λ x. Leads x v events) (sym (works.are ∙ ap (with_node before after.node.store) same)) leads

        go : Outcome before.node.state after.node.state replies → Leads after v events
        go (inl is) = becomes _ is.0 (works_goes after.node.store works.disk v events shows left (λ m so runs. kept m so (ap (λ n. n.stopped) is.0 ∙ runs)) (subst (λ rs. ArePutOut rs events) is.1 put_out))
        go (inr (inl is)) = becomes _ is.1 (begun_goes after.node.store works.disk v events shows left is.0 (λ m so runs. kept m so (ap (λ n. n.stopped) is.1 ∙ runs)) (subst (λ rs. ArePutOut rs events) is.2 put_out))
        go (inr (inr is)) = becomes _ is.2 (halted_goes after.node.store works.disk v events shows left is.0 works.runs is.1 (subst (λ rs. ArePutOut rs events) is.3 put_out))

    module _ (moment : S → ℕ) (left_since : S → ℕ → List ℕ → Type 0) (keeping : Keeps keeps about moment left_since before after) where
      pub works_leaves : LeavesAt about keeps may_leave_now moment left_since at old (record old { members = slice_set old.members at after })
      works_leaves = runs_leaves (MeansOld about) is_old moment left_since after works.runs keeping.run

      pub works_lead : (v : View) (events : List ClientEvent) → ((store : S) (t : ℕ) (c : List ℕ) → t ≤ moment store → may_leave_now store c → left_since store t c) → ShowsSo old v → ArePutOut replies events → Leads after v events
      works_lead v events counts shows put_out =
          works_lead_so v events (left_then (MeansOld about) is_old moment left_since after works.runs keeping.run counts) (λ m so runs. keeping.kept m.volume (so.keeping works.runs) runs) shows put_out

  -- it was told to stop
  module _ (after : Linked S) (replies : List GivenReply) (did : HasStoppedTold replies before after) where
    pub told_formed : IsFormed about old → IsFormed about (record old { members = slice_set old.members at after })
    told_formed formed = formed_called about old at before here after (did.are ∙ ap (λ n. record before { node = n }) (sym (ap (λ x. x.node) did.are)))
        (record {
          board = ap (λ x. x.node.state.board) did.are;
          place = ap (λ x. x.node.state.place) did.are;
          geometry = ap (λ x. (about x.node.store).geometry) did.are;
        })
        formed

    pub told_goes : (v : View) (events : List ClientEvent) → ShowsSo old v → ArePutOut replies events → Leads after v events
    told_goes v events shows put_out = subst (λ x. Leads x v events) (sym did.are)
        (halted_goes before.node.store refl v events shows (λ m so c may. so.left c may) ByWord did.runs told_is_one (subst (λ rs. ArePutOut rs events) did.told put_out))

  -- nothing changes: what a stop leaves is what it left
  pub rests_stops : (IsMeant : Linked S → List ℕ → List ℕ → Type 0) (moment : S → ℕ) (left_since : S → ℕ → List ℕ → Type 0) (after : Linked S) → after ≡ before
      → ((store : S) (c : List ℕ) → left_since store (moment store) c → may_leave_now store c)
      → ((volume : List ℕ) → keeps before.node.store volume → LeavesOnly moment left_since before.node.store after.node.store (IsMeant before volume))
      → StopsAt IsMeant about keeps may_leave_now moment left_since at old (record old { members = slice_set old.members at after })
  rests_stops IsMeant moment left_since after same only run = record {
    before = before;
    after = after;
    here = here;
    there = set_there old.members at before after here;
    means = run;
    leaves = λ shown so. rw same (started moment left_since before.node.store (IsLeft (about before.node.store) shown.volume before.node.state) (λ c left. so.left c (only before.node.store c left)));
  }

  pub rests_leaves : (moment : S → ℕ) (left_since : S → ℕ → List ℕ → Type 0) (after : Linked S) → after ≡ before → ((store : S) (c : List ℕ) → left_since store (moment store) c → may_leave_now store c)
      → ((volume : List ℕ) → keeps before.node.store volume → LeavesOnly moment left_since before.node.store after.node.store (Means (meaning_with (about before.node.store) volume)))
      → LeavesAt about keeps may_leave_now moment left_since at old (record old { members = slice_set old.members at after })
  rests_leaves moment left_since after same only run = rests_stops (MeansOld about) moment left_since after same only run

  gathers_parts : {B : Type 0} (f : Linked S → List B) → flat_map f old.members ≡ flat_map f (place_of old.members at before here).above ++ (f before ++ flat_map f (place_of old.members at before here).below)
  gathers_parts f =
      let place = place_of old.members at before here in
      ap (flat_map f) place.split ∙ flat_split f place.above before place.below

  -- what holds of all of these holds of the member's own
  gathers_own : {B : Type 0} (f : Linked S → List B) (P : B → Type 0) → All P (flat_map f old.members) → All P (f before)
  gathers_own f P all =
      let place = place_of old.members at before here in
      all_before P (f before) (flat_map f place.below) (all_behind P (flat_map f place.above) (f before ++ flat_map f place.below) (subst (All P) (gathers_parts f) all))

  -- and it holds of all still, where it does of the member's
  pub gathers_all : {B : Type 0} (f : Linked S → List B) (P : B → Type 0) (after : Linked S) → (All P (f before) → All P (f after)) → All P (flat_map f old.members) → All P (flat_map f (slice_set old.members at after))
  gathers_all f P after keeps all =
      let place = place_of old.members at before here in
      subst (All P) (sym (ap (flat_map f) (place.setting after) ∙ flat_split f place.above after place.below))
      (all_between P (flat_map f place.above) (flat_map f place.below) (f before) (f after) keeps (subst (All P) (gathers_parts f) all))

  -- its receipt is posted
  module _ (receipt : Receipt) (had : before.receipt ≡ Some receipt) where
    -- the member without it
    abbrev rid : Linked S
    rid = record before { receipt = None }

    pub posted_formed : IsFormed about old → IsFormed about (with_words (posted old.words receipt) rid)
    posted_formed formed =
        let is = formed_then old at before rid here about (λ is. record { board = is.board; sizes = is.sizes; member = is.member; front = is.front; muster = is.muster }) formed in
        record { members = is.members; all_links = is.all_links; all_submits = is.all_submits; links_inside = is.links_inside; submits_inside = is.submits_inside }

    posted_backed : (disks : List Disk) (is : IsBacked old.words.front old.words.mask (told_of old).gauges (told_of old).receipts (told_of old).musters disks)
        → IsBacked old.words.front old.words.mask (told_of (with_words (posted old.words receipt) rid)).gauges (told_of (with_words (posted old.words receipt) rid)).receipts (told_of (with_words (posted old.words receipt) rid)).musters disks
    posted_backed disks is =
        let own : All (IsOnDisk disks) (receipt ∷ []) = subst (λ r. All (IsOnDisk disks) (receipts_of r)) had (gathers_own (λ x. receipts_of x.receipt) (IsOnDisk disks) is.receipts_backed) in
        let on : IsOnDisk disks receipt = All-head (IsOnDisk disks) receipt [] own in
        record {
          mask_covers = is.mask_covers;
          gauges_backed = gauge_raised (IsOnDisk disks) receipt (λ front was. λ i d within same. raised_on front receipt.front _ (was i d within same) (on i d within same)) 0 old.words.gauges receipt.slot (omega arith) is.gauges_backed;
          receipts_backed = gathers_all (λ x. receipts_of x.receipt) (IsOnDisk disks) rid (λ all. All-nil (IsOnDisk disks)) is.receipts_backed;
          mustered = rw (gathers (λ x. musters_of x.muster) rid refl) is.mustered;
        }

    posted_within : IsWithin old.words.front (told_of old).gauges (told_of old).receipts (told_of old).musters
        → IsWithin old.words.front (told_of (with_words (posted old.words receipt) rid)).gauges (told_of (with_words (posted old.words receipt) rid)).receipts (told_of (with_words (posted old.words receipt) rid)).musters
    posted_within is =
        let own : All (λ r. r.front ≤ old.words.front) (receipt ∷ []) = subst (λ r. All (λ x. x.front ≤ old.words.front) (receipts_of r)) had (gathers_own (λ x. receipts_of x.receipt) (λ r. r.front ≤ old.words.front) is.receipts_within) in
        let low : receipt.front ≤ old.words.front = All-head (λ (r : Receipt). r.front ≤ old.words.front) receipt [] own in
        record {
          gauges_within = gauge_raised (λ r. r.front ≤ old.words.front) receipt (λ front was. raised_on front receipt.front old.words.front was low) 0 old.words.gauges receipt.slot (omega arith) is.gauges_within;
          receipts_within = gathers_all (λ x. receipts_of x.receipt) (λ r. r.front ≤ old.words.front) rid (λ all. All-nil (λ (r : Receipt). r.front ≤ old.words.front)) is.receipts_within;
          musters_within = rw (gathers (λ x. musters_of x.muster) rid refl) is.musters_within;
        }

    pub posted_goes : (v : View) (events : List ClientEvent) → ShowsSo old v → ArePutOut [] events → (w : View) × ShowsSo (with_words (posted old.words receipt) rid) w × Goes (bytes_of old) v w events
    posted_goes v events shows put_out = one_goes (posted old.words receipt) rid v events shows (λ over m under are so. (
      m,
      shown_still about keeps may_leave_now old before rid m m so so.is refl refl refl refl (λ runs. runs),
      board_tells v (told_of (with_words (posted old.words receipt) rid)) over m under events are
          (sym (ap (λ (t : BoardInUse). t.front) shows.told))
          (sym (ap (λ (t : BoardInUse). t.mask) shows.told))
          (λ is. posted_within (subst (λ (t : BoardInUse). IsWithin t.front t.gauges t.receipts t.musters) shows.told is))
          (λ disks is. posted_backed disks (subst (λ (t : BoardInUse). IsBacked t.front t.mask t.gauges t.receipts t.musters disks) shows.told is))
          (λ all. rw (gathers (λ x. fronts_of x.front) rid refl) (subst (λ (t : BoardInUse). All (λ f. f ≤ t.front) t.fronts) shows.told all))
          put_out,
    ))

-- ---- a call that may be refused

pub by_either : {T E : Type 0} {G : Type 0} (result : Result T E) (P : T → Type 0) (Q : E → Type 0) → IfOk result P → IfErr result Q → ((t : T) → P t → G) → ((e : E) → Q e → G) → G
by_either (Ok t) P Q ok err done refused = done t ok
by_either (Err e) P Q ok err done refused = refused e err

pub ok_then : {T E : Type 0} (result : Result T E) (P R : T → Type 0) → IfOk result P → ((t : T) → P t → R t) → IfOk result R
ok_then (Ok t) P R ok then = then t ok
ok_then (Err e) P R ok then = tt

pub err_then : {T E : Type 0} (result : Result T E) (Q R : E → Type 0) → IfErr result Q → ((e : E) → Q e → R e) → IfErr result R
err_then (Ok t) Q R err then = tt
err_then (Err e) Q R err then = then e err

-- clients see the replies, or none where it was refused
pub seen_by : {T E : Type 0} {G : Type 0} (replies : T → List GivenReply) (result : Result T E) (P : T → Type 0) (Q : E → Type 0) (events : List ClientEvent) → IfOk result P → IfErr result Q
    → ArePutOut (replies_of replies result) events → ((t : T) → P t → ArePutOut (replies t) events → G) → ((e : E) → Q e → ArePutOut [] events → G) → G
seen_by replies (Ok t) P Q events ok err put_out done refused = done t ok put_out
seen_by replies (Err e) P Q events ok err put_out done refused = refused e err put_out

-- the same of a call that may do nothing
pub by_some : {T E : Type 0} {G : Type 0} (result : Result (Option T) E) (P : T → Type 0) (N : Type 0) (Q : E → Type 0) → IfOk result (λ o. IfSome o P) → IfOk result (λ o. IfNone o N) → IfErr result Q
    → ((t : T) → P t → G) → (N → G) → ((e : E) → Q e → G) → G
by_some (Ok None) P N Q some none err done idle refused = idle none
by_some (Ok (Some t)) P N Q some none err done idle refused = done t some
by_some (Err e) P N Q some none err done idle refused = refused e err

pub seen_by_some : {T E : Type 0} {G : Type 0} (replies : T → List GivenReply) (result : Result (Option T) E) (P : T → Type 0) (N : Type 0) (Q : E → Type 0) (events : List ClientEvent)
    → IfOk result (λ o. IfSome o P) → IfOk result (λ o. IfNone o N) → IfErr result Q → ArePutOut (replies_in replies result) events
    → ((t : T) → P t → ArePutOut (replies t) events → G) → (N → ArePutOut [] events → G) → ((e : E) → Q e → ArePutOut [] events → G) → G
seen_by_some replies (Ok None) P N Q events some none err put_out done idle refused = idle none put_out
seen_by_some replies (Ok (Some t)) P N Q events some none err put_out done idle refused = done t some put_out
seen_by_some replies (Err e) P N Q events some none err put_out done idle refused = refused e err put_out

pub ok_some : {T E : Type 0} (result : Result (Option T) E) (P R : T → Type 0) → IfOk result (λ o. IfSome o P) → ((t : T) → P t → R t) → IfOk result (λ o. IfSome o R)
ok_some (Ok None) P R some then = tt
ok_some (Ok (Some t)) P R some then = then t some
ok_some (Err e) P R some then = tt

pub ok_none : {T E : Type 0} (result : Result (Option T) E) (N M : Type 0) → IfOk result (λ o. IfNone o N) → (N → M) → IfOk result (λ o. IfNone o M)
ok_none (Ok None) N M none then = then none
ok_none (Ok (Some t)) N M none then = tt
ok_none (Err e) N M none then = tt

-- ---- what each call leaves

-- the device refused
stopped_by : {S : Type 0} (about : S → About) (failures : S → ℕ) (Tells : DiskError → Type 0) (old new : Seen S) (out : Out) (replies : List GivenReply) → out.replies ≡ replies → HasStoppedBy about failures Tells old new out
    → (disk_told (about new.store) ≡ disk_told (about old.store)) × Outcome old.state new.state replies
stopped_by about failures Tells old new out replies told is = (ap disk_told is.broken, inr (inr (Device is.error, device_is_one is.error, is.node, sym told ∙ ap (λ (o : Out). o.replies) is.sent)))

-- the store worked
worked_so : {S : Type 0} (about : S → About) (tells : About) (old new : Seen S) (out : Out) (replies : List GivenReply) → disk_told tells ≡ disk_told (about old.store) → out.replies ≡ replies → HasWorked about tells old new out
    → (disk_told (about new.store) ≡ disk_told (about old.store)) × Outcome old.state new.state replies
worked_so about tells old new out replies same told is = (ap disk_told is.tells_so ∙ same, inl (is.node, sym told ∙ ap (λ (o : Out). o.replies) is.sent))

module _ {S : Type 0} (premise : Type 0) (about : S → About) (is_pending : S → ℕ → Type 0) (failures : S → ℕ) (keeps : S → List ℕ → Type 0) (before after : Linked S) (replies : List GivenReply) where
  works_by : before.node.state.stopped ≡ None → after ≡ record before { node = after.node } → (disk_told (about after.node.store) ≡ disk_told (about before.node.store)) × Outcome before.node.state after.node.state replies → Works about before after replies
  works_by runs are left = record { runs = runs; are = are; disk = left.0; outcome = left.1 }

  module _ (given : Option ℕ) (did : HasCalled (λ old new out. HasTicked premise about is_pending failures keeps old new out given) replies before after) where
    pub ticked_works : Works about before after replies
    ticked_works = works_by did.runs did.are (elim did.did.worked [
      | inl is ↦ worked_so about (about before.node.store) before.node after.node did.out replies refl did.told is
      | inr is ↦ stopped_by about failures (MayTell WriteFault) before.node after.node did.out replies did.told is.1
    ])

  module _ (did : HasCalled (HasCheckpointed premise about is_pending failures keeps) replies before after) where
    pub checkpointed_works : Works about before after replies
    checkpointed_works = works_by did.runs did.are (elim did.did.worked [
      | inl is ↦ worked_so about (one_checkpoint_more (about before.node.store)) before.node after.node did.out replies refl did.told is
      | inr is ↦ stopped_by about failures (λ error. error ≢ ReadFault) before.node after.node did.out replies did.told is
    ])

-- the store alone is another
pub store_alone : {S : Type 0} (about : S → About) (before after : Linked S) → before.node.state.stopped ≡ None → after ≡ record before { node = record before.node { store = after.node.store } } → about after.node.store ≡ about before.node.store
    → Works about before after []
store_alone about before after runs are tells =
    let same : after.node.state ≡ before.node.state = ap (λ x. x.node.state) are in
    record {
      runs = runs;
      are = are ∙ ap (with_node before after.node.store) (sym same);
      disk = ap disk_told tells;
      outcome = inl (same, refl);
    }

pub no_number_works : {S : Type 0} (about : S → About) (is_pending : S → ℕ → Type 0) (keeps : S → List ℕ → Type 0) (before after : Linked S) → HasNoNumber about is_pending keeps before after → Works about before after []
no_number_works about is_pending keeps before after is = store_alone about before after is.runs is.are is.tells

module _ {S : Type 0} (premise : Type 0) (about : S → About) (failures : S → ℕ) (keeps : S → List ℕ → Type 0) (moment : S → ℕ) (left_since : S → ℕ → List ℕ → Type 0) (most : ℕ) (before after : Linked S) where
  module _ (replies : List GivenReply) (did : HasCalled (HasBegunCommits premise about failures keeps moment left_since most) replies before after) where
    pub begun_works : Works about before after replies
    begun_works = elim did.did.worked [
      | inl is ↦ record {
        runs = did.runs;
        are = did.are;
        disk = ap disk_told is.only_read.tells;
        outcome = inr (inl (Some is.commit, is.node, sym did.told ∙ ap (λ (o : Out). o.replies) is.sent));
      }
      | inr halted ↦ elim halted [
        | inl is ↦ record {
          runs = did.runs;
          are = did.are;
          disk = ap disk_told is.tells;
          outcome = inr (inr (Memory, memory_is_one, is.node, sym did.told ∙ ap (λ (o : Out). o.replies) is.sent));
        }
        | inr is ↦
            let left = stopped_by about failures (MayTell ReadFault) before.node after.node did.out replies did.told is in
            record { runs = did.runs; are = did.are; disk = left.0; outcome = left.1 }
      ]
    ]

  pub no_group_works : HasNoGroup premise about failures keeps moment left_since most before after → Works about before after []
  no_group_works is = store_alone about before after is.runs is.are is.only_read.tells
