-- The record changes, and a member is told it: what is shown of the chain then, and what happened in it.
use Rattle.std.proofs.Common.{◌≡◌, ◌≢◌, ◌⊎◌, ℕ, suc, ◌+◌, ◌-◌, ◌*◌, ◌<◌, ◌≤◌, cond, Bool, true, false, Option, None, Some, List, [], ◌∷◌, ◌++◌, length, map, refl, ap, sym, subst, ◌∙◌, arith, inl, inr}
use Rattle.std.specs.Prelude.{All, Option, None, Some, Result, Ok, Err, IfErr, IfOk, is_some, nat_le, option_map, slice_get, slice_set}
use Rattle.std.specs.List.{AllZip}
use Rattle.std.proofs.lemmas.Bool.{cases_Bool, cond-true}
use Rattle.std.proofs.lemmas.List.{append-nil}
use Rattle.std.proofs.lemmas.List.Elements.{All-append, All-cons, All-head, All-map, All-nil, All-set, All-tail}
use Rattle.board.specs.Mask.{counts}
use Rattle.configurations.specs.Record.{Record}
use Rattle.configurations.specs.declared.member.Member as recorded
use Rattle.flush_barrier.specs.Reply.{GivenReply}
use Rattle.local_store.specs.About.{About}
use Rattle.volume.specs.Writes.{Fits}
use Rattle.chain_steps.specs.Node.{NodeState, Out, Refused, Stepped, Taken, epoch_of, is_stopped, last_of}
use Rattle.chain_steps.specs.Place.{incarnation_in, is_head, is_it, is_member, is_of, member_at, place_in, successor_of}
use Rattle.chain_steps.specs.Steps.{again, placed, silent, starts, stop, told, turn}
use Rattle.chain_steps.specs.declared.cause.Cause.TheVariants as causes
use Rattle.chain_steps.specs.declared.message.Envelope.{Envelope}
use Rattle.chain_steps.specs.declared.message.Sent.{Sent}
use Rattle.chain_core.specs.Node.{IsDelivered, IsInside, IsStep, Seen, size_of}
use Rattle.chain_core.specs.Refusal.{number_of}
use Rattle.chain_core.specs.declared.refusal.Refusal.{Refusal}
use Rattle.gate_journal.specs.Receipt.{Receipt}
use Rattle.world_model.specs.Backing.{Disk, IsBacked, Muster}
use Rattle.world_model.specs.Chain.{ArePutOut, BoardInUse}
use Rattle.world_model.proofs.Counting.{all_behind}
use Rattle.world_model.specs.Event.{ClientEvent}
use Rattle.world_model.specs.Machine.{State}
use Rattle.chain_model.specs.Chain.{IsWithin, StandsFor}
use Rattle.chain_model.specs.Laws.{HasSent, IsNext}
use Rattle.chain_model.specs.Life.{BoardTells, MemberTold, RecordBegun, RecordEnded}
use Rattle.chain_model.specs.View.{Member, View, disk_in, disk_of, disks_of, is_in}
use Rattle.chain.specs.Chain.{Chained, Goes, IsFormed, Shows, bytes_of, told_of}
use Rattle.chain.specs.Commits.{replies_of}
use Rattle.chain.specs.Links.{AreInside, link_at}
use Rattle.chain.specs.LoneBoard.{counted_out}
use Rattle.chain.specs.Member.{IsShown, Linked}
use Rattle.chain.specs.Recording.{AllTold, HaltsAt, HasRunOut, IsNextOf, IsToldAt, IsToldTo, IsUntoldAt, next_in}
use Rattle.chain.proofs.Causes.{memory_is_one}
use Rattle.chain.proofs.ComingSteps.{inside_at, sizes_are}
use Rattle.chain.proofs.Linkages.{has_sent, one_back, only_to, set_again, set_long}
use Rattle.chain.proofs.MessageSteps.{at_place, halts, node_is, twin}
use Rattle.chain.proofs.Stepping.{formed_then, just_goes, rests, same_then, shown_still, told_stays}
use Rattle.chain.proofs.PassingSteps.{by_test, delivered_so, not_refused, sent_all, taken_same, turn_sends_inside, turn_sends_most}

-- ---- a member is told a record

told_elim : (P : Stepped → Type 0) (chain : Record) (node : NodeState) (stepped : Stepped) → P (silent node) → (is_of (placed chain node).place node.incarnation ≡ true → P (starts (placed chain node))) → told chain node ≡ Taken stepped → P stepped
told_elim P chain node stepped rests begins is =
    by_test (is_stopped node) _ _ (Taken stepped) (P stepped) is
    (λ on none. not_refused 154 stepped none)
    (λ off rest. by_test (nat_le chain.epoch (epoch_of node)) _ _ (Taken stepped) (P stepped) rest
    (λ older same. subst P (sym (taken_same (silent node) stepped same)) rests)
    (λ newer more. by_test (is_of (placed chain node).place node.incarnation) _ _ (Taken stepped) (P stepped) more
    (λ of same. subst P (sym (taken_same (starts (placed chain node)) stepped same)) (begins of))
    (λ no none. not_refused 151 stepped none)))

-- what that leaves of its state, and what it sends to whoever is behind it in that record
record ToldSo (chain : Record) (node : NodeState) (s : Stepped) : Type 0 where
  board : s.node.board ≡ node.board
  table : s.node.table ≡ node.table
  known : s.node.known ≡ node.known
  stopped : s.node.stopped ≡ node.stopped
  member : is_member node.place ≡ true → is_member s.node.place ≡ true
  behind : All (λ (m : Sent). successor_of (record { slot = node.place.slot; chain = chain }) ≡ Some m.to) s.out.messages
  most : node.table.forgotten ≤ node.known → length s.out.messages ≤ last_of node - node.known + 1
  inside : (size : ℕ) → All (λ k. Fits size k.write) node.table.kept → All (λ k. 0 < length k.write.bytes) node.table.kept → All (λ (m : Sent). IsInside size m.envelope.message) s.out.messages

-- a member of this incarnation is a member
of_is_member : (chain : Record) (node : NodeState) → is_of (placed chain node).place node.incarnation ≡ true → is_member (placed chain node).place ≡ true
of_is_member chain node of = by_place (place_in chain node.place.slot) of
  where
    by_place : (at : Option ℕ) → is_it node.incarnation (option_map (λ (m : recorded.Member). m.incarnation) (member_at chain at)) ≡ true → is_some at ≡ true
    by_place None of = absurd cc
    by_place (Some at) of = refl

told_so : (chain : Record) (node : NodeState) (stepped : Stepped) → told chain node ≡ Taken stepped → ToldSo chain node stepped
told_so chain node stepped taken = told_elim (ToldSo chain node) chain node stepped
    (record { board = refl; table = refl; known = refl; stopped = refl; member = λ is. is; behind = All-nil (λ (m : Sent). successor_of (record { slot = node.place.slot; chain = chain }) ≡ Some m.to); most = λ le. omega arith; inside = λ size fits some. All-nil (λ (m : Sent). IsInside size m.envelope.message) })
    (λ of. either of (is_head (placed chain node).place)) taken
  where
    either : is_of (placed chain node).place node.incarnation ≡ true → (on : Bool) → ToldSo chain node (cond on (turn (placed chain node)) (silent (placed chain node)))
    either of true = record { board = refl; table = refl; known = refl; stopped = refl; member = λ is. of_is_member chain node of; behind = sent_all (successor_of (placed chain node).place) (epoch_of (placed chain node)) (again (placed chain node)); most = turn_sends_most (placed chain node); inside = λ size. turn_sends_inside size (placed chain node) }
    either of false = record { board = refl; table = refl; known = refl; stopped = refl; member = λ is. of_is_member chain node of; behind = All-nil (λ (m : Sent). successor_of (record { slot = node.place.slot; chain = chain }) ≡ Some m.to); most = λ le. omega arith; inside = λ size fits some. All-nil (λ (m : Sent). IsInside size m.envelope.message) }

-- ---- a slot is counted no longer

-- what holds of the disks that are recorded, but for those at a slot at which none is
others_still : (P Q : Disk → Type 0) (recorded : Record) (slot : ℕ) (ms : List Member) → incarnation_in recorded slot ≡ None → ((d : Disk) → d.slot ≢ slot → P d → Q d) → All P (disks_of recorded None ms) → All Q (disks_of recorded None ms)
others_still P Q recorded slot [] gone other all = All-nil Q
others_still P Q recorded slot (m ∷ ms) gone other all =
    let rest = others_still P Q recorded slot ms gone other (all_behind P (disk_in recorded None m) (disks_of recorded None ms) all) in
    elim (cases_Bool (is_in recorded m.node.place.slot m.node.incarnation)) [
      | inl here ↦
          let is : disk_in recorded None m ≡ disk_of m ∷ [] = rw here refl in
          let apart : m.node.place.slot ≢ slot = λ same. let both : false ≡ true = ap (is_it m.node.incarnation) (sym gone ∙ ap (incarnation_in recorded) (sym same)) ∙ here in absurd cc in
          subst (λ ds. All Q (ds ++ disks_of recorded None ms)) (sym is)
          (All-cons Q (disk_of m) (disks_of recorded None ms) (other (disk_of m) apart (All-head P (disk_of m) (disks_of recorded None ms) (subst (λ ds. All P (ds ++ disks_of recorded None ms)) is all))) rest)
      | inr out ↦ let is : disk_in recorded None m ≡ [] = rw out refl in subst (λ ds. All Q (ds ++ disks_of recorded None ms)) (sym is) rest
    ]

uncounted_backed : (front mask then : ℕ) (gauges receipts : List Receipt) (musters : List Muster) (recorded : Record) (slot : ℕ) (ms : List Member) → incarnation_in recorded slot ≡ None
    → ((other : ℕ) → other ≢ slot → counts mask other ≡ true → counts then other ≡ true) → IsBacked front mask gauges receipts musters (disks_of recorded None ms)
    → IsBacked front then gauges receipts musters (disks_of recorded None ms)
uncounted_backed front mask then gauges receipts musters recorded slot ms gone others is = record {
  mask_covers = others_still (λ d. counts mask d.slot ≡ true) (λ d. counts then d.slot ≡ true) recorded slot ms gone (λ d. others d.slot) is.mask_covers;
  gauges_backed = is.gauges_backed;
  receipts_backed = is.receipts_backed;
  mustered = is.mustered;
}

-- ---- the call of the one member

module _ {S : Type 0} (chain : Record) (old new : Seen S) (out : Out) (is : IsDelivered old new out (told chain old.state)) (ran : old.state.stopped ≡ None) (to : List Envelope) where
  -- there is room for what it sends
  pub tells_room : old.state.table.forgotten ≤ old.state.known → length out.messages ≤ last_of old.state - old.state.known + 1
  tells_room behind = elim (delivered_so old new out (told chain old.state) is) [
    | inl step ↦ subst (λ (o : Out). length o.messages ≤ last_of old.state - old.state.known + 1) (sym step.2.sent) ((told_so chain old.state step.0 step.1).most behind)
    | inr halt ↦ subst (λ (o : Out). length o.messages ≤ last_of old.state - old.state.known + 1) (sym halt.sent) (omega arith)
  ]

  -- it is told, or memory ran out
  pub tells_to : IsToldTo chain old new to (to ++ map (λ (m : Sent). m.envelope) out.messages) out.replies ⊎ HasRunOut old new to (to ++ map (λ (m : Sent). m.envelope) out.messages) out.replies
  tells_to = elim (delivered_so old new out (told chain old.state) is) [
    | inl step ↦ inl (record {
      stepped = step.0;
      taken = step.1;
      are = step.2.node;
      behind = ap (λ (o : Out). to ++ map (λ (m : Sent). m.envelope) o.messages) step.2.sent;
      told_so = ap (λ (o : Out). o.replies) step.2.sent;
    })
    | inr halt ↦ inr (record {
      ran = ran;
      are = halt.node;
      stays = ap (λ (o : Out). to ++ map (λ (m : Sent). m.envelope) o.messages) halt.sent ∙ append-nil to;
      told_so = ap (λ (o : Out). o.replies) halt.sent;
    })
  ]

  pub tells_inside : (size : ℕ) → All (λ k. Fits size k.write) old.state.table.kept → All (λ k. 0 < length k.write.bytes) old.state.table.kept → All (λ (e : Envelope). IsInside size e.message) to
      → All (λ (e : Envelope). IsInside size e.message) (to ++ map (λ (m : Sent). m.envelope) out.messages)
  tells_inside size fits some before =
      let sent : All (λ (m : Sent). IsInside size m.envelope.message) out.messages = elim (delivered_so old new out (told chain old.state) is) [
        | inl step ↦ subst (λ (o : Out). All (λ (m : Sent). IsInside size m.envelope.message) o.messages) (sym step.2.sent) ((told_so chain old.state step.0 step.1).inside size fits some)
        | inr halt ↦ subst (λ (o : Out). All (λ (m : Sent). IsInside size m.envelope.message) o.messages) (sym halt.sent) (All-nil (λ (m : Sent). IsInside size m.envelope.message))
      ] in
      All-append (λ (e : Envelope). IsInside size e.message) to (map (λ (m : Sent). m.envelope) out.messages) before (All-map (λ (e : Envelope). IsInside size e.message) (λ (m : Sent). m.envelope) out.messages sent)

-- ---- the chain tells it

-- the link to whoever is next in the record was taken out, and put back
pub record IsLent {S : Type 0} (old : Chained S) (before : Linked S) (y was then : List Envelope) (mid links : List (List Envelope)) : Type 0 where
  pub slot : ℕ
  pub to : ℕ
  pub slot_is : slot ≡ before.node.state.place.slot
  pub to_is : to ≡ next_in old.recorded slot
  pub slot_lt : slot < 8
  pub to_lt : to < 8
  pub was_is : was ≡ link_at old.links slot to
  pub lent : mid ≡ slice_set old.links (8 * slot + to) y
  pub back : links ≡ slice_set mid (8 * slot + to) then

module _ {S : Type 0} (old : Chained S) (at : ℕ) (before : Linked S) (here : slice_get old.members at ≡ Some before) (node : Seen S) (y was then : List Envelope) (mid links : List (List Envelope)) (long : length old.links ≡ 64)
    (lent : IsLent old before y was then mid links) where
  abbrev now : Chained S
  now = record old { members = slice_set old.members at (record before { node = node }); links = links }

  links_are : links ≡ slice_set old.links (8 * lent.slot + lent.to) then
  links_are = lent.back ∙ ap (λ l. slice_set l (8 * lent.slot + lent.to) then) lent.lent ∙ set_again old.links (8 * lent.slot + lent.to) y then

  links_stay : then ≡ was → links ≡ old.links
  links_stay same = links_are ∙ one_back old.links lent.slot lent.to then lent.slot_lt lent.to_lt (same ∙ lent.was_is)

  -- the member refused: nothing changed
  pub rests_untold : node ≡ before.node → then ≡ was → now ≡ old
  rests_untold same nothing =
      ap (λ l. record old { members = slice_set old.members at (record before { node = node }); links = l }) (links_stay nothing) ∙ same_then old at before (record before { node = node }) here (ap (λ (n : Seen S). record before { node = n }) same)

  pub told_at : (replies : List GivenReply) → IsToldTo old.recorded before.node node was then replies ⊎ HasRunOut before.node node was then replies → IsToldAt at old now replies ⊎ HaltsAt at old now replies
  told_at replies (inl is) =
      let behind = (told_so old.recorded before.node.state is.stepped is.taken).behind in
      let all = only_to (successor_of (record { slot = lent.slot; chain = old.recorded })) lent.slot lent.to is.stepped.out.messages lent.to_is
      (subst (λ n. All (λ (m : Sent). successor_of (record { slot = n; chain = old.recorded }) ≡ Some m.to) is.stepped.out.messages) (sym lent.slot_is) behind) in
      inl (record {
        before = before;
        stepped = is.stepped;
        here = here;
        taken = is.taken;
        told_so = is.told_so;
        sent = subst (λ l. HasSent before.node.state.place.slot is.stepped.out.messages (link_at old.links) (link_at l)) (sym links_are)
            (subst (λ n. HasSent n is.stepped.out.messages (link_at old.links) (link_at (slice_set old.links (8 * lent.slot + lent.to) then))) lent.slot_is
            (has_sent old.links lent.slot lent.to is.stepped.out.messages then long lent.slot_lt lent.to_lt all (is.behind ∙ ap (λ l. l ++ map (λ (m : Sent). m.envelope) is.stepped.out.messages) lent.was_is)));
        are = ap (λ (n : Seen S). record now { members = slice_set old.members at (record before { node = n }) }) is.are;
      })
  told_at replies (inr is) = inr (record {
    before = before;
    here = here;
    ran = is.ran;
    told_so = is.told_so;
    are = ap (λ (n : Seen S). record now { members = slice_set old.members at (record before { node = n }) }) is.are
        ∙ ap (λ l. record old { members = slice_set old.members at (record before { node = record { store = before.node.store; state = (stop causes.Memory before.node.state).node } }); links = l }) (links_stay is.stays);
  })

  module _ (about : S → About) (formed : IsFormed about old) where
    -- what holds of every chain holds then
    formed_so : (node.store ≡ before.node.store) → (node.state.board ≡ before.node.state.board) → (is_member before.node.state.place ≡ true → is_member node.state.place ≡ true)
        → (All (λ (e : Envelope). IsInside (bytes_of old) e.message) was → All (λ (e : Envelope). IsInside (bytes_of old) e.message) then) → IsFormed about now
    formed_so store board member inside =
        let then_so = formed_then old at before (record before { node = node }) here about
        (λ is. record { board = board ∙ is.board; member = member is.member; sizes = ap (λ x. (about x).geometry) store ∙ is.sizes; front = is.front; muster = is.muster }) formed in
        record {
          members = then_so.members;
          all_links = ap length links_are ∙ set_long old.links (8 * lent.slot + lent.to) then ∙ long;
          all_submits = formed.all_submits;
          links_inside = subst (AreInside (bytes_of old)) (sym links_are) (All-set (All (λ (e : Envelope). IsInside (bytes_of old) e.message)) old.links (8 * lent.slot + lent.to) then
              (inside (subst (All (λ (e : Envelope). IsInside (bytes_of old) e.message)) (sym lent.was_is) (inside_at (bytes_of old) old.links lent.slot lent.to long lent.slot_lt lent.to_lt formed.links_inside))) formed.links_inside);
          submits_inside = formed.submits_inside;
        }

    pub formed_told : (replies : List GivenReply) → IsToldTo old.recorded before.node node was then replies ⊎ HasRunOut before.node node was then replies
        → (All (λ (e : Envelope). IsInside (bytes_of old) e.message) was → All (λ (e : Envelope). IsInside (bytes_of old) e.message) then) → IsFormed about now
    formed_told replies (inl is) inside =
        let so = told_so old.recorded before.node.state is.stepped is.taken in
        formed_so (ap (λ (n : Seen S). n.store) is.are) (ap (λ (n : Seen S). n.state.board) is.are ∙ so.board) (λ was_one. ap (λ (n : Seen S). is_member n.state.place) is.are ∙ so.member was_one) inside
    formed_told replies (inr is) inside =
        formed_so (ap (λ (n : Seen S). n.store) is.are) (ap (λ (n : Seen S). n.state.board) is.are) (λ was_one. ap (λ (n : Seen S). is_member n.state.place) is.are ∙ was_one) inside

-- ---- memory ran out, or the member had stopped

-- a member that stopped isn't told
pub untold : (chain : Record) (node : NodeState) → is_stopped node ≡ true → told chain node ≡ Refused 154
untold chain node off = cond-true (is_stopped node) (Refused 154) _ off

module _ {S : Type 0} (old : Chained S) (at : ℕ) (before : Linked S) (here : slice_get old.members at ≡ Some before) (node : Seen S) (out : Out) (did : IsStep before.node node out (stop causes.Memory before.node.state)) where
  pub halts_at : (replies : List GivenReply) → replies ≡ out.replies → before.node.state.stopped ≡ None → HaltsAt at old (record old { members = slice_set old.members at (record before { node = node }) }) replies
  halts_at replies same ran = record {
    before = before;
    here = here;
    ran = ran;
    told_so = same ∙ ap (λ (o : Out). o.replies) did.sent;
    are = ap (λ (n : Seen S). record old { members = slice_set old.members at (record before { node = n }) }) did.node;
  }

  pub halted_formed : (about : S → About) → IsFormed about old → IsFormed about (record old { members = slice_set old.members at (record before { node = node }) })
  halted_formed about formed = formed_then old at before (record before { node = node }) here about (λ is. record {
    board = ap (λ (n : Seen S). n.state.board) did.node ∙ is.board;
    member = ap (λ (n : Seen S). is_member n.state.place) did.node ∙ is.member;
    sizes = ap (λ (n : Seen S). (about n.store).geometry) did.node ∙ is.sizes;
    front = is.front;
    muster = is.muster;
  }) formed

-- ---- what happens

-- what is so of all members is so of all that are shown
pub all_shown : {S : Type 0} (about : S → About) (keeps : S → List ℕ → Type 0) (may_leave_now : S → List ℕ → Type 0) (size : ℕ) (P : NodeState → Type 0) (ms : List (Linked S)) (shown : List Member) → AllZip (IsShown about keeps may_leave_now size) ms shown
    → All (λ (m : Linked S). P m.node.state) ms → All (λ (m : Member). P m.node) shown
all_shown about keeps may_leave_now size P [] [] are all = All-nil (λ (m : Member). P m.node)
all_shown about keeps may_leave_now size P [] (v ∷ vs) are all = absurd are
all_shown about keeps may_leave_now size P (m ∷ ms) [] are all = absurd are
all_shown {S} about keeps may_leave_now size P (m ∷ ms) (v ∷ vs) are all =
    All-cons (λ (x : Member). P x.node) v vs (subst P (sym (ap (λ (x : Member). x.node) are.0.is)) (All-head (λ (x : Linked S). P x.node.state) m ms all))
    (all_shown about keeps may_leave_now size P ms vs are.1 (All-tail (λ (x : Linked S). P x.node.state) m ms all))

module _ {S : Type 0} (about : S → About) (keeps : S → List ℕ → Type 0) (may_leave_now : S → List ℕ → Type 0) (old : Chained S) (v : View) (events : List ClientEvent) (shows : Shows about keeps may_leave_now old v) where
  abbrev GoesOn : Chained S → Type 0
  GoesOn new = (w : View) × Shows about keeps may_leave_now new w × Goes (bytes_of old) v w events

  is_next : (next : Record) → IsNextOf old next → IsNext v next
  is_next next follows = record {
    epoch = follows.epoch ∙ ap (λ (r : Record). suc r.epoch) (sym shows.recorded);
    members = elim follows.members [
      | inl without ↦ inl (record {
        before = without.before;
        removed = without.removed;
        behind = without.behind;
        were = ap (λ (r : Record). r.members) shows.recorded ∙ without.were;
        are = without.are;
        stopped = all_shown about keeps may_leave_now (bytes_of old) (λ n. n.place.slot ≡ without.removed.slot → n.stopped ≢ None) old.members v.members shows.members without.stopped;
      })
      | inr same ↦ inr (same ∙ ap (λ (r : Record). r.members) (sym shows.recorded))
    ];
  }

  pub begins_goes : (next : Record) → IsNextOf old next → old.writing ≡ None → events ≡ [] → GoesOn (record old { writing = Some next })
  begins_goes next follows none nothing =
      let w : View = record v { writing = Some next } in (
        w,
        record { told = shows.told; recorded = shows.recorded; before = shows.before; writing = refl; youngest = shows.youngest; members = shows.members; links = shows.links; submits = shows.submits },
        just_goes (bytes_of old) v w RecordBegun events refl (record { next = next; follows = is_next next follows; none = shows.writing ∙ none; are = refl }, nothing),
      )

  pub counts_out_goes : v.joiner ≡ None → (slot : ℕ) → incarnation_in old.recorded slot ≡ None → old.writing ≡ None
      → ((other : ℕ) → other ≢ slot → counts old.words.mask other ≡ true → counts (counted_out old.words slot).mask other ≡ true) → events ≡ [] → GoesOn (record old { words = counted_out old.words slot })
  counts_out_goes alone slot gone none others nothing =
      let new : Chained S = record old { words = counted_out old.words slot } in
      let w : View = record v { told = told_of new } in
      let written : v.writing ≡ None = shows.writing ∙ none in (
        w,
        record { told = refl; recorded = shows.recorded; before = shows.before; writing = shows.writing; youngest = shows.youngest; members = shows.members; links = shows.links; submits = shows.submits },
        just_goes (bytes_of old) v w BoardTells events refl (
          record {
            told = told_of new;
            front = sym (ap (λ (t : BoardInUse). t.front) shows.told);
            within = λ is. subst (λ (t : BoardInUse). IsWithin t.front t.gauges t.receipts t.musters) shows.told is;
            joiner = λ j here. let no : None ≡ Some j = sym alone ∙ here in cc;
            backed = λ is.
                let now = told_of old in
                let was = subst (λ (t : BoardInUse). IsBacked t.front t.mask t.gauges t.receipts t.musters (disks_of v.recorded v.writing v.members)) shows.told is in
                let alone = subst (λ (o : Option Record). IsBacked now.front now.mask now.gauges now.receipts now.musters (disks_of v.recorded o v.members)) written was in
                let absent : incarnation_in v.recorded slot ≡ None = ap (λ r. incarnation_in r slot) shows.recorded ∙ gone in
                subst (λ (o : Option Record). IsBacked now.front (counted_out old.words slot).mask now.gauges now.receipts now.musters (disks_of v.recorded o v.members)) (sym written)
                (uncounted_backed now.front now.mask (counted_out old.words slot).mask now.gauges now.receipts now.musters v.recorded slot v.members absent others alone);
            fronts = λ all. subst (λ (t : BoardInUse). All (λ f. f ≤ t.front) t.fronts) shows.told all;
            are = refl;
          },
          nothing,
        ),
      )

  pub ends_goes : v.joiner ≡ None → (next : Record) → old.writing ≡ Some next → IsNextOf old next → AllTold old → events ≡ [] → GoesOn (record old { recorded = next; before = old.recorded; writing = None })
  ends_goes alone next begun follows all nothing =
      let w : View = record v { recorded = next; before = v.recorded; writing = None } in (
        w,
        record { told = shows.told; recorded = refl; before = shows.recorded; writing = refl; youngest = shows.youngest; members = shows.members; links = shows.links; submits = shows.submits },
        just_goes (bytes_of old) v w RecordEnded events refl (
          record {
            next = next;
            follows = is_next next follows;
            begun = shows.writing ∙ begun;
            alone = alone;
            told = all_shown about keeps may_leave_now (bytes_of old) (λ n. n.stopped ≡ None → epoch_of n ≡ v.recorded.epoch) old.members v.members shows.members
                (subst (λ (r : Record). All (λ (m : Linked S). m.node.state.stopped ≡ None → epoch_of m.node.state ≡ r.epoch) old.members) (sym shows.recorded) all);
            are = refl;
          },
          nothing,
        ),
      )

  pub tells_goes : (at : ℕ) (s : State) → StandsFor (bytes_of old) v s → (new : Chained S) (replies : List GivenReply) → IsToldAt at old new replies ⊎ HaltsAt at old new replies → ArePutOut replies events → GoesOn new
  tells_goes at s stands new replies (inl is) put_out =
      let t = twin about keeps may_leave_now old at is.before is.here v s shows stands in
      let node = node_is about keeps may_leave_now old at is.before is.here v s shows stands in
      let so = told_so old.recorded is.before.node.state is.stepped is.taken in
      let after : Linked S = record is.before { node = record { store = is.before.node.store; state = is.stepped.node } } in
      let place = at_place about keeps may_leave_now old at is.before is.here v s shows stands in
      let w : View = record v { members = t.over ++ record t.own { node = is.stepped.node } ∷ t.under; links = link_at new.links } in
      subst GoesOn (sym is.are) (
        w,
        record {
          told = shows.told ∙ sym (told_stays old at is.before after is.here (record { front = refl; muster = refl; receipt = refl }));
          recorded = shows.recorded;
          before = shows.before;
          writing = shows.writing;
          youngest = shows.youngest;
          members = subst (λ l. AllZip (IsShown about keeps may_leave_now (bytes_of old)) l (t.over ++ record t.own { node = is.stepped.node } ∷ t.under)) (sym (place.setting after))
              (t.others after (record t.own { node = is.stepped.node }) place.below t.under
              (shown_still about keeps may_leave_now old is.before after t.own (record t.own { node = is.stepped.node }) t.fits refl refl refl so.table so.known (λ on. sym so.stopped ∙ on)) t.rest);
          links = refl;
          submits = shows.submits;
        },
        just_goes (bytes_of old) v w MemberTold events refl (record {
          above = t.over;
          member = t.own;
          below = t.under;
          stepped = is.stepped;
          links = link_at new.links;
          were = t.are;
          taken = subst (λ (r : Record). told r t.own.node ≡ Taken is.stepped) (sym shows.recorded) (subst (λ (n : NodeState). told old.recorded n ≡ Taken is.stepped) (sym node) is.taken);
          sent = subst (λ (n : NodeState). HasSent n.place.slot is.stepped.out.messages v.links (link_at new.links)) (sym node)
              (subst (λ l. HasSent is.before.node.state.place.slot is.stepped.out.messages l (link_at new.links)) (sym shows.links) is.sent);
          out = subst (λ rs. ArePutOut rs events) is.told_so put_out;
          are = refl;
        }),
      )
  tells_goes at s stands new replies (inr is) put_out =
      subst GoesOn (sym is.are) (halts about keeps may_leave_now old at is.before is.here v s shows stands causes.Memory events is.ran memory_is_one (subst (λ rs. ArePutOut rs events) is.told_so put_out))

-- ---- the call of the chain

-- what the call of the one member says
pub record TellsSo {S V : Type 0} (replies : V → List GivenReply) (chain : Record) (size : ℕ) (old new : Seen S) (was then : List Envelope) (result : Result V Refusal) : Type 0 where
  pub does : IfOk result (λ given. IsToldTo chain old new was then (replies given) ⊎ HasRunOut old new was then (replies given))
  pub refused : IfErr result (λ r. (told chain old.state ≡ Refused (number_of r)) × ((new ≡ old) × (then ≡ was)))
  pub inside : All (λ (e : Envelope). IsInside size e.message) was → All (λ (e : Envelope). IsInside size e.message) then

module _ {S V : Type 0} (replies : V → List GivenReply) (about : S → About) (old : Chained S) (formed : IsFormed about old) (at : ℕ) (before : Linked S) (here : slice_get old.members at ≡ Some before) (node : Seen S)
    (y was then : List Envelope) (mid links : List (List Envelope)) (lent : IsLent old before y was then mid links) where
  abbrev after : Chained S
  after = record old { members = slice_set old.members at (record before { node = node }); links = links }

  -- the record is the chain's, and the store's sizes are too
  pub so_told : (chain : Record) (result : Result V Refusal) → chain ≡ old.recorded → TellsSo replies chain (size_of (about before.node.store)) before.node node was then result → TellsSo replies old.recorded (bytes_of old) before.node node was then result
  so_told chain result same did = subst (λ n. TellsSo replies old.recorded n before.node node was then result) (sizes_are about old at before here formed) (subst (λ r. TellsSo replies r (size_of (about before.node.store)) before.node node was then result) same did)

  pub result_told : (result : Result V Refusal) → TellsSo replies old.recorded (bytes_of old) before.node node was then result → IfOk result (λ given. IsToldAt at old after (replies given) ⊎ HaltsAt at old after (replies given))
  result_told (Ok given) did = told_at old at before here node y was then mid links formed.all_links lent (replies given) did.does
  result_told (Err r) did = record {}

  pub result_refused : (result : Result V Refusal) → TellsSo replies old.recorded (bytes_of old) before.node node was then result → IfErr result (IsUntoldAt at old after)
  result_refused (Ok given) did = record {}
  result_refused (Err r) did = record { member = before; here = here; refused = did.refused.0; same = rests_untold old at before here node y was then mid links formed.all_links lent did.refused.1.0 did.refused.1.1 }

  pub result_formed : (result : Result V Refusal) → TellsSo replies old.recorded (bytes_of old) before.node node was then result → IsFormed about after
  result_formed (Ok given) did = formed_told old at before here node y was then mid links formed.all_links lent about formed (replies given) did.does did.inside
  result_formed (Err r) did = subst (IsFormed about) (sym (rests_untold old at before here node y was then mid links formed.all_links lent did.refused.1.0 did.refused.1.1)) formed

  pub result_goes : (keeps : S → List ℕ → Type 0) (may_leave_now : S → List ℕ → Type 0) (v : View) (s : State) (events : List ClientEvent) → Shows about keeps may_leave_now old v → StandsFor (bytes_of old) v s
      → (result : Result V Refusal) → TellsSo replies old.recorded (bytes_of old) before.node node was then result → ArePutOut (replies_of replies result) events
      → (w : View) × Shows about keeps may_leave_now after w × Goes (bytes_of old) v w events
  result_goes keeps may_leave_now v s events shows stands (Ok given) did put_out =
      tells_goes about keeps may_leave_now old v events shows at s stands after (replies given) (told_at old at before here node y was then mid links formed.all_links lent (replies given) did.does) put_out
  result_goes keeps may_leave_now v s events shows stands (Err r) did put_out =
      rests about keeps may_leave_now old after v events (rests_untold old at before here node y was then mid links formed.all_links lent did.refused.1.0 did.refused.1.1) shows put_out
