-- A member goes on with a front that it looked up.
--
-- That its store's front is its durable one is a premise here.
use Rattle.std.proofs.Common.{◌≡◌, ◌⊎◌, ℕ, ◌-◌, ◌≤◌, List, [], ◌∷◌, ◌++◌, take, map, nat_lt, refl, ap, sym, subst, ◌∙◌, inl, inr, arith, ◌≢◌, ◌<◌}
use Rattle.std.specs.Prelude.{Option, Some, None, fold, slice_get, slice_set}
use Rattle.std.specs.List.{AllZip}
use Rattle.std.proofs.lemmas.Bool.{cases_Bool}
use Rattle.std.proofs.lemmas.Bool.Decides.{nat_tests}
use Rattle.volume.specs.declared.geometry.Geometry.{Geometry}
use Rattle.disk_model.specs.Disk.{LeavesOnly}
use Rattle.flush_barrier.specs.Reply.{GivenReply}
use Rattle.local_store.specs.About.{About, meaning_with}
use Rattle.local_store.specs.Meaning.{Means}
use Rattle.volume.specs.Writes.{patched}
use Rattle.version_table.specs.declared.kept.Kept.{Kept}
use Rattle.chain_core.specs.Node.{Seen}
use Rattle.chain_core.specs.Reads.{HasBrokenOff, HasOnlyRead, IsStepOver, IsStepTo}
use Rattle.chain_steps.specs.Node.{NodeState, Out, durable_of, last_of}
use Rattle.chain_steps.specs.Place.{is_member}
use Rattle.chain_steps.specs.Steps.{answer_at, answer_front, answer_front_by, stop, volume_at}
use Rattle.chain_steps.specs.declared.cause.Cause.{Cause}
use Rattle.chain_steps.specs.declared.cause.Cause.TheVariants as causes
use Rattle.chain_steps.specs.declared.found.Found.{Found}
use Rattle.chain_steps.specs.declared.found.Found.TheVariants.{Looked, Raised}
use Rattle.world_model.specs.Chain.{ArePutOut}
use Rattle.world_model.specs.Event.{ClientEvent}
use Rattle.world_model.specs.Machine.{State}
use Rattle.chain_model.specs.Chain.{StandsFor}
use Rattle.chain_model.specs.Laws.{with_members}
use Rattle.chain_model.specs.Life.{AnswerFront, Does, Doing, MemberDoes, Stop}
use Rattle.chain_model.proofs.Orderly.{looked_in_order}
use Rattle.chain_model.specs.View.{Member, View}
use Rattle.chain.specs.Chain.{Chained, Goes, IsFormed, Shows, bytes_of, told_of}
use Rattle.chain.specs.Member.{HasCalled, IsLeft, IsShown, Linked, fronts_of, musters_of, receipts_of}
use Rattle.chain.proofs.Cells.{Place, Twin, place_of, twin_of}
use Rattle.chain.proofs.FloorSteps.{gathered}
use Rattle.chain.proofs.Causes.{device_is_one, memory_is_one}
use Rattle.chain.proofs.Stepping.{formed_then, just_goes}

-- what such a step leaves of the member's state
record Leaves (old new : NodeState) : Type 0 where
  board : new.board ≡ old.board
  place : new.place ≡ old.place
  table : new.table ≡ old.table
  known : new.known ≡ old.known

stop_leaves : (cause : Cause) (node : NodeState) → Leaves node (stop cause node).node
stop_leaves cause node = record { board = refl; place = refl; table = refl; known = refl }

answer_leaves : (volume : List ℕ) (found : Option Found) (node : NodeState) → Leaves node (answer_front_by volume found node).node
answer_leaves volume None node = record { board = refl; place = refl; table = refl; known = refl }
answer_leaves volume (Some (Raised front)) node = record { board = refl; place = refl; table = refl; known = refl }
answer_leaves volume (Some (Looked front)) node = elim (cases_Bool (nat_lt (last_of node) front.number)) [
  | inl above ↦ rw above (stop_leaves causes.Disorder node)
  | inr within ↦ rw within (record { board = refl; place = refl; table = refl; known = refl })
]

-- at the durable front the volume is the store's
at_durable : (volume : List ℕ) (node : NodeState) → volume_at volume node (durable_of node) ≡ volume
at_durable volume node =
    let none : durable_of node - durable_of node ≡ 0 = omega arith in
    ap (λ (n : ℕ). fold patched volume (map (λ (k : Kept). k.write) (take n node.table.kept))) none

module _ {S : Type 0} (premise : Type 0) (about : S → About) (failures : S → ℕ) (keeps : S → List ℕ → Type 0) (moment : S → ℕ) (left_since : S → ℕ → List ℕ → Type 0) (may_leave_now : S → List ℕ → Type 0) where
  -- what `Node::answer_front` says of a call
  abbrev pub HasAnswered : Seen S → Seen S → Out → Type 0
  HasAnswered old new out =
      (HasOnlyRead premise about failures keeps moment left_since old.store new.store
      × (IsStepOver premise (keeps old.store) new.state out (λ volume. answer_front volume old.state) ⊎ IsStepTo new.state out (stop causes.Memory old.state)))
      ⊎ HasBrokenOff about failures old new out

  -- the store tells the same, but whether it is broken
  tells_same : (old new : Seen S) (out : Out) → HasAnswered old new out
      → ((about new.store).slot ≡ (about old.store).slot) × ((about new.store).incarnation ≡ (about old.store).incarnation) × ((about new.store).geometry ≡ (about old.store).geometry)
  tells_same old new out (inl (read, did)) = (ap (λ (a : About). a.slot) read.tells, ap (λ (a : About). a.incarnation) read.tells, ap (λ (a : About). a.geometry) read.tells)
  tells_same old new out (inr broken) = (ap (λ (a : About). a.slot) broken.failed.broken, ap (λ (a : About). a.incarnation) broken.failed.broken, ap (λ (a : About). a.geometry) broken.failed.broken)

  front_same : (old new : Seen S) (out : Out) → HasAnswered old new out → (about new.store).front ≡ (about old.store).front
  front_same old new out (inl (read, did)) = ap (λ (a : About). a.front) read.tells
  front_same old new out (inr broken) = ap (λ (a : About). a.front) broken.failed.broken

  leaves : (old new : Seen S) (out : Out) → HasAnswered old new out → Leaves old.state new.state
  leaves old new out (inl (read, inl is)) = rw (is.node []) (answer_leaves [] old.state.found old.state)
  leaves old new out (inl (read, inr is)) = rw is.node (stop_leaves causes.Memory old.state)
  leaves old new out (inr broken) = rw broken.node (stop_leaves (causes.Device broken.error) old.state)

  module _ (old : Chained S) (at : ℕ) (before after : Linked S) (here : slice_get old.members at ≡ Some before) (replies : List GivenReply) (did : HasCalled HasAnswered replies before after) where
    abbrev now : Chained S
    now = record old { members = slice_set old.members at after }

    pub formed_answered : IsFormed about old → IsFormed about now
    formed_answered formed =
        let left = leaves before.node after.node did.out did.did in
        formed_then old at before after here about
        (λ was. record {
          board = left.board ∙ was.board;
          sizes = (tells_same before.node after.node did.out did.did).2 ∙ was.sizes;
          member = ap is_member left.place ∙ was.member;
          front = rw (ap (λ (m : Linked S). m.front) did.are) was.front;
          muster = rw (ap (λ (m : Linked S). m.muster) did.are) was.muster;
        })
        formed

-- nothing is sent
none_sent : (volume : List ℕ) (found : Option Found) (node : NodeState) → (answer_front_by volume found node).out.messages ≡ []
none_sent volume None node = refl
none_sent volume (Some (Raised front)) node = refl
none_sent volume (Some (Looked front)) node = elim (cases_Bool (nat_lt (last_of node) front.number)) [
  | inl above ↦ rw above refl
  | inr within ↦ rw within refl
]

abbrev bare : Out → Out
bare out = record { messages = []; replies = out.replies }

bare_is : (out : Out) → out.messages ≡ [] → bare out ≡ out
bare_is out none = ap (λ ms. let o : Out = record { messages = ms; replies = out.replies } in o) (sym none)

pub without_messages : {S : Type 0} (premise : Type 0) (about : S → About) (failures : S → ℕ) (keeps : S → List ℕ → Type 0) (moment : S → ℕ) (left_since : S → ℕ → List ℕ → Type 0) (may_leave_now : S → List ℕ → Type 0) (old new : Seen S) (out : Out)
    → HasAnswered premise about failures keeps moment left_since may_leave_now old new out → HasAnswered premise about failures keeps moment left_since may_leave_now old new (bare out)
without_messages premise about failures keeps moment left_since may_leave_now old new out (inl (read, inl is)) = inl (
  read,
  inl (record {
    node = is.node;
    sent = λ so volume kept. ap bare (is.sent so volume kept) ∙ bare_is (answer_front volume old.state).out (none_sent volume old.state.found old.state);
  }),
)
without_messages premise about failures keeps moment left_since may_leave_now old new out (inl (read, inr is)) = inl (read, inr (record { node = is.node; sent = ap bare is.sent }))
without_messages premise about failures keeps moment left_since may_leave_now old new out (inr is) = inr (record { error = is.error; failed = is.failed; node = is.node; sent = ap bare is.sent })

-- the same meaning
moved : (c : List ℕ) (s t i j : ℕ) (g h : Geometry) (f e : ℕ) (v u : List ℕ) → t ≡ s → j ≡ i → h ≡ g → e ≡ f → u ≡ v
    → Means (record { slot = s; incarnation = i; geometry = g; front = f; volume = v }) c → Means (record { slot = t; incarnation = j; geometry = h; front = e; volume = u }) c
moved c s t i j g h f e v u a b d x y means = rw (a, b, d, x, y) means

module _ {S : Type 0} (premise : Type 0) (about : S → About) (failures : S → ℕ) (keeps : S → List ℕ → Type 0) (moment : S → ℕ) (left_since : S → ℕ → List ℕ → Type 0) (may_leave_now : S → List ℕ → Type 0)
    (counts_now : premise → (store : S) (t : ℕ) (c : List ℕ) → t ≤ moment store → may_leave_now store c → left_since store t c) (so : premise)
    (old : Chained S) (at : ℕ) (before after : Linked S) (here : slice_get old.members at ≡ Some before) (replies : List GivenReply)
    (did : HasCalled (HasAnswered premise about failures keeps moment left_since may_leave_now) replies before after)
    (run : (volume : List ℕ) → keeps before.node.store volume → LeavesOnly moment left_since before.node.store after.node.store (Means (meaning_with (about before.node.store) volume)))
    (fits : (about before.node.store).front ≡ durable_of before.node.state) where
  abbrev then : Chained S
  then = record old { members = slice_set old.members at after }

  abbrev IsSo : Linked S → Member → Type 0
  IsSo m shown = IsShown about keeps may_leave_now (bytes_of old) m shown

  left : Leaves before.node.state after.node.state
  left = leaves premise about failures keeps moment left_since may_leave_now before.node after.node did.out did.did

  told_still : told_of then ≡ told_of old
  told_still = rw (gathered (λ m. fronts_of m.front) old.members at before after here (ap (λ m. fronts_of m.front) did.are), gathered (λ m. musters_of m.muster) old.members at before after here (ap (λ m. musters_of m.muster) did.are), gathered (λ m. receipts_of m.receipt) old.members at before after here (ap (λ m. receipts_of m.receipt) did.are)) refl

  -- whatever a stop leaves then
  still_left : (volume c : List ℕ) → keeps before.node.store volume → durable_of before.node.state ≤ before.node.state.known → may_leave_now after.node.store c → IsLeft (about after.node.store) volume after.node.state c
  still_left volume c kept known may =
      let ran = run volume kept in
      let means = ran.each c (counts_now so after.node.store (moment before.node.store) c ran.later may) in
      let same = tells_same premise about failures keeps moment left_since may_leave_now before.node after.node did.out did.did in
      let durable : durable_of after.node.state ≡ durable_of before.node.state = ap (λ t. t.forgotten) left.table in (
        durable_of after.node.state,
        omega arith,
        omega (arith, left.known, durable),
        moved c (about before.node.store).slot (about after.node.store).slot (about before.node.store).incarnation (about after.node.store).incarnation (about before.node.store).geometry (about after.node.store).geometry
            (about before.node.store).front (durable_of after.node.state) volume (volume_at volume after.node.state (durable_of after.node.state))
            same.0 same.1 same.2 (durable ∙ sym fits) (at_durable volume after.node.state) means,
      )

  -- the member is shown at the same volume
  shown_so : (m : Member) → IsSo before m → durable_of before.node.state ≤ before.node.state.known → (after.node.state.stopped ≡ None → keeps after.node.store m.volume) → IsSo after (record m { node = after.node.state })
  shown_so m is known keeping = record {
    is = ap (λ (x : Member). record x { node = after.node.state }) is.is;
    whole = is.whole;
    keeping = keeping;
    left = λ c may. still_left m.volume c (is.keeping did.runs) known may;
    durable = front_same premise about failures keeps moment left_since may_leave_now before.node after.node did.out did.did ∙ fits ∙ sym (ap (λ t. t.forgotten) left.table);
    behind = rw (left.table, left.known) known;
  }

  module _ (v : View) (s : State) (events : List ClientEvent) (shows : Shows about keeps may_leave_now old v) (stands : StandsFor (bytes_of old) v s) (put_out : ArePutOut replies events) where
    abbrev GoesOn : Type 0
    GoesOn = (w : View) × Shows about keeps may_leave_now then w × Goes (bytes_of old) v w events

    place : Place old.members at before
    place = place_of old.members at before here

    twin : Twin IsSo place.above before place.below v.members
    twin = twin_of IsSo place.above before place.below v.members (subst (λ l. AllZip IsSo l v.members) place.split shows.members)

    node_is : twin.own.node ≡ before.node.state
    node_is = ap (λ (m : Member). m.node) twin.fits.is

    known : durable_of before.node.state ≤ before.node.state.known
    known = twin.fits.behind

    runs : twin.own.node.stopped ≡ None
    runs = ap (λ (n : NodeState). n.stopped) node_is ∙ did.runs

    kept : keeps before.node.store twin.own.volume
    kept = twin.fits.keeping did.runs

    abbrev new : Member
    new = record twin.own { node = after.node.state }

    abbrev w : View
    w = with_members v (twin.over ++ new ∷ twin.under)

    shows_then : (after.node.state.stopped ≡ None → keeps after.node.store twin.own.volume) → Shows about keeps may_leave_now then w
    shows_then keeping = record {
      told = shows.told ∙ sym told_still;
      recorded = shows.recorded;
      before = shows.before;
      writing = shows.writing;
      youngest = shows.youngest;
      members = subst (λ l. AllZip IsSo l (twin.over ++ new ∷ twin.under)) (sym (place.setting after)) (twin.others after new place.below twin.under (shown_so twin.own twin.fits known keeping) twin.rest);
      links = shows.links;
      submits = shows.submits;
    }

    -- the member does so
    does_so : (doing : Doing) → (after.node.state.stopped ≡ None → keeps after.node.store twin.own.volume) → Does v doing twin.own new events → GoesOn
    does_so doing keeping does = (
      w,
      shows_then keeping,
      just_goes (bytes_of old) v w (MemberDoes doing) events refl (record { above = twin.over; old = twin.own; new = new; below = twin.under; were = twin.are; are = refl; change = does }),
    )

    -- the member stops
    stops : (cause : Cause) → cause ≢ causes.Disorder → after.node.state ≡ (stop cause before.node.state).node → did.out ≡ (stop cause before.node.state).out → GoesOn
    stops cause other node sent = does_so (Stop cause) (λ on. let none : Some cause ≡ None = ap (λ (n : NodeState). n.stopped) (sym node) ∙ on in absurd (cc))
        (runs, other, rw node_is (rw (← ap (λ (o : Out). o.replies) sent, did.told) put_out), ap (λ (n : NodeState). record twin.own { node = n }) (node ∙ ap (λ (n : NodeState). (stop cause n).node) (sym node_is)))

    -- nothing happens
    stays : (after.node.state.stopped ≡ None → keeps after.node.store twin.own.volume) → after.node.state ≡ before.node.state → did.out.replies ≡ [] → GoesOn
    stays keeping node none =
        let same : new ≡ twin.own = ap (λ (n : NodeState). record twin.own { node = n }) (node ∙ sym node_is) in
        let all : ArePutOut [] events = subst (λ (rs : List GivenReply). ArePutOut rs events) (sym did.told ∙ none) put_out in (
          w,
          shows_then keeping,
          record {
            happenings = [];
            each = [];
            inner = refl;
            era = (ap (λ (m : Member). with_members v (twin.over ++ m ∷ twin.under)) same ∙ ap (with_members v) (sym twin.are), refl);
            all = sym all;
          },
        )

    -- by what it kept
    answers : (found : Option Found) → before.node.state.found ≡ found → (after.node.state.stopped ≡ None → keeps after.node.store twin.own.volume)
        → after.node.state ≡ (answer_front_by twin.own.volume found before.node.state).node → did.out ≡ (answer_front_by twin.own.volume found before.node.state).out → GoesOn
    answers None was keeping node sent = stays keeping node (ap (λ (o : Out). o.replies) sent)
    answers (Some (Raised front)) was keeping node sent = stays keeping node (ap (λ (o : Out). o.replies) sent)
    answers (Some (Looked front)) was keeping node sent = elim (cases_Bool (nat_lt (last_of before.node.state) front.number)) [
      | inl above ↦
          let stand = subst (λ (ms : List Member). StandsFor (bytes_of old) (with_members v ms) s) twin.are stands in
          let looked : front.number ≤ last_of before.node.state =
          subst (λ (n : NodeState). front.number ≤ last_of n) node_is (looked_in_order (bytes_of old) v twin.over twin.own twin.under s front stand runs (ap (λ (n : NodeState). n.found) node_is ∙ was)) in
          let beyond : last_of before.node.state < front.number = grind (arith, nat_tests) in
          absurd (omega (arith, looked, beyond))
      | inr within ↦
          let node_so : after.node.state ≡ (answer_at twin.own.volume front.number before.node.state).node = rw within at node in
          let sent_so : did.out ≡ (answer_at twin.own.volume front.number before.node.state).out = rw within at sent in
          does_so (AnswerFront front) keeping (
            runs,
            ap (λ (n : NodeState). n.found) node_is ∙ was,
            subst (λ (n : NodeState). front.number ≤ last_of n) (sym node_is) (grind (arith, nat_tests)),
            rw node_is (rw (← ap (λ (o : Out). o.replies) sent_so, did.told) put_out),
            ap (λ (n : NodeState). record twin.own { node = n }) (node_so ∙ ap (λ (n : NodeState). (answer_at twin.own.volume front.number n).node) (sym node_is)),
          )
    ]

    pub answered_goes : GoesOn
    answered_goes = elim did.did [
      | inl (read, inl is) ↦ answers before.node.state.found refl (λ on. read.kept so twin.own.volume kept) (is.node twin.own.volume) (is.sent so twin.own.volume kept)
      | inl (read, inr is) ↦ stops causes.Memory memory_is_one is.node is.sent
      | inr broken ↦ stops (causes.Device broken.error) (device_is_one broken.error) broken.node broken.sent
    ]
