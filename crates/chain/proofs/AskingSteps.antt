-- A member takes a request, or turns it away.
use Rattle.std.proofs.Common.{◌≡◌, ◌≢◌, ℕ, ◌+◌, ◌*◌, ◌<◌, ◌≤◌, Bool, true, false, arith, cond, List, [], ◌∷◌, ◌++◌, length, refl, ap, sym, subst, ◌∙◌, inl, inr, rules, Result}
use Rattle.std.specs.Prelude.{◌⊎◌, is_some, All, IfErr, IfSome, None, OnErr, OnOk, Option, Some, map, slice_get, slice_set}
use Rattle.std.proofs.lemmas.List.{append-nil, map-set, set-set}
use Rattle.std.proofs.lemmas.List.Elements.{All-append, All-cons, All-nil, All-set}
use Rattle.flush_barrier.specs.Owed.{OwedAt}
use Rattle.flush_barrier.specs.Reply.{GivenReply}
use Rattle.local_store.specs.About.{About}
use Rattle.volume.specs.Writes.{Fits, Placed}
use Rattle.chain_steps.specs.Node.{NodeState, Stepped, epoch_of, is_stopped}
use Rattle.chain_steps.specs.Place.{head_of, is_member}
use Rattle.chain_steps.specs.Steps.{flush, send, stop, submit}
use Rattle.chain_steps.specs.Waiting.{debt_of, waits_for}
use Rattle.gate_journal.specs.declared.batch.TheConstants.{MAX_NUMBER}
use Rattle.chain_steps.specs.declared.cause.Cause.{Cause}
use Rattle.chain_steps.specs.declared.cause.Cause.TheVariants.{Disorder, LastTicket, Told}
use Rattle.chain_steps.specs.declared.message.Envelope.{Envelope}
use Rattle.chain_steps.specs.declared.message.Message.TheVariants.{Submit}
use Rattle.chain_steps.specs.declared.message.Sent.{Sent}
use Rattle.chain_steps.specs.declared.waiting.WriteToken.{WriteToken}
use Rattle.chain_steps.specs.declared.waiting.WriteToken.TheVariants as tokens
use Rattle.chain_core.specs.Node.{IsInside, IsRefusedBy, Seen, turned_away}
use Rattle.chain_core.specs.declared.refusal.Refusal.{Refusal}
use Rattle.chain_core.specs.declared.refusal.Refusal.TheVariants as refusals
use Rattle.world_model.specs.Chain.{ArePutOut}
use Rattle.world_model.specs.Event.{ClientEvent}
use Rattle.world_model.specs.Machine.{written}
use Rattle.world_model.specs.Requests.{Held, IsNew, IsOfKind}
use Rattle.chain_model.specs.Laws.{HasSent, with_members}
use Rattle.chain_model.specs.Life.{MemberSubmits, MemberTakes, Stop, Taking, Takes, Wait}
use Rattle.chain_model.specs.View.{Member, View}
use Rattle.chain_model.proofs.Changing.{demands_of}
use Rattle.chain.specs.Asking.{GoesTaking, HasFlushed, HasPleaAt, HasStoppedAt, HasSubmitted, IsTurnedAway, IsUnnumbered, IsUnreadAt, asked_by, flush_by}
use Rattle.chain.specs.Chain.{Chained, Changes, Goes, IsFormed, IsIn, Shows, bytes_of}
use Rattle.chain.specs.Links.{link_at}
use Rattle.chain.specs.Member.{IsShown, Linked, fronts_of, member_of, musters_of, receipts_of}
use Rattle.chain.proofs.Cells.{place_of, set_there, zip_at, zip_set}
use Rattle.chain.proofs.Causes.{last_ticket_is_one}
use Rattle.chain.proofs.Linkages.{at_place, has_sent, one_back, set_long}
use Rattle.chain.proofs.Results.{either, err_both, four_on, on_either, on_err}
use Rattle.chain.proofs.Stepping.{UsesAsBefore, formed_still, formed_then, in_at, one_does, rests, same_then, shown_still, then, told_stays}

-- ---- a token comes back

-- the step by which a member stops
abbrev IsStopOf : Stepped → NodeState → Type 0
IsStopOf stepped state = (cause : Cause) × (cause ≢ Disorder) × (stepped ≡ stop cause state)

pub no_stop : (stepped : Stepped) (state : NodeState) → ⊥ → IsStopOf stepped state
no_stop stepped state none = absurd none

pub last_ticket : (state : NodeState) → MAX_NUMBER < state.ticket → IsStopOf (stop LastTicket state) state
last_ticket state last = (LastTicket, last_ticket_is_one, refl)

-- what turns nothing away hasn't stopped
stopped_none : (stopped : Option Cause) (other : Option ℕ) → cond (is_some stopped) (Some 154) other ≡ None → stopped ≡ None
stopped_none None other is = refl
stopped_none (Some cause) other is = let no : Some 154 ≡ None = is in absurd (cc)

-- a member that turns no request away runs
pub runs_so : (node : NodeState) → turned_away node ≡ None → node.stopped ≡ None
runs_so node away = stopped_none node.stopped (cond (is_member node.place) None (Some 151)) away

module _ {S : Type 0} (Stops : Type 0) (stepped : Stepped) (before after : Linked S) (replies : List GivenReply) (stops : Stops → IsStopOf stepped before.node.state) where
  -- nothing changed, or the member stopped
  abbrev pub Ends : Type 0
  Ends = ((after ≡ before) × (replies ≡ []))
      ⊎ ((cause : Cause) × (cause ≢ Disorder) × (after ≡ record before { node = record { store = before.node.store; state = (stop cause before.node.state).node } }) × (replies ≡ (stop cause before.node.state).out.replies)
      × (before.node.state.stopped ≡ None))

  pub ends_so : (refusal : Refusal) → IsTurnedAway Stops stepped replies refusal before after → Ends
  ends_so refusal (inr away) = inl (away.same, away.replies_none)
  ends_so refusals.Memory (inl away) = inl (away.1 ∙ ap (λ n. record before { node = n }) away.0.1.node, away.0.1.replies_none)
  ends_so refusals.NotMember (inl away) = inl (away.1 ∙ ap (λ n. record before { node = n }) away.0.1.node, away.0.1.replies_none)
  ends_so refusals.Stopped (inl (inl why, are)) = inl (are ∙ ap (λ n. record before { node = n }) why.1.node, why.1.replies_none)
  ends_so refusals.Stopped (inl (inr why, are)) =
      let by = stops why.1 in
      inr (by.0, by.1, are ∙ ap (λ n. record before { node = n }) (why.2.node ∙ ap (λ (p : Stepped). record { store = before.node.store; state = p.node }) by.2), why.2.replies_told ∙ ap (λ (p : Stepped). p.out.replies) by.2, runs_so before.node.state why.0)
  ends_so refusals.Full (inl away) = absurd away.0
  ends_so refusals.Early (inl away) = absurd away.0
  ends_so refusals.Busy (inl away) = absurd away.0

  module _ (about : S → About) (old : Chained S) (at : ℕ) (here : slice_get old.members at ≡ Some before) where
    pub away_formed : Ends → IsFormed about old → IsFormed about (then old at before after here)
    away_formed (inl same) formed = formed_still old at before after here about same.0 formed
    away_formed (inr stopped) formed = formed_then old at before after here about (λ is. rw stopped.2 (record { board = is.board; sizes = is.sizes; member = is.member; front = is.front; muster = is.muster })) formed

    pub away_goes : (keeps : S → List ℕ → Type 0) (may_leave_now : S → List ℕ → Type 0) → Ends → (v : View) (events : List ClientEvent) → Shows about keeps may_leave_now old v → ArePutOut replies events
        → (w : View) × Shows about keeps may_leave_now (then old at before after here) w × Goes (bytes_of old) v w events
    away_goes keeps may_leave_now (inl same) v events shows put_out =
        rests about keeps may_leave_now old _ v events (same_then old at before after here same.0) shows (subst (λ rs. ArePutOut rs events) same.1 put_out)
    away_goes keeps may_leave_now (inr stopped) v events shows put_out =
        one_does about keeps may_leave_now old at before after here (Stop stopped.0) v events
        (record { front = ap (λ l. fronts_of l.front) stopped.2; muster = ap (λ l. musters_of l.muster) stopped.2; receipt = ap (λ l. receipts_of l.receipt) stopped.2 }) shows (λ m so.
        let node : m.node ≡ before.node.state = ap (λ (x : Member). x.node) so.is in (
          record m { node = (stop stopped.0 m.node).node },
          shown_still about keeps may_leave_now old before after m _ so
              (ap (λ (x : Member). record x { node = (stop stopped.0 x.node).node }) so.is ∙ sym (ap (λ (l : Linked S). member_of l m.volume m.demands) stopped.2)) refl
              (ap (λ l. l.node.store) stopped.2) (ap (λ l. l.node.state.table) stopped.2) (ap (λ l. l.node.state.known) stopped.2)
              (λ runs. let none : Some stopped.0 ≡ None = sym (ap (λ l. l.node.state.stopped) stopped.2) ∙ runs in absurd (cc)),
          (ap (λ (n : NodeState). n.stopped) node ∙ stopped.4, stopped.1, subst (λ n. ArePutOut (stop stopped.0 n).out.replies events) (sym node) (subst (λ rs. ArePutOut rs events) stopped.3 put_out), refl),
        ))

-- ---- why it comes back

numbers_differ : (one other : ℕ) → Some one ≡ Some other → one ≢ other → ⊥
numbers_differ one other is differ = differ (cc is)

abbrev away_by : (stopped member : Bool) → Option ℕ
away_by stopped member = cond stopped (Some 154) (cond member None (Some 151))

by_stop : (stopped member : Bool) → away_by stopped member ≡ Some 154 → stopped ≡ true
by_stop true member is = refl
by_stop false true is = let no : None ≡ Some 154 = is in absurd (cc)
by_stop false false is = absurd (numbers_differ 151 154 is (omega arith))

by_no_member : (stopped member : Bool) → away_by stopped member ≡ Some 151 → member ≡ false
by_no_member true member is = absurd (numbers_differ 154 151 is (omega arith))
by_no_member false true is = let no : None ≡ Some 151 = is in absurd (cc)
by_no_member false false is = refl

module _ {S : Type 0} (old : Chained S) (at : ℕ) (before after : Linked S) (here : slice_get old.members at ≡ Some before) (recorded : is_member before.node.state.place ≡ true) where
  stopped_then : is_stopped after.node.state ≡ true → HasStoppedAt at (then old at before after here)
  stopped_then stopped = record { member = after; here = set_there old.members at before after here; stopped = stopped }

  never_151 : {A : Type 0} → turned_away before.node.state ≡ Some 151 → A
  never_151 away =
      let clash : true ≡ false = sym recorded ∙ by_no_member (is_stopped before.node.state) (is_member before.node.state.place) away in
      absurd (cc)

  pub away_pleads : (Stops : Type 0) (stepped : Stepped) (replies : List GivenReply) (stops : Stops → IsStopOf stepped before.node.state) (refusal : Refusal) → IsTurnedAway Stops stepped replies refusal before after
      → HasPleaAt at (then old at before after here) refusal
  away_pleads Stops stepped replies stops refusal (inr cannot) = rw cannot.memory tt
  away_pleads Stops stepped replies stops refusals.Memory (inl away) = tt
  away_pleads Stops stepped replies stops refusals.NotMember (inl away) = never_151 away.0.0
  away_pleads Stops stepped replies stops refusals.Stopped (inl (inl why, are)) =
      stopped_then (ap (λ n. is_stopped n.state) why.1.node ∙ by_stop (is_stopped before.node.state) (is_member before.node.state.place) why.0)
  away_pleads Stops stepped replies stops refusals.Stopped (inl (inr why, are)) =
      stopped_then (ap (λ n. is_stopped n.state) why.2.node ∙ ap (λ (p : Stepped). is_stopped p.node) (stops why.1).2)
  away_pleads Stops stepped replies stops refusals.Full (inl away) = absurd away.0
  away_pleads Stops stepped replies stops refusals.Early (inl away) = absurd away.0
  away_pleads Stops stepped replies stops refusals.Busy (inl away) = absurd away.0

  pub unread_pleads : (premise : Type 0) (about : S → About) (failures : S → ℕ) (keeps : S → List ℕ → Type 0) (moment : S → ℕ) (left_since : S → ℕ → List ℕ → Type 0) (offset len : ℕ) (replies : List GivenReply) (refusal : Refusal)
      → IsUnreadAt premise about failures keeps moment left_since offset len replies refusal before after → HasPleaAt at (then old at before after here) refusal
  unread_pleads premise about failures keeps moment left_since offset len replies refusal (inl away, are) =
      away_pleads ⊥ (stop Told before.node.state) replies (no_stop (stop Told before.node.state) before.node.state) refusal (inl (away, are))
  unread_pleads premise about failures keeps moment left_since offset len replies refusal (inr (inl vain), are) = rw vain.0 tt
  unread_pleads premise about failures keeps moment left_since offset len replies refusal (inr (inr broken), are) = rw broken.0 (stopped_then (ap is_stopped broken.3.node))

-- ---- the first demand is taken

module _ {S : Type 0} (about : S → About) (keeps : S → List ℕ → Type 0) (may_leave_now : S → List ℕ → Type 0) (old : Chained S) (at : ℕ) (before after : Linked S) (here : slice_get old.members at ≡ Some before) where
  -- in a way that may depend on as which member it is shown
  pub takes_by : (demand : Held) (rest : List Held) (v : View) (events : List ClientEvent) → UsesAsBefore before after → Shows about keeps may_leave_now old v
      → IfSome (slice_get v.members at) (λ m. m.demands ≡ demand ∷ rest)
      → ((m : Member) → IsShown about keeps may_leave_now (bytes_of old) before m
      → (taking : Taking) × (g : Member) × IsShown about keeps may_leave_now (bytes_of old) after g × Takes (bytes_of old) taking demand rest m g events × (g.demands ≡ rest))
      → (w : View) × Shows about keeps may_leave_now (then old at before after here) w × GoesTaking (bytes_of old) at rest v w events
  takes_by demand rest v events same shows first step =
      let own = zip_at (IsShown about keeps may_leave_now (bytes_of old)) old.members v.members at before shows.members here in
      let did = step own.0 own.2 in
      let place = place_of v.members at own.0 own.1 in
      let g = did.1 in
      let w : View = with_members v (slice_set v.members at g) in (
        w,
        record {
          told = shows.told ∙ sym (told_stays old at before after here same);
          recorded = shows.recorded;
          before = shows.before;
          writing = shows.writing;
          youngest = shows.youngest;
          links = shows.links;
          submits = shows.submits;
          members = zip_set (IsShown about keeps may_leave_now (bytes_of old)) old.members v.members at after g shows.members did.2;
        },
        record {
          happenings = MemberTakes did.0 ∷ [];
          each = events ∷ [];
          era = (
            w,
            events,
            [],
            refl,
            record {
              above = place.above;
              old = own.0;
              new = g;
              below = place.below;
              were = place.split;
              are = ap (with_members v) (place.setting g);
              change = record { demand = demand; rest = rest; first = subst (λ o. IfSome o (λ m. m.demands ≡ demand ∷ rest)) own.1 first; takes = did.3 };
            },
            (refl, refl),
          );
          all = append-nil events;
          kept = refl;
          demands = map-set demands_of v.members at g ∙ ap (slice_set (map demands_of v.members) at) did.4;
          joiner = refl;
        },
      )

  pub takes_at : (taking : Taking) (demand : Held) (rest : List Held) (v : View) (events : List ClientEvent) → UsesAsBefore before after → Shows about keeps may_leave_now old v
      → IfSome (slice_get v.members at) (λ m. m.demands ≡ demand ∷ rest)
      → ((m : Member) → IsShown about keeps may_leave_now (bytes_of old) before m → (g : Member) × IsShown about keeps may_leave_now (bytes_of old) after g × Takes (bytes_of old) taking demand rest m g events × (g.demands ≡ rest))
      → (w : View) × Shows about keeps may_leave_now (then old at before after here) w × GoesTaking (bytes_of old) at rest v w events
  takes_at taking demand rest v events same shows first step = takes_by demand rest v events same shows first (λ m so. let did = step m so in (taking, did.0, did.1, did.2, did.3))

-- ---- a write

kind_of : (token : WriteToken) (write : Placed) (ticket epoch : ℕ) → IsOfKind (waits_for ticket epoch token) (asked_by token write).request
kind_of (tokens.Plain token) write ticket epoch = search rules
kind_of (tokens.Fua token) write ticket epoch = search rules

written_of : (token : WriteToken) (write : Placed) → written (asked_by token write).request ≡ Some write
written_of (tokens.Plain token) write = refl
written_of (tokens.Fua token) write = refl

new_of : (token : WriteToken) (ticket epoch : ℕ) → IsUnnumbered token → IsNew ticket (waits_for ticket epoch token)
new_of (tokens.Plain token) ticket epoch none = (refl, refl)
new_of (tokens.Fua token) ticket epoch none = (refl, none)

session_of : (token : WriteToken) (write : Placed) (ticket epoch : ℕ) → (debt_of (waits_for ticket epoch token)).session ≡ (asked_by token write).session
session_of (tokens.Plain token) write ticket epoch = refl
session_of (tokens.Fua token) write ticket epoch = refl

cookie_of : (token : WriteToken) (write : Placed) (ticket epoch : ℕ) → (debt_of (waits_for ticket epoch token)).cookie ≡ (asked_by token write).cookie
cookie_of (tokens.Plain token) write ticket epoch = refl
cookie_of (tokens.Fua token) write ticket epoch = refl

-- The write is on its way to the head.
pub submitted_goes : {S : Type 0} (about : S → About) (keeps : S → List ℕ → Type 0) (may_leave_now : S → List ℕ → Type 0) (old new : Chained S) (at : ℕ) (token : WriteToken) (write : Placed) (did : HasSubmitted at token write old new)
    → is_member did.before.node.state.place ≡ true → (v : View) (events : List ClientEvent) (rest : List Held) → IsUnnumbered token → Shows about keeps may_leave_now old v → IfSome (slice_get v.members at) (λ m. m.demands ≡ asked_by token write ∷ rest) → ArePutOut [] events
    → (w : View) × Shows about keeps may_leave_now new w × GoesTaking (bytes_of old) at rest v w events
submitted_goes {S} about keeps may_leave_now old new at token write did placed v events rest unnumbered shows first put_out =
    let before = did.before in
    let after : Linked S = record before { node = record { store = before.node.store; state = (submit token write before.node.state).node } } in
    let own = zip_at (IsShown about keeps may_leave_now (bytes_of old)) old.members v.members at before shows.members did.here in
    let m = own.0 in
    let node : m.node ≡ before.node.state = ap (λ (x : Member). x.node) own.2.is in
    let place = place_of v.members at m own.1 in
    let g : Member = record m { node = (submit token write m.node).node; demands = rest } in
    let shown = shown_still about keeps may_leave_now old before after m g own.2 (ap (λ (x : Member). record x { node = (submit token write x.node).node; demands = rest }) own.2.is) refl refl refl refl (λ runs. runs) in
    let w : View = record v { members = slice_set v.members at g; submits = link_at new.submits } in (
      w,
      subst (λ (c : Chained S). Shows about keeps may_leave_now c w) (sym did.are) (record {
        told = shows.told ∙ sym (told_stays old at before after did.here (record { front = refl; muster = refl; receipt = refl }));
        recorded = shows.recorded;
        before = shows.before;
        writing = shows.writing;
        youngest = shows.youngest;
        members = zip_set (IsShown about keeps may_leave_now (bytes_of old)) old.members v.members at after g shows.members shown;
        links = shows.links;
        submits = refl;
      }),
      record {
        happenings = MemberSubmits ∷ [];
        each = events ∷ [];
        era = (
          w,
          events,
          [],
          refl,
          (
            record {
              above = place.above;
              member = m;
              below = place.below;
              demand = asked_by token write;
              rest = rest;
              token = token;
              write = write;
              submits = link_at new.submits;
              were = place.split;
              runs = ap (λ (n : NodeState). n.stopped) node ∙ did.runs;
              placed = ap (λ (n : NodeState). is_member n.place) node ∙ placed;
              first = subst (λ o. IfSome o (λ m. m.demands ≡ asked_by token write ∷ rest)) own.1 first;
              writes = written_of token write;
              kind = kind_of token write m.node.ticket (epoch_of m.node);
              fresh = new_of token m.node.ticket (epoch_of m.node) unnumbered;
              session = session_of token write m.node.ticket (epoch_of m.node);
              cookie = cookie_of token write m.node.ticket (epoch_of m.node);
              sent = subst (λ (n : NodeState). HasSent n.place.slot (submit token write n).out.messages v.submits (link_at new.submits)) (sym node)
                  (subst (λ l. HasSent before.node.state.place.slot (submit token write before.node.state).out.messages l (link_at new.submits)) (sym shows.submits) did.sent);
              are = ap (λ ms. record v { members = ms; submits = link_at new.submits }) (place.setting g);
            },
            put_out,
          ),
          (refl, refl),
        );
        all = append-nil events;
        kept = refl;
        demands = map-set demands_of v.members at g;
        joiner = refl;
      },
    )

-- ---- a FLUSH

module _ {S : Type 0} (about : S → About) (old : Chained S) (at : ℕ) (before after : Linked S) (here : slice_get old.members at ≡ Some before) where
  module _ (token : OwedAt) (did : HasFlushed token before after) where
    pub flushed_formed : IsFormed about old → IsFormed about (then old at before after here)
    flushed_formed formed = formed_then old at before after here about (λ is. rw did.are (record { board = is.board; sizes = is.sizes; member = is.member; front = is.front; muster = is.muster })) formed

    pub flushed_goes : (keeps : S → List ℕ → Type 0) (may_leave_now : S → List ℕ → Type 0) (v : View) (events : List ClientEvent) (rest : List Held) → token.number ≡ None
        → Shows about keeps may_leave_now old v → IfSome (slice_get v.members at) (λ m. m.demands ≡ flush_by token ∷ rest) → ArePutOut [] events
        → (w : View) × Shows about keeps may_leave_now (then old at before after here) w × GoesTaking (bytes_of old) at rest v w events
    flushed_goes keeps may_leave_now v events rest unnumbered shows first put_out =
        takes_at about keeps may_leave_now old at before after here (Wait token) (flush_by token) rest v events
        (record { front = ap (λ l. fronts_of l.front) did.are; muster = ap (λ l. musters_of l.muster) did.are; receipt = ap (λ l. receipts_of l.receipt) did.are }) shows first (λ m so. (
          record m { node = (flush token m.node).node; demands = rest },
          shown_still about keeps may_leave_now old before after m _ so
              (ap (λ (x : Member). record x { node = (flush token x.node).node; demands = rest }) so.is ∙ sym (ap (λ (l : Linked S). member_of l m.volume rest) did.are)) refl
              (ap (λ l. l.node.store) did.are) (ap (λ l. l.node.state.table) did.are) (ap (λ l. l.node.state.known) did.are)
              (λ runs. sym (ap (λ l. l.node.state.stopped) did.are) ∙ runs),
          (search rules, refl, refl, unnumbered, refl, put_out),
          refl,
        ))

-- ---- a write goes along a link that is lent

-- all that is on a link lies in the volume
abbrev AreIn : ℕ → List Envelope → Type 0
AreIn size link = All (λ (e : Envelope). IsInside size e.message) link

-- and so does what a write sends
sent_inside : (to : Option ℕ) (size ticket : ℕ) (write : Placed) (node : NodeState) → Fits size write → 0 < length write.bytes → AreIn size (map (λ sent. sent.envelope) (send to (Submit ticket write) node))
sent_inside None size ticket write node inside some = All-nil (λ (e : Envelope). IsInside size e.message)
sent_inside (Some slot) size ticket write node inside some =
    All-cons (λ (e : Envelope). IsInside size e.message) (record { epoch = epoch_of node; message = Submit ticket write }) [] (inside, some) (All-nil (λ (e : Envelope). IsInside size e.message))

-- a node that refused a request is of the same board, over the same store
refused_keeps : {S : Type 0} (Stops : Type 0) (stepped : Stepped) (old new : Seen S) (replies : List GivenReply) (refusal : Refusal) → (Stops → IsStopOf stepped old.state)
    → IsRefusedBy Stops stepped old new replies refusal → (new.state.board ≡ old.state.board) × (new.state.place ≡ old.state.place) × (new.store ≡ old.store)
refused_keeps Stops stepped old new replies refusals.Memory stops why = (ap (λ n. n.state.board) why.1.node, ap (λ n. n.state.place) why.1.node, ap (λ n. n.store) why.1.node)
refused_keeps Stops stepped old new replies refusals.NotMember stops why = (ap (λ n. n.state.board) why.1.node, ap (λ n. n.state.place) why.1.node, ap (λ n. n.store) why.1.node)
refused_keeps Stops stepped old new replies refusals.Stopped stops (inl why) = (ap (λ n. n.state.board) why.1.node, ap (λ n. n.state.place) why.1.node, ap (λ n. n.store) why.1.node)
refused_keeps Stops stepped old new replies refusals.Stopped stops (inr why) = (
  ap (λ n. n.state.board) why.2.node ∙ ap (λ (p : Stepped). p.node.board) (stops why.1).2,
  ap (λ n. n.state.place) why.2.node ∙ ap (λ (p : Stepped). p.node.place) (stops why.1).2,
  ap (λ n. n.store) why.2.node,
)
refused_keeps Stops stepped old new replies refusals.Full stops why = absurd why
refused_keeps Stops stepped old new replies refusals.Early stops why = absurd why
refused_keeps Stops stepped old new replies refusals.Busy stops why = absurd why

-- why the token came back
abbrev IsAway : {S : Type 0} → Seen S → Seen S → List GivenReply → Refusal → Type 0
IsAway old new replies refusal = IsRefusedBy (MAX_NUMBER < old.state.ticket) (stop LastTicket old.state) old new replies refusal ⊎ ((refusal ≡ refusals.Memory) × (old.state.stopped ≡ None) × (new ≡ old) × (replies ≡ []))

-- then too
away_keeps : {S : Type 0} (old new : Seen S) (replies : List GivenReply) (refusal : Refusal) → IsAway old new replies refusal → (new.state.board ≡ old.state.board) × (new.state.place ≡ old.state.place) × (new.store ≡ old.store)
away_keeps old new replies refusal (inl why) = refused_keeps (MAX_NUMBER < old.state.ticket) (stop LastTicket old.state) old new replies refusal (last_ticket old.state) why
away_keeps old new replies refusal (inr why) = (ap (λ n. n.state.board) why.2, ap (λ n. n.state.place) why.2, ap (λ n. n.store) why.2)

-- as the contract of the chain says it
turned_by : {S : Type 0} (before : Linked S) (new : Seen S) (replies : List GivenReply) (refusal : Refusal) → IsAway before.node new replies refusal
    → IsTurnedAway (MAX_NUMBER < before.node.state.ticket) (stop LastTicket before.node.state) replies refusal before (record before { node = new })
turned_by before new replies refusal (inl why) = inl (why, refl)
turned_by before new replies refusal (inr why) = inr (record { memory = why.0; runs = why.1; same = ap (λ n. record before { node = n }) why.2; replies_none = why.3 })

-- what a write sends goes to the head
sent_to_head : (to : Option ℕ) (head ticket : ℕ) (write : Placed) (node : NodeState) → to ≡ Some head → All (λ (m : Sent). Some head ≡ Some m.to) (send to (Submit ticket write) node)
sent_to_head None head ticket write node is = absurd cc
sent_to_head (Some slot) head ticket write node is =
    All-cons (λ (m : Sent). Some head ≡ Some m.to) (record { to = slot; envelope = record { epoch = epoch_of node; message = Submit ticket write } }) [] (sym is) (All-nil (λ (m : Sent). Some head ≡ Some m.to))

-- The member at the place submitted along its link to the head, which was lent, and put back.
pub record Lends {S T E : Type 0} (old : Chained S) (at : ℕ) (before : Linked S) (node : Seen S) (submits : List (List Envelope)) (r : Result T E) (token : WriteToken) (write : Placed) (replies : E → List GivenReply) (refusal : E → Refusal) : Type 0 where
  pub slot : ℕ
  pub head : ℕ
  pub lent : List Envelope
  pub link : List Envelope
  pub queue : List Envelope
  pub mid : List (List Envelope)
  pub here : slice_get old.members at ≡ Some before
  pub slot_is : slot ≡ before.node.state.place.slot
  pub head_is : head_of before.node.state.place.chain ≡ Some head
  pub slot_lt : slot < 8
  pub head_lt : head < 8
  pub taken : mid ≡ slice_set old.submits (8 * slot + head) lent
  pub was : link ≡ link_at old.submits slot head
  pub back : submits ≡ slice_set mid (8 * slot + head) queue
  pub done : OnOk r (node ≡ record { store = before.node.store; state = (submit token write before.node.state).node })
  pub sent : OnOk r (queue ≡ link ++ map (λ sent. sent.envelope) (submit token write before.node.state).out.messages)
  pub still : OnErr r (queue ≡ link)
  pub refused : IfErr r (λ e. IsAway before.node node (replies e) (refusal e))

module _ {S T E : Type 0} (old : Chained S) (at : ℕ) (before : Linked S) (node : Seen S) (submits : List (List Envelope)) (r : Result T E) (token : WriteToken) (write : Placed) (replies : E → List GivenReply) (refusal : E → Refusal)
    (l : Lends old at before node submits r token write replies refusal) where
  -- the chain then
  abbrev pub now : Chained S
  now = record old { members = slice_set old.members at (record before { node = node }); submits = submits }

  -- the node is of the same board and place, over the same store
  keeps_all : (node.state.board ≡ before.node.state.board) × (node.state.place ≡ before.node.state.place) × (node.store ≡ before.node.store)
  keeps_all = either r l.done l.refused (λ is. (ap (λ n. n.state.board) is, ap (λ n. n.state.place) is, ap (λ n. n.store) is)) (λ e why. away_keeps before.node node (replies e) (refusal e) why)

  -- only that link may have changed
  put_back : submits ≡ slice_set old.submits (8 * l.slot + l.head) l.queue
  put_back = l.back ∙ ap (λ s. slice_set s (8 * l.slot + l.head) l.queue) l.taken ∙ set-set old.submits (8 * l.slot + l.head) l.lent l.queue

  module _ (about : S → About) (formed : IsFormed about old) where
    -- it is a whole chain
    pub lent_formed : Fits (bytes_of old) write → 0 < length write.bytes → IsFormed about now
    lent_formed fits some = record {
      members = All-set (IsIn about old.id old.seat old.geometry) old.members at (record before { node = node })
          (let is = in_at about old at before l.here formed in
          record { board = keeps_all.0 ∙ is.board; sizes = ap (λ s. (about s).geometry) keeps_all.2 ∙ is.sizes; member = ap is_member keeps_all.1 ∙ is.member; front = is.front; muster = is.muster }) formed.members;
      all_links = formed.all_links;
      all_submits = ap length put_back ∙ set_long old.submits (8 * l.slot + l.head) l.queue ∙ formed.all_submits;
      links_inside = formed.links_inside;
      submits_inside = rw put_back (All-set (AreIn (bytes_of old)) old.submits (8 * l.slot + l.head) l.queue inside formed.submits_inside);
    }
      where
        was_inside : AreIn (bytes_of old) l.link
        was_inside = subst (AreIn (bytes_of old)) (sym (l.was ∙ at_place old.submits l.slot l.head l.head_lt)) (formed.submits_inside (8 * l.slot + l.head) [] (omega (arith, l.slot_lt, l.head_lt, formed.all_submits)))

        behind : l.queue ≡ l.link ++ map (λ sent. sent.envelope) (submit token write before.node.state).out.messages → AreIn (bytes_of old) l.queue
        behind is = rw is (All-append (λ (e : Envelope). IsInside (bytes_of old) e.message) l.link _ was_inside
            (sent_inside (head_of before.node.state.place.chain) (bytes_of old) before.node.state.ticket write before.node.state fits some))

        inside : AreIn (bytes_of old) l.queue
        inside = on_either r l.sent l.still behind (λ is. rw is was_inside)

    -- the write is on its way
    pub has_submitted : OnOk r (before.node.state.stopped ≡ None) → OnOk r (before.node.state.ticket ≤ MAX_NUMBER) → OnOk r (HasSubmitted at token write old now)
    has_submitted runs ticket = four_on r runs ticket l.done l.sent (λ on below is link. record {
      before = before;
      here = l.here;
      runs = on;
      ticket = below;
      sent = subst (λ slot. HasSent slot (submit token write before.node.state).out.messages (link_at old.submits) (link_at submits)) l.slot_is
          (subst (λ s. HasSent l.slot (submit token write before.node.state).out.messages (link_at old.submits) (link_at s)) (sym put_back)
          (has_sent old.submits l.slot l.head (submit token write before.node.state).out.messages l.queue formed.all_submits l.slot_lt l.head_lt
          (sent_to_head (head_of before.node.state.place.chain) l.head before.node.state.ticket write before.node.state l.head_is)
          (link ∙ ap (λ q. q ++ map (λ (m : Sent). m.envelope) (submit token write before.node.state).out.messages) l.was)));
      are = ap (λ n. record old { members = slice_set old.members at (record before { node = n }); submits = submits }) is;
    })

  -- where the token comes back, the link is as it was
  still_then : OnErr r (now ≡ then old at before (record before { node = node }) l.here)
  still_then = on_err r l.still (λ is. ap (λ s. record old { members = slice_set old.members at (record before { node = node }); submits = s })
      (put_back ∙ one_back old.submits l.slot l.head l.queue l.slot_lt l.head_lt (is ∙ l.was)))

  abbrev stops_by : MAX_NUMBER < before.node.state.ticket → IsStopOf (stop LastTicket before.node.state) before.node.state
  stops_by = last_ticket before.node.state

  -- or the token comes back
  pub lent_away : IfErr r (λ e. Changes at old now (λ old new. IsTurnedAway (MAX_NUMBER < old.node.state.ticket) (stop LastTicket old.node.state) (replies e) (refusal e) old new))
  lent_away = err_both r still_then l.refused (λ e still why. record { before = before; after = record before { node = node }; here = l.here; did = turned_by before node (replies e) (refusal e) why; are = still })

  -- for a reason that its client may be told
  pub lent_pleads : is_member before.node.state.place ≡ true → IfErr r (λ e. HasPleaAt at now (refusal e))
  lent_pleads recorded = err_both r still_then l.refused (λ e still why. subst (λ (c : Chained S). HasPleaAt at c (refusal e)) (sym still)
      (away_pleads old at before (record before { node = node }) l.here recorded (MAX_NUMBER < before.node.state.ticket) (stop LastTicket before.node.state) (replies e) stops_by (refusal e) (turned_by before node (replies e) (refusal e) why)))

  -- and what clients see is of the one volume
  pub lent_goes : (about : S → About) (keeps : S → List ℕ → Type 0) (may_leave_now : S → List ℕ → Type 0) → IfErr r (λ e. (v : View) (events : List ClientEvent) → Shows about keeps may_leave_now old v → ArePutOut (replies e) events
      → (w : View) × Shows about keeps may_leave_now now w × Goes (bytes_of old) v w events)
  lent_goes about keeps may_leave_now = err_both r still_then l.refused (λ e still why v events shows put_out. subst (λ (c : Chained S). (w : View) × Shows about keeps may_leave_now c w × Goes (bytes_of old) v w events) (sym still)
      (away_goes (MAX_NUMBER < before.node.state.ticket) (stop LastTicket before.node.state) before (record before { node = node }) (replies e) stops_by about old at l.here keeps may_leave_now
      (ends_so (MAX_NUMBER < before.node.state.ticket) (stop LastTicket before.node.state) before (record before { node = node }) (replies e) stops_by (refusal e) (turned_by before node (replies e) (refusal e) why)) v events shows put_out))
