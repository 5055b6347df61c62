-- A message comes to a member of a chain: what is shown of the chain then, and what happened in it.
use Rattle.std.proofs.Common.{◌≡◌, ◌≢◌, ◌⊎◌, ℕ, ◌+◌, ◌-◌, ◌*◌, ◌<◌, ◌≤◌, max, List, [], ◌∷◌, ◌++◌, length, map, refl, ap, sym, subst, ◌∙◌, arith, inl, inr}
use Rattle.std.specs.Prelude.{All, None, Some, fold, slice_get, slice_set}
use Rattle.std.specs.List.{AllZip}
use Rattle.std.proofs.lemmas.List.{append-nil, take-append-le}
use Rattle.std.proofs.lemmas.List.Elements.{All-weaker}
use Rattle.flush_barrier.specs.Reply.{GivenReply}
use Rattle.local_store.specs.About.{About}
use Rattle.version_table.specs.declared.kept.Kept.{Kept}
use Rattle.version_table.specs.declared.kept.Origin.{Origin}
use Rattle.volume.specs.Writes.{Placed, patched}
use Rattle.chain_steps.specs.Node.{NodeState, Stepped, Taken, last_of}
use Rattle.chain_steps.specs.Steps.{apply, deliver, know, stop, turn, volume_at}
use Rattle.chain_steps.specs.declared.cause.Cause.{Cause}
use Rattle.chain_steps.specs.declared.cause.Cause.TheVariants as causes
use Rattle.chain_steps.specs.declared.message.Envelope.{Envelope}
use Rattle.chain_steps.specs.declared.message.Sent.{Sent}
use Rattle.chain_core.specs.Node.{Seen}
use Rattle.world_model.specs.Chain.{ArePutOut}
use Rattle.world_model.specs.Event.{ClientEvent}
use Rattle.world_model.specs.Machine.{State}
use Rattle.chain_model.specs.Chain.{StandsFor}
use Rattle.chain_model.specs.Laws.{HasPassed, with_members}
use Rattle.chain_model.specs.Laws as laws
use Rattle.chain_model.specs.Life.{MessageTaken, Stop, SubmitTaken}
use Rattle.chain_model.proofs.Orderly.{committed_fronts, message_in_order, submit_in_order}
use Rattle.chain_model.specs.View.{Member, View}
use Rattle.chain.specs.Chain.{Chained, Goes, Shows, bytes_of}
use Rattle.chain.specs.Links.{link_at}
use Rattle.chain.specs.Member.{IsShown, Linked, member_of}
use Rattle.chain.specs.Passing.{MessageComes, MessageHalts, MessageIsTaken, PassesTo, SubmitComes, SubmitIsTaken, target_of}
use Rattle.chain.proofs.Causes.{memory_is_one}
use Rattle.chain.proofs.Cells.{Place, Twin, place_of, twin_of}
use Rattle.chain.proofs.Linkages.{both_back, has_sent, has_taken, one_back, second_was, set_long}
use Rattle.chain.proofs.PassingSteps.{deliver_elim, delivered_to}
use Rattle.chain.proofs.Stepping.{just_goes, one_does, shown_still, told_stays}

-- ---- what is taken, and sent

same_first : (one other : Envelope) (rest more : List Envelope) → one ∷ rest ≡ other ∷ more → one ≡ other
same_first one other rest more is = cc

-- all that a step sends is for the slot: nobody is told of the message, or who stands there
sent_to_it : (node : NodeState) (from : ℕ) (envelope : Envelope) (stepped : Stepped) (to : ℕ) → (target_of node envelope.message ≡ Some to) ⊎ (target_of node envelope.message ≡ None) → deliver from envelope node ≡ Taken stepped
    → All (λ (m : Sent). Some to ≡ Some m.to) stepped.out.messages
sent_to_it node from envelope stepped to (inl there) taken = subst (λ o. All (λ (m : Sent). o ≡ Some m.to) stepped.out.messages) there (delivered_to from envelope node stepped taken)
sent_to_it node from envelope stepped to (inr nobody) taken =
    let all = subst (λ o. All (λ (m : Sent). o ≡ Some m.to) stepped.out.messages) nobody (delivered_to from envelope node stepped taken) in
    All-weaker (λ (m : Sent). None ≡ Some m.to) (λ (m : Sent). Some to ≡ Some m.to) (λ m no. absurd cc) stepped.out.messages all

-- ---- a member at a place, and a link to it

module _ {S : Type 0} (old : Chained S) (at : ℕ) (before : Linked S) (here : slice_get old.members at ≡ Some before) (from to : ℕ) (from_lt : from < 8) (slot_lt : before.node.state.place.slot < 8) (to_lt : to < 8)
    (node : Seen S) (first : Envelope) (rest left then : List Envelope) (replies : List GivenReply) (target : (target_of before.node.state first.message ≡ Some to) ⊎ (target_of before.node.state first.message ≡ None)) where
  abbrev slot : ℕ
  slot = before.node.state.place.slot

  -- by a chain link
  module _ (apart : from ≢ before.node.state.place.slot) (long : length old.links ≡ 64) (was : link_at old.links from before.node.state.place.slot ≡ first ∷ rest) where
    abbrev pub now : Chained S
    now = record old {
      members = slice_set old.members at (record before { node = node });
      links = slice_set (slice_set old.links (8 * from + before.node.state.place.slot) left) (8 * before.node.state.place.slot + to) then;
    }

    pub message_comes : PassesTo from before.node node (link_at old.links from before.node.state.place.slot) left (link_at old.links before.node.state.place.slot to) then replies → MessageComes from at old now replies
    message_comes did = elim did.did [
      | inl is ↦
          let it : is.envelope ≡ first = same_first is.envelope first left rest (sym is.first ∙ was) in
          let all = sent_to_it before.node.state from is.envelope is.stepped to (subst (λ (e : Envelope). (target_of before.node.state e.message ≡ Some to) ⊎ (target_of before.node.state e.message ≡ None)) (sym it) target) is.taken in
          inl (record {
            before = before;
            envelope = is.envelope;
            stepped = is.stepped;
            here = here;
            ran = is.ran;
            taken = is.taken;
            runs = is.runs;
            told = is.told;
            passed = record {
              apart = apart;
              between = link_at (slice_set old.links (8 * from + before.node.state.place.slot) left);
              taken = has_taken old.links from before.node.state.place.slot is.envelope left long from_lt slot_lt is.first;
              sends = has_sent (slice_set old.links (8 * from + before.node.state.place.slot) left) before.node.state.place.slot to is.stepped.out.messages then (set_long old.links (8 * from + before.node.state.place.slot) left ∙ long) slot_lt to_lt all
                  (did.behind ∙ ap (λ l. link_at old.links before.node.state.place.slot to ++ l) is.sends
                  ∙ ap (λ l. l ++ map (λ (m : Sent). m.envelope) is.stepped.out.messages) (sym (second_was old.links from before.node.state.place.slot to from_lt slot_lt to_lt apart left)));
            };
            are = ap (λ (n : Seen S). record now { members = slice_set old.members at (record before { node = n }) }) is.are;
          })
      | inr is ↦ inr (record {
        before = before;
        envelope = is.envelope;
        rest = is.rest;
        cause = is.cause;
        here = here;
        ran = is.ran;
        first = is.first;
        why = is.why;
        told = is.told;
        are = ap (λ (n : Seen S). record now { members = slice_set old.members at (record before { node = n }) }) is.are
            ∙ ap (λ l. record old { members = slice_set old.members at (record before { node = record { store = before.node.store; state = (stop is.cause before.node.state).node } }); links = l })
            (both_back old.links from before.node.state.place.slot to from_lt slot_lt to_lt apart left then is.stays (did.behind ∙ ap (λ l. link_at old.links before.node.state.place.slot to ++ l) is.silent ∙ append-nil (link_at old.links before.node.state.place.slot to)));
      })
    ]

  -- by a submit link
  module _ (long_links : length old.links ≡ 64) (long : length old.submits ≡ 64) (was : link_at old.submits from before.node.state.place.slot ≡ first ∷ rest) where
    abbrev pub numbered : Chained S
    numbered = record old {
      members = slice_set old.members at (record before { node = node });
      links = slice_set old.links (8 * before.node.state.place.slot + to) then;
      submits = slice_set old.submits (8 * from + before.node.state.place.slot) left;
    }

    pub submit_comes : PassesTo from before.node node (link_at old.submits from before.node.state.place.slot) left (link_at old.links before.node.state.place.slot to) then replies → SubmitComes from at old numbered replies
    submit_comes did = elim did.did [
      | inl is ↦
          let it : is.envelope ≡ first = same_first is.envelope first left rest (sym is.first ∙ was) in
          let all = sent_to_it before.node.state from is.envelope is.stepped to (subst (λ (e : Envelope). (target_of before.node.state e.message ≡ Some to) ⊎ (target_of before.node.state e.message ≡ None)) (sym it) target) is.taken in
          inl (record {
            before = before;
            envelope = is.envelope;
            stepped = is.stepped;
            here = here;
            ran = is.ran;
            taken = is.taken;
            runs = is.runs;
            told = is.told;
            gone = has_taken old.submits from before.node.state.place.slot is.envelope left long from_lt slot_lt is.first;
            sent = has_sent old.links before.node.state.place.slot to is.stepped.out.messages then long_links slot_lt to_lt all (did.behind ∙ ap (λ l. link_at old.links before.node.state.place.slot to ++ l) is.sends);
            are = ap (λ (n : Seen S). record numbered { members = slice_set old.members at (record before { node = n }) }) is.are;
          })
      | inr is ↦ inr (record {
        before = before;
        envelope = is.envelope;
        rest = is.rest;
        cause = is.cause;
        here = here;
        ran = is.ran;
        first = is.first;
        why = is.why;
        told = is.told;
        are = ap (λ (n : Seen S). record numbered { members = slice_set old.members at (record before { node = n }) }) is.are
            ∙ ap (λ l. record numbered { members = slice_set old.members at (record before { node = record { store = before.node.store; state = (stop is.cause before.node.state).node } }); links = l })
            (one_back old.links before.node.state.place.slot to then slot_lt to_lt (did.behind ∙ ap (λ l. link_at old.links before.node.state.place.slot to ++ l) is.silent ∙ append-nil (link_at old.links before.node.state.place.slot to)))
            ∙ ap (λ l. record old { members = slice_set old.members at (record before { node = record { store = before.node.store; state = (stop is.cause before.node.state).node } }); submits = l })
            (one_back old.submits from before.node.state.place.slot left from_lt slot_lt is.stays);
      })
    ]

-- ---- as what the member is shown

-- a write more, behind what is known, changes nothing of what the disk may be left with
volume_more : (volume : List ℕ) (node : NodeState) (n : ℕ) (origin : Origin) (write : Placed) (front : ℕ) → node.known ≤ last_of node → front ≤ node.known
    → volume_at volume (apply n origin write node).node front ≡ volume_at volume node front
volume_more volume node n origin write front applied le =
    ap (λ (ks : List Kept). fold patched volume (map (λ (k : Kept). k.write) ks))
    (take-append-le (front - node.table.forgotten) node.table.kept (record { number = n; write = write; origin = origin } ∷ []) (omega (arith, applied, le)))

module _ {S : Type 0} (about : S → About) (keeps : S → List ℕ → Type 0) (may_leave_now : S → List ℕ → Type 0) (old : Chained S) where
  abbrev IsSo : Linked S → Member → Type 0
  IsSo m shown = IsShown about keeps may_leave_now (bytes_of old) m shown

  -- whatever message it takes
  shown_then : (m : Linked S) (own : Member) → IsSo m own → m.node.state.known ≤ last_of m.node.state → (from : ℕ) (envelope : Envelope) (stepped : Stepped) → deliver from envelope m.node.state ≡ Taken stepped
      → m.node.state.stopped ≡ None → IsSo (record m { node = record { store = m.node.store; state = stepped.node } }) (record own { node = stepped.node })
  shown_then m own so within from envelope stepped taken runs =
      deliver_elim (λ s. IsSo (record m { node = record { store = m.node.store; state = s.node } }) (record own { node = s.node })) from envelope m.node.state stepped
      (same m.node.state refl refl (λ on. runs))
      (same (stop causes.Disorder m.node.state).node refl refl (λ on. runs))
      (λ turns. same (turn m.node.state).node refl refl (λ on. runs))
      (λ n origin write carries. record {
        is = shown (apply n origin write m.node.state).node;
        whole = so.whole;
        keeping = λ on. so.keeping runs;
        left = λ c may. let l = so.left c may in (l.0, l.1, l.2, rw (volume_more own.volume m.node.state n origin write l.0 within l.2) l.3);
        durable = so.durable;
        behind = so.behind;
      })
      (λ told tells. more told)
      taken
    where
      shown : (state : NodeState) → record own { node = state } ≡ member_of (record m { node = record { store = m.node.store; state = state } }) own.volume own.demands
      shown state = refl

      same : (state : NodeState) → state.table ≡ m.node.state.table → state.known ≡ m.node.state.known → (state.stopped ≡ None → m.node.state.stopped ≡ None)
          → IsSo (record m { node = record { store = m.node.store; state = state } }) (record own { node = state })
      same state table known on = shown_still about keeps may_leave_now old m (record m { node = record { store = m.node.store; state = state } }) own (record own { node = state }) so (shown state) refl refl table known on

      more : (told : ℕ) → IsSo (record m { node = record { store = m.node.store; state = (know told (max m.node.state.known told) m.node.state).node } }) (record own { node = (know told (max m.node.state.known told) m.node.state).node })
      more told = record {
        is = refl;
        whole = so.whole;
        keeping = λ on. so.keeping runs;
        left = λ c may. let l = so.left c may in (l.0, l.1, omega (arith, l.2), l.3);
        durable = so.durable;
        behind = omega (arith, so.behind);
      }

  module _ (at : ℕ) (before : Linked S) (here : slice_get old.members at ≡ Some before) (v : View) (s : State) (shows : Shows about keeps may_leave_now old v) (stands : StandsFor (bytes_of old) v s) where
    pub at_place : Place old.members at before
    at_place = place_of old.members at before here

    pub twin : Twin IsSo at_place.above before at_place.below v.members
    twin = twin_of IsSo at_place.above before at_place.below v.members (subst (λ l. AllZip IsSo l v.members) at_place.split shows.members)

    pub node_is : twin.own.node ≡ before.node.state
    node_is = ap (λ (x : Member). x.node) twin.fits.is

    pub stands_there : StandsFor (bytes_of old) (with_members v (twin.over ++ twin.own ∷ twin.under)) s
    stands_there = subst (λ ms. StandsFor (bytes_of old) (with_members v ms) s) twin.are stands

    -- it stops
    pub halts : (cause : Cause) (events : List ClientEvent) → before.node.state.stopped ≡ None → cause ≢ causes.Disorder → ArePutOut (stop cause before.node.state).out.replies events
        → (w : View) × Shows about keeps may_leave_now (record old { members = slice_set old.members at (record before { node = record { store = before.node.store; state = (stop cause before.node.state).node } }) }) w × Goes (bytes_of old) v w events
    halts cause events runs other put_out =
        one_does about keeps may_leave_now old at before (record before { node = record { store = before.node.store; state = (stop cause before.node.state).node } }) here (Stop cause) v events
        (record { front = refl; muster = refl; receipt = refl }) shows (λ m so.
        let node : m.node ≡ before.node.state = ap (λ (x : Member). x.node) so.is in (
          record m { node = (stop cause before.node.state).node },
          shown_still about keeps may_leave_now old before (record before { node = record { store = before.node.store; state = (stop cause before.node.state).node } }) m (record m { node = (stop cause before.node.state).node }) so refl refl refl refl refl (λ no. absurd cc),
          (ap (λ (n : NodeState). n.stopped) node ∙ runs, other, subst (λ (n : NodeState). ArePutOut (stop cause n).out.replies events) (sym node) put_out, ap (λ (n : NodeState). record m { node = (stop cause n).node }) (sym node)),
        ))

    known_applied : before.node.state.stopped ≡ None → before.node.state.known ≤ last_of before.node.state
    known_applied runs =
        let (durable, known, has) = committed_fronts (bytes_of old) v twin.over twin.own twin.under s stands_there (ap (λ (n : NodeState). n.stopped) node_is ∙ runs) in
        subst (λ (n : NodeState). n.known ≤ last_of n) node_is (omega (arith, known, has))

    -- the members then
    members_then : (from : ℕ) (envelope : Envelope) (stepped : Stepped) → deliver from envelope before.node.state ≡ Taken stepped → before.node.state.stopped ≡ None
        → AllZip IsSo (slice_set old.members at (record before { node = record { store = before.node.store; state = stepped.node } })) (twin.over ++ record twin.own { node = stepped.node } ∷ twin.under)
    members_then from envelope stepped taken runs =
        subst (λ l. AllZip IsSo l (twin.over ++ record twin.own { node = stepped.node } ∷ twin.under)) (sym (at_place.setting (record before { node = record { store = before.node.store; state = stepped.node } })))
        (twin.others (record before { node = record { store = before.node.store; state = stepped.node } }) (record twin.own { node = stepped.node }) at_place.below twin.under
        (shown_then before twin.own twin.fits (known_applied runs) from envelope stepped taken runs) twin.rest)

  -- ---- what happens

  module _ (at : ℕ) (v : View) (s : State) (shows : Shows about keeps may_leave_now old v) (stands : StandsFor (bytes_of old) v s) where
    abbrev GoesOn : Chained S → List ClientEvent → Type 0
    GoesOn new events = (w : View) × Shows about keeps may_leave_now new w × Goes (bytes_of old) v w events

    message_taken : (from : ℕ) (new : Chained S) (replies : List GivenReply) (events : List ClientEvent) → MessageIsTaken from at old new replies → ArePutOut replies events → GoesOn new events
    message_taken from new replies events is put_out =
        let t = twin at is.before is.here v s shows stands in
        let node = node_is at is.before is.here v s shows stands in
        let w : View = record v { members = t.over ++ record t.own { node = is.stepped.node } ∷ t.under; links = link_at new.links } in
        subst (λ (c : Chained S). GoesOn c events) (sym is.are) (
          w,
          record {
            told = shows.told ∙ sym (told_stays old at is.before (record is.before { node = record { store = is.before.node.store; state = is.stepped.node } }) is.here (record { front = refl; muster = refl; receipt = refl }));
            recorded = shows.recorded;
            before = shows.before;
            writing = shows.writing;
            youngest = shows.youngest;
            members = members_then at is.before is.here v s shows stands from is.envelope is.stepped is.taken is.ran;
            links = refl;
            submits = shows.submits;
          },
          just_goes (bytes_of old) v w MessageTaken events refl (record {
            above = t.over;
            member = t.own;
            below = t.under;
            from = from;
            envelope = is.envelope;
            stepped = is.stepped;
            links = link_at new.links;
            were = t.are;
            taken = subst (λ (n : NodeState). deliver from is.envelope n ≡ Taken is.stepped) (sym node) is.taken;
            passed = subst (λ (n : NodeState). HasPassed from n.place.slot is.envelope is.stepped.out.messages v.links (link_at new.links)) (sym node)
                (subst (λ l. HasPassed from is.before.node.state.place.slot is.envelope is.stepped.out.messages l (link_at new.links)) (sym shows.links) is.passed);
            out = subst (λ rs. ArePutOut rs events) is.told put_out;
            are = refl;
          }),
        )

    submit_taken : (from : ℕ) (new : Chained S) (replies : List GivenReply) (events : List ClientEvent) → SubmitIsTaken from at old new replies → ArePutOut replies events → GoesOn new events
    submit_taken from new replies events is put_out =
        let t = twin at is.before is.here v s shows stands in
        let node = node_is at is.before is.here v s shows stands in
        let w : View = record v { members = t.over ++ record t.own { node = is.stepped.node } ∷ t.under; links = link_at new.links; submits = link_at new.submits } in
        subst (λ (c : Chained S). GoesOn c events) (sym is.are) (
          w,
          record {
            told = shows.told ∙ sym (told_stays old at is.before (record is.before { node = record { store = is.before.node.store; state = is.stepped.node } }) is.here (record { front = refl; muster = refl; receipt = refl }));
            recorded = shows.recorded;
            before = shows.before;
            writing = shows.writing;
            youngest = shows.youngest;
            members = members_then at is.before is.here v s shows stands from is.envelope is.stepped is.taken is.ran;
            links = refl;
            submits = refl;
          },
          just_goes (bytes_of old) v w SubmitTaken events refl (record {
            above = t.over;
            member = t.own;
            below = t.under;
            from = from;
            envelope = is.envelope;
            stepped = is.stepped;
            links = link_at new.links;
            submits = link_at new.submits;
            were = t.are;
            taken = subst (λ (n : NodeState). deliver from is.envelope n ≡ Taken is.stepped) (sym node) is.taken;
            gone = subst (λ (n : NodeState). laws.HasTaken from n.place.slot is.envelope v.submits (link_at new.submits)) (sym node)
                (subst (λ l. laws.HasTaken from is.before.node.state.place.slot is.envelope l (link_at new.submits)) (sym shows.submits) is.gone);
            sent = subst (λ (n : NodeState). laws.HasSent n.place.slot is.stepped.out.messages v.links (link_at new.links)) (sym node)
                (subst (λ l. laws.HasSent is.before.node.state.place.slot is.stepped.out.messages l (link_at new.links)) (sym shows.links) is.sent);
            out = subst (λ rs. ArePutOut rs events) is.told put_out;
            are = refl;
          }),
        )

    -- where it halts, a chain has why
    message_halted : (links_of : Chained S → List (List Envelope)) (from : ℕ) (new : Chained S) (replies : List GivenReply) (events : List ClientEvent)
        → ((is : MessageHalts links_of from at old new replies) → deliver from is.envelope is.before.node.state ≡ Taken (stop causes.Disorder is.before.node.state) → ⊥) → MessageHalts links_of from at old new replies → ArePutOut replies events → GoesOn new events
    message_halted links_of from new replies events orderly is put_out =
        subst (λ (c : Chained S). GoesOn c events) (sym is.are)
        (halts at is.before is.here v s shows stands is.cause events is.ran (elim is.why [
          | inl memory ↦ λ no. memory_is_one (sym memory ∙ no)
          | inr taken ↦ λ no. orderly is (subst (λ c. deliver from is.envelope is.before.node.state ≡ Taken (stop c is.before.node.state)) no taken)
        ]) (subst (λ rs. ArePutOut rs events) is.told put_out))

    pub message_goes : (from : ℕ) (new : Chained S) (replies : List GivenReply) (events : List ClientEvent) → ((before : Linked S) → slice_get old.members at ≡ Some before → from ≢ before.node.state.place.slot)
        → MessageComes from at old new replies → ArePutOut replies events → GoesOn new events
    message_goes from new replies events apart (inl is) put_out = message_taken from new replies events is put_out
    message_goes from new replies events apart (inr is) put_out = message_halted (λ c. c.links) from new replies events (λ it taken.
        let t = twin at it.before it.here v s shows stands in
        let node = node_is at it.before it.here v s shows stands in
        let place : t.own.node.place.slot ≡ it.before.node.state.place.slot = ap (λ (n : NodeState). n.place.slot) node in
        message_in_order (bytes_of old) v t.over t.own t.under s from it.envelope it.rest (stands_there at it.before it.here v s shows stands) (ap (λ (n : NodeState). n.stopped) node ∙ it.ran)
        (λ same. apart it.before it.here (same ∙ place)) (ap (λ l. l from t.own.node.place.slot) shows.links ∙ ap (link_at old.links from) place ∙ it.first)
        (subst (λ (n : NodeState). deliver from it.envelope n ≡ Taken (stop causes.Disorder n)) (sym node) taken)) is put_out

    pub submit_goes : (from : ℕ) (new : Chained S) (replies : List GivenReply) (events : List ClientEvent) → SubmitComes from at old new replies → ArePutOut replies events → GoesOn new events
    submit_goes from new replies events (inl is) put_out = submit_taken from new replies events is put_out
    submit_goes from new replies events (inr is) put_out = message_halted (λ c. c.submits) from new replies events (λ it taken.
        let t = twin at it.before it.here v s shows stands in
        let node = node_is at it.before it.here v s shows stands in
        let place : t.own.node.place.slot ≡ it.before.node.state.place.slot = ap (λ (n : NodeState). n.place.slot) node in
        submit_in_order (bytes_of old) v t.over t.own t.under s from it.envelope it.rest (stands_there at it.before it.here v s shows stands) (ap (λ (n : NodeState). n.stopped) node ∙ it.ran)
        (ap (λ l. l from t.own.node.place.slot) shows.submits ∙ ap (link_at old.submits from) place ∙ it.first)
        (subst (λ (n : NodeState). deliver from it.envelope n ≡ Taken (stop causes.Disorder n)) (sym node) taken)) is put_out
