-- The tail of the recorded chain holds the committed front, and gives blocks of the volume.
use Rattle.std.proofs.Common.{◌≡◌, ℕ, ◌<◌, ◌≤◌, max, true, false, List, [], ◌∷◌, ◌++◌, length, map, nat_lt, refl, ap, sym, subst, ◌∙◌, inl, inr, arith}
use Rattle.std.specs.Prelude.{◌==◌, Err, IfErr, IfNone, IfOk, IfSome, Ok, Option, Result, Some, None, slice_get, slice_set}
use Rattle.std.proofs.lemmas.Bool.{and_parts, cases_Bool, eqb-true}
use Rattle.std.proofs.lemmas.Bool.Decides.{nat_tests}
use Rattle.std.proofs.lemmas.List.{append-nil}
use Rattle.board.specs.Seats.{FoundFront}
use Rattle.configurations.specs.Record.{Record}
use Rattle.flush_barrier.specs.Reply.{GivenReply}
use Rattle.local_store.specs.About.{About}
use Rattle.chain_core.specs.Node.{IsStep, Seen}
use Rattle.chain_steps.specs.Node.{NodeState, Out, Stepped, epoch_of, last_of}
use Rattle.chain_steps.specs.Place.{is_tail, predecessor_of}
use Rattle.chain_steps.specs.Steps.{hold, keep, know, stop}
use Rattle.chain_steps.specs.declared.cause.Cause.TheVariants as causes
use Rattle.chain_steps.specs.declared.found.Found.TheVariants.{Looked}
use Rattle.chain_steps.specs.declared.message.Envelope.{Envelope}
use Rattle.chain_steps.specs.declared.message.Sent.{Sent}
use Rattle.world_model.specs.Chain.{ArePutOut, BoardInUse}
use Rattle.world_model.specs.Event.{ClientEvent}
use Rattle.world_model.specs.Machine.{State}
use Rattle.chain_model.specs.Chain.{StandsFor}
use Rattle.chain_model.specs.Laws.{HasSent, with_members}
use Rattle.chain_model.specs.Life.{FrontHeld, LookUp, MemberDoes}
use Rattle.chain_model.specs.View.{Member, View}
use Rattle.chain_model.proofs.Orderly.{committed_fronts}
use Rattle.chain.specs.Chain.{Chained, Goes, IsFormed, Shows, bytes_of}
use Rattle.chain.specs.Holding.{HasReadBlock, HoldsAt, HoldsTo, StopsReading, replies_lost}
use Rattle.chain.specs.Links.{link_at}
use Rattle.chain.specs.Member.{HasCalled, Linked}
use Rattle.chain.proofs.Causes.{device_is_one, memory_is_one}
use Rattle.chain.proofs.CommitSteps.{Works, disk_told, store_alone}
use Rattle.chain.proofs.LentSteps.{IsLent, Leaves, formed_sent, knows_lent, now, sent_on, silent_leaves, stops_lent, there_lent, told_before, told_inside}

-- ---- the front is held

-- with the front that was looked up, the node holds it, where it has all of it
abbrev kept : FoundFront → NodeState → NodeState
kept front node = keep (Looked front) node

-- what the step leaves
hold_leaves : (front : FoundFront) (node : NodeState) → Leaves node (hold (kept front node)).node (hold (kept front node)).out.messages
hold_leaves front node = elim (cases_Bool (nat_lt (last_of node) front.number)) [
  | inl above ↦ rw above (silent_leaves (stop causes.Disorder node).node node refl refl refl)
  | inr within ↦ rw within (record {
    board = refl;
    place = refl;
    table = refl;
    before = told_before (predecessor_of node.place) front.number (record (kept front node) { holds = true });
    inside = told_inside (predecessor_of node.place) front.number (record (kept front node) { holds = true });
  })
]

module _ {S : Type 0} (old : Chained S) (at : ℕ) (before after : Linked S) (here : slice_get old.members at ≡ Some before) (was then : List Envelope) (links : List (List Envelope)) (lent : IsLent old before was then links)
    (replies : List GivenReply) (did : HoldsTo old.recorded old.words.front replies was then before after) where
  abbrev next : Chained S
  next = now old at before after here was then links lent

  -- what the step leaves of the member, or that memory ran out
  both : (after.node.store ≡ before.node.store) × Leaves before.node.state after.node.state did.out.messages
  both = elim did.did [
    | inl is ↦ (ap (λ (n : Seen S). n.store) is.node, rw (is.node, is.sent) (hold_leaves did.front before.node.state))
    | inr is ↦ (ap (λ (n : Seen S). n.store) is.node, rw (is.node, is.sent) (silent_leaves (stop causes.Memory before.node.state).node before.node.state refl refl refl))
  ]

  sent : length old.links ≡ 64 → HasSent before.node.state.place.slot did.out.messages (link_at old.links) (link_at links)
  sent long = sent_on old at before after here was then links lent did.out.messages both.1 did.behind long

  -- so the chain's call did what its contract says
  pub holds_at : length old.links ≡ 64 → HoldsAt at replies old next
  holds_at long = record {
    before = before;
    front = did.front;
    node = after.node;
    out = did.out;
    here = here;
    runs = did.runs;
    may = did.may;
    of_number = did.of_number;
    did = did.did;
    told = did.told;
    sent = sent long;
    are = ap (λ (m : Linked S). record next { members = slice_set old.members at m }) did.are;
  }

  -- and what holds of every chain holds then
  pub formed_held : (about : S → About) → IsFormed about old → IsFormed about next
  formed_held about formed = formed_sent old at before after here was then links lent did.out.messages both.1 did.behind about did.are both.0 formed

  -- ---- what happens

  module _ (about : S → About) (keeps : S → List ℕ → Type 0) (may_leave_now : S → List ℕ → Type 0) (long : length old.links ≡ 64)
      (v : View) (s : State) (events : List ClientEvent) (shows : Shows about keeps may_leave_now old v) (stands : StandsFor (bytes_of old) v s) (put_out : ArePutOut replies events) where
    abbrev GoesOn : Type 0
    GoesOn = (w : View) × Shows about keeps may_leave_now next w × Goes (bytes_of old) v w events

    -- the member's state with the front
    abbrev looked : NodeState
    looked = kept did.front before.node.state

    -- it looked the front up
    abbrev found : Seen S
    found = record before.node { state = looked }

    -- the member is in the state of the step
    after_is : (stepped : Stepped) → IsStep found after.node did.out stepped → after ≡ record before { node = record { store = before.node.store; state = stepped.node } }
    after_is stepped is = did.are ∙ ap (λ (n : Seen S). record before { node = n }) is.node

    -- whose replies are put out
    put : (stepped : Stepped) → IsStep found after.node did.out stepped → ArePutOut stepped.out.replies events
    put stepped is = subst (λ rs. ArePutOut rs events) (sym did.told ∙ ap (λ (o : Out). o.replies) is.sent) put_out

    -- memory runs out, and it stops
    stops : IsStep found after.node did.out (stop causes.Memory looked) → GoesOn
    stops is = stops_lent old at before after here was then links lent about keeps may_leave_now did.runs v events shows causes.Memory memory_is_one
        (after_is (stop causes.Memory looked) is) (did.behind ∙ ap (λ (o : Out). was ++ map (λ (m : Sent). m.envelope) o.messages) is.sent ∙ append-nil was)
        (put (stop causes.Memory looked) is)

    -- the front is that of the board
    of_board : did.front.number ≡ v.told.front
    of_board = did.of_number ∙ sym (ap (λ (t : BoardInUse). t.front) shows.told)

    -- which it has all of
    has_all : did.front.number ≤ last_of before.node.state
    has_all = there_lent old at before after here was then links lent about keeps may_leave_now did.runs v events shows (did.front.number ≤ last_of before.node.state) (λ over m under are node_is.
        let stand = subst (λ ms. StandsFor (bytes_of old) (with_members v ms) s) are stands in
        let reached : v.told.front ≤ last_of m.node = (committed_fronts (bytes_of old) v over m under s stand (ap (λ (n : NodeState). n.stopped) node_is ∙ did.runs)).2 in
        subst (λ (n : NodeState). did.front.number ≤ last_of n) node_is (omega (arith, of_board, reached)))

    -- that it may
    may : (before.node.state.place.chain.epoch ≡ old.recorded.epoch) × (is_tail before.node.state.place ≡ true)
    may = let (told, ends) = and_parts (epoch_of before.node.state == old.recorded.epoch) (is_tail before.node.state.place) did.may in (eqb-true (epoch_of before.node.state) old.recorded.epoch told, ends)

    -- it holds the front, and tells the one before it
    holds : IsStep found after.node did.out (hold looked) → nat_lt (last_of before.node.state) did.front.number ≡ false → GoesOn
    holds is within =
        let stepped = know did.front.number (max before.node.state.known did.front.number) (record looked { holds = true }) in
        let same : hold looked ≡ stepped = rw within refl in
        let so : IsStep found after.node did.out stepped = subst (IsStep found after.node did.out) same is in
        knows_lent old at before after here was then links lent about keeps may_leave_now did.runs v events shows stepped.node (after_is stepped so) refl (omega arith) (λ over m under are node_is.
        let mine : Member = record m { node = kept did.front m.node } in
        let mid : View = with_members v (over ++ mine ∷ under) in
        let then_is : hold mine.node ≡ stepped = ap (λ (n : NodeState). hold (kept did.front n)) node_is ∙ same in
        let end : View = record v { members = over ++ record m { node = stepped.node } ∷ under; links = link_at links } in record {
          happenings = MemberDoes (LookUp did.front) ∷ FrontHeld ∷ [];
          each = [] ∷ events ∷ [];
          inner = refl;
          era = (
            mid,
            [],
            events ∷ [],
            refl,
            record { above = over; old = m; new = mine; below = under; were = are; are = refl; change = (of_board, refl, refl) },
            (
              end,
              events,
              [],
              refl,
              record {
                above = over;
                tail = mine;
                below = under;
                front = did.front;
                links = link_at links;
                were = refl;
                runs = ap (λ (n : NodeState). n.stopped) node_is ∙ did.runs;
                found = refl;
                committed = of_board;
                now = ap epoch_of node_is ∙ may.0 ∙ sym (ap (λ (r : Record). r.epoch) shows.recorded);
                ends = ap (λ (n : NodeState). is_tail n.place) node_is ∙ may.1;
                sent = subst (λ (n : NodeState). HasSent n.place.slot (hold (kept did.front n)).out.messages v.links (link_at links)) (sym node_is)
                    (subst (λ l. HasSent before.node.state.place.slot (hold looked).out.messages l (link_at links)) (sym shows.links)
                    (subst (λ (o : Out). HasSent before.node.state.place.slot o.messages (link_at old.links) (link_at links)) is.sent (sent long)));
                out = subst (λ (t : Stepped). ArePutOut t.out.replies events) (sym then_is) (put stepped so);
                are = ap (λ (t : Stepped). record v { members = over ++ record m { node = t.node } ∷ under; links = link_at links }) (sym then_is);
              },
              (refl, refl),
            ),
          );
          all = append-nil events;
        })

    -- all of this can happen in such a chain
    pub held_goes : GoesOn
    held_goes = elim did.did [
      | inl is ↦ elim (cases_Bool (nat_lt (last_of before.node.state) did.front.number)) [
        | inl over ↦
            let beyond : last_of before.node.state < did.front.number = grind (arith, nat_tests) in
            absurd (omega (arith, has_all, beyond))
        | inr within ↦ holds is within
      ]
      | inr is ↦ stops is
    ]

-- ---- a block is given

module _ {S : Type 0} (premise : Type 0) (about : S → About) (failures : S → ℕ) (keeps : S → List ℕ → Type 0) (moment : S → ℕ) (left_since : S → ℕ → List ℕ → Type 0) (before after : Linked S) where
  -- the store was read
  module _ (block : ℕ) (bytes : List ℕ) (did : HasReadBlock premise about failures keeps moment left_since block bytes before after) where
    pub block_works : Works about before after []
    block_works = store_alone about before after did.runs did.are did.only_read.tells

  -- or the member stopped
  module _ (replies : List GivenReply) (did : HasCalled (StopsReading premise about failures keeps moment left_since) replies before after) where
    pub lost_works : Works about before after replies
    lost_works = elim did.did [
      | inl is ↦ record {
        runs = did.runs;
        are = did.are;
        disk = ap disk_told is.0.tells;
        outcome = inr (inr (causes.Memory, memory_is_one, is.1.node, sym did.told ∙ ap (λ (o : Out). o.replies) is.1.sent));
      }
      | inr is ↦ record {
        runs = did.runs;
        are = did.are;
        disk = ap disk_told is.failed.broken;
        outcome = inr (inr (causes.Device is.error, device_is_one is.error, is.node, sym did.told ∙ ap (λ (o : Out). o.replies) is.sent));
      }
    ]

    -- so it keeps what it kept if it runs
    pub lost_stopped : {A : Type 0} → after.node.state.stopped ≡ None → A
    lost_stopped on = elim did.did [
      | inl is ↦ let none : Some causes.Memory ≡ None = ap (λ (n : NodeState). n.stopped) (sym is.1.node) ∙ on in absurd (cc)
      | inr is ↦ let none : Some (causes.Device is.error) ≡ None = ap (λ (n : NodeState). n.stopped) (sym is.node) ∙ on in absurd (cc)
    ]

-- clients see the replies of a call in which the member stopped, and else none
pub seen_lost : {T E : Type 0} {G : Type 0} (replies : E → List GivenReply) (result : Result (Option T) E) (P : T → Type 0) (N : Type 0) (Q : E → Type 0) (events : List ClientEvent)
    → IfOk result (λ o. IfSome o P) → IfOk result (λ o. IfNone o N) → IfErr result Q → ArePutOut (replies_lost replies result) events
    → ((t : T) → P t → ArePutOut [] events → G) → (N → ArePutOut [] events → G) → ((e : E) → Q e → ArePutOut (replies e) events → G) → G
seen_lost replies (Ok None) P N Q events some none err put_out given idle stopped = idle none put_out
seen_lost replies (Ok (Some t)) P N Q events some none err put_out given idle stopped = given t some put_out
seen_lost replies (Err e) P N Q events some none err put_out given idle stopped = stopped e err put_out
