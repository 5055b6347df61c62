-- A member takes the front that it raised as its known commit, and tells the one before it along a link.
--
-- That the front isn't below what it knew is a premise here.
use Rattle.std.proofs.Common.{◌≡◌, ℕ, ◌<◌, ◌≤◌, List, ◌∷◌, ◌++◌, length, map, nat_lt, refl, ap, sym, subst, ◌∙◌, inl, inr, arith}
use Rattle.std.specs.Prelude.{Option, Some, None, slice_get, slice_set}
use Rattle.std.proofs.lemmas.Bool.{cases_Bool}
use Rattle.std.proofs.lemmas.Bool.Decides.{nat_tests}
use Rattle.std.proofs.lemmas.List.{append-nil}
use Rattle.board.specs.Seats.{FoundFront}
use Rattle.flush_barrier.specs.Reply.{GivenReply}
use Rattle.local_store.specs.About.{About}
use Rattle.chain_core.specs.Node.{IsStep, IsStepOrStop, Seen}
use Rattle.chain_steps.specs.Node.{NodeState, Out, Stepped, last_of}
use Rattle.chain_steps.specs.Place.{predecessor_of}
use Rattle.chain_steps.specs.Steps.{know, raised, raised_front, raised_to, stop}
use Rattle.chain_steps.specs.declared.cause.Cause.TheVariants as causes
use Rattle.chain_steps.specs.declared.found.Found.{Found}
use Rattle.chain_steps.specs.declared.found.Found.TheVariants.{Looked, Raised}
use Rattle.chain_steps.specs.declared.message.Envelope.{Envelope}
use Rattle.chain_steps.specs.declared.message.Sent.{Sent}
use Rattle.world_model.specs.Chain.{ArePutOut}
use Rattle.world_model.specs.Event.{ClientEvent}
use Rattle.world_model.specs.Machine.{State}
use Rattle.chain_model.specs.Chain.{StandsFor}
use Rattle.chain_model.specs.Laws.{HasSent, with_members}
use Rattle.chain_model.specs.Life.{RaisedKnown}
use Rattle.chain_model.specs.View.{View}
use Rattle.chain_model.proofs.Orderly.{raised_in_order}
use Rattle.chain.specs.Chain.{Chained, Goes, IsFormed, Shows, bytes_of}
use Rattle.chain.specs.Fronts.{HasKnown, KnowsTo}
use Rattle.chain.specs.Links.{link_at}
use Rattle.chain.specs.Member.{Linked}
use Rattle.chain.proofs.Causes.{memory_is_one}
use Rattle.chain.proofs.LentSteps.{IsLent, Leaves, formed_sent, knows_lent, now, sent_on, silent_leaves, stops_lent, there_lent, told_before, told_inside}
use Rattle.chain.proofs.Stepping.{just_goes}

-- what the step leaves, with a front that it raised, or without
raised_leaves : (front : Option ℕ) (node : NodeState) → Leaves node (raised_to front node).node (raised_to front node).out.messages
raised_leaves None node = silent_leaves node node refl refl refl
raised_leaves (Some front) node = elim (cases_Bool (nat_lt (last_of node) front)) [
  | inl above ↦ rw above (silent_leaves (stop causes.Disorder node).node node refl refl refl)
  | inr within ↦ rw within (record { board = refl; place = refl; table = refl; before = told_before (predecessor_of node.place) front node; inside = told_inside (predecessor_of node.place) front node })
]

-- or memory runs out
leaves : {S : Type 0} (old new : Seen S) (out : Out) → IsStepOrStop old new out (raised old.state) → (new.store ≡ old.store) × Leaves old.state new.state out.messages
leaves {S} old new out (inl did) = (ap (λ (n : Seen S). n.store) did.node, rw (did.node, did.sent) (raised_leaves (raised_front old.state.found) old.state))
leaves {S} old new out (inr did) = (ap (λ (n : Seen S). n.store) did.node, rw (did.node, did.sent) (silent_leaves (stop causes.Memory old.state).node old.state refl refl refl))

module _ {S : Type 0} (old : Chained S) (at : ℕ) (before after : Linked S) (here : slice_get old.members at ≡ Some before) (was then : List Envelope) (links : List (List Envelope)) (lent : IsLent old before was then links)
    (replies : List GivenReply) (did : KnowsTo replies was then before after) where
  abbrev next : Chained S
  next = now old at before after here was then links lent

  -- what the step leaves of the member
  both : (after.node.store ≡ before.node.store) × Leaves before.node.state after.node.state did.out.messages
  both = leaves before.node after.node did.out did.did

  sent : length old.links ≡ 64 → HasSent before.node.state.place.slot did.out.messages (link_at old.links) (link_at links)
  sent long = sent_on old at before after here was then links lent did.out.messages both.1 did.behind long

  -- so the chain's call did what its contract says
  pub has_known : length old.links ≡ 64 → HasKnown at replies old next
  has_known long = record {
    before = before;
    node = after.node;
    out = did.out;
    here = here;
    runs = did.runs;
    had = did.had;
    did = did.did;
    told = did.told;
    sent = sent long;
    are = ap (λ (m : Linked S). record next { members = slice_set old.members at m }) did.are;
  }

  -- and what holds of every chain holds where it told
  pub formed_known : (about : S → About) → IsFormed about old → IsFormed about next
  formed_known about formed = formed_sent old at before after here was then links lent did.out.messages both.1 did.behind about did.are both.0 formed

  -- ---- what happens

  module _ (about : S → About) (keeps : S → List ℕ → Type 0) (may_leave_now : S → List ℕ → Type 0) (long : length old.links ≡ 64)
      (above : (front : FoundFront) → before.node.state.found ≡ Some (Raised front) → before.node.state.known ≤ front.number)
      (v : View) (s : State) (events : List ClientEvent) (shows : Shows about keeps may_leave_now old v) (stands : StandsFor (bytes_of old) v s) (put_out : ArePutOut replies events) where
    abbrev GoesOn : Type 0
    GoesOn = (w : View) × Shows about keeps may_leave_now next w × Goes (bytes_of old) v w events

    -- the member is in the state of the step
    after_is : (stepped : Stepped) → IsStep before.node after.node did.out stepped → after ≡ record before { node = record { store = before.node.store; state = stepped.node } }
    after_is stepped is = did.are ∙ ap (λ (n : Seen S). record before { node = n }) is.node

    -- whose replies are put out
    put : (stepped : Stepped) → IsStep before.node after.node did.out stepped → ArePutOut stepped.out.replies events
    put stepped is = subst (λ rs. ArePutOut rs events) (sym did.told ∙ ap (λ (o : Out). o.replies) is.sent) put_out

    -- memory runs out, and it stops
    stops : IsStep before.node after.node did.out (stop causes.Memory before.node.state) → GoesOn
    stops is = stops_lent old at before after here was then links lent about keeps may_leave_now did.runs v events shows causes.Memory memory_is_one
        (after_is (stop causes.Memory before.node.state) is) (did.behind ∙ ap (λ (o : Out). was ++ map (λ (m : Sent). m.envelope) o.messages) is.sent ∙ append-nil was)
        (put (stop causes.Memory before.node.state) is)

    -- it knows more, and tells the one before it
    knows : (front : FoundFront) → before.node.state.found ≡ Some (Raised front) → IsStep before.node after.node did.out (know front.number front.number before.node.state) → GoesOn
    knows front was_found is =
        let stepped = know front.number front.number before.node.state in
        let le : before.node.state.known ≤ front.number = above front was_found in
        knows_lent old at before after here was then links lent about keeps may_leave_now did.runs v events shows stepped.node (after_is stepped is) refl le (λ over m under are node_is.
        just_goes (bytes_of old) v _ RaisedKnown events refl (record {
          above = over;
          member = m;
          below = under;
          front = front;
          links = link_at links;
          were = are;
          runs = ap (λ (n : NodeState). n.stopped) node_is ∙ did.runs;
          found = ap (λ (n : NodeState). n.found) node_is ∙ was_found;
          more = rw node_is le;
          sent = subst (λ (n : NodeState). HasSent n.place.slot (know front.number front.number n).out.messages v.links (link_at links)) (sym node_is)
              (subst (λ l. HasSent before.node.state.place.slot stepped.out.messages l (link_at links)) (sym shows.links)
              (subst (λ (o : Out). HasSent before.node.state.place.slot o.messages (link_at old.links) (link_at links)) is.sent (sent long)));
          out = subst (λ (n : NodeState). ArePutOut (know front.number front.number n).out.replies events) (sym node_is) (put stepped is);
          are = ap (λ (n : NodeState). record v { members = over ++ record m { node = (know front.number front.number n).node } ∷ under; links = link_at links }) (sym node_is);
        }))

    -- it has all of a front that it raised
    has_all : (front : FoundFront) → before.node.state.found ≡ Some (Raised front) → front.number ≤ last_of before.node.state
    has_all front found = there_lent old at before after here was then links lent about keeps may_leave_now did.runs v events shows (front.number ≤ last_of before.node.state) (λ over m under are node_is.
        subst (λ (n : NodeState). front.number ≤ last_of n) node_is
        (raised_in_order (bytes_of old) v over m under s front (subst (λ ms. StandsFor (bytes_of old) (with_members v ms) s) are stands)
        (ap (λ (n : NodeState). n.stopped) node_is ∙ did.runs) (ap (λ (n : NodeState). n.found) node_is ∙ found)))

    -- whatever front it keeps
    by : (found : Option Found) → before.node.state.found ≡ found → IsStep before.node after.node did.out (raised_to (raised_front found) before.node.state) → GoesOn
    by None found is = absurd (did.had (ap raised_front found))
    by (Some (Looked front)) found is = absurd (did.had (ap raised_front found))
    by (Some (Raised front)) found is = elim (cases_Bool (nat_lt (last_of before.node.state) front.number)) [
      | inl over ↦
          let committed = has_all front found in
          let beyond : last_of before.node.state < front.number = grind (arith, nat_tests) in
          absurd (omega (arith, committed, beyond))
      | inr reached ↦ knows front found (rw reached at is)
    ]

    -- all of this can happen in such a chain
    pub known_goes : GoesOn
    known_goes = elim did.did [
      | inl is ↦ by before.node.state.found refl is
      | inr is ↦ stops is
    ]
