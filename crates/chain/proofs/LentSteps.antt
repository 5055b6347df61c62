-- A member steps with a link lent to it, along which it tells the one before it: the chain then, and what happened in it.
use Rattle.std.proofs.Common.{◌≡◌, ◌≢◌, ℕ, ◌+◌, ◌*◌, ◌<◌, ◌≤◌, List, [], ◌∷◌, ◌++◌, length, map, refl, ap, sym, subst, ◌∙◌, arith}
use Rattle.std.specs.Prelude.{All, Option, Some, None, slice_get, slice_set}
use Rattle.std.specs.List.{AllZip}
use Rattle.std.specs.Option.{unwrap_or}
use Rattle.std.proofs.lemmas.List.Elements.{All-append, All-cons, All-nil, All-set}
use Rattle.std.proofs.lemmas.Option.{same_Some}
use Rattle.local_store.specs.About.{About}
use Rattle.chain_core.specs.Node.{IsInside}
use Rattle.chain_steps.specs.Node.{NodeState, epoch_of}
use Rattle.chain_steps.specs.Place.{is_member, predecessor_of}
use Rattle.chain_steps.specs.Steps.{send, stop}
use Rattle.chain_steps.specs.declared.cause.Cause.{Cause}
use Rattle.chain_steps.specs.declared.cause.Cause.TheVariants.{Disorder}
use Rattle.chain_steps.specs.declared.message.Envelope.{Envelope}
use Rattle.chain_steps.specs.declared.message.Message.TheVariants.{Ack}
use Rattle.chain_steps.specs.declared.message.Sent.{Sent}
use Rattle.world_model.specs.Chain.{ArePutOut}
use Rattle.world_model.specs.Event.{ClientEvent}
use Rattle.chain_model.specs.Laws.{HasSent}
use Rattle.chain_model.specs.Life.{Stop}
use Rattle.chain_model.specs.View.{Member, View}
use Rattle.chain.specs.Chain.{Chained, Goes, IsFormed, Shows, bytes_of}
use Rattle.chain.specs.Links.{AreInside, link_at}
use Rattle.chain.specs.Member.{IsShown, Linked}
use Rattle.chain.proofs.Cells.{place_of, twin_of}
use Rattle.chain.proofs.Linkages.{at_place, has_sent, one_back, only_to, set_again, set_long}
use Rattle.chain.proofs.Stepping.{formed_then, one_does, same_then, shown_still, told_stays}

-- ---- what is sent

-- what such a step leaves of the member's state, and that it sends Acks to whoever is before it
pub record Leaves (old new : NodeState) (messages : List Sent) : Type 0 where
  pub board : new.board ≡ old.board
  pub place : new.place ≡ old.place
  pub table : new.table ≡ old.table
  pub before : All (λ (m : Sent). predecessor_of old.place ≡ Some m.to) messages
  pub inside : (size : ℕ) → All (λ (e : Envelope). IsInside size e.message) (map (λ (m : Sent). m.envelope) messages)

-- where nothing is sent
pub silent_leaves : (new old : NodeState) → new.board ≡ old.board → new.place ≡ old.place → new.table ≡ old.table → Leaves old new []
silent_leaves new old board place table = record {
  board = board;
  place = place;
  table = table;
  before = All-nil (λ (m : Sent). predecessor_of old.place ≡ Some m.to);
  inside = λ size. All-nil (λ (e : Envelope). IsInside size e.message);
}

-- what is sent is for the one before, and no write
pub told_before : (to : Option ℕ) (front : ℕ) (node : NodeState) → All (λ (m : Sent). to ≡ Some m.to) (send to (Ack front) node)
told_before None front node = All-nil (λ (m : Sent). None ≡ Some m.to)
told_before (Some slot) front node =
    All-cons (λ (m : Sent). Some slot ≡ Some m.to) (record { to = slot; envelope = record { epoch = epoch_of node; message = Ack front } }) [] refl (All-nil (λ (m : Sent). Some slot ≡ Some m.to))

pub told_inside : (to : Option ℕ) (front : ℕ) (node : NodeState) (size : ℕ) → All (λ (e : Envelope). IsInside size e.message) (map (λ (m : Sent). m.envelope) (send to (Ack front) node))
told_inside None front node size = All-nil (λ (e : Envelope). IsInside size e.message)
told_inside (Some slot) front node size =
    All-cons (λ (e : Envelope). IsInside size e.message) (record { epoch = epoch_of node; message = Ack front }) [] tt (All-nil (λ (e : Envelope). IsInside size e.message))

-- ---- the link that is lent

-- the link from the slot to the one before it, or to itself, was taken out, and another put in its place
pub record IsLent {S : Type 0} (old : Chained S) (before : Linked S) (was then : List Envelope) (links : List (List Envelope)) : Type 0 where
  pub slot : ℕ
  pub to : ℕ
  pub slot_is : slot ≡ before.node.state.place.slot
  pub to_is : to ≡ unwrap_or (predecessor_of before.node.state.place) slot
  pub slot_lt : slot < 8
  pub to_lt : to < 8
  pub lent : was ≡ link_at old.links slot to
  pub back : links ≡ slice_set old.links (8 * slot + to) then

-- what is read at a place is the same, as often as it is read
same_there : {A : Type 0} (xs : List A) (at : ℕ) (x y : A) → slice_get xs at ≡ Some x → slice_get xs at ≡ Some y → x ≡ y
same_there xs at x y here there = same_Some x y (sym here ∙ there)

-- by two exchanges
pub lent_by : {S : Type 0} (old : Chained S) (at : ℕ) (first second before : Linked S) → slice_get old.members at ≡ Some first → slice_get old.members at ≡ Some second → slice_get old.members at ≡ Some before
    → (slot to : ℕ) → slot ≡ first.node.state.place.slot → to ≡ unwrap_or (predecessor_of second.node.state.place) slot → slot < 8 → to < 8
    → (was other then : List Envelope) (mid links : List (List Envelope)) → was ≡ link_at old.links slot to → mid ≡ slice_set old.links (8 * slot + to) other → links ≡ slice_set mid (8 * slot + to) then
    → IsLent old before was then links
lent_by {S} old at first second before here_first here_second here slot to slot_is to_is slot_lt to_lt was other then mid links lent out back = record {
  slot = slot;
  to = to;
  slot_is = slot_is ∙ ap (λ (m : Linked S). m.node.state.place.slot) (same_there old.members at first before here_first here);
  to_is = to_is ∙ ap (λ (m : Linked S). unwrap_or (predecessor_of m.node.state.place) slot) (same_there old.members at second before here_second here);
  slot_lt = slot_lt;
  to_lt = to_lt;
  lent = lent;
  back = back ∙ ap (λ l. slice_set l (8 * slot + to) then) out ∙ set_again old.links (8 * slot + to) other then;
}

-- ---- the chain then

module _ {S : Type 0} (old : Chained S) (at : ℕ) (before after : Linked S) (here : slice_get old.members at ≡ Some before) (was then : List Envelope) (links : List (List Envelope)) (lent : IsLent old before was then links) where
  abbrev pub now : Chained S
  now = record old { members = slice_set old.members at after; links = links }

  -- what was on the link is there again
  same_links : then ≡ was → links ≡ old.links
  same_links same = lent.back ∙ one_back old.links lent.slot lent.to then lent.slot_lt lent.to_lt (same ∙ lent.lent)

  -- where the member is the same too, nothing changed
  pub rests_then : after ≡ before → then ≡ was → now ≡ old
  rests_then same nothing = ap (λ l. record old { members = slice_set old.members at after; links = l }) (same_links nothing) ∙ same_then old at before after here same

  -- what holds of every chain holds then, where nothing changed
  pub formed_same : (about : S → About) → after ≡ before → then ≡ was → IsFormed about old → IsFormed about now
  formed_same about same nothing formed = subst (IsFormed about) (sym (rests_then same nothing)) formed

  -- what the member sent goes behind what was on the link
  module _ (messages : List Sent) (left : Leaves before.node.state after.node.state messages) (behind : then ≡ was ++ map (λ (m : Sent). m.envelope) messages) where
    then_is : then ≡ link_at old.links lent.slot lent.to ++ map (λ (m : Sent). m.envelope) messages
    then_is = behind ∙ ap (λ l. l ++ map (λ (m : Sent). m.envelope) messages) lent.lent

    -- so it is on all links
    pub sent_on : length old.links ≡ 64 → HasSent before.node.state.place.slot messages (link_at old.links) (link_at links)
    sent_on long = subst (λ s. HasSent s messages (link_at old.links) (link_at links)) lent.slot_is
        (subst (λ ls. HasSent lent.slot messages (link_at old.links) (link_at ls)) (sym lent.back)
        (has_sent old.links lent.slot lent.to messages then long lent.slot_lt lent.to_lt (only_to (predecessor_of before.node.state.place) lent.slot lent.to messages lent.to_is left.before) then_is))

    -- and what holds of every chain holds then
    pub formed_sent : (about : S → About) → after ≡ record before { node = after.node } → after.node.store ≡ before.node.store → IsFormed about old → IsFormed about now
    formed_sent about are store formed =
        let size : ℕ = 4096 * old.geometry.blocks in
        let P : Envelope → Type 0 = λ e. IsInside size e.message in
        let is : IsFormed about (record old { members = slice_set old.members at after }) = formed_then old at before after here about (λ is. record {
          board = left.board ∙ is.board;
          sizes = ap (λ s. (about s).geometry) store ∙ is.sizes;
          member = ap is_member left.place ∙ is.member;
          front = rw are is.front;
          muster = rw are is.muster;
        }) formed in
        record {
          members = is.members;
          all_links = ap length lent.back ∙ set_long old.links (8 * lent.slot + lent.to) then ∙ formed.all_links;
          all_submits = is.all_submits;
          links_inside = subst (AreInside size) (sym lent.back) (All-set (All P) old.links (8 * lent.slot + lent.to) then (subst (All P) (sym then_is)
              (All-append P (link_at old.links lent.slot lent.to) (map (λ (m : Sent). m.envelope) messages)
              (subst (All P) (sym (at_place old.links lent.slot lent.to lent.to_lt)) (formed.links_inside (8 * lent.slot + lent.to) [] (omega (arith, formed.all_links, lent.slot_lt, lent.to_lt))))
              (left.inside size))) formed.links_inside);
          submits_inside = is.submits_inside;
        }

  -- ---- what happens

  module _ (about : S → About) (keeps : S → List ℕ → Type 0) (may_leave_now : S → List ℕ → Type 0) (runs : before.node.state.stopped ≡ None) (v : View) (events : List ClientEvent) (shows : Shows about keeps may_leave_now old v) where
    abbrev IsSo : Linked S → Member → Type 0
    IsSo m shown = IsShown about keeps may_leave_now (bytes_of old) m shown

    abbrev GoesOn : Chained S → Type 0
    GoesOn new = (w : View) × Shows about keeps may_leave_now new w × Goes (bytes_of old) v w events

    -- the member in another state
    abbrev in_state : NodeState → Linked S
    in_state state = record before { node = record { store = before.node.store; state = state } }

    -- it stops, and sends nothing
    pub stops_lent : (cause : Cause) → cause ≢ Disorder → after ≡ record before { node = record { store = before.node.store; state = (stop cause before.node.state).node } } → then ≡ was
        → ArePutOut (stop cause before.node.state).out.replies events → (w : View) × Shows about keeps may_leave_now now w × Goes (bytes_of old) v w events
    stops_lent cause other after_is nothing put_out =
        let state = (stop cause before.node.state).node in
        let same : now ≡ record old { members = slice_set old.members at (in_state state) } = ap (λ l. record now { links = l }) (same_links nothing)
        ∙ ap (λ (m : Linked S). record old { members = slice_set old.members at m }) after_is in
        subst GoesOn (sym same)
        (one_does about keeps may_leave_now old at before (in_state state) here (Stop cause) v events (record { front = refl; muster = refl; receipt = refl }) shows (λ m so.
        let node : m.node ≡ before.node.state = ap (λ (x : Member). x.node) so.is in (
          record m { node = state },
          shown_still about keeps may_leave_now old before (in_state state) m (record m { node = state }) so (ap (λ (x : Member). record x { node = state }) so.is) refl refl refl refl (λ no. absurd cc),
          (
            ap (λ (n : NodeState). n.stopped) node ∙ runs,
            other,
            subst (λ (n : NodeState). ArePutOut (stop cause n).out.replies events) (sym node) put_out,
            ap (λ (n : NodeState). record m { node = (stop cause n).node }) (sym node),
          ),
        )))

    -- It has the same writes, and knows as much, or more: so it is shown, with the links then. What happened is left to say.
    pub knows_lent : (state : NodeState) → after ≡ record before { node = record { store = before.node.store; state = state } } → state.table ≡ before.node.state.table → before.node.state.known ≤ state.known
        → ((over : List Member) (m : Member) (under : List Member) → v.members ≡ over ++ m ∷ under → m.node ≡ before.node.state
        → Goes (bytes_of old) v (record v { members = over ++ record m { node = state } ∷ under; links = link_at links }) events)
        → (w : View) × Shows about keeps may_leave_now now w × Goes (bytes_of old) v w events
    knows_lent state after_is table more step =
        let at_one = place_of old.members at before here in
        let twin = twin_of IsSo at_one.above before at_one.below v.members (subst (λ l. AllZip IsSo l v.members) at_one.split shows.members) in
        let own : Member = record twin.own { node = state } in
        subst (λ (m : Linked S). GoesOn (record old { members = slice_set old.members at m; links = links })) (sym after_is) (
          record v { members = twin.over ++ own ∷ twin.under; links = link_at links },
          record {
            told = shows.told ∙ sym (told_stays old at before (in_state state) here (record { front = refl; muster = refl; receipt = refl }));
            recorded = shows.recorded;
            before = shows.before;
            writing = shows.writing;
            youngest = shows.youngest;
            members = subst (λ l. AllZip IsSo l (twin.over ++ own ∷ twin.under)) (sym (at_one.setting (in_state state))) (twin.others (in_state state) own at_one.below twin.under (record {
              is = ap (λ (x : Member). record x { node = state }) twin.fits.is;
              whole = twin.fits.whole;
              keeping = λ on. twin.fits.keeping runs;
              left = λ c may. rw table (let l = twin.fits.left c may in (l.0, l.1, omega (arith, l.2, more), l.3));
              durable = rw table twin.fits.durable;
              behind = rw table (omega (arith, twin.fits.behind, more));
            }) twin.rest);
            links = refl;
            submits = shows.submits;
          },
          step twin.over twin.own twin.under twin.are (ap (λ (x : Member). x.node) twin.fits.is),
        )

    -- where it stands among those that are shown, what holds of every such member there holds
    pub there_lent : (C : Type 0) → ((over : List Member) (m : Member) (under : List Member) → v.members ≡ over ++ m ∷ under → m.node ≡ before.node.state → C) → C
    there_lent C step =
        let at_one = place_of old.members at before here in
        let twin = twin_of IsSo at_one.above before at_one.below v.members (subst (λ l. AllZip IsSo l v.members) at_one.split shows.members) in
        step twin.over twin.own twin.under twin.are (ap (λ (x : Member). x.node) twin.fits.is)
