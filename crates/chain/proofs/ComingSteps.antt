-- A message comes to a member of a chain: what the call leaves of the chain, and of the links that it had taken out.
use Rattle.std.proofs.Common.{◌≡◌, ◌≢◌, ◌⊎◌, ℕ, ◌+◌, ◌*◌, ◌<◌, List, [], ◌∷◌, length, refl, ap, sym, subst, ◌∙◌, arith, inl, inr}
use Rattle.std.specs.Prelude.{All, Option, None, Some, Result, Ok, Err, IfErr, IfNone, IfOk, IfSome, slice_get, slice_set}
use Rattle.std.specs.Option.{unwrap_or}
use Rattle.std.proofs.lemmas.List.Elements.{All-set, All-tail}
use Rattle.flush_barrier.specs.Reply.{GivenReply}
use Rattle.local_store.specs.About.{About}
use Rattle.volume.specs.declared.geometry.Geometry.{Geometry}
use Rattle.chain_steps.specs.Place.{is_member}
use Rattle.chain_steps.specs.declared.message.Envelope.{Envelope}
use Rattle.chain_core.specs.Node.{IsInside, Seen, size_of}
use Rattle.chain_core.specs.Refusal.{number_of}
use Rattle.chain_core.specs.declared.refusal.Refusal.{Refusal}
use Rattle.world_model.specs.Chain.{ArePutOut}
use Rattle.world_model.specs.Event.{ClientEvent}
use Rattle.chain_model.specs.View.{View}
use Rattle.chain.specs.Chain.{Chained, Goes, IsFormed, IsIn, Shows, bytes_of}
use Rattle.chain.specs.Links.{AreInside, link_at}
use Rattle.chain.specs.Member.{Linked}
use Rattle.chain.specs.Passing.{HasNone, IsRefused, MessageComes, PassesTo, Refuses, SubmitComes, replies_in, target_of}
use Rattle.chain.proofs.Linkages.{at_place, both_back, four, one_back, second_was, set_again, set_long}
use Rattle.chain.proofs.MessageSteps.{message_comes, submit_comes}
use Rattle.chain.proofs.PassingSteps.{delivered_one}
use Rattle.chain.proofs.Stepping.{formed_then, in_at, rests, same_then}

-- whom the member tells: somebody, or nobody
pub target_is : (there : Option ℕ) (to slot : ℕ) → to ≡ unwrap_or there slot → (there ≡ Some to) ⊎ (there ≡ None)
target_is None to slot is = inr refl
target_is (Some other) to slot is = inl (ap Some (sym is))

-- ---- what the call of the one member says

pub record HasPassedSo {S V : Type 0} (replies : V → List GivenReply) (size from : ℕ) (old new : Seen S) (link left to then : List Envelope) (result : Result (Option V) Refusal) : Type 0 where
  pub none : IfOk result (λ taken. IfNone taken ((link ≡ []) × ((new ≡ old) × ((left ≡ link) × (then ≡ to)))))
  pub some : IfOk result (λ taken. IfSome taken (λ given. PassesTo from old new link left to then (replies given)))
  pub refused : IfErr result (λ r. IsRefused from old.state link (number_of r) × ((new ≡ old) × ((left ≡ link) × (then ≡ to))))
  pub inside : All (λ (e : Envelope). IsInside size e.message) to → All (λ (e : Envelope). IsInside size e.message) then

-- what it leaves: the member is of its board, with its store, and what was inside is inside
record Leaves {S : Type 0} (size : ℕ) (old new : Seen S) (link left : List Envelope) : Type 0 where
  store : new.store ≡ old.store
  board : new.state.board ≡ old.state.board
  place : new.state.place ≡ old.state.place
  inside : All (λ (e : Envelope). IsInside size e.message) link → All (λ (e : Envelope). IsInside size e.message) left

module _ {S V : Type 0} (replies : V → List GivenReply) (size from : ℕ) (old new : Seen S) (link left to then : List Envelope) where
  leaves_same : new ≡ old → left ≡ link → Leaves size old new link left
  leaves_same same stays = record { store = ap (λ (n : Seen S). n.store) same; board = ap (λ (n : Seen S). n.state.board) same; place = ap (λ (n : Seen S). n.state.place) same; inside = λ all. subst (All (λ (e : Envelope). IsInside size e.message)) (sym stays) all }

  leaves : (result : Result (Option V) Refusal) → HasPassedSo replies size from old new link left to then result → Leaves size old new link left
  leaves (Ok None) did = leaves_same did.none.1.0 did.none.1.1.0
  leaves (Ok (Some given)) did = elim did.some.did [
    | inl is ↦ record {
      store = ap (λ (n : Seen S). n.store) is.are;
      board = ap (λ (n : Seen S). n.state.board) is.are ∙ (delivered_one from is.envelope old.state is.stepped is.taken).board;
      place = ap (λ (n : Seen S). n.state.place) is.are ∙ (delivered_one from is.envelope old.state is.stepped is.taken).place;
      inside = λ all. All-tail (λ (e : Envelope). IsInside size e.message) is.envelope left (subst (All (λ (e : Envelope). IsInside size e.message)) is.first all);
    }
    | inr is ↦ record {
      store = ap (λ (n : Seen S). n.store) is.are;
      board = ap (λ (n : Seen S). n.state.board) is.are;
      place = ap (λ (n : Seen S). n.state.place) is.are;
      inside = λ all. subst (All (λ (e : Envelope). IsInside size e.message)) (sym is.stays) all;
    }
  ]
  leaves (Err r) did = leaves_same did.refused.1.0 did.refused.1.1.0

-- all that is on a link is inside
pub inside_at : (size : ℕ) (links : List (List Envelope)) (from to : ℕ) → length links ≡ 64 → from < 8 → to < 8 → AreInside size links → All (λ (e : Envelope). IsInside size e.message) (link_at links from to)
inside_at size links from to long from_lt to_lt all =
    subst (All (λ (e : Envelope). IsInside size e.message)) (sym (at_place links from to to_lt)) (all (8 * from + to) [] (omega (arith, long)))

-- ---- what becomes of the chain

-- what comes out of the call of the chain
pub record Came {S V : Type 0} (replies : V → List GivenReply) (links_of : Chained S → List (List Envelope)) (Comes : List GivenReply → Type 0) (from at : ℕ) (old new : Chained S) (result : Result (Option V) Refusal) : Type 0 where
  pub none : IfOk result (λ taken. IfNone taken (HasNone links_of from at old new))
  pub comes : IfOk result (λ taken. IfSome taken (λ given. Comes (replies given)))
  pub refused : IfErr result (Refuses links_of from at old new)

module _ {S V : Type 0} (replies : V → List GivenReply) (links_of : Chained S → List (List Envelope)) (Comes : List GivenReply → Type 0) (from at : ℕ) (old new : Chained S) where
  -- and clients see the replies
  pub came_goes : (about : S → About) (keeps : S → List ℕ → Type 0) (may_leave_now : S → List ℕ → Type 0) (v : View) (events : List ClientEvent) → Shows about keeps may_leave_now old v
      → ((given : List GivenReply) → Comes given → ArePutOut given events → (w : View) × Shows about keeps may_leave_now new w × Goes (bytes_of old) v w events)
      → (result : Result (Option V) Refusal) → Came replies links_of Comes from at old new result → ArePutOut (replies_in replies result) events
      → (w : View) × Shows about keeps may_leave_now new w × Goes (bytes_of old) v w events
  came_goes about keeps may_leave_now v events shows goes (Ok None) came put_out = rests about keeps may_leave_now old new v events came.none.same shows put_out
  came_goes about keeps may_leave_now v events shows goes (Ok (Some given)) came put_out = goes (replies given) came.comes put_out
  came_goes about keeps may_leave_now v events shows goes (Err r) came put_out = rests about keeps may_leave_now old new v events came.refused.same shows put_out

module _ {S V : Type 0} (replies : V → List GivenReply) (old : Chained S) (from at to : ℕ) (before : Linked S) (here : slice_get old.members at ≡ Some before) (from_lt : from < 8) (slot_lt : before.node.state.place.slot < 8) (to_lt : to < 8)
    (node : Seen S) (first : Envelope) (rest left then : List Envelope) (target : (target_of before.node.state first.message ≡ Some to) ⊎ (target_of before.node.state first.message ≡ None)) where
  member_still : node ≡ before.node → slice_set old.members at (record before { node = node }) ≡ old.members
  member_still same = ap (λ (c : Chained S). c.members) (same_then old at before (record before { node = node }) here (ap (λ (n : Seen S). record before { node = n }) same))

  is_in_still : (about : S → About) (size : ℕ) (link : List Envelope) → Leaves size before.node node link left → IsIn about old.id old.seat old.geometry before → IsIn about old.id old.seat old.geometry (record before { node = node })
  is_in_still about size link stays is = record { board = stays.board ∙ is.board; member = ap is_member stays.place ∙ is.member; sizes = ap (λ s. (about s).geometry) stays.store ∙ is.sizes; front = is.front; muster = is.muster }

  -- by a chain link
  module _ (apart : from ≢ before.node.state.place.slot) (long : length old.links ≡ 64) (was : link_at old.links from before.node.state.place.slot ≡ first ∷ rest) where
    abbrev after : Chained S
    after = record old {
      members = slice_set old.members at (record before { node = node });
      links = slice_set (slice_set old.links (8 * from + before.node.state.place.slot) left) (8 * before.node.state.place.slot + to) then;
    }

    after_still : node ≡ before.node → left ≡ link_at old.links from before.node.state.place.slot → then ≡ link_at old.links before.node.state.place.slot to → after ≡ old
    after_still same stays still =
        ap (λ ms. record after { members = ms }) (member_still same)
        ∙ ap (λ l. record old { links = l }) (both_back old.links from before.node.state.place.slot to from_lt slot_lt to_lt apart left then stays still)

    pub message_came : (size : ℕ) (result : Result (Option V) Refusal)
        → HasPassedSo replies size from before.node node (link_at old.links from before.node.state.place.slot) left (link_at old.links before.node.state.place.slot to) then result
        → Came replies (λ c. c.links) (MessageComes from at old after) from at old after result
    message_came size (Ok None) did = record {
      none = record { member = before; here = here; empty = did.none.0; same = after_still did.none.1.0 did.none.1.1.0 did.none.1.1.1 };
      comes = record {};
      refused = record {};
    }
    message_came size (Ok (Some given)) did = record {
      none = record {};
      comes = message_comes old at before here from to from_lt slot_lt to_lt node first rest left then (replies given) target apart long was did.some;
      refused = record {};
    }
    message_came size (Err r) did = record {
      none = record {};
      comes = record {};
      refused = record { member = before; here = here; refused = did.refused.0; same = after_still did.refused.1.0 did.refused.1.1.0 did.refused.1.1.1 };
    }

    pub message_formed : (about : S → About) (result : Result (Option V) Refusal)
        → HasPassedSo replies (bytes_of old) from before.node node (link_at old.links from before.node.state.place.slot) left (link_at old.links before.node.state.place.slot to) then result
        → IsFormed about old → IsFormed about after
    message_formed about result did formed =
        let stays = leaves replies (bytes_of old) from before.node node (link_at old.links from before.node.state.place.slot) left (link_at old.links before.node.state.place.slot to) then result did in
        let formed_so = formed_then old at before (record before { node = node }) here about (is_in_still about (bytes_of old) (link_at old.links from before.node.state.place.slot) stays) formed in
        record {
          members = formed_so.members;
          all_submits = formed.all_submits;
          submits_inside = formed.submits_inside;
          all_links = set_long (slice_set old.links (8 * from + before.node.state.place.slot) left) (8 * before.node.state.place.slot + to) then ∙ set_long old.links (8 * from + before.node.state.place.slot) left ∙ long;
          links_inside =
              All-set (All (λ (e : Envelope). IsInside (bytes_of old) e.message)) (slice_set old.links (8 * from + before.node.state.place.slot) left) (8 * before.node.state.place.slot + to) then
              (did.inside (inside_at (bytes_of old) old.links before.node.state.place.slot to long slot_lt to_lt formed.links_inside))
              (All-set (All (λ (e : Envelope). IsInside (bytes_of old) e.message)) old.links (8 * from + before.node.state.place.slot) left
              (stays.inside (inside_at (bytes_of old) old.links from before.node.state.place.slot long from_lt slot_lt formed.links_inside)) formed.links_inside);
        }

  -- by a submit link
  module _ (long_links : length old.links ≡ 64) (long : length old.submits ≡ 64) (was : link_at old.submits from before.node.state.place.slot ≡ first ∷ rest) where
    abbrev given_number : Chained S
    given_number = record old {
      members = slice_set old.members at (record before { node = node });
      links = slice_set old.links (8 * before.node.state.place.slot + to) then;
      submits = slice_set old.submits (8 * from + before.node.state.place.slot) left;
    }

    number_still : node ≡ before.node → left ≡ link_at old.submits from before.node.state.place.slot → then ≡ link_at old.links before.node.state.place.slot to → given_number ≡ old
    number_still same stays still =
        ap (λ ms. record given_number { members = ms }) (member_still same)
        ∙ ap (λ l. record given_number { members = old.members; links = l }) (one_back old.links before.node.state.place.slot to then slot_lt to_lt still)
        ∙ ap (λ l. record old { submits = l }) (one_back old.submits from before.node.state.place.slot left from_lt slot_lt stays)

    pub number_came : (size : ℕ) (result : Result (Option V) Refusal)
        → HasPassedSo replies size from before.node node (link_at old.submits from before.node.state.place.slot) left (link_at old.links before.node.state.place.slot to) then result
        → Came replies (λ c. c.submits) (SubmitComes from at old given_number) from at old given_number result
    number_came size (Ok None) did = record {
      none = record { member = before; here = here; empty = did.none.0; same = number_still did.none.1.0 did.none.1.1.0 did.none.1.1.1 };
      comes = record {};
      refused = record {};
    }
    number_came size (Ok (Some given)) did = record {
      none = record {};
      comes = submit_comes old at before here from to from_lt slot_lt to_lt node first rest left then (replies given) target long_links long was did.some;
      refused = record {};
    }
    number_came size (Err r) did = record {
      none = record {};
      comes = record {};
      refused = record { member = before; here = here; refused = did.refused.0; same = number_still did.refused.1.0 did.refused.1.1.0 did.refused.1.1.1 };
    }

    pub number_formed : (about : S → About) (result : Result (Option V) Refusal)
        → HasPassedSo replies (bytes_of old) from before.node node (link_at old.submits from before.node.state.place.slot) left (link_at old.links before.node.state.place.slot to) then result
        → IsFormed about old → IsFormed about given_number
    number_formed about result did formed =
        let stays = leaves replies (bytes_of old) from before.node node (link_at old.submits from before.node.state.place.slot) left (link_at old.links before.node.state.place.slot to) then result did in
        let formed_so = formed_then old at before (record before { node = node }) here about (is_in_still about (bytes_of old) (link_at old.submits from before.node.state.place.slot) stays) formed in
        record {
          members = formed_so.members;
          all_links = set_long old.links (8 * before.node.state.place.slot + to) then ∙ long_links;
          all_submits = set_long old.submits (8 * from + before.node.state.place.slot) left ∙ long;
          links_inside =
              All-set (All (λ (e : Envelope). IsInside (bytes_of old) e.message)) old.links (8 * before.node.state.place.slot + to) then
              (did.inside (inside_at (bytes_of old) old.links before.node.state.place.slot to long_links slot_lt to_lt formed.links_inside)) formed.links_inside;
          submits_inside =
              All-set (All (λ (e : Envelope). IsInside (bytes_of old) e.message)) old.submits (8 * from + before.node.state.place.slot) left
              (stays.inside (inside_at (bytes_of old) old.submits from before.node.state.place.slot long from_lt slot_lt formed.submits_inside)) formed.submits_inside;
        }

-- ---- what the call of the chain does with the links

-- the links that it takes out of the chain to number a write, and puts back
pub record Numbering {S : Type 0} (old : Chained S) (before : Linked S) (from to : ℕ) (first : Envelope) (x y queue sent left then : List Envelope) (submits new_submits links new_links : List (List Envelope)) (slot : ℕ) : Type 0 where
  pub first_is : (rest : List Envelope) × (link_at old.submits from slot ≡ first ∷ rest)
  pub to_is : to ≡ unwrap_or (target_of before.node.state first.message) slot
  pub from_lt : from < 8
  pub slot_lt : slot < 8
  pub to_lt : to < 8
  pub lent : submits ≡ slice_set old.submits (8 * from + slot) x
  pub queue_is : queue ≡ link_at old.submits from slot
  pub lent_too : links ≡ slice_set old.links (8 * slot + to) y
  pub sent_is : sent ≡ link_at old.links slot to
  pub back : new_links ≡ slice_set links (8 * slot + to) then
  pub back_too : new_submits ≡ slice_set submits (8 * from + slot) left

-- and to take a message
pub record Taking {S : Type 0} (old : Chained S) (before : Linked S) (from to : ℕ) (first : Envelope) (x y queue sent left then : List Envelope) (one two three four : List (List Envelope)) (slot : ℕ) : Type 0 where
  pub apart : from ≢ slot
  pub first_is : (rest : List Envelope) × (link_at old.links from slot ≡ first ∷ rest)
  pub to_is : to ≡ unwrap_or (target_of before.node.state first.message) slot
  pub from_lt : from < 8
  pub slot_lt : slot < 8
  pub to_lt : to < 8
  pub lent : one ≡ slice_set old.links (8 * from + slot) x
  pub queue_is : queue ≡ link_at old.links from slot
  pub lent_too : two ≡ slice_set one (8 * slot + to) y
  pub sent_is : sent ≡ link_at one slot to
  pub back : three ≡ slice_set two (8 * slot + to) then
  pub back_too : four ≡ slice_set three (8 * from + slot) left

-- what the call leaves
pub record Left {S V : Type 0} (replies : V → List GivenReply) (about : S → About) (links_of : Chained S → List (List Envelope)) (Comes : ℕ → ℕ → Chained S → Chained S → List GivenReply → Type 0) (from at : ℕ) (old new : Chained S)
    (result : Result (Option V) Refusal) : Type 0 where
  pub came : Came replies links_of (Comes from at old new) from at old new result
  pub formed : IsFormed about new

-- what it says of the links is of these
passed_so : {S V : Type 0} (replies : V → List GivenReply) (size bytes from : ℕ) (old new : Seen S) (link there left to then_to then : List Envelope) (result : Result (Option V) Refusal) → size ≡ bytes → link ≡ there → to ≡ then_to
    → HasPassedSo replies size from old new link left to then result → HasPassedSo replies bytes from old new there left then_to then result
passed_so replies size bytes from old new link there left to then_to then result sizes here behind did =
    subst (λ l. HasPassedSo replies bytes from old new there left l then result) behind
    (subst (λ l. HasPassedSo replies bytes from old new l left to then result) here (subst (λ n. HasPassedSo replies n from old new link left to then result) sizes did))

-- the sizes of a member's store are the chain's
pub sizes_are : {S : Type 0} (about : S → About) (old : Chained S) (at : ℕ) (before : Linked S) → slice_get old.members at ≡ Some before → IsFormed about old → size_of (about before.node.store) ≡ bytes_of old
sizes_are about old at before here formed = ap (λ (sizes : Geometry). 4096 * sizes.blocks) (in_at about old at before here formed).sizes

module _ {S V : Type 0} (replies : V → List GivenReply) (about : S → About) (old : Chained S) (from at to : ℕ) (before : Linked S) (here : slice_get old.members at ≡ Some before) (node : Seen S) (first : Envelope)
    (x y queue sent left then : List Envelope) (result : Result (Option V) Refusal) (formed : IsFormed about old) (did : HasPassedSo replies (size_of (about before.node.store)) from before.node node queue left sent then result) where
  pub number_left : (submits new_submits links new_links : List (List Envelope)) (slot : ℕ) → slot ≡ before.node.state.place.slot → Numbering old before from to first x y queue sent left then submits new_submits links new_links slot
      → Left replies about (λ c. c.submits) SubmitComes from at old (record old { members = slice_set old.members at (record before { node = node }); links = new_links; submits = new_submits }) result
  number_left submits new_submits links new_links slot slot_is has = subst (λ n. Numbering old before from to first x y queue sent left then submits new_submits links new_links n
      → Left replies about (λ c. c.submits) SubmitComes from at old (record old { members = slice_set old.members at (record before { node = node }); links = new_links; submits = new_submits }) result) (sym slot_is)
      (λ is.
      let own = before.node.state.place.slot in
      let target = target_is (target_of before.node.state first.message) to own is.to_is in
      let did_so = passed_so replies (size_of (about before.node.store)) (bytes_of old) from before.node node queue (link_at old.submits from own) left sent (link_at old.links own to) then result (sizes_are about old at before here formed) is.queue_is is.sent_is did in
      let links_are : new_links ≡ slice_set old.links (8 * own + to) then = is.back ∙ ap (λ l. slice_set l (8 * own + to) then) is.lent_too ∙ set_again old.links (8 * own + to) y then in
      let submits_are : new_submits ≡ slice_set old.submits (8 * from + own) left = is.back_too ∙ ap (λ l. slice_set l (8 * from + own) left) is.lent ∙ set_again old.submits (8 * from + own) x left in
      subst (λ l. Left replies about (λ c. c.submits) SubmitComes from at old (record old { members = slice_set old.members at (record before { node = node }); links = l; submits = new_submits }) result) (sym links_are)
      (subst (λ l. Left replies about (λ c. c.submits) SubmitComes from at old (record old { members = slice_set old.members at (record before { node = node }); links = slice_set old.links (8 * own + to) then; submits = l }) result) (sym submits_are)
      (record {
        came = number_came replies old from at to before here is.from_lt is.slot_lt is.to_lt node first is.first_is.0 left then target formed.all_links formed.all_submits is.first_is.1 (bytes_of old) result did_so;
        formed = number_formed replies old from at to before here is.from_lt is.slot_lt is.to_lt node first is.first_is.0 left then target formed.all_links formed.all_submits is.first_is.1 about result did_so formed;
      }))
      ) has

  pub message_left : (one two three four_links : List (List Envelope)) (slot : ℕ) → slot ≡ before.node.state.place.slot → Taking old before from to first x y queue sent left then one two three four_links slot
      → Left replies about (λ c. c.links) MessageComes from at old (record old { members = slice_set old.members at (record before { node = node }); links = four_links }) result
  message_left one two three four_links slot slot_is has = subst (λ n. Taking old before from to first x y queue sent left then one two three four_links n
      → Left replies about (λ c. c.links) MessageComes from at old (record old { members = slice_set old.members at (record before { node = node }); links = four_links }) result) (sym slot_is)
      (λ is.
      let own = before.node.state.place.slot in
      let target = target_is (target_of before.node.state first.message) to own is.to_is in
      let sent_so : sent ≡ link_at old.links own to = is.sent_is ∙ ap (λ l. link_at l own to) is.lent ∙ second_was old.links from own to is.from_lt is.slot_lt is.to_lt is.apart x in
      let did_so = passed_so replies (size_of (about before.node.store)) (bytes_of old) from before.node node queue (link_at old.links from own) left sent (link_at old.links own to) then result (sizes_are about old at before here formed) is.queue_is sent_so did in
      let links_are : four_links ≡ slice_set (slice_set old.links (8 * from + own) left) (8 * own + to) then =
      is.back_too ∙ ap (λ l. slice_set l (8 * from + own) left) (is.back ∙ ap (λ l. slice_set l (8 * own + to) then) (is.lent_too ∙ ap (λ l. slice_set l (8 * own + to) y) is.lent))
      ∙ four old.links from own to is.from_lt is.slot_lt is.to_lt is.apart x y then left in
      subst (λ l. Left replies about (λ c. c.links) MessageComes from at old (record old { members = slice_set old.members at (record before { node = node }); links = l }) result) (sym links_are)
      (record {
        came = message_came replies old from at to before here is.from_lt is.slot_lt is.to_lt node first is.first_is.0 left then target is.apart formed.all_links is.first_is.1 (bytes_of old) result did_so;
        formed = message_formed replies old from at to before here is.from_lt is.slot_lt is.to_lt node first is.first_is.0 left then target is.apart formed.all_links is.first_is.1 about result did_so formed;
      })
      ) has

-- no message came, or the link is its own
pub or_itself : {V E : Type 0} (P Q : Type 0) (result : Result (Option V) E) → IfOk result (λ taken. IfNone taken P) → IfOk result (λ taken. IfNone taken (P ⊎ Q))
or_itself P Q (Ok None) none = inl none
or_itself P Q (Ok (Some given)) none = record {}
or_itself P Q (Err r) none = record {}
