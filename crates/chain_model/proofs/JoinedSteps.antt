-- A joiner is recorded: what a chain stands for stays. Lemmas.
use Rattle.std.proofs.Common.{if◌then◌else◌, ◌≡◌, ◌≢◌, inl, inr, ℕ, zero, suc, ◌==◌, ◌≤◌, min, Bool, true, false, is_some, Option, None, Some, List, [], ◌∷◌, ◌++◌, get_or, map, option_map, refl, sym, ◌∙◌, ap, subst, arith}
use Rattle.std.specs.Prelude.{All, AllPairs, take}
use Rattle.std.specs.List.{Contains, flat_map}
use Rattle.std.proofs.lemmas.Bool.{cases_Bool, cases_eq, cond-false, cond-true, eq-eqb, ne_eqb}
use Rattle.std.proofs.lemmas.List.{append-nil, append_assoc, map-append}
use Rattle.std.proofs.lemmas.List.Concat.{flat_map-append}
use Rattle.std.proofs.lemmas.List.Elements.{All-append, All-cons, All-contains, All-head, All-nil, All-tail, All-weaker, Contains-append_left}
use Rattle.board.specs.Mask.{counts}
use Rattle.configurations.specs.Record.{Record}
use Rattle.configurations.specs.declared.member.Member as entries
use Rattle.gate_journal.specs.Receipt.{Receipt}
use Rattle.version_table.specs.Held.{Held as Table}
use Rattle.version_table.specs.declared.kept.Kept.{Kept}
use Rattle.version_table.specs.declared.kept.Origin.{Origin}
use Rattle.volume.specs.Writes.{volume_of}
use Rattle.chain_steps.specs.Node.{NodeState, epoch_of, last_of}
use Rattle.chain_steps.specs.Place.{Standing, head_of, incarnation_in, is_it, is_tail, member_at, predecessor_of, successor_of}
use Rattle.chain_steps.specs.declared.cause.Cause.{Cause}
use Rattle.chain_steps.specs.declared.message.Envelope.{Envelope}
use Rattle.chain_steps.specs.declared.message.Message.{Message}
use Rattle.chain_steps.specs.declared.message.Message.TheVariants as messages
use Rattle.chain_steps.specs.declared.waiting.Waiting.{Waiting}
use Rattle.world_model.specs.Backing.{Disk, IsBacked, IsOnDisk, Muster}
use Rattle.world_model.specs.Chain.{AreBefore, IsBefore, IsTokenBefore, looked_by, owing_at, raised_by}
use Rattle.world_model.proofs.Counting.{contains_there}
use Rattle.world_model.specs.Machine.{State}
use Rattle.world_model.specs.Order.{volume_after}
use Rattle.world_model.specs.Requests.{Held, Looked, Owing, Requests, Submitted}
use Rattle.world_model.specs.Requests as requests
use Rattle.world_model.proofs.TokenSteps.{first_writes_are}
use Rattle.chain_model.specs.Chain.{ArePlaced, BelongsToHead, HasApplied, HasVolume, IsApplied, IsAtRest, IsDated, IsForHead, IsIfThere, IsJoining, IsTold, IsWithin, StandsWith}
use Rattle.chain_model.specs.Holding.{TailRests, with_joiner}
use Rattle.chain_model.proofs.HoldingSteps.{join_stands}
use Rattle.chain_model.proofs.Incarnations.{incarnation_further, incarnation_here, later_dated, of_any_epoch, same_without, slots, with_entries}
use Rattle.chain_model.proofs.InOrder.{InOrder, alike_in_order}
use Rattle.chain_model.specs.Laws.{IsNewcomer, IsWith, joined_as}
use Rattle.chain_model.specs.Links.{AllTold, IsFresh, Joins, Net, Node, hops_from, hops_of}
use Rattle.chain_model.proofs.LinkSteps.{join_shows}
use Rattle.chain_model.proofs.NetSteps.{StandsAt, node_here, stands_at}
use Rattle.chain_model.specs.Placed.{Apart, Close}
use Rattle.chain_model.proofs.PlacedSteps.{records_are_close}
use Rattle.chain_model.proofs.PlaceSteps.{head_first, place_further, place_of, tail_is}
use Rattle.chain_model.proofs.RecordSteps.{all_told, fewer_disks, backs_fewer, hops_told, linked_then, none_later, told_then}
use Rattle.chain_model.proofs.SubmitSteps.{fewer_recorded, recorded_submits}
use Rattle.chain_model.specs.TurningLaws.{Alike}
use Rattle.chain_model.specs.TurningSteps as turning
use Rattle.chain_model.specs.View.{Joiner, Member, View, chain_of, disk_in, disk_of, disks_of, incarnation_at, is_in, looked_of, may_be_recorded, net_of, next_of, node_at, node_of, raised_of, requests_of, slot_of, slots_of, submitted_among, submitted_from, submitted_in, submitted_on, tokens_of}

-- ---- one more in a list

-- what holds of all and of one more
all_and : {A : Type 0} (P : A → Type 0) (xs : List A) (x : A) → All P xs → P x → All P (xs ++ x ∷ [])
all_and P xs x all one = All-append P xs (x ∷ []) all (All-cons P x [] one (All-nil P))

apart_more : (xs : List ℕ) (x : ℕ) → Apart xs → All (λ y. y ≢ x) xs → Apart (xs ++ x ∷ [])
apart_more [] x apart others = (All-nil (λ y. y ≢ x), tt)
apart_more (y ∷ ys) x (apart, rest) others =
    (all_and (λ z. z ≢ y) ys x apart (λ same. All-head (λ z. z ≢ x) y ys others (sym same)), apart_more ys x rest (All-tail (λ z. z ≢ x) y ys others))

-- a list in which it isn't has no place for it
nowhere : (ms : List entries.Member) (s : ℕ) → All (λ x. x ≢ s) (slots ms) → place_of ms s ≡ None
nowhere [] s others = refl
nowhere (x ∷ xs) s others = place_further x xs s (All-head (λ y. y ≢ s) x.slot (slots xs) others) ∙ ap (option_map suc) (nowhere xs s (All-tail (λ y. y ≢ s) x.slot (slots xs) others))

-- the incarnation of one more, which no other has the slot of
pub incarnation_last : (e : ℕ) (ms : List entries.Member) (x : entries.Member) → All (λ y. y ≢ x.slot) (slots ms) → incarnation_in (with_entries e (ms ++ x ∷ [])) x.slot ≡ Some x.incarnation
incarnation_last e [] x others = incarnation_here e x [] x.slot refl
incarnation_last e (y ∷ ys) x others =
    incarnation_further e y (ys ++ x ∷ []) x.slot (All-head (λ z. z ≢ x.slot) y.slot (slots ys) others) ∙ incarnation_last e ys x (All-tail (λ z. z ≢ x.slot) y.slot (slots ys) others)

-- the head stays, behind which there is one more
first_with : (e f : ℕ) (above : List entries.Member) (tail x : entries.Member) (s : ℕ) → head_of (with_entries e (above ++ tail ∷ [])) ≡ Some s → head_of (with_entries f (above ++ tail ∷ x ∷ [])) ≡ Some s
first_with e f [] tail x s is = is
first_with e f (y ∷ above) tail x s is = is

-- who stands at another slot does so with one more member
node_further : (ms : List Member) (m : Member) (s : ℕ) → s ≢ slot_of m → node_at (ms ++ m ∷ []) s ≡ node_at ms s
node_further [] m s other = cond-false (m.node.place.slot == s) (node_of m.node) (node_at [] s) (ne_eqb m.node.place.slot s (λ same. other (sym same)))
node_further (x ∷ xs) m s other = elim (cases_eq x.node.place.slot s) [
  | inl here ↦
      cond-true (x.node.place.slot == s) (node_of x.node) (node_at (xs ++ m ∷ []) s) (eq-eqb x.node.place.slot s here) ∙ sym (cond-true (x.node.place.slot == s) (node_of x.node) (node_at xs s) (eq-eqb x.node.place.slot s here))
  | inr further ↦
      cond-false (x.node.place.slot == s) (node_of x.node) (node_at (xs ++ m ∷ []) s) (ne_eqb x.node.place.slot s further) ∙ node_further xs m s other
      ∙ sym (cond-false (x.node.place.slot == s) (node_of x.node) (node_at xs s) (ne_eqb x.node.place.slot s further))
]

-- slots of their own, said in two ways
pub pairs_apart : (ys : List ℕ) → AllPairs (λ slot other. slot ≢ other) ys → Apart ys
pairs_apart [] all = tt
pairs_apart (y ∷ ys) all = (λ i d lt same. all 0 (suc i) d (omega arith) (omega (arith, lt)) (sym same), pairs_apart ys (λ i j d one two. all (suc i) (suc j) d (omega (arith, one)) (omega (arith, two))))

pub apart_pairs : (ys : List ℕ) → Apart ys → AllPairs (λ slot other. slot ≢ other) ys
apart_pairs [] apart i j d one two = absurd (omega (arith, two))
apart_pairs (y ∷ ys) (others, apart) zero zero d one two = absurd (omega (arith, one))
apart_pairs (y ∷ ys) (others, apart) zero (suc j) d one two = λ same. others j d (omega (arith, two)) (sym same)
apart_pairs (y ∷ ys) (others, apart) (suc i) zero d one two = absurd (omega (arith, one))
apart_pairs (y ∷ ys) (others, apart) (suc i) (suc j) d one two = apart_pairs ys apart i j d (omega (arith, one)) (omega (arith, two))

-- and one more
pairs_more : (xs : List ℕ) (x : ℕ) → AllPairs (λ slot other. slot ≢ other) xs → All (λ y. y ≢ x) xs → AllPairs (λ slot other. slot ≢ other) (xs ++ x ∷ [])
pairs_more xs x pairs others = apart_pairs (xs ++ x ∷ []) (apart_more xs x (pairs_apart xs pairs) others)

-- ---- disks

-- what holds of a member's disk holds of it where it may be recorded
disk_alone : (P : Disk → Type 0) (recorded : Record) (writing : Option Record) (m : Member) → P (disk_of m) → All P (disks_of recorded writing (m ∷ []))
disk_alone P recorded writing m holds = elim (cases_Bool (may_be_recorded recorded writing m.node)) [
  | inl may ↦ subst (λ (ds : List Disk). All P (ds ++ [])) (sym (cond-true (may_be_recorded recorded writing m.node) (disk_of m ∷ []) [] may)) (All-cons P (disk_of m) [] holds (All-nil P))
  | inr may_not ↦ subst (λ (ds : List Disk). All P (ds ++ [])) (sym (cond-false (may_be_recorded recorded writing m.node) (disk_of m ∷ []) [] may_not)) (All-nil P)
]

-- what the board tells is so of another disk that it counts and that has all that is committed
backs_more_disks : (committed mask : ℕ) (gauges receipts : List Receipt) (musters : List Muster) (ds es : List Disk) (d : Disk) → ((P : Disk → Type 0) → P d → All P es) → counts mask d.slot ≡ true → committed ≤ d.durable
    → IsWithin committed gauges receipts musters → IsBacked committed mask gauges receipts musters ds → IsBacked committed mask gauges receipts musters (ds ++ es)
backs_more_disks committed mask gauges receipts musters ds es d each counted has within is = record {
  mask_covers = All-append (λ x. counts mask x.slot ≡ true) ds es is.mask_covers (each (λ x. counts mask x.slot ≡ true) counted);
  gauges_backed = both gauges is.gauges_backed within.gauges_within;
  receipts_backed = both receipts is.receipts_backed within.receipts_within;
  mustered = λ i m lt.
      let was = is.mustered i m lt in
      let u : Muster = get_or musters i m in
      record {
        front = was.front;
        gauges = both u.gauges was.gauges (within.musters_within i m lt);
        uncounted = All-append (λ x. counts u.mask x.slot ≡ false → u.front ≤ x.durable) ds es was.uncounted (each (λ x. counts u.mask x.slot ≡ false → u.front ≤ x.durable) (λ none. omega (arith, was.front, has)));
      };
}
  where
    both : (rs : List Receipt) → All (IsOnDisk ds) rs → All (λ r. r.front ≤ committed) rs → All (IsOnDisk (ds ++ es)) rs
    both rs on low i r lt =
        let front : ℕ = (get_or rs i r).front in
        let slot : ℕ = (get_or rs i r).slot in
        let small : front ≤ committed = low i r lt in
        All-append (λ x. x.slot ≡ slot → front ≤ x.durable) ds es (on i r lt) (each (λ x. x.slot ≡ slot → front ≤ x.durable) (λ same. omega (arith, small, has)))

-- ---- what is submitted

module _ (next recorded before : Record) (later : next.epoch ≡ suc recorded.epoch) where
  -- an envelope that doesn't go to the recorded head from one of its chain shows no write then
  none_in : (from to : ℕ) (e : Envelope) → (IsForHead recorded before e.epoch from to → e.epoch ≢ recorded.epoch) → (e.epoch ≤ recorded.epoch) × BelongsToHead recorded before e.epoch from to e.message
      → submitted_in from (incarnation_at next recorded e.epoch from) e.message ≡ []
  none_in from to e never (le, belongs) = by e.message belongs
    where
      none_of : (message : Message) → submitted_in from None message ≡ []
      none_of message = refl

      by : (message : Message) → BelongsToHead recorded before e.epoch from to message → submitted_in from (incarnation_at next recorded e.epoch from) message ≡ []
      by (messages.Put n origin write) belongs = absurd belongs
      by (messages.Ack known) belongs = absurd belongs
      by (messages.Turn applied) belongs = absurd belongs
      by (messages.Submit ticket write) belongs =
          let not_next : e.epoch ≢ next.epoch = λ same. absurd (omega (arith, le, later, same)) in
          let not_now : suc e.epoch ≢ next.epoch = λ same. never belongs (omega (arith, later, same)) in
          ap (λ (o : Option ℕ). submitted_in from o (messages.Submit ticket write))
          (cond-false (e.epoch == next.epoch) (incarnation_in next from) (if suc e.epoch == next.epoch then incarnation_in recorded from else None) (ne_eqb e.epoch next.epoch not_next)
          ∙ cond-false (suc e.epoch == next.epoch) (incarnation_in recorded from) None (ne_eqb (suc e.epoch) next.epoch not_now))

  none_on : (from to : ℕ) (link : List Envelope) → ((epoch : ℕ) → IsForHead recorded before epoch from to → epoch ≢ recorded.epoch) → All (λ e. (e.epoch ≤ recorded.epoch) × BelongsToHead recorded before e.epoch from to e.message) link
      → submitted_on next recorded from link ≡ []
  none_on from to [] never all = refl
  none_on from to (e ∷ es) never all =
      let P = λ (x : Envelope). (x.epoch ≤ recorded.epoch) × BelongsToHead recorded before x.epoch from to x.message in
      ap (λ (l : List Submitted). l ++ submitted_on next recorded from es) (none_in from to e (never e.epoch) (All-head P e es all)) ∙ none_on from to es never (All-tail P e es all)

  -- so a slot that isn't in the recorded chain adds none
  module _ (submits : ℕ → ℕ → List Envelope) (slot : ℕ) (out_of : incarnation_in recorded slot ≡ None) (not_head : head_of recorded ≢ Some slot)
      (proper : (from to : ℕ) → All (λ e. (e.epoch ≤ recorded.epoch) × BelongsToHead recorded before e.epoch from to e.message) (submits from to)) where
    none_from : (to : ℕ) → submitted_on next recorded slot (submits slot to) ≡ []
    none_from to = none_on slot to (submits slot to) (λ epoch for_head now. (for_head.now now).0 out_of) (proper slot to)

    none_to : (from : ℕ) → submitted_on next recorded from (submits from slot) ≡ []
    none_to from = none_on from slot (submits from slot) (λ epoch for_head now. not_head (for_head.now now).1) (proper from slot)

    from_one : (tos : List ℕ) (from : ℕ) → submitted_from next recorded submits (tos ++ slot ∷ []) from ≡ submitted_from next recorded submits tos from
    from_one tos from =
        flat_map-append (λ to. submitted_on next recorded from (submits from to)) tos (slot ∷ [])
        ∙ ap (λ (l : List Submitted). submitted_from next recorded submits tos from ++ (l ++ [])) (none_to from) ∙ append-nil (submitted_from next recorded submits tos from)

    from_it : (tos : List ℕ) → submitted_from next recorded submits tos slot ≡ []
    from_it [] = refl
    from_it (to ∷ tos) = ap (λ (l : List Submitted). l ++ submitted_from next recorded submits tos slot) (none_from to) ∙ from_it tos

    from_all : (tos froms : List ℕ) → flat_map (submitted_from next recorded submits (tos ++ slot ∷ [])) froms ≡ flat_map (submitted_from next recorded submits tos) froms
    from_all tos [] = refl
    from_all tos (from ∷ froms) = ap (λ (l : List Submitted). l ++ flat_map (submitted_from next recorded submits (tos ++ slot ∷ [])) froms) (from_one tos from)
        ∙ ap (λ (l : List Submitted). submitted_from next recorded submits tos from ++ l) (from_all tos froms)

    none_more : (among : List ℕ) → submitted_among next recorded submits (among ++ slot ∷ []) ≡ submitted_among next recorded submits among
    none_more among =
        flat_map-append (submitted_from next recorded submits (among ++ slot ∷ [])) among (slot ∷ [])
        ∙ ap (λ (l : List Submitted). flat_map (submitted_from next recorded submits (among ++ slot ∷ [])) among ++ (l ++ [])) (from_it (among ++ slot ∷ []))
        ∙ append-nil (flat_map (submitted_from next recorded submits (among ++ slot ∷ [])) among) ∙ from_all among among

-- a write that is submitted is of the slot that it comes from
of_slot : (slot : ℕ) (o : Option ℕ) (message : Message) → All (λ x. x.origin.slot ≡ slot) (submitted_in slot o message)
of_slot slot None message = All-nil (λ (x : Submitted). x.origin.slot ≡ slot)
of_slot slot (Some i) (messages.Put n origin write) = All-nil (λ (x : Submitted). x.origin.slot ≡ slot)
of_slot slot (Some i) (messages.Ack known) = All-nil (λ (x : Submitted). x.origin.slot ≡ slot)
of_slot slot (Some i) (messages.Turn applied) = All-nil (λ (x : Submitted). x.origin.slot ≡ slot)
of_slot slot (Some i) (messages.Submit ticket write) =
    All-cons (λ (x : Submitted). x.origin.slot ≡ slot) (record { origin = record { slot = slot; incarnation = i; ticket = ticket }; write = write }) [] refl (All-nil (λ (x : Submitted). x.origin.slot ≡ slot))

all_flat : {A B : Type 0} (P : B → Type 0) (f : A → List B) (xs : List A) → All (λ x. All P (f x)) xs → All P (flat_map f xs)
all_flat P f [] all = All-nil P
all_flat P f (x ∷ xs) all = All-append P (f x) (flat_map f xs) (All-head (λ y. All P (f y)) x xs all) (all_flat P f xs (All-tail (λ y. All P (f y)) x xs all))

-- so none is of a slot that isn't among those
none_of_slot : (recorded before : Record) (submits : ℕ → ℕ → List Envelope) (among : List ℕ) (slot : ℕ) → All (λ y. y ≢ slot) among → All (λ x. x.origin.slot ≢ slot) (submitted_among recorded before submits among)
none_of_slot recorded before submits among slot others = all_flat (λ (x : Submitted). x.origin.slot ≢ slot) (submitted_from recorded before submits among) among (λ i d lt.
    let from : ℕ = get_or among i d in
    all_flat (λ (x : Submitted). x.origin.slot ≢ slot) (λ to. submitted_on recorded before from (submits from to)) among (λ j e small.
    all_flat (λ (x : Submitted). x.origin.slot ≢ slot) (λ (e : Envelope). submitted_in from (incarnation_at recorded before e.epoch from) e.message) (submits from (get_or among j e)) (λ k envelope little.
    let it : Envelope = get_or (submits from (get_or among j e)) k envelope in
    All-weaker (λ (x : Submitted). x.origin.slot ≡ from) (λ x. x.origin.slot ≢ slot) (λ x is same. others i d lt (sym is ∙ same)) (submitted_in from (incarnation_at recorded before it.epoch from) it.message)
    (of_slot from (incarnation_at recorded before it.epoch from) it.message))))

-- nor is a token
tokens_elsewhere : (ms : List Member) (slot : ℕ) → All (λ m. slot_of m ≢ slot) ms → All (λ o. o.slot ≢ slot) (flat_map tokens_of ms)
tokens_elsewhere ms slot others = all_flat (λ (o : Owing). o.slot ≢ slot) tokens_of ms (λ i d lt. its (get_or ms i d).node.waiting (get_or ms i d).node (others i d lt))
  where
    its : (ws : List Waiting) (node : NodeState) → node.place.slot ≢ slot → All (λ o. o.slot ≢ slot) (owing_at node ws)
    its [] node other = All-nil (λ (o : Owing). o.slot ≢ slot)
    its (w ∷ ws) node other = All-cons (λ (o : Owing). o.slot ≢ slot) (record { slot = node.place.slot; incarnation = node.incarnation; token = w }) (owing_at node ws) other (its ws node other)

-- ---- the tail rests

-- the last one holds, if it runs
tail_rests : (w : Net) (prev : Option ℕ) (us : List ℕ) (t : ℕ) → ((w.nodes t).stopped ≡ false → (w.nodes t).holds ≡ true) → TailRests (hops_from w prev (us ++ t ∷ []))
tail_rests w prev [] t holds = holds
tail_rests w prev (u ∷ []) t holds = holds
tail_rests w prev (u ∷ x ∷ us) t holds = tail_rests w (Some u) (x ∷ us) t holds

-- ---- the record with the joiner

module _ (size : ℕ) (v : View) (j : Joiner) (next : Record) (follows : IsWith v j next) (s : State) (line : List Kept) (backed : ℕ) (stands : StandsWith size v s line backed) (it : IsJoining size v s j) where
  abbrev us : List ℕ
  us = slots follows.above

  abbrev t : ℕ
  t = follows.tail.slot

  chain_was : chain_of v.recorded ≡ slots follows.above ++ follows.tail.slot ∷ []
  chain_was = ap slots follows.were ∙ map-append (λ (x : entries.Member). x.slot) follows.above (follows.tail ∷ [])

  members_are : next.members ≡ v.recorded.members ++ joined_as j ∷ []
  members_are = follows.are ∙ sym (append_assoc follows.above (follows.tail ∷ []) (joined_as j ∷ [])) ∙ ap (λ (ms : List entries.Member). ms ++ joined_as j ∷ []) (sym follows.were)

  chain_is : chain_of next ≡ chain_of v.recorded ++ j.slot ∷ []
  chain_is = ap slots members_are ∙ map-append (λ (x : entries.Member). x.slot) v.recorded.members (joined_as j ∷ [])

  -- nobody stands at its slot, and it isn't recorded
  slots_apart : All (λ y. y ≢ j.slot) (slots_of v.members)
  slots_apart = go v.members it.apart
    where
      go : (ms : List Member) → All (λ m. slot_of m ≢ j.slot) ms → All (λ y. y ≢ j.slot) (slots_of ms)
      go [] all = All-nil (λ y. y ≢ j.slot)
      go (m ∷ ms) all = All-cons (λ y. y ≢ j.slot) (slot_of m) (slots_of ms) (All-head (λ (x : Member). slot_of x ≢ j.slot) m ms all) (go ms (All-tail (λ (x : Member). slot_of x ≢ j.slot) m ms all))

  chain_apart : All (λ y. y ≢ j.slot) (chain_of v.recorded)
  chain_apart = λ i d lt. All-contains (λ y. y ≢ j.slot) (slots_of v.members) (get_or (chain_of v.recorded) i d) slots_apart (stands.places.stands i d lt)

  no_place : place_of v.recorded.members j.slot ≡ None
  no_place = nowhere v.recorded.members j.slot chain_apart

  no_incarnation : incarnation_in v.recorded j.slot ≡ None
  no_incarnation = ap (λ (o : Option ℕ). option_map (λ (m : entries.Member). m.incarnation) (member_at v.recorded o)) no_place

  its_incarnation : incarnation_in next j.slot ≡ Some j.incarnation
  its_incarnation =
      ap (λ (ms : List entries.Member). incarnation_in (with_entries next.epoch ms) j.slot) members_are ∙ incarnation_last next.epoch v.recorded.members (joined_as j) chain_apart

  -- that of another one is what it was
  incarnation_stays : (s : ℕ) → s ≢ j.slot → incarnation_in next s ≡ incarnation_in v.recorded s
  incarnation_stays s other =
      ap (λ (ms : List entries.Member). incarnation_in (with_entries next.epoch ms) s) members_are
      ∙ sym (same_without next.epoch v.recorded.members (joined_as j) [] s (λ same. other (sym same)))
      ∙ ap (λ (ms : List entries.Member). incarnation_in (with_entries next.epoch ms) s) (append-nil v.recorded.members)
      ∙ of_any_epoch next.epoch v.recorded.epoch v.recorded.members (place_of v.recorded.members s)

  all_now : All (λ m. m.node.stopped ≡ None → epoch_of m.node ≡ v.recorded.epoch) v.members
  all_now = λ i d lt runs. (it.rests i d lt runs).0

  module _ (m : Member) (starts : IsNewcomer v.recorded j m) where
    slot_is : slot_of m ≡ j.slot
    slot_is = starts.slot

    members_apart : All (λ y. y ≢ slot_of m) (slots_of v.members)
    members_apart = subst (λ (k : ℕ). All (λ y. y ≢ k) (slots_of v.members)) (sym starts.slot) slots_apart

    slots_all : slots_of (v.members ++ m ∷ []) ≡ slots_of v.members ++ slot_of m ∷ []
    slots_all = map-append slot_of v.members (m ∷ [])

    slots_then : AllPairs (λ slot other. slot ≢ other) (slots_of (v.members ++ m ∷ []))
    slots_then = subst (AllPairs (λ slot other. slot ≢ other)) (sym slots_all) (pairs_more (slots_of v.members) (slot_of m) stands.slots members_apart)

    -- ---- the order

    abbrev a : Net
    a = net_of v.recorded v.links v.members

    abbrev b : Net
    b = net_of next v.links (v.members ++ m ∷ [])

    abbrev node_by : Standing → Bool → Option Cause → Bool → Table → ℕ → Node
    node_by p turned stopped holds table known =
        record { epoch = p.chain.epoch; turned = turned; above = predecessor_of p; below = successor_of p; stopped = is_some stopped; ends = is_tail p; holds = holds; table = table; known = known }

    fresh_node : node_of m.node ≡ record { epoch = v.recorded.epoch; turned = true; above = None; below = None; stopped = false; ends = false; holds = false; table = record { forgotten = j.front; kept = [] }; known = j.front }
    fresh_node =
        runs m.node.place.slot m.node.place.chain m.node.turned m.node.stopped m.node.holds m.node.table m.node.known starts.slot starts.idle.told starts.idle.turned starts.idle.runs starts.idle.free starts.idle.table starts.idle.known
        ∙ placed (place_of v.recorded.members j.slot) no_place
      where
        runs : (slot : ℕ) (chain : Record) (turned : Bool) (stopped : Option Cause) (holds : Bool) (table : Table) (known : ℕ) → slot ≡ j.slot → chain ≡ v.recorded → turned ≡ true → stopped ≡ None → holds ≡ false
            → table ≡ record { forgotten = j.front; kept = [] } → known ≡ j.front
            → node_by (record { slot = slot; chain = chain }) turned stopped holds table known ≡ node_by (record { slot = j.slot; chain = v.recorded }) true None false (record { forgotten = j.front; kept = [] }) j.front
        runs slot chain turned stopped holds table known one two three four five six seven = rw (one, two, three, four, five, six, seven) refl

        placed : (o : Option ℕ) → o ≡ None
            → node_by (record { slot = j.slot; chain = v.recorded }) true None false (record { forgotten = j.front; kept = [] }) j.front
            ≡ record { epoch = v.recorded.epoch; turned = true; above = None; below = None; stopped = false; ends = false; holds = false; table = record { forgotten = j.front; kept = [] }; known = j.front }
        placed o none = rw no_place refl

    joins : Joins a b j.slot
    joins = record {
      epoch = follows.later;
      nodes = λ x other. node_further v.members m x (λ same. other (same ∙ starts.slot));
      links = λ x y. refl;
      none = λ x y. none_later v.recorded.epoch (v.links x y) (λ k d lt. (stands.links.links_of x y k d lt).0);
    }

    told : AllTold a None (chain_of v.recorded)
    told = all_told v.recorded v.before v.links v.members stands.places all_now

    holds : (a.nodes t).stopped ≡ false → (a.nodes t).holds ≡ true
    holds runs =
        let among : Contains (slots_of v.members) t =
        All-contains (Contains (slots_of v.members)) (chain_of v.recorded) t stands.places.stands (subst (λ c. Contains c t) (sym chain_was) (contains_there (slots follows.above) follows.tail.slot [])) in
        let one : StandsAt (λ x. IsTold v.recorded v.before x.node × IsAtRest v.recorded x) v.members t =
        stands_at (λ x. IsTold v.recorded v.before x.node × IsAtRest v.recorded x) v.members t (λ i d lt. (stands.places.told i d lt, it.rests i d lt)) among in
        let (now, at_rest) = one.has.1 (stopped_none one.m.node.stopped (sym (ap (λ (n : Node). n.stopped) one.node) ∙ runs)) in
        let place : is_tail one.m.node.place ≡ is_tail (record { slot = t; chain = v.recorded }) =
        ap (λ (c : Record). is_tail (record { slot = one.m.node.place.slot; chain = c })) (one.has.0.now now) ∙ ap (λ (k : ℕ). is_tail (record { slot = k; chain = v.recorded })) one.slot in
        ap (λ (n : Node). n.holds) one.node ∙ at_rest (place ∙ (tail_is v.recorded us t [] stands.places.apart chain_was).1)
      where
        stopped_none : (o : Option Cause) → is_some o ≡ false → o ≡ None
        stopped_none None is = refl
        stopped_none (Some cause) is = absurd cc

    order_then : InOrder v.told.front line (hops_of b)
    order_then =
        let rests : TailRests (hops_of a) = subst (λ (c : List ℕ). TailRests (hops_from a None c)) (sym chain_was) (tail_rests a None us t holds) in
        let all : turning.AllTold (hops_of a) = hops_told a None (chain_of v.recorded) told in
        let with_it = join_stands v.told.front line (hops_of a) stands.order stands.holders all rests in
        let fresh : IsFresh (b.nodes j.slot) a.epoch j.front =
        subst (λ (k : ℕ). node_at (v.members ++ m ∷ []) k ≡ record { epoch = v.recorded.epoch; turned = true; above = None; below = None; stopped = false; ends = false; holds = false; table = record { forgotten = j.front; kept = [] }; known = j.front })
        starts.slot (node_here v.members m [] slots_then ∙ fresh_node) in
        let shown : Alike (with_joiner j.front (hops_of a)) (hops_of b) =
        (join_shows a b told).0 us t j.slot j.front joins fresh chain_apart chain_was
        (chain_is ∙ ap (λ (c : List ℕ). c ++ j.slot ∷ []) chain_was ∙ append_assoc us (t ∷ []) (j.slot ∷ [])) in
        alike_in_order v.told.front line (with_joiner v.told.front (hops_of a)) (hops_of b) with_it (subst (λ (f : ℕ). Alike (with_joiner f (hops_of a)) (hops_of b)) it.held shown)

    -- ---- who was told what

    among_all : (k : ℕ) → Contains (slots_of v.members) k → Contains (slots_of (v.members ++ m ∷ [])) k
    among_all k (i, lt, is) = subst (λ (c : List ℕ). Contains c k) (sym slots_all) (Contains-append_left (slots_of v.members) (slot_of m ∷ []) k (i, lt, is))

    told_newcomer : IsTold next v.recorded m.node
    told_newcomer =
        let epoch : m.node.place.chain.epoch ≡ v.recorded.epoch = ap (λ (c : Record). c.epoch) starts.idle.told in
        record {
          within = omega (arith, epoch, follows.later);
          now = λ at. absurd (omega (arith, epoch, follows.later, at));
          old = λ at. starts.idle.told;
          near = λ runs. omega (arith, epoch, follows.later);
          there = λ runs. ap (incarnation_in next) starts.slot ∙ its_incarnation ∙ ap Some (sym starts.incarnation);
          itself = λ runs. subst (IsIfThere m.node.incarnation)
              (sym (ap (λ (c : Record). incarnation_in c m.node.place.slot) starts.idle.told ∙ ap (incarnation_in v.recorded) starts.slot ∙ no_incarnation)) (λ other is. absurd cc);
        }

    places_then : ArePlaced next v.recorded (v.members ++ m ∷ [])
    places_then = record {
      apart = subst Apart (sym chain_is) (apart_more (chain_of v.recorded) j.slot stands.places.apart chain_apart);
      apart_before = stands.places.apart;
      close = subst (Close (chain_of v.recorded)) (sym chain_is) (records_are_close (chain_of v.recorded) [] j.slot).1;
      first = λ k is there. ap (λ (ms : List entries.Member). head_of (with_entries next.epoch ms)) follows.are
          ∙ first_with v.recorded.epoch next.epoch follows.above follows.tail (joined_as j) k (ap (λ (ms : List entries.Member). head_of (with_entries v.recorded.epoch ms)) (sym follows.were) ∙ is);
      stands = subst (All (λ k. Contains (slots_of (v.members ++ m ∷ [])) k)) (sym chain_is)
          (all_and (λ k. Contains (slots_of (v.members ++ m ∷ [])) k) (chain_of v.recorded) j.slot (All-weaker (Contains (slots_of v.members)) (Contains (slots_of (v.members ++ m ∷ []))) among_all (chain_of v.recorded) stands.places.stands)
          (subst (λ (c : List ℕ). Contains c j.slot) (sym slots_all) (subst (λ (k : ℕ). Contains (slots_of v.members ++ k ∷ []) j.slot) (sym starts.slot) (contains_there (slots_of v.members) j.slot []))));
      stood = λ k d lt late. All-weaker (Contains (slots_of v.members)) (Contains (slots_of (v.members ++ m ∷ []))) among_all (chain_of v.recorded) stands.places.stands;
      told = all_and (λ x. IsTold next v.recorded x.node) v.members m
          (λ i d lt. told_then v.recorded v.before next (get_or v.members i d).node follows.later (stands.places.told i d lt) (all_now i d lt) (λ runs. incarnation_stays (slot_of (get_or v.members i d)) (it.apart i d lt))) told_newcomer;
    }

    -- ---- what requests have left

    abbrev joined_view : View
    joined_view = record v { recorded = next; before = v.recorded; writing = None; youngest = j.incarnation; joiner = None; members = v.members ++ m ∷ [] }

    abbrev shown_then : Requests
    shown_then = record (requests_of v line) { submits = submitted_among next v.recorded v.submits (slots_of v.members) }

    not_head : head_of v.recorded ≢ Some j.slot
    not_head is = let (vs, chain) = head_first v.recorded j.slot is in All-head (λ y. y ≢ j.slot) j.slot vs (subst (All (λ y. y ≢ j.slot)) chain chain_apart) refl

    none_of_it : {A : Type 0} (f : Member → List A) → f m ≡ [] → flat_map f (v.members ++ m ∷ []) ≡ flat_map f v.members
    none_of_it f none = flat_map-append f v.members (m ∷ []) ∙ ap (λ l. flat_map f v.members ++ (l ++ [])) none ∙ append-nil (flat_map f v.members)

    requests_then : requests_of joined_view line ≡ shown_then
    requests_then =
        same (submitted_among next v.recorded v.submits (slots_of (v.members ++ m ∷ []))) (flat_map tokens_of (v.members ++ m ∷ [])) (flat_map looked_of (v.members ++ m ∷ [])) (flat_map (λ x. x.demands) (v.members ++ m ∷ []))
        (ap (submitted_among next v.recorded v.submits) (slots_all ∙ ap (λ (k : ℕ). slots_of v.members ++ k ∷ []) starts.slot)
        ∙ none_more next v.recorded v.before follows.later v.submits j.slot no_incarnation not_head stands.links.submits_of (slots_of v.members))
        (none_of_it tokens_of (ap (owing_at m.node) starts.idle.waiting)) (none_of_it looked_of (ap (looked_by m.node.place.slot) starts.idle.found)) (none_of_it (λ x. x.demands) starts.idle.demands)
      where
        same : (submits : List Submitted) (tokens : List Owing) (looked : List Looked) (demands : List Held) → submits ≡ submitted_among next v.recorded v.submits (slots_of v.members) → tokens ≡ flat_map tokens_of v.members
            → looked ≡ flat_map looked_of v.members → demands ≡ flat_map (λ x. x.demands) v.members
            → (let r : Requests = record { front = v.told.front; line = line; submits = submits; tokens = tokens; looked = looked; demands = demands; kept = v.kept } in r ≡ shown_then)
        same submits tokens looked demands one two three four = rw (one, two, three, four) refl

    submits_within : (from to : ℕ) → All (λ e. e.epoch ≤ v.recorded.epoch) (v.submits from to)
    submits_within from to k d lt = (stands.links.submits_of from to k d lt).0

    -- it has submitted nothing
    before_it : AreBefore shown_then (next_of m)
    before_it = record {
      line = All-weaker (λ (k : Kept). k.origin.incarnation ≤ v.youngest) (λ k. IsBefore (next_of m) k.origin) (λ k le slot same. absurd (omega (arith, le, same, starts.incarnation, it.incarnation))) line stands.origins;
      submits = All-weaker (λ (x : Submitted). x.origin.slot ≢ j.slot) (λ x. IsBefore (next_of m) x.origin) (λ x other slot same. absurd (other (slot ∙ starts.slot))) (submitted_among next v.recorded v.submits (slots_of v.members))
          (none_of_slot next v.recorded v.submits (slots_of v.members) j.slot slots_apart);
      tokens = All-weaker (λ (o : Owing). o.slot ≢ j.slot) (IsTokenBefore (next_of m)) (λ o other ticket is slot same. absurd (other (slot ∙ starts.slot))) (flat_map tokens_of v.members) (tokens_elsewhere v.members j.slot it.apart);
    }

    before_all : All (AreBefore shown_then) (map next_of v.members)
    before_all = λ k d lt.
        let was = stands.tickets k d lt in
        let origin : Origin = get_or (map next_of v.members) k d in
        record { line = was.line; submits = fewer_recorded (λ x. IsBefore origin x.origin) v.recorded v.before next v.submits (slots_of v.members) follows.later submits_within was.submits; tokens = was.tokens }

    -- ---- disks

    abbrev then_backed : ℕ
    then_backed = min backed j.front

    front_is : m.node.table.forgotten ≡ j.front
    front_is = ap (λ (x : Table). x.forgotten) starts.idle.table

    disks_all : disks_of next None (v.members ++ m ∷ []) ≡ disks_of next None v.members ++ disks_of next None (m ∷ [])
    disks_all = flat_map-append (disk_in next None) v.members (m ∷ [])

    volume_there : HasVolume size v.told.front line m
    volume_there = record {
      committed = omega (arith, front_is, it.held);
      is = starts.idle.volume_is ∙ it.volume ∙ ap (volume_of size) (first_writes_are backed (requests_of v line) s stands.clients.0 stands.clients.1 j.front (omega (arith, it.held)))
          ∙ ap (λ (f : ℕ). volume_after size (take f line)) (sym front_is);
    }

    pub joined : v.writing ≡ Some next → StandsWith size joined_view s line then_backed
    joined begun = record {
      order = order_then.0;
      holders = order_then.1;
      volumes = all_and (HasVolume size v.told.front line) v.members m stands.volumes volume_there;
      places = places_then;
      leavable = λ k d lt none. absurd cc;
      links = linked_then v.recorded v.before next v.told.front v.links v.submits follows.later stands.links;
      numbers = all_and HasApplied v.members m stands.numbers
          (record { applied = subst (All (IsApplied (last_of m.node))) (sym starts.idle.waiting) (All-nil (IsApplied (last_of m.node))); none = λ stops. absurd (stops starts.idle.runs) });
      disks = subst (IsBacked v.told.front v.told.mask v.told.gauges v.told.receipts v.told.musters) (sym disks_all)
          (backs_more_disks v.told.front v.told.mask v.told.gauges v.told.receipts v.told.musters (disks_of next None v.members) (disks_of next None (m ∷ [])) (disk_of m) (λ P. disk_alone P next None m)
          (ap (counts v.told.mask) starts.slot ∙ it.counted) (omega (arith, front_is, it.held)) stands.within
          (backs_fewer v.told.front v.told.mask v.told.gauges v.told.receipts v.told.musters (disks_of v.recorded (Some next) v.members) (disks_of next None v.members) (λ P. fewer_disks P v.recorded next v.members)
          (subst (λ (o : Option Record). IsBacked v.told.front v.told.mask v.told.gauges v.told.receipts v.told.musters (disks_of v.recorded o v.members)) begun stands.disks)));
      within = stands.within;
      backs = subst (All (λ d. then_backed ≤ d.durable)) (sym disks_all)
          (All-append (λ d. then_backed ≤ d.durable) (disks_of next None v.members) (disks_of next None (m ∷ []))
          (All-weaker (λ (d : Disk). backed ≤ d.durable) (λ d. then_backed ≤ d.durable) (λ d le. omega (arith, le)) (disks_of next None v.members)
          (fewer_disks (λ d. backed ≤ d.durable) v.recorded next v.members (subst (λ (o : Option Record). All (λ d. backed ≤ d.durable) (disks_of v.recorded o v.members)) begun stands.backs)))
          (disk_alone (λ d. then_backed ≤ d.durable) next None m (omega (arith, front_is))));
      fronts = stands.fronts;
      raised = subst (All (λ front. front ≤ v.told.front)) (sym (none_of_it raised_of (ap raised_by starts.idle.found))) stands.raised;
      clients = subst (λ (r : Requests). requests.StandsFor then_backed r s) (sym requests_then)
          (less_backed (recorded_submits backed (requests_of v line) v.recorded v.before next v.submits (slots_of v.members) follows.later submits_within s stands.clients));
      slots = slots_then;
      tickets = subst (λ (r : Requests). All (AreBefore r) (map next_of (v.members ++ m ∷ []))) (sym requests_then)
          (subst (All (AreBefore shown_then)) (sym (map-append next_of v.members (m ∷ []))) (all_and (AreBefore shown_then) (map next_of v.members) (next_of m) before_all before_it));
      dated = subst (λ (ms : List entries.Member). All (λ x. x.incarnation ≤ j.incarnation) ms) (sym members_are)
          (all_and (λ (x : entries.Member). x.incarnation ≤ j.incarnation) v.recorded.members (joined_as j) dated_then (omega arith));
      dated_before = dated_then;
      origins = All-weaker (λ (k : Kept). k.origin.incarnation ≤ v.youngest) (λ k. k.origin.incarnation ≤ j.incarnation) (λ k le. omega (arith, le, it.incarnation)) line stands.origins;
    }
      where
        dated_then : IsDated j.incarnation v.recorded
        dated_then = later_dated v.youngest j.incarnation v.recorded (omega (arith, it.incarnation)) stands.dated

        less_backed : requests.StandsFor backed shown_then s → requests.StandsFor then_backed shown_then s
        less_backed (names, is) = (
          names,
          record {
            sound = is.sound;
            committed = is.committed;
            owed = omega (arith, is.owed, is.sound.owed_taken, is.committed, it.held);
            taken = is.taken;
            named = is.named;
            apart = is.apart;
            line_sent = is.line_sent;
            submits_sent = is.submits_sent;
            bound = is.bound;
            tokens_wait = is.tokens_wait;
            demands_wait = is.demands_wait;
            kept_wait = is.kept_wait;
            fresh = is.fresh;
          },
        )

  -- ---- it is being written

  -- No disk of a member is added: nobody stands at the joiner's slot.
  was_in : (m : Member) → slot_of m ≢ j.slot → is_in next (slot_of m) m.node.incarnation ≡ true → is_in v.recorded (slot_of m) m.node.incarnation ≡ true
  was_in m other is = ap (is_it m.node.incarnation) (sym (incarnation_stays (slot_of m) other)) ∙ is

  disks_written : (ms : List Member) → All (λ m. slot_of m ≢ j.slot) ms → disks_of v.recorded (Some next) ms ≡ disks_of v.recorded None ms
  disks_written [] others = refl
  disks_written (m ∷ ms) others =
      ap (λ ds. ds ++ disks_of v.recorded (Some next) ms) (one (All-head (λ (x : Member). slot_of x ≢ j.slot) m ms others))
      ∙ ap (λ ds. disk_in v.recorded None m ++ ds) (disks_written ms (All-tail (λ (x : Member). slot_of x ≢ j.slot) m ms others))
    where
      one : slot_of m ≢ j.slot → disk_in v.recorded (Some next) m ≡ disk_in v.recorded None m
      one other = elim (cases_Bool (is_in next m.node.place.slot m.node.incarnation)) [
        | inl yes_in ↦ rw (yes_in, was_in m other yes_in) refl
        | inr not_in ↦ rw not_in refl
      ]

  pub join_written : v.writing ≡ None → StandsWith size (record v { writing = Some next }) s line backed
  join_written none =
      let disks : disks_of v.recorded v.writing v.members ≡ disks_of v.recorded (Some next) v.members = ap (λ (o : Option Record). disks_of v.recorded o v.members) none ∙ sym (disks_written v.members it.apart) in
      record {
        order = stands.order;
        holders = stands.holders;
        volumes = stands.volumes;
        places = stands.places;
        leavable = λ k d lt. was_in (get_or v.members k d) (it.apart k d lt);
        links = stands.links;
        numbers = stands.numbers;
        disks = subst (IsBacked v.told.front v.told.mask v.told.gauges v.told.receipts v.told.musters) disks stands.disks;
        within = stands.within;
        backs = subst (All (λ d. backed ≤ d.durable)) disks stands.backs;
        fronts = stands.fronts;
        raised = stands.raised;
        clients = stands.clients;
        slots = stands.slots;
        tickets = stands.tickets;
        dated = stands.dated;
        dated_before = stands.dated_before;
        origins = stands.origins;
      }
