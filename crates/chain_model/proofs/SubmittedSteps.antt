-- How the head that takes a write from a submit link keeps what its chain stands for: lemmas.
use Rattle.std.proofs.Common.{if◌then◌else◌, ◌≡◌, ◌≢◌, ℕ, zero, suc, ◌+◌, ◌-◌, ◌≤◌, ◌==◌, true, false, Option, Some, None, List, [], ◌∷◌, ◌++◌, length, map, refl, sym, ◌∙◌, ap, subst, inl, inr, arith}
use Rattle.std.specs.Prelude.{All}
use Rattle.std.specs.List.{Contains, flat_map}
use Rattle.std.proofs.lemmas.Bool.{cases_Bool, cases_eq, cond-false, cond-true, eq-eqb, eqb-true, ne_eqb}
use Rattle.std.proofs.lemmas.List.{append-nil, length_push, map-append, take-append-le}
use Rattle.std.proofs.lemmas.List.Elements.{All-contains, All-head, All-nil, All-push, All-weaker}
use Rattle.configurations.specs.Record.{Record}
use Rattle.version_table.specs.declared.kept.Kept.{Kept}
use Rattle.version_table.specs.declared.kept.Origin.{Origin}
use Rattle.volume.specs.Writes.{Placed}
use Rattle.chain_steps.specs.Node.{Refused, Stepped, Taken, epoch_of, last_of}
use Rattle.chain_steps.specs.Place.{incarnation_in, is_first, is_head, place_in, slot_before}
use Rattle.chain_steps.specs.Steps.{apply, deliver, is_full, number, number_from, origin_of, silent, take_message}
use Rattle.chain_steps.specs.declared.message.Envelope.{Envelope}
use Rattle.chain_steps.specs.declared.message.Message.{Message}
use Rattle.chain_steps.specs.declared.message.Message.TheVariants as messages
use Rattle.world_model.specs.Chain.{AreBefore, ArePutOut, IsBefore, IsTokenBefore}
use Rattle.world_model.proofs.Counting.{all_at, all_between, all_without, contains_there, flat_same, get_there, maps_same}
use Rattle.world_model.specs.Backing.{Disk, IsBacked}
use Rattle.world_model.specs.Event.{ClientEvent}
use Rattle.chain_model.proofs.InOrder.{InOrder}
use Rattle.chain_model.proofs.Lanes.{numbered_at}
use Rattle.chain_model.specs.Links.{Node, hops_of}
use Rattle.world_model.specs.Machine.{Plays, State}
use Rattle.world_model.proofs.MemberSteps.{drops_found, learns_number, tickets_learned}
use Rattle.world_model.specs.Order.{volume_after}
use Rattle.chain_model.specs.Replicas as replicas
use Rattle.world_model.specs.Requests.{Requests, Submitted}
use Rattle.world_model.specs.Requests as requests
use Rattle.world_model.proofs.Standing.{Stays, shows_stay}
use Rattle.world_model.proofs.TokenSteps.{numbers}
use Rattle.chain_model.specs.Chain.{ArePlaced, BelongsToHead, HasApplied, HasVolume, IsBehind, IsDated, IsForHead, IsTold, MembersStand, StandsWith}
use Rattle.chain_model.proofs.Changing.{all_changed, are, around, changes, requests_split, were}
use Rattle.chain_model.proofs.Delivering.{order_numbers}
use Rattle.chain_model.specs.Laws.{HasSent, HasTaken, TakesSubmit, with_members}
use Rattle.chain_model.proofs.Incarnations.{dated_in}
use Rattle.chain_model.proofs.Linking.{IsProper, IsProperSubmit, linked_sent, linked_taken}
use Rattle.chain_model.proofs.MemberSteps.{idle}
use Rattle.chain_model.proofs.MessageSteps.{same_step, taken_step}
use Rattle.chain_model.proofs.NetSteps.{first_member, hops_same}
use Rattle.chain_model.proofs.Ordering.{apart_from, told_one, was_node, works_of}
use Rattle.chain_model.proofs.PassingSteps.{fits_most, its_raised}
use Rattle.chain_model.proofs.PlaceSteps.{head_is_head, is_among}
use Rattle.chain_model.proofs.PutSteps.{put_proper, sends_put, told_applied}
use Rattle.chain_model.proofs.SubmitSteps.{Split, fewer_submits, split_submits}
use Rattle.chain_model.proofs.SubmitSteps as lists
use Rattle.chain_model.specs.View.{Member, View, chain_of, disk_in, incarnation_at, looked_of, net_of, next_of, passed_on, slot_of, slots_of, submitted_among, submitted_in, submitted_on, tokens_of}

-- ---- the head

-- nobody stands before the head
none_before : (r : Record) (o : Option ℕ) → is_first o ≡ true → slot_before r o ≡ None
none_before r None is = absurd cc
none_before r (Some zero) is = refl
none_before r (Some (suc at)) is = absurd (let same : suc at ≡ 0 = eqb-true (suc at) 0 is in omega arith)

module _ (size : ℕ) (v : View) (above : List Member) (m : Member) (below : List Member) (from : ℕ) (envelope : Envelope) (links submits : ℕ → ℕ → List Envelope) (events : List ClientEvent)
    (gone : HasTaken from (slot_of m) envelope v.submits submits) where
  its_told : (s : State) (line : List Kept) (backed : ℕ) → StandsWith size (with_members v (above ++ m ∷ below)) s line backed → IsTold v.recorded v.before m.node
  its_told s line backed stands = all_at (λ x. IsTold v.recorded v.before x.node) above m below stands.places.told

  -- with this step, clients see the events
  abbrev IsGood : Stepped → Type 0
  IsGood stepped = HasSent (slot_of m) stepped.out.messages v.links links → ArePutOut stepped.out.replies events
      → Plays size (MembersStand size (with_members v (above ++ m ∷ below))) (MembersStand size (record v { members = above ++ record m { node = stepped.node } ∷ below; links = links; submits = submits })) events

  -- the Submit is where it belongs
  belongs : (s : State) (line : List Kept) (backed : ℕ) → StandsWith size (with_members v (above ++ m ∷ below)) s line backed → IsProperSubmit v.recorded v.before from (slot_of m) envelope
  belongs s line backed stands =
      All-head (IsProperSubmit v.recorded v.before from (slot_of m)) envelope (submits from (slot_of m)) (subst (All (IsProperSubmit v.recorded v.before from (slot_of m))) gone.first (stands.links.submits_of from (slot_of m)))

  -- ---- an old one is dropped

  drops_submit : IsGood (silent m.node)
  drops_submit has out =
      subst (Plays size (MembersStand size (with_members v (above ++ m ∷ below))) (MembersStand size (record v { members = above ++ m ∷ below; links = links; submits = submits }))) (sym out)
      (changes size v above m m below links submits []
      (λ s line backed stands. (
        line,
        backed,
        fits_most size v above m m below links submits [] s line backed stands (record {
          slot = refl;
          incarnation = refl;
          order = subst (InOrder v.told.front line) (sym (hops_same (net_of v.recorded v.links (above ++ m ∷ below)) (net_of v.recorded links (above ++ m ∷ below)) refl refl (λ x. refl) (λ x y. ap passed_on (unsent x y)))) (stands.order, stands.holders);
          volume = λ is. is;
          told = its_told s line backed stands;
          behind = λ late. late;
          linked = linked_taken v.recorded v.before v.told.front from (slot_of m) envelope links v.submits submits gone
              (linked_sent v.recorded v.before v.told.front (slot_of m) [] v.links links v.submits has (λ to. All-nil (IsProper v.recorded v.before v.told.front (slot_of m) to)) stands.links);
          numbers = all_at HasApplied above m below stands.numbers;
          next = refl;
          disk = refl;
          raised = its_raised size v above m below s line backed stands;
          tokens = λ next all. all;
          submitted = λ next all. fewer_submits (λ x. IsBefore next x.origin) v.recorded v.before v.submits submits (slots_of (above ++ m ∷ below)) from (slot_of m) envelope stands.slots gone all;
          clients = shows_stay size backed (were size v above m m below links submits [] line) (are size v above m m below links submits [] line)
              (lists.takes_submit backed (were size v above m m below links submits [] line) v.recorded v.before v.submits submits (slots_of (above ++ m ∷ below)) from (slot_of m) envelope stands.slots gone);
        }),
      )))
    where
      unsent : (x y : ℕ) → links x y ≡ v.links x y
      unsent x y = elim (cases_eq x (slot_of m)) [
        | inl here ↦ subst (λ k. links k y ≡ v.links k y) (sym here) (has.its y ∙ append-nil (v.links (slot_of m) y))
        | inr other ↦ has.others x y other
      ]

  -- ---- a new one is numbered

  module _ (now : envelope.epoch ≡ epoch_of m.node) (runs : m.node.stopped ≡ None) (ticket : ℕ) (write : Placed) (incarnation : ℕ) (is_submit : envelope.message ≡ messages.Submit ticket write)
      (head : is_head m.node.place ≡ true) (from_there : incarnation_in m.node.place.chain from ≡ Some incarnation) where
    abbrev entry : Kept
    entry = record { number = last_of m.node + 1; write = write; origin = record { slot = from; incarnation = incarnation; ticket = ticket } }

    abbrev its_write : Submitted
    its_write = record { origin = record { slot = from; incarnation = incarnation; ticket = ticket }; write = write }

    abbrev numbering : Member
    numbering = record m { node = (apply (last_of m.node + 1) (origin_of from incarnation ticket) write m.node).node }

    abbrev slots : List ℕ
    slots = slots_of (above ++ m ∷ below)

    -- the one who submitted it is recorded so
    shown_at : IsTold v.recorded v.before m.node → incarnation_at v.recorded v.before envelope.epoch from ≡ Some incarnation
    shown_at told = elim (told_one v.recorded v.before m.node told runs) [
      | inl (here, chain) ↦
          cond-true (envelope.epoch == v.recorded.epoch) (incarnation_in v.recorded from) (if suc envelope.epoch == v.recorded.epoch then incarnation_in v.before from else None) (eq-eqb envelope.epoch v.recorded.epoch (now ∙ here))
          ∙ ap (λ (r : Record). incarnation_in r from) (sym chain) ∙ from_there
      | inr (old, chain) ↦
          cond-false (envelope.epoch == v.recorded.epoch) (incarnation_in v.recorded from) (if suc envelope.epoch == v.recorded.epoch then incarnation_in v.before from else None)
          (ne_eqb envelope.epoch v.recorded.epoch (λ same. let other : envelope.epoch ≡ v.recorded.epoch = same in omega (arith, now, old)))
          ∙ cond-true (suc envelope.epoch == v.recorded.epoch) (incarnation_in v.before from) None (eq-eqb (suc envelope.epoch) v.recorded.epoch (ap suc now ∙ old))
          ∙ ap (λ (r : Record). incarnation_in r from) (sym chain) ∙ from_there
    ]

    stands_there : ArePlaced v.recorded v.before (above ++ m ∷ below) → IsTold v.recorded v.before m.node → Contains (slots_of (above ++ m ∷ below)) from
    stands_there places told = elim (told_one v.recorded v.before m.node told runs) [
      | inl (here, chain) ↦ All-contains (Contains slots) (chain_of v.recorded) from places.stands (is_among v.recorded from incarnation (ap (λ (r : Record). incarnation_in r from) (sym chain) ∙ from_there))
      | inr (old, chain) ↦ All-contains (Contains slots) (chain_of v.before) from (all_at (λ x. IsBehind v.recorded x.node → All (λ s. Contains slots s) (chain_of v.before)) above m below places.stood (runs, old)) (is_among v.before from incarnation (ap (λ (r : Record). incarnation_in r from) (sym chain) ∙ from_there))
    ]

    -- of an incarnation up to the youngest
    dated_there : IsDated v.youngest v.recorded → IsDated v.youngest v.before → IsTold v.recorded v.before m.node → incarnation ≤ v.youngest
    dated_there dated dated_before told = elim (told_one v.recorded v.before m.node told runs) [
      | inl (here, chain) ↦ dated_in v.youngest v.recorded from incarnation dated (ap (λ (r : Record). incarnation_in r from) (sym chain) ∙ from_there)
      | inr (old, chain) ↦ dated_in v.youngest v.before from incarnation dated_before (ap (λ (r : Record). incarnation_in r from) (sym chain) ∙ from_there)
    ]

    it_stands : Contains (slots_of (above ++ m ∷ below)) (slot_of m)
    it_stands = subst (λ (l : List ℕ). Contains l (slot_of m)) (sym (map-append slot_of above (m ∷ below))) (contains_there (slots_of above) (slot_of m) (slots_of below))

    -- where it stands among what is submitted
    record Parts : Type 0 where
      pub one : List Submitted
      pub other : List Submitted
      pub with_it : submitted_among v.recorded v.before v.submits (slots_of (above ++ m ∷ below)) ≡ one ++ record { origin = record { slot = from; incarnation = incarnation; ticket = ticket }; write = write } ∷ other
      pub without_it : submitted_among v.recorded v.before submits (slots_of (above ++ m ∷ below)) ≡ one ++ other

    parts : (s : State) (line : List Kept) (backed : ℕ) → StandsWith size (with_members v (above ++ m ∷ below)) s line backed → Parts
    parts s line backed stands =
        let told = its_told s line backed stands in
        let split : Split v.recorded v.before v.submits slots from (slot_of m) = split_submits v.recorded v.before v.submits slots from (slot_of m) stands.slots (stands_there stands.places told) it_stands in
        let rest : List Submitted = submitted_on v.recorded v.before from (submits from (slot_of m)) in
        let first : submitted_on v.recorded v.before from (v.submits from (slot_of m)) ≡ its_write ∷ rest =
        ap (submitted_on v.recorded v.before from) gone.first ∙ ap (λ o. submitted_in from o envelope.message ++ rest) (shown_at told) ∙ ap (λ (x : Message). submitted_in from (Some incarnation) x ++ rest) is_submit in
        record {
          one = split.one;
          other = rest ++ split.other;
          with_it = split.is v.submits (λ x y apart. refl) ∙ ap (λ l. split.one ++ (l ++ split.other)) first;
          without_it = split.is submits gone.others;
        }

    numbers_write : HasSent (slot_of m) (apply (last_of m.node + 1) (origin_of from incarnation ticket) write m.node).out.messages v.links links
        → Plays size (MembersStand size (with_members v (above ++ m ∷ below)))
        (MembersStand size (record v { members = above ++ record m { node = (apply (last_of m.node + 1) (origin_of from incarnation ticket) write m.node).node } ∷ below; links = links; submits = submits })) []
    numbers_write has = changes size v above m numbering below links submits []
        (λ s line backed stands.
        let told = its_told s line backed stands in
        let part = parts s line backed stands in
        let longer : List Kept = line ++ entry ∷ [] in
        let (vs, chain) = first_member v.recorded v.before v.links above m below stands.places runs head in
        let order : InOrder v.told.front longer (hops_of (net_of v.recorded links (above ++ numbering ∷ below))) =
        order_numbers v.recorded v.before above m numbering below stands.slots refl v.links links stands.places runs v.told.front line vs chain
        (ap (λ (n : Node). n.above) (was_node v.recorded v.before above m numbering below stands.slots refl v.links links stands.places runs) ∙ none_before m.node.place.chain (place_in m.node.place.chain m.node.place.slot) head)
        entry (omega arith) refl
        (works_of v.recorded v.before above m numbering below stands.slots refl v.links links (apply (last_of m.node + 1) (origin_of from incarnation ticket) write m.node).out.messages
        (if m.node.turned then replicas.Put entry ∷ [] else []) (sends_put (last_of m.node + 1) (origin_of from incarnation ticket) write m.node)
        (apart_from v.recorded v.before above m numbering below stands.slots refl v.links links stands.places runs) has) (stands.order, stands.holders) in
        let far : last_of m.node + 1 ≡ 1 + length line = numbered_at 1 line [] entry order.0.numbered in (
          longer,
          backed,
          record {
            slot = refl;
            incarnation = refl;
            order = order;
            volumes = All-weaker (HasVolume size v.told.front line) (HasVolume size v.told.front longer)
                (λ x is. record { committed = is.committed; is = is.is ∙ ap (volume_after size) (sym (take-append-le x.node.table.forgotten line (entry ∷ []) (omega (arith, is.committed, stands.order.within)))) })
                (above ++ numbering ∷ below) (all_changed (HasVolume size v.told.front line) above m numbering below (λ is. is) stands.volumes);
            told = told;
            behind = λ late. late;
            linked = linked_taken v.recorded v.before v.told.front from (slot_of m) envelope links v.submits submits gone
                (linked_sent v.recorded v.before v.told.front (slot_of m) (apply (last_of m.node + 1) (origin_of from incarnation ticket) write m.node).out.messages v.links links v.submits has
                (put_proper size v above m below runs from envelope links (last_of m.node + 1) (origin_of from incarnation ticket) write s line backed stands) stands.links);
            numbers = record { applied = told_applied (last_of m.node + 1) (origin_of from incarnation ticket) m.node (last_of numbering.node) (omega (arith, length_push m.node.table.kept entry)) (omega (arith, length_push m.node.table.kept entry)) (all_at HasApplied above m below stands.numbers).applied; none = λ stops. absurd (stops runs) };
            disks = subst (λ (ds : List Disk). IsBacked v.told.front v.told.mask v.told.gauges v.told.receipts v.told.musters ds) (sym (flat_same (disk_in v.recorded v.writing) above m numbering below refl)) stands.disks;
            backs = subst (All (λ d. backed ≤ d.durable)) (sym (flat_same (disk_in v.recorded v.writing) above m numbering below refl)) stands.backs;
            raised = All-nil (λ front. front ≤ v.told.front);
            tickets = subst (All (AreBefore (are size v above m numbering below links submits [] longer))) (sym (maps_same next_of above m numbering below refl))
                (All-weaker (AreBefore (were size v above m numbering below links submits [] line)) (AreBefore (are size v above m numbering below links submits [] longer)) (tickets_then line backed part) (map next_of (above ++ m ∷ below))
                (subst (λ (r : Requests). All (AreBefore r) (map next_of (above ++ m ∷ below))) (requests_split v line above m below) stands.tickets));
            origins = All-push (λ k. k.origin.incarnation ≤ v.youngest) line entry stands.origins (dated_there stands.dated stands.dated_before told);
            clients = shows_stay size backed (were size v above m numbering below links submits [] line) (are size v above m numbering below links submits [] longer) (numbered line backed part far);
          },
        ))
      where
        tickets_then : (line : List Kept) (backed : ℕ) → Parts → (next : Origin) → AreBefore (were size v above m numbering below links submits [] line) next
            → AreBefore (are size v above m numbering below links submits [] (line ++ entry ∷ [])) next
        tickets_then line backed part next is =
            let all : All (λ x. IsBefore next x.origin) (part.one ++ its_write ∷ part.other) = subst (All (λ x. IsBefore next x.origin)) part.with_it is.submits in
            record {
              line = All-push (λ k. IsBefore next k.origin) line entry is.line (all_at (λ (x : Submitted). IsBefore next x.origin) part.one its_write part.other all);
              submits = subst (All (λ x. IsBefore next x.origin)) (sym part.without_it) (all_without (λ (x : Submitted). IsBefore next x.origin) part.one its_write part.other all);
              tokens = all_between (IsTokenBefore next) (flat_map tokens_of above) (flat_map tokens_of below) (tokens_of m) (tokens_of numbering)
                  (λ own. tickets_learned backed (idle size v above m below line) m.node entry (flat_map tokens_of above) (flat_map tokens_of below) (last_of m.node + 1) next own) is.tokens;
            }

        numbered : (line : List Kept) (backed : ℕ) → Parts → last_of m.node + 1 ≡ 1 + length line → Stays backed (were size v above m numbering below links submits [] line)
            (are size v above m numbering below links submits [] (line ++ entry ∷ []))
        numbered line backed part far t is =
            let r : Requests = around v (line ++ entry ∷ []) (submitted_among v.recorded v.before submits (slots_of (above ++ m ∷ below))) above below m in
            let first = numbers backed (were size v above m numbering below links submits [] line) its_write part.one part.other (last_of m.node + 1) part.with_it t is in
            let shown : requests.StandsFor backed r t = subst (λ l. requests.StandsFor backed (record (were size v above m numbering below links submits [] line) { submits = l; line = line ++ entry ∷ [] }) t) (sym part.without_it) first in
            let dropped = drops_found backed r m.node.place.slot m.node.found (flat_map looked_of above) (flat_map looked_of below) t shown in
            learns_number backed (record r { looked = flat_map looked_of above ++ flat_map looked_of below }) m.node entry (flat_map tokens_of above) (flat_map tokens_of below) (last_of m.node + 1) (omega arith)
            (get_there line entry [] (last_of m.node + 1 - 1) (omega (arith, far))) t dropped

  -- ---- whichever it is

  module _ (now : envelope.epoch ≡ epoch_of m.node) (runs : m.node.stopped ≡ None) where
    -- of its epoch, it goes to the head from one of its chain
    its_head : (s : State) (line : List Kept) (backed : ℕ) → StandsWith size (with_members v (above ++ m ∷ below)) s line backed → IsForHead v.recorded v.before envelope.epoch from (slot_of m)
        → (incarnation_in m.node.place.chain from ≢ None) × (is_head m.node.place ≡ true)
    its_head s line backed stands is = elim (told_one v.recorded v.before m.node (its_told s line backed stands) runs) [
      | inl (here, chain) ↦
          let (there, head) = is.now (now ∙ here) in
          (subst (λ (r : Record). incarnation_in r from ≢ None) (sym chain) there, subst (λ (r : Record). is_head (record { slot = m.node.place.slot; chain = r }) ≡ true) (sym chain) (head_is_head v.recorded (slot_of m) head))
      | inr (old, chain) ↦
          let (there, head) = is.old (ap suc now ∙ old) in
          (subst (λ (r : Record). incarnation_in r from ≢ None) (sym chain) there, subst (λ (r : Record). is_head (record { slot = m.node.place.slot; chain = r }) ≡ true) (sym chain) (head_is_head v.before (slot_of m) head))
    ]

    submit_by : (ticket : ℕ) (write : Placed) (stepped : Stepped) (o : Option ℕ) → envelope.message ≡ messages.Submit ticket write → incarnation_in m.node.place.chain from ≡ o → is_head m.node.place ≡ true
        → number_from from ticket o write m.node ≡ Taken stepped → IsGood stepped
    submit_by ticket write stepped None is there head taken = λ has out s (line, backed, stands).
        let (within, for_head) = belongs s line backed stands in
        absurd ((its_head s line backed stands (subst (BelongsToHead v.recorded v.before envelope.epoch from (slot_of m)) is for_head)).0 there)
    submit_by ticket write stepped (Some incarnation) is there head taken = elim (cases_Bool (is_full write m.node)) [
      | inl full ↦ let no : Refused 153 ≡ Taken stepped = rw full at taken in absurd cc
      | inr room ↦
          let same : Taken (apply (last_of m.node + 1) (origin_of from incarnation ticket) write m.node) ≡ Taken stepped = rw room at taken in
          subst IsGood (same_step (apply (last_of m.node + 1) (origin_of from incarnation ticket) write m.node) stepped same)
          (λ has out. subst (Plays size (MembersStand size (with_members v (above ++ m ∷ below)))
          (MembersStand size (record v { members = above ++ record m { node = (apply (last_of m.node + 1) (origin_of from incarnation ticket) write m.node).node } ∷ below; links = links; submits = submits }))) (sym out)
          (numbers_write now runs ticket write incarnation is head there has))
    ]

    submit_one : (ticket : ℕ) (write : Placed) (stepped : Stepped) → envelope.message ≡ messages.Submit ticket write → number from ticket write m.node ≡ Taken stepped → IsGood stepped
    submit_one ticket write stepped is taken = elim (cases_Bool (is_head m.node.place)) [
      | inl head ↦
          let same : number_from from ticket (incarnation_in m.node.place.chain from) write m.node ≡ Taken stepped = rw head at taken in
          submit_by ticket write stepped (incarnation_in m.node.place.chain from) is refl head same
      | inr other ↦ λ has out s (line, backed, stands).
          let (within, for_head) = belongs s line backed stands in
          let head = (its_head s line backed stands (subst (BelongsToHead v.recorded v.before envelope.epoch from (slot_of m)) is for_head)).1 in
          let no : true ≡ false = sym head ∙ other in absurd cc
    ]

    -- no other message is on a submit link
    not_there : (message : Message) → envelope.message ≡ message → ((s : State) (line : List Kept) (backed : ℕ) → StandsWith size (with_members v (above ++ m ∷ below)) s line backed → BelongsToHead v.recorded v.before envelope.epoch from (slot_of m) message)
    not_there message is s line backed stands = let (within, for_head) = belongs s line backed stands in subst (BelongsToHead v.recorded v.before envelope.epoch from (slot_of m)) is for_head

    one_of : (message : Message) (stepped : Stepped) → envelope.message ≡ message → take_message from message m.node ≡ Taken stepped → IsGood stepped
    one_of (messages.Put n origin write) stepped is taken = λ has out s (line, backed, stands). absurd (not_there (messages.Put n origin write) is s line backed stands)
    one_of (messages.Ack front) stepped is taken = λ has out s (line, backed, stands). absurd (not_there (messages.Ack front) is s line backed stands)
    one_of (messages.Turn last) stepped is taken = λ has out s (line, backed, stands). absurd (not_there (messages.Turn last) is s line backed stands)
    one_of (messages.Submit ticket write) stepped is taken = submit_one ticket write stepped is taken

  delivers : (stepped : Stepped) → deliver from envelope m.node ≡ Taken stepped → IsGood stepped
  delivers stepped taken = taken_step IsGood from envelope m.node stepped taken (λ runs before. drops_submit) (λ runs now is. one_of now runs envelope.message stepped refl is)

-- a head takes a write from a submit link
pub takes_submit : TakesSubmit
takes_submit size v above m below from envelope stepped links submits events taken gone has out = delivers size v above m below from envelope links submits events gone stepped taken has out
