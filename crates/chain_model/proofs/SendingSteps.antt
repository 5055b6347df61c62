-- That a member submits a write, whose token waits under the next ticket, keeps what its chain stands for: lemmas.
use Rattle.std.proofs.Common.{◌≡◌, ◌≢◌, ◌⊎◌, inl, inr, ℕ, zero, suc, ◌==◌, ◌<◌, ◌≤◌, true, Option, Some, None, List, [], ◌∷◌, ◌++◌, map, refl, sym, ◌∙◌, ap, subst, arith, true}
use Rattle.std.specs.Prelude.{if◌then◌else◌, All, AllPairs}
use Rattle.std.specs.List.{Contains, flat_map}
use Rattle.std.proofs.lemmas.Bool.{cases_eq, cond-false, cond-true, eq-eqb, ne_eqb}
use Rattle.std.proofs.lemmas.List.{append-nil, append_assoc, map-append}
use Rattle.std.proofs.lemmas.List.Concat.{flat_map-append}
use Rattle.std.proofs.lemmas.List.Elements.{All-append, All-cons, All-head, All-nil, All-tail, All-weaker, Contains-append_right}
use Rattle.std.proofs.lemmas.Option.{same_Some}
use Rattle.configurations.specs.Record.{Record}
use Rattle.version_table.specs.declared.kept.Kept.{Kept}
use Rattle.version_table.specs.declared.kept.Origin.{Origin}
use Rattle.volume.specs.Writes.{Placed}
use Rattle.chain_steps.specs.Node.{NodeState, epoch_of, last_of}
use Rattle.chain_steps.specs.Place.{head_of, incarnation_in, is_member}
use Rattle.chain_steps.specs.Steps.{send, submit}
use Rattle.chain_steps.specs.Waiting.{debt_of, waits_for}
use Rattle.chain_steps.specs.declared.message.Envelope.{Envelope}
use Rattle.chain_steps.specs.declared.message.Message.{Message}
use Rattle.chain_steps.specs.declared.message.Message.TheVariants as messages
use Rattle.chain_steps.specs.declared.waiting.Waiting.{Waiting}
use Rattle.chain_steps.specs.declared.waiting.Waiting.TheVariants as tokens
use Rattle.chain_steps.specs.declared.waiting.WriteToken.{WriteToken}
use Rattle.world_model.specs.Backing.{Disk, IsBacked}
use Rattle.world_model.specs.Chain.{AreBefore, IsBefore, IsTokenBefore, at_member, owing_at}
use Rattle.world_model.proofs.Counting.{all_at, all_before, all_behind, flat_same, pairs_around}
use Rattle.world_model.proofs.DemandSteps as demands
use Rattle.world_model.specs.Machine.{State, written}
use Rattle.chain_model.specs.Replicas.{Hop}
use Rattle.world_model.specs.Requests.{Held, IsNew, IsOfKind, IsUnused, Owing, Requests, Submitted, origin_of, ticket_of}
use Rattle.world_model.specs.Requests as requests
use Rattle.world_model.proofs.Standing.{Stays, shows_stay}
use Rattle.chain_model.proofs.InOrder.{InOrder}
use Rattle.chain_model.specs.Chain.{HasApplied, HasVolume, IsApplied, IsTold, StandsWith}
use Rattle.chain_model.proofs.Changing.{Fits, all_changed, are, changes, requests_split, were}
use Rattle.chain_model.specs.Laws.{HasSent, SubmitsWrite, sent_to, with_members}
use Rattle.chain_model.proofs.Incarnations.{its_own}
use Rattle.chain_model.proofs.LineSteps.{loses_submits}
use Rattle.chain_model.proofs.Linking.{IsProperSubmit, all_sent, goes_to_head, linked_submitted}
use Rattle.chain_model.proofs.MemberSteps.{idle, it_drops_found}
use Rattle.chain_model.proofs.NetSteps.{hops_same, nodes_same}
use Rattle.chain_model.proofs.Ordering.{told_one}
use Rattle.chain_model.proofs.SubmitSteps.{split_submits, submits_apart}
use Rattle.chain_model.proofs.TakingSteps.{applied_more, one_more, split, tokens_as_they_are}
use Rattle.chain_model.specs.View.{Member, View, disk_in, incarnation_at, net_of, next_of, slot_of, slots_of, submitted_among, submitted_in, submitted_on, tokens_of}

-- ---- the write among those on the submit links

-- somebody stands at the slot, or nobody does
is_there : (xs : List ℕ) (s : ℕ) → Contains xs s ⊎ ¬ Contains xs s
is_there [] s = inr (λ (k, lt, is). absurd (omega (arith, lt)))
is_there (x ∷ xs) s = elim (cases_eq x s) [
  | inl same ↦ inl (0, omega arith, same)
  | inr other ↦ elim (is_there xs s) [
    | inl (k, lt, is) ↦ inl (suc k, omega (arith, lt), is)
    | inr none ↦ inr (λ there. none (further there other))
  ]
]
  where
    further : Contains (x ∷ xs) s → x ≢ s → Contains xs s
    further (zero, lt, is) other = absurd (other is)
    further (suc k, lt, is) other = (k, omega (arith, lt), is)

-- one more is among them
record OneMore (x : Submitted) (old new : List Submitted) : Type 0 where
  pub one : List Submitted
  pub other : List Submitted
  pub were : old ≡ one ++ other
  pub are : new ≡ one ++ x ∷ other

-- they are what they were, or one more is among them
abbrev IsSameOrMore : Submitted → List Submitted → List Submitted → Type 0
IsSameOrMore x old new = (new ≡ old) ⊎ OneMore x old new

-- what is sent is for one slot
sent_there : (to : ℕ) (message : Message) (node : NodeState) → sent_to to (send (Some to) message node) ≡ record { epoch = epoch_of node; message = message } ∷ []
sent_there to message node = cond-true (to == to) (record { epoch = epoch_of node; message = message } ∷ []) [] (eq-eqb to to refl)

sent_elsewhere : (to : ℕ) (message : Message) (node : NodeState) (y : ℕ) → y ≢ to → sent_to y (send (Some to) message node) ≡ []
sent_elsewhere to message node y other = cond-false (to == y) (record { epoch = epoch_of node; message = message } ∷ []) [] (ne_eqb to y (λ same. other (sym same)))

module _ (recorded before : Record) (node : NodeState) (told : IsTold recorded before node) (runs : node.stopped ≡ None) (placed : is_member node.place ≡ true) where
  -- messages of its epoch are its own incarnation's
  its_incarnation : incarnation_at recorded before (epoch_of node) node.place.slot ≡ Some node.incarnation
  its_incarnation = elim (told_one recorded before node told runs) [
    | inl (now, chain) ↦
        cond-true (epoch_of node == recorded.epoch) (incarnation_in recorded node.place.slot) (if suc (epoch_of node) == recorded.epoch then incarnation_in before node.place.slot else None) (eq-eqb (epoch_of node) recorded.epoch now)
        ∙ told.there runs
    | inr (old, chain) ↦
        cond-false (epoch_of node == recorded.epoch) (incarnation_in recorded node.place.slot) (if suc (epoch_of node) == recorded.epoch then incarnation_in before node.place.slot else None)
        (ne_eqb (epoch_of node) recorded.epoch (λ same. absurd (omega (arith, same, old))))
        ∙ cond-true (suc (epoch_of node) == recorded.epoch) (incarnation_in before node.place.slot) None (eq-eqb (suc (epoch_of node)) recorded.epoch old)
        ∙ subst (λ (r : Record). incarnation_in r node.place.slot ≡ Some node.incarnation) chain (its_own node.place node.incarnation placed (told.itself runs))
  ]

  module _ (write : Placed) where
    abbrev its_message : Message
    its_message = messages.Submit node.ticket write

    -- the write as it is seen
    abbrev its_submit : Submitted
    its_submit = record { origin = record { slot = node.place.slot; incarnation = node.incarnation; ticket = node.ticket }; write = write }

    -- one message more on a link shows the write
    one_shown : (link : List Envelope) → submitted_on recorded before node.place.slot (link ++ record { epoch = epoch_of node; message = its_message } ∷ []) ≡ submitted_on recorded before node.place.slot link ++ its_submit ∷ []
    one_shown link =
        flat_map-append (λ (e : Envelope). submitted_in node.place.slot (incarnation_at recorded before e.epoch node.place.slot) e.message) link (record { epoch = epoch_of node; message = its_message } ∷ [])
        ∙ ap (λ (o : Option ℕ). submitted_on recorded before node.place.slot link ++ (submitted_in node.place.slot o its_message ++ [])) its_incarnation

    module _ (old new : ℕ → ℕ → List Envelope) (slots : List ℕ) (apart : AllPairs (λ slot other. slot ≢ other) slots) (among : Contains slots node.place.slot) where
      -- on other links there is what was there
      others_same : (to : ℕ) → HasSent node.place.slot (send (Some to) its_message node) old new → (x y : ℕ) → (x ≡ node.place.slot → y ≢ to) → new x y ≡ old x y
      others_same to has x y other = elim (cases_eq x node.place.slot) [
        | inl from_it ↦ subst (λ (k : ℕ). new k y ≡ old k y) (sym from_it)
            (has.its y ∙ ap (λ (l : List Envelope). old node.place.slot y ++ l) (sent_elsewhere to its_message node y (other from_it)) ∙ append-nil (old node.place.slot y))
        | inr not_it ↦ has.others x y not_it
      ]

      -- it goes to a slot, at which somebody stands or nobody does
      shown_at : (o : Option ℕ) → HasSent node.place.slot (send o its_message node) old new → IsSameOrMore its_submit (submitted_among recorded before old slots) (submitted_among recorded before new slots)
      shown_at None has = inl (submits_apart recorded before old new slots (λ x y one other. elim (cases_eq x node.place.slot) [
        | inl from_it ↦ subst (λ (k : ℕ). new k y ≡ old k y) (sym from_it) (has.its y ∙ append-nil (old node.place.slot y))
        | inr not_it ↦ has.others x y not_it
      ]))
      shown_at (Some to) has = elim (is_there slots to) [
        | inl there ↦
            let at = split_submits recorded before old slots node.place.slot to apart among there in
            let link = submitted_on recorded before node.place.slot (old node.place.slot to) in
            inr (record {
              one = at.one ++ link;
              other = at.other;
              were = at.is old (λ x y other. refl) ∙ sym (append_assoc at.one link at.other);
              are = at.is new (others_same to has)
                  ∙ ap (λ (l : List Envelope). at.one ++ (submitted_on recorded before node.place.slot l ++ at.other)) (has.its to ∙ ap (λ (l : List Envelope). old node.place.slot to ++ l) (sent_there to its_message node))
                  ∙ ap (λ (l : List Submitted). at.one ++ (l ++ at.other)) (one_shown (old node.place.slot to))
                  ∙ ap (λ (l : List Submitted). at.one ++ l) (append_assoc link (its_submit ∷ []) at.other)
                  ∙ sym (append_assoc at.one link (its_submit ∷ at.other));
            })
        | inr nobody ↦ inl (submits_apart recorded before old new slots (λ x y one other. others_same to has x y (λ from_it same. nobody (subst (Contains slots) same other))))
      ]

-- what holds of each write holds still, if it does of the one more
all_more : (P : Submitted → Type 0) (x : Submitted) (old new : List Submitted) → IsSameOrMore x old new → P x → All P old → All P new
all_more P x old new (inl same) its all = subst (All P) (sym same) all
all_more P x old new (inr more) its all =
    let parts = subst (All P) more.were all in
    subst (All P) (sym more.are) (All-append P more.one (x ∷ more.other) (all_before P more.one more.other parts) (All-cons P x more.other its (all_behind P more.one more.other parts)))

-- ---- its token

-- it has the ticket under which it was submitted
same_ticket : (under : ℕ) (w : Waiting) → IsNew under w → (ticket : ℕ) → ticket_of w ≡ Some ticket → under ≡ ticket
same_ticket under (tokens.Plain t epoch number owed) (is, none) ticket has = sym is ∙ same_Some t ticket has
same_ticket under (tokens.Fua t epoch owed) (is, none) ticket has = sym is ∙ same_Some t ticket has
same_ticket under (tokens.Read offset len owed) none ticket has = absurd none
same_ticket under (tokens.Flush owed) none ticket has = absurd none

-- and knows no number
no_number : (last under : ℕ) (w : Waiting) → IsNew under w → IsApplied last w
no_number last under (tokens.Plain t epoch number owed) (is, none) = λ n some. let no : None ≡ Some n = sym none ∙ some in absurd cc
no_number last under (tokens.Fua t epoch owed) (is, none) = λ n some. let no : None ≡ Some n = sym none ∙ some in absurd cc
no_number last under (tokens.Read offset len owed) none = absurd none
no_number last under (tokens.Flush owed) none = absurd none

-- ---- what requests have left then

module _ (size : ℕ) (v : View) (above : List Member) (m : Member) (below : List Member) (d : Held) (rest : List Held) (first : m.demands ≡ d ∷ rest) (token : WriteToken) (write : Placed)
    (submits : ℕ → ℕ → List Envelope) where
  abbrev its_token : Waiting
  its_token = waits_for m.node.ticket (epoch_of m.node) token

  -- the member whose write is on its way
  abbrev submitting : Member
  submitting = record m { node = (submit token write m.node).node; demands = rest }

  abbrev old_submits : List Submitted
  old_submits = submitted_among v.recorded v.before v.submits (slots_of (above ++ m ∷ below))

  abbrev new_submits : List Submitted
  new_submits = submitted_among v.recorded v.before submits (slots_of (above ++ m ∷ below))

  abbrev were_there : List Kept → Requests
  were_there line = were size v above m submitting below v.links submits [] line

  abbrev are_there : List Kept → Requests
  are_there line = are size v above m submitting below v.links submits [] line

  abbrev its_write : Submitted
  its_write = record { origin = next_of m; write = write }

  -- nothing has its next ticket
  unused : (line : List Kept) → AreBefore (were_there line) (next_of m) → IsUnused (next_of m) (idle size v above m below line)
  unused line mine = record {
    line = All-weaker (λ k. IsBefore (next_of m) k.origin) (λ k. k.origin ≢ next_of m) (λ k is. not_it k.origin is) line mine.line;
    submits = All-weaker (λ x. IsBefore (next_of m) x.origin) (λ x. x.origin ≢ next_of m) (λ x is. not_it x.origin is) old_submits mine.submits;
    tokens = All-weaker (IsTokenBefore (next_of m)) (λ o. (ticket : ℕ) → ticket_of o.token ≡ Some ticket → origin_of o ticket ≢ next_of m)
        (λ o is ticket has. not_it (origin_of o ticket) (is ticket has)) (were_there line).tokens mine.tokens;
  }
    where
      not_it : (o : Origin) → IsBefore (next_of m) o → o ≢ next_of m
      not_it o is same =
          let lt : o.ticket < m.node.ticket = is (ap (λ (x : Origin). x.slot) same) (ap (λ (x : Origin). x.incarnation) same) in
          let same_one : o.ticket ≡ m.node.ticket = ap (λ (x : Origin). x.ticket) same in omega arith

  -- the member's next ticket is one more, and what was before it is before that
  tickets_then : (line : List Kept) → AllPairs (λ slot other. slot ≢ other) (slots_of (above ++ m ∷ below)) → IsNew m.node.ticket its_token → IsSameOrMore its_write old_submits new_submits
      → All (AreBefore (were_there line)) (map next_of (above ++ m ∷ below)) → All (AreBefore (are_there line)) (map next_of (above ++ submitting ∷ below))
  tickets_then line apart fresh shown before =
      let parts = subst (λ (ns : List Origin). All (AreBefore (were_there line)) ns) (map-append next_of above (m ∷ below)) before in
      let (one, other) = pairs_around (λ slot other. slot ≢ other) (map slot_of above) (slot_of m) (map slot_of below) (subst (AllPairs (λ slot other. slot ≢ other)) (map-append slot_of above (m ∷ below)) apart) in
      let mine : AreBefore (were_there line) (next_of m) = all_at (AreBefore (were_there line)) (map next_of above) (next_of m) (map next_of below) parts in
      subst (λ (ns : List Origin). All (AreBefore (are_there line)) ns) (sym (map-append next_of above (submitting ∷ below)))
      (All-append (AreBefore (are_there line)) (map next_of above) (next_of submitting ∷ map next_of below)
      (of_others above one (all_before (AreBefore (were_there line)) (map next_of above) (next_of m ∷ map next_of below) parts))
      (All-cons (AreBefore (are_there line)) (next_of submitting) (map next_of below) (more (next_of submitting) (wider mine) (λ same also. omega arith))
      (of_others below (λ i x lt same. other i x lt (sym same))
      (All-tail (AreBefore (were_there line)) (next_of m) (map next_of below) (all_behind (AreBefore (were_there line)) (map next_of above) (next_of m ∷ map next_of below) parts)))))
    where
      -- with the new write and its token
      more : (next : Origin) → AreBefore (were_there line) next → IsBefore next (next_of m) → AreBefore (are_there line) next
      more next is own = record {
        line = is.line;
        submits = all_more (λ x. IsBefore next x.origin) its_write old_submits new_submits shown own is.submits;
        tokens = subst (λ (os : List Owing). All (IsTokenBefore next) os) (sym (one_more size v above m below d rest first its_token))
            (All-append (IsTokenBefore next) (flat_map tokens_of above ++ owing_at m.node m.node.waiting) (at_member m.node its_token ∷ flat_map tokens_of below)
            (all_before (IsTokenBefore next) (flat_map tokens_of above ++ owing_at m.node m.node.waiting) (flat_map tokens_of below) waiting)
            (All-cons (IsTokenBefore next) (at_member m.node its_token) (flat_map tokens_of below)
            (λ ticket has. subst (λ (t : ℕ). IsBefore next (origin_of (at_member m.node its_token) t)) (same_ticket m.node.ticket its_token fresh ticket has) own)
            (all_behind (IsTokenBefore next) (flat_map tokens_of above ++ owing_at m.node m.node.waiting) (flat_map tokens_of below) waiting)));
      }
        where
          waiting : All (IsTokenBefore next) ((flat_map tokens_of above ++ owing_at m.node m.node.waiting) ++ flat_map tokens_of below)
          waiting = subst (λ (os : List Owing). All (IsTokenBefore next) os) (tokens_as_they_are size v above m below d rest first line) is.tokens

      wider : AreBefore (were_there line) (next_of m) → AreBefore (were_there line) (next_of submitting)
      wider is = record {
        line = All-weaker (λ k. IsBefore (next_of m) k.origin) (λ k. IsBefore (next_of submitting) k.origin) (λ k was slot incarnation. let lt = was slot incarnation in omega arith) line is.line;
        submits = All-weaker (λ x. IsBefore (next_of m) x.origin) (λ x. IsBefore (next_of submitting) x.origin) (λ x was slot incarnation. let lt = was slot incarnation in omega arith) old_submits is.submits;
        tokens = All-weaker (IsTokenBefore (next_of m)) (IsTokenBefore (next_of submitting)) (λ o was ticket has slot incarnation. let lt = was ticket has slot incarnation in omega arith) (were_there line).tokens is.tokens;
      }

      of_others : (ms : List Member) → All (λ slot. slot ≢ slot_of m) (map slot_of ms) → All (AreBefore (were_there line)) (map next_of ms) → All (AreBefore (are_there line)) (map next_of ms)
      of_others [] other all = All-nil (AreBefore (are_there line))
      of_others (x ∷ xs) other all =
          All-cons (AreBefore (are_there line)) (next_of x) (map next_of xs)
          (more (next_of x) (All-head (AreBefore (were_there line)) (next_of x) (map next_of xs) all) (λ same also. absurd (All-head (λ slot. slot ≢ slot_of m) (slot_of x) (map slot_of xs) other (sym same))))
          (of_others xs (All-tail (λ slot. slot ≢ slot_of m) (slot_of x) (map slot_of xs) other) (All-tail (AreBefore (were_there line)) (next_of x) (map next_of xs) all))

  -- what is left where the token waits, with these writes on their way
  abbrev waiting_with : List Kept → List Submitted → Requests
  waiting_with line sent = record (idle size v above m below line) {
    demands = flat_map (λ x. x.demands) above ++ (rest ++ flat_map (λ x. x.demands) below);
    tokens = (flat_map tokens_of above ++ owing_at m.node m.node.waiting) ++ at_member m.node its_token ∷ flat_map tokens_of below;
    submits = sent;
  }

  -- Its token waits, whether its write is among those on the submit links or not.
  waits_so : (line : List Kept) (backed : ℕ) → written d.request ≡ Some write → IsOfKind its_token d.request → IsNew m.node.ticket its_token
      → (debt_of its_token).session ≡ d.session → (debt_of its_token).cookie ≡ d.cookie
      → AreBefore (were_there line) (next_of m) → IsSameOrMore its_write old_submits new_submits → Stays backed (idle size v above m below line) (waiting_with line new_submits)
  waits_so line backed writes kind fresh session cookie mine shown s stands = go shown
    where
      with_one : (one other : List Submitted) → old_submits ≡ one ++ other → requests.StandsFor backed (waiting_with line (one ++ its_write ∷ other)) s
      with_one one other is =
          demands.submits size backed (idle size v above m below line) d (flat_map (λ x. x.demands) above) (rest ++ flat_map (λ x. x.demands) below) (split size v above m below d rest first line)
          write (at_member m.node its_token) m.node.ticket (flat_map tokens_of above ++ owing_at m.node m.node.waiting) (flat_map tokens_of below) one other writes kind fresh session cookie (unused line mine)
          (tokens_as_they_are size v above m below d rest first line) is s stands

      go : IsSameOrMore its_write old_submits new_submits → requests.StandsFor backed (waiting_with line new_submits) s
      go (inl same) =
          subst (λ (l : List Submitted). requests.StandsFor backed (waiting_with line l) s) (append-nil old_submits ∙ sym same)
          (loses_submits backed (waiting_with line (old_submits ++ its_write ∷ [])) old_submits (its_write ∷ []) [] refl s (with_one old_submits [] (sym (append-nil old_submits))))
      go (inr more) = subst (λ (l : List Submitted). requests.StandsFor backed (waiting_with line l) s) (sym more.are) (with_one more.one more.other more.were)

  -- ---- the step

  module _ (runs : m.node.stopped ≡ None) (placed : is_member m.node.place ≡ true) (writes : written d.request ≡ Some write) (kind : IsOfKind its_token d.request) (fresh : IsNew m.node.ticket its_token)
      (session : (debt_of its_token).session ≡ d.session) (cookie : (debt_of its_token).cookie ≡ d.cookie) (has : HasSent (slot_of m) (submit token write m.node).out.messages v.submits submits)
      (s : State) (line : List Kept) (backed : ℕ) (stands : StandsWith size (with_members v (above ++ m ∷ below)) s line backed) where
    told : IsTold v.recorded v.before m.node
    told = all_at (λ x. IsTold v.recorded v.before x.node) above m below stands.places.told

    -- it stands among the members
    among : Contains (slots_of (above ++ m ∷ below)) (slot_of m)
    among = subst (λ (slots : List ℕ). Contains slots (slot_of m)) (sym (map-append slot_of above (m ∷ below)))
        (Contains-append_right (map slot_of above) (slot_of m ∷ map slot_of below) (slot_of m) (0, omega arith, refl))

    shown : IsSameOrMore its_write old_submits new_submits
    shown = shown_at v.recorded v.before m.node told runs placed write v.submits submits (slots_of (above ++ m ∷ below)) stands.slots among (head_of m.node.place.chain) has

    before : All (AreBefore (were_there line)) (map next_of (above ++ m ∷ below))
    before = subst (λ (r : Requests). All (AreBefore r) (map next_of (above ++ m ∷ below))) (requests_split v line above m below) stands.tickets

    mine : AreBefore (were_there line) (next_of m)
    mine = all_at (AreBefore (were_there line)) (map next_of above) (next_of m) (map next_of below) (subst (λ (ns : List Origin). All (AreBefore (were_there line)) ns) (map-append next_of above (m ∷ below)) before)

    fits : Fits size v above m submitting below v.links submits [] line line backed backed
    fits = record {
      slot = refl;
      incarnation = refl;
      order = subst (λ (hops : List Hop). InOrder v.told.front line hops)
          (sym (hops_same (net_of v.recorded v.links (above ++ m ∷ below)) (net_of v.recorded v.links (above ++ submitting ∷ below)) refl refl (λ x. nodes_same above m submitting below x refl refl) (λ x y. refl))) (stands.order, stands.holders);
      volumes = all_changed (HasVolume size v.told.front line) above m submitting below (λ is. is) stands.volumes;
      told = told;
      behind = λ late. late;
      linked = linked_submitted v.recorded v.before v.told.front (slot_of m) (submit token write m.node).out.messages v.links v.submits submits has
          (all_sent (IsProperSubmit v.recorded v.before (slot_of m)) (head_of m.node.place.chain) (messages.Submit m.node.ticket write) m.node
          (λ to is. (told.within, goes_to_head v.recorded v.before (above ++ m ∷ below) m.node stands.places told runs placed to is))) stands.links;
      numbers = record { applied = applied_more (last_of m.node) m.node.waiting its_token (no_number (last_of m.node) m.node.ticket its_token fresh) (all_at HasApplied above m below stands.numbers).applied; none = λ stops. absurd (stops runs) };
      disks = subst (λ (ds : List Disk). IsBacked v.told.front v.told.mask v.told.gauges v.told.receipts v.told.musters ds) (sym (flat_same (disk_in v.recorded v.writing) above m submitting below refl)) stands.disks;
      backs = subst (All (λ x. backed ≤ x.durable)) (sym (flat_same (disk_in v.recorded v.writing) above m submitting below refl)) stands.backs;
      raised = All-nil (λ front. front ≤ v.told.front);
      tickets = tickets_then line stands.slots fresh shown before;
      origins = stands.origins;
      clients = shows_stay size backed (were_there line) (are_there line)
          (λ t is. subst (λ (os : List Owing). requests.StandsFor backed (record (waiting_with line new_submits) { tokens = os }) t) (sym (one_more size v above m below d rest first its_token))
          (waits_so line backed writes kind fresh session cookie mine shown t (it_drops_found size v above m below line backed t is)));
    }

pub submits_write : SubmitsWrite
submits_write size v above m below d rest token write submits runs placed first writes kind fresh session cookie has =
    changes size v above m (submitting size v above m below d rest first token write submits) below v.links submits []
    (λ s line backed stands. (line, backed, fits size v above m below d rest first token write submits runs placed writes kind fresh session cookie has s line backed stands))
