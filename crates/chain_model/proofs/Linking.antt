-- That what members send belongs where it goes: lemmas.
use Rattle.std.proofs.Common.{◌≡◌, ◌≢◌, inl, inr, ℕ, ◌≤◌, true, ◌==◌, Option, None, Some, List, [], ◌∷◌, refl, sym, ◌∙◌, ap, subst, arith, true}
use Rattle.std.specs.Prelude.{All}
use Rattle.std.proofs.lemmas.Bool.{cases_eq, cond-false, cond-true, eq-eqb, ne_eqb}
use Rattle.std.proofs.lemmas.List.Elements.{All-append, All-cons, All-head, All-nil, All-tail}
use Rattle.std.proofs.lemmas.Option.{same_Some}
use Rattle.configurations.specs.Record.{Record}
use Rattle.chain_steps.specs.Node.{NodeState, epoch_of}
use Rattle.chain_steps.specs.Place.{head_of, incarnation_in, is_member, successor_of}
use Rattle.chain_steps.specs.Steps.{send, send_all}
use Rattle.chain_steps.specs.declared.message.Envelope.{Envelope}
use Rattle.chain_steps.specs.declared.message.Message.{Message}
use Rattle.chain_steps.specs.declared.message.Sent.{Sent}
use Rattle.chain_model.specs.Placed.{Apart, above_in, below_in}
use Rattle.chain_model.specs.Chain.{AreLinked, ArePlaced, Belongs, BelongsToHead, IsAbove, IsForHead, IsTold}
use Rattle.chain_model.specs.Laws.{HasPassed, HasSent, HasTaken, sent_to}
use Rattle.chain_model.proofs.Ordering.{told_one}
use Rattle.chain_model.proofs.PlaceSteps.{successor_is}
use Rattle.chain_model.proofs.Incarnations.{its_own}
use Rattle.chain_model.specs.View.{Member, chain_of}

-- ---- who is below whom is above whom

absent : (x y : ℕ) (c : List ℕ) → All (λ z. z ≢ y) c → above_in (x ∷ c) y ≡ None
absent x y [] others = refl
absent x y (z ∷ c) others = cond-false (z == y) (Some x) (above_in (z ∷ c) y) (ne_eqb z y (All-head (λ k. k ≢ y) z c others)) ∙ absent z y c (All-tail (λ k. k ≢ y) z c others)

below_above : (c : List ℕ) (s y : ℕ) → Apart c → below_in c s ≡ Some y → above_in c y ≡ Some s
below_above [] s y apart is = absurd cc
below_above (z ∷ []) s y apart is = absurd cc
below_above (z ∷ w ∷ c) s y (others, (after, apart)) is = elim (cases_eq z s) [
  | inl here ↦
      let next : w ≡ y = same_Some w y (sym (cond-true (z == s) (Some w) (below_in (w ∷ c) s) (eq-eqb z s here)) ∙ is) in
      cond-true (w == y) (Some z) (above_in (w ∷ c) y) (eq-eqb w y next) ∙ ap Some here
  | inr further ↦
      let rest : above_in (w ∷ c) y ≡ Some s = below_above (w ∷ c) s y (after, apart) (sym (cond-false (z == s) (Some w) (below_in (w ∷ c) s) (ne_eqb z s further)) ∙ is) in
      cond-false (w == y) (Some z) (above_in (w ∷ c) y)
      (ne_eqb w y (λ same. let none : above_in (w ∷ c) w ≡ None = absent w w c after in let some : above_in (w ∷ c) w ≡ Some s = subst (λ k. above_in (w ∷ c) k ≡ Some s) (sym same) rest in
      let no : None ≡ Some s = sym none ∙ some in absurd cc)) ∙ rest
]

-- ---- of a member that runs

module _ (recorded before : Record) (members : List Member) (node : NodeState) (places : ArePlaced recorded before members) (told : IsTold recorded before node) (runs : node.stopped ≡ None) where
  -- what it sends to the one below goes down the chain of its epoch
  pub goes_down : (to : ℕ) → successor_of node.place ≡ Some to → IsAbove recorded before (epoch_of node) node.place.slot to
  goes_down to next = elim (told_one recorded before node told runs) [
    | inl (now, chain) ↦ record {
      now = λ is. below_above (chain_of recorded) node.place.slot to places.apart (sym (successor_is recorded node.place.slot places.apart) ∙ ap (λ (r : Record). successor_of (record { slot = node.place.slot; chain = r })) (sym chain) ∙ next);
      old = λ is. absurd (omega (arith, now));
    }
    | inr (old, chain) ↦ record {
      now = λ is. absurd (omega (arith, old));
      old = λ is. below_above (chain_of before) node.place.slot to places.apart_before
          (sym (successor_is before node.place.slot places.apart_before) ∙ ap (λ (r : Record). successor_of (record { slot = node.place.slot; chain = r })) (sym chain) ∙ next);
    }
  ]

  -- what it submits goes to the head of its chain, if it is in that
  pub goes_to_head : is_member node.place ≡ true → (to : ℕ) → head_of node.place.chain ≡ Some to → IsForHead recorded before (epoch_of node) node.place.slot to
  goes_to_head placed to head = elim (told_one recorded before node told runs) [
    | inl (now, chain) ↦ record {
      now = λ is. subst (λ (r : Record). (incarnation_in r node.place.slot ≢ None) × (head_of r ≡ Some to)) chain (in_its_chain, head);
      old = λ is. absurd (omega (arith, now));
    }
    | inr (old, chain) ↦ record {
      now = λ is. absurd (omega (arith, old));
      old = λ is. subst (λ (r : Record). (incarnation_in r node.place.slot ≢ None) × (head_of r ≡ Some to)) chain (in_its_chain, head);
    }
  ]
    where
      in_its_chain : incarnation_in node.place.chain node.place.slot ≢ None
      in_its_chain none = let no : Some node.incarnation ≡ None = sym (its_own node.place node.incarnation placed (told.itself runs)) ∙ none in cc

-- ---- links

-- a message that may be on the chain link, and on the submit link
abbrev pub IsProper : Record → Record → ℕ → ℕ → ℕ → Envelope → Type 0
IsProper recorded before front from to e = (e.epoch ≤ recorded.epoch) × Belongs recorded before front e.epoch from to e.message

abbrev pub IsProperSubmit : Record → Record → ℕ → ℕ → Envelope → Type 0
IsProperSubmit recorded before from to e = (e.epoch ≤ recorded.epoch) × BelongsToHead recorded before e.epoch from to e.message

-- messages for one member, and for no other
pub all_sent : (P : ℕ → Envelope → Type 0) (o : Option ℕ) (message : Message) (node : NodeState) → ((to : ℕ) → o ≡ Some to → P to (record { epoch = epoch_of node; message = message })) → (to : ℕ)
    → All (P to) (sent_to to (send o message node))
all_sent P None message node fine to = All-nil (P to)
all_sent P (Some slot) message node fine to = elim (cases_eq slot to) [
  | inl here ↦ subst (All (P to)) (sym (cond-true (slot == to) (record { epoch = epoch_of node; message = message } ∷ []) [] (eq-eqb slot to here)))
      (All-cons (P to) (record { epoch = epoch_of node; message = message }) [] (fine to (ap Some here)) (All-nil (P to)))
  | inr other ↦ subst (All (P to)) (sym (cond-false (slot == to) (record { epoch = epoch_of node; message = message } ∷ []) [] (ne_eqb slot to other))) (All-nil (P to))
]

pub all_sent_again : (P : ℕ → Envelope → Type 0) (o : Option ℕ) (epoch : ℕ) (ms : List Message) → ((to : ℕ) → o ≡ Some to → All (λ m. P to (record { epoch = epoch; message = m })) ms) → (to : ℕ)
    → All (P to) (sent_to to (send_all o epoch ms))
all_sent_again P None epoch ms fine to = All-nil (P to)
all_sent_again P (Some slot) epoch [] fine to = All-nil (P to)
all_sent_again P (Some slot) epoch (m ∷ ms) fine to =
    let rest = all_sent_again P (Some slot) epoch ms (λ y is. All-tail (λ x. P y (record { epoch = epoch; message = x })) m ms (fine y is)) to in
    elim (cases_eq slot to) [
      | inl here ↦ subst (All (P to)) (sym (cond-true (slot == to) (record { epoch = epoch; message = m } ∷ sent_to to (send_all (Some slot) epoch ms)) (sent_to to (send_all (Some slot) epoch ms)) (eq-eqb slot to here)))
          (All-cons (P to) (record { epoch = epoch; message = m }) (sent_to to (send_all (Some slot) epoch ms)) (All-head (λ x. P to (record { epoch = epoch; message = x })) m ms (fine to (ap Some here))) rest)
      | inr other ↦ subst (All (P to)) (sym (cond-false (slot == to) (record { epoch = epoch; message = m } ∷ sent_to to (send_all (Some slot) epoch ms)) (sent_to to (send_all (Some slot) epoch ms)) (ne_eqb slot to other))) rest
    ]

module _ (recorded before : Record) (front : ℕ) where
  pub linked_sent : (slot : ℕ) (sent : List Sent) (links new_links submits : ℕ → ℕ → List Envelope) → HasSent slot sent links new_links → ((to : ℕ) → All (IsProper recorded before front slot to) (sent_to to sent))
      → AreLinked recorded before front links submits → AreLinked recorded before front new_links submits
  linked_sent slot sent links new_links submits has fine is = record {
    links_of = λ from to. elim (cases_eq from slot) [
      | inl here ↦ subst (λ k. All (IsProper recorded before front k to) (new_links k to)) (sym here)
          (subst (All (IsProper recorded before front slot to)) (sym (has.its to)) (All-append (IsProper recorded before front slot to) (links slot to) (sent_to to sent) (is.links_of slot to) (fine to)))
      | inr other ↦ subst (All (IsProper recorded before front from to)) (sym (has.others from to other)) (is.links_of from to)
    ];
    submits_of = is.submits_of;
  }

  -- one message fewer
  fewer : (P : ℕ → ℕ → Envelope → Type 0) (from slot : ℕ) (envelope : Envelope) (old new : ℕ → ℕ → List Envelope) → HasTaken from slot envelope old new → ((x y : ℕ) → All (P x y) (old x y)) → (x y : ℕ) → All (P x y) (new x y)
  fewer P from slot envelope old new has all x y = elim (cases_eq x from) [
    | inl here ↦ elim (cases_eq y slot) [
      | inl there ↦ subst (λ k. All (P k y) (new k y)) (sym here) (subst (λ k. All (P from k) (new from k)) (sym there) (All-tail (P from slot) envelope (new from slot) (subst (All (P from slot)) has.first (all from slot))))
      | inr other ↦ subst (All (P x y)) (sym (has.others x y (λ same. other))) (all x y)
    ]
    | inr other ↦ subst (All (P x y)) (sym (has.others x y (λ same. absurd (other same)))) (all x y)
  ]

  pub linked_passed : (from slot : ℕ) (envelope : Envelope) (sent : List Sent) (links new_links submits : ℕ → ℕ → List Envelope) → HasPassed from slot envelope sent links new_links
      → ((to : ℕ) → All (IsProper recorded before front slot to) (sent_to to sent)) → AreLinked recorded before front links submits → AreLinked recorded before front new_links submits
  linked_passed from slot envelope sent links new_links submits has fine is =
      linked_sent slot sent has.between new_links submits has.sends fine (record { links_of = fewer (IsProper recorded before front) from slot envelope links has.between has.taken is.links_of; submits_of = is.submits_of })

  pub linked_submitted : (slot : ℕ) (sent : List Sent) (links submits new_submits : ℕ → ℕ → List Envelope) → HasSent slot sent submits new_submits → ((to : ℕ) → All (IsProperSubmit recorded before slot to) (sent_to to sent))
      → AreLinked recorded before front links submits → AreLinked recorded before front links new_submits
  linked_submitted slot sent links submits new_submits has fine is = record {
    links_of = is.links_of;
    submits_of = λ from to. elim (cases_eq from slot) [
      | inl here ↦ subst (λ k. All (IsProperSubmit recorded before k to) (new_submits k to)) (sym here)
          (subst (All (IsProperSubmit recorded before slot to)) (sym (has.its to)) (All-append (IsProperSubmit recorded before slot to) (submits slot to) (sent_to to sent) (is.submits_of slot to) (fine to)))
      | inr other ↦ subst (All (IsProperSubmit recorded before from to)) (sym (has.others from to other)) (is.submits_of from to)
    ];
  }

  pub linked_taken : (from slot : ℕ) (envelope : Envelope) (links submits new_submits : ℕ → ℕ → List Envelope) → HasTaken from slot envelope submits new_submits
      → AreLinked recorded before front links submits → AreLinked recorded before front links new_submits
  linked_taken from slot envelope links submits new_submits has is =
      record { links_of = is.links_of; submits_of = fewer (IsProperSubmit recorded before) from slot envelope submits new_submits has is.submits_of }

  -- the first message of a chain link is where it belongs
  pub first_proper : (from slot : ℕ) (envelope : Envelope) (links new_links submits : ℕ → ℕ → List Envelope) → HasTaken from slot envelope links new_links → AreLinked recorded before front links submits
      → IsProper recorded before front from slot envelope
  first_proper from slot envelope links new_links submits has is = All-head (IsProper recorded before front from slot) envelope (new_links from slot) (subst (All (IsProper recorded before front from slot)) has.first (is.links_of from slot))
