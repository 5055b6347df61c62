-- What one member's tokens, tickets and fronts go through: lemmas for the crate above.
use Rattle.std.proofs.Common.{◌≡◌, ℕ, ◌-◌, ◌<◌, ◌≤◌, Bool, true, false, Option, Some, None, List, [], ◌∷◌, ◌++◌, map, refl, sym, ◌∙◌, ap, subst, inl, inr, arith}
use Rattle.std.specs.Prelude.{All, filter, not, slice_get, ◌&&◌, ◌==◌}
use Rattle.std.proofs.lemmas.Bool.{cases_Bool, eqb-true}
use Rattle.std.proofs.lemmas.Bool.Decides.{nat_tests}
use Rattle.std.proofs.lemmas.List.{append-nil}
use Rattle.std.proofs.lemmas.List.Elements.{All-cons, All-head, All-tail}
use Rattle.flush_barrier.specs.Reply.{GivenReply}
use Rattle.version_table.specs.declared.kept.Kept.{Kept}
use Rattle.version_table.specs.declared.kept.Origin.{Origin}
use Rattle.chain_steps.specs.Node.{NodeState}
use Rattle.chain_steps.specs.Steps.{is_own, told_number}
use Rattle.chain_steps.specs.Waiting.{is_paid_flush, is_paid_write, is_up_to, learned}
use Rattle.chain_steps.specs.declared.found.Found.{Found}
use Rattle.chain_steps.specs.declared.found.Found.TheVariants as founds
use Rattle.chain_steps.specs.declared.waiting.Waiting.{Waiting}
use Rattle.chain_steps.specs.declared.waiting.Waiting.TheVariants as tokens
use Rattle.world_model.specs.Chain.{ArePutOut, IsTokenBefore, at_member, looked_by, owing_at, reply_event}
use Rattle.world_model.specs.Event.{ClientEvent}
use Rattle.world_model.specs.Requests.{Looked, Owing, Requests, ticket_of}
use Rattle.world_model.specs.Requests as requests
use Rattle.world_model.proofs.Runs.{plays_then}
use Rattle.world_model.proofs.Settling.{changes_all}
use Rattle.world_model.proofs.Standing.{Shows, Stays, shows_stay}
use Rattle.world_model.proofs.TokenSteps.{drops_looked, learns}

-- ---- two steps, one after the other

-- what clients don't see, and then what they see
pub stays_then : (size backed : ℕ) (q r t : Requests) (events : List ClientEvent) → Stays backed q r → Shows size backed r t events → Shows size backed q t events
stays_then size backed q r t events one two = plays_then size (requests.StandsFor backed q) (requests.StandsFor backed r) (requests.StandsFor backed t) [] events (shows_stay size backed q r one) two

pub then_stays : (size backed : ℕ) (q r t : Requests) (events : List ClientEvent) → Shows size backed q r events → Stays backed r t → Shows size backed q t events
then_stays size backed q r t events one two =
    subst (λ (es : List ClientEvent). Shows size backed q t es) (append-nil events)
    (plays_then size (requests.StandsFor backed q) (requests.StandsFor backed r) (requests.StandsFor backed t) events [] one (shows_stay size backed r t two))

-- ---- a front that was looked up is dropped

pub drops_found : (backed : ℕ) (r : Requests) (slot : ℕ) (found : Option Found) (one other : List Looked)
    → Stays backed (record r { looked = one ++ (looked_by slot found ++ other) }) (record r { looked = one ++ other })
drops_found backed r slot None one other s stands = stands
drops_found backed r slot (Some (founds.Raised front)) one other s stands = stands
drops_found backed r slot (Some (founds.Looked front)) one other s stands =
    drops_looked backed (record r { looked = one ++ record { slot = slot; front = front.number } ∷ other }) (record { slot = slot; front = front.number }) one other refl s stands

-- ---- tokens of one member, and their tickets

-- tokens that a test leaves have tickets as they had
pub tokens_left : (node : NodeState) (passes : Waiting → Bool) (next : Origin) (ws : List Waiting) → All (IsTokenBefore next) (owing_at node ws)
    → All (IsTokenBefore next) (owing_at node (filter (λ w. not (passes w)) ws))
tokens_left node passes next [] all = all
tokens_left node passes next (w ∷ ws) all =
    let here : IsTokenBefore next (at_member node w) = All-head (IsTokenBefore next) (at_member node w) (owing_at node ws) all in
    let rest = tokens_left node passes next ws (All-tail (IsTokenBefore next) (at_member node w) (owing_at node ws) all) in
    elim (cases_Bool (passes w)) [
      | inl goes ↦ rw goes rest
      | inr stays ↦ rw stays (All-cons (IsTokenBefore next) (at_member node w) (owing_at node (filter (λ x. not (passes x)) ws)) here rest)
    ]

-- and so have tokens that change
pub tokens_changed : (node : NodeState) (f : Waiting → Waiting) → ((w : Waiting) → ticket_of (f w) ≡ ticket_of w) → (next : Origin) (ws : List Waiting) → All (IsTokenBefore next) (owing_at node ws)
    → All (IsTokenBefore next) (owing_at node (map f ws))
tokens_changed node f same next [] all = all
tokens_changed node f same next (w ∷ ws) all =
    let here : IsTokenBefore next (at_member node w) = All-head (IsTokenBefore next) (at_member node w) (owing_at node ws) all in
    All-cons (IsTokenBefore next) (at_member node (f w)) (owing_at node (map f ws)) (λ ticket is. here ticket (sym (same w) ∙ is))
    (tokens_changed node f same next ws (All-tail (IsTokenBefore next) (at_member node w) (owing_at node ws) all))

-- ---- a token learns its write's number

learned_ticket : (under n : ℕ) (w : Waiting) → ticket_of (learned under n w) ≡ ticket_of w
learned_ticket under n (tokens.Plain ticket epoch number token) = refl
learned_ticket under n (tokens.Fua ticket epoch token) = refl
learned_ticket under n (tokens.Read offset len token) = refl
learned_ticket under n (tokens.Flush token) = refl

origin_is : (ticket one two from other : ℕ) → one ≡ two → from ≡ other
    → (let a : Origin = record { slot = one; incarnation = from; ticket = ticket } in let b : Origin = record { slot = two; incarnation = other; ticket = ticket } in a ≡ b)
origin_is ticket one two from other same also = rw (same, also) refl

own_origin : (o : Origin) (slot incarnation : ℕ) → ((o.slot == slot) && (o.incarnation == incarnation)) ≡ true → o ≡ record { slot = slot; incarnation = incarnation; ticket = o.ticket }
own_origin o slot incarnation own = elim (cases_Bool (o.slot == slot)) [
  | inl same ↦ elim (cases_Bool (o.incarnation == incarnation)) [
    | inl also ↦ origin_is o.ticket o.slot slot o.incarnation incarnation (eqb-true o.slot slot same) (eqb-true o.incarnation incarnation also)
    | inr not ↦ let no : false ≡ true = rw (same, not) at own in absurd cc
  ]
  | inr not ↦ let no : false ≡ true = rw not at own in absurd cc
]

module _ (backed : ℕ) (r : Requests) (node : NodeState) (k : Kept) (first last : List Owing) where
  abbrev with_waiting : List Waiting → Requests
  with_waiting ws = record r { tokens = first ++ (owing_at node ws ++ last) }

  -- where the member submitted it
  pub learns_number : (n : ℕ) → 0 < n → slice_get r.line (n - 1) ≡ Some k → Stays backed (with_waiting node.waiting) (with_waiting (told_number n k.origin node))
  learns_number n some at s stands = elim (cases_Bool (is_own k.origin node)) [
    | inl own ↦ rw own (changes_all 0 backed r (at_member node) (learned k.origin.ticket n)
        (λ w one other. learns 0 backed (record r { tokens = one ++ at_member node w ∷ other }) (at_member node w) one other refl k.origin.ticket n k some at (its_origin own)) node.waiting first last s stands)
    | inr other ↦ rw other stands
  ]
    where
      its_origin : is_own k.origin node ≡ true → k.origin ≡ record { slot = node.place.slot; incarnation = node.incarnation; ticket = k.origin.ticket }
      its_origin own = own_origin k.origin node.place.slot node.incarnation own

  pub tickets_learned : (n : ℕ) (next : Origin) → All (IsTokenBefore next) (owing_at node node.waiting) → All (IsTokenBefore next) (owing_at node (told_number n k.origin node))
  tickets_learned n next all = elim (cases_Bool (is_own k.origin node)) [
    | inl own ↦ rw own (tokens_changed node (learned k.origin.ticket n) (learned_ticket k.origin.ticket n) next node.waiting all)
    | inr other ↦ rw other all
  ]

-- ---- replies to some, and then to others

-- a number that is known is at most the limit
pub up_to : (limit : ℕ) (number : Option ℕ) → is_up_to limit number ≡ true → (n : ℕ) × (number ≡ Some n) × (n ≤ limit)
up_to limit None is = absurd cc
up_to limit (Some n) is = (n, refl, grind (arith, nat_tests))

-- events of some replies and then others are those of the some and then of the others
pub put_out_split : (rs others : List GivenReply) (events : List ClientEvent) → ArePutOut (rs ++ others) events
    → (one other : List ClientEvent) × (events ≡ one ++ other) × ArePutOut rs one × ArePutOut others other
put_out_split [] others events out = ([], events, refl, refl, out)
put_out_split (r ∷ rs) others events (inl silent) =
    let (one, other, is, first, second) = put_out_split rs others events silent in
    (one, other, is, inl first, second)
put_out_split (r ∷ rs) others events (inr (more, is, out)) =
    let (one, other, same, first, second) = put_out_split rs others more out in
    (reply_event r ∷ one, other, is ∙ ap (λ (es : List ClientEvent). reply_event r ∷ es) same, inr (one, refl, first), second)

pub twice_not : (passes : Waiting → Bool) (ws : List Waiting) → filter (λ w. not (not (passes w))) ws ≡ filter passes ws
twice_not passes [] = refl
twice_not passes (w ∷ ws) = elim (cases_Bool (passes w)) [
  | inl stays ↦ rw stays (ap (λ (l : List Waiting). w ∷ l) (twice_not passes ws))
  | inr goes ↦ rw goes (twice_not passes ws)
]

-- FLUSHes are no writes: those that are paid stay when the writes go
pub flushes_stay : (f : ℕ) (ws : List Waiting) → filter (is_paid_flush f) (filter (λ w. not (is_paid_write f w)) ws) ≡ filter (is_paid_flush f) ws
flushes_stay f [] = refl
flushes_stay f (tokens.Plain t e number token ∷ ws) = flushes_stay f ws
flushes_stay f (tokens.Fua t e token ∷ ws) = elim (cases_Bool (is_up_to f token.number)) [
  | inl paid ↦ rw paid (flushes_stay f ws)
  | inr unpaid ↦ rw unpaid (flushes_stay f ws)
]
flushes_stay f (tokens.Read offset len token ∷ ws) = flushes_stay f ws
flushes_stay f (tokens.Flush token ∷ ws) = elim (cases_Bool (is_up_to f token.number)) [
  | inl paid ↦ rw paid (ap (λ (l : List Waiting). tokens.Flush token ∷ l) (flushes_stay f ws))
  | inr unpaid ↦ rw unpaid (flushes_stay f ws)
]

-- and both are gone
pub both_gone : (f : ℕ) (ws : List Waiting) → filter (λ w. not (is_paid_flush f w)) (filter (λ w. not (is_paid_write f w)) ws) ≡ filter (λ w. not (is_paid_write f w) && not (is_paid_flush f w)) ws
both_gone f [] = refl
both_gone f (w ∷ ws) = elim (cases_Bool (is_paid_write f w)) [
  | inl paid ↦ rw paid (both_gone f ws)
  | inr unpaid ↦ rw unpaid (elim (cases_Bool (is_paid_flush f w)) [
    | inl gone ↦ rw gone (both_gone f ws)
    | inr left ↦ rw left (ap (λ (l : List Waiting). w ∷ l) (both_gone f ws))
  ])
]
