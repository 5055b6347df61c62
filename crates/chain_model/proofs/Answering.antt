-- What clients see when a member answers, refuses or binds the tokens that wait at it: lemmas.
use Rattle.std.proofs.Common.{◌≡◌, ℕ, ◌≤◌, Bool, true, Some, None, List, [], ◌∷◌, ◌++◌, map, take, drop, refl, sym, subst, inl, inr, arith}
use Rattle.std.specs.Prelude.{All, Contains, filter, not, ◌&&◌}
use Rattle.std.proofs.lemmas.Bool.{cases_Bool}
use Rattle.std.proofs.lemmas.Bool.Decides.{nat_tests}
use Rattle.std.proofs.lemmas.List.Elements.{All-cons, All-head, All-tail}
use Rattle.flush_barrier.specs.declared.error_code.ErrorCode.TheVariants.{Io}
use Rattle.chain_steps.specs.Node.{NodeState}
use Rattle.chain_steps.specs.Steps.{asked_bytes}
use Rattle.chain_steps.specs.Waiting.{bound, is_committed, is_paid_flush, is_paid_write, is_read, reply_to, reply_with}
use Rattle.chain_steps.specs.declared.waiting.Waiting.{Waiting}
use Rattle.chain_steps.specs.declared.waiting.Waiting.TheVariants as tokens
use Rattle.world_model.specs.Chain.{ArePutOut, at_member, owing_at, reply_event}
use Rattle.world_model.specs.Event.{ClientEvent}
use Rattle.world_model.proofs.MemberSteps.{both_gone, flushes_stay, put_out_split, up_to}
use Rattle.world_model.specs.Order.{volume_after}
use Rattle.world_model.specs.Requests.{Looked, Owing, Requests, StandsFor, ticket_of}
use Rattle.world_model.proofs.Runs.{plays_then}
use Rattle.world_model.proofs.Settling.{changes_all, settles_all}
use Rattle.world_model.proofs.Standing.{Shows, Stays}
use Rattle.world_model.proofs.TokenSteps.{answers_flush, answers_fua, answers_plain, answers_read, binds, drops_token, refuses_token}
use Rattle.chain_model.specs.Chain.{IsApplied}

module _ (size backed : ℕ) (r : Requests) (node : NodeState) where
  -- with these tokens
  abbrev pub owing : List Owing → Requests
  owing ts = record r { tokens = ts }

  -- with tokens of the member between others
  abbrev pub owing_here : List Owing → List Owing → List Waiting → Requests
  owing_here first last ws = record r { tokens = first ++ (owing_at node ws ++ last) }

  drops_one : (w : Waiting) (first last : List Owing) → Stays backed (owing (first ++ at_member node w ∷ last)) (owing (first ++ last))
  drops_one w first last = drops_token size backed (owing (first ++ at_member node w ∷ last)) (at_member node w) first last refl

  -- ---- it refuses those that pass a test

  pub refuses_those : (passes : Waiting → Bool) (ws : List Waiting) (first last : List Owing) (events : List ClientEvent) → ArePutOut (map (reply_to (Some Io)) (filter passes ws)) events
      → Shows size backed (owing_here first last ws) (owing_here first last (filter (λ w. not (passes w)) ws)) events
  refuses_those passes = settles_all size backed r (at_member node) passes (reply_to (Some Io))
      (λ w first last passed. refuses_token size backed (owing (first ++ at_member node w ∷ last)) (at_member node w) first last refl Io) drops_one

  -- ---- with more that it knows to be committed, it answers plain writes

  committed_one : (known : ℕ) → known ≤ r.front → (w : Waiting) (first last : List Owing) → is_committed known w ≡ true
      → Shows size backed (owing (first ++ at_member node w ∷ last)) (owing (first ++ last)) (reply_event (reply_to None w) ∷ [])
  committed_one known le (tokens.Plain ticket epoch None token) first last is = absurd cc
  committed_one known le (tokens.Plain ticket epoch (Some n) token) first last is =
      answers_plain size backed (owing (first ++ at_member node (tokens.Plain ticket epoch (Some n) token) ∷ last)) (at_member node (tokens.Plain ticket epoch (Some n) token)) first last refl
      ticket epoch n token refl (grind (arith, nat_tests))
  committed_one known le (tokens.Fua ticket epoch token) first last is = absurd cc
  committed_one known le (tokens.Read offset len token) first last is = absurd cc
  committed_one known le (tokens.Flush token) first last is = absurd cc

  pub answers_committed : (known : ℕ) → known ≤ r.front → (ws : List Waiting) (first last : List Owing) (events : List ClientEvent) → ArePutOut (map (reply_to None) (filter (is_committed known) ws)) events
      → Shows size backed (owing_here first last ws) (owing_here first last (filter (λ w. not (is_committed known w)) ws)) events
  answers_committed known le = settles_all size backed r (at_member node) (is_committed known) (reply_to None) (committed_one known le) drops_one

  -- ---- with a floor, it answers writes with FUA, and then FLUSHes

  paid_write : (floor : ℕ) → floor ≤ r.front → floor ≤ backed → (w : Waiting) (first last : List Owing) → is_paid_write floor w ≡ true
      → Shows size backed (owing (first ++ at_member node w ∷ last)) (owing (first ++ last)) (reply_event (reply_to None w) ∷ [])
  paid_write floor committed within (tokens.Plain ticket epoch number token) first last is = absurd cc
  paid_write floor committed within (tokens.Read offset len token) first last is = absurd cc
  paid_write floor committed within (tokens.Flush token) first last is = absurd cc
  paid_write floor committed within (tokens.Fua ticket epoch token) first last is =
      let (n, known, le) = up_to floor token.number is in
      answers_fua size backed (owing (first ++ at_member node (tokens.Fua ticket epoch token) ∷ last)) (at_member node (tokens.Fua ticket epoch token)) first last refl
      ticket epoch n token refl known (omega (arith, le)) (omega (arith, le))

  paid_flush : (floor : ℕ) → floor ≤ backed → (w : Waiting) (first last : List Owing) → is_paid_flush floor w ≡ true
      → Shows size backed (owing (first ++ at_member node w ∷ last)) (owing (first ++ last)) (reply_event (reply_to None w) ∷ [])
  paid_flush floor within (tokens.Plain ticket epoch number token) first last is = absurd cc
  paid_flush floor within (tokens.Fua ticket epoch token) first last is = absurd cc
  paid_flush floor within (tokens.Read offset len token) first last is = absurd cc
  paid_flush floor within (tokens.Flush token) first last is =
      let (n, known, le) = up_to floor token.number is in
      answers_flush size backed (owing (first ++ at_member node (tokens.Flush token) ∷ last)) (at_member node (tokens.Flush token)) first last refl
      n token refl known (omega (arith, le))

  pub answers_paid : (floor : ℕ) → floor ≤ r.front → floor ≤ backed → (ws : List Waiting) (first last : List Owing) (events : List ClientEvent)
      → ArePutOut (map (reply_to None) (filter (is_paid_write floor) ws) ++ map (reply_to None) (filter (is_paid_flush floor) ws)) events
      → Shows size backed (owing_here first last ws) (owing_here first last (filter (λ w. not (is_paid_write floor w) && not (is_paid_flush floor w)) ws)) events
  answers_paid floor committed within ws first last events out =
      let unpaid : List Waiting = filter (λ w. not (is_paid_write floor w)) ws in
      let left : List Waiting = filter (λ w. not (is_paid_flush floor w)) unpaid in
      let (one, other, are, early, late) = put_out_split (map (reply_to None) (filter (is_paid_write floor) ws)) (map (reply_to None) (filter (is_paid_flush floor) ws)) events out in
      let writes = settles_all size backed r (at_member node) (is_paid_write floor) (reply_to None) (paid_write floor committed within) drops_one ws first last one early in
      let flushes = settles_all size backed r (at_member node) (is_paid_flush floor) (reply_to None) (paid_flush floor within) drops_one unpaid first last other
      (subst (λ (xs : List Waiting). ArePutOut (map (reply_to None) xs) other) (sym (flushes_stay floor ws)) late) in
      let both = plays_then size (StandsFor backed (owing_here first last ws)) (StandsFor backed (owing_here first last unpaid)) (StandsFor backed (owing_here first last left)) one other writes flushes in
      subst (λ (xs : List Waiting). Shows size backed (owing_here first last ws) (owing_here first last xs) events) (both_gone floor ws)
      (subst (Shows size backed (owing_here first last ws) (owing_here first last left)) (sym are) both)

  -- ---- with a front that it looked up, it answers READs, and binds FLUSHes

  module _ (l : Looked) (among : Contains r.looked l) (here : l.slot ≡ node.place.slot) where
    read_one : (volume : List ℕ) (j : ℕ) → l.front ≤ j → j ≤ r.front → volume ≡ volume_after size (take j r.line) → (w : Waiting) (first last : List Owing) → is_read w ≡ true
        → Shows size backed (owing (first ++ at_member node w ∷ last)) (owing (first ++ last)) (reply_event (reply_with (asked_bytes volume w) None w) ∷ [])
    read_one volume j from upto is (tokens.Plain ticket epoch number token) first last reads = absurd cc
    read_one volume j from upto is (tokens.Fua ticket epoch token) first last reads = absurd cc
    read_one volume j from upto is (tokens.Flush token) first last reads = absurd cc
    read_one volume j from upto is (tokens.Read offset len token) first last reads =
        subst (λ (vol : List ℕ). Shows size backed (owing (first ++ at_member node (tokens.Read offset len token) ∷ last)) (owing (first ++ last))
        (reply_event (reply_with (take len (drop offset vol)) None (tokens.Read offset len token)) ∷ [])) (sym is)
        (answers_read size backed (owing (first ++ at_member node (tokens.Read offset len token) ∷ last)) (at_member node (tokens.Read offset len token)) first last refl
        offset len j token l refl among here from upto)

    pub answers_reads : (volume : List ℕ) (j : ℕ) → l.front ≤ j → j ≤ r.front → volume ≡ volume_after size (take j r.line) → (ws : List Waiting) (first last : List Owing) (events : List ClientEvent)
        → ArePutOut (map (λ w. reply_with (asked_bytes volume w) None w) (filter is_read ws)) events
        → Shows size backed (owing_here first last ws) (owing_here first last (filter (λ w. not (is_read w)) ws)) events
    answers_reads volume j from upto is = settles_all size backed r (at_member node) is_read (λ w. reply_with (asked_bytes volume w) None w) (read_one volume j from upto is) drops_one

    pub binds_all : (ws : List Waiting) (first last : List Owing) → Stays backed (owing_here first last ws) (owing_here first last (map (bound l.front) ws))
    binds_all = changes_all size backed r (at_member node) (bound l.front)
        (λ w first last. binds size backed (owing (first ++ at_member node w ∷ last)) (at_member node w) first last refl l among here)

-- ---- the numbers of tokens that are left

-- tokens that a test leaves have numbers as they had
pub applied_left : (last : ℕ) (passes : Waiting → Bool) (ws : List Waiting) → All (IsApplied last) ws → All (IsApplied last) (filter passes ws)
applied_left last passes [] all = all
applied_left last passes (w ∷ ws) all =
    let rest = applied_left last passes ws (All-tail (IsApplied last) w ws all) in
    elim (cases_Bool (passes w)) [
      | inl stays ↦ rw stays (All-cons (IsApplied last) w (filter passes ws) (All-head (IsApplied last) w ws all) rest)
      | inr goes ↦ rw goes rest
    ]

bound_applied : (last f : ℕ) (w : Waiting) → IsApplied last w → IsApplied last (bound f w)
bound_applied last f (tokens.Plain ticket epoch number token) is = is
bound_applied last f (tokens.Fua ticket epoch token) is = is
bound_applied last f (tokens.Read offset len token) is = is
bound_applied last f (tokens.Flush token) is = is

pub applied_bound : (last f : ℕ) (ws : List Waiting) → All (IsApplied last) ws → All (IsApplied last) (map (bound f) ws)
applied_bound last f [] all = all
applied_bound last f (w ∷ ws) all = All-cons (IsApplied last) (bound f w) (map (bound f) ws) (bound_applied last f w (All-head (IsApplied last) w ws all)) (applied_bound last f ws (All-tail (IsApplied last) w ws all))

pub bound_ticket : (f : ℕ) (w : Waiting) → ticket_of (bound f w) ≡ ticket_of w
bound_ticket f (tokens.Plain ticket epoch number token) = refl
bound_ticket f (tokens.Fua ticket epoch token) = refl
bound_ticket f (tokens.Read offset len token) = refl
bound_ticket f (tokens.Flush token) = refl
