-- What holds of every member holds after each change.
use Rattle.std.proofs.Common.{◌≡◌, ℕ, ◌≤◌, ◌+◌, ◌-◌, ◌<◌, List, [], ◌∷◌, ◌++◌, Bool, true, false, length, ap, refl, sym, ◌∙◌, inl, inr, subst, arith}
use Rattle.std.specs.Prelude.{All, None, Some, filter, map, max, nat_lt, not, ◌==◌, ◌&&◌}
use Rattle.std.proofs.lemmas.Bool.Decides.{nat_tests}
use Rattle.std.proofs.lemmas.Bool.{cases_Bool}
use Rattle.std.proofs.lemmas.List.{length-append, take-append-le}
use Rattle.std.proofs.lemmas.List.Elements.{All-cons, All-filter, All-head, All-tail, All-nil, All-push}
use Rattle.board.specs.Seats.{BoardId, FoundFront}
use Rattle.gate_journal.specs.declared.batch.TheConstants.{MAX_NUMBER}
use Rattle.local_store.specs.About.{About}
use Rattle.version_table.specs.Held.{with_write, writes_upto}
use Rattle.version_table.specs.declared.kept.Origin.{Origin}
use Rattle.volume.specs.Writes.{Fits, Placed}
use Rattle.chain_steps.specs.Node.{NodeState, Taken, durable_of, last_of}
use Rattle.chain_steps.specs.Steps.{ack, apply, is_full, know, number, origin_of}
use Rattle.chain_steps.specs.Place.{Standing, incarnation_in, is_head}
use Rattle.chain_steps.specs.Waiting.{IsOf, board_of, bound, is_paid_flush, is_paid_write, is_up_to, learned, waits_for}
use Rattle.chain_steps.specs.declared.found.Found.{Found}
use Rattle.chain_steps.specs.declared.found.Found.TheVariants.{Raised, Looked}
use Rattle.chain_steps.specs.declared.waiting.Waiting.{Waiting}
use Rattle.chain_steps.specs.declared.waiting.Waiting.TheVariants.{Plain, Fua, Read, Flush}
use Rattle.chain_steps.specs.declared.waiting.WriteToken.{WriteToken}
use Rattle.chain_steps.specs.declared.waiting.WriteToken.TheVariants as tokens
use Rattle.chain_core.specs.Node.{IsAskedInside, IsFoundBy, IsSound, Keeping, size_of}

-- a token that learns a number, or is bound, is of its board still, and its range the same
own_learned : (board : BoardId) (ticket n : ℕ) (w : Waiting) → IsOf board w → IsOf board (learned ticket n w)
own_learned board ticket n (Plain t epoch number token) own = own
own_learned board ticket n (Fua t epoch token) own = elim (cases_Bool (t == ticket)) [
  | inl same ↦ rw same own
  | inr other ↦ rw other own
]
own_learned board ticket n (Read offset len token) own = own
own_learned board ticket n (Flush token) own = own

asked_learned : (size ticket n : ℕ) (w : Waiting) → IsAskedInside size w → IsAskedInside size (learned ticket n w)
asked_learned size ticket n (Plain t epoch number token) asked = asked
asked_learned size ticket n (Fua t epoch token) asked = asked
asked_learned size ticket n (Read offset len token) asked = asked
asked_learned size ticket n (Flush token) asked = asked

pub own_bound : (board : BoardId) (n : ℕ) (w : Waiting) → IsOf board w → IsOf board (bound n w)
own_bound board n (Plain t epoch number token) own = own
own_bound board n (Fua t epoch token) own = own
own_bound board n (Read offset len token) own = own
own_bound board n (Flush token) own = own

pub asked_bound : (size n : ℕ) (w : Waiting) → IsAskedInside size w → IsAskedInside size (bound n w)
asked_bound size n (Plain t epoch number token) asked = asked
asked_bound size n (Fua t epoch token) asked = asked
asked_bound size n (Read offset len token) asked = asked
asked_bound size n (Flush token) asked = asked

-- what each of a list keeps, all of them keep
pub All-kept : {A : Type 0} (P : A → Type 0) (f : A → A) → ((x : A) → P x → P (f x)) → (xs : List A) → All P xs → All P (map f xs)
All-kept P f keeps [] all = All-nil P
All-kept P f keeps (x ∷ xs) all = All-cons P (f x) (map f xs) (keeps x (All-head P x xs all)) (All-kept P f keeps xs (All-tail P x xs all))

-- a table that isn't full leaves a number
pub number_left : (write : Placed) (node : NodeState) → is_full write node ≡ false → last_of node < MAX_NUMBER
number_left write node room = grind (arith, nat_tests)

-- it stands elsewhere in a chain, at its slot, and keeps no front
pub sound_placed : (about : About) (keeps : Keeping) (node : NodeState) → IsSound about keeps node → (place : Standing) (turned holds : Bool) → place.slot ≡ node.place.slot
    → IsSound about keeps (record node { place = place; turned = turned; holds = holds; found = None })
sound_placed about keeps node is place turned holds same = record {
  slot = is.slot ∙ sym same;
  incarnation = is.incarnation;
  front = is.front;
  behind = is.behind;
  ahead = is.ahead;
  limit = is.limit;
  blocks = is.blocks;
  inside = is.inside;
  some = is.some;
  owed = is.owed;
  asked = is.asked;
  found = λ x here. absurd (cc);
  under_way = λ c here. let way = is.under_way c here in record { above = way.above; known = way.known; images = way.images; room = way.room };
  running = is.running;
  lent = is.lent;
  resting = is.resting;
  journals = is.journals;
}

-- no front is kept
pub sound_idle : (about : About) (keeps : Keeping) (node : NodeState) → IsSound about keeps node → IsSound about keeps (record node { found = None })
sound_idle about keeps node is = sound_placed about keeps node is node.place node.turned node.holds refl

-- the token of a write has its board, and asks for no range
pub own_submitted : (board : BoardId) (ticket epoch : ℕ) (token : WriteToken) → board_of token ≡ board → IsOf board (waits_for ticket epoch token)
own_submitted board ticket epoch (tokens.Plain token) own = own
own_submitted board ticket epoch (tokens.Fua token) own = own

pub asked_submitted : (size ticket epoch : ℕ) (token : WriteToken) → IsAskedInside size (waits_for ticket epoch token)
asked_submitted size ticket epoch (tokens.Plain token) = tt
asked_submitted size ticket epoch (tokens.Fua token) = tt

-- FLUSHes are no writes: those that are paid stay when the writes go
pub flushes_stay : (f : ℕ) (ws : List Waiting) → filter (is_paid_flush f) (filter (λ w. not (is_paid_write f w)) ws) ≡ filter (is_paid_flush f) ws
flushes_stay f [] = refl
flushes_stay f (Plain t e number token ∷ ws) = flushes_stay f ws
flushes_stay f (Fua t e token ∷ ws) = elim (cases_Bool (is_up_to f token.number)) [
  | inl paid ↦ rw paid (flushes_stay f ws)
  | inr unpaid ↦ rw unpaid (flushes_stay f ws)
]
flushes_stay f (Read offset len token ∷ ws) = flushes_stay f ws
flushes_stay f (Flush token ∷ ws) = elim (cases_Bool (is_up_to f token.number)) [
  | inl paid ↦ rw paid (ap (λ vs. Flush token ∷ vs) (flushes_stay f ws))
  | inr unpaid ↦ rw unpaid (flushes_stay f ws)
]

-- and both are gone
pub both_gone : (f : ℕ) (ws : List Waiting) → filter (λ w. not (is_paid_flush f w)) (filter (λ w. not (is_paid_write f w)) ws) ≡ filter (λ w. not (is_paid_write f w) && not (is_paid_flush f w)) ws
both_gone f [] = refl
both_gone f (w ∷ ws) = elim (cases_Bool (is_paid_write f w)) [
  | inl paid ↦ rw paid (both_gone f ws)
  | inr unpaid ↦ rw unpaid (elim (cases_Bool (is_paid_flush f w)) [
    | inl gone ↦ rw gone (both_gone f ws)
    | inr left ↦ rw left (ap (λ vs. w ∷ vs) (both_gone f ws))
  ])
]

module _ (about : About) (keeps : Keeping) (node : NodeState) (is : IsSound about keeps node) where
  -- the writes up to a number are the same with one more behind them
  upto_more : (n : ℕ) (write : Placed) (origin : Origin) (p : ℕ) → p ≤ last_of node → writes_upto (with_write node.table n write origin) p ≡ writes_upto node.table p
  upto_more n write origin p within = ap (map (λ k. k.write)) (take-append-le (p - durable_of node) node.table.kept (record { number = n; write = write; origin = origin } ∷ []) (omega arith))

  -- other tokens wait
  pub sound_waiting : (waiting : List Waiting) → All (IsOf node.board) waiting → All (IsAskedInside (size_of about)) waiting → IsSound about keeps (record node { waiting = waiting })
  sound_waiting waiting owed asked = record {
    slot = is.slot;
    incarnation = is.incarnation;
    front = is.front;
    behind = is.behind;
    ahead = is.ahead;
    limit = is.limit;
    blocks = is.blocks;
    inside = is.inside;
    some = is.some;
    owed = owed;
    asked = asked;
    found = is.found;
    under_way = λ c here. let way = is.under_way c here in record { above = way.above; known = way.known; images = way.images; room = way.room };
    running = is.running;
    lent = is.lent;
    resting = is.resting;
    journals = is.journals;
  }

  -- it holds the front for a joiner, or doesn't
  pub sound_holding : (holds : Bool) → IsSound about keeps (record node { holds = holds })
  sound_holding holds = record {
    slot = is.slot;
    incarnation = is.incarnation;
    front = is.front;
    behind = is.behind;
    ahead = is.ahead;
    limit = is.limit;
    blocks = is.blocks;
    inside = is.inside;
    some = is.some;
    owed = is.owed;
    asked = is.asked;
    found = is.found;
    under_way = λ c here. let way = is.under_way c here in record { above = way.above; known = way.known; images = way.images; room = way.room };
    running = is.running;
    lent = is.lent;
    resting = is.resting;
    journals = is.journals;
  }

  -- a front is kept
  pub sound_keeping : (found : Found) → IsFoundBy node found → IsSound about keeps (record node { found = Some found })
  sound_keeping found by = record {
    slot = is.slot;
    incarnation = is.incarnation;
    front = is.front;
    behind = is.behind;
    ahead = is.ahead;
    limit = is.limit;
    blocks = is.blocks;
    inside = is.inside;
    some = is.some;
    owed = is.owed;
    asked = is.asked;
    found = λ x here. let same : found ≡ x = cc here in subst (IsFoundBy (record node { found = Some found })) same (still found by);
    under_way = λ c here. let way = is.under_way c here in record { above = way.above; known = way.known; images = way.images; room = way.room };
    running = is.running;
    lent = is.lent;
    resting = is.resting;
    journals = is.journals;
  }
    where
      still : (f : Found) → IsFoundBy node f → IsFoundBy (record node { found = Some found }) f
      still (Raised front) by = by
      still (Looked front) by = by

  -- one more token waits under the next ticket, and no front is kept
  pub sound_pushed : (next : ℕ) (w : Waiting) → IsOf node.board w → IsAskedInside (size_of about) w → IsSound about keeps (record node { ticket = next; waiting = node.waiting ++ w ∷ []; found = None })
  sound_pushed next w own asked = record {
    slot = is.slot;
    incarnation = is.incarnation;
    front = is.front;
    behind = is.behind;
    ahead = is.ahead;
    limit = is.limit;
    blocks = is.blocks;
    inside = is.inside;
    some = is.some;
    owed = All-push (IsOf node.board) node.waiting w is.owed own;
    asked = All-push (IsAskedInside (size_of about)) node.waiting w is.asked asked;
    found = λ x here. absurd (cc);
    under_way = λ c here. let way = is.under_way c here in record { above = way.above; known = way.known; images = way.images; room = way.room };
    running = is.running;
    lent = is.lent;
    resting = is.resting;
    journals = is.journals;
  }

  -- tokens learned a number
  pub sound_learned : (ticket n : ℕ) → IsSound about keeps (record node { waiting = map (learned ticket n) node.waiting })
  sound_learned ticket n = sound_waiting (map (learned ticket n) node.waiting)
      (All-kept (IsOf node.board) (learned ticket n) (own_learned node.board ticket n) node.waiting is.owed)
      (All-kept (IsAskedInside (size_of about)) (learned ticket n) (asked_learned (size_of about) ticket n) node.waiting is.asked)

  -- a further write is applied, and no front is kept
  pub sound_applied : (n : ℕ) (write : Placed) (origin : Origin) → Fits (size_of about) write → 0 < length write.bytes → is_full write node ≡ false → IsSound about keeps (record node { table = with_write node.table n write origin; found = None })
  sound_applied n write origin fits some free =
      let room = number_left write node free in
      let more : last_of (record node { table = with_write node.table n write origin; found = None }) ≡ last_of node + 1 = omega (arith, length-append node.table.kept (record { number = n; write = write; origin = origin } ∷ [])) in
      record {
        slot = is.slot;
        incarnation = is.incarnation;
        front = is.front;
        behind = is.behind;
        ahead = omega (arith, is.ahead, more);
        limit = omega (arith, more);
        blocks = is.blocks;
        inside = All-push (λ k. Fits (size_of about) k.write) node.table.kept (record { number = n; write = write; origin = origin }) is.inside fits;
        some = All-push (λ k. 0 < length k.write.bytes) node.table.kept (record { number = n; write = write; origin = origin }) is.some some;
        owed = is.owed;
        asked = is.asked;
        found = λ x here. absurd (cc);
        under_way = λ c here. let way = is.under_way c here in record { above = way.above; known = way.known; images = way.images; room = way.room };
        running = is.running;
        lent = is.lent;
        resting = is.resting;
        journals = λ premise volume keep c here. let way = is.under_way c here in rw (upto_more n write origin c.front (omega (arith, way.known, is.ahead))) (is.journals premise volume keep c here);
      }

  -- its Turn has come, tokens went, and no front is kept
  pub sound_turned : (passes : Waiting → Bool) → IsSound about keeps (record node { turned = true; waiting = filter passes node.waiting; found = None })
  sound_turned passes =
      let waiting = filter passes node.waiting in
      let left = sound_waiting waiting (All-filter passes (IsOf node.board) node.waiting is.owed) (All-filter passes (IsAskedInside (size_of about)) node.waiting is.asked) in
      sound_placed about keeps (record node { waiting = waiting }) left node.place true node.holds refl

  -- more is known, tokens went, and no front is kept
  pub sound_known : (known : ℕ) (passes : Waiting → Bool) → node.known ≤ known → known ≤ last_of node → IsSound about keeps (record node { known = known; waiting = filter passes node.waiting; found = None })
  sound_known known passes above applied = record {
    slot = is.slot;
    incarnation = is.incarnation;
    front = is.front;
    behind = omega (arith, is.behind);
    ahead = applied;
    limit = is.limit;
    blocks = is.blocks;
    inside = is.inside;
    some = is.some;
    owed = All-filter passes (IsOf node.board) node.waiting is.owed;
    asked = All-filter passes (IsAskedInside (size_of about)) node.waiting is.asked;
    found = λ x here. absurd (cc);
    under_way = λ c here. let way = is.under_way c here in record { above = way.above; known = omega (arith, way.known, above); images = way.images; room = way.room };
    running = is.running;
    lent = is.lent;
    resting = is.resting;
    journals = is.journals;
  }

-- an Ack that isn't above the last write
pub ack_is : (front : ℕ) (node : NodeState) → front ≤ last_of node → ack front node ≡ know front (max node.known front) node
ack_is front node within = let below : nat_lt (last_of node) front ≡ false = grind (arith, nat_tests) in rw below refl

-- a write that the head numbers
pub number_is : (slot ticket incarnation : ℕ) (write : Placed) (node : NodeState) → is_head node.place ≡ true → incarnation_in node.place.chain slot ≡ Some incarnation → is_full write node ≡ false
    → number slot ticket write node ≡ Taken (apply (last_of node + 1) (origin_of slot incarnation ticket) write node)
number_is slot ticket incarnation write node head there room = rw (head, there, room) refl

-- a raised front that is kept isn't below the known commit
pub raised_above : (about : About) (keeps : Keeping) (node : NodeState) (front : FoundFront) → IsSound about keeps node → node.found ≡ Some (Raised front) → node.known ≤ front.number
raised_above about keeps node front is here = let by = is.found (Raised front) here in omega (arith, is.ahead, by.1)
