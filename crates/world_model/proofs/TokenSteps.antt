-- What becomes of tokens, and of the numbered writes, keeps what is there standing for the machine. Lemmas for the crate above.
use Rattle.std.proofs.Common.{◌≡◌, ◌≢◌, ℕ, zero, suc, ◌+◌, ◌-◌, ◌<◌, ◌≤◌, max, Bool, true, false, eqb, Option, Some, None, List, [], ◌∷◌, ◌++◌, length, map, take, drop, get_or, refl, sym, ◌∙◌, ap, subst, inl, inr, add-zero, arith}
use Rattle.std.specs.Prelude.{All, Contains, option_map, slice_get}
use Rattle.std.specs.Option.{ForSome}
use Rattle.std.proofs.lemmas.Bool.{both_ways, cases_Bool, eq-eqb, eqb-true}
use Rattle.std.proofs.lemmas.List.{drop-append-le, drop-drop, drop-map, get_or-drop, length-drop, length-map, length-take, length_push, map-append, map_push, take-append-drop, take-append-le, take-map, take-take, take_more}
use Rattle.std.proofs.lemmas.List.Elements.{All-append, All-cons, All-contains, All-head, All-map, All-nil, All-push, All-tail, All-weaker}
use Rattle.std.proofs.lemmas.Option.{same_Some, slice_get-map}
use Rattle.std.proofs.lemmas.Simd.{map-map}
use Rattle.flush_barrier.specs.Owed.{Owed, OwedAt}
use Rattle.flush_barrier.specs.declared.error_code.ErrorCode.{ErrorCode}
use Rattle.flush_barrier.specs.declared.session_id.SessionId.{SessionId}
use Rattle.version_table.specs.declared.kept.Kept.{Kept}
use Rattle.version_table.specs.declared.kept.Origin.{Origin}
use Rattle.volume.specs.Writes.{Placed, volume_of}
use Rattle.chain_steps.specs.Waiting.{bound, debt_of, learned, number_or}
use Rattle.chain_steps.specs.declared.waiting.Waiting.{Waiting}
use Rattle.chain_steps.specs.declared.waiting.Waiting.TheVariants as tokens
use Rattle.world_model.proofs.Counting.{all_at, all_before, all_behind, all_got, all_without, count-append, count-cons, count-one, count-without, get_left, map_gets, map_splits, none_passes, one_if, one_if-same, one_if-true}
use Rattle.world_model.specs.Event.{Answered, Done, Failed, Outcome, Read, Request}
use Rattle.world_model.specs.Machine.{AnswerFlush, AnswerFua, AnswerRead, AnswerWrite, Asked, GoesOn, IsAt, IsFlush, IsFua, IsPlain, IsRead, May, Move, Refuse, Restart, State, Take, Taken, Waits, after, answered_at, range_of, shows, start, told, machine_volume}
use Rattle.world_model.specs.Requests.{AreNamesOf, Bound, Entry, IsBound, IsFresh, IsNumbered, IsOfKind, IsOfNumber, IsOfOrigin, IsOfTicket, IsSent, Looked, MayAnswer, Names, Owing, Requests, Sending, StandsFor, StandsUnder, Submitted, count_line, count_submits, count_tokens, later, named_writes, origin_of}
use Rattle.world_model.proofs.Runs.{length-writes_of, plays_one, plays_then, sound_start, sound_step, writes-answered_at}
use Rattle.world_model.specs.Sound.{IsSound, writes_of}
use Rattle.world_model.proofs.Standing.{Shows, Stays, all_still_wait, shows_stay, token_counts_itself, tokens_still_wait}

-- ---- more is backed

-- what stands for a state goes on standing for it
pub backs_more : (backed more : ℕ) (r : Requests) (s : State) → backed ≤ more → StandsFor backed r s → StandsFor more r s
backs_more backed more r s le (names, stands) = (
  names,
  record {
    sound = stands.sound;
    committed = stands.committed;
    owed = omega (arith, stands.owed);
    taken = stands.taken;
    named = stands.named;
    apart = stands.apart;
    line_sent = stands.line_sent;
    submits_sent = stands.submits_sent;
    bound = stands.bound;
    tokens_wait = stands.tokens_wait;
    demands_wait = stands.demands_wait;
    kept_wait = stands.kept_wait;
    fresh = stands.fresh;
  },
)

-- ---- lists

get_taken : {X : Type 0} (n : ℕ) (xs : List X) (i : ℕ) (x : X) → i < n → slice_get xs i ≡ Some x → slice_get (take n xs) i ≡ Some x
get_taken zero xs i x lt at = absurd (omega arith)
get_taken (suc n) [] i x lt at = at
get_taken (suc n) (y ∷ xs) zero x lt at = at
get_taken (suc n) (y ∷ xs) (suc i) x lt at = get_taken n xs i x (omega arith) at

take_one_more : {X : Type 0} (xs : List X) (n : ℕ) (x : X) (rest : List X) → drop n xs ≡ x ∷ rest → take (n + 1) xs ≡ take n xs ++ x ∷ []
take_one_more {X} xs n x rest is =
    let within : n < length xs = omega (arith, length-drop n xs, ap length is) in
    let zero_more : n ≡ n + 0 = omega arith in
    let here : get_or xs n x ≡ x = ap (λ (i : ℕ). get_or xs i x) zero_more ∙ sym (get_or-drop n xs 0 x) ∙ ap (λ (l : List X). get_or l 0 x) is in
    take_more xs n x within ∙ ap (λ (y : X). take n xs ++ y ∷ []) here

all_mapped : {X Y : Type 0} (P : Y → Type 0) (f : X → Y) (xs : List X) → All P (map f xs) → All (λ x. P (f x)) xs
all_mapped P f [] all = All-nil (λ x. P (f x))
all_mapped P f (x ∷ xs) all = All-cons (λ y. P (f y)) x xs (All-head P (f x) (map f xs) all) (all_mapped P f xs (All-tail P (f x) (map f xs) all))

-- one more, in any place
all_with : {X : Type 0} (P : X → Type 0) (before : List X) (x : X) (behind : List X) → All P (before ++ behind) → P x → All P (before ++ x ∷ behind)
all_with P before x behind all new = All-append P before (x ∷ behind) (all_before P before behind all) (All-cons P x behind new (all_behind P before behind all))

-- ---- what the machine has taken

module _ (backed : ℕ) (r : Requests) (s : State) (names : Names) (stands : StandsUnder backed r s names) where
  -- the front is within the line
  front_within : r.front ≤ length names.line
  front_within = omega (
    arith,
    stands.committed,
    ap length stands.taken,
    length-writes_of s.taken,
    length-take r.front (named_writes names.line),
    length-map {B = ℕ × Placed} names.line (λ e. (e.name, e.kept.write)),
  )

  -- the writes taken, by their names and by what they write
  names_taken_are : map (λ (t : Taken). t.name) s.taken ≡ take r.front (map (λ (e : Entry). e.name) names.line)
  names_taken_are =
      sym (map-map (λ (w : ℕ × Placed). w.0) (λ (t : Taken). (t.name, t.write)) s.taken)
      ∙ ap (map (λ (w : ℕ × Placed). w.0)) stands.taken
      ∙ sym (take-map (λ (w : ℕ × Placed). w.0) r.front (named_writes names.line))
      ∙ ap (take r.front) (map-map (λ (w : ℕ × Placed). w.0) (λ (e : Entry). (e.name, e.kept.write)) names.line)

  writes_taken_are : map (λ (t : Taken). t.write) s.taken ≡ take r.front (map (λ (k : Kept). k.write) r.line)
  writes_taken_are =
      sym (map-map (λ (w : ℕ × Placed). w.1) (λ (t : Taken). (t.name, t.write)) s.taken)
      ∙ ap (map (λ (w : ℕ × Placed). w.1)) stands.taken
      ∙ sym (take-map (λ (w : ℕ × Placed). w.1) r.front (named_writes names.line))
      ∙ ap (take r.front) (map-map (λ (w : ℕ × Placed). w.1) (λ (e : Entry). (e.name, e.kept.write)) names.line)
      ∙ ap (take r.front) (sym (map-map (λ (k : Kept). k.write) (λ (e : Entry). e.kept) names.line) ∙ ap (map (λ (k : Kept). k.write)) stands.named.line)

  -- up to a number within the front, they are the line's
  pub first_writes_are : (j : ℕ) → j ≤ r.front → map (λ (t : Taken). t.write) (take j s.taken) ≡ map (λ (k : Kept). k.write) (take j r.line)
  first_writes_are j le =
      sym (take-map (λ (t : Taken). t.write) j s.taken)
      ∙ ap (take j) writes_taken_are
      ∙ take-take j r.front (map (λ (k : Kept). k.write) r.line) le
      ∙ take-map (λ (k : Kept). k.write) j r.line

  -- the write with such a number is taken at that place
  is_at : (a : Asked) (n : ℕ) → IsOfNumber names.line a.name n → n ≤ r.front → IsAt s a n
  is_at a n (some, at) le = (
    some,
    ap (λ (l : List ℕ). slice_get l (n - 1)) names_taken_are
        ∙ get_taken r.front (map (λ (e : Entry). e.name) names.line) (n - 1) a.name (omega arith) at,
  )

-- ---- a token ends

-- a front that was looked up at its member may answer the token
abbrev MayAnswerAt : Looked → Bound → Type 0
MayAnswerAt l b = b.owing.slot ≡ l.slot → MayAnswer l.front b.asked b.owing.token

module _ (backed : ℕ) (r : Requests) (s : State) (names : Names) (left : List Bound) (b : Bound) (right : List Bound)
    (stands : StandsUnder backed r s (record names { tokens = left ++ b ∷ right })) where
  token_waits : Waits s b.asked
  token_waits = all_at (λ (c : Bound). Waits s c.asked) left b right stands.tokens_wait

  its_bound : IsBound names.line names.submits b
  its_bound = all_at (IsBound names.line names.submits) left b right stands.bound

  -- a front that its member looked up may answer it
  its_fresh : (l : Looked) → Contains r.looked l → b.owing.slot ≡ l.slot → MayAnswer l.front b.asked b.owing.token
  its_fresh l among same =
      let is : IsFresh r.front (left ++ b ∷ right) l = All-contains (IsFresh r.front (left ++ b ∷ right)) r.looked l stands.fresh among in
      all_at (MayAnswerAt l) left b right is.answers same

  fewer : (name : ℕ) → count_tokens name (left ++ b ∷ right) ≡ count_tokens name (left ++ right) + one_if (λ (c : Bound). eqb c.asked.name name) b
  fewer name = count-without (λ (c : Bound). eqb c.asked.name name) left b right

  fresh_left : All (IsFresh r.front (left ++ right)) r.looked
  fresh_left = All-weaker (IsFresh r.front (left ++ b ∷ right)) (IsFresh r.front (left ++ right))
      (λ l is. record { committed = is.committed; answers = all_without (MayAnswerAt l) left b right is.answers })
      r.looked stands.fresh

  module _ (rest : List Owing) (are : map (λ (c : Bound). c.owing) (left ++ right) ≡ rest) where
    named_left : AreNamesOf (record r { tokens = rest }) (record names { tokens = left ++ right })
    named_left = record { line = stands.named.line; submits = stands.named.submits; tokens = are; demands = stands.named.demands; kept = stands.named.kept }

    -- without an answer
    token_dropped : StandsUnder backed (record r { tokens = rest }) s (record names { tokens = left ++ right })
    token_dropped = record {
      sound = stands.sound;
      committed = stands.committed;
      owed = stands.owed;
      taken = stands.taken;
      named = named_left;
      apart = record { one_place = stands.apart.one_place; one_reply = λ name. omega (arith, stands.apart.one_reply name, fewer name) };
      line_sent = stands.line_sent;
      submits_sent = stands.submits_sent;
      bound = all_without (IsBound names.line names.submits) left b right stands.bound;
      tokens_wait = all_without (λ (c : Bound). Waits s c.asked) left b right stands.tokens_wait;
      demands_wait = stands.demands_wait;
      kept_wait = stands.kept_wait;
      fresh = fresh_left;
    }

    -- with one, which may mark writes as answered, and owe more
    token_told : (taken : List Taken) (owed : ℕ) → writes_of taken ≡ writes_of s.taken → owed ≤ backed → IsSound (record (told s b.asked) { taken = taken; owed = owed })
        → StandsUnder backed (record r { tokens = rest }) (record (told s b.asked) { taken = taken; owed = owed }) (record names { tokens = left ++ right })
    token_told taken owed same within sound =
        let long : length taken ≡ length s.taken = sym (length-writes_of taken) ∙ ap length same ∙ length-writes_of s.taken in
        let reply = stands.apart.one_reply b.asked.name in
        let mine = fewer b.asked.name in
        let one = token_counts_itself b in
        record {
          sound = sound;
          committed = stands.committed ∙ sym long;
          owed = within;
          taken = same ∙ stands.taken;
          named = named_left;
          apart = record { one_place = stands.apart.one_place; one_reply = λ name. omega (arith, stands.apart.one_reply name, fewer name) };
          line_sent = stands.line_sent;
          submits_sent = stands.submits_sent;
          bound = all_without (IsBound names.line names.submits) left b right stands.bound;
          tokens_wait = tokens_still_wait s b.asked (left ++ right) (omega arith) (all_without (λ (c : Bound). Waits s c.asked) left b right stands.tokens_wait);
          demands_wait = all_still_wait s b.asked names.demands (omega arith) stands.demands_wait;
          kept_wait = all_still_wait s b.asked (later names) (omega arith) stands.kept_wait;
          fresh = fresh_left;
        }

-- ---- a token learns

-- the token with this in its place
abbrev owing_with : Owing → Waiting → Owing
owing_with o w = record o { token = w }

abbrev bound_with : Bound → Waiting → Bound
bound_with b w = record { owing = owing_with b.owing w; asked = b.asked }

-- the request's token, at the member of this slot and incarnation
abbrev bound_at : ℕ → ℕ → Asked → Waiting → Bound
bound_at slot incarnation a w = record { owing = record { slot = slot; incarnation = incarnation; token = w }; asked = a }

-- what holds of a number that is known holds of the one that is known then
number_known : (n : ℕ) (number : Option ℕ) (P : ℕ → Type 0) → ForSome number P → (number ≡ None → P n) → ForSome (number_or n number) P
number_known n None P before now = λ m is. subst P (same_Some n m is) (now refl)
number_known n (Some k) P before now = before

always_known : (n : ℕ) (number : Option ℕ) → number_or n number ≡ None → ⊥
always_known n None none = absurd cc
always_known n (Some k) none = absurd cc

module _ (line : List Entry) (submits : List Sending) (under n slot incarnation : ℕ) (a : Asked)
    (its : IsOfOrigin line submits a.name (record { slot = slot; incarnation = incarnation; ticket = under }) → IsOfNumber line a.name n) where
  same_ticket : (ticket : ℕ) → eqb ticket under ≡ true → IsOfOrigin line submits a.name (record { slot = slot; incarnation = incarnation; ticket = ticket }) → IsOfNumber line a.name n
  same_ticket ticket same is = its (subst (λ (t : ℕ). IsOfOrigin line submits a.name (record { slot = slot; incarnation = incarnation; ticket = t })) (eqb-true ticket under same) is)

  -- the number that a write's token learns is its write's
  learned_is_bound : (w : Waiting) → IsBound line submits (bound_at slot incarnation a w) → IsBound line submits (bound_at slot incarnation a (learned under n w))
  learned_is_bound (tokens.Plain ticket epoch number token) is = elim (cases_Bool (eqb ticket under)) [
    | inl here ↦
        let known : ForSome (number_or n number) (IsOfNumber line a.name) = number_known n number (IsOfNumber line a.name) is.number (λ none. same_ticket ticket here is.ticket) in
        rw here (record { session = is.session; cookie = is.cookie; kind = is.kind; number = known; ticket = is.ticket })
    | inr past ↦ rw past is
  ]
  learned_is_bound (tokens.Fua ticket epoch token) is = elim (cases_Bool (eqb ticket under)) [
    | inl here ↦
        let known : ForSome (number_or n token.number) (IsOfNumber line a.name) = number_known n token.number (IsOfNumber line a.name) is.number (λ none. same_ticket ticket here is.ticket) in
        rw here (record { session = is.session; cookie = is.cookie; kind = is.kind; number = known; ticket = is.ticket })
    | inr past ↦ rw past is
  ]
  learned_is_bound (tokens.Read offset len token) is = is
  learned_is_bound (tokens.Flush token) is = is

learned_may_answer : (under n front : ℕ) (a : Asked) (w : Waiting) → MayAnswer front a w → MayAnswer front a (learned under n w)
learned_may_answer under n front a (tokens.Plain ticket epoch number token) may = may
learned_may_answer under n front a (tokens.Fua ticket epoch token) may = may
learned_may_answer under n front a (tokens.Read offset len token) may = may
learned_may_answer under n front a (tokens.Flush token) may = may

-- the number to which a FLUSH is bound is at least its due
bound_is_bound : (line : List Entry) (submits : List Sending) (n slot incarnation : ℕ) (a : Asked) (w : Waiting) → MayAnswer n a w
    → IsBound line submits (bound_at slot incarnation a w) → IsBound line submits (bound_at slot incarnation a (bound n w))
bound_is_bound line submits n slot incarnation a (tokens.Plain ticket epoch number token) may is = is
bound_is_bound line submits n slot incarnation a (tokens.Fua ticket epoch token) may is = is
bound_is_bound line submits n slot incarnation a (tokens.Read offset len token) may is = is
bound_is_bound line submits n slot incarnation a (tokens.Flush token) may is = record {
  session = is.session;
  cookie = is.cookie;
  kind = is.kind;
  number = number_known n token.number (λ m. a.due ≤ m) is.number may;
  ticket = is.ticket;
}

bound_may_answer : (n front : ℕ) (a : Asked) (w : Waiting) → MayAnswer front a w → MayAnswer front a (bound n w)
bound_may_answer n front a (tokens.Plain ticket epoch number token) may = may
bound_may_answer n front a (tokens.Fua ticket epoch token) may = may
bound_may_answer n front a (tokens.Read offset len token) may = may
bound_may_answer n front a (tokens.Flush token) may = λ none. absurd (always_known n token.number none)

module _ (backed : ℕ) (r : Requests) (s : State) (names : Names) (left : List Bound) (b : Bound) (right : List Bound)
    (stands : StandsUnder backed r s (record names { tokens = left ++ b ∷ right })) (w : Waiting) (all : List Owing)
    (are : map (λ (c : Bound). c.owing) (left ++ bound_with b w ∷ right) ≡ all)
    (is : IsBound names.line names.submits (bound_with b w))
    (may : (front : ℕ) → MayAnswer front b.asked b.owing.token → MayAnswer front b.asked w) where
  as_many : (name : ℕ) → count_tokens name (left ++ bound_with b w ∷ right) ≡ count_tokens name (left ++ b ∷ right)
  as_many name =
      let p : Bound → Bool = λ c. eqb c.asked.name name in
      omega (arith, count-without p left (bound_with b w) right, count-without p left b right, one_if-same p p (bound_with b w) b refl)

  -- its token says something else
  token_changed : StandsUnder backed (record r { tokens = all }) s (record names { tokens = left ++ bound_with b w ∷ right })
  token_changed = record {
    sound = stands.sound;
    committed = stands.committed;
    owed = stands.owed;
    taken = stands.taken;
    named = record { line = stands.named.line; submits = stands.named.submits; tokens = are; demands = stands.named.demands; kept = stands.named.kept };
    apart = record { one_place = stands.apart.one_place; one_reply = λ name. omega (arith, stands.apart.one_reply name, as_many name) };
    line_sent = stands.line_sent;
    submits_sent = stands.submits_sent;
    bound = all_with (IsBound names.line names.submits) left (bound_with b w) right (all_without (IsBound names.line names.submits) left b right stands.bound) is;
    tokens_wait = all_with (λ (c : Bound). Waits s c.asked) left (bound_with b w) right
        (all_without (λ (c : Bound). Waits s c.asked) left b right stands.tokens_wait) (token_waits backed r s names left b right stands);
    demands_wait = stands.demands_wait;
    kept_wait = stands.kept_wait;
    fresh = All-weaker (IsFresh r.front (left ++ b ∷ right)) (IsFresh r.front (left ++ bound_with b w ∷ right))
        (λ l fresh. record {
          committed = fresh.committed;
          answers = all_with (MayAnswerAt l) left (bound_with b w) right (all_without (MayAnswerAt l) left b right fresh.answers)
              (λ same. may l.front (all_at (MayAnswerAt l) left b right fresh.answers same));
        })
        r.looked stands.fresh;
  }

-- ---- one token

module _ (size backed : ℕ) (r : Requests) (o : Owing) (first last : List Owing) (owing : r.tokens ≡ first ++ o ∷ last) where
  -- the token's request, under the names by which what is there stands for the state
  record Found (s : State) (names : Names) : Type 0 where
    pub left : List Bound
    pub mid : Bound
    pub right : List Bound
    pub stands : StandsUnder backed r s (record names { tokens = left ++ mid ∷ right })
    pub left_is : map (λ (c : Bound). c.owing) left ≡ first
    pub mid_is : mid.owing ≡ o
    pub right_is : map (λ (c : Bound). c.owing) right ≡ last

  found_token : (s : State) (names : Names) → StandsUnder backed r s names → Found s names
  found_token s names stands =
      let split = map_splits (λ (c : Bound). c.owing) names.tokens first o last (stands.named.tokens ∙ owing) in
      record {
        left = split.left;
        mid = split.mid;
        right = split.right;
        stands = subst (λ (l : List Bound). StandsUnder backed r s (record names { tokens = l })) split.is stands;
        left_is = split.left_is;
        mid_is = split.mid_is;
        right_is = split.right_is;
      }

  module _ (s : State) (names : Names) (found : Found s names) where
    others_are : map (λ (c : Bound). c.owing) (found.left ++ found.right) ≡ first ++ last
    others_are =
        map-append (λ (c : Bound). c.owing) found.left found.right
        ∙ ap (λ (l : List Owing). l ++ map (λ (c : Bound). c.owing) found.right) found.left_is
        ∙ ap (λ (l : List Owing). first ++ l) found.right_is

    found_waits : Waits s found.mid.asked
    found_waits = token_waits backed r s names found.left found.mid found.right found.stands

    found_bound : IsBound names.line names.submits found.mid
    found_bound = its_bound backed r s names found.left found.mid found.right found.stands

    -- what it is, if the token is this one
    found_kind : (w : Waiting) → o.token ≡ w → IsOfKind w found.mid.asked.request
    found_kind w is = subst (λ (x : Waiting). IsOfKind x found.mid.asked.request) (ap (λ (x : Owing). x.token) found.mid_is ∙ is) found_bound.kind

    found_number : (w : Waiting) → o.token ≡ w → IsNumbered names.line found.mid.asked w
    found_number w is = subst (IsNumbered names.line found.mid.asked) (ap (λ (x : Owing). x.token) found.mid_is ∙ is) found_bound.number

    found_fresh : (l : Looked) → Contains r.looked l → l.slot ≡ o.slot → MayAnswer l.front found.mid.asked found.mid.owing.token
    found_fresh l among same = its_fresh backed r s names found.left found.mid found.right found.stands l among (ap (λ (x : Owing). x.slot) found.mid_is ∙ sym same)

    -- its client is told
    found_told : (taken : List Taken) (owed : ℕ) → writes_of taken ≡ writes_of s.taken → owed ≤ backed → IsSound (record (told s found.mid.asked) { taken = taken; owed = owed })
        → StandsUnder backed (record r { tokens = first ++ last }) (record (told s found.mid.asked) { taken = taken; owed = owed }) (record names { tokens = found.left ++ found.right })
    found_told = token_told backed r s names found.left found.mid found.right found.stands (first ++ last) others_are

    -- it says something else
    found_changed : (f : Waiting → Waiting) → IsBound names.line names.submits (bound_with found.mid (f found.mid.owing.token))
        → ((front : ℕ) → MayAnswer front found.mid.asked found.mid.owing.token → MayAnswer front found.mid.asked (f found.mid.owing.token))
        → StandsFor backed (record r { tokens = first ++ owing_with o (f o.token) ∷ last }) s
    found_changed f is may =
        let w = f found.mid.owing.token in
        let all_are : map (λ (c : Bound). c.owing) (found.left ++ bound_with found.mid w ∷ found.right) ≡ first ++ owing_with o (f o.token) ∷ last =
        map-append (λ (c : Bound). c.owing) found.left (bound_with found.mid w ∷ found.right)
        ∙ ap (λ (l : List Owing). l ++ owing_with found.mid.owing w ∷ map (λ (c : Bound). c.owing) found.right) found.left_is
        ∙ ap (λ (l : List Owing). first ++ owing_with found.mid.owing w ∷ l) found.right_is
        ∙ ap (λ (x : Owing). first ++ owing_with x (f x.token) ∷ last) found.mid_is in (
          record names { tokens = found.left ++ bound_with found.mid w ∷ found.right },
          token_changed backed r s names found.left found.mid found.right found.stands w (first ++ owing_with o (f o.token) ∷ last) all_are is may,
        )

    -- a step that tells the client this, and ends the token
    record Telling (outcome : Outcome) : Type 0 where
      pub move : Move
      pub goes : GoesOn move
      pub may : May s move
      pub tells : shows size s move ≡ Answered found.mid.asked.session found.mid.asked.cookie outcome ∷ []
      pub leaves : StandsUnder backed (record r { tokens = first ++ last }) (after s move) (record names { tokens = found.left ++ found.right })

  -- its client is told, by a step from each state
  shows_telling : (session : SessionId) (cookie : ℕ) (outcome : Outcome) → (debt_of o.token).session ≡ session → (debt_of o.token).cookie ≡ cookie
      → ((s : State) (names : Names) (found : Found s names) → Telling s names found outcome)
      → Shows size backed r (record r { tokens = first ++ last }) (Answered session cookie outcome ∷ [])
  shows_telling session cookie outcome session_is cookie_is tell = plays_one size (StandsFor backed r) (StandsFor backed (record r { tokens = first ++ last })) (Answered session cookie outcome ∷ [])
      (λ s (names, stands).
      let found = found_token s names stands in
      let telling = tell s names found in
      let a = found.mid.asked in
      let is = found_bound s names found in
      let same_session : a.session ≡ session = sym is.session ∙ ap (λ (x : Owing). (debt_of x.token).session) found.mid_is ∙ session_is in
      let same_cookie : a.cookie ≡ cookie = sym is.cookie ∙ ap (λ (x : Owing). (debt_of x.token).cookie) found.mid_is ∙ cookie_is in
      let event : Answered a.session a.cookie outcome ∷ [] ≡ Answered session cookie outcome ∷ [] = cc (same_session, same_cookie) in
      (telling.move, telling.goes, telling.may, telling.tells ∙ event, (record names { tokens = found.left ++ found.right }, telling.leaves)))

  -- its client hears nothing
  pub drops_token : Stays backed r (record r { tokens = first ++ last })
  drops_token s (names, stands) =
      let found = found_token s names stands in (
        record names { tokens = found.left ++ found.right },
        token_dropped backed r s names found.left found.mid found.right found.stands (first ++ last) (others_are s names found),
      )

  -- it is refused
  pub refuses_token : (error : ErrorCode) → Shows size backed r (record r { tokens = first ++ last }) (Answered (debt_of o.token).session (debt_of o.token).cookie (Failed error) ∷ [])
  refuses_token error = shows_telling (debt_of o.token).session (debt_of o.token).cookie (Failed error) refl refl (λ s names found.
      let waits = found_waits s names found in
      let move = Refuse found.mid.asked error in
      record { move = move; goes = tt; may = waits; tells = refl; leaves = found_told s names found s.taken s.owed refl found.stands.owed (sound_step s move found.stands.sound waits) })

  -- a write without FUA is answered, once it is committed
  pub answers_plain : (ticket epoch n : ℕ) (token : Owed) → o.token ≡ tokens.Plain ticket epoch (Some n) token → n ≤ r.front
      → Shows size backed r (record r { tokens = first ++ last }) (Answered token.session token.cookie (Done []) ∷ [])
  answers_plain ticket epoch n token is le = shows_telling token.session token.cookie (Done []) (ap (λ (w : Waiting). (debt_of w).session) is) (ap (λ (w : Waiting). (debt_of w).cookie) is) (λ s names found.
      let a = found.mid.asked in
      let kind : IsPlain a.request = found_kind s names found (tokens.Plain ticket epoch (Some n) token) is in
      let known : ForSome (Some n) (IsOfNumber names.line a.name) = found_number s names found (tokens.Plain ticket epoch (Some n) token) is in
      let place : IsAt s a n = is_at backed r s (record names { tokens = found.left ++ found.mid ∷ found.right }) found.stands a n (known n refl) le in
      let may : May s (AnswerWrite a n) = (found_waits s names found, kind, place) in
      record {
        move = AnswerWrite a n;
        goes = tt;
        may = may;
        tells = refl;
        leaves = found_told s names found (answered_at n s.taken) s.owed (writes-answered_at n s.taken) found.stands.owed (sound_step s (AnswerWrite a n) found.stands.sound may);
      })

  -- a write with FUA is answered, once it is committed and backed
  pub answers_fua : (ticket epoch n : ℕ) (token : OwedAt) → o.token ≡ tokens.Fua ticket epoch token → token.number ≡ Some n → n ≤ r.front → n ≤ backed
      → Shows size backed r (record r { tokens = first ++ last }) (Answered token.session token.cookie (Done []) ∷ [])
  answers_fua ticket epoch n token is number le within = shows_telling token.session token.cookie (Done []) (ap (λ (w : Waiting). (debt_of w).session) is) (ap (λ (w : Waiting). (debt_of w).cookie) is) (λ s names found.
      let a = found.mid.asked in
      let kind : IsFua a.request = found_kind s names found (tokens.Fua ticket epoch token) is in
      let known : ForSome token.number (IsOfNumber names.line a.name) = found_number s names found (tokens.Fua ticket epoch token) is in
      let place : IsAt s a n = is_at backed r s (record names { tokens = found.left ++ found.mid ∷ found.right }) found.stands a n (known n number) le in
      let may : May s (AnswerFua a n) = (found_waits s names found, kind, place) in
      record {
        move = AnswerFua a n;
        goes = tt;
        may = may;
        tells = refl;
        leaves = found_told s names found (answered_at n s.taken) (max s.owed n) (writes-answered_at n s.taken) (omega (arith, found.stands.owed)) (sound_step s (AnswerFua a n) found.stands.sound may);
      })

  -- a FLUSH is answered, once the number is backed to which it is bound
  pub answers_flush : (n : ℕ) (token : OwedAt) → o.token ≡ tokens.Flush token → token.number ≡ Some n → n ≤ backed
      → Shows size backed r (record r { tokens = first ++ last }) (Answered token.session token.cookie (Done []) ∷ [])
  answers_flush n token is number within = shows_telling token.session token.cookie (Done []) (ap (λ (w : Waiting). (debt_of w).session) is) (ap (λ (w : Waiting). (debt_of w).cookie) is) (λ s names found.
      let a = found.mid.asked in
      let kind : IsFlush a.request = found_kind s names found (tokens.Flush token) is in
      let known : ForSome token.number (λ m. a.due ≤ m) = found_number s names found (tokens.Flush token) is in
      let may : May s (AnswerFlush a) = (found_waits s names found, kind) in
      record {
        move = AnswerFlush a;
        goes = tt;
        may = may;
        tells = refl;
        leaves = found_told s names found s.taken (max s.owed a.due) refl (omega (arith, found.stands.owed, known n number)) (sound_step s (AnswerFlush a) found.stands.sound may);
      })

  -- a READ is answered at a number from the front on that its member looked up
  pub answers_read : (offset len j : ℕ) (token : Owed) (l : Looked) → o.token ≡ tokens.Read offset len token → Contains r.looked l → l.slot ≡ o.slot → l.front ≤ j → j ≤ r.front
      → Shows size backed r (record r { tokens = first ++ last })
      (Answered token.session token.cookie (Done (take len (drop offset (volume_of size (map (λ k. k.write) (take j r.line)))))) ∷ [])
  answers_read offset len j token l is among same low high = shows_telling token.session token.cookie (Done (take len (drop offset (volume_of size (map (λ k. k.write) (take j r.line))))))
      (ap (λ (w : Waiting). (debt_of w).session) is) (ap (λ (w : Waiting). (debt_of w).cookie) is) (λ s names found.
      let a = found.mid.asked in
      let request : a.request ≡ Read offset len = found_kind s names found (tokens.Read offset len token) is in
      let reads : IsRead a.request = subst IsRead (sym request) tt in
      let marked : a.mark ≤ l.front = subst (MayAnswer l.front a) (ap (λ (x : Owing). x.token) found.mid_is ∙ is) (found_fresh s names found l among same) in
      let may : May s (AnswerRead a j) = (found_waits s names found, reads, omega (arith, marked), omega (arith, found.stands.committed)) in
      let volume_is : machine_volume size s j ≡ volume_of size (map (λ (k : Kept). k.write) (take j r.line)) =
      ap (volume_of size) (first_writes_are backed r s (record names { tokens = found.left ++ found.mid ∷ found.right }) found.stands j high) in
      let bytes : range_of a.request (machine_volume size s j) ≡ take len (drop offset (volume_of size (map (λ (k : Kept). k.write) (take j r.line)))) =
      ap (λ (q : Request). range_of q (machine_volume size s j)) request ∙ ap (λ (v : List ℕ). take len (drop offset v)) volume_is in
      record {
        move = AnswerRead a j;
        goes = tt;
        may = may;
        tells = ap (λ (v : List ℕ). Answered a.session a.cookie (Done v) ∷ []) bytes;
        leaves = found_told s names found s.taken s.owed refl found.stands.owed (sound_step s (AnswerRead a j) found.stands.sound may);
      })

  -- the token of a numbered write learns the number
  pub learns : (ticket n : ℕ) (k : Kept) → 0 < n → slice_get r.line (n - 1) ≡ Some k → k.origin ≡ origin_of o ticket
      → Stays backed r (record r { tokens = first ++ record o { token = learned ticket n o.token } ∷ last })
  learns ticket n k some at from s (names, stands) =
      let found = found_token s names stands in
      let b = found.mid in
      let numbered : IsOfOrigin names.line names.submits b.asked.name (origin_of b.owing ticket) → IsOfNumber names.line b.asked.name n =
      λ is.
      let got = map_gets (λ (e : Entry). e.kept) names.line (n - 1) k (ap (λ (l : List Kept). slice_get l (n - 1)) stands.named.line ∙ at) in
      let origin : got.0.kept.origin ≡ origin_of b.owing ticket = ap (λ (x : Kept). x.origin) got.2 ∙ from ∙ ap (λ (x : Owing). origin_of x ticket) (sym found.mid_is) in
      let name : got.0.name ≡ b.asked.name = all_got (λ (e : Entry). e.kept.origin ≡ origin_of b.owing ticket → e.name ≡ b.asked.name) names.line (n - 1) got.0 got.1 is.numbered origin in
      (some, slice_get-map (λ (e : Entry). e.name) names.line (n - 1) ∙ ap (option_map (λ (e : Entry). e.name)) got.1 ∙ ap (λ (m : ℕ). Some m) name) in
      found_changed s names found (learned ticket n)
      (learned_is_bound names.line names.submits ticket n b.owing.slot b.owing.incarnation b.asked numbered b.owing.token (found_bound s names found))
      (λ front may. learned_may_answer ticket n front b.asked b.owing.token may)

  -- a FLUSH is bound to the front that its member looked up
  pub binds : (l : Looked) → Contains r.looked l → l.slot ≡ o.slot
      → Stays backed r (record r { tokens = first ++ record o { token = bound l.front o.token } ∷ last })
  binds l among same s (names, stands) =
      let found = found_token s names stands in
      let b = found.mid in
      found_changed s names found (bound l.front)
      (bound_is_bound names.line names.submits l.front b.owing.slot b.owing.incarnation b.asked b.owing.token (found_fresh s names found l among same) (found_bound s names found))
      (λ front may. bound_may_answer l.front front b.asked b.owing.token may)

-- ---- a write is numbered

-- the write with its number
abbrev kept_as_number : ℕ → Submitted → Kept
kept_as_number number x = record { number = number; write = x.write; origin = x.origin }

abbrev entry_as_number : ℕ → Sending → Entry
entry_as_number number x = record { name = x.name; kept = kept_as_number number x.submitted }

-- a number stays the same write's where writes are added
number_stays : (line more : List Entry) (name n : ℕ) → IsOfNumber line name n → IsOfNumber (line ++ more) name n
number_stays line more name n (some, at) = (
  some,
  ap (λ (l : List ℕ). slice_get l (n - 1)) (map-append (λ (e : Entry). e.name) line more)
      ∙ get_left (map (λ (e : Entry). e.name) line) (map (λ (e : Entry). e.name) more) (n - 1) name at,
)

numbered_stays : (line more : List Entry) (a : Asked) (w : Waiting) → IsNumbered line a w → IsNumbered (line ++ more) a w
numbered_stays line more a (tokens.Plain ticket epoch number token) is = λ n at. number_stays line more a.name n (is n at)
numbered_stays line more a (tokens.Fua ticket epoch token) is = λ n at. number_stays line more a.name n (is n at)
numbered_stays line more a (tokens.Read offset len token) is = is
numbered_stays line more a (tokens.Flush token) is = is

module _ (line : List Entry) (left : List Sending) (x : Sending) (right : List Sending) (number : ℕ) where
  -- the write of an origin is as much its request's in the line as on its way there
  origin_stays : (name : ℕ) (origin : Origin) → IsOfOrigin line (left ++ x ∷ right) name origin → IsOfOrigin (line ++ entry_as_number number x ∷ []) (left ++ right) name origin
  origin_stays name origin is = record {
    numbered = All-push (λ (e : Entry). e.kept.origin ≡ origin → e.name ≡ name) line (entry_as_number number x) is.numbered
        (all_at (λ (y : Sending). y.submitted.origin ≡ origin → y.name ≡ name) left x right is.submitted);
    submitted = all_without (λ (y : Sending). y.submitted.origin ≡ origin → y.name ≡ name) left x right is.submitted;
  }

  ticket_stays : (name : ℕ) (o : Owing) (w : Waiting) → IsOfTicket line (left ++ x ∷ right) name o w → IsOfTicket (line ++ entry_as_number number x ∷ []) (left ++ right) name o w
  ticket_stays name o (tokens.Plain ticket epoch known token) is = origin_stays name (origin_of o ticket) is
  ticket_stays name o (tokens.Fua ticket epoch token) is = origin_stays name (origin_of o ticket) is
  ticket_stays name o (tokens.Read offset len token) is = is
  ticket_stays name o (tokens.Flush token) is = is

  bound_stays : (b : Bound) → IsBound line (left ++ x ∷ right) b → IsBound (line ++ entry_as_number number x ∷ []) (left ++ right) b
  bound_stays b is = record {
    session = is.session;
    cookie = is.cookie;
    kind = is.kind;
    number = numbered_stays line (entry_as_number number x ∷ []) b.asked b.owing.token is.number;
    ticket = ticket_stays b.asked.name b.owing b.owing.token is.ticket;
  }

  one_place_stays : (name : ℕ) → count_line name (line ++ entry_as_number number x ∷ []) + count_submits name (left ++ right) ≡ count_line name line + count_submits name (left ++ x ∷ right)
  one_place_stays name =
      let p : Entry → Bool = λ e. eqb e.name name in
      let q : Sending → Bool = λ y. eqb y.name name in
      omega (
        arith,
        count-append p line (entry_as_number number x ∷ []),
        count-one p (entry_as_number number x),
        count-without q left x right,
        one_if-same p q (entry_as_number number x) x refl,
      )

  module _ (backed : ℕ) (r : Requests) (s : State) (names : Names) (stands : StandsUnder backed r s (record names { line = line; submits = left ++ x ∷ right }))
      (rest : List Submitted) (are : map (λ (y : Sending). y.submitted) (left ++ right) ≡ rest) where
    write_numbered : StandsUnder backed (record r { submits = rest; line = r.line ++ kept_as_number number x.submitted ∷ [] }) s
        (record names { submits = left ++ right; line = line ++ entry_as_number number x ∷ [] })
    write_numbered =
        let e = entry_as_number number x in
        let mine : ℕ × Placed = (x.name, x.submitted.write) in
        let within : r.front ≤ length line = front_within backed r s (record names { line = line; submits = left ++ x ∷ right }) stands in
        let long : length (named_writes line) ≡ length line = length-map {B = ℕ × Placed} line (λ y. (y.name, y.kept.write)) in
        record {
          sound = stands.sound;
          committed = stands.committed;
          owed = stands.owed;
          taken = stands.taken
              ∙ sym (ap (take r.front) (map_push (λ (y : Entry). (y.name, y.kept.write)) line e) ∙ take-append-le r.front (named_writes line) (mine ∷ []) (omega arith));
          named = record {
            line = map_push (λ (y : Entry). y.kept) line e ∙ ap (λ (l : List Kept). l ++ kept_as_number number x.submitted ∷ []) stands.named.line;
            submits = are;
            tokens = stands.named.tokens;
            demands = stands.named.demands;
            kept = stands.named.kept;
          };
          apart = record { one_place = λ name. omega (arith, stands.apart.one_place name, one_place_stays name); one_reply = stands.apart.one_reply };
          line_sent = subst (All (λ (y : Entry). IsSent s.sent y.name y.kept.write)) (sym (drop-append-le r.front line (e ∷ []) within))
              (All-push (λ (y : Entry). IsSent s.sent y.name y.kept.write) (drop r.front line) e stands.line_sent
              (all_at (λ (y : Sending). IsSent s.sent y.name y.submitted.write) left x right stands.submits_sent));
          submits_sent = all_without (λ (y : Sending). IsSent s.sent y.name y.submitted.write) left x right stands.submits_sent;
          bound = All-weaker (IsBound line (left ++ x ∷ right)) (IsBound (line ++ e ∷ []) (left ++ right)) bound_stays names.tokens stands.bound;
          tokens_wait = stands.tokens_wait;
          demands_wait = stands.demands_wait;
          kept_wait = stands.kept_wait;
          fresh = stands.fresh;
        }

-- a submitted write is numbered
pub numbers : (backed : ℕ) (r : Requests) (x : Submitted) (one other : List Submitted) (number : ℕ) → r.submits ≡ one ++ x ∷ other
    → Stays backed r (record r { submits = one ++ other; line = r.line ++ record { number = number; write = x.write; origin = x.origin } ∷ [] })
numbers backed r x one other number submits s (names, stands) =
    let split = map_splits (λ (y : Sending). y.submitted) names.submits one x other (stands.named.submits ∙ submits) in
    let there = subst (λ (l : List Sending). StandsUnder backed r s (record names { submits = l })) split.is stands in
    let are : map (λ (y : Sending). y.submitted) (split.left ++ split.right) ≡ one ++ other =
    map-append (λ (y : Sending). y.submitted) split.left split.right
    ∙ ap (λ (l : List Submitted). l ++ map (λ (y : Sending). y.submitted) split.right) split.left_is
    ∙ ap (λ (l : List Submitted). one ++ l) split.right_is in
    subst (λ (y : Submitted). StandsFor backed (record r { submits = one ++ other; line = r.line ++ kept_as_number number y ∷ [] }) s) split.mid_is (
      record names { submits = split.left ++ split.right; line = names.line ++ entry_as_number number split.mid ∷ [] },
      write_numbered names.line split.left split.mid split.right number backed r s names there (one ++ other) are,
    )

-- ---- the front is raised

module _ (backed : ℕ) (r : Requests) (s : State) (names : Names) (e : Entry) (rest : List Entry)
    (stands : StandsUnder backed r s names) (next : drop r.front names.line ≡ e ∷ rest) where
  all_sent : All (λ (x : Entry). IsSent s.sent x.name x.kept.write) (e ∷ rest)
  all_sent = subst (All (λ (x : Entry). IsSent s.sent x.name x.kept.write)) next stands.line_sent

  whose : IsSent s.sent e.name e.kept.write
  whose = All-head (λ (x : Entry). IsSent s.sent x.name x.kept.write) e rest all_sent

  -- the write stands at no place before
  none_before : count_line e.name (take r.front names.line) ≡ 0
  none_before =
      let p : Entry → Bool = λ x. eqb x.name e.name in
      let line_is : names.line ≡ take r.front names.line ++ e ∷ rest =
      sym (take-append-drop r.front names.line) ∙ ap (λ (l : List Entry). take r.front names.line ++ l) next in
      omega (
        arith,
        stands.apart.one_place e.name,
        ap (count_line e.name) line_is,
        count-append p (take r.front names.line) (e ∷ rest),
        count-cons p e rest,
        one_if-true p e (eq-eqb e.name e.name refl),
      )

  -- so it isn't taken yet
  not_taken : All (λ (t : Taken). t.name ≢ whose.asked.name) s.taken
  not_taken =
      let others : All (λ (n : ℕ). eqb n e.name ≡ false) (map (λ (x : Entry). x.name) (take r.front names.line)) =
      All-map (λ (n : ℕ). eqb n e.name ≡ false) (λ (x : Entry). x.name) (take r.front names.line) (none_passes (λ (x : Entry). eqb x.name e.name) (take r.front names.line) none_before) in
      let are : map (λ (x : Entry). x.name) (take r.front names.line) ≡ map (λ (t : Taken). t.name) s.taken =
      sym (take-map (λ (x : Entry). x.name) r.front names.line) ∙ sym (names_taken_are backed r s names stands) in
      All-weaker (λ (t : Taken). eqb t.name e.name ≡ false) (λ (t : Taken). t.name ≢ whose.asked.name)
      (λ t fails same. both_ways (eqb t.name e.name) fails (eq-eqb t.name e.name (same ∙ whose.named)))
      s.taken (all_mapped (λ (n : ℕ). eqb n e.name ≡ false) (λ (t : Taken). t.name) s.taken (subst (All (λ (n : ℕ). eqb n e.name ≡ false)) are others))

  may_take : May s (Take whose.asked e.kept.write)
  may_take = (whose.among, whose.writes, not_taken)

  taken_then : writes_of (after s (Take whose.asked e.kept.write)).taken ≡ take (r.front + 1) (named_writes names.line)
  taken_then =
      let t : Taken = record { name = whose.asked.name; write = e.kept.write; answered = false } in
      map_push (λ (u : Taken). (u.name, u.write)) s.taken t
      ∙ ap (λ (l : List (ℕ × Placed)). l ++ (whose.asked.name, e.kept.write) ∷ []) stands.taken
      ∙ ap (λ (n : ℕ). let w : ℕ × Placed = (n, e.kept.write) in take r.front (named_writes names.line) ++ w ∷ []) whose.named
      ∙ sym (take_one_more (named_writes names.line) r.front (e.name, e.kept.write) (named_writes rest) (drop-map (λ (x : Entry). (x.name, x.kept.write)) r.front names.line ∙ ap named_writes next))

  front_raised : StandsUnder backed (record r { front = r.front + 1 }) (after s (Take whose.asked e.kept.write)) names
  front_raised = record {
    sound = sound_step s (Take whose.asked e.kept.write) stands.sound may_take;
    committed = omega (arith, stands.committed, length_push s.taken (let t : Taken = record { name = whose.asked.name; write = e.kept.write; answered = false } in t));
    owed = stands.owed;
    taken = taken_then;
    named = record { line = stands.named.line; submits = stands.named.submits; tokens = stands.named.tokens; demands = stands.named.demands; kept = stands.named.kept };
    apart = stands.apart;
    line_sent = subst (All (λ (x : Entry). IsSent s.sent x.name x.kept.write)) (ap (drop 1) (sym next) ∙ drop-drop 1 r.front names.line)
        (All-tail (λ (x : Entry). IsSent s.sent x.name x.kept.write) e rest all_sent);
    submits_sent = stands.submits_sent;
    bound = stands.bound;
    tokens_wait = stands.tokens_wait;
    demands_wait = stands.demands_wait;
    kept_wait = stands.kept_wait;
    fresh = All-weaker (IsFresh r.front names.tokens) (IsFresh (r.front + 1) names.tokens)
        (λ l is. record { committed = omega (arith, is.committed); answers = is.answers }) r.looked stands.fresh;
  }

-- one write more is taken
raises_by_one : (size backed : ℕ) (r : Requests) → r.front + 1 ≤ length r.line → Shows size backed r (record r { front = r.front + 1 }) []
raises_by_one size backed r more = plays_one size (StandsFor backed r) (StandsFor backed (record r { front = r.front + 1 })) []
    (λ s (names, stands). go s names (drop r.front names.line) refl stands)
  where
    go : (s : State) (names : Names) (behind : List Entry) → drop r.front names.line ≡ behind → StandsUnder backed r s names
        → (move : Move) × GoesOn move × May s move × (shows size s move ≡ []) × StandsFor backed (record r { front = r.front + 1 }) (after s move)
    go s names [] is stands =
        absurd (omega (arith, ap length is, length-drop r.front names.line, length-map names.line (λ (e : Entry). e.kept), ap length stands.named.line))
    go s names (e ∷ rest) is stands = (
      Take (whose backed r s names e rest stands is).asked e.kept.write,
      tt,
      may_take backed r s names e rest stands is,
      refl,
      (names, front_raised backed r s names e rest stands is),
    )

-- so many
raises_by : (size backed : ℕ) (r : Requests) (n : ℕ) → r.front + n ≤ length r.line → Shows size backed r (record r { front = r.front + n }) []
raises_by size backed r zero within =
    shows_stay size backed r (record r { front = r.front + 0 }) (λ s stands. subst (λ (n : ℕ). StandsFor backed (record r { front = n }) s) (sym (add-zero r.front)) stands)
raises_by size backed r (suc n) within =
    let mid = record r { front = r.front + n } in
    let next : r.front + n + 1 ≡ r.front + suc n = omega arith in
    subst (λ (k : ℕ). Shows size backed r (record r { front = k }) []) next
    (plays_then size (StandsFor backed r) (StandsFor backed mid) (StandsFor backed (record r { front = r.front + n + 1 })) [] []
    (raises_by size backed r n (omega arith)) (raises_by_one size backed mid (omega arith)))

-- the writes up to a front are taken
pub raises : (size backed : ℕ) (r : Requests) (front : ℕ) → r.front ≤ front → front ≤ length r.line → Shows size backed r (record r { front = front }) []
raises size backed r front le within =
    let is : r.front + (front - r.front) ≡ front = omega arith in
    subst (λ (n : ℕ). Shows size backed r (record r { front = n }) []) is (raises_by size backed r (front - r.front) (omega arith))

-- ---- what was looked up

-- the committed front may answer each token
may_answer : (front : ℕ) (a : Asked) (w : Waiting) → a.mark ≤ front → a.due ≤ front → MayAnswer front a w
may_answer front a (tokens.Plain ticket epoch number token) mark due = tt
may_answer front a (tokens.Fua ticket epoch token) mark due = tt
may_answer front a (tokens.Read offset len token) mark due = mark
may_answer front a (tokens.Flush token) mark due = λ none. due

looked_changed : (backed : ℕ) (r : Requests) (looked : List Looked) (s : State) (names : Names) → StandsUnder backed r s names → All (IsFresh r.front names.tokens) looked
    → StandsUnder backed (record r { looked = looked }) s names
looked_changed backed r looked s names stands fresh = record {
  sound = stands.sound;
  committed = stands.committed;
  owed = stands.owed;
  taken = stands.taken;
  named = record { line = stands.named.line; submits = stands.named.submits; tokens = stands.named.tokens; demands = stands.named.demands; kept = stands.named.kept };
  apart = stands.apart;
  line_sent = stands.line_sent;
  submits_sent = stands.submits_sent;
  bound = stands.bound;
  tokens_wait = stands.tokens_wait;
  demands_wait = stands.demands_wait;
  kept_wait = stands.kept_wait;
  fresh = fresh;
}

-- a member looks the committed front up
pub looks : (backed : ℕ) (r : Requests) (slot : ℕ) (one other : List Looked) → r.looked ≡ one ++ other → Stays backed r (record r { looked = one ++ record { slot = slot; front = r.front } ∷ other })
looks backed r slot one other is s (names, stands) =
    let l : Looked = record { slot = slot; front = r.front } in
    let may : (b : Bound) → Waits s b.asked → MayAnswerAt l b =
    λ b waits same.
    let marked : b.asked.mark ≤ length s.taken = All-contains (λ (a : Asked). a.mark ≤ length s.taken) s.sent b.asked stands.sound.marks_taken waits.0 in
    let due : b.asked.due ≤ length s.taken = All-contains (λ (a : Asked). a.due ≤ length s.taken) s.sent b.asked stands.sound.dues_taken waits.0 in
    may_answer r.front b.asked b.owing.token (omega (arith, stands.committed)) (omega (arith, stands.committed)) in
    let new : IsFresh r.front names.tokens l = record { committed = omega arith; answers = All-weaker (λ (b : Bound). Waits s b.asked) (MayAnswerAt l) may names.tokens stands.tokens_wait } in
    (names, looked_changed backed r (one ++ l ∷ other) s names stands (all_with (IsFresh r.front names.tokens) one l other (subst (All (IsFresh r.front names.tokens)) is stands.fresh) new))

-- a front that was looked up is dropped
pub drops_looked : (backed : ℕ) (r : Requests) (l : Looked) (one other : List Looked) → r.looked ≡ one ++ l ∷ other → Stays backed r (record r { looked = one ++ other })
drops_looked backed r l one other is s (names, stands) =
    (names, looked_changed backed r (one ++ other) s names stands (all_without (IsFresh r.front names.tokens) one l other (subst (All (IsFresh r.front names.tokens)) is stands.fresh)))

-- ---- a cut, and the start

-- after a cut at which the first writes up to `front` stay, and nothing else
pub restarts : (backed : ℕ) (r : Requests) (front : ℕ) (s : State) → StandsFor backed r s → s.owed ≤ front → front ≤ r.front
    → StandsFor front (record { front = front; line = take front r.line; submits = []; tokens = []; looked = []; demands = []; kept = [] }) (after s (Restart front))
restarts backed r front s (names, stands) owed within =
    let may : May s (Restart front) = (owed, omega (arith, stands.committed)) in
    let fewer_named : (name : ℕ) → count_line name (take front names.line) ≤ count_line name names.line =
    λ name. omega (
      arith,
      count-append (λ (e : Entry). eqb e.name name) (take front names.line) (drop front names.line),
      ap (count_line name) (take-append-drop front names.line),
    ) in (
      record { line = take front names.line; submits = []; tokens = []; demands = []; kept = [] },
      record {
        sound = sound_step s (Restart front) stands.sound may;
        committed = omega (arith, stands.committed, length-take front s.taken);
        owed = owed;
        taken =
            sym (take-map (λ (t : Taken). (t.name, t.write)) front s.taken) ∙ ap (take front) stands.taken ∙ take-take front r.front (named_writes names.line) within
            ∙ sym (ap (take front) (sym (take-map (λ (e : Entry). (e.name, e.kept.write)) front names.line)) ∙ take-take front front (named_writes names.line) (omega arith));
        named = record {
          line = sym (take-map (λ (e : Entry). e.kept) front names.line) ∙ ap (take front) stands.named.line;
          submits = refl;
          tokens = refl;
          demands = refl;
          kept = refl;
        };
        apart = record { one_place = λ name. omega (arith, stands.apart.one_place name, fewer_named name); one_reply = λ name. omega arith };
        line_sent = λ k d lt. absurd (omega (arith, lt, length-drop front (take front names.line), length-take front names.line));
        submits_sent = All-nil (λ (x : Sending). IsSent [] x.name x.submitted.write);
        bound = All-nil (IsBound (take front names.line) []);
        tokens_wait = All-nil (λ (b : Bound). Waits (after s (Restart front)) b.asked);
        demands_wait = All-nil (Waits (after s (Restart front)));
        kept_wait = All-nil (Waits (after s (Restart front)));
        fresh = All-nil (IsFresh front []);
      },
    )

-- a first world stands for the machine before anything happened
pub starts : StandsFor 0 (record { front = 0; line = []; submits = []; tokens = []; looked = []; demands = []; kept = [] }) start
starts = (
  record { line = []; submits = []; tokens = []; demands = []; kept = [] },
  record {
    sound = sound_start;
    committed = refl;
    owed = omega arith;
    taken = refl;
    named = record { line = refl; submits = refl; tokens = refl; demands = refl; kept = refl };
    apart = record { one_place = λ name. omega arith; one_reply = λ name. omega arith };
    line_sent = All-nil (λ (e : Entry). IsSent [] e.name e.kept.write);
    submits_sent = All-nil (λ (x : Sending). IsSent [] x.name x.submitted.write);
    bound = All-nil (IsBound [] []);
    tokens_wait = All-nil (λ (b : Bound). Waits start b.asked);
    demands_wait = All-nil (Waits start);
    kept_wait = All-nil (Waits start);
    fresh = All-nil (IsFresh 0 []);
  },
)
