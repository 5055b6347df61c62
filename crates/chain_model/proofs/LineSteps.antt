-- What is left of requests goes on standing for the machine where the line loses its end, and where submitted writes are lost: lemmas.
use Rattle.std.proofs.Common.{◌≡◌, ℕ, ◌-◌, ◌≤◌, Bool, eqb, List, [], ◌∷◌, ◌++◌, length, map, take, drop, get_or, refl, sym, ◌∙◌, ap, subst, arith}
use Rattle.std.specs.Prelude.{All, slice_get}
use Rattle.std.proofs.lemmas.List.{drop-append-le, get_or-map, length-map, map-append, take-append-le}
use Rattle.std.proofs.lemmas.List.Elements.{All-append, All-weaker}
use Rattle.version_table.specs.declared.kept.Kept.{Kept}
use Rattle.version_table.specs.declared.kept.Origin.{Origin}
use Rattle.volume.specs.Writes.{Placed}
use Rattle.chain_steps.specs.declared.waiting.Waiting.{Waiting}
use Rattle.chain_steps.specs.declared.waiting.Waiting.TheVariants as tokens
use Rattle.world_model.proofs.Counting.{all_before, all_behind, count-append, get_left_only}
use Rattle.world_model.specs.Machine.{Asked, State}
use Rattle.world_model.specs.Requests.{Bound, Entry, IsBound, IsNumbered, IsOfNumber, IsOfOrigin, IsOfTicket, IsSent, Names, Owing, Requests, Sending, StandsUnder, Submitted, count_submits, named_writes, origin_of}
use Rattle.world_model.proofs.Standing.{Stays}
use Rattle.chain_model.specs.Turning.{Begins}
use Rattle.chain_model.specs.Chain.{IsApplied}

-- ---- lists

-- two parts of a list, whose images these are
record Parts {A B : Type 0} (f : A → B) (xs : List A) (before after : List B) : Type 0 where
  pub left : List A
  pub right : List A
  pub is : xs ≡ left ++ right
  pub left_is : map f left ≡ before
  pub right_is : map f right ≡ after

map_parts : {A B : Type 0} (f : A → B) (xs : List A) (before after : List B) → map f xs ≡ before ++ after → Parts f xs before after
map_parts f xs [] after is = record { left = []; right = xs; is = refl; left_is = refl; right_is = is }
map_parts f [] (b ∷ bs) after is = absurd cc
map_parts f (x ∷ xs) (b ∷ bs) after is =
    let first : f x ≡ b = cc in let others : map f xs ≡ bs ++ after = cc in
    let rest = map_parts f xs bs after others in
    let left_is : f x ∷ map f rest.left ≡ b ∷ bs = cc (first, rest.left_is) in
    record { left = x ∷ rest.left; right = rest.right; is = ap (λ l. x ∷ l) rest.is; left_is = left_is; right_is = rest.right_is }

-- what holds of the images
all_mapped : {A B : Type 0} (P : B → Type 0) (f : A → B) (xs : List A) → All P (map f xs) → All (λ x. P (f x)) xs
all_mapped P f xs all = λ k d lt. subst P (get_or-map f xs k d (f d) lt) (all k (f d) (omega (arith, length-map xs f)))

-- without some of them
pub all_without_some : {X : Type 0} (P : X → Type 0) (one some other : List X) → All P (one ++ (some ++ other)) → All P (one ++ other)
all_without_some P one some other all = All-append P one other (all_before P one (some ++ other) all) (all_behind P some other (all_behind P one (some ++ other) all))

-- ---- the line loses its end

module _ (first last : List Entry) where
  -- a number up to its length is the same write's
  number_kept : (name n : ℕ) → n ≤ length first → IsOfNumber (first ++ last) name n → IsOfNumber first name n
  number_kept name n le (some, at) = (
    some,
    get_left_only (map (λ (e : Entry). e.name) first) (map (λ (e : Entry). e.name) last) (n - 1) name (omega (arith, length-map first (λ (e : Entry). e.name)))
        (ap (λ (l : List ℕ). slice_get l (n - 1)) (sym (map-append (λ (e : Entry). e.name) first last)) ∙ at),
  )

  numbered_kept : (a : Asked) (w : Waiting) → IsApplied (length first) w → IsNumbered (first ++ last) a w → IsNumbered first a w
  numbered_kept a (tokens.Plain ticket epoch number token) applied is = λ n at. number_kept a.name n (applied n at) (is n at)
  numbered_kept a (tokens.Fua ticket epoch token) applied is = λ n at. number_kept a.name n (applied n at) (is n at)
  numbered_kept a (tokens.Read offset len token) applied is = is
  numbered_kept a (tokens.Flush token) applied is = is

  origin_kept : (submits : List Sending) (name : ℕ) (origin : Origin) → IsOfOrigin (first ++ last) submits name origin → IsOfOrigin first submits name origin
  origin_kept submits name origin is = record { numbered = all_before (λ (e : Entry). e.kept.origin ≡ origin → e.name ≡ name) first last is.numbered; submitted = is.submitted }

  ticket_kept : (submits : List Sending) (name : ℕ) (o : Owing) (w : Waiting) → IsOfTicket (first ++ last) submits name o w → IsOfTicket first submits name o w
  ticket_kept submits name o (tokens.Plain ticket epoch number token) is = origin_kept submits name (origin_of o ticket) is
  ticket_kept submits name o (tokens.Fua ticket epoch token) is = origin_kept submits name (origin_of o ticket) is
  ticket_kept submits name o (tokens.Read offset len token) is = is
  ticket_kept submits name o (tokens.Flush token) is = is

  -- a token is its request's still
  bound_kept : (submits : List Sending) (b : Bound) → IsApplied (length first) b.owing.token → IsBound (first ++ last) submits b → IsBound first submits b
  bound_kept submits b applied is = record {
    session = is.session;
    cookie = is.cookie;
    kind = is.kind;
    number = numbered_kept b.asked b.owing.token applied is.number;
    ticket = ticket_kept submits b.asked.name b.owing b.owing.token is.ticket;
  }

  module _ (backed : ℕ) (r : Requests) (s : State) (names : Names) (stands : StandsUnder backed r s (record names { line = first ++ last }))
      (shorter : List Kept) (are : map (λ (e : Entry). e.kept) first ≡ shorter) (within : r.front ≤ length first) (applied : All (λ b. IsApplied (length first) b.owing.token) names.tokens) where
    -- all stands with the first part alone
    line_shorter : StandsUnder backed (record r { line = shorter }) s (record names { line = first })
    line_shorter =
        let long : length (named_writes first) ≡ length first = length-map {B = ℕ × Placed} first (λ e. (e.name, e.kept.write)) in
        record {
          sound = stands.sound;
          committed = stands.committed;
          owed = stands.owed;
          taken = stands.taken
              ∙ ap (take r.front) (map-append (λ (e : Entry). (e.name, e.kept.write)) first last)
              ∙ take-append-le r.front (named_writes first) (named_writes last) (omega (arith, within, long));
          named = record { line = are; submits = stands.named.submits; tokens = stands.named.tokens; demands = stands.named.demands; kept = stands.named.kept };
          apart = record {
            one_place = λ name. omega (arith, stands.apart.one_place name, count-append (λ (e : Entry). eqb e.name name) first last);
            one_reply = stands.apart.one_reply;
          };
          line_sent = all_before (λ (e : Entry). IsSent s.sent e.name e.kept.write) (drop r.front first) last
              (subst (All (λ (e : Entry). IsSent s.sent e.name e.kept.write)) (drop-append-le r.front first last within) stands.line_sent);
          submits_sent = stands.submits_sent;
          bound = λ k d lt. bound_kept names.submits (get_or names.tokens k d) (applied k d lt) (stands.bound k d lt);
          tokens_wait = stands.tokens_wait;
          demands_wait = stands.demands_wait;
          kept_wait = stands.kept_wait;
          fresh = stands.fresh;
        }

-- Writes that aren't committed are lost, of which no token knows the number.
pub shrinks : (backed : ℕ) (r : Requests) (shorter : List Kept) → Begins shorter r.line → r.front ≤ length shorter → All (λ o. IsApplied (length shorter) o.token) r.tokens
    → Stays backed r (record r { line = shorter })
shrinks backed r shorter (rest, is) within applied s (names, stands) =
    let parts = map_parts (λ (e : Entry). e.kept) names.line shorter rest (stands.named.line ∙ sym is) in
    let long : length shorter ≡ length parts.left = ap length (sym parts.left_is) ∙ length-map parts.left (λ (e : Entry). e.kept) in
    let there = subst (λ (l : List Entry). StandsUnder backed r s (record names { line = l })) parts.is stands in
    let known : All (λ (o : Owing). IsApplied (length parts.left) o.token) (map (λ (b : Bound). b.owing) names.tokens) =
    subst (λ (n : ℕ). All (λ (o : Owing). IsApplied n o.token) (map (λ (b : Bound). b.owing) names.tokens)) long
    (subst (All (λ (o : Owing). IsApplied (length shorter) o.token)) (sym stands.named.tokens) applied) in (
      record names { line = parts.left },
      line_shorter parts.left parts.right backed r s names there shorter parts.left_is (omega (arith, within, long)) (all_mapped (λ (o : Owing). IsApplied (length parts.left) o.token) (λ (b : Bound). b.owing) names.tokens known),
    )

-- ---- submitted writes are lost

module _ (one some other : List Sending) where
  origin_still : (line : List Entry) (name : ℕ) (origin : Origin) → IsOfOrigin line (one ++ (some ++ other)) name origin → IsOfOrigin line (one ++ other) name origin
  origin_still line name origin is = record { numbered = is.numbered; submitted = all_without_some (λ (x : Sending). x.submitted.origin ≡ origin → x.name ≡ name) one some other is.submitted }

  ticket_still : (line : List Entry) (name : ℕ) (o : Owing) (w : Waiting) → IsOfTicket line (one ++ (some ++ other)) name o w → IsOfTicket line (one ++ other) name o w
  ticket_still line name o (tokens.Plain ticket epoch number token) is = origin_still line name (origin_of o ticket) is
  ticket_still line name o (tokens.Fua ticket epoch token) is = origin_still line name (origin_of o ticket) is
  ticket_still line name o (tokens.Read offset len token) is = is
  ticket_still line name o (tokens.Flush token) is = is

  -- a token is its request's still
  bound_still : (line : List Entry) (b : Bound) → IsBound line (one ++ (some ++ other)) b → IsBound line (one ++ other) b
  bound_still line b is = record { session = is.session; cookie = is.cookie; kind = is.kind; number = is.number; ticket = ticket_still line b.asked.name b.owing b.owing.token is.ticket }

  -- and no more are of a name
  fewer_counted : (name : ℕ) → count_submits name (one ++ other) ≤ count_submits name (one ++ (some ++ other))
  fewer_counted name =
      let p : Sending → Bool = λ x. eqb x.name name in
      omega (arith, count-append p one (some ++ other), count-append p some other, count-append p one other)

  module _ (backed : ℕ) (r : Requests) (s : State) (names : Names) (stands : StandsUnder backed r s (record names { submits = one ++ (some ++ other) }))
      (rest : List Submitted) (are : map (λ (x : Sending). x.submitted) (one ++ other) ≡ rest) where
    -- all stands without them
    some_lost : StandsUnder backed (record r { submits = rest }) s (record names { submits = one ++ other })
    some_lost = record {
      sound = stands.sound;
      committed = stands.committed;
      owed = stands.owed;
      taken = stands.taken;
      named = record { line = stands.named.line; submits = are; tokens = stands.named.tokens; demands = stands.named.demands; kept = stands.named.kept };
      apart = record { one_place = λ name. omega (arith, stands.apart.one_place name, fewer_counted name); one_reply = stands.apart.one_reply };
      line_sent = stands.line_sent;
      submits_sent = all_without_some (λ (x : Sending). IsSent s.sent x.name x.submitted.write) one some other stands.submits_sent;
      bound = All-weaker (IsBound names.line (one ++ (some ++ other))) (IsBound names.line (one ++ other)) (bound_still names.line) names.tokens stands.bound;
      tokens_wait = stands.tokens_wait;
      demands_wait = stands.demands_wait;
      kept_wait = stands.kept_wait;
      fresh = stands.fresh;
    }

-- Writes on their way are lost.
pub loses_submits : (backed : ℕ) (r : Requests) (one some other : List Submitted) → r.submits ≡ one ++ (some ++ other) → Stays backed r (record r { submits = one ++ other })
loses_submits backed r one some other is s (names, stands) =
    let head = map_parts (λ (x : Sending). x.submitted) names.submits one (some ++ other) (stands.named.submits ∙ is) in
    let tail = map_parts (λ (x : Sending). x.submitted) head.right some other head.right_is in
    let split : names.submits ≡ head.left ++ (tail.left ++ tail.right) = head.is ∙ ap (λ (l : List Sending). head.left ++ l) tail.is in
    let there = subst (λ (l : List Sending). StandsUnder backed r s (record names { submits = l })) split stands in
    let are : map (λ (x : Sending). x.submitted) (head.left ++ tail.right) ≡ one ++ other =
    map-append (λ (x : Sending). x.submitted) head.left tail.right
    ∙ ap (λ (l : List Submitted). l ++ map (λ (x : Sending). x.submitted) tail.right) head.left_is
    ∙ ap (λ (l : List Submitted). one ++ l) tail.right_is in (
      record names { submits = head.left ++ tail.right },
      some_lost head.left tail.left tail.right backed r s names there (one ++ other) are,
    )
