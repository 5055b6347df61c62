-- What sessions send, and what becomes of the demands that members take: lemmas for the crate above.
use Rattle.std.proofs.Common.{◌≡◌, ◌≢◌, ◌⊎◌, ℕ, ◌+◌, ◌<◌, ◌≤◌, Bool, eqb, Some, None, List, [], ◌∷◌, ◌++◌, length, map, take, drop, set, get_or, refl, sym, ◌∙◌, ap, subst, inl, inr, arith}
use Rattle.std.specs.Prelude.{All, Contains, slice_get}
use Rattle.std.specs.List.{flat_map, insert}
use Rattle.std.proofs.lemmas.Bool.{cases_Bool, ne_eqb, eqb-true}
use Rattle.std.proofs.lemmas.List.{append-nil, append_assoc, map-append, map-set, take-map, drop-map, take-append-drop, take_all, length-map, get_or-map}
use Rattle.std.proofs.lemmas.List.Elements.{All-append, All-cons, All-contains, All-nil, All-push, Contains-append_left, Contains-push}
use Rattle.std.proofs.lemmas.Option.{none-some}
use Rattle.std.proofs.lemmas.Simd.{map-map}
use Rattle.flush_barrier.specs.Owed.{Owed, OwedAt}
use Rattle.flush_barrier.specs.declared.error_code.ErrorCode.{ErrorCode}
use Rattle.version_table.specs.declared.kept.Kept.{Kept}
use Rattle.volume.specs.Writes.{Placed, volume_of}
use Rattle.chain_steps.specs.Waiting.{debt_of}
use Rattle.chain_steps.specs.declared.waiting.Waiting.{Waiting}
use Rattle.chain_steps.specs.declared.waiting.Waiting.TheVariants as tokens
use Rattle.world_model.proofs.Counting.{Split, all_at, all_before, all_behind, all_in, all_set, all_without, count-append, count_forgotten, count-one, count_set, count-without, flat_insert_none, map_gets, map_splits, none_counted, one_if, one_if-false, one_if-same, one_if-true}
use Rattle.world_model.specs.Event.{Answered, Done, Failed, Read, Request}
use Rattle.world_model.specs.Machine.{AnswerRead, Asked, IsFlush, IsRead, May, Refuse, Send, State, Taken, Waits, after as state_after, range_of, told, machine_volume, written}
use Rattle.world_model.specs.Requests.{AreApart, Bound, Entry, Held, IsBound, IsNew, IsNumbered, IsOfKind, IsOfOrigin, IsOfTicket, IsSent, IsUnused, MayAnswer, Names, Owing, Requests, Sending, StandsFor, StandsUnder, Submitted, count_asked, count_line, count_submits, count_tokens, held_of, later, origin_of, sent_event, ticket_of}
use Rattle.world_model.proofs.Runs.{plays_one, plays_then, sound_step}
use Rattle.world_model.specs.Sound.{IsSound, kept_as}
use Rattle.world_model.proofs.Standing.{Shows, Stays, all_still_wait, counts_itself, get_set, set_same, set_twice, shows_stay, tokens_still_wait}

-- ---- lists

-- two parts of a list, whose images these are
record Parts {A B : Type 0} (f : A → B) (xs : List A) (before after : List B) : Type 0 where
  pub left : List A
  pub right : List A
  pub is : xs ≡ left ++ right
  pub left_is : map f left ≡ before
  pub right_is : map f right ≡ after

map_parts : {A B : Type 0} (f : A → B) (xs : List A) (before after : List B) → map f xs ≡ before ++ after → Parts f xs before after
map_parts f xs [] after is = record { left = []; right = xs; is = refl; left_is = refl; right_is = is }
map_parts f [] (b ∷ bs) after is = absurd cc
map_parts f (x ∷ xs) (b ∷ bs) after is =
    let first : f x ≡ b = cc in let others : map f xs ≡ bs ++ after = cc in
    let rest = map_parts f xs bs after others in
    let left_is : f x ∷ map f rest.left ≡ b ∷ bs = cc (first, rest.left_is) in
    record { left = x ∷ rest.left; right = rest.right; is = ap (λ l. x ∷ l) rest.is; left_is = left_is; right_is = rest.right_is }

-- and back
map_joins : {A B : Type 0} (f : A → B) (xs ys : List A) (before after : List B) → map f xs ≡ before → map f ys ≡ after → map f (xs ++ ys) ≡ before ++ after
map_joins f xs ys before after left_is right_is = map-append f xs ys ∙ ap (λ l. l ++ map f ys) left_is ∙ ap (λ l. before ++ l) right_is

all_mapped : {A B : Type 0} (P : B → Type 0) (f : A → B) (xs : List A) → All P (map f xs) → All (λ x. P (f x)) xs
all_mapped P f xs all = λ k d lt. subst P (get_or-map f xs k d (f d) lt) (all k (f d) (omega (arith, length-map xs f)))

-- with one more
all_with : {X : Type 0} (P : X → Type 0) (xs : List X) (x : X) (ys : List X) → P x → All P (xs ++ ys) → All P (xs ++ x ∷ ys)
all_with P xs x ys this all = All-append P xs (x ∷ ys) (all_before P xs ys all) (All-cons P x ys this (all_behind P xs ys all))

-- ---- what waits to be taken up

-- other requests wait to be taken up, under no name more than did
module _ (backed : ℕ) (r : Requests) (s : State) (names : Names) (stands : StandsUnder backed r s names) (demands : List Asked) (kept : List (List Asked)) where
  regrouped : (held : List Held) (sessions : List (List Held)) → map held_of demands ≡ held → map (map held_of) kept ≡ sessions
      → All (Waits s) demands → All (Waits s) (flat_map (λ (l : List Asked). l) kept)
      → ((name : ℕ) → count_asked name demands + count_asked name (flat_map (λ (l : List Asked). l) kept) ≤ count_asked name names.demands + count_asked name (later names))
      → StandsFor backed (record r { demands = held; kept = sessions }) s
  regrouped held sessions demands_are kept_are demands_wait kept_wait fewer = (
    record names { demands = demands; kept = kept },
    record {
      sound = stands.sound;
      committed = stands.committed;
      owed = stands.owed;
      taken = stands.taken;
      named = record { line = stands.named.line; submits = stands.named.submits; tokens = stands.named.tokens; demands = demands_are; kept = kept_are };
      apart = record {
        one_place = λ name. omega (arith, stands.apart.one_place name, fewer name);
        one_reply = λ name. omega (arith, stands.apart.one_reply name, fewer name);
      };
      line_sent = stands.line_sent;
      submits_sent = stands.submits_sent;
      bound = stands.bound;
      tokens_wait = stands.tokens_wait;
      demands_wait = demands_wait;
      kept_wait = kept_wait;
      fresh = stands.fresh;
    },
  )

-- a client's session begins, and keeps nothing
pub connects : (backed : ℕ) (r : Requests) (at : ℕ) → Stays backed r (record r { kept = insert r.kept at [] })
connects backed r at s (names, stands) =
    let none : flat_map (λ (l : List Asked). l) (insert names.kept at []) ≡ later names = flat_insert_none names.kept at in
    let kept_are : map (map held_of) (insert names.kept at []) ≡ insert r.kept at [] =
    map_joins (map held_of) (take at names.kept) ([] ∷ drop at names.kept) (take at r.kept) ([] ∷ drop at r.kept)
    (sym (take-map (map held_of) at names.kept) ∙ ap (take at) stands.named.kept)
    (ap (λ (l : List (List Held)). [] ∷ l) (sym (drop-map (map held_of) at names.kept) ∙ ap (drop at) stands.named.kept)) in
    regrouped backed r s names stands names.demands (insert names.kept at []) r.demands (insert r.kept at []) stands.named.demands kept_are stands.demands_wait
    (subst (All (Waits s)) (sym none) stands.kept_wait) (λ name. omega (arith, ap (count_asked name) none))

-- what a session keeps is forgotten
pub forgets : (backed : ℕ) (r : Requests) (at : ℕ) → Stays backed r (record r { kept = set r.kept at [] })
forgets backed r at s (names, stands) =
    regrouped backed r s names stands names.demands (set names.kept at []) r.demands (set r.kept at []) stands.named.demands
    (map-set (map held_of) names.kept at [] ∙ ap (λ (l : List (List Held)). set l at []) stands.named.kept) stands.demands_wait
    (all_set (Waits s) names.kept at [] stands.kept_wait (All-nil (Waits s)))
    (λ name. omega (arith, count_forgotten (λ (a : Asked). eqb a.name name) names.kept at))

-- a session takes up the first requests that it keeps: they are demands, at some place
pub reaches : (backed : ℕ) (r : Requests) (at : ℕ) (taken kept before after : List Held) → slice_get r.kept at ≡ Some (taken ++ kept) → r.demands ≡ before ++ after
    → Stays backed r (record r { kept = set r.kept at kept; demands = before ++ taken ++ after })
reaches backed r at taken kept before after here demands s (names, stands) =
    let mine = map_gets (map held_of) names.kept at (taken ++ kept) (ap (λ (l : List (List Held)). slice_get l at) stands.named.kept ∙ here) in
    let up = map_parts held_of mine.0 taken kept mine.2 in
    let old = map_parts held_of names.demands before after (stands.named.demands ∙ demands) in
    let there : slice_get names.kept at ≡ Some (up.left ++ up.right) = mine.1 ∙ ap (λ (l : List Asked). Some l) up.is in
    let mine_wait : All (Waits s) (up.left ++ up.right) = all_in (Waits s) names.kept at (up.left ++ up.right) there stands.kept_wait in
    let old_wait : All (Waits s) (old.left ++ old.right) = subst (All (Waits s)) old.is stands.demands_wait in
    let first_wait : All (Waits s) (old.left ++ up.left) = All-append (Waits s) old.left up.left (all_before (Waits s) old.left old.right old_wait) (all_before (Waits s) up.left up.right mine_wait) in
    regrouped backed r s names stands (old.left ++ up.left ++ old.right) (set names.kept at up.right) (before ++ taken ++ after) (set r.kept at kept)
    (map_joins held_of (old.left ++ up.left) old.right (before ++ taken) after (map_joins held_of old.left up.left before taken old.left_is up.left_is) old.right_is)
    (map-set (map held_of) names.kept at up.right ∙ ap (λ (l : List (List Held)). set l at (map held_of up.right)) stands.named.kept ∙ ap (λ (l : List Held). set r.kept at l) up.right_is)
    (All-append (Waits s) (old.left ++ up.left) old.right first_wait (all_behind (Waits s) old.left old.right old_wait))
    (all_set (Waits s) names.kept at up.right stands.kept_wait (all_behind (Waits s) up.left up.right mine_wait))
    (λ name.
    let p : Asked → Bool = λ a. eqb a.name name in
    omega (
      arith,
      count_set p names.kept at (up.left ++ up.right) up.right there,
      count-append p up.left up.right,
      count-append p (old.left ++ up.left) old.right,
      count-append p old.left up.left,
      count-append p old.left old.right,
      ap (count_asked name) old.is,
    ))

-- ---- a request is sent

-- the request, as the machine keeps it
abbrev asked_of : State → Held → Asked
asked_of s h = kept_as s h.session h.cookie h.request

-- the machine once it is sent
abbrev sent_state : State → Held → State
sent_state s h = state_after s (Send h.session h.cookie h.request)

-- and the names, where the session at this place kept these
abbrev with_asked : Names → ℕ → List Asked → Asked → Names
with_asked names at mine a = record names { kept = set names.kept at (mine ++ a ∷ []) }

-- it is of the name, or isn't
one_or_none : (x : Asked) (name : ℕ) → (one_if (λ (a : Asked). eqb a.name name) x ≡ 0) ⊎ ((one_if (λ (a : Asked). eqb a.name name) x ≡ 1) × (x.name ≡ name))
one_or_none x name = elim (cases_Bool (eqb x.name name)) [
  | inl same ↦ inr (one_if-true (λ (a : Asked). eqb a.name name) x same, eqb-true x.name name same)
  | inr other ↦ inl (one_if-false (λ (a : Asked). eqb a.name name) x other)
]

-- names that were given are below the next
sent_below : (s : State) (a : Asked) → IsSound s → Contains s.sent a → a.name < s.events
sent_below s a sound among = All-contains (λ (b : Asked). b.name < s.events) s.sent a (all_mapped (λ name. name < s.events) (λ (b : Asked). b.name) s.sent sound.sent_before) among

module _ (backed : ℕ) (r : Requests) (s : State) (names : Names) (stands : StandsUnder backed r s names) where
  -- the writes that were taken are the first of the line
  first_taken : {A : Type 0} (f : ℕ × Placed → A) → map (λ (t : Taken). f (t.name, t.write)) s.taken ≡ map (λ (e : Entry). f (e.name, e.kept.write)) (take r.front names.line)
  first_taken f =
      sym (map-map f (λ (t : Taken). (t.name, t.write)) s.taken)
      ∙ ap (map f) (stands.taken ∙ take-map (λ (e : Entry). (e.name, e.kept.write)) r.front names.line)
      ∙ map-map f (λ (e : Entry). (e.name, e.kept.write)) (take r.front names.line)

  -- the volume after them is the machine's
  volume_is : (size : ℕ) → machine_volume size s r.front ≡ volume_of size (map (λ k. k.write) (take r.front r.line))
  volume_is size =
      let whole : take r.front s.taken ≡ s.taken = take_all r.front s.taken (omega (arith, stands.committed)) in
      let line : map (λ (e : Entry). e.kept) (take r.front names.line) ≡ take r.front r.line = sym (take-map (λ (e : Entry). e.kept) r.front names.line) ∙ ap (take r.front) stands.named.line in
      ap (λ (l : List Taken). volume_of size (map (λ t. t.write) l)) whole
      ∙ ap (volume_of size) (first_taken (λ w. w.1) ∙ sym (map-map (λ (k : Kept). k.write) (λ (e : Entry). e.kept) (take r.front names.line)) ∙ ap (map (λ (k : Kept). k.write)) line)

  line_below : All (λ e. e.name < s.events) names.line
  line_below =
      let taken : All (λ (e : Entry). e.name < s.events) (take r.front names.line) =
      all_mapped (λ name. name < s.events) (λ (e : Entry). e.name) (take r.front names.line) (subst (All (λ name. name < s.events)) (first_taken (λ w. w.0)) stands.sound.taken_before) in
      let others : All (λ (e : Entry). e.name < s.events) (drop r.front names.line) =
      λ k d lt. let its = stands.line_sent k d lt in subst (λ name. name < s.events) its.named (sent_below s its.asked stands.sound its.among) in
      subst (All (λ (e : Entry). e.name < s.events)) (take-append-drop r.front names.line) (All-append (λ (e : Entry). e.name < s.events) (take r.front names.line) (drop r.front names.line) taken others)

  -- no other has a new name
  module _ (name : ℕ) (new : s.events ≤ name) where
    none_asked : (l : List Asked) → All (Waits s) l → count_asked name l ≡ 0
    none_asked l waits = none_counted (λ (a : Asked). eqb a.name name) l
        (λ k d lt. let below = sent_below s (get_or l k d) stands.sound (waits k d lt).0 in ne_eqb (get_or l k d).name name (λ same. omega arith))

    none_tokens : count_tokens name names.tokens ≡ 0
    none_tokens = none_counted (λ (b : Bound). eqb b.asked.name name) names.tokens
        (λ k d lt. let below = sent_below s (get_or names.tokens k d).asked stands.sound (stands.tokens_wait k d lt).0 in ne_eqb (get_or names.tokens k d).asked.name name (λ same. omega arith))

    none_line : count_line name names.line ≡ 0
    none_line = none_counted (λ (e : Entry). eqb e.name name) names.line
        (λ k d lt. let below : (get_or names.line k d).name < s.events = line_below k d lt in ne_eqb (get_or names.line k d).name name (λ same. omega arith))

    none_submits : count_submits name names.submits ≡ 0
    none_submits = none_counted (λ (x : Sending). eqb x.name name) names.submits
        (λ k d lt.
        let its = stands.submits_sent k d lt in
        let below = sent_below s its.asked stands.sound its.among in
        let named = its.named in
        ne_eqb (get_or names.submits k d).name name (λ same. omega arith))

-- the others still wait, and what was sent is sent
still_on : (s : State) (h : Held) (a : Asked) → Waits s a → Waits (sent_state s h) a
still_on s h a (sent, waits) = (Contains-append_left s.sent (asked_of s h ∷ []) a sent, Contains-append_left s.waiting (s.events ∷ []) a.name waits)

still_sent : (s : State) (h : Held) (name : ℕ) (write : Placed) → IsSent s.sent name write → IsSent (sent_state s h).sent name write
still_sent s h name write is = record { asked = is.asked; among = Contains-append_left s.sent (asked_of s h ∷ []) is.asked is.among; named = is.named; writes = is.writes }

module _ (backed : ℕ) (r : Requests) (at : ℕ) (kept : List Held) (h : Held) (s : State) (names : Names) (stands : StandsUnder backed r s names)
    (mine : List Asked) (there : slice_get names.kept at ≡ Some mine) (are : map held_of mine ≡ kept) where
  one_more : (name : ℕ) → count_asked name (later (with_asked names at mine (asked_of s h))) ≡ count_asked name (later names) + one_if (λ (a : Asked). eqb a.name name) (asked_of s h)
  one_more name =
      let p : Asked → Bool = λ a. eqb a.name name in
      omega (arith, count_set p names.kept at mine (mine ++ asked_of s h ∷ []) there, count-append p mine (asked_of s h ∷ []), count-one p (asked_of s h))

  sent_apart : AreApart (with_asked names at mine (asked_of s h))
  sent_apart = record {
    one_place = λ name. elim (one_or_none (asked_of s h) name) [
      | inl old ↦ omega (arith, stands.apart.one_place name, one_more name)
      | inr (one, is) ↦ let new : s.events ≤ name = omega arith in
          omega (
            arith,
            one_more name,
            none_line backed r s names stands name new,
            none_submits backed r s names stands name new,
            none_asked backed r s names stands name new names.demands stands.demands_wait,
            none_asked backed r s names stands name new (later names) stands.kept_wait,
          )
    ];
    one_reply = λ name. elim (one_or_none (asked_of s h) name) [
      | inl old ↦ omega (arith, stands.apart.one_reply name, one_more name)
      | inr (one, is) ↦ let new : s.events ≤ name = omega arith in
          omega (
            arith,
            one_more name,
            none_tokens backed r s names stands name new,
            none_asked backed r s names stands name new names.demands stands.demands_wait,
            none_asked backed r s names stands name new (later names) stands.kept_wait,
          )
    ];
  }

  request_sent : StandsUnder backed (record r { kept = set r.kept at (kept ++ h ∷ []) }) (sent_state s h) (with_asked names at mine (asked_of s h))
  request_sent =
      let a = asked_of s h in
      let next = sent_state s h in
      let new_waits : Waits next a = (Contains-push s.sent a, Contains-push s.waiting s.events) in
      record {
        sound = sound_step s (Send h.session h.cookie h.request) stands.sound tt;
        committed = stands.committed;
        owed = stands.owed;
        taken = stands.taken;
        named = record {
          line = stands.named.line;
          submits = stands.named.submits;
          tokens = stands.named.tokens;
          demands = stands.named.demands;
          kept = map-set (map held_of) names.kept at (mine ++ a ∷ []) ∙ ap (λ (l : List (List Held)). set l at (map held_of (mine ++ a ∷ []))) stands.named.kept
              ∙ ap (λ (l : List Held). set r.kept at l) (map_joins held_of mine (a ∷ []) kept (h ∷ []) are refl);
        };
        apart = sent_apart;
        line_sent = λ k d lt. still_sent s h (get_or (drop r.front names.line) k d).name (get_or (drop r.front names.line) k d).kept.write (stands.line_sent k d lt);
        submits_sent = λ k d lt. still_sent s h (get_or names.submits k d).name (get_or names.submits k d).submitted.write (stands.submits_sent k d lt);
        bound = stands.bound;
        tokens_wait = λ k d lt. still_on s h (get_or names.tokens k d).asked (stands.tokens_wait k d lt);
        demands_wait = λ k d lt. still_on s h (get_or names.demands k d) (stands.demands_wait k d lt);
        kept_wait = all_set (Waits next) names.kept at (mine ++ a ∷ []) (λ k d lt. still_on s h (get_or (later names) k d) (stands.kept_wait k d lt))
            (All-push (Waits next) mine a (λ k d lt. still_on s h (get_or mine k d) (all_in (Waits s) names.kept at mine there stands.kept_wait k d lt)) new_waits);
        fresh = stands.fresh;
      }

-- a request is sent
pub sends : (size backed : ℕ) (r : Requests) (at : ℕ) (kept : List Held) (h : Held) → slice_get r.kept at ≡ Some kept
    → Shows size backed r (record r { kept = set r.kept at (kept ++ h ∷ []) }) (sent_event h ∷ [])
sends size backed r at kept h here = plays_one size (StandsFor backed r) (StandsFor backed (record r { kept = set r.kept at (kept ++ h ∷ []) })) (sent_event h ∷ [])
    (λ s (names, stands).
    let mine = map_gets (map held_of) names.kept at kept (ap (λ (l : List (List Held)). slice_get l at) stands.named.kept ∙ here) in (
      Send h.session h.cookie h.request,
      tt,
      tt,
      refl,
      (with_asked names at mine.0 (asked_of s h), request_sent backed r at kept h s names stands mine.0 mine.1 mine.2),
    ))

-- requests are sent one after another
pub sends_all : (size backed : ℕ) (r : Requests) (at : ℕ) (kept more : List Held) → slice_get r.kept at ≡ Some kept
    → Shows size backed r (record r { kept = set r.kept at (kept ++ more) }) (map sent_event more)
sends_all size backed r at kept [] here = shows_stay size backed r (record r { kept = set r.kept at (kept ++ []) })
    (λ s stands. subst (λ (l : List (List Held)). StandsFor backed (record r { kept = l }) s) (sym (ap (λ (l : List Held). set r.kept at l) (append-nil kept) ∙ set_same r.kept at kept here)) stands)
sends_all size backed r at kept (h ∷ hs) here =
    let mid = record r { kept = set r.kept at (kept ++ h ∷ []) } in
    let last : set (set r.kept at (kept ++ h ∷ [])) at ((kept ++ h ∷ []) ++ hs) ≡ set r.kept at (kept ++ h ∷ hs) =
    set_twice r.kept at (kept ++ h ∷ []) ((kept ++ h ∷ []) ++ hs) ∙ ap (λ (l : List Held). set r.kept at l) (append_assoc kept (h ∷ []) hs) in
    subst (λ (l : List (List Held)). Shows size backed r (record r { kept = l }) (map sent_event (h ∷ hs))) last
    (plays_then size (StandsFor backed r) (StandsFor backed mid) (StandsFor backed (record mid { kept = set mid.kept at ((kept ++ h ∷ []) ++ hs) })) (sent_event h ∷ []) (map sent_event hs)
    (sends size backed r at kept h here) (sends_all size backed mid at (kept ++ h ∷ []) hs (get_set r.kept at kept (kept ++ h ∷ []) here)))

-- ---- a demand's request

module _ (backed : ℕ) (r : Requests) (s : State) (names : Names) (stands : StandsUnder backed r s names)
    (left : List Asked) (a : Asked) (right : List Asked) (is : names.demands ≡ left ++ a ∷ right) where
  it_waits : Waits s a
  it_waits = all_at (Waits s) left a right (subst (All (Waits s)) is stands.demands_wait)

  others_wait : All (Waits s) (left ++ right)
  others_wait = all_without (Waits s) left a right (subst (All (Waits s)) is stands.demands_wait)

  fewer : (name : ℕ) → count_asked name names.demands ≡ count_asked name (left ++ right) + one_if (λ (b : Asked). eqb b.name name) a
  fewer name = ap (count_asked name) is ∙ count-without (λ (b : Asked). eqb b.name name) left a right

  -- its client is told, and it waits no longer
  demand_told : (rest : List Held) → map held_of (left ++ right) ≡ rest → IsSound (told s a) → StandsFor backed (record r { demands = rest }) (told s a)
  demand_told rest are sound =
      let reply = stands.apart.one_reply a.name in
      let mine = fewer a.name in
      let one = counts_itself a in (
        record names { demands = left ++ right },
        record {
          sound = sound;
          committed = stands.committed;
          owed = stands.owed;
          taken = stands.taken;
          named = record { line = stands.named.line; submits = stands.named.submits; tokens = stands.named.tokens; demands = are; kept = stands.named.kept };
          apart = record {
            one_place = λ name. omega (arith, stands.apart.one_place name, fewer name);
            one_reply = λ name. omega (arith, stands.apart.one_reply name, fewer name);
          };
          line_sent = stands.line_sent;
          submits_sent = stands.submits_sent;
          bound = stands.bound;
          tokens_wait = tokens_still_wait s a names.tokens (omega arith) stands.tokens_wait;
          demands_wait = all_still_wait s a (left ++ right) (omega arith) others_wait;
          kept_wait = all_still_wait s a (later names) (omega arith) stands.kept_wait;
          fresh = stands.fresh;
        },
      )

-- a token owes its reply, with these writes on their way
module _ (backed : ℕ) (r : Requests) (s : State) (names : Names) (stands : StandsUnder backed r s names)
    (left : List Asked) (b : Bound) (right : List Asked) (is : names.demands ≡ left ++ b.asked ∷ right)
    (sending : List Sending) (sent : All (λ x. IsSent s.sent x.name x.submitted.write) sending)
    (once : (name : ℕ) → count_submits name sending ≤ count_submits name names.submits + one_if (λ (a : Asked). eqb a.name name) b.asked)
    (its : IsBound names.line sending b) (bound : All (IsBound names.line sending) names.tokens)
    (answers : All (λ l. b.owing.slot ≡ l.slot → MayAnswer l.front b.asked b.owing.token) r.looked) where
  demand_owed : (rest : List Held) (submitted : List Submitted) (first last : List Owing) → map held_of (left ++ right) ≡ rest → map (λ x. x.submitted) sending ≡ submitted
      → r.tokens ≡ first ++ last → StandsFor backed (record r { demands = rest; tokens = first ++ b.owing ∷ last; submits = submitted }) s
  demand_owed rest submitted first last are submits_are tokens_are =
      let old = map_parts (λ (c : Bound). c.owing) names.tokens first last (stands.named.tokens ∙ tokens_are) in
      let fewer_asked = fewer backed r s names stands left b.asked right is in (
        record names { submits = sending; tokens = old.left ++ b ∷ old.right; demands = left ++ right },
        record {
          sound = stands.sound;
          committed = stands.committed;
          owed = stands.owed;
          taken = stands.taken;
          named = record {
            line = stands.named.line;
            submits = submits_are;
            tokens = map_joins (λ (c : Bound). c.owing) old.left (b ∷ old.right) first (b.owing ∷ last) old.left_is (ap (λ (l : List Owing). b.owing ∷ l) old.right_is);
            demands = are;
            kept = stands.named.kept;
          };
          apart = record {
            one_place = λ name. omega (arith, stands.apart.one_place name, fewer_asked name, once name);
            one_reply = λ name. omega (
              arith,
              stands.apart.one_reply name,
              fewer_asked name,
              ap (count_tokens name) old.is,
              count-without (λ (c : Bound). eqb c.asked.name name) old.left b old.right,
              one_if-same (λ (c : Bound). eqb c.asked.name name) (λ (a : Asked). eqb a.name name) b b.asked refl,
            );
          };
          line_sent = stands.line_sent;
          submits_sent = sent;
          bound = all_with (IsBound names.line sending) old.left b old.right its (subst (All (IsBound names.line sending)) old.is bound);
          tokens_wait = all_with (λ (c : Bound). Waits s c.asked) old.left b old.right (it_waits backed r s names stands left b.asked right is) (subst (All (λ (c : Bound). Waits s c.asked)) old.is stands.tokens_wait);
          demands_wait = others_wait backed r s names stands left b.asked right is;
          kept_wait = stands.kept_wait;
          fresh = λ k d lt.
              let l = get_or r.looked k d in
              let was = stands.fresh k d lt in
              record {
                committed = was.committed;
                answers = all_with (λ (c : Bound). c.owing.slot ≡ l.slot → MayAnswer l.front c.asked c.owing.token) old.left b old.right (answers k d lt)
                    (subst (All (λ (c : Bound). c.owing.slot ≡ l.slot → MayAnswer l.front c.asked c.owing.token)) old.is was.answers);
              };
        },
      )

-- ---- a write is submitted

-- its token knows no number
new_number : (line : List Entry) (a : Asked) (ticket : ℕ) (w : Waiting) → IsNew ticket w → IsNumbered line a w
new_number line a ticket (tokens.Plain under epoch number token) (same, none) = λ n is. absurd (none-some n (sym none ∙ is))
new_number line a ticket (tokens.Fua under epoch token) (same, none) = λ n is. absurd (none-some n (sym none ∙ is))
new_number line a ticket (tokens.Read offset len token) new = absurd new
new_number line a ticket (tokens.Flush token) new = absurd new

-- its token asks for no front
new_answer : (front : ℕ) (a : Asked) (ticket : ℕ) (w : Waiting) → IsNew ticket w → MayAnswer front a w
new_answer front a ticket (tokens.Plain under epoch number token) new = tt
new_answer front a ticket (tokens.Fua under epoch token) new = tt
new_answer front a ticket (tokens.Read offset len token) new = absurd new
new_answer front a ticket (tokens.Flush token) new = absurd new

-- the origin under its ticket is its own
new_ticket : (line : List Entry) (sending : List Sending) (name : ℕ) (o : Owing) (ticket : ℕ) (w : Waiting) → IsNew ticket w → IsOfOrigin line sending name (origin_of o ticket) → IsOfTicket line sending name o w
new_ticket line sending name o ticket (tokens.Plain under epoch number token) new is = subst (λ n. IsOfOrigin line sending name (origin_of o n)) (sym new.0) is
new_ticket line sending name o ticket (tokens.Fua under epoch token) new is = subst (λ n. IsOfOrigin line sending name (origin_of o n)) (sym new.0) is
new_ticket line sending name o ticket (tokens.Read offset len token) new is = absurd new
new_ticket line sending name o ticket (tokens.Flush token) new is = absurd new

-- other writes are on their way, of which each token's origin still has its own alone
same_ticket : (line : List Entry) (old new : List Sending) (name : ℕ) (o : Owing) (w : Waiting)
    → ((ticket : ℕ) → ticket_of w ≡ Some ticket → IsOfOrigin line old name (origin_of o ticket) → IsOfOrigin line new name (origin_of o ticket))
    → IsOfTicket line old name o w → IsOfTicket line new name o w
same_ticket line old new name o (tokens.Plain ticket epoch number token) stays is = stays ticket refl is
same_ticket line old new name o (tokens.Fua ticket epoch token) stays is = stays ticket refl is
same_ticket line old new name o (tokens.Read offset len token) stays is = tt
same_ticket line old new name o (tokens.Flush token) stays is = tt

-- a write more is on its way, of an origin that nothing had
module _ (backed : ℕ) (r : Requests) (s : State) (names : Names) (stands : StandsUnder backed r s names)
    (left : List Sending) (x : Sending) (right : List Sending) (is : names.submits ≡ left ++ right) (unused : IsUnused x.submitted.origin r) where
  line_apart : All (λ e. e.kept.origin ≢ x.submitted.origin) names.line
  line_apart = all_mapped (λ (k : Kept). k.origin ≢ x.submitted.origin) (λ (e : Entry). e.kept) names.line
      (subst (All (λ (k : Kept). k.origin ≢ x.submitted.origin)) (sym stands.named.line) unused.line)

  submits_apart : All (λ y. y.submitted.origin ≢ x.submitted.origin) (left ++ right)
  submits_apart = subst (All (λ (y : Sending). y.submitted.origin ≢ x.submitted.origin)) is
      (all_mapped (λ (y : Submitted). y.origin ≢ x.submitted.origin) (λ (y : Sending). y.submitted) names.submits
      (subst (All (λ (y : Submitted). y.origin ≢ x.submitted.origin)) (sym stands.named.submits) unused.submits))

  tokens_apart : All (λ b. (ticket : ℕ) → ticket_of b.owing.token ≡ Some ticket → origin_of b.owing ticket ≢ x.submitted.origin) names.tokens
  tokens_apart = all_mapped (λ (o : Owing). (ticket : ℕ) → ticket_of o.token ≡ Some ticket → origin_of o ticket ≢ x.submitted.origin) (λ (b : Bound). b.owing) names.tokens
      (subst (All (λ (o : Owing). (ticket : ℕ) → ticket_of o.token ≡ Some ticket → origin_of o ticket ≢ x.submitted.origin)) (sym stands.named.tokens) unused.tokens)

  its_origin : IsOfOrigin names.line (left ++ x ∷ right) x.name x.submitted.origin
  its_origin = record {
    numbered = λ k d lt same. absurd (line_apart k d lt same);
    submitted = all_with (λ (y : Sending). y.submitted.origin ≡ x.submitted.origin → y.name ≡ x.name) left x right (λ same. refl) (λ k d lt same. absurd (submits_apart k d lt same));
  }

  -- what was bound stays so
  bound_stays : All (IsBound names.line (left ++ x ∷ right)) names.tokens
  bound_stays = λ k d lt.
      let b = get_or names.tokens k d in
      let was = stands.bound k d lt in
      record {
        session = was.session;
        cookie = was.cookie;
        kind = was.kind;
        number = was.number;
        ticket = same_ticket names.line names.submits (left ++ x ∷ right) b.asked.name b.owing b.owing.token
            (λ ticket under old. record {
              numbered = old.numbered;
              submitted = all_with (λ (y : Sending). y.submitted.origin ≡ origin_of b.owing ticket → y.name ≡ b.asked.name) left x right
                  (λ same. absurd (tokens_apart k d lt ticket under (sym same)))
                  (subst (All (λ (y : Sending). y.submitted.origin ≡ origin_of b.owing ticket → y.name ≡ b.asked.name)) is old.submitted);
            })
            was.ticket;
      }

  one_submitted : (name : ℕ) → count_submits name (left ++ x ∷ right) ≡ count_submits name names.submits + one_if (λ (y : Sending). eqb y.name name) x
  one_submitted name = omega (arith, count-without (λ (y : Sending). eqb y.name name) left x right, ap (count_submits name) is)

-- ---- demands

module _ (size backed : ℕ) (r : Requests) (h : Held) (before after : List Held) (demands : r.demands ≡ before ++ h ∷ after) where
  -- the demand's request, under the names that the world stands by
  found : (s : State) (names : Names) → StandsUnder backed r s names → Split held_of names.demands before h after
  found s names stands = map_splits held_of names.demands before h after (stands.named.demands ∙ demands)

  others_are : (names : Names) (at : Split held_of names.demands before h after) → map held_of (at.left ++ at.right) ≡ before ++ after
  others_are names at = map_joins held_of at.left at.right before after at.left_is at.right_is

  -- a demand is taken, and its client hears nothing
  pub drops_demand : Stays backed r (record r { demands = before ++ after })
  drops_demand s (names, stands) =
      let at = found s names stands in
      regrouped backed r s names stands (at.left ++ at.right) names.kept (before ++ after) r.kept (others_are names at) stands.named.kept
      (others_wait backed r s names stands at.left at.mid at.right at.is) stands.kept_wait
      (λ name. omega (arith, fewer backed r s names stands at.left at.mid at.right at.is name))

  -- it is refused
  pub refuses_demand : (error : ErrorCode) → Shows size backed r (record r { demands = before ++ after }) (Answered h.session h.cookie (Failed error) ∷ [])
  refuses_demand error = plays_one size (StandsFor backed r) (StandsFor backed (record r { demands = before ++ after })) (Answered h.session h.cookie (Failed error) ∷ [])
      (λ s (names, stands).
      let at = found s names stands in
      let waits : Waits s at.mid = it_waits backed r s names stands at.left at.mid at.right at.is in (
        Refuse at.mid error,
        tt,
        waits,
        ap (λ (x : Held). Answered x.session x.cookie (Failed error) ∷ []) at.mid_is,
        demand_told backed r s names stands at.left at.mid at.right at.is (before ++ after) (others_are names at) (sound_step s (Refuse at.mid error) stands.sound waits),
      ))

  -- a READ is answered, from the volume at the committed front
  pub answers_demand : (offset len : ℕ) → h.request ≡ Read offset len
      → Shows size backed r (record r { demands = before ++ after }) (Answered h.session h.cookie (Done (take len (drop offset (volume_of size (map (λ k. k.write) (take r.front r.line)))))) ∷ [])
  answers_demand offset len reads = plays_one size (StandsFor backed r) (StandsFor backed (record r { demands = before ++ after }))
      (Answered h.session h.cookie (Done (take len (drop offset (volume_of size (map (λ k. k.write) (take r.front r.line)))))) ∷ [])
      (λ s (names, stands).
      let at = found s names stands in
      let a = at.mid in
      let waits : Waits s a = it_waits backed r s names stands at.left a at.right at.is in
      let request : a.request ≡ Read offset len = ap (λ (x : Held). x.request) at.mid_is ∙ reads in
      let marked : a.mark ≤ length s.taken = All-contains (λ (b : Asked). b.mark ≤ length s.taken) s.sent a stands.sound.marks_taken waits.0 in
      let may : May s (AnswerRead a r.front) = (waits, subst IsRead (sym request) tt, omega (arith, stands.committed), omega (arith, stands.committed)) in
      let bytes : range_of a.request (machine_volume size s r.front) ≡ take len (drop offset (volume_of size (map (λ k. k.write) (take r.front r.line)))) =
      ap (λ (q : Request). range_of q (machine_volume size s r.front)) request ∙ ap (λ (l : List ℕ). take len (drop offset l)) (volume_is backed r s names stands size) in (
        AnswerRead a r.front,
        tt,
        may,
        ap (λ (x : Held). Answered x.session x.cookie (Done (range_of a.request (machine_volume size s r.front))) ∷ []) at.mid_is ∙ ap (λ (l : List ℕ). Answered h.session h.cookie (Done l) ∷ []) bytes,
        demand_told backed r s names stands at.left a at.right at.is (before ++ after) (others_are names at) (sound_step s (AnswerRead a r.front) stands.sound may),
      ))

  -- a READ waits for a front at a member that keeps none
  pub asks : (offset len slot incarnation : ℕ) (token : Owed) (first last : List Owing) → h.request ≡ Read offset len → token.session ≡ h.session → token.cookie ≡ h.cookie
      → r.tokens ≡ first ++ last → All (λ l. l.slot ≢ slot) r.looked
      → Stays backed r (record r { demands = before ++ after; tokens = first ++ record { slot = slot; incarnation = incarnation; token = tokens.Read offset len token } ∷ last })
  asks offset len slot incarnation token first last reads session cookie tokens_are unlooked s (names, stands) =
      let at = found s names stands in
      let b : Bound = record { owing = record { slot = slot; incarnation = incarnation; token = tokens.Read offset len token }; asked = at.mid } in
      let its : IsBound names.line names.submits b = record {
        session = session ∙ sym (ap (λ (x : Held). x.session) at.mid_is);
        cookie = cookie ∙ sym (ap (λ (x : Held). x.cookie) at.mid_is);
        kind = ap (λ (x : Held). x.request) at.mid_is ∙ reads;
        number = tt;
        ticket = tt;
      } in
      demand_owed backed r s names stands at.left b at.right at.is names.submits stands.submits_sent (λ name. omega arith) its stands.bound (λ k d lt same. absurd (unlooked k d lt (sym same)))
      (before ++ after) r.submits first last (others_are names at) stands.named.submits tokens_are

  -- a FLUSH waits for a front at a member that keeps none
  pub flushes : (slot incarnation : ℕ) (token : OwedAt) (first last : List Owing) → IsFlush h.request → token.session ≡ h.session → token.cookie ≡ h.cookie → token.number ≡ None
      → r.tokens ≡ first ++ last → All (λ l. l.slot ≢ slot) r.looked
      → Stays backed r (record r { demands = before ++ after; tokens = first ++ record { slot = slot; incarnation = incarnation; token = tokens.Flush token } ∷ last })
  flushes slot incarnation token first last is_flush session cookie none tokens_are unlooked s (names, stands) =
      let at = found s names stands in
      let b : Bound = record { owing = record { slot = slot; incarnation = incarnation; token = tokens.Flush token }; asked = at.mid } in
      let its : IsBound names.line names.submits b = record {
        session = session ∙ sym (ap (λ (x : Held). x.session) at.mid_is);
        cookie = cookie ∙ sym (ap (λ (x : Held). x.cookie) at.mid_is);
        kind = subst IsFlush (sym (ap (λ (x : Held). x.request) at.mid_is)) is_flush;
        number = λ n is. absurd (none-some n (sym none ∙ is));
        ticket = tt;
      } in
      demand_owed backed r s names stands at.left b at.right at.is names.submits stands.submits_sent (λ name. omega arith) its stands.bound (λ k d lt same. absurd (unlooked k d lt (sym same)))
      (before ++ after) r.submits first last (others_are names at) stands.named.submits tokens_are

  -- a write is submitted, under a ticket of its member that nothing else has
  pub submits : (write : Placed) (o : Owing) (ticket : ℕ) (first last : List Owing) (one other : List Submitted)
      → written h.request ≡ Some write → IsOfKind o.token h.request → IsNew ticket o.token
      → (debt_of o.token).session ≡ h.session → (debt_of o.token).cookie ≡ h.cookie
      → IsUnused (origin_of o ticket) r → r.tokens ≡ first ++ last → r.submits ≡ one ++ other
      → Stays backed r (record r {
        demands = before ++ after;
        tokens = first ++ o ∷ last;
        submits = one ++ record { origin = origin_of o ticket; write = write } ∷ other;
      })
  submits write o ticket first last one other writes kind is_new session cookie unused tokens_are submits_are s (names, stands) =
      let at = found s names stands in
      let old = map_parts (λ (x : Sending). x.submitted) names.submits one other (stands.named.submits ∙ submits_are) in
      let submitted : Submitted = record { origin = origin_of o ticket; write = write } in
      let x : Sending = record { name = at.mid.name; submitted = submitted } in
      let b : Bound = record { owing = o; asked = at.mid } in
      let its : IsBound names.line (old.left ++ x ∷ old.right) b = record {
        session = session ∙ sym (ap (λ (y : Held). y.session) at.mid_is);
        cookie = cookie ∙ sym (ap (λ (y : Held). y.cookie) at.mid_is);
        kind = subst (IsOfKind o.token) (sym (ap (λ (y : Held). y.request) at.mid_is)) kind;
        number = new_number names.line at.mid ticket o.token is_new;
        ticket = new_ticket names.line (old.left ++ x ∷ old.right) at.mid.name o ticket o.token is_new (its_origin backed r s names stands old.left x old.right old.is unused);
      } in
      let sent : IsSent s.sent at.mid.name write = record {
        asked = at.mid;
        among = (it_waits backed r s names stands at.left at.mid at.right at.is).0;
        named = refl;
        writes = ap (λ (y : Held). written y.request) at.mid_is ∙ writes;
      } in
      demand_owed backed r s names stands at.left b at.right at.is (old.left ++ x ∷ old.right)
      (all_with (λ (y : Sending). IsSent s.sent y.name y.submitted.write) old.left x old.right sent (subst (All (λ (y : Sending). IsSent s.sent y.name y.submitted.write)) old.is stands.submits_sent))
      (λ name. omega (
        arith,
        one_submitted backed r s names stands old.left x old.right old.is unused name,
        one_if-same (λ (y : Sending). eqb y.name name) (λ (a : Asked). eqb a.name name) x at.mid refl,
      ))
      its (bound_stays backed r s names stands old.left x old.right old.is unused) (λ k d lt same. new_answer (get_or r.looked k d).front at.mid ticket o.token is_new)
      (before ++ after) (one ++ submitted ∷ other) first last (others_are names at)
      (map_joins (λ (y : Sending). y.submitted) old.left (x ∷ old.right) one (submitted ∷ other) old.left_is (ap (λ (l : List Submitted). submitted ∷ l) old.right_is)) tokens_are
