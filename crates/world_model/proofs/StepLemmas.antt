-- Steps as a program tries them: lemmas.
use Rattle.std.proofs.Common.{◌≡◌, ◌≢◌, ℕ, ◌-◌, ◌<◌, ◌≤◌, Bool, true, false, eqb, Option, Some, None, List, [], ◌∷◌, ◌++◌, suc, length, refl, sym, ◌∙◌, ap, subst, inl, inr, arith}
use Rattle.std.specs.Prelude.{All, Contains, filter, find, map, not, slice_get}
use Rattle.std.specs.Option.{option_map, option_and_then, IfSome}
use Rattle.std.proofs.lemmas.Bool.{cases_Bool, cond-true, cond-false, eqb-true}
use Rattle.std.proofs.lemmas.List.{length-map}
use Rattle.std.proofs.lemmas.Option.{same_Some, slice_get_within}
use Rattle.volume.specs.Writes.{Placed}
use Rattle.world_model.specs.Event.{Request, Read, Write, Fua, Flush}
use Rattle.world_model.specs.Machine.{Asked, IsAt, IsRead, May, Move, State, Take, Taken, Waits, after, written}
use Rattle.world_model.specs.Steps.{Tried, named, taking}
use Rattle.world_model.specs.Views.{range_asked}

-- the step that may be taken was taken
pub tried : (s new : State) (o : Option Move) (move : Move) → o ≡ Some move → May s move → new ≡ after s move → Tried s o true new
tried s new o move is may there = subst (λ (x : Option Move). Tried s x true new) (sym is) (may, there)

-- the step that may not be taken was not
pub tried_not : (s : State) (o : Option Move) (move : Move) → o ≡ Some move → (May s move → ⊥) → Tried s o false s
tried_not s o move is may_not = subst (λ (x : Option Move). Tried s x false s) (sym is) (may_not, refl)

-- what is found is in the list, and passes the test
found : {A : Type 0} (p : A → Bool) (xs : List A) (x : A) → find p xs ≡ Some x → Contains xs x × (p x ≡ true)
found p [] x is = absurd cc
found {A} p (y ∷ ys) x is = elim (cases_Bool (p y)) [
  | inl passes ↦
      let same : y ≡ x = same_Some y x (sym (cond-true (p y) (Some y) (find p ys) passes) ∙ is) in
      ((0, omega arith, same), subst (λ (z : A). p z ≡ true) same passes)
  | inr fails ↦
      let later = found p ys x (sym (cond-false (p y) (Some y) (find p ys) fails) ∙ is) in
      ((suc later.0.0, omega (arith, later.0.1), later.0.2), later.1)
]

-- a request that is found by its name was sent, and has that name
pub is_named : (s : State) (name : ℕ) (asked : Asked) → named s name ≡ Some asked → Contains s.sent asked × (asked.name ≡ name)
is_named s name asked is =
    let it = found (λ (a : Asked). eqb a.name name) s.sent asked is in
    (it.0, eqb-true asked.name name it.1)

-- states with the same parts
pub same_state : (s t : State) → s.taken ≡ t.taken → s.owed ≡ t.owed → s.sent ≡ t.sent → s.waiting ≡ t.waiting → s.events ≡ t.events → s ≡ t
same_state s t taken owed sent waiting events =
    let with_taken : List Taken → State = λ x. record s { taken = x } in
    let with_owed : ℕ → State = λ x. record s { taken = t.taken; owed = x } in
    let with_sent : List Asked → State = λ x. record s { taken = t.taken; owed = t.owed; sent = x } in
    let with_waiting : List ℕ → State = λ x. record s { taken = t.taken; owed = t.owed; sent = t.sent; waiting = x } in
    let with_events : ℕ → State = λ x. record t { events = x } in
    ap with_taken taken ∙ ap with_owed owed ∙ ap with_sent sent ∙ ap with_waiting waiting ∙ ap with_events events

-- those that wait without a name
pub same_waiting : (old now : List ℕ) (name named : ℕ) → old ≡ now → name ≡ named → filter (λ n. not (eqb n name)) old ≡ filter (λ n. not (eqb n named)) now
same_waiting old now name named same is = ap (λ (l : List ℕ). filter (λ n. not (eqb n name)) l) same ∙ ap (λ (m : ℕ). filter (λ n. not (eqb n m)) now) is

module _ (s : State) (name : ℕ) (step : Asked → Move) (sent : List Asked) (waiting : List ℕ) (same_sent : sent ≡ s.sent) (same_names : waiting ≡ s.waiting) where
  -- no step of a request that doesn't wait
  pub tried_idle : ((asked : Asked) → May s (step asked) → Contains s.waiting asked.name) → IfSome (find (λ a. eqb a.name name) sent) (λ _. Contains waiting name → ⊥) → Tried s (option_map step (named s name)) false s
  tried_idle waits idle = go (named s name) refl
      (subst (λ (l : List Asked). IfSome (find (λ (a : Asked). eqb a.name name) l) (λ _. Contains s.waiting name → ⊥)) same_sent
      (subst (λ (l : List ℕ). IfSome (find (λ (a : Asked). eqb a.name name) sent) (λ _. Contains l name → ⊥)) same_names idle))
    where
      go : (o : Option Asked) → named s name ≡ o → IfSome o (λ _. Contains s.waiting name → ⊥) → Tried s (option_map step o) false s
      go None is idle = (refl, refl)
      go (Some asked) is idle = (λ may. idle (subst (λ (n : ℕ). Contains s.waiting n) (is_named s name asked is).1 (waits asked may)), refl)

  module _ (asked : Asked) (found : find (λ (a : Asked). eqb a.name name) sent ≡ Some asked) (waits : Contains waiting name) where
    pub is_found : named s name ≡ Some asked
    is_found = subst (λ (l : List Asked). find (λ (a : Asked). eqb a.name name) l ≡ Some asked) same_sent found

    pub its_name : asked.name ≡ name
    its_name = (is_named s name asked is_found).1

    pub it_waits : Waits s asked
    it_waits = ((is_named s name asked is_found).0, subst (λ (n : ℕ). Contains s.waiting n) (sym its_name) (subst (λ (l : List ℕ). Contains l name) same_names waits))

    -- the step that was taken
    pub tried_named : (new : State) → May s (step asked) → new ≡ after s (step asked) → Tried s (option_map step (named s name)) true new
    tried_named new may there = tried s new (option_map step (named s name)) (step asked) (ap (option_map step) is_found) may there

    pub tried_named_not : (May s (step asked) → ⊥) → Tried s (option_map step (named s name)) false s
    tried_named_not may_not = tried_not s (option_map step (named s name)) (step asked) (ap (option_map step) is_found) may_not

-- ---- a write is taken

module _ (s : State) (name : ℕ) (sent : List Asked) (taken : List Taken) (same_sent : sent ≡ s.sent) (same_taken : taken ≡ s.taken)
    (asked : Asked) (request : Request) (write : Placed) (its : request ≡ asked.request)
    (found : find (λ (a : Asked). eqb a.name name) sent ≡ Some asked) (writes : written request ≡ Some write) where
  is : named s name ≡ Some asked
  is = subst (λ (l : List Asked). find (λ (a : Asked). eqb a.name name) l ≡ Some asked) same_sent found

  takes : taking s name ≡ Some (Take asked write)
  takes =
      ap (option_and_then (λ (a : Asked). option_map (λ (w : Placed). Take a w) (written a.request))) is
      ∙ ap (λ (r : Request). option_map (λ (w : Placed). Take asked w) (written r)) (sym its) ∙ ap (option_map (λ (w : Placed). Take asked w)) writes

  untaken : All (λ t. t.name ≢ name) taken → All (λ t. t.name ≢ asked.name) s.taken
  untaken all = subst (λ (n : ℕ). All (λ (t : Taken). t.name ≢ n) s.taken) (sym (is_named s name asked is).1) (subst (λ (l : List Taken). All (λ (t : Taken). t.name ≢ name) l) same_taken all)

  pub tried_take : (new : State) → All (λ t. t.name ≢ name) taken → new ≡ record s { taken = s.taken ++ record { name = name; write = write; answered = false } ∷ [] } → Tried s (taking s name) true new
  tried_take new all there =
      tried s new (taking s name) (Take asked write) takes ((is_named s name asked is).0, ap written (sym its) ∙ writes, untaken all)
      (there ∙ ap (λ (n : ℕ). record s { taken = s.taken ++ record { name = n; write = write; answered = false } ∷ [] }) (sym (is_named s name asked is).1))

  pub tried_take_not : (All (λ t. t.name ≢ name) taken → ⊥) → Tried s (taking s name) false s
  tried_take_not not_all = tried_not s (taking s name) (Take asked write) takes
      (λ may. not_all (subst (λ (l : List Taken). All (λ (t : Taken). t.name ≢ name) l) (sym same_taken) (subst (λ (n : ℕ). All (λ (t : Taken). t.name ≢ n) s.taken) (is_named s name asked is).1 may.2)))

-- ---- places

module _ (s : State) (asked : Asked) (taken : List Taken) (name place : ℕ) (same : taken ≡ s.taken) (is : asked.name ≡ name) where
  pub it_is_at : (0 < place) × (slice_get (map (λ t. t.name) taken) (place - 1) ≡ Some name) → IsAt s asked place
  it_is_at at =
      subst (λ (n : ℕ). (0 < place) × (slice_get (map (λ (t : Taken). t.name) s.taken) (place - 1) ≡ Some n)) (sym is)
      (subst (λ (l : List Taken). (0 < place) × (slice_get (map (λ (t : Taken). t.name) l) (place - 1) ≡ Some name)) same at)

  pub at_from : IsAt s asked place → (0 < place) × (slice_get (map (λ t. t.name) taken) (place - 1) ≡ Some name)
  at_from at =
      subst (λ (l : List Taken). (0 < place) × (slice_get (map (λ (t : Taken). t.name) l) (place - 1) ≡ Some name)) (sym same)
      (subst (λ (n : ℕ). (0 < place) × (slice_get (map (λ (t : Taken). t.name) s.taken) (place - 1) ≡ Some n)) is at)

pub within_from : (taken : List Taken) (name place : ℕ) → (0 < place) × (slice_get (map (λ t. t.name) taken) (place - 1) ≡ Some name) → place ≤ length taken
within_from taken name place (some, at) = omega (arith, slice_get_within (map (λ (t : Taken). t.name) taken) (place - 1) name at, length-map taken (λ t. t.name))

-- what has a range is a READ
pub is_read : (request : Request) (range : ℕ × ℕ) → range_asked request ≡ Some range → IsRead request
is_read (Read offset len) range is = tt
is_read (Write write) range is = absurd cc
is_read (Fua write) range is = absurd cc
is_read Flush range is = absurd cc
