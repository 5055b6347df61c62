-- Runs of the machine, and what they keep: lemmas for the crates above.
use Rattle.std.proofs.Common.{◌≡◌, ◌≢◌, ◌⊎◌, inl, inr, ℕ, zero, suc, ◌+◌, ◌-◌, ◌<◌, ◌≤◌, max, Bool, true, false, not, eqb, if◌then◌else◌, Some, List, [], ◌∷◌, ◌++◌, length, map, take, get_or, refl, sym, ◌∙◌, ap, subst, arith}
use Rattle.std.specs.Prelude.{All, AllPairs, Contains, find, slice_get}
use Rattle.std.proofs.lemmas.Bool.{cases_Bool, cond-true, cond-false, eq-eqb, ne_eqb}
use Rattle.std.proofs.lemmas.List.{append-nil, append_assoc, get_or-map, get_or-take, length-take, length-map, length_push, map_push, take-append-le, take-map, take-take, take_all}
use Rattle.std.proofs.lemmas.List.Elements.{All-contains, All-filter, All-map, All-push, All-take, All-weaker, Contains-append_left, Contains-push, Contains-push_cases}
use Rattle.std.proofs.lemmas.List.Quantifiers.{all_pairs_push}
use Rattle.std.proofs.lemmas.Option.{slice_get_within, same_Some}
use Rattle.flush_barrier.specs.declared.session_id.SessionId.{SessionId}
use Rattle.volume.specs.Writes.{Placed}
use Rattle.world_model.specs.Event.{ClientEvent, Request}
use Rattle.world_model.specs.Laws.{FlushesOwe, LastIsAnswered, LastIsLast, MarkedWritesAreRead, NamesFind, NothingIsLost, OwedStays, ReadsAreFresh, RunsGoOn, RunsKeepSound, ShownGoesOn, StartIsSound, StepsKeepSound}
use Rattle.world_model.specs.Machine.{AnswerFlush, AnswerFua, AnswerRead, AnswerWrite, Asked, GoesOn, IsAt, May, Move, Plays, Refuse, Restart, Run, RunsOn, Send, State, Take, Taken, after, answered_at, last_answered, shown, shows, told}
use Rattle.world_model.specs.Sound.{IsSound, kept_as, names_sent, names_taken, writes_of}

-- ---- runs one after another

pub run_then : RunsGoOn
run_then s t u [] two one rest = subst (λ x. Run x two u) one rest
run_then s t u (move ∷ moves) two one rest = (one.0, run_then (after s move) t u moves two one.1 rest)

pub shown_then : ShownGoesOn
shown_then size s t [] two one = ap (λ x. shown size x two) (sym one)
shown_then size s t (move ∷ moves) two one =
    ap (λ l. shows size s move ++ l) (shown_then size (after s move) t moves two one.1)
    ∙ sym (append_assoc (shows size s move) (shown size (after s move) moves) (shown size t two))

-- a run without a restart is a run, and goes on by another
pub run_of : (s t : State) (moves : List Move) → RunsOn s moves t → Run s moves t
run_of s t [] on = on
run_of s t (move ∷ moves) (goes, may, on) = (may, run_of (after s move) t moves on)

pub runs_on_then : (s t u : State) (one two : List Move) → RunsOn s one t → RunsOn t two u → RunsOn s (one ++ two) u
runs_on_then s t u [] two one rest = subst (λ x. RunsOn x two u) one rest
runs_on_then s t u (move ∷ moves) two (goes, may, on) rest = (goes, may, runs_on_then (after s move) t u moves two on rest)

-- a world that stands still plays nothing
pub plays_nothing : (size : ℕ) (old : State → Type 0) → Plays size old old []
plays_nothing size old s stands = ([], s, refl, refl, stands)

-- two plays, one after the other
pub plays_then : (size : ℕ) (a b c : State → Type 0) (one two : List ClientEvent) → Plays size a b one → Plays size b c two → Plays size a c (one ++ two)
plays_then size a b c one two first second s stands =
    let x = first s stands in
    let y = second x.1 x.4 in
    (x.0 ++ y.0, y.1, runs_on_then s x.1 y.1 x.0 y.0 x.2 y.2, shown_then size s x.1 x.0 y.0 (run_of s x.1 x.0 x.2) ∙ ap (λ l. l ++ shown size x.1 y.0) x.3 ∙ ap (λ l. one ++ l) y.3, y.4)

-- a play of one step, which may depend on the state
pub plays_one : (size : ℕ) (old new : State → Type 0) (events : List ClientEvent)
    → ((s : State) → old s → (move : Move) × GoesOn move × May s move × (shows size s move ≡ events) × new (after s move))
    → Plays size old new events
plays_one size old new events one s stands =
    let (move, goes, may, shows_it, left) = one s stands in
    (move ∷ [], after s move, (goes, may, refl), append-nil (shows size s move) ∙ shows_it, left)

-- ---- writes marked as answered

marked_same : {A : Type 0} (f : Taken → A) → ((t : Taken) → f (record t { answered = true }) ≡ f t) → (b : Bool) (t : Taken) → f (if b then record t { answered = true } else t) ≡ f t
marked_same f same true t = same t
marked_same f same false t = refl

-- whatever doesn't look at the answers stays
answered_same : {A : Type 0} (f : Taken → A) → ((t : Taken) → f (record t { answered = true }) ≡ f t) → (place : ℕ) (taken : List Taken) → map f (answered_at place taken) ≡ map f taken
answered_same f same place [] = refl
answered_same f same place (t ∷ ts) = let head = marked_same f same (eqb place 1) t in let tail = answered_same f same (place - 1) ts in cc

pub length-answered_at : (place : ℕ) (taken : List Taken) → length (answered_at place taken) ≡ length taken
length-answered_at place [] = refl
length-answered_at place (t ∷ ts) = ap suc (length-answered_at (place - 1) ts)

pub writes-answered_at : (place : ℕ) (taken : List Taken) → writes_of (answered_at place taken) ≡ writes_of taken
writes-answered_at place taken = answered_same (λ t. (t.name, t.write)) (λ t. refl) place taken

pub length-writes_of : (taken : List Taken) → length (writes_of taken) ≡ length taken
length-writes_of taken = length-map {B = ℕ × Placed} taken (λ t. (t.name, t.write))

-- ---- the last answered write

if_le : (b : Bool) (n : ℕ) → (if b then n else 0) ≤ n
if_le true n = omega arith
if_le false n = omega arith

last_answered_below : (place : ℕ) (taken : List Taken) → 0 < place → last_answered place taken < place + length taken
last_answered_below place [] some = omega arith
last_answered_below place (t ∷ ts) some = omega (arith, last_answered_below (place + 1) ts (omega arith), if_le t.answered place)

-- as far as the writes go
pub last_answered_le : (taken : List Taken) → last_answered 1 taken ≤ length taken
last_answered_le taken = omega (arith, last_answered_below 1 taken (omega arith))

-- as `answered` says it, at any first place
last_is_last : (first : ℕ) (taken : List Taken) (i : ℕ) (t : Taken) → slice_get taken i ≡ Some t → t.answered ≡ true → first + i ≤ last_answered first taken
last_is_last first [] i t at was = absurd cc
last_is_last first (u ∷ us) zero t at was =
    let here : (if u.answered then first else 0) ≡ first = rw (same_Some u t at, was) refl in
    omega arith
last_is_last first (u ∷ us) (suc i) t at was = omega (arith, last_is_last (first + 1) us i t at was)

pub last_is_last_lem : LastIsLast
last_is_last_lem taken place (t, some, at, was) = omega (arith, last_is_last 1 taken (place - 1) t at was)

last_is_answered : (first : ℕ) (taken : List Taken) → (last_answered first taken ≡ 0) ⊎ ((i : ℕ) × (t : Taken) × (last_answered first taken ≡ first + i) × (slice_get taken i ≡ Some t) × (t.answered ≡ true))
last_is_answered first [] = inl refl
last_is_answered first (u ∷ us) = elim (last_is_answered (first + 1) us) [
  | inl none ↦ elim (cases_Bool u.answered) [
    | inl was ↦ inr (0, u, (let here : (if u.answered then first else 0) ≡ first = rw was refl in omega arith), refl, was)
    | inr not_so ↦ inl (let here : (if u.answered then first else 0) ≡ 0 = rw not_so refl in omega arith)
  ]
  | inr later ↦ inr (suc later.0, later.1, omega (arith, if_le u.answered first, later.2), later.3, later.4)
]

pub last_is_answered_lem : LastIsAnswered
last_is_answered_lem taken = elim (last_is_answered 1 taken) [
  | inl none ↦ inl none
  | inr found ↦ let place : last_answered 1 taken - 1 ≡ found.0 = omega (arith, found.2) in inr (found.1, omega (arith, found.2), rw place found.3, found.4)
]

pub flushes_owe : FlushesOwe
flushes_owe s t session cookie place answered = omega (arith, last_is_last_lem s.taken place answered)

-- ---- sound states

pub sound_start : StartIsSound
sound_start = record {
  sent_apart = λ i j d lt within. absurd (omega arith);
  sent_before = λ k d within. absurd (omega arith);
  taken_before = λ k d within. absurd (omega arith);
  taken_apart = λ i j d lt within. absurd (omega arith);
  owed_taken = omega arith;
  marks_taken = λ k d within. absurd (omega arith);
  dues_taken = λ k d within. absurd (omega arith);
  waiting_sent = λ k d within. absurd (omega arith);
}

-- of names that are all different, one more that differs from each
apart_push : (names : List ℕ) (name : ℕ) → AllPairs (λ m n. m ≢ n) names → All (λ n. n ≢ name) names → AllPairs (λ m n. m ≢ n) (names ++ name ∷ [])
apart_push names name apart others = all_pairs_push (λ m n. m ≢ n) names name apart (λ k d within. others k d within)

apart_take : (front : ℕ) (names : List ℕ) → AllPairs (λ m n. m ≢ n) names → AllPairs (λ m n. m ≢ n) (take front names)
apart_take front names apart = λ i j d lt within.
    let below : (j < front) × (j < length names) = (omega (arith, length-take front names), omega (arith, length-take front names)) in
    rw (get_or-take front names i d (omega arith), get_or-take front names j d below.0) (apart i j d lt below.1)

-- an answer takes a name from those that wait
told_sound : (s : State) (asked : Asked) → IsSound s → IsSound (told s asked)
told_sound s asked sound = record {
  sent_apart = sound.sent_apart;
  sent_before = All-weaker (λ name. name < s.events) (λ name. name < s.events + 1) (λ name lt. omega arith) (names_sent s) sound.sent_before;
  taken_before = All-weaker (λ name. name < s.events) (λ name. name < s.events + 1) (λ name lt. omega arith) (names_taken s) sound.taken_before;
  taken_apart = sound.taken_apart;
  owed_taken = sound.owed_taken;
  marks_taken = sound.marks_taken;
  dues_taken = sound.dues_taken;
  waiting_sent = All-filter (λ name. not (eqb name asked.name)) (λ name. Contains (names_sent s) name) s.waiting sound.waiting_sent;
}

send_sound : (s : State) (session : SessionId) (cookie : ℕ) (request : Request) → IsSound s → IsSound (after s (Send session cookie request))
send_sound s session cookie request sound =
    let asked : Asked = kept_as s session cookie request in
    let names : names_sent (after s (Send session cookie request)) ≡ names_sent s ++ s.events ∷ [] = map_push (λ (a : Asked). a.name) s.sent asked in
    record {
      sent_apart = subst (λ (l : List ℕ). AllPairs (λ m n. m ≢ n) l) (sym names)
          (apart_push (names_sent s) s.events sound.sent_apart (All-weaker (λ name. name < s.events) (λ name. name ≢ s.events) (λ name lt is. omega arith) (names_sent s) sound.sent_before));
      sent_before = subst (λ (l : List ℕ). All (λ name. name < s.events + 1) l) (sym names)
          (All-push (λ name. name < s.events + 1) (names_sent s) s.events (All-weaker (λ name. name < s.events) (λ name. name < s.events + 1) (λ name lt. omega arith) (names_sent s) sound.sent_before) (omega arith));
      taken_before = All-weaker (λ name. name < s.events) (λ name. name < s.events + 1) (λ name lt. omega arith) (names_taken s) sound.taken_before;
      taken_apart = sound.taken_apart;
      owed_taken = sound.owed_taken;
      marks_taken = All-push (λ (a : Asked). a.mark ≤ length s.taken) s.sent asked sound.marks_taken (omega arith);
      dues_taken = All-push (λ (a : Asked). a.due ≤ length s.taken) s.sent asked sound.dues_taken (last_answered_le s.taken);
      waiting_sent = subst (λ (l : List ℕ). All (λ name. Contains l name) (s.waiting ++ s.events ∷ [])) (sym names)
          (All-push (λ name. Contains (names_sent s ++ s.events ∷ []) name) s.waiting s.events
          (All-weaker (λ name. Contains (names_sent s) name) (λ name. Contains (names_sent s ++ s.events ∷ []) name) (λ name among. Contains-append_left (names_sent s) (s.events ∷ []) name among) s.waiting sound.waiting_sent)
          (Contains-push (names_sent s) s.events));
    }

take_sound : (s : State) (asked : Asked) (write : Placed) → IsSound s → Contains s.sent asked → All (λ t. t.name ≢ asked.name) s.taken → IsSound (after s (Take asked write))
take_sound s asked write sound among others =
    let before : asked.name < s.events = All-contains (λ (a : Asked). a.name < s.events) s.sent asked (λ k d within. subst (λ n. n < s.events) (get_or-map (λ (a : Asked). a.name) s.sent k d d.name within) (sound.sent_before k d.name (omega (arith, length-map s.sent (λ (a : Asked). a.name))))) among in
    let t : Taken = record { name = asked.name; write = write; answered = false } in
    let long : length (s.taken ++ t ∷ []) ≡ length s.taken + 1 = length_push s.taken t in
    record {
      sent_apart = sound.sent_apart;
      sent_before = sound.sent_before;
      taken_before = subst (λ (l : List ℕ). All (λ name. name < s.events) l) (sym (map_push (λ (u : Taken). u.name) s.taken t)) (All-push (λ name. name < s.events) (names_taken s) asked.name sound.taken_before before);
      taken_apart = subst (λ (l : List ℕ). AllPairs (λ m n. m ≢ n) l) (sym (map_push (λ (u : Taken). u.name) s.taken t))
          (apart_push (names_taken s) asked.name sound.taken_apart (All-map (λ n. n ≢ asked.name) (λ (u : Taken). u.name) s.taken others));
      owed_taken = omega (arith, sound.owed_taken);
      marks_taken = All-weaker (λ (a : Asked). a.mark ≤ length s.taken) (λ (a : Asked). a.mark ≤ length (s.taken ++ t ∷ [])) (λ a le. omega arith) s.sent sound.marks_taken;
      dues_taken = All-weaker (λ (a : Asked). a.due ≤ length s.taken) (λ (a : Asked). a.due ≤ length (s.taken ++ t ∷ [])) (λ a le. omega arith) s.sent sound.dues_taken;
      waiting_sent = sound.waiting_sent;
    }

-- a write is marked as answered, and as much is owed as has been taken
answered_sound : (s : State) (place owed : ℕ) → IsSound s → owed ≤ length s.taken → IsSound (record s { taken = answered_at place s.taken; owed = owed })
answered_sound s place owed sound le =
    let long = length-answered_at place s.taken in
    record {
      sent_apart = sound.sent_apart;
      sent_before = sound.sent_before;
      taken_before = subst (λ (l : List ℕ). All (λ name. name < s.events) l) (sym (answered_same (λ t. t.name) (λ t. refl) place s.taken)) sound.taken_before;
      taken_apart = subst (λ (l : List ℕ). AllPairs (λ m n. m ≢ n) l) (sym (answered_same (λ t. t.name) (λ t. refl) place s.taken)) sound.taken_apart;
      owed_taken = omega arith;
      marks_taken = All-weaker (λ (a : Asked). a.mark ≤ length s.taken) (λ (a : Asked). a.mark ≤ length (answered_at place s.taken)) (λ a le. omega arith) s.sent sound.marks_taken;
      dues_taken = All-weaker (λ (a : Asked). a.due ≤ length s.taken) (λ (a : Asked). a.due ≤ length (answered_at place s.taken)) (λ a le. omega arith) s.sent sound.dues_taken;
      waiting_sent = sound.waiting_sent;
    }

owing_sound : (s : State) (owed : ℕ) → IsSound s → owed ≤ length s.taken → IsSound (record s { owed = owed })
owing_sound s owed sound le = record {
  sent_apart = sound.sent_apart;
  sent_before = sound.sent_before;
  taken_before = sound.taken_before;
  taken_apart = sound.taken_apart;
  owed_taken = le;
  marks_taken = sound.marks_taken;
  dues_taken = sound.dues_taken;
  waiting_sent = sound.waiting_sent;
}

restart_sound : (s : State) (front : ℕ) → IsSound s → s.owed ≤ front → front ≤ length s.taken → IsSound (after s (Restart front))
restart_sound s front sound owed within = record {
  sent_apart = sound_start.sent_apart;
  sent_before = λ k d none. absurd (omega arith);
  taken_before = subst (λ (l : List ℕ). All (λ name. name < s.events) l) (take-map (λ (t : Taken). t.name) front s.taken) (All-take (λ name. name < s.events) front (names_taken s) sound.taken_before);
  taken_apart = subst (λ (l : List ℕ). AllPairs (λ m n. m ≢ n) l) (take-map (λ (t : Taken). t.name) front s.taken) (apart_take front (names_taken s) sound.taken_apart);
  owed_taken = omega (arith, length-take front s.taken);
  marks_taken = λ k d none. absurd (omega arith);
  dues_taken = λ k d none. absurd (omega arith);
  waiting_sent = λ k d none. absurd (omega arith);
}

-- a place that holds a write is within the writes
pub place_within : (s : State) (asked : Asked) (place : ℕ) → IsAt s asked place → place ≤ length s.taken
place_within s asked place (some, at) = omega (arith, slice_get_within (names_taken s) (place - 1) asked.name at, length-map s.taken (λ t. t.name))

pub sound_step : StepsKeepSound
sound_step s (Send session cookie request) sound may = send_sound s session cookie request sound
sound_step s (Take asked write) sound may = take_sound s asked write sound may.0 may.2
sound_step s (AnswerWrite asked place) sound may = answered_sound (told s asked) place s.owed (told_sound s asked sound) sound.owed_taken
sound_step s (AnswerFua asked place) sound may =
    answered_sound (told s asked) place (max s.owed place) (told_sound s asked sound) (omega (arith, sound.owed_taken, place_within s asked place may.2))
sound_step s (AnswerFlush asked) sound may =
    owing_sound (told s asked) (max s.owed asked.due) (told_sound s asked sound) (omega (arith, sound.owed_taken, All-contains (λ (a : Asked). a.due ≤ length s.taken) s.sent asked sound.dues_taken may.0.0))
sound_step s (AnswerRead asked front) sound may = told_sound s asked sound
sound_step s (Refuse asked error) sound may = told_sound s asked sound
sound_step s (Restart front) sound may = restart_sound s front sound may.0 may.1

pub sound_run : RunsKeepSound
sound_run s t [] sound run = subst IsSound (sym run) sound
sound_run s t (move ∷ moves) sound run = sound_run (after s move) t moves (sound_step s move sound run.0) run.1

-- ---- what stays

pub marked_writes_are_read : MarkedWritesAreRead
marked_writes_are_read s asked front may = take-take asked.mark front s.taken may.2

-- a restart, if it is one, leaves so many writes
Leaves : ℕ → Move → Type 0
Leaves n (Restart front) = n ≤ front
Leaves n (Send session cookie request) = Unit {0}
Leaves n (Take asked write) = Unit {0}
Leaves n (AnswerWrite asked place) = Unit {0}
Leaves n (AnswerFua asked place) = Unit {0}
Leaves n (AnswerFlush asked) = Unit {0}
Leaves n (AnswerRead asked front) = Unit {0}
Leaves n (Refuse asked error) = Unit {0}

-- and then a step leaves these as they are
step_leaves : (s : State) (move : Move) (n : ℕ) → n ≤ length s.taken → Leaves n move → take n (writes_of (after s move).taken) ≡ take n (writes_of s.taken)
unfolding Leaves
step_leaves s (Send session cookie request) n within leaves = refl
step_leaves s (Take asked write) n within leaves =
    let t : Taken = record { name = asked.name; write = write; answered = false } in
    ap (take n) (map_push (λ (u : Taken). (u.name, u.write)) s.taken t)
    ∙ take-append-le n (writes_of s.taken) ((asked.name, write) ∷ []) (omega (arith, length-writes_of s.taken))
step_leaves s (AnswerWrite asked place) n within leaves = ap (take n) (writes-answered_at place s.taken)
step_leaves s (AnswerFua asked place) n within leaves = ap (take n) (writes-answered_at place s.taken)
step_leaves s (AnswerFlush asked) n within leaves = refl
step_leaves s (AnswerRead asked front) n within leaves = refl
step_leaves s (Refuse asked error) n within leaves = refl
step_leaves s (Restart front) n within leaves =
    ap (take n) (sym (take-map (λ (t : Taken). (t.name, t.write)) front s.taken)) ∙ take-take n front (writes_of s.taken) leaves

-- a restart leaves what is owed
owed_left : (s : State) (move : Move) → May s move → Leaves s.owed move
unfolding Leaves
owed_left s (Send session cookie request) may = tt
owed_left s (Take asked write) may = tt
owed_left s (AnswerWrite asked place) may = tt
owed_left s (AnswerFua asked place) may = tt
owed_left s (AnswerFlush asked) may = tt
owed_left s (AnswerRead asked front) may = tt
owed_left s (Refuse asked error) may = tt
owed_left s (Restart front) may = may.0

owed_grows : (s : State) (move : Move) → s.owed ≤ (after s move).owed
owed_grows s (Send session cookie request) = omega arith
owed_grows s (Take asked write) = omega arith
owed_grows s (AnswerWrite asked place) = omega arith
owed_grows s (AnswerFua asked place) = omega arith
owed_grows s (AnswerFlush asked) = omega arith
owed_grows s (AnswerRead asked front) = omega arith
owed_grows s (Refuse asked error) = omega arith
owed_grows s (Restart front) = omega arith

pub owed_stays : OwedStays
owed_stays s t [] sound run = rw run (omega arith, refl)
owed_stays s t (move ∷ moves) sound run =
    let next = after s move in
    let grows : s.owed ≤ next.owed = owed_grows s move in
    let later = owed_stays next t moves (sound_step s move sound run.0) run.1 in (
      omega (arith, grows, later.0),
      sym (take-take s.owed next.owed (writes_of t.taken) grows) ∙ ap (take s.owed) later.1 ∙ take-take s.owed next.owed (writes_of next.taken) grows
          ∙ step_leaves s move s.owed sound.owed_taken (owed_left s move run.0),
    )

-- a request that is there after a step, and isn't the one that it sent, was there before it, and the step left its writes
was_there : (s : State) (move : Move) (asked : Asked) → asked.name < s.events → Contains (after s move).sent asked → Contains s.sent asked × Leaves asked.mark move
unfolding Leaves
was_there s (Send session cookie request) asked before among =
    let last : Asked = kept_as s session cookie request in
    elim (Contains-push_cases s.sent last asked among) [
      | inl there ↦ (there, tt)
      | inr is ↦ let name : s.events ≡ asked.name = ap (λ (a : Asked). a.name) is in absurd (omega arith)
    ]
was_there s (Take asked_too write) asked before among = (among, tt)
was_there s (AnswerWrite asked_too place) asked before among = (among, tt)
was_there s (AnswerFua asked_too place) asked before among = (among, tt)
was_there s (AnswerFlush asked_too) asked before among = (among, tt)
was_there s (AnswerRead asked_too front) asked before among = (among, tt)
was_there s (Refuse asked_too error) asked before among = (among, tt)
was_there s (Restart front) asked before among = absurd (omega (arith, among.1))

events_grow : (s : State) (move : Move) → s.events ≤ (after s move).events
events_grow s (Send session cookie request) = omega arith
events_grow s (Take asked write) = omega arith
events_grow s (AnswerWrite asked place) = omega arith
events_grow s (AnswerFua asked place) = omega arith
events_grow s (AnswerFlush asked) = omega arith
events_grow s (AnswerRead asked front) = omega arith
events_grow s (Refuse asked error) = omega arith
events_grow s (Restart front) = omega arith

-- while a request is there, so are the writes up to its mark
marked_stay : (s t : State) (asked : Asked) (moves : List Move) → IsSound s → asked.name < s.events → Run s moves t → Contains t.sent asked
    → Contains s.sent asked × (take asked.mark (writes_of t.taken) ≡ take asked.mark (writes_of s.taken))
marked_stay s t asked [] sound before run among = (subst (λ (x : State). Contains x.sent asked) run among, ap (λ (x : State). take asked.mark (writes_of x.taken)) run)
marked_stay s t asked (move ∷ moves) sound before run among =
    let next = after s move in
    let later = marked_stay next t asked moves (sound_step s move sound run.0) (omega (arith, events_grow s move)) run.1 among in
    let was = was_there s move asked before later.0 in
    (was.0, later.1 ∙ step_leaves s move asked.mark (All-contains (λ (a : Asked). a.mark ≤ length s.taken) s.sent asked sound.marks_taken was.0) was.1)

pub reads_are_fresh : ReadsAreFresh
reads_are_fresh s t session cookie request moves front sound run may =
    let asked : Asked = kept_as s session cookie request in
    let sent = after s (Send session cookie request) in
    let stays = marked_stay sent t asked moves (sound_step s (Send session cookie request) sound tt) (omega arith) run may.0.0 in
    ap (take (length s.taken)) (sym (take-map (λ (u : Taken). (u.name, u.write)) front t.taken))
    ∙ take-take (length s.taken) front (writes_of t.taken) may.2
    ∙ stays.1
    ∙ take_all (length s.taken) (writes_of s.taken) (omega (arith, length-writes_of s.taken))

-- ---- names

found_by_name : (sent : List Asked) (asked : Asked) → AllPairs (λ m n. m ≢ n) (map (λ a. a.name) sent) → Contains sent asked → find (λ a. eqb a.name asked.name) sent ≡ Some asked
found_by_name [] asked apart (k, within, at) = absurd (omega arith)
found_by_name (a ∷ rest) asked apart (zero, within, at) =
    let here : eqb a.name asked.name ≡ true = eq-eqb a.name asked.name (ap (λ (x : Asked). x.name) at) in
    cond-true (eqb a.name asked.name) (Some a) (find (λ (x : Asked). eqb x.name asked.name) rest) here ∙ ap (λ (x : Asked). Some x) at
found_by_name (a ∷ rest) asked apart (suc k, within, at) =
    let names = map (λ (x : Asked). x.name) rest in
    let below : k < length rest = omega arith in
    let its : get_or names k 0 ≡ asked.name = get_or-map (λ (x : Asked). x.name) rest k asked 0 below ∙ ap (λ (x : Asked). x.name) at in
    let other : eqb a.name asked.name ≡ false = ne_eqb a.name asked.name
    (λ same. apart 0 (suc k) 0 (omega arith) (omega (arith, length-map rest (λ (x : Asked). x.name))) (same ∙ sym its)) in
    cond-false (eqb a.name asked.name) (Some a) (find (λ (x : Asked). eqb x.name asked.name) rest) other
    ∙ found_by_name rest asked (λ i j d lt in_names. apart (suc i) (suc j) d (omega arith) (omega arith)) (k, below, at)

pub names_find : NamesFind
names_find s asked sound among = found_by_name s.sent asked sound.sent_apart among

-- ---- what was taken stays

-- a step that is no restart leaves the writes taken, and more behind them
taken_grows : (s : State) (move : Move) → GoesOn move → (more : List (ℕ × Placed)) × (writes_of (after s move).taken ≡ writes_of s.taken ++ more)
taken_grows s (Send session cookie request) goes = ([], sym (append-nil (writes_of s.taken)))
taken_grows s (Take asked write) goes = let t : Taken = record { name = asked.name; write = write; answered = false } in ((asked.name, write) ∷ [], map_push (λ (u : Taken). (u.name, u.write)) s.taken t)
taken_grows s (AnswerWrite asked place) goes = ([], writes-answered_at place s.taken ∙ sym (append-nil (writes_of s.taken)))
taken_grows s (AnswerFua asked place) goes = ([], writes-answered_at place s.taken ∙ sym (append-nil (writes_of s.taken)))
taken_grows s (AnswerFlush asked) goes = ([], sym (append-nil (writes_of s.taken)))
taken_grows s (AnswerRead asked front) goes = ([], sym (append-nil (writes_of s.taken)))
taken_grows s (Refuse asked error) goes = ([], sym (append-nil (writes_of s.taken)))
taken_grows s (Restart front) goes = absurd goes

-- and so does a run of them
runs_grow : (s t : State) (moves : List Move) → RunsOn s moves t → (more : List (ℕ × Placed)) × (writes_of t.taken ≡ writes_of s.taken ++ more)
runs_grow s t [] on = ([], ap (λ (u : State). writes_of u.taken) on ∙ sym (append-nil (writes_of s.taken)))
runs_grow s t (move ∷ moves) (goes, may, on) =
    let (one, first) = taken_grows s move goes in
    let (other, rest) = runs_grow (after s move) t moves on in
    (one ++ other, rest ∙ ap (λ (l : List (ℕ × Placed)). l ++ other) first ∙ append_assoc (writes_of s.taken) one other)

pub nothing_is_lost : NothingIsLost
nothing_is_lost s t moves on =
    let (more, is) = runs_grow s t moves on in
    ap (take (length s.taken)) is ∙ take-append-le (length s.taken) (writes_of s.taken) more (omega (arith, length-writes_of s.taken))
    ∙ take_all (length s.taken) (writes_of s.taken) (omega (arith, length-writes_of s.taken))
