-- VolumeMachine: the one volume that all clients see.
use Rattle.std.specs.Prelude.{◌≡◌, ◌≢◌, ℕ, ◌+◌, ◌-◌, ◌<◌, ◌≤◌, max, Bool, true, false, not, ◌==◌, Option, Some, None, List, [], ◌∷◌, ◌++◌, length, map, filter, take, drop, All, slice_get, if◌then◌else◌}
use Rattle.std.specs.List.{Contains}
use Rattle.flush_barrier.specs.declared.error_code.ErrorCode.{ErrorCode}
use Rattle.flush_barrier.specs.declared.session_id.SessionId.{SessionId}
use Rattle.volume.specs.Writes.{Placed, volume_of}
use Rattle.world_model.specs.Event.{ClientEvent, Sent, Answered, Done, Failed, Request, Read, Write, Fua, Flush}

-- a request, named by the place of its sent event among all events: who sent it, what it asks, how many writes were
-- taken when it was sent, and the place of the last of them that was answered
pub record Asked : Type 0 where
  pub name : ℕ
  pub session : SessionId
  pub cookie : ℕ
  pub request : Request
  pub mark : ℕ
  pub due : ℕ

-- a write that was taken: whose it is, and whether it was answered
pub record Taken : Type 0 where
  pub name : ℕ
  pub write : Placed
  pub answered : Bool

-- the machine: the writes that were taken, in order; up to which of them is owed; the requests sent since the last
-- restart; which of them wait; and how many events there were
pub record State : Type 0 where
  pub taken : List Taken
  pub owed : ℕ
  pub sent : List Asked
  pub waiting : List ℕ
  pub events : ℕ

-- the machine before anything happened
abbrev pub start : State
start = record { taken = []; owed = 0; sent = []; waiting = []; events = 0 }

-- the volume of this many bytes after the first writes taken
abbrev pub machine_volume : ℕ → State → ℕ → List ℕ
machine_volume size s front = volume_of size (map (λ t. t.write) (take front s.taken))

-- the place of the last write that was answered, or 0
abbrev pub last_answered : ℕ → List Taken → ℕ
last_answered place [] = 0
last_answered place (t ∷ ts) = max (if t.answered then place else 0) (last_answered (place + 1) ts)

-- one of the eight steps, with what it chooses
pub data Move : Type 0 where
  Send : (session : SessionId) → (cookie : ℕ) → (request : Request) → Move
  Take : (asked : Asked) → (write : Placed) → Move
  AnswerWrite : (asked : Asked) → (place : ℕ) → Move
  AnswerFua : (asked : Asked) → (place : ℕ) → Move
  AnswerFlush : (asked : Asked) → Move
  AnswerRead : (asked : Asked) → (front : ℕ) → Move
  Refuse : (asked : Asked) → (error : ErrorCode) → Move
  Restart : (front : ℕ) → Move

-- what a write asks to be put where
abbrev pub written : Request → Option Placed
written (Read offset len) = None
written (Write write) = Some write
written (Fua write) = Some write
written Flush = None

-- a write without FUA
abbrev pub IsPlain : Request → Type 0
IsPlain (Read offset len) = ⊥
IsPlain (Write write) = Unit {0}
IsPlain (Fua write) = ⊥
IsPlain Flush = ⊥

-- a write with FUA
abbrev pub IsFua : Request → Type 0
IsFua (Read offset len) = ⊥
IsFua (Write write) = ⊥
IsFua (Fua write) = Unit {0}
IsFua Flush = ⊥

-- a flush
abbrev pub IsFlush : Request → Type 0
IsFlush (Read offset len) = ⊥
IsFlush (Write write) = ⊥
IsFlush (Fua write) = ⊥
IsFlush Flush = Unit {0}

-- a read
abbrev pub IsRead : Request → Type 0
IsRead (Read offset len) = Unit {0}
IsRead (Write write) = ⊥
IsRead (Fua write) = ⊥
IsRead Flush = ⊥

-- the bytes that a read asks for
abbrev pub range_of : Request → List ℕ → List ℕ
range_of (Read offset len) volume = take len (drop offset volume)
range_of (Write write) volume = []
range_of (Fua write) volume = []
range_of Flush volume = []

-- the request was sent since the last restart, and waits
abbrev pub Waits : State → Asked → Type 0
Waits s asked = Contains s.sent asked × Contains s.waiting asked.name

-- the write taken at this place, counted from 1, is the request's
abbrev pub IsAt : State → Asked → ℕ → Type 0
IsAt s asked place = (0 < place) × (slice_get (map (λ t. t.name) s.taken) (place - 1) ≡ Some asked.name)

-- when the step may be taken
abbrev pub May : State → Move → Type 0
May s (Send session cookie request) = Unit {0}
May s (Take asked write) = Contains s.sent asked × (written asked.request ≡ Some write) × All (λ t. t.name ≢ asked.name) s.taken
May s (AnswerWrite asked place) = Waits s asked × IsPlain asked.request × IsAt s asked place
May s (AnswerFua asked place) = Waits s asked × IsFua asked.request × IsAt s asked place
May s (AnswerFlush asked) = Waits s asked × IsFlush asked.request
May s (AnswerRead asked front) = Waits s asked × IsRead asked.request × (asked.mark ≤ front) × (front ≤ length s.taken)
May s (Refuse asked error) = Waits s asked
May s (Restart front) = (s.owed ≤ front) × (front ≤ length s.taken)

-- the writes with the one at this place, counted from 1, marked as answered
abbrev pub answered_at : ℕ → List Taken → List Taken
answered_at place [] = []
answered_at place (t ∷ ts) = (if place == 1 then record t { answered = true } else t) ∷ answered_at (place - 1) ts

-- one event more, after which the request waits no longer
abbrev pub told : State → Asked → State
told s asked = record s { waiting = filter (λ name. not (name == asked.name)) s.waiting; events = s.events + 1 }

-- what the step leaves
abbrev pub after : State → Move → State
after s (Send session cookie request) =
    let asked : Asked = record { name = s.events; session = session; cookie = cookie; request = request; mark = length s.taken; due = last_answered 1 s.taken } in
    record s { sent = s.sent ++ asked ∷ []; waiting = s.waiting ++ s.events ∷ []; events = s.events + 1 }
after s (Take asked write) = record s { taken = s.taken ++ record { name = asked.name; write = write; answered = false } ∷ [] }
after s (AnswerWrite asked place) = record (told s asked) { taken = answered_at place s.taken }
after s (AnswerFua asked place) = record (told s asked) { taken = answered_at place s.taken; owed = max s.owed place }
after s (AnswerFlush asked) = record (told s asked) { owed = max s.owed asked.due }
after s (AnswerRead asked front) = told s asked
after s (Refuse asked error) = told s asked
after s (Restart front) = record s { taken = take front s.taken; sent = []; waiting = [] }

-- what clients see of the step, at a volume of this size
abbrev pub shows : ℕ → State → Move → List ClientEvent
shows size s (Send session cookie request) = Sent session cookie request ∷ []
shows size s (Take asked write) = []
shows size s (AnswerWrite asked place) = Answered asked.session asked.cookie (Done []) ∷ []
shows size s (AnswerFua asked place) = Answered asked.session asked.cookie (Done []) ∷ []
shows size s (AnswerFlush asked) = Answered asked.session asked.cookie (Done []) ∷ []
shows size s (AnswerRead asked front) = Answered asked.session asked.cookie (Done (range_of asked.request (machine_volume size s front))) ∷ []
shows size s (Refuse asked error) = Answered asked.session asked.cookie (Failed error) ∷ []
shows size s (Restart front) = []

-- the steps lead from one state to the other
abbrev pub Run : State → List Move → State → Type 0
Run s [] t = t ≡ s
Run s (move ∷ moves) t = May s move × Run (after s move) moves t

-- what clients see of the steps
abbrev pub shown : ℕ → State → List Move → List ClientEvent
shown size s [] = []
shown size s (move ∷ moves) = shows size s move ++ shown size (after s move) moves

-- the step is no restart
abbrev pub GoesOn : Move → Type 0
GoesOn (Send session cookie request) = Unit {0}
GoesOn (Take asked write) = Unit {0}
GoesOn (AnswerWrite asked place) = Unit {0}
GoesOn (AnswerFua asked place) = Unit {0}
GoesOn (AnswerFlush asked) = Unit {0}
GoesOn (AnswerRead asked front) = Unit {0}
GoesOn (Refuse asked error) = Unit {0}
GoesOn (Restart front) = ⊥

-- the steps lead from one state to the other, and none of them is a restart
abbrev pub RunsOn : State → List Move → State → Type 0
RunsOn s [] t = t ≡ s
RunsOn s (move ∷ moves) t = GoesOn move × May s move × RunsOn (after s move) moves t

-- from each state of the machine that one world stands for, some run without a restart shows these events, and ends in one that
-- the other stands for
abbrev pub Plays : ℕ → (State → Type 0) → (State → Type 0) → List ClientEvent → Type 0
Plays size old new events = (s : State) → old s → (moves : List Move) × (t : State) × RunsOn s moves t × (shown size s moves ≡ events) × new t
