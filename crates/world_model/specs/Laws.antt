-- What holds of every run of the machine.
use Rattle.std.specs.Prelude.{◌≡◌, ◌⊎◌, ℕ, ◌≤◌, Some, List, ◌++◌, length, take, Contains}
use Rattle.flush_barrier.specs.declared.session_id.SessionId.{SessionId}
use Rattle.world_model.specs.Event.{Request, Flush}
use Rattle.world_model.specs.Machine.{AnswerFlush, AnswerRead, Asked, May, Move, Run, RunsOn, Send, State, Taken, after, last_answered, shown, start}
use Rattle.world_model.specs.Steps.{named}
use Rattle.world_model.specs.Sound.{IsAnsweredAt, IsSound, kept_as, writes_of}

-- a run that goes on is a run
abbrev pub RunsGoOn : Type 0
RunsGoOn = (s t u : State) (one two : List Move) → Run s one t → Run t two u → Run s (one ++ two) u

-- and what clients see of it goes on
abbrev pub ShownGoesOn : Type 0
ShownGoesOn = (size : ℕ) (s t : State) (one two : List Move) → Run s one t → shown size s (one ++ two) ≡ shown size s one ++ shown size t two

-- before anything happened the machine is sound
abbrev pub StartIsSound : Type 0
StartIsSound = IsSound start

-- a step that may be taken keeps it sound
abbrev pub StepsKeepSound : Type 0
StepsKeepSound = (s : State) (move : Move) → IsSound s → May s move → IsSound (after s move)

-- and so does a run
abbrev pub RunsKeepSound : Type 0
RunsKeepSound = (s t : State) (moves : List Move) → IsSound s → Run s moves t → IsSound t

-- the volume that a READ may be answered from has the writes up to its mark
abbrev pub MarkedWritesAreRead : Type 0
MarkedWritesAreRead = (s : State) (asked : Asked) (front : ℕ) → May s (AnswerRead asked front)
    → take asked.mark (take front s.taken) ≡ take asked.mark s.taken

-- and those are the writes that were taken when it was sent, whatever came since
abbrev pub ReadsAreFresh : Type 0
ReadsAreFresh = (s t : State) (session : SessionId) (cookie : ℕ) (request : Request) (moves : List Move) (front : ℕ)
    → IsSound s → Run (after s (Send session cookie request)) moves t → May t (AnswerRead (kept_as s session cookie request) front)
    → take (length s.taken) (writes_of (take front t.taken)) ≡ writes_of s.taken

-- no answered write stands behind the last one
abbrev pub LastIsLast : Type 0
LastIsLast = (taken : List Taken) (place : ℕ) → IsAnsweredAt taken place → place ≤ last_answered 1 taken

-- which was answered, if any was
abbrev pub LastIsAnswered : Type 0
LastIsAnswered = (taken : List Taken) → (last_answered 1 taken ≡ 0) ⊎ IsAnsweredAt taken (last_answered 1 taken)

-- once a FLUSH is answered, each write is owed that was answered when it was sent
abbrev pub FlushesOwe : Type 0
FlushesOwe = (s t : State) (session : SessionId) (cookie place : ℕ) → IsAnsweredAt s.taken place
    → place ≤ (after t (AnswerFlush (kept_as s session cookie Flush))).owed

-- what is owed stays owed, and stays as it is, whatever restarts come
abbrev pub OwedStays : Type 0
OwedStays = (s t : State) (moves : List Move) → IsSound s → Run s moves t
    → (s.owed ≤ t.owed) × (take s.owed (writes_of t.taken) ≡ take s.owed (writes_of s.taken))

-- without a restart no write that was taken is lost
abbrev pub NothingIsLost : Type 0
NothingIsLost = (s t : State) (moves : List Move) → RunsOn s moves t → take (length s.taken) (writes_of t.taken) ≡ writes_of s.taken

-- a request's name leads to it
abbrev pub NamesFind : Type 0
NamesFind = (s : State) (asked : Asked) → IsSound s → Contains s.sent asked → named s asked.name ≡ Some asked
