-- What every state that a run reaches keeps.
use Rattle.std.specs.Prelude.{◌≡◌, ◌≢◌, ℕ, ◌-◌, ◌<◌, ◌≤◌, IsTrue, Some, List, length, map, All, AllPairs, Contains, slice_get}
use Rattle.flush_barrier.specs.declared.session_id.SessionId.{SessionId}
use Rattle.volume.specs.Writes.{Placed}
use Rattle.world_model.specs.Event.{Request}
use Rattle.world_model.specs.Machine.{Asked, State, Taken, last_answered}

-- the names of the requests sent since the last restart
abbrev pub names_sent : State → List ℕ
names_sent s = map (λ a. a.name) s.sent

-- the names of the writes taken
abbrev pub names_taken : State → List ℕ
names_taken s = map (λ t. t.name) s.taken

-- what holds of the machine after each of its steps
pub record IsSound (s : State) : Type 0 where
  pub sent_apart : AllPairs (λ m n. m ≢ n) (names_sent s)
  pub sent_before : All (λ name. name < s.events) (names_sent s)
  pub taken_before : All (λ name. name < s.events) (names_taken s)
  pub taken_apart : AllPairs (λ m n. m ≢ n) (names_taken s)
  pub owed_taken : s.owed ≤ length s.taken
  pub marks_taken : All (λ a. a.mark ≤ length s.taken) s.sent
  pub dues_taken : All (λ a. a.due ≤ length s.taken) s.sent
  pub waiting_sent : All (λ name. Contains (names_sent s) name) s.waiting

-- the request as the machine keeps it once it is sent
abbrev pub kept_as : State → SessionId → ℕ → Request → Asked
kept_as s session cookie request = record {
  name = s.events;
  session = session;
  cookie = cookie;
  request = request;
  mark = length s.taken;
  due = last_answered 1 s.taken;
}

-- the write taken at this place, counted from 1, was answered
abbrev pub IsAnsweredAt : List Taken → ℕ → Type 0
IsAnsweredAt taken place = (t : Taken) × (0 < place) × (slice_get taken (place - 1) ≡ Some t) × IsTrue t.answered

-- the writes and whose they are, whether answered or not
abbrev pub writes_of : List Taken → List (ℕ × Placed)
writes_of taken = map (λ t. (t.name, t.write)) taken
