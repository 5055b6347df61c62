-- What an era is while it is played: the contract of what plays its deeds.
use Rattle.std.specs.Prelude.{◌≡◌, ℕ, ◌≤◌, List, [], ◌++◌, length, take}
use Rattle.flush_barrier.specs.declared.session_id.SessionId.{SessionId}
use Rattle.local_store.specs.About.{About}
use Rattle.nbd_session.specs.declared.answer.Export.{Export}
use Rattle.candidate.specs.Copies.{HasCopy}
use Rattle.clients.specs.Clients.{AreSessions}
use Rattle.disk_model.specs.Memory.{given_of, may_be_left}
use Rattle.chain.specs.Chain.{bytes_of}
use Rattle.chain_model.specs.Chain.{StandsFor}
use Rattle.chain_model.specs.View.{View}
use Rattle.world_model.specs.Event.{ClientEvent}
use Rattle.world_model.specs.Life.{all_events}
use Rattle.world_model.specs.Machine.{Move, RunsOn, State}
use Rattle.world.specs.World.{HappensSo, Seen, Shows}
use Rattle.life.specs.Begun.{AllRun}
use Rattle.life.specs.Headline.{Trace, fed_in, handed_in}
use Rattle.life.specs.Managed.{Managed}

-- The world stands for this state of the machine, has no clients, and all its members run.
pub record IsFresh {S : Type 0} (about : S → About) (keeps : S → List ℕ → Type 0) (may_leave_now : S → List ℕ → Type 0) (size : ℕ) (export : Export) (w : Seen S) (s : State) : Type 0 where
  pub view : View
  pub shows : Shows about keeps may_leave_now w view
  pub stands : StandsFor size view s
  pub no_clients : w.sessions.clients ≡ []
  pub has : w.sessions.export ≡ export
  pub runs : AllRun w

-- These deeds can happen in a world that is shown so, whose clients see these events.
pub record HappenedUntil {S : Type 0} (about : S → About) (keeps : S → List ℕ → Type 0) (may_leave_now : S → List ℕ → Type 0) (old : Seen S) (v : View) (told : Trace) (events : List ClientEvent) : Type 0 where
  pub at : Seen S
  pub sessions : AreSessions at.sessions
  pub happens : HappensSo about keeps may_leave_now old at (fed_in told) (handed_in told) v
  pub are : happens.events ≡ events

-- These deeds can happen in it one after another, and behind them one of which nothing went out but what was dropped.
pub record HappenInTurn {S : Type 0} (about : S → About) (keeps : S → List ℕ → Type 0) (may_leave_now : S → List ℕ → Type 0) (told : Trace) (dropped : SessionId → List ℕ) (old new : Seen S) (v : View) : Type 0 where
  pub each : List (List ClientEvent)
  pub last : List ClientEvent
  pub many : length each ≡ length told
  pub so_far : (n : ℕ) → n ≤ length told → HappenedUntil about keeps may_leave_now old v (take n told) (all_events (take n each))
  pub happens : HappensSo about keeps may_leave_now old new (fed_in told) (λ id. handed_in told id ++ dropped id) v
  pub are : happens.events ≡ all_events each ++ last

-- whatever state of the one volume the world stood for
abbrev pub AreOfOneVolume : {S : Type 0} → (S → About) → (S → List ℕ → Type 0) → (S → List ℕ → Type 0) → Trace → (dropped : SessionId → List ℕ) → Seen S → Seen S → Type 0
AreOfOneVolume about keeps may_leave_now told dropped old new =
    (v : View) (s : State) → Shows about keeps may_leave_now old v → StandsFor (bytes_of old.chain) v s → HappenInTurn about keeps may_leave_now told dropped old new v

-- ---- a disk on its way

-- the disk on its way has a copy of the volume of this state of the machine, but for the blocks that are due
abbrev pub HasCopyIn : {S : Type 0} → (S → About) → (S → List ℕ → Type 0) → ℕ → State → Managed S → Type 0
HasCopyIn about keeps size s w = (incarnation : ℕ) × HasCopy given_of may_be_left about keeps size s incarnation w.candidate

-- Whatever state of the one volume the world stood for, of which the disk had a copy: what the call did can happen in such a world.
abbrev pub IsOfOneVolumeIn : {S : Type 0} → (S → About) → (S → List ℕ → Type 0) → (S → List ℕ → Type 0) → (fed handed : SessionId → List ℕ) → Managed S → Managed S → Type 0
IsOfOneVolumeIn about keeps may_leave_now fed handed old new =
    (v : View) (s : State) → Shows about keeps may_leave_now old.world v → StandsFor (bytes_of old.world.chain) v s → HasCopyIn about keeps (bytes_of old.world.chain) s old
    → HappensSo about keeps may_leave_now old.world new.world fed handed v

-- And it has one still, whichever it stands for then.
abbrev pub KeepsCopyIn : {S : Type 0} → (S → About) → (S → List ℕ → Type 0) → (S → List ℕ → Type 0) → Managed S → Managed S → Type 0
KeepsCopyIn about keeps may_leave_now old new =
    (v w : View) (s t : State) (moves : List Move) → Shows about keeps may_leave_now old.world v → StandsFor (bytes_of old.world.chain) v s → RunsOn s moves t
    → Shows about keeps may_leave_now new.world w → StandsFor (bytes_of old.world.chain) w t → HasCopyIn about keeps (bytes_of old.world.chain) s old → HasCopyIn about keeps (bytes_of old.world.chain) t new
