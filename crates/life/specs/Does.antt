-- What a step does: exactly the call of the world that it names, whose result its answer tells. Where there is no member at its place,
-- it is skipped, and nothing changed.
use Rattle.std.specs.Prelude.{◌≡◌, ℕ, ◌<◌, ◌≤◌, Bool, true, false, Option, None, Some, IfSome, Result, Ok, Err, List, [], length}
use Rattle.candidate.specs.Orders.{Counts, Holds, Notes}
use Rattle.candidate.specs.declared.giving.Gave.{Gave}
use Rattle.candidate.specs.declared.giving.Gave.TheVariants.{Nothing, Piece, Stopped}
use Rattle.chain_core.specs.Refusal.{number_of}
use Rattle.chain_core.specs.declared.refusal.Refusal.{Refusal}
use Rattle.clients.specs.declared.output.Output.{Output}
use Rattle.configurations.specs.Refusal as config
use Rattle.configurations.specs.declared.refusal.Refusal as configs
use Rattle.disk_model.specs.declared.memory.MemDisk.{MemDisk}
use Rattle.disk_model.specs.declared.script.Event.{Event}
use Rattle.flush_barrier.specs.declared.session_id.SessionId.{SessionId}
use Rattle.local_store.specs.About.{About}
use Rattle.local_store.specs.Refusal as store
use Rattle.local_store.specs.declared.refusal.Refusal as stores
use Rattle.manager.specs.Refusal as manager
use Rattle.manager.specs.declared.refusal.Refusal as managers
use Rattle.nbd_session.specs.Refusal as session
use Rattle.nbd_session.specs.declared.refusal.Refusal as sessions
use Rattle.std.specs.declared.alloc.AllocError.{AllocError}
use Rattle.world.specs.Telling.{is_whole, outputs_of}
use Rattle.world.specs.World.{Seen}
use Rattle.world.specs.declared.told.Told.{Told}
use Rattle.life.specs.Aside.{GrowsOutside}
use Rattle.life.specs.Calls.{Abandons, AnswersFront, Arms, ArmsConfig, AttachesNew, BeginsCommits, BeginsNext, Checkpoints, Connects, CopiesNext, CountsSlotOut, EndsCommit, EndsInput, EndsNext, FindsFront, Forgets, Gauges, GivesRest, HandsOut, Joins, LooksUp, MustersCrew, Numbers, Passes, Posts, Raises, Removes, Settles, Stops, TakesFirst, TakesIn, TakesRaised, TellsRecord, Ticks}
use Rattle.life.specs.Managed.{Managed}
use Rattle.life.specs.Played.{told_in, tried_in, went_in}
use Rattle.life.specs.declared.answer.Answer.{Answer}
use Rattle.life.specs.declared.answer.Answer.TheVariants.{Taken, HandedOut, Refused, Skipped}
use Rattle.life.specs.declared.era.Deed.{Deed}
use Rattle.life.specs.declared.era.Deed.TheVariants as deeds
use Rattle.life.specs.declared.step.Act.{Act}
use Rattle.life.specs.declared.step.Act.TheVariants as acts
use Rattle.life.specs.declared.step.ManagerAct.{ManagerAct}
use Rattle.life.specs.declared.step.ManagerAct.TheVariants as manages
use Rattle.life.specs.declared.step.Step.{Step}
use Rattle.life.specs.declared.step.Step.TheVariants.{Connect, Bytes, End, HandOut, Member}

-- ---- which answer tells a call's result

-- it was taken, and told nobody anything
abbrev pub IsSilent : Answer → Type 0
IsSilent (Taken told) = (is_whole told ≡ true) × (outputs_of told ≡ [])
IsSilent (HandedOut output) = ⊥
IsSilent (Refused number) = ⊥
IsSilent Skipped = ⊥

-- a step was taken that tells nobody anything, or there was none
abbrev pub TellsDone : Bool → Answer → Type 0
TellsDone true answer = IsSilent answer
TellsDone false answer = answer ≡ Skipped

-- a session began, or there was one of its number, or memory ran out
abbrev pub TellsBegun : Result Bool AllocError → Answer → Type 0
TellsBegun (Ok begun) answer = TellsDone begun answer
TellsBegun (Err error) answer = answer ≡ Refused 100

-- a piece was taken, or refused, or there is no such session
abbrev pub TellsFed : Option (Result (Unit {0}) sessions.Refusal) → Answer → Type 0
TellsFed None answer = answer ≡ Skipped
TellsFed (Some (Ok fed)) answer = IsSilent answer
TellsFed (Some (Err refusal)) answer = answer ≡ Refused (session.number_of refusal)

-- a script has one more event, or memory ran out
abbrev pub TellsArmed : Result (Unit {0}) AllocError → Answer → Type 0
TellsArmed (Ok armed) answer = IsSilent answer
TellsArmed (Err error) answer = answer ≡ Refused 100

-- a change was begun, or refused
abbrev pub TellsRemoved : Result (Unit {0}) managers.Refusal → Answer → Type 0
TellsRemoved (Ok begun) answer = IsSilent answer
TellsRemoved (Err refusal) answer = answer ≡ Refused (manager.number_of refusal)

-- a record was written, or there was none to write, or it was refused; where the disk has stopped, there is no answer
abbrev pub TellsRecorded : Result Bool configs.Refusal → Answer → Type 0
TellsRecorded (Ok done) answer = TellsDone done answer
TellsRecorded (Err refusal) answer = IfSome (config.number_of refusal) (λ number. answer ≡ Refused number)

-- a disk was refused with this; where it has stopped, there is no answer
abbrev pub TellsRefused : stores.Refusal → Answer → Type 0
TellsRefused refusal answer = IfSome (store.number_of refusal) (λ number. answer ≡ Refused number)

-- a disk was attached, or none was to be, or it refused
abbrev pub TellsAttached : Result Bool stores.Refusal → Answer → Type 0
TellsAttached (Ok done) answer = TellsDone done answer
TellsAttached (Err refusal) answer = TellsRefused refusal answer

-- a disk was given a block, or the end; or nothing; or the member stopped, and told clients so; or the disk refused
abbrev pub TellsGave : Result Gave stores.Refusal → Answer → Type 0
TellsGave (Ok Nothing) answer = answer ≡ Skipped
TellsGave (Ok Piece) answer = IsSilent answer
TellsGave (Ok (Stopped told)) answer = answer ≡ Taken told
TellsGave (Err refusal) answer = TellsRefused refusal answer

-- what waited for a client went out, and else there was no such step
abbrev pub handed_out_in : Option Output → Answer
handed_out_in (Some output) = HandedOut output
handed_out_in None = Skipped

-- what a tick told clients, or why it was refused
abbrev pub ticked_in : Result (Told × Option ℕ) Refusal → Answer
ticked_in (Ok ticked) = Taken ticked.0
ticked_in (Err refusal) = Refused (number_of refusal)

-- the answer tells what the call gave, which did so
abbrev pub IsDone : Answer → (Bool → Type 0) → Type 0
IsDone answer Did = (taken : Bool) × TellsDone taken answer × Did taken

abbrev pub IsTold : Answer → (Option Told → Type 0) → Type 0
IsTold answer Did = (given : Option Told) × (answer ≡ told_in given) × Did given

abbrev pub IsTried : Answer → (Result (Option Told) Refusal → Type 0) → Type 0
IsTried answer Did = (given : Result (Option Told) Refusal) × (answer ≡ tried_in given) × Did given

abbrev pub HasGone : Answer → (Result Told Refusal → Type 0) → Type 0
HasGone answer Did = (given : Result Told Refusal) × (answer ≡ went_in given) × Did given

-- ---- where there is no such step

-- the step was skipped, and nothing changed
abbrev pub IsSkipped : {S : Type 0} → Answer → Seen S → Seen S → Type 0
IsSkipped answer old new = (answer ≡ Skipped) × (new ≡ old)

-- Where there is a member at the place, this was done; else the step was skipped.
pub record IsAtMember {S : Type 0} (at : ℕ) (answer : Answer) (old new : Seen S) (Did : Type 0) : Type 0 where
  pub nobody : length old.chain.members ≤ at → IsSkipped answer old new
  pub member : at < length old.chain.members → Did

-- ---- a client's step

-- a session began at the member at the place, if there is one
abbrev pub IsConnected : {S : Type 0} → SessionId → ℕ → Answer → Seen S → Seen S → Type 0
IsConnected id at answer old new = IsAtMember at answer old new ((given : Result Bool AllocError) × TellsBegun given answer × Connects id at given old new)

-- the session was fed a piece, if there is one
abbrev pub IsFed : {S : Type 0} → SessionId → List ℕ → Answer → Seen S → Seen S → Type 0
IsFed id piece answer old new = (given : Option (Result (Unit {0}) sessions.Refusal)) × TellsFed given answer × TakesIn id piece given old new

-- its input ended
abbrev pub IsEnded : {S : Type 0} → SessionId → Answer → Seen S → Seen S → Type 0
IsEnded id answer old new = IsDone answer (λ taken. EndsInput id taken old new)

-- what waited for it went out
abbrev pub IsHandedOut : {S : Type 0} → SessionId → Answer → Seen S → Seen S → Type 0
IsHandedOut id answer old new = (given : Option Output) × (answer ≡ handed_out_in given) × HandsOut id given old new

-- ---- an event

-- the script of the disk of the member at the place has one more event, if there is such a member
abbrev pub IsArmed : {S : Type 0} → (S → About) → (S → List ℕ → Type 0) → (S → ℕ → Type 0) → (S → List ℕ → Type 0) → (S → ℕ) → (S → MemDisk) → ℕ → Event → Answer → Seen S → Seen S → Type 0
IsArmed about keeps is_pending may_leave_now failures disk at event answer old new =
    IsAtMember at answer old new ((given : Result (Unit {0}) AllocError) × TellsArmed given answer × Arms about keeps is_pending may_leave_now failures disk at event given old new)

-- the script of the configuration's disk has one more event
abbrev pub IsConfigArmed : {S : Type 0} → Event → Answer → Managed S → Managed S → Type 0
IsConfigArmed event answer old new = (given : Result (Unit {0}) AllocError) × TellsArmed given answer × ArmsConfig event given old new

-- ---- a joining that is abandoned

abbrev pub is_abandon : ManagerAct → Bool
is_abandon manages.Abandon = true
is_abandon _ = false

-- the deed is that the manager abandons one
abbrev pub is_abandoning : Deed → Bool
is_abandoning (deeds.Manage act) = is_abandon act
is_abandoning (deeds.Step step) = false
is_abandoning (deeds.Arm at event) = false
is_abandoning (deeds.ArmConfig event) = false

-- ---- any step

module _ {S : Type 0} (premise : Type 0) (about : S → About) (keeps : S → List ℕ → Type 0) (is_pending : S → ℕ → Type 0) (may_leave_now : S → List ℕ → Type 0) (moment : S → ℕ)
    (left_since : S → ℕ → List ℕ → Type 0) (failures : S → ℕ) where
  -- It begins a commit of at most so many writes; of none at all it is skipped.
  pub record BeginsSome (at most : ℕ) (answer : Answer) (old new : Seen S) : Type 0 where
    pub none : most ≡ 0 → IsSkipped answer old new
    pub some : 0 < most → IsTried answer (λ given. BeginsCommits premise about keeps is_pending may_leave_now moment left_since failures at most given old new)

  -- its store wrote a block home
  abbrev pub IsTicked : ℕ → Answer → Seen S → Seen S → Type 0
  IsTicked at answer old new = (given : Result (Told × Option ℕ) Refusal) × (answer ≡ ticked_in given) × Ticks premise about keeps is_pending may_leave_now moment left_since failures at given old new

  -- what the member at the place did
  abbrev pub Acts : Act → ℕ → Answer → Seen S → Seen S → Type 0
  Acts acts.Take at answer old new = IsTold answer (λ given. TakesFirst premise about keeps is_pending may_leave_now moment left_since failures at given old new)
  Acts (acts.Number from) at answer old new = IsTried answer (λ given. Numbers from at given old new)
  Acts (acts.Pass from) at answer old new = IsTried answer (λ given. Passes from at given old new)
  Acts acts.Look at answer old new = IsDone answer (λ taken. LooksUp at taken old new)
  Acts acts.AnswerFront at answer old new = IsTold answer (λ given. AnswersFront premise about keeps is_pending may_leave_now moment left_since failures at given old new)
  Acts acts.Raise at answer old new = IsDone answer (λ taken. Raises at taken old new)
  Acts acts.Raised at answer old new = IsTold answer (λ given. TakesRaised at given old new)
  Acts acts.FindFront at answer old new = IsDone answer (λ taken. FindsFront at taken old new)
  Acts acts.Crew at answer old new = IsDone answer (λ taken. MustersCrew at taken old new)
  Acts acts.Gauge at answer old new = IsDone answer (λ taken. Gauges at taken old new)
  Acts acts.Settle at answer old new = IsTold answer (λ given. Settles at given old new)
  Acts (acts.BeginCommits most) at answer old new = BeginsSome at most answer old new
  Acts acts.EndCommit at answer old new = IsTold answer (λ given. EndsCommit premise about keeps is_pending may_leave_now moment left_since failures at given old new)
  Acts acts.Post at answer old new = IsDone answer (λ taken. Posts at taken old new)
  Acts acts.Tick at answer old new = IsTicked at answer old new
  Acts acts.Checkpoint at answer old new = HasGone answer (λ given. Checkpoints premise about keeps is_pending may_leave_now moment left_since failures at given old new)
  Acts acts.Stop at answer old new = IsTold answer (λ given. Stops at given old new)

  -- what the step did
  abbrev pub Does : Step → Answer → Seen S → Seen S → Type 0
  Does (Connect id at) answer old new = IsConnected id at answer old new
  Does (Bytes id piece) answer old new = IsFed id piece.items answer old new
  Does (End id) answer old new = IsEnded id answer old new
  Does (HandOut id) answer old new = IsHandedOut id answer old new
  Does (Member at act) answer old new = IsAtMember at answer old new (Acts act at answer old new)

  -- ---- the manager

  -- what the manager did
  abbrev pub Manages : ManagerAct → Answer → Managed S → Managed S → Type 0
  Manages (manages.Remove slot) answer old new = (given : Result (Unit {0}) managers.Refusal) × TellsRemoved given answer × Removes slot given old new
  Manages (manages.Join slot) answer old new = (given : Result (Unit {0}) managers.Refusal) × TellsRemoved given answer × Joins slot given old new
  Manages (manages.Forget at) answer old new = IsDone answer (λ done. Forgets at done old new)
  Manages (manages.Attach event) answer old new = (given : Result Bool stores.Refusal) × TellsAttached given answer × AttachesNew given old new
  Manages manages.Copy answer old new = (given : Result Gave stores.Refusal) × TellsGave given answer × CopiesNext premise about keeps is_pending may_leave_now moment left_since failures given old new
  Manages manages.Hold answer old new = IsTold answer (λ given. Holds given old.candidate new.candidate old.management new.management old.world new.world)
  Manages manages.Rest answer old new = (given : Result Gave stores.Refusal) × TellsGave given answer × GivesRest premise about keeps is_pending may_leave_now moment left_since failures given old new
  Manages manages.CountIn answer old new = IsDone answer (λ done. Counts about done old.candidate new.candidate old.management new.management old.world new.world)
  Manages manages.Abandon answer old new = (given : Result (Unit {0}) managers.Refusal) × TellsRemoved given answer × Abandons about may_leave_now given old new
  Manages manages.BeginRecord answer old new = (given : Result Bool AllocError) × TellsBegun given answer × BeginsNext about given old new
  Manages manages.EndRecord answer old new = (given : Result Bool configs.Refusal) × TellsRecorded given answer × EndsNext about given old new
  Manages manages.CountOut answer old new = IsDone answer (λ done. CountsSlotOut done old new)
  Manages manages.Tell answer old new = IsTold answer (λ given. TellsRecord given old new)

  -- ---- a deed

  -- what the deed did, where this is the disk of a store
  abbrev pub DoesIt : (S → MemDisk) → Deed → Answer → Managed S → Managed S → Type 0
  DoesIt disk (deeds.Step step) answer old new = Does step answer old.world new.world × (new.management ≡ old.management) × (new.candidate ≡ old.candidate)
  DoesIt disk (deeds.Manage act) answer old new = Manages act answer old new
  DoesIt disk (deeds.Arm at event) answer old new =
      IsArmed about keeps is_pending may_leave_now failures disk at event answer old.world new.world × (new.management ≡ old.management) × (new.candidate ≡ old.candidate)
  DoesIt disk (deeds.ArmConfig event) answer old new = IsConfigArmed event answer old new

  -- It did so; and then what the member came to know, whose volume the disk on its way is given, was noted. The disks outside stay, and only
  -- an abandoned joining leaves another.
  pub record DoesDeed (disk : S → MemDisk) (deed : Deed) (answer : Answer) (old new : Managed S) : Type 0 where
    pub unnoted : Managed S
    pub did : DoesIt disk deed answer old unnoted
    pub noted : Notes new.world.chain unnoted.candidate new.candidate
    pub same : new ≡ record unnoted { candidate = new.candidate }
    pub outside : GrowsOutside old new
    pub outside_stay : is_abandoning deed ≡ false → new.outside ≡ old.outside
