-- The calls of a world: what each does, with what it gives.
use Rattle.std.specs.Prelude.{◌≡◌, ◌≢◌, ◌⊎◌, ◌↔◌, ◌≤◌, ℕ, suc, Bool, true, false, Option, None, Some, Result, Err, IfErr, IfNone, IfOk, IfSome, IsErrOf, IsOk, IsSome, OnErr, OnOk, List, [], ◌∷◌, ◌++◌, length, slice_get}
use Rattle.chain.specs.Arming.{HasArmed, HasNewScript, HasOldScript}
use Rattle.chain.specs.Chain.{Chained, Changes, RestsAt, bytes_of}
use Rattle.chain.specs.Commits.{EndsAt, HasBegunCommits, HasCheckpointed, HasEndedCommit, HasNoCommit, HasNoGroup, HasNoNumber, HasStoppedTold, HasTicked, IsOutOfTurn, IsUsedUpAt, LeavesAt, PostsAt, PostsNone}
use Rattle.chain.specs.Fronts.{HasAnswered, HasKnown, HasLooked, HasNoLooked, HasNoRaised, MayNotRaise, RaisesAt}
use Rattle.chain.specs.Member.{HasCalled}
use Rattle.chain.specs.Musters.{HasFound, HasGauged, HasMustered, HasNoFront, HasNoSlotLeft, HasNoWhole, HasSettled, LacksAt}
use Rattle.chain.specs.Passing.{HasNone, IsItself, MessageComes, Refuses, SubmitComes}
use Rattle.candidate.specs.Copies.{BeginsAt}
use Rattle.candidate.specs.Orders.{Attaches, Copies, LedOn, Rests}
use Rattle.candidate.specs.declared.candidate.Candidate.{Candidate}
use Rattle.candidate.specs.declared.candidate.Candidate.TheVariants.{Copying, Counted, Nobody, Refused, Whole}
use Rattle.candidate.specs.declared.giving.Gave.{Gave}
use Rattle.chain_core.specs.declared.refusal.Refusal.{Refusal}
use Rattle.chain_core.specs.declared.refusal.Refusal.TheVariants as refusals
use Rattle.chain_steps.specs.declared.message.Envelope.{Envelope}
use Rattle.clients.specs.Calls.{Begins, Ends, PutsOut}
use Rattle.clients.specs.Clients.{HasClient, place_of}
use Rattle.clients.specs.declared.output.Output.{Output}
use Rattle.configurations.specs.Record.{Record}
use Rattle.configurations.specs.Refusal.{HasCause, IsOfDevice, IsOfRecording}
use Rattle.configurations.specs.Store.{HoldsRecord, IsSettledConfig}
use Rattle.configurations.specs.declared.refusal.Refusal as config
use Rattle.disk_model.specs.Disk.{LeavesOnly, NothingNew}
use Rattle.disk_model.specs.Event.{counted_from}
use Rattle.disk_model.specs.Memory.{IsAsBefore, calls_of, failures_of, given_of, left_since, may_be_left, moment_of, script_of}
use Rattle.disk_model.specs.Part.{inside}
use Rattle.disk_model.specs.declared.memory.MemDisk.{MemDisk}
use Rattle.disk_model.specs.declared.script.Event.{Event}
use Rattle.flush_barrier.specs.Reply.{GivenReply}
use Rattle.flush_barrier.specs.declared.session_id.SessionId.{SessionId}
use Rattle.local_store.specs.About.{About}
use Rattle.local_store.specs.Arming.{IsAsItWas}
use Rattle.local_store.specs.Refusal.{IsCaused}
use Rattle.local_store.specs.declared.refusal.Refusal as stores
use Rattle.local_store.specs.declared.refusal.Refusal.TheVariants as store_refusals
use Rattle.manager.specs.Manager.{abandoned, joining_of, next_of, removal_of, why_no_abandoning, why_no_joining, why_no_removal}
use Rattle.manager.specs.declared.order.Order.TheVariants as orders
use Rattle.manager.specs.declared.refusal.Refusal as manager
use Rattle.manager.specs.declared.refusal.Refusal.TheVariants as managers
use Rattle.nbd_session.specs.Progress.{is_over}
use Rattle.nbd_session.specs.declared.refusal.Refusal as session
use Rattle.nbd_session.specs.declared.refusal.Refusal.TheVariants.{SessionOver}
use Rattle.std.specs.Option.{option_to_list}
use Rattle.std.specs.declared.alloc.AllocError.{AllocError}
use Rattle.world.specs.Forgetting.{HasForgotten, MayForget}
use Rattle.world.specs.Joining.{BeginsJoin, BeginsNoJoin, EndsJoin, EndsNoJoin, GivesUp, HasOnlyRecorded}
use Rattle.world.specs.Management.{BeginsNone, CountsNone, CountsOut, EndsNone, HasBegun, HasEnded, HoldsWritten, TellsNext, TellsNobody, noted}
use Rattle.world.specs.Reception.{Feeds, Receives}
use Rattle.world.specs.Taking.{Takes}
use Rattle.world.specs.Telling.{Answers, Moves}
use Rattle.world.specs.World.{Seen}
use Rattle.world.specs.declared.told.Told.{Told}
use Rattle.life.specs.Aside.{IsSetAside, IsStoreLeft}
use Rattle.life.specs.Managed.{Managed}
use Rattle.life.specs.declared.managed.SlotDisk.{SlotDisk}

-- ---- of clients

-- A client began its session at the member at the place; or there was one of its number before; or memory ran out.
pub record Connects {S : Type 0} (id : SessionId) (at : ℕ) (given : Result Bool AllocError) (old new : Seen S) : Type 0 where
  pub begins : IfOk given (λ begun. begun ≡ true → Receives old new (Begins id at))
  pub known : IfOk given (λ begun. begun ≡ false → IsSome (place_of id old.sessions.clients) × (new ≡ old))
  pub err : OnErr given (new ≡ old)

-- The session took the piece; or it was refused; or there is no such session.
pub record TakesIn {S : Type 0} (id : SessionId) (piece : List ℕ) (given : Option (Result (Unit {0}) session.Refusal)) (old new : Seen S) : Type 0 where
  pub fed : IfSome given (λ fed. IfOk fed (λ _. Feeds id piece old new))
  pub none : IfNone given ((place_of id old.sessions.clients ≡ None) × (new ≡ old))
  pub known : IfSome given (λ fed. IsSome (place_of id old.sessions.clients))
  pub over : IfSome given (λ fed. IsErrOf fed SessionOver → HasClient id old.sessions.clients (λ client. is_over client.session.phase ≡ true))
  pub err : IfSome given (λ fed. OnErr fed (new ≡ old))

-- The client's input ended; or there is no such session that takes input.
pub record EndsInput {S : Type 0} (id : SessionId) (taken : Bool) (old new : Seen S) : Type 0 where
  pub ended : taken ≡ true → Receives old new (Ends id)
  pub idle : taken ≡ false → (HasClient id old.sessions.clients (λ client. is_over client.session.phase ≡ false) → ⊥) × (new ≡ old)

-- what waited for the session went out
abbrev pub HandsOut : {S : Type 0} → SessionId → Option Output → Seen S → Seen S → Type 0
HandsOut id given old new = Receives old new (λ old new. PutsOut id old given new)

-- ---- of links

-- The first message of a link was taken; or the member refused it; or there was none.
pub record Comes {S : Type 0} (links_of : Chained S → List (List Envelope)) (from at : ℕ) (given : Result (Option Told) Refusal) (old new : Seen S) (Idle : Chained S → Chained S → Type 0)
    (Did : List GivenReply → Chained S → Chained S → Type 0) : Type 0 where
  pub none : IfOk given (λ taken. IfNone taken (Moves old new Idle))
  pub taken : IfOk given (λ taken. IfSome taken (λ told. Answers told old new Did))
  pub refused : IfErr given (λ r. Moves old new (λ old new. Refuses links_of from at old new r))

-- the member took the first write that came from the slot by its submit link
abbrev pub Numbers : {S : Type 0} → (from at : ℕ) → Result (Option Told) Refusal → Seen S → Seen S → Type 0
Numbers from at given old new = Comes (λ c. c.submits) from at given old new (HasNone (λ c. c.submits) from at) (λ replies old new. SubmitComes from at old new replies)

-- it took the first message that came from the slot by its chain link
abbrev pub Passes : {S : Type 0} → (from at : ℕ) → Result (Option Told) Refusal → Seen S → Seen S → Type 0
Passes from at given old new = Comes (λ c. c.links) from at given old new (λ old new. HasNone (λ c. c.links) from at old new ⊎ IsItself from at old new) (λ replies old new. MessageComes from at old new replies)

-- ---- of the board

-- The chain did so, without a reply; or it was idle for this reason.
pub record MovesOr {S : Type 0} (taken : Bool) (old new : Seen S) (Did Idle : Chained S → Chained S → Type 0) : Type 0 where
  pub did : taken ≡ true → Moves old new Did
  pub idle : taken ≡ false → Moves old new Idle

-- the member looked the committed front up
abbrev pub LooksUp : {S : Type 0} → ℕ → Bool → Seen S → Seen S → Type 0
LooksUp at taken old new = MovesOr taken old new (λ old new. Changes at old new (HasLooked old.words.front)) (RestsAt at)

-- the member, a tail that may, raised the committed front
abbrev pub Raises : {S : Type 0} → ℕ → Bool → Seen S → Seen S → Type 0
Raises at taken old new = MovesOr taken old new (RaisesAt at) (λ old new. LacksAt at old new MayNotRaise ⊎ RestsAt at old new)

-- the member looked the committed front up, for a crew
abbrev pub FindsFront : {S : Type 0} → ℕ → Bool → Seen S → Seen S → Type 0
FindsFront at taken old new = MovesOr taken old new (λ old new. Changes at old new (HasFound old.id old.seat old.words.front)) (RestsAt at)

-- the member looked the mask of counted slots up
abbrev pub MustersCrew : {S : Type 0} → ℕ → Bool → Seen S → Seen S → Type 0
MustersCrew at taken old new = MovesOr taken old new (λ old new. Changes at old new (HasMustered old.id old.seat old.words.mask)) (λ old new. RestsAt at old new ⊎ LacksAt at old new HasNoFront)

-- the member looked the gauge of its crew's next slot up
abbrev pub Gauges : {S : Type 0} → ℕ → Bool → Seen S → Seen S → Type 0
Gauges at taken old new = MovesOr taken old new (λ old new. Changes at old new (HasGauged old.words)) (λ old new. RestsAt at old new ⊎ LacksAt at old new HasNoSlotLeft)

-- the member posted its last receipt
abbrev pub Posts : {S : Type 0} → ℕ → Bool → Seen S → Seen S → Type 0
Posts at taken old new = MovesOr taken old new (PostsAt at) (PostsNone at)

-- ---- of members

-- The chain did so, and its replies came to their sessions; or it was idle for this reason.
pub record AnswersOr {S : Type 0} (given : Option Told) (old new : Seen S) (Did : List GivenReply → Chained S → Chained S → Type 0) (Idle : Chained S → Chained S → Type 0) : Type 0 where
  pub did : IfSome given (λ told. Answers told old new Did)
  pub idle : IfNone given (Moves old new Idle)

-- the member went on with the front that it raised
abbrev pub TakesRaised : {S : Type 0} → ℕ → Option Told → Seen S → Seen S → Type 0
TakesRaised at given old new = AnswersOr given old new (λ replies old new. HasKnown at replies old new) (λ old new. RestsAt at old new ⊎ LacksAt at old new HasNoRaised)

-- the member answered what waits for a floor
abbrev pub Settles : {S : Type 0} → ℕ → Option Told → Seen S → Seen S → Type 0
Settles at given old new = AnswersOr given old new (λ replies old new. Changes at old new (HasSettled replies)) (λ old new. RestsAt at old new ⊎ LacksAt at old new HasNoWhole)

-- the member stopped; or it had, and its cause stays
abbrev pub Stops : {S : Type 0} → ℕ → Option Told → Seen S → Seen S → Type 0
Stops at given old new = AnswersOr given old new (λ replies old new. Changes at old new (HasStoppedTold replies)) (RestsAt at)

-- ---- of the manager

-- nothing changed of the world and its manager
abbrev pub IsSame : {S : Type 0} → Managed S → Managed S → Type 0
IsSame old new = (new.world ≡ old.world) × (new.management ≡ old.management)

-- nor of the disk on its way
abbrev pub AllSame : {S : Type 0} → Managed S → Managed S → Type 0
AllSame old new = IsSame old new × (new.candidate ≡ old.candidate)

-- The manager noted who has stopped, and began the removal of the member at the slot; or it refuses it, by the first test that fails.
pub record Removes {S : Type 0} (slot : ℕ) (given : Result (Unit {0}) manager.Refusal) (old new : Managed S) : Type 0 where
  pub candidate : new.candidate ≡ old.candidate
  pub world : new.world ≡ old.world
  pub done : OnOk given (new.management ≡ record old.management { manager = removal_of slot (noted old.world.chain old.management.manager) })
  pub ok : IsOk given → why_no_removal slot (noted old.world.chain old.management.manager) ≡ None
  pub refused : IfErr given (λ e. e ≢ managers.Memory → why_no_removal slot (noted old.world.chain old.management.manager) ≡ Some e)
  pub memory : IsErrOf given managers.Memory → why_no_removal slot (noted old.world.chain old.management.manager) ≡ None
  pub only_noted : OnErr given (new.management ≡ record old.management { manager = noted old.world.chain old.management.manager })

-- The next record is being written; or no record is the next order, or it may not come next; or memory ran out.
pub record BeginsRecord {S : Type 0} (given : Result Bool AllocError) (old new : Managed S) : Type 0 where
  pub candidate : new.candidate ≡ old.candidate
  pub begun : IfOk given (λ done. done ≡ true → HasBegun old.management new.management old.world new.world)
  pub idle : IfOk given (λ done. done ≡ false → BeginsNone old.management old.world × IsSame old new)
  pub err : OnErr given (IsSame old new)

-- The record that was being written stands on the configuration's disk, and is the recorded one; or none may be recorded; or it is refused,
-- and then it is being written still. A stop at any moment leaves the one before it, or this one.
pub record EndsRecord {S : Type 0} (given : Result Bool config.Refusal) (old new : Managed S) : Type 0 where
  pub candidate : new.candidate ≡ old.candidate
  pub ended : IfOk given (λ done. done ≡ true → HasEnded old.management new.management old.world new.world)
  pub idle : IfOk given (λ done. done ≡ false → EndsNone old.management old.world × IsSame old new)
  pub world : OnErr given (new.world ≡ old.world)
  pub manager : OnErr given (new.management.manager ≡ old.management.manager)
  pub unchanged : IfErr given (λ r. (IsOfDevice r → ⊥) → new.management ≡ old.management)
  pub device : IfErr given (λ r. IsOfDevice r → new.management.config
      ≡ record old.management.config { pair = record old.management.config.pair { is_closed = new.management.config.pair.is_closed; broken = true } })
  pub told : IfErr given IsOfRecording
  pub cause : HasCause (failures_of old.management.disk) (failures_of new.management.disk) given
  pub broken : old.management.config.pair.broken ≡ true → IfErr given (λ r. IsOfDevice r → ⊥) × IfOk given (λ done. done ≡ false)
  pub attempted : IfErr given (λ r. IsOfDevice r → (next : Record) → old.world.chain.writing ≡ Some next → old.management.config.current.epoch ≢ next.epoch)
  pub settled : IsSettledConfig old.management.config (given_of old.management.disk) (may_be_left old.management.disk)
      → OnOk given (IsSettledConfig new.management.config (given_of new.management.disk) (may_be_left new.management.disk))
  pub any_moment : IsSettledConfig old.management.config (given_of old.management.disk) (may_be_left old.management.disk)
      → LeavesOnly moment_of left_since old.management.disk new.management.disk (λ c. HoldsRecord old.management.config.current (inside old.management.config.pair.part c)
      ⊎ HoldsWritten old.world.chain.writing (inside old.management.config.pair.part c))

-- whether the disk on its way was counted
abbrev pub is_counted : {S D : Type 0} → Candidate S D → Bool
is_counted Counted = true
is_counted Nobody = false
is_counted (Copying c) = false
is_counted (Whole w) = false
is_counted (Refused r) = false

-- The next record is being written, with who joins; or no record is the next order, or it may not come next; or memory ran out.
pub record BeginsWithJoiner {S : Type 0} (about : S → About) (given : Result Bool AllocError) (old new : Managed S) : Type 0 where
  pub candidate : new.candidate ≡ old.candidate
  pub begun : IfOk given (λ done. done ≡ true → BeginsJoin about old.management new.management old.world new.world)
  pub idle : IfOk given (λ done. done ≡ false → BeginsNoJoin about old.management old.world × IsSame old new)
  pub err : OnErr given (IsSame old new)

-- with the disk that was counted, if one was
abbrev pub BeginsNext : {S : Type 0} → (S → About) → Result Bool AllocError → Managed S → Managed S → Type 0
BeginsNext about given old new = ((is_counted old.candidate ≡ true) × BeginsWithJoiner about given old new) ⊎ ((is_counted old.candidate ≡ false) × BeginsRecord given old new)

-- The record with who joins stands on the configuration's disk, and is the recorded one; or none may be recorded; or it is refused, and then
-- it is being written still. A stop at any moment leaves the one before it, or this one.
pub record EndsWithJoiner {S : Type 0} (about : S → About) (given : Result Bool config.Refusal) (old new : Managed S) : Type 0 where
  pub ended : IfOk given (λ done. done ≡ true → EndsJoin about old.management new.management old.world new.world × (new.candidate ≡ Nobody))
  pub idle : IfOk given (λ done. done ≡ false → EndsNoJoin about old.management old.world × AllSame old new)
  pub candidate : OnErr given (new.candidate ≡ old.candidate)
  pub world : OnErr given (new.world ≡ old.world)
  pub manager : OnErr given (new.management.manager ≡ old.management.manager)
  pub unchanged : IfErr given (λ r. (IsOfDevice r → ⊥) → (new.management ≡ old.management) ⊎ HasOnlyRecorded old.management new.management old.world)
  pub device : IfErr given (λ r. IsOfDevice r → new.management.config
      ≡ record old.management.config { pair = record old.management.config.pair { is_closed = new.management.config.pair.is_closed; broken = true } })
  pub told : IfErr given IsOfRecording
  pub cause : HasCause (failures_of old.management.disk) (failures_of new.management.disk) given
  pub untouched : old.management.config.pair.broken ≡ true → (new.management.config ≡ old.management.config) × (new.management.disk ≡ old.management.disk)
  pub attempted : IfErr given (λ r. IsOfDevice r → (next : Record) → old.world.chain.writing ≡ Some next → old.management.config.current.epoch ≢ next.epoch)
  pub settled : IsSettledConfig old.management.config (given_of old.management.disk) (may_be_left old.management.disk)
      → OnOk given (IsSettledConfig new.management.config (given_of new.management.disk) (may_be_left new.management.disk))
  pub settled_still : IsSettledConfig old.management.config (given_of old.management.disk) (may_be_left old.management.disk)
      → IfErr given (λ r. (IsOfDevice r → ⊥) → IsSettledConfig new.management.config (given_of new.management.disk) (may_be_left new.management.disk))
  pub any_moment : IsSettledConfig old.management.config (given_of old.management.disk) (may_be_left old.management.disk)
      → LeavesOnly moment_of left_since old.management.disk new.management.disk (λ c. HoldsRecord old.management.config.current (inside old.management.config.pair.part c)
      ⊎ HoldsWritten old.world.chain.writing (inside old.management.config.pair.part c))

-- with the disk that was counted, if one was
abbrev pub EndsNext : {S : Type 0} → (S → About) → Result Bool config.Refusal → Managed S → Managed S → Type 0
EndsNext about given old new = ((is_counted old.candidate ≡ true) × EndsWithJoiner about given old new) ⊎ ((is_counted old.candidate ≡ false) × EndsRecord given old new)

-- A slot is counted no longer; or that isn't the next order, or somebody is recorded there.
pub record CountsSlotOut {S : Type 0} (done : Bool) (old new : Managed S) : Type 0 where
  pub candidate : new.candidate ≡ old.candidate
  pub out : done ≡ true → CountsOut old.management new.management old.world new.world
  pub idle : done ≡ false → CountsNone old.management old.world × IsSame old new

-- A member was told the record, if it could be; or nobody is to be told.
pub record TellsRecord {S : Type 0} (given : Option Told) (old new : Managed S) : Type 0 where
  pub candidate : new.candidate ≡ old.candidate
  pub told : IfSome given (λ told. TellsNext told old.management new.management old.world new.world)
  pub idle : IfNone given (TellsNobody old.management × IsSame old new)

-- The manager noted who has stopped, and began the joining of a disk at the slot; or it refuses it, by the first test that fails.
pub record Joins {S : Type 0} (slot : ℕ) (given : Result (Unit {0}) manager.Refusal) (old new : Managed S) : Type 0 where
  pub candidate : new.candidate ≡ old.candidate
  pub world : new.world ≡ old.world
  pub done : OnOk given (new.management ≡ record old.management { manager = joining_of slot (noted old.world.chain old.management.manager) })
  pub ok : IsOk given → why_no_joining slot (noted old.world.chain old.management.manager) ≡ None
  pub refused : IfErr given (λ e. e ≢ managers.Memory → why_no_joining slot (noted old.world.chain old.management.manager) ≡ Some e)
  pub memory : IsErrOf given managers.Memory → why_no_joining slot (noted old.world.chain old.management.manager) ≡ None
  pub only_noted : OnErr given (new.management ≡ record old.management { manager = noted old.world.chain old.management.manager })

-- The member at the place, which was removed, was forgotten, while no disk was on its way; or there is none, or it may not be, and nothing
-- changed.
pub record Forgets {S : Type 0} (at : ℕ) (done : Bool) (old new : Managed S) : Type 0 where
  pub candidate : new.candidate ≡ old.candidate
  pub management : new.management ≡ old.management
  pub forgotten : done ≡ true → (old.candidate ≡ Nobody) × ((store : S) × MayForget at old.world × HasForgotten at store old.world new.world)
  pub idle : done ≡ false → ((length old.world.chain.members ≤ at) ⊎ ((old.candidate ≢ Nobody) ⊎ (MayForget at old.world → ⊥))) × (new.world ≡ old.world)

-- A new disk is attached, if that is the next order, and its copy begins; or memory ran out, and nothing changed; or it refuses.
pub record AttachesNew {S : Type 0} (given : Result Bool stores.Refusal) (old new : Managed S) : Type 0 where
  pub world : new.world ≡ old.world
  pub attaches : ((given ≡ Err store_refusals.Memory) × AllSame old new) ⊎ Attaches given old.candidate new.candidate old.management new.management old.world
  pub begins : (slot : ℕ) → next_of old.management.manager ≡ orders.Attach slot → (volume : List ℕ) → length volume ≡ bytes_of old.world.chain
      → IfOk given (λ done. done ≡ true → BeginsAt given_of may_be_left slot old.world.chain volume new.candidate)

-- where it refused, it has failed since, unless it had no memory
abbrev pub HasCausedIt : {S : Type 0} → Result Gave stores.Refusal → Managed S → Managed S → Type 0
HasCausedIt given old new = IfErr given (λ e. LedOn (λ was now. IsCaused (failures_of was) (failures_of now) e) old.candidate new.candidate)

-- Who joined was given up, and behind the disks outside stands what is left of the disk on its way, and of who joined.
pub record LeavesAside {S : Type 0} (about : S → About) (may_leave_now : S → List ℕ → Type 0) (old new : Managed S) : Type 0 where
  pub store : Option S
  pub given_up : GivesUp store old.world new.world
  pub on_its_way : Option (SlotDisk MemDisk)
  pub joined : Option (SlotDisk MemDisk)
  pub set_aside : IsSetAside about may_leave_now (suc old.world.chain.recorded.epoch) old.candidate on_its_way
  pub left : IsStoreLeft about may_leave_now (suc old.world.chain.recorded.epoch) store joined
  pub are : new.outside ≡ (old.outside ++ option_to_list on_its_way) ++ option_to_list joined

-- The joining under way was abandoned: nobody joins any more, and its disk stands outside; or it is refused, and nothing changed.
pub record Abandons {S : Type 0} (about : S → About) (may_leave_now : S → List ℕ → Type 0) (given : Result (Unit {0}) manager.Refusal) (old new : Managed S) : Type 0 where
  pub done : OnOk given (new.management ≡ record old.management { manager = abandoned old.management.manager })
  pub nobody : OnOk given (new.candidate ≡ Nobody)
  pub aside : OnOk given (LeavesAside about may_leave_now old new)
  pub ok : IsOk given → why_no_abandoning old.management.manager ≡ None
  pub refused : IfErr given (λ e. e ≢ managers.Memory → why_no_abandoning old.management.manager ≡ Some e)
  pub memory : IsErrOf given managers.Memory → why_no_abandoning old.management.manager ≡ None
  pub unchanged : OnErr given (AllSame old new)
  pub outside : OnErr given (new.outside ≡ old.outside)

-- The script of the configuration's disk has one more event, unless memory ran out.
pub record ArmsConfig {S : Type 0} (event : Event) (given : Result (Unit {0}) AllocError) (old new : Managed S) : Type 0 where
  pub candidate : new.candidate ≡ old.candidate
  pub ok : OnOk given (script_of new.management.disk ≡ script_of old.management.disk ++ counted_from (calls_of old.management.disk) event ∷ [])
  pub err : OnErr given (script_of new.management.disk ≡ script_of old.management.disk)
  pub stays : IsAsBefore old.management.disk new.management.disk
  pub leaves : NothingNew (may_be_left old.management.disk) (may_be_left new.management.disk)
  pub manager : new.management.manager ≡ old.management.manager
  pub config : new.management.config ≡ old.management.config
  pub world : new.world ≡ old.world

-- ---- of stores

module _ {S : Type 0} (premise : Type 0) (about : S → About) (keeps : S → List ℕ → Type 0) (is_pending : S → ℕ → Type 0) (may_leave_now : S → List ℕ → Type 0) (moment : S → ℕ)
    (left_since : S → ℕ → List ℕ → Type 0) (failures : S → ℕ) where
  -- The first demand of the member's sessions was taken; or none waited.
  pub record TakesFirst (at : ℕ) (given : Option Told) (old new : Seen S) : Type 0 where
    pub taken : IfSome given (λ told. Takes premise about failures keeps moment left_since at told old new)
    pub none : IfNone given ((slice_get old.queues at ≡ Some []) × (new ≡ old))
    pub any_moment : premise → IfSome given (λ told. LeavesAt about keeps may_leave_now moment left_since at old.chain new.chain)

  -- The member went on with the front that it looked up; or it keeps none, or has stopped.
  pub record AnswersFront (at : ℕ) (given : Option Told) (old new : Seen S) : Type 0 where
    pub answered : AnswersOr given old new (λ replies old new. Changes at old new (HasAnswered premise about failures keeps moment left_since replies)) (λ old new. RestsAt at old new ⊎ LacksAt at old new HasNoLooked)
    pub any_moment : premise → LeavesAt about keeps may_leave_now moment left_since at old.chain new.chain

  -- The member ended the commit under way; or none is, or it has stopped.
  pub record EndsCommit (at : ℕ) (given : Option Told) (old new : Seen S) : Type 0 where
    pub ended : AnswersOr given old new (λ replies old new. Changes at old new (HasEndedCommit premise about is_pending failures keeps replies)) (λ old new. RestsAt at old new ⊎ LacksAt at old new HasNoCommit)
    pub any_moment : premise → EndsAt about keeps may_leave_now moment left_since at old.chain new.chain

  -- The store wrote its next pending block home, whose number is given; or the member has stopped.
  pub record Ticks (at : ℕ) (given : Result (Told × Option ℕ) Refusal) (old new : Seen S) : Type 0 where
    pub done : IfOk given (λ r. Answers r.0 old new (λ replies old new. Changes at old new (HasCalled (λ old new out. HasTicked premise about is_pending failures keeps old new out r.1) replies)))
    pub refused : IfErr given (λ r. (r ≡ refusals.Stopped) × Moves old new (RestsAt at))
    pub any_moment : premise → LeavesAt about keeps may_leave_now moment left_since at old.chain new.chain

  -- The store wrote all its pending blocks home; or it has no number left for that; or the member has stopped.
  pub record Checkpoints (at : ℕ) (given : Result Told Refusal) (old new : Seen S) : Type 0 where
    pub done : IfOk given (λ told. Answers told old new (λ replies old new. Changes at old new (HasCalled (HasCheckpointed premise about is_pending failures keeps) replies)))
    pub full : IsErrOf given refusals.Full ↔ IsUsedUpAt about at old.chain
    pub refused : IfErr given (λ r. ((r ≡ refusals.Full) × Moves old new (λ old new. Changes at old new (HasNoNumber about is_pending keeps)))
        ⊎ ((r ≡ refusals.Stopped) × Moves old new (RestsAt at)))
    pub any_moment : premise → LeavesAt about keeps may_leave_now moment left_since at old.chain new.chain

  -- The member began a commit of at most so many writes; or it isn't the turn of one; or no group fits; or it has stopped.
  pub record BeginsCommits (at most : ℕ) (given : Result (Option Told) Refusal) (old new : Seen S) : Type 0 where
    pub done : IfOk given (λ begun. AnswersOr begun old new (λ replies old new. Changes at old new (HasCalled (HasBegunCommits premise about failures keeps moment left_since most) replies)) (λ old new. LacksAt at old new IsOutOfTurn))
    pub refused : IfErr given (λ r. ((r ≡ refusals.Full) × Moves old new (λ old new. Changes at old new (HasNoGroup premise about failures keeps moment left_since most)))
        ⊎ ((r ≡ refusals.Stopped) × Moves old new (RestsAt at)))
    pub any_moment : premise → LeavesAt about keeps may_leave_now moment left_since at old.chain new.chain

  -- ---- of a disk on its way

  -- The disk was given the next block, or not.
  pub record CopiesNext (given : Result Gave stores.Refusal) (old new : Managed S) : Type 0 where
    pub copies : Copies premise about failures keeps moment left_since given old.candidate new.candidate old.management new.management old.world new.world
    pub cause : HasCausedIt given old new

  -- It was given the next block of the rest, or the end, or not.
  pub record GivesRest (given : Result Gave stores.Refusal) (old new : Managed S) : Type 0 where
    pub rests : Rests premise about failures keeps moment left_since given old.candidate new.candidate old.management new.management old.world new.world
    pub cause : HasCausedIt given old new

-- ---- of scripts

-- The event is one more in the script of the member's disk; or memory ran out, and the script is as it was.
pub record Arms {S : Type 0} (about : S → About) (keeps : S → List ℕ → Type 0) (is_pending : S → ℕ → Type 0) (may_leave_now : S → List ℕ → Type 0) (failures : S → ℕ) (disk : S → MemDisk)
    (at : ℕ) (event : Event) (given : Result (Unit {0}) AllocError) (old new : Seen S) : Type 0 where
  pub ok : OnOk given (Moves old new (λ old new. Changes at old new (HasNewScript disk event)))
  pub err : OnErr given (Moves old new (λ old new. Changes at old new (HasOldScript disk)))
  pub armed : Moves old new (λ old new. Changes at old new (HasArmed (IsAsItWas about keeps is_pending may_leave_now failures)))
