-- Whose disks a chain's members have, of which sizes, and which record is recorded: no step of a world changes that. Lemmas.
use Rattle.std.proofs.Common.{◌≡◌, ℕ, zero, suc, Bool, true, false, List, [], ◌∷◌, length, map, refl, ap, sym, subst, ◌∙◌, inl, inr, arith}
use Rattle.std.specs.Prelude.{◌⊎◌, ◌≢◌, Option, None, Some, Result, Ok, Err, IfNone, IfSome, slice_get, slice_set}
use Rattle.std.proofs.lemmas.Bool.{cases_lt}
use Rattle.chain.specs.Asking.{HasSubmitted, IsTurnedAway, IsUnreadAt}
use Rattle.chain.specs.Chain.{Chained, Changes, RestsAt}
use Rattle.chain.specs.Commits.{HasBegunCommits, HasCheckpointed, HasTicked, PostsAt}
use Rattle.chain.specs.Fronts.{HasKnown, MayNotRaise, RaisesAt}
use Rattle.chain.specs.Member.{Linked}
use Rattle.chain.specs.Musters.{LacksAt}
use Rattle.chain.specs.Passing.{HasNone, IsItself, MessageComes, MessageHalts, SubmitComes}
use Rattle.chain_core.specs.Commits.{HasEnded, HasRunOut, HasStoppedBy, HasWorked}
use Rattle.chain_core.specs.Node as core
use Rattle.chain_core.specs.Node.{IsRefusedBy, IsStep, IsStepOrStop}
use Rattle.chain_core.specs.Reads.{HasBrokenOff, HasOnlyRead}
use Rattle.chain_core.specs.declared.refusal.Refusal.{Refusal}
use Rattle.chain_core.specs.declared.refusal.Refusal.TheVariants as refusals
use Rattle.chain_steps.specs.Node.{Commit, Out, Stepped}
use Rattle.chain_steps.specs.Steps.{raised as raised_step, stop, submit}
use Rattle.chain_steps.specs.declared.message.Envelope.{Envelope}
use Rattle.chain_steps.specs.declared.waiting.WriteToken.{WriteToken}
use Rattle.chain_steps.specs.declared.waiting.WriteToken.TheVariants as tokens
use Rattle.disk_model.specs.declared.error.DiskError.{DiskError}
use Rattle.disk_model.specs.declared.error.DiskError.TheVariants.{ReadFault}
use Rattle.flush_barrier.specs.Reply.{GivenReply}
use Rattle.flush_barrier.specs.declared.session_id.SessionId.{SessionId}
use Rattle.gate_journal.specs.Receipt.{Receipt}
use Rattle.local_store.specs.About.{About, one_checkpoint_more}
use Rattle.nbd_session.specs.declared.demand.Demand.{Demand}
use Rattle.nbd_session.specs.declared.demand.Demand.TheVariants as demands
use Rattle.nbd_session.specs.declared.refusal.Refusal as sessions
use Rattle.std.specs.declared.alloc.AllocError.{AllocError}
use Rattle.volume.specs.Writes.{Placed}
use Rattle.volume.specs.declared.geometry.Geometry.{Geometry}
use Rattle.world.specs.Taking.{HasRefused, HasTaken, Takes}
use Rattle.world.specs.World.{Seen}
use Rattle.world.specs.declared.told.Told.{Told}
use Rattle.life.specs.Calls.{AnswersOr, BeginsCommits, Checkpoints, Comes, Connects, EndsCommit, EndsInput, MovesOr, TakesFirst, TakesIn, Ticks}
use Rattle.life.specs.Does.{Acts, BeginsSome, Does, IsAtMember}
use Rattle.life.specs.declared.answer.Answer.{Answer}
use Rattle.life.specs.declared.step.Act.{Act}
use Rattle.life.specs.declared.step.Act.TheVariants as acts
use Rattle.life.specs.declared.step.Step.{Step}
use Rattle.life.specs.declared.step.Step.TheVariants as steps

-- an item becomes one that f takes for the same
pub map_set : {A B : Type 0} (f : A → B) (xs : List A) (at : ℕ) (x y : A) → slice_get xs at ≡ Some x → f y ≡ f x → map f (slice_set xs at y) ≡ map f xs
map_set f [] at x y here same = let none : None ≡ Some x = here in absurd (cc)
map_set f (a ∷ xs) zero x y here same = let some : Some a ≡ Some x = here in let is : a ≡ x = cc some in ap (λ b. b ∷ map f xs) (same ∙ ap f (sym is))
map_set f (a ∷ xs) (suc k) x y here same = ap (λ l. f a ∷ l) (map_set f xs k x y here same)

-- whose disk a store's is, and its sizes
abbrev pub own : About → ℕ × Geometry
own about = (about.incarnation, about.geometry)

module _ {S : Type 0} (about : S → About) where
  abbrev pub own_of : Linked S → ℕ × Geometry
  own_of m = own (about m.node.store)

  -- the chain has the same sizes, its members the same disks, and the same record is recorded and being written
  pub record StayOwn (old new : Chained S) : Type 0 where
    pub geometry : new.geometry ≡ old.geometry
    pub owners : map own_of new.members ≡ map own_of old.members
    pub recorded : new.recorded ≡ old.recorded
    pub writing : new.writing ≡ old.writing

  pub stay_still : (c : Chained S) → StayOwn c c
  stay_still c = record { geometry = refl; owners = refl; recorded = refl; writing = refl }

  -- whatever becomes of the record, its sizes and its members' disks stay
  pub record KeepOwn (old new : Chained S) : Type 0 where
    pub geometry : new.geometry ≡ old.geometry
    pub owners : map own_of new.members ≡ map own_of old.members

  pub keep_still : (c : Chained S) → KeepOwn c c
  keep_still c = record { geometry = refl; owners = refl }

  pub keep_then : (a b c : Chained S) → KeepOwn a b → KeepOwn b c → KeepOwn a c
  keep_then a b c one two = record { geometry = two.geometry ∙ one.geometry; owners = two.owners ∙ one.owners }

  pub they_keep : (old new : Chained S) → StayOwn old new → KeepOwn old new
  they_keep old new stay = record { geometry = stay.geometry; owners = stay.owners }

  pub stay_same : (old new : Chained S) → new ≡ old → StayOwn old new
  stay_same old new same = subst (StayOwn old) (sym same) (stay_still old)

  pub stay_changed : (at : ℕ) (old new : Chained S) (Did : Linked S → Linked S → Type 0) → Changes at old new Did → ((m n : Linked S) → Did m n → own_of n ≡ own_of m) → StayOwn old new
  stay_changed at old new Did changes same = record {
    geometry = ap (λ c. c.geometry) changes.are;
    recorded = ap (λ c. c.recorded) changes.are;
    writing = ap (λ c. c.writing) changes.are;
    owners = ap (λ c. map own_of c.members) changes.are ∙ map_set own_of old.members at changes.before changes.after changes.here (same changes.before changes.after changes.did);
  }

  -- ---- what a member does

  -- the store tells the same, or that it is broken
  told_same : (old new : S) → about new ≡ about old → own (about new) ≡ own (about old)
  told_same old new same = ap own same

  told_broken : (old new : S) → about new ≡ record (about old) { broken = true } → own (about new) ≡ own (about old)
  told_broken old new broken = ap own broken

  stopped_by : (failures : S → ℕ) (Tells : DiskError → Type 0) (old new : core.Seen S) (out : Out) → HasStoppedBy about failures Tells old new out → own (about new.store) ≡ own (about old.store)
  stopped_by failures Tells old new out by = told_broken old.store new.store by.broken

  one_step : (old new : core.Seen S) (out : Out) (stepped : Stepped) → IsStep old new out stepped → own (about new.store) ≡ own (about old.store)
  one_step old new out stepped is = ap (λ n. own (about n.store)) is.node

  step_or_stop : (old new : core.Seen S) (out : Out) (stepped : Stepped) → IsStepOrStop old new out stepped → own (about new.store) ≡ own (about old.store)
  step_or_stop old new out stepped (inl is) = ap (λ n. own (about n.store)) is.node
  step_or_stop old new out stepped (inr is) = ap (λ n. own (about n.store)) is.node

  refused_by : (Stops : Type 0) (stepped : Stepped) (old new : core.Seen S) (replies : List GivenReply) (refusal : Refusal) → IsRefusedBy Stops stepped old new replies refusal → own (about new.store) ≡ own (about old.store)
  refused_by Stops stepped old new replies refusals.Memory is = ap (λ n. own (about n.store)) is.1.node
  refused_by Stops stepped old new replies refusals.NotMember is = ap (λ n. own (about n.store)) is.1.node
  refused_by Stops stepped old new replies refusals.Stopped (inl is) = ap (λ n. own (about n.store)) is.1.node
  refused_by Stops stepped old new replies refusals.Stopped (inr (ran, may, is)) = ap (λ n. own (about n.store)) is.node
  refused_by Stops stepped old new replies refusals.Full is = absurd is
  refused_by Stops stepped old new replies refusals.Early is = absurd is
  refused_by Stops stepped old new replies refusals.Busy is = absurd is

  turned_away : (Stops : Type 0) (stepped : Stepped) (replies : List GivenReply) (refusal : Refusal) (m n : Linked S) → IsTurnedAway Stops stepped replies refusal m n → own_of n ≡ own_of m
  turned_away Stops stepped replies refusal m n (inl (refused, are)) = refused_by Stops stepped m.node n.node replies refusal refused
  turned_away Stops stepped replies refusal m n (inr cannot) = ap own_of cannot.same

  -- ---- messages

  halts : (links_of : Chained S → List (List Envelope)) (from at : ℕ) (old new : Chained S) (replies : List GivenReply) → MessageHalts links_of from at old new replies → StayOwn old new
  halts links_of from at old new replies is = record {
    geometry = ap (λ c. c.geometry) is.are;
    recorded = ap (λ c. c.recorded) is.are;
    writing = ap (λ c. c.writing) is.are;
    owners = ap (λ c. map own_of c.members) is.are
        ∙ map_set own_of old.members at is.before (record is.before { node = record { store = is.before.node.store; state = (stop is.cause is.before.node.state).node } }) is.here refl;
  }

  message_stays : (from at : ℕ) (old new : Chained S) (replies : List GivenReply) → MessageComes from at old new replies → StayOwn old new
  message_stays from at old new replies (inl is) = record {
    geometry = ap (λ c. c.geometry) is.are;
    recorded = ap (λ c. c.recorded) is.are;
    writing = ap (λ c. c.writing) is.are;
    owners = ap (λ c. map own_of c.members) is.are
        ∙ map_set own_of old.members at is.before (record is.before { node = record { store = is.before.node.store; state = is.stepped.node } }) is.here refl;
  }
  message_stays from at old new replies (inr is) = halts (λ c. c.links) from at old new replies is

  submit_stays : (from at : ℕ) (old new : Chained S) (replies : List GivenReply) → SubmitComes from at old new replies → StayOwn old new
  submit_stays from at old new replies (inl is) = record {
    geometry = ap (λ c. c.geometry) is.are;
    recorded = ap (λ c. c.recorded) is.are;
    writing = ap (λ c. c.writing) is.are;
    owners = ap (λ c. map own_of c.members) is.are
        ∙ map_set own_of old.members at is.before (record is.before { node = record { store = is.before.node.store; state = is.stepped.node } }) is.here refl;
  }
  submit_stays from at old new replies (inr is) = halts (λ c. c.submits) from at old new replies is

  submitted : (at : ℕ) (token : WriteToken) (write : Placed) (old new : Chained S) → HasSubmitted at token write old new → StayOwn old new
  submitted at token write old new is = record {
    geometry = ap (λ c. c.geometry) is.are;
    recorded = ap (λ c. c.recorded) is.are;
    writing = ap (λ c. c.writing) is.are;
    owners = ap (λ c. map own_of c.members) is.are
        ∙ map_set own_of old.members at is.before (record is.before { node = record { store = is.before.node.store; state = (submit token write is.before.node.state).node } }) is.here refl;
  }

  known : (at : ℕ) (replies : List GivenReply) (old new : Chained S) → HasKnown at replies old new → StayOwn old new
  known at replies old new is = record {
    geometry = ap (λ c. c.geometry) is.are;
    recorded = ap (λ c. c.recorded) is.are;
    writing = ap (λ c. c.writing) is.are;
    owners = ap (λ c. map own_of c.members) is.are
        ∙ map_set own_of old.members at is.before (record is.before { node = is.node }) is.here (step_or_stop is.before.node is.node is.out (raised_step is.before.node.state) is.did);
  }

  -- ---- calls of a chain

  moves_or : (taken : Bool) (old new : Seen S) (Did Idle : Chained S → Chained S → Type 0) → MovesOr taken old new Did Idle
      → (Did old.chain new.chain → StayOwn old.chain new.chain) → (Idle old.chain new.chain → StayOwn old.chain new.chain) → StayOwn old.chain new.chain
  moves_or true old new Did Idle is did idle = did (is.did refl).did
  moves_or false old new Did Idle is did idle = idle (is.idle refl).did

  answers_or : (given : Option Told) (old new : Seen S) (Did : List GivenReply → Chained S → Chained S → Type 0) (Idle : Chained S → Chained S → Type 0) → AnswersOr given old new Did Idle
      → ((replies : List GivenReply) → Did replies old.chain new.chain → StayOwn old.chain new.chain) → (Idle old.chain new.chain → StayOwn old.chain new.chain) → StayOwn old.chain new.chain
  answers_or (Some told) old new Did Idle is did idle = did is.did.replies is.did.did
  answers_or None old new Did Idle is did idle = idle is.idle.did

  comes_or : (links_of : Chained S → List (List Envelope)) (from at : ℕ) (given : Result (Option Told) Refusal) (old new : Seen S) (Idle : Chained S → Chained S → Type 0) (Did : List GivenReply → Chained S → Chained S → Type 0)
      → Comes links_of from at given old new Idle Did → ((replies : List GivenReply) → Did replies old.chain new.chain → StayOwn old.chain new.chain) → (Idle old.chain new.chain → StayOwn old.chain new.chain) → StayOwn old.chain new.chain
  comes_or links_of from at (Ok (Some told)) old new Idle Did is did idle = did is.taken.replies is.taken.did
  comes_or links_of from at (Ok None) old new Idle Did is did idle = idle is.none.did
  comes_or links_of from at (Err refusal) old new Idle Did is did idle = stay_same old.chain new.chain is.refused.did.same

  none_came : (from at : ℕ) (old new : Chained S) → HasNone (λ c. c.links) from at old new ⊎ IsItself from at old new → StayOwn old new
  none_came from at old new (inl is) = stay_same old new is.same
  none_came from at old new (inr is) = stay_same old new is.same

  rests : (at : ℕ) (old new : Chained S) → RestsAt at old new → StayOwn old new
  rests at old new is = stay_same old new is.same

  lacks : (at : ℕ) (old new : Chained S) (Lacks : Linked S → Type 0) → RestsAt at old new ⊎ LacksAt at old new Lacks → StayOwn old new
  lacks at old new Lacks (inl is) = stay_same old new is.same
  lacks at old new Lacks (inr is) = stay_same old new is.same

  raises : (at : ℕ) (old new : Chained S) → RaisesAt at old new → StayOwn old new
  raises at old new is = record {
    geometry = ap (λ c. c.geometry) is.are;
    recorded = ap (λ c. c.recorded) is.are;
    writing = ap (λ c. c.writing) is.are;
    owners = ap (λ c. map own_of c.members) is.are ∙ map_set own_of old.members at is.before is.after is.here (ap own_of is.did.are);
  }

  may_not : (at : ℕ) (old new : Chained S) → LacksAt at old new MayNotRaise ⊎ RestsAt at old new → StayOwn old new
  may_not at old new (inl is) = stay_same old new is.same
  may_not at old new (inr is) = stay_same old new is.same

  posts : (at : ℕ) (old new : Chained S) → PostsAt at old new → StayOwn old new
  posts at old new is = record {
    geometry = ap (λ c. c.geometry) is.are;
    recorded = ap (λ c. c.recorded) is.are;
    writing = ap (λ c. c.writing) is.are;
    owners = ap (λ c. map own_of c.members) is.are ∙ map_set own_of old.members at is.member (record is.member { receipt = None }) is.here refl;
  }

  module _ (premise : Type 0) (keeps : S → List ℕ → Type 0) (is_pending : S → ℕ → Type 0) (may_leave_now : S → List ℕ → Type 0) (moment : S → ℕ) (left_since : S → ℕ → List ℕ → Type 0) (failures : S → ℕ) where
    -- ---- demands

    taken : (at : ℕ) (demand : Demand) (replies : List GivenReply) (old new : Chained S) → HasTaken premise about keeps moment left_since at demand replies old new → StayOwn old new
    taken at (demands.Read token offset len) replies old new did = stay_changed at old new _ did (λ m n is. ap own is.did.tells)
    taken at (demands.Write token write) replies old new (did, none) = submitted at (tokens.Plain token) write old new did
    taken at (demands.Fua token write) replies old new (did, none) = submitted at (tokens.Fua token) write old new did
    taken at (demands.Flush token) replies old new (did, none) = stay_changed at old new _ did (λ m n is. ap own_of is.are)

    unread : (offset len : ℕ) (replies : List GivenReply) (refusal : Refusal) (m n : Linked S) → IsUnreadAt premise about failures keeps moment left_since offset len replies refusal m n → own_of n ≡ own_of m
    unread offset len replies refusal m n (inl refused, are) = refused_by ⊥ _ m.node n.node replies refusal refused
    unread offset len replies refusal m n (inr (inl (memory, away, reads, vain)), are) = ap own vain.store.tells
    unread offset len replies refusal m n (inr (inr (stopped, away, reads, broken)), are) = ap own broken.failed.broken

    refused : (at : ℕ) (demand : Demand) (others : List GivenReply) (refusal : Refusal) (old new : Chained S) → HasRefused premise about failures keeps moment left_since at demand others refusal old new → StayOwn old new
    refused at (demands.Read token offset len) others refusal old new did = stay_changed at old new _ did (unread offset len others refusal)
    refused at (demands.Write token write) others refusal old new did = stay_changed at old new _ did (λ m n is. turned_away _ _ others refusal m n is)
    refused at (demands.Fua token write) others refusal old new did = stay_changed at old new _ did (λ m n is. turned_away _ _ others refusal m n is)
    refused at (demands.Flush token) others refusal old new did = stay_changed at old new _ did (λ m n is. turned_away _ _ others refusal m n is)

    takes : (at : ℕ) (told : Told) (old new : Seen S) → Takes premise about failures keeps moment left_since at told old new → StayOwn old.chain new.chain
    takes at told old new is = elim is.did [
      | inl did ↦ taken at is.demand is.replies old.chain new.chain did
      | inr (others, refusal, did, plea, replies) ↦ refused at is.demand others refusal old.chain new.chain did
    ]

    take_first : (at : ℕ) (given : Option Told) (old new : Seen S) → TakesFirst premise about keeps is_pending may_leave_now moment left_since failures at given old new → StayOwn old.chain new.chain
    take_first at (Some told) old new is = takes at told old new is.taken
    take_first at None old new is = stay_same old.chain new.chain (ap (λ w. w.chain) is.none.1)

    -- ---- stores

    front_answered : (m n : Linked S) (out : Out) (Is : Type 0) → (HasOnlyRead premise about failures keeps moment left_since m.node.store n.node.store × Is) ⊎ HasBrokenOff about failures m.node n.node out → own_of n ≡ own_of m
    front_answered m n out Is (inl (read, is)) = ap own read.tells
    front_answered m n out Is (inr broken) = ap own broken.failed.broken

    ended : (commit : Option Commit) (given : Option Receipt) (old new : core.Seen S) (out : Out) → (commit ≡ None → ⊥)
        → IfSome commit (λ commit. IfSome given (HasEnded about old new out commit))
        → IfSome commit (λ commit. IfNone given (HasRunOut about old new out ⊎ HasStoppedBy about failures (λ error. error ≢ ReadFault) old new out))
        → own (about new.store) ≡ own (about old.store)
    ended None given old new out had did stopped = absurd (had refl)
    ended (Some commit) (Some receipt) old new out had did stopped = ap own did.tells
    ended (Some commit) None old new out had did (inl by) = ap own by.tells
    ended (Some commit) None old new out had did (inr by) = ap own by.broken

    end_commit : (at : ℕ) (given : Option Told) (old new : Seen S) → EndsCommit premise about keeps is_pending may_leave_now moment left_since failures at given old new → StayOwn old.chain new.chain
    end_commit at given old new is = answers_or given old new _ _ is.ended
        (λ replies did. stay_changed at old.chain new.chain _ did (λ m n so. ended m.node.state.commit so.given m.node n.node so.out so.had so.ended so.stopped)) (lacks at old.chain new.chain _)

    worked_or : (tells : About) (old new : core.Seen S) (out : Out) (failures : S → ℕ) (Tells : DiskError → Type 0) → own tells ≡ own (about old.store) → HasWorked about tells old new out ⊎ HasStoppedBy about failures Tells old new out
        → own (about new.store) ≡ own (about old.store)
    worked_or tells old new out failures Tells same (inl is) = ap own is.tells_so ∙ same
    worked_or tells old new out failures Tells same (inr by) = ap own by.broken

    ticked : (old new : core.Seen S) (out : Out) (given : Option ℕ) → HasTicked premise about is_pending failures keeps old new out given → own (about new.store) ≡ own (about old.store)
    ticked old new out given is = elim is.worked [ inl did ↦ ap own did.tells_so | inr (none, by) ↦ ap own by.broken ]

    tick : (at : ℕ) (given : Result (Told × Option ℕ) Refusal) (old new : Seen S) → Ticks premise about keeps is_pending may_leave_now moment left_since failures at given old new → StayOwn old.chain new.chain
    tick at (Ok (told, home)) old new is = stay_changed at old.chain new.chain _ is.done.did (λ m n so. ticked m.node n.node so.out home so.did)
    tick at (Err refusal) old new is = rests at old.chain new.chain is.refused.1.did

    checkpointed : (old new : core.Seen S) (out : Out) → HasCheckpointed premise about is_pending failures keeps old new out → own (about new.store) ≡ own (about old.store)
    checkpointed old new out is = worked_or (one_checkpoint_more (about old.store)) old new out failures _ refl is.worked

    checkpoint : (at : ℕ) (given : Result Told Refusal) (old new : Seen S) → Checkpoints premise about keeps is_pending may_leave_now moment left_since failures at given old new → StayOwn old.chain new.chain
    checkpoint at (Ok told) old new is = stay_changed at old.chain new.chain _ is.done.did (λ m n so. checkpointed m.node n.node so.out so.did)
    checkpoint at (Err refusal) old new is = elim is.refused [
      | inl (full, moves) ↦ stay_changed at old.chain new.chain _ moves.did (λ m n so. ap own so.tells)
      | inr (stopped, moves) ↦ rests at old.chain new.chain moves.did
    ]

    begun : (most : ℕ) (old new : core.Seen S) (out : Out) → HasBegunCommits premise about failures keeps moment left_since most old new out → own (about new.store) ≡ own (about old.store)
    begun most old new out is = elim is.worked [
      | inl did ↦ ap own did.only_read.tells
      | inr (inl by) ↦ ap own by.tells
      | inr (inr by) ↦ ap own by.broken
    ]

    begin_commits : (at most : ℕ) (given : Result (Option Told) Refusal) (old new : Seen S) → BeginsCommits premise about keeps is_pending may_leave_now moment left_since failures at most given old new → StayOwn old.chain new.chain
    begin_commits at most (Ok given) old new is = answers_or given old new _ _ is.done
        (λ replies did. stay_changed at old.chain new.chain _ did (λ m n so. begun most m.node n.node so.out so.did)) (λ lacks. stay_same old.chain new.chain lacks.same)
    begin_commits at most (Err refusal) old new is = elim is.refused [
      | inl (full, moves) ↦ stay_changed at old.chain new.chain _ moves.did (λ m n so. ap own so.only_read.tells)
      | inr (stopped, moves) ↦ rests at old.chain new.chain moves.did
    ]

    -- ---- a step

    begin_some : (at most : ℕ) (answer : Answer) (old new : Seen S) → BeginsSome premise about keeps is_pending may_leave_now moment left_since failures at most answer old new → StayOwn old.chain new.chain
    begin_some at most answer old new is = elim (cases_lt 0 most) [
      | inl positive ↦ let (given, tells, did) = is.some positive in begin_commits at most given old new did
      | inr none ↦ stay_same old.chain new.chain (ap (λ w. w.chain) (is.none (omega (arith, none))).1)
    ]

    acts_stay : (act : Act) (at : ℕ) (answer : Answer) (old new : Seen S) → Acts premise about keeps is_pending may_leave_now moment left_since failures act at answer old new → StayOwn old.chain new.chain
    acts_stay acts.Take at answer old new (given, tells, did) = take_first at given old new did
    acts_stay (acts.Number from) at answer old new (given, tells, did) =
        comes_or _ _ _ given old new _ _ did (λ replies is. submit_stays from at old.chain new.chain replies is) (λ is. stay_same old.chain new.chain is.same)
    acts_stay (acts.Pass from) at answer old new (given, tells, did) =
        comes_or _ _ _ given old new _ _ did (λ replies is. message_stays from at old.chain new.chain replies is) (none_came from at old.chain new.chain)
    acts_stay acts.Look at answer old new (taken, tells, did) = moves_or taken old new _ _ did (λ is. stay_changed at old.chain new.chain _ is (λ m n so. ap own_of so.are)) (rests at old.chain new.chain)
    acts_stay acts.AnswerFront at answer old new (given, tells, did) =
        answers_or given old new _ _ did.answered (λ replies is. stay_changed at old.chain new.chain _ is (λ m n so. front_answered m n so.did.out _ so.did.did)) (lacks at old.chain new.chain _)
    acts_stay acts.Raise at answer old new (taken, tells, did) = moves_or taken old new _ _ did (raises at old.chain new.chain) (may_not at old.chain new.chain)
    acts_stay acts.Raised at answer old new (given, tells, did) = answers_or given old new _ _ did (λ replies is. known at replies old.chain new.chain is) (lacks at old.chain new.chain _)
    acts_stay acts.FindFront at answer old new (taken, tells, did) = moves_or taken old new _ _ did (λ is. stay_changed at old.chain new.chain _ is (λ m n so. ap own_of so.are)) (rests at old.chain new.chain)
    acts_stay acts.Crew at answer old new (taken, tells, did) = moves_or taken old new _ _ did (λ is. stay_changed at old.chain new.chain _ is (λ m n so. ap own_of so.are)) (lacks at old.chain new.chain _)
    acts_stay acts.Gauge at answer old new (taken, tells, did) = moves_or taken old new _ _ did (λ is. stay_changed at old.chain new.chain _ is (λ m n so. ap own_of so.are)) (lacks at old.chain new.chain _)
    acts_stay acts.Settle at answer old new (given, tells, did) =
        answers_or given old new _ _ did (λ replies is. stay_changed at old.chain new.chain _ is (λ m n so. step_or_stop m.node n.node so.out _ so.did)) (lacks at old.chain new.chain _)
    acts_stay (acts.BeginCommits most) at answer old new did = begin_some at most answer old new did
    acts_stay acts.EndCommit at answer old new (given, tells, did) = end_commit at given old new did
    acts_stay acts.Post at answer old new (taken, tells, did) = moves_or taken old new _ _ did (posts at old.chain new.chain) (λ is. stay_same old.chain new.chain is.same)
    acts_stay acts.Tick at answer old new (given, tells, did) = tick at given old new did
    acts_stay acts.Checkpoint at answer old new (given, tells, did) = checkpoint at given old new did
    acts_stay acts.Stop at answer old new (given, tells, did) = answers_or given old new _ _ did (λ replies is. stay_changed at old.chain new.chain _ is (λ m n so. ap own_of so.are)) (rests at old.chain new.chain)

    -- at a place that may be no member's
    pub at_place : (at : ℕ) (answer : Answer) (old new : Seen S) (Did : Type 0) → IsAtMember at answer old new Did → (Did → StayOwn old.chain new.chain) → StayOwn old.chain new.chain
    at_place at answer old new Did is did = elim (cases_lt at (length old.chain.members)) [
      | inl there ↦ did (is.member there)
      | inr beyond ↦ stay_same old.chain new.chain (ap (λ w. w.chain) (is.nobody beyond).1)
    ]

    connects : (id : SessionId) (at : ℕ) (given : Result Bool AllocError) (old new : Seen S) → Connects id at given old new → new.chain ≡ old.chain
    connects id at (Ok true) old new is = ap (λ w. w.chain) (is.begins refl).are
    connects id at (Ok false) old new is = ap (λ w. w.chain) (is.known refl).1
    connects id at (Err error) old new is = ap (λ w. w.chain) is.err

    pub takes_in : (id : SessionId) (piece : List ℕ) (given : Option (Result (Unit {0}) sessions.Refusal)) (old new : Seen S) → TakesIn id piece given old new → new.chain ≡ old.chain
    takes_in id piece None old new is = ap (λ w. w.chain) is.none.1
    takes_in id piece (Some (Ok fed)) old new is = ap (λ w. w.chain) is.fed.are
    takes_in id piece (Some (Err refusal)) old new is = ap (λ w. w.chain) is.err

    ends : (id : SessionId) (taken : Bool) (old new : Seen S) → EndsInput id taken old new → new.chain ≡ old.chain
    ends id true old new is = ap (λ w. w.chain) (is.ended refl).are
    ends id false old new is = ap (λ w. w.chain) (is.idle refl).1

    pub does_stay : (step : Step) (answer : Answer) (old new : Seen S) → Does premise about keeps is_pending may_leave_now moment left_since failures step answer old new → StayOwn old.chain new.chain
    does_stay (steps.Connect id at) answer old new is = at_place at answer old new _ is (λ (given, tells, did). stay_same old.chain new.chain (connects id at given old new did))
    does_stay (steps.Bytes id piece) answer old new (given, tells, did) = stay_same old.chain new.chain (takes_in id piece.items given old new did)
    does_stay (steps.End id) answer old new (taken, tells, did) = stay_same old.chain new.chain (ends id taken old new did)
    does_stay (steps.HandOut id) answer old new (given, tells, did) = stay_same old.chain new.chain (ap (λ w. w.chain) did.are)
    does_stay (steps.Member at act) answer old new is = at_place at answer old new _ is (acts_stay act at answer old new)
