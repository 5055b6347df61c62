-- THE HEADLINE. Whatever clients, members, the board and the manager do, which members are removed, which disks join, and wherever disks fail
-- or stop, with everything stopped again and again and each time one member's disk returned: clients see one volume, and what was answered with FUA, or
-- before a FLUSH was sent that was answered, is on each recorded member's disk at each stop.
--
-- A life (IsOneLife) is a list of eras (EraLeads). In an era deeds are played from world to world (DeedsLead); clients see events
-- (IsLawfulEra), which one run of the one volume's machine shows, and no request is refused without a plea (AreRefusedSo); then
-- everything stops, the configuration's disk has the recorded chain or the one that was being written, and the disk of each member of
-- either has what is owed, whatever is left of them (HasWhatIsOwed); and the chain goes on from one of these, as the machine does, at its
-- front (GoesOnFrom).
use Rattle.std.specs.Prelude.{◌≡◌, ◌≢◌, ◌⊎◌, ℕ, ◌*◌, ◌≤◌, false, true, Some, All, List, [], ◌∷◌, ◌++◌, length, map, slice_get, take, zip}
use Rattle.std.specs.List.{flat_map, range_with_len}
use Rattle.std.specs.Option.{ForSome, option_to_list}
use Rattle.configurations.specs.Record.{Record}
use Rattle.configurations.specs.declared.refusal.Refusal.TheVariants.{NotNext}
use Rattle.disk_model.specs.Memory.{may_be_left}
use Rattle.disk_model.specs.Part.{inside}
use Rattle.disk_model.specs.declared.memory.MemDisk.{MemDisk}
use Rattle.flush_barrier.specs.declared.session_id.SessionId.{SessionId}
use Rattle.local_store.specs.About.{About}
use Rattle.local_store.specs.Meaning.{Meaning, Means}
use Rattle.nbd_session.specs.Demand.{Asked}
use Rattle.nbd_session.specs.Lawful.{IsLawful}
use Rattle.nbd_session.specs.Replies.{WireReply}
use Rattle.nbd_session.specs.declared.answer.Export.{Export}
use Rattle.chain_steps.specs.declared.cause.Cause.TheVariants.{Disorder}
use Rattle.clients.specs.Clients.{held_under, replies_in}
use Rattle.volume.specs.Writes.{volume_of}
use Rattle.volume.specs.declared.geometry.Geometry.{Geometry}
use Rattle.chain_model.specs.Chain.{StandsFor}
use Rattle.chain_model.specs.Life.{Happening, Happens}
use Rattle.chain_model.specs.View.{View, is_in}
use Rattle.chain.specs.Member.{Linked}
use Rattle.world_model.specs.Event.{ClientEvent}
use Rattle.world_model.specs.Life.{all_events}
use Rattle.world_model.specs.Machine.{May, Move, Restart, RunsOn, State, after, machine_volume, shown, start}
use Rattle.chain_model.specs.Refusing.{HasPlea}
use Rattle.world.specs.Management.{HoldsOne}
use Rattle.world.specs.World.{Seen, Shows, sent_in}
use Rattle.life.specs.Aside.{GrowsOutside}
use Rattle.life.specs.Begun.{BeginsWith, export_of, first_about, stores_of}
use Rattle.life.specs.Played.{fed_by, handed_by}
use Rattle.life.specs.Managed.{AreInStep, IsAtRest, Managed, MayStand, NoImpostor, config_part}
use Rattle.life.specs.Recovered.{IsAtItsEnd, NoneReturns, comes_back}
use Rattle.life.specs.Plays.{AreCut, DeedsLead, GoesOnFrom, IsLeftRecorded}
use Rattle.life.specs.Refusal.{IsOfMemory}
use Rattle.life.specs.declared.answer.Answer.{Answer}
use Rattle.life.specs.declared.era.Answers.{Answers}
use Rattle.life.specs.declared.era.Deed.{Deed}
use Rattle.life.specs.declared.era.Era.{Era}
use Rattle.life.specs.declared.refusal.Refusal.{Refusal}
use Rattle.life.specs.declared.managed.SlotDisk.{SlotDisk}
use Rattle.life.specs.declared.refusal.Refusal.TheVariants.{Config, NoneReturned, NotInChain}

-- ---- bytes

-- the deeds of an era, each with its answer
abbrev pub Trace : Type 0
Trace = List (Deed × Answer)

-- what a session was fed in them, and what went out to it
abbrev pub fed_in : Trace → SessionId → List ℕ
fed_in told id = flat_map (λ one. fed_by one.0 one.1 id) told

abbrev pub handed_in : Trace → SessionId → List ℕ
handed_in told id = flat_map (λ one. handed_by one.0 one.1 id) told

-- What went out to a session is the beginning of what is lawful for what came in and for its replies; or nothing came, and nothing
-- went out.
abbrev pub IsLawfulSession : Export → (fed handed : List ℕ) → List Asked → List WireReply → Type 0
IsLawfulSession export fed handed asked replies =
    ((waits : List ℕ) × IsLawful export fed (handed ++ waits) asked replies)
    ⊎ ((fed ≡ []) × (handed ≡ []) × (asked ≡ []) × (replies ≡ []))

-- What sessions were fed and handed out, and what clients saw, fit: each session was lawful, with the replies that the events show; and
-- what they show as sent by its client is what the session asked, in that order, each once, and nothing else.
pub record Fit (export : Export) (told : Trace) (events : List ClientEvent) : Type 0 where
  pub asked : SessionId → List Asked
  pub lawful : (id : SessionId) → IsLawfulSession export (fed_in told id) (handed_in told id) (asked id) (replies_in id events)
  pub sent : (id : SessionId) → sent_in id events ≡ map (held_under id) (asked id)

-- What clients saw of an era: so much of each deed, and behind that what they would have seen of the one that has no answer. After any
-- number of deeds what came until then fits. So what went out before something was fed stands before it.
pub record IsLawfulEra (export : Export) (told : Trace) (events : List ClientEvent) : Type 0 where
  pub each : List (List ClientEvent)
  pub last : List ClientEvent
  pub are : events ≡ all_events each ++ last
  pub many : length each ≡ length told
  pub so_far : (n : ℕ) → n ≤ length told → Fit export (take n told) (all_events (take n each))
  pub whole : Fit export told events

-- ---- refusals

-- Things happened in a chain, one after another, and each request that was refused had a plea when it was: for memory; or with EIO, where
-- it waited at a member that has stopped, or was a write that had no number when its member took a later epoch's Turn.
abbrev pub HappenWithPleas : ℕ → View → List Happening → View → List (List ClientEvent) → Type 0
HappenWithPleas size v [] w each = (w ≡ v) × (each ≡ [])
HappenWithPleas size v (h ∷ hs) w each =
    (mid : View) × (now : List ClientEvent) × (later : List (List ClientEvent)) × (each ≡ now ∷ later) × Happens size h v mid now × All (HasPlea v mid) now × HappenWithPleas size mid hs w later

-- An era from one world and state of the machine to the next whose clients saw these events: they are those of such things. And each member
-- that stopped was told to, or ran out of memory, or its disk refused a call, or it had given out the greatest ticket.
pub record AreRefusedSo {S : Type 0} (about : S → About) (keeps : S → List ℕ → Type 0) (may_leave_now : S → List ℕ → Type 0) (size : ℕ) (old : Seen S) (s : State) (end : Seen S) (t : State) (events : List ClientEvent) : Type 0 where
  pub before : View
  pub after : View
  pub shown : Shows about keeps may_leave_now old before
  pub shown_then : Shows about keeps may_leave_now end after
  pub stands : StandsFor size before s
  pub stands_then : StandsFor size after t
  pub happenings : List Happening
  pub each : List (List ClientEvent)
  pub happen : HappenWithPleas size before happenings after each
  pub are : all_events each ≡ events
  pub causes : All (λ m. m.node.state.stopped ≢ Some Disorder) end.chain.members

-- ---- disks

-- The bytes mean that they are this member's disk, with the volume after a prefix of the writes that were taken, which has all that is
-- owed.
pub record HasWhatIsOwed (size : ℕ) (s : State) (member : About) (bytes : List ℕ) : Type 0 where
  pub front : ℕ
  pub owed : s.owed ≤ front
  pub taken : front ≤ length s.taken
  pub means : Means (record { slot = member.slot; incarnation = member.incarnation; geometry = member.geometry; front = front; volume = machine_volume size s front }) bytes

-- the record has the member whose disk this is
abbrev pub HasDisk : Record → About → Type 0
HasDisk r member = is_in r member.slot member.incarnation ≡ true

-- the stores of the members, and of who joins, if somebody does
abbrev pub owners_of : {S : Type 0} → Seen S → List S
owners_of w = stores_of w ++ option_to_list w.joiner

-- Whatever is left of the disks of two members of the record: where they mean one front, they mean the same volume.
abbrev pub Agree : {S : Type 0} → (S → About) → (S → List ℕ → Type 0) → Record → S → S → Type 0
Agree about may_leave_now r one two =
    HasDisk r (about one) → HasDisk r (about two) → (x y : List ℕ) → may_leave_now one x → may_leave_now two y → (m n : Meaning) → Means m x → Means n y → m.front ≡ n.front → m.volume ≡ n.volume

-- ---- a life

-- the first record of a chain of so many members: their disks were formatted
abbrev pub first_record : ℕ → Record
first_record members = record { epoch = 1; members = map (λ slot. record { slot = slot; incarnation = 1 }) (range_with_len 0 members) }

module _ {S : Type 0} (premise : Type 0) (about : S → About) (keeps : S → List ℕ → Type 0) (is_pending : S → ℕ → Type 0) (may_leave_now : S → List ℕ → Type 0) (moment : S → ℕ)
    (left_since : S → ℕ → List ℕ → Type 0) (failures : S → ℕ) (disk : S → MemDisk) where
  -- An era leads from a world and a state of the machine to the next.
  pub record EraLeads (export : Export) (era : Era) (answers : List Answer) (old : Managed S) (s : State) (new : Managed S) (t : State) : Type 0 where
    pub end : Managed S
    pub played : DeedsLead premise about keeps is_pending may_leave_now moment left_since failures disk era.deeds.items answers old end
    -- one run of the machine, without a restart, shows what clients saw
    pub events : List ClientEvent
    pub lawful : IsLawfulEra export (zip era.deeds.items answers) events
    pub moves : List Move
    pub state : State
    pub runs : RunsOn s moves state
    pub shows : shown export.size s moves ≡ events
    pub refused : AreRefusedSo about keeps may_leave_now export.size old.world s end.world state events
    -- the manager's record is the recorded chain's, and what is being written is the record of its next order
    pub in_step : AreInStep end
    -- whatever a stop may leave then of the configuration's disk has the recorded chain, or the one that is being written
    pub config : (bytes : List ℕ) → may_be_left end.management.disk bytes → HoldsOne end.world.chain (inside config_part bytes)
    -- and of the disk of a member of either what is owed
    pub disks : All (λ m. (r : Record) → MayStand end.world.chain r → HasDisk r (about m.node.store) → (bytes : List ℕ) → may_leave_now m.node.store bytes
        → HasWhatIsOwed export.size state (about m.node.store) bytes) end.world.chain.members
    -- and so has that of who joins, if it is a member of the one that is being written
    pub joiner : ForSome end.world.joiner (λ store. (r : Record) → MayStand end.world.chain r → HasDisk r (about store) → (bytes : List ℕ) → may_leave_now store bytes
        → HasWhatIsOwed export.size state (about store) bytes)
    -- so any two of these that mean one front mean the same volume, those too that were rebuilt
    pub agree : (r : Record) → MayStand end.world.chain r → All (λ one. All (Agree about may_leave_now r one) (owners_of end.world)) (owners_of end.world)
    -- the disks outside stay, and behind them come those of joinings that ended early; and none of all is that of a member of either
    pub outside : GrowsOutside old end
    pub no_impostor : NoImpostor end
    -- of the disks that return the chain goes on from the source, and the machine from its front
    pub goes_on : GoesOnFrom about keeps may_leave_now disk era end new
    pub may : May state (Restart goes_on.from.recovers.meaning.front)
    pub restarts : t ≡ after state (Restart goes_on.from.recovers.meaning.front)

  -- one era after another
  abbrev pub ErasLead : Export → List Era → List Answers → Managed S → State → Managed S → State → Type 0
  ErasLead export [] [] old s new t = (new ≡ old) × (t ≡ s)
  ErasLead export [] (these ∷ answers) old s new t = ⊥
  ErasLead export (era ∷ eras) [] old s new t = ⊥
  ErasLead export (era ∷ eras) (these ∷ answers) old s new t =
      (mid : Managed S) × (between : State) × EraLeads export era these.items.items old s mid between × ErasLead export eras answers mid between new t

  -- A life of so many members and these eras leads from a world with a volume of zeros, and from the machine before anything happened, to a
  -- world that stands for the machine's state.
  pub record IsOneLife (geometry : Geometry) (members : ℕ) (eras : List Era) (answers : List Answers) (new : Managed S) : Type 0 where
    pub first : Managed S
    pub slots : map about (stores_of first.world) ≡ map (first_about geometry) (range_with_len 0 members)
    pub begins : BeginsWith about keeps may_leave_now geometry 0 (volume_of (4096 * geometry.blocks) []) first.world
    pub recorded : first.world.chain.recorded ≡ first_record members
    pub rests : IsAtRest first
    pub nobody_outside : first.outside ≡ []
    pub end : State
    pub leads : ErasLead (export_of geometry) eras answers first start new end
    pub view : View
    pub shows : Shows about keeps may_leave_now new.world view
    pub stands : StandsFor (4096 * geometry.blocks) view end

  -- ---- a life that breaks off

  -- The era's deeds ended so, and each disk was cut: this record was left.
  pub record EndsWith (era : Era) (old : Managed S) (r : Record) : Type 0 where
    pub answers : List Answer
    pub end : Managed S
    pub disks : List (SlotDisk MemDisk)
    pub config : MemDisk
    pub played : DeedsLead premise about keeps is_pending may_leave_now moment left_since failures disk era.deeds.items answers old end
    pub cut : AreCut about may_leave_now disk era.cut end disks config
    pub recorded : IsLeftRecorded end.world.chain config r

  -- No disk was to return.
  pub record ReturnsNothing (era : Era) (old : Managed S) : Type 0 where
    pub recorded : Record
    pub ends : EndsWith era old recorded
    pub nothing : NoneReturns era.returned.items (length ends.disks)

  -- Of the members whose disks were to return none is of the chain that was left recorded, nor is who joins, whose disk stands behind theirs.
  pub record ReturnsNobody (era : Era) (old : Managed S) : Type 0 where
    pub recorded : Record
    pub ends : EndsWith era old recorded
    pub nobody : (at : ℕ) (m : Linked S) → slice_get ends.end.world.chain.members at ≡ Some m → comes_back era.returned.items at ≡ true → is_in recorded (about m.node.store).slot (about m.node.store).incarnation ≡ false
    pub nor_joiner : ForSome ends.end.world.joiner (λ store. comes_back era.returned.items (length ends.end.world.chain.members) ≡ true → is_in recorded (about store).slot (about store).incarnation ≡ false)

  -- No two records can follow the one that was left: a recovery that was broken off may have written one.
  pub record HasNoNext (era : Era) (old : Managed S) : Type 0 where
    pub recorded : Record
    pub ends : EndsWith era old recorded
    pub none : IsAtItsEnd ends.config

  -- why an era isn't followed by another: memory ran out; or nothing returned, or nobody, or no record can follow
  abbrev pub EndsAtReturn : Era → Managed S → Refusal → Type 0
  EndsAtReturn era old refusal =
      IsOfMemory refusal ⊎ (((refusal ≡ NoneReturned) × ReturnsNothing era old) ⊎ (((refusal ≡ NotInChain) × ReturnsNobody era old) ⊎ ((refusal ≡ Config NotNext) × HasNoNext era old)))

  -- Some era of the life ended so.
  pub record BreaksAt (geometry : Geometry) (members : ℕ) (eras : List Era) (refusal : Refusal) : Type 0 where
    pub lived : List Era
    pub era : Era
    pub rest : List Era
    pub are : eras ≡ lived ++ era ∷ rest
    pub answers : List Answers
    pub world : Managed S
    pub life : IsOneLife geometry members lived answers world
    pub ends : EndsAtReturn era world refusal

  -- memory ran out, or the life broke off behind an era
  abbrev pub BreaksOff : Geometry → ℕ → List Era → Refusal → Type 0
  BreaksOff geometry members eras refusal = IsOfMemory refusal ⊎ BreaksAt geometry members eras refusal
