-- That a chain refuses a request with EIO only for a reason, and that its members stop for causes: lemmas.
use Rattle.std.proofs.Common.{if◌then◌else◌, ◌≡◌, ◌≢◌, ◌⊎◌, ℕ, suc, ◌+◌, ◌<◌, ◌≤◌, max, Bool, true, false, Option, None, Some, List, [], ◌∷◌, ◌++◌, map, refl, sym, ◌∙◌, ap, subst, inl, inr, arith}
use Rattle.std.specs.Prelude.{All, Any, Contains, filter, nat_le, nat_lt}
use Rattle.std.proofs.lemmas.Bool.{cases_Bool, cond-false, cond-true, true≢false}
use Rattle.std.proofs.lemmas.Bool.Decides.{nat_tests}
use Rattle.std.proofs.lemmas.List.Elements.{All-append, All-cons, All-contains_itself, All-filter, All-head, All-map, All-nil, All-tail, All-weaker, filter_passes}
use Rattle.board.specs.Seats.{FoundFront}
use Rattle.configurations.specs.Record.{Record}
use Rattle.flush_barrier.specs.Reply.{GivenReply}
use Rattle.flush_barrier.specs.declared.error_code.ErrorCode.TheVariants.{Io, NoMemory}
use Rattle.version_table.specs.declared.kept.Origin.{Origin}
use Rattle.volume.specs.Writes.{Placed}
use Rattle.chain_steps.specs.Node.{NodeState, Refused, Stepped, Taken, epoch_of, is_stopped, last_of}
use Rattle.chain_steps.specs.Place.{head_of, incarnation_in, is_head, is_of}
use Rattle.chain_steps.specs.Steps.{ack, answer_at, answer_floor, apply, asked_bytes, deliver, hold, is_full, know, number, number_from, origin_of, placed, put, silent, starts, stop, submit, take_message, take_turn, told, turn, volume_at}
use Rattle.chain_steps.specs.Waiting.{debt_of, is_committed, is_outdated, is_paid_flush, is_paid_write, is_read, reply_to, reply_with}
use Rattle.chain_steps.specs.declared.cause.Cause.{Cause}
use Rattle.chain_steps.specs.declared.cause.Cause.TheVariants.{Disorder}
use Rattle.chain_steps.specs.declared.found.Found.TheVariants.{Looked}
use Rattle.chain_steps.specs.declared.message.Envelope.{Envelope}
use Rattle.chain_steps.specs.declared.message.Message.{Message}
use Rattle.chain_steps.specs.declared.message.Message.TheVariants as messages
use Rattle.chain_steps.specs.declared.waiting.Waiting.{Waiting}
use Rattle.world_model.specs.Chain.{ArePutOut, reply_event}
use Rattle.world_model.proofs.Counting.{all_at, all_without}
use Rattle.world_model.specs.Event.{Answered, ClientEvent, Failed}
use Rattle.world_model.specs.Machine.{State}
use Rattle.world_model.specs.Requests.{Held, sent_event}
use Rattle.chain_model.specs.Chain.{AreLinked, Belongs, BelongsToHead, IsForHead, IsTold, MembersStand, StandsFor}
use Rattle.chain_model.proofs.Changing.{all_changed}
use Rattle.chain_model.proofs.HeldSteps.{each_held}
use Rattle.chain_model.specs.Laws.{HasPassed, HasTaken, with_members}
use Rattle.chain_model.specs.Life.{Answer, AnswerFloor, AnswerFront, Ask, BeginCommit, BoardTells, Does, Doing, Drop, EndCommit, FrontHeld, FrontRaised, JoinBegun, JoinEnded, JoinerCounted, JoinerLeft, KeepRaised, LookUp, MemberDoes, MemberForgotten, MemberSubmits, MemberTakes, MemberTold, MessageTaken, RaisedKnown, RecordBegun, RecordEnded, Refuse, RequestsSent, RequestsTakenUp, SessionBegins, SessionEnds, Stop, SubmitTaken, Takes, Taking, Wait}
use Rattle.chain_model.proofs.Linking.{IsProperSubmit, first_proper}
use Rattle.chain_model.proofs.MemberSteps.{reach}
use Rattle.chain_model.proofs.MessageSteps.{same_step, taken_step}
use Rattle.chain_model.proofs.Ordering.{sends_nothing, told_one}
use Rattle.chain_model.proofs.PlaceSteps.{head_is_head}
use Rattle.chain_model.proofs.PutSteps.{not_further}
use Rattle.chain_model.specs.Refusing.{HasNoDisorder, HasPlea, IsDemandOf, IsTokenOf, OneChanged, RefusalsHavePleas, StopsHaveCauses}
use Rattle.chain_model.specs.View.{Member, View, slot_of}

-- ---- the steps that a message brings about

-- What holds of each step that a message may bring about holds of the one that it does; the steps that stop the member say why.
pub record Each (P : Stepped → Type 0) (from : ℕ) (envelope : Envelope) (node : NodeState) : Type 0 where
  pub quiet : P (silent node)
  pub applies : (n : ℕ) (origin : Origin) (write : Placed) → P (apply n origin write node)
  pub knows : (told known : ℕ) → P (know told known node)
  pub turns : P (turn node)
  pub further : node.stopped ≡ None → envelope.epoch ≡ epoch_of node → (n : ℕ) (origin : Origin) (write : Placed) → envelope.message ≡ messages.Put n origin write → last_of node + 1 < n → P (stop Disorder node)
  pub above : node.stopped ≡ None → envelope.epoch ≡ epoch_of node → (front : ℕ) → envelope.message ≡ messages.Ack front → last_of node < front → P (stop Disorder node)
  pub astray : node.stopped ≡ None → envelope.epoch ≡ epoch_of node → (ticket : ℕ) (write : Placed) → envelope.message ≡ messages.Submit ticket write
      → (is_head node.place ≡ false) ⊎ (incarnation_in node.place.chain from ≡ None) → P (stop Disorder node)

module _ (P : Stepped → Type 0) (from : ℕ) (envelope : Envelope) (node : NodeState) (each : Each P from envelope node) where
  module _ (runs : node.stopped ≡ None) (now : envelope.epoch ≡ epoch_of node) where
    put_one : (n : ℕ) (origin : Origin) (write : Placed) (stepped : Stepped) → envelope.message ≡ messages.Put n origin write → put n origin write node ≡ Taken stepped → P stepped
    put_one n origin write stepped is taken = elim (cases_Bool (nat_le n (last_of node))) [
      | inl has_it ↦ let same : Taken (silent node) ≡ Taken stepped = rw has_it at taken in subst P (same_step (silent node) stepped same) each.quiet
      | inr new_one ↦ elim (cases_Bool (nat_lt (last_of node + 1) n)) [
        | inl further ↦
            let same : Taken (stop Disorder node) ≡ Taken stepped = rw (new_one, further) at taken in
            let far : last_of node + 1 < n = grind (arith, nat_tests) in subst P (same_step (stop Disorder node) stepped same) (each.further runs now n origin write is far)
        | inr next ↦ elim (cases_Bool (is_full write node)) [
          | inl full ↦ let no : Refused 153 ≡ Taken stepped = rw (new_one, next, full) at taken in absurd cc
          | inr room ↦ let same : Taken (apply n origin write node) ≡ Taken stepped = rw (new_one, next, room) at taken in subst P (same_step (apply n origin write node) stepped same) (each.applies n origin write)
        ]
      ]
    ]

    ack_one : (front : ℕ) (stepped : Stepped) → envelope.message ≡ messages.Ack front → Taken (ack front node) ≡ Taken stepped → P stepped
    ack_one front stepped is taken = elim (cases_Bool (nat_lt (last_of node) front)) [
      | inl further ↦
          let same : Taken (stop Disorder node) ≡ Taken stepped = rw further at taken in
          let far : last_of node < front = grind (arith, nat_tests) in subst P (same_step (stop Disorder node) stepped same) (each.above runs now front is far)
      | inr near ↦
          let same : Taken (know front (max node.known front) node) ≡ Taken stepped = rw near at taken in
          subst P (same_step (know front (max node.known front) node) stepped same) (each.knows front (max node.known front))
    ]

    turn_one : (stepped : Stepped) → Taken (take_turn node) ≡ Taken stepped → P stepped
    turn_one stepped taken = elim (cases_Bool node.turned) [
      | inl turned ↦
          let same : Taken (silent node) ≡ Taken stepped = ap Taken (sym (cond-true node.turned (silent node) (turn node) turned)) ∙ taken in subst P (same_step (silent node) stepped same) each.quiet
      | inr unturned ↦
          let same : Taken (turn node) ≡ Taken stepped = ap Taken (sym (cond-false node.turned (silent node) (turn node) unturned)) ∙ taken in subst P (same_step (turn node) stepped same) each.turns
    ]

    number_one : (ticket : ℕ) (write : Placed) (stepped : Stepped) → envelope.message ≡ messages.Submit ticket write → number from ticket write node ≡ Taken stepped → P stepped
    number_one ticket write stepped is taken = elim (cases_Bool (is_head node.place)) [
      | inl head ↦
          let numbered : number_from from ticket (incarnation_in node.place.chain from) write node ≡ Taken stepped = rw head at taken in from_one (incarnation_in node.place.chain from) refl numbered
      | inr other ↦
          let same : Taken (stop Disorder node) ≡ Taken stepped = rw other at taken in subst P (same_step (stop Disorder node) stepped same) (each.astray runs now ticket write is (inl other))
    ]
      where
        from_one : (o : Option ℕ) → incarnation_in node.place.chain from ≡ o → number_from from ticket o write node ≡ Taken stepped → P stepped
        from_one None none taken = subst P (same_step (stop Disorder node) stepped taken) (each.astray runs now ticket write is (inr none))
        from_one (Some incarnation) some taken = elim (cases_Bool (is_full write node)) [
          | inl full ↦ let no : Refused 153 ≡ Taken stepped = rw full at taken in absurd cc
          | inr room ↦
              let same : Taken (apply (last_of node + 1) (origin_of from incarnation ticket) write node) ≡ Taken stepped = rw room at taken in
              subst P (same_step (apply (last_of node + 1) (origin_of from incarnation ticket) write node) stepped same) (each.applies (last_of node + 1) (origin_of from incarnation ticket) write)
        ]

    one_of : (message : Message) (stepped : Stepped) → envelope.message ≡ message → take_message from message node ≡ Taken stepped → P stepped
    one_of (messages.Put n origin write) stepped is taken = put_one n origin write stepped is taken
    one_of (messages.Ack front) stepped is taken = ack_one front stepped is taken
    one_of (messages.Turn last) stepped is taken = turn_one stepped taken
    one_of (messages.Submit ticket write) stepped is taken = number_one ticket write stepped is taken

  pub each_delivery : (stepped : Stepped) → deliver from envelope node ≡ Taken stepped → P stepped
  each_delivery stepped taken = taken_step P from envelope node stepped taken (λ runs before. each.quiet) (λ runs now is. one_of runs now envelope.message stepped refl is)

-- and what holds of those that a record brings about
pub each_told : (P : Stepped → Type 0) (chain : Record) (node : NodeState) → P (silent node) → P (silent (placed chain node)) → P (turn (placed chain node)) → (stepped : Stepped) → told chain node ≡ Taken stepped → P stepped
each_told P chain node quiet waits turns stepped taken = elim (cases_Bool (is_stopped node)) [
  | inl stopped ↦ let no : Refused 154 ≡ Taken stepped = rw stopped at taken in absurd cc
  | inr running ↦ elim (cases_Bool (nat_le chain.epoch (epoch_of node))) [
    | inl known ↦ let same : Taken (silent node) ≡ Taken stepped = rw (running, known) at taken in subst P (same_step (silent node) stepped same) quiet
    | inr later ↦ elim (cases_Bool (is_of (placed chain node).place node.incarnation)) [
      | inl there ↦
          let same : Taken (starts (placed chain node)) ≡ Taken stepped = rw (running, later, there) at taken in
          subst P (same_step (starts (placed chain node)) stepped same) (started (is_head (placed chain node).place))
      | inr gone ↦ let no : Refused 151 ≡ Taken stepped = rw (running, later, gone) at taken in absurd cc
    ]
  ]
]
  where
    started : (head : Bool) → P (if head then turn (placed chain node) else silent (placed chain node))
    started true = turns
    started false = waits

-- ---- events

-- the events of excused replies are excused
all_put_out : (P : ClientEvent → Type 0) (replies : List GivenReply) (events : List ClientEvent) → All (λ r. P (reply_event r)) replies → ArePutOut replies events → All P events
all_put_out P [] events all out = rw out (All-nil P)
all_put_out P (r ∷ rs) events all out = elim out [
  | inl rest ↦ all_put_out P rs events (All-tail (λ (x : GivenReply). P (reply_event x)) r rs all) rest
  | inr (more, is, rest) ↦ rw is (All-cons P (reply_event r) more (All-head (λ (x : GivenReply). P (reply_event x)) r rs all) (all_put_out P rs more (All-tail (λ (x : GivenReply). P (reply_event x)) r rs all) rest))
]

none_put_out : (P : ClientEvent → Type 0) (events : List ClientEvent) → events ≡ [] → All P events
none_put_out P events none = rw none (All-nil P)

all_sent_events : (v w : View) (more : List Held) → All (HasPlea v w) (map sent_event more)
all_sent_events v w [] = All-nil (HasPlea v w)
all_sent_events v w (h ∷ hs) = All-cons (HasPlea v w) (sent_event h) (map sent_event hs) tt (all_sent_events v w hs)

-- each token is one of them
each_itself : (ws : List Waiting) → All (λ t. Any (IsTokenOf (debt_of t).session (debt_of t).cookie) ws) ws
each_itself ws = All-weaker (Contains ws) (λ t. Any (IsTokenOf (debt_of t).session (debt_of t).cookie) ws) (λ t (k, lt, is). (k, t, lt, is, (refl, refl))) ws (All-contains_itself ws)

-- ---- one member became another

module _ (v w : View) (above : List Member) (m g : Member) (below : List Member) (were : v.members ≡ above ++ m ∷ below) (are : w.members ≡ above ++ g ∷ below) where
  abbrev HasExcuse : GivenReply → Type 0
  HasExcuse reply = HasPlea v w (reply_event reply)

  abbrev changed : OneChanged v w
  changed = record { above = above; old = m; new = g; below = below; were = were; are = are }

  -- nobody is told an error
  all_done : (reply : Waiting → GivenReply) → ((t : Waiting) → HasExcuse (reply t)) → (ws : List Waiting) → All HasExcuse (map reply ws)
  all_done reply each [] = All-nil HasExcuse
  all_done reply each (t ∷ ts) = All-cons HasExcuse (reply t) (map reply ts) (each t) (all_done reply each ts)

  -- it has stopped
  all_stopped : g.node.stopped ≢ None → All HasExcuse (map (reply_to (Some Io)) m.node.waiting)
  all_stopped stopped = All-map HasExcuse (reply_to (Some Io)) m.node.waiting
      (All-weaker (λ t. Any (IsTokenOf (debt_of t).session (debt_of t).cookie) m.node.waiting) (λ t. HasExcuse (reply_to (Some Io) t))
      (λ t waited. inl (record { changed = changed; stopped = stopped; waited = inr waited })) m.node.waiting (each_itself m.node.waiting))

  -- it has its Turn
  all_outdated : g.node.turned ≡ true → All HasExcuse (map (reply_to (Some Io)) (filter (is_outdated (epoch_of g.node)) m.node.waiting))
  all_outdated turned = All-map HasExcuse (reply_to (Some Io)) (filter (is_outdated (epoch_of g.node)) m.node.waiting)
      (All-weaker (λ t. Contains m.node.waiting t × (is_outdated (epoch_of g.node) t ≡ true)) (λ t. HasExcuse (reply_to (Some Io) t))
      (λ t ((k, lt, is), old). inr (inl (record { changed = changed; turns = turned; waited = (k, t, lt, is, ((refl, refl), old)) }))) (filter (is_outdated (epoch_of g.node)) m.node.waiting)
      (λ i d lt. (All-filter (is_outdated (epoch_of g.node)) (Contains m.node.waiting) m.node.waiting (All-contains_itself m.node.waiting) i d lt, filter_passes (is_outdated (epoch_of g.node)) m.node.waiting i d lt)))

  -- the events that are put out
  put_out : (replies : List GivenReply) (events : List ClientEvent) → All HasExcuse replies → ArePutOut replies events → All (HasPlea v w) events
  put_out replies events all out = all_put_out (HasPlea v w) replies events all out

  knows : (told known : ℕ) (events : List ClientEvent) → ArePutOut (know told known m.node).out.replies events → All (HasPlea v w) events
  knows told known events out = put_out (know told known m.node).out.replies events (all_done (reply_to None) (λ t. tt) (filter (is_committed known) m.node.waiting)) out

  takes : (size : ℕ) (taking : Taking) (d : Held) (rest : List Held) (events : List ClientEvent) → m.demands ≡ d ∷ rest → Takes size taking d rest m g events → All (HasPlea v w) events
  takes size Drop d rest events first (is, shows) = none_put_out (HasPlea v w) events shows
  takes size (Refuse Io) d rest events first (may, is, shows) = rw shows (All-cons (HasPlea v w) (Answered d.session d.cookie (Failed Io)) [] (elim may [
    | inl stopped ↦ inl (record { changed = changed; stopped = subst (λ (x : Member). x.node.stopped ≢ None) (sym is) stopped; waited = inl asked })
    | inr newcomer ↦ inr (inr (record { changed = changed; newcomer = newcomer; waited = asked }))
  ]) (All-nil (HasPlea v w)))
    where
      asked : Any (IsDemandOf d.session d.cookie) m.demands
      asked = subst (λ (ds : List Held). Any (IsDemandOf d.session d.cookie) ds) (sym first) (0, d, omega arith, refl, (refl, refl))
  takes size (Refuse NoMemory) d rest events first (may, is, shows) = rw shows (All-cons (HasPlea v w) (Answered d.session d.cookie (Failed NoMemory)) [] tt (All-nil (HasPlea v w)))
  takes size (Answer offset len) d rest events first (runs, asked, clean, sized, inside, is, shows) = rw shows (All-cons (HasPlea v w) _ [] tt (All-nil (HasPlea v w)))
  takes size (Ask offset len token) d rest events first (asked, session, cookie, is, shows) = none_put_out (HasPlea v w) events shows
  takes size (Wait token) d rest events first (asked, session, cookie, unbound, is, shows) = none_put_out (HasPlea v w) events shows

  does : (doing : Doing) (events : List ClientEvent) → Does v doing m g events → All (HasPlea v w) events
  does (LookUp front) events (number, is, shows) = none_put_out (HasPlea v w) events shows
  does (AnswerFront front) events (runs, found, within, out, is) = put_out (answer_at m.volume front.number m.node).out.replies events
      (all_done (λ t. reply_with (asked_bytes (volume_at m.volume m.node (max m.node.known front.number)) t) None t) (λ t. tt) (filter is_read m.node.waiting)) out
  does (AnswerFloor floor) events (within, backed, out, is) = put_out (answer_floor floor m.node).out.replies events
      (All-append HasExcuse (map (reply_to None) (filter (is_paid_write floor) m.node.waiting)) (map (reply_to None) (filter (is_paid_flush floor) m.node.waiting))
      (all_done (reply_to None) (λ t. tt) (filter (is_paid_write floor) m.node.waiting)) (all_done (reply_to None) (λ t. tt) (filter (is_paid_flush floor) m.node.waiting))) out
  does (KeepRaised front) events (within, is, shows) = none_put_out (HasPlea v w) events shows
  does (BeginCommit commit) events (is, shows) = none_put_out (HasPlea v w) events shows
  does (EndCommit p) events (runs, from, upto, is, shows) = none_put_out (HasPlea v w) events shows
  does (Stop cause) events (runs, other, out, is) = put_out (stop cause m.node).out.replies events (all_stopped (subst (λ (x : Member). x.node.stopped ≢ None) (sym is) (λ none. absurd cc))) out

-- of a step that a message or a record brings about
module _ (v w : View) (above : List Member) (m : Member) (below : List Member) (were : v.members ≡ above ++ m ∷ below) where
  abbrev IsExcused : Stepped → Type 0
  IsExcused stepped = w.members ≡ above ++ record m { node = stepped.node } ∷ below → All (λ r. HasPlea v w (reply_event r)) stepped.out.replies

  stop_excused : (cause : Cause) → IsExcused (stop cause m.node)
  stop_excused cause are = all_stopped v w above m (record m { node = (stop cause m.node).node }) below were are (λ none. absurd cc)

  silent_excused : (node : NodeState) → IsExcused (silent node)
  silent_excused node are = All-nil (λ r. HasPlea v w (reply_event r))

  delivered : (from : ℕ) (envelope : Envelope) (stepped : Stepped) (events : List ClientEvent) → deliver from envelope m.node ≡ Taken stepped → w.members ≡ above ++ record m { node = stepped.node } ∷ below
      → ArePutOut stepped.out.replies events → All (HasPlea v w) events
  delivered from envelope stepped events taken are out = all_put_out (HasPlea v w) stepped.out.replies events (each_delivery IsExcused from envelope m.node (record {
    quiet = silent_excused m.node;
    applies = λ n origin write are. All-nil (λ r. HasPlea v w (reply_event r));
    knows = λ told known are. all_done v w above m (record m { node = (know told known m.node).node }) below were are (reply_to None) (λ t. tt) (filter (is_committed known) m.node.waiting);
    turns = λ are. all_outdated v w above m (record m { node = (turn m.node).node }) below were are refl;
    further = λ runs now n origin write is far. stop_excused Disorder;
    above = λ runs now front is far. stop_excused Disorder;
    astray = λ runs now ticket write is no. stop_excused Disorder;
  }) stepped taken are) out

  held : (front : FoundFront) (events : List ClientEvent) → m.node.found ≡ Some (Looked front) → w.members ≡ above ++ record m { node = (hold m.node).node } ∷ below
      → ArePutOut (hold m.node).out.replies events → All (HasPlea v w) events
  held front events found are out = all_put_out (HasPlea v w) (hold m.node).out.replies events (each_held IsExcused m.node front found (λ far. stop_excused Disorder)
      (λ are. all_done v w above m (record m { node = (know front.number (max m.node.known front.number) (record m.node { holds = true })).node }) below were are (reply_to None) (λ t. tt)
      (filter (is_committed (max m.node.known front.number)) m.node.waiting)) are) out

  told_of : (chain : Record) (stepped : Stepped) (events : List ClientEvent) → told chain m.node ≡ Taken stepped → w.members ≡ above ++ record m { node = stepped.node } ∷ below
      → ArePutOut stepped.out.replies events → All (HasPlea v w) events
  told_of chain stepped events taken are out = all_put_out (HasPlea v w) stepped.out.replies events
      (each_told IsExcused chain m.node (silent_excused m.node) (silent_excused (placed chain m.node))
      (λ are. all_outdated v w above m (record m { node = (turn (placed chain m.node)).node }) below were are refl) stepped taken are) out

pub refusals_have_pleas : RefusalsHavePleas
refusals_have_pleas size v w (MemberTakes taking) events one =
    takes v w one.above one.old one.new one.below one.were (ap (λ (x : View). x.members) one.are) size taking one.change.demand one.change.rest events one.change.first one.change.takes
refusals_have_pleas size v w MemberSubmits events (is, shows) = none_put_out (HasPlea v w) events shows
refusals_have_pleas size v w (MemberDoes doing) events one = does v w one.above one.old one.new one.below one.were (ap (λ (x : View). x.members) one.are) doing events one.change
refusals_have_pleas size v w RaisedKnown events is =
    knows v w is.above is.member (record is.member { node = (know is.front.number is.front.number is.member.node).node }) is.below is.were (ap (λ (x : View). x.members) is.are) is.front.number is.front.number events is.out
refusals_have_pleas size v w FrontHeld events is = held v w is.above is.tail is.below is.were is.front events is.found (ap (λ (x : View). x.members) is.are) is.out
refusals_have_pleas size v w MessageTaken events is = delivered v w is.above is.member is.below is.were is.from is.envelope is.stepped events is.taken (ap (λ (x : View). x.members) is.are) is.out
refusals_have_pleas size v w SubmitTaken events is = delivered v w is.above is.member is.below is.were is.from is.envelope is.stepped events is.taken (ap (λ (x : View). x.members) is.are) is.out
refusals_have_pleas size v w FrontRaised events (is, shows) = none_put_out (HasPlea v w) events shows
refusals_have_pleas size v w BoardTells events (is, shows) = none_put_out (HasPlea v w) events shows
refusals_have_pleas size v w RecordBegun events (is, shows) = none_put_out (HasPlea v w) events shows
refusals_have_pleas size v w RecordEnded events (is, shows) = none_put_out (HasPlea v w) events shows
refusals_have_pleas size v w JoinerCounted events (is, shows) = none_put_out (HasPlea v w) events shows
refusals_have_pleas size v w JoinerLeft events (is, shows) = none_put_out (HasPlea v w) events shows
refusals_have_pleas size v w JoinBegun events (is, shows) = none_put_out (HasPlea v w) events shows
refusals_have_pleas size v w JoinEnded events (is, shows) = none_put_out (HasPlea v w) events shows
refusals_have_pleas size v w MemberForgotten events (is, shows) = none_put_out (HasPlea v w) events shows
refusals_have_pleas size v w MemberTold events is = told_of v w is.above is.member is.below is.were v.recorded is.stepped events is.taken (ap (λ (x : View). x.members) is.are) is.out
refusals_have_pleas size v w SessionBegins events (at, are, shows) = none_put_out (HasPlea v w) events shows
refusals_have_pleas size v w SessionEnds events (at, are, shows) = none_put_out (HasPlea v w) events shows
refusals_have_pleas size v w RequestsSent events is = rw is.shown_are (all_sent_events v w is.more)
refusals_have_pleas size v w RequestsTakenUp events (is, shows) = none_put_out (HasPlea v w) events shows

-- ---- why members stop

module _ (v : View) (above : List Member) (m g : Member) (below : List Member) where
  -- it goes on as it is, or has stopped for a cause
  one_goes : (w : View) → v.members ≡ above ++ m ∷ below → w.members ≡ above ++ g ∷ below → (m.node.stopped ≢ Some Disorder → g.node.stopped ≢ Some Disorder) → HasNoDisorder v → HasNoDisorder w
  one_goes w were are keeps all = subst (All (λ x. x.node.stopped ≢ Some Disorder)) (sym are)
      (all_changed (λ x. x.node.stopped ≢ Some Disorder) above m g below keeps (subst (All (λ x. x.node.stopped ≢ Some Disorder)) were all))

  same_goes : (w : View) → v.members ≡ above ++ m ∷ below → w.members ≡ above ++ g ∷ below → g.node.stopped ≡ m.node.stopped → HasNoDisorder v → HasNoDisorder w
  same_goes w were are same = one_goes w were are (λ other is. other (sym same ∙ is))

  taken_same : (size : ℕ) (taking : Taking) (d : Held) (rest : List Held) (events : List ClientEvent) → Takes size taking d rest m g events → g.node.stopped ≡ m.node.stopped
  taken_same size Drop d rest events (is, shows) = ap (λ (x : Member). x.node.stopped) is
  taken_same size (Refuse error) d rest events (may, is, shows) = ap (λ (x : Member). x.node.stopped) is
  taken_same size (Answer offset len) d rest events (runs, asked, clean, sized, inside, is, shows) = ap (λ (x : Member). x.node.stopped) is
  taken_same size (Ask offset len token) d rest events (asked, session, cookie, is, shows) = ap (λ (x : Member). x.node.stopped) is
  taken_same size (Wait token) d rest events (asked, session, cookie, unbound, is, shows) = ap (λ (x : Member). x.node.stopped) is

  same_keeps : g.node.stopped ≡ m.node.stopped → m.node.stopped ≢ Some Disorder → g.node.stopped ≢ Some Disorder
  same_keeps same other is = other (sym same ∙ is)

  done_goes : (doing : Doing) (events : List ClientEvent) → Does v doing m g events → m.node.stopped ≢ Some Disorder → g.node.stopped ≢ Some Disorder
  done_goes (LookUp front) events (number, is, shows) = same_keeps (ap (λ (x : Member). x.node.stopped) is)
  done_goes (AnswerFront front) events (runs, found, within, out, is) = same_keeps (ap (λ (x : Member). x.node.stopped) is)
  done_goes (AnswerFloor floor) events (within, backed, out, is) = same_keeps (ap (λ (x : Member). x.node.stopped) is)
  done_goes (KeepRaised front) events (within, is, shows) = same_keeps (ap (λ (x : Member). x.node.stopped) is)
  done_goes (BeginCommit commit) events (is, shows) = same_keeps (ap (λ (x : Member). x.node.stopped) is)
  done_goes (EndCommit p) events (runs, from, upto, is, shows) = same_keeps (ap (λ (x : Member). x.node.stopped) is)
  done_goes (Stop cause) events (runs, other, out, is) = λ was disorder.
      let stopped : g.node.stopped ≡ Some cause = ap (λ (x : Member). x.node.stopped) is in
      let both : Some cause ≡ Some Disorder = sym stopped ∙ disorder in other (same_cause cause both)
    where
      same_cause : (cause : Cause) → Some cause ≡ Some Disorder → cause ≡ Disorder
      same_cause cause is = cc

-- a step that a message brings about stops nobody
module _ (size : ℕ) (v : View) (above : List Member) (m : Member) (below : List Member) (from : ℕ) (envelope : Envelope) (s : State) (stands : MembersStand size (with_members v (above ++ m ∷ below)) s) where
  its_told : IsTold v.recorded v.before m.node
  its_told = all_at (λ x. IsTold v.recorded v.before x.node) above m below stands.2.places.told

  linked : AreLinked v.recorded v.before v.told.front v.links v.submits
  linked = stands.2.links

  -- from a chain link
  on_link : (links : ℕ → ℕ → List Envelope) (stepped : Stepped) → deliver from envelope m.node ≡ Taken stepped → HasPassed from (slot_of m) envelope stepped.out.messages v.links links
      → m.node.stopped ≢ Some Disorder → stepped.node.stopped ≢ Some Disorder
  on_link links stepped taken has other =
      each_delivery (λ x. HasPassed from (slot_of m) envelope x.out.messages v.links links → x.node.stopped ≢ Some Disorder) from envelope m.node (record {
        quiet = λ it. other;
        applies = λ n origin write it. other;
        knows = λ told known it. other;
        turns = λ it. other;
        further = λ runs now n origin write is far it.
            let near : n ≤ suc (last_of m.node) = not_further size v above m below runs from envelope links now n origin write is (record m { node = (stop Disorder m.node).node }) refl [] [] (sends_nothing m.node) it s stands in
            absurd (omega (arith, far, near));
        above = λ runs now front is far it.
            let (within, belongs) = first_proper v.recorded v.before v.told.front from (slot_of m) envelope v.links it.between v.submits it.taken linked in
            let committed : front ≤ v.told.front = subst (Belongs v.recorded v.before v.told.front envelope.epoch from (slot_of m)) is belongs in
            let reached = reach size v above m below s stands.0 stands.1 runs stands.2 in absurd (omega (arith, reached.has));
        astray = λ runs now ticket write is no it.
            let (within, belongs) = first_proper v.recorded v.before v.told.front from (slot_of m) envelope v.links it.between v.submits it.taken linked in
            absurd (subst (Belongs v.recorded v.before v.told.front envelope.epoch from (slot_of m)) is belongs);
      }) stepped taken has

  -- and from a submit link
  on_submit : (submits : ℕ → ℕ → List Envelope) (stepped : Stepped) → deliver from envelope m.node ≡ Taken stepped → HasTaken from (slot_of m) envelope v.submits submits
      → m.node.stopped ≢ Some Disorder → stepped.node.stopped ≢ Some Disorder
  on_submit submits stepped taken has other = each_delivery (λ x. x.node.stopped ≢ Some Disorder) from envelope m.node (record {
    quiet = other;
    applies = λ n origin write. other;
    knows = λ told known. other;
    turns = other;
    further = λ runs now n origin write is far. absurd (subst (BelongsToHead v.recorded v.before envelope.epoch from (slot_of m)) is belongs);
    above = λ runs now front is far. absurd (subst (BelongsToHead v.recorded v.before envelope.epoch from (slot_of m)) is belongs);
    astray = λ runs now ticket write is no.
        let (numbered, head) = in_chain runs now (subst (BelongsToHead v.recorded v.before envelope.epoch from (slot_of m)) is belongs) in
        elim no [ inl not_head ↦ absurd (true≢false (sym (head_is_head m.node.place.chain (slot_of m) head) ∙ not_head)) | inr none ↦ absurd (numbered none) ];
  }) stepped taken
    where
      belongs : BelongsToHead v.recorded v.before envelope.epoch from (slot_of m) envelope.message
      belongs = (All-head (IsProperSubmit v.recorded v.before from (slot_of m)) envelope (submits from (slot_of m)) (subst (All (IsProperSubmit v.recorded v.before from (slot_of m))) has.first (linked.submits_of from (slot_of m)))).1

      in_chain : m.node.stopped ≡ None → envelope.epoch ≡ epoch_of m.node → IsForHead v.recorded v.before envelope.epoch from (slot_of m)
          → (incarnation_in m.node.place.chain from ≢ None) × (head_of m.node.place.chain ≡ Some (slot_of m))
      in_chain runs now is = elim (told_one v.recorded v.before m.node its_told runs) [
        | inl (same, chain) ↦ subst (λ (r : Record). (incarnation_in r from ≢ None) × (head_of r ≡ Some (slot_of m))) (sym chain) (is.now (now ∙ same))
        | inr (old, chain) ↦ subst (λ (r : Record). (incarnation_in r from ≢ None) × (head_of r ≡ Some (slot_of m))) (sym chain) (is.old (ap suc now ∙ old))
      ]

-- nobody is stopped, where no member's node changes
stay : (v w : View) → w.members ≡ v.members → HasNoDisorder v → HasNoDisorder w
stay v w same all = subst (All (λ x. x.node.stopped ≢ Some Disorder)) (sym same) all

standing : (size : ℕ) (v : View) (members : List Member) (s : State) → v.members ≡ members → StandsFor size v s → MembersStand size (with_members v members) s
standing size v members s were stands = subst (λ (ms : List Member). MembersStand size (with_members v ms) s) were stands.0

pub stops_have_causes : StopsHaveCauses
stops_have_causes size v w s (MemberTakes taking) events stands one =
    same_goes v one.above one.old one.new one.below w one.were (ap (λ (x : View). x.members) one.are)
    (taken_same v one.above one.old one.new one.below size taking one.change.demand one.change.rest events one.change.takes)
stops_have_causes size v w s MemberSubmits events stands (is, shows) =
    same_goes v is.above is.member (record is.member { node = (submit is.token is.write is.member.node).node; demands = is.rest }) is.below w is.were (ap (λ (x : View). x.members) is.are) refl
stops_have_causes size v w s (MemberDoes doing) events stands one =
    one_goes v one.above one.old one.new one.below w one.were (ap (λ (x : View). x.members) one.are) (done_goes v one.above one.old one.new one.below doing events one.change)
stops_have_causes size v w s RaisedKnown events stands is =
    same_goes v is.above is.member (record is.member { node = (know is.front.number is.front.number is.member.node).node }) is.below w is.were (ap (λ (x : View). x.members) is.are) refl
stops_have_causes size v w s FrontHeld events stands is =
    one_goes v is.above is.tail (record is.tail { node = (hold is.tail.node).node }) is.below w is.were (ap (λ (x : View). x.members) is.are)
    (each_held (λ (x : Stepped). is.tail.node.stopped ≢ Some Disorder → x.node.stopped ≢ Some Disorder) is.tail.node is.front is.found
    (λ far.
    let (line, backed, whole) = standing size v (is.above ++ is.tail ∷ is.below) s is.were stands in
    let reached = reach size v is.above is.tail is.below s line backed is.runs whole in absurd (omega (arith, reached.has, is.committed)))
    (λ other. other))
stops_have_causes size v w s MessageTaken events stands is =
    one_goes v is.above is.member (record is.member { node = is.stepped.node }) is.below w is.were (ap (λ (x : View). x.members) is.are)
    (on_link size v is.above is.member is.below is.from is.envelope s (standing size v (is.above ++ is.member ∷ is.below) s is.were stands) is.links is.stepped is.taken is.passed)
stops_have_causes size v w s SubmitTaken events stands is =
    one_goes v is.above is.member (record is.member { node = is.stepped.node }) is.below w is.were (ap (λ (x : View). x.members) is.are)
    (on_submit size v is.above is.member is.below is.from is.envelope s (standing size v (is.above ++ is.member ∷ is.below) s is.were stands) is.submits is.stepped is.taken is.gone)
stops_have_causes size v w s FrontRaised events stands (is, shows) = stay v w (ap (λ (x : View). x.members) is.are)
stops_have_causes size v w s BoardTells events stands (is, shows) = stay v w (ap (λ (x : View). x.members) is.are)
stops_have_causes size v w s RecordBegun events stands (is, shows) = stay v w (ap (λ (x : View). x.members) is.are)
stops_have_causes size v w s RecordEnded events stands (is, shows) = stay v w (ap (λ (x : View). x.members) is.are)
stops_have_causes size v w s JoinerCounted events stands (is, shows) = stay v w (ap (λ (x : View). x.members) is.are)
stops_have_causes size v w s JoinerLeft events stands (is, shows) = stay v w (ap (λ (x : View). x.members) is.are)
stops_have_causes size v w s JoinBegun events stands (is, shows) = stay v w (ap (λ (x : View). x.members) is.are)
stops_have_causes size v w s JoinEnded events stands (is, shows) = λ all.
    let P : Member → Type 0 = λ x. x.node.stopped ≢ Some Disorder in
    let runs : is.member.node.stopped ≢ Some Disorder = λ disorder. let no : None ≡ Some Disorder = sym is.starts.idle.runs ∙ disorder in cc in
    subst (All P) (sym (ap (λ (x : View). x.members) is.are)) (All-append P v.members (is.member ∷ []) all (All-cons P is.member [] runs (All-nil P)))
stops_have_causes size v w s MemberForgotten events stands (is, shows) = λ all.
    let P : Member → Type 0 = λ x. x.node.stopped ≢ Some Disorder in
    subst (All P) (sym (ap (λ (x : View). x.members) is.are)) (all_without P is.above is.member is.below (subst (All P) is.were all))
stops_have_causes size v w s MemberTold events stands is =
    one_goes v is.above is.member (record is.member { node = is.stepped.node }) is.below w is.were (ap (λ (x : View). x.members) is.are)
    (each_told (λ x. is.member.node.stopped ≢ Some Disorder → x.node.stopped ≢ Some Disorder) v.recorded is.member.node (λ other. other) (λ other. other) (λ other. other) is.stepped is.taken)
stops_have_causes size v w s SessionBegins events stands (at, are, shows) = stay v w (ap (λ (x : View). x.members) are)
stops_have_causes size v w s SessionEnds events stands (at, are, shows) = stay v w (ap (λ (x : View). x.members) are)
stops_have_causes size v w s RequestsSent events stands is = stay v w (ap (λ (x : View). x.members) is.are)
stops_have_causes size v w s RequestsTakenUp events stands (is, shows) =
    same_goes v is.above is.member (record is.member { demands = is.member.demands ++ is.taken }) is.below w is.were (ap (λ (x : View). x.members) is.are) refl
