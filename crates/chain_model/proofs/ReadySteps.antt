-- That whatever happens in a chain leaves ready who joins: lemmas.
use Rattle.std.proofs.Common.{◌≡◌, ◌≢◌, ℕ, None, Some, List, ◌∷◌, ◌++◌, refl, sym, ◌∙◌, ap, subst, arith}
use Rattle.std.specs.Prelude.{All, fold, take}
use Rattle.std.specs.Option.{ForSome}
use Rattle.std.proofs.lemmas.Bool.{true≢false}
use Rattle.std.proofs.lemmas.Option.{same_Some}
use Rattle.board.specs.Mask.{counts}
use Rattle.chain_steps.specs.Node.{Stepped, Taken}
use Rattle.chain_steps.specs.Steps.{deliver, hold, know, stop, submit, told}
use Rattle.chain_steps.specs.declared.cause.Cause.{Cause}
use Rattle.chain_steps.specs.declared.cause.Cause.TheVariants.{Disorder}
use Rattle.chain_steps.specs.declared.message.Envelope.{Envelope}
use Rattle.version_table.specs.Held.{writes_upto}
use Rattle.volume.specs.Writes.{patched, volume_of}
use Rattle.world_model.proofs.Counting.{all_at, all_without}
use Rattle.world_model.specs.Event.{ClientEvent}
use Rattle.world_model.specs.Machine.{Move, RunsOn, State, machine_volume}
use Rattle.world_model.specs.Order.{volume_after}
use Rattle.world_model.specs.Requests.{Held}
use Rattle.world_model.proofs.TokenSteps.{first_writes_are}
use Rattle.chain_model.specs.Chain.{IsAtRest, IsJoining, MembersStand, StandsFor}
use Rattle.chain_model.proofs.HeldSteps.{each_held, held_stays}
use Rattle.chain_model.proofs.JoiningSteps.{Keeps, StillJoins, counted_still, joins_still, one_keeps, one_still, same_members, told_rests, volume_stays}
use Rattle.chain_model.specs.Laws.{with_members}
use Rattle.chain_model.specs.Life.{Answer, AnswerFloor, AnswerFront, Ask, BeginCommit, BoardTells, Does, Doing, Drop, EndCommit, FrontHeld, FrontRaised, Happening, Happens, IsCounted, IsForgotten, IsRaised, JoinBegun, JoinEnded, JoinerCounted, JoinerLeft, KeepRaised, LookUp, MemberDoes, MemberForgotten, MemberSubmits, MemberTakes, MemberTold, MessageTaken, RaisedKnown, RecordBegun, RecordEnded, Refuse, RequestsSent, RequestsTakenUp, SessionBegins, SessionEnds, Stop, SubmitTaken, Takes, Taking, Wait}
use Rattle.chain_model.proofs.MemberSteps.{reach, volume_is}
use Rattle.chain_model.proofs.RefusingSteps.{each_delivery, each_told}
use Rattle.chain_model.specs.View.{Member, View, requests_of, slot_of}

-- ---- one member's steps

-- it is as it was, but for what doesn't matter
as_it_was : (m g : Member) → g.node.place ≡ m.node.place → g.node.stopped ≡ m.node.stopped → g.node.holds ≡ m.node.holds → Keeps m g
as_it_was m g place stopped holds = record { place = place; runs = λ runs. sym stopped ∙ runs; holds = λ held. holds ∙ held }

-- and so it is if it became another that is
becomes_one : (m g x : Member) → g ≡ x → Keeps m x → Keeps m g
becomes_one m g x same keeps = subst (Keeps m) (sym same) keeps

taking_keeps : (size : ℕ) (taking : Taking) (d : Held) (rest : List Held) (m g : Member) (events : List ClientEvent) → Takes size taking d rest m g events → Keeps m g
taking_keeps size Drop d rest m g events (is, shows) = becomes_one m g (record m { demands = rest }) is (as_it_was m (record m { demands = rest }) refl refl refl)
taking_keeps size (Refuse error) d rest m g events (may, is, shows) = becomes_one m g (record m { demands = rest }) is (as_it_was m (record m { demands = rest }) refl refl refl)
taking_keeps size (Answer offset len) d rest m g events (runs, asked, clean, sized, inside, is, shows) = becomes_one m g (record m { demands = rest }) is (as_it_was m (record m { demands = rest }) refl refl refl)
taking_keeps size (Ask offset len token) d rest m g events (asked, session, cookie, is, shows) = becomes_one m g _ is (as_it_was m _ refl refl refl)
taking_keeps size (Wait token) d rest m g events (asked, session, cookie, unbound, is, shows) = becomes_one m g _ is (as_it_was m _ refl refl refl)

-- it has stopped
stopped_keeps : (m : Member) (cause : Cause) → Keeps m (record m { node = (stop cause m.node).node })
stopped_keeps m cause = record { place = refl; runs = λ runs. absurd cc; holds = λ held. held }

doing_keeps : (v : View) (doing : Doing) (m g : Member) (events : List ClientEvent) → Does v doing m g events → Keeps m g
doing_keeps v (LookUp front) m g events (number, is, shows) = becomes_one m g _ is (as_it_was m _ refl refl refl)
doing_keeps v (AnswerFront front) m g events (runs, found, within, out, is) = becomes_one m g _ is (as_it_was m _ refl refl refl)
doing_keeps v (AnswerFloor floor) m g events (within, backed, out, is) = becomes_one m g _ is (as_it_was m _ refl refl refl)
doing_keeps v (KeepRaised front) m g events (within, is, shows) = becomes_one m g _ is (as_it_was m _ refl refl refl)
doing_keeps v (BeginCommit commit) m g events (is, shows) = becomes_one m g _ is (as_it_was m _ refl refl refl)
doing_keeps v (EndCommit p) m g events (runs, from, upto, is, shows) = becomes_one m g _ is (as_it_was m _ refl refl refl)
doing_keeps v (Stop cause) m g events (runs, other, out, is) = becomes_one m g _ is (stopped_keeps m cause)

abbrev StepKeeps : Member → Stepped → Type 0
StepKeeps m stepped = Keeps m (record m { node = stepped.node })

delivery_keeps : (m : Member) (from : ℕ) (envelope : Envelope) (stepped : Stepped) → deliver from envelope m.node ≡ Taken stepped → StepKeeps m stepped
delivery_keeps m from envelope stepped taken = each_delivery (StepKeeps m) from envelope m.node (record {
  quiet = as_it_was m m refl refl refl;
  applies = λ n origin write. as_it_was m _ refl refl refl;
  knows = λ told known. as_it_was m _ refl refl refl;
  turns = as_it_was m _ refl refl refl;
  further = λ runs now n origin write is far. stopped_keeps m Disorder;
  above = λ runs now front is far. stopped_keeps m Disorder;
  astray = λ runs now ticket write is no. stopped_keeps m Disorder;
}) stepped taken

-- ---- who is counted

counted_joins : (size : ℕ) (v w : View) (is : IsCounted v w) (s t : State) (moves : List Move) → StandsFor size v s → RunsOn s moves t → MembersStand size (record v { joiner = Some is.joiner }) t
    → IsJoining size (record v { joiner = Some is.joiner }) t is.joiner
counted_joins size v w is s t moves stands run (line_then, backed_then, stands_then) =
    let there : StandsFor size (with_members v (is.above ++ is.tail ∷ is.below)) s = subst (λ (ms : List Member). StandsFor size (with_members v ms) s) is.were stands in
    let (line, backed, members) = there.0 in
    let held : is.joiner.front ≡ v.told.front = is.front ∙ held_stays size v is.above is.tail is.below s there is.runs is.holds in
    let reached = reach size v is.above is.tail is.below s line backed is.runs members in
    let volume : fold patched is.tail.volume (writes_upto is.tail.node.table is.joiner.front) ≡ volume_after size (take is.joiner.front line) =
    volume_is size v is.above is.tail is.below s line backed is.joiner.front is.runs members (omega (arith, reached.within, is.front)) (omega (arith, reached.has, held)) in
    let (names, clients) = members.clients in
    let first : machine_volume size s is.joiner.front ≡ volume_after size (take is.joiner.front line) =
    ap (volume_of size) (first_writes_are backed (requests_of (with_members v (is.above ++ is.tail ∷ is.below)) line) s names clients is.joiner.front (omega (arith, held))) in
    record {
      held = held;
      volume = is.volume ∙ volume ∙ sym first ∙ sym (volume_stays size s t moves is.joiner.front run (sym stands_then.clients.1.committed ∙ clients.committed));
      counted = is.counted;
      incarnation = is.incarnation;
      apart = is.apart;
      rests = is.rests;
    }

-- ---- whatever happens

module _ (size : ℕ) (v w : View) (s t : State) (moves : List Move) (stands : StandsFor size v s) (run : RunsOn s moves t) (members : MembersStand size w t) where
  still : StillJoins v w → ForSome w.joiner (IsJoining size w t)
  still is = joins_still size v w s t moves is stands.0 run members stands.1

  nobody : w.joiner ≡ None → ForSome w.joiner (IsJoining size w t)
  nobody none j is = let no : None ≡ Some j = sym none ∙ is in cc

  -- one member changes
  changed : (above : List Member) (m g : Member) (below : List Member) (x : View) → w ≡ x → v.members ≡ above ++ m ∷ below → x.members ≡ above ++ g ∷ below → x.told ≡ v.told → x.joiner ≡ v.joiner → x.recorded ≡ v.recorded
      → x.youngest ≡ v.youngest → Keeps m g → ForSome w.joiner (IsJoining size w t)
  changed above m g below x is were are told joiner recorded youngest keeps = still
      (one_still v w above m g below were (ap (λ (y : View). y.members) is ∙ are) (ap (λ (y : View). y.told) is ∙ told) (ap (λ (y : View). y.joiner) is ∙ joiner) (ap (λ (y : View). y.recorded) is ∙ recorded)
      (ap (λ (y : View). y.youngest) is ∙ youngest) keeps)

  -- none does
  unchanged : (x : View) → w ≡ x → x.told ≡ v.told → x.joiner ≡ v.joiner → x.recorded ≡ v.recorded → x.youngest ≡ v.youngest → x.members ≡ v.members → ForSome w.joiner (IsJoining size w t)
  unchanged x is told joiner recorded youngest same = still
      (same_members v w (ap (λ (y : View). y.told) is ∙ told) (ap (λ (y : View). y.joiner) is ∙ joiner) (ap (λ (y : View). y.recorded) is ∙ recorded)
      (ap (λ (y : View). y.youngest) is ∙ youngest) (ap (λ (y : View). y.members) is ∙ same))

  -- a tail that holds doesn't raise
  raises_not : IsRaised v w → ForSome w.joiner (IsJoining size w t)
  raises_not is j joins =
      let it : IsJoining size v s j = stands.1 j (sym (ap (λ (y : View). y.joiner) is.are) ∙ joins) in
      let rests : IsAtRest v.recorded is.tail = all_at (IsAtRest v.recorded) is.above is.tail is.below (subst (All (IsAtRest v.recorded)) is.were it.rests) in
      absurd (true≢false (sym ((rests is.runs).1 is.ends) ∙ is.free))

  counted : IsCounted v w → ForSome w.joiner (IsJoining size w t)
  counted is j joins =
      let same : Some is.joiner ≡ Some j = sym (ap (λ (y : View). y.joiner) is.are) ∙ joins in
      let ready = counted_joins size v w is s t moves stands run (subst (λ (y : View). MembersStand size y t) is.are members) in
      subst (λ (y : View). IsJoining size y t j) (sym is.are) (subst (IsJoining size (record v { joiner = Some is.joiner }) t) (same_Some is.joiner j same) ready)

  -- what holds of all holds without one
  without : IsForgotten v w → (P : Member → Type 0) → All P v.members → All P w.members
  without is P all = subst (All P) (sym (ap (λ (y : View). y.members) is.are)) (all_without P is.above is.member is.below (subst (All P) is.were all))

  pub leaves_ready : (h : Happening) (events : List ClientEvent) → Happens size h v w events → ForSome w.joiner (IsJoining size w t)
  leaves_ready (MemberTakes taking) events one = changed one.above one.old one.new one.below (with_members v (one.above ++ one.new ∷ one.below)) one.are one.were refl refl refl refl refl
      (taking_keeps size taking one.change.demand one.change.rest one.old one.new events one.change.takes)
  leaves_ready MemberSubmits events (is, shows) =
      changed is.above is.member (record is.member { node = (submit is.token is.write is.member.node).node; demands = is.rest }) is.below _ is.are is.were refl refl refl refl refl (as_it_was is.member _ refl refl refl)
  leaves_ready (MemberDoes doing) events one =
      changed one.above one.old one.new one.below (with_members v (one.above ++ one.new ∷ one.below)) one.are one.were refl refl refl refl refl (doing_keeps v doing one.old one.new events one.change)
  leaves_ready RaisedKnown events is =
      changed is.above is.member (record is.member { node = (know is.front.number is.front.number is.member.node).node }) is.below _ is.are is.were refl refl refl refl refl (as_it_was is.member _ refl refl refl)
  leaves_ready FrontHeld events is = changed is.above is.tail (record is.tail { node = (hold is.tail.node).node }) is.below _ is.are is.were refl refl refl refl refl
      (each_held (StepKeeps is.tail) is.tail.node is.front is.found (λ far. stopped_keeps is.tail Disorder) (record { place = refl; runs = λ runs. runs; holds = λ held. refl }))
  leaves_ready MessageTaken events is =
      changed is.above is.member (record is.member { node = is.stepped.node }) is.below _ is.are is.were refl refl refl refl refl (delivery_keeps is.member is.from is.envelope is.stepped is.taken)
  leaves_ready SubmitTaken events is =
      changed is.above is.member (record is.member { node = is.stepped.node }) is.below _ is.are is.were refl refl refl refl refl (delivery_keeps is.member is.from is.envelope is.stepped is.taken)
  leaves_ready FrontRaised events (is, shows) = λ j joins. raises_not is j joins
  leaves_ready BoardTells events (is, shows) = still (record {
    front = ap (λ (y : View). y.told.front) is.are ∙ is.front;
    counted = λ j here was. ap (λ (y : View). counts y.told.mask j.slot) is.are ∙ is.joiner j here was;
    joiner = ap (λ (y : View). y.joiner) is.are;
    recorded = ap (λ (y : View). y.recorded) is.are;
    youngest = ap (λ (y : View). y.youngest) is.are;
    apart = λ slot all. subst (All (λ m. slot_of m ≢ slot)) (sym (ap (λ (y : View). y.members) is.are)) all;
    rests = λ all. subst (All (IsAtRest v.recorded)) (sym (ap (λ (y : View). y.members) is.are)) all;
  })
  leaves_ready RecordBegun events (is, shows) = unchanged (record v { writing = Some is.next }) is.are refl refl refl refl refl
  leaves_ready RecordEnded events (is, shows) = nobody (ap (λ (y : View). y.joiner) is.are ∙ is.alone)
  leaves_ready JoinerCounted events (is, shows) = λ j joins. counted is j joins
  leaves_ready JoinerLeft events (is, shows) = nobody (ap (λ (y : View). y.joiner) is.are)
  leaves_ready JoinBegun events (is, shows) = unchanged (record v { writing = Some is.next }) is.are refl refl refl refl refl
  leaves_ready JoinEnded events (is, shows) = nobody (ap (λ (y : View). y.joiner) is.are)
  leaves_ready MemberForgotten events (is, shows) = still (record {
    front = ap (λ (y : View). y.told.front) is.are;
    counted = counted_still v w.told.mask (ap (λ (y : View). y.told.mask) is.are);
    joiner = ap (λ (y : View). y.joiner) is.are;
    recorded = ap (λ (y : View). y.recorded) is.are;
    youngest = ap (λ (y : View). y.youngest) is.are;
    apart = λ slot all. without is (λ m. slot_of m ≢ slot) all;
    rests = λ all. without is (IsAtRest v.recorded) all;
  })
  leaves_ready MemberTold events is = still
      (one_keeps v w is.above is.member (record is.member { node = is.stepped.node }) is.below is.were (ap (λ (y : View). y.members) is.are) (ap (λ (y : View). y.told) is.are) (ap (λ (y : View). y.joiner) is.are)
      (ap (λ (y : View). y.recorded) is.are) (ap (λ (y : View). y.youngest) is.are) (each_told (λ x. x.node.place.slot ≡ is.member.node.place.slot) v.recorded is.member.node refl refl refl is.stepped is.taken) (told_rests v.recorded is.member is.stepped is.taken))
  leaves_ready SessionBegins events (at, are, shows) = unchanged _ are refl refl refl refl refl
  leaves_ready SessionEnds events (at, are, shows) = unchanged _ are refl refl refl refl refl
  leaves_ready RequestsSent events is = unchanged _ is.are refl refl refl refl refl
  leaves_ready RequestsTakenUp events (is, shows) =
      changed is.above is.member (record is.member { demands = is.member.demands ++ is.taken }) is.below _ is.are is.were refl refl refl refl refl (as_it_was is.member _ refl refl refl)
