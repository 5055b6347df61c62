-- That every life of a chain whose record changes is one of the one volume: lemmas.
use Rattle.std.proofs.Common.{◌≡◌, ◌⊎◌, inl, inr, ◌≤◌, max, ℕ, List, [], ◌∷◌, ◌++◌, refl, sym, ◌∙◌, ap, subst, arith}
use Rattle.std.specs.Prelude.{All, None, Option, Some, fold, map, set}
use Rattle.std.proofs.lemmas.List.Elements.{All-head}
use Rattle.chain_steps.specs.Node.{epoch_of, last_of}
use Rattle.chain_steps.specs.Steps.{ended, flush, read_asked}
use Rattle.chain_steps.specs.declared.found.Found.{Found}
use Rattle.chain_steps.specs.declared.found.Found.TheVariants.{Looked, Raised}
use Rattle.version_table.specs.Held.{writes_upto}
use Rattle.volume.specs.Writes.{patched}
use Rattle.world_model.specs.Chain.{raised_by}
use Rattle.world_model.specs.Event.{ClientEvent}
use Rattle.world_model.specs.Life.{all_events}
use Rattle.world_model.specs.Machine.{May, Move, Plays, Restart, RunsOn, State, after, shown, start}
use Rattle.world_model.specs.Requests.{Held, sent_event}
use Rattle.world_model.proofs.Runs.{plays_nothing, plays_then}
use Rattle.chain_model.proofs.BoardSteps.{connects, forgets, raises_front, sends_all, takes_up, tells_disks}
use Rattle.chain_model.specs.Chain.{MembersStand, StandsFor}
use Rattle.chain_model.proofs.CommitSteps.{ends_commit}
use Rattle.chain_model.proofs.ForgettingSteps.{forgets_member}
use Rattle.chain_model.proofs.HeldSteps.{holds_front}
use Rattle.chain_model.proofs.JoinedSteps.{join_written, joined}
use Rattle.chain_model.specs.Laws.{BeginsJoin, EndsJoin, KnowsRaised, with_members}
use Rattle.chain_model.specs.Life.{Answer, AnswerFloor, AnswerFront, Ask, BeginCommit, BoardTells, Does, Doing, Drop, EndCommit, Era, FrontHeld, FrontRaised, Happening, HappeningsAreOfOneVolume, Happens, IsCut, IsCutToJoiner, IsJoinBegun, IsJoinEnded, JoinBegun, JoinEnded, JoinerCounted, JoinerLeft, KeepRaised, Life, LivesAreOfOneVolume, LookUp, MemberDoes, MemberForgotten, MemberSubmits, MemberTakes, MemberTold, MessageTaken, RaisedKnown, RecordBegun, RecordEnded, Refuse, RequestsSent, RequestsTakenUp, RunsEras, SessionBegins, SessionEnds, Stop, SubmitTaken, Takes, Taking, Wait}
use Rattle.chain_model.proofs.MemberSteps.{answers, begins, keeps_raised, looks_up, pays}
use Rattle.chain_model.proofs.MessageSteps.{takes_message}
use Rattle.chain_model.proofs.PassingSteps.{its_raised, knows_itself, stops}
use Rattle.chain_model.proofs.ReadySteps.{leaves_ready}
use Rattle.chain_model.proofs.RecordSteps.{begins_record, ends_record}
use Rattle.chain_model.proofs.RestartSteps.{first_chain, restarts_chain, restarts_from_joiner}
use Rattle.chain_model.proofs.SendingSteps.{submits_write}
use Rattle.chain_model.proofs.SubmittedSteps.{takes_submit}
use Rattle.chain_model.proofs.TakingSteps.{asks_for, drops, flushes_for, reads_clean, refuses}
use Rattle.chain_model.proofs.ToldSteps.{tells_member}
use Rattle.chain_model.specs.View.{Joiner, Member, View}

-- a member knows a front that it raised, and that is committed
pub knows_raised : KnowsRaised
knows_raised size v above m below front links events runs found more sent out s (line, backed, stands) =
    let its : All (λ f. f ≤ v.told.front) (raised_by (Some (Raised front))) =
    subst (λ (o : Option Found). All (λ f. f ≤ v.told.front) (raised_by o)) found (its_raised size v above m below s line backed stands) in
    let committed : front.number ≤ v.told.front = All-head (λ f. f ≤ v.told.front) front.number [] its in
    let known : front.number ≡ max m.node.known front.number = omega (arith, more) in
    knows_itself size v above m below runs front.number front.number links events committed committed known out sent s (line, backed, stands)

-- what one member does, as a change of the chain
abbrev Changes : ℕ → View → List Member → Member → Member → List Member → List ClientEvent → Type 0
Changes size v above m g below events = Plays size (MembersStand size (with_members v (above ++ m ∷ below))) (MembersStand size (with_members v (above ++ g ∷ below))) events

-- to another member, with other events
as_they_are : (size : ℕ) (v : View) (above : List Member) (m g h : Member) (below : List Member) (events others : List ClientEvent) → g ≡ h → events ≡ others → Changes size v above m h below others
    → Changes size v above m g below events
as_they_are size v above m g h below events others same also changes =
    subst (λ (x : Member). Changes size v above m x below events) (sym same) (subst (Changes size v above m h below) (sym also) changes)

takes : (size : ℕ) (v : View) (above : List Member) (m g : Member) (below : List Member) (taking : Taking) (d : Held) (rest : List Held) (events : List ClientEvent) → m.demands ≡ d ∷ rest
    → Takes size taking d rest m g events → Changes size v above m g below events
takes size v above m g below Drop d rest events first (are, shows) = as_they_are size v above m g (record m { demands = rest }) below events [] are shows (drops size v above m below d rest first)
takes size v above m g below (Refuse error) d rest events first (may, are, shows) = subst (λ (x : Member). Changes size v above m x below events) (sym are)
    (subst (Changes size v above m (record m { demands = rest }) below) (sym shows) (refuses size v above m below d rest first error))
takes size v above m g below (Answer offset len) d rest events first (runs, asked, clean, sized, inside, are, shows) = subst (λ (x : Member). Changes size v above m x below events) (sym are)
    (subst (Changes size v above m (record m { demands = rest }) below) (sym shows) (reads_clean size v above m below d rest first offset len runs asked clean sized inside))
takes size v above m g below (Ask offset len token) d rest events first (asked, session, cookie, are, shows) = subst (λ (x : Member). Changes size v above m x below events) (sym are)
    (subst (λ (es : List ClientEvent). Changes size v above m (record m { node = (read_asked offset len token m.node).node; demands = rest }) below es) (sym shows)
    (asks_for size v above m below d rest first offset len token asked session cookie))
takes size v above m g below (Wait token) d rest events first (asked, session, cookie, unbound, are, shows) = subst (λ (x : Member). Changes size v above m x below events) (sym are)
    (subst (λ (es : List ClientEvent). Changes size v above m (record m { node = (flush token m.node).node; demands = rest }) below es) (sym shows) (flushes_for size v above m below d rest first token asked session cookie unbound))

does : (size : ℕ) (v : View) (above : List Member) (m g : Member) (below : List Member) (doing : Doing) (events : List ClientEvent) → Does (with_members v (above ++ m ∷ below)) doing m g events → Changes size v above m g below events
does size v above m g below (LookUp front) events (is, are, shows) = subst (λ (x : Member). Changes size v above m x below events) (sym are)
    (subst (λ (es : List ClientEvent). Changes size v above m (record m { node = record m.node { found = Some (Looked front) } }) below es) (sym shows) (looks_up size v above m below front is))
does size v above m g below (AnswerFront front) events (runs, found, applied, out, are) = subst (λ (x : Member). Changes size v above m x below events) (sym are) (answers size v above m below front found events runs applied out)
does size v above m g below (AnswerFloor floor) events (committed, reached, out, are) = subst (λ (x : Member). Changes size v above m x below events) (sym are) (pays size v above m below floor events committed reached out)
does size v above m g below (KeepRaised front) events (le, are, shows) = subst (λ (x : Member). Changes size v above m x below events) (sym are)
    (subst (λ (es : List ClientEvent). Changes size v above m (record m { node = record m.node { found = Some (Raised front) } }) below es) (sym shows) (keeps_raised size v above m below front le))
does size v above m g below (BeginCommit commit) events (are, shows) = subst (λ (x : Member). Changes size v above m x below events) (sym are)
    (subst (λ (es : List ClientEvent). Changes size v above m (record m { node = record m.node { commit = commit; found = None } }) below es) (sym shows) (begins size v above m below commit))
does size v above m g below (EndCommit p) events (runs, from, upto, are, shows) = subst (λ (x : Member). Changes size v above m x below events) (sym are)
    (subst (λ (es : List ClientEvent). Changes size v above m (record m { node = ended p m.node; volume = fold patched m.volume (writes_upto m.node.table p) }) below es) (sym shows)
    (ends_commit size v above m below p runs from upto))
does size v above m g below (Stop cause) events (runs, other, out, are) = subst (λ (x : Member). Changes size v above m x below events) (sym are) (stops size v above m below runs cause events out)

-- a chain whose members are those, and what it becomes
from_members : (size : ℕ) (v w x : View) (members : List Member) (events : List ClientEvent) → v.members ≡ members → w ≡ x
    → Plays size (MembersStand size (with_members v members)) (MembersStand size x) events → Plays size (MembersStand size v) (MembersStand size w) events
from_members size v w x members events were are plays =
    subst (λ (y : View). Plays size (MembersStand size v) (MembersStand size y) events) (sym are)
    (subst (λ (ms : List Member). Plays size (MembersStand size (with_members v ms)) (MembersStand size x) events) (sym were) plays)

-- a chain, and what it becomes, where clients see nothing
in_silence : (size : ℕ) (v w x : View) (events : List ClientEvent) → w ≡ x → events ≡ [] → Plays size (MembersStand size v) (MembersStand size x) [] → Plays size (MembersStand size v) (MembersStand size w) events
in_silence size v w x events are shows plays =
    subst (Plays size (MembersStand size v) (MembersStand size w)) (sym shows) (subst (λ (y : View). Plays size (MembersStand size v) (MembersStand size y) []) (sym are) plays)

-- who joins is nothing to the members
joiner_aside : (size : ℕ) (v : View) (joiner : Option Joiner) → Plays size (MembersStand size v) (MembersStand size (record v { joiner = joiner })) []
joiner_aside size v joiner s (line, backed, stands) = (
  [],
  s,
  refl,
  refl,
  (
    line,
    backed,
    record {
      order = stands.order;
      holders = stands.holders;
      volumes = stands.volumes;
      places = stands.places;
      leavable = stands.leavable;
      links = stands.links;
      numbers = stands.numbers;
      disks = stands.disks;
      within = stands.within;
      backs = stands.backs;
      fronts = stands.fronts;
      raised = stands.raised;
      clients = stands.clients;
      slots = stands.slots;
      tickets = stands.tickets;
      dated = stands.dated;
      dated_before = stands.dated_before;
      origins = stands.origins;
    },
  ),
)

-- what members stand for goes on, whatever is said of a joiner beside
of_members : (size : ℕ) (v w : View) (events : List ClientEvent) → Plays size (MembersStand size v) (MembersStand size w) events → Plays size (StandsFor size v) (MembersStand size w) events
of_members size v w events plays s stands = plays s stands.0

-- the record with a joiner is being written, and it is recorded
join_begins : (size : ℕ) (v w : View) → IsJoinBegun v w → Plays size (StandsFor size v) (MembersStand size w) []
join_begins size v w is s ((line, backed, stands), joins) = (
  [],
  s,
  refl,
  refl,
  subst (λ (x : View). MembersStand size x s) (sym is.are) (line, backed, join_written size v is.joiner is.next is.follows s line backed stands (joins is.joiner is.joins) is.none),
)

join_ends : (size : ℕ) (v w : View) → IsJoinEnded v w → Plays size (StandsFor size v) (MembersStand size w) []
join_ends size v w is s ((line, backed, stands), joins) = (
  [],
  s,
  refl,
  refl,
  subst (λ (x : View). MembersStand size x s) (sym is.are) (line, _, joined size v is.joiner is.next is.follows s line backed stands (joins is.joiner is.joins) is.member is.starts is.begun),
)

members_happen : (size : ℕ) (v w : View) (h : Happening) (events : List ClientEvent) → Happens size h v w events → Plays size (StandsFor size v) (MembersStand size w) events
members_happen size v w (MemberTakes taking) events one = of_members size v w events (
    from_members size v w (with_members v (one.above ++ one.new ∷ one.below)) (one.above ++ one.old ∷ one.below) events one.were one.are
    (takes size v one.above one.old one.new one.below taking one.change.demand one.change.rest events one.change.first one.change.takes)
    )
members_happen size v w MemberSubmits events (is, shows) = of_members size v w events (
    subst (Plays size (MembersStand size v) (MembersStand size w)) (sym shows)
    (from_members size v w _ (is.above ++ is.member ∷ is.below) [] is.were is.are
    (submits_write size v is.above is.member is.below is.demand is.rest is.token is.write is.submits is.runs is.placed is.first is.writes is.kind is.fresh is.session is.cookie is.sent))
    )
members_happen size v w (MemberDoes doing) events one = of_members size v w events (
    from_members size v w (with_members v (one.above ++ one.new ∷ one.below)) (one.above ++ one.old ∷ one.below) events one.were one.are
    (does size v one.above one.old one.new one.below doing events (subst (λ (ms : List Member). Does (with_members v ms) doing one.old one.new events) one.were one.change))
    )
members_happen size v w RaisedKnown events is = of_members size v w events (
    from_members size v w _ (is.above ++ is.member ∷ is.below) events is.were is.are
    (knows_raised size v is.above is.member is.below is.front is.links events is.runs is.found is.more is.sent is.out)
    )
members_happen size v w FrontHeld events is = of_members size v w events (
    from_members size v w _ (is.above ++ is.tail ∷ is.below) events is.were is.are
    (holds_front size v is.above is.tail is.below is.front is.links events is.runs is.found is.committed is.now is.ends is.sent is.out)
    )
members_happen size v w MessageTaken events is = of_members size v w events (
    from_members size v w _ (is.above ++ is.member ∷ is.below) events is.were is.are
    (takes_message size v is.above is.member is.below is.from is.envelope is.stepped is.links events is.taken is.passed is.out)
    )
members_happen size v w SubmitTaken events is = of_members size v w events (
    from_members size v w _ (is.above ++ is.member ∷ is.below) events is.were is.are
    (takes_submit size v is.above is.member is.below is.from is.envelope is.stepped is.links is.submits events is.taken is.gone is.sent is.out)
    )
members_happen size v w FrontRaised events (is, shows) = of_members size v w events (
    subst (Plays size (MembersStand size v) (MembersStand size w)) (sym shows)
    (from_members size v w (record v { told = record v.told { front = last_of is.tail.node }; members = is.above ++ is.tail ∷ is.below }) (is.above ++ is.tail ∷ is.below) [] is.were
    (is.are ∙ ap (λ (ms : List Member). record (with_members v ms) { told = record v.told { front = last_of is.tail.node } }) is.were)
    (raises_front size v is.above is.tail is.below is.runs is.turned is.free is.ends))
    )
members_happen size v w BoardTells events (is, shows) = of_members size v w events (
    in_silence size v w (record v { told = is.told }) events is.are shows (tells_disks size v is.told is.front is.within is.backed is.fronts)
    )
members_happen size v w RecordBegun events (is, shows) = of_members size v w events (
    in_silence size v w (record v { writing = Some is.next }) events is.are shows (begins_record size v is.next is.follows is.none)
    )
members_happen size v w RecordEnded events (is, shows) = of_members size v w events (
    in_silence size v w (record v { recorded = is.next; before = v.recorded; writing = None }) events is.are shows (ends_record size v is.next is.follows is.begun is.told)
    )
members_happen size v w JoinerCounted events (is, shows) = of_members size v w events (in_silence size v w (record v { joiner = Some is.joiner }) events is.are shows (joiner_aside size v (Some is.joiner)))
members_happen size v w JoinerLeft events (is, shows) = of_members size v w events (in_silence size v w (record v { joiner = None }) events is.are shows (joiner_aside size v None))
members_happen size v w JoinBegun events (is, shows) = subst (Plays size (StandsFor size v) (MembersStand size w)) (sym shows) (join_begins size v w is)
members_happen size v w JoinEnded events (is, shows) = subst (Plays size (StandsFor size v) (MembersStand size w)) (sym shows) (join_ends size v w is)
members_happen size v w MemberForgotten events (is, shows) = of_members size v w events (
    subst (Plays size (MembersStand size v) (MembersStand size w)) (sym shows)
    (from_members size v w (with_members v (is.above ++ is.below)) (is.above ++ is.member ∷ is.below) [] is.were is.are
    (forgets_member size v is.above is.member is.below is.idle (subst (All (λ m. m.node.stopped ≡ None → epoch_of m.node ≡ v.recorded.epoch)) is.were is.told)))
    )
members_happen size v w MemberTold events is = of_members size v w events (
    from_members size v w _ (is.above ++ is.member ∷ is.below) events is.were is.are
    (tells_member size v is.above is.member is.below is.stepped is.links events is.taken is.sent is.out)
    )
members_happen size v w SessionBegins events (at, are, shows) = of_members size v w events (
    in_silence size v w _ events are shows (connects size v at)
    )
members_happen size v w SessionEnds events (at, are, shows) = of_members size v w events (
    in_silence size v w _ events are shows (forgets size v at)
    )
members_happen size v w RequestsSent events is = of_members size v w events (
    subst (Plays size (MembersStand size v) (MembersStand size w)) (sym is.shown_are)
    (subst (λ (x : View). Plays size (MembersStand size v) (MembersStand size x) (map sent_event is.more)) (sym is.are) (sends_all size v is.at is.kept is.more is.here))
    )
members_happen size v w RequestsTakenUp events (is, shows) = of_members size v w events (
    subst (Plays size (MembersStand size v) (MembersStand size w)) (sym shows)
    (from_members size v w (record v { members = is.above ++ record is.member { demands = is.member.demands ++ is.taken } ∷ is.below; kept = set v.kept is.at is.kept }) (is.above ++ is.member ∷ is.below) []
    is.were is.are (takes_up size v is.above is.member is.below is.at is.taken is.kept is.here))
    )

-- Whatever happens is of one volume: a run of the members leaves ready who joins.
pub happenings : HappeningsAreOfOneVolume
happenings size v w h events is s stands =
    let (moves, t, run, shows, members) = members_happen size v w h events is s stands in
    (moves, t, run, shows, (members, leaves_ready size v w s t moves stands run members h events is))

-- the two steps of the record with a joiner
pub begins_join : BeginsJoin
begins_join size v j next joins follows none = happenings size v (record v { writing = Some next }) JoinBegun [] (record { joiner = j; next = next; joins = joins; follows = follows; none = none; are = refl }, refl)

pub ends_join : EndsJoin
ends_join size v j next m joins follows begun starts = happenings size v (record v { recorded = next; before = v.recorded; writing = None; youngest = j.incarnation; joiner = None; members = v.members ++ m ∷ [] }) JoinEnded []
    (record { joiner = j; next = next; member = m; joins = joins; follows = follows; begun = begun; starts = starts; are = refl }, refl)

-- ---- eras and lives

era_plays : (size : ℕ) (v w : View) (hs : List Happening) (events : List (List ClientEvent)) → Era size v hs w events → Plays size (StandsFor size v) (StandsFor size w) (all_events events)
era_plays size v w [] events (same, none) =
    subst (λ (es : List (List ClientEvent)). Plays size (StandsFor size v) (StandsFor size w) (all_events es)) (sym none)
    (subst (λ (x : View). Plays size (StandsFor size v) (StandsFor size x) []) (sym same) (plays_nothing size (StandsFor size v)))
era_plays size v w (h ∷ hs) events (mid, now, later, are, happens, rest) =
    subst (λ (es : List (List ClientEvent)). Plays size (StandsFor size v) (StandsFor size w) (all_events es)) (sym are)
    (plays_then size (StandsFor size v) (StandsFor size mid) (StandsFor size w) now (all_events later) (happenings size v mid h now happens) (era_plays size mid w hs later rest))

lives_on : (size : ℕ) (v w : View) (eras : List (List Happening)) (events : List (List (List ClientEvent))) (s : State) → StandsFor size v s → Life size v eras w events
    → (t : State) × RunsEras size s events t × StandsFor size w t
lives_on size v w [] events s stands (same, none) = (
  s,
  subst (λ (es : List (List (List ClientEvent))). RunsEras size s es s) (sym none) refl,
  subst (λ (x : View). StandsFor size x s) (sym same) stands,
)
lives_on size v w (era ∷ []) events s stands (now, are, lived) =
    let (moves, t, run, shows, stood) = era_plays size v w era now lived s stands in
    (t, subst (λ (es : List (List (List ClientEvent))). RunsEras size s es t) (sym are) (moves, run, shows), stood)
lives_on size v w (era ∷ next ∷ eras) events s stands (end, begun, now, later, are, lived, cut, rest) =
    let (moves, mid, run, shows, stood) = era_plays size v end era now lived s stands in
    let (front, may, again) = goes_on_from end mid stood cut in
    let (t, runs, last) = lives_on size begun w (next ∷ eras) later (after mid (Restart front)) again rest in
    (t, subst (λ (es : List (List (List ClientEvent))). RunsEras size s es t) (sym are) (longer moves mid front now later s t run shows may runs rest), last)
  where
    -- at the front of a member's disk, or of a joiner's
    goes_on_from : (end : View) (mid : State) → StandsFor size end mid → IsCut end begun ⊎ IsCutToJoiner end begun → (front : ℕ) × May mid (Restart front) × StandsFor size begun (after mid (Restart front))
    goes_on_from end mid stood (inl cut) =
        let there = subst (λ (ms : List Member). StandsFor size (with_members end ms) mid) cut.were stood in
        let (may, again) = restarts_chain size end cut.above cut.member cut.below mid cut.front begun there cut.among cut.durable cut.known cut.begins in (cut.front, may, again)
    goes_on_from end mid stood (inr cut) = let (may, again) = restarts_from_joiner size end cut.joiner mid begun stood cut.joins cut.begins in (cut.joiner.front, may, again)

    some_events : (from : View) (others : List (List Happening)) → Life size from (next ∷ others) w [] → ⊥
    some_events from [] (now, none, lived) = absurd cc
    some_events from (x ∷ others) (e, b, now, later, none, lived, cut, rest) = absurd cc

    -- a life that goes on has eras still
    longer : (moves : List Move) (mid : State) (front : ℕ) (era : List (List ClientEvent)) (more : List (List (List ClientEvent))) (s t : State) → RunsOn s moves mid → shown size s moves ≡ all_events era → May mid (Restart front)
        → RunsEras size (after mid (Restart front)) more t → Life size begun (next ∷ eras) w more → RunsEras size s (era ∷ more) t
    longer moves mid front era [] s t run shows may runs rest = absurd (some_events begun eras rest)
    longer moves mid front era (one ∷ more) s t run shows may runs rest = (moves, mid, front, run, shows, may, runs)

pub lives : LivesAreOfOneVolume
lives size v w eras events begins life = lives_on size v w eras events start (first_chain size v begins) life
