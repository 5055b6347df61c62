-- What replies that come to their sessions are, together: what clients see, and how the sessions' histories go on.
use Rattle.std.proofs.Common.{◌≡◌, ℕ, true, false, Bool, List, [], ◌∷◌, ◌++◌, refl, ap, sym, subst, ◌∙◌, inl, inr}
use Rattle.std.specs.Prelude.{◌==◌, ◌||◌, None, Some, Option, IfSome, if◌then◌else◌}
use Rattle.std.specs.Option.{option_to_list}
use Rattle.std.proofs.lemmas.Bool.{cases_Bool}
use Rattle.std.proofs.lemmas.List.{append_assoc, append-nil}
use Rattle.flush_barrier.specs.Reply.{GivenReply}
use Rattle.flush_barrier.specs.declared.session_id.SessionId.{SessionId}
use Rattle.world_model.specs.Chain.{ArePutOut, reply_event}
use Rattle.world_model.specs.Event.{ClientEvent}
use Rattle.clients.specs.Calls.{AreAtPlaces, PutsOut, bytes_out}
use Rattle.clients.proofs.Places.{place_is}
use Rattle.clients.specs.Clients.{GoOn, Sessions, no_one, of_session}
use Rattle.clients.specs.declared.output.Output.{Output}
use Rattle.world.specs.Telling.{AreTold, HandsOut, IsTold, Tells, TellsLoss, handed_by, has_room, outputs_of}
use Rattle.world.specs.declared.told.Told.{Told}
use Rattle.world.proofs.GoingOn.{go_on_as, go_on_still, go_on_then}

-- ---- what clients see

pub told_put_out : (room lost : Bool) (rs : List GivenReply) (old new : Sessions) (outputs : List Output) (events : List ClientEvent) → AreTold room lost rs old new outputs events → ArePutOut rs events
told_put_out room lost [] old new outputs events told = told.2
told_put_out room lost (r ∷ rs) old new outputs events (mid, given, rest, now, later, one, further, first, others, are, seen, loss) =
    let more = told_put_out room further rs mid new rest later others in
    elim first.delivers.put_out [
      | inl none ↦ inl (subst (ArePutOut rs) (sym (seen ∙ ap (λ l. l ++ later) none)) more)
      | inr (next, is, last) ↦ inr (later, seen ∙ ap (λ l. l ++ later) (is ∙ ap (λ l. reply_event r ∷ l) last), more)
    ]

-- ---- at which places

pub places_still : (s : Sessions) → AreAtPlaces s s
places_still s = record { board = refl; export = refl; ids = refl; places = refl }

places_then : (a b c : Sessions) → AreAtPlaces a b → AreAtPlaces b c → AreAtPlaces a c
places_then a b c one two = record { board = two.board ∙ one.board; export = two.export ∙ one.export; ids = two.ids ∙ one.ids; places = two.places ∙ one.places }

hands_places : (room : Bool) (session : SessionId) (given : Option Output) (old new : Sessions) → HandsOut room session given old new → AreAtPlaces old new
hands_places true session given old new hands = hands.places
hands_places false session given old new (none, same) = subst (AreAtPlaces old) (sym same) (places_still old)

pub told_places : (room lost : Bool) (rs : List GivenReply) (old new : Sessions) (outputs : List Output) (events : List ClientEvent) → AreTold room lost rs old new outputs events → AreAtPlaces old new
told_places room lost [] old new outputs events told = subst (AreAtPlaces old) (sym told.0) (places_still old)
told_places room lost (r ∷ rs) old new outputs events (mid, given, rest, now, later, one, further, first, others, are, seen, loss) =
    places_then old mid new (places_then old first.mid mid first.delivers.places (hands_places room r.session given first.mid mid first.hands)) (told_places room further rs mid new rest later others)

-- ---- how histories go on

of_none : (id other : SessionId) → of_session {A = ℕ} id [] other ≡ []
of_none id other = elim (cases_Bool (id.0 == other.0)) [
  | inl so ↦ rw so refl
  | inr not_so ↦ rw not_so refl
]

handed_first : (session : SessionId) (given : Option Output) (rest : List Output) (id : SessionId) → IfSome given (λ o. o.session.0 ≡ session.0)
    → of_session session (bytes_out given) id ++ handed_by rest id ≡ handed_by (option_to_list given ++ rest) id
handed_first session None rest id own = ap (λ l. l ++ handed_by rest id) (of_none session id)
handed_first session (Some o) rest id own = ap (λ n. (if n == id.0 then o.bytes.items else []) ++ handed_by rest id) (sym own)

-- what goes out of one call
abbrev goes_out : SessionId → Option Output → SessionId → List ℕ
goes_out session given = of_session session (bytes_out given)

hands_go_on : (room : Bool) (session : SessionId) (given : Option Output) (old new : Sessions) → HandsOut room session given old new → GoOn old.clients new.clients no_one (goes_out session given) no_one []
hands_go_on true session given old new hands = hands.go_on
hands_go_on false session given old new (none, same) = subst (λ s. GoOn old.clients s.clients no_one (goes_out session given) no_one []) (sym same)
    (go_on_as old.clients old.clients (λ id. []) no_one (λ id. []) (goes_out session given) (λ id. []) no_one [] (λ id. refl)
    (λ id. sym (ap (λ o. goes_out session o id) none ∙ of_none session id)) (λ id. refl) (go_on_still old.clients))

hands_own : (room : Bool) (session : SessionId) (given : Option Output) (old new : Sessions) → HandsOut room session given old new → IfSome given (λ o. o.session.0 ≡ session.0)
hands_own true session given old new hands = hands.own
hands_own false session given old new (none, same) = subst (λ g. IfSome g (λ o. o.session.0 ≡ session.0)) (sym none) (tt)

one_go_on : (room lost : Bool) (r : GivenReply) (old new : Sessions) (given : Option Output) (now : List ClientEvent) → IsTold room lost r old new given now → GoOn old.clients new.clients no_one (goes_out r.session given) no_one now
one_go_on room lost r old new given now told = subst (GoOn old.clients new.clients no_one (goes_out r.session given) no_one) (append-nil now)
    (go_on_then old.clients told.mid.clients new.clients no_one no_one no_one (goes_out r.session given) no_one no_one now [] told.delivers.lawful (hands_go_on room r.session given told.mid new told.hands))

pub told_go_on : (room lost : Bool) (rs : List GivenReply) (old new : Sessions) (outputs : List Output) (events : List ClientEvent)
    → AreTold room lost rs old new outputs events → GoOn old.clients new.clients no_one (handed_by outputs) no_one events
told_go_on room lost [] old new outputs events (same, none, silent, loss) =
    subst (λ s. GoOn old.clients s.clients no_one (handed_by outputs) no_one events) (sym same)
    (subst (λ es. GoOn old.clients old.clients no_one (handed_by outputs) no_one es) (sym silent)
    (subst (λ os. GoOn old.clients old.clients no_one (handed_by os) no_one []) (sym none) (go_on_still old.clients)))
told_go_on room lost (r ∷ rs) old new outputs events (mid, given, rest, now, later, one, further, first, others, are, seen, loss) =
    subst (λ es. GoOn old.clients new.clients no_one (handed_by outputs) no_one es) (sym seen)
    (go_on_as old.clients new.clients no_one no_one (λ id. goes_out r.session given id ++ handed_by rest id) (handed_by outputs) no_one no_one (now ++ later) (λ id. refl)
    (λ id. handed_first r.session given rest id (hands_own room r.session given first.mid mid first.hands) ∙ ap (λ os. handed_by os id) (sym are)) (λ id. refl)
    (go_on_then old.clients mid.clients new.clients no_one no_one (goes_out r.session given) (handed_by rest) no_one no_one now later (one_go_on room one r old mid given now first)
    (told_go_on room further rs mid new rest later others)))

-- ---- one behind others

pub or_none : (lost : Bool) → (lost || false) ≡ lost
or_none true = refl
or_none false = refl

pub or_then : (one two three : Bool) → (one || (two || three)) ≡ ((one || two) || three)
or_then true two three = refl
or_then false two three = refl

pub told_more : (room lost one : Bool) (rs : List GivenReply) (r : GivenReply) (old mid new : Sessions) (outputs : List Output) (given : Option Output) (events now : List ClientEvent)
    → AreTold room lost rs old mid outputs events → IsTold room one r mid new given now → AreTold room (lost || one) (rs ++ r ∷ []) old new (outputs ++ option_to_list given) (events ++ now)
told_more room lost one [] r old mid new outputs given events now (same, none, silent, loss) told = (
  new,
  given,
  [],
  now,
  [],
  one,
  false,
  subst (λ s. IsTold room one r s new given now) same told,
  (refl, refl, refl, refl),
  ap (λ l. l ++ option_to_list given) none ∙ sym (append-nil (option_to_list given)),
  ap (λ l. l ++ now) silent ∙ sym (append-nil now),
  ap (λ b. b || one) loss ∙ sym (or_none one),
)
told_more room lost one (x ∷ rs) r old mid new outputs given events now (next, first, rest, seen, later, this, further, is, others, are, see, loss) told = (
  next,
  first,
  rest ++ option_to_list given,
  seen,
  later ++ now,
  this,
  further || one,
  is,
  told_more room further one rs r next mid new rest given later now others told,
  ap (λ l. l ++ option_to_list given) are ∙ append_assoc (option_to_list first) rest (option_to_list given),
  ap (λ l. l ++ now) see ∙ append_assoc seen later now,
  ap (λ b. b || one) loss ∙ sym (or_then this further one),
)

-- ---- one before others

pub told_before : (room one further : Bool) (all later : List GivenReply) (reply served : GivenReply) (old mid new : Sessions) (given : Option Output) (outputs : List Output) (now events : List ClientEvent)
    → all ≡ served ∷ later → reply ≡ served → IsTold room one reply old mid given now → AreTold room further later mid new outputs events
    → AreTold room (one || further) all old new (option_to_list given ++ outputs) (now ++ events)
told_before room one further all later reply served old mid new given outputs now events are same told more =
    subst (λ l. AreTold room (one || further) l old new (option_to_list given ++ outputs) (now ++ events)) (sym are)
    (mid, given, outputs, now, events, one, further, subst (λ r. IsTold room one r old mid given now) same told, more, refl, refl, refl)

pub told_none : (room : Bool) (rs : List GivenReply) (s : Sessions) → rs ≡ [] → AreTold room false rs s s [] []
told_none room rs s none = subst (λ l. AreTold room false l s s [] []) (sym none) (refl, refl, refl, refl)

-- it is told with what went out
pub told_out : (told : Told) (lost : Bool) (rs : List GivenReply) (old new : Sessions) (outputs : List Output) (events : List ClientEvent)
    → has_room told ≡ true → outputs_of told ≡ outputs → TellsLoss told lost → AreTold true lost rs old new outputs events → Tells told rs old new
told_out told lost rs old new outputs events room are loss comes = record {
  lost = lost;
  events = events;
  comes = subst (λ (b : Bool). AreTold b lost rs old new (outputs_of told) events) (sym room) (subst (λ (os : List Output). AreTold true lost rs old new os events) (sym are) comes);
  loss = loss;
}

-- what goes out, behind what went out before
pub out_then : (before later all outputs : List Output) (given : Option Output) → all ≡ before ++ (option_to_list given ++ outputs) → (later ≡ before ++ option_to_list given) → later ++ outputs ≡ all
out_then before later all outputs given are is = ap (λ l. l ++ outputs) is ∙ append_assoc before (option_to_list given) outputs ∙ sym are

-- what a session handed out is its own
pub own_output : (id : SessionId) (given : Option Output) (old new : Sessions) → PutsOut id old given new → IfSome given (λ o. o.session.0 ≡ id.0)
own_output id None old new puts = tt
own_output id (Some o) old new puts = ap (λ (s : SessionId). s.0) (puts.did.session ∙ place_is id old.clients puts.place puts.before puts.there puts.here)
