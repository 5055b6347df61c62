-- What happens in a call leaves what sessions keep, and what waits for each member, as it was: the crate above cites it.
use Rattle.std.proofs.Common.{◌≡◌, true, false, List, [], ◌∷◌, ◌++◌, map, refl, ap, sym, ◌∙◌, inl, inr, ℕ}
use Rattle.std.proofs.lemmas.Bool.{cases_Bool}
use Rattle.world_model.proofs.Counting.{maps_same}
use Rattle.world_model.specs.Event.{ClientEvent}
use Rattle.chain_model.proofs.Changing.{demands_of}
use Rattle.chain_model.specs.Life.{AnswerFloor, AnswerFront, BeginCommit, BoardTells, Does, Doing, EndCommit, Era, FrontHeld, FrontRaised, Happening, Happens, JoinBegun, JoinEnded, JoinerCounted, JoinerLeft, KeepRaised, LookUp, MemberDoes, MemberForgotten, MemberSubmits, MemberTakes, MemberTold, MessageTaken, RaisedKnown, RecordBegun, RecordEnded, RequestsSent, RequestsTakenUp, SessionBegins, SessionEnds, Stop, SubmitTaken}
use Rattle.chain_model.specs.View.{Member, View}
use Rattle.chain.specs.Chain.{Goes, are_inner, is_inner}

-- sessions keep what they kept, and the demands that waited for each member wait still
abbrev pub AreAsBefore : View → View → Type 0
AreAsBefore v w = (w.kept ≡ v.kept) × (map (λ m. m.demands) w.members ≡ map (λ m. m.demands) v.members)

-- ---- one thing

-- what a member does with no request
does_keep : (v : View) (doing : Doing) (m g : Member) (events : List ClientEvent) → Does v doing m g events → g.demands ≡ m.demands
does_keep v (LookUp front) m g events did = ap (λ (x : Member). x.demands) did.1
does_keep v (AnswerFront front) m g events did = ap (λ (x : Member). x.demands) did.4
does_keep v (AnswerFloor floor) m g events did = ap (λ (x : Member). x.demands) did.3
does_keep v (KeepRaised front) m g events did = ap (λ (x : Member). x.demands) did.1
does_keep v (BeginCommit commit) m g events did = ap (λ (x : Member). x.demands) did.0
does_keep v (EndCommit p) m g events did = ap (λ (x : Member). x.demands) did.3
does_keep v (Stop cause) m g events did = ap (λ (x : Member). x.demands) did.3

-- one member becomes another, with the demands that it had
one_keeps : (v w : View) (above : List Member) (old new : Member) (below : List Member) → w.kept ≡ v.kept → v.members ≡ above ++ old ∷ below → w.members ≡ above ++ new ∷ below → new.demands ≡ old.demands → AreAsBefore v w
one_keeps v w above old new below kept were are same = (kept, ap (map demands_of) are ∙ maps_same demands_of above old new below same ∙ ap (map demands_of) (sym were))

-- whatever it is
happens_keep : (size : ℕ) (h : Happening) (v w : View) (events : List ClientEvent) → is_inner h ≡ true → Happens size h v w events → AreAsBefore v w
happens_keep size (MemberTakes taking) v w events inner is = let no : false ≡ true = inner in absurd (cc)
happens_keep size MemberSubmits v w events inner is = let no : false ≡ true = inner in absurd (cc)
happens_keep size (MemberDoes doing) v w events inner is =
    one_keeps v w is.above is.old is.new is.below (ap (λ (x : View). x.kept) is.are) is.were (ap (λ (x : View). x.members) is.are) (does_keep v doing is.old is.new events is.change)
happens_keep size RaisedKnown v w events inner is = one_keeps v w is.above is.member _ is.below (ap (λ (x : View). x.kept) is.are) is.were (ap (λ (x : View). x.members) is.are) refl
happens_keep size FrontHeld v w events inner is = one_keeps v w is.above is.tail _ is.below (ap (λ (x : View). x.kept) is.are) is.were (ap (λ (x : View). x.members) is.are) refl
happens_keep size MessageTaken v w events inner is = one_keeps v w is.above is.member _ is.below (ap (λ (x : View). x.kept) is.are) is.were (ap (λ (x : View). x.members) is.are) refl
happens_keep size SubmitTaken v w events inner is = one_keeps v w is.above is.member _ is.below (ap (λ (x : View). x.kept) is.are) is.were (ap (λ (x : View). x.members) is.are) refl
happens_keep size FrontRaised v w events inner is = (ap (λ (x : View). x.kept) is.0.are, ap (λ (x : View). map demands_of x.members) is.0.are)
happens_keep size BoardTells v w events inner is = (ap (λ (x : View). x.kept) is.0.are, ap (λ (x : View). map demands_of x.members) is.0.are)
happens_keep size RecordBegun v w events inner is = (ap (λ (x : View). x.kept) is.0.are, ap (λ (x : View). map demands_of x.members) is.0.are)
happens_keep size RecordEnded v w events inner is = (ap (λ (x : View). x.kept) is.0.are, ap (λ (x : View). map demands_of x.members) is.0.are)
happens_keep size JoinerCounted v w events inner is = let no : false ≡ true = inner in absurd (cc)
happens_keep size JoinerLeft v w events inner is = let no : false ≡ true = inner in absurd (cc)
happens_keep size JoinBegun v w events inner is = let no : false ≡ true = inner in absurd (cc)
happens_keep size JoinEnded v w events inner is = let no : false ≡ true = inner in absurd (cc)
happens_keep size MemberForgotten v w events inner is = let no : false ≡ true = inner in absurd (cc)
happens_keep size MemberTold v w events inner is = one_keeps v w is.above is.member _ is.below (ap (λ (x : View). x.kept) is.are) is.were (ap (λ (x : View). x.members) is.are) refl
happens_keep size SessionBegins v w events inner is = let no : false ≡ true = inner in absurd (cc)
happens_keep size SessionEnds v w events inner is = let no : false ≡ true = inner in absurd (cc)
happens_keep size RequestsSent v w events inner is = let no : false ≡ true = inner in absurd (cc)
happens_keep size RequestsTakenUp v w events inner is = let no : false ≡ true = inner in absurd (cc)

-- who joins stays
happens_leaves : (size : ℕ) (h : Happening) (v w : View) (events : List ClientEvent) → is_inner h ≡ true → Happens size h v w events → w.joiner ≡ v.joiner
happens_leaves size (MemberTakes taking) v w events inner is = let no : false ≡ true = inner in absurd (cc)
happens_leaves size MemberSubmits v w events inner is = let no : false ≡ true = inner in absurd (cc)
happens_leaves size (MemberDoes doing) v w events inner is = ap (λ (x : View). x.joiner) is.are
happens_leaves size RaisedKnown v w events inner is = ap (λ (x : View). x.joiner) is.are
happens_leaves size FrontHeld v w events inner is = ap (λ (x : View). x.joiner) is.are
happens_leaves size MessageTaken v w events inner is = ap (λ (x : View). x.joiner) is.are
happens_leaves size SubmitTaken v w events inner is = ap (λ (x : View). x.joiner) is.are
happens_leaves size FrontRaised v w events inner is = ap (λ (x : View). x.joiner) is.0.are
happens_leaves size BoardTells v w events inner is = ap (λ (x : View). x.joiner) is.0.are
happens_leaves size RecordBegun v w events inner is = ap (λ (x : View). x.joiner) is.0.are
happens_leaves size RecordEnded v w events inner is = ap (λ (x : View). x.joiner) is.0.are
happens_leaves size JoinerCounted v w events inner is = let no : false ≡ true = inner in absurd (cc)
happens_leaves size JoinerLeft v w events inner is = let no : false ≡ true = inner in absurd (cc)
happens_leaves size JoinBegun v w events inner is = let no : false ≡ true = inner in absurd (cc)
happens_leaves size JoinEnded v w events inner is = let no : false ≡ true = inner in absurd (cc)
happens_leaves size MemberForgotten v w events inner is = let no : false ≡ true = inner in absurd (cc)
happens_leaves size MemberTold v w events inner is = ap (λ (x : View). x.joiner) is.are
happens_leaves size SessionBegins v w events inner is = let no : false ≡ true = inner in absurd (cc)
happens_leaves size SessionEnds v w events inner is = let no : false ≡ true = inner in absurd (cc)
happens_leaves size RequestsSent v w events inner is = let no : false ≡ true = inner in absurd (cc)
happens_leaves size RequestsTakenUp v w events inner is = let no : false ≡ true = inner in absurd (cc)

-- ---- one thing after another

-- the first of them, and those behind it
first_and_rest : (h : Happening) (hs : List Happening) → are_inner (h ∷ hs) ≡ true → (is_inner h ≡ true) × (are_inner hs ≡ true)
first_and_rest h hs inner = elim (cases_Bool (is_inner h)) [
  | inl is ↦ (is, rw is at inner)
  | inr not_so ↦ let no : false ≡ true = rw not_so at inner in absurd (cc)
]

-- all of them
era_keeps : (size : ℕ) (v : View) (hs : List Happening) (w : View) (each : List (List ClientEvent)) → are_inner hs ≡ true → Era size v hs w each → AreAsBefore v w
era_keeps size v [] w each inner (same, none) = (ap (λ (x : View). x.kept) same, ap (λ (x : View). map demands_of x.members) same)
era_keeps size v (h ∷ hs) w each inner (mid, now, later, are, happens, rest) =
    let both = first_and_rest h hs inner in
    let first = happens_keep size h v mid now both.0 happens in
    let then = era_keeps size mid hs w later both.1 rest in
    (then.0 ∙ first.0, then.1 ∙ first.1)

era_leaves : (size : ℕ) (v : View) (hs : List Happening) (w : View) (each : List (List ClientEvent)) → are_inner hs ≡ true → Era size v hs w each → w.joiner ≡ v.joiner
era_leaves size v [] w each inner (same, none) = ap (λ (x : View). x.joiner) same
era_leaves size v (h ∷ hs) w each inner (mid, now, later, are, happens, rest) =
    let both = first_and_rest h hs inner in era_leaves size mid hs w later both.1 rest ∙ happens_leaves size h v mid now both.0 happens

pub goes_leaves : {size : ℕ} (v w : View) (events : List ClientEvent) → Goes size v w events → w.joiner ≡ v.joiner
goes_leaves {size} v w events goes = era_leaves size v goes.happenings w goes.each goes.inner goes.era

-- so does a call
pub goes_keeps : {size : ℕ} (v w : View) (events : List ClientEvent) → Goes size v w events → (w.kept ≡ v.kept) × (map (λ m. m.demands) w.members ≡ map (λ m. m.demands) v.members)
goes_keeps {size} v w events goes = era_keeps size v goes.happenings w goes.each goes.inner goes.era
