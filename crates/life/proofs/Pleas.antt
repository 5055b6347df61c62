-- Why requests of an era were refused, and why members had stopped when it ended: lemmas.
use Rattle.std.proofs.Common.{◌≡◌, ◌≢◌, ℕ, List, [], ◌∷◌, sym, subst, ◌∙◌}
use Rattle.std.specs.Prelude.{All, None, Some}
use Rattle.std.specs.List.{AllZip}
use Rattle.std.proofs.lemmas.List.Elements.{All-cons, All-head, All-nil, All-tail}
use Rattle.chain.specs.Chain.{bytes_of}
use Rattle.chain.specs.Member.{IsShown, Linked}
use Rattle.chain_model.specs.Chain.{StandsFor}
use Rattle.chain_model.specs.Life.{Era, Happening, HappeningsAreOfOneVolume}
use Rattle.chain_model.specs.Refusing.{HasNoDisorder, RefusalsHavePleas, StopsHaveCauses}
use Rattle.chain_model.specs.View.{Member, View}
use Rattle.chain_steps.specs.declared.cause.Cause.TheVariants.{Disorder}
use Rattle.local_store.specs.About.{About}
use Rattle.world_model.specs.Event.{ClientEvent}
use Rattle.world_model.specs.Machine.{State}
use Rattle.world.specs.World.{Goes, Seen, Shows}
use Rattle.life.specs.Begun.{AllRun}
use Rattle.life.specs.Headline.{AreRefusedSo, HappenWithPleas}

-- each thing that happens has its pleas
with_pleas : RefusalsHavePleas → (size : ℕ) (v : View) (hs : List Happening) (w : View) (each : List (List ClientEvent)) → Era size v hs w each → HappenWithPleas size v hs w each
with_pleas law size v [] w each era = era
with_pleas law size v (h ∷ hs) w each (mid, now, later, are, happens, then) =
    (mid, now, later, are, happens, law size v mid h now happens, with_pleas law size mid hs w later then)

-- no member stops for a disorder in an era of the one volume
stay_orderly : StopsHaveCauses → HappeningsAreOfOneVolume → (size : ℕ) (v : View) (s : State) (hs : List Happening) (w : View) (each : List (List ClientEvent)) → StandsFor size v s → Era size v hs w each → HasNoDisorder v → HasNoDisorder w
stay_orderly causes happenings size v s [] w each stands (same, none) orderly = subst HasNoDisorder (sym same) orderly
stay_orderly causes happenings size v s (h ∷ hs) w each stands (mid, now, later, are, happens, then) orderly =
    let plays = happenings size v mid h now happens s stands in
    stay_orderly causes happenings size mid plays.1 hs w later plays.4 then (causes size v mid s h now stands happens orderly)

module _ {S : Type 0} (about : S → About) (keeps : S → List ℕ → Type 0) (may_leave_now : S → List ℕ → Type 0) where
  abbrev IsOrderly : Linked S → Type 0
  IsOrderly m = m.node.state.stopped ≢ Some Disorder

  abbrev IsOrderlyShown : Member → Type 0
  IsOrderlyShown g = g.node.stopped ≢ Some Disorder

  -- who is shown so stopped for the same cause
  orderly_shown : (size : ℕ) (ms : List (Linked S)) (gs : List Member) → AllZip (IsShown about keeps may_leave_now size) ms gs → All IsOrderly ms → All IsOrderlyShown gs
  orderly_shown size [] [] are all = All-nil IsOrderlyShown
  orderly_shown size [] (g ∷ gs) are all = absurd are
  orderly_shown size (m ∷ ms) [] are all = absurd are
  orderly_shown size (m ∷ ms) (g ∷ gs) (so, rest) all =
      All-cons IsOrderlyShown g gs (subst IsOrderlyShown (sym so.is) (All-head IsOrderly m ms all)) (orderly_shown size ms gs rest (All-tail IsOrderly m ms all))

  orderly_then : (size : ℕ) (ms : List (Linked S)) (gs : List Member) → AllZip (IsShown about keeps may_leave_now size) ms gs → All IsOrderlyShown gs → All IsOrderly ms
  orderly_then size [] [] are all = All-nil IsOrderly
  orderly_then size [] (g ∷ gs) are all = absurd are
  orderly_then size (m ∷ ms) [] are all = absurd are
  orderly_then size (m ∷ ms) (g ∷ gs) (so, rest) all =
      All-cons IsOrderly m ms (subst IsOrderlyShown so.is (All-head IsOrderlyShown g gs all)) (orderly_then size ms gs rest (All-tail IsOrderlyShown g gs all))

  -- where all run none stopped at all
  all_orderly : (w : Seen S) → AllRun w → All IsOrderly w.chain.members
  all_orderly w run = λ k d within is. let no : None ≡ Some Disorder = sym (run k d within) ∙ is in absurd (cc)

  -- an era that began with running members
  pub refused_so : RefusalsHavePleas → StopsHaveCauses → HappeningsAreOfOneVolume → (old new : Seen S) (v w : View) (s t : State) (events : List ClientEvent) → Shows about keeps may_leave_now old v → Shows about keeps may_leave_now new w
      → StandsFor (bytes_of old.chain) v s → StandsFor (bytes_of old.chain) w t → AllRun old → Goes (bytes_of old.chain) v w events → AreRefusedSo about keeps may_leave_now (bytes_of old.chain) old s new t events
  refused_so pleas causes happenings old new v w s t events shows shows_then stands stands_then run goes = record {
    before = v;
    after = w;
    shown = shows;
    shown_then = shows_then;
    stands = stands;
    stands_then = stands_then;
    happenings = goes.happenings;
    each = goes.each;
    happen = with_pleas pleas (bytes_of old.chain) v goes.happenings w goes.each goes.era;
    are = goes.all;
    causes = orderly_then (bytes_of new.chain) new.chain.members w.members shows_then.chain.members
        (stay_orderly causes happenings (bytes_of old.chain) v s goes.happenings w goes.each stands goes.era
        (orderly_shown (bytes_of old.chain) old.chain.members v.members shows.chain.members (all_orderly old run)));
  }
