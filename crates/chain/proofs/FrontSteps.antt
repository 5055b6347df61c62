-- A member looks a front up, or raises it.
use Rattle.std.proofs.Common.{◌≡◌, ℕ, ◌≤◌, max, true, false, Bool, List, [], ◌∷◌, ◌++◌, refl, ap, sym, subst, ◌∙◌, arith, inl, inr}
use Rattle.std.specs.Prelude.{◌&&◌, None, Some, is_some, not, slice_get, slice_set}
use Rattle.std.specs.List.{AllZip}
use Rattle.std.proofs.lemmas.Bool.{and_parts, cases_Bool}
use Rattle.std.proofs.lemmas.List.{append-nil}
use Rattle.local_store.specs.About.{About}
use Rattle.chain_core.specs.Node.{may_raise}
use Rattle.chain_steps.specs.Node.{NodeState, last_of}
use Rattle.chain_steps.specs.Place.{is_tail}
use Rattle.chain_steps.specs.declared.found.Found.TheVariants.{Looked, Raised}
use Rattle.world_model.specs.Chain.{ArePutOut, BoardInUse}
use Rattle.world_model.specs.Event.{ClientEvent}
use Rattle.world_model.specs.Machine.{State}
use Rattle.chain_model.specs.Chain.{StandsFor}
use Rattle.chain_model.specs.Laws.{with_members}
use Rattle.chain_model.specs.Life.{FrontRaised, KeepRaised, LookUp, MemberDoes}
use Rattle.chain_model.proofs.Orderly.{committed_fronts}
use Rattle.chain_model.specs.View.{Member, View}
use Rattle.chain.specs.Chain.{Chained, Goes, IsFormed, Shows, bytes_of, told_of}
use Rattle.chain.specs.Fronts.{HasLooked, HasRaised}
use Rattle.chain.specs.LoneBoard.{raised}
use Rattle.chain.specs.Member.{IsShown, Linked, fronts_of, musters_of, receipts_of}
use Rattle.chain.proofs.Cells.{place_of, twin_of}
use Rattle.chain.proofs.FloorSteps.{gathered}
use Rattle.chain.proofs.Stepping.{formed_then, one_does, shown_still}

module _ {S : Type 0} (about : S → About) (old : Chained S) (at : ℕ) (before after : Linked S) (number : ℕ) (here : slice_get old.members at ≡ Some before) (did : HasLooked number before after) where
  pub formed_looked : IsFormed about old → IsFormed about (record old { members = slice_set old.members at after })
  formed_looked formed = rw did.are (formed_then old at before _ here about (λ is. record { board = is.board; sizes = is.sizes; member = is.member; front = is.front; muster = is.muster }) formed)

  pub looked_goes : (keeps : S → List ℕ → Type 0) (may_leave_now : S → List ℕ → Type 0) (v : View) (events : List ClientEvent) → number ≡ old.words.front → Shows about keeps may_leave_now old v → ArePutOut [] events
      → (w : View) × Shows about keeps may_leave_now (record old { members = slice_set old.members at after }) w × Goes (bytes_of old) v w events
  looked_goes keeps may_leave_now v events found shows put_out = rw did.are (
      one_does about keeps may_leave_now old at before _ here (LookUp did.front) v events (record { front = refl; muster = refl; receipt = refl }) shows (λ m so. (
        record m { node = record m.node { found = Some (Looked did.front) } },
        shown_still about keeps may_leave_now old before _ m _ so (ap (λ (x : Member). record x { node = record x.node { found = Some (Looked did.front) } }) so.is) refl refl refl refl (λ runs. runs),
        (did.of_number ∙ found ∙ sym (ap (λ (t : BoardInUse). t.front) shows.told), refl, put_out),
      )))

-- ---- a tail raises the front

-- a member that may is a tail that has its Turn, and doesn't hold
record IsFree (node : NodeState) : Type 0 where
  turned : node.turned ≡ true
  free : node.holds ≡ false
  ends : is_tail node.place ≡ true

not_so : (b : Bool) → not b ≡ true → b ≡ false
not_so true is = let no : false ≡ true = is in absurd (cc)
not_so false is = refl

is_free : (node : NodeState) → may_raise node ≡ true → IsFree node
is_free node may =
    let (both, ends) = and_parts (node.turned && not node.holds) (is_tail node.place) may in
    let (turned, free) = and_parts node.turned (not node.holds) both in
    record { turned = turned; free = not_so node.holds free; ends = ends }

-- what is read at a place is so of the member that is read there again: whether it may raise, and that it runs
pub may_there : {S : Type 0} (xs : List (Linked S)) (at : ℕ) (m x : Linked S) (may : Bool) → slice_get xs at ≡ Some m → slice_get xs at ≡ Some x → may ≡ may_raise m.node.state → may_raise x.node.state ≡ may
may_there {S} xs at m x may here there is = let same : Some m ≡ Some x = sym here ∙ there in let one : m ≡ x = cc same in ap (λ (y : Linked S). may_raise y.node.state) (sym one) ∙ sym is

pub runs_there : {S : Type 0} (xs : List (Linked S)) (at : ℕ) (m x : Linked S) (none : Bool) → slice_get xs at ≡ Some m → slice_get xs at ≡ Some x → is_some m.node.state.stopped ≡ not none → x.node.state.stopped ≡ None → none ≡ true
runs_there {S} xs at m x none here there is runs =
    let same : Some m ≡ Some x = sym here ∙ there in
    let one : m ≡ x = cc same in
    let no : is_some m.node.state.stopped ≡ false = ap (λ (y : Linked S). is_some y.node.state.stopped) one ∙ ap is_some runs in
    elim (cases_Bool none) [
      | inl here_none ↦ here_none
      | inr other ↦ let wrong : true ≡ false = sym (is ∙ ap not other) ∙ no in absurd (cc)
    ]

module _ {S : Type 0} (about : S → About) (old : Chained S) (at : ℕ) (before after : Linked S) (here : slice_get old.members at ≡ Some before) (did : HasRaised (max old.words.front (last_of before.node.state)) before after) where
  abbrev now : Chained S
  now = record old { words = raised old.words (last_of before.node.state); members = slice_set old.members at after }

  pub formed_raised : IsFormed about old → IsFormed about now
  formed_raised formed =
      let is : IsFormed about (record old { members = slice_set old.members at after }) =
      rw did.are (formed_then old at before _ here about (λ is. record { board = is.board; sizes = is.sizes; member = is.member; front = is.front; muster = is.muster }) formed) in
      record { members = is.members; all_links = is.all_links; all_submits = is.all_submits; links_inside = is.links_inside; submits_inside = is.submits_inside }

  pub raised_goes : (keeps : S → List ℕ → Type 0) (may_leave_now : S → List ℕ → Type 0) (v : View) (s : State) (events : List ClientEvent) → may_raise before.node.state ≡ true → Shows about keeps may_leave_now old v → StandsFor (bytes_of old) v s → ArePutOut [] events
      → (w : View) × Shows about keeps may_leave_now now w × Goes (bytes_of old) v w events
  raised_goes keeps may_leave_now v s events may shows stands put_out =
      let IsSo : Linked S → Member → Type 0 = IsShown about keeps may_leave_now (bytes_of old) in
      let place = place_of old.members at before here in
      let twin = twin_of IsSo place.above before place.below v.members (subst (λ l. AllZip IsSo l v.members) place.split shows.members) in
      let node : twin.own.node ≡ before.node.state = ap (λ (m : Member). m.node) twin.fits.is in
      let free : IsFree twin.own.node = subst IsFree (sym node) (is_free before.node.state may) in
      let runs = ap (λ (n : NodeState). n.stopped) node ∙ did.runs in
      let last : ℕ = last_of twin.own.node in
      let same : last ≡ last_of before.node.state = ap last_of node in
      let least : v.told.front ≤ last =
      (committed_fronts (bytes_of old) v twin.over twin.own twin.under s (subst (λ (ms : List Member). StandsFor (bytes_of old) (with_members v ms) s) twin.are stands) runs).2 in
      let words : v.told.front ≡ old.words.front = ap (λ (t : BoardInUse). t.front) shows.told in
      let greatest : last ≡ max old.words.front (last_of before.node.state) = omega (arith, same, least, words) in
      let mid : View = record v { told = record v.told { front = last } } in
      let new : Member = record twin.own { node = record twin.own.node { found = Some (Raised did.front) } } in
      let w : View = with_members mid (twin.over ++ new ∷ twin.under) in
      let committed : did.front.number ≤ last = omega (arith, did.of_number, greatest) in (
        w,
        record {
          told =
              ap (λ (t : BoardInUse). record t { front = last }) shows.told
              ∙ ap (λ (n : ℕ). record (told_of old) { front = n }) greatest
              ∙ rw (gathered (λ m. fronts_of m.front) old.members at before after here (ap (λ m. fronts_of m.front) did.are), gathered (λ m. musters_of m.muster) old.members at before after here (ap (λ m. musters_of m.muster) did.are), gathered (λ m. receipts_of m.receipt) old.members at before after here (ap (λ m. receipts_of m.receipt) did.are)) refl;
          recorded = shows.recorded;
          before = shows.before;
          writing = shows.writing;
          youngest = shows.youngest;
          members = subst (λ l. AllZip IsSo l (twin.over ++ new ∷ twin.under)) (sym (place.setting after)) (twin.others after new place.below twin.under
              (rw did.are (shown_still about keeps may_leave_now old before _ twin.own new twin.fits (ap (λ (x : Member). record x { node = record x.node { found = Some (Raised did.front) } }) twin.fits.is) refl refl refl refl (λ runs. runs)))
              twin.rest);
          links = shows.links;
          submits = shows.submits;
        },
        record {
          happenings = FrontRaised ∷ MemberDoes (KeepRaised did.front) ∷ [];
          each = [] ∷ events ∷ [];
          inner = refl;
          era = (
            mid,
            [],
            events ∷ [],
            refl,
            (record { above = twin.over; tail = twin.own; below = twin.under; were = twin.are; runs = runs; turned = free.turned; free = free.free; ends = free.ends; are = refl }, refl),
            (w, events, [], refl, record { above = twin.over; old = twin.own; new = new; below = twin.under; were = twin.are; are = refl; change = (committed, refl, put_out) }, (refl, refl)),
          );
          all = append-nil events;
        },
      )
