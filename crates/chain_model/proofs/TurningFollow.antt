-- What follows from the order: lemmas.
use Rattle.std.proofs.Common.{◌≡◌, inr, ℕ, zero, suc, Bool, true, false, Some, List, [], ◌∷◌, ◌++◌, length, refl, sym, ◌∙◌, ap, subst, arith}
use Rattle.std.specs.Prelude.{slice_get}
use Rattle.std.proofs.lemmas.List.{append-nil}
use Rattle.std.proofs.lemmas.Option.{same_Some}
use Rattle.chain_model.specs.Replicas.{Dead, Feeder, Hop, Live, Replica, Message, Now, Old, Past, Silent, Stage, lane_feeder, next_feeder, puts_of, reach}
use Rattle.version_table.specs.declared.kept.Kept.{Kept}
use Rattle.chain_model.specs.TurningLaws.{Alike, AlikeStands, Feeds, IsOfLine, ListsAreNested, PutsAreOfLine, StartStands, fresh, started}
use Rattle.chain_model.specs.Turning.{Begins, Fed, Follows, Fronts, GoesOn, Knows, Leads, Made, Passes, Turns, leads, sending}
use Rattle.chain_model.specs.TurningSteps.{IsRunning, is_untold}
use Rattle.chain_model.proofs.Lanes.{begins_all, begins_trans}
use Rattle.chain_model.proofs.TurningLists.{made_reach}
use Rattle.chain_model.proofs.TurningPlaces.{still_last}

-- ---- neighbours

feeds : (a : Stage) (linked : Bool) (g : Stage) (own above : List Kept) (ms : List Message) → is_untold g ≡ false → Fed (lane_feeder a linked g) own ms above
    → (sending a ≡ true → GoesOn own ms above) × (sending a ≡ false → ms ≡ [])
feeds (Now true) linked (Now u) own above ms told fed = (λ on. fed, λ off. absurd cc)
feeds (Now false) linked (Now u) own above ms told fed = (λ on. absurd cc, λ off. fed)
feeds (Old t) linked (Now u) own above ms told fed = (λ on. absurd cc, λ off. fed)
feeds Past linked (Now u) own above ms told fed = (λ on. absurd cc, λ off. fed)
feeds a linked (Old u) own above ms told fed = absurd cc
feeds a linked Past own above ms told fed = absurd cc

nested : (line : List Kept) (a : Stage) (hs : List Hop) (i : ℕ) (h g : Hop) → Passes line a hs → slice_get hs i ≡ Some h → slice_get hs (suc i) ≡ Some g
    → (above own : List Kept) × (length above ≡ reach h.member) × (length own ≡ reach g.member) × Begins own above × Begins above line × Feeds above own h g
nested line a [] i h g passes at below = absurd cc
nested line a (x ∷ []) zero h g passes at below = absurd cc
nested line a (x ∷ y ∷ hs) zero h g (above, upper, (own, lower, rest)) at below =
    let one : x ≡ h = same_Some x h at in
    let two : y ≡ g = same_Some y g below in
    let feed : Feeds above own x y = λ runs told. feeds x.member.stage y.linked y.member.stage own above y.lane told (lower.lane runs) in (
      above,
      own,
      sym (made_reach above x.member upper.made) ∙ ap (λ (z : Hop). reach z.member) one,
      sym (made_reach own y.member lower.made) ∙ ap (λ (z : Hop). reach z.member) two,
      lower.begins,
      upper.begins,
      subst (λ (z : Hop). Feeds above own z g) one (subst (λ (z : Hop). Feeds above own x z) two feed),
    )
nested line a (x ∷ hs) (suc i) h g (top, upper, rest) at below =
    let (above, own, one, two, near, far, feed) = nested top x.member.stage hs i h g rest at below in (above, own, one, two, near, begins_trans above top line far upper.begins, feed)

pub lists_are_nested : ListsAreNested
lists_are_nested front i line hops h g stands at below = nested line Past hops i h g stands.passes at below

-- ---- Puts

goes_of_line : (own above line : List Kept) (ms : List Message) → GoesOn own ms above → Begins above line → IsOfLine line ms
goes_of_line own above line ms goes (rest, is) = (goes.before, rest, ap (λ (l : List Kept). l ++ rest) goes.is ∙ is)

none_of_line : (line : List Kept) (ms : List Message) → ms ≡ [] → IsOfLine line ms
none_of_line line ms none = ([], line, ap (λ (l : List Message). puts_of l ++ line) none)

fed_of_line : (f : Feeder) (own above line : List Kept) (ms : List Message) → Begins above line → Fed f own ms above → IsOfLine line ms
fed_of_line (Live true) own above line ms begins fed = goes_of_line own above line ms fed begins
fed_of_line (Live false) own above line ms begins fed = none_of_line line ms fed
fed_of_line Silent own above line ms begins fed = none_of_line line ms fed
fed_of_line Dead own above line ms begins (last, near, far, goes) = goes_of_line own last line ms goes (begins_trans last above line far begins)

of_line : (line above : List Kept) (a : Stage) (hs : List Hop) (i : ℕ) (h : Hop) → Begins above line → Passes above a hs → slice_get hs i ≡ Some h → IsRunning h → IsOfLine line h.lane × IsOfLine line h.next
of_line line above a [] i h begins passes at runs = absurd cc
of_line line above a (x ∷ hs) zero h begins (own, follows, below) at runs =
    let same : x ≡ h = same_Some x h at in
    let runs_too : IsRunning x = subst IsRunning (sym same) runs in
    subst (λ (z : Hop). IsOfLine line z.lane × IsOfLine line z.next) same (
      fed_of_line (lane_feeder a x.linked x.member.stage) own above line x.lane begins (follows.lane runs_too),
      fed_of_line (next_feeder a x.member.stage) own above line x.next begins (follows.next runs_too),
    )
of_line line above a (x ∷ hs) (suc i) h begins (own, follows, below) at runs = of_line line own x.member.stage hs i h (begins_trans own above line follows.begins begins) below at runs

pub puts_are_of_line : PutsAreOfLine
puts_are_of_line front i line hops h stands at runs = of_line line line Past hops i h (begins_all line) stands.passes at runs

-- ---- the start

fresh_follows : (line : List Kept) (last : Bool) → Follows line (Now true) line (fresh (length line) last)
fresh_follows line last = record {
  made = record { done = line; own_is = append-nil line; durable = refl };
  begins = begins_all line;
  lane = λ runs. record { before = line; is = append-nil line; reached = omega arith };
  next = λ runs. refl;
}

fresh_head : (line : List Kept) (last : Bool) → Follows line Past line (fresh (length line) last)
fresh_head line last = record { made = record { done = line; own_is = append-nil line; durable = refl }; begins = begins_all line; lane = λ runs. refl; next = λ runs. refl }

starts_below : (line : List Kept) (n : ℕ) → Passes line (Now true) (started (length line) n)
starts_below line zero = tt
starts_below line (suc zero) = (line, fresh_follows line true, tt)
starts_below line (suc (suc n)) = (line, fresh_follows line false, starts_below line (suc n))

starts : (line : List Kept) (n : ℕ) → Passes line Past (started (length line) n)
starts line zero = tt
starts line (suc zero) = (line, fresh_head line true, tt)
starts line (suc (suc n)) = (line, fresh_head line false, starts_below line (suc n))

starts_turned : (k n : ℕ) → Turns (Now true) (started k n)
starts_turned k zero = tt
starts_turned k (suc zero) = (record { heard = λ on. refl; last = λ runs ends. inr refl }, tt)
starts_turned k (suc (suc n)) = (record { heard = λ on. refl; last = λ runs ends. absurd cc }, starts_turned k (suc n))

starts_known : (k n : ℕ) → Fronts k (started k n)
starts_known k zero = tt
starts_known k (suc zero) = (record { within = omega arith; known = omega arith; has = omega arith }, tt)
starts_known k (suc (suc n)) = (record { within = omega arith; known = omega arith; has = omega arith }, starts_known k (suc n))

starts_leads : (line : List Kept) (n : ℕ) → Leads line (started (length line) n)
starts_leads line zero = tt
starts_leads line (suc zero) = λ runs l. (refl, omega arith)
starts_leads line (suc (suc n)) = λ runs l. (refl, omega arith)

pub start_stands : StartStands
start_stands n line numbered = record {
  numbered = numbered;
  within = omega arith;
  passes = starts line n;
  leads = starts_leads line n;
  turns = starts_turned (length line) n;
  fronts = starts_known (length line) n;
}

-- ---- the same members

passes_alike : (above : List Kept) (a : Stage) (hs gs : List Hop) → Alike hs gs → Passes above a hs → Passes above a gs
passes_alike above a [] [] alike passes = tt
passes_alike above a [] (g ∷ gs) alike passes = absurd alike
passes_alike above a (h ∷ hs) [] alike passes = absurd alike
passes_alike above a (h ∷ hs) (g ∷ gs) (member, same, alike) (own, follows, below) =
    let runs = λ (r : IsRunning g). let was : IsRunning h = ap (λ (m : Replica). m.stopped) (sym member) ∙ r in was in (
      own,
      record {
        made = subst (Made own) (sym member) follows.made;
        begins = follows.begins;
        lane = λ r. subst (λ (x : Hop). Fed (lane_feeder a x.linked x.member.stage) own x.lane above) (sym (same (runs r))) (follows.lane (runs r));
        next = λ r. subst (λ (x : Hop). Fed (next_feeder a x.member.stage) own x.next above) (sym (same (runs r))) (follows.next (runs r));
      },
      passes_alike own g.member.stage hs gs alike (subst (λ (m : Replica). Passes own m.stage hs) (sym member) below),
    )

turns_alike : (a : Stage) (hs gs : List Hop) → Alike hs gs → Turns a hs → Turns a gs
turns_alike a [] [] alike turns = tt
turns_alike a [] (g ∷ gs) alike turns = absurd alike
turns_alike a (h ∷ hs) [] alike turns = absurd alike
turns_alike a (h ∷ hs) (g ∷ gs) (member, same, alike) (stays, below) = (
  still_last a h g hs gs stays (λ on. stays.heard (ap (λ (m : Replica). sending m.stage) (sym member) ∙ on)) (ap (λ (m : Replica). m.stopped) member) (ap (λ (m : Replica). m.ends) member) (ap (λ (m : Replica). m.holds) member)
      (none_alike hs gs alike),
  turns_alike g.member.stage hs gs alike (subst (λ (m : Replica). Turns m.stage hs) (sym member) below),
)
  where
    none_alike : (hs gs : List Hop) → Alike hs gs → hs ≡ [] → gs ≡ []
    none_alike [] [] alike none = refl
    none_alike [] (g ∷ gs) alike none = absurd alike
    none_alike (h ∷ hs) gs alike none = absurd cc

fronts_alike : (front : ℕ) (hs gs : List Hop) → Alike hs gs → Fronts front hs → Fronts front gs
fronts_alike front [] [] alike fronts = tt
fronts_alike front [] (g ∷ gs) alike fronts = absurd alike
fronts_alike front (h ∷ hs) [] alike fronts = absurd alike
fronts_alike front (h ∷ hs) (g ∷ gs) (member, same, alike) (knows, others) = (subst (Knows front) (sym member) knows, fronts_alike front hs gs alike others)

leads_alike : (line : List Kept) (hs gs : List Hop) → Alike hs gs → Leads line hs → Leads line gs
leads_alike line [] [] alike head = tt
leads_alike line [] (g ∷ gs) alike head = absurd alike
leads_alike line (h ∷ hs) [] alike head = absurd alike
leads_alike line (h ∷ hs) (g ∷ gs) (member, same, alike) head = λ runs l.
    let runs_too : IsRunning h = ap (λ (m : Replica). m.stopped) (sym member) ∙ runs in
    subst (λ (x : Hop). IsRunning x → leads x.linked x.member.stage ≡ true → (x.lane ≡ []) × (length line ≡ reach x.member)) (sym (same runs_too)) head runs l

pub alike_stands : AlikeStands
alike_stands front line old new stands alike = record {
  numbered = stands.numbered;
  within = stands.within;
  passes = passes_alike line Past old new alike stands.passes;
  leads = leads_alike line old new alike stands.leads;
  turns = turns_alike (Now true) old new alike stands.turns;
  fronts = fronts_alike front old new alike stands.fronts;
}
