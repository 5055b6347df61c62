-- Each step, at its place: lemmas.
use Rattle.std.proofs.Common.{◌≡◌, inl, inr, ℕ, zero, suc, ◌-◌, ◌≤◌, Bool, true, false, List, [], ◌∷◌, ◌++◌, length, map, refl, sym, ◌∙◌, ap, subst, arith}
use Rattle.std.proofs.lemmas.List.{length-drop, length_push}
use Rattle.chain_model.specs.Replicas.{Feeder, Hop, Replica, Message, Now, Old, Past, Put, Stage, Turn, lane_feeder, pass_on, reach, send_again, unknown}
use Rattle.version_table.specs.declared.kept.Kept.{Kept}
use Rattle.world_model.specs.Order.{AreNumberedFrom}
use Rattle.chain_model.specs.Turning.{Fed, Fronts, Knows, Made, Passes, Stays, Turns, sending}
use Rattle.chain_model.specs.TurningSteps.{Applies, Commits, Down, IsPassed, IsTold, Learns, PassesOver, Raises, Stops, TakesTurn, applied, is_last, is_untold, knowing, kept, moved, shifted, told, turned, without}
use Rattle.chain_model.proofs.Lanes.{begins_length, fed_applied, fed_passed, fed_turn, lane_own_turned, next_grown, next_is_lane, next_own_turned, nothing_next, numbered_begins, turn_heard}
use Rattle.chain_model.proofs.TurningLists.{made_commit, made_push, made_reach, made_unknown, passes_again, passes_on, passes_told}

-- ---- stages and numbers below a member

pub turns_on : (a s : Stage) (p : Kept) (hs : List Hop) → Turns a hs → Turns a (pass_on s p hs)
turns_on a s p [] turns = tt
turns_on a s p (h ∷ hs) (stays, below) = (record { heard = stays.heard; last = stays.last }, below)

pub fronts_on : (front : ℕ) (s : Stage) (p : Kept) (hs : List Hop) → Fronts front hs → Fronts front (pass_on s p hs)
fronts_on front s p [] fronts = tt
fronts_on front s p (h ∷ hs) fronts = fronts

pub turns_again : (a s : Stage) (again : List Kept) (hs : List Hop) → Turns a hs → Turns a (send_again s again hs)
turns_again a s again [] turns = tt
turns_again a s again (h ∷ hs) (stays, below) = (record { heard = stays.heard; last = stays.last }, below)

pub fronts_again : (front : ℕ) (s : Stage) (again : List Kept) (hs : List Hop) → Fronts front hs → Fronts front (send_again s again hs)
fronts_again front s again [] fronts = tt
fronts_again front s again (h ∷ hs) fronts = fronts

-- the one above sends in the recorded epoch if it did
pub turns_above : (a b : Stage) (hs : List Hop) → (sending a ≡ true → sending b ≡ true) → Turns a hs → Turns b hs
turns_above a b [] more turns = tt
turns_above a b (h ∷ hs) more (stays, below) = (record { heard = λ is. more (stays.heard is); last = stays.last }, below)

pub turned_sends : (s : Stage) → sending s ≡ true → sending (turned s) ≡ true
turned_sends (Now t) is = refl
turned_sends (Old t) is = absurd cc
turned_sends Past is = absurd cc

pub untold_silent : (s : Stage) → is_untold s ≡ true → sending s ≡ false
untold_silent (Now t) is = absurd cc
untold_silent (Old t) is = refl
untold_silent Past is = refl

pub none_on : (s : Stage) (p : Kept) (hs : List Hop) → hs ≡ [] → pass_on s p hs ≡ []
none_on s p hs none = ap (pass_on s p) none

pub none_again : (s : Stage) (again : List Kept) (hs : List Hop) → hs ≡ [] → send_again s again hs ≡ []
none_again s again hs none = ap (send_again s again) none

pub still_last : (a : Stage) (h g : Hop) (hs new : List Hop) → Stays a h hs → (sending g.member.stage ≡ true → sending a ≡ true) → g.member.stopped ≡ h.member.stopped → g.member.ends ≡ h.member.ends
    → g.member.holds ≡ h.member.holds → (hs ≡ [] → new ≡ []) → Stays a g new
still_last a h g hs new stays heard stopped ends holds none = record {
  heard = heard;
  last = λ runs is. elim (stays.last (sym stopped ∙ runs) (sym ends ∙ is)) [ inl holding ↦ inl (holds ∙ holding) | inr nil ↦ inr (none nil) ];
}

-- ---- steps that keep the front

-- the head counts as turned, though nobody feeds it: so what feeds, and what was heard, are two stages there
abbrev pub Keeps : ℕ → (List Hop → List Hop → Type 0) → Type 0
Keeps front Becomes = (above : List Kept) (a b : Stage) (old new : List Hop) → (sending a ≡ true → sending b ≡ true) → AreNumberedFrom 1 above → Passes above a old → Turns b old → Fronts front old
    → Becomes old new → Passes above a new × Turns b new × Fronts front new

pub down : (front : ℕ) (Becomes : List Hop → List Hop → Type 0) → ((new : List Hop) → Becomes [] new → ⊥) → Keeps front Becomes → (i : ℕ) → Keeps front (Down i Becomes)
down front Becomes never keeps zero above a b old new hears numbered passes turns fronts step = keeps above a b old new hears numbered passes turns fronts step
down front Becomes never keeps (suc i) above a b [] new hears numbered passes turns fronts step = absurd step
down front Becomes never keeps (suc i) above a b (h ∷ hs) new hears numbered (own, follows, below) (stays, stages) (knows, others) (rest, new_is, step) =
    let (more, is) = follows.begins in
    let inner = down front Becomes never keeps i own h.member.stage h.member.stage hs rest (λ is. is) (numbered_begins 1 own more (subst (AreNumberedFrom 1) (sym is) numbered)) below stages others step in
    subst (λ (l : List Hop). Passes above a l × Turns b l × Fronts front l) (sym new_is) (
      (own, follows, inner.0),
      (still_last b h h hs rest stays stays.heard refl refl refl (λ nil. absurd (not_below i rest (subst (λ (l : List Hop). Down i Becomes l rest) nil step))), inner.1),
      (knows, inner.2),
    )
  where
    not_below : (j : ℕ) (new : List Hop) → Down j Becomes [] new → ⊥
    not_below zero new step = never new step
    not_below (suc j) new step = step

pub passes_over : (front : ℕ) → Keeps front PassesOver
passes_over front above a b [] new hears numbered passes turns fronts step = absurd step
passes_over front above a b (h ∷ hs) new hears numbered (own, follows, below) (stays, stages) fronts (message, rest, runs, lane, has, new_is) =
    let f : Feeder = lane_feeder a h.linked h.member.stage in
    subst (λ (l : List Hop). Passes above a l × Turns b l × Fronts front l) (sym new_is) (
      (
        own,
        record {
          made = follows.made;
          begins = follows.begins;
          lane = λ r. passed f own above rest message h.member numbered follows.made has (subst (λ (l : List Message). Fed f own l above) lane (follows.lane r));
          next = follows.next;
        },
        below,
      ),
      (record { heard = stays.heard; last = stays.last }, stages),
      fronts,
    )
  where
    passed : (f : Feeder) (own above : List Kept) (rest : List Message) (message : Message) (m : Replica) → AreNumberedFrom 1 above → Made own m → IsPassed m message → Fed f own (message ∷ rest) above → Fed f own rest above
    passed f own above rest (Put p) m numbered made has fed = fed_passed f own above rest p numbered (omega (arith, made_reach own m made)) fed
    passed f own above rest Turn m numbered made has fed = fed_turn f own above rest fed

pub applies : (front : ℕ) → Keeps front Applies
applies front above a b [] new hears numbered passes turns fronts step = absurd step
applies front above a b (h ∷ hs) new hears numbered (own, follows, below) (stays, stages) (knows, others) (p, rest, runs, lane, next, new_is) =
    let f : Feeder = lane_feeder a h.linked h.member.stage in
    let (begins, fed) = fed_applied f own above rest p numbered follows.begins (next ∙ ap suc (made_reach own h.member follows.made)) (subst (λ (l : List Message). Fed f own l above) lane (follows.lane runs)) in
    let g : Hop = record h { lane = rest; member = applied p h.member } in
    subst (λ (l : List Hop). Passes above a l × Turns b l × Fronts front l) (sym new_is) (
      (
        own ++ p ∷ [],
        record { made = made_push own h.member p follows.made; begins = begins; lane = λ r. fed; next = λ r. next_grown a h.member.stage own above h.next p (follows.next r) },
        passes_on own h.member.stage p hs below,
      ),
      (still_last b h g hs (pass_on h.member.stage p hs) stays stays.heard refl refl refl (none_on h.member.stage p hs), turns_on h.member.stage h.member.stage p hs stages),
      (record { within = knows.within; known = knows.known; has = omega (arith, knows.has, length_push h.member.table.kept p) }, fronts_on front h.member.stage p hs others),
    )

pub takes_turn : (front : ℕ) → Keeps front TakesTurn
takes_turn front above a b [] new hears numbered passes turns fronts step = absurd step
takes_turn front above a b (h ∷ hs) new hears numbered (own, follows, below) (stays, stages) (knows, others) (rest, runs, lane, off, new_is) =
    let s : Stage = h.member.stage in
    let fed : Fed (lane_feeder a h.linked s) own (Turn ∷ rest) above = subst (λ (l : List Message). Fed (lane_feeder a h.linked s) own l above) lane (follows.lane runs) in
    let (start, is, from) = made_unknown own h.member follows.made knows.within (omega (arith, knows.known, knows.has)) in
    let g : Hop = record h { lane = rest; member = record h.member { stage = turned s } } in
    let made : Made own g.member = record { done = follows.made.done; own_is = follows.made.own_is; durable = follows.made.durable } in
    subst (λ (l : List Hop). Passes above a l × Turns b l × Fronts front l) (sym new_is) (
      (
        own,
        record {
          made = made;
          begins = follows.begins;
          lane = λ r. subst (λ (f : Feeder). Fed f own rest above) (sym (lane_own_turned a h.linked s)) (fed_turn (lane_feeder a h.linked s) own above rest fed);
          next = λ r. subst (λ (f : Feeder). Fed f own h.next above) (sym (next_own_turned a s)) (follows.next r);
        },
        passes_again front own start (unknown h.member) s hs off is (omega (arith, knows.known)) others below,
      ),
      (
        still_last b h g hs (send_again s (unknown h.member) hs) stays (λ is. hears (turn_heard a h.linked s own above rest fed is)) refl refl refl (none_again s (unknown h.member) hs),
        turns_above s (turned s) (send_again s (unknown h.member) hs) (turned_sends s) (turns_again s s (unknown h.member) hs stages),
      ),
      (record { within = knows.within; known = knows.known; has = knows.has }, fronts_again front s (unknown h.member) hs others),
    )

pub stops : (front : ℕ) → Keeps front Stops
stops front above a b [] new hears numbered passes turns fronts step = absurd step
stops front above a b (h ∷ hs) new hears numbered (own, follows, below) (stays, stages) (knows, others) new_is =
    let made : Made own (record h.member { stopped = true }) = record { done = follows.made.done; own_is = follows.made.own_is; durable = follows.made.durable } in
    subst (λ (l : List Hop). Passes above a l × Turns b l × Fronts front l) (sym new_is) (
      (own, record { made = made; begins = follows.begins; lane = λ r. absurd cc; next = λ r. absurd cc }, below),
      (record { heard = stays.heard; last = λ r. absurd cc }, stages),
      (record { within = knows.within; known = knows.known; has = knows.has }, others),
    )

pub commits : (p front : ℕ) → Keeps front (Commits p)
commits p front above a b [] new hears numbered passes turns fronts step = absurd step
commits p front above a b (h ∷ hs) new hears numbered (own, follows, below) (stays, stages) (knows, others) (above_old, within, new_is) =
    let far : p ≤ reach h.member = omega (arith, knows.known, knows.has) in
    subst (λ (l : List Hop). Passes above a l × Turns b l × Fronts front l) (sym new_is) (
      (own, record { made = made_commit own h.member p follows.made above_old far; begins = follows.begins; lane = follows.lane; next = follows.next }, below),
      (record { heard = stays.heard; last = stays.last }, stages),
      (record { within = within; known = knows.known; has = omega (arith, knows.has, length-drop (p - h.member.table.forgotten) h.member.table.kept) }, others),
    )

made_knowing : (k : ℕ) (own : List Kept) (m : Replica) → Made own m → Made own (knowing k m)
made_knowing k own m made = record { done = made.done; own_is = made.own_is; durable = made.durable }

pub learns : (k front : ℕ) → k ≤ front → Keeps front (Learns k)
learns k front le above a b [] new hears numbered passes turns fronts step = absurd step
learns k front le above a b (h ∷ hs) new hears numbered (own, follows, below) (stays, stages) (knows, others) new_is =
    subst (λ (l : List Hop). Passes above a l × Turns b l × Fronts front l) (sym new_is) (
      (own, record { made = made_knowing k own h.member follows.made; begins = follows.begins; lane = follows.lane; next = follows.next }, below),
      (record { heard = stays.heard; last = stays.last }, stages),
      (record { within = omega (arith, knows.within); known = omega (arith, knows.known); has = knows.has }, others),
    )

pub is_told : (front : ℕ) → Keeps front IsTold
is_told front above a b [] new hears numbered passes turns fronts step = absurd step
is_told front above a b (h ∷ hs) new hears numbered (own, follows, below) (stays, stages) (knows, others) (runs, untold, new_is) =
    let s : Stage = h.member.stage in
    let made : Made own (told false hs h.member) = record { done = follows.made.done; own_is = follows.made.own_is; durable = follows.made.durable } in
    subst (λ (l : List Hop). Passes above a l × Turns b l × Fronts front l) (sym new_is) (
      (
        own,
        record { made = made; begins = follows.begins; lane = λ r. next_is_lane a true s false own above h.next untold (follows.next runs); next = λ r. nothing_next a false own above },
        passes_told own s hs untold below,
      ),
      (record { heard = λ is. absurd cc; last = λ r is. inr (is_last_nil hs is) }, turns_above s (Now false) hs (λ is. absurd (let off = untold_silent s untold in cc)) stages),
      (record { within = knows.within; known = knows.known; has = knows.has }, others),
    )
  where
    is_last_nil : (hs : List Hop) → is_last hs ≡ true → hs ≡ []
    is_last_nil [] is = refl
    is_last_nil (g ∷ gs) is = absurd cc

-- ---- the front rises

knows_more : (front more : ℕ) (m : Replica) → Knows front m → front ≤ more → more ≤ reach m → Knows more m
knows_more front more m knows grows has = record { within = knows.within; known = omega (arith, knows.known); has = has }

-- one that may raise is the last, and all above have what it has
pub raises : (i front more : ℕ) (above : List Kept) (a b : Stage) (old new : List Hop) → Passes above a old → Turns b old → Fronts front old → Down i (Raises more) old new
    → (front ≤ more) × (more ≤ length above) × Passes above a new × Turns b new × Fronts more new
raises zero front more above a b [] new passes turns fronts step = absurd step
raises zero front more above a b (h ∷ hs) new (own, follows, below) (stays, stages) (knows, others) ((runs, ends, free, on), far, new_is) =
    let none : hs ≡ [] = elim (stays.last runs ends) [ inl holding ↦ absurd cc | inr nil ↦ nil ] in
    let size : reach h.member ≡ length own = made_reach own h.member follows.made in
    let grows : front ≤ more = omega (arith, knows.has) in (
      grows,
      omega (arith, begins_length own above follows.begins),
      subst (Passes above a) (sym new_is) (own, follows, below),
      subst (Turns b) (sym new_is) (stays, stages),
      subst (Fronts more) (sym new_is) (knows_more front more h.member knows grows (omega arith), subst (Fronts more) (sym none) tt),
    )
raises (suc i) front more above a b [] new passes turns fronts step = absurd step
raises (suc i) front more above a b (h ∷ hs) new (own, follows, below) (stays, stages) (knows, others) (rest, new_is, step) =
    let (grows, far, passes, turns, fronts) = raises i front more own h.member.stage h.member.stage hs rest below stages others step in
    let size : reach h.member ≡ length own = made_reach own h.member follows.made in (
      grows,
      omega (arith, begins_length own above follows.begins),
      subst (Passes above a) (sym new_is) (own, follows, passes),
      subst (Turns b) (sym new_is) (still_last b h h hs rest stays stays.heard refl refl refl (λ nil. absurd (not_below i rest (subst (λ (l : List Hop). Down i (Raises more) l rest) nil step))), turns),
      subst (Fronts more) (sym new_is) (knows_more front more h.member knows grows (omega arith), fronts),
    )
  where
    not_below : (j : ℕ) (new : List Hop) → Down j (Raises more) [] new → ⊥
    not_below zero new step = step
    not_below (suc j) new step = step

-- ---- the next record

pub shifted_silent : (s : Stage) → sending (shifted s) ≡ false
shifted_silent (Now t) = refl
shifted_silent (Old t) = refl
shifted_silent Past = refl

pub moved_stays : (a b : Stage) (linked : Bool) (h : Hop) (hs new : List Hop) → Stays a h hs → (hs ≡ [] → new ≡ []) → Stays b (moved linked h) new
moved_stays a b linked h hs new stays none = record {
  heard = λ is. absurd (let off = shifted_silent h.member.stage in cc);
  last = λ runs is. elim (stays.last runs is) [ inl holding ↦ inl holding | inr nil ↦ inr (none nil) ];
}

pub turns_moved : (a b : Stage) (hs : List Hop) → Turns a hs → Turns b (map kept hs)
turns_moved a b [] turns = tt
turns_moved a b (h ∷ hs) (stays, below) =
    (moved_stays a b h.linked h hs (map kept hs) stays (ap (map kept)), turns_moved h.member.stage (shifted h.member.stage) hs below)

pub fronts_moved : (front : ℕ) (hs : List Hop) → Fronts front hs → Fronts front (map kept hs)
fronts_moved front [] fronts = tt
fronts_moved front (h ∷ hs) (knows, others) = (record { within = knows.within; known = knows.known; has = knows.has }, fronts_moved front hs others)

pub turns_without : (i : ℕ) (a b : Stage) (hs : List Hop) → Turns a hs → Turns b (without i hs)
turns_without i a b [] turns = tt
turns_without zero a b (m ∷ []) turns = tt
turns_without zero a b (m ∷ g ∷ hs) (left, (stays, below)) =
    (moved_stays m.member.stage b false g hs (map kept hs) stays (ap (map kept)), turns_moved g.member.stage (shifted g.member.stage) hs below)
turns_without (suc i) a b (h ∷ hs) (stays, below) =
    (moved_stays a b h.linked h hs (without i hs) stays (ap (without i)), turns_without i h.member.stage (shifted h.member.stage) hs below)

pub fronts_without : (i front : ℕ) (hs : List Hop) → Fronts front hs → Fronts front (without i hs)
fronts_without i front [] fronts = tt
fronts_without zero front (m ∷ []) fronts = tt
fronts_without zero front (m ∷ g ∷ hs) (left, (knows, others)) = (record { within = knows.within; known = knows.known; has = knows.has }, fronts_moved front hs others)
fronts_without (suc i) front (h ∷ hs) (knows, others) = (record { within = knows.within; known = knows.known; has = knows.has }, fronts_without i front hs others)
