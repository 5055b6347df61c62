-- A holding tail and a joiner, through each step: lemmas.
use Rattle.std.proofs.Common.{◌≡◌, inl, inr, ℕ, zero, suc, ◌≤◌, Bool, true, false, List, [], ◌∷◌, length, take, drop, map, refl, sym, ◌∙◌, ap, subst, arith}
use Rattle.std.proofs.lemmas.List.{append-nil, length-take-le, take-append-drop}
use Rattle.chain_model.specs.Replicas.{Hop, Replica, Now, Old, Past, Stage, lane_feeder, next_feeder, pass_on, send_again, unknown}
use Rattle.version_table.specs.declared.kept.Kept.{Kept}
use Rattle.chain_model.specs.Holding.{AttachStands, Attaches, IsHeld, Holders, HoldersStay, IsJoiner, JoinStands, TailRests, joiner, with_joiner}
use Rattle.chain_model.specs.TurningLaws as laws
use Rattle.chain_model.specs.TurningLaws.{Quietly}
use Rattle.chain_model.specs.Turning.{Begins, Fed, Follows, Fronts, Leads, Made, Passes, Turns, sending, turned_of}
use Rattle.chain_model.specs.TurningSteps.{AllTold, Down, HeadIsTold, IsRunning, IsTold, Learns, Numbers, Raises, applied, is_untold, knowing, kept, moved, shifted, told, turned, without}
use Rattle.chain_model.proofs.Lanes.{begins_all}
use Rattle.chain_model.proofs.TurningLists.{follows_moved, made_reach}
use Rattle.chain_model.proofs.TurningPlaces.{Keeps, down, moved_stays, shifted_silent, untold_silent}
use Rattle.chain_model.proofs.TurningTops.{LeadsKeeps, down_leads, moved_leads}

-- ---- the members below stay

abbrev Alike : List Hop → List Hop → Type 0
Alike [] [] = Unit {0}
Alike [] (g ∷ gs) = ⊥
Alike (h ∷ hs) [] = ⊥
Alike (h ∷ hs) (g ∷ gs) = (g.member ≡ h.member) × Alike hs gs

alike_but_stopped : (hs gs : List Hop) → laws.Alike hs gs → Alike hs gs
alike_but_stopped [] [] alike = tt
alike_but_stopped [] (g ∷ gs) alike = absurd alike
alike_but_stopped (h ∷ hs) [] alike = absurd alike
alike_but_stopped (h ∷ hs) (g ∷ gs) (same, runs, alike) = (same, alike_but_stopped hs gs alike)

alike_same : (hs : List Hop) → Alike hs hs
alike_same [] = tt
alike_same (h ∷ hs) = (refl, alike_same hs)

alike_on : (s : Stage) (p : Kept) (hs : List Hop) → Alike hs (pass_on s p hs)
alike_on s p [] = tt
alike_on s p (h ∷ hs) = (refl, alike_same hs)

alike_again : (s : Stage) (again : List Kept) (hs : List Hop) → Alike hs (send_again s again hs)
alike_again s again [] = tt
alike_again s again (h ∷ hs) = (refl, alike_same hs)

alike_none : (hs gs : List Hop) → Alike hs gs → hs ≡ [] → gs ≡ []
alike_none [] [] alike none = refl
alike_none [] (g ∷ gs) alike none = absurd alike
alike_none (h ∷ hs) gs alike none = absurd cc

-- it isn't the tail of a chain before it is told the recorded one
abbrev EndsTold : Replica → Type 0
EndsTold m = is_untold m.stage ≡ true → m.ends ≡ false

-- what a step may do to the hop at its place
record Same (front : ℕ) (h g : Hop) : Type 0 where
  runs : IsRunning g → IsRunning h
  holds : g.member.holds ≡ true → h.member.holds ≡ true
  known : h.member.known ≡ front → g.member.known ≡ front
  untold : is_untold h.member.stage ≡ true → is_untold g.member.stage ≡ true
  ending : EndsTold h.member → EndsTold g.member

same_member : (front : ℕ) (h g : Hop) → g.member ≡ h.member → Same front h g
same_member front h g is = record {
  runs = λ r. ap (λ (m : Replica). m.stopped) (sym is) ∙ r;
  holds = λ r. ap (λ (m : Replica). m.holds) (sym is) ∙ r;
  known = λ r. ap (λ (m : Replica). m.known) is ∙ r;
  untold = λ r. ap (λ (m : Replica). is_untold m.stage) is ∙ r;
  ending = subst EndsTold (sym is);
}

joiner_alike : (h g : Hop) (hs gs : List Hop) → (EndsTold h.member → EndsTold g.member) → Alike hs gs → IsJoiner (h ∷ hs) → IsJoiner (g ∷ gs)
joiner_alike h g [] [] ending alike is = ending is
joiner_alike h g [] (x ∷ gs) ending alike is = absurd alike
joiner_alike h g (x ∷ hs) gs ending alike is = absurd is

joiners_alike : (hs gs : List Hop) → Alike hs gs → IsJoiner hs → IsJoiner gs
joiners_alike [] gs alike is = absurd is
joiners_alike (h ∷ hs) [] alike is = absurd alike
joiners_alike (h ∷ hs) (g ∷ gs) (same, alike) is = joiner_alike h g hs gs (subst EndsTold (sym same)) alike is

held_same : (front : ℕ) (h g : Hop) (hs gs : List Hop) → Same front h g → (hs ≡ [] → gs ≡ []) → (IsJoiner hs → IsJoiner gs) → (IsRunning h → h.member.holds ≡ true → IsHeld front h hs)
    → IsRunning g → g.member.holds ≡ true → IsHeld front g gs
held_same front h g hs gs same none joins held runs holds =
    let was : IsHeld front h hs = held (same.runs runs) (same.holds holds) in
    record { known = same.known was.known; alone = elim was.alone [ inl nil ↦ inl (none nil) | inr (untold, is) ↦ inr (same.untold untold, joins is) ] }

holders_alike : (front : ℕ) (hs gs : List Hop) → Alike hs gs → Holders front hs → Holders front gs
holders_alike front [] [] alike holders = tt
holders_alike front [] (g ∷ gs) alike holders = absurd alike
holders_alike front (h ∷ hs) [] alike holders = absurd alike
holders_alike front (h ∷ hs) (g ∷ gs) (same, alike) (held, others) =
    (held_same front h g hs gs (same_member front h g same) (alike_none hs gs alike) (joiners_alike hs gs alike) held, holders_alike front hs gs alike others)

-- ---- a step at its place

abbrev Stay : ℕ → (List Hop → List Hop → Type 0) → Type 0
Stay front Becomes = (old new : List Hop) → Fronts front old → Becomes old new → (Holders front old → Holders front new) × (IsJoiner old → IsJoiner new)

here : (front : ℕ) (h g : Hop) (hs gs new : List Hop) → Same front h g → Alike hs gs → new ≡ g ∷ gs → (Holders front (h ∷ hs) → Holders front new) × (IsJoiner (h ∷ hs) → IsJoiner new)
here front h g hs gs new same alike new_is = subst (λ (l : List Hop). (Holders front (h ∷ hs) → Holders front l) × (IsJoiner (h ∷ hs) → IsJoiner l)) (sym new_is) (
  λ (held, others). (held_same front h g hs gs same (alike_none hs gs alike) (joiners_alike hs gs alike) held, holders_alike front hs gs alike others),
  joiner_alike h g hs gs same.ending alike,
)

turned_untold : (s : Stage) → is_untold (turned s) ≡ is_untold s
turned_untold (Now t) = refl
turned_untold (Old t) = refl
turned_untold Past = refl

quiet_stay : (front : ℕ) → Stay front Quietly
quiet_stay front [] new fronts (inl step) = absurd step
quiet_stay front [] new fronts (inr (inl step)) = absurd step
quiet_stay front [] new fronts (inr (inr (inl step))) = absurd step
quiet_stay front [] new fronts (inr (inr (inr (inl step)))) = absurd step
quiet_stay front [] new fronts (inr (inr (inr (inr (p, step))))) = absurd step
quiet_stay front (h ∷ hs) new fronts (inl (p, rest, runs, lane, has, new_is)) =
    let g : Hop = record h { lane = rest } in here front h g hs hs new (same_member front h g refl) (alike_same hs) new_is
quiet_stay front (h ∷ hs) new fronts (inr (inl (p, rest, runs, lane, next, new_is))) =
    let g : Hop = record h { lane = rest; member = applied p h.member } in
    here front h g hs (pass_on h.member.stage p hs) new (record { runs = λ r. r; holds = λ r. r; known = λ r. r; untold = λ r. r; ending = λ r. r }) (alike_on h.member.stage p hs) new_is
quiet_stay front (h ∷ hs) new fronts (inr (inr (inl (rest, runs, lane, off, new_is)))) =
    let g : Hop = record h { lane = rest; member = record h.member { stage = turned h.member.stage } } in
    here front h g hs (send_again h.member.stage (unknown h.member) hs) new
    (record { runs = λ r. r; holds = λ r. r; known = λ r. r; untold = λ r. turned_untold h.member.stage ∙ r; ending = λ told r. told (sym (turned_untold h.member.stage) ∙ r) }) (alike_again h.member.stage (unknown h.member) hs) new_is
quiet_stay front (h ∷ hs) new fronts (inr (inr (inr (inl new_is)))) =
    let g : Hop = record h { member = record h.member { stopped = true } } in
    here front h g hs hs new (record { runs = λ r. absurd cc; holds = λ r. r; known = λ r. r; untold = λ r. r; ending = λ r. r }) (alike_same hs) new_is
quiet_stay front (h ∷ hs) new fronts (inr (inr (inr (inr (p, (above, within, new_is)))))) =
    here front h _ hs hs new (record { runs = λ r. r; holds = λ r. r; known = λ r. r; untold = λ r. r; ending = λ r. r }) (alike_same hs) new_is

learn_stay : (k front : ℕ) → k ≤ front → Stay front (Learns k)
learn_stay k front le [] new fronts step = absurd step
learn_stay k front le (h ∷ hs) new fronts new_is =
    let g : Hop = record h { member = knowing k h.member } in
    here front h g hs hs new (record { runs = λ r. r; holds = λ r. r; known = λ r. omega arith; untold = λ r. r; ending = λ r. r }) (alike_same hs) new_is

told_stay : (front : ℕ) → Stay front IsTold
told_stay front [] new fronts step = absurd step
told_stay front (h ∷ hs) new fronts (runs, untold, new_is) =
    let g : Hop = record h { lane = h.next; next = []; linked = true; member = told false hs h.member } in
    subst (λ (l : List Hop). (Holders front (h ∷ hs) → Holders front l) × (IsJoiner (h ∷ hs) → IsJoiner l)) (sym new_is)
    (λ (held, others). (λ r is. absurd cc, others), joiner_alike h g hs hs (λ r is. absurd cc) (alike_same hs))

-- nothing is below a joiner
joiner_last : (h : Hop) (hs : List Hop) → IsJoiner (h ∷ hs) → hs ≡ []
joiner_last h [] is = refl
joiner_last h (g ∷ hs) is = absurd is

stay_down : (front : ℕ) (Becomes : List Hop → List Hop → Type 0) → ((new : List Hop) → Becomes [] new → ⊥) → Stay front Becomes → (i : ℕ) → Stay front (Down i Becomes)
stay_down front Becomes never stay zero old new fronts step = stay old new fronts step
stay_down front Becomes never stay (suc i) [] new fronts step = absurd step
stay_down front Becomes never stay (suc i) (h ∷ hs) new (knows, others) (rest, new_is, step) =
    let (holders, joins) = stay_down front Becomes never stay i hs rest others step in
    let nothing : hs ≡ [] → ⊥ = λ nil. not_below i rest (subst (λ (l : List Hop). Down i Becomes l rest) nil step) in
    subst (λ (l : List Hop). (Holders front (h ∷ hs) → Holders front l) × (IsJoiner (h ∷ hs) → IsJoiner l)) (sym new_is) (
      λ (held, below). (held_same front h h hs rest (same_member front h h refl) (λ nil. absurd (nothing nil)) joins held, holders below),
      λ is. absurd (nothing (joiner_last h hs is)),
    )
  where
    not_below : (j : ℕ) (new : List Hop) → Down j Becomes [] new → ⊥
    not_below zero new step = never new step
    not_below (suc j) new step = step

-- the tail doesn't hold, and no other member does
raise_holders : (i front more : ℕ) (a : Stage) (old new : List Hop) → Turns a old → Holders front old → Down i (Raises more) old new → Holders more new
raise_holders zero front more a [] new turns holders step = absurd step
raise_holders zero front more a (h ∷ hs) new (stays, stages) (held, others) ((runs, ends, free, on), far, new_is) =
    let none : hs ≡ [] = elim (stays.last runs ends) [ inl holding ↦ absurd cc | inr nil ↦ nil ] in
    subst (Holders more) (sym new_is) (λ r is. absurd cc, subst (Holders more) (sym none) tt)
raise_holders (suc i) front more a [] new turns holders step = absurd step
raise_holders (suc i) front more a (h ∷ hs) new (stays, stages) (held, others) (rest, new_is, step) =
    subst (Holders more) (sym new_is) (
      λ r is. absurd (elim ((held r is).alone) [
        | inl nil ↦ not_below i rest (subst (λ (l : List Hop). Down i (Raises more) l rest) nil step)
        | inr (untold, joins) ↦ let on = joiner_heard i h.member.stage hs rest joins stages step in let off = untold_silent h.member.stage untold in cc
      ]),
      raise_holders i front more h.member.stage hs rest stages others step,
    )
  where
    not_below : (j : ℕ) (new : List Hop) → Down j (Raises more) [] new → ⊥
    not_below zero new step = step
    not_below (suc j) new step = step

    turned_sends_now : (s : Stage) (end : Bool) → (is_untold s ≡ true → end ≡ false) → end ≡ true → turned_of s ≡ true → sending s ≡ true
    turned_sends_now (Now t) end told ends on = on
    turned_sends_now (Old t) end told ends on = absurd (let never = told refl in cc)
    turned_sends_now Past end told ends on = absurd (let never = told refl in cc)

    joiner_heard : (j : ℕ) (b : Stage) (hs new : List Hop) → IsJoiner hs → Turns b hs → Down j (Raises more) hs new → sending b ≡ true
    joiner_heard j b [] new joins turns step = absurd joins
    joiner_heard zero b (x ∷ []) new joins (stays, stages) ((runs, ends, free, on), far, new_is) = stays.heard (turned_sends_now x.member.stage x.member.ends joins ends on)
    joiner_heard (suc j) b (x ∷ []) new joins turns (rest, new_is, step) = absurd (not_below j rest step)
    joiner_heard j b (x ∷ y ∷ hs) new joins turns step = absurd joins

number_holders : (front : ℕ) (p : Kept) (old new : List Hop) → Holders front old → Numbers p old new → Holders front new
number_holders front p [] new holders step = absurd step
number_holders front p (h ∷ hs) new holders (runs, leading, next, new_is) =
    let g : Hop = record h { member = applied p h.member } in
    (here front h g hs (pass_on h.member.stage p hs) new (record { runs = λ r. r; holds = λ r. r; known = λ r. r; untold = λ r. r; ending = λ r. r }) (alike_on h.member.stage p hs) new_is).0 holders

head_told_holders : (front : ℕ) (old new : List Hop) → Holders front old → HeadIsTold old new → Holders front new
head_told_holders front [] new holders step = absurd step
head_told_holders front (h ∷ hs) new (held, others) (runs, untold, new_is) =
    subst (Holders front) (sym new_is) (λ r is. absurd cc, holders_alike front hs (send_again (Now false) (unknown h.member) hs) (alike_again (Now false) (unknown h.member) hs) others)

held_moved : (front : ℕ) (linked : Bool) (h : Hop) (hs new : List Hop) → (IsRunning h → is_untold h.member.stage ≡ false) → (hs ≡ [] → new ≡ []) → (IsRunning h → h.member.holds ≡ true → IsHeld front h hs)
    → IsRunning (moved linked h) → (moved linked h).member.holds ≡ true → IsHeld front (moved linked h) new
held_moved front linked h hs new told none held runs holds =
    record { known = (held runs holds).known; alone = elim ((held runs holds).alone) [ inl nil ↦ inl (none nil) | inr (untold, joins) ↦ absurd (let was = told runs in cc) ] }

holders_moved : (front : ℕ) (hs : List Hop) → AllTold hs → Holders front hs → Holders front (map kept hs)
holders_moved front [] all holders = tt
holders_moved front (h ∷ hs) (told, all) (held, others) = (held_moved front h.linked h hs (map kept hs) told (ap (map kept)) held, holders_moved front hs all others)

holders_without : (i front : ℕ) (hs : List Hop) → AllTold hs → Holders front hs → Holders front (without i hs)
holders_without i front [] all holders = tt
holders_without zero front (m ∷ []) all holders = tt
holders_without zero front (m ∷ g ∷ hs) (told_m, (told, all)) (left, (held, others)) =
    (held_moved front false g hs (map kept hs) told (ap (map kept)) held, holders_moved front hs all others)
holders_without (suc i) front (h ∷ hs) (told, all) (held, others) = (held_moved front h.linked h hs (without i hs) told (ap (without i)) held, holders_without i front hs all others)

not_quiet : (new : List Hop) → Quietly [] new → ⊥
not_quiet new (inl step) = step
not_quiet new (inr (inl step)) = step
not_quiet new (inr (inr (inl step))) = step
not_quiet new (inr (inr (inr (inl step)))) = step
not_quiet new (inr (inr (inr (inr (p, step))))) = step

pub holders_stay : HoldersStay
holders_stay front i line old stands holders = (
  λ new step. (stay_down front Quietly not_quiet (quiet_stay front) i old new stands.fronts step).0 holders,
  λ new step. (stay_down front IsTold (λ new step. step) (told_stay front) i old new stands.fronts step).0 holders,
  λ k new le step. (stay_down front (Learns k) (λ new step. step) (learn_stay k front le) i old new stands.fronts step).0 holders,
  λ more new step. raise_holders i front more (Now true) old new stands.turns holders step,
  λ p new step. number_holders front p old new holders step,
  λ new step. head_told_holders front old new holders step,
  λ all. (holders_without i front old all holders, holders_moved front old all holders),
  λ new alike. holders_alike front old new (alike_but_stopped old new alike) holders,
)

-- ---- the tail holds

attaches : (front : ℕ) → Keeps front (Attaches front)
attaches front above a b [] new hears numbered passes turns fronts step = absurd step
attaches front above a b (h ∷ hs) new hears numbered (own, follows, below) (stays, stages) (knows, others) (runs, none, new_is) =
    let g : Hop = record h { member = record h.member { known = front; holds = true } } in
    let made : Made own g.member = record { done = follows.made.done; own_is = follows.made.own_is; durable = follows.made.durable } in
    subst (λ (l : List Hop). Passes above a l × Turns b l × Fronts front l) (sym new_is) (
      (own, record { made = made; begins = follows.begins; lane = follows.lane; next = follows.next }, tt),
      (record { heard = stays.heard; last = λ r is. inl refl }, tt),
      (record { within = omega (arith, knows.within, knows.known); known = omega arith; has = knows.has }, tt),
    )

attach_leads : (front : ℕ) → LeadsKeeps (Attaches front)
attach_leads front bound line [] new fronts head step = absurd step
attach_leads front bound line (h ∷ hs) new fronts head (runs, none, new_is) = subst (Leads line) (sym new_is) head

attach_stay : (front : ℕ) → Stay front (Attaches front)
attach_stay front [] new fronts step = absurd step
attach_stay front (h ∷ hs) new fronts (runs, none, new_is) =
    subst (λ (l : List Hop). (Holders front (h ∷ hs) → Holders front l) × (IsJoiner (h ∷ hs) → IsJoiner l)) (sym new_is)
    (λ holders. (λ r is. record { known = refl; alone = inl refl }, tt), λ is. subst (λ (l : List Hop). IsJoiner (h ∷ l)) none is)

pub attach_stands : AttachStands
attach_stands front i line old new stands holders step =
    let (passes, turns, fronts) = down front (Attaches front) (λ new step. step) (attaches front) i line Past (Now true) old new (λ is. refl) stands.numbered stands.passes stands.turns stands.fronts step in (
      record { numbered = stands.numbered; within = stands.within; passes = passes; leads = down_leads (Attaches front) (attach_leads front) i front line old new stands.fronts stands.leads step; turns = turns; fronts = fronts },
      (stay_down front (Attaches front) (λ new step. step) (attach_stay front) i old new stands.fronts step).0 holders,
    )

-- ---- the joiner is recorded

lane_of_joiner : (s : Stage) (own above : List Kept) → Begins own above → Fed (lane_feeder (shifted s) false (Old true)) own [] above
lane_of_joiner (Now t) own above begins = (own, begins_all own, begins, record { before = own; is = append-nil own; reached = omega arith })
lane_of_joiner (Old t) own above begins = (own, begins_all own, begins, record { before = own; is = append-nil own; reached = omega arith })
lane_of_joiner Past own above begins = (own, begins_all own, begins, record { before = own; is = append-nil own; reached = omega arith })

next_of_joiner : (s : Stage) (own above : List Kept) → Fed (next_feeder (shifted s) (Old true)) own [] above
next_of_joiner (Now t) own above = refl
next_of_joiner (Old t) own above = refl
next_of_joiner Past own above = refl

shifted_untold : (s : Stage) → is_untold (shifted s) ≡ true
shifted_untold (Now t) = refl
shifted_untold (Old t) = refl
shifted_untold Past = refl

joined : (front : ℕ) (above : List Kept) (a b : Stage) (hs : List Hop) → AllTold hs → TailRests hs → Passes above a hs → Turns b hs → Fronts front hs → Holders front hs
    → (c : Stage) → Passes above (shifted a) (with_joiner front hs) × Turns c (with_joiner front hs) × Fronts front (with_joiner front hs) × Holders front (with_joiner front hs)
joined front above a b [] all rests passes turns fronts holders c = absurd rests
joined front above a b (t ∷ []) (told, all) rests (own, follows, below) (stays, stages) (knows, others) (held, rest) c =
    let far : front ≤ length own = omega (arith, knows.has, made_reach own t.member follows.made) in
    let begins : Begins (take front own) own = (drop front own, take-append-drop front own) in
    let joins : Follows own (shifted t.member.stage) (take front own) (joiner front) = record {
      made = record { done = take front own; own_is = append-nil (take front own); durable = length-take-le front own far };
      begins = begins;
      lane = λ r. lane_of_joiner t.member.stage (take front own) own begins;
      next = λ r. next_of_joiner t.member.stage (take front own) own;
    } in (
      (own, follows_moved above a own t told follows, (take front own, joins, tt)),
      (
        record { heard = λ is. absurd (let off = shifted_silent t.member.stage in cc); last = λ r is. inl (rests r) },
        (record { heard = λ is. absurd cc; last = λ r is. absurd cc }, tt),
      ),
      (record { within = knows.within; known = knows.known; has = knows.has }, (record { within = omega arith; known = omega arith; has = omega arith }, tt)),
      (λ r is. record { known = (held r is).known; alone = inr (shifted_untold t.member.stage, λ untold. refl) }, (λ r is. absurd cc, tt)),
    )
joined front above a b (h ∷ g ∷ hs) (told, all) rests (own, follows, below) (stays, stages) (knows, others) (held, rest) c =
    let (passes, turns, fronts, holders) = joined front own h.member.stage h.member.stage (g ∷ hs) all rests below stages others rest (shifted h.member.stage) in (
      (own, follows_moved above a own h told follows, passes),
      (moved_stays b c h.linked h (g ∷ hs) (with_joiner front (g ∷ hs)) stays (λ nil. absurd cc), turns),
      (record { within = knows.within; known = knows.known; has = knows.has }, fronts),
      (held_moved front h.linked h (g ∷ hs) (with_joiner front (g ∷ hs)) told (λ nil. absurd cc) held, holders),
    )

joined_leads : (front : ℕ) (line : List Kept) (hs : List Hop) → AllTold hs → Leads line hs → Leads line (with_joiner front hs)
joined_leads front line [] all head = tt
joined_leads front line (t ∷ []) (told, all) head = moved_leads line t [] (joiner front ∷ []) told head
joined_leads front line (h ∷ g ∷ hs) (told, all) head = moved_leads line h (g ∷ hs) (with_joiner front (g ∷ hs)) told head

pub join_stands : JoinStands
join_stands front line hops stands holders all rests =
    let (passes, turns, fronts, holding) = joined front line Past (Now true) hops all rests stands.passes stands.turns stands.fronts holders (Now true) in (
      record { numbered = stands.numbered; within = stands.within; passes = passes; leads = joined_leads front line hops all stands.leads; turns = turns; fronts = fronts },
      holding,
    )
