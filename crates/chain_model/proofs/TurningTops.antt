-- Each step keeps what holds of the whole chain: lemmas.
use Rattle.std.proofs.Common.{◌≡◌, inl, inr, ℕ, zero, suc, ◌-◌, ◌≤◌, Bool, true, false, Some, List, [], ◌∷◌, ◌++◌, length, map, refl, sym, ◌∙◌, ap, subst, arith}
use Rattle.std.specs.Prelude.{slice_get}
use Rattle.std.proofs.lemmas.List.{length-drop, length_push}
use Rattle.std.proofs.lemmas.Option.{same_Some}
use Rattle.chain_model.specs.Replicas.{Hop, Message, Now, Old, Past, Put, Stage, lane_feeder, pass_on, reach, send_again, unknown}
use Rattle.version_table.specs.declared.kept.Kept.{Kept}
use Rattle.chain_model.specs.TurningLaws.{HeadToldStands, LearnStands, MembersAgree, NumberStands, OneRaises, QuietStands, Quietly, RaiseStands, RecordStands, ToldStands}
use Rattle.world_model.specs.Order.{AreNumberedFrom}
use Rattle.chain_model.specs.Turning.{Begins, Fed, Follows, Fronts, Leads, Made, Passes, Stands, Turns, leads}
use Rattle.chain_model.specs.TurningSteps.{AllTold, Down, IsRunning, IsTold, Learns, MayRaise, Raises, applied, is_last, is_untold, kept, moved, shifted, told, turned, without}
use Rattle.chain_model.proofs.Lanes.{begins_all, begins_same, begins_trans, fed_near, next_is_lane, nothing_dead, nothing_next, numbered_begins, numbered_push}
use Rattle.chain_model.proofs.TurningLists.{made_push, made_reach, made_unknown, passes_again, passes_moved, passes_on, passes_told, passes_without}
use Rattle.chain_model.proofs.TurningPlaces.{Keeps, applies, commits, down, fronts_again, fronts_moved, fronts_on, fronts_without, is_told, learns, none_again, none_on, passes_over, raises, still_last, stops, takes_turn, turns_above, turns_again, turns_moved, turns_on, turns_without}

is_last_nil : (hs : List Hop) → is_last hs ≡ true → hs ≡ []
is_last_nil [] is = refl
is_last_nil (g ∷ gs) is = absurd cc

lane_empty : (linked : Bool) (g : Stage) (own : List Kept) (ms : List Message) → ms ≡ [] → Fed (lane_feeder Past linked g) own ms own
lane_empty linked (Now t) own ms none = none
lane_empty linked (Old t) own ms none = nothing_dead own own ms (begins_all own) none
lane_empty linked Past own ms none = none

-- ---- whether the head numbers writes

abbrev pub LeadsKeeps : (List Hop → List Hop → Type 0) → Type 0
LeadsKeeps Becomes = (front : ℕ) (line : List Kept) (old new : List Hop) → Fronts front old → Leads line old → Becomes old new → Leads line new

pub down_leads : (Becomes : List Hop → List Hop → Type 0) → LeadsKeeps Becomes → (i : ℕ) → LeadsKeeps (Down i Becomes)
down_leads Becomes keeps zero front line old new fronts head step = keeps front line old new fronts head step
down_leads Becomes keeps (suc i) front line [] new fronts head step = absurd step
down_leads Becomes keeps (suc i) front line (h ∷ hs) new fronts head (rest, new_is, step) = subst (Leads line) (sym new_is) head

leads_turned : (linked : Bool) (s : Stage) → leads linked (turned s) ≡ true → leads linked s ≡ true
leads_turned linked (Now t) is = is
leads_turned linked (Old t) is = is
leads_turned linked Past is = is

quiet_leads : LeadsKeeps Quietly
quiet_leads front line [] new fronts head (inl step) = absurd step
quiet_leads front line [] new fronts head (inr (inl step)) = absurd step
quiet_leads front line [] new fronts head (inr (inr (inl step))) = absurd step
quiet_leads front line [] new fronts head (inr (inr (inr (inl step)))) = absurd step
quiet_leads front line [] new fronts head (inr (inr (inr (inr (p, step))))) = absurd step
quiet_leads front line (h ∷ hs) new fronts head (inl (p, rest, runs, lane, has, new_is)) =
    subst (Leads line) (sym new_is) (λ r l. absurd (let none = (head r l).0 in cc))
quiet_leads front line (h ∷ hs) new fronts head (inr (inl (p, rest, runs, lane, next, new_is))) =
    subst (Leads line) (sym new_is) (λ r l. absurd (let none = (head r l).0 in cc))
quiet_leads front line (h ∷ hs) new fronts head (inr (inr (inl (rest, runs, lane, off, new_is)))) =
    subst (Leads line) (sym new_is) (λ r l. absurd (let none = (head r (leads_turned h.linked h.member.stage l)).0 in cc))
quiet_leads front line (h ∷ hs) new fronts head (inr (inr (inr (inl new_is)))) = subst (Leads line) (sym new_is) (λ r l. absurd cc)
quiet_leads front line (h ∷ hs) new (knows, others) head (inr (inr (inr (inr (p, (above, within, new_is)))))) =
    subst (Leads line) (sym new_is)
    (λ r l. ((head r l).0, omega (arith, (head r l).1, knows.known, knows.has, length-drop (p - h.member.table.forgotten) h.member.table.kept)))

learn_leads : (k : ℕ) → LeadsKeeps (Learns k)
learn_leads k front line [] new fronts head step = absurd step
learn_leads k front line (h ∷ hs) new fronts head new_is = subst (Leads line) (sym new_is) head

raise_leads : (k : ℕ) → LeadsKeeps (Raises k)
raise_leads k front line [] new fronts head step = absurd step
raise_leads k front line (h ∷ hs) new fronts head (may, far, new_is) = subst (Leads line) (sym new_is) head

-- ---- quiet steps

not_quiet : (new : List Hop) → Quietly [] new → ⊥
not_quiet new (inl step) = step
not_quiet new (inr (inl step)) = step
not_quiet new (inr (inr (inl step))) = step
not_quiet new (inr (inr (inr (inl step)))) = step
not_quiet new (inr (inr (inr (inr (p, step))))) = step

quietly : (front : ℕ) → Keeps front Quietly
quietly front above a b old new hears numbered passes turns fronts (inl step) = passes_over front above a b old new hears numbered passes turns fronts step
quietly front above a b old new hears numbered passes turns fronts (inr (inl step)) = applies front above a b old new hears numbered passes turns fronts step
quietly front above a b old new hears numbered passes turns fronts (inr (inr (inl step))) = takes_turn front above a b old new hears numbered passes turns fronts step
quietly front above a b old new hears numbered passes turns fronts (inr (inr (inr (inl step)))) = stops front above a b old new hears numbered passes turns fronts step
quietly front above a b old new hears numbered passes turns fronts (inr (inr (inr (inr (p, step))))) = commits p front above a b old new hears numbered passes turns fronts step

pub quiet_stands : QuietStands
quiet_stands front i line old new stands step =
    let (passes, turns, fronts) = down front Quietly not_quiet (quietly front) i line Past (Now true) old new (λ is. refl) stands.numbered stands.passes stands.turns stands.fronts step in
    record { numbered = stands.numbered; within = stands.within; passes = passes; leads = down_leads Quietly quiet_leads i front line old new stands.fronts stands.leads step; turns = turns; fronts = fronts }

pub told_stands : ToldStands
told_stands front i line old new stands step =
    let (passes, turns, fronts) = down front IsTold (λ new step. step) (is_told front) (suc i) line Past (Now true) old new (λ is. refl) stands.numbered stands.passes stands.turns stands.fronts step in
    record { numbered = stands.numbered; within = stands.within; passes = passes; leads = below_leads i line old new stands.leads step; turns = turns; fronts = fronts }
  where
    below_leads : (i : ℕ) (line : List Kept) (old new : List Hop) → Leads line old → Down (suc i) IsTold old new → Leads line new
    below_leads i line [] new head step = absurd step
    below_leads i line (h ∷ hs) new head (rest, new_is, step) = subst (Leads line) (sym new_is) head

pub learn_stands : LearnStands
learn_stands front i k line old new stands known step =
    let (passes, turns, fronts) = down front (Learns k) (λ new step. step) (learns k front known) i line Past (Now true) old new (λ is. refl) stands.numbered stands.passes stands.turns stands.fronts step in
    record { numbered = stands.numbered; within = stands.within; passes = passes; leads = down_leads (Learns k) (learn_leads k) i front line old new stands.fronts stands.leads step; turns = turns; fronts = fronts }

pub raise_stands : RaiseStands
raise_stands front more i line old new stands step =
    let (grows, far, passes, turns, fronts) = raises i front more line Past (Now true) old new stands.passes stands.turns stands.fronts step in (
      grows,
      record { numbered = stands.numbered; within = far; passes = passes; leads = down_leads (Raises more) (raise_leads more) i front line old new stands.fronts stands.leads step; turns = turns; fronts = fronts },
    )

-- ---- the head

pub number_stands : NumberStands
number_stands front p line [] new stands step = absurd step
number_stands front p line (h ∷ hs) new stands (runs, leading, next, is) =
    let (own, follows, below) = stands.passes in
    let (stays, stages) = stands.turns in
    let (knows, others) = stands.fronts in
    let (none, size) = stands.leads runs leading in
    let all : own ≡ line = begins_same own line follows.begins (omega (arith, made_reach own h.member follows.made)) in
    let g : Hop = record h { member = applied p h.member } in
    let far : p.number ≡ suc (length line) = next ∙ ap suc (sym size) in
    let longer : own ++ p ∷ [] ≡ line ++ p ∷ [] = ap (λ (l : List Kept). l ++ p ∷ []) all in
    let low : List Kept = own ++ p ∷ [] in
    let follows_too : Follows low Past low g = record {
      made = made_push own h.member p follows.made;
      begins = begins_all low;
      lane = λ r. lane_empty h.linked h.member.stage low h.lane none;
      next = λ r. follows.next r;
    } in
    subst (Stands front (line ++ p ∷ [])) (sym is)
    (record {
      numbered = numbered_push 1 line p stands.numbered (far ∙ omega arith);
      within = omega (arith, stands.within, length_push line p);
      passes = subst (λ (l : List Kept). Passes l Past (g ∷ pass_on h.member.stage p hs)) longer (low, follows_too, passes_on own h.member.stage p hs below);
      leads = λ r l. (none, omega (arith, size, length_push line p, length_push h.member.table.kept p));
      turns = (still_last (Now true) h g hs (pass_on h.member.stage p hs) stays stays.heard refl refl refl (none_on h.member.stage p hs), turns_on h.member.stage h.member.stage p hs stages);
      fronts = (record { within = knows.within; known = knows.known; has = omega (arith, knows.has, length_push h.member.table.kept p) }, fronts_on front h.member.stage p hs others);
    })

pub head_told_stands : HeadToldStands
head_told_stands front line [] new stands step = absurd step
head_told_stands front line (h ∷ hs) new stands (runs, untold, is) =
    let (own, follows, below) = stands.passes in
    let (stays, stages) = stands.turns in
    let (knows, others) = stands.fronts in
    let s : Stage = h.member.stage in
    let size : reach h.member ≡ length own = made_reach own h.member follows.made in
    let (start, whole_is, from) = made_unknown own h.member follows.made knows.within (omega (arith, knows.known, knows.has)) in
    let (rest, line_is) = follows.begins in
    let again : List Kept = unknown h.member in
    let g : Hop = record h { lane = h.next; next = []; linked = true; member = told true hs h.member } in
    let made : Made own g.member = record { done = follows.made.done; own_is = follows.made.own_is; durable = follows.made.durable } in
    let none : h.next ≡ [] = follows.next runs in (
      own,
      follows.begins,
      subst (Stands front own) (sym is)
          (record {
            numbered = numbered_begins 1 own rest (subst (AreNumberedFrom 1) (sym line_is) stands.numbered);
            within = omega (arith, knows.has);
            passes = (
              own,
              record { made = made; begins = begins_all own; lane = λ r. next_is_lane Past true s true own line h.next untold (follows.next runs); next = λ r. nothing_next Past true own own },
              passes_again front own start again (Now false) hs refl whole_is (omega (arith, knows.known)) others (passes_told own s hs untold below),
            );
            leads = λ r l. (none, sym size);
            turns = (
              record { heard = λ on. refl; last = λ r on. inr (none_again (Now false) again hs (is_last_nil hs on)) },
              turns_above s (Now true) (send_again (Now false) again hs) (λ on. refl) (turns_again s (Now false) again hs stages),
            );
            fronts = (record { within = knows.within; known = knows.known; has = knows.has }, fronts_again front (Now false) again hs others);
          }),
    )

-- ---- the next record

shifted_leads : (linked : Bool) (s : Stage) → is_untold s ≡ false → leads linked s ≡ true
shifted_leads linked (Now t) told = refl
shifted_leads linked (Old t) told = absurd cc
shifted_leads linked Past told = absurd cc

pub moved_leads : (line : List Kept) (h : Hop) (hs new : List Hop) → (IsRunning h → is_untold h.member.stage ≡ false) → Leads line (h ∷ hs) → Leads line (moved h.linked h ∷ new)
moved_leads line h hs new told head = λ runs l. head runs (shifted_leads h.linked h.member.stage (told runs))

pub record_stands : RecordStands
record_stands front i line hops stands all = (
  record {
    numbered = stands.numbered;
    within = stands.within;
    passes = passes_without i line Past hops all stands.passes;
    leads = without_leads i line hops all stands.leads;
    turns = turns_without i (Now true) (Now true) hops stands.turns;
    fronts = fronts_without i front hops stands.fronts;
  },
  record {
    numbered = stands.numbered;
    within = stands.within;
    passes = passes_moved line Past hops all stands.passes;
    leads = all_lead line hops all stands.leads;
    turns = turns_moved (Now true) (Now true) hops stands.turns;
    fronts = fronts_moved front hops stands.fronts;
  },
)
  where
    not_leading : (s : Stage) → is_untold s ≡ false → leads false (shifted s) ≡ true → ⊥
    not_leading (Now t) told is = cc
    not_leading (Old t) told is = cc
    not_leading Past told is = cc

    without_leads : (i : ℕ) (line : List Kept) (hs : List Hop) → AllTold hs → Leads line hs → Leads line (without i hs)
    without_leads i line [] all head = tt
    without_leads zero line (m ∷ []) all head = tt
    without_leads zero line (m ∷ g ∷ hs) (told_m, (told, all)) head = λ runs l. absurd (not_leading g.member.stage (told runs) l)
    without_leads (suc i) line (h ∷ hs) (told, all) head = moved_leads line h hs (without i hs) told head

    all_lead : (line : List Kept) (hs : List Hop) → AllTold hs → Leads line hs → Leads line (map kept hs)
    all_lead line [] all head = tt
    all_lead line (h ∷ hs) (told, all) head = moved_leads line h hs (map kept hs) told head

-- ---- what follows

pub one_raises : OneRaises
one_raises front i line hops h stands at may = last (Now true) hops i stands.turns at
  where
    last : (a : Stage) (hs : List Hop) (j : ℕ) → Turns a hs → slice_get hs j ≡ Some h → suc j ≡ length hs
    last a [] j turns at = absurd cc
    last a (g ∷ hs) zero (stays, below) at =
        let same : g ≡ h = same_Some g h at in
        let (runs, ends, free, on) = subst MayRaise (sym same) may in
        elim (stays.last runs ends) [ inl holding ↦ absurd cc | inr nil ↦ sym (ap (λ (l : List Hop). suc (length l)) nil) ]
    last a (g ∷ hs) (suc j) (stays, below) at = ap suc (last g.member.stage hs j below at)

agree : (front : ℕ) (above : List Kept) (a : Stage) (hs : List Hop) (i : ℕ) (h : Hop) → AreNumberedFrom 1 above → Passes above a hs → Fronts front hs → slice_get hs i ≡ Some h
    → (own : List Kept) × Begins own above × (length own ≡ reach h.member) × (front ≤ reach h.member) × ((p : Kept) (rest : List Message) → IsRunning h → h.lane ≡ Put p ∷ rest → p.number ≤ suc (reach h.member))
agree front above a [] i h numbered passes fronts at = absurd cc
agree front above a (g ∷ hs) zero h numbered (own, follows, below) (knows, others) at =
    let size : reach g.member ≡ length own = made_reach own g.member follows.made in
    subst (λ (x : Hop). (own : List Kept) × Begins own above × (length own ≡ reach x.member) × (front ≤ reach x.member) × ((p : Kept) (rest : List Message) → IsRunning x → x.lane ≡ Put p ∷ rest → p.number ≤ suc (reach x.member)))
    (same_Some g h at) (
      own,
      follows.begins,
      sym size,
      knows.has,
      λ p rest runs lane.
          omega (arith, fed_near (lane_feeder a g.linked g.member.stage) own above rest p numbered (subst (λ (l : List Message). Fed (lane_feeder a g.linked g.member.stage) own l above) lane (follows.lane runs))),
    )
agree front above a (g ∷ hs) (suc i) h numbered (own, follows, below) (knows, others) at =
    let (more, is) = follows.begins in
    let (low, begins, size, has, near) = agree front own g.member.stage hs i h (numbered_begins 1 own more (subst (AreNumberedFrom 1) (sym is) numbered)) below others at in
    (low, begins_trans low own above begins follows.begins, size, has, near)

pub members_agree : MembersAgree
members_agree front i line hops h stands at = agree front line Past hops i h stands.numbered stands.passes stands.fronts at
