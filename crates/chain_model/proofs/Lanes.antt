-- What is fed to a member, as lists grow: lemmas.
use Rattle.std.proofs.Common.{◌≡◌, ℕ, suc, ◌+◌, ◌≤◌, Bool, true, false, List, [], ◌∷◌, ◌++◌, length, take, map, refl, sym, ◌∙◌, ap, subst, arith}
use Rattle.std.proofs.lemmas.List.{append-nil, append_assoc, length-append, length_push, nil_from_length, take_at}
use Rattle.chain_model.specs.Replicas.{Dead, Feeder, Live, Message, Now, Old, Past, Put, Silent, Stage, Turn, lane_feeder, next_feeder, puts_of, resent, sent}
use Rattle.version_table.specs.declared.kept.Kept.{Kept}
use Rattle.world_model.specs.Order.{AreNumberedFrom}
use Rattle.chain_model.specs.Turning.{Begins, Fed, GoesOn, sending, turned_of}
use Rattle.chain_model.specs.TurningSteps.{is_untold, shifted, turned}

-- ---- beginnings

pub begins_all : (own : List Kept) → Begins own own
begins_all own = ([], append-nil own)

pub begins_trans : (one two three : List Kept) → Begins one two → Begins two three → Begins one three
begins_trans one two three (rest, is) (more, is_too) = (rest ++ more, sym (append_assoc one rest more) ∙ ap (λ (l : List Kept). l ++ more) is ∙ is_too)

pub begins_more : (own above : List Kept) (p : Kept) → Begins own above → Begins own (above ++ p ∷ [])
begins_more own above p begins = begins_trans own above (above ++ p ∷ []) begins (p ∷ [], refl)

pub begins_length : (own above : List Kept) → Begins own above → length own ≤ length above
begins_length own above (rest, is) = omega (arith, length-append own rest, ap length is)

pub begins_same : (own above : List Kept) → Begins own above → length above ≤ length own → own ≡ above
begins_same own above (rest, is) long = sym (append-nil own) ∙ ap (λ (l : List Kept). own ++ l) (sym (nil_from_length rest (omega (arith, length-append own rest, ap length is)))) ∙ is

-- two beginnings of one list, of one length
pub same_begins : (one two rest more : List Kept) → one ++ rest ≡ two ++ more → length one ≡ length two → one ≡ two
same_begins one two rest more is size = sym (take_at one rest (length two) size) ∙ ap (take (length two)) is ∙ take_at two more (length two) refl

-- ---- numbers

pub numbered_begins : (n : ℕ) (own rest : List Kept) → AreNumberedFrom n (own ++ rest) → AreNumberedFrom n own
numbered_begins n [] rest numbered = tt
numbered_begins n (p ∷ own) rest (is, numbered) = (is, numbered_begins (n + 1) own rest numbered)

pub numbered_at : (n : ℕ) (before rest : List Kept) (p : Kept) → AreNumberedFrom n (before ++ p ∷ rest) → p.number ≡ n + length before
numbered_at n [] rest p (is, numbered) = omega arith
numbered_at n (q ∷ before) rest p (is, numbered) = omega (arith, numbered_at (n + 1) before rest p numbered)

pub numbered_push : (n : ℕ) (own : List Kept) (p : Kept) → AreNumberedFrom n own → p.number ≡ n + length own → AreNumberedFrom n (own ++ p ∷ [])
numbered_push n [] p numbered is = (omega arith, tt)
numbered_push n (q ∷ own) p (first, numbered) is = (first, numbered_push (n + 1) own p numbered (omega arith))

-- ---- Puts

pub puts-append : (ms ns : List Message) → puts_of (ms ++ ns) ≡ puts_of ms ++ puts_of ns
puts-append [] ns = refl
puts-append (Put p ∷ ms) ns = ap (λ (l : List Kept). p ∷ l) (puts-append ms ns)
puts-append (Turn ∷ ms) ns = puts-append ms ns

pub puts_again : (again : List Kept) → puts_of (map Put again ++ Turn ∷ []) ≡ again
puts_again [] = refl
puts_again (p ∷ again) = ap (λ (l : List Kept). p ∷ l) (puts_again again)

goes_on_grown : (own above : List Kept) (ms : List Message) (p : Kept) → GoesOn own ms above → GoesOn (own ++ p ∷ []) ms above
goes_on_grown own above ms p goes = record { before = goes.before; is = goes.is; reached = omega (arith, goes.reached, length_push own p) }

goes_on_sent : (own above : List Kept) (ms : List Message) (p : Kept) → GoesOn own ms above → GoesOn own (ms ++ Put p ∷ []) (above ++ p ∷ [])
goes_on_sent own above ms p goes = record {
  before = goes.before;
  is = ap (λ (l : List Kept). goes.before ++ l) (puts-append ms (Put p ∷ [])) ∙ sym (append_assoc goes.before (puts_of ms) (p ∷ [])) ∙ ap (λ (l : List Kept). l ++ p ∷ []) goes.is;
  reached = goes.reached;
}

goes_on_passed : (own above : List Kept) (ms : List Message) (p : Kept) → GoesOn own (Put p ∷ ms) above → AreNumberedFrom 1 above → p.number ≤ length own → GoesOn own ms above
goes_on_passed own above ms p goes numbered has =
    let at : p.number ≡ 1 + length goes.before = numbered_at 1 goes.before (puts_of ms) p (subst (AreNumberedFrom 1) (sym goes.is) numbered) in
    record { before = goes.before ++ p ∷ []; is = append_assoc goes.before (p ∷ []) (puts_of ms) ∙ goes.is; reached = omega (arith, length_push goes.before p) }

goes_on_applied : (own above : List Kept) (ms : List Message) (p : Kept) → GoesOn own (Put p ∷ ms) above → AreNumberedFrom 1 above → Begins own above → p.number ≡ suc (length own)
    → Begins (own ++ p ∷ []) above × GoesOn (own ++ p ∷ []) ms above
goes_on_applied own above ms p goes numbered (rest, is) next =
    let at : p.number ≡ 1 + length goes.before = numbered_at 1 goes.before (puts_of ms) p (subst (AreNumberedFrom 1) (sym goes.is) numbered) in
    let same : goes.before ≡ own = same_begins goes.before own (p ∷ puts_of ms) rest (goes.is ∙ sym is) (omega arith) in
    let whole : (own ++ p ∷ []) ++ puts_of ms ≡ above = append_assoc own (p ∷ []) (puts_of ms) ∙ ap (λ (l : List Kept). l ++ p ∷ puts_of ms) (sym same) ∙ goes.is in
    ((puts_of ms, whole), record { before = own ++ p ∷ []; is = whole; reached = omega arith })

-- no Put is above the next one
goes_on_near : (own above : List Kept) (ms : List Message) (p : Kept) → GoesOn own (Put p ∷ ms) above → AreNumberedFrom 1 above → p.number ≤ suc (length own)
goes_on_near own above ms p goes numbered =
    let at : p.number ≡ 1 + length goes.before = numbered_at 1 goes.before (puts_of ms) p (subst (AreNumberedFrom 1) (sym goes.is) numbered) in omega (arith, goes.reached)

pub nothing_dead : (own above : List Kept) (ms : List Message) → Begins own above → ms ≡ [] → Fed Dead own ms above
nothing_dead own above ms begins none =
    (own, begins_all own, begins, record { before = own; is = ap (λ (l : List Message). own ++ puts_of l) none ∙ append-nil own; reached = omega arith })

-- ---- what is fed

pub fed_wider : (own mid above : List Kept) (ms : List Message) → Fed Dead own ms mid → Begins mid above → Fed Dead own ms above
fed_wider own mid above ms (last, begins, ends, goes) wider = (last, begins, begins_trans last mid above ends wider, goes)

pub fed_dead : (f : Feeder) (own above : List Kept) (ms : List Message) → Begins own above → Fed f own ms above → Fed Dead own ms above
fed_dead (Live true) own above ms begins fed = (above, begins, begins_all above, fed)
fed_dead (Live false) own above ms begins fed = nothing_dead own above ms begins fed
fed_dead Silent own above ms begins fed = nothing_dead own above ms begins fed
fed_dead Dead own above ms begins fed = fed

pub fed_passed : (f : Feeder) (own above : List Kept) (ms : List Message) (p : Kept) → AreNumberedFrom 1 above → p.number ≤ length own → Fed f own (Put p ∷ ms) above → Fed f own ms above
fed_passed (Live true) own above ms p numbered has fed = goes_on_passed own above ms p fed numbered has
fed_passed (Live false) own above ms p numbered has fed = absurd cc
fed_passed Silent own above ms p numbered has fed = absurd cc
fed_passed Dead own above ms p numbered has (last, begins, (rest, is), goes) =
    (last, begins, (rest, is), goes_on_passed own last ms p goes (numbered_begins 1 last rest (subst (AreNumberedFrom 1) (sym is) numbered)) has)

pub fed_applied : (f : Feeder) (own above : List Kept) (ms : List Message) (p : Kept) → AreNumberedFrom 1 above → Begins own above → p.number ≡ suc (length own) → Fed f own (Put p ∷ ms) above
    → Begins (own ++ p ∷ []) above × Fed f (own ++ p ∷ []) ms above
fed_applied (Live true) own above ms p numbered begins next fed = goes_on_applied own above ms p fed numbered begins next
fed_applied (Live false) own above ms p numbered begins next fed = absurd cc
fed_applied Silent own above ms p numbered begins next fed = absurd cc
fed_applied Dead own above ms p numbered begins next (last, begins_last, (rest, is), goes) =
    let (near, goes_too) = goes_on_applied own last ms p goes (numbered_begins 1 last rest (subst (AreNumberedFrom 1) (sym is) numbered)) begins_last next in
    (begins_trans (own ++ p ∷ []) last above near (rest, is), (last, near, (rest, is), goes_too))

pub fed_near : (f : Feeder) (own above : List Kept) (ms : List Message) (p : Kept) → AreNumberedFrom 1 above → Fed f own (Put p ∷ ms) above → p.number ≤ suc (length own)
fed_near (Live true) own above ms p numbered fed = goes_on_near own above ms p fed numbered
fed_near (Live false) own above ms p numbered fed = absurd cc
fed_near Silent own above ms p numbered fed = absurd cc
fed_near Dead own above ms p numbered (last, begins, (rest, is), goes) = goes_on_near own last ms p goes (numbered_begins 1 last rest (subst (AreNumberedFrom 1) (sym is) numbered))

pub fed_turn : (f : Feeder) (own above : List Kept) (ms : List Message) → Fed f own (Turn ∷ ms) above → Fed f own ms above
fed_turn (Live true) own above ms fed = record { before = fed.before; is = fed.is; reached = fed.reached }
fed_turn (Live false) own above ms fed = absurd cc
fed_turn Silent own above ms fed = absurd cc
fed_turn Dead own above ms (last, begins, ends, goes) = (last, begins, ends, record { before = goes.before; is = goes.is; reached = goes.reached })

-- the one above has applied one more, and sent it
pub fed_sent : (f : Feeder) (own above : List Kept) (ms : List Message) (p : Kept) → Fed f own ms above → Fed f own (sent f p ms) (above ++ p ∷ [])
fed_sent (Live true) own above ms p fed = goes_on_sent own above ms p fed
fed_sent (Live false) own above ms p fed = fed
fed_sent Silent own above ms p fed = fed
fed_sent Dead own above ms p (last, begins, ends, goes) = (last, begins, begins_more last above p ends, goes)

-- the one above has its Turn
abbrev pub turned_feeder : Feeder → Feeder
turned_feeder (Live t) = Live true
turned_feeder Silent = Silent
turned_feeder Dead = Dead

abbrev pub on : Feeder → Bool
on (Live t) = t
on Silent = false
on Dead = false

pub fed_resent : (f : Feeder) (own above start again : List Kept) (ms : List Message) → on f ≡ false → start ++ again ≡ above → length start ≤ length own → Fed f own ms above
    → Fed (turned_feeder f) own (resent f again ms) above
fed_resent (Live true) own above start again ms off is reached fed = absurd cc
fed_resent (Live false) own above start again ms off is reached fed =
    record { before = start; is = ap (λ (l : List Message). start ++ puts_of (l ++ map Put again ++ Turn ∷ [])) fed ∙ ap (λ (l : List Kept). start ++ l) (puts_again again) ∙ is; reached = reached }
fed_resent Silent own above start again ms off is reached fed = fed
fed_resent Dead own above start again ms off is reached fed = fed

-- ---- feeders

pub lane_turned : (a : Stage) (linked : Bool) (g : Stage) → lane_feeder (turned a) linked g ≡ turned_feeder (lane_feeder a linked g)
lane_turned (Now t) linked (Now u) = refl
lane_turned (Now t) linked (Old u) = refl
lane_turned (Now t) linked Past = refl
lane_turned (Old t) linked (Now u) = refl
lane_turned (Old t) true (Old u) = refl
lane_turned (Old t) false (Old u) = refl
lane_turned (Old t) linked Past = refl
lane_turned Past linked (Now u) = refl
lane_turned Past linked (Old u) = refl
lane_turned Past linked Past = refl

pub next_turned : (a g : Stage) → next_feeder (turned a) g ≡ turned_feeder (next_feeder a g)
next_turned (Now t) (Now u) = refl
next_turned (Now t) (Old u) = refl
next_turned (Now t) Past = refl
next_turned (Old t) g = refl
next_turned Past g = refl

pub lane_off : (a : Stage) (linked : Bool) (g : Stage) → turned_of a ≡ false → on (lane_feeder a linked g) ≡ false
lane_off (Now t) linked (Now u) off = off
lane_off (Now t) linked (Old u) off = refl
lane_off (Now t) linked Past off = refl
lane_off (Old t) linked (Now u) off = refl
lane_off (Old t) true (Old u) off = off
lane_off (Old t) false (Old u) off = refl
lane_off (Old t) linked Past off = refl
lane_off Past linked (Now u) off = refl
lane_off Past linked (Old u) off = refl
lane_off Past linked Past off = refl

pub next_off : (a g : Stage) → turned_of a ≡ false → on (next_feeder a g) ≡ false
next_off (Now t) (Now u) off = refl
next_off (Now t) (Old u) off = off
next_off (Now t) Past off = off
next_off (Old t) g off = refl
next_off Past g off = refl

-- a lane of the epoch before is fed no more by one that is told
pub lane_told : (a : Stage) (linked : Bool) (g : Stage) (own above : List Kept) (ms : List Message) → is_untold a ≡ true → Begins own above → Fed (lane_feeder a linked g) own ms above
    → Fed (lane_feeder (Now false) linked g) own ms above
lane_told (Now t) linked g own above ms untold begins fed = absurd cc
lane_told (Old t) linked (Now u) own above ms untold begins fed = fed
lane_told (Old t) true (Old u) own above ms untold begins fed = fed_dead (Live t) own above ms begins fed
lane_told (Old t) false (Old u) own above ms untold begins fed = fed
lane_told (Old t) linked Past own above ms untold begins fed = fed
lane_told Past linked (Now u) own above ms untold begins fed = fed
lane_told Past linked (Old u) own above ms untold begins fed = fed
lane_told Past linked Past own above ms untold begins fed = fed

pub next_told : (a g : Stage) (own above : List Kept) (ms : List Message) → is_untold a ≡ true → Fed (next_feeder a g) own ms above → Fed (next_feeder (Now false) g) own ms above
next_told (Now t) g own above ms untold fed = absurd cc
next_told (Old t) (Now u) own above ms untold fed = fed
next_told (Old t) (Old u) own above ms untold fed = fed
next_told (Old t) Past own above ms untold fed = fed
next_told Past (Now u) own above ms untold fed = fed
next_told Past (Old u) own above ms untold fed = fed
next_told Past Past own above ms untold fed = fed

-- what came for it becomes its lane
pub next_is_lane : (a : Stage) (linked : Bool) (g : Stage) (t : Bool) (own above : List Kept) (ms : List Message) → is_untold g ≡ true → Fed (next_feeder a g) own ms above
    → Fed (lane_feeder a linked (Now t)) own ms above
next_is_lane a linked (Now u) t own above ms untold fed = absurd cc
next_is_lane (Now b) linked (Old u) t own above ms untold fed = fed
next_is_lane (Now b) linked Past t own above ms untold fed = fed
next_is_lane (Old b) linked (Old u) t own above ms untold fed = fed
next_is_lane (Old b) linked Past t own above ms untold fed = fed
next_is_lane Past linked (Old u) t own above ms untold fed = fed
next_is_lane Past linked Past t own above ms untold fed = fed

pub nothing_next : (a : Stage) (t : Bool) (own above : List Kept) → Fed (next_feeder a (Now t)) own [] above
nothing_next (Now b) t own above = refl
nothing_next (Old b) t own above = refl
nothing_next Past t own above = refl

-- what comes for it waits, as its own list grows
pub next_grown : (a g : Stage) (own above : List Kept) (ms : List Message) (p : Kept) → Fed (next_feeder a g) own ms above → Fed (next_feeder a g) (own ++ p ∷ []) ms above
next_grown (Now t) (Now u) own above ms p fed = fed
next_grown (Now true) (Old u) own above ms p fed = goes_on_grown own above ms p fed
next_grown (Now false) (Old u) own above ms p fed = fed
next_grown (Now true) Past own above ms p fed = goes_on_grown own above ms p fed
next_grown (Now false) Past own above ms p fed = fed
next_grown (Old t) g own above ms p fed = fed
next_grown Past g own above ms p fed = fed

-- its own Turn is no matter of who feeds it
pub lane_own_turned : (a : Stage) (linked : Bool) (g : Stage) → lane_feeder a linked (turned g) ≡ lane_feeder a linked g
lane_own_turned (Now t) linked (Now u) = refl
lane_own_turned (Now t) linked (Old u) = refl
lane_own_turned (Now t) linked Past = refl
lane_own_turned (Old t) linked (Now u) = refl
lane_own_turned (Old t) true (Old u) = refl
lane_own_turned (Old t) false (Old u) = refl
lane_own_turned (Old t) linked Past = refl
lane_own_turned Past linked (Now u) = refl
lane_own_turned Past linked (Old u) = refl
lane_own_turned Past linked Past = refl

pub next_own_turned : (a g : Stage) → next_feeder a (turned g) ≡ next_feeder a g
next_own_turned (Now t) (Now u) = refl
next_own_turned (Now t) (Old u) = refl
next_own_turned (Now t) Past = refl
next_own_turned (Old t) g = refl
next_own_turned Past g = refl

-- a Turn comes from one that has it
pub turn_heard : (a : Stage) (linked : Bool) (g : Stage) (own above : List Kept) (ms : List Message) → Fed (lane_feeder a linked g) own (Turn ∷ ms) above → sending (turned g) ≡ true → sending a ≡ true
turn_heard (Now true) linked (Now u) own above ms fed is = refl
turn_heard (Now false) linked (Now u) own above ms fed is = absurd cc
turn_heard (Old t) linked (Now u) own above ms fed is = absurd cc
turn_heard Past linked (Now u) own above ms fed is = absurd cc
turn_heard a linked (Old u) own above ms fed is = absurd cc
turn_heard a linked Past own above ms fed is = absurd cc

-- ---- the next record

pub lane_shifted : (a : Stage) (linked : Bool) (g : Stage) (own above : List Kept) (ms : List Message) → is_untold g ≡ false → Begins own above → Fed (lane_feeder a linked g) own ms above
    → Fed (lane_feeder (shifted a) linked (shifted g)) own ms above
lane_shifted (Now t) true (Now u) own above ms told begins fed = fed
lane_shifted (Now t) false (Now u) own above ms told begins fed = fed_dead (Live t) own above ms begins fed
lane_shifted (Old t) linked (Now u) own above ms told begins fed = nothing_dead own above ms begins fed
lane_shifted Past linked (Now u) own above ms told begins fed = nothing_dead own above ms begins fed
lane_shifted a linked (Old u) own above ms told begins fed = absurd cc
lane_shifted a linked Past own above ms told begins fed = absurd cc

pub next_shifted : (a b g : Stage) (own above more : List Kept) (ms : List Message) → is_untold g ≡ false → Fed (next_feeder a g) own ms above → Fed (next_feeder (shifted b) (shifted g)) own ms more
next_shifted a b (Old u) own above more ms told fed = absurd cc
next_shifted a b Past own above more ms told fed = absurd cc
next_shifted (Now t) (Now s) (Now u) own above more ms told fed = fed
next_shifted (Now t) (Old s) (Now u) own above more ms told fed = fed
next_shifted (Now t) Past (Now u) own above more ms told fed = fed
next_shifted (Old t) (Now s) (Now u) own above more ms told fed = fed
next_shifted (Old t) (Old s) (Now u) own above more ms told fed = fed
next_shifted (Old t) Past (Now u) own above more ms told fed = fed
next_shifted Past (Now s) (Now u) own above more ms told fed = fed
next_shifted Past (Old s) (Now u) own above more ms told fed = fed
next_shifted Past Past (Now u) own above more ms told fed = fed

-- the one that fed it leaves
pub lane_left : (a b : Stage) (linked : Bool) (g : Stage) (own mid above : List Kept) (ms : List Message) → is_untold g ≡ false → Begins own mid → Begins mid above → Fed (lane_feeder a linked g) own ms mid
    → Fed (lane_feeder (shifted b) false (shifted g)) own ms above
lane_left a b linked (Old u) own mid above ms told begins wider fed = absurd cc
lane_left a b linked Past own mid above ms told begins wider fed = absurd cc
lane_left a (Now s) linked (Now u) own mid above ms told begins wider fed = fed_wider own mid above ms (fed_dead (lane_feeder a linked (Now u)) own mid ms begins fed) wider
lane_left a (Old s) linked (Now u) own mid above ms told begins wider fed = fed_wider own mid above ms (fed_dead (lane_feeder a linked (Now u)) own mid ms begins fed) wider
lane_left a Past linked (Now u) own mid above ms told begins wider fed = fed_wider own mid above ms (fed_dead (lane_feeder a linked (Now u)) own mid ms begins fed) wider
