-- The order of a chain with the front that is held, through each step: lemmas.
use Rattle.std.proofs.Common.{◌≡◌, inl, inr, ℕ, zero, suc, ◌≤◌, true, false, List, [], ◌∷◌, ◌++◌, length, map, sym, ◌∙◌, ap}
use Rattle.version_table.specs.declared.kept.Kept.{Kept}
use Rattle.world_model.specs.Order.{AreNumberedFrom}
use Rattle.chain_model.specs.Holding.{Attaches, Holders}
use Rattle.chain_model.proofs.HoldingSteps.{attach_stands, holders_stay}
use Rattle.chain_model.specs.Links.{Worked, feed}
use Rattle.chain_model.specs.Replicas.{Hop, Now, Replica, Stage}
use Rattle.chain_model.specs.Turning.{Begins, Stands, Turns}
use Rattle.chain_model.proofs.TurningFollow.{alike_stands, start_stands}
use Rattle.chain_model.specs.TurningLaws.{Alike, Quietly, started}
use Rattle.chain_model.specs.TurningSteps.{AllTold, Down, HeadIsTold, IsRunning, IsTold, Learns, Numbers, Raises, is_untold, kept, without}
use Rattle.chain_model.proofs.TurningTops.{head_told_stands, learn_stands, number_stands, quiet_stands, raise_stands, record_stands, told_stands}

-- the writes are in order, and a front that is held stays
abbrev pub InOrder : ℕ → List Kept → List Hop → Type 0
InOrder front line hops = Stands front line hops × Holders front hops

pub quiet_in_order : (front i : ℕ) (line : List Kept) (old new : List Hop) → InOrder front line old → Down i Quietly old new → InOrder front line new
quiet_in_order front i line old new (stands, holders) step = (quiet_stands front i line old new stands step, (holders_stay front i line old stands holders).0 new step)

pub learn_in_order : (front i k : ℕ) (line : List Kept) (old new : List Hop) → InOrder front line old → k ≤ front → Down i (Learns k) old new → InOrder front line new
learn_in_order front i k line old new (stands, holders) le step = (learn_stands front i k line old new stands le step, (holders_stay front i line old stands holders).2 k new le step)

pub raise_in_order : (front more i : ℕ) (line : List Kept) (old new : List Hop) → InOrder front line old → Down i (Raises more) old new → (front ≤ more) × InOrder more line new
raise_in_order front more i line old new (stands, holders) step =
    let (grows, raised) = raise_stands front more i line old new stands step in (grows, (raised, (holders_stay front i line old stands holders).3 more new step))

pub number_in_order : (front : ℕ) (p : Kept) (line : List Kept) (old new : List Hop) → InOrder front line old → Numbers p old new → InOrder front (line ++ p ∷ []) new
number_in_order front p line old new (stands, holders) step = (number_stands front p line old new stands step, (holders_stay front 0 line old stands holders).4 p new step)

pub told_in_order : (front i : ℕ) (line : List Kept) (old new : List Hop) → InOrder front line old → Down (suc i) IsTold old new → InOrder front line new
told_in_order front i line old new (stands, holders) step = (told_stands front i line old new stands step, (holders_stay front (suc i) line old stands holders).1 new step)

pub head_told_in_order : (front : ℕ) (line : List Kept) (old new : List Hop) → InOrder front line old → HeadIsTold old new → (shorter : List Kept) × Begins shorter line × InOrder front shorter new
head_told_in_order front line old new (stands, holders) step =
    let (shorter, begins, told) = head_told_stands front line old new stands step in (shorter, begins, (told, (holders_stay front 0 line old stands holders).5 new step))

pub record_in_order : (front i : ℕ) (line : List Kept) (hops : List Hop) → InOrder front line hops → AllTold hops → InOrder front line (without i hops) × InOrder front line (map kept hops)
record_in_order front i line hops (stands, holders) all =
    let (removed, same) = record_stands front i line hops stands all in
    let (others, all_of_them) = (holders_stay front i line hops stands holders).6 all in ((removed, others), (same, all_of_them))

pub alike_in_order : (front : ℕ) (line : List Kept) (old new : List Hop) → InOrder front line old → Alike old new → InOrder front line new
alike_in_order front line old new (stands, holders) alike = (alike_stands front line old new stands alike, (holders_stay front 0 line old stands holders).7 new alike)

-- ---- the tail holds

-- one that was told the recorded epoch and is the tail of that has nobody below it
tail_attaches : (front i : ℕ) (a : Stage) (was m : Replica) (old new : List Hop) → was.stopped ≡ false → is_untold was.stage ≡ false → was.ends ≡ true → m ≡ record was { known = front; holds = true }
    → Turns a old → Holders front old → Down i (Worked [] was m) old new → Down i (Attaches front) old new
tail_attaches front zero a was m [] new runs told ends same turns holders step = absurd step
tail_attaches front zero a was m (h ∷ hs) new runs told ends same (stays, stages) (held, others) (is, new_is) =
    let running : IsRunning h = ap (λ (r : Replica). r.stopped) is ∙ runs in
    let heard : is_untold h.member.stage ≡ false = ap (λ (r : Replica). is_untold r.stage) is ∙ told in
    let none : hs ≡ [] = elim (stays.last running (ap (λ (r : Replica). r.ends) is ∙ ends)) [
      | inl holding ↦ elim ((held running holding).alone) [ inl nil ↦ nil | inr (untold, joins) ↦ absurd cc ]
      | inr nil ↦ nil
    ] in
    let member : m ≡ record h.member { known = front; holds = true } = same ∙ ap (λ (r : Replica). record r { known = front; holds = true }) (sym is) in
    (running, none, new_is ∙ ap (λ (l : List Hop). record h { member = m } ∷ feed h.member.stage [] l) none ∙ ap (λ (r : Replica). record h { member = r } ∷ []) member)
tail_attaches front (suc i) a was m [] new runs told ends same turns holders step = absurd step
tail_attaches front (suc i) a was m (h ∷ hs) new runs told ends same (stays, stages) (held, others) (rest, new_is, step) =
    (rest, new_is, tail_attaches front i h.member.stage was m hs rest runs told ends same stages others step)

pub attach_in_order : (front i : ℕ) (line : List Kept) (was m : Replica) (old new : List Hop) → InOrder front line old → was.stopped ≡ false → is_untold was.stage ≡ false → was.ends ≡ true
    → m ≡ record was { known = front; holds = true } → Down i (Worked [] was m) old new → InOrder front line new
attach_in_order front i line was m old new (stands, holders) runs told ends same step =
    attach_stands front i line old new stands holders (tail_attaches front i (Now true) was m old new runs told ends same stands.turns holders step)

-- ---- the start

-- nobody holds at a beginning
started_holders : (k n : ℕ) → Holders k (started k n)
started_holders k zero = tt
started_holders k (suc zero) = (λ r is. absurd cc, tt)
started_holders k (suc (suc n)) = (λ r is. absurd cc, started_holders k (suc n))

pub start_in_order : (n : ℕ) (line : List Kept) → AreNumberedFrom 1 line → InOrder (length line) line (started (length line) n)
start_in_order n line numbered = (start_stands n line numbered, started_holders (length line) n)
