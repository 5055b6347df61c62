-- One that joins stays ready, whatever else happens in its chain: lemmas.
use Rattle.std.proofs.Common.{◌≡◌, ◌≢◌, inl, inr, ℕ, ◌==◌, ◌-◌, ◌<◌, ◌≤◌, true, false, None, Some, List, [], ◌∷◌, ◌++◌, length, map, take, refl, sym, ◌∙◌, ap, subst, arith}
use Rattle.std.specs.Prelude.{All, nat_le}
use Rattle.std.specs.Option.{ForSome}
use Rattle.std.proofs.lemmas.Bool.{cases_Bool, le-leb}
use Rattle.std.proofs.lemmas.List.{append-nil, append_assoc, length-append, length-map, map-append, take-append-le, take-map}
use Rattle.std.proofs.lemmas.List.Elements.{All-append, All-cons, All-head, All-tail}
use Rattle.board.specs.Mask.{counts}
use Rattle.configurations.specs.Record.{Record}
use Rattle.chain_steps.specs.Node.{NodeState, Refused, Stepped, Taken, epoch_of, is_stopped}
use Rattle.chain_steps.specs.Steps.{silent, told}
use Rattle.chain_steps.specs.Place.{Standing, is_tail}
use Rattle.volume.specs.Writes.{Placed, volume_of}
use Rattle.world_model.specs.Chain.{BoardInUse}
use Rattle.world_model.proofs.Counting.{all_before, all_behind}
use Rattle.world_model.specs.Machine.{AnswerFlush, AnswerFua, AnswerRead, AnswerWrite, GoesOn, Move, Refuse, Restart, RunsOn, Send, State, Take, Taken as TakenWrite, after, answered_at, machine_volume}
use Rattle.chain_model.specs.Chain.{IsAtRest, IsJoining, MembersStand}
use Rattle.chain_model.proofs.MessageSteps.{runs_on, same_step}
use Rattle.chain_model.specs.View.{Member, View, slot_of}

-- ---- the writes that the machine has taken

abbrev write_of : TakenWrite → Placed
write_of t = t.write

abbrev writes : State → List Placed
writes s = map write_of s.taken

-- an answer changes none of them
writes_answered : (place : ℕ) (ts : List TakenWrite) → map write_of (answered_at place ts) ≡ map write_of ts
writes_answered place [] = refl
writes_answered place (t ∷ ts) = elim (cases_Bool (place == 1)) [
  | inl here ↦ rw here (ap (λ (ws : List Placed). t.write ∷ ws) (writes_answered (place - 1) ts))
  | inr further ↦ rw further (ap (λ (ws : List Placed). t.write ∷ ws) (writes_answered (place - 1) ts))
]

-- these writes are some more than those
abbrev AreMore : List Placed → List Placed → Type 0
AreMore old new = (more : List Placed) × (new ≡ old ++ more)

same_writes : (old new : List Placed) → new ≡ old → AreMore old new
same_writes old new same = ([], same ∙ sym (append-nil old))

move_takes : (s : State) (move : Move) → GoesOn move → AreMore (writes s) (writes (after s move))
move_takes s (Send session cookie request) on = same_writes (writes s) (writes s) refl
move_takes s (Take asked write) on = (write ∷ [], map-append write_of s.taken (record { name = asked.name; write = write; answered = false } ∷ []))
move_takes s (AnswerWrite asked place) on = same_writes (writes s) (map write_of (answered_at place s.taken)) (writes_answered place s.taken)
move_takes s (AnswerFua asked place) on = same_writes (writes s) (map write_of (answered_at place s.taken)) (writes_answered place s.taken)
move_takes s (AnswerFlush asked) on = same_writes (writes s) (writes s) refl
move_takes s (AnswerRead asked front) on = same_writes (writes s) (writes s) refl
move_takes s (Refuse asked error) on = same_writes (writes s) (writes s) refl
move_takes s (Restart front) on = absurd on

run_takes : (s : State) (moves : List Move) (t : State) → RunsOn s moves t → AreMore (writes s) (writes t)
run_takes s [] t same = same_writes (writes s) (writes t) (ap writes same)
run_takes s (move ∷ moves) t (on, may, run) =
    let (one, first) = move_takes s move on in
    let (others, rest) = run_takes (after s move) moves t run in
    (one ++ others, rest ∙ ap (λ (ws : List Placed). ws ++ others) first ∙ append_assoc (writes s) one others)

-- where none was taken, they are the same, and so is each volume
none_more : (old new : List Placed) → AreMore old new → length new ≡ length old → new ≡ old
none_more old new ([], is) same = is ∙ append-nil old
none_more old new (w ∷ more, is) same = absurd (omega (arith, ap length is, length-append old (w ∷ more), same))

pub volume_stays : (size : ℕ) (s t : State) (moves : List Move) (front : ℕ) → RunsOn s moves t → length t.taken ≡ length s.taken → machine_volume size t front ≡ machine_volume size s front
volume_stays size s t moves front run same =
    let writes_same : writes t ≡ writes s = none_more (writes s) (writes t) (run_takes s moves t run) (length-map t.taken write_of ∙ same ∙ sym (length-map s.taken write_of)) in
    ap (volume_of size) (sym (take-map write_of front t.taken) ∙ ap (take front) writes_same ∙ take-map write_of front s.taken)

-- a volume of what was taken stays, whatever is taken behind it
pub volume_grows : (size : ℕ) (s t : State) (moves : List Move) (front : ℕ) → RunsOn s moves t → front ≤ length s.taken → (machine_volume size t front ≡ machine_volume size s front) × (length s.taken ≤ length t.taken)
volume_grows size s t moves front run within =
    let (more, grown) = run_takes s moves t run in
    let long = length-map s.taken write_of in
    let first : take front (writes s ++ more) ≡ take front (writes s) = take-append-le front (writes s) more (omega (arith, within, long)) in (
      ap (volume_of size) (sym (take-map write_of front t.taken) ∙ ap (take front) grown ∙ first ∙ take-map write_of front s.taken),
      omega (arith, long, length-map t.taken write_of, ap length grown, length-append (writes s) more),
    )

-- ---- what a joiner needs

-- a member keeps its place and what it holds, and doesn't start
pub record Keeps (m g : Member) : Type 0 where
  pub place : g.node.place ≡ m.node.place
  pub runs : g.node.stopped ≡ None → m.node.stopped ≡ None
  pub holds : m.node.holds ≡ true → g.node.holds ≡ true

rests_still : (recorded : Record) (m g : Member) → Keeps m g → IsAtRest recorded m → IsAtRest recorded g
rests_still recorded m g keeps rests runs =
    let (now, held) = rests (keeps.runs runs) in (ap (λ (p : Standing). p.chain.epoch) keeps.place ∙ now, λ ends. keeps.holds (held (ap is_tail (sym keeps.place) ∙ ends)))

-- it stays ready from the one chain to the other
pub record StillJoins (v w : View) : Type 0 where
  pub front : w.told.front ≡ v.told.front
  pub counted : ForSome v.joiner (λ j. counts v.told.mask j.slot ≡ true → counts w.told.mask j.slot ≡ true)
  pub joiner : w.joiner ≡ v.joiner
  pub recorded : w.recorded ≡ v.recorded
  pub youngest : w.youngest ≡ v.youngest
  pub apart : (slot : ℕ) → All (λ m. slot_of m ≢ slot) v.members → All (λ m. slot_of m ≢ slot) w.members
  pub rests : All (IsAtRest v.recorded) v.members → All (IsAtRest v.recorded) w.members

pub joins_still : (size : ℕ) (v w : View) (s t : State) (moves : List Move) → StillJoins v w → MembersStand size v s → RunsOn s moves t → MembersStand size w t → ForSome v.joiner (IsJoining size v s) → ForSome w.joiner (IsJoining size w t)
joins_still size v w s t moves still (line, backed, stands) run (line_then, backed_then, stands_then) joins j joins_then =
    let here : v.joiner ≡ Some j = sym still.joiner ∙ joins_then in
    let is : IsJoining size v s j = joins j here in
    record {
      held = is.held ∙ sym still.front;
      volume = is.volume ∙ sym (volume_stays size s t moves j.front run long);
      counted = still.counted j here is.counted;
      incarnation = subst (λ (n : ℕ). n < j.incarnation) (sym still.youngest) is.incarnation;
      apart = still.apart j.slot is.apart;
      rests = subst (λ (r : Record). All (IsAtRest r) w.members) (sym still.recorded) (still.rests is.rests);
    }
  where
    long : length t.taken ≡ length s.taken
    long = sym stands_then.clients.1.committed ∙ still.front ∙ stands.clients.1.committed

-- ---- nothing of that changes

-- who joins is counted where the mask stays
pub counted_still : (v : View) (mask : ℕ) → mask ≡ v.told.mask → ForSome v.joiner (λ j. counts v.told.mask j.slot ≡ true → counts mask j.slot ≡ true)
counted_still v mask same j here is = subst (λ m. counts m j.slot ≡ true) (sym same) is

-- no member changes, nor does the board
pub same_members : (v w : View) → w.told ≡ v.told → w.joiner ≡ v.joiner → w.recorded ≡ v.recorded → w.youngest ≡ v.youngest → w.members ≡ v.members → StillJoins v w
same_members v w told joiner recorded youngest members = record {
  front = ap (λ (b : BoardInUse). b.front) told;
  counted = counted_still v w.told.mask (ap (λ (b : BoardInUse). b.mask) told);
  joiner = joiner;
  recorded = recorded;
  youngest = youngest;
  apart = λ slot all. subst (All (λ m. slot_of m ≢ slot)) (sym members) all;
  rests = λ all. subst (All (IsAtRest v.recorded)) (sym members) all;
}

-- one member changes, and keeps that
pub one_keeps : (v w : View) (above : List Member) (m g : Member) (below : List Member) → v.members ≡ above ++ m ∷ below → w.members ≡ above ++ g ∷ below → w.told ≡ v.told → w.joiner ≡ v.joiner → w.recorded ≡ v.recorded
    → w.youngest ≡ v.youngest → slot_of g ≡ slot_of m → (IsAtRest v.recorded m → IsAtRest v.recorded g) → StillJoins v w
one_keeps v w above m g below were are told joiner recorded youngest slot rests = record {
  front = ap (λ (b : BoardInUse). b.front) told;
  counted = counted_still v w.told.mask (ap (λ (b : BoardInUse). b.mask) told);
  joiner = joiner;
  recorded = recorded;
  youngest = youngest;
  apart = λ s all. changed (λ x. slot_of x ≢ s) (λ was same. was (sym slot ∙ same)) all;
  rests = λ all. changed (IsAtRest v.recorded) rests all;
}
  where
    changed : (P : Member → Type 0) → (P m → P g) → All P v.members → All P w.members
    changed P keeps all =
        let old : All P (above ++ m ∷ below) = subst (All P) were all in
        let behind = all_behind P above (m ∷ below) old in
        subst (All P) (sym are) (All-append P above (g ∷ below) (all_before P above (m ∷ below) old) (All-cons P g below (keeps (All-head P m below behind)) (All-tail P m below behind)))

pub one_still : (v w : View) (above : List Member) (m g : Member) (below : List Member) → v.members ≡ above ++ m ∷ below → w.members ≡ above ++ g ∷ below → w.told ≡ v.told → w.joiner ≡ v.joiner → w.recorded ≡ v.recorded
    → w.youngest ≡ v.youngest → Keeps m g → StillJoins v w
one_still v w above m g below were are told joiner recorded youngest keeps =
    one_keeps v w above m g below were are told joiner recorded youngest (ap (λ (p : Standing). p.slot) keeps.place) (rests_still v.recorded m g keeps)

-- ---- a record that a member has is told again

told_again : (recorded : Record) (node : NodeState) (stepped : Stepped) → epoch_of node ≡ recorded.epoch → told recorded node ≡ Taken stepped → stepped ≡ silent node
told_again recorded node stepped now taken = elim (cases_Bool (is_stopped node)) [
  | inl stopped ↦ let no : Refused 154 ≡ Taken stepped = rw stopped at taken in absurd cc
  | inr running ↦
      let known : nat_le recorded.epoch (epoch_of node) ≡ true = le-leb recorded.epoch (epoch_of node) (omega (arith, now)) in
      let same : Taken (silent node) ≡ Taken stepped = rw (running, known) at taken in
      sym (same_step (silent node) stepped same)
]

-- whoever is at rest has the recorded chain, or has stopped, so that it isn't told anything
pub told_rests : (recorded : Record) (m : Member) (stepped : Stepped) → told recorded m.node ≡ Taken stepped → IsAtRest recorded m → IsAtRest recorded (record m { node = stepped.node })
told_rests recorded m stepped taken rests = elim (cases_Bool (is_stopped m.node)) [
  | inl stopped ↦ let no : Refused 154 ≡ Taken stepped = rw stopped at taken in absurd cc
  | inr running ↦
      let runs : m.node.stopped ≡ None = runs_on m.node.stopped running in
      subst (λ (x : Stepped). IsAtRest recorded (record m { node = x.node })) (sym (told_again recorded m.node stepped (rests runs).0 taken)) rests
]
