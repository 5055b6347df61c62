-- What no call of a member changes, its board and the sizes of its volume; and lemmas on it for the crates above.
use Rattle.std.specs.Prelude.{◌≡◌, ◌⊎◌, ℕ, ◌+◌, ◌*◌, ◌/◌, ◌<◌, All, max, nat_lt, Option, Some, None, List, [], ◌∷◌, length, IfNone, IfSome}
use Rattle.std.proofs.Common.{ap, refl, inl, inr, arith, ◌∙◌}
use Rattle.std.proofs.lemmas.Bool.{cases_Bool, cases_lt}
use Rattle.std.proofs.lemmas.List.Elements.{All-cons, All-head, All-nil, All-tail}
use Rattle.board.specs.Seats.{BoardId, FoundFront}
use Rattle.disk_model.specs.declared.error.DiskError.{DiskError}
use Rattle.flush_barrier.specs.Owed.{Owed}
use Rattle.gate_journal.specs.Receipt.{Receipt}
use Rattle.local_store.specs.About.{About, one_checkpoint_more}
use Rattle.version_table.specs.Held.{Held, IsClean, kept_after}
use Rattle.version_table.specs.Marks.{ReachesBlock}
use Rattle.version_table.specs.declared.kept.Kept.{Kept}
use Rattle.volume.specs.Writes.{IsTouched, Placed}
use Rattle.chain_steps.specs.Node.{Commit, Delivery, NodeState, Out, Refused, Stepped, Taken, durable_of, last_of}
use Rattle.chain_steps.specs.Steps.{CanBegin, answer_front, answer_front_by, hold, hold_by, looked_front, raised, raised_front, raised_to, read_asked, read_at_once, silent, stop}
use Rattle.chain_steps.specs.declared.cause.Cause.TheVariants as causes
use Rattle.chain_steps.specs.declared.found.Found.{Found}
use Rattle.chain_steps.specs.declared.found.Found.TheVariants.{Raised, Looked}
use Rattle.chain_core.specs.Commits.{HasBegun, HasEnded, HasRunOut, HasStoppedBy, HasWorked}
use Rattle.chain_core.specs.Node.{IsDelivered, IsStep, IsStepOrStop, Keeps, Seen}
use Rattle.chain_core.specs.Reads.{HasBrokenOff, HasOnlyRead, IsStepOver, IsStepTo}

-- the member is of the same board, and its volume has the same sizes
pub record Stays {S : Type 0} (about : S → About) (old new : Seen S) : Type 0 where
  pub board : new.state.board ≡ old.state.board
  pub geometry : (about new.store).geometry ≡ (about old.store).geometry

-- the steps that are told by cases leave the board
raised_board : (front : Option ℕ) (node : NodeState) → (raised_to front node).node.board ≡ node.board
raised_board None node = refl
raised_board (Some front) node = elim (cases_Bool (nat_lt (last_of node) front)) [
  | inl above ↦ rw above refl
  | inr within ↦ rw within refl
]

held_board : (front : Option ℕ) (node : NodeState) → (hold_by front node).node.board ≡ node.board
held_board None node = refl
held_board (Some front) node = elim (cases_Bool (nat_lt (last_of node) front)) [
  | inl above ↦ rw above refl
  | inr within ↦ rw within refl
]

answered_board : (volume : List ℕ) (found : Option Found) (node : NodeState) → (answer_front_by volume found node).node.board ≡ node.board
answered_board volume None node = refl
answered_board volume (Some (Raised front)) node = refl
answered_board volume (Some (Looked front)) node = elim (cases_Bool (nat_lt (last_of node) front.number)) [
  | inl above ↦ rw above refl
  | inr within ↦ rw within refl
]

-- it can be told whether a commit can begin
can_begin : (commit : Option Commit) (durable known : ℕ) → ((commit ≡ None) × (durable < known)) ⊎ ¬ ((commit ≡ None) × (durable < known))
can_begin None durable known = elim (cases_lt durable known) [
  | inl below ↦ inl (refl, below)
  | inr reached ↦ inr (λ can. omega (arith, can.1, reached))
]
can_begin (Some commit) durable known = inr (λ can. let none : Some commit ≡ None = can.0 in absurd (cc))

-- a block that a range and a write share
record Meeting (offset len : ℕ) (w : Placed) : Type 0 where
  block : ℕ
  reached : ReachesBlock offset len block
  touched : IsTouched w block

-- it can be told whether they share one: the first that they can share is the later one of their first blocks
meets_or_not : (offset len : ℕ) (w : Placed) → Meeting offset len w ⊎ ((b : ℕ) → ReachesBlock offset len b → ¬ IsTouched w b)
meets_or_not offset len w = elim (cases_lt (4096 * max (offset / 4096) (w.offset / 4096)) (offset + len)) [
  | inr far ↦ inr (λ b reached touched. omega (arith, far, reached.0, reached.1, touched.0))
  | inl near ↦ elim (cases_lt (4096 * max (offset / 4096) (w.offset / 4096)) (w.offset + length w.bytes)) [
    | inr far ↦ inr (λ b reached touched. omega (arith, far, reached.0, touched.0, touched.1))
    | inl here ↦ elim (cases_lt 0 len) [
      | inr none ↦ inr (λ b reached touched. omega (arith, none, reached.2))
      | inl some ↦ elim (cases_lt 0 (length w.bytes)) [
        | inr none ↦ inr (λ b reached touched. omega (arith, none, touched.2))
        | inl bytes ↦ inl (record { block = max (offset / 4096) (w.offset / 4096); reached = (omega arith, near, some); touched = (omega arith, here, bytes) })
      ]
    ]
  ]
]

-- no write of a list shares one with the range
abbrev AreApart : ℕ → ℕ → List Kept → Type 0
AreApart offset len kept = (b : ℕ) → ReachesBlock offset len b → All (λ k. ¬ IsTouched k.write b) kept

apart_or_not : (offset len : ℕ) (kept : List Kept) → AreApart offset len kept ⊎ ¬ AreApart offset len kept
apart_or_not offset len [] = inl (λ b reached. All-nil (λ (k : Kept). ¬ IsTouched k.write b))
apart_or_not offset len (k ∷ kept) = elim (meets_or_not offset len k.write) [
  | inl one ↦ inr (λ apart. All-head (λ (x : Kept). ¬ IsTouched x.write one.block) k kept (apart one.block one.reached) one.touched)
  | inr first ↦ elim (apart_or_not offset len kept) [
    | inl others ↦ inl (λ b reached. All-cons (λ (x : Kept). ¬ IsTouched x.write b) k kept (first b reached) (others b reached))
    | inr some ↦ inr (λ apart. some (λ b reached. All-tail (λ (x : Kept). ¬ IsTouched x.write b) k kept (apart b reached)))
  ]
]

-- so whether a range is clean
pub clean_or_dirty : (table : Held) (offset len n : ℕ) → IsClean table offset len n ⊎ ¬ IsClean table offset len n
clean_or_dirty table offset len n = apart_or_not offset len (kept_after table n)

module _ {S : Type 0} (about : S → About) (old new : Seen S) (out : Out) where
  pub step_stays : (stepped : Stepped) → stepped.node.board ≡ old.state.board → IsStep old new out stepped → Stays about old new
  step_stays stepped same is = record { board = ap (λ s. s.state.board) is.node ∙ same; geometry = ap (λ s. (about s.store).geometry) is.node }

  pub step_or_stop_stays : (stepped : Stepped) → stepped.node.board ≡ old.state.board → IsStepOrStop old new out stepped → Stays about old new
  step_or_stop_stays stepped same (inl is) = step_stays stepped same is
  step_or_stop_stays stepped same (inr is) = step_stays (stop causes.Memory old.state) refl is

  pub delivered_stays : (delivery : Delivery) → new.state.board ≡ old.state.board → IsDelivered old new out delivery → Stays about old new
  delivered_stays (Taken stepped) same (inl is) = record { board = same; geometry = ap (λ s. (about s.store).geometry) is.node }
  delivered_stays (Taken stepped) same (inr is) = record { board = same; geometry = ap (λ s. (about s.store).geometry) is.node }
  delivered_stays (Refused number) same none = absurd none

  pub raised_stays : IsStepOrStop old new out (raised old.state) → Stays about old new
  raised_stays is = step_or_stop_stays (raised old.state) (raised_board (raised_front old.state.found) old.state) is

  pub hold_stays : IsStepOrStop old new out (hold old.state) → Stays about old new
  hold_stays is = step_or_stop_stays (hold old.state) (held_board (looked_front old.state.found) old.state) is

  pub kept_stays : (found : FoundFront → Found) (board : BoardId) (seat number : ℕ) → Keeps found board seat number old new → Stays about old new
  kept_stays found board seat number is = record { board = ap (λ s. s.state.board) is.node; geometry = ap (λ s. (about s.store).geometry) is.node }

  pub read_stays : {premise : Type 0} {keeps : List ℕ → Type 0} (offset len : ℕ) (token : Owed) → (IsClean old.state.table offset len old.state.known → IsStepOver premise keeps new.state out (λ volume. read_at_once volume offset len token old.state))
      → (¬ IsClean old.state.table offset len old.state.known → IsStep old new out (read_asked offset len token old.state)) → about new.store ≡ about old.store → Stays about old new
  read_stays offset len token at_once waits tells = elim (clean_or_dirty old.state.table offset len old.state.known) [
    | inl clean ↦ record { board = ap (λ n. n.board) ((at_once clean).node []); geometry = ap (λ a. a.geometry) tells }
    | inr dirty ↦ step_stays (read_asked offset len token old.state) refl (waits dirty)
  ]

  module _ (failures : S → ℕ) (Tells : DiskError → Type 0) where
    pub stopped_stays : HasStoppedBy about failures Tells old new out → Stays about old new
    stopped_stays is = record { board = ap (λ n. n.board) is.node; geometry = ap (λ a. a.geometry) is.broken }

    pub halted_stays : HasRunOut about old new out ⊎ HasStoppedBy about failures Tells old new out → Stays about old new
    halted_stays (inl is) = record { board = ap (λ n. n.board) is.node; geometry = ap (λ a. a.geometry) is.tells }
    halted_stays (inr is) = stopped_stays is

    pub checkpoint_stays : HasWorked about (one_checkpoint_more (about old.store)) old new out ⊎ HasStoppedBy about failures Tells old new out → Stays about old new
    checkpoint_stays (inl is) = record { board = ap (λ n. n.board) is.node; geometry = ap (λ a. a.geometry) is.tells_so }
    checkpoint_stays (inr is) = stopped_stays is

    pub ended_stays : (commit : Option Commit) (given : Option Receipt) → IfNone commit (IsStep old new out (silent old.state) × (given ≡ None)) → IfSome commit (λ k. IfSome given (HasEnded about old new out k))
        → IfSome commit (λ k. IfNone given (HasRunOut about old new out ⊎ HasStoppedBy about failures Tells old new out)) → Stays about old new
    ended_stays None given idle ended stopped = step_stays (silent old.state) refl idle.0
    ended_stays (Some k) None idle ended stopped = halted_stays stopped
    ended_stays (Some k) (Some receipt) idle ended stopped = record { board = ap (λ n. n.board) ended.node; geometry = ap (λ a. a.geometry) ended.tells }

    module _ {premise : Type 0} {keeps : S → List ℕ → Type 0} {moment : S → ℕ} {left_since : S → ℕ → List ℕ → Type 0} where
      pub begun_stays : (¬ CanBegin old.state → IsStep old new out (silent old.state))
          → (CanBegin old.state → HasBegun (HasOnlyRead premise about failures keeps moment left_since old.store new.store) old new out ⊎ HasRunOut about old new out ⊎ HasStoppedBy about failures Tells old new out) → Stays about old new
      begun_stays idle worked = elim (can_begin old.state.commit (durable_of old.state) old.state.known) [
        | inl can ↦ elim (worked can) [
          | inl is ↦ record { board = ap (λ n. n.board) is.node; geometry = ap (λ a. a.geometry) is.only_read.tells }
          | inr halted ↦ halted_stays halted
        ]
        | inr cannot ↦ step_stays (silent old.state) refl (idle cannot)
      ]

  -- a front that was looked up is answered
  pub looked_stays : {premise : Type 0} {failures : S → ℕ} {keeps : S → List ℕ → Type 0} {moment : S → ℕ} {left_since : S → ℕ → List ℕ → Type 0}
      → (HasOnlyRead premise about failures keeps moment left_since old.store new.store
      × (IsStepOver premise (keeps old.store) new.state out (λ volume. answer_front volume old.state) ⊎ IsStepTo new.state out (stop causes.Memory old.state)))
      ⊎ HasBrokenOff about failures old new out → Stays about old new
  looked_stays (inl (read, inl is)) = record { board = ap (λ n. n.board) (is.node []) ∙ answered_board [] old.state.found old.state; geometry = ap (λ a. a.geometry) read.tells }
  looked_stays (inl (read, inr is)) = record { board = ap (λ n. n.board) is.node; geometry = ap (λ a. a.geometry) read.tells }
  looked_stays (inr is) = record { board = ap (λ n. n.board) is.node; geometry = ap (λ a. a.geometry) is.failed.broken }

  -- the member stopped, and gave a joiner no block
  pub unread_stays : {premise : Type 0} {failures : S → ℕ} {keeps : S → List ℕ → Type 0} {moment : S → ℕ} {left_since : S → ℕ → List ℕ → Type 0}
      → (HasOnlyRead premise about failures keeps moment left_since old.store new.store × IsStepTo new.state out (stop causes.Memory old.state)) ⊎ HasBrokenOff about failures old new out → Stays about old new
  unread_stays (inl (read, is)) = record { board = ap (λ n. n.board) is.node; geometry = ap (λ a. a.geometry) read.tells }
  unread_stays (inr is) = record { board = ap (λ n. n.board) is.node; geometry = ap (λ a. a.geometry) is.failed.broken }

-- it gave one
pub held_block_stays : {S : Type 0} (about : S → About) (old new : Seen S) {premise : Type 0} {failures : S → ℕ} {keeps : S → List ℕ → Type 0} {moment : S → ℕ} {left_since : S → ℕ → List ℕ → Type 0}
    → new.state ≡ old.state → HasOnlyRead premise about failures keeps moment left_since old.store new.store → Stays about old new
held_block_stays about old new same read = record { board = ap (λ n. n.board) same; geometry = ap (λ a. a.geometry) read.tells }
