-- READs that are answered one after another.
use Rattle.std.proofs.Common.{◌≡◌, ℕ, ◌+◌, ◌<◌, ◌≤◌, ◌∙◌, true, false, List, [], ◌∷◌, ◌++◌, length, map, ap, refl, subst, sym, arith, inl, inr}
use Rattle.std.specs.Prelude.{All, None, Option, Some, filter, find, max, nat_lt, not}
use Rattle.std.proofs.lemmas.Bool.{cases_Bool}
use Rattle.std.proofs.lemmas.Bool.Decides.{nat_tests}
use Rattle.board.specs.Seats.{FoundFront}
use Rattle.std.proofs.lemmas.List.{append_assoc}
use Rattle.std.proofs.lemmas.List.Elements.{All-cons, All-head, All-nil, All-tail}
use Rattle.flush_barrier.specs.Reply.{GivenReply}
use Rattle.chain_steps.specs.Node.{NodeState, Out, last_of}
use Rattle.chain_steps.specs.Steps.{answer_at, answer_front, answer_front_by, asked_bytes, looked_front, range_of, silent, stop, volume_at}
use Rattle.chain_steps.specs.Tokens.{first_and_others, one_fewer, others_stay, without_first}
use Rattle.chain_steps.specs.Waiting.{asked_range, is_read, reply_with}
use Rattle.chain_steps.specs.declared.waiting.Waiting.{Waiting}
use Rattle.chain_steps.specs.declared.waiting.Waiting.TheVariants.{Plain, Fua, Read, Flush}
use Rattle.chain_steps.specs.declared.cause.Cause.TheVariants.{Disorder}
use Rattle.chain_steps.specs.declared.found.Found.{Found}
use Rattle.chain_steps.specs.declared.found.Found.TheVariants.{Looked, Raised}
use Rattle.chain_core.specs.Node.{IsAskedInside}
use Rattle.chain_core.specs.Reads.{IsStepOver, answer_with, answered}

module _ (tokens rest : List Waiting) (w : Waiting) (first : find is_read tokens ≡ Some w) (left : rest ≡ without_first is_read tokens) where
  first_of : filter is_read tokens ≡ w ∷ filter is_read rest
  first_of = first_and_others is_read tokens w first ∙ ap (λ ws. w ∷ filter is_read ws) (sym left)

  -- the first READ is answered
  pub one_answered : (served next all : List GivenReply) (payload : List ℕ) (payloads more : List (List ℕ)) → payloads ≡ payload ∷ more → next ≡ served ++ reply_with payload None w ∷ []
      → served ++ answered payloads (filter is_read tokens) ≡ all → next ++ answered more (filter is_read rest) ≡ all
  one_answered served next all payload payloads more split pushed so_far =
      ap (λ rs. rs ++ answered more (filter is_read rest)) pushed ∙ append_assoc served (reply_with payload None w ∷ []) (answered more (filter is_read rest))
      ∙ sym (ap (λ ps. served ++ answered ps (filter is_read tokens)) split ∙ ap (λ ws. served ++ answered (payload ∷ more) ws) first_of) ∙ so_far

  pub one_read_fewer : length (filter is_read tokens) ≡ length (filter is_read rest) + 1
  one_read_fewer = omega (arith, ap length first_of)

  pub one_token_fewer : length rest < length tokens
  one_token_fewer = subst (λ ws. length ws < length tokens) (sym left) (one_fewer is_read tokens w first)

  pub others_left : filter (λ x. not (is_read x)) rest ≡ filter (λ x. not (is_read x)) tokens
  others_left = ap (filter (λ x. not (is_read x))) left ∙ others_stay is_read tokens

-- no READ is left
pub none_left : (ws : List Waiting) → length (filter is_read ws) ≡ 0 → filter (λ x. not (is_read x)) ws ≡ ws
none_left [] none = refl
none_left (w ∷ ws) none = elim (cases_Bool (is_read w)) [
  | inl read ↦ let some : length (w ∷ filter is_read ws) ≡ 0 = rw read at none in absurd (omega arith)
  | inr other ↦ rw other (ap (λ vs. w ∷ vs) (none_left ws (rw other at none)))
]

-- the bytes of the ranges are those that are asked for
pub bytes_asked : (volume : List ℕ) (ws : List Waiting) → map (λ range. range_of volume range.0 range.1) (map asked_range (filter is_read ws)) ≡ map (asked_bytes volume) (filter is_read ws)
bytes_asked volume [] = refl
bytes_asked volume (Plain t e n token ∷ ws) = bytes_asked volume ws
bytes_asked volume (Fua t e token ∷ ws) = bytes_asked volume ws
bytes_asked volume (Read offset len token ∷ ws) = ap (λ bs. range_of volume offset len ∷ bs) (bytes_asked volume ws)
bytes_asked volume (Flush token ∷ ws) = bytes_asked volume ws

-- and they lie in the volume
pub ranges_inside : (size : ℕ) (ws : List Waiting) → All (IsAskedInside size) ws → All (λ range. range.0 + range.1 ≤ size) (map asked_range (filter is_read ws))
ranges_inside size [] all = All-nil (λ range. range.0 + range.1 ≤ size)
ranges_inside size (Plain t e n token ∷ ws) all = ranges_inside size ws (All-tail (IsAskedInside size) (Plain t e n token) ws all)
ranges_inside size (Fua t e token ∷ ws) all = ranges_inside size ws (All-tail (IsAskedInside size) (Fua t e token) ws all)
ranges_inside size (Read offset len token ∷ ws) all =
    All-cons (λ range. range.0 + range.1 ≤ size) (offset, len) (map asked_range (filter is_read ws)) (All-head (IsAskedInside size) (Read offset len token) ws all) (ranges_inside size ws (All-tail (IsAskedInside size) (Read offset len token) ws all))
ranges_inside size (Flush token ∷ ws) all = ranges_inside size ws (All-tail (IsAskedInside size) (Flush token) ws all)

-- replies with such bytes
pub answered_each : (bytes : Waiting → List ℕ) (ws : List Waiting) → answered (map bytes ws) ws ≡ map (λ w. reply_with (bytes w) None w) ws
answered_each bytes [] = refl
answered_each bytes (w ∷ ws) = ap (λ rs. reply_with (bytes w) None w ∷ rs) (answered_each bytes ws)

-- where no front that was looked up is kept, nothing changes
pub none_looked : (volume : List ℕ) (node : NodeState) (found : Option Found) → looked_front found ≡ None → answer_front_by volume found node ≡ silent node
none_looked volume node None none = refl
none_looked volume node (Some (Raised front)) none = refl
none_looked volume node (Some (Looked front)) none = absurd (cc)

-- one above the last write stops the member
pub too_far : (volume : List ℕ) (node : NodeState) (found : Option Found) (front : ℕ) → looked_front found ≡ Some front → last_of node < front → answer_front_by volume found node ≡ stop Disorder node
too_far volume node None front some far = absurd (cc)
too_far volume node (Some (Raised f)) front some far = absurd (cc)
too_far volume node (Some (Looked f)) front some far = let same : f.number ≡ front = cc some in let above : nat_lt (last_of node) f.number ≡ true = grind (arith, nat_tests) in rw above refl

-- the front that was looked up
pub which_front : (found : Option Found) (front : ℕ) → looked_front found ≡ Some front → (f : FoundFront) × (found ≡ Some (Looked f)) × (f.number ≡ front)
which_front None front some = absurd (cc)
which_front (Some (Raised f)) front some = absurd (cc)
which_front (Some (Looked f)) front some = let same : f.number ≡ front = cc some in (f, refl, same)

answered_at : (volume : List ℕ) (node : NodeState) (f : FoundFront) → node.found ≡ Some (Looked f) → f.number ≤ last_of node → answer_front volume node ≡ answer_at volume f.number node
answered_at volume node f looked within =
    let below : nat_lt (last_of node) f.number ≡ false = grind (arith, nat_tests) in
    ap (λ found. answer_front_by volume found node) looked ∙ rw below refl

with_bytes : (volume : List ℕ) (node : NodeState) (front at : ℕ) (payloads : List (List ℕ)) → at ≡ max node.known front → payloads ≡ map (asked_bytes (volume_at volume node at)) (filter is_read node.waiting)
    → (answer_with payloads front node).out ≡ (answer_at volume front node).out
with_bytes volume node front at payloads same is =
    let reads = filter is_read node.waiting in
    let bytes : payloads ≡ map (asked_bytes (volume_at volume node (max node.known front))) reads = is ∙ ap (λ n. map (asked_bytes (volume_at volume node n)) reads) same in
    ap {A = List GivenReply} (λ rs. record { messages = []; replies = rs }) (ap (λ ps. answered ps reads) bytes ∙ answered_each (asked_bytes (volume_at volume node (max node.known front))) reads)

-- with the bytes at the greater of the front and the known commit, the front is answered
pub front_answered : (premise : Type 0) (keeps : List ℕ → Type 0) (node : NodeState) (f : FoundFront) (at : ℕ) (payloads : List (List ℕ)) → node.found ≡ Some (Looked f) → f.number ≤ last_of node → at ≡ max node.known f.number
    → (premise → (volume : List ℕ) → keeps volume → payloads ≡ map (asked_bytes (volume_at volume node at)) (filter is_read node.waiting))
    → (new : NodeState) (out : Out) → new ≡ (answer_with payloads f.number node).node → out ≡ (answer_with payloads f.number node).out → IsStepOver premise keeps new out (λ volume. answer_front volume node)
front_answered premise keeps node f at payloads looked within same bytes new out state sent = record {
  node = λ volume. state ∙ sym (ap (λ s. s.node) (answered_at volume node f looked within));
  sent = λ here volume kept. sent ∙ with_bytes volume node f.number at payloads same (bytes here volume kept) ∙ sym (ap (λ s. s.out) (answered_at volume node f looked within));
}
