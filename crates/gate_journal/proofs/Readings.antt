-- What an area holds: one list of batches at most.
use Rattle.std.proofs.Common.{◌≡◌, ◌≢◌, ℕ, List, [], ◌∷◌, ◌++◌, refl, sym, ◌∙◌, ap, subst, append_assoc}
use Rattle.gate_journal.specs.Batch.{Batch, AreBatches, EncodesBatch, HoldsBatches, InTurn}
use Rattle.gate_journal.proofs.Encodings.{batches_apart}

-- a batch begins with an open gate
pub open_gate : (batch : Batch) (bytes : List ℕ) (gate : ℕ) (r s : List ℕ) → EncodesBatch batch bytes → gate ≢ 1 → gate ∷ r ≡ bytes ++ s → ⊥
open_gate batch bytes gate r s encodes closed e =
    let whole = e ∙ ap (λ (l : List ℕ). l ++ s) encodes.is in
    let is : gate ≡ 1 = cc in closed is

readings_are_one : (blocks before : ℕ) (xs ys : List Batch) (a b : List ℕ) (g h : ℕ) (r s : List ℕ) → AreBatches blocks before xs → AreBatches blocks before ys → InTurn EncodesBatch xs a → InTurn EncodesBatch ys b → g ≢ 1 → h ≢ 1
    → a ++ g ∷ r ≡ b ++ h ∷ s → xs ≡ ys
readings_are_one blocks before [] [] a b g h r s are are' turn turn' shut shut' e = refl
readings_are_one blocks before [] (y ∷ ys) a b g h r s are are' turn (one', rest', encodes', turn', is') shut shut' e =
    absurd (open_gate y one' g r (rest' ++ h ∷ s) encodes' shut (sym (ap (λ (l : List ℕ). l ++ g ∷ r) turn) ∙ e ∙ ap (λ (l : List ℕ). l ++ h ∷ s) is' ∙ append_assoc one' rest' (h ∷ s)))
readings_are_one blocks before (x ∷ xs) [] a b g h r s are are' (one, rest, encodes, turn, is) turn' shut shut' e =
    absurd (open_gate x one h s (rest ++ g ∷ r) encodes shut' (sym (ap (λ (l : List ℕ). l ++ h ∷ s) turn') ∙ sym e ∙ ap (λ (l : List ℕ). l ++ g ∷ r) is ∙ append_assoc one rest (g ∷ r)))
readings_are_one blocks before (x ∷ xs) (y ∷ ys) a b g h r s are are' (one, rest, encodes, turn, is) (one', rest', encodes', turn', is') shut shut' e =
    let regrouped = sym (append_assoc one rest (g ∷ r)) ∙ sym (ap (λ (l : List ℕ). l ++ g ∷ r) is) ∙ e ∙ ap (λ (l : List ℕ). l ++ h ∷ s) is' ∙ append_assoc one' rest' (h ∷ s) in
    let first = batches_apart blocks before x y one one' (rest ++ g ∷ r) (rest' ++ h ∷ s) are.0 are'.0 encodes encodes' regrouped in
    let head_is : x ≡ y = first.0 in
    let are_y = subst (λ (b : Batch). AreBatches blocks b.front xs) head_is are.1 in
    let tail_is : xs ≡ ys = readings_are_one blocks y.front xs ys rest rest' g h r s are_y are'.1 turn turn' shut shut' first.1 in
    λ i. head_is i ∷ tail_is i

pub one_reading : (blocks before : ℕ) (xs ys : List Batch) (area : List ℕ) → HoldsBatches blocks before xs area → HoldsBatches blocks before ys area → xs ≡ ys
one_reading blocks before xs ys area holds holds' =
    readings_are_one blocks before xs ys holds.bytes holds'.bytes holds.gate holds'.gate holds.rest holds'.rest holds.are holds'.are holds.encode holds'.encode holds.closed holds'.closed (sym holds.is ∙ holds'.is)
