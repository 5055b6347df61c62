-- From batch to batch through an area.
use Rattle.std.proofs.Common.{◌≡◌, ◌≢◌, ℕ, ◌+◌, List, [], ◌∷◌, ◌++◌, length, drop, refl, sym, ◌∙◌, ap, subst, arith, append_assoc, length-append, IfSome, Option, None, Some}
use Rattle.gate_journal.specs.Batch.{Batch, AreBatches, EncodesBatch, HoldsBatches, InTurn, IsBatch, IsDamaged, last_front}
use Rattle.gate_journal.specs.Reading.{Begins, IsFound, HoldsAt, HoldsTo}
use Rattle.gate_journal.proofs.Appending.{AreBatches-push, last_front-push}
use Rattle.gate_journal.proofs.Readings.{open_gate}
use Rattle.gate_journal.proofs.Encodings.{batches_apart}
use Rattle.gate_journal.proofs.Marks.{turn_push}
use Rattle.gate_journal.proofs.Standing.{stands_then}

pub begins_none : (blocks before : ℕ) (area : List ℕ) → Begins blocks before [] area 0 before
begins_none blocks before area = record { are = tt; bytes = []; encode = refl; stands = refl; end = refl; front = refl }

module _ (blocks before : ℕ) (batches : List Batch) (area : List ℕ) (place last : ℕ) (begins : Begins blocks before batches area place last) where
  pub begins_more : (batch : Batch) (to : ℕ) → IsBatch blocks last batch → HoldsTo EncodesBatch (drop place area) area place to batch → Begins blocks before (batches ++ batch ∷ []) area to batch.front
  begins_more batch to is there = record {
    are = AreBatches-push blocks before batches batch begins.are (subst (λ (f : ℕ). IsBatch blocks f batch) begins.front is);
    bytes = begins.bytes ++ there.bytes;
    encode = turn_push EncodesBatch batches batch begins.bytes there.bytes begins.encode there.encodes;
    stands = stands_then area 0 place to begins.bytes there.bytes begins.stands there.stands;
    end = omega (arith, there.long, begins.end, length-append begins.bytes there.bytes);
    front = sym (last_front-push before batches batch);
  }

  -- a closed gate ends them
  pub held : (gate : ℕ) → gate ≢ 1 → HoldsAt area place (place + 1) (gate ∷ []) → (holds : HoldsBatches blocks before batches area) × (place ≡ length holds.bytes)
  held gate closed stands = (
    record {
      are = begins.are;
      bytes = begins.bytes;
      encode = begins.encode;
      gate = gate;
      closed = closed;
      rest = drop (place + 1) area;
      is = begins.stands ∙ ap (λ (l : List ℕ). begins.bytes ++ l) stands;
    },
    begins.end,
  )

-- where no batch is found behind them
pub held_by : (blocks before : ℕ) (batches : List Batch) (area : List ℕ) (place last : ℕ) → Begins blocks before batches area place last → (now : List ℕ) → now ≡ area → (found : Option (Batch × ℕ)) → ((x : Batch × ℕ) → found ≡ Some x → ⊥)
    → IsFound blocks last now place found → (holds : HoldsBatches blocks before batches area) × (place ≡ length holds.bytes)
held_by blocks before batches area place last begins now same None never (gate, shut, stands) =
    held blocks before batches area place last begins gate shut (subst (λ (a : List ℕ). HoldsAt a place (place + 1) (gate ∷ [])) same stands)
held_by blocks before batches area place last begins now same (Some x) never finds = absurd (never x refl)

-- damage behind batches is damage
damaged_behind : (blocks before : ℕ) (xs : List Batch) (bytes behind : List ℕ) → AreBatches blocks before xs → InTurn EncodesBatch xs bytes → IsDamaged blocks (last_front before xs) behind → (ys : List Batch) → HoldsBatches blocks before ys (bytes ++ behind) → ⊥
damaged_behind blocks before [] bytes behind are turn damaged ys holds = damaged ys (subst (HoldsBatches blocks before ys) (ap (λ (l : List ℕ). l ++ behind) turn) holds)
damaged_behind blocks before (x ∷ xs) bytes behind are (first, rest, encodes, turn, is) damaged [] holds =
    open_gate x first holds.gate holds.rest (rest ++ behind) encodes holds.closed
    (sym (holds.is ∙ ap (λ (l : List ℕ). l ++ holds.gate ∷ holds.rest) holds.encode) ∙ ap (λ (l : List ℕ). l ++ behind) is ∙ append_assoc first rest behind)
damaged_behind blocks before (x ∷ xs) bytes behind are (first, rest, encodes, turn, is) damaged (y ∷ ys) holds =
    let (first', rest', encodes', turn', is') = holds.encode in
    let regrouped = sym (append_assoc first rest behind) ∙ sym (ap (λ (l : List ℕ). l ++ behind) is) ∙ holds.is ∙ ap (λ (l : List ℕ). l ++ holds.gate ∷ holds.rest) is' ∙ append_assoc first' rest' (holds.gate ∷ holds.rest) in
    let apart = batches_apart blocks before x y first first' (rest ++ behind) (rest' ++ holds.gate ∷ holds.rest) are.0 holds.are.0 encodes encodes' regrouped in
    damaged_behind blocks x.front xs rest behind are.1 turn damaged ys
    (record { are = subst (λ (b : Batch). AreBatches blocks b.front ys) (sym apart.0) holds.are.1; bytes = rest'; encode = turn'; gate = holds.gate; closed = holds.closed; rest = holds.rest; is = apart.1 })

pub damaged_area : (blocks before : ℕ) (batches : List Batch) (area : List ℕ) (place last : ℕ) → Begins blocks before batches area place last → IsDamaged blocks last (drop place area) → IsDamaged blocks before area
damaged_area blocks before batches area place last begins damaged ys holds =
    damaged_behind blocks before batches begins.bytes (drop place area) begins.are begins.encode (subst (λ (f : ℕ). IsDamaged blocks f (drop place area)) begins.front damaged) ys
    (subst (λ (a : List ℕ). HoldsBatches blocks before ys a) begins.stands holds)

-- one batch more that was found, in the bytes that a read still gives
pub begins_found : (blocks before : ℕ) (batches : List Batch) (area now : List ℕ) (place last : ℕ) → Begins blocks before batches area place last → now ≡ area → (batch : Batch) (to : ℕ) (found : Option (Batch × ℕ)) → found ≡ Some (batch, to) → IsFound blocks last now place found
    → (more : List Batch) (front : ℕ) → more ≡ batches ++ batch ∷ [] → front ≡ batch.front → Begins blocks before more area to front
begins_found blocks before batches area now place last begins same batch to found is finds more front is_more is_front =
    let here = subst (IsFound blocks last now place) is finds in
    let there = subst (λ (a : List ℕ). HoldsTo EncodesBatch (drop place a) a place to batch) same here.1 in
    let longer = begins_more blocks before batches area place last begins batch to here.0 there in
    subst (λ (f : ℕ). Begins blocks before more area to f) (sym is_front) (subst (λ (bs : List Batch). Begins blocks before bs area to batch.front) (sym is_more) longer)

pub next_of : (blocks last : ℕ) (batch : Batch) (to : ℕ) (found : Option (Batch × ℕ)) → found ≡ Some (batch, to) → IfSome found (λ r. IsBatch blocks last r.0) → IsBatch blocks last batch
next_of blocks last batch to found is next = subst (λ (f : Option (Batch × ℕ)). IfSome f (λ r. IsBatch blocks last r.0)) is next

-- the batches are the volume's, whatever the bytes were
pub are_more : (blocks before : ℕ) (batches : List Batch) (last : ℕ) → AreBatches blocks before batches × (last ≡ last_front before batches) → (batch : Batch) → IsBatch blocks last batch
    → (more : List Batch) (front : ℕ) → more ≡ batches ++ batch ∷ [] → front ≡ batch.front → AreBatches blocks before more × (front ≡ last_front before more)
are_more blocks before batches last (are, is_last) batch next more front is_more is_front =
    subst (λ (bs : List Batch). AreBatches blocks before bs × (front ≡ last_front before bs)) (sym is_more)
    (AreBatches-push blocks before batches batch are (subst (λ (f : ℕ). IsBatch blocks f batch) is_last next), is_front ∙ sym (last_front-push before batches batch))
