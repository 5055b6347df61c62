-- What each write of an `append` leaves of the batches.
use Rattle.std.proofs.Common.{◌≡◌, inl, inr, ℕ, ◌+◌, List, [], ◌∷◌, ◌++◌, length, get_or, take, drop, refl, sym, ◌∙◌, ap, subst, arith, append_assoc, length-append, take-append-drop}
use Rattle.std.proofs.lemmas.Bool.{cases_eq}
use Rattle.std.proofs.lemmas.List.{take_at, drop_at, drop_more}
use Rattle.std.specs.List.{flat_map}
use Rattle.disk_model.specs.Disk.{Holds, Torn}
use Rattle.gate_journal.specs.Batch.{Batch, EncodesBatch, InTurn, IsBatch, AreBatches, HoldsBatches, HoldsOldOrNew, batch_encoding, batch_size, encoding_behind_gate, body_encoding, head_encoding, image_encoding, last_front}
use Rattle.gate_journal.proofs.Marks.{encodes_images, length-head, length-images_encoding, turn_push}

pub last_front-push : (before : ℕ) (old : List Batch) (batch : Batch) → last_front before (old ++ batch ∷ []) ≡ batch.front
last_front-push before [] batch = refl
last_front-push before (b ∷ old) batch = last_front-push b.front old batch

pub AreBatches-push : (blocks before : ℕ) (old : List Batch) (batch : Batch) → AreBatches blocks before old → IsBatch blocks (last_front before old) batch → AreBatches blocks before (old ++ batch ∷ [])
AreBatches-push blocks before [] batch are is = (is, tt)
AreBatches-push blocks before (b ∷ old) batch are is = (are.0, AreBatches-push blocks b.front old batch are.1 is)

-- what is written is read as the batch, and has its size
encodes_batch : (batch : Batch) → EncodesBatch batch (batch_encoding batch)
unfolding batch_encoding
encodes_batch batch = record { text = flat_map image_encoding batch.images; images = encodes_images batch.images; is = refl }

length-batch_encoding : (blocks before : ℕ) (batch : Batch) → IsBatch blocks before batch → length (batch_encoding batch) ≡ batch_size batch.images
unfolding batch_encoding
length-batch_encoding blocks before batch is =
    omega (
      arith,
      length-append (head_encoding batch.front (length batch.images)) (flat_map image_encoding batch.images),
      length-head batch.front (length batch.images),
      length-images_encoding batch.images is.whole,
    )

-- a front, a gate and what is behind it
module _ (front : List ℕ) (at : ℕ) (is_at : length front ≡ at) (gate : ℕ) (rest : List ℕ) where
  abbrev whole : List ℕ
  whole = front ++ gate ∷ rest

  through_gate : take (at + 1) whole ≡ front ++ gate ∷ []
  through_gate = ap (λ (l : List ℕ). take (at + 1) l) (sym (append_assoc front (gate ∷ []) rest)) ∙ take_at (front ++ gate ∷ []) rest (at + 1) (omega (arith, length-append front (gate ∷ [])))

  behind_gate : drop (at + 1) whole ≡ rest
  behind_gate = ap (λ (l : List ℕ). drop (at + 1) l) (sym (append_assoc front (gate ∷ []) rest)) ∙ drop_at (front ++ gate ∷ []) rest (at + 1) (omega (arith, length-append front (gate ∷ [])))

  -- a write behind the gate leaves it and what is before it
  pub torn_behind : (n : ℕ) (c : List ℕ) → Torn (at + 1) n whole c → c ≡ front ++ gate ∷ drop (at + 1) c
  torn_behind n c torn =
      sym (take-append-drop (at + 1) c) ∙ ap (λ (l : List ℕ). l ++ drop (at + 1) c) (torn.before ∙ through_gate) ∙ append_assoc front (gate ∷ []) (drop (at + 1) c)

  pub put_behind : (bytes c : List ℕ) → Holds whole (at + 1) bytes c → (end : List ℕ) × (c ≡ front ++ gate ∷ (bytes ++ end))
  put_behind bytes c holds =
      let end = drop (at + 1 + length bytes) whole in
      (end, holds ∙ ap (λ (l : List ℕ). l ++ bytes ++ end) through_gate ∙ append_assoc (front ++ gate ∷ []) bytes end ∙ append_assoc front (gate ∷ []) (bytes ++ end))

  -- a write of the gate leaves all else
  pub torn_gate : (c : List ℕ) → Torn at 1 whole c → (other : ℕ) × (c ≡ front ++ other ∷ rest)
  torn_gate c torn =
      let long = length-append front (gate ∷ rest) in
      let other = get_or c at 0 in (
        other,
        sym (take-append-drop at c)
            ∙ ap (λ (l : List ℕ). l ++ drop at c) (torn.before ∙ take_at front (gate ∷ rest) at is_at)
            ∙ ap (λ (l : List ℕ). front ++ l) (drop_more c at 0 (omega (arith, torn.size, long)) ∙ ap (λ (l : List ℕ). other ∷ l) (torn.after ∙ behind_gate)),
      )

  pub put_gate : (other : ℕ) (c : List ℕ) → Holds whole at (other ∷ []) c → c ≡ front ++ other ∷ rest
  put_gate other c holds =
      holds ∙ ap (λ (l : List ℕ). l ++ (other ∷ []) ++ drop (at + 1) whole) (take_at front (gate ∷ rest) at is_at)
      ∙ ap (λ (l : List ℕ). front ++ (other ∷ []) ++ l) behind_gate ∙ append_assoc front (other ∷ []) rest

-- the batch stands behind the gate of an area that holds the old batches
pub record IsStaged (blocks before : ℕ) (old : List Batch) (batch : Batch) (at : ℕ) (area : List ℕ) : Type 0 where
  pub are : AreBatches blocks before old
  pub next : IsBatch blocks (last_front before old) batch
  pub bytes : List ℕ
  pub encode : InTurn EncodesBatch old bytes
  pub is_at : at ≡ length bytes
  pub gate : ℕ
  pub end : List ℕ
  pub is : area ≡ bytes ++ gate ∷ (encoding_behind_gate batch.front batch.images ++ end)

module _ (blocks before : ℕ) (old : List Batch) (at : ℕ) where
  pub still_holds : (n : ℕ) (area c : List ℕ) (holds : HoldsBatches blocks before old area) → at ≡ length holds.bytes → Torn (at + 1) n area c → HoldsBatches blocks before old c
  still_holds n area c holds is_at torn = record {
    are = holds.are;
    bytes = holds.bytes;
    encode = holds.encode;
    gate = holds.gate;
    closed = holds.closed;
    rest = drop (at + 1) c;
    is = torn_behind holds.bytes at (sym is_at) holds.gate holds.rest n c (subst (λ (a : List ℕ). Torn (at + 1) n a c) holds.is torn);
  }

  pub staged : (batch : Batch) (bytes area c : List ℕ) → bytes ≡ encoding_behind_gate batch.front batch.images → IsBatch blocks (last_front before old) batch → (holds : HoldsBatches blocks before old area) → at ≡ length holds.bytes → Holds area (at + 1) bytes c → IsStaged blocks before old batch at c
  staged batch bytes area c is next holds is_at put =
      let behind = put_behind holds.bytes at (sym is_at) holds.gate holds.rest bytes c (subst (λ (a : List ℕ). Holds a (at + 1) bytes c) holds.is put) in
      record {
        are = holds.are;
        next = next;
        bytes = holds.bytes;
        encode = holds.encode;
        is_at = is_at;
        gate = holds.gate;
        end = behind.0;
        is = behind.1 ∙ ap (λ (b : List ℕ). holds.bytes ++ holds.gate ∷ (b ++ behind.0)) is;
      }

  -- behind an open gate the batch counts
  opened : (batch : Batch) (gate : ℕ) (area c : List ℕ) (stage : IsStaged blocks before old batch at area) → gate ≡ 1
      → c ≡ stage.bytes ++ gate ∷ (encoding_behind_gate batch.front batch.images ++ stage.end) → (holds : HoldsBatches blocks before (old ++ batch ∷ []) c) × (length holds.bytes ≡ at + batch_size batch.images)
  unfolding batch_encoding
  opened batch gate area c stage is encoded = (
    record {
      are = AreBatches-push blocks before old batch stage.are stage.next;
      bytes = stage.bytes ++ batch_encoding batch;
      encode = turn_push EncodesBatch old batch stage.bytes (batch_encoding batch) stage.encode (encodes_batch batch);
      gate = 0;
      closed = λ e. absurd (omega arith);
      rest = stage.end;
      is =
          encoded ∙ ap (λ (g : ℕ). stage.bytes ++ g ∷ (encoding_behind_gate batch.front batch.images ++ stage.end)) is
          ∙ ap (λ (l : List ℕ). stage.bytes ++ 1 ∷ l) (append_assoc (body_encoding batch.front batch.images) (0 ∷ []) stage.end)
          ∙ sym (append_assoc stage.bytes (batch_encoding batch) (0 ∷ stage.end));
    },
    omega (arith, length-append stage.bytes (batch_encoding batch), stage.is_at, length-batch_encoding blocks (last_front before old) batch stage.next),
  )

  -- and behind a closed one it doesn't
  pub old_or_new : (batch : Batch) (area c : List ℕ) → IsStaged blocks before old batch at area → Torn at 1 area c → HoldsOldOrNew blocks before old batch c
  old_or_new batch area c stage torn =
      let rest = encoding_behind_gate batch.front batch.images ++ stage.end in
      let (gate, is) = torn_gate stage.bytes at (sym stage.is_at) stage.gate rest c (subst (λ (a : List ℕ). Torn at 1 a c) stage.is torn) in
      elim (cases_eq gate 1) [
        | inl open_gate ↦ inr (opened batch gate area c stage open_gate is).0
        | inr shut ↦ inl (record { are = stage.are; bytes = stage.bytes; encode = stage.encode; gate = gate; closed = shut; rest = rest; is = is })
      ]

  pub new : (batch : Batch) (area c : List ℕ) → IsStaged blocks before old batch at area → Holds area at (1 ∷ []) c → (holds : HoldsBatches blocks before (old ++ batch ∷ []) c) × (length holds.bytes ≡ at + batch_size batch.images)
  new batch area c stage put =
      let rest = encoding_behind_gate batch.front batch.images ++ stage.end in
      opened batch 1 area c stage refl
      (put_gate stage.bytes at (sym stage.is_at) stage.gate rest 1 c (subst (λ (a : List ℕ). Holds a at (1 ∷ []) c) stage.is put))
