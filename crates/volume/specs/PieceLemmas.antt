-- What the pieces of a range are, one by one and together: lemmas for the crates above.
use Rattle.std.proofs.Common.{◌≡◌, ℕ, zero, suc, ◌+◌, ◌-◌, ◌*◌, ◌/◌, ◌<◌, ◌≤◌, min, max, List, [], ◌∷◌, ◌++◌, map, take, drop, arith, add-one, ap, refl, subst, sym, ◌∙◌}
use Rattle.std.specs.Prelude.{All}
use Rattle.std.specs.List.{flat_map, range_with_len}
use Rattle.std.specs.List.Sorted.{IsStrictlyIncreasing}
use Rattle.std.proofs.lemmas.List.{append-nil, drop-drop, drop-take, take-take}
use Rattle.std.proofs.lemmas.Grind.{flat_map-append}
use Rattle.std.proofs.Math.Seq.{take-add}
use Rattle.std.proofs.lemmas.List.Elements.{All-map}
use Rattle.std.proofs.lemmas.List.FromFn.{length-range_with_len, get_or-range_with_len, length-map-range_with_len, get_or-map-range_with_len, take-map-range_with_len, map-range_with_len_more, sum_by-map-range_with_len_more}
use Rattle.std.proofs.lemmas.Bool.Decides.{nat_tests}
use Rattle.volume.specs.declared.piece.Piece.{Piece}
use Rattle.volume.specs.Laws.{PiecesReadTheRange}
use Rattle.volume.specs.Writes.{block_of}
use Rattle.volume.specs.Pieces.{piece_in, pieces_of, touched, touched_count, IsPieceOf, piece_bytes, GoInTurn}

-- in a block that the range touches
IsPieceOf-piece_in : (offset len block : ℕ) → offset < 4096 * block + 4096 → 4096 * block < offset + len → 0 < len → IsPieceOf offset len (piece_in offset len block)
IsPieceOf-piece_in offset len block begins ends some = record { some = omega arith; in_block = omega arith; in_range = omega arith; place = omega arith }

touched_some : (offset len k : ℕ) → k < touched_count offset len → 0 < len
touched_some offset len k lt = grind (arith, nat_tests)

pub touched_ends : (offset len k : ℕ) → k < touched_count offset len → 4096 * (offset / 4096 + k) < offset + len
touched_ends offset len k lt = grind (arith, nat_tests)

pub touched_all : (offset len : ℕ) → 0 < len → offset + len ≤ 4096 * (offset / 4096 + touched_count offset len)
touched_all offset len some = grind (arith, nat_tests)

pub IsPieceOf-pieces_of : (offset len : ℕ) → All (IsPieceOf offset len) (pieces_of offset len)
IsPieceOf-pieces_of offset len =
    All-map (IsPieceOf offset len) (piece_in offset len) (touched offset len) (λ k d lt.
    let below : k < touched_count offset len = omega (arith, length-range_with_len (offset / 4096) (touched_count offset len)) in
    let at = get_or-range_with_len (offset / 4096) (touched_count offset len) k d below in
    subst (λ (block : ℕ). IsPieceOf offset len (piece_in offset len block)) (sym at)
    (IsPieceOf-piece_in offset len (offset / 4096 + k) (omega arith) (touched_ends offset len k below) (touched_some offset len k below)))

-- the bytes of the first n pieces
front_bytes : ℕ → ℕ → ℕ → ℕ
front_bytes offset len n = piece_bytes (map (piece_in offset len) (range_with_len (offset / 4096) n))

front_bytes-zero : (offset len : ℕ) → front_bytes offset len 0 ≡ 0
unfolding front_bytes
front_bytes-zero offset len = refl

front_bytes-more : (offset len n : ℕ) → front_bytes offset len (n + 1) ≡ front_bytes offset len n + (piece_in offset len (offset / 4096 + n)).len
unfolding front_bytes
front_bytes-more offset len n = sum_by-map-range_with_len_more (λ (p : Piece). p.len) (piece_in offset len) (offset / 4096) n (offset / 4096 + n) refl

front_bytes-is : (offset len n : ℕ) → n ≤ touched_count offset len → front_bytes offset len n ≡ min (offset + len) (max offset (4096 * (offset / 4096 + n))) - offset
front_bytes-is offset len zero le = omega (arith, front_bytes-zero offset len)
front_bytes-is offset len (suc n) le =
    let before = front_bytes-is offset len n (omega arith) in
    let ends = touched_ends offset len n (omega arith) in
    subst (λ (m : ℕ). front_bytes offset len m ≡ min (offset + len) (max offset (4096 * (offset / 4096 + m))) - offset) (add-one n) (omega (arith, front_bytes-more offset len n, before, ends))

pub piece_bytes-pieces_of : (offset len : ℕ) → piece_bytes (pieces_of offset len) ≡ len
unfolding front_bytes
piece_bytes-pieces_of offset zero = refl
piece_bytes-pieces_of offset (suc len) =
    front_bytes-is offset (suc len) (touched_count offset (suc len)) (omega arith) ∙ omega (arith, touched_all offset (suc len) (omega arith))

pub GoInTurn-pieces_of : (offset len : ℕ) → GoInTurn (pieces_of offset len)
unfolding front_bytes
GoInTurn-pieces_of offset len k d lt =
    let count = touched_count offset len in
    let below : k < count = omega (arith, length-map-range_with_len (piece_in offset len) (offset / 4096) count) in
    let at = get_or-map-range_with_len (piece_in offset len) (offset / 4096) count k (offset / 4096 + k) d below refl in
    let ends = touched_ends offset len k below in
    ap (λ (p : Piece). p.from) at ∙ omega arith ∙ sym (front_bytes-is offset len k (omega arith)) ∙ sym (ap piece_bytes (take-map-range_with_len (piece_in offset len) (offset / 4096) count k (omega arith)))

-- a piece read from its block, over blocks of any size
read_in : (size at start len : ℕ) (volume : List ℕ) → start + len ≤ size → take len (drop start (take size (drop at volume))) ≡ take len (drop (at + start) volume)
read_in size at start len volume inside =
    let rest : start + (size - start) ≡ size = omega arith in
    ap (λ (m : ℕ). take len (drop start (take m (drop at volume)))) (sym rest) ∙ ap (λ (l : List ℕ). take len l) (drop-take start (size - start) (drop at volume))
    ∙ take-take len (size - start) (drop start (drop at volume)) (omega arith) ∙ ap (λ (l : List ℕ). take len l) (drop-drop start at volume)

-- what a piece reads of its block
piece_read : List ℕ → Piece → List ℕ
piece_read volume piece = take piece.len (drop piece.start (block_of volume piece.block))

piece_read-piece_in : (volume : List ℕ) (offset len n : ℕ) → n < touched_count offset len → piece_read volume (piece_in offset len (offset / 4096 + n)) ≡ take (piece_in offset len (offset / 4096 + n)).len (drop (front_bytes offset len n) (drop offset volume))
unfolding piece_read block_of
piece_read-piece_in volume offset len n lt =
    let piece = piece_in offset len (offset / 4096 + n) in
    let ends = touched_ends offset len n lt in
    let before = front_bytes-is offset len n (omega arith) in
    read_in 4096 (4096 * piece.block) piece.start piece.len volume (omega arith) ∙ ap (λ (m : ℕ). take piece.len (drop m volume)) (omega arith) ∙ ap (λ (l : List ℕ). take piece.len l) (sym (drop-drop (front_bytes offset len n) offset volume))

-- what the first n pieces read
front_read : List ℕ → ℕ → ℕ → ℕ → List ℕ
front_read volume offset len n = flat_map (piece_read volume) (map (piece_in offset len) (range_with_len (offset / 4096) n))

front_read-more : (volume : List ℕ) (offset len n : ℕ) → front_read volume offset len (n + 1) ≡ front_read volume offset len n ++ piece_read volume (piece_in offset len (offset / 4096 + n))
unfolding front_read
front_read-more volume offset len n =
    ap (flat_map (piece_read volume)) (map-range_with_len_more (piece_in offset len) (offset / 4096) n (offset / 4096 + n) refl)
    ∙ flat_map-append (piece_read volume) (map (piece_in offset len) (range_with_len (offset / 4096) n)) (piece_in offset len (offset / 4096 + n) ∷ [])
    ∙ ap (λ (l : List ℕ). front_read volume offset len n ++ l) (append-nil (piece_read volume (piece_in offset len (offset / 4096 + n))))

front_read-is : (volume : List ℕ) (offset len n : ℕ) → n ≤ touched_count offset len → front_read volume offset len n ≡ take (front_bytes offset len n) (drop offset volume)
unfolding front_read
front_read-is volume offset len zero le = rw front_bytes-zero refl
front_read-is volume offset len (suc n) le =
    let so_far = front_read-is volume offset len n (omega arith) in
    let here = piece_read-piece_in volume offset len n (omega arith) in
    subst (λ (m : ℕ). front_read volume offset len m ≡ take (front_bytes offset len m) (drop offset volume)) (add-one n)
    (front_read-more volume offset len n ∙ ap (λ (l : List ℕ). l ++ piece_read volume (piece_in offset len (offset / 4096 + n))) so_far ∙ ap (λ (l : List ℕ). take (front_bytes offset len n) (drop offset volume) ++ l) here
    ∙ sym (ap (λ (m : ℕ). take m (drop offset volume)) (front_bytes-more offset len n) ∙ take-add (front_bytes offset len n) (piece_in offset len (offset / 4096 + n)).len (drop offset volume)))

pub flat_map-pieces_of : PiecesReadTheRange
unfolding front_read piece_read front_bytes
flat_map-pieces_of volume offset len =
    front_read-is volume offset len (touched_count offset len) (omega arith) ∙ ap (λ (m : ℕ). take m (drop offset volume)) (piece_bytes-pieces_of offset len)

-- the blocks of all
pub map-block-pieces_of : (offset len : ℕ) → map (λ (p : Piece). p.block) (pieces_of offset len) ≡ touched offset len
map-block-pieces_of offset len = map-block (touched offset len)
  where
    map-block : (blocks : List ℕ) → map (λ (p : Piece). p.block) (map (piece_in offset len) blocks) ≡ blocks
    map-block [] = refl
    map-block (b ∷ blocks) = ap (λ (bs : List ℕ). b ∷ bs) (map-block blocks)

pub blocks_ascend : (offset len : ℕ) → IsStrictlyIncreasing (map (λ (p : Piece). p.block) (pieces_of offset len))
blocks_ascend offset len =
    rw map-block-pieces_of (λ k lt.
    let long = length-range_with_len (offset / 4096) (touched_count offset len) in
    let at = λ (i : ℕ) (below : i < touched_count offset len). get_or-range_with_len (offset / 4096) (touched_count offset len) i 0 below in
    omega (arith, at k (omega arith), at (k + 1) (omega arith)))
