-- The marks of a write, block by block.
use Rattle.std.proofs.Common.{◌≡◌, ◌⊎◌, inl, inr, ℕ, ◌+◌, ◌-◌, ◌*◌, ◌/◌, ◌<◌, ◌≤◌, List, [], ◌∷◌, ◌++◌, length, get_or, set, refl, sym, subst, ◌∙◌, ap, arith, append_assoc, length-append}
use Rattle.std.specs.Prelude.{◌↔◌, true, false}
use Rattle.std.proofs.lemmas.Bool.{cases_eq}
use Rattle.std.proofs.lemmas.List.{get_or-set_other, get_or-set_same, length-set}
use Rattle.std.proofs.lemmas.Bool.Decides.{nat_tests}
use Rattle.std.proofs.Math.Seq.{get_or-append_seam}
use Rattle.std.proofs.lemmas.List.FromFn.{get_or-map-range_with_len, length-map-range_with_len}
use Rattle.volume.specs.PieceLemmas.{touched_all, touched_ends}
use Rattle.volume.specs.Pieces.{piece_in, pieces_of, touched_count}
use Rattle.volume.specs.Writes.{IsTouched, Placed}
use Rattle.volume.specs.declared.piece.Piece.{Piece}
use Rattle.rejoin_catchup.specs.Sending.{AreMarked, IsMarked, Sending}

-- so many blocks from the first on are marked, where they were given, and no others that weren't
pub record HasMarked (first count : ℕ) (old new : Sending) : Type 0 where
  pub given : new.given ≡ old.given
  pub blocks : length new.marks ≡ length old.marks
  pub marked : (block : ℕ) → IsMarked new block ↔ (IsMarked old block ⊎ ((block < old.given) × (first ≤ block) × (block < first + count)))

-- none yet
pub marked_none : (first : ℕ) (s : Sending) → HasMarked first 0 s s
marked_none first s = record {
  given = refl;
  blocks = refl;
  marked = λ block. (λ is. inl is, λ either. elim either [ inl is ↦ is | inr within ↦ absurd (omega (arith, within.1, within.2)) ]);
}

module _ (first count : ℕ) (old new : Sending) (was : HasMarked first count old new) where
  -- one more, which was given
  marked_one : first + count < old.given → old.given ≤ length old.marks → HasMarked first (count + 1) old (record new { marks = set new.marks (first + count) true })
  marked_one given within = record {
    given = was.given;
    blocks = length-set new.marks (first + count) true ∙ was.blocks;
    marked = λ block. elim (cases_eq block (first + count)) [
      | inl here ↦ (λ _. inr (omega arith, omega arith, omega arith), λ _. subst (λ (b : ℕ). get_or (set new.marks (first + count) true) b false ≡ true) (sym here) (get_or-set_same new.marks (first + count) true false (omega (arith, was.blocks))))
      | inr differs ↦
          let same = get_or-set_other new.marks (first + count) block true false differs in (
            λ is. elim ((was.marked block).0 (sym same ∙ is)) [ inl before ↦ inl before | inr among ↦ inr (among.0, among.1, omega (arith, among.2)) ],
            λ either. same ∙ (was.marked block).1 (elim either as (λ _. IsMarked old block ⊎ ((block < old.given) × (first ≤ block) × (block < first + count))) [
              | inl before ↦ inl before
              | inr among ↦ inr (among.0, among.1, omega (arith, among.2, differs))
            ]),
          )
    ];
  }

  -- one more, which wasn't
  marked_past : old.given ≤ first + count → HasMarked first (count + 1) old new
  marked_past past = record {
    given = was.given;
    blocks = was.blocks;
    marked = λ block. (
      λ is. elim ((was.marked block).0 is) [ inl before ↦ inl before | inr among ↦ inr (among.0, among.1, omega (arith, among.2)) ],
      λ either. (was.marked block).1 (elim either as (λ _. IsMarked old block ⊎ ((block < old.given) × (first ≤ block) × (block < first + count))) [
        | inl before ↦ inl before
        | inr among ↦ inr (among.0, among.1, omega (arith, among.0, among.2))
      ]),
    );
  }

-- a range that touches a block isn't empty
touched_some : (offset len k : ℕ) → k < touched_count offset len → 0 < len
touched_some offset len k lt = grind (arith, nat_tests)

-- all that the write touches
pub marked_all : (w : Placed) (old new : Sending) → HasMarked (w.offset / 4096) (touched_count w.offset (length w.bytes)) old new → AreMarked w old new
marked_all w old new was = record {
  given = was.given;
  blocks = was.blocks;
  marked = λ block. (
    λ is. elim ((was.marked block).0 is) [
      | inl before ↦ inl before
      | inr among ↦ inr (among.0, is_touched block among.1 among.2)
    ],
    λ either. (was.marked block).1 (elim either as (λ _. IsMarked old block ⊎ ((block < old.given) × (w.offset / 4096 ≤ block) × (block < w.offset / 4096 + touched_count w.offset (length w.bytes)))) [
      | inl before ↦ inl before
      | inr (given, touched) ↦ inr (given, omega (arith, touched.0), omega (arith, touched.1, touched_all w.offset (length w.bytes) touched.2))
    ]),
  );
}
  where
    is_touched : (block : ℕ) → w.offset / 4096 ≤ block → block < w.offset / 4096 + touched_count w.offset (length w.bytes) → IsTouched w block
    is_touched block from below =
        let k = block - w.offset / 4096 in
        let at : w.offset / 4096 + k ≡ block = omega arith in
        let ends = touched_ends w.offset (length w.bytes) k (omega arith) in
        let begins : 4096 * block < w.offset + length w.bytes = omega (arith, ends, at) in
        (omega arith, begins, touched_some w.offset (length w.bytes) k (omega arith))

-- the block of the next piece
next_is : (offset len : ℕ) (before rest : List Piece) (piece : Piece) → before ++ piece ∷ rest ≡ pieces_of offset len → piece.block ≡ offset / 4096 + length before
next_is offset len before rest piece whole =
    let count = touched_count offset len in
    let below : length before < count = omega (arith, ap length whole, length-append before (piece ∷ rest), length-map-range_with_len (piece_in offset len) (offset / 4096) count) in
    let here : get_or (before ++ piece ∷ rest) (length before) piece ≡ piece = get_or-append_seam before piece rest piece in
    let at = get_or-map-range_with_len (piece_in offset len) (offset / 4096) count (length before) (offset / 4096 + length before) piece below refl in
    ap (λ (p : Piece). p.block) (sym here ∙ ap (λ (l : List Piece). get_or l (length before) piece) whole ∙ at)

-- the next piece joins those before it
pub moved_on : (before now after all : List Piece) (piece : Piece) → before ++ now ≡ all → now ≡ piece ∷ after → (before ++ piece ∷ []) ++ after ≡ all
moved_on before now after all piece whole next = append_assoc before (piece ∷ []) after ∙ ap (λ (l : List Piece). before ++ l) (sym next) ∙ whole

module _ (offset len : ℕ) (before now after : List Piece) (piece : Piece) (whole : before ++ now ≡ pieces_of offset len) (next : now ≡ piece ∷ after) (old was : Sending) (so_far : HasMarked (offset / 4096) (length before) old was) where
  -- its block
  is : piece.block ≡ offset / 4096 + length before
  is = next_is offset len before after piece (ap (λ (l : List Piece). before ++ l) (sym next) ∙ whole)

  -- one piece more
  counted : length before + 1 ≡ length (before ++ piece ∷ [])
  counted = sym (length-append before (piece ∷ []))

  -- that block is marked
  pub marked_next : (new : Sending) → piece.block < old.given → old.given ≤ length old.marks → new ≡ record was { marks = set was.marks piece.block true } → HasMarked (offset / 4096) (length (before ++ piece ∷ [])) old new
  marked_next new given within then =
      subst (λ (n : ℕ). HasMarked (offset / 4096) n old new) counted
      (subst (HasMarked (offset / 4096) (length before + 1) old) (sym (then ∙ ap (λ (b : ℕ). record was { marks = set was.marks b true }) is))
      (marked_one (offset / 4096) (length before) old was so_far (omega (arith, given, is)) within))

  -- or it wasn't given
  pub passed_next : old.given ≤ piece.block → HasMarked (offset / 4096) (length (before ++ piece ∷ [])) old was
  passed_next past = subst (λ (n : ℕ). HasMarked (offset / 4096) n old was) counted (marked_past (offset / 4096) (length before) old was so_far (omega (arith, past, is)))

-- where no piece is left
pub none_left : (offset len : ℕ) (before now : List Piece) → before ++ now ≡ pieces_of offset len → now ≡ [] → length before ≡ touched_count offset len
none_left offset len before now whole none =
    omega (arith, ap length whole, ap length none, length-append before now, length-map-range_with_len (piece_in offset len) (offset / 4096) (touched_count offset len))
