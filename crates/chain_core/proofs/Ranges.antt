-- A range of the volume, piece by piece.
use Rattle.std.proofs.Common.{◌≡◌, ℕ, ◌+◌, ◌-◌, ◌*◌, ◌/◌, ◌<◌, ◌≤◌, List, [], ◌∷◌, ◌++◌, get_or, length, map, max, fold, replicate, refl, take, true, drop, sym, subst, ap, ◌∙◌, arith}
use Rattle.std.specs.Prelude.{All}
use Rattle.std.specs.List.{flat_map, list_any}
use Rattle.std.proofs.lemmas.List.{append-nil, append_assoc, flat_map_more, length-replicate, map_more, map_push}
use Rattle.std.proofs.lemmas.List.Elements.{All-head, All-map, All-tail, All-take}
use Rattle.version_table.proofs.Whole.{whole_same}
use Rattle.version_table.specs.Held.{Held, IsClean, writes_upto}
use Rattle.version_table.specs.Marks.{ReachesBlock}
use Rattle.version_table.specs.Whole.{has_whole}
use Rattle.volume.specs.Pieces.{IsPieceOf}
use Rattle.version_table.specs.declared.kept.Kept.{Kept}
use Rattle.volume.specs.Volumes.{block_of-volume_of-nil, length-patched, range-patched_apart}
use Rattle.volume.specs.Writes.{Fits, IsTouched, Overlaps, Placed, block_of, patched}
use Rattle.volume.specs.declared.piece.Piece.{Piece}
use Rattle.chain_core.specs.Reads.{IsBaseOf}

-- the writes up to a number fit where all kept ones do
pub upto_fit : (size n j : ℕ) (t : Held) → n ≡ size → All (λ k. Fits size k.write) t.kept → All (Fits n) (writes_upto t j)
upto_fit size n j t long fit = subst (λ m. All (Fits m) (writes_upto t j)) (sym long) (All-map (Fits size) (λ k. k.write) (take (j - t.forgotten) t.kept) (All-take (λ k. Fits size k.write) (j - t.forgotten) t.kept fit))

-- zeros may stand for a block that one of the writes has whole
pub whole_base : (volume : List ℕ) (size j block : ℕ) (t : Held) → length volume ≡ size → 4096 * block + 4096 ≤ size → All (λ k. Fits size k.write) t.kept
    → list_any (has_whole block) (writes_upto t j) ≡ true → IsBaseOf volume (writes_upto t j) block (replicate 4096 0)
whole_base volume size j block t long within fit whole =
    let zeros : List ℕ = replicate (length volume) 0 in
    let as_long : length zeros ≡ length volume = length-replicate (length volume) 0 in
    record {
      under = zeros;
      as_long = as_long;
      is = sym (block_of-volume_of-nil (length volume) block (omega arith));
      same = whole_same zeros volume (writes_upto t j) block as_long (upto_fit size (length zeros) j t (as_long ∙ long) fit) whole;
    }

-- the block of a piece is one of the volume's
pub block_within : (offset len blocks : ℕ) (p : Piece) → IsPieceOf offset len p → offset + len ≤ 4096 * blocks → p.block < blocks
block_within offset len blocks p is within = omega (arith, is.some, is.in_range, is.place)

-- what a piece reads of a volume
abbrev pub piece_read : List ℕ → Piece → List ℕ
piece_read volume piece = take piece.len (drop piece.start (block_of volume piece.block))

-- one piece more
pub one_read : (volume bytes block new : List ℕ) (pieces : List Piece) (p : Piece) → bytes ≡ flat_map (piece_read volume) pieces → block ≡ block_of volume p.block → new ≡ bytes ++ take (p.start + p.len - p.start) (drop p.start block)
    → new ≡ flat_map (piece_read volume) (pieces ++ p ∷ [])
one_read volume bytes block new pieces p so_far here is =
    let len : p.start + p.len - p.start ≡ p.len = omega arith in
    is ∙ rw (so_far, here, len) (flat_map_more (piece_read volume) [] pieces p)

-- the pieces that are behind, and those to come
pub one_behind : (behind rest next whole : List Piece) (p : Piece) → behind ++ rest ≡ whole → rest ≡ p ∷ next → (behind ++ p ∷ []) ++ next ≡ whole
one_behind behind rest next whole p is first = append_assoc behind (p ∷ []) next ∙ ap (λ ps. behind ++ ps) (sym first) ∙ is

pub all_behind : (behind rest whole : List Piece) → behind ++ rest ≡ whole → rest ≡ [] → behind ≡ whole
all_behind behind rest whole is none = sym (append-nil behind) ∙ ap (λ ps. behind ++ ps) (sym none) ∙ is

-- one more of several
pub one_range : {V R : Type 0} (items : V → List ℕ) (f : R → List ℕ) (all : List V) (ranges : List R) (i : ℕ) (d : R) (bytes : V) → map items all ≡ map f (take i ranges) → i < length ranges → items bytes ≡ f (get_or ranges i d)
    → map items (all ++ bytes ∷ []) ≡ map f (take (i + 1) ranges)
one_range items f all ranges i d bytes so_far lt is =
    map_push items all bytes ∙ ap (λ xs. xs ++ items bytes ∷ []) so_far ∙ ap (λ b. map f (take i ranges) ++ b ∷ []) is ∙ sym (map_more f ranges i d lt)

-- a write that overlaps a range touches one of its blocks
shares_block : (w : Placed) (offset len : ℕ) → Overlaps w offset len → (b : ℕ) × ReachesBlock offset len b × IsTouched w b
shares_block w offset len (starts, ends, some, long) =
    let b = max (offset / 4096) (w.offset / 4096) in
    (b, (omega arith, omega arith, long), (omega arith, omega arith, some))

-- a range whose blocks no write touches stays
apart_range : (offset len : ℕ) (volume : List ℕ) (ks : List Kept) → All (λ k. Fits (length volume) k.write) ks → ((b : ℕ) → ReachesBlock offset len b → All (λ k. ¬ IsTouched k.write b) ks)
    → take len (drop offset (fold patched volume (map (λ k. k.write) ks))) ≡ take len (drop offset volume)
apart_range offset len volume [] fit clean = refl
apart_range offset len volume (k ∷ ks) fit clean =
    let fits : Fits (length volume) k.write = All-head (λ (x : Kept). Fits (length volume) x.write) k ks fit in
    let long = length-patched volume k.write fits in
    apart_range offset len (patched volume k.write) ks (rw long (All-tail (λ (x : Kept). Fits (length volume) x.write) k ks fit))
    (λ b reached. All-tail (λ (x : Kept). ¬ IsTouched x.write b) k ks (clean b reached))
    ∙ range-patched_apart volume k.write offset len fits (λ meets. let (b, reached, touched) = shares_block k.write offset len meets in
    All-head (λ (x : Kept). ¬ IsTouched x.write b) k ks (clean b reached) touched)

-- so a clean range is the same at each number
pub clean_range : (size offset len j : ℕ) (volume : List ℕ) (t : Held) → length volume ≡ size → All (λ k. Fits size k.write) t.kept → IsClean t offset len t.forgotten
    → take len (drop offset (fold patched volume (writes_upto t j))) ≡ take len (drop offset volume)
clean_range size offset len j volume t long fit clean =
    let upto = j - t.forgotten in
    let none : t.forgotten - t.forgotten ≡ 0 = omega arith in
    apart_range offset len volume (take upto t.kept)
    (All-take (λ (k : Kept). Fits (length volume) k.write) upto t.kept (subst (λ m. All (λ (k : Kept). Fits m k.write) t.kept) (sym long) fit))
    (λ b reached. All-take (λ (k : Kept). ¬ IsTouched k.write b) upto t.kept (subst (λ n. All (λ (k : Kept). ¬ IsTouched k.write b) (drop n t.kept)) none (clean b reached)))
