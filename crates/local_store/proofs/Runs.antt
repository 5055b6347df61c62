-- Runs of blocks: the pending images over what the home region has.
use Rattle.std.proofs.Common.{◌≡◌, ℕ, ◌+◌, ◌-◌, ◌*◌, ◌<◌, ◌≤◌, List, ◌++◌, length, take, drop, append_assoc, refl, sym, ◌∙◌, ap, subst, arith, inl, inr}
use Rattle.std.specs.Prelude.{Option, Some, None, unwrap_or}
use Rattle.std.proofs.Math.Nat.{mul-add, mul-le-mul_left}
use Rattle.std.proofs.lemmas.Bool.{cases_lt}
use Rattle.std.proofs.lemmas.List.{drop-drop, drop-take, take-take, length-drop, length-take}
use borrow.Rule.Slice.PartMut.{put_mid}
use Rattle.gate_journal.specs.Image.{Image}
use Rattle.local_store.specs.Overlay.{placed, FitsIn}
use Rattle.local_store.specs.Pending.{AreHomeOrPending, held}
use Rattle.local_store.proofs.Overlays.{long_still, other_block, own_block}
use Rattle.volume.specs.Volumes.{same_from_blocks}
use Rattle.volume.specs.Writes.{block_of, patched}

-- the blocks below k have their pending images over them, and the others are as they were
pub record IsOverTo (pending : List (Option (List ℕ))) (first count : ℕ) (old new : List ℕ) (k : ℕ) : Type 0 where
  pub size : length new ≡ 4096 * count
  pub done : (i : ℕ) → i < k → block_of new i ≡ unwrap_or (held pending (first + i)) (block_of old i)
  pub left : (i : ℕ) → k ≤ i → block_of new i ≡ block_of old i

pub none_over : (pending : List (Option (List ℕ))) (first count : ℕ) (old : List ℕ) → length old ≡ 4096 * count → IsOverTo pending first count old old 0
none_over pending first count old long = record { size = long; done = λ i lt. absurd (omega (arith, lt)); left = λ i le. refl }

-- one block more: it isn't pending, or its image is put over it
module _ (pending : List (Option (List ℕ))) (first count : ℕ) (old new : List ℕ) (k : ℕ) (was : IsOverTo pending first count old new k) where
  pub over_home : None ≡ held pending (first + k) → IsOverTo pending first count old new (k + 1)
  over_home empty = record {
    size = was.size;
    done = λ i lt. elim (cases_lt i k) [
      | inl below ↦ was.done i below
      | inr past ↦ let here : k ≡ i = omega arith in
          subst (λ (j : ℕ). block_of new j ≡ unwrap_or (held pending (first + j)) (block_of old j)) here
          (was.left k (omega arith) ∙ ap (λ (o : Option (List ℕ)). unwrap_or o (block_of old k)) empty)
    ];
    left = λ i le. was.left i (omega (arith, le));
  }

  pub over_pending : (bytes : List ℕ) → k < count → length bytes ≡ 4096 → Some bytes ≡ held pending (first + k)
      → IsOverTo pending first count old (patched new (record { offset = 4096 * k; bytes = bytes })) (k + 1)
  over_pending bytes below whole full =
      let image : Image = record { block = k; bytes = bytes } in
      let fit : FitsIn count image = (below, whole) in
      record {
        size = long_still count new image was.size fit;
        done = λ i lt. elim (cases_lt i k) [
          | inl earlier ↦ other_block count new image i was.size fit (λ (is : k ≡ i). omega arith) ∙ was.done i earlier
          | inr past ↦ let here : k ≡ i = omega arith in
              subst (λ (j : ℕ). block_of (patched new (placed image)) j ≡ unwrap_or (held pending (first + j)) (block_of old j)) here
              (own_block count new image was.size fit ∙ ap (λ (o : Option (List ℕ)). unwrap_or o (block_of old k)) full)
        ];
        left = λ i le. other_block count new image i was.size fit (λ (is : k ≡ i). omega arith) ∙ was.left i (omega (arith, le));
      }

-- bytes that were written to a part, from a place on, are patched
pub part_is_patched : (at n place : ℕ) (old part new : List ℕ) → at ≡ place → n ≡ length new → part ≡ new → put_mid at n old part ≡ patched old (record { offset = place; bytes = new })
part_is_patched at n place old part new here whole is =
    ap (λ (a : ℕ). put_mid a n old part) here ∙ ap (λ (m : ℕ). put_mid place m old part) whole ∙ ap (λ (l : List ℕ). put_mid place (length new) old l) is
    ∙ ap (λ (l : List ℕ). take place old ++ (new ++ l)) (drop-drop (length new) place old) ∙ sym (append_assoc (take place old) new (drop (place + length new) old))

-- a block of a run, over blocks of any size
part_of_run : (size first count i : ℕ) (volume : List ℕ) → i < count → take size (drop (size * i) (take (size * count) (drop (size * first) volume))) ≡ take size (drop (size * (first + i)) volume)
part_of_run size first count i volume lt =
    let room : size * (i + 1) ≤ size * count = mul-le-mul_left size (omega arith) in
    let whole : size * count ≡ size * i + (size * count - size * i) = omega arith in
    ap (λ (m : ℕ). take size (drop (size * i) (take m (drop (size * first) volume)))) whole
    ∙ ap (take size) (drop-take (size * i) (size * count - size * i) (drop (size * first) volume))
    ∙ take-take size (size * count - size * i) (drop (size * i) (drop (size * first) volume)) (omega arith)
    ∙ ap (take size) (drop-drop (size * i) (size * first) volume ∙ ap (λ (m : ℕ). drop m volume) (sym (mul-add size first i)))

pub block_of_run : (first count i : ℕ) (volume : List ℕ) → i < count → block_of (take (4096 * count) (drop (4096 * first) volume)) i ≡ block_of volume (first + i)
unfolding block_of
block_of_run first count i volume lt = part_of_run 4096 first count i volume lt

length-run : (first count n : ℕ) (volume : List ℕ) → length volume ≡ 4096 * n → first + count ≤ n → length (take (4096 * count) (drop (4096 * first) volume)) ≡ 4096 * count
length-run first count n volume long within = omega (arith, within, long, length-take (4096 * count) (drop (4096 * first) volume), length-drop (4096 * first) volume)

-- what the home region has of a run, with the pending images over it, is the volume's
pub run_read : {n : ℕ} {E : ℕ → Type 0} {v : List ℕ} {pending : List (Option (List ℕ))} {home : List ℕ} (first count : ℕ) (old new : List ℕ) → AreHomeOrPending n E v pending home → first + count ≤ n
    → old ≡ take (4096 * count) (drop (4096 * first) home) → length new ≡ 4096 * count → ((i : ℕ) → i < count → block_of new i ≡ unwrap_or (held pending (first + i)) (block_of old i))
    → new ≡ take (4096 * count) (drop (4096 * first) v)
run_read {n} {E} {v} {pending} {home} first count old new waits within read long over =
    same_from_blocks count new (take (4096 * count) (drop (4096 * first) v)) long (length-run first count n v waits.size within) (λ i lt.
    over i lt ∙ block_is i lt (held pending (first + i)) refl ∙ sym (block_of_run first count i v lt))
  where
    block_is : (i : ℕ) → i < count → (place : Option (List ℕ)) → held pending (first + i) ≡ place → unwrap_or place (block_of old i) ≡ block_of v (first + i)
    block_is i lt None empty = ap (λ (l : List ℕ). block_of l i) read ∙ block_of_run first count i home lt ∙ waits.is_home (first + i) (omega arith) empty
    block_is i lt (Some bytes) full = waits.image (first + i) bytes full
