-- Pending images in memory.
use Rattle.std.proofs.Common.{◌≡◌, ℕ, ◌+◌, List, [], ◌∷◌, ◌++◌, map, set, get_or, refl, sym, ◌∙◌, ap, inl, inr, ⊎_elim}
use Rattle.std.specs.Prelude.{Option, Some, None, IfSome, is_some, option_map}
use Rattle.std.proofs.Math.ListN.{get_or-map as get_or-map-any}
use Rattle.flusher.specs.Plan.{IsFrom, IsLeast, IsNext, IsPending, IsRun, NonePending, behind}
use Rattle.std.proofs.lemmas.List.{map-set}
use Rattle.std.proofs.lemmas.List.Sums.{fold-append}
use Rattle.gate_journal.specs.Image.{Image}
use Rattle.local_store.specs.Pending.{with_pending}

-- places with images in memory
abbrev pub shown : List (Option Image) → List (Option (List ℕ))
shown places = map (option_map (λ (image : Image). image.bytes)) places

pub shown_set : (places : List (Option Image)) (at : ℕ) (image : Image) → shown (set places at (Some image)) ≡ set (shown places) at (Some image.bytes)
shown_set places at image = map-set (option_map (λ (i : Image). i.bytes)) places at (Some image)

pub shown_unset : (places : List (Option Image)) (at : ℕ) → shown (set places at None) ≡ set (shown places) at None
shown_unset places at = map-set (option_map (λ (i : Image). i.bytes)) places at None

-- one staged image more
pub one_more : (start pending : List (Option (List ℕ))) (kept : List Image) (image : Image) → pending ≡ with_pending start kept
    → set pending image.block (Some image.bytes) ≡ with_pending start (kept ++ image ∷ [])
one_more start pending kept image was =
    ap (λ (p : List (Option (List ℕ))). set p image.block (Some image.bytes)) was
    ∙ sym (fold-append (λ (p : List (Option (List ℕ))) (i : Image). set p i.block (Some i.bytes)) start kept (image ∷ []))

bytes_in : Option Image → Option (List ℕ)
bytes_in place = option_map (λ (image : Image). image.bytes) place

full_still : (place : Option Image) → is_some (bytes_in place) ≡ is_some place
unfolding bytes_in
full_still None = refl
full_still (Some image) = refl

-- a place is as full as what it shows
pub as_full : (places : List (Option Image)) (b : ℕ) → is_some (get_or (shown places) b None) ≡ is_some (get_or places b None)
unfolding bytes_in
as_full places b = ap (λ (o : Option (List ℕ)). is_some o) (get_or-map-any (option_map (λ (image : Image). image.bytes)) places b None) ∙ full_still (get_or places b None)

-- so the next one is the same
pub next_shown : (places : List (Option Image)) (last : Option ℕ) (block : ℕ) → IsNext last (IsPending places) block → IsNext last (IsPending (shown places)) block
next_shown places last block is = ⊎_elim (λ next. inl (from (behind last) next)) (λ wrapped. inr (λ b above. wrapped.0 b (record { from = above.from; pending = back b above.pending }), from 0 wrapped.1)) is
  where
    to : (b : ℕ) → IsPending places b → IsPending (shown places) b
    to b full = as_full places b ∙ full

    back : (b : ℕ) → IsPending (shown places) b → IsPending places b
    back b full = sym (as_full places b) ∙ full

    from : (first : ℕ) → IsLeast (IsFrom first (IsPending places)) block → IsLeast (IsFrom first (IsPending (shown places))) block
    from first least = record {
      is = record { from = least.is.from; pending = to block least.is.pending };
      least = λ other above. least.least other (record { from = above.from; pending = back other above.pending });
    }

-- and so is its run
pub run_shown : (places : List (Option Image)) (most first count : ℕ) → IsRun most (IsPending places) first count → IsRun most (IsPending (shown places)) first count
run_shown places most first count is = record {
  whole = λ b within. as_full places b ∙ is.whole b within;
  some = is.some;
  few = is.few;
  longest = ⊎_elim (λ full. inl full) (λ empty. inr (λ is_shown. empty (sym (as_full places (first + count)) ∙ is_shown))) is.longest;
}

pub none_shown : (places : List (Option Image)) → NonePending (IsPending places) → NonePending (IsPending (shown places))
none_shown places empty = λ b full. empty b (sym (as_full places b) ∙ full)

pub none_within : (places : List (Option Image)) → NonePending (IsPending (shown places)) → NonePending (IsPending places)
none_within places empty = λ b full. empty b (as_full places b ∙ full)

pub some_next : {T : Type 0} {P Q : T → Type 0} (given : Option T) → ((block : T) → P block → Q block) → IfSome given P → IfSome given Q
some_next None from is = tt
some_next (Some block) from is = from block is
