-- A store whose log may be lent out: lemmas for what is said of it.
use Rattle.std.specs.Prelude.{◌≡◌, ◌⊎◌, ℕ, ◌*◌, ◌≤◌, Option, None, Some, IsNone, List, length, take, drop}
use Rattle.std.proofs.Common.{arith, refl, sym, ◌∙◌, ap, subst, inl, inr, ⊎_elim}
use Rattle.disk_model.specs.Halves.{LeftBehind, inside_behind, inside_below}
use Rattle.disk_model.specs.Part.{inside}
use Rattle.gate_journal.specs.Batch.{Batch, HoldsBatches, last_front}
use Rattle.gate_journal.specs.Journal as journal
use Rattle.gate_journal.specs.Journal.{part_behind}
use Rattle.gate_journal.specs.Pair.{HoldsPair}
use Rattle.home_blocks.specs.Home.{HoldsSuperblock, settled_leaves}
use Rattle.home_blocks.specs.Places.{border_of, home_part, superblock_part}
use Rattle.home_blocks.specs.Superblock.{Superblock}
use Rattle.home_blocks.specs.declared.progress.Progress.TheVariants.{Whole}
use Rattle.local_store.specs.Kept.{old_meaning, one_home, one_volume, stored_means}
use Rattle.local_store.specs.Lending.{HoldsHome, IsHomeKept}
use Rattle.local_store.specs.Meaning.{Means}
use Rattle.local_store.specs.Overlay.{with_batches}
use Rattle.local_store.specs.Store.{State, IsOfSuperblock, geometry_of, meaning_in}
use Rattle.local_store.specs.declared.lent.Lent.{Lent}
use Rattle.disk_model.specs.Frames.{left_inside}
use Rattle.local_store.specs.Away.{IsKeptOver, Keeps, LeftWith, lent_batch}

-- whatever a stop may leave of such a home half does
pub home_leaves : {store : State} {volume : List ℕ} {batches : List Batch} {gives : List ℕ} {may_leave : List ℕ → Type 0} → IsHomeKept store volume batches gives may_leave → (c : List ℕ) → may_leave c → HoldsHome store volume batches c
home_leaves {store} {volume} {batches} {gives} {may_leave} kept c left = record {
  superblock = settled_leaves kept.superblock c left;
  region = kept.region.left (inside (home_part (geometry_of store)) c) (left_inside (home_part (geometry_of store)) may_leave c left);
}

-- where none is told of, none is lent
pub none_lent : {P L : Type 0} (lent : Option (Lent P L)) → lent_batch lent ≡ None → IsNone lent
none_lent None none = refl
none_lent (Some l) none = absurd (cc)

-- what may be left of a disk, where more may be left of another.
pub left_more : {L : Type 0} (lent : Option L) (cut : L → ℕ) (before : L → List ℕ → Type 0) (A B : List ℕ → Type 0) → ((c : List ℕ) → A c → B c) → (c : List ℕ) → LeftWith lent cut before A c → LeftWith lent cut before B c
left_more None cut before A B from c left = from c left
left_more (Some l) cut before A B from c (home, behind) = (from (take (cut l) c) home, behind)

pub left_either : {L : Type 0} (lent : Option L) (cut : L → ℕ) (before : L → List ℕ → Type 0) (A B C : List ℕ → Type 0) → ((c : List ℕ) → A c → B c ⊎ C c) → (c : List ℕ)
    → LeftWith lent cut before A c → LeftWith lent cut before B c ⊎ LeftWith lent cut before C c
left_either None cut before A B C from c left = from c left
left_either (Some l) cut before A B C from c (home, behind) = ⊎_elim (λ b. inl (b, behind)) (λ x. inr (x, behind)) (from (take (cut l) c) home)

-- below the border the whole has the superblock that the home half has
pub holds_below : {sb : Superblock} (border : ℕ) (c : List ℕ) → 8192 ≤ border → HoldsSuperblock sb (take border c) → HoldsSuperblock sb c
holds_below border c within holds = record {
  is = holds.is;
  payload = record {
    slots = holds.payload.slots;
    holds = subst (HoldsPair holds.payload.slots) (inside_below border superblock_part c (omega (arith, within))) holds.payload.holds;
    number = holds.payload.number;
    is_newest = holds.payload.is_newest;
  };
  migrates = holds.migrates;
}

-- the journal stands behind the border
pub journal_behind : (store : State) → IsOfSuperblock store → border_of (geometry_of store) ≤ store.journal.part.start
journal_behind store of = omega (arith, of.part.start)

pub inside_journal : (store : State) (c : List ℕ) → IsOfSuperblock store
    → inside (part_behind store.journal.part (border_of (geometry_of store))) (drop (border_of (geometry_of store)) c) ≡ inside store.journal.part c
inside_journal store c of =
    let border = border_of (geometry_of store) in
    let behind = journal_behind store of in
    inside_behind border store.journal.part (part_behind store.journal.part border) c (omega (arith, behind)) refl

-- A home half that holds what it keeps, below a log with the batches that it keeps it over, means what the store means.
pub halves_mean_old : (store : State) (volume : List ℕ) (batches : List Batch) (c : List ℕ) → IsOfSuperblock store → store.home.superblock.progress ≡ Whole → store.journal.front ≡ last_front store.journal.before batches
    → HoldsHome store volume batches (take (border_of (geometry_of store)) c) → HoldsBatches store.journal.blocks store.journal.before batches (inside store.journal.part c) → Means (meaning_in store volume) c
halves_mean_old store volume batches c of whole front home area =
    let border = border_of (geometry_of store) in
    old_meaning store volume batches of whole front c (holds_below border c (omega arith) home.superblock) area
    (ap (λ (l : List ℕ). with_batches l batches) (sym (inside_below border (home_part (geometry_of store)) c (omega arith))) ∙ home.region)

-- so does whatever may be left while the log is lent
pub over_means : (store : State) (volume : List ℕ) (batches : List Batch) (gives : List ℕ) (left left_before : List ℕ → Type 0) (cut : ℕ) → cut ≡ border_of (geometry_of store) → IsKeptOver store volume batches gives left left_before → (c : List ℕ)
    → HoldsHome store volume batches (take cut c) → LeftBehind cut left_before (drop cut c) → Means (meaning_in store volume) c
over_means store volume batches gives left left_before cut at kept c home (d, was, same) =
    let border = border_of (geometry_of store) in
    let of = kept.home.stands in
    let same_log : drop border c ≡ drop border d = subst (λ (n : ℕ). drop n c ≡ drop n d) at same in
    halves_mean_old store volume batches c of kept.home.is_whole kept.front (subst (λ (n : ℕ). HoldsHome store volume batches (take n c)) at home)
    (subst (HoldsBatches store.journal.blocks store.journal.before batches)
    (sym (inside_journal store d of) ∙ ap (inside (part_behind store.journal.part border)) (sym same_log) ∙ inside_journal store c of) (kept.held d was))

pub means_either : {L : Type 0} (lent : Option L) (cut : L → ℕ) (before : L → List ℕ → Type 0) (had : L → journal.State → List Batch → Type 0) (store : State) (volume gives : List ℕ) (left : List ℕ → Type 0) → ((l : L) → lent ≡ Some l → cut l ≡ border_of (geometry_of store))
    → Keeps lent before had store volume gives left → (c : List ℕ) → LeftWith lent cut before left c → Means (meaning_in store volume) c
means_either None cut before had store volume gives left at kept c may = stored_means kept.stands kept c may
means_either (Some l) cut before had store volume gives left at (batches, kept, log) c (home, behind) =
    over_means store volume batches gives left (before l) (cut l) (at l refl) kept c (home_leaves kept.home (take (cut l) c) home) behind

-- it keeps one volume, which is as long as its blocks
pub one_either : {L : Type 0} (lent : Option L) (before : L → List ℕ → Type 0) (had : L → journal.State → List Batch → Type 0) (store : State) (one other gives : List ℕ) (left : List ℕ → Type 0) → Keeps lent before had store one gives left → Keeps lent before had store other gives left → one ≡ other
one_either None before had store one other gives left was too = one_volume was too
one_either (Some l) before had store one other gives left (batches, was, log) (others, too, same) = one_home was.home.region.waits too.home.region.waits

pub size_either : {L : Type 0} (lent : Option L) (before : L → List ℕ → Type 0) (had : L → journal.State → List Batch → Type 0) (store : State) (volume gives : List ℕ) (left : List ℕ → Type 0) → Keeps lent before had store volume gives left → length volume ≡ 4096 * (geometry_of store).blocks
size_either None before had store volume gives left kept = kept.region.waits.size
size_either (Some l) before had store volume gives left (batches, kept, log) = kept.home.region.waits.size
