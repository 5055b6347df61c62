-- A store on its disk: what the three parts come to together.
use Rattle.std.proofs.Common.{◌≡◌, ℕ, ◌+◌, ◌*◌, ◌<◌, ◌≤◌, true, false, List, [], ◌∷◌, ◌++◌, length, replicate, refl, sym, ◌∙◌, ap, subst, inl, inr, ◌⊎◌, ⊎_elim, arith}
use Rattle.std.specs.Prelude.{All, Option, Some, None}
use Rattle.std.proofs.lemmas.List.Elements.{All-head, All-tail, All-nil, All-cons}
use Rattle.block_cache.specs.Cache.{Agrees, Blocks, agrees_empty}
use Rattle.disk_model.specs.Disk.{Elapses, Follows, Holds, LeavesOnly, NothingNew, Only, Torn}
use Rattle.disk_model.specs.Frames.{both, only_inside, others_keep, started_inside, write_goes_on}
use Rattle.disk_model.specs.Moments.{started, weaker}
use Rattle.disk_model.specs.Part.{inside, IsApart, LeftInside, TouchesOnly}
use Rattle.disk_model.specs.declared.part.Part.{Part}
use Rattle.gate_journal.specs.Batch.{Batch, AreBatches, HoldsBatches, HoldsOldOrNew, last_front}
use Rattle.gate_journal.specs.Journal as journal
use Rattle.gate_journal.specs.Journal.{IsSettled, appended, still_settled}
use Rattle.gate_journal.specs.Image.{Image}
use Rattle.local_store.proofs.Overlays.{with_batches-push}
use Rattle.volume.specs.Volumes.{length-block_of}
use Rattle.gate_journal.specs.Pair.{HoldsPair}
use Rattle.gate_journal.specs.Runs.{OnlyReads, reads_keep}
use Rattle.home_blocks.specs.Home.{HoldsSuperblock, IsSettledHome, still_settled_home}
use Rattle.home_blocks.specs.Home as home
use Rattle.home_blocks.specs.Places.{apart_back, area_behind_home, area_behind_superblock, disk_size_of, home_apart, home_part, superblock_part}
use Rattle.home_blocks.specs.declared.progress.Progress.TheVariants.{Whole}
use Rattle.local_store.specs.Meaning.{Means}
use Rattle.local_store.specs.Kept.{old_meaning, parts_mean, stored_means}
use Rattle.local_store.specs.Overlay.{with_batches, with_images, is_covered, AllFitIn, FitsIn}
use Rattle.local_store.specs.Pending.{AreCleared, AreJoined, IsHome, AreHomeOrPending, held, with_all_pending}
use Rattle.volume.specs.declared.geometry.Geometry.{Geometry}
use Rattle.local_store.specs.Store.{State, IsOfSuperblock, IsStored, committed, geometry_of, meaning_after, meaning_in, with_home}
use Rattle.local_store.proofs.Joined.{joined_torn, run_home}
use Rattle.local_store.proofs.Homes.{as_it_is, block_home, block_torn, length-home, more_batches, one_batch}

-- a settled home's superblock is held by bytes with such a first part
pub held_by : {h : home.State} {gives : List ℕ} {left : List ℕ → Type 0} (was : IsSettledHome h gives left) (c : List ℕ) → inside superblock_part c ≡ inside superblock_part gives → HoldsSuperblock h.superblock c
held_by {h} {gives} {left} was c same = record {
  is = was.is;
  payload = record {
    slots = was.slots;
    holds = subst (HoldsPair was.slots) (ap (λ (part : Part). inside part gives) was.place ∙ sym same) was.pair.holds;
    number = h.pair.number;
    is_newest = was.is_newest;
  };
  migrates = was.migrates;
}

pub first_part : {h : home.State} {gives : List ℕ} {left : List ℕ → Type 0} → IsSettledHome h gives left → Only (inside superblock_part gives) (LeftInside superblock_part left)
first_part {h} {gives} {left} was = subst (λ (part : Part). Only (inside part gives) (LeftInside part left)) was.place was.pair.durable

-- the parts lie apart, either way round
pub home_from_superblock : (g : Geometry) → IsApart (home_part g) superblock_part
home_from_superblock g = apart_back superblock_part (home_part g) (home_apart g)

pub home_from_area : {store : State} → IsOfSuperblock store → IsApart (home_part (geometry_of store)) store.journal.part
home_from_area {store} of = area_behind_home (geometry_of store) store.home.superblock.current store.journal.part of.part

pub superblock_from_area : {store : State} → IsOfSuperblock store → IsApart superblock_part store.journal.part
superblock_from_area {store} of = area_behind_superblock (geometry_of store) store.home.superblock.current store.journal.part of.part

area_from_home : {store : State} → IsOfSuperblock store → IsApart store.journal.part (home_part (geometry_of store))
area_from_home {store} of = apart_back (home_part (geometry_of store)) store.journal.part (home_from_area of)

area_from_superblock : {store : State} → IsOfSuperblock store → IsApart store.journal.part superblock_part
area_from_superblock {store} of = apart_back superblock_part store.journal.part (superblock_from_area of)

-- a home region that is kept stays what it is
pub region_still : {n : ℕ} {v : List ℕ} {batches : List Batch} {pending : List (Option (List ℕ))} {old new : List ℕ} {left_old left_new : List ℕ → Type 0} → new ≡ old → NothingNew left_old left_new
    → IsHome n v batches pending old left_old → IsHome n v batches pending new left_new
region_still {n} {v} {batches} {pending} {old} {new} {left_old} {left_new} same nothing was = record {
  waits = subst (AreHomeOrPending n (λ b. is_covered b batches ≡ true) v pending) (sym same) was.waits;
  fit = was.fit;
  long = λ x may. was.long x (nothing x may);
  left = λ x may. was.left x (nothing x may);
}

-- the images of batches fit into the volume
pub all_fit : (blocks before : ℕ) (batches : List Batch) → AreBatches blocks before batches → AllFitIn blocks batches
all_fit blocks before [] are = All-nil _
all_fit blocks before (batch ∷ batches) (is, are) = All-cons (λ (b : Batch). All (FitsIn blocks) b.images) batch batches (λ k d lt. (is.images.within k d lt, (is.whole k d lt).size)) (all_fit blocks batch.front batches are)

pub last_front-push : (before : ℕ) (batches : List Batch) (batch : Batch) → last_front before (batches ++ batch ∷ []) ≡ batch.front
last_front-push before [] batch = refl
last_front-push before (first ∷ batches) batch = last_front-push first.front batches batch

pub last_fits : (n : ℕ) (batches : List Batch) (batch : Batch) → AllFitIn n (batches ++ batch ∷ []) → All (FitsIn n) batch.images
last_fits n [] batch fit = All-head (λ (b : Batch). All (FitsIn n) b.images) batch [] fit
last_fits n (first ∷ batches) batch fit = last_fits n batches batch (All-tail (λ (b : Batch). All (FitsIn n) b.images) first (batches ++ batch ∷ []) fit)

-- before any call
pub at_rest : {D : Type 0} {moment : D → ℕ} {left_since : D → ℕ → List ℕ → Type 0} {store : State} {v gives : List ℕ} {left : List ℕ → Type 0} (disk : D) → IsOfSuperblock store → IsStored store v gives left
    → ((c : List ℕ) → left_since disk (moment disk) c → left c) → LeavesOnly moment left_since disk disk (Means (meaning_in store v))
at_rest {D} {moment} {left_since} {store} {v} disk of was only_now = started moment left_since disk (Means (meaning_in store v)) (λ c left. stored_means of was c (only_now c left))

pub at_rest_before : {D : Type 0} {moment : D → ℕ} {left_since : D → ℕ → List ℕ → Type 0} {store : State} {v gives : List ℕ} {left : List ℕ → Type 0} (Q : List ℕ → Type 0) (disk : D) → IsOfSuperblock store → IsStored store v gives left
    → ((c : List ℕ) → left_since disk (moment disk) c → left c) → LeavesOnly moment left_since disk disk (λ c. Means (meaning_in store v) c ⊎ Q c)
at_rest_before {D} {moment} {left_since} {store} {v} Q disk of was only_now =
    weaker moment left_since disk disk (Means (meaning_in store v)) (λ c. Means (meaning_in store v) c ⊎ Q c) (λ c means. inl means) (at_rest disk of was only_now)

-- at any moment between, the superblock's part, the current area and the home region are as is said of each
pub at_any_moment : {D : Type 0} {moment : D → ℕ} {left_since : D → ℕ → List ℕ → Type 0} {old new : D} (S A H Q : List ℕ → Type 0) → LeavesOnly moment left_since old new S → LeavesOnly moment left_since old new A → LeavesOnly moment left_since old new H
    → ((c : List ℕ) → S c → A c → H c → Q c) → LeavesOnly moment left_since old new Q
at_any_moment {D} {moment} {left_since} {old} {new} S A H Q s a h come =
    weaker moment left_since old new (λ c. (S c × A c) × H c) Q (λ c (first, region). come c first.0 first.1 region) (both (both s a) h)

-- what an append leaves of a store's disk, and what the store keeps then
module _ {D : Type 0} {gives : D → List ℕ} {may_leave : D → List ℕ → Type 0} {moment : D → ℕ} {left_since : D → ℕ → List ℕ → Type 0} {old new : D} {store : State} {v : List ℕ} (of : IsOfSuperblock store)
    (was : IsStored store v (gives old) (may_leave old)) where
  -- the superblock, the current area and the home region, while a call writes elsewhere
  pub superblock_stays : {part : Part} → IsApart part superblock_part → TouchesOnly gives may_leave moment left_since part old new → LeavesOnly moment left_since old new (HoldsSuperblock store.home.superblock)
  superblock_stays {part} apart run =
      weaker moment left_since old new (λ c. inside superblock_part c ≡ inside superblock_part (gives old)) (HoldsSuperblock store.home.superblock) (held_by was.superblock)
      (others_keep superblock_part (λ x. x ≡ inside superblock_part (gives old)) apart run (first_part was.superblock))

  pub area_stays : {part : Part} → IsApart part store.journal.part → TouchesOnly gives may_leave moment left_since part old new
      → LeavesOnly moment left_since old new (λ c. HoldsBatches store.journal.blocks store.journal.before was.batches (inside store.journal.part c))
  area_stays {part} apart run =
      others_keep store.journal.part (HoldsBatches store.journal.blocks store.journal.before was.batches) apart run
      (λ x may. subst (HoldsBatches store.journal.blocks store.journal.before was.batches) (sym (was.area.durable x may)) was.area.holds)

  pub region_stays : {part : Part} → IsApart part (home_part (geometry_of store)) → TouchesOnly gives may_leave moment left_since part old new
      → LeavesOnly moment left_since old new (λ c. with_batches (inside (home_part (geometry_of store)) c) was.batches ≡ v)
  region_stays {part} apart run = others_keep (home_part (geometry_of store)) (λ x. with_batches x was.batches ≡ v) apart run was.region.left

  -- a commit, at any moment
  pub commit_leaves : (batch : Batch) → TouchesOnly gives may_leave moment left_since store.journal.part old new
      → LeavesOnly moment left_since old new (λ c. HoldsOldOrNew store.journal.blocks store.journal.before was.batches batch (inside store.journal.part c))
      → LeavesOnly moment left_since old new (λ c. Means (meaning_in store v) c ⊎ Means (meaning_after store v batch.front batch.images) c)
  commit_leaves batch run area =
      at_any_moment (HoldsSuperblock store.home.superblock) (λ c. HoldsOldOrNew store.journal.blocks store.journal.before was.batches batch (inside store.journal.part c))
      (λ c. with_batches (inside (home_part (geometry_of store)) c) was.batches ≡ v) (λ c. Means (meaning_in store v) c ⊎ Means (meaning_after store v batch.front batch.images) c)
      (superblock_stays (area_from_superblock of) run) area (region_stays (area_from_home of) run)
      (λ c holds batches region. ⊎_elim (λ is. inl (old_meaning store v was.batches of was.is_whole was.area.front c holds is region)) (λ is. inr (new_meaning c holds is region)) batches)
    where
      new_meaning : (c : List ℕ) → HoldsSuperblock store.home.superblock c → HoldsBatches store.journal.blocks store.journal.before (was.batches ++ batch ∷ []) (inside store.journal.part c)
          → with_batches (inside (home_part (geometry_of store)) c) was.batches ≡ v → Means (meaning_after store v batch.front batch.images) c
      new_meaning c holds area region =
          subst (λ (n : ℕ). Means (record { slot = store.home.superblock.slot; incarnation = store.home.superblock.incarnation; geometry = geometry_of store; front = n; volume = with_images v batch.images }) c)
          (last_front-push store.home.superblock.front was.batches batch)
          (parts_mean store (with_images v batch.images) (was.batches ++ batch ∷ []) c of was.is_whole holds area
          (with_batches-push (inside (home_part (geometry_of store)) c) was.batches batch ∙ ap (λ (w : List ℕ). with_images w batch.images) region))

  -- and after it
  pub commit_keeps : (front : ℕ) (images : List Image) → TouchesOnly gives may_leave moment left_since store.journal.part old new
      → IsSettled (appended store.journal front images) (was.batches ++ record { front = front; images = images } ∷ []) (gives new) (may_leave new)
      → IsStored (committed store front images) (with_images v images) (gives new) (may_leave new)
  commit_keeps front images run area =
      let batch : Batch = record { front = front; images = images } in
      let region = run.others (home_part (geometry_of store)) (area_from_home of) in
      let fit = all_fit store.journal.blocks store.journal.before (was.batches ++ batch ∷ []) area.holds.are in
      record {
        stands = record { part = of.part; slot = of.slot; blocks = of.blocks; before = of.before };
        superblock = still_settled_home (run.others superblock_part (area_from_superblock of)) was.superblock;
        is_whole = was.is_whole;
        batches = was.batches ++ batch ∷ [];
        area = area;
        cached = subst (Agrees store.cache) (sym region.gives) was.cached;
        region = one_batch batch (last_fits (geometry_of store).blocks was.batches batch (subst (λ (n : ℕ). AllFitIn n (was.batches ++ batch ∷ [])) of.blocks fit)) (region_still region.gives region.leaves was.region);
        runs = was.runs;
      }

  -- a block written home, at any moment and after it
  module _ (b : ℕ) (bytes : List ℕ) (full : held store.pending b ≡ Some bytes) (run : TouchesOnly gives may_leave moment left_since (home_part (geometry_of store)) old new)
      (follows : Follows (Torn (4096 * b) 4096) (LeftInside (home_part (geometry_of store)) (may_leave old)) (LeftInside (home_part (geometry_of store)) (may_leave new))) where
    pub tick_leaves : ((c : List ℕ) → left_since old (moment old) c → may_leave old c) → Elapses (moment old) (moment new) (left_since old) (left_since new) (may_leave new)
        → LeavesOnly moment left_since old new (Means (meaning_in store v))
    tick_leaves only_now time =
        at_any_moment (HoldsSuperblock store.home.superblock) (λ c. HoldsBatches store.journal.blocks store.journal.before was.batches (inside store.journal.part c))
        (λ c. with_batches (inside (home_part (geometry_of store)) c) was.batches ≡ v) (Means (meaning_in store v))
        (superblock_stays (home_from_superblock (geometry_of store)) run) (area_stays (home_from_area of) run)
        (write_goes_on (home_part (geometry_of store)) (λ x. with_batches x was.batches ≡ v) new (may_leave old) (4096 * b) 4096
        (started_inside (home_part (geometry_of store)) (λ x. with_batches x was.batches ≡ v) old (may_leave old) only_now was.region.left) time follows
        (λ x y may torn. block_torn b bytes x y full may torn was.region))
        (old_meaning store v was.batches of was.is_whole was.area.front)

    pub tick_keeps : (cache : Blocks) → Agrees cache (inside (home_part (geometry_of store)) (gives new)) → b < (geometry_of store).blocks → Holds (inside (home_part (geometry_of store)) (gives old)) (4096 * b) bytes (inside (home_part (geometry_of store)) (gives new))
        → IsStored (with_home store b cache) v (gives new) (may_leave new)
    tick_keeps cache agrees below holds = record {
      stands = record { part = of.part; slot = of.slot; blocks = of.blocks; before = of.before };
      cached = agrees;
      superblock = still_settled_home (run.others superblock_part (home_from_superblock (geometry_of store))) was.superblock;
      is_whole = was.is_whole;
      batches = was.batches;
      area = still_settled (run.others store.journal.part (home_from_area of)) was.area;
      region = block_home b bytes (inside (home_part (geometry_of store)) (gives new)) (LeftInside (home_part (geometry_of store)) (may_leave new)) below (is_whole below) full holds follows was.region;
      runs = was.runs;
    }
      where
        is_whole : b < (geometry_of store).blocks → length bytes ≡ 4096
        is_whole below = ap length (was.region.waits.image b bytes full) ∙ length-block_of v b (omega (arith, below, was.region.waits.size))

  -- a run of blocks written home, at any moment and after it
  module _ (first count : ℕ) (bytes : List ℕ) (joined : AreJoined store.pending first count bytes) (run : TouchesOnly gives may_leave moment left_since (home_part (geometry_of store)) old new)
      (follows : Follows (Torn (4096 * first) (4096 * count)) (LeftInside (home_part (geometry_of store)) (may_leave old)) (LeftInside (home_part (geometry_of store)) (may_leave new))) where
    pub run_leaves : ((c : List ℕ) → left_since old (moment old) c → may_leave old c) → Elapses (moment old) (moment new) (left_since old) (left_since new) (may_leave new)
        → LeavesOnly moment left_since old new (Means (meaning_in store v))
    run_leaves only_now time =
        at_any_moment (HoldsSuperblock store.home.superblock) (λ c. HoldsBatches store.journal.blocks store.journal.before was.batches (inside store.journal.part c))
        (λ c. with_batches (inside (home_part (geometry_of store)) c) was.batches ≡ v) (Means (meaning_in store v))
        (superblock_stays (home_from_superblock (geometry_of store)) run) (area_stays (home_from_area of) run)
        (write_goes_on (home_part (geometry_of store)) (λ x. with_batches x was.batches ≡ v) new (may_leave old) (4096 * first) (4096 * count)
        (started_inside (home_part (geometry_of store)) (λ x. with_batches x was.batches ≡ v) old (may_leave old) only_now was.region.left) time follows
        (λ x y may torn. joined_torn first count bytes joined was.region x y may torn))
        (old_meaning store v was.batches of was.is_whole was.area.front)

    pub run_keeps : (pending : List (Option (List ℕ))) (cache : Blocks) → AreCleared first count store.pending pending → Agrees cache (inside (home_part (geometry_of store)) (gives new)) → first + count ≤ (geometry_of store).blocks
        → Holds (inside (home_part (geometry_of store)) (gives old)) (4096 * first) bytes (inside (home_part (geometry_of store)) (gives new))
        → IsStored (record store { pending = pending; cache = cache }) v (gives new) (may_leave new)
    run_keeps pending cache cleared agrees within holds = record {
      stands = record { part = of.part; slot = of.slot; blocks = of.blocks; before = of.before };
      cached = agrees;
      superblock = still_settled_home (run.others superblock_part (home_from_superblock (geometry_of store))) was.superblock;
      is_whole = was.is_whole;
      batches = was.batches;
      area = still_settled (run.others store.journal.part (home_from_area of)) was.area;
      region = run_home first count bytes joined was.region pending (inside (home_part (geometry_of store)) (gives new)) (LeftInside (home_part (geometry_of store)) (may_leave new)) within cleared holds follows;
      runs = was.runs;
    }

  -- calls that keep the home region as it is, until the superblock changes
  pub reads_keep_store : OnlyReads gives may_leave moment left_since old new → IsStored store v (gives new) (may_leave new)
  reads_keep_store run =
      let region = reads_keep (home_part (geometry_of store)) old new run in
      record {
        stands = of;
        superblock = still_settled_home (reads_keep superblock_part old new run) was.superblock;
        is_whole = was.is_whole;
        batches = was.batches;
        area = still_settled (reads_keep store.journal.part old new run) was.area;
        region = region_still region.gives region.leaves was.region;
        cached = subst (Agrees store.cache) (sym region.gives) was.cached;
        runs = was.runs;
      }

  pub reads_leave : OnlyReads gives may_leave moment left_since old new → LeavesOnly moment left_since old new (Means (meaning_in store v))
  reads_leave run = weaker moment left_since old new (may_leave old) (Means (meaning_in store v)) (stored_means of was) run.moments

-- another cache that agrees
pub with_cache : {store : State} {v gives : List ℕ} {left : List ℕ → Type 0} (cache : Blocks) → Agrees cache (inside (home_part (geometry_of store)) gives) → IsStored store v gives left → IsStored (record store { cache = cache }) v gives left
with_cache {store} {v} {gives} {left} cache agrees was = record {
  stands = record { part = was.stands.part; slot = was.stands.slot; blocks = was.stands.blocks; before = was.stands.before };
  superblock = was.superblock;
  is_whole = was.is_whole;
  batches = was.batches;
  area = was.area;
  region = was.region;
  cached = agrees;
  runs = was.runs;
}

-- a disk that was opened: the home region as it is, the batches over it, and all of them pending
pub opened : (h : home.State) (j : journal.State) (pending : List (Option (List ℕ))) (cache : Blocks) → cache ≡ [] → (g : Geometry) (batches : List Batch) → IsOfSuperblock (record { home = h; journal = j; pending = pending; cache = cache; broken = false }) → {gives : List ℕ} {left : List ℕ → Type 0} → h.superblock.geometry ≡ g → h.superblock.progress ≡ Whole
    → IsSettledHome h gives left → IsSettled j batches gives left → pending ≡ with_all_pending (replicate g.blocks None) batches → AllFitIn g.blocks batches → disk_size_of g ≤ length gives → Only gives left
    → IsStored (record { home = h; journal = j; pending = pending; cache = cache; broken = false }) (with_batches (inside (home_part g) gives) batches) gives left
opened h j pending cache none g batches of {gives} {left} geometry whole settled area is fit room only =
    let base = as_it_is (length-home g gives room) (only_inside (home_part g) gives left only) in
    let region : IsHome g.blocks (with_batches (inside (home_part g) gives) batches) batches (with_all_pending (replicate g.blocks None) batches) (inside (home_part g) gives) (LeftInside (home_part g) left)
    = more_batches g.blocks (inside (home_part g) gives) (LeftInside (home_part g) left) batches (inside (home_part g) gives) [] (replicate g.blocks None) fit base in
    record {
      stands = of;
      superblock = settled;
      is_whole = whole;
      batches = batches;
      area = area;
      cached = subst (λ (k : Blocks). Agrees k (inside (home_part h.superblock.geometry) gives)) (sym none) (agrees_empty (inside (home_part h.superblock.geometry) gives));
      region = subst (λ (k : Geometry). IsHome k.blocks (with_batches (inside (home_part g) gives) batches) batches pending (inside (home_part k) gives) (LeftInside (home_part k) left)) (sym geometry)
          (subst (λ (p : List (Option (List ℕ))). IsHome g.blocks (with_batches (inside (home_part g) gives) batches) batches p (inside (home_part g) gives) (LeftInside (home_part g) left)) (sym is) region);
      runs = refl;
    }
