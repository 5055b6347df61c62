-- What calls keep of a store's home half, and leave of it.
use Rattle.std.proofs.Common.{◌≡◌, ℕ, ◌+◌, ◌*◌, ◌<◌, ◌≤◌, List, length, sym, ◌∙◌, ap, subst, arith}
use Rattle.std.specs.Prelude.{Option, Some}
use Rattle.block_cache.specs.Cache.{Agrees, Blocks}
use Rattle.disk_model.specs.Disk.{Elapses, Follows, Holds, LeavesOnly, Torn}
use Rattle.disk_model.specs.Frames.{both, others_keep, started_inside, write_goes_on}
use Rattle.disk_model.specs.Moments.{started, weaker}
use Rattle.disk_model.specs.Part.{inside, LeftInside, TouchesOnly}
use Rattle.gate_journal.specs.Batch.{Batch}
use Rattle.gate_journal.specs.Runs.{OnlyReads, reads_keep}
use Rattle.home_blocks.specs.Home.{HoldsSuperblock, still_settled_home}
use Rattle.home_blocks.specs.Places.{home_part, superblock_part}
use Rattle.local_store.specs.Lending.{HoldsHome, IsHomeKept}
use Rattle.local_store.specs.KeptAway.{home_leaves}
use Rattle.local_store.specs.Overlay.{with_batches}
use Rattle.local_store.specs.Pending.{AreCleared, AreJoined, held}
use Rattle.local_store.specs.Store.{State, geometry_of, with_home}
use Rattle.local_store.proofs.Homes.{block_home, block_torn}
use Rattle.local_store.proofs.Joined.{joined_torn, run_home}
use Rattle.local_store.proofs.Stored.{first_part, held_by, home_from_superblock, region_still}
use Rattle.volume.specs.Volumes.{length-block_of}

-- another cache that agrees with the home region
pub home_with_cache : {store : State} {v : List ℕ} {batches : List Batch} {gives : List ℕ} {left : List ℕ → Type 0} (cache : Blocks) → Agrees cache (inside (home_part (geometry_of store)) gives) → IsHomeKept store v batches gives left
    → IsHomeKept (record store { cache = cache }) v batches gives left
home_with_cache cache agrees was = record {
  stands = record { part = was.stands.part; slot = was.stands.slot; blocks = was.stands.blocks; before = was.stands.before };
  superblock = was.superblock;
  is_whole = was.is_whole;
  region = was.region;
  cached = agrees;
  runs = was.runs;
}

-- before any call
pub home_at_rest : {D : Type 0} {moment : D → ℕ} {left_since : D → ℕ → List ℕ → Type 0} {store : State} {v : List ℕ} {batches : List Batch} {gives : List ℕ} {left : List ℕ → Type 0} (disk : D) → IsHomeKept store v batches gives left
    → ((c : List ℕ) → left_since disk (moment disk) c → left c) → LeavesOnly moment left_since disk disk (HoldsHome store v batches)
home_at_rest {D} {moment} {left_since} {store} {v} {batches} disk was only_now = started moment left_since disk (HoldsHome store v batches) (λ c left. home_leaves was c (only_now c left))

-- the superblock and the home region come together
home_holds : {D : Type 0} {moment : D → ℕ} {left_since : D → ℕ → List ℕ → Type 0} {old new : D} (store : State) (v : List ℕ) (batches : List Batch) → LeavesOnly moment left_since old new (HoldsSuperblock store.home.superblock)
    → LeavesOnly moment left_since old new (λ c. with_batches (inside (home_part (geometry_of store)) c) batches ≡ v) → LeavesOnly moment left_since old new (HoldsHome store v batches)
home_holds {moment = moment} {left_since} {old} {new} store v batches superblock region =
    weaker moment left_since old new (λ c. HoldsSuperblock store.home.superblock c × (with_batches (inside (home_part (geometry_of store)) c) batches ≡ v)) (HoldsHome store v batches)
    (λ c (holds, is). record { superblock = holds; region = is }) (both superblock region)

module _ {D : Type 0} {gives : D → List ℕ} {may_leave : D → List ℕ → Type 0} {moment : D → ℕ} {left_since : D → ℕ → List ℕ → Type 0} {old new : D} {store : State} {v : List ℕ} {batches : List Batch}
    (was : IsHomeKept store v batches (gives old) (may_leave old)) where
  -- the superblock stays while the home region is written
  held_still : TouchesOnly gives may_leave moment left_since (home_part (geometry_of store)) old new → LeavesOnly moment left_since old new (HoldsSuperblock store.home.superblock)
  held_still run =
      weaker moment left_since old new (λ c. inside superblock_part c ≡ inside superblock_part (gives old)) (HoldsSuperblock store.home.superblock) (held_by was.superblock)
      (others_keep superblock_part (λ x. x ≡ inside superblock_part (gives old)) (home_from_superblock (geometry_of store)) run (first_part was.superblock))

  -- a block written home, at any moment and after it
  module _ (b : ℕ) (bytes : List ℕ) (full : held store.pending b ≡ Some bytes) (run : TouchesOnly gives may_leave moment left_since (home_part (geometry_of store)) old new)
      (follows : Follows (Torn (4096 * b) 4096) (LeftInside (home_part (geometry_of store)) (may_leave old)) (LeftInside (home_part (geometry_of store)) (may_leave new))) where
    pub home_tick_leaves : ((c : List ℕ) → left_since old (moment old) c → may_leave old c) → Elapses (moment old) (moment new) (left_since old) (left_since new) (may_leave new)
        → LeavesOnly moment left_since old new (HoldsHome store v batches)
    home_tick_leaves only_now time =
        home_holds store v batches (held_still run)
        (write_goes_on (home_part (geometry_of store)) (λ x. with_batches x batches ≡ v) new (may_leave old) (4096 * b) 4096
        (started_inside (home_part (geometry_of store)) (λ x. with_batches x batches ≡ v) old (may_leave old) only_now was.region.left) time follows
        (λ x y may torn. block_torn b bytes x y full may torn was.region))

    pub home_tick_keeps : (cache : Blocks) → Agrees cache (inside (home_part (geometry_of store)) (gives new)) → b < (geometry_of store).blocks → Holds (inside (home_part (geometry_of store)) (gives old)) (4096 * b) bytes (inside (home_part (geometry_of store)) (gives new))
        → IsHomeKept (with_home store b cache) v batches (gives new) (may_leave new)
    home_tick_keeps cache agrees below holds = record {
      stands = record { part = was.stands.part; slot = was.stands.slot; blocks = was.stands.blocks; before = was.stands.before };
      superblock = still_settled_home (run.others superblock_part (home_from_superblock (geometry_of store))) was.superblock;
      is_whole = was.is_whole;
      region = block_home b bytes (inside (home_part (geometry_of store)) (gives new)) (LeftInside (home_part (geometry_of store)) (may_leave new)) below whole full holds follows was.region;
      cached = agrees;
      runs = was.runs;
    }
      where
        whole : length bytes ≡ 4096
        whole = ap length (was.region.waits.image b bytes full) ∙ length-block_of v b (omega (arith, below, was.region.waits.size))

  -- a run of blocks written home, at any moment and after it
  module _ (first count : ℕ) (bytes : List ℕ) (joined : AreJoined store.pending first count bytes) (run : TouchesOnly gives may_leave moment left_since (home_part (geometry_of store)) old new)
      (follows : Follows (Torn (4096 * first) (4096 * count)) (LeftInside (home_part (geometry_of store)) (may_leave old)) (LeftInside (home_part (geometry_of store)) (may_leave new))) where
    pub home_run_leaves : ((c : List ℕ) → left_since old (moment old) c → may_leave old c) → Elapses (moment old) (moment new) (left_since old) (left_since new) (may_leave new)
        → LeavesOnly moment left_since old new (HoldsHome store v batches)
    home_run_leaves only_now time =
        home_holds store v batches (held_still run)
        (write_goes_on (home_part (geometry_of store)) (λ x. with_batches x batches ≡ v) new (may_leave old) (4096 * first) (4096 * count)
        (started_inside (home_part (geometry_of store)) (λ x. with_batches x batches ≡ v) old (may_leave old) only_now was.region.left) time follows
        (λ x y may torn. joined_torn first count bytes joined was.region x y may torn))

    pub home_run_keeps : (pending : List (Option (List ℕ))) (cache : Blocks) → AreCleared first count store.pending pending → Agrees cache (inside (home_part (geometry_of store)) (gives new)) → first + count ≤ (geometry_of store).blocks
        → Holds (inside (home_part (geometry_of store)) (gives old)) (4096 * first) bytes (inside (home_part (geometry_of store)) (gives new))
        → IsHomeKept (record store { pending = pending; cache = cache }) v batches (gives new) (may_leave new)
    home_run_keeps pending cache cleared agrees within holds = record {
      stands = record { part = was.stands.part; slot = was.stands.slot; blocks = was.stands.blocks; before = was.stands.before };
      superblock = still_settled_home (run.others superblock_part (home_from_superblock (geometry_of store))) was.superblock;
      is_whole = was.is_whole;
      region = run_home first count bytes joined was.region pending (inside (home_part (geometry_of store)) (gives new)) (LeftInside (home_part (geometry_of store)) (may_leave new)) within cleared holds follows;
      cached = agrees;
      runs = was.runs;
    }

  -- calls that only read
  pub home_reads_keep : OnlyReads gives may_leave moment left_since old new → IsHomeKept store v batches (gives new) (may_leave new)
  home_reads_keep run =
      let region = reads_keep (home_part (geometry_of store)) old new run in
      record {
        stands = was.stands;
        superblock = still_settled_home (reads_keep superblock_part old new run) was.superblock;
        is_whole = was.is_whole;
        region = region_still region.gives region.leaves was.region;
        cached = subst (Agrees store.cache) (sym region.gives) was.cached;
        runs = was.runs;
      }

  pub home_reads_leave : OnlyReads gives may_leave moment left_since old new → LeavesOnly moment left_since old new (HoldsHome store v batches)
  home_reads_leave run = weaker moment left_since old new (may_leave old) (HoldsHome store v batches) (home_leaves was) run.moments
