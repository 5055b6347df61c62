-- How a store changes to its other area.
use Rattle.std.proofs.Common.{◌≡◌, ℕ, true, false, List, [], refl, sym, ◌∙◌, ap, subst, ◌⊎◌, ⊎_elim}
use Rattle.block_cache.specs.Cache.{Agrees}
use Rattle.disk_model.specs.Disk.{LeavesOnly, Only}
use Rattle.disk_model.specs.Moments.{then_run}
use Rattle.gate_journal.specs.Runs.{OnlyReads}
use Rattle.disk_model.specs.Frames.{both, only_inside, others_keep}
use Rattle.disk_model.specs.Part.{inside, IsApart, LeftInside, TouchesOnly}
use Rattle.disk_model.specs.declared.part.Part.{Part}
use Rattle.gate_journal.specs.Batch.{HoldsBatches}
use Rattle.gate_journal.specs.Journal.{IsSettled, still_settled}
use Rattle.gate_journal.specs.Journal as journal
use Rattle.home_blocks.specs.Area.{other_area}
use Rattle.home_blocks.specs.declared.area.Area.{Area}
use Rattle.home_blocks.specs.declared.area.Area.TheVariants.{First, Second}
use Rattle.home_blocks.specs.Home.{HoldsSuperblock, IsSettledHome, still_settled_home}
use Rattle.home_blocks.specs.Home as home
use Rattle.home_blocks.specs.Places.{IsAreaPart, apart_back, area_behind_superblock, home_apart, home_part, superblock_part}
use Rattle.home_blocks.specs.Superblock.{Superblock, marked}
use Rattle.local_store.specs.Meaning.{Means}
use Rattle.local_store.specs.Overlay.{with_batches, is_covered}
use Rattle.local_store.specs.Pending.{IsHome, AreHomeOrPending}
use Rattle.local_store.specs.Store.{IsAllHome, IsFreshJournal, IsOfSuperblock, IsStored, State, geometry_of, meaning_in}
use Rattle.volume.specs.declared.geometry.Geometry.{Geometry}
use Rattle.local_store.proofs.Homes.{all_home, needs_none}
use Rattle.local_store.specs.Kept.{old_meaning}
use Rattle.local_store.proofs.Stored.{at_any_moment, area_stays, reads_keep_store, reads_leave, region_stays, region_still, superblock_from_area, superblock_stays}

other_other : (area : Area) → other_area (other_area area) ≡ area
other_other First = refl
other_other Second = refl

-- what is apart from each part of the area that isn't the other one is apart from the journal
apart_from_journal : (store : State) (part : Part) → IsOfSuperblock store → ((current : Part) → IsAreaPart (geometry_of store) (other_area (other_area store.home.superblock.current)) current → IsApart current part)
    → IsApart part store.journal.part
apart_from_journal store part of apart =
    apart_back store.journal.part part (apart store.journal.part (subst (λ (area : Area). IsAreaPart (geometry_of store) area store.journal.part) (sym (other_other store.home.superblock.current)) of.part))

-- the part is that of the other area, and lies apart
pub record IsOtherPart (h : home.State) (part : Part) : Type 0 where
  pub is : IsAreaPart h.superblock.geometry (other_area h.superblock.current) part
  pub superblock : IsApart part superblock_part
  pub region : IsApart part (home_part h.superblock.geometry)
  pub current : (one : Part) → IsAreaPart h.superblock.geometry (other_area (other_area h.superblock.current)) one → IsApart one part

pub other_part : {h : home.State} {sb : Superblock} {g : Geometry} {current area : Area} {part : Part} → sb ≡ h.superblock → g ≡ sb.geometry → current ≡ sb.current → area ≡ other_area current → IsAreaPart g area part
    → IsApart superblock_part part → IsApart (home_part g) part → ((one : Part) → IsAreaPart g (other_area area) one → IsApart one part) → IsOtherPart h part
other_part {h} {sb} {g} {current} {area} {part} is_sb is_g is_current is_area is superblock region apart =
    let geometry : g ≡ h.superblock.geometry = is_g ∙ ap (λ (s : Superblock). s.geometry) is_sb in
    let other : area ≡ other_area h.superblock.current = is_area ∙ ap other_area (is_current ∙ ap (λ (s : Superblock). s.current) is_sb) in
    record {
      is = subst (λ (a : Area). IsAreaPart h.superblock.geometry a part) other (subst (λ (k : Geometry). IsAreaPart k area part) geometry is);
      superblock = apart_back superblock_part part superblock;
      region = apart_back (home_part h.superblock.geometry) part (subst (λ (k : Geometry). IsApart (home_part k) part) geometry region);
      current = subst (λ (a : Area). (one : Part) → IsAreaPart h.superblock.geometry (other_area a) one → IsApart one part) other
          (subst (λ (k : Geometry). (one : Part) → IsAreaPart k (other_area area) one → IsApart one part) geometry apart);
    }

-- the superblock that is stored then
pub next_is : {sb is : Superblock} {current area : Area} {front last : ℕ} → sb ≡ is → current ≡ sb.current → area ≡ other_area current → last ≡ front → marked is front area ≡ marked is last (other_area is.current)
next_is {sb} {is} {current} {area} {front} {last} is_sb is_current is_area is_front =
    ap (λ (a : Area). marked is front a) (is_area ∙ ap other_area (is_current ∙ ap (λ (s : Superblock). s.current) is_sb)) ∙ ap (λ (n : ℕ). marked is n (other_area is.current)) (sym is_front)

-- the store with that journal, and the superblock that says so
abbrev pub changed : State → home.State → journal.State → State
changed store h fresh = record store { home = h; journal = fresh }

module _ {D : Type 0} {gives : D → List ℕ} {may_leave : D → List ℕ → Type 0} {moment : D → ℕ} {left_since : D → ℕ → List ℕ → Type 0} {old new : D} {store : State} {v : List ℕ} (of : IsOfSuperblock store)
    (was : IsStored store v (gives old) (may_leave old)) where
  -- the other area's gate is closed: the store is as it was
  closing_keeps : {part : Part} → IsOtherPart store.home part → TouchesOnly gives may_leave moment left_since part old new → IsStored store v (gives new) (may_leave new)
  closing_keeps {part} other run =
      let kept = run.others (home_part (geometry_of store)) other.region in
      record {
        stands = of;
        superblock = still_settled_home (run.others superblock_part other.superblock) was.superblock;
        is_whole = was.is_whole;
        batches = was.batches;
        area = still_settled (run.others store.journal.part (apart_from_journal store part of other.current)) was.area;
        region = region_still kept.gives kept.leaves was.region;
        cached = subst (Agrees store.cache) (sym kept.gives) was.cached;
        runs = was.runs;
      }

  closing_leaves : {part : Part} → IsOtherPart store.home part → TouchesOnly gives may_leave moment left_since part old new → LeavesOnly moment left_since old new (Means (meaning_in store v))
  closing_leaves {part} other run =
      at_any_moment (HoldsSuperblock store.home.superblock) (λ c. HoldsBatches store.journal.blocks store.journal.before was.batches (inside store.journal.part c))
      (λ c. with_batches (inside (home_part (geometry_of store)) c) was.batches ≡ v) (Means (meaning_in store v))
      (superblock_stays of was other.superblock run) (area_stays of was (apart_from_journal store part of other.current) run) (region_stays of was other.region run)
      (old_meaning store v was.batches of was.is_whole was.area.front)

  -- the superblock changes: the old one and the new one mean the same
  module _ (empty : IsAllHome store) (whole : Only (gives old) (may_leave old)) (fresh : journal.State) (is_fresh : IsFreshJournal store.home.superblock store.journal.front fresh) (ready : IsSettled fresh [] (gives old) (may_leave old))
      (run : TouchesOnly gives may_leave moment left_since superblock_part old new) where
    region_is : (x : List ℕ) → LeftInside (home_part (geometry_of store)) (may_leave old) x → x ≡ v
    region_is x may = only_inside (home_part (geometry_of store)) (gives old) (may_leave old) whole x may ∙ all_home was.region.waits (λ b below. empty b)

    of_fresh : (h : home.State) → h.superblock ≡ marked store.home.superblock store.journal.front (other_area store.home.superblock.current) → IsOfSuperblock (changed store h fresh)
    of_fresh h is = record {
      part = subst (λ (sb : Superblock). IsAreaPart sb.geometry sb.current fresh.part) (sym is) is_fresh.part;
      slot = is_fresh.slot ∙ sym (ap (λ (sb : Superblock). sb.slot) is);
      blocks = is_fresh.blocks ∙ sym (ap (λ (sb : Superblock). sb.geometry.blocks) is);
      before = is_fresh.before ∙ sym (ap (λ (sb : Superblock). sb.front) is);
    }

    fresh_apart : IsApart superblock_part fresh.part
    fresh_apart = area_behind_superblock (geometry_of store) (other_area store.home.superblock.current) fresh.part is_fresh.part

    pub mark_leaves : {next : Superblock} → next ≡ marked store.home.superblock store.journal.front (other_area store.home.superblock.current)
        → LeavesOnly moment left_since old new (λ c. HoldsSuperblock store.home.superblock c ⊎ HoldsSuperblock next c) → LeavesOnly moment left_since old new (Means (meaning_in store v))
    mark_leaves {next} is superblock =
        at_any_moment (λ c. HoldsSuperblock store.home.superblock c ⊎ HoldsSuperblock next c)
        (λ c. HoldsBatches store.journal.blocks store.journal.before was.batches (inside store.journal.part c) × HoldsBatches fresh.blocks fresh.before [] (inside fresh.part c))
        (λ c. (with_batches (inside (home_part (geometry_of store)) c) was.batches ≡ v) × (inside (home_part (geometry_of store)) c ≡ v)) (Means (meaning_in store v))
        superblock
        (both (area_stays of was (superblock_from_area of) run)
        (others_keep fresh.part (HoldsBatches fresh.blocks fresh.before []) fresh_apart run (λ x may. subst (HoldsBatches fresh.blocks fresh.before []) (sym (ready.durable x may)) ready.holds)))
        (others_keep (home_part (geometry_of store)) (λ x. (with_batches x was.batches ≡ v) × (x ≡ v)) (home_apart (geometry_of store)) run (λ x may. (was.region.left x may, region_is x may)))
        (λ c holds areas region. ⊎_elim (λ is. old_meaning store v was.batches of was.is_whole was.area.front c is areas.0 region.0) (λ held. new_meaning c (subst (λ (sb : Superblock). HoldsSuperblock sb c) is held) areas.1 region.1) holds)
      where
        home_then : home.State
        home_then = record { pair = store.home.pair; superblock = marked store.home.superblock store.journal.front (other_area store.home.superblock.current) }

        new_meaning : (c : List ℕ) → HoldsSuperblock home_then.superblock c → HoldsBatches fresh.blocks fresh.before [] (inside fresh.part c) → inside (home_part (geometry_of store)) c ≡ v → Means (meaning_in store v) c
        new_meaning c holds area region =
            subst (λ (n : ℕ). Means (record { slot = store.home.superblock.slot; incarnation = store.home.superblock.incarnation; geometry = geometry_of store; front = n; volume = v }) c) is_fresh.front
            (old_meaning (changed store home_then fresh) v [] (of_fresh home_then refl) refl (is_fresh.front ∙ sym is_fresh.before) c holds area region)

    pub mark_keeps : (h : home.State) → h.superblock ≡ marked store.home.superblock store.journal.front (other_area store.home.superblock.current) → IsSettledHome h (gives new) (may_leave new)
        → Only (gives new) (may_leave new) → IsStored (changed store h fresh) v (gives new) (may_leave new)
    mark_keeps h is settled still =
        let kept = run.others (home_part (geometry_of store)) (home_apart (geometry_of store)) in
        let only = only_inside (home_part (geometry_of store)) (gives new) (may_leave new) still in
        let waits = subst (AreHomeOrPending (geometry_of store).blocks (λ b. is_covered b was.batches ≡ true) v store.pending) (sym kept.gives) was.region.waits in
        record {
          stands = of_fresh h is;
          superblock = settled;
          is_whole = ap (λ (sb : Superblock). sb.progress) is;
          batches = [];
          area = still_settled (run.others fresh.part fresh_apart) ready;
          region = subst (λ (sb : Superblock). IsHome sb.geometry.blocks v [] store.pending (inside (home_part sb.geometry) (gives new)) (LeftInside (home_part sb.geometry) (may_leave new))) (sym is)
              (needs_none waits (λ b below. empty b) only);
          cached = subst (λ (sb : Superblock). Agrees store.cache (inside (home_part sb.geometry) (gives new))) (sym is) (subst (Agrees store.cache) (sym kept.gives) was.cached);
          runs = was.runs;
        }

-- the disk is synced, and then the other area emptied: the store is as it was
module _ {D : Type 0} {gives : D → List ℕ} {may_leave : D → List ℕ → Type 0} {moment : D → ℕ} {left_since : D → ℕ → List ℕ → Type 0} {old synced new : D} {store : State} {v : List ℕ} {part : Part} (of : IsOfSuperblock store)
    (was : IsStored store v (gives old) (may_leave old)) (other : IsOtherPart store.home part) (reads : OnlyReads gives may_leave moment left_since old synced) (run : TouchesOnly gives may_leave moment left_since part synced new) where
  pub emptied_keeps : IsStored store v (gives new) (may_leave new)
  emptied_keeps = closing_keeps of (reads_keep_store of was reads) other run

  pub emptied_leaves : LeavesOnly moment left_since old new (Means (meaning_in store v))
  emptied_leaves = then_run moment left_since old synced new _ (reads_leave of was reads) (closing_leaves of (reads_keep_store of was reads) other run)

-- the journal that was created in that part
pub fresh_journal : {h : home.State} {sb : Superblock} {g : Geometry} {slot front last : ℕ} {part : Part} {fresh : journal.State} → sb ≡ h.superblock → g ≡ sb.geometry → slot ≡ sb.slot → last ≡ front
    → fresh ≡ record { part = part; slot = slot; blocks = g.blocks; before = front; front = front; end = 0; broken = false } → IsOtherPart h part → IsFreshJournal h.superblock last fresh
fresh_journal {h} {sb} {g} {slot} {front} {last} is_sb is_g is_slot is_front is other =
    subst (IsFreshJournal h.superblock last) (sym is) (record {
      part = other.is;
      slot = is_slot ∙ ap (λ (s : Superblock). s.slot) is_sb;
      blocks = ap (λ (k : Geometry). k.blocks) (is_g ∙ ap (λ (s : Superblock). s.geometry) is_sb);
      before = sym is_front;
      front = sym is_front;
      end = refl;
      runs = refl;
    })
