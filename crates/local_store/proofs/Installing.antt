-- A disk that is being installed: what a stop may leave of it, and what it comes to.
use Rattle.std.proofs.Common.{◌≡◌, ◌⊎◌, inl, inr, ⊎_elim, ℕ, zero, suc, ◌*◌, ◌<◌, ◌≤◌, ◌==◌, false, true, List, [], ◌++◌, length, get_or, take, drop, replicate, set, refl, sym, ◌∙◌, ap, subst, arith}
use Rattle.std.specs.Prelude.{Bool, Option, Some, None, All, IsTrue}
use Rattle.std.proofs.lemmas.Bool.{cases_Bool, both_ways, eqb-true, eqb-false}
use Rattle.std.proofs.lemmas.List.{take_at, get_or-replicate, get_or-set_other}
use Rattle.disk_model.specs.Disk.{LeavesOnly, Only}
use Rattle.disk_model.specs.Frames.{both, only_inside, others_keep}
use Rattle.disk_model.specs.Moments.{started, then_run, weaker}
use Rattle.disk_model.specs.Part.{inside, IsApart, LeftInside, TouchesOnly}
use Rattle.disk_model.specs.declared.part.Part.{Part}
use Rattle.gate_journal.specs.Batch.{HoldsBatches}
use Rattle.gate_journal.specs.Journal as journal
use Rattle.gate_journal.specs.Journal.{IsSettled}
use Rattle.gate_journal.specs.Pair.{Entry, HoldsPair, HoldsSlot, IsBeingMade, IsCleared, Slots, Uncovers, entry_body, entry_encoding, entry_of, newer_slot, newest, slot_bytes}
use Rattle.gate_journal.specs.Runs.{OnlyReads, reads_keep}
use Rattle.gate_journal.specs.Image.{Image}
use Rattle.home_blocks.specs.Home as home
use Rattle.home_blocks.specs.Home.{HoldsPayload, HoldsSuperblock, IsSettledHome, settled_holds, settled_leaves, still_settled_home}
use Rattle.home_blocks.specs.Places.{IsAreaPart, apart_back, area_behind_home, area_behind_superblock, area_bytes, disk_size_of, home_apart, home_part, inside-area, superblock_part}
use Rattle.home_blocks.specs.Progress.{progress_number}
use Rattle.home_blocks.specs.Superblock.{IsSuperblock, Superblock, marked, superblock_encoding}
use Rattle.home_blocks.specs.declared.area.Area.TheVariants.{First}
use Rattle.home_blocks.specs.declared.progress.Progress.TheVariants.{Installing, Whole}
use Rattle.local_store.specs.Installer.{HasGiven, HasNone, IsInstalling, IsNotMeant, MeansNothing, ShowsNone, finished_meaning, with_block}
use Rattle.local_store.specs.Meaning.{Meaning, Means}
use Rattle.local_store.specs.Overlay.{FitsIn}
use Rattle.local_store.proofs.Homes.{length-home}
use Rattle.local_store.proofs.Overlays.{long_still, own_block}
use Rattle.volume.specs.Volumes.{block_of-patched_same, same_from_blocks}
use Rattle.volume.specs.Writes.{block_of}
use Rattle.volume.specs.declared.geometry.Geometry.{Geometry}

-- the bytes of a pair have one reading at most
abbrev pub ReadOnce : Type 0
ReadOnce = (some others : Slots) (bytes : List ℕ) → HoldsPair some bytes → HoldsPair others bytes → some ≡ others

-- a superblock's encoding has its progress in the thirteenth byte
progress_in : (sb : Superblock) → get_or (superblock_encoding sb) 12 0 ≡ progress_number sb.progress
unfolding superblock_encoding
progress_in sb = refl

payload_of : Option Entry → List ℕ
payload_of None = []
payload_of (Some entry) = entry.payload

-- a pair that holds the superblock of an unfinished installation holds none of a whole disk
not_whole : ReadOnce → (one other : Superblock) (c : List ℕ) → one.progress ≡ Installing → other.progress ≡ Whole → HoldsPayload (superblock_encoding one) c → HoldsPayload (superblock_encoding other) c → ⊥
unfolding payload_of
not_whole once one other c installing whole holds others =
    let slots : newest holds.slots ≡ newest others.slots = ap newest (once holds.slots others.slots (inside superblock_part c) holds.holds others.holds) in
    let same : superblock_encoding one ≡ superblock_encoding other = ap payload_of (sym holds.is_newest ∙ slots ∙ others.is_newest) in
    let bytes : progress_number one.progress ≡ progress_number other.progress = sym (progress_in one) ∙ ap (λ (l : List ℕ). get_or l 12 0) same ∙ progress_in other in
    let differ : 0 ≡ 1 = sym (ap progress_number installing) ∙ bytes ∙ ap progress_number whole in
    absurd (omega (arith, differ))

pub unfinished_means_nothing : ReadOnce → (sb : Superblock) (c : List ℕ) → sb.progress ≡ Installing → HoldsPayload (superblock_encoding sb) c → MeansNothing c
unfinished_means_nothing once sb c installing holds = λ m means. not_whole once sb means.superblock c installing means.is_whole holds means.holds.payload

-- bytes with such a first part hold the same there
held_as : (payload c d : List ℕ) → inside superblock_part c ≡ inside superblock_part d → HoldsPayload payload d → HoldsPayload payload c
held_as payload c d same holds = record {
  slots = holds.slots;
  holds = subst (HoldsPair holds.slots) (sym same) holds.holds;
  number = holds.number;
  is_newest = holds.is_newest;
}

-- an encoding isn't empty
not_empty : (sb : Superblock) → superblock_encoding sb ≡ [] → ⊥
unfolding superblock_encoding
not_empty sb none = cc

-- what a slot holds stands behind its head
stands_there : (x : List ℕ) → Uncovers x x
unfolding entry_encoding
stands_there x entry (rest, is, encoded) =
    let behind : drop 13 x ≡ entry.payload ++ rest = ap (λ (l : List ℕ). drop 13 l) encoded in
    inr ((entry_body entry.number entry.payload ++ rest, encoded), sym (ap (λ (l : List ℕ). take (length entry.payload) l) behind ∙ take_at entry.payload rest (length entry.payload) refl))

-- the newer entry is in one of the two slots
in_a_slot : (n : ℕ) (slots : Slots) (entry : Entry) → entry_of n slots ≡ Some entry → (slots.first ≡ Some entry) ⊎ (slots.second ≡ Some entry)
in_a_slot zero slots entry is = inl is
in_a_slot (suc n) slots entry is = inr is

module _ (slot incarnation : ℕ) where
  -- a slot that shows none of them holds none once it is cleared at most
  holds_none : (sb : Superblock) → IsSuperblock sb → sb.slot ≡ slot → sb.incarnation ≡ incarnation → (number : ℕ) (old new : List ℕ) → ShowsNone slot incarnation old → Uncovers old new
      → HoldsSlot (Some (record { number = number; payload = superblock_encoding sb })) new → ⊥
  holds_none sb is of_slot of_incarnation number old new none uncovers holds =
      let entry : Entry = record { number = number; payload = superblock_encoding sb } in
      ⊎_elim (λ empty. not_empty sb empty) (λ (opened, stood). none opened (length (superblock_encoding sb)) sb (record { is = is; encoded = sym stood }) of_slot of_incarnation) (uncovers entry holds)

  module _ (left : List ℕ → Type 0) (has : (d : List ℕ) → left d → HasNone slot incarnation d) where
    -- nor does a pair of two such slots
    cleared_not_meant : (c : List ℕ) → IsCleared superblock_part 0 left c → IsCleared superblock_part 1 left c → IsNotMeant slot incarnation c
    cleared_not_meant c (x, (d, may, x_is), uncovers) (y, (e, may', y_is), uncovers') = λ m of_slot of_incarnation means.
        let sb = means.superblock in
        let held = means.holds.payload in
        let entry : Entry = record { number = held.number; payload = superblock_encoding sb } in
        let slot_is : sb.slot ≡ slot = sym (ap (λ (k : Meaning). k.slot) means.is) ∙ of_slot in
        let incarnation_is : sb.incarnation ≡ incarnation = sym (ap (λ (k : Meaning). k.incarnation) means.is) ∙ of_incarnation in
        ⊎_elim
        (λ first. holds_none sb means.holds.is slot_is incarnation_is held.number (slot_bytes 0 x) (slot_bytes 0 (inside superblock_part c))
        (subst (λ (l : List ℕ). ShowsNone slot incarnation (slot_bytes 0 l)) (sym x_is) (has d may).first) uncovers
        (subst (λ (o : Option Entry). HoldsSlot o (slot_bytes 0 (inside superblock_part c))) first held.holds.first))
        (λ second. holds_none sb means.holds.is slot_is incarnation_is held.number (slot_bytes 1 y) (slot_bytes 1 (inside superblock_part c))
        (subst (λ (l : List ℕ). ShowsNone slot incarnation (slot_bytes 1 l)) (sym y_is) (has e may').second) uncovers'
        (subst (λ (o : Option Entry). HoldsSlot o (slot_bytes 1 (inside superblock_part c))) second held.holds.second))
        (in_a_slot (newer_slot held.slots.first held.slots.second) held.slots entry held.is_newest)

    -- before any call
    pub left_not_meant : (c : List ℕ) → left c → IsNotMeant slot incarnation c
    left_not_meant c may = cleared_not_meant c (inside superblock_part c, (c, may, refl), stands_there (slot_bytes 0 (inside superblock_part c))) (inside superblock_part c, (c, may, refl), stands_there (slot_bytes 1 (inside superblock_part c)))

    -- and while the superblock's pair is made
    pub making_not_meant : ReadOnce → (sb : Superblock) → sb.progress ≡ Installing → (c : List ℕ) → IsBeingMade superblock_part (superblock_encoding sb) left c → IsNotMeant slot incarnation c
    making_not_meant once sb installing c (inl (first, second)) = cleared_not_meant c first second
    making_not_meant once sb installing c (inr made) = λ m _ _ means.
        unfinished_means_nothing once sb c installing
        (record { slots = record { first = Some (record { number = 1; payload = superblock_encoding sb }); second = None }; holds = made; number = 1; is_newest = refl }) m means

-- a disk whose unfinished superblock is settled
pub installing : ReadOnce → {h : home.State} {gives : List ℕ} {left : List ℕ → Type 0} → IsSettledHome h gives left → h.superblock.progress ≡ Installing → IsInstalling h gives left
installing once {h} settled is_unfinished = record {
  superblock = settled;
  is_unfinished = is_unfinished;
  means_nothing = λ c may. unfinished_means_nothing once h.superblock c is_unfinished (settled_leaves settled c may).payload;
}

-- before any call
pub rest_leaves : {D : Type 0} {moment : D → ℕ} {left_since : D → ℕ → List ℕ → Type 0} {h : home.State} {gives : List ℕ} {left : List ℕ → Type 0} (disk : D) → IsInstalling h gives left → ((c : List ℕ) → left_since disk (moment disk) c → left c)
    → LeavesOnly moment left_since disk disk MeansNothing
rest_leaves {D} {moment} {left_since} disk was only_now = started moment left_since disk MeansNothing (λ c may. was.means_nothing c (only_now c may))

module _ {D : Type 0} {gives : D → List ℕ} {may_leave : D → List ℕ → Type 0} {moment : D → ℕ} {left_since : D → ℕ → List ℕ → Type 0} (once : ReadOnce) {h : home.State} where
  module _ {old new : D} (was : IsInstalling h (gives old) (may_leave old)) where
    -- while a call writes elsewhere
    pub elsewhere_leaves : {part : Part} → IsApart part superblock_part → TouchesOnly gives may_leave moment left_since part old new → LeavesOnly moment left_since old new MeansNothing
    elsewhere_leaves apart run =
        weaker moment left_since old new (λ c. LeftInside superblock_part (may_leave old) (inside superblock_part c)) MeansNothing
        (λ c (d, may, same). unfinished_means_nothing once h.superblock c was.is_unfinished (held_as (superblock_encoding h.superblock) c d same (settled_leaves was.superblock d may).payload))
        (run.moments superblock_part apart)

    pub elsewhere_keeps : {part : Part} → IsApart part superblock_part → TouchesOnly gives may_leave moment left_since part old new → IsInstalling h (gives new) (may_leave new)
    elsewhere_keeps apart run = installing once (still_settled_home (run.others superblock_part apart) was.superblock) was.is_unfinished

    -- while calls only read
    pub reading_leaves : OnlyReads gives may_leave moment left_since old new → LeavesOnly moment left_since old new MeansNothing
    reading_leaves run = weaker moment left_since old new (may_leave old) MeansNothing was.means_nothing run.moments

    pub reading_keeps : OnlyReads gives may_leave moment left_since old new → IsInstalling h (gives new) (may_leave new)
    reading_keeps run = installing once (still_settled_home (reads_keep superblock_part old new run) was.superblock) was.is_unfinished

-- the home region lies apart from the superblock
pub home_from_superblock : (g : Geometry) → IsApart (home_part g) superblock_part
home_from_superblock g = apart_back superblock_part (home_part g) (home_apart g)

-- what a finish comes to: the whole disk's superblock, an empty area, and the home region
finished_means : (sb : Superblock) (front : ℕ) (volume c : List ℕ) → HoldsSuperblock (marked sb front First) c → HoldsBatches sb.geometry.blocks front [] (area_bytes sb.geometry First c) → inside (home_part sb.geometry) c ≡ volume
    → Means (finished_meaning sb front volume) c
finished_means sb front volume c holds area region = record {
  superblock = marked sb front First;
  holds = holds;
  is_whole = refl;
  batches = [];
  area = area;
  is = ap (λ (v : List ℕ). finished_meaning sb front v) (sym region);
}

-- what means nothing means nothing or something more
pub or_more : {D : Type 0} {moment : D → ℕ} {left_since : D → ℕ → List ℕ → Type 0} {old new : D} (Q : List ℕ → Type 0) → LeavesOnly moment left_since old new MeansNothing → LeavesOnly moment left_since old new (λ c. MeansNothing c ⊎ Q c)
or_more {D} {moment} {left_since} {old} {new} Q run = weaker moment left_since old new MeansNothing (λ c. MeansNothing c ⊎ Q c) (λ c nothing. inl nothing) run

-- the part of the first area is emptied, and the superblock of the whole disk stored
module _ {D : Type 0} {gives : D → List ℕ} {may_leave : D → List ℕ → Type 0} {moment : D → ℕ} {left_since : D → ℕ → List ℕ → Type 0} (once : ReadOnce) {h : home.State} {old synced closed : D}
    (was : IsInstalling h (gives old) (may_leave old)) {g : Geometry} (is_g : g ≡ h.superblock.geometry) {part : Part} (of : IsAreaPart g First part) (sync : OnlyReads gives may_leave moment left_since old synced)
    (close : TouchesOnly gives may_leave moment left_since part synced closed) where
  area : IsAreaPart h.superblock.geometry First part
  area = subst (λ (k : Geometry). IsAreaPart k First part) is_g of

  area_superblock : IsApart part superblock_part
  area_superblock = apart_back superblock_part part (area_behind_superblock h.superblock.geometry First part area)

  area_home : IsApart part (home_part h.superblock.geometry)
  area_home = apart_back (home_part h.superblock.geometry) part (area_behind_home h.superblock.geometry First part area)

  pub closing_leaves : LeavesOnly moment left_since old closed MeansNothing
  closing_leaves = then_run moment left_since old synced closed MeansNothing (reading_leaves once was sync) (elsewhere_leaves once (reading_keeps once was sync) area_superblock close)

  closing_keeps : IsInstalling h (gives closed) (may_leave closed)
  closing_keeps = elsewhere_keeps once (reading_keeps once was sync) area_superblock close

  region_stays : inside (home_part h.superblock.geometry) (gives closed) ≡ inside (home_part h.superblock.geometry) (gives old)
  region_stays = (close.others (home_part h.superblock.geometry) area_home).gives ∙ ap (inside (home_part h.superblock.geometry)) sync.same

  module _ {new : D} {front slot : ℕ} {fresh : journal.State} (made : fresh ≡ record { part = part; slot = slot; blocks = g.blocks; before = front; front = front; end = 0; broken = false })
      (ready : IsSettled fresh [] (gives closed) (may_leave closed)) (whole : Only (gives closed) (may_leave closed)) (run : TouchesOnly gives may_leave moment left_since superblock_part closed new) where
    -- the area with its closed gate
    empty_area : (c : List ℕ) → inside part c ≡ inside part (gives closed) → HoldsBatches h.superblock.geometry.blocks front [] (area_bytes h.superblock.geometry First c)
    empty_area c same =
        subst (HoldsBatches h.superblock.geometry.blocks front []) (sym same ∙ inside-area h.superblock.geometry First part c area)
        (subst (λ (k : Geometry). HoldsBatches k.blocks front [] (inside part (gives closed))) is_g
        (subst (λ (j : journal.State). HoldsBatches j.blocks j.before [] (inside j.part (gives closed))) made ready.holds))

    pub marking_leaves : (IsSettledHome h (gives closed) (may_leave closed) → LeavesOnly moment left_since closed new (λ c. HoldsSuperblock h.superblock c ⊎ HoldsSuperblock (marked h.superblock front First) c))
        → LeavesOnly moment left_since old new (λ c. MeansNothing c ⊎ Means (finished_meaning h.superblock front (inside (home_part h.superblock.geometry) (gives old))) c)
    marking_leaves superblocks =
        let k = h.superblock.geometry in
        let Q : List ℕ → Type 0 = λ c. MeansNothing c ⊎ Means (finished_meaning h.superblock front (inside (home_part k) (gives old))) c in
        let S : List ℕ → Type 0 = λ c. HoldsSuperblock h.superblock c ⊎ HoldsSuperblock (marked h.superblock front First) c in
        let A : List ℕ → Type 0 = λ c. inside part c ≡ inside part (gives closed) in
        let R : List ℕ → Type 0 = λ c. inside (home_part k) c ≡ inside (home_part k) (gives closed) in
        then_run moment left_since old closed new Q
        (or_more (Means (finished_meaning h.superblock front (inside (home_part k) (gives old)))) closing_leaves)
        (weaker moment left_since closed new (λ c. (S c × A c) × R c) Q
        (λ c (first, region). ⊎_elim (λ holds. inl (unfinished_means_nothing once h.superblock c was.is_unfinished holds.payload))
        (λ holds. inr (finished_means h.superblock front (inside (home_part k) (gives old)) c holds (empty_area c first.1) (region ∙ region_stays))) first.0)
        (both
        (both (superblocks closing_keeps.superblock) (others_keep part (λ x. x ≡ inside part (gives closed)) (area_behind_superblock k First part area) run (only_inside part (gives closed) (may_leave closed) whole)))
        (others_keep (home_part k) (λ x. x ≡ inside (home_part k) (gives closed)) (home_apart k) run (only_inside (home_part k) (gives closed) (may_leave closed) whole))))

    pub marking_means : {now : home.State} → now.superblock ≡ marked h.superblock front First → (IsSettledHome h (gives closed) (may_leave closed) → IsSettledHome now (gives new) (may_leave new))
        → Means (finished_meaning h.superblock front (inside (home_part h.superblock.geometry) (gives old))) (gives new)
    marking_means {now} is settled =
        let k = h.superblock.geometry in
        finished_means h.superblock front (inside (home_part k) (gives old)) (gives new)
        (subst (λ (sb : Superblock). HoldsSuperblock sb (gives new)) is (settled_holds (settled closing_keeps.superblock)))
        (empty_area (gives new) (run.others part (area_behind_superblock k First part area)).gives)
        ((run.others (home_part k) (home_apart k)).gives ∙ region_stays)

-- where no block was given, any volume of the size has them
pub none_given : (g : Geometry) (volume bytes : List ℕ) → length volume ≡ 4096 * g.blocks → HasGiven g (replicate g.blocks false) volume bytes
none_given g volume bytes size = record {
  size = size;
  is_home = λ b below given. absurd (both_ways (get_or (replicate g.blocks false) b false) (get_or-replicate {A = Bool} g.blocks b false false below) given);
}

-- a block more, on a disk that is long enough
pub one_given : (g : Geometry) (given : List Bool) (volume old new : List ℕ) (block n : ℕ) (bytes : List ℕ) → disk_size_of g ≤ n → length old ≡ n → block < g.blocks → length bytes ≡ 4096
    → inside (home_part g) new ≡ with_block (inside (home_part g) old) block bytes → HasGiven g given volume old → HasGiven g (set given block true) (with_block volume block bytes) new
one_given g given volume old new block n bytes room size below whole put was = record {
  size = long_still g.blocks volume image was.size fit;
  is_home = λ b within now. ap (λ (l : List ℕ). block_of l b) put ∙ elim (cases_Bool (block == b)) [
    | inl is ↦ subst (λ (k : ℕ). block_of (with_block (inside (home_part g) old) block bytes) k ≡ block_of (with_block volume block bytes) k) (eqb-true _ _ is)
        (own_block g.blocks (inside (home_part g) old) image long fit ∙ sym (own_block g.blocks volume image was.size fit))
    | inr isnt ↦ block_of-patched_same (inside (home_part g) old) volume (record { offset = 4096 * block; bytes = bytes }) b (long ∙ sym was.size) (omega (arith, long, below, whole))
        (was.is_home b within (sym (get_or-set_other given block b true false (λ is. eqb-false _ _ isnt (sym is))) ∙ now))
  ];
}
  where
    long : length (inside (home_part g) old) ≡ 4096 * g.blocks
    long = length-home g old (omega (arith, room, size))

    image : Image
    image = record { block = block; bytes = bytes }

    fit : FitsIn g.blocks image
    fit = (below, whole)

-- where each block was given, the home region is the volume
pub all_given : (g : Geometry) (given : List Bool) (volume bytes : List ℕ) (n : ℕ) → disk_size_of g ≤ n → length bytes ≡ n → length given ≡ g.blocks → All IsTrue given → HasGiven g given volume bytes → inside (home_part g) bytes ≡ volume
all_given g given volume bytes n room size table complete was =
    same_from_blocks g.blocks (inside (home_part g) bytes) volume (length-home g bytes (omega (arith, room, size))) was.size (λ b below. was.is_home b below (complete b false (omega (arith, table, below))))
