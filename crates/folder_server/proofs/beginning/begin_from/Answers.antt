use Rattle.std.proofs.Common.{◌≡◌, ◌⊎◌, ◌∙◌, ℕ, zero, suc, List, [], ◌∷◌, Option, None, Some, false, map, ap, inl, inr, refl, subst, sym}
use Rattle.std.specs.Prelude.{IfSome, slice_get}
use Rattle.disk_model.specs.Disk.{LeavesOnly}
use Rattle.disk_model.specs.Moments.{then_run, weaker}
use Rattle.gate_journal.specs.Runs.{OnlyReads}
use Rattle.home_blocks.specs.Home.{HoldsSuperblock, settled_holds}
use Rattle.home_blocks.specs.Superblock.{Superblock}
use Rattle.local_store.specs.About.{About, about_of, meaning_with, migrated}
use Rattle.local_store.specs.Meaning.{Meaning, Means}
use Rattle.local_store.specs.declared.store.Store.{Store}
use Rattle.folder.specs.Disks.{IsSourceOf}
use Rattle.folder_server.specs.Beginning.{HasVersionTwo}
use Rattle.folder_server.proofs.beginning.begin_from.Goals as goal

-- migrated or not, the store is at its front, with its sizes, it runs, and its log is there
as_it_was : (was now : About) → (now ≡ was) ⊎ (now ≡ migrated was) → (now.front ≡ was.front) × (now.geometry ≡ was.geometry) × (now.broken ≡ was.broken) × (now.lent ≡ was.lent)
as_it_was was now (inl same) = (ap (λ a. a.front) same, ap (λ a. a.geometry) same, ap (λ a. a.broken) same, ap (λ a. a.lent) same)
as_it_was was now (inr same) = (ap (λ a. a.front) same, ap (λ a. a.geometry) same, ap (λ a. a.broken) same, ap (λ a. a.lent) same)

if_some : {D : Type 0} (P Q : D → Type 0) (o : Option D) → ((d : D) → P d → Q d) → IfSome o P → IfSome o Q
if_some P Q None all has = tt
if_some P Q (Some d) all has = all d has

-- The disk at a place was read, and then only what means the same was left of it.
module _ {D : Type 0} (gives : D → List ℕ) (may_leave : D → List ℕ → Type 0) (moment : D → ℕ) (left_since : D → ℕ → List ℕ → Type 0) where
  abbrev Stays : D → D → Type 0
  Stays disk new = (meaning : Meaning) → Means meaning (gives disk) → LeavesOnly moment left_since disk new (λ c. may_leave disk c ⊎ Means meaning c)

  stays : (disk mid new : D) (m : Meaning) → ((one other : Meaning) (b : List ℕ) → Means one b → Means other b → one ≡ other) → Means m (gives disk) → OnlyReads gives may_leave moment left_since disk mid
      → LeavesOnly moment left_since mid new (Means m) → Stays disk new
  stays disk mid new m one means reads run meaning is =
      let Left : List ℕ → Type 0 = λ c. may_leave disk c ⊎ Means meaning c in
      let same : m ≡ meaning = one m meaning (gives disk) means is in
      then_run moment left_since disk mid new Left (weaker moment left_since disk mid (may_leave disk) Left (λ c left. inl left) reads.moments)
      (weaker moment left_since mid new (Means m) Left (λ c has. inr (subst (λ (x : Meaning). Means x c) same has)) run)

  source_stays : (disks : List D) (place : ℕ) (bytes : List ℕ) (mid new : D) (m : Meaning) → ((one other : Meaning) (b : List ℕ) → Means one b → Means other b → one ≡ other)
      → slice_get (map gives disks) place ≡ Some bytes → Means m bytes → IfSome (slice_get disks place) (λ d. OnlyReads gives may_leave moment left_since d mid)
      → LeavesOnly moment left_since mid new (Means m) → IfSome (slice_get disks place) (λ d. Stays d new)
  source_stays [] place bytes mid new m one there means reads run = tt
  source_stays (d ∷ ds) zero bytes mid new m one there means reads run =
      let same : gives d ≡ bytes = cc in
      stays d mid new m one (subst (Means m) (sym same) means) reads run
  source_stays (d ∷ ds) (suc k) bytes mid new m one there means reads run = source_stays ds k bytes mid new m one there means reads run

pub migrate-requires-clause-keeps : goal.migrate-requires-clause-keeps
migrate-requires-clause-keeps g c = λ keeps. let on = c.in-Ok.ensures.goes_on keeps in (on.volume, on.kept)

pub returns-clause-goes_on : goal.returns-clause-goes_on
returns-clause-goes_on g c = λ keeps.
    let on = c.in-Ok.ensures.goes_on keeps in
    let before = about_of c.in-Ok.opened.store.contents in
    let meaning = meaning_with before on.volume in
    let was = as_it_was before (about_of c.migrate.new.self.store.contents) c.in_default.ensures.about in
    record {
      old = on.old;
      recorded = on.recorded;
      meaning = meaning;
      source = subst (λ (place : ℕ). IsSourceOf on.old.members (map g.D.Disk.gives c.args.disks.items) place meaning) (sym (ap (λ o. o.place) c.migrate.ensures.same)) on.source;
      sizes = was.1;
      at = was.0;
      told = c.front-front.ensures ∙ was.0;
      kept = c.in_default.ensures.kept keeps on.volume on.kept;
      next = ap (λ o. o.configs.current) c.migrate.ensures.same ∙ c.in-Ok.ensures.records.0 ∙ on.next;
    }

pub returns-clause-runs : goal.returns-clause-runs
returns-clause-runs g c =
    let was = as_it_was (about_of c.in-Ok.opened.store.contents) (about_of c.migrate.new.self.store.contents) c.in_default.ensures.about in
    record {
      whole = was.2 ∙ c.in-Ok.ensures.running.runs;
      version = c.in_default.ensures.version;
      here = was.3 ∙ c.in-Ok.ensures.running.here;
      keeps = λ keeps.
          let on = c.in-Ok.ensures.goes_on keeps in
          let kept = c.in_default.ensures.kept keeps on.volume on.kept in
          (on.volume, kept, kept.region.waits.size);
    }

pub returns-clause-reads : goal.returns-clause-reads
returns-clause-reads g c = λ keeps.
    let on = c.in-Ok.ensures.goes_on keeps in
    let opened = c.in-Ok.opened in
    let new = c.migrate.new.self in
    let Reads : g.row.D.Denot → g.row.D.Denot → Type 0 = λ d now. OnlyReads g.D.Disk.gives g.D.Disk.may_leave_now g.D.Disk.moment g.D.Disk.may_have_left_since d now in
    subst (λ (place : ℕ). IfSome (slice_get c.args.disks.items place) (λ d. HasVersionTwo (g.D.Disk.gives d) → Reads d new.store.disk)) (sym (ap (λ o. o.place) c.migrate.ensures.same))
    (if_some (λ d. Reads d opened.store.disk) (λ d. HasVersionTwo (g.D.Disk.gives d) → Reads d new.store.disk) (slice_get c.args.disks.items opened.place)
    (λ d read (sb, holds, two).
    let own = opened.store.contents.home.superblock in
    let here : HoldsSuperblock own (g.D.Disk.gives d) = subst (HoldsSuperblock own) read.same (settled_holds on.kept.superblock) in
    let same : sb ≡ own = c.superblocks_are_one.ensures sb own (g.D.Disk.gives d) holds here in
    subst (λ (s : Store g.row.D.Denot g.D.Disk). Reads d s.disk) (sym (ap (λ o. o.store) (c.migrate.ensures.untouched (sym (ap (λ (s : Superblock). s.version) same) ∙ two)).1)) read)
    (c.in-Ok.ensures.reads keeps))

pub returns-clause-any_moment : goal.returns-clause-any_moment
returns-clause-any_moment g c = λ keeps.
    let on = c.in-Ok.ensures.goes_on keeps in
    let back = on.source.is in
    let new = c.migrate.new.self in
    subst (λ (place : ℕ). IfSome (slice_get c.args.disks.items place) (λ d. Stays g.D.Disk.gives g.D.Disk.may_leave_now g.D.Disk.moment g.D.Disk.may_have_left_since d new.store.disk)) (sym (ap (λ o. o.place) c.migrate.ensures.same))
    (source_stays g.D.Disk.gives g.D.Disk.may_leave_now g.D.Disk.moment g.D.Disk.may_have_left_since c.args.disks.items c.in-Ok.opened.place back.bytes c.in-Ok.opened.store.disk new.store.disk
    (meaning_with (about_of c.in-Ok.opened.store.contents) on.volume) c.disks_mean_one.ensures back.there back.is.means (c.in-Ok.ensures.reads keeps) (c.migrate.ensures.any_moment keeps on.volume on.kept))
