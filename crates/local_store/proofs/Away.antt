-- What a store keeps as its log is lent out, while it is away, and when it is back.
use Rattle.std.proofs.Common.{◌≡◌, ℕ, Bool, IsErrOf, true, ◌+◌, ◌<◌, ◌≤◌, List, [], ◌∷◌, ◌++◌, length, take, drop, refl, sym, ◌∙◌, ap, subst, inl, inr, ◌⊎◌, ⊎_elim, arith, false, max, Err, IsSome, MatchResult, Ok, Result, OnErr, OnOk, IsNone}
use Rattle.std.specs.Prelude.{All, Option, Some, None, unwrap_or}
use Rattle.std.specs.Option.{ForSome}
use Rattle.std.proofs.lemmas.Bool.{both_ways}
use Rattle.std.proofs.lemmas.List.{drop_at, take_at}
use Rattle.std.proofs.lemmas.Result.{on_ok_weaker}
use Rattle.block_cache.specs.Cache.{Agrees}
use Rattle.disk_model.specs.Disk.{LeavesOnly, NothingNew}
use Rattle.disk_model.specs.Halves.{AreHalves, gives_behind, gives_below, inside_behind, inside_below, left_behind, left_below}
use Rattle.disk_model.specs.Part.{inside, KeepsPart}
use Rattle.disk_model.specs.declared.part.Part.{Part}
use Rattle.gate_journal.specs.Batch.{Batch, HoldsBatches, HoldsOldOrNew, held_as, last_front}
use Rattle.gate_journal.specs.Journal as journal
use Rattle.gate_journal.specs.Journal.{Fits, IsSettled, appended, behind_border, part_behind, still_settled}
use Rattle.gate_journal.specs.Pair.{HoldsPair}
use Rattle.gate_journal.specs.Receipt.{Receipt}
use Rattle.gate_journal.specs.Refusal as journals
use Rattle.gate_journal.specs.declared.refusal.Refusal.{Refusal as JournalRefusal}
use Rattle.gate_journal.specs.declared.refusal.Refusal.TheVariants as variants
use Rattle.home_blocks.specs.Home.{settled_leaves, still_settled_home}
use Rattle.home_blocks.specs.Places.{border_of, disk_size_of, home_part, superblock_part}
use Rattle.home_blocks.specs.Superblock.{Superblock}
use Rattle.home_blocks.specs.declared.progress.Progress.TheVariants.{Whole}
use Rattle.loans.specs.Sides.{last_of}
use Rattle.local_store.specs.Kept.{parts_mean}
use Rattle.local_store.specs.Lending.{Done, HoldsHome, IsDone, IsHomeKept, Lending}
use Rattle.local_store.specs.Away.{IsKeptOver, IsLent, Keeps, LeftWith, batch_in, lending_in, twin_of}
use Rattle.local_store.specs.KeptAway.{halves_mean_old, holds_below, inside_journal, journal_behind, left_either, left_more, over_means}
use Rattle.local_store.specs.Meaning.{Means}
use Rattle.local_store.specs.Overlay.{AllFitIn, with_batches, with_images}
use Rattle.local_store.specs.Store.{State, IsOfSuperblock, IsSameButForPending, IsStored, committed, geometry_of, meaning_after, meaning_in}
use Rattle.local_store.specs.Refusal.{HasCause, IsCaused, by_journal}
use Rattle.local_store.specs.declared.lent.Lent.{Lent}
use Rattle.local_store.specs.declared.refusal.Refusal.{Refusal}
use Rattle.local_store.proofs.Homes.{one_batch}
use Rattle.local_store.proofs.Overlays.{with_batches-push}
use Rattle.local_store.proofs.Stored.{all_fit, last_fits, last_front-push, region_still}

-- what holds of a value holds of whatever value there is
pub for_some : {T : Type 0} (x : T) (P : T → Type 0) → P x → ForSome (Some x) P
for_some {T} x P has = λ other is. subst P (ap (λ (o : Option T). unwrap_or o x) is) has

pub for_it : {T : Type 0} (o : Option T) (x : T) (P : T → Type 0) → o ≡ Some x → P x → ForSome o P
for_it {T} o x P is has = subst (λ (p : Option T). ForSome p P) (sym is) (for_some x P has)

-- and of another that is the same
pub for_it_of : {T L : Type 0} (o : Option T) (x : T) (R : T → L → Type 0) (log other : L) → o ≡ Some x → log ≡ other → R x log → ForSome o (λ l. R l other)
for_it_of o x R log other is same has = for_it o x (λ l. R l other) is (subst (R x) same has)

-- the log of a commit that is done is settled with its batch
pub done_settles : {L : Type 0} {keeps_model : Type 0} {gives : L → List ℕ} {left : L → List ℕ → Type 0} {failures : L → ℕ} (done : Done L) (was log : L) (twin : journal.State) (batch : Batch) (batches : List Batch) (receipt : Receipt)
    → IsDone keeps_model gives left failures done → keeps_model → done.loan ≡ record { log = was; journal = twin; batch = batch } → done.log ≡ log → done.outcome ≡ Ok receipt → IsSettled twin batches (gives was) (left was)
    → IsSettled (appended twin batch.front batch.images) (batches ++ batch ∷ []) (gives log) (left log)
done_settles {L} {gives = gives} {left} done was log twin batch batches receipt is keeps same same_log ok had =
    let Now : Lending L → L → Type 0 = λ l x. IsSettled (appended l.journal l.batch.front l.batch.images) (batches ++ l.batch ∷ []) (gives x) (left x) in
    let begun = subst (λ (l : Lending L). IsSettled l.journal batches (gives l.log) (left l.log)) (sym same) had in
    let now = subst (λ (o : Result Receipt JournalRefusal). OnOk o (Now done.loan done.log)) ok (is.settled keeps batches begun) in
    subst (Now (record { log = was; journal = twin; batch = batch })) same_log (subst (λ (l : Lending L). Now l done.log) same now)

-- and where memory ran out, as it was
pub done_nothing : {L : Type 0} {keeps_model : Type 0} {gives : L → List ℕ} {left : L → List ℕ → Type 0} {failures : L → ℕ} (done : Done L) (was log : L) (twin : journal.State) (batches : List Batch)
    → IsDone keeps_model gives left failures done → done.loan.log ≡ was → done.log ≡ log → done.outcome ≡ Err variants.Memory → IsSettled twin batches (gives was) (left was) → IsSettled twin batches (gives log) (left log)
done_nothing {L} {gives = gives} {left} done was log twin batches is same_was same_log memory had =
    subst (λ (x : L). IsSettled twin batches (gives x) (left x)) (sym same_was ∙ sym (is.unchanged memory) ∙ same_log) had

-- the disk has its home half, whether the log is lent or not
pub has_border : {P L : Type 0} (lent : Option (Lent P L)) (store : State) (size : ℕ) (cut whole : P → ℕ) → (IsNone lent → disk_size_of (geometry_of store) ≤ size)
    → ForSome lent (λ l. IsLent store size (cut l.past) (whole l.past) l.len (batch_in l)) → border_of (geometry_of store) ≤ size
has_border None store size cut whole here away = let room = here refl in omega (arith, room)
has_border (Some l) store size cut whole here away = let at = (away l refl).home in omega (arith, at)

-- a call that changes neither superblock nor journal keeps what is said of its disk
pub still_here : (lent : Type 0) (old new : State) (size now : ℕ) → IsSameButForPending old new → now ≡ size → (lent → disk_size_of (geometry_of old) ≤ size) → lent → disk_size_of (geometry_of new) ≤ now
still_here lent old new size now same as_long here is =
    subst (λ (b : Superblock). disk_size_of b.geometry ≤ now) (sym same.superblock) (subst (λ (n : ℕ). disk_size_of (geometry_of old) ≤ n) (sym as_long) (here is))

pub still_away : {cut whole len : ℕ} {batch : Batch} (old new : State) (size now : ℕ) → IsSameButForPending old new → now ≡ size → IsLent old size cut whole len batch → IsLent new now cut whole len batch
still_away {cut} {whole} {len} {batch} old new size now same as_long was = record {
  home = as_long ∙ was.home ∙ border;
  cut = was.cut ∙ border;
  whole = was.whole;
  room = subst (λ (b : Superblock). disk_size_of b.geometry ≤ len) (sym same.superblock) was.room;
  within = subst (λ (b : Superblock). All (λ image. image.block < b.geometry.blocks) batch.images) (sym same.superblock) was.within;
  limit = was.limit;
  fits = subst (λ (j : journal.State). Fits j batch.images) (sym same.journal) was.fits;
}
  where
    border : border_of (geometry_of old) ≡ border_of (geometry_of new)
    border = ap (λ (b : Superblock). border_of b.geometry) (sym same.superblock)

twin_still : {old new : State} → IsSameButForPending old new → twin_of old ≡ twin_of new
twin_still {old} {new} same =
    ap (λ (j : journal.State). behind_border j (border_of (geometry_of old))) (sym same.journal) ∙ ap (λ (b : Superblock). behind_border new.journal (border_of b.geometry)) (sym same.superblock)

-- what was lent is what it was
pub still_lent : {P L : Type 0} (loans : List (Lending L)) (l : Lent P L) (old new : State) → IsSameButForPending old new → last_of loans ≡ Some (lending_in old l) → last_of loans ≡ Some (lending_in new l)
still_lent loans l old new same was =
    was ∙ ap (λ (b : Superblock). Some (record { log = l.was.value; journal = behind_border old.journal (border_of b.geometry); batch = batch_in l })) (sym same.superblock)
    ∙ ap (λ (j : journal.State). Some (record { log = l.was.value; journal = behind_border j (border_of (geometry_of new)); batch = batch_in l })) (sym same.journal)

-- what it keeps of the disk or of the home half, the store keeps
over_still : {old new : State} {v : List ℕ} {batches : List Batch} {gives now : List ℕ} {left left_now left_before : List ℕ → Type 0} → IsSameButForPending old new → IsHomeKept new v batches now left_now
    → IsKeptOver old v batches gives left left_before → IsKeptOver new v batches now left_now left_before
over_still {old} {new} {v} {batches} same home was = record {
  home = home;
  front = subst (λ (j : journal.State). j.front ≡ last_front j.before batches) (sym same.journal) was.front;
  held = λ c may. subst (λ (j : journal.State). HoldsBatches j.blocks j.before batches (inside j.part c)) (sym same.journal) (was.held c may);
}

pub keeps_still : {L T E : Type 0} (lent : Option L) (before : L → List ℕ → Type 0) (had : L → journal.State → List Batch → Type 0) (old new : State) (v gives now : List ℕ) (left left_now : List ℕ → Type 0) (r : Result T E) → IsSameButForPending old new
    → (IsStored old v gives left → OnOk r (IsStored new v now left_now)) → ((batches : List Batch) → IsHomeKept old v batches gives left → OnOk r (IsHomeKept new v batches now left_now))
    → Keeps lent before had old v gives left → OnOk r (Keeps lent before had new v now left_now)
keeps_still None before had old new v gives now left left_now r same stored home kept = stored kept
keeps_still (Some l) before had old new v gives now left left_now r same stored home (batches, over, log) =
    on_ok_weaker r (λ (is : IsHomeKept new v batches now left_now). (batches, over_still same is over, subst (λ (j : journal.State). had l j batches) (twin_still same) log)) (home batches over.home)

-- and what it reads, either way
pub read_still : {L T E : Type 0} (lent : Option L) (before : L → List ℕ → Type 0) (had : L → journal.State → List Batch → Type 0) (store : State) (v gives : List ℕ) (left : List ℕ → Type 0) (r : Result T E) (P : Type 0)
    → (IsStored store v gives left → OnOk r P) → ((batches : List Batch) → IsHomeKept store v batches gives left → OnOk r P) → Keeps lent before had store v gives left → OnOk r P
read_still None before had store v gives left r P stored home kept = stored kept
read_still (Some l) before had store v gives left r P stored home (batches, over, log) = home batches over.home

-- where the log is there, the store keeps what its disk does
pub none_is : {L : Type 0} (lent : Option L) → IsNone lent → lent ≡ None
none_is None here = refl
none_is (Some l) here = absurd (both_ways true here refl)

pub stored_here : {L : Type 0} (lent : Option L) (before : L → List ℕ → Type 0) (had : L → journal.State → List Batch → Type 0) (store : State) (v gives : List ℕ) (left : List ℕ → Type 0) → IsNone lent → Keeps lent before had store v gives left → IsStored store v gives left
stored_here None before had store v gives left here kept = kept
stored_here (Some l) before had store v gives left here kept = absurd (both_ways true here refl)

pub kept_here : {L : Type 0} (lent : Option L) (before : L → List ℕ → Type 0) (had : L → journal.State → List Batch → Type 0) (store : State) (v gives : List ℕ) (left : List ℕ → Type 0) → IsNone lent → IsStored store v gives left → Keeps lent before had store v gives left
kept_here None before had store v gives left here stored = stored
kept_here (Some l) before had store v gives left here stored = absurd (both_ways true here refl)

-- a run of the disk or of the home half is one of the store
pub owned_with : {L D S : Type 0} {moment : D → ℕ} {left_since : D → ℕ → List ℕ → Type 0} (o : Option L) (cut : L → ℕ) (before : L → List ℕ → Type 0) (disk : S → D) (lent_in : S → Option L) (old new : S) (P Q : List ℕ → Type 0)
    → lent_in old ≡ o → lent_in new ≡ o → ((c : List ℕ) → LeftWith o cut before P c → Q c) → LeavesOnly moment left_since (disk old) (disk new) P
    → LeavesOnly (λ (s : S). moment (disk s)) (λ (s : S) t. LeftWith (lent_in s) cut before (left_since (disk s) t)) old new Q
owned_with {L} {D} {S} {moment} {left_since} o cut before disk lent_in old new P Q was is come run = record {
  later = run.later;
  each = λ c now. come c (left_more o cut before (left_since (disk new) (moment (disk old))) P run.each c (subst (λ (x : Option L). LeftWith x cut before (left_since (disk new) (moment (disk old))) c) is now));
  before = λ t c le now. ⊎_elim (λ past. inl (subst (λ (x : Option L). LeftWith x cut before (left_since (disk old) t) c) (sym was) past)) (λ p. inr (come c p))
      (left_either o cut before (left_since (disk new) t) (left_since (disk old) t) P (λ a here. run.before t a le here) c (subst (λ (x : Option L). LeftWith x cut before (left_since (disk new) t) c) is now));
}

pub leaves_still : {L D S : Type 0} {moment : D → ℕ} {left_since : D → ℕ → List ℕ → Type 0} (lent : Option L) (cut : L → ℕ) (before : L → List ℕ → Type 0) (had : L → journal.State → List Batch → Type 0) (disk : S → D) (lent_in : S → Option L) (old new : S) → lent_in old ≡ lent → lent_in new ≡ lent
    → (store : State) (v gives : List ℕ) (left : List ℕ → Type 0) → ((l : L) → lent ≡ Some l → cut l ≡ border_of (geometry_of store))
    → (IsStored store v gives left → LeavesOnly moment left_since (disk old) (disk new) (Means (meaning_in store v)))
    → ((batches : List Batch) → IsHomeKept store v batches gives left → LeavesOnly moment left_since (disk old) (disk new) (HoldsHome store v batches))
    → Keeps lent before had store v gives left → LeavesOnly (λ (s : S). moment (disk s)) (λ (s : S) t. LeftWith (lent_in s) cut before (left_since (disk s) t)) old new (Means (meaning_in store v))
leaves_still None cut before had disk lent_in old new was is store v gives left at stored home kept =
    owned_with None cut before disk lent_in old new (Means (meaning_in store v)) (Means (meaning_in store v)) was is (λ c means. means) (stored kept)
leaves_still (Some l) cut before had disk lent_in old new was is store v gives left at stored home (batches, over, log) =
    owned_with (Some l) cut before disk lent_in old new (HoldsHome store v batches) (Means (meaning_in store v)) was is
    (λ c (holds, behind). over_means store v batches gives left (before l) (cut l) (at l refl) over c holds behind) (home batches over.home)

-- The halves of a disk. A part below the border is in the home half what it is in the whole.
module _ {border : ℕ} {gives home_gives log_gives : List ℕ} {may_leave home_left log_left : List ℕ → Type 0} (halves : AreHalves border gives home_gives log_gives may_leave home_left log_left) (size : length home_gives ≡ border) where
  pub below_kept : ((a : List ℕ) → home_left a → length a ≡ border) → log_left log_gives → (part : Part) → part.start + part.len ≤ border → KeepsPart part gives home_gives may_leave home_left
  below_kept sizes here part within = record {
    gives = ap (inside part) (sym (gives_below halves size)) ∙ inside_below border part gives within;
    leaves = λ x (a, left, is). let (c, was, same) = left_below halves size sizes here a left in (c, was, is ∙ ap (inside part) same ∙ inside_below border part c within);
  }

  pub below_back : (part : Part) → part.start + part.len ≤ border → KeepsPart part home_gives gives home_left may_leave
  below_back part within = record {
    gives = sym (inside_below border part gives within) ∙ ap (inside part) (gives_below halves size);
    leaves = λ x (c, left, is). (take border c, (halves.apart c left).0, is ∙ sym (inside_below border part c within));
  }

  -- and one behind it is in the log half
  behind_is : (part : Part) (c : List ℕ) → border ≤ part.start → inside (part_behind part border) (drop border c) ≡ inside part c
  behind_is part c behind = inside_behind border part (part_behind part border) c (omega (arith, behind)) refl

  pub settled_behind : home_left home_gives → (j : journal.State) (batches : List Batch) → border ≤ j.part.start → IsSettled j batches gives may_leave → IsSettled (behind_border j border) batches log_gives log_left
  settled_behind here j batches behind was = record {
    holds = held_as (sym (sym (behind_is j.part gives behind) ∙ now)) was.holds;
    end = was.end;
    front = was.front;
    runs = was.runs;
    durable = λ x (y, left, is).
        let (c, may, same) = left_behind halves size here y left in
        is ∙ ap (inside (part_behind j.part border)) same ∙ behind_is j.part c behind ∙ was.durable (inside j.part c) (c, may, refl) ∙ sym (behind_is j.part gives behind) ∙ now;
  }
    where
      now : inside (part_behind j.part border) (drop border gives) ≡ inside (part_behind j.part border) log_gives
      now = ap (inside (part_behind j.part border)) (gives_behind halves size)

  pub settled_back : (j : journal.State) (batches : List Batch) → border ≤ j.part.start → IsSettled (behind_border j border) batches log_gives log_left → IsSettled j batches gives may_leave
  settled_back j batches behind was = record {
    holds = held_as (sym (sym now ∙ behind_is j.part gives behind)) was.holds;
    end = was.end;
    front = was.front;
    runs = was.runs;
    durable = λ x (c, left, is).
        is ∙ sym (behind_is j.part c behind) ∙ was.durable (inside (part_behind j.part border) (drop border c)) (drop border c, (halves.apart c left).1, refl) ∙ sym now ∙ behind_is j.part gives behind;
  }
    where
      now : inside (part_behind j.part border) (drop border gives) ≡ inside (part_behind j.part border) log_gives
      now = ap (inside (part_behind j.part border)) (gives_behind halves size)

-- the home half of a disk, or the whole again, keeps what it kept
home_still : {store : State} {v : List ℕ} {batches : List Batch} {old new : List ℕ} {left_old left_new : List ℕ → Type 0} → KeepsPart superblock_part old new left_old left_new → KeepsPart (home_part (geometry_of store)) old new left_old left_new
    → IsHomeKept store v batches old left_old → IsHomeKept store v batches new left_new
home_still {store} superblock region was = record {
  stands = was.stands;
  superblock = still_settled_home superblock was.superblock;
  is_whole = was.is_whole;
  region = region_still region.gives region.leaves was.region;
  cached = subst (Agrees store.cache) (sym region.gives) was.cached;
  runs = was.runs;
}

-- a disk that was left as it was keeps what it kept
pub stored_untouched : {store : State} {v gives now : List ℕ} {left left_now : List ℕ → Type 0} → now ≡ gives → NothingNew left left_now → IsStored store v gives left → IsStored store v now left_now
stored_untouched {store} {v} {gives} {now} {left} {left_now} same nothing was = record {
  stands = was.stands;
  superblock = still_settled_home (keeps superblock_part) was.superblock;
  is_whole = was.is_whole;
  batches = was.batches;
  area = still_settled (keeps store.journal.part) was.area;
  region = region_still (keeps (home_part (geometry_of store))).gives (keeps (home_part (geometry_of store))).leaves was.region;
  cached = subst (Agrees store.cache) (sym (keeps (home_part (geometry_of store))).gives) was.cached;
  runs = was.runs;
}
  where
    keeps : (part : Part) → KeepsPart part gives now left left_now
    keeps part = record { gives = ap (inside part) same; leaves = λ x (c, may, is). (c, nothing c may, is) }

-- the home half of a disk that keeps a volume
home_of : {store : State} {v gives : List ℕ} {left : List ℕ → Type 0} (was : IsStored store v gives left) → IsHomeKept store v was.batches gives left
home_of was = record { stands = was.stands; superblock = was.superblock; is_whole = was.is_whole; region = was.region; cached = was.cached; runs = was.runs }

module _ (store : State) (v : List ℕ) {gives home_gives log_gives : List ℕ} {may_leave home_left log_left : List ℕ → Type 0}
    (halves : AreHalves (border_of (geometry_of store)) gives home_gives log_gives may_leave home_left log_left) (size : length home_gives ≡ border_of (geometry_of store)) where
  -- as the log is lent
  pub lent_over : ((a : List ℕ) → home_left a → length a ≡ border_of (geometry_of store)) → log_left log_gives → (left_before : List ℕ → Type 0) → ((c : List ℕ) → left_before c → may_leave c) → (was : IsStored store v gives may_leave)
      → IsKeptOver store v was.batches home_gives home_left left_before
  lent_over sizes here left_before past was = record {
    home = home_still (below_kept halves size sizes here superblock_part (omega arith)) (below_kept halves size sizes here (home_part (geometry_of store)) (omega arith)) (home_of was);
    front = was.area.front;
    held = λ c may. subst (HoldsBatches store.journal.blocks store.journal.before was.batches) (sym (was.area.durable (inside store.journal.part c) (c, past c may, refl))) was.area.holds;
  }

  pub lent_settled : home_left home_gives → (was : IsStored store v gives may_leave) → IsSettled (behind_border store.journal (border_of (geometry_of store))) was.batches log_gives log_left
  lent_settled here was = settled_behind halves size here store.journal was.batches (journal_behind store was.stands) was.area

  -- as it is back: nothing was journaled
  home_back : (batches : List Batch) → IsHomeKept store v batches home_gives home_left → IsHomeKept store v batches gives may_leave
  home_back batches was = home_still (below_back halves size superblock_part (omega arith)) (below_back halves size (home_part (geometry_of store)) (omega arith)) was

  pub back_at_old : (batches : List Batch) → IsHomeKept store v batches home_gives home_left → IsSettled (behind_border store.journal (border_of (geometry_of store))) batches log_gives log_left → IsStored store v gives may_leave
  back_at_old batches was settled =
      let home = home_back batches was in
      record {
        stands = home.stands;
        superblock = home.superblock;
        is_whole = home.is_whole;
        batches = batches;
        area = settled_back halves size store.journal batches (journal_behind store was.stands) settled;
        region = home.region;
        cached = home.cached;
        runs = home.runs;
      }

  -- or a batch was
  pub back_at_new : (batches : List Batch) (batch : Batch) → IsHomeKept store v batches home_gives home_left
      → IsSettled (appended (behind_border store.journal (border_of (geometry_of store))) batch.front batch.images) (batches ++ batch ∷ []) log_gives log_left
      → IsStored (committed store batch.front batch.images) (with_images v batch.images) gives may_leave
  back_at_new batches batch was settled =
      let home = home_back batches was in
      let of = was.stands in
      let now = appended store.journal batch.front batch.images in
      let area : IsSettled now (batches ++ batch ∷ []) gives may_leave = settled_back halves size now (batches ++ batch ∷ []) (journal_behind store of) settled in
      let fit = all_fit store.journal.blocks store.journal.before (batches ++ batch ∷ []) area.holds.are in
      record {
        stands = record { part = of.part; slot = of.slot; blocks = of.blocks; before = of.before };
        superblock = home.superblock;
        is_whole = home.is_whole;
        batches = batches ++ batch ∷ [];
        area = area;
        cached = home.cached;
        region = one_batch batch (last_fits (geometry_of store).blocks batches batch (subst (λ (n : ℕ). AllFitIn n (batches ++ batch ∷ [])) of.blocks fit)) home.region;
        runs = home.runs;
      }

-- what the halves hold, the one behind the other, means the old front and volume, or the new ones
new_means : (store : State) (v : List ℕ) (batches : List Batch) (batch : Batch) (c : List ℕ) → IsOfSuperblock store → store.home.superblock.progress ≡ Whole → HoldsHome store v batches (take (border_of (geometry_of store)) c)
    → HoldsBatches store.journal.blocks store.journal.before (batches ++ batch ∷ []) (inside store.journal.part c) → Means (meaning_after store v batch.front batch.images) c
new_means store v batches batch c of whole home area =
    let border = border_of (geometry_of store) in
    let region = ap (λ (l : List ℕ). with_batches l batches) (sym (inside_below border (home_part (geometry_of store)) c (omega arith))) ∙ home.region in
    subst (λ (n : ℕ). Means (record { slot = store.home.superblock.slot; incarnation = store.home.superblock.incarnation; geometry = geometry_of store; front = n; volume = with_images v batch.images }) c)
    (last_front-push store.home.superblock.front batches batch)
    (parts_mean store (with_images v batch.images) (batches ++ batch ∷ []) c of whole (holds_below border c (omega arith) home.superblock) area
    (with_batches-push (inside (home_part (geometry_of store)) c) batches batch ∙ ap (λ (w : List ℕ). with_images w batch.images) region))

pub halves_come : (store : State) (v : List ℕ) (batches : List Batch) (batch : Batch) (a x : List ℕ) → IsOfSuperblock store → store.home.superblock.progress ≡ Whole → store.journal.front ≡ last_front store.journal.before batches
    → length a ≡ border_of (geometry_of store) → HoldsHome store v batches a → HoldsOldOrNew store.journal.blocks store.journal.before batches batch (inside (part_behind store.journal.part (border_of (geometry_of store))) x)
    → Means (meaning_in store v) (a ++ x) ⊎ Means (meaning_after store v batch.front batch.images) (a ++ x)
halves_come store v batches batch a x of whole front long home area =
    let border = border_of (geometry_of store) in
    let below = subst (HoldsHome store v batches) (sym (take_at a x border long)) home in
    let same : inside (part_behind store.journal.part border) x ≡ inside store.journal.part (a ++ x) = ap (inside (part_behind store.journal.part border)) (sym (drop_at a x border long)) ∙ inside_journal store (a ++ x) of in
    ⊎_elim (λ old. inl (halves_mean_old store v batches (a ++ x) of whole front below (subst (HoldsBatches store.journal.blocks store.journal.before batches) same old)))
    (λ new. inr (new_means store v batches batch (a ++ x) of whole below (subst (HoldsBatches store.journal.blocks store.journal.before (batches ++ batch ∷ [])) same new))) area

-- before anything, the halves hold the old batches and the home under them
pub first_beside : (store : State) (v gives : List ℕ) (left : List ℕ → Type 0) (was : IsStored store v gives left) (batch : Batch) (d : List ℕ) → left d
    → HoldsHome store v was.batches (take (border_of (geometry_of store)) d)
    × HoldsOldOrNew store.journal.blocks store.journal.before was.batches batch (inside (part_behind store.journal.part (border_of (geometry_of store))) (drop (border_of (geometry_of store)) d))
first_beside store v gives left was batch d may =
    let border = border_of (geometry_of store) in
    let holds = settled_leaves was.superblock d may in (
      record {
        superblock = record {
          is = holds.is;
          payload = record {
            slots = holds.payload.slots;
            holds = subst (HoldsPair holds.payload.slots) (sym (inside_below border superblock_part d (omega arith))) holds.payload.holds;
            number = holds.payload.number;
            is_newest = holds.payload.is_newest;
          };
          migrates = holds.migrates;
        };
        region = ap (λ (l : List ℕ). with_batches l was.batches) (inside_below border (home_part (geometry_of store)) d (omega arith)) ∙ was.region.left (inside (home_part (geometry_of store)) d) (d, may, refl);
      },
      inl (subst (HoldsBatches store.journal.blocks store.journal.before was.batches) (sym (inside_journal store d was.stands ∙ was.area.durable (inside store.journal.part d) (d, may, refl))) was.area.holds),
    )

pub halves_at : (store : State) (v : List ℕ) (batches : List Batch) (batch : Batch) (d : List ℕ) → IsOfSuperblock store → store.home.superblock.progress ≡ Whole → store.journal.front ≡ last_front store.journal.before batches
    → HoldsHome store v batches (take (border_of (geometry_of store)) d)
    → HoldsOldOrNew store.journal.blocks store.journal.before batches batch (inside (part_behind store.journal.part (border_of (geometry_of store))) (drop (border_of (geometry_of store)) d))
    → Means (meaning_in store v) d ⊎ Means (meaning_after store v batch.front batch.images) d
halves_at store v batches batch d of whole front home area =
    let same = inside_journal store d of in
    ⊎_elim (λ old. inl (halves_mean_old store v batches d of whole front home (subst (HoldsBatches store.journal.blocks store.journal.before batches) same old)))
    (λ new. inr (new_means store v batches batch d of whole home (subst (HoldsBatches store.journal.blocks store.journal.before (batches ++ batch ∷ [])) same new))) area

pub some_of : {T : Type 0} (o : Option T) → IsSome o → (x : T) × (o ≡ Some x)
some_of None is = absurd (both_ways false refl is)
some_of (Some x) is = (x, refl)

caused_by : (before log now : ℕ) (e : JournalRefusal) → journals.IsCaused before log e → log ≤ now → IsCaused before now (by_journal e)
caused_by before log now variants.Memory caused le = tt
caused_by before log now variants.Full caused le = tt
caused_by before log now variants.Broken caused le = tt
caused_by before log now variants.Damaged caused le = tt
caused_by before log now (variants.Device error) caused le = λ other. omega (arith, caused other, le)

pub caused_back : {R : Type 0} (outcome : Result R JournalRefusal) (result : Result R Refusal) (before home log now : ℕ) → now ≡ max home log → home ≡ before → journals.HasCause before log outcome
    → MatchResult outcome (λ x. result ≡ Ok x) (λ e. result ≡ Err (by_journal e)) → HasCause before now result
caused_back (Ok x) result before home log now is same cause answer =
    subst (λ (r : Result _ Refusal). HasCause before now r) (sym answer) (record { later = omega (arith, is, same, cause.later); done = omega (arith, is, same, cause.done); failed = tt })
caused_back (Err e) result before home log now is same cause answer =
    subst (λ (r : Result _ Refusal). HasCause before now r) (sym answer) (record { later = omega (arith, is, same, cause.later); done = tt; failed = caused_by before log now e cause.failed (omega (arith, is)) })

pub on_err : {T E P : Type 0} (r : Result T E) → P → OnErr r P
on_err (Ok x) p = tt
on_err (Err e) p = p

-- what wasn't refused for a broken store isn't one's
pub runs_if : {T : Type 0} (b : Bool) (x : T) (r : Refusal) → (b ≡ true → IsErrOf (Ok x) r) → b ≡ false
runs_if false x r told = refl
runs_if true x r told = let e = told refl in cc
