-- What disks are seen as that are opened one after another: lemmas.
use Rattle.std.proofs.Common.{◌≡◌, ◌+◌, ◌<◌, ◌≤◌, ℕ, zero, suc, Bool, true, List, [], ◌∷◌, ◌++◌, length, refl, ap, sym, subst, ◌∙◌, inl, inr, arith}
use Rattle.std.specs.Prelude.{◌⊎◌, All, Err, IfErr, IfNone, IfOk, IfSome, None, Ok, OnOk, Option, Result, Some, slice_get}
use Rattle.std.specs.List.{AllZip}
use Rattle.std.proofs.lemmas.List.{append_assoc}
use Rattle.std.proofs.lemmas.List.Elements.{All-head, All-tail}
use Rattle.std.proofs.lemmas.Option.{same_Some}
use Rattle.chain.specs.Opening.{recorded_in}
use Rattle.configurations.specs.Record.{AreMembers, Record}
use Rattle.configurations.specs.Refusal.{IsCaused as IsConfigCaused, IsOfOpening as IsOfConfigOpening}
use Rattle.configurations.specs.Store.{HoldsNone}
use Rattle.configurations.specs.declared.member.Member.{Member}
use Rattle.configurations.specs.declared.refusal.Refusal as config_refusal
use Rattle.configurations.specs.declared.refusal.Refusal.TheVariants as configs
use Rattle.disk_model.specs.Memory.{failures_of, given_of, most_failures_of, size_of}
use Rattle.disk_model.specs.Part.{inside}
use Rattle.disk_model.specs.declared.error.DiskError.TheVariants as faults
use Rattle.disk_model.specs.declared.memory.MemDisk.{MemDisk}
use Rattle.home_blocks.specs.Places.{disk_size_of}
use Rattle.local_store.specs.Meaning.{IsOpenable, Meaning, Means}
use Rattle.local_store.specs.Refusal.{IsCaused, IsNotOfDevice}
use Rattle.local_store.specs.Store.{meaning_in}
use Rattle.local_store.specs.declared.refusal.Refusal as store
use Rattle.local_store.specs.declared.refusal.Refusal.TheVariants as stores
use Rattle.recovery.specs.Choice.{IsSource, NoneRecorded}
use Rattle.recovery.specs.declared.returned.Returned.{Returned}
use Rattle.recovery.specs.declared.returned.Returned.TheVariants.{Opened, Unopened}
use Rattle.life.specs.Begun.{IsOfMember}
use Rattle.life.specs.Managed.{StandsOn, config_part}
use Rattle.life.specs.Recovered.{AreOpenedWell, AreSeen, AreSeenFrom, AreStrangers, HasChain, IsChosen, IsRead, IsReadWell, IsSeenAs, IsSeenIf, IsWellAt, OneHasFailed, StandsThere, comes_back, is_opened}
use Rattle.life.specs.Refusal.{IsCausedByConfig, IsOfChoosing, IsOfLooking, IsOfMemory, IsOfReopening}
use Rattle.life.specs.declared.managed.SlotDisk.{SlotDisk}
use Rattle.life.specs.declared.refusal.Refusal.{Refusal}
use Rattle.life.specs.declared.refusal.Refusal.TheVariants.{Config, Memory, NoneReturned, NotInChain, Store}
use Rattle.life.proofs.Chosen.{seen_more}
use Rattle.life.proofs.Starting.{IsStore, about_of_store}

-- a number is 0 or more
none_or_some : (n : ℕ) → (n ≡ 0) ⊎ (0 < n)
none_or_some zero = inl refl
none_or_some (suc k) = inr (omega arith)

-- ---- what the disk of a store is seen as

-- by its incarnation
pub seen_by_store : (disk : MemDisk) (store : IsStore) (volume : List ℕ) (s : Returned) → ((one other : Meaning) (bytes : List ℕ) → Means one bytes → Means other bytes → one ≡ other) → Means (meaning_in store.contents volume) (given_of disk)
    → given_of store.disk ≡ given_of disk → ((about_of_store store).incarnation ≡ 0 → s ≡ Unopened) → (0 < (about_of_store store).incarnation → s ≡ Opened (recorded_in about_of_store store) (about_of_store store).front) → IsSeenAs disk s
seen_by_store disk store volume s one means same none member = elim (none_or_some (about_of_store store).incarnation) [
  | inl is ↦
      subst (IsSeenAs disk) (sym (none is)) (λ (own : IsOfMember disk).
      let alike = ap (λ (m : Meaning). m.incarnation) (one own.meaning (meaning_in store.contents volume) (given_of disk) own.means means) in
      let given = own.given in
      absurd (omega (arith, is, alike, given)))
  | inr is ↦
      subst (IsSeenAs disk) (sym (member is)) (
        record {
          meaning = meaning_in store.contents volume;
          means = means;
          given = is;
          long = let room = store.room in let alike = ap (λ (l : List ℕ). length l) same in omega (arith, room, alike);
        },
        refl,
        refl,
      )
]

-- ---- a disk that isn't opened

-- it is no member's, as a member's is refused in other ways
pub seen_unopened : (disk : MemDisk) (refusal : store.Refusal) → ((refusal ≡ stores.NotAVolume) ⊎ ((refusal ≡ stores.OtherVersion) ⊎ (refusal ≡ stores.Unfinished))) → (IsOpenable (given_of disk) → IsOfReopening refusal)
    → ((meaning : Meaning) (bytes : List ℕ) → Means meaning bytes → disk_size_of meaning.geometry ≤ length bytes → IsOpenable bytes) → IsSeenAs disk Unopened
seen_unopened disk refusal is reopens opened = λ (own : IsOfMember disk).
    let told = reopens (opened own.meaning (given_of disk) own.means own.long) in
    elim is [ inl away ↦ subst IsOfReopening away told | inr (inl other) ↦ subst IsOfReopening other told | inr (inr unfinished) ↦ subst IsOfReopening unfinished told ]

-- ---- disks that are looked at one after another

-- a disk that nothing was done to was only read
read_as_was : (d : SlotDisk MemDisk) → IsRead d d
read_as_was d = (refl, record { same = refl; leaves = λ x left. left })

pub all_as_they_were : (disks : List (SlotDisk MemDisk)) → AllZip IsRead disks disks
all_as_they_were [] = tt
all_as_they_were (d ∷ disks) = (read_as_was d, all_as_they_were disks)

-- one more was opened well, or not opened
opened_more : (returned : List ℕ) (place : ℕ) (disks back : List (SlotDisk MemDisk)) (seen : List Returned) (d b : SlotDisk MemDisk) (s : Returned) → AllZip IsRead disks back → AreSeenFrom returned place disks seen → AreOpenedWell disks back seen
    → (is_opened s ≡ true → IsReadWell d b) → AreOpenedWell (disks ++ d ∷ []) (back ++ b ∷ []) (seen ++ s ∷ [])
opened_more returned place [] [] [] d b s read are well is = (is, tt)
opened_more returned place [] [] (y ∷ seen) d b s read are well is = absurd are
opened_more returned place [] (n ∷ back) seen d b s read are well is = absurd read
opened_more returned place (w ∷ disks) [] seen d b s read are well is = absurd read
opened_more returned place (w ∷ disks) (n ∷ back) [] d b s read are well is = absurd are
opened_more returned place (w ∷ disks) (n ∷ back) (y ∷ seen) d b s read are well is = (well.0, opened_more returned (place + 1) disks back seen d b s read.1 are.1 well.1 is)

-- where nothing was refused so far, one more was looked at
pub looked_more : (returned : List ℕ) (refused : Option store.Refusal) (returns : Bool) (disks back : List (SlotDisk MemDisk)) (seen : List Returned) (d b : SlotDisk MemDisk) (s : Returned) → AllZip IsRead disks back
    → (refused ≡ None → returns ≡ comes_back returned (length disks)) → IfNone refused (AreSeen returned disks seen × AreOpenedWell disks back seen) → IsSeenIf returns d.disk s → (is_opened s ≡ true → IsReadWell d b)
    → IfNone refused (AreSeen returned (disks ++ d ∷ []) (seen ++ s ∷ []) × AreOpenedWell (disks ++ d ∷ []) (back ++ b ∷ []) (seen ++ s ∷ []))
looked_more returned (Some r) returns disks back seen d b s read same so is opened = tt
looked_more returned None returns disks back seen d b s read same so is opened = (
  seen_more returned 0 disks seen d s so.0
      (subst (λ (k : ℕ). IsSeenIf (comes_back returned k) d.disk s) (let e : length disks ≡ 0 + length disks = omega arith in e) (subst (λ (k : Bool). IsSeenIf k d.disk s) (same refl) is)),
  opened_more returned 0 disks back seen d b s read so.0 so.1 opened,
)

-- an item stays at its place as one more comes behind it, which is the last one then
there_still : {A : Type 0} (xs : List A) (x y : A) (k : ℕ) → slice_get xs k ≡ Some x → slice_get (xs ++ y ∷ []) k ≡ Some x
there_still [] x y k there = let none : None ≡ Some x = there in absurd (cc)
there_still (z ∷ xs) x y zero there = there
there_still (z ∷ xs) x y (suc k) there = there_still xs x y k there

last_there : {A : Type 0} (xs : List A) (y : A) → slice_get (xs ++ y ∷ []) (length xs) ≡ Some y
last_there [] y = refl
last_there (x ∷ xs) y = last_there xs y

-- no disk of these can fail any more
abbrev pub AreCalm : List (SlotDisk MemDisk) → Type 0
AreCalm disks = All (λ d. failures_of d.disk ≡ most_failures_of d.disk) disks

-- the refusal is that of one of those that were looked at
abbrev pub IsOneOfThem : List (SlotDisk MemDisk) → List (SlotDisk MemDisk) → List (SlotDisk MemDisk) → store.Refusal → Type 0
IsOneOfThem all disks back r = IsOfReopening r × OneHasFailed disks back r × (AreCalm all → IsNotOfDevice r)

-- it is so of one more
pub refused_still : (refused : Option store.Refusal) (all disks back : List (SlotDisk MemDisk)) (d b : SlotDisk MemDisk) → IfSome refused (IsOneOfThem all disks back) → IfSome refused (IsOneOfThem all (disks ++ d ∷ []) (back ++ b ∷ []))
refused_still None all disks back d b is = tt
refused_still (Some r) all disks back d b (told, failed, calm) = (
  told,
  record { place = failed.place; was = failed.was; now = failed.now; there = there_still disks failed.was d failed.place failed.there; came_back = there_still back failed.now b failed.place failed.came_back; cause = failed.cause },
  calm,
)

-- what is so of all is so of the one behind these
so_behind : {A : Type 0} (P : A → Type 0) (xs ys : List A) (x : A) → All P (xs ++ x ∷ ys) → P x
so_behind P [] ys x all = All-head P x ys all
so_behind P (z ∷ xs) ys x all = so_behind P xs ys x (All-tail P z (xs ++ x ∷ ys) all)

-- and one more was refused
pub refused_last : (r : store.Refusal) (all disks rest back : List (SlotDisk MemDisk)) (d b : SlotDisk MemDisk) → (disks ++ d ∷ []) ++ rest ≡ all → length back ≡ length disks → IsOfReopening r → IsCaused (failures_of d.disk) (failures_of b.disk) r
    → (failures_of d.disk ≡ most_failures_of d.disk → IsNotOfDevice r) → IsOneOfThem all (disks ++ d ∷ []) (back ++ b ∷ []) r
refused_last r all disks rest back d b whole same told cause calm = (
  told,
  record { place = length disks; was = d; now = b; there = last_there disks d; came_back = subst (λ (k : ℕ). slice_get (back ++ b ∷ []) k ≡ Some b) same (last_there back b); cause = cause },
  λ are. calm (so_behind (λ d. failures_of d.disk ≡ most_failures_of d.disk) disks rest d (subst AreCalm (sym whole ∙ append_assoc disks (d ∷ []) rest) are)),
)

-- ---- the choice

-- what is so of three items is so of those that they are
moved : {A B C : Type 0} (P : A → B → C → Type 0) (a x : A) (b y : B) (c z : C) → Some a ≡ Some x → Some b ≡ Some y → Some c ≡ Some z → P a b c → P x y z
moved P a x b y c z one two three is = subst (λ x. P x y z) (same_Some a x one) (subst (λ y. P a y z) (same_Some b y two) (subst (P a b) (same_Some c z three) is))

-- the one at a place that was opened was read well
well_at : (disks back : List (SlotDisk MemDisk)) (seen : List Returned) (place : ℕ) (s : Returned) (d b : SlotDisk MemDisk) → AreOpenedWell disks back seen → slice_get seen place ≡ Some s → slice_get disks place ≡ Some d → slice_get back place ≡ Some b
    → is_opened s ≡ true → IsReadWell d b
well_at [] back seen place s d b well there here came opened = let none : None ≡ Some d = here in absurd (cc)
well_at (w ∷ disks) [] seen place s d b well there here came opened = let none : None ≡ Some b = came in absurd (cc)
well_at (w ∷ disks) (n ∷ back) [] place s d b well there here came opened = let none : None ≡ Some s = there in absurd (cc)
well_at (w ∷ disks) (n ∷ back) (y ∷ seen) zero s d b well there here came opened = moved (λ d b s. is_opened s ≡ true → IsReadWell d b) w d n b y s here came there well.0 opened
well_at (w ∷ disks) (n ∷ back) (y ∷ seen) (suc k) s d b well there here came opened = well_at disks back seen k s d b well.1 there here came opened

-- so the source was
pub source_well : (disks back : List (SlotDisk MemDisk)) (seen : List Returned) (members : List Member) (choice : Result ℕ Refusal) → AreOpenedWell disks back seen → IfOk choice (IsSource members seen) → IfOk choice (IsWellAt disks back)
source_well disks back seen members (Ok place) well source = λ d b here came. well_at disks back seen place (Opened source.is.member source.front) d b well source.is.opened here came refl
source_well disks back seen members (Err r) well source = tt

-- the source is chosen by the record that stands
pub source_chosen : (returned : List ℕ) (disks : List (SlotDisk MemDisk)) (config : MemDisk) (r : Record) (seen : List Returned) (choice : Result ℕ Refusal) → StandsOn (given_of config) r → AreMembers r.members → AreSeen returned disks seen
    → IfOk choice (IsSource r.members seen) → IfOk choice (λ place. (x : Record) × StandsThere config x × IsChosen returned disks x place)
source_chosen returned disks config r seen (Ok place) stands members are source = (r, record { stands = stands; members = members }, record { seen = seen; are_seen = are; source = source })
source_chosen returned disks config r seen (Err e) stands members are source = tt

-- or none is a member's
pub none_chosen : (returned : List ℕ) (disks : List (SlotDisk MemDisk)) (config : MemDisk) (r : Record) (seen : List Returned) (choice : Result ℕ Refusal) → StandsOn (given_of config) r → AreMembers r.members → AreSeen returned disks seen
    → IfErr choice (λ e. (e ≡ NotInChain) × NoneRecorded r.members seen) → choice ≡ Err NotInChain → AreStrangers returned disks config
none_chosen returned disks config r seen (Ok place) stands members are none is = let clash : Ok place ≡ Err NotInChain = is in absurd (cc)
none_chosen returned disks config r seen (Err e) stands members are none is = record { recorded = r; there = record { stands = stands; members = members }; seen = seen; are_seen = are; none = none.1 }

-- what is so of that refusal is so of the choice's
pub of_choice : (choice : Result ℕ Refusal) (N : Type 0) (P : Refusal → Type 0) → IfErr choice (λ e. (e ≡ NotInChain) × N) → P NotInChain → IfErr choice P
of_choice (Ok place) N P none so = tt
of_choice (Err e) N P none so = subst P (sym none.0) so

-- what is so of each refusal that there may be is so of the one that there is
pub of_refusal : {T : Type 0} (result : Result T Refusal) (P : Refusal → Type 0) (e : Refusal) → IfErr result P → result ≡ Err e → P e
of_refusal result P e so is = subst (λ r. IfErr r P) is so

-- and there is one at most
pub of_same : {T : Type 0} (result : Result T Refusal) (P : Refusal → Type 0) (e other : Refusal) → result ≡ Err e → result ≡ Err other → P e → P other
of_same result P e other one two so = subst (λ r. IfErr r P) (sym one ∙ two) so

-- what is so anyway is so where there is a choice
pub anyway : (choice : Result ℕ Refusal) (P : Type 0) → P → OnOk choice P
anyway (Ok place) P so = so
anyway (Err e) P so = tt

-- a refusal as the disks are looked at is one of the choice, and none of the configuration's disk
pub looking_chooses : (e : Refusal) → IsOfLooking e → IsOfChoosing e
looking_chooses Memory is = tt
looking_chooses NoneReturned is = absurd is
looking_chooses NotInChain is = absurd is
looking_chooses (Store refusal) is = is
looking_chooses (Config refusal) is = absurd is

pub looking_without_config : (before now : ℕ) (e : Refusal) → IsOfLooking e → IsCausedByConfig before now e
looking_without_config before now Memory is = tt
looking_without_config before now NoneReturned is = absurd is
looking_without_config before now NotInChain is = absurd is
looking_without_config before now (Store refusal) is = tt
looking_without_config before now (Config refusal) is = absurd is

-- where a record stands on the configuration's disk, which can't fail any more, memory ran out
pub config_calm : (config : MemDisk) (now : ℕ) (refusal : config_refusal.Refusal) → IsOfConfigOpening refusal → (refusal ≡ configs.NoRecord → (size_of config < 8192) ⊎ HoldsNone (inside config_part (given_of config)))
    → IsConfigCaused (failures_of config) now refusal → now ≤ failures_of config → HasChain config → IsOfMemory (Config refusal)
config_calm config now configs.Memory told none caused le has = tt
config_calm config now configs.Broken told none caused le has = absurd told
config_calm config now configs.NoRecord told none caused le has = elim (none refl) [ inl short ↦ let long = has.long in absurd (omega (arith, long, short)) | inr nothing ↦ absurd (nothing has.recorded has.stands) ]
config_calm config now configs.NotNext told none caused le has = absurd told
config_calm config now configs.BadMembers told none caused le has = absurd told
config_calm config now (configs.Device faults.Memory) told none caused le has = refl
config_calm config now (configs.Device faults.ReadFault) told none caused le has = absurd (omega (arith, le, caused (λ same. let e : faults.ReadFault ≡ faults.Memory = same in cc)))
config_calm config now (configs.Device faults.WriteFault) told none caused le has = absurd (omega (arith, le, caused (λ same. let e : faults.WriteFault ≡ faults.Memory = same in cc)))
config_calm config now (configs.Device faults.SyncFault) told none caused le has = absurd (omega (arith, le, caused (λ same. let e : faults.SyncFault ≡ faults.Memory = same in cc)))
config_calm config now (configs.Device faults.Stopped) told none caused le has = absurd (omega (arith, le, caused (λ same. let e : faults.Stopped ≡ faults.Memory = same in cc)))
