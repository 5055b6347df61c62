-- Why a recovery is refused, and what one that was broken off leaves of the configuration's disk: lemmas.
use Rattle.std.proofs.Common.{◌≡◌, ℕ, ◌+◌, ◌<◌, ◌≤◌, List, [], ◌∷◌, length, inl, inr, refl, ap, sym, subst, ◌∙◌, arith}
use Rattle.std.specs.Prelude.{◌⊎◌, ◌≢◌, None, Option, Some}
use Rattle.std.proofs.lemmas.List.Elements.{All-cons, All-nil}
use Rattle.std.proofs.lemmas.Option.{same_Some}
use Rattle.configurations.specs.Record.{Record}
use Rattle.configurations.specs.Refusal.{IsCaused as IsConfigCaused, IsOfOpening as IsOfConfigOpening}
use Rattle.configurations.specs.Store.{HoldsNone, HoldsNumbered, HoldsOldOrNext, HoldsRecord, IsSettledConfig, State, numbered_holds, recorded, settled_leaves_numbered, settled_numbered}
use Rattle.configurations.specs.declared.member.Member.{Member}
use Rattle.configurations.specs.declared.refusal.Refusal as config_refusal
use Rattle.configurations.specs.declared.refusal.Refusal.TheVariants as configs
use Rattle.disk_model.specs.Counts.{within_by}
use Rattle.disk_model.specs.Disk.{LeavesOnly, NothingNew}
use Rattle.disk_model.specs.Memory.{failures_of, given_of, has_stopped, left_since, may_be_left, moment_of, most_failures_of, script_of, size_of}
use Rattle.disk_model.specs.Part.{inside}
use Rattle.disk_model.specs.declared.error.DiskError.{DiskError}
use Rattle.disk_model.specs.declared.error.DiskError.TheVariants as faults
use Rattle.disk_model.specs.declared.memory.MemDisk.{MemDisk}
use Rattle.disk_model.specs.declared.part.Part.{Part}
use Rattle.gate_journal.specs.Runs.{OnlyReads}
use Rattle.gate_journal.specs.declared.batch.TheConstants.{MAX_NUMBER}
use Rattle.local_store.specs.About.{About, migrated}
use Rattle.local_store.specs.Meaning.{Meaning, Means}
use Rattle.local_store.specs.Refusal.{IsOfDevice, IsOfOpening}
use Rattle.local_store.specs.declared.refusal.Refusal as store_refusal
use Rattle.local_store.specs.declared.refusal.Refusal.TheVariants as stores
use Rattle.chain.specs.Opening.{recorded_in}
use Rattle.life.specs.Begun.{AreOfMember, MeansStill}
use Rattle.life.specs.Managed.{IsLast, StandsAs, config_part}
use Rattle.life.specs.Recovered.{HasMember, IsUnwritten, MayReturn, RecordsStill, alone_behind, recorded_as}
use Rattle.life.specs.Refusal.{IsOfCalm, IsOfRecord, IsOfRecovering, IsOfReopening, IsOfReturning}
use Rattle.life.specs.declared.refusal.Refusal.{Refusal}
use Rattle.life.specs.declared.refusal.Refusal.TheVariants.{Config, Memory, NoneReturned, NotInChain, Store}
use Rattle.life.proofs.Returning.{migrated_as}
use Rattle.life.proofs.Configured.{left_by_run}
use Rattle.life.proofs.Starting.{IsStore, about_of_store}

-- whatever may be left of a settled store's disk has its record, with its number
still_numbered : (store : State) (disk : MemDisk) → store.pair.part ≡ config_part → IsSettledConfig store (given_of disk) (may_be_left disk) → (bytes : List ℕ) → may_be_left disk bytes
    → StandsAs bytes store.current store.pair.number
still_numbered store disk part settled bytes left =
    subst (λ (p : Part). HoldsNumbered store.current store.pair.number (inside p bytes)) part (settled_leaves_numbered settled (inside store.pair.part bytes) (bytes, left, refl))

-- so no other record than the old one or the next may be left
pub stands_old : (store : State) (disk : MemDisk) (next : Record) → store.pair.part ≡ config_part → IsSettledConfig store (given_of disk) (may_be_left disk) → (bytes : List ℕ) → may_be_left disk bytes
    → HoldsOldOrNext store next (inside config_part bytes)
stands_old store disk next part settled bytes left = inl (still_numbered store disk part settled bytes left)

-- a store that was recording leaves the old record or the next
pub stands_either : (store : State) (old new : MemDisk) (made next : Record) → store.pair.part ≡ config_part → made ≡ next
    → LeavesOnly moment_of left_since old new (λ c. HoldsOldOrNext store made (inside store.pair.part c)) → (bytes : List ℕ) → may_be_left new bytes → HoldsOldOrNext store next (inside config_part bytes)
stands_either store old new made next part same run bytes left =
    subst (λ (r : Record). HoldsOldOrNext store r (inside config_part bytes)) same
    (subst (λ (p : Part). HoldsOldOrNext store made (inside p bytes)) part (left_by_run old new (λ c. HoldsOldOrNext store made (inside store.pair.part c)) run bytes left))

-- the record of a store's member alone with the next epoch follows
pub follows : {S : Type 0} (about : S → About) (found next : Record) (store : S) (epoch : ℕ) → next ≡ record { epoch = epoch; members = recorded_in about store ∷ [] } → epoch ≡ found.epoch + 1 → next ≡ alone_behind found (recorded_in about store)
follows about found next store epoch is more = is ∙ ap (λ (e : ℕ). record { epoch = e; members = recorded_in about store ∷ [] }) more

-- ---- why a recovery is refused

-- a disk whose failures can't rise failed in no call but for memory
failed_for_memory : (error : DiskError) (before now : ℕ) → (error ≢ faults.Memory → before < now) → now ≤ before → error ≡ faults.Memory
failed_for_memory faults.Memory before now caused le = refl
failed_for_memory faults.ReadFault before now caused le = absurd (omega (arith, le, caused (λ same. let e : faults.ReadFault ≡ faults.Memory = same in cc)))
failed_for_memory faults.WriteFault before now caused le = absurd (omega (arith, le, caused (λ same. let e : faults.WriteFault ≡ faults.Memory = same in cc)))
failed_for_memory faults.SyncFault before now caused le = absurd (omega (arith, le, caused (λ same. let e : faults.SyncFault ≡ faults.Memory = same in cc)))
failed_for_memory faults.Stopped before now caused le = absurd (omega (arith, le, caused (λ same. let e : faults.Stopped ≡ faults.Memory = same in cc)))

-- a configuration's disk with which a chain may return isn't too short, and has a record
has_record : (disk config : MemDisk) → MayReturn disk config → (size_of config < 8192) ⊎ HoldsNone (inside config_part (given_of config)) → ⊥
has_record disk config may (inl short) = omega (arith, may.long, short)
has_record disk config may (inr none) = none may.recorded may.stands

-- so its opening isn't refused for want of a record
pub opening_returns : (disk config : MemDisk) (refusal : config_refusal.Refusal) → IsOfConfigOpening refusal → (refusal ≡ configs.NoRecord → (size_of config < 8192) ⊎ HoldsNone (inside config_part (given_of config)))
    → MayReturn disk config → IsOfReturning (Config refusal)
opening_returns disk config configs.Memory told none may = tt
opening_returns disk config configs.Broken told none may = absurd told
opening_returns disk config configs.NoRecord told none may = absurd (has_record disk config may (none refl))
opening_returns disk config configs.NotNext told none may = absurd told
opening_returns disk config configs.BadMembers told none may = absurd told
opening_returns disk config (configs.Device error) told none may = tt

-- and where its disk can't fail any more, memory ran out
pub opening_calm : (disk config : MemDisk) (now : ℕ) (refusal : config_refusal.Refusal) → IsOfConfigOpening refusal → (refusal ≡ configs.NoRecord → (size_of config < 8192) ⊎ HoldsNone (inside config_part (given_of config)))
    → IsConfigCaused (failures_of config) now refusal → now ≤ failures_of config → MayReturn disk config → IsOfCalm (Config refusal)
opening_calm disk config now configs.Memory told none caused le may = inl tt
opening_calm disk config now configs.Broken told none caused le may = absurd told
opening_calm disk config now configs.NoRecord told none caused le may = absurd (has_record disk config may (none refl))
opening_calm disk config now configs.NotNext told none caused le may = absurd told
opening_calm disk config now configs.BadMembers told none caused le may = absurd told
opening_calm disk config now (configs.Device error) told none caused le may = inl (failed_for_memory error (failures_of config) now caused le)

-- what a record is refused with, where there is one
pub recording_returns : (refusal : config_refusal.Refusal) → IsOfRecord refusal → refusal ≢ configs.NoRecord → IsOfReturning (Config refusal)
recording_returns configs.Memory told found = tt
recording_returns configs.Broken told found = absurd told
recording_returns configs.NoRecord told found = absurd (found refl)
recording_returns configs.NotNext told found = tt
recording_returns configs.BadMembers told found = absurd told
recording_returns (configs.Device error) told found = tt

-- what the opening of a member's disk is refused with, a recovery may be
pub store_recovers : (refusal : store_refusal.Refusal) → IsOfOpening refusal → IsOfRecovering (Store refusal)
store_recovers stores.Memory told = tt
store_recovers stores.NotAVolume told = tt
store_recovers stores.OtherVersion told = tt
store_recovers stores.Unfinished told = tt
store_recovers (stores.Device error) told = tt
store_recovers stores.Full told = absurd told
store_recovers stores.Broken told = absurd told
store_recovers stores.Backwards told = absurd told

-- a settled store was found with its number
pub found_as : (config : MemDisk) (store : State) (bytes : List ℕ) (may_leave : List ℕ → Type 0) → bytes ≡ given_of config → store.pair.part ≡ config_part → IsSettledConfig store bytes may_leave
    → StandsAs (given_of config) store.current store.pair.number
found_as config store bytes may_leave same part settled =
    subst (λ (b : List ℕ). StandsAs b store.current store.pair.number) same (subst (λ (p : Part). HoldsNumbered store.current store.pair.number (inside p bytes)) part (settled_numbered settled))

-- no record can follow a settled one whose epoch or number is the last
pub is_last : (config : MemDisk) (store : State) (bytes : List ℕ) (may_leave : List ℕ → Type 0) → bytes ≡ given_of config → store.pair.part ≡ config_part → IsSettledConfig store bytes may_leave
    → (MAX_NUMBER ≤ store.current.epoch) ⊎ (MAX_NUMBER ≤ store.pair.number) → IsLast (given_of config)
is_last config store bytes may_leave same part settled last = record { found = store.current; number = store.pair.number; stands = found_as config store bytes may_leave same part settled; last = last }

-- ---- what a recovery leaves of the record

-- of a disk that was only read, the record that stood
pub read_records : (disk config back : MemDisk) → NothingNew (may_be_left config) (may_be_left back) → RecordsStill disk config back
read_records disk config back nothing = λ r number stands only c left. inl (subst (λ (b : List ℕ). StandsAs b r number) (sym (only c (nothing c left))) stands)

-- the record and the number that stood, or the next of the disk's member alone
abbrev StandsStill : MemDisk → List ℕ → Record → ℕ → Type 0
StandsStill disk c r n = StandsAs c r n ⊎ ((m : Meaning) × Means m (given_of disk) × HasMember r m × StandsAs c (alone_behind r (recorded_as m)) (n + 1))

-- of one that holds the record that stood or the next, one of them
pub either_records : (disk config back : MemDisk) (found : State) (meaning : Meaning) → ((some other : Record) (bytes : List ℕ) → HoldsRecord some bytes → HoldsRecord other bytes → some ≡ other)
    → ((some other : Record) (number another : ℕ) (bytes : List ℕ) → HoldsNumbered some number bytes → HoldsNumbered other another bytes → number ≡ another)
    → StandsAs (given_of config) found.current found.pair.number → Means meaning (given_of disk) → HasMember found.current meaning
    → ((c : List ℕ) → may_be_left back c → HoldsOldOrNext found (alone_behind found.current (recorded_as meaning)) (inside config_part c)) → RecordsStill disk config back
either_records disk config back found meaning one one_number was means has each = λ r number stands only c left.
    let same : found.current ≡ r = one found.current r (inside config_part (given_of config)) (numbered_holds was) (numbered_holds stands) in
    let same_number : found.pair.number ≡ number = one_number found.current r found.pair.number number (inside config_part (given_of config)) was stands in
    subst (λ (n : ℕ). StandsStill disk c r n) same_number (subst (λ (x : Record). StandsStill disk c x found.pair.number) same (so c (each c left)))
  where
    so : (c : List ℕ) → HoldsOldOrNext found (alone_behind found.current (recorded_as meaning)) (inside config_part c) → StandsStill disk c found.current found.pair.number
    so c (inl old) = inl old
    so c (inr new) = inr (meaning, means, has, new)

-- ---- the chain that goes on

-- a store that may have been migrated is of the member that it was of
pub same_member : (ready store : IsStore) → (about_of_store ready ≡ about_of_store store) ⊎ (about_of_store ready ≡ migrated (about_of_store store)) → recorded_in about_of_store ready ≡ recorded_in about_of_store store
same_member ready store about =
    migrated_as (about_of_store ready) (about_of_store store) about (λ slot incarnation geometry front. recorded_in about_of_store ready ≡ record { slot = slot; incarnation = incarnation }) refl

-- so its record is the one that was written
pub told_alone : (found : Record) (ready store : IsStore) (epoch : ℕ) (chain : Record) → chain ≡ record { epoch = epoch; members = recorded_in about_of_store ready ∷ [] } → epoch ≡ found.epoch + 1
    → (about_of_store ready ≡ about_of_store store) ⊎ (about_of_store ready ≡ migrated (about_of_store store)) → chain ≡ alone_behind found (recorded_in about_of_store store)
told_alone found ready store epoch chain is more about = follows about_of_store found chain ready epoch is more ∙ ap (λ (m : Member). record { epoch = found.epoch + 1; members = m ∷ [] }) (same_member ready store about)

-- and so it is the member's whose disk meant this
pub of_member : (ready : IsStore) (meaning : Meaning) → recorded_in about_of_store ready ≡ record { slot = meaning.slot; incarnation = meaning.incarnation } → AreOfMember about_of_store meaning (ready ∷ [])
of_member ready meaning is =
    All-cons (λ s. ((about_of_store s).slot ≡ meaning.slot) × ((about_of_store s).incarnation ≡ meaning.incarnation)) ready [] (ap (λ (m : Member). m.slot) is, ap (λ (m : Member). m.incarnation) is)
    (All-nil (λ s. ((about_of_store s).slot ≡ meaning.slot) × ((about_of_store s).incarnation ≡ meaning.incarnation)))

-- ---- the disks that come back

-- a disk that was only read
pub only_read : (old new back : MemDisk) → back ≡ new → OnlyReads given_of may_be_left moment_of left_since old new → IsUnwritten old back
only_read old new back is run = subst (λ (d : MemDisk). IsUnwritten old d) (sym is) (record { same = run.same; leaves = run.leaves })

-- is as long as it was
pub same_size : (old back : MemDisk) → IsUnwritten old back → size_of back ≡ size_of old
same_size old back unwritten = ap length unwritten.same

-- what is left of it is what it gave
pub read_still : (disk back : MemDisk) → NothingNew (may_be_left disk) (may_be_left back) → MeansStill disk back
read_still disk back nothing = λ meaning means only x left. subst (Means meaning) (sym (only x (nothing x left))) means

-- where a disk could fail no more, it has not failed again
pub fails_no_more : (old new : MemDisk) → most_failures_of new ≤ most_failures_of old → failures_of old ≡ most_failures_of old → failures_of new ≤ failures_of old
fails_no_more old new most calm = let within : failures_of new ≤ most_failures_of new = within_by (script_of new) (has_stopped new) (failures_of new) in omega (arith, within, most, calm)

-- the device's refusals may come of a return
pub device_reopens : (r : store_refusal.Refusal) → IsOfDevice r → IsOfReopening r
device_reopens (stores.Device error) is = tt
device_reopens stores.Memory is = absurd is
device_reopens stores.Full is = absurd is
device_reopens stores.Broken is = absurd is
device_reopens stores.NotAVolume is = absurd is
device_reopens stores.OtherVersion is = absurd is
device_reopens stores.Unfinished is = absurd is
device_reopens stores.Backwards is = absurd is

-- the refusal by the record, if it is one
abbrev told_config : Refusal → Option config_refusal.Refusal
told_config Memory = None
told_config NoneReturned = None
told_config NotInChain = None
told_config (Store refusal) = None
told_config (Config refusal) = Some refusal

-- a refusal by the record is passed on as it is
pub same_config : (one other : config_refusal.Refusal) → Config one ≡ Config other → one ≡ other
same_config one other is = same_Some one other (ap told_config is)

-- after the record of the member alone, whatever may be left has it, with the next number
pub left_alone : (found after : State) (disk : MemDisk) (next : Record) → after ≡ recorded found next → found.pair.part ≡ config_part → IsSettledConfig after (given_of disk) (may_be_left disk) → (bytes : List ℕ) → may_be_left disk bytes
    → StandsAs bytes next (found.pair.number + 1)
left_alone found after disk next is part settled bytes left =
    subst (λ (s : State). StandsAs bytes s.current s.pair.number) is (still_numbered after disk (ap (λ (s : State). s.pair.part) is ∙ part) settled bytes left)
