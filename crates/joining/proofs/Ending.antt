-- What comes of the end that a copying gives, and of the store that is opened then.
use Rattle.std.proofs.Common.{◌≡◌, ◌∙◌, ap, inr, ℕ, List, refl, sym, subst}
use Rattle.std.specs.Prelude.{Err, IfSome, IsSomeAnd, None, Ok, Option, Result, Some}
use Rattle.std.specs.Option.{ForSome}
use Rattle.std.proofs.lemmas.Option.{same_Some}
use Rattle.disk_model.specs.Disk.{LeavesOnly, Only}
use Rattle.disk_model.specs.Moments.{started, then_run, weaker}
use Rattle.gate_journal.specs.Runs.{OnlyReads}
use Rattle.home_blocks.specs.Superblock.{Superblock}
use Rattle.local_store.specs.Installer.{MeansNothing, finished_meaning}
use Rattle.local_store.specs.Meaning.{Meaning, Means}
use Rattle.rejoin_catchup.specs.Receiving.{HasTaken, Installation, IsTaking, Leads, Receiving, disk_in, disk_of}
use Rattle.rejoin_catchup.specs.Sending.{IsCopy}
use Rattle.rejoin_catchup.specs.declared.ready.Ready.{Ready}
use Rattle.joining.specs.Copying.{IsCopyOf, IsInstalled, Seen}
use Rattle.joining.specs.Giving.{IsMeantBy}

-- what holds of each that is there holds if one is
pub if_some : {A : Type 0} (P : A → Type 0) (o : Option A) → ((a : A) → o ≡ Some a → P a) → IfSome o P
if_some P None each = tt
if_some P (Some a) each = each a refl

-- what holds of what is there
pub some_and : {A : Type 0} (P : A → Type 0) (o : Option A) → IsSomeAnd o P → (a : A) → o ≡ Some a → P a
some_and P None holds a is = absurd holds
some_and P (Some b) holds a is = subst P (same_Some b a is) holds

module _ {D E : Type 0} (R : D → D → Type 0) (old new : Receiving D) (result : Result (Option (Ready D)) E) (leads : Leads R old result new) where
  -- the end was refused
  pub end_refused : (e : E) → result ≡ Err e → (now : D) → disk_of new ≡ Some now → (was : D) → disk_of old ≡ Some was → R was now
  end_refused e is now here was there = some_and (R was) (disk_of new) (subst (λ r. Leads R old r new) is leads was there) now here

  -- or it was taken
  pub end_taken : (ready : Ready D) → result ≡ Ok (Some ready) → (was : D) → disk_of old ≡ Some was → R was ready.disk
  end_taken ready is was there = subst (λ r. Leads R old r new) is leads was there

-- the disk took the volume
pub took_all : {D : Type 0} (gives : D → List ℕ) (may_leave : D → List ℕ → Type 0) (sb : Superblock) (volume : List ℕ) (c : Seen D) → IsCopyOf gives may_leave sb volume c → ((copy : List ℕ) → IsCopy c.sender volume copy → copy ≡ volume)
    → HasTaken gives may_leave sb volume c.receiver
took_all gives may_leave sb volume c was whole = subst (λ (copy : List ℕ). HasTaken gives may_leave sb copy c.receiver) (whole was.copy was.blocks) was.taken

-- what is told of the installation's slot is told of the superblock's
pub of_slot : {D : Type 0} (gives : D → List ℕ) (may_leave : D → List ℕ → Type 0) (sb : Superblock) (copy : List ℕ) (Q : ℕ → Type 0) (o : Option (Installation D)) → IsSomeAnd o (IsTaking gives may_leave sb copy) → ForSome o (λ i. Q i.home.superblock.slot) → Q sb.slot
of_slot gives may_leave sb copy Q None taken told = absurd taken
of_slot gives may_leave sb copy Q (Some i) taken told = subst (λ (s : Superblock). Q s.slot) taken.superblock (told i refl)

module _ {D : Type 0} (gives : D → List ℕ) (may_leave : D → List ℕ → Type 0) (moment : D → ℕ) (left_since : D → ℕ → List ℕ → Type 0) where
  -- while no device call is made, what is left means nothing
  rest_in : ((disk : D) (c : List ℕ) → left_since disk (moment disk) c → may_leave disk c) → (sb : Superblock) (copy : List ℕ) (o : Option (Installation D)) (left : Option D) → IsSomeAnd o (IsTaking gives may_leave sb copy) → (P : List ℕ → Type 0)
      → ((c : List ℕ) → MeansNothing c → P c) → (was : D) → disk_in o left ≡ Some was → LeavesOnly moment left_since was was P
  rest_in only_now sb copy None left taken P nothing was here = absurd taken
  rest_in only_now sb copy (Some i) left taken P nothing was here =
      subst (λ (d : D). LeavesOnly moment left_since d d P) (same_Some i.disk was here)
      (started moment left_since i.disk P (λ c may. nothing c (taken.installing.means_nothing c (only_now i.disk c may))))

  pub rest_leaves : ((disk : D) (c : List ℕ) → left_since disk (moment disk) c → may_leave disk c) → (sb : Superblock) (copy : List ℕ) (r : Receiving D) → HasTaken gives may_leave sb copy r → (P : List ℕ → Type 0)
      → ((c : List ℕ) → MeansNothing c → P c) → (was now : D) → disk_of r ≡ Some was → disk_of r ≡ Some now → LeavesOnly moment left_since was now P
  rest_leaves only_now sb copy r taken P nothing was now here there =
      subst (λ (d : D). LeavesOnly moment left_since was d P) (same_Some was now (sym here ∙ there)) (rest_in only_now sb copy r.installation r.left taken P nothing was here)

  -- a disk that was installed, and then only read
  pub read_leaves : (sb : Superblock) (front : ℕ) (volume : List ℕ) (was mid new : D) → LeavesOnly moment left_since was mid (IsMeantBy sb front volume) → Means (finished_meaning sb front volume) (gives mid) → Only (gives mid) (may_leave mid)
      → OnlyReads gives may_leave moment left_since mid new → LeavesOnly moment left_since was new (IsMeantBy sb front volume)
  read_leaves sb front volume was mid new first means only reads =
      then_run moment left_since was mid new (IsMeantBy sb front volume) first
      (weaker moment left_since mid new (may_leave mid) (IsMeantBy sb front volume) (λ c may. inr (subst (Means (finished_meaning sb front volume)) (sym (only c may)) means)) reads.moments)

-- ---- whose disk it is

-- what means the copy is the member's that is being installed
pub installed_means : {D : Type 0} (gives : D → List ℕ) (may_leave : D → List ℕ → Type 0) (sb : Superblock) (copy : List ℕ) (r : Receiving D) → HasTaken gives may_leave sb copy r → (front : ℕ) (meaning : Meaning) → finished_meaning sb front copy ≡ meaning → IsInstalled r meaning
installed_means {D} gives may_leave sb copy r taken front meaning same = by r.installation taken
  where
    by : (o : Option (Installation D)) → IsSomeAnd o (IsTaking gives may_leave sb copy) → IsSomeAnd o (λ i. (meaning.slot ≡ i.home.superblock.slot) × (meaning.incarnation ≡ i.home.superblock.incarnation))
    by None is = absurd is
    by (Some i) is = (
      ap (λ (m : Meaning). m.slot) (sym same) ∙ ap (λ (s : Superblock). s.slot) (sym is.superblock),
      ap (λ (m : Meaning). m.incarnation) (sym same) ∙ ap (λ (s : Superblock). s.incarnation) (sym is.superblock),
    )
