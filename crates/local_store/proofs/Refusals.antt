-- Which refusals of the crates below are told as which.
use Rattle.std.proofs.Common.{◌≡◌, ◌≤◌, ℕ, Result, Ok, Err, IsErrOf, ap, arith, refl, subst, sym, ◌∙◌}
use Rattle.disk_model.specs.declared.error.DiskError.{DiskError}
use Rattle.disk_model.specs.declared.error.DiskError.TheVariants as faults
use Rattle.gate_journal.specs.declared.refusal.Refusal.{Refusal as JournalRefusal}
use Rattle.gate_journal.specs.declared.refusal.Refusal.TheVariants as journal
use Rattle.home_blocks.specs.declared.refusal.Refusal.{Refusal as HomeRefusal}
use Rattle.home_blocks.specs.declared.refusal.Refusal.TheVariants as home
use Rattle.local_store.specs.Refusal.{by_home, by_journal, IsCaused, IsNotOfDevice}
use Rattle.local_store.specs.declared.refusal.Refusal.{Refusal}
use Rattle.local_store.specs.declared.refusal.Refusal.TheVariants.{Memory, Full, Broken, NotAVolume, OtherVersion, Unfinished, Backwards, Device}

IsNone : Refusal → Type 0
IsNone NotAVolume = Unit {0}
IsNone _ = ⊥

IsOther : Refusal → Type 0
IsOther OtherVersion = Unit {0}
IsOther _ = ⊥

pub home_no_volume : (r : HomeRefusal) → by_home r ≡ NotAVolume → r ≡ home.NotAVolume
unfolding IsNone
home_no_volume home.Memory is = absurd (subst IsNone (sym is) tt)
home_no_volume home.Full is = absurd (subst IsNone (sym is) tt)
home_no_volume home.Broken is = absurd (subst IsNone (sym is) tt)
home_no_volume home.NotAVolume is = refl
home_no_volume home.OtherVersion is = absurd (subst IsNone (sym is) tt)
home_no_volume (home.Device error) is = absurd (subst IsNone (sym is) tt)

pub home_other_version : (r : HomeRefusal) → by_home r ≡ OtherVersion → r ≡ home.OtherVersion
unfolding IsOther
home_other_version home.Memory is = absurd (subst IsOther (sym is) tt)
home_other_version home.Full is = absurd (subst IsOther (sym is) tt)
home_other_version home.Broken is = absurd (subst IsOther (sym is) tt)
home_other_version home.NotAVolume is = absurd (subst IsOther (sym is) tt)
home_other_version home.OtherVersion is = refl
home_other_version (home.Device error) is = absurd (subst IsOther (sym is) tt)

pub journal_damaged : (r : JournalRefusal) → by_journal r ≡ NotAVolume → r ≡ journal.Damaged
unfolding IsNone
journal_damaged journal.Memory is = absurd (subst IsNone (sym is) tt)
journal_damaged journal.Full is = absurd (subst IsNone (sym is) tt)
journal_damaged journal.Broken is = absurd (subst IsNone (sym is) tt)
journal_damaged journal.Damaged is = refl
journal_damaged (journal.Device error) is = absurd (subst IsNone (sym is) tt)

err_of : {T E : Type 0} → Result T E → E → E
err_of (Ok x) other = other
err_of (Err e) other = e

pub error_is : {T E : Type 0} {x y : E} → IsErrOf {T = T} (Err x) y → x ≡ y
unfolding err_of
error_is {T} {E} {x} {y} is = ap (λ (r : Result T E). err_of r x) is

-- the home told that there is no volume, and the journal that its area is damaged
pub told_by_home : {T U : Type 0} (r : HomeRefusal) (told : Refusal) → told ≡ by_home r → IsErrOf {T = T} (Err told) NotAVolume → IsErrOf {T = U} (Err r) home.NotAVolume
told_by_home {T} {U} r told same is = ap (λ (e : HomeRefusal). Err e) (home_no_volume r (sym same ∙ error_is is))

pub told_by_journal : {T U : Type 0} (r : JournalRefusal) (told : Refusal) → told ≡ by_journal r → IsErrOf {T = T} (Err told) NotAVolume → IsErrOf {T = U} (Err r) journal.Damaged
told_by_journal {T} {U} r told same is = ap (λ (e : JournalRefusal). Err e) (journal_damaged r (sym same ∙ error_is is))

IsMemory : DiskError → Type 0
IsMemory faults.Memory = Unit {0}
IsMemory _ = ⊥

-- where the disk hasn't failed since, the refusal isn't the device's
pub not_of_device : (r : Refusal) (before now : ℕ) → IsCaused before now r → now ≤ before → IsNotOfDevice r
unfolding IsMemory
not_of_device Memory before now caused le = tt
not_of_device Full before now caused le = tt
not_of_device Broken before now caused le = tt
not_of_device NotAVolume before now caused le = tt
not_of_device OtherVersion before now caused le = tt
not_of_device Unfinished before now caused le = tt
not_of_device Backwards before now caused le = tt
not_of_device (Device faults.Memory) before now caused le = refl
not_of_device (Device faults.ReadFault) before now caused le = absurd (omega (arith, le, caused (λ is. subst IsMemory (sym is) tt)))
not_of_device (Device faults.WriteFault) before now caused le = absurd (omega (arith, le, caused (λ is. subst IsMemory (sym is) tt)))
not_of_device (Device faults.SyncFault) before now caused le = absurd (omega (arith, le, caused (λ is. subst IsMemory (sym is) tt)))
not_of_device (Device faults.Stopped) before now caused le = absurd (omega (arith, le, caused (λ is. subst IsMemory (sym is) tt)))
