-- What a disk is refused with that is installed, and then opened.
use Rattle.std.proofs.Common.{◌≡◌, ◌≢◌, ◌⊎◌, ⊎_elim, inl, inr, List, ℕ, refl}
use Rattle.std.specs.Prelude.{Bool, false, true}
use Rattle.home_blocks.specs.Home.{IsNoVolume, IsOtherVersion}
use Rattle.local_store.specs.Meaning.{HasDamagedArea, IsOpenable, IsUnfinished}
use Rattle.local_store.specs.Refusal.{IsOfFinishing, IsOfFormatting, IsOfOpening, IsOfTicking}
use Rattle.local_store.specs.declared.refusal.Refusal.{Refusal}
use Rattle.local_store.specs.declared.refusal.Refusal.TheVariants.{Backwards, Broken, Device, Full, Memory, NotAVolume, OtherVersion, Unfinished}
use Rattle.joining.specs.Giving.{RefusesEnd, RefusesFinish, RefusesOpening}

-- by `open`, where the bytes are those of a volume
pub opening_refused : (bytes now : List ℕ) → IsOpenable bytes → (r : Refusal) → IsOfOpening r → (r ≡ NotAVolume → IsNoVolume bytes ⊎ HasDamagedArea bytes) → (r ≡ OtherVersion → IsOtherVersion bytes) → (r ≡ Unfinished → IsUnfinished bytes) → RefusesOpening r now
opening_refused bytes now openable Memory told none other left = tt
opening_refused bytes now openable Full told none other left = absurd told
opening_refused bytes now openable Broken told none other left = absurd told
opening_refused bytes now openable NotAVolume told none other left = absurd (⊎_elim openable.volume openable.area (none refl))
opening_refused bytes now openable OtherVersion told none other left = absurd (openable.version (other refl))
opening_refused bytes now openable Unfinished told none other left = absurd (openable.finished (left refl))
opening_refused bytes now openable Backwards told none other left = absurd told
opening_refused bytes now openable (Device error) told none other left = tt

-- as it begins
pub formatting_refused : (r : Refusal) (now : List ℕ) → IsOfFormatting r → RefusesOpening r now
formatting_refused Memory now told = tt
formatting_refused Full now told = absurd told
formatting_refused Broken now told = absurd told
formatting_refused NotAVolume now told = absurd told
formatting_refused OtherVersion now told = absurd told
formatting_refused Unfinished now told = absurd told
formatting_refused Backwards now told = absurd told
formatting_refused (Device error) now told = tt

-- as it is given a block, where no call failed before
pub ticking_refused : (r : Refusal) (now : List ℕ) → r ≢ Broken → IsOfTicking r → RefusesOpening r now
ticking_refused Memory now whole told = absurd told
ticking_refused Full now whole told = absurd told
ticking_refused Broken now whole told = absurd (whole refl)
ticking_refused NotAVolume now whole told = absurd told
ticking_refused OtherVersion now whole told = absurd told
ticking_refused Unfinished now whole told = absurd told
ticking_refused Backwards now whole told = absurd told
ticking_refused (Device error) now whole told = tt

-- as it is given the end, or opened
ending_refused : (r : Refusal) (now : List ℕ) → r ≢ Broken → IsOfFinishing r → RefusesOpening r now
ending_refused Memory now whole told = absurd told
ending_refused Full now whole told = absurd told
ending_refused Broken now whole told = absurd (whole refl)
ending_refused NotAVolume now whole told = absurd told
ending_refused OtherVersion now whole told = absurd told
ending_refused Unfinished now whole told = absurd told
ending_refused Backwards now whole told = absurd told
ending_refused (Device error) now whole told = tt

pub finishing_refused : (r : Refusal) (now : List ℕ) → r ≢ Broken → RefusesEnd false r ⊎ RefusesOpening r now → RefusesOpening r now
finishing_refused r now whole (inl ending) = ending_refused r now whole ending
finishing_refused r now whole (inr opening) = opening

-- what the end is refused with
pub end_finish : (broken : Bool) (r : Refusal) → RefusesEnd broken r → RefusesFinish broken r
end_finish true r is = is
end_finish false r is = inl is
