-- A disk that refuses something: lemmas.
use Rattle.std.proofs.Common.{◌≡◌, ◌∙◌, refl, subst}
use Rattle.std.specs.Prelude.{IfSome, IsSomeAnd, None, Option, Some}
use Rattle.std.specs.Option.{ForSome}
use Rattle.configurations.specs.declared.member.Member.{Member}
use Rattle.local_store.specs.Meaning.{Meaning}
use Rattle.rejoin_catchup.specs.Receiving.{Installation, Receiving, disk_of}
use Rattle.joining.specs.Copying.{IsForMember, IsInstalled, IsOf, LeadsOn, Seen}
use Rattle.candidate.specs.Candidate as disks
use Rattle.candidate.specs.Orders.{LedOn}
use Rattle.candidate.specs.declared.candidate.Candidate.TheVariants.{Copying, Refused}

-- what is being installed is the member's
pub of_installed : {D : Type 0} (member : Member) (r : Receiving D) (meaning : Meaning) → IsForMember member r → IsInstalled r meaning → IsOf member meaning
of_installed {D} member r meaning its is = by r.installation its is
  where
    by : (o : Option (Installation D)) → ForSome o (λ i. (i.home.superblock.slot ≡ member.slot) × (i.home.superblock.incarnation ≡ member.incarnation))
        → IsSomeAnd o (λ i. (meaning.slot ≡ i.home.superblock.slot) × (meaning.incarnation ≡ i.home.superblock.incarnation)) → IsOf member meaning
    by None its is = absurd is
    by (Some i) its is = let (slot, incarnation) = its i refl in (is.0 ∙ slot, is.1 ∙ incarnation)

-- what holds of the disk before and of what a copying has then, holds of the one that is left
pub led_on : (S : Type 0) {D : Type 0} (R : D → D → Type 0) (c d : Seen D) (r : disks.Refused D) → LeadsOn R c d → disk_of d.receiver ≡ Some r.disk → LedOn {S = S} R (Copying c) (Refused r)
led_on S {D = D} R c d r leads here = by (disk_of c.receiver) leads
  where
    by : (o : Option D) → ForSome o (λ was. IsSomeAnd (disk_of d.receiver) (R was)) → IfSome o (λ was. R was r.disk)
    by None leads = tt
    by (Some was) leads = subst (λ (o : Option D). IsSomeAnd o (R was)) here (leads was refl)
