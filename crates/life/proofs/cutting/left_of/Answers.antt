use Rattle.std.proofs.Common.{refl, subst}
use Rattle.std.specs.Prelude.{Some}
use Rattle.life.specs.Aside.{IsStoreLeft}
use Rattle.life.proofs.Starting.{IsStore, about_of_store, leaves_now}
use Rattle.life.proofs.cutting.left_of.Goals as goal

pub returns-in-Copying : goal.returns-in-Copying
returns-in-Copying c = rw c.in-Copying.is (record { member = c.member.result; disk_is = c.into_disk.result; its = c.member.ensures tt; here = c.into_disk.ensures.its; unmeant = c.into_disk.ensures.unmeant tt; are = refl })

pub returns-in-Whole : goal.returns-in-Whole
returns-in-Whole c = rw c.in-Whole.is (subst (λ (s : IsStore). IsStoreLeft about_of_store leaves_now c.args.next (Some s) c.left_of_store.result) c.into_parts-store.ensures.parts.0 c.left_of_store.ensures)

pub returns-in-Refused : goal.returns-in-Refused
returns-in-Refused c = rw c.in-Refused.is c.left_of_refused.ensures

pub returns-in-Nobody : goal.returns-in-Nobody
returns-in-Nobody c = rw c.in-Nobody.is refl

pub returns-in-Counted : goal.returns-in-Counted
returns-in-Counted c = rw c.in-Counted.is refl
