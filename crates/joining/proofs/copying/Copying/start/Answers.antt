use Rattle.std.proofs.Common.{◌≡◌, ◌*◌, ℕ, List, Option, None, Some, ap, refl, sym, ◌∙◌}
use Rattle.std.specs.Prelude.{IsSomeAnd, replicate}
use Rattle.std.specs.Option.{ForSome}
use Rattle.std.proofs.lemmas.List.{length-replicate}
use Rattle.std.proofs.lemmas.Option.{same_Some}
use Rattle.configurations.specs.declared.member.Member.{Member}
use Rattle.home_blocks.specs.Superblock.{Superblock}
use Rattle.local_store.specs.Installer.{unfinished}
use Rattle.rejoin_catchup.specs.Receiving.{Installation, Receiving}
use Rattle.joining.specs.Copying.{IsForMember}
use Rattle.joining.proofs.OnItsWay.{in_course_begun, takes_on}
use Rattle.joining.proofs.copying.Copying.start.Goals as goal

-- the disk that is installed with a superblock of the member is the member's
its_member : {D : Type 0} (member : Member) (sb : Superblock) (r : Receiving D) → sb.slot ≡ member.slot → sb.incarnation ≡ member.incarnation → IsSomeAnd r.installation (λ i. i.home.superblock ≡ sb) → IsForMember member r
its_member {D} member sb r slot incarnation is = by r.installation is
  where
    by : (o : Option (Installation D)) → IsSomeAnd o (λ i. i.home.superblock ≡ sb) → ForSome o (λ i. (i.home.superblock.slot ≡ member.slot) × (i.home.superblock.incarnation ≡ member.incarnation))
    by None is = absurd is
    by (Some i) is = λ j here.
        let same : j.home.superblock ≡ sb = ap (λ (k : Installation D). k.home.superblock) (sym (same_Some i j here)) ∙ is in
        (ap (λ (s : Superblock). s.slot) same ∙ slot, ap (λ (s : Superblock). s.incarnation) same ∙ incarnation)

pub invariant_of-result : goal.invariant_of-result
invariant_of-result g c = (
  in_course_begun c.args.world.now.chain.members c.args.at c.requires.within _ c.geometry-geometry.result.blocks c.in-Ok.ensures c.in_ok-receiver.ensures.course c.in_ok-receiver.ensures.runs c.known.ensures.known c.known.ensures.order,
  λ keeps.
      let copy : List ℕ = replicate (4096 * c.geometry-geometry.result.blocks) 0 in
      let sb = unfinished c.args.slot c.args.incarnation c.geometry-geometry.result in
      let member : Member = record { slot = c.args.slot; incarnation = c.in-Some.counted } in
      takes_on g.D.Disk.gives g.D.Disk.may_leave_now member sb copy _ (its_member member sb c.in_ok-receiver.receiver refl (sym c.in-Some.ensures.value) c.in_ok-receiver.ensures.superblock)
      (c.in_ok-receiver.ensures.taken keeps copy (length-replicate (4096 * c.geometry-geometry.result.blocks) 0)),
)
