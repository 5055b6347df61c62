use Rattle.std.proofs.Common.{ap, inl, inr, refl, subst, sym, ◌∙◌}
use Rattle.std.specs.Prelude.{◌⊎◌, IfSome, Option}
use Rattle.disk_model.specs.Memory.{failures_of}
use Rattle.disk_model.specs.declared.memory.MemDisk.{MemDisk}
use Rattle.life.specs.Begun.{AllGo, AreOnDisks, MeansStill}
use Rattle.life.specs.Managed.{Managed}
use Rattle.life.specs.Recovered.{IsUnwritten, Recovers}
use Rattle.life.specs.Refusal.{IsCausedBy, IsStopOf}
use Rattle.life.proofs.Chosen.{recovers_same}
use Rattle.life.proofs.Several.{nothing_there}
use Rattle.life.proofs.Starting.{IsStore, about_of_store, keeps_volume, leaves_now}
use Rattle.life.proofs.recovering.go_on_from.Goals as goal
use Rattle.life.proofs.recovering.go_on_from.Goals.{in-Some, in_default}

pub returns-in-Ok-clause-disks : goal.returns-in-Ok-clause-disks
returns-in-Ok-clause-disks c = subst (λ (w : Managed IsStore). AreOnDisks about_of_store w.world) (sym c.with_outside.ensures) c.in-Ok.ensures.disks

pub returns-in-Ok-clause-go : goal.returns-in-Ok-clause-go
returns-in-Ok-clause-go c =
    let go = c.in-Ok.ensures.go in
    subst (λ (w : Managed IsStore). AllGo (λ (s : IsStore). s.disk) w) (sym c.with_outside.ensures) (record { members = go.members; config = go.config })

pub returns-in-Ok-clause-goes_on : goal.returns-in-Ok-clause-goes_on
returns-in-Ok-clause-goes_on c =
    subst (λ (w : Managed IsStore). Recovers about_of_store keeps_volume leaves_now c.args.source.disk c.args.config w) (sym c.with_outside.ensures)
    (recovers_same c.args.source.disk c.args.source.disk c.args.config c.args.config c.in-Ok.managed c.args.others.items refl refl c.in-Ok.ensures.goes_on)

pub returns-in-Ok-clause-next : goal.returns-in-Ok-clause-next
returns-in-Ok-clause-next c = λ r stands. ap (λ (w : Managed IsStore). w.world.chain.recorded.epoch) c.with_outside.ensures ∙ c.in-Ok.ensures.next r stands

pub returns-after-disk-clause-strangers : goal.returns-after-disk-clause-strangers
returns-after-disk-clause-strangers c = λ is. (c.in-Err.ensures.strangers is).0

pub returns-after-disk-clause-back : goal.returns-after-disk-clause-back
returns-after-disk-clause-back c =
    elim c.match-disk.branch [
      | in-Some w ↦ inl (
        w.in-Some.disk,
        ap (λ d. d.items) w.disks-is ∙ w.put_back.ensures,
        record {
          again = subst (λ (o : Option MemDisk). IfSome o (MeansStill c.args.source.disk)) w.in-Some.is c.in-Err.ensures.again;
          order = elim c.in-Err.ensures.order [
            | inl unwritten ↦ inl (subst (λ (o : Option MemDisk). IfSome o (IsUnwritten c.args.source.disk)) w.in-Some.is unwritten)
            | inr alone ↦ inr alone
          ];
        },
        subst (λ (o : Option MemDisk). IfSome o (λ back. IsCausedBy (failures_of c.args.source.disk) (failures_of back) c.in-Err.alone.refusal ⊎ IsStopOf back c.in-Err.alone.refusal)) w.in-Some.is c.in-Err.ensures.cause,
      )
      | in_default w ↦ inr (ap (λ d. d.items) w.disks-is, c.in-Err.ensures.gone (nothing_there c.in-Err.alone.disk w.in_default.not-Some))
    ]
