use Rattle.std.proofs.Common.{◌<◌, length, ◌∙◌, ap, arith, refl}
use Rattle.world.specs.declared.management.Management.TheInside.{Inside}
use Rattle.world.proofs.ManagingSteps.{noted_other, noted_running, noted_stopped}
use Rattle.world.proofs.management.Management.note.Goals as goal
use Rattle.world.proofs.management.Management.note.Goals.{then-is_recorded+then-is_some+in-Ok-1, then-is_recorded+then-is_some+in-Err-1, else-is_recorded, else-is_recorded-via-then-is_recorded+else-is_some, else-is_recorded-via-else-is_recorded}

pub loop-at-preserved : goal.loop-at-preserved
loop-at-preserved g c =
    let chain = c.args.world.now.chain in
    let at = c.loop-at.at in
    let old = c.args.self.now.manager in
    let now = c.loop-at.self-inside.manager in
    let so_far = c.loop-at.invariant in
    let within : at < length chain.members = omega arith in
    elim c.if-is_recorded.branch [
      | then-is_recorded+then-is_some+in-Ok-1 w ↦ record {
        manager = ap (λ (o : Inside g.row.D.Denot). o.manager) w.self-inside-is
            ∙ noted_stopped chain old now w.stopped.new.self at w.stopped.result c.is_recorded.result w.is_some.result w.cause.result w.from.result w.slot.result c.is_recorded.ensures w.cause.ensures
            w.is_some.ensures w.if-is_recorded.true w.if-is_some.true (w.from.ensures ∙ w.number.ensures.number) w.slot.ensures w.stopped.ensures.done w.stopped.ensures.why w.stopped.ensures.as_before within so_far.manager;
        config = ap (λ (o : Inside g.row.D.Denot). o.config) w.self-inside-is ∙ so_far.config;
        disk = ap (λ (o : Inside g.row.D.Denot). o.disk) w.self-inside-is ∙ so_far.disk;
      }
      | then-is_recorded+then-is_some+in-Err-1 w ↦ record {
        manager = ap (λ (o : Inside g.row.D.Denot). o.manager) w.self-inside-is
            ∙ noted_stopped chain old now w.stopped.new.self at w.stopped.result c.is_recorded.result w.is_some.result w.cause.result w.from.result w.slot.result c.is_recorded.ensures w.cause.ensures
            w.is_some.ensures w.if-is_recorded.true w.if-is_some.true (w.from.ensures ∙ w.number.ensures.number) w.slot.ensures w.stopped.ensures.done w.stopped.ensures.why w.stopped.ensures.as_before within so_far.manager;
        config = ap (λ (o : Inside g.row.D.Denot). o.config) w.self-inside-is ∙ so_far.config;
        disk = ap (λ (o : Inside g.row.D.Denot). o.disk) w.self-inside-is ∙ so_far.disk;
      }
      | else-is_recorded w ↦ record {
        manager = ap (λ (o : Inside g.row.D.Denot). o.manager) w.self-inside-is ∙ elim w.else-is_recorded.branch [
          | else-is_recorded-via-then-is_recorded+else-is_some v ↦ noted_running chain old now now at v.cause.result v.is_some.result v.cause.ensures v.is_some.ensures v.if-is_some.false refl within so_far.manager
          | else-is_recorded-via-else-is_recorded v ↦ noted_other chain old now now at c.is_recorded.result c.is_recorded.ensures v.if-is_recorded.false refl within so_far.manager
        ];
        config = ap (λ (o : Inside g.row.D.Denot). o.config) w.self-inside-is ∙ so_far.config;
        disk = ap (λ (o : Inside g.row.D.Denot). o.disk) w.self-inside-is ∙ so_far.disk;
      }
    ]
