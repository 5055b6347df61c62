use Rattle.std.proofs.Common.{◌≡◌, ◌≤◌, length, take, sym, ◌∙◌, subst, arith, rules, length-take}
use Rattle.disk_model.specs.Content.{AddsWrite}
use Rattle.disk_model.specs.Disk.{put}
use Rattle.disk_model.specs.Memory.{given}
use Rattle.disk_model.specs.Waiting.{waiting_now}
use Rattle.disk_model.specs.declared.script.Fate.{Fate}
use Rattle.disk_model.proofs.Images.{stopped_image}
use Rattle.disk_model.proofs.memory.MemDisk.put.Goals as goal

pub invariant_of-self-in-Stops : goal.invariant_of-self-in-Stops
invariant_of-self-in-Stops c =
    let self = c.args.self.now in
    let kept = take c.min-kept.result c.args.bytes.now in
    let short : length kept ≤ length c.args.bytes.now = omega (arith, length-take c.min-kept.result c.args.bytes.now) in
    let there : c.replace.new.bytes.items ≡ put self.content.bytes.items c.args.at kept = search rules in
    record {
      left = λ v is.
          let same : v.items ≡ c.replace.new.bytes.items = cc in
          stopped_image self.content.bytes.items kept (waiting_now self.content) c.args.at (length c.args.bytes.now) c.requires.range short _ _ _ c.in_ok-write-in-Stops.ensures.bytes c.in_ok-write-in-Stops.ensures.unsynced (same ∙ there);
    }

pub returns-in_ok-write-in-Works-clause-log : goal.returns-in_ok-write-in-Works-clause-log
returns-in_ok-write-in-Works-clause-log c =
    subst (λ (f : Fate). AddsWrite c.args.self.now.content.log.items c.write.new.self.log.items c.args.at (given f c.args.bytes.now) (length c.args.bytes.now)) (sym c.in-Works.is) c.in_ok-write-in-Works.ensures.log

pub returns-in_ok-write-in-Fails-clause-log : goal.returns-in_ok-write-in-Fails-clause-log
returns-in_ok-write-in-Fails-clause-log c =
    subst (λ (f : Fate). AddsWrite c.args.self.now.content.log.items c.write-in-Fails.new.self.log.items c.args.at (given f c.args.bytes.now) (length c.args.bytes.now)) (sym c.in-Fails.is) c.in_ok-write-in-Fails.ensures.log

pub returns-in_ok-write-in-Stops-clause-log : goal.returns-in_ok-write-in-Stops-clause-log
returns-in_ok-write-in-Stops-clause-log c =
    subst (λ (f : Fate). AddsWrite c.args.self.now.content.log.items c.write-in-Stops.new.self.log.items c.args.at (given f c.args.bytes.now) (length c.args.bytes.now)) (sym c.in-Stops.is) c.in_ok-write-in-Stops.ensures.log
