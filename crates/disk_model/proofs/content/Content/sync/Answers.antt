use Rattle.std.proofs.Common.{sym, ◌∙◌, ap}
use Rattle.disk_model.specs.Content.{shown_after, unsynced_after}
use Rattle.disk_model.specs.declared.content.Change.TheVariants.{Sync}
use Rattle.disk_model.specs.Waiting.{waiting_first}
use Rattle.disk_model.proofs.Replay.{shown-push, unsynced-push}
use Rattle.disk_model.proofs.content.Content.sync.Goals as goal

pub invariant_of-self-2-clause-replayed : goal.invariant_of-self-2-clause-replayed
invariant_of-self-2-clause-replayed c =
    let self = c.args.self.now in
    self.replayed ∙ sym (shown-push self.base.items self.log.items Sync) ∙ ap (shown_after self.base.items) (sym c.in_ok-push.ensures.items)

pub invariant_of-self-2-clause-ranges : goal.invariant_of-self-2-clause-ranges
invariant_of-self-2-clause-ranges c =
    let self = c.args.self.now in
    c.clear.ensures.items ∙ sym (unsynced-push (waiting_first self) self.log.items Sync) ∙ ap (unsynced_after (waiting_first self)) (sym c.in_ok-push.ensures.items)
