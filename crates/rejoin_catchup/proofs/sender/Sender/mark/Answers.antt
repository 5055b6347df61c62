use Rattle.std.proofs.Common.{◌<◌, ◌∙◌, ap, min, subst, sym}
use Rattle.rejoin_catchup.specs.Sending.{Sending}
use Rattle.rejoin_catchup.proofs.Marks.{sending_marked}
use Rattle.rejoin_catchup.proofs.sender.Sender.mark.Goals as goal

pub invariant_of-self : goal.invariant_of-self
invariant_of-self c =
    let below = subst (λ (s : Sending). c.args.block < s.given) (sym c.self.view_is) c.requires in
    let (sending, least) = sending_marked c.self.inside.given c.self.inside.marks.items c.self.invariant.0 c.args.block below in
    (sending, c.min-self-inside.ensures ∙ ap (λ n. min n c.args.block) c.self.invariant.1 ∙ least)
