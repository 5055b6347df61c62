use Rattle.std.proofs.Common.{ap, refl, subst}
use Rattle.version_table.specs.Held.{IsClean}
use Rattle.chain_steps.specs.Node.{Out}
use Rattle.chain_steps.specs.Steps.{read_asked, read_at_once}
use Rattle.chain_core.specs.Node.{IsStep}
use Rattle.chain_core.specs.Reads.{HasOnlyRead, IsReadRefused, IsStepOver}
use Rattle.chain_core.specs.Stays.{read_stays}
use Rattle.member.specs.Boxes.{boxes_of}
use Rattle.member.specs.Posted.{HasAnswered, Posted}
use Rattle.member.proofs.Agreeing.{agreed_stays}
use Rattle.member.proofs.member.Member.read.Goals as goal

pub returns-in-Err-clause-refused : goal.returns-in-Err-clause-refused
returns-in-Err-clause-refused g c =
    subst (λ (p : Posted g.row.S.Denot). IsReadRefused g.S.StoreLike.about g.S.StoreLike.failures
    (HasOnlyRead g.S.StoreLike.keeps_model g.S.StoreLike.about g.S.StoreLike.failures g.S.StoreLike.keeps g.S.StoreLike.moment g.S.StoreLike.may_have_left_since p.node.store c.read.new.self.store)
    (IsClean p.node.state.table c.args.offset c.args.length p.node.state.known) p.node c.read.new.self c.in-Err.refused.replies.items c.in-Err.refused.refusal) c.self.view_is c.in-Err.ensures.refused

pub invariant_of-self-2 : goal.invariant_of-self-2
invariant_of-self-2 g c = agreed_stays g.S.StoreLike.about g.J.Agreed.board g.J.Agreed.size c.self.inside.node c.read.new.self c.self.invariant
    (read_stays g.S.StoreLike.about c.self.inside.node c.read.new.self _ c.args.offset c.args.length c.args.token c.in-Ok.ensures.at_once c.in-Ok.ensures.waits c.in-Ok.ensures.about)

pub returns-clause-at_once : goal.returns-clause-at_once
returns-clause-at_once g c =
    let new : Posted g.row.S.Denot = record { node = c.read.new.self; outbox = boxes_of c.self.inside.outbox } in
    subst (λ (p : Posted g.row.S.Denot). IsClean p.node.state.table c.args.offset c.args.length p.node.state.known
    → HasAnswered (λ old new out. IsStepOver g.S.StoreLike.keeps_model (g.S.StoreLike.keeps old.store) new.state out (λ volume. read_at_once volume c.args.offset c.args.length c.args.token old.state)) p new c.out.inside.replies.items) c.self.view_is
    (λ clean. record { out = c.in-Ok.out; calls = c.in-Ok.ensures.at_once clean; told = ap (λ (o : Out). o.replies) c.out.view_is; same = refl })

pub returns-clause-waits : goal.returns-clause-waits
returns-clause-waits g c =
    let new : Posted g.row.S.Denot = record { node = c.read.new.self; outbox = boxes_of c.self.inside.outbox } in
    subst (λ (p : Posted g.row.S.Denot). (¬ IsClean p.node.state.table c.args.offset c.args.length p.node.state.known)
    → HasAnswered (λ old new out. IsStep old new out (read_asked c.args.offset c.args.length c.args.token old.state)) p new c.out.inside.replies.items) c.self.view_is
    (λ dirty. record { out = c.in-Ok.out; calls = c.in-Ok.ensures.waits dirty; told = ap (λ (o : Out). o.replies) c.out.view_is; same = refl })
