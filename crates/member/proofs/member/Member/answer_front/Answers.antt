use Rattle.chain_core.specs.Stays.{looked_stays}
use Rattle.member.proofs.Agreeing.{agreed_stays}
use Rattle.member.proofs.member.Member.answer_front.Goals as goal

pub invariant_of-self : goal.invariant_of-self
invariant_of-self g c = agreed_stays g.S.StoreLike.about g.J.Agreed.board g.J.Agreed.size c.self.inside.node c.answer_front.new.self c.self.invariant
    (looked_stays g.S.StoreLike.about c.self.inside.node c.answer_front.new.self _ c.answer_front.ensures.step)
