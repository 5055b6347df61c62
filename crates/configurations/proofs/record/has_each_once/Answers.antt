use Rattle.std.proofs.Common.{refl}
use Rattle.configurations.proofs.MemberLists.{once_more, not_once}
use Rattle.configurations.proofs.record.has_each_once.Goals as goal

pub loop-i-preserved : goal.loop-i-preserved
loop-i-preserved c = once_more c.args.members.now c.loop-i.i c.index-members-i.result c.loop-i-test.true c.index-members-i.is c.loop-i.invariant (λ any. let e = c.if-has_slot.ensures.1 any in cc)

pub returns-then-has_slot : goal.returns-then-has_slot
returns-then-has_slot c = (λ never. absurd cc, λ once. absurd (not_once c.args.members.now c.loop-i.i c.index-members-i.result c.loop-i-test.true c.index-members-i.is (c.if-has_slot.ensures.0 refl) once))
