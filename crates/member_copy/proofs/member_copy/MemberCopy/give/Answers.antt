use Rattle.member_copy.proofs.member_copy.MemberCopy.give.Goals as goal

pub returns-clause-copies : goal.returns-clause-copies
returns-clause-copies c = rw (← c.self.view_is) c.next_block-piece.ensures.copies
