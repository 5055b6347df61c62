use Rattle.sessions.proofs.Histories.{talk_given_up}
use Rattle.sessions.proofs.talk.Talk.feed.Goals as goal

pub invariant_of-self-in-Err-Memory : goal.invariant_of-self-in-Err-Memory
invariant_of-self-in-Err-Memory g c =
    rw (c.give_up.ensures, c.in-Err-Memory.ensures.err) (c.self.invariant.0, talk_given_up _ _ _ c.self.invariant.1 c.feeds_are_lawful.ensures.lawful)
