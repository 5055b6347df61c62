use Rattle.std.proofs.Common.{◌≡◌}
use Rattle.std.specs.Prelude.{All}
use Rattle.sessions.specs.Talk.{HasAnsweredAll}
use Rattle.sessions.proofs.talk.Talk.answer_all.Given as goal

-- so many were answered, by the same session, and the others are its own
abbrev pub invariant-loop-served : goal.invariant-loop-served
invariant-loop-served g l = record {
  answered : HasAnsweredAll l.yielded l.initial.self l.self;
  id : l.self.session.id ≡ l.initial.self.session.id;
  own : All (λ reply. reply.session ≡ l.initial.self.session.id) l.served-iterator.rest.items;
}
