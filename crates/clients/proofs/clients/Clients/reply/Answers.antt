use Rattle.std.proofs.Common.{[], sym, ◌∙◌, ap}
use Rattle.flush_barrier.specs.declared.session_id.SessionId.{SessionId}
use Rattle.clients.specs.Clients.{place_of}
use Rattle.clients.proofs.CallSteps.{delivers, drops, found_at, read_at}
use Rattle.clients.proofs.Places.{place_is}
use Rattle.clients.proofs.clients.Clients.reply.Goals as goal

pub take_reply-requires : goal.take_reply-requires
take_reply-requires c =
    let here = read_at _ _ c.in-Some.place _ c.self.view_is c.in-Some.ensures.within c.index_mut.ensures.value in
    let there = found_at c.session.result _ _ c.in-Some.place c.self.view_is c.in-Some.ensures.place in
    sym (place_is c.session.result _ c.in-Some.place _ there here ∙ c.session.ensures)

pub returns-in-Some : goal.returns-in-Some
returns-in-Some c = rw (← c.self.view_is)
    (let here = read_at _ _ c.in-Some.place _ c.self.view_is c.in-Some.ensures.within c.index_mut.ensures.value in
    let there =
    ap (λ (id : SessionId). place_of id c.self.inside.clients.items) (sym c.session.ensures)
    ∙ found_at c.session.result _ _ c.in-Some.place c.self.view_is c.in-Some.ensures.place in
    let laws = c.feeds_are_lawful.ensures in
    let taken = c.take_reply.ensures in
    (taken.0, delivers c.args.reply _ c.self.invariant c.in-Some.place _ _ there here laws.lawful laws.replies c.take_reply.result taken.0 taken.1))

pub returns-in-None : goal.returns-in-None
returns-in-None c = (
  [],
  drops c.args.reply c.args.self.now (ap (λ (id : SessionId). place_of id c.args.self.now.clients) (sym c.session.ensures)
      ∙ sym c.in-None.ensures.place),
)
