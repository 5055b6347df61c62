use Rattle.std.proofs.Common.{◌∙◌, ap, inl, inr}
use Rattle.std.specs.Option.{unwrap_or}
use Rattle.chain_steps.specs.Place.{predecessor_of}
use Rattle.chain.specs.Chain.{Chained}
use Rattle.chain.proofs.HoldingSteps.{formed_held, held_goes, holds_at}
use Rattle.chain.proofs.LentSteps.{IsLent, formed_same, lent_by, rests_then}
use Rattle.chain.proofs.FloorSteps.{either, none_then, some_then, stands_now}
use Rattle.chain.proofs.Stepping.{read_at}
use Rattle.chain.proofs.chain.Chain.hold.Goals as goal
use Rattle.chain.proofs.chain.Chain.hold.Given.{Over}

-- the chain before, as it is read
abbrev old_of : (g : Over) (c : goal.After-drop-link g) → Chained g.row.S.Denot
old_of g c =
    let i = c.self.inside in
    record { id = i.board.id; seat = i.board.seat; words = i.board.words; recorded = i.recorded; before = i.before; writing = i.writing; youngest = i.youngest; geometry = i.geometry; members = i.members.items; links = i.links; submits = i.submits }

-- the link that is lent
lent : (g : Over) (c : goal.After-drop-link g) → IsLent (old_of g c) c.index_mut.result.now c.exchange.new.queue.items c.hold-replies.new.to.items c.exchange-2.new.self
lent g c = lent_by (old_of g c) c.args.at c.index.result.now c.index-2.result.now c.index_mut.result.now
    (read_at _ _ c.args.at _ c.self.view_is c.requires c.index.ensures) (read_at _ _ c.args.at _ c.self.view_is c.requires c.index-2.ensures) (read_at _ _ c.args.at _ c.self.view_is c.requires c.index_mut.ensures.value)
    c.slot-slot.result c.unwrap_or-to.result c.slot-slot.ensures
    (c.unwrap_or-to.ensures ∙ ap (λ o. unwrap_or o c.slot-slot.result) (c.predecessor.ensures ∙ ap predecessor_of (c.place.ensures ∙ ap (λ m. m.node.state.place) c.behind-self.view_is)))
    c.exchange.ensures.from c.exchange.ensures.to _ c.new-link.result.items _ c.exchange.new.self _ c.exchange.ensures.was c.exchange.ensures.link c.exchange-2.ensures.link

pub invariant_of-self : goal.invariant_of-self
invariant_of-self g c = rw c.hold-replies.ensures.board (
    let here = read_at _ _ c.args.at _ c.self.view_is c.requires c.index_mut.ensures.value in
    either c.hold-replies.result _ _ _ c.hold-replies.ensures.held c.hold-replies.ensures.idle
    (λ replies did. formed_held (old_of g c) c.args.at _ _ here _ _ _ (lent g c) replies.items did _ c.self.invariant)
    (λ idle. formed_same (old_of g c) c.args.at _ _ here _ _ _ (lent g c) _ idle.1 idle.2 c.self.invariant))

pub returns-clause-held : goal.returns-clause-held
returns-clause-held g c = some_then c.hold-replies.result _ _ c.hold-replies.ensures.held (λ replies did. rw (← c.self.view_is, c.hold-replies.ensures.board)
    (let here = read_at _ _ c.args.at _ c.self.view_is c.requires c.index_mut.ensures.value in
    holds_at (old_of g c) c.args.at _ _ here _ _ _ (lent g c) replies.items did c.self.invariant.all_links))

pub returns-clause-idle : goal.returns-clause-idle
returns-clause-idle g c = none_then c.hold-replies.result _ _ c.hold-replies.ensures.idle (λ idle. rw (← c.self.view_is, c.hold-replies.ensures.board)
    (let here = read_at _ _ c.args.at _ c.self.view_is c.requires c.index_mut.ensures.value in
    let same = rests_then (old_of g c) c.args.at _ _ here _ _ _ (lent g c) idle.1 idle.2 in
    elim idle.0 [
      | inl stopped ↦ inl (record { member = c.index_mut.result.now; here = here; stopped = stopped; same = same })
      | inr lacks ↦ inr (record { member = c.index_mut.result.now; here = here; lacks = lacks; same = same })
    ]))

pub returns-clause-one_volume : goal.returns-clause-one_volume
returns-clause-one_volume g c = λ premise. some_then c.hold-replies.result _ _ c.hold-replies.ensures.held (λ replies did v s events shows stands put_out. rw (← c.self.view_is, c.hold-replies.ensures.board)
    (let here = read_at _ _ c.args.at _ c.self.view_is c.requires c.index_mut.ensures.value in
    held_goes (old_of g c) c.args.at _ _ here _ _ _ (lent g c) replies.items did g.S.StoreLike.about g.S.StoreLike.keeps g.S.StoreLike.may_leave_now c.self.invariant.all_links v s events
    (rw c.self.view_is shows) (stands_now _ _ v s c.self.view_is stands) put_out))
