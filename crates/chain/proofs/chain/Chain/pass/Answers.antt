use Rattle.std.proofs.Common.{◌≡◌, ◌∙◌, ℕ, inl, inr, refl, sym, ap}
use Rattle.std.specs.Prelude.{Option, Some, slice_get, slice_set}
use Rattle.std.specs.Option.{unwrap_or}
use Rattle.std.proofs.lemmas.Bool.{cases_eq, eq-eqb, ne_eqb, true≢false}
use Rattle.std.proofs.lemmas.Option.{same_Some}
use Rattle.chain.specs.Chain.{Chained, bytes_of}
use Rattle.chain.specs.Member.{Linked}
use Rattle.chain.specs.Passing.{MessageComes, target_of}
use Rattle.chain.proofs.ComingSteps.{Left, came_goes, inside_at, message_left, or_itself, sizes_are}
use Rattle.chain.proofs.FloorSteps.{stands_now}
use Rattle.chain.proofs.MessageSteps.{message_goes}
use Rattle.chain.proofs.Stepping.{read_at}
use Rattle.chain.proofs.chain.Chain.pass.Given.{Over}
use Rattle.chain.proofs.chain.Chain.pass.Goals as goal

pub returns-then-eq-clause-none : goal.returns-then-eq-clause-none
returns-then-eq-clause-none g c =
    let here = read_at _ _ c.args.at _ c.self.view_is c.requires c.index.ensures in
    let same : c.args.from ≡ c.slot-slot.result = elim (cases_eq c.args.from c.slot-slot.result) [
      | inl same ↦ same
      | inr apart ↦ absurd (true≢false (sym c.if-eq.true ∙ c.eq.ensures ∙ ne_eqb c.args.from c.slot-slot.result apart))
    ] in
    rw (← c.self.view_is) (inr (record { member = c.index.result.now; here = here; itself = same ∙ c.slot-slot.ensures; same = refl }))

pub returns-in_default-clause-none : goal.returns-in_default-clause-none
returns-in_default-clause-none g c =
    let here = read_at _ _ c.args.at _ c.self.view_is c.requires c.index.ensures in
    rw (← c.self.view_is) (inl (record { member = c.index.result.now; here = here; empty = rw (← c.slot-slot.ensures) c.in_default.ensures.none; same = refl }))

pub pass-taken-requires : goal.pass-taken-requires
pass-taken-requires g c =
    let i = c.self.inside in
    let old : Chained g.row.S.Denot = record { id = i.board.id; seat = i.board.seat; words = i.board.words; recorded = i.recorded; before = i.before; writing = i.writing; youngest = i.youngest; geometry = i.geometry; members = i.members.items; links = i.links; submits = i.submits } in
    let m = c.behind-self-2.inside in
    let before : Linked g.row.S.Denot = record { node = m.node; front = m.front; muster = m.muster; receipt = m.receipt } in
    let here : slice_get old.members c.args.at ≡ Some before = read_at old c.args.self.now c.args.at _ c.self.view_is c.requires c.index_mut.ensures.value ∙ ap Some (sym c.behind-self-2.view_is) in
    let long = c.self.invariant.all_links in
    rw (c.exchange.ensures.was, sizes_are g.S.StoreLike.about old c.args.at before here c.self.invariant)
    (inside_at (bytes_of old) old.links c.args.from c.slot-slot.result long c.exchange.ensures.from c.exchange.ensures.to c.self.invariant.links_inside)

-- the chain before, and its member at the place
abbrev old_of : (g : Over) → goal.After-drop-link g → Chained g.row.S.Denot
old_of g c = let i = c.self.inside in record { id = i.board.id; seat = i.board.seat; words = i.board.words; recorded = i.recorded; before = i.before; writing = i.writing; youngest = i.youngest; geometry = i.geometry; members = i.members.items; links = i.links; submits = i.submits }

abbrev before_of : (g : Over) → goal.After-drop-link g → Linked g.row.S.Denot
before_of g c = let m = c.behind-self-2.inside in record { node = m.node; front = m.front; muster = m.muster; receipt = m.receipt }

here_of : (g : Over) (c : goal.After-drop-link g) → slice_get (old_of g c).members c.args.at ≡ Some (before_of g c)
here_of g c = read_at (old_of g c) c.args.self.now c.args.at _ c.self.view_is c.requires c.index_mut.ensures.value ∙ ap Some (sym c.behind-self-2.view_is)

slot_of : (g : Over) (c : goal.After-drop-link g) → c.slot-slot.result ≡ (before_of g c).node.state.place.slot
slot_of g c =
    let old = old_of g c in
    c.slot-slot.ensures ∙ ap (λ (x : Linked g.row.S.Denot). x.node.state.place.slot) (same_Some c.index.result.now (before_of g c) (sym (read_at old c.args.self.now c.args.at _ c.self.view_is c.requires c.index.ensures) ∙ here_of g c))

-- what the call leaves of the chain
left_of : (g : Over) (c : goal.After-drop-link g) → Left (λ given. given.items) g.S.StoreLike.about (λ o. o.links) MessageComes c.args.from c.args.at (old_of g c)
    (record (old_of g c) { members = slice_set (old_of g c).members c.args.at (record (before_of g c) { node = c.pass-taken.new.node }); links = c.exchange-4.new.self }) c.pass-taken.result
left_of g c =
    let old = old_of g c in
    let before = before_of g c in
    let here = here_of g c in
    let slot_is = slot_of g c in
    let same = c.behind-self.view_is ∙ same_Some c.index-2.result.now before (sym (read_at old c.args.self.now c.args.at _ c.self.view_is c.requires c.index-2.ensures) ∙ here) in
    message_left (λ given. given.items) g.S.StoreLike.about old c.args.from c.args.at c.unwrap_or-to.result before here c.pass-taken.new.node c.in-Some.first.now
    c.new-link.result.items c.new-sent.result.items c.exchange.new.queue.items c.exchange-2.new.queue.items c.pass-taken.new.link.items c.pass-taken.new.to.items c.pass-taken.result c.self.invariant
    (record { none = c.pass-taken.ensures.none; some = c.pass-taken.ensures.some; refused = c.pass-taken.ensures.refused; inside = c.pass-taken.ensures.inside })
    c.exchange.new.self c.exchange-2.new.self c.exchange-3.new.self c.exchange-4.new.self c.slot-slot.result slot_is
    (record {
      apart = λ same. true≢false (sym (eq-eqb c.args.from c.slot-slot.result same) ∙ sym c.eq.ensures ∙ c.if-eq.false);
      first_is = c.in-Some.ensures.some;
      to_is = c.unwrap_or-to.ensures ∙ ap (λ (o : Option ℕ). unwrap_or o c.slot-slot.result) (c.target.ensures ∙ ap (λ (x : Linked g.row.S.Denot). target_of x.node.state c.in-Some.first.now.message) same);
      from_lt = c.exchange.ensures.from;
      slot_lt = c.exchange.ensures.to;
      to_lt = c.exchange-2.ensures.to;
      lent = c.exchange.ensures.link;
      queue_is = c.exchange.ensures.was;
      lent_too = c.exchange-2.ensures.link;
      sent_is = c.exchange-2.ensures.was;
      back = c.exchange-3.ensures.link;
      back_too = c.exchange-4.ensures.link;
    })

pub invariant_of-self : goal.invariant_of-self
invariant_of-self g c =
    (left_of g c).formed

pub returns-clause-none : goal.returns-clause-none
returns-clause-none g c = rw (← c.self.view_is) (
    or_itself _ _ c.pass-taken.result (left_of g c).came.none)

pub returns-clause-comes : goal.returns-clause-comes
returns-clause-comes g c = rw (← c.self.view_is) (
    (left_of g c).came.comes)

pub returns-clause-refused : goal.returns-clause-refused
returns-clause-refused g c = rw (← c.self.view_is) (
    (left_of g c).came.refused)

pub returns-clause-one_volume : goal.returns-clause-one_volume
returns-clause-one_volume g c = λ premise v s events shows stands put_out. rw (← c.self.view_is) (
    came_goes (λ given. given.items) (λ o. o.links) (MessageComes c.args.from c.args.at (old_of g c) _) c.args.from c.args.at (old_of g c) _ g.S.StoreLike.about g.S.StoreLike.keeps g.S.StoreLike.may_leave_now v events (rw c.self.view_is shows)
    (λ given comes out. message_goes g.S.StoreLike.about g.S.StoreLike.keeps g.S.StoreLike.may_leave_now (old_of g c) c.args.at v s (rw c.self.view_is shows) (stands_now _ _ v s c.self.view_is stands) c.args.from _ given events
    (λ other there same. true≢false (sym (eq-eqb c.args.from c.slot-slot.result (same ∙ ap (λ (x : Linked g.row.S.Denot). x.node.state.place.slot) (same_Some other (before_of g c) (sym there ∙ here_of g c)) ∙ sym (slot_of g c))) ∙ sym c.eq.ensures ∙ c.if-eq.false)) comes out)
    c.pass-taken.result (left_of g c).came put_out)
