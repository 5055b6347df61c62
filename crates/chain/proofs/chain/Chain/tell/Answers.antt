use Rattle.std.proofs.Common.{◌≡◌, ◌∙◌, refl, sym, ap, inr}
use Rattle.std.specs.Prelude.{Some, is_some, slice_get}
use Rattle.std.proofs.lemmas.Option.{same_Some}
use Rattle.chain_steps.specs.Node.{Out}
use Rattle.chain.specs.Chain.{Chained, bytes_of}
use Rattle.chain.specs.Member.{Linked}
use Rattle.chain.proofs.FloorSteps.{stands_now}
use Rattle.chain.proofs.PassingSteps.{none_of}
use Rattle.chain.proofs.RecordingSteps.{IsLent, TellsSo, halted_formed, halts_at, result_formed, result_goes, result_refused, result_told, so_told, tells_goes, untold}
use Rattle.chain.proofs.Stepping.{read_at}
use Rattle.chain.proofs.chain.Chain.tell.Given.{Over}
use Rattle.chain.proofs.chain.Chain.tell.Goals as goal

pub returns-then-is_some-clause-refused : goal.returns-then-is_some-clause-refused
returns-then-is_some-clause-refused g c =
    let here = read_at _ _ c.args.at _ c.self.view_is c.requires c.index.ensures in
    rw (← c.self.view_is) (record { member = c.index.result.now; here = here; refused = untold _ c.index.result.now.node.state (ap is_some (sym c.cause.ensures) ∙ sym c.is_some.ensures ∙ c.if-is_some.true); same = refl })

pub invariant_of-self : goal.invariant_of-self
invariant_of-self g c =
    let i = c.self.inside in
    let old : Chained g.row.S.Denot = record { id = i.board.id; seat = i.board.seat; words = i.board.words; recorded = i.recorded; before = i.before; writing = i.writing; youngest = i.youngest; geometry = i.geometry; members = i.members.items; links = i.links; submits = i.submits } in
    let m = c.behind-self.inside in
    let before : Linked g.row.S.Denot = record { node = m.node; front = m.front; muster = m.muster; receipt = m.receipt } in
    let here : slice_get old.members c.args.at ≡ Some before = read_at old c.args.self.now c.args.at _ c.self.view_is c.requires c.index_mut.ensures.value ∙ ap Some (sym c.behind-self.view_is) in
    halted_formed old c.args.at before here c.stop_by.new.self _ c.stop_by.ensures.step g.S.StoreLike.about c.self.invariant

pub returns-in_default-clause-told : goal.returns-in_default-clause-told
returns-in_default-clause-told g c = rw (← c.self.view_is) (
    let i = c.self.inside in
    let old : Chained g.row.S.Denot = record { id = i.board.id; seat = i.board.seat; words = i.board.words; recorded = i.recorded; before = i.before; writing = i.writing; youngest = i.youngest; geometry = i.geometry; members = i.members.items; links = i.links; submits = i.submits } in
    let m = c.behind-self.inside in
    let before : Linked g.row.S.Denot = record { node = m.node; front = m.front; muster = m.muster; receipt = m.receipt } in
    let here : slice_get old.members c.args.at ≡ Some before = read_at old c.args.self.now c.args.at _ c.self.view_is c.requires c.index_mut.ensures.value ∙ ap Some (sym c.behind-self.view_is) in
    let ran = ap (λ (x : Linked g.row.S.Denot). x.node.state.stopped) (same_Some before c.index.result.now (sym here ∙ read_at old c.args.self.now c.args.at _ c.self.view_is c.requires c.index.ensures)) ∙ none_of c.index.result.now.node.state.stopped (ap is_some (sym c.cause.ensures) ∙ sym c.is_some.ensures ∙ c.if-is_some.false) in
    inr (halts_at old c.args.at before here c.stop_by.new.self _ c.stop_by.ensures.step _ (ap (λ (o : Out). o.replies) c.result.view_is) ran))

pub returns-in_default-clause-one_volume : goal.returns-in_default-clause-one_volume
returns-in_default-clause-one_volume g c = λ premise v s events shows stands put_out. rw (← c.self.view_is) (
    let i = c.self.inside in
    let old : Chained g.row.S.Denot = record { id = i.board.id; seat = i.board.seat; words = i.board.words; recorded = i.recorded; before = i.before; writing = i.writing; youngest = i.youngest; geometry = i.geometry; members = i.members.items; links = i.links; submits = i.submits } in
    let m = c.behind-self.inside in
    let before : Linked g.row.S.Denot = record { node = m.node; front = m.front; muster = m.muster; receipt = m.receipt } in
    let here : slice_get old.members c.args.at ≡ Some before = read_at old c.args.self.now c.args.at _ c.self.view_is c.requires c.index_mut.ensures.value ∙ ap Some (sym c.behind-self.view_is) in
    let ran = ap (λ (x : Linked g.row.S.Denot). x.node.state.stopped) (same_Some before c.index.result.now (sym here ∙ read_at old c.args.self.now c.args.at _ c.self.view_is c.requires c.index.ensures)) ∙ none_of c.index.result.now.node.state.stopped (ap is_some (sym c.cause.ensures) ∙ sym c.is_some.ensures ∙ c.if-is_some.false) in
    tells_goes g.S.StoreLike.about g.S.StoreLike.keeps g.S.StoreLike.may_leave_now old v events (rw c.self.view_is shows) c.args.at s (stands_now _ _ v s c.self.view_is stands) _ c.result.inside.replies.items
    (inr (halts_at old c.args.at before here c.stop_by.new.self _ c.stop_by.ensures.step _ (ap (λ (o : Out). o.replies) c.result.view_is) ran)) put_out)

-- the chain before, and its member at the place
abbrev old_of : (g : Over) → goal.After-drop-link g → Chained g.row.S.Denot
old_of g c = let i = c.self.inside in record { id = i.board.id; seat = i.board.seat; words = i.board.words; recorded = i.recorded; before = i.before; writing = i.writing; youngest = i.youngest; geometry = i.geometry; members = i.members.items; links = i.links; submits = i.submits }

abbrev before_of : (g : Over) → goal.After-drop-link g → Linked g.row.S.Denot
before_of g c = let m = c.behind-self-2.inside in record { node = m.node; front = m.front; muster = m.muster; receipt = m.receipt }

here_of : (g : Over) (c : goal.After-drop-link g) → slice_get (old_of g c).members c.args.at ≡ Some (before_of g c)
here_of g c = read_at (old_of g c) c.args.self.now c.args.at _ c.self.view_is c.requires c.index_mut-2.ensures.value ∙ ap Some (sym c.behind-self-2.view_is)

-- the link that it took out, and put back
lent_of : (g : Over) (c : goal.After-drop-link g) → IsLent (old_of g c) (before_of g c) c.new-link.result.items c.exchange.new.queue.items c.tell-told.new.to.items c.exchange.new.self c.exchange-2.new.self
lent_of g c =
    let old = old_of g c in
    let before = before_of g c in
    let here = here_of g c in
    let slot_is = c.slot-slot.ensures ∙ ap (λ (x : Linked g.row.S.Denot). x.node.state.place.slot) (same_Some c.index-2.result.now before (sym (read_at old c.args.self.now c.args.at _ c.self.view_is c.requires c.index-2.ensures) ∙ here)) in
    record {
      slot = c.slot-slot.result;
      to = c.in-Ok.to;
      slot_is = slot_is;
      to_is = c.in-Ok.ensures.to;
      slot_lt = c.exchange.ensures.from;
      to_lt = c.exchange.ensures.to;
      was_is = c.exchange.ensures.was;
      lent = c.exchange.ensures.link;
      back = c.exchange-2.ensures.link;
    }

-- what the member's call says
did_of : (g : Over) (c : goal.After-drop-link g) → TellsSo (λ given. given.items) (old_of g c).recorded (bytes_of (old_of g c)) (before_of g c).node c.tell-told.new.node c.exchange.new.queue.items c.tell-told.new.to.items c.tell-told.result
did_of g c = so_told (λ given. given.items) g.S.StoreLike.about (old_of g c) c.self.invariant c.args.at (before_of g c) (here_of g c) c.tell-told.new.node _ _ _ _ _ (lent_of g c) c.in-Ok.chain c.tell-told.result c.in-Ok.ensures.copy
    (record { does = c.tell-told.ensures.told; refused = c.tell-told.ensures.refused; inside = c.tell-told.ensures.inside })

pub invariant_of-self-2 : goal.invariant_of-self-2
invariant_of-self-2 g c =
    result_formed (λ given. given.items) g.S.StoreLike.about (old_of g c) c.self.invariant c.args.at (before_of g c) (here_of g c) c.tell-told.new.node _ _ _ _ _ (lent_of g c) c.tell-told.result (did_of g c)

pub returns-clause-told : goal.returns-clause-told
returns-clause-told g c = rw (← c.self.view_is) (
    result_told (λ given. given.items) g.S.StoreLike.about (old_of g c) c.self.invariant c.args.at (before_of g c) (here_of g c) c.tell-told.new.node _ _ _ _ _ (lent_of g c) c.tell-told.result (did_of g c))

pub returns-clause-refused : goal.returns-clause-refused
returns-clause-refused g c = rw (← c.self.view_is) (
    result_refused (λ given. given.items) g.S.StoreLike.about (old_of g c) c.self.invariant c.args.at (before_of g c) (here_of g c) c.tell-told.new.node _ _ _ _ _ (lent_of g c) c.tell-told.result (did_of g c))

pub returns-clause-one_volume : goal.returns-clause-one_volume
returns-clause-one_volume g c = λ premise v s events shows stands put_out. rw (← c.self.view_is) (
    result_goes (λ given. given.items) g.S.StoreLike.about (old_of g c) c.self.invariant c.args.at (before_of g c) (here_of g c) c.tell-told.new.node _ _ _ _ _ (lent_of g c) g.S.StoreLike.keeps g.S.StoreLike.may_leave_now v s events (rw c.self.view_is shows) (stands_now _ _ v s c.self.view_is stands) c.tell-told.result (did_of g c) put_out)
