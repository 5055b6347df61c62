use Rattle.std.proofs.Common.{◌∙◌, ap, sym, subst}
use Rattle.std.specs.Prelude.{Some}
use Rattle.std.proofs.lemmas.Option.{same_Some}
use Rattle.volume.specs.Writes.{Fits}
use Rattle.chain_steps.specs.Place.{Standing, head_of}
use Rattle.chain.specs.Chain.{Chained, bytes_of}
use Rattle.chain.specs.Member.{Linked}
use Rattle.chain.proofs.AskingSteps.{Lends, has_submitted, lent_away, lent_formed, lent_goes, lent_pleads, submitted_goes}
use Rattle.chain.proofs.Results.{if_err, on_ok}
use Rattle.chain.proofs.Stepping.{in_at, read_at}
use Rattle.chain.proofs.chain.Chain.submit.Goals as goal

-- the chain, and the member at the place
abbrev old : (g : _) → goal.After-drop-link g → Chained g.row.S.Denot
old g c = record {
  id = c.self.inside.board.id;
  seat = c.self.inside.board.seat;
  words = c.self.inside.board.words;
  recorded = c.self.inside.recorded;
  before = c.self.inside.before;
  writing = c.self.inside.writing;
  youngest = c.self.inside.youngest;
  geometry = c.self.inside.geometry;
  members = c.self.inside.members.items;
  links = c.self.inside.links;
  submits = c.self.inside.submits;
}

abbrev own : (g : _) → goal.After-drop-link g → Linked g.row.S.Denot
own g c = record { node = c.behind-self-2.inside.node; front = c.behind-self-2.inside.front; muster = c.behind-self-2.inside.muster; receipt = c.behind-self-2.inside.receipt }

lends : (g : _) (c : goal.After-drop-link g) → Lends (old g c) c.args.at (own g c) c.submit_to-taken.new.node c.exchange-2.new.self c.submit_to-taken.result c.args.token c.args.write (λ e. e.replies.items) (λ e. e.refusal)
lends g c =
    let here = read_at (old g c) _ c.args.at _ c.self.view_is c.requires.at c.index_mut.ensures.value ∙ ap Some (sym c.behind-self-2.view_is) in
    let first = read_at (old g c) _ c.args.at _ c.self.view_is c.requires.at c.index.ensures in
    let second = read_at (old g c) _ c.args.at _ c.self.view_is c.requires.at c.index-2.ensures in
    record {
      slot = c.slot-slot.result;
      head = c.head-head.result;
      lent = c.new-link.result.items;
      link = c.exchange.new.queue.items;
      queue = c.submit_to-taken.new.link.items;
      mid = c.exchange.new.self;
      here = here;
      slot_is = c.slot-slot.ensures ∙ ap (λ (m : Linked g.row.S.Denot). m.node.state.place.slot) (same_Some _ _ (sym first ∙ here));
      head_is = sym (ap (λ (m : Linked g.row.S.Denot). head_of m.node.state.place.chain) (same_Some _ _ (sym second ∙ here))) ∙ sym (ap (λ (m : Linked g.row.S.Denot). head_of m.node.state.place.chain) c.behind-self.view_is)
          ∙ sym (ap (λ (p : Standing). head_of p.chain) c.place.ensures) ∙ c.head-head.ensures;
      slot_lt = c.exchange.ensures.from;
      head_lt = c.exchange.ensures.to;
      taken = c.exchange.ensures.link;
      was = c.exchange.ensures.was;
      back = c.exchange-2.ensures.link;
      done = c.submit_to-taken.ensures.node;
      sent = c.submit_to-taken.ensures.link;
      still = c.submit_to-taken.ensures.still;
      refused = c.submit_to-taken.ensures.refused;
    }

pub invariant_of-self : goal.invariant_of-self
invariant_of-self g c =
    lent_formed (old g c) c.args.at (own g c) c.submit_to-taken.new.node c.exchange-2.new.self c.submit_to-taken.result c.args.token c.args.write (λ e. e.replies.items) (λ e. e.refusal) (lends g c) g.S.StoreLike.about c.self.invariant
    (subst (λ (o : Chained g.row.S.Denot). Fits (bytes_of o) c.args.write) (sym c.self.view_is) c.requires.inside) c.requires.some

pub returns-clause-submitted : goal.returns-clause-submitted
returns-clause-submitted g c = rw (← c.self.view_is)
    (has_submitted (old g c) c.args.at (own g c) c.submit_to-taken.new.node c.exchange-2.new.self c.submit_to-taken.result c.args.token c.args.write (λ e. e.replies.items) (λ e. e.refusal) (lends g c) g.S.StoreLike.about c.self.invariant c.submit_to-taken.ensures.runs c.submit_to-taken.ensures.ticket)

pub returns-clause-refused : goal.returns-clause-refused
returns-clause-refused g c = rw (← c.self.view_is)
    (lent_away (old g c) c.args.at (own g c) c.submit_to-taken.new.node c.exchange-2.new.self c.submit_to-taken.result c.args.token c.args.write (λ e. e.replies.items) (λ e. e.refusal) (lends g c))

pub returns-clause-takes : goal.returns-clause-takes
returns-clause-takes g c = λ premise. rw (← c.self.view_is) (on_ok c.submit_to-taken.result
    (has_submitted (old g c) c.args.at (own g c) c.submit_to-taken.new.node c.exchange-2.new.self c.submit_to-taken.result c.args.token c.args.write (λ e. e.replies.items) (λ e. e.refusal) (lends g c) g.S.StoreLike.about c.self.invariant c.submit_to-taken.ensures.runs c.submit_to-taken.ensures.ticket)
    (λ did v s events rest shows stands first put_out.
    submitted_goes g.S.StoreLike.about g.S.StoreLike.keeps g.S.StoreLike.may_leave_now (old g c) _ c.args.at c.args.token c.args.write did (in_at g.S.StoreLike.about (old g c) c.args.at did.before did.here c.self.invariant).member v events rest c.requires.unnumbered shows first put_out))

pub returns-clause-one_volume : goal.returns-clause-one_volume
returns-clause-one_volume g c = λ premise. rw (← c.self.view_is) (if_err c.submit_to-taken.result
    (lent_goes (old g c) c.args.at (own g c) c.submit_to-taken.new.node c.exchange-2.new.self c.submit_to-taken.result c.args.token c.args.write (λ e. e.replies.items) (λ e. e.refusal) (lends g c) g.S.StoreLike.about g.S.StoreLike.keeps g.S.StoreLike.may_leave_now)
    (λ e goes v s events shows stands put_out. goes v events shows put_out))

pub returns-clause-pleads : goal.returns-clause-pleads
returns-clause-pleads g c =
    lent_pleads (old g c) c.args.at (own g c) c.submit_to-taken.new.node c.exchange-2.new.self c.submit_to-taken.result c.args.token c.args.write (λ e. e.replies.items) (λ e. e.refusal) (lends g c)
    (in_at g.S.StoreLike.about (old g c) c.args.at (own g c) (lends g c).here c.self.invariant).member
