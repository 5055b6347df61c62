use Rattle.std.proofs.Common.{◌≡◌, ◌++◌, [], arith, subst, sym, take}
use Rattle.std.proofs.lemmas.Grind.{common_steps}
use Rattle.nbd_session.specs.Lawful.{handed_out}
use Rattle.sessions.specs.Talk.{IsHistoryOf}
use Rattle.sessions.proofs.Histories.{handed_nothing, history_broken_off, history_handed, talk_broken_off, talk_handed, talk_lawful, written, written_part}
use Rattle.sessions.proofs.talk.Talk.put_out.Goals as goal

-- ---- nothing waits

pub returns-then-is_empty-clause-history : goal.returns-then-is_empty-clause-history
returns-then-is_empty-clause-history g c history is =
    let was = subst (λ t. IsHistoryOf t history) (sym c.self.view_is) is in
    let none : c.self.inside.session.output ≡ [] = grind (arith, common_steps) in
    rw (c.output-bytes.ensures.none_left, ← c.self.view_is)
    (subst (λ t. IsHistoryOf t (handed_out c.self.inside.session history)) (handed_nothing _ none)
    (history_handed c.feeds_are_lawful.ensures.output _ history (λ failed. none) was))

pub returns-then-is_empty-clause-lawful : goal.returns-then-is_empty-clause-lawful
returns-then-is_empty-clause-lawful g c = talk_lawful _ _ _ c.self.invariant.1 c.feeds_are_lawful.ensures.lawful

-- ---- all is written

pub invariant_of-self-in-Ok : goal.invariant_of-self-in-Ok
invariant_of-self-in-Ok g c =
    let took : g.O.Outgoing.took c.write_piece.new.self ≡ g.O.Outgoing.took c.self.inside.outgoing ++ c.self.inside.session.output =
    written _ _ _ _ _ c.in-Ok.ensures.all c.deref.ensures c.output-bytes.ensures.bytes in
    rw (c.output-bytes.ensures.none_left, took) (c.self.invariant.0, talk_handed _ _ _ c.self.invariant.1 c.feeds_are_lawful.ensures.output)

pub returns-in-Ok-clause-history : goal.returns-in-Ok-clause-history
returns-in-Ok-clause-history g c history is =
    let was = subst (λ t. IsHistoryOf t history) (sym c.self.view_is) is in
    let took : g.O.Outgoing.took c.write_piece.new.self ≡ g.O.Outgoing.took c.self.inside.outgoing ++ c.self.inside.session.output =
    written _ _ _ _ _ c.in-Ok.ensures.all c.deref.ensures c.output-bytes.ensures.bytes in
    rw (c.output-bytes.ensures.none_left, took, ← c.self.view_is)
    (history_handed c.feeds_are_lawful.ensures.output _ history (λ failed. (c.self.invariant.1.cut_off failed).none_waits) was)

pub returns-in-Ok-clause-lawful : goal.returns-in-Ok-clause-lawful
returns-in-Ok-clause-lawful g c =
    let laws = c.feeds_are_lawful.ensures in
    let took : g.O.Outgoing.took c.write_piece.new.self ≡ g.O.Outgoing.took c.self.inside.outgoing ++ c.self.inside.session.output =
    written _ _ _ _ _ c.in-Ok.ensures.all c.deref.ensures c.output-bytes.ensures.bytes in
    rw took (talk_lawful _ _ _ (talk_handed _ _ _ c.self.invariant.1 laws.output) laws.lawful)

-- ---- a write fails

pub invariant_of-self-in-Err : goal.invariant_of-self-in-Err
invariant_of-self-in-Err g c =
    let laws = c.feeds_are_lawful.ensures in
    let part = c.in-Err.ensures.part in
    let took : g.O.Outgoing.took c.write_piece.new.self ≡ g.O.Outgoing.took c.self.inside.outgoing ++ take part.0 c.self.inside.session.output =
    written_part part.0 _ _ _ _ _ part.1 c.deref.ensures c.output-bytes.ensures.bytes in
    rw (c.give_up.ensures, c.output-bytes.ensures.none_left, took)
    (c.self.invariant.0, talk_broken_off _ _ _ c.self.invariant.1 laws.lawful laws.output part.0)

pub returns-clause-history : goal.returns-clause-history
returns-clause-history g c history is =
    let laws = c.feeds_are_lawful.ensures in
    let was = subst (λ t. IsHistoryOf t history) (sym c.self.view_is) is in
    let part = c.in-Err.ensures.part in
    let took : g.O.Outgoing.took c.write_piece.new.self ≡ g.O.Outgoing.took c.self.inside.outgoing ++ take part.0 c.self.inside.session.output =
    written_part part.0 _ _ _ _ _ part.1 c.deref.ensures c.output-bytes.ensures.bytes in
    rw (c.give_up.ensures, c.output-bytes.ensures.none_left, took, ← c.self.view_is)
    (history_broken_off laws.lawful laws.output _ history part.0 (λ failed. (c.self.invariant.1.cut_off failed).none_waits) was)

pub returns-clause-lawful : goal.returns-clause-lawful
returns-clause-lawful g c =
    let laws = c.feeds_are_lawful.ensures in
    let part = c.in-Err.ensures.part in
    let took : g.O.Outgoing.took c.write_piece.new.self ≡ g.O.Outgoing.took c.self.inside.outgoing ++ take part.0 c.self.inside.session.output =
    written_part part.0 _ _ _ _ _ part.1 c.deref.ensures c.output-bytes.ensures.bytes in
    rw took (talk_lawful _ _ _ (talk_broken_off _ _ _ c.self.invariant.1 laws.lawful laws.output part.0) laws.lawful)
