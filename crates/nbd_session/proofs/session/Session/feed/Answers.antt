use Rattle.std.proofs.Common.{rules, arith, ◌≡◌, ◌<◌, ◌^◌, false, map, subst}
use Rattle.nbd_codec.specs.Findings.{AreBytes}
use Rattle.nbd_session.specs.Demand.{asked_by}
use Rattle.nbd_session.specs.Session.{Feeds}
use Rattle.nbd_session.specs.Progress.{is_over}
use Rattle.nbd_session.proofs.Demands.{all_inside, all_of_board, all_of_session, all_unnumbered}
use Rattle.nbd_session.proofs.Endings.{bytes_both}
use Rattle.nbd_session.proofs.session.Session.feed.Goals as goal

pub returns-in-Ok-clause-lawful : goal.returns-in-Ok-clause-lawful
returns-in-Ok-clause-lawful c history stands =
    let now = c.args.self.now in
    let fed : Feeds now c.args.piece.now c.take_in.new.self (map asked_by c.in-Ok.demands.items) = search rules in
    let open_still : is_over now.phase ≡ false = search rules in
    let small : now.export.max_payload < 2 ^ 32 = search rules in
    let kept : AreBytes now.kept = subst (λ s. AreBytes s.kept) c.self.view_is c.self.invariant.2 in
    c.feeds_are_lawful.ensures.feeds now c.take_in.new.self history c.args.piece.now (map asked_by c.in-Ok.demands.items)
    (bytes_both now.kept c.args.piece.now kept (λ i. omega (arith, c.type_inv.piece i))) small open_still stands fed

pub returns-in-Ok-clause-takes_all : goal.returns-in-Ok-clause-takes_all
returns-in-Ok-clause-takes_all c open_still free =
    let now = c.args.self.now in
    let fed : Feeds now c.args.piece.now c.take_in.new.self (map asked_by c.in-Ok.demands.items) = search rules in
    let small : now.export.max_payload < 2 ^ 32 = search rules in
    let kept : AreBytes now.kept = subst (λ s. AreBytes s.kept) c.self.view_is c.self.invariant.2 in
    (c.feeds_are_lawful.ensures.all now c.take_in.new.self c.args.piece.now (map asked_by c.in-Ok.demands.items)
    (bytes_both now.kept c.args.piece.now kept (λ i. omega (arith, c.type_inv.piece i))) small fed open_still free).0

pub returns-in-Ok-clause-keeps_little : goal.returns-in-Ok-clause-keeps_little
returns-in-Ok-clause-keeps_little c open_still free =
    let now = c.args.self.now in
    let fed : Feeds now c.args.piece.now c.take_in.new.self (map asked_by c.in-Ok.demands.items) = search rules in
    let small : now.export.max_payload < 2 ^ 32 = search rules in
    let kept : AreBytes now.kept = subst (λ s. AreBytes s.kept) c.self.view_is c.self.invariant.2 in
    (c.feeds_are_lawful.ensures.all now c.take_in.new.self c.args.piece.now (map asked_by c.in-Ok.demands.items)
    (bytes_both now.kept c.args.piece.now kept (λ i. omega (arith, c.type_inv.piece i))) small fed open_still free).1

pub returns-in-Ok-clause-inside : goal.returns-in-Ok-clause-inside
returns-in-Ok-clause-inside c = all_inside c.args.self.now.export.size c.in-Ok.demands.items c.in-Ok.ensures.inside

pub returns-in-Ok-clause-whose : goal.returns-in-Ok-clause-whose
returns-in-Ok-clause-whose c = all_of_session c.args.self.now.board c.args.self.now.id c.in-Ok.demands.items c.in-Ok.ensures.made

pub returns-in-Ok-clause-of_board : goal.returns-in-Ok-clause-of_board
returns-in-Ok-clause-of_board c = all_of_board c.args.self.now.board c.args.self.now.id c.in-Ok.demands.items c.in-Ok.ensures.made

pub returns-in-Ok-clause-unnumbered : goal.returns-in-Ok-clause-unnumbered
returns-in-Ok-clause-unnumbered c = all_unnumbered c.args.self.now.board c.args.self.now.id c.in-Ok.demands.items c.in-Ok.ensures.made
