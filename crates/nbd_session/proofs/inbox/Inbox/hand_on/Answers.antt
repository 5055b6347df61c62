use Rattle.std.proofs.Common.{rules, ◌≡◌, IfOk, map, subst, sym}
use Rattle.nbd_session.specs.Intake.{loaded_view, wanted_view}
use Rattle.nbd_session.proofs.Requests.{split_map}
use Rattle.nbd_session.proofs.inbox.Inbox.hand_on.Goals as goal

pub returns-in-Some-clause-loaded : goal.returns-in-Some-clause-loaded
returns-in-Some-clause-loaded c =
    let ws = c.args.wanted.now in
    subst (λ l. IfOk c.hand_on_bulk.result (λ loaded. map loaded_view loaded.items ≡ l))
    (sym (split_map (wanted_view c.args.self.now) ws c.in-Some.place _ (search rules))) c.hand_on_bulk.ensures.loaded
