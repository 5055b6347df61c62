use Rattle.std.proofs.Common.{◌≡◌, Option, Some, None, true, false, refl, sym, ◌∙◌, ap, subst}
use Rattle.std.specs.Prelude.{is_some}
use Rattle.flush_barrier.specs.declared.session_id.SessionId.{SessionId}
use Rattle.nbd_session.specs.Lawful.{nothing}
use Rattle.clients.specs.Clients.{Client, Goes, Sessions, place_of}
use Rattle.clients.proofs.CallSteps.{begun_are_sessions, begun_stay_over}
use Rattle.clients.proofs.Histories.{begun_goes, go_on_begun}
use Rattle.clients.proofs.clients.Clients.connect.Goals as goal

is_none : {A : Type 0} (o : Option A) → is_some o ≡ false → o ≡ None
is_none None none = refl
is_none (Some x) none = let wrong : true ≡ false = none in absurd cc

pub invariant_of-self-2 : goal.invariant_of-self-2
invariant_of-self-2 c =
    let client = c.in_ok-client.client in
    let is = c.in_ok-client.ensures in
    let id : client.session.id ≡ c.args.id = ap (λ (x : Client). x.session.id) is in
    let none : c.position.result ≡ None = is_none c.position.result (sym c.is_some.ensures ∙ c.if-is_some.false) in
    let gone : place_of client.session.id c.self.inside.clients.items ≡ None =
    ap (λ (i : SessionId). place_of i c.self.inside.clients.items) id ∙ ap (λ (s : Sessions). place_of c.args.id s.clients) c.self.view_is
    ∙ sym c.position.ensures.place ∙ none in
    rw c.in_ok-push.ensures.items (begun_are_sessions _ client gone (record {
      own_board = ap (λ (x : Client). x.session.board) is ∙ c.requires ∙ ap (λ (s : Sessions). s.board) (sym c.self.view_is);
      own_export = ap (λ (x : Client). x.session.export) is;
    }) c.self.invariant)

pub returns-clause-stay_over : goal.returns-clause-stay_over
returns-clause-stay_over c = rw (← c.self.view_is, c.in_ok-push.ensures.items) (begun_stay_over _ c.in_ok-client.client)

pub returns-clause-lawful : goal.returns-clause-lawful
returns-clause-lawful c = λ done. rw (← c.self.view_is, c.in_ok-push.ensures.items)
    (let client = c.in_ok-client.client in
    let is = c.in_ok-client.ensures in
    let id : client.session.id ≡ c.args.id = ap (λ (x : Client). x.session.id) is in
    let none : c.position.result ≡ None = is_none c.position.result (sym c.is_some.ensures ∙ c.if-is_some.false) in
    let gone : place_of client.session.id c.self.inside.clients.items ≡ None =
    ap (λ (i : SessionId). place_of i c.self.inside.clients.items) id ∙ ap (λ (s : Sessions). place_of c.args.id s.clients) c.self.view_is
    ∙ sym c.position.ensures.place ∙ none in
    go_on_begun c.self.inside.clients.items client gone
    (subst (λ (x : Client). Goes x.session nothing) (sym is) (begun_goes c.args.board.now c.args.id _)))
