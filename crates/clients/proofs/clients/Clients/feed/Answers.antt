use Rattle.std.proofs.Common.{◌≡◌, Result, Ok, Err, Option, Some, map, sym, subst}
use Rattle.std.specs.Prelude.{IfOk, IfSome}
use Rattle.nbd_session.specs.Demand.{asked_by}
use Rattle.clients.proofs.CallSteps.{changed_at_places, changed_stay_over, demands_of, feed_stays, found_at, read_at}
use Rattle.clients.proofs.Histories.{go_on_fed}
use Rattle.clients.proofs.clients.Clients.feed.Goals.{in-Ok, in-Err}
use Rattle.clients.proofs.clients.Clients.feed.Goals as goal

-- what is so of a result in an `Ok`
if_fed : {A E : Type 0} (P : A → Type 0) (r : Option (Result A E)) (x : A) → r ≡ Some (Ok x) → P x → IfSome r (λ fed. IfOk fed P)
if_fed P r x is so = subst (λ o. IfSome o (λ fed. IfOk fed P)) (sym is) so

if_refused : {A E : Type 0} (P : A → Type 0) (r : Option (Result A E)) (e : E) → r ≡ Some (Err e) → IfSome r (λ fed. IfOk fed P)
if_refused P r e is = subst (λ o. IfSome o (λ fed. IfOk fed P)) (sym is) tt

pub returns-clause-demands : goal.returns-clause-demands
returns-clause-demands c = rw (← c.self.view_is)
    (let here = read_at _ _ c.in_ok-place.place _ c.self.view_is c.in_ok-place.ensures.within c.index_mut-client.ensures.value in
    let there = found_at c.args.id _ _ c.in_ok-place.place c.self.view_is c.in_ok-place.ensures.place in
    elim c.match-feed.branch [
      | in-Ok w ↦ if_fed _ c.match-feed.result _ w.result-is
          (demands_of c.args.id _ c.in_ok-place.place _ w.in-Ok.demands.items c.self.invariant there here w.in-Ok.ensures.demands)
      | in-Err w ↦ if_refused _ c.match-feed.result w.in-Err.refusal w.result-is
    ])

pub returns-clause-places : goal.returns-clause-places
returns-clause-places c = rw (← c.self.view_is)
    (let here = read_at _ _ c.in_ok-place.place _ c.self.view_is c.in_ok-place.ensures.within c.index_mut-client.ensures.value in
    changed_at_places _ c.in_ok-place.place _ _ here c.feed.ensures.same)

pub returns-clause-stay_over : goal.returns-clause-stay_over
returns-clause-stay_over c = rw (← c.self.view_is)
    (let here = read_at _ _ c.in_ok-place.place _ c.self.view_is c.in_ok-place.ensures.within c.index_mut-client.ensures.value in
    changed_stay_over _ c.in_ok-place.place _ _ here c.feed.ensures.same.id
    (feed_stays c.feed.result (λ demands. demands.items) c.args.piece.now _ _ _ c.feed.ensures.fed c.feed.ensures.err))

pub returns-clause-lawful : goal.returns-clause-lawful
returns-clause-lawful c = rw (← c.self.view_is)
    (let here = read_at _ _ c.in_ok-place.place _ c.self.view_is c.in_ok-place.ensures.within c.index_mut-client.ensures.value in
    let there = found_at c.args.id _ _ c.in_ok-place.place c.self.view_is c.in_ok-place.ensures.place in
    elim c.match-feed.branch [
      | in-Ok w ↦ if_fed _ c.match-feed.result _ w.result-is
          (go_on_fed c.self.inside.clients.items c.self.invariant.apart c.args.id c.in_ok-place.place c.index_mut-client.result.now c.feed.new.self there here c.feed.ensures.same.id
          c.args.piece.now (map asked_by w.in-Ok.demands.items) w.in-Ok.ensures.lawful)
      | in-Err w ↦ if_refused _ c.match-feed.result w.in-Err.refusal w.result-is
    ])
