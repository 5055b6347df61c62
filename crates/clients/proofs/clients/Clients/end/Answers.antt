use Rattle.std.proofs.Common.{◌≡◌, true, false, List, [], refl, sym, ap, subst, inl, inr}
use Rattle.std.proofs.lemmas.Bool.{cases_Bool}
use Rattle.nbd_session.specs.Progress.{is_over}
use Rattle.clients.specs.Clients.{Client, GoOn, no_one}
use Rattle.clients.proofs.CallSteps.{changed_are_sessions, changed_at_places, changed_not, changed_stay_over, end_same, end_stays, found_at, is_the_client, read_at, set_not}
use Rattle.clients.proofs.Histories.{go_on_ended, go_on_still}
use Rattle.clients.proofs.clients.Clients.end.Goals as goal

pub invariant_of-self : goal.invariant_of-self
invariant_of-self c =
    let here = read_at _ _ c.in-Some.place _ c.self.view_is c.in-Some.ensures.within c.index_mut.ensures.value in
    changed_are_sessions _ c.in-Some.place _ _ here (end_same c.end.result _ _ c.end.ensures.ended c.end.ensures.idle) c.self.invariant

pub returns-in-Some-clause-ended : goal.returns-in-Some-clause-ended
returns-in-Some-clause-ended c = λ done. rw (← c.self.view_is) (record {
  place = c.in-Some.place;
  before = c.index_mut.result.now;
  after = c.end.new.self;
  there = found_at c.args.id _ _ c.in-Some.place c.self.view_is c.in-Some.ensures.place;
  here = read_at _ _ c.in-Some.place _ c.self.view_is c.in-Some.ensures.within c.index_mut.ensures.value;
  did = c.end.ensures.ended done;
  are = refl;
})

pub returns-in-Some-clause-idle : goal.returns-in-Some-clause-idle
returns-in-Some-clause-idle c = λ idle. rw (← c.self.view_is)
    (let here = read_at _ _ c.in-Some.place _ c.self.view_is c.in-Some.ensures.within c.index_mut.ensures.value in
    let there = found_at c.args.id _ _ c.in-Some.place c.self.view_is c.in-Some.ensures.place in
    let over : is_over c.index_mut.result.now.session.phase ≡ true = (c.end.ensures.idle idle).0 in
    let same = (c.end.ensures.idle idle).1 in (
      λ has. let still : is_over c.index_mut.result.now.session.phase ≡ false =
          is_the_client c.args.id _ c.in-Some.place c.index_mut.result.now
          (λ client. is_over client.session.phase ≡ false) there here has in absurd cc,
      changed_not _ c.in-Some.place _ _ here (end_same c.end.result _ _ c.end.ensures.ended c.end.ensures.idle) same,
    ))

pub returns-in-Some-clause-places : goal.returns-in-Some-clause-places
returns-in-Some-clause-places c = rw (← c.self.view_is)
    (let here = read_at _ _ c.in-Some.place _ c.self.view_is c.in-Some.ensures.within c.index_mut.ensures.value in
    changed_at_places _ c.in-Some.place _ _ here (end_same c.end.result _ _ c.end.ensures.ended c.end.ensures.idle))

pub returns-in-Some-clause-stay_over : goal.returns-in-Some-clause-stay_over
returns-in-Some-clause-stay_over c = rw (← c.self.view_is)
    (let here = read_at _ _ c.in-Some.place _ c.self.view_is c.in-Some.ensures.within c.index_mut.ensures.value in
    let same = end_same c.end.result _ _ c.end.ensures.ended c.end.ensures.idle in
    changed_stay_over _ c.in-Some.place _ _ here same.id (end_stays c.end.result _ _ c.end.ensures.ended c.end.ensures.idle))

pub returns-in-Some-clause-lawful : goal.returns-in-Some-clause-lawful
returns-in-Some-clause-lawful c = rw (← c.self.view_is)
    (let here = read_at _ _ c.in-Some.place _ c.self.view_is c.in-Some.ensures.within c.index_mut.ensures.value in
    let there = found_at c.args.id _ _ c.in-Some.place c.self.view_is c.in-Some.ensures.place in
    let same = end_same c.end.result _ _ c.end.ensures.ended c.end.ensures.idle in
    elim (cases_Bool c.end.result) [
      | inl done ↦ go_on_ended c.self.inside.clients.items c.self.invariant.apart c.args.id c.in-Some.place c.index_mut.result.now c.end.new.self there here same.id c.feeds_are_lawful.ensures.lawful
          (ap (λ (client : Client). client.session) (c.end.ensures.ended done).are)
      | inr idle ↦ subst (λ (cs : List Client). GoOn c.self.inside.clients.items cs no_one no_one no_one [])
          (sym (set_not c.self.inside.clients.items c.in-Some.place _ _ here (c.end.ensures.idle idle).1))
          (go_on_still c.self.inside.clients.items)
    ])
