use Rattle.clients.proofs.CallSteps.{changed_at_places, changed_stay_over, found_at, put_goes_on, put_same, put_stays, puts_out, read_at}
use Rattle.clients.proofs.clients.Clients.put_out.Goals as goal

pub returns-clause-out : goal.returns-clause-out
returns-clause-out c = rw (← c.self.view_is)
    (let here = read_at _ _ c.in_ok-place.place _ c.self.view_is c.in_ok-place.ensures.within c.index_mut.ensures.value in
    let there = found_at c.args.id _ _ c.in_ok-place.place c.self.view_is c.in_ok-place.ensures.place in
    puts_out c.args.id _ c.in_ok-place.place _ _ there here c.put_out.result c.put_out.ensures.out c.put_out.ensures.nothing)

pub returns-clause-places : goal.returns-clause-places
returns-clause-places c = rw (← c.self.view_is)
    (let here = read_at _ _ c.in_ok-place.place _ c.self.view_is c.in_ok-place.ensures.within c.index_mut.ensures.value in
    changed_at_places _ c.in_ok-place.place _ _ here (put_same _ _ c.put_out.result c.put_out.ensures.out c.put_out.ensures.nothing))

pub returns-clause-stay_over : goal.returns-clause-stay_over
returns-clause-stay_over c = rw (← c.self.view_is)
    (let here = read_at _ _ c.in_ok-place.place _ c.self.view_is c.in_ok-place.ensures.within c.index_mut.ensures.value in
    let same = put_same _ _ c.put_out.result c.put_out.ensures.out c.put_out.ensures.nothing in
    changed_stay_over _ c.in_ok-place.place _ _ here same.id (put_stays _ _ c.put_out.result c.put_out.ensures.out c.put_out.ensures.nothing))

pub returns-clause-lawful : goal.returns-clause-lawful
returns-clause-lawful c = rw (← c.self.view_is)
    (let here = read_at _ _ c.in_ok-place.place _ c.self.view_is c.in_ok-place.ensures.within c.index_mut.ensures.value in
    let there = found_at c.args.id _ _ c.in_ok-place.place c.self.view_is c.in_ok-place.ensures.place in
    put_goes_on c.self.inside.clients.items c.self.invariant.apart c.args.id c.in_ok-place.place _ _ there here c.feeds_are_lawful.ensures.output c.put_out.result c.put_out.ensures.out c.put_out.ensures.nothing)
