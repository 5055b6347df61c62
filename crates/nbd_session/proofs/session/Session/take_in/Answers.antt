use Rattle.std.proofs.Common.{rules, ◌≡◌, ◌+◌, ◌++◌, List, ℕ, length, drop, map, ap, refl, subst, sym, ◌∙◌}
use Rattle.std.specs.Prelude.{All}
use Rattle.nbd_session.specs.Demand.{Asked, IsAskedInside, asked_by, demand_of}
use Rattle.nbd_session.specs.Intake.{IsSound, wanted_view}
use Rattle.nbd_session.specs.Session.{Grows, Settles, State, course_of, limit_in_flight, used_from}
use Rattle.nbd_session.proofs.Demands.{as_asked, feeds_so, made_so, sound_inside}
use Rattle.nbd_session.proofs.session.Session.take_in.Goals as goal

pub returns-clause-made : goal.returns-clause-made
returns-clause-made c =
    let now = c.args.self.now in
    let longer : State = record now { kept = now.kept ++ c.args.piece.now } in
    let grows : Grows longer c.read_on.new.self = search rules in
    let asked : List Asked = map (wanted_view c.read_on.new.self.kept) c.deref.result.now in
    let made : c.in_ok-demands.demands.items ≡ map (demand_of now.board now.id) asked =
    c.in_ok-demands.ensures.made ∙ ap (λ b. map (demand_of b c.read_on.new.self.id) asked) grows.board ∙ ap (λ s. map (demand_of now.board s) asked) grows.id in
    made_so now.board now.id c.in_ok-demands.demands.items asked made

pub returns-clause-feeds : goal.returns-clause-feeds
returns-clause-feeds c =
    let now = c.args.self.now in
    let mid = c.read_on.new.self in
    let ws = c.in_ok-used.wanted.items in
    let longer : State = record now { kept = now.kept ++ c.args.piece.now } in
    let grows : Grows longer mid = search rules in
    let settles : Settles limit_in_flight (course_of longer) (used_from mid c.in_ok-used.used (map (wanted_view longer.kept) ws)) = search rules in
    let new_is : c.demand.new.self ≡ record mid { in_flight = mid.in_flight + length ws; kept = drop c.in_ok-used.used mid.kept } = search rules in
    let made : c.in_ok-demands.demands.items ≡ map (demand_of mid.board mid.id) (map (wanted_view mid.kept) ws) = search rules in
    let asked : map asked_by c.in_ok-demands.demands.items ≡ map (wanted_view longer.kept) ws =
    as_asked mid.board mid.id c.in_ok-demands.demands.items (map (wanted_view mid.kept) ws) made ∙ ap (λ (k : List ℕ). map (wanted_view k) ws) grows.kept in
    feeds_so now longer mid c.demand.new.self c.args.piece.now c.in_ok-used.used ws _ refl settles new_is asked

pub returns-clause-inside : goal.returns-clause-inside
returns-clause-inside c =
    let now = c.args.self.now in
    let mid = c.read_on.new.self in
    let ws = c.in_ok-used.wanted.items in
    let longer : State = record now { kept = now.kept ++ c.args.piece.now } in
    let grows : Grows longer mid = search rules in
    let sound : All (IsSound now.export.size longer.kept c.in_ok-used.used) ws = search rules in
    let made : c.in_ok-demands.demands.items ≡ map (demand_of mid.board mid.id) (map (wanted_view mid.kept) ws) = search rules in
    let asked : map asked_by c.in_ok-demands.demands.items ≡ map (wanted_view longer.kept) ws =
    as_asked mid.board mid.id c.in_ok-demands.demands.items (map (wanted_view mid.kept) ws) made ∙ ap (λ (k : List ℕ). map (wanted_view k) ws) grows.kept in
    subst (λ (l : List Asked). All (IsAskedInside now.export.size) l) (sym asked) (sound_inside now.export.size c.in_ok-used.used longer.kept ws sound)
