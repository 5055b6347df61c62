use Rattle.std.proofs.Common.{rules, arith, ◌≡◌, ◌≤◌, ap, length, map, suc}
use Rattle.nbd_session.specs.Intake.{wanted_view}
use Rattle.nbd_session.specs.Session.{Grows, limit_in_flight, step, used_from}
use Rattle.nbd_session.proofs.Requests.{grows_on, sound_on, steps_on}
use Rattle.nbd_session.proofs.session.Session.read_on.Goals as goal

pub loop-self-preserved : goal.loop-self-preserved
loop-self-preserved c =
    let first = c.args.self.now in
    let now = c.loop-self.self in
    let later = c.next_request.new.self in
    let so_far = c.loop-self.invariant in
    let ws = c.next_request.new.wanted.items in
    let one : step limit_in_flight (used_from now c.loop-self.used (map (wanted_view now.kept) c.loop-self.wanted.items)) ≡ used_from later c.in-Some.next (map (wanted_view now.kept) ws) = search rules in
    let more : Grows now later = search rules in
    let within : c.in-Some.next ≤ length now.kept = search rules in
    record {
      grows = grows_on first now later so_far.grows more;
      within = omega (arith, within, ap length so_far.grows.kept);
      sound = sound_on first now c.in-Some.next ws so_far.grows (search rules);
      limit = search rules;
      there = (suc so_far.there.0, steps_on first now later so_far.there.0 c.loop-self.used c.in-Some.next c.loop-self.wanted.items ws so_far.grows so_far.there.1 one);
    }
