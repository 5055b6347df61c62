use Rattle.std.proofs.Common.{◌≡◌, ℕ, ◌+◌, ◌≤◌, length, map}
use Rattle.std.specs.Prelude.{All}
use Rattle.nbd_codec.specs.declared.constants.TheConstants.{MAX_IN_FLIGHT}
use Rattle.nbd_session.specs.Intake.{IsSound, wanted_view}
use Rattle.nbd_session.specs.Session.{Grows, course_of, left_to_use, limit_in_flight, play, used_from}
use Rattle.nbd_session.proofs.session.Session.read_on.Given as goal

-- so many steps used up so much of the input, and came to these requests
abbrev pub invariant-loop-self : goal.invariant-loop-self
invariant-loop-self l = record {
  grows : Grows l.fn.self l.self;
  within : l.used ≤ length l.fn.self.kept;
  sound : All (IsSound l.fn.self.export.size l.fn.self.kept l.used) l.wanted.items;
  limit : l.fn.self.in_flight + length l.wanted.items ≤ MAX_IN_FLIGHT;
  there : (n : ℕ) × (play limit_in_flight n (course_of l.fn.self) ≡ used_from l.self l.used (map (wanted_view l.fn.self.kept) l.wanted.items));
}

-- the input that is left, and the session's end
abbrev pub decreases-loop-self : goal.decreases-loop-self
decreases-loop-self l = left_to_use l.self l.used
