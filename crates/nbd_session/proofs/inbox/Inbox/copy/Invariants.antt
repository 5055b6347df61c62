use Rattle.std.proofs.Common.{◌≡◌, ◌++◌, map, take}
use Rattle.nbd_session.specs.Intake.{loaded_view, wanted_view}
use Rattle.nbd_session.proofs.inbox.Inbox.copy.Given as goal

abbrev pub invariant-loop-request : goal.invariant-loop-request
invariant-loop-request l = map loaded_view l.loaded.items ≡ map loaded_view l.fn.loaded.items ++ map (wanted_view l.self) (take l.request-index l.wanted)
