-- The stream took so many bytes.
use Rattle.std.proofs.Common.{◌≤◌, ◌-◌, length, take}
use Rattle.std.specs.Io.KnownBytes.{Appends}
use Rattle.sockets.proofs.transfer.write_front.Given as goal

abbrev pub invariant-loop-count : goal.invariant-loop-count
invariant-loop-count g l = (l.count ≤ length l.bytes) × Appends (g.W.Write.contents l.initial.stream) (g.W.Write.contents l.stream) (take l.count l.bytes)

-- the bytes that are left
abbrev pub decreases-loop-count : goal.decreases-loop-count
decreases-loop-count g l = length l.bytes - l.count
