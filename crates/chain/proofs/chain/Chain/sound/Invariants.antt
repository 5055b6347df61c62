use Rattle.std.proofs.Common.{take}
use Rattle.std.specs.Prelude.{All}
use Rattle.chain.specs.Chain.{bytes_of}
use Rattle.chain.specs.Member.{HasOwnDisk, KeepsInside}
use Rattle.chain.proofs.chain.Chain.sound.Given as goal

-- they hold of those so far
abbrev pub invariant-loop-member : goal.invariant-loop-member
invariant-loop-member g l = record {
  own : All (HasOwnDisk g.S.StoreLike.about) (take l.member-index l.fn.self.members);
  inside : All (KeepsInside (bytes_of l.fn.self)) (take l.member-index l.fn.self.members);
}
