use Rattle.std.proofs.Common.{◌≡◌, take}
use Rattle.std.specs.Prelude.{fold}
use Rattle.world.specs.Management.{noted_one}
use Rattle.world.proofs.management.Management.note.Given as goal

-- the members so far were noted
abbrev pub invariant-loop-at : goal.invariant-loop-at
invariant-loop-at g l = record {
  manager : l.self-inside.manager ≡ fold (noted_one l.fn.world.chain.recorded) l.fn.self.manager (take l.at l.fn.world.chain.members);
  config : l.self-inside.config ≡ l.fn.self.config;
  disk : l.self-inside.disk ≡ l.fn.self.disk;
}
