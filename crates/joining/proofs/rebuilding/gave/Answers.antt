use Rattle.std.proofs.lemmas.Bool.{both_ways}
use Rattle.world.specs.Joining.{is_of_copying}
use Rattle.manager.specs.Manager.{next_of}
use Rattle.joining.proofs.rebuilding.gave.Goals as goal

pub unreachable-requires : goal.unreachable-requires
unreachable-requires g c = both_ways (is_of_copying (next_of c.args.management.now.manager)) (c.gave.ensures.idle c.if-not-gave.true).0 c.requires
