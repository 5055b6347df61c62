use Rattle.std.proofs.Common.{◌<◌, length, arith}
use Rattle.std.proofs.lemmas.Grind.{common_steps}
use Rattle.configurations.proofs.Encodings.{none_behind, nothing_behind}
use Rattle.configurations.proofs.reading.read_members.Goals as goal

pub returns-in_default-clause-none : goal.returns-in_default-clause-none
returns-in_default-clause-none c = none_behind c.args.count c.args.bytes.now c.loop.rest.now c.loop.members.items (omega arith) c.loop.invariant.are c.loop.invariant.encoded c.in_default.ensures.none

pub returns-else-is_empty-clause-none : goal.returns-else-is_empty-clause-none
returns-else-is_empty-clause-none c =
    let some : 0 < length c.loop.rest.now = grind (arith, common_steps) in
    nothing_behind c.args.count c.args.bytes.now c.loop.rest.now c.loop.members.items (omega arith) c.loop.invariant.are c.loop.invariant.encoded some
