use Rattle.std.proofs.Common.{◌≡◌, ◌++◌, length, All}
use Rattle.std.specs.List.{flat_map}
use Rattle.configurations.specs.Record.{IsMember, member_encoding}
use Rattle.configurations.proofs.reading.read_members.Given as goal

-- the members so far, and what is behind them
abbrev pub invariant-loop : goal.invariant-loop
invariant-loop l = record {
  counted : length l.members.items ≡ l.counter;
  are : All IsMember l.members.items;
  encoded : l.bytes ≡ flat_map member_encoding l.members.items ++ l.rest;
}
