use Rattle.std.proofs.Common.{◌≡◌, ◌+◌, ◌*◌, ◌++◌, length, take, vec_len, All}
use Rattle.std.specs.List.{flat_map}
use Rattle.configurations.specs.Record.{IsMember, header_encoding, member_encoding}
use Rattle.configurations.proofs.record.Record.encoded.Given as goal

-- the header, and the members so far
abbrev pub invariant-loop-member : goal.invariant-loop-member
invariant-loop-member l = record {
  encoding : l.bytes.items ≡ header_encoding l.self.epoch (length l.members) ++ flat_map member_encoding (take l.member-index l.members);
  len : vec_len l.bytes ≡ 21 + 9 * l.member-index;
  whole : All IsMember (take l.member-index l.members);
}
