use Rattle.std.proofs.Common.{length, refl}
use Rattle.byteorder.specs.Endian.{big_bytes}
use Rattle.byteorder.specs.Numbers.{length-bytes_high_first}
use Rattle.gate_journal.proofs.Entries.{overwritten}
use Rattle.gate_journal.proofs.pair_slot.encoded_body.Goals as goal

pub returns : goal.returns
returns c =
    let number = big_bytes 8 c.args.number in
    let count = big_bytes 4 (length c.args.payload.now) in
    overwritten 8 4 (length c.args.payload.now) number count c.args.payload.now _ _ _ _ _ _ _ (length-bytes_high_first 8 c.args.number) (length-bytes_high_first 4 (length c.args.payload.now)) refl c.write_u64.ensures c.write_u32.ensures c.copy_from_slice.ensures.after
