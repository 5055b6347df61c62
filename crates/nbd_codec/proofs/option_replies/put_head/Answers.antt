use Rattle.std.proofs.Common.{List, ◌++◌, ℕ, ap, ◌∙◌}
use Rattle.byteorder.specs.Endian.{big_bytes}
use Rattle.nbd_codec.specs.declared.constants.TheConstants.{OPTION_REPLY_MAGIC}
use Rattle.nbd_codec.specs.OptionReply.{type_of}
use Rattle.nbd_codec.proofs.Appends.{joined}
use Rattle.nbd_codec.proofs.option_replies.put_head.Goals as goal

pub returns-clause-head : goal.returns-clause-head
returns-clause-head c =
    let x1 = c.put_u64.new.out.items in
    let x2 = c.put_u32.new.out.items in
    let x3 = c.put_u32-2.new.out.items in
    let option : List ℕ = big_bytes 4 c.args.option in
    let kind : List ℕ = big_bytes 4 (type_of c.args.reply) in
    let last = c.put_u32-2.ensures.items ∙ ap (λ (n : ℕ). x2 ++ big_bytes 4 n) c.number.ensures in
    joined (big_bytes 8 OPTION_REPLY_MAGIC) (option ++ kind) c.args.out.now.items x1 x3 c.put_u64.ensures.items (joined option kind x1 x2 x3 c.put_u32.ensures.items last)
