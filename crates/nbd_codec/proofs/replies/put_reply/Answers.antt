use Rattle.std.proofs.Common.{List, ◌++◌, ℕ, ap, ◌∙◌}
use Rattle.byteorder.specs.Endian.{big_bytes}
use Rattle.nbd_codec.specs.declared.constants.TheConstants.{SIMPLE_REPLY_MAGIC}
use Rattle.nbd_codec.proofs.Appends.{joined}
use Rattle.nbd_codec.proofs.replies.put_reply.Goals as goal

pub returns-clause-ok : goal.returns-clause-ok
returns-clause-ok c =
    let x1 = c.put_u32.new.out.items in
    let x2 = c.put_u32-2.new.out.items in
    let x3 = c.put_u64.new.out.items in
    let x4 = c.extend_reserved.new.self.items in
    let magic : List ℕ = big_bytes 4 SIMPLE_REPLY_MAGIC in
    let number : List ℕ = big_bytes 4 c.args.number in
    let cookie : List ℕ = big_bytes 8 c.args.cookie in
    let payload : List ℕ = c.args.payload.now in
    let first = c.put_u32.ensures.items ∙ ap (λ (x : List ℕ). x ++ magic) c.in_ok-reserve.ensures.items in
    joined magic (number ++ (cookie ++ payload)) c.args.out.now.items x1 x4 first
    (joined number (cookie ++ payload) x1 x2 x4 c.put_u32-2.ensures.items
    (joined cookie payload x2 x3 x4 c.put_u64.ensures.items c.extend_reserved.ensures.items))
