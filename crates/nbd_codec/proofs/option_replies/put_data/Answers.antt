use Rattle.std.proofs.Common.{List, ◌++◌, ℕ}
use Rattle.byteorder.specs.Endian.{big_bytes}
use Rattle.nbd_codec.specs.declared.constants.TheConstants.{INFO_EXPORT, INFO_EXPORT_LEN, INFO_BLOCK_SIZE, INFO_BLOCK_SIZE_LEN, MINIMUM_BLOCK, PREFERRED_BLOCK, TRANSMISSION_FLAGS}
use Rattle.nbd_codec.specs.OptionReply.{reply_data}
use Rattle.nbd_codec.proofs.Appends.{joined}
use Rattle.nbd_codec.proofs.option_replies.put_data.Goals as goal

pub returns-in-Export : goal.returns-in-Export
unfolding reply_data
returns-in-Export c =
    let x1 = c.put_u32-in-Export.new.out.items in
    let x2 = c.put_u16.new.out.items in
    let x3 = c.put_u64.new.out.items in
    let x4 = c.put_u16-in-Export.new.out.items in
    let kind : List ℕ = big_bytes 2 INFO_EXPORT in
    let size : List ℕ = big_bytes 8 c.in-Export.size in
    let flags : List ℕ = big_bytes 2 TRANSMISSION_FLAGS in
    rw c.in-Export.is
    (joined (big_bytes 4 INFO_EXPORT_LEN) (kind ++ (size ++ flags)) c.args.out.now.items x1 x4 c.put_u32-in-Export.ensures.items
    (joined kind (size ++ flags) x1 x2 x4 c.put_u16.ensures.items
    (joined size flags x2 x3 x4 c.put_u64.ensures.items c.put_u16-in-Export.ensures.items)))

pub returns-in-BlockSize : goal.returns-in-BlockSize
unfolding reply_data
returns-in-BlockSize c =
    let x1 = c.put_u32-in-BlockSize.new.out.items in
    let x2 = c.put_u16-in-BlockSize.new.out.items in
    let x3 = c.put_u32-in-BlockSize-2.new.out.items in
    let x4 = c.put_u32-in-BlockSize-3.new.out.items in
    let x5 = c.put_u32-in-BlockSize-4.new.out.items in
    let kind : List ℕ = big_bytes 2 INFO_BLOCK_SIZE in
    let minimum : List ℕ = big_bytes 4 MINIMUM_BLOCK in
    let preferred : List ℕ = big_bytes 4 PREFERRED_BLOCK in
    let most : List ℕ = big_bytes 4 c.in-BlockSize.max_payload in
    rw c.in-BlockSize.is
    (joined (big_bytes 4 INFO_BLOCK_SIZE_LEN) (kind ++ (minimum ++ (preferred ++ most))) c.args.out.now.items x1 x5 c.put_u32-in-BlockSize.ensures.items
    (joined kind (minimum ++ (preferred ++ most)) x1 x2 x5 c.put_u16-in-BlockSize.ensures.items
    (joined minimum (preferred ++ most) x2 x3 x5 c.put_u32-in-BlockSize-2.ensures.items
    (joined preferred most x3 x4 x5 c.put_u32-in-BlockSize-3.ensures.items c.put_u32-in-BlockSize-4.ensures.items))))
