use Rattle.std.proofs.Common.{◌≡◌, ◌∷◌, [], ℕ, take, ap, refl, sym, ◌∙◌, arith}
use Rattle.std.proofs.lemmas.List.{take_all}
use Rattle.std.specs.Prelude.{codes}
use Rattle.byteorder.specs.Endian.{big_bytes}
use Rattle.byteorder.specs.Numbers.{length-bytes_high_first}
use Rattle.home_blocks.specs.Area.{area_number}
use Rattle.home_blocks.specs.Progress.{progress_number}
use Rattle.home_blocks.specs.Version.{version_number}
use Rattle.home_blocks.specs.Superblock.{Superblock, superblock_encoding}
use Rattle.home_blocks.proofs.Encodings.{put_more, encoding_is}
use Rattle.home_blocks.proofs.superblock.Superblock.encoded.Goals as goal

pub returns-clause-encoding : goal.returns-clause-encoding
returns-clause-encoding c =
    let i = c.self.inside in
    let sb : Superblock = record { version = i.version; progress = i.progress; slot = i.slot; incarnation = i.incarnation; geometry = i.geometry; front = i.front; current = i.current } in
    let byte = λ (k : ℕ). k ∷ [] in
    let magic = codes "CRAQDISK" in
    let version = big_bytes 4 (version_number i.version) in
    let s1 : take 8 c.put.new.bytes ≡ magic = c.put.ensures in
    let s2 = put_more c.put.new.bytes c.put-2.new.bytes c.to_be_bytes.result magic version 8 4 12 c.put-2.ensures s1 (c.to_be_bytes.ensures ∙ ap (big_bytes 4) c.number.ensures) (length-bytes_high_first 4 (version_number i.version)) refl in
    let s3 = put_more _ c.put-3.new.bytes (byte c.number-2.result) _ (byte (progress_number i.progress)) 12 1 13 c.put-3.ensures s2 (ap byte c.number-2.ensures) refl refl in
    let s4 = put_more _ c.put-4.new.bytes (byte c.number-3.result) _ (byte i.slot) 13 1 14 c.put-4.ensures s3 (ap byte c.number-3.ensures.number) refl refl in
    let s5 = put_more _ c.put-5.new.bytes c.to_be_bytes-2.result _ (big_bytes 8 i.incarnation) 14 8 22 c.put-5.ensures s4 c.to_be_bytes-2.ensures (length-bytes_high_first 8 i.incarnation) refl in
    let s6 = put_more _ c.put-6.new.bytes c.to_be_bytes-3.result _ (big_bytes 4 i.geometry.blocks) 22 4 26 c.put-6.ensures s5 c.to_be_bytes-3.ensures (length-bytes_high_first 4 i.geometry.blocks) refl in
    let s7 = put_more _ c.put-7.new.bytes c.to_be_bytes-4.result _ (big_bytes 4 i.geometry.area) 26 4 30 c.put-7.ensures s6 c.to_be_bytes-4.ensures (length-bytes_high_first 4 i.geometry.area) refl in
    let s8 = put_more _ c.put-8.new.bytes c.to_be_bytes-5.result _ (big_bytes 4 i.geometry.max_payload) 30 4 34 c.put-8.ensures s7 c.to_be_bytes-5.ensures (length-bytes_high_first 4 i.geometry.max_payload) refl in
    let s9 = put_more _ c.put-9.new.bytes c.to_be_bytes-6.result _ (big_bytes 8 i.front) 34 8 42 c.put-9.ensures s8 c.to_be_bytes-6.ensures (length-bytes_high_first 8 i.front) refl in
    let s10 = put_more _ c.put-10.new.bytes (byte c.number-4.result) _ (byte (area_number i.current)) 42 1 43 c.put-10.ensures s9 (ap byte c.number-4.ensures) refl refl in
    sym (take_all 43 c.put-10.new.bytes (omega (arith, c.put-10.array_long))) ∙ s10 ∙ encoding_is sb ∙ ap superblock_encoding c.self.view_is
