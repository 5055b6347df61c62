use Rattle.std.proofs.Common.{List, ◌∙◌, ap, subst, sym}
use Rattle.gate_journal.specs.Batch.{Batch}
use Rattle.home_blocks.specs.Superblock.{Superblock}
use Rattle.local_store.specs.Meaning.{HoldsArea, meaning_of, volume_in}
use Rattle.local_store.proofs.laws.disks_mean_one.Goals as goal

pub returns : goal.returns
returns c = λ one other bytes means too.
    let same = c.superblocks_are_one.ensures means.superblock too.superblock bytes means.holds too.holds in
    let area : HoldsArea too.superblock means.batches bytes = subst (λ (sb : Superblock). HoldsArea sb means.batches bytes) same means.area in
    let batches = c.readings_are_one.ensures too.superblock.geometry.blocks too.superblock.front means.batches too.batches _ area too.area in
    means.is ∙ ap (λ (sb : Superblock). meaning_of sb means.batches (volume_in sb means.batches bytes)) same
    ∙ ap (λ (bs : List Batch). meaning_of too.superblock bs (volume_in too.superblock bs bytes)) batches ∙ sym too.is
