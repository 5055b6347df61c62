use Rattle.std.proofs.Common.{◌≡◌, ◌≤◌, ◌∙◌, length, ap, subst, sym}
use Rattle.home_blocks.specs.Home.{IsVolume}
use Rattle.home_blocks.specs.Places.{disk_size_of}
use Rattle.home_blocks.specs.Superblock.{Superblock}
use Rattle.home_blocks.specs.declared.progress.Progress.{Progress}
use Rattle.home_blocks.specs.declared.progress.Progress.TheVariants.{Installing, Whole}
use Rattle.local_store.specs.Meaning.{HoldsArea, Meaning}
use Rattle.local_store.proofs.laws.meanings_are_opened.Goals as goal

IsInstalling : Progress → Type 0
IsInstalling Installing = Unit {0}
IsInstalling Whole = ⊥

not_both : Installing ≡ Whole → ⊥
unfolding IsInstalling
not_both same = subst IsInstalling same tt

pub returns : goal.returns
returns c = λ meaning bytes means room.
    let long : disk_size_of means.superblock.geometry ≤ length bytes = subst (λ (m : Meaning). disk_size_of m.geometry ≤ length bytes) means.is room in
    let volume : IsVolume means.superblock bytes = record { holds = means.holds; room = long } in
    record {
      volume = λ none. c.disks_have_one_answer.ensures.none means.superblock bytes volume none;
      version = λ other. c.disks_have_one_answer.ensures.version means.superblock bytes volume other;
      finished = λ unfinished. not_both (sym unfinished.installing ∙ ap (λ (sb : Superblock). sb.progress) (c.superblocks_are_one.ensures unfinished.superblock means.superblock bytes unfinished.is_volume.holds means.holds) ∙ means.is_whole);
      area = λ damaged. damaged.damaged means.batches (subst (λ (sb : Superblock). HoldsArea sb means.batches bytes) (c.superblocks_are_one.ensures means.superblock damaged.superblock bytes means.holds damaged.is_volume.holds) means.area);
    }
