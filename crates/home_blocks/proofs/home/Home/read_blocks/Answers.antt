use Rattle.std.proofs.Common.{◌≡◌, ◌+◌, ◌*◌, List, ℕ, OnOk, length, ap, subst, ◌∙◌}
use Rattle.std.specs.List.{slice_range}
use Rattle.disk_model.specs.Part.{inside}
use Rattle.disk_model.specs.declared.part.Part.{Part}
use Rattle.home_blocks.specs.Home.{State}
use Rattle.home_blocks.specs.Places.{home_part}
use Rattle.home_blocks.proofs.Homes.{blocks_read}
use Rattle.home_blocks.proofs.home.Home.read_blocks.Goals as goal

pub returns-clause-read : goal.returns-clause-read
returns-clause-read g c = λ keeps.
    let sb = c.args.self.now.superblock in
    let old = g.D.Disk.gives c.args.disk.now in
    let same : c.home_part-part.result ≡ home_part sb.geometry = c.home_part-part.ensures.part ∙ ap home_part (c.geometry.ensures ∙ ap (λ (h : State). h.superblock.geometry) c.self.view_is) in
    let at = 4096 * c.from.result in
    let n = length c.args.bytes.now in
    let read = subst (λ (part : Part). OnOk c.read.result (c.read.new.bytes ≡ slice_range (inside part old) at (at + n))) same (c.read.ensures.read keeps) in
    subst (λ (l : List ℕ). OnOk c.read.result (c.read.new.bytes ≡ l))
    (blocks_read (inside (home_part sb.geometry) old) c.args.first n at (ap (λ (k : ℕ). 4096 * k) c.from.ensures)) read
