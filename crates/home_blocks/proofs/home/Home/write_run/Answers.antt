use Rattle.std.proofs.Common.{◌≡◌, ◌*◌, ℕ, OnOk, OnErr, length, ap, subst, ◌∙◌}
use Rattle.disk_model.specs.Disk.{Follows, Holds, Torn}
use Rattle.disk_model.specs.Part.{inside, LeftInside}
use Rattle.disk_model.specs.declared.part.Part.{Part}
use Rattle.home_blocks.specs.Home.{State}
use Rattle.home_blocks.specs.Places.{home_part}
use Rattle.home_blocks.proofs.home.Home.write_run.Goals as goal

pub returns-clause-gives : goal.returns-clause-gives
returns-clause-gives g c = λ keeps.
    let sb = c.args.self.now.superblock in
    let old = g.D.Disk.gives c.args.disk.now in
    let new = g.D.Disk.gives c.write_at.new.disk in
    let bytes = c.args.bytes.now in
    let same : c.home_part-part.result ≡ home_part sb.geometry = c.home_part-part.ensures.part ∙ ap home_part (c.geometry.ensures ∙ ap (λ (h : State). h.superblock.geometry) c.self.view_is) in
    subst (λ (k : ℕ). OnOk c.write_at.result (Holds (inside (home_part sb.geometry) old) (4096 * k) bytes (inside (home_part sb.geometry) new))) c.from.ensures
    (subst (λ (part : Part). OnOk c.write_at.result (Holds (inside part old) (4096 * c.from.result) bytes (inside part new))) same (c.write_at.ensures.gives keeps))

pub returns-clause-failed : goal.returns-clause-failed
returns-clause-failed g c = λ keeps.
    let sb = c.args.self.now.superblock in
    let old = g.D.Disk.gives c.args.disk.now in
    let new = g.D.Disk.gives c.write_at.new.disk in
    let same : c.home_part-part.result ≡ home_part sb.geometry = c.home_part-part.ensures.part ∙ ap home_part (c.geometry.ensures ∙ ap (λ (h : State). h.superblock.geometry) c.self.view_is) in
    let Failed : Part → ℕ → Type 0 = λ part k. OnErr c.write_at.result (Torn (4096 * k) (length c.args.bytes.now) (inside part old) (inside part new)) in
    subst (λ (k : ℕ). Failed (home_part sb.geometry) k) c.from.ensures (subst (λ (part : Part). Failed part c.from.result) same (c.write_at.ensures.failed keeps))

pub returns-clause-leaves : goal.returns-clause-leaves
returns-clause-leaves g c = λ keeps.
    let sb = c.args.self.now.superblock in
    let old = g.D.Disk.may_leave_now c.args.disk.now in
    let new = g.D.Disk.may_leave_now c.write_at.new.disk in
    let same : c.home_part-part.result ≡ home_part sb.geometry = c.home_part-part.ensures.part ∙ ap home_part (c.geometry.ensures ∙ ap (λ (h : State). h.superblock.geometry) c.self.view_is) in
    let Leaves : Part → ℕ → Type 0 = λ part k. Follows (Torn (4096 * k) (length c.args.bytes.now)) (LeftInside part old) (LeftInside part new) in
    subst (λ (k : ℕ). Leaves (home_part sb.geometry) k) c.from.ensures (subst (λ (part : Part). Leaves part c.from.result) same (c.write_at.ensures.leaves keeps))
