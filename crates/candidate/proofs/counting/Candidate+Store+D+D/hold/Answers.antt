use Rattle.std.proofs.Common.{List, ℕ, ap, sym, subst, ◌≡◌}
use Rattle.std.specs.Prelude.{IfNone, IfSome, None, Option, Some}
use Rattle.local_store.specs.About.{about_of}
use Rattle.local_store.specs.Store.{IsStored}
use Rattle.local_store.specs.declared.store.Store as stores
use Rattle.chain.specs.Chain.{bytes_of}
use Rattle.chain_model.specs.Chain.{StandsFor}
use Rattle.world.specs.Joining.{HoldsNext, HoldsNobody}
use Rattle.world.specs.Management.{Managing}
use Rattle.world.specs.World as worlds
use Rattle.world.specs.declared.told.Told.{Told}
use Rattle.candidate.specs.Copies.{HasCopy}
use Rattle.candidate.proofs.Copied.{copy_stays}
use Rattle.candidate.proofs.counting.Candidate+Store+D+D.hold.Goals as goal

-- its volume has the same size
holds_size : {S C : Type 0} (given : Option Told) (old new : Managing C) (world after : worlds.Seen S) → IfSome given (λ told. HoldsNext told old new world after) → IfNone given (HoldsNobody old world × ((new ≡ old) × (after ≡ world))) → bytes_of after.chain ≡ bytes_of world.chain
holds_size None old new world after held idle = ap (λ (w : worlds.Seen _). bytes_of w.chain) idle.1.1
holds_size (Some told) old new world after held idle = ap bytes_of held.holds.did.are

pub returns-clause-copy : goal.returns-clause-copy
returns-clause-copy g c = λ keeps incarnation v w s t moves shows stands run shows_then stands_then had.
    let about = λ (x : stores.Store g.row.D.Denot g.D.Disk). about_of x.contents in
    let kept = λ (x : stores.Store g.row.D.Denot g.D.Disk) (volume : List ℕ). IsStored x.contents volume (g.D.Disk.gives x.disk) (g.D.Disk.may_leave_now x.disk) in
    let leaves = λ (x : stores.Store g.row.D.Denot g.D.Disk). g.D.Disk.may_leave_now x.disk in
    let size = holds_size c.hold-told.result c.args.management.now c.hold-told.new.self c.args.world.now c.hold-told.new.world c.hold-told.ensures.held c.hold-told.ensures.idle in
    let stays = copy_stays g.D.Disk.gives g.D.Disk.may_leave_now about kept (bytes_of c.args.world.now.chain) s t moves run incarnation c.args.self.now had in
    subst (λ (n : ℕ). HasCopy g.D.Disk.gives g.D.Disk.may_leave_now about kept n t incarnation c.note.new.self) size
    (c.note.ensures.copy keeps incarnation w t shows_then (subst (λ (n : ℕ). StandsFor n w t) (sym size) stands_then)
    (subst (λ (n : ℕ). HasCopy g.D.Disk.gives g.D.Disk.may_leave_now about kept n t incarnation c.args.self.now) (sym size) stays))
