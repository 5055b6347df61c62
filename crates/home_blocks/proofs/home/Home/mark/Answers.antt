use Rattle.std.proofs.Common.{ap, sym, subst}
use Rattle.home_blocks.specs.Home.{IsSettledHome, State}
use Rattle.home_blocks.specs.Superblock.{Superblock}
use Rattle.home_blocks.proofs.Homes.{mark_run, mark_settled}
use Rattle.home_blocks.proofs.home.Home.mark.Goals as goal

pub returns-in_err-receipt-clause-any_moment : goal.returns-in_err-receipt-clause-any_moment
returns-in_err-receipt-clause-any_moment g c = λ keeps settled.
    let home : State = record { pair = c.self.inside.pair; superblock = c.self.inside.superblock } in
    mark_run home c.args.self.now c.self.view_is (g.D.Disk.gives c.args.disk.now) (g.D.Disk.may_leave_now c.args.disk.now) settled c.args.front c.args.area
    c.marked-superblock.result c.marked-superblock.ensures c.encoded-payload.ensures.is c.encoded-payload.result c.encoded-payload.ensures.encoding
    c.stores_leave_old_or_new.ensures.old c.stores_leave_old_or_new.ensures.new (c.store.ensures.any_moment keeps)

pub returns-clause-any_moment : goal.returns-clause-any_moment
returns-clause-any_moment g c = λ keeps settled.
    let home : State = record { pair = c.self.inside.pair; superblock = c.self.inside.superblock } in
    mark_run home c.args.self.now c.self.view_is (g.D.Disk.gives c.args.disk.now) (g.D.Disk.may_leave_now c.args.disk.now) settled c.args.front c.args.area
    c.marked-superblock.result c.marked-superblock.ensures c.encoded-payload.ensures.is c.encoded-payload.result c.encoded-payload.ensures.encoding
    c.stores_leave_old_or_new.ensures.old c.stores_leave_old_or_new.ensures.new (c.store.ensures.any_moment keeps)

pub returns-clause-settled : goal.returns-clause-settled
returns-clause-settled g c = λ keeps settled.
    let home : State = record { pair = c.self.inside.pair; superblock = c.self.inside.superblock } in
    let gives = g.D.Disk.gives c.args.disk.now in
    let left = g.D.Disk.may_leave_now c.args.disk.now in
    let here : IsSettledHome home gives left = subst (λ (h : State). IsSettledHome h gives left) (sym c.self.view_is) settled in
    mark_settled home gives left here c.marked-superblock.result c.encoded-payload.ensures.is (ap (λ (s : Superblock). s.version) c.marked-superblock.ensures) c.encoded-payload.result c.encoded-payload.ensures.encoding
    c.stores_leave_old_or_new.ensures.old c.stores_leave_old_or_new.ensures.new c.store.new.self (g.D.Disk.gives c.store.new.disk) (g.D.Disk.may_leave_now c.store.new.disk)
    c.in_ok-receipt.ensures.ok (c.in_ok-receipt.ensures.settled keeps here.slots here.pair)
