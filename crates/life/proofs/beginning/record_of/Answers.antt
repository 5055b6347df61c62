use Rattle.std.proofs.Common.{◌≡◌, false, true, subst, sym}
use Rattle.configurations.specs.Record.{AreMembers}
use Rattle.life.proofs.Starting.{are_members}
use Rattle.life.proofs.beginning.record_of.Goals as goal

pub unreachable-requires : goal.unreachable-requires
unreachable-requires g c =
    let are : AreMembers c.in_ok-members_of.field-0.items = subst AreMembers (sym c.in_ok-members_of.ensures) (are_members g.S.StoreLike.about c.args.stores.now c.requires.some c.requires.few c.requires.slots) in
    let no : false ≡ true = c.in-Err.ensures.ok are in
    cc
