use Rattle.std.proofs.Common.{◌<◌, map, ap, subst, sym, ◌∙◌}
use Rattle.std.specs.Prelude.{All}
use Rattle.chain.specs.Opening.{recorded_in}
use Rattle.configurations.specs.Record.{Record}
use Rattle.configurations.specs.declared.member.Member.{Member}
use Rattle.life.proofs.Starting.{all_mapped, disks_begin, stores_begin, world_begins}
use Rattle.life.proofs.beginning.world_of.Goals as goal

pub new-requires-clause-incarnations : goal.new-requires-clause-incarnations
new-requires-clause-incarnations g c =
    subst (All (λ (m : Member). 0 < m.incarnation)) (sym (ap (λ (r : Record). r.members) c.in_ok-record.ensures ∙ ap (map (recorded_in g.S.StoreLike.about)) c.deref.ensures.value))
    (all_mapped (λ (m : Member). 0 < m.incarnation) (recorded_in g.S.StoreLike.about) c.args.stores.items c.requires.given)

pub returns-in-Ok-new-clause-stores : goal.returns-in-Ok-new-clause-stores
returns-in-Ok-new-clause-stores g c = stores_begin g.S.StoreLike.about c.in_ok-record.record c.args.stores.items c.in-Ok.chain c.in-Ok-new.world c.in-Ok.ensures.members c.in-Ok-new.ensures.chain

pub returns-in-Ok-new-clause-disks : goal.returns-in-Ok-new-clause-disks
returns-in-Ok-new-clause-disks g c =
    disks_begin g.S.StoreLike.about c.in_ok-record.record c.args.stores.items c.in-Ok.chain c.in-Ok-new.world c.in-Ok.ensures.members c.requires.even c.requires.given c.in-Ok.ensures.sizes c.in-Ok-new.ensures.chain

pub returns-in-Ok-new-clause-begins : goal.returns-in-Ok-new-clause-begins
returns-in-Ok-new-clause-begins g c = λ premise.
    world_begins g.S.StoreLike.about g.S.StoreLike.keeps g.S.StoreLike.may_leave_now c.args.stores.items c.in_ok-record.record c.in-Ok.chain c.in-Ok-new.world
    c.in-Ok.ensures.sizes c.in-Ok.ensures.words (c.in-Ok.ensures.begins premise) c.in-Ok-new.ensures.chain c.in-Ok-new.ensures.sessions c.in-Ok-new.ensures.shows c.in-Ok.ensures.members
