use Rattle.std.proofs.Common.{◌++◌, ap, arith, subst, ◌∙◌}
use Rattle.std.specs.Option.{option_to_list}
use Rattle.std.proofs.lemmas.List.{append_assoc}
use Rattle.std.specs.List.{AllZip}
use Rattle.configurations.specs.Record.{Record}
use Rattle.disk_model.specs.declared.memory.MemDisk.{MemDisk}
use Rattle.life.specs.Aside.{IsSetAside}
use Rattle.life.specs.Begun.{IsCut}
use Rattle.life.specs.Managed.{Managed}
use Rattle.life.specs.Plays.{AreCut, IsCutAt, IsCutOutside}
use Rattle.life.proofs.Beside.{zip_mapped}
use Rattle.life.proofs.Starting.{IsStore, about_of_store, disk_in, leaves_now}
use Rattle.life.proofs.cutting.cut.Goals as goal

pub returns : goal.returns
returns c = subst (λ (w : Managed IsStore). AreCut about_of_store leaves_now disk_in c.args.cut w c.append.new.self.items c.cut_one-config.result) c.managed.view_is (record {
  of_members = c.in_ok-slots.slots.items;
  of_joiner = c.in_ok-cut_joiner.ensures.0;
  outside = c.cut_outside-outside.result.items;
  are = c.in_ok-append.ensures.items ∙ ap (λ l. l ++ c.cut_outside-outside.result.items) c.in_ok-cut_joiner.ensures.1 ∙ append_assoc c.in_ok-slots.slots.items c.in_ok-cut_joiner.ensures.0 c.cut_outside-outside.result.items;
  joiner_cut = subst (λ o. AllZip (IsCutAt about_of_store leaves_now disk_in c.args.cut) (option_to_list o) c.in_ok-cut_joiner.ensures.0) c.in_ok-stores.ensures.joiner c.in_ok-cut_joiner.ensures.2;
  members_cut = zip_mapped (IsCutAt about_of_store leaves_now disk_in c.args.cut) (λ m. m.node.store) c.managed.inside.world.chain.members c.in_ok-slots.slots.items
      (subst (λ l. AllZip (IsCutAt about_of_store leaves_now disk_in c.args.cut) l c.in_ok-slots.slots.items) c.in_ok-stores.ensures.members c.in_ok-slots.ensures);
  aside = c.left_of-left.result;
  set_aside = subst (λ n. IsSetAside about_of_store leaves_now n c.managed.inside.candidate c.left_of-left.result) (let e = ap (λ (r : Record). r.epoch) c.recorded.ensures in omega (arith, e, c.epoch.ensures, c.number-next.ensures.number)) c.left_of-left.ensures;
  outside_cut = subst (λ l. AllZip (IsCutOutside c.args.cut) l c.cut_outside-outside.result.items) c.in_ok-outside.ensures c.cut_outside-outside.ensures;
  config_is = subst (λ (d : MemDisk). IsCut c.args.cut d c.cut_one-config.result) c.into_disk.ensures c.cut_one-config.ensures;
})
