use Rattle.std.proofs.Common.{◌∙◌, ◌++◌, ◌∷◌, [], ap, sym, subst}
use Rattle.comeback.specs.Returning.{IsSet}
use Rattle.comeback.proofs.Setting.{is_set}
use Rattle.comeback.proofs.returning.world_of_one.Goals as goal

pub returns-in-Ok-new : goal.returns-in-Ok-new
returns-in-Ok-new g c = record {
  set = subst (IsSet g.S.StoreLike.about c.args.told c.args.store) (sym c.in-Ok-new.ensures.chain)
      (is_set g.S.StoreLike.about c.args.told c.args.store c.push_reserved.new.self.items c.in-Ok.chain (c.push_reserved.ensures.items ∙ ap (λ l. l ++ c.args.store ∷ []) c.in_ok-stores.ensures.items)
      c.in-Ok.ensures.told.0 c.in-Ok.ensures.sizes c.in-Ok.ensures.words c.in-Ok.ensures.members);
  idle = record {
    clients = ap (λ s. s.clients) c.in-Ok-new.ensures.sessions;
    joiner = c.in-Ok-new.ensures.alone;
    writing = ap (λ x. x.writing) c.in-Ok-new.ensures.chain ∙ c.in-Ok.ensures.told.2;
  };
}
