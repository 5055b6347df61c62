use Rattle.std.proofs.Common.{Bool, true, false, [], ◌++◌, ◌∷◌, None, ap, subst, sym, ◌∙◌}
use Rattle.std.specs.Prelude.{◌||◌}
use Rattle.std.specs.Option.{option_to_list}
use Rattle.world.specs.Telling.{AreTold}
use Rattle.world.proofs.TellingSteps.{told_more, told_out}
use Rattle.world.proofs.telling.tell_behind.Goals as goal

pub returns-in_default : goal.returns-in_default
returns-in_default c = record {
  lost = c.tell_all.result || c.tell_one.result;
  events = c.tell_all.ensures.0 ++ c.tell_one.ensures.0;
  comes = told_more false c.tell_all.result c.tell_one.result c.args.replies.items c.args.last c.args.clients.now c.tell_all.new.clients c.tell_one.new.clients [] None c.tell_all.ensures.0 c.tell_one.ensures.0 c.tell_all.ensures.1 c.tell_one.ensures.1;
  loss = tt;
}

pub returns : goal.returns
returns c =
    let all = c.tell_all_out-lost.ensures.told in
    let lost = c.tell_all_out-lost.result in
    let given = c.tell_one_out-given.result.0 in
    let one = c.tell_one_out-given.result.1 in
    told_out c.told_with.result c.either.result (c.args.replies.items ++ c.args.last ∷ []) c.args.clients.now c.tell_one_out-given.new.clients (all.0 ++ option_to_list given) (all.1 ++ c.tell_one_out-given.ensures.0)
    c.told_with.ensures.room
    (c.told_with.ensures.outputs ∙ c.keep.ensures.kept ∙ ap (λ l. l ++ option_to_list given) (all.2.1 ∙ ap (λ l. l ++ all.0) c.in-Ok.ensures.items))
    c.told_with.ensures.loss
    (subst (λ (b : Bool). AreTold true b (c.args.replies.items ++ c.args.last ∷ []) c.args.clients.now c.tell_one_out-given.new.clients (all.0 ++ option_to_list given) (all.1 ++ c.tell_one_out-given.ensures.0)) (sym c.either.ensures)
    (told_more true lost one c.args.replies.items c.args.last c.args.clients.now c.tell_all_out-lost.new.clients c.tell_one_out-given.new.clients all.0 given all.1 c.tell_one_out-given.ensures.0 all.2.0 c.tell_one_out-given.ensures.1))
