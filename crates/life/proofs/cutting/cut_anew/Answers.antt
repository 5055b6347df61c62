use Rattle.std.proofs.Common.{refl, subst, sym, ◌∙◌}
use Rattle.disk_model.specs.Calm.{calm}
use Rattle.disk_model.specs.Memory.{may_be_left}
use Rattle.life.proofs.cutting.cut_anew.Goals as goal

pub returns : goal.returns
returns c =
    let cut = c.cut.ensures in
    let end = c.disarm.ensures in
    let same = end.stays.given ∙ cut.gives in
    record {
      slot = refl;
      is_cut = record {
        content = same ∙ cut.bytes;
        left = subst (may_be_left c.args.disk.now.disk) (sym same) cut.left;
        only = λ x left. cut.only x (end.leaves x left) ∙ sym same;
      };
      calm = calm c.disarm.new.self end.script (end.stays.stopped ∙ cut.runs);
    }
