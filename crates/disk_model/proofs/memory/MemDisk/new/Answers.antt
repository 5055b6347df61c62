use Rattle.std.proofs.Common.{List, subst}
use Rattle.disk_model.specs.Content.{IsImage}
use Rattle.disk_model.specs.declared.content.Extent.{Extent}
use Rattle.disk_model.proofs.Images.{image_of_none}
use Rattle.disk_model.proofs.memory.MemDisk.new.Goals as goal

pub returns-clause-durable : goal.returns-clause-durable
returns-clause-durable c f left =
    let content = c.in_ok-zeros.field-0 in
    image_of_none content.bytes.items f (subst (λ (ranges : List Extent). IsImage content.bytes.items ranges f) c.in_ok-zeros.ensures.waiting left)
