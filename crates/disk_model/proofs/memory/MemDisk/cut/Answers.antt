use Rattle.std.proofs.Common.{List, ℕ, Option, Vec, sym, ◌∙◌, ap, subst}
use Rattle.std.specs.declared.alloc.Global.{Global}
use Rattle.disk_model.specs.Content.{IsImage, left_by}
use Rattle.disk_model.specs.There.{there_or}
use Rattle.disk_model.specs.Waiting.{waiting_now}
use Rattle.disk_model.specs.declared.content.Extent.{Extent}
use Rattle.disk_model.proofs.Cuts.{left_image, there_image, waiting_within}
use Rattle.disk_model.proofs.Images.{image_of_none}
use Rattle.disk_model.proofs.memory.MemDisk.cut.Goals as goal

pub returns-clause-left : goal.returns-clause-left
returns-clause-left c =
    let self = c.args.self.now in
    let bytes = self.content.bytes.items in
    let waiting = waiting_now self.content in
    let image = left_image c.args.cut bytes (there_or self.there bytes) waiting (waiting_within self.content) (there_image self.there bytes waiting self.left) in
    let is =
    ap (λ (there : Option (Vec ℕ Global)). there_or there c.cut.new.self.bytes.items) c.take-there.ensures.after
    ∙ c.cut.ensures.bytes
    ∙ ap (λ (there : Option (Vec ℕ Global)). left_by c.args.cut (there_or there bytes) waiting) c.take-there.ensures.value in
    subst (IsImage bytes waiting) (sym is) image

pub returns-clause-only : goal.returns-clause-only
returns-clause-only c f left =
    image_of_none c.cut.new.self.bytes.items f (subst (λ (ranges : List Extent). IsImage c.cut.new.self.bytes.items ranges f) c.cut.ensures.unsynced left)
    ∙ sym (ap (λ (there : Option (Vec ℕ Global)). there_or there c.cut.new.self.bytes.items) c.take-there.ensures.after)
