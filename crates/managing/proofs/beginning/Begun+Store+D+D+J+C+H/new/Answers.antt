use Rattle.std.proofs.Common.{◌*◌, ◌∙◌, ap, sym}
use Rattle.volume.specs.declared.geometry.Geometry.{Geometry}
use Rattle.managing.proofs.beginning.Begun+Store+D+D+J+C+H.new.Goals as goal

pub new-managing-requires-clause-size : goal.new-managing-requires-clause-size
new-managing-requires-clause-size g c = sym c.requires.size ∙ ap (λ (sizes : Geometry). 4096 * sizes.blocks) (sym c.geometry-geometry.ensures)
