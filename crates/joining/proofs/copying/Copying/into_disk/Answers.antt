use Rattle.std.proofs.Common.{sym, ◌∙◌}
use Rattle.joining.proofs.copying.Copying.into_disk.Goals as goal

pub returns-clause-unmeant : goal.returns-clause-unmeant
returns-clause-unmeant g c = λ keeps. (c.self.invariant.1 keeps).unmeant c.in-Some.disk (sym c.into_disk.ensures ∙ c.in-Some.is)
