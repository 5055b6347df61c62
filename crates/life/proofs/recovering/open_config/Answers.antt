use Rattle.std.proofs.Common.{inr, subst}
use Rattle.std.specs.Prelude.{IfOk}
use Rattle.configurations.specs.Store.{HoldsNone, HoldsRecord}
use Rattle.disk_model.specs.Memory.{given_of}
use Rattle.disk_model.specs.Part.{inside}
use Rattle.disk_model.specs.declared.part.Part.{Part}
use Rattle.life.proofs.recovering.open_config.Goals as goal

pub returns-clause-stands : goal.returns-clause-stands
returns-clause-stands c = subst (λ (p : Part). IfOk c.open.result (λ s. HoldsRecord s.current (inside p (given_of c.args.config.now)))) c.config_part.ensures (c.open.ensures.found tt)

pub returns-clause-none : goal.returns-clause-none
returns-clause-none c = λ is. inr (subst (λ (p : Part). HoldsNone (inside p (given_of c.args.config.now))) c.config_part.ensures (c.open.ensures.none tt is))
