use Rattle.std.proofs.Common.{inr, IfOk, subst}
use Rattle.configurations.specs.Store.{HoldsNone, HoldsRecord}
use Rattle.disk_model.specs.Part.{inside}
use Rattle.disk_model.specs.declared.part.Part.{Part}
use Rattle.folder.proofs.restarting.open_config.Goals as goal

pub returns-clause-found : goal.returns-clause-found
returns-clause-found g c = λ keeps.
    subst (λ (p : Part). IfOk c.open.result (λ s. HoldsRecord s.current (inside p (g.D.Disk.gives c.args.disk.now)))) c.config_part.ensures (c.open.ensures.found keeps)

pub returns-clause-none : goal.returns-clause-none
returns-clause-none g c = λ keeps is.
    inr (subst (λ (p : Part). HoldsNone (inside p (g.D.Disk.gives c.args.disk.now))) c.config_part.ensures (c.open.ensures.none keeps is))
