use Rattle.std.proofs.Common.{refl, sym, ap}
use Rattle.chain_steps.specs.Node.{Out}
use Rattle.chain.proofs.AskingSteps.{runs_so}
use Rattle.chain.proofs.member.Member.read.Goals as goal

pub returns-clause-read : goal.returns-clause-read
returns-clause-read g c =
    let e = c.in-Ok.ensures in
    rw (← c.self.view_is) (record {
      out = c.in-Ok.out;
      runs = runs_so c.self.inside.node.state e.away;
      did = record { at_once = e.at_once; waits = e.waits; tells = e.about; kept = e.kept; any_moment = e.any_moment };
      told = sym (ap (λ (o : Out). o.replies) c.out.view_is);
      are = refl;
    })

pub returns-in-Err-clause-refused : goal.returns-in-Err-clause-refused
returns-in-Err-clause-refused g c = rw (← c.self.view_is) (c.in-Err.ensures.refused, refl)
