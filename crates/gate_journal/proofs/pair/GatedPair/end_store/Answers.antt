use Rattle.std.proofs.Common.{◌+◌, inl}
use Rattle.disk_model.specs.Moments.{weaker}
use Rattle.disk_model.specs.Part.{inside}
use Rattle.gate_journal.specs.Pair.{HoldsPair, HoldsStored}
use Rattle.gate_journal.proofs.PairSteps.{before_store}
use Rattle.gate_journal.proofs.pair.GatedPair.end_store.Goals as goal

pub returns-in_err-may_store-clause-any_moment : goal.returns-in_err-may_store-clause-any_moment
returns-in_err-may_store-clause-any_moment g c = λ keeps slots settled.
    let s = c.args.self.now in
    let disk = c.args.disk.now in
    weaker g.D.Disk.moment g.D.Disk.may_have_left_since disk disk (λ d. HoldsPair slots (inside s.part d))
    (λ d. HoldsStored slots s.into (record { number = s.number + 1; payload = c.args.payload.now }) (inside s.part d)) (λ d holds. inl holds)
    (before_store s slots settled disk (g.met.D.Disk.only_now keeps disk))
