use Rattle.std.proofs.Common.{◌+◌, [], drop, refl, arith}
use Rattle.disk_model.specs.Part.{inside}
use Rattle.gate_journal.proofs.journal.Journal.create.Goals as goal

pub returns-clause-settled : goal.returns-clause-settled
returns-clause-settled g c = λ keeps. record {
  holds = record {
    are = tt;
    bytes = [];
    encode = refl;
    gate = 0;
    closed = λ e. absurd (omega arith);
    rest = drop (0 + 1) (inside c.args.part (g.D.Disk.gives c.args.disk.now));
    is = c.in_ok-write_durably.ensures.gives keeps;
  };
  end = refl;
  front = refl;
  runs = refl;
  durable = c.in_ok-write_durably.ensures.durable keeps;
}
