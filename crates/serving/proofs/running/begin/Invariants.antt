use Rattle.std.specs.Prelude.{Some, ◌==◌, if◌then◌else◌}
use Rattle.chain_core.specs.Node.{size_of}
use Rattle.loans.specs.Rings.{ring_of}
use Rattle.local_store.specs.About.{about_of}
use Rattle.serving.proofs.running.begin.Given as goal

-- the board, and the size
abbrev pub ghosts-run_named-J-Agreed : goal.ghosts-run_named-J-Agreed
ghosts-run_named-J-Agreed g a = record { board = Some a.board; size = size_of (about_of a.source.store.contents) }

-- the ring of each slot
abbrev pub ghosts-run_named-J-Rings : goal.ghosts-run_named-J-Rings
ghosts-run_named-J-Rings g a = record {
  ring = λ number. Some (ring_of (
      if number == 0 then a.sides.first.lender.end
      else (if number == 1 then a.sides.second.lender.end
      else (if number == 2 then a.sides.third.lender.end
      else (if number == 3 then a.sides.fourth.lender.end
      else (if number == 4 then a.sides.fifth.lender.end
      else (if number == 5 then a.sides.sixth.lender.end
      else (if number == 6 then a.sides.seventh.lender.end
      else a.sides.eighth.lender.end))))))));
}
