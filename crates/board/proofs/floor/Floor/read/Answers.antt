use Rattle.std.proofs.Common.{rules, ◌≡◌, ap, sym, ◌∙◌}
use Rattle.board.specs.Mask.{counts}
use Rattle.board.proofs.Reading.{reads_none, reads_same, reads_more}
use Rattle.board.proofs.floor.Floor.read.Goals as goal
use Rattle.board.proofs.floor.Floor.read.Goals.{then-holds, else-holds}

pub loop-number-init : goal.loop-number-init
loop-number-init c = rw c.new-gauges.ensures (reads_none c.args.crew c.args.seat.now)

pub loop-number-preserved : goal.loop-number-preserved
loop-number-preserved c =
    let slot : c.unwrap-slot.result ≡ c.loop-number.number = search rules in
    elim c.if-holds.branch [
      | then-holds w ↦
          let gauge = w.gauge.ensures in
          rw (w.gauges-is, w.push.ensures) (reads_more c.args.crew c.args.seat.now c.loop-number.seat c.if-holds.seat c.loop-number.number c.loop-number.gauges w.gauge.result
          (ap (counts c.args.crew.mask) (sym slot) ∙ sym c.holds.ensures ∙ w.if-holds.true)
          (gauge.slot ∙ slot)
          (search rules)
          (search rules)
          (search rules)
          (search rules)
          c.loop-number.invariant)
      | else-holds w ↦
          rw (w.gauges-is, w.seat-is) (reads_same c.args.crew c.args.seat.now c.loop-number.seat c.loop-number.number c.loop-number.gauges (ap (counts c.args.crew.mask) (sym slot) ∙ sym c.holds.ensures ∙ w.if-holds.false) c.loop-number.invariant)
    ]
