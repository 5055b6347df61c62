use Rattle.std.proofs.Common.{◌≡◌, ◌∙◌, List, ℕ, length, refl, subst, arith}
use Rattle.std.proofs.lemmas.Result.{on_ok_weaker}
use Rattle.disk_model.specs.Disk.{LeavesOnly, Torn}
use Rattle.disk_model.specs.Frames.{only_inside, touches_then}
use Rattle.disk_model.specs.Moments.{then_run, weaker}
use Rattle.disk_model.specs.Part.{inside, LeftInside}
use Rattle.gate_journal.specs.Pair.{IsCleared, IsTornIn, slot_bytes}
use Rattle.gate_journal.proofs.Clearing.{long_slot, slot_cleared, torn_uncovers, zeroed_uncovers}
use Rattle.gate_journal.proofs.Standing.{length-inside}
use Rattle.gate_journal.proofs.pair.clear.Goals as goal

pub returns-in_err-write_both-clause-any_moment : goal.returns-in_err-write_both-clause-any_moment
returns-in_err-write_both-clause-any_moment g c = λ keeps.
    let disk = g.D.Disk in
    let part = c.args.part in
    let d0 = c.args.disk.now in
    let d1 = c.write_both.new.disk in
    let left = disk.may_leave_now d0 in
    let first : LeavesOnly disk.moment disk.may_have_left_since d0 d1 (λ d. IsCleared part 0 left d × IsCleared part 1 left d) =
    weaker disk.moment disk.may_have_left_since d0 d1 (λ d. IsTornIn part 0 1 12 left d × IsTornIn part 1 1 12 left d) (λ d. IsCleared part 0 left d × IsCleared part 1 left d)
    (λ d ((x, was, torn), (y, was', torn')). (
      (x, was, torn_uncovers (slot_bytes 0 x) (slot_bytes 0 (inside part d)) torn),
      (y, was', torn_uncovers (slot_bytes 1 y) (slot_bytes 1 (inside part d)) torn'),
    ))
    (c.write_both.ensures.any_moment keeps) in
    first

pub returns-clause-frame : goal.returns-clause-frame
returns-clause-frame g c = λ keeps. touches_then (c.write_both.ensures.frame keeps) (c.write_both-2.ensures.frame keeps)

pub returns-clause-first : goal.returns-clause-first
returns-clause-first g c = λ keeps.
    let disk = g.D.Disk in
    let part = c.args.part in
    let d0 = c.args.disk.now in
    let long : length (inside part (disk.gives d0)) ≡ 8192 = length-inside part (disk.gives d0) (disk.size d0) (g.met.D.Disk.gives_size keeps d0) c.requires.on_disk ∙ c.requires.pair in
    on_ok_weaker c.write_both-2.result
    (slot_cleared (slot_bytes 0 (inside part (disk.gives d0))) (slot_bytes 0 (inside part (disk.gives c.write_both.new.disk))) (slot_bytes 0 (inside part (disk.gives c.write_both-2.new.disk)))
    (long_slot 0 (inside part (disk.gives d0)) (omega arith) long) (c.in_ok-write_both.ensures.first keeps))
    (c.write_both-2.ensures.first keeps)

pub returns-clause-second : goal.returns-clause-second
returns-clause-second g c = λ keeps.
    let disk = g.D.Disk in
    let part = c.args.part in
    let d0 = c.args.disk.now in
    let long : length (inside part (disk.gives d0)) ≡ 8192 = length-inside part (disk.gives d0) (disk.size d0) (g.met.D.Disk.gives_size keeps d0) c.requires.on_disk ∙ c.requires.pair in
    on_ok_weaker c.write_both-2.result
    (slot_cleared (slot_bytes 1 (inside part (disk.gives d0))) (slot_bytes 1 (inside part (disk.gives c.write_both.new.disk))) (slot_bytes 1 (inside part (disk.gives c.write_both-2.new.disk)))
    (long_slot 1 (inside part (disk.gives d0)) (omega arith) long) (c.in_ok-write_both.ensures.second keeps))
    (c.write_both-2.ensures.second keeps)

pub returns-clause-any_moment : goal.returns-clause-any_moment
returns-clause-any_moment g c = λ keeps.
    let disk = g.D.Disk in
    let part = c.args.part in
    let d0 = c.args.disk.now in
    let d1 = c.write_both.new.disk in
    let left = disk.may_leave_now d0 in
    let first : LeavesOnly disk.moment disk.may_have_left_since d0 d1 (λ d. IsCleared part 0 left d × IsCleared part 1 left d) =
    weaker disk.moment disk.may_have_left_since d0 d1 (λ d. IsTornIn part 0 1 12 left d × IsTornIn part 1 1 12 left d) (λ d. IsCleared part 0 left d × IsCleared part 1 left d)
    (λ d ((x, was, torn), (y, was', torn')). (
      (x, was, torn_uncovers (slot_bytes 0 x) (slot_bytes 0 (inside part d)) torn),
      (y, was', torn_uncovers (slot_bytes 1 y) (slot_bytes 1 (inside part d)) torn'),
    ))
    (c.write_both.ensures.any_moment keeps) in
    let long : length (inside part (disk.gives d0)) ≡ 8192 = length-inside part (disk.gives d0) (disk.size d0) (g.met.D.Disk.gives_size keeps d0) c.requires.on_disk ∙ c.requires.pair in
    let d2 = c.write_both-2.new.disk in
    let before = disk.gives d0 in
    let mid = disk.gives d1 in
    let there : LeftInside part left (inside part before) = (before, g.met.D.Disk.leaves_gives keeps d0, refl) in
    let settled = only_inside part mid (disk.may_leave_now d1) (c.in_ok-write_both.ensures.whole keeps) in
    then_run disk.moment disk.may_have_left_since d0 d1 d2 (λ d. IsCleared part 0 left d × IsCleared part 1 left d) first
    (weaker disk.moment disk.may_have_left_since d1 d2 (λ d. IsTornIn part 0 0 1 (disk.may_leave_now d1) d × IsTornIn part 1 0 1 (disk.may_leave_now d1) d) (λ d. IsCleared part 0 left d × IsCleared part 1 left d)
    (λ d ((x, was, torn), (y, was', torn')). (
      (
        inside part before,
        there,
        zeroed_uncovers (slot_bytes 0 (inside part before)) (slot_bytes 0 (inside part mid)) (slot_bytes 0 (inside part d)) (long_slot 0 (inside part before) (omega arith) long) (c.in_ok-write_both.ensures.first keeps)
            (subst (λ (z : List ℕ). Torn 0 1 (slot_bytes 0 z) (slot_bytes 0 (inside part d))) (settled x was) torn),
      ),
      (
        inside part before,
        there,
        zeroed_uncovers (slot_bytes 1 (inside part before)) (slot_bytes 1 (inside part mid)) (slot_bytes 1 (inside part d)) (long_slot 1 (inside part before) (omega arith) long) (c.in_ok-write_both.ensures.second keeps)
            (subst (λ (z : List ℕ). Torn 0 1 (slot_bytes 1 z) (slot_bytes 1 (inside part d))) (settled y was') torn'),
      ),
    ))
    (c.write_both-2.ensures.any_moment keeps))
