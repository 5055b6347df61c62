use Rattle.std.proofs.Common.{◌≡◌, inl, inr, ℕ, List, length, refl, sym, ◌∙◌, ap, subst, arith}
use Rattle.disk_model.specs.Disk.{Holds}
use Rattle.disk_model.specs.Frames.{touches_more, touches_then}
use Rattle.disk_model.specs.Moments.{weaker}
use Rattle.disk_model.specs.Part.{inside, IsApart}
use Rattle.gate_journal.specs.Pair.{IsTornIn, slot_bytes}
use Rattle.gate_journal.proofs.Clearing.{on_ok_always, torn_in, one_written, both_written, both_synced}
use Rattle.gate_journal.proofs.Pairs.{other_range, range_bytes}
use Rattle.gate_journal.proofs.Runs.{Tears}
use Rattle.gate_journal.proofs.pair.write_both.Goals as goal

pub returns-in_err-write_at-clause-frame : goal.returns-in_err-write_at-clause-frame
returns-in_err-write_at-clause-frame g c = λ keeps.
    touches_more c.args.part (omega (arith, c.slot_part.ensures.start)) (omega (arith, c.slot_part.ensures.start, c.slot_part.ensures.len, c.requires.pair)) (c.write_at.ensures.frame keeps)

pub returns-in_err-write_at-2-clause-frame : goal.returns-in_err-write_at-2-clause-frame
returns-in_err-write_at-2-clause-frame g c = λ keeps.
    touches_then
    (touches_more c.args.part (omega (arith, c.slot_part.ensures.start)) (omega (arith, c.slot_part.ensures.start, c.slot_part.ensures.len, c.requires.pair)) (c.write_at.ensures.frame keeps))
    (touches_more c.args.part (omega (arith, c.slot_part-2.ensures.start)) (omega (arith, c.slot_part-2.ensures.start, c.slot_part-2.ensures.len, c.requires.pair)) (c.write_at-2.ensures.frame keeps))

pub returns-clause-frame : goal.returns-clause-frame
returns-clause-frame g c = λ keeps.
    touches_then (touches_then
    (touches_more c.args.part (omega (arith, c.slot_part.ensures.start)) (omega (arith, c.slot_part.ensures.start, c.slot_part.ensures.len, c.requires.pair)) (c.write_at.ensures.frame keeps))
    (touches_more c.args.part (omega (arith, c.slot_part-2.ensures.start)) (omega (arith, c.slot_part-2.ensures.start, c.slot_part-2.ensures.len, c.requires.pair)) (c.write_at-2.ensures.frame keeps)))
    (c.sync.ensures.frame keeps)

pub returns-clause-first : goal.returns-clause-first
returns-clause-first g c = λ keeps.
    let disk = g.D.Disk in
    let part = c.args.part in
    let a = c.slot_part.result in
    let b = c.slot_part-2.result in
    let d0 = c.args.disk.now in
    let last = disk.gives c.sync.new.disk in
    let apart : IsApart b a = inr (omega (arith, c.slot_part.ensures.start, c.slot_part.ensures.len, c.slot_part-2.ensures.start)) in
    let here = range_bytes part a c.requires.pair 0 (omega arith) c.slot_part.ensures.start c.slot_part.ensures.len in
    let stays : inside a last ≡ inside a (disk.gives c.write_at.new.disk) = ap (inside a) (c.sync.ensures.gives keeps) ∙ ((c.write_at-2.ensures.frame keeps).others a apart).gives in
    on_ok_always c.sync.result
    (subst (λ (x : List ℕ). Holds x c.args.at c.args.bytes.now (slot_bytes 0 (inside part last))) (here (disk.gives d0))
    (subst (Holds (inside a (disk.gives d0)) c.args.at c.args.bytes.now) (sym stays ∙ here last) (c.in_ok-write_at.ensures.gives keeps)))

pub returns-clause-second : goal.returns-clause-second
returns-clause-second g c = λ keeps.
    let disk = g.D.Disk in
    let part = c.args.part in
    let a = c.slot_part.result in
    let b = c.slot_part-2.result in
    let d0 = c.args.disk.now in
    let last = disk.gives c.sync.new.disk in
    let apart : IsApart a b = inl (omega (arith, c.slot_part.ensures.start, c.slot_part.ensures.len, c.slot_part-2.ensures.start)) in
    let here = range_bytes part b c.requires.pair 1 (omega arith) c.slot_part-2.ensures.start c.slot_part-2.ensures.len in
    let before : inside b (disk.gives c.write_at.new.disk) ≡ inside b (disk.gives d0) = ((c.write_at.ensures.frame keeps).others b apart).gives in
    let stays : inside b last ≡ inside b (disk.gives c.write_at-2.new.disk) = ap (inside b) (c.sync.ensures.gives keeps) in
    on_ok_always c.sync.result
    (subst (λ (x : List ℕ). Holds x c.args.at c.args.bytes.now (slot_bytes 1 (inside part last))) (before ∙ here (disk.gives d0))
    (subst (Holds (inside b (disk.gives c.write_at.new.disk)) c.args.at c.args.bytes.now) (sym stays ∙ here last) (c.in_ok-write_at-2.ensures.gives keeps)))

pub returns-in_err-write_at-clause-any_moment : goal.returns-in_err-write_at-clause-any_moment
returns-in_err-write_at-clause-any_moment g c = λ keeps.
    let disk = g.D.Disk in
    let part = c.args.part in
    let a = c.slot_part.result in
    let b = other_range part 0 c.requires.pair (omega arith) in
    let at = c.args.at in
    let n = length c.args.bytes.now in
    let d0 = c.args.disk.now in
    let left = disk.may_leave_now d0 in
    let apart : IsApart a b = inl (omega (arith, c.slot_part.ensures.start, c.slot_part.ensures.len)) in
    weaker disk.moment disk.may_have_left_since d0 c.write_at.new.disk
    (λ d. Tears a at n left (inside a d) × Tears b at n left (inside b d)) (λ d. IsTornIn part 0 at n left d × IsTornIn part 1 at n left d)
    (λ d (p, q). (
      torn_in part a c.requires.pair 0 (omega arith) c.slot_part.ensures.start c.slot_part.ensures.len at n left d p,
      torn_in part b c.requires.pair 1 (omega arith) refl refl at n left d q,
    ))
    (one_written a b apart at n d0 c.write_at.new.disk (g.met.D.Disk.only_now keeps) (c.write_at.ensures.frame keeps) (c.write_at.ensures.time keeps) (c.write_at.ensures.leaves keeps))

pub returns-in_err-write_at-2-clause-any_moment : goal.returns-in_err-write_at-2-clause-any_moment
returns-in_err-write_at-2-clause-any_moment g c = λ keeps.
    let disk = g.D.Disk in
    let part = c.args.part in
    let a = c.slot_part.result in
    let b = c.slot_part-2.result in
    let at = c.args.at in
    let n = length c.args.bytes.now in
    let d0 = c.args.disk.now in
    let left = disk.may_leave_now d0 in
    let apart : IsApart a b = inl (omega (arith, c.slot_part.ensures.start, c.slot_part.ensures.len, c.slot_part-2.ensures.start)) in
    weaker disk.moment disk.may_have_left_since d0 c.write_at-2.new.disk
    (λ d. Tears a at n left (inside a d) × Tears b at n left (inside b d)) (λ d. IsTornIn part 0 at n left d × IsTornIn part 1 at n left d)
    (λ d (p, q). (
      torn_in part a c.requires.pair 0 (omega arith) c.slot_part.ensures.start c.slot_part.ensures.len at n left d p,
      torn_in part b c.requires.pair 1 (omega arith) c.slot_part-2.ensures.start c.slot_part-2.ensures.len at n left d q,
    ))
    (both_written a b apart at n d0 c.write_at.new.disk (g.met.D.Disk.only_now keeps) (c.write_at.ensures.frame keeps) (c.write_at.ensures.time keeps) (c.write_at.ensures.leaves keeps)
    c.write_at-2.new.disk (c.write_at-2.ensures.frame keeps) (c.write_at-2.ensures.time keeps) (c.write_at-2.ensures.leaves keeps))

pub returns-clause-any_moment : goal.returns-clause-any_moment
returns-clause-any_moment g c = λ keeps.
    let disk = g.D.Disk in
    let part = c.args.part in
    let a = c.slot_part.result in
    let b = c.slot_part-2.result in
    let at = c.args.at in
    let n = length c.args.bytes.now in
    let d0 = c.args.disk.now in
    let left = disk.may_leave_now d0 in
    let apart : IsApart a b = inl (omega (arith, c.slot_part.ensures.start, c.slot_part.ensures.len, c.slot_part-2.ensures.start)) in
    weaker disk.moment disk.may_have_left_since d0 c.sync.new.disk
    (λ d. Tears a at n left (inside a d) × Tears b at n left (inside b d)) (λ d. IsTornIn part 0 at n left d × IsTornIn part 1 at n left d)
    (λ d (p, q). (
      torn_in part a c.requires.pair 0 (omega arith) c.slot_part.ensures.start c.slot_part.ensures.len at n left d p,
      torn_in part b c.requires.pair 1 (omega arith) c.slot_part-2.ensures.start c.slot_part-2.ensures.len at n left d q,
    ))
    (both_synced a b apart at n d0 c.write_at.new.disk (g.met.D.Disk.only_now keeps) (c.write_at.ensures.frame keeps) (c.write_at.ensures.time keeps) (c.write_at.ensures.leaves keeps)
    c.write_at-2.new.disk (c.write_at-2.ensures.frame keeps) (c.write_at-2.ensures.time keeps) (c.write_at-2.ensures.leaves keeps) c.sync.new.disk (c.sync.ensures.time keeps) (c.sync.ensures.leaves keeps))
