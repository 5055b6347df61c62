use Rattle.std.proofs.Common.{rules, ◌≡◌, Bool, false, List, [], ◌++◌, length, replicate, drop, sym, subst}
use Rattle.disk_model.specs.Content.{unsynced_in, AreMarked}
use Rattle.disk_model.proofs.Marks.{first_marks, marked_first}
use Rattle.disk_model.proofs.halving.mark_first.Goals as goal

pub returns-then-waits-clause-marked : goal.returns-then-waits-clause-marked
returns-then-waits-clause-marked c =
    let loose = c.args.loose.now in
    let rest = c.fill.new.self in
    let copied : c.copy_from_slice.new.self ≡ loose = search rules in
    let cleared : rest ≡ replicate (length c.args.marks.now) false = search rules in
    let same = first_marks loose rest (length c.args.marks.now) cleared c.requires in
    subst (λ (front : List Bool). AreMarked (unsynced_in c.args.waits loose []) (front ++ drop (length loose) rest)) (sym copied)
    (marked_first c.args.waits loose (loose ++ drop (length loose) rest) c.if-waits.true same)
