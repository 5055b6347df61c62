use Rattle.std.proofs.Common.{arith, ap, ◌≡◌, ◌+◌, length}
use Rattle.version_table.specs.Held.{Held}
use Rattle.version_table.proofs.TableLemmas.{apart_from_marks}
use Rattle.version_table.proofs.table.Table.next_touching.Goals as goal

pub returns-in-Some-clause-first : goal.returns-in-Some-clause-first
returns-in-Some-clause-first c =
    let front : c.self.inside.front ≡ c.args.self.now.forgotten = ap (λ (t : Held). t.forgotten) c.self.view_is in
    let kept : c.self.inside.kept.items ≡ c.args.self.now.kept = ap (λ (t : Held). t.kept) c.self.view_is in
    let long = ap length kept in
    let from = c.in-Some.ensures.from in
    apart_from_marks _ _ c.self.inside.marks c.args.block c.args.after _ c.in-Some.number (rw (front, kept) at c.self.invariant.indexed) c.requires.kept (omega arith) (omega arith) c.in-Some.ensures.first

pub returns-in_default-clause-none : goal.returns-in_default-clause-none
returns-in_default-clause-none c =
    let front : c.self.inside.front ≡ c.args.self.now.forgotten = ap (λ (t : Held). t.forgotten) c.self.view_is in
    let kept : c.self.inside.kept.items ≡ c.args.self.now.kept = ap (λ (t : Held). t.kept) c.self.view_is in
    apart_from_marks _ _ c.self.inside.marks c.args.block c.args.after _ c.in-Some.number (rw (front, kept) at c.self.invariant.indexed) c.requires.kept (omega arith) (omega arith) c.in-Some.ensures.first

pub returns-in_default-2-clause-none : goal.returns-in_default-2-clause-none
returns-in_default-2-clause-none c =
    let front : c.self.inside.front ≡ c.args.self.now.forgotten = ap (λ (t : Held). t.forgotten) c.self.view_is in
    let kept : c.self.inside.kept.items ≡ c.args.self.now.kept = ap (λ (t : Held). t.kept) c.self.view_is in
    apart_from_marks _ _ c.self.inside.marks c.args.block c.args.after _ (c.args.upto + 1) (rw (front, kept) at c.self.invariant.indexed) c.requires.kept (omega arith) (omega arith) (λ m from _. c.in_default.ensures.none m from)
