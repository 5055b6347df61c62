use Rattle.std.proofs.Common.{subst, sym, ◌∙◌}
use Rattle.manager.specs.Manager.{State}
use Rattle.management.specs.Management.{IsDurable, IsManaging}
use Rattle.management.proofs.Standing.{of_parts}
use Rattle.management.proofs.Turns.{due}
use Rattle.management.proofs.Writing.{after_device, after_done, after_other, at_rest, durable_now, in_writing, not_of_device}
use Rattle.management.proofs.management.Management.record.Goals as goal

pub returns-in_err-next-clause-any_moment : goal.returns-in_err-next-clause-any_moment
returns-in_err-next-clause-any_moment g c = λ keeps. at_rest _ c.args.self.now c.self.view_is c.self.invariant keeps (g.met.C.Disk.only_now keeps c.args.self.now.disk)

pub returns-in_default-clause-any_moment : goal.returns-in_default-clause-any_moment
returns-in_default-clause-any_moment g c = λ keeps. at_rest _ c.args.self.now c.self.view_is c.self.invariant keeps (g.met.C.Disk.only_now keeps c.args.self.now.disk)

pub returns-in-Device-clause-any_moment : goal.returns-in-Device-clause-any_moment
returns-in-Device-clause-any_moment g c = λ keeps.
    let is_next = due c.self.inside.manager c.in-Some.next (sym c.in_ok-next.ensures.value ∙ c.in-Some.is) in
    in_writing _ c.args.self.now c.self.view_is c.self.invariant keeps c.in-Some.next c.put.new.disk is_next.1 (c.put.ensures.any_moment keeps)

pub returns-in_default-refusal-clause-any_moment : goal.returns-in_default-refusal-clause-any_moment
returns-in_default-refusal-clause-any_moment g c = λ keeps.
    let is_next = due c.self.inside.manager c.in-Some.next (sym c.in_ok-next.ensures.value ∙ c.in-Some.is) in
    in_writing _ c.args.self.now c.self.view_is c.self.invariant keeps c.in-Some.next c.put.new.disk is_next.1 (c.put.ensures.any_moment keeps)

pub returns-clause-any_moment : goal.returns-clause-any_moment
returns-clause-any_moment g c = λ keeps.
    let is_next = due c.self.inside.manager c.in-Some.next (sym c.in_ok-next.ensures.value ∙ c.in-Some.is) in
    in_writing _ c.args.self.now c.self.view_is c.self.invariant keeps c.in-Some.next c.put.new.disk is_next.1 (c.put.ensures.any_moment keeps)

pub invariant_of-self : goal.invariant_of-self
invariant_of-self g c =
    let disk = g.C.Disk in
    let own = c.self.inside in
    let is_next = due own.manager c.in-Some.next (sym c.in_ok-next.ensures.value ∙ c.in-Some.is) in
    subst (λ (st : State). IsManaging disk.keeps_model disk.size disk.gives disk.may_leave_now (of_parts c.put.new.config c.put.new.disk st own.seat)) (sym c.begin.ensures)
    (after_device own.config c.put.new.config own.disk c.put.new.disk own.manager own.seat c.self.invariant c.in-Some.next is_next.1 is_next.0 c.put.ensures.part c.put.ensures.size c.put.ensures.kept c.in-Err.ensures.still)

pub invariant_of-self-in-Err : goal.invariant_of-self-in-Err
invariant_of-self-in-Err g c =
    let own = c.self.inside in
    let is_next = due own.manager c.in-Some.next (sym c.in_ok-next.ensures.value ∙ c.in-Some.is) in
    after_other own.config c.put.new.config own.disk c.put.new.disk own.manager own.seat c.self.invariant c.in-Some.next is_next.1 is_next.0 c.put.ensures.part c.put.ensures.size c.put.ensures.kept c.in-Err.ensures.still
    (c.in-Err.ensures.others (not_of_device c.in-Err.refusal c.in_default-refusal.not-Device))

pub invariant_of-self-2 : goal.invariant_of-self-2
invariant_of-self-2 g c =
    let disk = g.C.Disk in
    let own = c.self.inside in
    let is_next = due own.manager c.in-Some.next (sym c.in_ok-next.ensures.value ∙ c.in-Some.is) in
    subst (λ (st : State). IsManaging disk.keeps_model disk.size disk.gives disk.may_leave_now (of_parts c.put.new.config c.put.new.disk st own.seat)) (sym c.done.ensures)
    (after_done own.config c.put.new.config own.disk c.put.new.disk own.manager own.seat c.self.invariant c.in-Some.next is_next.1 is_next.0 c.put.ensures.part c.put.ensures.size c.put.ensures.kept
    c.in_default-put.ensures.current c.in_default-put.ensures.runs)

pub returns-clause-durable : goal.returns-clause-durable
returns-clause-durable g c = λ keeps was.
    let disk = g.C.Disk in
    let own = c.self.inside in
    let is_next = due own.manager c.in-Some.next (sym c.in_ok-next.ensures.value ∙ c.in-Some.is) in
    subst (λ (st : State). IsDurable disk.gives disk.may_leave_now (of_parts c.put.new.config c.put.new.disk st own.seat)) (sym c.done.ensures)
    (durable_now own.config c.put.new.config own.disk c.put.new.disk own.manager own.seat c.self.invariant c.in-Some.next is_next.1 is_next.0 c.put.ensures.part c.put.ensures.size c.put.ensures.kept
    c.in_default-put.ensures.current c.in_default-put.ensures.runs keeps)
