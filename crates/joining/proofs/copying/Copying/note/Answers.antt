use Rattle.std.proofs.Common.{refl, subst, sym, ◌∙◌}
use Rattle.std.specs.Prelude.{slice_get}
use Rattle.joining.specs.Copying.{IsFor, Seen}
use Rattle.joining.proofs.Marking.{NotesCopies, noted_copy, some_two}
use Rattle.joining.proofs.OnItsWay.{in_course_lost, in_course_marked, marks_long}
use Rattle.joining.proofs.copying.Copying.note.Goals as goal

pub returns-clause-copies : goal.returns-clause-copies
returns-clause-copies g c =
    let old : Seen g.row.D.Denot = record { at = c.self.inside.at; front = c.self.inside.front; sender = c.self.inside.sender; receiver = c.self.inside.receiver; rests = c.self.inside.rests; broken = c.self.inside.broken } in
    let new : Seen g.row.D.Denot = record { at = c.self.inside.at; front = c.known-known.result; sender = c.mark_writes.new.sender; receiver = c.self.inside.receiver; rests = c.self.inside.rests; broken = c.self.inside.broken } in
    subst (NotesCopies g.D.Disk.gives g.D.Disk.may_leave_now g.D.Disk.keeps_model c.args.world.now.chain.members new) c.self.view_is
    (some_two (slice_get c.args.world.now.chain.members c.self.inside.at) c.known-known.ensures.known c.mark_writes.ensures.copies
    (λ m known copies whole keeps. noted_copy g.D.Disk.gives g.D.Disk.may_leave_now old new m.node.state c.known-known.result known refl copies))

pub invariant_of-self : goal.invariant_of-self
invariant_of-self g c =
    let old : Seen g.row.D.Denot = record { at = c.self.inside.at; front = c.self.inside.front; sender = c.self.inside.sender; receiver = c.self.inside.receiver; rests = c.self.inside.rests; broken = c.self.inside.broken } in
    let is_for = subst (IsFor c.args.world.now.chain) (sym c.self.view_is) c.requires.is_for in (
      in_course_lost c.args.world.now.chain.members c.self.inside.at is_for.member old c.self.invariant.0 c.known-known.result c.known-known.ensures.known c.known-known.ensures.order,
      λ keeps. let way = c.self.invariant.1 keeps in record { its = way.its; unmeant = way.unmeant; taking = λ runs. absurd cc },
    )

pub invariant_of-self-2 : goal.invariant_of-self-2
invariant_of-self-2 g c =
    let old : Seen g.row.D.Denot = record { at = c.self.inside.at; front = c.self.inside.front; sender = c.self.inside.sender; receiver = c.self.inside.receiver; rests = c.self.inside.rests; broken = c.self.inside.broken } in
    let is_for = subst (IsFor c.args.world.now.chain) (sym c.self.view_is) c.requires.is_for in (
      in_course_marked c.args.world.now.chain.members c.self.inside.at is_for.member old c.mark_writes.new.sender c.known-known.result c.mark_writes.ensures.marked c.self.invariant.0 c.if-self.false c.known-known.ensures.known c.known-known.ensures.order,
      λ keeps. let way = c.self.invariant.1 keeps in record { its = way.its; unmeant = way.unmeant; taking = way.taking },
    )

pub returns-clause-is_for : goal.returns-clause-is_for
returns-clause-is_for g c =
    let old : Seen g.row.D.Denot = record { at = c.self.inside.at; front = c.self.inside.front; sender = c.self.inside.sender; receiver = c.self.inside.receiver; rests = c.self.inside.rests; broken = c.self.inside.broken } in
    let is_for = subst (IsFor c.args.world.now.chain) (sym c.self.view_is) c.requires.is_for in
    record { member = is_for.member; blocks = marks_long c.args.world.now.chain.members c.self.inside.at is_for.member old c.mark_writes.new.sender c.known-known.result c.mark_writes.ensures.marked ∙ is_for.blocks }
