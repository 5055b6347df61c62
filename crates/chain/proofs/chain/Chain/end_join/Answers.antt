use Rattle.std.proofs.Common.{◌≡◌, ◌∙◌, refl, ap, arith, subst, sym, inr}
use Rattle.std.specs.Prelude.{None, Some}
use Rattle.chain.specs.Chain.{Chained}
use Rattle.chain.specs.Joining.{IsWithOne}
use Rattle.chain.proofs.JoiningSteps.{ends_join_goes, joined_formed}
use Rattle.chain.proofs.PassingSteps.{ok_of}
use Rattle.chain.proofs.chain.Chain.end_join.Goals as goal

pub returns-then-is_err-clause-refused : goal.returns-then-is_err-clause-refused
returns-then-is_err-clause-refused g c =
    let i = c.self.inside in
    let old : Chained g.row.S.Denot = record { id = i.board.id; seat = i.board.seat; words = i.board.words; recorded = i.recorded; before = i.before; writing = i.writing; youngest = i.youngest; geometry = i.geometry; members = i.members.items; links = i.links; submits = i.submits } in
    let f = c.adds.ensures.added.0 c.if-not-adds.false in
    let follows : IsWithOne g.S.StoreLike.about c.args.store old c.in-Some.next = record { sizes = f.sizes; epoch = f.epoch; incarnation = f.incarnation; members = f.members } in
    inr (
      refl,
      record {
        next = c.in-Some.next;
        begun = sym (ap (λ (o : Chained g.row.S.Denot). o.writing) c.self.view_is) ∙ sym c.take.ensures.value ∙ c.in-Some.is;
        follows = subst (λ (o : Chained g.row.S.Denot). IsWithOne g.S.StoreLike.about c.args.store o c.in-Some.next) c.self.view_is follows;
      },
    )

pub push_reserved-requires : goal.push_reserved-requires
push_reserved-requires g c =
    let room = ok_of c.reserve.result (sym c.is_err.ensures.value ∙ c.if-is_err.false) c.reserve.ensures.ok in
    omega (arith, room, c.reserve.ensures.len)

pub invariant_of-self-3 : goal.invariant_of-self-3
invariant_of-self-3 g c =
    let i = c.self.inside in
    let old : Chained g.row.S.Denot = record { id = i.board.id; seat = i.board.seat; words = i.board.words; recorded = i.recorded; before = i.before; writing = i.writing; youngest = i.youngest; geometry = i.geometry; members = i.members.items; links = i.links; submits = i.submits } in
    let f = c.adds.ensures.added.0 c.if-not-adds.false in
    let follows : IsWithOne g.S.StoreLike.about c.args.store old c.in-Some.next = record { sizes = f.sizes; epoch = f.epoch; incarnation = f.incarnation; members = f.members } in
    rw (c.replace.ensures.value, c.replace.ensures.after, c.take.ensures.after, c.incarnation-self-inside.ensures.incarnation, c.push_reserved.ensures.items, c.reserve.ensures.items, c.join-member.ensures, c.board.ensures, c.in-Ok.ensures)
    (joined_formed g.S.StoreLike.about old c.args.store c.in-Some.next c.adds.ensures.were c.adds.ensures.are follows c.self.invariant)

pub returns-clause-ended : goal.returns-clause-ended
returns-clause-ended g c =
    let i = c.self.inside in
    let old : Chained g.row.S.Denot = record { id = i.board.id; seat = i.board.seat; words = i.board.words; recorded = i.recorded; before = i.before; writing = i.writing; youngest = i.youngest; geometry = i.geometry; members = i.members.items; links = i.links; submits = i.submits } in
    let f = c.adds.ensures.added.0 c.if-not-adds.false in
    let follows : IsWithOne g.S.StoreLike.about c.args.store old c.in-Some.next = record { sizes = f.sizes; epoch = f.epoch; incarnation = f.incarnation; members = f.members } in
    let begun : c.args.self.now.writing ≡ Some c.in-Some.next = sym (ap (λ (o : Chained g.row.S.Denot). o.writing) c.self.view_is) ∙ sym c.take.ensures.value ∙ c.in-Some.is in (
      record { next = c.in-Some.next; begun = begun; follows = subst (λ (o : Chained g.row.S.Denot). IsWithOne g.S.StoreLike.about c.args.store o c.in-Some.next) c.self.view_is follows },
      record {
        next = c.in-Some.next;
        begun = begun;
        are = rw (← c.self.view_is, c.replace.ensures.value, c.replace.ensures.after, c.take.ensures.after, c.incarnation-self-inside.ensures.incarnation, c.push_reserved.ensures.items, c.reserve.ensures.items, c.join-member.ensures, c.board.ensures, c.in-Ok.ensures) refl;
      },
    )

pub returns-clause-one_volume : goal.returns-clause-one_volume
returns-clause-one_volume g c = λ premise v s shows of stands.
    let i = c.self.inside in
    let old : Chained g.row.S.Denot = record { id = i.board.id; seat = i.board.seat; words = i.board.words; recorded = i.recorded; before = i.before; writing = i.writing; youngest = i.youngest; geometry = i.geometry; members = i.members.items; links = i.links; submits = i.submits } in
    let f = c.adds.ensures.added.0 c.if-not-adds.false in
    let follows : IsWithOne g.S.StoreLike.about c.args.store old c.in-Some.next = record { sizes = f.sizes; epoch = f.epoch; incarnation = f.incarnation; members = f.members } in
    rw (← c.self.view_is, c.replace.ensures.value, c.replace.ensures.after, c.take.ensures.after, c.incarnation-self-inside.ensures.incarnation, c.push_reserved.ensures.items, c.reserve.ensures.items, c.join-member.ensures, c.board.ensures, c.in-Ok.ensures)
    (ends_join_goes g.S.StoreLike.about g.S.StoreLike.keeps g.S.StoreLike.may_leave_now old v (rw c.self.view_is shows) c.args.store c.in-Some.next c.adds.ensures.were follows c.adds.ensures.are (sym c.take.ensures.value ∙ c.in-Some.is)
    (λ volume d keep may. g.met.S.StoreLike.means_now premise _ volume d keep may) (λ volume keep. g.met.S.StoreLike.keeps_size premise _ volume keep) of)
