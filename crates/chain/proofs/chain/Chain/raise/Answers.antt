use Rattle.std.proofs.Common.{◌≡◌, ◌∙◌, true, false, refl, sym, ap, inl, inr}
use Rattle.std.specs.Prelude.{is_some}
use Rattle.std.proofs.lemmas.Bool.{cases_Bool}
use Rattle.chain_core.specs.Node.{may_raise}
use Rattle.chain.proofs.FloorSteps.{is_in_at, stands_now}
use Rattle.chain.proofs.FrontSteps.{formed_raised, may_there, raised_goes, runs_there}
use Rattle.chain.proofs.Stepping.{rests, read_at, same_then, formed_still}
use Rattle.chain.proofs.chain.Chain.raise.Goals as goal
use Rattle.chain.proofs.chain.Chain.raise.Goals.{else-is_none-via-then-is_none+else-not-may_raise, else-is_none-via-else-is_none}

pub raise-requires : goal.raise-requires
raise-requires g c =
    let here = read_at _ _ c.args.at _ c.self.view_is c.requires c.index_mut.ensures.value in
    (is_in_at _ _ c.args.at _ here c.self.invariant).board

pub invariant_of-self : goal.invariant_of-self
invariant_of-self g c =
    let here = read_at _ _ c.args.at _ c.self.view_is c.requires c.index_mut.ensures.value in
    elim (cases_Bool c.raise.result) [
      | inl done ↦ rw (c.raise.ensures.words done) (formed_raised _ _ c.args.at _ _ here (c.raise.ensures.raised done) c.self.invariant)
      | inr idle ↦ rw (c.raise.ensures.stopped idle).2 (formed_still _ c.args.at _ _ here _ (c.raise.ensures.stopped idle).1 c.self.invariant)
    ]

pub returns-clause-idle : goal.returns-clause-idle
returns-clause-idle g c = λ idle. rw (← c.self.view_is, (c.raise.ensures.stopped idle).2)
    (let here = read_at _ _ c.args.at _ c.self.view_is c.requires c.index_mut.ensures.value in
    inr (record { member = c.index_mut.result.now; here = here; stopped = (c.raise.ensures.stopped idle).0; same = same_then _ c.args.at _ _ here (c.raise.ensures.stopped idle).1 }))

pub returns-then-not-may_raise-clause-idle : goal.returns-then-not-may_raise-clause-idle
returns-then-not-may_raise-clause-idle g c = λ idle.
    let here = read_at _ _ c.args.at _ c.self.view_is c.requires c.index-then-is_none.ensures in
    let may = c.may_raise.ensures ∙ ap (λ m. may_raise m.node.state) c.behind-self.view_is in
    rw (← c.self.view_is) (inl (record { member = c.index-then-is_none.result.now; here = here; lacks = sym may ∙ c.if-not-may_raise.true; same = refl }))

pub returns-clause-raised : goal.returns-clause-raised
returns-clause-raised g c = λ done.
    let here = read_at _ _ c.args.at _ c.self.view_is c.requires c.index_mut.ensures.value in
    let did = c.raise.ensures.raised done in
    rw (← c.self.view_is, c.raise.ensures.words done) (record {
      before = c.index_mut.result.now;
      after = c.raise.new.self;
      here = here;
      may = elim c.else-is_none.branch [
        | else-is_none-via-then-is_none+else-not-may_raise w ↦
            let first = read_at _ _ c.args.at _ c.self.view_is c.requires w.index-then-is_none.ensures in
            may_there _ c.args.at _ _ w.may_raise.result first here (w.may_raise.ensures ∙ ap (λ m. may_raise m.node.state) w.behind-self.view_is) ∙ w.if-not-may_raise.false
        | else-is_none-via-else-is_none w ↦
            let first = read_at _ _ c.args.at _ c.self.view_is c.requires c.index.ensures in
            let no : true ≡ false = sym (runs_there _ c.args.at _ _ c.is_none.result first here (ap is_some (sym c.cause.ensures) ∙ c.is_none.ensures) did.runs) ∙ w.if-is_none.false in
            absurd (cc)
      ];
      did = did;
      are = refl;
    })

pub returns-clause-one_volume : goal.returns-clause-one_volume
returns-clause-one_volume g c = λ premise v s events shows stands put_out. rw (← c.self.view_is) (
    let here = read_at _ _ c.args.at _ c.self.view_is c.requires c.index_mut.ensures.value in
    elim (cases_Bool c.raise.result) [
      | inl done ↦
          let did = c.raise.ensures.raised done in
          let may : may_raise c.index_mut.result.now.node.state ≡ true = elim c.else-is_none.branch [
            | else-is_none-via-then-is_none+else-not-may_raise w ↦
                let first = read_at _ _ c.args.at _ c.self.view_is c.requires w.index-then-is_none.ensures in
                may_there _ c.args.at _ _ w.may_raise.result first here (w.may_raise.ensures ∙ ap (λ m. may_raise m.node.state) w.behind-self.view_is) ∙ w.if-not-may_raise.false
            | else-is_none-via-else-is_none w ↦
                let first = read_at _ _ c.args.at _ c.self.view_is c.requires c.index.ensures in
                let no : true ≡ false = sym (runs_there _ c.args.at _ _ c.is_none.result first here (ap is_some (sym c.cause.ensures) ∙ c.is_none.ensures) did.runs) ∙ w.if-is_none.false in
                absurd (cc)
          ] in
          rw (c.raise.ensures.words done) (raised_goes _ _ c.args.at _ _ here did g.S.StoreLike.keeps g.S.StoreLike.may_leave_now v s events may (rw c.self.view_is shows) (stands_now _ _ v s c.self.view_is stands) put_out)
      | inr idle ↦ rw (c.raise.ensures.stopped idle).2 (rests _ _ _ _ _ v events (same_then _ c.args.at _ _ here (c.raise.ensures.stopped idle).1) (rw c.self.view_is shows) put_out)
    ])
