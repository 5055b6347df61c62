use Rattle.std.proofs.Common.{◌≡◌, None, arith, subst, sym}
use Rattle.std.proofs.Math.Nat.{le_refl}
use Rattle.disk_model.specs.Moments.{started}
use Rattle.local_store.specs.About.{meaning_with}
use Rattle.local_store.specs.Meaning.{Means}
use Rattle.local_store.specs.Refusal.{IsOfDevice}
use Rattle.local_store.specs.declared.refusal.Refusal.{Refusal}
use Rattle.chain_core.proofs.SoundCommits.{sound_worked}
use Rattle.chain_core.proofs.node.Node.tick_run.Goals as goal

pub returns-then-is_some-clause-any_moment : goal.returns-then-is_some-clause-any_moment
returns-then-is_some-clause-any_moment g c = λ premise volume keep.
    started g.S.StoreLike.moment g.S.StoreLike.may_have_left_since c.args.self.now.store (Means (meaning_with (g.S.StoreLike.about c.args.self.now.store) volume))
    (λ d left. g.met.S.StoreLike.means_now premise c.args.self.now.store volume d keep (g.met.S.StoreLike.only_now premise c.args.self.now.store d left))

pub invariant_of-self : goal.invariant_of-self
invariant_of-self g c =
    let runs : c.self.inside.stopped ≡ None = grind (arith, c.if-is_some.false, c.is_some.ensures) in
    let about = g.S.StoreLike.about c.self.inside.store in
    sound_worked _ _ _ c.self.invariant runs about.used about.stores (g.S.StoreLike.about c.tick_run.new.self) (g.S.StoreLike.keeps c.tick_run.new.self) (le_refl about.used) c.in-Ok.ensures.ok c.in-Ok.ensures.kept
    (λ premise. g.met.S.StoreLike.keeps_one premise c.tick_run.new.self)

pub invariant_of-self-in-Err-Memory : goal.invariant_of-self-in-Err-Memory
invariant_of-self-in-Err-Memory g c =
    let runs : c.self.inside.stopped ≡ None = grind (arith, c.if-is_some.false, c.is_some.ensures) in
    let about = g.S.StoreLike.about c.self.inside.store in
    let same = c.in-Err-Memory.ensures.unchanged (subst (λ (r : Refusal). ¬ IsOfDevice r) (sym c.in-Err-Memory.field-0-is) (λ none. none)) in
    sound_worked _ _ _ c.self.invariant runs about.used about.stores (g.S.StoreLike.about c.tick_run.new.self) (g.S.StoreLike.keeps c.tick_run.new.self) (le_refl about.used) same.0
    (λ premise. same.1) (λ premise. g.met.S.StoreLike.keeps_one premise c.tick_run.new.self)
