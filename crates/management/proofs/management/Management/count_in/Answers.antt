use Rattle.std.proofs.Common.{◌≡◌, ◌==◌, ℕ, false, not, inl, inr, ◌∙◌, ap, refl, subst, sym}
use Rattle.std.proofs.lemmas.Bool.Decides.{eqb_tells}
use Rattle.manager.specs.Manager.{next_of}
use Rattle.manager.specs.declared.order.Order.TheVariants.{CountIn}
use Rattle.management.specs.Management.{Managing}
use Rattle.management.specs.Orders.{CountsIn}
use Rattle.management.proofs.Standing.{durable, of_parts}
use Rattle.management.proofs.Turns.{into_chain}
use Rattle.management.proofs.management.Management.count_in.Goals as goal

-- a number that isn't another than a second is that one
not_another : (a b : ℕ) → false ≡ not (a == b) → a ≡ b
not_another a b said = elim (eqb_tells a b) [ inl (is, same) ↦ same | inr (isnt, other) ↦ absurd (let clash = ap not isnt in cc) ]

pub returns-clause-counted : goal.returns-clause-counted
returns-clause-counted g c =
    let st = c.self.inside.manager in
    let slot = c.args.receipt.slot in
    let same : c.in-CountIn.slot ≡ slot = sym (not_another c.slot.result c.in-CountIn.slot c.if-ne.ensures) ∙ c.slot.ensures in
    let next : next_of st ≡ CountIn slot = sym c.in-CountIn.ensures ∙ ap CountIn same in
    let joins = into_chain st c.managers_are.ensures slot next in
    subst (λ (m : Managing g.row.C.Denot). CountsIn c.args.receipt m (of_parts c.self.inside.config c.self.inside.disk c.done.new.self c.count_in.new.seat)) c.self.view_is (record {
      posted = c.post.new.seat;
      due = next;
      joins = joins.0;
      left_out = joins.1;
      posts = c.post.ensures.posted;
      are = cc (c.done.ensures, c.count_in.ensures.step, same);
    })

pub returns-clause-durable : goal.returns-clause-durable
returns-clause-durable g c = λ keeps. durable _ _ c.self.view_is c.self.invariant (CountIn c.in-CountIn.slot) (sym c.in-CountIn.ensures) refl keeps
