use Rattle.std.proofs.Common.{◌≡◌, Some, ap, arith, inl, subst, sym, ◌∙◌}
use Rattle.std.specs.Prelude.{All, not}
use Rattle.std.proofs.lemmas.List.Elements.{All-filter}
use Rattle.chain_steps.specs.Waiting.{IsOf, is_read}
use Rattle.chain_steps.specs.declared.found.Found.TheVariants.{Looked}
use Rattle.chain_core.proofs.SoundReads.{sound_answered}
use Rattle.chain_core.proofs.node.Node.answer_with.Goals as goal

pub bind-requires : goal.bind-requires
bind-requires g c =
    let looked : c.self.inside.found ≡ Some (Looked c.in-Looked.front) = c.in-Some.is ∙ ap Some c.in-Looked.is in
    subst (λ b. All (IsOf b) c.answer_reads.new.self) (sym (c.self.invariant.found (Looked c.in-Looked.front) looked))
    (subst (All (IsOf c.self.inside.board)) (sym c.answer_reads.ensures.left) (All-filter (λ w. not (is_read w)) (IsOf c.self.inside.board) c.self.inside.desk c.self.invariant.owed))

pub invariant_of-self : goal.invariant_of-self
invariant_of-self g c = rw (c.bind.ensures, c.answer_reads.ensures.left) (sound_answered _ _ _ c.self.invariant c.in-Looked.front.number)

pub returns-clause-answered : goal.returns-clause-answered
returns-clause-answered g c = λ front found.
    let looked : c.self.inside.found ≡ Some (Looked c.in-Looked.front) = c.in-Some.is ∙ ap Some c.in-Looked.is in
    let is : Some (Looked c.in-Looked.front) ≡ Some (Looked front) = sym looked ∙ ap (λ s. s.state.found) c.self.view_is ∙ found in
    let same : c.in-Looked.front ≡ front = cc is in
    inl (record { node = grind (arith, c.self.view_is, c.bind.ensures, c.answer_reads.ensures.left, same); sent = grind (arith, c.self.view_is, c.answer_reads.ensures.answered, c.in-Ok.ensures.items, c.new.ensures.items) })
