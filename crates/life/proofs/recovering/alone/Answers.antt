use Rattle.std.proofs.Common.{◌≡◌, ℕ, List, [], ◌∷◌, ◌++◌, ap, subst, ◌∙◌}
use Rattle.std.specs.Prelude.{All, IfSome, slice_get}
use Rattle.std.proofs.lemmas.List.Elements.{All-cons, All-nil}
use Rattle.life.specs.Begun.{BeginsWith}
use Rattle.life.proofs.recovering.alone.Goals as goal

pub returns-clause-begins : goal.returns-clause-begins
returns-clause-begins g c = λ premise volume kept.
    let items : c.push_reserved.new.self.items ≡ c.args.store ∷ [] = c.push_reserved.ensures.items ∙ ap (λ l. l ++ c.args.store ∷ []) c.in_ok-stores.ensures.items in
    subst (λ stores. IfSome (slice_get stores 0) (λ first. (v : List ℕ) → All (λ s. g.S.StoreLike.keeps s v) stores
    → BeginsWith g.S.StoreLike.about g.S.StoreLike.keeps g.S.StoreLike.may_leave_now (g.S.StoreLike.about first).geometry (g.S.StoreLike.about first).front v c.in_ok-world_of.field-0))
    items (c.in_ok-world_of.ensures.begins premise) volume (All-cons (λ s. g.S.StoreLike.keeps s volume) c.args.store [] kept (All-nil (λ s. g.S.StoreLike.keeps s volume)))
