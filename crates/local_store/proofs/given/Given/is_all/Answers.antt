use Rattle.std.proofs.Common.{◌∙◌, subst, sym}
use Rattle.std.specs.Prelude.{All, IsTrue}
use Rattle.std.proofs.lemmas.Bool.{eq-eqb, eqb-true}
use Rattle.local_store.proofs.Marks.{all_marked, none_left}
use Rattle.local_store.proofs.given.Given.is_all.Goals as goal

pub returns : goal.returns
returns c = (
  λ is. subst (All IsTrue) c.self.view_is (none_left c.self.inside.marks.items (sym c.self.invariant ∙ eqb-true _ _ is)),
  λ all. eq-eqb _ _ (c.self.invariant ∙ all_marked c.self.inside.marks.items (subst (All IsTrue) (sym c.self.view_is) all)),
)
