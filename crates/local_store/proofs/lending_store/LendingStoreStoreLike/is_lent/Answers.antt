use Rattle.std.proofs.Common.{◌≡◌, ◌∙◌, refl, sym}
use Rattle.std.specs.Prelude.{Option, None, Some, is_some, false}
use Rattle.local_store.specs.Away.{lent_batch}
use Rattle.local_store.specs.declared.lent.Lent.{Lent}
use Rattle.local_store.proofs.lending_store.LendingStoreStoreLike.is_lent.Goals as goal

told : {P L : Type 0} (lent : Option (Lent P L)) → is_some lent ≡ is_some (lent_batch lent)
told None = refl
told (Some l) = refl

none_told : {P L : Type 0} (lent : Option (Lent P L)) → is_some lent ≡ false → lent_batch lent ≡ None
none_told None none = refl
none_told (Some l) none = absurd (cc)

pub returns-clause-lent : goal.returns-clause-lent
returns-clause-lent g c = c.is_some.ensures ∙ told c.args.self.now.lent

pub returns-clause-here : goal.returns-clause-here
returns-clause-here g c = λ none. none_told c.args.self.now.lent (sym c.is_some.ensures ∙ none)
