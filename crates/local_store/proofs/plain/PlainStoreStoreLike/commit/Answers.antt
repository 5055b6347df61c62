use Rattle.std.proofs.Common.{ap, arith, inl, inr, subst, ◌∙◌}
use Rattle.local_store.specs.About.{meaning_with}
use Rattle.local_store.specs.Meaning.{Means}
use Rattle.local_store.specs.Overlay.{with_images}
use Rattle.local_store.proofs.Slices.{written_back}
use Rattle.local_store.specs.Plain.{means_plain, runs_plain}
use Rattle.local_store.proofs.plain.PlainStoreStoreLike.commit.Goals as goal

pub returns-in-Ok-clause-any_moment : goal.returns-in-Ok-clause-any_moment
returns-in-Ok-clause-any_moment c = λ model volume kept. runs_plain _ _ _ (λ x left. inr
    (subst (λ v. Means (meaning_with (record c.args.self.now.about { front = c.args.front }) (with_images v c.args.images.now)) x) kept.is
    (subst (λ s. Means (meaning_with (record s.about { front = c.args.front }) (with_images s.volume c.args.images.now)) x) c.self.view_is
    (subst (λ v. Means (record { slot = c.self.inside.slot; incarnation = c.self.inside.incarnation; geometry = c.self.inside.geometry; front = c.args.front; volume = v }) x) (written_back c.self.inside.volume.len c.put.new.volume c.self.inside.volume.items (omega (arith, c.put.ensures.size, c.self.inside.volume.ok)) ∙ c.put.ensures.volume ∙ ap (λ v. with_images v c.args.images.now) c.deref_mut.ensures.value) left))))

pub returns-in-Err-clause-any_moment : goal.returns-in-Err-clause-any_moment
returns-in-Err-clause-any_moment c = λ model volume kept. runs_plain _ _ _ (λ x left. inl (means_plain c.args.self.now volume x kept (subst (λ s. Means (meaning_with s.about s.volume) x) c.self.view_is left)))
