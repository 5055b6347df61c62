use Rattle.std.proofs.Common.{inl, inr, ⊎_elim, List, ℕ, nat_eq, sym, subst, ◌∙◌}
use Rattle.std.specs.List.{IsDistinct}
use Rattle.std.specs.Map.{keys_of}
use Rattle.block_cache.specs.Cache.{Blocks, IsCached, Keeps}
use Rattle.block_cache.proofs.Entries.{put_keeps, put_once, put_others, put_renews}
use Rattle.block_cache.proofs.cache.Cache.keep.Goals as goal

pub returns-clause-kept : goal.returns-clause-kept
returns-clause-kept c = λ b image there.
    ⊎_elim (λ was. inl (subst (λ (es : Blocks). Keeps es b image) c.self.view_is was)) (λ (same, is). inr (same, is ∙ c.copy_from_slice.ensures.after))
    (put_keeps c.self.inside.blocks c.put.new.self c.args.block c.copy_from_slice.new.self c.put.result c.put.ensures.entries c.put.ensures.err b image there)

pub returns-clause-renewed : goal.returns-clause-renewed
returns-clause-renewed c = λ cached.
    subst (λ (l : List ℕ). Keeps c.put.new.self.entries c.args.block l) c.copy_from_slice.ensures.after
    (put_renews c.self.inside.blocks c.put.new.self c.args.block c.copy_from_slice.new.self c.put.result c.put.ensures.entries c.put.ensures.succeeds
    (subst (λ (es : Blocks). IsCached es c.args.block) (sym c.self.view_is) cached))

pub returns-clause-once : goal.returns-clause-once
returns-clause-once c = λ distinct cached image there.
    put_once c.self.inside.blocks c.put.new.self c.args.block c.copy_from_slice.new.self c.put.result c.put.ensures.entries c.put.ensures.succeeds
    (subst (λ (es : Blocks). IsDistinct nat_eq (keys_of es)) (sym c.self.view_is) distinct)
    (subst (λ (es : Blocks). IsCached es c.args.block) (sym c.self.view_is) cached) image there
    ∙ c.copy_from_slice.ensures.after

pub returns-clause-others : goal.returns-clause-others
returns-clause-others c = λ cached b image apart there.
    put_others c.self.inside.blocks c.put.new.self c.args.block c.copy_from_slice.new.self c.put.result c.put.ensures.entries c.put.ensures.err
    (subst (λ (es : Blocks). IsCached es c.args.block) (sym c.self.view_is) cached) b image apart
    (subst (λ (es : Blocks). Keeps es b image) (sym c.self.view_is) there)
