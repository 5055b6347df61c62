use Rattle.std.proofs.Common.{inl}
use Rattle.block_cache.proofs.Entries.{renewed_agrees}
use Rattle.block_cache.proofs.cache.Cache.renew.Goals as goal

pub returns-then-contains-clause-agrees : goal.returns-then-contains-clause-agrees
returns-then-contains-clause-agrees c = λ home room agrees.
    renewed_agrees home c.args.block c.args.image.now c.requires room c.args.self.now c.keep.new.self c.keep.ensures.kept
    (c.keep.ensures.once c.contains.ensures.once (c.contains.ensures.contains.0 c.if-contains.true)) agrees

pub returns-else-contains-clause-agrees : goal.returns-else-contains-clause-agrees
returns-else-contains-clause-agrees c = λ home room agrees.
    renewed_agrees home c.args.block c.args.image.now c.requires room c.args.self.now c.args.self.now (λ b image there. inl there)
    (λ image there. let found = c.contains.ensures.contains.1 (image, there) in absurd (cc (found, c.if-contains.false))) agrees

pub returns-then-contains-clause-others : goal.returns-then-contains-clause-others
returns-then-contains-clause-others c = λ b bytes apart there.
    c.keep.ensures.others (c.contains.ensures.contains.0 c.if-contains.true) b bytes apart there
