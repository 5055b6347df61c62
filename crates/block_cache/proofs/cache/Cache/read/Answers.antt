use Rattle.std.proofs.Common.{⊎_elim, ◌≡◌, ◌∙◌, ℕ, List, ap, sym, subst}
use Rattle.disk_model.specs.Part.{inside}
use Rattle.home_blocks.specs.Places.{home_part}
use Rattle.lru.specs.LruCache.{LruCache}
use Rattle.volume.specs.Writes.{block_of}
use Rattle.block_cache.specs.Cache.{Blocks, IsCached, Keeps}
use Rattle.block_cache.proofs.Entries.{looked_up, nothing_kept, promoted_has, promoted_keeps}
use Rattle.block_cache.proofs.cache.Cache.read.Goals as goal

pub returns-in-Some-clause-read : goal.returns-in-Some-clause-read
returns-in-Some-clause-read g c = λ keeps agrees.
    let found = sym c.get.ensures.value ∙ sym c.in-Some.ensures in
    c.copy_from_slice.ensures.after
    ∙ agrees c.args.block c.in-Some.image (subst (λ (es : Blocks). Keeps es c.args.block c.in-Some.image) c.self.view_is (looked_up c.args.block c.self.inside.blocks.entries c.in-Some.image found))

pub returns-in-Some-clause-agrees : goal.returns-in-Some-clause-agrees
returns-in-Some-clause-agrees g c = λ keeps agrees b image there.
    let first = subst (λ (l : LruCache ℕ (List ℕ)). Keeps l.entries b image) c.get.follows.holds-at-none there in
    agrees b image (subst (λ (es : Blocks). Keeps es b image) c.self.view_is (promoted_keeps c.args.block c.self.inside.blocks.entries b image first))

pub returns-in_err-read_home-clause-agrees : goal.returns-in_err-read_home-clause-agrees
returns-in_err-read_home-clause-agrees g c = λ keeps agrees b image there.
    let first = subst (λ (l : LruCache ℕ (List ℕ)). Keeps l.entries b image) c.get.follows.holds-at-none there in
    agrees b image (subst (λ (es : Blocks). Keeps es b image) c.self.view_is (promoted_keeps c.args.block c.self.inside.blocks.entries b image first))
    ∙ ap (λ (l : List ℕ). block_of (inside (home_part c.args.home.now.superblock.geometry) l) b) (sym (c.read_home.ensures.reads keeps).same)

pub returns-in_err-read_home-clause-hit : goal.returns-in_err-read_home-clause-hit
returns-in_err-read_home-clause-hit g c = λ cached.
    absurd (nothing_kept c.args.block c.self.inside.blocks.entries (sym c.get.ensures.value ∙ sym c.in_default.ensures) (subst (λ (es : Blocks). IsCached es c.args.block) (sym c.self.view_is) cached))

pub returns-clause-agrees : goal.returns-clause-agrees
returns-clause-agrees g c = λ keeps agrees b image there.
    let part = home_part c.args.home.now.superblock.geometry in
    let was : image ≡ block_of (inside part (g.D.Disk.gives c.args.disk.now)) b = ⊎_elim
    (λ old.
    let first = subst (λ (l : LruCache ℕ (List ℕ)). Keeps l.entries b image) c.get.follows.holds-at-none old in
    agrees b image (subst (λ (es : Blocks). Keeps es b image) c.self.view_is (promoted_keeps c.args.block c.self.inside.blocks.entries b image first)))
    (λ (same, is). is ∙ c.in_ok-read_home.ensures.read keeps ∙ ap (λ (k : ℕ). block_of (inside part (g.D.Disk.gives c.args.disk.now)) k) (sym same))
    (c.keep_if_read_again.ensures.kept b image there) in
    was ∙ ap (λ (l : List ℕ). block_of (inside part l) b) (sym (c.read_home.ensures.reads keeps).same)

pub returns-clause-hit : goal.returns-clause-hit
returns-clause-hit g c = λ cached.
    absurd (nothing_kept c.args.block c.self.inside.blocks.entries (sym c.get.ensures.value ∙ sym c.in_default.ensures) (subst (λ (es : Blocks). IsCached es c.args.block) (sym c.self.view_is) cached))

pub returns-in-Some-clause-kept : goal.returns-in-Some-clause-kept
returns-in-Some-clause-kept g c = λ cached b image there.
    subst (λ (l : LruCache ℕ (List ℕ)). Keeps l.entries b image) (sym c.get.follows.holds-at-none)
    (promoted_has c.args.block c.self.inside.blocks.entries b image (subst (λ (es : Blocks). Keeps es b image) (sym c.self.view_is) there))

pub returns-in_err-read_home-clause-kept : goal.returns-in_err-read_home-clause-kept
returns-in_err-read_home-clause-kept g c = λ cached b image there.
    absurd (nothing_kept c.args.block c.self.inside.blocks.entries (sym c.get.ensures.value ∙ sym c.in_default.ensures) (subst (λ (es : Blocks). IsCached es c.args.block) (sym c.self.view_is) cached))

pub returns-clause-kept : goal.returns-clause-kept
returns-clause-kept g c = λ cached b image there.
    absurd (nothing_kept c.args.block c.self.inside.blocks.entries (sym c.get.ensures.value ∙ sym c.in_default.ensures) (subst (λ (es : Blocks). IsCached es c.args.block) (sym c.self.view_is) cached))
