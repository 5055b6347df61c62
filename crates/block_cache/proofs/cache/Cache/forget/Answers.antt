use Rattle.std.proofs.Common.{◌≢◌, ◌∙◌, ℕ, List, nat_eq, refl, sym, subst}
use Rattle.std.specs.List.{IsDistinct}
use Rattle.std.specs.Map.{keys_of, remove_entry}
use Rattle.lru.proofs.CallerLemmas.{Contains-remove_entry}
use Rattle.lru.specs.LruCache.{LruCache}
use Rattle.block_cache.specs.Cache.{Blocks, Keeps}
use Rattle.block_cache.proofs.Entries.{removed_differs, removed_keeps}
use Rattle.block_cache.proofs.cache.Cache.forget.Goals as goal

pub returns-then-contains-clause-agrees : goal.returns-then-contains-clause-agrees
returns-then-contains-clause-agrees c = λ home new same agrees b bytes there.
    let es = c.self.inside.blocks.entries in
    let rest : Keeps (remove_entry (nat_eq c.args.block) es) b bytes = subst (λ (l : LruCache ℕ (List ℕ)). Keeps l.entries b bytes) c.pop-gone.ensures.entries there in
    let distinct = subst (λ (l : Blocks). IsDistinct nat_eq (keys_of l)) (sym c.self.view_is) c.contains.ensures.once in
    let was : Keeps es b bytes = Contains-remove_entry (nat_eq c.args.block) es (b, bytes) rest in
    agrees b bytes (subst (λ (l : Blocks). Keeps l b bytes) c.self.view_is was) ∙ sym (same b (removed_differs c.args.block es distinct (b, bytes) rest))

pub returns-then-contains-clause-gone : goal.returns-then-contains-clause-gone
returns-then-contains-clause-gone c = λ (bytes, there).
    let es = c.self.inside.blocks.entries in
    let rest : Keeps (remove_entry (nat_eq c.args.block) es) c.args.block bytes = subst (λ (l : LruCache ℕ (List ℕ)). Keeps l.entries c.args.block bytes) c.pop-gone.ensures.entries there in
    let distinct = subst (λ (l : Blocks). IsDistinct nat_eq (keys_of l)) (sym c.self.view_is) c.contains.ensures.once in
    removed_differs c.args.block es distinct (c.args.block, bytes) rest refl

pub returns-then-contains-clause-others : goal.returns-then-contains-clause-others
returns-then-contains-clause-others c = λ b bytes apart there.
    subst (λ (l : LruCache ℕ (List ℕ)). Keeps l.entries b bytes) (sym c.pop-gone.ensures.entries)
    (removed_keeps c.args.block c.self.inside.blocks.entries (b, bytes) apart (subst (λ (l : Blocks). Keeps l b bytes) (sym c.self.view_is) there))

pub returns-else-contains-clause-agrees : goal.returns-else-contains-clause-agrees
returns-else-contains-clause-agrees c = λ home new same agrees b bytes there.
    let apart : b ≢ c.args.block = λ is.
    let found = c.contains.ensures.contains.1 (bytes, subst (λ (k : ℕ). Keeps c.args.self.now k bytes) is there) in
    absurd (cc (found, c.if-contains.false)) in
    agrees b bytes there ∙ sym (same b apart)
