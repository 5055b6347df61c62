-- What becomes of a cache's entries.
use Rattle.std.proofs.Common.{◌≡◌, ◌≢◌, ◌⊎◌, ⊎_elim, inl, inr, ℕ, ◌+◌, ◌*◌, ◌≤◌, true, false, nat_eq, List, [], ◌∷◌, length, Option, Some, None, Result, Ok, Err, OnOk, OnErr, Contains, take, drop, refl, sym, ap, subst, ◌∙◌, arith}
use Rattle.std.specs.Prelude.{◌↔◌, IsTrue, IsSome, IsOk}
use Rattle.std.specs.Cmp.{nat_eq_equiv}
use Rattle.std.specs.List.{IsDistinct}
use Rattle.std.specs.Map.{keys_of, lookup, lookup_entry, remove_entry}
use Rattle.std.specs.Option.{is_some, option_map}
use Rattle.std.proofs.lemmas.Bool.{eqb-true, eq-eqb}
use Rattle.std.proofs.lemmas.Bool.Decides.{eqb_tells}
use Rattle.std.proofs.lemmas.Map.Keys.{IsDistinct-head, IsDistinct-tail}
use Rattle.lru.proofs.CallerLemmas.{Contains-lookup, Contains-promoted, Contains-put_entries, lookup-put_entries}
use Rattle.lru.proofs.Matching.{none_found}
use Rattle.lru.proofs.Pairs.{lookup-lookup_entry}
use Rattle.lru.proofs.Splits.{Contains-cons, Contains-head, Contains-nil, Contains-tail, all_at, all_unmap}
use Rattle.lru.specs.LruCache.{LruCache, lru_cache, promoted, put_entries}
use Rattle.disk_model.specs.Disk.{put}
use Rattle.volume.specs.Volumes.{block_of-patched_untouched, range-patched_own}
use Rattle.volume.specs.Writes.{IsTouched, Placed, block_of}
use Rattle.block_cache.specs.Cache.{Agrees, Blocks, IsCached, Keeps}

module _ (block : ℕ) where
  -- a block that was taken out is gone, since it stood there once
  pub removed_differs : (es : Blocks) → IsDistinct nat_eq (keys_of es) → (e : ℕ × List ℕ) → Contains (remove_entry (nat_eq block) es) e → e.0 ≡ block → ⊥
  removed_differs [] distinct e c same = absurd (Contains-nil e c)
  removed_differs (f ∷ es) distinct e c same = (elim (nat_eq block f.0) as (λ y. nat_eq block f.0 ≡ y → ⊥) [
    | true ↦ λ t.
        let rest : Contains es e = rw t at c in
        let others = all_unmap (λ (g : ℕ × List ℕ). g.0) (λ k. nat_eq f.0 k ≡ false) es (IsDistinct-head nat_eq f.0 (keys_of es) distinct) in
        let apart = all_at (λ (g : ℕ × List ℕ). nat_eq f.0 g.0 ≡ false) es e others rest in
        let is = eq-eqb f.0 e.0 (sym (eqb-true block f.0 t) ∙ sym same) in
        let both : true ≡ false = sym is ∙ apart in
        cc both
    | false ↦ λ t. elim (Contains-cons f (remove_entry (nat_eq block) es) e (rw t at c)) [
      | inl is ↦
          let found = eq-eqb block f.0 (sym (ap (λ (g : ℕ × List ℕ). g.0) is ∙ same)) in
          let both : true ≡ false = sym found ∙ t in
          cc both
      | inr rest ↦ removed_differs es (IsDistinct-tail nat_eq f.0 (keys_of es) distinct) e rest same
    ]
  ]) refl

  -- and the others stay
  pub removed_keeps : (es : Blocks) (e : ℕ × List ℕ) → e.0 ≢ block → Contains es e → Contains (remove_entry (nat_eq block) es) e
  removed_keeps [] e apart c = c
  removed_keeps (f ∷ es) e apart c = (elim (nat_eq block f.0) as (λ y. nat_eq block f.0 ≡ y → Contains (remove_entry (nat_eq block) (f ∷ es)) e) [
    | true ↦ λ t. elim (Contains-cons f es e c) [
      | inl is ↦ absurd (apart (sym (eqb-true block f.0 t ∙ ap (λ (g : ℕ × List ℕ). g.0) is)))
      | inr rest ↦ rw t rest
    ]
    | false ↦ λ t. elim (Contains-cons f es e c) [
      | inl is ↦ rw t (subst (Contains (f ∷ remove_entry (nat_eq block) es)) is (Contains-head f (remove_entry (nat_eq block) es)))
      | inr rest ↦ rw t (Contains-tail f (remove_entry (nat_eq block) es) e (removed_keeps es e apart rest))
    ]
  ]) refl

  -- what is taken out and put in front is kept, as are the others
  pub fronted_keeps : (es : Blocks) (e f : ℕ × List ℕ) → lookup_entry (nat_eq block) es ≡ Some f → Contains es e → Contains (f ∷ remove_entry (nat_eq block) es) e
  fronted_keeps [] e f is c = absurd (Contains-nil e c)
  fronted_keeps (g ∷ es) e f is c = (elim (nat_eq block g.0) as (λ y. nat_eq block g.0 ≡ y → Contains (f ∷ remove_entry (nat_eq block) (g ∷ es)) e) [
    | true ↦ λ t. let is' = rw t at is in let same : g ≡ f = cc in rw t (subst (λ (h : ℕ × List ℕ). Contains (h ∷ es) e) same c)
    | false ↦ λ t. let is' = rw t at is in elim (Contains-cons g es e c) [
      | inl same ↦ rw t (Contains-tail f (g ∷ remove_entry (nat_eq block) es) e (subst (Contains (g ∷ remove_entry (nat_eq block) es)) same (Contains-head g (remove_entry (nat_eq block) es))))
      | inr rest ↦ elim (Contains-cons f (remove_entry (nat_eq block) es) e (fronted_keeps es e f is' rest)) [
        | inl same ↦ rw t (subst (Contains (f ∷ g ∷ remove_entry (nat_eq block) es)) same (Contains-head f (g ∷ remove_entry (nat_eq block) es)))
        | inr stays ↦ rw t (Contains-tail f (g ∷ remove_entry (nat_eq block) es) e (Contains-tail g (remove_entry (nat_eq block) es) e stays))
      ]
    ]
  ]) refl

  -- what a look-up finds is kept
  pub looked_up : (es : Blocks) (bytes : List ℕ) → lookup (nat_eq block) es ≡ Some bytes → Keeps es block bytes
  looked_up es bytes is =
      let (k, there, same) = Contains-lookup (nat_eq block) es bytes is in
      subst (λ (b : ℕ). Keeps es b bytes) (sym (eqb-true block k same)) there

  -- and where it finds nothing, nothing is
  pub nothing_kept : (es : Blocks) → lookup (nat_eq block) es ≡ None → IsCached es block → ⊥
  nothing_kept es none (bytes, there) =
      let both : true ≡ false = sym (eq-eqb block block refl) ∙ none_found (nat_eq block) es none (block, bytes) there in
      cc both

  found_cases : (es : Blocks) (found : Option (List ℕ)) → lookup (nat_eq block) es ≡ found → IsTrue (is_some found) ↔ IsCached es block
  found_cases es None is = (λ no. cc no, λ cached. absurd (nothing_kept es is cached))
  found_cases es (Some bytes) is = (λ _. (bytes, looked_up es bytes is), λ _. refl)

  pub found_is_cached : (es : Blocks) → IsTrue (is_some (lookup (nat_eq block) es)) ↔ IsCached es block
  found_is_cached es = found_cases es (lookup (nat_eq block) es) refl

-- what a put leaves, whether memory was found or not
module _ (old new : LruCache ℕ (List ℕ)) (block : ℕ) (bytes : List ℕ) where
  abbrev After : Type 0
  After = new ≡ lru_cache (put_entries nat_eq old block bytes) old.cap

  none_cached : lookup_entry (nat_eq block) old.entries ≡ None → IsCached old.entries block → ⊥
  none_cached is cached = nothing_kept block old.entries (sym (lookup-lookup_entry (nat_eq block) old.entries) ∙ ap (option_map (λ (e : ℕ × List ℕ). e.1)) is) cached

  once_cases : (found : Option (ℕ × List ℕ)) → lookup_entry (nat_eq block) old.entries ≡ found → IsDistinct nat_eq (keys_of old.entries) → IsCached old.entries block → (image : List ℕ)
      → Contains (put_entries nat_eq old block bytes) (block, image) → image ≡ bytes
  once_cases None is distinct cached image there = absurd (none_cached is cached)
  once_cases (Some f) is distinct cached image there = elim (Contains-cons (f.0, bytes) (remove_entry (nat_eq block) old.entries) (block, image) (rw is at there)) [
    | inl same ↦ sym (ap (λ (e : ℕ × List ℕ). e.1) same)
    | inr rest ↦ absurd (removed_differs block old.entries distinct (block, image) rest refl)
  ]

  others_cases : (found : Option (ℕ × List ℕ)) → lookup_entry (nat_eq block) old.entries ≡ found → IsCached old.entries block → (b : ℕ) (image : List ℕ) → b ≢ block
      → Keeps old.entries b image → Keeps (put_entries nat_eq old block bytes) b image
  others_cases None is cached b image apart there = absurd (none_cached is cached)
  others_cases (Some f) is cached b image apart there = rw is (Contains-tail (f.0, bytes) (remove_entry (nat_eq block) old.entries) (b, image) (removed_keeps block old.entries (b, image) apart there))

  module _ {T E : Type 0} where
    pub put_keeps : (result : Result T E) → OnOk result After → OnErr result (new ≡ old)
        → (b : ℕ) (image : List ℕ) → Keeps new.entries b image → Keeps old.entries b image ⊎ ((b ≡ block) × (image ≡ bytes))
    put_keeps (Err e) ok err b image there = inl (subst (λ (c : LruCache ℕ (List ℕ)). Keeps c.entries b image) err there)
    put_keeps (Ok v) ok err b image there = elim (Contains-put_entries nat_eq old block bytes (b, image) (subst (λ (c : LruCache ℕ (List ℕ)). Keeps c.entries b image) ok there)) [
      | inl was ↦ inl was
      | inr (is, either) ↦ inr (⊎_elim (λ same. same) (λ (w, was, passes). sym (eqb-true block b passes)) either, is)
    ]

    pub put_others : (result : Result T E) → OnOk result After → OnErr result (new ≡ old) → IsCached old.entries block
        → (b : ℕ) (image : List ℕ) → b ≢ block → Keeps old.entries b image → Keeps new.entries b image
    put_others (Err e) ok err cached b image apart there = subst (λ (c : LruCache ℕ (List ℕ)). Keeps c.entries b image) (sym err) there
    put_others (Ok v) ok err cached b image apart there = subst (λ (c : LruCache ℕ (List ℕ)). Keeps c.entries b image) (sym ok) (others_cases (lookup_entry (nat_eq block) old.entries) refl cached b image apart there)

    pub put_renews : (result : Result T E) → OnOk result After → (IsSome (lookup (nat_eq block) old.entries) → IsOk result) → IsCached old.entries block → Keeps new.entries block bytes
    put_renews (Err e) ok succeeds cached = cc (succeeds ((found_is_cached block old.entries).1 cached))
    put_renews (Ok v) ok succeeds cached =
        subst (λ (c : LruCache ℕ (List ℕ)). Keeps c.entries block bytes) (sym ok) (looked_up block (put_entries nat_eq old block bytes) bytes (lookup-put_entries nat_eq old block bytes nat_eq_equiv))

    pub put_once : (result : Result T E) → OnOk result After → (IsSome (lookup (nat_eq block) old.entries) → IsOk result) → IsDistinct nat_eq (keys_of old.entries) → IsCached old.entries block
        → (image : List ℕ) → Keeps new.entries block image → image ≡ bytes
    put_once (Err e) ok succeeds distinct cached image there = cc (succeeds ((found_is_cached block old.entries).1 cached))
    put_once (Ok v) ok succeeds distinct cached image there =
        once_cases (lookup_entry (nat_eq block) old.entries) refl distinct cached image (subst (λ (c : LruCache ℕ (List ℕ)). Keeps c.entries block image) ok there)

-- a block that was looked up goes first
pub promoted_keeps : (block : ℕ) (es : Blocks) (b : ℕ) (image : List ℕ) → Keeps (promoted (nat_eq block) es) b image → Keeps es b image
promoted_keeps block es b image there = Contains-promoted (nat_eq block) es (b, image) there

promoted_cases : (block : ℕ) (es : Blocks) (found : Option (ℕ × List ℕ)) → lookup_entry (nat_eq block) es ≡ found → (b : ℕ) (image : List ℕ) → Keeps es b image → Keeps (promoted (nat_eq block) es) b image
promoted_cases block es None is b image there = rw is there
promoted_cases block es (Some f) is b image there = rw is (fronted_keeps block es (b, image) f is there)

-- and the others stay behind it
pub promoted_has : (block : ℕ) (es : Blocks) (b : ℕ) (image : List ℕ) → Keeps es b image → Keeps (promoted (nat_eq block) es) b image
promoted_has block es b image there = promoted_cases block es (lookup_entry (nat_eq block) es) refl b image there

-- bytes written over a block, and the other blocks
module _ (home : List ℕ) (block : ℕ) (bytes : List ℕ) (whole : length bytes ≡ 4096) (room : 4096 * (block + 1) ≤ length home) where
  abbrev written : Placed
  written = record { offset = 4096 * block; bytes = bytes }

  fits : 4096 * block + length bytes ≤ length home
  fits = omega arith

  own_block : block_of (put home (4096 * block) bytes) block ≡ bytes
  unfolding block_of
  own_block = ap (λ (n : ℕ). take n (drop (4096 * block) (put home (4096 * block) bytes))) (sym whole) ∙ range-patched_own home written fits

  untouched : (b : ℕ) → b ≢ block → IsTouched written b → ⊥
  untouched b apart (ahead, behind, some) = let same : b ≡ block = omega arith in apart same

  other_block : (b : ℕ) → b ≢ block → block_of (put home (4096 * block) bytes) b ≡ block_of home b
  other_block b apart = block_of-patched_untouched home written b fits (untouched b apart)

  -- a cache that keeps nothing old of the block agrees with what was written
  pub renewed_agrees : (old new : Blocks) → ((b : ℕ) (image : List ℕ) → Keeps new b image → Keeps old b image ⊎ ((b ≡ block) × (image ≡ bytes)))
      → ((image : List ℕ) → Keeps new block image → image ≡ bytes) → Agrees old home → Agrees new (put home (4096 * block) bytes)
  renewed_agrees old new kept once agrees b image there = elim (eqb_tells b block) [
    | inl (_, same) ↦ subst (λ (k : ℕ). image ≡ block_of (put home (4096 * block) bytes) k) (sym same) (once image (subst (λ (k : ℕ). Keeps new k image) same there) ∙ sym own_block)
    | inr (_, apart) ↦ ⊎_elim (λ was. agrees b image was) (λ (same, is). absurd (apart same)) (kept b image there) ∙ sym (other_block b apart)
  ]
