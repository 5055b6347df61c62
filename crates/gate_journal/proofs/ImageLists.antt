-- Images of blocks, each block once.
use Rattle.std.proofs.Common.{◌≡◌, ◌≢◌, ℕ, suc, ◌+◌, ◌<◌, ◌≤◌, Bool, true, false, List, [], ◌∷◌, length, map, get_or, set, take, replicate, inl, inr, sym, ◌∙◌, ap, subst, arith, eqb, below_more}
use Rattle.std.specs.Prelude.{AllPairs}
use Rattle.std.specs.List.{IsDistinct, list_any}
use Rattle.std.proofs.lemmas.Bool.{cases_eq, cases_lt, eqb-true, ne_eqb}
use Rattle.std.proofs.lemmas.List.{get_or_default, get_or_past, get_or-replicate, get_or-set_other, get_or-set_same, get_or-take, length-map, length-replicate, length-set, length-take, take_more, get_or-map}
use Rattle.std.proofs.lemmas.List.Elements.{recursion_from_All}
use Rattle.std.proofs.lemmas.List.Folds.{Any-from_list_any}
use Rattle.std.proofs.lemmas.List.Quantifiers.{all_pairs_push}
use Rattle.std.proofs.lemmas.Map.Steps.{length-le_from_distinct_below}
use Rattle.gate_journal.specs.Image.{Image}
use Rattle.gate_journal.specs.Batch.{AreImages}

abbrev pub none : Image
none = record { block = 0; bytes = [] }

abbrev pub block_of : Image → ℕ
block_of image = image.block

abbrev pub Once : List Image → Type 0
Once images = AllPairs (λ (a b : Image). a.block ≢ b.block) images

-- The table marks just the blocks of the first i images, and none of them stands twice.
pub record IsMarked (images : List Image) (i : ℕ) (seen : List Bool) : Type 0 where
  pub long : length seen ≡ 65536
  pub known : (k : ℕ) → k < i → get_or seen (get_or images k none).block false ≡ true
  pub found : (b : ℕ) → get_or seen b false ≡ true → (k : ℕ) × (k < i) × ((get_or images k none).block ≡ b)
  pub once : Once (take i images)

pub none_marked : (images : List Image) (seen : List Bool) → seen ≡ replicate 65536 false → IsMarked images 0 seen
none_marked images seen is = record {
  long = ap length is ∙ length-replicate 65536 false;
  known = λ k lt. absurd (omega arith);
  found = λ b e. absurd (not_true (sym (ap (λ (l : List Bool). get_or l b false) is ∙ all_false b) ∙ e));
  once = λ i j d before lt. absurd (omega arith);
}
  where
    not_true : false ≡ true → ⊥
    not_true e = cc

    all_false : (b : ℕ) → get_or (replicate 65536 false) b false ≡ false
    all_false b = elim (cases_lt b 65536) [
      | inl lt ↦ get_or-replicate 65536 b false false lt
      | inr le ↦ get_or_past (replicate 65536 false) b false (omega (arith, length-replicate 65536 false))
    ]

module _ (images : List Image) (i : ℕ) (d : Image) (lt : i < length images) (seen : List Bool) (marked : IsMarked images i seen) where
  abbrev pub here : ℕ
  here = (get_or images i d).block

  here_is : (get_or images i none).block ≡ here
  here_is = ap block_of (get_or_default images i none d lt)

  -- a block that isn't marked, and then is
  pub one_marked : here < 65536 → get_or seen here false ≡ false → IsMarked images (i + 1) (set seen here true)
  one_marked within new = record {
    long = length-set seen here true ∙ marked.long;
    known = below_more (λ (k : ℕ). get_or (set seen here true) (get_or images k none).block false ≡ true) i
        (λ k before. elim (cases_eq (get_or images k none).block here) [
          | inl same ↦ ap (λ (b : ℕ). get_or (set seen here true) b false) same ∙ set_here
          | inr other ↦ get_or-set_other seen here (get_or images k none).block true false other ∙ marked.known k before
        ])
        (ap (λ (b : ℕ). get_or (set seen here true) b false) here_is ∙ set_here);
    found = λ b e. elim (cases_eq b here) [
      | inl same ↦ (i, omega arith, here_is ∙ sym same)
      | inr other ↦ (let (k, before, is) = marked.found b (sym (get_or-set_other seen here b true false other) ∙ e) in (k, omega arith, is))
    ];
    once = subst Once (sym (take_more images i d lt))
        (all_pairs_push (λ (a b : Image). a.block ≢ b.block) (take i images) (get_or images i d) marked.once
        (λ k e below same.
        let before : k < i = omega (arith, length-take i images) in
        let there : (get_or images k none).block ≡ here = ap block_of (get_or_default images k none e (omega arith) ∙ sym (get_or-take i images k e before)) ∙ same in
        not_true (sym new ∙ ap (λ (b : ℕ). get_or seen b false) (sym there) ∙ marked.known k before)));
  }
    where
      set_here : get_or (set seen here true) here false ≡ true
      set_here = get_or-set_same seen here true false (omega (arith, marked.long))

      not_true : false ≡ true → ⊥
      not_true e = cc

  -- one that is marked stands twice
  pub not_once : get_or seen here false ≡ true → Once images → ⊥
  not_once is pairs =
      let (k, before, same) = marked.found here is in
      pairs k i none before lt (same ∙ sym here_is)

distinct : (images : List Image) → Once images → IsDistinct eqb (map block_of images)
unfolding IsDistinct
distinct [] pairs = tt
distinct (image ∷ images) pairs = (
  recursion_from_All (λ (b : ℕ). eqb image.block b ≡ false) (map block_of images)
      (λ k d lt. let within : k < length images = omega (arith, length-map images block_of) in
      ne_eqb image.block (get_or (map block_of images) k d) (λ same. pairs 0 (suc k) none (omega arith) (omega arith) (same ∙ get_or-map block_of images k none d within))),
  distinct images (λ i j d before lt. pairs (suc i) (suc j) d (omega arith) (omega arith)),
)

-- there are no more images than blocks
pub length-le_blocks : (blocks : ℕ) (images : List Image) → AreImages blocks images → length images ≤ blocks
length-le_blocks blocks images are =
    let named = map block_of images in
    let below : (q : ℕ) → list_any (eqb q) named ≡ true → q < blocks = λ q found.
    (let (k, x, lt, is, same) = Any-from_list_any (eqb q) named found in
    let within : k < length images = omega (arith, length-map images block_of) in
    let here : q ≡ (get_or images k none).block = eqb-true q x same ∙ sym is ∙ get_or-map block_of images k none x within in
    subst (λ (n : ℕ). n < blocks) (sym here) (are.within k none within)) in
    subst (λ (n : ℕ). n ≤ blocks) (length-map images block_of) (length-le_from_distinct_below named blocks (distinct images are.once) below)
