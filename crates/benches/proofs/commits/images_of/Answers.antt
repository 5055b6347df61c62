use Rattle.std.proofs.Common.{◌≡◌, ◌+◌, ◌<◌, ◌++◌, ◌∷◌, [], ℕ, List, get_or, inl, inr, length, ap, sym, ◌∙◌, arith}
use Rattle.std.proofs.lemmas.Bool.{cases_lt}
use Rattle.std.proofs.lemmas.List.{get_or_append_left, get_or_push, length-append}
use Rattle.gate_journal.specs.Image.{Image}
use Rattle.benches.proofs.commits.images_of.Goals as goal

-- the images of blocks in turn, and the next
one_more : (images new : List Image) (image : Image) (first n : ℕ) → new ≡ images ++ image ∷ [] → length images ≡ n → image.block ≡ first + n
    → ((k : ℕ) (d : Image) → k < n → (get_or images k d).block ≡ first + k) → (k : ℕ) (d : Image) → k < n + 1 → (get_or new k d).block ≡ first + k
one_more images new image first n is many next blocks k d below =
    let at = ap (λ (l : List Image). (get_or l k d).block) is in
    elim (cases_lt k n) [
      | inl before ↦ at ∙ ap (λ (i : Image). i.block) (get_or_append_left images (image ∷ []) d k (omega (arith, before, many))) ∙ blocks k d before
      | inr last ↦
          let same : k ≡ n = omega (arith, below, last) in
          at ∙ ap (λ (i : Image). i.block) (get_or_push images image d k (many ∙ sym same)) ∙ next ∙ ap (λ (m : ℕ). first + m) (sym same)
    ]

pub loop-index-init : goal.loop-index-init
loop-index-init c = record { many = ap length c.in_ok-images.ensures.items; blocks = λ k d below. absurd (omega (arith, below)) }

pub loop-index-preserved : goal.loop-index-preserved
loop-index-preserved c =
    record {
      many = ap length c.in_ok-push.ensures.items ∙ length-append c.loop-index.images.items _ ∙ ap (λ (n : ℕ). n + 1) c.loop-index.invariant.many;
      blocks = one_more c.loop-index.images.items c.push.new.self.items _ c.args.first c.loop-index.index c.in_ok-push.ensures.items c.loop-index.invariant.many (ap (λ (i : Image). i.block) c.new.ensures) c.loop-index.invariant.blocks;
    }

pub returns : goal.returns
returns c =
    let many = c.loop-index.invariant.many in
    let blocks = c.loop-index.invariant.blocks in
    record {
      images = record {
        some = omega (arith, many, c.requires.some, c.loop-index-test.false);
        within = λ k d below. omega (arith, blocks k d (omega (arith, many, below)), c.requires.within, many, below, c.loop-index-test.false);
        once = λ i j d before within same. omega (arith, blocks i d (omega (arith, many, before, within)), blocks j d (omega (arith, many, within)), same, before);
      };
    }
