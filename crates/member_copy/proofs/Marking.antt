-- Blocks are marked that writes touch.
use Rattle.std.proofs.Common.{◌≡◌, ◌∙◌, ap, inl, inr, ℕ, ◌+◌, ◌-◌, ◌*◌, ◌≤◌, List, length, refl, sym, subst, arith}
use Rattle.volume.specs.Volumes.{length-patched}
use Rattle.volume.specs.Writes.{Fits, Placed, patched}
use Rattle.rejoin_catchup.specs.Sending.{AreMarked, IsCopy, Sending}
use Rattle.chain_steps.specs.Node.{NodeState}
use Rattle.chain_steps.specs.Steps.{volume_at}
use Rattle.member_copy.specs.Noting.{HasMarked}

-- what is so of each copy of what a volume is at the front, behind the writes up to a number
pub record HasCopied (node : NodeState) (from n : ℕ) (start now : Sending) (volume : List ℕ) : Type 0 where
  pub long : length (volume_at volume node n) ≡ 4096 * length start.marks
  pub copies : (copy : List ℕ) → IsCopy start (volume_at volume node from) copy → IsCopy now (volume_at volume node n) copy

abbrev pub HaveCopied : NodeState → ℕ → ℕ → Sending → Sending → Type 0
HaveCopied node from n start now = (volume : List ℕ) → length (volume_at volume node from) ≡ 4096 * length start.marks → HasCopied node from n start now volume

module _ (node : NodeState) (from : ℕ) (start : Sending) where
  pub marked_none : HasMarked node from from start start
  marked_none = record { given = refl; blocks = refl; marked = λ block is. inl is }

  pub copied_none : HaveCopied node from from start start
  copied_none volume long = record { long = long; copies = λ copy was. was }

  module _ (n : ℕ) (s new : Sending) (w : Placed) (is : (volume : List ℕ) → volume_at volume node (n + 1) ≡ patched (volume_at volume node (n + 1 - 1)) w) where
    pub marked_more : from ≤ n → AreMarked w s new → HasMarked node from n start s → HasMarked node from (n + 1) start new
    marked_more above marks was = record {
      given = marks.given ∙ was.given;
      blocks = marks.blocks ∙ was.blocks;
      marked = λ block now. elim ((marks.marked block).0 now) [
        | inl before ↦ elim (was.marked block before) [
          | inl first ↦ inl first
          | inr (given, m, by) ↦ inr (given, m, record { write = by.write; behind = by.behind; upto = omega (arith, by.upto); is = by.is; touched = by.touched })
        ]
        | inr (given, touched) ↦ inr (omega (arith, given, was.given), n + 1, record { write = w; behind = omega (arith, above); upto = omega arith; is = is; touched = touched })
      ];
    }

    -- behind it the volume is the one before it, patched
    next : (volume : List ℕ) → volume_at volume node (n + 1) ≡ patched (volume_at volume node n) w
    next volume = let e : n + 1 - 1 ≡ n = omega arith in is volume ∙ ap (λ (m : ℕ). patched (volume_at volume node m) w) e

    pub copied_more : (size : ℕ) → 4096 * length start.marks ≡ size → Fits size w → length s.marks ≡ length start.marks
        → ((volume copy : List ℕ) → length volume ≡ 4096 * length s.marks → IsCopy s volume copy → IsCopy new (patched volume w) copy) → HaveCopied node from n start s → HaveCopied node from (n + 1) start new
    copied_more size sized fits many copies was volume long =
        let so_far = was volume long in
        record {
          long = ap (λ (v : List ℕ). length v) (next volume) ∙ length-patched (volume_at volume node n) w (omega (arith, fits, so_far.long, sized)) ∙ so_far.long;
          copies = λ copy first. subst (λ (v : List ℕ). IsCopy new v copy) (sym (next volume)) (copies (volume_at volume node n) copy (so_far.long ∙ ap (λ (m : ℕ). 4096 * m) (sym many)) (so_far.copies copy first));
        }
