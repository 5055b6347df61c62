-- What holds of a member holds after reads of its store.
use Rattle.std.proofs.Common.{◌≡◌, ◌∙◌, ℕ, List, None, ap, length, map, subst, sym}
use Rattle.std.specs.Prelude.{filter, not}
use Rattle.std.proofs.lemmas.List.Elements.{All-filter}
use Rattle.local_store.specs.About.{About}
use Rattle.chain_steps.specs.Node.{NodeState}
use Rattle.chain_steps.specs.Waiting.{IsOf, bound, is_read}
use Rattle.chain_core.proofs.Sound.{All-kept, asked_bound, own_bound, sound_idle, sound_waiting}
use Rattle.chain_core.specs.Node.{IsSound, IsAskedInside, Keeping, size_of}

module _ (about : About) (keeping : Keeping) (node : NodeState) (is : IsSound about keeping node) (runs : node.stopped ≡ None) where
  -- a volume that a store keeps, which keeps one at most, has its size
  pub kept_size : (keeping.premise → (one other : List ℕ) → keeping.keeps one → keeping.keeps other → one ≡ other) → keeping.premise → (volume : List ℕ) → keeping.keeps volume → length volume ≡ size_of about
  kept_size one here volume kept = let (was, keeps, long) = (is.running runs).keeps here in ap length (one here volume was kept keeps) ∙ long

  -- the store tells the same, and keeps what it kept
  pub sound_read : (tells : About) (keeps : List ℕ → Type 0) → tells ≡ about → (keeping.premise → (volume : List ℕ) → keeping.keeps volume → keeps volume)
      → (keeping.premise → (one other : List ℕ) → keeps one → keeps other → one ≡ other) → IsSound tells (record { premise = keeping.premise; keeps = keeps }) node
  sound_read tells keeps same kept one = subst (λ a. IsSound a (record { premise = keeping.premise; keeps = keeps }) node) (sym same) (record {
    slot = is.slot;
    incarnation = is.incarnation;
    front = is.front;
    behind = is.behind;
    ahead = is.ahead;
    limit = is.limit;
    blocks = is.blocks;
    inside = is.inside;
    some = is.some;
    owed = is.owed;
    asked = is.asked;
    resting = is.resting;
    found = is.found;
    under_way = is.under_way;
    running = λ still. let was = is.running still in record { whole = was.whole; version = was.version; keeps = λ here. let (volume, keep, long) = was.keeps here in (volume, kept here volume keep, long) };
    lent = is.lent;
    journals = λ here volume keep.
        let (was, kept_was, long) = (is.running runs).keeps here in
        is.journals here volume (subst keeping.keeps (one here was volume (kept here was kept_was) keep) kept_was);
  })

-- READs were answered, FLUSHes bound, and no front is kept
pub sound_answered : (about : About) (keeping : Keeping) (node : NodeState) → IsSound about keeping node → (n : ℕ) → IsSound about keeping (record node { waiting = map (bound n) (filter (λ w. not (is_read w)) node.waiting); found = None })
sound_answered about keeping node is n =
    let others = filter (λ w. not (is_read w)) node.waiting in
    sound_idle about keeping (record node { waiting = map (bound n) others })
    (sound_waiting about keeping node is (map (bound n) others)
    (All-kept (IsOf node.board) (bound n) (own_bound node.board n) others (All-filter (λ w. not (is_read w)) (IsOf node.board) node.waiting is.owed))
    (All-kept (IsAskedInside (size_of about)) (bound n) (asked_bound (size_of about) n) others (All-filter (λ w. not (is_read w)) (IsAskedInside (size_of about)) node.waiting is.asked)))
