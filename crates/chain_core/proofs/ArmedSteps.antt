-- What holds of a member holds when its store is another that tells and keeps the same.
use Rattle.std.proofs.Common.{◌≡◌, ℕ, List, refl, subst, sym}
use Rattle.std.specs.Prelude.{None, Option, Some}
use Rattle.std.specs.Option.{ForSome}
use Rattle.local_store.specs.About.{About}
use Rattle.version_table.specs.Held.{writes_upto}
use Rattle.chain_steps.specs.Node.{Commit, NodeState}
use Rattle.chain_steps.specs.Steps.{AreImagesOf}
use Rattle.chain_steps.specs.declared.cause.Cause.{Cause}
use Rattle.chain_core.specs.Node.{IsSound, Keeping}

none_journaled : (P : Commit → Type 0) (commit : Option Commit) → commit ≡ None → ForSome commit P
none_journaled P commit none c here = absurd (cc)

module _ (about : About) (keeping : Keeping) (node : NodeState) (is : IsSound about keeping node) (tells : About) (keeps : List ℕ → Type 0) (same : tells ≡ about)
    (kept : (volume : List ℕ) → keeping.keeps volume → keeps volume) (one : keeping.premise → (one other : List ℕ) → keeps one → keeps other → one ≡ other) where
  -- the commit under way, by whether the member runs
  journals_by : (stopped : Option Cause) → node.stopped ≡ stopped → keeping.premise → (volume : List ℕ) → keeps volume
      → ForSome node.commit (λ commit. AreImagesOf volume (writes_upto node.table commit.front) commit.images)
  journals_by None runs premise volume keep =
      let (was, kept_was, long) = (is.running runs).keeps premise in
      is.journals premise volume (subst keeping.keeps (one premise was volume (kept was kept_was) keep) kept_was)
  journals_by (Some cause) stopped premise volume keep = none_journaled _ node.commit (is.resting cause stopped)

  pub sound_armed : IsSound tells (record { premise = keeping.premise; keeps = keeps }) node
  sound_armed = subst (λ a. IsSound a (record { premise = keeping.premise; keeps = keeps }) node) (sym same) (record {
    slot = is.slot;
    incarnation = is.incarnation;
    front = is.front;
    behind = is.behind;
    ahead = is.ahead;
    limit = is.limit;
    blocks = is.blocks;
    inside = is.inside;
    some = is.some;
    owed = is.owed;
    asked = is.asked;
    found = is.found;
    under_way = is.under_way;
    running = λ still. let was = is.running still in record { whole = was.whole; version = was.version; keeps = λ premise. let (volume, keep, long) = was.keeps premise in (volume, kept volume keep, long) };
    lent = is.lent;
    resting = is.resting;
    journals = journals_by node.stopped refl;
  })
