-- What a stop at any moment of a call leaves that takes a write or a FLUSH, or refuses it: its store isn't touched.
use Rattle.std.proofs.Common.{◌≡◌, ℕ, List, refl, ap, sym, subst, ◌∙◌, inl, inr}
use Rattle.std.specs.Prelude.{Some, slice_get, slice_set}
use Rattle.disk_model.specs.Disk.{LeavesOnly}
use Rattle.disk_model.specs.Moments.{started}
use Rattle.flush_barrier.specs.Owed.{OwedAt}
use Rattle.flush_barrier.specs.Reply.{GivenReply}
use Rattle.local_store.specs.About.{About, meaning_with}
use Rattle.local_store.specs.Meaning.{Means}
use Rattle.volume.specs.Writes.{Placed}
use Rattle.chain_core.specs.Node.{IsRefusedBy}
use Rattle.chain_core.specs.Node as core
use Rattle.chain_core.specs.declared.refusal.Refusal.{Refusal}
use Rattle.chain_core.specs.declared.refusal.Refusal.TheVariants as refusals
use Rattle.chain_steps.specs.Node.{Stepped}
use Rattle.chain_steps.specs.Steps.{submit}
use Rattle.chain_steps.specs.declared.waiting.WriteToken.{WriteToken}
use Rattle.chain.specs.Asking.{HasFlushed, HasSubmitted, IsTurnedAway}
use Rattle.chain.specs.Chain.{Chained, Changes}
use Rattle.chain.specs.Commits.{LeavesAt}
use Rattle.chain.specs.Member.{IsLeft, Linked}
use Rattle.chain.proofs.Cells.{set_there}

module _ {S : Type 0} where
  -- the member has the store that it had
  abbrev SameStore : Linked S → Linked S → Type 0
  SameStore before after = after.node.store ≡ before.node.store

  refused_same : (Stops : Type 0) (stepped : Stepped) (old new : core.Seen S) (replies : List GivenReply) (refusal : Refusal) → IsRefusedBy Stops stepped old new replies refusal → new.store ≡ old.store
  refused_same Stops stepped old new replies refusals.Memory is = ap (λ n. n.store) is.1.node
  refused_same Stops stepped old new replies refusals.NotMember is = ap (λ n. n.store) is.1.node
  refused_same Stops stepped old new replies refusals.Stopped (inl is) = ap (λ n. n.store) is.1.node
  refused_same Stops stepped old new replies refusals.Stopped (inr (ran, may, is)) = ap (λ n. n.store) is.node
  refused_same Stops stepped old new replies refusals.Full is = absurd is
  refused_same Stops stepped old new replies refusals.Early is = absurd is
  refused_same Stops stepped old new replies refusals.Busy is = absurd is

  pub away_same : (Stops : Type 0) (stepped : Stepped) (replies : List GivenReply) (refusal : Refusal) (m n : Linked S) → IsTurnedAway Stops stepped replies refusal m n → SameStore m n
  away_same Stops stepped replies refusal m n (inl (refused, are)) = refused_same Stops stepped m.node n.node replies refusal refused
  away_same Stops stepped replies refusal m n (inr cannot) = ap (λ (x : Linked S). x.node.store) cannot.same

  pub flushed_same : (token : OwedAt) (m n : Linked S) → HasFlushed token m n → SameStore m n
  flushed_same token m n did = ap (λ (x : Linked S). x.node.store) did.are

  module _ (about : S → About) (keeps : S → List ℕ → Type 0) (may_leave_now : S → List ℕ → Type 0) (moment : S → ℕ) (left_since : S → ℕ → List ℕ → Type 0)
      (means_now : (store : S) (volume c : List ℕ) → keeps store volume → may_leave_now store c → Means (meaning_with (about store) volume) c)
      (only_now : (store : S) (c : List ℕ) → left_since store (moment store) c → may_leave_now store c) (at : ℕ) (old new : Chained S) where
    store_at : (before after : Linked S) → slice_get old.members at ≡ Some before → new.members ≡ slice_set old.members at after → SameStore before after → LeavesAt about keeps may_leave_now moment left_since at old new
    store_at before after here members is = record {
      before = before;
      after = after;
      here = here;
      there = ap (λ ms. slice_get ms at) members ∙ set_there old.members at before after here;
      means = λ volume keep. subst (λ (s : S). LeavesOnly moment left_since before.node.store s (Means (meaning_with (about before.node.store) volume))) (sym is)
          (started moment left_since before.node.store (Means (meaning_with (about before.node.store) volume)) (λ c left. means_now before.node.store volume c keep (only_now before.node.store c left)));
      leaves = λ shown so. subst (λ (s : S). LeavesOnly moment left_since before.node.store s (IsLeft (about before.node.store) shown.volume before.node.state)) (sym is)
          (started moment left_since before.node.store (IsLeft (about before.node.store) shown.volume before.node.state) (λ c left. so.left c (only_now before.node.store c left)));
    }

    pub store_stays : (Did : Linked S → Linked S → Type 0) → ((m n : Linked S) → Did m n → SameStore m n) → Changes at old new Did → LeavesAt about keeps may_leave_now moment left_since at old new
    store_stays Did same changes = store_at changes.before changes.after changes.here (ap (λ (c : Chained S). c.members) changes.are) (same changes.before changes.after changes.did)

    pub submitted_stays : (token : WriteToken) (write : Placed) → HasSubmitted at token write old new → LeavesAt about keeps may_leave_now moment left_since at old new
    submitted_stays token write did =
        store_at did.before (record did.before { node = record { store = did.before.node.store; state = (submit token write did.before.node.state).node } }) did.here (ap (λ (c : Chained S). c.members) did.are) refl
