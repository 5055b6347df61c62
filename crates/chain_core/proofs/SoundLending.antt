-- What holds of a member holds as its log is lent out, and as it is back.
use Rattle.std.proofs.Common.{◌≡◌, ◌∙◌, ℕ, Err, List, Ok, ap, refl, subst, sym}
use Rattle.std.specs.Prelude.{IsSome, MatchResult, None, Option, Result, Some, true}
use Rattle.gate_journal.specs.Batch.{Batch}
use Rattle.gate_journal.specs.Receipt.{Receipt}
use Rattle.gate_journal.specs.declared.refusal.Refusal.{Refusal as JournalRefusal}
use Rattle.local_store.specs.About.{About}
use Rattle.local_store.specs.Away.{batch_of, lent_batch}
use Rattle.local_store.specs.Refusal.{by_journal}
use Rattle.local_store.specs.declared.lent.Lent.{Lent}
use Rattle.local_store.specs.declared.refusal.Refusal.{Refusal}
use Rattle.chain_steps.specs.Node.{Commit, NodeState}
use Rattle.chain_steps.specs.declared.cause.Cause.{Cause}
use Rattle.chain_core.specs.Commits.{cause_of}
use Rattle.chain_core.specs.Node.{IsLentFor, IsSound, Keeping}

-- the commit under way is the one that was lent
pub lent_commit : {P L : Type 0} (lent : Option (Lent P L)) (commit : Option Commit) → IsSome lent → IsLentFor (lent_batch lent) commit
    → commit ≡ Some (record { front = (batch_of lent).front; images = (batch_of lent).images })
lent_commit None commit some of = absurd (cc)
lent_commit (Some l) commit some of = of _ refl

-- a log that is lent for a batch is lent for the commit of it
pub lent_for : (batch : Batch) (commit : Option Commit) → commit ≡ Some (record { front = batch.front; images = batch.images }) → IsLentFor (Some batch) commit
lent_for batch commit same other some = let is : batch ≡ other = cc in subst (λ (b : Batch). commit ≡ Some (record { front = b.front; images = b.images })) is same

module _ (about : About) (keeping : Keeping) (node : NodeState) (is : IsSound about keeping node) where
  -- so it holds with the log there
  pub sound_home : IsSound (record about { lent = None }) keeping node
  sound_home = record {
    slot = is.slot;
    incarnation = is.incarnation;
    front = is.front;
    behind = is.behind;
    ahead = is.ahead;
    limit = is.limit;
    blocks = is.blocks;
    inside = is.inside;
    some = is.some;
    owed = is.owed;
    asked = is.asked;
    found = is.found;
    under_way = λ c here. let way = is.under_way c here in record { above = way.above; known = way.known; images = way.images; room = way.room };
    running = λ still. let was = is.running still in record { whole = was.whole; version = was.version; keeps = was.keeps };
    lent = λ still batch some. absurd (cc);
    resting = is.resting;
    journals = is.journals;
  }

  -- the log is lent for the commit under way, or is there
  pub sound_lent : node.stopped ≡ None → (lent : Option Batch) → IsLentFor lent node.commit → (tells : About) (keeps : List ℕ → Type 0) → tells ≡ record about { lent = lent }
      → (keeping.premise → (volume : List ℕ) → keeping.keeps volume → keeps volume) → (keeping.premise → (one other : List ℕ) → keeps one → keeps other → one ≡ other)
      → IsSound tells (record { premise = keeping.premise; keeps = keeps }) node
  sound_lent runs lent of tells keeps same kept one = subst (λ a. IsSound a (record { premise = keeping.premise; keeps = keeps }) node) (sym same) (record {
    slot = is.slot;
    incarnation = is.incarnation;
    front = is.front;
    behind = is.behind;
    ahead = is.ahead;
    limit = is.limit;
    blocks = is.blocks;
    inside = is.inside;
    some = is.some;
    owed = is.owed;
    asked = is.asked;
    found = is.found;
    under_way = λ c here. let way = is.under_way c here in record { above = way.above; known = way.known; images = way.images; room = way.room };
    running = λ still. let was = is.running still in record { whole = was.whole; version = was.version; keeps = λ premise. let (volume, keep, long) = was.keeps premise in (volume, kept premise volume keep, long) };
    lent = λ still. of;
    resting = is.resting;
    journals = λ premise volume keep.
        let (was, kept_was, long) = (is.running runs).keeps premise in
        is.journals premise volume (subst keeping.keeps (one premise was volume (kept premise was kept_was) keep) kept_was);
  })

  -- a stopped member has its log back
  pub sound_taken_back : (cause : Cause) → node.stopped ≡ Some cause → (tells : About) (keeps : List ℕ → Type 0) → tells ≡ record about { broken = true; lent = None }
      → IsSound tells (record { premise = keeping.premise; keeps = keeps }) node
  sound_taken_back cause stopped tells keeps same = subst (λ a. IsSound a (record { premise = keeping.premise; keeps = keeps }) node) (sym same) (record {
    slot = is.slot;
    incarnation = is.incarnation;
    front = is.front;
    behind = is.behind;
    ahead = is.ahead;
    limit = is.limit;
    blocks = is.blocks;
    inside = is.inside;
    some = is.some;
    owed = is.owed;
    asked = is.asked;
    found = is.found;
    under_way = λ c here. let way = is.under_way c here in record { above = way.above; known = way.known; images = way.images; room = way.room };
    running = λ still. absurd (cc);
    lent = λ still. absurd (cc);
    resting = is.resting;
    journals = λ premise volume keep c here. let none = is.resting cause stopped in absurd (cc);
  })

-- where the store hands a receipt on, the journal gave it
pub told_done : (outcome : Result Receipt JournalRefusal) (result : Result Receipt Refusal) (receipt : Receipt) (given : Option Receipt) (X : JournalRefusal → Type 0)
    → MatchResult outcome (λ r. result ≡ Ok r) (λ refusal. result ≡ Err (by_journal refusal)) → result ≡ Ok receipt → given ≡ Some receipt
    → MatchResult outcome (λ r. given ≡ Some r) (λ refusal. (given ≡ None) × X refusal)
told_done (Ok r) result receipt given X told is gives = cc
told_done (Err refusal) result receipt given X told is gives = absurd (cc)

-- where it is refused, the journal was refused so
pub told_refused : (outcome : Result Receipt JournalRefusal) (result : Result Receipt Refusal) (refusal : Refusal) (given : Option Receipt) (stopped : Option Cause)
    → MatchResult outcome (λ r. result ≡ Ok r) (λ r. result ≡ Err (by_journal r)) → result ≡ Err refusal → given ≡ None → stopped ≡ Some (cause_of refusal)
    → MatchResult outcome (λ r. given ≡ Some r) (λ r. (given ≡ None) × (stopped ≡ Some (cause_of (by_journal r))))
told_refused (Ok r) result refusal given stopped told is none by = absurd (cc)
told_refused (Err r) result refusal given stopped told is none by = let same : refusal ≡ by_journal r = cc in (none, by ∙ ap (λ e. Some (cause_of e)) same)
