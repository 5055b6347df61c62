-- A store that is read, call by call.
use Rattle.std.proofs.Common.{◌≡◌, ℕ, ◌<◌, List, refl, subst, sym, ap, ◌∙◌, true}
use Rattle.disk_model.specs.Disk.{LeavesOnly}
use Rattle.disk_model.specs.Moments.{started, then_run}
use Rattle.disk_model.specs.declared.error.DiskError.{DiskError}
use Rattle.local_store.specs.About.{About, meaning_with}
use Rattle.local_store.specs.Meaning.{Means}
use Rattle.chain_core.specs.Reads.{AreUnread, HasFailed, HasOnlyRead}
use Rattle.chain_core.specs.declared.reading.Unread.{Unread}
use Rattle.chain_core.specs.declared.reading.Unread.TheVariants as unread

module _ {S : Type 0} {premise : Type 0} (about : S → About) (keeps : S → List ℕ → Type 0) (moment : S → ℕ) (left_since : S → ℕ → List ℕ → Type 0) (may_leave : S → List ℕ → Type 0)
    (means_now : premise → (store : S) (volume c : List ℕ) → keeps store volume → may_leave store c → Means (meaning_with (about store) volume) c)
    (only_now : premise → (store : S) (c : List ℕ) → left_since store (moment store) c → may_leave store c) (old : S) where
  -- no read yet
  pub run_first : premise → (volume : List ℕ) → keeps old volume → LeavesOnly moment left_since old old (Means (meaning_with (about old) volume))
  run_first here volume kept = started moment left_since old (Means (meaning_with (about old) volume)) (λ c left. means_now here old volume c kept (only_now here old c left))

  pub first : (failures : S → ℕ) → HasOnlyRead premise about failures keeps moment left_since old old
  first failures = record { tells = refl; fails = refl; kept = λ here volume kept. kept; run = run_first }

module _ {S : Type 0} {premise : Type 0} {about : S → About} {failures : S → ℕ} {keeps : S → List ℕ → Type 0} {moment : S → ℕ} {left_since : S → ℕ → List ℕ → Type 0} where
  module _ {old mid : S} (so_far : HasOnlyRead premise about failures keeps moment left_since old mid) (new : S) where
    -- one more run
    pub run_more : (premise → (volume : List ℕ) → keeps mid volume → LeavesOnly moment left_since mid new (Means (meaning_with (about mid) volume)))
        → premise → (volume : List ℕ) → keeps old volume → LeavesOnly moment left_since old new (Means (meaning_with (about old) volume))
    run_more run here volume kept =
        then_run moment left_since old mid new (Means (meaning_with (about old) volume)) (so_far.run here volume kept)
        (subst (λ tells. LeavesOnly moment left_since mid new (Means (meaning_with tells volume))) so_far.tells (run here volume (so_far.kept here volume kept)))

    pub one_more : about new ≡ about mid → failures new ≡ failures mid → (premise → (volume : List ℕ) → keeps mid volume → keeps new volume)
        → (premise → (volume : List ℕ) → keeps mid volume → LeavesOnly moment left_since mid new (Means (meaning_with (about mid) volume)))
        → HasOnlyRead premise about failures keeps moment left_since old new
    one_more tells fails kept run = record {
      tells = tells ∙ so_far.tells;
      fails = fails ∙ so_far.fails;
      kept = λ here volume was. kept here volume (so_far.kept here volume was);
      run = run_more run;
    }

    -- a failure after reads
    pub failed_more : (error : DiskError) → HasFailed about failures mid new error → HasFailed about failures old new error
    failed_more error failed = record {
      broken = failed.broken ∙ ap {A = About} (λ tells. record tells { broken = true }) so_far.tells;
      told = failed.told;
      failed = λ other. subst (λ n. n < failures new) so_far.fails (failed.failed other);
    }

    -- reads that were cut short, after reads
    pub unread_more : (why : Unread) → AreUnread about failures (HasOnlyRead premise about failures keeps moment left_since mid new) mid new why
        → AreUnread about failures (HasOnlyRead premise about failures keeps moment left_since old new) old new why
    unread_more unread.Memory more = one_more more.tells more.fails more.kept more.run
    unread_more (unread.Device error) failed = failed_more error failed

    -- nothing more
    pub as_before : new ≡ mid → HasOnlyRead premise about failures keeps moment left_since old new
    as_before same = subst (HasOnlyRead premise about failures keeps moment left_since old) (sym same) so_far
