-- What the disks mean decides the answer, but for memory and what a device refuses.
use Rattle.std.proofs.Common.{◌≡◌, ◌≢◌, ◌⊎◌, inl, inr, ℕ, ◌<◌, ◌≤◌, Bool, true, false, List, [], ◌∷◌, Option, None, Some, arith, length, map, ap, subst, sym, ◌∙◌, refl}
use Rattle.std.specs.Prelude.{slice_get}
use Rattle.std.proofs.lemmas.List.{length-map}
use Rattle.configurations.specs.Record.{Record}
use Rattle.configurations.specs.Refusal as chain
use Rattle.configurations.specs.Store.{HoldsRecord}
use Rattle.configurations.specs.declared.refusal.Refusal.{Refusal as RecordRefusal}
use Rattle.configurations.specs.declared.refusal.Refusal.TheVariants as records
use Rattle.local_store.specs.Meaning.{Meaning}
use Rattle.local_store.specs.declared.refusal.Refusal.{Refusal as StoreRefusal}
use Rattle.local_store.specs.declared.refusal.Refusal.TheVariants as faults
use Rattle.recovery.specs.declared.refusal.Refusal.{Refusal as ChoiceRefusal}
use Rattle.recovery.specs.declared.refusal.Refusal.TheVariants.{NoneReturned, NotInChain}
use Rattle.folder.specs.Chain.{HasNoRecord, HasRecord, LeavesOut, MayGoOn, config_part}
use Rattle.folder.specs.Disks.{IsReturned, IsSourceOf, NoneIsReturned}
use Rattle.folder.specs.Refusal.{IsExcuse, IsOfAllowing, IsOfFinding, IsRefusedWith}
use Rattle.folder.specs.Restart.{IsAnswered, SourceLeavesOut}
use Rattle.folder.specs.declared.refusal.Refusal.{Refusal}
use Rattle.folder.specs.declared.refusal.Refusal.TheVariants.{Memory, Chain, Choice, FileFault, OthersRecorded, Sizes, Store}
use Rattle.folder.proofs.Finding.{none_left}

-- the bytes of a pair hold one record at most
abbrev pub RecordsAreOne : Type 0
RecordsAreOne = (some other : Record) (bytes : List ℕ) → HoldsRecord some bytes → HoldsRecord other bytes → some ≡ other

-- what may go on leaves nobody out unasked
pub may_not_leave : (alone : Bool) (r : Record) → MayGoOn alone r → LeavesOut alone r → ⊥
may_not_leave alone r (inl asked) leaves =
    let same : true ≡ false = sym asked ∙ leaves.0 in
    absurd (cc)
may_not_leave alone r (inr one) leaves =
    let many : 1 < length r.members = leaves.1 in
    omega arith

module _ (alone : Bool) (size : ℕ) (config : List ℕ) (disks : List (List ℕ)) where
  -- there is one, or none
  recorded_or_not : (r : Record) → config_part.len ≤ size → HasRecord r config → HasNoRecord size config → ⊥
  recorded_or_not r room has (inl short) = omega arith
  recorded_or_not r room has (inr none) = none r has

  pub excused : (r : Refusal) → IsExcuse r → IsAnswered alone size config disks (Some r)
  excused r is = record {
    without_record = λ none. inr is;
    without_disks = λ old room has none. inr is;
    without_members = λ old room has some none. inr is;
    without_leave = λ room out. inr is;
  }

  -- what is told of a disk that can't be read
  pub unfound : (r : Refusal) → IsOfFinding r → IsAnswered alone size config disks (Some r)
  unfound Memory told = excused Memory tt
  unfound FileFault told = absurd told
  unfound (Sizes refusal) told = absurd told
  unfound (Chain refusal) told = absurd told
  unfound (Choice refusal) told = absurd told
  unfound OthersRecorded told = absurd told
  unfound (Store faults.Memory) told = excused (Store faults.Memory) tt
  unfound (Store (faults.Device error)) told = excused (Store (faults.Device error)) tt
  unfound (Store faults.Full) told = absurd told
  unfound (Store faults.Broken) told = absurd told
  unfound (Store faults.NotAVolume) told = absurd told
  unfound (Store faults.OtherVersion) told = absurd told
  unfound (Store faults.Unfinished) told = absurd told
  unfound (Store faults.Backwards) told = absurd told

  -- no record was read
  pub unread : (r : RecordRefusal) → chain.IsOfOpening r → (r ≡ records.NoRecord → HasNoRecord size config) → IsAnswered alone size config disks (Some (Chain r))
  unread records.Memory told none = excused (Chain records.Memory) tt
  unread records.NoRecord told none = record {
    without_record = λ is. inl refl;
    without_disks = λ old room has empty. absurd (recorded_or_not old room has (none refl));
    without_members = λ old room has some strangers. absurd (recorded_or_not old room has (none refl));
    without_leave = λ room out. absurd (recorded_or_not out.old room out.recorded (none refl));
  }
  unread (records.Device error) told none = excused (Chain (records.Device error)) tt
  unread records.Broken told none = absurd told
  unread records.NotNext told none = absurd told
  unread records.BadMembers told none = absurd told

  module _ (one : RecordsAreOne) (current : Record) (room : config_part.len ≤ size) (has : HasRecord current config) where
    -- without disks there is no source
    no_source : (r : Record) (place : ℕ) (m : Meaning) → IsSourceOf r.members disks place m → disks ≡ [] → ⊥
    no_source r place m source empty =
        let none : None ≡ Some source.is.bytes = sym (ap (λ (l : List (List ℕ)). slice_get l place) empty) ∙ source.is.there in
        absurd (cc)

    -- and none where all are strangers
    no_stranger : (old : Record) → HasRecord old config → NoneIsReturned old.members disks → (r : Record) (place : ℕ) (m : Meaning) → HasRecord r config → IsSourceOf r.members disks place m → ⊥
    no_stranger old was strangers r place m is source =
        strangers place source.seat m (subst (λ (r : Record). IsReturned r.members disks place source.seat m) (one r old _ is was) source.is)

    -- there is a source; where it would leave others out unasked, that is refused
    pub with_source : (place : ℕ) (m : Meaning) (told : Option Refusal) → IsSourceOf current.members disks place m → (LeavesOut alone current → IsRefusedWith OthersRecorded told) → IsAnswered alone size config disks told
    with_source place m told source others = record {
      without_record = λ none. absurd (recorded_or_not current room has none);
      without_disks = λ old room' has' empty. absurd (no_source current place m source empty);
      without_members = λ old room' has' any strangers. absurd (no_stranger old has' strangers current place m has source);
      without_leave = λ room' out. others (subst (LeavesOut alone) (one out.old current _ out.recorded has) out.leaves);
    }

    -- none was chosen, or none that may go on
    pub unchosen : (r : Refusal) → IsOfAllowing r → (r ≡ Choice NoneReturned → disks ≡ []) → (r ≡ Choice NotInChain → disks ≢ [])
        → (r ≡ Choice NotInChain → (old : Record) × HasRecord old config × NoneIsReturned old.members disks) → (r ≡ OthersRecorded → SourceLeavesOut alone config disks) → IsAnswered alone size config disks (Some r)
    unchosen Memory told empty some strangers out = excused Memory tt
    unchosen FileFault told empty some strangers out = absurd told
    unchosen (Sizes refusal) told empty some strangers out = absurd told
    unchosen (Chain refusal) told empty some strangers out = absurd told
    unchosen (Store refusal) told empty some strangers out = absurd told
    unchosen (Choice NoneReturned) told empty some strangers out = record {
      without_record = λ none. absurd (recorded_or_not current room has none);
      without_disks = λ old room' has' none. inl refl;
      without_members = λ old room' has' any none. absurd (any (empty refl));
      without_leave = λ room' left. absurd (no_source left.old left.place left.meaning left.source (empty refl));
    }
    unchosen (Choice NotInChain) told empty some strangers out = record {
      without_record = λ none. absurd (recorded_or_not current room has none);
      without_disks = λ old room' has' none. absurd (some refl none);
      without_members = λ old room' has' any none. inl refl;
      without_leave = λ room' left. let all = strangers refl in absurd (no_stranger all.0 all.1 all.2 left.old left.place left.meaning left.recorded left.source);
    }
    unchosen OthersRecorded told empty some strangers out =
        let left = out refl in
        let source : IsSourceOf current.members disks left.place left.meaning = subst (λ (r : Record). IsSourceOf r.members disks left.place left.meaning) (one left.old current _ left.recorded has) left.source in
        with_source left.place left.meaning (Some OthersRecorded) source (λ leaves. inl refl)

-- as many were found as returned
pub none_found : {A B C : Type 0} (f : B → C) (xs : List A) (ys : List B) → length xs ≡ length ys → xs ≡ [] → map f ys ≡ []
none_found {A} {B} f xs ys same none =
    let short : length xs ≡ length {A = A} [] = ap (λ (l : List A). length l) none in
    ap (map f) (none_left ys (omega arith))

pub some_found : {A B C : Type 0} (f : B → C) (xs : List A) (ys : List B) → length xs ≡ length ys → xs ≢ [] → map f ys ≢ []
some_found {A} {B} {C} f xs ys same some none =
    let short : length (map f ys) ≡ length {A = C} [] = ap (λ (l : List C). length l) none in
    let long = length-map ys f in
    some (none_left xs (omega arith))
