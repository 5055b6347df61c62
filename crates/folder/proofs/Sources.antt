-- The source by what the disks mean is the source by what was told of them.
use Rattle.std.proofs.Common.{◌≡◌, ℕ, ◌<◌, ◌≤◌, Bool, List, All, arith, get_or, length, Option, Some, None, map, ap, sym, subst, ◌∙◌, refl}
use Rattle.std.specs.Prelude.{MatchOption, IsSomeAnd, slice_get}
use Rattle.std.specs.List.{AllZip}
use Rattle.std.specs.Option.{option_map}
use Rattle.std.proofs.lemmas.List.{length-map}
use Rattle.std.proofs.lemmas.Option.{get_or_from_slice_get, slice_get-map, slice_get_within}
use Rattle.std.proofs.lemmas.Slice.Zip.{AllZip-left, AllZip-right}
use Rattle.configurations.specs.Record.{Record}
use Rattle.configurations.specs.declared.member.Member.{Member}
use Rattle.local_store.specs.About.{About, meaning_with}
use Rattle.local_store.specs.Meaning.{Meaning, Means}
use Rattle.recovery.specs.Choice.{IsRecorded, IsSource, NoneRecorded}
use Rattle.recovery.specs.declared.returned.Returned.{Returned}
use Rattle.recovery.specs.declared.returned.Returned.TheVariants.{Opened, Unopened}
use Rattle.folder.specs.Chain.{HasRecord, LeavesOut}
use Rattle.folder.specs.Disks.{IsDiskOf, IsReturned, IsSourceOf, NoneIsReturned, member_of}
use Rattle.folder.specs.Found.{IsFound, IsLeavingOut, IsMemberAt, IsRunning, MayRun, member_in, returned_as}
use Rattle.folder.specs.Restart.{SourceLeavesOut}
use Rattle.folder.specs.declared.found.OnDisk.{OnDisk}
use Rattle.folder.specs.declared.found.OnDisk.TheVariants.{Nothing, Volume}

-- a disk means one thing at most
abbrev pub MeansOne : Type 0
MeansOne = (one other : Meaning) (bytes : List ℕ) → Means one bytes → Means other bytes → one ≡ other

-- where a place of one list has an item, so has the other's, and these fit
pub at_left : {A B : Type 0} (Q : A → B → Type 0) (xs : List A) (ys : List B) → AllZip Q xs ys → (k : ℕ) (x : A) → slice_get xs k ≡ Some x → (y : B) × (slice_get ys k ≡ Some y) × Q x y
at_left {A} {B} Q xs ys all k x is = the_other (slice_get ys k) refl (subst (λ (o : Option A). MatchOption o (Unit {0}) (λ x. IsSomeAnd (slice_get ys k) (Q x))) is (AllZip-left Q xs ys all k))
  where
    the_other : (o : Option B) → slice_get ys k ≡ o → IsSomeAnd o (Q x) → (y : B) × (slice_get ys k ≡ Some y) × Q x y
    the_other None e none = absurd none
    the_other (Some y) e fits = (y, e, fits)

pub at_right : {A B : Type 0} (Q : A → B → Type 0) (xs : List A) (ys : List B) → AllZip Q xs ys → (k : ℕ) (y : B) → slice_get ys k ≡ Some y → (x : A) × (slice_get xs k ≡ Some x) × Q x y
at_right {A} {B} Q xs ys all k y is = the_other (slice_get xs k) refl (subst (λ (o : Option B). MatchOption o (Unit {0}) (λ y. IsSomeAnd (slice_get xs k) (λ x. Q x y))) is (AllZip-right Q xs ys all k))
  where
    the_other : (o : Option A) → slice_get xs k ≡ o → IsSomeAnd o (λ x. Q x y) → (x : A) × (slice_get xs k ≡ Some x) × Q x y
    the_other None e none = absurd none
    the_other (Some x) e fits = (x, e, fits)

module _ {S D : Type 0} (about : S → About) (keeps : S → List ℕ → Type 0) (one : MeansOne) (members : List Member) (disks : List (List ℕ)) (found : List (OnDisk S D)) (all : AllZip (IsFound about keeps) disks found) where
  -- what is told of the disks
  abbrev told : List Returned
  told = map (returned_as about) found

  -- what is told of the store at a place
  told_at : (place : ℕ) (store : S) → slice_get found place ≡ Some (Volume store) → slice_get told place ≡ Some (Opened (member_in (about store)) (about store).front)
  told_at place store at = slice_get-map (returned_as about) found place ∙ ap (option_map (returned_as about)) at

  -- of a disk of this meaning its member and its front are told
  told_of : (place : ℕ) (m : Meaning) (bytes : List ℕ) → slice_get disks place ≡ Some bytes → IsDiskOf m bytes → slice_get told place ≡ Some (Opened (member_of m) m.front)
  told_of place m bytes there is =
      let got = at_left (IsFound about keeps) disks found all place bytes there in
      by_case got.0 got.1 got.2
    where
      by_case : (o : OnDisk S D) → slice_get found place ≡ Some o → IsFound about keeps bytes o → slice_get told place ≡ Some (Opened (member_of m) m.front)
      by_case (Nothing disk) at fits = absurd (fits m is)
      by_case (Volume store) at fits =
          let same : m ≡ meaning_with (about store) fits.0 = one m (meaning_with (about store) fits.0) bytes is.means fits.2.means in
          told_at place store at ∙ ap (λ (m : Meaning). Some (Opened (member_of m) m.front)) (sym same)

  -- so a disk that returned is recorded
  recorded_of : (place seat : ℕ) (m : Meaning) → IsReturned members disks place seat m → IsRecorded members told place seat m.front
  recorded_of place seat m is = record { member = member_of m; opened = told_of place m is.bytes is.there is.is; recorded = is.recorded }

  -- where none is recorded, none is returned
  pub none_is_returned : NoneRecorded members told → NoneIsReturned members disks
  none_is_returned none place seat m is = none place seat m.front (recorded_of place seat m is)

  -- the source among those that were told is the source among the disks
  pub source_of : (place : ℕ) (store : S) → slice_get found place ≡ Some (Volume store) → IsSource members told place
      → (volume : List ℕ) × keeps store volume × IsSourceOf members disks place (meaning_with (about store) volume)
  source_of place store at source =
      let got = at_right (IsFound about keeps) disks found all place (Volume store) at in
      let same : Some (Opened source.is.member source.front) ≡ Some (Opened (member_in (about store)) (about store).front) = sym source.is.opened ∙ told_at place store at in
      let member_is : source.is.member ≡ member_in (about store) = cc in
      let front_is : source.front ≡ (about store).front = cc in (
        got.2.0,
        got.2.1,
        record {
          seat = source.seat;
          is = record { bytes = got.0; there = got.1; is = got.2.2; recorded = source.is.recorded ∙ ap (λ (m : Member). Some m) member_is };
          greatest = λ p s other is. subst (λ (n : ℕ). other.front ≤ n) front_is (source.greatest p s other.front (recorded_of p s other is));
          in_chain = λ p s other is ties. source.in_chain p s other.front (recorded_of p s other is) (ties ∙ sym front_is);
          in_list = λ p s other is ties same_seat. source.in_list p s other.front (recorded_of p s other is) (ties ∙ sym front_is) same_seat;
        },
      )

module _ {S D : Type 0} (about : S → About) (members : List Member) (found : List (OnDisk S D)) (told : List Returned) (same : told ≡ map (returned_as about) found) (place : ℕ) (source : IsSource members told place) where
  -- the source is one of those that were found
  pub source_is_within : place < length found
  source_is_within =
      let within : place < length told = slice_get_within told place (Opened source.is.member source.front) source.is.opened in
      let long : length told ≡ length found = ap length same ∙ length-map found (returned_as about) in
      omega arith

  -- and a store was found there
  pub source_is_found : (disk : D) → slice_get found place ≡ Some (Nothing disk) → ⊥
  source_is_found disk at =
      let here : slice_get told place ≡ Some Unopened = ap (λ (l : List Returned). slice_get l place) same ∙ slice_get-map (returned_as about) found place ∙ ap (option_map (returned_as about)) at in
      let e : Some (Opened source.is.member source.front) ≡ Some Unopened = sym source.is.opened ∙ here in
      cc

module _ {S D : Type 0} (about : S → About) (keeps : S → List ℕ → Type 0) (one : MeansOne) (now old : Record) (same : now ≡ old) (disks : List (List ℕ)) (found : List (OnDisk S D)) (all : AllZip (IsFound about keeps) disks found) where
  -- the source for the chain that was read
  pub source_for : (place : ℕ) (store : S) → slice_get found place ≡ Some (Volume store) → IsSource now.members (map (returned_as about) found) place
      → (volume : List ℕ) × keeps store volume × IsSourceOf old.members disks place (meaning_with (about store) volume)
  source_for place store at source =
      source_of about keeps one old.members disks found all place store at (subst (λ (r : Record). IsSource r.members (map (returned_as about) found) place) same source)

  -- and what it would leave out
  pub source_leaves : (alone : Bool) (config : List ℕ) → HasRecord old config → IsLeavingOut about alone now found → SourceLeavesOut alone config disks
  source_leaves alone config has out =
      let got = source_for out.place out.there.0 out.there.1 out.source in
      record {
        old = old;
        recorded = has;
        place = out.place;
        meaning = meaning_with (about out.there.0) got.0;
        source = got.2;
        leaves = subst (LeavesOut alone) same out.leaves;
      }

module _ {S D : Type 0} (about : S → About) (found : List (OnDisk S D)) (place : ℕ) (store : S) (at : slice_get found place ≡ Some (Volume store)) where
  -- the member of the store at a place
  pub member_at : (member : Member) → IsMemberAt about found place member → member ≡ member_in (about store)
  member_at member is =
      let same : Some (Volume is.store) ≡ Some (Volume store) = sym is.there ∙ at in
      let one : is.store ≡ store = cc in
      is.is ∙ ap (λ (s : S). member_in (about s)) one

  -- it runs
  pub store_runs : All (MayRun about) found → IsRunning about store
  store_runs all =
      let within = slice_get_within found place (Volume store) at in
      let is : get_or found place (Volume store) ≡ Volume store = get_or_from_slice_get found place (Volume store) (Volume store) at in
      subst (MayRun about) is (all place (Volume store) within)
