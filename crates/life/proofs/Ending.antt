-- What an era leaves, and what may come of it. Lemmas.
use Rattle.std.proofs.Common.{◌≡◌, ℕ, ◌≤◌, Bool, true, false, List, [], ◌∷◌, ◌++◌, length, refl, ap, sym, subst, ◌∙◌, inl, inr, arith}
use Rattle.std.specs.Prelude.{Some, slice_get}
use Rattle.std.specs.Option.{option_to_list}
use Rattle.chain.specs.Chain.{Chained}
use Rattle.chain.specs.Member.{Linked}
use Rattle.chain.proofs.Cells.{zip_at}
use Rattle.world_model.proofs.Counting.{get_left}
use Rattle.chain_model.specs.View.{View, is_in}
use Rattle.configurations.specs.Record.{Record}
use Rattle.configurations.specs.Store.{HoldsRecord}
use Rattle.disk_model.specs.Memory.{given_of, size_of}
use Rattle.disk_model.specs.Part.{inside}
use Rattle.disk_model.specs.declared.content.Cut.{Cut}
use Rattle.disk_model.specs.declared.memory.MemDisk.{MemDisk}
use Rattle.local_store.specs.Meaning.{Meaning, Means}
use Rattle.world.specs.Management.{HoldsOne}
use Rattle.world.specs.World.{Shows}
use Rattle.life.specs.Begun.{IsOfMember}
use Rattle.life.specs.Headline.{EndsAtReturn, EndsWith}
use Rattle.life.specs.Managed.{Managed, StandsOn, config_part}
use Rattle.life.specs.Plays.{AreCut, IsCutAt, IsLeftRecorded}
use Rattle.life.specs.Recovered.{AreStrangers, HasChain, IsNoChoice, IsNoReturn, IsSeenAs, IsSeenIf, comes_back, recorded_as}
use Rattle.recovery.specs.declared.returned.Returned.{Returned}
use Rattle.recovery.specs.declared.returned.Returned.TheVariants.{Opened, Unopened}
use Rattle.life.specs.declared.answer.Answer.{Answer}
use Rattle.life.specs.declared.era.Era.{Era}
use Rattle.life.specs.declared.refusal.Refusal.{Refusal}
use Rattle.life.specs.declared.managed.SlotDisk.{SlotDisk}
use Rattle.life.proofs.Chosen.{among_record, seen_of_disk}
use Rattle.life.proofs.Beside.{zip_long}
use Rattle.life.proofs.Deeds.{Holds, on_disks}
use Rattle.life.proofs.Newcomers.{joiner_shown}
use Rattle.life.proofs.Returning.{cut_of_joiner, cut_of_member}
use Rattle.life.proofs.Starting.{IsStore, LeadOnDisks, about_of_store, disk_in, failures_in, keeps_volume, leaves_now, left_in, moment_in, pends_in}

-- ---- the record that was left

-- one was left: the recorded chain's, or the one that was being written
left_recorded : {S : Type 0} (c : Chained S) (config : MemDisk) → HoldsOne c (inside config_part (given_of config)) → (r : Record) × IsLeftRecorded c config r
left_recorded c config (inl stands) = (c.recorded, record { stands = stands; either = inl refl })
left_recorded c config (inr (next, is, stands)) = (next, record { stands = stands; either = inr is })

-- that one is the one that stands there
pub left_as : {S : Type 0} (c : Chained S) (config : MemDisk) → ((some other : Record) (bytes : List ℕ) → HoldsRecord some bytes → HoldsRecord other bytes → some ≡ other)
    → HoldsOne c (inside config_part (given_of config)) → (r : Record) → StandsOn (given_of config) r → IsLeftRecorded c config r
left_as c config one holds r stands =
    let (other, left) = left_recorded c config holds in
    subst (IsLeftRecorded c config) (one other r (inside config_part (given_of config)) left.stands stands) left

-- ---- the disk that returns

-- a disk that isn't among the recorded ones that were seen is that of none
stranger : ((one other : Meaning) (bytes : List ℕ) → Means one bytes → Means other bytes → one ≡ other) → {returned : List ℕ} {disks : List (SlotDisk MemDisk)} {config : MemDisk} (strangers : AreStrangers returned disks config) (at : ℕ)
    (disk : MemDisk) (s : Returned) (store : IsStore) → slice_get strangers.seen at ≡ Some s → IsSeenAs disk s → (own : IsOfMember disk) → own.meaning.slot ≡ (about_of_store store).slot → own.meaning.incarnation ≡ (about_of_store store).incarnation
    → is_in strangers.recorded (about_of_store store).slot (about_of_store store).incarnation ≡ false
stranger one strangers at disk Unopened store seen none own slot incarnation = absurd (none own)
stranger one strangers at disk (Opened member front) store seen (is, same, fronts) own slot incarnation =
    no (is_in strangers.recorded (about_of_store store).slot (about_of_store store).incarnation) (λ there.
    let meant : is.meaning ≡ own.meaning = one is.meaning own.meaning (given_of disk) is.means own.means in
    let (seat, stands) = among_record strangers.recorded (about_of_store store).slot (about_of_store store).incarnation there in
    let is_it : member ≡ record { slot = (about_of_store store).slot; incarnation = (about_of_store store).incarnation } =
    same ∙ ap recorded_as meant ∙ ap (λ n. record { slot = n; incarnation = own.meaning.incarnation }) slot ∙ ap (λ n. record { slot = (about_of_store store).slot; incarnation = n }) incarnation in
    strangers.none at seat front (record { member = member; opened = seen; recorded = stands ∙ ap Some (sym is_it) }))
  where
    no : (b : Bool) → (b ≡ true → ⊥) → b ≡ false
    no true never = absurd (never refl)
    no false never = refl

-- what stands behind a list begins where that ends
first_behind : {A : Type 0} (xs ys : List A) → slice_get (xs ++ ys) (length xs) ≡ slice_get ys 0
first_behind [] ys = refl
first_behind (x ∷ xs) ys = first_behind xs ys

module _ (mid : Managed IsStore) (v : View) (cut : Cut) (disks : List (SlotDisk MemDisk)) (config : MemDisk) (shows : Shows about_of_store keeps_volume leaves_now mid.world v) (holds : Holds about_of_store mid)
    (cuts : AreCut about_of_store leaves_now disk_in cut mid disks config) where
  -- the configuration's disk has one of the chain's records
  pub holds_one : HoldsOne mid.world.chain (inside config_part (given_of config))
  holds_one = holds.configured.left (given_of config) cuts.config_is.left

  -- a record stands on it
  pub has_chain : 8192 ≤ size_of mid.management.disk → HasChain config
  has_chain long =
      let (r, left) = left_recorded mid.world.chain config holds_one in
      record { recorded = r; stands = left.stands; long = omega (arith, long, cuts.config_is.left.size) }

  -- a member whose disk returns is none of a record of which nobody returns
  nobody_there : ((one other : Meaning) (bytes : List ℕ) → Means one bytes → Means other bytes → one ≡ other) → (returned : List ℕ) (strangers : AreStrangers returned disks config) → (at : ℕ) (m : Linked IsStore)
      → slice_get mid.world.chain.members at ≡ Some m → comes_back returned at ≡ true → is_in strangers.recorded (about_of_store m.node.store).slot (about_of_store m.node.store).incarnation ≡ false
  nobody_there one returned strangers at m here returns =
      let (left, there, is) = zip_at (λ (x : Linked IsStore) d. IsCutAt about_of_store leaves_now disk_in cut x.node.store d) mid.world.chain.members cuts.of_members at m cuts.members_cut here in
      let (own, geometry, slot, incarnation) = cut_of_member mid.world v at m left.disk shows here cut is.0 (on_disks about_of_store mid holds) in
      let (s, seen, so) = seen_of_disk returned at disks strangers.seen left strangers.are_seen (ap (λ (ds : List (SlotDisk MemDisk)). slice_get ds at) cuts.are ∙ get_left cuts.of_members (cuts.of_joiner ++ cuts.outside) at left there) in
      stranger one strangers at left.disk s m.node.store seen (subst (λ b. IsSeenIf b left.disk s) returns so) own slot incarnation

  -- nor is who joins
  nor_joiner : ((one other : Meaning) (bytes : List ℕ) → Means one bytes → Means other bytes → one ≡ other) → (returned : List ℕ) (strangers : AreStrangers returned disks config) → (store : IsStore)
      → mid.world.joiner ≡ Some store → comes_back returned (length mid.world.chain.members) ≡ true → is_in strangers.recorded (about_of_store store).slot (about_of_store store).incarnation ≡ false
  nor_joiner one returned strangers store joined returns =
      let (left, there, is) = zip_at (IsCutAt about_of_store leaves_now disk_in cut) (option_to_list mid.world.joiner) cuts.of_joiner 0 store cuts.joiner_cut (ap (λ o. slice_get (option_to_list o) 0) joined) in
      let (j, joins, of) = joiner_shown about_of_store keeps_volume leaves_now mid.world v store shows joined in
      let newer = (holds.joins store joined).incarnation in
      let (own, geometry, slot, incarnation) = cut_of_joiner store j.volume left.disk of.keeping cut is.0 (omega (arith, newer)) in
      let long = zip_long (λ (x : Linked IsStore) d. IsCutAt about_of_store leaves_now disk_in cut x.node.store d) mid.world.chain.members cuts.of_members cuts.members_cut in
      let at = length mid.world.chain.members in
      let here : slice_get disks at ≡ Some left =
      ap (λ (ds : List (SlotDisk MemDisk)). slice_get ds at) cuts.are ∙ ap (slice_get (cuts.of_members ++ (cuts.of_joiner ++ cuts.outside))) long ∙ first_behind cuts.of_members (cuts.of_joiner ++ cuts.outside) ∙ get_left cuts.of_joiner cuts.outside 0 left there in
      let (s, seen, so) = seen_of_disk returned at disks strangers.seen left strangers.are_seen here in
      stranger one strangers at left.disk s store seen (subst (λ b. IsSeenIf b left.disk s) returns so) own slot incarnation

  -- ---- why an era isn't followed by another

  module _ (era : Era) (old : Managed IsStore) (answers : List Answer) (same : era.cut ≡ cut) (played : LeadOnDisks era.deeds.items answers old mid)
      (one_meaning : (one other : Meaning) (bytes : List ℕ) → Means one bytes → Means other bytes → one ≡ other)
      (one_record : (some other : Record) (bytes : List ℕ) → HoldsRecord some bytes → HoldsRecord other bytes → some ≡ other) where
    abbrev Ends : Record → Type 0
    Ends = EndsWith (Unit {0}) about_of_store keeps_volume pends_in leaves_now moment_in left_in failures_in disk_in era old

    abbrev ends_with : (r : Record) → IsLeftRecorded mid.world.chain config r → Ends r
    ends_with r left = record {
      answers = answers;
      end = mid;
      disks = disks;
      config = config;
      played = played;
      cut = subst (λ k. AreCut about_of_store leaves_now disk_in k mid disks config) (sym same) cuts;
      recorded = left;
    }

    abbrev pub EndsSo : Refusal → Type 0
    EndsSo = EndsAtReturn (Unit {0}) about_of_store keeps_volume pends_in leaves_now moment_in left_in failures_in disk_in era old

    choice_ends : (refusal : Refusal) → IsNoChoice era.returned.items disks config refusal → EndsSo refusal
    choice_ends refusal (inl memory) = inl memory
    choice_ends refusal (inr (inl (none, nothing))) =
        let (r, left) = left_recorded mid.world.chain config holds_one in
        inr (inl (none, record { recorded = r; ends = ends_with r left; nothing = nothing }))
    choice_ends refusal (inr (inr (not, strangers))) = inr (inr (inl (
      not,
      record {
        recorded = strangers.recorded;
        ends = ends_with strangers.recorded (left_as mid.world.chain config one_record holds_one strangers.recorded strangers.there.stands);
        nobody = nobody_there one_meaning era.returned.items strangers;
        nor_joiner = nor_joiner one_meaning era.returned.items strangers;
      },
    )))

    pub era_ends : (refusal : Refusal) → IsNoReturn era.returned.items disks config refusal → EndsSo refusal
    era_ends refusal (inl choice) = choice_ends refusal choice
    era_ends refusal (inr (none, end)) =
        let (r, left) = left_recorded mid.world.chain config holds_one in
        inr (inr (inr (none, record { recorded = r; ends = ends_with r left; none = end })))
