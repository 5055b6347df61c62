-- A recovery that was broken off is done again, after another cut, with nothing armed any more. Lemmas.
use Rattle.std.proofs.Common.{◌≡◌, ℕ, ◌+◌, true, false, List, length, refl, ap, sym, subst, ◌∙◌, inl, inr, arith, eq-eqb}
use Rattle.std.specs.Prelude.{◌⊎◌}
use Rattle.chain_model.specs.View.{is_in}
use Rattle.configurations.specs.Record.{Record}
use Rattle.configurations.specs.Store.{HoldsNumbered, HoldsRecord, numbered_holds}
use Rattle.disk_model.specs.Disk.{Only}
use Rattle.disk_model.specs.Memory.{bytes_of, given_of, may_be_left, size_of}
use Rattle.disk_model.specs.Part.{inside}
use Rattle.disk_model.specs.declared.memory.MemDisk.{MemDisk}
use Rattle.gate_journal.specs.Pair.{last_number, newest}
use Rattle.local_store.specs.Meaning.{Meaning, Means}
use Rattle.life.specs.Begun.{MeansStill}
use Rattle.life.specs.Managed.{IsLast, Managed, StandsAs, StandsOn, config_part}
use Rattle.life.specs.Recovered.{HasMember, IsAtItsEnd, IsStranger, MayReturn, RecordsStill, Recovers, alone_behind, recorded_as}
use Rattle.life.proofs.Starting.{IsStore, about_of_store, keeps_volume, leaves_now}

-- a record of a member alone has it
alone_has : (r : Record) (meaning : Meaning) → HasMember (alone_behind r (recorded_as meaning)) meaning
alone_has r meaning = rw (eq-eqb meaning.slot meaning.slot refl) (eq-eqb meaning.incarnation meaning.incarnation refl)

-- a disk that was cut again, and has nothing armed any more
pub record IsCutAgain (back cut after : MemDisk) : Type 0 where
  pub left : may_be_left back (bytes_of cut)
  pub gives : given_of cut ≡ bytes_of cut
  pub same : given_of after ≡ given_of cut
  pub size : size_of cut ≡ size_of back

-- what it gives might have been left
given_left : (back cut after : MemDisk) → IsCutAgain back cut after → may_be_left back (given_of after)
given_left back cut after is = subst (may_be_left back) (sym (is.same ∙ is.gives)) is.left

module _ (disk back cut after config config_back config_cut config_after : MemDisk) (returns : MayReturn disk config) (only : Only (given_of disk) (may_be_left disk)) (only_config : Only (given_of config) (may_be_left config))
    (still : MeansStill disk back) (records : RecordsStill disk config config_back) (is : IsCutAgain back cut after) (is_config : IsCutAgain config_back config_cut config_after)
    (size : size_of back ≡ size_of disk) (config_size : size_of config_back ≡ size_of config)
    (one_meaning : (one other : Meaning) (bytes : List ℕ) → Means one bytes → Means other bytes → one ≡ other)
    (one_record : (some other : Record) (bytes : List ℕ) → HoldsRecord some bytes → HoldsRecord other bytes → some ≡ other)
    (one_number : (some other : Record) (number another : ℕ) (bytes : List ℕ) → HoldsNumbered some number bytes → HoldsNumbered other another bytes → number ≡ another) where
  abbrev r : Record
  r = returns.recorded

  -- the number of the store that put its record there
  abbrev number : ℕ
  number = last_number (newest returns.stands.slots)

  stands_as : StandsAs (given_of config) r number
  stands_as = record { slots = returns.stands.slots; holds = returns.stands.holds; newer = returns.stands.newer; numbered = refl }

  -- it means the same
  means_again : Means returns.member.meaning (given_of after)
  means_again = still returns.member.meaning returns.member.means only (given_of after) (given_left back cut after is)

  -- and on the other stands what stood there, or the record of this member alone
  abbrev StandsAgain : Type 0
  StandsAgain = StandsAs (given_of config_after) r number ⊎ ((meaning : Meaning) × Means meaning (given_of disk) × HasMember r meaning × StandsAs (given_of config_after) (alone_behind r (recorded_as meaning)) (number + 1))

  stands_again : StandsAgain
  stands_again = records r number stands_as only_config (given_of config_after) (given_left config_back config_cut config_after is_config)

  record_again : StandsAgain → (now : Record) × StandsOn (given_of config_after) now
  record_again (inl stands) = (r, numbered_holds stands)
  record_again (inr (meaning, means, has, stands)) = (alone_behind r (recorded_as meaning), numbered_holds stands)

  pub returns_again : MayReturn after config_after
  returns_again =
      let (now, stands) = record_again stands_again in
      record {
        member = record {
          meaning = returns.member.meaning;
          means = means_again;
          given = returns.member.given;
          long = omega (arith, returns.member.long, ap (λ (l : List ℕ). length l) is.same, size, is.size);
        };
        recorded = now;
        stands = stands;
        long = omega (arith, returns.long, ap (λ (l : List ℕ). length l) is_config.same, config_size, is_config.size);
      }

  -- ---- it goes on

  -- with the epoch that follows the record which stands there
  abbrev IsNext : Managed IsStore → Type 0
  IsNext new = (x : Record) → StandsOn (given_of config_after) x → new.world.chain.recorded.epoch ≡ x.epoch + 1

  -- the disk means what the first one meant
  meant : (meaning : Meaning) → Means meaning (given_of after) → Means meaning (given_of disk)
  meant meaning means = subst (λ (m : Meaning). Means m (given_of disk)) (one_meaning returns.member.meaning meaning (given_of after) means_again means) returns.member.means

  goes_on : StandsAgain → (new : Managed IsStore) → IsNext new → Recovers about_of_store keeps_volume leaves_now after config_after new → Recovers about_of_store keeps_volume leaves_now disk config new
  goes_on (inl stands) new next found =
      let same : r ≡ found.recorded = one_record r found.recorded (inside config_part (given_of config_after)) (numbered_holds stands) found.stands in
      record {
        recorded = found.recorded;
        meaning = found.meaning;
        stands = subst (StandsOn (given_of config)) same returns.stands;
        means = meant found.meaning found.means;
        has = found.has;
        later = found.later;
        alone = found.alone;
        member = found.member;
        begins = found.begins;
        rests = found.rests;
      }
  goes_on (inr (meaning, means, has, stands)) new next found =
      let same : alone_behind r (recorded_as meaning) ≡ found.recorded = one_record (alone_behind r (recorded_as meaning)) found.recorded (inside config_part (given_of config_after)) (numbered_holds stands) found.stands in
      let own : meaning ≡ found.meaning = one_meaning meaning found.meaning (given_of disk) means (meant found.meaning found.means) in
      record {
        recorded = r;
        meaning = found.meaning;
        stands = returns.stands;
        means = meant found.meaning found.means;
        has = subst (HasMember r) own has;
        later = inr (omega (arith, next found.recorded found.stands, ap (λ (x : Record). x.epoch) same));
        alone = found.alone;
        member = found.member;
        begins = found.begins;
        rests = found.rests;
      }

  pub recovers_again : (new : Managed IsStore) → IsNext new → Recovers about_of_store keeps_volume leaves_now after config_after new → Recovers about_of_store keeps_volume leaves_now disk config new
  recovers_again new next found = goes_on stands_again new next found

  -- ---- or it doesn't

  strange : StandsAgain → IsStranger after config_after → IsStranger disk config
  strange (inl stands) found =
      let same : r ≡ found.recorded = one_record r found.recorded (inside config_part (given_of config_after)) (numbered_holds stands) found.stands in
      record { recorded = found.recorded; meaning = found.meaning; stands = subst (StandsOn (given_of config)) same returns.stands; means = meant found.meaning found.means; out = found.out }
  strange (inr (meaning, means, has, stands)) found =
      let same : alone_behind r (recorded_as meaning) ≡ found.recorded = one_record (alone_behind r (recorded_as meaning)) found.recorded (inside config_part (given_of config_after)) (numbered_holds stands) found.stands in
      let own : meaning ≡ found.meaning = one_meaning meaning found.meaning (given_of disk) means (meant found.meaning found.means) in
      let is_there : is_in found.recorded found.meaning.slot found.meaning.incarnation ≡ true = subst (λ (x : Record). HasMember x found.meaning) same (subst (λ (m : Meaning). HasMember (alone_behind r (recorded_as meaning)) m) own (alone_has r meaning)) in
      let clash : false ≡ true = sym found.out ∙ is_there in absurd (cc)

  pub strange_again : IsStranger after config_after → IsStranger disk config
  strange_again found = strange stands_again found

  ended : StandsAgain → IsLast (given_of config_after) → IsAtItsEnd config
  ended (inl stands) last =
      let same : r ≡ last.found = one_record r last.found (inside config_part (given_of config_after)) (numbered_holds stands) (numbered_holds last.stands) in
      let same_number : number ≡ last.number = one_number r last.found number last.number (inside config_part (given_of config_after)) stands last.stands in
      record {
        recorded = r;
        number = number;
        stands = stands_as;
        last = elim last.last [ inl epoch ↦ inl (omega (arith, epoch, ap (λ (x : Record). x.epoch) same)) | inr greatest ↦ inr (omega (arith, greatest, same_number)) ];
      }
  ended (inr (meaning, means, has, stands)) last =
      let same : alone_behind r (recorded_as meaning) ≡ last.found = one_record (alone_behind r (recorded_as meaning)) last.found (inside config_part (given_of config_after)) (numbered_holds stands) (numbered_holds last.stands) in
      let same_number : number + 1 ≡ last.number = one_number (alone_behind r (recorded_as meaning)) last.found (number + 1) last.number (inside config_part (given_of config_after)) stands last.stands in
      record {
        recorded = r;
        number = number;
        stands = stands_as;
        last = elim last.last [ inl epoch ↦ inl (omega (arith, epoch, ap (λ (x : Record). x.epoch) same)) | inr greatest ↦ inr (omega (arith, greatest, same_number)) ];
      }

  pub ended_again : IsLast (given_of config_after) → IsAtItsEnd config
  ended_again last = ended stands_again last
