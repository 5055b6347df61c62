-- What a disk's first part holds, and that it is one thing.
use Rattle.std.proofs.Common.{Result, Err, ◌≡◌, ◌≢◌, inl, inr, ℕ, ◌<◌, List, Option, Some, None, refl, sym, ◌∙◌, ap, subst, arith, Vec, Global}
use Rattle.std.specs.Result.{IsErrAnd}
use Rattle.std.proofs.lemmas.Bool.{cases_lt}
use Rattle.disk_model.specs.Part.{inside}
use Rattle.disk_model.specs.declared.part.Part.{Part}
use Rattle.gate_journal.specs.Pair.{Entry, HoldsPair, IsPayloadOf, IsSettledPair, Pair, Slots, last_number, newest}
use Rattle.home_blocks.specs.Home.{CanMigrate, HoldsNoPayload, HoldsPayload, HoldsSuperblock, IsAtEnd, IsNoVolume, IsOtherVersion, IsVolume}
use Rattle.gate_journal.specs.declared.batch.TheConstants.{MAX_NUMBER}
use Rattle.home_blocks.specs.Places.{superblock_part}
use Rattle.home_blocks.specs.Superblock.{HasOtherVersion, IsEncoding, Superblock, superblock_encoding}
use Rattle.home_blocks.specs.declared.version.Version.{Version}
use Rattle.home_blocks.specs.declared.version.Version.TheVariants.{One, Two}
use Rattle.home_blocks.proofs.Encodings.{other_version_apart, superblocks_apart}

-- a superblock of version 2 needs no number more
pub never_old : (sb : Superblock) (number : ℕ) → sb.version ≡ Two → CanMigrate sb number
never_old sb number two one = let differ : One ≡ Two = sym one ∙ two in absurd (cc)

-- and one that has none left is of version 1, and the last
version_one : (v : Version) → (v ≡ Two → ⊥) → v ≡ One
version_one One never = refl
version_one Two never = absurd (never refl)

the_same : (n m : ℕ) → (n ≢ m → ⊥) → n ≡ m
the_same n m never =
    elim (cases_lt n m) [
      | inl below ↦ absurd (never (λ e. omega (arith, below, e)))
      | inr above ↦ elim (cases_lt m n) [ inl over ↦ absurd (never (λ e. omega (arith, over, e))) | inr under ↦ omega (arith, above, under) ]
    ]

pub cannot : (sb : Superblock) (number : ℕ) → (CanMigrate sb number → ⊥) → (sb.version ≡ One) × (number ≡ MAX_NUMBER)
cannot sb number never = (version_one sb.version (λ two. never (never_old sb number two)), the_same number MAX_NUMBER (λ differ. never (λ one. differ)))

-- the bytes of a pair have one reading at most
abbrev pub OneReading : Type 0
OneReading = (some others : Slots) (bytes : List ℕ) → HoldsPair some bytes → HoldsPair others bytes → some ≡ others

module _ (one : OneReading) (bytes : List ℕ) where
  same_newest : (some others : Slots) → HoldsPair some (inside superblock_part bytes) → HoldsPair others (inside superblock_part bytes) → newest some ≡ newest others
  same_newest some others holds holds' = ap newest (one some others (inside superblock_part bytes) holds holds')

  pub one_payload : (p q : List ℕ) → HoldsPayload p bytes → HoldsPayload q bytes → p ≡ q
  one_payload p q some other =
      let one_entry : Entry = record { number = some.number; payload = p } in
      let other_entry : Entry = record { number = other.number; payload = q } in
      let both : Some one_entry ≡ Some other_entry = sym some.is_newest ∙ same_newest some.slots other.slots some.holds other.holds ∙ other.is_newest in
      let same : one_entry ≡ other_entry = cc both in
      ap (λ (e : Entry). e.payload) same

  pub one_number : (p q : List ℕ) (some : HoldsPayload p bytes) (other : HoldsPayload q bytes) → some.number ≡ other.number
  one_number p q some other =
      let one_entry : Entry = record { number = some.number; payload = p } in
      let other_entry : Entry = record { number = other.number; payload = q } in
      let both : Some one_entry ≡ Some other_entry = sym some.is_newest ∙ same_newest some.slots other.slots some.holds other.holds ∙ other.is_newest in
      let same : one_entry ≡ other_entry = cc both in
      ap (λ (e : Entry). e.number) same

  pub not_none : (p : List ℕ) → HoldsPayload p bytes → HoldsNoPayload bytes → ⊥
  not_none p some none =
      let entry : Entry = record { number = some.number; payload = p } in
      let same : Some entry ≡ None = sym some.is_newest ∙ same_newest some.slots none.slots some.holds none.holds ∙ none.is_none in
      cc same

  pub one_superblock : (some other : Superblock) → HoldsSuperblock some bytes → HoldsSuperblock other bytes → some ≡ other
  one_superblock some other holds holds' = superblocks_apart some other holds.is holds'.is (one_payload (superblock_encoding some) (superblock_encoding other) holds.payload holds'.payload)

  pub not_another : (sb : Superblock) → HoldsSuperblock sb bytes → IsOtherVersion bytes → ⊥
  not_another sb holds other = other_version_apart sb other.payload (one_payload other.payload (superblock_encoding sb) other.holds holds.payload) other.other

  pub a_volume : (sb : Superblock) → IsVolume sb bytes → IsNoVolume bytes → ⊥
  a_volume sb is (inl short) = omega (arith, short, is.room)
  a_volume sb is (inr (inl none)) = not_none (superblock_encoding sb) is.holds.payload none
  a_volume sb is (inr (inr (inl other))) =
      other.no_superblock.none sb (record { is = is.holds.is; encoded = one_payload other.payload (superblock_encoding sb) other.holds is.holds.payload })
  a_volume sb is (inr (inr (inr (inl end)))) =
      let old = one_payload (superblock_encoding sb) (superblock_encoding end.superblock) is.holds.payload end.holds in
      let same = superblocks_apart sb end.superblock is.holds.is end.is old in
      is.holds.migrates (ap (λ (s : Superblock). s.version) same ∙ end.old) (one_number (superblock_encoding sb) (superblock_encoding end.superblock) is.holds.payload end.holds ∙ end.last)
  a_volume sb is (inr (inr (inr (inr short)))) =
      let same = one_superblock sb short.superblock is.holds short.holds in
      omega (arith, short.short, is.room, ap (λ (s : Superblock). s.geometry.blocks) same, ap (λ (s : Superblock). s.geometry.area) same)

  pub another : IsOtherVersion bytes → IsNoVolume bytes → ⊥
  another is (inl short) = omega (arith, short, is.room)
  another is (inr (inl none)) = not_none is.payload is.holds none
  another is (inr (inr (inl other))) = other.no_superblock.same (subst HasOtherVersion (one_payload is.payload other.payload is.holds other.holds) is.other)
  another is (inr (inr (inr (inl end)))) = other_version_apart end.superblock is.payload (one_payload is.payload (superblock_encoding end.superblock) is.holds end.holds) is.other
  another is (inr (inr (inr (inr short)))) = not_another short.superblock short.holds is

-- a payload that was loaded
some_payload : (newer : Option Entry) (payload : Vec ℕ Global) → IsPayloadOf newer (Some payload) → newer ≡ Some (record { number = last_number newer; payload = payload.items })
some_payload None payload is = absurd is
some_payload (Some entry) payload is = λ i. Some (record { number = entry.number; payload = sym is i })

no_payload : (newer : Option Entry) → IsPayloadOf newer None → newer ≡ None
no_payload None is = refl
no_payload (Some entry) is = absurd is

module _ (pair : Pair) (gives old : List ℕ) (left : List ℕ → Type 0) (place : pair.part ≡ superblock_part) (same : gives ≡ old) (found : Option (Vec ℕ Global)) where
  abbrev Loaded : Type 0
  Loaded = (slots : Slots) × IsSettledPair pair slots gives left × IsPayloadOf (newest slots) found

  held : (slots : Slots) → IsSettledPair pair slots gives left → HoldsPair slots (inside superblock_part old)
  held slots settled = subst (λ (b : List ℕ). HoldsPair slots (inside superblock_part b)) same (subst (λ (part : Part). HoldsPair slots (inside part gives)) place settled.holds)

  pub loaded_none : found ≡ None → Loaded → HoldsNoPayload old
  loaded_none none (slots, settled, is) = record { slots = slots; holds = held slots settled; is_none = no_payload (newest slots) (subst (IsPayloadOf (newest slots)) none is) }

  pub loaded_some : (payload : Vec ℕ Global) → found ≡ Some payload → Loaded → HoldsPayload payload.items old
  loaded_some payload some (slots, settled, is) = record {
    slots = slots;
    holds = held slots settled;
    number = last_number (newest slots);
    is_newest = some_payload (newest slots) payload (subst (IsPayloadOf (newest slots)) some is);
  }

  -- its number is the pair's
  pub loaded_number : (payload : Vec ℕ Global) (some : found ≡ Some payload) (loaded : Loaded) → (loaded_some payload some loaded).number ≡ pair.number
  unfolding loaded_some
  loaded_number payload some (slots, settled, is) = sym settled.number

-- what a refusal was passed on as
pub passed_on : {T E : Type 0} (result : Result T E) (told field : E) → IsErrAnd result (λ e. e ≡ field) → result ≡ Err told → field ≡ told
passed_on {T} {E} result told field passed is = sym (subst (λ (r : Result T E). IsErrAnd r (λ e. e ≡ field)) is passed)

-- a payload that encodes a superblock
pub held_encoding : (sb : Superblock) (payload bytes : List ℕ) → IsEncoding payload sb → HoldsPayload payload bytes → HoldsPayload (superblock_encoding sb) bytes
held_encoding sb payload bytes encoded holds = record {
  slots = holds.slots;
  holds = holds.holds;
  number = holds.number;
  is_newest = holds.is_newest ∙ (λ i. Some (record { number = holds.number; payload = encoded.encoded i }));
}

pub held_superblock : (sb : Superblock) (payload bytes : List ℕ) → IsEncoding payload sb → (holds : HoldsPayload payload bytes) → CanMigrate sb holds.number → HoldsSuperblock sb bytes
unfolding held_encoding
held_superblock sb payload bytes encoded holds migrates = record { is = encoded.is; payload = held_encoding sb payload bytes encoded holds; migrates = migrates }

-- and one of version 1 with the greatest number
pub at_end : (sb : Superblock) (payload bytes : List ℕ) → IsEncoding payload sb → (holds : HoldsPayload payload bytes) → sb.version ≡ One → holds.number ≡ MAX_NUMBER → IsAtEnd bytes
unfolding held_encoding
at_end sb payload bytes encoded holds old last = record { superblock = sb; is = encoded.is; holds = held_encoding sb payload bytes encoded holds; old = old; last = last }
