-- What a mark leaves, and where a block stands.
use Rattle.std.proofs.Common.{◌≡◌, ◌⊎◌, inl, inr, ℕ, ◌+◌, ◌-◌, ◌*◌, List, take, drop, Some, None, refl, sym, ◌∙◌, ap, subst, arith}
use Rattle.std.specs.List.{slice_range}
use Rattle.volume.specs.Writes.{block_of}
use Rattle.disk_model.specs.Disk.{LeavesOnly}
use Rattle.disk_model.specs.Moments.{weaker}
use Rattle.disk_model.specs.Part.{inside}
use Rattle.disk_model.specs.declared.part.Part.{Part}
use Rattle.gate_journal.specs.Pair.{Entry, HoldsPair, HoldsStored, IsSettledPair, Pair, Slots, last_number, newest, next_slot, stored, with_entry}
use Rattle.home_blocks.specs.Home.{HoldsSuperblock, IsSettledHome, State}
use Rattle.home_blocks.specs.Superblock.{IsSuperblock, Superblock, marked, superblock_encoding}
use Rattle.home_blocks.specs.declared.area.Area.{Area}
use Rattle.home_blocks.specs.declared.version.Version.TheVariants.{Two}
use Rattle.home_blocks.proofs.Payloads.{never_old}

-- a block is what is read at its place
pub block_read : (bytes : List ℕ) (b n at : ℕ) → n ≡ 4096 → at ≡ 4096 * b → slice_range bytes at (at + n) ≡ block_of bytes b
unfolding block_of
block_read bytes b n at whole place =
    let count : at + n - at ≡ 4096 = omega arith in
    ap (λ (k : ℕ). take k (drop at bytes)) count ∙ ap (λ (k : ℕ). take 4096 (drop k bytes)) place

-- and so are the bytes from a block on
pub blocks_read : (bytes : List ℕ) (b n at : ℕ) → at ≡ 4096 * b → slice_range bytes at (at + n) ≡ take n (drop (4096 * b) bytes)
blocks_read bytes b n at place =
    let count : at + n - at ≡ n = omega arith in
    ap (λ (k : ℕ). take k (drop at bytes)) count ∙ ap (λ (k : ℕ). take n (drop k bytes)) place

-- an emptied slot leaves the newer one, and the next number is the newer one
abbrev pub LeavesOld : Type 0
LeavesOld = (slots : Slots) → newest (with_entry (next_slot slots) None slots) ≡ newest slots

abbrev pub LeavesNew : Type 0
LeavesNew = (slots : Slots) (new : Entry) → new.number ≡ last_number (newest slots) + 1 → newest (with_entry (next_slot slots) (Some new) slots) ≡ Some new

module _ (home : State) (gives : List ℕ) (left : List ℕ → Type 0) (settled : IsSettledHome home gives left) (sb : Superblock) (is : IsSuperblock sb) (two : sb.version ≡ Two) (payload : List ℕ) (encoded : payload ≡ superblock_encoding sb) (old : LeavesOld) (new : LeavesNew) where
  abbrev entry : Entry
  entry = record { number = home.pair.number + 1; payload = payload }

  abbrev marked_slots : Slots
  marked_slots = with_entry home.pair.into (Some entry) settled.slots

  newer : newest marked_slots ≡ Some (record { number = home.pair.number + 1; payload = superblock_encoding sb })
  newer =
      ap (λ (k : ℕ). newest (with_entry k (Some entry) settled.slots)) settled.pair.into
      ∙ new settled.slots entry (ap (λ (k : ℕ). k + 1) settled.pair.number)
      ∙ (λ i. Some (record { number = home.pair.number + 1; payload = encoded i }))

  holds_old : (slots : Slots) (c : List ℕ) → newest slots ≡ newest settled.slots → HoldsPair slots (inside home.pair.part c) → HoldsSuperblock home.superblock c
  holds_old slots c same holds = record {
    is = settled.is;
    payload = record {
      slots = slots;
      holds = subst (λ (part : Part). HoldsPair slots (inside part c)) settled.place holds;
      number = home.pair.number;
      is_newest = same ∙ settled.is_newest;
    };
    migrates = settled.migrates;
  }

  -- a stop in a mark leaves the old superblock or the new
  pub mark_leaves : (c : List ℕ) → HoldsStored settled.slots home.pair.into entry (inside home.pair.part c) → HoldsSuperblock home.superblock c ⊎ HoldsSuperblock sb c
  mark_leaves c (inl holds) = inl (holds_old settled.slots c refl holds)
  mark_leaves c (inr (inl holds)) =
      inl (holds_old (with_entry home.pair.into None settled.slots) c (ap (λ (k : ℕ). newest (with_entry k None settled.slots)) settled.pair.into ∙ old settled.slots) holds)
  mark_leaves c (inr (inr holds)) = inr (record {
    is = is;
    payload = record {
      slots = marked_slots;
      holds = subst (λ (part : Part). HoldsPair marked_slots (inside part c)) settled.place holds;
      number = home.pair.number + 1;
      is_newest = newer;
    };
    migrates = never_old sb (home.pair.number + 1) two;
  })

  -- and after it the new one is settled
  pub mark_settled : (pair : Pair) (now : List ℕ) (left_now : List ℕ → Type 0) → pair ≡ stored home.pair → IsSettledPair pair marked_slots now left_now → IsSettledHome (record { pair = pair; superblock = sb }) now left_now
  mark_settled pair now left_now same stands = record {
    is = is;
    place = ap (λ (p : Pair). p.part) same ∙ settled.place;
    slots = marked_slots;
    pair = stands;
    is_newest = newer ∙ (λ i. Some (record { number = sym (ap (λ (p : Pair). p.number) same) i; payload = superblock_encoding sb }));
    migrates = never_old sb pair.number two;
  }

-- a whole mark, of a home that is seen as another
pub mark_run : {D : Type 0} {moment : D → ℕ} {left_since : D → ℕ → List ℕ → Type 0} {before after : D} (home now : State) (same : home ≡ now) (gives : List ℕ) (left : List ℕ → Type 0) → IsSettledHome now gives left
    → (front : ℕ) (area : Area) (sb : Superblock) → sb ≡ marked home.superblock front area → IsSuperblock sb → (payload : List ℕ) → payload ≡ superblock_encoding sb → LeavesOld → LeavesNew
    → ((slots : Slots) → IsSettledPair home.pair slots gives left → LeavesOnly moment left_since before after (λ c. HoldsStored slots home.pair.into (record { number = home.pair.number + 1; payload = payload }) (inside home.pair.part c)))
    → LeavesOnly moment left_since before after (λ c. HoldsSuperblock now.superblock c ⊎ HoldsSuperblock (marked now.superblock front area) c)
mark_run {D} {moment} {left_since} {before} {after} home now same gives left settled front area sb made is payload encoded old new run =
    let here : IsSettledHome home gives left = subst (λ (h : State). IsSettledHome h gives left) (sym same) settled in
    let Leaves : State → Superblock → Type 0 = λ h s. LeavesOnly moment left_since before after (λ c. HoldsSuperblock h.superblock c ⊎ HoldsSuperblock s c) in
    subst (λ (h : State). Leaves h (marked h.superblock front area)) same
    (subst (λ (s : Superblock). Leaves home s) made
    (weaker moment left_since before after
    (λ c. HoldsStored here.slots home.pair.into (record { number = home.pair.number + 1; payload = payload }) (inside home.pair.part c))
    (λ c. HoldsSuperblock home.superblock c ⊎ HoldsSuperblock sb c)
    (mark_leaves home gives left here sb is (ap (λ (s : Superblock). s.version) made) payload encoded old new)
    (run here.slots here.pair)))
