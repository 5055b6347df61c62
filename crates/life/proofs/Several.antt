-- A recovery from several disks: lemmas.
use Rattle.std.proofs.Common.{◌≡◌, ℕ, zero, suc, ◌<◌, ◌≤◌, List, [], ◌∷◌, length, refl, ap, sym, subst, ◌∙◌, inl, inr, arith}
use Rattle.std.specs.Prelude.{◌⊎◌, All, Err, IfErr, IfOk, None, Ok, Option, Result, Some, get_or, insert, remove, slice_get}
use Rattle.std.specs.List.{AllZip}
use Rattle.std.proofs.lemmas.List.Edits.{get_or-insert_at, length-insert}
use Rattle.std.proofs.lemmas.Option.{get_or_from_slice_get, slice_get_read, slice_get_within}
use Rattle.configurations.specs.Record.{Record}
use Rattle.configurations.specs.Store.{HoldsNone, HoldsRecord}
use Rattle.configurations.specs.declared.refusal.Refusal.TheVariants as configs
use Rattle.disk_model.specs.Counts.{within_by}
use Rattle.disk_model.specs.Memory.{failures_of, given_of, has_stopped, most_failures_of, script_of, size_of}
use Rattle.disk_model.specs.Part.{inside}
use Rattle.disk_model.specs.declared.memory.MemDisk.{MemDisk}
use Rattle.local_store.specs.Meaning.{Meaning, Means}
use Rattle.life.specs.Managed.{Managed, StandsAs, StandsOn, config_part}
use Rattle.life.specs.Recovered.{AreCausedBy, HasBrokenOff, HasChain, IsBack, IsChosen, IsRead, IsReadWell, IsSpared, IsStranger, IsUnwritten, IsWellAt, OneHasStopped, RecordsStill, Recovers, RecoversFrom, StandsThere}
use Rattle.life.specs.Refusal.{IsCausedBy, IsOfChoosing, IsOfReturning, IsStopOf}
use Rattle.life.specs.declared.managed.SlotDisk.{SlotDisk}
use Rattle.life.specs.declared.refusal.Refusal.{Refusal}
use Rattle.life.specs.declared.refusal.Refusal.TheVariants.{Config, Memory, NoneReturned, NotInChain, Store}
use Rattle.life.proofs.Beside.{zip_remove}
use Rattle.life.proofs.Chosen.{no_stranger, recovers_same, source_is, spared_others_read}
use Rattle.life.proofs.Places.{all_at}
use Rattle.life.proofs.Starting.{IsStore, about_of_store, keeps_volume, leaves_now}

-- ---- what is so of a result

pub ok_is : {T E : Type 0} (P : T → Type 0) (result : Result T E) (t : T) → result ≡ Ok t → IfOk result P → P t
ok_is P result t is so = subst (λ o. IfOk o P) is so

pub err_is : {T E : Type 0} (P : E → Type 0) (result : Result T E) (e : E) → result ≡ Err e → IfErr result P → P e
err_is P result e is so = subst (λ o. IfErr o P) is so

pub ok_more : {T E : Type 0} {P Q : T → Type 0} (result : Result T E) → IfOk result P → ((t : T) → P t → Q t) → IfOk result Q
ok_more (Ok t) so more = more t so
ok_more (Err e) so more = tt

pub ok_both : {T E : Type 0} {P R Q : T → Type 0} (result : Result T E) → IfOk result P → IfOk result R → ((t : T) → P t → R t → Q t) → IfOk result Q
ok_both (Ok t) so also more = more t so also
ok_both (Err e) so also more = tt

pub err_more : {T E : Type 0} {P Q : E → Type 0} (result : Result T E) → IfErr result P → ((e : E) → P e → Q e) → IfErr result Q
err_more (Ok t) so more = tt
err_more (Err e) so more = more e so

pub err_both : {T E : Type 0} {P R Q : E → Type 0} (result : Result T E) → IfErr result P → IfErr result R → ((e : E) → P e → R e → Q e) → IfErr result Q
err_both (Ok t) so also more = tt
err_both (Err e) so also more = more e so also

-- ---- the source

-- who stands beside an item of the first
zip_beside : {A B : Type 0} (R : A → B → Type 0) (xs : List A) (ys : List B) (k : ℕ) (x : A) → AllZip R xs ys → slice_get xs k ≡ Some x → (y : B) × (slice_get ys k ≡ Some y) × R x y
zip_beside R [] ys k x all there = let none : None ≡ Some x = there in absurd (cc)
zip_beside R (a ∷ xs) [] k x all there = absurd all
zip_beside R (a ∷ xs) (b ∷ ys) zero x all there = let some : Some a ≡ Some x = there in let same : a ≡ x = cc some in (b, refl, subst (λ z. R z b) same all.0)
zip_beside R (a ∷ xs) (b ∷ ys) (suc k) x all there = zip_beside R xs ys k x all.1 there

-- the place of the source is one of the disks'
pub place_within : (returned : List ℕ) (disks mid : List (SlotDisk MemDisk)) (r : Record) (place : ℕ) → AllZip IsRead disks mid → IsChosen returned disks r place → place < length mid
place_within returned disks mid r place read chosen =
    let src = source_is returned disks r place chosen in
    let (now, here, is) = zip_beside IsRead disks mid place src.disk read src.there in
    slice_get_within mid place now here

-- What the source was before it was read.
pub record WasRead (disks : List (SlotDisk MemDisk)) (place : ℕ) (source : SlotDisk MemDisk) : Type 0 where
  pub was : SlotDisk MemDisk
  pub there : slice_get disks place ≡ Some was
  pub read : IsRead was source
  pub failures : failures_of source.disk ≡ failures_of was.disk
  pub most : most_failures_of source.disk ≤ most_failures_of was.disk

was_read : (returned : List ℕ) (disks mid : List (SlotDisk MemDisk)) (r : Record) (place : ℕ) (source : SlotDisk MemDisk) → AllZip IsRead disks mid → IsChosen returned disks r place → IsWellAt disks mid place
    → source ≡ get_or mid place source → WasRead disks place source
was_read returned disks mid r place source read chosen well taken =
    let src = source_is returned disks r place chosen in
    let (now, here, is) = zip_beside IsRead disks mid place src.disk read src.there in
    let same : now ≡ source = sym (get_or_from_slice_get mid place now source here) ∙ sym taken in
    let (read_then, failures, most) = subst (λ (d : SlotDisk MemDisk). IsReadWell src.disk d) same (well src.disk now src.there here) in
    record { was = src.disk; there = src.there; read = read_then; failures = failures; most = most }

-- The source was chosen by the record that stands, and taken out of the disks that were read.
pub record IsTaken (returned : List ℕ) (disks : List (SlotDisk MemDisk)) (config : MemDisk) (place : ℕ) (source : SlotDisk MemDisk) : Type 0 where
  pub recorded : Record
  pub there : StandsThere config recorded
  pub chosen : IsChosen returned disks recorded place
  pub was : WasRead disks place source

pub taken : (returned : List ℕ) (disks mid : List (SlotDisk MemDisk)) (config : MemDisk) (choice : Result ℕ Refusal) (place : ℕ) (source : SlotDisk MemDisk) → choice ≡ Ok place
    → IfOk choice (λ k. (r : Record) × StandsThere config r × IsChosen returned disks r k) → IfOk choice (IsWellAt disks mid) → AllZip IsRead disks mid → source ≡ get_or mid place source → IsTaken returned disks config place source
taken returned disks mid config choice place source is found well read from =
    let (r, there, chosen) = ok_is (λ k. (r : Record) × StandsThere config r × IsChosen returned disks r k) choice place is found in
    record { recorded = r; there = there; chosen = chosen; was = was_read returned disks mid r place source read chosen (ok_is (IsWellAt disks mid) choice place is well) from }

-- it can fail no more, if it couldn't before
pub source_calm : (disks : List (SlotDisk MemDisk)) (place : ℕ) (source : SlotDisk MemDisk) → WasRead disks place source → All (λ d. failures_of d.disk ≡ most_failures_of d.disk) disks
    → failures_of source.disk ≡ most_failures_of source.disk
source_calm disks place source was calm =
    calm_read source.disk (failures_of was.was.disk) (most_failures_of was.was.disk) was.failures was.most (all_at (λ d. failures_of d.disk ≡ most_failures_of d.disk) disks place was.was calm was.there)
  where
    calm_read : (now : MemDisk) (failures most : ℕ) → failures_of now ≡ failures → most_failures_of now ≤ most → failures ≡ most → failures_of now ≡ most_failures_of now
    calm_read now failures most same below calm = let within : failures_of now ≤ most_failures_of now = within_by (script_of now) (has_stopped now) (failures_of now) in omega (arith, within, same, below, calm)

-- nor can the configuration's
pub config_calm : (config now : MemDisk) → failures_of now ≡ failures_of config → most_failures_of now ≤ most_failures_of config → failures_of config ≡ most_failures_of config → failures_of now ≡ most_failures_of now
config_calm config now same below calm = let within : failures_of now ≤ most_failures_of now = within_by (script_of now) (has_stopped now) (failures_of now) in omega (arith, within, same, below, calm)

-- it is no stranger
pub no_stranger_there : (returned : List ℕ) (disks : List (SlotDisk MemDisk)) (r : Record) (place : ℕ) (source : SlotDisk MemDisk) (config config_now : MemDisk)
    → ((one other : Meaning) (bytes : List ℕ) → Means one bytes → Means other bytes → one ≡ other) → ((some other : Record) (bytes : List ℕ) → HoldsRecord some bytes → HoldsRecord other bytes → some ≡ other)
    → StandsThere config r → IsChosen returned disks r place → WasRead disks place source → given_of config_now ≡ given_of config → IsStranger source.disk config_now → ⊥
no_stranger_there returned disks r place source config config_now one_meaning one_record there chosen was same stranger =
    no_stranger returned disks r place config was.was one_meaning one_record there chosen was.there (record {
      recorded = stranger.recorded;
      meaning = stranger.meaning;
      stands = subst (λ (b : List ℕ). StandsOn b stranger.recorded) same stranger.stands;
      means = subst (Means stranger.meaning) was.read.1.same stranger.means;
      out = stranger.out;
    })

-- ---- the chain goes on

pub recovers_from : (returned : List ℕ) (disks mid others : List (SlotDisk MemDisk)) (r : Record) (place : ℕ) (source : SlotDisk MemDisk) (config config_now : MemDisk) (new : Managed IsStore)
    → ((some other : Record) (bytes : List ℕ) → HoldsRecord some bytes → HoldsRecord other bytes → some ≡ other) → StandsThere config r → IsChosen returned disks r place → AllZip IsRead disks mid → WasRead disks place source
    → given_of config_now ≡ given_of config → others ≡ remove mid place → Recovers about_of_store keeps_volume leaves_now source.disk config_now new → new.outside ≡ others
    → RecoversFrom about_of_store keeps_volume leaves_now returned disks config new
recovers_from returned disks mid others r place source config config_now new one_record there chosen read was same_config rest found outside =
    let recovers : Recovers about_of_store keeps_volume leaves_now was.was.disk config new = recovers_same was.was.disk source.disk config config_now new new.outside (was.read.1).same same_config found in
    let same : r ≡ recovers.recorded = one_record r recovers.recorded (inside config_part (given_of config)) there.stands recovers.stands in
    record {
      place = place;
      source = was.was;
      there = was.there;
      recovers = recovers;
      chosen = subst (λ (x : Record). IsChosen returned disks x place) same chosen;
      outside = subst (λ l. AllZip IsSpared (remove disks place) l) (sym (outside ∙ rest)) (spared_others_read disks mid place read);
    }

-- ---- it was broken off

-- a disk that isn't there
pub nothing_there : (o : Option MemDisk) → ((disk : MemDisk) → o ≡ Some disk → ⊥) → o ≡ None
nothing_there None never = refl
nothing_there (Some disk) never = absurd (never disk refl)

-- what is left of the record's disk, where that and the source were only read before
pub records_back : (was now config config_now back : MemDisk) → IsUnwritten was now → IsUnwritten config config_now → RecordsStill now config_now back → RecordsStill was config back
records_back was now config config_now back read read_config still = λ r number stands only x left.
    elim (still r number (subst (λ (b : List ℕ). StandsAs b r number) (sym read_config.same) stands) (λ y left_y. only y (read_config.leaves y left_y) ∙ sym read_config.same) x left) [
      | inl old ↦ inl old
      | inr (meaning, means, has, next) ↦ inr (meaning, subst (Means meaning) read.same means, has, next)
    ]

-- so the source came back
pub is_back : (was now back config config_now config_back : MemDisk) → IsUnwritten was now → IsUnwritten config config_now → IsBack now config_now back config_back → IsBack was config back config_back
is_back was now back config config_now config_back read read_config is = record {
  again = λ meaning means only x left. is.again meaning (subst (Means meaning) (sym read.same) means) (λ y left_y. only y (read.leaves y left_y) ∙ sym read.same) x left;
  order = elim is.order [
    | inl unwritten ↦ inl (record { same = unwritten.same ∙ read.same; leaves = λ y left. read.leaves y (unwritten.leaves y left) })
    | inr alone ↦ inr (record {
      recorded = alone.recorded;
      meaning = alone.meaning;
      stands = subst (λ (b : List ℕ). StandsOn b alone.recorded) read_config.same alone.stands;
      means = subst (Means alone.meaning) read.same alone.means;
      has = alone.has;
      each = alone.each;
    })
  ];
}

-- The source came back to its place, unless memory ran out.
abbrev CameBack : SlotDisk MemDisk → MemDisk → ℕ → List (SlotDisk MemDisk) → List (SlotDisk MemDisk) → MemDisk → Refusal → Type 0
CameBack source config place others back config_back refusal = ((now : MemDisk) × (back ≡ insert others place (record { slot = source.slot; disk = now }))
    × IsBack source.disk config now config_back × (IsCausedBy (failures_of source.disk) (failures_of now) refusal ⊎ IsStopOf now refusal)) ⊎ ((back ≡ others) × (refusal ≡ Memory))

pub broken_off : (returned : List ℕ) (disks mid others : List (SlotDisk MemDisk)) (r : Record) (place : ℕ) (source : SlotDisk MemDisk) (config config_now : MemDisk) (refusal : Refusal) (back : List (SlotDisk MemDisk)) (config_back : MemDisk)
    → StandsThere config r → IsChosen returned disks r place → AllZip IsRead disks mid → WasRead disks place source → IsUnwritten config config_now → others ≡ remove mid place
    → RecordsStill source.disk config_now config_back → CameBack source config_now place others back config_back refusal
    → HasBrokenOff returned disks config refusal back config_back
broken_off returned disks mid others r place source config config_now refusal back config_back there chosen read was read_config rest records came = record {
  place = place;
  source = was.was;
  there = was.there;
  recorded = r;
  chain = there;
  chosen = chosen;
  others = others;
  read = subst (λ l. AllZip IsRead (remove disks place) l) (sym rest) (zip_remove IsRead disks mid place read);
  records = records_back was.was.disk source.disk config config_now config_back was.read.1 read_config records;
  came_back = elim came [
    | inl (now, is, own, cause) ↦ inl (
      now,
      is ∙ ap (λ (s : ℕ). insert others place (record { slot = s; disk = now })) was.read.0,
      is_back was.was.disk source.disk now config config_now config_back was.read.1 read_config own,
    )
    | inr gone ↦ inr gone
  ];
}

-- ---- why

-- what was put in at a place stands there
put_there : (xs : List (SlotDisk MemDisk)) (k : ℕ) (x : SlotDisk MemDisk) → k ≤ length xs → slice_get (insert xs k x) k ≡ Some x
put_there xs k x within = slice_get_read (insert xs k x) (length (insert xs k x)) k x refl (omega (arith, length-insert xs k x within, within)) (sym (get_or-insert_at xs k x x within))

caused_at : (disks back : List (SlotDisk MemDisk)) (place : ℕ) (was now : SlotDisk MemDisk) (refusal : Refusal) → slice_get disks place ≡ Some was → slice_get back place ≡ Some now
    → IsCausedBy (failures_of was.disk) (failures_of now.disk) refusal → AreCausedBy disks back refusal
caused_at disks back place was now (Store refusal) there here cause = record { place = place; was = was; now = now; there = there; came_back = here; cause = cause }
caused_at disks back place was now (Config refusal) there here cause = tt
caused_at disks back place was now Memory there here cause = tt
caused_at disks back place was now NoneReturned there here cause = tt
caused_at disks back place was now NotInChain there here cause = tt

pub caused_back : (disks others : List (SlotDisk MemDisk)) (place : ℕ) (source : SlotDisk MemDisk) (config_now : MemDisk) (refusal : Refusal) (back : List (SlotDisk MemDisk)) (config_back : MemDisk) → WasRead disks place source → place ≤ length others
    → CameBack source config_now place others back config_back refusal → AreCausedBy disks back refusal ⊎ OneHasStopped back refusal
caused_back disks others place source config_now refusal back config_back was within (inl (now, is, own, cause)) =
    let back_there : SlotDisk MemDisk = record { slot = source.slot; disk = now } in
    let here : slice_get back place ≡ Some back_there = ap (λ l. slice_get l place) is ∙ put_there others place back_there within in
    elim cause [
      | inl caused ↦ inl (caused_at disks back place was.was back_there refusal was.there here (subst (λ (n : ℕ). IsCausedBy n (failures_of now) refusal) was.failures caused))
      | inr stop ↦ inr (record { place = place; now = back_there; there = here; stopped = stop })
    ]
caused_back disks others place source config_now refusal back config_back was within (inr (is, memory)) = inl (subst (AreCausedBy disks back) (sym memory) tt)

-- where a chain is recorded, it isn't for want of a record
has_none : (config : MemDisk) → HasChain config → (size_of config < 8192) ⊎ HoldsNone (inside config_part (given_of config)) → ⊥
has_none config has (inl short) = omega (arith, has.long, short)
has_none config has (inr none) = none has.recorded has.stands

pub choosing_returns : (config : MemDisk) (refusal : Refusal) → IsOfChoosing refusal → (refusal ≡ Config configs.NoRecord → (size_of config < 8192) ⊎ HoldsNone (inside config_part (given_of config))) → HasChain config → IsOfReturning refusal
choosing_returns config Memory told none has = tt
choosing_returns config NoneReturned told none has = tt
choosing_returns config NotInChain told none has = tt
choosing_returns config (Store refusal) told none has = told
choosing_returns config (Config configs.Memory) told none has = tt
choosing_returns config (Config configs.NoRecord) told none has = absurd (has_none config has (none refl))
choosing_returns config (Config (configs.Device error)) told none has = tt
choosing_returns config (Config configs.Broken) told none has = absurd told
choosing_returns config (Config configs.NotNext) told none has = absurd told
choosing_returns config (Config configs.BadMembers) told none has = absurd told
