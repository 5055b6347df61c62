-- What disks that return are seen as, and which of them is chosen: lemmas.
use Rattle.std.proofs.Common.{◌≡◌, ℕ, zero, suc, ◌+◌, ◌≤◌, Bool, true, false, List, [], ◌∷◌, ◌++◌, length, refl, ap, sym, subst, ◌∙◌, inl, inr, arith}
use Rattle.std.specs.Prelude.{◌≢◌, ◌==◌, All, AllPairs, None, Option, Some, option_map, position, remove, slice_get, Result, Ok, Err, IfErr, IsErrOf}
use Rattle.std.specs.List.{AllZip}
use Rattle.std.proofs.lemmas.Bool.{cases_eq, eq-eqb, eqb-true}
use Rattle.std.proofs.lemmas.Option.{get_or_from_slice_get, same_Some, slice_get_within}
use Rattle.chain_model.specs.View.{is_in}
use Rattle.chain_model.proofs.PlaceSteps.{place_further, place_here}
use Rattle.chain_steps.specs.Place.{incarnation_in, is_it, member_at}
use Rattle.configurations.specs.Record.{AreMembers, Record}
use Rattle.configurations.specs.declared.member.Member.{Member}
use Rattle.configurations.specs.Store.{HoldsRecord}
use Rattle.disk_model.specs.Memory.{failures_of, given_of, most_failures_of}
use Rattle.disk_model.specs.Part.{inside}
use Rattle.disk_model.specs.declared.content.Cut.{Cut}
use Rattle.disk_model.specs.declared.memory.MemDisk.{MemDisk}
use Rattle.home_blocks.specs.Places.{disk_size_of}
use Rattle.local_store.specs.Meaning.{Meaning, Means}
use Rattle.recovery.specs.Choice.{NoneRecorded}
use Rattle.recovery.specs.declared.refusal.Refusal as recovery
use Rattle.recovery.specs.declared.refusal.Refusal.TheVariants as recoveries
use Rattle.recovery.specs.declared.returned.Returned.{Returned}
use Rattle.recovery.specs.declared.returned.Returned.TheVariants.{Opened, Unopened}
use Rattle.life.specs.Begun.{IsOfMember}
use Rattle.life.specs.Managed.{IsAmong, Managed, StandsAs, StandsOn, config_part}
use Rattle.life.specs.Recovered.{AreSeen, AreSeenFrom, AreStrangers, GivesOnly, HasChain, IsAtItsEnd, IsChosen, IsCutAnew, IsNoChoice, IsRead, IsSeenAs, IsSeenIf, IsSpared, IsStill, IsStranger, MayReturn, NoneReturns, Recovers, StandsThere, comes_back, recorded_as}
use Rattle.life.specs.declared.managed.SlotDisk.{SlotDisk}
use Rattle.std.proofs.lemmas.List.Elements.{length_all_zip}
use Rattle.life.specs.Refusal.{IsOfCalmChoice}
use Rattle.life.specs.declared.refusal.Refusal.TheVariants.{NoneReturned, NotInChain}
use Rattle.life.specs.declared.refusal.Refusal.{Refusal}
use Rattle.life.proofs.Beside.{zip_remove, zip_second, zip_then, zip_weaker, zip_with}
use Rattle.life.proofs.Starting.{IsStore, about_of_store, keeps_volume, leaves_now}

-- ---- what a disk is seen as

-- a disk that gives the same is the same member's
pub of_member_as : (a b : MemDisk) → given_of a ≡ given_of b → (is : IsOfMember a) → (now : IsOfMember b) × (now.meaning ≡ is.meaning)
of_member_as a b same is = (
  record {
    meaning = is.meaning;
    means = subst (Means is.meaning) same is.means;
    given = is.given;
    long = subst (λ (l : List ℕ). disk_size_of is.meaning.geometry ≤ length l) same is.long;
  },
  refl,
)

seen_as : (a b : MemDisk) → given_of a ≡ given_of b → (s : Returned) → IsSeenAs a s → IsSeenAs b s
seen_as a b same (Opened member front) (is, own, at) =
    let (now, meaning) = of_member_as a b same is in
    (now, own ∙ ap recorded_as (sym meaning), at ∙ ap (λ (m : Meaning). m.front) (sym meaning))
seen_as a b same Unopened none = λ is. none (of_member_as b a (sym same) is).0

seen_if : (back : Bool) (a b : MemDisk) → given_of a ≡ given_of b → (s : Returned) → IsSeenIf back a s → IsSeenIf back b s
seen_if true a b same s is = seen_as a b same s is
seen_if false a b same s is = is

-- so are several that give the same
pub seen_same : (R : SlotDisk MemDisk → SlotDisk MemDisk → Type 0) → ((was now : SlotDisk MemDisk) → R was now → given_of now.disk ≡ given_of was.disk)
    → (returned : List ℕ) (place : ℕ) (was now : List (SlotDisk MemDisk)) (seen : List Returned) → AllZip R was now → AreSeenFrom returned place now seen → AreSeenFrom returned place was seen
seen_same R same returned place [] [] [] all are = are
seen_same R same returned place [] [] (s ∷ seen) all are = are
seen_same R same returned place [] (n ∷ now) seen all are = absurd all
seen_same R same returned place (w ∷ was) [] seen all are = absurd all
seen_same R same returned place (w ∷ was) (n ∷ now) [] all are = are
seen_same R same returned place (w ∷ was) (n ∷ now) (s ∷ seen) all are =
    (seen_if (comes_back returned place) n.disk w.disk (same w n all.0) s are.0, seen_same R same returned (place + 1) was now seen all.1 are.1)

-- one more was looked at
pub seen_more : (returned : List ℕ) (place : ℕ) (disks : List (SlotDisk MemDisk)) (seen : List Returned) (d : SlotDisk MemDisk) (s : Returned) → AreSeenFrom returned place disks seen
    → IsSeenIf (comes_back returned (place + length disks)) d.disk s → AreSeenFrom returned place (disks ++ d ∷ []) (seen ++ s ∷ [])
seen_more returned place [] [] d s are is = (subst (λ (k : ℕ). IsSeenIf (comes_back returned k) d.disk s) (let e : place + 0 ≡ place = omega arith in e) is, tt)
seen_more returned place [] (x ∷ seen) d s are is = absurd are
seen_more returned place (x ∷ disks) [] d s are is = absurd are
seen_more returned place (x ∷ disks) (y ∷ seen) d s are is =
    (are.0, seen_more returned (place + 1) disks seen d s are.1 (subst (λ (k : ℕ). IsSeenIf (comes_back returned k) d.disk s) (let e : place + length (x ∷ disks) ≡ (place + 1) + length disks = omega arith in e) is))

-- what is seen at a place is its disk, if that returns
seen_from : (returned : List ℕ) (start place : ℕ) (disks : List (SlotDisk MemDisk)) (seen : List Returned) (s : Returned) → AreSeenFrom returned start disks seen → slice_get seen place ≡ Some s
    → (d : SlotDisk MemDisk) × (slice_get disks place ≡ Some d) × IsSeenIf (comes_back returned (start + place)) d.disk s
seen_from returned start place [] [] s are there = let none : None ≡ Some s = there in absurd (cc)
seen_from returned start place [] (y ∷ seen) s are there = absurd are
seen_from returned start place (x ∷ disks) [] s are there = absurd are
seen_from returned start zero (x ∷ disks) (y ∷ seen) s are there =
    let some : Some y ≡ Some s = there in
    let same : y ≡ s = cc some in
    (x, refl, subst (IsSeenIf (comes_back returned (start + 0)) x.disk) same (subst (λ (k : ℕ). IsSeenIf (comes_back returned k) x.disk y) (let e : start ≡ start + 0 = omega arith in e) are.0))
seen_from returned start (suc k) (x ∷ disks) (y ∷ seen) s are there =
    let (d, here, is) = seen_from returned (start + 1) k disks seen s are.1 there in
    (d, here, subst (λ (n : ℕ). IsSeenIf (comes_back returned n) d.disk s) (let e : (start + 1) + k ≡ start + suc k = omega arith in e) is)

pub seen_there : (returned : List ℕ) (place : ℕ) (disks : List (SlotDisk MemDisk)) (seen : List Returned) (s : Returned) → AreSeen returned disks seen → slice_get seen place ≡ Some s
    → (d : SlotDisk MemDisk) × (slice_get disks place ≡ Some d) × IsSeenIf (comes_back returned place) d.disk s
seen_there returned place disks seen s are there =
    let (d, here, is) = seen_from returned 0 place disks seen s are there in
    (d, here, subst (λ (n : ℕ). IsSeenIf (comes_back returned n) d.disk s) (let e : 0 + place ≡ place = omega arith in e) is)

-- and each disk is seen as something
seen_of : (returned : List ℕ) (start place : ℕ) (disks : List (SlotDisk MemDisk)) (seen : List Returned) (d : SlotDisk MemDisk) → AreSeenFrom returned start disks seen → slice_get disks place ≡ Some d
    → (s : Returned) × (slice_get seen place ≡ Some s) × IsSeenIf (comes_back returned (start + place)) d.disk s
seen_of returned start place [] seen d are there = let none : None ≡ Some d = there in absurd (cc)
seen_of returned start place (x ∷ disks) [] d are there = absurd are
seen_of returned start zero (x ∷ disks) (y ∷ seen) d are there =
    let some : Some x ≡ Some d = there in
    let same : x ≡ d = cc some in
    (y, refl, subst (λ (z : SlotDisk MemDisk). IsSeenIf (comes_back returned (start + 0)) z.disk y) same (subst (λ (k : ℕ). IsSeenIf (comes_back returned k) x.disk y) (let e : start ≡ start + 0 = omega arith in e) are.0))
seen_of returned start (suc k) (x ∷ disks) (y ∷ seen) d are there =
    let (s, here, is) = seen_of returned (start + 1) k disks seen d are.1 there in
    (s, here, subst (λ (n : ℕ). IsSeenIf (comes_back returned n) d.disk s) (let e : (start + 1) + k ≡ start + suc k = omega arith in e) is)

pub seen_of_disk : (returned : List ℕ) (place : ℕ) (disks : List (SlotDisk MemDisk)) (seen : List Returned) (d : SlotDisk MemDisk) → AreSeen returned disks seen → slice_get disks place ≡ Some d
    → (s : Returned) × (slice_get seen place ≡ Some s) × IsSeenIf (comes_back returned place) d.disk s
seen_of_disk returned place disks seen d are there =
    let (s, here, is) = seen_of returned 0 place disks seen d are there in
    (s, here, subst (λ (n : ℕ). IsSeenIf (comes_back returned n) d.disk s) (let e : 0 + place ≡ place = omega arith in e) is)

-- ---- the source

-- it is a disk that returns, and the recorded member's that it is seen as
pub record IsTheSource (returned : List ℕ) (disks : List (SlotDisk MemDisk)) (r : Record) (place : ℕ) : Type 0 where
  pub disk : SlotDisk MemDisk
  pub there : slice_get disks place ≡ Some disk
  pub is : IsOfMember disk.disk
  pub seat : ℕ
  pub recorded : slice_get r.members seat ≡ Some (recorded_as is.meaning)
  pub returns : comes_back returned place ≡ true

opened_returns : (back : Bool) (disk : MemDisk) (member : Member) (front : ℕ) → IsSeenIf back disk (Opened member front) → (back ≡ true) × IsSeenAs disk (Opened member front)
opened_returns true disk member front is = (refl, is)
opened_returns false disk member front is = let clash : Opened member front ≡ Unopened = is in absurd (cc)

pub source_is : (returned : List ℕ) (disks : List (SlotDisk MemDisk)) (r : Record) (place : ℕ) → IsChosen returned disks r place → IsTheSource returned disks r place
source_is returned disks r place chosen =
    let found = chosen.source.is in
    let (d, there, is) = seen_there returned place disks chosen.seen (Opened found.member chosen.source.front) chosen.are_seen found.opened in
    let (returns, (own, member, front)) = opened_returns (comes_back returned place) d.disk found.member chosen.source.front is in
    record { disk = d; there = there; is = own; seat = chosen.source.seat; recorded = found.recorded ∙ ap Some member; returns = returns }

-- where disks give the same, the same one is chosen
pub chosen_same : (R : SlotDisk MemDisk → SlotDisk MemDisk → Type 0) → ((was now : SlotDisk MemDisk) → R was now → given_of now.disk ≡ given_of was.disk) → (returned : List ℕ) (was now : List (SlotDisk MemDisk)) (r : Record) (place : ℕ)
    → AllZip R was now → IsChosen returned now r place → IsChosen returned was r place
chosen_same R same returned was now r place all chosen = record { seen = chosen.seen; are_seen = seen_same R same returned 0 was now chosen.seen all chosen.are_seen; source = chosen.source }

-- ---- who is in a record

abbrev with_members : ℕ → List Member → Record
with_members e ms = record { epoch = e; members = ms }

-- the incarnation of what stands at a place
abbrev incarnation_at : ℕ → List Member → Option ℕ → Option ℕ
incarnation_at e ms o = option_map (λ (m : Member). m.incarnation) (member_at (with_members e ms) o)

-- what stands at a place, one member further
at_shift : (e : ℕ) (x : Member) (xs : List Member) (o : Option ℕ) → incarnation_at e (x ∷ xs) (option_map suc o) ≡ incarnation_at e xs o
at_shift e x xs None = refl
at_shift e x xs (Some k) = refl

member_here : (e : ℕ) (x : Member) (xs : List Member) (s : ℕ) → x.slot ≡ s → incarnation_in (with_members e (x ∷ xs)) s ≡ Some x.incarnation
member_here e x xs s here = ap (incarnation_at e (x ∷ xs)) (place_here x xs s here)

member_further : (e : ℕ) (x : Member) (xs : List Member) (s : ℕ) → x.slot ≢ s → incarnation_in (with_members e (x ∷ xs)) s ≡ incarnation_in (with_members e xs) s
member_further e x xs s further = ap (incarnation_at e (x ∷ xs)) (place_further x xs s further) ∙ at_shift e x xs (position (λ m. m.slot == s) xs)

-- one that stands at a seat is in the record
in_members : (e : ℕ) (ms : List Member) (seat : ℕ) (m : Member) → AllPairs (λ one other. one.slot ≢ other.slot) ms → slice_get ms seat ≡ Some m → incarnation_in (with_members e ms) m.slot ≡ Some m.incarnation
in_members e [] seat m apart here = let none : None ≡ Some m = here in absurd (cc)
in_members e (x ∷ xs) zero m apart here =
    let some : Some x ≡ Some m = here in
    let same : x ≡ m = cc some in
    subst (λ (y : Member). incarnation_in (with_members e (x ∷ xs)) y.slot ≡ Some y.incarnation) same (member_here e x xs x.slot refl)
in_members e (x ∷ xs) (suc k) m apart here =
    let within = slice_get_within xs k m here in
    let at = get_or_from_slice_get xs k m m here in
    let further : x.slot ≢ m.slot = λ same. apart 0 (suc k) m (omega arith) (omega (arith, within)) (same ∙ ap (λ (y : Member). y.slot) (sym at)) in
    member_further e x xs m.slot further ∙ in_members e xs k m (λ i j d below inside. apart (suc i) (suc j) d (omega (arith, below)) (omega (arith, inside))) here

pub in_record : (r : Record) (seat slot incarnation : ℕ) → AreMembers r.members → slice_get r.members seat ≡ Some (record { slot = slot; incarnation = incarnation }) → is_in r slot incarnation ≡ true
in_record r seat slot incarnation are here = ap (is_it incarnation) (in_members r.epoch r.members seat (record { slot = slot; incarnation = incarnation }) are.once here) ∙ eq-eqb incarnation incarnation refl

-- and one that is in it stands at some seat
among_members : (e : ℕ) (ms : List Member) (slot incarnation : ℕ) → incarnation_in (with_members e ms) slot ≡ Some incarnation → (seat : ℕ) × (slice_get ms seat ≡ Some (record { slot = slot; incarnation = incarnation }))
among_members e [] slot incarnation is = let none : None ≡ Some incarnation = is in absurd (cc)
among_members e (x ∷ xs) slot incarnation is = elim (cases_eq x.slot slot) [
  | inl here ↦
      let same : x.incarnation ≡ incarnation = same_Some x.incarnation incarnation (sym (member_here e x xs slot here) ∙ is) in
      (0, ap Some (ap (λ s. record { slot = s; incarnation = x.incarnation }) here ∙ ap (λ i. record { slot = slot; incarnation = i }) same))
  | inr further ↦
      let (seat, there) = among_members e xs slot incarnation (sym (member_further e x xs slot further) ∙ is) in
      (suc seat, there)
]

is_it_some : (incarnation : ℕ) (o : Option ℕ) → is_it incarnation o ≡ true → o ≡ Some incarnation
is_it_some incarnation None is = let clash : false ≡ true = is in absurd (cc)
is_it_some incarnation (Some other) is = ap Some (eqb-true other incarnation is)

pub among_record : (r : Record) (slot incarnation : ℕ) → is_in r slot incarnation ≡ true → IsAmong r slot incarnation
among_record r slot incarnation is = among_members r.epoch r.members slot incarnation (is_it_some incarnation (incarnation_in r slot) is)

-- where none was chosen, none is recorded
pub none_among : (refusal : recovery.Refusal) (members : List Member) (seen : List Returned) → (refusal ≡ recoveries.NoneReturned → seen ≡ []) → (refusal ≡ recoveries.NotInChain → NoneRecorded members seen) → NoneRecorded members seen
none_among recoveries.NoneReturned members seen nothing strangers = λ place seat front is. let none : None ≡ Some (Opened is.member front) = ap (λ (l : List Returned). slice_get l place) (sym (nothing refl)) ∙ is.opened in absurd (cc)
none_among recoveries.NotInChain members seen nothing strangers = strangers refl

-- ---- disks that come back

-- one that was only read still gives what it gave
still_read : (was now : SlotDisk MemDisk) → GivesOnly was → IsRead was now → IsStill was now
still_read was now only (slot, read) = (slot, read.same, λ c left. only c (read.leaves c left) ∙ sym read.same)

pub still_all : (was now : List (SlotDisk MemDisk)) → All GivesOnly was → AllZip IsRead was now → AllZip IsStill was now
still_all was now only read = zip_with GivesOnly IsRead IsStill still_read was now only read

-- so does one that was cut after that
still_cut : (cut : Cut) (was mid now : SlotDisk MemDisk) → IsStill was mid → IsCutAnew cut mid now → IsStill was now
still_cut cut was mid now (slot, same, only) anew = (anew.slot ∙ slot, only (given_of now.disk) anew.is_cut.left ∙ same, anew.is_cut.only)

pub cut_all_still : (cut : Cut) (was mid now : List (SlotDisk MemDisk)) → AllZip IsStill was mid → AllZip (IsCutAnew cut) mid now → AllZip IsStill was now
cut_all_still cut was mid now still anew = zip_then IsStill (IsCutAnew cut) IsStill (still_cut cut) was mid now still anew

still_then : (was mid now : SlotDisk MemDisk) → IsStill was mid → IsStill mid now → IsStill was now
still_then was mid now (slot, same, only) (slot_then, same_then, only_then) = (slot_then ∙ slot, same_then ∙ same, only_then)

pub all_still_then : (was mid now : List (SlotDisk MemDisk)) → AllZip IsStill was mid → AllZip IsStill mid now → AllZip IsStill was now
all_still_then was mid now one two = zip_then IsStill IsStill IsStill still_then was mid now one two

-- nothing else may be left of it
pub only_still : (was now : List (SlotDisk MemDisk)) → AllZip IsStill was now → All GivesOnly now
only_still was now still = zip_second IsStill GivesOnly (λ x y is. is.2) was now still

pub calm_anew : (cut : Cut) (was now : List (SlotDisk MemDisk)) → AllZip (IsCutAnew cut) was now → All (λ d. failures_of d.disk ≡ most_failures_of d.disk) now
calm_anew cut was now anew = zip_second (IsCutAnew cut) (λ d. failures_of d.disk ≡ most_failures_of d.disk) (λ x y is. is.calm) was now anew

spared_still : (was now : SlotDisk MemDisk) → IsStill was now → IsSpared was now
spared_still was now (slot, same, only) = record { slot = slot; same = same; leaves = λ c left. inr (only c left ∙ same) }

pub spared_others : (was now : List (SlotDisk MemDisk)) (place : ℕ) → AllZip IsStill was now → AllZip IsSpared (remove was place) (remove now place)
spared_others was now place still = zip_weaker IsStill IsSpared spared_still (remove was place) (remove now place) (zip_remove IsStill was now place still)

spared_read : (was now : SlotDisk MemDisk) → IsRead was now → IsSpared was now
spared_read was now (slot, read) = record { slot = slot; same = read.same; leaves = λ c left. inl (read.leaves c left) }

pub spared_others_read : (was now : List (SlotDisk MemDisk)) (place : ℕ) → AllZip IsRead was now → AllZip IsSpared (remove was place) (remove now place)
spared_others_read was now place read = zip_weaker IsRead IsSpared spared_read (remove was place) (remove now place) (zip_remove IsRead was now place read)

-- what stands on a configuration's disk that gives the same
pub stands_same : (was now : MemDisk) (r : Record) → given_of now ≡ given_of was → StandsThere now r → StandsThere was r
stands_same was now r same there = record { stands = subst (λ (bytes : List ℕ). StandsOn bytes r) same there.stands; members = there.members }

pub chain_same : (was now : MemDisk) → given_of now ≡ given_of was → HasChain was → HasChain now
chain_same was now same has = record {
  recorded = has.recorded;
  stands = subst (λ (bytes : List ℕ). StandsOn bytes has.recorded) (sym same) has.stands;
  long = omega (arith, has.long, ap (λ (l : List ℕ). length l) same);
}

-- a member goes on from disks that give the same, whatever is outside then
pub recovers_same : (was now config config_now : MemDisk) (new : Managed IsStore) (outside : List (SlotDisk MemDisk)) → given_of now ≡ given_of was → given_of config_now ≡ given_of config
    → Recovers about_of_store keeps_volume leaves_now now config_now new → Recovers about_of_store keeps_volume leaves_now was config (record new { outside = outside })
recovers_same was now config config_now new outside same same_config found = record {
  recorded = found.recorded;
  meaning = found.meaning;
  stands = subst (λ (bytes : List ℕ). StandsOn bytes found.recorded) same_config found.stands;
  means = subst (Means found.meaning) same found.means;
  has = found.has;
  later = found.later;
  alone = found.alone;
  member = found.member;
  begins = found.begins;
  rests = record { manager = found.rests.manager; idle = found.rests.idle; nobody = found.rests.nobody; alone = found.rests.alone; part = found.rests.part; current = found.rests.current; settled = found.rests.settled };
}

-- the chosen one is no stranger
pub no_stranger : (returned : List ℕ) (disks : List (SlotDisk MemDisk)) (r : Record) (place : ℕ) (config : MemDisk) (source : SlotDisk MemDisk)
    → ((one other : Meaning) (bytes : List ℕ) → Means one bytes → Means other bytes → one ≡ other) → ((some other : Record) (bytes : List ℕ) → HoldsRecord some bytes → HoldsRecord other bytes → some ≡ other)
    → StandsThere config r → IsChosen returned disks r place → slice_get disks place ≡ Some source → IsStranger source.disk config → ⊥
no_stranger returned disks r place config source one_meaning one_record there chosen here stranger =
    let src = source_is returned disks r place chosen in
    let same : src.disk ≡ source = same_Some src.disk source (sym src.there ∙ here) in
    let means : Means src.is.meaning (given_of source.disk) = subst (λ (d : SlotDisk MemDisk). Means src.is.meaning (given_of d.disk)) same src.is.means in
    let meant : stranger.meaning ≡ src.is.meaning = one_meaning stranger.meaning src.is.meaning (given_of source.disk) stranger.means means in
    let record_is : stranger.recorded ≡ r = one_record stranger.recorded r (inside config_part (given_of config)) stranger.stands there.stands in
    let has : is_in r src.is.meaning.slot src.is.meaning.incarnation ≡ true = in_record r src.seat src.is.meaning.slot src.is.meaning.incarnation there.members src.recorded in
    let not : is_in r src.is.meaning.slot src.is.meaning.incarnation ≡ false = subst (λ (x : Record). is_in x src.is.meaning.slot src.is.meaning.incarnation ≡ false) record_is (subst (λ (m : Meaning). is_in stranger.recorded m.slot m.incarnation ≡ false) meant stranger.out) in
    let clash : true ≡ false = sym has ∙ not in absurd (cc)

-- and it may return
pub chosen_returns : (returned : List ℕ) (disks : List (SlotDisk MemDisk)) (r : Record) (place : ℕ) (config : MemDisk) (source now : SlotDisk MemDisk) → IsChosen returned disks r place → slice_get disks place ≡ Some source
    → given_of now.disk ≡ given_of source.disk → HasChain config → MayReturn now.disk config
chosen_returns returned disks r place config source now chosen here same has =
    let src = source_is returned disks r place chosen in
    let same_disk : src.disk ≡ source = same_Some src.disk source (sym src.there ∙ here) in
    let is : IsOfMember source.disk = subst (λ (d : SlotDisk MemDisk). IsOfMember d.disk) same_disk src.is in
    record { member = (of_member_as source.disk now.disk (sym same) is).0; recorded = has.recorded; stands = has.stands; long = has.long }

-- ---- why none is chosen, or the chosen one doesn't go on

strangers_same : (returned : List ℕ) (was now : List (SlotDisk MemDisk)) (config config_now : MemDisk) → AllZip IsStill was now → given_of config_now ≡ given_of config → AreStrangers returned now config_now → AreStrangers returned was config
strangers_same returned was now config config_now still same strangers = record {
  recorded = strangers.recorded;
  there = stands_same config config_now strangers.recorded same strangers.there;
  seen = strangers.seen;
  are_seen = seen_same IsStill (λ w n is. is.1) returned 0 was now strangers.seen still strangers.are_seen;
  none = strangers.none;
}

pub no_choice : (result : Result ℕ Refusal) (returned : List ℕ) (was now : List (SlotDisk MemDisk)) (config config_now : MemDisk) → AllZip IsStill was now → given_of config_now ≡ given_of config → IfErr result IsOfCalmChoice
    → (IsErrOf result NoneReturned → NoneReturns returned (length now)) → (IsErrOf result NotInChain → AreStrangers returned now config_now) → IfErr result (IsNoChoice returned was config)
no_choice (Ok place) returned was now config config_now still same calm none strangers = tt
no_choice (Err e) returned was now config config_now still same calm none strangers = elim calm [
  | inl memory ↦ inl memory
  | inr (inl is) ↦ inr (inl (is, subst (NoneReturns returned) (sym (length_all_zip IsStill was now still)) (none (ap (λ (r : Refusal). Err r) is))))
  | inr (inr is) ↦ inr (inr (is, strangers_same returned was now config config_now still same (strangers (ap (λ (r : Refusal). Err r) is))))
]

pub stranger_same : (was now config config_now : MemDisk) → given_of now ≡ given_of was → given_of config_now ≡ given_of config → IsStranger now config_now → IsStranger was config
stranger_same was now config config_now same same_config stranger = record {
  recorded = stranger.recorded;
  meaning = stranger.meaning;
  stands = subst (λ (bytes : List ℕ). StandsOn bytes stranger.recorded) same_config stranger.stands;
  means = subst (Means stranger.meaning) same stranger.means;
  out = stranger.out;
}

pub end_same : (config config_now : MemDisk) → given_of config_now ≡ given_of config → IsAtItsEnd config_now → IsAtItsEnd config
end_same config config_now same end = record {
  recorded = end.recorded;
  number = end.number;
  stands = subst (λ (bytes : List ℕ). StandsAs bytes end.recorded end.number) same end.stands;
  last = end.last;
}
