-- Whose the disks are that a cut left, and that no disk outside is a recorded member's when the chain goes on. Lemmas.
use Rattle.std.proofs.Common.{◌≡◌, ◌≢◌, ℕ, zero, suc, ◌<◌, ◌≤◌, List, [], ◌∷◌, ◌++◌, length, map, refl, ap, sym, subst, ◌∙◌, inl, inr, arith}
use Rattle.std.specs.Prelude.{◌⊎◌, All, AllPairs, None, Option, Some, option_map, remove, slice_get}
use Rattle.std.specs.Option.{option_to_list}
use Rattle.std.proofs.lemmas.Bool.{cases_lt}
use Rattle.std.proofs.lemmas.List.Elements.{All-append, All-cons, All-head, All-nil}
use Rattle.std.proofs.lemmas.Option.{get_or_from_slice_get, same_Some, slice_get-map, slice_get_within}
use Rattle.configurations.specs.Record.{Record}
use Rattle.configurations.specs.declared.member.Member.{Member}
use Rattle.chain.specs.Chain.{bytes_of}
use Rattle.chain.specs.Member.{HasOwnDisk, IsShown, Linked}
use Rattle.chain.proofs.Cells.{zip_at}
use Rattle.chain_model.specs.Chain.{StandsFor}
use Rattle.chain_model.specs.View.{View, slot_of, slots_of}
use Rattle.disk_model.specs.Memory.{given_of, may_be_left}
use Rattle.disk_model.specs.declared.content.Cut.{Cut}
use Rattle.disk_model.specs.declared.memory.MemDisk.{MemDisk}
use Rattle.local_store.specs.About.{meaning_with}
use Rattle.local_store.specs.Kept.{stored_means}
use Rattle.local_store.specs.Meaning.{Meaning, Means}
use Rattle.manager.specs.Manager.{coming_record}
use Rattle.world.specs.World.{Shows}
use Rattle.world_model.specs.Machine.{State}
use Rattle.std.specs.List.{range_with_len}
use Rattle.volume.specs.declared.geometry.Geometry.{Geometry}
use Rattle.life.specs.Begun.{IsCut, IsCutFrom, IsOfMember, first_about, stores_of}
use Rattle.life.specs.Headline.{first_record}
use Rattle.life.specs.Managed.{AreDated, IsAmong, Managed, MayStand, NoImpostor}
use Rattle.life.specs.Plays.{AreCut, IsCutAt, IsCutOutside}
use Rattle.life.specs.Recovered.{GivesOnly, IsSpared, RecoversFrom, recorded_as}
use Rattle.life.specs.declared.managed.SlotDisk.{SlotDisk}
use Rattle.life.proofs.Beside.{others_of, remove_is, zip_long, zip_there}
use Rattle.life.proofs.Chosen.{IsTheSource, source_is}
use Rattle.life.proofs.Deeds.{AreInTime, Holds, IsNone, dated_members, next_is_none, on_disks}
use Rattle.life.proofs.Newcomers.{joiner_shown}
use Rattle.life.proofs.Outside.{IsOfNext, aside_counted, aside_next}
use Rattle.life.proofs.Places.{all_at, all_from, get_either, of_mapped}
use Rattle.life.proofs.Returning.{cut_of_joiner, cut_of_member}
use Rattle.life.proofs.Starting.{IsStore, about_of_store, all_mapped, disk_in, first_all, keeps_volume, leaves_now}

-- what a stop leaves of it is of an incarnation that was recorded
abbrev IsOld : {S : Type 0} → Managed S → SlotDisk MemDisk → Type 0
IsOld w d = (bytes : List ℕ) → may_be_left d.disk bytes → (meaning : Meaning) → Means meaning bytes → meaning.incarnation ≤ w.world.chain.recorded.epoch

-- ---- lists

-- what is left when one is taken out stood at another place
get_among : {A : Type 0} (xs : List A) (place k : ℕ) (x : A) → slice_get (others_of xs place) k ≡ Some x → (j : ℕ) × (j ≢ place) × (slice_get xs j ≡ Some x)
get_among [] place k x here = let none : None ≡ Some x = here in absurd (cc)
get_among (y ∷ xs) zero k x here = (suc k, λ same. absurd (omega (arith, same)), here)
get_among (y ∷ xs) (suc place) zero x here = (0, λ same. absurd (omega (arith, same)), here)
get_among (y ∷ xs) (suc place) (suc k) x here =
    let (j, other, there) = get_among xs place k x here in
    (suc j, λ same. other (omega (arith, same)), there)

pub get_other : {A : Type 0} (xs : List A) (place k : ℕ) (x : A) → slice_get (remove xs place) k ≡ Some x → (j : ℕ) × (j ≢ place) × (slice_get xs j ≡ Some x)
get_other xs place k x here = get_among xs place k x (ap (λ l. slice_get l k) (sym (remove_is xs place)) ∙ here)

-- a number that stands once stands at one place
apart_in : (ns : List ℕ) (i j n : ℕ) → AllPairs (λ one other. one ≢ other) ns → slice_get ns i ≡ Some n → slice_get ns j ≡ Some n → i ≡ j
apart_in ns i j n apart here there = elim (cases_lt i j) [
  | inl below ↦ absurd (two i j below here there)
  | inr least ↦ elim (cases_lt j i) [ inl above ↦ absurd (two j i above there here) | inr other ↦ omega (arith, least, other) ]
]
  where
    two : (x y : ℕ) → x < y → slice_get ns x ≡ Some n → slice_get ns y ≡ Some n → ⊥
    two x y below at_x at_y = apart x y n below (slice_get_within ns y n at_y) (get_or_from_slice_get ns x n n at_x ∙ sym (get_or_from_slice_get ns y n n at_y))

-- the one that may be there
one_there : {A : Type 0} (o : Option A) (j : ℕ) (x : A) → slice_get (option_to_list o) j ≡ Some x → (o ≡ Some x) × (j ≡ 0)
one_there None j x here = let none : None ≡ Some x = here in absurd (cc)
one_there (Some y) zero x here = (here, refl)
one_there (Some y) (suc j) x here = let none : None ≡ Some x = here in absurd (cc)

-- whatever a stop may leave of a store's disk means the volume that it keeps
pub store_means : (store : IsStore) (volume c : List ℕ) → keeps_volume store volume → leaves_now store c → Means (meaning_with (about_of_store store) volume) c
store_means store volume c kept left = stored_means kept.stands kept c left

-- where nothing is outside there is no impostor
pub none_outside : {S : Type 0} (w : Managed S) → w.outside ≡ [] → NoImpostor w
none_outside w nothing = subst (All (IsNone w)) (sym nothing) (All-nil (IsNone w))

-- and the first members' disks are dated
pub first_dated : (w : Managed IsStore) (geometry : Geometry) (n : ℕ) → map about_of_store (stores_of w.world) ≡ map (first_about geometry) (range_with_len 0 n) → w.world.chain.recorded ≡ first_record n → w.outside ≡ [] → AreDated about_of_store w
first_dated w geometry n slots recorded nothing = record {
  recorded = subst (λ (r : Record). All (λ m. m.incarnation ≤ r.epoch) r.members) (sym recorded)
      (all_mapped (λ (m : Member). m.incarnation ≤ 1) (λ slot. record { slot = slot; incarnation = 1 }) (range_with_len 0 n) (λ k d within. omega arith));
  members = of_mapped (λ s. (about_of_store s).incarnation ≤ w.world.chain.recorded.epoch) (λ (m : Linked IsStore). m.node.store) w.world.chain.members
      (first_all about_of_store geometry n (λ a. a.incarnation ≤ w.world.chain.recorded.epoch) (stores_of w.world) slots (λ k. let e = ap (λ (r : Record). r.epoch) recorded in omega (arith, e)));
  outside = subst (All (IsOld w)) (sym nothing) (All-nil (IsOld w));
}

-- what a stop leaves of it is of an incarnation up to the next epoch
abbrev IsUpToNext : {S : Type 0} → Managed S → SlotDisk MemDisk → Type 0
IsUpToNext w d = (bytes : List ℕ) → may_be_left d.disk bytes → (meaning : Meaning) → Means meaning bytes → meaning.incarnation ≤ suc w.world.chain.recorded.epoch

-- ---- a cut

module _ (mid : Managed IsStore) (cut : Cut) (disks : List (SlotDisk MemDisk)) (config : MemDisk) (cuts : AreCut about_of_store leaves_now disk_in cut mid disks config) where
  -- what was set aside is of the next epoch, or means nothing
  aside_is : All (IsOfNext (suc mid.world.chain.recorded.epoch)) (option_to_list cuts.aside)
  aside_is = aside_next about_of_store leaves_now (suc mid.world.chain.recorded.epoch) mid.candidate cuts.aside cuts.set_aside

  -- so it is no recorded member's: where a disk was counted, none was set aside
  aside_none : AreInTime mid → All (IsNone mid) (option_to_list cuts.aside)
  aside_none time = by cuts.aside refl
    where
      by : (o : Option (SlotDisk MemDisk)) → cuts.aside ≡ o → All (IsNone mid) (option_to_list o)
      by None is = All-nil (IsNone mid)
      by (Some d) is = All-cons (IsNone mid) d []
          (next_is_none mid time
          (λ counted. let none : None ≡ Some d = sym (aside_counted about_of_store leaves_now (suc mid.world.chain.recorded.epoch) mid.candidate cuts.aside counted cuts.set_aside) ∙ is in cc) d
          (All-head (IsOfNext (suc mid.world.chain.recorded.epoch)) d [] (subst (λ o. All (IsOfNext (suc mid.world.chain.recorded.epoch)) (option_to_list o)) is aside_is))) (All-nil (IsNone mid))

  -- the store of a member at this place
  abbrev pub IsMembers : ℕ → IsStore → Type 0
  IsMembers place store = (m : Linked IsStore) × (slice_get mid.world.chain.members place ≡ Some m) × (m.node.store ≡ store)

  -- or of who joins, behind them
  abbrev pub IsJoiners : ℕ → IsStore → Type 0
  IsJoiners place store = (place ≡ length mid.world.chain.members) × (mid.world.joiner ≡ Some store)

  -- a disk at a place is that of such a store, or it was outside
  pub record IsOwned (place : ℕ) (d : SlotDisk MemDisk) : Type 0 where
    pub store : IsStore
    pub cut_is : IsCutFrom leaves_now disk_in cut store d.disk
    pub whose : IsMembers place store ⊎ IsJoiners place store

  pub record WasOutside (d : SlotDisk MemDisk) : Type 0 where
    pub was : SlotDisk MemDisk
    pub at : ℕ
    pub here : slice_get (mid.outside ++ option_to_list cuts.aside) at ≡ Some was
    pub cut_is : IsCut cut was.disk d.disk

  pub whose : (place : ℕ) (d : SlotDisk MemDisk) → slice_get disks place ≡ Some d → IsOwned place d ⊎ WasOutside d
  whose place d there = elim (get_either cuts.of_members (cuts.of_joiner ++ cuts.outside) place d (ap (λ (ds : List (SlotDisk MemDisk)). slice_get ds place) (sym cuts.are) ∙ there)) [
    | inl in_chain ↦
        let (m, here, is) = zip_there (λ (x : Linked IsStore) left. IsCutAt about_of_store leaves_now disk_in cut x.node.store left) mid.world.chain.members cuts.of_members place d cuts.members_cut in_chain in
        inl (record { store = m.node.store; cut_is = is.0; whose = inl (m, here, refl) })
    | inr (j, at, behind) ↦ elim (get_either cuts.of_joiner cuts.outside j d behind) [
      | inl joins ↦
          let (store, here, is) = zip_there (IsCutAt about_of_store leaves_now disk_in cut) (option_to_list mid.world.joiner) cuts.of_joiner j d cuts.joiner_cut joins in
          let (joined, first) = one_there mid.world.joiner j store here in
          let long = zip_long (λ (x : Linked IsStore) left. IsCutAt about_of_store leaves_now disk_in cut x.node.store left) mid.world.chain.members cuts.of_members cuts.members_cut in
          inl (record { store = store; cut_is = is.0; whose = inr (omega (arith, at, first, long), joined) })
      | inr (k, place_is, out) ↦
          let (was, here, is) = zip_there (IsCutOutside cut) (mid.outside ++ option_to_list cuts.aside) cuts.outside k d cuts.outside_cut out in
          inr (record { was = was; at = k; here = here; cut_is = is.0 })
    ]
  ]

  -- nothing else may be left of any of them
  pub gives_only : (place : ℕ) (d : SlotDisk MemDisk) → slice_get disks place ≡ Some d → GivesOnly d
  gives_only place d there = elim (whose place d there) [ inl o ↦ o.cut_is.only | inr o ↦ o.cut_is.only ]

  -- one that was outside is none of a member that may be recorded
  pub outside_is_none : Holds about_of_store mid → (d : SlotDisk MemDisk) → WasOutside d → (meaning : Meaning) → Means meaning (given_of d.disk) → (r : Record) → MayStand mid.world.chain r → IsAmong r meaning.slot meaning.incarnation → ⊥
  outside_is_none holds d o meaning means r stands among =
      all_at (IsNone mid) (mid.outside ++ option_to_list cuts.aside) o.at o.was (All-append (IsNone mid) mid.outside (option_to_list cuts.aside) holds.none (aside_none holds.time)) o.here
      (given_of d.disk) o.cut_is.left meaning means r stands among

  pub source_is_owned : Holds about_of_store mid → (returned : List ℕ) (r : Record) (place : ℕ) → MayStand mid.world.chain r → (s : IsTheSource returned disks r place) → IsOwned place s.disk
  source_is_owned holds returned r place stands s = elim (whose place s.disk s.there) [
    | inl o ↦ o
    | inr o ↦ absurd (outside_is_none holds s.disk o s.is.meaning s.is.means r stands (s.seat, s.recorded))
  ]

  -- so it is a source
  pub source_so : (place : ℕ) (d source : SlotDisk MemDisk) → d ≡ source → IsOwned place d
      → ((m : Linked IsStore) × (slice_get mid.world.chain.members place ≡ Some m) × leaves_now m.node.store (given_of source.disk)) ⊎ ((store : IsStore) × (mid.world.joiner ≡ Some store) × leaves_now store (given_of source.disk))
  source_so place d source same o =
      let left : leaves_now o.store (given_of source.disk) = subst (λ (x : SlotDisk MemDisk). leaves_now o.store (given_of x.disk)) same o.cut_is.left in
      elim o.whose [
        | inl (m, here, is) ↦ inl (m, here, subst (λ s. leaves_now s (given_of source.disk)) (sym is) left)
        | inr (at, joined) ↦ inr (o.store, joined, left)
      ]

  -- ---- what they mean

  module _ (v : View) (shows : Shows about_of_store keeps_volume leaves_now mid.world v) (holds : Holds about_of_store mid) where
    -- it means that it is its store's member
    pub owned_means : (place : ℕ) (d : SlotDisk MemDisk) (o : IsOwned place d)
        → (is : IsOfMember d.disk) × (is.meaning.geometry ≡ (about_of_store o.store).geometry) × (is.meaning.slot ≡ (about_of_store o.store).slot) × (is.meaning.incarnation ≡ (about_of_store o.store).incarnation)
    owned_means place d o = elim o.whose [
      | inl (m, here, same) ↦
          let cut_is : IsCutFrom leaves_now disk_in cut m.node.store d.disk = subst (λ s. IsCutFrom leaves_now disk_in cut s d.disk) (sym same) o.cut_is in
          let (is, geometry, slot, incarnation) = cut_of_member mid.world v place m d.disk shows here cut cut_is (on_disks about_of_store mid holds) in
          let sizes = (all_at (λ n. (0 < (about_of_store n.node.store).incarnation) × ((about_of_store n.node.store).geometry ≡ mid.world.chain.geometry)) mid.world.chain.members place m (on_disks about_of_store mid holds) here).1 in
          (is, geometry ∙ sym sizes ∙ ap (λ s. (about_of_store s).geometry) same, slot ∙ ap (λ s. (about_of_store s).slot) same, incarnation ∙ ap (λ s. (about_of_store s).incarnation) same)
      | inr (at, joined) ↦
          let (j, joins, of) = joiner_shown about_of_store keeps_volume leaves_now mid.world v o.store shows joined in
          let newer = (holds.joins o.store joined).incarnation in
          cut_of_joiner o.store j.volume d.disk of.keeping cut o.cut_is (omega (arith, newer))
    ]

    -- its incarnation was recorded, or is the next epoch
    owned_dated : (place : ℕ) (d : SlotDisk MemDisk) (o : IsOwned place d) → (about_of_store o.store).incarnation ≤ suc mid.world.chain.recorded.epoch
    owned_dated place d o = elim o.whose [
      | inl (m, here, same) ↦
          let le = all_at (λ n. (about_of_store n.node.store).incarnation ≤ mid.world.chain.recorded.epoch) mid.world.chain.members place m (dated_members about_of_store mid holds) here in
          let e : (about_of_store m.node.store).incarnation ≡ (about_of_store o.store).incarnation = ap (λ s. (about_of_store s).incarnation) same in
          omega (arith, le, e)
      | inr (at, joined) ↦ let e = (holds.joins o.store joined).incarnation in omega (arith, e)
    ]

    -- whatever it is, it is of no later one
    disk_dated : ((one other : Meaning) (bytes : List ℕ) → Means one bytes → Means other bytes → one ≡ other) → (place : ℕ) (d : SlotDisk MemDisk) → slice_get disks place ≡ Some d → (meaning : Meaning) → Means meaning (given_of d.disk)
        → meaning.incarnation ≤ suc mid.world.chain.recorded.epoch
    disk_dated one_meaning place d there meaning means = elim (whose place d there) [
      | inl o ↦
          let (is, geometry, slot, incarnation) = owned_means place d o in
          let e : meaning.incarnation ≡ (about_of_store o.store).incarnation = ap (λ (x : Meaning). x.incarnation) (one_meaning meaning is.meaning (given_of d.disk) means is.means) ∙ incarnation in
          let le = owned_dated place d o in omega (arith, e, le)
      | inr o ↦
          all_at (IsUpToNext mid) (mid.outside ++ option_to_list cuts.aside) o.at o.was
          (All-append (IsUpToNext mid) mid.outside (option_to_list cuts.aside)
          (λ k d within bytes left meaning means. elim (holds.past k d within bytes left meaning means) [ inl le ↦ omega (arith, le) | inr (next, waits) ↦ omega (arith, next) ])
          (λ k d within bytes left meaning means. let next = aside_is k d within bytes left meaning means in omega (arith, next))) o.here (given_of d.disk) o.cut_is.left meaning means
    ]

    -- ---- and the others aren't the source's

    module _ (owners : All (HasOwnDisk about_of_store) mid.world.chain.members) (size : ℕ) (s : State) (stands : StandsFor size v s) where
      -- a member's slot, as it is shown
      shown_slot : (i : ℕ) (a : Linked IsStore) → slice_get mid.world.chain.members i ≡ Some a → slice_get (slots_of v.members) i ≡ Some (about_of_store a.node.store).slot
      shown_slot i a here =
          let (x, at_x, is_x) = zip_at (IsShown about_of_store keeps_volume leaves_now (bytes_of mid.world.chain)) mid.world.chain.members v.members i a shows.chain.members here in
          let its = (all_at (HasOwnDisk about_of_store) mid.world.chain.members i a owners here).slot in
          slice_get-map slot_of v.members i ∙ ap (option_map slot_of) at_x ∙ ap Some (ap slot_of is_x.is ∙ sym its)

      -- one that may be recorded has the sizes of the chain's volume
      pub owned_sizes : (place : ℕ) (d : SlotDisk MemDisk) (o : IsOwned place d) (r : Record) → MayStand mid.world.chain r → (seat : ℕ) (m : Member) → slice_get r.members seat ≡ Some m → m.incarnation ≡ (about_of_store o.store).incarnation
          → (about_of_store o.store).geometry ≡ mid.world.chain.geometry
      owned_sizes place d o r may seat m there its = elim o.whose [
        | inl (x, here, same) ↦
            ap (λ s. (about_of_store s).geometry) (sym same)
            ∙ (all_at (λ n. (0 < (about_of_store n.node.store).incarnation) × ((about_of_store n.node.store).geometry ≡ mid.world.chain.geometry)) mid.world.chain.members place x (on_disks about_of_store mid holds) here).1
        | inr (at, joined) ↦ elim may [
          | inl is ↦
              let (j, joins, of) = joiner_shown about_of_store keeps_volume leaves_now mid.world v o.store shows joined in
              let newer = (stands.1 j joins).incarnation in
              let recorded : v.recorded ≡ mid.world.chain.recorded = shows.chain.recorded in
              let le = all_at (λ (x : Member). x.incarnation ≤ v.youngest) v.recorded.members seat m stands.0.2.dated (ap (λ (x : Record). slice_get x.members seat) (recorded ∙ sym is) ∙ there) in
              absurd (omega (arith, newer, le, its, of.incarnation))
          | inr written ↦ ((holds.joins o.store joined).writing r written).sizes
        ]
      ]

      -- two aren't at one slot
      owned_apart : (i j : ℕ) (d e : SlotDisk MemDisk) (a : IsOwned i d) (b : IsOwned j e) → (about_of_store a.store).slot ≡ (about_of_store b.store).slot → i ≡ j
      owned_apart i j d e a b same = by a.whose b.whose
        where
          members : (x y : Linked IsStore) → slice_get mid.world.chain.members i ≡ Some x → slice_get mid.world.chain.members j ≡ Some y → (about_of_store x.node.store).slot ≡ (about_of_store y.node.store).slot → i ≡ j
          members x y here there slots = apart_in (slots_of v.members) i j (about_of_store y.node.store).slot stands.0.2.slots (shown_slot i x here ∙ ap Some slots) (shown_slot j y there)

          -- a member isn't at the slot of who joins
          newcomer : (k : ℕ) (x : Linked IsStore) (store : IsStore) → slice_get mid.world.chain.members k ≡ Some x → mid.world.joiner ≡ Some store → (about_of_store x.node.store).slot ≡ (about_of_store store).slot → ⊥
          newcomer k x store here joined slots =
              let (j, joins, of) = joiner_shown about_of_store keeps_volume leaves_now mid.world v store shows joined in
              let (m, at, is) = zip_at (IsShown about_of_store keeps_volume leaves_now (bytes_of mid.world.chain)) mid.world.chain.members v.members k x shows.chain.members here in
              let its = (all_at (HasOwnDisk about_of_store) mid.world.chain.members k x owners here).slot in
              all_at (λ m. slot_of m ≢ j.slot) v.members k m (stands.1 j joins).apart at (ap slot_of is.is ∙ sym its ∙ slots ∙ sym of.slot)

          by : IsMembers i a.store ⊎ IsJoiners i a.store → IsMembers j b.store ⊎ IsJoiners j b.store → i ≡ j
          by (inl (x, here, is)) (inl (y, there, other)) = members x y here there (ap (λ s. (about_of_store s).slot) is ∙ same ∙ ap (λ s. (about_of_store s).slot) (sym other))
          by (inl (x, here, is)) (inr (at, joined)) = absurd (newcomer i x b.store here joined (ap (λ s. (about_of_store s).slot) is ∙ same))
          by (inr (at, joined)) (inl (y, there, other)) = absurd (newcomer j y a.store there joined (ap (λ s. (about_of_store s).slot) other ∙ sym same))
          by (inr (at, joined)) (inr (place, too)) = at ∙ sym place

      -- another disk means another member than the source's
      pub others_differ : ((one other : Meaning) (bytes : List ℕ) → Means one bytes → Means other bytes → one ≡ other) → (returned : List ℕ) (r : Record) (place : ℕ) → MayStand mid.world.chain r → (src : IsTheSource returned disks r place)
          → (j : ℕ) (d : SlotDisk MemDisk) → j ≢ place → slice_get disks j ≡ Some d → (meaning : Meaning) → Means meaning (given_of d.disk) → recorded_as src.is.meaning ≡ recorded_as meaning → ⊥
      others_differ one_meaning returned r place may src j d other there meaning means same = elim (whose j d there) [
        | inr o ↦ outside_is_none holds d o meaning means r may (src.seat, src.recorded ∙ ap Some same)
        | inl o ↦
            let its = source_is_owned holds returned r place may src in
            let (is, geometry, slot, incarnation) = owned_means j d o in
            let (own, own_geometry, own_slot, own_incarnation) = owned_means place src.disk its in
            let meant : meaning ≡ is.meaning = one_meaning meaning is.meaning (given_of d.disk) means is.means in
            let own_meant : src.is.meaning ≡ own.meaning = one_meaning src.is.meaning own.meaning (given_of src.disk.disk) src.is.means own.means in
            let slots : (about_of_store o.store).slot ≡ (about_of_store its.store).slot =
            sym slot ∙ ap (λ (x : Meaning). x.slot) (sym meant) ∙ ap (λ (x : Member). x.slot) (sym same) ∙ ap (λ (x : Meaning). x.slot) own_meant ∙ own_slot in
            other (owned_apart j place d src.disk o its slots)
      ]

      module _ (one_meaning : (one other : Meaning) (bytes : List ℕ) → Means one bytes → Means other bytes → one ≡ other) (returned : List ℕ) (new : Managed IsStore)
          (from : RecoversFrom about_of_store keeps_volume leaves_now returned disks config new) (may : MayStand mid.world.chain from.recovers.recorded) where
        src : IsTheSource returned disks from.recovers.recorded from.place
        src = source_is returned disks from.recovers.recorded from.place from.chosen

        -- the source at its place is the one that the chain went on from
        same_disk : src.disk ≡ from.source
        same_disk = same_Some src.disk from.source (sym src.there ∙ from.there)

        meant : from.recovers.meaning ≡ src.is.meaning
        meant = one_meaning from.recovers.meaning src.is.meaning (given_of from.source.disk) from.recovers.means (subst (λ (d : SlotDisk MemDisk). Means src.is.meaning (given_of d.disk)) same_disk src.is.means)

        one_in : (r : Record) → r.members ≡ recorded_as from.recovers.meaning ∷ [] → (seat : ℕ) (m : Member) → slice_get r.members seat ≡ Some m → recorded_as from.recovers.meaning ≡ m
        one_in r are zero m here = same_Some (recorded_as from.recovers.meaning) m (ap (λ (ms : List Member). slice_get ms 0) (sym are) ∙ here)
        one_in r are (suc k) m here = let none : None ≡ Some m = ap (λ (ms : List Member). slice_get ms (suc k)) (sym are) ∙ here in absurd (cc)

        alone : (r : Record) → MayStand new.world.chain r → (meaning : Meaning) → IsAmong r meaning.slot meaning.incarnation → recorded_as from.recovers.meaning ≡ recorded_as meaning
        alone r (inl is) meaning (seat, here) = one_in r (ap (λ (x : Record). x.members) is ∙ from.recovers.alone) seat (recorded_as meaning) here
        alone r (inr written) meaning among = let clash : None ≡ Some r = sym from.recovers.rests.idle ∙ written in absurd (cc)

        -- what is outside then was another disk, and gives what that gave
        pub record WasAnother (k : ℕ) (bytes : List ℕ) : Type 0 where
          pub at : ℕ
          pub disk : SlotDisk MemDisk
          pub other : at ≢ from.place
          pub there : slice_get disks at ≡ Some disk
          pub gives : bytes ≡ given_of disk.disk

        was_another : (k : ℕ) (now : SlotDisk MemDisk) → slice_get new.outside k ≡ Some now → (bytes : List ℕ) → may_be_left now.disk bytes → WasAnother k bytes
        was_another k now there bytes left =
            let (d, here, spared) = zip_there IsSpared (remove disks from.place) new.outside k now from.outside there in
            let (j, other, at) = get_other disks from.place k d here in
            record { at = j; disk = d; other = other; there = at; gives = elim (spared.leaves bytes left) [ inl was ↦ gives_only j d at bytes was | inr is ↦ is ] }

        -- so none of those that are outside then is the member's that goes on
        pub impostors_after : NoImpostor new
        impostors_after = all_from (IsNone new) new.outside (λ k now there bytes left meaning means r stands among.
            let was = was_another k now there bytes left in
            others_differ one_meaning returned from.recovers.recorded from.place may src was.at was.disk was.other was.there meaning (subst (Means meaning) was.gives means) (ap recorded_as (sym meant) ∙ alone r stands meaning among))

        -- the record that stood is of this epoch, or the next one
        not_before : mid.world.chain.recorded.epoch ≤ from.recovers.recorded.epoch
        not_before = elim may [
          | inl is ↦ let e = ap (λ (r : Record). r.epoch) is in omega (arith, e)
          | inr written ↦ elim holds.in_step.writing [
            | inl none ↦ let clash : None ≡ Some from.recovers.recorded = sym none ∙ written in absurd (cc)
            | inr (is, begun, due) ↦
                let e = ap (λ (r : Record). r.epoch) (same_Some (coming_record mid.management.manager) from.recovers.recorded (sym is ∙ written)) in
                let at = ap (λ (r : Record). r.epoch) holds.in_step.chain in
                omega (arith, e, at)
          ]
        ]

        -- so the next one's epoch is later than all of them
        later : suc mid.world.chain.recorded.epoch ≤ new.world.chain.recorded.epoch
        later = elim from.recovers.later [ inl one ↦ omega (arith, one, not_before) | inr two ↦ omega (arith, two, not_before) ]

        pub dated_after : AreDated about_of_store new
        dated_after = record {
          recorded = subst (All (λ m. m.incarnation ≤ new.world.chain.recorded.epoch)) (sym from.recovers.alone)
              (All-cons (λ m. m.incarnation ≤ new.world.chain.recorded.epoch) (recorded_as from.recovers.meaning) []
              (let le = disk_dated one_meaning from.place from.source from.there from.recovers.meaning from.recovers.means in omega (arith, le, later))
              (All-nil (λ m. m.incarnation ≤ new.world.chain.recorded.epoch)));
          members = all_from (λ m. (about_of_store m.node.store).incarnation ≤ new.world.chain.recorded.epoch) new.world.chain.members (λ at m here.
              let its = (all_at (λ n. ((about_of_store n.node.store).slot ≡ from.recovers.meaning.slot) × ((about_of_store n.node.store).incarnation ≡ from.recovers.meaning.incarnation)) new.world.chain.members at m
              (of_mapped (λ s. ((about_of_store s).slot ≡ from.recovers.meaning.slot) × ((about_of_store s).incarnation ≡ from.recovers.meaning.incarnation)) (λ (n : Linked IsStore). n.node.store) new.world.chain.members from.recovers.member) here).1 in
              let le = disk_dated one_meaning from.place from.source from.there from.recovers.meaning from.recovers.means in
              omega (arith, its, le, later));
          outside = all_from (IsOld new) new.outside (λ k now there bytes left meaning means.
              let was = was_another k now there bytes left in
              let le = disk_dated one_meaning was.at was.disk was.there meaning (subst (Means meaning) was.gives means) in
              omega (arith, le, later));
        }
