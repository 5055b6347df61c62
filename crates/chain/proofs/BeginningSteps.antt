-- What a chain shows that begins.
use Rattle.std.proofs.Common.{Bool, cond, eqb, false, get_or, ◌≡◌, ◌≢◌, ℕ, zero, suc, ◌+◌, ◌<◌, ◌≤◌, true, List, [], ◌∷◌, ◌++◌, length, map, refl, ap, subst, sym, ◌∙◌, inl, inr, arith, rules}
use Rattle.std.specs.Prelude.{All, AllPairs, max, None, Some, fold, nat_lt, not, replicate, slice_get, slice_index_or, slice_set, ◌*◌, ◌-◌, ◌^◌}
use Rattle.std.specs.List.{AllZip, flat_map, position_or_len}
use Rattle.std.specs.Option.{option_map}
use Rattle.std.proofs.Math.Seq.{take-nil}
use Rattle.std.proofs.lemmas.Bool.{cases_lt, cond-false, cond-true, eq-eqb, le-ltb, lt-ltb}
use Rattle.std.proofs.lemmas.Option.{slice_get-map, slice_get_read}
use Rattle.std.proofs.lemmas.List.Elements.{All-cons, All-head, All-map, All-nil, All-replicate, All-set, All-tail}
use Rattle.std.proofs.lemmas.List.{get_or_default, length-replicate}
use Rattle.std.proofs.lemmas.List.Kept.{AllPairs-cons}
use Rattle.board.specs.Mask.{counts, with_slot}
use Rattle.board.specs.Seats.{BoardId}
use Rattle.configurations.specs.Record.{AreMembers, Record}
use Rattle.configurations.specs.declared.member.Member as recorded
use Rattle.gate_journal.specs.Receipt.{Receipt}
use Rattle.local_store.specs.About.{About, meaning_with}
use Rattle.local_store.specs.Meaning.{Means}
use Rattle.volume.specs.Writes.{patched}
use Rattle.chain_steps.specs.Place.{is_member}
use Rattle.chain_steps.specs.declared.message.Envelope.{Envelope}
use Rattle.chain_core.specs.Node.{IsInside}
use Rattle.chain_model.specs.Laws.{IsBeginning, IsIdle, recorded_as}
use Rattle.chain_model.specs.View.{Member, View, disk_of, slot_of}
use Rattle.chain.specs.Chain.{Chained, IsFormed, IsIn, Shows, bytes_of, gauges_from, told_of}
use Rattle.chain.specs.Links.{link_at}
use Rattle.chain.specs.Member.{IsShown, Linked, fronts_of, member_of, musters_of, receipts_of}
use Rattle.chain.specs.Opening.{beginning_of, gauges_of, mask_of, recorded_in, words_of, youngest_of}
use Rattle.chain.proofs.WordSteps.{counts_it, counts_still}

-- ---- pairs of a list

pairs_first : {A : Type 0} (R : A → A → Type 0) (x : A) (xs : List A) → AllPairs R (x ∷ xs) → All (R x) xs
pairs_first R x xs pairs = λ k d within. pairs zero (suc k) d (omega arith) (omega (arith, within))

pairs_others : {A : Type 0} (R : A → A → Type 0) (x : A) (xs : List A) → AllPairs R (x ∷ xs) → AllPairs R xs
pairs_others R x xs pairs = λ i j d less within. pairs (suc i) (suc j) d (omega (arith, less)) (omega (arith, within))

pub pairs_map : {A B : Type 0} (R : B → B → Type 0) (f : A → B) (xs : List A) → AllPairs (λ a b. R (f a) (f b)) xs → AllPairs R (map f xs)
pairs_map R f [] pairs = λ i j d less within. absurd (omega (arith, within))
pairs_map R f (x ∷ xs) pairs =
    AllPairs-cons R (f x) (map f xs) (All-map (R (f x)) f xs (pairs_first (λ a b. R (f a) (f b)) x xs pairs)) (pairs_map R f xs (pairs_others (λ a b. R (f a) (f b)) x xs pairs))

-- ---- the mask

mask_keeps : (slot : ℕ) (members : List recorded.Member) (mask : ℕ) → counts mask slot ≡ true → counts (fold (λ mask (m : recorded.Member). with_slot mask m.slot) mask members) slot ≡ true
mask_keeps slot [] mask is = is
mask_keeps slot (m ∷ members) mask is = mask_keeps slot members (with_slot mask m.slot) (counts_still mask m.slot slot is)

mask_counts : (members : List recorded.Member) (mask : ℕ) → All (λ m. counts (fold (λ mask (m : recorded.Member). with_slot mask m.slot) mask members) m.slot ≡ true) members
mask_counts [] mask = All-nil (λ (m : recorded.Member). counts mask m.slot ≡ true)
mask_counts (m ∷ members) mask =
    All-cons (λ (x : recorded.Member). counts (fold (λ mask (m : recorded.Member). with_slot mask m.slot) (with_slot mask m.slot) members) x.slot ≡ true) m members
    (mask_keeps m.slot members (with_slot mask m.slot) (counts_it mask m.slot)) (mask_counts members (with_slot mask m.slot))

-- ---- the gauges

gauges_low : (front : ℕ) (members : List recorded.Member) (gauges : List ℕ) → All (λ g. g ≤ front) gauges → All (λ g. g ≤ front) (fold (λ gauges (m : recorded.Member). slice_set gauges m.slot front) gauges members)
gauges_low front [] gauges low = low
gauges_low front (m ∷ members) gauges low = gauges_low front members (slice_set gauges m.slot front) (All-set (λ g. g ≤ front) gauges m.slot front (omega arith) low)

fronts_low : (front slot : ℕ) (gauges : List ℕ) → All (λ g. g ≤ front) gauges → All (λ (r : Receipt). r.front ≤ front) (gauges_from slot gauges)
fronts_low front slot [] low = All-nil (λ (r : Receipt). r.front ≤ front)
fronts_low front slot (g ∷ gauges) low =
    All-cons (λ (r : Receipt). r.front ≤ front) (record { slot = slot; front = g }) (gauges_from (slot + 1) gauges) (All-head (λ g. g ≤ front) g gauges low) (fronts_low front (slot + 1) gauges (All-tail (λ g. g ≤ front) g gauges low))

-- ---- the links

-- nothing is on them
no_queue : {A : Type 0} (n i : ℕ) → slice_index_or {A = List A} (replicate n []) i [] ≡ []
no_queue zero i = refl
no_queue (suc n) zero = refl
no_queue (suc n) (suc i) = no_queue n i

-- so nothing is on its way from any slot to any
nothing_sent : (from to : ℕ) → link_at (replicate 64 []) from to ≡ []
nothing_sent from to = elim (cases_lt to 8) [
  | inl lt ↦ cond-true (nat_lt to 8) (slice_index_or (replicate 64 []) (8 * from + to) []) [] (lt-ltb to 8 lt) ∙ no_queue 64 (8 * from + to)
  | inr ge ↦ cond-false (nat_lt to 8) (slice_index_or (replicate 64 []) (8 * from + to) []) [] (le-ltb to 8 ge)
]

-- and all of that lies in the volume
none_inside : (size : ℕ) → All (All (λ (e : Envelope). IsInside size e.message)) (replicate 64 [])
none_inside size = All-replicate (All (λ (e : Envelope). IsInside size e.message)) 64 [] (All-nil (λ (e : Envelope). IsInside size e.message))

-- ---- the members

-- a place more
step_on : (b : Bool) (n len : ℕ) → n < len → cond (not b) (1 + n) 0 < suc len
step_on true n len within = omega arith
step_on false n len within = omega (arith, within)

-- a slot that is recorded is found
pub found_in : (slot : ℕ) (ms : List recorded.Member) (at : ℕ) (x : recorded.Member) → slice_get ms at ≡ Some x → x.slot ≡ slot → position_or_len (λ (m : recorded.Member). eqb m.slot slot) ms < length ms
found_in slot [] at x here is = let none : None ≡ Some x = here in absurd (cc)
found_in slot (y ∷ ys) zero x here is =
    let both : Some y ≡ Some x = here in
    let same : y ≡ x = cc both in
    let passes : eqb y.slot slot ≡ true = eq-eqb y.slot slot (ap (λ (m : recorded.Member). m.slot) same ∙ is) in
    rw passes (omega arith)
found_in slot (y ∷ ys) (suc at) x here is = step_on (eqb y.slot slot) (position_or_len (λ (m : recorded.Member). eqb m.slot slot) ys) (length ys) (found_in slot ys at x here is)

-- no member's incarnation is above the greatest, from any one on
youngest_from : (y : ℕ) (ms : List recorded.Member) → (y ≤ fold (λ youngest m. max youngest m.incarnation) y ms) × All (λ m. m.incarnation ≤ fold (λ youngest m. max youngest m.incarnation) y ms) ms
youngest_from y [] = (omega arith, All-nil (λ (m : recorded.Member). m.incarnation ≤ y))
youngest_from y (m ∷ ms) =
    let (more, all) = youngest_from (max y m.incarnation) ms in
    (omega (arith, more), All-cons (λ (x : recorded.Member). x.incarnation ≤ fold (λ youngest k. max youngest k.incarnation) (max y m.incarnation) ms) m ms (omega (arith, more)) all)

dated_all : (ms : List recorded.Member) → All (λ m. m.incarnation ≤ youngest_of ms) ms
dated_all ms = (youngest_from 0 ms).1

module _ {S : Type 0} (about : S → About) (id : BoardId) (told : Record) where
  abbrev begun : S → Linked S
  begun store = beginning_of about id told store

  -- none of them has anything in use
  pub begun_gathers : {B : Type 0} (f : Linked S → List B) → ((s : S) → f (begun s) ≡ []) → (stores : List S) → flat_map f (map begun stores) ≡ []
  begun_gathers f none [] = refl
  begun_gathers f none (s ∷ stores) = ap (λ l. l ++ flat_map f (map begun stores)) (none s) ∙ begun_gathers f none stores

  -- each of them is in the chain that it was told
  are_members : (stores : List S) → map (recorded_in about) stores ≡ told.members → All (λ s. is_member (begun s).node.state.place ≡ true) stores
  are_members stores told_are = λ k s within.
      let one = get_or stores k s in
      let there : slice_get told.members k ≡ Some (recorded_in about one) =
      ap (λ ms. slice_get ms k) (sym told_are) ∙ slice_get-map (recorded_in about) stores k ∙ ap (option_map (recorded_in about)) (slice_get_read stores (length stores) k one refl within (get_or_default stores k s one within)) in
      let found = lt-ltb (position_or_len (λ (m : recorded.Member). eqb m.slot (about one).slot) told.members) (length told.members) (found_in (about one).slot told.members k (recorded_in about one) there refl) in
      rw found refl

  -- the chain is a whole one
  pub begun_formed : (c : Chained S) (stores : List S) → c.id ≡ id → c.members ≡ map begun stores → c.links ≡ replicate 64 [] → c.submits ≡ replicate 64 [] → map (recorded_in about) stores ≡ told.members → All (λ s. (about s).geometry ≡ c.geometry) stores → IsFormed about c
  begun_formed c stores of_board are links submits told_are even = record {
    members = rw are (All-map (IsIn about c.id c.seat c.geometry) begun stores (λ k d within. record { board = sym of_board; sizes = even k d within; member = are_members stores told_are k d within; front = search rules; muster = search rules }));
    all_links = ap length links ∙ length-replicate {A = List Envelope} 64 [];
    all_submits = ap length submits ∙ length-replicate {A = List Envelope} 64 [];
    links_inside = rw links (none_inside (4096 * c.geometry.blocks));
    submits_inside = rw submits (none_inside (4096 * c.geometry.blocks));
  }

  -- ---- as which view they are shown

  abbrev shown : List ℕ → S → Member
  shown volume s = member_of (begun s) volume []

  -- as which members they are recorded
  recorded_shown : (volume : List ℕ) (stores : List S) → map recorded_as (map (shown volume) stores) ≡ map (recorded_in about) stores
  recorded_shown volume [] = refl
  recorded_shown volume (s ∷ stores) = ap (λ ms. recorded_in about s ∷ ms) (recorded_shown volume stores)

  -- and at which slots
  slots_shown : (volume : List ℕ) (stores : List S) → map slot_of (map (shown volume) stores) ≡ map (λ (m : recorded.Member). m.slot) (map (recorded_in about) stores)
  slots_shown volume [] = refl
  slots_shown volume (s ∷ stores) = ap (λ l. (about s).slot ∷ l) (slots_shown volume stores)

  -- each slot that is counted as recorded is counted as shown
  pub counted_shown : (mask : ℕ) (volume : List ℕ) (stores : List S) → All (λ (m : recorded.Member). counts mask m.slot ≡ true) (map (recorded_in about) stores) → All (λ d. counts mask d.slot ≡ true) (map disk_of (map (shown volume) stores))
  counted_shown mask volume [] all = All-nil (λ d. counts mask d.slot ≡ true)
  counted_shown mask volume (s ∷ stores) all =
      All-cons (λ d. counts mask d.slot ≡ true) (disk_of (shown volume s)) (map disk_of (map (shown volume) stores))
      (All-head (λ (m : recorded.Member). counts mask m.slot ≡ true) (recorded_in about s) (map (recorded_in about) stores) all)
      (counted_shown mask volume stores (All-tail (λ (m : recorded.Member). counts mask m.slot ≡ true) (recorded_in about s) (map (recorded_in about) stores) all))

  module _ (keeps : S → List ℕ → Type 0) (may_leave_now : S → List ℕ → Type 0) (size front : ℕ) (volume : List ℕ) where
    -- what is asked of a store
    pub record Fits (s : S) : Type 0 where
      pub front_is : (about s).front ≡ front
      pub incarnation : 0 < (about s).incarnation
      pub whole : length volume ≡ size
      pub keeping : keeps s volume
      pub left : (c : List ℕ) → may_leave_now s c → Means (meaning_with (about s) volume) c

    pub begun_shown : (stores : List S) → All Fits stores → AllZip (IsShown about keeps may_leave_now size) (map begun stores) (map (shown volume) stores)
    begun_shown [] fits = search rules
    begun_shown (s ∷ stores) fits =
        let fit = All-head Fits s stores fits in (
          record {
            is = refl;
            whole = fit.whole;
            keeping = λ runs. fit.keeping;
            left = λ c may. (
              (about s).front,
              omega arith,
              omega arith,
              subst (λ v. Means (meaning_with (about s) v) c) (sym (ap (λ ks. fold patched volume (map (λ k. k.write) ks)) (take-nil ((about s).front - (about s).front)))) (fit.left c may),
            );
            durable = refl;
            behind = omega arith;
          },
          begun_shown stores (All-tail Fits s stores fits),
        )

    pub begun_idle : (stores : List S) → All Fits stores → All (IsIdle told front volume) (map (shown volume) stores)
    begun_idle stores fits = All-map (IsIdle told front volume) (shown volume) stores (λ k d within.
        let fit = fits k d within in
        record {
          incarnation = fit.incarnation;
          runs = refl;
          told = refl;
          turned = refl;
          free = refl;
          table = ap (λ f. record { forgotten = f; kept = [] }) fit.front_is;
          known = fit.front_is;
          volume_is = refl;
          waiting = refl;
          found = refl;
          demands = refl;
        })

    -- the chain begins so
    pub begins : (c : Chained S) (stores : List S) → c.id ≡ id → c.recorded ≡ told → c.before ≡ told → c.writing ≡ None → c.youngest ≡ youngest_of told.members → c.links ≡ replicate 64 [] → c.submits ≡ replicate 64 []
        → c.members ≡ map begun stores → map (recorded_in about) stores ≡ told.members → AreMembers told.members
        → c.words ≡ words_of front told.members → bytes_of c ≡ size → All Fits stores → (v : View) × Shows about keeps may_leave_now c v × IsBeginning front volume v
    begins c stores of_board now_is before_is writing youngest links submits are told_are members words sizes fits = (
      record { told = told_of c; recorded = c.recorded; before = c.before; writing = c.writing; youngest = c.youngest; joiner = None; members = map (shown volume) stores; links = link_at c.links; submits = link_at c.submits; kept = [] },
      record { told = refl; recorded = refl; before = refl; writing = refl; youngest = refl; members = rw (are, sizes) (begun_shown stores fits); links = refl; submits = refl },
      record {
        idle = rw now_is (begun_idle stores fits);
        slots = subst (AllPairs (λ slot other. slot ≢ other)) (sym (slots_shown volume stores ∙ ap (map (λ (m : recorded.Member). m.slot)) told_are))
            (pairs_map (λ (slot other : ℕ). slot ≢ other) (λ (m : recorded.Member). m.slot) told.members members.once);
        recorded_are = ap (λ (r : Record). r.members) now_is ∙ sym told_are ∙ sym (recorded_shown volume stores);
        dated = rw (youngest, now_is) (dated_all told.members);
        before_is = before_is ∙ sym now_is;
        not_writing = writing;
        no_joiner = refl;
        no_links = λ from to. ap (λ links. link_at links from to) links ∙ nothing_sent from to;
        no_submits = λ from to. ap (λ links. link_at links from to) submits ∙ nothing_sent from to;
        told = ap (λ w. w.front) words;
        mask = rw (ap (λ w. w.mask) words) (counted_shown (mask_of told.members) volume stores (rw told_are (mask_counts told.members 0)));
        gauges = rw (ap (λ w. w.gauges) words) (fronts_low front 0 (gauges_of front told.members) (gauges_low front told.members (replicate 8 0) (All-replicate (λ g. g ≤ front) 8 0 (omega arith))));
        no_receipts = ap (flat_map (λ m. receipts_of m.receipt)) are ∙ begun_gathers (λ m. receipts_of m.receipt) (λ s. refl) stores;
        no_fronts = ap (flat_map (λ m. fronts_of m.front)) are ∙ begun_gathers (λ m. fronts_of m.front) (λ s. refl) stores;
        no_musters = ap (flat_map (λ m. musters_of m.muster)) are ∙ begun_gathers (λ m. musters_of m.muster) (λ s. refl) stores;
        no_sessions = refl;
      },
    )
