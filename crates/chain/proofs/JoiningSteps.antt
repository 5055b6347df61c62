-- A disk joins: what is shown of the chain then, and what happened in it.
use Rattle.std.proofs.Common.{eqb, get_or, inl, inr, ◌≡◌, ◌≢◌, ℕ, suc, ◌+◌, ◌-◌, ◌*◌, ◌<◌, ◌≤◌, true, false, Option, None, Some, List, [], ◌∷◌, ◌++◌, length, map, refl, ap, sym, subst, ◌∙◌, arith, rules}
use Rattle.std.specs.Prelude.{All, AllPairs, fold, nat_le, slice_get}
use Rattle.std.specs.List.{AllZip, flat_map, position_or_len}
use Rattle.std.proofs.lemmas.Bool.{cases_Bool, eq-eqb, le-ltb, lt-ltb}
use Rattle.std.proofs.lemmas.List.{append-nil, append_assoc, map-append}
use Rattle.std.proofs.lemmas.List.Elements.{All-append, All-cons, All-head, All-nil, All-tail, All-weaker}
use Rattle.std.proofs.Math.Seq.{take-nil}
use Rattle.std.proofs.lemmas.Option.{same_Some}
use Rattle.board.specs.Mask.{counts}
use Rattle.board.specs.Seats.{BoardId}
use Rattle.configurations.specs.Record.{AreMembers, Record}
use Rattle.configurations.specs.declared.member.Member as recorded
use Rattle.gate_journal.specs.Receipt.{Receipt}
use Rattle.local_store.specs.About.{About, meaning_with}
use Rattle.local_store.specs.Meaning.{Means}
use Rattle.volume.specs.Writes.{patched}
use Rattle.volume.specs.declared.geometry.Geometry.{Geometry}
use Rattle.chain_steps.specs.Node.{NodeState, Taken, epoch_of}
use Rattle.chain_steps.specs.Place.{head_of, incarnation_in, is_head, is_it, is_member}
use Rattle.chain_steps.specs.Steps.{silent, starts, told, volume_at}
use Rattle.chain_core.specs.Node.{first_state}
use Rattle.world_model.specs.Backing.{Disk, IsBacked, IsOnDisk}
use Rattle.world_model.specs.Chain.{BoardInUse}
use Rattle.world_model.specs.Machine.{State}
use Rattle.world_model.specs.Requests.{Held}
use Rattle.chain_model.specs.Chain.{IsWithin, StandsFor}
use Rattle.chain_model.specs.Laws.{IsNewcomer, IsWith, joined_as}
use Rattle.chain_model.specs.Life.{BoardTells, IsCounted, IsToldOfDisks, JoinBegun, JoinEnded, JoinerCounted, MemberTold}
use Rattle.chain_model.specs.View.{Joiner, Member, View, disk_in, disk_of, disks_of, may_be_recorded, slot_of}
use Rattle.chain_model.proofs.JoinedSteps.{incarnation_last}
use Rattle.chain_model.proofs.Orderly.{committed_fronts}
use Rattle.chain_model.proofs.PlaceSteps.{is_head_first}
use Rattle.chain.specs.Chain.{Chained, IsFormed, IsIn, Shows, bytes_of, told_of}
use Rattle.chain.specs.Joining.{GoesJoining, HoldsAsTail, IsCopyAt, IsNobody, IsOfStore, IsStoreOf, IsWithOne, MayCountIn, joined_of}
use Rattle.chain.specs.LoneBoard.{counted_in, posted}
use Rattle.chain.specs.Member.{IsShown, Linked, fronts_of, musters_of, receipts_of}
use Rattle.chain.specs.Opening.{recorded_in}
use Rattle.chain.proofs.BeginningSteps.{found_in}
use Rattle.chain.proofs.CommitSteps.{gauge_raised, raised_on}
use Rattle.chain.proofs.MessageSteps.{node_is, stands_there, twin}
use Rattle.chain.proofs.RecordingSteps.{all_shown}
use Rattle.chain.proofs.WordSteps.{counts_it, counts_still}

-- ---- one more in a list

-- a list with something in it has a last
ends_with : {A : Type 0} (xs : List A) → 0 < length xs → (first : List A) × (last : A) × (xs ≡ first ++ last ∷ [])
ends_with [] some = absurd (omega (arith, some))
ends_with (x ∷ []) some = ([], x, refl)
ends_with (x ∷ y ∷ ys) some = let (first, last, is) = ends_with (y ∷ ys) (omega arith) in (x ∷ first, last, ap (λ l. x ∷ l) is)

flat_one_more : {A B : Type 0} (f : A → List B) (xs : List A) (x : A) → f x ≡ [] → flat_map f (xs ++ x ∷ []) ≡ flat_map f xs
flat_one_more f [] x none = ap (λ l. l ++ []) none
flat_one_more f (y ∷ ys) x none = ap (λ l. f y ++ l) (flat_one_more f ys x none)

zip_one_more : {A B : Type 0} (R : A → B → Type 0) (xs : List A) (ys : List B) (x : A) (y : B) → AllZip R xs ys → R x y → AllZip R (xs ++ x ∷ []) (ys ++ y ∷ [])
zip_one_more R [] [] x y all is = (is, search rules)
zip_one_more R [] (b ∷ ys) x y all is = absurd all
zip_one_more R (a ∷ xs) [] x y all is = absurd all
zip_one_more R (a ∷ xs) (b ∷ ys) x y all is = (all.0, zip_one_more R xs ys x y all.1 is)

last_there : {A : Type 0} (xs : List A) (x : A) → slice_get (xs ++ x ∷ []) (length xs) ≡ Some x
last_there [] x = refl
last_there (y ∷ ys) x = last_there ys x

-- of slots of their own, those before the last are others
others_than_last : (ms : List recorded.Member) (x : recorded.Member) → AllPairs (λ (a b : recorded.Member). a.slot ≢ b.slot) (ms ++ x ∷ []) → All (λ y. y ≢ x.slot) (map (λ (m : recorded.Member). m.slot) ms)
others_than_last [] x once = All-nil (λ y. y ≢ x.slot)
others_than_last (m ∷ ms) x once =
    All-cons (λ y. y ≢ x.slot) m.slot (map (λ (n : recorded.Member). n.slot) ms)
    (first_other ms m x once)
    (others_than_last ms x (λ i j d less within. once (suc i) (suc j) d (omega (arith, less)) (omega (arith, within))))
  where
    last_is : {A : Type 0} (ys : List A) (y d : A) → get_or (ys ++ y ∷ []) (length ys) d ≡ y
    last_is [] y d = refl
    last_is (z ∷ zs) y d = last_is zs y d

    longer : {A : Type 0} (ys : List A) (y : A) → length ys < length (ys ++ y ∷ [])
    longer [] y = omega arith
    longer (z ∷ zs) y = let rest = longer zs y in omega (arith, rest)

    first_other : (ns : List recorded.Member) (n y : recorded.Member) → AllPairs (λ (a b : recorded.Member). a.slot ≢ b.slot) (n ∷ ns ++ y ∷ []) → n.slot ≢ y.slot
    first_other ns n y pairs =
        let apart = pairs 0 (suc (length ns)) n (omega arith) (let more = longer ns y in omega (arith, more)) in
        subst (λ (m : recorded.Member). n.slot ≢ m.slot) (last_is ns y n) apart

-- ---- the slot is counted

-- no disk is at a slot at which nobody stands
disks_apart : (recorded : Record) (writing : Option Record) (slot : ℕ) (ms : List Member) → All (λ m. slot_of m ≢ slot) ms → All (λ (d : Disk). d.slot ≢ slot) (disks_of recorded writing ms)
disks_apart recorded writing slot [] all = All-nil (λ (d : Disk). d.slot ≢ slot)
disks_apart recorded writing slot (m ∷ ms) all =
    let rest = disks_apart recorded writing slot ms (All-tail (λ (x : Member). slot_of x ≢ slot) m ms all) in
    elim (cases_Bool (may_be_recorded recorded writing m.node)) [
      | inl here ↦
          let is : disk_in recorded writing m ≡ disk_of m ∷ [] = rw here refl in
          subst (λ ds. All (λ (d : Disk). d.slot ≢ slot) (ds ++ disks_of recorded writing ms)) (sym is)
          (All-cons (λ (d : Disk). d.slot ≢ slot) (disk_of m) (disks_of recorded writing ms) (All-head (λ (x : Member). slot_of x ≢ slot) m ms all) rest)
      | inr out ↦ let is : disk_in recorded writing m ≡ [] = rw out refl in subst (λ ds. All (λ (d : Disk). d.slot ≢ slot) (ds ++ disks_of recorded writing ms)) (sym is) rest
    ]

module _ {S : Type 0} (old : Chained S) (receipt : Receipt) where
  -- the chain once the receipt is posted, and its slot is counted
  abbrev pub counting : Chained S
  counting = record old { words = counted_in (posted old.words receipt) receipt.slot }

  counted_backed : (disks : List Disk) → All (λ (d : Disk). d.slot ≢ receipt.slot) disks
      → IsBacked (told_of old).front (told_of old).mask (told_of old).gauges (told_of old).receipts (told_of old).musters disks
      → IsBacked (told_of counting).front (told_of counting).mask (told_of counting).gauges (told_of counting).receipts (told_of counting).musters disks
  counted_backed disks apart is = record {
    mask_covers = All-weaker (λ (d : Disk). counts old.words.mask d.slot ≡ true) (λ d. counts (counted_in (posted old.words receipt) receipt.slot).mask d.slot ≡ true) (λ d. counts_still old.words.mask receipt.slot d.slot) disks is.mask_covers;
    gauges_backed = gauge_raised (IsOnDisk disks) receipt (λ front was. λ i d within same. absurd (apart i d within same)) 0 old.words.gauges receipt.slot (omega arith) is.gauges_backed;
    receipts_backed = is.receipts_backed;
    mustered = is.mustered;
  }

  counted_within : receipt.front ≤ old.words.front → IsWithin (told_of old).front (told_of old).gauges (told_of old).receipts (told_of old).musters
      → IsWithin (told_of counting).front (told_of counting).gauges (told_of counting).receipts (told_of counting).musters
  counted_within low is = record {
    gauges_within = gauge_raised (λ r. r.front ≤ old.words.front) receipt (λ front was. raised_on front receipt.front old.words.front was low) 0 old.words.gauges receipt.slot (omega arith) is.gauges_within;
    receipts_within = is.receipts_within;
    musters_within = is.musters_within;
  }

-- ---- the newcomer in the record

module _ {S : Type 0} (about : S → About) (id : BoardId) (store : S) (now next : Record) (were : AreMembers now.members) (are : AreMembers next.members)
    (members : next.members ≡ now.members ++ recorded_in about store ∷ []) (epoch : next.epoch ≡ suc now.epoch) where
  abbrev slot : ℕ
  slot = (about store).slot

  others : All (λ y. y ≢ slot) (map (λ (m : recorded.Member). m.slot) now.members)
  others = others_than_last now.members (recorded_in about store) (subst (AllPairs (λ (a b : recorded.Member). a.slot ≢ b.slot)) members are.once)

  -- it is in it
  pub its_place : is_member (joined_of about id next store).node.state.place ≡ true
  its_place =
      let there : slice_get next.members (length now.members) ≡ Some (recorded_in about store) = ap (λ ms. slice_get ms (length now.members)) members ∙ last_there now.members (recorded_in about store) in
      let found = lt-ltb (position_or_len (λ (m : recorded.Member). eqb m.slot slot) next.members) (length next.members)
      (found_in slot next.members (length now.members) (recorded_in about store) there refl) in
      rw found refl

  its_incarnation : incarnation_in next slot ≡ Some (about store).incarnation
  its_incarnation = subst (λ ms. incarnation_in (record { epoch = next.epoch; members = ms }) slot ≡ Some (about store).incarnation) (sym members) (incarnation_last next.epoch now.members (recorded_in about store) others)

  -- it isn't its head
  not_head : is_head (record { slot = slot; chain = next }) ≡ false
  not_head = elim (cases_Bool (is_head (record { slot = slot; chain = next }))) [
    | inl head ↦ absurd (by now.members were.some members others (is_head_first next slot head))
    | inr other ↦ other
  ]
    where
      by : (ms : List recorded.Member) → 0 < length ms → next.members ≡ ms ++ recorded_in about store ∷ [] → All (λ y. y ≢ slot) (map (λ (m : recorded.Member). m.slot) ms) → head_of next ≡ Some slot → ⊥
      by [] some is apart head = absurd (omega (arith, some))
      by (m ∷ ms) some is apart head =
          let first : Some m.slot ≡ Some slot = ap (λ l. head_of (record { epoch = next.epoch; members = l })) (sym is) ∙ head in
          All-head (λ y. y ≢ slot) m.slot (map (λ (n : recorded.Member). n.slot) ms) apart (same_Some m.slot slot first)

  -- It was told the chain before, in which it isn't, and is told this one: it sends nothing, and waits for its Turn.
  pub told_next : told next (first_state id now true (about store)) ≡ Taken (silent (first_state id next false (about store)))
  told_next =
      let late : nat_le next.epoch now.epoch ≡ false = rw epoch (le-ltb now.epoch now.epoch (omega arith)) in
      let its : is_it (about store).incarnation (incarnation_in next slot) ≡ true = ap (is_it (about store).incarnation) its_incarnation ∙ eq-eqb (about store).incarnation (about store).incarnation refl in
      rw (late, its, not_head) refl

-- ---- what is so of the chain then

module _ {S : Type 0} (about : S → About) (old : Chained S) (store : S) (next : Record) where
  -- the chain once the record with the newcomer is the recorded one
  abbrev pub ended : Chained S
  ended = record old {
    recorded = next;
    before = old.recorded;
    writing = None;
    youngest = (about store).incarnation;
    members = old.members ++ joined_of about old.id next store ∷ [];
  }

  pub joined_formed : AreMembers old.recorded.members → AreMembers next.members → IsWithOne about store old next → IsFormed about old → IsFormed about ended
  joined_formed were are follows formed = record {
    members = All-append (IsIn about old.id old.seat old.geometry) old.members (joined_of about old.id next store ∷ []) formed.members
        (All-cons (IsIn about old.id old.seat old.geometry) (joined_of about old.id next store) []
        (record { board = refl; sizes = follows.sizes; member = its_place about old.id store old.recorded next were are follows.members follows.epoch; front = search rules; muster = search rules })
        (All-nil (IsIn about old.id old.seat old.geometry)));
    all_links = formed.all_links;
    all_submits = formed.all_submits;
    links_inside = formed.links_inside;
    submits_inside = formed.submits_inside;
  }

  -- it uses nothing of the board
  told_with_it : told_of ended ≡ told_of old
  told_with_it =
      rw (flat_one_more (λ (m : Linked S). fronts_of m.front) old.members (joined_of about old.id next store) refl, flat_one_more (λ (m : Linked S). musters_of m.muster) old.members (joined_of about old.id next store) refl, flat_one_more (λ (m : Linked S). receipts_of m.receipt) old.members (joined_of about old.id next store) refl)
      refl

-- ---- what happens

module _ {S : Type 0} (about : S → About) (keeps : S → List ℕ → Type 0) (may_leave_now : S → List ℕ → Type 0) (old : Chained S) (v : View) (shows : Shows about keeps may_leave_now old v) where
  abbrev GoesTo : Chained S → (Option Joiner → Type 0) → List (List Held) → Type 0
  GoesTo new Is more = (w : View) × Shows about keeps may_leave_now new w × Is w.joiner × GoesJoining (bytes_of old) v w more

  -- the slot is counted, and then the joiner is
  pub counts_in_goes : (s : State) → StandsFor (bytes_of old) v s → (at : ℕ) (store : S) (receipt : Receipt) → MayCountIn about at store receipt old → v.joiner ≡ None
      → IsCopyAt keeps at store old → GoesTo (counting old receipt) (IsOfStore about keeps store) []
  counts_in_goes s stands at store receipt may alone copy =
      let node = node_is about keeps may_leave_now old at may.holder may.here v s shows stands in
      let t = twin about keeps may_leave_now old at may.holder may.here v s shows stands in
      let there = stands_there about keeps may_leave_now old at may.holder may.here v s shows stands in
      let held : List ℕ = volume_at t.own.volume may.holder.node.state may.holder.node.state.known in
      let joiner : Joiner = record { slot = (about store).slot; incarnation = (about store).incarnation; front = (about store).front; volume = held } in
      let mid : View = record v { told = told_of (counting old receipt) } in
      let w : View = record mid { joiner = Some joiner } in
      let runs : t.own.node.stopped ≡ None = ap (λ (n : NodeState). n.stopped) node ∙ may.holding.runs in
      let known : t.own.node.known ≡ (about store).front = ap (λ (n : NodeState). n.known) node ∙ may.holding.known in
      let slot : receipt.slot ≡ (about store).slot = ap (λ (r : Receipt). r.slot) may.its in
      let front : receipt.front ≡ (about store).front = ap (λ (r : Receipt). r.front) may.its in
      let low : receipt.front ≤ old.words.front =
      let fronts = committed_fronts (bytes_of old) v t.over t.own t.under s there runs in
      let told : v.told.front ≡ old.words.front = ap (λ (b : BoardInUse). b.front) shows.told in
      let committed = fronts.1 in omega (arith, committed, known, front, told) in
      let apart : All (λ m. slot_of m ≢ (about store).slot) v.members = all_shown about keeps may_leave_now (bytes_of old) (λ n. n.place.slot ≢ (about store).slot) old.members v.members shows.members may.new.apart in
      let tells : IsToldOfDisks v mid = record {
        told = told_of (counting old receipt);
        front = sym (ap (λ (b : BoardInUse). b.front) shows.told);
        within = λ is. counted_within old receipt low (subst (λ (b : BoardInUse). IsWithin b.front b.gauges b.receipts b.musters) shows.told is);
        joiner = λ j here. let no : None ≡ Some j = sym alone ∙ here in cc;
        backed = λ is. counted_backed old receipt (disks_of v.recorded v.writing v.members)
            (disks_apart v.recorded v.writing receipt.slot v.members (subst (λ n. All (λ m. slot_of m ≢ n) v.members) (sym slot) apart))
            (subst (λ (b : BoardInUse). IsBacked b.front b.mask b.gauges b.receipts b.musters (disks_of v.recorded v.writing v.members)) shows.told is);
        fronts = λ all. subst (λ (b : BoardInUse). All (λ f. f ≤ b.front) b.fronts) shows.told all;
        are = refl;
      } in
      let counted_so : IsCounted mid w = record {
        above = t.over;
        tail = t.own;
        below = t.under;
        joiner = joiner;
        were = t.are;
        runs = runs;
        holds = ap (λ (n : NodeState). n.holds) node ∙ may.holding.holds;
        front = sym known;
        volume = ap (volume_at t.own.volume may.holder.node.state) may.holding.known ∙ ap (λ (n : NodeState). volume_at t.own.volume n (about store).front) (sym node);
        incarnation = subst (λ y. y < (about store).incarnation) (sym shows.youngest) may.new.incarnation;
        apart = apart;
        rests = λ i d lt on. (
          all_shown about keeps may_leave_now (bytes_of old) (λ n. n.stopped ≡ None → epoch_of n ≡ v.recorded.epoch) old.members v.members shows.members
              (subst (λ (r : Record). All (λ (m : Linked S). m.node.state.stopped ≡ None → epoch_of m.node.state ≡ r.epoch) old.members) (sym shows.recorded) may.settled.told) i d lt on,
          all_shown about keeps may_leave_now (bytes_of old) HoldsAsTail old.members v.members shows.members may.settled.holds i d lt on,
        );
        counted = subst (λ n. counts (counting old receipt).words.mask n ≡ true) slot (counts_it old.words.mask receipt.slot);
        alone = alone;
        none = shows.writing ∙ may.settled.none;
        are = refl;
      } in (
        w,
        record { told = refl; recorded = shows.recorded; before = shows.before; writing = shows.writing; youngest = shows.youngest; members = shows.members; links = shows.links; submits = shows.submits },
        record { slot = refl; incarnation = refl; front = refl; keeping = copy may.holder may.here t.own.volume (t.fits.keeping may.holding.runs) },
        record {
          happenings = BoardTells ∷ JoinerCounted ∷ [];
          each = [] ∷ [] ∷ [];
          era = (mid, [], [] ∷ [], refl, (tells, refl), (w, [], [], refl, (counted_so, refl), (refl, refl)));
          all = refl;
          kept = refl;
          demands = sym (append-nil (map (λ (m : Member). m.demands) v.members));
        },
      )

  is_with : (store : S) (j : Joiner) (next : Record) → AreMembers old.recorded.members → IsStoreOf about keeps store j → IsWithOne about store old next → IsWith v j next
  is_with store j next were of follows =
      let (above, tail, is) = ends_with old.recorded.members were.some in
      let same : recorded_in about store ≡ joined_as j = rw (of.slot, of.incarnation) refl in
      record {
        later = follows.epoch ∙ ap (λ (r : Record). suc r.epoch) (sym shows.recorded);
        above = above;
        tail = tail;
        were = ap (λ (r : Record). r.members) shows.recorded ∙ is;
        are = follows.members ∙ ap (λ ms. ms ++ recorded_in about store ∷ []) is ∙ append_assoc above (tail ∷ []) (recorded_in about store ∷ []) ∙ ap (λ m. above ++ tail ∷ m ∷ []) same;
        incarnation = of.incarnation ∙ follows.incarnation;
      }

  module _ (store : S) (next : Record) (were : AreMembers old.recorded.members) (follows : IsWithOne about store old next) where
    -- the record with the joiner is being written
    pub begins_join_goes : old.writing ≡ None → IsOfStore about keeps store v.joiner → GoesTo (record old { writing = Some next }) (IsOfStore about keeps store) []
    begins_join_goes none = by v.joiner refl
      where
        by : (o : Option Joiner) → v.joiner ≡ o → IsOfStore about keeps store o → GoesTo (record old { writing = Some next }) (IsOfStore about keeps store) []
        by None is of = absurd of
        by (Some j) is of =
            let w : View = record v { writing = Some next } in (
              w,
              record { told = shows.told; recorded = shows.recorded; before = shows.before; writing = refl; youngest = shows.youngest; members = shows.members; links = shows.links; submits = shows.submits },
              subst (IsOfStore about keeps store) (sym is) of,
              record {
                happenings = JoinBegun ∷ [];
                each = [] ∷ [];
                era = (w, [], [], refl, (record { joiner = j; next = next; joins = is; follows = is_with store j next were of follows; none = shows.writing ∙ none; are = refl }, refl), (refl, refl));
                all = refl;
                kept = refl;
                demands = sym (append-nil (map (λ (m : Member). m.demands) v.members));
              },
            )

    -- it is recorded, and its member is told it
    pub ends_join_goes : AreMembers next.members → old.writing ≡ Some next → ((volume c : List ℕ) → keeps store volume → may_leave_now store c → Means (meaning_with (about store) volume) c)
        → ((volume : List ℕ) → keeps store volume → length volume ≡ 4096 * (about store).geometry.blocks) → IsOfStore about keeps store v.joiner → GoesTo (ended about old store next) IsNobody ([] ∷ [])
    ends_join_goes are begun means sizes = by v.joiner refl
      where
        by : (o : Option Joiner) → v.joiner ≡ o → IsOfStore about keeps store o → GoesTo (ended about old store next) IsNobody ([] ∷ [])
        by None is of = absurd of
        by (Some j) is of =
            let first : Member = record { node = first_state old.id v.recorded true (about store); volume = j.volume; demands = [] } in
            let last : Member = record first { node = first_state old.id next false (about store) } in
            let mid : View = record v { recorded = next; before = v.recorded; writing = None; youngest = j.incarnation; joiner = None; members = v.members ++ first ∷ [] } in
            let w : View = record mid { members = v.members ++ last ∷ [] } in
            let starts : IsNewcomer v.recorded j first = record {
              slot = sym of.slot;
              incarnation = sym of.incarnation;
              idle = record {
                incarnation = let date = follows.incarnation in let epoch = follows.epoch in omega (arith, date, epoch);
                runs = refl;
                told = refl;
                turned = refl;
                free = refl;
                table = ap (λ f. record { forgotten = f; kept = [] }) (sym of.front);
                known = sym of.front;
                volume_is = refl;
                waiting = refl;
                found = refl;
                demands = refl;
              };
            } in
            let shown : IsShown about keeps may_leave_now (bytes_of old) (joined_of about old.id next store) last = record {
              is = refl;
              whole = sizes j.volume of.keeping ∙ ap (λ (g : Geometry). 4096 * g.blocks) follows.sizes;
              keeping = λ runs. of.keeping;
              left = λ c may. (
                (about store).front,
                omega arith,
                omega arith,
                subst (λ bytes. Means (meaning_with (about store) bytes) c) (sym (ap (λ ks. fold patched j.volume (map (λ k. k.write) ks)) (take-nil ((about store).front - (about store).front)))) (means j.volume c of.keeping may),
              );
              durable = refl;
              behind = omega arith;
            } in
            let taken : told next first.node ≡ Taken (silent last.node) =
            subst (λ r. told next (first_state old.id r true (about store)) ≡ Taken (silent last.node)) (sym shows.recorded) (told_next about old.id store old.recorded next were are follows.members follows.epoch) in (
              w,
              record {
                told = shows.told ∙ sym (told_with_it about old store next);
                recorded = refl;
                before = shows.recorded;
                writing = refl;
                youngest = of.incarnation;
                members = zip_one_more (IsShown about keeps may_leave_now (bytes_of old)) old.members v.members (joined_of about old.id next store) last shows.members shown;
                links = shows.links;
                submits = shows.submits;
              },
              refl,
              record {
                happenings = JoinEnded ∷ MemberTold ∷ [];
                each = [] ∷ [] ∷ [];
                era = (
                  mid,
                  [],
                  [] ∷ [],
                  refl,
                  (record { joiner = j; next = next; member = first; joins = is; follows = is_with store j next were of follows; begun = shows.writing ∙ begun; starts = starts; are = refl }, refl),
                  (
                    w,
                    [],
                    [],
                    refl,
                    record {
                      above = v.members;
                      member = first;
                      below = [];
                      stepped = silent last.node;
                      links = mid.links;
                      were = refl;
                      taken = taken;
                      sent = record { others = λ from to apart. refl; its = λ to. sym (append-nil (mid.links (slot_of first) to)) };
                      out = refl;
                      are = refl;
                    },
                    (refl, refl),
                  ),
                );
                all = refl;
                kept = refl;
                demands = map-append (λ (m : Member). m.demands) v.members (last ∷ []);
              },
            )
