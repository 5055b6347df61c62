-- Stores that make a chain: lemmas.
use Rattle.std.proofs.Common.{◌≡◌, ℕ, ◌*◌, replicate, ◌<◌, ◌≤◌, List, [], ◌∷◌, length, map, get_or, refl, ap, sym, subst, ◌∙◌, arith}
use Rattle.std.specs.Prelude.{◌≢◌, All, IfSome, IsSome, None, slice_get, slice_index_or}
use Rattle.std.specs.List.{AllPairs, range_with_len}
use Rattle.std.proofs.lemmas.List.{get_or-map, length-map}
use Rattle.std.proofs.lemmas.List.Elements.{All-cons, All-head, All-nil, All-tail}
use Rattle.std.proofs.lemmas.List.FromFn.{get_or-map-range_with_len, length-map-range_with_len}
use Rattle.board.specs.Seats.{BoardId}
use Rattle.chain.specs.Chain.{Chained}
use Rattle.chain.specs.Chain as chain
use Rattle.chain.specs.LoneBoard.{Words}
use Rattle.chain.specs.Member.{Linked}
use Rattle.chain.specs.Opening.{AreEven, beginning_of, recorded_in, words_of}
use Rattle.clients.specs.Clients.{Sessions}
use Rattle.configurations.specs.Record.{AreMembers, Record}
use Rattle.configurations.specs.declared.member.Member.{Member}
use Rattle.disk_model.specs.Memory.{failures_of, given_of, left_since, may_be_left, moment_of}
use Rattle.disk_model.specs.contracts.memory.MemDiskDisk.TheImpl.{ghosts}
use Rattle.disk_model.specs.declared.memory.MemDisk.{MemDisk}
use Rattle.local_store.specs.About.{About, about_of}
use Rattle.local_store.specs.Store.{IsStored}
use Rattle.local_store.specs.declared.store.Store.{Store}
use Rattle.nbd_session.specs.declared.answer.Export.{Export}
use Rattle.volume.specs.declared.geometry.Geometry.{Geometry}
use Rattle.world.specs.World.{HasNoClients, Seen, Shows}
use Rattle.chain_model.specs.View.{View}
use Rattle.chain_model.specs.Laws.{IsBeginning}
use Rattle.world_model.specs.Machine.{State}
use Rattle.life.specs.Begun.{AreOnDisks, BeginsWith, export_of, first_about, stores_of}
use Rattle.life.specs.Headline.{ErasLead}
use Rattle.life.specs.Managed.{Managed}
use Rattle.life.specs.Plays.{DeedsLead}
use Rattle.life.specs.declared.answer.Answer.{Answer}
use Rattle.life.specs.declared.era.Answers.{Answers}
use Rattle.life.specs.declared.era.Deed.{Deed}
use Rattle.life.specs.declared.era.Era.{Era}

-- what is so of each is so of what they are mapped to
pub all_mapped : {A B : Type 0} (Q : B → Type 0) (f : A → B) (xs : List A) → All (λ x. Q (f x)) xs → All Q (map f xs)
all_mapped Q f [] all = All-nil Q
all_mapped Q f (x ∷ xs) all = All-cons Q (f x) (map f xs) (All-head (λ y. Q (f y)) x xs all) (all_mapped Q f xs (All-tail (λ y. Q (f y)) x xs all))

pub pairs_mapped : {A B : Type 0} (R : B → B → Type 0) (f : A → B) (xs : List A) → AllPairs (λ x y. R (f x) (f y)) xs → AllPairs R (map f xs)
pairs_mapped R f [] pairs = λ i j d below within. absurd (omega (arith, within))
pairs_mapped R f (x ∷ xs) pairs = λ i j d below within.
    let long = length-map (x ∷ xs) f in
    let one = get_or-map f (x ∷ xs) i x d (omega (arith, below, within, long)) in
    let other = get_or-map f (x ∷ xs) j x d (omega (arith, within, long)) in
    subst (λ b. R b (get_or (map f (x ∷ xs)) j d)) (sym one) (subst (R (f (get_or (x ∷ xs) i x))) (sym other) (pairs i j x below (omega (arith, within, long))))

-- the members whose stores these are, as they are recorded
pub are_members : {S : Type 0} (about : S → About) (stores : List S) → 0 < length stores → length stores ≤ 8 → AllPairs (λ one other. (about one).slot ≢ (about other).slot) stores
    → AreMembers (map (recorded_in about) stores)
are_members about stores some few slots =
    let long = length-map stores (recorded_in about) in
    record {
      some = omega (arith, long, some);
      few = omega (arith, long, few);
      once = pairs_mapped (λ (a b : Member). a.slot ≢ b.slot) (recorded_in about) stores slots;
    }

module _ {S : Type 0} (about : S → About) (geometry : Geometry) (n : ℕ) where
  abbrev AreFirst : List S → Type 0
  AreFirst stores = map about stores ≡ map (first_about geometry) (range_with_len 0 n)

  pub first_long : (stores : List S) → AreFirst stores → length stores ≡ n
  first_long stores are = sym (length-map stores about) ∙ ap length are ∙ length-map-range_with_len (first_about geometry) 0 n

  pub first_at : (stores : List S) → AreFirst stores → (k : ℕ) (d : S) → k < n → about (get_or stores k d) ≡ first_about geometry k
  first_at stores are k d below =
      let long = first_long stores are in
      sym (get_or-map about stores k d (about d) (omega (arith, long, below))) ∙ ap (λ l. get_or l k (about d)) are
      ∙ get_or-map-range_with_len (first_about geometry) 0 n k k (about d) (omega (arith, below)) (omega (arith, below))

  pub first_slots : (stores : List S) → AreFirst stores → AllPairs (λ one other. (about one).slot ≢ (about other).slot) stores
  first_slots stores are = λ i j d below within same.
      let long = first_long stores are in
      let one = ap (λ (a : About). a.slot) (first_at stores are i d (omega (arith, long, below, within))) in
      let other = ap (λ (a : About). a.slot) (first_at stores are j d (omega (arith, long, within))) in
      let e : i ≡ j = sym one ∙ same ∙ other in
      omega (arith, e, below)

  pub first_all : (Q : About → Type 0) (stores : List S) → AreFirst stores → ((k : ℕ) → Q (first_about geometry k)) → All (λ s. Q (about s)) stores
  first_all Q stores are each = λ k d within. let long = first_long stores are in subst Q (sym (first_at stores are k d (omega (arith, long, within)))) (each k)

  pub first_even : (stores : List S) → AreFirst stores → AreEven about stores
  first_even [] are = tt
  first_even (x ∷ xs) are =
      let long = first_long (x ∷ xs) are in
      let first = first_at (x ∷ xs) are 0 x (omega (arith, long)) in
      λ k d within.
      let is = first_at (x ∷ xs) are k d (omega (arith, long, within)) in
      (ap (λ (a : About). a.front) is ∙ sym (ap (λ (a : About). a.front) first), ap (λ (a : About). a.geometry) is ∙ sym (ap (λ (a : About). a.geometry) first))

  -- what is so of the first one's sizes and front
  pub from_first : (stores : List S) → AreFirst stores → 0 < n → (P : Geometry → ℕ → Type 0) → IfSome (slice_get stores 0) (λ s. P (about s).geometry (about s).front) → P geometry 0
  from_first [] are some P is = let long = first_long [] are in absurd (omega (arith, long, some))
  from_first (x ∷ xs) are some P is =
      let first = first_at (x ∷ xs) are 0 x some in
      subst (λ g. P g 0) (ap (λ (a : About). a.geometry) first) (subst (P (about x).geometry) (ap (λ (a : About). a.front) first) is)

-- a chain that begins has no clients
no_clients : (front : ℕ) (volume : List ℕ) (v : View) → IsBeginning front volume v → HasNoClients v
no_clients front volume v begun = record {
  none_wait = λ k d within. (begun.idle k d within).demands;
  none_kept = begun.no_sessions;
  alone = begun.no_joiner;
}

-- the world of a chain that begins
pub world_begins : {S : Type 0} (about : S → About) (keeps : S → List ℕ → Type 0) (may_leave_now : S → List ℕ → Type 0) (stores : List S) (told : Record) (c : Chained S) (w : Seen S)
    → IfSome (slice_get stores 0) (λ first. c.geometry ≡ (about first).geometry)
    → IfSome (slice_get stores 0) (λ first. c.words ≡ words_of (about first).front told.members)
    → ((volume : List ℕ) → All (λ s. keeps s volume) stores → (v : View) × chain.Shows about keeps may_leave_now c v × IsBeginning c.words.front volume v)
    → w.chain ≡ c → w.sessions ≡ record { board = c.id; export = export_of c.geometry; clients = [] }
    → ((v : View) → chain.Shows about keeps may_leave_now c v → HasNoClients v → Shows about keeps may_leave_now w v)
    → c.members ≡ map (beginning_of about c.id told) stores
    → IfSome (slice_get stores 0) (λ first. (volume : List ℕ) → All (λ s. keeps s volume) stores → BeginsWith about keeps may_leave_now (about first).geometry (about first).front volume w)
world_begins about keeps may_leave_now [] told c w sizes words begins is sessions shows members = tt
world_begins about keeps may_leave_now (x ∷ xs) told c w sizes words begins is sessions shows members = λ volume all.
    let (v, shown, begun) = begins volume all in
    record {
      view = v;
      shows = shows v shown (no_clients c.words.front volume v begun);
      begins = subst (λ n. IsBeginning n volume v) (ap (λ (ws : Words). ws.front) words) begun;
      sizes = ap (λ y. y.geometry) is ∙ sizes;
      export = ap (λ (s : Sessions). s.export) sessions ∙ ap export_of sizes;
      no_clients = ap (λ (s : Sessions). s.clients) sessions;
      runs = subst (All (λ m. m.node.state.stopped ≡ None)) (sym (ap (λ y. y.members) is ∙ members)) (all_mapped (λ m. m.node.state.stopped ≡ None) (beginning_of about c.id told) (x ∷ xs) (λ k d within. refl));
    }

-- the stores of a chain that begins are those that it was given
stores_kept : {S : Type 0} (about : S → About) (id : BoardId) (told : Record) (stores : List S) → map (λ (m : Linked S). m.node.store) (map (beginning_of about id told) stores) ≡ stores
stores_kept about id told [] = refl
stores_kept about id told (x ∷ xs) = ap (λ l. x ∷ l) (stores_kept about id told xs)

pub stores_begin : {S : Type 0} (about : S → About) (told : Record) (stores : List S) (c : Chained S) (w : Seen S) → c.members ≡ map (beginning_of about c.id told) stores → w.chain ≡ c → stores_of w ≡ stores
stores_begin {S = S} about told stores c w members is =
    ap (λ (h : Chained S). map (λ m. m.node.store) h.members) is ∙ ap (map (λ m. m.node.store)) members ∙ stores_kept about c.id told stores

pub disks_begin : {S : Type 0} (about : S → About) (told : Record) (stores : List S) (c : Chained S) (w : Seen S) → c.members ≡ map (beginning_of about c.id told) stores → AreEven about stores
    → All (λ s. 0 < (about s).incarnation) stores → IfSome (slice_get stores 0) (λ first. c.geometry ≡ (about first).geometry) → w.chain ≡ c → AreOnDisks about w
disks_begin {S = S} about told stores c w members even given sizes is =
    subst (λ (h : Chained S). All (λ m. (0 < (about m.node.store).incarnation) × ((about m.node.store).geometry ≡ h.geometry)) h.members) (sym is)
    (subst (All (λ m. (0 < (about m.node.store).incarnation) × ((about m.node.store).geometry ≡ c.geometry))) (sym members)
    (all_mapped (λ m. (0 < (about m.node.store).incarnation) × ((about m.node.store).geometry ≡ c.geometry)) (beginning_of about c.id told) stores (each stores even given sizes)))
  where
    each : (ss : List S) → AreEven about ss → All (λ s. 0 < (about s).incarnation) ss → IfSome (slice_get ss 0) (λ first. c.geometry ≡ (about first).geometry)
        → All (λ s. (0 < (about s).incarnation) × ((about s).geometry ≡ c.geometry)) ss
    each [] even given sizes = All-nil (λ s. (0 < (about s).incarnation) × ((about s).geometry ≡ c.geometry))
    each (x ∷ xs) even given sizes = λ k d within. (given k d within, (even k d within).1 ∙ sym sizes)

-- ---- stores on disks in memory

abbrev pub IsStore : Type 0
IsStore = Store MemDisk ghosts

abbrev pub about_of_store : IsStore → About
about_of_store s = about_of s.contents

-- it keeps a volume of zeros
abbrev pub keeps_zeros : Geometry → IsStore → Type 0
keeps_zeros geometry s = IsStored s.contents (replicate (4096 * geometry.blocks) 0) (given_of s.disk) (may_be_left s.disk)

abbrev pub keeps_volume : IsStore → List ℕ → Type 0
keeps_volume s volume = IsStored s.contents volume (given_of s.disk) (may_be_left s.disk)

abbrev pub leaves_now : IsStore → List ℕ → Type 0
leaves_now s = may_be_left s.disk

abbrev pub pends_in : IsStore → ℕ → Type 0
pends_in s block = IsSome (slice_index_or s.contents.pending block None)

abbrev pub moment_in : IsStore → ℕ
moment_in s = moment_of s.disk

abbrev pub left_in : IsStore → ℕ → List ℕ → Type 0
left_in s = left_since s.disk

abbrev pub failures_in : IsStore → ℕ
failures_in s = failures_of s.disk

abbrev pub disk_in : IsStore → MemDisk
disk_in s = s.disk

-- what is played over them
abbrev pub LeadOnDisks : List Deed → List Answer → Managed IsStore → Managed IsStore → Type 0
LeadOnDisks = DeedsLead (Unit {0}) about_of_store keeps_volume pends_in leaves_now moment_in left_in failures_in disk_in

abbrev pub ErasOnDisks : Export → List Era → List Answers → Managed IsStore → State → Managed IsStore → State → Type 0
ErasOnDisks = ErasLead (Unit {0}) about_of_store keeps_volume pends_in leaves_now moment_in left_in failures_in disk_in

pub first_begins : (geometry : Geometry) (n : ℕ) (stores : List IsStore) (w : Seen IsStore) → map about_of_store stores ≡ map (first_about geometry) (range_with_len 0 n) → 0 < n → All (keeps_zeros geometry) stores
    → IfSome (slice_get stores 0) (λ first. (volume : List ℕ) → All (λ s. keeps_volume s volume) stores → BeginsWith about_of_store keeps_volume leaves_now (about_of_store first).geometry (about_of_store first).front volume w)
    → BeginsWith about_of_store keeps_volume leaves_now geometry 0 (replicate (4096 * geometry.blocks) 0) w
first_begins geometry n stores w are some kept begins =
    from_first about_of_store geometry n stores are some (λ g front. (volume : List ℕ) → All (λ s. keeps_volume s volume) stores → BeginsWith about_of_store keeps_volume leaves_now g front volume w) begins
    (replicate (4096 * geometry.blocks) 0) kept
