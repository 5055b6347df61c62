-- How a chain begins.
use Rattle.std.specs.Prelude.{◌≡◌, ℕ, max, IfSome, None, Bool, true, List, All, fold, replicate, slice_get, slice_set}
use Rattle.board.specs.Mask.{with_slot}
use Rattle.board.specs.Seats.{BoardId}
use Rattle.configurations.specs.Record.{Record}
use Rattle.configurations.specs.declared.member.Member.{Member}
use Rattle.local_store.specs.About.{About}
use Rattle.chain_core.specs.Node.{first_state}
use Rattle.chain.specs.LoneBoard.{Words}
use Rattle.chain.specs.Member.{Linked}

-- the member of this store, which was told this record, with its Turn or without: all that the store holds is known
abbrev pub starting_of : {S : Type 0} → (S → About) → BoardId → Record → Bool → S → Linked S
starting_of about id chain turned store = record {
  node = record { store = store; state = first_state id chain turned (about store) };
  front = None;
  muster = None;
  receipt = None;
}

-- the member of this store in a chain that begins: nothing is on its way
abbrev pub beginning_of : {S : Type 0} → (S → About) → BoardId → Record → S → Linked S
beginning_of about id chain store = starting_of about id chain true store

-- the member whose store this is, as it is recorded
abbrev pub recorded_in : {S : Type 0} → (S → About) → S → Member
recorded_in about store = record { slot = (about store).slot; incarnation = (about store).incarnation }

-- all stores have one front and the same sizes
abbrev pub AreEven : {S : Type 0} → (S → About) → List S → Type 0
AreEven about stores = IfSome (slice_get stores 0) (λ first. All (λ store. ((about store).front ≡ (about first).front) × ((about store).geometry ≡ (about first).geometry)) stores)

-- the mask that counts the slots of these members
abbrev pub mask_of : List Member → ℕ
mask_of members = fold (λ mask m. with_slot mask m.slot) 0 members

-- the greatest of their incarnations
abbrev pub youngest_of : List Member → ℕ
youngest_of members = fold (λ youngest m. max youngest m.incarnation) 0 members

-- the gauges of their slots at this front, and the others at 0
abbrev pub gauges_of : ℕ → List Member → List ℕ
gauges_of front members = fold (λ gauges m. slice_set gauges m.slot front) (replicate 8 0) members

-- the words with which the board begins
abbrev pub words_of : ℕ → List Member → Words
words_of front members = record { front = front; mask = mask_of members; gauges = gauges_of front members }
