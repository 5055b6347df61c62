-- What holds of a recorded chain while its members are told of it.
use Rattle.std.specs.Prelude.{◌≡◌, ◌⊎◌, ℕ, ◌≤◌, Bool, true, false, List, [], ◌∷◌, ◌++◌, length}
use Rattle.world_model.specs.Order.{AreNumberedFrom}
use Rattle.chain_model.specs.Replicas.{Dead, Feeder, Hop, Live, Replica, Message, Now, Old, Past, Silent, Stage, lane_feeder, next_feeder, puts_of, reach}
use Rattle.version_table.specs.declared.kept.Kept.{Kept}

-- ---- lists

-- the other list begins with this one
abbrev pub Begins : List Kept → List Kept → Type 0
Begins own above = (rest : List Kept) × (own ++ rest ≡ above)

-- the Puts are the end of that list, from a place on that the member has reached
pub record GoesOn (own : List Kept) (ms : List Message) (above : List Kept) : Type 0 where
  pub before : List Kept
  pub is : before ++ puts_of ms ≡ above
  pub reached : length before ≤ length own

-- Once the one above has its Turn, what it sent goes on to the end of its list, and before that it sent nothing. Of one that
-- doesn't send any more the messages go on to the end of what it had, with which the list above begins.
abbrev pub Fed : Feeder → List Kept → List Message → List Kept → Type 0
Fed (Live true) own ms above = GoesOn own ms above
Fed (Live false) own ms above = ms ≡ []
Fed Silent own ms above = ms ≡ []
Fed Dead own ms above = (last : List Kept) × Begins own last × Begins last above × GoesOn own ms last

-- the member has applied exactly these writes, of which the first are durable
pub record Made (own : List Kept) (m : Replica) : Type 0 where
  pub done : List Kept
  pub own_is : done ++ m.table.kept ≡ own
  pub durable : length done ≡ m.table.forgotten

-- a member below one of this list and stage; what is on its way to a stopped one doesn't matter
pub record Follows (above : List Kept) (a : Stage) (own : List Kept) (h : Hop) : Type 0 where
  pub made : Made own h.member
  pub begins : Begins own above
  pub lane : h.member.stopped ≡ false → Fed (lane_feeder a h.linked h.member.stage) own h.lane above
  pub next : h.member.stopped ≡ false → Fed (next_feeder a h.member.stage) own h.next above

abbrev pub Passes : List Kept → Stage → List Hop → Type 0
Passes above a [] = Unit {0}
Passes above a (h ∷ hs) = (own : List Kept) × Follows above a own h × Passes own h.member.stage hs

-- ---- stages

-- it sends in the recorded epoch
abbrev pub sending : Stage → Bool
sending (Now t) = t
sending (Old t) = false
sending Past = false

abbrev pub turned_of : Stage → Bool
turned_of (Now t) = t
turned_of (Old t) = t
turned_of Past = false

-- the tail of the told chain is the last here, or it holds; the Turn came to all above
pub record Stays (a : Stage) (h : Hop) (hs : List Hop) : Type 0 where
  pub heard : sending h.member.stage ≡ true → sending a ≡ true
  pub last : h.member.stopped ≡ false → h.member.ends ≡ true → (h.member.holds ≡ true) ⊎ (hs ≡ [])

abbrev pub Turns : Stage → List Hop → Type 0
Turns a [] = Unit {0}
Turns a (h ∷ hs) = Stays a h hs × Turns h.member.stage hs

-- ---- numbers

pub record Knows (front : ℕ) (m : Replica) : Type 0 where
  pub within : m.table.forgotten ≤ m.known
  pub known : m.known ≤ front
  pub has : front ≤ reach m

abbrev pub Fronts : ℕ → List Hop → Type 0
Fronts front [] = Unit {0}
Fronts front (h ∷ hs) = Knows front h.member × Fronts front hs

-- ---- together

-- the head numbers writes: it was the head of the chain that it was told
abbrev pub leads : Bool → Stage → Bool
leads linked (Now t) = true
leads linked (Old t) = linked
leads linked Past = false

-- the line is what the head has applied; while it takes what the removed head sent, it may be longer
abbrev pub Leads : List Kept → List Hop → Type 0
Leads line [] = Unit {0}
Leads line (h ∷ hs) = h.member.stopped ≡ false → leads h.linked h.member.stage ≡ true → (h.lane ≡ []) × (length line ≡ reach h.member)

-- The line is what the members of these hops have of the writes, in order; its first `front` ones are committed.
pub record Stands (front : ℕ) (line : List Kept) (hops : List Hop) : Type 0 where
  pub numbered : AreNumberedFrom 1 line
  pub within : front ≤ length line
  pub passes : Passes line Past hops
  pub leads : Leads line hops
  pub turns : Turns (Now true) hops
  pub fronts : Fronts front hops
