-- The steps of a chain and of its record.
use Rattle.std.specs.Prelude.{◌≡◌, ℕ, zero, suc, ◌<◌, ◌≤◌, max, Bool, true, false, List, [], ◌∷◌, ◌++◌, map}
use Rattle.version_table.specs.Held.{forgotten_to}
use Rattle.chain_model.specs.Replicas.{Hop, Replica, Message, Now, Old, Past, Put, Stage, Turn, pass_on, reach, send_again, unknown}
use Rattle.version_table.specs.declared.kept.Kept.{Kept}
use Rattle.chain_model.specs.Turning.{leads, turned_of}

-- ---- a member

abbrev pub applied : Kept → Replica → Replica
applied p m = record m { table = record m.table { kept = m.table.kept ++ p ∷ [] } }

abbrev pub committed : ℕ → Replica → Replica
committed p m = record m { table = forgotten_to m.table p }

abbrev pub knowing : ℕ → Replica → Replica
knowing k m = record m { known = max m.known k }

abbrev pub turned : Stage → Stage
turned (Now t) = Now true
turned (Old t) = Old true
turned Past = Past

-- ---- what a step does to the chain from its member on

-- so many members down the chain
abbrev pub Down : ℕ → (List Hop → List Hop → Type 0) → List Hop → List Hop → Type 0
Down zero Becomes old new = Becomes old new
Down (suc i) Becomes [] new = ⊥
Down (suc i) Becomes (h ∷ hs) new = (rest : List Hop) × (new ≡ h ∷ rest) × Down i Becomes hs rest

abbrev pub IsRunning : Hop → Type 0
IsRunning h = h.member.stopped ≡ false

-- a Put that it has, and a second Turn, are passed over
abbrev pub IsPassed : Replica → Message → Type 0
IsPassed m (Put p) = p.number ≤ reach m
IsPassed m Turn = turned_of m.stage ≡ true

abbrev pub PassesOver : List Hop → List Hop → Type 0
PassesOver [] new = ⊥
PassesOver (h ∷ hs) new = (message : Message) × (rest : List Message) × IsRunning h × (h.lane ≡ message ∷ rest) × IsPassed h.member message × (new ≡ record h { lane = rest } ∷ hs)

-- the next one is applied, and sent on
abbrev pub Applies : List Hop → List Hop → Type 0
Applies [] new = ⊥
Applies (h ∷ hs) new = (p : Kept) × (rest : List Message) × IsRunning h × (h.lane ≡ Put p ∷ rest) × (p.number ≡ suc (reach h.member)) × (new ≡ record h { lane = rest; member = applied p h.member } ∷ pass_on h.member.stage p hs)

-- the Turn comes: what it doesn't know to be committed is sent again, and the Turn
abbrev pub TakesTurn : List Hop → List Hop → Type 0
TakesTurn [] new = ⊥
TakesTurn (h ∷ hs) new = (rest : List Message) × IsRunning h × (h.lane ≡ Turn ∷ rest) × (turned_of h.member.stage ≡ false)
    × (new ≡ record h { lane = rest; member = record h.member { stage = turned h.member.stage } } ∷ send_again h.member.stage (unknown h.member) hs)

abbrev pub Commits : ℕ → List Hop → List Hop → Type 0
Commits p [] new = ⊥
Commits p (h ∷ hs) new = (h.member.table.forgotten < p) × (p ≤ h.member.known) × (new ≡ record h { member = committed p h.member } ∷ hs)

abbrev pub Learns : ℕ → List Hop → List Hop → Type 0
Learns k [] new = ⊥
Learns k (h ∷ hs) new = new ≡ record h { member = knowing k h.member } ∷ hs

-- The tail of the chain that it was told raises the front to what it has applied; that it knows this front is a step of its own.
abbrev pub MayRaise : Hop → Type 0
MayRaise h = IsRunning h × (h.member.ends ≡ true) × (h.member.holds ≡ false) × (turned_of h.member.stage ≡ true)

abbrev pub Raises : ℕ → List Hop → List Hop → Type 0
Raises front [] new = ⊥
Raises front (h ∷ hs) new = MayRaise h × (front ≡ reach h.member) × (new ≡ h ∷ hs)

abbrev pub Stops : List Hop → List Hop → Type 0
Stops [] new = ⊥
Stops (h ∷ hs) new = new ≡ record h { member = record h.member { stopped = true } } ∷ hs

-- ---- being told

abbrev pub is_last : List Hop → Bool
is_last [] = true
is_last (h ∷ hs) = false

-- it was not told the recorded epoch
abbrev pub is_untold : Stage → Bool
is_untold (Now t) = false
is_untold (Old t) = true
is_untold Past = true

abbrev pub told : Bool → List Hop → Replica → Replica
told by_turn hs m = record m { stage = Now by_turn; ends = is_last hs; holds = false }

-- one that isn't the head learns the record: what is left of the epoch before isn't taken any more
abbrev pub IsTold : List Hop → List Hop → Type 0
IsTold [] new = ⊥
IsTold (h ∷ hs) new = IsRunning h × (is_untold h.member.stage ≡ true) × (new ≡ record h { lane = h.next; next = []; linked = true; member = told false hs h.member } ∷ hs)

-- the head has its Turn at once
abbrev pub HeadIsTold : List Hop → List Hop → Type 0
HeadIsTold [] new = ⊥
HeadIsTold (h ∷ hs) new =
    IsRunning h × (is_untold h.member.stage ≡ true) × (new ≡ record h { lane = h.next; next = []; linked = true; member = told true hs h.member } ∷ send_again (Now false) (unknown h.member) hs)

-- the head numbers a write
abbrev pub Numbers : Kept → List Hop → List Hop → Type 0
Numbers p [] new = ⊥
Numbers p (h ∷ hs) new = IsRunning h × (leads h.linked h.member.stage ≡ true) × (p.number ≡ suc (reach h.member)) × (new ≡ record h { member = applied p h.member } ∷ pass_on h.member.stage p hs)

-- ---- the record

-- one epoch on
abbrev pub shifted : Stage → Stage
shifted (Now t) = Old t
shifted (Old t) = Past
shifted Past = Past

abbrev pub moved : Bool → Hop → Hop
moved linked h = record h { linked = linked; member = record h.member { stage = shifted h.member.stage } }

abbrev pub kept : Hop → Hop
kept h = moved h.linked h

-- all that run were told the record before
abbrev pub AllTold : List Hop → Type 0
AllTold [] = Unit {0}
AllTold (h ∷ hs) = (IsRunning h → is_untold h.member.stage ≡ false) × AllTold hs

-- the record without the member at this place
abbrev pub without : ℕ → List Hop → List Hop
without i [] = []
without zero (m ∷ []) = []
without zero (m ∷ g ∷ hs) = moved false g ∷ map kept hs
without (suc i) (h ∷ hs) = moved h.linked h ∷ without i hs
