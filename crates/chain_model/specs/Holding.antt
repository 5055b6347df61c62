-- A tail that holds the front, and a joiner that is recorded behind it.
use Rattle.std.specs.Prelude.{◌≡◌, ◌⊎◌, ℕ, ◌≤◌, true, false, List, [], ◌∷◌, map}
use Rattle.chain_model.specs.Replicas.{Hop, Old}
use Rattle.version_table.specs.declared.kept.Kept.{Kept}
use Rattle.chain_model.specs.TurningLaws.{Alike, Quietly}
use Rattle.chain_model.specs.Turning.{Stands}
use Rattle.chain_model.specs.TurningSteps.{AllTold, Down, HeadIsTold, IsRunning, IsTold, Learns, Numbers, Raises, is_untold, kept, moved, without}

-- one member, which isn't the tail of a chain before it is told the recorded one
abbrev pub IsJoiner : List Hop → Type 0
IsJoiner [] = ⊥
IsJoiner (j ∷ []) = is_untold j.member.stage ≡ true → j.member.ends ≡ false
IsJoiner (j ∷ g ∷ hs) = ⊥

-- the front stays at what it knows; only a joiner may stand behind it, once that is recorded
pub record IsHeld (front : ℕ) (h : Hop) (hs : List Hop) : Type 0 where
  pub known : h.member.known ≡ front
  pub alone : (hs ≡ []) ⊎ ((is_untold h.member.stage ≡ true) × IsJoiner hs)

abbrev pub Holders : ℕ → List Hop → Type 0
Holders front [] = Unit {0}
Holders front (h ∷ hs) = (IsRunning h → h.member.holds ≡ true → IsHeld front h hs) × Holders front hs

-- ---- steps

-- the tail takes the front as what it knows, and holds
abbrev pub Attaches : ℕ → List Hop → List Hop → Type 0
Attaches front [] new = ⊥
Attaches front (h ∷ hs) new = IsRunning h × (hs ≡ []) × (new ≡ record h { member = record h.member { known = front; holds = true } } ∷ [])

-- a member with a volume of so many writes, of the epoch before and turned, without a place in the chain of that
abbrev pub joiner : ℕ → Hop
joiner k = record { lane = []; next = []; linked = false; member = record { stage = Old true; stopped = false; ends = false; holds = false; table = record { forgotten = k; kept = [] }; known = k } }

-- the last one holds, if it runs
abbrev pub TailRests : List Hop → Type 0
TailRests [] = ⊥
TailRests (t ∷ []) = IsRunning t → t.member.holds ≡ true
TailRests (h ∷ g ∷ hs) = TailRests (g ∷ hs)

-- the record with a joiner of this front behind the last one
abbrev pub with_joiner : ℕ → List Hop → List Hop
with_joiner k [] = []
with_joiner k (t ∷ []) = moved t.linked t ∷ joiner k ∷ []
with_joiner k (h ∷ g ∷ hs) = moved h.linked h ∷ with_joiner k (g ∷ hs)

-- ---- laws

abbrev pub HoldersStay : Type 0
HoldersStay = (front i : ℕ) (line : List Kept) (old : List Hop) → Stands front line old → Holders front old →
    ((new : List Hop) → Down i Quietly old new → Holders front new)
    × ((new : List Hop) → Down i IsTold old new → Holders front new)
    × ((k : ℕ) (new : List Hop) → k ≤ front → Down i (Learns k) old new → Holders front new)
    × ((more : ℕ) (new : List Hop) → Down i (Raises more) old new → Holders more new)
    × ((p : Kept) (new : List Hop) → Numbers p old new → Holders front new)
    × ((new : List Hop) → HeadIsTold old new → Holders front new)
    × (AllTold old → Holders front (without i old) × Holders front (map kept old))
    × ((new : List Hop) → Alike old new → Holders front new)

abbrev pub AttachStands : Type 0
AttachStands = (front i : ℕ) (line : List Kept) (old new : List Hop) → Stands front line old → Holders front old → Down i (Attaches front) old new → Stands front line new × Holders front new

-- the joiner is of the committed front
abbrev pub JoinStands : Type 0
JoinStands = (front : ℕ) (line : List Kept) (hops : List Hop) → Stands front line hops → Holders front hops → AllTold hops → TailRests hops
    → Stands front line (with_joiner front hops) × Holders front (with_joiner front hops)
