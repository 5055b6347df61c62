-- Each step keeps what holds, and what follows from it.
use Rattle.std.specs.Prelude.{◌≡◌, ◌⊎◌, ℕ, zero, suc, ◌≤◌, Bool, true, false, Some, List, [], ◌∷◌, ◌++◌, length, map, slice_get}
use Rattle.chain_model.specs.Replicas.{Hop, Message, Now, Put, puts_of, reach}
use Rattle.version_table.specs.declared.kept.Kept.{Kept}
use Rattle.world_model.specs.Order.{AreNumberedFrom}
use Rattle.chain_model.specs.Turning.{Begins, GoesOn, Stands, sending}
use Rattle.chain_model.specs.TurningSteps.{AllTold, Applies, Commits, Down, HeadIsTold, IsRunning, IsTold, Learns, MayRaise, Numbers, PassesOver, Raises, Stops, TakesTurn, is_untold, kept, without}

-- a message is taken, a commit ends, or a member stops
abbrev pub Quietly : List Hop → List Hop → Type 0
Quietly old new = PassesOver old new ⊎ Applies old new ⊎ TakesTurn old new ⊎ Stops old new ⊎ ((p : ℕ) × Commits p old new)

abbrev pub QuietStands : Type 0
QuietStands = (front i : ℕ) (line : List Kept) (old new : List Hop) → Stands front line old → Down i Quietly old new → Stands front line new

-- a member learns of a committed front, by an Ack or since it raised it
abbrev pub LearnStands : Type 0
LearnStands = (front i k : ℕ) (line : List Kept) (old new : List Hop) → Stands front line old → k ≤ front → Down i (Learns k) old new → Stands front line new

-- one that may raise is the last of the recorded chain: so it is one at most, and all have what it raises to
abbrev pub RaiseStands : Type 0
RaiseStands = (front more i : ℕ) (line : List Kept) (old new : List Hop) → Stands front line old → Down i (Raises more) old new → (front ≤ more) × Stands more line new

abbrev pub OneRaises : Type 0
OneRaises = (front i : ℕ) (line : List Kept) (hops : List Hop) (h : Hop) → Stands front line hops → slice_get hops i ≡ Some h → MayRaise h → suc i ≡ length hops

abbrev pub NumberStands : Type 0
NumberStands = (front : ℕ) (p : Kept) (line : List Kept) (old new : List Hop) → Stands front line old → Numbers p old new → Stands front (line ++ p ∷ []) new

-- the head learns the record: what it lacks of the line is lost
abbrev pub HeadToldStands : Type 0
HeadToldStands = (front : ℕ) (line : List Kept) (old new : List Hop) → Stands front line old → HeadIsTold old new → (shorter : List Kept) × Begins shorter line × Stands front shorter new

abbrev pub ToldStands : Type 0
ToldStands = (front i : ℕ) (line : List Kept) (old new : List Hop) → Stands front line old → Down (suc i) IsTold old new → Stands front line new

-- the next record: without one member, or of the same
abbrev pub RecordStands : Type 0
RecordStands = (front i : ℕ) (line : List Kept) (hops : List Hop) → Stands front line hops → AllTold hops → Stands front line (without i hops) × Stands front line (map kept hops)

-- the same members; what is on its way to a stopped one doesn't matter
abbrev pub Alike : List Hop → List Hop → Type 0
Alike [] [] = Unit {0}
Alike [] (g ∷ gs) = ⊥
Alike (h ∷ hs) [] = ⊥
Alike (h ∷ hs) (g ∷ gs) = (g.member ≡ h.member) × (IsRunning h → g ≡ h) × Alike hs gs

abbrev pub AlikeStands : Type 0
AlikeStands = (front : ℕ) (line : List Kept) (old new : List Hop) → Stands front line old → Alike old new → Stands front line new

-- ---- what follows

-- of two that were told the recorded epoch: the Puts are the upper one's and go on from the lower one's list, or nothing was sent
abbrev pub Feeds : List Kept → List Kept → Hop → Hop → Type 0
Feeds above own h g = IsRunning g → is_untold g.member.stage ≡ false → (sending h.member.stage ≡ true → GoesOn own g.lane above) × (sending h.member.stage ≡ false → g.lane ≡ [])

-- a member's list is the line's, as far as it reaches, with all that is committed; it passes over a Put or applies it
abbrev pub MembersAgree : Type 0
MembersAgree = (front i : ℕ) (line : List Kept) (hops : List Hop) (h : Hop) → Stands front line hops → slice_get hops i ≡ Some h
    → (own : List Kept) × Begins own line × (length own ≡ reach h.member) × (front ≤ reach h.member)
    × ((p : Kept) (rest : List Message) → IsRunning h → h.lane ≡ Put p ∷ rest → p.number ≤ suc (reach h.member))

-- a later member's list begins that of an earlier one
abbrev pub ListsAreNested : Type 0
ListsAreNested = (front i : ℕ) (line : List Kept) (hops : List Hop) (h g : Hop) → Stands front line hops → slice_get hops i ≡ Some h → slice_get hops (suc i) ≡ Some g
    → (above own : List Kept) × (length above ≡ reach h.member) × (length own ≡ reach g.member) × Begins own above × Begins above line × Feeds above own h g

-- Puts are of the line, at their places: so a name stands at one number if it does in the line
abbrev pub IsOfLine : List Kept → List Message → Type 0
IsOfLine line ms = (start rest : List Kept) × ((start ++ puts_of ms) ++ rest ≡ line)

abbrev pub PutsAreOfLine : Type 0
PutsAreOfLine = (front i : ℕ) (line : List Kept) (hops : List Hop) (h : Hop) → Stands front line hops → slice_get hops i ≡ Some h → IsRunning h → IsOfLine line h.lane × IsOfLine line h.next

-- a chain starts turned, each with the same volume
abbrev pub fresh : ℕ → Bool → Hop
fresh k last = record { lane = []; next = []; linked = true; member = record { stage = Now true; stopped = false; ends = last; holds = false; table = record { forgotten = k; kept = [] }; known = k } }

abbrev pub started : ℕ → ℕ → List Hop
started k zero = []
started k (suc zero) = fresh k true ∷ []
started k (suc (suc n)) = fresh k false ∷ started k (suc n)

abbrev pub StartStands : Type 0
StartStands = (n : ℕ) (line : List Kept) → AreNumberedFrom 1 line → Stands (length line) line (started (length line) n)
