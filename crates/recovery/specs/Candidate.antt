-- The best disk so far.
use Rattle.std.specs.Prelude.{◌≡◌, ◌⊎◌, ℕ, ◌<◌, ◌≤◌, List, Option, Some, None}
use Rattle.configurations.specs.declared.member.Member.{Member}
use Rattle.recovery.specs.declared.returned.Returned.{Returned}
use Rattle.recovery.specs.declared.choice.Candidate.{Candidate}
use Rattle.recovery.specs.Choice.{IsRecorded}

-- it is the chain's, at the first seat that its member has
pub record IsCandidate (chain : List Member) (returned : List Returned) (c : Candidate) : Type 0 where
  pub is : IsRecorded chain returned c.place c.seat c.front
  pub same : (s f : ℕ) → IsRecorded chain returned c.place s f → f ≡ c.front
  pub first : (s f : ℕ) → IsRecorded chain returned c.place s f → c.seat ≤ s

-- at this place there is this candidate, or no disk of the chain
abbrev pub IsCandidateAt : List Member → List Returned → ℕ → Option Candidate → Type 0
IsCandidateAt chain returned place None = (s f : ℕ) → IsRecorded chain returned place s f → ⊥
IsCandidateAt chain returned place (Some c) = (c.place ≡ place) × IsCandidate chain returned c

-- it is the source among the disks before a place
pub record IsBest (chain : List Member) (returned : List Returned) (count : ℕ) (c : Candidate) : Type 0 where
  pub before : c.place < count
  pub is : IsRecorded chain returned c.place c.seat c.front
  pub greatest : (p s f : ℕ) → p < count → IsRecorded chain returned p s f → f ≤ c.front
  pub in_chain : (p s f : ℕ) → p < count → IsRecorded chain returned p s f → f ≡ c.front → c.seat ≤ s
  pub in_list : (p s f : ℕ) → p < count → IsRecorded chain returned p s f → f ≡ c.front → s ≡ c.seat → c.place ≤ p

-- the source among the disks before a place, where the chain has one of them
abbrev pub IsBestSoFar : List Member → List Returned → ℕ → Option Candidate → Type 0
IsBestSoFar chain returned count None = (p s f : ℕ) → p < count → IsRecorded chain returned p s f → ⊥
IsBestSoFar chain returned count (Some c) = IsBest chain returned count c

-- a greater front, or the same front and an earlier seat
abbrev pub Beats : Candidate → Candidate → Type 0
Beats c best = (best.front < c.front) ⊎ ((c.front ≡ best.front) × (c.seat < best.seat))
