-- What contracts see of a member's copy.
use Rattle.std.specs.Prelude.{◌≡◌, ◌||◌, ◌==◌, ℕ, Bool, false, length, replicate}
use Rattle.local_store.specs.About.{About}
use Rattle.rejoin_catchup.specs.Sending.{Sending, gave}

-- The member's known commit when it was noted last; what was given of its volume; whether a block was given again; and whether the member
-- went on unnoted.
pub record Seen : Type 0 where
  pub front : ℕ
  pub sender : Sending
  pub rests : Bool
  pub broken : Bool

-- at this front, of a volume of so many blocks, nothing was given yet
abbrev pub first_copy : (front blocks : ℕ) → Seen
first_copy front blocks = record { front = front; sender = record { given = 0; marks = replicate blocks false }; rests = false; broken = false }

-- it is of as many blocks as the volume of the store that tells this of itself
abbrev pub IsOf : About → Seen → Type 0
IsOf about copy = length copy.sender.marks ≡ about.geometry.blocks

-- each block was given once
abbrev pub has_given_all : Sending → Bool
has_given_all s = s.given == length s.marks

-- the block that was due was given; one that is given once each was, is given again
abbrev pub gave_next : Seen → Seen
gave_next copy = record copy { sender = gave copy.sender; rests = copy.rests || has_given_all copy.sender }
