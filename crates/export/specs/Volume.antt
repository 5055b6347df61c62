-- What a volume's answers say.
use Rattle.std.specs.Prelude.{◌≡◌, ◌⊎◌, ◌<◌, ◌++◌, ℕ, List, [], ◌∷◌, Option, Some, IfSome, length}
use Rattle.board.specs.Seats.{BoardId}
use Rattle.flush_barrier.specs.Owed.{Owed}
use Rattle.flush_barrier.specs.Reply.{GivenReply}
use Rattle.flush_barrier.specs.declared.error_code.ErrorCode.{ErrorCode}
use Rattle.flush_barrier.specs.declared.error_code.ErrorCode.TheVariants.{Io, NoMemory}
use Rattle.nbd_session.specs.Demand.{IsAskedInside, asked_by, owed_by}
use Rattle.nbd_session.specs.declared.demand.Demand.{Demand}

-- the demand is of a token of the volume's board, and asks what lies in the volume
pub record IsForVolume (board : Option BoardId) (size : ℕ) (demand : Demand) : Type 0 where
  pub of_board : board ≡ Some (owed_by demand).board
  pub inside : IsAskedInside size (asked_by demand)

-- the reply refuses what was owed, with 5 or 12
pub record IsRefusalOf (owed : Owed) (reply : GivenReply) : Type 0 where
  pub session : reply.session ≡ owed.session
  pub cookie : reply.cookie ≡ owed.cookie
  pub error : (reply.error ≡ Some Io) ⊎ (reply.error ≡ Some NoMemory)
  pub payload : reply.payload ≡ []

-- of demands that were taken from a list's end, one after another, the reply refuses the last one
abbrev pub RefusesLast : List Demand → GivenReply → Type 0
RefusesLast [] reply = ⊥
RefusesLast (demand ∷ _) reply = IsRefusalOf (owed_by demand) reply

-- Demands were taken from a list's end, at least one where there was one; a reply refuses the one that was taken last.
pub record HasTaken (old new : List Demand) (refused : Option GivenReply) : Type 0 where
  pub taken : List Demand
  pub split : old ≡ new ++ taken
  pub some : 0 < length old → length new < length old
  pub refusal : IfSome refused (RefusesLast taken)
