-- What contracts see of replies on the way to their mailboxes.
use Rattle.std.specs.Prelude.{◌++◌, ◌∷◌, [], ℕ, List}
use Rattle.flush_barrier.specs.Reply.{GivenReply}

-- the lists, one behind another
abbrev pub flat : {L A : Type 0} → (L → List A) → List L → List A
flat items [] = []
flat items (list ∷ lists) = items list ++ flat items lists

-- the replies, in the order in which they were given, and for how many lists more there is room
pub record OnTheWay : Type 0 where
  pub replies : List GivenReply
  pub room : ℕ
