-- A recorded chain whose members are told of it: what each has applied, and what is on its way to it.
use Rattle.std.specs.Prelude.{ℕ, Bool, true, false, List, [], ◌∷◌, ◌++◌, map}
use Rattle.version_table.specs.Held.{Held, applied_of, kept_after}
use Rattle.version_table.specs.declared.kept.Kept.{Kept}

-- what comes down the chain: a numbered write, and the Turn of an epoch
pub data Message : Type 0 where
  Put : (entry : Kept) → Message
  Turn : Message

-- what a member was told last, and whether the Turn of that has come: the recorded epoch; the one before; or neither
pub data Stage : Type 0 where
  Now : (turned : Bool) → Stage
  Old : (turned : Bool) → Stage
  Past : Stage

-- A member: whether it is the tail of the chain that it was told (`ends`), and what it has applied.
pub record Replica : Type 0 where
  pub stage : Stage
  pub stopped : Bool
  pub ends : Bool
  pub holds : Bool
  pub table : Held
  pub known : ℕ

-- A member, and what is on its way to it: `lane` are the messages of the epoch that it was told; `next` those of the recorded
-- epoch while it wasn't told that. `linked`: the one before it in the chain that it was told is the one before it here.
pub record Hop : Type 0 where
  pub lane : List Message
  pub next : List Message
  pub linked : Bool
  pub member : Replica

-- how many writes the member has applied
abbrev pub reach : Replica → ℕ
reach m = applied_of m.table

-- those that it doesn't know to be committed
abbrev pub unknown : Replica → List Kept
unknown m = kept_after m.table m.known

-- the Puts among the messages
abbrev pub puts_of : List Message → List Kept
puts_of [] = []
puts_of (Put p ∷ ms) = p ∷ puts_of ms
puts_of (Turn ∷ ms) = puts_of ms

-- ---- who feeds a list of messages

-- `Live`: the member above, with or without its Turn; `Silent`: nobody did yet; `Dead`: somebody did, and doesn't any more
pub data Feeder : Type 0 where
  Live : (turned : Bool) → Feeder
  Silent : Feeder
  Dead : Feeder

-- who feeds the lane of a member, by the stage of the one above, the link, and its own stage
abbrev pub lane_feeder : Stage → Bool → Stage → Feeder
lane_feeder (Now t) linked (Now own) = Live t
lane_feeder (Now t) linked (Old own) = Dead
lane_feeder (Now t) linked Past = Silent
lane_feeder (Old t) linked (Now own) = Silent
lane_feeder (Old t) true (Old own) = Live t
lane_feeder (Old t) false (Old own) = Dead
lane_feeder (Old t) linked Past = Silent
lane_feeder Past linked (Now own) = Silent
lane_feeder Past linked (Old own) = Dead
lane_feeder Past linked Past = Silent

-- who feeds what comes for it of the recorded epoch, while it wasn't told that
abbrev pub next_feeder : Stage → Stage → Feeder
next_feeder (Now t) (Now own) = Silent
next_feeder (Now t) (Old own) = Live t
next_feeder (Now t) Past = Live t
next_feeder (Old t) own = Silent
next_feeder Past own = Silent

-- ---- what a member sends on

abbrev pub sent : Feeder → Kept → List Message → List Message
sent (Live true) p ms = ms ++ Put p ∷ []
sent (Live false) p ms = ms
sent Silent p ms = ms
sent Dead p ms = ms

abbrev pub resent : Feeder → List Kept → List Message → List Message
resent (Live t) again ms = ms ++ map Put again ++ Turn ∷ []
resent Silent again ms = ms
resent Dead again ms = ms

-- the members below one of this stage, when it has applied a write
abbrev pub pass_on : Stage → Kept → List Hop → List Hop
pass_on s p [] = []
pass_on s p (h ∷ hs) = record h { lane = sent (lane_feeder s h.linked h.member.stage) p h.lane; next = sent (next_feeder s h.member.stage) p h.next } ∷ hs

-- when its Turn has come: it sends these again, and the Turn
abbrev pub send_again : Stage → List Kept → List Hop → List Hop
send_again s again [] = []
send_again s again (h ∷ hs) = record h { lane = resent (lane_feeder s h.linked h.member.stage) again h.lane; next = resent (next_feeder s h.member.stage) again h.next } ∷ hs
