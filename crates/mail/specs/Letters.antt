-- What contracts see of the replies in a mailbox.
use Rattle.std.specs.Prelude.{Bool, List, Option}
use Rattle.flush_barrier.specs.Reply.{GivenReply}
use Rattle.flush_barrier.specs.declared.session_id.SessionId.{SessionId}

-- which session holds the box, if any does, the replies that wait for it, the oldest first, whether one was lost, and whether a thread
-- of the session's attends
pub record Held : Type 0 where
  pub holder : Option SessionId
  pub replies : List GivenReply
  pub lost : Bool
  pub attended : Bool
